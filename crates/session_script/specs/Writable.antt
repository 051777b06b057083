-- What a script has to be, beside well formed, so that it is written as a text: its version has
-- words for its acts, they stand in text order, and the text isn't too long.
use Rattle.std.specs.Prelude.{◌≡◌, ℕ, ◌^◌, ◌<◌, ◌≤◌, ◌⊎◌, true, List, Option, Some, None, IsSome, length}
use Rattle.std.specs.List.{All}
use Rattle.asio_types.specs.declared.code.Class.{Class}
use Rattle.asio_types.specs.declared.code.Class.TheVariants as class
use Rattle.asio_types.specs.declared.world.What.{What}
use Rattle.asio_types.specs.declared.world.What.TheVariants as what
use Rattle.session_script.specs.declared.act.Act.{Act}
use Rattle.session_script.specs.declared.act.Act.TheVariants as act
use Rattle.session_script.specs.Script.{Place, ScriptModel, act_of, parent_of}
use Rattle.session_script.specs.Groups.{class_number}
use Rattle.session_script.specs.Limits.{most_bytes, limits_of}
use Rattle.session_script.specs.Acts.{bodies_of}
use Rattle.session_script.specs.Text.{IsLater, BelongsTo}
use Rattle.session_script.specs.WellFormed.{has_branch, IsNested}
use Rattle.session_script.specs.Spelling.{spelling_of}

abbrev pub AreBytes : List ℕ → Type 0
AreBytes bytes = All (λ b. b < 2 ^ 8) bytes

-- only version 2 has filters, and what is filtered comes through a slot
abbrev pub HasFilter : ℕ → Option ℕ → ℕ → Type 0
HasFilter version slot filter = (filter ≡ 7) ⊎ (IsLater version × IsSome slot)

-- the version has words for what an act has
abbrev pub HasFields : ℕ → Act → Type 0
HasFields version (act.Wait timer strand slot filter) = HasFilter version slot filter
HasFields version (act.ReadSome stream size strand slot filter) = HasFilter version slot filter
HasFields version (act.ReadAll stream size strand slot filter) = HasFilter version slot filter
HasFields version (act.Until stream delimiter max strand slot filter) =
    AreBytes delimiter × HasFilter version slot filter
HasFields version (act.WriteSome stream bytes strand slot filter) =
    AreBytes bytes × HasFilter version slot filter
HasFields version (act.WriteAll stream bytes strand slot filter) =
    AreBytes bytes × HasFilter version slot filter
HasFields version _ = Unit {0}

-- and for the act itself
abbrev pub HasWords : ℕ → Act → Type 0
HasWords version made = BelongsTo version made × HasFields version made

abbrev pub IsFedBytes : What → Type 0
IsFedBytes (what.Feed bytes) = AreBytes bytes
IsFedBytes _ = Unit {0}

-- in a branch of this operation or of a later one
abbrev pub StandsUnder : ℕ → Place → Type 0
StandsUnder op None = ⊥
StandsUnder op (Some at) = op ≤ at.0

-- Between an operation and an act of its branches stand none but acts under that operation, and its
-- branches come in the order ok, abort, other.
pub record IsInTextOrder (script : ScriptModel) : Type 0 where
  pub under : (op n m : ℕ) (branch : Class) → op < n → n < m →
      parent_of script m ≡ Some (op, branch) → StandsUnder op (parent_of script n)
  pub branches : (op n m : ℕ) (first second : Class) → n < m →
      parent_of script n ≡ Some (op, first) → parent_of script m ≡ Some (op, second) →
      class_number first ≤ class_number second

pub record IsWritable (script : ScriptModel) : Type 0 where
  pub words : (n : ℕ) (made : Act) → act_of script n ≡ Some made → HasWords script.version made
  pub fed : All (λ line. IsFedBytes line.what) script.world.lines
  pub order : IsInTextOrder script
  -- the bodies of an act lie deeper than the act, and an empty one is written too
  pub depth : (n depth : ℕ) (made : Act) → act_of script n ≡ Some made →
      has_branch (bodies_of made) class.Ok ≡ true →
      IsNested script.acts (parent_of script n) depth → depth < (limits_of script.version).nesting
  pub size : length (spelling_of script) ≤ most_bytes
