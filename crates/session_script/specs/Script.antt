-- What a script says, apart from how it is spelled or stored.
use Rattle.std.specs.Prelude.{ℕ, ◌+◌, Bool, true, false, ◌&&◌, ◌==◌, List, [], ◌∷◌, Option, Some, None, slice_get, if◌then◌else◌}
use Rattle.asio_types.specs.declared.code.Class.{Class}
use Rattle.asio_types.specs.declared.code.Class.TheVariants as class
use Rattle.asio_types.specs.declared.world.World.{World}
use Rattle.session_script.specs.declared.act.Act.{Act}
use Rattle.session_script.specs.declared.act.Act.TheVariants as act
use Rattle.session_script.specs.declared.round.Round.{Round}

-- where an act stands: in `open` itself, or in the branch of an operation for a class
abbrev pub Place : Type 0
Place = Option (ℕ × Class)

-- an act, and where it stands; its number is its index among all acts
pub record Entry : Type 0 where
  pub act : Act
  pub parent : Place

-- a whole script: its version, what it declares, the acts in text order, the world and the rounds
pub record ScriptModel : Type 0 where
  pub version : ℕ
  pub strands : ℕ
  pub timers : ℕ
  pub slots : ℕ
  pub guards : ℕ
  pub acts : List Entry
  pub world : World
  pub rounds : List Round

-- two classes are the same
abbrev pub same_class : Class → Class → Bool
same_class class.Ok class.Ok = true
same_class class.Abort class.Abort = true
same_class class.Other class.Other = true
same_class class.Ok class.Abort = false
same_class class.Ok class.Other = false
same_class class.Abort class.Ok = false
same_class class.Abort class.Other = false
same_class class.Other class.Ok = false
same_class class.Other class.Abort = false

-- two places are the same
abbrev pub same_place : Place → Place → Bool
same_place None None = true
same_place None (Some q) = false
same_place (Some p) None = false
same_place (Some p) (Some q) = (p.0 == q.0) && same_class p.1 q.1

-- the numbers of the acts that stand in a place, in text order; the first act of the list has
-- number n
abbrev pub numbers_in : Place → ℕ → List Entry → List ℕ
numbers_in place n [] = []
numbers_in place n (entry ∷ entries) =
    if same_place place entry.parent then n ∷ numbers_in place (n + 1) entries
    else numbers_in place (n + 1) entries

-- the acts of `open` itself
abbrev pub opening_of : ScriptModel → List ℕ
opening_of script = numbers_in None 0 script.acts

-- the acts of the branch of an operation for a class
abbrev pub branch_of : ScriptModel → ℕ → Class → List ℕ
branch_of script op class = numbers_in (Some (op, class)) 0 script.acts

-- the act with a number
abbrev pub act_of : ScriptModel → ℕ → Option Act
act_of script n = act_in (slice_get script.acts n)
  where
    act_in : Option Entry → Option Act
    act_in None = None
    act_in (Some entry) = Some entry.act

-- whether an act has a handler: a posting or an asynchronous operation
abbrev pub is_operation : Act → Bool
is_operation (act.Post p) = true
is_operation (act.Defer p) = true
is_operation (act.Dispatch p) = true
is_operation (act.Expires p q) = false
is_operation (act.ExpiresAt p q) = false
is_operation (act.Wait p q r s) = true
is_operation (act.Cancel p) = false
is_operation (act.CancelOne p) = false
is_operation (act.Emit p q) = false
is_operation (act.ReadSome p q r s t) = true
is_operation (act.ReadAll p q r s t) = true
is_operation (act.Until p q r s t u) = true
is_operation (act.WriteSome p q r s t) = true
is_operation (act.WriteAll p q r s t) = true
is_operation (act.Close p) = false
is_operation (act.Release p) = false
is_operation act.Stop = false

-- whether an act stops the context
abbrev pub is_stop : Act → Bool
is_stop act.Stop = true
is_stop _ = false

-- whether there is an act, and it passes a test
abbrev holds : (Act → Bool) → Option Act → Bool
holds test None = false
holds test (Some act) = test act

-- whether the act with a number has a handler
abbrev pub is_op : ScriptModel → ℕ → Bool
is_op script n = holds is_operation (act_of script n)

-- whether the act with a number stops the context
abbrev pub stops : ScriptModel → ℕ → Bool
stops script n = holds is_stop (act_of script n)

-- where the act with a number stands
abbrev pub parent_of : ScriptModel → ℕ → Place
parent_of script n = place_in (slice_get script.acts n)
  where
    place_in : Option Entry → Place
    place_in None = None
    place_in (Some entry) = entry.parent
