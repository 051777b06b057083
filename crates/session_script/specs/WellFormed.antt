-- What holds of every script: its counts and numbers are within the limits of its version, and acts
-- stand under acts.
use Rattle.std.specs.Prelude.{◌≡◌, ℕ, suc, ◌<◌, ◌≤◌, ◌⊎◌, Bool, true, false, List, length, Option, Some, None, IfSome, slice_get}
use Rattle.std.specs.List.{All}
use Rattle.asio_types.specs.declared.code.Class.{Class}
use Rattle.asio_types.specs.declared.code.Class.TheVariants as class
use Rattle.asio_types.specs.declared.world.Line.{Line}
use Rattle.asio_types.specs.declared.world.What.{What}
use Rattle.asio_types.specs.declared.world.What.TheVariants as what
use Rattle.session_script.specs.declared.act.Act.{Act}
use Rattle.session_script.specs.declared.act.Act.TheVariants as act
use Rattle.session_script.specs.declared.round.Round.{Round}
use Rattle.session_script.specs.declared.parts.Header.{Header}
use Rattle.session_script.specs.declared.act.Bodies.{Bodies}
use Rattle.session_script.specs.declared.act.Bodies.TheVariants as bodies
use Rattle.session_script.specs.Script.{Place, Entry, ScriptModel}
use Rattle.session_script.specs.Limits.{limits_of}
use Rattle.session_script.specs.Acts.{bodies_of}
use Rattle.session_script.specs.Grammar.{are_released}

-- what stands before the world lines of a script
abbrev pub header_of : ScriptModel → Header
header_of script = record {
  version = script.version;
  limits = limits_of script.version;
  strands = script.strands;
  timers = script.timers;
  slots = script.slots;
  streams = script.world.streams;
  guards = script.guards;
}

-- from one to so many
abbrev pub IsSize : ℕ → ℕ → Type 0
IsSize most n = (1 ≤ n) × (n ≤ most)

-- a strand that is declared, or none
abbrev pub IsLane : Header → Option ℕ → Type 0
IsLane h strand = IfSome strand (λ n. n < h.strands)

-- a slot that is declared, or none, and a set of cancellation types
abbrev pub IsPlug : Header → Option ℕ → ℕ → Type 0
IsPlug h slot filter = IfSome slot (λ n. n < h.slots) × (filter ≤ 7)

-- what an act names is declared, and its numbers and bytes are within the limits
abbrev pub FitsAct : Header → Act → Type 0
FitsAct h (act.Post strand) = IsLane h strand
FitsAct h (act.Defer strand) = IsLane h strand
FitsAct h (act.Dispatch strand) = IsLane h strand
FitsAct h (act.Expires timer after) = (timer < h.timers) × (after ≤ h.limits.time)
FitsAct h (act.ExpiresAt timer at) = (timer < h.timers) × (at ≤ h.limits.time)
FitsAct h (act.Wait timer strand slot filter) =
    (timer < h.timers) × IsLane h strand × IsPlug h slot filter
FitsAct h (act.Cancel timer) = timer < h.timers
FitsAct h (act.CancelOne timer) = timer < h.timers
FitsAct h (act.Emit slot kinds) = (slot < h.slots) × (kinds ≤ 7)
FitsAct h (act.ReadSome stream size strand slot filter) =
    (stream < h.streams) × IsSize h.limits.size size × IsLane h strand × IsPlug h slot filter
FitsAct h (act.ReadAll stream size strand slot filter) =
    (stream < h.streams) × IsSize h.limits.size size × IsLane h strand × IsPlug h slot filter
FitsAct h (act.Until stream delimiter max strand slot filter) =
    (stream < h.streams) × IsSize h.limits.delimiter (length delimiter) × IsSize h.limits.size max
    × IsLane h strand × IsPlug h slot filter
FitsAct h (act.WriteSome stream bytes strand slot filter) =
    (stream < h.streams) × IsSize h.limits.size (length bytes) × IsLane h strand
    × IsPlug h slot filter
FitsAct h (act.WriteAll stream bytes strand slot filter) =
    (stream < h.streams) × IsSize h.limits.size (length bytes) × IsLane h strand
    × IsPlug h slot filter
FitsAct h (act.Close stream) = stream < h.streams
FitsAct h (act.Release guard) = guard < h.guards
FitsAct h act.Stop = Unit {0}

-- what a stream meets is within the limits
abbrev pub FitsWhat : Header → What → Type 0
FitsWhat h (what.Feed bytes) = IsSize h.limits.size (length bytes)
FitsWhat h what.End = Unit {0}
FitsWhat h what.Reset = Unit {0}
FitsWhat h (what.Room room) = IsSize h.limits.room room

abbrev pub FitsLine : Header → Line → Type 0
FitsLine h line = (line.time ≤ h.limits.time) × (line.stream < h.streams) × FitsWhat h line.what

abbrev pub FitsRound : Header → Round → Type 0
FitsRound h round = IsSize h.limits.workers round.workers

-- the branches of an act: a posting has the one of class Ok, an asynchronous operation one of each
-- class
abbrev pub has_branch : Bodies → Class → Bool
has_branch bodies.Nothing wanted = false
has_branch bodies.Posting class.Ok = true
has_branch bodies.Posting class.Abort = false
has_branch bodies.Posting class.Other = false
has_branch bodies.Operation wanted = true

-- an act that comes after so many stands in `open` or in a branch of an earlier act
abbrev pub HasParent : List Entry → ℕ → Place → Type 0
HasParent acts n None = Unit {0}
HasParent acts n (Some place) =
    (place.0 < n)
    × ((parent : Entry) × (slice_get acts place.0 ≡ Some parent)
    × (has_branch (bodies_of parent.act) place.1 ≡ true))

-- how deep a body lies, the body of `open` being 1
pub data IsNested (acts : List Entry) : Place → ℕ → Type 0 where
  in_open : IsNested acts None 1
  in_branch : {op : ℕ} {branch : Class} {parent : Entry} {depth : ℕ} →
      slice_get acts op ≡ Some parent → IsNested acts parent.parent depth →
      IsNested acts (Some (op, branch)) (suc depth)

-- the act with a number
pub record IsPlaced (h : Header) (acts : List Entry) (n : ℕ) (entry : Entry) : Type 0 where
  pub fits : FitsAct h entry.act
  pub parent : HasParent acts n entry.parent
  pub nested : (depth : ℕ) × (depth ≤ h.limits.nesting) × IsNested acts entry.parent depth

-- all acts
pub record IsForest (h : Header) (acts : List Entry) : Type 0 where
  pub count : length acts ≤ h.limits.acts
  pub placed : (n : ℕ) (entry : Entry) → slice_get acts n ≡ Some entry → IsPlaced h acts n entry

pub record IsWellFormed (script : ScriptModel) : Type 0 where
  pub version : (script.version ≡ 1) ⊎ (script.version ≡ 2)
  pub strands : script.strands ≤ (limits_of script.version).strands
  pub timers : script.timers ≤ (limits_of script.version).timers
  pub slots : script.slots ≤ (limits_of script.version).slots
  pub streams : script.world.streams ≤ (limits_of script.version).streams
  pub guards : script.guards ≤ (limits_of script.version).guards
  pub acts : IsForest (header_of script) script.acts
  pub line_count : length script.world.lines ≤ (limits_of script.version).lines
  pub lines : All (FitsLine (header_of script)) script.world.lines
  pub some_round : 1 ≤ length script.rounds
  pub round_count : length script.rounds ≤ (limits_of script.version).rounds
  pub rounds : All (FitsRound (header_of script)) script.rounds
  pub released : are_released script.guards script.acts ≡ true
