-- The handlers of one lane or of all, by the number of their operation.
use Rattle.std.specs.Prelude.{◌≡◌, ℕ, Bool, true, false, ◌&&◌, ◌==◌, List, [], ◌∷◌, Option, Some, None, IsSome, slice_get, if◌then◌else◌}
use Rattle.std.specs.Option.{option_map, option_flatten}
use Rattle.asio_types.specs.declared.code.Class.{Class}
use Rattle.asio_types.specs.declared.number.Lane.{Lane}
use Rattle.asio_types.specs.declared.number.Lane.TheVariants as lane
use Rattle.op_handlers.specs.Marks.{Marks}
use Rattle.op_handlers.specs.declared.call.Call.{Call}
use Rattle.session_script.specs.Script.{ScriptModel, is_op, parent_of}
use Rattle.session_script.specs.Lanes.{is_inline, lane_of}
use Rattle.strand_core.specs.declared.posted.Posted.{Posted}
use Rattle.strand_core.specs.declared.posted.Posted.TheVariants as posted

-- handlers of the operations of a script: at each number one, or nothing
pub record Held (H : Type 0) : Type 0 where
  pub script : ScriptModel
  pub handlers : List (Option H)

-- the handler at a number, if one is there
abbrev pub in_list : {H : Type 0} → List (Option H) → ℕ → Option H
in_list handlers n = option_flatten (slice_get handlers n)

-- the handler of an operation, if it is held
abbrev pub held_at : {H : Type 0} → Held H → ℕ → Option H
held_at hands op = in_list hands.handlers op

-- an operation that executes inside another one's execution
abbrev pub IsInlineOf : ScriptModel → ℕ → ℕ → Type 0
IsInlineOf script caller op =
    (class : Class) × (parent_of script op ≡ Some (caller, class)) × (is_inline script op ≡ true)

-- the handlers of all that execute inside an operation's execution
abbrev pub HasInlineOf : {H : Type 0} → ScriptModel → List (Option H) → ℕ → Type 0
HasInlineOf script handlers caller =
    (op : ℕ) → IsInlineOf script caller op → IsSome (in_list handlers op)

-- with the handler of an operation those of all that execute inside it
abbrev pub KeepsInline : {H : Type 0} → ScriptModel → List (Option H) → Type 0
KeepsInline script handlers =
    (op : ℕ) → IsSome (in_list handlers op) → HasInlineOf script handlers op

-- the handler in whose execution an operation executes, if there is one, is not held
abbrev pub CallerIsGone : {H : Type 0} → Held H → ℕ → Type 0
CallerIsGone hands op =
    (caller : ℕ) → IsInlineOf hands.script caller op → held_at hands caller ≡ None

-- two lanes are the same
abbrev pub same_lane : Lane → Lane → Bool
same_lane (lane.Strand a) (lane.Strand b) = a == b
same_lane (lane.Own a) (lane.Own b) = a == b
same_lane lane.Reactor lane.Reactor = true
same_lane (lane.Strand a) (lane.Own b) = false
same_lane (lane.Strand a) lane.Reactor = false
same_lane (lane.Own a) (lane.Strand b) = false
same_lane (lane.Own a) lane.Reactor = false
same_lane lane.Reactor (lane.Strand b) = false
same_lane lane.Reactor (lane.Own b) = false

-- whether an act is an operation of a lane
abbrev pub is_of_lane : ScriptModel → Lane → ℕ → Bool
is_of_lane script at n = is_op script n && same_lane (lane_of script n) at

-- whether an act is an operation of this lane, or of any where none is named
abbrev pub is_op_of : ScriptModel → Option Lane → ℕ → Bool
is_op_of script (Some lane) n = is_of_lane script lane n
is_op_of script None n = is_op script n

-- what is at a number where some operations are taken out of one list into another
abbrev pub taken_at : {H : Type 0} → Bool → Option H → Option H
taken_at is_taken handler = if is_taken then handler else None

abbrev pub left_at : {H : Type 0} → Bool → Option H → Option H
left_at is_taken handler = if is_taken then None else handler

-- the first of two, where it is there
abbrev pub or_other : {H : Type 0} → Option H → Option H → Option H
or_other (Some handler) other = Some handler
or_other None other = other

-- whether an operation begins among these calls
abbrev pub begins_among : ℕ → List Posted → Bool
begins_among n [] = false
begins_among n (posted.Begin op code size begun ∷ calls) =
    if op == n then true else begins_among n calls
begins_among n (posted.Call act ∷ calls) = begins_among n calls
begins_among n (posted.Back act ∷ calls) = begins_among n calls
begins_among n (posted.End op ran ∷ calls) = begins_among n calls

-- what the handler that is held of the operation of a call answers to it
abbrev pub HasRunMark : {H : Type 0} → (H → Marks) → Held H → Call → ℕ → Type 0
HasRunMark marks hands call mark =
    option_map (λ h. (marks h).run call) (held_at hands call.op) ≡ Some mark
