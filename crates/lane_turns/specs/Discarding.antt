-- The handlers that are left when a session is over: all are destroyed by rising number of the
-- operation, and the drop of one that was initiated and never began is an event (Asio reference,
-- io_context::~io_context).
use Rattle.std.specs.Prelude.{◌≡◌, ℕ, ◌<◌, ◌≤◌, Bool, true, false, List, Option, Some, None, IfSome, IsSome, filter, length, map, not, slice_index_or, slice_set, ◌&&◌}
use Rattle.std.specs.List.{range_with_len}
use Rattle.std.specs.Option.{option_map}
use Rattle.asio_types.specs.declared.event.Event.{Event}
use Rattle.op_handlers.specs.Marks.{Marks}
use Rattle.session_script.specs.Script.{ScriptModel, is_op}
use Rattle.lane_map.specs.LaneNumbers.{home_lane, is_op_on, reactor_lane}
use Rattle.strand_core.specs.Hands.{Held, held_at}
use Rattle.lane_logs.specs.Drops.{dropped, has_call, is_left}
use Rattle.lane_logs.specs.LaneLog.{has_begun}
use Rattle.lane_logs.specs.Names.{SessionNames}

-- the handler of an operation, if it is held
abbrev pub held_in : {H : Type 0} → Option (Held H) → ℕ → Option H
held_in None op = None
held_in (Some hands) op = held_at hands op

-- the handler of an operation on a lane
abbrev pub held_on : {H : Type 0} → List (Option (Held H)) → ℕ → ℕ → Option H
held_on hands lane op = held_in (slice_index_or hands lane None) op

-- hands after the handler of an operation was destroyed
abbrev pub without : {H : Type 0} → ℕ → Option (Held H) → Option (Held H)
without op None = None
without op (Some hands) = Some (record hands { handlers = slice_set hands.handlers op None })

-- no handler of an operation is held on its lane
abbrev pub HoldsNone : {H : Type 0} → ScriptModel → List (Option (Held H)) → Type 0
HoldsNone script hands =
    (op : ℕ) → op < length script.acts → is_op script op ≡ true →
    IsSome (held_on hands (home_lane script op) op) → ⊥

-- what the logs of a session show, whose script has so many acts
pub record SeenView : Type 0 where
  pub events : List Event
  pub acts : ℕ

-- which acts some events have called, and which operations began in them
pub record AreSeen (events : List Event) (called begun : List Bool) : Type 0 where
  pub same : length begun ≡ length called
  pub called_so : (act : ℕ) → act < length called →
      slice_index_or called act false ≡ has_call act events
  pub begun_so : (op : ℕ) → op < length called →
      slice_index_or begun op false ≡ has_begun op events

-- an operation whose handler never ran
abbrev pub is_unrun : SessionNames → List Event → ℕ → Bool
is_unrun names events op = is_op names.script op && not (has_begun op events)

-- the handlers of the operations below a number were destroyed, each drop that is an event was
-- noted, and of the other operations that never ran the handlers are held, with the marks that are
-- named
pub record IsDiscarding {H : Type 0} (names : SessionNames) (marks : H → Marks)
    (events : List Event) (number : ℕ) (hands : List (Option (Held H))) (drops : List Event)
    : Type 0 where
  pub count : length hands ≡ reactor_lane names.script
  pub script : (lane : ℕ) →
      IfSome (slice_index_or hands lane None) (λ own. own.script ≡ names.script)
  pub spent : (lane op : ℕ) → op < number → held_on hands lane op ≡ None
  pub placed : (lane op : ℕ) → is_op_on names.script lane op ≡ false →
      held_on hands lane op ≡ None
  pub left : (op : ℕ) → number ≤ op → is_unrun names events op ≡ true →
      option_map (λ handler. (marks handler).drop)
      (held_on hands (home_lane names.script op) op)
      ≡ Some (names.drop op)
  pub noted : drops
      ≡ map (dropped names) (filter (is_left names events) (range_with_len 0 number))
