-- Steps of a task: receipts one after another, and why it ends.
use Rattle.std.proofs.Common.{◌≡◌, ℕ, ◌+◌, [], ◌∷◌, ◌++◌, Option, Some, None, sym, subst}
use Rattle.std.specs.Prelude.{IfNone, IfSome}
use Rattle.session_script.specs.Script.{ScriptModel}
use Rattle.lane_clock.specs.Knowledge.{StartOf, steps_at}
use Rattle.lane_clock.specs.Seats.{own}
use Rattle.lane_logs.specs.declared.receipt.Receipt.{Receipt}
use Rattle.lane_logs.specs.Receipts.{IsReceiptOf}
use Rattle.lane_turns.specs.declared.one.One.{One}
use Rattle.lane_turns.specs.declared.one.One.TheVariants as one
use Rattle.lane_turns.specs.Attempts.{WorkerState}
use Rattle.lane_turns.specs.LaneValues.{Tries}
use Rattle.lane_turns.specs.Runs.{HasPolled}
use Rattle.lane_turns.specs.Scanning.{GoesOn, SeatGoesOn}
use Rattle.lane_turns.specs.Workers.{WorkerView}
use Rattle.lane_turns.proofs.ScanLemmas.{on_and_on}
use Rattle.op_future.specs.declared.task_end.TaskEnd.{TaskEnd}
use Rattle.op_future.specs.declared.task_end.TaskEnd.TheVariants as end
use Rattle.op_future.specs.Steps.{EndsBehind, HasGot, HasReadNone, HasReadSome, IsOver, Party, WaitsFrom, WhyEnds, WhyGoesOn, party}
use Rattle.op_future.specs.Tasks.{TaskState}
use Rattle.op_future.proofs.GotLemmas.{from_none, from_on, from_one}

-- a seat that went on made all its steps
own_grows : (old new : WorkerView) → SeatGoesOn old new → StartOf (own old.pen.seat) (own new.pen.seat)
own_grows old new on =
    subst (λ n. StartOf (own old.pen.seat) (steps_at new.pen.seat.known n)) (sym on.number)
    (on.remembers old.pen.seat.number)

module _ {H X : Type 0} (script : ScriptModel) where
  -- the worker alone went on
  pub got_none : (old new : WorkerState H X) (task : TaskState) → GoesOn old new →
      HasGot script (party old task) (party new task)
  got_none old new task on = record { got = from_none script (own new.seat.pen.seat) task; on = on }

  pub got_one : (old new : WorkerState H X) (before after : TaskState) (receipt : Receipt) → GoesOn old new →
      IsReceiptOf script (own new.seat.pen.seat) receipt → after.receipts ≡ before.receipts ++ receipt ∷ [] →
      after.left + 1 ≡ before.left → HasGot script (party old before) (party new after)
  got_one old new before after receipt on is receipts left =
      record { got = from_one script (own new.seat.pen.seat) before after receipt is receipts left; on = on }

  pub got_on : (a b c : Party H X) → HasGot script a b → HasGot script b c → HasGot script a c
  got_on a b c first second =
      record {
        got =
            from_on script (own b.worker.seat.pen.seat) (own c.worker.seat.pen.seat) a.task b.task c.task
            (own_grows b.worker.seat c.worker.seat second.on.seat) first.got second.got;
        on = on_and_on a.worker b.worker c.worker first.on second.on;
      }

  -- receipts before and behind an attempt
  pub got_round : (a : Party H X) (before after last : WorkerState H X) (first second : TaskState) →
      HasGot script a (party before first) → GoesOn before after →
      HasGot script (party after first) (party last second) → HasGot script a (party last second)
  got_round a before after last first second found on more =
      got_on a (party before first) (party last second) found
      (got_on (party before first) (party after first) (party last second) (got_none before after first on) more)

  -- the worker had gone on before
  pub waits_on : (task : TaskState) (a b c : WorkerState H X) → GoesOn a b → WaitsFrom script task b c →
      WaitsFrom script task a c
  waits_on task a b c on waits =
      record { looking = waits.looking; since = on_and_on a b waits.looking on waits.since; none = waits.none }

  behind_on : (Did : WorkerState H X → WorkerState H X → Type 0) (a b c : Party H X) → GoesOn a.worker b.worker →
      EndsBehind script Did b c → EndsBehind script Did a c
  behind_on Did a b c on ends =
      record {
        before = ends.before;
        after = ends.after;
        since = on_and_on a.worker b.worker ends.before on ends.since;
        did = ends.did;
        waits = ends.waits;
      }

module _ {H X : Type 0} (t : Tries H X) (lanes : ℕ) where
  -- a task that is over ends so
  pub over_ends : (now : TaskEnd) (old new : Party H X) → IsOver t.terms.names.script now new.task →
      WhyEnds t lanes now old new
  over_ends end.Done old new is = is
  over_ends (end.Unfit op) old new is = is
  over_ends end.Ended old new is = absurd is
  over_ends end.Stopped old new is = absurd is
  over_ends end.Fault old new is = absurd is

  pub option_over : (answer : Option TaskEnd) (old new : Party H X) →
      IfSome answer (λ now. IsOver t.terms.names.script now new.task) →
      IfSome answer (λ now. WhyEnds t lanes now old new)
  option_over None old new is = is
  option_over (Some now) old new is = over_ends now old new is

  -- why it ends stays so where the worker had gone on before
  pub ends_on : (now : TaskEnd) (a b c : Party H X) → GoesOn a.worker b.worker → WhyEnds t lanes now b c →
      WhyEnds t lanes now a c
  ends_on end.Done a b c on why = why
  ends_on (end.Unfit op) a b c on why = why
  ends_on end.Ended a b c on why = behind_on t.terms.names.script HasReadNone a b c on why
  ends_on end.Stopped a b c on why = behind_on t.terms.names.script (HasPolled t lanes one.Stopped) a b c on why
  ends_on end.Fault a b c on why = behind_on t.terms.names.script (HasPolled t lanes one.Fault) a b c on why

  pub option_ends_on : (answer : Option TaskEnd) (a b c : Party H X) → GoesOn a.worker b.worker →
      IfSome answer (λ now. WhyEnds t lanes now b c) → IfSome answer (λ now. WhyEnds t lanes now a c)
  option_ends_on None a b c on why = why
  option_ends_on (Some now) a b c on why = ends_on now a b c on why

  -- an attempt behind which what is wanted wasn't found
  pub polled_ends : (answer : One) (a : Party H X) (before after : WorkerState H X) (c : Party H X) →
      GoesOn a.worker before → HasPolled t lanes answer before after →
      WaitsFrom t.terms.names.script c.task after c.worker →
      EndsBehind t.terms.names.script (HasPolled t lanes answer) a c
  polled_ends answer a before after c on polled waits =
      record { before = before; after = after; since = on; did = polled; waits = waits }

  -- nothing was found to do, and work is left
  pub nothing_goes_on : (read : Option TaskEnd) (a : Party H X) (before after looked : WorkerState H X) (c : Party H X)
      (task : TaskState) → GoesOn a.worker before → HasPolled t lanes one.Nothing before after →
      WaitsFrom t.terms.names.script task after looked → IfNone read (HasReadSome looked c.worker) →
      IfNone read (c.task ≡ task) → IfNone read (WhyGoesOn t lanes a c)
  nothing_goes_on (Some now) a before after looked c task on polled waits some same = some
  nothing_goes_on None a before after looked c task on polled waits some same =
      record {
        answer = one.Nothing;
        before = before;
        after = after;
        looked = looked;
        since = on;
        polled = polled;
        waits = subst (λ task. WaitsFrom t.terms.names.script task after looked) (sym same) waits;
        again = some;
      }
