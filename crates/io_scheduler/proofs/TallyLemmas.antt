-- How many operations wait and execute, as events come.
use Rattle.std.proofs.Common.{arith, ap, refl, subst, sym, ◌∙◌}
use Rattle.std.proofs.lemmas.Bool.{ltb-true, true≢false}
use Rattle.std.specs.Prelude.{◌≡◌, ◌<◌, ◌≤◌, ℕ, ◌+◌, ◌==◌, ◌&&◌, not, Bool, true, false, List, [], ◌∷◌, ◌++◌, suc, zero, Option, Some, None, length, map, nat_lt}
use Rattle.std.specs.List.{list_all, slice_index_or, slice_set}
use Rattle.std.proofs.lemmas.List.Sums.{sum_by-set}
use Rattle.asio_types.specs.declared.code.Code.{Code}
use Rattle.asio_types.specs.declared.code.Code.TheVariants as code
use Rattle.io_rules.specs.declared.control.Control.{Control}
use Rattle.io_rules.specs.declared.event.Event.TheVariants as event
use Rattle.io_rules.specs.declared.limits.Limits.{Limits}
use Rattle.io_rules.specs.declared.name.Lane.{Lane}
use Rattle.io_rules.specs.declared.name.Lane.TheVariants as lane
use Rattle.io_rules.specs.declared.op.Op.{Op}
use Rattle.io_rules.specs.declared.op.Phase.{Phase}
use Rattle.io_rules.specs.declared.op.Wait.{Wait}
use Rattle.io_rules.specs.declared.op.Phase.TheVariants as phase
use Rattle.io_rules.specs.declared.name.Name.{Name}
use Rattle.io_rules.specs.declared.operation.Operation.{Operation}
use Rattle.io_rules.specs.declared.operation.Operation.TheVariants as operation
use Rattle.io_rules.specs.declared.request.Gone.{Gone}
use Rattle.io_rules.specs.declared.request.Gone.TheVariants as gone
use Rattle.io_rules.specs.declared.request.Marks.{Marks}
use Rattle.io_rules.specs.declared.spares.Spares.{Spares}
use Rattle.io_rules.specs.Calls.{is_lane_gone}
use Rattle.io_rules.specs.Changes.{is_out, streams_changed}
use Rattle.io_rules.specs.Executions.{MayBegin, MayEnd}
use Rattle.io_rules.specs.Completing.{streams_left}
use Rattle.io_rules.specs.Legal.{after}
use Rattle.io_rules.specs.Ops.{is_ready, is_running, op_at, with_phase}
use Rattle.io_rules.specs.Operations.{Target, is_posting}
use Rattle.io_rules.specs.Room.{most_numbers, numbers_left, one_if, place_given, place_given_by}
use Rattle.io_rules.specs.State.{ContextState, StreamState, TimerState, first_state, new_stream}
use Rattle.io_rules.specs.Timers.{earliest}
use Rattle.io_timers.specs.declared.pending.PendingWait.{PendingWait}
use Rattle.io_timers.specs.Pending.{Entry, Timers, expiry_by, next_wait, wait_of}
use Rattle.io_scheduler.specs.declared.waiting.Waiting.{Waiting}
use Rattle.io_rules.specs.Stopping.{IsAtRest, has_no_ops}
use Rattle.io_rules.specs.Strands.{entry_of_dispatch, entry_of_kind}
use Rattle.io_rules.proofs.FitLemmas.{if_prepared}
use Rattle.io_rules.proofs.MoveLemmas.{begun-moves, ended-leaves}
use Rattle.io_rules.proofs.OnceLemmas.{if_executing}
use Rattle.io_rules.proofs.StageLemmas.{Executing, Idle, Prepared, Stage, give_keeps, kept_of, stage_of, staged, total-other}
use Rattle.io_rules.proofs.StrandLemmas.{both, by_test}
use Rattle.io_rules.proofs.TotalLemmas.{apart, equal, share, sum_by-total, total, total-changed, total-push}
use Rattle.io_history.specs.declared.view.Held.{Held}
use Rattle.io_scheduler.specs.declared.tally.Tally.{Tally}
use Rattle.io_scheduler.specs.Accepted.{waiting_on}
use Rattle.io_scheduler.specs.Counted.{may_post}
use Rattle.io_scheduler.specs.Expired.{wait_done}
use Rattle.io_handlers.specs.Initiated.{is_offered_kind}
use Rattle.io_scheduler.specs.Called.{is_any_gone, lane_left}
use Rattle.io_scheduler.specs.Posted.{posting}
use Rattle.io_scheduler.specs.Settling.{op_done}
use Rattle.io_scheduler.specs.Shown.{AreBelow}
use Rattle.io_scheduler.proofs.AcceptedLemmas.{accepted_with, pending_op}
use Rattle.io_scheduler.proofs.CalledLemmas.{state_called}
use Rattle.io_scheduler.proofs.GivenLemmas.{given_state}
use Rattle.io_scheduler.proofs.IdleLemmas.{idles, incomplete_total}
use Rattle.io_scheduler.proofs.PostedLemmas.{after_posting, called_state, outside_last, posted_op}
use Rattle.io_scheduler.proofs.RefusedLemmas.{behind_refused}
use Rattle.io_scheduler.proofs.SpaceLemmas.{three}
use Rattle.io_scheduler.proofs.StreamingLemmas.{in_first, none_first, none_shown}
use Rattle.io_scheduler.specs.Streaming.{none_out, on_streams, out_in, on_sides}
use Rattle.io_scheduler.specs.Tallied.{IsTally, is_at_rest, is_idle, rests, running_in, tally_begun, tally_called, tally_completed, tally_ended, waiting_in, tally_pended}
use Rattle.io_scheduler.specs.Waits.{ShowsWaits, incomplete_in}
use Rattle.io_scheduler.specs.Running.{HeldOp}

abbrev one : ℕ → Lane → Stage → ℕ
one n on stage = 1

abbrev waits : ℕ → Lane → Stage → ℕ
waits n on stage = if_prepared stage true

abbrev executes : ℕ → Lane → Stage → ℕ
executes n on stage = if_executing stage true

total-same : (f g : Op → ℕ) → ((op : Op) → f op ≡ g op) → (ops : List Op) → total f ops ≡ total g ops
total-same f g are [] = refl
total-same f g are (op ∷ ops) = ap (λ n. n + total f ops) (are op) ∙ ap (λ n. g op + n) (total-same f g are ops)

waits_is : (p : Phase) → one_if (is_ready p) ≡ if_prepared (stage_of p) true
waits_is (phase.Pending moved cancelled) = refl
waits_is (phase.Settled code size) = refl
waits_is (phase.Ready code size) = refl
waits_is (phase.Running own grant spares) = refl

executes_is : (p : Phase) → one_if (is_running p) ≡ if_executing (stage_of p) true
executes_is (phase.Pending moved cancelled) = refl
executes_is (phase.Settled code size) = refl
executes_is (phase.Ready code size) = refl
executes_is (phase.Running own grant spares) = refl

-- the counts, as sums over stages
waiting_total : (ops : List Op) → waiting_in ops ≡ total (staged waits) ops
waiting_total ops =
    sum_by-total (λ op. one_if (is_ready op.phase)) ops
    ∙ total-same (λ op. one_if (is_ready op.phase)) (staged waits) (λ op. waits_is op.phase) ops

running_total : (ops : List Op) → running_in ops ≡ total (staged executes) ops
running_total ops =
    sum_by-total (λ op. one_if (is_running op.phase)) ops
    ∙ total-same (λ op. one_if (is_running op.phase)) (staged executes) (λ op. executes_is op.phase) ops

length_total : (ops : List Op) → length ops ≡ total (staged one) ops
length_total [] = refl
length_total (op ∷ ops) = let rest = length_total ops in omega (arith, rest)

one_of : (stage : Stage) → 1 ≡ if_prepared stage true + if_executing stage true + idles 0 lane.Own stage
one_of Idle = refl
one_of Prepared = refl
one_of Executing = refl

all_total : (ops : List Op) →
    length ops ≡ total (staged waits) ops + total (staged executes) ops + total (staged idles) ops
all_total [] = refl
all_total (op ∷ ops) = let here = one_of (stage_of op.phase) in let rest = all_total ops in omega (arith, here, rest)

-- they are all
tally_all : (t : Tally) (s : ContextState) → IsTally t s → length s.ops ≡ t.waiting + t.running + incomplete_in s.ops
tally_all t s tally =
    let all = all_total s.ops in let none = incomplete_total s.ops in
    let waiting = tally.waiting ∙ waiting_total s.ops in let running = tally.running ∙ running_total s.ops in
    omega (arith, all, none, waiting, running)

-- as events move them
moved : (t : Tally) (s new : ContextState) (new_t : Tally) → IsTally t s →
    new_t.waiting ≡ total (staged waits) new.ops → new_t.running ≡ total (staged executes) new.ops →
    length new.ops ≤ new.next → new.streams ≡ s.streams → new_t.streaming ≡ t.streaming → new_t.out ≡ t.out →
    IsTally new_t new
moved t s new new_t tally waiting running few streams streaming out = record {
  waiting = waiting ∙ sym (waiting_total new.ops);
  running = running ∙ sym (running_total new.ops);
  streaming = streaming ∙ tally.streaming ∙ sym (ap on_streams streams);
  out = out ∙ tally.out ∙ sym (ap out_in streams);
  few = few;
}

-- one more is posted, from outside or by a handler
pub tally_pushed : (t : Tally) (s new : ContextState) (by : Option ℕ) (it : Op) → IsTally t s → is_ready it.phase ≡ true →
    new.ops ≡ place_given_by by s.ops ++ it ∷ [] → new.next ≡ s.next + 1 → new.streams ≡ s.streams →
    IsTally (tally_called t) new
tally_pushed t s new by it tally ready ops next streams =
    let waiting = tally.waiting ∙ waiting_total s.ops in let running = tally.running ∙ running_total s.ops in
    let few = tally.few in let many = length_total s.ops in let more = length_total new.ops in
    let w = more_by waits in let x = more_by executes in let o = more_by one in
    let one_waits : if_prepared (stage_of it.phase) true ≡ 1 = sym (waits_is it.phase) ∙ ap one_if ready in
    let none_runs : if_executing (stage_of it.phase) true ≡ 0 = ready_idle it.phase ready in
    moved t s new (tally_called t) tally (omega (arith, waiting, w, one_waits)) (omega (arith, running, x, none_runs))
    (omega (arith, many, more, o, few, next)) streams refl refl
  where
    more_by : (h : ℕ → Lane → Stage → ℕ) →
        total (staged h) new.ops ≡ total (staged h) s.ops + h it.number it.lane (stage_of it.phase)
    more_by h =
        ap (total (staged h)) ops ∙ total-push (staged h) (place_given_by by s.ops) it
        ∙ ap (λ n. n + h it.number it.lane (stage_of it.phase))
        (kept_of h by (λ op. place_given op.phase) (λ op. give_keeps op.phase) s.ops)

    ready_idle : (p : Phase) → is_ready p ≡ true → if_executing (stage_of p) true ≡ 0
    ready_idle (phase.Ready code size) is = refl
    ready_idle (phase.Pending moved cancelled) is = absurd (true≢false (sym is))
    ready_idle (phase.Settled code size) is = absurd (true≢false (sym is))
    ready_idle (phase.Running own grant spares) is = absurd (true≢false (sym is))

-- a handler gives a place away
pub tally_given : (t : Tally) (s : ContextState) (by : ℕ) → IsTally t s → IsTally t (given_state by s)
tally_given t s by tally =
    let waiting = tally.waiting ∙ waiting_total s.ops in let running = tally.running ∙ running_total s.ops in
    let few = tally.few in let many = length_total s.ops in let more = length_total (place_given_by (Some by) s.ops) in
    let w = kept_by waits in let x = kept_by executes in let o = kept_by one in
    moved t s (given_state by s) t tally (omega (arith, waiting, w)) (omega (arith, running, x))
    (omega (arith, many, more, o, few)) refl refl refl
  where
    kept_by : (h : ℕ → Lane → Stage → ℕ) →
        total (staged h) (place_given_by (Some by) s.ops) ≡ total (staged h) s.ops
    kept_by h = kept_of h (Some by) (λ op. place_given op.phase) (λ op. give_keeps op.phase) s.ops

pub tally_posts : (t : Tally) (s : ContextState) (n : ℕ) (on : Lane) (kind : Operation) (marks : Marks) → IsTally t s →
    is_posting kind ≡ true → IsTally (tally_called t) (after (event.Called n None (posting on kind marks) gone.Nothing) s)
tally_posts t s n on kind marks tally posts =
    let new = posted_op n on kind marks code.Ok in
    subst (IsTally (tally_called t)) (sym (after_posting false n None on kind marks s posts (outside_last on kind posts)))
    (tally_pushed t s (called_state false n None on new s) None new tally refl refl refl refl)

pub tally_calls : (t : Tally) (s : ContextState) (first : Bool) (n by : ℕ) (from on : Lane) (kind : Operation)
    (marks : Marks) (own : Bool) (grant : ℕ) (spares : Spares) (held : Option Held) → IsTally t s →
    is_posting kind ≡ true → HeldOp s by from own grant spares held → entry_of_kind from on kind ≡ entry_of_dispatch first →
    IsTally (tally_called t) (after (event.Called n (Some by) (posting on kind marks) gone.Nothing) s)
tally_calls t s first n by from on kind marks own grant spares held tally posts it enters =
    let new = posted_op n on kind marks code.Ok in
    subst (IsTally (tally_called t)) (sym (state_called s first n by from on kind marks own grant spares held posts it enters))
    (tally_pushed t s (called_state first n (Some by) on new s) (Some by) new tally refl refl refl refl)

-- what names something gone completes at once
pub tally_refused : (t : Tally) (s : ContextState) (n by : ℕ) (on : Lane) (kind : Operation) (marks : Marks) (given : Gone) →
    IsTally t s → is_offered_kind kind ≡ true → is_any_gone given ≡ true → AreBelow n s.ops →
    IsTally (tally_called t)
    (after (event.Done n code.Bad 0) (after (event.Called n (Some by) (posting on kind marks) given) s))
tally_refused t s n by on kind marks given tally offered any below =
    let new = posted_op n (lane_left on given) kind marks code.Bad in
    let behind = behind_refused n by on kind marks given s offered any below in
    tally_pushed t s _ (Some by) new tally refl (ap (λ (x : ContextState). x.ops) behind)
    (ap (λ (x : ContextState). x.next) behind) (ap (λ (x : ContextState). x.streams) behind)

pub tally_below : (t : Tally) (s : ContextState) → IsTally t s → t.waiting ≤ s.next
tally_below t s tally = let all = tally_all t s tally in let few = tally.few in omega (arith, all, few)

pub tally_room : (t : Tally) (s : ContextState) (on : Lane) → IsTally t s → may_post s on ≡ true → t.waiting < most_numbers
tally_room t s on tally may =
    let parts = three (nat_lt 0 s.room) (nat_lt 0 (numbers_left s)) (not (is_lane_gone s.names on)) may in
    let left = ltb-true 0 (numbers_left s) parts.two in
    let all = tally_all t s tally in let few = tally.few in
    omega (arith, left, all, few)

-- a wait is accepted, from outside or by a handler
pub tally_waits : (t : Tally) (s : ContextState) (n : ℕ) (by : Option ℕ) (on : Lane) (timer : Name) (marks : Marks) →
    IsTally t s → IsTally t (after (event.Called n by (waiting_on on timer marks) gone.Nothing) s)
tally_waits t s n by on timer marks tally =
    let new = after (event.Called n by (waiting_on on timer marks) gone.Nothing) s in
    let it : Op = record {
      number = n;
      lane = on;
      binding = None;
      kind = operation.Wait timer;
      marks = marks;
      phase = phase.Pending 0 false;
    } in
    let waiting = tally.waiting ∙ waiting_total s.ops in let running = tally.running ∙ running_total s.ops in
    let many = length_total s.ops in let more = length_total new.ops in let few = tally.few in
    let w = more_by waits it in let x = more_by executes it in let o = more_by one it in
    moved t s new t tally (omega (arith, waiting, w)) (omega (arith, running, x)) (omega (arith, many, more, o, few)) refl refl refl
  where
    more_by : (h : ℕ → Lane → Stage → ℕ) (it : Op) →
        total (staged h) (place_given_by by s.ops ++ it ∷ []) ≡ total (staged h) s.ops + staged h it
    more_by h it =
        total-push (staged h) (place_given_by by s.ops) it
        ∙ ap (λ n. n + staged h it) (kept_of h by (λ op. place_given op.phase) (λ op. give_keeps op.phase) s.ops)

-- an operation of a stream is accepted
pub tally_transfers : (t : Tally) (s : ContextState) (on : Lane) (kind : Operation) (marks : Marks) (settled : List ℕ)
    (waits_behind : List Wait) (place : ℕ) (stream : StreamState) → IsTally t s → place < length s.streams →
    on_sides stream ≡ on_sides (slice_index_or s.streams place new_stream) + 1 →
    stream.out ≡ (slice_index_or s.streams place new_stream).out →
    IsTally (tally_pended t)
    (accepted_with s.next on kind marks settled waits_behind (slice_set s.streams place stream) s)
tally_transfers t s on kind marks settled waits_behind place stream tally within more same =
    let new = accepted_with s.next on kind marks settled waits_behind (slice_set s.streams place stream) s in
    let it = pending_op s.next on kind marks in
    let waiting = tally.waiting ∙ waiting_total s.ops in let running = tally.running ∙ running_total s.ops in
    let new_waiting = waiting_total new.ops in let new_running = running_total new.ops in
    let many = length_total s.ops in let longer = length_total new.ops in let few = tally.few in
    let w = total-push (staged waits) s.ops it in let x = total-push (staged executes) s.ops it in
    let o = total-push (staged one) s.ops it in
    let streaming = tally.streaming in
    let sides = sum_by-set on_sides s.streams place stream new_stream within in
    let out = tally.out in
    let outs = sum_by-set (λ (st : StreamState). one_if (is_out st.out)) s.streams place stream new_stream within in
    let as_before = ap (λ side. one_if (is_out side)) same in
    record {
      waiting = omega (arith, waiting, w, new_waiting);
      running = omega (arith, running, x, new_running);
      streaming = omega (arith, streaming, sides, more);
      out = omega (arith, out, outs, as_before);
      few = omega (arith, many, longer, o, few);
    }

-- one that hadn't completed does
pub tally_completes : (t : Tally) (s : ContextState) (n : ℕ) (given : Code) (on : Lane) (it : Op) → IsTally t s →
    op_at s.ops n ≡ Some it → stage_of it.phase ≡ Idle → IsTally (tally_called t) (wait_done n given on s)
tally_completes t s n given on it tally is idle =
    let new = wait_done n given on s in
    let waiting = tally.waiting ∙ waiting_total s.ops in let running = tally.running ∙ running_total s.ops in
    let many = length_total s.ops in let more = length_total new.ops in let few = tally.few in
    let w = come waits in let x = come executes in let o = come one in
    moved t s new (tally_called t) tally (omega (arith, waiting, w)) (omega (arith, running, x))
    (omega (arith, many, more, o, few)) refl refl refl
  where
    come : (h : ℕ → Lane → Stage → ℕ) →
        total (staged h) (with_phase n (phase.Ready given 0) s.ops) + h it.number it.lane Idle
        ≡ total (staged h) s.ops + h it.number it.lane Prepared
    come h =
        subst (λ stage. total (staged h) (with_phase n (phase.Ready given 0) s.ops) + h it.number it.lane stage
        ≡ total (staged h) s.ops + h it.number it.lane Prepared) idle
        (total-changed (staged h) n (λ o. phase.Ready given 0) s.ops it is)

-- one that was pending on a stream does
pub tally_leaves : (t : Tally) (s : ContextState) (n : ℕ) (given : Code) (size : ℕ) (on : Lane) (target : Target) (it : Op) →
    IsTally t s → op_at s.ops n ≡ Some it → stage_of it.phase ≡ Idle →
    on_streams (streams_left n (Some target) s.streams) + 1 ≡ on_streams s.streams →
    out_in (streams_left n (Some target) s.streams) ≡ out_in s.streams →
    IsTally (tally_completed t) (op_done n given size on target s)
tally_leaves t s n given size on target it tally is idle fewer out =
    let new = op_done n given size on target s in
    let waiting = tally.waiting ∙ waiting_total s.ops in let running = tally.running ∙ running_total s.ops in
    let many = length_total s.ops in let more = length_total new.ops in let few = tally.few in
    let w = come waits in let x = come executes in let o = come one in
    let streaming = tally.streaming in
    let now = waiting_total new.ops in let runs = running_total new.ops in
    record {
      waiting = omega (arith, waiting, w, now);
      running = omega (arith, running, x, runs);
      streaming = omega (arith, streaming, fewer);
      out = tally.out ∙ sym out;
      few = omega (arith, many, more, o, few);
    }
  where
    come : (h : ℕ → Lane → Stage → ℕ) →
        total (staged h) (with_phase n (phase.Ready given size) s.ops) + h it.number it.lane Idle
        ≡ total (staged h) s.ops + h it.number it.lane Prepared
    come h =
        subst (λ stage. total (staged h) (with_phase n (phase.Ready given size) s.ops) + h it.number it.lane stage
        ≡ total (staged h) s.ops + h it.number it.lane Prepared) idle
        (total-changed (staged h) n (λ o. phase.Ready given size) s.ops it is)

-- where none comes to another stage
pub tally_same_stages : (t : Tally) (s new : ContextState) → IsTally t s →
    ((h : ℕ → Lane → Stage → ℕ) → total (staged h) new.ops ≡ total (staged h) s.ops) → new.next ≡ s.next →
    new.streams ≡ s.streams → IsTally t new
tally_same_stages t s new tally alike next streams =
    let many = length_total s.ops in let more = length_total new.ops in let few = tally.few in let o = alike one in
    moved t s new t tally (tally.waiting ∙ waiting_total s.ops ∙ sym (alike waits))
    (tally.running ∙ running_total s.ops ∙ sym (alike executes)) (omega (arith, many, more, few, o, next)) streams refl refl

-- there is a number for it
pub tally_incomplete : (t : Tally) (s : ContextState) (n : ℕ) (it : Op) → IsTally t s → op_at s.ops n ≡ Some it →
    stage_of it.phase ≡ Idle → t.waiting < s.next
tally_incomplete t s n it tally is idle =
    let all = tally_all t s tally in let few = tally.few in let none = incomplete_total s.ops in
    let own = share (staged idles) n s.ops it is in
    let one : staged idles it ≡ 1 = ap (idles it.number it.lane) idle in
    omega (arith, all, few, none, own, one)

-- a handler begins
pub tally_begins : (t : Tally) (s : ContextState) (op : ℕ) (spares : Spares) → IsTally t s → MayBegin s op spares →
    IsTally (tally_begun t) (after (event.Begun op spares) s)
tally_begins t s op spares tally may =
    let new = after (event.Begun op spares) s in
    let waiting = tally.waiting ∙ waiting_total s.ops in let running = tally.running ∙ running_total s.ops in
    let many = length_total s.ops in let more = length_total new.ops in
    let w = begun-moves waits op spares s may in
    let x = begun-moves executes op spares s may in
    let o = begun-moves one op spares s may in
    let few = tally.few in
    moved t s new (tally_begun t) tally (omega (arith, waiting, w)) (omega (arith, running, x))
    (omega (arith, many, more, o, few)) refl refl refl

-- there is a number for it
pub tally_more : (t : Tally) (s : ContextState) (op : ℕ) (spares : Spares) → IsTally t s → MayBegin s op spares →
    t.running < s.next
tally_more t s op spares tally may =
    let waiting = tally.waiting ∙ waiting_total s.ops in
    let all = tally_all t s tally in let few = tally.few in
    let w = begun-moves waits op spares s may in
    omega (arith, waiting, all, few, w)

-- a handler has returned
pub tally_ends : (t : Tally) (s : ContextState) (op mark : ℕ) → IsTally t s → MayEnd s op mark →
    IsTally (tally_ended t) (after (event.Ended op mark) s)
tally_ends t s op mark tally may =
    let new = after (event.Ended op mark) s in
    let waiting = tally.waiting ∙ waiting_total s.ops in let running = tally.running ∙ running_total s.ops in
    let many = length_total s.ops in let more = length_total new.ops in
    let w = ended-leaves waits op mark s may in
    let x = ended-leaves executes op mark s may in
    let o = ended-leaves one op mark s may in
    let few = tally.few in
    moved t s new (tally_ended t) tally (omega (arith, waiting, w)) (omega (arith, running, x))
    (omega (arith, many, more, o, few)) refl refl refl

-- a control call that leaves the streams
pub tally_changes : (t : Tally) (s : ContextState) (by : Option ℕ) (change : Control) → IsTally t s →
    streams_changed s change ≡ s.streams → IsTally t (after (event.Changed by change) s)
tally_changes t s by change tally streams =
    let new = after (event.Changed by change) s in
    let waiting = tally.waiting ∙ waiting_total s.ops in let running = tally.running ∙ running_total s.ops in
    let many = length_total s.ops in let more = length_total new.ops in
    let w = total-other waits (event.Changed by change) s refl in
    let x = total-other executes (event.Changed by change) s refl in
    let o = total-other one (event.Changed by change) s refl in
    let few = tally.few in
    moved t s new t tally (omega (arith, waiting, w)) (omega (arith, running, x))
    (omega (arith, many, more, o, few)) streams refl refl

none_here : (p : Phase) (b : Bool) (rest : ℕ) → one_if (is_running p) + rest ≡ 0 → (rest ≡ 0 → b ≡ true) →
    (not (is_running p) && b) ≡ true
none_here (phase.Pending moved cancelled) b rest none later = later (omega (arith, none))
none_here (phase.Settled code size) b rest none later = later (omega (arith, none))
none_here (phase.Ready code size) b rest none later = later (omega (arith, none))
none_here (phase.Running own grant spares) b rest none later = absurd (omega (arith, none))

none_runs : (ops : List Op) → total (λ op. one_if (is_running op.phase)) ops ≡ 0 →
    list_all (λ op. not (is_running op.phase)) ops ≡ true
none_runs [] none = refl
none_runs (op ∷ ops) none = none_here op.phase _ (total (λ op. one_if (is_running op.phase)) ops) none (none_runs ops)

-- where none is counted none executes
pub tally_rests : (t : Tally) (s : ContextState) → IsTally t s → t.running ≡ 0 →
    list_all (λ op. not (is_running op.phase)) s.ops ≡ true
tally_rests t s tally none =
    none_runs s.ops (sym (sum_by-total (λ op. one_if (is_running op.phase)) s.ops) ∙ sym tally.running ∙ none)

some_here : (p : Phase) (b : Bool) (rest : ℕ) → 0 < one_if (is_running p) + rest → (0 < rest → b ≡ false) →
    (not (is_running p) && b) ≡ false
some_here (phase.Pending moved cancelled) b rest some later = later (omega (arith, some))
some_here (phase.Settled code size) b rest some later = later (omega (arith, some))
some_here (phase.Ready code size) b rest some later = later (omega (arith, some))
some_here (phase.Running own grant spares) b rest some later = refl

some_runs : (ops : List Op) → 0 < total (λ op. one_if (is_running op.phase)) ops →
    list_all (λ op. not (is_running op.phase)) ops ≡ false
some_runs [] some = absurd (omega (arith, some))
some_runs (op ∷ ops) some = some_here op.phase _ (total (λ op. one_if (is_running op.phase)) ops) some (some_runs ops)

-- and where one is, one does
pub tally_runs : (t : Tally) (s : ContextState) → IsTally t s → 0 < t.running →
    list_all (λ op. not (is_running op.phase)) s.ops ≡ false
tally_runs t s tally some =
    let sum = sum_by-total (λ op. one_if (is_running op.phase)) s.ops in let running = tally.running in
    some_runs s.ops (omega (arith, sum, running, some))

-- no operation is left
pub tally_none : (t : Tally) (s : ContextState) → IsTally t s → t.waiting + t.running + incomplete_in s.ops ≡ 0 →
    has_no_ops s.ops ≡ true
tally_none t s tally none = by_ops s.ops (tally_all t s tally ∙ none)
  where
    by_ops : (ops : List Op) → length ops ≡ 0 → has_no_ops ops ≡ true
    by_ops [] none = refl
    by_ops (op ∷ ops) none = absurd (omega (arith, none))

pub tally_some : (t : Tally) (s : ContextState) → IsTally t s → 0 < t.waiting + t.running + incomplete_in s.ops →
    has_no_ops s.ops ≡ false
tally_some t s tally some = let all = tally_all t s tally in by_ops s.ops (omega (arith, all, some))
  where
    by_ops : (ops : List Op) → 0 < length ops → has_no_ops ops ≡ false
    by_ops [] some = absurd (omega (arith, some))
    by_ops (op ∷ ops) some = refl

some : (n : ℕ) → (0 ≡ n → ⊥) → 0 < n
some zero isnt = absurd (isnt refl)
some (suc n) isnt = omega arith

-- the counts tell whether the context is at rest
pub rest_shown : (t : Tally) (s : ContextState) → IsTally t s → rests t ≡ is_at_rest s
rest_shown t s tally =
    ap (λ b. b && (t.out == 0)) idle ∙ ap (λ b. is_idle s && b) (ap (λ n. n == 0) tally.out ∙ none_shown s.streams)
  where
    idle : (t.running == 0) ≡ is_idle s
    idle =
        by_test (t.running == 0)
        (λ none. none ∙ sym (tally_rests t s tally (equal t.running 0 none)))
        (λ more. more ∙ sym (tally_runs t s tally (some t.running (apart t.running 0 more))))

pub resting : (t : Tally) → rests t ≡ true → t.running ≡ 0
resting t rest = equal t.running 0 (both (t.running == 0) (t.out == 0) rest).one

pub at_rest : (t : Tally) (s : ContextState) → IsTally t s → s.finishing ≡ false → rests t ≡ true → IsAtRest s
at_rest t s tally going rest =
    let parts = both (is_idle s) (none_out s.streams) (sym (rest_shown t s tally) ∙ rest) in
    record { going = going; handlers = parts.one; sockets = parts.other }

-- before the first event
pub tally_first : (limits : Limits) →
    IsTally (record { waiting = 0; running = 0; streaming = 0; out = 0 }) (first_state limits)
tally_first limits = record {
  waiting = refl;
  running = refl;
  streaming = sym (none_first limits.streams);
  out = sym (in_first limits.streams);
  few = omega arith;
}

-- where operations and streams stay
pub tally_still : (t : Tally) (s new : ContextState) → IsTally t s → new.ops ≡ s.ops → new.next ≡ s.next →
    new.streams ≡ s.streams → IsTally t new
tally_still t s new tally ops next streams = record {
  waiting = tally.waiting ∙ sym (ap waiting_in ops);
  running = tally.running ∙ sym (ap running_in ops);
  streaming = tally.streaming ∙ sym (ap on_streams streams);
  out = tally.out ∙ sym (ap out_in streams);
  few = subst (λ n. length new.ops ≤ n) (sym next) (subst (λ os. length os ≤ s.next) (sym ops) tally.few);
}

-- a call of `run` that returns, and a restart
pub tally_stays : (t : Tally) (s : ContextState) (stopped : Bool) → IsTally t s →
    IsTally t (record s { stopped = stopped })
tally_stays t s stopped tally = tally_still t s _ tally refl refl refl

-- nothing is left to do
pub none_left : {H : Type 0} (marks : H → Marks) (limits : Limits) (timers : Timers (Waiting H)) (t : Tally)
    (s : ContextState) → IsTally t s → ShowsWaits marks limits timers s → t.waiting + t.running + t.streaming ≡ 0 →
    None ≡ expiry_by timers.timers (next_wait timers) → has_no_ops s.ops ≡ true
none_left marks limits timers t s tally shows none no_expiry =
    let all = shows.all in
    let on = tally.streaming in
    let no_wait = no_waits_left timers.timers timers.waits no_expiry in
    tally_none t s tally (omega (arith, none, all, no_wait, on))
  where
    no_waits_left : {H : Type 0} (ts : List TimerState) (waits : List (Entry (PendingWait (Waiting H)))) →
        None ≡ expiry_by ts (earliest ts (map wait_of waits)) → length waits ≡ 0
    no_waits_left ts [] none = refl
    no_waits_left ts (wait ∷ waits) none = absurd (cc)

pub some_left : {H : Type 0} (marks : H → Marks) (limits : Limits) (timers : Timers (Waiting H)) (t : Tally)
    (s : ContextState) (expiry : ℕ) → IsTally t s → ShowsWaits marks limits timers s →
    Some expiry ≡ expiry_by timers.timers (next_wait timers) → has_no_ops s.ops ≡ false
some_left marks limits timers t s expiry tally shows some =
    let all = shows.all in
    let many = some_wait timers.timers timers.waits some in
    tally_some t s tally (omega (arith, all, many))
  where
    some_wait : {H : Type 0} (ts : List TimerState) (waits : List (Entry (PendingWait (Waiting H)))) →
        Some expiry ≡ expiry_by ts (earliest ts (map wait_of waits)) → 0 < length waits
    some_wait ts [] some = absurd (cc)
    some_wait ts (wait ∷ waits) some = omega arith

pub one_left : {H : Type 0} (marks : H → Marks) (limits : Limits) (timers : Timers (Waiting H)) (t : Tally)
    (s : ContextState) → IsTally t s → ShowsWaits marks limits timers s → 0 < t.waiting + t.running + t.streaming →
    has_no_ops s.ops ≡ false
one_left marks limits timers t s tally shows some =
    let all = shows.all in
    let on = tally.streaming in
    tally_some t s tally (omega (arith, some, all, on))
