-- What leaves the waits that are pending: what is kept of them shows the state behind it.
use Rattle.std.proofs.Common.{arith, ap, refl, subst, sym, ◌∙◌}
use Rattle.std.proofs.lemmas.Bool.{true≢false}
use Rattle.std.proofs.lemmas.List.{append-nil, length-set}
use Rattle.std.specs.Prelude.{◌≡◌, ◌<◌, ℕ, ◌+◌, not, Bool, true, false, List, [], ◌∷◌, ◌++◌, Option, Some, None, length, map}
use Rattle.std.specs.List.{filter}
use Rattle.asio_types.specs.declared.code.Code.TheVariants as code
use Rattle.io_rules.specs.declared.event.Event.TheVariants as event
use Rattle.io_rules.specs.declared.limits.Limits.{Limits}
use Rattle.io_rules.specs.declared.name.Lane.{Lane}
use Rattle.io_rules.specs.declared.name.Name.{Name}
use Rattle.io_rules.specs.declared.op.Op.{Op}
use Rattle.io_rules.specs.declared.op.Phase.{Phase}
use Rattle.io_rules.specs.declared.op.Phase.TheVariants as phase
use Rattle.io_rules.specs.declared.op.Wait.{Wait}
use Rattle.io_rules.specs.declared.operation.Operation.{Operation}
use Rattle.io_rules.specs.declared.place.Life.{Life}
use Rattle.io_rules.specs.declared.place.Place.{Place}
use Rattle.io_rules.specs.declared.request.Gone.{Gone}
use Rattle.io_rules.specs.declared.request.Gone.TheVariants as gone
use Rattle.io_rules.specs.declared.request.Marks.{Marks}
use Rattle.io_rules.specs.declared.spares.Spares.{Spares}
use Rattle.io_rules.specs.Cancelling.{is_among}
use Rattle.io_rules.specs.Executions.{MayBegin, MayEnd}
use Rattle.io_rules.specs.Legal.{after}
use Rattle.io_rules.specs.Operations.{is_posting}
use Rattle.io_rules.specs.Ops.{is_pending, is_ready, is_running, op_at}
use Rattle.io_rules.specs.Room.{place_given, place_given_by}
use Rattle.io_rules.specs.Spares.{with_life_of}
use Rattle.io_rules.specs.State.{ContextState}
use Rattle.io_rules.specs.Strands.{entry_of_dispatch, entry_of_kind}
use Rattle.io_rules.proofs.MoveLemmas.{begun-moves, ended-leaves}
use Rattle.io_rules.proofs.StageLemmas.{give_keeps, kept_of, stage_of, staged}
use Rattle.io_rules.proofs.TotalLemmas.{found, total, total-push}
use Rattle.io_history.specs.declared.view.Held.{Held}
use Rattle.io_history.proofs.AtLemmas.{at-changed, at-changed_of, at-push, at-without}
use Rattle.io_timers.specs.declared.pending.PendingWait.{PendingWait}
use Rattle.io_timers.specs.Kept.{Each}
use Rattle.io_timers.specs.Pending.{Entry, Timers, is_other, number_of, wait_of}
use Rattle.io_timers.proofs.FoundLemmas.{apart_test}
use Rattle.io_timers.proofs.OrderLemmas.{each-weaker, filter-all}
use Rattle.io_scheduler.specs.declared.waiting.Waiting.{Waiting}
use Rattle.io_scheduler.specs.Expired.{left_waits}
use Rattle.io_handlers.specs.Initiated.{is_offered_kind}
use Rattle.io_scheduler.specs.Called.{is_any_gone, lane_left}
use Rattle.io_scheduler.specs.Posted.{posting}
use Rattle.io_scheduler.specs.Shown.{AreBelow}
use Rattle.io_scheduler.specs.Streaming.{on_streams}
use Rattle.io_scheduler.specs.Waits.{ArePending, ShowsWaits}
use Rattle.io_scheduler.proofs.CalledLemmas.{state_called}
use Rattle.io_scheduler.proofs.GivenLemmas.{given_state}
use Rattle.io_scheduler.proofs.IdleLemmas.{idles, incomplete_total}
use Rattle.io_scheduler.proofs.PostedLemmas.{after_posting, called_state, outside_last, posted_op}
use Rattle.io_scheduler.proofs.RefusedLemmas.{behind_refused}
use Rattle.io_scheduler.proofs.WaitsLemmas.{below_next, map-filter}
use Rattle.io_scheduler.specs.Running.{HeldOp}

-- as far as waits go, nothing has changed
pub record StaysPending (s new : ContextState) : Type 0 where
  pub timers : new.timers ≡ s.timers
  pub places : length new.names.timers ≡ length s.names.timers
  pub waits : new.waits ≡ s.waits
  pub streams : new.streams ≡ s.streams
  pub ops : (n : ℕ) (it : Op) → op_at s.ops n ≡ Some it → is_pending it.phase ≡ true → op_at new.ops n ≡ Some it
  pub idle : total (staged idles) new.ops ≡ total (staged idles) s.ops

pending_still : {H : Type 0} (marks : H → Marks) (s new : ContextState) (waits : List (Entry (PendingWait (Waiting H)))) →
    StaysPending s new → ArePending marks s.ops waits → ArePending marks new.ops waits
pending_still marks s new [] stays all = tt
pending_still marks s new (x ∷ waits) stays all =
    let old = all.0 in (
      record {
        op = old.op;
        is = stays.ops x.item.op old.op old.is (ap is_pending old.phase);
        lane = old.lane;
        binding = old.binding;
        kind = old.kind;
        given = old.given;
        phase = old.phase;
      },
      pending_still marks s new waits stays all.1,
    )

pub waits_stay : {H : Type 0} (marks : H → Marks) (limits : Limits) (timers : Timers (Waiting H)) (s new : ContextState) →
    ShowsWaits marks limits timers s → StaysPending s new → ShowsWaits marks limits timers new
waits_stay marks limits timers s new shows stays = record {
  timers_are = shows.timers_are ∙ sym stays.timers;
  places = ap length stays.timers ∙ shows.places ∙ sym stays.places;
  waits_are = shows.waits_are ∙ sym stays.waits;
  rises = shows.rises;
  each = pending_still marks s new timers.waits stays shows.each;
  all = ap (λ streams. length timers.waits + on_streams streams) stays.streams ∙ shows.all ∙ incomplete_total s.ops
      ∙ sym stays.idle ∙ sym (incomplete_total new.ops);
  room = shows.room;
}

-- one more is called, and ready
given_still : (p : Phase) → is_pending p ≡ true → place_given p ≡ p
given_still (phase.Pending moved cancelled) is = refl
given_still (phase.Settled code size) is = refl
given_still (phase.Ready code size) is = refl
given_still (phase.Running own grant spares) is = absurd (true≢false (sym is))

pub given_same : (it : Op) → is_pending it.phase ≡ true → place_given it.phase ≡ it.phase
given_same it is = given_still it.phase is

not_ready : (p : Phase) → is_pending p ≡ true → is_ready p ≡ false
not_ready (phase.Pending moved cancelled) is = refl
not_ready (phase.Settled code size) is = refl
not_ready (phase.Ready code size) is = absurd (true≢false (sym is))
not_ready (phase.Running own grant spares) is = refl

pub not_running : (p : Phase) → is_pending p ≡ true → is_running p ≡ false
not_running (phase.Pending moved cancelled) is = refl
not_running (phase.Settled code size) is = refl
not_running (phase.Ready code size) is = refl
not_running (phase.Running own grant spares) is = absurd (true≢false (sym is))

ready_idle : (on : Lane) (p : Phase) → is_ready p ≡ true → idles 0 on (stage_of p) ≡ 0
ready_idle on (phase.Ready code size) is = refl
ready_idle on (phase.Pending moved cancelled) is = absurd (true≢false (sym is))
ready_idle on (phase.Settled code size) is = absurd (true≢false (sym is))
ready_idle on (phase.Running own grant spares) is = absurd (true≢false (sym is))

pub stays_pushed : (s new : ContextState) (by : Option ℕ) (it : Op) → is_ready it.phase ≡ true →
    new.ops ≡ place_given_by by s.ops ++ it ∷ [] → new.timers ≡ s.timers → new.names ≡ s.names → new.waits ≡ s.waits →
    new.streams ≡ s.streams → StaysPending s new
stays_pushed s new by it ready ops timers names waits streams = record {
  streams = streams;
  timers = timers;
  places = ap (λ ns. length ns.timers) names;
  waits = waits;
  ops = λ n op is at.
      ap (λ os. op_at os n) ops
      ∙ at-push n (place_given_by by s.ops) it op
      (at-changed_of by n (λ o. place_given o.phase) s.ops op (given_same op at) is);
  idle =
      (let push = ap (total (staged idles)) ops ∙ total-push (staged idles) (place_given_by by s.ops) it in
      let kept = kept_of idles by (λ o. place_given o.phase) (λ o. give_keeps o.phase) s.ops in
      let none = ready_idle it.lane it.phase ready in
      omega (arith, push, kept, none));
}

pub stays_posted : (s : ContextState) (n : ℕ) (on : Lane) (kind : Operation) (marks : Marks) → is_posting kind ≡ true →
    StaysPending s (after (event.Called n None (posting on kind marks) gone.Nothing) s)
stays_posted s n on kind marks posts =
    let new = posted_op n on kind marks code.Ok in
    subst (StaysPending s) (sym (after_posting false n None on kind marks s posts (outside_last on kind posts)))
    (stays_pushed s (called_state false n None on new s) None new refl refl refl refl (append-nil s.waits) refl)

pub stays_called : (s : ContextState) (first : Bool) (n by : ℕ) (from on : Lane) (kind : Operation) (marks : Marks)
    (own : Bool) (grant : ℕ) (spares : Spares) (held : Option Held) → is_posting kind ≡ true →
    HeldOp s by from own grant spares held → entry_of_kind from on kind ≡ entry_of_dispatch first →
    StaysPending s (after (event.Called n (Some by) (posting on kind marks) gone.Nothing) s)
stays_called s first n by from on kind marks own grant spares held posts it enters =
    let new = posted_op n on kind marks code.Ok in
    subst (StaysPending s) (sym (state_called s first n by from on kind marks own grant spares held posts it enters))
    (stays_pushed s (called_state first n (Some by) on new s) (Some by) new refl refl refl refl (append-nil s.waits) refl)

-- what names something gone completes at once
pub others_wait : {H : Type 0} (marks : H → Marks) (limits : Limits) (timers : Timers (Waiting H)) (s : ContextState) (n : ℕ) →
    n ≡ s.next → AreBelow s.next s.ops → ShowsWaits marks limits timers s → left_waits n (s.waits ++ []) ≡ s.waits
others_wait marks limits timers s n is below shows =
    ap (left_waits n) (append-nil s.waits) ∙ ap (left_waits n) (sym shows.waits_are)
    ∙ sym (map-filter n timers.waits)
    ∙ ap (map wait_of)
    (filter-all (is_other n) timers.waits
    (each-weaker (λ wait. number_of wait < s.next) (λ wait. is_other n wait ≡ true) timers.waits
    (λ wait less. ap not (apart_test (number_of wait) n (λ e. omega (arith, less, is, e))))
    (below_next marks s.next s.ops timers.waits below shows.each)))
    ∙ shows.waits_are

pub stays_refused : {H : Type 0} (marks : H → Marks) (limits : Limits) (timers : Timers (Waiting H)) (s : ContextState)
    (n by : ℕ) (on : Lane) (kind : Operation) (given : Marks) (lost : Gone) → n ≡ s.next → is_offered_kind kind ≡ true →
    is_any_gone lost ≡ true → AreBelow s.next s.ops → ShowsWaits marks limits timers s →
    StaysPending s
    (after (event.Done n code.Bad 0) (after (event.Called n (Some by) (posting on kind given) lost) s))
stays_refused marks limits timers s n by on kind given lost is offered any below shows =
    let new = posted_op n (lane_left on lost) kind given code.Bad in
    let behind = behind_refused n by on kind given lost s offered any (subst (λ k. AreBelow k s.ops) (sym is) below) in
    stays_pushed s _ (Some by) new refl (ap (λ (x : ContextState). x.ops) behind)
    (ap (λ (x : ContextState). x.timers) behind) (ap (λ (x : ContextState). x.names) behind)
    (ap (λ (x : ContextState). x.waits) behind ∙ others_wait marks limits timers s n is below shows)
    (ap (λ (x : ContextState). x.streams) behind)

pub refused_places : (s : ContextState) (n by : ℕ) (on : Lane) (kind : Operation) (given : Marks) (lost : Gone) →
    is_offered_kind kind ≡ true → is_any_gone lost ≡ true → AreBelow n s.ops →
    length (after (event.Done n code.Bad 0)
    (after (event.Called n (Some by) (posting on kind given) lost) s)).names.streams ≡ length s.names.streams
refused_places s n by on kind given lost offered any below =
    ap (λ (x : ContextState). length x.names.streams) (behind_refused n by on kind given lost s offered any below)

-- a handler gives a place away
pub stays_given : (s : ContextState) (by : ℕ) → StaysPending s (given_state by s)
stays_given s by = record {
  streams = refl;
  timers = refl;
  places = refl;
  waits = refl;
  ops = λ n op is at. at-changed_of (Some by) n (λ o. place_given o.phase) s.ops op (given_same op at) is;
  idle = kept_of idles (Some by) (λ o. place_given o.phase) (λ o. give_keeps o.phase) s.ops;
}

-- a handler begins, and ends
pub length_life : (new : Life) (name : Option Name) (places : List Place) →
    length (with_life_of new name places) ≡ length places
length_life new None places = refl
length_life new (Some name) places = length-set places name.place _

another : (test : Phase → Bool) (n m : ℕ) (it op : Op) (ops : List Op) → op_at ops n ≡ Some it → test it.phase ≡ true →
    op_at ops m ≡ Some op → test op.phase ≡ false → n ≡ m → ⊥
another test n m it op ops at is other isnt here =
    let same_op : op ≡ it = same_found op it (sym other ∙ ap (op_at ops) (sym here) ∙ at) in
    true≢false (sym is ∙ ap (λ (o : Op). test o.phase) (sym same_op) ∙ isnt)
  where
    same_found : (a b : Op) → Some a ≡ Some b → a ≡ b
    same_found a b is = cc

pub stays_begun : (s : ContextState) (op : ℕ) (spares : Spares) → MayBegin s op spares →
    StaysPending s (after (event.Begun op spares) s)
stays_begun s op spares may =
    let it = found is_ready s.ops op may.ready in
    let moves = begun-moves idles op spares s may in
    record {
      timers = refl;
      places = length_life _ spares.timer s.names.timers;
      waits = refl;
      streams = refl;
      ops = λ n x is at.
          at-changed op n _ s.ops x
          (λ (here : op ≡ n). absurd (another is_ready op n it.op x s.ops it.is it.passed is (not_ready x.phase at) here)) is;
      idle = omega (arith, moves);
    }

pub stays_ended : (s : ContextState) (op mark : ℕ) → MayEnd s op mark → StaysPending s (after (event.Ended op mark) s)
stays_ended s op mark may =
    let it = found is_running s.ops op may.runs in
    let leaves = ended-leaves idles op mark s may in
    record {
      timers = refl;
      places = length_life _ _ s.names.timers;
      waits = refl;
      streams = refl;
      ops = λ n x is at.
          at-without op n s.ops x
          (λ (here : op ≡ n). another is_running op n it.op x s.ops it.is it.passed is (not_running x.phase at) here) is;
      idle = omega (arith, leaves);
    }

-- a change that cancels nothing
pub none_among : (waits : List Wait) → filter (λ wait. not (is_among [] wait.op)) waits ≡ waits
none_among waits = filter-all (λ wait. not (is_among [] wait.op)) waits (each_true waits)
  where
    each_true : (waits : List Wait) → Each (λ wait. not (is_among [] wait.op) ≡ true) waits
    each_true [] = tt
    each_true (wait ∷ waits) = (refl, each_true waits)

pub stays_quiet : (s new : ContextState) → new.ops ≡ s.ops → new.timers ≡ s.timers →
    length new.names.timers ≡ length s.names.timers → new.waits ≡ filter (λ wait. not (is_among [] wait.op)) s.waits →
    new.streams ≡ s.streams → StaysPending s new
stays_quiet s new ops timers places waits streams = record {
  streams = streams;
  timers = timers;
  places = places;
  waits = waits ∙ none_among s.waits;
  ops = λ n it is at. ap (λ os. op_at os n) ops ∙ is;
  idle = ap (total (staged idles)) ops;
}

-- a call of `run` that returns, and a restart
pub stays_stopped : (s : ContextState) (stopped : Bool) → StaysPending s (record s { stopped = stopped })
stays_stopped s stopped = record { timers = refl; places = refl; waits = refl; streams = refl; ops = λ n it is at. is; idle = refl }
