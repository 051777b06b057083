-- What is recorded of a take.
use Rattle.std.proofs.Common.{◌≡◌, ◌≢◌, ℕ, ◌+◌, ◌<◌, ◌≤◌, Bool, true, false, not, ◌&&◌, cond, List, ◌∷◌, Some, inl, inr, length, refl, sym, ap, subst, ◌∙◌, arith}
use Rattle.std.specs.Prelude.{◌==◌, IsSome}
use Rattle.std.specs.List.{slice_index_or, slice_set}
use Rattle.std.proofs.Math.Nat.{min-le_left}
use Rattle.std.proofs.lemmas.Bool.{and_parts, and_right, cases_eq, eq-eqb, ne_eqb, not-true}
use Rattle.std.proofs.lemmas.List.{get_or-set_other, get_or-set_same}
use Rattle.std.proofs.lemmas.List.Elements.{All-head}
use Rattle.asio_types.specs.Faults.{most_faults, one_more}
use Rattle.asio_types.specs.declared.event.Event.{Event}
use Rattle.asio_types.specs.declared.event.Event.TheVariants as event
use Rattle.asio_types.specs.declared.number.Lane.TheVariants as lane
use Rattle.session_script.specs.declared.act.Act.{Act}
use Rattle.session_script.specs.Script.{ScriptModel, act_of}
use Rattle.session_script.proofs.PlacingLemmas.{act_fits}
use Rattle.stream_rules.specs.World.{times_after}
use Rattle.history_rules.specs.Calls.{accepted}
use Rattle.history_rules.specs.Legal.{after_event}
use Rattle.history_rules.specs.Order.{is_request, is_untaken, was_taken}
use Rattle.history_rules.specs.Performing.{performed}
use Rattle.history_rules.specs.Requests.{MayTake, MayTurn}
use Rattle.history_rules.specs.Rounds.{is_unspent}
use Rattle.history_rules.specs.State.{Allowances, State, act_at, call_at, phase_at}
use Rattle.history_rules.specs.Stopping.{MayStart, allowance_of}
use Rattle.history_rules.specs.declared.phase.ActState.{ActState}
use Rattle.history_rules.specs.declared.phase.Allowance.TheVariants as allowance
use Rattle.history_rules.specs.declared.phase.CallPhase.TheVariants as call
use Rattle.reactor_turns.specs.Standing.{is_awaited, stands}
use Rattle.execution_laws.specs.Accounted.{IsAccounted}
use Rattle.execution_laws.specs.Kinds.{AreOfKind, is_accepted, was_called}
use Rattle.execution_laws.specs.Lanes.{IsFreeUnlessStopped}
use Rattle.execution_laws.specs.Order.{IsKept}
use Rattle.execution_laws.specs.Work.{is_pending, is_requested}
use Rattle.execution_laws.proofs.AccountLemmas.{account_take}
use Rattle.execution_laws.proofs.FreeLemmas.{free_turn}
use Rattle.execution_laws.proofs.RestLemmas.{is_within}
use Rattle.execution_laws.proofs.SettledLemmas.{awaited}
use Rattle.reactor_turns.specs.Ahead.{one_unless}
use Rattle.book_context.specs.Left.{act_left, act_left_at, events_left}
use Rattle.book_context.specs.Recorded.{IsRecorded, recorded_state}
use Rattle.book_context.specs.Recording.{Recording}
use Rattle.book_context.specs.Steps.{EventIsRecorded}
use Rattle.book_context.specs.TurnSteps.{CanTurnNow, HasTaken, TurnIsBegun, taken_recording}
use Rattle.reactor_turns.proofs.ClockLemmas.{runs-take, settled-ahead, settled-clock}
use Rattle.book_context.proofs.LeftLemmas.{acts-apart, left-falls, left_taken}
use Rattle.book_context.proofs.NextLemmas.{may_take}
use Rattle.book_context.proofs.RecordedLemmas.{Changes, goes_on, round_open}
use Rattle.reactor_turns.proofs.StandingLemmas.{stands-take}
use Rattle.reactor_turns.proofs.SummingLemmas.{one_if}
use Rattle.reactor_turns.proofs.TakenLemmas.{take-taken}
use Rattle.book_context.proofs.TurnLemmas.{taking_keeps}

-- a count rises by one at most
pub one_more-most : (n : ℕ) → one_more n ≤ n + 1
one_more-most n = min-le_left (n + 1) most_faults

-- the reactor may turn where a recording says so
reactor_free : (script : ScriptModel) (s : State) → IsFreeUnlessStopped script s.context → s.context.stopped ≡ false →
    MayStart s.context lane.Reactor
reactor_free script s free going none =
    let is : allowance_of s.context.allowances lane.Reactor ≡ allowance.Free =
    ap (λ (a : Allowances). a.reactor) (free.free going) in
    absurd (let wrong : allowance.Free ≡ allowance.Nothing = sym is ∙ none in cc)

pub may_turn : (told : Bool) (r : Recording) → IsRecorded told r → CanTurnNow told r →
    MayTurn r.script (recorded_state told r)
may_turn told r knows turn = record {
  round = round_open told r knows turn.round;
  working = turn.working;
  told = turn.nothing_due;
  drained = turn.drained;
  allowed = reactor_free r.script (recorded_state told r) knows.free (knows.stopped ∙ turn.going);
}

-- acts that are as they were are of their kinds
pub kinds_same : (script : ScriptModel) (s t : State) → ((n : ℕ) → act_at t.context n ≡ act_at s.context n) →
    AreOfKind script s.context → AreOfKind script t.context
kinds_same script s t same kinds = record {
  operations = λ n is was. ap (λ (act : ActState). is_accepted act.phase) (same n)
      ∙ kinds.operations n is (sym (ap (λ (act : ActState). was_called act.call) (same n)) ∙ was);
  others = λ n isnt. ap (λ (act : ActState). is_unspent act.phase) (same n) ∙ kinds.others n isnt;
  inline = λ n is. ap (λ (act : ActState). is_unspent act.phase) (same n) ∙ kinds.inline n is;
}

-- a turn that began is told of as its state is
pub turned : (told : Bool) (r : Recording) (event : Event) (t : Recording) → EventIsRecorded told r event t →
    IsSome (after_event r.script told (recorded_state told r) event).context.turn →
    (after_event r.script told (recorded_state told r) event).reactor.whole_turn ≡ true →
    (after_event r.script told (recorded_state told r) event).reactor.failed ≡ false → TurnIsBegun told r event t
turned told r event t goes turn whole works = record {
  goes = goes;
  turn = subst (λ (s : State). IsSome s.context.turn) (sym goes.state) turn;
  whole = ap (λ (s : State). s.reactor.whole_turn) goes.state ∙ whole;
  working = ap (λ (s : State). s.reactor.failed) goes.state ∙ works;
}

module _ (told : Bool) (r : Recording) (a : ℕ) (newer : List ℕ) (knows : IsRecorded told r) (turn : CanTurnNow told r)
    (asked : r.requests ≡ a ∷ newer) where
  abbrev s : State
  s = recorded_state told r

  abbrev t : State
  t = after_event r.script told s (event.Take a)

  waits : IsKept r.script s r.ready (a ∷ newer)
  waits = subst (λ requests. IsKept r.script s r.ready requests) asked knows.kept

  account : IsAccounted r.script s
  account = knows.accounted turn.working

  here : is_untaken s a ≡ true
  here = All-head (λ n. is_untaken s n ≡ true) a newer waits.are_untaken.each

  asks : is_request (phase_at s.context a) ≡ true
  asks = (and_parts (is_request (phase_at s.context a)) (not (was_taken s.reactor a)) here).0

  was : was_taken s.reactor a ≡ false
  was =
      not-true (was_taken s.reactor a) (and_parts (is_request (phase_at s.context a)) (not (was_taken s.reactor a)) here).1

  made : call_at s.context a ≢ call.Uncalled
  made isnt = absurd (let wrong : false ≡ true = sym (ap is_request (knows.kept.orderly.uncalled a isnt)) ∙ asks in cc)

  within : a < length s.context.acts
  within = is_within s.context a (λ absent. let wrong : false ≡ true = sym (ap is_request absent) ∙ asks in absurd (cc))

  accepts : phase_at s.context a ≡ accepted r.script a
  accepts = account.asked a asks

  kind : (given : Act) × (act_of r.script a ≡ Some given) × (is_awaited given ≡ is_requested (accepted r.script a))
  kind = awaited r.script a (sym (ap is_request accepts) ∙ asks)

  taken : t.reactor.taken ≡ slice_set s.reactor.taken a true
  taken = take-taken r.script told s.reactor a knows.script

  now : was_taken t.reactor a ≡ true
  now =
      ap (λ (taken : List Bool). slice_index_or taken a false) taken
      ∙ get_or-set_same s.reactor.taken a true false (let inside = within in
      let acts = knows.kept.rest.acts in let marks = account.marks in omega (arith, inside, acts, marks))

  other : (n : ℕ) → n ≢ a → was_taken t.reactor n ≡ was_taken s.reactor n
  other n differ =
      ap (λ (taken : List Bool). slice_index_or taken n false) taken
      ∙ get_or-set_other s.reactor.taken a n true false differ

  is_awaiting : one_if (is_awaited kind.0) ≡ one_if (is_requested (phase_at s.context a))
  is_awaiting = ap one_if (kind.2 ∙ ap is_requested (sym accepts))

  left_take : events_left r.script t + 1 ≤ events_left r.script s
  left_take =
      let clock = runs-take r.script told s.reactor a kind.0 kind.1 in
      let at_a : act_left_at t a + (1 + one_if (is_requested (phase_at s.context a))) ≤ act_left_at s a =
      by_taken (was_taken t.reactor a) (was_taken s.reactor a) now was in
      let acts =
      acts-apart s t a (1 + one_if (is_requested (phase_at s.context a))) refl within at_a
      (λ m differ. ap (act_left (call_at s.context m) (phase_at s.context m)) (other m differ)) in
      let more = clock.waits in
      let awaits = is_awaiting in
      let times = ap (λ now. length (times_after now r.script.world.lines)) clock.now in
      let last = ap one_unless clock.last in
      let failed = ap one_unless clock.failed in
      left-falls r.script s t 1 (omega (arith, acts, more, awaits, times, last, failed))
    where
      by_taken : (after before : Bool) → after ≡ true → before ≡ false →
          act_left (call_at s.context a) (phase_at s.context a) after
          + (1 + one_if (is_requested (phase_at s.context a)))
          ≤ act_left (call_at s.context a) (phase_at s.context a) before
      by_taken true false is isnt = left_taken (call_at s.context a) (phase_at s.context a) made asks
      by_taken true true is isnt = absurd (cc)
      by_taken false before is isnt = absurd (cc)

  none_before : is_pending s a ≡ false
  none_before =
      ap (λ b. is_requested (phase_at s.context a) && b) was
      ∙ and_right (is_requested (phase_at s.context a)) false refl

  stands_now : (n : ℕ) → stands n t.reactor ≡ one_if (is_pending t n)
  stands_now n =
      let more =
      stands-take n r.script told s.reactor a kind.0 kind.1 (act_fits r.script a knows.script kind.0 kind.1) account.streams in
      let before : stands n s.reactor ≡ one_if (is_pending s n) = knows.standing turn.working n in
      elim (cases_eq n a) [
        | inl same ↦
            let one : cond (is_awaited kind.0) (one_if (a == n)) 0 ≡ one_if (is_awaited kind.0) =
            ap (λ b. cond (is_awaited kind.0) (one_if b) 0) (eq-eqb a n (sym same)) in
            let none = ap one_if (ap (is_pending s) same ∙ none_before) in
            let pending : is_pending t n ≡ is_requested (phase_at s.context a) =
            ap (is_pending t) same
            ∙ (ap (λ b. is_requested (phase_at s.context a) && b) now ∙ and_true (is_requested (phase_at s.context a))) in
            let awaits = is_awaiting in
            let is = ap one_if pending in
            omega (arith, more, before, one, none, awaits, is)
        | inr differ ↦
            let none : cond (is_awaited kind.0) (one_if (a == n)) 0 ≡ 0 =
            ap (λ b. cond (is_awaited kind.0) (one_if b) 0) (ne_eqb a n (λ same. differ (sym same)))
            ∙ nothing (is_awaited kind.0) 0 refl in
            let same = ap one_if (ap (λ b. is_requested (phase_at s.context n) && b) (other n differ)) in
            omega (arith, more, before, none, same)
      ]
    where
      and_true : (b : Bool) → (b && true) ≡ b
      and_true true = refl
      and_true false = refl

      nothing : (b : Bool) (k : ℕ) → k ≡ 0 → cond b k 0 ≡ 0
      nothing true k is = is
      nothing false k is = refl

  changes_take : Changes r.script s t r.ready newer r.stopped r.restarted r.closings
  changes_take = record {
    kept =
        taking_keeps r.script told s a r.ready newer knows.script account.marks
        (let less = left_take in let had = knows.room in let few = knows.within in omega (arith, less, had, few))
        waits;
    accounted = λ works. account_take r.script told s a knows.script knows.kept.rest account here;
    standing = λ works n. stands_now n;
    ahead = settled-ahead told (performed r.script a s.reactor);
    kinds = kinds_same r.script s t (λ n. refl) knows.kinds;
    free = free_turn r.script s.context knows.free;
    opening = refl;
    calls = λ n. refl;
    stopped = knows.stopped;
    restarted = knows.restarted;
    closings = knows.closings;
    dropping = refl;
    left = left_take;
    events = one_more-most s.context.events;
    spent = λ n. refl;
  }

  pub has_taken : HasTaken told r a newer
  has_taken =
      let may : MayTake r.script s a = may_take r.script s a r.ready newer waits (may_turn told r knows turn) in
      record {
        within = let inside = within in let acts = knows.kept.rest.acts in omega (arith, inside, acts);
        untaken = was;
        turned =
            turned told r (event.Take a) (taken_recording r a newer)
            (goes_on told r (event.Take a) r.ready newer r.stopped r.restarted r.closings knows may changes_take) refl
            (settled-clock told (performed r.script a s.reactor)).whole
            ((runs-take r.script told s.reactor a kind.0 kind.1).failed ∙ turn.working);
      }
