-- As many operations are pending as the reactor has to complete, each once: each event keeps it, unless the reactor fails.
use Rattle.std.proofs.Common.{◌≡◌, ◌≢◌, ◌⊎◌, ℕ, ◌+◌, ◌<◌, Bool, true, false, cond, not, List, Some, None, inl, inr, length, refl, sym, ap, subst, ◌∙◌, arith, get_or-set_same, get_or-set_other}
use Rattle.std.specs.Prelude.{◌&&◌, ◌||◌, ◌==◌, slice_index_or, slice_set}
use Rattle.std.specs.Option.{unwrap_or}
use Rattle.std.proofs.Math.ListN.{length-set}
use Rattle.std.proofs.lemmas.Bool.{and_parts, cases_eq, eq-eqb, ne_eqb}
use Rattle.asio_types.specs.declared.code.Code.{Code}
use Rattle.asio_types.specs.declared.code.Code.TheVariants as code
use Rattle.asio_types.specs.declared.event.Event.{Event}
use Rattle.asio_types.specs.declared.event.Event.TheVariants as event
use Rattle.session_script.specs.declared.act.Act.{Act}
use Rattle.session_script.specs.Script.{ScriptModel, act_of, is_operation}
use Rattle.session_script.specs.WellFormed.{IsWellFormed}
use Rattle.session_script.specs.Lanes.{is_inline}
use Rattle.session_script.proofs.PlacingLemmas.{act_fits}
use Rattle.history_rules.specs.Calls.{accepted, progressed}
use Rattle.history_rules.specs.Executions.{MayBegin, has_finished}
use Rattle.history_rules.specs.Kinds.{is_act, is_control, is_posting}
use Rattle.history_rules.specs.Legal.{MayHappen, after_event, context_after, reactor_after}
use Rattle.history_rules.specs.Order.{is_request, was_taken}
use Rattle.history_rules.specs.State.{ReactorHalf, State, act_at, phase_at}
use Rattle.history_rules.specs.Time.{pending_count}
use Rattle.history_rules.specs.declared.phase.ActPhase.{ActPhase}
use Rattle.history_rules.specs.declared.phase.ActPhase.TheVariants as phase
use Rattle.history_rules.specs.declared.phase.ActState.{ActState}
use Rattle.history_rules.specs.declared.phase.Cause.TheVariants as cause
use Rattle.history_rules.specs.declared.phase.Step.{Step}
use Rattle.execution_laws.specs.Work.{is_pending, is_requested, pending_acts}
use Rattle.execution_laws.proofs.AccountLemmas.{account_done, account_last, account_tick, pending_same}
use Rattle.execution_laws.proofs.CountingLemmas.{counted, counted-range}
use Rattle.execution_laws.proofs.RestLemmas.{is_within}
use Rattle.execution_laws.proofs.SettledLemmas.{awaited}
use Rattle.execution_laws.proofs.StateLemmas.{act_at-other, act_at-same}
use Rattle.reactor_turns.specs.Ahead.{IsHalfOf, IsOpenRequest, LeavesRoom, MayShow as MayTurn}
use Rattle.reactor_turns.specs.Standing.{is_awaited, stands}
use Rattle.reactor_turns.proofs.AheadLemmas.{event_leaves}
use Rattle.reactor_turns.proofs.PendingLemmas.{pending-take}
use Rattle.reactor_turns.proofs.StandingLemmas.{stands-done, stands-last, stands-take, stands-tick}
use Rattle.reactor_turns.proofs.StreamsLemmas.{take-size}
use Rattle.reactor_turns.proofs.SummingLemmas.{one_if}
use Rattle.reactor_turns.proofs.TakenLemmas.{done-taken, last-taken, take-taken, tick-taken}
use Rattle.history_merge.proofs.AskLemmas.{IsNoDrop, request_there, told_taken}
use Rattle.history_merge.proofs.EachActLemmas.{Each}
use Rattle.history_merge.proofs.EachLabelLemmas.{is_of_turn}
use Rattle.history_merge.proofs.FrameLemmas.{length-after}
use Rattle.history_merge.proofs.HalfLemmas.{reactor_stays}
use Rattle.history_merge.proofs.KindLemmas.{AreOfKind, kinds_kept}
use Rattle.history_merge.proofs.NextCallLemmas.{uncalled_next}
use Rattle.history_merge.proofs.OrderlyLemmas.{IsExpected, IsInOrder}
use Rattle.history_merge.proofs.SoLemmas.{IsBalanced, TakesCalled}
use Rattle.history_merge.proofs.TestLemmas.{IsSame, back_same, base_same, begin_same, call_same, phase_same, stop_same}
use Rattle.history_merge.proofs.WorkLemmas.{counted-changed}

requested_step : (n : ℕ) (step : Step) (of : ActPhase) → is_requested (progressed step of) ≡ is_requested of
requested_step n step (phase.Running class progress) = refl
requested_step n step other = refl

begin_unrequested : (script : ScriptModel) (s : State) (o : ℕ) (given : Code) (size : ℕ) →
    MayBegin script s.context o given size → is_requested (phase_at s.context o) ≡ false
begin_unrequested script s o given size (inl outside) = ap is_requested outside.ready.1
begin_unrequested script s o given size (inr within) = ap is_requested within.inside

finished_unrequested : (script : ScriptModel) (o : ℕ) (of : ActPhase) → has_finished script o of ≡ true →
    is_requested of ≡ false
finished_unrequested script o (phase.Running class progress) is = refl
finished_unrequested script o other is = absurd (cc)

-- where pending acts differ at one
pending_changed : (s t : State) (a : ℕ) → length t.context.acts ≡ length s.context.acts → a < length s.context.acts →
    ((n : ℕ) → n ≢ a → is_pending t n ≡ is_pending s n) →
    pending_acts t + one_if (is_pending s a) ≡ pending_acts s + one_if (is_pending t a)
pending_changed s t a size within others =
    let one = counted-range (is_pending t) (length t.context.acts) in
    let two = counted-range (is_pending s) (length s.context.acts) in
    let long = ap (counted (is_pending t)) size in
    let each = counted-changed (is_pending s) (is_pending t) a (length s.context.acts) within others in
    omega (arith, one, two, long, each)

and_false : (b : Bool) → (b && false) ≡ false
and_false true = refl
and_false false = refl

and_true : (b : Bool) → (b && true) ≡ b
and_true true = refl
and_true false = refl

not_false : (b : Bool) → not b ≡ true → b ≡ false
not_false true is = absurd (cc)
not_false false is = refl

-- what asks the reactor is an awaited operation or a control act
control_by : (inline posting operation control : Bool) →
    is_requested (cond inline phase.Inside (cond posting (phase.Ready code.Ok 0 cause.Posted)
    (cond operation phase.Requested (cond control phase.Asked phase.Absent)))) ≡ false →
    is_request (cond inline phase.Inside (cond posting (phase.Ready code.Ok 0 cause.Posted)
    (cond operation phase.Requested (cond control phase.Asked phase.Absent)))) ≡ true → control ≡ true
control_by true posting operation control isnt asks = absurd (cc)
control_by false true operation control isnt asks = absurd (cc)
control_by false false true control isnt asks = absurd (cc)
control_by false false false true isnt asks = refl
control_by false false false false isnt asks = absurd (cc)

control_is : (script : ScriptModel) (n : ℕ) (given : Act) → act_of script n ≡ Some given →
    is_act is_control script n ≡ is_control given
control_is script n given is = rw is refl

none_more : (b : Bool) (k : ℕ) → k ≡ 0 → cond b k 0 ≡ 0
none_more true k none = none
none_more false k none = refl

or_true : (b : Bool) → (b || true) ≡ true
or_true true = refl
or_true false = refl

module _ (script : ScriptModel) (s : State) (kinds : AreOfKind script s.context.acts) where
  -- an untaken request is one of the script's acts that the reactor may take
  pub open_request : (a : ℕ) → is_request (phase_at s.context a) ≡ true → was_taken s.reactor a ≡ false →
      IsOpenRequest script s.reactor a
  open_request a asks untaken =
      let is : phase_at s.context a ≡ accepted script a = (kinds a).asked asks in
      let asked : is_request (accepted script a) ≡ true = sym (ap is_request is) ∙ asks in
      let given = awaited script a asked in
      let controls = control_is script a given.0 given.1 in
      record {
        act = given.0;
        is = given.1;
        asks = by_kind given.0 controls given.2 asked (is_requested (accepted script a)) refl;
        untaken = untaken;
      }
    where
      by_kind : (given : Act) → is_act is_control script a ≡ is_control given →
          is_awaited given ≡ is_requested (accepted script a) → is_request (accepted script a) ≡ true → (b : Bool) →
          is_requested (accepted script a) ≡ b → (is_awaited given || is_control given) ≡ true
      by_kind given controls awaits asked true is = ap (λ b. b || is_control given) (awaits ∙ is)
      by_kind given controls awaits asked false isnt =
          ap (λ b. is_awaited given || b)
          (sym controls
          ∙ control_by (is_inline script a) (is_act is_posting script a) (is_act is_operation script a)
          (is_act is_control script a) isnt asked)
          ∙ or_true (is_awaited given)

module _ (script : ScriptModel) (well : IsWellFormed script) (told : Bool) (s : State) (order : IsInOrder script s.context)
    (kinds : AreOfKind script s.context.acts) (half : IsHalfOf script s.reactor) where
  abbrev after : Event → State
  after shown = after_event script told s shown

  -- what the reactor shows next it may show by its half alone
  turn_may : (shown : Event) → is_of_turn shown ≡ true → MayHappen script told s shown → MayTurn script told s.reactor shown
  turn_may (event.Take a) is may =
      let parts = and_parts (is_request (phase_at s.context a)) (not (was_taken s.reactor a)) may.untaken in
      open_request script s kinds a parts.0 (not_false (was_taken s.reactor a) parts.1)
  turn_may (event.Done o given size) is may = may.next
  turn_may (event.Tick now) is may = record {
    pending = may.idle.pending;
    told = may.idle.turn.told;
    drained = may.idle.turn.drained;
    next = may.next;
  }
  turn_may event.Last is may = record {
    pending = may.idle.pending;
    told = may.idle.turn.told;
    drained = may.idle.turn.drained;
    next = may.next;
  }
  turn_may event.Fault is may = may.once
  turn_may other is may = absurd (cc)

  -- and then one less is ahead
  pub turn_leaves : (shown : Event) → is_of_turn shown ≡ true → MayHappen script told s shown →
      LeavesRoom script s.reactor (reactor_after script told s.reactor shown)
  turn_leaves shown is may = event_leaves script told s.reactor shown well half (turn_may shown is may)

  -- the reactor's half fits the script after each event
  pub half_kept : (shown : Event) → MayHappen script told s shown →
      IsHalfOf script (reactor_after script told s.reactor shown)
  half_kept shown may = by_turn (is_of_turn shown) refl
    where
      by_turn : (b : Bool) → is_of_turn shown ≡ b → IsHalfOf script (reactor_after script told s.reactor shown)
      by_turn true is = (turn_leaves shown is may).is_half
      by_turn false isnt = subst (IsHalfOf script) (sym (reactor_stays script told s.reactor shown isnt)) half

  abbrev test : ℕ → ActPhase → Bool
  test n of = is_requested of

  abbrev Nowhere : ℕ → Type 0
  Nowhere n = ⊥

  abbrev Here : ℕ → ℕ → Type 0
  Here o n = n ≡ o

  module _ (balanced : IsBalanced script s) where
    -- where the reactor's half stays and the same acts are pending
    same_balance : (shown : Event) → MayHappen script told s shown → IsExpected s.context shown →
        reactor_after script told s.reactor shown ≡ s.reactor → ((n : ℕ) → is_pending (after shown) n ≡ is_pending s n) →
        IsBalanced script (after shown)
    same_balance shown may expected same pending =
        let account = balanced.accounted in
        record {
          accounted = record {
            streams = ap (λ (r : ReactorHalf). length r.queues) same ∙ account.streams;
            marks = ap (λ (r : ReactorHalf). length r.taken) same ∙ account.marks;
            asked = λ n asks. (kinds_kept script told s shown may expected kinds n).asked asks;
            pending =
                pending_same s (after shown) (length-after script s.context shown) pending
                ∙ (account.pending ∙ sym (ap pending_count same));
          };
          standing = λ n.
              ap (λ (r : ReactorHalf). stands n r) same
              ∙ (balanced.standing n ∙ ap (λ b. cond b 1 0) (sym (pending n)));
        }

    still_balance : (shown : Event) → MayHappen script told s shown → IsExpected s.context shown →
        reactor_after script told s.reactor shown ≡ s.reactor →
        Each (IsSame test Nowhere) s.context.acts (context_after script s.context shown).acts → IsBalanced script (after shown)
    still_balance shown may expected same each =
        same_balance shown may expected same
        (λ n.
        ap (λ b. b && was_taken (reactor_after script told s.reactor shown) n) ((each n).same (λ never. never))
        ∙ ap (λ (r : ReactorHalf). is_requested (phase_at s.context n) && was_taken r n) same)

    call_balance : (a : ℕ) → MayHappen script told s (event.Call a) → TakesCalled s → IsBalanced script (after (event.Call a))
    call_balance a may takes =
        same_balance (event.Call a) may tt refl (λ n. elim (cases_eq n a) [
          | inl same ↦
              let none : was_taken s.reactor n ≡ false =
              ap (was_taken s.reactor) same
              ∙ takes a (uncalled_next script well s.context order s.reactor.failed a may) in
              ap (λ b. is_requested (phase_at (after (event.Call a)).context n) && b) none
              ∙ (and_false (is_requested (phase_at (after (event.Call a)).context n))
              ∙ sym (ap (λ b. is_requested (phase_at s.context n) && b) none
              ∙ and_false (is_requested (phase_at s.context n))))
          | inr other ↦
              ap (λ b. b && was_taken s.reactor n)
              ((call_same test requested_step script s.context (Here a) a (λ away. absurd (away refl)) n).same other)
        ])

    take_balance : (a : ℕ) → MayHappen script told s (event.Take a) → IsBalanced script (after (event.Take a))
    take_balance a may =
        let t : State = after (event.Take a) in
        let account = balanced.accounted in
        let parts = and_parts (is_request (phase_at s.context a)) (not (was_taken s.reactor a)) may.untaken in
        let before : was_taken s.reactor a ≡ false = not_false (was_taken s.reactor a) parts.1 in
        let request = open_request script s kinds a parts.0 before in
        let is : phase_at s.context a ≡ accepted script a = (kinds a).asked parts.0 in
        let asked : is_request (accepted script a) ≡ true = sym (ap is_request is) ∙ parts.0 in
        let given = awaited script a asked in
        let fits = act_fits script a well given.0 given.1 in
        let taken : t.reactor.taken ≡ slice_set s.reactor.taken a true = take-taken script told s.reactor a well in
        let within : a < length s.context.acts = is_within s.context a (request_there (phase_at s.context a) parts.0) in
        let marked : was_taken t.reactor a ≡ true =
        ap (λ (taken : List Bool). slice_index_or taken a false) taken
        ∙ get_or-set_same s.reactor.taken a true false (omega (arith, within, order.size, account.marks)) in
        let others : (n : ℕ) → n ≢ a → is_pending t n ≡ is_pending s n = λ n differ.
        ap (λ b. is_requested (phase_at s.context n) && b)
        (ap (λ (taken : List Bool). slice_index_or taken n false) taken
        ∙ get_or-set_other s.reactor.taken a n true false differ) in
        let was : is_pending s a ≡ false =
        ap (λ b. is_requested (phase_at s.context a) && b) before ∙ and_false (is_requested (phase_at s.context a)) in
        let now : is_pending t a ≡ is_awaited given.0 =
        ap (λ b. is_requested (phase_at s.context a) && b) marked
        ∙ (and_true (is_requested (phase_at s.context a)) ∙ (ap is_requested is ∙ sym given.2)) in
        let changed = pending_changed s t a refl within others in
        let count = pending-take script told s.reactor a given.0 given.1 fits account.streams in
        let none : one_if (is_pending s a) ≡ 0 = ap one_if was in
        let one : one_if (is_pending t a) ≡ one_if (is_awaited given.0) = ap one_if now in
        let pending = account.pending in
        record {
          accounted = record {
            streams = take-size script told s.reactor a ∙ account.streams;
            marks = ap length taken ∙ (length-set s.reactor.taken a true ∙ account.marks);
            asked = account.asked;
            pending = omega (arith, changed, count, none, one, pending);
          };
          standing = λ n.
              stands-take n script told s.reactor a given.0 given.1 fits account.streams
              ∙ by_number n (is_awaited given.0) was now others (balanced.standing n) (cases_eq n a);
        }
      where
        by_number : (n : ℕ) (awaits : Bool) → is_pending s a ≡ false → is_pending (after (event.Take a)) a ≡ awaits →
            ((n : ℕ) → n ≢ a → is_pending (after (event.Take a)) n ≡ is_pending s n) →
            stands n s.reactor ≡ cond (is_pending s n) 1 0 → (n ≡ a) ⊎ (n ≢ a) →
            stands n s.reactor + cond awaits (one_if (a == n)) 0 ≡ cond (is_pending (after (event.Take a)) n) 1 0
        by_number n awaits was now others standing (inl same) =
            let none : cond (is_pending s n) 1 0 ≡ 0 = ap (λ n. cond (is_pending s n) 1 0) same ∙ ap one_if was in
            let one : one_if (a == n) ≡ 1 = ap one_if (eq-eqb a n (sym same)) in
            let is : cond (is_pending (after (event.Take a)) n) 1 0 ≡ one_if awaits =
            ap (λ n. cond (is_pending (after (event.Take a)) n) 1 0) same ∙ ap one_if now in
            let more : cond awaits (one_if (a == n)) 0 ≡ one_if awaits = ap (λ k. cond awaits k 0) one in
            omega (arith, standing, none, is, more)
        by_number n awaits was now others standing (inr other) =
            let none : one_if (a == n) ≡ 0 = ap one_if (ne_eqb a n (λ same. other (sym same))) in
            let still : cond (is_pending (after (event.Take a)) n) 1 0 ≡ cond (is_pending s n) 1 0 =
            ap one_if (others n other) in
            let more = none_more awaits (one_if (a == n)) none in
            omega (arith, standing, still, more)

    done_balance : (o : ℕ) (given : Code) (size : ℕ) → MayHappen script told s (event.Done o given size) →
        phase_at s.context o ≡ phase.Requested → IsBalanced script (after (event.Done o given size))
    done_balance o given size may asked =
        let t : State = after (event.Done o given size) in
        let was = told_taken script well told s order half o given size may in
        let new : ActState =
        record (act_at s.context o)
        { phase = phase.Ready given size (cause.Completed s.context.events (unwrap_or s.context.turn 0)) } in
        let within : o < length s.context.acts =
        is_within s.context o (λ absent. let wrong : phase.Requested ≡ phase.Absent = sym asked ∙ absent in absurd (cc)) in
        let taken : t.reactor.taken ≡ s.reactor.taken = done-taken script s.reactor o in
        let now : is_pending t o ≡ false =
        ap (λ (act : ActState). is_requested act.phase && was_taken t.reactor o) (act_at-same s.context o new within) in
        let before : is_pending s o ≡ true =
        ap (λ of. is_requested of && was_taken s.reactor o) asked ∙ was in
        record {
          accounted = account_done script told s o given size balanced.accounted asked was may.next;
          standing = λ n.
              let less = stands-done n script told s.reactor o given size may.next in
              let stood = balanced.standing n in
              elim (cases_eq n o) [
                | inl same ↦
                    let one : one_if (o == n) ≡ 1 = ap one_if (eq-eqb o n (sym same)) in
                    let pending : cond (is_pending s n) 1 0 ≡ 1 = ap (λ n. one_if (is_pending s n)) same ∙ ap one_if before in
                    let none : cond (is_pending t n) 1 0 ≡ 0 = ap (λ n. one_if (is_pending t n)) same ∙ ap one_if now in
                    omega (arith, less, stood, one, pending, none)
                | inr other ↦
                    let none : one_if (o == n) ≡ 0 = ap one_if (ne_eqb o n (λ same. other (sym same))) in
                    let still : cond (is_pending t n) 1 0 ≡ cond (is_pending s n) 1 0 =
                    ap one_if (ap (λ (act : ActState). is_requested act.phase && was_taken t.reactor n)
                    (act_at-other s.context o new n other)
                    ∙ ap (λ (marks : List Bool). is_requested (phase_at s.context n) && slice_index_or marks n false) taken) in
                    omega (arith, less, stood, none, still)
              ];
        }

    pub balance_kept : (shown : Event) → MayHappen script told s shown → IsExpected s.context shown → IsNoDrop shown →
        TakesCalled s → (after shown).reactor.failed ≡ false → IsBalanced script (after shown)
    balance_kept (event.Call a) may expected alive takes works = call_balance a may takes
    balance_kept (event.Stop (Some a)) may expected alive takes works =
        still_balance (event.Stop (Some a)) may expected refl (stop_same test requested_step script s.context Nowhere a)
    balance_kept (event.Stop None) may expected alive takes works =
        still_balance (event.Stop None) may expected refl (base_same test requested_step script s.context Nowhere)
    balance_kept (event.Back a) may expected alive takes works =
        still_balance (event.Back a) may expected refl (back_same test requested_step script s.context Nowhere a)
    balance_kept (event.Begin o given size) may expected alive takes works =
        still_balance (event.Begin o given size) may expected refl
        (begin_same test requested_step script s.context Nowhere o given size
        (λ here. sym (begin_unrequested script s o given size may)))
    balance_kept (event.End o mark) may expected alive takes works =
        still_balance (event.End o mark) may expected refl
        (phase_same test requested_step script s.context Nowhere o phase.Ended
        (λ here. sym (finished_unrequested script o (phase_at s.context o) may)))
    balance_kept (event.Take a) may expected alive takes works = take_balance a may
    balance_kept (event.Done o given size) may expected alive takes works = done_balance o given size may expected
    balance_kept (event.Tick now) may expected alive takes works = record {
      accounted = account_tick script told s now balanced.accounted;
      standing = λ n.
          stands-tick n script told s.reactor now
          ∙ (balanced.standing n
          ∙ ap (λ (marks : List Bool). one_if (is_requested (phase_at s.context n) && slice_index_or marks n false))
          (sym (tick-taken script told s.reactor now)));
    }
    balance_kept event.Last may expected alive takes works = record {
      accounted = account_last script told s balanced.accounted;
      standing = λ n.
          stands-last n told s.reactor
          ∙ (balanced.standing n
          ∙ ap (λ (marks : List Bool). one_if (is_requested (phase_at s.context n) && slice_index_or marks n false))
          (sym (last-taken told s.reactor)));
    }
    balance_kept (event.Dropped o mark) may expected alive takes works = absurd alive
    balance_kept event.Fault may expected alive takes works = absurd (let wrong : true ≡ false = works in cc)
    balance_kept event.Ended may expected alive takes works =
        still_balance event.Ended may expected refl (base_same test requested_step script s.context Nowhere)
    balance_kept event.Stopped may expected alive takes works =
        still_balance event.Stopped may expected refl (base_same test requested_step script s.context Nowhere)
    balance_kept event.Polled may expected alive takes works =
        still_balance event.Polled may expected refl (base_same test requested_step script s.context Nowhere)
    balance_kept event.Restart may expected alive takes works =
        still_balance event.Restart may expected refl (base_same test requested_step script s.context Nowhere)

  -- what works after an event worked before
  pub worked : (shown : Event) → MayHappen script told s shown → (after shown).reactor.failed ≡ false →
      s.reactor.failed ≡ false
  worked (event.Take a) may works = may.turn.working
  worked (event.Done o given size) may works = may.working
  worked (event.Tick now) may works = may.idle.turn.working
  worked event.Last may works = may.idle.turn.working
  worked event.Fault may works = may.once
  worked other may works = works
