-- A call that is made or comes back keeps a state sound.
use Rattle.std.proofs.Common.{◌≡◌, ◌≢◌, ℕ, ◌+◌, ◌<◌, ◌≤◌, ◌==◌, Bool, true, false, Some, None, inl, inr, length, refl, sym, ap, subst, ◌∙◌, arith}
use Rattle.std.specs.Prelude.{slice_get}
use Rattle.std.proofs.lemmas.Bool.{cases_eq}
use Rattle.std.proofs.lemmas.List.{get_or-set_same, length-set}
use Rattle.asio_types.specs.Faults.{most_faults, one_more}
use Rattle.asio_types.specs.declared.code.Class.{Class}
use Rattle.asio_types.specs.declared.event.Event.{Event}
use Rattle.asio_types.specs.declared.event.Event.TheVariants as event
use Rattle.session_script.specs.Script.{Place, ScriptModel, parent_of}
use Rattle.session_script.specs.WellFormed.{IsWellFormed}
use Rattle.history_rules.specs.Calls.{MayCall, after_call, is_open, progressed, with_progress, accepted}
use Rattle.history_rules.specs.Rounds.{is_running}
use Rattle.history_rules.specs.State.{ContextState, ReactorHalf, State, act_at, call_at, fresh, phase_at}
use Rattle.history_rules.specs.declared.phase.ActPhase.{ActPhase}
use Rattle.history_rules.specs.declared.phase.ActPhase.TheVariants as phase
use Rattle.history_rules.specs.declared.phase.ActState.{ActState}
use Rattle.history_rules.specs.declared.phase.CallPhase.TheVariants as call
use Rattle.history_rules.specs.declared.phase.Progress.{Progress}
use Rattle.history_rules.specs.declared.phase.Step.TheVariants as step
use Rattle.history_laws.specs.Events.{is_begin_of, is_call_of, is_completion_of, is_drop_of}
use Rattle.history_laws.proofs.BodyLemmas.{IsBehind, at_once, behind, body_of, stands_in}
use Rattle.history_laws.proofs.CountLemmas.{apart-is, one_more-is}
use Rattle.history_laws.proofs.GoingLemmas.{calls_running, open_moved}
use Rattle.history_laws.proofs.KindLemmas.{kind_moved}
use Rattle.history_laws.proofs.Moves.{Moves}
use Rattle.history_laws.proofs.MovingLemmas.{IsNext, NextIn, called_fresh, called_within, few, is_next, moves_call}
use Rattle.history_laws.proofs.NextLemmas.{next_calls, next_idle, next_passed}
use Rattle.history_laws.proofs.Sound.{AheadIn, Calls, CallsIn, IsAhead, IsSound}
use Rattle.history_laws.proofs.StepLemmas.{at_other, steps_by}
use Rattle.history_laws.proofs.SoundLemmas.{bodies_by, done_by, dropped_by, pending_by}

module _ (script : ScriptModel) (well : IsWellFormed script) (told : Bool) (s : State) (sound : IsSound script s) where
  abbrev pub c : ContextState
  c = s.context

  abbrev pub r : ReactorHalf
  r = s.reactor

  -- what a call owes, or its return
  pub calling_by : (e : Event) (t : ContextState) → ((n : ℕ) → Moves script n e (act_at c n) (act_at t n)) →
      ((n : ℕ) → is_completion_of n e ≡ false) → ((n : ℕ) → is_begin_of n e ≡ false) →
      ((n : ℕ) → is_drop_of n e ≡ false) → length t.acts ≡ length c.acts → c.opening.made ≤ t.opening.made →
      t.turn ≡ c.turn → t.closings ≡ c.closings → t.dropping ≡ c.dropping →
      ((place : Place) (n k : ℕ) → slice_get (body_of script place) k ≡ Some n → IsAhead t place k →
      is_call_of n e ≡ false) →
      ((n : ℕ) → is_open (call_at t n) ≡ true → Calls script t (parent_of script n) n) →
      IsSound script (record { context = t; reactor = r })
  calling_by e t moves completes begins drops acts opening turn closings dropping never calls = record {
    acts = acts ∙ sound.acts;
    takes = sound.takes;
    kinds = λ n. kind_moved script n e (act_at c n) (act_at t n) (moves n) (sound.kinds n);
    bodies = bodies_by script well told s sound e t moves opening never;
    calls = calls;
    pending = pending_by script well told s sound e t moves completes;
    closed = λ all. done_by script well told s sound e t moves begins turn (sound.closed (sym closings ∙ all));
    dropped =
        dropped_by script well told s sound e (record { context = t; reactor = r }) moves
        (λ ending. elim ending [ inl all ↦ inl (closings ∙ all) | inr failed ↦ inr failed ]) (λ is. dropping ∙ is)
        (λ n is. absurd (let wrong : true ≡ false = sym is ∙ drops n in cc));
  }

  module _ (a : ℕ) (may : MayCall script r.failed c a) where
    abbrev after : ContextState
    after = after_call script c a

    abbrev new : ActState
    new = record { call = call.Open c.events; phase = accepted script a }

    moves : (n : ℕ) → Moves script n (event.Call a) (act_at c n) (act_at after n)
    moves n = moves_call script well told s sound a may n

    next : IsNext script c (parent_of script a) a
    next = is_next script r.failed c a may

    once : (place : Place) (i j : ℕ) → slice_get (body_of script place) i ≡ Some a →
        slice_get (body_of script place) j ≡ Some a → i ≡ j
    once place i j at there = at_once script place a j there i at

    few_here : (place : Place) (k : ℕ) → slice_get (body_of script place) k ≡ Some a → k < most_faults
    few_here place k at = few script well told s sound place a k at

    -- the act that it makes is its operation's as before, or its next call
    phase_after : (at : ℕ × Class) → parent_of script a ≡ Some at →
        phase_at after at.0 ≡ progressed step.Made (phase_at c at.0)
    phase_after at is =
        let before : at.0 < a = subst (λ (place : Place). IsBehind place a) is (behind script well a) in
        let d : ContextState = with_progress (parent_of script a) step.Made c in
        let other : act_at after at.0 ≡ act_at d at.0 =
        at_other d.acts a at.0 new (λ same. absurd (omega (arith, before, same))) in
        let stepped : ActState = record (act_at c at.0) { phase = progressed step.Made (phase_at c at.0) } in
        let changed : act_at d at.0 ≡ stepped =
        subst (λ (place : Place). act_at (with_progress place step.Made c) at.0 ≡ stepped) (sym is)
        (get_or-set_same c.acts at.0 stepped fresh
        (omega (arith, before, called_within script well told s sound a may))) in
        ap (λ (act : ActState). act.phase) (other ∙ changed)

    opening_after : (place : Place) → parent_of script a ≡ place →
        after.opening ≡ (with_progress place step.Made c).opening
    opening_after place is = ap (λ (place : Place). (with_progress place step.Made c).opening) is

    passed : (place : Place) → parent_of script a ≡ place → IsNext script c place a → (k : ℕ) →
        slice_get (body_of script place) k ≡ Some a → IsAhead after place k → ⊥
    passed None is next k at ahead =
        let same : after.opening.made ≡ one_more c.opening.made =
        ap (λ (p : Progress). p.made) (opening_after None is) in
        let more = one_more-is c.opening.made (few_here None c.opening.made next.0) in
        let here = once None c.opening.made k next.0 at in
        absurd (omega (arith, same, more, here, ahead))
    passed (Some place) is next k at ahead =
        next_passed (body_of script (Some place)) place.1 (phase_at c place.0) a k (few_here (Some place)) (once (Some place))
        next
        at (subst (λ (p : ActPhase). AheadIn place.1 p k) (phase_after place is) ahead)

    not_ahead : (place : Place) (n k : ℕ) → slice_get (body_of script place) k ≡ Some n → IsAhead after place k →
        (a == n) ≡ false
    not_ahead place n k at ahead = elim (cases_eq n a) [
      | inl same ↦
          let here : slice_get (body_of script place) k ≡ Some a =
          subst (λ (n : ℕ). slice_get (body_of script place) k ≡ Some n) same at in
          let stands = stands_in script place a k here in
          absurd (passed place stands (subst (λ (place : Place). IsNext script c place a) stands next) k here ahead)
      | inr other ↦ apart-is a n (λ same. other (sym same))
    ]

    -- the call that is made is the open one
    open_here : (place : Place) → parent_of script a ≡ place → IsNext script c place a → Calls script after place a
    open_here None is next =
        let more = one_more-is c.opening.made (few_here None c.opening.made next.0) in
        subst (λ (p : Progress). (slice_get (body_of script None) p.back ≡ Some a) × (p.made ≡ p.back + 1))
        (sym (opening_after None is))
        (ap (slice_get (body_of script None)) (sym next.1) ∙ next.0, omega (arith, more, next.1))
    open_here (Some place) is next =
        subst (λ (p : ActPhase). CallsIn (body_of script (Some place)) place.1 p a) (sym (phase_after place is))
        (next_calls (body_of script (Some place)) place.1 (phase_at c place.0) a (few_here (Some place)) next)

    -- a handler that makes another call is as it was
    other_acts : (op : ℕ) → is_running (phase_at c op) ≡ true →
        ((at : ℕ × Class) → parent_of script a ≡ Some at → op ≢ at.0) → act_at after op ≡ act_at c op
    other_acts op runs apart =
        let fresh_phase : phase_at c a ≡ phase.Absent =
        ap (λ (act : ActState). act.phase) (sym (called_fresh script well told s sound a may)) in
        let isnt : op ≢ a = λ same.
        absurd (let wrong : false ≡ true =
        sym (ap is_running fresh_phase) ∙ (ap (λ n. is_running (phase_at c n)) (sym same) ∙ runs) in
        cc) in
        at_other (with_progress (parent_of script a) step.Made c).acts a op new isnt
        ∙ by_place (parent_of script a) apart
      where
        by_place : (place : Place) → ((at : ℕ × Class) → place ≡ Some at → op ≢ at.0) →
            act_at (with_progress place step.Made c) op ≡ act_at c op
        by_place None apart = refl
        by_place (Some at) apart =
            at_other c.acts at.0 op (record (act_at c at.0) { phase = progressed step.Made (phase_at c at.0) })
            (apart at refl)

    open_there : (place own : Place) (n : ℕ) → parent_of script a ≡ own → IsNext script c own a →
        Calls script c place n → Calls script after place n
    open_there None None n is next calls = absurd (omega (arith, next.1, calls.1))
    open_there None (Some at) n is next calls =
        subst (λ (p : Progress). (slice_get (body_of script None) p.back ≡ Some n) × (p.made ≡ p.back + 1))
        (sym (opening_after (Some at) is)) calls
    open_there (Some place) own n is next calls =
        let runs = calls_running (body_of script (Some place)) place.1 (phase_at c place.0) n calls in
        let same = other_acts place.0 runs (λ at own_at here.
        never at (own_at) here) in
        subst (λ (act : ActState). CallsIn (body_of script (Some place)) place.1 act.phase n) (sym same) calls
      where
        never : (at : ℕ × Class) → parent_of script a ≡ Some at → place.0 ≡ at.0 → ⊥
        never at own_at here =
            let here_next : NextIn (body_of script (Some at)) at.1 (phase_at c at.0) a =
            subst (λ (place : Place). IsNext script c place a) (sym is ∙ own_at) next in
            next_idle (body_of script (Some at)) at.1 (body_of script (Some place)) place.1 (phase_at c at.0) a n here_next
            (subst (λ (op : ℕ). CallsIn (body_of script (Some place)) place.1 (phase_at c op) n) here calls)

    calls_after : (n : ℕ) → is_open (call_at after n) ≡ true → Calls script after (parent_of script n) n
    calls_after n is = elim (cases_eq n a) [
      | inl same ↦
          subst (λ (n : ℕ). Calls script after (parent_of script n) n) (sym same)
          (open_here (parent_of script a) refl next)
      | inr other ↦
          open_there (parent_of script n) (parent_of script a) n refl next
          (sound.calls n (open_moved script n (event.Call a) (act_at c n) (act_at after n) (moves n)
          (apart-is a n (λ same. other (sym same))) is))
    ]

    made_rises : (place : Place) → parent_of script a ≡ place → IsNext script c place a →
        c.opening.made ≤ after.opening.made
    made_rises None is next =
        let same : after.opening.made ≡ one_more c.opening.made =
        ap (λ (p : Progress). p.made) (opening_after None is) in
        let more = one_more-is c.opening.made (few_here None c.opening.made next.0) in omega (arith, same, more)
    made_rises (Some at) is next =
        let same : after.opening.made ≡ c.opening.made = ap (λ (p : Progress). p.made) (opening_after (Some at) is) in
        omega (arith, same)

    pub sound_call : IsSound script (record { context = after_call script c a; reactor = r })
    sound_call =
        let steps = steps_by (parent_of script a) step.Made c in
        let d : ContextState = with_progress (parent_of script a) step.Made c in
        calling_by (event.Call a) after moves (λ n. refl) (λ n. refl) (λ n. refl)
        (length-set d.acts a new ∙ steps.count) (made_rises (parent_of script a) refl next) steps.turn steps.closings
        steps.dropping not_ahead calls_after
