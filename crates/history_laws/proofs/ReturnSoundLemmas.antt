-- A call that comes back keeps a state sound.
use Rattle.std.proofs.Common.{◌≡◌, ◌≢◌, ℕ, ◌+◌, Bool, true, false, List, Some, None, inl, inr, length, refl, sym, ap, subst, ◌∙◌, arith}
use Rattle.std.specs.List.{slice_index_or}
use Rattle.std.specs.Prelude.{slice_get}
use Rattle.std.proofs.lemmas.Bool.{cases_eq}
use Rattle.std.proofs.lemmas.List.{get_or-set_same, length-set}
use Rattle.asio_types.specs.declared.code.Class.{Class}
use Rattle.asio_types.specs.declared.event.Event.TheVariants as event
use Rattle.session_script.specs.Script.{Place, ScriptModel, is_stop, parent_of}
use Rattle.session_script.specs.WellFormed.{IsWellFormed}
use Rattle.history_rules.specs.Calls.{MayReturn, after_return, is_open, limited_by_stop, progressed, returned, with_progress}
use Rattle.history_rules.specs.Kinds.{is_act}
use Rattle.history_rules.specs.State.{ContextState, ReactorHalf, State, act_at, call_at, fresh, phase_at, with_act}
use Rattle.history_rules.specs.declared.phase.ActPhase.{ActPhase}
use Rattle.history_rules.specs.declared.phase.ActState.{ActState}
use Rattle.history_rules.specs.declared.phase.CallPhase.{CallPhase}
use Rattle.history_rules.specs.declared.phase.CallPhase.TheVariants as call
use Rattle.history_rules.specs.declared.phase.Progress.{Progress}
use Rattle.history_rules.specs.declared.phase.Step.TheVariants as step
use Rattle.history_laws.specs.Events.{is_call_of}
use Rattle.history_laws.proofs.BodyLemmas.{behind, body_of}
use Rattle.history_laws.proofs.GoingLemmas.{open_moved}
use Rattle.history_laws.proofs.Moves.{Moves}
use Rattle.history_laws.proofs.MovingLemmas.{moves_return, open_within, return_open}
use Rattle.history_laws.proofs.NextLemmas.{one_call, one_class}
use Rattle.history_laws.proofs.Sound.{Calls, CallsIn, IsAhead, IsSound}
use Rattle.history_laws.proofs.StepLemmas.{IsLimited, at_other, limited_by, steps_behind, steps_by}
use Rattle.history_laws.proofs.CallSoundLemmas.{calling_by}

returned_closed : (at : ℕ) (made : CallPhase) → is_open (returned at made) ≡ false
returned_closed at call.Uncalled = refl
returned_closed at (call.Open called) = refl
returned_closed at (call.Stopping called) = refl
returned_closed at (call.Back called back) = refl

opening_made : (place : Place) (c : ContextState) → (with_progress place step.Back c).opening.made ≡ c.opening.made
opening_made None c = refl
opening_made (Some at) c = refl

-- another body than that which the call is in makes its call as before
other_body : (place : Place) (at : ℕ × Class) (c : ContextState) →
    ((own : ℕ × Class) → place ≡ Some own → at.0 ≢ own.0) →
    act_at (with_progress place step.Back c) at.0 ≡ act_at c at.0
other_body None at c apart = refl
other_body (Some own) at c apart =
    at_other c.acts own.0 at.0 (record (act_at c own.0) { phase = progressed step.Back (phase_at c own.0) }) (apart own refl)

module _ (script : ScriptModel) (well : IsWellFormed script) (told : Bool) (s : State) (sound : IsSound script s) where
  abbrev c : ContextState
  c = s.context

  abbrev r : ReactorHalf
  r = s.reactor

  module _ (a : ℕ) (may : MayReturn script c a) where
    abbrev new : ActState
    new = record (act_at c a) { call = returned c.events (call_at c a) }

    abbrev d : ContextState
    d = with_act c a new

    abbrev t : ContextState
    t = with_progress (parent_of script a) step.Back d

    abbrev after : ContextState
    after = after_return script c a

    limits : IsLimited t (limited_by_stop script a t)
    limits = limited_by script (parent_of script a) a (is_act is_stop script a) t

    moves : (n : ℕ) → Moves script n (event.Back a) (act_at c n) (act_at after n)
    moves n = moves_return script well told s sound a may n

    own_calls : Calls script c (parent_of script a) a
    own_calls = sound.calls a (return_open script well told s sound a may)

    -- what an act has become is as it was
    phase_d : (n : ℕ) → phase_at d n ≡ phase_at c n
    phase_d n = elim (cases_eq n a) [
      | inl same ↦
          subst (λ (n : ℕ). phase_at d n ≡ phase_at c n) (sym same)
          (ap (λ (act : ActState). act.phase)
          (get_or-set_same c.acts a new fresh
          (open_within script well told s sound a (return_open script well told s sound a may))))
      | inr other ↦ ap (λ (act : ActState). act.phase) (at_other c.acts a n new other)
    ]

    act_after : (n : ℕ) → act_at after n ≡ act_at t n
    act_after n = ap (λ (acts : List ActState). slice_index_or acts n fresh) limits.acts

    open_there : (place own : Place) (n : ℕ) → n ≢ a → parent_of script a ≡ own → Calls script c own a →
        Calls script c place n → Calls script after place n
    open_there None None n other is first calls =
        absurd (other (let same : Some a ≡ Some n = sym first.0 ∙ calls.0 in let it : a ≡ n = cc in sym it))
    open_there None (Some at) n other is first calls =
        let opening : after.opening ≡ c.opening =
        limits.opening ∙ ap (λ (place : Place). (with_progress place step.Back d).opening) is in
        subst (λ (p : Progress). (slice_get (body_of script None) p.back ≡ Some n) × (p.made ≡ p.back + 1)) (sym opening)
        calls
    open_there (Some place) own n other is first calls =
        let same : phase_at after place.0 ≡ phase_at c place.0 =
        ap (λ (act : ActState). act.phase) (act_after place.0 ∙ other_body (parent_of script a) place d apart)
        ∙ phase_d place.0 in
        subst (λ (p : ActPhase). CallsIn (body_of script (Some place)) place.1 p n) (sym same) calls
      where
        apart : (at : ℕ × Class) → parent_of script a ≡ Some at → place.0 ≢ at.0
        apart at own_at here =
            let of_own : CallsIn (body_of script (Some at)) at.1 (phase_at c at.0) a =
            subst (λ (place : Place). Calls script c place a) (sym is ∙ own_at) first in
            let of_place : CallsIn (body_of script (Some place)) place.1 (phase_at c at.0) n =
            subst (λ (op : ℕ). CallsIn (body_of script (Some place)) place.1 (phase_at c op) n) here calls in
            let class : at.1 ≡ place.1 =
            one_class (body_of script (Some at)) at.1 (body_of script (Some place)) place.1 (phase_at c at.0) a n of_own
            of_place in
            let in_one : CallsIn (body_of script (Some at)) at.1 (phase_at c at.0) n =
            subst (λ (class : Class). CallsIn (body_of script (Some (at.0, class))) class (phase_at c at.0) n) (sym class)
            (subst (λ (op : ℕ). CallsIn (body_of script (Some (op, place.1))) place.1 (phase_at c at.0) n) here of_place) in
            other (sym (one_call (body_of script (Some at)) at.1 (phase_at c at.0) a n of_own in_one))

    calls_after : (n : ℕ) → is_open (call_at after n) ≡ true → Calls script after (parent_of script n) n
    calls_after n is = elim (cases_eq n a) [
      | inl same ↦
          let here : act_at after a ≡ new =
          act_after a ∙ (steps_behind (parent_of script a) step.Back d a (behind script well a)
          ∙ get_or-set_same c.acts a new fresh
          (open_within script well told s sound a (return_open script well told s sound a may))) in
          let closed : is_open (call_at after a) ≡ false =
          ap (λ (act : ActState). is_open act.call) here ∙ returned_closed c.events (call_at c a) in
          let opened : is_open (call_at after a) ≡ true = subst (λ (n : ℕ). is_open (call_at after n) ≡ true) same is in
          absurd (let wrong : true ≡ false = sym opened ∙ closed in cc)
      | inr other ↦
          open_there (parent_of script n) (parent_of script a) n other refl own_calls
          (sound.calls n (open_moved script n (event.Back a) (act_at c n) (act_at after n) (moves n) refl is))
    ]

    not_ahead : (place : Place) (n k : ℕ) → slice_get (body_of script place) k ≡ Some n → IsAhead after place k →
        is_call_of n (event.Back a) ≡ false
    not_ahead place n k at ahead = refl

    pub sound_return : IsSound script (record { context = after_return script c a; reactor = r })
    sound_return =
        let steps = steps_by (parent_of script a) step.Back d in
        let opening = opening_made (parent_of script a) d in
        let same : after.opening.made ≡ c.opening.made = ap (λ (p : Progress). p.made) limits.opening ∙ opening in
        calling_by script well told s sound (event.Back a) after moves (λ n. refl) (λ n. refl) (λ n. refl)
        (ap length limits.acts ∙ (steps.count ∙ length-set c.acts a new)) (omega (arith, same))
        (limits.turn ∙ steps.turn) (limits.closings ∙ steps.closings) (limits.dropping ∙ steps.dropping) not_ahead calls_after
