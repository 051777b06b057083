-- Calls by handlers in a session that a number makes, and their returns.
use Rattle.std.proofs.Common.{◌≡◌, ◌≢◌, ℕ, ◌<◌, ◌==◌, inl, inr, zero, suc, Bool, true, false, not, ◌||◌, cond, List, [], ◌∷◌, length, Option, Some, None, refl, ap, sym, ◌∙◌, subst, arith}
use Rattle.std.specs.Option.{IsSomeAnd}
use Rattle.std.specs.List.{slice_get, slice_set}
use Rattle.std.proofs.Math.ListN.{length-set}
use Rattle.std.proofs.lemmas.Bool.{and_parts, cases_lt}
use Rattle.std.proofs.lemmas.List.{get_or_past}
use Rattle.std.proofs.lemmas.Option.{slice_get_past}
use Rattle.asio_types.specs.Faults.{one_more}
use Rattle.asio_types.specs.declared.code.Class.{Class}
use Rattle.asio_types.specs.declared.code.Code.TheVariants as code
use Rattle.asio_types.specs.declared.event.Event.TheVariants as event
use Rattle.session_script.specs.declared.act.Act.{Act}
use Rattle.session_script.specs.Lanes.{is_inline}
use Rattle.session_script.specs.Script.{branch_of, Entry, is_operation, opening_of, same_class}
use Rattle.history_rules.specs.Calls.{accepted, Body, body_at, has_ended, is_call_done, is_made, IsNextOf, progressed, returned, running_body, stepped}
use Rattle.history_rules.specs.Kinds.{is_act, is_control, is_posting}
use Rattle.history_rules.specs.Order.{is_request}
use Rattle.history_rules.specs.State.{ContextState, fresh}
use Rattle.history_rules.specs.declared.phase.ActPhase.{ActPhase}
use Rattle.history_rules.specs.declared.phase.ActPhase.TheVariants as phase
use Rattle.history_rules.specs.declared.phase.ActState.{ActState}
use Rattle.history_rules.specs.declared.phase.CallPhase.{CallPhase}
use Rattle.history_rules.specs.declared.phase.CallPhase.TheVariants as call
use Rattle.history_rules.specs.declared.phase.Cause.TheVariants as cause
use Rattle.history_rules.specs.declared.phase.Progress.{Progress}
use Rattle.history_rules.specs.declared.phase.Step.TheVariants as step
use Rattle.history_rules.specs.State.{ReactorHalf}
use Rattle.generated_session.specs.Generator.{session_of}
use Rattle.generated_session.proofs.FitLemmas.{fits, has_made, is_back, is_born, is_called, posting_accepted, posting_never_requested, runs_on, test_in, uncalled_absent}
use Rattle.generated_session.proofs.GatherLemmas.{one_if}
use Rattle.generated_session.proofs.GoingLemmas.{ActStep}
use Rattle.generated_session.proofs.ItemsLemmas.{AreItems, dispatch, IsKnown, IsPosting, IsUnder, known, nth_act, nth_place, post, under}
use Rattle.generated_session.proofs.StatesLemmas.{ActsFit, CallsNested, Changes, acts_fit-called, acts_fit-changed, at, called-changed, changed, ended-changed, is_there}
use Rattle.generated_session.proofs.TurnsLemmas.{Turns, turns_changed}

-- a handler whose next call is this one
pub record IsCaller (acts : List Entry) (p a : ℕ) (c : Class) (at_caller : ActPhase) : Type 0 where
  pub running : Class
  pub progress : Progress
  pub is : at_caller ≡ phase.Running running progress
  pub next : slice_get (branch_of (session_of acts) p c) progress.made ≡ Some a

by_class : (acts : List Entry) (p a : ℕ) (c running : Class) (progress : Progress) (b : Bool) →
    IsSomeAnd (cond b
    (Some (let body : Body = record { acts = branch_of (session_of acts) p c; progress = progress } in body)) None)
    (IsNextOf a) → IsCaller acts p a c (phase.Running running progress)
by_class acts p a c running progress true next = record {
  running = running;
  progress = progress;
  is = refl;
  next = next.next;
}
by_class acts p a c running progress false next = absurd next

pub caller_of : (acts : List Entry) (p a : ℕ) (c : Class) (q : ActPhase) →
    IsSomeAnd (running_body (session_of acts) p c q) (IsNextOf a) → IsCaller acts p a c q
caller_of acts p a c (phase.Running running progress) next =
    by_class acts p a c running progress (same_class running c) next
caller_of acts p a c q next = absurd next

-- a call of `open` is the next one of its acts
pub opening_next : (acts : List Entry) (failed : Bool) (s : ContextState) (a : ℕ) → failed ≡ false →
    IsSomeAnd (body_at (session_of acts) failed s None) (IsNextOf a) →
    IsNextOf a (record { acts = opening_of (session_of acts); progress = s.opening })
opening_next acts failed s a works may =
    subst (λ b. IsSomeAnd (body_at (session_of acts) b s None) (IsNextOf a)) works may

-- none comes once all were made
pub opening_over : (acts : List Entry) (failed : Bool) (s : ContextState) (a : ℕ) → failed ≡ false →
    s.opening.made ≡ length (opening_of (session_of acts)) →
    IsSomeAnd (body_at (session_of acts) failed s None) (IsNextOf a) → ⊥
opening_over acts failed s a works made may =
    let past = slice_get_past (opening_of (session_of acts)) s.opening.made (omega (arith, made)) in
    let wrong : None ≡ Some a = sym past ∙ (opening_next acts failed s a works may).next in cc

first_alone : (a made : ℕ) → slice_get (a ∷ []) made ≡ Some a → made ≡ 0
first_alone a zero is = refl
first_alone a (suc made) is = absurd (cc is)

posting_test : {a : Act} → IsPosting a → is_posting a ≡ true
posting_test (post strand small) = refl
posting_test (dispatch strand small) = refl

never_ended : (inline posting operation control : Bool) → has_ended
    (cond inline phase.Inside (cond posting (phase.Ready code.Ok 0 cause.Posted)
    (cond operation phase.Requested (cond control phase.Asked phase.Absent)))) ≡ false
never_ended true posting operation control = refl
never_ended false true operation control = refl
never_ended false false true control = refl
never_ended false false false true = refl
never_ended false false false false = refl

pub accepted_runs : (acts : List Entry) (a : ℕ) → has_ended (accepted (session_of acts) a) ≡ false
accepted_runs acts a =
    let script = session_of acts in
    never_ended (is_inline script a) (is_act is_posting script a) (is_act is_operation script a) (is_act is_control script a)

-- a handler of a posting makes its only call
module _ (acts : List Entry) (items : AreItems 0 acts) (states : List ActState) (a p place : ℕ) (c : Class)
    (was : ActsFit acts states) (parent : nth_place acts a ≡ Some (p, c))
    (caller : IsCaller acts p a c (at states p).phase) where
  inside : IsUnder acts a p c
  inside = under acts items a p c parent

  not_made : caller.progress.made ≡ 0
  not_made =
      first_alone a caller.progress.made (ap (λ branch. slice_get branch caller.progress.made) (sym inside.only) ∙ caller.next)

  abbrev above : ActState
  above = record (at states p) { phase = progressed step.Made (at states p).phase }

  abbrev below : ActState
  below = record { call = call.Open place; phase = accepted (session_of acts) a }

  abbrev half : List ActState
  half = slice_set states p above

  abbrev pub called_states : List ActState
  called_states = slice_set half a below

  p_below : p < length states
  p_below = is_there states p (ap is_born caller.is)

  a_below : a < length half
  a_below =
      let less = inside.within in
      let size = was.size in let same = length-set states p above in omega (arith, less, size, same)

  p_apart : p ≢ a
  p_apart same = let next = inside.next in absurd (omega (arith, same, next))

  first : Changes states half p above
  first = changed states p above p_below

  second : Changes half called_states a below
  second = changed half a below a_below

  uncalled : is_called (at states a).call ≡ false
  uncalled = was.nested a p c parent ∙ ap has_made caller.is ∙ ap (λ n. not (n == 0)) not_made

  absent : (at states a).phase ≡ phase.Absent
  absent =
      uncalled_absent (known acts items a) (at states a).phase
      (ap (λ b. fits (nth_act acts a) b (at states a).phase) (sym uncalled) ∙ was.fit a)

  posting_here : test_in is_posting (nth_act acts a) ≡ true
  posting_here = ap (test_in is_posting) inside.made_is ∙ posting_test inside.also

  runs_above : fits (nth_act acts p) (is_called (at states p).call) above.phase ≡ true
  runs_above =
      ap (λ q. fits (nth_act acts p) (is_called (at states p).call) (progressed step.Made q)) caller.is
      ∙ runs_on (known acts items p) (is_called (at states p).call) caller.running caller.progress
      (stepped step.Made caller.progress)
      (ap (fits (nth_act acts p) (is_called (at states p).call)) (sym caller.is) ∙ was.fit p)

  fits_below : fits (nth_act acts a) true (accepted (session_of acts) a) ≡ true
  fits_below = posting_accepted acts a (known acts items a) posting_here

  calls : CallsNested acts states called_states a p below above
  calls = record {
    there = second.here;
    above = second.others p p_apart ∙ first.here;
    others = λ m one two. second.others m one ∙ first.others m two;
    size = second.size ∙ first.size;
    fit = fits_below;
    fit_above = runs_above;
    back = refl;
    counts = refl;
    made = ap (λ q. has_made (progressed step.Made q)) caller.is ∙ ap (λ n. not (one_more n == 0)) not_made;
  }

  half_here : at half a ≡ at states a
  half_here = first.others a (λ same. p_apart (sym same))

  size_p : p < length acts
  size_p = let less = p_below in let size = was.size in omega (arith, less, size)

  pub call_step : ActStep acts states called_states (event.Call a)
  call_step = record {
    fit = acts_fit-called acts items states called_states a p c parent below above was calls;
    calls =
        let one = called-changed states half p above (length acts) first size_p in
        let two = called-changed half called_states a below (length acts) second inside.within in
        let here = ap (λ (act : ActState). one_if (is_called act.call)) half_here in
        let none = ap one_if uncalled in
        omega (arith, one, two, here, none);
    ends = λ weight.
        let one = ended-changed weight states half p above (length acts) first size_p in
        let two = ended-changed weight half called_states a below (length acts) second inside.within in
        let here = ap (λ (act : ActState). cond (has_ended act.phase) (weight a) 0) half_here in
        let none = ap (λ q. cond (has_ended q) (weight a) 0) absent in
        let running = ap (λ q. cond (has_ended q) (weight p) 0) caller.is in
        let runs = ap (λ q. cond (has_ended (progressed step.Made q)) (weight p) 0) caller.is in
        let accepts = ap (λ b. cond b (weight a) 0) (accepted_runs acts a) in
        omega (arith, one, two, here, none, running, runs, accepts);
  }

  pub call_turns : (r : ReactorHalf) (from : ℕ) (left : List ℕ) → Turns acts states r from left →
      Turns acts called_states r from left
  call_turns r from left turns =
      let middle : Turns acts half r from left =
      turns_changed acts states half p above r from left turns first (ap is_request caller.is)
      (ap (λ q. is_request (progressed step.Made q)) caller.is) in
      turns_changed acts half called_states a below r from left middle second
      (ap (λ (act : ActState). is_request act.phase) half_here ∙ ap is_request absent)
      (posting_never_requested inside.also true (accepted (session_of acts) a)
      (ap (λ act. fits act true (accepted (session_of acts) a)) (sym inside.made_is) ∙ fits_below))

-- a call that may return was made, and hasn't stopped anything
pub made_by_test : (stops inside : Bool) (act : ActState) → stops ≡ false → is_call_done stops inside act ≡ true →
    is_made act.call ≡ true
made_by_test true inside act never done = absurd (cc never)
made_by_test false inside act never done = (and_parts (is_made act.call) (not inside || has_ended act.phase) done).0

pub made_not_back : (c : CallPhase) → is_made c ≡ true → is_back c ≡ true → ⊥
made_not_back (call.Back called back) made is = cc made
made_not_back c made is = cc is

returned_called : (place : ℕ) (c : CallPhase) → is_called (returned place c) ≡ is_called c
returned_called place call.Uncalled = refl
returned_called place (call.Open called) = refl
returned_called place (call.Stopping called) = refl
returned_called place (call.Back called back) = refl

module _ (acts : List Entry) (items : AreItems 0 acts) (states : List ActState) (a place : ℕ)
    (was : ActsFit acts states) (made : is_made (at states a).call ≡ true) where
  abbrev back_here : ActState
  back_here = record (at states a) { call = returned place (at states a).call }

  abbrev pub back_states : List ActState
  back_states = slice_set states a back_here

  pub called_now : is_called (at states a).call ≡ true
  called_now = by_call (at states a).call made
    where
      by_call : (c : CallPhase) → is_made c ≡ true → is_called c ≡ true
      by_call call.Uncalled is = absurd (cc is)
      by_call c is = refl

  back_below : a < length states
  back_below = elim (cases_lt a (length states)) [
    | inl less ↦ less
    | inr past ↦
        absurd (let wrong : false ≡ true =
        sym (ap (λ (act : ActState). is_called act.call) (get_or_past states a fresh past)) ∙ called_now in
        cc)
  ]

  pub back_changes : Changes states back_states a back_here
  back_changes = changed states a back_here back_below

  pub back_size : a < length acts
  back_size = let less = back_below in let size = was.size in omega (arith, less, size)

  pub back_fit : ActsFit acts back_states
  back_fit = acts_fit-changed acts states back_states a back_here was back_changes (record {
    fit = ap (λ b. fits (nth_act acts a) b (at states a).phase) (returned_called place (at states a).call) ∙ was.fit a;
    opened = λ is. absurd (made_not_back (at states a).call made (was.opened a is));
    makes = λ n c parent. refl;
    called = λ p c parent. returned_called place (at states a).call;
  })

  pub back_step : ActStep acts states back_states (event.Back a)
  back_step = record {
    fit = back_fit;
    calls =
        let one = called-changed states back_states a back_here (length acts) back_changes back_size in
        let same = ap one_if (returned_called place (at states a).call) in
        omega (arith, one, same);
    ends = λ weight.
        let one = ended-changed weight states back_states a back_here (length acts) back_changes back_size in
        omega (arith, one);
  }

-- what a call's return changes of the handler that made it: how far it has come
pub progress_fits : {o : Option Act} → IsKnown o → (b : Bool) (q : ActPhase) → fits o b q ≡ true →
    fits o b (progressed step.Back q) ≡ true
progress_fits is b (phase.Running c progress) fit = runs_on is b c progress (stepped step.Back progress) fit
progress_fits is b phase.Absent fit = fit
progress_fits is b phase.Inside fit = fit
progress_fits is b phase.Requested fit = fit
progress_fits is b (phase.Ready code size why) fit = fit
progress_fits is b phase.Ended fit = fit
progress_fits is b phase.Dropped fit = fit
progress_fits is b phase.Asked fit = fit

pub progress_made : (q : ActPhase) → has_made (progressed step.Back q) ≡ has_made q
progress_made (phase.Running c progress) = refl
progress_made q = refl

pub progress_ended : (q : ActPhase) → has_ended (progressed step.Back q) ≡ has_ended q
progress_ended (phase.Running c progress) = refl
progress_ended q = refl

pub progress_requests : (q : ActPhase) → is_request q ≡ false → is_request (progressed step.Back q) ≡ false
progress_requests (phase.Running c progress) never = refl
progress_requests phase.Requested never = absurd (cc)
progress_requests phase.Asked never = absurd (cc)
progress_requests q never = refl
