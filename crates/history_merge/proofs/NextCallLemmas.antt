-- A call finds its act uncalled, and after it the act was called.
use Rattle.std.proofs.Common.{◌≡◌, ℕ, ◌<◌, Bool, true, false, cond, List, Some, None, inl, inr, length, refl, sym, ap, subst, ◌∙◌, arith}
use Rattle.std.specs.Prelude.{IsSomeAnd, slice_get}
use Rattle.std.proofs.lemmas.Bool.{cases_lt}
use Rattle.std.proofs.lemmas.List.{get_or_past}
use Rattle.asio_types.specs.Faults.{most_faults, one_more}
use Rattle.asio_types.specs.declared.code.Class.{Class}
use Rattle.asio_types.specs.declared.code.Class.TheVariants as class
use Rattle.asio_types.specs.declared.event.Event.TheVariants as event
use Rattle.session_script.specs.Script.{Place, ScriptModel, branch_of, opening_of, parent_of, same_class}
use Rattle.session_script.specs.WellFormed.{HasParent, IsWellFormed}
use Rattle.session_script.proofs.OrderLemmas.{same_place-true}
use Rattle.session_script.proofs.PlacingLemmas.{has_parent}
use Rattle.history_rules.specs.Calls.{IsNextOf, MayCall, body_at, is_open, progressed, running_body, stepped, with_progress}
use Rattle.history_rules.specs.Legal.{context_after}
use Rattle.history_rules.specs.State.{ContextState, act_at, call_at, fresh, phase_at}
use Rattle.history_rules.specs.declared.phase.ActPhase.{ActPhase}
use Rattle.history_rules.specs.declared.phase.ActPhase.TheVariants as phase
use Rattle.history_rules.specs.declared.phase.ActState.{ActState}
use Rattle.history_rules.specs.declared.phase.CallPhase.TheVariants as call
use Rattle.history_rules.specs.declared.phase.Progress.{Progress}
use Rattle.history_rules.specs.declared.phase.Step.TheVariants as step
use Rattle.execution_laws.proofs.ApartLemmas.{numbers_rise}
use Rattle.execution_laws.proofs.PlaceLemmas.{within_script}
use Rattle.execution_laws.proofs.StateLemmas.{acts_in}
use Rattle.history_merge.proofs.AlikeLemmas.{never}
use Rattle.history_merge.proofs.FrameLemmas.{calling_act}
use Rattle.history_merge.proofs.OrderlyLemmas.{HasMade, IsInOrder, IsMadeIn, uncalled_or}

-- the act that a body calls next, and its index there
record IsNextIn (class : Class) (acts : List ℕ) (a : ℕ) (of : ActPhase) : Type 0 where
  k : ℕ
  at : slice_get acts k ≡ Some a
  unmade : HasMade class k of → ⊥
  made : k < most_faults → HasMade class k (progressed step.Made of)

class_in : Place → Class
class_in None = class.Ok
class_in (Some at) = at.1

same_class-is : (a b : Class) → same_class a b ≡ true → a ≡ b
unfolding class_in
same_class-is a b is = sym (ap class_in (same_place-true (Some (0, a)) (Some (0, b)) is))

module _ (script : ScriptModel) (a o : ℕ) (class : Class) where
  by_class : (running : Class) (progress : Progress) (same : Bool) → same_class running class ≡ same →
      IsSomeAnd (cond same (Some (record { acts = branch_of script o class; progress = progress })) None) (IsNextOf a) →
      IsNextIn class (branch_of script o class) a (phase.Running running progress)
  by_class running progress true is next = record {
    k = progress.made;
    at = next.next;
    unmade = λ made. absurd (omega (arith, made.1));
    made = λ few. (same_class-is running class is, omega (arith, few));
  }
  by_class running progress false is next = absurd next

  in_branch : (of : ActPhase) → IsSomeAnd (running_body script o class of) (IsNextOf a) →
      IsNextIn class (branch_of script o class) a of
  in_branch (phase.Running running progress) next =
      by_class running progress (same_class running class) refl next
  in_branch other next = absurd next

pub in_opening : (script : ScriptModel) (a : ℕ) (failed : Bool) (s : ContextState) →
    IsSomeAnd (body_at script failed s None) (IsNextOf a) →
    IsNextOf a (record { acts = opening_of script; progress = s.opening })
in_opening script a true s next = absurd next
in_opening script a false s next = next

index_once : (script : ScriptModel) (place : Place) (i j a : ℕ) → slice_get (acts_in script place) i ≡ Some a →
    slice_get (acts_in script place) j ≡ Some a → i ≡ j
index_once script place i j a first second = elim (cases_lt i j) [
  | inl less ↦
      let wrong : a < a = numbers_rise place 0 script.acts i j a a less first second in absurd (omega (arith, wrong))
  | inr rest ↦ elim (cases_lt j i) [
    | inl less ↦
        let wrong : a < a = numbers_rise place 0 script.acts j i a a less second first in absurd (omega (arith, wrong))
    | inr also ↦ omega (arith, rest, also)
  ]
]

is_fresh : (x : ActState) → x.call ≡ call.Uncalled → x.phase ≡ phase.Absent → x ≡ fresh
is_fresh x uncalled absent =
    ap (λ c. record { call = c; phase = x.phase }) uncalled ∙ ap (λ p. record { call = call.Uncalled; phase = p }) absent

module _ (script : ScriptModel) (well : IsWellFormed script) (s : ContextState) (order : IsInOrder script s) where
  -- a call finds its act uncalled
  uncalled_by : (failed : Bool) (a : ℕ) (place : Place) → IsSomeAnd (body_at script failed s place) (IsNextOf a) →
      call_at s a ≡ call.Uncalled
  uncalled_by failed a None may =
      let next = in_opening script a failed s may in
      uncalled_or (call_at s a) (λ called.
      let made : s.opening.made < s.opening.made = order.made None s.opening.made a next.next called in
      omega (arith, made))
  uncalled_by failed a (Some at) may =
      let next : IsNextIn at.1 (branch_of script at.0 at.1) a (phase_at s at.0) =
      in_branch script a at.0 at.1 (phase_at s at.0) may in
      uncalled_or (call_at s a) (λ called. next.unmade (order.made (Some at) next.k a next.at called))

  pub uncalled_next : (failed : Bool) (a : ℕ) → MayCall script failed s a → call_at s a ≡ call.Uncalled
  uncalled_next failed a may = uncalled_by failed a (parent_of script a) may

  pub fresh_next : (failed : Bool) (a : ℕ) → MayCall script failed s a → act_at s a ≡ fresh
  fresh_next failed a may =
      let uncalled = uncalled_next failed a may in is_fresh (act_at s a) uncalled ((order.acts a).absent uncalled)

  -- the act is one of the script's
  within_by : (failed : Bool) (a : ℕ) (place : Place) → IsSomeAnd (body_at script failed s place) (IsNextOf a) →
      a < length script.acts
  within_by failed a None may =
      let next = in_opening script a failed s may in within_script script well None a s.opening.made next.next
  within_by failed a (Some at) may =
      let next : IsNextIn at.1 (branch_of script at.0 at.1) a (phase_at s at.0) =
      in_branch script a at.0 at.1 (phase_at s at.0) may in within_script script well (Some at) a next.k next.at

  pub next_within : (failed : Bool) (a : ℕ) → MayCall script failed s a → a < length script.acts
  next_within failed a may = within_by failed a (parent_of script a) may

  -- and after it the call was made
  pub made_by : (failed : Bool) (a : ℕ) (place : Place) → parent_of script a ≡ place →
      IsSomeAnd (body_at script failed s place) (IsNextOf a) → (k : ℕ) → k < most_faults →
      slice_get (acts_in script place) k ≡ Some a → a < length script.acts →
      IsMadeIn (context_after script s (event.Call a)) place k
  made_by failed a None under may k few at within =
      let next = in_opening script a failed s may in
      let same : k ≡ s.opening.made = index_once script None k s.opening.made a at next.next in
      let opening : (with_progress (parent_of script a) step.Made s).opening ≡ stepped step.Made s.opening =
      ap (λ place. (with_progress place step.Made s).opening) under in
      subst (λ (p : Progress). k < p.made) (sym opening)
      (let more : k < one_more s.opening.made = omega (arith, same, few) in more)
  made_by failed a (Some at) under may k few stands within =
      let next : IsNextIn at.1 (branch_of script at.0 at.1) a (phase_at s at.0) =
      in_branch script a at.0 at.1 (phase_at s at.0) may in
      let same : k ≡ next.k = index_once script (Some at) k next.k a stands next.at in
      let before : at.0 < a = (subst (HasParent script.acts a) under (has_parent script a well)).0 in
      subst (HasMade at.1 k)
      (sym (ap (λ (act : ActState). act.phase)
      (calling_act script s a at.0 at.1 under (λ wrong. absurd (omega (arith, before, wrong)))
      (omega (arith, before, within, order.size)))))
      (subst (λ k. HasMade at.1 k (progressed step.Made (phase_at s at.0))) (sym same)
      (next.made (omega (arith, few, same))))

-- an act whose call is open is there
pub open_within : (s : ContextState) (a : ℕ) → is_open (call_at s a) ≡ true → a < length s.acts
open_within s a is = elim (cases_lt a (length s.acts)) [
  | inl within ↦ within
  | inr beyond ↦
      absurd (never (is_open (call_at s a)) (ap (λ (act : ActState). is_open act.call) (get_or_past s.acts a fresh beyond)) is)
]
