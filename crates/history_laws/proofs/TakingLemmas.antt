-- An act that is taken.
use Rattle.std.proofs.Common.{◌≡◌, ◌≢◌, ℕ, ◌<◌, Bool, true, false, not, List, length, sym, ap, ◌∙◌, arith}
use Rattle.std.specs.List.{slice_index_or}
use Rattle.std.proofs.lemmas.Bool.{and_parts, not-true}
use Rattle.std.proofs.lemmas.List.{get_or-set_same, get_or-set_other}
use Rattle.session_script.specs.Script.{ScriptModel, act_of}
use Rattle.session_script.specs.WellFormed.{IsWellFormed}
use Rattle.history_rules.specs.Order.{is_request, was_taken}
use Rattle.history_rules.specs.Performing.{performed, performed_by}
use Rattle.history_rules.specs.Requests.{MayTake, reactor_after_take}
use Rattle.history_rules.specs.State.{ContextState, ReactorHalf, State, phase_at}
use Rattle.history_laws.proofs.ReactorLemmas.{StaysBut, stays_performed_by, stays_settled}
use Rattle.history_laws.proofs.Sound.{IsSound}
use Rattle.history_laws.proofs.StepLemmas.{is_there}

module _ (script : ScriptModel) (well : IsWellFormed script) (told : Bool) (s : State) (sound : IsSound script s) where
  abbrev c : ContextState
  c = s.context

  abbrev r : ReactorHalf
  r = s.reactor

  module _ (a : ℕ) (may : MayTake script s a) where
    abbrev pub by : ReactorHalf
    by = performed_by script a (act_of script a) r

    pub kept : StaysBut r by
    kept = stays_performed_by script a (act_of script a) r

    pub settle : StaysBut (performed script a r) (reactor_after_take script told r a)
    settle = stays_settled told (performed script a r)

    pub was : (is_request (phase_at c a) ≡ true) × (not (was_taken r a) ≡ true)
    was = and_parts (is_request (phase_at c a)) (not (was_taken r a)) may.untaken

    pub there : a < length r.taken
    there =
        let within = is_there c a (λ absent. absurd (let wrong : false ≡ true = sym (ap is_request absent) ∙ was.0 in cc)) in
        omega (arith, within, sound.acts, sound.takes)

    pub untaken : was_taken r a ≡ false
    untaken = not-true (was_taken r a) was.1

    pub taken_same : (n : ℕ) → n ≢ a → was_taken (reactor_after_take script told r a) n ≡ was_taken r n
    taken_same n other =
        ap (λ (taken : List Bool). slice_index_or taken n false) settle.taken
        ∙ (get_or-set_other by.taken a n true false other ∙ ap (λ (taken : List Bool). slice_index_or taken n false) kept.taken)

    pub taken_now : was_taken (reactor_after_take script told r a) a ≡ true
    taken_now =
        ap (λ (taken : List Bool). slice_index_or taken a false) settle.taken
        ∙ get_or-set_same by.taken a true false (let same = ap length kept.taken in omega (arith, there, same))
