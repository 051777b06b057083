-- An event whose draw changes what it has to keeps the parts of the clock word what its history makes them.
use Rattle.std.proofs.Common.{◌≡◌, ℕ, ◌+◌, ◌^◌, ◌<◌, ◌≤◌, Bool, true, false, cond, List, [], ◌∷◌, length, sym, subst, arith}
use Rattle.std.specs.Prelude.{count_by}
use Rattle.std.proofs.lemmas.List.Sums.{sum_by-cons}
use Rattle.asio_types.specs.declared.event.Event.{Event}
use Rattle.session_script.specs.Script.{ScriptModel}
use Rattle.session_script.specs.WellFormed.{IsWellFormed}
use Rattle.session_script.proofs.PlacesLemmas.{acts_allowed}
use Rattle.history_rules.specs.Legal.{MayHappen, after_event}
use Rattle.history_rules.specs.Order.{was_taken}
use Rattle.history_rules.specs.Rounds.{is_act_outstanding, is_held, outstanding_work}
use Rattle.history_rules.specs.State.{State, call_at}
use Rattle.history_rules.specs.declared.phase.CallPhase.TheVariants as call
use Rattle.lane_clock.specs.declared.found.Change.{Change}
use Rattle.execution_laws.proofs.CountingLemmas.{counted-most, counted-range}
use Rattle.history_merge.proofs.ChangeLemmas.{halts_change}
use Rattle.history_merge.proofs.EventWorkLemmas.{work_after}
use Rattle.history_merge.proofs.FrameLemmas.{length-after}
use Rattle.history_merge.proofs.GuardLemmas.{length-guards}
use Rattle.history_merge.proofs.KindLemmas.{AreOfKind}
use Rattle.history_merge.proofs.OrderlyLemmas.{IsExpected, IsInOrder}
use Rattle.history_merge.proofs.StopLemmas.{Halts, halts_with}
use Rattle.history_merge.proofs.WordLemmas.{IsCountedBy}
use Rattle.history_merge.proofs.WorkLemmas.{change_by}

-- no more than all acts and all guards are outstanding
held_most : (guards : List Bool) → count_by is_held guards ≤ length guards
held_most [] = omega arith
held_most (held ∷ guards) =
    let one = sum_by-cons (λ b. cond (is_held b) 1 0) held guards in
    let rest = held_most guards in
    by_held held one rest
  where
    by_held : (held : Bool) → count_by is_held (held ∷ guards) ≡ cond (is_held held) 1 0 + count_by is_held guards →
        count_by is_held guards ≤ length guards → count_by is_held (held ∷ guards) ≤ length (held ∷ guards)
    by_held true one rest = omega (arith, one, rest)
    by_held false one rest = omega (arith, one, rest)

pub work_most : (s : State) → outstanding_work s ≤ length s.context.acts + length s.reactor.guards
work_most s =
    let acts = counted-range (is_act_outstanding s) (length s.context.acts) in
    let most = counted-most (is_act_outstanding s) (length s.context.acts) in
    let held = held_most s.reactor.guards in
    omega (arith, acts, most, held)

module _ (script : ScriptModel) (well : IsWellFormed script) (told : Bool) (s : State) (order : IsInOrder script s.context)
    (kinds : AreOfKind script s.context.acts)
    (untaken : (n : ℕ) → call_at s.context n ≡ call.Uncalled → was_taken s.reactor n ≡ false)
    (marks : length s.reactor.taken ≡ length script.acts) (guards : length s.reactor.guards ≡ script.guards)
    (few : script.guards < 2 ^ 15) where
  pub event_counted : (halts : Halts) (shown : Event) (changes : Change) → MayHappen script told s shown →
      IsExpected s.context shown → changes ≡ change_by script s.reactor shown →
      (halts_with shown halts).stops < 2 ^ 16 → IsCountedBy script told s halts shown changes
  event_counted halts shown changes may expected is room =
      subst (IsCountedBy script told s halts shown) (sym is) (record {
        work = work_after script well told s order kinds untaken marks shown may expected;
        stops = halts_change script s.reactor shown halts;
        few_work =
            let most = work_most (after_event script told s shown) in
            let acts = length-after script s.context shown in
            let held = length-guards script told s.reactor shown in
            let allowed = acts_allowed script.version in
            let size = order.size in
            let count = well.acts.count in
            omega (arith, most, acts, held, allowed, size, count, guards, few);
        few_stops = room;
      })
