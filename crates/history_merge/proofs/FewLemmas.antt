-- A legal history has few stops: one failure, as many ends of rounds as rounds, one stop for each act that stops the
-- context, and of each worker one stop from outside a round.
use Rattle.std.proofs.Common.{◌≡◌, ℕ, ◌+◌, ◌<◌, ◌≤◌, Bool, true, false, List, [], ◌∷◌, None, Some, length, refl, ap, arith}
use Rattle.asio_types.specs.Faults.{one_more}
use Rattle.asio_types.specs.declared.event.Event.{Event}
use Rattle.asio_types.specs.declared.event.Event.TheVariants as event
use Rattle.session_script.specs.Script.{ScriptModel}
use Rattle.session_script.specs.WellFormed.{IsWellFormed}
use Rattle.history_rules.specs.FromOutside.{is_fault, is_outside_stop}
use Rattle.history_rules.specs.Legal.{IsLegalFrom, MayHappen, after_event, context_after, reactor_after}
use Rattle.history_rules.specs.State.{ContextState, ReactorHalf, State}
use Rattle.execution_laws.proofs.CountLemmas.{one_more-is}
use Rattle.execution_laws.proofs.RecordRoomLemmas.{rounds-below}
use Rattle.reactor_turns.proofs.SummingLemmas.{one_if}
use Rattle.history_merge.proofs.FrameLemmas.{RoundPart, part-after, round_after, round_part}
use Rattle.history_merge.proofs.RestingLemmas.{take_works}
use Rattle.history_merge.proofs.StopLemmas.{Halts, halts_from, halts_of, halts_with, no_halts}
use Rattle.history_rules.specs.Time.{at_last, at_time}
use Rattle.reactor_turns.proofs.ClockLemmas.{settled-clock, time-done}
use Rattle.history_merge.proofs.TimesLemmas.{times}

abbrev pub is_ended : Event → Bool
is_ended event.Ended = true
is_ended _ = false

-- an act stops the context
abbrev pub is_act_stop : Event → Bool
is_act_stop (event.Stop (Some a)) = true
is_act_stop _ = false

-- all stops are of these kinds
abbrev kinds_of : Event → ℕ
kinds_of shown =
    one_if (is_act_stop shown) + one_if (is_outside_stop shown) + one_if (is_fault shown) + one_if (is_ended shown)

halts_kind : (shown : Event) (halts : Halts) → (halts_with shown halts).stops ≡ halts.stops + kinds_of shown
halts_kind (event.Stop (Some a)) halts = omega arith
halts_kind (event.Stop None) halts = omega arith
halts_kind event.Fault halts = omega arith
halts_kind event.Ended halts = omega arith
halts_kind event.Restart halts = omega arith
halts_kind other halts = omega arith

stops_from : (halts : Halts) (events : List Event) →
    (halts_from halts events).stops
    ≡ halts.stops
    + (times is_act_stop events + times is_outside_stop events + times is_fault events + times is_ended events)
stops_from halts [] = omega arith
stops_from halts (shown ∷ events) =
    let rest = stops_from (halts_with shown halts) events in
    let one = halts_kind shown halts in
    omega (arith, rest, one)

pub stops_are : (events : List Event) →
    (halts_of events).stops
    ≡ times is_act_stop events + times is_outside_stop events + times is_fault events + times is_ended events
stops_are events = let all = stops_from no_halts events in omega (arith, all)

-- a round ends but as long as one is left
module _ (script : ScriptModel) (well : IsWellFormed script) (told : Bool) where
  closings_are : (s : ContextState) (shown : Event) →
      (context_after script s shown).closings ≡ (round_after shown (round_part s)).closings
  closings_are s shown = ap (λ (part : RoundPart). part.closings) (part-after script s shown)

  pub one_closed : (c : ℕ) → c < length script.rounds → one_more c ≡ c + 1
  one_closed c left =
      let few = rounds-below script.version in
      let most = well.round_count in
      one_more-is c (omega (arith, left, few, most))

  ended_next : (s : State) (shown : Event) → MayHappen script told s shown → s.context.closings ≤ length script.rounds →
      ((after_event script told s shown).context.closings ≤ length script.rounds)
      × (one_if (is_ended shown) + s.context.closings ≤ (after_event script told s shown).context.closings)
  ended_next s event.Ended may most =
      let left = may.round.begun.left in
      let one = one_closed s.context.closings left in
      let is = closings_are s.context event.Ended in (omega (arith, left, one, is), omega (arith, left, one, is))
  ended_next s event.Stopped may most =
      let left = may.round.begun.left in
      let one = one_closed s.context.closings left in
      let is = closings_are s.context event.Stopped in (omega (arith, left, one, is), omega (arith, left, one, is))
  ended_next s event.Polled may most =
      let left = may.round.begun.left in
      let one = one_closed s.context.closings left in
      let is = closings_are s.context event.Polled in (omega (arith, left, one, is), omega (arith, left, one, is))
  ended_next s (event.Stop (Some a)) may most =
      let is = closings_are s.context (event.Stop (Some a)) in (omega (arith, most, is), omega (arith, most, is))
  ended_next s (event.Stop None) may most =
      let is = closings_are s.context (event.Stop None) in (omega (arith, most, is), omega (arith, most, is))
  ended_next s other may most =
      let is = closings_are s.context other in (omega (arith, most, is), omega (arith, most, is))

  pub few_ended : (s : State) (events : List Event) → IsLegalFrom script told s events →
      s.context.closings ≤ length script.rounds →
      times is_ended events + s.context.closings ≤ length script.rounds
  few_ended s [] legal most = omega (arith, most)
  few_ended s (shown ∷ events) legal most =
      let next = ended_next s shown legal.0 most in
      let first = next.0 in
      let second = next.1 in
      let rest = few_ended (after_event script told s shown) events legal.1 first in
      omega (arith, rest, second)

  -- and the reactor fails once
  failed_kept : (r : ReactorHalf) (shown : Event) → is_fault shown ≡ false →
      (reactor_after script told r shown).failed ≡ r.failed
  failed_kept r (event.Take a) isnt = take_works script told r a
  failed_kept r (event.Done o given size) isnt = (time-done script r o).failed
  failed_kept r (event.Tick now) isnt = (settled-clock told (at_time script told now r)).failed
  failed_kept r event.Last isnt = (settled-clock told (at_last told r)).failed
  failed_kept r event.Fault isnt = absurd (cc)
  failed_kept r other isnt = refl

  fault_next : (s : State) (shown : Event) → MayHappen script told s shown →
      one_if (is_fault shown) + one_if s.reactor.failed ≤ one_if (after_event script told s shown).reactor.failed
  fault_next s event.Fault may =
      let works : one_if s.reactor.failed ≡ 0 = ap one_if may.once in omega (arith, works)
  fault_next s (event.Stop (Some a)) may = omega arith
  fault_next s (event.Stop None) may = omega arith
  fault_next s (event.Take a) may =
      let same = ap one_if (failed_kept s.reactor (event.Take a) refl) in omega (arith, same)
  fault_next s (event.Done o given size) may =
      let same = ap one_if (failed_kept s.reactor (event.Done o given size) refl) in omega (arith, same)
  fault_next s (event.Tick now) may =
      let same = ap one_if (failed_kept s.reactor (event.Tick now) refl) in omega (arith, same)
  fault_next s event.Last may =
      let same = ap one_if (failed_kept s.reactor event.Last refl) in omega (arith, same)
  fault_next s other may = omega arith

  most_one : (b : Bool) → one_if b ≤ 1
  most_one true = omega arith
  most_one false = omega arith

  pub few_faults : (s : State) (events : List Event) → IsLegalFrom script told s events →
      times is_fault events + one_if s.reactor.failed ≤ 1
  few_faults s [] legal = let one = most_one s.reactor.failed in omega (arith, one)
  few_faults s (shown ∷ events) legal =
      let next = fault_next s shown legal.0 in
      let rest = few_faults (after_event script told s shown) events legal.1 in
      omega (arith, rest, next)
