-- Places in a state, which stops from outside aren't counted for, beside places in the list of events.
use Rattle.std.proofs.Common.{◌≡◌, ℕ, zero, suc, ◌+◌, ◌<◌, ◌≤◌, Bool, true, false, List, [], ◌∷◌, None, Some, inl, inr, length, take, sym, ap, ◌∙◌, arith}
use Rattle.std.proofs.lemmas.Bool.{cases_lt}
use mathlib.Core.Option.{some, some-injective, some-ne-none}
use lib.ListN.{get_elem?}
use Rattle.asio_types.specs.Faults.{most_faults}
use Rattle.asio_types.specs.declared.event.Event.{Event}
use Rattle.asio_types.specs.declared.event.Event.TheVariants as event
use Rattle.session_script.specs.Script.{ScriptModel}
use Rattle.history_rules.specs.Legal.{after_event, context_after, state_from}
use Rattle.history_rules.specs.State.{State}
use Rattle.execution_laws.proofs.CountLemmas.{one_more-is}
use Rattle.reactor_turns.proofs.SummingLemmas.{one_if}
use Rattle.history_merge.proofs.FrameLemmas.{RoundPart, part-after, round_after, round_part}
use Rattle.history_merge.proofs.TimesLemmas.{times}

-- all events are counted but stops from outside
abbrev pub is_counted : Event → Bool
is_counted (event.Stop None) = false
is_counted (event.Stop (Some a)) = true
is_counted _ = true

abbrev pub counted_in : List Event → ℕ
counted_in events = times is_counted events

least_one : (b : Bool) → one_if b ≤ 1
least_one true = omega arith
least_one false = omega arith

pub counted_most : (events : List Event) → counted_in events ≤ length events
counted_most [] = omega arith
counted_most (shown ∷ events) =
    let rest = counted_most events in let one = least_one (is_counted shown) in omega (arith, rest, one)

-- a counted event is one more
more_after : (shown : Event) (part : RoundPart) → part.events < most_faults →
    (round_after shown part).events ≡ part.events + one_if (is_counted shown)
more_after (event.Stop None) part room = omega arith
more_after (event.Stop (Some a)) part room = one_more-is part.events room
more_after (event.Take a) part room = one_more-is part.events room
more_after (event.Tick now) part room = one_more-is part.events room
more_after event.Last part room = one_more-is part.events room
more_after event.Fault part room = one_more-is part.events room
more_after event.Ended part room = one_more-is part.events room
more_after event.Stopped part room = one_more-is part.events room
more_after event.Polled part room = one_more-is part.events room
more_after event.Restart part room = one_more-is part.events room
more_after (event.Dropped o mark) part room = one_more-is part.events room
more_after other part room = one_more-is part.events room

-- the count of a state is that of its events
pub counted_is : (script : ScriptModel) (told : Bool) (s : State) (events : List Event) →
    s.context.events + length events < most_faults →
    (state_from script told s events).context.events ≡ s.context.events + counted_in events
counted_is script told s [] room = omega arith
counted_is script told s (shown ∷ events) room =
    let one = least_one (is_counted shown) in
    let next : (context_after script s.context shown).events ≡ s.context.events + one_if (is_counted shown) =
    ap (λ (part : RoundPart). part.events) (part-after script s.context shown)
    ∙ more_after shown (round_part s.context) (omega (arith, room)) in
    counted_is script told (after_event script told s shown) events (omega (arith, room, next, one)) ∙ omega (arith, next)

-- the count never falls
pub counted_rises : (events : List Event) (i j : ℕ) → i ≤ j → counted_in (take i events) ≤ counted_in (take j events)
counted_rises events zero j less = omega arith
counted_rises [] (suc i) j less = omega arith
counted_rises (shown ∷ events) (suc i) zero less = absurd (omega (arith, less))
counted_rises (shown ∷ events) (suc i) (suc j) less =
    let rest = counted_rises events i j (omega (arith, less)) in omega (arith, rest)

-- of two places the one with the lesser count is before the other
pub counted_before : (events : List Event) (i j : ℕ) → counted_in (take i events) < counted_in (take j events) → i < j
counted_before events i j less = elim (cases_lt i j) [
  | inl before ↦ before
  | inr behind ↦ let more = counted_rises events j i behind in absurd (omega (arith, more, less))
]

-- and a counted event has a count of its own
pub counted_apart : (events : List Event) (i j : ℕ) (shown : Event) → get_elem? events i ≡ some shown →
    is_counted shown ≡ true → i < j → counted_in (take i events) < counted_in (take j events)
counted_apart [] i j shown at counts less = absurd (some-ne-none shown (sym at))
counted_apart (first ∷ events) i zero shown at counts less = absurd (omega (arith, less))
counted_apart (first ∷ events) zero (suc j) shown at counts less =
    let one : one_if (is_counted first) ≡ 1 = ap one_if (ap is_counted (some-injective first shown at) ∙ counts) in
    omega (arith, one)
counted_apart (first ∷ events) (suc i) (suc j) shown at counts less =
    let rest = counted_apart events i j shown at counts (omega (arith, less)) in omega (arith, rest)
