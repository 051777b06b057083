-- How many events a session may still show: each event that is legal and expected leaves one less, but for a stop from
-- outside. So a history has no more events than its script says, and its stops from outside.
use Rattle.std.proofs.Common.{◌≡◌, ℕ, zero, suc, ◌+◌, ◌*◌, ◌-◌, ◌<◌, ◌≤◌, Bool, true, false, cond, List, [], ◌∷◌, None, Some, length, refl, ap, arith}
use Rattle.asio_types.specs.Faults.{most_faults, one_more}
use Rattle.asio_types.specs.declared.event.Event.{Event}
use Rattle.asio_types.specs.declared.event.Event.TheVariants as event
use Rattle.session_script.specs.Script.{ScriptModel}
use Rattle.session_script.specs.WellFormed.{IsWellFormed}
use Rattle.history_rules.specs.FromOutside.{is_outside_stop}
use Rattle.history_rules.specs.Legal.{MayHappen, after_event, reactor_after, state_from}
use Rattle.history_rules.specs.State.{State, act_at, first_state}
use Rattle.reactor_turns.specs.Ahead.{IsHalfOf, events_ahead}
use Rattle.reactor_turns.proofs.AheadLemmas.{starts_bounded}
use Rattle.reactor_turns.proofs.SummingLemmas.{one_if, summed, summed-same}
use Rattle.history_merge.proofs.ActsLeftLemmas.{act_shows, acts_fall, acts_show, is_of_act}
use Rattle.history_merge.proofs.BalanceLemmas.{half_kept, turn_leaves}
use Rattle.history_merge.proofs.CalledLemmas.{AreExpected}
use Rattle.history_merge.proofs.CountedLemmas.{counted_is, counted_most}
use Rattle.history_merge.proofs.EachLabelLemmas.{is_of_turn}
use Rattle.history_merge.proofs.EventOrderLemmas.{in_order}
use Rattle.history_merge.proofs.FewLemmas.{one_closed}
use Rattle.history_merge.proofs.FrameLemmas.{RoundPart, part-after, round_after, round_part}
use Rattle.history_merge.proofs.HalfLemmas.{reactor_stays}
use Rattle.history_merge.proofs.KindLemmas.{AreOfKind, kinds_kept}
use Rattle.history_merge.proofs.OrderlyLemmas.{IsExpected, IsInOrder}
use Rattle.history_merge.proofs.SoFirstLemmas.{first_sound}
use Rattle.history_merge.proofs.SoloLemmas.{all_fresh}
use Rattle.history_merge.proofs.TimesLemmas.{times}

-- a round closes once, and is restarted at most once
abbrev restarts_left : ℕ → Bool → ℕ
restarts_left left restarted = cond restarted (left - 1) left

abbrev rounds_show : ScriptModel → RoundPart → ℕ
rounds_show script part =
    (length script.rounds - part.closings) + restarts_left (length script.rounds - part.closings) part.restarted

abbrev pub may_show : ScriptModel → State → ℕ
may_show script s = acts_show script s.context + rounds_show script (round_part s.context) + events_ahead script s.reactor

-- an event of a round
abbrev is_of_round : Event → Bool
is_of_round event.Ended = true
is_of_round event.Stopped = true
is_of_round event.Polled = true
is_of_round event.Restart = true
is_of_round _ = false

-- each event is of one kind
one_kind : (shown : Event) →
    one_if (is_of_act shown) + one_if (is_of_round shown) + one_if (is_of_turn shown) + one_if (is_outside_stop shown) ≡ 1
one_kind (event.Stop (Some a)) = refl
one_kind (event.Stop None) = refl
one_kind (event.Call a) = refl
one_kind (event.Back a) = refl
one_kind (event.Begin o given size) = refl
one_kind (event.End o mark) = refl
one_kind (event.Take a) = refl
one_kind (event.Done o given size) = refl
one_kind (event.Tick now) = refl
one_kind event.Last = refl
one_kind event.Fault = refl
one_kind event.Ended = refl
one_kind event.Stopped = refl
one_kind event.Polled = refl
one_kind event.Restart = refl
one_kind (event.Dropped o mark) = refl

closing_leaves : (rounds c d : ℕ) (restarted : Bool) → c < rounds → d ≡ c + 1 →
    (rounds - d) + (rounds - d) + 1 ≤ (rounds - c) + restarts_left (rounds - c) restarted
closing_leaves rounds c d true left is = omega (arith, left, is)
closing_leaves rounds c d false left is = omega (arith, left, is)

module _ (script : ScriptModel) (well : IsWellFormed script) (told : Bool) where
  part_falls : (s : State) (shown : Event) → MayHappen script told s shown →
      rounds_show script (round_after shown (round_part s.context)) + one_if (is_of_round shown)
      ≤ rounds_show script (round_part s.context)
  part_falls s event.Ended may =
      let left = may.round.begun.left in
      closing_leaves (length script.rounds) s.context.closings (one_more s.context.closings) s.context.restarted left
      (one_closed script well told s.context.closings left)
  part_falls s event.Stopped may =
      let left = may.round.begun.left in
      closing_leaves (length script.rounds) s.context.closings (one_more s.context.closings) s.context.restarted left
      (one_closed script well told s.context.closings left)
  part_falls s event.Polled may =
      let left = may.round.begun.left in
      closing_leaves (length script.rounds) s.context.closings (one_more s.context.closings) s.context.restarted left
      (one_closed script well told s.context.closings left)
  part_falls s event.Restart may =
      let left = may.begun.left in
      let once = ap (restarts_left (length script.rounds - s.context.closings)) may.once in
      omega (arith, left, once)
  part_falls s (event.Stop (Some a)) may = omega arith
  part_falls s (event.Stop None) may = omega arith
  part_falls s other may = omega arith

  module _ (s : State) (order : IsInOrder script s.context) (kinds : AreOfKind script s.context.acts)
      (half : IsHalfOf script s.reactor) where
    ahead_falls : (shown : Event) → MayHappen script told s shown →
        events_ahead script (reactor_after script told s.reactor shown) + one_if (is_of_turn shown)
        ≤ events_ahead script s.reactor
    ahead_falls shown may = by_turn (is_of_turn shown) refl
      where
        by_turn : (b : Bool) → is_of_turn shown ≡ b →
            events_ahead script (reactor_after script told s.reactor shown) + one_if b ≤ events_ahead script s.reactor
        by_turn true is = (turn_leaves script well told s order kinds half shown is may).fewer
        by_turn false isnt =
            let same = ap (events_ahead script) (reactor_stays script told s.reactor shown isnt) in omega (arith, same)

    event_falls : (shown : Event) → MayHappen script told s shown → IsExpected s.context shown →
        may_show script (after_event script told s shown) + 1 ≤ may_show script s + one_if (is_outside_stop shown)
    event_falls shown may expected =
        let acts = acts_fall script well told s order shown may expected in
        let part = ap (rounds_show script) (part-after script s.context shown) in
        let rounds = part_falls s shown may in
        let ahead = ahead_falls shown may in
        let kind = one_kind shown in
        omega (arith, acts, part, rounds, ahead, kind)

  -- so many events were shown, and so many may come
  pub all_fall : (s : State) (events : List Event) → IsInOrder script s.context → AreOfKind script s.context.acts →
      IsHalfOf script s.reactor → s.context.events + length events < most_faults → AreExpected script told s events →
      length events + may_show script (state_from script told s events)
      ≤ may_show script s + times is_outside_stop events
  all_fall s [] order kinds half room are = omega arith
  all_fall s (shown ∷ events) order kinds half room are =
      let next : State = after_event script told s shown in
      let one : next.context.events ≤ s.context.events + 1 =
      let is = counted_is script told s (shown ∷ []) (omega (arith, room)) in
      let most = counted_most (shown ∷ []) in omega (arith, is, most) in
      let rest =
      all_fall next events (in_order script well told s order (omega (arith, room)) shown are.0 are.1)
      (kinds_kept script told s shown are.0 are.1 kinds) (half_kept script well told s order kinds half shown are.0)
      (omega (arith, room, one)) are.2 in
      let now = event_falls s order kinds half shown are.0 are.1 in
      omega (arith, rest, now)

  -- before the first event
  four_each : (n : ℕ) → summed (λ m. 4) n ≡ 4 * n
  four_each zero = refl
  four_each (suc n) = let rest = four_each n in omega (arith, rest)

  first_shows : may_show script (first_state script told)
      ≤ 7 * length script.acts + 2 * length script.rounds + length script.world.lines + 2
  first_shows =
      let s : State = first_state script told in
      let same =
      summed-same (λ n. act_shows script n (act_at s.context n)) (λ m. 4) (length script.acts)
      (λ n. ap (act_shows script n) (all_fresh (length script.acts) n)) in
      let four = four_each (length script.acts) in
      let ahead = (starts_bounded script told).bounded in
      omega (arith, same, four, ahead)

  pub history_fits : (events : List Event) → length events < most_faults →
      AreExpected script told (first_state script told) events →
      length events + may_show script (state_from script told (first_state script told) events)
      ≤ 7 * length script.acts + 2 * length script.rounds + length script.world.lines + 2 + times is_outside_stop events
  history_fits events room are =
      let sound = first_sound script told in
      let all =
      all_fall (first_state script told) events sound.order sound.kinds sound.half (omega (arith, room)) are in
      let first = first_shows in
      omega (arith, all, first)
