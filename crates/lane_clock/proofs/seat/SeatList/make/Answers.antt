use Rattle.std.proofs.Common.{◌≡◌, ◌+◌, ◌-◌, ◌≤◌, ap, ◌∙◌, sym, arith, subst, true, reverse, length, ◌∷◌}
use Rattle.lane_clock.specs.declared.step.View.{View}
use Rattle.lane_clock.specs.Knowledge.{known_at}
use Rattle.lane_clock.specs.Seats.{ClockId, seen_as, new_clock_seats}
use Rattle.lane_clock.specs.Layout.{Layout}
use Rattle.lane_clock.specs.Plays.{giver_after, given}
use Rattle.lane_clock.proofs.ShareLemmas.{may_give}
use Rattle.lane_clock.proofs.SeatLemmas.{giver_owns, giver_less, giver_gives, seats_more, reverse_push, all_listed}
use Rattle.lane_clock.proofs.seat.SeatList.make.Goals as goal

pub split_seat-seat-requires : goal.split_seat-seat-requires
split_seat-seat-requires c =
    let giver = ap (λ m. m.0) c.loop-left.invariant.giver in (
      c.loop-left.invariant.table,
      c.requires.words,
      may_give _ _ _ (subst (λ (v : View). (known_at v.known (v.number - 1)).mine ≡ true) (sym giver)
          (giver_owns c.args.table.now.shared.key c.loop-left.left c.loop-left-test.true)),
    )

pub loop-left-preserved : goal.loop-left-preserved
loop-left-preserved c =
    let key = c.args.table.now.shared.key in
    let inv = c.loop-left.invariant in
    let giver = ap (λ m. m.0) inv.giver in
    let made = c.split_seat-seat.ensures in
    let within : c.loop-left.left ≤ key.seats = subst (λ n. c.loop-left.left ≤ n) (sym c.requires.seats) inv.within in
    let more : c.args.seats - (c.loop-left.left - 1) ≡ c.args.seats - c.loop-left.left + 1 =
    omega (arith, c.loop-left-test.true, inv.within) in
    let table = made.3 ∙ inv.table in
    let seat =
    (λ i. seen_as (table i) (made.4 i).0)
    ∙ (ap (λ (v : View). seen_as c.args.table.now.shared.table_id (given v)) giver
    ∙ giver_gives c.args.table.now.shared.table_id key c.loop-left.left c.loop-left-test.true within) in
    record {
      within = omega (arith, inv.within);
      table = made.0 ∙ inv.table;
      giver =
          made.2
          ∙ (λ i. (
            (ap giver_after giver ∙ giver_less key c.loop-left.left c.loop-left-test.true within) i,
            (inv.giver i).1,
          ));
      list =
          ap reverse c.in_ok-push.ensures.items
          ∙ (reverse_push c.loop-left.list.items
          (seen_as c.split_seat-seat.result.table_id c.split_seat-seat.result.me.0)
          ∙ (ap (λ x. x ∷ reverse c.loop-left.list.items) seat
          ∙ (seats_more _ c.loop-left.left (c.args.seats - c.loop-left.left) _ c.loop-left-test.true inv.list
          ∙ ap (new_clock_seats _ (c.loop-left.left - 1)) (sym more))));
    }

pub invariant_of-result : goal.invariant_of-result
invariant_of-result c =
    let inv = c.loop-left.invariant in
    let clock : ClockId = record { table = c.args.table.now.shared.table_id; plan = c.args.table.now.shared.key } in
    let zero : c.loop-left.left ≡ 0 = omega (arith, c.loop-left-test.false) in
    let all : c.args.seats - c.loop-left.left ≡ c.args.seats = omega arith in
    let plan : c.loop-left.giver.me.0.plan ≡ c.args.table.now.shared.key = ap (λ m. m.0.plan) inv.giver in
    let listed : reverse c.loop-left.list.items ≡ new_clock_seats clock 0 c.args.seats =
    inv.list ∙ (λ i. new_clock_seats clock (zero i) (all i)) in
    let long : length c.loop-left.list.items ≡ c.args.seats =
    all_listed clock c.loop-left.list.items c.args.seats listed in
    let seats : c.loop-left.giver.me.0.plan.seats ≡ c.args.seats =
    ap (λ (p : Layout). p.seats) plan ∙ c.requires.seats in
    let fits = c.ranges.seats.fits in record {
      order = listed ∙ (λ i. new_clock_seats record { table = sym inv.table i; plan = sym plan i } 0 (sym long i));
      count = omega arith;
      few = omega arith;
    }
