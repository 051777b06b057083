use Rattle.std.proofs.Common.{◌≡◌, ◌∷◌, [], ap, arith, map, subst, sym, ◌∙◌}
use Rattle.std.proofs.lemmas.List.{map-append}
use Rattle.lane_clock.specs.Closing.{Closed}
use Rattle.lane_clock.specs.Seats.{ClockId, Owns, SeatView, copy_seat}
use Rattle.lane_logs.specs.Knowing.{lists_of}
use Rattle.lane_turns.specs.Pens.{PenView}
use Rattle.lane_turns.proofs.ShuttingLemmas.{all_apart, owns_all, put_first, put_last}
use Rattle.lane_turns.proofs.finishing.close_all.Goals as goal

pub take_in_all-entries-requires-clause-apart : goal.take_in_all-entries-requires-clause-apart
take_in_all-entries-requires-clause-apart g c =
    all_apart g.N.LaneSession.names.script c.args.pens.items c.requires.count c.requires.numbers

pub close-last-requires-clause-all : goal.close-last-requires-clause-all
close-last-requires-clause-all g c n less =
    let opener = c.take_in_all-entries.new.opener in
    let is = c.part_opener-seat.ensures.is in
    let same : c.split-known.new.seat ≡ c.take_in_all-entries.new.opener.pen.seat =
    c.split-known.ensures.same ∙ c.part_opener-seat.ensures.seat in
    let clock_is : c.split-known.new.seat.clock ≡ c.args.clock =
    ap (λ (seat : SeatView). seat.clock) same ∙ is.clock_is ∙ sym c.requires.clock in
    subst (λ (seat : SeatView). Owns seat n) (sym same)
    (owns_all g.N.LaneSession.names.script c.args.pens.items c.requires.count c.requires.numbers g.N.LaneSession.clock
    c.args.opener opener is c.take_in_all-entries.ensures.taken n
    (omega (arith, less, c.requires.seats, ap (λ (clock : ClockId). clock.plan.seats) clock_is)))

pub returns : goal.returns
returns g c =
    let opener = c.take_in_all-entries.new.opener in
    let same : c.split-known.new.seat ≡ c.take_in_all-entries.new.opener.pen.seat =
    c.split-known.ensures.same ∙ c.part_opener-seat.ensures.seat in
    record {
      opener = opener;
      is = c.part_opener-seat.ensures.is;
      taken = c.take_in_all-entries.ensures.taken;
      same = c.split-known.ensures.copy ∙ ap copy_seat c.part_opener-seat.ensures.seat;
      entries_are =
          ap (map (λ log. log.items)) c.push_reserved.ensures.items
          ∙ map-append (λ log. log.items) c.take_in_all-entries.result.items (c.part_opener-seat.result.1 ∷ [])
          ∙ put_last (map (λ log. log.items) c.take_in_all-entries.result.items)
          (map (λ (pen : PenView). pen.log) c.args.pens.items) c.part_opener-seat.result.1.items opener.pen.log
          (put_first (λ log. log.items) c.args.logs.items (map (λ (pen : PenView). pen.log) c.args.pens.items)
          (map (λ log. log.items) c.take_in_all-entries.result.items) c.requires.none c.take_in_all-entries.ensures.logs)
          c.part_opener-seat.ensures.log;
      closed =
          subst (λ (clock : ClockId). Closed (lists_of opener.pen.seat) clock.plan c.close-last.result) c.requires.clock
          (subst (λ (seat : SeatView). Closed (lists_of seat) c.args.clock.plan c.close-last.result) same
          c.close-last.ensures.closed);
    }
