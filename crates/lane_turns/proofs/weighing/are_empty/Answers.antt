use Rattle.std.proofs.Common.{◌≡◌, Some, length, refl, sym, ◌∙◌, arith}
use Rattle.std.specs.Prelude.{map, slice_get}
use Rattle.std.proofs.lemmas.Option.{slice_get_read}
use Rattle.lane_logs.specs.OpenerLog.{look_label}
use Rattle.lane_turns.specs.Benches.{places_of}
use Rattle.lane_turns.proofs.BenchLemmas.{place_at}
use Rattle.lane_turns.proofs.LookLemmas.{more_looked, none_looked, seen_full}
use Rattle.lane_turns.proofs.PenLemmas.{gone_clock}
use Rattle.lane_turns.proofs.weighing.are_empty.Goals as goal

pub loop-lane-init : goal.loop-lane-init
loop-lane-init g c = none_looked c.args.map.now (places_of g.B.Attendee.place c.args.lanes.now) c.args.pen.now

pub see_next-requires-clause-clock : goal.see_next-requires-clause-clock
see_next-requires-clause-clock g c =
    gone_clock (map look_label c.loop-lane.invariant.looks) c.args.pen.now c.loop-lane.pen c.loop-lane.invariant.gone
    ∙ c.requires.clock

pub see_next-requires-clause-lane : goal.see_next-requires-clause-lane
see_next-requires-clause-lane g c =
    let i = c.loop-lane.lane-index in
    let at : slice_get c.args.lanes.now i ≡ Some c.lane-item.result =
    slice_get_read c.args.lanes.now (length c.args.lanes.now) i c.lane-item.result refl c.loop-lane-test.true c.lane-item.is in
    omega (
      arith,
      c.number-number.ensures,
      c.requires.lanes.numbers i c.lane-item.result at,
      c.requires.lanes.size,
      c.requires.cells,
      c.loop-lane-test.true,
    )

pub loop-lane-preserved : goal.loop-lane-preserved
loop-lane-preserved g c =
    let i = c.loop-lane.lane-index in
    let at : slice_get c.args.lanes.now i ≡ Some c.lane-item.result =
    slice_get_read c.args.lanes.now (length c.args.lanes.now) i c.lane-item.result refl c.loop-lane-test.true c.lane-item.is in
    more_looked c.args.map.now (places_of g.B.Attendee.place c.args.lanes.now) i c.number-number.result c.next_place-place.result
    c.args.pen.now c.loop-lane.pen c.see_next.new.pen
    (omega (arith, c.number-number.ensures, c.requires.lanes.numbers i c.lane-item.result at))
    (c.next_place-place.ensures ∙ sym (place_at g.B.Attendee.place c.args.lanes.now i c.lane-item.result at))
    c.loop-lane.invariant c.in-None.ensures.seen

pub returns-in-Some-clause-seen : goal.returns-in-Some-clause-seen
returns-in-Some-clause-seen g c =
    let i = c.loop-lane.lane-index in
    let at : slice_get c.args.lanes.now i ≡ Some c.lane-item.result =
    slice_get_read c.args.lanes.now (length c.args.lanes.now) i c.lane-item.result refl c.loop-lane-test.true c.lane-item.is in
    λ none.
    seen_full c.args.map.now (places_of g.B.Attendee.place c.args.lanes.now) i c.number-number.result c.next_place-place.result
    c.args.pen.now c.loop-lane.pen c.see_next.new.pen
    (omega (arith, c.number-number.ensures, c.requires.lanes.numbers i c.lane-item.result at))
    (c.next_place-place.ensures ∙ sym (place_at g.B.Attendee.place c.args.lanes.now i c.lane-item.result at))
    c.loop-lane.invariant c.in-Some._note c.in-Some.ensures.seen
