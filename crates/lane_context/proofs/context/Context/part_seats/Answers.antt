use Rattle.std.proofs.Common.{◌≡◌, ◌<◌, ◌≤◌, ◌-◌, ◌+◌, ℕ, suc, Some, get_or, length, refl, set, subst, sym, ap, ◌∙◌, arith}
use Rattle.std.specs.Prelude.{slice_get}
use Rattle.std.proofs.Math.ListN.{length-set}
use Rattle.std.proofs.lemmas.Option.{slice_get-get_or}
use Rattle.lane_context.proofs.GatheringLemmas.{may_part, none_sat, part_fits, part_free, part_rest, part_sole, sat_next, still_free}
use Rattle.lane_context.proofs.context.Context.part_seats.Goals as goal

pub part_next-parted-requires-clause-seat : goal.part_next-parted-requires-clause-seat
part_next-parted-requires-clause-seat g c = c.loop-left.invariant.rest.fits

pub part_next-parted-requires-clause-two : goal.part_next-parted-requires-clause-two
part_next-parted-requires-clause-two g c =
    may_part c.args.self.now c.loop-left.left c.loop-left.rest c.loop-left.invariant.rest c.loop-left-test.true

pub sit_down-requires-clause-free : goal.sit_down-requires-clause-free
sit_down-requires-clause-free g c =
    let i : ℕ = c.loop-left.left - 1 in
    let one = get_or c.loop-left.workers i c.index-workers-left.result in
    let within : i < length c.loop-left.workers = omega (arith, c.loop-left.invariant.within, c.loop-left-test.true) in
    let at : slice_get c.loop-left.workers i ≡ Some one =
    slice_get-get_or c.loop-left.workers i c.index-workers-left.result within in
    let less : i < c.loop-left.left = omega (arith, c.loop-left-test.true) in
    still_free c.args.workers.now c.loop-left.workers i one c.args.self.now c.loop-left.left
    c.loop-left.invariant.sat less at c.requires.free

pub sit_down-requires-clause-turns : goal.sit_down-requires-clause-turns
sit_down-requires-clause-turns g c =
    part_free c.args.self.now c.loop-left.left c.loop-left.rest c.loop-left.invariant.rest c.loop-left-test.true
    c.part_next-parted.result c.part_next-parted.ensures.made

pub loop-left-init : goal.loop-left-init
loop-left-init g c =
    record {
      rest = c.requires.seat;
      sat = none_sat c.args.self.now c.args.workers.now;
      some = omega (arith, c.requires.some);
      within = omega arith;
    }

pub loop-left-preserved : goal.loop-left-preserved
loop-left-preserved g c =
    let i : ℕ = c.loop-left.left - 1 in
    let one = get_or c.loop-left.workers i c.index-workers-left.result in
    let within : i < length c.loop-left.workers = omega (arith, c.loop-left.invariant.within, c.loop-left-test.true) in
    let at : slice_get c.loop-left.workers i ≡ Some one =
    slice_get-get_or c.loop-left.workers i c.index-workers-left.result within in
    let next : c.loop-left.left ≡ suc i = omega (arith, c.loop-left-test.true) in
    record {
      rest =
          part_rest c.args.self.now c.loop-left.left c.loop-left.rest c.loop-left.invariant.rest c.loop-left-test.true
          c.part_next-parted.new.seat c.part_next-parted.ensures.parted;
      sat =
          sat_next c.args.workers.now c.loop-left.workers c.args.self.now c.loop-left.left i one c.sit_down.new.self
          c.part_next-parted.result at c.loop-left.invariant.sat next c.sit_down.ensures
          (part_fits c.args.self.now c.loop-left.left c.loop-left.rest c.loop-left.invariant.rest
          c.loop-left-test.true c.part_next-parted.result c.part_next-parted.ensures.made)
          (part_sole c.args.self.now c.loop-left.left c.loop-left.rest c.loop-left.invariant.rest
          c.loop-left-test.true c.part_next-parted.result c.part_next-parted.ensures.made);
      some = omega (arith, c.loop-left-test.true);
      within =
          (let stays : length (set c.loop-left.workers i c.sit_down.new.self) ≡ length c.loop-left.workers =
          length-set c.loop-left.workers i c.sit_down.new.self in
          omega (arith, c.loop-left.invariant.within, stays));
    }

pub sit_down-requires-2-clause-free : goal.sit_down-requires-2-clause-free
sit_down-requires-2-clause-free g c =
    let one = get_or c.loop-left.workers 0 c.index-workers-0.result in
    let within : 0 < length c.loop-left.workers = omega (arith, c.loop-left.invariant.within, c.loop-left.invariant.some) in
    let at : slice_get c.loop-left.workers 0 ≡ Some one =
    slice_get-get_or c.loop-left.workers 0 c.index-workers-0.result within in
    let less : 0 < c.loop-left.left = omega (arith, c.loop-left.invariant.some) in
    still_free c.args.workers.now c.loop-left.workers 0 one c.args.self.now c.loop-left.left
    c.loop-left.invariant.sat less at c.requires.free
