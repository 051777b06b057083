use Rattle.std.proofs.Common.{rules, ◌≡◌, ◌-◌, suc, arith}
use Rattle.turn_table.proofs.SeatLemmas.{parted_one, made_one, two_of}
use Rattle.turn_table.proofs.table.TurnTable.seat_all.Goals as goal

pub part-requires-clause-two : goal.part-requires-clause-two
part-requires-clause-two g c =
    two_of c.args.self.now c.loop-left.whole c.loop-left.left c.loop-left-test.true c.loop-left.invariant.0

pub loop-left-preserved : goal.loop-left-preserved
loop-left-preserved g c =
    let was = c.loop-left.invariant in
    let left = c.loop-left.left in
    let more = c.loop-left-test.true in
    let e : left ≡ suc (left - 1) = omega arith in let len = c.push_reserved.ensures.len in
    let below = was.2 in let total = was.4 in (
      parted_one c.args.self.now c.loop-left.whole c.part.new.seat left (left - 1) e was.0 c.part.ensures.parted,
      omega arith,
      omega arith,
      made_one c.args.self.now c.loop-left.whole c.part.result left (left - 1) c.args.count c.loop-left.list.items
          c.push_reserved.new.self.items e was.2 was.0 c.part.ensures.made was.3 c.push_reserved.ensures.items,
      omega arith,
      search rules,
    )
