use Rattle.std.proofs.Common.{length, ap, arith, ◌∙◌}
use Rattle.run_reader.proofs.BufferLemmas.{at_end, no_more}
use Rattle.run_reader.proofs.buffer.Buffer.more.Goals as goal

pub returns-then-n-eq0-clause-gives : goal.returns-then-n-eq0-clause-gives
returns-then-n-eq0-clause-gives g c = (
  no_more c.make_room.new.self.bytes c.fill.new.self.bytes c.in_ok-n.n c.in_ok-n.ensures.front
      c.in_ok-n.ensures.longer c.if-n-eq0.true
      ∙ c.make_room.ensures.same,
  at_end c.in_ok-n.n c.make_room.new.self.bytes (g.S.Source.left c.args.source.now) c.fill.new.self.bytes
      (g.S.Source.left c.fill.new.source) c.if-n-eq0.true c.in_ok-n.ensures.moves,
)

pub returns-else-n-eq0-clause-gives : goal.returns-else-n-eq0-clause-gives
returns-else-n-eq0-clause-gives g c =
    let same = ap length c.make_room.ensures.same in (
      omega (arith, same, c.in_ok-n.ensures.longer, c.if-n-eq0.false),
      omega (arith, c.in_ok-n.ensures.longer, c.in_ok-n.ensures.room, c.make_room.ensures.most),
    )
