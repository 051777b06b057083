use Rattle.std.proofs.Common.{length}
use Rattle.reactor_mio.proofs.playing.Playing.read_some.Goals as goal

pub returns-then-not-again-clause-within : goal.returns-then-not-again-clause-within
returns-then-not-again-clause-within c =
    c.at_last.ensures.within (length c.args.buf.now) (rw c.loop.invariant.1 at c.in_ok-moved.ensures.within)

pub returns-clause-within : goal.returns-clause-within
returns-clause-within c =
    c.at_last-2.ensures.within (length c.args.buf.now) (rw c.loop.invariant.1 at c.in_ok-moved-2.ensures.within)
