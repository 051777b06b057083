use Rattle.std.proofs.Common.{length}
use Rattle.reactor_mio.proofs.playing.Playing.write_some.Goals as goal

pub returns-clause-within : goal.returns-clause-within
returns-clause-within c = c.at_last.ensures.within (length c.args.bytes.now) c.in_ok-moved.ensures.within
