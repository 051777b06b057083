use Rattle.std.proofs.Common.{append_assoc}
use Rattle.chan_core.proofs.channel.ChanCore.lapse.Goals as goal

pub returns : goal.returns
returns c =
    rw (
      ← c.self.view_is,
      c.end_expired-2.ensures.due,
      c.end_expired.ensures.due,
      c.end_expired.ensures.left,
      c.end_expired-2.ensures.left,
      append_assoc,
    )
