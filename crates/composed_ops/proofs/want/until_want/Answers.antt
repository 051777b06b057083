use Rattle.std.proofs.Common.{length}
use Rattle.composed_ops.specs.Progress.{before_latest}
use Rattle.composed_ops.proofs.WantLemmas.{first_end-within}
use Rattle.composed_ops.proofs.want.until_want.Goals as goal

pub first_end-requires : goal.first_end-requires
first_end-requires c =
    rw c.before_latest.ensures (first_end-within c.args.delimiter.now c.args.held.now
    (before_latest c.args.latest (length c.args.held.now)) c.min.result c.requires)
