use Rattle.std.proofs.Common.{ap, arith, length}
use Rattle.group_script.proofs.SpanLemmas.{length-encoded}
use Rattle.group_script.proofs.measure.what_length.Goals as goal

pub returns-in-Feed-clause-length : goal.returns-in-Feed-clause-length
returns-in-Feed-clause-length c =
    rw c.in-Feed.is (omega (arith, length-encoded c.in-Feed.bytes, ap length c.as_slice-in-Feed.ensures))
