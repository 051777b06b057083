use Rattle.std.proofs.Common.{arith}
use Rattle.history_rules.proofs.SettlingLemmas.{length-served_below}
use Rattle.history_book.proofs.reactor_half.ReactorWorks.serve_streams.Goals as goal

pub serve-requires : goal.serve-requires
serve-requires c =
    let same = length-served_below c.loop-stream.stream c.args.self.now.half in
    rw c.loop-stream.invariant.served (omega (arith, c.loop-stream.invariant.ends))
