use Rattle.run_forced.proofs.finding.find_ordered.Goals as goal

pub loop-thing-preserved : goal.loop-thing-preserved
loop-thing-preserved c = λ run legal are.
    c.in_ok-keep.ensures run legal (c.in_ok-claims.ensures run legal are) (c.loop-thing.invariant run legal are)
