use Rattle.std.proofs.Common.{subst}
use Rattle.io_scheduler.specs.Left.{NoneReady}
use Rattle.io_scheduler.proofs.LeftLemmas.{last_ready}
use Rattle.io_scheduler.proofs.states.next_state.Goals as goal

pub close-state-requires : goal.close-state-requires
close-state-requires g c = last_ready _ _ (subst NoneReady c.in-Some.ensures.items c.loop-last.invariant.0)
