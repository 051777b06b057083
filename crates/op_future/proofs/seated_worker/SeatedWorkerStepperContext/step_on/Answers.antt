use Rattle.std.proofs.Common.{subst, sym}
use Rattle.lane_turns.specs.Attempts.{IsSeated}
use Rattle.op_future.proofs.SeatedWorkerLemmas.{is_seated}
use Rattle.op_future.proofs.seated_worker.SeatedWorkerStepperContext.step_on.Goals as goal

pub step-requires : goal.step-requires
step-requires g c =
    record {
      turns =
          subst (λ lanes. IsSeated lanes c.self.inside.worker) (sym c.requires.may)
          (is_seated g.N.LaneSession.names.script g.L.LanesNamed.lanes c.self.inside.number c.self.inside.worker
          c.self.invariant);
    }
