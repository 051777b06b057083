-- What a step of a machine says of its operation.
use Rattle.composed_ops.specs.declared.step.MachineStep.{MachineStep}
use Rattle.composed_ops.specs.declared.step.MachineStep.TheVariants as step
use Rattle.proactor_core.specs.declared.round.StreamRound.{StreamRound}
use Rattle.proactor_core.specs.declared.round.StreamRound.TheVariants as round

abbrev pub round_of : MachineStep → StreamRound
round_of step.Again = round.GoesOn
round_of (step.Done code size) = round.Completes code size
