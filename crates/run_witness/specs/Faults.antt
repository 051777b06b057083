-- Why an order isn't judged.
use Rattle.run_check.specs.declared.refusal.Refusal.{Refusal}
use Rattle.run_check.specs.declared.refusal.Refusal.TheVariants as refusal
use Rattle.run_witness.specs.declared.fault.Fault.{Fault}
use Rattle.run_witness.specs.declared.fault.Fault.TheVariants as fault

-- what it means that a line of the run isn't followed
abbrev pub fault_of : Refusal → Fault
fault_of (refusal.Broken rule) = fault.Illegal
fault_of refusal.NoRoom = fault.NoRoom
