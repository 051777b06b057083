-- When there is no group.
use Rattle.std.specs.Prelude.{◌≡◌, ℕ, Bool, Option}
use Rattle.asio_types.specs.declared.outside.SetupFault.{SetupFault}
use Rattle.asio_types.specs.declared.outside.SetupFault.TheVariants as setup_fault
use Rattle.reactor_trait.specs.Reactor.{Outside, ReactorState}
use Rattle.execution_laws.specs.Setup.{IsRefused}
use Rattle.group_script.specs.declared.member.GroupFault.{GroupFault}
use Rattle.group_script.specs.declared.member.GroupFault.TheVariants as fault
use Rattle.group_script.specs.Group.{Group}
use Rattle.group_script.specs.Limits.{IsGroup}

-- a reactor as it was passed, where the group is out of the limits: nothing was asked of it
abbrev pub IsUntouched : {X : Type 0} → X → X → GroupFault → Type 0
IsUntouched old new fault.Limit = new ≡ old
IsUntouched old new fault.Failed = Unit {0}
IsUntouched old new fault.NoMemory = Unit {0}

-- why there was no session, as a fault of a group
abbrev pub fault_of : SetupFault → GroupFault
fault_of setup_fault.Failed = fault.Failed
fault_of setup_fault.NoMemory = fault.NoMemory

-- Out of the limits; or the reactor comes back with this count, this state and these bytes: it
-- couldn't be set up, or memory wasn't given.
abbrev pub RefusesGroup : Group → Bool → ℕ → ℕ → ReactorState → Option Outside → GroupFault → Type 0
RefusesGroup g told before after state outside fault.Limit = IsGroup g → ⊥
RefusesGroup g told before after state outside fault.Failed =
    IsGroup g × IsRefused told before after state outside setup_fault.Failed
RefusesGroup g told before after state outside fault.NoMemory =
    IsRefused told before after state outside setup_fault.NoMemory
