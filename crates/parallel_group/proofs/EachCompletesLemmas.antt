-- Each member of a group completes, unless the reactor fails or somebody stops the context.
use Rattle.std.proofs.Common.{refl}
use Rattle.group_script.specs.Group.{script_of}
use Rattle.group_script.proofs.WellMadeLemmas.{is_well_formed, no_stop}
use Rattle.parallel_group.proofs.CompletingLemmas.{completes, ordinary}
use Rattle.parallel_group.proofs.MemberLemmas.{member_op}
use Rattle.parallel_group.specs.Completing.{MembersComplete}

pub each_completes : MembersComplete
each_completes g fits told events legal working going k op member =
    let made = member_op g fits k op member in
    completes (script_of g) (is_well_formed g fits) op made.index g.workers made.there made.listed made.asked
    (no_stop g fits) refl told events legal (ordinary events working going)
