use Rattle.group_script.specs.Group.{script_of}
use Rattle.group_script.proofs.AbortingLemmas.{emit_aborts}
use Rattle.group_script.proofs.WellMadeLemmas.{alone, is_well_formed, no_restart, no_stop}
use Rattle.group_script.proofs.law.emits_abort_pending_members.Goals as goal

pub returns : goal.returns
returns c g fits told before between after a o next legal reach apart is =
    emit_aborts (script_of g) (is_well_formed g fits) (alone g fits) (no_stop g fits)
    (no_restart g fits) told before between after a o next legal reach apart is
