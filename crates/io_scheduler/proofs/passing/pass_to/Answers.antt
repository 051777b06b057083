use Rattle.io_rules.specs.Legal.{state_of}
use Rattle.io_scheduler.proofs.PassedLemmas.{has_passed, tally_passed, waits_passed}
use Rattle.io_scheduler.proofs.passing.pass_to.Goals as goal

pub expire_all-requires-clause-waits : goal.expire_all-requires-clause-waits
expire_all-requires-clause-waits g c =
    rw c.note_passed.ensures.past
    (waits_passed g.H.Handler.marks g.C.Named.limits c.args.timers.now
    (state_of g.C.Named.limits c.args.keeper.now.past) c.later-time.result c.requires.waits)

pub expire_all-requires-clause-tally : goal.expire_all-requires-clause-tally
expire_all-requires-clause-tally g c =
    rw c.note_passed.ensures.past
    (tally_passed c.args.tally.now (state_of g.C.Named.limits c.args.keeper.now.past) c.later-time.result c.requires.tally)

pub returns-clause-passed : goal.returns-clause-passed
returns-clause-passed g c =
    rw (← c.later-time.ensures)
    (has_passed g.C.Named.limits c.later-time.result c.args.keeper.now.past _ _ c.note_passed.ensures.may
    c.note_passed.ensures.past c.expire_all.ensures.expired)
