use Rattle.io_scheduler.proofs.GoneLemmas.{last_idle, last_shown, last_streams, last_tally, last_waits}
use Rattle.io_scheduler.proofs.closing.close_freed.Goals as goal

pub leave-requires : goal.leave-requires
leave-requires g c = record {
  within = c.abort_rest.ensures.closing.within;
  idle = last_idle _ _ _ _ _ _ _ _ _ _ _ c.abort_rest.ensures.closing c.holds.ensures c.abort_rest.ensures.over;
  used = c.requires.used;
}

pub returns-clause-shows : goal.returns-clause-shows
returns-clause-shows g c =
    rw c.leave.ensures.names
    (last_shown _ _ _ _ _ _ _ _ _ _ _ c.abort_rest.ensures.closing c.holds.ensures c.abort_rest.ensures.over)

pub returns-clause-waits : goal.returns-clause-waits
returns-clause-waits g c =
    last_waits _ _ _ _ _ _ _ _ _ _ _ c.abort_rest.ensures.closing c.holds.ensures c.abort_rest.ensures.over

pub returns-clause-tally : goal.returns-clause-tally
returns-clause-tally g c =
    last_tally _ _ _ _ _ _ _ _ _ _ _ c.abort_rest.ensures.closing c.holds.ensures c.abort_rest.ensures.over

pub returns-clause-streams : goal.returns-clause-streams
returns-clause-streams g c =
    rw c.leave.ensures.streams
    (last_streams _ _ _ _ _ _ _ _ _ _ _ c.abort_rest.ensures.closing c.holds.ensures c.abort_rest.ensures.over)
