use Rattle.lane_clock.specs.Knowledge.{steps_at}
use Rattle.lane_clock.proofs.KeepLemmas.{start_trans}
use Rattle.lane_tests.proofs.clock.meet_two.Goals as goal

pub returns-clause-remembers : goal.returns-clause-remembers
returns-clause-remembers c n =
    start_trans (steps_at c.args.first.known n) (steps_at c.meet.new.seat.known n) _ (c.meet.ensures.remembers.1 n)
    (c.meet-2.ensures.remembers.0 n)
