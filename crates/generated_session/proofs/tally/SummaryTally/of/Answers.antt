use Rattle.std.proofs.Common.{sym, arith}
use Rattle.generated_session.proofs.TallyLemmas.{tally_of_next}
use Rattle.generated_session.proofs.tally.SummaryTally.of.Goals as goal

pub loop-event-preserved : goal.loop-event-preserved
loop-event-preserved c = record {
  counted =
      rw (c.with-tally.ensures.counted, c.loop-event.invariant.counted)
      (sym (tally_of_next c.args.events.now c.loop-event.event-index _ c.loop-event-test.true));
  bound = omega (arith, c.with-tally.ensures.bound, c.loop-event.invariant.bound);
}
