use Rattle.std.proofs.Common.{subst}
use Rattle.std.proofs.lemmas.List.{take_all}
use Rattle.asio_types.specs.declared.event.Event.TheVariants as event
use Rattle.lane_logs.specs.Drops.{is_call_of}
use Rattle.lane_logs.specs.Labels.{events_in}
use Rattle.lane_logs.specs.LaneLog.{is_begin_of}
use Rattle.lane_turns.proofs.SeeingLemmas.{Marks, marks_entry, marks_none}
use Rattle.lane_turns.proofs.seeing.see_log.Goals as goal

pub loop-entry-init : goal.loop-entry-init
loop-entry-init c =
    record { called = marks_none is_call_of c.args.called.now; begun = marks_none is_begin_of c.args.begun.now }

pub loop-entry-preserved : goal.loop-entry-preserved
loop-entry-preserved c =
    record {
      called =
          marks_entry is_call_of c.args.called.now c.loop-entry.called c.see.new.called c.loop-entry.auto.called
          c.args.log.now c.loop-entry.entry-index (record { position = 0; event = event.Call 0 })
          c.loop-entry-test.true c.loop-entry.invariant.called c.see.ensures.called;
      begun =
          marks_entry is_begin_of c.args.begun.now c.loop-entry.begun c.see.new.begun c.loop-entry.auto.begun
          c.args.log.now c.loop-entry.entry-index (record { position = 0; event = event.Call 0 })
          c.loop-entry-test.true c.loop-entry.invariant.begun c.see.ensures.begun;
    }

pub returns-clause-called : goal.returns-clause-called
returns-clause-called c =
    subst (λ xs. Marks is_call_of c.args.called.now c.loop-entry.called (events_in xs))
    (take_all c.loop-entry.entry-index c.args.log.now c.loop-entry-test.false) c.loop-entry.invariant.called

pub returns-clause-begun : goal.returns-clause-begun
returns-clause-begun c =
    subst (λ xs. Marks is_begin_of c.args.begun.now c.loop-entry.begun (events_in xs))
    (take_all c.loop-entry.entry-index c.args.log.now c.loop-entry-test.false) c.loop-entry.invariant.begun
