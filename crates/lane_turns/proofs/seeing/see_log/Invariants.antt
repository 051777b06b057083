use Rattle.std.proofs.Common.{take}
use Rattle.lane_logs.specs.Drops.{is_call_of}
use Rattle.lane_logs.specs.Labels.{events_in}
use Rattle.lane_logs.specs.LaneLog.{is_begin_of}
use Rattle.lane_turns.proofs.SeeingLemmas.{Marks}
use Rattle.lane_turns.proofs.seeing.see_log.Given as goal

abbrev pub invariant-loop-entry : goal.invariant-loop-entry
invariant-loop-entry l =
    record {
      called : Marks is_call_of l.initial.called l.called (events_in (take l.entry-index l.log));
      begun : Marks is_begin_of l.initial.begun l.begun (events_in (take l.entry-index l.log));
    }
