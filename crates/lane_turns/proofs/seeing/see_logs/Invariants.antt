use Rattle.std.proofs.Common.{map, take}
use Rattle.std.specs.List.{flat_map}
use Rattle.lane_logs.specs.Drops.{is_call_of}
use Rattle.lane_logs.specs.Labels.{events_in}
use Rattle.lane_logs.specs.LaneLog.{is_begin_of}
use Rattle.lane_turns.proofs.SeeingLemmas.{Marks}
use Rattle.lane_turns.proofs.seeing.see_logs.Given as goal

abbrev pub invariant-loop-log : goal.invariant-loop-log
invariant-loop-log l =
    record {
      called : Marks is_call_of l.initial.called l.called
          (flat_map events_in (take l.log-index (map (λ log. log.items) l.logs)));
      begun : Marks is_begin_of l.initial.begun l.begun
          (flat_map events_in (take l.log-index (map (λ log. log.items) l.logs)));
    }
