use Rattle.std.proofs.Common.{ap, subst, ◌∙◌}
use Rattle.session_script.specs.Script.{ScriptModel}
use Rattle.lane_logs.specs.SeatNumbers.{lane_count, worker_count}
use Rattle.lane_context.specs.SessionRooms.{AreCallRooms}
use Rattle.lane_context.proofs.session_room.SessionRoom.make.Goals as goal

pub invariant_of-result : goal.invariant_of-result
invariant_of-result g c =
    record {
      calls =
          subst (λ (script : ScriptModel). AreCallRooms script (worker_count script) c.in_ok-calls.calls.items)
          c.requires.script
          (subst (λ n. AreCallRooms c.args.script.now n c.in_ok-calls.calls.items) c.worker_count-workers.ensures.count
          c.in_ok-calls.ensures);
      lookouts =
          c.in_ok-lookouts.ensures ∙ c.worker_count-workers.ensures.count ∙ ap worker_count c.requires.script;
      lanes =
          c.in-Ok-held.ensures.lanes ∙ c.lanes-count.ensures ∙ ap lane_count (c.requires.map ∙ c.requires.script);
      seats =
          c.in-Ok-held.ensures.numbers ∙ c.worker_count-workers.ensures.count
          ∙ ap worker_count c.requires.script;
      seat = c.in-Ok-held.ensures.seat;
    }
