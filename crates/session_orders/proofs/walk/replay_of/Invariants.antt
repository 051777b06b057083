use Rattle.std.proofs.Common.{◌≡◌, take}
use Rattle.history_rules.specs.Legal.{state_of}
use Rattle.session_orders.proofs.walk.replay_of.Given as goal

abbrev pub invariant-loop-event : goal.invariant-loop-event
invariant-loop-event l =
    record {
      same_script : l.replay.script ≡ l.script;
      same_told : l.replay.told ≡ l.told;
      state : l.replay.state ≡ state_of l.script l.told (take l.event-index l.events);
    }
