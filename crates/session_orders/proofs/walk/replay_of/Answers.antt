use Rattle.std.proofs.Common.{arith, ◌∙◌}
use Rattle.asio_types.specs.declared.event.Event.TheVariants as event
use Rattle.session_orders.proofs.ComeLemmas.{on_true, replayed_next}
use Rattle.session_orders.proofs.walk.replay_of.Goals as goal

pub loop-event-preserved : goal.loop-event-preserved
loop-event-preserved c =
    record {
      same_script = c.step.ensures.script ∙ c.loop-event.invariant.same_script;
      same_told = c.step.ensures.told ∙ c.loop-event.invariant.same_told;
      state =
          replayed_next c.args.script.now c.args.told c.args.events.now c.loop-event.event-index (event.Call 0) c.loop-event.replay
          c.step.new.self (omega arith) c.requires c.loop-event.invariant.same_script c.loop-event.invariant.same_told
          c.loop-event.invariant.state
          (λ may. on_true c.step.result (c.step.ensures.legal.1 may) c.step.ensures.next);
    }
