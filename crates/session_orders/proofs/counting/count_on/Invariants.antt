use Rattle.session_orders.specs.Count.{HaveCome, Leads}
use Rattle.session_orders.proofs.counting.count_on.Given as goal

abbrev pub invariant-states : goal.invariant-states
invariant-states l =
    record {
      have : HaveCome l.script l.kind l.queue.items;
      leads : Leads l.script l.kind l.queue.items l.counted;
    }
