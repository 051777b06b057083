use Rattle.std.proofs.Common.{◌≡◌, ◌≤◌, length}
use Rattle.session_orders.specs.Listed.{events_in}
use Rattle.session_orders.specs.Walk.{ArePassed, HasCome}
use Rattle.session_orders.proofs.BoundLemmas.{HasSeen}
use Rattle.session_orders.proofs.listing.list_on.Given as goal

abbrev pub invariant-beginnings : goal.invariant-beginnings
invariant-beginnings l =
    record {
      same_script : l.walk.script.now ≡ l.fn.walk.script.now;
      same_kind : l.walk.kind ≡ l.bounds.reactor;
      come : HasCome l.walk.script.now l.walk.kind l.walk.replay l.walk.path.items;
      passed : ArePassed l.walk.script.now l.walk.kind l.walk.path.items l.walk.place (events_in l.histories.items);
      seen : HasSeen l.walk.script.now l.walk.kind l.walk.path.items l.walk.place l.count;
      within : length l.histories.items ≤ l.bounds.histories;
      short : length l.walk.path.items ≤ l.count;
    }
