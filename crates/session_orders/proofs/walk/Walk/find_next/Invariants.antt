use Rattle.std.proofs.Common.{◌≡◌, ◌≤◌}
use Rattle.history_rules.specs.Legal.{state_of}
use Rattle.session_orders.specs.Walk.{HasCome, NoneBetween}
use Rattle.session_orders.proofs.walk.Walk.find_next.Given as goal

abbrev pub invariant-places : goal.invariant-places
invariant-places l =
    record {
      others : l.self ≡ record l.fn.self { replay = l.self.replay; place = l.self.place };
      come : HasCome l.fn.self.script.now l.fn.self.kind l.self.replay l.fn.self.path.items;
      onward : l.fn.self.place ≤ l.self.place;
      ahead : l.tried ≤ l.self.place;
      none : NoneBetween l.fn.self.script.now l.fn.self.kind
          (state_of l.fn.self.script.now l.fn.self.kind.told l.fn.self.path.items) l.fn.self.place l.self.place;
    }
