use Rattle.std.proofs.Common.{◌≡◌, ◌≤◌, ◌+◌, List, length}
use Rattle.asio_types.specs.declared.event.Event.{Event}
use Rattle.session_orders.specs.Walk.{ArePassed, AreSeen, HasCome}
use Rattle.session_orders.proofs.walk.Walk.advance.Given as goal

abbrev pub invariant-back : goal.invariant-back
invariant-back l =
    record {
      same_script : l.self.script ≡ l.fn.self.script;
      same_kind : l.self.kind ≡ l.fn.self.kind;
      come : HasCome l.fn.self.script.now l.fn.self.kind l.self.replay l.self.path.items;
      passed : (listed : List (List Event)) →
          ArePassed l.fn.self.script.now l.fn.self.kind l.fn.self.path.items l.fn.self.place listed →
          ArePassed l.fn.self.script.now l.fn.self.kind l.self.path.items l.self.place listed;
      seen : (seen : List (List Event)) →
          AreSeen l.fn.self.script.now l.fn.self.kind l.fn.self.path.items l.fn.self.place seen →
          AreSeen l.fn.self.script.now l.fn.self.kind l.self.path.items l.self.place seen;
      left : length l.self.path.items + l.step ≡ length l.fn.self.path.items;
    }
