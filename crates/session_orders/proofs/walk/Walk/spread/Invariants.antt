use Rattle.std.proofs.Common.{◌≡◌}
use Rattle.history_rules.specs.Legal.{state_of}
use Rattle.session_orders.specs.Count.{HasMoved, HaveCome}
use Rattle.session_orders.specs.Walk.{HasCome}
use Rattle.session_orders.proofs.walk.Walk.spread.Given as goal

abbrev pub invariant-places : goal.invariant-places
invariant-places l =
    record {
      same_script : l.self.script.now ≡ l.fn.self.script.now;
      same_kind : l.self.kind ≡ l.fn.self.kind;
      same_path : l.self.path.items ≡ l.fn.self.path.items;
      come : HasCome l.self.script.now l.self.kind l.self.replay l.self.path.items;
      have : HaveCome l.self.script.now l.self.kind l.queue.items;
      moved : HasMoved l.fn.self.script.now l.fn.self.kind
          (state_of l.fn.self.script.now l.fn.self.kind.told l.fn.self.path.items) l.times l.fn.queue.items
          l.queue.items 0 l.self.place;
    }
