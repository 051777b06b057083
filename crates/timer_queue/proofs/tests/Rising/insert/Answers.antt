use Rattle.std.proofs.Common.{◌+◌, ◌<◌, sym, subst, arith}
use Rattle.std.specs.List.{All}
use Rattle.std.proofs.lemmas.List.Elements.{All-weaker}
use Rattle.timer_queue.specs.declared.entry.TimerEntry.{TimerEntry}
use Rattle.timer_queue.proofs.OrderLemmas.{All-put}
use Rattle.timer_queue.proofs.tests.Rising.insert.Goals as goal

pub invariant_of-self : goal.invariant_of-self
invariant_of-self g c = record {
  kept =
      subst (All (λ (wait : TimerEntry). (wait.serial < c.args.self.now.next + 1) × (wait.op < c.args.self.now.next + 1)))
      (sym c.insert_reserved.ensures.waits)
      (All-put (λ (wait : TimerEntry). (wait.serial < c.args.self.now.next + 1) × (wait.op < c.args.self.now.next + 1)) _
      c.args.self.now.queue.waits (omega arith, omega arith)
      (All-weaker (λ (wait : TimerEntry). (wait.serial < c.args.self.now.next) × (wait.op < c.args.self.now.next))
      (λ (wait : TimerEntry). (wait.serial < c.args.self.now.next + 1) × (wait.op < c.args.self.now.next + 1))
      (λ wait h. (omega (arith, h.0), omega (arith, h.1))) c.args.self.now.queue.waits c.args.self.now.kept));
  room = let room = c.args.self.now.room in omega (arith, room);
}
