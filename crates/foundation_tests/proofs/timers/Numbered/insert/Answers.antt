use Rattle.std.proofs.Common.{◌≡◌, ◌+◌, ◌<◌, sym, subst, arith}
use Rattle.std.specs.List.{All}
use Rattle.std.proofs.lemmas.List.Elements.{All-weaker}
use Rattle.timer_queue.specs.declared.entry.TimerEntry.{TimerEntry}
use Rattle.timer_queue.proofs.OrderLemmas.{All-put}
use Rattle.foundation_tests.proofs.timers.Numbered.insert.Goals as goal

pub invariant_of-self : goal.invariant_of-self
invariant_of-self c = record {
  kept =
      subst (All (λ (wait : TimerEntry). (wait.serial < c.args.self.now.next + 1) × (wait.op + wait.serial ≡ 12)))
      (sym c.insert_reserved.ensures.waits)
      (All-put (λ (wait : TimerEntry). (wait.serial < c.args.self.now.next + 1) × (wait.op + wait.serial ≡ 12)) _
      c.args.self.now.queue.waits (omega arith, let few = c.args.self.now.few in omega (arith, few))
      (All-weaker (λ (wait : TimerEntry). (wait.serial < c.args.self.now.next) × (wait.op + wait.serial ≡ 12))
      (λ (wait : TimerEntry). (wait.serial < c.args.self.now.next + 1) × (wait.op + wait.serial ≡ 12))
      (λ wait h. (omega (arith, h.0), h.1)) c.args.self.now.queue.waits c.args.self.now.kept));
  room = let room = c.args.self.now.room in omega (arith, room);
  few = omega arith;
}
