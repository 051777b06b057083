use Rattle.std.proofs.Common.{◌≢◌, ℕ, List, get_or, set, sym, subst, ◌∙◌, arith}
use Rattle.std.specs.List.{All}
use Rattle.std.proofs.lemmas.List.{get_or-set_other, length-set}
use Rattle.timer_queue.specs.declared.entry.TimerEntry.{TimerEntry}
use Rattle.proactor_core.specs.Waits.{IsAccepted, Waiting}
use Rattle.proactor_core.proofs.WaitLemmas.{All-from_waits}
use Rattle.proactor_core.proofs.waits.Waits.put_expiry.Goals as goal

put-each : (expiries timers : List ℕ) (accepted timer expiry : ℕ) (e : TimerEntry) → get_or timers e.op 0 ≢ timer →
    IsAccepted expiries timers accepted e → IsAccepted (set expiries timer expiry) timers accepted e
put-each expiries timers accepted timer expiry e other is = record {
  serial = is.serial;
  op = is.op;
  timer = let long = length-set expiries timer expiry in let b = is.timer in omega arith;
  expiry = get_or-set_other expiries timer (get_or timers e.op 0) expiry 0 other ∙ is.expiry;
}

pub invariant_of-self : goal.invariant_of-self
invariant_of-self c =
    let P : Waiting → Type 0 = λ w. All (λ wait. wait.timer ≢ c.args.timer) w.waits in
    let others =
    All-from_waits c.self.inside.timer_of.items (λ wait. wait.timer ≢ c.args.timer) c.self.inside.queue.waits
    (subst P (sym c.self.view_is) c.requires.none) in
    let is = c.self.invariant in
    record {
      in_order = is.in_order;
      each = λ k d b.
          put-each c.self.inside.expiries.items c.self.inside.timer_of.items c.self.inside.accepted c.args.timer
          c.args.expiry (get_or c.self.inside.queue.waits k d) (others k d b) (is.each k d b);
      once = is.once;
      count = is.count;
      room = is.room;
      listed = is.listed;
      lengths = is.lengths ∙ sym (length-set c.self.inside.expiries.items c.args.timer c.args.expiry);
      fewer = is.fewer;
      few = is.few;
      small = is.small;
    }
