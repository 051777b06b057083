use Rattle.std.proofs.Common.{ℕ, List, subst, sym}
use Rattle.std.specs.List.{Contains}
use Rattle.std.specs.Prelude.{IsSome}
use Rattle.run_rules.specs.Calls.{call_of}
use Rattle.run_witness.proofs.BusyLemmas.{busy_here, busy_none}
use Rattle.run_orders.specs.Orders.{lines_of}
use Rattle.run_witness.proofs.judging.Replay.finds_busy.Goals as goal

pub returns-in-Some : goal.returns-in-Some
returns-in-Some c = λ apart thing run before are was.
    busy_here apart run before c.args.step.now c.in-Some.strand c.idle_at.result
    (c.idle_at.ensures apart thing run are) c.in-Some.is
    c.is_busy.result
    (c.is_busy.ensures (lines_of before) was.after
    (subst (λ (ops : List ℕ). (op : ℕ) → IsSome (call_of (lines_of before) op)
    → Contains ops op) (sym c.deref.ensures.value) was.called))

pub returns-in-None : goal.returns-in-None
returns-in-None c = λ apart thing run before are was.
    busy_none apart run before c.args.step.now c.idle_at.result (c.idle_at.ensures apart thing run are) c.in-None.is
