use Rattle.std.proofs.Common.{sym, subst}
use Rattle.std.specs.Prelude.{◌≡◌, ◌↔◌, IsTrue}
use Rattle.std.specs.Option.{unwrap_or}
use Rattle.run_lines.specs.declared.line.Doing.{Doing}
use Rattle.run_orders.specs.Orders.{renumbered}
use Rattle.run_rules.specs.Against.{op_of}
use Rattle.run_witness.proofs.spelling.is_copy.Goals as goal

pub returns-in-Call : goal.returns-in-Call
returns-in-Call c =
    subst (λ (d : Doing). IsTrue c.is_call.result ↔ (c.args.copy ≡ renumbered (unwrap_or (op_of c.args.copy) 0) d))
    (sym c.in-Call.is)
    (c.is_call.ensures c.in-Call.op)

pub returns-in-Done : goal.returns-in-Done
returns-in-Done c =
    subst (λ (d : Doing). IsTrue c.is_done.result ↔ (c.args.copy ≡ renumbered (unwrap_or (op_of c.args.copy) 0) d))
    (sym c.in-Done.is)
    (c.is_done.ensures c.in-Done.op)

pub returns-in-Begin : goal.returns-in-Begin
returns-in-Begin c =
    subst (λ (d : Doing). IsTrue c.is_begin.result ↔ (c.args.copy ≡ renumbered (unwrap_or (op_of c.args.copy) 0) d))
    (sym c.in-Begin.is)
    (c.is_begin.ensures c.in-Begin.op)
