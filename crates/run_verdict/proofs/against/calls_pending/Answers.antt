use Rattle.std.proofs.Common.{subst, sym}
use Rattle.std.specs.Prelude.{Bool, IsTrue, ◌↔◌}
use Rattle.run_lines.specs.declared.line.Doing.{Doing}
use Rattle.run_lines.specs.declared.line.Doing.TheVariants as doing
use Rattle.run_rules.specs.Against.{CallsPending}
use Rattle.run_verdict.proofs.AgainstLemmas.{pending_called, pending_not}
use Rattle.run_verdict.proofs.against.calls_pending.Goals as goal

pub returns-in-Call : goal.returns-in-Call
returns-in-Call c = λ level past judged on.
    subst (λ (d : Doing). IsTrue c.calls_some.result ↔ CallsPending past d c.args.found.now) (sym c.in-Call.is)
    (subst (λ (b : Bool). IsTrue b ↔ CallsPending past
    (doing.Call c.in-Call.op c.in-Call.word c.in-Call.context c.in-Call.strand c.in-Call.thing)
    c.args.found.now) (sym c.calls_some.ensures)
    (pending_called past c.in-Call.op c.in-Call.context c.in-Call.word c.in-Call.strand c.in-Call.thing
    c.args.found.now c.pending.result
    (c.pending.ensures level past judged on)))

pub returns-in_default : goal.returns-in_default
returns-in_default c = λ level past judged on. pending_not past c.args.does.now c.args.found.now c.in_default.not-Call
