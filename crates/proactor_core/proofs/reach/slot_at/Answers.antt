use Rattle.std.proofs.Common.{sym, ap, ◌∙◌, arith}
use Rattle.history_rules.specs.Requests.{slot_in}
use Rattle.proactor_core.proofs.KnownLemmas.{no-act, slot-known}
use Rattle.proactor_core.proofs.reach.slot_at.Goals as goal

pub returns-then-op-acts-clause-known : goal.returns-then-op-acts-clause-known
returns-then-op-acts-clause-known c = λ slot is.
    slot-known c.args.script.now c.act.result.now (c.acts_fit.ensures c.args.op c.act.result.now c.act.ensures) slot
    (sym c.slot_of.ensures ∙ is)

pub returns-else-op-acts-clause-slot : goal.returns-else-op-acts-clause-slot
returns-else-op-acts-clause-slot c =
    sym (ap slot_in (no-act c.args.script.now c.args.op (omega (arith, c.if-op-acts.false, c.acts.ensures.count))))
