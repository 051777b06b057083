use Rattle.std.proofs.Common.{subst, sym}
use Rattle.run_lines.specs.declared.line.Doing.{Doing}
use Rattle.run_check.specs.Strict.{ChangesReady}
use Rattle.run_check.proofs.strict.ready_change.Goals as goal

pub returns-in-Call : goal.returns-in-Call
returns-in-Call c = λ past after may.
    subst (λ (d : Doing). ChangesReady past c.args.thread d c.ready_called.result) (sym c.in-Call.is)
    (c.ready_called.ensures past c.in-Call.context c.in-Call.thing after)
