use Rattle.std.proofs.Common.{◌≡◌, ap, refl, ◌∙◌}
use Rattle.std.specs.Prelude.{false}
use Rattle.std.specs.Option.{option_and_then}
use Rattle.run_check.specs.After.{is_spent}
use Rattle.run_check.specs.declared.waiting.Waiter.{Waiter}
use Rattle.run_check.proofs.QueuedLemmas.{waiter_strand}
use Rattle.run_check.proofs.checker.Checker.strand.Goals as goal

pub returns : goal.returns
returns c = λ past after waits.
    let unspent : is_spent past c.args.op ≡ false = rw (waits.not_begun, waits.not_dropped) refl in
    c.strand.ensures ∙ ap (option_and_then (λ (w : Waiter). w.strand)) (after.waiting c.args.op)
    ∙ waiter_strand past c.args.op unspent
