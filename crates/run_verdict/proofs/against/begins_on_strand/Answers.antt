use Rattle.std.proofs.Common.{ap, subst, sym, ◌∙◌}
use Rattle.std.specs.Prelude.{Bool, IsTrue, ◌↔◌, ◌&&◌}
use Rattle.run_rules.specs.Against.{BeginsOnStrand}
use Rattle.run_verdict.proofs.AgainstLemmas.{begun_waits, not_begun, on_strand}
use Rattle.run_verdict.proofs.against.begins_on_strand.Goals as goal

pub returns-in-Some : goal.returns-in-Some
returns-in-Some c = λ level past before judged waits again may.
    let begun = sym c.begun_by.ensures ∙ c.in-Some.is in
    subst (λ (b : Bool). IsTrue b ↔ BeginsOnStrand past c.args.op before c.args.found.now.does)
    (sym (c.both.ensures ∙ ap (λ (b : Bool). b && c.is_executing.result) c.both_same.ensures))
    (on_strand past c.args.op before c.args.found.now.does c.in-Some.other c.strand-there.result
    c.strand-strand.result c.is_executing.result
    begun
    (c.strand-there.ensures before (c.checker.ensures level before again)
    (begun_waits level before c.args.found.now.thread c.args.found.now.does c.in-Some.other begun may.rules))
    (c.strand-strand.ensures past (c.checker-in-Some.ensures level past judged) waits)
    (c.is_executing.ensures past (c.checker-in-Some-2.ensures level past judged)))

pub returns-in-None : goal.returns-in-None
returns-in-None c = λ level past before judged waits again may.
    not_begun past c.args.op before c.args.found.now.does (sym c.begun_by.ensures ∙ c.in-None.is)
