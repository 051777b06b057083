use Rattle.std.proofs.Common.{subst, sym}
use Rattle.run_verdict.specs.declared.run.Next.{Next}
use Rattle.run_verdict.specs.Search.{Looks}
use Rattle.run_verdict.proofs.SearchLemmas.{looks_other}
use Rattle.run_verdict.proofs.search.look.Goals as goal

pub returns-in-Line : goal.returns-in-Line
returns-in-Line c =
    subst (λ (n : Next). Looks c.args.breach.now.line c.args.breach.now.rule c.args.judge.now c.args.again.now n
    c.args.at c.args.found c.choose.result)
    (sym c.in-Line.is) (λ level past before confronts. c.choose.ensures level past before confronts)

pub returns-in_default : goal.returns-in_default
returns-in_default c =
    looks_other c.args.breach.now.line c.args.breach.now.rule c.args.judge.now c.args.again.now c.args.next.now
    c.args.at c.args.found c.in_default.not-Line
