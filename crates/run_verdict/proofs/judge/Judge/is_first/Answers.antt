use Rattle.std.proofs.Common.{subst, sym}
use Rattle.std.specs.Prelude.{IsTrue, ◌↔◌}
use Rattle.run_lines.specs.declared.line.Doing.{Doing}
use Rattle.run_rules.specs.MayCome.{MayDo}
use Rattle.run_check.specs.After.{loose}
use Rattle.run_verdict.specs.Judges.{IsFirstIn}
use Rattle.run_verdict.proofs.judge.Judge.is_first.Goals as goal

pub returns-in-Begin : goal.returns-in-Begin
returns-in-Begin c = λ level past thread judged may.
    let here = subst (λ (d : Doing). MayDo loose past thread d) c.in-Begin.is may in
    subst (λ (d : Doing). IsTrue c.is_first.result ↔ IsFirstIn past d) (sym c.in-Begin.is)
    (c.is_first.ensures past judged.after here.waiting)
