use Rattle.std.proofs.Common.{[], reverse, take}
use Rattle.run_witness.specs.Facts.{IsSurvey}
use Rattle.run_witness.proofs.facts.see_all.Given as goal

abbrev pub invariant-loop-line : goal.invariant-loop-line
invariant-loop-line l = IsSurvey l.apart l.thing [] l.fn.survey
    → IsSurvey l.apart l.thing (reverse (take l.line-index l.lines)) l.survey
