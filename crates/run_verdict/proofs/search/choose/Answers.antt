use Rattle.std.proofs.Common.{◌≡◌, inl, inr, refl, sym, ◌∙◌}
use Rattle.run_verdict.proofs.SearchLemmas.{not_both}
use Rattle.run_verdict.proofs.search.choose.Goals as goal

pub returns-then-stands_against : goal.returns-then-stands_against
returns-then-stands_against c = λ level past before confronts.
    inl ((c.stands_against.ensures level past before confronts).0 c.if-stands_against.true, refl)

pub returns-else-stands_against : goal.returns-else-stands_against
returns-else-stands_against c = λ level past before confronts.
    inr (
      λ stands. not_both c.stands_against.result c.if-stands_against.false
          ((c.stands_against.ensures level past before confronts).1 stands),
      refl,
    )
