use Rattle.std.proofs.Common.{List, subst, ⊎_elim}
use Rattle.std.specs.List.{Contains}
use Rattle.run_forced.specs.declared.clock.Seen.{Seen}
use Rattle.run_forced.proofs.ClockLemmas.{none_named}
use Rattle.run_forced.proofs.clock.newest.Goals as goal

pub returns : goal.returns
returns c = λ seen named.
    ⊎_elim (λ none. absurd (none_named seen c.new-kept.result.items c.new-kept.ensures.items none))
    (λ own. subst (λ (l : List Seen). Contains l seen) c.deref.ensures.value own) (c.in_ok-keep_below.ensures seen named)
