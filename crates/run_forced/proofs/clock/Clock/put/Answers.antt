use Rattle.std.proofs.Common.{◌≡◌, List, inl, inr, ⊎_elim}
use Rattle.std.proofs.lemmas.List.Elements.{Contains-push_cases}
use Rattle.run_forced.specs.declared.clock.Seen.{Seen}
use Rattle.run_forced.proofs.ClockLemmas.{only_one}
use Rattle.run_forced.proofs.clock.Clock.put.Goals as goal

pub returns : goal.returns
returns c = λ other named. ⊎_elim (λ own. inl own) (λ one. inr (only_one c.args.seen other one)) (c.in_ok-self.ensures other named)
