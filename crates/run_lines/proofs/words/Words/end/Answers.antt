use Rattle.std.proofs.Common.{ap, sym, ◌∙◌}
use Rattle.run_lines.specs.Reading.{end_at, words_in}
use Rattle.run_lines.proofs.WordsLemmas.{goes_on}
use Rattle.run_lines.proofs.words.Words.end.Goals as goal

pub returns-in-Some : goal.returns-in-Some
returns-in-Some c =
    sym (ap (λ rest. end_at c.args.at (words_in rest)) c.in-Some.is ∙ goes_on c.args.at c.in-Some.field-0.now)
