use Rattle.std.proofs.Common.{true, false, ap, sym, ◌∙◌}
use Rattle.run_lines.specs.Reading.{text_at, words_in}
use Rattle.run_lines.proofs.WordsLemmas.{no_text, some_text}
use Rattle.run_lines.proofs.words.Words.text.Goals as goal

pub returns-in_default : goal.returns-in_default
returns-in_default c = ap (λ rest. text_at c.args.at (words_in rest)) c.in_default.is ∙ no_text c.args.at

pub returns-then-is_text : goal.returns-then-is_text
returns-then-is_text c =
    ap (λ rest. text_at c.args.at (words_in rest)) c.in-Some.is
    ∙ some_text c.args.at c.in-Some.text.now true (sym c.is_text.ensures ∙ c.if-is_text.true)

pub returns-else-is_text : goal.returns-else-is_text
returns-else-is_text c =
    ap (λ rest. text_at c.args.at (words_in rest)) c.in-Some.is
    ∙ some_text c.args.at c.in-Some.text.now false (sym c.is_text.ensures ∙ c.if-is_text.false)
