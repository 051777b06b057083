use Rattle.std.proofs.Common.{◌+◌, List, ◌∷◌, ℕ, take, drop, ap, ◌∙◌, arith, sym, add-one}
use Rattle.std.proofs.lemmas.List.{take_rest}
use Rattle.run_lines.specs.Reading.{words_in}
use Rattle.run_lines.specs.Words.{words_of}
use Rattle.run_lines.proofs.WordsLemmas.{words_at, words_nowhere}
use Rattle.run_lines.proofs.words.Words.take.Goals as goal

pub returns-then-end-rest : goal.returns-then-end-rest
returns-then-end-rest c =
    ap words_in c.in_ok-rest.was
    ∙ words_nowhere c.in_ok-rest.rest.now (λ k below. c.word_end-end.ensures.before k (omega arith))

pub returns : goal.returns
returns c =
    let rest : List ℕ = c.in_ok-rest.rest.now in
    let end : ℕ = c.word_end-end.result in
    ap words_in c.in_ok-rest.was
    ∙ words_at rest end (omega arith) (c.word_end-end.ensures.stops (omega arith)) c.word_end-end.ensures.before
    ∙ ap (λ n. take end rest ∷ words_of (drop n rest)) (sym (add-one end))
    ∙ ap (λ back. take end rest ∷ words_of back) (sym (take_rest rest (end + 1)))
