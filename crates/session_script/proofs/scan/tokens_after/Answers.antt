use Rattle.std.proofs.Common.{◌≡◌, ◌≤◌, length, get_or, sym, ap, ◌∙◌, arith, ⊎_elim}
use Rattle.std.proofs.str.Laws.{order}
use Rattle.std.proofs.lemmas.Bool.{false≢true}
use Rattle.session_script.specs.Tokens.{is_printable, tokens_at}
use Rattle.session_script.proofs.ScanningLemmas.{token_comes, end_comes}
use Rattle.session_script.proofs.scan.tokens_after.Goals as goal

pub returns-then-count-eq0 : goal.returns-then-count-eq0
unfolding tokens_at
returns-then-count-eq0 c =
    let text = c.skip_space-line.result.0.now in
    let n = c.run_len-count.result in
    let zero_is : n ≡ 0 = omega arith in
    let none : length text ≤ 0 =
    ⊎_elim
    (λ some.
    absurd (false≢true (sym (c.run_len-count.ensures.stops (omega arith))
    ∙ ap (λ i. is_printable (get_or text i 0)) zero_is ∙ c.skip_space-line.ensures.stops some))) (λ le. le)
    (order 0 (length text)) in
    end_comes c.args.before.line c.args.before.token c.skip_space-line.result.1 c.args.rest.now text
    c.skip_space-line.ensures.same none

pub returns : goal.returns
unfolding tokens_at
returns c =
    let text = c.skip_space-line.result.0.now in
    let line = c.skip_space-line.result.1 in
    let n = c.run_len-count.result in
    let count = c.args.before.token in
    rw (c.split_at.ensures.front, c.split_at.ensures.back)
    (sym (token_comes line count n text (omega arith) c.run_len-count.ensures.in_range c.run_len-count.ensures.stops)
    ∙ c.run_len-count.ensures.same line count ∙ c.skip_space-line.ensures.same count)
