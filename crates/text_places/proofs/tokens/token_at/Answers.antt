use Rattle.std.proofs.Common.{◌≡◌, ◌+◌, false, not, ◌&&◌, take, get_or, if◌then◌else◌, ap, sym, ◌∙◌, arith}
use Rattle.text_places.specs.Tokens.{is_printable, tokens_begun}
use Rattle.text_places.proofs.TokenLemmas.{tokens_begun-more, ends_inside-more}
use Rattle.text_places.proofs.tokens.token_at.Goals as goal

pub returns-then-begun-number-clause-found : goal.returns-then-begun-number-clause-found
returns-then-begun-number-clause-found c =
    let text = c.args.text.now in
    let i = c.loop-at.at in
    let more = tokens_begun-more text i false (omega arith) in
    let added : c.begins.result ≡ (if is_printable (get_or text i 0) && not c.loop-at.inside then 1 else 0) =
    c.begins.ensures.value in
    let step : tokens_begun false (take (i + 1) text) ≡ tokens_begun false (take i text) + c.begins.result =
    more
    ∙ ap (λ b. tokens_begun false (take i text) + (if is_printable (get_or text i 0) && not b then 1 else 0))
    (sym c.loop-at.invariant.inside)
    ∙ ap (λ n. tokens_begun false (take i text) + n) (sym added) in
    record {
      within = omega arith;
      before = omega (arith, step, c.begins.ensures.few, c.loop-at.invariant.counted);
      with = omega (arith, step, c.loop-at.invariant.counted);
    }

pub loop-at-preserved : goal.loop-at-preserved
loop-at-preserved c =
    let text = c.args.text.now in
    let i = c.loop-at.at in
    let more = tokens_begun-more text i false (omega arith) in
    let added : c.begins.result ≡ (if is_printable (get_or text i 0) && not c.loop-at.inside then 1 else 0) =
    c.begins.ensures.value in
    let step : tokens_begun false (take (i + 1) text) ≡ tokens_begun false (take i text) + c.begins.result =
    more
    ∙ ap (λ b. tokens_begun false (take i text) + (if is_printable (get_or text i 0) && not b then 1 else 0))
    (sym c.loop-at.invariant.inside)
    ∙ ap (λ n. tokens_begun false (take i text) + n) (sym added) in
    record {
      counted = omega (arith, step, c.loop-at.invariant.counted);
      inside = c.is_printable-inside.ensures ∙ sym (ends_inside-more text i false (omega arith));
      few = omega (arith, c.begins.ensures.few, c.loop-at.invariant.few);
      less = λ some. omega (arith, c.begins.ensures.few, c.loop-at.invariant.less some);
    }
