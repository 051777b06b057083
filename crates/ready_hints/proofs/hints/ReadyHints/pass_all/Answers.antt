use Rattle.std.proofs.Common.{◌≡◌, ◌-◌, [], ◌∷◌, reverse, replicate, ap, ◌∙◌, arith}
use Rattle.std.proofs.lemmas.List.{reverse-append}
use Rattle.ready_hints.specs.HintRule.{all_parts}
use Rattle.ready_hints.specs.Hints.{Passed, first_pass, one_part}
use Rattle.ready_hints.proofs.PassLemmas.{reverse-replicate}
use Rattle.ready_hints.proofs.hints.ReadyHints.pass_all.Goals as goal

pub returns : goal.returns
returns c =
    let was = c.loop-left.invariant in
    let one : c.loop-left.left ≡ 1 = let a = c.loop-left-test.false in let b = was.1 in omega arith in
    let k = c.args.count - 1 in
    ap reverse c.push_reserved-2.ensures.items ∙ (reverse-append c.loop-left.list.items (c.loop-left.whole ∷ [])
    ∙ (ap (λ (w : Passed). w ∷ reverse c.loop-left.list.items) (was.0 ∙ ap (λ n. first_pass c.args.self.now (all_parts - (c.args.count - n))) one)
    ∙ ap (λ ps. first_pass c.args.self.now (all_parts - k) ∷ ps) (ap reverse (was.3 ∙ ap (λ n. replicate (c.args.count - n) (one_part c.args.self.now)) one) ∙ reverse-replicate k (one_part c.args.self.now))))
