use Rattle.std.proofs.Common.{add-one, ◌+◌, Some, take, drop, ap, ◌∙◌, arith, sym}
use Rattle.std.proofs.lemmas.List.{take_rest}
use Rattle.trace_check.proofs.SplitLemmas.{split_at, split_nowhere}
use Rattle.trace_check.proofs.reading.split.split_once.Goals as goal
use Rattle.trace_check.proofs.reading.split.split_once.Goals.{then-loop-before-test+else-bytes-before, else-loop-before-test}

pub returns-then-before-bytes : goal.returns-then-before-bytes
returns-then-before-bytes c =
    split_nowhere c.args.separator c.args.bytes.now (λ k below. c.loop-before.invariant.other k (omega arith))

pub returns-else-before-bytes : goal.returns-else-before-bytes
returns-else-before-bytes c =
    let bytes = c.args.bytes.now in
    let i = c.loop-before.before in
    elim c.loop-before-test.branch [
      | then-loop-before-test+else-bytes-before w ↦
          split_at c.args.separator bytes i (omega arith) (omega arith) c.loop-before.invariant.other
          ∙ ap (λ n. Some (take i bytes, drop n bytes)) (sym (add-one i))
          ∙ ap (λ back. Some (take i bytes, back)) (sym (take_rest bytes (i + 1)))
      | else-loop-before-test w ↦ absurd (omega arith)
    ]
