use Rattle.std.proofs.Common.{◌≡◌, ◌++◌, [], drop, sym, ap, ◌∙◌, arith, length-drop}
use Rattle.std.proofs.lemmas.List.{append-nil}
use Rattle.session_script.specs.Kinds.{decoded}
use Rattle.session_script.proofs.NumbersLemmas.{decoded-short}
use Rattle.session_script.proofs.reader.field.decoded.Goals as goal

pub returns : goal.returns
returns c =
    let left : decoded (drop c.loop-read.read c.args.digits.now) ≡ [] =
    decoded-short (drop c.loop-read.read c.args.digits.now) (omega (arith, length-drop c.loop-read.read c.args.digits.now)) in
    c.of.ensures ∙ sym (append-nil c.loop-read.bytes.items) ∙ ap (λ rest. c.loop-read.bytes.items ++ rest) (sym left)
    ∙ c.loop-read.invariant.read
