use Rattle.std.proofs.Common.{ℕ, List, [], ◌∷◌, ◌++◌, subst, sym, ◌∙◌}
use Rattle.std.specs.Prelude.{codes}
use Rattle.asio_types.specs.Sink.{Extends}
use Rattle.asio_types.proofs.SinkLemmas.{extends_more}
use Rattle.run_lines.specs.BadLine.{wants_text}
use Rattle.run_verdict.specs.Numbered.{numbered}
use Rattle.run_verdict.proofs.TextLemmas.{more_if}
use Rattle.run_verdict.proofs.text.write_bad.Goals as goal

pub returns : goal.returns
returns g c =
    let written = g.K.Sink.written in
    let line : List ℕ = numbered (codes "bad run at line ") c.args.at (codes ": ") in
    let word : List ℕ = numbered (codes "word ") c.args.bad.word (codes ": expected ") in
    let wants : List ℕ = wants_text c.args.bad.wants in
    more_if c.write_all-2.result (written c.args.out.now) (written c.write_all.new.sink) (written c.write_all-2.new.sink)
    ((line ++ word) ++ wants) (10 ∷ [])
    (extends_more (written c.args.out.now) (written c.write_number-2.new.out) (written c.write_all.new.sink) (line ++ word) wants
    (extends_more (written c.args.out.now) (written c.write_number.new.out) (written c.write_number-2.new.out) line word
    c.in_ok-write_number.ensures c.in_ok-write_number-2.ensures)
    (subst (λ (bytes : List ℕ). Extends (written c.write_number-2.new.out) bytes (written c.write_all.new.sink))
    (c.as_bytes.ensures.value ∙ c.as_str.ensures) c.in_ok-write_all.ensures.whole))
    c.write_all-2.ensures.whole
