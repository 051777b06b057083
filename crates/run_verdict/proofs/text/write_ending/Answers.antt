use Rattle.std.proofs.Common.{ℕ, List, [], ◌∷◌, ◌++◌, subst, sym, ◌∙◌}
use Rattle.std.specs.Prelude.{codes}
use Rattle.asio_types.specs.Sink.{Extends}
use Rattle.asio_types.proofs.SinkLemmas.{extends_more}
use Rattle.std.specs.Prelude.{OnOk}
use Rattle.run_verdict.specs.declared.ending.Ending.{Ending}
use Rattle.run_verdict.specs.Text.{IsWritten, illegal_text, owed_text}
use Rattle.run_verdict.specs.Numbered.{numbered}
use Rattle.run_verdict.proofs.TextLemmas.{more_on, some_words}
use Rattle.run_verdict.proofs.text.write_ending.Goals as goal

pub returns-in_ok-write_number-in-SoFar : goal.returns-in_ok-write_number-in-SoFar
returns-in_ok-write_number-in-SoFar g c =
    let written = g.K.Sink.written in
    subst (λ (e : Ending). OnOk c.write_owed.result
    (IsWritten e (written c.args.out.now) (written c.write_owed.new.out))) (sym c.in-SoFar.is)
    (more_on c.write_owed.result (written c.args.out.now) (written c.write_number.new.out) (written c.write_owed.new.out)
    (numbered (codes "legal so far, ") c.in-SoFar.lines (codes " lines" ++ 10 ∷ [])) (owed_text c.in-SoFar.owed)
    c.in_ok-write_number-in-SoFar.ensures c.write_owed.ensures)

pub returns-in-Illegal : goal.returns-in-Illegal
returns-in-Illegal g c =
    let written = g.K.Sink.written in
    subst (λ (e : Ending). OnOk c.write_illegal.result
    (IsWritten e (written c.args.out.now) (written c.write_illegal.new.out))) (sym c.in-Illegal.is)
    (some_words c.write_illegal.result c.as_bytes.result.now
    (λ (words : List ℕ). illegal_text c.in-Illegal.at c.in-Illegal.rule c.in-Illegal.line words)
    (written c.args.out.now) (written c.write_illegal.new.out) c.write_illegal.ensures)

pub returns-in-NoLineFeed : goal.returns-in-NoLineFeed
returns-in-NoLineFeed g c =
    let written = g.K.Sink.written in
    subst (λ (e : Ending). OnOk c.write_number-in-NoLineFeed.result
    (IsWritten e (written c.args.out.now) (written c.write_number-in-NoLineFeed.new.out))) (sym c.in-NoLineFeed.is)
    (some_words c.write_number-in-NoLineFeed.result (codes ": expected a line feed at its end" ++ 10 ∷ [])
    (λ (words : List ℕ). numbered (codes "bad run at line ") c.in-NoLineFeed.at words)
    (written c.args.out.now) (written c.write_number-in-NoLineFeed.new.out) c.write_number-in-NoLineFeed.ensures)

pub returns-in-TooLong : goal.returns-in-TooLong
returns-in-TooLong g c =
    let written = g.K.Sink.written in
    subst (λ (e : Ending). OnOk c.write_number-in-TooLong.result
    (IsWritten e (written c.args.out.now) (written c.write_number-in-TooLong.new.out))) (sym c.in-TooLong.is)
    (some_words c.write_number-in-TooLong.result (codes ": expected less than 65536 bytes" ++ 10 ∷ [])
    (λ (words : List ℕ). numbered (codes "bad run at line ") c.in-TooLong.at words)
    (written c.args.out.now) (written c.write_number-in-TooLong.new.out) c.write_number-in-TooLong.ensures)
