use Rattle.std.proofs.Common.{◌++◌, [], ◌∷◌}
use Rattle.std.specs.Prelude.{codes}
use Rattle.std.specs.Fmt.{decimal}
use Rattle.text_io.proofs.NoteLemmas.{on_any, on_err, part_after, part_of_more}
use Rattle.generated_session.specs.Summary.{number_line}
use Rattle.generated_session.proofs.line.SummaryLine.write.Goals as goal

pub returns-in_err-write_number-in-Made-clause-part : goal.returns-in_err-write_number-in-Made-clause-part
returns-in_err-write_number-in-Made-clause-part g c =
    let written = g.K.Sink.written in
    rw c.in-Made.is (on_any c.from_residual.result
    (part_of_more (written c.args.sink.now) (written c.write_number.new.sink) (codes "gen " ++ decimal c.in-Made.start ++ (32 ∷ [])) (number_line [] c.in-Made.size) c.in_err-write_number-in-Made.ensures.part))

pub returns-in_ok-write_number-in-Made-clause-part : goal.returns-in_ok-write_number-in-Made-clause-part
returns-in_ok-write_number-in-Made-clause-part g c =
    let written = g.K.Sink.written in
    rw c.in-Made.is (on_err c.write_number-in-Made.result c.write_number-in-Made.ensures.part
    (part_after (written c.args.sink.now) (written c.write_number.new.sink) (written c.write_number-in-Made.new.sink) (codes "gen " ++ decimal c.in-Made.start ++ (32 ∷ [])) (number_line [] c.in-Made.size) c.in_ok-write_number-in-Made.ensures.whole))
