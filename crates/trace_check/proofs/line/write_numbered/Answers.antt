use Rattle.history_book.specs.Trace.{line_end}
use Rattle.text_io.proofs.NoteLemmas.{on_err, part_after}
use Rattle.text_io.specs.Note.{field}
use Rattle.trace_check.proofs.line.write_numbered.Goals as goal

pub returns-clause-part : goal.returns-clause-part
returns-clause-part g c =
    let written = g.K.Sink.written in
    on_err c.write_all.result c.write_all.ensures.part
    (λ part.
    part_after (written c.args.sink.now) (written c.write_field.new.notes) (written c.write_all.new.sink)
    (field c.args.words.now c.args.number) line_end c.in_ok-write_field.ensures.whole part)
