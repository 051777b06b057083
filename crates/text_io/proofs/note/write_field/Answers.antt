use Rattle.std.proofs.Common.{subst, ◌∙◌}
use Rattle.std.specs.Fmt.{decimal}
use Rattle.asio_types.specs.Sink.{ExtendsByPart}
use Rattle.text_io.proofs.NoteLemmas.{on_err, part_after}
use Rattle.text_io.proofs.note.write_field.Goals as goal

pub returns-clause-part : goal.returns-clause-part
returns-clause-part g c =
    let written = g.N.Sink.written in
    on_err c.write_all-2.result c.write_all-2.ensures.part
    (λ part.
    part_after (written c.args.notes.now) (written c.write_all.new.sink) (written c.write_all-2.new.sink)
    c.args.words.now (decimal c.args.number) c.in_ok-write_all.ensures.whole (subst
    (λ digits. ExtendsByPart (written c.write_all.new.sink) digits (written c.write_all-2.new.sink))
    (c.as_bytes.ensures.value ∙ c.format.ensures.text) part))
