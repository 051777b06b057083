use Rattle.std.proofs.Common.{subst, ◌∙◌, ◌++◌}
use Rattle.std.specs.Fmt.{decimal}
use Rattle.asio_types.specs.Sink.{Extends, ExtendsByPart}
use Rattle.asio_types.proofs.SinkLemmas.{extends_more}
use Rattle.text_io.proofs.NoteLemmas.{on_any, on_err, part_after, part_of_more}
use Rattle.generated_session.proofs.line.write_number.Goals as goal

pub returns-in_err-write_all-2-clause-part : goal.returns-in_err-write_all-2-clause-part
returns-in_err-write_all-2-clause-part g c =
    let written = g.K.Sink.written in
    on_any c.from_residual-in_err-write_all-2.result
    (part_of_more (written c.args.sink.now) (written c.write_all-2.new.sink) (c.args.word.now ++ decimal c.args.number)
    c.args.end.now (part_after (written c.args.sink.now) (written c.write_all.new.sink)
    (written c.write_all-2.new.sink) c.args.word.now (decimal c.args.number) c.in_ok-write_all.ensures.whole
    (subst (λ digits. ExtendsByPart (written c.write_all.new.sink) digits (written c.write_all-2.new.sink))
    (c.as_bytes.ensures.value ∙ c.format.ensures.text) c.in_err-write_all-2.ensures.part)))

pub returns-clause-part : goal.returns-clause-part
returns-clause-part g c =
    let written = g.K.Sink.written in
    on_err c.write_all-3.result c.write_all-3.ensures.part
    (part_after (written c.args.sink.now) (written c.write_all-2.new.sink) (written c.write_all-3.new.sink)
    (c.args.word.now ++ decimal c.args.number) c.args.end.now (extends_more (written c.args.sink.now)
    (written c.write_all.new.sink) (written c.write_all-2.new.sink) c.args.word.now (decimal c.args.number)
    c.in_ok-write_all.ensures.whole (subst
    (λ digits. Extends (written c.write_all.new.sink) digits (written c.write_all-2.new.sink))
    (c.as_bytes.ensures.value ∙ c.format.ensures.text) c.in_ok-write_all-2.ensures.whole)))
