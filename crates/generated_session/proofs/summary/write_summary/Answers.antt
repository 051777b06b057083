use Rattle.std.proofs.Common.{◌∙◌, ap, refl, subst}
use Rattle.std.specs.List.{flat_map}
use Rattle.asio_types.specs.Sink.{ExtendsByPart}
use Rattle.history_book.proofs.PiecesLemmas.{extends_by_part_at}
use Rattle.text_io.proofs.NoteLemmas.{on_any}
use Rattle.generated_session.proofs.LineLemmas.{extends_by_piece}
use Rattle.generated_session.specs.Summary.{lines_of, tally_of, text_of_line}
use Rattle.generated_session.proofs.summary.write_summary.Goals as goal

pub returns-in_err-write-clause-part : goal.returns-in_err-write-clause-part
returns-in_err-write-clause-part g c =
    let first = g.K.Sink.written c.args.sink.now in
    let third = g.K.Sink.written c.write.new.sink in
    on_any c.from_residual.result
    (subst (λ lines. ExtendsByPart first (flat_map text_of_line lines) third)
    (c.as_slice-line-items.ensures ∙ c.all-lines.ensures ∙ ap (lines_of c.args.start c.args.size) c.of.ensures
    ∙ ap (λ events. lines_of c.args.start c.args.size (tally_of events)) c.events.ensures)
    (extends_by_part_at text_of_line first (g.K.Sink.written c.loop-line.sink) third
    c.as_slice-line-items.result.now c.loop-line.line-index _ _ c.loop-line-test.true refl
    c.loop-line.invariant.written c.in_err-write.ensures.part))

pub loop-line-preserved : goal.loop-line-preserved
loop-line-preserved g c = record {
  written =
      extends_by_piece text_of_line (g.K.Sink.written c.args.sink.now) (g.K.Sink.written c.loop-line.sink)
      (g.K.Sink.written c.write.new.sink) c.as_slice-line-items.result.now c.loop-line.line-index _
      c.loop-line-test.true c.loop-line.invariant.written c.in_ok-write.ensures.whole;
  counted = c.in_ok-write.ensures.counts ∙ c.loop-line.invariant.counted;
}
