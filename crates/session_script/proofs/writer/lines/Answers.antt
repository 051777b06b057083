use Rattle.std.proofs.Common.{ℕ, ◌+◌, List, drop, sym, ap, ◌∙◌}
use Rattle.std.specs.List.{flat_map}
use Rattle.asio_types.specs.declared.world.Line.{Line}
use Rattle.session_script.specs.Spelling.{written, line_words}
use Rattle.session_script.proofs.WrittenLemmas.{written_more}
use Rattle.session_script.proofs.writer.lines.Goals as goal

pub loop-next-preserved : goal.loop-next-preserved
loop-next-preserved c =
    ap (λ (text : List ℕ). written text (flat_map line_words (drop (c.loop-next.next-index + 1) c.args.lines.now)))
    (c.in_ok-line.ensures ∙ ap (λ (next : Line). written c.loop-next.out.items (line_words next)) c.next-item.is)
    ∙ sym (written_more line_words c.args.lines.now c.loop-next.next-index c.next-item.result c.loop-next.out.items
    c.loop-next-test.true)
    ∙ c.loop-next.invariant
