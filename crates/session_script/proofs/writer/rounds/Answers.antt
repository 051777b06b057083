use Rattle.std.proofs.Common.{ℕ, ◌+◌, List, drop, sym, ap, ◌∙◌}
use Rattle.std.specs.List.{flat_map}
use Rattle.session_script.specs.Spelling.{written, round_words}
use Rattle.session_script.proofs.WrittenLemmas.{written_more}
use Rattle.session_script.proofs.writer.rounds.Goals as goal

pub loop-next-preserved : goal.loop-next-preserved
loop-next-preserved c =
    ap (λ (text : List ℕ). written text (flat_map round_words (drop (c.loop-next.next-index + 1) c.args.rounds.now)))
    c.in_ok-round.ensures
    ∙ sym (written_more round_words c.args.rounds.now c.loop-next.next-index _ c.loop-next.out.items c.loop-next-test.true)
    ∙ c.loop-next.invariant
