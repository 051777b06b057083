use Rattle.std.proofs.Common.{ℕ, List, subst, sym, ◌∙◌}
use Rattle.std.specs.Prelude.{get_or, take}
use Rattle.asio_types.specs.Sink.{Extends}
use Rattle.asio_types.proofs.SinkLemmas.{extends_more}
use Rattle.run_picture.specs.Escaped.{escaped, escaped_byte}
use Rattle.run_picture.proofs.EscapedLemmas.{escaped_more}
use Rattle.run_picture.proofs.escaped.write_escaped.Goals as goal

pub loop-byte-preserved : goal.loop-byte-preserved
loop-byte-preserved g c =
    let written = g.K.Sink.written in
    let text = c.args.text.now in
    let at = c.loop-byte.byte-index in (
      c.in_ok-write_byte.ensures.counts ∙ c.loop-byte.invariant.0,
      subst (λ (bytes : List ℕ). Extends (written c.args.out.now) bytes (written c.write_byte.new.out))
          (sym (escaped_more text at c.loop-byte-test.true))
          (extends_more (written c.args.out.now) (written c.loop-byte.out) (written c.write_byte.new.out)
          (escaped (take at text)) (escaped_byte (get_or text at 0)) c.loop-byte.invariant.1
          c.in_ok-write_byte.ensures.written),
    )
