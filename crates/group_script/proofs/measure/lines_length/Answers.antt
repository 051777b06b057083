use Rattle.std.proofs.Common.{ap, arith, subst}
use Rattle.std.proofs.lemmas.List.Elements.{All-more}
use Rattle.asio_types.specs.declared.world.Line.{Line}
use Rattle.session_script.specs.Spelling.{line_words}
use Rattle.session_script.specs.Writable.{IsFedBytes}
use Rattle.group_script.specs.Measure.{span}
use Rattle.group_script.proofs.SpanLemmas.{span-more}
use Rattle.group_script.proofs.measure.lines_length.Goals as goal

pub loop-line-preserved : goal.loop-line-preserved
loop-line-preserved c =
    let more =
    span-more line_words c.args.lines.now c.loop-line.line-index c.line-item.result
    (omega (arith, c.loop-line-test.true)) in
    let here = ap (λ (line : Line). span (line_words line)) c.line-item.is in
    record {
      length = omega (arith, more, here, c.loop-line.invariant.length, c.line_length-total.ensures.length);
      bound = omega (arith, c.loop-line.invariant.bound, c.line_length-total.ensures.few);
      fed =
          All-more (λ line. IsFedBytes line.what) c.args.lines.now c.loop-line.line-index c.line-item.result
          (omega (arith, c.loop-line-test.true)) c.loop-line.invariant.fed
          (subst (λ (line : Line). IsFedBytes line.what) c.line-item.is c.line_length-total.ensures.fed);
    }
