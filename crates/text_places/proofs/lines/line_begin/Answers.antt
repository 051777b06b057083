use Rattle.std.proofs.Common.{◌≡◌, ◌+◌, ◌-◌, get_or, inr, arith, ap, ◌∙◌}
use Rattle.text_places.proofs.LineFeedLemmas.{line_feeds-more, line_feed-same, line_feed-other}
use Rattle.text_places.proofs.lines.line_begin.Goals as goal
use Rattle.text_places.proofs.lines.line_begin.Goals.{then-byte-eq10+else-line-number, else-byte-eq10}

pub returns-then-line-number : goal.returns-then-line-number
returns-then-line-number c =
    let bytes = c.args.text.now in
    let i = c.loop-at.at in
    let is : get_or bytes i 0 ≡ 10 = c.if-byte-eq10.true in
    let more = line_feeds-more bytes i (omega arith) in
    let one = line_feed-same (get_or bytes i 0) is in
    let back : i + 1 - 1 ≡ i = omega arith in
    record {
      within = omega arith;
      begins = inr (ap (λ k. get_or bytes k 0) back ∙ is);
      counted = omega (arith, more, one);
    }

pub loop-at-preserved : goal.loop-at-preserved
loop-at-preserved c =
    let bytes = c.args.text.now in
    let i = c.loop-at.at in
    let more = line_feeds-more bytes i (omega arith) in
    elim c.if-byte-eq10.branch [
      | then-byte-eq10+else-line-number w ↦
          let one = line_feed-same (get_or bytes i 0) (omega arith) in
          record { counted = omega (arith, more, one); few = omega arith }
      | else-byte-eq10 w ↦
          let none = line_feed-other (get_or bytes i 0) (omega arith) in
          record { counted = omega (arith, more, none); few = omega arith }
    ]
