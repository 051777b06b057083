use Rattle.std.proofs.Common.{get_or, arith}
use Rattle.text_places.proofs.LineFeedLemmas.{line_feeds-more, line_feed-same, line_feed-other}
use Rattle.text_places.proofs.lines.lines_in.Goals as goal
use Rattle.text_places.proofs.lines.lines_in.Goals.{then-byte-eq10, else-byte-eq10}

pub loop-byte-preserved : goal.loop-byte-preserved
loop-byte-preserved c =
    let bytes = c.args.text.now in
    let i = c.loop-byte.byte-index in
    let more = line_feeds-more bytes i (omega arith) in
    elim c.if-byte-eq10.branch [
      | then-byte-eq10 w ↦
          let one = line_feed-same (get_or bytes i 0) (omega arith) in
          record { counted = omega (arith, more, one); few = omega arith }
      | else-byte-eq10 w ↦
          let none = line_feed-other (get_or bytes i 0) (omega arith) in
          record { counted = omega (arith, more, none); few = omega arith }
    ]
