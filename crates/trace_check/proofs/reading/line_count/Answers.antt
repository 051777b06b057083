use Rattle.std.proofs.Common.{get_or, arith}
use Rattle.trace_check.proofs.SplitLemmas.{count_more, byte_count_same, byte_count_other}
use Rattle.trace_check.proofs.reading.line_count.Goals as goal
use Rattle.trace_check.proofs.reading.line_count.Goals.{then-byte-eq10, else-byte-eq10}

pub loop-byte-preserved : goal.loop-byte-preserved
loop-byte-preserved c =
    let bytes = c.args.bytes.now in
    let i = c.loop-byte.byte-index in
    let more = count_more 10 i bytes (omega arith) in
    elim c.if-byte-eq10.branch [
      | then-byte-eq10 w ↦
          let one = byte_count_same 10 (get_or bytes i 0) (omega arith) in
          record { counted = omega (arith, more, one); few = omega arith }
      | else-byte-eq10 w ↦
          let none = byte_count_other 10 (get_or bytes i 0) (omega arith) in
          record { counted = omega (arith, more, none); few = omega arith }
    ]
