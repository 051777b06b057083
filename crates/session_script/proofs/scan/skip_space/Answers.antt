use Rattle.std.proofs.Common.{◌≡◌, ◌+◌, false, get_or, [], drop, sym, ap, ◌∙◌, arith, rules}
use Rattle.session_script.specs.Tokens.{is_printable, line_after, tokens_from}
use Rattle.session_script.proofs.ScanningLemmas.{skip_one}
use Rattle.session_script.proofs.scan.skip_space.Goals as goal
use Rattle.session_script.proofs.scan.skip_space.Goals.{then-bytes-skipped-eq10, else-bytes-skipped-eq10}

pub loop-skipped-preserved : goal.loop-skipped-preserved
loop-skipped-preserved c =
    let b = get_or c.args.bytes.now c.loop-skipped.skipped 0 in
    let blank : is_printable b ≡ false = search rules in
    let line : c.if-bytes-skipped-eq10.line ≡ line_after c.loop-skipped.line b =
    elim c.if-bytes-skipped-eq10.branch [
      | then-bytes-skipped-eq10 w ↦ search rules
      | else-bytes-skipped-eq10 w ↦ search rules
    ] in
    record {
      in_range = omega arith;
      countable =
          elim c.if-bytes-skipped-eq10.branch [
            | then-bytes-skipped-eq10 w ↦ omega arith
            | else-bytes-skipped-eq10 w ↦ omega arith
          ];
      same = λ count.
          ap (λ n. tokens_from n count [] (drop (c.loop-skipped.skipped + 1) c.args.bytes.now)) line
          ∙ sym (skip_one c.loop-skipped.line count c.loop-skipped.skipped c.args.bytes.now (omega arith) blank)
          ∙ c.loop-skipped.invariant.same count;
    }
