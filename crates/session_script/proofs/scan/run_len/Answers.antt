use Rattle.std.proofs.Common.{◌≡◌, true, get_or, sym, ◌∙◌, arith, rules}
use Rattle.session_script.specs.Tokens.{is_printable}
use Rattle.session_script.proofs.ScanningLemmas.{run_one}
use Rattle.session_script.proofs.scan.run_len.Goals as goal

pub loop-count-preserved : goal.loop-count-preserved
loop-count-preserved c =
    let b = get_or c.args.bytes.now c.loop-count.count 0 in
    let printable : is_printable b ≡ true = search rules in
    record {
      in_range = omega arith;
      same = λ line count.
          sym (run_one line count c.loop-count.count c.args.bytes.now (omega arith) printable)
          ∙ c.loop-count.invariant.same line count;
    }
