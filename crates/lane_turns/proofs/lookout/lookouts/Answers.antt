use Rattle.std.proofs.Common.{◌-◌, ap, arith, length, sym}
use Rattle.std.specs.Arc.{arc_value}
use Rattle.ready_hints.specs.HintRule.{all_parts}
use Rattle.ready_hints.specs.Hints.{Passed, first_pass, one_part}
use Rattle.lane_turns.proofs.LookoutLemmas.{first_and_copies, none_missing}
use Rattle.lane_turns.proofs.lookout.lookouts.Goals as goal

pub loop-pass-init : goal.loop-pass-init
loop-pass-init c =
    let first = first_pass c.in_ok-hints.hints (all_parts - (c.args.workers - 1)) in
    let one = one_part c.in_ok-hints.hints in
    let same = sym c.in_ok-hints-2.ensures.ok in
    record {
      count =
          omega (
            arith,
            ap length c.in_ok-all.ensures.items,
            none_missing (λ (pass : Passed). pass.queue) c.in_ok-hints.hints c.in_ok-hints.passes first one
                c.args.workers c.in_ok-hints.ensures c.requires,
          );
      room = c.in_ok-all.ensures.exact;
      own =
          first_and_copies (λ (pass : Passed). pass.queue) (arc_value c.in_ok-hints-2.hints) c.in_ok-hints.passes first
          one (c.args.workers - 1) c.in_ok-hints.ensures same same;
    }
