use Rattle.std.proofs.Common.{◌∷◌, reverse, sym, ◌∙◌}
use Rattle.run_witness.proofs.JudgingLemmas.{is_witness, ok_more, refuted}
use Rattle.run_witness.proofs.WitnessLemmas.{are_stood}
use Rattle.run_witness.proofs.judging.judge_lines.Goals as goal

pub returns-then-branch : goal.returns-then-branch
returns-then-branch c =
    ok_more c.is_shown.result
    (λ good shown apart run are alone.
    let before = reverse c.args.steps.now in
    let last = c.args.last.now in
    let put = c.in_ok-put_order.ensures.good apart c.args.thing run are (c.new-replay.ensures run apart) c.if-branch.true in
    let both = shown apart run (last ∷ before) are put.placing in (
      λ is. is_witness run before last c.args.thing c.args.claim c.put_order.new.self.placing alone put (both.0 is).0
          (both.0 is).1,
      λ witness. both.1 (
        are_stood run
            (last ∷ before) c.put_order.new.self.placing put.placing witness.order.each,
        witness.holds,
      ),
    )) c.is_shown.ensures

pub returns : goal.returns
returns c = λ apart run are alone.
    refuted (λ witness. sym c.if-branch.false
    ∙ c.in_ok-put_order.ensures.bad apart c.args.thing run are
    (c.new-replay.ensures run apart) witness.order.each witness.legal)
