use Rattle.std.proofs.Common.{◌≡◌, subst}
use Rattle.std.specs.Prelude.{Bool, None}
use Rattle.run_rules.specs.declared.frame.Frame.{Frame}
use Rattle.run_check.proofs.TestLemmas.{frame_test}
use Rattle.run_witness.specs.Reached.{reached_at}
use Rattle.run_witness.specs.declared.causes.Causes.{Causes}
use Rattle.run_witness.proofs.CausesLemmas.{nothing_noted}
use Rattle.run_witness.proofs.causes.Causes.new.Goals as goal

pub returns : goal.returns
returns c = λ run apart placing.
    let kept : Causes = record {
      trees = c.new.result;
      called = c.new-2.result;
      completed = c.new-3.result;
      marked = c.new-4.result;
      left = c.new-5.result;
      cancelled = c.new-6.result;
    } in
    let P : (Frame → Frame → Bool) → Type 0 = λ test. (key : Frame) → reached_at test c.new.result key ≡ None in
    nothing_noted run placing kept (subst P frame_test c.new.ensures) c.new-2.ensures c.new-3.ensures c.new-4.ensures
    c.new-5.ensures c.new-6.ensures.items
