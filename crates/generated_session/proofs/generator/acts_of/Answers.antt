use Rattle.std.proofs.Common.{◌∙◌, ◌-◌, arith, vec_len}
use Rattle.session_script.specs.Outcome.{entries_of}
use Rattle.generated_session.proofs.ActsLemmas.{next_acts}
use Rattle.generated_session.proofs.generator.acts_of.Goals as goal

pub loop-acts-smaller : goal.loop-acts-smaller
loop-acts-smaller c =
    let next =
    next_acts c.args.size (c.args.size - c.len-in-loop-acts.result) (vec_len c.loop-acts.acts)
    (vec_len c.push_item.new.acts) c.loop-acts.x c.after.result (entries_of c.loop-acts.acts.items)
    (entries_of c.push_item.new.acts.items) (omega (arith, c.loop-acts-test.true))
    (omega (arith, c.len-in-loop-acts.ensures)) c.after.ensures c.push_item.ensures.one c.push_item.ensures.one_more
    c.push_item.ensures.two c.push_item.ensures.longer in
    omega (arith, next.grown, next.within)

pub loop-acts-preserved : goal.loop-acts-preserved
loop-acts-preserved c =
    let next =
    next_acts c.args.size (c.args.size - c.len-in-loop-acts.result) (vec_len c.loop-acts.acts)
    (vec_len c.push_item.new.acts) c.loop-acts.x c.after.result (entries_of c.loop-acts.acts.items)
    (entries_of c.push_item.new.acts.items) (omega (arith, c.loop-acts-test.true))
    (omega (arith, c.len-in-loop-acts.ensures)) c.after.ensures c.push_item.ensures.one c.push_item.ensures.one_more
    c.push_item.ensures.two c.push_item.ensures.longer in
    record {
      made = rw c.after_item-x.ensures.next (next.rest ∙ c.loop-acts.invariant.made);
      within = next.within;
      room = omega (arith, c.loop-acts.invariant.room, c.push_item.ensures.capacity);
      number = c.after_item-x.ensures.small;
    }
