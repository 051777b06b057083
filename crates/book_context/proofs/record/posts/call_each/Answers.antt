use Rattle.std.proofs.Common.{◌∙◌, arith}
use Rattle.book_context.proofs.RecordLemmas.{act_called, act_fits}
use Rattle.book_context.proofs.record.posts.call_each.Goals as goal

pub push_reserved-requires : goal.push_reserved-requires
push_reserved-requires c =
    let fits =
    act_fits c.args.acts.now c.loop-act.act-index c.loop-act-test.true c.args.calls.now.items
    c.loop-act.calls.items c.loop-act.invariant.calls _ c.requires in
    omega (arith, fits, c.loop-act.invariant.room, c.loop-act.calls.ok.0)

pub push_reserved-requires-in-loop-act : goal.push_reserved-requires-in-loop-act
push_reserved-requires-in-loop-act c =
    let fits =
    act_fits c.args.acts.now c.loop-act.act-index c.loop-act-test.true c.args.calls.now.items
    c.loop-act.calls.items c.loop-act.invariant.calls _ c.requires in
    omega (
      arith,
      fits,
      c.loop-act.invariant.room,
      c.push_reserved.ensures.capacity,
      c.push_reserved.ensures.len,
      c.loop-act.calls.ok.0,
    )

pub loop-act-preserved : goal.loop-act-preserved
loop-act-preserved c =
    record {
      calls =
          act_called c.args.acts.now c.loop-act.act-index c.loop-act-test.true c.args.calls.now.items
          c.loop-act.calls.items c.loop-act.invariant.calls _ _ c.push_reserved.ensures.items
          c.push_reserved-in-loop-act.ensures.items;
      room =
          c.push_reserved-in-loop-act.ensures.capacity ∙ c.push_reserved.ensures.capacity ∙ c.loop-act.invariant.room;
    }
