use Rattle.std.proofs.Common.{◌≡◌, ◌++◌, take, vec_capacity}
use Rattle.book_context.specs.Recording.{outside_calls}
use Rattle.book_context.proofs.record.posts.call_each.Given as goal

abbrev pub invariant-loop-act : goal.invariant-loop-act
invariant-loop-act l =
    record {
      calls : l.calls.items ≡ l.fn.calls.items ++ outside_calls (take l.act-index l.acts);
      room : vec_capacity l.calls ≡ vec_capacity l.fn.calls;
    }
