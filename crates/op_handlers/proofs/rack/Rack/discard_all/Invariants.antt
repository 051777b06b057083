use Rattle.std.proofs.Common.{◌≡◌, ◌+◌, ◌≤◌, ◌*◌, ◌^◌}
use Rattle.std.specs.List.{sum_by}
use Rattle.std.specs.Vec.Iter.{into_iter_items, into_iter_len}
use Rattle.op_handlers.specs.Marks.{drop_mark_of}
use Rattle.op_handlers.specs.Rack.{handlers_in}
use Rattle.op_handlers.proofs.rack.Rack.discard_all.Given as goal

abbrev pub decreases-loop-slot : goal.decreases-loop-slot
decreases-loop-slot g l = into_iter_len l.rest

abbrev pub invariant-loop-slot : goal.invariant-loop-slot
invariant-loop-slot g l =
    record {
      marks : l.marks + sum_by (drop_mark_of g.H.CompletionHandler.marks) (into_iter_items l.rest)
          ≡ sum_by (drop_mark_of g.H.CompletionHandler.marks) (handlers_in l.fn.self);
      few : l.marks + into_iter_len l.rest * 2 ^ 64 ≤ 2 ^ 32 * 2 ^ 64;
    }
