use Rattle.std.proofs.Common.{◌≡◌, ◌≤◌, ◌+◌, ◌++◌, List, length}
use Rattle.std.specs.Prelude.{vec_capacity}
use Rattle.std.specs.Vec.Iter.{into_iter_items, into_iter_len}
use Rattle.lane_turns.specs.Firsts.{IsFirstWorker}
use Rattle.lane_turns.specs.Pens.{PenView}
use Rattle.lane_turns.specs.Rooms.{EachAt}
use Rattle.lane_context.proofs.first_batons.first_workers.Given as goal

abbrev pub decreases-loop-pen : goal.decreases-loop-pen
decreases-loop-pen g l = into_iter_len l.rest

abbrev pub invariant-loop-pen : goal.invariant-loop-pen
invariant-loop-pen g l = record {
  front : List PenView;
  split : l.fn.pens.items ≡ front ++ into_iter_items l.rest;
  size : length front + into_iter_len l.rest ≡ length l.fn.pens.items;
  made : length l.workers.items ≡ length front;
  room : length l.fn.pens.items ≤ vec_capacity l.workers;
  each : EachAt (IsFirstWorker l.script g.N.LaneSession.clock) l.workers.items;
}
