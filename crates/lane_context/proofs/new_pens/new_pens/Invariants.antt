use Rattle.std.proofs.Common.{◌≡◌, ◌≤◌, ◌+◌, ◌++◌, List, get_or, length, map}
use Rattle.std.specs.Prelude.{Vec, vec_capacity}
use Rattle.std.specs.Global.{Global}
use Rattle.std.specs.Vec.Iter.{into_iter_items, into_iter_len}
use Rattle.lane_logs.specs.declared.log.LogEntry.{LogEntry}
use Rattle.lane_turns.specs.Rooms.{EachAt, IsNewPen, seats_on}
use Rattle.lane_context.proofs.new_pens.new_pens.Given as goal

abbrev pub decreases-loop-log : goal.decreases-loop-log
decreases-loop-log l = into_iter_len l.rest

abbrev pub invariant-loop-log : goal.invariant-loop-log
invariant-loop-log l = record {
  front : List (Vec LogEntry Global);
  split : l.fn.logs.items ≡ front ++ into_iter_items l.rest;
  size : length front + into_iter_len l.rest ≡ length l.fn.logs.items;
  made : length l.pens.items ≡ length front;
  seats : l.seats ≡ seats_on (length front) l.fn.seats;
  room : length l.fn.logs.items ≤ vec_capacity l.pens;
  each : EachAt (λ k pen.
      IsNewPen l.fn.seats.clock (l.fn.seats.next + k) (get_or (map vec_capacity l.fn.logs.items) k 0) pen) l.pens.items;
}
