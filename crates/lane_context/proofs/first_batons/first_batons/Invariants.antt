use Rattle.std.proofs.Common.{◌≡◌, ◌≤◌, ◌+◌, ◌++◌, List, length}
use Rattle.std.specs.Prelude.{vec_capacity}
use Rattle.std.specs.Vec.Iter.{into_iter_items, into_iter_len}
use Rattle.strand_core.specs.Hands.{Held}
use Rattle.lane_turns.specs.Firsts.{IsFirstBaton}
use Rattle.lane_turns.specs.Pens.{PenView}
use Rattle.lane_turns.specs.Rooms.{EachAt}
use Rattle.lane_context.proofs.first_batons.first_batons.Given as goal

abbrev pub decreases-loop-own : goal.decreases-loop-own
decreases-loop-own g l = into_iter_len l.rest

abbrev pub invariant-loop-own : goal.invariant-loop-own
invariant-loop-own g l = record {
  front : List (Held g.row.H.Denot);
  split : l.fn.hands.items ≡ front ++ into_iter_items l.rest;
  size : length front + into_iter_len l.rest ≡ length l.fn.hands.items;
  at : l.lane ≡ length front;
  pens : List PenView;
  pens_split : l.fn.pens.items ≡ pens ++ into_iter_items l.next_pens;
  pens_size : length pens + into_iter_len l.next_pens ≡ length l.fn.pens.items;
  together : length pens ≡ length front;
  made : length l.batons.items ≡ length front;
  room : length l.fn.hands.items ≤ vec_capacity l.batons;
  each : EachAt (IsFirstBaton l.script g.N.LaneSession.clock l.fn.hands.items) l.batons.items;
}
