use Rattle.std.proofs.Common.{◌≡◌, length}
use Rattle.std.specs.Prelude.{Some, vec_capacity}
use Rattle.std.specs.Vec.Iter.{into_iter_items, into_iter_len}
use Rattle.lane_turns.specs.Attempts.{IsCallRoom}
use Rattle.lane_turns.specs.Rooms.{EachAt}
use Rattle.lane_context.specs.SessionRooms.{standing_by}
use Rattle.lane_context.proofs.SettingOutLemmas.{AreMade}
use Rattle.lane_context.proofs.setting_out.stand_by.Given as goal

abbrev pub decreases-loop-seat : goal.decreases-loop-seat
decreases-loop-seat g l = into_iter_len l.rest

abbrev pub invariant-loop-seat : goal.invariant-loop-seat
invariant-loop-seat g l = record {
  made : AreMade standing_by l.fn.seats.items l.workers.items (into_iter_items l.rest);
  calls : length l.calls.items ≡ into_iter_len l.rest;
  lookouts : length l.lookouts.items ≡ into_iter_len l.rest;
  each : EachAt (λ k room. IsCallRoom g.N.LaneSession.names.script (Some room)) l.calls.items;
  room : vec_capacity l.workers ≡ vec_capacity l.fn.workers;
}
