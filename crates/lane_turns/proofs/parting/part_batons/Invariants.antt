use Rattle.std.proofs.Common.{◌≡◌, ◌+◌, Some, List, length, map}
use Rattle.std.specs.Prelude.{vec_capacity}
use Rattle.std.specs.Vec.Iter.{into_iter_items, into_iter_len}
use Rattle.lane_turns.specs.Batons.{BatonView, IsHandlerBaton}
use Rattle.lane_turns.proofs.PartingLemmas.{IsGoing}
use Rattle.lane_turns.proofs.parting.part_batons.Given as goal

abbrev pub decreases-loop-baton : goal.decreases-loop-baton
decreases-loop-baton g l = into_iter_len l.rest

abbrev pub invariant-loop-baton : goal.invariant-loop-baton
invariant-loop-baton g l =
    record {
      front : List (BatonView g.row.H.Denot);
      going : IsGoing
          (λ baton. IsHandlerBaton g.N.LaneSession.names g.H.CompletionHandler.marks g.N.LaneSession.clock baton)
          l.fn.batons.items (into_iter_items l.rest) front;
      pens : l.pens.items ≡ map (λ (baton : BatonView g.row.H.Denot). baton.lane.pen) front;
      missed : l.missed.items ≡ map (λ (baton : BatonView g.row.H.Denot). baton.lane.missed) front;
      hands : l.all_hands.items ≡ map (λ (baton : BatonView g.row.H.Denot). Some baton.hands) front;
      size : length front + into_iter_len l.rest ≡ length l.fn.batons.items;
      pen_room : vec_capacity l.pens ≡ vec_capacity l.initial.pens;
      miss_room : vec_capacity l.missed ≡ vec_capacity l.initial.missed;
      hand_room : vec_capacity l.all_hands ≡ vec_capacity l.initial.all_hands;
    }
