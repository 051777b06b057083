use Rattle.std.proofs.Common.{◌≡◌, ◌≤◌, ◌+◌, ℕ, Bool, List, false, ap, arith, length, refl, subst, sym, ◌∙◌}
use Rattle.std.specs.Prelude.{All, replicate}
use Rattle.std.proofs.lemmas.List.{length-replicate}
use Rattle.std.proofs.lemmas.List.Elements.{All-replicate}
use Rattle.session_script.specs.Script.{ScriptModel}
use Rattle.lane_map.specs.LaneNumbers.{lane_list, reactor_lane}
use Rattle.lane_logs.specs.SeatNumbers.{worker_count}
use Rattle.lane_turns.specs.EndingRooms.{AreUnset}
use Rattle.lane_turns.proofs.ending_room.EndingRoom.make.Goals as goal

-- as many marks as there are acts, none of which is set
unset : (script : ScriptModel) (marks : List Bool) (n : ℕ) → marks ≡ replicate n false → n ≡ length script.acts →
    AreUnset script marks
unset script marks n are count =
    record {
      count = ap length are ∙ length-replicate n false ∙ count;
      none =
          subst (All (λ (is : Bool). is ≡ false)) (sym are) (All-replicate (λ (is : Bool). is ≡ false) n false refl);
    }

pub invariant_of-result : goal.invariant_of-result
invariant_of-result g c =
    let script : ScriptModel = g.N.LaneSession.names.script in
    let acts : c.acts-acts.result ≡ length script.acts =
    c.acts-acts.ensures.count ∙ ap (λ (s : ScriptModel). length s.acts) c.requires.script in
    let lanes : c.lanes-lanes.result ≡ length (lane_list script) =
    c.lanes-lanes.ensures ∙ ap (λ (s : ScriptModel). length (lane_list s)) (c.requires.map ∙ c.requires.script) in
    let strands : c.reactor-strands.result ≡ reactor_lane script =
    c.reactor-strands.ensures ∙ ap reactor_lane (c.requires.map ∙ c.requires.script) in
    let workers : c.worker_count-workers.result ≡ worker_count script =
    c.worker_count-workers.ensures.count ∙ ap worker_count c.requires.script in
    record {
      no_batons = c.in-Ok.ensures.items;
      batons = omega (arith, c.in-Ok.ensures.capacity, strands);
      no_seats = c.in_ok-seats.ensures.items;
      seats = omega (arith, c.in_ok-seats.ensures.capacity, workers);
      leaving = record {
        no_pens = c.in_ok-pens.ensures.items;
        pens = omega (arith, c.in_ok-pens.ensures.capacity, lanes, workers);
        no_misses = c.in_ok-missed.ensures.items;
        misses = omega (arith, c.in_ok-missed.ensures.capacity, lanes);
        no_hands = c.in_ok-hands.ensures.items;
        hands = omega (arith, c.in_ok-hands.ensures.capacity, strands);
        no_logs = c.in_ok-logs.ensures.items;
        logs = omega (arith, c.in_ok-logs.ensures.capacity, lanes, workers);
        no_drops = c.in_ok-drops.ensures.items;
        drops = omega (arith, c.in_ok-drops.ensures.capacity, acts);
        called =
            unset script c.in_ok-called.called.items c.acts-acts.result
            (c.in_ok-called.ensures.items_if_clones_equal (λ y same. same)) acts;
        begun =
            unset script c.in_ok-begun.begun.items c.acts-acts.result
            (c.in_ok-begun.ensures.items_if_clones_equal (λ y same. same)) acts;
      };
    }
