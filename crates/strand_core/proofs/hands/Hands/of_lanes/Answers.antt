use Rattle.std.proofs.Common.{◌≡◌, ◌==◌, List, length, map, refl, sym, ap, subst, ◌∙◌, arith}
use Rattle.std.specs.Prelude.{slice_get, IfSome}
use Rattle.std.proofs.lemmas.Bool.{and_parts}
use Rattle.std.proofs.lemmas.List.{length-map}
use Rattle.session_script.specs.Script.{ScriptModel, is_op}
use Rattle.op_handlers.specs.Rack.{handler_at, handlers_in}
use Rattle.lane_map.specs.LaneNumbers.{home_lane, is_op_on, lane_list}
use Rattle.strand_core.specs.Hands.{Held, held_at, taken_at}
use Rattle.strand_core.proofs.FillingLemmas.{if_at, lane_held, lanes_are, made_length}
use Rattle.strand_core.proofs.LaneLemmas.{callee_on}
use Rattle.strand_core.proofs.MovingLemmas.{keeps_of}
use Rattle.strand_core.proofs.hands.Hands.of_lanes.Goals as goal

pub hands_of_racks-requires-clause-few : goal.hands_of_racks-requires-clause-few
hands_of_racks-requires-clause-few g c =
    omega (
      arith,
      c.filled_racks-racks.ensures.size,
      lanes_are c.args.script.now (handlers_in c.args.rack.now) c.args.lanes.now c.requires.lanes (length c.in_ok-racks.racks.items) (map handlers_in c.in_ok-racks.racks.items) (sym (length-map c.in_ok-racks.racks.items handlers_in)) c.in_ok-racks.ensures,
      ap (λ (s : ScriptModel). length (lane_list s)) c.requires.lanes,
      c.lanes.ensures,
      c.lanes.type_inv,
    )

pub hands_of_racks-requires-clause-room : goal.hands_of_racks-requires-clause-room
hands_of_racks-requires-clause-room g c =
    omega (
      arith,
      c.filled_racks-racks.ensures.size,
      lanes_are c.args.script.now (handlers_in c.args.rack.now) c.args.lanes.now c.requires.lanes (length c.in_ok-racks.racks.items) (map handlers_in c.in_ok-racks.racks.items) (sym (length-map c.in_ok-racks.racks.items handlers_in)) c.in_ok-racks.ensures,
      ap (λ (s : ScriptModel). length (lane_list s)) c.requires.lanes,
      c.lanes.ensures,
      c.in-Ok.ensures.capacity,
    )

pub hands_of_racks-requires-clause-keeps : goal.hands_of_racks-requires-clause-keeps
hands_of_racks-requires-clause-keeps g c lane less =
    keeps_of c.args.script.now (is_op_on c.args.script.now lane)
    (λ caller n inside. callee_on c.args.script.now c.parents_come_first.ensures caller n inside lane)
    (handlers_in c.args.rack.now) _
    (λ n is. c.requires.there n (and_parts (is_op c.args.script.now n) (home_lane c.args.script.now n == lane) is).0)
    (λ n. c.filled_racks-racks.ensures.held lane n (omega (arith, less, c.filled_racks-racks.ensures.size)))

pub returns-clause-number : goal.returns-clause-number
returns-clause-number g c =
    made_length (lane_held c.args.script.now (map handlers_in c.filled_racks-racks.result.items)) _
    (length c.filled_racks-racks.result.items) c.hands_of_racks.ensures
    ∙ c.filled_racks-racks.ensures.size
    ∙ lanes_are c.args.script.now (handlers_in c.args.rack.now) c.args.lanes.now c.requires.lanes
    (length c.in_ok-racks.racks.items) (map handlers_in c.in_ok-racks.racks.items)
    (sym (length-map c.in_ok-racks.racks.items handlers_in)) c.in_ok-racks.ensures

pub returns-clause-script : goal.returns-clause-script
returns-clause-script g c lane =
    subst (λ (xs : List (Held g.row.H.Denot)). IfSome (slice_get xs lane) (λ own. own.script ≡ c.args.script.now))
    (sym c.hands_of_racks.ensures)
    (if_at (lane_held c.args.script.now (map handlers_in c.filled_racks-racks.result.items))
    (length c.filled_racks-racks.result.items) lane (λ own. own.script ≡ c.args.script.now) (λ less. refl))

pub returns-clause-held : goal.returns-clause-held
returns-clause-held g c lane n =
    subst
    (λ (xs : List (Held g.row.H.Denot)).
    IfSome (slice_get xs lane) (λ own.
    held_at own n ≡ taken_at (is_op_on c.args.script.now lane n) (handler_at c.args.rack.now n)))
    (sym c.hands_of_racks.ensures)
    (if_at (lane_held c.args.script.now (map handlers_in c.filled_racks-racks.result.items))
    (length c.filled_racks-racks.result.items) lane
    (λ own. held_at own n ≡ taken_at (is_op_on c.args.script.now lane n) (handler_at c.args.rack.now n))
    (λ less. c.filled_racks-racks.ensures.held lane n (omega (arith, less, c.filled_racks-racks.ensures.size))))
