use Rattle.std.proofs.Common.{◌≡◌, ◌<◌, ◌+◌, Vec, Global, length, get_or, map, set, [], IsSome, sym, ap, subst, subst₂, ◌∙◌, arith}
use Rattle.std.specs.Prelude.{slice_get, slice_set, Some, None}
use Rattle.std.proofs.lemmas.List.{length-map, map-set}
use Rattle.std.proofs.lemmas.Option.{slice_get_within}
use Rattle.session_script.specs.Script.{ScriptModel, is_op}
use Rattle.session_script.specs.Lanes.{lane_of}
use Rattle.lane_map.specs.LaneNumbers.{home_lane, is_op_on, lane_list, rank_of}
use Rattle.op_handlers.specs.Rack.{handlers_in}
use Rattle.op_handlers.specs.declared.rack.Rack.{Rack}
use Rattle.strand_core.specs.Hands.{in_list}
use Rattle.strand_core.proofs.FillingLemmas.{FilledTo, act_moved, act_passed, lanes_are, no_op_past, none_moved_yet, none_on_past, rank_free, row_at}
use Rattle.strand_core.proofs.MovingLemmas.{all_held, all_left}
use Rattle.strand_core.proofs.racks.filled_racks.Goals as goal
use Rattle.strand_core.proofs.racks.filled_racks.Given.{Over}
use Rattle.strand_core.proofs.racks.filled_racks.Goals.{After-home, then-is_op, else-is_op}

pub loop-a-init : goal.loop-a-init
loop-a-init g c =
    none_moved_yet c.args.script.now (handlers_in c.args.from.now) c.args.lanes.now c.requires.lanes
    (length c.args.racks.items) (map handlers_in c.args.racks.items)
    (sym (length-map c.args.racks.items handlers_in)) c.requires.empty

-- the act's lane is one of those that have racks
home_within : (g : Over) (c : After-home g) → home_lane c.args.script.now c.loop-a.a < length c.args.racks.items
home_within g c =
    omega (
      arith,
      slice_get_within (lane_list c.args.script.now) (home_lane c.args.script.now c.loop-a.a) (lane_of c.args.script.now c.loop-a.a) (c.lanes_have_their_numbers.ensures c.loop-a.a (omega (arith, c.acts-a-end.ensures.count))),
      lanes_are c.args.script.now (handlers_in c.args.from.now) c.args.lanes.now c.requires.lanes (length c.args.racks.items) (map handlers_in c.args.racks.items) (sym (length-map c.args.racks.items handlers_in)) c.requires.empty,
    )

pub index_mut-lane-requires : goal.index_mut-lane-requires
index_mut-lane-requires g c =
    omega (
      arith,
      home_within g (goal.at.index_mut-lane-requires g c).After-home,
      c.home.ensures,
      ap (λ (s : ScriptModel). home_lane s c.loop-a.a) c.requires.lanes,
      c.loop-a.invariant.size,
      length-map c.loop-a.racks.items (handlers_in {H = g.row.H.Denot}),
      c.loop-a.racks.ok,
    )

home_is : (g : Over) (c : After-home g) → c.home.result ≡ home_lane c.args.script.now c.loop-a.a
home_is g c = c.home.ensures ∙ ap (λ (s : ScriptModel). home_lane s c.loop-a.a) c.requires.lanes

pub move_handler-requires-clause-there : goal.move_handler-requires-clause-there
move_handler-requires-clause-there g c =
    subst IsSome (sym (c.loop-a.invariant.left.later c.loop-a.a (omega arith)))
    (c.requires.there c.loop-a.a (sym c.is_op.ensures ∙ c.if-is_op.true))

pub move_handler-requires-clause-free : goal.move_handler-requires-clause-free
move_handler-requires-clause-free g c =
    let home = home_is g (goal.at.move_handler-requires-clause-free g c).After-home in
    let rank = c.rank.ensures ∙ ap (λ (s : ScriptModel). rank_of s c.loop-a.a) c.requires.lanes in
    let within = home_within g (goal.at.move_handler-requires-clause-free g c).After-home in
    subst₂ (λ row place. slice_get row place ≡ Some None)
    (sym (row_at c.loop-a.racks.items c.home.result c.index_mut-lane.result.now
    (omega (arith, within, home, c.loop-a.invariant.size, length-map c.loop-a.racks.items (handlers_in {H = g.row.H.Denot}), c.loop-a.racks.ok))
    c.index_mut-lane.ensures.value ∙ ap (λ k. get_or (map handlers_in c.loop-a.racks.items) k []) home)) (sym rank)
    (rank_free c.args.script.now (handlers_in c.args.from.now) (length c.args.racks.items) c.loop-a.a
    (handlers_in c.loop-a.from) (map handlers_in c.loop-a.racks.items) c.loop-a.invariant
    (sym c.is_op.ensures ∙ c.if-is_op.true) (omega (arith, c.acts-a-end.ensures.count)) within)

pub loop-a-preserved : goal.loop-a-preserved
loop-a-preserved g c =
    let all = handlers_in c.args.from.now in
    let rows = map handlers_in c.loop-a.racks.items in
    let lanes = length c.args.racks.items in
    elim c.if-is_op.branch [
      | then-is_op w ↦
          let home : w.home.result ≡ home_lane c.args.script.now c.loop-a.a =
          w.home.ensures ∙ ap (λ (s : ScriptModel). home_lane s c.loop-a.a) c.requires.lanes in
          let rank : w.rank.result ≡ rank_of c.args.script.now c.loop-a.a =
          w.rank.ensures ∙ ap (λ (s : ScriptModel). rank_of s c.loop-a.a) c.requires.lanes in
          let act : c.loop-a.a < length c.args.script.now.acts = omega (arith, c.acts-a-end.ensures.count) in
          let within : home_lane c.args.script.now c.loop-a.a < lanes =
          omega (
            arith,
            slice_get_within (lane_list c.args.script.now) (home_lane c.args.script.now c.loop-a.a) (lane_of c.args.script.now c.loop-a.a) (c.lanes_have_their_numbers.ensures c.loop-a.a act),
            lanes_are c.args.script.now all c.args.lanes.now c.requires.lanes lanes (map handlers_in c.args.racks.items) (sym (length-map c.args.racks.items handlers_in)) c.requires.empty,
          ) in
          let row : handlers_in w.index_mut-lane.result.now ≡ get_or rows (home_lane c.args.script.now c.loop-a.a) [] =
          row_at c.loop-a.racks.items w.home.result w.index_mut-lane.result.now
          (omega (arith, within, home, c.loop-a.invariant.size, length-map c.loop-a.racks.items (handlers_in {H = g.row.H.Denot}), c.loop-a.racks.ok))
          w.index_mut-lane.ensures.value ∙ ap (λ k. get_or rows k []) home in
          subst₂ (FilledTo c.args.script.now lanes (c.loop-a.a + 1) all)
          (sym (ap handlers_in w.from-is ∙ w.move_handler.ensures.taken))
          (sym (ap (λ (v : Vec (Rack g.row.H.Denot) Global). map handlers_in v.items) w.racks-is
          ∙ map-set handlers_in c.loop-a.racks.items w.home.result w.move_handler.new.to
          ∙ ap (λ k. set rows k (handlers_in w.move_handler.new.to)) home))
          (act_moved c.args.script.now all lanes c.loop-a.a (handlers_in c.loop-a.from) rows c.loop-a.invariant
          (sym c.is_op.ensures ∙ w.if-is_op.true) act within (handlers_in w.move_handler.new.to)
          (w.move_handler.ensures.put
          ∙ ap (λ hs. slice_set hs w.rank.result (in_list (handlers_in c.loop-a.from) c.loop-a.a)) row
          ∙ ap (λ k. slice_set (get_or rows (home_lane c.args.script.now c.loop-a.a) []) k
          (in_list (handlers_in c.loop-a.from) c.loop-a.a)) rank))
      | else-is_op w ↦
          subst₂ (FilledTo c.args.script.now lanes (c.loop-a.a + 1) all) (sym (ap handlers_in w.from-is))
          (sym (ap (λ (v : Vec (Rack g.row.H.Denot) Global). map handlers_in v.items) w.racks-is))
          (act_passed c.args.script.now all lanes c.loop-a.a (handlers_in c.loop-a.from) rows c.loop-a.invariant
          (sym c.is_op.ensures ∙ w.if-is_op.false))
    ]

pub returns-clause-size : goal.returns-clause-size
returns-clause-size g c = sym (length-map c.loop-a.racks.items (handlers_in {H = g.row.H.Denot})) ∙ c.loop-a.invariant.size

pub returns-clause-sizes : goal.returns-clause-sizes
returns-clause-sizes g c = c.loop-a.invariant.sizes

pub returns-clause-held : goal.returns-clause-held
returns-clause-held g c lane n less =
    all_held (is_op_on c.args.script.now lane) c.loop-a.a (handlers_in c.args.from.now) _
    (c.loop-a.invariant.held lane less)
    (λ k past.
    none_on_past c.args.script.now (handlers_in c.args.from.now) lane k
    (omega (arith, past, c.loop-a-test.false, c.acts-a-end.ensures.count))) n

pub returns-clause-left : goal.returns-clause-left
returns-clause-left g c =
    all_left (is_op c.args.script.now) c.loop-a.a (handlers_in c.args.from.now) (handlers_in c.loop-a.from)
    c.loop-a.invariant.left
    (λ k past.
    no_op_past c.args.script.now (handlers_in c.args.from.now) k
    (omega (arith, past, c.loop-a-test.false, c.acts-a-end.ensures.count)))

pub returns-clause-count : goal.returns-clause-count
returns-clause-count g c = c.loop-a.invariant.left.count
