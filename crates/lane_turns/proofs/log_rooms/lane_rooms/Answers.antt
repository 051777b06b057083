use Rattle.std.proofs.Common.{◌≡◌, ◌<◌, ◌+◌, ℕ, Vec, Global, length, get_or, true, arith, ap, sym, subst, ◌∙◌}
use Rattle.std.proofs.lemmas.List.{get_or_read}
use Rattle.session_script.specs.Script.{ScriptModel, is_op}
use Rattle.lane_map.specs.LaneNumbers.{home_lane, reactor_lane}
use Rattle.lane_turns.proofs.LogRoomLemmas.{AreRooms, rooms_all, rooms_at, rooms_few, rooms_same}
use Rattle.lane_turns.proofs.log_rooms.lane_rooms.Goals as goal
use Rattle.lane_turns.proofs.log_rooms.lane_rooms.Goals.{then-is_op, else-is_op}

pub overflow_add-index_mut : goal.overflow_add-index_mut
overflow_add-index_mut c =
    let is : is_op c.args.script.now c.loop-op.op ≡ true = sym c.is_op.ensures ∙ c.if-is_op.true in
    let less : home_lane c.args.script.now c.loop-op.op < reactor_lane c.args.script.now =
    c.operations_have_lanes.ensures c.loop-op.op is in
    let home : c.home.result ≡ home_lane c.args.script.now c.loop-op.op =
    c.home.ensures ∙ ap (λ (script : ScriptModel). home_lane script c.loop-op.op) c.requires.map in
    omega (
      arith,
      rooms_few c.args.script.now c.loop-op.op c.loop-op.rooms.items c.loop-op.invariant is less (omega (arith, c.acts-op-end.ensures.count)),
      get_or_read c.loop-op.rooms.items _ c.index_mut.result.now
          (omega (arith, home, less, c.loop-op.invariant.size, c.loop-op.rooms.ok)) c.index_mut.ensures.value 0,
      ap (λ k. get_or c.loop-op.rooms.items k 0) home,
      c.shown_by_handler.ensures,
      c.acts-op-end.ensures.limit,
      c.acts-op-end.ensures.count,
    )

pub loop-op-preserved : goal.loop-op-preserved
loop-op-preserved c =
    let are = AreRooms c.args.script.now (c.loop-op.op + 1) in
    elim c.if-is_op.branch [
      | then-is_op w ↦
          let is : is_op c.args.script.now c.loop-op.op ≡ true = sym c.is_op.ensures ∙ w.if-is_op.true in
          let less : home_lane c.args.script.now c.loop-op.op < reactor_lane c.args.script.now =
          c.operations_have_lanes.ensures c.loop-op.op is in
          let home : w.home.result ≡ home_lane c.args.script.now c.loop-op.op =
          w.home.ensures ∙ ap (λ (script : ScriptModel). home_lane script c.loop-op.op) c.requires.map in
          subst are (sym (ap (λ (v : Vec ℕ Global). v.items) w.rooms-is))
          (rooms_at c.args.script.now c.loop-op.op c.loop-op.rooms.items c.loop-op.invariant _ _ _ home
          (get_or_read c.loop-op.rooms.items _ w.index_mut.result.now
          (omega (arith, home, less, c.loop-op.invariant.size, c.loop-op.rooms.ok)) w.index_mut.ensures.value 0)
          w.shown_by_handler.ensures is less)
      | else-is_op w ↦
          subst are (sym (ap (λ (v : Vec ℕ Global). v.items) w.rooms-is))
          (rooms_same c.args.script.now c.loop-op.op c.loop-op.rooms.items c.loop-op.invariant
          (sym c.is_op.ensures ∙ w.if-is_op.false))
    ]

pub returns : goal.returns
returns c =
    rooms_all c.args.script.now c.loop-op.rooms.items
    (subst (λ count. AreRooms c.args.script.now count c.loop-op.rooms.items)
    (let all : c.loop-op.op ≡ length c.args.script.now.acts = omega (arith, c.acts-op-end.ensures.count) in all)
    c.loop-op.invariant)
