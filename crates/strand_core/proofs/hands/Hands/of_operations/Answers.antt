use Rattle.std.proofs.Common.{◌+◌, length, IsSome, sym, ap, subst, subst₂, ◌∙◌, arith}
use Rattle.op_handlers.specs.Rack.{handlers_in}
use Rattle.strand_core.specs.Hands.{is_op_of}
use Rattle.strand_core.proofs.FillingLemmas.{none_of_past}
use Rattle.strand_core.proofs.LaneLemmas.{callee_of}
use Rattle.strand_core.proofs.MovingLemmas.{TakenTo, all_held, all_left, keeps_of, none_taken, one_passed, one_taken, place_free}
use Rattle.strand_core.proofs.SpreadLemmas.{in_all, size_of_all}
use Rattle.strand_core.proofs.hands.Hands.of_operations.Goals as goal
use Rattle.strand_core.proofs.hands.Hands.of_operations.Goals.{then-is_of, else-is_of}

pub loop-a-init : goal.loop-a-init
loop-a-init g c =
    none_taken (is_op_of c.args.script.now c.args.lane) (length c.args.script.now.acts) (handlers_in c.args.rack.now) _
    (rw (sym c.acts.ensures.count) c.in_ok-held.ensures)

pub move_handler-requires-clause-there : goal.move_handler-requires-clause-there
move_handler-requires-clause-there g c =
    subst IsSome (sym (c.loop-a.invariant.left.later c.loop-a.a (omega arith)))
    (c.requires c.loop-a.a (sym c.is_of.ensures ∙ c.if-is_of.true))

pub move_handler-requires-clause-free : goal.move_handler-requires-clause-free
move_handler-requires-clause-free g c =
    place_free (is_op_of c.args.script.now c.args.lane) c.loop-a.a (handlers_in c.args.rack.now) (length c.args.script.now.acts)
    (handlers_in c.loop-a.rack) (handlers_in c.loop-a.held) c.loop-a.invariant
    (omega (arith, c.acts-a-end.ensures.count))

pub loop-a-preserved : goal.loop-a-preserved
loop-a-preserved g c =
    let test = is_op_of c.args.script.now c.args.lane in
    let size = length c.args.script.now.acts in
    let all = handlers_in c.args.rack.now in
    let from = handlers_in c.loop-a.rack in
    let to = handlers_in c.loop-a.held in
    elim c.if-is_of.branch [
      | then-is_of w ↦
          subst₂ (TakenTo test size (c.loop-a.a + 1) all)
          (sym (ap handlers_in w.rack-is ∙ w.move_handler.ensures.taken))
          (sym (ap handlers_in w.held-is ∙ w.move_handler.ensures.put))
          (one_taken test c.loop-a.a all size from to c.loop-a.invariant (sym c.is_of.ensures ∙ w.if-is_of.true)
          (omega (arith, c.acts-a-end.ensures.count)))
      | else-is_of w ↦
          subst₂ (TakenTo test size (c.loop-a.a + 1) all) (sym (ap handlers_in w.rack-is))
          (sym (ap handlers_in w.held-is))
          (one_passed test c.loop-a.a all size from to c.loop-a.invariant (sym c.is_of.ensures ∙ w.if-is_of.false))
    ]

pub returns-clause-held : goal.returns-clause-held
returns-clause-held g c n =
    in_all c.args.script.now (handlers_in c.loop-a.held) c.loop-a.invariant.size_is n
    ∙ all_held (is_op_of c.args.script.now c.args.lane) c.loop-a.a (handlers_in c.args.rack.now) (handlers_in c.loop-a.held)
    c.loop-a.invariant.held
    (λ k past.
    none_of_past c.args.script.now (handlers_in c.args.rack.now) c.args.lane k
    (omega (arith, past, c.loop-a-test.false, c.acts-a-end.ensures.count))) n

pub returns-clause-left : goal.returns-clause-left
returns-clause-left g c =
    all_left (is_op_of c.args.script.now c.args.lane) c.loop-a.a (handlers_in c.args.rack.now) (handlers_in c.loop-a.rack)
    c.loop-a.invariant.left
    (λ k past.
    none_of_past c.args.script.now (handlers_in c.args.rack.now) c.args.lane k
    (omega (arith, past, c.loop-a-test.false, c.acts-a-end.ensures.count)))

pub invariant_of-result : goal.invariant_of-result
invariant_of-result g c =
    record {
      placed = tt;
      size = size_of_all c.args.script.now (handlers_in c.loop-a.held) c.loop-a.invariant.size_is;
      keeps =
          keeps_of c.args.script.now (is_op_of c.args.script.now c.args.lane)
          (λ caller n inside is. callee_of c.args.script.now c.parents_come_first.ensures caller n inside c.args.lane is)
          (handlers_in c.args.rack.now) _ c.requires (λ n. in_all c.args.script.now (handlers_in c.loop-a.held) c.loop-a.invariant.size_is n
          ∙ all_held (is_op_of c.args.script.now c.args.lane) c.loop-a.a (handlers_in c.args.rack.now) (handlers_in c.loop-a.held)
          c.loop-a.invariant.held
          (λ k past.
          none_of_past c.args.script.now (handlers_in c.args.rack.now) c.args.lane k
          (omega (arith, past, c.loop-a-test.false, c.acts-a-end.ensures.count))) n);
    }
