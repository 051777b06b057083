use Rattle.std.proofs.Common.{◌+◌, length, sym, ap, subst₂, ◌∙◌, arith}
use Rattle.op_handlers.specs.Rack.{handlers_in}
use Rattle.strand_core.specs.Hands.{Held}
use Rattle.strand_core.specs.Placing.{has_place}
use Rattle.strand_core.proofs.HandLemmas.{none_past}
use Rattle.strand_core.proofs.MovingLemmas.{GivenTo, all_back, callers_gone, none_back, number_free, one_back}
use Rattle.strand_core.proofs.SpreadLemmas.{length-spread}
use Rattle.strand_core.proofs.hands.Hands.give_back.Goals as goal
use Rattle.strand_core.proofs.hands.Hands.give_back.Goals.{in-Some, in_default}

pub take-requires : goal.take-requires
take-requires g c =
    callers_gone c.self.inside.script.now c.parents_come_first.ensures c.loop-n.hands
    (c.loop-n.invariant.script ∙ ap (λ (v : Held g.row.H.Denot). v.script) (sym c.self.view_is)) c.loop-n.n
    c.loop-n.invariant.given.gone

pub put-requires : goal.put-requires
put-requires g c =
    number_free c.args.self.handlers (handlers_in c.args.rack.now) c.loop-n.n c.loop-n.hands.handlers
    (handlers_in c.loop-n.rack) c.loop-n.invariant.given c.requires c.in-Some.handler (sym c.in-Some.ensures.taken)

pub loop-n-preserved : goal.loop-n-preserved
loop-n-preserved g c =
    let all = c.args.self.handlers in
    let before = handlers_in c.args.rack.now in
    let held = c.loop-n.hands.handlers in
    let rack = handlers_in c.loop-n.rack in
    record {
      script = c.take.ensures.script ∙ c.loop-n.invariant.script;
      given = elim c.match-take.branch [
        | in-Some w ↦
            subst₂ (GivenTo (c.loop-n.n + 1) all before) (sym c.take.ensures.after)
            (sym (ap handlers_in w.rack-is ∙ w.put.ensures))
            (one_back all before c.loop-n.n held rack c.loop-n.invariant.given w.in-Some.handler
            (sym w.in-Some.ensures.taken) (number_free all before c.loop-n.n held rack c.loop-n.invariant.given
            c.requires w.in-Some.handler (sym w.in-Some.ensures.taken)))
        | in_default w ↦
            subst₂ (GivenTo (c.loop-n.n + 1) all before) (sym c.take.ensures.after) (sym (ap handlers_in w.rack-is))
            (none_back all before c.loop-n.n held rack c.loop-n.invariant.given (sym w.in_default.ensures.taken))
      ];
    }

pub returns-clause-put : goal.returns-clause-put
returns-clause-put g c =
    all_back c.args.self.handlers (handlers_in c.args.rack.now) c.loop-n.n c.loop-n.hands.handlers
    (handlers_in c.loop-n.rack) c.loop-n.invariant.given
    (λ k past.
    none_past c.args.self.handlers k
    (omega (
      arith,
      past,
      c.loop-n-test.false,
      c.acts-n-end.ensures.count,
      ap (λ (v : Held g.row.H.Denot). length v.handlers) c.self.view_is,
      length-spread (has_place c.self.inside.script.now c.self.inside.placing) (length c.self.inside.script.now.acts) (handlers_in c.self.inside.held),
    )))
