use Rattle.lane_turns.proofs.AllWorkersLemmas.{counted}
use Rattle.std.proofs.Common.{ap, sym, ◌∙◌}
use Rattle.turn_table.specs.Seated.{Lanes}
use Rattle.lane_context.proofs.SettingOutLemmas.{all_turns, fresh_free, fresh_sat, ready_first}
use Rattle.lane_context.proofs.context.Context.seat_first.Goals as goal

pub put_away-requires-clause-some : goal.put_away-requires-clause-some
put_away-requires-clause-some g c = counted g.N.LaneSession.names.script c.args.workers.now c.requires.rows

pub put_away-requires-clause-free : goal.put_away-requires-clause-free
put_away-requires-clause-free g c = fresh_free c.args.workers.now c.requires.fresh

pub put_away-requires-clause-seat : goal.put_away-requires-clause-seat
put_away-requires-clause-seat g c =
    all_turns g.N.LaneSession.names.script c.args.self.now _ c.args.seat c.requires.seat
    (ap (λ (l : Lanes). l.lanes) (sym c.self.view_is) ∙ c.self.invariant.lanes)
    (c.requires.count ∙ sym c.requires.rows.size)

pub returns-clause-ready : goal.returns-clause-ready
returns-clause-ready g c =
    ready_first g.N.LaneSession.names.script c.args.self.now c.args.workers.now c.put_away.new.workers c.requires.rows
    c.requires.fresh c.put_away.auto.workers c.put_away.ensures.sat c.requires.count

pub returns-clause-fresh : goal.returns-clause-fresh
returns-clause-fresh g c =
    fresh_sat g.N.LaneSession.names.script c.args.self.now c.args.workers.now c.put_away.new.workers c.requires.rows
    c.requires.fresh c.put_away.auto.workers c.put_away.ensures.sat
