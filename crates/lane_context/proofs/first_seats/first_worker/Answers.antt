use Rattle.std.proofs.Common.{◌≤◌, true, false, arith, ap, subst, sym, ◌∙◌}
use Rattle.session_script.specs.Script.{ScriptModel}
use Rattle.lane_clock.specs.Steps.{most_draws}
use Rattle.lane_logs.specs.SeatNumbers.{IsWorkerSeat}
use Rattle.lane_logs.specs.Stand.{first_stand}
use Rattle.lane_turns.specs.declared.standing.RoundNow.{RoundNow}
use Rattle.lane_turns.specs.Openers.{round_of}
use Rattle.lane_turns.specs.Rooms.{IsNewPen, worker_room}
use Rattle.lane_turns.specs.Workers.{IsWorker}
use Rattle.lane_context.proofs.FirstLemmas.{worker_begins}
use Rattle.lane_context.proofs.first_seats.first_worker.Goals as goal

pub invariant_of-result : goal.invariant_of-result
invariant_of-result g c =
    let names = g.N.LaneSession.names in
    let clock = g.N.LaneSession.clock in
    let number = c.args.pen.seat.number in
    subst (λ (round : RoundNow).
    IsWorker names.script clock
    (record { pen = c.args.pen; round = round; drew = false; stopped = false; in_step = true }))
    (sym
    (c.requires.round
    ∙ ap (λ (script : ScriptModel). round_of script (first_stand script)) c.requires.script))
    (worker_begins clock number (worker_room names.script) c.args.pen
    (subst (λ (script : ScriptModel). IsNewPen clock number (worker_room script) c.args.pen) c.requires.script
    c.requires.pen)
    names
    (subst (λ (script : ScriptModel). IsWorkerSeat script number) c.requires.script c.requires.worker)
    (omega arith)
    (subst (λ (script : ScriptModel). worker_room script ≤ most_draws) c.requires.script c.rooms_fit.ensures.workers))
