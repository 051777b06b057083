use Rattle.std.proofs.Common.{◌≡◌, true, sym, ap, subst, ◌∙◌}
use Rattle.std.specs.Prelude.{◌&&◌, ◌==◌, not}
use Rattle.lane_clock.specs.Seats.{own}
use Rattle.lane_turns.specs.declared.standing.RoundNow.{RoundNow}
use Rattle.lane_turns.specs.Openers.{round_after, round_of}
use Rattle.lane_turns.specs.Workers.{IsWorker, restarts_since}
use Rattle.lane_turns.proofs.WorkerLemmas.{worker_meets}
use Rattle.lane_turns.proofs.worker_seat.WorkerSeatAttendee.attend.Goals as goal

pub invariant_of-self : goal.invariant_of-self
invariant_of-self g c =
    let script = g.N.LaneSession.names.script in
    let other = c.args.opener.now.pen.seat in
    let old = c.self.inside in
    let round : c.round-round.result ≡ round_after script (own other) =
    c.round-round.ensures ∙ ap (round_of script) (c.meet.ensures.met.heard.stand ∙ c.meet.ensures.met.stand_is) in
    let heard = rw (← c.self.view_is) at c.requires.heard in
    rw (c.drew_now-self-inside.ensures, c.stopped_now-self-inside.ensures)
    (subst (λ (now : RoundNow).
    IsWorker script g.N.LaneSession.clock (record {
      pen = c.meet.new.other;
      round = now;
      drew = old.drew && (old.round.closings == now.closings);
      stopped = old.stopped && not (restarts_since old.round now);
      in_step = true;
    })) (sym round)
    (worker_meets script g.N.LaneSession.clock
    (record { pen = old.pen; round = old.round; drew = old.drew; stopped = old.stopped; in_step = old.in_step })
    c.self.invariant other c.meet.new.other c.meet.ensures.number c.meet.ensures.told heard.behind))
