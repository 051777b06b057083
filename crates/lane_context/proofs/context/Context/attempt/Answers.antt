use Rattle.std.proofs.Common.{◌≡◌, [], None, Some, ap, refl, subst, sym, ◌∙◌}
use Rattle.turn_table.specs.Seated.{IsSeatOf, Seated}
use Rattle.lane_turns.specs.Attempts.{HoldsTurns, KeepsAfterFault, WorkerState}
use Rattle.lane_turns.specs.LaneValues.{terms, tries}
use Rattle.lane_turns.proofs.AttemptLemmas.{free_turns, holds_after, keeps_after, seat_after}
use Rattle.lane_turns.specs.KnownFaults.{KnowsAfterFault}
use Rattle.lane_turns.proofs.ReactorFaultLemmas.{knows_after}
use Rattle.lane_context.proofs.context.Context.attempt.Goals as goal

pub returns-clause-turns : goal.returns-clause-turns
returns-clause-turns g c =
    let t =
    tries (terms g.N.LaneSession.names g.H.CompletionHandler.marks g.X.Reactor.state g.X.Reactor.told g.X.Reactor.faults
    g.N.LaneSession.faults g.N.LaneSession.clock) c.args.most in
    let same : Some c.in-Some.turns ≡ Some c.requires.turns.seat =
    c.in-Some.ensures.value ∙ ap (λ (w : WorkerState g.row.H.Denot g.row.X.Denot). w.turns) c.worker.view_is ∙ c.requires.turns.is in
    let it : c.in-Some.turns ≡ c.requires.turns.seat = cc same in
    record {
      seat = c.try_lane-kept.new.turns;
      is = refl;
      fits =
          seat_after t c.args.lane c.try_lane-kept.result.one _ _ _ c.args.self.now c.try_lane-kept.ensures.tried
          (subst (λ (s : Seated). IsSeatOf c.args.self.now s) (sym it) c.requires.turns.fits);
    }

pub invariant_of-worker : goal.invariant_of-worker
invariant_of-worker g c =
    let t =
    tries (terms g.N.LaneSession.names g.H.CompletionHandler.marks g.X.Reactor.state g.X.Reactor.told g.X.Reactor.faults
    g.N.LaneSession.faults g.N.LaneSession.clock) c.args.most in
    let kept : c.worker.inside.kept ≡ None =
    ap (λ (w : WorkerState g.row.H.Denot g.row.X.Denot). w.kept) c.worker.view_is ∙ c.requires.free in
    let none : c.in-Some.turns.turns ≡ [] =
    free_turns c.worker.inside.kept c.worker.inside.turns c.in-Some.turns kept c.in-Some.ensures.value
    c.worker.invariant.turns in
    let after : c.try_lane-kept.result.kept ≡ c.replace.new.dest = search in
    record {
      turns =
          subst (λ k. HoldsTurns k (Some c.try_lane-kept.new.turns)) after
          (holds_after t c.args.lane c.try_lane-kept.result.one _ _ _ c.try_lane-kept.ensures.tried none);
      last =
          subst (λ k. KeepsAfterFault k c.last_after-worker-inside.result) after
          (subst (λ last. KeepsAfterFault c.try_lane-kept.result.kept last) (sym c.last_after-worker-inside.ensures)
          (keeps_after t c.args.lane c.try_lane-kept.result.one _ _ _ c.try_lane-kept.ensures.tried _));
      room = search;
      knows =
          subst (λ last.
          KnowsAfterFault g.N.LaneSession.names.script last c.try_lane-kept.new.seat.pen.seat)
          (sym c.last_after-worker-inside.ensures)
          (knows_after t c.args.lane c.try_lane-kept.result.one _ _ _ c.try_lane-kept.ensures.tried _
          c.worker.invariant.knows);
    }
