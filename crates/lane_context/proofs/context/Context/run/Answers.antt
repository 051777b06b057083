use Rattle.std.proofs.Common.{◌≡◌, refl, true, Some, ap, subst, sym, ◌∙◌}
use Rattle.lane_turns.specs.Attempts.{WorkerState}
use Rattle.lane_turns.specs.LaneValues.{terms, tries}
use Rattle.lane_turns.specs.Runs.{HasReadAs, at_first, with_end}
use Rattle.lane_turns.specs.declared.run_end.RunEnd.TheVariants as end
use Rattle.lane_context.proofs.RunLemmas.{ended_on, has_run, met_fault, turns_on}
use Rattle.lane_context.proofs.StopLemmas.{run_stopped}
use Rattle.lane_turns.proofs.ScanLemmas.{on_and_on, on_same}
use Rattle.lane_context.proofs.context.Context.run.Goals as goal

pub returns-in-Some-run_round-clause-run : goal.returns-in-Some-run_round-clause-run
returns-in-Some-run_round-clause-run g c =
    let t =
    tries (terms g.N.LaneSession.names g.H.CompletionHandler.marks g.X.Reactor.state g.X.Reactor.told g.X.Reactor.faults
    g.N.LaneSession.faults g.N.LaneSession.clock) 16 in
    has_run t c.args.self.now.lanes c.in-Some-run_round.end c.ends.result c.args.worker.now
    c.loop.worker c.run_round.new.worker c.ends.new.self c.loop.invariant.on
    c.in-Some-run_round.ensures.ended
    (turns_on t c.args.self.now.lanes c.args.worker.now c.loop.worker c.loop.invariant.rounds
    c.in-Some-run_round.ensures.round) c.ends.ensures.kept c.ends.ensures.same

pub returns-in-Some-run_round-clause-stopped : goal.returns-in-Some-run_round-clause-stopped
returns-in-Some-run_round-clause-stopped g c = λ stopped.
    let same = c.loop.invariant.first stopped in
    let once = c.in-Some-run_round.ensures.stopped (ap (λ (w : WorkerState g.row.H.Denot g.row.X.Denot). w.seat.stopped) same ∙ stopped) in
    let is : c.in-Some-run_round.end ≡ end.Stopped = cc (once.0) in
    record {
      is = c.ends.ensures.same ∙ is;
      ended = c.run_round.new.worker;
      read = subst (λ (w : WorkerState g.row.H.Denot g.row.X.Denot). HasReadAs true w c.run_round.new.worker) same once.1;
      kept = c.ends.ensures.kept ∙ ap (λ now. with_end c.run_round.new.worker now) is;
    }

pub returns-in-Some-run_round-clause-cause : goal.returns-in-Some-run_round-clause-cause
returns-in-Some-run_round-clause-cause g c = λ is.
    let t =
    tries (terms g.N.LaneSession.names g.H.CompletionHandler.marks g.X.Reactor.state g.X.Reactor.told g.X.Reactor.faults
    g.N.LaneSession.faults g.N.LaneSession.clock) 16 in
    run_stopped t c.args.self.now.lanes c.ends.result c.args.worker.now c.ends.new.self
    (returns-in-Some-run_round-clause-run g c) is

pub loop-init : goal.loop-init
loop-init g c =
    record { on = on_same c.args.worker.now; turns = c.requires.turns; rounds = at_first; first = λ stopped. refl }

pub returns-in-Some-run_round-clause-on : goal.returns-in-Some-run_round-clause-on
returns-in-Some-run_round-clause-on g c =
    ended_on c.args.worker.now c.run_round.new.worker c.ends.new.self _
    (on_and_on c.args.worker.now c.loop.worker c.run_round.new.worker c.loop.invariant.on
    c.in-Some-run_round.ensures.on) c.ends.ensures.kept

pub loop-preserved : goal.loop-preserved
loop-preserved g c =
    let t =
    tries (terms g.N.LaneSession.names g.H.CompletionHandler.marks g.X.Reactor.state g.X.Reactor.told g.X.Reactor.faults
    g.N.LaneSession.faults g.N.LaneSession.clock) 16 in
    record {
      on =
          on_and_on c.args.worker.now c.loop.worker c.run_round.new.worker c.loop.invariant.on c.in_default.ensures.on;
      turns = c.in_default.ensures.turns;
      rounds =
          turns_on t c.args.self.now.lanes c.args.worker.now c.loop.worker c.loop.invariant.rounds
          c.in_default.ensures.round;
      first = λ stopped.
          let same = c.loop.invariant.first stopped in
          let once = c.in_default.ensures.stopped (ap (λ (w : WorkerState g.row.H.Denot g.row.X.Denot). w.seat.stopped) same ∙ stopped) in
          absurd (cc (once.0));
    }

pub ends-requires : goal.ends-requires
ends-requires g c =
    let t =
    tries (terms g.N.LaneSession.names g.H.CompletionHandler.marks g.X.Reactor.state g.X.Reactor.told g.X.Reactor.faults
    g.N.LaneSession.faults g.N.LaneSession.clock) 16 in
    record {
      fault =
          met_fault t c.args.self.now.lanes c.in-Some-run_round.end c.loop.worker c.run_round.new.worker
          c.in-Some-run_round.ensures.ended;
    }
