use Rattle.std.proofs.Common.{inl, sym, ◌∙◌}
use Rattle.lane_turns.specs.LaneValues.{terms, tries}
use Rattle.lane_turns.proofs.ScanLemmas.{on_and_on}
use Rattle.lane_context.proofs.RunLemmas.{barred_same}
use Rattle.lane_context.proofs.StopLemmas.{by_read, looks_stopped}
use Rattle.lane_context.proofs.context.Context.poll_one.Goals as goal

pub returns-clause-on : goal.returns-clause-on
returns-clause-on g c =
    on_and_on c.args.worker.now c.read-found.new.self c.look_round.new.worker c.read-found.ensures.on
    c.look_round.ensures.on

pub returns-then-is_barred-clause-cause : goal.returns-then-is_barred-clause-cause
returns-then-is_barred-clause-cause g c = λ same.
    inl (by_read c.args.worker.now c.read-found.new.self
    (record {
      found = c.read-found.result;
      looked = c.read-found.ensures.looked;
      is =
          barred_same c.args.worker.now c.read-found.new.self c.read-found.result c.read-found.ensures.looked
          ∙ sym c.is_barred.ensures ∙ c.if-is_barred.true;
    }))

pub returns-clause-cause : goal.returns-clause-cause
returns-clause-cause g c = λ is.
    let t =
    tries (terms g.N.LaneSession.names g.H.CompletionHandler.marks g.X.Reactor.state g.X.Reactor.told g.X.Reactor.faults
    g.N.LaneSession.faults g.N.LaneSession.clock) 1 in
    looks_stopped t c.args.self.now.lanes c.look_round.result c.args.worker.now c.read-found.new.self
    c.look_round.new.worker c.look_round.ensures.looked is
