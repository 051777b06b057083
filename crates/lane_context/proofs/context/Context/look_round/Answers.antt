use Rattle.std.proofs.Common.{◌≡◌, ap, arith, subst, sym, ◌∙◌}
use Rattle.turn_table.specs.Seated.{Lanes}
use Rattle.lane_logs.specs.SeatNumbers.{lane_count}
use Rattle.lane_turns.specs.LaneValues.{terms, tries}
use Rattle.lane_turns.specs.Scanning.{HasScanned, HavePassed, none_tried}
use Rattle.lane_turns.proofs.ScanLemmas.{has_passed, on_and_on, round_at_once, round_of_two, scanned_on, tried_passed, tried_scanned}
use Rattle.lane_context.proofs.context.Context.look_round.Goals as goal

pub returns-then-not-is_nothing-clause-looked : goal.returns-then-not-is_nothing-clause-looked
returns-then-not-is_nothing-clause-looked g c =
    let t =
    tries (terms g.N.LaneSession.names g.H.CompletionHandler.marks g.X.Reactor.state g.X.Reactor.told g.X.Reactor.faults
    g.N.LaneSession.faults g.N.LaneSession.clock) c.args.most in
    let count : c.lanes-count.result ≡ c.args.self.now.lanes =
    c.lanes-count.ensures ∙ ap lane_count c.self.invariant.map ∙ sym c.self.invariant.lanes
    ∙ ap (λ (l : Lanes). l.lanes) c.self.view_is in
    round_at_once t c.min-first.result c.args.self.now.lanes c.args.worker.now c.scan-one.new.worker
    c.scan-one.new.worker c.scan-one.result
    (subst (λ n. HasScanned t c.min-first.result n c.scan-one.result c.args.worker.now c.scan-one.new.worker) count
    c.scan-one.ensures.scanned) (sym c.is_nothing.ensures ∙ c.if-not-is_nothing.true)

pub returns-then-not-is_nothing-clause-on : goal.returns-then-not-is_nothing-clause-on
returns-then-not-is_nothing-clause-on g c =
    let t =
    tries (terms g.N.LaneSession.names g.H.CompletionHandler.marks g.X.Reactor.state g.X.Reactor.told g.X.Reactor.faults
    g.N.LaneSession.faults g.N.LaneSession.clock) c.args.most in
    scanned_on t c.min-first.result c.args.worker.now c.scan-one.result c.lanes-count.result c.scan-one.new.worker
    c.scan-one.ensures.scanned

pub returns-clause-looked : goal.returns-clause-looked
returns-clause-looked g c =
    let t =
    tries (terms g.N.LaneSession.names g.H.CompletionHandler.marks g.X.Reactor.state g.X.Reactor.told g.X.Reactor.faults
    g.N.LaneSession.faults g.N.LaneSession.clock) c.args.most in
    let count : c.lanes-count.result ≡ c.args.self.now.lanes =
    c.lanes-count.ensures ∙ ap lane_count c.self.invariant.map ∙ sym c.self.invariant.lanes
    ∙ ap (λ (l : Lanes). l.lanes) c.self.view_is in
    round_of_two t c.min-first.result c.args.self.now.lanes c.args.worker.now c.scan-one.new.worker c.scan.new.worker
    c.scan.result
    (subst (λ n. HavePassed t c.min-first.result c.args.worker.now n c.scan-one.new.worker) count
    (has_passed t c.min-first.result c.args.worker.now c.scan-one.result c.lanes-count.result c.scan-one.new.worker
    c.scan-one.ensures.scanned (sym c.is_nothing.ensures ∙ c.if-not-is_nothing.false)))
    (omega (arith, c.min-first.ensures, count)) c.scan.ensures.scanned

pub returns-clause-on : goal.returns-clause-on
returns-clause-on g c =
    let t =
    tries (terms g.N.LaneSession.names g.H.CompletionHandler.marks g.X.Reactor.state g.X.Reactor.told g.X.Reactor.faults
    g.N.LaneSession.faults g.N.LaneSession.clock) c.args.most in
    on_and_on c.args.worker.now c.scan-one.new.worker c.scan.new.worker
    (scanned_on t c.min-first.result c.args.worker.now c.scan-one.result c.lanes-count.result c.scan-one.new.worker
    c.scan-one.ensures.scanned)
    (scanned_on t 0 c.scan-one.new.worker c.scan.result c.min-first.result c.scan.new.worker c.scan.ensures.scanned)

pub returns-then-not-is_nothing-clause-tried : goal.returns-then-not-is_nothing-clause-tried
returns-then-not-is_nothing-clause-tried g c =
    let t =
    tries (terms g.N.LaneSession.names g.H.CompletionHandler.marks g.X.Reactor.state g.X.Reactor.told g.X.Reactor.faults
    g.N.LaneSession.faults g.N.LaneSession.clock) c.args.most in
    let count : c.lanes-count.result ≡ c.args.self.now.lanes =
    c.lanes-count.ensures ∙ ap lane_count c.self.invariant.map ∙ sym c.self.invariant.lanes
    ∙ ap (λ (l : Lanes). l.lanes) c.self.view_is in
    tried_scanned t c.args.self.now.lanes c.min-first.result c.lanes-count.result c.scan-one.result c.args.worker.now
    c.args.worker.now c.scan-one.new.worker none_tried c.scan-one.ensures.scanned (omega (arith, count))

pub returns-clause-tried : goal.returns-clause-tried
returns-clause-tried g c =
    let t =
    tries (terms g.N.LaneSession.names g.H.CompletionHandler.marks g.X.Reactor.state g.X.Reactor.told g.X.Reactor.faults
    g.N.LaneSession.faults g.N.LaneSession.clock) c.args.most in
    let count : c.lanes-count.result ≡ c.args.self.now.lanes =
    c.lanes-count.ensures ∙ ap lane_count c.self.invariant.map ∙ sym c.self.invariant.lanes
    ∙ ap (λ (l : Lanes). l.lanes) c.self.view_is in
    let before =
    tried_passed t c.args.self.now.lanes c.min-first.result c.args.worker.now c.args.worker.now none_tried
    (has_passed t c.min-first.result c.args.worker.now c.scan-one.result c.lanes-count.result c.scan-one.new.worker
    c.scan-one.ensures.scanned (sym c.is_nothing.ensures ∙ c.if-not-is_nothing.false)) (omega (arith, count)) in
    tried_scanned t c.args.self.now.lanes 0 c.min-first.result c.scan.result c.args.worker.now c.scan-one.new.worker
    c.scan.new.worker before c.scan.ensures.scanned (omega (arith, c.min-first.ensures, count))
