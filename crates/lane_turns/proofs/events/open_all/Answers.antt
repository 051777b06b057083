use Rattle.std.proofs.Common.{length, sym, subst, ◌∙◌}
use Rattle.lane_turns.specs.Attending.{AreHeard}
use Rattle.lane_turns.specs.Benches.{AreLanes, AreWorkers}
use Rattle.lane_turns.proofs.AttendingLemmas.{on_and_on}
use Rattle.lane_turns.proofs.BenchLemmas.{heard_later}
use Rattle.lane_turns.proofs.EventLemmas.{lanes_after, none_drawn_yet, opened_cuts, opened_heard, workers_after}
use Rattle.lane_turns.proofs.events.open_all.Goals as goal

pub attend_bench-requires-clause-lanes_heard : goal.attend_bench-requires-clause-lanes_heard
attend_bench-requires-clause-lanes_heard g c =
    let before = c.hear_all-2.new.opener in
    let lanes = c.hear_all-2.new.all in
    let workers = c.hear_all.new.all in
    let lanes_heard : AreHeard g.B.Attendee.seat g.N.LaneSession.names.script before lanes (length lanes) =
    subst (λ xs. AreHeard g.B.Attendee.seat g.N.LaneSession.names.script before xs (length xs)) (sym c.hear_all-2.ensures.same)
    c.hear_all-2.ensures.heard in
    let workers_heard : AreHeard g.W.Attendee.seat g.N.LaneSession.names.script before workers (length workers) =
    subst (λ xs. AreHeard g.W.Attendee.seat g.N.LaneSession.names.script before xs (length xs)) (sym c.hear_all.ensures.same)
    (heard_later g.W.Attendee.seat g.N.LaneSession.names.script c.hear_all.new.opener before c.args.workers.now (length c.args.workers.now)
    c.hear_all-2.ensures.on c.hear_all.ensures.heard) in
    opened_heard g.B.Attendee.seat g.N.LaneSession.names.script g.N.LaneSession.clock before c.opening.new.self lanes (length lanes) c.is_one.ensures
    c.opening.ensures.opened lanes_heard

pub attend_bench-requires-clause-workers_heard : goal.attend_bench-requires-clause-workers_heard
attend_bench-requires-clause-workers_heard g c =
    let before = c.hear_all-2.new.opener in
    let lanes = c.hear_all-2.new.all in
    let workers = c.hear_all.new.all in
    let lanes_heard : AreHeard g.B.Attendee.seat g.N.LaneSession.names.script before lanes (length lanes) =
    subst (λ xs. AreHeard g.B.Attendee.seat g.N.LaneSession.names.script before xs (length xs)) (sym c.hear_all-2.ensures.same)
    c.hear_all-2.ensures.heard in
    let workers_heard : AreHeard g.W.Attendee.seat g.N.LaneSession.names.script before workers (length workers) =
    subst (λ xs. AreHeard g.W.Attendee.seat g.N.LaneSession.names.script before xs (length xs)) (sym c.hear_all.ensures.same)
    (heard_later g.W.Attendee.seat g.N.LaneSession.names.script c.hear_all.new.opener before c.args.workers.now (length c.args.workers.now)
    c.hear_all-2.ensures.on c.hear_all.ensures.heard) in
    opened_heard g.W.Attendee.seat g.N.LaneSession.names.script g.N.LaneSession.clock before c.opening.new.self workers (length workers) c.is_one.ensures
    c.opening.ensures.opened workers_heard

pub returns-clause-opened : goal.returns-clause-opened
returns-clause-opened g c =
    let before = c.hear_all-2.new.opener in
    record {
      before = before;
      after = c.opening.new.self;
      heard = (on_and_on c.args.opener.now c.hear_all.new.opener before c.hear_all.ensures.on c.hear_all-2.ensures.on);
      drew = c.opening.ensures.opened;
      met = c.attend_bench.ensures.on;
    }

pub returns-clause-cuts : goal.returns-clause-cuts
returns-clause-cuts g c =
    let before = c.hear_all-2.new.opener in
    let lanes = c.hear_all-2.new.all in
    let workers = c.hear_all.new.all in
    let lanes_heard : AreHeard g.B.Attendee.seat g.N.LaneSession.names.script before lanes (length lanes) =
    subst (λ xs. AreHeard g.B.Attendee.seat g.N.LaneSession.names.script before xs (length xs)) (sym c.hear_all-2.ensures.same)
    c.hear_all-2.ensures.heard in
    let workers_heard : AreHeard g.W.Attendee.seat g.N.LaneSession.names.script before workers (length workers) =
    subst (λ xs. AreHeard g.W.Attendee.seat g.N.LaneSession.names.script before xs (length xs)) (sym c.hear_all.ensures.same)
    (heard_later g.W.Attendee.seat g.N.LaneSession.names.script c.hear_all.new.opener before c.args.workers.now (length c.args.workers.now)
    c.hear_all-2.ensures.on c.hear_all.ensures.heard) in
    opened_cuts g.B.Attendee.seat g.W.Attendee.seat g.N.LaneSession.names.script g.N.LaneSession.clock before c.opening.new.self c.attend_bench.new.opener lanes
    c.attend_bench.new.lanes workers c.attend_bench.new.workers c.is_one.ensures
    (subst (λ xs. AreLanes g.B.Attendee.seat g.N.LaneSession.names.script xs) (sym c.hear_all-2.ensures.same) c.requires.lanes)
    (subst (λ xs. AreWorkers g.W.Attendee.seat g.N.LaneSession.names.script xs) (sym c.hear_all.ensures.same) c.requires.workers) lanes_heard workers_heard c.attend_bench.ensures.met
    c.opening.ensures.opened
    (none_drawn_yet g.N.LaneSession.names.script g.N.LaneSession.clock before c.is_one.ensures
    ((on_and_on c.args.opener.now c.hear_all.new.opener before c.hear_all.ensures.on c.hear_all-2.ensures.on).log
    ∙ c.requires.none))

pub returns-clause-lanes : goal.returns-clause-lanes
returns-clause-lanes g c =
    let before = c.hear_all-2.new.opener in
    let lanes = c.hear_all-2.new.all in
    let workers = c.hear_all.new.all in
    let lanes_heard : AreHeard g.B.Attendee.seat g.N.LaneSession.names.script before lanes (length lanes) =
    subst (λ xs. AreHeard g.B.Attendee.seat g.N.LaneSession.names.script before xs (length xs)) (sym c.hear_all-2.ensures.same)
    c.hear_all-2.ensures.heard in
    let workers_heard : AreHeard g.W.Attendee.seat g.N.LaneSession.names.script before workers (length workers) =
    subst (λ xs. AreHeard g.W.Attendee.seat g.N.LaneSession.names.script before xs (length xs)) (sym c.hear_all.ensures.same)
    (heard_later g.W.Attendee.seat g.N.LaneSession.names.script c.hear_all.new.opener before c.args.workers.now (length c.args.workers.now)
    c.hear_all-2.ensures.on c.hear_all.ensures.heard) in
    lanes_after g.B.Attendee.seat g.W.Attendee.seat g.N.LaneSession.names.script g.N.LaneSession.clock before c.opening.new.self c.attend_bench.new.opener lanes
    c.attend_bench.new.lanes workers c.attend_bench.new.workers c.is_one.ensures
    (subst (λ xs. AreLanes g.B.Attendee.seat g.N.LaneSession.names.script xs) (sym c.hear_all-2.ensures.same) c.requires.lanes)
    (subst (λ xs. AreWorkers g.W.Attendee.seat g.N.LaneSession.names.script xs) (sym c.hear_all.ensures.same) c.requires.workers) lanes_heard workers_heard c.attend_bench.ensures.met

pub returns-clause-workers : goal.returns-clause-workers
returns-clause-workers g c =
    let before = c.hear_all-2.new.opener in
    let lanes = c.hear_all-2.new.all in
    let workers = c.hear_all.new.all in
    let lanes_heard : AreHeard g.B.Attendee.seat g.N.LaneSession.names.script before lanes (length lanes) =
    subst (λ xs. AreHeard g.B.Attendee.seat g.N.LaneSession.names.script before xs (length xs)) (sym c.hear_all-2.ensures.same)
    c.hear_all-2.ensures.heard in
    let workers_heard : AreHeard g.W.Attendee.seat g.N.LaneSession.names.script before workers (length workers) =
    subst (λ xs. AreHeard g.W.Attendee.seat g.N.LaneSession.names.script before xs (length xs)) (sym c.hear_all.ensures.same)
    (heard_later g.W.Attendee.seat g.N.LaneSession.names.script c.hear_all.new.opener before c.args.workers.now (length c.args.workers.now)
    c.hear_all-2.ensures.on c.hear_all.ensures.heard) in
    workers_after g.B.Attendee.seat g.W.Attendee.seat g.N.LaneSession.names.script g.N.LaneSession.clock before c.opening.new.self c.attend_bench.new.opener lanes
    c.attend_bench.new.lanes workers c.attend_bench.new.workers c.is_one.ensures
    (subst (λ xs. AreLanes g.B.Attendee.seat g.N.LaneSession.names.script xs) (sym c.hear_all-2.ensures.same) c.requires.lanes)
    (subst (λ xs. AreWorkers g.W.Attendee.seat g.N.LaneSession.names.script xs) (sym c.hear_all.ensures.same) c.requires.workers) lanes_heard workers_heard c.attend_bench.ensures.met
