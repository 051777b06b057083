use Rattle.std.proofs.Common.{length, sym, subst, ◌∙◌}
use Rattle.lane_turns.specs.Attending.{AreHeard, KnowsAllOf}
use Rattle.lane_turns.specs.Benches.{AreLanes, AreWorkers}
use Rattle.lane_turns.specs.KeptSteps.{AllRemember}
use Rattle.lane_turns.proofs.AllMeetingLemmas.{fault_told, met_after_fault, read_on}
use Rattle.lane_turns.proofs.AttendingLemmas.{on_and_on}
use Rattle.lane_turns.proofs.BenchLemmas.{heard_later}
use Rattle.lane_turns.proofs.EventCutLemmas.{cuts_go_on}
use Rattle.lane_turns.proofs.EventLemmas.{lanes_after, workers_after}
use Rattle.lane_turns.proofs.MeetAllLemmas.{all_known}
use Rattle.lane_turns.proofs.ReactorFaultLemmas.{fault_remembered}
use Rattle.lane_turns.proofs.RememberAllLemmas.{met_remember}
use Rattle.lane_turns.proofs.events.meet_all.Goals as goal

pub attend_bench-requires-clause-lanes_heard : goal.attend_bench-requires-clause-lanes_heard
attend_bench-requires-clause-lanes_heard g c =
    let script = g.N.LaneSession.names.script in
    let read = read_on script g.N.LaneSession.clock c.hear_all-2.new.opener c.read.new.self c.is_one.ensures c.read.ensures in
    subst (λ xs. AreHeard g.B.Attendee.seat script c.read.new.self xs (length xs)) (sym c.hear_all-2.ensures.same)
    (heard_later g.B.Attendee.seat script c.hear_all-2.new.opener c.read.new.self c.args.lanes.now
    (length c.args.lanes.now) read c.hear_all-2.ensures.heard)

pub attend_bench-requires-clause-workers_heard : goal.attend_bench-requires-clause-workers_heard
attend_bench-requires-clause-workers_heard g c =
    let script = g.N.LaneSession.names.script in
    let read = read_on script g.N.LaneSession.clock c.hear_all-2.new.opener c.read.new.self c.is_one.ensures c.read.ensures in
    subst (λ xs. AreHeard g.W.Attendee.seat script c.read.new.self xs (length xs)) (sym c.hear_all.ensures.same)
    (heard_later g.W.Attendee.seat script c.hear_all.new.opener c.read.new.self c.args.workers.now
    (length c.args.workers.now)
    (on_and_on c.hear_all.new.opener c.hear_all-2.new.opener c.read.new.self c.hear_all-2.ensures.on read)
    c.hear_all.ensures.heard)

pub returns-clause-on : goal.returns-clause-on
returns-clause-on g c =
    let read =
    read_on g.N.LaneSession.names.script g.N.LaneSession.clock c.hear_all-2.new.opener c.read.new.self c.is_one.ensures
    c.read.ensures in
    on_and_on c.args.opener.now c.read.new.self c.attend_bench.new.opener
    (on_and_on c.args.opener.now c.hear_all-2.new.opener c.read.new.self
    (on_and_on c.args.opener.now c.hear_all.new.opener c.hear_all-2.new.opener c.hear_all.ensures.on
    c.hear_all-2.ensures.on) read) c.attend_bench.ensures.on

pub returns-clause-cuts : goal.returns-clause-cuts
returns-clause-cuts g c =
    let script = g.N.LaneSession.names.script in
    let heard = c.hear_all-2.new.opener in
    let read = read_on script g.N.LaneSession.clock heard c.read.new.self c.is_one.ensures c.read.ensures in
    let before =
    on_and_on c.args.opener.now c.hear_all.new.opener heard c.hear_all.ensures.on c.hear_all-2.ensures.on in
    cuts_go_on script heard c.attend_bench.new.opener c.is_one.ensures.number
    (on_and_on heard c.read.new.self c.attend_bench.new.opener read c.attend_bench.ensures.on)
    (cuts_go_on script c.args.opener.now heard (sym before.number ∙ c.is_one.ensures.number) before c.requires.cuts)

pub returns-clause-known : goal.returns-clause-known
returns-clause-known g c =
    let met = c.attend_bench.ensures.met in
    subst (λ xs. KnowsAllOf g.W.Attendee.seat c.attend_bench.new.opener xs) c.hear_all.ensures.same
    (all_known g.W.Attendee.seat g.N.LaneSession.names.script met.mid c.attend_bench.new.opener c.hear_all.new.all
    c.attend_bench.new.workers met.workers_size met.workers_met)

pub returns-clause-lanes : goal.returns-clause-lanes
returns-clause-lanes g c =
    let script = g.N.LaneSession.names.script in
    let before = c.hear_all-2.new.opener in
    let lanes = c.hear_all-2.new.all in
    let workers = c.hear_all.new.all in
    let lanes_heard : AreHeard g.B.Attendee.seat script before lanes (length lanes) =
    subst (λ xs. AreHeard g.B.Attendee.seat script before xs (length xs)) (sym c.hear_all-2.ensures.same)
    c.hear_all-2.ensures.heard in
    let workers_heard : AreHeard g.W.Attendee.seat script before workers (length workers) =
    subst (λ xs. AreHeard g.W.Attendee.seat script before xs (length xs)) (sym c.hear_all.ensures.same)
    (heard_later g.W.Attendee.seat script c.hear_all.new.opener before c.args.workers.now (length c.args.workers.now)
    c.hear_all-2.ensures.on c.hear_all.ensures.heard) in
    lanes_after g.B.Attendee.seat g.W.Attendee.seat script g.N.LaneSession.clock before c.read.new.self
    c.attend_bench.new.opener lanes c.attend_bench.new.lanes workers c.attend_bench.new.workers c.is_one.ensures
    (subst (λ xs. AreLanes g.B.Attendee.seat script xs) (sym c.hear_all-2.ensures.same) c.requires.lanes)
    (subst (λ xs. AreWorkers g.W.Attendee.seat script xs) (sym c.hear_all.ensures.same) c.requires.workers)
    lanes_heard workers_heard c.attend_bench.ensures.met

pub returns-clause-workers : goal.returns-clause-workers
returns-clause-workers g c =
    let script = g.N.LaneSession.names.script in
    let before = c.hear_all-2.new.opener in
    let lanes = c.hear_all-2.new.all in
    let workers = c.hear_all.new.all in
    let lanes_heard : AreHeard g.B.Attendee.seat script before lanes (length lanes) =
    subst (λ xs. AreHeard g.B.Attendee.seat script before xs (length xs)) (sym c.hear_all-2.ensures.same)
    c.hear_all-2.ensures.heard in
    let workers_heard : AreHeard g.W.Attendee.seat script before workers (length workers) =
    subst (λ xs. AreHeard g.W.Attendee.seat script before xs (length xs)) (sym c.hear_all.ensures.same)
    (heard_later g.W.Attendee.seat script c.hear_all.new.opener before c.args.workers.now (length c.args.workers.now)
    c.hear_all-2.ensures.on c.hear_all.ensures.heard) in
    workers_after g.B.Attendee.seat g.W.Attendee.seat script g.N.LaneSession.clock before c.read.new.self
    c.attend_bench.new.opener lanes c.attend_bench.new.lanes workers c.attend_bench.new.workers c.is_one.ensures
    (subst (λ xs. AreLanes g.B.Attendee.seat script xs) (sym c.hear_all-2.ensures.same) c.requires.lanes)
    (subst (λ xs. AreWorkers g.W.Attendee.seat script xs) (sym c.hear_all.ensures.same) c.requires.workers)
    lanes_heard workers_heard c.attend_bench.ensures.met

pub returns-clause-remember : goal.returns-clause-remember
returns-clause-remember g c =
    let met = c.attend_bench.ensures.met in
    subst (λ xs. AllRemember g.W.Attendee.seat xs c.attend_bench.new.workers) c.hear_all.ensures.same
    (met_remember g.W.Attendee.seat g.N.LaneSession.names.script met.mid c.attend_bench.new.opener c.hear_all.new.all
    c.attend_bench.new.workers met.workers_size met.workers_met)

pub returns-clause-opener_knew : goal.returns-clause-opener_knew
returns-clause-opener_knew g c = λ knows.
    let script = g.N.LaneSession.names.script in
    let before = c.hear_all-2.new.opener in
    let lanes = c.hear_all-2.new.all in
    let workers = c.hear_all.new.all in
    let lanes_heard : AreHeard g.B.Attendee.seat script before lanes (length lanes) =
    subst (λ xs. AreHeard g.B.Attendee.seat script before xs (length xs)) (sym c.hear_all-2.ensures.same)
    c.hear_all-2.ensures.heard in
    let workers_heard : AreHeard g.W.Attendee.seat script before workers (length workers) =
    subst (λ xs. AreHeard g.W.Attendee.seat script before xs (length xs)) (sym c.hear_all.ensures.same)
    (heard_later g.W.Attendee.seat script c.hear_all.new.opener before c.args.workers.now (length c.args.workers.now)
    c.hear_all-2.ensures.on c.hear_all.ensures.heard) in
    met_after_fault script g.N.LaneSession.clock before c.read.new.self c.is_one.ensures c.read.ensures
    g.B.Attendee.seat g.W.Attendee.seat c.attend_bench.new.opener lanes c.attend_bench.new.lanes workers
    c.attend_bench.new.workers
    (subst (λ xs. AreLanes g.B.Attendee.seat script xs) (sym c.hear_all-2.ensures.same) c.requires.lanes)
    (subst (λ xs. AreWorkers g.W.Attendee.seat script xs) (sym c.hear_all.ensures.same) c.requires.workers)
    lanes_heard workers_heard c.attend_bench.ensures.met
    (fault_remembered script c.args.opener.now.pen.seat before.pen.seat
    (on_and_on c.args.opener.now c.hear_all.new.opener before c.hear_all.ensures.on c.hear_all-2.ensures.on).remembers
    knows)

pub returns-clause-worker_knew : goal.returns-clause-worker_knew
returns-clause-worker_knew g c = λ k one at knows.
    let script = g.N.LaneSession.names.script in
    let before = c.hear_all-2.new.opener in
    let lanes = c.hear_all-2.new.all in
    let workers = c.hear_all.new.all in
    let lanes_heard : AreHeard g.B.Attendee.seat script before lanes (length lanes) =
    subst (λ xs. AreHeard g.B.Attendee.seat script before xs (length xs)) (sym c.hear_all-2.ensures.same)
    c.hear_all-2.ensures.heard in
    let workers_heard : AreHeard g.W.Attendee.seat script before workers (length workers) =
    subst (λ xs. AreHeard g.W.Attendee.seat script before xs (length xs)) (sym c.hear_all.ensures.same)
    (heard_later g.W.Attendee.seat script c.hear_all.new.opener before c.args.workers.now (length c.args.workers.now)
    c.hear_all-2.ensures.on c.hear_all.ensures.heard) in
    met_after_fault script g.N.LaneSession.clock before c.read.new.self c.is_one.ensures c.read.ensures
    g.B.Attendee.seat g.W.Attendee.seat c.attend_bench.new.opener lanes c.attend_bench.new.lanes workers
    c.attend_bench.new.workers
    (subst (λ xs. AreLanes g.B.Attendee.seat script xs) (sym c.hear_all-2.ensures.same) c.requires.lanes)
    (subst (λ xs. AreWorkers g.W.Attendee.seat script xs) (sym c.hear_all.ensures.same) c.requires.workers)
    lanes_heard workers_heard c.attend_bench.ensures.met
    (fault_told g.W.Attendee.seat script c.hear_all.new.opener before c.args.workers.now k one
    c.hear_all.ensures.known c.hear_all-2.ensures.on at knows)
