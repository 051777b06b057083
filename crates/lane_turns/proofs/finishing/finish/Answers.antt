use Rattle.std.proofs.Common.{◌≡◌, ◌<◌, [], ℕ, List, Option, length, map, true, ap, subst, sym, ◌∙◌}
use Rattle.std.specs.Prelude.{All, slice_index_or}
use Rattle.std.specs.List.{flat_map}
use Rattle.session_script.specs.Script.{ScriptModel, is_op}
use Rattle.lane_clock.specs.Seats.{ClockId, Owns, Remembers}
use Rattle.lane_map.specs.LaneNumbers.{home_lane, reactor_lane}
use Rattle.strand_core.specs.Hands.{Held}
use Rattle.lane_logs.specs.declared.log.LogEntry.{LogEntry}
use Rattle.lane_logs.specs.Drops.{drops_of, untouched_marks}
use Rattle.lane_logs.specs.Labels.{events_in}
use Rattle.lane_logs.specs.Logs.{AreLogs}
use Rattle.lane_logs.specs.Knowing.{lists_of}
use Rattle.lane_logs.specs.KeptLogs.{KeptLogs, LetGo, logs_in}
use Rattle.lane_logs.specs.AtRest.{RestsFrom}
use Rattle.lane_logs.specs.SeatNumbers.{opener_seat}
use Rattle.lane_turns.specs.AtRest.{HasHeardPens}
use Rattle.lane_turns.specs.Discarding.{IsDiscarding}
use Rattle.lane_turns.specs.Finishing.{AreClosed, IsGivenBack, lanes_in, pens_of, KeepLogsOf}
use Rattle.lane_turns.specs.Pens.{PenView}
use Rattle.lane_turns.specs.Turning.{ReactorView, log_half}
use Rattle.lane_turns.proofs.EndingLemmas.{baton_entry, baton_number, have_left, pens_clocks, pens_numbers, pens_own, reactor_entry}
use Rattle.lane_turns.proofs.FinishLemmas.{HaveLeft, are_logs, pen_count, worker_logs}
use Rattle.lane_turns.proofs.GivingBackLemmas.{given_back}
use Rattle.lane_turns.proofs.KeptStepsLemmas.{nothing_since, opener_remembers, rested_since, worker_steps}
use Rattle.lane_turns.proofs.LeftLemmas.{none_discarded}
use Rattle.lane_turns.proofs.finishing.finish.Given.{Over}
use Rattle.lane_turns.proofs.finishing.finish.Goals as goal
use Rattle.lane_turns.proofs.finishing.finish.Goals.{After-close_all-entries, After-part_all-pens}
use Rattle.lane_turns.specs.KeptSteps.{KeepStepsOf}
use Rattle.lane_turns.specs.Workers.{WorkerView}

-- what the lanes and the workers left
left_of : (g : Over) (c : After-part_all-pens g) →
    HaveLeft g.N.LaneSession.names g.N.LaneSession.clock (lanes_in c.args.ending.batons.items c.reactor.inside.lane)
    c.args.ending.workers.items
left_of g c =
    have_left g.N.LaneSession.names g.H.CompletionHandler.marks g.N.LaneSession.clock c.args.ending.batons.items
    c.reactor.inside.lane c.args.ending.workers.items c.part_all-pens.ensures.batons c.reactor.invariant.is_lane
    c.reactor.invariant.last c.requires.batons c.requires.numbers c.part_all-pens.ensures.workers c.requires.workers
    c.requires.work_numbers

pub close_all-entries-requires-clause-clocks : goal.close_all-entries-requires-clause-clocks
close_all-entries-requires-clause-clocks g c =
    subst (λ (pens : List PenView). All (λ pen. pen.seat.clock ≡ g.N.LaneSession.clock) pens)
    (sym c.part_all-pens.ensures.pens)
    (pens_clocks g.N.LaneSession.names g.N.LaneSession.clock
    (lanes_in c.args.ending.batons.items c.reactor.inside.lane) c.args.ending.workers.items (left_of g c))

pub close_all-entries-requires-clause-count : goal.close_all-entries-requires-clause-count
close_all-entries-requires-clause-count g c =
    ap length c.part_all-pens.ensures.pens
    ∙ pen_count g.N.LaneSession.names g.N.LaneSession.clock
    (lanes_in c.args.ending.batons.items c.reactor.inside.lane) c.args.ending.workers.items (left_of g c)

pub close_all-entries-requires-clause-numbers : goal.close_all-entries-requires-clause-numbers
close_all-entries-requires-clause-numbers g c =
    subst (λ (pens : List PenView).
    (k : ℕ) (d : PenView) → k < length pens → (slice_index_or pens k d).seat.number ≡ k)
    (sym c.part_all-pens.ensures.pens)
    (pens_numbers g.N.LaneSession.names g.N.LaneSession.clock
    (lanes_in c.args.ending.batons.items c.reactor.inside.lane) c.args.ending.workers.items (left_of g c))

pub close_all-entries-requires-clause-owns : goal.close_all-entries-requires-clause-owns
close_all-entries-requires-clause-owns g c =
    subst (λ (pens : List PenView). All (λ pen. Owns pen.seat pen.seat.number) pens)
    (sym c.part_all-pens.ensures.pens)
    (pens_own g.N.LaneSession.names g.N.LaneSession.clock
    (lanes_in c.args.ending.batons.items c.reactor.inside.lane) c.args.ending.workers.items (left_of g c))

-- the clock was closed with all of them
shut_of : (g : Over) (c : After-close_all-entries g) →
    AreClosed g.N.LaneSession.names.script g.N.LaneSession.clock
    (pens_of (lanes_in c.args.ending.batons.items c.reactor.inside.lane) c.args.ending.workers.items)
    c.args.ending.opener (map (λ log. log.items) c.close_all-entries.result.entries.items)
    c.close_all-entries.result.known c.close_all-entries.result.last
shut_of g c =
    subst (λ (pens : List PenView).
    AreClosed g.N.LaneSession.names.script g.N.LaneSession.clock pens c.args.ending.opener
    (map (λ log. log.items) c.close_all-entries.result.entries.items) c.close_all-entries.result.known
    c.close_all-entries.result.last) c.part_all-pens.ensures.pens c.close_all-entries.ensures

pub discard_left-drops-requires-clause-first : goal.discard_left-drops-requires-clause-first
discard_left-drops-requires-clause-first g c =
    let at = (goal.at.discard_left-drops-requires-clause-first g c).After-close_all-entries in
    subst (λ logs.
    IsDiscarding g.N.LaneSession.names g.H.CompletionHandler.marks
    (flat_map events_in (map (λ log. log.items) logs)) 0 c.part_all-pens.result.hands.items c.args.room.drops.items)
    (sym c.as_slice.ensures.value)
    (subst (λ drops.
    IsDiscarding g.N.LaneSession.names g.H.CompletionHandler.marks
    (flat_map events_in (map (λ log. log.items) c.close_all-entries.result.entries.items)) 0
    c.part_all-pens.result.hands.items drops) (sym c.requires.room.no_drops)
    (subst (λ (hands : List (Option (Held g.row.H.Denot))).
    IsDiscarding g.N.LaneSession.names g.H.CompletionHandler.marks
    (flat_map events_in (map (λ log. log.items) c.close_all-entries.result.entries.items)) 0 hands [])
    (sym c.part_all-pens.ensures.hands)
    (none_discarded g.N.LaneSession.names g.H.CompletionHandler.marks g.N.LaneSession.clock
    c.args.ending.batons.items (map (λ log. log.items) c.close_all-entries.result.entries.items)
    c.part_all-pens.ensures.batons c.requires.batons
    (baton_number g.N.LaneSession.names g.H.CompletionHandler.marks g.N.LaneSession.clock c.args.ending.batons.items
    c.reactor.inside.lane c.args.ending.workers.items c.part_all-pens.ensures.batons c.reactor.invariant.is_lane
    c.reactor.invariant.last c.requires.batons c.requires.numbers c.part_all-pens.ensures.workers c.requires.workers
    c.requires.work_numbers)
    (baton_entry g.N.LaneSession.names g.H.CompletionHandler.marks g.N.LaneSession.clock c.args.ending.batons.items
    c.reactor.inside.lane c.args.ending.workers.items c.part_all-pens.ensures.batons c.reactor.invariant.is_lane
    c.reactor.invariant.last c.requires.batons c.requires.numbers c.part_all-pens.ensures.workers c.requires.workers
    c.requires.work_numbers c.args.ending.opener (map (λ log. log.items) c.close_all-entries.result.entries.items)
    c.close_all-entries.result.known c.close_all-entries.result.last (shut_of g at))
    (subst (λ (s : ScriptModel). (n : ℕ) → is_op s n ≡ true → home_lane s n < reactor_lane s) c.requires.script
    c.operations_have_lanes.ensures))))

-- the entries of the reactor's log
last_log : (g : Over) (c : After-close_all-entries g) →
    slice_index_or (map (λ log. log.items) c.close_all-entries.result.entries.items)
    (reactor_lane g.N.LaneSession.names.script) [] ≡ c.reactor.inside.lane.pen.log
last_log g c =
    reactor_entry g.N.LaneSession.names g.H.CompletionHandler.marks g.N.LaneSession.clock c.args.ending.batons.items
    c.reactor.inside.lane c.args.ending.workers.items c.part_all-pens.ensures.batons c.reactor.invariant.is_lane
    c.reactor.invariant.last c.requires.batons c.requires.numbers c.part_all-pens.ensures.workers c.requires.workers
    c.requires.work_numbers c.args.ending.opener (map (λ log. log.items) c.close_all-entries.result.entries.items)
    c.close_all-entries.result.known c.close_all-entries.result.last (shut_of g c)

pub returns-clause-logs : goal.returns-clause-logs
returns-clause-logs g c =
    let first = (goal.at.returns-clause-logs g c).After-part_all-pens in
    let at = (goal.at.returns-clause-logs g c).After-close_all-entries in
    subst (λ (kept : KeptLogs).
    AreLogs g.N.LaneSession.names (logs_in kept))
    (sym c.of-logs.ensures)
    (subst (λ (missed : List (Option ℕ)).
    AreLogs g.N.LaneSession.names (record {
      lists = lists_of c.close_all-entries.result.known;
      last = c.close_all-entries.result.last;
      entries = map (λ log. log.items) c.close_all-entries.result.entries.items;
      missed = missed;
      drops = c.discard_left-drops.result.drops.items;
    }))
    (sym c.part_all-pens.ensures.missed)
    (are_logs g.N.LaneSession.names g.N.LaneSession.clock (lanes_in c.args.ending.batons.items c.reactor.inside.lane)
    c.args.ending.workers.items (left_of g first) c.args.ending.opener
    (map (λ log. log.items) c.close_all-entries.result.entries.items) c.close_all-entries.result.known
    c.close_all-entries.result.last (shut_of g at) c.discard_left-drops.result.drops.items
    (ap (λ (clock : ClockId). clock.plan) (sym c.requires.clock) ∙ c.requires.plan)
    c.requires.cuts
    c.requires.over
    (c.discard_left-drops.ensures.drops
    ∙ ap (λ logs. drops_of g.N.LaneSession.names (flat_map events_in (map (λ log. log.items) logs)))
    c.as_slice.ensures.value)))

pub returns-clause-reactor : goal.returns-clause-reactor
returns-clause-reactor g c =
    let at = (goal.at.returns-clause-reactor g c).After-close_all-entries in
    subst (λ (kept : KeptLogs).
    IsGivenBack g.N.LaneSession.names.told (log_half g.N.LaneSession.names
    (slice_index_or kept.entries (reactor_lane g.N.LaneSession.names.script) [])) g.N.LaneSession.faults
    (g.X.Reactor.faults c.into_reactor.result) (g.X.Reactor.state c.into_reactor.result)
    (g.X.Reactor.told c.into_reactor.result))
    (sym c.of-logs.ensures)
    (subst (λ (log : List LogEntry).
    IsGivenBack g.N.LaneSession.names.told (log_half g.N.LaneSession.names log) g.N.LaneSession.faults
    (g.X.Reactor.faults c.into_reactor.result) (g.X.Reactor.state c.into_reactor.result)
    (g.X.Reactor.told c.into_reactor.result)) (sym (last_log g at))
    (given_back g.N.LaneSession.names g.X.Reactor.state g.X.Reactor.told g.X.Reactor.faults g.N.LaneSession.faults
    (log_half g.N.LaneSession.names c.reactor.inside.lane.pen.log) c.reactor.inside.proactor c.into_reactor.result
    c.reactor.invariant.keeps c.into_reactor.ensures.reactor c.into_reactor.ensures.stands))

pub returns-clause-worker_logs : goal.returns-clause-worker_logs
returns-clause-worker_logs g c =
    let first = (goal.at.returns-clause-worker_logs g c).After-part_all-pens in
    let at = (goal.at.returns-clause-worker_logs g c).After-close_all-entries in
    subst (λ (kept : KeptLogs).
    KeepLogsOf (λ (worker : WorkerView). worker.pen.log) g.N.LaneSession.names.script (logs_in kept)
    c.args.ending.workers.items)
    (sym c.of-logs.ensures)
    (worker_logs g.N.LaneSession.names g.N.LaneSession.clock (lanes_in c.args.ending.batons.items c.reactor.inside.lane)
    c.args.ending.workers.items (left_of g first) c.args.ending.opener
    (map (λ log. log.items) c.close_all-entries.result.entries.items) c.close_all-entries.result.known
    c.close_all-entries.result.last (shut_of g at))

pub returns-clause-worker_steps : goal.returns-clause-worker_steps
returns-clause-worker_steps g c =
    let first = (goal.at.returns-clause-worker_steps g c).After-part_all-pens in
    let at = (goal.at.returns-clause-worker_steps g c).After-close_all-entries in
    subst (λ (kept : KeptLogs).
    KeepStepsOf (λ (worker : WorkerView). worker.pen.seat) g.N.LaneSession.names.script (logs_in kept)
    c.args.ending.workers.items)
    (sym c.of-logs.ensures)
    (worker_steps g.N.LaneSession.names g.N.LaneSession.clock (lanes_in c.args.ending.batons.items c.reactor.inside.lane)
    c.args.ending.workers.items (left_of g first) c.args.ending.opener
    (map (λ log. log.items) c.close_all-entries.result.entries.items) c.close_all-entries.result.known
    c.close_all-entries.result.last (shut_of g at))

pub returns-clause-remembers : goal.returns-clause-remembers
returns-clause-remembers g c =
    let first = (goal.at.returns-clause-remembers g c).After-part_all-pens in
    let at = (goal.at.returns-clause-remembers g c).After-close_all-entries in
    subst (λ (kept : KeptLogs).
    Remembers c.args.ending.opener.pen.seat kept.known)
    (sym c.of-logs.ensures)
    (opener_remembers g.N.LaneSession.names g.N.LaneSession.clock (lanes_in c.args.ending.batons.items c.reactor.inside.lane)
    c.args.ending.workers.items (left_of g first) c.args.ending.opener
    (map (λ log. log.items) c.close_all-entries.result.entries.items) c.close_all-entries.result.known
    c.close_all-entries.result.last (shut_of g at))

pub returns-clause-all : goal.returns-clause-all
returns-clause-all g c =
    let first = (goal.at.returns-clause-all g c).After-part_all-pens in
    let at = (goal.at.returns-clause-all g c).After-close_all-entries in
    subst (λ (kept : KeptLogs).
    (n : ℕ) → n < opener_seat g.N.LaneSession.names.script →
    lists_of kept.known n ≡ lists_of c.args.ending.opener.pen.seat n)
    (sym c.of-logs.ensures)
    (nothing_since g.N.LaneSession.names g.N.LaneSession.clock (lanes_in c.args.ending.batons.items c.reactor.inside.lane)
    c.args.ending.workers.items (left_of g first) c.args.ending.opener
    (map (λ log. log.items) c.close_all-entries.result.entries.items) c.close_all-entries.result.known
    c.close_all-entries.result.last (shut_of g at)
    (subst (λ (reactor : ReactorView g.row.X.Denot).
    HasHeardPens c.args.ending.opener
    (pens_of (lanes_in c.args.ending.batons.items reactor.lane) c.args.ending.workers.items)) (sym c.reactor.view_is)
    c.requires.heard))

pub returns-clause-resting : goal.returns-clause-resting
returns-clause-resting g c =
    let first = (goal.at.returns-clause-resting g c).After-part_all-pens in
    let at = (goal.at.returns-clause-resting g c).After-close_all-entries in
    subst (λ (kept : KeptLogs).
    RestsFrom g.N.LaneSession.names.script (lists_of kept.known)
    (length (lists_of c.args.ending.opener.pen.seat (opener_seat g.N.LaneSession.names.script))))
    (sym c.of-logs.ensures)
    (rested_since g.N.LaneSession.names g.N.LaneSession.clock (lanes_in c.args.ending.batons.items c.reactor.inside.lane)
    c.args.ending.workers.items (left_of g first) c.args.ending.opener
    (map (λ log. log.items) c.close_all-entries.result.entries.items) c.close_all-entries.result.known
    c.close_all-entries.result.last (shut_of g at))

pub returns-clause-let_go : goal.returns-clause-let_go
returns-clause-let_go g c =
    subst (λ (kept : KeptLogs). LetGo g.N.LaneSession.names kept)
    (sym c.of-logs.ensures)
    record {
      is =
          c.discard_left-drops.ensures.let_go
          ∙ ap (λ logs.
          untouched_marks g.N.LaneSession.names (flat_map events_in (map (λ log. log.items) logs))
          (length g.N.LaneSession.names.script.acts))
          c.as_slice.ensures.value;
      few = c.discard_left-drops.ensures.few;
    }
