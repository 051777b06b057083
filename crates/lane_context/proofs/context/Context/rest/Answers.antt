use Rattle.std.proofs.Common.{◌≡◌, ℕ, List, None, map, subst, sym, ap, ◌∙◌}
use Rattle.std.specs.Prelude.{IfSome, slice_get}
use Rattle.lane_clock.specs.Seats.{Remembers}
use Rattle.lane_turns.specs.AllWorkers.{AreCuts, WorkersView, clock_seat}
use Rattle.lane_turns.specs.Attempts.{WorkerState}
use Rattle.lane_turns.specs.Benches.{AreWorkers}
use Rattle.lane_turns.specs.Finishing.{IsOver}
use Rattle.lane_turns.proofs.AllWorkersLemmas.{rows_gathered}
use Rattle.lane_turns.proofs.ContextEndLemmas.{none_kept, seats_unseated}
use Rattle.lane_context.proofs.context.Context.rest.Goals as goal

pub come_to_rest-requires-clause-workers : goal.come_to_rest-requires-clause-workers
come_to_rest-requires-clause-workers g c =
    subst (λ (ws : List (WorkerState g.row.H.Denot g.row.X.Denot)).
    AreWorkers clock_seat g.N.LaneSession.names.script ws) (sym c.gather_all-seat.ensures.left)
    (rows_gathered g.N.LaneSession.names.script c.workers.inside.all.items
    (subst (λ (w : WorkersView g.row.H.Denot g.row.X.Denot).
    AreWorkers clock_seat g.N.LaneSession.names.script w.all) (sym c.workers.view_is) c.requires.ready.rows))

pub come_to_rest-requires-clause-free : goal.come_to_rest-requires-clause-free
come_to_rest-requires-clause-free g c =
    subst (λ (ws : List (WorkerState g.row.H.Denot g.row.X.Denot)).
    (k : ℕ) → IfSome (slice_get ws k) (λ one. one.kept ≡ None)) (sym c.gather_all-seat.ensures.left)
    (none_kept c.workers.inside.all.items)

pub come_to_rest-requires-clause-cuts : goal.come_to_rest-requires-clause-cuts
come_to_rest-requires-clause-cuts g c =
    subst (λ (w : WorkersView g.row.H.Denot g.row.X.Denot). AreCuts g.N.LaneSession.names.script w.opener)
    (sym c.workers.view_is) c.requires.cuts

pub come_to_rest-requires-clause-over : goal.come_to_rest-requires-clause-over
come_to_rest-requires-clause-over g c =
    subst (λ (w : WorkersView g.row.H.Denot g.row.X.Denot). IsOver g.N.LaneSession.names.script w.opener)
    (sym c.workers.view_is) c.requires.over

pub returns-clause-workers : goal.returns-clause-workers
returns-clause-workers g c =
    subst (λ (w : WorkersView g.row.H.Denot g.row.X.Denot).
    c.come_to_rest.result.workers ≡ map (λ (worker : WorkerState g.row.H.Denot g.row.X.Denot). worker.seat) w.all)
    c.workers.view_is
    (c.come_to_rest.ensures.workers
    ∙ ap (λ (ws : List (WorkerState g.row.H.Denot g.row.X.Denot)).
    map (λ (worker : WorkerState g.row.H.Denot g.row.X.Denot). worker.seat) ws) c.gather_all-seat.ensures.left
    ∙ seats_unseated c.workers.inside.all.items)

pub returns-clause-remembers : goal.returns-clause-remembers
returns-clause-remembers g c =
    subst (λ (w : WorkersView g.row.H.Denot g.row.X.Denot). Remembers w.opener.pen.seat c.come_to_rest.result.known)
    c.workers.view_is c.come_to_rest.ensures.remembers
