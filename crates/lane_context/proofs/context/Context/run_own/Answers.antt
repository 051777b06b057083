use Rattle.std.proofs.Common.{◌≡◌, Some, ap, refl, subst, sym, ◌∙◌}
use Rattle.lane_turns.specs.Attempts.{WorkerState}
use Rattle.lane_turns.specs.Gathering.{unseated}
use Rattle.lane_turns.specs.Scanning.{numbers_of}
use Rattle.lane_turns.proofs.AllWorkersLemmas.{own_stands}
use Rattle.lane_context.proofs.context.Context.run_own.Goals as goal

pub run-end-requires : goal.run-end-requires
run-end-requires g c =
    record {
      turns =
          record {
            seat = c.args.seat;
            is = ap (λ (w : WorkerState g.row.H.Denot g.row.X.Denot). w.turns) c.sit_down.ensures;
            fits = c.requires.seat.fits;
          };
    }

pub returns-clause-seat : goal.returns-clause-seat
returns-clause-seat g c =
    own_stands c.args.self.now c.args.self.now.seats c.args.seat c.unseat-seat.result c.run-end.new.worker
    c.requires.seat c.run-end.ensures.turns
    (c.run-end.ensures.on.numbers
    ∙ ap (λ (w : WorkerState g.row.H.Denot g.row.X.Denot). numbers_of w.turns) c.sit_down.ensures)
    c.unseat-seat.ensures.seat
