use Rattle.std.proofs.Common.{◌≡◌, ℕ, ◌+◌, ◌<◌, Some, ap, get_or, length, refl, subst, sym, ◌∙◌, arith}
use Rattle.std.specs.Prelude.{slice_get}
use Rattle.std.proofs.lemmas.Option.{slice_get-get_or}
use Rattle.turn_table.specs.Seated.{Seated}
use Rattle.lane_turns.specs.Gathering.{StandsForFirst, unseated}
use Rattle.lane_context.proofs.GatheringLemmas.{changed_all, changed_at, changed_more, changed_to, gathered_fits, gathered_more, is_seated, left_fits, left_free, left_sole}
use Rattle.lane_context.proofs.context.Context.gather_seats.Goals as goal

pub unseat-seat-requires : goal.unseat-seat-requires
unseat-seat-requires g c =
    let i = c.loop-worker.worker-index in
    let one = get_or c.loop-worker.workers i c.worker-item.result in
    let less : i < length c.loop-worker.workers = omega (arith, c.loop-worker-test.true, c.loop-worker.auto.workers) in
    let at : slice_get c.loop-worker.workers i ≡ Some one =
    slice_get-get_or c.loop-worker.workers i c.worker-item.result less in
    let was = changed_at unseated c.args.workers.now c.loop-worker.workers i one c.loop-worker.invariant.workers at in
    record { turns = is_seated c.args.self.now i one (c.requires.seats.each i one was) }

pub together-requires-clause-all : goal.together-requires-clause-all
together-requires-clause-all g c =
    gathered_fits c.args.self.now c.loop-worker.worker-index c.loop-worker.all c.loop-worker.invariant.all

pub together-requires-clause-seat : goal.together-requires-clause-seat
together-requires-clause-seat g c =
    let i = c.loop-worker.worker-index in
    let one = get_or c.loop-worker.workers i c.worker-item.result in
    let less : i < length c.loop-worker.workers = omega (arith, c.loop-worker-test.true, c.loop-worker.auto.workers) in
    let at : slice_get c.loop-worker.workers i ≡ Some one =
    slice_get-get_or c.loop-worker.workers i c.worker-item.result less in
    let was = changed_at unseated c.args.workers.now c.loop-worker.workers i one c.loop-worker.invariant.workers at in
    left_fits c.args.self.now i one (c.requires.seats.each i one was) c.unseat-seat.result c.unseat-seat.ensures.seat

pub together-requires-clause-free : goal.together-requires-clause-free
together-requires-clause-free g c =
    let i = c.loop-worker.worker-index in
    let one = get_or c.loop-worker.workers i c.worker-item.result in
    let less : i < length c.loop-worker.workers = omega (arith, c.loop-worker-test.true, c.loop-worker.auto.workers) in
    let at : slice_get c.loop-worker.workers i ≡ Some one =
    slice_get-get_or c.loop-worker.workers i c.worker-item.result less in
    let was = changed_at unseated c.args.workers.now c.loop-worker.workers i one c.loop-worker.invariant.workers at in
    left_free c.args.self.now i one (c.requires.seats.each i one was) c.unseat-seat.result c.unseat-seat.ensures.seat

pub loop-worker-init : goal.loop-worker-init
loop-worker-init g c = record { workers = refl; all = refl }

pub loop-worker-preserved : goal.loop-worker-preserved
loop-worker-preserved g c =
    let i = c.loop-worker.worker-index in
    let one = get_or c.loop-worker.workers i c.worker-item.result in
    let less : i < length c.loop-worker.workers = omega (arith, c.loop-worker-test.true, c.loop-worker.auto.workers) in
    let at : slice_get c.loop-worker.workers i ≡ Some one =
    slice_get-get_or c.loop-worker.workers i c.worker-item.result less in
    let was = changed_at unseated c.args.workers.now c.loop-worker.workers i one c.loop-worker.invariant.workers at in
    let each = c.requires.seats.each i one was in
    record {
      workers =
          changed_more unseated c.args.workers.now c.loop-worker.workers i one c.unseat-seat.new.worker
          c.loop-worker.invariant.workers was c.unseat-seat.ensures.left;
      all =
          subst (λ (s : Seated). StandsForFirst c.args.self.now (i + 1) s) (sym c.together.ensures)
          (gathered_more c.args.self.now i c.loop-worker.all c.unseat-seat.result c.loop-worker.invariant.all
          (left_fits c.args.self.now i one each c.unseat-seat.result c.unseat-seat.ensures.seat)
          (left_free c.args.self.now i one each c.unseat-seat.result c.unseat-seat.ensures.seat)
          (left_sole c.args.self.now i one each c.unseat-seat.result c.unseat-seat.ensures.seat));
    }

pub returns-clause-left : goal.returns-clause-left
returns-clause-left g c =
    let i : ℕ = c.loop-worker.worker-index in
    let end : i ≡ length c.args.workers.now =
    omega (arith, c.loop-worker-test.false, c.loop-worker.auto.workers, c.loop-worker.auto.worker-index-end) in
    c.loop-worker.invariant.workers ∙ ap (λ n. changed_to unseated n c.args.workers.now) end
    ∙ changed_all unseated c.args.workers.now
