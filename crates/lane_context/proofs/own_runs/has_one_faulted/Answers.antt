use Rattle.std.proofs.Common.{◌≡◌, Some, length, refl, sym, ◌∙◌}
use Rattle.std.specs.Prelude.{slice_get}
use Rattle.std.proofs.lemmas.Option.{slice_get_read}
use Rattle.lane_context.proofs.LastEndLemmas.{faulted_is, more_none_faulted, no_faulted_below, none_faulted_of}
use Rattle.lane_context.proofs.own_runs.has_one_faulted.Goals as goal

pub loop-worker-init : goal.loop-worker-init
loop-worker-init g c = no_faulted_below c.args.workers.now

pub loop-worker-preserved : goal.loop-worker-preserved
loop-worker-preserved g c =
    let i = c.loop-worker.worker-index in
    let at : slice_get c.args.workers.now i ≡ Some c.worker-item.result =
    slice_get_read c.args.workers.now (length c.args.workers.now) i c.worker-item.result refl c.loop-worker-test.true
    c.worker-item.is in
    more_none_faulted c.args.workers.now i c.worker-item.result at
    (sym c.has_faulted.ensures.is ∙ c.if-has_faulted.false) c.loop-worker.invariant

pub returns-then-has_faulted-clause-one : goal.returns-then-has_faulted-clause-one
returns-then-has_faulted-clause-one g c yes_ =
    let i = c.loop-worker.worker-index in
    let at : slice_get c.args.workers.now i ≡ Some c.worker-item.result =
    slice_get_read c.args.workers.now (length c.args.workers.now) i c.worker-item.result refl c.loop-worker-test.true
    c.worker-item.is in
    record {
      index = i;
      worker = c.worker-item.result;
      at = at;
      last = faulted_is c.worker-item.result.last (sym c.has_faulted.ensures.is ∙ c.if-has_faulted.true);
    }

pub returns-then-has_faulted-clause-knows : goal.returns-then-has_faulted-clause-knows
returns-then-has_faulted-clause-knows g c yes_ =
    let i = c.loop-worker.worker-index in
    let at : slice_get c.args.workers.now i ≡ Some c.worker-item.result =
    slice_get_read c.args.workers.now (length c.args.workers.now) i c.worker-item.result refl c.loop-worker-test.true
    c.worker-item.is in
    record {
      index = i;
      worker = c.worker-item.result;
      at = at;
      knows =
          c.has_faulted.ensures.knows
          (faulted_is c.worker-item.result.last (sym c.has_faulted.ensures.is ∙ c.if-has_faulted.true));
    }

pub returns-clause-none : goal.returns-clause-none
returns-clause-none g c no_ =
    none_faulted_of c.args.workers.now c.loop-worker.worker-index c.loop-worker.invariant c.loop-worker-test.false
