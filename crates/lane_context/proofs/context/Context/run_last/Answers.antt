use Rattle.std.proofs.Common.{◌≡◌, ◌<◌, ◌-◌, ℕ, Some, None, get_or, length, refl, subst, arith}
use Rattle.std.specs.Prelude.{IfSome, slice_get}
use Rattle.std.proofs.lemmas.Option.{slice_get-get_or}
use Rattle.lane_turns.specs.Attempts.{WorkerState}
use Rattle.lane_context.proofs.LastEndLemmas.{last_set}
use Rattle.lane_context.proofs.context.Context.run_last.Goals as goal

pub run_own-requires-clause-free : goal.run_own-requires-clause-free
run_own-requires-clause-free g c =
    let i : ℕ = length c.args.workers.now - 1 in
    let one = get_or c.args.workers.now i c.index-workers-last.result in
    let within : i < length c.args.workers.now = omega (arith, c.requires.some) in
    let at : slice_get c.args.workers.now i ≡ Some one =
    slice_get-get_or c.args.workers.now i c.index-workers-last.result within in
    subst (λ o. IfSome o (λ (w : WorkerState g.row.H.Denot g.row.X.Denot). w.kept ≡ None)) at (c.requires.free i)

pub returns-clause-ran : goal.returns-clause-ran
returns-clause-ran g c =
    let i : ℕ = length c.args.workers.now - 1 in
    let one = get_or c.args.workers.now i c.index-workers-last.result in
    let within : i < length c.args.workers.now = omega (arith, c.requires.some) in
    let at : slice_get c.args.workers.now i ≡ Some one =
    slice_get-get_or c.args.workers.now i c.index-workers-last.result within in
    record {
      old = one;
      new = c.run_own.new.worker;
      only = last_set c.args.workers.now i one c.run_own.new.worker refl at;
      ran = c.run_own.ensures.ran;
    }
