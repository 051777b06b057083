use Rattle.asio_types.proofs.SinkLemmas.{extends_by_next, extends_by_first}
use Rattle.std.proofs.Common.{arith, ap, length, ◌∙◌, Ok, Err, OnErr}
use Rattle.asio_types.specs.Sink.{ExtendsByPart}
use Rattle.asio_types.proofs.whole_write.write_all.Goals as goal

pub returns-in_err-done-clause-part : goal.returns-in_err-done-clause-part
returns-in_err-done-clause-part g c =
    let part =
    extends_by_first (g.K.Sink.written c.args.sink.now) _ (g.K.Sink.written c.write.new.self) c.args.bytes.now
    c.loop-done.done c.loop-done.invariant.within c.loop-done.invariant.taken c.in_err-done.ensures.unchanged in
    elim c.from_residual.result as
    (λ r.
    OnErr r (ExtendsByPart (g.K.Sink.written c.args.sink.now) c.args.bytes.now (g.K.Sink.written c.write.new.self)))
    [ Ok x ↦ tt | Err e ↦ part ]

pub loop-done-preserved : goal.loop-done-preserved
loop-done-preserved g c = record {
  within = omega (arith, c.in_ok-done.ensures.bound);
  taken = extends_by_next _ _ _ _ _ _ c.loop-done.invariant.taken c.in_ok-done.ensures.appended;
  unasked = λ empty. absurd (omega (arith, ap length empty, c.loop-done-test.true));
  uncounted = c.in_ok-done.ensures.counts ∙ c.loop-done.invariant.uncounted;
}
