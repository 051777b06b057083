use Rattle.std.proofs.Common.{◌≡◌, ◌<◌, Some, get_or, length, refl, set, sym, ap, ◌∙◌, arith}
use Rattle.std.specs.Prelude.{slice_get}
use Rattle.std.proofs.lemmas.List.{set-get_or}
use Rattle.std.proofs.lemmas.Option.{slice_get-get_or}
use Rattle.lane_turns.proofs.AttendingLemmas.{more_heard, more_known, none_heard, none_known, on_and_on, on_heard, on_same}
use Rattle.lane_turns.proofs.BenchLemmas.{more_started, none_started}
use Rattle.lane_turns.proofs.bench.hear_all.Goals as goal

pub loop-one-init : goal.loop-one-init
loop-one-init g c =
    record {
      same = refl;
      on = on_same c.args.opener.now;
      heard = none_heard g.T.Attendee.seat g.N.LaneSession.names.script c.args.opener.now c.args.all.now;
      known = none_known g.T.Attendee.seat g.N.LaneSession.names.script c.args.opener.now c.args.all.now;
      started = none_started g.T.Attendee.seat g.T.Attendee.place c.args.all.now;
    }

pub loop-one-preserved : goal.loop-one-preserved
loop-one-preserved g c =
    let i = c.loop-one.one-index in
    let one = get_or c.loop-one.all i c.one-item.result in
    let less : i < length c.loop-one.all = omega (arith, c.loop-one-test.true, c.loop-one.auto.all) in
    let at : slice_get c.args.all.now i ≡ Some one =
    ap (λ xs. slice_get xs i) (sym c.loop-one.invariant.same)
    ∙ slice_get-get_or c.loop-one.all i c.one-item.result less in
    record {
      same =
          ap (set c.loop-one.all i) c.report.ensures.same ∙ set-get_or c.loop-one.all i c.one-item.result
          ∙ c.loop-one.invariant.same;
      on =
          on_and_on c.args.opener.now c.loop-one.opener c.report.new.opener c.loop-one.invariant.on
          (on_heard g.N.LaneSession.names.script (g.T.Attendee.seat one) c.loop-one.opener c.report.new.opener
          c.report.ensures.heard);
      heard =
          more_heard g.T.Attendee.seat g.N.LaneSession.names.script c.loop-one.opener c.report.new.opener
          c.args.all.now i one at c.loop-one.invariant.heard c.report.ensures.heard;
      known =
          more_known g.T.Attendee.seat g.N.LaneSession.names.script c.loop-one.opener c.report.new.opener
          c.args.all.now i one at c.loop-one.invariant.known c.report.ensures.heard;
      started =
          more_started g.T.Attendee.seat g.T.Attendee.place c.args.all.now i one at c.loop-one.invariant.started
          c.report.ensures.started;
    }

pub returns-clause-known : goal.returns-clause-known
returns-clause-known g c = λ k one less at.
    c.loop-one.invariant.known k one
    (omega (arith, less, c.loop-one-test.false, c.loop-one.auto.all, ap length c.loop-one.invariant.same)) at
