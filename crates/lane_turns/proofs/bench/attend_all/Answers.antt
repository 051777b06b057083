use Rattle.std.proofs.Common.{◌≡◌, ◌<◌, Some, get_or, length, refl, ◌∙◌, arith}
use Rattle.std.specs.Prelude.{slice_get}
use Rattle.std.proofs.lemmas.Option.{slice_get-get_or}
use Rattle.lane_turns.proofs.AttendingLemmas.{map_set_same, more_attended, none_attended, on_and_on, on_heard, on_same}
use Rattle.lane_turns.proofs.BenchLemmas.{more_in_round, none_in_round, still_heard}
use Rattle.lane_turns.proofs.bench.attend_all.Goals as goal

pub attend-requires-clause-heard : goal.attend-requires-clause-heard
attend-requires-clause-heard g c =
    let i = c.loop-one.one-index in
    let less : i < length c.loop-one.all = omega (arith, c.loop-one-test.true, c.loop-one.auto.all) in
    still_heard g.T.Attendee.seat g.N.LaneSession.names.script c.args.opener.now c.loop-one.opener c.args.all.now
    c.loop-one.all i (length c.args.all.now) (get_or c.loop-one.all i c.one-item.result) c.loop-one-test.true
    (slice_get-get_or c.loop-one.all i c.one-item.result less) c.loop-one.invariant.on
    c.loop-one.invariant.attended c.requires.heard

pub loop-one-init : goal.loop-one-init
loop-one-init g c =
    record {
      on = on_same c.args.opener.now;
      attended = none_attended g.T.Attendee.seat g.N.LaneSession.names.script c.args.opener.now c.args.all.now;
      round =
          none_in_round g.T.Attendee.base g.T.Attendee.running g.N.LaneSession.names.script c.args.opener.now.stand
          c.args.all.now;
      rest = refl;
    }

pub loop-one-preserved : goal.loop-one-preserved
loop-one-preserved g c =
    let i = c.loop-one.one-index in
    let one = get_or c.loop-one.all i c.one-item.result in
    let less : i < length c.loop-one.all = omega (arith, c.loop-one-test.true, c.loop-one.auto.all) in
    let at : slice_get c.loop-one.all i ≡ Some one = slice_get-get_or c.loop-one.all i c.one-item.result less in
    record {
      on =
          on_and_on c.args.opener.now c.loop-one.opener c.attend.new.opener c.loop-one.invariant.on
          (on_heard g.N.LaneSession.names.script (g.T.Attendee.seat c.attend.new.self) c.loop-one.opener
          c.attend.new.opener c.attend.ensures.met.heard);
      attended =
          more_attended g.T.Attendee.seat g.N.LaneSession.names.script c.args.opener.now c.loop-one.opener
          c.attend.new.opener c.args.all.now c.loop-one.all i one c.attend.new.self at c.loop-one.invariant.on
          c.attend.ensures.met c.attend.ensures.owns c.loop-one.invariant.attended;
      round =
          more_in_round g.T.Attendee.base g.T.Attendee.running g.N.LaneSession.names.script c.loop-one.opener.stand
          c.attend.new.opener.stand c.loop-one.all i one c.attend.new.self c.attend.ensures.met.heard.stand at
          c.loop-one.invariant.round c.attend.ensures.round;
      rest =
          map_set_same g.T.Attendee.rest c.loop-one.all i one c.attend.new.self at c.attend.ensures.rest
          ∙ c.loop-one.invariant.rest;
    }
