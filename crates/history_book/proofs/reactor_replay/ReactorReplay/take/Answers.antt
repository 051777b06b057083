use Rattle.std.proofs.Common.{arith}
use Rattle.session_script.specs.Script.{act_of}
use Rattle.history_rules.proofs.PerformingLemmas.{performs-by}
use Rattle.history_book.proofs.SettledLemmas.{IsSettled-take, has-place, now-soon, room-left}
use Rattle.history_book.proofs.reactor_replay.ReactorReplay.take.Goals as goal

pub take-requires : goal.take-requires
take-requires c =
    let works = c.self.inside.works in
    let fits = rw c.script-script.ensures at c.acts_fit.ensures in
    let there = rw (← c.self.view_is) at c.requires.there in
    let untaken = rw (← c.self.view_is) at c.requires.untaken in
    let left = room-left works.script works.half c.args.a c.self.invariant there untaken in
    let performs = performs-by works.script c.args.a (act_of works.script c.args.a) works.half (fits c.args.a) in
    let soon = now-soon works.script works.half c.self.invariant left.1 in
    let few = c.self.invariant.few in
    record {
      there = there;
      place = has-place works.script works.half c.args.a c.self.invariant there untaken;
      room = left.0;
      soon = omega arith;
      accepted = omega (arith, left.1);
      same = performs.accepted;
      together = performs.together c.self.invariant.ahead;
    }

pub invariant_of-self : goal.invariant_of-self
invariant_of-self c =
    let works = c.self.inside.works in
    let fits = rw c.script-script.ensures at c.acts_fit.ensures in
    let there = rw (← c.self.view_is) at c.requires.there in
    let untaken = rw (← c.self.view_is) at c.requires.untaken in
    rw c.take.ensures (IsSettled-take works.script works.told works.half c.args.a (fits c.args.a) c.self.invariant there untaken)
