use Rattle.std.proofs.Common.{refl, subst, sym}
use Rattle.run_check.specs.After.{IsAfter}
use Rattle.run_check.specs.declared.checker.Checker.{Checker}
use Rattle.run_verdict.specs.Streams.{AreStreams}
use Rattle.run_verdict.specs.declared.judge.Judge.{Judge}
use Rattle.run_verdict.specs.declared.streams.Streams.{Streams}
use Rattle.run_verdict.proofs.LevelLemmas.{followed_all}
use Rattle.run_verdict.proofs.judge.Judge.follow.Goals as goal

pub returns : goal.returns
returns c = λ level past judged may.
    let then = c.in_ok-follow_strict.ensures in
    let new : Judge = record {
      level = c.follow_strict.new.self.level;
      checker = c.follow.new.self;
      streams = c.follow-2.new.self;
      strict = c.follow_strict.new.self.strict;
    } in
    followed_all level past c.args.line.now c.args.self.now new judged may c.follow_strict.ensures.level
    (λ after rules. c.in_ok-follow.ensures past
    (subst (λ (kept : Checker). IsAfter past kept) (sym c.follow_strict.ensures.checker) after) rules)
    (λ on streams. c.in_ok-follow-2.ensures level past c.args.line.now.thread on judged.legal may.rules
    (subst (λ (kept : Streams). AreStreams past kept) (sym c.follow_strict.ensures.streams) streams))
    (λ strict. then.followed level past judged may strict)
