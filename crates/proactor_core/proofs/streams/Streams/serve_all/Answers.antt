use Rattle.std.proofs.Common.{◌<◌, length, refl, sym, ap, subst, arith, ◌∙◌}
use Rattle.std.specs.Bool.{IsTrue}
use Rattle.reactor_trait.specs.Reactor.{ReactorState}
use Rattle.proactor_core.specs.Streams.{none_served, one_served, queues_in, IsServedAt}
use Rattle.proactor_core.specs.Untold.{AreUnderWay}
use Rattle.proactor_core.proofs.ServedLemmas.{served-each}
use Rattle.proactor_core.proofs.ServingLemmas.{count-served, pending-at, servable-at, servable-served, spare-served}
use Rattle.proactor_core.proofs.streams.Streams.serve_all.Goals as goal

pub loop-stream-init : goal.loop-stream-init
loop-stream-init g c =
    let all = ap length c.self.view_is in
    record {
      ends = omega (arith, c.len-stream-end.ensures, all, c.self.inside.streams.ok.0);
      count = refl;
      keeps = refl;
      faults = refl;
      telling = refl;
      servable = c.requires.servable;
      spare = c.requires.spare;
      under_way = λ n below. absurd (omega arith);
      served = none_served;
    }

pub loop-stream-preserved : goal.loop-stream-preserved
loop-stream-preserved g c =
    let before = c.loop-stream.invariant in
    let once = c.in_ok-serve.ensures in
    let number = c.loop-stream.stream in
    let old = c.loop-stream.self in
    let new = c.serve.new.self in
    let told = g.X.Reactor.told c.loop-stream.reactor in
    let left = g.X.Reactor.told c.serve.new.reactor in
    let due = c.loop-stream.due in
    let later = c.serve.new.due in
    let within : number < length old = omega (arith, c.loop-stream-test.true, before.ends, before.count) in
    let last = (g.X.Reactor.state c.args.reactor.now).last in
    let ended = ap (λ (s : ReactorState). s.last) before.keeps in
    let over = λ (h : IsTrue last). subst IsTrue (sym ended) h in
    let step : IsServedAt last number old new told left due later = record {
      others = once.others;
      changes = once.told;
      gives = once.gives;
      served = once.served;
      reads_after_last = λ h. once.reads_after_last (over h);
      writes_after_last = λ h. once.writes_after_last (over h);
    } in
    record {
      ends = before.ends;
      count = count-served last number old new told left due later step ∙ before.count;
      keeps = once.keeps ∙ before.keeps;
      faults = once.counts ∙ before.faults;
      telling = once.tells ∙ before.telling;
      servable =
          servable-served last number old new (g.X.Reactor.state c.loop-stream.reactor)
          (g.X.Reactor.state c.serve.new.reactor) told left due later once.keeps before.servable step;
      spare = spare-served last number old new told left due later within before.spare step;
      under_way =
          served-each (λ view. AreUnderWay (queues_in view)) last number old new told left due later within step
          once.under_way before.under_way;
      served = one_served before.served step;
    }

pub serve-requires : goal.serve-requires
serve-requires g c =
    let before = c.loop-stream.invariant in
    let number = c.loop-stream.stream in
    let old = c.loop-stream.self in
    let within : number < length old = omega (arith, c.loop-stream-test.true, before.ends, before.count) in
    record {
      known = within;
      servable = λ opened.
          servable-at old (g.X.Reactor.state c.loop-stream.reactor) (g.X.Reactor.told c.loop-stream.reactor) number
          within before.servable opened;
      spare = omega (arith, pending-at old number within, before.spare);
    }
