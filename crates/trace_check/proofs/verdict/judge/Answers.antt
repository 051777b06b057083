use Rattle.std.proofs.Common.{◌≡◌, ◌+◌, ◌-◌, ap, arith, get_or, refl, sym, take, ◌∙◌}
use Rattle.asio_types.specs.declared.event.Event.TheVariants as event
use Rattle.history_rules.specs.Legal.{state_of}
use Rattle.trace_check.proofs.VerdictLemmas.{after_here, illegal_at, legal_more, may_here, state_more}
use Rattle.trace_check.proofs.verdict.judge.Goals as goal

pub returns-then-not-step-clause-verdict : goal.returns-then-not-step-clause-verdict
returns-then-not-step-clause-verdict c =
    let script = c.args.replay.now.script in
    let told = c.args.replay.now.told in
    let events = c.args.events.now in
    let here =
    may_here c.loop-i.replay.script script c.loop-i.replay.told told c.loop-i.replay.state
    (state_of script told (take c.loop-i.i events)) (get_or events c.loop-i.i (event.Call 0))
    c.loop-i.invariant.script c.loop-i.invariant.told c.loop-i.invariant.state in
    illegal_at script told events c.loop-i.i (event.Call 0) (omega arith) c.loop-i.invariant.legal
    (λ may. cc (c.if-not-step.ensures.legal.1 (here.1 may)))

pub returns-then-not-step-clause-state : goal.returns-then-not-step-clause-state
returns-then-not-step-clause-state c =
    let script = c.args.replay.now.script in
    let told = c.args.replay.now.told in
    let i = c.loop-i.i in
    let e : i ≡ i + 1 - 1 = omega arith in
    c.if-not-step.ensures.unchanged ∙ c.loop-i.invariant.state
    ∙ ap (λ n. state_of script told (take n c.args.events.now)) e

pub loop-i-preserved : goal.loop-i-preserved
loop-i-preserved c =
    let script = c.args.replay.now.script in
    let told = c.args.replay.now.told in
    let events = c.args.events.now in
    let now = state_of script told (take c.loop-i.i events) in
    let next = get_or events c.loop-i.i (event.Call 0) in
    let here =
    may_here c.loop-i.replay.script script c.loop-i.replay.told told c.loop-i.replay.state now next
    c.loop-i.invariant.script c.loop-i.invariant.told c.loop-i.invariant.state in
    record {
      script = c.if-not-step.ensures.script ∙ c.loop-i.invariant.script;
      told = c.if-not-step.ensures.told ∙ c.loop-i.invariant.told;
      state =
          c.if-not-step.ensures.next
          ∙ after_here c.loop-i.replay.script script c.loop-i.replay.told told c.loop-i.replay.state now next
          c.loop-i.invariant.script c.loop-i.invariant.told c.loop-i.invariant.state
          ∙ sym (state_more script told events c.loop-i.i (event.Call 0) (omega arith));
      legal =
          legal_more script told events c.loop-i.i (event.Call 0) (omega arith) c.loop-i.invariant.legal
          (here.0 (c.if-not-step.ensures.legal.0 refl));
    }
