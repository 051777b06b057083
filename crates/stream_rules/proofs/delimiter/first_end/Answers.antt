use Rattle.std.proofs.Common.{◌≡◌, ◌-◌, length, take, drop, sym, ◌∙◌, arith}
use Rattle.std.proofs.lemmas.List.{length-drop, take_all}
use Rattle.stream_rules.proofs.DelimiterLemmas.{first_end-seen, first_end-next, first_end-here}
use Rattle.stream_rules.proofs.delimiter.first_end.Goals as goal
use Rattle.stream_rules.proofs.delimiter.first_end.Goals.{After-starts_with}

-- the slice from a place on is what follows there
from-place : (c : After-starts_with) →
    take (length c.args.bytes.now - c.loop-start.start) (drop c.loop-start.start c.args.bytes.now)
    ≡ drop c.loop-start.start c.args.bytes.now
from-place c =
    take_all (length c.args.bytes.now - c.loop-start.start) (drop c.loop-start.start c.args.bytes.now)
    (omega (arith, length-drop c.loop-start.start c.args.bytes.now))

pub loop-start-init : goal.loop-start-init
loop-start-init c =
    rw c.saturating_sub-start.ensures (first_end-seen c.args.delimiter.now c.args.bytes.now c.args.seen c.requires)

pub loop-start-preserved : goal.loop-start-preserved
loop-start-preserved c =
    let stands = rw (from-place (goal.at.loop-start-preserved c).After-starts_with) at c.starts_with.ensures.value in
    first_end-next c.args.delimiter.now c.args.bytes.now c.loop-start.start c.loop-start-test.true
    (sym c.if-starts_with.false ∙ stands) c.loop-start.invariant

pub returns-then-starts_with-clause-found : goal.returns-then-starts_with-clause-found
returns-then-starts_with-clause-found c =
    let stands =
    rw (from-place (goal.at.returns-then-starts_with-clause-found c).After-starts_with) at c.starts_with.ensures.value in
    sym (first_end-here c.args.delimiter.now c.args.bytes.now c.loop-start.start c.loop-start-test.true
    (sym c.if-starts_with.true ∙ stands) c.loop-start.invariant)
