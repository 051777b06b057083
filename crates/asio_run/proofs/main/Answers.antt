use Rattle.std.proofs.Common.{◌≡◌, ℕ, ◌+◌, ◌∙◌, ap, sym, refl, arith, length}
use Rattle.op_handlers.specs.Handler.{marks_of}
use Rattle.op_handlers.specs.Marks.{FixedMarks, Marks, fixed}
use Rattle.op_handlers.proofs.BoxedLemmas.{AnswersBy-boxed}
use Rattle.op_handlers.proofs.RackedLemmas.{HaveMarks-push, All-HaveMarks}
use Rattle.asio_run.proofs.main.OwnLists.{own-1, entry-1-1, at-1-1, same-1-1}
use Rattle.asio_run.proofs.main.Goals as goal
use Rattle.asio_run.proofs.main.Goals.{After-into_dyn_box}

-- the marks of number n
abbrev numbers : ℕ → FixedMarks
numbers n = record { run = 1000 + n; drop = 1000 + n }

abbrev named : ℕ → Marks
named n = fixed (numbers n)

pub of-handler-requires : goal.of-handler-requires
of-handler-requires g c =
    let job = c.in-Ok-boxed.job.value in (
      record { run = job.0; drop = job.0 },
      AnswersBy-boxed own-1 entry-1-1 at-1-1 same-1-1 _ c.into_dyn_box.ensures.1 (λ s. tt) (λ s r p. p.2)
          (λ s. (job, s, refl)),
    )

pub loop-n-preserved : goal.loop-n-preserved
unfolding of-handler-requires
loop-n-preserved g c =
    let known = of-handler-requires g (goal.at.loop-n-preserved g c).After-into_dyn_box in
    let marked : marks_of c.of-handler.result ≡ fixed known.0 = c.of-handler.ensures known.0 known.1 in
    let mark : c.in-Ok-boxed.job.value.0 ≡ 1000 + c.loop-n.n = ap (λ job. job.0) c.in-Ok-boxed.ensures.ok in
    let as_named : marks_of c.of-handler.result ≡ named (length c.loop-n.handlers.items) =
    marked ∙ (λ i. fixed (record { run = mark i; drop = mark i })) ∙ ap named (sym c.loop-n.invariant.count) in
    record {
      room = omega arith;
      count = omega arith;
      marks =
          rw c.push_reserved.ensures.items
          (HaveMarks-push marks_of named c.loop-n.handlers.items c.of-handler.result c.loop-n.invariant.marks
          as_named);
    }

pub session-requires-clause-whole : goal.session-requires-clause-whole
session-requires-clause-whole g c κs =
    rw c.of-rack.ensures (All-HaveMarks marks_of named c.loop-n.handlers.items c.loop-n.invariant.marks)
