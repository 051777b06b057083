use Rattle.std.proofs.Common.{◌+◌, ℕ, ap, ◌∙◌}
use Rattle.std.specs.Prelude.{◌==◌, ◌||◌, if◌then◌else◌, Option, Some, nat_eq}
use Rattle.std.specs.HashMap.{get}
use Rattle.run_check.specs.Judging.{is_number}
use Rattle.run_check.specs.declared.waiting.Waiter.{Waiter}
use Rattle.run_witness.specs.Executions.{idle_strand, is_lent, is_work, work_of, works_in}
use Rattle.run_witness.specs.declared.executions.Executions.{Executions}
use Rattle.run_witness.specs.declared.facts.Survey.{Survey}
use Rattle.run_witness.proofs.FactsLemmas.{call_next, survey_next}
use Rattle.run_witness.proofs.facts.Survey.see.Goals as goal

pub returns-clause-seen : goal.returns-clause-seen
returns-clause-seen c = λ past was.
    let line = c.args.line.now in
    let old = c.args.self.now in
    let new : Survey = record {
      checker = c.step.new.self;
      roots = c.note_begun.new.table;
      calls = c.put.new.table;
      facts = c.note-2.new.self;
    } in
    let alone = c.root-alone.ensures c.args.thing past was in
    let before = c.fact-before.ensures c.args.apart.now past was.after alone in
    let stepped = c.in_ok-step.ensures past was.after in
    let place = c.lines-place.ensures past was.after in
    let fact = c.fact_behind-fact.ensures c.args.apart.now past stepped.1 before in
    let known = c.in_ok-note-2.ensures.executions ∙ c.in_ok-count.ensures.executions in
    survey_next c.args.thing past line old new was
    (record {
      may = stepped.0;
      after = stepped.1;
      root_of = c.root-alone.result;
      root_is = alone;
      roots = c.in_ok-note_begun.ensures;
      calls = λ thread. call_next line.thread thread c.called_by.result (get nat_eq old.calls thread)
          (get nat_eq c.put.new.table thread)
          (c.in_ok-put.ensures thread) c.called_by.ensures;
      counted = c.in_ok-note-2.ensures.counted ∙ c.in_ok-count.ensures.counted ∙ ap (λ (n : ℕ). n + 1) place;
      lines = λ at. c.in_ok-note-2.ensures.lines at
          ∙ (λ i. if place i == at then Some (fact i) else get nat_eq (c.in_ok-count.ensures.lines i) at);
      workers = λ thread context. (λ i. works_in (known i).workers thread context)
          ∙ c.in_ok-note.ensures.workers thread context
          ∙ ap (λ (w : Option Waiter). is_work line.thread
          (work_of line.does w) thread context || works_in old.facts.executions.workers thread context)
          before.begun;
      lent = c.lent_by-lent.result;
      lent_is = c.lent_by-lent.ensures past was.after before.begun stepped.0;
      lents = λ op. (λ i. is_lent (known i) op) ∙ c.in_ok-note.ensures.lent op;
      idle = c.idle_by-idle.result;
      idle_is = c.idle_by-idle.ensures past was.after before.begun (c.call-call.ensures ∙ was.calls line.thread) stepped.0;
      idles = λ op. (λ i. idle_strand (known i) op) ∙ c.in_ok-note.ensures.idle op;
    })
