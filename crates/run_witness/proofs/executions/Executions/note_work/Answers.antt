use Rattle.std.proofs.Common.{ap, sym, ◌∙◌}
use Rattle.std.specs.Prelude.{◌||◌, ℕ, Option}
use Rattle.run_witness.specs.Executions.{is_work, works_in}
use Rattle.run_witness.proofs.JudgingLemmas.{ok_more}
use Rattle.run_witness.proofs.executions.Executions.note_work.Goals as goal

pub returns-in-Some-clause-workers : goal.returns-in-Some-clause-workers
returns-in-Some-clause-workers c =
    ok_more c.put_work.result
    (λ _ is by to. is by to
    ∙ ap (λ (o : Option ℕ). is_work c.args.thread o by to || works_in c.args.self.now.workers by to)
    (sym c.in-Some.is)) c.put_work.ensures
