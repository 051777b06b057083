use Rattle.std.proofs.Common.{sym, ◌∙◌}
use Rattle.run_verdict.proofs.StreamLemmas.{pending_found, pending_is}
use Rattle.run_verdict.proofs.judge.Judge.pending.Goals as goal

pub returns : goal.returns
returns c = λ level past judged on op. (
  λ found. pending_is past c.args.self.now.streams c.args.word.now c.args.thing op (judged.streams on)
      (sym c.pending.ensures ∙ found),
  λ found. c.pending.ensures
      ∙ pending_found past c.args.self.now.streams c.args.word.now c.args.thing op (judged.streams on) found,
)
