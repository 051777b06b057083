use Rattle.std.proofs.Common.{refl, sym, ◌∙◌}
use Rattle.strand_core.proofs.HandLemmas.{taken_none}
use Rattle.strand_core.proofs.RunLemmas.{executed, same_held}
use Rattle.strand_core.proofs.execution.execute.Goals as goal

pub returns-in-None-clause-same_hands : goal.returns-in-None-clause-same_hands
returns-in-None-clause-same_hands g c =
    same_held _ _ c.take.ensures.script
    (c.take.ensures.after ∙ taken_none c.args.hands.now.handlers c.args.op (sym c.in-None.ensures.taken))

pub returns-in-Some-clause-executed : goal.returns-in-Some-clause-executed
returns-in-Some-clause-executed g c =
    executed g.H.CompletionHandler.marks c.args.op c.args.code c.args.size c.run.result c.in-Some.handler c.args.hands.now c.take.new.self
    c.run.new.hands (g.P.Poster.made c.args.poster.now) (g.P.Poster.made c.run.new.poster)
    (g.P.Poster.takes c.args.poster.now) (g.P.Poster.takes c.run.new.poster)
    (sym c.in-Some.ensures.taken) c.take.ensures.after c.take.ensures.script c.run.ensures.ran

pub returns-in-Some-clause-script : goal.returns-in-Some-clause-script
returns-in-Some-clause-script g c = c.run.ensures.ran.did.script ∙ c.take.ensures.script
