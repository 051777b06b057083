use Rattle.std.proofs.Common.{⊎_elim, subst}
use Rattle.run_forced.specs.declared.turns.Ended.{Ended}
use Rattle.run_forced.specs.Turns.{HasEnded}
use Rattle.run_forced.proofs.TurnLemmas.{turns_put}
use Rattle.run_forced.proofs.turns.Turns.put.Goals as goal

pub returns : goal.returns
returns c = λ run have here.
    turns_put run c.args.strand c.take-list.new.self (record { by_strand = c.insert.new.self }) c.keep.new.list
    c.in_ok-insert.ensures.updates.0 (c.take-list.ensures.rest run have) (λ ended contains.
    ⊎_elim (λ was. c.take-list.ensures.taken run have ended was)
    (λ same. subst (λ (e : Ended). HasEnded run c.args.strand e) same here) (c.in_ok-gone.ensures ended contains))
