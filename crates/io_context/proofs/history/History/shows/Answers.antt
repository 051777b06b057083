use Rattle.std.proofs.Common.{subst, sym}
use Rattle.io_rules.specs.Legal.{IsLegal, IsWhole, state_of}
use Rattle.io_context.proofs.LawLemmas.{is_over_once}
use Rattle.io_context.proofs.history.History.shows.Goals as goal

pub returns-clause-over : goal.returns-clause-over
returns-clause-over g c =
    let same = sym c.meet.ensures.same in
    is_over_once c.each_handler_is_called_once.ensures.called c.each_handler_is_called_once.ensures.all
    g.C.Named.limits c.meet.new.self.past c.args.receipt.section.after c.args.receipt.op
    (subst (λ k. IsLegal g.C.Named.limits k.past) same c.self.invariant.2)
    (subst (λ k. IsWhole (state_of g.C.Named.limits k.past)) same c.self.invariant.3) c.meet.ensures.told
    c.args.receipt.called
