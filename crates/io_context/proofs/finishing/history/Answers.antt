use Rattle.std.proofs.Common.{subst, sym, ◌∙◌}
use Rattle.io_rules.specs.Legal.{IsWhole, state_of}
use Rattle.io_context.proofs.LawLemmas.{keeps_laws}
use Rattle.io_context.proofs.finishing.history.Goals as goal

pub returns-clause-laws : goal.returns-clause-laws
returns-clause-laws g c =
    let once = c.each_handler_is_called_once.ensures in
    keeps_laws once.called once.all once.never_both once.begun c.handlers_of_a_strand_are_alone.ensures
    c.handlers_of_a_strand_begin_in_order.ensures c.nothing_begins_while_stopped.ensures c.waits_complete_by_expiry.ensures g.C.Named.limits
    c.learn.new.self.past c.learn.ensures.legal
    (subst (λ k. IsWhole (state_of g.C.Named.limits k.past)) (sym (c.learn.ensures.same ∙ c.audit.ensures.same)) c.requires.whole)
