use Rattle.io_context.proofs.InvokedLemmas.{is_handler}
use Rattle.io_context.proofs.invocation.take_handler.Goals as goal

pub to_invoke-requires : goal.to_invoke-requires
to_invoke-requires g c =
    is_handler g.H.Handler.marks _ c.begin.new.self c.in-Some.begun.running
    c.in-Some.begun.handler c.in-Some.begun.done c.in-Some.begun.state c.in-Some.ensures.begun
