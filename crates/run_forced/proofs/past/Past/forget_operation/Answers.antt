use Rattle.run_forced.proofs.past.Past.forget_operation.Goals as goal

pub returns : goal.returns
returns c = λ run lines followed.
    let was = c.in_ok-let_go-2.ensures run lines (c.in_ok-let_go.ensures run lines followed) in
    record { known = was.known; sources = c.forget_call.ensures run lines was.sources; ended = was.ended }
