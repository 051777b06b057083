use Rattle.run_forced.proofs.past.Past.clock_of.Goals as goal

pub returns : goal.returns
returns c = λ run place followed here.
    c.in_ok-add_turns.ensures run place followed here
    (c.in_ok-add_marks.ensures run place followed here
    (c.in_ok-add_done.ensures run place followed here
    (c.in_ok-add_call.ensures run place followed here
    (c.in_ok-add_own.ensures run place followed here (λ seen named. absurd (c.new-clock.ensures seen named))))))
