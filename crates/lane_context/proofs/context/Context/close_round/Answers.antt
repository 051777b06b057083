use Rattle.std.proofs.Common.{◌≡◌, ap, length, subst, sym, ◌∙◌}
use Rattle.lane_turns.specs.AllWorkers.{KnowTheRound, NoneFaulted, WorkersView, clock_seat}
use Rattle.lane_turns.specs.KeptSteps.{AllRemember}
use Rattle.lane_context.specs.RoundEnds.{OtherLastsStay}
use Rattle.lane_turns.proofs.AllWorkersLemmas.{all_written}
use Rattle.lane_context.proofs.context.Context.close_round.Goals as goal

pub returns-clause-faultless : goal.returns-clause-faultless
returns-clause-faultless g c works =
    subst NoneFaulted
    (sym (all_written c.workers.inside.all.len c.workers.inside.all.items c.end_round.new.workers
    (c.end_round.auto.workers ∙ ap length c.as_mut_slice.ensures.value)
    (sym c.as_mut_slice.ensures.len ∙ ap length c.as_mut_slice.ensures.value)))
    (c.end_round.ensures.faultless works)

pub returns-clause-others : goal.returns-clause-others
returns-clause-others g c =
    subst (λ ws. OtherLastsStay c.args.workers.now.all ws)
    (sym (all_written c.workers.inside.all.len c.workers.inside.all.items c.end_round.new.workers
    (c.end_round.auto.workers ∙ ap length c.as_mut_slice.ensures.value)
    (sym c.as_mut_slice.ensures.len ∙ ap length c.as_mut_slice.ensures.value)))
    (subst (λ ws. OtherLastsStay ws c.end_round.new.workers)
    (c.as_mut_slice.ensures.value
    ∙ ap (λ (w : WorkersView g.row.H.Denot g.row.X.Denot). w.all) c.workers.view_is) c.end_round.ensures.others)

pub returns-clause-rounds : goal.returns-clause-rounds
returns-clause-rounds g c =
    subst (λ ws. KnowTheRound g.N.LaneSession.names.script c.end_round.new.opener.stand ws)
    (sym (all_written c.workers.inside.all.len c.workers.inside.all.items c.end_round.new.workers
    (c.end_round.auto.workers ∙ ap length c.as_mut_slice.ensures.value)
    (sym c.as_mut_slice.ensures.len ∙ ap length c.as_mut_slice.ensures.value)))
    c.end_round.ensures.rounds

pub returns-clause-remember : goal.returns-clause-remember
returns-clause-remember g c =
    subst (λ ws. AllRemember clock_seat c.args.workers.now.all ws)
    (sym (all_written c.workers.inside.all.len c.workers.inside.all.items c.end_round.new.workers
    (c.end_round.auto.workers ∙ ap length c.as_mut_slice.ensures.value)
    (sym c.as_mut_slice.ensures.len ∙ ap length c.as_mut_slice.ensures.value)))
    (subst (λ ws. AllRemember clock_seat ws c.end_round.new.workers)
    (c.as_mut_slice.ensures.value
    ∙ ap (λ (w : WorkersView g.row.H.Denot g.row.X.Denot). w.all) c.workers.view_is) c.end_round.ensures.remember)
