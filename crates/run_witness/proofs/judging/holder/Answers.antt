use Rattle.std.proofs.Common.{refl, sym, ◌∙◌}
use Rattle.run_witness.proofs.JudgingLemmas.{is_held}
use Rattle.run_witness.proofs.WitnessLemmas.{held_keeps, not_claimed, not_put}
use Rattle.run_witness.proofs.judging.holder.Goals as goal

pub returns-in-Some-Some : goal.returns-in-Some-Some
returns-in-Some-Some c = λ apart run steps are kept thread.
    let claims = (c.in-Some-Some.ensures c.in-Some-Some.claim).0 refl in
    let keeper = c.keeper.ensures thread in (
      λ is. is_held run c.args.facts.now steps c.args.placing.now c.args.place c.args.thing thread c.in-Some-Some.field-0-1
          c.in-Some-Some.claim are kept claims (sym c.position.ensures ∙ c.in-Some-Some.is-1) (keeper.0 is).0
          (keeper.0 is).1,
      λ held. keeper.1 (held_keeps run c.args.facts.now steps c.args.placing.now c.args.place c.args.thing thread
          c.in-Some-Some.claim
          are kept claims.there held),
    )

pub returns-in_default : goal.returns-in_default
returns-in_default c = λ apart run steps are kept thread.
    not_put run steps c.args.placing.now c.args.place c.args.thing kept (sym c.position.ensures ∙ c.in_default.is-1) thread

pub returns-in_default-2 : goal.returns-in_default-2
returns-in_default-2 c = λ apart run steps are kept thread.
    not_claimed run c.args.facts.now steps c.args.place c.args.thing c.claim_at.result are c.claim_at.ensures
    c.in_default.is-0 thread
