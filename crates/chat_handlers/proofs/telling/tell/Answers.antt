use Rattle.std.proofs.Common.{◌∙◌, arith, refl}
use Rattle.chat_handlers.proofs.TellingLemmas.{told_to_all, told_to_next, told_to_none}
use Rattle.chat_handlers.proofs.telling.tell.Goals as goal

pub loop-init : goal.loop-init
loop-init c = record { told = told_to_none _ _ _ _; few = omega arith; grant = refl; kept = refl }

pub loop-preserved : goal.loop-preserved
loop-preserved c = record {
  told = told_to_next _ _ _ _ _ c.args.members.now.items c.loop.members.items _ c.loop.counter c.loop.refused
      c.tell_first-refused.result _ (omega (arith, c.args.members.now.ok)) c.loop.invariant.told c.tell_first-refused.ensures.tells refl;
  few = omega (arith, c.loop.invariant.few, c.tell_first-refused.ensures.one);
  grant = c.tell_first-refused.ensures.grant ∙ c.loop.invariant.grant;
  kept = c.tell_first-refused.ensures.kept ∙ c.loop.invariant.kept;
}

pub returns-clause-told : goal.returns-clause-told
returns-clause-told c =
    told_to_all _ _ _ _ c.args.members.now.items _ c.loop.counter c.loop.refused (omega (arith, c.args.members.now.ok)) c.loop.invariant.told
