-- What holds of each state of a legal history without drops: the next event keeps it.
use Rattle.std.proofs.Common.{◌<◌, Bool, ◌∙◌}
use Rattle.asio_types.specs.Faults.{most_faults}
use Rattle.asio_types.specs.declared.event.Event.{Event}
use Rattle.session_script.specs.Script.{ScriptModel}
use Rattle.session_script.specs.WellFormed.{IsWellFormed}
use Rattle.history_rules.specs.Legal.{MayHappen, after_event}
use Rattle.history_rules.specs.State.{State}
use Rattle.history_merge.proofs.AskLemmas.{IsNoDrop, asking_kept, takes_kept}
use Rattle.history_merge.proofs.BalanceLemmas.{balance_kept, half_kept, worked}
use Rattle.history_merge.proofs.EventOrderLemmas.{in_order}
use Rattle.history_merge.proofs.GuardLemmas.{length-guards}
use Rattle.history_merge.proofs.KindLemmas.{kinds_kept}
use Rattle.history_merge.proofs.OpensLemmas.{opens_kept}
use Rattle.history_merge.proofs.OrderlyLemmas.{IsExpected}
use Rattle.history_merge.proofs.ReadyLemmas.{posted_kept}
use Rattle.history_merge.proofs.SoLemmas.{IsSoundState}

pub sound_next : (script : ScriptModel) → IsWellFormed script → (told : Bool) (s : State) → s.context.events < most_faults →
    IsSoundState script s → (shown : Event) → MayHappen script told s shown → IsExpected s.context shown →
    IsNoDrop shown → IsSoundState script (after_event script told s shown)
sound_next script well told s room is shown may expected alive = record {
  order = in_order script well told s is.order room shown may expected;
  kinds = kinds_kept script told s shown may expected is.kinds;
  posted = posted_kept script s.context shown expected is.posted;
  opens = opens_kept script well told s is.order.size is.opens shown may;
  untaken = takes_kept script well told s is.order is.half shown may is.untaken;
  asking = asking_kept script well told s is.order is.half is.asking shown may expected alive;
  half = half_kept script well told s is.order is.kinds is.half shown may;
  guards = length-guards script told s.reactor shown ∙ is.guards;
  balanced = λ works.
      balance_kept script well told s is.order is.kinds is.half
      (is.balanced (worked script well told s is.order is.kinds is.half shown may works)) shown may expected alive
      is.untaken works;
}
