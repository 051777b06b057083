-- A section that notes an event.
use Rattle.std.proofs.Common.{ap, sym, ◌∙◌}
use Rattle.std.specs.Prelude.{◌≡◌, List, ◌∷◌}
use Rattle.io_rules.specs.declared.event.Event.{Event}
use Rattle.io_rules.specs.declared.limits.Limits.{Limits}
use Rattle.io_rules.specs.Legal.{state_of}
use Rattle.io_scheduler.specs.Sections.{Notes}

pub notes_one : (limits : Limits) (e : Event) (before after past : List Event) → before ≡ past → after ≡ e ∷ past →
    Notes limits e before after (state_of limits past) (state_of limits (e ∷ past))
notes_one limits e before after past from to = record {
  one = to ∙ ap (λ p. e ∷ p) (sym from);
  from = ap (state_of limits) from;
  to = ap (state_of limits) to;
}
