-- What happens outside of all handlers.
use Rattle.std.specs.Prelude.{◌≡◌, None}
use Rattle.io_rules.specs.declared.event.Event.{Event}
use Rattle.io_history.specs.Steps.{IsBegin, actor}

-- no handler does it, and none begins
pub record IsOutside (e : Event) : Type 0 where
  pub nobody : actor e ≡ None
  pub no_begin : IsBegin e → ⊥
