-- A stopped context (Asio reference, io_context::stop, ::stopped, ::restart).
use Rattle.std.specs.Prelude.{◌≡◌, true, List, ◌∷◌, ◌++◌}
use Rattle.io_rules.specs.declared.event.Event.{Event}
use Rattle.io_rules.specs.declared.limits.Limits.{Limits}
use Rattle.io_rules.specs.History.{is_begin, is_restart, is_stop, times}
use Rattle.io_rules.specs.Legal.{IsLegal}

-- no handler begins between a stop and the next restart
abbrev pub NothingBeginsStopped : Type 0
NothingBeginsStopped =
    (limits : Limits) (since : List Event) (stop : Event) (past : List Event) →
    IsLegal limits (since ++ stop ∷ past) → is_stop stop ≡ true → times is_restart since ≡ 0 →
    times is_begin since ≡ 0
