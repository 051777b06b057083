-- Invoking a handler.
use Rattle.std.specs.Prelude.{◌≡◌, Option, Some, None}
use Rattle.std.specs.Option.{is_some}
use Rattle.io_rules.specs.declared.request.Marks.{Marks}
use Rattle.io_handlers.specs.declared.completion.Completion.{Completion}
use Rattle.io_handlers.specs.Initiated.{Initiated}
use Rattle.io_scheduler.specs.Begun.{is_strand}
use Rattle.io_scheduler.specs.Ended.{mark_of}
use Rattle.io_scheduler.specs.Running.{Execution}

-- this handler is that of the operation, and its strand's state is there if it has a strand
pub record IsHandlerOf {H S : Type 0} (marks : H → Marks) (runs : Execution) (handler : H) (state : Option S) :
    Type 0 where
  pub returns : mark_of runs.held ≡ Some (marks handler).run
  pub with_state : is_some state ≡ is_strand runs.lane

-- what a handler may do with a strand's state, or without one
abbrev pub IsInvoked : {H S : Type 0} →
    (H → Completion → S → S → Initiated H S → Initiated H S → Type 0) →
    (H → Completion → Initiated H S → Initiated H S → Type 0) →
    H → Completion → Option S → Option S → Initiated H S → Initiated H S → Type 0
IsInvoked may may_free handler done (Some old) (Some new) before behind = may handler done old new before behind
IsInvoked may may_free handler done None None before behind = may_free handler done before behind
IsInvoked may may_free handler done (Some old) None before behind = ⊥
IsInvoked may may_free handler done None (Some new) before behind = ⊥
