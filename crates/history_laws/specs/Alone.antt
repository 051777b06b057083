-- No two handlers of a strand run at a time (Asio reference, Overview, "Strands: Use Threads Without
-- Explicit Locking": a strictly sequential invocation of event handlers; asio::dispatch may call
-- the handler inside its call).
use Rattle.std.specs.Prelude.{◌≡◌, ℕ, List, Some}
use Rattle.asio_types.specs.declared.code.Class.{Class}
use Rattle.asio_types.specs.declared.code.Code.{Code}
use Rattle.asio_types.specs.declared.event.Event.{Event}
use Rattle.asio_types.specs.declared.event.Event.TheVariants as event
use Rattle.session_script.specs.Lanes.{lane_of}
use Rattle.session_script.specs.Script.{ScriptModel, parent_of}
use Rattle.history_laws.specs.Events.{IsOpenAt, RunsAt, StandsAt}

-- at this place its call is open, and a handler of its strand makes it, which runs there
pub record IsCalledByRunning (script : ScriptModel) (events : List Event) (place n : ℕ) : Type 0
  where
    pub caller : ℕ
    pub class : Class
    pub makes : parent_of script n ≡ Some (caller, class)
    pub strand : lane_of script caller ≡ lane_of script n
    pub runs : RunsAt events place caller
    pub inside : IsOpenAt events place n

-- While a handler runs no other of its strand begins, save one whose call is open and is made by
-- one that runs on that strand.
abbrev pub StrandsRunOneAtATime : ScriptModel → List Event → Type 0
StrandsRunOneAtATime script events =
    (n other place : ℕ) (given : Code) (size : ℕ) → RunsAt events place n →
    lane_of script n ≡ lane_of script other →
    StandsAt events place (event.Begin other given size) →
    IsCalledByRunning script events place other
