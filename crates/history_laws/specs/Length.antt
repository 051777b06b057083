-- How long a history may be (this project's own bound, by the limits of a script).
use Rattle.std.specs.Prelude.{◌≤◌, ◌+◌, ◌*◌, List, length, count_by, not}
use Rattle.asio_types.specs.declared.event.Event.{Event}
use Rattle.session_script.specs.Script.{ScriptModel}
use Rattle.history_rules.specs.FromOutside.{is_outside_stop}

-- Stops from outside aside, a history has at most seven events for each act and 1,154 more.
abbrev pub HistoriesAreShort : ScriptModel → List Event → Type 0
HistoriesAreShort script events =
    count_by (λ event. not (is_outside_stop event)) events ≤ 7 * length script.acts + 1154
