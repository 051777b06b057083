-- The reactor's half of a history's state by the entries of the reactor's log alone, since its
-- events are all in that log (Asio reference, Overview, "The Proactor Design Pattern").
use Rattle.std.specs.Prelude.{ℕ, Bool, List, [], ◌∷◌, count_by}
use Rattle.session_script.specs.Script.{ScriptModel}
use Rattle.history_rules.specs.Legal.{reactor_after}
use Rattle.history_rules.specs.Rounds.{is_held}
use Rattle.history_rules.specs.State.{ReactorHalf, first_reactor}
use Rattle.lane_logs.specs.declared.log.LogEntry.{LogEntry}

abbrev pub half_from : ScriptModel → Bool → ReactorHalf → List LogEntry → ReactorHalf
half_from script told half [] = half
half_from script told half (entry ∷ entries) =
    half_from script told (reactor_after script told half entry.event) entries

abbrev pub half_of : ScriptModel → Bool → List LogEntry → ReactorHalf
half_of script told entries = half_from script told (first_reactor script told) entries

-- how many guards hold the context
abbrev pub held_guards : ReactorHalf → ℕ
held_guards half = count_by is_held half.guards
