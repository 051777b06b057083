-- What every legal history keeps, in the words of Asio's reference.
use Rattle.std.specs.Prelude.{◌≡◌, Bool, true, List}
use Rattle.asio_types.specs.declared.event.Event.{Event}
use Rattle.session_script.specs.Script.{ScriptModel}
use Rattle.session_script.specs.WellFormed.{IsWellFormed}
use Rattle.history_rules.specs.Legal.{IsLegal}
use Rattle.history_laws.specs.AfterCompletion.{HandlersFollowCompletion}
use Rattle.history_laws.specs.AfterStop.{StopsAreHeeded}
use Rattle.history_laws.specs.Alone.{StrandsRunOneAtATime}
use Rattle.history_laws.specs.Cancelled.{CancellationIsHeeded}
use Rattle.history_laws.specs.InOrder.{PostingsKeepTheirOrder}
use Rattle.history_laws.specs.Length.{HistoriesAreShort}
use Rattle.history_laws.specs.Once.{HandlersRunOnce}
use Rattle.history_laws.specs.Rounds.{RoundsCloseOnce}
use Rattle.history_laws.specs.Streams.{StreamsKeepTheirBytes}
use Rattle.history_laws.specs.Timers.{TimersKeepTime}

-- told says whether the reactor tells its bytes
pub record KeepsPromise (script : ScriptModel) (told : Bool) (events : List Event) : Type 0 where
  -- each handler is called once, or destroyed once
  pub once : HandlersRunOnce script events
  -- a handler runs with what its operation gave, and never before
  pub after_completion : HandlersFollowCompletion script events
  -- no two handlers of a strand run at a time
  pub alone : StrandsRunOneAtATime script events
  -- postings to a strand run in the order in which they were made
  pub in_order : PostingsKeepTheirOrder script events
  -- after a stop each lane begins at most one thing more until the restart
  pub after_stop : StopsAreHeeded script events
  -- each round closes once unless the reactor fails, and behind the last nothing begins
  pub closes_once : RoundsCloseOnce script events
  -- what is cancelled is aborted, and nothing else is
  pub cancelled : CancellationIsHeeded script events
  -- no wait completes early, and time moves only where all is at rest
  pub timers : TimersKeepTime script events
  -- where bytes are told, reads took no more than was fed, and writes had room
  pub streams : told ≡ true → StreamsKeepTheirBytes script events
  -- no history is longer than its script allows
  pub length : HistoriesAreShort script events

-- it holds of each legal history of a script, whether bytes are told or not
abbrev pub HoldsOfLegalHistories : (ScriptModel → List Event → Type 0) → Type 0
HoldsOfLegalHistories law =
    (script : ScriptModel) (told : Bool) (events : List Event) → IsWellFormed script →
    IsLegal script told events → law script events

-- it holds of each one in which bytes are told
abbrev pub HoldsOfToldHistories : (ScriptModel → List Event → Type 0) → Type 0
HoldsOfToldHistories law =
    (script : ScriptModel) (events : List Event) → IsWellFormed script →
    IsLegal script true events → law script events

-- all of this holds of each legal history
abbrev pub LegalHistoriesKeepPromise : Type 0
LegalHistoriesKeepPromise =
    (script : ScriptModel) (told : Bool) (events : List Event) → IsWellFormed script →
    IsLegal script told events → KeepsPromise script told events
