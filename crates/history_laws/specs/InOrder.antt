-- Postings to a strand run in the order in which they were made (Asio reference,
-- io_context::strand, "Order of handler invocation").
use Rattle.std.specs.Prelude.{◌≡◌, ◌<◌, ℕ, false, List, take}
use Rattle.asio_types.specs.declared.code.Code.{Code}
use Rattle.asio_types.specs.declared.event.Event.{Event}
use Rattle.asio_types.specs.declared.event.Event.TheVariants as event
use Rattle.session_script.specs.Lanes.{is_inline, lane_of}
use Rattle.session_script.specs.Script.{ScriptModel}
use Rattle.history_laws.specs.AfterCompletion.{IsPosting}
use Rattle.history_laws.specs.Events.{StandsAt, begins_of}

-- Of two postings to one strand, where the call of the first is back before that of the second is
-- made, the first has begun when the second begins; a dispatch that executes inside its call goes
-- before all others.
abbrev pub PostingsKeepTheirOrder : ScriptModel → List Event → Type 0
PostingsKeepTheirOrder script events =
    (first second back called place : ℕ) (given : Code) (size : ℕ) → IsPosting script first →
    IsPosting script second → is_inline script second ≡ false →
    lane_of script first ≡ lane_of script second → StandsAt events back (event.Back first) →
    StandsAt events called (event.Call second) → back < called →
    StandsAt events place (event.Begin second given size) →
    begins_of first (take place events) ≡ 1
