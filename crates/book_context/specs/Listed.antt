-- What a context keeps of the acts that were called.
use Rattle.std.specs.Prelude.{ℕ, ◌-◌, Bool, List, ◌++◌, length}
use Rattle.asio_types.specs.declared.code.Code.{Code}
use Rattle.asio_types.specs.declared.event.Event.{Event}
use Rattle.session_script.specs.Script.{ScriptModel}
use Rattle.history_book.specs.History.{Recorded}
use Rattle.strand_core.specs.declared.posted.Posted.{Posted}
use Rattle.execution_laws.specs.Order.{postings_of, requests_of}
use Rattle.book_context.specs.Recording.{marked}

pub record Listed : Type 0 where
  -- the ready operations and the untaken requests, both oldest first, each with room for so many
  pub ready : List (ℕ × Code × ℕ)
  pub requests : List ℕ
  pub room : ℕ
  -- for each act whether it was called
  pub called : List Bool

-- these calls were made
abbrev pub with_listed : ScriptModel → List Posted → Listed → Listed
with_listed script calls l = record l {
  ready = l.ready ++ postings_of script calls;
  requests = l.requests ++ requests_of script calls;
  called = marked calls l.called;
}

-- these events were recorded
abbrev pub with_events : List Event → Recorded → Recorded
with_events events h = record { events = h.events ++ events; spare = h.spare - length events }
