-- The streams of a proactor: for each the bytes that are held and the operations that haven't
-- completed (Asio reference, basic_stream_socket).
use Rattle.std.specs.Prelude.{ℕ, ◌≡◌, ◌+◌, Bool, true, false, not, Option, List, [], ◌∷◌, ◌++◌, filter, length, map, sum_by, IfSome, IsTrue, if◌then◌else◌}
use Rattle.std.specs.List.{slice_index_or, slice_set}
use Rattle.std.specs.Option.{option_map}
use Rattle.reactor_trait.specs.Reactor.{Outside, ReactorState, outside_closed, state_closed}
use Rattle.stream_rules.specs.declared.queue.Completion.{Completion}
use Rattle.stream_rules.specs.Queue.{Pending}
use Rattle.stream_rules.specs.Serving.{Reading, Writing}
use Rattle.stream_rules.specs.Stream.{Stream}
use Rattle.history_rules.specs.Performing.{all_aborted, bad, is_of, new_pending}
use Rattle.history_rules.specs.Settling.{served_stream}
use Rattle.history_rules.specs.State.{StreamQueues}
use Rattle.history_rules.specs.Untold.{may_give_read, may_give_write}
use Rattle.proactor_core.specs.Due.{Due, listed}
use Rattle.proactor_core.specs.Pending.{GivesDue}
use Rattle.proactor_core.specs.Reactor.{whole_told, ChangesOne}

pub record StreamView : Type 0 where
  -- the bytes that were read and not consumed, and how many of them there may be
  pub held : List ℕ
  pub room : ℕ
  pub closed : Bool
  -- the operations in order of acceptance, and how many of them there may be
  pub reads : List (Pending Reading)
  pub writes : List (Pending Writing)
  pub reads_room : ℕ
  pub writes_room : ℕ

-- an open stream with room for so many held bytes, reads and writes
abbrev pub new_stream_view : ℕ → ℕ → ℕ → StreamView
new_stream_view room reads writes = record {
  held = [];
  room = room;
  closed = false;
  reads = [];
  writes = [];
  reads_room = reads;
  writes_room = writes;
}

-- the queues as a history sees them
abbrev pub queues_in : StreamView → StreamQueues
queues_in view = record { closed = view.closed; reads = view.reads; writes = view.writes }

abbrev pub pending_on : StreamView → ℕ
pending_on view = length view.reads + length view.writes

-- an operation that is accepted completes at once where the stream is closed
abbrev pub read_begun : ℕ → ℕ → Reading → StreamView → StreamView
read_begun op accepted reading view =
    if view.closed then view
    else record view { reads = view.reads ++ new_pending op accepted reading ∷ [] }

abbrev pub write_begun : ℕ → ℕ → Writing → StreamView → StreamView
write_begun op accepted writing view =
    if view.closed then view
    else record view { writes = view.writes ++ new_pending op accepted writing ∷ [] }

abbrev pub bad_if_closed : ℕ → StreamView → Due → Due
bad_if_closed op view due = if view.closed then listed (bad op ∷ []) due else due

-- one operation is cancelled, and reports the bytes that it moved so far
abbrev pub without_op : ℕ → StreamView → StreamView
without_op op view = record view {
  reads = filter (λ pending. not (is_of op pending)) view.reads;
  writes = filter (λ pending. not (is_of op pending)) view.writes;
}

abbrev pub aborts_of_op : ℕ → StreamView → List Completion
aborts_of_op op view =
    all_aborted (filter (is_of op) view.reads) ++ all_aborted (filter (is_of op) view.writes)

-- a closed stream holds nothing
abbrev pub closed_view : StreamView → StreamView
closed_view view = record view { closed = true; held = []; reads = []; writes = [] }

-- where bytes aren't told: the reads complete as they may, and then the writes
pub record StreamGives (before after : StreamView) (old new : Due) : Type 0 where
  pub between : Due
  pub reads : GivesDue may_give_read before.reads after.reads old between
  pub writes : GivesDue may_give_write before.writes after.writes between new

-- where bytes are told: the stream was served as in a history
pub record IsStreamServed (before after : StreamView) (there left : Stream) (old new : Due)
    : Type 0 where
  pub due : new ≡ listed (served_stream there (queues_in before)).completed old
  pub queues : queues_in after ≡ (served_stream there (queues_in before)).queues
  pub stream : left ≡ (served_stream there (queues_in before)).stream

-- the stream with this number; out of range one without room
abbrev pub stream_in : List StreamView → ℕ → StreamView
stream_in streams number = slice_index_or streams number (new_stream_view 0 0 0)

abbrev pub with_stream_in : ℕ → (StreamView → StreamView) → List StreamView → List StreamView
with_stream_in number change streams = slice_set streams number (change (stream_in streams number))

-- the reactor's stream is closed, unless it was
abbrev pub closes_state : Bool → ℕ → ReactorState → ReactorState
closes_state true number state = state
closes_state false number state = state_closed number state

abbrev pub closes_told : Bool → ℕ → Option Outside → Option Outside
closes_told true number told = told
closes_told false number told = option_map (outside_closed number) told

-- what serving a stream does: to the streams, to what the reactor tells, and to what is due
pub record IsServedAt (last : Bool) (number : ℕ) (old new : List StreamView)
    (told left : Option Outside) (due later : Due) : Type 0 where
  pub others : new ≡ with_stream_in number (λ view. record view {
    held = (stream_in new number).held;
    reads = (stream_in new number).reads;
    writes = (stream_in new number).writes;
  }) old
  pub changes : ChangesOne number told left
  pub gives : StreamGives (stream_in old number) (stream_in new number) due later
  pub served : IfSome told (λ _.
      IsStreamServed (stream_in old number) (stream_in new number)
      (whole_told (stream_in old number).held told number)
      (whole_told (stream_in new number).held left number) due later)
  -- after the last time point everything completes
  pub reads_after_last : IsTrue last → (stream_in new number).reads ≡ []
  pub writes_after_last : IsTrue last → (stream_in new number).writes ≡ []

-- the first streams are served, by rising number
pub data AreServedBelow (last : Bool)
    : ℕ → List StreamView → List StreamView → Option Outside → Option Outside → Due → Due → Type 0
  where
    none_served : {streams : List StreamView} {told : Option Outside} {due : Due} →
        AreServedBelow last 0 streams streams told told due due
    one_served : {number : ℕ} {first old new : List StreamView} {before told left : Option Outside}
        {start due later : Due} → AreServedBelow last number first old before told start due →
        IsServedAt last number old new told left due later →
        AreServedBelow last (number + 1) first new before left start later

-- each open stream of the reactor may be read and written
pub record AreServable (streams : List StreamView) (state : ReactorState) (told : Option Outside)
    : Type 0 where
  pub up : IsTrue state.up
  pub closed : state.closed ≡ map (λ view. view.closed) streams
  pub there : IfSome told (λ outside. length outside.streams ≡ length streams)

-- the operations of all streams
abbrev pub pending_in_all : List StreamView → ℕ
pending_in_all streams = sum_by pending_on streams
