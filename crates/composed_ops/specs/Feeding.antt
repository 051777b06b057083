-- A machine that is fed: asked what it wants and told what a call on its stream answered, until it
-- completes. What it gives is what the rules of streams give on the bytes held for it and those
-- behind them, however they come in pieces.
use Rattle.std.specs.Prelude.{ℕ, ◌≡◌, ◌+◌, ◌≤◌, ◌⊎◌, min, ⊤, Option, Some, None, List, [], ◌++◌, length, take, drop}
use Rattle.std.specs.Option.{option_map}
use Rattle.asio_types.specs.declared.code.Code.{Code}
use Rattle.asio_types.specs.declared.code.Code.TheVariants as code
use Rattle.asio_types.specs.declared.outside.Moved.{Moved}
use Rattle.asio_types.specs.declared.outside.Moved.TheVariants as moved
use Rattle.stream_rules.specs.Cutting.{Course, served_on}
use Rattle.stream_rules.specs.Moving.{moved_count, read_answer, write_answer}
use Rattle.stream_rules.specs.Queue.{reading_side, writing_side}
use Rattle.stream_rules.specs.Serving.{Some_bytes, All_bytes, Until, Some_of, All_of, Outcome, after_reading, after_writing, bytes_of, read_code, write_code}
use Rattle.stream_rules.specs.Stream.{Stream}
use Rattle.composed_ops.specs.declared.want.Want.{Want}
use Rattle.composed_ops.specs.declared.want.Want.TheVariants as want
use Rattle.composed_ops.specs.StreamOperation.{StreamOperation, Reads, Writes, IsSizedAsking}
use Rattle.composed_ops.specs.Progress.{StreamProgress, IsSearched, IsUnderWay, new_progress, progress_after}
use Rattle.composed_ops.specs.Step.{outcome_by}
use Rattle.composed_ops.specs.Want.{wanted as want_of}

-- an operation under way, the bytes that were read for it and not consumed, and its stream behind
-- them
pub record Exchange : Type 0 where
  pub progress : StreamProgress
  pub held : List ℕ
  pub stream : Stream

-- the machine may be asked
pub record MayBeAsked (exchange : Exchange) : Type 0 where
  pub under_way : IsUnderWay exchange.progress
  pub searched : IsSearched exchange.progress exchange.held

-- what it wants there
abbrev pub wanted_in : Exchange → Want
wanted_in exchange = want_of exchange.progress exchange.held

-- the stream as the rules see it: the held bytes come first
abbrev pub whole_stream : Exchange → Stream
whole_stream exchange =
    record exchange.stream { arrived = exchange.held ++ exchange.stream.arrived }

abbrev pub asking_course : StreamOperation → ℕ → Stream → Course
asking_course (Reads reading) before stream = served_on reading_side reading before stream None
asking_course (Writes writing) before stream = served_on writing_side writing before stream None

-- what the rules give: the bytes that it moves in all, how it completes, unless it stays, and the
-- stream as it is left
abbrev pub course_of : Exchange → Course
course_of exchange =
    asking_course exchange.progress.asks exchange.progress.moved (whole_stream exchange)

-- where it stands, with this outcome
abbrev pub course_at : Exchange → Option Outcome → Course
course_at exchange outcome = record {
  moved = exchange.progress.moved;
  outcome = outcome;
  stream = whole_stream exchange;
}

-- what a call may answer that asks for at most so many, where so many are there: any part of them,
-- or nothing yet; and a mark only where nothing is there
abbrev pub IsAnswer : ℕ → Option Code → Code → ℕ → Moved → Type 0
IsAnswer there mark end most (moved.Took count) = (1 ≤ count) × (count ≤ most) × (count ≤ there)
IsAnswer there mark end most moved.End = (there ≡ 0) × (mark ≡ Some end)
IsAnswer there mark end most moved.NotYet = ⊤
IsAnswer there mark end most moved.Reset = (there ≡ 0) × (mark ≡ Some code.Reset)

-- what may be answered to what is wanted
abbrev pub MayCome : Stream → Want → Moved → Type 0
MayCome stream (want.Held count) answer = answer ≡ moved.Took count
MayCome stream (want.Read most) answer =
    IsAnswer (length stream.arrived) (option_map read_code stream.read_mark) code.Eof most answer
MayCome stream (want.Write from most) answer =
    IsAnswer stream.room (option_map write_code stream.write_mark) code.Broken most answer
MayCome stream (want.Finish code size) answer = ⊥

-- as much as is there, up to a size
abbrev pub IsAllThere : ℕ → ℕ → Moved → Type 0
IsAllThere size there (moved.Took count) = count ≡ min size there
IsAllThere size there moved.End = ⊤
IsAllThere size there moved.NotYet = ⊤
IsAllThere size there moved.Reset = ⊤

-- an operation that completes with what is there gets all of it; the others may get it in pieces
abbrev pub ComesWhole : StreamOperation → Stream → Moved → Type 0
ComesWhole (Reads (Some_bytes size)) stream answer = IsAllThere size (length stream.arrived) answer
ComesWhole (Reads (All_bytes size)) stream answer = ⊤
ComesWhole (Reads (Until delimiter max)) stream answer = ⊤
ComesWhole (Writes (Some_of bytes)) stream answer = IsAllThere (length bytes) stream.room answer
ComesWhole (Writes (All_of bytes)) stream answer = ⊤

pub record MayAnswer (exchange : Exchange) (answer : Moved) : Type 0 where
  pub comes : MayCome exchange.stream (wanted_in exchange) answer
  pub whole : ComesWhole exchange.progress.asks (whole_stream exchange) answer

-- a read until a delimiter holds what it gets; the others consume it
abbrev pub held_with : StreamOperation → List ℕ → List ℕ → List ℕ
held_with (Reads (Some_bytes size)) held piece = held
held_with (Reads (All_bytes size)) held piece = held
held_with (Reads (Until delimiter max)) held piece = held ++ piece
held_with (Writes writing) held piece = held

abbrev pub held_after : StreamOperation → Want → ℕ → List ℕ → Stream → List ℕ
held_after asks (want.Held most) count held stream = drop count held
held_after asks (want.Read most) count held stream = held_with asks held (take count stream.arrived)
held_after asks (want.Write from most) count held stream = held
held_after asks (want.Finish code size) count held stream = held

abbrev pub written_after : StreamOperation → ℕ → ℕ → Stream → Stream
written_after (Reads reading) from count stream = stream
written_after (Writes writing) from count stream = after_writing writing from count stream

abbrev pub stream_after : StreamOperation → Want → ℕ → Stream → Stream
stream_after asks (want.Held most) count stream = stream
stream_after asks (want.Read most) count stream = after_reading count stream
stream_after asks (want.Write from most) count stream = written_after asks from count stream
stream_after asks (want.Finish code size) count stream = stream

-- once a call answered this to what was wanted
abbrev pub exchange_answered : Want → Exchange → Moved → Exchange
exchange_answered wanted exchange answer = record {
  progress = progress_after exchange.progress answer;
  held =
      held_after exchange.progress.asks wanted (moved_count answer) exchange.held exchange.stream;
  stream = stream_after exchange.progress.asks wanted (moved_count answer) exchange.stream;
}

abbrev pub exchange_after : Exchange → Moved → Exchange
exchange_after exchange answer = exchange_answered (wanted_in exchange) exchange answer

-- once it finished, and so many held bytes were consumed
abbrev pub exchange_finished : Exchange → ℕ → Exchange
exchange_finished exchange size = record exchange {
  progress = record exchange.progress { moved = exchange.progress.moved + size };
  held = drop size exchange.held;
}

-- nothing is there, and no mark
abbrev pub HasNothing : Stream → Want → Type 0
HasNothing stream (want.Held count) = ⊥
HasNothing stream (want.Read most) = (stream.arrived ≡ []) × (stream.read_mark ≡ None)
HasNothing stream (want.Write from most) = (stream.room ≡ 0) × (stream.write_mark ≡ None)
HasNothing stream (want.Finish code size) = ⊥

-- before its first step a machine may be asked, whatever is held
abbrev pub MachinesBegin : Type 0
MachinesBegin =
    (asks : StreamOperation) (held : List ℕ) (stream : Stream) → IsSizedAsking asks →
    MayBeAsked (record { progress = new_progress asks; held = held; stream = stream })

-- a step after which it goes on leaves what the rules give as it was, and the machine may be asked
-- again
pub record GoesOn (exchange next : Exchange) : Type 0 where
  pub ready : MayBeAsked next
  pub same : course_of next ≡ course_of exchange

abbrev pub MachinesGoOn : Type 0
MachinesGoOn =
    (exchange : Exchange) (answer : Moved) → MayBeAsked exchange → MayAnswer exchange answer →
    outcome_by exchange.progress answer ≡ None →
    GoesOn exchange (exchange_after exchange answer)

-- a step that completes gives what the rules give
abbrev pub MachinesComplete : Type 0
MachinesComplete =
    (exchange : Exchange) (answer : Moved) (outcome : Outcome) → MayBeAsked exchange →
    MayAnswer exchange answer →
    outcome_by exchange.progress answer ≡ Some outcome →
    course_of exchange ≡ course_at (exchange_after exchange answer) (Some outcome)

-- so does one that finishes on the held bytes
abbrev pub MachinesFinish : Type 0
MachinesFinish =
    (exchange : Exchange) (ended : Code) (size : ℕ) → MayBeAsked exchange →
    wanted_in exchange ≡ want.Finish ended size →
    course_of exchange ≡ course_at (exchange_finished exchange size) (Some (ended, size))

-- where nothing is there, it stays
abbrev pub MachinesWait : Type 0
MachinesWait =
    (exchange : Exchange) → MayBeAsked exchange → HasNothing exchange.stream (wanted_in exchange) →
    course_of exchange ≡ course_at exchange None

-- bytes that arrived are moved behind the held ones
abbrev pub exchange_holding : Exchange → ℕ → Exchange
exchange_holding exchange count = record exchange {
  held = exchange.held ++ take count exchange.stream.arrived;
  stream = after_reading count exchange.stream;
}

-- that changes nothing of what the rules give
abbrev pub HoldingKeeps : Type 0
HoldingKeeps =
    (exchange : Exchange) (count : ℕ) →
    course_of (exchange_holding exchange count) ≡ course_of exchange

-- A whole run: the pieces are any, and between them nothing may have come yet. It ends as the
-- machine completes, or waits where nothing is there.
pub data Runs : Exchange → Course → Type 0 where
  goes_on : {exchange : Exchange} {course : Course} (answer : Moved) → MayAnswer exchange answer →
      outcome_by exchange.progress answer ≡ None → Runs (exchange_after exchange answer) course →
      Runs exchange course
  completes : {exchange : Exchange} (answer : Moved) (outcome : Outcome) →
      MayAnswer exchange answer → outcome_by exchange.progress answer ≡ Some outcome →
      Runs exchange (course_at (exchange_after exchange answer) (Some outcome))
  finishes : {exchange : Exchange} (ended : Code) (size : ℕ) →
      wanted_in exchange ≡ want.Finish ended size →
      Runs exchange (course_at (exchange_finished exchange size) (Some (ended, size)))
  waits : {exchange : Exchange} → HasNothing exchange.stream (wanted_in exchange) →
      Runs exchange (course_at exchange None)

-- the same code, size, bytes moved and stream left as the rules give on all bytes at once
abbrev pub RunsAreByTheRules : Type 0
RunsAreByTheRules =
    (exchange : Exchange) (course : Course) → MayBeAsked exchange → Runs exchange course →
    course ≡ course_of exchange

-- what a reactor that tells its bytes answers to a read may come, and it answers `NotYet` only
-- where nothing is there
pub record IsToldAnswer (exchange : Exchange) (answer : Moved) : Type 0 where
  pub may : MayAnswer exchange answer
  pub nothing : answer ≡ moved.NotYet → HasNothing exchange.stream (wanted_in exchange)

-- a read of some bytes consumes held ones only where they are as many as it asks for, or nothing is
-- there behind them
abbrev pub IsFilled : StreamOperation → List ℕ → Stream → Type 0
IsFilled (Reads (Some_bytes size)) held stream = (size ≤ length held) ⊎ (stream.arrived ≡ [])
IsFilled (Reads (All_bytes size)) held stream = ⊤
IsFilled (Reads (Until delimiter max)) held stream = ⊤
IsFilled (Writes writing) held stream = ⊤

abbrev pub HeldMayBeConsumed : Type 0
HeldMayBeConsumed =
    (exchange : Exchange) (count : ℕ) → MayBeAsked exchange →
    IsFilled exchange.progress.asks exchange.held exchange.stream →
    wanted_in exchange ≡ want.Held count → MayAnswer exchange (moved.Took count)

abbrev pub ReadsMayBeAnswered : Type 0
ReadsMayBeAnswered =
    (exchange : Exchange) (most : ℕ) → MayBeAsked exchange → wanted_in exchange ≡ want.Read most →
    IsToldAnswer exchange (read_answer most exchange.stream)

-- the bytes that an operation writes next
abbrev pub bytes_from : StreamOperation → ℕ → ℕ → List ℕ
bytes_from (Reads reading) from count = []
bytes_from (Writes writing) from count = take count (drop from (bytes_of writing))

abbrev pub WritesMayBeAnswered : Type 0
WritesMayBeAnswered =
    (exchange : Exchange) (from most : ℕ) → MayBeAsked exchange →
    wanted_in exchange ≡ want.Write from most →
    IsToldAnswer exchange
    (write_answer (bytes_from exchange.progress.asks from most) exchange.stream)
