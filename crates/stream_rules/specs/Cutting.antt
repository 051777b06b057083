-- One operation on a stream to which bytes or room come in pieces (Asio reference: async_read,
-- async_read_until and async_write are composed of calls that give what is there). What they give
-- doesn't depend on the pieces; async_read_some and async_write_some, which complete with what is
-- there, do.
use Rattle.std.specs.Prelude.{ℕ, ◌≡◌, ◌+◌, List, [], ◌∷◌, ◌++◌, Option, None, Some, fold, sum, ⊤, All}
use Rattle.asio_types.specs.declared.mark.ReadMark.{ReadMark}
use Rattle.asio_types.specs.declared.mark.WriteMark.{WriteMark}
use Rattle.stream_rules.specs.Queue.{Side, reading_side, writing_side, served_queue, Pending, QueueServed}
use Rattle.stream_rules.specs.Serving.{Reading, Some_bytes, All_bytes, Until, Writing, Some_of, All_of, Outcome}
use Rattle.stream_rules.specs.Stream.{Stream}

-- an operation under way: the bytes that it moved in all, how it completed, unless it stays, and
-- the stream as it is left
pub record Course : Type 0 where
  pub moved : ℕ
  pub outcome : Option Outcome
  pub stream : Stream

-- the operation is served once more, unless it completed
abbrev pub served_on : {Asks : Type 0} → Side Asks → Asks → ℕ → Stream → Option Outcome → Course
served_on side asks moved stream (Some outcome) = record {
  moved = moved;
  outcome = Some outcome;
  stream = stream;
}
served_on side asks moved stream None =
    let served = side.served asks moved stream in
    record {
      moved = moved + served.used;
      outcome = served.outcome;
      stream = side.after asks moved served.used stream;
    }

-- the stream changes like this, and then the operation is served on it
abbrev pub after_change : {Asks : Type 0} → Side Asks → Asks → (Stream → Stream) → Course → Course
after_change side asks change course =
    served_on side asks course.moved (change course.stream) course.outcome

-- these bytes come
abbrev pub with_bytes : List ℕ → Stream → Stream
with_bytes bytes stream = record stream { arrived = stream.arrived ++ bytes }

-- so much room comes
abbrev pub with_room : ℕ → Stream → Stream
with_room count stream = record stream { room = stream.room + count }

-- from here on this is the mark for reading
abbrev pub with_read_mark : Option ReadMark → Stream → Stream
with_read_mark mark stream = record stream { read_mark = mark }

-- from here on this is the mark for writing
abbrev pub with_write_mark : Option WriteMark → Stream → Stream
with_write_mark mark stream = record stream { write_mark = mark }

-- the pieces, one after another
abbrev pub whole_of : List (List ℕ) → List ℕ
whole_of [] = []
whole_of (piece ∷ pieces) = piece ++ whole_of pieces

-- the operation completes only with all that it asks for, or by a mark
abbrev pub IsComposedReading : Reading → Type 0
IsComposedReading (Some_bytes size) = ⊥
IsComposedReading (All_bytes size) = ⊤
IsComposedReading (Until delimiter max) = ⊤

abbrev pub IsComposedWriting : Writing → Type 0
IsComposedWriting (Some_of bytes) = ⊥
IsComposedWriting (All_of bytes) = ⊤

-- Where an operation stays on some bytes, what it gives on them and later on further ones is what
-- it gives on all of them: the same outcome, the same bytes in all, the same stream left. A mark
-- may stand behind the further ones.
abbrev pub ReadsGoOn : Type 0
ReadsGoOn =
    (reading : Reading) (course : Course) (first later : List ℕ) (mark : Option ReadMark) →
    (after_change reading_side reading (with_bytes first) course).outcome ≡ None →
    after_change reading_side reading (λ stream. with_read_mark mark (with_bytes later stream))
    (after_change reading_side reading (with_bytes first) course)
    ≡ after_change reading_side reading
    (λ stream. with_read_mark mark (with_bytes (first ++ later) stream)) course

abbrev pub WritesGoOn : Type 0
WritesGoOn =
    (writing : Writing) (course : Course) (first later : ℕ) (mark : Option WriteMark) →
    (after_change writing_side writing (with_room first) course).outcome ≡ None →
    after_change writing_side writing (λ stream. with_write_mark mark (with_room later stream))
    (after_change writing_side writing (with_room first) course)
    ≡ after_change writing_side writing
    (λ stream. with_write_mark mark (with_room (first + later) stream)) course

-- What a composed operation gives on any pieces is what it gives on the whole.
abbrev pub ReadsInPieces : Type 0
ReadsInPieces =
    (reading : Reading) → IsComposedReading reading → (course : Course) →
    course.stream.read_mark ≡ None →
    (pieces : List (List ℕ)) (mark : Option ReadMark) →
    after_change reading_side reading (with_read_mark mark)
    (fold (λ part piece. after_change reading_side reading (with_bytes piece) part) course pieces)
    ≡ after_change reading_side reading
    (λ stream. with_read_mark mark (with_bytes (whole_of pieces) stream)) course

abbrev pub WritesInPieces : Type 0
WritesInPieces =
    (writing : Writing) → IsComposedWriting writing → (course : Course) →
    course.stream.write_mark ≡ None →
    (pieces : List ℕ) (mark : Option WriteMark) →
    after_change writing_side writing (with_write_mark mark)
    (fold (λ part piece. after_change writing_side writing (with_room piece) part) course pieces)
    ≡ after_change writing_side writing
    (λ stream. with_write_mark mark (with_room (sum pieces) stream)) course

-- a queue that was served is served once more, on the stream as it is then
abbrev pub served_again : {Asks : Type 0} → Side Asks → (Stream → Stream) → QueueServed Asks →
    QueueServed Asks
served_again side change part =
    let rest = served_queue side part.staying (change part.stream) in
    record rest { completed = part.completed ++ rest.completed }

-- What a queue of composed reads gives on the bytes there and later on further ones is what it
-- gives on all of them.
abbrev pub QueuesGoOn : Type 0
QueuesGoOn =
    (queue : List (Pending Reading)) →
    All (λ (pending : Pending Reading). IsComposedReading pending.asks) queue →
    (stream : Stream) → stream.read_mark ≡ None → (later : List ℕ) (mark : Option ReadMark) →
    served_again reading_side (λ s. with_read_mark mark (with_bytes later s))
    (served_queue reading_side queue stream)
    ≡ served_queue reading_side queue (with_read_mark mark (with_bytes later stream))
