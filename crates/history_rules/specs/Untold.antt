-- What operations of streams may give where the bytes aren't told: a reactor over sockets decides
-- (Asio reference, async_read_some, async_read, async_read_until, async_write_some, async_write).
use Rattle.std.specs.Prelude.{◌≡◌, ◌≤◌, ℕ, ◌+◌, ◌*◌, ◌==◌, nat_le, nat_lt, Bool, true, false, ◌&&◌, List, Option, Some, length, drop}
use Rattle.std.specs.Option.{option_map}
use Rattle.std.specs.List.{slice_get}
use Rattle.asio_types.specs.declared.code.Code.{Code}
use Rattle.asio_types.specs.declared.code.Code.TheVariants as code
use Rattle.session_script.specs.declared.act.Act.{Act}
use Rattle.session_script.specs.declared.act.Act.TheVariants as act
use Rattle.stream_rules.specs.Queue.{Pending}
use Rattle.stream_rules.specs.Serving.{Outcome, Reading, Writing, Some_bytes, All_bytes, Until, Some_of, All_of}
use Rattle.history_rules.specs.Performing.{queues_at, with_queues}
use Rattle.history_rules.specs.State.{ReactorHalf}

-- from one number to another
abbrev pub is_from_to : ℕ → ℕ → ℕ → Bool
is_from_to least most size = nat_le least size && nat_le size most

-- some bytes with ok, and none with a mark
abbrev pub may_give_some : ℕ → (Code → Bool) → Code → ℕ → Bool
may_give_some most is_mark code.Ok size = is_from_to 1 most size
may_give_some most is_mark other size = is_mark other && (size == 0)

-- all bytes with ok, and fewer with a mark
abbrev pub may_give_all : ℕ → (Code → Bool) → Code → ℕ → Bool
may_give_all all is_mark code.Ok size = size == all
may_give_all all is_mark other size = is_mark other && nat_lt size all

abbrev pub is_read_mark : Code → Bool
is_read_mark code.Eof = true
is_read_mark code.Reset = true
is_read_mark _ = false

abbrev pub is_write_mark : Code → Bool
is_write_mark code.Broken = true
is_write_mark code.Reset = true
is_write_mark _ = false

-- at least the delimiter with ok, and none where it wasn't found or with a mark
abbrev pub may_give_until : ℕ → ℕ → Code → ℕ → Bool
may_give_until least most code.Ok size = is_from_to least most size
may_give_until least most code.NotFound size = size == 0
may_give_until least most other size = is_read_mark other && (size == 0)

abbrev pub may_give_read : Reading → Code → ℕ → Bool
may_give_read (Some_bytes most) code size = may_give_some most is_read_mark code size
may_give_read (All_bytes all) code size = may_give_all all is_read_mark code size
may_give_read (Until delimiter max) code size = may_give_until (length delimiter) max code size

abbrev pub may_give_write : Writing → Code → ℕ → Bool
may_give_write (Some_of bytes) code size = may_give_some (length bytes) is_write_mark code size
may_give_write (All_of bytes) code size = may_give_all (length bytes) is_write_mark code size

-- the sides of the streams in the order in which a turn goes through them: the reads of a stream,
-- and then its writes
abbrev pub reading_place : ℕ → ℕ
reading_place stream = 2 * stream

abbrev pub writing_place : ℕ → ℕ
writing_place stream = 2 * stream + 1

-- the operation at the head of a queue
abbrev pub head_of : {Asks : Type 0} → List (Pending Asks) → Option ℕ
head_of queue = option_map (λ pending. pending.op) (slice_get queue 0)

-- the operation is the next of a side that this turn hasn't gone past, and may give this
pub record MayGive (r : ReactorHalf) (o place : ℕ) (first : Option ℕ) (gives : Bool) : Type 0 where
  pub head : first ≡ Some o
  pub ahead : r.reached ≤ place
  pub allowed : gives ≡ true

abbrev pub MayGiveRead : ReactorHalf → ℕ → ℕ → Reading → Code → ℕ → Type 0
MayGiveRead r o stream reading code size =
    MayGive r o (reading_place stream) (head_of (queues_at r stream).reads)
    (may_give_read reading code size)

abbrev pub MayGiveWrite : ReactorHalf → ℕ → ℕ → Writing → Code → ℕ → Type 0
MayGiveWrite r o stream writing code size =
    MayGive r o (writing_place stream) (head_of (queues_at r stream).writes)
    (may_give_write writing code size)

-- an operation of a stream may complete so
abbrev pub MayGiveUntold : ReactorHalf → ℕ → Option Act → Code → ℕ → Type 0
MayGiveUntold r o (Some (act.ReadSome stream size strand slot filter)) code moved =
    MayGiveRead r o stream (Some_bytes size) code moved
MayGiveUntold r o (Some (act.ReadAll stream size strand slot filter)) code moved =
    MayGiveRead r o stream (All_bytes size) code moved
MayGiveUntold r o (Some (act.Until stream delimiter max strand slot filter)) code moved =
    MayGiveRead r o stream (Until delimiter max) code moved
MayGiveUntold r o (Some (act.WriteSome stream bytes strand slot filter)) code moved =
    MayGiveWrite r o stream (Some_of bytes) code moved
MayGiveUntold r o (Some (act.WriteAll stream bytes strand slot filter)) code moved =
    MayGiveWrite r o stream (All_of bytes) code moved
MayGiveUntold r o _ code moved = ⊥

-- the head of the reads of a stream has completed
abbrev pub read_gone : ℕ → ReactorHalf → ReactorHalf
read_gone stream r =
    let queues = queues_at r stream in
    record (with_queues r stream (record queues { reads = drop 1 queues.reads }))
    { reached = reading_place stream }

abbrev pub write_gone : ℕ → ReactorHalf → ReactorHalf
write_gone stream r =
    let queues = queues_at r stream in
    record (with_queues r stream (record queues { writes = drop 1 queues.writes }))
    { reached = writing_place stream }

abbrev pub gone : Option Act → ReactorHalf → ReactorHalf
gone (Some (act.ReadSome stream size strand slot filter)) r = read_gone stream r
gone (Some (act.ReadAll stream size strand slot filter)) r = read_gone stream r
gone (Some (act.Until stream delimiter max strand slot filter)) r = read_gone stream r
gone (Some (act.WriteSome stream bytes strand slot filter)) r = write_gone stream r
gone (Some (act.WriteAll stream bytes strand slot filter)) r = write_gone stream r
gone _ r = r

-- a composed operation that was cancelled may have moved any part of its bytes
abbrev pub may_have_moved : Option Act → Code → ℕ → ℕ → Bool
may_have_moved (Some (act.ReadAll stream all strand slot filter)) code.Aborted size moved =
    nat_lt moved all
may_have_moved (Some (act.WriteAll stream bytes strand slot filter)) code.Aborted size moved =
    nat_lt moved (length bytes)
may_have_moved _ code size moved = moved == size

-- a completion may be told so
abbrev pub IsToldAs : Bool → Option Act → Outcome → Code → ℕ → Type 0
IsToldAs true act outcome code size = outcome ≡ (code, size)
IsToldAs false act outcome code size =
    (outcome.0 ≡ code) × (may_have_moved act outcome.0 outcome.1 size ≡ true)
