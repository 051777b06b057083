-- How far an operation on a stream is (Asio reference, async_read and async_write: composed of
-- calls that move some bytes).
use Rattle.std.specs.Prelude.{ℕ, ◌≡◌, ◌+◌, ◌-◌, ◌<◌, ◌≤◌, ◌^◌, ⊤, Option, Some, None, List, length, take}
use Rattle.asio_types.specs.declared.outside.Moved.{Moved}
use Rattle.asio_types.specs.declared.outside.Moved.TheVariants as moved
use Rattle.stream_rules.specs.Delimiter.{first_end}
use Rattle.stream_rules.specs.Moving.{moved_count}
use Rattle.stream_rules.specs.Serving.{Some_bytes, All_bytes, Until, Some_of, All_of}
use Rattle.composed_ops.specs.StreamOperation.{StreamOperation, Reads, Writes, most_moved}

pub record StreamProgress : Type 0 where
  pub asks : StreamOperation
  -- the bytes that it consumed or wrote so far
  pub moved : ℕ
  -- of a read until a delimiter, how many bytes the latest piece brought; none before the first
  pub latest : Option ℕ

-- an operation before its first step
abbrev pub new_progress : StreamOperation → StreamProgress
new_progress asks = record { asks = asks; moved = 0; latest = None }

-- only an operation that moves all that it asks for can have moved some of it before
abbrev pub MovedBefore : StreamOperation → ℕ → Type 0
MovedBefore (Reads (Some_bytes size)) moved = moved ≡ 0
MovedBefore (Reads (All_bytes size)) moved = ⊤
MovedBefore (Reads (Until delimiter max)) moved = moved ≡ 0
MovedBefore (Writes (Some_of bytes)) moved = moved ≡ 0
MovedBefore (Writes (All_of bytes)) moved = ⊤

-- something is still to be moved
pub record IsUnderWay (progress : StreamProgress) : Type 0 where
  pub missing : progress.moved < most_moved progress.asks
  pub counted : most_moved progress.asks < 2 ^ 32
  pub before : MovedBefore progress.asks progress.moved

-- what came is consumed or written at once, save by a read until a delimiter, which holds it
abbrev pub used_of : StreamOperation → ℕ → ℕ
used_of (Reads (Some_bytes size)) count = count
used_of (Reads (All_bytes size)) count = count
used_of (Reads (Until delimiter max)) count = 0
used_of (Writes writing) count = count

-- the count of the latest piece, once a call answered this
abbrev pub newest : Option ℕ → Moved → Option ℕ
newest latest (moved.Took count) = Some count
newest latest moved.End = latest
newest latest moved.NotYet = latest
newest latest moved.Reset = latest

abbrev pub latest_after : StreamOperation → Option ℕ → Moved → Option ℕ
latest_after (Reads (Some_bytes size)) latest answer = latest
latest_after (Reads (All_bytes size)) latest answer = latest
latest_after (Reads (Until delimiter max)) latest answer = newest latest answer
latest_after (Writes writing) latest answer = latest

-- how far it is once a call answered this
abbrev pub progress_after : StreamProgress → Moved → StreamProgress
progress_after progress answer = record {
  asks = progress.asks;
  moved = progress.moved + used_of progress.asks (moved_count answer);
  latest = latest_after progress.asks progress.latest answer;
}

-- at least one byte and at most so many, or none
abbrev pub IsCountWithin : ℕ → Moved → Type 0
IsCountWithin most (moved.Took count) = (1 ≤ count) × (count ≤ most)
IsCountWithin most moved.End = ⊤
IsCountWithin most moved.NotYet = ⊤
IsCountWithin most moved.Reset = ⊤

-- a call moved no more than is missing
abbrev pub FitsMove : StreamProgress → Moved → Type 0
FitsMove progress answer = IsCountWithin (most_moved progress.asks - progress.moved) answer

-- how many of the held bytes were there before the latest piece
abbrev pub before_latest : Option ℕ → ℕ → ℕ
before_latest None held = 0
before_latest (Some latest) held = held - latest

-- no delimiter ends before the bytes of the latest piece
abbrev pub IsSearchedBy : StreamOperation → Option ℕ → List ℕ → Type 0
IsSearchedBy (Reads (Some_bytes size)) latest held = ⊤
IsSearchedBy (Reads (All_bytes size)) latest held = ⊤
IsSearchedBy (Reads (Until delimiter max)) latest held =
    first_end delimiter (take (before_latest latest (length held)) held) ≡ None
IsSearchedBy (Writes writing) latest held = ⊤

abbrev pub IsSearched : StreamProgress → List ℕ → Type 0
IsSearched progress held = IsSearchedBy progress.asks progress.latest held
