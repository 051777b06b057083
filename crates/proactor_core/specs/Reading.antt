-- A read at the head of its queue: the bytes that are held for it, and those behind them that its
-- reactor tells (Asio reference, async_read_some, async_read, async_read_until).
use Rattle.std.specs.Prelude.{ℕ, ◌≡◌, ◌≤◌, ◌-◌, ◌⊎◌, ⊤, Bool, true, List, [], Option, None, Some, length}
use Rattle.asio_types.specs.declared.code.Code.{Code}
use Rattle.stream_rules.specs.Serving.{Outcome, Some_bytes, All_bytes, Until}
use Rattle.stream_rules.specs.Stream.{Stream}
use Rattle.composed_ops.specs.StreamOperation.{StreamOperation, Reads, Writes, most_moved}
use Rattle.composed_ops.specs.Feeding.{Exchange, GoesOn, IsFilled, course_at, course_of, whole_stream}
use Rattle.composed_ops.specs.Progress.{IsSearched, IsUnderWay, StreamProgress}
use Rattle.history_rules.specs.Untold.{may_give_read, may_give_write}
use Rattle.reactor_trait.specs.Reactor.{Outside}
use Rattle.proactor_core.specs.Held.{HeldBytes}
use Rattle.proactor_core.specs.Reactor.{told_stream}
use Rattle.proactor_core.specs.declared.round.StreamRound.{StreamRound}
use Rattle.proactor_core.specs.declared.round.StreamRound.TheVariants as round

-- an operation, the bytes that are held, and its stream as a reactor tells it
abbrev pub exchange_at : StreamProgress → List ℕ → Option Outside → ℕ → Exchange
exchange_at progress held told number = record {
  progress = progress;
  held = held;
  stream = told_stream told number;
}

abbrev pub AsksToRead : StreamOperation → Type 0
AsksToRead (Reads reading) = ⊤
AsksToRead (Writes writing) = ⊥

-- a read that may be asked for more, with room for all that it reads at once
pub record MayRead (buffer : ℕ) (held : HeldBytes) (progress : StreamProgress) : Type 0 where
  pub reads : AsksToRead progress.asks
  pub under_way : IsUnderWay progress
  pub searched : IsSearched progress held.bytes
  pub fits : most_moved progress.asks ≤ buffer
  pub holds : most_moved progress.asks ≤ held.room

-- how serving an operation ends, by the rules of streams: where it stays, with the bytes that it
-- moved
abbrev pub Ends : Exchange → Exchange → Option Outcome → Type 0
Ends before after None = course_of before ≡ course_at after None
Ends before after (Some outcome) =
    ((course_of before).outcome ≡ Some outcome) × ((course_of before).stream ≡ whole_stream after)

-- what one call for it does
abbrev pub IsRound : Exchange → Exchange → StreamRound → Type 0
IsRound before after round.GoesOn = GoesOn before after
IsRound before after round.Stays = Ends before after None
IsRound before after (round.Completes code size) = Ends before after (Some (code, size))

-- held bytes are given to a read of some bytes only together with what has arrived behind them
abbrev pub IsGathered : StreamOperation → List ℕ → Stream → Type 0
IsGathered asks held stream = (held ≡ []) ⊎ IsFilled asks held stream

-- how an operation may complete where the bytes aren't told
abbrev pub may_give : StreamOperation → Code → ℕ → Bool
may_give (Reads reading) code size = may_give_read reading code size
may_give (Writes writing) code size = may_give_write writing code size

abbrev pub IsAllowed : StreamOperation → StreamRound → Type 0
IsAllowed asks round.GoesOn = ⊤
IsAllowed asks round.Stays = ⊤
IsAllowed asks (round.Completes code size) = may_give asks code size ≡ true

-- the operation hasn't completed
abbrev pub IsOpenStill : StreamRound → Type 0
IsOpenStill round.GoesOn = ⊤
IsOpenStill round.Stays = ⊤
IsOpenStill (round.Completes code size) = ⊥

-- how many more calls a read may make that bring some bytes
abbrev pub most_pieces : StreamOperation → ℕ → ℕ → ℕ
most_pieces (Reads (Some_bytes size)) moved held = size - moved
most_pieces (Reads (All_bytes size)) moved held = size - moved
most_pieces (Reads (Until delimiter max)) moved held = max - held
most_pieces (Writes writing) moved held = most_moved (Writes writing) - moved

abbrev pub pieces_left : StreamProgress → List ℕ → ℕ
pieces_left progress held = most_pieces progress.asks progress.moved (length held)
