-- What a call for a write does is what the rules of streams give, where the reactor tells its bytes.
use Rattle.std.proofs.Common.{◌≡◌, ℕ, ◌-◌, ◌<◌, ◌≤◌, Option, None, Some, List, [], ◌∷◌, ◌++◌, zero, suc, length, take, drop, refl, sym, ap, subst, ◌∙◌, arith}
use Rattle.std.specs.Option.{IfSome, option_map}
use Rattle.std.proofs.lemmas.List.{append-nil}
use Rattle.asio_types.specs.declared.outside.Moved.{Moved}
use Rattle.asio_types.specs.declared.outside.Moved.TheVariants as moved
use Rattle.stream_rules.specs.Moving.{moved_count, write_answer}
use Rattle.stream_rules.specs.Serving.{Writing, Some_of, after_writing, bytes_of}
use Rattle.stream_rules.specs.Stream.{Stream}
use Rattle.stream_rules.specs.World.{stream_at}
use Rattle.composed_ops.specs.declared.want.Want.TheVariants as want
use Rattle.composed_ops.specs.StreamOperation.{StreamOperation, Reads, Writes}
use Rattle.composed_ops.specs.Feeding.{MayAnswer, MayBeAsked, bytes_from, exchange_answered}
use Rattle.composed_ops.specs.Progress.{IsUnderWay, StreamProgress, progress_after}
use Rattle.composed_ops.specs.Step.{outcome_by, step_of}
use Rattle.composed_ops.specs.Want.{asking_want}
use Rattle.composed_ops.proofs.ReactorLemmas.{writes-answered}
use Rattle.composed_ops.proofs.RunLemmas.{machines-wait}
use Rattle.reactor_trait.specs.Reactor.{IsMoveWithin, Outside, with_stream}
use Rattle.proactor_core.specs.Reactor.{told_stream}
use Rattle.proactor_core.specs.Reading.{exchange_at, Ends, IsRound}
use Rattle.proactor_core.specs.Round.{round_of}
use Rattle.proactor_core.specs.Writing.{AsksToWrite}
use Rattle.proactor_core.specs.declared.round.StreamRound.{StreamRound}
use Rattle.proactor_core.proofs.ReadingLemmas.{answer-round, told_stream-changed}

pub moved-within : (most : ℕ) (answer : Moved) → IsMoveWithin most answer → moved_count answer ≤ most
moved-within most (moved.Took count) within = within.1
moved-within most moved.End within = omega arith
moved-within most moved.NotYet within = omega arith
moved-within most moved.Reset within = omega arith

take-fewer : (count most : ℕ) (bytes : List ℕ) → count ≤ most → take count (take most bytes) ≡ take count bytes
take-fewer zero most bytes fewer = refl
take-fewer (suc count) zero bytes fewer = absurd (omega arith)
take-fewer (suc count) (suc most) [] fewer = refl
take-fewer (suc count) (suc most) (b ∷ bytes) fewer = ap (λ bs. b ∷ bs) (take-fewer count most bytes (omega arith))

-- writing the first of some bytes is writing as many of all
written-same : (writing : Writing) (from most count : ℕ) (bytes : List ℕ) (stream : Stream) →
    bytes ≡ bytes_from (Writes writing) from most → count ≤ most →
    after_writing (Some_of bytes) 0 count stream ≡ after_writing writing from count stream
written-same writing from most count bytes stream are fewer =
    let first : take count bytes ≡ take count (drop from (bytes_of writing)) =
    ap (take count) are ∙ take-fewer count most (drop from (bytes_of writing)) fewer in
    rw first

behind : (outside : Outside) (left : Option Outside) (number : ℕ) (writing : Writing) (from most count : ℕ)
    (bytes : List ℕ) → number < length outside.streams → bytes ≡ bytes_from (Writes writing) from most →
    count ≤ most → left ≡ option_map (with_stream number (after_writing (Some_of bytes) 0 count)) (Some outside) →
    told_stream left number ≡ after_writing writing from count (stream_at outside.streams number)
behind outside left number writing from most count bytes there are fewer takes =
    ap (λ t. told_stream t number) takes
    ∙ told_stream-changed outside number (after_writing (Some_of bytes) 0 count) there
    ∙ written-same writing from most count bytes (stream_at outside.streams number) are fewer

-- a write to the reactor was answered
pub write-follows : (told left : Option Outside) (number : ℕ) (asks : StreamOperation) (before : ℕ) (latest : Option ℕ)
    (next : StreamProgress) (held : List ℕ) (from most : ℕ) (bytes : List ℕ) (answer : Moved) (turn : StreamRound) →
    (let progress : StreamProgress = record { asks = asks; moved = before; latest = latest } in
    IsUnderWay progress → AsksToWrite asks → asking_want asks before [] ≡ want.Write from most →
    IfSome told (λ outside. number < length outside.streams) →
    IfSome told (λ outside. answer ≡ write_answer bytes (stream_at outside.streams number)) →
    bytes ≡ bytes_from asks from most → moved_count answer ≤ most →
    left ≡ option_map (with_stream number (after_writing (Some_of bytes) 0 (moved_count answer))) told →
    next ≡ progress_after progress answer → turn ≡ round_of (step_of (outcome_by progress answer)) →
    IfSome told (λ _. IsRound (exchange_at progress held told number) (exchange_at next held left number) turn))
write-follows None left number asks before latest next held from most bytes answer turn =
    λ under_way writes wants there answered are fewer takes moves turns. tt
write-follows (Some outside) left number (Reads reading) before latest next held from most bytes answer turn =
    λ under_way writes wants there answered are fewer takes moves turns. absurd writes
write-follows (Some outside) left number (Writes writing) before latest next held from most bytes answer turn =
    λ under_way writes wants there answered are fewer takes moves turns.
    let progress : StreamProgress = record { asks = Writes writing; moved = before; latest = latest } in
    let exchange = exchange_at progress held (Some outside) number in
    let ready : MayBeAsked exchange = record { under_way = under_way; searched = tt } in
    let told = writes-answered exchange from most ready wants in
    let is : answer ≡ write_answer (bytes_from (Writes writing) from most) (stream_at outside.streams number) =
    rw are at answered in
    let may : MayAnswer exchange answer = subst (MayAnswer exchange) (sym is) told.may in
    let step = answer-round exchange answer (outcome_by progress answer) ready may refl in
    let written =
    subst
    (λ w. IsRound exchange (exchange_answered w exchange answer) (round_of (step_of (outcome_by progress answer))))
    wants step in
    rw (turns, moves, behind outside left number writing from most (moved_count answer) bytes there are fewer takes) written

-- a write to the reactor that took nothing yet
pub write-waits : (told left : Option Outside) (number : ℕ) (asks : StreamOperation) (before : ℕ) (latest : Option ℕ)
    (held : List ℕ) (from most : ℕ) (bytes : List ℕ) (answer : Moved) →
    (let progress : StreamProgress = record { asks = asks; moved = before; latest = latest } in
    IsUnderWay progress → AsksToWrite asks → asking_want asks before [] ≡ want.Write from most →
    IfSome told (λ outside. number < length outside.streams) →
    IfSome told (λ outside. answer ≡ write_answer bytes (stream_at outside.streams number)) →
    bytes ≡ bytes_from asks from most → answer ≡ moved.NotYet →
    left ≡ option_map (with_stream number (after_writing (Some_of bytes) 0 (moved_count answer))) told →
    IfSome told (λ _. Ends (exchange_at progress held told number) (exchange_at progress held left number) None))
write-waits None left number asks before latest held from most bytes answer =
    λ under_way writes wants there answered are nothing takes. tt
write-waits (Some outside) left number (Reads reading) before latest held from most bytes answer =
    λ under_way writes wants there answered are nothing takes. absurd writes
write-waits (Some outside) left number (Writes writing) before latest held from most bytes answer =
    λ under_way writes wants there answered are nothing takes.
    let progress : StreamProgress = record { asks = Writes writing; moved = before; latest = latest } in
    let exchange = exchange_at progress held (Some outside) number in
    let ready : MayBeAsked exchange = record { under_way = under_way; searched = tt } in
    let told = writes-answered exchange from most ready wants in
    let is : answer ≡ write_answer (bytes_from (Writes writing) from most) (stream_at outside.streams number) =
    rw are at answered in
    let waits = machines-wait exchange ready (told.nothing (sym is ∙ nothing)) in
    let none : moved_count answer ≡ 0 = ap moved_count nothing in
    let same : told_stream left number ≡ stream_at outside.streams number =
    ap (λ t. told_stream t number) takes
    ∙ told_stream-changed outside number (after_writing (Some_of bytes) 0 (moved_count answer)) there
    ∙ ap (λ n. after_writing (Some_of bytes) 0 n (stream_at outside.streams number)) none
    ∙ nothing-written bytes (stream_at outside.streams number) in
    rw same waits
  where
    nothing-written : (bytes : List ℕ) (stream : Stream) → after_writing (Some_of bytes) 0 0 stream ≡ stream
    nothing-written bytes stream =
        let sent_same : stream.sent ++ [] ≡ stream.sent = append-nil stream.sent in
        let room_same : stream.room - 0 ≡ stream.room = omega arith in rw (sent_same, room_same)
