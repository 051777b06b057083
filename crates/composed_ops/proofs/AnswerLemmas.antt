-- What an operation gives by an answer is what it gives on all that is there.
use Rattle.std.proofs.Common.{◌≡◌, ℕ, ◌-◌, ◌<◌, ◌≤◌, min, Option, None, Some, List, [], ◌∷◌, ◌++◌, length, take, drop, refl, sym, ap, ◌∙◌, arith}
use Rattle.std.specs.Option.{option_map}
use Rattle.std.proofs.lemmas.List.{drop-append-le, length-append}
use Rattle.asio_types.specs.declared.code.Code.{Code}
use Rattle.asio_types.specs.declared.code.Code.TheVariants as code
use Rattle.asio_types.specs.declared.outside.Moved.{Moved}
use Rattle.asio_types.specs.declared.outside.Moved.TheVariants as moved
use Rattle.stream_rules.specs.Moving.{moved_count}
use Rattle.stream_rules.specs.Serving.{Outcome, after_reading, all_of, ended_by, read_code, some_of}
use Rattle.stream_rules.specs.declared.serving.Served.{Served}
use Rattle.stream_rules.specs.Stream.{Stream}
use Rattle.composed_ops.specs.StreamOperation.{StreamOperation}
use Rattle.composed_ops.specs.Feeding.{IsAnswer, IsAllThere, MayCome, held_after, held_with, stream_after}
use Rattle.composed_ops.specs.Step.{told_code}
use Rattle.composed_ops.specs.Want.{counted_want}
use Rattle.composed_ops.proofs.CountLemmas.{AllGoesOn, all-completes, all-goes_on, all-nothing, some-completes, some-nothing, some-there}

abbrev nothing_with : Option Outcome → Served
nothing_with outcome = record { used = 0; outcome = outcome }

-- an answer completes one that takes what is there
pub some-by : (size there most : ℕ) (mark : Option Code) (end : Code) (answer : Moved) (outcome : Outcome) →
    most ≤ size → IsAnswer there mark end most answer → IsAllThere size there answer →
    (some_of size (moved_count answer) (told_code end answer)).outcome ≡ Some outcome →
    some_of size there mark ≡ record { used = moved_count answer; outcome = Some outcome }
some-by size there most mark end (moved.Took count) outcome fits comes whole completes =
    some-completes size count there mark outcome comes.0 (omega (arith, comes.1)) comes.2 whole completes
some-by size there most mark end moved.End outcome fits comes whole completes =
    some-nothing size there mark comes.0 ∙ ap (λ m. nothing_with (ended_by m 0)) comes.1 ∙ ap nothing_with completes
some-by size there most mark end moved.NotYet outcome fits comes whole completes = absurd (cc)
some-by size there most mark end moved.Reset outcome fits comes whole completes =
    some-nothing size there mark comes.0 ∙ ap (λ m. nothing_with (ended_by m 0)) comes.1 ∙ ap nothing_with completes

-- it goes on only where nothing came
pub some-on : (size there most : ℕ) (mark : Option Code) (end : Code) (answer : Moved) →
    IsAnswer there mark end most answer → (some_of size (moved_count answer) (told_code end answer)).outcome ≡ None →
    moved_count answer ≡ 0
some-on size there most mark end (moved.Took count) comes stays =
    let done = ap (λ (s : Served). s.outcome) (some-there size count None comes.0) in absurd (cc)
some-on size there most mark end moved.End comes stays = refl
some-on size there most mark end moved.NotYet comes stays = refl
some-on size there most mark end moved.Reset comes stays = refl

-- what one gives that a mark ends
all-ended : (size before there : ℕ) (mark : Option Code) (end : Code) (outcome : Outcome) → before < size → there ≡ 0 →
    mark ≡ Some end → (all_of size before 0 (Some end)).outcome ≡ Some outcome →
    all_of size before there mark ≡ nothing_with (Some outcome)
all-ended size before there mark end outcome missing none marked completes =
    let told = ap (λ (s : Served). s.outcome) (all-nothing size before 0 (Some end) missing refl) in
    all-nothing size before there mark missing none ∙ ap (λ m. nothing_with (ended_by m before)) marked
    ∙ ap nothing_with (sym told ∙ completes)

-- an answer completes one that takes all that it asks for
pub all-by : (size before there most : ℕ) (mark : Option Code) (end : Code) (answer : Moved) (outcome : Outcome) →
    before < size → most ≤ size - before → IsAnswer there mark end most answer →
    (all_of size before (moved_count answer) (told_code end answer)).outcome ≡ Some outcome →
    all_of size before there mark ≡ record { used = moved_count answer; outcome = Some outcome }
all-by size before there most mark end (moved.Took count) outcome missing fits comes completes =
    all-completes size before count there mark outcome missing (omega (arith, comes.1)) comes.2 completes
all-by size before there most mark end moved.End outcome missing fits comes completes =
    all-ended size before there mark end outcome missing comes.0 comes.1 completes
all-by size before there most mark end moved.NotYet outcome missing fits comes completes =
    let told = ap (λ (s : Served). s.outcome) (all-nothing size before 0 None missing refl) in absurd (cc)
all-by size before there most mark end moved.Reset outcome missing fits comes completes =
    all-ended size before there mark code.Reset outcome missing comes.0 comes.1 completes

all-marked : (size before : ℕ) (end : Code) → before < size →
    (all_of size before 0 (Some end)).outcome ≡ Some (end, before)
all-marked size before end missing = ap (λ (s : Served). s.outcome) (all-nothing size before 0 (Some end) missing refl)

-- or it goes on with the rest
pub all-on : (size before there most : ℕ) (mark : Option Code) (end : Code) (answer : Moved) → before < size →
    IsAnswer there mark end most answer →
    (all_of size before (moved_count answer) (told_code end answer)).outcome ≡ None →
    AllGoesOn size before (moved_count answer) there mark
all-on size before there most mark end (moved.Took count) missing comes stays =
    all-goes_on size before count there mark comes.2 stays
all-on size before there most mark end moved.End missing comes stays =
    let told = all-marked size before end missing in absurd (cc)
all-on size before there most mark end moved.NotYet missing comes stays =
    all-goes_on size before 0 there mark (omega arith) stays
all-on size before there most mark end moved.Reset missing comes stays =
    let told = all-marked size before code.Reset missing in absurd (cc)

-- what is consumed of the held bytes is an answer too
pub counted-comes : (missing : ℕ) (held : List ℕ) (stream : Stream) (answer : Moved) → 1 ≤ missing →
    MayCome stream (counted_want missing held) answer →
    IsAnswer (length (held ++ stream.arrived)) (option_map read_code stream.read_mark) code.Eof missing answer
counted-comes missing [] stream answer some comes = comes
counted-comes missing (byte ∷ held) stream answer some comes =
    let size = length-append (byte ∷ held) stream.arrived in
    let least : 1 ≤ min missing (length (byte ∷ held)) = omega arith in
    let most : min missing (length (byte ∷ held)) ≤ missing = omega arith in
    let within : min missing (length (byte ∷ held)) ≤ length ((byte ∷ held) ++ stream.arrived) = omega (arith, size) in
    rw comes (least, most, within)

-- the stream with the held bytes in front, once some of them or some behind them were consumed
pub counted-left : (asks : StreamOperation) → ((held piece : List ℕ) → held_with asks held piece ≡ held) →
    (missing : ℕ) (held : List ℕ) (stream : Stream) (answer : Moved) →
    MayCome stream (counted_want missing held) answer →
    (let left = stream_after asks (counted_want missing held) (moved_count answer) stream in
    let s : Stream =
    record left {
      arrived =
          held_after asks (counted_want missing held) (moved_count answer) held stream ++ left.arrived;
    } in
    s) ≡ after_reading (moved_count answer) (record stream { arrived = held ++ stream.arrived })
counted-left asks keeps missing [] stream answer comes =
    let with_held : List ℕ → Stream = λ h. record stream { arrived = h ++ drop (moved_count answer) stream.arrived } in
    ap with_held (keeps [] (take (moved_count answer) stream.arrived))
counted-left asks keeps missing (byte ∷ held) stream answer comes =
    let count : moved_count answer ≡ min missing (length (byte ∷ held)) = ap moved_count comes in
    let within : moved_count answer ≤ length (byte ∷ held) = omega (arith, count) in
    ap (λ bytes. let s : Stream = record stream { arrived = bytes } in s)
    (sym (drop-append-le (moved_count answer) (byte ∷ held) stream.arrived within))
