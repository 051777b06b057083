-- What a machine gives step by step, and in whole runs, is what the rules of streams give.
use Rattle.std.proofs.Common.{◌≡◌, ℕ, ◌+◌, ◌-◌, Option, None, Some, List, [], ◌∷◌, ◌++◌, length, take, drop, take_all, refl, sym, ap, ◌∙◌, arith}
use Rattle.std.specs.Option.{option_map}
use Rattle.std.proofs.Math.Seq.{take-append_seam}
use Rattle.std.proofs.lemmas.List.{append-nil, length-append, length-take-le}
use Rattle.asio_types.specs.declared.code.Code.{Code}
use Rattle.asio_types.specs.declared.code.Code.TheVariants as code
use Rattle.asio_types.specs.declared.outside.Moved.{Moved}
use Rattle.asio_types.specs.declared.outside.Moved.TheVariants as moved
use Rattle.stream_rules.specs.Cutting.{Course, served_on}
use Rattle.stream_rules.specs.Delimiter.{first_end}
use Rattle.stream_rules.specs.Moving.{moved_count}
use Rattle.stream_rules.specs.Queue.{reading_side}
use Rattle.stream_rules.specs.Serving.{Some_bytes, All_bytes, Until, Some_of, All_of, Outcome, ended_by, read_code, served_read, until_found, write_code}
use Rattle.stream_rules.specs.declared.serving.Served.{Served}
use Rattle.stream_rules.specs.Stream.{Stream}
use Rattle.composed_ops.specs.declared.want.Want.{Want}
use Rattle.composed_ops.specs.declared.want.Want.TheVariants as want
use Rattle.composed_ops.specs.StreamOperation.{StreamOperation, Reads, Writes}
use Rattle.composed_ops.specs.Feeding.{Exchange, MayBeAsked, MayAnswer, MayCome, GoesOn, MachinesGoOn, MachinesComplete, course_at, course_of, exchange_answered, whole_stream, wanted_in}
use Rattle.composed_ops.specs.Progress.{before_latest, newest}
use Rattle.composed_ops.specs.Step.{outcome_by, told_code}
use Rattle.composed_ops.specs.Want.{until_want}
use Rattle.composed_ops.proofs.AnswerLemmas.{all-by, all-on, counted-comes, counted-left, some-by, some-on}
use Rattle.composed_ops.proofs.CourseLemmas.{held-left, read-all-on, read-none-on, read_course, write-all-on, write-none-on, write_course}
use Rattle.composed_ops.proofs.WantLemmas.{IsUnfound, until-ended, until-open}

abbrev pub exchange_with : StreamOperation → ℕ → Option ℕ → List ℕ → Stream → Exchange
exchange_with asks before latest held stream =
    record { progress = record { asks = asks; moved = before; latest = latest }; held = held; stream = stream }

-- what a step has to give, by how it completes
abbrev StepIs : Exchange → Want → Moved → Option Outcome → Type 0
StepIs exchange wanted answer None = GoesOn exchange (exchange_answered wanted exchange answer)
StepIs exchange wanted answer (Some outcome) =
    course_of exchange ≡ course_at (exchange_answered wanted exchange answer) (Some outcome)

-- a piece that came behind bytes that were searched
pub searched-again : (delimiter held piece : List ℕ) → first_end delimiter held ≡ None →
    first_end delimiter (take (length (held ++ piece) - length piece) (held ++ piece)) ≡ None
searched-again delimiter held piece none =
    let before : length (held ++ piece) - length piece ≡ length held = omega (arith, length-append held piece) in
    ap (λ n. first_end delimiter (take n (held ++ piece))) before
    ∙ ap (first_end delimiter) (take-append_seam held piece) ∙ none

-- a read until a delimiter that asks for more has searched all bytes held
pub open-searched : (delimiter held : List ℕ) (max : ℕ) →
    IsUnfound (first_end delimiter (take max held)) max (length held) → first_end delimiter held ≡ None
open-searched delimiter held max unfound =
    let more = unfound.more in
    ap (first_end delimiter) (sym (take_all max held (omega arith))) ∙ unfound.none

some-read : (size before : ℕ) (latest : Option ℕ) (held : List ℕ) (stream : Stream) (answer : Moved)
    (o : Option Outcome) →
    (let exchange = exchange_with (Reads (Some_bytes size)) before latest held stream in
    MayBeAsked exchange → MayAnswer exchange answer → outcome_by exchange.progress answer ≡ o →
    StepIs exchange (wanted_in exchange) answer o)
some-read size before latest held stream answer None = λ ready may is.
    let exchange = exchange_with (Reads (Some_bytes size)) before latest held stream in
    let mark = option_map read_code stream.read_mark in
    let missing = ready.under_way.missing in
    let comes = counted-comes (size - before) held stream answer (omega arith) may.comes in
    let none = some-on size (length (held ++ stream.arrived)) (size - before) mark code.Eof answer comes is in
    let fresh = ready.under_way.before in
    let moved_none : before + moved_count answer ≡ 0 = omega arith in
    record {
      ready =
          record {
            under_way = record { missing = omega arith; counted = ready.under_way.counted; before = moved_none };
            searched = tt;
          };
      same =
          ap (λ s. served_on reading_side (Some_bytes size) (before + moved_count answer) s None)
          (counted-left (Reads (Some_bytes size)) (λ h p. refl) (size - before) held stream answer may.comes)
          ∙ read-none-on (Some_bytes size) before (moved_count answer) (whole_stream exchange) none;
    }
some-read size before latest held stream answer (Some outcome) = λ ready may is.
    let exchange = exchange_with (Reads (Some_bytes size)) before latest held stream in
    let mark = option_map read_code stream.read_mark in
    let missing = ready.under_way.missing in
    let comes = counted-comes (size - before) held stream answer (omega arith) may.comes in
    let served =
    some-by size (length (held ++ stream.arrived)) (size - before) mark code.Eof answer outcome (omega arith) comes
    may.whole is in
    ap (read_course before (whole_stream exchange)) served
    ∙ sym (ap (λ s.
    let c : Course = record { moved = before + moved_count answer; outcome = Some outcome; stream = s } in c)
    (counted-left (Reads (Some_bytes size)) (λ h p. refl) (size - before) held stream answer may.comes))

all-read : (size before : ℕ) (latest : Option ℕ) (held : List ℕ) (stream : Stream) (answer : Moved)
    (o : Option Outcome) →
    (let exchange = exchange_with (Reads (All_bytes size)) before latest held stream in
    MayBeAsked exchange → MayAnswer exchange answer → outcome_by exchange.progress answer ≡ o →
    StepIs exchange (wanted_in exchange) answer o)
all-read size before latest held stream answer None = λ ready may is.
    let exchange = exchange_with (Reads (All_bytes size)) before latest held stream in
    let mark = option_map read_code stream.read_mark in
    let missing = ready.under_way.missing in
    let comes = counted-comes (size - before) held stream answer (omega arith) may.comes in
    let goes =
    all-on size before (length (held ++ stream.arrived)) (size - before) mark code.Eof answer missing comes is in
    record {
      ready =
          record {
            under_way = record { missing = goes.short; counted = ready.under_way.counted; before = tt };
            searched = tt;
          };
      same =
          ap (λ s. served_on reading_side (All_bytes size) (before + moved_count answer) s None)
          (counted-left (Reads (All_bytes size)) (λ h p. refl) (size - before) held stream answer may.comes)
          ∙ read-all-on size before (moved_count answer) (whole_stream exchange) goes;
    }
all-read size before latest held stream answer (Some outcome) = λ ready may is.
    let exchange = exchange_with (Reads (All_bytes size)) before latest held stream in
    let mark = option_map read_code stream.read_mark in
    let missing = ready.under_way.missing in
    let comes = counted-comes (size - before) held stream answer (omega arith) may.comes in
    let served =
    all-by size before (length (held ++ stream.arrived)) (size - before) mark code.Eof answer outcome missing
    (omega arith) comes is in
    ap (read_course before (whole_stream exchange)) served
    ∙ sym (ap (λ s.
    let c : Course = record { moved = before + moved_count answer; outcome = Some outcome; stream = s } in c)
    (counted-left (Reads (All_bytes size)) (λ h p. refl) (size - before) held stream answer may.comes))

some-write : (bytes : List ℕ) (before : ℕ) (latest : Option ℕ) (held : List ℕ) (stream : Stream) (answer : Moved)
    (o : Option Outcome) →
    (let exchange = exchange_with (Writes (Some_of bytes)) before latest held stream in
    MayBeAsked exchange → MayAnswer exchange answer → outcome_by exchange.progress answer ≡ o →
    StepIs exchange (wanted_in exchange) answer o)
some-write bytes before latest held stream answer None = λ ready may is.
    let exchange = exchange_with (Writes (Some_of bytes)) before latest held stream in
    let mark = option_map write_code stream.write_mark in
    let missing = ready.under_way.missing in
    let none = some-on (length bytes) stream.room (length bytes - before) mark code.Broken answer may.comes is in
    let fresh = ready.under_way.before in
    let moved_none : before + moved_count answer ≡ 0 = omega arith in
    record {
      ready =
          record {
            under_way = record { missing = omega arith; counted = ready.under_way.counted; before = moved_none };
            searched = tt;
          };
      same = write-none-on (Some_of bytes) before (moved_count answer) (whole_stream exchange) none;
    }
some-write bytes before latest held stream answer (Some outcome) = λ ready may is.
    let exchange = exchange_with (Writes (Some_of bytes)) before latest held stream in
    let mark = option_map write_code stream.write_mark in
    ap (write_course (Some_of bytes) before (whole_stream exchange)) (some-by (length bytes) stream.room
    (length bytes - before) mark code.Broken answer outcome (omega arith) may.comes may.whole is)

all-write : (bytes : List ℕ) (before : ℕ) (latest : Option ℕ) (held : List ℕ) (stream : Stream) (answer : Moved)
    (o : Option Outcome) →
    (let exchange = exchange_with (Writes (All_of bytes)) before latest held stream in
    MayBeAsked exchange → MayAnswer exchange answer → outcome_by exchange.progress answer ≡ o →
    StepIs exchange (wanted_in exchange) answer o)
all-write bytes before latest held stream answer None = λ ready may is.
    let exchange = exchange_with (Writes (All_of bytes)) before latest held stream in
    let mark = option_map write_code stream.write_mark in
    let goes =
    all-on (length bytes) before stream.room (length bytes - before) mark code.Broken answer ready.under_way.missing
    may.comes is in
    record {
      ready =
          record {
            under_way = record { missing = goes.short; counted = ready.under_way.counted; before = tt };
            searched = tt;
          };
      same = write-all-on bytes before (moved_count answer) (whole_stream exchange) goes;
    }
all-write bytes before latest held stream answer (Some outcome) = λ ready may is.
    let exchange = exchange_with (Writes (All_of bytes)) before latest held stream in
    let mark = option_map write_code stream.write_mark in
    ap (write_course (All_of bytes) before (whole_stream exchange)) (all-by (length bytes) before stream.room
    (length bytes - before) mark code.Broken answer outcome ready.under_way.missing (omega arith) may.comes is)

pub no-bytes : (bytes : List ℕ) → length bytes ≡ 0 → bytes ≡ []
no-bytes [] none = refl
no-bytes (b ∷ bytes) none = absurd (omega arith)

-- after a piece the bytes before it are searched; without one all is as before
until-searched : (delimiter held : List ℕ) (latest : Option ℕ) (stream : Stream) (most : ℕ) (answer : Moved) →
    first_end delimiter held ≡ None → first_end delimiter (take (before_latest latest (length held)) held) ≡ None →
    MayCome stream (want.Read most) answer →
    (let all = held ++ take (moved_count answer) stream.arrived in
    first_end delimiter (take (before_latest (newest latest answer) (length all)) all) ≡ None)
until-searched delimiter held latest stream most (moved.Took count) none searched comes =
    let piece = take count stream.arrived in
    let size : length piece ≡ count = length-take-le count stream.arrived comes.2 in
    ap (λ n. first_end delimiter (take (length (held ++ piece) - n) (held ++ piece))) (sym size)
    ∙ searched-again delimiter held piece none
until-searched delimiter held latest stream most moved.End none searched comes =
    ap (λ l. first_end delimiter (take (before_latest latest (length l)) l)) (append-nil held) ∙ searched
until-searched delimiter held latest stream most moved.NotYet none searched comes =
    ap (λ l. first_end delimiter (take (before_latest latest (length l)) l)) (append-nil held) ∙ searched
until-searched delimiter held latest stream most moved.Reset none searched comes =
    ap (λ l. first_end delimiter (take (before_latest latest (length l)) l)) (append-nil held) ∙ searched

-- an open read until a delimiter is ended by the mark, where nothing is there behind the held bytes
pub until-nothing : (delimiter held : List ℕ) (max : ℕ) (stream : Stream) (mark : Option Code)
    (outcome : Option Outcome) → IsUnfound (first_end delimiter (take max held)) max (length held) →
    stream.arrived ≡ [] → option_map read_code stream.read_mark ≡ mark → ended_by mark 0 ≡ outcome →
    until_found (first_end delimiter (take max (held ++ stream.arrived))) max (length (held ++ stream.arrived))
    (option_map read_code stream.read_mark) ≡ record { used = 0; outcome = outcome }
until-nothing delimiter held max stream mark outcome unfound none marked is =
    let all : held ++ stream.arrived ≡ held = ap (λ l. held ++ l) none ∙ append-nil held in
    ap (λ l. until_found (first_end delimiter (take max l)) max (length l) (option_map read_code stream.read_mark)) all
    ∙ until-ended (first_end delimiter (take max held)) max (length held) (option_map read_code stream.read_mark) unfound
    ∙ ap (λ m. let s : Served = record { used = 0; outcome = ended_by m 0 } in s) marked
    ∙ ap (λ o. let s : Served = record { used = 0; outcome = o } in s) is

-- a mark ends it
until-marked : (delimiter held : List ℕ) (max before : ℕ) (latest : Option ℕ) (stream : Stream) (end : Code)
    (outcome : Outcome) → IsUnfound (first_end delimiter (take max held)) max (length held) →
    length stream.arrived ≡ 0 → option_map read_code stream.read_mark ≡ Some end → Some (end, 0) ≡ Some outcome →
    (let exchange = exchange_with (Reads (Until delimiter max)) before latest held stream in
    course_of exchange
    ≡ record {
      moved = before + 0;
      outcome = Some outcome;
      stream = record stream { arrived = (held ++ take 0 stream.arrived) ++ drop 0 stream.arrived };
    })
until-marked delimiter held max before latest stream end outcome unfound none marked is =
    let exchange = exchange_with (Reads (Until delimiter max)) before latest held stream in
    ap (read_course before (whole_stream exchange)) (until-nothing delimiter held max stream (Some end) (Some outcome)
    unfound (no-bytes stream.arrived none) marked is)
    ∙ sym (ap (λ s. let c : Course = record { moved = before + 0; outcome = Some outcome; stream = s } in c)
    (held-left held 0 stream))

until-completes : (delimiter held : List ℕ) (max before : ℕ) (latest : Option ℕ) (stream : Stream) (answer : Moved)
    (outcome : Outcome) → IsUnfound (first_end delimiter (take max held)) max (length held) →
    MayCome stream (want.Read (max - length held)) answer → ended_by (told_code code.Eof answer) 0 ≡ Some outcome →
    (let exchange = exchange_with (Reads (Until delimiter max)) before latest held stream in
    course_of exchange
    ≡ course_at (exchange_answered (want.Read (max - length held)) exchange answer) (Some outcome))
until-completes delimiter held max before latest stream (moved.Took count) outcome unfound comes is = absurd (cc)
until-completes delimiter held max before latest stream moved.End outcome unfound comes is =
    until-marked delimiter held max before latest stream code.Eof outcome unfound comes.0 comes.1 is
until-completes delimiter held max before latest stream moved.NotYet outcome unfound comes is = absurd (cc)
until-completes delimiter held max before latest stream moved.Reset outcome unfound comes is =
    until-marked delimiter held max before latest stream code.Reset outcome unfound comes.0 comes.1 is

until-goes_on : (delimiter held : List ℕ) (max before : ℕ) (latest : Option ℕ) (stream : Stream) (answer : Moved) →
    (let exchange = exchange_with (Reads (Until delimiter max)) before latest held stream in
    IsUnfound (first_end delimiter (take max held)) max (length held) →
    MayCome stream (want.Read (max - length held)) answer → MayBeAsked exchange →
    GoesOn exchange (exchange_answered (want.Read (max - length held)) exchange answer))
until-goes_on delimiter held max before latest stream answer = λ unfound comes ready.
    let exchange = exchange_with (Reads (Until delimiter max)) before latest held stream in
    let missing = ready.under_way.missing in
    let fresh = ready.under_way.before in
    let same : before + 0 ≡ before = omega arith in
    let none : before + 0 ≡ 0 = omega arith in
    record {
      ready = record {
        under_way = record { missing = omega arith; counted = ready.under_way.counted; before = none };
        searched =
            until-searched delimiter held latest stream (max - length held) answer
            (open-searched delimiter held max unfound) ready.searched comes;
      };
      same =
          ap (λ s. served_on reading_side (Until delimiter max) (before + 0) s None) (held-left held (moved_count answer) stream)
          ∙ ap (λ n. served_on reading_side (Until delimiter max) n (whole_stream exchange) None) same;
    }

until-step : (delimiter held : List ℕ) (max before : ℕ) (latest : Option ℕ) (stream : Stream) (answer : Moved)
    (o : Option Outcome) →
    (let exchange = exchange_with (Reads (Until delimiter max)) before latest held stream in
    IsUnfound (first_end delimiter (take max held)) max (length held) →
    MayCome stream (want.Read (max - length held)) answer → MayBeAsked exchange →
    outcome_by exchange.progress answer ≡ o → StepIs exchange (want.Read (max - length held)) answer o)
until-step delimiter held max before latest stream answer None = λ unfound comes ready is.
    until-goes_on delimiter held max before latest stream answer unfound comes ready
until-step delimiter held max before latest stream answer (Some outcome) = λ unfound comes ready is.
    until-completes delimiter held max before latest stream answer outcome unfound comes is

until-read : (delimiter held : List ℕ) (max before : ℕ) (latest : Option ℕ) (stream : Stream) (answer : Moved)
    (o found : Option Outcome) →
    (let exchange = exchange_with (Reads (Until delimiter max)) before latest held stream in
    (served_read (Until delimiter max) before held None).outcome ≡ found →
    MayCome stream (until_want found (max - length held)) answer → MayBeAsked exchange →
    outcome_by exchange.progress answer ≡ o → StepIs exchange (until_want found (max - length held)) answer o)
until-read delimiter held max before latest stream answer o (Some outcome) = λ found comes ready is. absurd comes
until-read delimiter held max before latest stream answer o None = λ found comes ready is.
    until-step delimiter held max before latest stream answer o
    (until-open (first_end delimiter (take max held)) max (length held) None found) comes ready is

step-is : (asks : StreamOperation) (before : ℕ) (latest : Option ℕ) (held : List ℕ) (stream : Stream) (answer : Moved)
    (o : Option Outcome) →
    (let exchange = exchange_with asks before latest held stream in
    MayBeAsked exchange → MayAnswer exchange answer → outcome_by exchange.progress answer ≡ o →
    StepIs exchange (wanted_in exchange) answer o)
step-is (Reads (Some_bytes size)) before latest held stream answer o = some-read size before latest held stream answer o
step-is (Reads (All_bytes size)) before latest held stream answer o = all-read size before latest held stream answer o
step-is (Reads (Until delimiter max)) before latest held stream answer o = λ ready may is.
    until-read delimiter held max before latest stream answer o
    (served_read (Until delimiter max) before held None).outcome refl may.comes ready is
step-is (Writes (Some_of bytes)) before latest held stream answer o =
    some-write bytes before latest held stream answer o
step-is (Writes (All_of bytes)) before latest held stream answer o = all-write bytes before latest held stream answer o

pub machines-go_on : MachinesGoOn
machines-go_on exchange answer ready may is =
    step-is exchange.progress.asks exchange.progress.moved exchange.progress.latest exchange.held exchange.stream answer
    None ready may is

pub machines-complete : MachinesComplete
machines-complete exchange answer outcome ready may is =
    step-is exchange.progress.asks exchange.progress.moved exchange.progress.latest exchange.held exchange.stream answer
    (Some outcome) ready may is
