-- What a machine gives that finishes or waits, and in whole runs.
use Rattle.std.proofs.Common.{◌≡◌, ℕ, ◌+◌, ◌-◌, ◌<◌, ◌≤◌, nat_le, true, false, Bool, Option, None, Some, List, [], ◌∷◌, ◌++◌, length, take, refl, sym, ap, ◌∙◌, arith}
use Rattle.std.specs.Option.{option_map}
use Rattle.std.proofs.lemmas.List.{append-nil, drop-append-le, length-take}
use Rattle.asio_types.specs.declared.code.Code.{Code}
use Rattle.asio_types.specs.declared.code.Code.TheVariants as code
use Rattle.stream_rules.specs.Cutting.{Course}
use Rattle.stream_rules.specs.Delimiter.{first_end}
use Rattle.stream_rules.specs.Serving.{Some_bytes, All_bytes, Until, Writing, Some_of, All_of, Outcome, after_reading, after_writing, all_of, ended_by, read_code, served_read, some_of, until_found, write_code}
use Rattle.stream_rules.specs.declared.serving.Served.{Served}
use Rattle.stream_rules.specs.Stream.{Stream}
use Rattle.stream_rules.proofs.CuttingLemmas.{read-complete}
use Rattle.stream_rules.proofs.DelimiterLemmas.{first_end-ends}
use Rattle.composed_ops.specs.declared.want.Want.TheVariants as want
use Rattle.composed_ops.specs.StreamOperation.{StreamOperation, Reads, Writes, IsSizedAsking}
use Rattle.composed_ops.specs.Feeding.{MayBeAsked, HasNothing, HoldingKeeps, MachinesBegin, MachinesFinish, MachinesWait, RunsAreByTheRules, asking_course, completes, course_at, course_of, finishes, goes_on, exchange_after, exchange_finished, whole_stream, waits, wanted_in}
use Rattle.composed_ops.specs.Want.{counted_want, until_want}
use Rattle.composed_ops.proofs.CountLemmas.{all-nothing, some-nothing}
use Rattle.composed_ops.proofs.CourseLemmas.{held-left, read_course, write_course}
use Rattle.composed_ops.proofs.FeedingLemmas.{machines-complete, machines-go_on, exchange_with, until-nothing}
use Rattle.composed_ops.proofs.WantLemmas.{until-open}

-- what a read until a delimiter uses that completes without a mark
record FinishesWith (served : Served) (size there : ℕ) : Type 0 where
  used : served.used ≡ size
  within : size ≤ there

same-size : (a b : Outcome) → Some a ≡ Some b → a.1 ≡ b.1
same-size a b is = let same : a ≡ b = cc in ap (λ (o : Outcome). o.1) same

until-full : (max there size : ℕ) (ended : Code) (test : Bool) → nat_le max there ≡ test →
    (until_found None max there None).outcome ≡ Some (ended, size) → 0 ≡ size
until-full max there size ended true full is =
    let found : (until_found None max there None).outcome ≡ Some (code.NotFound, 0) = rw full refl in
    same-size (code.NotFound, 0) (ended, size) (sym found ∙ is)
until-full max there size ended false full is =
    let none : (until_found None max there None).outcome ≡ None = rw full refl in absurd (cc)

until-finishes : (delimiter held : List ℕ) (max : ℕ) (found : Option ℕ) (size : ℕ) (ended : Code) →
    first_end delimiter (take max held) ≡ found →
    (until_found found max (length held) None).outcome ≡ Some (ended, size) →
    FinishesWith (until_found found max (length held) None) size (length held)
until-finishes delimiter held max (Some count) size ended at is =
    let ends = first_end-ends delimiter (take max held) count at in
    let same = same-size (code.Ok, count) (ended, size) is in
    record { used = same; within = omega (arith, ends.within, length-take max held) }
until-finishes delimiter held max None size ended at is =
    let none = until-full max (length held) size ended (nat_le max (length held)) refl is in
    record { used = none; within = omega (arith) }

until-finish : (delimiter held : List ℕ) (max before size : ℕ) (latest : Option ℕ) (stream : Stream) (ended : Code) →
    (served_read (Until delimiter max) before held None).outcome ≡ Some (ended, size) →
    (let exchange = exchange_with (Reads (Until delimiter max)) before latest held stream in
    course_of exchange ≡ course_at (exchange_finished exchange size) (Some (ended, size)))
until-finish delimiter held max before size latest stream ended is =
    let exchange = exchange_with (Reads (Until delimiter max)) before latest held stream in
    let whole = read-complete (Until delimiter max) tt before held stream.arrived (stream.read_mark) (ended, size) is in
    let parts = until-finishes delimiter held max (first_end delimiter (take max held)) size ended refl is in
    let with_outcome : Option Outcome → Course = λ o.
    let used = (served_read (Until delimiter max) before held None).used in
    record { moved = before + used; outcome = o; stream = after_reading used (whole_stream exchange) } in
    let with_used : ℕ → Course = λ n. record {
      moved = before + n;
      outcome = Some (ended, size);
      stream = after_reading n (whole_stream exchange);
    } in
    let with_bytes : List ℕ → Course = λ bytes. record {
      moved = before + size;
      outcome = Some (ended, size);
      stream = record stream { arrived = bytes };
    } in
    ap (read_course before (whole_stream exchange)) whole.same ∙ ap with_outcome is ∙ ap with_used parts.used
    ∙ ap with_bytes (drop-append-le size held stream.arrived parts.within)

until-found : (delimiter held : List ℕ) (max before size : ℕ) (latest : Option ℕ) (stream : Stream) (ended : Code)
    (found : Option Outcome) → (served_read (Until delimiter max) before held None).outcome ≡ found →
    until_want found (max - length held) ≡ want.Finish ended size →
    (let exchange = exchange_with (Reads (Until delimiter max)) before latest held stream in
    course_of exchange ≡ course_at (exchange_finished exchange size) (Some (ended, size)))
until-found delimiter held max before size latest stream ended None at is = absurd (cc)
until-found delimiter held max before size latest stream ended (Some (c, n)) at is =
    let same : c ≡ ended = cc in
    let count : n ≡ size = cc in
    let outcome : Some (c, n) ≡ Some (ended, size) =
    ap (λ x. let o : Option Outcome = Some (x, n) in o) same
    ∙ ap (λ x. let o : Option Outcome = Some (ended, x) in o) count in
    until-finish delimiter held max before size latest stream ended (at ∙ outcome)

counted-open : (missing : ℕ) (held : List ℕ) (size : ℕ) (ended : Code) (P : Type 0) →
    counted_want missing held ≡ want.Finish ended size → P
counted-open missing [] size ended P is = absurd (cc)
counted-open missing (b ∷ held) size ended P is = absurd (cc)

finish-is : (asks : StreamOperation) (before : ℕ) (latest : Option ℕ) (held : List ℕ) (stream : Stream) (ended : Code)
    (size : ℕ) →
    (let exchange = exchange_with asks before latest held stream in
    wanted_in exchange ≡ want.Finish ended size →
    course_of exchange ≡ course_at (exchange_finished exchange size) (Some (ended, size)))
finish-is (Reads (Some_bytes most)) before latest held stream ended size = λ is.
    let exchange = exchange_with (Reads (Some_bytes most)) before latest held stream in
    counted-open (most - before) held size ended
    (course_of exchange ≡ course_at (exchange_finished exchange size) (Some (ended, size))) is
finish-is (Reads (All_bytes most)) before latest held stream ended size = λ is.
    let exchange = exchange_with (Reads (All_bytes most)) before latest held stream in
    counted-open (most - before) held size ended
    (course_of exchange ≡ course_at (exchange_finished exchange size) (Some (ended, size))) is
finish-is (Reads (Until delimiter max)) before latest held stream ended size = λ is.
    until-found delimiter held max before size latest stream ended
    (served_read (Until delimiter max) before held None).outcome refl is
finish-is (Writes writing) before latest held stream ended size = λ is. absurd (cc)

pub machines-finish : MachinesFinish
machines-finish exchange ended size ready is =
    finish-is exchange.progress.asks exchange.progress.moved exchange.progress.latest exchange.held exchange.stream ended size is

-- where nothing is there and no mark, nothing moves
read-still : (before : ℕ) (stream : Stream) (served : Served) → served ≡ record { used = 0; outcome = None } →
    read_course before stream served ≡ record { moved = before; outcome = None; stream = stream }
read-still before stream served none =
    let same : before + 0 ≡ before = omega arith in
    ap (read_course before stream) none
    ∙ ap (λ n. let c : Course = record { moved = n; outcome = None; stream = stream } in c) same

write-still : (writing : Writing) (before : ℕ) (stream : Stream) (served : Served) →
    served ≡ record { used = 0; outcome = None } →
    write_course writing before stream served ≡ record { moved = before; outcome = None; stream = stream }
write-still writing before stream served none =
    let same : before + 0 ≡ before = omega arith in
    let room : stream.room - 0 ≡ stream.room = omega arith in
    ap (write_course writing before stream) none
    ∙ ap (λ n. let c : Course = record { moved = n; outcome = None; stream = after_writing writing before 0 stream } in c) same
    ∙ ap (λ n.
    let c : Course = record {
      moved = before;
      outcome = None;
      stream = record stream { room = n; sent = stream.sent ++ [] };
    } in
    c) room
    ∙ ap (λ bytes.
    let c : Course = record { moved = before; outcome = None; stream = record stream { sent = bytes } } in c)
    (append-nil stream.sent)

abbrev still : Option Code → ℕ → Served
still mark size = record { used = 0; outcome = ended_by mark size }

some-wait : (size : ℕ) (there : ℕ) (mark : Option Code) → there ≡ 0 → mark ≡ None →
    some_of size there mark ≡ record { used = 0; outcome = None }
some-wait size there mark none unmarked = some-nothing size there mark none ∙ ap (λ m. still m 0) unmarked

all-wait : (size before there : ℕ) (mark : Option Code) → before < size → there ≡ 0 → mark ≡ None →
    all_of size before there mark ≡ record { used = 0; outcome = None }
all-wait size before there mark missing none unmarked =
    all-nothing size before there mark missing none ∙ ap (λ m. still m before) unmarked

-- nothing is held where further bytes are asked for
record NothingThere (held : List ℕ) (stream : Stream) : Type 0 where
  none : length (held ++ stream.arrived) ≡ 0
  unmarked : option_map read_code stream.read_mark ≡ None

counted-nothing : (missing : ℕ) (held : List ℕ) (stream : Stream) → HasNothing stream (counted_want missing held) →
    NothingThere held stream
counted-nothing missing [] stream nothing = record {
  none = ap length nothing.0;
  unmarked = ap (option_map read_code) nothing.1;
}
counted-nothing missing (b ∷ held) stream nothing = absurd nothing

until-wait : (delimiter held : List ℕ) (max before : ℕ) (latest : Option ℕ) (stream : Stream) (found : Option Outcome) →
    (served_read (Until delimiter max) before held None).outcome ≡ found →
    HasNothing stream (until_want found (max - length held)) →
    (let exchange = exchange_with (Reads (Until delimiter max)) before latest held stream in
    course_of exchange ≡ course_at exchange None)
until-wait delimiter held max before latest stream (Some outcome) is nothing = absurd nothing
until-wait delimiter held max before latest stream None is nothing =
    let exchange = exchange_with (Reads (Until delimiter max)) before latest held stream in
    let unfound = until-open (first_end delimiter (take max held)) max (length held) None is in
    read-still before (whole_stream exchange)
    (served_read (Until delimiter max) before (held ++ stream.arrived) stream.read_mark)
    (until-nothing delimiter held max stream None None unfound nothing.0 (ap (option_map read_code) nothing.1) refl)

wait-is : (asks : StreamOperation) (before : ℕ) (latest : Option ℕ) (held : List ℕ) (stream : Stream) →
    (let exchange = exchange_with asks before latest held stream in
    MayBeAsked exchange → HasNothing stream (wanted_in exchange) → course_of exchange ≡ course_at exchange None)
wait-is (Reads (Some_bytes size)) before latest held stream = λ ready nothing.
    let exchange = exchange_with (Reads (Some_bytes size)) before latest held stream in
    let parts = counted-nothing (size - before) held stream nothing in
    let mark = option_map read_code stream.read_mark in
    read-still before (whole_stream exchange) (some_of size (length (held ++ stream.arrived)) mark)
    (some-wait size (length (held ++ stream.arrived)) mark parts.none parts.unmarked)
wait-is (Reads (All_bytes size)) before latest held stream = λ ready nothing.
    let exchange = exchange_with (Reads (All_bytes size)) before latest held stream in
    let parts = counted-nothing (size - before) held stream nothing in
    let mark = option_map read_code stream.read_mark in
    read-still before (whole_stream exchange) (all_of size before (length (held ++ stream.arrived)) mark)
    (all-wait size before (length (held ++ stream.arrived)) mark ready.under_way.missing parts.none parts.unmarked)
wait-is (Reads (Until delimiter max)) before latest held stream = λ ready nothing.
    until-wait delimiter held max before latest stream (served_read (Until delimiter max) before held None).outcome refl nothing
wait-is (Writes (Some_of bytes)) before latest held stream = λ ready nothing.
    let exchange = exchange_with (Writes (Some_of bytes)) before latest held stream in
    let mark = option_map write_code stream.write_mark in
    write-still (Some_of bytes) before (whole_stream exchange) (some_of (length bytes) stream.room mark)
    (some-wait (length bytes) stream.room mark nothing.0 (ap (option_map write_code) nothing.1))
wait-is (Writes (All_of bytes)) before latest held stream = λ ready nothing.
    let exchange = exchange_with (Writes (All_of bytes)) before latest held stream in
    let mark = option_map write_code stream.write_mark in
    write-still (All_of bytes) before (whole_stream exchange) (all_of (length bytes) before stream.room mark)
    (all-wait (length bytes) before stream.room mark ready.under_way.missing nothing.0
    (ap (option_map write_code) nothing.1))

pub machines-wait : MachinesWait
machines-wait exchange ready nothing =
    wait-is exchange.progress.asks exchange.progress.moved exchange.progress.latest exchange.held exchange.stream ready nothing

pub holding-keeps : HoldingKeeps
holding-keeps exchange count =
    ap (asking_course exchange.progress.asks exchange.progress.moved) (held-left exchange.held count exchange.stream)

-- whole runs
pub runs-by_rules : RunsAreByTheRules
runs-by_rules exchange course ready (goes_on answer may stays rest) =
    let next = machines-go_on exchange answer ready may stays in
    runs-by_rules (exchange_after exchange answer) course next.ready rest ∙ next.same
runs-by_rules exchange course ready (completes answer outcome may is) =
    sym (machines-complete exchange answer outcome ready may is)
runs-by_rules exchange course ready (finishes ended size is) = sym (machines-finish exchange ended size ready is)
runs-by_rules exchange course ready (waits nothing) = sym (machines-wait exchange ready nothing)

begins : (asks : StreamOperation) (held : List ℕ) (stream : Stream) → IsSizedAsking asks →
    MayBeAsked (exchange_with asks 0 None held stream)
begins (Reads (Some_bytes size)) held stream sized = record {
  under_way = record { missing = omega (arith, sized.0); counted = sized.1; before = refl };
  searched = tt;
}
begins (Reads (All_bytes size)) held stream sized = record {
  under_way = record { missing = omega (arith, sized.0); counted = sized.1; before = tt };
  searched = tt;
}
begins (Reads (Until delimiter max)) held stream sized = record {
  under_way = record { missing = omega (arith, sized.0); counted = sized.1; before = refl };
  searched = refl;
}
begins (Writes (Some_of bytes)) held stream sized = record {
  under_way = record { missing = omega (arith, sized.0); counted = sized.1; before = refl };
  searched = tt;
}
begins (Writes (All_of bytes)) held stream sized = record {
  under_way = record { missing = omega (arith, sized.0); counted = sized.1; before = tt };
  searched = tt;
}

pub machines-begin : MachinesBegin
machines-begin asks held stream sized = begins asks held stream sized
