-- What an operation gives on bytes or room that come in pieces is what it gives on all of them.
use Rattle.std.proofs.Common.{◌≡◌, ℕ, ◌+◌, ◌-◌, ◌<◌, ◌≤◌, ◌==◌, nat_le, true, false, Option, None, Some, List, [], ◌∷◌, ◌++◌, length, take, drop, fold, sum, zero, suc, inl, inr, refl, sym, ap, ◌∙◌, append_assoc, drop-drop, arith}
use Rattle.std.specs.Option.{option_map}
use Rattle.std.proofs.Math.Seq.{take-add}
use Rattle.std.proofs.lemmas.Bool.{cases_lt}
use Rattle.std.proofs.lemmas.Bool.Decides.{nat_tests}
use Rattle.std.proofs.lemmas.List.Sums.{sum_by-cons}
use Rattle.std.proofs.lemmas.List.{append-nil, drop-append-le, drop_all, length-append, length-take, take-append-le}
use Rattle.asio_types.specs.declared.code.Code.{Code}
use Rattle.asio_types.specs.declared.code.Code.TheVariants as code
use Rattle.asio_types.specs.declared.mark.ReadMark.{ReadMark}
use Rattle.asio_types.specs.declared.mark.WriteMark.{WriteMark}
use Rattle.stream_rules.specs.Cutting.{Course, served_on, after_change, with_bytes, with_room, with_read_mark, with_write_mark, whole_of, IsComposedReading, ReadsGoOn, ReadsInPieces, WritesGoOn, WritesInPieces}
use Rattle.stream_rules.specs.Delimiter.{first_end}
use Rattle.stream_rules.specs.Queue.{reading_side, writing_side}
use Rattle.stream_rules.specs.Serving.{Reading, Some_bytes, All_bytes, Until, Writing, Some_of, All_of, Outcome, Served, all_of, bytes_of, some_of, ended_by, read_code, write_code, served_read, served_write, until_found}
use Rattle.stream_rules.specs.Stream.{Stream}
use Rattle.stream_rules.proofs.DelimiterLemmas.{first_end-append, first_end-ends}

-- with enough there, all that is missing is used
all-enough : (size before there : ℕ) (mark : Option Code) → size ≤ before + there →
    all_of size before there mark ≡ record { used = size - before; outcome = Some (code.Ok, size) }
all-enough size before there mark h =
    let test : nat_le size (before + there) ≡ true = grind (arith, nat_tests) in rw test refl

-- with too little there, all of it is
all-short : (size before there : ℕ) (mark : Option Code) → before + there < size →
    all_of size before there mark ≡ record { used = there; outcome = ended_by mark (before + there) }
all-short size before there mark h =
    let test : nat_le size (before + there) ≡ false = grind (arith, nat_tests) in rw test refl

-- one that stays used what was there, and saw no mark
record AllStays (size before there : ℕ) (mark : Option Code) : Type 0 where
  short : before + there < size
  unmarked : mark ≡ None

no-outcome : (mark : Option Code) (size : ℕ) → ended_by mark size ≡ None → mark ≡ None
no-outcome None size h = refl
no-outcome (Some ended) size h = absurd (cc)

all-stays : (size before there : ℕ) (mark : Option Code) → (all_of size before there mark).outcome ≡ None →
    AllStays size before there mark
all-stays size before there mark h =
    elim (cases_lt (before + there) size) [
      | inl short ↦
          record {
            short = short;
            unmarked =
                no-outcome mark (before + there)
                (sym (ap (λ (s : Served). s.outcome) (all-short size before there mark short)) ∙ h);
          }
      | inr enough ↦ let e = all-enough size before there mark enough in absurd (cc)
    ]

-- A part of a service, and the rest of it
abbrev pub joined : ℕ → Served → Served
joined used later = record { used = used + later.used; outcome = later.outcome }

-- where it stays on a part, what it gives on the whole is what it gives on the rest behind that part
all-joined : (size before first later : ℕ) (unmarked mark : Option Code) →
    (all_of size before first unmarked).outcome ≡ None →
    ((all_of size before first unmarked).used ≡ first)
    × (all_of size before (first + later) mark ≡ joined first (all_of size (before + first) later mark))
all-joined size before first later unmarked mark stays =
    let part = all-stays size before first unmarked stays in (
      ap (λ (s : Served). s.used) (all-short size before first unmarked part.short),
      elim (cases_lt (before + first + later) size) [
        | inl short ↦
            all-short size before (first + later) mark (omega arith)
            ∙ ap (λ n. let s : Served = record { used = first + later; outcome = ended_by mark n } in s) (omega arith)
            ∙ sym (ap (joined first) (all-short size (before + first) later mark short))
        | inr enough ↦
            all-enough size before (first + later) mark (omega arith)
            ∙ ap (λ n. let s : Served = record { used = n; outcome = Some (code.Ok, size) } in s) (omega (arith, part.short))
            ∙ sym (ap (joined first) (all-enough size (before + first) later mark enough))
      ],
    )

-- where it completes on a part without a mark, the rest changes nothing
all-complete : (size before first later : ℕ) (mark : Option Code) (outcome : Outcome) →
    (all_of size before first None).outcome ≡ Some outcome →
    ((all_of size before first None).used ≤ first)
    × (all_of size before (first + later) mark ≡ all_of size before first None)
all-complete size before first later mark outcome completes =
    elim (cases_lt (before + first) size) [
      | inl short ↦ let e = all-short size before first None short in absurd (cc)
      | inr enough ↦
          let e = all-enough size before first None enough in
          let used : (all_of size before first None).used ≡ size - before = ap (λ (s : Served). s.used) e in
          (omega arith, all-enough size before (first + later) mark (omega arith) ∙ sym e)
    ]

joined-none : (s : Served) → joined 0 s ≡ s
joined-none s = ap (λ n. let t : Served = record { used = n; outcome = s.outcome } in t) (omega arith)

some-stays : (size there : ℕ) (mark : Option Code) → (some_of size there mark).outcome ≡ None → there ≡ 0
some-stays size zero mark stays = refl
some-stays size (suc there) mark stays =
    let some : (suc there == 0) ≡ false = grind (arith, nat_tests) in let took = rw some at stays in absurd (cc)

-- a writing operation that stays used all room, and gives the rest on what comes later
record WritesOn (writing : Writing) (before first later : ℕ) (unmarked mark : Option WriteMark) : Type 0 where
  used : (served_write writing before first unmarked).used ≡ first
  rest : served_write writing before (first + later) mark
      ≡ joined first (served_write writing (before + first) later mark)

some-writes_on : (bytes : List ℕ) (before first later : ℕ) (unmarked mark : Option WriteMark) → first ≡ 0 →
    WritesOn (Some_of bytes) before first later unmarked mark
some-writes_on bytes before zero later unmarked mark none =
    let same : 0 + later ≡ later = omega arith in
    record { used = refl; rest = rw same (sym (joined-none (served_write (Some_of bytes) (before + 0) later mark))) }
some-writes_on bytes before (suc first) later unmarked mark none = absurd (omega arith)

writes-on : (writing : Writing) (before first later : ℕ) (unmarked mark : Option WriteMark) →
    (served_write writing before first unmarked).outcome ≡ None → WritesOn writing before first later unmarked mark
writes-on (Some_of bytes) before first later unmarked mark stays =
    some-writes_on bytes before first later unmarked mark (some-stays (length bytes) first (option_map write_code unmarked) stays)
writes-on (All_of bytes) before first later unmarked mark stays =
    let parts =
    all-joined (length bytes) before first later (option_map write_code unmarked) (option_map write_code mark) stays in
    record { used = parts.0; rest = parts.1 }

-- a stream once so much room was there, and an operation was served on it
abbrev written : Writing → ℕ → Stream → ℕ → Option WriteMark → Served → Course
written writing before stream room mark served = record {
  moved = before + served.used;
  outcome = served.outcome;
  stream =
      record stream {
        room = room - served.used;
        write_mark = mark;
        sent = stream.sent ++ take served.used (drop before (bytes_of writing));
      };
}

written-parts : (writing : Writing) (before : ℕ) (stream : Stream) (first later : ℕ) (mark : Option WriteMark)
    (rest : Served) →
    written writing (before + first)
    (record stream { room = 0; sent = stream.sent ++ take first (drop before (bytes_of writing)) }) later mark rest
    ≡ written writing before stream (first + later) mark (joined first rest)
written-parts writing before stream first later mark rest =
    let bytes = bytes_of writing in
    let count : before + first + rest.used ≡ before + (first + rest.used) = omega arith in
    let room : later - rest.used ≡ first + later - (first + rest.used) = omega arith in
    let behind : drop (before + first) bytes ≡ drop first (drop before bytes) = sym (drop-drop first before bytes) in
    let sent : (stream.sent ++ take first (drop before bytes)) ++ take rest.used (drop (before + first) bytes)
    ≡ stream.sent ++ take (first + rest.used) (drop before bytes) =
    append_assoc stream.sent (take first (drop before bytes)) (take rest.used (drop (before + first) bytes))
    ∙ ap (λ l. stream.sent ++ l)
    (ap (λ l. take first (drop before bytes) ++ take rest.used l) behind
    ∙ sym (take-add first rest.used (drop before bytes))) in
    rw (count, room, sent) refl

-- a writing operation that stays goes on with what comes later
write-goes_on : (writing : Writing) (moved : ℕ) (stream : Stream) (first later : ℕ) (mark : Option WriteMark) →
    (served_on writing_side writing moved (with_room first stream) None).outcome ≡ None →
    (let part = served_on writing_side writing moved (with_room first stream) None in
    after_change writing_side writing (λ s. with_write_mark mark (with_room later s)) part)
    ≡ served_on writing_side writing moved (with_write_mark mark (with_room (first + later) stream)) None
write-goes_on writing moved stream first later mark stays =
    let there = stream.room + first in
    let part : Course = served_on writing_side writing moved (with_room first stream) None in
    let whole = writes-on writing moved there later stream.write_mark mark stays in
    let with_outcome : Option Outcome → Course = λ o.
    served_on writing_side writing part.moved (with_write_mark mark (with_room later part.stream)) o in
    let with_used : ℕ → Course = λ used.
    let room = there - used + later in
    written writing (moved + used)
    (record stream { room = 0; sent = stream.sent ++ take used (drop moved (bytes_of writing)) }) room mark
    (served_write writing (moved + used) room mark) in
    let with_later : ℕ → Course = λ room.
    written writing (moved + there)
    (record stream { room = 0; sent = stream.sent ++ take there (drop moved (bytes_of writing)) }) room mark
    (served_write writing (moved + there) room mark) in
    let with_whole : ℕ → Course = λ room.
    written writing moved stream room mark (served_write writing moved room mark) in
    ap with_outcome stays
    ∙ ap with_used whole.used
    ∙ ap with_later (omega arith)
    ∙ written-parts writing moved stream there later mark (served_write writing (moved + there) later mark)
    ∙ ap (written writing moved stream (there + later) mark) (sym whole.rest)
    ∙ ap with_whole (omega arith)

writes-go_on-from : (writing : Writing) (moved : ℕ) (stream : Stream) (outcome : Option Outcome) (first later : ℕ)
    (mark : Option WriteMark) →
    (served_on writing_side writing moved (with_room first stream) outcome).outcome ≡ None →
    (let part = served_on writing_side writing moved (with_room first stream) outcome in
    after_change writing_side writing (λ s. with_write_mark mark (with_room later s)) part)
    ≡ served_on writing_side writing moved (with_write_mark mark (with_room (first + later) stream)) outcome
writes-go_on-from writing moved stream None first later mark stays =
    write-goes_on writing moved stream first later mark stays
writes-go_on-from writing moved stream (Some outcome) first later mark stays = absurd (cc)

pub writes-go_on : WritesGoOn
writes-go_on writing course first later mark stays =
    writes-go_on-from writing course.moved course.stream course.outcome first later mark stays

-- what completed without a mark stays as it is
write-completes : (bytes : List ℕ) (moved : ℕ) (stream : Stream) (first later : ℕ) (mark : Option WriteMark)
    (outcome : Outcome) → stream.write_mark ≡ None →
    (served_on writing_side (All_of bytes) moved (with_room first stream) None).outcome ≡ Some outcome →
    (let part = served_on writing_side (All_of bytes) moved (with_room first stream) None in
    after_change writing_side (All_of bytes) (λ s. with_write_mark mark (with_room later s)) part)
    ≡ served_on writing_side (All_of bytes) moved (with_write_mark mark (with_room (first + later) stream)) None
write-completes bytes moved stream first later mark outcome unmarked completes =
    let writing : Writing = All_of bytes in
    let there = stream.room + first in
    let part : Course = served_on writing_side writing moved (with_room first stream) None in
    let served : Served = all_of (length bytes) moved there (option_map write_code stream.write_mark) in
    let bare = ap (λ (m : Option WriteMark). all_of (length bytes) moved there (option_map write_code m)) unmarked in
    let done = sym (ap (λ (s : Served). s.outcome) bare) ∙ completes in
    let parts = all-complete (length bytes) moved there later (option_map write_code mark) outcome done in
    let used : served.used ≤ there = omega (arith, parts.0, ap (λ (s : Served). s.used) bare) in
    let same : all_of (length bytes) moved (stream.room + (first + later)) (option_map write_code mark) ≡ served =
    ap (λ n. all_of (length bytes) moved n (option_map write_code mark)) (omega arith) ∙ parts.1 ∙ sym bare in
    let with_outcome : Option Outcome → Course = λ o.
    served_on writing_side writing part.moved (with_write_mark mark (with_room later part.stream)) o in
    let left : ℕ → Option Outcome → Course = λ room o. record {
      moved = moved + served.used;
      outcome = o;
      stream = record stream {
        room = room;
        write_mark = mark;
        sent = stream.sent ++ take served.used (drop moved bytes);
      };
    } in
    let room : there - served.used + later ≡ stream.room + (first + later) - served.used = omega arith in
    ap with_outcome completes
    ∙ ap (λ n. left n (Some outcome)) room
    ∙ ap (left (stream.room + (first + later) - served.used)) (sym completes)
    ∙ sym (ap (written writing moved stream (stream.room + (first + later)) mark) same)

write-served : (bytes : List ℕ) (moved : ℕ) (stream : Stream) (first later : ℕ) (mark : Option WriteMark)
    (outcome : Option Outcome) → stream.write_mark ≡ None →
    (served_on writing_side (All_of bytes) moved (with_room first stream) None).outcome ≡ outcome →
    (let part = served_on writing_side (All_of bytes) moved (with_room first stream) None in
    after_change writing_side (All_of bytes) (λ s. with_write_mark mark (with_room later s)) part)
    ≡ served_on writing_side (All_of bytes) moved (with_write_mark mark (with_room (first + later) stream)) None
write-served bytes moved stream first later mark None unmarked is =
    write-goes_on (All_of bytes) moved stream first later mark is
write-served bytes moved stream first later mark (Some outcome) unmarked is =
    write-completes bytes moved stream first later mark outcome unmarked is

write-again : (bytes : List ℕ) (moved : ℕ) (stream : Stream) (outcome : Option Outcome) (first later : ℕ)
    (mark : Option WriteMark) → stream.write_mark ≡ None →
    (let part = served_on writing_side (All_of bytes) moved (with_room first stream) outcome in
    after_change writing_side (All_of bytes) (λ s. with_write_mark mark (with_room later s)) part)
    ≡ served_on writing_side (All_of bytes) moved (with_write_mark mark (with_room (first + later) stream)) outcome
write-again bytes moved stream None first later mark unmarked =
    write-served bytes moved stream first later mark
    (served_on writing_side (All_of bytes) moved (with_room first stream) None).outcome unmarked refl
write-again bytes moved stream (Some outcome) first later mark unmarked =
    let room : stream.room + first + later ≡ stream.room + (first + later) = omega arith in rw room refl

write-unmarked : (writing : Writing) (moved : ℕ) (stream : Stream) (outcome : Option Outcome) →
    (served_on writing_side writing moved stream outcome).stream.write_mark ≡ stream.write_mark
write-unmarked writing moved stream None = refl
write-unmarked writing moved stream (Some outcome) = refl

all-in_pieces : (bytes : List ℕ) (course : Course) (pieces : List ℕ) (mark : Option WriteMark) →
    course.stream.write_mark ≡ None →
    after_change writing_side (All_of bytes) (with_write_mark mark)
    (fold (λ part piece. after_change writing_side (All_of bytes) (with_room piece) part) course pieces)
    ≡ after_change writing_side (All_of bytes) (λ stream. with_write_mark mark (with_room (sum pieces) stream)) course
all-in_pieces bytes course [] mark unmarked =
    ap (λ n.
    served_on writing_side (All_of bytes) course.moved (with_write_mark mark (record course.stream { room = n }))
    course.outcome) (omega arith)
all-in_pieces bytes course (piece ∷ pieces) mark unmarked =
    let next : Course = after_change writing_side (All_of bytes) (with_room piece) course in
    all-in_pieces bytes next pieces mark
    (write-unmarked (All_of bytes) course.moved (with_room piece course.stream) course.outcome ∙ unmarked)
    ∙ write-again bytes course.moved course.stream course.outcome piece (sum pieces) mark unmarked
    ∙ ap (λ n.
    served_on writing_side (All_of bytes) course.moved (with_write_mark mark (with_room n course.stream))
    course.outcome) (sym (sum_by-cons (λ x. x) piece pieces))

pub writes-in_pieces : WritesInPieces
writes-in_pieces (Some_of bytes) composed course unmarked pieces mark = absurd composed
writes-in_pieces (All_of bytes) composed course unmarked pieces mark = all-in_pieces bytes course pieces mark unmarked

-- a reading operation that stays gives on all bytes what it gives on those that it left and on what comes later
pub record ReadsOn (reading : Reading) (before : ℕ) (first later : List ℕ) (unmarked mark : Option ReadMark) (used : ℕ)
    : Type 0 where
  pub within : used ≤ length first
  pub rest : served_read reading before (first ++ later) mark
      ≡ joined used (served_read reading (before + used) (drop used first ++ later) mark)

some-reads_on : (size before : ℕ) (first later : List ℕ) (unmarked mark : Option ReadMark) → length first ≡ 0 →
    ReadsOn (Some_bytes size) before first later unmarked mark
    (served_read (Some_bytes size) before first unmarked).used
some-reads_on size before [] later unmarked mark none =
    record { within = omega arith; rest = sym (joined-none (served_read (Some_bytes size) (before + 0) later mark)) }
some-reads_on size before (b ∷ first) later unmarked mark none = absurd (omega arith)

until-stays : (found : Option ℕ) (max there : ℕ) (mark : Option Code) →
    (until_found found max there mark).outcome ≡ None → (until_found found max there mark).used ≡ 0
until-stays None max there mark stays = refl
until-stays (Some count) max there mark stays = absurd (cc)

pub reads-on : (reading : Reading) (before : ℕ) (first later : List ℕ) (unmarked mark : Option ReadMark) →
    (served_read reading before first unmarked).outcome ≡ None →
    ReadsOn reading before first later unmarked mark (served_read reading before first unmarked).used
reads-on (Some_bytes size) before first later unmarked mark stays =
    some-reads_on size before first later unmarked mark (some-stays size (length first) (option_map read_code unmarked) stays)
reads-on (All_bytes size) before first later unmarked mark stays =
    let parts =
    all-joined size before (length first) (length later) (option_map read_code unmarked) (option_map read_code mark) stays in
    let none : drop (length first) first ≡ [] = drop_all (length first) first (omega arith) in
    rw parts.0 (record {
      within = omega arith;
      rest =
          ap (λ n. all_of size before n (option_map read_code mark)) (length-append first later) ∙ parts.1
          ∙ ap (λ (l : List ℕ).
          joined (length first)
          (all_of size (before + length first) (length (l ++ later)) (option_map read_code mark))) (sym none);
    })
reads-on (Until delimiter max) before first later unmarked mark stays =
    let none =
    until-stays (first_end delimiter (take max first)) max (length first) (option_map read_code unmarked) stays in
    rw none (record {
      within = omega arith;
      rest = sym (joined-none (served_read (Until delimiter max) (before + 0) (first ++ later) mark));
    })

-- a stream once an operation was served on these bytes
abbrev given : ℕ → Stream → List ℕ → Option ReadMark → Served → Course
given before stream there mark served = record {
  moved = before + served.used;
  outcome = served.outcome;
  stream = record stream { arrived = drop served.used there; read_mark = mark };
}

given-parts : (before used : ℕ) (stream : Stream) (first later : List ℕ) (mark : Option ReadMark) (rest : Served) →
    used ≤ length first →
    given (before + used) stream (drop used first ++ later) mark rest
    ≡ given before stream (first ++ later) mark (joined used rest)
given-parts before used stream first later mark rest within =
    let count : before + used + rest.used ≡ before + (used + rest.used) = omega arith in
    let left : drop rest.used (drop used first ++ later) ≡ drop (used + rest.used) (first ++ later) =
    ap (drop rest.used) (sym (drop-append-le used first later within)) ∙ drop-drop rest.used used (first ++ later) in
    rw (count, left) refl

-- a reading operation that stays goes on with what comes later
read-goes_on : (reading : Reading) (moved : ℕ) (stream : Stream) (first later : List ℕ) (mark : Option ReadMark) →
    (served_on reading_side reading moved (with_bytes first stream) None).outcome ≡ None →
    (let part = served_on reading_side reading moved (with_bytes first stream) None in
    after_change reading_side reading (λ s. with_read_mark mark (with_bytes later s)) part)
    ≡ served_on reading_side reading moved (with_read_mark mark (with_bytes (first ++ later) stream)) None
read-goes_on reading moved stream first later mark stays =
    let there = stream.arrived ++ first in
    let part : Course = served_on reading_side reading moved (with_bytes first stream) None in
    let served : Served = served_read reading moved there stream.read_mark in
    let whole = reads-on reading moved there later stream.read_mark mark stays in
    let with_outcome : Option Outcome → Course = λ o.
    served_on reading_side reading part.moved (with_read_mark mark (with_bytes later part.stream)) o in
    let with_whole : List ℕ → Course = λ bytes. given moved stream bytes mark (served_read reading moved bytes mark) in
    ap with_outcome stays
    ∙ given-parts moved served.used stream there later mark
    (served_read reading (moved + served.used) (drop served.used there ++ later) mark) whole.within
    ∙ ap (given moved stream (there ++ later) mark) (sym whole.rest)
    ∙ ap with_whole (append_assoc stream.arrived first later)

reads-go_on-from : (reading : Reading) (moved : ℕ) (stream : Stream) (outcome : Option Outcome) (first later : List ℕ)
    (mark : Option ReadMark) →
    (served_on reading_side reading moved (with_bytes first stream) outcome).outcome ≡ None →
    (let part = served_on reading_side reading moved (with_bytes first stream) outcome in
    after_change reading_side reading (λ s. with_read_mark mark (with_bytes later s)) part)
    ≡ served_on reading_side reading moved (with_read_mark mark (with_bytes (first ++ later) stream)) outcome
reads-go_on-from reading moved stream None first later mark stays =
    read-goes_on reading moved stream first later mark stays
reads-go_on-from reading moved stream (Some outcome) first later mark stays = absurd (cc)

pub reads-go_on : ReadsGoOn
reads-go_on reading course first later mark stays =
    reads-go_on-from reading course.moved course.stream course.outcome first later mark stays

-- what completes without a mark is complete on more bytes too
pub record Completes (reading : Reading) (before : ℕ) (first later : List ℕ) (mark : Option ReadMark) : Type 0 where
  pub within : (served_read reading before first None).used ≤ length first
  pub same : served_read reading before (first ++ later) mark ≡ served_read reading before first None

take-longer : (n : ℕ) (first later : List ℕ) → (more : List ℕ) × (take n (first ++ later) ≡ take n first ++ more)
take-longer zero first later = ([], refl)
take-longer (suc n) [] later = (take (suc n) later, refl)
take-longer (suc n) (b ∷ first) later = let rest = take-longer n first later in (rest.0, ap (λ l. b ∷ l) rest.1)

found-longer : (delimiter : List ℕ) (max : ℕ) (first later : List ℕ) (count : ℕ) →
    first_end delimiter (take max first) ≡ Some count → first_end delimiter (take max (first ++ later)) ≡ Some count
found-longer delimiter max first later count found =
    let longer = take-longer max first later in
    ap (first_end delimiter) longer.1 ∙ first_end-append delimiter (take max first) longer.0 count found

not_found-full : (max there : ℕ) (outcome : Outcome) → (until_found None max there None).outcome ≡ Some outcome →
    max ≤ there
not_found-full max there outcome completes =
    elim (cases_lt there max) [
      | inl short ↦
          let test : nat_le max there ≡ false = grind (arith, nat_tests) in
          let none = rw test at completes in absurd (cc)
      | inr full ↦ full
    ]

until-full : (max there : ℕ) (mark : Option Code) → max ≤ there →
    until_found None max there mark ≡ record { used = 0; outcome = Some (code.NotFound, 0) }
until-full max there mark full = let test : nat_le max there ≡ true = grind (arith, nat_tests) in rw test refl

until-complete : (delimiter : List ℕ) (max before : ℕ) (first later : List ℕ) (mark : Option ReadMark)
    (outcome : Outcome) (found : Option ℕ) → first_end delimiter (take max first) ≡ found →
    (until_found found max (length first) None).outcome ≡ Some outcome →
    Completes (Until delimiter max) before first later mark
until-complete delimiter max before first later mark outcome (Some count) is completes =
    let ends = first_end-ends delimiter (take max first) count is in
    let longer = found-longer delimiter max first later count is in
    record {
      within = rw is (omega (arith, ends.within, length-take max first));
      same =
          ap (λ f. until_found f max (length (first ++ later)) (option_map read_code mark)) longer
          ∙ sym (ap (λ f. until_found f max (length first) None) is);
    }
until-complete delimiter max before first later mark outcome None is completes =
    let full = not_found-full max (length first) outcome completes in
    let shorter = take-append-le max first later full in
    let none : first_end delimiter (take max (first ++ later)) ≡ None = ap (first_end delimiter) shorter ∙ is in
    let long : max ≤ length (first ++ later) = omega (arith, length-append first later) in
    record {
      within = rw is (omega arith);
      same =
          ap (λ f. until_found f max (length (first ++ later)) (option_map read_code mark)) none
          ∙ until-full max (length (first ++ later)) (option_map read_code mark) long
          ∙ sym (ap (λ f. until_found f max (length first) None) is ∙ until-full max (length first) None full);
    }

pub read-complete : (reading : Reading) → IsComposedReading reading →
    (before : ℕ) (first later : List ℕ) (mark : Option ReadMark) (outcome : Outcome) →
    (served_read reading before first None).outcome ≡ Some outcome → Completes reading before first later mark
read-complete (Some_bytes size) composed before first later mark outcome completes = absurd composed
read-complete (All_bytes size) composed before first later mark outcome completes =
    let parts = all-complete size before (length first) (length later) (option_map read_code mark) outcome completes in
    record {
      within = parts.0;
      same = ap (λ n. all_of size before n (option_map read_code mark)) (length-append first later) ∙ parts.1;
    }
read-complete (Until delimiter max) composed before first later mark outcome completes =
    until-complete delimiter max before first later mark outcome (first_end delimiter (take max first)) refl completes

-- what completed without a mark stays as it is
read-completes : (reading : Reading) → IsComposedReading reading →
    (moved : ℕ) (stream : Stream) (first later : List ℕ) (mark : Option ReadMark) (outcome : Outcome) →
    stream.read_mark ≡ None →
    (served_on reading_side reading moved (with_bytes first stream) None).outcome ≡ Some outcome →
    (let part = served_on reading_side reading moved (with_bytes first stream) None in
    after_change reading_side reading (λ s. with_read_mark mark (with_bytes later s)) part)
    ≡ served_on reading_side reading moved (with_read_mark mark (with_bytes (first ++ later) stream)) None
read-completes reading composed moved stream first later mark outcome unmarked completes =
    let there = stream.arrived ++ first in
    let part : Course = served_on reading_side reading moved (with_bytes first stream) None in
    let served : Served = served_read reading moved there stream.read_mark in
    let bare = ap (served_read reading moved there) unmarked in
    let done = sym (ap (λ (s : Served). s.outcome) bare) ∙ completes in
    let parts = read-complete reading composed moved there later mark outcome done in
    let used : served.used ≤ length there = omega (arith, parts.within, ap (λ (s : Served). s.used) bare) in
    let same : served_read reading moved (stream.arrived ++ (first ++ later)) mark ≡ served =
    ap (λ bytes. served_read reading moved bytes mark) (sym (append_assoc stream.arrived first later)) ∙ parts.same
    ∙ sym bare in
    let with_outcome : Option Outcome → Course = λ o.
    served_on reading_side reading part.moved (with_read_mark mark (with_bytes later part.stream)) o in
    let left : List ℕ → Option Outcome → Course = λ bytes o. record {
      moved = moved + served.used;
      outcome = o;
      stream = record stream { arrived = bytes; read_mark = mark };
    } in
    let bytes : drop served.used there ++ later ≡ drop served.used (stream.arrived ++ (first ++ later)) =
    sym (drop-append-le served.used there later used)
    ∙ ap (drop served.used) (append_assoc stream.arrived first later) in
    ap with_outcome completes
    ∙ ap (λ l. left l (Some outcome)) bytes
    ∙ ap (left (drop served.used (stream.arrived ++ (first ++ later)))) (sym completes)
    ∙ sym (ap (given moved stream (stream.arrived ++ (first ++ later)) mark) same)

read-served : (reading : Reading) → IsComposedReading reading →
    (moved : ℕ) (stream : Stream) (first later : List ℕ) (mark : Option ReadMark) (outcome : Option Outcome) →
    stream.read_mark ≡ None → (served_on reading_side reading moved (with_bytes first stream) None).outcome ≡ outcome →
    (let part = served_on reading_side reading moved (with_bytes first stream) None in
    after_change reading_side reading (λ s. with_read_mark mark (with_bytes later s)) part)
    ≡ served_on reading_side reading moved (with_read_mark mark (with_bytes (first ++ later) stream)) None
read-served reading composed moved stream first later mark None unmarked is =
    read-goes_on reading moved stream first later mark is
read-served reading composed moved stream first later mark (Some outcome) unmarked is =
    read-completes reading composed moved stream first later mark outcome unmarked is

read-again : (reading : Reading) → IsComposedReading reading →
    (moved : ℕ) (stream : Stream) (outcome : Option Outcome) (first later : List ℕ) (mark : Option ReadMark) →
    stream.read_mark ≡ None →
    (let part = served_on reading_side reading moved (with_bytes first stream) outcome in
    after_change reading_side reading (λ s. with_read_mark mark (with_bytes later s)) part)
    ≡ served_on reading_side reading moved (with_read_mark mark (with_bytes (first ++ later) stream)) outcome
read-again reading composed moved stream None first later mark unmarked =
    read-served reading composed moved stream first later mark
    (served_on reading_side reading moved (with_bytes first stream) None).outcome unmarked refl
read-again reading composed moved stream (Some outcome) first later mark unmarked =
    ap (λ bytes.
    served_on reading_side reading moved (with_read_mark mark (record stream { arrived = bytes })) (Some outcome))
    (append_assoc stream.arrived first later)

read-unmarked : (reading : Reading) (moved : ℕ) (stream : Stream) (outcome : Option Outcome) →
    (served_on reading_side reading moved stream outcome).stream.read_mark ≡ stream.read_mark
read-unmarked reading moved stream None = refl
read-unmarked reading moved stream (Some outcome) = refl

pub reads-in_pieces : ReadsInPieces
reads-in_pieces reading composed course unmarked [] mark =
    ap (λ bytes.
    served_on reading_side reading course.moved (with_read_mark mark (record course.stream { arrived = bytes }))
    course.outcome) (sym (append-nil course.stream.arrived))
reads-in_pieces reading composed course unmarked (piece ∷ pieces) mark =
    let next : Course = after_change reading_side reading (with_bytes piece) course in
    reads-in_pieces reading composed next
    (read-unmarked reading course.moved (with_bytes piece course.stream) course.outcome ∙ unmarked) pieces mark
    ∙ read-again reading composed course.moved course.stream course.outcome piece (whole_of pieces) mark unmarked
