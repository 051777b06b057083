-- What a reactor that tells its bytes answers may be answered to a machine.
use Rattle.std.proofs.Common.{◌≡◌, ℕ, ◌-◌, ◌<◌, ◌≤◌, min, Option, None, Some, List, [], ◌∷◌, ◌++◌, ◌⊎◌, inl, inr, length, take, drop, zero, suc, refl, sym, ap, subst, arith}
use Rattle.std.specs.Option.{option_map}
use Rattle.std.proofs.lemmas.List.{length-append, length-drop, length-take}
use Rattle.asio_types.specs.declared.code.Code.{Code}
use Rattle.asio_types.specs.declared.code.Code.TheVariants as code
use Rattle.asio_types.specs.declared.mark.ReadMark.{ReadMark}
use Rattle.asio_types.specs.declared.mark.ReadMark.TheVariants as read_mark
use Rattle.asio_types.specs.declared.mark.WriteMark.{WriteMark}
use Rattle.asio_types.specs.declared.mark.WriteMark.TheVariants as write_mark
use Rattle.asio_types.specs.declared.outside.Moved.{Moved}
use Rattle.asio_types.specs.declared.outside.Moved.TheVariants as moved
use Rattle.stream_rules.specs.Delimiter.{first_end}
use Rattle.stream_rules.specs.Moving.{moved_by, read_answer, write_answer}
use Rattle.stream_rules.specs.Serving.{Reading, Some_bytes, All_bytes, Until, Writing, Some_of, All_of, Outcome, bytes_of, read_code, served_read, some_of, write_code}
use Rattle.stream_rules.specs.declared.serving.Served.{Served}
use Rattle.stream_rules.specs.Stream.{Stream}
use Rattle.composed_ops.specs.declared.want.Want.TheVariants as want
use Rattle.composed_ops.specs.StreamOperation.{StreamOperation, Reads, Writes, most_moved}
use Rattle.composed_ops.specs.Feeding.{ComesWhole, HasNothing, HeldMayBeConsumed, IsAnswer, IsFilled, MayBeAsked, IsToldAnswer, IsAllThere, MayCome, ReadsMayBeAnswered, WritesMayBeAnswered, bytes_from, whole_stream, wanted_in}
use Rattle.composed_ops.specs.Progress.{MovedBefore}
use Rattle.composed_ops.specs.Want.{asking_want, counted_want, until_want}
use Rattle.composed_ops.proofs.CountLemmas.{some-there}
use Rattle.composed_ops.proofs.FeedingLemmas.{no-bytes, exchange_with}
use Rattle.composed_ops.proofs.WantLemmas.{until-open}

-- what is told of so many, of which so many are there
record Told (most there : ℕ) (mark : Option Code) (end : Code) (answer : Moved) : Type 0 where
  comes : IsAnswer there mark end most answer
  whole : IsAllThere most there answer
  none : answer ≡ moved.NotYet → there ≡ 0
  unmarked : answer ≡ moved.NotYet → mark ≡ None

told-there : (most there : ℕ) (mark : Option Code) (end : Code) → 1 ≤ most → 1 ≤ there →
    Told most there mark end (moved_by (some_of most there mark).outcome)
told-there most there mark end some is =
    let took = ap (λ (s : Served). moved_by s.outcome) (some-there most there mark is) in
    let least : 1 ≤ min most there = omega arith in
    let wanted : min most there ≤ most = omega arith in
    let within : min most there ≤ there = omega arith in
    let told : Told most there mark end (moved.Took (min most there)) = record {
      comes = (least, wanted, within);
      whole = refl;
      none = λ h. absurd (cc);
      unmarked = λ h. absurd (cc);
    } in
    rw took told

read-told : (most there : ℕ) (mark : Option ReadMark) → 1 ≤ most →
    Told most there (option_map read_code mark) code.Eof
    (moved_by (some_of most there (option_map read_code mark)).outcome)
read-told most zero None some = record { comes = tt; whole = tt; none = λ h. refl; unmarked = λ h. refl }
read-told most zero (Some read_mark.Eof) some = record {
  comes = (refl, refl);
  whole = tt;
  none = λ h. refl;
  unmarked = λ h. absurd (cc);
}
read-told most zero (Some read_mark.Reset) some = record {
  comes = (refl, refl);
  whole = tt;
  none = λ h. refl;
  unmarked = λ h. absurd (cc);
}
read-told most (suc there) mark some =
    told-there most (suc there) (option_map read_code mark) code.Eof some (omega arith)

write-told : (most there : ℕ) (mark : Option WriteMark) → 1 ≤ most →
    Told most there (option_map write_code mark) code.Broken
    (moved_by (some_of most there (option_map write_code mark)).outcome)
write-told most zero None some = record { comes = tt; whole = tt; none = λ h. refl; unmarked = λ h. refl }
write-told most zero (Some write_mark.Broken) some = record {
  comes = (refl, refl);
  whole = tt;
  none = λ h. refl;
  unmarked = λ h. absurd (cc);
}
write-told most zero (Some write_mark.Reset) some = record {
  comes = (refl, refl);
  whole = tt;
  none = λ h. refl;
  unmarked = λ h. absurd (cc);
}
write-told most (suc there) mark some =
    told-there most (suc there) (option_map write_code mark) code.Broken some (omega arith)

read-unmarked : (mark : Option ReadMark) → option_map read_code mark ≡ None → mark ≡ None
read-unmarked None none = refl
read-unmarked (Some mark) none = absurd (cc)

write-unmarked : (mark : Option WriteMark) → option_map write_code mark ≡ None → mark ≡ None
write-unmarked None none = refl
write-unmarked (Some mark) none = absurd (cc)

-- something is asked for
until-some : (delimiter held : List ℕ) (max before most : ℕ) (found : Option Outcome) →
    (served_read (Until delimiter max) before held None).outcome ≡ found →
    until_want found (max - length held) ≡ want.Read most → 1 ≤ most
until-some delimiter held max before most None at is =
    let unfound = until-open (first_end delimiter (take max held)) max (length held) None at in
    let more = unfound.more in
    let same : max - length held ≡ most = cc in
    omega arith
until-some delimiter held max before most (Some outcome) at is = absurd (cc)

counted-some : (missing most : ℕ) (held : List ℕ) → 1 ≤ missing → counted_want missing held ≡ want.Read most → 1 ≤ most
counted-some missing most [] some is = let same : missing ≡ most = cc in omega arith
counted-some missing most (b ∷ held) some is = absurd (cc)

asks-some : (asks : StreamOperation) (before most : ℕ) (held : List ℕ) → before < most_moved asks →
    asking_want asks before held ≡ want.Read most → 1 ≤ most
asks-some (Reads (Some_bytes size)) before most held missing is =
    counted-some (size - before) most held (omega arith) is
asks-some (Reads (All_bytes size)) before most held missing is = counted-some (size - before) most held (omega arith) is
asks-some (Reads (Until delimiter max)) before most held missing is =
    until-some delimiter held max before most (served_read (Until delimiter max) before held None).outcome refl is
asks-some (Writes writing) before most held missing is = absurd (cc)

-- a read of some bytes holds none where it asks for further ones
some-whole : (size before most : ℕ) (held : List ℕ) (stream : Stream) (answer : Moved) → before ≡ 0 →
    counted_want (size - before) held ≡ want.Read most → IsAllThere most (length stream.arrived) answer →
    IsAllThere size (length (held ++ stream.arrived)) answer
some-whole size before most [] stream answer fresh is whole =
    let same : size - before ≡ most = cc in
    let all : most ≡ size = omega arith in
    rw all at whole
some-whole size before most (b ∷ held) stream answer fresh is whole = absurd (cc)

read-whole : (asks : StreamOperation) (before most : ℕ) (latest : Option ℕ) (held : List ℕ) (stream : Stream) (answer : Moved) →
    MovedBefore asks before → asking_want asks before held ≡ want.Read most →
    IsAllThere most (length stream.arrived) answer →
    ComesWhole asks (whole_stream (exchange_with asks before latest held stream)) answer
read-whole (Reads (Some_bytes size)) before most latest held stream answer fresh is whole =
    some-whole size before most held stream answer fresh is whole
read-whole (Reads (All_bytes size)) before most latest held stream answer fresh is whole = tt
read-whole (Reads (Until delimiter max)) before most latest held stream answer fresh is whole = tt
read-whole (Writes writing) before most latest held stream answer fresh is whole = absurd (cc)

pub reads-answered : ReadsMayBeAnswered
reads-answered exchange most ready is =
    let stream = exchange.stream in
    let some = asks-some exchange.progress.asks exchange.progress.moved most exchange.held ready.under_way.missing is in
    let told = read-told most (length stream.arrived) stream.read_mark some in
    record {
      may = record {
        comes = subst (λ w. MayCome stream w (read_answer most stream)) (sym is) told.comes;
        whole =
            read-whole exchange.progress.asks exchange.progress.moved most exchange.progress.latest exchange.held stream
            (read_answer most stream) ready.under_way.before is told.whole;
      };
      nothing = λ h.
          subst (λ w. HasNothing stream w) (sym is)
          (no-bytes stream.arrived (told.none h), read-unmarked stream.read_mark (told.unmarked h));
    }

counted-no_write : (missing from most : ℕ) (held : List ℕ) (P : Type 0) →
    counted_want missing held ≡ want.Write from most → P
counted-no_write missing from most [] P is = absurd (cc)
counted-no_write missing from most (b ∷ held) P is = absurd (cc)

until-no_write : (found : Option Outcome) (more from most : ℕ) (P : Type 0) →
    until_want found more ≡ want.Write from most → P
until-no_write None more from most P is = absurd (cc)
until-no_write (Some (code, size)) more from most P is = absurd (cc)

reads-no_write : (reading : Reading) (before from most : ℕ) (held : List ℕ) (P : Type 0) →
    asking_want (Reads reading) before held ≡ want.Write from most → P
reads-no_write (Some_bytes size) before from most held P is = counted-no_write (size - before) from most held P is
reads-no_write (All_bytes size) before from most held P is = counted-no_write (size - before) from most held P is
reads-no_write (Until delimiter max) before from most held P is =
    until-no_write (served_read (Until delimiter max) before held None).outcome (max - length held) from most P is

write-whole : (writing : Writing) (before most : ℕ) (latest : Option ℕ) (held : List ℕ) (stream : Stream)
    (answer : Moved) → MovedBefore (Writes writing) before → length (bytes_of writing) - before ≡ most →
    IsAllThere most stream.room answer →
    ComesWhole (Writes writing) (whole_stream (exchange_with (Writes writing) before latest held stream)) answer
write-whole (Some_of bytes) before most latest held stream answer fresh same whole =
    let all : most ≡ length bytes = omega arith in subst (λ n. IsAllThere n stream.room answer) all whole
write-whole (All_of bytes) before most latest held stream answer fresh same whole = tt

write-answered : (asks : StreamOperation) (before from most : ℕ) (latest : Option ℕ) (held : List ℕ) (stream : Stream) →
    (let exchange = exchange_with asks before latest held stream in
    MayBeAsked exchange → wanted_in exchange ≡ want.Write from most →
    IsToldAnswer exchange (write_answer (bytes_from asks from most) stream))
write-answered (Reads reading) before from most latest held stream = λ ready is.
    let exchange = exchange_with (Reads reading) before latest held stream in
    reads-no_write reading before from most held (IsToldAnswer exchange (write_answer [] stream)) is
write-answered (Writes writing) before from most latest held stream = λ ready is.
    let missing = ready.under_way.missing in
    let bytes = bytes_of writing in
    let at : before ≡ from = cc in
    let same : length (bytes_of writing) - before ≡ most = cc in
    let some : 1 ≤ most = omega arith in
    let count : length (take most (drop from bytes)) ≡ most =
    omega (arith, length-take most (drop from bytes), length-drop from bytes) in
    let mark = option_map write_code stream.write_mark in
    let told =
    subst (λ n. Told most stream.room mark code.Broken (moved_by (some_of n stream.room mark).outcome)) (sym count)
    (write-told most stream.room stream.write_mark some) in
    let answer = write_answer (take most (drop from bytes)) stream in
    record {
      may = record {
        comes = subst (λ w. MayCome stream w answer) (sym is) told.comes;
        whole = write-whole writing before most latest held stream answer ready.under_way.before same told.whole;
      };
      nothing = λ h.
          subst (λ w. HasNothing stream w) (sym is) (told.none h, write-unmarked stream.write_mark (told.unmarked h));
    }

pub writes-answered : WritesMayBeAnswered
writes-answered exchange from most ready is =
    write-answered exchange.progress.asks exchange.progress.moved from most exchange.progress.latest exchange.held
    exchange.stream ready is

-- held bytes that a read of some bytes consumes are all that it gets
some-held : (size before count : ℕ) (held : List ℕ) (stream : Stream) → before ≡ 0 →
    (size ≤ length held) ⊎ (stream.arrived ≡ []) → counted_want (size - before) held ≡ want.Held count →
    count ≡ min size (length (held ++ stream.arrived))
some-held size before count [] stream fresh filled is = absurd (cc)
some-held size before count (b ∷ held) stream fresh filled is =
    let bytes = b ∷ held in
    let taken : min (size - before) (length bytes) ≡ count = cc in
    let all = length-append bytes stream.arrived in
    elim filled [
      | inl enough ↦ omega (arith, all, taken, enough)
      | inr none ↦ let nothing : length stream.arrived ≡ 0 = ap length none in omega (arith, all, taken, nothing)
    ]

held-whole : (asks : StreamOperation) (before count : ℕ) (latest : Option ℕ) (held : List ℕ) (stream : Stream) →
    MovedBefore asks before → IsFilled asks held stream → asking_want asks before held ≡ want.Held count →
    ComesWhole asks (whole_stream (exchange_with asks before latest held stream)) (moved.Took count)
held-whole (Reads (Some_bytes size)) before count latest held stream fresh filled is =
    some-held size before count held stream fresh filled is
held-whole (Reads (All_bytes size)) before count latest held stream fresh filled is = tt
held-whole (Reads (Until delimiter max)) before count latest held stream fresh filled is = tt
held-whole (Writes writing) before count latest held stream fresh filled is = absurd (cc)

pub held-consumed : HeldMayBeConsumed
held-consumed exchange count ready filled is = record {
  comes = subst (λ w. MayCome exchange.stream w (moved.Took count)) (sym is) refl;
  whole =
      held-whole exchange.progress.asks exchange.progress.moved count exchange.progress.latest exchange.held
      exchange.stream ready.under_way.before filled is;
}
