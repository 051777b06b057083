-- What an operation gives is what it may give where bytes aren't told.
use Rattle.std.proofs.Common.{◌≡◌, ℕ, ◌+◌, ◌-◌, ◌<◌, ◌≤◌, ◌==◌, min, nat_le, nat_lt, true, false, Bool, Option, None, Some, List, [], ◌∷◌, length, take, refl, sym, subst, ◌∙◌, arith}
use Rattle.std.proofs.lemmas.Bool.Decides.{nat_tests}
use Rattle.std.proofs.lemmas.List.{length-take}
use Rattle.asio_types.specs.declared.code.Code.{Code}
use Rattle.asio_types.specs.declared.code.Code.TheVariants as code
use Rattle.asio_types.specs.declared.outside.Moved.{Moved}
use Rattle.asio_types.specs.declared.outside.Moved.TheVariants as moved
use Rattle.stream_rules.specs.Delimiter.{first_end}
use Rattle.stream_rules.specs.Moving.{moved_count}
use Rattle.stream_rules.specs.Serving.{Some_bytes, All_bytes, Until, Some_of, All_of, Outcome, all_of, ended_by, served_read, some_of, until_found}
use Rattle.stream_rules.proofs.DelimiterLemmas.{first_end-ends}
use Rattle.composed_ops.specs.declared.want.Want.TheVariants as want
use Rattle.composed_ops.specs.StreamOperation.{StreamOperation, Reads, Writes, most_moved}
use Rattle.composed_ops.specs.Progress.{FitsMove, IsCountWithin, IsUnderWay, MovedBefore, StreamProgress}
use Rattle.composed_ops.specs.Step.{asking_outcome, outcome_by, step_of, told_code}
use Rattle.composed_ops.specs.Want.{asking_want, counted_want, until_want}
use Rattle.composed_ops.proofs.CountLemmas.{all-nothing, some-there}
use Rattle.history_rules.specs.Untold.{is_from_to, is_read_mark, is_write_mark, may_give_all, may_give_some, may_give_until}
use Rattle.reactor_trait.specs.Reactor.{IsMoveWithin}
use Rattle.proactor_core.specs.Reading.{may_give, IsAllowed}
use Rattle.proactor_core.specs.Round.{round_of}

-- what an outcome is that is allowed
abbrev Allows : (Code → ℕ → Bool) → Option Outcome → Type 0
Allows may None = Unit {0}
Allows may (Some outcome) = may outcome.0 outcome.1 ≡ true

some-allowed : (size : ℕ) (may : Code → ℕ → Bool) (end : Code) (answer : Moved) →
    ((n : ℕ) → 1 ≤ n → n ≤ size → may code.Ok n ≡ true) → may end 0 ≡ true → may code.Reset 0 ≡ true → 1 ≤ size →
    IsCountWithin size answer → Allows may (some_of size (moved_count answer) (told_code end answer)).outcome
some-allowed size may end (moved.Took count) counts at_end at_reset asked within =
    let counted : 1 ≤ min size count = omega (arith, within.0) in
    let least : min size count ≤ size = omega arith in
    rw (some-there size count None within.0) (counts (min size count) counted least)
some-allowed size may end moved.End counts at_end at_reset asked within = at_end
some-allowed size may end moved.NotYet counts at_end at_reset asked within = tt
some-allowed size may end moved.Reset counts at_end at_reset asked within = at_reset

all-took : (size before count : ℕ) (may : Code → ℕ → Bool) (test : Bool) → nat_le size (before + count) ≡ test →
    may code.Ok size ≡ true → Allows may (all_of size before count None).outcome
all-took size before count may true is whole = rw is whole
all-took size before count may false is whole = rw is tt

all-allowed : (size before : ℕ) (may : Code → ℕ → Bool) (end : Code) (answer : Moved) → may code.Ok size ≡ true →
    may end before ≡ true → may code.Reset before ≡ true → before < size →
    Allows may (all_of size before (moved_count answer) (told_code end answer)).outcome
all-allowed size before may end (moved.Took count) whole at_end at_reset missing =
    all-took size before count may (nat_le size (before + count)) refl whole
all-allowed size before may end moved.End whole at_end at_reset missing =
    rw (all-nothing size before 0 (Some end) missing refl) at_end
all-allowed size before may end moved.NotYet whole at_end at_reset missing =
    rw (all-nothing size before 0 None missing refl) tt
all-allowed size before may end moved.Reset whole at_end at_reset missing =
    rw (all-nothing size before 0 (Some code.Reset) missing refl) at_reset

until-allowed : (least max : ℕ) (answer : Moved) →
    Allows (may_give_until least max) (ended_by (told_code code.Eof answer) 0)
until-allowed least max (moved.Took count) = tt
until-allowed least max moved.End = refl
until-allowed least max moved.NotYet = tt
until-allowed least max moved.Reset = refl

is-below : (n m : ℕ) → n < m → nat_lt n m ≡ true
is-below n m h = grind (arith, nat_tests)

is-itself : (n : ℕ) → (n == n) ≡ true
is-itself n = grind (arith, nat_tests)

is-between : (least most n : ℕ) → least ≤ n → n ≤ most → is_from_to least most n ≡ true
is-between least most n h k =
    let low : nat_le least n ≡ true = grind (arith, nat_tests) in
    let high : nat_le n most ≡ true = grind (arith, nat_tests) in
    rw (low, high)

answer-allowed : (asks : StreamOperation) (before : ℕ) (answer : Moved) → before < most_moved asks → MovedBefore asks before →
    IsCountWithin (most_moved asks - before) answer → Allows (may_give asks) (asking_outcome asks before answer)
answer-allowed (Reads (Some_bytes size)) before answer missing fresh within =
    let all : size - before ≡ size = omega arith in
    some-allowed size (may_give_some size is_read_mark) code.Eof answer (is-between 1 size) refl refl (omega arith)
    (rw all at within)
answer-allowed (Reads (All_bytes size)) before answer missing fresh within =
    all-allowed size before (may_give_all size is_read_mark) code.Eof answer (is-itself size)
    (is-below before size missing) (is-below before size missing) missing
answer-allowed (Reads (Until delimiter max)) before answer missing fresh within =
    until-allowed (length delimiter) max answer
answer-allowed (Writes (Some_of bytes)) before answer missing fresh within =
    let size = length bytes in
    let all : size - before ≡ size = omega arith in
    some-allowed size (may_give_some size is_write_mark) code.Broken answer (is-between 1 size) refl refl (omega arith)
    (rw all at within)
answer-allowed (Writes (All_of bytes)) before answer missing fresh within =
    let size = length bytes in
    all-allowed size before (may_give_all size is_write_mark) code.Broken answer (is-itself size)
    (is-below before size missing) (is-below before size missing) missing

outcome-allowed : (asks : StreamOperation) (outcome : Option Outcome) → Allows (may_give asks) outcome →
    IsAllowed asks (round_of (step_of outcome))
outcome-allowed asks None allowed = tt
outcome-allowed asks (Some (code, size)) allowed = allowed

-- what an operation gives by an answer
pub gives-allowed : (progress : StreamProgress) (answer : Moved) → IsUnderWay progress → FitsMove progress answer →
    IsAllowed progress.asks (round_of (step_of (outcome_by progress answer)))
gives-allowed progress answer under_way fits =
    outcome-allowed progress.asks (outcome_by progress answer)
    (answer-allowed progress.asks progress.moved answer under_way.missing under_way.before fits)

full-allowed : (least max size there : ℕ) (ended : Code) (test : Bool) → nat_le max there ≡ test →
    (until_found None max there None).outcome ≡ Some (ended, size) → may_give_until least max ended size ≡ true
full-allowed least max size there ended true full is =
    let found : (until_found None max there None).outcome ≡ Some (code.NotFound, 0) = rw full refl in
    let both : Some (code.NotFound, 0) ≡ Some (ended, size) = sym found ∙ is in
    let same : (code.NotFound, 0) ≡ (ended, size) = cc in
    subst (λ (o : Outcome). may_give_until least max o.0 o.1 ≡ true) same refl
full-allowed least max size there ended false full is =
    let none : (until_found None max there None).outcome ≡ None = rw full refl in absurd (cc)

found-allowed : (delimiter held : List ℕ) (max size : ℕ) (ended : Code) (found : Option ℕ) →
    first_end delimiter (take max held) ≡ found →
    (until_found found max (length held) None).outcome ≡ Some (ended, size) →
    may_give_until (length delimiter) max ended size ≡ true
found-allowed delimiter held max size ended (Some count) at is =
    let ends = first_end-ends delimiter (take max held) count at in
    let begins = ends.begins in
    let within : count ≤ max = omega (arith, ends.within, length-take max held) in
    let same : (code.Ok, count) ≡ (ended, size) = cc in
    subst (λ (o : Outcome). may_give_until (length delimiter) max o.0 o.1 ≡ true) same
    (is-between (length delimiter) max count begins within)
found-allowed delimiter held max size ended None at is =
    full-allowed (length delimiter) max size (length held) ended (nat_le max (length held)) refl is

want-finish : (outcome : Option Outcome) (more size : ℕ) (ended : Code) →
    until_want outcome more ≡ want.Finish ended size → outcome ≡ Some (ended, size)
want-finish None more size ended is = absurd (cc)
want-finish (Some (c, n)) more size ended is =
    let code_same : c ≡ ended = cc in
    let size_same : n ≡ size = cc in
    rw (code_same, size_same)

counted-finish : (missing size : ℕ) (held : List ℕ) (ended : Code) →
    counted_want missing held ≡ want.Finish ended size → ⊥
counted-finish missing size [] ended is = cc
counted-finish missing size (b ∷ held) ended is = cc

-- what a read gives that completes on the held bytes
pub finish-allowed : (asks : StreamOperation) (before size : ℕ) (held : List ℕ) (ended : Code) →
    asking_want asks before held ≡ want.Finish ended size → may_give asks ended size ≡ true
finish-allowed (Reads (Some_bytes most)) before size held ended is =
    absurd (counted-finish (most - before) size held ended is)
finish-allowed (Reads (All_bytes most)) before size held ended is =
    absurd (counted-finish (most - before) size held ended is)
finish-allowed (Reads (Until delimiter max)) before size held ended is =
    found-allowed delimiter held max size ended (first_end delimiter (take max held)) refl
    (want-finish (served_read (Until delimiter max) before held None).outcome (max - length held) size ended is)
finish-allowed (Writes writing) before size held ended is = absurd (cc)

-- a call moves no more than it asks for, which is no more than is missing
pub fits-within : (missing most : ℕ) (answer : Moved) → most ≤ missing → IsMoveWithin most answer →
    IsCountWithin missing answer
fits-within missing most (moved.Took count) asks within = (within.0, omega (arith, within.1))
fits-within missing most moved.End asks within = tt
fits-within missing most moved.NotYet asks within = tt
fits-within missing most moved.Reset asks within = tt
