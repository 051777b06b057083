-- Lines that are read off a text one after another.
use Rattle.std.proofs.Common.{◌≡◌, ℕ, ◌+◌, List, [], ◌∷◌, ◌++◌, length, reverse, Option, Some, None, refl, ap, subst, sym, ◌∙◌, inl, inr, arith, append_assoc, length-append}
use Rattle.std.proofs.lemmas.List.{reverse-append}
use Rattle.std.specs.Prelude.{◌^◌, IfNone, IfSome, MatchOption}
use Rattle.asio_types.specs.Faults.{Rose}
use Rattle.std.specs.List.{flat_map}
use Rattle.run_lines.specs.declared.bad_line.BadLine.{BadLine}
use Rattle.run_lines.specs.declared.line.Line.{Line}
use Rattle.run_lines.specs.BadLine.{IsBadLine}
use Rattle.run_lines.specs.Entry.{IsEntry, PlainEntry, entry_text, line, name}
use Rattle.run_lines.specs.Line.{IsLine, line_text}
use Rattle.run_lines.specs.Run.{AreEntries, header, lines_of, run_text, with_line_feed}
use Rattle.run_lines.specs.Words.{words_of}
use Rattle.run_reader.specs.declared.fault.ReadFault.{ReadFault}
use Rattle.run_reader.specs.declared.fault.ReadFault.TheVariants as fault
use Rattle.run_reader.specs.Buffer.{HasNoLineFeed}
use Rattle.run_reader.specs.Reader.{BeginsTooLong, HasNoLastLineFeed, IsWhollyRead, TakesLine}
use Rattle.run_rules.specs.declared.level.Level.{Level}
use Rattle.run_rules.specs.declared.rule.Rule.{Rule}
use Rattle.run_rules.specs.Breaks.{BreaksRule}
use Rattle.run_rules.specs.Legal.{IsLegalSoFar, IsWhole}
use Rattle.run_rules.specs.MayCome.{MayCome}
use Rattle.run_verdict.specs.declared.ending.Ending.{Ending}
use Rattle.run_verdict.specs.declared.ending.Ending.TheVariants as ending
use Rattle.run_verdict.specs.declared.ending.Owed.{Owed}
use Rattle.run_verdict.specs.declared.judge.Judge.{Judge}
use Rattle.run_verdict.specs.declared.run.Next.TheVariants as next
use Rattle.run_verdict.specs.Endings.{BeginsWith, CountsFaultsOf, CountsNext, EndsLine, EndsRun, EndsWith, IsOpened, IsReading, NextGives, Says, SaysOf, Stops, ended_by, past_of}
use Rattle.run_verdict.specs.Judges.{HasJudged}
use Rattle.run_verdict.specs.Search.{BreaksAt}

no_more : {X : Type 0} (xs : List X) → xs ++ [] ≡ xs
no_more [] = refl
no_more {X} (x ∷ xs) = ap (λ (ys : List X). x ∷ ys) (no_more xs)

-- one entry more

lines_more : (xs ys : List PlainEntry) → lines_of (xs ++ ys) ≡ lines_of xs ++ lines_of ys
lines_more [] ys = refl
lines_more (line happened ∷ xs) ys = ap (λ (ls : List Line). happened ∷ ls) (lines_more xs ys)
lines_more (name kind number text ∷ xs) ys = lines_more xs ys

texts_more : (xs : List PlainEntry) (entry : PlainEntry)
    → flat_map (λ (e : PlainEntry). with_line_feed (entry_text e)) (xs ++ entry ∷ [])
    ≡ flat_map (λ (e : PlainEntry). with_line_feed (entry_text e)) xs ++ with_line_feed (entry_text entry)
texts_more [] entry = no_more (with_line_feed (entry_text entry))
texts_more (x ∷ xs) entry =
    ap (λ (rest : List ℕ). with_line_feed (entry_text x) ++ rest) (texts_more xs entry)
    ∙ sym (append_assoc (with_line_feed (entry_text x)) (flat_map (λ (e : PlainEntry). with_line_feed (entry_text e)) xs)
    (with_line_feed (entry_text entry)))

run_more : (xs : List PlainEntry) (entry : PlainEntry)
    → run_text (xs ++ entry ∷ []) ≡ run_text xs ++ with_line_feed (entry_text entry)
run_more xs entry =
    ap (λ (rest : List ℕ). with_line_feed header ++ rest) (texts_more xs entry)
    ∙ sym (append_assoc (with_line_feed header) (flat_map (λ (e : PlainEntry). with_line_feed (entry_text e)) xs)
    (with_line_feed (entry_text entry)))

entries_more : (xs : List PlainEntry) (entry : PlainEntry) → AreEntries xs → IsEntry entry → AreEntries (xs ++ entry ∷ [])
entries_more [] entry are is = (is, tt)
entries_more (x ∷ xs) entry are is = (are.0, entries_more xs entry are.1 is)

pub past_line : (xs : List PlainEntry) (happened : Line) → past_of (xs ++ line happened ∷ []) ≡ happened ∷ past_of xs
past_line xs happened = ap reverse (lines_more xs (line happened ∷ [])) ∙ reverse-append (lines_of xs) (happened ∷ [])

pub past_name : (xs : List PlainEntry) (entry : PlainEntry) → lines_of (entry ∷ []) ≡ [] → past_of (xs ++ entry ∷ []) ≡ past_of xs
past_name xs entry none =
    ap reverse (lines_more xs (entry ∷ []) ∙ ap (λ (ls : List Line). lines_of xs ++ ls) none ∙ no_more (lines_of xs))

pub begins_more : (level : Level) (text : List ℕ) (entries : List PlainEntry) (entry : PlainEntry) (rest : List ℕ) (at : ℕ)
    → BeginsWith level text entries (entry_text entry ++ 10 ∷ rest) at → IsEntry entry
    → IsLegalSoFar level (past_of (entries ++ entry ∷ []))
    → BeginsWith level text (entries ++ entry ∷ []) rest (at + 1)
begins_more level text entries entry rest at begins is legal = record {
  readable = entries_more entries entry begins.readable is;
  parted = begins.parted
      ∙ ap (λ (xs : List ℕ). run_text entries ++ xs) (sym (append_assoc (entry_text entry) (10 ∷ []) rest))
      ∙ sym (append_assoc (run_text entries) (with_line_feed (entry_text entry)) rest)
      ∙ ap (λ (xs : List ℕ). xs ++ rest) (sym (run_more entries entry));
  legal = legal;
  number = one_more (length entries) (length (entries ++ entry ∷ [])) begins.number (length-append entries (entry ∷ []));
}
  where
    one_more : (n m : ℕ) → at ≡ n + 2 → m ≡ n + 1 → at + 1 ≡ m + 2
    one_more n m here more = omega arith

pub begins_at : (level : Level) (text : List ℕ) (entries : List PlainEntry) (rest other : List ℕ) (at : ℕ)
    → BeginsWith level text entries rest at → rest ≡ other
    → BeginsWith level text entries other at
begins_at level text entries rest other at begins same = subst (λ (xs : List ℕ). BeginsWith level text entries xs at) same begins

-- a line is followed
pub line_read : (level : Level) (text : List ℕ) (happened : Line) (held : List ℕ) (left : Option (List ℕ))
    (held_after : List ℕ) (left_after : Option (List ℕ))
    (old new : Judge) (at : ℕ) → IsReading level text held left old at → IsLine happened
    → TakesLine held left (line_text happened) held_after left_after
    → ((past : List Line) → HasJudged level past old → HasJudged level (happened ∷ past) new)
    → IsReading level text held_after left_after new (at + 1)
line_read level text happened held None held_after left_after old new at reading is takes followed = absurd reading
line_read level text happened held (Some left) held_after None old new at reading is takes followed = absurd takes
line_read level text happened held (Some left) held_after (Some left_after) old new at reading is takes followed =
    let entries = reading.0 in
    let next : HasJudged level (past_of (entries ++ line happened ∷ [])) new =
    subst (λ (past : List Line). HasJudged level past new) (sym (past_line entries happened))
    (followed (past_of entries) reading.2) in (
      entries ++ line happened ∷ [],
      begins_more level text entries (line happened) (held_after ++ left_after) at
          (begins_at level text entries (held ++ left) (line_text happened ++ 10 ∷ (held_after ++ left_after)) at reading.1
          takes) is next.legal,
      next,
    )

pub line_broken : (level : Level) (text : List ℕ) (happened : Line) (held : List ℕ) (left : Option (List ℕ))
    (held_after : List ℕ) (left_after : Option (List ℕ))
    (judge : Judge) (at : ℕ) (rule : Rule) → IsReading level text held left judge at
    → TakesLine held left (line_text happened) held_after left_after
    → (after : Judge)
    → ((past : List Line) → HasJudged level past judge → BreaksRule level past happened rule × HasJudged level past after)
    → EndsWith level text (ending.Illegal at rule happened) after
line_broken level text happened held None held_after left_after judge at rule reading takes after breaks = absurd reading
line_broken level text happened held (Some left) held_after None judge at rule reading takes after breaks = absurd takes
line_broken level text happened held (Some left) held_after (Some left_after) judge at rule reading takes after breaks =
    let rest : List ℕ = held_after ++ left_after in
    let begins : BeginsWith level text reading.0 (line_text happened ++ 10 ∷ rest) at =
    begins_at level text reading.0 (held ++ left) (line_text happened ++ 10 ∷ rest) at reading.1 takes in
    let found : BreaksRule level (past_of reading.0) happened rule × HasJudged level (past_of reading.0) after =
    breaks (past_of reading.0) reading.2 in
    ((reading.0, rest, begins, found.0), (reading.0, rest, begins, found.0, found.1))

-- a line may come, and isn't followed
line_refused : (level : Level) (text : List ℕ) (happened : Line) (held : List ℕ) (left : Option (List ℕ))
    (held_after : List ℕ) (left_after : Option (List ℕ))
    (judge : Judge) (at : ℕ) → IsReading level text held left judge at
    → TakesLine held left (line_text happened) held_after left_after
    → ((past : List Line) → HasJudged level past judge → MayCome level past happened)
    → SaysOf level text (ending.NoRoom at)
line_refused level text happened held None held_after left_after judge at reading takes may = absurd reading
line_refused level text happened held (Some left) held_after None judge at reading takes may = absurd takes
line_refused level text happened held (Some left) held_after (Some left_after) judge at reading takes may =
    (reading.0, held ++ left, reading.1, inr (happened, held_after ++ left_after, takes, may (past_of reading.0) reading.2))

pub name_read : (level : Level) (text : List ℕ) (entry : PlainEntry) (held : List ℕ) (left : Option (List ℕ))
    (held_after : List ℕ) (left_after : Option (List ℕ))
    (judge : Judge) (at : ℕ) → IsReading level text held left judge at → IsEntry entry → lines_of (entry ∷ []) ≡ []
    → TakesLine held left (entry_text entry) held_after left_after → IsReading level text held_after left_after judge (at + 1)
name_read level text entry held None held_after left_after judge at reading is none takes = absurd reading
name_read level text entry held (Some left) held_after None judge at reading is none takes = absurd takes
name_read level text entry held (Some left) held_after (Some left_after) judge at reading is none takes =
    let entries = reading.0 in
    let same : past_of entries ≡ past_of (entries ++ entry ∷ []) = sym (past_name entries entry none) in (
      entries ++ entry ∷ [],
      begins_more level text entries entry (held_after ++ left_after) at
          (begins_at level text entries (held ++ left) (entry_text entry ++ 10 ∷ (held_after ++ left_after)) at reading.1
          takes) is
          (subst (λ (past : List Line). IsLegalSoFar level past) same reading.1.legal),
      subst (λ (past : List Line). HasJudged level past judge) same reading.2,
    )

pub bad_read : (level : Level) (text bytes : List ℕ) (bad : BadLine) (held : List ℕ) (left : Option (List ℕ))
    (held_after : List ℕ) (left_after : Option (List ℕ))
    (judge : Judge) (at : ℕ) → IsReading level text held left judge at → TakesLine held left bytes held_after left_after
    → HasNoLineFeed bytes
    → IsBadLine (words_of bytes) bad → EndsWith level text (ending.Bad at bad) judge
bad_read level text bytes bad held None held_after left_after judge at reading takes fed is = absurd reading
bad_read level text bytes bad held (Some left) held_after None judge at reading takes fed is = absurd takes
bad_read level text bytes bad held (Some left) held_after (Some left_after) judge at reading takes fed is = (
  (
    reading.0,
    bytes,
    held_after ++ left_after,
    begins_at level text reading.0 (held ++ left) (bytes ++ 10 ∷ (held_after ++ left_after)) at reading.1 takes,
    fed,
    is,
  ),
  tt,
)

pub unended_read : (level : Level) (text held : List ℕ) (left : Option (List ℕ)) (judge : Judge) (at : ℕ)
    → IsReading level text held left judge at
    → HasNoLastLineFeed held left → SaysOf level text (ending.NoLineFeed at)
unended_read level text held None judge at reading fed = absurd reading
unended_read level text held (Some left) judge at reading fed = inr (reading.0, held ++ left, reading.1, fed.0, fed.1)

pub legal_read : (level : Level) (text held : List ℕ) (left : Option (List ℕ)) (judge : Judge) (at : ℕ)
    → IsReading level text held left judge at
    → IsWhollyRead held left → ((past : List Line) → HasJudged level past judge → IsWhole past) → SaysOf level text ending.Legal
legal_read level text held None judge at reading end whole = absurd reading
legal_read level text held (Some left) judge at reading end whole = (
  reading.0,
  (reading.1.readable, reading.1.parted ∙ ap (λ (xs : List ℕ). run_text reading.0 ++ xs) end ∙ no_more (run_text reading.0)),
  record { legal = reading.1.legal; whole = whole (past_of reading.0) reading.2 },
)

pub so_far_read : (level : Level) (text held : List ℕ) (left : Option (List ℕ)) (judge : Judge) (at lines : ℕ) (owed : Owed)
    → lines + 1 ≡ at → IsReading level text held left judge at
    → IsWhollyRead held left → ((past : List Line) → HasJudged level past judge → IsWhole past → ⊥)
    → SaysOf level text (ending.SoFar lines owed)
so_far_read level text held None judge at lines owed same reading end not = absurd reading
so_far_read level text held (Some left) judge at lines owed same reading end not = (
  reading.0,
  subst (λ (n : ℕ). BeginsWith level text reading.0 [] n) (sym same)
      (begins_at level text reading.0 (held ++ left) [] at reading.1 end),
  not (past_of reading.0) reading.2,
)

-- what ends a run

pub line_ends : (level : Level) (text : List ℕ) (happened : Line) (held : List ℕ) (left : Option (List ℕ))
    (held_after : List ℕ) (left_after : Option (List ℕ))
    (judge after : Judge) (at : ℕ) (found : Ending) → IsReading level text held left judge at
    → TakesLine held left (line_text happened) held_after left_after
    → ((past : List Line) → HasJudged level past judge → EndsLine level past happened at after found)
    → EndsWith level text found after
line_ends level text happened held None held_after left_after judge after at found reading takes ends = absurd reading
line_ends level text happened held (Some left) held_after left_after judge after at (ending.Illegal other rule named) reading
    takes ends =
    let end = ends (past_of reading.0) reading.2 in
    let P : ℕ → Line → Type 0 = λ n l. EndsWith level text (ending.Illegal n rule l) after in
    subst (λ (n : ℕ). P n named) (sym end.0) (subst (λ (l : Line). P at l) (sym end.1)
    (line_broken level text happened held (Some left) held_after left_after judge at rule reading takes after
    (λ past judged. ((ends past judged).2, (ends past judged).3))))
line_ends level text happened held (Some left) held_after left_after judge after at (ending.NoRoom other) reading takes ends = (
  subst (λ (n : ℕ). SaysOf level text (ending.NoRoom n)) (sym (ends (past_of reading.0) reading.2).0)
      (line_refused level text happened held (Some left) held_after left_after judge at reading takes
      (λ past judged. (ends past judged).1)),
  tt,
)
line_ends level text happened held (Some left) held_after left_after judge after at ending.Legal reading takes ends =
    absurd (ends (past_of reading.0) reading.2)
line_ends level text happened held (Some left) held_after left_after judge after at (ending.SoFar lines owed) reading takes ends =
    absurd (ends (past_of reading.0) reading.2)
line_ends level text happened held (Some left) held_after left_after judge after at (ending.Bad other bad) reading takes ends =
    absurd (ends (past_of reading.0) reading.2)
line_ends level text happened held (Some left) held_after left_after judge after at ending.NoHeader reading takes ends =
    absurd (ends (past_of reading.0) reading.2)
line_ends level text happened held (Some left) held_after left_after judge after at (ending.NoLineFeed other) reading takes ends =
    absurd (ends (past_of reading.0) reading.2)
line_ends level text happened held (Some left) held_after left_after judge after at (ending.TooLong other) reading takes ends =
    absurd (ends (past_of reading.0) reading.2)
line_ends level text happened held (Some left) held_after left_after judge after at (ending.ReadFault other) reading takes ends =
    absurd (ends (past_of reading.0) reading.2)

pub run_ends : (level : Level) (text held : List ℕ) (left : Option (List ℕ)) (judge : Judge) (at lines : ℕ) (found : Ending)
    → lines + 1 ≡ at → IsReading level text held left judge at
    → IsWhollyRead held left → ((past : List Line) → HasJudged level past judge → EndsRun level past lines found)
    → EndsWith level text found judge
run_ends level text held None judge at lines found same reading end ends = absurd reading
run_ends level text held (Some left) judge at lines ending.Legal same reading end ends =
    (legal_read level text held (Some left) judge at reading end ends, tt)
run_ends level text held (Some left) judge at lines (ending.SoFar number owed) same reading end ends =
    let here : number ≡ lines = (ends (past_of reading.0) reading.2).0 in (
      so_far_read level text held (Some left) judge at number owed (ap (λ (n : ℕ). n + 1) here
          ∙ same) reading end (λ past judged. (ends past judged).1),
      tt,
    )
run_ends level text held (Some left) judge at lines (ending.Illegal other rule named) same reading end ends =
    absurd (ends (past_of reading.0) reading.2)
run_ends level text held (Some left) judge at lines (ending.Bad other bad) same reading end ends =
    absurd (ends (past_of reading.0) reading.2)
run_ends level text held (Some left) judge at lines ending.NoHeader same reading end ends =
    absurd (ends (past_of reading.0) reading.2)
run_ends level text held (Some left) judge at lines (ending.NoLineFeed other) same reading end ends =
    absurd (ends (past_of reading.0) reading.2)
run_ends level text held (Some left) judge at lines (ending.TooLong other) same reading end ends =
    absurd (ends (past_of reading.0) reading.2)
run_ends level text held (Some left) judge at lines (ending.ReadFault other) same reading end ends =
    absurd (ends (past_of reading.0) reading.2)
run_ends level text held (Some left) judge at lines (ending.NoRoom other) same reading end ends =
    absurd (ends (past_of reading.0) reading.2)

too_long_read : (level : Level) (text held : List ℕ) (left : Option (List ℕ)) (judge : Judge) (at : ℕ)
    → IsReading level text held left judge at → BeginsTooLong held left → SaysOf level text (ending.TooLong at)
too_long_read level text held None judge at reading long = absurd reading
too_long_read level text held (Some left) judge at reading long = inr (reading.0, held ++ left, reading.1, long)

failed_read : (level : Level) (text held : List ℕ) (left : Option (List ℕ)) (judge : Judge) (at : ℕ)
    → IsReading level text held left judge at → SaysOf level text (ending.ReadFault at)
failed_read level text held None judge at reading = absurd reading
failed_read level text held (Some left) judge at reading = inr (reading.0, held ++ left, reading.1)

pub fault_ends : (level : Level) (text held : List ℕ) (left : Option (List ℕ)) (judge : Judge) (at : ℕ) (why : ReadFault)
    (held_after : List ℕ) (left_after : Option (List ℕ))
    → IsReading level text held left judge at → NextGives (next.Fault why) held left held_after left_after
    → EndsWith level text (ended_by why at) judge
fault_ends level text held left judge at fault.Failed held_after left_after reading gives =
    (failed_read level text held left judge at reading, tt)
fault_ends level text held left judge at fault.NoLineFeed held_after left_after reading gives =
    (unended_read level text held left judge at reading gives, tt)
fault_ends level text held left judge at fault.TooLong held_after left_after reading gives =
    (too_long_read level text held left judge at reading gives, tt)

-- no lines can be counted any more
pub count_ends : (level : Level) (text held : List ℕ) (left : Option (List ℕ)) (judge : Judge) (at : ℕ) → at + 1 ≡ 2 ^ 64
    → IsReading level text held left judge at → EndsWith level text (ending.NoRoom at) judge
count_ends level text held None judge at last reading = absurd reading
count_ends level text held (Some left) judge at last reading = ((reading.0, held ++ left, reading.1, inl last), tt)

-- a fault is counted where reading failed
pub fault_counts : (why : ReadFault) (at old new : ℕ) → CountsNext (next.Fault why) old new →
    CountsFaultsOf (ended_by why at) old new
fault_counts fault.Failed at old new counts = counts
fault_counts fault.NoLineFeed at old new counts = counts
fault_counts fault.TooLong at old new counts = counts

-- the first line

pub first_read : (level : Level) (text held : List ℕ) (left : Option (List ℕ)) (judge : Judge) → IsOpened text held left
    → HasJudged level [] judge
    → IsReading level text held left judge 2
first_read level text held None judge opened judged = absurd opened
first_read level text held (Some left) judge opened judged = (
  [],
  record {
    readable = tt;
    parted = opened ∙ sym (append_assoc header (10 ∷ []) (held ++ left))
        ∙ ap (λ (xs : List ℕ). xs ++ (held ++ left)) (sym (no_more (with_line_feed header)));
    legal = judged.legal;
    number = refl;
  },
  judged,
)

pub says_by : (level : Level) (left : Option (List ℕ)) (found : Ending)
    → ((text : List ℕ) → left ≡ Some text → SaysOf level text found) → Says level left found
says_by level None found says = tt
says_by level (Some text) found says = says text refl

pub stops_by : (level : Level) (left : Option (List ℕ)) (found : Ending) (judge : Judge)
    → ((text : List ℕ) → left ≡ Some text → EndsWith level text found judge) → Stops level left found judge
stops_by level None found judge ends = tt
stops_by level (Some text) found judge ends = (ends text refl).1

-- what one line comes to

pub judged_read : (level : Level) (text : List ℕ) (happened : Line) (held : List ℕ) (left : Option (List ℕ))
    (held_after : List ℕ) (left_after : Option (List ℕ))
    (old new : Judge) (at : ℕ) (found : Option Ending) → IsReading level text held left old at → IsLine happened
    → TakesLine held left (line_text happened) held_after left_after
    → IfNone found ((asked : Level) (past : List Line) → HasJudged asked past old → HasJudged asked (happened ∷ past) new)
    → IfSome found (λ e. (asked : Level) (past : List Line) → HasJudged asked past old → EndsLine asked past happened at new e)
    → MatchOption found (IsReading level text held_after left_after new (at + 1)) (λ e. EndsWith level text e new)
judged_read level text happened held left held_after left_after old new at None reading is takes followed ended =
    line_read level text happened held left held_after left_after old new at reading is takes
    (λ past judged. followed level past judged)
judged_read level text happened held left held_after left_after old new at (Some found) reading is takes followed ended =
    line_ends level text happened held left held_after left_after old new at found reading takes
    (λ past judged. ended level past judged)

-- what one line counts
pub counted_by : (found : Option Ending) (old new : ℕ) → new ≡ old →
    IfSome found (λ e. (faults : ℕ) → CountsFaultsOf e faults faults)
    → MatchOption found (new ≡ old) (λ e. CountsFaultsOf e old new)
counted_by None old new same counts = same
counted_by (Some found) old new same counts = subst (λ (n : ℕ). CountsFaultsOf found old n) (sym same) (counts old)

-- the end of what can be read breaks no rule
pub fault_breaks : (why : ReadFault) (at : ℕ) → BreaksAt at (ended_by why at)
fault_breaks fault.Failed at = tt
fault_breaks fault.NoLineFeed at = tt
fault_breaks fault.TooLong at = tt
