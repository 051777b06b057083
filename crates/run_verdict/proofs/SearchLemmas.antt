-- A second reading: one line more is looked at and followed, and at its end all lines before the one that breaks a rule were.
use Rattle.std.proofs.Common.{◌≡◌, ℕ, suc, ◌+◌, ◌≤◌, List, [], ◌∷◌, ◌++◌, length, Option, Some, None, refl, ap, subst, sym, ◌∙◌, inl, inr, ⊎_elim, arith, append_assoc}
use Rattle.std.specs.Prelude.{◌⊎◌, ◌<◌, Bool, true, false, IfErr, MatchResult, Result, Ok, Err}
use Rattle.std.specs.List.{flat_map}
use Rattle.run_lines.specs.declared.line.Line.{Line}
use Rattle.run_lines.specs.Entry.{PlainEntry, entry_text, line, name}
use Rattle.run_lines.specs.Line.{line_text}
use Rattle.run_lines.specs.Run.{AreEntries, lines_of, run_text, with_line_feed}
use Rattle.run_lines.proofs.RunLemmas.{cut_once, entries_are_unique, entries_stand_on_one_line}
use Rattle.run_rules.specs.declared.level.Level.{Level}
use Rattle.run_rules.specs.declared.rule.Rule.{Rule}
use Rattle.run_rules.specs.Against.{StandsAgainst}
use Rattle.run_rules.specs.Breaks.{BreaksRule}
use Rattle.run_rules.specs.Legal.{IsLegalSoFar}
use Rattle.run_verdict.specs.declared.against.Against.{Against}
use Rattle.run_verdict.specs.declared.ending.Ending.{Ending}
use Rattle.run_verdict.specs.declared.ending.Ending.TheVariants as ending
use Rattle.run_verdict.specs.declared.judge.Judge.{Judge}
use Rattle.run_verdict.specs.declared.run.Next.{Next}
use Rattle.run_verdict.specs.declared.run.Next.TheVariants as next
use Rattle.run_verdict.specs.Endings.{BeginsWith, CountsFaultsOf, IsReading, NextGives, SaysOf, StopsAt, past_of}
use Rattle.run_verdict.specs.Judges.{HasJudged}
use Rattle.run_verdict.specs.Search.{BreaksAt, Chooses, Confronts, EndsBefore, FindsAgainst, FollowsNext, IsEarly, IsFound, IsSearching, Looks}
use Rattle.run_verdict.proofs.GoingLemmas.{Moves, going_begins, going_reads, going_step}

-- a list with one element more, cut at an element

no_cut : (xs ys : List PlainEntry) (x : PlainEntry) → ◌≡◌ {A = List PlainEntry} [] (xs ++ x ∷ ys) → ⊥
no_cut [] ys x e = cc
no_cut (y ∷ xs) ys x e = cc

cut_last : (entries front back : List PlainEntry) (last x : PlainEntry) → entries ++ last ∷ [] ≡ front ++ x ∷ back
    → ((rest : List PlainEntry) × (entries ≡ front ++ x ∷ rest)) ⊎ ((front ≡ entries) × (x ≡ last))
cut_last [] [] back last x e = inr (refl, cc)
cut_last [] (f ∷ front) back last x e = absurd (no_cut front back x (cc))
cut_last (y ∷ entries) [] back last x e = let same : y ≡ x = cc in inl (entries, ap (λ (z : PlainEntry). z ∷ entries) same)
cut_last (y ∷ entries) (f ∷ front) back last x e =
    let same : y ≡ f = cc in
    let rest : entries ++ last ∷ [] ≡ front ++ x ∷ back = cc in
    ⊎_elim
    (λ (found : (more : List PlainEntry) × (entries ≡ front ++ x ∷ more)).
    let inner : entries ≡ front ++ x ∷ found.0 = found.1 in
    inl (found.0, cc))
    (λ (found : (front ≡ entries) × (x ≡ last)).
    let inner : front ≡ entries = found.0 in
    inr (cc, found.1))
    (cut_last entries front back last x rest)

longer : (past : List Line) (broken : Line) (rule : Rule) (entries : List PlainEntry) (entry : PlainEntry) (against : Against)
    → IsFound past broken rule entries (Some against) → IsFound past broken rule (entries ++ entry ∷ []) (Some against)
longer past broken rule entries entry against found = (
  found.0,
  found.1 ++ entry ∷ [],
  ap (λ (xs : List PlainEntry). xs ++ entry ∷ []) found.2 ∙ append_assoc found.0 (line against.line ∷ found.1) (entry ∷ []),
  found.3,
  found.4,
)

-- one line more was looked at

line_same : (a b : Line) → line a ≡ line b → a ≡ b
line_same a b e = cc

pub found_line : (past : List Line) (broken : Line) (rule : Rule) (entries : List PlainEntry) (found : Line) (at : ℕ)
    (old new : Option Against) → at ≡ length entries + 2 → IsFound past broken rule entries old
    → Chooses (StandsAgainst past broken rule (past_of entries) found) found at old new
    → IsFound past broken rule (entries ++ line found ∷ []) new
found_line past broken rule entries found at old new number before (inl chosen) =
    subst (λ (o : Option Against). IsFound past broken rule (entries ++ line found ∷ []) o) (sym chosen.1)
    (entries, [], refl, number, chosen.0)
found_line past broken rule entries found at old new number before (inr chosen) =
    subst (λ (o : Option Against). IsFound past broken rule (entries ++ line found ∷ []) o) (sym chosen.1) (by_old old before)
  where
    by_old : (o : Option Against) → IsFound past broken rule entries o → IsFound past broken rule (entries ++ line found ∷ []) o
    by_old None none = λ front other back is stands. ⊎_elim
        (λ (inner : (more : List PlainEntry) × (entries ≡ front ++ line other ∷ more)). none front other inner.0 inner.1 stands)
        (λ (last : (front ≡ entries) × (line other ≡ line found)).
        let here : StandsAgainst past broken rule (past_of entries) other =
        subst (λ (xs : List PlainEntry). StandsAgainst past broken rule (past_of xs) other) last.0 stands in
        chosen.0 (subst (λ (l : Line). StandsAgainst past broken rule (past_of entries) l) (line_same other found last.1) here))
        (cut_last entries front back (line found) (line other) is)
    by_old (Some against) some = longer past broken rule entries (line found) against some

pub found_name : (past : List Line) (broken : Line) (rule : Rule) (entries : List PlainEntry) (entry : PlainEntry)
    (found : Option Against) → lines_of (entry ∷ []) ≡ [] → IsFound past broken rule entries found
    → IsFound past broken rule (entries ++ entry ∷ []) found
found_name past broken rule entries entry (Some against) none before = longer past broken rule entries entry against before
found_name past broken rule entries entry None none before = λ front other back is stands. ⊎_elim
    (λ (inner : (more : List PlainEntry) × (entries ≡ front ++ line other ∷ more)). before front other inner.0 inner.1 stands)
    (λ (last : (front ≡ entries) × (line other ≡ entry)).
    no_line other (ap (λ (e : PlainEntry). lines_of (e ∷ [])) last.1 ∙ none))
    (cut_last entries front back entry (line other) is)
  where
    no_line : (l : Line) → l ∷ [] ≡ [] → ⊥
    no_line l e = cc

-- one line more was read

search_moves : (level : Level) (past : List Line) (broken : Line) (rule : Rule) (judge again : Judge) (at : ℕ)
    (old new : Option Against) (next : Next) → HasJudged level past judge → BreaksRule level past broken rule
    → Looks broken rule judge again next at old new
    → Moves (λ (entries : List PlainEntry). IsFound past broken rule entries old)
    (λ (entries : List PlainEntry). IsFound past broken rule entries new) level again at next
search_moves level past broken rule judge again at old new (next.Line found) judged breaks looks =
    λ entries judged_again may number before. found_line past broken rule entries found at old new number before
    (looks level past (past_of entries)
    (record { judged = judged; breaks = breaks; judged_again = judged_again; may = may }))
search_moves level past broken rule judge again at old new next.Name judged breaks looks = λ entries entry none before.
    subst (λ (o : Option Against). IsFound past broken rule (entries ++ entry ∷ []) o) (sym looks)
    (found_name past broken rule entries entry old none before)
search_moves level past broken rule judge again at old new _ judged breaks looks = tt

pub search_step : (level : Level) (text : List ℕ) (past : List Line) (broken : Line) (rule : Rule) (held : List ℕ)
    (left : Option (List ℕ)) (held_after : List ℕ) (left_after : Option (List ℕ)) (judge again after : Judge) (at : ℕ)
    (old new : Option Against) (next : Next) → HasJudged level past judge → BreaksRule level past broken rule
    → IsSearching level text past broken rule held left again at old → NextGives next held left held_after left_after
    → Looks broken rule judge again next at old new → FollowsNext next again after
    → IsSearching level text past broken rule held_after left_after after (at + 1) new
search_step level text past broken rule held left held_after left_after judge again after at old new next judged breaks searching
    gives looks follows =
    going_step (λ (entries : List PlainEntry). IsFound past broken rule entries old)
    (λ (entries : List PlainEntry). IsFound past broken rule entries new) level text held left held_after
    left_after again after at
    next searching gives follows (search_moves level past broken rule judge again at old new next judged breaks looks)

pub searching_reads : (level : Level) (text : List ℕ) (past : List Line) (broken : Line) (rule : Rule) (held : List ℕ)
    (left : Option (List ℕ)) (again : Judge) (at : ℕ) (found : Option Against)
    → IsSearching level text past broken rule held left again at found → IsReading level text held left again at
searching_reads level text past broken rule held left again at found searching =
    going_reads (λ (entries : List PlainEntry). IsFound past broken rule entries found) level text held left again at searching

-- the first line

pub search_begins : (level : Level) (text : List ℕ) (past : List Line) (broken : Line) (rule : Rule) (held : List ℕ)
    (left : Option (List ℕ)) (again : Judge) → IsReading level text held left again 2
    → IsSearching level text past broken rule held left again 2 None
search_begins level text past broken rule held left again reading =
    going_begins (λ (entries : List PlainEntry). IsFound past broken rule entries None) level text held left
    again none_yet reading
  where
    no_more : (n : ℕ) → 2 ≡ suc n + 2 → ⊥
    no_more n e = omega arith

    none_yet : (entries : List PlainEntry) → 2 ≡ length entries + 2 → IsFound past broken rule entries None
    none_yet [] number = λ front other back is stands. no_cut front back (line other) is
    none_yet (entry ∷ entries) number = absurd (no_more (length entries) number)

-- as many entries at the front of a text are the same

abbrev body : List PlainEntry → List ℕ
body entries = flat_map (λ (e : PlainEntry). with_line_feed (entry_text e)) entries

grouped : (entry : PlainEntry) (entries : List PlainEntry) (rest : List ℕ)
    → body (entry ∷ entries) ++ rest ≡ entry_text entry ++ 10 ∷ (body entries ++ rest)
grouped entry entries rest =
    append_assoc (with_line_feed (entry_text entry)) (body entries) rest
    ∙ append_assoc (entry_text entry) (10 ∷ []) (body entries ++ rest)

same_front : (xs ys : List PlainEntry) (rest other : List ℕ) → AreEntries xs → AreEntries ys → length xs ≡ length ys
    → body xs ++ rest ≡ body ys ++ other → xs ≡ ys
same_front [] [] rest other h k many same = refl
same_front [] (y ∷ ys) rest other h k many same = absurd (omega arith)
same_front (x ∷ xs) [] rest other h k many same = absurd (omega arith)
same_front (x ∷ xs) (y ∷ ys) rest other h k many same =
    let cut = cut_once (entry_text x) (entry_text y) (body xs ++ rest) (body ys ++ other) (entries_stand_on_one_line x h.0)
    (entries_stand_on_one_line y k.0) (sym (grouped x xs rest) ∙ same ∙ grouped y ys other) in
    let here : x ≡ y = entries_are_unique (entry_text x) x y (h.0, refl) (k.0, cut.0) in
    let more : xs ≡ ys = same_front xs ys rest other h.1 k.1 (omega (arith, many)) cut.1 in
    cc

pub same_entries : (level : Level) (text : List ℕ) (xs ys : List PlainEntry) (rest other : List ℕ) (at : ℕ)
    → BeginsWith level text xs rest at → BeginsWith level text ys other at → xs ≡ ys
same_entries level text xs ys rest other at h k =
    let same : run_text xs ++ rest ≡ run_text ys ++ other = sym h.parted ∙ k.parted in
    let bodies : body xs ++ rest ≡ body ys ++ other = cc in
    same_front xs ys rest other h.readable k.readable (equal (length xs) (length ys) (sym h.number ∙ k.number)) bodies
  where
    equal : (n m : ℕ) → n + 2 ≡ m + 2 → n ≡ m
    equal n m e = omega arith

-- at the end all lines before it were looked at
pub search_ends : (level : Level) (text : List ℕ) (entries : List PlainEntry) (rest : List ℕ) (broken : Line) (rule : Rule)
    (held : List ℕ) (left : Option (List ℕ)) (again : Judge) (at : ℕ) (found : Option Against)
    → BeginsWith level text entries rest at → IsSearching level text (past_of entries) broken rule held left again at found
    → IsFound (past_of entries) broken rule entries found
search_ends level text entries rest broken rule held None again at found begins searching = absurd searching
search_ends level text entries rest broken rule held (Some left) again at found begins searching =
    subst (λ (xs : List PlainEntry). IsFound (past_of entries) broken rule xs found)
    (same_entries level text searching.0 entries (held ++ left) rest at searching.1 begins) searching.3

-- what a second reading answers

pub not_both : (b : Bool) → b ≡ false → b ≡ true → ⊥
not_both true h k = differ (sym h)
  where
    differ : false ≡ true → ⊥
    differ e = cc
not_both false h k = differ k
  where
    differ : false ≡ true → ⊥
    differ e = cc

pub looks_other : (broken : Line) (rule : Rule) (judge again : Judge) (stands : Next) (at : ℕ) (found : Option Against)
    → ((happened : Line) → stands ≡ next.Line happened → ⊥) → Looks broken rule judge again stands at found found
looks_other broken rule judge again (next.Line happened) at found other = absurd (other happened refl)
looks_other broken rule judge again _ at found other = refl

pub early_by : (at end : ℕ) (found : Ending) → at < end → BreaksAt at found → IsEarly found end
early_by at end (ending.Illegal other rule broken) within here = subst (λ (n : ℕ). n < end) (sym here) within
early_by at end _ within here = tt

pub header_early : (found : Ending) (end : ℕ) → ((at : ℕ) → BreaksAt at found) → IsEarly found end
header_early (ending.Illegal other rule broken) end none = absurd (differ other (none other) (none (suc other)))
  where
    differ : (n : ℕ) → n ≡ n → n ≡ suc n → ⊥
    differ n h k = omega arith
header_early _ end none = tt

pub searching_at : (at end : ℕ) → at ≤ end → end ≤ at → (level : Level) (text : List ℕ) (past : List Line) (broken : Line)
    (rule : Rule) (held : List ℕ) (left : Option (List ℕ)) (again : Judge) (found : Option Against)
    → IsSearching level text past broken rule held left again at found
    → IsSearching level text past broken rule held left again end found
searching_at at end upto from level text past broken rule held left again found searching =
    let same : at ≡ end = omega arith in
    subst (λ (n : ℕ). IsSearching level text past broken rule held left again n found) same searching

pub counted_from : (answer : Result (Option Against) Ending) (first old new : ℕ) → old ≡ first
    → MatchResult answer (λ _. new ≡ old) (λ other. CountsFaultsOf other old new)
    → MatchResult answer (λ _. new ≡ first) (λ other. CountsFaultsOf other first new)
counted_from (Ok found) first old new same counts = counts ∙ same
counted_from (Err other) first old new same counts = subst (λ (n : ℕ). CountsFaultsOf other n new) same counts

pub early_of : (answer : Result (Option Against) Ending) (whole : Ending) (at : ℕ) (rule : Rule) (broken : Line)
    → whole ≡ ending.Illegal at rule broken → IfErr answer (λ other. IsEarly other at)
    → IfErr answer (λ other. EndsBefore whole other)
early_of answer whole at rule broken is early =
    subst (λ (e : Ending). IfErr answer (λ other. EndsBefore e other)) (sym is) early

pub finds_illegal : (level : Level) (text : List ℕ) (at : ℕ) (rule : Rule) (broken : Line) (whole : Ending) (judge : Judge)
    (held : List ℕ) (left : Option (List ℕ)) (again : Judge) (answer : Result (Option Against) Ending)
    → whole ≡ ending.Illegal at rule broken → StopsAt level text whole judge
    → ((past : List Line) → HasJudged level past judge → BreaksRule level past broken rule → 2 ≤ at
    → MatchResult answer (λ found. IsSearching level text past broken rule held left again at found)
    (λ other. SaysOf level text other))
    → MatchResult answer (λ found. FindsAgainst level text whole found) (λ other. SaysOf level text other)
finds_illegal level text at rule broken whole judge held left again answer is stops search =
    let known : StopsAt level text (ending.Illegal at rule broken) judge =
    subst (λ (e : Ending). StopsAt level text e judge) is stops in
    subst (λ (e : Ending). MatchResult answer (λ found. FindsAgainst level text e found) (λ other. SaysOf level text other))
    (sym is)
    (by_answer known answer
    (search (past_of known.0) known.4 known.3 (far at (length known.0) known.2.number)))
  where
    far : (n m : ℕ) → n ≡ m + 2 → 2 ≤ n
    far n m e = omega arith

    by_answer : (known : StopsAt level text (ending.Illegal at rule broken) judge) (a : Result (Option Against) Ending)
        → MatchResult a (λ found. IsSearching level text (past_of known.0) broken rule held left again at found)
        (λ other. SaysOf level text other)
        → MatchResult a (λ found. FindsAgainst level text (ending.Illegal at rule broken) found)
        (λ other. SaysOf level text other)
    by_answer known (Ok found) searching = (
      known.0,
      known.1,
      known.2,
      known.3,
      search_ends level text known.0 (line_text broken ++ 10 ∷ known.1) broken rule held left again at found known.2 searching,
    )
    by_answer known (Err other) says = says

pub finds_none : (level : Level) (text : List ℕ) (whole : Ending)
    → ((at : ℕ) (rule : Rule) (broken : Line) → whole ≡ ending.Illegal at rule broken → ⊥)
    → FindsAgainst level text whole None
finds_none level text (ending.Illegal at rule broken) not = absurd (not at rule broken refl)
finds_none level text _ not = refl
