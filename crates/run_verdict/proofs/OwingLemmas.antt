-- What is told of the lines of a run, one after another.
use Rattle.std.proofs.Common.{◌≡◌, ℕ, suc, ◌+◌, ◌≤◌, List, [], ◌∷◌, ◌++◌, length, Option, Some, None, refl, ap, subst, sym, ◌∙◌, arith}
use Rattle.std.proofs.lemmas.List.{append-nil, reverse-append, reverse-reverse}
use Rattle.std.specs.Prelude.{Bool, IfOk, OnOk, Result, Ok, Err, if◌then◌else◌, reverse}
use Rattle.asio_types.specs.declared.failure.Failed.{Failed}
use Rattle.asio_types.specs.Sink.{Extends}
use Rattle.asio_types.proofs.SinkLemmas.{extends_more}
use Rattle.run_lines.specs.declared.line.Line.{Line}
use Rattle.run_lines.specs.Entry.{PlainEntry, line, name}
use Rattle.run_lines.specs.Run.{lines_of}
use Rattle.run_rules.specs.declared.level.Level.{Level}
use Rattle.run_verdict.specs.declared.judge.Judge.{Judge}
use Rattle.run_verdict.specs.declared.owing.NotTold.{NotTold}
use Rattle.run_verdict.specs.declared.run.Next.{Next}
use Rattle.run_verdict.specs.declared.run.Next.TheVariants as next
use Rattle.run_verdict.specs.Endings.{BeginsWith, IsReading, NextGives, past_of}
use Rattle.run_verdict.specs.Judges.{HasJudged}
use Rattle.run_verdict.specs.Naming.{Naming}
use Rattle.run_verdict.specs.Owing.{IsTelling, Tells, is_owed, owed_back, owed_line, owed_lines, owed_piece}
use Rattle.run_verdict.specs.Search.{FollowsNext}
use Rattle.run_verdict.proofs.GoingLemmas.{Moves, going_begins, going_reads, going_step}
use Rattle.run_verdict.proofs.SearchLemmas.{same_entries}

-- nothing more is written
pub extends_none : (before : Option (List ℕ)) → Extends before [] before
extends_none None = tt
extends_none (Some bytes) = sym (append-nil bytes)

lines_more : (names : Naming) (past : List Line) (entries : List PlainEntry) (entry : PlainEntry)
    → owed_lines names past (entries ++ entry ∷ []) ≡ owed_lines names past entries ++ owed_piece names past entries entry
lines_more names past entries entry =
    ap (owed_back names past) (reverse-append entries (entry ∷ []))
    ∙ ap (λ (front : List PlainEntry). owed_back names past (reverse entries) ++ owed_piece names past front entry) (reverse-reverse entries)

one_more : (names : Naming) (past : List Line) (entries : List PlainEntry) (entry : PlainEntry) (before old new : Option (List ℕ)) (piece : List ℕ)
    → owed_piece names past entries entry ≡ piece → Extends before (owed_lines names past entries) old → Extends old piece new
    → Extends before (owed_lines names past (entries ++ entry ∷ [])) new
one_more names past entries entry before old new piece is told more =
    subst (λ (bytes : List ℕ). Extends before bytes new) (sym (lines_more names past entries entry))
    (extends_more before old new (owed_lines names past entries) (owed_piece names past entries entry) told
    (subst (λ (bytes : List ℕ). Extends old bytes new) (sym is) more))

no_piece : (names : Naming) (past : List Line) (entries : List PlainEntry) (entry : PlainEntry) → lines_of (entry ∷ []) ≡ []
    → owed_piece names past entries entry ≡ []
no_piece names past entries (line happened) none = absurd (differ happened none)
  where
    differ : (l : Line) → l ∷ [] ≡ [] → ⊥
    differ l e = cc
no_piece names past entries (name kind number text) none = refl

tell_moves : (names : Naming) (level : Level) (past : List Line) (judge again : Judge) (at : ℕ) (before old new : Option (List ℕ)) (next : Next)
    → HasJudged level past judge → Tells names judge again next at old new
    → Moves (λ (entries : List PlainEntry). Extends before (owed_lines names past entries) old)
    (λ (entries : List PlainEntry). Extends before (owed_lines names past entries) new) level again at next
tell_moves names level past judge again at before old new (next.Line found) judged tells = λ entries judged_again may number told.
    one_more names past entries (line found) before old new
    (if is_owed past (past_of entries) found.thread found.does then owed_line names at found else [])
    (ap (λ (n : ℕ). if is_owed past (past_of entries) found.thread found.does then owed_line names n found else []) (sym number)) told
    (tells level past (past_of entries) judged judged_again)
tell_moves names level past judge again at before old new next.Name judged tells = λ entries entry none told.
    one_more names past entries entry before old new [] (no_piece names past entries entry none) told tells
tell_moves names level past judge again at before old new _ judged tells = tt

pub tell_step : (names : Naming) (level : Level) (text : List ℕ) (past : List Line) (held : List ℕ) (left : Option (List ℕ)) (held_after : List ℕ)
    (left_after : Option (List ℕ)) (judge again after : Judge) (at : ℕ) (before old new : Option (List ℕ)) (next : Next)
    → HasJudged level past judge → IsTelling names level text past held left again at before old
    → NextGives next held left held_after left_after → Tells names judge again next at old new → FollowsNext next again after
    → IsTelling names level text past held_after left_after after (at + 1) before new
tell_step names level text past held left held_after left_after judge again after at before old new next judged telling gives tells
    follows =
    going_step (λ (entries : List PlainEntry). Extends before (owed_lines names past entries) old)
    (λ (entries : List PlainEntry). Extends before (owed_lines names past entries) new) level text held left held_after left_after again
    after at next telling gives follows (tell_moves names level past judge again at before old new next judged tells)

pub tell_begins : (names : Naming) (level : Level) (text : List ℕ) (past : List Line) (held : List ℕ) (left : Option (List ℕ)) (again : Judge)
    (before : Option (List ℕ)) → IsReading level text held left again 2
    → IsTelling names level text past held left again 2 before before
tell_begins names level text past held left again before reading =
    going_begins (λ (entries : List PlainEntry). Extends before (owed_lines names past entries) before) level text held left again
    none_yet reading
  where
    no_more : (n : ℕ) → 2 ≡ suc n + 2 → ⊥
    no_more n e = omega arith

    none_yet : (entries : List PlainEntry) → 2 ≡ length entries + 2 → Extends before (owed_lines names past entries) before
    none_yet [] number = extends_none before
    none_yet (entry ∷ entries) number = absurd (no_more (length entries) number)

pub telling_at : (names : Naming) (at end : ℕ) → at ≤ end → end ≤ at → (level : Level) (text : List ℕ) (past : List Line) (held : List ℕ)
    (left : Option (List ℕ)) (again : Judge) (before after : Option (List ℕ))
    → IsTelling names level text past held left again at before after → IsTelling names level text past held left again end before after
telling_at names at end upto from level text past held left again before after telling =
    let same : at ≡ end = omega arith in
    subst (λ (n : ℕ). IsTelling names level text past held left again n before after) same telling

pub tell_ends : (names : Naming) (level : Level) (text : List ℕ) (entries : List PlainEntry) (rest held : List ℕ) (left : Option (List ℕ))
    (again : Judge) (at end : ℕ) (before after : Option (List ℕ)) → at ≡ end → BeginsWith level text entries rest at
    → IsTelling names level text (past_of entries) held left again end before after
    → Extends before (owed_lines names (past_of entries) entries) after
tell_ends names level text entries rest held None again at end before after same begins telling = absurd telling
tell_ends names level text entries rest held (Some left) again at end before after same begins telling =
    subst (λ (xs : List PlainEntry). Extends before (owed_lines names (past_of entries) xs) after)
    (same_entries level text telling.0 entries (held ++ left) rest end telling.1
    (subst (λ (n : ℕ). BeginsWith level text entries rest n) same begins)) telling.3

-- what is told of one line

pub told_line : (names : Naming) (judge again : Judge) (stands : Next) (found : Line) (at : ℕ) (before after : Option (List ℕ))
    (answer : Result (Unit {0}) Failed) (asked : Bool) → stands ≡ next.Line found
    → ((level : Level) (past earlier : List Line) → HasJudged level past judge → HasJudged level earlier again
    → asked ≡ is_owed past earlier found.thread found.does)
    → OnOk answer (Extends before (if asked then owed_line names at found else []) after)
    → OnOk answer (Tells names judge again stands at before after)
told_line names judge again stands found at before after (Ok done) asked is asked_is told =
    subst (λ (n : Next). Tells names judge again n at before after) (sym is)
    (λ level past earlier judged judged_again. subst
    (λ (b : Bool). Extends before (if b then owed_line names at found else []) after)
    (asked_is level past earlier judged judged_again) told)
told_line names judge again stands found at before after (Err failed) asked is asked_is told = tt

pub told_other : (names : Naming) (judge again : Judge) (stands : Next) (at : ℕ) (before : Option (List ℕ))
    → ((found : Line) → stands ≡ next.Line found → ⊥) → Tells names judge again stands at before before
told_other names judge again (next.Line found) at before other = absurd (other found refl)
told_other names judge again _ at before other = extends_none before

-- all lines were told of
pub told_all : (names : Naming) (level : Level) (text : List ℕ) (entries : List PlainEntry) (held : List ℕ) (left : Option (List ℕ))
    (again : Judge) (lines end : ℕ) (before after : Option (List ℕ)) → lines + 1 ≡ end
    → BeginsWith level text entries [] (lines + 1)
    → (2 ≤ end → IsTelling names level text (past_of entries) held left again end before after)
    → Extends before (owed_lines names (past_of entries) entries) after
told_all names level text entries held left again lines end before after same begins telling =
    tell_ends names level text entries [] held left again (lines + 1) end before after same begins
    (telling (far end (lines + 1) (length entries) same begins.number))
  where
    far : (n m k : ℕ) → m ≡ n → m ≡ k + 2 → 2 ≤ n
    far n m k a b = omega arith

-- what follows where nothing failed
pub on_told : {P Q : Type 0} (answer : Result (Unit {0}) NotTold) → IfOk answer (λ _. P) → (P → Q) → IfOk answer (λ _. Q)
on_told (Ok done) is leads = leads is
on_told (Err failed) is leads = tt
