-- One line more is noted.
use Rattle.std.proofs.Common.{◌≡◌, ◌+◌, ℕ, suc, ◌<◌, ◌≤◌, List, [], ◌∷◌, ◌++◌, length, take, get_or, reverse, refl, ap, subst, sym, ◌∙◌, arith, not}
use Rattle.std.proofs.lemmas.Bool.{eq-eqb}
use Rattle.std.proofs.lemmas.List.{reverse-append, take_all}
use Rattle.std.proofs.Math.Seq.{take-suc}
use Rattle.std.specs.Prelude.{Bool, IsTrue}
use Rattle.run_lines.specs.declared.line.Doing.{Doing}
use Rattle.run_lines.specs.declared.line.Doing.TheVariants as doing
use Rattle.run_lines.specs.declared.line.Line.{Line}
use Rattle.run_rules.specs.declared.frame.Frame.{Frame}
use Rattle.run_rules.specs.declared.taking.Resource.TheVariants.{Thing}
use Rattle.run_rules.specs.Legal.{IsLegalSoFar}
use Rattle.run_rules.specs.Stacks.{frame}
use Rattle.run_rules.specs.Takings.{is_taken_by}
use Rattle.run_check.specs.After.{plain}
use Rattle.run_joins.specs.declared.note.Note.{Note}
use Rattle.run_joins.specs.Notes.{AreNotes, IsGone, IsNote}
use Rattle.run_overlaps.specs.declared.watch.Watch.{Watch}
use Rattle.run_overlaps.specs.Noting.{HasNoted}
use Rattle.run_overlaps.specs.Watching.{IsWatch}
use Rattle.run_overlaps.proofs.UnlockLemmas.{is_false}

-- a line that releases a thing begins and ends nothing
gone_here : (thread : ℕ) (does : Doing) (past : List Line)
    → IsGone (record { thread = thread; does = does } ∷ past) thread (frame (record { thread = thread; does = does } ∷ past) thread) does
    → IsGone (record { thread = thread; does = does } ∷ past) thread (frame past thread) does
gone_here thread (doing.Release thing) past gone =
    let line : Line = record { thread = thread; does = doing.Release thing } in
    let same : frame (line ∷ past) thread ≡ frame past thread = rw (eq-eqb thread thread refl) refl in
    subst (λ (f : Frame). IsGone (line ∷ past) thread f (doing.Release thing)) same gone
gone_here thread _ past gone = tt

pub is_gone_by : (behind : List Line) (by thing : ℕ) (who : Frame) (does : Doing) (taken : Bool) → does ≡ doing.Release thing
    → taken ≡ is_taken_by behind by who (Thing thing) → IsTrue (not taken) → IsGone behind by who does
is_gone_by behind by thing who does taken is same free =
    subst (λ (d : Doing). IsGone behind by who d) (sym is) (sym same ∙ is_false taken free)

pub noted : (line : Line) (past : List Line) (note : Note) (old new : Watch) → note.line ≡ line
    → (IsWatch past old → note.frame ≡ frame past line.thread) → (IsWatch past old → IsWatch (line ∷ past) new)
    → (IsWatch (line ∷ past) new → IsTrue note.gone → IsGone (line ∷ past) line.thread (frame (line ∷ past) line.thread) line.does)
    → IsWatch past old → IsNote line past note × IsWatch (line ∷ past) new
noted line past note old new same writes follows gone watch = (
  record {
    same = same;
    writes = writes watch;
    gone = λ yes. gone_here line.thread line.does past (gone (follows watch) yes);
  },
  follows watch,
)

pub noted_more : (lines : List Line) (at : ℕ) (line : Line) (old new : Watch) (notes : List Note) (note : Note) → at < length lines
    → line ≡ get_or lines at line → HasNoted (reverse (take at lines)) old notes
    → ((past : List Line) → IsWatch past old → IsNote line past note × IsWatch (line ∷ past) new)
    → HasNoted (reverse (take (at + 1) lines)) new (notes ++ note ∷ [])
noted_more lines at line old new notes note within is seen followed =
    let one : take (at + 1) lines ≡ take (suc at) lines =
    ap (λ (n : ℕ). take n lines) (let e : at + 1 ≡ suc at = omega arith in e) in
    let next : reverse (take (at + 1) lines) ≡ get_or lines at line ∷ reverse (take at lines) =
    ap reverse (one ∙ take-suc lines at line within) ∙ reverse-append (take at lines) (get_or lines at line ∷ []) in
    let more = followed (reverse (take at lines)) seen.watches in
    subst (λ (xs : List Line). HasNoted xs new (notes ++ note ∷ [])) (sym (next ∙ ap (λ (l : Line). l ∷ reverse (take at lines)) (sym is)))
    (record {
      watches = more.1;
      notes_are =
          subst (λ (ns : List Note). AreNotes (line ∷ reverse (take at lines)) ns) (sym (reverse-append notes (note ∷ [])))
          (seen.notes_are, more.0);
    })

pub noted_all : (lines : List Line) (at : ℕ) (watch : Watch) (notes : List Note) → length lines ≤ at
    → HasNoted (reverse (take at lines)) watch notes → AreNotes (reverse lines) (reverse notes)
noted_all lines at watch notes past seen =
    subst (λ (xs : List Line). AreNotes (reverse xs) (reverse notes)) (take_all at lines past) seen.notes_are

pub legal_all : (lines : List Line) (at : ℕ) (watch : Watch) (notes : List Note) → length lines ≤ at
    → HasNoted (reverse (take at lines)) watch notes → IsLegalSoFar plain (reverse lines)
legal_all lines at watch notes past seen =
    subst (λ (xs : List Line). IsLegalSoFar plain (reverse xs)) (take_all at lines past) seen.watches.legal
