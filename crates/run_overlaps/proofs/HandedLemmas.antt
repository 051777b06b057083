-- One line more is known, with its strand.
use Rattle.std.proofs.Common.{◌≡◌, ◌+◌, ℕ, suc, ◌<◌, ◌≤◌, List, [], ◌∷◌, ◌++◌, length, take, get_or, reverse, ap, subst, sym, ◌∙◌, arith}
use Rattle.std.proofs.lemmas.List.{reverse-append, take_all}
use Rattle.std.proofs.Math.Seq.{take-suc}
use Rattle.std.specs.Prelude.{Option, Some, None}
use Rattle.run_lines.specs.declared.line.Line.{Line}
use Rattle.run_orders.specs.Forced.{begun_by}
use Rattle.run_rules.specs.declared.frame.Frame.TheVariants.{Execution}
use Rattle.run_rules.specs.Calls.{strand_of}
use Rattle.run_rules.specs.Legal.{IsLegalSoFar}
use Rattle.run_rules.specs.Stacks.{frame}
use Rattle.run_rules.specs.Starting.{Holds}
use Rattle.run_check.specs.After.{plain}
use Rattle.run_joins.specs.declared.note.Note.{Note}
use Rattle.run_joins.specs.Notes.{IsNote}
use Rattle.run_forced.specs.declared.event.Event.{Event}
use Rattle.run_forced.specs.Events.{AreEvents, IsEvent}
use Rattle.run_overlaps.specs.declared.watch.Watch.{Watch}
use Rattle.run_overlaps.specs.Handing.{HasSeenEvents}
use Rattle.run_overlaps.specs.Watching.{IsWatch}

pub event_of : (line : Line) (past : List Line) (note : Note) (strand : Option ℕ) (old new : Watch)
    → ((op one : ℕ) → IsWatch past old → begun_by line.does ≡ Some op → strand ≡ Some one →
    (strand_of past op ≡ Some one) × (Holds past line.thread one → ⊥))
    → ((op one : ℕ) → IsWatch past old → begun_by line.does ≡ None → frame past line.thread ≡ Execution op → strand ≡ Some one →
    strand_of past op ≡ Some one)
    → (IsWatch past old → IsNote line past note × IsWatch (line ∷ past) new) → IsWatch past old
    → IsEvent line past (record { note = note; strand = strand }) × IsWatch (line ∷ past) new
event_of line past note strand old new turn own noted watch = (
  record {
    note = (noted watch).0;
    turn = λ op one. turn op one watch;
    own = λ op one. own op one watch;
  },
  (noted watch).1,
)

pub events_more : (lines : List Line) (at : ℕ) (line : Line) (old new : Watch) (events : List Event) (event : Event) → at < length lines
    → line ≡ get_or lines at line → HasSeenEvents (reverse (take at lines)) old events
    → ((past : List Line) → IsWatch past old → IsEvent line past event × IsWatch (line ∷ past) new)
    → HasSeenEvents (reverse (take (at + 1) lines)) new (events ++ event ∷ [])
events_more lines at line old new events event within is seen followed =
    let one : take (at + 1) lines ≡ take (suc at) lines =
    ap (λ (n : ℕ). take n lines) (let e : at + 1 ≡ suc at = omega arith in e) in
    let next : reverse (take (at + 1) lines) ≡ get_or lines at line ∷ reverse (take at lines) =
    ap reverse (one ∙ take-suc lines at line within) ∙ reverse-append (take at lines) (get_or lines at line ∷ []) in
    let more = followed (reverse (take at lines)) seen.watches in
    subst (λ (xs : List Line). HasSeenEvents xs new (events ++ event ∷ [])) (sym (next ∙ ap (λ (l : Line). l ∷ reverse (take at lines)) (sym is)))
    (record {
      watches = more.1;
      events_are =
          subst (λ (es : List Event). AreEvents (line ∷ reverse (take at lines)) es) (sym (reverse-append events (event ∷ [])))
          (seen.events_are, more.0);
    })

pub events_all : (lines : List Line) (at : ℕ) (watch : Watch) (events : List Event) → length lines ≤ at
    → HasSeenEvents (reverse (take at lines)) watch events → AreEvents (reverse lines) (reverse events)
events_all lines at watch events past seen =
    subst (λ (xs : List Line). AreEvents (reverse xs) (reverse events)) (take_all at lines past) seen.events_are

pub events_legal : (lines : List Line) (at : ℕ) (watch : Watch) (events : List Event) → length lines ≤ at
    → HasSeenEvents (reverse (take at lines)) watch events → IsLegalSoFar plain (reverse lines)
events_legal lines at watch events past seen =
    subst (λ (xs : List Line). IsLegalSoFar plain (reverse xs)) (take_all at lines past) seen.watches.legal
