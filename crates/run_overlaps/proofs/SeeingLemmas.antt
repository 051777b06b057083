-- One line more stands where the guards want it.
use Rattle.std.proofs.Common.{◌≡◌, ◌+◌, ℕ, suc, ◌<◌, ◌≤◌, List, [], ◌∷◌, length, take, get_or, reverse, ap, subst, sym, ◌∙◌, arith}
use Rattle.std.proofs.lemmas.List.{reverse-append, take_all}
use Rattle.std.proofs.Math.Seq.{take-suc}
use Rattle.std.specs.Prelude.{Option, Some}
use Rattle.run_rules.specs.Legal.{IsLegalSoFar}
use Rattle.run_check.specs.After.{plain}
use Rattle.run_joins.specs.declared.joining.Joined.{Joined}
use Rattle.run_lines.specs.declared.line.Line.{Line}
use Rattle.run_overlaps.specs.declared.guards.Guards.{Guards}
use Rattle.run_overlaps.specs.declared.watch.Watch.{Watch}
use Rattle.run_orders.specs.declared.guard.Guard.{Guard}
use Rattle.run_orders.specs.Laws.{NeverOverlaps}
use Rattle.run_overlaps.specs.Guarding.{HasSeen, IsGivenUp, KeepsGuards, KeepsJoins, guard_of, lists_locked}
use Rattle.run_overlaps.specs.Watching.{IsWatch}
use Rattle.run_overlaps.proofs.GuardingLemmas.{never_overlaps}

pub seen_next : (guards : Guards) (joins : Option Joined) (past : List Line) (line : Line) (old new : Watch) → HasSeen guards joins past old
    → (IsWatch past old → lists_locked guards → KeepsGuards guards joins past line.thread line.does)
    → (IsWatch past old → IsWatch (line ∷ past) new) → (IsWatch (line ∷ past) new → IsGivenUp (line ∷ past) line.thread line.does)
    → HasSeen guards joins (line ∷ past) new
seen_next guards joins past line old new seen allowed follows behind =
    let watches = follows seen.watches in
    record { watches = watches; lists = seen.lists; keep = (seen.keep, allowed seen.watches seen.lists, behind watches) }

pub seen_more : (guards : Guards) (joins : Option Joined) (lines : List Line) (at : ℕ) (line : Line) (old new : Watch) → at < length lines
    → line ≡ get_or lines at line → HasSeen guards joins (reverse (take at lines)) old
    → ((past : List Line) → HasSeen guards joins past old → HasSeen guards joins (line ∷ past) new)
    → HasSeen guards joins (reverse (take (at + 1) lines)) new
seen_more guards joins lines at line old new within is seen followed =
    let one : take (at + 1) lines ≡ take (suc at) lines =
    ap (λ (n : ℕ). take n lines) (let e : at + 1 ≡ suc at = omega arith in e) in
    let next : reverse (take (at + 1) lines) ≡ get_or lines at line ∷ reverse (take at lines) =
    ap reverse (one ∙ take-suc lines at line within) ∙ reverse-append (take at lines) (get_or lines at line ∷ []) in
    subst (λ (xs : List Line). HasSeen guards joins xs new) (sym (next ∙ ap (λ (l : Line). l ∷ reverse (take at lines)) (sym is)))
    (followed (reverse (take at lines)) seen)

pub seen_all : (guards : Guards) (joins : Option Joined) (lines : List Line) (at : ℕ) (watch : Watch) → length lines ≤ at
    → HasSeen guards joins (reverse (take at lines)) watch → HasSeen guards joins (reverse lines) watch
seen_all guards joins lines at watch past seen = subst (λ (xs : List Line). HasSeen guards joins (reverse xs) watch) (take_all at lines past) seen

-- where all lines of a run were seen, what is guarded never overlaps
pub found_never : (guards : Guards) (joins : Option Joined) (lines : List Line) (old new : Watch) → lists_locked guards → IsWatch [] old
    → (HasSeen guards joins [] old → HasSeen guards joins (reverse lines) new)
    → (IsLegalSoFar plain (reverse lines) → KeepsJoins (reverse lines) joins) → (thing : ℕ) (how : Guard) → guard_of guards thing ≡ Some how
    → NeverOverlaps (reverse lines) thing
found_never guards joins lines old new lists watch sees join thing how is =
    let seen = sees (record { watches = watch; lists = lists; keep = tt }) in
    never_overlaps guards joins (reverse lines) seen.keep seen.watches.legal (join seen.watches.legal) thing how is
