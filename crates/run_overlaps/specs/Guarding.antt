-- Where lines stand so that guards keep claims apart.
use Rattle.std.specs.Prelude.{◌≡◌, ◌⊎◌, ◌<◌, ℕ, List, [], ◌∷◌, true, false, length, Option, Some, None, nat_eq}
use Rattle.std.specs.HashMap.{get}
use Rattle.std.specs.List.{Contains}
use Rattle.run_lines.specs.declared.line.Doing.{Doing}
use Rattle.run_lines.specs.declared.line.Doing.TheVariants as doing
use Rattle.run_lines.specs.declared.line.Line.{Line}
use Rattle.run_rules.specs.declared.frame.Frame.TheVariants.{Execution, Outside}
use Rattle.run_rules.specs.declared.taking.Resource.TheVariants.{Lock, Thing}
use Rattle.run_rules.specs.Calls.{context_of, strand_of}
use Rattle.run_rules.specs.Stacks.{frame}
use Rattle.run_rules.specs.Takings.{is_taken_by}
use Rattle.run_orders.specs.declared.guard.Guard.{Guard}
use Rattle.run_orders.specs.declared.guard.Guard.TheVariants as guard
use Rattle.run_joins.specs.declared.joining.Joined.{Joined}
use Rattle.run_joins.specs.Joining.{KeepsJoin, is_late}
use Rattle.run_overlaps.specs.declared.guards.Guards.{Guards}
use Rattle.run_overlaps.specs.declared.guards.UnderLock.{UnderLock}
use Rattle.run_overlaps.specs.declared.watch.Watch.{Watch}
use Rattle.run_overlaps.specs.Watching.{IsWatch}

abbrev pub guard_of : Guards → ℕ → Option Guard
guard_of guards thing = get nat_eq guards.things thing

abbrev pub worker_of : Guards → ℕ → Option ℕ
worker_of guards context = get nat_eq guards.workers context

-- each thing that a mutex guards is on the list of these
abbrev pub lists_locked : Guards → Type 0
lists_locked guards = (thing lock : ℕ) → guard_of guards thing ≡ Some (guard.Lock lock) →
    Contains guards.locked.items (record { lock = lock; thing = thing })

-- the frame that unlocks a mutex here has this thing no more, if that mutex guards it
abbrev pub IsGivenBack : Watch → ℕ → ℕ → UnderLock → Type 0
IsGivenBack watch by lock under = (past : List Line) → IsWatch past watch → under.lock ≡ lock →
    is_taken_by past by (frame past by) (Thing under.thing) ≡ false

-- who claims on a thread stands under this guard
abbrev pub IsGuardedBy : Guards → List Line → ℕ → Guard → Type 0
IsGuardedBy guards past by (guard.Strand strand) =
    (op : ℕ) × (frame past by ≡ Execution op) × (strand_of past op ≡ Some strand)
IsGuardedBy guards past by (guard.Lock lock) = is_taken_by past by (frame past by) (Lock lock) ≡ true
IsGuardedBy guards past by (guard.Thread thread) =
    (frame past by ≡ Outside thread) ⊎ ((op context : ℕ) × (frame past by ≡ Execution op) × (context_of past op ≡ Some context)
    × (worker_of guards context ≡ Some thread))

-- what is known of the last join of a run, if there is one
abbrev pub KeepsJoins : List Line → Option Joined → Type 0
KeepsJoins run None = Unit {0}
KeepsJoins run (Some joined) = KeepsJoin run joined

-- who claims on a thread does so outside behind its join, and this thing isn't late
abbrev pub IsExempt : Option Joined → List Line → ℕ → ℕ → Type 0
IsExempt None past by thing = ⊥
IsExempt (Some joined) past by thing =
    (is_late joined thing ≡ false) × (frame past by ≡ Outside joined.join.thread) × (joined.join.place < length past)

-- a line stands where the guards want it
abbrev pub KeepsGuards : Guards → Option Joined → List Line → ℕ → Doing → Type 0
KeepsGuards guards joins past by (doing.Claim thing) = (how : Guard) → guard_of guards thing ≡ Some how →
    IsGuardedBy guards past by how ⊎ IsExempt joins past by thing
-- what a mutex guards is given back before it is unlocked
KeepsGuards guards joins past by (doing.Unlock lock) = (thing : ℕ) → guard_of guards thing ≡ Some (guard.Lock lock) →
    is_taken_by past by (frame past by) (Thing thing) ≡ false
-- the handlers of a context that is said to have one thread are executed there
KeepsGuards guards joins past by (doing.Work context) = (thread : ℕ) → worker_of guards context ≡ Some thread → by ≡ thread
KeepsGuards guards joins past by (doing.Begin op code size) = (context thread : ℕ) → context_of past op ≡ Some context →
    worker_of guards context ≡ Some thread → by ≡ thread
KeepsGuards guards joins past by _ = Unit {0}

-- behind its unlock a frame has a mutex no more
abbrev pub IsGivenUp : List Line → ℕ → Doing → Type 0
IsGivenUp behind by (doing.Unlock lock) = is_taken_by behind by (frame behind by) (Lock lock) ≡ false
IsGivenUp behind by _ = Unit {0}

-- so do all lines
abbrev pub AllKeep : Guards → Option Joined → List Line → Type 0
AllKeep guards joins [] = Unit {0}
AllKeep guards joins (line ∷ past) =
    AllKeep guards joins past × KeepsGuards guards joins past line.thread line.does × IsGivenUp (line ∷ past) line.thread line.does

-- these lines may come, and all stand where the guards want them
pub record HasSeen (guards : Guards) (joins : Option Joined) (past : List Line) (watch : Watch) : Type 0 where
  pub watches : IsWatch past watch
  pub lists : lists_locked guards
  pub keep : AllKeep guards joins past
