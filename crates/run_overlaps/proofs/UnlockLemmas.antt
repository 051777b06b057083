-- What a mutex guards is given back before it is unlocked.
use Rattle.std.proofs.Common.{◌≡◌, ◌+◌, ℕ, ◌<◌, ◌≤◌, List, length, take, get_or, subst, refl, sym, ◌∙◌, not}
use Rattle.std.proofs.lemmas.List.{take_all}
use Rattle.std.proofs.lemmas.List.Elements.{All-contains, All-more}
use Rattle.std.specs.List.{All}
use Rattle.std.specs.Prelude.{Bool, IsTrue, Option, true, false}
use Rattle.run_joins.specs.declared.joining.Joined.{Joined}
use Rattle.run_lines.specs.declared.code.Code.{Code}
use Rattle.run_lines.specs.declared.line.Doing.{Doing}
use Rattle.run_lines.specs.declared.line.Doing.TheVariants as doing
use Rattle.run_rules.specs.declared.taking.Resource.TheVariants.{Lock}
use Rattle.run_rules.specs.Stacks.{frame}
use Rattle.run_rules.specs.Takings.{is_taken_by}
use Rattle.run_lines.specs.declared.line.Line.{Line}
use Rattle.run_overlaps.specs.declared.guards.Guards.{Guards}
use Rattle.run_overlaps.specs.declared.guards.UnderLock.{UnderLock}
use Rattle.run_overlaps.specs.declared.watch.Watch.{Watch}
use Rattle.run_overlaps.specs.Guarding.{IsGivenBack, IsGivenUp, KeepsGuards, lists_locked}
use Rattle.run_overlaps.specs.Watching.{IsWatch}

pub back_more : (watch : Watch) (by lock : ℕ) (all : List UnderLock) (at : ℕ) (under : UnderLock) → at < length all
    → under ≡ get_or all at under → All (IsGivenBack watch by lock) (take at all) → IsGivenBack watch by lock under
    → All (IsGivenBack watch by lock) (take (at + 1) all)
back_more watch by lock all at under within is before here =
    All-more (IsGivenBack watch by lock) all at under within before (subst (λ (u : UnderLock). IsGivenBack watch by lock u) is here)

pub back_all : (guards : Guards) (joins : Option Joined) (watch : Watch) (by lock : ℕ) (at : ℕ) → length guards.locked.items ≤ at
    → All (IsGivenBack watch by lock) (take at guards.locked.items) → (past : List Line) → IsWatch past watch → lists_locked guards
    → KeepsGuards guards joins past by (doing.Unlock lock)
back_all guards joins watch by lock at past_end all past watches lists thing is =
    All-contains (IsGivenBack watch by lock) guards.locked.items (record { lock = lock; thing = thing })
    (subst (λ (xs : List UnderLock). All (IsGivenBack watch by lock) xs) (take_all at guards.locked.items past_end) all)
    (lists thing lock is) past watches refl

pub is_false : (b : Bool) → IsTrue (not b) → b ≡ false
is_false false is = refl
is_false true is = cc

pub given_up_here : (behind : List Line) (by lock : ℕ) (does : Doing) (taken : Bool) → does ≡ doing.Unlock lock
    → taken ≡ is_taken_by behind by (frame behind by) (Lock lock) → IsTrue (not taken) → IsGivenUp behind by does
given_up_here behind by lock does taken is same free =
    subst (λ (d : Doing). IsGivenUp behind by d) (sym is) (sym same ∙ is_false taken free)

pub keeps_begin : (guards : Guards) (joins : Option Joined) (past : List Line) (by op size : ℕ) (code : Code) (does : Doing) → does ≡ doing.Begin op code size
    → KeepsGuards guards joins past by (doing.Begin op code size) → KeepsGuards guards joins past by does
keeps_begin guards joins past by op size code does is keep = subst (λ (d : Doing). KeepsGuards guards joins past by d) (sym is) keep

pub keeps_unlock : (guards : Guards) (joins : Option Joined) (past : List Line) (by lock : ℕ) (does : Doing) → does ≡ doing.Unlock lock
    → KeepsGuards guards joins past by (doing.Unlock lock) → KeepsGuards guards joins past by does
keeps_unlock guards joins past by lock does is keep = subst (λ (d : Doing). KeepsGuards guards joins past by d) (sym is) keep
