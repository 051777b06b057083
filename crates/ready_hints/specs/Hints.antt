-- What contracts see of a pass, and what each call makes of it (this project's own).
use Rattle.std.specs.Prelude.{◌≡◌, ℕ, ◌+◌, ◌-◌, ◌<◌, ◌≤◌, None, List, [], ◌∷◌, ◌++◌, length, replicate}
use Rattle.std.specs.Global.{Global}
use Rattle.crossbeam_queue.specs.SegTies.{SegId}
use Rattle.ready_hints.specs.declared.rule.Hint.{Hint}
use Rattle.ready_hints.specs.declared.pass.HintPass.TheInside.{Inside}
use Rattle.ready_hints.specs.HintRule as rule

-- which queue it is of, its parts of the right to know the whole, and what it hinted and took, in
-- order
pub record Passed : Type 0 where
  pub queue : SegId Global
  pub parts : ℕ
  pub hinted : List Hint
  pub taken : List Hint

abbrev pub hint_passed : Inside → Passed
hint_passed p = record {
  queue = record { web = p.pass.web; heap = p.pass.heap };
  parts = p.pass.me.view.client.parts;
  hinted = p.pass.me.view.client.hinted;
  taken = p.pass.me.view.client.taken;
}

-- between two calls a pass carries nothing, and has a part
pub record IsPassReady (p : Inside) : Type 0 where
  pub hand : p.pass.me.hand ≡ None
  pub spare : p.pass.me.spare ≡ None
  pub part : 0 < p.pass.me.view.client.parts

abbrev pub IsPassOf : SegId Global → Passed → Type 0
IsPassOf queue pass = pass.queue ≡ queue

-- it is of the same queue, with the same parts
abbrev pub IsSamePass : Passed → Passed → Type 0
IsSamePass old new = (new.queue ≡ old.queue) × (new.parts ≡ old.parts)

abbrev pub HasAllParts : Passed → Type 0
HasAllParts pass = pass.parts ≡ rule.all_parts

-- no two of the hints that it made have the same number
abbrev pub HintsApart : Passed → Type 0
HintsApart pass = rule.AreApart pass.hinted

-- it took no hint twice
abbrev pub IsOnce : Passed → Type 0
IsOnce pass = rule.AreApart pass.taken

-- of its own hints it took each with the lane that it hinted
abbrev pub IsAsHinted : Passed → Type 0
IsAsHinted pass = rule.AreAsHinted pass.hinted pass.taken

-- no lane was taken more often than it was hinted
abbrev pub IsWithinHints : Passed → Type 0
IsWithinHints pass = (lane : ℕ) → rule.times_hinted lane pass.taken ≤ rule.times_hinted lane pass.hinted

-- each lane was taken as often as it was hinted
abbrev pub IsPassSettled : Passed → Type 0
IsPassSettled pass =
    (lane : ℕ) → rule.times_hinted lane pass.taken ≡ rule.times_hinted lane pass.hinted

-- what was hinted is what was taken and so many hints more
abbrev pub HasLeft : ℕ → Passed → Type 0
HasLeft count pass =
    (left : List ℕ) × (length left ≡ count)
    × ((lane : ℕ) →
    rule.times_hinted lane pass.hinted
    ≡ rule.times_hinted lane pass.taken + rule.times lane left)

-- it made one hint more, at this lane, with a later number than those that it made before
abbrev pub AddsHint : ℕ → Passed → Passed → Type 0
AddsHint lane old new =
    (number : ℕ) × rule.IsAfter number old.hinted
    × (new ≡ record old { hinted = old.hinted ++ rule.hint number lane ∷ [] })

-- it took one hint more, of this lane, with a later number than those that it took before
abbrev pub TakesHint : ℕ → Passed → Passed → Type 0
TakesHint lane old new =
    (number : ℕ) × rule.IsAfter number old.taken
    × (new ≡ record old { taken = old.taken ++ rule.hint number lane ∷ [] })

abbrev pub with_parts_of : Passed → Passed → Passed
with_parts_of other pass =
    record pass {
      parts = pass.parts + other.parts;
      hinted = pass.hinted ++ other.hinted;
      taken = pass.taken ++ other.taken;
    }

-- a pass that has hinted and taken nothing
abbrev pub first_pass : SegId Global → ℕ → Passed
first_pass queue parts = record { queue = queue; parts = parts; hinted = []; taken = [] }

abbrev pub one_part : SegId Global → Passed
one_part queue = first_pass queue 1

-- so many passes, which have all parts: the first has what the others leave
abbrev pub passes_of : SegId Global → ℕ → List Passed
passes_of queue count =
    first_pass queue (rule.all_parts - (count - 1)) ∷ replicate (count - 1) (one_part queue)
