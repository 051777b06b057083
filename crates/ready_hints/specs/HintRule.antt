-- The rule of the hints, over what the queue holds and what all passes know (this project's own).
use Rattle.std.specs.Prelude.{◌≡◌, ℕ, ◌+◌, ◌-◌, ◌<◌, ◌≤◌, List, [], ◌∷◌, ◌++◌, ◌==◌, length, All, Contains}
use Rattle.std.specs.List.{count_by, sum_by}
use mathlib.Core.Option.{some}
use lib.ListN.{get_elem?}
use Rattle.ready_hints.specs.declared.rule.Hint.{Hint}
use Rattle.ready_hints.specs.declared.rule.Hand.{Hand}

abbrev pub hint : ℕ → ℕ → Hint
hint number lane = record { number = number; lane = lane }

-- how often a lane stands in the list, and among hints
abbrev pub times : ℕ → List ℕ → ℕ
times lane xs = count_by (λ x. lane == x) xs

abbrev pub times_hinted : ℕ → List Hint → ℕ
times_hinted lane hints = count_by (λ hint. lane == hint.lane) hints

-- how many of these hints have this number
abbrev pub numbered : ℕ → List Hint → ℕ
numbered number hints = count_by (λ hint. number == hint.number) hints

-- no two have the same number
abbrev pub AreApart : List Hint → Type 0
AreApart hints = (number : ℕ) → numbered number hints ≤ 1

-- this number comes after all of theirs
abbrev pub IsAfter : ℕ → List Hint → Type 0
IsAfter number hints = All (λ hint. hint.number < number) hints

-- a hint that was both hinted and taken here has the lane with which it was hinted
abbrev pub AreAsHinted : List Hint → List Hint → Type 0
AreAsHinted hinted taken =
    (made came : Hint) → Contains hinted made → Contains taken came → made.number ≡ came.number →
    made.lane ≡ came.lane

-- the parts of the right to know the whole
abbrev pub all_parts : ℕ
all_parts = 4294967296

abbrev pub hand : ℕ → List Hint → List Hint → Hand
hand parts hinted taken = record { parts = parts; hinted = hinted; taken = taken }

abbrev pub first_hand : Hand
first_hand = hand all_parts [] []

abbrev pub spent_hand : Hand
spent_hand = hand 0 [] []

abbrev pub cut_left : Hand → Hand
cut_left v = hand (v.parts - 1) v.hinted v.taken

abbrev pub cut_right : Hand → Hand
cut_right v = hand 1 [] []

abbrev pub gathered_hints : Hand → Hand → Hand
gathered_hints v w = hand (v.parts + w.parts) (v.hinted ++ w.hinted) (v.taken ++ w.taken)

-- the hints of all passes have the numbers from 0 on, each once, and the hint of a number has the
-- lane at that place
pub record AreNumbered (hints_of : Hand → List Hint) (lanes : List ℕ) (views : List Hand)
    : Type 0 where
  pub once : (number : ℕ) → number < length lanes →
      sum_by (λ v. numbered number (hints_of v)) views ≡ 1
  pub no_more : (number : ℕ) → length lanes ≤ number →
      sum_by (λ v. numbered number (hints_of v)) views ≡ 0
  pub at_place : (pass : ℕ) (v : Hand) → get_elem? views pass ≡ some v
      → All (λ hint. get_elem? lanes hint.number ≡ some hint.lane) (hints_of v)

pub record HintRule (items : List ℕ) (views : List Hand) : Type 0 where
  -- no part is lost or made
  pub parts : sum_by (λ v. v.parts) views ≡ all_parts
  -- each lane was hinted as often as it was taken and is still there
  pub even : (lane : ℕ) → sum_by (λ v. times_hinted lane v.hinted) views
      ≡ sum_by (λ v. times_hinted lane v.taken) views + times lane items
  -- the lanes that came out, the oldest first; what was hinted are these and those that are still
  -- there
  pub out : List ℕ
  pub hinted : AreNumbered (λ v. v.hinted) (out ++ items) views
  pub taken : AreNumbered (λ v. v.taken) out views
  -- a pass with no part has hinted and taken nothing
  pub idle : (pass : ℕ) (v : Hand) → get_elem? views pass ≡ some v → v.parts ≡ 0 →
      (v.hinted ≡ []) × (v.taken ≡ [])

-- a pass that hints learns that its hint has a later number than all others of its own, and no two
-- have the same
abbrev pub hints : Hand → ℕ → Hand → Type 0
hints v lane w =
    ((number : ℕ) × IsAfter number v.hinted
    × (w ≡ hand v.parts (v.hinted ++ hint number lane ∷ []) v.taken))
    × AreApart w.hinted

-- what every pass knows of what it took
abbrev pub TookOnce : Hand → Type 0
TookOnce v = AreApart v.taken × AreAsHinted v.hinted v.taken

-- who has all parts learns that no lane was taken more often than hinted
abbrev pub takes : Hand → ℕ → Hand → Type 0
takes v lane w =
    ((number : ℕ) × IsAfter number v.taken
    × (w ≡ hand v.parts v.hinted (v.taken ++ hint number lane ∷ [])))
    × TookOnce w
    × (v.parts ≡ all_parts → (other : ℕ) → times_hinted other w.taken ≤ times_hinted other w.hinted)

-- and what the queue holds beside what it took
abbrev pub accounts : Hand → List ℕ → Type 0
accounts v items =
    TookOnce v
    × (v.parts ≡ all_parts → (lane : ℕ) →
    times_hinted lane v.hinted ≡ times_hinted lane v.taken + times lane items)

-- while a pass that hasn't all parts keeps still, the others may take all that is left
abbrev pub OthersMayTakeAll : Type 0
OthersMayTakeAll =
    (items : List ℕ) (views : List Hand) (pass : ℕ) (v : Hand)
    → HintRule items views → get_elem? views pass ≡ some v → v.parts < all_parts
    → (later : List Hand) × HintRule [] later × (get_elem? later pass ≡ some v)
