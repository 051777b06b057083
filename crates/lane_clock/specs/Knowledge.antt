-- What seats know, this project's own: of each number the steps that were made under it, or the
-- first of them.
use Rattle.std.specs.Prelude.{◌≡◌, ◌⊎◌, ℕ, ◌-◌, List, [], ◌∷◌, ◌++◌, map, length, replicate, slice_index_or, slice_set, Bool, true, false, if◌then◌else◌, nat_lt, ◌||◌}
use Rattle.lane_clock.specs.declared.step.ClockStep.{ClockStep}
use Rattle.lane_clock.specs.declared.step.Known.{Known}

abbrev pub known : Bool → List ClockStep → Known
known mine steps = record { mine = mine; steps = steps }

-- nothing is known
abbrev pub unknown : Known
unknown = known false []

-- what is known of a number
abbrev pub known_at : List Known → ℕ → Known
known_at ks n = slice_index_or ks n unknown

abbrev pub steps_at : List Known → ℕ → List ClockStep
steps_at ks n = (known_at ks n).steps

-- the first steps of all
abbrev pub StartOf : List ClockStep → List ClockStep → Type 0
StartOf front all = (rest : List ClockStep) × (all ≡ front ++ rest)

-- of two lists one is a start of the other
abbrev pub Agree : List ClockStep → List ClockStep → Type 0
Agree xs ys = StartOf xs ys ⊎ StartOf ys xs

-- What two know of each number agrees; of a number that one goes on with the other knows no more
pub record AreTogether (as_ bs : List Known) : Type 0 where
  pub agree : (n : ℕ) → Agree (steps_at as_ n) (steps_at bs n)
  pub first : (n : ℕ) → (known_at as_ n).mine ≡ true → StartOf (steps_at bs n) (steps_at as_ n)
  pub second : (n : ℕ) → (known_at bs n).mine ≡ true → StartOf (steps_at as_ n) (steps_at bs n)

-- one step more under a number
abbrev pub longer_by : Known → ClockStep → Known
longer_by k step = known k.mine (k.steps ++ step ∷ [])

abbrev pub stepped_at : List Known → ℕ → ClockStep → List Known
stepped_at ks n step = slice_set ks n (longer_by (known_at ks n) step)

-- the same steps, with which nobody goes on
abbrev pub copied : Known → Known
copied k = known false k.steps

abbrev pub copy_of : List Known → List Known
copy_of ks = map copied ks

-- Of two that know steps under one number: what the first knows, where they are its own; else what
-- the second knows, where they are its own; else the more of the two
abbrev pub more_of : Known → Known → Known
more_of a b =
    known (a.mine || b.mine) (if a.mine then a.steps
    else if b.mine then b.steps
    else if nat_lt (length a.steps) (length b.steps) then b.steps
    else a.steps)

abbrev pub joined : List Known → List Known → List Known
joined [] bs = bs
joined (a ∷ as_) [] = a ∷ as_
joined (a ∷ as_) (b ∷ bs) = more_of a b ∷ joined as_ bs

-- how many steps are known of each number
abbrev pub counts : List Known → List ℕ
counts ks = map (λ k. length k.steps) ks

-- all steps under the numbers below the first are this one's to make, and under no other
abbrev pub owns_below : ℕ → ℕ → List Known
owns_below n seats = replicate n (known true []) ++ replicate (seats - n) unknown

-- the steps under this number alone
abbrev pub owns_only : ℕ → ℕ → List Known
owns_only n seats = slice_set (replicate seats unknown) n (known true [])
