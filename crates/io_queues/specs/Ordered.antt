-- What stands in many queues as one list, by rising number, as that of acceptance.
use Rattle.std.specs.Prelude.{◌≢◌, ◌<◌, ℕ, ◌==◌, cond, nat_lt, not, Bool, List, [], ◌∷◌, Option, Some, None, if◌then◌else◌}
use Rattle.io_queues.specs.Queued.{Entry}

abbrev pub Each : {X : Type 0} → (X → Type 0) → List X → Type 0
Each P [] = Unit {0}
Each P (x ∷ xs) = P x × Each P xs

-- numbers rise
abbrev pub Rises : {X : Type 0} → (X → ℕ) → List (Entry X) → Type 0
Rises number [] = Unit {0}
Rises number (entry ∷ entries) =
    Each (λ other. number entry.item < number other.item) entries × Rises number entries

-- each is at a place of its own
abbrev pub AreApart : {X : Type 0} → List (Entry X) → Type 0
AreApart [] = Unit {0}
AreApart (entry ∷ entries) = Each (λ other. other.place ≢ entry.place) entries × AreApart entries

-- one more, behind those of smaller numbers
abbrev pub put : {X : Type 0} → (X → ℕ) → Entry X → List (Entry X) → List (Entry X)
put number entry [] = entry ∷ []
put number entry (first ∷ rest) =
    if nat_lt (number first.item) (number entry.item) then first ∷ put number entry rest
    else entry ∷ first ∷ rest

abbrev pub put_all : {X : Type 0} → (X → ℕ) → List (Entry X) → List (Entry X) → List (Entry X)
put_all number [] entries = entries
put_all number (entry ∷ more) entries = put number entry (put_all number more entries)

-- the entries of all queues by rising number
abbrev pub in_order : {X : Type 0} → (X → ℕ) → List (List (Entry X)) → List (Entry X)
in_order number [] = []
in_order number (queue ∷ queues) = put_all number queue (in_order number queues)

abbrev pub is_other : {X : Type 0} → (X → ℕ) → ℕ → Entry X → Bool
is_other number n entry = not (number entry.item == n)

-- the one with this number
abbrev pub numbered_in : {X : Type 0} → (X → ℕ) → ℕ → List (Entry X) → Option X
numbered_in number n [] = None
numbered_in number n (entry ∷ entries) =
    cond (number entry.item == n) (Some entry.item) (numbered_in number n entries)
