-- How timers are kept: the waits of each timer in a queue, and of each timer the first wait as a leaf of a
-- tournament. These words are for this crate alone.
use Rattle.std.specs.Prelude.{◌≡◌, ◌≢◌, ◌<◌, ℕ, nat_lt, List, [], ◌∷◌, Option, Some, None, length, if◌then◌else◌}
use Rattle.std.specs.List.{slice_index_or}
use Rattle.io_timers.specs.declared.first.First.{First}
use Rattle.io_timers.specs.declared.pending.PendingWait.{PendingWait}
use Rattle.io_timers.specs.Pending.{Entry, number_of}

abbrev pub Each : {X : Type 0} → (X → Type 0) → List X → Type 0
Each P [] = Unit {0}
Each P (x ∷ xs) = P x × Each P xs

-- numbers rise
abbrev pub Rises : {T : Type 0} → List (Entry (PendingWait T)) → Type 0
Rises [] = Unit {0}
Rises (wait ∷ waits) = Each (λ other. number_of wait < number_of other) waits × Rises waits

-- each is at a place of its own
abbrev pub AreApart : {T : Type 0} → List (Entry (PendingWait T)) → Type 0
AreApart [] = Unit {0}
AreApart (wait ∷ waits) = Each (λ other. other.place ≢ wait.place) waits × AreApart waits

-- one more, behind those of smaller numbers
abbrev pub put : {T : Type 0} → Entry (PendingWait T) → List (Entry (PendingWait T)) →
    List (Entry (PendingWait T))
put wait [] = wait ∷ []
put wait (first ∷ rest) =
    if nat_lt (number_of first) (number_of wait) then first ∷ put wait rest else wait ∷ first ∷ rest

abbrev pub put_all : {T : Type 0} → List (Entry (PendingWait T)) → List (Entry (PendingWait T)) →
    List (Entry (PendingWait T))
put_all [] waits = waits
put_all (wait ∷ more) waits = put wait (put_all more waits)

-- the waits of all queues by rising number, which is the order of acceptance
abbrev pub in_order : {T : Type 0} → List (List (Entry (PendingWait T))) → List (Entry (PendingWait T))
in_order [] = []
in_order (queue ∷ queues) = put_all queue (in_order queues)

-- it is a wait of the timer at this place
abbrev pub IsOn : {T : Type 0} → ℕ → Entry (PendingWait T) → Type 0
IsOn place wait = wait.item.timer.place ≡ place

-- the first wait of a timer, which has this place and expiry
abbrev pub first_wait : {T : Type 0} → ℕ → ℕ → List (Entry (PendingWait T)) → Option First
first_wait place expiry [] = None
first_wait place expiry (wait ∷ waits) =
    Some (record { expiry = expiry; op = number_of wait; timer = place })

pub record IsTimers {T : Type 0} (expiries : List ℕ) (queues : List (List (Entry (PendingWait T))))
    (leaves : List (Option First)) : Type 0 where
  pub as_many : length queues ≡ length expiries
  pub leaves_many : length leaves ≡ length expiries
  pub rises : Rises (in_order queues)
  pub apart : AreApart (in_order queues)
  pub each_rises : (k : ℕ) → Rises (slice_index_or queues k [])
  pub own : (k : ℕ) → Each (IsOn k) (slice_index_or queues k [])
  pub firsts : (k : ℕ) → slice_index_or leaves k None
      ≡ first_wait k (slice_index_or expiries k 0) (slice_index_or queues k [])
