-- Queues over shared places: each queue's entries, front first, and for how many more there is
-- room.
use Rattle.std.specs.Prelude.{◌≡◌, ◌≤◌, ℕ, ◌+◌, ◌-◌, ◌==◌, cond, List, [], ◌∷◌, ◌++◌, Option, Some, None, drop, length, map, replicate}
use Rattle.std.specs.List.{insert, slice_index_or, slice_set}
use Rattle.io_rules.specs.Room.{one_if}

-- what stands in a queue, and at which place
pub record Entry (T : Type 0) : Type 0 where
  pub place : ℕ
  pub item : T

pub record Queued (T : Type 0) : Type 0 where
  -- of each queue, front first
  pub queues : List (List (Entry T))
  -- how many places are free
  pub room : ℕ
  -- how many there are
  pub places : ℕ

abbrev pub queue_at : {T : Type 0} → Queued T → ℕ → List (Entry T)
queue_at s q = slice_index_or s.queues q []

-- so many queues and so many places, all of them free
abbrev pub no_entries : {T : Type 0} → ℕ → ℕ → Queued T
no_entries queues places =
    record { queues = replicate queues []; room = places; places = places }

-- it stands last in a queue
abbrev pub pushed : {T : Type 0} → ℕ → Entry T → Queued T → Queued T
pushed q entry s =
    record s { queues = slice_set s.queues q (queue_at s q ++ entry ∷ []); room = s.room - 1 }

-- it stands at this index of a queue
abbrev pub inserted : {T : Type 0} → ℕ → ℕ → Entry T → Queued T → Queued T
inserted q at entry s =
    record s { queues = slice_set s.queues q (insert (queue_at s q) at entry); room = s.room - 1 }

-- a queue's first has left
abbrev pub popped : {T : Type 0} → ℕ → Queued T → Queued T
popped q s = record s { queues = slice_set s.queues q (drop 1 (queue_at s q)); room = s.room + 1 }

-- all but the one at this place
abbrev pub others : {T : Type 0} → ℕ → List (Entry T) → List (Entry T)
others place [] = []
others place (entry ∷ entries) =
    cond (entry.place == place) (others place entries) (entry ∷ others place entries)

-- what stands at a place has left its queue
abbrev pub removed : {T : Type 0} → ℕ → Queued T → Queued T
removed place s = record s { queues = map (others place) s.queues; room = s.room + 1 }

-- what stands at a place
abbrev pub found_in : {T : Type 0} → ℕ → List (Entry T) → Option T
found_in place [] = None
found_in place (entry ∷ entries) =
    cond (entry.place == place) (Some entry.item) (found_in place entries)

abbrev pub first_of : {T : Type 0} → Option T → Option T → Option T
first_of (Some item) other = Some item
first_of None other = other

abbrev pub found : {T : Type 0} → ℕ → List (List (Entry T)) → Option T
found place [] = None
found place (entries ∷ queues) = first_of (found_in place entries) (found place queues)

abbrev pub item_at : {T : Type 0} → Queued T → ℕ → Option T
item_at s place = found place s.queues

-- what stands at a place stands last in this queue, and no longer where it was
abbrev pub moved_to : {T : Type 0} → ℕ → ℕ → Option T → Queued T → Queued T
moved_to place q (Some item) s = pushed q (record { place = place; item = item }) (removed place s)
moved_to place q None s = s

abbrev pub moved : {T : Type 0} → ℕ → ℕ → Queued T → Queued T
moved place q s = moved_to place q (item_at s place) s

-- another item stands there
abbrev pub item_put : {T : Type 0} → ℕ → T → Entry T → Entry T
item_put place item entry = cond (entry.place == place) (record entry { item = item }) entry

abbrev pub with_item : {T : Type 0} → ℕ → T → Queued T → Queued T
with_item place item s = record s { queues = map (map (item_put place item)) s.queues }

-- the place of a queue's first
abbrev pub place_first : {T : Type 0} → List (Entry T) → Option ℕ
place_first [] = None
place_first (entry ∷ entries) = Some entry.place

-- how many stand in all queues
abbrev pub entries_in : {T : Type 0} → List (List (Entry T)) → ℕ
entries_in [] = 0
entries_in (entries ∷ queues) = length entries + entries_in queues

-- how many stand at a place
abbrev pub times_among : {T : Type 0} → ℕ → List (Entry T) → ℕ
times_among place [] = 0
times_among place (entry ∷ entries) = one_if (entry.place == place) + times_among place entries

abbrev pub times_at : {T : Type 0} → ℕ → List (List (Entry T)) → ℕ
times_at place [] = 0
times_at place (entries ∷ queues) = times_among place entries + times_at place queues

-- what holds of all queues at every time
pub record IsWhole {T : Type 0} (s : Queued T) : Type 0 where
  -- each place is free, or one stands there
  pub counted : s.room + entries_in s.queues ≡ s.places
  -- no place is in the queues twice
  pub once : (place : ℕ) → times_at place s.queues ≤ 1
  pub within : (place : ℕ) → s.places ≤ place → times_at place s.queues ≡ 0

-- of two items that come to a place the last one stays
abbrev pub LastStays : Type 0 → Type 0
LastStays T = (place : ℕ) (first last : T) (s : Queued T) →
    with_item place last (with_item place first s) ≡ with_item place last s
