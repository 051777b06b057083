-- The calls of the queues, in the words of what is read: an entry comes, and what is found at a place.
use Rattle.std.proofs.Common.{arith, ap, refl, sym, ◌∙◌, ⊎_elim}
use Rattle.std.proofs.lemmas.Bool.{cases_lt}
use Rattle.std.proofs.lemmas.List.{drop_all, get_or_append_left, get_or_at, get_or_past, take-append-drop}
use Rattle.std.proofs.lemmas.List.Edits.{insert_end}
use Rattle.std.specs.Prelude.{◌≡◌, ◌<◌, ◌≤◌, ℕ, ◌+◌, ◌-◌, true, List, [], ◌∷◌, ◌++◌, Option, Some, None, drop, length, take}
use Rattle.std.specs.List.{insert, slice_index_or, slice_set}
use Rattle.std.specs.Option.{is_some}
use Rattle.io_queues.specs.Linked.{IsMovable, IsQueued, before_moved, first_or, linked, next_moved, seen}
use Rattle.io_queues.specs.Queued.{inserted, item_at, pushed, queue_at}
use Rattle.io_queues.proofs.PartLemmas.{queue_of, ring_behind}
use Rattle.io_queues.proofs.EntryLemmas.{item_of, length-entries}
use Rattle.io_queues.proofs.QueuedLemmas.{item_is, places_there, queue_is, shown, there_at}
use Rattle.io_queues.proofs.ReadLemmas.{behind_is, inserted_is, queue_low}
use Rattle.io_queues.proofs.StepLemmas.{HasFirst, has_free, put_at, put_empty, put_low, put_movable, put_queued, put_within}

-- an entry comes to an index of a queue
module _ {T : Type 0} (places last : ℕ) (next before : List ℕ) (items : List (Option T))
    (s : IsQueued places last next before items) (x y q at : ℕ) (item : T) (read : x ≡ linked next last)
    (room : 0 < (seen places last next items).room) (queue : q < length (seen places last next items).queues)
    (to : y ≡ first_or (drop at (queue_of s.queues q) ++ ring_behind places s.queues q) last) where
  first : HasFirst x s.free
  first =
      let has = has_free places last next before items s room in
      record { rest = has.rest; is = has.is ∙ ap (λ k. k ∷ has.rest) (sym read) }

  lt : q < length s.queues
  lt = queue_low places last next before items s q queue

  cut : queue_of s.queues q ≡ take at (queue_of s.queues q) ++ drop at (queue_of s.queues q)
  cut = sym (take-append-drop at (queue_of s.queues q))

  pub come_low : x < places
  come_low =
      put_low places last next before items s x y q first.rest (take at (queue_of s.queues q)) (drop at (queue_of s.queues q))
      item first.is lt cut to

  pub come_within : x < length items
  come_within =
      put_within places last next before items s x y q first.rest (take at (queue_of s.queues q))
      (drop at (queue_of s.queues q)) item first.is lt cut to

  pub come_empty : item_of items x ≡ None
  come_empty =
      put_empty places last next before items s x y q first.rest (take at (queue_of s.queues q))
      (drop at (queue_of s.queues q)) item first.is lt cut to

  pub come_free : item_at (seen places last next items) x ≡ None
  come_free = item_is places last next before items s x ∙ come_empty

  pub come_movable : IsMovable x y next before
  come_movable =
      put_movable places last next before items s x y q first.rest (take at (queue_of s.queues q))
      (drop at (queue_of s.queues q)) item first.is lt cut to

  pub come_queued : IsQueued places last (next_moved x y next before) (before_moved x y next before)
      (slice_set items x (Some item))
  come_queued =
      put_queued places last next before items s x y q first.rest (take at (queue_of s.queues q))
      (drop at (queue_of s.queues q)) item first.is lt cut to

  pub come_inserted : seen places last (next_moved x y next before) (slice_set items x (Some item))
      ≡ inserted q at (record { place = x; item = item }) (seen places last next items)
  come_inserted =
      put_at places last next before items s x y q first.rest (take at (queue_of s.queues q))
      (drop at (queue_of s.queues q)) item first.is lt cut to
      (insert (queue_at (seen places last next items) q) at (record { place = x; item = item }))
      (inserted_is places last next before items s q queue at x item)

-- behind the last index
abbrev pub whole_length : {T : Type 0} → ℕ → ℕ → List ℕ → List (Option T) → ℕ → ℕ
whole_length places last next items q = length (queue_at (seen places last next items) q)

module _ {T : Type 0} (places last : ℕ) (next before : List ℕ) (items : List (Option T))
    (s : IsQueued places last next before items) (q : ℕ) (queue : q < length (seen places last next items).queues) where
  pub end_is : places + q + 1
      ≡ first_or (drop (whole_length places last next items q) (queue_of s.queues q) ++ ring_behind places s.queues q) last
  end_is =
      let is = ap length (queue_is places last next before items s q) in
      let many = length-entries items (queue_of s.queues q) (places_there places last next before items s q) in
      behind_is places last next before items s q queue
      ∙ sym (ap (λ l. first_or (l ++ ring_behind places s.queues q) last)
      (drop_all (whole_length places last next items q) (queue_of s.queues q) (omega (arith, is, many))))

  pub end_pushed : (x : ℕ) (item : T) →
      inserted q (whole_length places last next items q) (record { place = x; item = item }) (seen places last next items)
      ≡ pushed q (record { place = x; item = item }) (seen places last next items)
  end_pushed x item =
      ap (λ es. record (seen places last next items) {
        queues = slice_set (seen places last next items).queues q es;
        room = (seen places last next items).room - 1;
      }) (insert_end (queue_at (seen places last next items) q) (record { place = x; item = item }))

-- what is found at a place
pub item_there : {T : Type 0} (places last : ℕ) (next before : List ℕ) (items : List (Option T)) →
    IsQueued places last next before items → (x : ℕ) → is_some (item_at (seen places last next items) x) ≡ true →
    is_some (item_of items x) ≡ true
item_there places last next before items s x is = sym (ap is_some (item_is places last next before items s x)) ∙ is

pub item_low : {T : Type 0} (places last : ℕ) (next before : List ℕ) (items : List (Option T)) →
    IsQueued places last next before items → (x : ℕ) → is_some (item_at (seen places last next items) x) ≡ true →
    x < length items
item_low places last next before items s x is =
    let low = (there_at places last next before items s x (item_there places last next before items s x is)).low in
    let many = s.many in
    omega (arith, low, many)

-- nothing is left, one by one
pub rest_empty : {T : Type 0} (rest : List (Option T)) (o : Option T) →
    ((n : ℕ) → slice_index_or (rest ++ o ∷ []) n None ≡ None) → (n : ℕ) → slice_index_or rest n None ≡ None
rest_empty rest o none n =
    ⊎_elim
    (λ (lt : n < length rest). sym (get_or_append_left rest (o ∷ []) None n lt) ∙ none n)
    (λ (le : length rest ≤ n). get_or_past rest n None le) (cases_lt n (length rest))

pub last_empty : {T : Type 0} (rest : List (Option T)) (o : Option T) →
    ((n : ℕ) → slice_index_or (rest ++ o ∷ []) n None ≡ None) → o ≡ None
last_empty rest o none = sym (get_or_at rest o [] None (length rest) refl) ∙ none (length rest)

pub low_place : {T : Type 0} (places last : ℕ) (next before : List ℕ) (items : List (Option T)) →
    IsQueued places last next before items → (x : ℕ) → x < places → x < (seen places last next items).places
low_place places last next before items s x low =
    let is = ap (λ v. v.places) (shown places last next before items s) in omega (arith, is, low)
