-- Each step of the queues: their links stay linked, and show what the step says.
use Rattle.std.proofs.Common.{arith, ap, eqb, refl, subst, sym, ◌∙◌, ⊎_elim, ◌≢◌}
use Rattle.std.proofs.lemmas.Bool.Decides.{eqb_tells}
use Rattle.std.proofs.lemmas.List.{length-set, map-set}
use Rattle.std.specs.Prelude.{◌≡◌, ◌<◌, ℕ, suc, ◌-◌, true, false, not, List, [], ◌∷◌, ◌++◌, Option, Some, None, length, map}
use Rattle.std.specs.List.{slice_set}
use Rattle.std.specs.Option.{is_some}
use Rattle.io_rules.specs.Room.{one_if}
use Rattle.io_rules.proofs.TotalLemmas.{same}
use Rattle.io_queues.specs.Linked.{AreBelow, AreLinked, IsMovable, IsQueued, before_moved, entries_at, first_or, linked, next_moved, ring_of, seen, times}
use Rattle.io_queues.specs.Queued.{Entry, Queued}
use Rattle.io_queues.proofs.PathLemmas.{headed, times-append}
use Rattle.io_queues.proofs.RingLemmas.{IsMove, movable}
use Rattle.io_queues.proofs.PartLemmas.{all_get, all_set, below_put, queue_of, ring_behind, times_get, times_in}
use Rattle.io_queues.proofs.EntryLemmas.{all-kept, entries-kept, entries-put, item_of}
use Rattle.io_queues.proofs.QueuedLemmas.{count_in, item_else, item_here, none_if, put_move, relinked, seen_linked, shown}

-- which places are free, as one is taken and one given
abbrev pub AreEmpty : {T : Type 0} → ℕ → List ℕ → List (Option T) → Type 0
AreEmpty places free items = (n : ℕ) → n < places → times n free ≡ one_if (not (is_some (item_of items n)))

-- a queue has these entries, with one of a place that was free
abbrev pub with_entries : {T : Type 0} → ℕ → List (Entry T) → Queued T → Queued T
with_entries q entries v = record v { queues = slice_set v.queues q entries; room = v.room - 1 }

pub record HasFirst (x : ℕ) (l : List ℕ) : Type 0 where
  pub rest : List ℕ
  pub is : l ≡ x ∷ rest

first_there : (x : ℕ) (l : List ℕ) → 0 < length l → ((y : ℕ) (rest : List ℕ) → l ≡ y ∷ rest → x ≡ y) → HasFirst x l
first_there x [] lt each = absurd (omega (arith, lt))
first_there x (y ∷ rest) lt each = record { rest = rest; is = ap (λ k. k ∷ rest) (sym (each y rest refl)) }

empty_put : {T : Type 0} (places x : ℕ) (rest : List ℕ) (items : List (Option T)) (item : T) → x < length items →
    times x rest ≡ 0 → AreEmpty places (x ∷ rest) items → AreEmpty places rest (slice_set items x (Some item))
empty_put places x rest items item within none empty n low =
    ⊎_elim
    (λ (t : (eqb x n ≡ true) × (x ≡ n)).
    subst (λ k. times k rest ≡ 0) t.1 none
    ∙ sym (ap (λ o. one_if (not (is_some o))) (item_here items x n (Some item) within t.1)))
    (λ (t : (eqb x n ≡ false) × (x ≢ n)).
    let here = ap one_if t.0 in let old = empty n low in
    let rest_is : times n rest ≡ one_if (not (is_some (item_of items n))) = omega (arith, here, old) in
    rest_is ∙ sym (ap (λ o. one_if (not (is_some o))) (item_else items x n (Some item) t.1)))
    (eqb_tells x n)

pub empty_taken : {T : Type 0} (places x : ℕ) (free : List ℕ) (items : List (Option T)) → x < length items →
    times x free ≡ 0 → AreEmpty places free items → AreEmpty places (x ∷ free) (slice_set items x None)
empty_taken places x free items within none empty n low =
    ⊎_elim
    (λ (t : (eqb x n ≡ true) × (x ≡ n)).
    let here = ap one_if t.0 in let not_free = subst (λ k. times k free ≡ 0) t.1 none in
    let one : times n (x ∷ free) ≡ 1 = omega (arith, here, not_free) in
    one ∙ sym (ap (λ o. one_if (not (is_some o))) (item_here items x n None within t.1)))
    (λ (t : (eqb x n ≡ false) × (x ≢ n)).
    let here = ap one_if t.0 in let old = empty n low in
    let rest_is : times n (x ∷ free) ≡ one_if (not (is_some (item_of items n))) = omega (arith, here, old) in
    rest_is ∙ sym (ap (λ o. one_if (not (is_some o))) (item_else items x n None t.1)))
    (eqb_tells x n)

module _ {T : Type 0} (places last : ℕ) (next before : List ℕ) (items : List (Option T))
    (s : IsQueued places last next before items) where
  -- the first free place
  pub has_free : 0 < (seen places last next items).room → HasFirst (linked next last) s.free
  has_free room =
      first_there (linked next last) s.free
      (let many = ap (λ v. v.room) (shown places last next before items s) in omega (arith, many, room))
      (λ y rest is.
      headed next last (ring_of places s.free s.queues) last s.links.ring.forward
      ∙ ap (λ l. first_or (ring_of places l s.queues) last) is)

-- an entry comes to a free place
module _ {T : Type 0} (places last : ℕ) (next before : List ℕ) (items : List (Option T))
    (s : IsQueued places last next before items) (x y q : ℕ) (rest us vs : List ℕ) (item : T)
    (free : s.free ≡ x ∷ rest) (lt : q < length s.queues) (is : queue_of s.queues q ≡ us ++ vs)
    (to : y ≡ first_or (vs ++ ring_behind places s.queues q) last) where
  links_now : AreLinked places last next before (x ∷ rest) s.queues
  links_now = subst (λ l. AreLinked places last next before l s.queues) free s.links

  pub put_low : x < places
  put_low = links_now.free_below.0

  pub put_empty : item_of items x ≡ None
  put_empty =
      none_if (item_of items x) (times x rest)
      (let here = ap one_if (same x) in let all = s.empty x put_low in let is = ap (times x) free in
      let more : suc (times x rest) ≡ times x s.free = omega (arith, here, is) in
      more ∙ all)

  none_in : times_in x s.queues ≡ 0
  none_in =
      let all = count_in places last next before (x ∷ rest) s.queues x links_now put_low in
      let here = ap one_if (same x) in
      omega (arith, all, here)

  none_left : times x rest ≡ 0
  none_left =
      let all = count_in places last next before (x ∷ rest) s.queues x links_now put_low in
      let here = ap one_if (same x) in
      omega (arith, all, here)

  put_moves : IsMove x y last (ring_of places (x ∷ rest) s.queues)
      (ring_of places rest (slice_set s.queues q (us ++ x ∷ vs)))
  put_moves =
      put_move places last x y q (ring_of places (x ∷ rest) s.queues) [] (ring_of places rest s.queues) rest s.queues us vs
      refl refl lt is to

  pub put_movable : IsMovable x y next before
  put_movable = movable next before last x y _ _ links_now.ring put_moves

  put_links : AreLinked places last (next_moved x y next before) (before_moved x y next before) rest
      (slice_set s.queues q (us ++ x ∷ vs))
  put_links =
      relinked places last x y next before (ring_of places (x ∷ rest) s.queues) rest
      (slice_set s.queues q (us ++ x ∷ vs)) links_now.ring put_moves
      (let many = s.links.many in let same_many = length-set s.queues q (us ++ x ∷ vs) in omega (arith, many, same_many))
      links_now.free_below.1
      (all_set places s.queues q (us ++ x ∷ vs) s.links.all_below
      (below_put places x us vs put_low (subst (AreBelow places) is (all_get places s.queues q s.links.all_below))))

  pub put_within : x < length items
  put_within = let many = s.many in let low = put_low in omega (arith, many, low)

  pub put_queued : IsQueued places last (next_moved x y next before) (before_moved x y next before)
      (slice_set items x (Some item))
  put_queued =
      record {
        free = rest;
        queues = slice_set s.queues q (us ++ x ∷ vs);
        links = put_links;
        many = length-set items x (Some item) ∙ s.many;
        empty =
            empty_put places x rest items item put_within none_left
            (subst (λ l. AreEmpty places l items) free s.empty);
      }

  none_both : times x (us ++ vs) ≡ 0
  none_both =
      let most = times_get x s.queues q in let none = none_in in let is_times = ap (times x) is in
      omega (arith, most, none, is_times)

  put_entries : entries_at (slice_set items x (Some item)) (us ++ x ∷ vs)
      ≡ entries_at items us ++ record { place = x; item = item } ∷ entries_at items vs
  put_entries =
      let both = times-append x us vs in let none = none_both in
      entries-put (slice_set items x (Some item)) us x vs item (item_here items x x (Some item) put_within refl)
      ∙ ap (λ es. es ++ record { place = x; item = item } ∷ entries_at (slice_set items x (Some item)) vs)
      (entries-kept items x (Some item) us (omega (arith, both, none)))
      ∙ ap (λ es. entries_at items us ++ record { place = x; item = item } ∷ es)
      (entries-kept items x (Some item) vs (omega (arith, both, none)))

  put_seen : seen places last (next_moved x y next before) (slice_set items x (Some item))
      ≡ record {
        queues =
            slice_set (map (entries_at items) s.queues) q
            (entries_at items us ++ record { place = x; item = item } ∷ entries_at items vs);
        room = length rest;
        places = places;
      }
  put_seen =
      seen_linked places last (next_moved x y next before) (before_moved x y next before) rest
      (slice_set s.queues q (us ++ x ∷ vs)) (slice_set items x (Some item)) put_links
      ∙ ap (λ qs. record { queues = qs; room = length rest; places = places })
      (map-set (entries_at (slice_set items x (Some item))) s.queues q (us ++ x ∷ vs)
      ∙ ap (λ qs. slice_set qs q (entries_at (slice_set items x (Some item)) (us ++ x ∷ vs)))
      (all-kept items x (Some item) s.queues none_in)
      ∙ ap (slice_set (map (entries_at items) s.queues) q) put_entries)

  room_left : length rest ≡ length s.free - 1
  room_left = let many = ap length free in omega (arith, many)

  -- so the queue has these entries, and one place less is free
  pub put_at : (entries : List (Entry T)) →
      entries_at items us ++ record { place = x; item = item } ∷ entries_at items vs ≡ entries →
      seen places last (next_moved x y next before) (slice_set items x (Some item))
      ≡ with_entries q entries (seen places last next items)
  put_at entries are =
      put_seen
      ∙ ap (λ es. record { queues = slice_set (map (entries_at items) s.queues) q es; room = length rest; places = places }) are
      ∙ ap (λ n. record { queues = slice_set (map (entries_at items) s.queues) q entries; room = n; places = places }) room_left
      ∙ sym (ap (with_entries q entries) (shown places last next before items s))
