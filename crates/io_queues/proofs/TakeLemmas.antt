-- An entry leaves its queue: its place is free, or it stands at the back of another queue.
use Rattle.std.proofs.Common.{arith, ap, refl, subst, sym, ◌∙◌}
use Rattle.std.proofs.lemmas.Bool.{true≢false}
use Rattle.std.proofs.lemmas.List.{append-nil, length-map, length-set, map-set}
use Rattle.std.specs.Prelude.{◌≡◌, ◌<◌, ℕ, ◌+◌, ◌-◌, true, List, [], ◌∷◌, ◌++◌, Option, Some, None, drop, length, map}
use Rattle.std.specs.List.{slice_index_or, slice_set}
use Rattle.std.specs.Option.{is_some}
use Rattle.io_rules.specs.Room.{one_if}
use Rattle.io_rules.proofs.TotalLemmas.{same}
use Rattle.io_queues.specs.Linked.{AreBelow, AreLinked, IsMovable, IsQueued, before_moved, entries_at, linked, next_moved, queues_ring, ring_of, seen, times}
use Rattle.io_queues.specs.Queued.{moved, moved_to, others, popped, pushed, removed}
use Rattle.io_queues.proofs.PathLemmas.{headed, times-append}
use Rattle.io_queues.proofs.RingLemmas.{IsMove, movable}
use Rattle.io_queues.proofs.PartLemmas.{IsAt, all_get, all_set, all_without, below_put, first_behind, located, popped_at, queue_of, taken_ring, times-ring, times_in, without}
use Rattle.io_queues.proofs.EntryLemmas.{all-kept, all-others, entries-drop, entries-put, item_of}
use Rattle.io_queues.proofs.QueuedLemmas.{IsThere, count_in, first_same, item_is, places_there, put_move, queue_seen, relinked, seen_linked, shown, there_at}
use Rattle.io_queues.proofs.StepLemmas.{empty_taken}

module _ {T : Type 0} (places last : ℕ) (next before : List ℕ) (items : List (Option T))
    (s : IsQueued places last next before items) (x : ℕ) (is : is_some (item_of items x) ≡ true) where
  there : IsThere places x s.free s.queues
  there = there_at places last next before items s x is

  once_in : times x (ring_of places s.free s.queues) ≡ 1
  once_in =
      let none = there.not_free in let one = there.once in
      let both = times-append x s.free (queues_ring places s.queues) in
      let rest = times-ring x places s.queues there.low in
      omega (arith, none, one, both, rest)

  found_at : IsAt x (ring_of places s.free s.queues)
  found_at = located x (ring_of places s.free s.queues) (let one = once_in in omega (arith, one))

  left : found_at.front ++ found_at.rest ≡ ring_of places s.free (map (without x) s.queues)
  left = taken_ring places x s.free s.queues found_at there.low once_in there.not_free

  taken_moves : IsMove x (linked next last) last (ring_of places s.free s.queues)
      (ring_of places (x ∷ s.free) (map (without x) s.queues))
  taken_moves =
      record {
        front = found_at.front;
        rest = found_at.rest;
        ahead = [];
        behind = ring_of places s.free (map (without x) s.queues);
        was = found_at.is;
        left = left;
        to =
            headed next last (ring_of places s.free s.queues) last s.links.ring.forward
            ∙ first_same places x last s.free s.queues;
        is = refl;
      }

  pub taken_movable : IsMovable x (linked next last) next before
  taken_movable = movable next before last x (linked next last) _ _ s.links.ring taken_moves

  taken_links : AreLinked places last (next_moved x (linked next last) next before)
      (before_moved x (linked next last) next before) (x ∷ s.free) (map (without x) s.queues)
  taken_links =
      relinked places last x (linked next last) next before (ring_of places s.free s.queues) (x ∷ s.free)
      (map (without x) s.queues) s.links.ring taken_moves
      (let many = s.links.many in let same_many = length-map s.queues (without x) in omega (arith, many, same_many))
      (there.low, s.links.free_below) (all_without places x s.queues s.links.all_below)

  pub taken_within : x < length items
  taken_within = let many = s.many in let low = there.low in omega (arith, many, low)

  pub taken_queued : IsQueued places last (next_moved x (linked next last) next before)
      (before_moved x (linked next last) next before) (slice_set items x None)
  taken_queued =
      record {
        free = x ∷ s.free;
        queues = map (without x) s.queues;
        links = taken_links;
        many = length-set items x None ∙ s.many;
        empty = empty_taken places x s.free items taken_within there.not_free s.empty;
      }

  none_now : times_in x (map (without x) s.queues) ≡ 0
  none_now =
      let all = count_in places last (next_moved x (linked next last) next before)
      (before_moved x (linked next last) next before) (x ∷ s.free) (map (without x) s.queues) x taken_links there.low in
      let here = ap one_if (same x) in
      omega (arith, all, here)

  taken_shown : seen places last (next_moved x (linked next last) next before) (slice_set items x None)
      ≡ record {
        queues = map (entries_at items) (map (without x) s.queues);
        room = length (x ∷ s.free);
        places = places;
      }
  taken_shown =
      seen_linked places last (next_moved x (linked next last) next before)
      (before_moved x (linked next last) next before) (x ∷ s.free) (map (without x) s.queues) (slice_set items x None)
      taken_links
      ∙ ap (λ qs. record { queues = qs; room = length (x ∷ s.free); places = places })
      (all-kept items x None (map (without x) s.queues) none_now)

  one_more : length (x ∷ s.free) ≡ length s.free + 1
  one_more = omega arith

  pub taken_seen : seen places last (next_moved x (linked next last) next before) (slice_set items x None)
      ≡ removed x (seen places last next items)
  taken_seen =
      taken_shown
      ∙ ap (λ qs. record { queues = qs; room = length (x ∷ s.free); places = places }) (all-others items x s.queues)
      ∙ ap (λ n. record { queues = map (others x) (map (entries_at items) s.queues); room = n; places = places }) one_more
      ∙ sym (ap (removed x) (shown places last next before items s))

  -- the first of a queue
  pub popped_seen : (q : ℕ) (rest : List ℕ) → queue_of s.queues q ≡ x ∷ rest →
      seen places last (next_moved x (linked next last) next before) (slice_set items x None)
      ≡ popped q (seen places last next items)
  popped_seen q rest first =
      let dropped = entries-drop items (queue_of s.queues q) 1 (places_there places last next before items s q) in
      taken_shown
      ∙ ap (λ qs. record { queues = map (entries_at items) qs; room = length (x ∷ s.free); places = places })
      (popped_at x s.queues q rest there.once first)
      ∙ ap (λ qs. record { queues = qs; room = length (x ∷ s.free); places = places })
      (map-set (entries_at items) s.queues q rest
      ∙ ap (slice_set (map (entries_at items) s.queues) q)
      (sym (ap (λ l. entries_at items (drop 1 l)) first) ∙ dropped
      ∙ sym (ap (drop 1) (queue_seen items s.queues q))))
      ∙ ap (λ n. record {
        queues = slice_set (map (entries_at items) s.queues) q (drop 1 (slice_index_or (map (entries_at items) s.queues) q []));
        room = n;
        places = places;
      }) one_more
      ∙ sym (ap (popped q) (shown places last next before items s))

-- it moves to the back of a queue
module _ {T : Type 0} (places last : ℕ) (next before : List ℕ) (items : List (Option T))
    (s : IsQueued places last next before items) (x : ℕ) (is : is_some (item_of items x) ≡ true)
    (q : ℕ) (lt : q < length s.queues) where
  low_now : x < places
  low_now = (there places last next before items s x is).low

  lt_now : q < length (map (without x) s.queues)
  lt_now = let many = length-map s.queues (without x) in omega (arith, many, lt)

  back_moves : IsMove x (places + q + 1) last (ring_of places s.free s.queues)
      (ring_of places s.free (slice_set (map (without x) s.queues) q (queue_of (map (without x) s.queues) q ++ x ∷ [])))
  back_moves =
      let many = length-map s.queues (without x) in let all = s.links.many in
      let at = found_at places last next before items s x is in
      put_move places last x (places + q + 1) q (ring_of places s.free s.queues) at.front at.rest s.free
      (map (without x) s.queues) (queue_of (map (without x) s.queues) q) [] at.is
      (left places last next before items s x is) lt_now
      (sym (append-nil (queue_of (map (without x) s.queues) q)))
      (sym (first_behind places (map (without x) s.queues) q last lt_now (omega (arith, many, all))))

  pub back_movable : IsMovable x (places + q + 1) next before
  back_movable = movable next before last x (places + q + 1) _ _ s.links.ring back_moves

  back_links : AreLinked places last (next_moved x (places + q + 1) next before)
      (before_moved x (places + q + 1) next before) s.free
      (slice_set (map (without x) s.queues) q (queue_of (map (without x) s.queues) q ++ x ∷ []))
  back_links =
      relinked places last x (places + q + 1) next before (ring_of places s.free s.queues) s.free
      (slice_set (map (without x) s.queues) q (queue_of (map (without x) s.queues) q ++ x ∷ [])) s.links.ring back_moves
      (let many = s.links.many in let one = length-map s.queues (without x) in
      let two = length-set (map (without x) s.queues) q (queue_of (map (without x) s.queues) q ++ x ∷ []) in
      omega (arith, many, one, two))
      s.links.free_below
      (all_set places (map (without x) s.queues) q (queue_of (map (without x) s.queues) q ++ x ∷ [])
      (all_without places x s.queues s.links.all_below)
      (below_put places x (queue_of (map (without x) s.queues) q) [] low_now
      (subst (AreBelow places) (sym (append-nil (queue_of (map (without x) s.queues) q)))
      (all_get places (map (without x) s.queues) q (all_without places x s.queues s.links.all_below)))))

  pub back_queued : IsQueued places last (next_moved x (places + q + 1) next before)
      (before_moved x (places + q + 1) next before) items
  back_queued =
      record {
        free = s.free;
        queues = slice_set (map (without x) s.queues) q (queue_of (map (without x) s.queues) q ++ x ∷ []);
        links = back_links;
        many = s.many;
        empty = s.empty;
      }

  back_for : (item : T) → item_of items x ≡ Some item →
      seen places last (next_moved x (places + q + 1) next before) items
      ≡ pushed q (record { place = x; item = item }) (removed x (seen places last next items))
  back_for item there_is =
      let room : length s.free ≡ length s.free + 1 - 1 = omega arith in
      seen_linked places last (next_moved x (places + q + 1) next before) (before_moved x (places + q + 1) next before)
      s.free (slice_set (map (without x) s.queues) q (queue_of (map (without x) s.queues) q ++ x ∷ [])) items back_links
      ∙ ap (λ qs. record { queues = qs; room = length s.free; places = places })
      (map-set (entries_at items) (map (without x) s.queues) q (queue_of (map (without x) s.queues) q ++ x ∷ [])
      ∙ ap (slice_set (map (entries_at items) (map (without x) s.queues)) q)
      (entries-put items (queue_of (map (without x) s.queues) q) x [] item there_is
      ∙ ap (λ es. es ++ record { place = x; item = item } ∷ []) (sym (queue_seen items (map (without x) s.queues) q)))
      ∙ ap (λ qs. slice_set qs q (slice_index_or qs q [] ++ record { place = x; item = item } ∷ []))
      (all-others items x s.queues))
      ∙ ap (λ n. record {
        queues = slice_set (map (others x) (map (entries_at items) s.queues)) q
            (slice_index_or (map (others x) (map (entries_at items) s.queues)) q [] ++ record { place = x; item = item } ∷ []);
        room = n;
        places = places;
      }) room
      ∙ sym (ap (λ v. pushed q (record { place = x; item = item }) (removed x v)) (shown places last next before items s))

  back_by : (o : Option T) → item_of items x ≡ o → is_some o ≡ true →
      seen places last (next_moved x (places + q + 1) next before) items
      ≡ moved_to x q o (seen places last next items)
  back_by None there_is some = absurd (true≢false (sym some))
  back_by (Some item) there_is some = back_for item there_is

  pub back_seen : seen places last (next_moved x (places + q + 1) next before) items
      ≡ moved x q (seen places last next items)
  back_seen =
      back_by (item_of items x) refl is
      ∙ ap (λ o. moved_to x q o (seen places last next items)) (sym (item_is places last next before items s x))
