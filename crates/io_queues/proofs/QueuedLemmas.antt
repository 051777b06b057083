-- What links and items show, and what becomes of it as an entry comes, goes and moves.
use Rattle.std.proofs.Common.{arith, ap, refl, subst, sym, ◌∙◌, ⊎_elim, ◌≢◌}
use Rattle.std.proofs.lemmas.Bool.{cases_lt, lt-ltb, true≢false}
use Rattle.std.proofs.lemmas.List.{append_assoc, get_or-set_other, get_or-set_same, get_or_past}
use Rattle.std.specs.Prelude.{◌≡◌, ◌<◌, ◌≤◌, ℕ, zero, suc, ◌+◌, Bool, true, false, not, List, [], ◌∷◌, ◌++◌, Option, Some, None, length, map}
use Rattle.std.specs.List.{slice_index_or, slice_set}
use Rattle.std.specs.Option.{is_some}
use Rattle.io_rules.specs.Room.{one_if}
use Rattle.io_queues.specs.Linked.{AllBelow, AreBelow, AreLinked, IsQueued, IsRing, before_moved, cut, entries_at, first_or, next_moved, queues_ring, ring_of, seen, seen_as, times, walk}
use Rattle.io_queues.specs.Queued.{found, item_at, queue_at}
use Rattle.io_queues.proofs.PathLemmas.{times-append}
use Rattle.io_queues.proofs.RingLemmas.{IsMove, moved_on}
use Rattle.io_queues.proofs.PartLemmas.{all_past, cut_ring, parts, queue_of, ring_ahead, ring_behind, times-ring, times_get, times_in, walked, whole, without}
use Rattle.io_queues.proofs.EntryLemmas.{AreThere, are_there, item_of, none_found, one_found}

pub seen_linked : {T : Type 0} (places last : ℕ) (next before free : List ℕ) (queues : List (List ℕ))
    (items : List (Option T)) → AreLinked places last next before free queues →
    seen places last next items ≡ seen_as places items (free ∷ queues)
unfolding seen
seen_linked places last next before free queues items links =
    let walk_is = subst (λ k. walk next last k ≡ ring_of places free queues) links.ring.all
    (walked next last (ring_of places free queues) last links.ring.forward) in
    ap (seen_as places items)
    (ap (cut places) walk_is ∙ cut_ring places places free queues links.free_below links.all_below (omega arith))

pub count_in : (places last : ℕ) (next before free : List ℕ) (queues : List (List ℕ)) (x : ℕ) →
    AreLinked places last next before free queues → x < places → times x free + times_in x queues ≡ 1
count_in places last next before free queues x links low =
    let many = links.many in
    let one = links.ring.once x ∙ ap one_if (lt-ltb x last (omega (arith, many, low))) in
    let both = times-append x free (queues_ring places queues) in let rest = times-ring x places queues low in
    omega (arith, one, both, rest)

pub relinked : (places last x y : ℕ) (next before nodes free : List ℕ) (queues : List (List ℕ)) →
    IsRing last next before nodes → IsMove x y last nodes (ring_of places free queues) →
    length queues + places ≡ last → AreBelow places free → AllBelow places queues →
    AreLinked places last (next_moved x y next before) (before_moved x y next before) free queues
relinked places last x y next before nodes free queues ring move many low all =
    record {
      ring = moved_on next before last x y nodes (ring_of places free queues) ring move;
      many = many;
      free_below = low;
      all_below = all;
    }

apart : (free ahead us ws behind : List ℕ) → free ++ (ahead ++ ((us ++ ws) ++ behind)) ≡ (free ++ (ahead ++ us)) ++ (ws ++ behind)
apart free ahead us ws behind = simp append_assoc

pub put_move : (places last x y q : ℕ) (nodes front rest free : List ℕ) (queues : List (List ℕ)) (us vs : List ℕ) →
    nodes ≡ front ++ x ∷ rest → front ++ rest ≡ ring_of places free queues → q < length queues →
    queue_of queues q ≡ us ++ vs → y ≡ first_or (vs ++ ring_behind places queues q) last →
    IsMove x y last nodes (ring_of places free (slice_set queues q (us ++ x ∷ vs)))
put_move places last x y q nodes front rest free queues us vs was left lt is to =
    record {
      front = front;
      rest = rest;
      ahead = free ++ (ring_ahead places queues q ++ us);
      behind = vs ++ ring_behind places queues q;
      was = was;
      left =
          left
          ∙ ap (λ r. free ++ r)
          (whole places queues q lt ∙ ap (λ l. ring_ahead places queues q ++ (l ++ ring_behind places queues q)) is)
          ∙ apart free (ring_ahead places queues q) us vs (ring_behind places queues q);
      to = to;
      is =
          ap (λ r. free ++ r) (parts places queues q (us ++ x ∷ vs) lt)
          ∙ apart free (ring_ahead places queues q) us (x ∷ vs) (ring_behind places queues q);
    }

pub first_same : (places x last : ℕ) (free : List ℕ) (queues : List (List ℕ)) →
    first_or (ring_of places free queues) last ≡ first_or (ring_of places free (map (without x) queues)) last
first_same places x last [] [] = refl
first_same places x last [] (l ∷ queues) = refl
first_same places x last (n ∷ free) queues = refl

pub queue_seen : {T : Type 0} (items : List (Option T)) (queues : List (List ℕ)) (q : ℕ) →
    slice_index_or (map (entries_at items) queues) q [] ≡ entries_at items (queue_of queues q)
queue_seen items [] q = refl
queue_seen items (l ∷ queues) zero = refl
queue_seen items (l ∷ queues) (suc q) = queue_seen items queues q

some_if : (b : Bool) → 0 ≡ one_if (not b) → b ≡ true
some_if true is = refl
some_if false is = absurd (omega (arith, is))

pub none_if : {T : Type 0} (o : Option T) (n : ℕ) → suc n ≡ one_if (not (is_some o)) → o ≡ None
none_if None n is = refl
none_if (Some item) n is = absurd (omega (arith, is))

-- a place in a queue
pub record IsThere (places x : ℕ) (free : List ℕ) (queues : List (List ℕ)) : Type 0 where
  pub low : x < places
  pub not_free : times x free ≡ 0
  pub once : times_in x queues ≡ 1

pub item_here : {T : Type 0} (items : List (Option T)) (x n : ℕ) (v : Option T) → x < length items → x ≡ n →
    item_of (slice_set items x v) n ≡ v
item_here items x n v within is =
    subst (λ k. item_of (slice_set items x v) k ≡ v) is (get_or-set_same items x v None within)

pub item_else : {T : Type 0} (items : List (Option T)) (x n : ℕ) (v : Option T) → x ≢ n →
    item_of (slice_set items x v) n ≡ item_of items n
item_else items x n v other = get_or-set_other items x n v None (λ is. other (sym is))

module _ {T : Type 0} (places last : ℕ) (next before : List ℕ) (items : List (Option T))
    (s : IsQueued places last next before items) where
  pub shown : seen places last next items ≡ seen_as places items (s.free ∷ s.queues)
  shown = seen_linked places last next before s.free s.queues items s.links

  pub counted : (x : ℕ) → x < places → times x s.free + times_in x s.queues ≡ 1
  counted x low = count_in places last next before s.free s.queues x s.links low

  found_for : (x : ℕ) (o : Option T) → x < places → item_of items x ≡ o →
      found x (map (entries_at items) s.queues) ≡ item_of items x
  found_for x None low is =
      let all = counted x low in let free = s.empty x low ∙ ap (λ o. one_if (not (is_some o))) is in
      none_found items x s.queues (omega (arith, all, free)) ∙ sym is
  found_for x (Some item) low is =
      let all = counted x low in let free = s.empty x low ∙ ap (λ o. one_if (not (is_some o))) is in
      one_found items x s.queues (omega (arith, all, free))

  -- what is found at a place is its item
  pub item_is : (x : ℕ) → item_at (seen places last next items) x ≡ item_of items x
  item_is x =
      ap (λ v. item_at v x) shown
      ∙ ⊎_elim (λ (lt : x < places). found_for x (item_of items x) lt refl)
      (λ (le : places ≤ x).
      let many = s.many in
      none_found items x s.queues (all_past places x s.queues le s.links.all_below)
      ∙ sym (get_or_past items x None (omega (arith, many, le))))
      (cases_lt x places)

  pub there_at : (x : ℕ) → is_some (item_of items x) ≡ true → IsThere places x s.free s.queues
  there_at x is =
      ⊎_elim
      (λ (lt : x < places).
      let all = counted x lt in let free = s.empty x lt ∙ ap (λ b. one_if (not b)) is in
      record { low = lt; not_free = free; once = omega (arith, all, free) })
      (λ (le : places ≤ x).
      let many = s.many in
      absurd (true≢false (sym is ∙ ap is_some (get_or_past items x None (omega (arith, many, le))))))
      (cases_lt x places)

  pub places_there : (q : ℕ) → AreThere items (queue_of s.queues q)
  places_there q =
      are_there items (queue_of s.queues q)
      (λ p there.
      let more = times_get p s.queues q in
      ⊎_elim
      (λ (lt : p < places).
      let all = counted p lt in let free = s.empty p lt in
      some_if (is_some (item_of items p)) (let none : times p s.free ≡ 0 = omega (arith, all, more, there) in sym none ∙ free))
      (λ (le : places ≤ p).
      absurd (let none = all_past places p s.queues le s.links.all_below in omega (arith, none, more, there)))
      (cases_lt p places))

  pub queue_is : (q : ℕ) → queue_at (seen places last next items) q ≡ entries_at items (queue_of s.queues q)
  queue_is q = ap (λ v. queue_at v q) shown ∙ queue_seen items s.queues q
