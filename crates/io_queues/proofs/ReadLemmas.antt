-- What is read of the queues: a queue's first, the node at an index, and the item at a place.
use Rattle.std.proofs.Common.{arith, ap, eqb, refl, subst, sym, ◌∙◌, ⊎_elim, ◌≢◌}
use Rattle.std.proofs.Math.Seq.{drop-cons}
use Rattle.std.proofs.lemmas.Bool.{true≢false}
use Rattle.std.proofs.lemmas.Bool.Decides.{eqb_tells}
use Rattle.std.proofs.lemmas.List.{get_or_read, length-map, length-set}
use Rattle.std.specs.Prelude.{◌≡◌, ◌<◌, ◌≤◌, ℕ, suc, ◌+◌, ◌==◌, true, false, cond, not, List, [], ◌∷◌, ◌++◌, Option, Some, None, drop, length, map, slice_get, take}
use Rattle.std.specs.List.{insert, slice_index_or, slice_set}
use Rattle.std.specs.Option.{is_some}
use Rattle.io_rules.specs.Room.{one_if}
use Rattle.io_queues.specs.Linked.{AreBelow, IsQueued, entries_at, entry_of, first_or, linked, seen, steps_on, times}
use Rattle.io_queues.specs.Queued.{Entry, first_of, found, found_in, item_put, place_first, queue_at, with_item}
use Rattle.io_queues.proofs.PathLemmas.{headed}
use Rattle.io_queues.proofs.PartLemmas.{all_get, behind_at, below_at, first_behind, queue_of, queue_path, ring_behind}
use Rattle.io_queues.proofs.EntryLemmas.{AreThere, entries-drop, entries-take, item_of, length-entries}
use Rattle.io_queues.proofs.QueuedLemmas.{item_else, item_here, item_is, places_there, queue_is, seen_linked, shown, there_at}
use Rattle.io_queues.proofs.StepLemmas.{HasFirst}

first_in : (most n e : ℕ) (l tail : List ℕ) → AreBelow most l → most ≤ first_or tail e → n ≡ first_or (l ++ tail) e →
    n < most → HasFirst n l
first_in most n e [] tail low high is lt = absurd (omega (arith, high, is, lt))
first_in most n e (p ∷ l) tail low high is lt = record { rest = l; is = ap (λ k. k ∷ l) (sym is) }

none_in : (most n e : ℕ) (l tail : List ℕ) → AreBelow most l → n ≡ first_or (l ++ tail) e → most ≤ n → l ≡ []
none_in most n e [] tail low is le = refl
none_in most n e (p ∷ l) tail low is le = let below = low.0 in absurd (omega (arith, below, is, le))

entry_first : {T : Type 0} (p : ℕ) (o : Option T) (es : List (Entry T)) → is_some o ≡ true →
    place_first (entry_of p o es) ≡ Some p
entry_first p None es is = absurd (true≢false (sym is))
entry_first p (Some item) es is = refl

there_first : {T : Type 0} (items : List (Option T)) (x : ℕ) (l rest : List ℕ) → l ≡ x ∷ rest → AreThere items l →
    is_some (item_of items x) ≡ true
there_first items x l rest is there = (subst (AreThere items) is there).0

place_none : {T : Type 0} (es : List (Entry T)) → place_first es ≡ None → es ≡ []
place_none [] is = refl
place_none (e ∷ es) is = absurd (cc)

module _ {T : Type 0} (places last : ℕ) (next before : List ℕ) (items : List (Option T))
    (s : IsQueued places last next before items) (q : ℕ) (queue : q < length (seen places last next items).queues) where
  pub queue_low : q < length s.queues
  queue_low =
      let many = ap (λ v. length v.queues) (shown places last next before items s) in
      let same = length-map s.queues (entries_at items) in
      omega (arith, many, same, queue)

  begin_is : linked next (places + q) ≡ first_or (queue_of s.queues q ++ ring_behind places s.queues q) last
  begin_is =
      headed next (places + q) (queue_of s.queues q ++ ring_behind places s.queues q) last
      (queue_path next places last s.free s.queues q queue_low s.links.ring.forward)

  behind_high : places ≤ first_or (ring_behind places s.queues q) last
  behind_high =
      let many = s.links.many in
      let is = first_behind places s.queues q last queue_low many in omega (arith, is)

  -- the node behind a queue's last place
  pub behind_is : places + q + 1 ≡ first_or (ring_behind places s.queues q) last
  behind_is = sym (first_behind places s.queues q last queue_low s.links.many)

  pub node_low : places + q < last
  node_low = let many = s.links.many in let lt = queue_low in omega (arith, many, lt)

  pub queue_first : linked next (places + q) < places → HasFirst (linked next (places + q)) (queue_of s.queues q)
  queue_first lt =
      first_in places (linked next (places + q)) last (queue_of s.queues q) (ring_behind places s.queues q)
      (all_get places s.queues q s.links.all_below) behind_high begin_is lt

  pub queue_none : places ≤ linked next (places + q) → queue_at (seen places last next items) q ≡ []
  queue_none le =
      queue_is places last next before items s q
      ∙ ap (entries_at items)
      (none_in places (linked next (places + q)) last (queue_of s.queues q) (ring_behind places s.queues q)
      (all_get places s.queues q s.links.all_below) begin_is le)

  pub first_item : linked next (places + q) < places → is_some (item_of items (linked next (places + q))) ≡ true
  first_item lt =
      let first = queue_first lt in
      there_first items (linked next (places + q)) (queue_of s.queues q) first.rest first.is
      (places_there places last next before items s q)

  pub first_place : linked next (places + q) < places →
      place_first (queue_at (seen places last next items) q) ≡ Some (linked next (places + q))
  first_place lt =
      let first = queue_first lt in
      ap place_first (queue_is places last next before items s q ∙ ap (entries_at items) first.is)
      ∙ entry_first (linked next (places + q)) (item_of items (linked next (places + q))) (entries_at items first.rest)
      (first_item lt)

  pub first_entry : (item : T) → linked next (places + q) < places →
      item_of items (linked next (places + q)) ≡ Some item →
      slice_get (queue_at (seen places last next items) q) 0
      ≡ Some (record { place = linked next (places + q); item = item })
  first_entry item lt is =
      let first = queue_first lt in
      ap (λ es. slice_get es 0) (queue_is places last next before items s q ∙ ap (entries_at items) first.is)
      ∙ ap (λ o. slice_get (entry_of (linked next (places + q)) o (entries_at items first.rest)) 0) is

  -- an index of a queue
  at_low : (at : ℕ) → at ≤ length (queue_at (seen places last next items) q) → at ≤ length (queue_of s.queues q)
  at_low at le =
      let is = ap length (queue_is places last next before items s q) in
      let many = length-entries items (queue_of s.queues q) (places_there places last next before items s q) in
      omega (arith, le, is, many)

  pub steps_are : (k : ℕ) → k ≤ length (queue_at (seen places last next items) q) →
      steps_on next (linked next (places + q)) k
      ≡ first_or (drop k (queue_of s.queues q) ++ ring_behind places s.queues q) last
  steps_are k le =
      ap (λ n. steps_on next n k) begin_is
      ∙ behind_at next (places + q) (queue_of s.queues q) (ring_behind places s.queues q) last k (at_low k le)
      (queue_path next places last s.free s.queues q queue_low s.links.ring.forward)

  pub steps_low : (at k : ℕ) → at ≤ length (queue_at (seen places last next items) q) → k < at →
      steps_on next (linked next (places + q)) k < length next
  steps_low at k le lt =
      let low = at_low at le in
      let more = drop-cons (queue_of s.queues q) k 0 (omega (arith, low, lt)) in
      let is = steps_are k (omega (arith, le, lt))
      ∙ ap (λ l. first_or (l ++ ring_behind places s.queues q) last) more in
      let below = below_at places (queue_of s.queues q) k (omega (arith, low, lt)) (all_get places s.queues q s.links.all_below) in
      let many = s.links.many in let nodes = s.links.ring.nexts in
      omega (arith, is, below, many, nodes)

  pub inserted_is : (at x : ℕ) (item : T) →
      entries_at items (take at (queue_of s.queues q))
      ++ record { place = x; item = item } ∷ entries_at items (drop at (queue_of s.queues q))
      ≡ insert (queue_at (seen places last next items) q) at (record { place = x; item = item })
  inserted_is at x item =
      let there = places_there places last next before items s q in
      ap (λ es. es ++ record { place = x; item = item } ∷ entries_at items (drop at (queue_of s.queues q)))
      (entries-take items (queue_of s.queues q) at there)
      ∙ ap (λ es. take at (entries_at items (queue_of s.queues q)) ++ record { place = x; item = item } ∷ es)
      (entries-drop items (queue_of s.queues q) at there)
      ∙ sym (ap (λ es. insert es at (record { place = x; item = item })) (queue_is places last next before items s q))

-- the first of a queue, as it is read
module _ {T : Type 0} (places last : ℕ) (next before : List ℕ) (items : List (Option T))
    (s : IsQueued places last next before items) (q : ℕ) (queue : q < length (seen places last next items).queues)
    (x : ℕ) (read : x ≡ linked next (places + q)) where
  pub read_none : places ≤ x → queue_at (seen places last next items) q ≡ []
  read_none le = queue_none places last next before items s q queue (subst (λ k. places ≤ k) read le)

  pub read_there : x < places → is_some (item_of items x) ≡ true
  read_there lt =
      subst (λ k. is_some (item_of items k) ≡ true) (sym read)
      (first_item places last next before items s q queue (subst (λ k. k < places) read lt))

  pub read_within : x < places → x < length items
  read_within lt = let many = s.many in omega (arith, many, lt)

  pub read_first : x < places → HasFirst x (queue_of s.queues q)
  read_first lt =
      subst (λ k. HasFirst k (queue_of s.queues q)) (sym read)
      (queue_first places last next before items s q queue (subst (λ k. k < places) read lt))

  pub read_place : x < places → place_first (queue_at (seen places last next items) q) ≡ Some x
  read_place lt =
      subst (λ k. place_first (queue_at (seen places last next items) q) ≡ Some k) (sym read)
      (first_place places last next before items s q queue (subst (λ k. k < places) read lt))

  pub read_entry : (item : T) → x < places → item_of items x ≡ Some item →
      slice_get (queue_at (seen places last next items) q) 0 ≡ Some (record { place = x; item = item })
  read_entry item lt is =
      subst (λ k. slice_get (queue_at (seen places last next items) q) 0 ≡ Some (record { place = k; item = item })) (sym read)
      (first_entry places last next before items s q queue item (subst (λ k. k < places) read lt)
      (subst (λ k. item_of items k ≡ Some item) read is))

-- the second of a queue, as it is read
module _ {T : Type 0} (places last : ℕ) (next before : List ℕ) (items : List (Option T))
    (s : IsQueued places last next before items) (q : ℕ) (queue : q < length (seen places last next items).queues)
    (x y : ℕ) (read : x ≡ linked next (places + q)) (low : x < places) (more : y ≡ linked next x) where
  front_is : HasFirst x (queue_of s.queues q)
  front_is = read_first places last next before items s q queue x read low

  second_is : y ≡ first_or (front_is.rest ++ ring_behind places s.queues q) last
  second_is =
      let is = ap length (queue_is places last next before items s q) in
      let many = length-entries items (queue_of s.queues q) (places_there places last next before items s q) in
      let one = ap length front_is.is in
      more ∙ ap (linked next) read
      ∙ steps_are places last next before items s q queue 1 (omega (arith, is, many, one))
      ∙ ap (λ l. first_or (drop 1 l ++ ring_behind places s.queues q) last) front_is.is

  rest_is : drop 1 (queue_at (seen places last next items) q) ≡ entries_at items front_is.rest
  rest_is =
      ap (drop 1) (queue_is places last next before items s q)
      ∙ sym (entries-drop items (queue_of s.queues q) 1 (places_there places last next before items s q))
      ∙ ap (λ l. entries_at items (drop 1 l)) front_is.is

  rest_below : AreBelow places front_is.rest
  rest_below = (subst (AreBelow places) front_is.is (all_get places s.queues q s.links.all_below)).1

  pub second_place : y < places → place_first (drop 1 (queue_at (seen places last next items) q)) ≡ Some y
  second_place lt =
      let there = (subst (AreThere items) front_is.is (places_there places last next before items s q)).1 in
      let second = first_in places y last front_is.rest (ring_behind places s.queues q) rest_below
      (behind_high places last next before items s q queue) second_is lt in
      ap place_first rest_is ∙ ap (λ l. place_first (entries_at items l)) second.is
      ∙ entry_first y (item_of items y) (entries_at items second.rest)
      (there_first items y front_is.rest second.rest second.is there)

  pub second_none : places ≤ y → place_first (drop 1 (queue_at (seen places last next items) q)) ≡ None
  second_none le =
      ap place_first rest_is
      ∙ ap (λ l. place_first (entries_at items l))
      (none_in places y last front_is.rest (ring_behind places s.queues q) rest_below second_is le)

-- links that are read
pub last_link : {T : Type 0} (places last : ℕ) (next before : List ℕ) (items : List (Option T)) →
    IsQueued places last next before items → (x : ℕ) → x ≡ slice_index_or next last x → x ≡ linked next last
last_link places last next before items s x is =
    get_or_read next last x (let many = s.links.ring.nexts in omega (arith, many)) is 0

pub last_within : {T : Type 0} (places last : ℕ) (next before : List ℕ) (items : List (Option T)) →
    IsQueued places last next before items → last < length next
last_within places last next before items s = let many = s.links.ring.nexts in omega (arith, many)

pub begin_within : {T : Type 0} (places last : ℕ) (next before : List ℕ) (items : List (Option T)) →
    IsQueued places last next before items → (q b : ℕ) → q < length (seen places last next items).queues →
    b ≡ places + q → b < length next
begin_within places last next before items s q b queue is =
    let low = node_low places last next before items s q queue in let many = s.links.ring.nexts in
    omega (arith, low, many, is)

pub begin_link : {T : Type 0} (places last : ℕ) (next before : List ℕ) (items : List (Option T)) →
    IsQueued places last next before items → (q b x : ℕ) → q < length (seen places last next items).queues →
    b ≡ places + q → x ≡ slice_index_or next b x → x ≡ linked next (places + q)
begin_link places last next before items s q b x queue is read =
    get_or_read next b x (begin_within places last next before items s q b queue is) read 0 ∙ ap (linked next) is

-- the node at an index, as it is read
pub to_index : {T : Type 0} (places last : ℕ) (next before : List ℕ) (items : List (Option T))
    (s : IsQueued places last next before items) (q : ℕ) (queue : q < length (seen places last next items).queues)
    (at : ℕ) → at ≤ length (queue_at (seen places last next items) q) → (b x y : ℕ) → b ≡ places + q →
    x ≡ slice_index_or next b x → y ≡ steps_on next x at →
    y ≡ first_or (drop at (queue_of s.queues q) ++ ring_behind places s.queues q) last
to_index places last next before items s q queue at le b x y is read to =
    to ∙ ap (λ n. steps_on next n at) (begin_link places last next before items s q b x queue is read)
    ∙ steps_are places last next before items s q queue at le

-- another item comes to a place
put_here : {T : Type 0} (x n : ℕ) (o : Option T) (item : T) (es : List (Entry T)) → (n == x) ≡ true → is_some o ≡ true →
    record { place = n; item = item } ∷ map (item_put x item) es ≡ map (item_put x item) (entry_of n o es)
put_here x n None item es is some = absurd (true≢false (sym some))
put_here x n (Some old) item es is some =
    sym (ap (λ b. cond b (record { place = n; item = item }) (record { place = n; item = old }) ∷ map (item_put x item) es) is)

put_else : {T : Type 0} (x n : ℕ) (o : Option T) (item : T) (es : List (Entry T)) → (n == x) ≡ false →
    entry_of n o (map (item_put x item) es) ≡ map (item_put x item) (entry_of n o es)
put_else x n None item es is = refl
put_else x n (Some old) item es is =
    sym (ap (λ b. cond b (record { place = n; item = item }) (record { place = n; item = old }) ∷ map (item_put x item) es) is)

entries-item : {T : Type 0} (items : List (Option T)) (x : ℕ) (item : T) (l : List ℕ) → x < length items →
    is_some (item_of items x) ≡ true →
    entries_at (slice_set items x (Some item)) l ≡ map (item_put x item) (entries_at items l)
entries-item items x item [] within some = refl
entries-item items x item (n ∷ l) within some =
    let rest = entries-item items x item l within some in
    ⊎_elim
    (λ (t : (eqb n x ≡ true) × (n ≡ x)).
    ap (λ o. entry_of n o (entries_at (slice_set items x (Some item)) l))
    (item_here items x n (Some item) within (sym t.1))
    ∙ ap (λ es. record { place = n; item = item } ∷ es) rest
    ∙ put_here x n (item_of items n) item (entries_at items l) t.0 (ap (λ k. is_some (item_of items k)) t.1 ∙ some))
    (λ (t : (eqb n x ≡ false) × (n ≢ x)).
    ap (λ o. entry_of n o (entries_at (slice_set items x (Some item)) l))
    (item_else items x n (Some item) (λ is. t.1 (sym is)))
    ∙ ap (entry_of n (item_of items n)) rest
    ∙ put_else x n (item_of items n) item (entries_at items l) t.0)
    (eqb_tells n x)

all-item : {T : Type 0} (items : List (Option T)) (x : ℕ) (item : T) (queues : List (List ℕ)) → x < length items →
    is_some (item_of items x) ≡ true →
    map (entries_at (slice_set items x (Some item))) queues ≡ map (map (item_put x item)) (map (entries_at items) queues)
all-item items x item [] within some = refl
all-item items x item (l ∷ queues) within some =
    ap (λ es. es ∷ map (entries_at (slice_set items x (Some item))) queues) (entries-item items x item l within some)
    ∙ ap (λ r. map (item_put x item) (entries_at items l) ∷ r) (all-item items x item queues within some)

module _ {T : Type 0} (places last : ℕ) (next before : List ℕ) (items : List (Option T))
    (s : IsQueued places last next before items) (x : ℕ) (item : T) (is : is_some (item_of items x) ≡ true) where
  pub item_within : x < length items
  item_within = let many = s.many in let low = (there_at places last next before items s x is).low in omega (arith, many, low)

  pub replaced_queued : IsQueued places last next before (slice_set items x (Some item))
  replaced_queued =
      let not_free = (there_at places last next before items s x is).not_free in
      record {
        free = s.free;
        queues = s.queues;
        links = s.links;
        many = length-set items x (Some item) ∙ s.many;
        empty = λ n low.
            ⊎_elim
            (λ (t : (eqb x n ≡ true) × (x ≡ n)).
            subst (λ k. times k s.free ≡ 0) t.1 not_free
            ∙ sym (ap (λ o. one_if (not (is_some o))) (item_here items x n (Some item) item_within t.1)))
            (λ (t : (eqb x n ≡ false) × (x ≢ n)).
            s.empty n low ∙ sym (ap (λ o. one_if (not (is_some o))) (item_else items x n (Some item) t.1)))
            (eqb_tells x n);
      }

  pub replaced_seen : seen places last next (slice_set items x (Some item))
      ≡ with_item x item (seen places last next items)
  replaced_seen =
      seen_linked places last next before s.free s.queues (slice_set items x (Some item)) s.links
      ∙ ap (λ qs. record { queues = qs; room = length s.free; places = places }) (all-item items x item s.queues item_within is)
      ∙ sym (ap (with_item x item) (shown places last next before items s))

-- where all queues are empty nothing is at any place
none_at : {T : Type 0} (n : ℕ) (queues : List (List (Entry T))) → ((q : ℕ) → slice_index_or queues q [] ≡ []) →
    found n queues ≡ None
none_at n [] empty = refl
none_at n (l ∷ queues) empty =
    ap (λ es. first_of (found_in n es) (found n queues)) (empty 0) ∙ none_at n queues (λ q. empty (suc q))

pub all_empty : {T : Type 0} (places last : ℕ) (next before : List ℕ) (items : List (Option T)) →
    IsQueued places last next before items → ((q : ℕ) → queue_at (seen places last next items) q ≡ []) →
    (n : ℕ) → item_of items n ≡ None
all_empty places last next before items s empty n =
    sym (item_is places last next before items s n) ∙ none_at n (seen places last next items).queues empty
