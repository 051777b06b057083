-- What keeps streams as they are kept where an operation leaves, and what is the first of a side.
use Rattle.std.proofs.Common.{◌≡◌, ◌≢◌, ℕ, ◌+◌, ◌*◌, ◌<◌, ◌≤◌, Bool, true, false, not, List, [], ◌∷◌, length, get_or, set, map, ap, sym, refl, subst, ◌∙◌, ⊎_elim, inl, arith}
use Rattle.std.specs.Prelude.{◌==◌, ◌&&◌, filter, IfNone, IfSome, Option, Some, None, is_some, slice_get}
use Rattle.std.proofs.lemmas.Bool.{cases_eq, cases_lt}
use Rattle.std.proofs.lemmas.List.{get_or-map, get_or-set_same, get_or_past, length-map, set-set}
use Rattle.io_rules.specs.declared.name.Name.{Name}
use Rattle.io_rules.specs.declared.operation.Side.{Side}
use Rattle.io_rules.specs.declared.operation.Side.TheVariants as side
use Rattle.io_rules.specs.Cancelling.{same_side}
use Rattle.io_rules.specs.Completing.{others_than, search_left}
use Rattle.io_rules.specs.Serving.{first_of, with_queue}
use Rattle.io_rules.specs.State.{StreamState, new_stream, stream_at}
use Rattle.io_rules.proofs.TotalLemmas.{same}
use Rattle.io_queues.specs.Ordered.{AreApart, Each, Rises, in_order}
use Rattle.io_queues.specs.Queued.{found, found_in, others, place_first}
use Rattle.io_queues.proofs.FoundLemmas.{IsIn, apart_test, each-in, filter-place, found-in, found-in_order, in-found, in-numbered, in-queue, is_else, others-are, place_only, same_else, some_same}
use Rattle.io_queues.proofs.OrderLemmas.{apart-filter, each-both, each-filter, each-in_order, each-weaker, filter-all, filter-in_order, filter-queue, filter-same, in_order-each, rises-filter}
use Rattle.io_streams.specs.declared.pending.PendingOp.{PendingOp}
use Rattle.io_streams.specs.declared.stream.Stream.{Stream}
use Rattle.io_streams.specs.Kept.{IsOn, IsStreams, IsWhole, queue_number, state_of, states_of}
use Rattle.io_streams.specs.Pending.{Entry, IsHead, is_at, is_other, number_of, op_of, without_op}
use Rattle.io_streams.proofs.KeptLemmas.{all_three, as_many_states, as_streams, filter-numbers, map_one, only_searched, queue_within}
use Rattle.io_streams.proofs.StatesLemmas.{AreThree, no_stream, number_is, number_same, side_is, state_is, states-queue, states-set, three-set}

-- another queue's number is that of another stream
side_within : (k n : ℕ) (s : Side) → queue_number k s < n * 3 → k < n
side_within k n side.Read lt = let is = (number_is k).0 in omega (arith, lt, is)
side_within k n side.Write lt = let is = (number_is k).1 in omega (arith, lt, is)
side_within k n side.Connect lt = let is = (number_is k).2 in omega (arith, lt, is)

same_sides : (t : Side) → same_side t t ≡ true
same_sides side.Read = refl
same_sides side.Write = refl
same_sides side.Connect = refl

apart_sides : (t u : Side) → t ≢ u → same_side t u ≡ false
apart_sides side.Read side.Read ne = absurd (ne refl)
apart_sides side.Read side.Write ne = refl
apart_sides side.Read side.Connect ne = refl
apart_sides side.Write side.Read ne = refl
apart_sides side.Write side.Write ne = absurd (ne refl)
apart_sides side.Write side.Connect ne = refl
apart_sides side.Connect side.Read ne = refl
apart_sides side.Connect side.Write ne = refl
apart_sides side.Connect side.Connect ne = absurd (ne refl)

and_false : (b : Bool) → (b && false) ≡ false
and_false true = refl
and_false false = refl

at_test : {T : Type 0} (place : ℕ) (s : Side) (op : Entry (PendingOp T)) → op.item.stream.place ≡ place →
    op.item.side ≡ s → is_at place s op ≡ true
at_test place s op k t =
    ap (λ n. (n == place) && same_side op.item.side s) k ∙ ap (λ b. b && same_side op.item.side s) (same place)
    ∙ ap (λ u. same_side u s) t ∙ same_sides s

at_none : {T : Type 0} (place : ℕ) (s : Side) (op : Entry (PendingOp T)) →
    (op.item.stream.place ≡ place → op.item.side ≡ s → ⊥) → is_at place s op ≡ false
at_none place s op ne = ⊎_elim
    (λ (k : op.item.stream.place ≡ place).
    ap (λ b. (op.item.stream.place == place) && b) (apart_sides op.item.side s (ne k))
    ∙ and_false (op.item.stream.place == place))
    (λ (other : op.item.stream.place ≢ place).
    ap (λ b. b && same_side op.item.side s) (apart_test op.item.stream.place place other))
    (cases_eq op.item.stream.place place)

-- a stream in which one side is another, and what was searched
left_state : {T : Type 0} (ss : List Stream) (qs : List (List (Entry (PendingOp T)))) (p : ℕ) (s : Side)
    (q : List (Entry (PendingOp T))) (op : ℕ) → AreThree ss qs → p < length (states_of ss qs) →
    (st : StreamState) → get_or (states_of ss qs) p new_stream ≡ st →
    states_of (set ss p (record (get_or ss p no_stream) { searched = (search_left s op st).searched }))
    (set qs (queue_number p s) q)
    ≡ set (states_of ss qs) p (with_queue s (map number_of q) (search_left s op st))
left_state ss qs p s q op three within st is =
    let new : Stream = record (get_or ss p no_stream) { searched = (search_left s op st).searched } in
    let r : List (Entry (PendingOp _)) = get_or qs (queue_number p side.Read) [] in
    let w : List (Entry (PendingOp _)) = get_or qs (queue_number p side.Write) [] in
    let c : List (Entry (PendingOp _)) = get_or qs (queue_number p side.Connect) [] in
    let seen = states-set ss qs p new three in
    let state : state_of new r w c ≡ search_left s op st =
    ap (λ (u : StreamState). record u { searched = (search_left s op st).searched })
    (sym (state_is ss qs p three) ∙ is) ∙ sym (only_searched s op st) in
    states-queue (set ss p new) qs p s q (three-set ss qs p new three)
    ∙ ap (λ l. set l p (with_queue s (map number_of q) (get_or l p new_stream))) seen
    ∙ ap (λ u. set (set (states_of ss qs) p (state_of new r w c)) p (with_queue s (map number_of q) u))
    (get_or-set_same (states_of ss qs) p (state_of new r w c) new_stream within)
    ∙ set-set (states_of ss qs) p (state_of new r w c) (with_queue s (map number_of q) (state_of new r w c))
    ∙ ap (λ u. set (states_of ss qs) p (with_queue s (map number_of q) u)) state

module _ {T : Type 0} (ss : List Stream) (qs : List (List (Entry (PendingOp T)))) (kept : IsStreams ss qs) where
  -- each operation is on a stream that is there
  pub all_within : Each (λ op. op.item.stream.place < length ss) (in_order op_of qs)
  all_within = each-in_order op_of (λ op. op.item.stream.place < length ss) qs (λ k. within_at k)
    where
      within_at : (k : ℕ) → Each (λ op. op.item.stream.place < length ss) (get_or qs k [])
      within_at k = ⊎_elim
          (λ (lt : k < length qs).
          each-weaker (IsOn k) (λ op. op.item.stream.place < length ss) (get_or qs k [])
          (λ op on. let many = kept.as_many in
          side_within op.item.stream.place (length ss) op.item.side (omega (arith, on, lt, many))) (kept.own k))
          (λ (le : length qs ≤ k).
          subst (Each (λ op. op.item.stream.place < length ss)) (sym (get_or_past qs k [] le)) tt)
          (cases_lt k (length qs))

  pub op_within : (w : Entry (PendingOp T)) → IsIn w (in_order op_of qs) → w.item.stream.place < length ss
  op_within w there = each-in (λ op. op.item.stream.place < length ss) w (in_order op_of qs) all_within there

  -- what was at a place of the queues
  pub taken_found : (place : ℕ) (it : PendingOp T) → found place qs ≡ Some it →
      found_in place (in_order op_of qs) ≡ Some it
  taken_found place it is = found-in_order op_of place qs kept.apart ∙ is

  pub taken_there : (place : ℕ) (it : PendingOp T) → found place qs ≡ Some it →
      IsIn (record { place = place; item = it }) (in_order op_of qs)
  taken_there place it is = found-in place it (in_order op_of qs) (taken_found place it is)

  pub found_within : (place : ℕ) (it : PendingOp T) → found_in place (in_order op_of qs) ≡ Some it →
      it.stream.place < length ss
  found_within place it is =
      op_within (record { place = place; item = it }) (found-in place it (in_order op_of qs) is)

  -- what was at a place of the queues is there
  pub there_queued : (place : ℕ) → is_some (found_in place (in_order op_of qs)) ≡ true → is_some (found place qs) ≡ true
  there_queued place is = subst (λ o. is_some o ≡ true) (found-in_order op_of place qs kept.apart) is

  -- the operations of a side are those of its queue
  pub side_ops : (place : ℕ) (s : Side) →
      filter (is_at place s) (in_order op_of qs) ≡ get_or qs (queue_number place s) []
  side_ops place s =
      filter-queue op_of (is_at place s) qs (queue_number place s) kept.rises (kept.each_rises (queue_number place s))
      (each-weaker (IsOn (queue_number place s)) (λ op. is_at place s op ≡ true) (get_or qs (queue_number place s) [])
      (λ op on. let both = number_same op.item.stream.place place op.item.side s on in at_test place s op both.0 both.1)
      (kept.own (queue_number place s)))
      (λ j ne. each-weaker (IsOn j) (λ op. is_at place s op ≡ false) (get_or qs j [])
      (λ op on. at_none place s op (λ k t. ne (sym on ∙ ap (λ n. queue_number n op.item.side) k ∙ ap (queue_number place) t)))
      (kept.own j))

  -- what holds of all streams
  pub whole : (room : ℕ) → IsWhole (as_streams ss qs room)
  whole room = record {
    rises = kept.rises;
    apart = kept.apart;
    within = subst (λ n. Each (λ op. op.item.stream.place < n) (in_order op_of qs)) (sym (as_many_states ss qs kept)) all_within;
    sides = λ name s.
        side_is ss qs name.place s (all_three ss qs kept) ∙ ap (map number_of) (sym (side_ops name.place s));
  }

  -- an operation leaves
  module _ (w : Entry (PendingOp T)) (there : IsIn w (in_order op_of qs)) where
    ops_left : in_order op_of (map (others w.place) qs) ≡ filter (is_other (number_of w)) (in_order op_of qs)
    ops_left =
        filter-in_order op_of (is_else w.place) (others w.place) (others-are w.place) qs kept.rises
        ∙ filter-place op_of w (in_order op_of qs) kept.apart kept.rises there

    queue_left : (j : ℕ) → get_or (map (others w.place) qs) j [] ≡ filter (is_else w.place) (get_or qs j [])
    queue_left j = ⊎_elim
        (λ (lt : j < length qs).
        get_or-map (others w.place) qs j [] [] lt ∙ others-are w.place (get_or qs j []))
        (λ (le : length qs ≤ j).
        let many = length-map qs (others w.place) in
        get_or_past (map (others w.place) qs) j [] (omega (arith, le, many))
        ∙ sym (ap (filter (is_else w.place)) (get_or_past qs j [] le)))
        (cases_lt j (length qs))

    else_there : (j : ℕ) → j ≢ queue_number w.item.stream.place w.item.side →
        Each (λ x. is_else w.place x ≡ true) (get_or qs j [])
    else_there j ne =
        each-both (IsOn j) (λ x. x.place ≡ w.place → x ≡ w)
        (λ x. is_else w.place x ≡ true) (get_or qs j [])
        (λ x on only. ap not (apart_test x.place w.place
        (λ at. ne (sym on ∙ ap (λ (v : Entry (PendingOp T)). queue_number v.item.stream.place v.item.side) (only at)))))
        (kept.own j)
        (in_order-each op_of (λ x. x.place ≡ w.place → x ≡ w) qs j
        (place_only w (in_order op_of qs) kept.apart there))

    queues_left : map (others w.place) qs ≡ set qs (queue_number w.item.stream.place w.item.side)
        (others w.place (get_or qs (queue_number w.item.stream.place w.item.side) []))
    queues_left =
        let many = kept.as_many in
        map_one (others w.place) qs (queue_number w.item.stream.place w.item.side) []
        (queue_in (op_within w there))
        (λ j ne. others-are w.place (get_or qs j []) ∙ filter-all (is_else w.place) (get_or qs j []) (else_there j ne))
        refl
      where
        queue_in : w.item.stream.place < length ss → queue_number w.item.stream.place w.item.side < length qs
        queue_in lt = queue_within ss qs kept w.item.stream.place w.item.side lt

    numbers_left : map number_of (others w.place (get_or qs (queue_number w.item.stream.place w.item.side) []))
        ≡ others_than (number_of w) (map number_of (get_or qs (queue_number w.item.stream.place w.item.side) []))
    numbers_left =
        let q : List (Entry (PendingOp T)) = get_or qs (queue_number w.item.stream.place w.item.side) [] in
        ap (map number_of) (others-are w.place q
        ∙ filter-same (is_else w.place) (is_other (number_of w)) q
        (in_order-each op_of (λ x. is_else w.place x ≡ is_other (number_of w) x) qs
        (queue_number w.item.stream.place w.item.side)
        (same_else op_of w (in_order op_of qs) kept.apart kept.rises there)))
        ∙ filter-numbers (number_of w) q

    pub left_kept : IsStreams ss (map (others w.place) qs)
    left_kept = record {
      as_many = length-map qs (others w.place) ∙ kept.as_many;
      small = kept.small;
      rises = subst (Rises op_of) (sym ops_left)
          (rises-filter op_of (is_other (number_of w)) (in_order op_of qs) kept.rises);
      apart = subst AreApart (sym ops_left) (apart-filter (is_other (number_of w)) (in_order op_of qs) kept.apart);
      each_rises = λ j. subst (Rises op_of) (sym (queue_left j))
          (rises-filter op_of (is_else w.place) (get_or qs j []) (kept.each_rises j));
      own = λ j. subst (Each (IsOn j)) (sym (queue_left j))
          (each-filter (IsOn j) (is_else w.place) (get_or qs j []) (kept.own j));
    }

    pub left_seen : (room : ℕ) →
        as_streams (set ss w.item.stream.place (record (get_or ss w.item.stream.place no_stream)
        { searched = (search_left w.item.side (number_of w) (stream_at (states_of ss qs) w.item.stream)).searched }))
        (map (others w.place) qs) (room + 1)
        ≡ without_op w.item (as_streams ss qs room)
    left_seen room =
        let p : ℕ = w.item.stream.place in
        let st : StreamState = stream_at (states_of ss qs) w.item.stream in
        let s : Side = w.item.side in
        let new : Stream = record (get_or ss p no_stream) { searched = (search_left s (number_of w) st).searched } in
        let long = as_many_states ss qs kept in
        let within = op_within w there in
        ap (λ l. record { streams = states_of (set ss p new) (map (others w.place) qs); ops = l; room = room + 1 }) ops_left
        ∙ ap (λ l. record { streams = l; ops = filter (is_other (number_of w)) (in_order op_of qs); room = room + 1 })
        (ap (states_of (set ss p new)) queues_left
        ∙ left_state ss qs p s (others w.place (get_or qs (queue_number p s) [])) (number_of w) (all_three ss qs kept)
        (omega (arith, long, within)) st refl
        ∙ ap (λ l. set (states_of ss qs) p (with_queue s l (search_left s (number_of w) st)))
        (numbers_left ∙ ap (others_than (number_of w)) (sym (side_is ss qs p s (all_three ss qs kept)))))

  -- the first of a queue
  first_entry : (q : List (Entry (PendingOp T))) (place : ℕ) → place_first q ≡ Some place →
      (w : Entry (PendingOp T)) × (IsIn w q) × (w.place ≡ place) × (slice_get (map number_of q) 0 ≡ Some (number_of w))
  first_entry [] place is = absurd (cc)
  first_entry (w ∷ q) place is = (w, inl refl, some_same w.place place is, refl)

  first_found : (k place : ℕ) → place_first (get_or qs k []) ≡ Some place →
      (w : Entry (PendingOp T)) × (IsIn w (in_order op_of qs)) × (IsOn k w)
      × (found_in place (in_order op_of qs) ≡ Some w.item)
      × (slice_get (map number_of (get_or qs k [])) 0 ≡ Some (number_of w))
  first_found k place is =
      let first = first_entry (get_or qs k []) place is in
      let there = in-queue op_of first.0 qs k first.1 in (
        first.0,
        there,
        each-in (IsOn k) first.0 (get_or qs k []) (kept.own k) first.1,
        subst (λ p. found_in p (in_order op_of qs) ≡ Some first.0.item) first.2
            (in-found first.0 (in_order op_of qs) kept.apart there),
        first.3,
      )

  pub first_there : (k : ℕ) (o : Option ℕ) → o ≡ place_first (get_or qs k []) →
      IfSome o (λ place. is_some (found_in place (in_order op_of qs)) ≡ true)
  first_there k None is = tt
  first_there k (Some place) is =
      let first = first_found k place (sym is) in subst (λ o. is_some o ≡ true) (sym first.3) refl

  pub first_head : (name : Name) (s : Side) (room : ℕ) (o : Option ℕ) →
      o ≡ place_first (get_or qs (queue_number name.place s) []) →
      IfSome o (λ place. (op : PendingOp T) → found_in place (in_order op_of qs) ≡ Some op →
      IsHead name s (as_streams ss qs room) op)
  first_head name s room None is = tt
  first_head name s room (Some place) is = λ op found.
      let first = first_found (queue_number name.place s) place (sym is) in
      let it : first.0.item ≡ op = some_same first.0.item op (sym first.3 ∙ found) in
      let on = number_same first.0.item.stream.place name.place first.0.item.side s first.2 in
      subst (IsHead name s (as_streams ss qs room)) it
      (record {
        first = ap (λ l. slice_get l 0) (side_is ss qs name.place s (all_three ss qs kept)) ∙ first.4;
        numbered = in-numbered op_of first.0 (in_order op_of qs) kept.rises first.1;
        place = on.0;
        on = on.1;
      })

  pub first_isnt : (name : Name) (s : Side) (o : Option ℕ) →
      o ≡ place_first (get_or qs (queue_number name.place s) []) →
      IfNone o (first_of s (stream_at (states_of ss qs) name) ≡ None)
  first_isnt name s None is =
      ap (λ l. slice_get l 0) (side_is ss qs name.place s (all_three ss qs kept))
      ∙ none_first (get_or qs (queue_number name.place s) []) (sym is)
    where
      none_first : (q : List (Entry (PendingOp T))) → place_first q ≡ None → slice_get (map number_of q) 0 ≡ None
      none_first [] is = refl
      none_first (x ∷ q) is = absurd (cc)
  first_isnt name s (Some place) is = tt
