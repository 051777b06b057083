-- What the collecting task found, put into the order of places, is the order of the members.
use Rattle.std.proofs.Common.{◌≡◌, ◌≢◌, ℕ, zero, suc, ◌+◌, ◌<◌, ◌≤◌, List, [], ◌∷◌, Option, Some, None, inl, inr, length, get_or, map, refl, sym, ap, subst, ◌∙◌, arith}
use Rattle.std.specs.Prelude.{Contains, slice_get, sum_by, ◌==◌}
use Rattle.std.specs.List.Sorted.{IsNonDecreasingBy, IsPermutation}
use Rattle.std.specs.Option.{option_map}
use Rattle.std.proofs.lemmas.Bool.{cases_eq, cases_lt, eq-eqb, ne_eqb}
use Rattle.std.proofs.lemmas.List.{length-map}
use Rattle.std.proofs.lemmas.List.Sorted.{Contains-permutation, IsPermutation-map, IsPermutation-sym, length_permutation, sum_by-IsPermutation}
use Rattle.std.proofs.lemmas.List.Sums.{get_or-le-sum_by, sum_by-cons}
use Rattle.std.proofs.lemmas.Option.{get_or_from_slice_get, slice_get-map, slice_get_within}
use Rattle.asio_types.specs.declared.event.Event.{Event}
use Rattle.asio_types.specs.declared.event.Event.TheVariants as event
use Rattle.session_script.specs.Script.{ScriptModel}
use Rattle.lane_logs.specs.declared.receipt.Receipt.{Receipt}
use Rattle.history_merge.specs.Receipts.{AreOfOneLane, HoldsIn}
use Rattle.history_merge.proofs.AlikeLemmas.{never}
use Rattle.op_future.specs.Sessions.{AreInOrder}
use Rattle.reactor_turns.proofs.SummingLemmas.{one_if}
use Rattle.parallel_group.specs.Collecting.{Collected, receipt_in}
use Rattle.parallel_group.specs.Members.{Completes, member_ops}
use Rattle.parallel_group.specs.Orders.{CompletedAt, CompletesEarlier, IsOrderOf, MemberDone, member_of}
use Rattle.parallel_group.specs.Placed.{done_in}
use Rattle.parallel_group.proofs.ElementLemmas.{at_contains, contains_at, not_past, of_elem, some_same}
use Rattle.parallel_group.proofs.MemberLemmas.{IsMemberOp, members_apart}

abbrev number_of : Collected → ℕ
number_of one = one.member

-- a number that stands once in a list of what was found doesn't stand twice in another order of it
twice : (f : Collected → ℕ) (xs : List Collected) (i j : ℕ) (one other : Collected) → i < j →
    slice_get xs i ≡ Some one → slice_get xs j ≡ Some other → f one ≡ 1 → f other ≡ 1 → 2 ≤ sum_by f xs
twice f [] i j one other less here there first second = absurd (cc)
twice f (x ∷ xs) zero zero one other less here there first second = absurd (omega (arith, less))
twice f (x ∷ xs) zero (suc j) one other less here there first second =
    let same : x ≡ one = cc in
    let counts : f x ≡ 1 = ap f same ∙ first in
    let within = slice_get_within xs j other there in
    let at : f (get_or xs j other) ≡ 1 = ap f (get_or_from_slice_get xs j other other there) ∙ second in
    let rest = get_or-le-sum_by f xs j other within in
    let both = sum_by-cons f x xs in
    omega (arith, counts, at, rest, both)
twice f (x ∷ xs) (suc i) zero one other less here there first second = absurd (omega (arith, less))
twice f (x ∷ xs) (suc i) (suc j) one other less here there first second =
    let rest = twice f xs i j one other (omega (arith, less)) here there first second in
    let both = sum_by-cons f x xs in
    omega (arith, rest, both)

abbrev is_number : ℕ → Collected → ℕ
is_number m one = one_if (one.member == m)

-- the members of a list are numbered from here on
abbrev AreNumbered : ℕ → List Collected → Type 0
AreNumbered from xs = (k : ℕ) (one : Collected) → slice_get xs k ≡ Some one → one.member ≡ from + k

numbered_later : (from : ℕ) (x : Collected) (xs : List Collected) → AreNumbered from (x ∷ xs) → AreNumbered (from + 1) xs
numbered_later from x xs are k one there = let is = are (suc k) one there in omega (arith, is)

none_before : (m from : ℕ) (xs : List Collected) → m < from → AreNumbered from xs → sum_by (is_number m) xs ≡ 0
none_before m from [] less are = refl
none_before m from (x ∷ xs) less are =
    let rest = none_before m (from + 1) xs (omega (arith, less)) (numbered_later from x xs are) in
    let own = are 0 x refl in
    let isnt : is_number m x ≡ 0 = ap one_if (ne_eqb x.member m (λ same. omega (arith, own, less, same))) in
    let both = sum_by-cons (is_number m) x xs in
    omega (arith, rest, isnt, both)

at_most_once : (m from : ℕ) (xs : List Collected) → AreNumbered from xs → sum_by (is_number m) xs ≤ 1
at_most_once m from [] are = omega arith
at_most_once m from (x ∷ xs) are = elim (cases_eq x.member m) [
  | inl same ↦
      (let own = are 0 x refl in
      let rest = none_before m (from + 1) xs (omega (arith, own, same)) (numbered_later from x xs are) in
      let is : is_number m x ≡ 1 = ap one_if (eq-eqb x.member m same) in
      let both = sum_by-cons (is_number m) x xs in
      omega (arith, rest, is, both))
  | inr other ↦
      (let rest = at_most_once m (from + 1) xs (numbered_later from x xs are) in
      let isnt : is_number m x ≡ 0 = ap one_if (ne_eqb x.member m other) in
      let both = sum_by-cons (is_number m) x xs in
      omega (arith, rest, isnt, both))
]

numbers_are : (xs : List Collected) → map member_of (map done_in xs) ≡ map number_of xs
numbers_are [] = refl
numbers_are (x ∷ xs) = ap (λ numbers. x.member ∷ numbers) (numbers_are xs)

module _ (script : ScriptModel) (events : List Event) (found : List Collected)
    (each : (k : ℕ) (one : Collected) → slice_get found k ≡ Some one →
    (one.member ≡ k) × (slice_get (member_ops script) k ≡ Some one.receipt.op))
    (known : (k op : ℕ) → slice_get (member_ops script) k ≡ Some op → IsMemberOp script op)
    (hold : (receipt : Receipt) → Contains (map receipt_in found) receipt → HoldsIn script events receipt)
    (in_turn : (one other : Receipt) → Contains (map receipt_in found) one → Contains (map receipt_in found) other →
    AreOfOneLane script one other → AreInOrder script events one other)
    (missing : (op : ℕ) → slice_get (member_ops script) (length found) ≡ Some op → Completes events op → ⊥)
    (sorted : List Collected) (same : IsPermutation found sorted)
    (rises : IsNonDecreasingBy (λ one. one.receipt.place) sorted) where
  -- what is known of what stands in the order
  record IsFound (one : Collected) : Type 0 where
    pub its : slice_get (member_ops script) one.member ≡ Some one.receipt.op
    pub there : Contains (map receipt_in found) one.receipt
    pub number : one.member < length found

  found_at : (k : ℕ) (one : Collected) → slice_get found k ≡ Some one → IsFound one
  found_at k one there =
      let own = each k one there in
      record {
        its = ap (slice_get (member_ops script)) own.0 ∙ own.1;
        there = at_contains (map receipt_in found) k one.receipt
            (slice_get-map receipt_in found k ∙ ap (option_map receipt_in) there);
        number = let within = slice_get_within found k one there in omega (arith, within, own.0);
      }

  sorted_found : (i : ℕ) (one : Collected) → slice_get sorted i ≡ Some one → IsFound one
  sorted_found i one there =
      let back = contains_at found one
      (Contains-permutation sorted found one (IsPermutation-sym found sorted same) (at_contains sorted i one there)) in
      found_at back.0 one back.1

  completed_one : (one : Collected) → IsFound one → (at : ℕ) × CompletedAt script events (done_in one) at
  completed_one one is = elim (hold one.receipt is.there) [
    | inl done ↦ (done.at, record { op = one.receipt.op; its = is.its; there = of_elem events done.at _ done.there })
    | inr posted ↦
        absurd (never _ (known one.member one.receipt.op is.its).asynchronous posted.posting)
  ]

  numbered : AreNumbered 0 found
  numbered k one there = let own = each k one there in omega (arith, own.0)

  members_differ : (i j : ℕ) (one other : Collected) → i < j → slice_get sorted i ≡ Some one →
      slice_get sorted j ≡ Some other → one.member ≢ other.member
  members_differ i j one other less here there same_member =
      let two = twice (is_number one.member) sorted i j one other less here there
      (ap one_if (eq-eqb one.member one.member refl)) (ap one_if (eq-eqb other.member one.member (sym same_member))) in
      let once = at_most_once one.member 0 found numbered in
      let all = sum_by-IsPermutation (is_number one.member) found sorted same in
      absurd (omega (arith, two, once, all))

  ops_differ : (one other : Collected) → IsFound one → IsFound other → one.member ≢ other.member →
      one.receipt.op ≢ other.receipt.op
  ops_differ one other first second apart same_op = elim (cases_lt one.member other.member) [
    | inl less ↦
        (let wrong = members_apart script one.member other.member one.receipt.op other.receipt.op less first.its second.its in
        absurd (omega (arith, wrong, same_op)))
    | inr rest ↦ elim (cases_lt other.member one.member) [
      | inl less ↦
          (let wrong = members_apart script other.member one.member other.receipt.op one.receipt.op less second.its first.its in
          absurd (omega (arith, wrong, same_op)))
      | inr also ↦ absurd (apart (omega (arith, rest, also)))
    ]
  ]

  earlier : (i j : ℕ) (one other : Collected) → i < j → slice_get sorted i ≡ Some one →
      slice_get sorted j ≡ Some other → CompletesEarlier script events (done_in one) (done_in other)
  earlier i j one other less here there =
      let first = sorted_found i one here in
      let second = sorted_found j other there in
      let of_one = known one.member one.receipt.op first.its in
      let of_other = known other.member other.receipt.op second.its in
      let lane : AreOfOneLane script one.receipt other.receipt = record {
        differ = ops_differ one other first second (members_differ i j one other less here there);
        asynchronous = of_one.asynchronous;
        other_too = of_other.asynchronous;
        lane = of_one.strand ∙ sym of_other.strand;
      } in
      let turn = in_turn one.receipt other.receipt first.there second.there lane in
      let at_most = rises i j one (omega (arith, less)) (slice_get_within sorted j other there) in
      let place_i : (get_or sorted i one).receipt.place ≡ one.receipt.place =
      ap (λ (each : Collected). each.receipt.place) (get_or_from_slice_get sorted i one one here) in
      let place_j : (get_or sorted j one).receipt.place ≡ other.receipt.place =
      ap (λ (each : Collected). each.receipt.place) (get_or_from_slice_get sorted j other one there) in
      let apart = turn.apart in
      let before : one.receipt.place < other.receipt.place = below one.receipt.place other.receipt.place
      (omega (arith, at_most, place_i, place_j)) apart in
      let is = turn.order before in
      record {
        at = is.at;
        later = is.later;
        before = is.before;
        there = record { op = one.receipt.op; its = first.its; there = of_elem events is.at _ is.there };
        then_there = record { op = other.receipt.op; its = second.its; there = of_elem events is.later _ is.then_there };
      }
    where
      below : (a b : ℕ) → a ≤ b → a ≢ b → a < b
      below a b most apart = elim (cases_lt a b) [
        | inl less ↦ less
        | inr rest ↦ absurd (apart (omega (arith, most, rest)))
      ]

  -- an element of the order is one of what was sorted
  done_at : (i : ℕ) (one : MemberDone) → slice_get (map done_in sorted) i ≡ Some one →
      (from : Collected) × (slice_get sorted i ≡ Some from) × (done_in from ≡ one)
  done_at i one there = by_get (slice_get sorted i) refl
    where
      by_get : (got : Option Collected) → slice_get sorted i ≡ got →
          (from : Collected) × (slice_get sorted i ≡ Some from) × (done_in from ≡ one)
      by_get None is =
          absurd (let none : None ≡ Some one = sym (slice_get-map done_in sorted i ∙ ap (option_map done_in) is) ∙ there in cc)
      by_get (Some from) is = (
        from,
        is,
        some_same (done_in from) one (sym (slice_get-map done_in sorted i ∙ ap (option_map done_in) is) ∙ there),
      )

  completes_below : (k op : ℕ) → k < length found → slice_get (member_ops script) k ≡ Some op → Completes events op
  completes_below k op within is = by_get (slice_get found k) refl
    where
      by_get : (got : Option Collected) → slice_get found k ≡ got → Completes events op
      by_get None none = absurd (not_past found k none within)
      by_get (Some one) there =
          let own = each k one there in
          let completed = completed_one one (found_at k one there) in
          let same_op : one.receipt.op ≡ op = some_same one.receipt.op op (sym own.1 ∙ is) in
          let its : completed.1.op ≡ one.receipt.op =
          some_same completed.1.op one.receipt.op (sym completed.1.its ∙ (found_at k one there).its) in (
            one.receipt.code,
            one.receipt.size,
            at_contains events completed.0 _
                (completed.1.there ∙ ap (λ o. Some (event.Done o one.receipt.code one.receipt.size)) (its ∙ same_op)),
          )

  member_stands : (k : ℕ) → k < length found → Contains (map member_of (map done_in sorted)) k
  member_stands k within =
      subst (λ (xs : List ℕ). Contains xs k) (sym (numbers_are sorted))
      (Contains-permutation (map number_of found) (map number_of sorted) k (IsPermutation-map number_of found sorted same)
      (at_contains (map number_of found) k k (by_get (slice_get found k) refl)))
    where
      by_get : (got : Option Collected) → slice_get found k ≡ got → slice_get (map number_of found) k ≡ Some k
      by_get None none = absurd (not_past found k none within)
      by_get (Some one) there =
          slice_get-map number_of found k ∙ (ap (option_map number_of) there ∙ ap Some (each k one there).0)

  pub size : length (map done_in sorted) ≡ length found
  size = length-map sorted done_in ∙ length_permutation found sorted same

  pub sorted_is_order : IsOrderOf script events (map done_in sorted)
  sorted_is_order = record {
    gap = length found;
    completed = completes_below;
    missing = missing;
    all = member_stands;
    no_more = size;
    each = λ i one there.
        (let from = done_at i one there in
        let completed = completed_one from.0 (sorted_found i from.0 from.1) in
        (completed.0, subst (λ (o : MemberDone). CompletedAt script events o completed.0) from.2 completed.1));
    rising = λ i j one other less here there.
        (let first = done_at i one here in
        let second = done_at j other there in
        subst (λ (o : MemberDone). CompletesEarlier script events one o) second.2
        (subst (λ (o : MemberDone). CompletesEarlier script events o (done_in second.0)) first.2
        (earlier i j first.0 second.0 less first.1 second.1)));
  }
