-- What keeps streams as they are kept where something else goes with an operation.
use Rattle.std.proofs.Common.{◌≡◌, ◌≢◌, ℕ, suc, ◌<◌, ◌≤◌, Bool, true, false, List, [], ◌∷◌, length, get_or, map, ap, sym, refl, subst, ◌∙◌, ⊎_elim, arith}
use Rattle.std.specs.Prelude.{◌==◌, cond, nat_lt, Some, if◌then◌else◌}
use Rattle.std.proofs.lemmas.Bool.{cases_lt}
use Rattle.std.proofs.lemmas.List.{get_or-map, get_or_past, length-map}
use Rattle.io_rules.proofs.StrandLemmas.{by_test}
use Rattle.io_rules.proofs.TotalLemmas.{equal}
use Rattle.io_queues.specs.Ordered.{AreApart, Each, Rises, in_order, put, put_all}
use Rattle.io_queues.specs.Queued.{found, found_in, item_put as entry_put}
use Rattle.io_queues.proofs.FoundLemmas.{found-in, found-in_order, place_only}
use Rattle.io_queues.proofs.OrderLemmas.{each-weaker, in_order-each}
use Rattle.io_streams.specs.declared.pending.PendingOp.{PendingOp}
use Rattle.io_streams.specs.declared.stream.Stream.{Stream}
use Rattle.io_streams.specs.Kept.{IsOn, IsStreams, queue_number, state_of, states_of}
use Rattle.io_streams.specs.Pending.{Entry, item_of, item_put, number_of, op_of, with_item}
use Rattle.io_streams.proofs.KeptLemmas.{all_three, as_streams}
use Rattle.io_streams.proofs.StatesLemmas.{AreThree}

-- another item keeps all else
record IsKept {T : Type 0} (x y : Entry (PendingOp T)) : Type 0 where
  number : number_of y ≡ number_of x
  place : y.place ≡ x.place
  queue : queue_number y.item.stream.place y.item.side ≡ queue_number x.item.stream.place x.item.side

put_keeps : {T : Type 0} (b : Bool) (item : T) (x : Entry (PendingOp T)) →
    IsKept x (cond b (record x { item = record x.item { item = item } }) x)
put_keeps true item x = record { number = refl; place = refl; queue = refl }
put_keeps false item x = record { number = refl; place = refl; queue = refl }

keeps : {T : Type 0} (place : ℕ) (item : T) (x : Entry (PendingOp T)) → IsKept x (item_put place item x)
keeps place item x = put_keeps (x.place == place) item x

module _ {T : Type 0} (place : ℕ) (item : T) where
  put-items : (w : Entry (PendingOp T)) (xs : List (Entry (PendingOp T))) →
      put op_of (item_put place item w) (map (item_put place item) xs) ≡ map (item_put place item) (put op_of w xs)
  put-items w [] = refl
  put-items w (x ∷ xs) =
      let numbers : nat_lt (number_of (item_put place item x)) (number_of (item_put place item w))
      ≡ nat_lt (number_of x) (number_of w) =
      ap (λ n. nat_lt n (number_of (item_put place item w))) (keeps place item x).number
      ∙ ap (nat_lt (number_of x)) (keeps place item w).number in
      by_test (nat_lt (number_of x) (number_of w))
      (λ is.
      ap (λ b. if b then item_put place item x ∷ put op_of (item_put place item w) (map (item_put place item) xs)
      else item_put place item w ∷ item_put place item x ∷ map (item_put place item) xs) (numbers ∙ is)
      ∙ ap (λ l. item_put place item x ∷ l) (put-items w xs)
      ∙ sym (ap (λ b. map (item_put place item) (if b then x ∷ put op_of w xs else w ∷ x ∷ xs)) is))
      (λ is.
      ap (λ b. if b then item_put place item x ∷ put op_of (item_put place item w) (map (item_put place item) xs)
      else item_put place item w ∷ item_put place item x ∷ map (item_put place item) xs) (numbers ∙ is)
      ∙ sym (ap (λ b. map (item_put place item) (if b then x ∷ put op_of w xs else w ∷ x ∷ xs)) is))

  put_all-items : (q base : List (Entry (PendingOp T))) →
      put_all op_of (map (item_put place item) q) (map (item_put place item) base)
      ≡ map (item_put place item) (put_all op_of q base)
  put_all-items [] base = refl
  put_all-items (x ∷ q) base =
      ap (put op_of (item_put place item x)) (put_all-items q base) ∙ put-items x (put_all op_of q base)

  in_order-items : (qs : List (List (Entry (PendingOp T)))) →
      in_order op_of (map (map (item_put place item)) qs) ≡ map (item_put place item) (in_order op_of qs)
  in_order-items [] = refl
  in_order-items (q ∷ qs) =
      ap (put_all op_of (map (item_put place item) q)) (in_order-items qs) ∙ put_all-items q (in_order op_of qs)

  each-items : (P : Entry (PendingOp T) → Type 0) → ((x : Entry (PendingOp T)) → P x → P (item_put place item x)) →
      (xs : List (Entry (PendingOp T))) → Each P xs → Each P (map (item_put place item) xs)
  each-items P to [] all = tt
  each-items P to (x ∷ xs) all = (to x all.0, each-items P to xs all.1)

  rises-items : (xs : List (Entry (PendingOp T))) → Rises op_of xs → Rises op_of (map (item_put place item) xs)
  rises-items [] rises = tt
  rises-items (x ∷ xs) rises = (
    each-items (λ y. number_of (item_put place item x) < number_of y)
        (λ y less. subst (λ n. number_of (item_put place item x) < n) (sym (keeps place item y).number) less)
        xs (subst (λ n. Each (λ y. n < number_of y) xs) (sym (keeps place item x).number) rises.0),
    rises-items xs rises.1,
  )

  apart-items : (xs : List (Entry (PendingOp T))) → AreApart xs → AreApart (map (item_put place item) xs)
  apart-items [] apart = tt
  apart-items (x ∷ xs) apart = (
    each-items (λ y. y.place ≢ (item_put place item x).place)
        (λ y ne. subst (λ n. n ≢ (item_put place item x).place) (sym (keeps place item y).place) ne)
        xs (subst (λ n. Each (λ y. y.place ≢ n) xs) (sym (keeps place item x).place) apart.0),
    apart-items xs apart.1,
  )

  numbers-items : (xs : List (Entry (PendingOp T))) → map number_of (map (item_put place item) xs) ≡ map number_of xs
  numbers-items [] = refl
  numbers-items (x ∷ xs) =
      ap (λ n. n ∷ map number_of (map (item_put place item) xs)) (keeps place item x).number
      ∙ ap (λ l. number_of x ∷ l) (numbers-items xs)

  states-items : (ss : List Stream) (qs : List (List (Entry (PendingOp T)))) → AreThree ss qs →
      states_of ss (map (map (item_put place item)) qs) ≡ states_of ss qs
  states-items [] [] three = refl
  states-items [] (q ∷ qs) three = absurd three
  states-items (s ∷ ss) [] three = absurd three
  states-items (s ∷ ss) (r ∷ []) three = absurd three
  states-items (s ∷ ss) (r ∷ w ∷ []) three = absurd three
  states-items (s ∷ ss) (r ∷ w ∷ c ∷ qs) three =
      ap (λ l. state_of s (map (item_put place item) r) (map (item_put place item) w) (map (item_put place item) c) ∷ l)
      (states-items ss qs three)
      ∙ ap (λ l. record (state_of s r (map (item_put place item) w) (map (item_put place item) c)) { reads = l }
      ∷ states_of ss qs) (numbers-items r)
      ∙ ap (λ l. record (state_of s r w (map (item_put place item) c)) { writes = l } ∷ states_of ss qs)
      (numbers-items w)
      ∙ ap (λ l. record (state_of s r w c) { connects = l } ∷ states_of ss qs) (numbers-items c)

-- an entry that is put at a place
same_put : {T : Type 0} (place : ℕ) (it : PendingOp T) (item : T) (x : Entry (PendingOp T)) →
    (x.place ≡ place → x.item ≡ it) →
    entry_put place (record it { item = item }) x ≡ item_put place item x
same_put place it item x only =
    by_test (x.place == place)
    (λ here.
    ap (λ b. cond b (record x { item = record it { item = item } }) x) here
    ∙ ap (λ (v : PendingOp _). record x { item = record v { item = item } }) (sym (only (equal x.place place here)))
    ∙ sym (ap (λ b. cond b (record x { item = record x.item { item = item } }) x) here))
    (λ other.
    ap (λ b. cond b (record x { item = record it { item = item } }) x) other
    ∙ sym (ap (λ b. cond b (record x { item = record x.item { item = item } }) x) other))

map_same : {X Y : Type 0} (f g : X → Y) (xs : List X) → Each (λ x. f x ≡ g x) xs → map f xs ≡ map g xs
map_same f g [] all = refl
map_same f g (x ∷ xs) all = ap (λ y. y ∷ map f xs) all.0 ∙ ap (λ l. g x ∷ l) (map_same f g xs all.1)

maps_same : {X Y : Type 0} (f g : X → Y) (xs : List (List X)) → ((k : ℕ) → Each (λ x. f x ≡ g x) (get_or xs k [])) →
    map (map f) xs ≡ map (map g) xs
maps_same f g [] all = refl
maps_same f g (x ∷ xs) all =
    ap (λ y. y ∷ map (map f) xs) (map_same f g x (all 0))
    ∙ ap (λ l. map g x ∷ l) (maps_same f g xs (λ k. all (suc k)))

module _ {T : Type 0} (ss : List Stream) (qs : List (List (Entry (PendingOp T)))) (kept : IsStreams ss qs)
    (place : ℕ) (it : PendingOp T) (there : found place qs ≡ Some it) (item : T) where
  puts_are : map (map (entry_put place (record it { item = item }))) qs ≡ map (map (item_put place item)) qs
  puts_are =
      let at : Entry (PendingOp T) = record { place = place; item = it } in
      let inside = found-in place it (in_order op_of qs) (found-in_order op_of place qs kept.apart ∙ there) in
      maps_same (entry_put place (record it { item = item })) (item_put place item) qs
      (λ k. in_order-each op_of (λ x. entry_put place (record it { item = item }) x ≡ item_put place item x) qs k
      (each-weaker (λ x. x.place ≡ place → x ≡ at)
      (λ x. entry_put place (record it { item = item }) x ≡ item_put place item x) (in_order op_of qs)
      (λ x only. same_put place it item x (λ here. ap (λ (v : Entry (PendingOp T)). v.item) (only here)))
      (place_only at (in_order op_of qs) kept.apart inside)))

  queue_items : (k : ℕ) →
      get_or (map (map (item_put place item)) qs) k [] ≡ map (item_put place item) (get_or qs k [])
  queue_items k = ⊎_elim
      (λ (lt : k < length qs). get_or-map (map (item_put place item)) qs k [] [] lt)
      (λ (le : length qs ≤ k).
      let many = length-map qs (map (item_put place item)) in
      get_or_past (map (map (item_put place item)) qs) k [] (omega (arith, le, many))
      ∙ sym (ap (map (item_put place item)) (get_or_past qs k [] le)))
      (cases_lt k (length qs))

  pub item_kept : IsStreams ss (map (map (entry_put place (record it { item = item }))) qs)
  item_kept =
      subst (IsStreams ss) (sym puts_are)
      (record {
        as_many = length-map qs (map (item_put place item)) ∙ kept.as_many;
        small = kept.small;
        rises = subst (Rises op_of) (sym (in_order-items place item qs)) (rises-items place item (in_order op_of qs) kept.rises);
        apart = subst AreApart (sym (in_order-items place item qs)) (apart-items place item (in_order op_of qs) kept.apart);
        each_rises = λ k. subst (Rises op_of) (sym (queue_items k)) (rises-items place item (get_or qs k []) (kept.each_rises k));
        own = λ k. subst (Each (IsOn k)) (sym (queue_items k))
            (each-items place item (IsOn k) (λ x on. (keeps place item x).queue ∙ on) (get_or qs k []) (kept.own k));
      })

  pub item_seen : (room : ℕ) →
      as_streams ss (map (map (entry_put place (record it { item = item }))) qs) room
      ≡ with_item place item (as_streams ss qs room)
  item_seen room =
      ap (λ l. as_streams ss l room) puts_are
      ∙ ap (λ l. record { streams = l; ops = in_order op_of (map (map (item_put place item)) qs); room = room })
      (states-items place item ss qs (all_three ss qs kept))
      ∙ ap (λ l. record { streams = states_of ss qs; ops = l; room = room }) (in_order-items place item qs)

pub item_found : {T : Type 0} (ss : List Stream) (qs : List (List (Entry (PendingOp T)))) → IsStreams ss qs →
    (place : ℕ) (it : PendingOp T) → found place qs ≡ Some it →
    item_of (found_in place (in_order op_of qs)) ≡ Some it.item
item_found ss qs kept place it there = ap item_of (found-in_order op_of place qs kept.apart ∙ there)
