-- What keeps timers as they are kept, where a wait comes, leaves, or an expiry is set.
use Rattle.std.proofs.Common.{◌≡◌, ◌≢◌, ℕ, zero, suc, ◌+◌, ◌-◌, ◌<◌, ◌≤◌, true, false, not, List, [], ◌∷◌, ◌++◌, length, get_or, set, map, ap, sym, refl, subst, ◌∙◌, ⊎_elim, inl, arith}
use Rattle.std.specs.Prelude.{◌==◌, filter, Option, Some, None, replicate}
use Rattle.std.proofs.lemmas.Bool.{cases_eq, cases_lt}
use Rattle.std.proofs.lemmas.List.{get_or-map, get_or-replicate, get_or-set_other, get_or-set_same, get_or_past, length-map, length-replicate, length-set, map-set}
use Rattle.io_rules.specs.declared.name.Name.{Name}
use Rattle.io_rules.specs.State.{new_timer}
use Rattle.io_rules.proofs.TotalLemmas.{same}
use Rattle.io_queues.specs.Queued.{found, found_in, others, place_first}
use Rattle.io_timers.specs.declared.first.First.{First}
use Rattle.io_timers.specs.declared.pending.PendingWait.{PendingWait}
use Rattle.io_timers.specs.Kept.{AreApart, Each, IsOn, IsTimers, Rises, first_wait, in_order}
use Rattle.io_timers.specs.Pending.{Entry, IsOnly, Timers, first_in, is_of, is_other, no_waits, number_of, timer_with, waits_on, with_expiry, with_wait, without_wait}
use Rattle.io_timers.proofs.FoundLemmas.{IsIn, apart_test, each-in, filter-place, found-in_order, in-found, in-queue, is_else, none-found, others-are, place_on}
use Rattle.io_timers.proofs.OrderLemmas.{apart-filter, apart-push, each-both, each-filter, each-push, each-in_order, each-weaker, filter-all, filter-in_order, filter-queue, filter-same, in_order-each, in_order-push, rises-filter, rises-push}

-- timers as contracts see them
abbrev pub as_timers : {T : Type 0} → List ℕ → List (List (Entry (PendingWait T))) → ℕ → Timers T
as_timers expiries queues room =
    record { timers = map timer_with expiries; waits = in_order queues; room = room }

pub no_queues : {T : Type 0} (n : ℕ) → in_order {T = T} (replicate n []) ≡ []
no_queues zero = refl
no_queues (suc n) = no_queues n

empty_queue : {T : Type 0} (n k : ℕ) → get_or {A = List (Entry (PendingWait T))} (replicate n []) k [] ≡ []
empty_queue n k = ⊎_elim
    (λ (lt : k < n). get_or-replicate n k [] [] lt)
    (λ (le : n ≤ k). get_or_past (replicate n []) k [] (subst (λ m. m ≤ k) (sym (length-replicate n [])) le))
    (cases_lt k n)

empty_leaf : (n k : ℕ) → get_or {A = Option First} (replicate n None) k None ≡ None
empty_leaf n k = ⊎_elim
    (λ (lt : k < n). get_or-replicate n k None None lt)
    (λ (le : n ≤ k). get_or_past (replicate n None) k None (subst (λ m. m ≤ k) (sym (length-replicate n None)) le))
    (cases_lt k n)

new_timers : (n : ℕ) → map timer_with (replicate n 0) ≡ replicate n new_timer
new_timers zero = refl
new_timers (suc n) = ap (λ ts. new_timer ∷ ts) (new_timers n)

-- and none is seen
pub none_seen : {T : Type 0} (n room : ℕ) → as_timers {T = T} (replicate n 0) (replicate n []) room ≡ no_waits n room
none_seen n room =
    ap (λ ts. record { timers = ts; waits = in_order (replicate n []); room = room }) (new_timers n)
    ∙ ap (λ ws. record { timers = replicate n new_timer; waits = ws; room = room }) (no_queues n)

-- no queue has a wait yet
pub none_kept : {T : Type 0} (n : ℕ) → IsTimers {T = T} (replicate n 0) (replicate n []) (replicate n None)
none_kept n = record {
  as_many = length-replicate n [] ∙ sym (length-replicate n 0);
  leaves_many = length-replicate n None ∙ sym (length-replicate n 0);
  rises = subst Rises (sym (no_queues n)) tt;
  apart = subst AreApart (sym (no_queues n)) tt;
  each_rises = λ k. subst Rises (sym (empty_queue n k)) tt;
  own = λ k. subst (Each (IsOn k)) (sym (empty_queue n k)) tt;
  firsts = λ k.
      empty_leaf n k ∙ sym (ap (first_wait k (get_or (replicate n 0) k 0)) (empty_queue n k));
}

-- what a list holds once one element is written
at_set : {X : Type 0} (P : ℕ → X → Type 0) (xs : List X) (k : ℕ) (v d : X) → k < length xs → P k v →
    ((j : ℕ) → P j (get_or xs j d)) → (j : ℕ) → P j (get_or (set xs k v) j d)
at_set P xs k v d within new old j = ⊎_elim
    (λ (e : j ≡ k).
    subst (λ i. P i (get_or (set xs k v) i d)) (sym e) (subst (P k) (sym (get_or-set_same xs k v d within)) new))
    (λ (ne : j ≢ k). subst (P j) (sym (get_or-set_other xs k j v d ne)) (old j))
    (cases_eq j k)

-- one leaf is written
set_firsts : (f : ℕ → Option First) (leaves : List (Option First)) (k : ℕ) → k < length leaves →
    ((j : ℕ) → j ≢ k → get_or leaves j None ≡ f j) → (j : ℕ) → get_or (set leaves k (f k)) j None ≡ f j
set_firsts f leaves k within old j = ⊎_elim
    (λ (e : j ≡ k).
    ap (λ i. get_or (set leaves k (f k)) i None) e ∙ get_or-set_same leaves k (f k) None within ∙ ap f (sym e))
    (λ (ne : j ≢ k). get_or-set_other leaves k j (f k) None ne ∙ old j ne)
    (cases_eq j k)

only_each : {T : Type 0} (timer : Name) (xs : List (Entry (PendingWait T))) → IsOnly timer xs →
    Each (λ x. is_of timer x ≡ (x.item.timer.place == timer.place)) xs
only_each timer [] only = tt
only_each timer (x ∷ xs) only = (sym only.0, only_each timer xs only.1)

first_at : {T : Type 0} (place : ℕ) (q : List (Entry (PendingWait T))) → place_first q ≡ Some place →
    (w : Entry (PendingWait T)) × (IsIn w q) × (w.place ≡ place) × (first_in q ≡ Some w.item)
    × ((k e : ℕ) → first_wait k e q ≡ Some (record { expiry = e; op = number_of w; timer = k }))
first_at place [] is = absurd (cc)
first_at place (w ∷ q) is = (w, inl refl, cc, refl, λ k e. refl)

none_at : {T : Type 0} (q : List (Entry (PendingWait T))) → place_first q ≡ None → first_in q ≡ None
none_at [] is = refl
none_at (w ∷ q) is = absurd (cc)

-- the first of a queue, of which only places are known
pub item_first : {T : Type 0} (k place e : ℕ) (queues : List (List (Entry (PendingWait T)))) → AreApart (in_order queues) →
    place_first (get_or queues k []) ≡ Some place →
    (item : PendingWait T) × (found place queues ≡ Some item)
    × (first_wait k e (get_or queues k []) ≡ Some (record { expiry = e; op = item.op; timer = k }))
item_first k place e queues apart is =
    let first = first_at place (get_or queues k []) is in (
      first.0.item,
      sym (found-in_order place queues apart)
          ∙ subst (λ p. found_in p (in_order queues) ≡ Some first.0.item) first.2
          (in-found first.0 (in_order queues) apart (in-queue first.0 queues k first.1)),
      first.4 k e,
    )

no_wait : {T : Type 0} (xs : List (Entry (PendingWait T))) → Each (λ x. ⊥) xs → xs ≡ []
no_wait [] all = refl
no_wait (x ∷ xs) all = absurd all.0

-- where nothing is pending each queue is empty
pub empty_queues : {T : Type 0} (queues : List (List (Entry (PendingWait T)))) → in_order queues ≡ [] → (k : ℕ) →
    get_or queues k [] ≡ []
empty_queues queues none k =
    no_wait (get_or queues k []) (in_order-each (λ x. ⊥) queues k (subst (Each (λ x. ⊥)) (sym none) tt))

module _ {T : Type 0} (expiries : List ℕ) (queues : List (List (Entry (PendingWait T)))) (leaves : List (Option First))
    (kept : IsTimers expiries queues leaves) where
  -- an expiry is set of a timer without waits
  pub expiry_kept : (k at : ℕ) → get_or queues k [] ≡ [] → IsTimers (set expiries k at) queues leaves
  expiry_kept k at none =
      let long = length-set expiries k at in
      record {
        as_many = kept.as_many ∙ sym long;
        leaves_many = kept.leaves_many ∙ sym long;
        rises = kept.rises;
        apart = kept.apart;
        each_rises = kept.each_rises;
        own = kept.own;
        firsts = λ j. ⊎_elim
            (λ (e : j ≡ k).
            let empty : get_or queues j [] ≡ [] = ap (λ i. get_or queues i []) e ∙ none in
            kept.firsts j ∙ ap (first_wait j (get_or expiries j 0)) empty
            ∙ sym (ap (first_wait j (get_or (set expiries k at) j 0)) empty))
            (λ (ne : j ≢ k).
            kept.firsts j
            ∙ ap (λ e. first_wait j e (get_or queues j [])) (sym (get_or-set_other expiries k j at 0 ne)))
            (cases_eq j k);
      }

  -- a wait comes
  module _ (k : ℕ) (w : Entry (PendingWait T)) (within : k < length expiries)
      (last : Each (λ other. number_of other < number_of w) (in_order queues))
      (free : found w.place queues ≡ None) (on : w.item.timer.place ≡ k) where
    pub free_place : found_in w.place (in_order queues) ≡ None
    free_place = found-in_order w.place queues kept.apart ∙ free

    in_queues : k < length queues
    in_queues = let many = kept.as_many in omega (arith, within, many)

    pub waits_pushed : in_order (set queues k (get_or queues k [] ++ w ∷ [])) ≡ in_order queues ++ w ∷ []
    waits_pushed = in_order-push w queues k in_queues last

    pub pushed_apart : AreApart (in_order (set queues k (get_or queues k [] ++ w ∷ [])))
    pushed_apart =
        subst AreApart (sym waits_pushed)
        (apart-push (in_order queues) w kept.apart (none-found w.place (in_order queues) free_place))

    pub wait_kept :
        IsTimers expiries (set queues k (get_or queues k [] ++ w ∷ []))
        (set leaves k (first_wait k (get_or expiries k 0) (get_or (set queues k (get_or queues k [] ++ w ∷ [])) k [])))
    wait_kept =
        let many = kept.leaves_many in
        record {
          as_many = length-set queues k (get_or queues k [] ++ w ∷ []) ∙ kept.as_many;
          leaves_many = length-set leaves k _ ∙ kept.leaves_many;
          rises = subst Rises (sym waits_pushed) (rises-push (in_order queues) w kept.rises last);
          apart = pushed_apart;
          each_rises =
              at_set (λ j q. Rises q) queues k (get_or queues k [] ++ w ∷ []) [] in_queues
              (rises-push (get_or queues k []) w (kept.each_rises k)
              (in_order-each (λ other. number_of other < number_of w) queues k last))
              kept.each_rises;
          own =
              at_set (λ j q. Each (IsOn j) q) queues k (get_or queues k [] ++ w ∷ []) [] in_queues
              (each-push (IsOn k) (get_or queues k []) w (kept.own k) on) kept.own;
          firsts =
              set_firsts (λ j. first_wait j (get_or expiries j 0)
              (get_or (set queues k (get_or queues k [] ++ w ∷ [])) j [])) leaves k (omega (arith, within, many))
              (λ j ne.
              kept.firsts j
              ∙ ap (first_wait j (get_or expiries j 0))
              (sym (get_or-set_other queues k j (get_or queues k [] ++ w ∷ []) [] ne)));
        }

  -- a wait leaves
  module _ (w : Entry (PendingWait T)) (there : IsIn w (in_order queues)) where
    pub waits_left : in_order (map (others w.place) queues) ≡ filter (is_other (number_of w)) (in_order queues)
    waits_left =
        filter-in_order (is_else w.place) (others w.place) (others-are w.place) queues kept.rises
        ∙ filter-place w (in_order queues) kept.apart kept.rises there

    queue_left : (j : ℕ) → get_or (map (others w.place) queues) j [] ≡ filter (is_else w.place) (get_or queues j [])
    queue_left j = ⊎_elim
        (λ (lt : j < length queues).
        get_or-map (others w.place) queues j [] [] lt ∙ others-are w.place (get_or queues j []))
        (λ (le : length queues ≤ j).
        let many = length-map queues (others w.place) in
        get_or_past (map (others w.place) queues) j [] (omega (arith, le, many))
        ∙ sym (ap (filter (is_else w.place)) (get_or_past queues j [] le)))
        (cases_lt j (length queues))

    else_there : (j : ℕ) → j ≢ w.item.timer.place → Each (λ x. is_else w.place x ≡ true) (get_or queues j [])
    else_there j ne =
        each-both (IsOn j) (λ x. x.place ≡ w.place → x.item.timer.place ≡ w.item.timer.place)
        (λ x. is_else w.place x ≡ true) (get_or queues j [])
        (λ x on alike. ap not (apart_test x.place w.place (λ at. ne (sym on ∙ alike at))))
        (kept.own j)
        (in_order-each (λ x. x.place ≡ w.place → x.item.timer.place ≡ w.item.timer.place) queues j
        (place_on w (in_order queues) kept.apart there))

    queue_same : (j : ℕ) → j ≢ w.item.timer.place → get_or (map (others w.place) queues) j [] ≡ get_or queues j []
    queue_same j ne = queue_left j ∙ filter-all (is_else w.place) (get_or queues j []) (else_there j ne)

    pub left_apart : AreApart (in_order (map (others w.place) queues))
    left_apart = subst AreApart (sym waits_left) (apart-filter (is_other (number_of w)) (in_order queues) kept.apart)

    pub left_kept : w.item.timer.place < length expiries →
        IsTimers expiries (map (others w.place) queues)
        (set leaves w.item.timer.place (first_wait w.item.timer.place (get_or expiries w.item.timer.place 0)
        (get_or (map (others w.place) queues) w.item.timer.place [])))
    left_kept within =
        let many = kept.leaves_many in
        record {
          as_many = length-map queues (others w.place) ∙ kept.as_many;
          leaves_many = length-set leaves w.item.timer.place _ ∙ kept.leaves_many;
          rises = subst Rises (sym waits_left) (rises-filter (is_other (number_of w)) (in_order queues) kept.rises);
          apart = left_apart;
          each_rises = λ j. subst Rises (sym (queue_left j)) (rises-filter (is_else w.place) (get_or queues j []) (kept.each_rises j));
          own = λ j. subst (Each (IsOn j)) (sym (queue_left j)) (each-filter (IsOn j) (is_else w.place) (get_or queues j []) (kept.own j));
          firsts =
              set_firsts (λ j. first_wait j (get_or expiries j 0) (get_or (map (others w.place) queues) j [])) leaves
              w.item.timer.place (omega (arith, within, many))
              (λ j ne. kept.firsts j ∙ ap (first_wait j (get_or expiries j 0)) (sym (queue_same j ne)));
        }

  -- the waits of a timer are those of its queue
  pub waits_are : (timer : Name) → IsOnly timer (in_order queues) →
      waits_on timer (in_order queues) ≡ get_or queues timer.place []
  waits_are timer only =
      filter-same (is_of timer) (λ x. x.item.timer.place == timer.place) (in_order queues)
      (only_each timer (in_order queues) only)
      ∙ filter-queue (λ x. x.item.timer.place == timer.place) queues timer.place kept.rises
      (kept.each_rises timer.place)
      (each-weaker (IsOn timer.place) (λ x. (x.item.timer.place == timer.place) ≡ true) (get_or queues timer.place [])
      (λ x on. ap (λ p. p == timer.place) on ∙ same timer.place) (kept.own timer.place))
      (λ j ne.
      each-weaker (IsOn j) (λ x. (x.item.timer.place == timer.place) ≡ false) (get_or queues j [])
      (λ x on. ap (λ p. p == timer.place) on ∙ apart_test j timer.place ne) (kept.own j))

  -- the first of a queue is found at its place
  pub first_found : (k place : ℕ) → place_first (get_or queues k []) ≡ Some place →
      (item : PendingWait T) × (found_in place (in_order queues) ≡ Some item)
      × (first_in (get_or queues k []) ≡ Some item)
  first_found k place is =
      let first = first_at place (get_or queues k []) is in (
        first.0.item,
        subst (λ p. found_in p (in_order queues) ≡ Some first.0.item) first.2
            (in-found first.0 (in_order queues) kept.apart (in-queue first.0 queues k first.1)),
        first.3,
      )

  -- without a place there is none
  pub first_none : (k : ℕ) → place_first (get_or queues k []) ≡ None → first_in (get_or queues k []) ≡ None
  first_none k is = none_at (get_or queues k []) is

  -- a wait's timer is there
  pub timer_within : (w : Entry (PendingWait T)) → IsIn w (in_order queues) → w.item.timer.place < length expiries
  timer_within w there =
      let many = kept.as_many in
      let within = each-in (λ x. x.item.timer.place < length queues) w (in_order queues)
      (each-in_order (λ x. x.item.timer.place < length queues) queues (λ k. within_at k)) there in
      omega (arith, within, many)
    where
      within_at : (k : ℕ) → Each (λ x. x.item.timer.place < length queues) (get_or queues k [])
      within_at k = ⊎_elim
          (λ (lt : k < length queues).
          each-weaker (IsOn k) (λ x. x.item.timer.place < length queues) (get_or queues k [])
          (λ x on. subst (λ p. p < length queues) (sym on) lt) (kept.own k))
          (λ (le : length queues ≤ k).
          subst (Each (λ x. x.item.timer.place < length queues)) (sym (get_or_past queues k [] le)) tt)
          (cases_lt k (length queues))

  pub expiry_set : (timer : Name) (at room : ℕ) →
      as_timers (set expiries timer.place at) queues room ≡ with_expiry timer at (as_timers expiries queues room)
  expiry_set timer at room =
      ap (λ ts. record { timers = ts; waits = in_order queues; room = room }) (map-set timer_with expiries timer.place at)

  pub wait_seen : (k room : ℕ) (w : Entry (PendingWait T)) → k < length expiries →
      Each (λ other. number_of other < number_of w) (in_order queues) →
      as_timers expiries (set queues k (get_or queues k [] ++ w ∷ [])) (room - 1)
      ≡ with_wait w (as_timers expiries queues room)
  wait_seen k room w within last =
      let many = kept.as_many in
      ap (λ ws. record { timers = map timer_with expiries; waits = ws; room = room - 1 })
      (in_order-push w queues k (omega (arith, within, many)) last)

  pub left_seen : (room : ℕ) (w : Entry (PendingWait T)) → IsIn w (in_order queues) →
      as_timers expiries (map (others w.place) queues) (room + 1)
      ≡ without_wait (number_of w) (as_timers expiries queues room)
  left_seen room w there =
      ap (λ ws. record { timers = map timer_with expiries; waits = ws; room = room + 1 }) (waits_left w there)
