-- A step that changes views alone keeps the rule of turns: a miss, a seat parted, two seats gathered.
use Rattle.std.proofs.Common.{◌≡◌, ◌≢◌, ◌⊎◌, ℕ, ◌<◌, eqb, cond, List, [], ◌∷◌, ◌++◌, length, set, true, false, sym, refl, ap, ◌∙◌, subst, ⊎_elim, inl, inr, arith, None, length-set, length-append, eq-eqb, ne_eqb}
use Rattle.std.proofs.lemmas.Bool.{true≢false, cases_eq, cases_Bool}
use mathlib.Core.Option.{some, some-injective}
use lib.ListN.{get_elem?}
use Rattle.atomic_table.specs.Table.{State, Splits, Joins}
use Rattle.atomic_table.proofs.Lists.{at_set, set_here, set_else, at_longer, at_last}
use Rattle.turn_table.specs.declared.place.TablePlace.{TablePlace}
use Rattle.turn_table.specs.declared.place.Sizes.{Sizes}
use Rattle.turn_table.specs.declared.place.TurnView.{TurnView as V}
use Rattle.turn_table.specs.Numbers.{has, Has, greatest}
use Rattle.turn_table.specs.Past.{Deed, missing, misses_in, IsPastOf}
use Rattle.turn_table.specs.TurnRule.{IsHeldBy, TurnRule}
use Rattle.turn_table.specs.TurnSteps.{after_miss, parted_left, parted_right, gathered_turns, spent_turns}
use Rattle.turn_table.proofs.NumberLemmas.{has_head, has_one, has-append_left, has-append_right, has-append_cases, has-without_other, has_without, has_greatest, kept_number}
use Rattle.turn_table.proofs.ListLemmas.{put, put_here, put_else, at_below, at_end}

module _ {T : Type 0} (home_of : T → ℕ) (sizes : Sizes) where
  -- a step that only moves numbers: each seat's turns and hand stay, and no seat gets a turn
  views_step : (s : State (TablePlace T) V) (r : TurnRule home_of sizes s) (views' : List V) (owner' : ℕ → ℕ)
      → ((i : ℕ) (u : V) → get_elem? s.views i ≡ some u →
      (u' : V) × (get_elem? views' i ≡ some u') × (u'.turns ≡ u.turns) × (u'.hand ≡ u.hand))
      → ((i j : ℕ) (u' : V) → get_elem? views' i ≡ some u' → Has u'.turns j →
      (u : V) × (get_elem? s.views i ≡ some u) × Has u.turns j)
      → ((n : ℕ) → n < sizes.seats → (u : V) × (get_elem? views' (owner' n) ≡ some u) × Has u.numbers n)
      → ((i n : ℕ) (u : V) → get_elem? views' i ≡ some u → Has u.numbers n → (n < sizes.seats) × (i ≡ owner' n))
      → ((i j : ℕ) (u : V) → get_elem? views' i ≡ some u → Has u.turns j → (n : ℕ) × Has u.numbers n)
      → (past' : List Deed) → IsPastOf sizes.lanes r.holder s.words views' past'
      → TurnRule home_of sizes record { words = s.words; homes = s.homes; views = views' }
  views_step s r views' owner' onward back each one stands past' came' = record {
    holder = r.holder;
    owner = owner';
    words = r.words;
    slots = r.slots;
    each_lane = λ j l. ⊎_elim (λ f. inl record { word = f.word; value = f.value; home = f.home; slot = f.slot })
        (λ h. let o = onward (r.holder j) h.view h.seated in inr record {
          word = h.word;
          view = o.0;
          seated = o.1;
          turn = ap (has j) o.2 ∙ h.turn;
          at_rest = λ a. h.at_rest (λ e. a (o.3 ∙ e));
          in_hand = λ e. h.in_hand (sym o.3 ∙ e);
        })
        (r.each_lane j l);
    each_turn = λ seat j u there turn. let b = back seat j u there turn in r.each_turn seat j b.0 b.1 b.2;
    each_number = each;
    one_owner = one;
    stands = stands;
    past = past';
    came = came';
    room = r.room;
    is_room = r.is_room;
    kept = r.kept;
  }

  -- a turn of another seat is missed in the past too, and a seat's own turn is no miss
  noted_past : (s : State (TablePlace T) V) (r : TurnRule home_of sizes s) (id k : ℕ) (v : V) →
      get_elem? s.views id ≡ some v → k < sizes.lanes → IsHeldBy s k (r.holder k) →
      (has k v.turns ≡ true) ⊎ (has k v.turns ≡ false) →
      (past' : List Deed) × IsPastOf sizes.lanes r.holder s.words (set s.views id (after_miss k v)) past'
  noted_past s r id k v at inside h (inl own) = let w = after_miss k v in (
    r.past,
    record {
      right = r.came.right;
      held = r.came.held;
      free = r.came.free;
      misses = λ i n u there number. ⊎_elim
          (λ (p : (i ≡ id) × (w ≡ u)).
          ap (λ (z : V). z.misses) (sym p.1) ∙ (ap (λ b. cond b v.misses (v.misses ++ k ∷ [])) own
          ∙ (r.came.misses id n v at (ap (λ (z : V). has n z.numbers) p.1 ∙ number) ∙ ap (misses_in r.past) (sym p.0))))
          (λ p. r.came.misses i n u p.1 number) (at_set s.views id i w u there);
      unborn = λ seat beyond. r.came.unborn seat (let e = length-set s.views id w in omega arith);
    },
  )
  noted_past s r id k v at inside h (inr other) = let w = after_miss k v in
      let apart : r.holder k ≢ id = λ e.
      true≢false (sym h.turn
      ∙ (ap (λ (z : V). has k z.turns)
      (some-injective h.view v (sym h.seated ∙ (ap (get_elem? s.views) e ∙ at))) ∙ other)) in (
        missing k id ∷ r.past,
        record {
          right = ((r.holder k, apart, r.came.held k inside h.word), r.came.right);
          held = r.came.held;
          free = r.came.free;
          misses = λ i n u there number.
              ⊎_elim
              (λ (p : (i ≡ id) × (w ≡ u)).
              ap (λ (z : V). z.misses) (sym p.1)
              ∙ (ap (λ b. cond b v.misses (v.misses ++ k ∷ [])) other
              ∙ (ap (λ xs. xs ++ k ∷ []) (r.came.misses id n v at
              (ap (λ (z : V). has n z.numbers) p.1 ∙ number) ∙ ap (misses_in r.past) (sym p.0))
              ∙ sym (ap (λ b. cond b (misses_in r.past i ++ k ∷ []) (misses_in r.past i))
              (eq-eqb i id p.0)))))
              (λ p.
              r.came.misses i n u p.1 number
              ∙ sym (ap (λ b. cond b (misses_in r.past i ++ k ∷ []) (misses_in r.past i)) (ne_eqb i id p.0)))
              (at_set s.views id i w u there);
          unborn = λ seat beyond.
              let e = length-set s.views id w in
              let l = at_below s.views id v at in
              ap (λ b. cond b (misses_in r.past seat ++ k ∷ []) (misses_in r.past seat))
              (ne_eqb seat id (λ q. omega arith)) ∙ r.came.unborn seat (omega arith);
        },
      )

  -- a miss is noted
  pub noted : (s : State (TablePlace T) V) (r : TurnRule home_of sizes s) (id k : ℕ) (v : V) →
      get_elem? s.views id ≡ some v → k < sizes.lanes → IsHeldBy s k (r.holder k) →
      TurnRule home_of sizes record { words = s.words; homes = s.homes; views = set s.views id (after_miss k v) }
  noted s r id k v at inside h =
      let w = after_miss k v in
      let past' = noted_past s r id k v at inside h (cases_Bool (has k v.turns)) in
      views_step s r (set s.views id w) r.owner
      (λ i u there.
      ⊎_elim
      (λ (e : i ≡ id).
      let same : v ≡ u = some-injective v u (sym at ∙ (ap (get_elem? s.views) (sym e) ∙ there)) in (
        w,
        ap (get_elem? (set s.views id w)) e ∙ set_here s.views id w (at_below s.views id v at),
        ap (λ (z : V). z.turns) same,
        ap (λ (z : V). z.hand) same,
      ))
      (λ other. (u, set_else s.views id i w other ∙ there, refl, refl)) (cases_eq i id))
      (λ i j u' there turn.
      ⊎_elim
      (λ (p : (i ≡ id) × (w ≡ u')).
      (v, ap (get_elem? s.views) p.0 ∙ at, ap (λ (z : V). has j z.turns) p.1 ∙ turn)) (λ p. (u', p.1, turn))
      (at_set s.views id i w u' there))
      (λ n l. let o = r.each_number n l in ⊎_elim
      (λ (e : r.owner n ≡ id).
      let same : o.0 ≡ v = some-injective o.0 v (sym o.1 ∙ (ap (get_elem? s.views) e ∙ at)) in (
        w,
        ap (get_elem? (set s.views id w)) e ∙ set_here s.views id w (at_below s.views id v at),
        ap (λ (z : V). has n z.numbers) (sym same) ∙ o.2,
      ))
      (λ other. (o.0, set_else s.views id (r.owner n) w other ∙ o.1, o.2)) (cases_eq (r.owner n) id))
      (λ i n u there h.
      ⊎_elim
      (λ (p : (i ≡ id) × (w ≡ u)).
      let o = r.one_owner id n v at (ap (λ (z : V). has n z.numbers) p.1 ∙ h) in (o.0, p.0 ∙ o.1))
      (λ p. r.one_owner i n u p.1 h) (at_set s.views id i w u there))
      (λ i j u there turn.
      ⊎_elim
      (λ (p : (i ≡ id) × (w ≡ u)).
      let o = r.stands id j v at (ap (λ (z : V). has j z.turns) p.1 ∙ turn) in
      (o.0, ap (λ (z : V). has o.0 z.numbers) (sym p.1) ∙ o.1)) (λ p. r.stands i j u p.1 turn)
      (at_set s.views id i w u there))
      past'.0 past'.1

  -- parting a seat: the new one has the greatest number
  pub parts : (id : ℕ) (v : V) (one other : ℕ) → one ≢ other → Has v.numbers one → Has v.numbers other →
      Splits (TurnRule home_of sizes) id v (parted_left v) (parted_right v)
  parts id v one other apart first second s r at =
      let g = greatest v.numbers in
      let left = parted_left v in
      let right = parted_right v in let there = has_greatest one v.numbers first in let count = length s.views in
      let inner = set s.views id left in let long : length inner ≡ count = length-set s.views id left in
      let mine' : get_elem? inner id ≡ some left = set_here s.views id left (at_below s.views id v at) in
      views_step s r (inner ++ right ∷ []) (put r.owner g count)
      (λ i u h.
      ⊎_elim
      (λ (e : i ≡ id).
      let same : v ≡ u = some-injective v u (sym at ∙ (ap (get_elem? s.views) (sym e) ∙ h)) in (
        left,
        at_longer inner (right ∷ []) i left (ap (get_elem? inner) e ∙ mine'),
        ap (λ (z : V). z.turns) same,
        ap (λ (z : V). z.hand) same,
      ))
      (λ ne. (u, at_longer inner (right ∷ []) i u (set_else s.views id i left ne ∙ h), refl, refl)) (cases_eq i id))
      (λ i j u h turn.
      ⊎_elim
      (λ p.
      ⊎_elim
      (λ (q : (i ≡ id) × (left ≡ u)).
      (v, ap (get_elem? s.views) q.0 ∙ at, ap (λ (z : V). has j z.turns) q.1 ∙ turn)) (λ q. (u, q.1, turn))
      (at_set s.views id i left u p))
      (λ (p : (i ≡ length inner) × (right ≡ u)).
      absurd (true≢false (sym turn ∙ ap (λ (z : V). has j z.turns) (sym p.1)))) (at_end inner right u i h))
      (λ n l.
      ⊎_elim
      (λ (e : n ≡ g). (
        right,
        ap (get_elem? (inner ++ right ∷ [])) (ap (put r.owner g count) e ∙ put_here r.owner g count)
            ∙ at_last inner right count long,
        eq-eqb-or n g e,
      ))
      (λ ne.
      let o = r.each_number n l in
      let place = put_else r.owner g count n ne in
      ⊎_elim
      (λ (e : r.owner n ≡ id).
      let same : o.0 ≡ v = some-injective o.0 v (sym o.1 ∙ (ap (get_elem? s.views) e ∙ at)) in (
        left,
        ap (get_elem? (inner ++ right ∷ [])) (place ∙ e) ∙ at_longer inner (right ∷ []) id left mine',
        has-without_other n g v.numbers ne ∙ (ap (λ (z : V). has n z.numbers) (sym same) ∙ o.2),
      ))
      (λ away. (
        o.0,
        ap (get_elem? (inner ++ right ∷ [])) place
            ∙ at_longer inner (right ∷ []) (r.owner n) o.0
            (set_else s.views id (r.owner n) left away ∙ o.1),
        o.2,
      )) (cases_eq (r.owner n) id))
      (cases_eq n g))
      (λ i n u h has'. ⊎_elim
      (λ p. let t : (n ≢ g) × (n < sizes.seats) × (i ≡ r.owner n) = ⊎_elim
      (λ (q : (i ≡ id) × (left ≡ u)).
      let w = has_without n g v.numbers (ap (λ (z : V). has n z.numbers) q.1 ∙ has') in
      let o = r.one_owner id n v at w.1 in (w.0, o.0, q.0 ∙ o.1))
      (λ q.
      let o = r.one_owner i n u q.1 has' in
      ((λ e. q.0 (o.1 ∙ (ap r.owner e ∙ sym (r.one_owner id g v at there).1))), o.0, o.1))
      (at_set s.views id i left u p) in
      (t.1, t.2 ∙ sym (put_else r.owner g count n t.0)))
      (λ (p : (i ≡ length inner) × (right ≡ u)).
      let e : n ≡ g = has_one n g (ap (λ (z : V). has n z.numbers) p.1 ∙ has') in (
        subst (λ z. z < sizes.seats) (sym e) (r.one_owner id g v at there).0,
        p.0 ∙ (long ∙ sym (ap (put r.owner g count) e ∙ put_here r.owner g count)),
      ))
      (at_end inner right u i h))
      (λ i j u h turn. ⊎_elim
      (λ p. ⊎_elim
      (λ (q : (i ≡ id) × (left ≡ u)).
      let some_number = kept_number g v.numbers one other apart first second in
      (some_number.0, ap (λ (z : V). has some_number.0 z.numbers) (sym q.1) ∙ some_number.1))
      (λ q. r.stands i j u q.1 turn) (at_set s.views id i left u p))
      (λ (p : (i ≡ length inner) × (right ≡ u)).
      absurd (true≢false (sym turn ∙ ap (λ (z : V). has j z.turns) (sym p.1)))) (at_end inner right u i h))
      r.past record {
        right = r.came.right;
        held = r.came.held;
        free = r.came.free;
        misses = λ i n u h has'. ⊎_elim
            (λ p. ⊎_elim
            (λ (q : (i ≡ id) × (left ≡ u)).
            ap (λ (z : V). z.misses) (sym q.1)
            ∙ (r.came.misses id n v at (has_without n g v.numbers (ap (λ (z : V). has n z.numbers) q.1 ∙ has')).1
            ∙ ap (misses_in r.past) (sym q.0)))
            (λ q. r.came.misses i n u q.1 has') (at_set s.views id i left u p))
            (λ (p : (i ≡ length inner) × (right ≡ u)).
            ap (λ (z : V). z.misses) (sym p.1) ∙ sym (r.came.unborn i (let e = p.0 in omega arith)))
            (at_end inner right u i h);
        unborn = λ seat beyond. r.came.unborn seat (let e = length-append inner (right ∷ []) in omega arith);
      }
    where
      eq-eqb-or : (n g : ℕ) → n ≡ g → Has (g ∷ []) n
      eq-eqb-or n g e = subst (Has (g ∷ [])) (sym e) (has_head g [])

  -- gathering a seat that has no turn: its numbers go to the other, and it is spent
  pub gathers : (id : ℕ) (v : V) (other : ℕ) (w : V) → (n : ℕ) × Has v.numbers n → w.turns ≡ [] → w.hand ≡ None →
      Joins (TurnRule home_of sizes) id v other w (gathered_turns v w) spent_turns
  gathers id v other w number no_turn no_hand s r at apart there' =
      let both = gathered_turns v w in let inner = set s.views id both in let outer = set inner other spent_turns in
      let there : get_elem? s.views other ≡ some w = sym (set_else s.views id other both apart) ∙ there' in
      let mine' : get_elem? outer id ≡ some both =
      set_else inner other id spent_turns (λ e. apart (sym e)) ∙ set_here s.views id both (at_below s.views id v at) in
      let gone : get_elem? outer other ≡ some spent_turns =
      set_here inner other spent_turns (at_below inner other w there') in
      let rest' : (i : ℕ) (u : V) → i ≢ id → i ≢ other → get_elem? s.views i ≡ some u → get_elem? outer i ≡ some u =
      λ i u a b h. set_else inner other i spent_turns b ∙ (set_else s.views id i both a ∙ h) in
      let owner' : ℕ → ℕ = λ n. cond (eqb (r.owner n) other) id (r.owner n) in
      let moved' : (n : ℕ) → r.owner n ≡ other → owner' n ≡ id = λ n e.
      ap (λ b. cond b id (r.owner n)) (eq-eqb (r.owner n) other e) in
      let stayed : (n : ℕ) → r.owner n ≢ other → owner' n ≡ r.owner n = λ n e.
      ap (λ b. cond b id (r.owner n)) (ne_eqb (r.owner n) other e) in
      views_step s r outer owner'
      (λ i u h.
      ⊎_elim
      (λ (e : i ≡ id).
      let same : v ≡ u = some-injective v u (sym at ∙ (ap (get_elem? s.views) (sym e) ∙ h)) in
      (both, ap (get_elem? outer) e ∙ mine', ap (λ (z : V). z.turns) same, ap (λ (z : V). z.hand) same))
      (λ a.
      ⊎_elim
      (λ (e : i ≡ other).
      let same : w ≡ u = some-injective w u (sym there ∙ (ap (get_elem? s.views) (sym e) ∙ h)) in (
        spent_turns,
        ap (get_elem? outer) e ∙ gone,
        sym no_turn ∙ ap (λ (z : V). z.turns) same,
        sym no_hand ∙ ap (λ (z : V). z.hand) same,
      ))
      (λ b. (u, rest' i u a b h, refl, refl)) (cases_eq i other)) (cases_eq i id))
      (λ i j u h turn.
      ⊎_elim
      (λ (p : (i ≡ other) × (spent_turns ≡ u)).
      absurd (true≢false (sym turn ∙ ap (λ (z : V). has j z.turns) (sym p.1))))
      (λ p.
      ⊎_elim
      (λ (q : (i ≡ id) × (both ≡ u)).
      (v, ap (get_elem? s.views) q.0 ∙ at, ap (λ (z : V). has j z.turns) q.1 ∙ turn)) (λ q. (u, q.1, turn))
      (at_set s.views id i both u p.1)) (at_set inner other i spent_turns u h))
      (λ n l. let o = r.each_number n l in ⊎_elim
      (λ (e : r.owner n ≡ other).
      let same : o.0 ≡ w = some-injective o.0 w (sym o.1 ∙ (ap (get_elem? s.views) e ∙ there)) in (
        both,
        ap (get_elem? outer) (moved' n e) ∙ mine',
        has-append_right n v.numbers w.numbers (ap (λ (z : V). has n z.numbers) (sym same) ∙ o.2),
      ))
      (λ b. ⊎_elim
      (λ (e : r.owner n ≡ id).
      let same : o.0 ≡ v = some-injective o.0 v (sym o.1 ∙ (ap (get_elem? s.views) e ∙ at)) in (
        both,
        ap (get_elem? outer) (stayed n b ∙ e) ∙ mine',
        has-append_left n v.numbers w.numbers (ap (λ (z : V). has n z.numbers) (sym same) ∙ o.2),
      ))
      (λ a. (o.0, ap (get_elem? outer) (stayed n b) ∙ rest' (r.owner n) o.0 a b o.1, o.2)) (cases_eq (r.owner n) id))
      (cases_eq (r.owner n) other))
      (λ i n u h has'.
      ⊎_elim
      (λ (p : (i ≡ other) × (spent_turns ≡ u)).
      absurd (true≢false (sym has' ∙ ap (λ (z : V). has n z.numbers) (sym p.1))))
      (λ p.
      ⊎_elim
      (λ (q : (i ≡ id) × (both ≡ u)).
      ⊎_elim
      (λ in_v.
      let o = r.one_owner id n v at in_v in
      (o.0, q.0 ∙ (o.1 ∙ sym (stayed n (λ e. apart (sym e ∙ sym o.1))))))
      (λ in_w. let o = r.one_owner other n w there in_w in (o.0, q.0 ∙ sym (moved' n (sym o.1))))
      (has-append_cases n v.numbers w.numbers (ap (λ (z : V). has n z.numbers) q.1 ∙ has')))
      (λ q. let o = r.one_owner i n u q.1 has' in (o.0, o.1 ∙ sym (stayed n (λ e. p.0 (o.1 ∙ e)))))
      (at_set s.views id i both u p.1)) (at_set inner other i spent_turns u h))
      (λ i j u h turn.
      ⊎_elim
      (λ (p : (i ≡ other) × (spent_turns ≡ u)).
      absurd (true≢false (sym turn ∙ ap (λ (z : V). has j z.turns) (sym p.1))))
      (λ p.
      ⊎_elim
      (λ (q : (i ≡ id) × (both ≡ u)).
      let o = r.stands id j v at (ap (λ (z : V). has j z.turns) q.1 ∙ turn) in
      (o.0, ap (λ (z : V). has o.0 z.numbers) (sym q.1) ∙ has-append_left o.0 v.numbers w.numbers o.1))
      (λ q. r.stands i j u q.1 turn) (at_set s.views id i both u p.1)) (at_set inner other i spent_turns u h))
      r.past record {
        right = r.came.right;
        held = r.came.held;
        free = r.came.free;
        misses = λ i n u h has'.
            ⊎_elim
            (λ (p : (i ≡ other) × (spent_turns ≡ u)).
            absurd (true≢false (sym has' ∙ ap (λ (z : V). has n z.numbers) (sym p.1))))
            (λ p. ⊎_elim
            (λ (q : (i ≡ id) × (both ≡ u)).
            ap (λ (z : V). z.misses) (sym q.1)
            ∙ (r.came.misses id number.0 v at number.1 ∙ ap (misses_in r.past) (sym q.0)))
            (λ q. r.came.misses i n u q.1 has') (at_set s.views id i both u p.1))
            (at_set inner other i spent_turns u h);
        unborn = λ seat beyond.
            let e = length-set inner other spent_turns in
            let f = length-set s.views id both in r.came.unborn seat (omega arith);
      }
