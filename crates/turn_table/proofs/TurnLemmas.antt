-- A step on one lane keeps the rule of turns: its turn is tried, its slot put back or reached again, the turn given.
use Rattle.std.proofs.Common.{◌≡◌, ◌≢◌, ◌⊎◌, ℕ, ◌<◌, eqb, List, [], ◌∷◌, get_or, set, sym, refl, ap, ◌∙◌, subst, ⊎_elim, inl, inr, arith, Some, None, length-set, get_or-set_other, get_or-set_same, eq-eqb, ne_eqb}
use Rattle.std.proofs.lemmas.Bool.{true≢false, cases_eq}
use Rattle.std.proofs.lemmas.Option.{none-some, same_Some}
use mathlib.Core.Option.{none, some, some-injective}
use mathlib.Core.Option as maybe
use lib.ListN.{get_elem?}
use lib.Seq.{set-get_or}
use prog.Atomic.{either}
use Rattle.atomic_table.specs.Table.{State, step, keeps, takes, gives, stepped, Allows}
use Rattle.atomic_table.proofs.Lists.{at_set, set_here, set_else}
use Rattle.turn_table.specs.declared.place.TablePlace.{TablePlace}
use Rattle.turn_table.specs.declared.place.TablePlace.TheVariants.{Empty, Value}
use Rattle.turn_table.specs.declared.place.Sizes.{Sizes}
use Rattle.turn_table.specs.declared.place.TurnView.{TurnView as V}
use Rattle.turn_table.specs.Numbers.{has, Has}
use Rattle.turn_table.specs.Past.{Deed, taking, giving}
use Rattle.turn_table.specs.TurnRule.{IsFree, IsHeldBy, TurnRule}
use Rattle.turn_table.specs.TurnSteps.{SeatHands, after_take, after_rest, after_reach, after_give, after_miss, tried, rested, reached, gave}
use Rattle.turn_table.proofs.PastLemmas.{Next, next_taking, next_giving, next_same, came_further}
use Rattle.turn_table.proofs.NumberLemmas.{has_head, has-cons_other, has-without_same, has-without_other}
use Rattle.turn_table.proofs.ListLemmas.{put, put_here, put_else, at_below}
use Rattle.turn_table.proofs.ViewLemmas.{noted}

module _ {T : Type 0} (home_of : T → ℕ) (sizes : Sizes) where
  abbrev St : Type 0
  St = State (TablePlace T) V

  abbrev Rule : St → Type 0
  Rule = TurnRule home_of sizes

  -- the state after a step on the lane k: the word is x, and the slot has y
  abbrev moved : St → ℕ → ℕ → maybe.Option (TablePlace T) → ℕ → V → St
  moved s k x y me w = record { words = set s.words k x; homes = set s.homes k y; views = set s.views me w }

  -- what a step on the lane k leaves of a seat's view
  record Moves (k : ℕ) (v w : V) : Type 0 where
    numbers : w.numbers ≡ v.numbers
    misses : w.misses ≡ v.misses
    turns : (j : ℕ) → j ≢ k → has j w.turns ≡ has j v.turns
    before : (j : ℕ) → j ≢ k → v.hand ≢ Some j
    after : (j : ℕ) → j ≢ k → w.hand ≢ Some j
    number : (n : ℕ) × Has w.numbers n

  -- the turn of another lane stays where it is
  held_elsewhere : (s : St) (k x j seat me : ℕ) (y : maybe.Option (TablePlace T)) (v w : V) → j ≢ k → Moves k v w →
      get_elem? s.views me ≡ some v → IsHeldBy s j seat → IsHeldBy (moved s k x y me w) j seat
  held_elsewhere s k x j seat me y v w other c at h =
      let word = get_or-set_other s.words k j x 0 other ∙ h.word in let slot = set_else s.homes k j y other in ⊎_elim
      (λ (e : seat ≡ me).
      let same : h.view ≡ v = some-injective h.view v (sym h.seated ∙ (ap (get_elem? s.views) e ∙ at)) in
      record {
        word = word;
        view = w;
        seated = ap (get_elem? (set s.views me w)) e ∙ set_here s.views me w (at_below s.views me v at);
        turn = c.turns j other ∙ (ap (λ (z : V). has j z.turns) (sym same) ∙ h.turn);
        at_rest = λ _. slot ∙ h.at_rest (λ a. c.before j other (ap (λ (z : V). z.hand) (sym same) ∙ a));
        in_hand = λ a. absurd (c.after j other a);
      })
      (λ apart. record {
        word = word;
        view = h.view;
        seated = set_else s.views me seat w apart ∙ h.seated;
        turn = h.turn;
        at_rest = λ a. slot ∙ h.at_rest a;
        in_hand = λ a. slot ∙ h.in_hand a;
      })
      (cases_eq seat me)

  free_elsewhere : (s : St) (k x j me : ℕ) (y : maybe.Option (TablePlace T)) (w : V) → j ≢ k → IsFree home_of s j →
      IsFree home_of (moved s k x y me w) j
  free_elsewhere s k x j me y w other f = record {
    word = get_or-set_other s.words k j x 0 other ∙ f.word;
    value = f.value;
    home = f.home;
    slot = set_else s.homes k j y other ∙ f.slot;
  }

  -- a step on the lane k by the seat me, after which its turn is free or the seat `who` has it
  lane_step : (s : St) (r : Rule s) (k me x who : ℕ) (y : maybe.Option (TablePlace T)) (v w : V) (after : List Deed) →
      Next k x who r.past after → Moves k v w → get_elem? s.views me ≡ some v → k < sizes.lanes →
      (IsFree home_of (moved s k x y me w) k ⊎ IsHeldBy (moved s k x y me w) k who) →
      ((seat : ℕ) (u : V) → get_elem? (set s.views me w) seat ≡ some u → Has u.turns k →
      (get_or (set s.words k x) k 0 ≡ 1) × (seat ≡ who)) → Rule (moved s k x y me w)
  lane_step s r k me x who y v w after next c at inside here each = record {
    holder = put r.holder k who;
    owner = r.owner;
    words = length-set s.words k x ∙ r.words;
    slots = length-set s.homes k y ∙ r.slots;
    each_lane = λ j l. ⊎_elim
        (λ (e : j ≡ k).
        subst (λ (z : ℕ × ℕ). IsFree home_of (moved s k x y me w) z.0 ⊎ IsHeldBy (moved s k x y me w) z.0 z.1)
        (λ i. (sym e i, (sym (put_here r.holder k who) ∙ ap (put r.holder k who) (sym e)) i)) here)
        (λ other. ⊎_elim (λ f. inl (free_elsewhere s k x j me y w other f))
        (λ h.
        inr (subst (IsHeldBy (moved s k x y me w) j) (sym (put_else r.holder k who j other))
        (held_elsewhere s k x j (r.holder j) me y v w other c at h)))
        (r.each_lane j l))
        (cases_eq j k);
    each_turn = λ seat j u there turn. ⊎_elim
        (λ (e : j ≡ k). let t = each seat u there (subst (Has u.turns) e turn) in (
          subst (λ (z : ℕ). z < sizes.lanes) (sym e) inside,
          ap (λ (z : ℕ). get_or (set s.words k x) z 0) e ∙ t.0,
          t.1 ∙ (sym (put_here r.holder k who) ∙ ap (put r.holder k who) (sym e)),
        ))
        (λ other.
        let t =
        ⊎_elim
        (λ (p : (seat ≡ me) × (w ≡ u)).
        let o =
        r.each_turn me j v at (sym (c.turns j other) ∙ (ap (λ (z : V). has j z.turns) p.1 ∙ turn)) in
        (o.0, o.1, p.0 ∙ o.2)) (λ p. r.each_turn seat j u p.1 turn) (at_set s.views me seat w u there) in
        (t.0, get_or-set_other s.words k j x 0 other ∙ t.1, t.2 ∙ sym (put_else r.holder k who j other)))
        (cases_eq j k);
    each_number = λ n l. let o = r.each_number n l in ⊎_elim
        (λ (e : r.owner n ≡ me).
        let same : o.0 ≡ v = some-injective o.0 v (sym o.1 ∙ (ap (get_elem? s.views) e ∙ at)) in (
          w,
          ap (get_elem? (set s.views me w)) e ∙ set_here s.views me w (at_below s.views me v at),
          ap (has n) (c.numbers ∙ ap (λ (z : V). z.numbers) (sym same)) ∙ o.2,
        ))
        (λ apart. (o.0, set_else s.views me (r.owner n) w apart ∙ o.1, o.2))
        (cases_eq (r.owner n) me);
    one_owner = λ seat n u there h. ⊎_elim
        (λ (p : (seat ≡ me) × (w ≡ u)).
        let o = r.one_owner me n v at (ap (has n) (sym c.numbers) ∙ (ap (λ (z : V). has n z.numbers) p.1 ∙ h)) in
        (o.0, p.0 ∙ o.1))
        (λ p. r.one_owner seat n u p.1 h) (at_set s.views me seat w u there);
    stands = λ seat j u there turn. ⊎_elim
        (λ (p : (seat ≡ me) × (w ≡ u)). (c.number.0, ap (λ (z : V). has c.number.0 z.numbers) (sym p.1) ∙ c.number.1))
        (λ p. r.stands seat j u p.1 turn) (at_set s.views me seat w u there);
    past = after;
    came =
        came_further sizes.lanes k x who me r.holder (put r.holder k who) s.words s.views v w r.past after r.came next
        (let wide = r.words in omega arith) at c.numbers c.misses (put_here r.holder k who)
        (λ j other. put_else r.holder k who j other);
    room = r.room;
    is_room = r.is_room;
    kept = set_else s.homes k sizes.lanes y (λ e. omega arith) ∙ r.kept;
  }

  -- the seat that knows a turn to be its own holds it
  mine : (s : St) (r : Rule s) (k me : ℕ) (v : V) → get_elem? s.views me ≡ some v → Has v.turns k → IsHeldBy s k me
  mine s r k me v at turn = let t = r.each_turn me k v at turn in ⊎_elim
      (λ f. absurd (let a = f.word in let b = t.1 in omega arith))
      (λ h. subst (IsHeldBy s k) (sym t.2) h) (r.each_lane k t.0)

  -- the view of the seat that holds a turn
  its_view : (s : St) (k me : ℕ) (v : V) → get_elem? s.views me ≡ some v → (h : IsHeldBy s k me) → h.view ≡ v
  its_view s k me v at h = some-injective h.view v (sym h.seated ∙ at)

  -- taking a turn: the word was 0, and the value comes with it; or it was 1, and that is a miss
  pub tries : (slots id : ℕ) (me : SeatHands T) (k : ℕ) → k < sizes.lanes → me.0.hand ≡ None →
      me.0.seats ≡ sizes.seats → (n : ℕ) × Has me.0.numbers n →
      Allows Rule slots id me k (λ n. either (eqb n 0) 1 n) (tried home_of (step slots k 0 1 none) me)
  tries slots id me k inside hand told number s r _ at _ = ⊎_elim
      (λ f.
      let w = after_take k me.0 in
      let wide = r.words in
      let deep = r.slots in
      let word = get_or-set_same s.words k 1 0 (omega arith) in (
        w,
        takes k (Value f.value),
        f.slot,
        subst (λ (x : ℕ). Rule (stepped s k x id me.1 w (takes k (Value f.value))))
            (sym (ap (λ b. either b 1 (get_or s.words k 0)) (eq-eqb (get_or s.words k 0) 0 f.word)))
            (lane_step s r k id 1 id none me.0 w (taking k id ∷ r.past)
            (next_taking k id r.past r.came.right (r.came.free k inside f.word))
            (record {
              numbers = refl;
              misses = refl;
              turns = λ j other. has-cons_other j k me.0.turns other;
              before = λ j _ e. none-some j (sym hand ∙ e);
              after = λ j other e. other (sym (same_Some k j e));
              number = number;
            }) at inside
            (inr record {
              word = word;
              view = w;
              seated = set_here s.views id w (at_below s.views id me.0 at);
              turn = has_head k me.0.turns;
              at_rest = λ a. absurd (a refl);
              in_hand = λ _. set_here s.homes k none (omega arith);
            }) (λ seat u there turn. (
              word,
              ⊎_elim (λ p. p.0)
                  (λ p. absurd (let a = f.word in let b = (r.each_turn seat k u p.1 turn).1 in omega arith))
                  (at_set s.views id seat w u there),
            ))),
        (
          (λ _. (
            f.value,
            f.home,
            (λ t. let a = f.word in let b = (r.each_turn id k me.0 at t).1 in omega arith),
            refl,
          )),
          λ other. absurd (other f.word),
        ),
      ))
      (λ h. let w = after_miss k me.0 in (
        w,
        keeps,
        tt,
        subst (λ (x : ℕ). Rule (stepped s k x id me.1 w keeps)) (sym (ap (λ b. either b 1 (get_or s.words k 0))
            (ne_eqb (get_or s.words k 0) 0 (λ e. let a = h.word in omega arith))))
            (subst (λ (ws : List ℕ). Rule record { words = ws; homes = s.homes; views = set s.views id w })
            (sym (set-get_or s.words k 0)) (noted home_of sizes s r id k me.0 at inside h)),
        (
          (λ e. absurd (let a = h.word in omega arith)),
          λ _. (
            h.word,
            (
              refl,
              λ no. let o = r.stands (r.holder k) k h.view h.seated h.turn in
                  let one = r.one_owner (r.holder k) o.0 h.view h.seated o.1 in (
                    o.0,
                    subst (λ (z : ℕ). o.0 < z) (sym told) one.0,
                    λ own. let e : r.holder k ≡ id = one.1 ∙ sym (r.one_owner id o.0 me.0 at own).1 in
                        let same : h.view ≡ me.0 =
                        some-injective h.view me.0 (sym h.seated ∙ (ap (get_elem? s.views) e ∙ at)) in
                        no (ap (λ (z : V). has k z.turns) (sym same) ∙ h.turn),
                  ),
            ),
          ),
        ),
      ))
      (r.each_lane k inside)

  -- putting the empty slot back
  pub rests : (slots id : ℕ) (me : SeatHands T) (k : ℕ) → me.0.hand ≡ Some k → Has me.0.turns k →
      (n : ℕ) × Has me.0.numbers n → me.1 ≡ (k, Empty) ∷ [] →
      Allows Rule slots id me k (λ n. n) (rested (step slots k 0 0 none) me)
  rests slots id me k hand turn number carried s r _ at _ =
      let w = after_rest me.0 in
      let t = r.each_turn id k me.0 at turn in let inside = t.0 in let wide = r.words in let deep = r.slots in
      let x : ℕ = get_or s.words k 0 in let word = get_or-set_same s.words k x 0 (omega arith) ∙ t.1 in (
        w,
        gives,
        tt,
        subst (λ (cs : List (ℕ × TablePlace T)). Rule (stepped s k x id cs w gives)) (sym carried)
            (lane_step s r k id x id (some Empty) me.0 w r.past
            (next_same k x id r.past t.1 r.came.right (r.came.held k inside t.1 ∙ ap Some (sym t.2)))
            (record {
              numbers = refl;
              misses = refl;
              turns = λ j _. refl;
              before = λ j other e. other (sym (same_Some k j (sym hand ∙ e)));
              after = λ j _. none-some j;
              number = number;
            }) at inside
            (inr record {
              word = word;
              view = w;
              seated = set_here s.views id w (at_below s.views id me.0 at);
              turn = turn;
              at_rest = λ _. set_here s.homes k (some Empty) (omega arith);
              in_hand = λ e. absurd (none-some k e);
            }) (λ seat u there has'. (
              word,
              ⊎_elim (λ p. p.0) (λ p. (r.each_turn seat k u p.1 has').2 ∙ sym t.2)
                  (at_set s.views id seat w u there),
            ))),
        ap (λ (cs : List (ℕ × TablePlace T)). (w, Rattle.atomic_table.specs.Table.rest cs)) carried,
      )

  -- taking the empty slot in hand again
  pub reaches : (slots id : ℕ) (me : SeatHands T) (k : ℕ) → me.0.hand ≡ None → Has me.0.turns k →
      (n : ℕ) × Has me.0.numbers n → me.1 ≡ [] → Allows Rule slots id me k (λ n. n) (reached (step slots k 0 0 none) me)
  reaches slots id me k hand turn number carried s r _ at _ =
      let w = after_reach k me.0 in
      let t = r.each_turn id k me.0 at turn in let inside = t.0 in let wide = r.words in let deep = r.slots in
      let h = mine s r k id me.0 at turn in
      let x : ℕ = get_or s.words k 0 in
      let word = get_or-set_same s.words k x 0 (omega arith) ∙ t.1 in (
        w,
        takes k Empty,
        h.at_rest (λ e. none-some k (sym hand ∙ (ap (λ (z : V). z.hand) (sym (its_view s k id me.0 at h)) ∙ e))),
        lane_step s r k id x id none me.0 w r.past
            (next_same k x id r.past t.1 r.came.right (r.came.held k inside t.1 ∙ ap Some (sym t.2)))
            (record {
              numbers = refl;
              misses = refl;
              turns = λ j _. refl;
              before = λ j _ e. none-some j (sym hand ∙ e);
              after = λ j other e. other (sym (same_Some k j e));
              number = number;
            }) at inside
            (inr record {
              word = word;
              view = w;
              seated = set_here s.views id w (at_below s.views id me.0 at);
              turn = turn;
              at_rest = λ a. absurd (a refl);
              in_hand = λ _. set_here s.homes k none (omega arith);
            })
            (λ seat u there has'. (
              word,
              ⊎_elim (λ p. p.0) (λ p. (r.each_turn seat k u p.1 has').2 ∙ sym t.2)
                  (at_set s.views id seat w u there),
            )),
        ap (λ (cs : List (ℕ × TablePlace T)). (w, (k, Empty) ∷ cs)) carried,
      )

  -- giving the turn back, and the slot with its value
  pub gives_back : (slots id : ℕ) (me : SeatHands T) (k : ℕ) (value : T) → me.0.hand ≡ Some k → Has me.0.turns k →
      (n : ℕ) × Has me.0.numbers n → me.1 ≡ (k, Value value) ∷ [] → home_of value ≡ k →
      Allows Rule slots id me k (λ _. 0) (λ _. gave (step slots k 0 0 none) me 0)
  gives_back slots id me k value hand turn number carried home s r _ at _ =
      let w = after_give k me.0 in
      let t = r.each_turn id k me.0 at turn in
      let inside = t.0 in
      let wide = r.words in
      let deep = r.slots in (
        w,
        gives,
        tt,
        subst (λ (cs : List (ℕ × TablePlace T)). Rule (stepped s k 0 id cs w gives)) (sym carried)
            (lane_step s r k id 0 id (some (Value value)) me.0 w (giving k id ∷ r.past)
            (next_giving k id r.past r.came.right (r.came.held k inside t.1 ∙ ap Some (sym t.2)))
            (record {
              numbers = refl;
              misses = refl;
              turns = λ j other. has-without_other j k me.0.turns other;
              before = λ j other e. other (sym (same_Some k j (sym hand ∙ e)));
              after = λ j _. none-some j;
              number = number;
            }) at inside
            (inl record {
              word = get_or-set_same s.words k 0 0 (omega arith);
              value = value;
              home = home;
              slot = set_here s.homes k (some (Value value)) (omega arith);
            }) (λ seat u there has'.
            absurd (⊎_elim
            (λ (p : (seat ≡ id) × (w ≡ u)).
            true≢false (sym has' ∙ (ap (λ (z : V). has k z.turns) (sym p.1) ∙ has-without_same k me.0.turns)))
            (λ p. p.0 ((r.each_turn seat k u p.1 has').2 ∙ sym t.2)) (at_set s.views id seat w u there)))),
        ap (λ (cs : List (ℕ × TablePlace T)). (w, Rattle.atomic_table.specs.Table.rest cs)) carried,
      )
