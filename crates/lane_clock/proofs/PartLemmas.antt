-- The whole rule follows from the history.
use Rattle.std.proofs.Common.{◌≡◌, ℕ, ◌+◌, ◌^◌, ◌<◌, ◌≤◌, List, ◌∷◌, length, slice_index, sym, ap, ◌∙◌, ⊎_elim, arith, Option, Some, None}
use Rattle.std.proofs.lemmas.Bool.{cases_lt}
use Rattle.lane_clock.specs.declared.note.Note.{Note}
use Rattle.lane_clock.specs.declared.step.ClockStep.{ClockStep}
use Rattle.lane_clock.specs.declared.step.ClockStep.TheVariants.{Draw, Place, Put, Look, Join}
use Rattle.lane_clock.specs.Rule.{Puts, Looks, Precedes, PlacesOnce, CellsOnce, PlacesInOrder, JoinsBefore, EmptyLooks, ClockRule}
use Rattle.lane_clock.specs.History.{ClockEvent, steps_under, places_after, cell_after, IsSoundHistory, words_after}
use Rattle.lane_clock.proofs.KnownLemmas.{at_within, event}
use Rattle.lane_clock.proofs.MomentLemmas.{Tail, tail_more, tail_trans, under_length, at_later, Moment, moment_of, moment_in, One, Before, order_of, within_before, in_order, before_index}
use Rattle.lane_clock.proofs.FindingLemmas.{sound_at, older_tail, precedes_by, precedes}
use Rattle.lane_clock.proofs.RuleLemmas.{draws_once, changes_add_up, loads_agree}
use Rattle.lane_clock.proofs.CellLemmas.{places_grow, placed_here, put_here, cell_stays, each_put, each_placed}

-- a put is no look
put_or_look : (a b c d : ℕ) (x : Note) (y : Option Note) → Put a b x ≡ Look c d y → ⊥
put_or_look a b c d x y h = cc

module _ (guards seats : ℕ) (small : guards < 2 ^ 15) (few : seats ≤ 2 ^ 15) (es : List ClockEvent)
    (sound : IsSoundHistory guards seats es) where
  abbrev lists : ℕ → List ClockStep
  lists n = steps_under n es

  -- a draw of a place found so many places
  place_is : (m i lane place : ℕ) (p : Moment es m i (Place lane place)) → place ≡ places_after lane p.older
  place_is m i lane place p = (sound_at guards seats small few es sound m i (Place lane place) p).2.0

  -- and one more is drawn whenever it is over
  place_over : (m i lane place : ℕ) (p : Moment es m i (Place lane place)) (xs : List ClockEvent) →
      Tail (event m (Place lane place) ∷ p.older) xs → place < places_after lane xs
  place_over m i lane place p xs h =
      let a : places_after lane (event m (Place lane place) ∷ p.older) ≤ places_after lane xs =
      places_grow lane _ xs h in
      let b : places_after lane (event m (Place lane place) ∷ p.older) ≡ places_after lane p.older + 1 =
      placed_here p.older m lane place in
      let c : place ≡ places_after lane p.older = place_is m i lane place p in
      omega arith

  place_order : (m i n j lane p q : ℕ) (x : Moment es m i (Place lane p)) (y : Moment es n j (Place lane q)) → p < q →
      Before es m i n j (Place lane p) (Place lane q) x y
  place_order m i n j lane p q x y lt =
      let c : q ≡ places_after lane y.older = place_is n j lane q y in
      let d : p ≡ places_after lane x.older = place_is m i lane p x in
      ⊎_elim (λ before. before)
      (λ more. ⊎_elim
      (λ after. let a : q < places_after lane x.older = place_over n j lane q y x.older after in absurd (omega arith))
      (λ (one : One m i n j (Place lane p) (Place lane q) x.older y.older).
      let a : places_after lane x.older ≡ places_after lane y.older = ap (places_after lane) one.older in
      absurd (omega arith))
      more)
      (order_of es m i n j (Place lane p) (Place lane q) x y)

  pub places_once : PlacesOnce lists (words_after guards es)
  places_once = record {
    below = λ m i lane place h. let p = moment_of es m i (Place lane place) h in place_over m i lane place p es p.tail;
    each = λ lane k lt. each_placed guards seats es sound lane k lt;
    once = λ m i n j lane place hp hq.
        let p = moment_of es m i (Place lane place) hp in
        let q = moment_of es n j (Place lane place) hq in
        let c : place ≡ places_after lane p.older = place_is m i lane place p in
        let d : place ≡ places_after lane q.older = place_is n j lane place q in
        ⊎_elim
        (λ before. let a : place < places_after lane q.older = place_over m i lane place p q.older before in absurd (omega arith))
        (λ more. ⊎_elim
        (λ after. let a : place < places_after lane p.older = place_over n j lane place q p.older after in absurd (omega arith))
        (λ (one : One m i n j (Place lane place) (Place lane place) p.older q.older). (one.number, one.place))
        more)
        (order_of es m i n j (Place lane place) (Place lane place) p q);
  }

  pub places_in_order : PlacesInOrder lists
  places_in_order m i n j lane p q lt hp hq =
      let x = moment_of es m i (Place lane p) hp in
      let y = moment_of es n j (Place lane q) hq in
      precedes guards seats small few es sound m i n j (Place lane p) (Place lane q) x y
      (tail_more x.older (event m (Place lane p)) y.older (place_order m i n j lane p q x y lt))

  -- once put, a cell holds its note
  holds_at : (m i lane place : ℕ) (note : Note) (p : Moment es m i (Put lane place note)) (xs : List ClockEvent) →
      Tail (event m (Put lane place note) ∷ p.older) xs → IsSoundHistory guards seats xs →
      cell_after lane place xs ≡ Some note
  holds_at m i lane place note p xs h s =
      cell_stays guards seats lane place note (event m (Put lane place note) ∷ p.older) xs h s
      (put_here p.older m lane place note)

  was_empty : (m i lane place : ℕ) (note : Note) (p : Moment es m i (Put lane place note)) →
      cell_after lane place p.older ≡ None
  was_empty m i lane place note p = (sound_at guards seats small few es sound m i (Put lane place note) p).2.1

  never_both : (x : Note) (held : Option Note) → held ≡ Some x → held ≡ None → ⊥
  never_both x held e f = let g : None ≡ Some x = sym f ∙ e in cc

  put_once : (m i n j lane place : ℕ) (x y : Note) → Puts lists m i lane place x → Puts lists n j lane place y →
      (m ≡ n) × (i ≡ j)
  put_once m i n j lane place x y hx hy =
      let p = moment_of es m i (Put lane place x) hx in
      let q = moment_of es n j (Put lane place y) hy in
      ⊎_elim
      (λ before.
      absurd (never_both x (cell_after lane place q.older)
      (holds_at m i lane place x p q.older before
      (sound_at guards seats small few es sound n j (Put lane place y) q).0) (was_empty n j lane place y q)))
      (λ more. ⊎_elim
      (λ after.
      absurd (never_both y (cell_after lane place p.older)
      (holds_at n j lane place y q p.older after
      (sound_at guards seats small few es sound m i (Put lane place x) p).0) (was_empty m i lane place x p)))
      (λ (one : One m i n j (Put lane place x) (Put lane place y) p.older q.older). (one.number, one.place))
      more)
      (order_of es m i n j (Put lane place x) (Put lane place y) p q)

  -- what a look found
  look_is : (n j lane place : ℕ) (held : Option Note) (q : Moment es n j (Look lane place held)) →
      held ≡ cell_after lane place q.older
  look_is n j lane place held q = (sound_at guards seats small few es sound n j (Look lane place held) q).2

  seen_put : (n j lane place : ℕ) (note : Note) → Looks lists n j lane place (Some note) →
      (m : ℕ) × (i : ℕ) × Puts lists m i lane place note × Precedes lists m i n j
  seen_put n j lane place note h =
      let q = moment_of es n j (Look lane place (Some note)) h in
      let there = each_put lane place note q.older (sym (look_is n j lane place (Some note) q)) in
      let old = moment_of q.older there.0 there.1 (Put lane place note) there.2 in
      let up = older_tail guards seats small few es sound n j (Look lane place (Some note)) q in
      let p = moment_in q.older es there.0 there.1 (Put lane place note) up old in (
        there.0,
        there.1,
        at_later there.0 q.older es there.1 (Put lane place note) up there.2,
        precedes guards seats small few es sound there.0 there.1 n j (Put lane place note) (Look lane place (Some note))
            p q (tail_more old.older (event there.0 (Put lane place note)) q.older old.tail),
      )

  pub cells_once : CellsOnce lists (words_after guards es)
  cells_once = record {
    placed = λ m i lane place note h.
        let p = moment_of es m i (Put lane place note) h in
        let drew = (sound_at guards seats small few es sound m i (Put lane place note) p).2.0 in
        let w : drew.0 < length (steps_under m p.older) =
        at_within (steps_under m p.older) drew.0 (Place lane place) drew.1 in
        let e : i ≡ length (steps_under m p.older) = p.index in (
          drew.0,
          omega arith,
          at_later m p.older es drew.0 (Place lane place)
              (older_tail guards seats small few es sound m i (Put lane place note) p) drew.1,
        );
    once = put_once;
    kept = λ m i lane place note h.
        let p = moment_of es m i (Put lane place note) h in holds_at m i lane place note p es p.tail sound;
    filled = λ lane place note h. each_put lane place note es h;
    seen = seen_put;
  }

  -- what was joined in was made before the join
  joined_before : (n j m a : ℕ) (counts : List ℕ) (s : ClockStep) (q : Moment es n j (Join counts))
      (p : Moment es m a s) → a < slice_index counts m → Before es m a n j s (Join counts) p q
  joined_before n j m a counts s q p lt =
      let b : slice_index counts m ≤ length (steps_under m q.older) =
      (sound_at guards seats small few es sound n j (Join counts) q).2 m in
      within_before es m a n j s (Join counts) p q (omega arith)

  pub joins_before : JoinsBefore lists
  joins_before = record {
    within = λ n j m counts h.
        let q = moment_of es n j (Join counts) h in
        let b : slice_index counts m ≤ length (steps_under m q.older) =
        (sound_at guards seats small few es sound n j (Join counts) q).2 m in
        let l : length (steps_under m q.older) ≤ length (steps_under m es) =
        under_length m q.older es (older_tail guards seats small few es sound n j (Join counts) q) in
        omega arith;
    before = λ n j m counts h.
        let q = moment_of es n j (Join counts) h in
        precedes_by guards seats small few es sound m (slice_index counts m) n j (Join counts) q
        (λ a shown c d lt p. joined_before n j m a counts (Draw shown c d) q p lt);
  }

  -- no look finds a cell empty after it was put
  not_empty : (n j m i lane place : ℕ) (note : Note) (q : Moment es n j (Look lane place None))
      (p : Moment es m i (Put lane place note)) → Tail (event m (Put lane place note) ∷ p.older) q.older → ⊥
  not_empty n j m i lane place note q p h = never_both note (cell_after lane place q.older)
      (holds_at m i lane place note p q.older h (sound_at guards seats small few es sound n j (Look lane place None) q).0)
      (sym (look_is n j lane place None q))

  pub empty_looks : EmptyLooks lists
  empty_looks = record {
    own = λ n j i lane place note hq hp.
        let q = moment_of es n j (Look lane place None) hq in
        let p = moment_of es n i (Put lane place note) hp in
        ⊎_elim
        (λ before. absurd (not_empty n j n i lane place note q p before))
        (λ more. ⊎_elim
        (λ after. before_index es n j i (Look lane place None) (Put lane place note) q p after)
        (λ (one : One n i n j (Put lane place note) (Look lane place None) p.older q.older).
        absurd (put_or_look lane place lane place note None one.step))
        more)
        (order_of es n i n j (Put lane place note) (Look lane place None) p q);
    joined = λ n j h m i lane place counts note hq hj lt hp.
        let q = moment_of es n j (Look lane place None) hq in
        let k = moment_of es n h (Join counts) hj in
        let p = moment_of es m i (Put lane place note) hp in
        ⊎_elim
        (λ early. absurd (not_empty n j m i lane place note q p
        (tail_trans (event m (Put lane place note) ∷ p.older) k.older q.older
        (joined_before n h m i counts (Put lane place note) k p early)
        (tail_more k.older (event n (Join counts)) q.older (in_order es n h j (Join counts) (Look lane place None) k q lt)))))
        (λ late. late)
        (cases_lt i (slice_index counts m));
  }

  pub rule_of : ClockRule lists (words_after guards es) guards
  rule_of = record {
    draws_once = draws_once guards seats small few es sound;
    places_once = places_once;
    cells_once = cells_once;
    places_in_order = places_in_order;
    changes_add_up = changes_add_up guards seats small few es sound;
    loads_agree = loads_agree guards seats small few es sound;
    joins_before = joins_before;
    empty_looks = empty_looks;
  }
