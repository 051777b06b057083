-- The rule of the clock follows from the history.
use Rattle.std.proofs.Common.{◌≡◌, inr, ℕ, ◌+◌, ◌%◌, ◌^◌, ◌<◌, ◌≤◌, List, [], ◌∷◌, length, sym, refl, ap, ◌∙◌, subst, ⊎_elim, arith}
use mathlib.Core.Option.{some}
use lib.ListN.{get_elem?}
use Rattle.std.proofs.lemmas.Bool.{cases_lt}
use Rattle.atomic_table.proofs.Lists.{at_last}
use Rattle.asio_types.specs.declared.event.Event.{Event}
use Rattle.lane_clock.specs.declared.found.Found.{Found}
use Rattle.lane_clock.specs.declared.found.Change.{Change}
use Rattle.lane_clock.specs.declared.step.ClockStep.{ClockStep}
use Rattle.lane_clock.specs.declared.step.ClockStep.TheVariants.{Draw, Load, Place, Put, Look, Join}
use Rattle.lane_clock.specs.ClockWord.{amount, found_of, word_of, IsParted}
use Rattle.lane_clock.specs.Rule.{clock_in, Draws, DrawsOnce, ChangesAddUp, LoadsAgree}
use Rattle.lane_clock.specs.History.{ClockEvent, steps_under, word_after, drawn, Fits, IsSoundHistory, words_after}
use Rattle.lane_clock.proofs.KnownLemmas.{event, under_same}
use Rattle.lane_clock.proofs.MomentLemmas.{Tail, tail_refl, tail_more, at_later, Moment, moment_of, One, order_of, in_order}
use Rattle.lane_clock.proofs.ClockLemmas.{drawn_grows, word_stays, found_clock, found_word, word_bounded}
use Rattle.lane_clock.proofs.FindingLemmas.{sound_at, older_tail, draw_clock, load_clock, finding, the_clock, drawn_once}

-- each clock below was drawn
each_drawn : (guards seats : ℕ) → seats ≤ 2 ^ 15 → (es : List ClockEvent) → IsSoundHistory guards seats es → (k : ℕ) →
    k < drawn es →
    (m : ℕ) × (i : ℕ) × (change : Change) × (found : Found) × Draws (λ n. steps_under n es) m i change found
    × (found.clock ≡ k)
each_drawn g s few [] sound k lt = absurd (omega arith)
each_drawn g s few (e ∷ es) sound k lt =
    go e.step sound.2 (λ (old : k < drawn es). lift (each_drawn g s few es sound.0 k old)) lt
  where
    lift : ((m : ℕ) × (i : ℕ) × (change : Change) × (found : Found) × Draws (λ n. steps_under n es) m i change found
        × (found.clock ≡ k)) →
        (m : ℕ) × (i : ℕ) × (change : Change) × (found : Found) × Draws (λ n. steps_under n (e ∷ es)) m i change found
        × (found.clock ≡ k)
    lift h = (
      h.0,
      h.1,
      h.2,
      h.3,
      (h.4.0, at_later h.0 es (e ∷ es) h.1 (Draw h.4.0 h.2 h.3) (inr (tail_refl es)) h.4.1),
      h.5,
    )

    go : (st : ClockStep) → Fits g es e.by st
        → (k < drawn es →
        (m : ℕ) × (i : ℕ) × (change : Change) × (found : Found)
        × Draws (λ n. steps_under n (event e.by st ∷ es)) m i change found × (found.clock ≡ k))
        → k < Rattle.lane_clock.specs.Steps.draw_count st + drawn es
        → (m : ℕ) × (i : ℕ) × (change : Change) × (found : Found)
        × Draws (λ n. steps_under n (event e.by st ∷ es)) m i change found × (found.clock ≡ k)
    go (Draw shown c f) fits old l = ⊎_elim old
        (λ (ge : drawn es ≤ k). (
          e.by,
          length (steps_under e.by es),
          c,
          f,
          (
            shown,
            subst (λ xs. get_elem? xs (length (steps_under e.by es)) ≡ some (Draw shown c f))
                (sym (under_same es e.by (Draw shown c f)))
                (at_last (steps_under e.by es) (Draw shown c f) (length (steps_under e.by es)) refl),
          ),
          found_clock g s es few sound.0 f fits.0 ∙ omega arith,
        ))
        (cases_lt k (drawn es))
    go (Load f) fits old l = old (omega arith)
    go (Place lane place) fits old l = old (omega arith)
    go (Put lane place note) fits old l = old (omega arith)
    go (Look lane place held) fits old l = old (omega arith)
    go (Join counts) fits old l = old (omega arith)

module _ (guards seats : ℕ) (small : guards < 2 ^ 15) (few : seats ≤ 2 ^ 15) (es : List ClockEvent)
    (sound : IsSoundHistory guards seats es) where
  pub draws_once : DrawsOnce (λ n. steps_under n es) (words_after guards es)
  draws_once =
      let the : clock_in (words_after guards es) ≡ drawn es = the_clock guards seats small few es sound in record {
        below = λ m i c f h.
            let p = moment_of es m i (Draw h.0 c f) h.1 in
            let x : drawn (event m (Draw h.0 c f) ∷ p.older) ≤ drawn es = drawn_grows _ es p.tail in
            let y : f.clock ≡ drawn p.older = draw_clock guards seats small few es sound m i c f p in
            omega arith;
        each = λ k lt. each_drawn guards seats few es sound k (omega arith);
        once = drawn_once guards seats small few es sound;
        never_falls = λ m i j f g lt hf hg.
            let p = finding guards seats small few es sound m i f hf in
            let q = finding guards seats small few es sound m j g hg in
            let x : drawn p.moment.older ≤ drawn q.moment.older =
            drawn_grows _ _
            (tail_more p.moment.older (event m p.step) q.moment.older
            (in_order es m i j p.step q.step p.moment q.moment lt)) in
            let y : f.clock ≡ drawn p.moment.older = p.clock in
            let z : g.clock ≡ drawn q.moment.older = q.clock in
            omega arith;
        rises = λ m i j c f g lt hf hg.
            let p = moment_of es m i (Draw hf.0 c f) hf.1 in
            let q = finding guards seats small few es sound m j g hg in
            let x : drawn (event m (Draw hf.0 c f) ∷ p.older) ≤ drawn q.moment.older =
            drawn_grows _ _ (in_order es m i j (Draw hf.0 c f) q.step p q.moment lt) in
            let y : f.clock ≡ drawn p.older = draw_clock guards seats small few es sound m i c f p in
            let z : g.clock ≡ drawn q.moment.older = q.clock in
            omega arith;
      }

  pub changes_add_up : ChangesAddUp (λ n. steps_under n es) (words_after guards es) guards
  changes_add_up =
      let the : clock_in (words_after guards es) ≡ drawn es = the_clock guards seats small few es sound in
      let word : (m i : ℕ) (shown : Event) (c : Change) (f : Found) (p : Moment es m i (Draw shown c f)) →
      word_of f ≡ word_after guards p.older
      = λ m i shown c f p.
      let s = sound_at guards seats small few es sound m i (Draw shown c f) p in
      found_word guards seats p.older few s.0 small f s.2.0 in record {
        parted = λ m i f h.
            let q = finding guards seats small few es sound m i f h in
            let w : word_after guards q.moment.older < 2 ^ 64 = word_bounded guards small q.moment.older in
            subst IsParted (sym q.found) (omega arith, omega arith, omega arith);
        first = λ m i c f h e.
            let p = moment_of es m i (Draw h.0 c f) h.1 in
            let y : f.clock ≡ drawn p.older = draw_clock guards seats small few es sound m i c f p in
            word m i h.0 c f p ∙ sym (word_stays guards [] p.older (nil_tail p.older) (omega arith));
        none = λ e. sym (word_stays guards [] es (nil_tail es) (omega arith));
        next = λ m i n j c d f g hf hg e.
            let p = moment_of es m i (Draw hf.0 c f) hf.1 in
            let q = moment_of es n j (Draw hg.0 d g) hg.1 in
            let k : f.clock ≡ drawn p.older = draw_clock guards seats small few es sound m i c f p in
            let l : g.clock ≡ drawn q.older = draw_clock guards seats small few es sound n j d g q in
            ⊎_elim
            (λ before.
            word n j hg.0 d g q
            ∙ (sym (word_stays guards (event m (Draw hf.0 c f) ∷ p.older) q.older before (omega arith))
            ∙ ap (λ w. (w + amount c) % 2 ^ 64) (sym (word m i hf.0 c f p))))
            (λ more.
            ⊎_elim
            (λ after.
            let x : drawn (event n (Draw hg.0 d g) ∷ q.older) ≤ drawn p.older = drawn_grows _ _ after in
            absurd (omega arith))
            (λ (one : One m i n j (Draw hf.0 c f) (Draw hg.0 d g) p.older q.older).
            let x : drawn p.older ≡ drawn q.older = ap drawn one.older in absurd (omega arith)) more)
            (order_of es m i n j (Draw hf.0 c f) (Draw hg.0 d g) p q);
        last = λ m i c f h e.
            let p = moment_of es m i (Draw h.0 c f) h.1 in
            let k : f.clock ≡ drawn p.older = draw_clock guards seats small few es sound m i c f p in
            sym (word_stays guards (event m (Draw h.0 c f) ∷ p.older) es p.tail (omega arith))
            ∙ ap (λ w. (w + amount c) % 2 ^ 64) (sym (word m i h.0 c f p));
      }
    where
      nil_tail : (xs : List ClockEvent) → Tail [] xs
      nil_tail [] = refl
      nil_tail (x ∷ xs) = inr (nil_tail xs)

  pub loads_agree : LoadsAgree (λ n. steps_under n es) (words_after guards es)
  loads_agree =
      let the : clock_in (words_after guards es) ≡ drawn es = the_clock guards seats small few es sound in
      let found : (m i : ℕ) (f : Found) (p : Moment es m i (Load f)) → f ≡ found_of (word_after guards p.older)
      = λ m i f p. (sound_at guards seats small few es sound m i (Load f) p).2 in record {
        within = λ m i f h.
            let p = moment_of es m i (Load f) h in
            let x : drawn p.older ≤ drawn es =
            drawn_grows _ es (older_tail guards seats small few es sound m i (Load f) p) in
            let k : f.clock ≡ drawn p.older = load_clock guards seats small few es sound m i f p in
            omega arith;
        drawn = λ m i n j c f g hf hg e.
            let p = moment_of es m i (Load f) hf in
            let q = moment_of es n j (Draw hg.0 c g) hg.1 in
            let k : f.clock ≡ drawn p.older = load_clock guards seats small few es sound m i f p in
            let l : g.clock ≡ drawn q.older = draw_clock guards seats small few es sound n j c g q in
            let drew : g ≡ found_of (word_after guards q.older) =
            (sound_at guards seats small few es sound n j (Draw hg.0 c g) q).2.0 in
            ⊎_elim
            (λ before.
            found m i f p
            ∙ (ap found_of (word_stays guards p.older q.older
            (tail_more p.older (event m (Load f)) q.older before) (omega arith)) ∙ sym drew))
            (λ more. ⊎_elim
            (λ after.
            let x : drawn (event n (Draw hg.0 c g) ∷ q.older) ≤ drawn p.older = drawn_grows _ _ after in
            absurd (omega arith))
            (λ (one : One m i n j (Load f) (Draw hg.0 c g) p.older q.older).
            found m i f p ∙ (ap (λ x. found_of (word_after guards x)) one.older ∙ sym drew))
            more)
            (order_of es m i n j (Load f) (Draw hg.0 c g) p q);
        standing = λ m i f h e.
            let p = moment_of es m i (Load f) h in
            let k : f.clock ≡ drawn p.older = load_clock guards seats small few es sound m i f p in
            let s = sound_at guards seats small few es sound m i (Load f) p in
            found_word guards seats p.older few s.0 small f s.2
            ∙ word_stays guards p.older es (older_tail guards seats small few es sound m i (Load f) p) (omega arith);
      }
