-- What the steps of a history found, and which found less.
use Rattle.std.proofs.Common.{◌≡◌, ℕ, ◌^◌, ◌<◌, ◌≤◌, List, ◌∷◌, ⊎_elim, arith}
use mathlib.Core.Option.{some}
use lib.ListN.{get_elem?}
use Rattle.asio_types.specs.declared.event.Event.{Event}
use Rattle.lane_clock.specs.declared.found.Found.{Found}
use Rattle.lane_clock.specs.declared.found.Change.{Change}
use Rattle.lane_clock.specs.declared.step.ClockStep.{ClockStep}
use Rattle.lane_clock.specs.declared.step.ClockStep.TheVariants.{Draw, Load}
use Rattle.lane_clock.specs.ClockWord.{found_of}
use Rattle.lane_clock.specs.Rule.{clock_in, IsFinding, by_draw, by_load, Draws, Finds, Precedes}
use Rattle.lane_clock.specs.History.{ClockEvent, steps_under, word_after, drawn, IsSoundHistory, words_after}
use Rattle.lane_clock.proofs.KnownLemmas.{event}
use Rattle.lane_clock.proofs.MomentLemmas.{Tail, tail_more, tail_trans, sound_tail, Moment, moment_of, One, Before, order_of, in_order}
use Rattle.lane_clock.proofs.ClockLemmas.{drawn_grows, clock_is, found_clock}

module _ (guards seats : ℕ) (small : guards < 2 ^ 15) (few : seats ≤ 2 ^ 15) (es : List ClockEvent)
    (sound : IsSoundHistory guards seats es) where
  abbrev pub lists : ℕ → List ClockStep
  lists n = steps_under n es

  -- at each moment the history was sound, and the step fitted it
  pub sound_at : (m i : ℕ) (st : ClockStep) (p : Moment es m i st) → IsSoundHistory guards seats (event m st ∷ p.older)
  sound_at m i st p = sound_tail guards seats (event m st ∷ p.older) es p.tail sound

  pub older_tail : (m i : ℕ) (st : ClockStep) (p : Moment es m i st) → Tail p.older es
  older_tail m i st p = tail_more p.older (event m st) es p.tail

  pub draw_clock : (m i : ℕ) {shown : Event} (c : Change) (f : Found) (p : Moment es m i (Draw shown c f)) → f.clock ≡ drawn p.older
  draw_clock m i {shown} c f p = let s = sound_at m i (Draw shown c f) p in found_clock guards seats p.older few s.0 f s.2.0

  pub load_clock : (m i : ℕ) (f : Found) (p : Moment es m i (Load f)) → f.clock ≡ drawn p.older
  load_clock m i f p = let s = sound_at m i (Load f) p in found_clock guards seats p.older few s.0 f s.2

  -- a step that finds the clock word, when it was made
  pub record Finding (m i : ℕ) (f : Found) : Type 0 where
    pub step : ClockStep
    pub moment : Moment es m i step
    pub found : f ≡ found_of (word_after guards moment.older)
    pub clock : f.clock ≡ drawn moment.older

  pub finding : (m i : ℕ) (f : Found) → Finds lists m i f → Finding m i f
  finding m i f h = go h.0 h.1 f h.2
    where
      go : (st : ClockStep) → get_elem? (lists m) i ≡ some st → (g : Found) → IsFinding st g → Finding m i g
      go _ e _ (by_draw shown c g) =
          let p = moment_of es m i (Draw shown c g) e in
          record { step = Draw shown c g; moment = p; found = (sound_at m i (Draw shown c g) p).2.0; clock = draw_clock m i c g p }
      go _ e _ (by_load g) =
          let p = moment_of es m i (Load g) e in
          record { step = Load g; moment = p; found = (sound_at m i (Load g) p).2; clock = load_clock m i g p }

  -- what was drawn before a moment is below what is found after a later one
  pub precedes_by : (m i n j : ℕ) (t : ClockStep) (q : Moment es n j t)
      → ((a : ℕ) (shown : Event) (c : Change) (d : Found) → a < i → (p : Moment es m a (Draw shown c d)) →
      Before es m a n j (Draw shown c d) t p q)
      → Precedes lists m i n j
  precedes_by m i n j t q before a b c d f lt gt draws finds =
      let p = moment_of es m a (Draw draws.0 c d) draws.1 in
      let r = finding n b f finds in
      let x : drawn (event m (Draw draws.0 c d) ∷ p.older) ≤ drawn q.older =
      drawn_grows _ _ (before a draws.0 c d lt p) in
      let y : drawn (event n t ∷ q.older) ≤ drawn r.moment.older =
      drawn_grows _ _ (in_order es n j b t r.step q r.moment gt) in
      let k : d.clock ≡ drawn p.older = draw_clock m a c d p in
      let l : f.clock ≡ drawn r.moment.older = r.clock in
      omega arith

  pub precedes : (m i n j : ℕ) (s t : ClockStep) (p : Moment es m i s) (q : Moment es n j t) → Tail p.older q.older →
      Precedes lists m i n j
  precedes m i n j s t p q h =
      precedes_by m i n j t q (λ a shown c d lt r. tail_trans _ p.older q.older (in_order es m a i (Draw shown c d) s r p lt) h)

  pub the_clock : clock_in (words_after guards es) ≡ drawn es
  the_clock = clock_is guards seats es few sound

  pub drawn_once : (m i n j : ℕ) (c d : Change) (f g : Found) → Draws lists m i c f → Draws lists n j d g →
      f.clock ≡ g.clock → (m ≡ n) × (i ≡ j)
  drawn_once m i n j c d f g hf hg e =
      let p = moment_of es m i (Draw hf.0 c f) hf.1 in
      let q = moment_of es n j (Draw hg.0 d g) hg.1 in
      let k : f.clock ≡ drawn p.older = draw_clock m i c f p in
      let l : g.clock ≡ drawn q.older = draw_clock n j d g q in
      ⊎_elim
      (λ before.
      let x : drawn (event m (Draw hf.0 c f) ∷ p.older) ≤ drawn q.older = drawn_grows _ _ before in absurd (omega arith))
      (λ more. ⊎_elim
      (λ after.
      let x : drawn (event n (Draw hg.0 d g) ∷ q.older) ≤ drawn p.older = drawn_grows _ _ after in absurd (omega arith))
      (λ (one : One m i n j (Draw hf.0 c f) (Draw hg.0 d g) p.older q.older). (one.number, one.place))
      more)
      (order_of es m i n j (Draw hf.0 c f) (Draw hg.0 d g) p q)
