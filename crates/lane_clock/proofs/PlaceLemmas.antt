-- A seat may draw a place, put a cell whose place it drew, and look at a cell, whatever the table is.
use Rattle.std.proofs.Common.{◌≡◌, ℕ, suc, ◌+◌, ◌-◌, ◌%◌, ◌^◌, ◌<◌, Bool, true, false, ◌&&◌, ◌||◌, eqb, eqb-true, eq-eqb, List, [], ◌∷◌, length, set, slice_index, cond, sym, refl, ap, ◌∙◌, subst, arith, Option, Some, None}
use Rattle.atomic_table.specs.Table.{State, Me, keeps, step, Allows}
use mathlib.Core.Option.{some, none, some-ne-none, some-injective}
use lib.ListN.{get_elem?}
use Rattle.std.proofs.lemmas.Bool.{false≢true}
use Rattle.lane_clock.specs.declared.note.Note.{Note}
use Rattle.lane_clock.specs.declared.step.ClockStep.{ClockStep}
use Rattle.lane_clock.specs.declared.step.ClockStep.TheVariants.{Draw, Load, Place, Put, Look, Join}
use Rattle.lane_clock.specs.declared.step.View.{View}
use Rattle.lane_clock.specs.NoteWord.{IsNote, note_word, note_in_word}
use Rattle.lane_clock.specs.Layout.{Layout, cell_word, lane_of_place, lane_of_cell, place_of_cell, slot, slot_lane, slot_place}
use Rattle.lane_clock.specs.Knowledge.{known_at, steps_at}
use Rattle.lane_clock.specs.Steps.{place_count, step_count, is_place, is_put, has_drawn, has_put}
use Rattle.lane_clock.specs.Chronicle.{HasOneHistory}
use Rattle.lane_clock.specs.History.{ClockEvent, IsSoundHistory, Fits, cell_after, cell_with, places_after, steps_under}
use Rattle.lane_clock.specs.Plays.{step_view, places, puts, looks}
use Rattle.lane_clock.proofs.KeepLemmas.{steps_keep}
use Rattle.lane_clock.proofs.WordLemmas.{slot_lane-slot, slot_place-slot, placed_words, put_words, looked}
use Rattle.lane_clock.proofs.NoteLemmas.{IsHeld, held_back, note_in_word-note_word}
use Rattle.lane_clock.proofs.CountLemmas.{few_placed}
use Rattle.lane_clock.proofs.PartLemmas.{places_once, cells_once}

-- what is drawn stands among the steps, and what is put is among what was put
pub drawn_at : (lane place : ℕ) (ss : List ClockStep) → has_drawn lane place ss ≡ true →
    (i : ℕ) × (get_elem? ss i ≡ some (Place lane place))
drawn_at lane place [] h = absurd (false≢true h)
drawn_at lane place (s ∷ ss) h = go (drawn_at lane place ss) s (is_place lane place s) refl h
  where
    same : (at p : ℕ) (b c : Bool) → eqb lane at ≡ b → eqb place p ≡ c → (b && c) ≡ true → Place at p ≡ Place lane place
    same at p true true f g e = λ i. Place (sym (eqb-true lane at f) i) (sym (eqb-true place p g) i)
    same at p true false f g e = absurd (false≢true e)
    same at p false c f g e = absurd (false≢true e)

    is_it : (t : ClockStep) → is_place lane place t ≡ true → t ≡ Place lane place
    is_it (Draw shown c f) e = absurd (false≢true e)
    is_it (Load f) e = absurd (false≢true e)
    is_it (Place at p) e = same at p (eqb lane at) (eqb place p) refl refl e
    is_it (Put at p note) e = absurd (false≢true e)
    is_it (Look at p held) e = absurd (false≢true e)
    is_it (Join counts) e = absurd (false≢true e)

    go : (has_drawn lane place ss ≡ true → (i : ℕ) × (get_elem? ss i ≡ some (Place lane place))) →
        (t : ClockStep) (b : Bool) → is_place lane place t ≡ b → (b || has_drawn lane place ss) ≡ true →
        (i : ℕ) × (get_elem? (t ∷ ss) i ≡ some (Place lane place))
    go back t true e q = (0, ap some (is_it t e))
    go back t false e q = let r = back q in (suc r.0, r.1)

pub put_seen : (lane place : ℕ) (note : Note) (ss : List ClockStep) (i : ℕ) →
    get_elem? ss i ≡ some (Put lane place note) → has_put lane place ss ≡ true
put_seen lane place note [] i e = absurd (some-ne-none _ (sym e))
put_seen lane place note (s ∷ ss) Prim.Native.Nat.zero e =
    ap (λ (t : ClockStep). is_put lane place t || has_put lane place ss) (some-injective s (Put lane place note) e)
    ∙ rw (eq-eqb lane lane refl, eq-eqb place place refl) refl
put_seen lane place note (s ∷ ss) (suc i) e =
    ap (λ b. is_put lane place s || b) (put_seen lane place note ss i e) ∙ or_true (is_put lane place s)
  where
    or_true : (b : Bool) → (b || true) ≡ true
    or_true true = refl
    or_true false = refl

pub put_at : (lane place : ℕ) (ss : List ClockStep) → has_put lane place ss ≡ true →
    (i : ℕ) × (note : Note) × (get_elem? ss i ≡ some (Put lane place note))
put_at lane place [] h = absurd (false≢true h)
put_at lane place (s ∷ ss) h = go (put_at lane place ss) s (is_put lane place s) refl h
  where
    same : (at p : ℕ) (note : Note) (b c : Bool) → eqb lane at ≡ b → eqb place p ≡ c → (b && c) ≡ true →
        Put at p note ≡ Put lane place note
    same at p note true true f g e = λ i. Put (sym (eqb-true lane at f) i) (sym (eqb-true place p g) i) note
    same at p note true false f g e = absurd (false≢true e)
    same at p note false c f g e = absurd (false≢true e)

    is_it : (t : ClockStep) → is_put lane place t ≡ true → (note : Note) × (t ≡ Put lane place note)
    is_it (Draw shown c f) e = absurd (false≢true e)
    is_it (Load f) e = absurd (false≢true e)
    is_it (Place at p) e = absurd (false≢true e)
    is_it (Put at p note) e = (note, same at p note (eqb lane at) (eqb place p) refl refl e)
    is_it (Look at p held) e = absurd (false≢true e)
    is_it (Join counts) e = absurd (false≢true e)

    go : (has_put lane place ss ≡ true → (i : ℕ) × (note : Note) × (get_elem? ss i ≡ some (Put lane place note))) →
        (t : ClockStep) (b : Bool) → is_put lane place t ≡ b → (b || has_put lane place ss) ≡ true →
        (i : ℕ) × (note : Note) × (get_elem? (t ∷ ss) i ≡ some (Put lane place note))
    go back t true e q = let r = is_it t e in (0, r.0, ap some r.1)
    go back t false e q = let r = back q in (suc r.0, r.1, r.2)

-- a cell holds a note that it can hold
pub held_is : (guards seats lane place : ℕ) (es : List ClockEvent) → IsSoundHistory guards seats es →
    IsHeld (cell_after lane place es)
held_is g s lane place [] sound = tt
held_is g s lane place (e ∷ es) sound = go e.step sound.2 (held_is g s lane place es sound.0)
  where
    either : (b : Bool) (note : Note) (held : Option Note) → IsNote note → IsHeld held →
        IsHeld (cond b (Some note) held)
    either true note held h k = h
    either false note held h k = k

    go : (st : ClockStep) → Fits g es e.by st → IsHeld (cell_after lane place es) →
        IsHeld (cell_with lane place st (cell_after lane place es))
    go (Draw shown c f) fits h = h
    go (Load f) fits h = h
    go (Place at p) fits h = h
    go (Put at p note) fits h = either (eqb lane at && eqb place p) note (cell_after lane place es) fits.2 h
    go (Look at p held) fits h = h
    go (Join counts) fits h = h

module _ (plan : Layout) {S : Type 0} (s : State S View) (kept : HasOneHistory plan {S = S} s) where
  -- a cell whose place was drawn under a number and not put under it is empty
  empty_yet : (n lane place : ℕ) → has_drawn lane place (steps_under n kept.history) ≡ true →
      has_put lane place (steps_under n kept.history) ≡ false → (held : Option Note) →
      cell_after lane place kept.history ≡ held → held ≡ None
  empty_yet n lane place drew fresh None e = refl
  empty_yet n lane place drew fresh (Some note) e =
      let cells = cells_once plan.guards plan.seats kept.few.1 kept.few.0 kept.history kept.sound in
      let once = (places_once plan.guards plan.seats kept.few.1 kept.few.0 kept.history kept.sound).once in
      let put = cells.filled lane place note e in
      let placed = cells.placed put.0 put.1 lane place note put.2 in
      let mine = drawn_at lane place (steps_under n kept.history) drew in
      let same = once put.0 placed.0 n mine.0 lane place placed.2 mine.1 in
      let here = subst (λ m. get_elem? (steps_under m kept.history) put.1 ≡ some (Put lane place note)) same.0 put.2 in
      absurd (false≢true (sym fresh ∙ put_seen lane place note (steps_under n kept.history) put.1 here))

  -- the next place of a lane wasn't put
  next_fresh : (n lane : ℕ) (b : Bool) →
      has_put lane (places_after lane kept.history) (steps_under n kept.history) ≡ b → b ≡ false
  next_fresh n lane false e = refl
  next_fresh n lane true e =
      let next : ℕ = places_after lane kept.history in
      let put = put_at lane next (steps_under n kept.history) e in
      let placed =
      (cells_once plan.guards plan.seats kept.few.1 kept.few.0 kept.history kept.sound).placed n put.0 lane next put.1 put.2 in
      let below : next < next =
      (places_once plan.guards plan.seats kept.few.1 kept.few.0 kept.history kept.sound).below n placed.0 lane next placed.2 in
      absurd (omega arith)

module _ (plan : Layout) {S : Type 0} (slots id : ℕ) (me : Me S View)
    (mine : (known_at me.0.known me.0.number).mine ≡ true) where
  pub may_place : (lane : ℕ) → lane < length plan.cells →
      step_count place_count (steps_at me.0.known me.0.number) < 65536
      → Allows (λ s. HasOneHistory plan {S = S} s) slots id me (1 + lane) (λ n. (n + 1) % 2 ^ 64)
      (places (step slots (1 + lane) 1 0 none) me)
  may_place lane inside room s kept homes at small =
      let found : ℕ = slice_index s.words (1 + lane) in
      let whole = (kept.each id me.0 at).whole me.0.number mine in
      let few = few_placed plan.guards plan.seats kept.history lane kept.few.0 kept.sound in
      let back : lane_of_place (1 + lane) ≡ lane = omega arith in
      let is : found ≡ places_after lane kept.history = kept.words.places lane inside in
      let fresh : has_put (lane_of_place (1 + lane)) found (steps_at me.0.known me.0.number) ≡ false
      = (λ i. has_put (back i) (is i) (whole i)) ∙ next_fresh plan s kept me.0.number lane _ refl in (
        step_view me.0 (Place lane found),
        keeps,
        tt,
        steps_keep plan s kept id me.0 at (Place lane found) (set s.words (1 + lane) ((found + 1) % 2 ^ 64)) s.homes mine
            (kept.words.places lane inside, subst (λ ss. step_count place_count ss < 65536) whole room)
            (placed_words plan kept.history s.words kept.words me.0.number lane found inside (omega arith)),
        (ap (λ x. (step_view me.0 (Place x found), me.1)) (sym back), fresh),
      )

  cell_lane : (lane place : ℕ) → place < slice_index plan.cells lane →
      lane_of_cell plan.cells (cell_word plan.cells lane place) ≡ lane
  cell_lane lane place inside =
      let k : ℕ = slot plan.cells lane place in
      let e : 1 + length plan.cells + k - (1 + length plan.cells) ≡ k = omega arith in
      ap (slot_lane plan.cells) e ∙ slot_lane-slot plan.cells lane place inside

  cell_place : (lane place : ℕ) → place < slice_index plan.cells lane →
      place_of_cell plan.cells (cell_word plan.cells lane place) ≡ place
  cell_place lane place inside =
      let k : ℕ = slot plan.cells lane place in
      let e : 1 + length plan.cells + k - (1 + length plan.cells) ≡ k = omega arith in
      ap (slot_place plan.cells) e ∙ slot_place-slot plan.cells lane place inside

  pub may_look : (lane place word : ℕ) → place < slice_index plan.cells lane → word ≡ cell_word plan.cells lane place →
      me.0.plan ≡ plan →
      Allows (λ s. HasOneHistory plan {S = S} s) slots id me word (λ n. n) (looks (step slots word 0 0 none) me)
  may_look lane place word inside is own s kept homes at small =
      let found : ℕ = slice_index s.words word in
      let holds : found ≡ note_word (cell_after lane place kept.history) =
      ap (slice_index s.words) is ∙ kept.words.cells lane place inside in
      let held : note_in_word found ≡ cell_after lane place kept.history =
      ap note_in_word holds
      ∙ held_back (cell_after lane place kept.history) (held_is plan.guards plan.seats lane place kept.history kept.sound) in
      let l : lane_of_cell me.0.plan.cells word ≡ lane =
      (λ i. lane_of_cell (own i).cells (is i)) ∙ cell_lane lane place inside in
      let p : place_of_cell me.0.plan.cells word ≡ place =
      (λ i. place_of_cell (own i).cells (is i)) ∙ cell_place lane place inside in (
        step_view me.0 (Look lane place (note_in_word found)),
        keeps,
        tt,
        steps_keep plan s kept id me.0 at (Look lane place (note_in_word found))
            (set s.words word found) s.homes mine held
            (looked plan kept.history s.words kept.words me.0.number word lane place (note_in_word found)),
        (λ i. (step_view me.0 (Look (sym l i) (sym p i) (note_in_word found)), me.1)),
      )

  pub may_put : (lane place word new : ℕ) (note : Note) → place < slice_index plan.cells lane →
      word ≡ cell_word plan.cells lane place → me.0.plan ≡ plan → IsNote note → new ≡ note_word (Some note) →
      has_drawn lane place (steps_at me.0.known me.0.number) ≡ true →
      has_put lane place (steps_at me.0.known me.0.number) ≡ false →
      Allows (λ s. HasOneHistory plan {S = S} s) slots id me word (λ _. new)
      (λ _. puts (step slots word new 0 none) me new)
  may_put lane place word new note inside is own fine made drew fresh s kept homes at small =
      let whole = (kept.each id me.0 at).whole me.0.number mine in
      let drew' : has_drawn lane place (steps_under me.0.number kept.history) ≡ true =
      subst (λ ss. has_drawn lane place ss ≡ true) whole drew in
      let fresh' : has_put lane place (steps_under me.0.number kept.history) ≡ false =
      subst (λ ss. has_put lane place ss ≡ false) whole fresh in
      let l : lane_of_cell me.0.plan.cells word ≡ lane =
      (λ i. lane_of_cell (own i).cells (is i)) ∙ cell_lane lane place inside in
      let p : place_of_cell me.0.plan.cells word ≡ place =
      (λ i. place_of_cell (own i).cells (is i)) ∙ cell_place lane place inside in (
        step_view me.0 (Put lane place note),
        keeps,
        tt,
        steps_keep plan s kept id me.0 at (Put lane place note) (set s.words word new) s.homes mine (
          drawn_at lane place (steps_under me.0.number kept.history) drew',
          empty_yet plan s kept me.0.number lane place drew' fresh' (cell_after lane place kept.history) refl,
          fine,
        )
            (subst
            (λ (x : ℕ × ℕ).
            Rattle.lane_clock.specs.Chronicle.AreWords plan
            (Rattle.lane_clock.proofs.KnownLemmas.event me.0.number (Put lane place note) ∷ kept.history)
            (set s.words x.0 x.1)) (λ i. (sym is i, sym made i))
            (put_words plan kept.history s.words kept.words me.0.number lane place note inside)),
        (
          note,
          ap note_in_word made ∙ note_in_word-note_word note fine,
          (λ i. (step_view me.0 (Put (sym l i) (sym p i) note), me.1)),
        ),
      )
