-- The table's words after a step.
use Rattle.std.proofs.Common.{◌≡◌, ◌≢◌, ℕ, zero, suc, ◌+◌, ◌-◌, ◌%◌, ◌^◌, ◌<◌, Bool, true, false, List, [], ◌∷◌, length, set, slice_index, eqb, ltb, eq-eqb, ne_eqb, eqb-true, cond, ◌&&◌, lt-ltb, le-ltb, sym, refl, ap, ◌∙◌, subst, arith, Some, Option}
use Rattle.std.proofs.lemmas.List.{length-set, set-get_or, get_or-set_same, get_or-set_other}
use Rattle.std.proofs.lemmas.Bool.{false≢true}
use mathlib.Core.Logic.{dite}
use native.Mathlib.Decide.{ℕ_discrete}
use Rattle.asio_types.specs.declared.event.Event.{Event}
use Rattle.lane_clock.specs.declared.found.Found.{Found}
use Rattle.lane_clock.specs.declared.found.Change.{Change}
use Rattle.lane_clock.specs.declared.found.Change.TheVariants.{Same, Up, Down, DownTwo, Stop}
use Rattle.lane_clock.specs.declared.note.Note.{Note}
use Rattle.lane_clock.specs.declared.step.ClockStep.TheVariants.{Draw, Load, Place, Put, Look, Join}
use Rattle.lane_clock.specs.ClockWord.{amount, change_of}
use Rattle.lane_clock.specs.NoteWord.{note_word}
use Rattle.lane_clock.specs.Layout.{Layout, total, slot, slot_lane, slot_place, place_word, cell_word}
use Rattle.lane_clock.specs.Chronicle.{AreWords}
use Rattle.lane_clock.specs.History.{ClockEvent, places_after, cell_after}
use Rattle.lane_clock.proofs.KnownLemmas.{event}

pub change_of-amount : (c : Change) → change_of (amount c) ≡ c
change_of-amount Same = refl
change_of-amount Up = refl
change_of-amount Down = refl
change_of-amount DownTwo = refl
change_of-amount Stop = refl

pub within : (cs : List ℕ) (lane place : ℕ) → place < slice_index cs lane → lane < length cs
within [] lane place h = absurd (omega arith)
within (c ∷ cs) zero place h = omega arith
within (c ∷ cs) (suc lane) place h = let i : lane < length cs = within cs lane place h in omega arith

pub slot_within : (cs : List ℕ) (lane place : ℕ) → place < slice_index cs lane → slot cs lane place < total cs
slot_within [] lane place h = absurd (omega arith)
slot_within (c ∷ cs) zero place h = let i : place < c = h in omega arith
slot_within (c ∷ cs) (suc lane) place h =
    let i : slot cs lane place < total cs = slot_within cs lane place h in omega arith

pub slot_lane-slot : (cs : List ℕ) (lane place : ℕ) → place < slice_index cs lane →
    slot_lane cs (slot cs lane place) ≡ lane
slot_lane-slot [] lane place h = absurd (omega arith)
slot_lane-slot (c ∷ cs) zero place h = rw (lt-ltb place c h) refl
slot_lane-slot (c ∷ cs) (suc lane) place h =
    let k : ℕ = slot cs lane place in
    let e : c + k - c ≡ k = omega arith in
    let n : ltb (c + k) c ≡ false = le-ltb (c + k) c (omega arith) in
    rw (n, e) (ap suc (slot_lane-slot cs lane place h))

pub slot_place-slot : (cs : List ℕ) (lane place : ℕ) → place < slice_index cs lane →
    slot_place cs (slot cs lane place) ≡ place
slot_place-slot [] lane place h = absurd (omega arith)
slot_place-slot (c ∷ cs) zero place h = rw (lt-ltb place c h) refl
slot_place-slot (c ∷ cs) (suc lane) place h =
    let k : ℕ = slot cs lane place in
    let e : c + k - c ≡ k = omega arith in
    let n : ltb (c + k) c ≡ false = le-ltb (c + k) c (omega arith) in
    rw (n, e) (slot_place-slot cs lane place h)

module _ (plan : Layout) (es : List ClockEvent) (ws : List ℕ) (w : AreWords plan es ws) (n : ℕ) where
  -- a write of what was there
  pub written_back : (i : ℕ) → set ws i (slice_index ws i) ≡ ws
  written_back i = set-get_or ws i 0

  pub loaded : (i : ℕ) (found : Found) → AreWords plan (event n (Load found) ∷ es) (set ws i (slice_index ws i))
  loaded i found =
      subst (AreWords plan (event n (Load found) ∷ es)) (sym (written_back i)) record {
        count = w.count;
        clock = w.clock;
        places = w.places;
        cells = w.cells;
      }

  pub looked : (i lane place : ℕ) (held : Option Note) →
      AreWords plan (event n (Look lane place held) ∷ es) (set ws i (slice_index ws i))
  looked i lane place held =
      subst (AreWords plan (event n (Look lane place held) ∷ es)) (sym (written_back i)) record {
        count = w.count;
        clock = w.clock;
        places = w.places;
        cells = w.cells;
      }

  pub joined_words : (counts : List ℕ) → AreWords plan (event n (Join counts) ∷ es) ws
  joined_words counts = record { count = w.count; clock = w.clock; places = w.places; cells = w.cells }

  pub drawn_words : (shown : Event) (c : Change) (found : Found) →
      AreWords plan (event n (Draw shown c found) ∷ es) (set ws 0 ((slice_index ws 0 + amount c) % 2 ^ 64))
  drawn_words shown c found = let x : ℕ = (slice_index ws 0 + amount c) % 2 ^ 64 in record {
    count = length-set ws 0 x ∙ w.count;
    clock = get_or-set_same ws 0 x 0 (omega (arith, w.count)) ∙ ap (λ y. (y + amount c) % 2 ^ 64) w.clock;
    places = λ lane h. get_or-set_other ws 0 (place_word lane) x 0 (λ e. absurd (omega arith)) ∙ w.places lane h;
    cells = λ lane place h.
        get_or-set_other ws 0 (cell_word plan.cells lane place) x 0 (λ e. absurd (omega arith)) ∙ w.cells lane place h;
  }

  slot_other : (lane place at p : ℕ) → place < slice_index plan.cells lane → p < slice_index plan.cells at →
      cell_word plan.cells at p ≡ cell_word plan.cells lane place → (at ≡ lane) × (p ≡ place)
  slot_other lane place at p hp hq e =
      let s : slot plan.cells at p ≡ slot plan.cells lane place = omega arith in (
        sym (slot_lane-slot plan.cells at p hq)
            ∙ (ap (slot_lane plan.cells) s ∙ slot_lane-slot plan.cells lane place hp),
        sym (slot_place-slot plan.cells at p hq)
            ∙ (ap (slot_place plan.cells) s ∙ slot_place-slot plan.cells lane place hp),
      )

  put_cell : (lane place : ℕ) (note : Note) → place < slice_index plan.cells lane → (at p : ℕ) →
      p < slice_index plan.cells at → (b c : Bool) → eqb at lane ≡ b → eqb p place ≡ c →
      slice_index (set ws (cell_word plan.cells lane place) (note_word (Some note))) (cell_word plan.cells at p)
      ≡ note_word (cond (b && c) (Some note) (cell_after at p es))
  put_cell lane place note inside at p h true true f g =
      let k : at ≡ lane = eqb-true at lane f in
      let l : p ≡ place = eqb-true p place g in
      let room : slot plan.cells lane place < total plan.cells = slot_within plan.cells lane place inside in
      subst
      (λ m. slice_index (set ws (cell_word plan.cells lane place) (note_word (Some note))) m ≡ note_word (Some note))
      (λ i. cell_word plan.cells (sym k i) (sym l i))
      (get_or-set_same ws (cell_word plan.cells lane place) (note_word (Some note)) 0 (omega (arith, w.count)))
  put_cell lane place note inside at p h true false f g =
      get_or-set_other ws (cell_word plan.cells lane place) (cell_word plan.cells at p) (note_word (Some note)) 0
      (λ e. let s = slot_other lane place at p inside h e in absurd (false≢true (sym g ∙ eq-eqb p place s.1)))
      ∙ w.cells at p h
  put_cell lane place note inside at p h false c f g =
      get_or-set_other ws (cell_word plan.cells lane place) (cell_word plan.cells at p) (note_word (Some note)) 0
      (λ e. let s = slot_other lane place at p inside h e in absurd (false≢true (sym f ∙ eq-eqb at lane s.0)))
      ∙ w.cells at p h

  -- a lane's word of places, and the word of a cell
  pub placed_words : (lane place : ℕ) → lane < length plan.cells → places_after lane es < 2 ^ 32 →
      AreWords plan (event n (Place lane place) ∷ es)
      (set ws (place_word lane) ((slice_index ws (place_word lane) + 1) % 2 ^ 64))
  placed_words lane place inside few =
      let x : ℕ = (slice_index ws (place_word lane) + 1) % 2 ^ 64 in
      let was : slice_index ws (place_word lane) ≡ places_after lane es = w.places lane inside in record {
        count = length-set ws (place_word lane) x ∙ w.count;
        clock = get_or-set_other ws (place_word lane) 0 x 0 (λ e. absurd (omega arith)) ∙ w.clock;
        places = λ at h. dite (ℕ_discrete at lane)
            (λ (e : at ≡ lane).
            subst
            (λ k.
            slice_index (set ws (place_word lane) x) (place_word k)
            ≡ places_after k (event n (Place lane place) ∷ es)) (sym e) (get_or-set_same ws (place_word lane)
            x 0 (omega (arith, w.count)) ∙ rw (eq-eqb lane lane refl) (omega (arith, was))))
            (λ (ne : at ≢ lane).
            get_or-set_other ws (place_word lane) (place_word at) x 0 (λ e. ne (omega arith))
            ∙ rw (ne_eqb at lane ne) (w.places at h));
        cells = λ at p h.
            get_or-set_other ws (place_word lane) (cell_word plan.cells at p) x 0 (λ e. absurd (omega arith))
            ∙ w.cells at p h;
      }

  pub put_words : (lane place : ℕ) (note : Note) → place < slice_index plan.cells lane →
      AreWords plan (event n (Put lane place note) ∷ es)
      (set ws (cell_word plan.cells lane place) (note_word (Some note)))
  put_words lane place note inside =
      let x : ℕ = note_word (Some note) in
      let at_word = cell_word plan.cells lane place in
      let room : slot plan.cells lane place < total plan.cells = slot_within plan.cells lane place inside in
      let cell : (at p : ℕ) → p < slice_index plan.cells at → (b c : Bool) → eqb at lane ≡ b → eqb p place ≡ c →
      slice_index (set ws at_word x) (cell_word plan.cells at p)
      ≡ note_word (cond (b && c) (Some note) (cell_after at p es))
      = put_cell lane place note inside in record {
        count = length-set ws at_word x ∙ w.count;
        clock = get_or-set_other ws at_word 0 x 0 (λ e. absurd (omega arith)) ∙ w.clock;
        places = λ at h. get_or-set_other ws at_word (place_word at) x 0 (λ e. absurd (omega arith)) ∙ w.places at h;
        cells = λ at p h. cell at p h (eqb at lane) (eqb p place) refl refl;
      }
