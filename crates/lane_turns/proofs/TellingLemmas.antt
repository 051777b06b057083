-- A completion that is told, put together of its steps.
use Rattle.std.proofs.Common.{◌≡◌, ℕ, ◌≤◌, Bool, true, false, cond, List, [], ◌∷◌, ◌++◌, refl, ap, subst, ◌∙◌, arith}
use Rattle.std.specs.Prelude.{◌||◌, nat_lt, slice_index}
use Rattle.std.proofs.lemmas.Bool.{lt-ltb, ltb-true}
use Rattle.asio_types.specs.declared.event.Event.TheVariants as event
use Rattle.asio_types.specs.declared.event.Event.{Event}
use Rattle.session_script.specs.Script.{ScriptModel}
use Rattle.lane_clock.specs.declared.found.Change.{Change}
use Rattle.lane_clock.specs.declared.found.Change.TheVariants as change
use Rattle.lane_clock.specs.declared.found.Found.{Found}
use Rattle.lane_clock.specs.declared.note.Note.{Note}
use Rattle.lane_clock.specs.declared.step.ClockStep.{ClockStep}
use Rattle.lane_clock.specs.declared.step.ClockStep.TheVariants.{Draw, Put}
use Rattle.lane_clock.specs.Steps.{has_drawn, has_put, is_place, is_put}
use Rattle.lane_clock.proofs.SeatLemmas.{has_drawn-push, has_put-push}
use Rattle.lane_map.specs.LaneNumbers.{cells_of, home_lane}
use Rattle.lane_logs.specs.Labels.{Labelled, allots, shows, silent}
use Rattle.lane_turns.specs.Pens.{HasGone, MayGo, PenView}
use Rattle.lane_turns.specs.Telling.{HasPlace, HasPlaceBeyond, HasToldDone}
use Rattle.lane_turns.proofs.PenLemmas.{gone_on, may_go_on}

-- a draw leaves what was drawn and put
pub still_drawn : (lane place : ℕ) (before after : List ClockStep) (shown : Event) (changes : Change) (found : Found) →
    after ≡ before ++ Draw shown changes found ∷ [] → has_drawn lane place before ≡ true → has_drawn lane place after ≡ true
still_drawn lane place before after shown changes found same is =
    ap (has_drawn lane place) same ∙ has_drawn-push lane place before (Draw shown changes found)
    ∙ ap (λ b. b || is_place lane place (Draw shown changes found)) is

pub still_fresh : (lane place : ℕ) (before after : List ClockStep) (shown : Event) (changes : Change) (found : Found) →
    after ≡ before ++ Draw shown changes found ∷ [] → has_put lane place before ≡ false → has_put lane place after ≡ false
still_fresh lane place before after shown changes found same is =
    ap (has_put lane place) same ∙ has_put-push lane place before (Draw shown changes found)
    ∙ ap (λ b. b || is_put lane place (Draw shown changes found)) is

-- a place leaves room for a draw
pub placed_room : (act lane place : ℕ) (old new : PenView) → HasGone (allots act lane place ∷ []) old new →
    MayGo old 1 1 → MayGo new 1 0
placed_room act lane place old new gone may =
    may_go_on (allots act lane place ∷ []) 1 1 1 0 old new gone may (omega arith) (omega arith) (omega arith)

-- what is put where a place has a cell, and where it has none
put_chosen : (within : Bool) (lane place : ℕ) (note : Note) (xs : List Labelled) → within ≡ true →
    xs ++ silent (Put lane place note) ∷ [] ≡ xs ++ cond within (silent (Put lane place note) ∷ []) []
put_chosen true lane place note xs is = refl
put_chosen false lane place note xs is = absurd (cc is)

put_left : (within : Bool) (lane place : ℕ) (note : Note) (xs : List Labelled) → within ≡ false →
    xs ++ [] ≡ xs ++ cond within (silent (Put lane place note) ∷ []) []
put_left true lane place note xs is = absurd (cc is)
put_left false lane place note xs is = refl

not_within : (a b : ℕ) → b ≤ a → nat_lt a b ≡ false
not_within a b past = by_test (nat_lt a b) refl
  where
    by_test : (t : Bool) → nat_lt a b ≡ t → nat_lt a b ≡ false
    by_test true is = absurd (omega (arith, ltb-true a b is, past))
    by_test false is = is

module _ (script : ScriptModel) (cells : List ℕ) (lane : ℕ) (note : Note) (a b c d : PenView)
    (same : cells ≡ cells_of script) (home : lane ≡ home_lane script note.op) (found : Found) where
  abbrev first_two : ℕ → List Labelled
  first_two place =
      allots note.op (home_lane script note.op) place
      ∷ shows (event.Done note.op note.code note.size) change.Same found ∷ []

  abbrev has_cell : ℕ → Bool
  has_cell place = nat_lt place (slice_index (cells_of script) (home_lane script note.op))

  placed_on : (place : ℕ) → HasGone (allots note.op lane place ∷ []) a b →
      HasGone (shows (event.Done note.op note.code note.size) change.Same found ∷ []) b c →
      HasGone (first_two place) a c
  placed_on place placed drawn =
      gone_on (allots note.op (home_lane script note.op) place ∷ [])
      (shows (event.Done note.op note.code note.size) change.Same found ∷ []) a b c
      (subst (λ n. HasGone (allots note.op n place ∷ []) a b) home placed) drawn

  size_same : slice_index cells lane ≡ slice_index (cells_of script) (home_lane script note.op)
  size_same = ap (λ cs. slice_index cs lane) same ∙ ap (slice_index (cells_of script)) home

  pub told_within : (place : ℕ) → HasPlace cells lane place note.op a b →
      HasGone (shows (event.Done note.op note.code note.size) change.Same found ∷ []) b c →
      HasGone (silent (Put lane place note) ∷ []) c d → HasToldDone script note a d
  told_within place placed drawn put =
      record {
        place = place;
        found = found;
        gone =
            subst (λ labels. HasGone labels a d)
            (put_chosen (has_cell place) (home_lane script note.op) place note (first_two place)
            (lt-ltb place (slice_index (cells_of script) (home_lane script note.op))
            (omega (arith, placed.within, size_same))))
            (gone_on (first_two place) (silent (Put (home_lane script note.op) place note) ∷ []) a c d
            (placed_on place placed.gone drawn)
            (subst (λ n. HasGone (silent (Put n place note) ∷ []) c d) home put));
      }

  pub told_beyond : HasPlaceBeyond cells lane note.op a b →
      HasGone (shows (event.Done note.op note.code note.size) change.Same found ∷ []) b c → HasToldDone script note a c
  told_beyond placed drawn =
      record {
        place = placed.place;
        found = found;
        gone =
            subst (λ labels. HasGone labels a c)
            (put_left (has_cell placed.place) (home_lane script note.op) placed.place note (first_two placed.place)
            (not_within placed.place (slice_index (cells_of script) (home_lane script note.op))
            (omega (arith, placed.beyond, size_same))))
            (placed_on placed.place placed.gone drawn);
      }
