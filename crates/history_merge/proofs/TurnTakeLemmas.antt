-- The take with which a turn begins changes what it has to, by the reactor's half before the turn.
use Rattle.std.proofs.Common.{◌≡◌, ℕ, Bool, true, false, cond, List, [], ◌∷◌, ◌++◌, None, sym, ap, ◌∙◌}
use Rattle.std.specs.Prelude.{nat_lt, slice_index}
use Rattle.asio_types.specs.declared.event.Event.TheVariants as event
use Rattle.asio_types.specs.declared.outside.Point.{Point}
use Rattle.asio_types.specs.declared.outside.Point.TheVariants as point
use Rattle.session_script.specs.Script.{ScriptModel}
use Rattle.history_rules.specs.State.{ReactorHalf}
use Rattle.history_rules.specs.Time.{next_time}
use Rattle.lane_clock.specs.declared.found.Change.{Change}
use Rattle.lane_clock.specs.declared.found.Found.{Found}
use Rattle.lane_clock.specs.declared.note.Note.{Note}
use Rattle.lane_clock.specs.declared.step.ClockStep.TheVariants.{Look, Put}
use Rattle.lane_map.specs.LaneNumbers.{cells_of, home_lane}
use Rattle.lane_logs.specs.Labels.{Labelled, allots, shows, silent}
use Rattle.lane_logs.specs.Parts.{TurnEnd, TurnStart, end_labels, fails, looks_empty, passes, start_labels, takes, tells}
use Rattle.lane_logs.specs.ReactorTurns.{AreTold, EndsTurn, MayStartTurn, done_labels, done_note, none_told, one_told, point_event, take_change}
use Rattle.history_merge.proofs.IdleLemmas.{IsSilent}
use Rattle.history_merge.proofs.PartLemmas.{Every}
use Rattle.history_merge.proofs.TurnPartLemmas.{EachBehind, each-append}

-- a point of time is no take
no_take : (to : Point) (a : ℕ) → point_event to ≡ event.Take a → ⊥
no_take (point.Time now) a is = cc
no_take point.Last a is = cc

module _ (script : ScriptModel) (told : Bool) (lane : ℕ) (half : ReactorHalf) where
  -- a take stands behind steps by themselves, and changes what it has to
  pub record IsTakeBehind (before : List Labelled) (a : ℕ) (changes : Change) : Type 0 where
    pub silent_before : Every IsSilent before
    pub changed : changes ≡ take_change script half a

  abbrev pub TakesIn : List Labelled → Labelled → Type 0
  TakesIn before (silent step) = Unit {0}
  TakesIn before (shows shown changes found) = (a : ℕ) → shown ≡ event.Take a → IsTakeBehind before a changes
  TakesIn before (allots act at cell) = Unit {0}

  look_takes : (within : Bool) (place : ℕ) (before : List Labelled) →
      EachBehind TakesIn before (cond within (silent (Look lane place None) ∷ []) [])
  look_takes true place before = (tt, tt)
  look_takes false place before = tt

  put_takes : (within : Bool) (at cell : ℕ) (note : Note) (before : List Labelled) →
      EachBehind TakesIn before (cond within (silent (Put at cell note) ∷ []) [])
  put_takes true at cell note before = (tt, tt)
  put_takes false at cell note before = tt

  start_takes : (place : ℕ) (load drawn : Found) (running : Bool) (start : TurnStart) →
      MayStartTurn script half running load start →
      EachBehind TakesIn [] (start_labels script lane place load drawn start)
  start_takes place load drawn running (takes note changes) may = (
    tt,
    (
      tt,
      (
        λ a same.
            (let is : note.op ≡ a = cc in
            record {
              silent_before = (tt, (tt, tt));
              changed = may.changed ∙ ap (take_change script half) is;
            }),
        tt,
      ),
    ),
  )
  start_takes place load drawn running (passes shown) may =
      each-append TakesIn [] (looks_empty script lane place) _
      (look_takes (nat_lt place (slice_index (cells_of script) lane)) place [])
      (tt, (λ a same. absurd (no_take (next_time script half) a (sym may.next ∙ same)), tt))

  told_takes : (from : ReactorHalf) (first : List Labelled) {labels : List Labelled} → AreTold script told from labels →
      EachBehind TakesIn first labels
  told_takes from first none_told = tt
  told_takes from first (one_told {labels} op with_code size cell found before may) =
      each-append TakesIn first labels (done_labels script op with_code size cell found) (told_takes from first before) (
        tt,
        (
          λ a same. absurd (cc),
          put_takes (nat_lt cell (slice_index (cells_of script) (home_lane script op))) (home_lane script op) cell
              (done_note op with_code size) _,
        ),
      )

  end_takes : (from : ReactorHalf) (first : List Labelled) (end : TurnEnd) → EndsTurn script told from end →
      EachBehind TakesIn first (end_labels end)
  end_takes from first (tells labels) ends = told_takes from first ends.told_so
  end_takes from first (fails found) ends = (λ a same. absurd (cc), tt)

  -- so in a whole turn
  pub turn_takes : (place : ℕ) (load drawn : Found) (running : Bool) (start : TurnStart) (end : TurnEnd) →
      MayStartTurn script half running load start → (from : ReactorHalf) → EndsTurn script told from end →
      EachBehind TakesIn [] (start_labels script lane place load drawn start ++ end_labels end)
  turn_takes place load drawn running start end may from ends =
      each-append TakesIn [] (start_labels script lane place load drawn start) (end_labels end)
      (start_takes place load drawn running start may)
      (end_takes from (start_labels script lane place load drawn start) end ends)
