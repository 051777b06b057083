-- What stands before each event of a turn of the reactor in the turn's part.
use Rattle.std.proofs.Common.{◌≡◌, ℕ, Bool, true, false, cond, List, [], ◌∷◌, ◌++◌, None, refl, sym, subst}
use Rattle.std.specs.Prelude.{nat_lt, slice_index}
use Rattle.std.proofs.lemmas.List.{append-nil, append_assoc}
use Rattle.asio_types.specs.declared.code.Code.{Code}
use Rattle.asio_types.specs.declared.event.Event.{Event}
use Rattle.asio_types.specs.declared.event.Event.TheVariants as event
use Rattle.session_script.specs.Script.{ScriptModel}
use Rattle.history_rules.specs.Legal.{reactor_after}
use Rattle.history_rules.specs.Requests.{MayTell}
use Rattle.history_rules.specs.State.{ReactorHalf}
use Rattle.lane_clock.specs.declared.found.Found.{Found}
use Rattle.lane_clock.specs.declared.note.Note.{Note}
use Rattle.lane_clock.specs.declared.step.ClockStep.TheVariants.{Load, Look, Put}
use Rattle.lane_map.specs.LaneNumbers.{cells_of, home_lane}
use Rattle.lane_logs.specs.Half.{half_from}
use Rattle.lane_logs.specs.Labels.{Labelled, allots, entries_in, shows, silent}
use Rattle.lane_logs.specs.Parts.{TurnEnd, TurnStart, end_labels, fails, looks_empty, looks_full, passes, start_labels, takes, tells}
use Rattle.lane_logs.specs.ReactorTurns.{AreTold, EndsTurn, done_labels, done_note, none_told, one_told, start_event}

-- what holds of each label behind those before it
abbrev pub EachBehind : (List Labelled → Labelled → Type 0) → List Labelled → List Labelled → Type 0
EachBehind Q before [] = Unit {0}
EachBehind Q before (x ∷ xs) = Q before x × EachBehind Q (before ++ x ∷ []) xs

module _ (Q : List Labelled → Labelled → Type 0) where
  pub each-append : (before xs ys : List Labelled) → EachBehind Q before xs → EachBehind Q (before ++ xs) ys →
      EachBehind Q before (xs ++ ys)
  each-append before [] ys first second = subst (λ zs. EachBehind Q zs ys) (append-nil before) second
  each-append before (x ∷ xs) ys first second = (
    first.0,
    each-append (before ++ x ∷ []) xs ys first.1
        (subst (λ zs. EachBehind Q zs ys) (sym (append_assoc before (x ∷ []) xs)) second),
  )

  pub each_at : (before xs : List Labelled) (x : Labelled) (after : List Labelled) →
      EachBehind Q before (xs ++ x ∷ after) → Q (before ++ xs) x
  each_at before [] x after all = subst (λ zs. Q zs x) (sym (append-nil before)) all.0
  each_at before (y ∷ xs) x after all =
      subst (λ zs. Q zs x) (append_assoc before (y ∷ []) xs) (each_at (before ++ y ∷ []) xs x after all.1)

-- the looks with which a turn begins
abbrev pub start_looks : ScriptModel → ℕ → ℕ → TurnStart → List Labelled
start_looks script lane place (takes note changes) = looks_full lane place note
start_looks script lane place (passes shown) = looks_empty script lane place

module _ (script : ScriptModel) (told : Bool) (lane : ℕ) (half : ReactorHalf) (place : ℕ) (load drawn : Found)
    (start : TurnStart) where
  -- what the turn's first event leaves of the reactor
  abbrev pub half_started : ReactorHalf
  half_started = reactor_after script told half (start_event start)

  abbrev pub begins_with : List Labelled
  begins_with = start_labels script lane place load drawn start

  -- an event of a turn behind these labels of it
  pub data StandsInTurn (before : List Labelled) : Event → Type 0 where
    it_starts : before ≡ start_looks script lane place start ++ silent (Load load) ∷ [] →
        StandsInTurn before (start_event start)
    it_tells : (labels : List Labelled) (op : ℕ) (with_code : Code) (size at : ℕ) →
        AreTold script told half_started labels →
        MayTell script told (half_from script told half_started (entries_in labels)) op with_code size →
        before ≡ begins_with ++ (labels ++ allots op (home_lane script op) at ∷ []) →
        StandsInTurn before (event.Done op with_code size)
    it_fails : before ≡ begins_with → StandsInTurn before event.Fault

  abbrev pub InTurn : List Labelled → Labelled → Type 0
  InTurn before (silent step) = Unit {0}
  InTurn before (shows shown changes found) = StandsInTurn before shown
  InTurn before (allots act at cell) = Unit {0}

  look_in : (within : Bool) (before : List Labelled) →
      EachBehind InTurn before (cond within (silent (Look lane place None) ∷ []) [])
  look_in true before = (tt, tt)
  look_in false before = tt

  put_in : (within : Bool) (at cell : ℕ) (note : Note) (before : List Labelled) →
      EachBehind InTurn before (cond within (silent (Put at cell note) ∷ []) [])
  put_in true at cell note before = (tt, tt)
  put_in false at cell note before = tt

  told_in : {labels : List Labelled} → AreTold script told half_started labels → EachBehind InTurn begins_with labels
  told_in none_told = tt
  told_in (one_told {labels} op with_code size cell found before may) =
      each-append InTurn begins_with labels (done_labels script op with_code size cell found) (told_in before) (
        tt,
        (
          it_tells labels op with_code size cell before may
              (append_assoc begins_with labels (allots op (home_lane script op) cell ∷ [])),
          put_in (nat_lt cell (slice_index (cells_of script) (home_lane script op))) (home_lane script op) cell
              (done_note op with_code size) _,
        ),
      )

  end_in : (end : TurnEnd) → EndsTurn script told half_started end → EachBehind InTurn begins_with (end_labels end)
  end_in (tells labels) ends = told_in ends.told_so
  end_in (fails found) ends = (it_fails refl, tt)

module _ (script : ScriptModel) (told : Bool) (lane : ℕ) (half : ReactorHalf) (place : ℕ) (load drawn : Found) where
  start_in : (start : TurnStart) →
      EachBehind (InTurn script told lane half place load drawn start) []
      (start_labels script lane place load drawn start)
  start_in (takes note changes) = (tt, (tt, (it_starts refl, tt)))
  start_in (passes shown) =
      each-append (InTurn script told lane half place load drawn (passes shown)) [] (looks_empty script lane place) _
      (look_in script told lane half place load drawn (passes shown)
      (nat_lt place (slice_index (cells_of script) lane)) [])
      (tt, (it_starts refl, tt))

  -- so each event of a whole turn stands there
  pub turn_in : (start : TurnStart) (end : TurnEnd) →
      EndsTurn script told (reactor_after script told half (start_event start)) end →
      EachBehind (InTurn script told lane half place load drawn start) []
      (start_labels script lane place load drawn start ++ end_labels end)
  turn_in start end ends =
      each-append (InTurn script told lane half place load drawn start) []
      (start_labels script lane place load drawn start) (end_labels end) (start_in start)
      (end_in script told lane half place load drawn start end ends)
