-- In the reactor's list each completion stands behind the place that it got, and is put behind it.
use Rattle.std.proofs.Common.{◌≡◌, ℕ, zero, suc, ◌<◌, Bool, true, false, cond, List, [], ◌∷◌, ◌++◌, None, refl, sym, ap, subst, ◌∙◌, arith}
use Rattle.std.specs.Prelude.{nat_lt, slice_index}
use mathlib.Core.Option.{some, some-injective, some-ne-none}
use lib.ListN.{get_elem?}
use Rattle.asio_types.specs.declared.code.Code.{Code}
use Rattle.asio_types.specs.declared.event.Event.{Event}
use Rattle.asio_types.specs.declared.event.Event.TheVariants as event
use Rattle.asio_types.specs.declared.outside.Point.{Point}
use Rattle.asio_types.specs.declared.outside.Point.TheVariants as point
use Rattle.session_script.specs.Script.{ScriptModel}
use Rattle.history_rules.specs.State.{ReactorHalf}
use Rattle.history_rules.specs.Time.{next_time}
use Rattle.lane_clock.specs.declared.found.Change.{Change}
use Rattle.lane_clock.specs.declared.found.Change.TheVariants as change
use Rattle.lane_clock.specs.declared.found.Found.{Found}
use Rattle.lane_clock.specs.declared.note.Note.{Note}
use Rattle.lane_clock.specs.declared.step.ClockStep.{ClockStep}
use Rattle.lane_clock.specs.declared.step.ClockStep.TheVariants.{Draw, Load, Place, Put, Look, Join}
use Rattle.lane_map.specs.LaneNumbers.{cells_of, home_lane, reactor_lane}
use Rattle.lane_logs.specs.Labels.{Labelled, allots, shows, silent}
use Rattle.lane_logs.specs.LaneLog.{IsIdleStep, MayFollow}
use Rattle.lane_logs.specs.Logs.{LogsView}
use Rattle.lane_logs.specs.Names.{SessionNames}
use Rattle.lane_logs.specs.Parts.{FailedPart, Part, TurnEnd, TurnStart, end_labels, executed, failed, fails, idle, labels_in, looks_empty, missing, passes, start_labels, takes, tells, turned}
use Rattle.lane_logs.specs.ReactorTurns.{AreTold, EndsTurn, MayStartTurn, done_labels, done_note, none_told, one_told, point_event}
use Rattle.lane_logs.specs.SeatNumbers.{lane_count, opener_seat}
use Rattle.history_merge.proofs.EachLabelLemmas.{is_of_turn}
use Rattle.history_merge.proofs.LabellingLemmas.{AreLabels}
use Rattle.history_merge.proofs.PartLemmas.{Follow, all_made}

-- the completion of a note's operation got this place before it was told
pub record IsToldOf (script : ScriptModel) (first last : Labelled) (lane place : ℕ) (note : Note) : Type 0 where
  pub found : Found
  pub told : last ≡ shows (event.Done note.op note.code note.size) change.Same found
  pub allotted : first ≡ allots note.op lane place
  pub home : lane ≡ home_lane script note.op

abbrev pub IsPlacedFor : ScriptModel → Labelled → Event → Type 0
IsPlacedFor script last (event.Done op given size) = (place : ℕ) × (last ≡ allots op (home_lane script op) place)
IsPlacedFor script last other = is_of_turn other ≡ true

-- what a label of the reactor's list stands behind
abbrev pub StandsBehind : ScriptModel → Labelled → Labelled → Labelled → Type 0
StandsBehind script first last (silent (Draw shown changes found)) = Unit {0}
StandsBehind script first last (silent (Load found)) = Unit {0}
StandsBehind script first last (silent (Place lane place)) = Unit {0}
StandsBehind script first last (silent (Put lane place note)) = IsToldOf script first last lane place note
StandsBehind script first last (silent (Look lane place held)) = Unit {0}
StandsBehind script first last (silent (Join counts)) = Unit {0}
StandsBehind script first last (shows shown changes found) = IsPlacedFor script last shown
StandsBehind script first last (allots act lane place) = Unit {0}

module _ (script : ScriptModel) where
  abbrev pub AllBehind : Labelled → Labelled → List Labelled → Type 0
  AllBehind first last [] = Unit {0}
  AllBehind first last (label ∷ labels) = StandsBehind script first last label × AllBehind last label labels

  -- wherever they stand
  abbrev pub Behind : List Labelled → Type 0
  Behind labels = (first last : Labelled) → AllBehind first last labels

  behind-append : (xs ys : List Labelled) (first last : Labelled) → AllBehind first last xs → Behind ys →
      AllBehind first last (xs ++ ys)
  behind-append [] ys first last one two = two first last
  behind-append (x ∷ xs) ys first last one two = (one.0, behind-append xs ys last x one.1 two)

  both_behind : (xs ys : List Labelled) → Behind xs → Behind ys → Behind (xs ++ ys)
  both_behind xs ys one two first last = behind-append xs ys first last (one first last) two

  -- the two labels before one
  pub record HasBehind (labels : List Labelled) (first last : Labelled) (i : ℕ) (label : Labelled) : Type 0 where
    pub one : Labelled
    pub two : Labelled
    pub at_one : get_elem? (first ∷ last ∷ labels) i ≡ some one
    pub at_two : get_elem? (first ∷ last ∷ labels) (suc i) ≡ some two
    pub stands : StandsBehind script one two label

  pub behind_at : (labels : List Labelled) (first last : Labelled) → AllBehind first last labels → (i : ℕ) (label : Labelled) →
      get_elem? labels i ≡ some label → HasBehind labels first last i label
  behind_at [] first last all i label at = absurd (some-ne-none label (sym at))
  behind_at (x ∷ labels) first last all zero label at = record {
    one = first;
    two = last;
    at_one = refl;
    at_two = refl;
    stands = subst (StandsBehind script first last) (some-injective x label at) all.0;
  }
  behind_at (x ∷ labels) first last all (suc i) label at =
      let rest = behind_at labels last x all.1 i label at in
      record { one = rest.one; two = rest.two; at_one = rest.at_one; at_two = rest.at_two; stands = rest.stands }

  put_behind : (within : Bool) (op : ℕ) (given : Code) (size place : ℕ) (found : Found) →
      AllBehind (allots op (home_lane script op) place) (shows (event.Done op given size) change.Same found)
      (cond within (silent (Put (home_lane script op) place (done_note op given size)) ∷ []) [])
  put_behind true op given size place found =
      (record { found = found; told = refl; allotted = refl; home = refl }, tt)
  put_behind false op given size place found = tt

  done_behind : (op : ℕ) (given : Code) (size place : ℕ) (found : Found) → Behind (done_labels script op given size place found)
  done_behind op given size place found first last =
      (tt, ((place, refl), put_behind (nat_lt place (slice_index (cells_of script) (home_lane script op))) op given size place found))

  told_behind : (told : Bool) (from : ReactorHalf) {labels : List Labelled} → AreTold script told from labels → Behind labels
  told_behind told from none_told = λ first last. tt
  told_behind told from (one_told {labels} op given size place found before may) =
      λ first last. behind-append labels (done_labels script op given size place found) first last (told_behind told from before first last)
      (done_behind op given size place found)

  end_behind : (told : Bool) (from : ReactorHalf) (end : TurnEnd) → EndsTurn script told from end → Behind (end_labels end)
  end_behind told from (tells labels) is = told_behind told from is.told_so
  end_behind told from (fails found) is = λ first last. (refl, tt)

  look_behind : (within : Bool) (lane place : ℕ) → Behind (cond within (silent (Look lane place None) ∷ []) [])
  look_behind true lane place = λ first last. (tt, tt)
  look_behind false lane place = λ first last. tt

  empty_behind : (lane place : ℕ) → Behind (looks_empty script lane place)
  empty_behind lane place = look_behind (nat_lt place (slice_index (cells_of script) lane)) lane place

  point_behind : (to : Point) (load drawn : Found) →
      Behind (silent (Load load) ∷ shows (point_event to) change.Same drawn ∷ [])
  point_behind (point.Time now) load drawn = λ first last. (tt, (refl, tt))
  point_behind point.Last load drawn = λ first last. (tt, (refl, tt))

  start_behind : (lane : ℕ) (half : ReactorHalf) (running : Bool) (place : ℕ) (load drawn : Found) (start : TurnStart) →
      MayStartTurn script half running load start → Behind (start_labels script lane place load drawn start)
  start_behind lane half running place load drawn (takes note changes) may = λ first last. (tt, (tt, (refl, tt)))
  start_behind lane half running place load drawn (passes shown) may =
      subst (λ shown. Behind (start_labels script lane place load drawn (passes shown))) (sym may.next)
      (both_behind (looks_empty script lane place) _ (empty_behind lane place)
      (point_behind (next_time script half) load drawn))

  failed_behind : (lane : ℕ) (part : FailedPart) → Behind (labels_in script lane (failed part))
  failed_behind lane part =
      both_behind (looks_empty script lane part.place) _ (empty_behind lane part.place) (λ first last. (tt, (refl, tt)))

module _ (names : SessionNames) (logs : LogsView) (labels : ℕ → List Labelled) (are : AreLabels names logs labels)
    (within : reactor_lane names.script < lane_count names.script) where
  abbrev script : ScriptModel
  script = names.script

  abbrev lane : ℕ
  lane = reactor_lane names.script

  idle_behind : (parts : List Part) (step : ClockStep) → IsIdleStep names (logs.lists (opener_seat script)) lane parts step →
      Behind script (silent step ∷ [])
  idle_behind parts (Draw shown changes found) is = absurd is
  idle_behind parts (Load found) is = λ first last. (tt, tt)
  idle_behind parts (Place at place) is = absurd is
  idle_behind parts (Put at place note) is = absurd is
  idle_behind parts (Look at place held) is = λ first last. (tt, tt)
  idle_behind parts (Join counts) is = λ first last. (tt, tt)

  part_behind : (earlier : List Part) (part : Part) → MayFollow names (logs.lists (opener_seat script)) lane earlier part →
      Behind script (labels_in script lane part)
  part_behind earlier (idle step) may = idle_behind earlier step may
  part_behind earlier (executed part) may = let strand = may.strand in absurd (omega (arith, strand))
  part_behind earlier (turned part) may =
      both_behind script (start_labels script lane part.place part.load part.drawn part.start) (end_labels part.end)
      (start_behind script lane _ _ part.place part.load part.drawn part.start may.starts)
      (end_behind script names.told _ part.end may.ends)
  part_behind earlier (failed part) may = failed_behind script lane part
  part_behind earlier (missing place note) may = λ first last. (tt, tt)

  parts_behind : (parts : List Part) →
      Follow Part (labels_in script lane) (MayFollow names (logs.lists (opener_seat script)) lane) parts →
      Behind script (all_made Part (labels_in script lane) parts)
  parts_behind [] all = λ first last. tt
  parts_behind (part ∷ parts) all =
      both_behind script (all_made Part (labels_in script lane) parts) (labels_in script lane part) (parts_behind parts all.0)
      (part_behind parts part all.1)

  reactor_behind : Behind script (labels lane)
  reactor_behind =
      let made = are.lanes lane within in subst (Behind script) (sym made.are) (parts_behind made.parts made.follow)

  abbrev nowhere : Labelled
  nowhere = silent (Join [])

  turn_by : (last : Labelled) (shown : Event) → IsPlacedFor script last shown → is_of_turn shown ≡ true
  turn_by last (event.Done op given size) is = refl
  turn_by last other is = is

  -- the reactor shows events of turns only
  pub on_turn : (i : ℕ) (shown : Event) (changes : Change) (found : Found) →
      get_elem? (labels lane) i ≡ some (shows shown changes found) → is_of_turn shown ≡ true
  on_turn i shown changes found at =
      let has =
      behind_at script (labels lane) nowhere nowhere (reactor_behind nowhere nowhere) i (shows shown changes found) at in
      turn_by has.two shown has.stands

  -- a completion stands right behind its place
  pub record IsDoneAt (op i : ℕ) : Type 0 where
    pub before : ℕ
    pub place : ℕ
    pub next : i ≡ suc before
    pub there : get_elem? (labels lane) before ≡ some (allots op (home_lane script op) place)

  pub done_at : (i op : ℕ) (given : Code) (size : ℕ) (changes : Change) (found : Found) →
      get_elem? (labels lane) i ≡ some (shows (event.Done op given size) changes found) → IsDoneAt op i
  done_at i op given size changes found at =
      let has =
      behind_at script (labels lane) nowhere nowhere (reactor_behind nowhere nowhere) i
      (shows (event.Done op given size) changes found) at in
      by_index i has.two has.at_two has.stands.0 has.stands.1
    where
      by_index : (i : ℕ) (two : Labelled) → get_elem? (nowhere ∷ nowhere ∷ labels lane) (suc i) ≡ some two →
          (place : ℕ) → two ≡ allots op (home_lane script op) place → IsDoneAt op i
      by_index zero two there place is =
          absurd (let wrong : silent (Join []) ≡ allots op (home_lane script op) place =
          some-injective nowhere two there ∙ is in cc)
      by_index (suc i) two there place is =
          record { before = i; place = place; next = refl; there = there ∙ ap some is }

  -- and its put right behind it
  pub record IsPutAt (place_lane place : ℕ) (note : Note) (i : ℕ) : Type 0 where
    pub before : ℕ
    pub found : Found
    pub next : i ≡ suc (suc before)
    pub told : get_elem? (labels lane) (suc before) ≡ some (shows (event.Done note.op note.code note.size) change.Same found)
    pub allotted : get_elem? (labels lane) before ≡ some (allots note.op place_lane place)
    pub home : place_lane ≡ home_lane script note.op

  pub put_at : (i place_lane place : ℕ) (note : Note) →
      get_elem? (labels lane) i ≡ some (silent (Put place_lane place note)) → IsPutAt place_lane place note i
  put_at i place_lane place note at =
      let has =
      behind_at script (labels lane) nowhere nowhere (reactor_behind nowhere nowhere) i (silent (Put place_lane place note)) at in
      by_index i has.one has.two has.at_one has.at_two has.stands
    where
      by_index : (i : ℕ) (one two : Labelled) → get_elem? (nowhere ∷ nowhere ∷ labels lane) i ≡ some one →
          get_elem? (nowhere ∷ nowhere ∷ labels lane) (suc i) ≡ some two →
          IsToldOf script one two place_lane place note → IsPutAt place_lane place note i
      by_index zero one two at_one at_two is =
          absurd (let wrong : silent (Join []) ≡ allots note.op place_lane place =
          some-injective nowhere one at_one ∙ is.allotted in cc)
      by_index (suc zero) one two at_one at_two is =
          absurd (let wrong : silent (Join []) ≡ allots note.op place_lane place =
          some-injective nowhere one at_one ∙ is.allotted in cc)
      by_index (suc (suc i)) one two at_one at_two is = record {
        before = i;
        found = is.found;
        next = refl;
        told = at_two ∙ ap some is.told;
        allotted = at_one ∙ ap some is.allotted;
        home = is.home;
      }
