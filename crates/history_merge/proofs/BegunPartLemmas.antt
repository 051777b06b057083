-- Where a lane saw a note at a place, and behind it loaded and drew, it began the note's operation, or took the request.
use Rattle.std.proofs.Common.{◌≡◌, ◌⊎◌, ℕ, zero, suc, ◌+◌, ◌-◌, ◌<◌, ◌≤◌, Bool, true, false, cond, List, [], ◌∷◌, ◌++◌, inl, inr, length, refl, sym, ap, subst, ◌∙◌, arith, length-append}
use Rattle.std.specs.Prelude.{None, Option, Some, nat_lt, slice_index}
use Rattle.std.proofs.lemmas.Bool.{cases_lt, lt-ltb}
use Rattle.std.proofs.lemmas.List.{append_assoc}
use mathlib.Core.Option.{some, some-injective, some-ne-none}
use lib.ListN.{get_elem?}
use Rattle.asio_types.specs.declared.event.Event.{Event}
use Rattle.asio_types.specs.declared.event.Event.TheVariants as event
use Rattle.session_script.specs.Script.{ScriptModel}
use Rattle.strand_core.specs.Execution.{events_of}
use Rattle.lane_clock.specs.declared.found.Change.{Change}
use Rattle.lane_clock.specs.declared.found.Found.{Found}
use Rattle.lane_clock.specs.declared.note.Note.{Note}
use Rattle.lane_clock.specs.declared.step.ClockStep.{ClockStep}
use Rattle.lane_clock.specs.declared.step.ClockStep.TheVariants.{Draw, Load, Place, Put, Look, Join}
use Rattle.lane_map.specs.LaneNumbers.{cells_of, reactor_lane}
use Rattle.lane_logs.specs.Labels.{Labelled, allots, entries_in, events_in, shows, silent}
use Rattle.lane_logs.specs.LaneLog.{AreParts, IsIdleStep, MayFollow}
use Rattle.lane_logs.specs.Names.{SessionNames}
use Rattle.lane_logs.specs.Parts.{Part, TurnPart, TurnStart, end_labels, executed, failed, fault_label, idle, labels_in, labels_of, looks_empty, missing, next_place, passes, places_used, start_labels, takes, turned}
use Rattle.history_merge.proofs.DrawnLemmas.{drawn_shown}
use Rattle.history_merge.proofs.EachLabelLemmas.{HoldsOf, calls_each, end_each, is_of_execution, is_of_turn}
use Rattle.history_merge.proofs.PartLemmas.{Every, at_left, at_right, every_at}

-- no load and no look
abbrev pub IsBehindLoad : Labelled → Type 0
IsBehindLoad (silent (Load found)) = ⊥
IsBehindLoad (silent (Look lane place held)) = ⊥
IsBehindLoad (silent (Draw shown changes found)) = Unit {0}
IsBehindLoad (silent (Place lane place)) = Unit {0}
IsBehindLoad (silent (Put lane place note)) = Unit {0}
IsBehindLoad (silent (Join counts)) = Unit {0}
IsBehindLoad (shows shown changes found) = Unit {0}
IsBehindLoad (allots act lane place) = Unit {0}

holds_behind : (test : Event → Bool) → HoldsOf test IsBehindLoad
holds_behind test = record {
  events = λ shown is changes found. tt;
  places = λ act lane place. tt;
  puts = λ lane place note. tt;
}

-- these three labels stand one behind another: a look that saw a note, a load and a draw
pub record IsStart (labels : List Labelled) (i lane place : ℕ) (note : Note) (load : Found) (shown : Event)
    (changes : Change) (found : Found) : Type 0 where
  pub sees : get_elem? labels i ≡ some (silent (Look lane place (Some note)))
  pub loads : get_elem? labels (suc i) ≡ some (silent (Load load))
  pub draws : get_elem? labels (suc (suc i)) ≡ some (shows shown changes found)

-- what the note's lane then draws
abbrev pub Starts : ScriptModel → ℕ → Note → Event → Type 0
Starts script lane note shown =
    (shown ≡ event.Begin note.op note.code note.size) ⊎ ((lane ≡ reactor_lane script) × (shown ≡ event.Take note.op))

-- parts by how they begin
module _ (lane place : ℕ) (note : Note) (load : Found) (shown : Event) (changes : Change) (found : Found) where
  -- a look, a load, and then neither of both: the start is at the beginning
  looked_first : (held : Labelled) (loaded : Found) (rest : List Labelled) → Every IsBehindLoad rest → (j : ℕ) →
      IsStart (held ∷ (silent (Load loaded) ∷ rest)) j lane place note load shown changes found →
      (held ≡ silent (Look lane place (Some note))) × (get_elem? rest 0 ≡ some (shows shown changes found))
  looked_first held loaded rest all zero start =
      (some-injective held (silent (Look lane place (Some note))) start.sees, start.draws)
  looked_first held loaded rest all (suc j) start =
      absurd (every_at IsBehindLoad rest all j (silent (Load load)) start.loads)

  -- a load first
  loaded_first : (loaded : Found) (rest : List Labelled) → Every IsBehindLoad rest → (j : ℕ) →
      IsStart (silent (Load loaded) ∷ rest) j lane place note load shown changes found → ⊥
  loaded_first loaded rest all j start = every_at IsBehindLoad rest all j (silent (Load load)) start.loads

  alone_none : (one : Labelled) (j : ℕ) → IsStart (one ∷ []) j lane place note load shown changes found → ⊥
  alone_none one j start = some-ne-none (silent (Load load)) (sym start.loads)

-- the last label of these is no look
module _ (lane place : ℕ) (note : Note) where
  last_looked : (held : Labelled) (loaded : Found) (rest : List Labelled) → Every IsBehindLoad rest → (k : ℕ) →
      get_elem? (held ∷ (silent (Load loaded) ∷ rest)) (suc k) ≡ some (silent (Look lane place (Some note))) → ⊥
  last_looked held loaded rest all zero at =
      let wrong : silent (Load loaded) ≡ silent (Look lane place (Some note)) =
      some-injective (silent (Load loaded)) (silent (Look lane place (Some note))) at in absurd (cc)
  last_looked held loaded rest all (suc k) at = every_at IsBehindLoad rest all k (silent (Look lane place (Some note))) at

  last_loaded : (loaded : Found) (rest : List Labelled) → Every IsBehindLoad rest → (k : ℕ) →
      get_elem? (silent (Load loaded) ∷ rest) k ≡ some (silent (Look lane place (Some note))) → ⊥
  last_loaded loaded rest all zero at =
      let wrong : silent (Load loaded) ≡ silent (Look lane place (Some note)) =
      some-injective (silent (Load loaded)) (silent (Look lane place (Some note))) at in absurd (cc)
  last_loaded loaded rest all (suc k) at = every_at IsBehindLoad rest all k (silent (Look lane place (Some note))) at

begin_first : (labels : List Labelled) (shown first : Event) (changes : Change) (found : Found) (own : List Event) →
    get_elem? labels 0 ≡ some (shows shown changes found) → events_in (entries_in labels) ≡ first ∷ own → shown ≡ first
begin_first [] shown first changes found own at is = absurd (some-ne-none (shows shown changes found) (sym at))
begin_first (x ∷ labels) shown first changes found own at is =
    let same : x ≡ shows shown changes found = some-injective x (shows shown changes found) at in
    let events : shown ∷ events_in (entries_in labels) ≡ first ∷ own =
    sym (ap (λ label. events_in (entries_in (label ∷ labels))) same) ∙ is in
    cc

-- how a part's labels begin
pub data Begins (script : ScriptModel) (lane next : ℕ) : ℕ → List Labelled → Type 0 where
  one_step : (step : ClockStep) → ((place : ℕ) (note : Note) → step ≡ Look lane place (Some note) → place ≡ next) →
      Begins script lane next 0 (silent step ∷ [])
  looks_first : {used : ℕ} (seen : ℕ) (held : Option Note) (loaded : Found) (rest : List Labelled) → Every IsBehindLoad rest →
      ((note : Note) (shown : Event) (changes : Change) (found : Found) → held ≡ Some note →
      get_elem? rest 0 ≡ some (shows shown changes found) → Starts script lane note shown) →
      Begins script lane next used (silent (Look lane seen held) ∷ (silent (Load loaded) ∷ rest))
  loads_first : {used : ℕ} (loaded : Found) (rest : List Labelled) → Every IsBehindLoad rest →
      (next < slice_index (cells_of script) lane → ⊥) → Begins script lane next used (silent (Load loaded) ∷ rest)

module _ (names : SessionNames) (opener : List ClockStep) (lane : ℕ) where
  abbrev script : ScriptModel
  script = names.script

  idle_begins : (parts : List Part) (step : ClockStep) → IsIdleStep names opener lane parts step → (place : ℕ) (note : Note) →
      step ≡ Look lane place (Some note) → place ≡ next_place parts
  idle_begins parts (Look at seen held) is place note same = let one : seen ≡ place = cc in sym one ∙ is.1
  idle_begins parts other is place note same = absurd (cc)

  -- where a part looks only if there is a cell
  empty_begins : (parts : List Part) (used place : ℕ) (loaded : Found) (rest : List Labelled) → place ≡ next_place parts →
      Every IsBehindLoad rest → (b : Bool) → nat_lt place (slice_index (cells_of script) lane) ≡ b →
      Begins script lane (next_place parts) used (cond b (silent (Look lane place None) ∷ []) [] ++ silent (Load loaded) ∷ rest)
  empty_begins parts used place loaded rest next all true is =
      looks_first place None loaded rest all (λ note shown changes found same at. absurd (cc))
  empty_begins parts used place loaded rest next all false isnt =
      loads_first loaded rest all
      (λ less.
      let some_cell : nat_lt place (slice_index (cells_of script) lane) ≡ true =
      lt-ltb place (slice_index (cells_of script) lane) (omega (arith, less, next)) in
      let wrong : true ≡ false = sym some_cell ∙ isnt in absurd (cc))

  turn_begins : (parts : List Part) (used : ℕ) (part : TurnPart) (start : TurnStart) (end : List Labelled) →
      lane ≡ reactor_lane script → part.place ≡ next_place parts → Every IsBehindLoad end →
      Begins script lane (next_place parts) used (start_labels script lane part.place part.load part.drawn start ++ end)
  turn_begins parts used part (takes note changes) end reacts next all =
      looks_first part.place (Some note) part.load (shows (event.Take note.op) changes part.drawn ∷ end) (tt, all)
      (λ seen shown changed found same at.
      let one : note ≡ seen = cc in
      let two : shows (event.Take note.op) changes part.drawn ≡ shows shown changed found =
      some-injective (shows (event.Take note.op) changes part.drawn) (shows shown changed found) at in
      let take : event.Take note.op ≡ shown = cc in
      inr (reacts, sym take ∙ ap (λ (n : Note). event.Take n.op) one))
  turn_begins parts used part (passes shown) end reacts next all =
      subst (Begins script lane (next_place parts) used)
      (sym (append_assoc (looks_empty script lane part.place) (silent (Load part.load) ∷ shows shown _ part.drawn ∷ []) end))
      (empty_begins parts used part.place part.load (shows shown _ part.drawn ∷ end) next (tt, all)
      (nat_lt part.place (slice_index (cells_of script) lane)) refl)

  part_begins : (parts : List Part) (part : Part) → MayFollow names opener lane parts part →
      Begins script lane (next_place parts) (places_used part) (labels_in script lane part)
  part_begins parts (idle step) may = one_step step (idle_begins parts step may)
  part_begins parts (executed part) may =
      looks_first part.place (Some part.note) part.load part.labels
      (calls_each IsBehindLoad script (holds_behind is_of_execution) may.drawn)
      (λ note shown changes found same at.
      let one : part.note ≡ note = cc in
      let first =
      begin_first part.labels shown (event.Begin part.note.op part.note.code part.note.size) changes found _ at
      (drawn_shown script may.drawn ∙ ap (events_of script) may.whole.is) in
      inl (first ∙ ap (λ (n : Note). event.Begin n.op n.code n.size) one))
  part_begins parts (turned part) may =
      turn_begins parts (places_used (turned part)) part part.start (end_labels part.end) may.reactor may.next
      (end_each IsBehindLoad script (holds_behind is_of_turn) names.told _ part.end may.ends)
  part_begins parts (failed part) may =
      empty_begins parts 0 part.place part.load (fault_label part.drawn ∷ []) may.next (tt, tt)
      (nat_lt part.place (slice_index (cells_of script) lane)) refl
  part_begins parts (missing place note) may =
      one_step (Look lane place (Some note))
      (λ seen other same. let one : place ≡ seen = cc in sym one ∙ may.next)

  -- what stands last of the parts, where that saw a note
  module _ (place : ℕ) (note : Note) where
    last_of : (next used : ℕ) (ys : List Labelled) → Begins script lane next used ys → (k : ℕ) → suc k ≡ length ys →
        get_elem? ys k ≡ some (silent (Look lane place (Some note))) → place ≡ next + used
    last_of next _ _ (one_step step looks) zero long at =
        let same : silent step ≡ silent (Look lane place (Some note)) =
        some-injective (silent step) (silent (Look lane place (Some note))) at in
        let inner : step ≡ Look lane place (Some note) = cc in
        let is = looks place note inner in omega (arith, is)
    last_of next _ _ (one_step step looks) (suc k) long at = absurd (omega (arith, long))
    last_of next _ _ (looks_first seen held loaded rest all starts) zero long at = absurd (omega (arith, long))
    last_of next _ _ (looks_first seen held loaded rest all starts) (suc k) long at =
        absurd (last_looked lane place note (silent (Look lane seen held)) loaded rest all k at)
    last_of next _ _ (loads_first loaded rest all none) k long at =
        absurd (last_loaded lane place note loaded rest all k at)

    no_labels : (next used : ℕ) (ys : List Labelled) → Begins script lane next used ys → 1 ≤ length ys
    no_labels next _ _ (one_step step looks) = omega arith
    no_labels next _ _ (looks_first seen held loaded rest all starts) = omega arith
    no_labels next _ _ (loads_first loaded rest all none) = omega arith

    last_place : (parts : List Part) → AreParts names opener lane parts → (k : ℕ) →
        suc k ≡ length (labels_of script lane parts) →
        get_elem? (labels_of script lane parts) k ≡ some (silent (Look lane place (Some note))) → place ≡ next_place parts
    last_place [] are k long at = absurd (some-ne-none (silent (Look lane place (Some note))) (sym at))
    last_place (part ∷ parts) are k long at =
        let xs : List Labelled = labels_of script lane parts in
        let ys : List Labelled = labels_in script lane part in
        let begins = part_begins parts part are.1 in
        let some_label = no_labels (next_place parts) (places_used part) ys begins in
        let size : length (xs ++ ys) ≡ length xs + length ys = length-append xs ys in
        last_of (next_place parts) (places_used part) ys begins (k - length xs) (omega (arith, long, size, some_label))
        (sym (at_right xs ys k (k - length xs) (omega (arith, long, size, some_label))) ∙ at)

    -- so what a lane then draws begins the note's operation, or takes its request
    module _ (has_cell : place < slice_index (cells_of names.script) lane) (load : Found) (shown : Event)
        (changes : Change) (found : Found) where
      within : (next used : ℕ) (ys : List Labelled) → Begins script lane next used ys → (j : ℕ) →
          IsStart ys j lane place note load shown changes found → Starts script lane note shown
      within next _ _ (one_step step looks) j start =
          absurd (alone_none lane place note load shown changes found (silent step) j start)
      within next _ _ (looks_first seen held loaded rest all starts) j start =
          let first =
          looked_first lane place note load shown changes found (silent (Look lane seen held)) loaded rest all j start in
          let same : silent (Look lane seen held) ≡ silent (Look lane place (Some note)) = first.0 in
          let inner : held ≡ Some note = cc in
          starts note shown changes found inner first.1
      within next _ _ (loads_first loaded rest all none) j start =
          absurd (loaded_first lane place note load shown changes found loaded rest all j start)

      -- a start that lies across the begin of a part
      across_one : (next used : ℕ) (ys : List Labelled) → Begins script lane next used ys → place ≡ next →
          get_elem? ys 0 ≡ some (silent (Load load)) → get_elem? ys 1 ≡ some (shows shown changes found) → ⊥
      across_one next _ _ (one_step step looks) same loads draws = some-ne-none (shows shown changes found) (sym draws)
      across_one next _ _ (looks_first seen held loaded rest all starts) same loads draws =
          let wrong : silent (Look lane seen held) ≡ silent (Load load) =
          some-injective (silent (Look lane seen held)) (silent (Load load)) loads in absurd (cc)
      across_one next _ _ (loads_first loaded rest all none) same loads draws = none (omega (arith, same, has_cell))

      across_two : (next used : ℕ) (ys : List Labelled) → Begins script lane next used ys →
          get_elem? ys 0 ≡ some (shows shown changes found) → ⊥
      across_two next _ _ (one_step step looks) draws =
          let wrong : silent step ≡ shows shown changes found =
          some-injective (silent step) (shows shown changes found) draws in absurd (cc)
      across_two next _ _ (looks_first seen held loaded rest all starts) draws =
          let wrong : silent (Look lane seen held) ≡ shows shown changes found =
          some-injective (silent (Look lane seen held)) (shows shown changes found) draws in absurd (cc)
      across_two next _ _ (loads_first loaded rest all none) draws =
          let wrong : silent (Load loaded) ≡ shows shown changes found =
          some-injective (silent (Load loaded)) (shows shown changes found) draws in absurd (cc)

      pub starts_at : (parts : List Part) → AreParts names opener lane parts → (i : ℕ) →
          IsStart (labels_of names.script lane parts) i lane place note load shown changes found →
          Starts names.script lane note shown
      starts_at [] are i start = absurd (some-ne-none (silent (Look lane place (Some note))) (sym start.sees))
      starts_at (part ∷ parts) are i start =
          let xs : List Labelled = labels_of script lane parts in
          let ys : List Labelled = labels_in script lane part in
          let begins = part_begins parts part are.1 in
          elim (cases_lt (suc (suc i)) (length xs)) [
            | inl early ↦
                starts_at parts are.0 i (record {
                  sees = sym (at_left xs ys i (omega (arith, early))) ∙ start.sees;
                  loads = sym (at_left xs ys (suc i) (omega (arith, early))) ∙ start.loads;
                  draws = sym (at_left xs ys (suc (suc i)) early) ∙ start.draws;
                })
            | inr late ↦ elim (cases_lt (suc i) (length xs)) [
              | inl two ↦
                  absurd (across_two (next_place parts) (places_used part) ys begins
                  (sym (at_right xs ys (suc (suc i)) 0 (omega (arith, late, two))) ∙ start.draws))
              | inr more ↦ elim (cases_lt i (length xs)) [
                | inl one ↦
                    absurd (across_one (next_place parts) (places_used part) ys begins
                    (last_place parts are.0 i (omega (arith, more, one))
                    (sym (at_left xs ys i one) ∙ start.sees))
                    (sym (at_right xs ys (suc i) 0 (omega (arith, more, one))) ∙ start.loads)
                    (sym (at_right xs ys (suc (suc i)) 1 (omega (arith, more, one))) ∙ start.draws))
                | inr all ↦
                    within (next_place parts) (places_used part) ys begins (i - length xs) (record {
                      sees = sym (at_right xs ys i (i - length xs) (omega (arith, all))) ∙ start.sees;
                      loads = sym (at_right xs ys (suc i) (suc (i - length xs)) (omega (arith, all))) ∙ start.loads;
                      draws = sym (at_right xs ys (suc (suc i)) (suc (suc (i - length xs))) (omega (arith, all))) ∙ start.draws;
                    })
              ]
            ]
          ]
