-- Between its turns the reactor has nothing to tell, and it hasn't failed.
use Rattle.std.proofs.Common.{◌≡◌, ℕ, Bool, true, false, cond, List, [], ◌∷◌, ◌++◌, Option, None, Some, refl, sym, ap, subst, ◌∙◌, arith}
use Rattle.std.specs.Prelude.{◌||◌, nat_lt, slice_index}
use Rattle.asio_types.specs.declared.event.Event.TheVariants as event
use Rattle.asio_types.specs.declared.outside.Point.{Point}
use Rattle.asio_types.specs.declared.outside.Point.TheVariants as point
use Rattle.session_script.specs.Script.{ScriptModel, act_of}
use Rattle.session_script.specs.declared.act.Act.{Act}
use Rattle.history_rules.specs.Legal.{reactor_after}
use Rattle.history_rules.specs.Performing.{performed_by, with_taken}
use Rattle.history_rules.specs.Requests.{reactor_after_take}
use Rattle.history_rules.specs.Rounds.{IsDrained}
use Rattle.history_rules.specs.Settling.{settled}
use Rattle.history_rules.specs.State.{ReactorHalf, first_reactor}
use Rattle.history_rules.specs.Time.{at_last, at_time, next_time}
use Rattle.lane_clock.specs.declared.found.Found.{Found}
use Rattle.lane_clock.specs.declared.note.Note.{Note}
use Rattle.lane_clock.specs.declared.step.ClockStep.{ClockStep}
use Rattle.lane_clock.specs.declared.step.ClockStep.TheVariants.{Look, Put}
use Rattle.lane_map.specs.LaneNumbers.{cells_of, home_lane, reactor_lane}
use Rattle.lane_logs.specs.Half.{half_from}
use Rattle.lane_logs.specs.Labels.{Labelled, entries_in, silent}
use Rattle.lane_logs.specs.LaneLog.{AreParts, MayFollow, half_after}
use Rattle.lane_logs.specs.Names.{SessionNames}
use Rattle.lane_logs.specs.Parts.{Part, TurnEnd, TurnPart, TurnStart, are_broken, end_labels, executed, failed, fails, idle, is_broken, is_failing, labels_in, labels_of, missing, passes, start_labels, takes, tells, turned}
use Rattle.lane_logs.specs.ReactorTurns.{AreTold, EndsTurn, MayStartTurn, done_labels, done_note, none_told, one_told, point_event, start_event}
use Rattle.lane_logs.proofs.LabelLemmas.{entries-append}
use Rattle.reactor_turns.proofs.ClockLemmas.{runs-take, settled-clock, time-done}
use Rattle.history_merge.proofs.HalfLemmas.{half_from-append}

pub record IsResting (r : ReactorHalf) : Type 0 where
  pub due : r.due ≡ []
  pub drained : IsDrained r
  pub works : r.failed ≡ false

-- a turn leaves whether the reactor has failed
settled_works : (told : Bool) (r : ReactorHalf) → (settled told r).failed ≡ r.failed
settled_works told r = (settled-clock told r).failed

pub take_works : (script : ScriptModel) (told : Bool) (r : ReactorHalf) (a : ℕ) →
    (reactor_after_take script told r a).failed ≡ r.failed
take_works script told r a = by_act (act_of script a) refl
  where
    by_act : (found : Option Act) → act_of script a ≡ found → (reactor_after_take script told r a).failed ≡ r.failed
    by_act None is =
        ap (λ (found : Option Act). (settled told (with_taken a (performed_by script a found r))).failed) is
        ∙ settled_works told (with_taken a r)
    by_act (Some given) is = (runs-take script told r a given is).failed

point_works : (script : ScriptModel) (told : Bool) (r : ReactorHalf) (to : Point) →
    (reactor_after script told r (point_event to)).failed ≡ r.failed
point_works script told r (point.Time now) = settled_works told (at_time script told now r)
point_works script told r point.Last = settled_works told (at_last told r)

pub start_works : (script : ScriptModel) (told : Bool) (r : ReactorHalf) (running : Bool) (load : Found) (start : TurnStart) →
    MayStartTurn script r running load start → (reactor_after script told r (start_event start)).failed ≡ r.failed
start_works script told r running load (takes note changes) may = take_works script told r note.op
start_works script told r running load (passes shown) may =
    ap (λ shown. (reactor_after script told r shown).failed) may.next ∙ point_works script told r (next_time script r)

-- steps by themselves are no entries
pub put_entries : (within : Bool) (lane place : ℕ) (note : Note) →
    entries_in (cond within (silent (Put lane place note) ∷ []) []) ≡ []
put_entries true lane place note = refl
put_entries false lane place note = refl

pub look_entries : (within : Bool) (lane place : ℕ) (labels : List Labelled) →
    entries_in (cond within (silent (Look lane place None) ∷ []) [] ++ labels) ≡ entries_in labels
look_entries true lane place labels = refl
look_entries false lane place labels = refl

module _ (script : ScriptModel) (told : Bool) where
  pub half-append : (half : ReactorHalf) (xs ys : List Labelled) →
      half_from script told half (entries_in (xs ++ ys))
      ≡ half_from script told (half_from script told half (entries_in xs)) (entries_in ys)
  half-append half xs ys =
      ap (half_from script told half) (entries-append xs ys)
      ∙ half_from-append script told half (entries_in xs) (entries_in ys)

  pub told_works : (from : ReactorHalf) {labels : List Labelled} → AreTold script told from labels →
      (half_from script told from (entries_in labels)).failed ≡ from.failed
  told_works from none_told = refl
  told_works from (one_told {labels} op with_code size place found before may) =
      let half : ReactorHalf = half_from script told from (entries_in labels) in
      ap (λ (r : ReactorHalf). r.failed) (half-append from labels (done_labels script op with_code size place found))
      ∙ (ap (λ entries. (half_from script told (reactor_after script told half (event.Done op with_code size)) entries).failed)
      (put_entries (nat_lt place (slice_index (cells_of script) (home_lane script op))) (home_lane script op) place
      (done_note op with_code size))
      ∙ ((time-done script half op).failed ∙ told_works from before))

  -- what a turn begins with, and then tells
  pub start_half : (lane : ℕ) (half : ReactorHalf) (place : ℕ) (load found : Found) (start : TurnStart) →
      half_from script told half (entries_in (start_labels script lane place load found start))
      ≡ reactor_after script told half (start_event start)
  start_half lane half place load found (takes note changes) = refl
  start_half lane half place load found (passes shown) =
      ap (half_from script told half)
      (look_entries (nat_lt place (slice_index (cells_of script) lane)) lane place _)

  pub turn_half : (lane : ℕ) (half : ReactorHalf) (part : TurnPart) →
      half_from script told half (entries_in (labels_in script lane (turned part)))
      ≡ half_from script told (reactor_after script told half (start_event part.start)) (entries_in (end_labels part.end))
  turn_half lane half part =
      half-append half (start_labels script lane part.place part.load part.drawn part.start) (end_labels part.end)
      ∙ ap (λ from. half_from script told from (entries_in (end_labels part.end)))
      (start_half lane half part.place part.load part.drawn part.start)

  turn_rests : (from : ReactorHalf) (end : TurnEnd) → EndsTurn script told from end → from.failed ≡ false →
      is_failing end ≡ false → IsResting (half_from script told from (entries_in (end_labels end)))
  turn_rests from (tells labels) ends works isnt = record {
    due = ends.none_due;
    drained = ends.drained;
    works = told_works from ends.told_so ∙ works;
  }
  turn_rests from (fails found) ends works isnt = absurd (cc)

pub either_false : (a b : Bool) → (a || b) ≡ false → (a ≡ false) × (b ≡ false)
either_false true b is = absurd (cc)
either_false false b is = (refl, is)

module _ (names : SessionNames) (opener : List ClockStep) (lane : ℕ) (is : lane ≡ reactor_lane names.script) where
  abbrev half_of_parts : List Part → ReactorHalf
  half_of_parts parts = half_after names opener lane parts

  pub goes_on : (parts : List Part) (part : Part) →
      half_of_parts (part ∷ parts)
      ≡ half_from names.script names.told (half_of_parts parts) (entries_in (labels_in names.script lane part))
  goes_on parts part =
      half-append names.script names.told (first_reactor names.script names.told) (labels_of names.script lane parts)
      (labels_in names.script lane part)

  -- the reactor rests after parts of its lane none of which failed
  pub rests : (parts : List Part) → AreParts names opener lane parts → are_broken parts ≡ false →
      IsResting (half_of_parts parts)
  rests [] are works = record { due = refl; drained = λ last. absurd (cc); works = refl }
  rests (part ∷ parts) are works =
      let apart = either_false (is_broken part) (are_broken parts) works in
      subst IsResting (sym (goes_on parts part)) (by_part part are.1 apart.0 (rests parts are.0 apart.1))
    where
      by_part : (part : Part) → MayFollow names opener lane parts part → is_broken part ≡ false →
          IsResting (half_of_parts parts) →
          IsResting (half_from names.script names.told (half_of_parts parts) (entries_in (labels_in names.script lane part)))
      by_part (idle step) may isnt before = before
      by_part (executed part) may isnt before = let strand = may.strand in absurd (omega (arith, strand, is))
      by_part (turned part) may isnt before =
          subst IsResting (sym (turn_half names.script names.told lane (half_of_parts parts) part))
          (turn_rests names.script names.told _ part.end may.ends
          (start_works names.script names.told (half_of_parts parts) _ part.load part.start may.starts ∙ before.works) isnt)
      by_part (failed part) may isnt before = absurd (cc)
      by_part (missing place note) may isnt before = before
