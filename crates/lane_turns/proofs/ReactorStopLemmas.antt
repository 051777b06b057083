-- Of what the reactor's lane draws a failure alone counts a stop.
use Rattle.std.proofs.Common.{◌≡◌, ℕ, Bool, true, false, cond, List, [], ◌∷◌, ◌++◌, None, refl, sym, ap, subst, ◌∙◌, arith}
use Rattle.std.proofs.lemmas.List.Elements.{All-append, All-cons, All-from_recursion, All-nil}
use Rattle.std.specs.Prelude.{◌||◌, nat_lt, slice_index, if◌then◌else◌}
use Rattle.asio_types.specs.declared.event.Event.TheVariants as event
use Rattle.session_script.specs.Script.{ScriptModel}
use Rattle.history_rules.specs.Kinds.{is_act, is_control}
use Rattle.history_rules.specs.State.{ReactorHalf}
use Rattle.lane_clock.specs.declared.found.Change.TheVariants as change
use Rattle.lane_clock.specs.declared.found.Found.{Found}
use Rattle.lane_clock.specs.declared.note.Note.{Note}
use Rattle.lane_clock.specs.declared.step.ClockStep.{ClockStep}
use Rattle.lane_clock.specs.declared.step.ClockStep.TheVariants.{Draw, Load, Place, Put, Look, Join}
use Rattle.lane_clock.specs.Seats.{ClockId, own}
use Rattle.lane_map.specs.LaneNumbers.{cells_of, home_lane, reactor_lane}
use Rattle.lane_logs.specs.Cuts.{NoneStops, is_stop_change, is_stop_draw}
use Rattle.lane_logs.specs.Labels.{Labelled, silent, shows, put_within, steps_in}
use Rattle.lane_logs.specs.LaneLog.{AreParts, IsIdleStep, MayFollow, steps_after}
use Rattle.lane_logs.specs.Names.{SessionNames}
use Rattle.lane_logs.specs.Parts.{Part, TurnEnd, TurnStart, are_broken, end_labels, executed, failed, fails, idle, is_broken, is_failing, labels_in, labels_of, missing, passes, start_labels, takes, tells, turned}
use Rattle.lane_logs.specs.ReactorTurns.{AreTold, none_told, one_told, EndsTurn, MayStartTurn, done_labels, done_note, lets_go, take_change}
use Rattle.lane_logs.proofs.LabelLemmas.{steps-append}
use Rattle.lane_turns.specs.Batons.{IsLane, LaneView, opener_known}
use Rattle.lane_turns.specs.Turning.{log_half}
use Rattle.lane_turns.proofs.ReactorBatonLemmas.{works_still}

abbrev IsNoStop : ClockStep → Type 0
IsNoStop step = is_stop_draw step ≡ false

none_stop_in : (xs ys : List Labelled) → NoneStops (steps_in xs) → NoneStops (steps_in ys) →
    NoneStops (steps_in (xs ++ ys))
none_stop_in xs ys first second =
    subst NoneStops (sym (steps-append xs ys)) (All-append IsNoStop (steps_in xs) (steps_in ys) first second)

take_goes_on : (script : ScriptModel) (half : ReactorHalf) (a : ℕ) → is_stop_change (take_change script half a) ≡ false
take_goes_on script half a = by_test (is_act is_control script a) (lets_go script half a)
  where
    by_test : (control falls : Bool) →
        is_stop_change (if control then (if falls then change.DownTwo else change.Down) else change.Same) ≡ false
    by_test true true = refl
    by_test true false = refl
    by_test false falls = refl

put_goes_on : (within : Bool) (lane place : ℕ) (note : Note) →
    NoneStops (steps_in (cond within (silent (Put lane place note) ∷ []) []))
put_goes_on true lane place note = All-from_recursion IsNoStop (Put lane place note ∷ []) (refl, tt)
put_goes_on false lane place note = All-nil IsNoStop

told_goes_on : (script : ScriptModel) (told : Bool) (from : ReactorHalf) {labels : List Labelled} →
    AreTold script told from labels → NoneStops (steps_in labels)
told_goes_on script told from none_told = All-nil IsNoStop
told_goes_on script told from (one_told {labels} op with_code size place found before may) =
    let lane : ℕ = home_lane script op in
    let puts : List ClockStep = steps_in (put_within script lane place (done_note op with_code size)) in
    none_stop_in labels (done_labels script op with_code size place found) (told_goes_on script told from before)
    (All-cons IsNoStop (Place lane place) (Draw (event.Done op with_code size) change.Same found ∷ puts) refl
    (All-cons IsNoStop (Draw (event.Done op with_code size) change.Same found) puts refl
    (put_goes_on (nat_lt place (slice_index (cells_of script) lane)) lane place (done_note op with_code size))))

start_goes_on : (script : ScriptModel) (half : ReactorHalf) (running : Bool) (lane place : ℕ) (load found : Found)
    (start : TurnStart) → MayStartTurn script half running load start →
    NoneStops (steps_in (start_labels script lane place load found start))
start_goes_on script half running lane place load found (takes note changes) may =
    All-from_recursion IsNoStop (steps_in (start_labels script lane place load found (takes note changes)))
    (refl, (refl, (ap is_stop_change may.changed ∙ take_goes_on script half note.op, tt)))
start_goes_on script half running lane place load found (passes shown) may =
    by_cell (nat_lt place (slice_index (cells_of script) lane))
  where
    by_cell : (within : Bool) →
        NoneStops
        (steps_in
        (cond within (silent (Look lane place None) ∷ []) []
        ++ silent (Load load) ∷ shows shown change.Same found ∷ []))
    by_cell true =
        All-from_recursion IsNoStop (Look lane place None ∷ Load load ∷ Draw shown change.Same found ∷ []) (refl, (refl, (refl, tt)))
    by_cell false = All-from_recursion IsNoStop (Load load ∷ Draw shown change.Same found ∷ []) (refl, (refl, tt))

end_goes_on : (script : ScriptModel) (told : Bool) (from : ReactorHalf) (end : TurnEnd) → EndsTurn script told from end →
    is_failing end ≡ false → NoneStops (steps_in (end_labels end))
end_goes_on script told from (tells labels) ends works = told_goes_on script told from ends.told_so
end_goes_on script told from (fails found) ends works = absurd (cc works)

either_false : (a b : Bool) → (a || b) ≡ false → (a ≡ false) × (b ≡ false)
either_false true b is = absurd (cc is)
either_false false b is = (refl, is)

module _ (names : SessionNames) (opener : List ClockStep) (lane : ℕ) (last : lane ≡ reactor_lane names.script) where
  step_goes_on : (parts : List Part) (step : ClockStep) → IsIdleStep names opener lane parts step →
      NoneStops (step ∷ [])
  step_goes_on parts (Draw shown changes found) is = absurd is
  step_goes_on parts (Load found) is = All-from_recursion IsNoStop (Load found ∷ []) (refl, tt)
  step_goes_on parts (Place at place) is = absurd is
  step_goes_on parts (Put at place note) is = absurd is
  step_goes_on parts (Look at place held) is = All-from_recursion IsNoStop (Look at place held ∷ []) (refl, tt)
  step_goes_on parts (Join counts) is = All-from_recursion IsNoStop (Join counts ∷ []) (refl, tt)

  part_goes_on : (parts : List Part) (part : Part) → MayFollow names opener lane parts part → is_broken part ≡ false →
      NoneStops (steps_in (labels_in names.script lane part))
  part_goes_on parts (idle step) may works = step_goes_on parts step may
  part_goes_on parts (executed part) may works = let strand = may.strand in absurd (omega (arith, strand, last))
  part_goes_on parts (turned part) may works =
      none_stop_in (start_labels names.script lane part.place part.load part.drawn part.start) (end_labels part.end)
      (start_goes_on names.script _ _ lane part.place part.load part.drawn part.start may.starts)
      (end_goes_on names.script names.told _ part.end may.ends works)
  part_goes_on parts (failed part) may works = absurd (cc works)
  part_goes_on parts (missing place note) may works =
      All-from_recursion IsNoStop (steps_in (labels_in names.script lane (missing place note))) (refl, tt)

  pub all_go_on : (parts : List Part) → AreParts names opener lane parts → are_broken parts ≡ false →
      NoneStops (steps_after names opener lane parts)
  all_go_on [] are works = All-nil IsNoStop
  all_go_on (part ∷ parts) are works =
      let apart = either_false (is_broken part) (are_broken parts) works in
      none_stop_in (labels_of names.script lane parts) (labels_in names.script lane part)
      (all_go_on parts are.0 apart.1) (part_goes_on parts part are.1 apart.0)

-- a reactor that hasn't failed has counted no stop
pub reactor_goes_on : (names : SessionNames) (clock : ClockId) (view : LaneView) → IsLane names clock view →
    view.lane ≡ reactor_lane names.script → (log_half names view.pen.log).failed ≡ false →
    NoneStops (own view.pen.seat)
reactor_goes_on names clock view is last works =
    subst NoneStops (sym is.log.steps)
    (all_go_on names (opener_known names.script view.pen.seat) view.lane last is.log.parts is.log.are
    (works_still names clock view view is last works))
