-- A context at rest: the opener has heard all, and looks at cells leave it at rest.
use Rattle.std.proofs.Common.{◌≡◌, ◌≢◌, ◌⊎◌, inl, inr, ⊎_elim, ℕ, ◌+◌, ◌<◌, ◌≤◌, List, [], ◌∷◌, ◌++◌, Option, Some, None, length, get_or, refl, sym, ap, subst, ◌∙◌, arith}
use Rattle.std.specs.Prelude.{All, IfNone, map, slice_index}
use Rattle.std.proofs.Math.Seq.{take-length}
use Rattle.std.proofs.lemmas.List.{append-nil}
use Rattle.std.proofs.lemmas.List.Elements.{All-append, All-cons, All-map, All-nil, All-push, All-weaker}
use Rattle.std.proofs.lemmas.Option.{slice_get-get_or}
use mathlib.Core.Logic.{dite}
use mathlib.Core.Option.{some}
use lib.ListN.{get_elem?}
use native.Mathlib.Decide.{ℕ_discrete}
use Rattle.session_script.specs.Script.{ScriptModel}
use Rattle.lane_clock.specs.declared.note.Note.{Note}
use Rattle.lane_clock.specs.declared.step.ClockStep.{ClockStep}
use Rattle.lane_clock.specs.declared.step.ClockStep.TheVariants.{Look}
use Rattle.lane_clock.specs.declared.step.Known.{Known}
use Rattle.lane_clock.specs.Knowledge.{StartOf, steps_at}
use Rattle.lane_clock.specs.Seats.{ClockId, Remembers, SeatView, own}
use Rattle.lane_clock.specs.Steps.{draw_count, step_count}
use Rattle.lane_clock.proofs.KeepLemmas.{start_same, start_trans}
use Rattle.lane_map.specs.LaneNumbers.{cells_of, home_lane}
use Rattle.lane_logs.specs.declared.receipt.Receipt.{Receipt}
use Rattle.lane_logs.specs.AtRest.{FoundNoneFrom, IsAtRest, LooksElse, RestsFrom}
use Rattle.lane_logs.specs.Knowing.{joined_count, lists_of}
use Rattle.lane_logs.specs.Labels.{Labelled, steps_in}
use Rattle.lane_logs.specs.OpenerLog.{IsRestingStep}
use Rattle.lane_logs.specs.SeatNumbers.{opener_seat}
use Rattle.lane_turns.specs.AtRest.{HasHeardPens, HasOnlyLooked, IsLook, RestView, rest_lists}
use Rattle.lane_turns.specs.Attending.{AreHeard, HasGoneOn, IsHeard}
use Rattle.lane_turns.specs.Batons.{BatonView, LaneView}
use Rattle.lane_turns.specs.Finishing.{IsOver, lanes_in, pens_of}
use Rattle.lane_turns.specs.KnownFaults.{KnowsFault}
use Rattle.lane_turns.specs.Openers.{HasTakenIn, IsOpener, OpenerView}
use Rattle.lane_turns.specs.Pens.{HasGone, PenView}
use Rattle.lane_turns.specs.Receipts.{FindsIn, looks_from}
use Rattle.lane_turns.specs.Workers.{WorkerView}
use Rattle.lane_turns.proofs.AttendingLemmas.{heard_now, heard_on, on_and_on, on_heard}
use Rattle.lane_turns.proofs.CutLemmas.{at_start}
use Rattle.lane_turns.proofs.GrowingLemmas.{take_start}
use Rattle.lane_turns.proofs.LookedLemmas.{looks_draw_none, looks_show_none}
use Rattle.lane_turns.proofs.PenLemmas.{step_count-append}
use Rattle.lane_turns.proofs.ReactorFaultLemmas.{fault_remembered}
use Rattle.lane_turns.proofs.ReceiptLemmas.{finds_gone, none_at}
use Rattle.lane_turns.proofs.RememberingLemmas.{gone_number, gone_remembers}
use Rattle.lane_turns.proofs.RestingLemmas.{look_rests, rests_behind, rests_here, rests_on}
use Rattle.lane_turns.proofs.SteppingLemmas.{stepped_known}

-- what wasn't found stays so where more steps are known
pub none_stays : (script : ScriptModel) (lists longer : ℕ → List ClockStep) (since op : ℕ) →
    StartOf (lists (opener_seat script)) (longer (opener_seat script)) → FoundNoneFrom script lists since op →
    FoundNoneFrom script longer since op
none_stays script lists longer since op more none place less =
    let look = none place less in
    record {
      at = look.at;
      from = look.from;
      held = look.held;
      saw =
          at_start (lists (opener_seat script)) (longer (opener_seat script)) look.at
          (Look (home_lane script op) place look.held) more look.saw;
      other = look.other;
    }

-- looks forget nothing
pub looked_start : (script : ScriptModel) (old new : RestView) → HasOnlyLooked script old new → (n : ℕ) →
    StartOf (rest_lists old n) (rest_lists new n)
looked_start script old new looked n =
    dite (ℕ_discrete n (opener_seat script))
    (λ (same : n ≡ opener_seat script).
    subst (λ k. StartOf (rest_lists old k) (rest_lists new k)) (sym same) (looked.looks, looked.mine))
    (λ apart. start_same (rest_lists old n) (rest_lists new n) (sym (looked.others n apart)))

-- what it knows by joins alone is all that it knows, where nothing was done since
pub now_at_rest : (script : ScriptModel) (clock : ClockId) (opener : OpenerView) → IsOpener script clock opener →
    IsAtRest script (lists_of opener.pen.seat) (length (lists_of opener.pen.seat (opener_seat script)))
now_at_rest script clock opener is =
    let o : ℕ = opener_seat script in
    record {
      all =
          λ n less.
          let apart : n ≢ opener.pen.seat.number = λ same. absurd (omega (arith, same, is.number, less)) in
          ap (joined_count n) (take-length (lists_of opener.pen.seat o) ∙ ap (lists_of opener.pen.seat) (sym is.number))
          ∙ is.known.others n apart;
      resting = rests_here script (lists_of opener.pen.seat) (lists_of opener.pen.seat);
    }

-- rest stays rest where nothing but resting steps of the opener come
pub rest_on : (script : ScriptModel) (lists longer : ℕ → List ClockStep) (since : ℕ) →
    since ≤ length (lists (opener_seat script)) → StartOf (lists (opener_seat script)) (longer (opener_seat script)) →
    ((n : ℕ) → n < opener_seat script → longer n ≡ lists n) →
    RestsFrom script longer (length (lists (opener_seat script))) → IsAtRest script lists since →
    IsAtRest script longer since
rest_on script lists longer since made start same later is =
    let o : ℕ = opener_seat script in
    record {
      all =
          λ n less.
          ap (joined_count n) (take_start since (lists o) (longer o) start made) ∙ is.all n less
          ∙ ap length (sym (same n less));
      resting = rests_on script lists longer since start is.resting later;
    }

-- it is over still
pub over_on : (script : ScriptModel) (a b : OpenerView) → Remembers a.pen.seat b.pen.seat → b.stand ≡ a.stand →
    IsOver script a → IsOver script b
over_on script a b remembers stand over =
    ⊎_elim
    (λ (all : a.stand.closings ≡ length script.rounds). inl (ap (λ s. s.closings) stand ∙ all))
    (λ (fault : KnowsFault script a.pen.seat). inr (fault_remembered script a.pen.seat b.pen.seat remembers fault))
    over

-- the pens of all that were heard
module _ {H : Type 0} (script : ScriptModel) (opener : OpenerView) (batons : List (BatonView H)) (reactor : LaneView)
    (workers : List WorkerView) where
  abbrev Heard : PenView → Type 0
  Heard pen = StartOf (own pen.seat) (lists_of opener.pen.seat pen.seat.number)

  pub pens_heard : AreHeard (λ (baton : BatonView H). baton.lane.pen.seat) script opener batons (length batons) →
      IsHeard script opener reactor.pen.seat →
      AreHeard (λ (worker : WorkerView). worker.pen.seat) script opener workers (length workers) →
      HasHeardPens opener (pens_of (lanes_in batons reactor) workers)
  pens_heard lanes last others =
      All-append Heard (map (λ (lane : LaneView). lane.pen) (lanes_in batons reactor))
      (map (λ (worker : WorkerView). worker.pen) workers)
      (All-map Heard (λ (lane : LaneView). lane.pen) (lanes_in batons reactor)
      (All-push (λ (lane : LaneView). Heard lane.pen) (map (λ (baton : BatonView H). baton.lane) batons) reactor
      (All-map (λ (lane : LaneView). Heard lane.pen) (λ (baton : BatonView H). baton.lane) batons
      (λ k d less. (lanes k (get_or batons k d) less (slice_get-get_or batons k d less)).heard))
      last.heard))
      (All-map Heard (λ (worker : WorkerView). worker.pen) workers
      (λ k d less. (others k (get_or workers k d) less (slice_get-get_or workers k d less)).heard))

pub pens_on : (a b : OpenerView) (pens : List PenView) → Remembers a.pen.seat b.pen.seat → HasHeardPens a pens →
    HasHeardPens b pens
pens_on a b pens remembers heard k d less =
    start_trans _ _ _ (heard k d less) (remembers (get_or pens k d).seat.number)

-- looks are steps that look
looks_are : (lane place : ℕ) (seen : List (Option Note)) → All IsLook (steps_in (looks_from lane place seen))
looks_are lane place [] = All-nil IsLook
looks_are lane place (held ∷ seen) =
    All-cons IsLook (Look lane place held) (steps_in (looks_from lane (place + 1) seen)) tt
    (looks_are lane (place + 1) seen)

-- the opener looked for an operation
module _ (script : ScriptModel) (old new : OpenerView) (number : old.pen.seat.number ≡ opener_seat script)
    (lane cells op : ℕ) (answer : Option Receipt) (found : FindsIn HasGone lane cells op answer old.pen new.pen)
    (stand : new.stand ≡ old.stand) where
  abbrev o : ℕ
  o = opener_seat script

  abbrev seen : List (Option Note)
  seen = (finds_gone lane cells op answer old.pen new.pen found).0

  abbrev labels : List Labelled
  labels = looks_from lane 0 seen

  gone : HasGone labels old.pen new.pen
  gone = (finds_gone lane cells op answer old.pen new.pen found).1

  pub finds_remembers : Remembers old.pen.seat new.pen.seat
  finds_remembers = gone_remembers labels old.pen new.pen gone

  pub finds_number : new.pen.seat.number ≡ o
  finds_number = gone_number labels old.pen new.pen gone ∙ number

  pub finds_goes_on : HasGoneOn old new
  finds_goes_on =
      let drawn = ap (step_count draw_count) gone.steps ∙ step_count-append draw_count (own old.pen.seat) (steps_in labels) in
      let none = looks_draw_none lane 0 seen in
      record {
        remembers = finds_remembers;
        number = gone_number labels old.pen new.pen gone;
        draws = omega (arith, drawn, none);
        log =
            gone.log ∙ ap (λ entries. old.pen.log ++ entries) (looks_show_none lane 0 seen) ∙ append-nil old.pen.log;
        stand = stand;
      }

  mine : lists_of new.pen.seat o ≡ lists_of old.pen.seat o ++ steps_in labels
  mine =
      ap (lists_of new.pen.seat) (sym finds_number) ∙ gone.steps
      ∙ ap (λ n. lists_of old.pen.seat n ++ steps_in labels) number

  others : (n : ℕ) → n ≢ o → lists_of new.pen.seat n ≡ lists_of old.pen.seat n
  others n apart =
      ap (λ (seat : SeatView). steps_at seat.known n) gone.seat
      ∙ ap (λ (known : Known). known.steps)
      (stepped_known old.pen.seat (steps_in labels) n (λ same. apart (same ∙ number)))

  pub finds_only_looks : (workers : List WorkerView) (since : ℕ) →
      HasOnlyLooked script (record { known = old.pen.seat; workers = workers; since = since })
      (record { known = new.pen.seat; workers = workers; since = since })
  finds_only_looks workers since =
      record {
        looks = steps_in labels;
        are = looks_are lane 0 seen;
        mine = mine;
        others = others;
        workers = refl;
        since = refl;
      }

  pub finds_rests : (since : ℕ) → since ≤ length (lists_of old.pen.seat o) →
      IsAtRest script (lists_of old.pen.seat) since → IsAtRest script (lists_of new.pen.seat) since
  finds_rests since made is =
      rest_on script (lists_of old.pen.seat) (lists_of new.pen.seat) since made (finds_remembers o)
      (λ n less. others n (λ same. absurd (omega (arith, same, less))))
      (rests_behind script (lists_of old.pen.seat) (lists_of new.pen.seat) (steps_in labels)
      (All-weaker IsLook IsRestingStep look_rests (steps_in labels) (looks_are lane 0 seen)) mine) is

-- and where it found none it looked at each cell in vain
pub finds_none : (script : ScriptModel) (old new : OpenerView) (lane cells op : ℕ) (answer : Option Receipt) →
    old.pen.seat.number ≡ opener_seat script → FindsIn HasGone lane cells op answer old.pen new.pen →
    new.stand ≡ old.stand → (since : ℕ) → since ≤ length (lists_of old.pen.seat (opener_seat script)) →
    lane ≡ home_lane script op → cells ≡ slice_index (cells_of script) lane →
    IfNone answer (FoundNoneFrom script (lists_of new.pen.seat) since op)
finds_none script old new lane cells op (Some receipt) number found stand since made home count = tt
finds_none script old new lane cells op None number found stand since made home count =
    λ place less.
    subst (λ at. LooksElse script (lists_of new.pen.seat) since op at place) home
    (let within : place < cells =
    omega (arith, less, count, ap (slice_index (cells_of script)) home) in
    let look = none_at lane cells op old.pen new.pen found place within in
    record {
      at = look.0;
      from = omega (arith, look.2, made, ap (λ n. length (lists_of old.pen.seat n)) number);
      held = look.1;
      saw =
          subst (λ n. get_elem? (lists_of new.pen.seat n) look.0 ≡ some (Look lane place look.1))
          (finds_number script old new number lane cells op None found stand) look.3;
      other = look.4;
    })

-- the opener heard the lanes on which handlers execute, the reactor's and the workers
module _ {H : Type 0} (script : ScriptModel) (clock : ClockId) (first one two last : OpenerView)
    (batons heard : List (BatonView H)) (reactor after : LaneView) (workers left : List WorkerView)
    (number : first.pen.seat.number ≡ opener_seat script) (on_one : HasGoneOn first one)
    (lanes : AreHeard (λ (baton : BatonView H). baton.lane.pen.seat) script one batons (length batons))
    (taken : HasTakenIn script reactor.pen.seat one two) (on_last : HasGoneOn two last)
    (others : AreHeard (λ (worker : WorkerView). worker.pen.seat) script last workers (length workers)) where
  on_two : HasGoneOn one two
  on_two = on_heard script reactor.pen.seat one two taken

  pub all_on : HasGoneOn first last
  all_on = on_and_on first two last (on_and_on first one two on_one on_two) on_last

  pub heard_all : heard ≡ batons → after ≡ reactor → left ≡ workers →
      HasHeardPens last (pens_of (lanes_in heard after) left)
  heard_all same_lanes same_reactor same_workers =
      subst (λ bs. HasHeardPens last (pens_of (lanes_in bs after) left)) (sym same_lanes)
      (subst (λ lane. HasHeardPens last (pens_of (lanes_in batons lane) left)) (sym same_reactor)
      (subst (λ ws. HasHeardPens last (pens_of (lanes_in batons reactor) ws)) (sym same_workers)
      (pens_heard script last batons reactor workers
      (λ k it less at.
      heard_on script two last it.lane.pen.seat on_last
      (heard_on script one two it.lane.pen.seat on_two (lanes k it less at)))
      (heard_on script two last reactor.pen.seat on_last (heard_now script one two reactor.pen.seat taken)) others)))
