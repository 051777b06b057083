-- All met the opener behind a read by which it knew that the reactor had failed.
use Rattle.std.proofs.Common.{◌≡◌, ◌≢◌, ℕ, ◌+◌, List, [], ◌∷◌, ◌++◌, Some, length, take, refl, sym, ap, subst, ◌∙◌, arith}
use Rattle.std.proofs.lemmas.List.{append-nil}
use Rattle.std.proofs.Math.Seq.{take-length}
use Rattle.std.specs.Prelude.{slice_get}
use Rattle.session_script.specs.Script.{ScriptModel}
use Rattle.lane_clock.specs.declared.step.ClockStep.{ClockStep}
use Rattle.lane_clock.specs.declared.step.ClockStep.TheVariants.{Load}
use Rattle.lane_clock.specs.declared.step.Known.{Known}
use Rattle.lane_clock.specs.Knowledge.{StartOf, steps_at}
use Rattle.lane_clock.specs.Seats.{ClockId, Remembers, SeatView, own}
use Rattle.lane_clock.specs.Steps.{draw_count, step_count}
use Rattle.lane_clock.proofs.KeepLemmas.{start_trans}
use Rattle.lane_map.specs.LaneNumbers.{reactor_lane}
use Rattle.lane_map.proofs.NumberLemmas.{lane_count as lanes_and_reactor}
use Rattle.lane_logs.specs.Knowing.{joined_count, lists_of}
use Rattle.lane_logs.specs.Labels.{silent}
use Rattle.lane_logs.specs.SeatNumbers.{opener_seat}
use Rattle.lane_turns.specs.AllMeeting.{HaveMetAfterFault}
use Rattle.lane_turns.specs.Attending.{AreHeard, AreKnown, HasGoneOn}
use Rattle.lane_turns.specs.Benches.{AreLanes, AreWorkers, HaveAllMet}
use Rattle.lane_turns.specs.KnownFaults.{KnowsFault, SomeStop}
use Rattle.lane_turns.specs.OpenerEvents.{HasReadAlone}
use Rattle.lane_turns.specs.Openers.{IsOpener, OpenerView}
use Rattle.lane_turns.proofs.CutLemmas.{HasMadeLast}
use Rattle.lane_turns.proofs.EventCutLemmas.{all_cut}
use Rattle.lane_turns.proofs.GrowingLemmas.{take_start}
use Rattle.lane_turns.proofs.MeetAllLemmas.{below_size}
use Rattle.lane_turns.proofs.OpenerLemmas.{gone_grows}
use Rattle.lane_turns.proofs.PenLemmas.{step_count-append}
use Rattle.lane_turns.proofs.ReactorFaultLemmas.{fault_remembered}
use Rattle.lane_turns.proofs.SteppingLemmas.{stepped_known, stepped_number}

-- a read is the last that it made
abbrev read_last : (before after : OpenerView) → HasReadAlone before after → HasMadeLast before.pen.seat after.pen.seat
read_last before after read =
    let steps : List ClockStep = Load read.found ∷ [] in
    record {
      front = [];
      step = Load read.found;
      steps = read.gone.steps;
      quiet = λ n. refl;
      number = ap (λ (seat : SeatView). seat.number) read.gone.seat ∙ stepped_number before.pen.seat steps;
      others =
          λ n ne.
          ap (λ (seat : SeatView). steps_at seat.known n) read.gone.seat
          ∙ ap (λ (known : Known). known.steps) (stepped_known before.pen.seat steps n ne);
    }

module _ (script : ScriptModel) (clock : ClockId) (before first : OpenerView) (is : IsOpener script clock before)
    (read : HasReadAlone before first) where
  read_remembers : Remembers before.pen.seat first.pen.seat
  read_remembers =
      gone_grows script clock before is first.pen (silent (Load read.found) ∷ []) read.gone (λ n. refl)

  pub read_on : HasGoneOn before first
  read_on =
      let draws : step_count draw_count (own first.pen.seat) ≡ step_count draw_count (own before.pen.seat) + 0 =
      ap (step_count draw_count) read.gone.steps
      ∙ step_count-append draw_count (own before.pen.seat) (Load read.found ∷ []) in
      record {
        remembers = read_remembers;
        number = (read_last before first read).number;
        draws = omega (arith, draws);
        log = read.gone.log ∙ append-nil before.pen.log;
        stand = read.stand;
      }

  module _ {L W : Type 0} (lane : L → SeatView) (worker : W → SeatView) (last : OpenerView) (lanes lanes_now : List L)
      (workers workers_now : List W) (are_lanes : AreLanes lane script lanes)
      (are_workers : AreWorkers worker script workers) (lanes_heard : AreHeard lane script before lanes (length lanes))
      (workers_heard : AreHeard worker script before workers (length workers))
      (met : HaveAllMet lane worker script first last lanes lanes_now workers workers_now) where
    abbrev at : ℕ
    at = length (own before.pen.seat ++ [])

    -- what the opener knew before the read it knows in the end
    till : (n : ℕ) → StartOf (lists_of before.pen.seat n) (lists_of last.pen.seat n)
    till n =
        start_trans _ _ _ (read_remembers n)
        (start_trans _ _ _ (met.on_mid.remembers n) (met.on_last.remembers n))

    own_then : take at (lists_of last.pen.seat (opener_seat script)) ≡ own before.pen.seat
    own_then =
        let mine : List ClockStep = own before.pen.seat in
        let whole : mine ++ [] ≡ mine = append-nil mine in
        let start : StartOf mine (lists_of last.pen.seat (opener_seat script)) =
        subst (λ n. StartOf mine (lists_of last.pen.seat n)) is.number (till before.pen.seat.number) in
        ap (λ xs. take (length xs) (lists_of last.pen.seat (opener_seat script))) whole
        ∙ take_start (length mine) mine (lists_of last.pen.seat (opener_seat script)) start (omega arith)
        ∙ take-length mine

    -- of another number it had taken in all that it knew
    taken_then : (n : ℕ) → n ≢ before.pen.seat.number →
        take (joined_count n (take at (lists_of last.pen.seat (opener_seat script)))) (lists_of last.pen.seat n)
        ≡ lists_of before.pen.seat n
    taken_then n apart =
        let count = ap (joined_count n) own_then ∙ is.known.others n apart in
        ap (λ k. take k (lists_of last.pen.seat n)) count
        ∙ take_start (length (lists_of before.pen.seat n)) (lists_of before.pen.seat n) (lists_of last.pen.seat n) (till n)
        (omega arith)
        ∙ take-length (lists_of before.pen.seat n)

    pub met_after_fault : KnowsFault script before.pen.seat → HaveMetAfterFault script (lists_of last.pen.seat)
    met_after_fault knows =
        let r : ℕ = reactor_lane script in
        let apart : r ≢ before.pen.seat.number = λ same. absurd (omega (arith, same, is.number, lanes_and_reactor script)) in
        record {
          at = at;
          failed = subst SomeStop (sym (taken_then r apart)) knows;
          cuts =
              all_cut lane worker script before first met.mid last lanes lanes_now workers workers_now is.number is.known
              (read_last before first read) met.on_mid met.on_last are_lanes are_workers lanes_heard workers_heard
              met.lanes_size met.workers_size met.lanes_met met.workers_met;
        }

-- what one of a list knows of a fault that is known, and more is known later
pub fault_told : {T : Type 0} (seat : T → SeatView) (script : ScriptModel) (a b : OpenerView) (all : List T) (k : ℕ) (one : T) →
    AreKnown seat a all (length all) → HasGoneOn a b → slice_get all k ≡ Some one → KnowsFault script (seat one) →
    KnowsFault script b.pen.seat
fault_told seat script a b all k one known on at knows =
    fault_remembered script (seat one) b.pen.seat
    (λ n. start_trans _ _ _ (known k one (below_size all k one at) at n) (on.remembers n)) knows
