-- A lane's log stays one where more of the opener's steps are known.
use Rattle.std.proofs.Common.{◌≡◌, ℕ, ◌≤◌, List, [], ◌∷◌, ◌++◌, length, sym, ap, subst, ◌∙◌, arith}
use Rattle.std.specs.Prelude.{Option, take}
use Rattle.std.proofs.lemmas.List.{take-append-le}
use Rattle.lane_clock.specs.declared.step.ClockStep.{ClockStep}
use Rattle.lane_clock.specs.declared.step.ClockStep.TheVariants.{Draw, Load, Place, Put, Look, Join}
use Rattle.lane_clock.specs.Knowledge.{StartOf}
use Rattle.lane_logs.specs.declared.log.LogEntry.{LogEntry}
use Rattle.lane_logs.specs.Knowing.{joined_count}
use Rattle.lane_logs.specs.Labels.{steps_in}
use Rattle.lane_logs.specs.LaneLog.{AreParts, IsIdleStep, IsLaneLog, MayFollow, half_after, opener_after, steps_after}
use Rattle.lane_logs.specs.Names.{SessionNames}
use Rattle.lane_logs.specs.Parts.{Part, executed, failed, idle, missing, turned, labels_in, labels_of}
use Rattle.lane_logs.specs.ReactorTurns.{MayStartTurn}
use Rattle.lane_logs.specs.SeatNumbers.{opener_seat}
use Rattle.lane_logs.specs.Stand.{base_of, is_running_round}
use Rattle.lane_logs.proofs.LabelLemmas.{steps-append}
use Rattle.lane_turns.proofs.MeetingLemmas.{joined_less}

-- of the first steps that were known no more are known
pub take_start : (k : ℕ) (xs all : List ClockStep) → StartOf xs all → k ≤ length xs → take k all ≡ take k xs
take_start k xs all start few = ap (take k) start.1 ∙ take-append-le k xs start.0 few

module _ (names : SessionNames) (opener longer : List ClockStep) (lane : ℕ) (more : StartOf opener longer) where
  abbrev Knows : List Part → Type 0
  Knows parts = joined_count (opener_seat names.script) (steps_after names opener lane parts) ≤ length opener

  same_opener : (parts : List Part) → Knows parts →
      opener_after names opener lane parts ≡ opener_after names longer lane parts
  same_opener parts knows = sym (take_start _ opener longer more knows)

  still_idle : (parts : List Part) (step : ClockStep) → IsIdleStep names opener lane parts step →
      IsIdleStep names longer lane parts step
  still_idle parts (Draw shown change found) is = is
  still_idle parts (Load found) is = is
  still_idle parts (Place at place) is = is
  still_idle parts (Put at place note) is = is
  still_idle parts (Look at place held) is = is
  still_idle parts (Join taken) is = is

  still_follows : (parts : List Part) (part : Part) → Knows parts → MayFollow names opener lane parts part →
      MayFollow names longer lane parts part
  still_follows parts (idle step) knows is = still_idle parts step is
  still_follows parts (executed part) knows is =
      record {
        strand = is.strand;
        next = is.next;
        going = is.going ∙ ap (base_of names.script) (same_opener parts knows);
        whole = is.whole;
        drawn = is.drawn;
      }
  still_follows parts (turned part) knows is =
      record {
        reactor = is.reactor;
        working = is.working;
        next = is.next;
        going = is.going ∙ ap (base_of names.script) (same_opener parts knows);
        starts =
            subst (λ steps.
            MayStartTurn names.script (half_after names opener lane parts) (is_running_round names.script steps)
            part.load part.start) (same_opener parts knows) is.starts;
        ends = is.ends;
      }
  still_follows parts (failed part) knows is =
      record {
        reactor = is.reactor;
        working = is.working;
        next = is.next;
        going = is.going ∙ ap (base_of names.script) (same_opener parts knows);
        pending = is.pending;
      }
  still_follows parts (missing place note) knows is =
      record {
        first = is.first;
        working = is.working;
        next = is.next;
        no_handler = is.no_handler;
        no_request = is.no_request;
      }

  pub still_parts : (parts : List Part) → Knows parts → AreParts names opener lane parts → AreParts names longer lane parts
  still_parts [] knows are = tt
  still_parts (part ∷ parts) knows are =
      let n : ℕ = opener_seat names.script in
      let split : steps_after names opener lane (part ∷ parts)
      ≡ steps_after names opener lane parts ++ steps_in (labels_in names.script lane part) =
      steps-append (labels_of names.script lane parts) (labels_in names.script lane part) in
      let less : Knows parts =
      omega (
        arith,
        knows,
        ap (joined_count n) split,
        joined_less n (steps_after names opener lane parts) (steps_in (labels_in names.script lane part)),
      ) in
      (still_parts parts less are.0, still_follows parts part less are.1)

  abbrev pub log_grows : (steps : List ClockStep) (entries : List LogEntry) (missed : Option ℕ) →
      joined_count (opener_seat names.script) steps ≤ length opener →
      IsLaneLog names opener lane steps entries missed → IsLaneLog names longer lane steps entries missed
  log_grows steps entries missed knows log =
      record {
        parts = log.parts;
        are =
            still_parts log.parts
            (subst (λ xs. joined_count (opener_seat names.script) xs ≤ length opener) log.steps knows) log.are;
        steps = log.steps;
        shown = log.shown;
        first = log.first;
      }
