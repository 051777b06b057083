-- A worker after it stops the context, reads the clock word, or takes in what the opener knew.
use Rattle.std.proofs.Common.{◌≡◌, ◌≢◌, ◌⊎◌, ⊎_elim, ℕ, ◌+◌, ◌≤◌, Bool, true, false, cond, List, [], ◌∷◌, ◌++◌, Option, None, length, ne_eqb, refl, sym, ap, subst, ◌∙◌, arith, append_assoc}
use Rattle.std.specs.Prelude.{◌&&◌, ◌==◌, not}
use Rattle.std.proofs.lemmas.Bool.{and_parts, eq-eqb, eqb-true}
use Rattle.std.proofs.lemmas.Bool.Decides.{eqb_tells}
use Rattle.std.proofs.lemmas.List.{append-nil}
use Rattle.asio_types.specs.declared.event.Event.TheVariants as event
use Rattle.session_script.specs.Script.{ScriptModel}
use Rattle.lane_clock.specs.declared.found.Change.TheVariants as change
use Rattle.lane_clock.specs.declared.found.Found.{Found}
use Rattle.lane_clock.specs.declared.note.Note.{Note}
use Rattle.lane_clock.specs.declared.step.ClockStep.{ClockStep}
use Rattle.lane_clock.specs.declared.step.ClockStep.TheVariants.{Load, Look, Join}
use Rattle.lane_clock.specs.declared.step.Known.{Known}
use Rattle.lane_clock.specs.Knowledge.{StartOf, counts, steps_at}
use Rattle.lane_clock.specs.Seats.{ClockId, Owns, SeatView, copy_seat, own}
use Rattle.lane_clock.specs.Steps.{draw_count, place_count, step_count}
use Rattle.lane_logs.specs.declared.log.LogEntry.{LogEntry}
use Rattle.lane_logs.specs.Knowing.{joined_count, lists_of}
use Rattle.lane_logs.specs.Labels.{Labelled, shows, silent, entries_in, steps_in}
use Rattle.lane_logs.specs.OpenerLog.{IsRestingStep}
use Rattle.lane_logs.specs.SeatNumbers.{opener_seat}
use Rattle.lane_logs.specs.Stand.{Stand, base_of, is_round_open, shut, stand_from, stand_of}
use Rattle.lane_logs.specs.WorkerLog.{AreWorkerParts, MayFollowStopped, WorkerPart, waiting, stopped, labels_of_worker, stand_known, stops_drawn, worker_label}
use Rattle.lane_logs.proofs.LabelLemmas.{entries-append, steps-append}
use Rattle.lane_logs.proofs.StandLemmas.{open_stand, closings_rise}
use Rattle.lane_turns.specs.declared.standing.RoundNow.{RoundNow}
use Rattle.lane_turns.specs.Batons.{opener_known}
use Rattle.lane_turns.specs.Meeting.{PenHasMet}
use Rattle.lane_turns.specs.Openers.{round_after}
use Rattle.lane_turns.specs.Pens.{HasGone, MayGo, PenView}
use Rattle.lane_turns.specs.Receipts.{looks_from}
use Rattle.lane_turns.specs.Workers.{IsInStep, IsWorker, WorkerView, in_new_round, may_draw_stop}
use Rattle.lane_turns.proofs.GrowingLemmas.{take_start}
use Rattle.lane_turns.proofs.LaneMeetingLemmas.{knows_opener}
use Rattle.lane_turns.proofs.LookedLemmas.{looks_draw_none, looks_place_none, looks_quiet, looks_show_none}
use Rattle.lane_turns.proofs.MeetingLemmas.{copied_steps, joined_less, met_clock, met_either, met_known, met_number}
use Rattle.lane_turns.proofs.OpenerLemmas.{stand_from-append}
use Rattle.lane_turns.proofs.PenLemmas.{gone_clock, step_count-append}
use Rattle.lane_turns.proofs.SteppingLemmas.{joined_on, knows_all, stepped_known, stepped_number}

-- a worker's log stays one where more of the opener's steps are known
module _ (script : ScriptModel) (opener longer : List ClockStep) (more : StartOf opener longer) where
  abbrev pub Knows : List WorkerPart → Type 0
  Knows parts = joined_count (opener_seat script) (steps_in (labels_of_worker parts)) ≤ length opener

  same_stand : (parts : List WorkerPart) → Knows parts →
      stand_known script opener parts ≡ stand_known script longer parts
  same_stand parts knows = ap (stand_of script) (sym (take_start _ opener longer more knows))

  still_follows : (parts : List WorkerPart) (part : WorkerPart) → Knows parts →
      MayFollowStopped script opener parts part → MayFollowStopped script longer parts part
  still_follows parts (waiting step) knows is = is
  still_follows parts (stopped drawn) knows is =
      record {
        round = ap (is_round_open script) (sym (same_stand parts knows)) ∙ is.round;
        once = omega (arith, is.once, ap (λ (s : Stand). s.closings) (same_stand parts knows));
      }

  pub still_worker : (parts : List WorkerPart) → Knows parts → AreWorkerParts script opener parts →
      AreWorkerParts script longer parts
  still_worker [] knows are = tt
  still_worker (part ∷ parts) knows are =
      let less : Knows parts =
      omega (
        arith,
        knows,
        ap (joined_count (opener_seat script)) (steps-append (labels_of_worker parts) (worker_label part ∷ [])),
        joined_less (opener_seat script) (steps_in (labels_of_worker parts)) (steps_in (worker_label part ∷ [])),
      ) in
      (still_worker parts less are.0, still_follows parts part less are.1)

no_stop : (b c : Bool) → (not b && not c) ≡ true → (b ≡ false) × (c ≡ false)
no_stop true c is = absurd (cc is)
no_stop false true is = absurd (cc is)
no_stop false false is = (refl, refl)

pub may_stop : (in_step drew : Bool) (base : ℕ) → in_step ≡ true → drew ≡ false → base ≢ shut →
    (in_step && (not drew && not (base == shut))) ≡ true
may_stop in_step drew base same none ne =
    ap (λ b. b && (not drew && not (base == shut))) same
    ∙ (ap (λ b. not b && not (base == shut)) none ∙ ap not (ne_eqb base shut ne))

open_by : (b : Bool) (base : ℕ) → (cond b base shut == shut) ≡ false → b ≡ true
open_by true base ne = refl
open_by false base ne = absurd (cc (sym (eq-eqb shut shut refl), ne))

-- looks at the cells of a lane, by themselves
abbrev waited : ℕ → ℕ → List (Option Note) → List WorkerPart → List WorkerPart
waited lane place [] parts = parts
waited lane place (held ∷ seen) parts = waited lane (place + 1) seen (waiting (Look lane place held) ∷ parts)

waited_labels : (lane place : ℕ) (seen : List (Option Note)) (parts : List WorkerPart) →
    labels_of_worker (waited lane place seen parts) ≡ labels_of_worker parts ++ looks_from lane place seen
waited_labels lane place [] parts = sym (append-nil (labels_of_worker parts))
waited_labels lane place (held ∷ seen) parts =
    waited_labels lane (place + 1) seen (waiting (Look lane place held) ∷ parts)
    ∙ append_assoc (labels_of_worker parts) (silent (Look lane place held) ∷ []) (looks_from lane (place + 1) seen)

waited_parts : (script : ScriptModel) (opener : List ClockStep) (lane place : ℕ) (seen : List (Option Note))
    (parts : List WorkerPart) → AreWorkerParts script opener parts →
    AreWorkerParts script opener (waited lane place seen parts)
waited_parts script opener lane place [] parts are = are
waited_parts script opener lane place (held ∷ seen) parts are =
    waited_parts script opener lane (place + 1) seen (waiting (Look lane place held) ∷ parts) (are, tt)

waited_stops : (lane place : ℕ) (seen : List (Option Note)) (parts : List WorkerPart) →
    stops_drawn (waited lane place seen parts) ≡ stops_drawn parts
waited_stops lane place [] parts = refl
waited_stops lane place (held ∷ seen) parts = waited_stops lane (place + 1) seen (waiting (Look lane place held) ∷ parts)

module _ (script : ScriptModel) (clock : ClockId) (old : WorkerView) (is : IsWorker script clock old) where
  abbrev opener : List ClockStep
  opener = opener_known script old.pen.seat

  -- by what it took in, it stands where it knows that the rounds stand
  stands : stand_known script opener is.log.parts ≡ stand_of script opener
  stands =
      ap (stand_of script) (knows_all (opener_seat script) opener (steps_in (labels_of_worker is.log.parts))
      (ap (joined_count (opener_seat script)) (sym is.log.steps) ∙ is.known))

  apart : old.pen.seat.number ≢ opener_seat script
  apart same = absurd (omega (arith, same, is.number.before))

  -- it may draw a stop where a round is open, and has stopped no more than each of those before
  module _ (may : may_draw_stop old ≡ true) where
    both : (old.in_step ≡ true) × ((not old.drew && not (old.round.base == shut)) ≡ true)
    both = and_parts old.in_step (not old.drew && not (old.round.base == shut)) may

    drew_none : old.drew ≡ false
    drew_none = (no_stop old.drew (old.round.base == shut) both.1).0

    opened : is_round_open script (stand_of script opener) ≡ true
    opened =
        let going = (no_stop old.drew (old.round.base == shut) both.1).1 in
        let same : old.round.base ≡ base_of script opener = is.in_round.base_is both.0 in
        open_by (is_round_open script (stand_of script opener)) (stand_of script opener).base
        (ap (λ b. b == shut) (sym same) ∙ going)

    few_now : stops_drawn is.log.parts ≤ old.round.closings
    few_now =
        subst (λ b. stops_drawn is.log.parts ≤ cond b (old.round.closings + 1) old.round.closings) drew_none is.few

    once : stops_drawn is.log.parts ≤ (stand_of script opener).closings
    once = omega (arith, few_now, is.in_round.closed)

    pub stop_room : MayGo old.pen 1 0
    stop_room =
        let stood = open_stand script (stand_of script opener) opened in
        record {
          log = omega (arith, once, stood.left, is.room);
          draws_left = omega (arith, once, stood.left, is.draws, is.short);
          places_left = omega (arith, is.places);
        }

  -- after labelled steps of its own, of which its log is made too
  module _ (pen : PenView) (labels : List Labelled) (parts : List WorkerPart) (gone : HasGone labels old.pen pen)
      (quiet : joined_count (opener_seat script) (steps_in labels) ≡ 0) (follows : AreWorkerParts script opener parts)
      (labelled : labels_of_worker parts ≡ labels_of_worker is.log.parts ++ labels) where
    same_number : pen.seat.number ≡ old.pen.seat.number
    same_number =
        ap (λ (seat : SeatView). seat.number) gone.seat ∙ stepped_number old.pen.seat (steps_in labels)

    knows : opener_known script pen.seat ≡ opener
    knows =
        ap (λ (seat : SeatView). steps_at seat.known (opener_seat script)) gone.seat
        ∙ ap (λ (k : Known). k.steps)
        (stepped_known old.pen.seat (steps_in labels) (opener_seat script) (λ same. apart (sym same)))

    worker_steps : (round : RoundNow) (drew was_stopped : Bool) → round ≡ old.round →
        stops_drawn parts ≤ cond drew (round.closings + 1) round.closings →
        length script.rounds ≤ stops_drawn parts + pen.room →
        step_count draw_count (own pen.seat) ≡ stops_drawn parts →
        step_count place_count (own pen.seat) ≡ 0 →
        IsWorker script clock (record {
          pen = pen;
          round = round;
          drew = drew;
          stopped = was_stopped;
          in_step = old.in_step;
        })
    worker_steps round drew was_stopped same few room draws places =
        record {
          clock_is = gone_clock labels old.pen pen gone ∙ is.clock_is;
          number = record {
            behind = omega (arith, same_number, is.number.behind);
            before = omega (arith, same_number, is.number.before);
          };
          owns = subst (λ n. Owns pen.seat n) (sym same_number) (gone.keeps old.pen.seat.number is.owns);
          log = record {
            parts = parts;
            are = subst (λ steps. AreWorkerParts script steps parts) (sym knows) follows;
            steps =
                gone.steps ∙ ap (λ steps. steps ++ steps_in labels) is.log.steps
                ∙ sym (steps-append (labels_of_worker is.log.parts) labels) ∙ ap steps_in (sym labelled);
            shown =
                gone.log ∙ ap (λ (log : List LogEntry). log ++ entries_in labels) is.log.shown
                ∙ sym (entries-append (labels_of_worker is.log.parts) labels) ∙ ap entries_in (sym labelled);
          };
          known =
              ap (joined_count (opener_seat script)) gone.steps
              ∙ joined_on (opener_seat script) (own old.pen.seat) (steps_in labels) quiet ∙ is.known
              ∙ ap length (sym knows);
          in_round =
              subst (λ (now : RoundNow). IsInStep script (opener_known script pen.seat) now old.in_step) (sym same)
              (subst (λ steps. IsInStep script steps old.round old.in_step) (sym knows) is.in_round);
          few = few;
          room = room;
          draws = draws;
          places = places;
          short = is.short;
        }

  pub worker_stopped : (pen : PenView) (found : Found) → may_draw_stop old ≡ true →
      HasGone (shows (event.Stop None) change.Stop found ∷ []) old.pen pen →
      IsWorker script clock (record {
        pen = pen;
        round = old.round;
        drew = true;
        stopped = true;
        in_step = old.in_step;
      })
  worker_stopped pen found may gone =
      let drawn = ap (step_count draw_count) gone.steps ∙ step_count-append draw_count (own old.pen.seat) _ in
      let placed = ap (step_count place_count) gone.steps ∙ step_count-append place_count (own old.pen.seat) _ in
      worker_steps pen (shows (event.Stop None) change.Stop found ∷ []) (stopped found ∷ is.log.parts) gone refl (
        is.log.are,
        record {
          round = ap (is_round_open script) stands ∙ opened may;
          once = omega (arith, once may, ap (λ (s : Stand). s.closings) stands);
        },
      )
      refl old.round true true refl (omega (arith, few_now may))
      (omega (arith, is.room, gone.room)) (omega (arith, drawn, is.draws)) (omega (arith, placed, is.places))

  -- a load or a look draws nothing and takes nothing in
  worker_rests : (pen : PenView) (step : ClockStep) → IsRestingStep step →
      joined_count (opener_seat script) (step ∷ []) ≡ 0 → step_count draw_count (step ∷ []) ≡ 0 →
      step_count place_count (step ∷ []) ≡ 0 → HasGone (silent step ∷ []) old.pen pen →
      IsWorker script clock (record old { pen = pen })
  worker_rests pen step rests quiet no_draw no_place gone =
      let drawn = ap (step_count draw_count) gone.steps ∙ step_count-append draw_count (own old.pen.seat) (step ∷ []) in
      let placed = ap (step_count place_count) gone.steps ∙ step_count-append place_count (own old.pen.seat) (step ∷ []) in
      worker_steps pen (silent step ∷ []) (waiting step ∷ is.log.parts) gone quiet (is.log.are, rests) refl old.round
      old.drew old.stopped refl is.few
      (omega (arith, is.room, gone.room)) (omega (arith, drawn, no_draw, is.draws))
      (omega (arith, placed, no_place, is.places))

  pub worker_read : (pen : PenView) (found : Found) → HasGone (silent (Load found) ∷ []) old.pen pen →
      IsWorker script clock (record old { pen = pen })
  worker_read pen found gone = worker_rests pen (Load found) tt refl refl refl gone

  pub worker_looks : (pen : PenView) (lane : ℕ) (seen : List (Option Note)) →
      HasGone (looks_from lane 0 seen) old.pen pen →
      IsWorker script clock (record old { pen = pen })
  worker_looks pen lane seen gone =
      let labels : List Labelled = looks_from lane 0 seen in
      let parts : List WorkerPart = waited lane 0 seen is.log.parts in
      let none : length (entries_in labels) ≡ 0 = ap length (looks_show_none lane 0 seen) in
      let drawn = ap (step_count draw_count) gone.steps ∙ step_count-append draw_count (own old.pen.seat) (steps_in labels) in
      let placed = ap (step_count place_count) gone.steps ∙ step_count-append place_count (own old.pen.seat) (steps_in labels) in
      let no_draw = looks_draw_none lane 0 seen in
      let no_place = looks_place_none lane 0 seen in
      let same : stops_drawn parts ≡ stops_drawn is.log.parts = waited_stops lane 0 seen is.log.parts in
      worker_steps pen labels parts gone (looks_quiet (opener_seat script) lane 0 seen)
      (waited_parts script opener lane 0 seen is.log.parts is.log.are) (waited_labels lane 0 seen is.log.parts) old.round
      old.drew old.stopped refl (subst (λ n. n ≤ cond old.drew (old.round.closings + 1) old.round.closings) (sym same) is.few)
      (omega (arith, is.room, gone.room, none, same)) (omega (arith, drawn, no_draw, is.draws, same))
      (omega (arith, placed, no_place, is.places))

  pub worker_asked : IsWorker script clock (record old { stopped = true })
  worker_asked =
      record {
        clock_is = is.clock_is;
        number = is.number;
        owns = is.owns;
        log = is.log;
        known = is.known;
        in_round = is.in_round;
        few = is.few;
        room = is.room;
        draws = is.draws;
        places = is.places;
        short = is.short;
      }

  -- the worker took in what another seat knew
  module _ (other : SeatView) (pen : PenView) (met : PenHasMet (copy_seat other) old.pen pen) where
    more : StartOf opener (opener_known script pen.seat)
    more = met.met.remembers (opener_seat script)

    takes_in : (round : RoundNow) (drew was_stopped in_step : Bool) →
        IsInStep script (opener_known script pen.seat) round in_step →
        stops_drawn is.log.parts ≤ cond drew (round.closings + 1) round.closings →
        IsWorker script clock (record {
          pen = pen;
          round = round;
          drew = drew;
          stopped = was_stopped;
          in_step = in_step;
        })
    takes_in round drew was_stopped in_step in_round few =
        let taken : List ℕ = counts (copy_seat other).known in
        let part : WorkerPart = waiting (Join taken) in
        let drawn = ap (step_count draw_count) met.met.steps ∙ step_count-append draw_count (own old.pen.seat) _ in
        let placed = ap (step_count place_count) met.met.steps ∙ step_count-append place_count (own old.pen.seat) _ in
        let same : pen.seat.number ≡ old.pen.seat.number = met_number _ old.pen.seat pen.seat met.met in
        record {
          clock_is = met_clock _ old.pen.seat pen.seat met.met ∙ is.clock_is;
          number = record {
            behind = omega (arith, same, is.number.behind);
            before = omega (arith, same, is.number.before);
          };
          owns = subst (λ n. Owns pen.seat n) (sym same) (met.met.keeps old.pen.seat.number is.owns);
          log = record {
            parts = part ∷ is.log.parts;
            are = (
              still_worker script opener (opener_known script pen.seat) more is.log.parts
                  (subst (λ steps. joined_count (opener_seat script) steps ≤ length opener) is.log.steps
                  (omega (arith, is.known))) is.log.are,
              tt,
            );
            steps =
                met.met.steps ∙ ap (λ steps. steps ++ Join taken ∷ []) is.log.steps
                ∙ sym (steps-append (labels_of_worker is.log.parts) (worker_label part ∷ []));
            shown =
                met.log ∙ is.log.shown ∙ sym (append-nil (entries_in (labels_of_worker is.log.parts)))
                ∙ sym (entries-append (labels_of_worker is.log.parts) (worker_label part ∷ []));
          };
          known =
              met_known _ old.pen.seat pen.seat met.met (opener_seat script) (λ e. apart (sym e)) is.known;
          in_round = in_round;
          few = few;
          room = omega (arith, is.room, met.room);
          draws = omega (arith, drawn, is.draws);
          places = omega (arith, placed, is.places);
          short = is.short;
        }

    later : old.round.closings ≤ (stand_of script (opener_known script pen.seat)).closings
    later =
        let on : (stand_of script opener).closings ≤ (stand_from script (stand_of script opener) more.0).closings =
        closings_rise script more.0 (stand_of script opener) in
        let same : stand_of script (opener_known script pen.seat) ≡ stand_from script (stand_of script opener) more.0 =
        ap (stand_of script) more.1 ∙ stand_from-append script _ opener more.0 in
        omega (
          arith,
          on,
          ap (λ (s : Stand). s.closings) same,
          is.in_round.closed,
        )

    -- where it was a lane's, it stays in step with one of the same stops
    module _ (base : ℕ) (base_is : base ≡ base_of script (opener_known script other)) where
      kept : old.in_step ≡ true → base ≡ old.round.base →
          old.round.base ≡ base_of script (opener_known script pen.seat)
      kept in_step same =
          ⊎_elim
          (λ (mine : opener_known script pen.seat ≡ opener).
          is.in_round.base_is in_step ∙ ap (base_of script) (sym mine))
          (λ (told : opener_known script pen.seat ≡ lists_of (copy_seat other) (opener_seat script)).
          sym same ∙ base_is ∙ ap (base_of script) (sym (told ∙ copied_steps other.known (opener_seat script))))
          (met_either (copy_seat other) old.pen.seat pen.seat met.met (opener_seat script) (λ e. apart (sym e)))

      pub worker_hears : IsWorker script clock (record old { pen = pen; in_step = old.in_step && (base == old.round.base) })
      worker_hears =
          takes_in old.round old.drew old.stopped (old.in_step && (base == old.round.base))
          (record {
            base_is =
                λ so.
                let parts = and_parts old.in_step (base == old.round.base) so in
                kept parts.0 (eqb-true base old.round.base parts.1);
            closed = later;
          }) is.few

  -- the worker took in what the opener knew
  module _ (other : SeatView) (pen : PenView) (number : other.number ≡ opener_seat script)
      (met : PenHasMet (copy_seat other) old.pen pen) (behind : StartOf opener (own other)) where
    learned : opener_known script pen.seat ≡ own other
    learned = knows_opener script other old.pen.seat pen.seat number apart met.met behind

    few_by : (drew : Bool) (a b n : ℕ) → a ≤ b → n ≤ cond drew (a + 1) a →
        n ≤ cond (drew && (a == b)) (b + 1) b
    few_by false a b n less few = omega (arith, less, few)
    few_by true a b n less few =
        ⊎_elim
        (λ (same : ((a == b) ≡ true) × (a ≡ b)).
        subst (λ t. n ≤ cond t (b + 1) b) (sym same.0) (omega (arith, few, same.1)))
        (λ (differ : ((a == b) ≡ false) × (a ≢ b)).
        subst (λ t. n ≤ cond t (b + 1) b) (sym differ.0) (omega (arith, few, less, differ.1)))
        (eqb_tells a b)

    pub worker_meets : IsWorker script clock (in_new_round old pen (round_after script (own other)))
    worker_meets =
        takes_in other pen met (round_after script (own other)) _ _ true
        (record {
          base_is = λ so. ap (base_of script) (sym learned);
          closed = omega (arith, ap (λ steps. (stand_of script steps).closings) learned);
        })
        (few_by old.drew old.round.closings (stand_of script (own other)).closings (stops_drawn is.log.parts)
        (omega (arith, later other pen met, ap (λ steps. (stand_of script steps).closings) learned)) is.few)
