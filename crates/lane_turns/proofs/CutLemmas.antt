-- Cuts: what the opener and another know after they met behind an event.
use Rattle.std.proofs.Common.{◌≡◌, ◌≢◌, ℕ, zero, suc, ◌+◌, ◌≤◌, List, [], ◌∷◌, ◌++◌, length, sym, ap, subst, ◌∙◌, arith, length-append, append_assoc}
use Rattle.std.specs.Prelude.{take}
use mathlib.Core.Option.{some, some-ne-none}
use lib.ListN.{get_elem?}
use Rattle.std.proofs.Math.Seq.{take-length}
use Rattle.session_script.specs.Script.{ScriptModel}
use Rattle.lane_clock.specs.declared.step.ClockStep.{ClockStep}
use Rattle.lane_clock.specs.declared.step.ClockStep.TheVariants.{Draw, Join}
use Rattle.lane_clock.specs.Knowledge.{StartOf, counts}
use Rattle.lane_clock.specs.Seats.{Remembers, SeatView, copy_seat, own}
use Rattle.lane_clock.proofs.KeepLemmas.{start_trans}
use Rattle.lane_logs.specs.Cuts.{IsCut}
use Rattle.lane_logs.specs.Knowing.{joined_count, lists_of}
use Rattle.lane_logs.specs.SeatNumbers.{opener_seat}
use Rattle.lane_turns.specs.Attending.{HasAttended, HasDrawnLast}
use Rattle.lane_turns.specs.Meeting.{KnowsByJoins}
use Rattle.lane_turns.specs.Openers.{OpenerView}
use Rattle.lane_turns.proofs.GrowingLemmas.{take_start}
use Rattle.lane_turns.proofs.MeetingLemmas.{copied_steps, counted, start_length}
use Rattle.lane_turns.proofs.SteppingLemmas.{joined_on}

-- a step that stands in a list stands in a longer one
pub at_front : (xs rest : List ClockStep) (i : ℕ) (step : ClockStep) → get_elem? xs i ≡ some step →
    get_elem? (xs ++ rest) i ≡ some step
at_front [] rest i step is = absurd (some-ne-none step (sym is))
at_front (x ∷ xs) rest zero step is = is
at_front (x ∷ xs) rest (suc i) step is = at_front xs rest i step is

pub at_start : (xs all : List ClockStep) (i : ℕ) (step : ClockStep) → StartOf xs all → get_elem? xs i ≡ some step →
    get_elem? all i ≡ some step
at_start xs all i step start is =
    subst (λ ys. get_elem? ys i ≡ some step) (sym start.1) (at_front xs start.0 i step is)

pub at_back : (xs ys : List ClockStep) (i : ℕ) → get_elem? (xs ++ ys) (length xs + i) ≡ get_elem? ys i
at_back [] ys i = let none : 0 + i ≡ i = omega arith in ap (get_elem? ys) none
at_back (x ∷ xs) ys i =
    let e : length (x ∷ xs) + i ≡ suc (length xs + i) = omega arith in
    ap (get_elem? (x ∷ xs ++ ys)) e ∙ at_back xs ys i

at_last : (xs rest : List ClockStep) (step : ClockStep) → get_elem? (xs ++ step ∷ rest) (length xs) ≡ some step
at_last xs rest step =
    let e : length xs ≡ length xs + 0 = omega arith in
    ap (get_elem? (xs ++ step ∷ rest)) e ∙ at_back xs (step ∷ rest) 0

-- a cut outlives all that is learned later
pub cut_outlives : (script : ScriptModel) (old new : SeatView) (j n : ℕ) → Remembers old new →
    j ≤ length (lists_of old (opener_seat script)) → IsCut script (lists_of old) j n → IsCut script (lists_of new) j n
cut_outlives script old new j n remembers within cut =
    let o : ℕ = opener_seat script in
    let same : take j (lists_of old o) ≡ take j (lists_of new o) =
    sym (take_start j (lists_of old o) (lists_of new o) (remembers o) within) in
    record {
      counts = cut.counts;
      joins =
          subst (λ steps. get_elem? (lists_of new n) (joined_count n steps) ≡ some (Join cut.counts)) same
          (at_start (lists_of old n) (lists_of new n) _ (Join cut.counts) (remembers n) cut.joins);
      knows = cut.knows;
    }

-- The opener's own steps since, of which the last is this one; they took nothing in
pub record HasMadeLast (before after : SeatView) : Type 0 where
  pub front : List ClockStep
  pub step : ClockStep
  pub steps : own after ≡ own before ++ (front ++ step ∷ [])
  pub quiet : (n : ℕ) → joined_count n front ≡ 0
  pub number : after.number ≡ before.number
  pub others : (n : ℕ) → n ≢ before.number → lists_of after n ≡ lists_of before n

abbrev pub drawn_made : (before after : SeatView) → HasDrawnLast before after → HasMadeLast before after
drawn_made before after drawn =
    record {
      front = drawn.front;
      step = Draw drawn.shown drawn.changes drawn.found;
      steps = drawn.steps;
      quiet = drawn.quiet;
      number = drawn.number;
      others = drawn.others;
    }

-- the opener made this as its last step, before which it had heard of a seat; the two met since
module _ (script : ScriptModel) (before : SeatView) (first last : OpenerView) (old new : SeatView)
    (number : before.number ≡ opener_seat script) (known : KnowsByJoins before)
    (made : HasMadeLast before first.pen.seat) (apart : old.number ≢ opener_seat script)
    (heard : StartOf (own old) (lists_of before old.number))
    (attended : HasAttended script first last old new) where
  abbrev o : ℕ
  o = opener_seat script

  -- the step's index among the opener's steps
  abbrev pub event_index : ℕ
  event_index = length (own before ++ made.front)

  first_number : first.pen.seat.number ≡ o
  first_number = made.number ∙ number

  old_number : attended.old.pen.seat.number ≡ o
  old_number = attended.since.number ∙ first_number

  first_own : lists_of first.pen.seat o ≡ (own before ++ made.front) ++ made.step ∷ []
  first_own =
      ap (lists_of first.pen.seat) (sym first_number) ∙ made.steps
      ∙ sym (append_assoc (own before) made.front (made.step ∷ []))

  -- what the opener knew by then it knows in the end
  till_last : (n : ℕ) → StartOf (lists_of first.pen.seat n) (lists_of last.pen.seat n)
  till_last n =
      start_trans _ _ _ (attended.since.remembers n)
      (start_trans _ _ _ (attended.met.heard.met.met.remembers n) (attended.till.remembers n))

  front_same : take event_index (lists_of last.pen.seat o) ≡ own before ++ made.front
  front_same =
      let xs : List ClockStep = own before ++ made.front in
      let start : StartOf xs (lists_of last.pen.seat o) =
      start_trans xs (lists_of first.pen.seat o) _ (made.step ∷ [], first_own) (till_last o) in
      take_start event_index xs (lists_of last.pen.seat o) start (omega arith) ∙ take-length xs

  -- of the number it had then taken in all steps
  all_heard : joined_count old.number (own before ++ made.front) ≡ length (own old)
  all_heard =
      let n : ℕ = old.number in
      let apart' : n ≢ before.number = λ same. apart (same ∙ number) in
      let whole : StartOf (lists_of attended.old.pen.seat n) (own old) =
      subst (λ steps. StartOf steps (own old)) (copied_steps attended.old.pen.seat.known n)
      (attended.met.told.whole n attended.owns) in
      let up = start_length _ _ heard in
      let same : length (lists_of first.pen.seat n) ≡ length (lists_of before n) =
      ap length (made.others n apart') in
      let more = start_length _ _ (attended.since.remembers n) in
      let down = start_length _ _ whole in
      let taken : joined_count n (own before ++ made.front) ≡ joined_count n (own before) =
      joined_on n (own before) made.front (made.quiet n) in
      omega (arith, taken, known.others n apart', up, same, more, down)

  pub cut_made : IsCut script (lists_of last.pen.seat) event_index old.number
  cut_made =
      let n : ℕ = old.number in
      let taken : List ℕ = counts (copy_seat attended.old.pen.seat).known in
      let new_number : new.number ≡ n = ap (λ (seat : SeatView). seat.number) attended.met.told.seat in
      let joins : get_elem? (own new) (length (own old)) ≡ some (Join taken) =
      subst (λ steps. get_elem? steps (length (own old)) ≡ some (Join taken)) (sym attended.met.told.steps)
      (at_last (own old) [] (Join taken)) in
      let learned : StartOf (own new) (lists_of last.pen.seat n) =
      subst (λ k. StartOf (own new) (lists_of last.pen.seat k)) new_number
      (start_trans (own new) (lists_of attended.new.pen.seat new.number) _
      (subst (λ steps. StartOf steps (lists_of attended.new.pen.seat new.number)) (copied_steps new.known new.number)
      (attended.met.heard.met.met.learns new.number)) (attended.till.remembers new.number)) in
      let long : length (lists_of first.pen.seat o) ≡ event_index + 1 =
      ap length first_own ∙ length-append (own before ++ made.front) (made.step ∷ []) in
      record {
        counts = taken;
        joins =
            subst (λ k. get_elem? (lists_of last.pen.seat n) k ≡ some (Join taken))
            (sym (ap (joined_count n) front_same ∙ all_heard))
            (at_start (own new) (lists_of last.pen.seat n) (length (own old)) (Join taken) learned joins);
        knows =
            omega (
              arith,
              long,
              start_length _ _ (attended.since.remembers o),
              counted (copy_seat attended.old.pen.seat).known o,
              ap length (copied_steps attended.old.pen.seat.known o),
            );
      }
