-- The opener's loops over lanes and workers.
use Rattle.std.proofs.Common.{◌≡◌, ◌≢◌, ◌⊎◌, inl, inr, ⊎_elim, ℕ, zero, suc, ◌+◌, ◌<◌, List, [], ◌∷◌, Some, set, refl, sym, ap, subst, ◌∙◌, arith}
use Rattle.std.specs.Prelude.{map, slice_get}
use Rattle.std.proofs.lemmas.Bool.{cases_lt}
use Rattle.session_script.specs.Script.{ScriptModel}
use Rattle.lane_clock.specs.declared.step.ClockStep.TheVariants.{Join}
use Rattle.lane_clock.specs.Knowledge.{StartOf, counts}
use Rattle.lane_clock.specs.Seats.{Owns, SeatView, copy_seat, own}
use Rattle.lane_clock.specs.Steps.{draw_count, step_count}
use Rattle.lane_clock.proofs.KeepLemmas.{start_same, start_trans}
use Rattle.lane_logs.specs.Knowing.{lists_of}
use Rattle.lane_turns.specs.Attending.{AreHeard, AreKnown, HasAttended, HasGoneOn, HaveAttended, IsHeard}
use Rattle.lane_turns.specs.Openers.{HasTakenIn, HaveMet, OpenerView}
use Rattle.lane_turns.proofs.MeetingLemmas.{copied_steps, met_number}
use Rattle.lane_turns.proofs.PenLemmas.{step_count-append}

pub on_same : (opener : OpenerView) → HasGoneOn opener opener
on_same opener =
    record {
      remembers = λ n. start_same _ _ refl;
      number = refl;
      draws = refl;
      log = refl;
      stand = refl;
    }

pub on_and_on : (a b c : OpenerView) → HasGoneOn a b → HasGoneOn b c → HasGoneOn a c
on_and_on a b c first second =
    record {
      remembers = λ n. start_trans _ _ _ (first.remembers n) (second.remembers n);
      number = second.number ∙ first.number;
      draws = second.draws ∙ first.draws;
      log = second.log ∙ first.log;
      stand = second.stand ∙ first.stand;
    }

-- taking in what another knows is no draw
pub on_heard : (script : ScriptModel) (seat : SeatView) (a b : OpenerView) → HasTakenIn script seat a b → HasGoneOn a b
on_heard script seat a b taken =
    let met = taken.met.met in
    let drawn : step_count draw_count (own b.pen.seat) ≡ step_count draw_count (own a.pen.seat) + 0 =
    ap (step_count draw_count) met.steps
    ∙ step_count-append draw_count (own a.pen.seat) (Join (counts (copy_seat seat).known) ∷ []) in
    record {
      remembers = met.remembers;
      number = met_number (copy_seat seat) a.pen.seat b.pen.seat met;
      draws = omega (arith, drawn);
      log = taken.met.log;
      stand = taken.stand;
    }

own_on : (a b : OpenerView) → HasGoneOn a b → StartOf (own a.pen.seat) (own b.pen.seat)
own_on a b on =
    subst (λ n. StartOf (own a.pen.seat) (lists_of b.pen.seat n)) (sym on.number) (on.remembers a.pen.seat.number)

-- what was heard stays so
pub heard_on : (script : ScriptModel) (a b : OpenerView) (seat : SeatView) → HasGoneOn a b → IsHeard script a seat →
    IsHeard script b seat
heard_on script a b seat on is =
    record {
      heard = start_trans _ _ _ is.heard (on.remembers seat.number);
      behind = start_trans _ _ _ is.behind (own_on a b on);
    }

pub heard_now : (script : ScriptModel) (a b : OpenerView) (seat : SeatView) → HasTakenIn script seat a b →
    IsHeard script b seat
heard_now script a b seat taken =
    record {
      heard =
          subst (λ steps. StartOf steps (lists_of b.pen.seat seat.number)) (copied_steps seat.known seat.number)
          (taken.met.met.learns seat.number);
      behind = start_trans _ _ _ taken.behind (own_on a b (on_heard script seat a b taken));
    }

pub at_or_before : (k i : ℕ) → k < i + 1 → (k < i) ⊎ (k ≡ i)
at_or_before k i less = elim (cases_lt k i) [
  | inl before ↦ inl before
  | inr behind ↦ inr (omega (arith, less, behind))
]

module _ {T : Type 0} (seat : T → SeatView) (script : ScriptModel) where
  pub none_heard : (opener : OpenerView) (all : List T) → AreHeard seat script opener all 0
  none_heard opener all k one less is = absurd (omega (arith, less))

  -- one more is heard
  pub more_heard : (a b : OpenerView) (all : List T) (i : ℕ) (one : T) → slice_get all i ≡ Some one →
      AreHeard seat script a all i → HasTakenIn script (seat one) a b → AreHeard seat script b all (i + 1)
  more_heard a b all i one at heard taken k other less is =
      ⊎_elim
      (λ (before : k < i). heard_on script a b (seat other) (on_heard script (seat one) a b taken) (heard k other before is))
      (λ (here : k ≡ i).
      let same : Some one ≡ Some other = sym at ∙ ap (slice_get all) (sym here) ∙ is in
      let it : one ≡ other = cc in
      subst (λ t. IsHeard script b (seat t)) it (heard_now script a b (seat one) taken))
      (at_or_before k i less)

module _ {T : Type 0} (seat : T → SeatView) (script : ScriptModel) where
  pub none_known : (opener : OpenerView) (all : List T) → AreKnown seat opener all 0
  none_known opener all k one less is = absurd (omega (arith, less))

  -- one more is known
  pub more_known : (a b : OpenerView) (all : List T) (i : ℕ) (one : T) → slice_get all i ≡ Some one →
      AreKnown seat a all i → HasTakenIn script (seat one) a b → AreKnown seat b all (i + 1)
  more_known a b all i one at known taken k other less is =
      ⊎_elim
      (λ (before : k < i) n.
      start_trans _ _ _ (known k other before is n) ((on_heard script (seat one) a b taken).remembers n))
      (λ (here : k ≡ i) n.
      let same : Some one ≡ Some other = sym at ∙ ap (slice_get all) (sym here) ∙ is in
      let it : one ≡ other = cc in
      subst (λ t. StartOf (lists_of (seat t) n) (lists_of b.pen.seat n)) it
      (subst (λ steps. StartOf steps (lists_of b.pen.seat n)) (copied_steps (seat one).known n) (taken.met.met.learns n)))
      (at_or_before k i less)

pub get_set_same : {T : Type 0} (xs : List T) (i : ℕ) (old new : T) → slice_get xs i ≡ Some old →
    slice_get (set xs i new) i ≡ Some new
get_set_same [] i old new is = absurd (cc is)
get_set_same (x ∷ xs) zero old new is = refl
get_set_same (x ∷ xs) (suc i) old new is = get_set_same xs i old new is

pub get_set_other : {T : Type 0} (xs : List T) (i k : ℕ) (new : T) → k ≢ i → slice_get (set xs i new) k ≡ slice_get xs k
get_set_other [] i k new ne = refl
get_set_other (x ∷ xs) zero zero new ne = absurd (ne refl)
get_set_other (x ∷ xs) zero (suc k) new ne = refl
get_set_other (x ∷ xs) (suc i) zero new ne = refl
get_set_other (x ∷ xs) (suc i) (suc k) new ne = get_set_other xs i k new (λ same. ne (ap suc same))

module _ {T : Type 0} (seat : T → SeatView) (script : ScriptModel) where
  pub none_attended : (opener : OpenerView) (all : List T) → HaveAttended seat script opener opener all all 0
  none_attended opener all =
      record { met = λ k old new less is now. absurd (omega (arith, less)); rest = λ k behind. refl }

  -- one more attended
  module _ (first a b : OpenerView) (olds news : List T) (i : ℕ) (one now : T) (at : slice_get news i ≡ Some one)
      (since : HasGoneOn first a) (met : HaveMet script a b (seat one) (seat now))
      (owns : Owns (seat one) (seat one).number) (before : HaveAttended seat script first a olds news i) where
    on : HasGoneOn a b
    on = on_heard script (seat now) a b met.heard

    attended_now : HasAttended script first b (seat one) (seat now)
    attended_now =
        record { old = a; new = b; since = since; met = met; owns = owns; till = on_same b }

    attended_before : (old new : SeatView) → HasAttended script first a old new → HasAttended script first b old new
    attended_before old new was =
        record {
          old = was.old;
          new = was.new;
          since = was.since;
          met = was.met;
          owns = was.owns;
          till = on_and_on was.new a b was.till on;
        }

    pub more_attended : HaveAttended seat script first b olds (set news i now) (i + 1)
    more_attended =
        record {
          met =
              λ k old new less was is.
              ⊎_elim
              (λ (earlier : k < i).
              let apart : k ≢ i = λ same. absurd (omega (arith, same, earlier)) in
              attended_before (seat old) (seat new)
              (before.met k old new earlier was (sym (get_set_other news i k now apart) ∙ is)))
              (λ (here : k ≡ i).
              let was_one : Some one ≡ Some old =
              sym at ∙ before.rest i (omega arith) ∙ ap (slice_get olds) (sym here) ∙ was in
              let is_now : Some now ≡ Some new =
              sym (get_set_same news i one now at) ∙ ap (slice_get (set news i now)) (sym here) ∙ is in
              let one_is : one ≡ old = cc was_one in
              let now_is : now ≡ new = cc is_now in
              subst (λ t. HasAttended script first b (seat t) (seat new)) one_is
              (subst (λ t. HasAttended script first b (seat one) (seat t)) now_is attended_now))
              (at_or_before k i less);
          rest =
              λ k behind.
              let apart : k ≢ i = λ same. absurd (omega (arith, same, behind)) in
              get_set_other news i k now apart ∙ before.rest k (omega (arith, behind));
        }

-- what stays of the one that is changed stays of all
pub map_set_same : {T S : Type 0} (f : T → S) (all : List T) (i : ℕ) (one now : T) → slice_get all i ≡ Some one →
    f now ≡ f one → map f (set all i now) ≡ map f all
map_set_same f [] i one now at same = refl
map_set_same f (x ∷ xs) zero one now at same =
    let it : x ≡ one = cc in ap (λ p. p ∷ map f xs) (same ∙ ap f (sym it))
map_set_same f (x ∷ xs) (suc i) one now at same = ap (λ ps. f x ∷ ps) (map_set_same f xs i one now at same)
