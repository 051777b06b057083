-- What holds of each of the first of a list at an event of the opener, as one more comes.
use Rattle.std.proofs.Common.{◌≡◌, ◌≢◌, ⊎_elim, ℕ, ◌+◌, ◌<◌, Bool, List, Some, set, sym, ap, subst, ◌∙◌, arith}
use Rattle.std.specs.Option.{option_map}
use Rattle.std.specs.Prelude.{slice_get, slice_index}
use Rattle.std.proofs.lemmas.Option.{get_or_from_slice_get, slice_get-map}
use Rattle.session_script.specs.Script.{ScriptModel}
use Rattle.lane_clock.specs.Seats.{SeatView, own}
use Rattle.lane_logs.specs.Cuts.{HaveStarted}
use Rattle.lane_logs.specs.Stand.{Stand}
use Rattle.lane_turns.specs.Attending.{AreHeard, HasGoneOn, HaveAttended, IsHeard}
use Rattle.lane_turns.specs.Benches.{AreInRound, HaveAllStarted, IsInRound, places_of}
use Rattle.lane_turns.specs.Openers.{OpenerView}
use Rattle.lane_turns.proofs.AttendingLemmas.{at_or_before, get_set_other, get_set_same, heard_on}

-- what one more element is
pub same_one : {T : Type 0} (all : List T) (i k : ℕ) (one other : T) → slice_get all i ≡ Some one → k ≡ i →
    slice_get all k ≡ Some other → one ≡ other
same_one all i k one other at here is =
    let same : Some one ≡ Some other = sym at ∙ ap (slice_get all) (sym here) ∙ is in
    let it : one ≡ other = cc in it

module _ {T : Type 0} (seat : T → SeatView) (place : T → ℕ) where
  pub none_started : (all : List T) → HaveAllStarted seat place all 0
  none_started all k one less at = absurd (omega (arith, less))

  pub more_started : (all : List T) (i : ℕ) (one : T) → slice_get all i ≡ Some one → HaveAllStarted seat place all i →
      HaveStarted (own (seat one)) (seat one).number (place one) → HaveAllStarted seat place all (i + 1)
  more_started all i one at before now k other less is =
      ⊎_elim (λ (earlier : k < i). before k other earlier is)
      (λ (here : k ≡ i).
      subst (λ t. HaveStarted (own (seat t)) (seat t).number (place t)) (same_one all i k one other at here is) now)
      (at_or_before k i less)

module _ {T : Type 0} (base : T → ℕ) (running : T → Bool) (script : ScriptModel) where
  pub none_in_round : (stand : Stand) (all : List T) → AreInRound base running script stand all 0
  none_in_round stand all k one less at = absurd (omega (arith, less))

  pub more_in_round : (a b : Stand) (all : List T) (i : ℕ) (one now : T) → b ≡ a → slice_get all i ≡ Some one →
      AreInRound base running script a all i → IsInRound script b (base now) (running now) →
      AreInRound base running script b (set all i now) (i + 1)
  more_in_round a b all i one now same at before it k other less is =
      ⊎_elim
      (λ (earlier : k < i).
      let apart : k ≢ i = λ e. absurd (omega (arith, e, earlier)) in
      subst (λ stand. IsInRound script stand (base other) (running other)) (sym same)
      (before k other earlier (sym (get_set_other all i k now apart) ∙ is)))
      (λ (here : k ≡ i).
      subst (λ t. IsInRound script b (base t) (running t))
      (same_one (set all i now) i k now other (get_set_same all i one now at) here is) it)
      (at_or_before k i less)

-- the next place of one of them
pub place_at : {T : Type 0} (place : T → ℕ) (all : List T) (i : ℕ) (one : T) → slice_get all i ≡ Some one →
    slice_index (places_of place all) i ≡ place one
place_at place all i one at =
    get_or_from_slice_get (places_of place all) i (place one) 0
    (slice_get-map place all i ∙ ap (option_map place) at)

-- who didn't attend yet was heard before
pub still_heard : {T : Type 0} (seat : T → SeatView) (script : ScriptModel) (first a : OpenerView) (olds news : List T)
    (i count : ℕ) (one : T) → i < count → slice_get news i ≡ Some one → HasGoneOn first a →
    HaveAttended seat script first a olds news i → AreHeard seat script first olds count →
    IsHeard script a (seat one)
still_heard seat script first a olds news i count one less at on attended heard =
    heard_on script first a (seat one) on (heard i one less (sym (attended.rest i (omega arith)) ∙ at))

-- and who was heard stays so as the opener goes on
pub heard_later : {T : Type 0} (seat : T → SeatView) (script : ScriptModel) (a b : OpenerView) (all : List T) (count : ℕ) →
    HasGoneOn a b → AreHeard seat script a all count → AreHeard seat script b all count
heard_later seat script a b all count on heard k one less at = heard_on script a b (seat one) on (heard k one less at)
