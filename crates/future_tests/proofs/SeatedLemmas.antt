-- All workers have their seats behind the polls of an executor.
use Rattle.std.proofs.Common.{◌≡◌, ◌∙◌, ℕ, zero, suc, List, [], ◌∷◌, ◌++◌, Some, ap, arith, length, length-append, subst, sym}
use Rattle.std.specs.Prelude.{slice_get}
use Rattle.std.proofs.lemmas.List.{nil_from_length}
use Rattle.session_script.specs.Script.{ScriptModel}
use Rattle.turn_table.specs.Seated.{Lanes}
use Rattle.lane_logs.specs.SeatNumbers.{worker_count}
use Rattle.lane_turns.specs.AllWorkers.{AreReady}
use Rattle.lane_turns.specs.Attempts.{WorkerState}
use Rattle.op_future.specs.SeatedWorkers.{IsReadyAs}

-- three were taken from a list, the last first
module _ {A : Type 0} (all two one none : List A) (first second own : A) (is : all ≡ two ++ own ∷ [])
    (then : two ≡ one ++ second ∷ []) (last : one ≡ none ++ first ∷ []) (three : length all ≡ 3) where
  pub none_left : none ≡ []
  none_left =
      let a = ap length is ∙ length-append two (own ∷ []) in
      let b = ap length then ∙ length-append one (second ∷ []) in
      let c = ap length last ∙ length-append none (first ∷ []) in
      nil_from_length none (omega (arith, a, b, c, three))

  pub popped : all ≡ first ∷ second ∷ own ∷ []
  popped =
      is
      ∙ ap (λ xs. xs ++ own ∷ [])
      (then ∙ ap (λ xs. xs ++ second ∷ []) (last ∙ ap (λ xs. xs ++ first ∷ []) none_left))

-- and put back, the first first
pub pushed : {A : Type 0} (none one two all : List A) (first second own : A) → none ≡ [] →
    one ≡ none ++ first ∷ [] → two ≡ one ++ second ∷ [] → all ≡ two ++ own ∷ [] → all ≡ first ∷ second ∷ own ∷ []
pushed none one two all first second own empty is then last =
    last
    ∙ ap (λ xs. xs ++ own ∷ []) (then ∙ ap (λ xs. xs ++ second ∷ []) (is ∙ ap (λ xs. xs ++ first ∷ []) empty))

module _ {H X : Type 0} (script : ScriptModel) (lanes : Lanes) where
  -- each of three has its seats
  pub three_ready : (a b c : WorkerState H X) → worker_count script ≡ 3 → lanes.seats ≡ 3 → IsReadyAs script lanes 0 a →
      IsReadyAs script lanes 1 b → IsReadyAs script lanes 2 c → AreReady script lanes (a ∷ b ∷ c ∷ [])
  three_ready a b c workers seats first second third =
      record {
        rows = record { size = sym workers; numbers = λ k one at. (each k one at).row };
        seats = record { size = sym seats; each = λ k one at. (each k one at).seat };
      }
    where
      each : (k : ℕ) (one : WorkerState H X) → slice_get (a ∷ b ∷ c ∷ []) k ≡ Some one → IsReadyAs script lanes k one
      each zero one at = let is : a ≡ one = cc at in subst (IsReadyAs script lanes 0) is first
      each (suc zero) one at = let is : b ≡ one = cc at in subst (IsReadyAs script lanes 1) is second
      each (suc (suc zero)) one at = let is : c ≡ one = cc at in subst (IsReadyAs script lanes 2) is third
      each (suc (suc (suc k))) one at = absurd (cc at)
