-- Whether a round is open, and what a context at rest has to do in it.
use Rattle.std.proofs.Common.{◌≡◌, ℕ, ◌+◌, ◌<◌, ◌≤◌, ◌^◌, Bool, true, false, not, List, [], ◌∷◌, Option, Some, None, zero, suc, length, refl, sym, ap, subst, ◌∙◌, arith}
use Rattle.std.specs.Prelude.{◌||◌, count_by, slice_get}
use Rattle.std.proofs.lemmas.Option.{slice_get_within}
use Rattle.session_script.specs.Script.{ScriptModel}
use Rattle.session_script.specs.declared.round.Round.{Round}
use Rattle.history_rules.specs.Rounds.{AllQuiet, RoundIsOpen, is_held, outstanding_work, restarts, runs, this_round}
use Rattle.history_rules.specs.Time.{pending_count}
use Rattle.execution_laws.specs.Order.{IsKept}
use Rattle.book_context.specs.BookSteps.{IsGoing, IsIdleRound, is_round_open, is_open_with, open_round}
use Rattle.book_context.specs.Next.{NothingLeftIsQuiet}
use Rattle.book_context.specs.Recorded.{IsRecorded, recorded_half, recorded_state}
use Rattle.book_context.specs.Recording.{Recording}
use Rattle.book_context.specs.RoundSteps.{WorkIsKnown}
use Rattle.book_context.specs.Steps.{IsRoundOpen, OpenRoundsAreKnown}

open_by : (restarted : Bool) (round : Option Round) → is_open_with restarted round ≡ true → restarts round ≡ true →
    restarted ≡ true
open_by restarted None is wants = absurd (cc is)
open_by true (Some round) is wants = refl
open_by false (Some round) is wants = absurd (by_flag round.restart is wants)
  where
    by_flag : (flag : Bool) → (not flag || false) ≡ true → flag ≡ true → ⊥
    by_flag true is wants = absurd (cc is)
    by_flag false is wants = absurd (cc wants)

some_round : (restarted : Bool) (round : Option Round) → is_open_with restarted round ≡ true →
    (found : Round) × (round ≡ Some found)
some_round restarted None is = absurd (cc is)
some_round restarted (Some round) is = (round, refl)

-- a round is open by the test
pub round_open : (r : Recording) → is_round_open r ≡ true → IsRoundOpen r
round_open r is = record {
  left =
      let found = some_round r.restarted (open_round r) is in
      slice_get_within r.script.rounds r.closings found.0 found.1;
  restarted = open_by r.restarted (open_round r) is;
}

is_open_by : (restarted : Bool) (round : Option Round) (found : Round) → round ≡ Some found →
    (restarts round ≡ true → restarted ≡ true) → is_open_with restarted round ≡ true
is_open_by true None found is comes = absurd (cc is)
is_open_by false None found is comes = absurd (cc is)
is_open_by true (Some round) found is comes = or_true (not round.restart)
  where
    or_true : (a : Bool) → (a || true) ≡ true
    or_true true = refl
    or_true false = refl
is_open_by false (Some round) found is comes = by_flag round.restart comes
  where
    by_flag : (flag : Bool) → (flag ≡ true → false ≡ true) → (not flag || false) ≡ true
    by_flag true comes = comes refl
    by_flag false comes = refl

module _ (told : Bool) (r : Recording) (recorded : IsRecorded told r) where
  same_round : this_round r.script (recorded_state told r).context ≡ open_round r
  same_round = ap (slice_get r.script.rounds) recorded.closings

  -- and no other
  pub closed_round : is_round_open r ≡ false → RoundIsOpen r.script (recorded_state told r).context → ⊥
  closed_round isnt opened =
      let left : r.closings < length r.script.rounds =
      let less = opened.begun.left in let same = recorded.closings in omega (arith, less, same) in
      let there = get_some r.script.rounds r.closings left in
      let is : is_round_open r ≡ true = is_open_by r.restarted (open_round r) there.0 there.1
      (λ wants. sym recorded.restarted ∙ opened.restarted (ap restarts same_round ∙ wants)) in
      absurd (cc (isnt, is))
    where
      get_some : {X : Type 0} (xs : List X) (n : ℕ) → n < length xs → (x : X) × (slice_get xs n ≡ Some x)
      get_some [] n less = absurd (omega (arith, less))
      get_some (x ∷ xs) zero less = (x, refl)
      get_some (x ∷ xs) (suc n) less = get_some xs n (omega (arith, less))

  pub now_going : OpenRoundsAreKnown → IsRoundOpen r → r.stopped ≡ false → IsGoing r.script (recorded_state told r)
  now_going law round going = record { round = law told r recorded round; going = recorded.stopped ∙ going }

  module _ (works : (recorded_half told r).failed ≡ false) (none_ready : r.ready ≡ []) (none_asked : r.requests ≡ [])
    where
      pub work_is : WorkIsKnown →
          outstanding_work (recorded_state told r)
          ≡ pending_count (recorded_half told r) + count_by is_held (recorded_half told r).guards
      work_is law =
          let known = law told r recorded works in
          let ready = ap length none_ready in
          let asked = ap length none_asked in
          omega (arith, known, ready, asked)

      pub all_quiet : NothingLeftIsQuiet → AllQuiet (recorded_state told r)
      all_quiet law =
          law r.script (recorded_state told r)
          (subst (λ xs. IsKept r.script (recorded_state told r) xs []) none_ready
          (subst (IsKept r.script (recorded_state told r) r.ready) none_asked recorded.kept))

      pub idle_round : NothingLeftIsQuiet → WorkIsKnown →
          1 ≤ pending_count (recorded_half told r) + count_by is_held (recorded_half told r).guards →
          (runs (open_round r) ≡ true → pending_count (recorded_half told r) ≡ 0) →
          IsIdleRound r.script (recorded_state told r)
      idle_round quiet work some no_tick = record {
        quiet = all_quiet quiet;
        work = let same = work_is work in omega (arith, same, some);
        no_tick = λ is. no_tick (sym (ap runs same_round) ∙ is);
      }
