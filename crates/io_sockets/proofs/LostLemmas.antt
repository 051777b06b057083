-- Readiness behind any edges and system calls.
use Rattle.std.proofs.Common.{ap, refl, sym, ◌∙◌}
use Rattle.std.proofs.lemmas.Bool.{true≢false}
use Rattle.std.specs.Prelude.{◌≡◌, Bool, true, false, ◌||◌, List, [], ◌∷◌}
use Rattle.io_sockets.specs.declared.readiness.Outcome.TheVariants as outcome
use Rattle.io_sockets.specs.Lost.{NoneLost}
use Rattle.io_sockets.specs.Ready.{Back, Edge, Happens, Taken, became_ready, came_meanwhile, end_was_told, readiness_behind}

again_is : (past : List Happens) → (readiness_behind past).again ≡ came_meanwhile past
again_is [] = refl
again_is (Edge ended ∷ past) = refl
again_is (Taken ∷ past) = refl
again_is (Back given ∷ past) = again_is past

ended_is : (past : List Happens) → (readiness_behind past).ended ≡ end_was_told past
ended_is [] = refl
ended_is (Edge ended ∷ past) = ap (λ b. b || ended) (ended_is past)
ended_is (Taken ∷ past) = ended_is past
ended_is (Back given ∷ past) = ended_is past

exact_is : (past : List Happens) → (readiness_behind past).ready ≡ became_ready past
exact_is [] = refl
exact_is (Edge ended ∷ past) = refl
exact_is (Taken ∷ past) = exact_is past
exact_is (Back outcome.Blocked ∷ past) = again_is past
exact_is (Back outcome.Short ∷ past) =
    ap (λ b. b || (readiness_behind past).ended) (again_is past)
    ∙ ap (λ b. came_meanwhile past || b) (ended_is past)
exact_is (Back outcome.Whole ∷ past) = exact_is past
exact_is (Back outcome.Ended ∷ past) = exact_is past

kept : (past : List Happens) → came_meanwhile past ≡ true → (readiness_behind past).ready ≡ true
kept [] came = absurd (true≢false (sym came))
kept (Edge ended ∷ past) came = refl
kept (Taken ∷ past) came = absurd (true≢false (sym came))
kept (Back outcome.Blocked ∷ past) came = again_is past ∙ came
kept (Back outcome.Short ∷ past) came = ap (λ b. b || (readiness_behind past).ended) (again_is past ∙ came)
kept (Back outcome.Whole ∷ past) came = kept past came
kept (Back outcome.Ended ∷ past) came = kept past came

or_true : (a : Bool) → (a || true) ≡ true
or_true true = refl
or_true false = refl

pub none_lost : NoneLost
none_lost =
    record {
      exact = exact_is;
      edges = λ given past came. kept (Back given ∷ past) came;
      ends = λ past told.
          ap (λ b. (readiness_behind past).again || b) (ended_is past ∙ told) ∙ or_true (readiness_behind past).again;
      ended = λ past ready. ready;
    }
