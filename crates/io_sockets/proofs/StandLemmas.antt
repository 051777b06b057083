-- What is read of the places of sockets.
use Rattle.std.proofs.Common.{ap, refl, sym, ◌∙◌, ⊎_elim}
use Rattle.std.proofs.lemmas.Bool.{cases_lt}
use Rattle.std.proofs.lemmas.List.{get_or_append_left, get_or_at, get_or_past}
use Rattle.std.specs.Prelude.{◌≡◌, ◌<◌, ◌≤◌, ℕ, true, List, [], ◌∷◌, ◌++◌, length}
use Rattle.std.specs.List.{slice_index_or}
use Rattle.io_sockets.specs.declared.stand.Stand.{Stand}
use Rattle.io_sockets.specs.Stands.{is_gone, no_stand}

-- nothing is left, one by one
pub rest_gone : {S : Type 0} (rest : List (Stand S)) (last : Stand S) →
    ((n : ℕ) → is_gone (slice_index_or (rest ++ last ∷ []) n no_stand).held ≡ true) →
    (n : ℕ) → is_gone (slice_index_or rest n no_stand).held ≡ true
rest_gone rest last gone n =
    ⊎_elim
    (λ (lt : n < length rest). sym (ap (λ st. is_gone st.held) (get_or_append_left rest (last ∷ []) no_stand n lt)) ∙ gone n)
    (λ (le : length rest ≤ n). ap (λ st. is_gone st.held) (get_or_past rest n no_stand le)) (cases_lt n (length rest))

pub last_gone : {S : Type 0} (rest : List (Stand S)) (last : Stand S) →
    ((n : ℕ) → is_gone (slice_index_or (rest ++ last ∷ []) n no_stand).held ≡ true) → is_gone last.held ≡ true
last_gone rest last gone =
    sym (ap (λ st. is_gone st.held) (get_or_at rest last [] no_stand (length rest) refl)) ∙ gone (length rest)
