-- The cells of all lanes, of which the reactor's are written last.
use Rattle.std.proofs.Common.{◌≡◌, ℕ, ◌+◌, ◌<◌, ◌==◌, List, Bool, true, false, length, get_or, map, refl, sym, subst, ◌∙◌, arith}
use Rattle.std.specs.Prelude.{◌&&◌, slice_set}
use Rattle.std.specs.List.{range_with_len}
use Rattle.std.proofs.lemmas.Bool.{eq-eqb, eqb-true}
use Rattle.std.proofs.lemmas.List.{get_or-set_other, get_or-set_same, length-set}
use Rattle.std.proofs.lemmas.List.FromFn.{fill_by_all}
use Rattle.session_script.specs.Script.{ScriptModel}
use Rattle.lane_map.specs.LaneNumbers.{act_passes, asks_reactor, cells_on, has_cell, home_lane, passing_before, reactor_lane}
use Rattle.lane_map.proofs.CountLemmas.{AreCounted}

module _ (script : ScriptModel) (counts : List ℕ) (last v n : ℕ) (is_last : last ≡ reactor_lane script)
    (size : length counts ≡ last + 1) (all : n ≡ length script.acts)
    (requests : v ≡ passing_before (act_passes asks_reactor script) (length script.acts))
    (counted : AreCounted (has_cell script) (home_lane script) (last + 1) n counts) where
  cells_at : (k : ℕ) → k < last + 1 → (b : Bool) → (k == reactor_lane script) ≡ b →
      get_or (slice_set counts last v) k 0 ≡ cells_on script k
  cells_at k less true here =
      let e : last ≡ k = is_last ∙ sym (eqb-true k (reactor_lane script) here) in
      let at : get_or (slice_set counts last v) k 0 ≡ v =
      subst (λ m. get_or (slice_set counts last v) m 0 ≡ v) e
      (get_or-set_same counts last v 0 (omega (arith, size))) in
      at ∙ requests ∙ rw here refl
  cells_at k less false other =
      get_or-set_other counts last k v 0 (λ same.
      let here : (k == reactor_lane script) ≡ true = eq-eqb k (reactor_lane script) (same ∙ is_last) in absurd (cc (here, other)))
      ∙ subst (λ m. get_or counts k 0 ≡ passing_before (λ i. has_cell script i && (home_lane script i == k)) m) all
      (counted k less) ∙ rw other refl

  pub cells_made : slice_set counts last v ≡ map (cells_on script) (range_with_len 0 (last + 1))
  cells_made =
      fill_by_all (cells_on script) (slice_set counts last v) (last + 1) 0 (length-set counts last v ∙ size)
      (λ k less. cells_at k less (k == reactor_lane script) refl)
