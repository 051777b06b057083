-- Acts that are appended stand under acts that stand already.
use Rattle.std.proofs.Common.{◌≡◌, ℕ, zero, suc, ◌+◌, ◌<◌, ◌≤◌, true, List, [], ◌∷◌, ◌++◌, ◌⊎◌, length, Some, None, refl, sym, ap, subst, ⊎_elim, inl, inr, arith, length-append}
use Rattle.std.specs.Prelude.{slice_get}
use Rattle.asio_types.specs.declared.code.Class.{Class}
use Rattle.session_script.specs.declared.parts.Header.{Header}
use Rattle.session_script.specs.Script.{Place, Entry}
use Rattle.session_script.specs.Acts.{bodies_of}
use Rattle.session_script.specs.WellFormed.{has_branch, FitsAct, HasParent, IsNested, in_open, in_branch, IsPlaced, IsForest}

slice_get-push : (acts : List Entry) (e : Entry) (n : ℕ) (x : Entry) → slice_get acts n ≡ Some x →
    slice_get (acts ++ e ∷ []) n ≡ Some x
slice_get-push [] e n x h = absurd (cc)
slice_get-push (a ∷ acts) e zero x h = h
slice_get-push (a ∷ acts) e (suc n) x h = slice_get-push acts e n x h

pub slice_get-seam : (acts : List Entry) (e : Entry) → slice_get (acts ++ e ∷ []) (length acts) ≡ Some e
slice_get-seam [] e = refl
slice_get-seam (a ∷ acts) e = slice_get-seam acts e

slice_get-pushed : (acts : List Entry) (e : Entry) (n : ℕ) (x : Entry) → slice_get (acts ++ e ∷ []) n ≡ Some x →
    (slice_get acts n ≡ Some x) ⊎ ((n ≡ length acts) × (e ≡ x))
slice_get-pushed [] e zero x h = inr (refl, cc)
slice_get-pushed [] e (suc n) x h = absurd (cc)
slice_get-pushed (a ∷ acts) e zero x h = inl h
slice_get-pushed (a ∷ acts) e (suc n) x h =
    ⊎_elim (λ before. inl before) (λ last. inr (ap suc last.0, last.1)) (slice_get-pushed acts e n x h)

-- acts are appended to others
pub record Extends (acts later : List Entry) : Type 0 where
  pub same : (n : ℕ) (e : Entry) → slice_get acts n ≡ Some e → slice_get later n ≡ Some e
  pub longer : length acts ≤ length later

pub extends_by_none : (acts : List Entry) → Extends acts acts
extends_by_none acts = record { same = λ n e h. h; longer = omega arith }

pub extends_both : {a b c : List Entry} → Extends a b → Extends b c → Extends a c
extends_both first second = record {
  same = λ n e h. second.same n e (first.same n e h);
  longer = omega (arith, first.longer, second.longer);
}

pub extends_by_one : (acts : List Entry) (e : Entry) → Extends acts (acts ++ e ∷ [])
extends_by_one acts e = record { same = slice_get-push acts e; longer = omega (arith, length-append acts (e ∷ [])) }

parent_later : {acts later : List Entry} (n m : ℕ) (place : Place) → Extends acts later → n ≤ m →
    HasParent acts n place → HasParent later m place
parent_later n m None more le h = tt
parent_later n m (Some place) more le h = (omega (arith, h.0), (h.1.0, more.same place.0 h.1.0 h.1.1, h.1.2))

nested_later : {acts later : List Entry} {place : Place} {depth : ℕ} → Extends acts later → IsNested acts place depth →
    IsNested later place depth
nested_later more in_open = in_open
nested_later more (in_branch there above) = in_branch (more.same _ _ there) (nested_later more above)

placed_later : (h : Header) {acts later : List Entry} (n : ℕ) (e : Entry) → Extends acts later → IsPlaced h acts n e →
    IsPlaced h later n e
placed_later h n e more placed = record {
  fits = placed.fits;
  parent = parent_later n n e.parent more (omega arith) placed.parent;
  nested = (placed.nested.0, placed.nested.1, nested_later more placed.nested.2);
}

pub forest_of_none : (h : Header) → IsForest h []
forest_of_none h = record { count = omega arith; placed = λ n e there. absurd (cc) }

-- a place where an act may stand, with so many levels of bodies left
pub record Stands (nesting : ℕ) (acts : List Entry) (place : Place) (levels : ℕ) : Type 0 where
  pub parent : HasParent acts (length acts) place
  pub depth : ℕ
  pub nested : IsNested acts place depth
  pub levels_left : depth + levels ≡ nesting + 1

pub stands_later : {nesting : ℕ} {acts later : List Entry} {place : Place} {levels : ℕ} → Extends acts later →
    Stands nesting acts place levels → Stands nesting later place levels
stands_later {place = place} more stands = record {
  parent = parent_later _ _ place more more.longer stands.parent;
  depth = stands.depth;
  nested = nested_later more stands.nested;
  levels_left = stands.levels_left;
}

pub stands_in_open : (nesting : ℕ) → Stands nesting [] None nesting
stands_in_open nesting = record { parent = tt; depth = 1; nested = in_open; levels_left = omega arith }

module _ (h : Header) (acts : List Entry) (e : Entry) (levels : ℕ)
    (stands : Stands h.limits.nesting acts e.parent (levels + 1)) where
  -- one more act
  pub forest_of_one_more : IsForest h acts → length acts < h.limits.acts → FitsAct h e.act → IsForest h (acts ++ e ∷ [])
  forest_of_one_more forest room fits =
      let more = extends_by_one acts e in
      let new : IsPlaced h (acts ++ e ∷ []) (length acts) e = record {
        fits = fits;
        parent = parent_later _ _ e.parent more (omega arith) stands.parent;
        nested = (stands.depth, omega (arith, stands.levels_left), nested_later more stands.nested);
      } in
      record {
        count = omega (arith, length-append acts (e ∷ []));
        placed = λ n x there.
            ⊎_elim (λ before. placed_later h n x more (forest.placed n x before))
            (λ last.
            subst (λ (k : ℕ). IsPlaced h (acts ++ e ∷ []) k x) (sym last.0)
            (subst (λ (y : Entry). IsPlaced h (acts ++ e ∷ []) (length acts) y) last.1 new))
            (slice_get-pushed acts e n x there);
      }

  -- a branch of that act
  pub stands_in_branch : (branch : Class) → has_branch (bodies_of e.act) branch ≡ true →
      Stands h.limits.nesting (acts ++ e ∷ []) (Some (length acts, branch)) levels
  stands_in_branch branch has = record {
    parent = (omega (arith, length-append acts (e ∷ [])), (e, slice_get-seam acts e, has));
    depth = suc stands.depth;
    nested = in_branch (slice_get-seam acts e) (nested_later (extends_by_one acts e) stands.nested);
    levels_left = omega (arith, stands.levels_left);
  }
