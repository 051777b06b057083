-- A dispatch that executes inside its call is on the lane of its caller.
use Rattle.std.proofs.Common.{◌≡◌, ℕ, ◌+◌, ◌<◌, zero, suc, true, List, [], ◌∷◌, ◌++◌, Option, Some, None, length, refl, sym, ap, subst, ◌∙◌, arith}
use Rattle.std.specs.List.{slice_index_or}
use Rattle.std.specs.Prelude.{slice_get}
use Rattle.std.proofs.lemmas.List.{length-append}
use Rattle.std.proofs.lemmas.Option.{get_or_from_slice_get}
use Rattle.asio_types.specs.declared.number.Lane.{Lane}
use Rattle.asio_types.specs.declared.number.Lane.TheVariants as lane
use Rattle.session_script.specs.declared.act.Act.{Act}
use Rattle.session_script.specs.Lanes.{caller_lane, is_inline, is_inside, lane_in, lane_of, lane_or_reactor, lanes_after, lanes_of}
use Rattle.session_script.specs.Script.{Entry, Place, ScriptModel, parent_of}
use Rattle.session_script.specs.WellFormed.{HasParent, IsWellFormed}

got_front : {X : Type 0} (xs ys : List X) (k : ℕ) → k < length xs → slice_get (xs ++ ys) k ≡ slice_get xs k
got_front [] ys k within = absurd (omega (arith, within))
got_front (x ∷ xs) ys zero within = refl
got_front (x ∷ xs) ys (suc k) within = got_front xs ys k (omega (arith, within))

got_next : {X : Type 0} (xs : List X) (x : X) → slice_get (xs ++ x ∷ []) (length xs) ≡ Some x
got_next [] x = refl
got_next (y ∷ xs) x = got_next xs x

-- lanes that stand already stay
lanes_kept : (lanes : List Lane) (entries : List Entry) (k : ℕ) → k < length lanes →
    slice_get (lanes_after lanes entries) k ≡ slice_get lanes k
lanes_kept lanes [] k within = refl
lanes_kept lanes (entry ∷ entries) k within =
    let new : List Lane = lane_in (caller_lane lanes entry.parent) (length lanes) entry.act ∷ [] in
    lanes_kept (lanes ++ new) entries k (omega (arith, within, length-append lanes new)) ∙ got_front lanes new k within

caller_kept : (lanes : List Lane) (entries : List Entry) (place : Place) →
    ((at : _) → place ≡ Some at → at.0 < length lanes) →
    caller_lane lanes place ≡ caller_lane (lanes_after lanes entries) place
caller_kept lanes entries None within = refl
caller_kept lanes entries (Some at) within = sym (lanes_kept lanes entries at.0 (within at refl))

-- the lane of each entry, by the lanes of all
lane_there : (lanes : List Lane) (entries : List Entry) (k n : ℕ) (entry : Entry) → slice_get entries k ≡ Some entry →
    n ≡ length lanes + k → ((at : _) → entry.parent ≡ Some at → at.0 < n) →
    slice_get (lanes_after lanes entries) n
    ≡ Some (lane_in (caller_lane (lanes_after lanes entries) entry.parent) n entry.act)
lane_there lanes [] k n entry at is before = absurd (cc)
lane_there lanes (first ∷ entries) zero n entry at is before =
    let same : first ≡ entry = cc in
    let here : n ≡ length lanes = omega (arith, is) in
    let own : Lane = lane_in (caller_lane lanes first.parent) (length lanes) first.act in
    let new : List Lane = lanes ++ own ∷ [] in
    let long : length new ≡ length lanes + 1 = length-append lanes (own ∷ []) ∙ omega arith in
    let got : slice_get (lanes_after new entries) (length lanes) ≡ Some own =
    lanes_kept new entries (length lanes) (omega (arith, long)) ∙ got_next lanes own in
    let caller : caller_lane lanes first.parent ≡ caller_lane (lanes_after lanes (first ∷ entries)) first.parent =
    caller_kept lanes (first ∷ entries) first.parent
    (λ at parent. let less = before at (ap (λ (entry : Entry). entry.parent) (sym same) ∙ parent) in omega (arith, less, here)) in
    let all : slice_get (lanes_after lanes (first ∷ entries)) (length lanes)
    ≡ Some (lane_in (caller_lane (lanes_after lanes (first ∷ entries)) first.parent) (length lanes) first.act) =
    got ∙ ap (λ (caller : Option Lane). Some (lane_in caller (length lanes) first.act)) caller in
    subst (λ (entry : Entry). slice_get (lanes_after lanes (first ∷ entries)) n
    ≡ Some (lane_in (caller_lane (lanes_after lanes (first ∷ entries)) entry.parent) n entry.act)) same
    (subst (λ (n : ℕ). slice_get (lanes_after lanes (first ∷ entries)) n
    ≡ Some (lane_in (caller_lane (lanes_after lanes (first ∷ entries)) first.parent) n first.act)) (sym here) all)
lane_there lanes (first ∷ entries) (suc k) n entry at is before =
    let own : Lane = lane_in (caller_lane lanes first.parent) (length lanes) first.act in
    lane_there (lanes ++ own ∷ []) entries k n entry at (omega (arith, is, length-append lanes (own ∷ []))) before

lane_inside : (caller : Option Lane) (n : ℕ) (it : Act) → is_inside caller it ≡ true →
    lane_in caller n it ≡ lane_or_reactor caller
lane_inside caller n it inside = rw inside refl

or_reactor : (lanes : List Lane) (k : ℕ) → lane_or_reactor (slice_get lanes k) ≡ slice_index_or lanes k lane.Reactor
or_reactor [] k = refl
or_reactor (first ∷ lanes) zero = refl
or_reactor (first ∷ lanes) (suc k) = or_reactor lanes k

module _ (script : ScriptModel) (well : IsWellFormed script) where
  -- it is on its caller's lane
  pub caller_strand : (n : ℕ) (at : _) → is_inline script n ≡ true → parent_of script n ≡ Some at →
      lane_of script at.0 ≡ lane_of script n
  caller_strand n at inline parent = by_entry (slice_get script.acts n) refl
    where
      by_entry : (found : Option Entry) → slice_get script.acts n ≡ found → lane_of script at.0 ≡ lane_of script n
      by_entry None there = absurd (cc (rw there at inline))
      by_entry (Some entry) there =
          let is_parent : entry.parent ≡ Some at = sym (rw there refl) ∙ parent in
          let has : HasParent script.acts n (Some at) =
          subst (HasParent script.acts n) is_parent (well.acts.placed n entry there).parent in
          let got = lane_there [] script.acts n n entry there (omega arith)
          (λ own is. let same : Some own ≡ Some at = sym is ∙ is_parent in
          let it : own ≡ at = cc in let less = has.0 in let number = ap (λ at. at.0) it in omega (arith, less, number)) in
          let inside : is_inside (caller_lane (lanes_of script) (parent_of script n)) entry.act ≡ true = rw there at inline in
          let caller : caller_lane (lanes_of script) (parent_of script n) ≡ slice_get (lanes_of script) at.0 =
          ap (caller_lane (lanes_of script)) parent in
          let here : is_inside (slice_get (lanes_of script) at.0) entry.act ≡ true =
          ap (λ (caller : Option Lane). is_inside caller entry.act) (sym caller) ∙ inside in
          let own : lane_of script n ≡ lane_in (slice_get (lanes_of script) at.0) n entry.act =
          get_or_from_slice_get (lanes_of script) n (lane_in (caller_lane (lanes_of script) entry.parent) n entry.act)
          lane.Reactor got
          ∙ ap (λ (place : Place). lane_in (caller_lane (lanes_of script) place) n entry.act) is_parent in
          sym (own ∙ (lane_inside (slice_get (lanes_of script) at.0) n entry.act here ∙ or_reactor (lanes_of script) at.0))
