-- The lane of an act by the lanes of those before it, and which lanes there are.
use Rattle.std.proofs.Common.{◌≡◌, ℕ, zero, suc, ◌+◌, ◌<◌, ◌≤◌, List, [], ◌∷◌, ◌++◌, Bool, true, false, Option, Some, None, length, get_or, refl, sym, ap, subst, ◌∙◌, arith, length-append}
use Rattle.std.specs.Prelude.{slice_get, IfSome, if◌then◌else◌}
use Rattle.std.proofs.lemmas.Option.{get_or_from_slice_get, slice_get-get_or}
use Rattle.asio_types.specs.declared.number.Lane.{Lane}
use Rattle.asio_types.specs.declared.number.Lane.TheVariants as lane
use Rattle.session_script.specs.declared.act.Act.{Act}
use Rattle.session_script.specs.declared.act.Act.TheVariants as act
use Rattle.session_script.specs.Script.{Place, Entry, ScriptModel, act_of, is_operation, is_stop, parent_of}
use Rattle.session_script.specs.Lanes.{caller_lane, is_inside, lane_in, lane_of, lane_or_reactor, lanes_after, lanes_of, place_lane, strand_of}
use Rattle.session_script.specs.WellFormed.{FitsAct, HasParent, header_of}

pub get_front : {X : Type 0} (xs ys : List X) (k : ℕ) → k < length xs → slice_get (xs ++ ys) k ≡ slice_get xs k
get_front [] ys k less = absurd (omega arith)
get_front (x ∷ xs) ys zero less = refl
get_front (x ∷ xs) ys (suc k) less = get_front xs ys k (omega arith)

pub get_behind : {X : Type 0} (xs ys : List X) (k n : ℕ) → n ≡ length xs + k → slice_get (xs ++ ys) n ≡ slice_get ys k
get_behind [] ys k n is = let same : n ≡ k = omega (arith, is) in ap (slice_get ys) same
get_behind (x ∷ xs) ys k zero is = absurd (omega (arith, is))
get_behind (x ∷ xs) ys k (suc n) is = get_behind xs ys k n (omega (arith, is))

-- further acts leave the lanes of those before them
lanes_stay : (lanes : List Lane) (entries : List Entry) (k : ℕ) → k < length lanes →
    slice_get (lanes_after lanes entries) k ≡ slice_get lanes k
lanes_stay lanes [] k less = refl
lanes_stay lanes (e ∷ entries) k less =
    let own : Lane = lane_in (caller_lane lanes e.parent) (length lanes) e.act in
    lanes_stay (lanes ++ own ∷ []) entries k (omega (arith, less, length-append lanes (own ∷ [])))
    ∙ get_front lanes (own ∷ []) k less

caller_stays : (all : List Entry) (lanes : List Lane) (entries : List Entry) (n : ℕ) (place : Place) →
    HasParent all n place → n ≤ length lanes → caller_lane (lanes_after lanes entries) place ≡ caller_lane lanes place
caller_stays all lanes entries n None parent within = refl
caller_stays all lanes entries n (Some place) parent within =
    lanes_stay lanes entries place.0 (omega (arith, parent.0, within))

-- the lane of each act by the lanes of all
pub lane_at : (all : List Entry) (lanes : List Lane) (entries : List Entry) (k n : ℕ) (e : Entry) →
    n ≡ length lanes + k → slice_get entries k ≡ Some e → HasParent all n e.parent →
    slice_get (lanes_after lanes entries) n ≡ Some (lane_in (caller_lane (lanes_after lanes entries) e.parent) n e.act)
lane_at all lanes [] k n e is stands parent = absurd (cc stands)
lane_at all lanes (f ∷ entries) zero n e is stands parent =
    let own : Lane = lane_in (caller_lane lanes f.parent) (length lanes) f.act in
    let here : n ≡ length lanes = omega (arith, is) in
    let same : f ≡ e = cc stands in
    let found : slice_get (lanes_after (lanes ++ own ∷ []) entries) (length lanes) ≡ Some own =
    lanes_stay (lanes ++ own ∷ []) entries (length lanes) (omega (arith, length-append lanes (own ∷ [])))
    ∙ get_behind lanes (own ∷ []) 0 (length lanes) (omega arith) in
    let first : own ≡ lane_in (caller_lane lanes e.parent) (length lanes) e.act =
    ap (λ (x : Entry). lane_in (caller_lane lanes x.parent) (length lanes) x.act) same in
    let second : lane_in (caller_lane lanes e.parent) (length lanes) e.act
    ≡ lane_in (caller_lane lanes e.parent) n e.act =
    ap (λ m. lane_in (caller_lane lanes e.parent) m e.act) (sym here) in
    let third : lane_in (caller_lane lanes e.parent) n e.act
    ≡ lane_in (caller_lane (lanes_after lanes (f ∷ entries)) e.parent) n e.act =
    ap (λ c. lane_in c n e.act) (sym (caller_stays all lanes (f ∷ entries) n e.parent parent (omega (arith, here)))) in
    ap (slice_get (lanes_after (lanes ++ own ∷ []) entries)) here ∙ found ∙ ap Some (first ∙ second ∙ third)
lane_at all lanes (f ∷ entries) (suc k) n e is stands parent =
    let own : Lane = lane_in (caller_lane lanes f.parent) (length lanes) f.act in
    lane_at all (lanes ++ own ∷ []) entries k n e (omega (arith, is, length-append lanes (own ∷ []))) stands parent

strands_fit : (h : ScriptModel) (a : Act) → FitsAct (header_of h) a → IfSome (strand_of a) (λ strand. strand < h.strands)
strands_fit h (act.Post strand) fits = fits
strands_fit h (act.Defer strand) fits = fits
strands_fit h (act.Dispatch strand) fits = fits
strands_fit h (act.Wait timer strand slot filter) fits = fits.1
strands_fit h (act.ReadSome stream size strand slot filter) fits = fits.2
strands_fit h (act.ReadAll stream size strand slot filter) fits = fits.2
strands_fit h (act.Until stream delimiter max strand slot filter) fits = fits.3
strands_fit h (act.WriteSome stream bytes strand slot filter) fits = fits.2
strands_fit h (act.WriteAll stream bytes strand slot filter) fits = fits.2
strands_fit h _ fits = tt

-- a lane that act n may have: a declared strand, its own place or that of an operation before it
abbrev pub IsKnown : ScriptModel → ℕ → Lane → Type 0
IsKnown script n (lane.Strand strand) = strand < script.strands
IsKnown script n (lane.Own op) = (op ≤ n) × (lane_of script op ≡ lane.Own op)
IsKnown script n lane.Reactor = Unit {0}

known_later : (script : ScriptModel) (m n : ℕ) (at : Lane) → m ≤ n → IsKnown script m at → IsKnown script n at
known_later script m n (lane.Strand strand) later known = known
known_later script m n (lane.Own op) later known = (omega (arith, known.0), known.1)
known_later script m n lane.Reactor later known = tt

caller_known : (script : ScriptModel) (n : ℕ) (caller : Option Lane) → IfSome caller (IsKnown script n) →
    IsKnown script n (lane_or_reactor caller)
caller_known script n None known = tt
caller_known script n (Some at) known = known

place_known : (script : ScriptModel) (n : ℕ) (strand : Option ℕ) → IfSome strand (λ s. s < script.strands) →
    (strand ≡ None → lane_of script n ≡ lane.Own n) → IsKnown script n (place_lane n strand)
place_known script n None fits own = (omega arith, own refl)
place_known script n (Some strand) fits own = fits

if_known : (script : ScriptModel) (n : ℕ) (test : Bool) (one other : Lane) →
    (test ≡ true → IsKnown script n one) → (test ≡ false → IsKnown script n other) →
    IsKnown script n (if test then one else other)
if_known script n true one other first second = first refl
if_known script n false one other first second = second refl

in_known : (script : ScriptModel) (n : ℕ) (caller : Option Lane) (a : Act) → IfSome caller (IsKnown script n) →
    FitsAct (header_of script) a → lane_of script n ≡ lane_in caller n a → IsKnown script n (lane_in caller n a)
in_known script n caller a known fits is =
    if_known script n (is_inside caller a) _ _ (λ _. caller_known script n caller known)
    (λ outside.
    if_known script n (is_operation a) _ _
    (λ operation.
    place_known script n (strand_of a) (strands_fit script a fits) (λ none.
    is ∙ rw (outside, operation, none) refl))
    (λ _.
    if_known script n (is_stop a) _ _ (λ _. caller_known script n caller known) (λ _. tt)))

module _ (script : ScriptModel) (ordered : (n : ℕ) → HasParent script.acts n (parent_of script n))
    (fit : (n : ℕ) (act : Act) → act_of script n ≡ Some act → FitsAct (header_of script) act) where
  caller_found : (n : ℕ) (found : Option Lane) (p : ℕ) → slice_get (lanes_of script) p ≡ found → p ≤ n →
      IsKnown script p (lane_of script p) → IfSome found (IsKnown script n)
  caller_found n None p is before known = tt
  caller_found n (Some at) p is before known =
      let same : lane_of script p ≡ at = get_or_from_slice_get (lanes_of script) p at lane.Reactor is in
      subst (IsKnown script n) same (known_later script p n (lane_of script p) before known)

  parent_found : (n : ℕ) (place : Place) → HasParent script.acts n place →
      ((p : ℕ) → p < n → IsKnown script p (lane_of script p)) → IfSome (caller_lane (lanes_of script) place) (IsKnown script n)
  parent_found n None parent known = tt
  parent_found n (Some place) parent known =
      caller_found n (slice_get (lanes_of script) place.0) place.0 refl (omega (arith, parent.0)) (known place.0 parent.0)

  known_below : (bound n : ℕ) → n < bound → n < length script.acts → IsKnown script n (lane_of script n)
  known_below zero n less within = absurd (omega arith)
  known_below (suc bound) n less within =
      let none : Entry = record { act = act.Stop; parent = None } in
      let e : Entry = get_or script.acts n none in
      let stands : slice_get script.acts n ≡ Some (get_or script.acts n none) =
      slice_get-get_or script.acts n none within in
      let is_parent : parent_of script n ≡ (get_or script.acts n none).parent = rw stands refl in
      let is_act : act_of script n ≡ Some (get_or script.acts n none).act = rw stands refl in
      let parent : HasParent script.acts n (get_or script.acts n none).parent =
      subst (HasParent script.acts n) is_parent (ordered n) in
      let found = lane_at script.acts [] script.acts n n e (omega arith) stands parent in
      let is : lane_of script n ≡ lane_in (caller_lane (lanes_of script) e.parent) n e.act =
      get_or_from_slice_get (lanes_of script) n _ lane.Reactor found in
      subst (IsKnown script n) (sym is)
      (in_known script n (caller_lane (lanes_of script) e.parent) e.act
      (parent_found n e.parent parent (λ p before. known_below bound p (omega arith) (omega arith)))
      (fit n e.act is_act) is)

  pub lanes_are_known : (n : ℕ) → n < length script.acts → IsKnown script n (lane_of script n)
  lanes_are_known n within = known_below (suc n) n (omega arith) within
