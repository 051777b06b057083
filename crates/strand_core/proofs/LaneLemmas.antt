-- What executes inside a call executes on the lane of its caller.
use Rattle.std.proofs.Common.{◌≡◌, ℕ, zero, suc, ◌+◌, ◌<◌, ◌≤◌, List, [], ◌∷◌, ◌++◌, Bool, true, false, Option, Some, None, length, refl, sym, ap, subst, ◌∙◌, arith, length-append}
use Rattle.std.specs.Prelude.{◌&&◌, ◌==◌, slice_get}
use Rattle.std.specs.Option.{unwrap_or}
use Rattle.std.proofs.lemmas.Option.{get_or_from_slice_get, unwrap_or-slice_get}
use Rattle.asio_types.specs.declared.number.Lane.{Lane}
use Rattle.asio_types.specs.declared.number.Lane.TheVariants as lane
use Rattle.session_script.specs.declared.act.Act.{Act}
use Rattle.session_script.specs.declared.act.Act.TheVariants as act
use Rattle.session_script.specs.Script.{Place, Entry, ScriptModel, is_op, is_operation, parent_of}
use Rattle.session_script.specs.Lanes.{caller_lane, is_inline, is_inside, lane_in, lane_of, lane_or_reactor, lanes_after, lanes_of}
use Rattle.session_script.specs.WellFormed.{HasParent}
use Rattle.lane_map.specs.LaneNumbers.{home_lane, is_op_on, lane_number}
use Rattle.strand_core.specs.Hands.{IsInlineOf, is_of_lane, is_op_of, same_lane}

get_front : {X : Type 0} (xs ys : List X) (k : ℕ) → k < length xs → slice_get (xs ++ ys) k ≡ slice_get xs k
get_front [] ys k less = absurd (omega arith)
get_front (x ∷ xs) ys zero less = refl
get_front (x ∷ xs) ys (suc k) less = get_front xs ys k (omega arith)

get_seam : {X : Type 0} (xs ys : List X) (x : X) → slice_get (xs ++ x ∷ ys) (length xs) ≡ Some x
get_seam [] ys x = refl
get_seam (y ∷ xs) ys x = get_seam xs ys x

-- further acts leave the lanes of those before them
lanes_stay : (lanes : List Lane) (entries : List Entry) (k : ℕ) → k < length lanes →
    slice_get (lanes_after lanes entries) k ≡ slice_get lanes k
lanes_stay lanes [] k less = refl
lanes_stay lanes (e ∷ entries) k less =
    let own : Lane = lane_in (caller_lane lanes e.parent) (length lanes) e.act in
    lanes_stay (lanes ++ own ∷ []) entries k (omega (arith, less, length-append lanes (own ∷ [])))
    ∙ get_front lanes (own ∷ []) k less

caller_stays : (all : List Entry) (lanes : List Lane) (entries : List Entry) (n : ℕ) (place : Place) →
    HasParent all n place → n ≤ length lanes → caller_lane (lanes_after lanes entries) place ≡ caller_lane lanes place
caller_stays all lanes entries n None parent within = refl
caller_stays all lanes entries n (Some place) parent within =
    lanes_stay lanes entries place.0 (omega (arith, parent.0, within))

-- the lane of each act by the lanes of all
lane_at : (all : List Entry) (lanes : List Lane) (entries : List Entry) (k n : ℕ) (e : Entry) → n ≡ length lanes + k →
    slice_get entries k ≡ Some e → HasParent all n e.parent →
    slice_get (lanes_after lanes entries) n ≡ Some (lane_in (caller_lane (lanes_after lanes entries) e.parent) n e.act)
lane_at all lanes [] k n e is stands parent = absurd (cc stands)
lane_at all lanes (f ∷ entries) zero n e is stands parent =
    let own : Lane = lane_in (caller_lane lanes f.parent) (length lanes) f.act in
    let here : n ≡ length lanes = omega (arith, is) in
    let same : f ≡ e = cc stands in
    let found : slice_get (lanes_after (lanes ++ own ∷ []) entries) (length lanes) ≡ Some own =
    lanes_stay (lanes ++ own ∷ []) entries (length lanes) (omega (arith, length-append lanes (own ∷ [])))
    ∙ get_seam lanes [] own in
    let first : own ≡ lane_in (caller_lane lanes e.parent) (length lanes) e.act =
    ap (λ (x : Entry). lane_in (caller_lane lanes x.parent) (length lanes) x.act) same in
    let second : lane_in (caller_lane lanes e.parent) (length lanes) e.act
    ≡ lane_in (caller_lane lanes e.parent) n e.act =
    ap (λ m. lane_in (caller_lane lanes e.parent) m e.act) (sym here) in
    let third : lane_in (caller_lane lanes e.parent) n e.act
    ≡ lane_in (caller_lane (lanes_after lanes (f ∷ entries)) e.parent) n e.act =
    ap (λ c. lane_in c n e.act) (sym (caller_stays all lanes (f ∷ entries) n e.parent parent (omega (arith, here)))) in
    ap (slice_get (lanes_after (lanes ++ own ∷ []) entries)) here ∙ found ∙ ap Some (first ∙ second ∙ third)
lane_at all lanes (f ∷ entries) (suc k) n e is stands parent =
    let own : Lane = lane_in (caller_lane lanes f.parent) (length lanes) f.act in
    lane_at all (lanes ++ own ∷ []) entries k n e (omega (arith, is, length-append lanes (own ∷ []))) stands parent

is_dispatch : (caller : Option Lane) (a : Act) → is_inside caller a ≡ true → is_operation a ≡ true
is_dispatch None a is = absurd (cc is)
is_dispatch (Some caller) (act.Dispatch strand) is = refl
is_dispatch (Some caller) _ is = absurd (cc is)

or_reactor : (found : Option Lane) → lane_or_reactor found ≡ unwrap_or found lane.Reactor
or_reactor None = refl
or_reactor (Some found) = refl

module _ (script : ScriptModel) (ordered : (n : ℕ) → HasParent script.acts n (parent_of script n)) (caller n : ℕ)
    (inside : IsInlineOf script caller n) where
  record OnLane : Type 0 where
    op : is_op script n ≡ true
    lane : lane_of script n ≡ lane_of script caller

  on_lane_by : (entry : Option Entry) → slice_get script.acts n ≡ entry → OnLane
  on_lane_by None stands =
      absurd (let none : is_inline script n ≡ false = rw stands refl in
      let some : is_inline script n ≡ true = inside.2 in cc (none, some))
  on_lane_by (Some e) stands =
      let lanes : List Lane = lanes_of script in
      let is_parent : parent_of script n ≡ e.parent = rw stands refl in
      let parent : e.parent ≡ Some (caller, inside.0) = sym is_parent ∙ inside.1 in
      let opened : is_inline script n ≡ is_inside (caller_lane lanes e.parent) e.act = rw (stands, stands) refl in
      let is_in : is_inside (caller_lane lanes e.parent) e.act ≡ true = sym opened ∙ inside.2 in
      let has_parent : HasParent script.acts n e.parent = subst (HasParent script.acts n) is_parent (ordered n) in
      let found : slice_get lanes n ≡ Some (lane_in (caller_lane lanes e.parent) n e.act) =
      lane_at script.acts [] script.acts n n e (omega arith) stands has_parent in
      let called : lane_in (caller_lane lanes e.parent) n e.act ≡ lane_or_reactor (caller_lane lanes e.parent) =
      rw is_in refl in
      let of_caller : lane_or_reactor (caller_lane lanes e.parent) ≡ lane_of script caller =
      ap (λ p. lane_or_reactor (caller_lane lanes p)) parent ∙ or_reactor (slice_get lanes caller)
      ∙ unwrap_or-slice_get lanes caller lane.Reactor in
      let opened_op : is_op script n ≡ is_operation e.act = rw stands refl in
      record {
        op = opened_op ∙ is_dispatch (caller_lane lanes e.parent) e.act is_in;
        lane =
            get_or_from_slice_get lanes n (lane_in (caller_lane lanes e.parent) n e.act) lane.Reactor found ∙ called
            ∙ of_caller;
      }

  both : (a b c d : Bool) → a ≡ true → (b && c) ≡ true → d ≡ c → (a && d) ≡ true
  both true true c d is_a is_both same = same ∙ is_both
  both true false c d is_a is_both same = absurd (cc is_both)
  both false b c d is_a is_both same = absurd (cc is_a)

  -- with an operation of a lane what executes inside it is of the lane
  pub callee_on : (at : ℕ) → is_op_on script at caller ≡ true → is_op_on script at n ≡ true
  callee_on at on_lane =
      let found : OnLane = on_lane_by (slice_get script.acts n) refl in
      both (is_op script n) (is_op script caller) (home_lane script caller == at) (home_lane script n == at) found.op
      on_lane (ap (λ l. lane_number script l == at) found.lane)

  callee_of_lane : (of : Lane) → is_of_lane script of caller ≡ true → is_of_lane script of n ≡ true
  callee_of_lane of of_lane =
      let found : OnLane = on_lane_by (slice_get script.acts n) refl in
      both (is_op script n) (is_op script caller) (same_lane (lane_of script caller) of)
      (same_lane (lane_of script n) of) found.op of_lane (ap (λ l. same_lane l of) found.lane)

  pub callee_of : (of : Option Lane) → is_op_of script of caller ≡ true → is_op_of script of n ≡ true
  callee_of (Some lane) of_lane = callee_of_lane lane of_lane
  callee_of None op = let found : OnLane = on_lane_by (slice_get script.acts n) refl in found.op
