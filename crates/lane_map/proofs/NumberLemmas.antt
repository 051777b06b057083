-- Each lane stands in the list of lanes at its number.
use Rattle.std.proofs.Common.{◌≡◌, ℕ, zero, suc, ◌+◌, ◌<◌, List, [], ◌∷◌, ◌++◌, Bool, true, false, cond, Option, Some, length, map, refl, sym, ap, ◌∙◌, arith, length-append}
use Rattle.std.specs.Prelude.{slice_get}
use Rattle.std.specs.Option.{option_map}
use Rattle.std.specs.List.{count_by, filter, range_with_len}
use Rattle.std.proofs.lemmas.Bool.{eq-eqb}
use Rattle.std.proofs.lemmas.List.{length-map}
use Rattle.std.proofs.lemmas.List.FromFn.{length-range_with_len}
use Rattle.std.proofs.lemmas.List.Sums.{length-filter, sum_by-cons}
use Rattle.std.proofs.lemmas.Option.{slice_get-map, slice_get_within}
use Rattle.asio_types.specs.declared.number.Lane.{Lane}
use Rattle.asio_types.specs.declared.number.Lane.TheVariants as lane
use Rattle.session_script.specs.Script.{ScriptModel}
use Rattle.lane_map.specs.LaneNumbers.{act_passes, asked_lane, cells_of, cells_on, has_own_lane, home_lane, asks_its_lane, lane_list, lane_number, passing_before, reactor_lane}
use Rattle.lane_map.proofs.PlaceLemmas.{IsKnown, get_behind, get_front}

get_range : (a n k : ℕ) → k < n → slice_get (range_with_len a n) k ≡ Some (a + k)
get_range a zero k less = absurd (omega arith)
get_range a (suc n) zero less = let e : a ≡ a + 0 = omega arith in ap Some e
get_range a (suc n) (suc k) less =
    let e : a + 1 + k ≡ a + suc k = omega arith in get_range (a + 1) n k (omega arith) ∙ ap Some e

-- a number that passes stands behind those before it that pass
get_passing : (test : ℕ → Bool) (a n k : ℕ) → k < n → test (a + k) ≡ true →
    slice_get (filter test (range_with_len a n)) (count_by test (range_with_len a k)) ≡ Some (a + k)
get_passing test a zero k less is = absurd (omega arith)
get_passing test a (suc n) zero less is =
    let e : a + 0 ≡ a = omega arith in
    let here : test a ≡ true = ap test (sym e) ∙ is in
    rw here (ap Some (sym e))
get_passing test a (suc n) (suc k) less is =
    let e : a + 1 + k ≡ a + suc k = omega arith in
    let later : slice_get (filter test (range_with_len (a + 1) n)) (count_by test (range_with_len (a + 1) k))
    ≡ Some (a + suc k) = get_passing test (a + 1) n k (omega arith) (ap test e ∙ is) ∙ ap Some e in
    let count : count_by test (a ∷ range_with_len (a + 1) k)
    ≡ cond (test a) 1 0 + count_by test (range_with_len (a + 1) k) =
    sum_by-cons (λ x. cond (test x) 1 0) a (range_with_len (a + 1) k) in
    at_first test a (range_with_len (a + 1) n) _ (count_by test (range_with_len (a + 1) k)) _ (test a) refl count later
  where
    at_first : (test : ℕ → Bool) (a : ℕ) (rest : List ℕ) (m c : ℕ) (found : Option ℕ) (b : Bool) → test a ≡ b →
        m ≡ cond (test a) 1 0 + c → slice_get (filter test rest) c ≡ found → slice_get (filter test (a ∷ rest)) m ≡ found
    at_first test a rest m c found true is count later =
        let e : m ≡ suc c = count ∙ rw is (omega arith) in rw (e, is) later
    at_first test a rest m c found false is count later =
        let e : m ≡ c = count ∙ rw is (omega arith) in rw (e, is) later

module _ (script : ScriptModel) where
  abbrev strands : List Lane
  strands = map lane.Strand (range_with_len 0 script.strands)

  abbrev owns : List Lane
  owns = map lane.Own (filter (has_own_lane script) (range_with_len 0 (length script.acts)))

  length_strands : length strands ≡ script.strands
  length_strands = length-map (range_with_len 0 script.strands) lane.Strand ∙ length-range_with_len 0 script.strands

  length_owns : length owns ≡ passing_before (has_own_lane script) (length script.acts)
  length_owns =
      length-map (filter (has_own_lane script) (range_with_len 0 (length script.acts))) lane.Own
      ∙ length-filter (has_own_lane script) (range_with_len 0 (length script.acts))

  pub lane_count : length (lane_list script) ≡ reactor_lane script + 1
  lane_count =
      omega (
        arith,
        length_strands,
        length_owns,
        length-append strands owns,
        length-append (strands ++ owns) (lane.Reactor ∷ []),
      )

  pub number_stands : (n : ℕ) (at : Lane) → n < length script.acts → IsKnown script n at →
      slice_get (lane_list script) (lane_number script at) ≡ Some at
  number_stands n (lane.Strand strand) within known =
      get_front (strands ++ owns) (lane.Reactor ∷ []) strand
      (omega (arith, length_strands, length-append strands owns, known))
      ∙ get_front strands owns strand (omega (arith, length_strands, known))
      ∙ slice_get-map lane.Strand (range_with_len 0 script.strands) strand
      ∙ ap (option_map lane.Strand) (get_range 0 script.strands strand known)
      ∙ (let e : 0 + strand ≡ strand = omega arith in ap (λ s. Some (lane.Strand s)) e)
  number_stands n (lane.Own op) within known =
      let own : has_own_lane script op ≡ true = rw known.1 (eq-eqb op op refl) in
      let e : 0 + op ≡ op = omega arith in
      let found : slice_get owns (passing_before (has_own_lane script) op) ≡ Some (lane.Own op) =
      slice_get-map lane.Own (filter (has_own_lane script) (range_with_len 0 (length script.acts)))
      (passing_before (has_own_lane script) op)
      ∙ ap (option_map lane.Own)
      (get_passing (has_own_lane script) 0 (length script.acts) op (omega (arith, known.0)) (ap (has_own_lane script) e ∙ own))
      ∙ ap (λ s. Some (lane.Own s)) e in
      get_front (strands ++ owns) (lane.Reactor ∷ []) _
      (omega (
        arith,
        length_strands,
        length-append strands owns,
        slice_get_within owns (passing_before (has_own_lane script) op) (lane.Own op) found,
      ))
      ∙ get_behind strands owns (passing_before (has_own_lane script) op) _ (omega (arith, length_strands)) ∙ found
  number_stands n lane.Reactor within known =
      get_behind (strands ++ owns) (lane.Reactor ∷ []) 0 _
      (omega (arith, length_strands, length_owns, length-append strands owns))

  pub number_within : (n : ℕ) (at : Lane) → n < length script.acts → IsKnown script n at →
      lane_number script at < reactor_lane script + 1
  number_within n at within known =
      omega (arith, lane_count, slice_get_within (lane_list script) (lane_number script at) at (number_stands n at within known))

-- each lane has its number of cells
pub cell_count : (script : ScriptModel) → length (cells_of script) ≡ length (lane_list script)
cell_count script =
    length-map (range_with_len 0 (length (lane_list script))) (cells_on script)
    ∙ length-range_with_len 0 (length (lane_list script))

pub home_within : (script : ScriptModel) (n : ℕ) → length (lane_list script) ≡ reactor_lane script + 1 →
    home_lane script n < reactor_lane script + 1 → home_lane script n < length (cells_of script)
home_within script n count within = omega (arith, cell_count script, count, within)

pub asked_within : (script : ScriptModel) (n : ℕ) → length (lane_list script) ≡ reactor_lane script + 1 →
    home_lane script n < reactor_lane script + 1 → asked_lane script n < length (cells_of script)
asked_within script n count within =
    by_kind (act_passes asks_its_lane script n) (home_lane script n) (reactor_lane script) (length (cells_of script))
    (home_within script n count within) (omega (arith, cell_count script, count))
  where
    by_kind : (posting : Bool) (home last all : ℕ) → home < all → last < all → cond posting home last < all
    by_kind true home last all first second = first
    by_kind false home last all first second = second
