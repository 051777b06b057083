-- Within a lane the ranks of operations rise with their numbers.
use Rattle.std.proofs.Common.{◌≡◌, ℕ, ◌<◌, ◌==◌, true, false, inl, inr, length, refl, ap, arith}
use Rattle.std.specs.Prelude.{None, slice_get}
use Rattle.std.proofs.lemmas.Bool.{and_parts, cases_lt, eqb-true}
use Rattle.std.proofs.lemmas.Option.{slice_get_past}
use Rattle.session_script.specs.Script.{ScriptModel, is_op}
use Rattle.lane_map.specs.LaneNumbers.{home_lane, is_op_on, operations_on, passing_before, rank_of}
use Rattle.lane_map.proofs.CountLemmas.{passing_less}

module _ (script : ScriptModel) where
  -- an operation is an act
  pub op_within : (n : ℕ) → is_op script n ≡ true → n < length script.acts
  op_within n is = elim (cases_lt n (length script.acts)) [
    | inl less ↦ less
    | inr past ↦
        let gone : slice_get script.acts n ≡ None = slice_get_past script.acts n past in
        let none : is_op script n ≡ false = rw gone refl in
        absurd (cc (none, is))
  ]

  module _ (at : ℕ) where
    pub home_is : (n : ℕ) → is_op_on script at n ≡ true → home_lane script n ≡ at
    home_is n is = eqb-true (home_lane script n) at (and_parts (is_op script n) (home_lane script n == at) is).1

    pub is_act : (n : ℕ) → is_op_on script at n ≡ true → n < length script.acts
    is_act n is = op_within n (and_parts (is_op script n) (home_lane script n == at) is).0

    pub rank_is : (n : ℕ) → is_op_on script at n ≡ true → rank_of script n ≡ passing_before (is_op_on script at) n
    rank_is n is = ap (λ lane. passing_before (is_op_on script lane) n) (home_is n is)

    pub ranks_rise : (m n : ℕ) → m < n → is_op_on script at m ≡ true → is_op_on script at n ≡ true →
        rank_of script m < rank_of script n
    ranks_rise m n less is_m is_n =
        omega (arith, rank_is m is_m, rank_is n is_n, passing_less (is_op_on script at) m n less is_m)

    pub ranks_fit : (n : ℕ) → is_op_on script at n ≡ true → rank_of script n < operations_on script at
    ranks_fit n is =
        omega (arith, rank_is n is, passing_less (is_op_on script at) n (length script.acts) (is_act n is) is)
