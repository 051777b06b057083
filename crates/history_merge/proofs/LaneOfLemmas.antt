-- An operation's lane is a strand or a private place, whose number no other lane of an operation has.
use Rattle.std.proofs.Common.{◌≡◌, ◌≢◌, ℕ, zero, suc, ◌+◌, ◌<◌, Bool, true, false, [], Option, Some, None, length, refl, sym, ap, subst, ◌∙◌, arith}
use Rattle.std.specs.Prelude.{slice_get}
use Rattle.std.proofs.lemmas.Bool.{eq-eqb}
use Rattle.std.proofs.lemmas.Option.{get_or_from_slice_get}
use Rattle.asio_types.specs.declared.code.Class.{Class}
use Rattle.asio_types.specs.declared.number.Lane.{Lane}
use Rattle.asio_types.specs.declared.number.Lane.TheVariants as lane
use Rattle.session_script.specs.declared.act.Act.{Act}
use Rattle.session_script.specs.declared.act.Act.TheVariants as act
use Rattle.session_script.specs.Acts.{bodies_of}
use Rattle.session_script.specs.Script.{Entry, Place, ScriptModel, is_op, is_operation, parent_of}
use Rattle.session_script.specs.Lanes.{caller_lane, is_inline, is_inside, lane_in, lane_of, lanes_of, place_lane, strand_of}
use Rattle.session_script.specs.WellFormed.{HasParent, IsWellFormed, has_branch}
use Rattle.session_script.proofs.PlacingLemmas.{act_fits, has_parent}
use Rattle.lane_map.specs.LaneNumbers.{has_own_lane, home_lane, lane_list, lane_number, reactor_lane}
use Rattle.lane_map.proofs.CountLemmas.{passing_less}
use Rattle.lane_map.proofs.NumberLemmas.{lane_count, number_stands, number_within}
use Rattle.lane_map.proofs.PlaceLemmas.{IsKnown, lane_at, lanes_are_known}
use Rattle.lane_map.proofs.RankLemmas.{op_within}
use Rattle.history_merge.specs.Among.{IsPlaceOn}
use Rattle.history_merge.proofs.BodyLaneLemmas.{inline_place}

-- what has a branch is an operation
branch_op : (it : Act) (class : Class) → has_branch (bodies_of it) class ≡ true → is_operation it ≡ true
branch_op (act.Expires timer after) class is = absurd (cc)
branch_op (act.ExpiresAt timer at) class is = absurd (cc)
branch_op (act.Cancel timer) class is = absurd (cc)
branch_op (act.CancelOne timer) class is = absurd (cc)
branch_op (act.Emit slot types) class is = absurd (cc)
branch_op (act.Close stream) class is = absurd (cc)
branch_op (act.Release guard) class is = absurd (cc)
branch_op act.Stop class is = absurd (cc)
branch_op it class is = refl

module _ (script : ScriptModel) (well : IsWellFormed script) where
  -- the handler that calls an act is that of an operation
  parent_op : (n : ℕ) (place : ℕ × Class) → HasParent script.acts n (Some place) → is_op script place.0 ≡ true
  parent_op n place has =
      let is : is_op script place.0 ≡ is_operation has.1.0.act = rw has.1.1 refl in
      is ∙ branch_op has.1.0.act place.1 has.1.2

  pub caller_op : (n : ℕ) (place : ℕ × Class) → parent_of script n ≡ Some place → is_op script place.0 ≡ true
  caller_op n place under = parent_op n place (subst (HasParent script.acts n) under (has_parent script n well))

  outside_lane : (n : ℕ) → is_op script n ≡ true → is_inline script n ≡ false →
      (strand : Option ℕ) × (lane_of script n ≡ place_lane n strand)
  outside_lane n op isnt = by_entry (slice_get script.acts n) refl
    where
      by_entry : (found : Option Entry) → slice_get script.acts n ≡ found →
          (strand : Option ℕ) × (lane_of script n ≡ place_lane n strand)
      by_entry None stands =
          absurd (let none : is_op script n ≡ false = rw stands refl in let wrong : true ≡ false = sym op ∙ none in cc)
      by_entry (Some e) stands =
          let is_parent : parent_of script n ≡ e.parent = rw stands refl in
          let opened : is_inline script n ≡ is_inside (caller_lane (lanes_of script) e.parent) e.act =
          rw (stands, stands) refl in
          let out : is_inside (caller_lane (lanes_of script) e.parent) e.act ≡ false = sym opened ∙ isnt in
          let is : is_operation e.act ≡ true = sym (let here : is_op script n ≡ is_operation e.act = rw stands refl in here) ∙ op in
          let parent : HasParent script.acts n e.parent =
          subst (HasParent script.acts n) is_parent (has_parent script n well) in
          let found : slice_get (lanes_of script) n ≡ Some (lane_in (caller_lane (lanes_of script) e.parent) n e.act) =
          lane_at script.acts [] script.acts n n e (omega arith) stands parent in
          let own : lane_in (caller_lane (lanes_of script) e.parent) n e.act ≡ place_lane n (strand_of e.act) =
          rw (out, is) refl in (
            strand_of e.act,
            get_or_from_slice_get (lanes_of script) n (lane_in (caller_lane (lanes_of script) e.parent) n e.act) lane.Reactor found
                ∙ own,
          )

  not_reactor : (n : ℕ) (strand : Option ℕ) → place_lane n strand ≢ lane.Reactor
  not_reactor n None is = cc
  not_reactor n (Some strand) is = cc

  inline_lane : (n : ℕ) (place : Place) → ((m : ℕ) → m < n → is_op script m ≡ true → lane_of script m ≢ lane.Reactor) →
      IsPlaceOn script (lane_of script n) place → HasParent script.acts n place → lane_of script n ≢ lane.Reactor
  inline_lane n None before on has is = absurd on
  inline_lane n (Some place) before on has is = before place.0 has.0 (parent_op n place has) (on ∙ is)

  op_lane_below : (bound n : ℕ) → n < bound → is_op script n ≡ true → lane_of script n ≢ lane.Reactor
  op_lane_below zero n less op = absurd (omega (arith, less))
  op_lane_below (suc bound) n less op =
      by_inline (is_inline script n) refl (λ m earlier. op_lane_below bound m (omega (arith, less, earlier)))
    where
      by_inline : (b : Bool) → is_inline script n ≡ b →
          ((m : ℕ) → m < n → is_op script m ≡ true → lane_of script m ≢ lane.Reactor) → lane_of script n ≢ lane.Reactor
      by_inline true inside before =
          inline_lane n (parent_of script n) before (inline_place script well n inside) (has_parent script n well)
      by_inline false outside before =
          λ is. let own = outside_lane n op outside in not_reactor n own.0 (sym own.1 ∙ is)

  -- an operation executes on no reactor
  pub op_lane : (n : ℕ) → is_op script n ≡ true → lane_of script n ≢ lane.Reactor
  op_lane n op = op_lane_below (suc n) n (omega arith) op

  lane_known : (n : ℕ) → is_op script n ≡ true → IsKnown script n (lane_of script n)
  lane_known n op =
      lanes_are_known script (λ n. has_parent script n well) (λ n it is. act_fits script n well it is) n (op_within script n op)

  known_before : (n : ℕ) (at : Lane) → n < length script.acts → IsKnown script n at → at ≢ lane.Reactor →
      lane_number script at < reactor_lane script
  known_before n (lane.Strand strand) within known other = omega (arith, known)
  known_before n (lane.Own op) within known other =
      let own : has_own_lane script op ≡ true = rw known.1 (eq-eqb op op refl) in
      let less = passing_less (has_own_lane script) op (length script.acts) (omega (arith, known.0, within)) own in
      omega (arith, less)
  known_before n lane.Reactor within known other = absurd (other refl)

  -- so its lane's number is below the reactor's
  pub home_before : (n : ℕ) → is_op script n ≡ true → home_lane script n < reactor_lane script
  home_before n op = known_before n (lane_of script n) (op_within script n op) (lane_known n op) (op_lane n op)

  pub lanes_size : length (lane_list script) ≡ reactor_lane script + 1
  lanes_size = lane_count script

  -- and so that of every act is that of a lane
  pub home_counted : (n : ℕ) → n < length script.acts → home_lane script n < length (lane_list script)
  home_counted n within =
      let count = lanes_size in
      let known =
      number_within script n (lane_of script n) within
      (lanes_are_known script (λ m. has_parent script m well) (λ m given is. act_fits script m well given is) n within) in
      omega (arith, count, known)

  -- and two operations whose lanes have one number are on one lane
  pub same_lane : (m n : ℕ) → is_op script m ≡ true → is_op script n ≡ true → home_lane script m ≡ home_lane script n →
      lane_of script m ≡ lane_of script n
  same_lane m n one two same =
      let first = number_stands script m (lane_of script m) (op_within script m one) (lane_known m one) in
      let second = number_stands script n (lane_of script n) (op_within script n two) (lane_known n two) in
      some_same (lane_of script m) (lane_of script n)
      (sym first ∙ (ap (slice_get (lane_list script)) same ∙ second))
    where
      some_same : (a b : Lane) → Some a ≡ Some b → a ≡ b
      some_same a b is = cc
