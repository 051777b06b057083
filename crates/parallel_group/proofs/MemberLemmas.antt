-- The operations of a group's members: waits and reads of `open`, all on the one strand.
use Rattle.std.proofs.Common.{◌≡◌, ℕ, zero, suc, ◌+◌, ◌<◌, ◌≤◌, Bool, true, false, cond, List, [], ◌∷◌, Option, Some, None, inl, inr, filter, length, refl, sym, ap, subst, ◌∙◌, arith}
use Rattle.std.specs.Prelude.{slice_get, not, ◌&&◌}
use Rattle.std.specs.List.{range_with_len}
use Rattle.std.proofs.lemmas.Option.{get_or_from_slice_get}
use Rattle.asio_types.specs.declared.number.Lane.TheVariants as lane
use Rattle.session_script.specs.declared.act.Act.{Act}
use Rattle.session_script.specs.declared.act.Act.TheVariants as act
use Rattle.session_script.specs.Lanes.{caller_lane, is_inline, is_inside, lane_in, lane_of, lanes_of}
use Rattle.session_script.specs.Script.{Entry, ScriptModel, is_op, is_operation, numbers_in, opening_of, parent_of, same_place}
use Rattle.session_script.specs.WellFormed.{HasParent}
use Rattle.history_rules.specs.declared.phase.ActPhase.{ActPhase}
use Rattle.history_rules.specs.declared.phase.ActPhase.TheVariants as phase
use Rattle.history_rules.specs.declared.phase.Cause.TheVariants as cause
use Rattle.asio_types.specs.declared.code.Code.TheVariants as code
use Rattle.history_rules.specs.Calls.{accepted}
use Rattle.history_rules.specs.Kinds.{is_act, is_control, is_posting}
use Rattle.lane_map.proofs.PlaceLemmas.{lane_at}
use Rattle.lane_map.specs.LaneNumbers.{has_cell, home_lane, lane_number}
use Rattle.group_script.specs.declared.member.Member.TheVariants as member
use Rattle.group_script.specs.Group.{Group, script_of}
use Rattle.group_script.specs.Limits.{FitsGroup}
use Rattle.group_script.proofs.PlacedLemmas.{IsAt, IsKnown, emit, expires, is_emit, operation}
use Rattle.group_script.proofs.WellMadeLemmas.{each_at}
use Rattle.parallel_group.specs.Members.{member_ops}

-- the numbers in a range that pass a test
record Passes (test : ℕ → Bool) (from count op : ℕ) : Type 0 where
  pub passes : test op ≡ true
  pub above : from ≤ op
  pub below : op < from + count

passing_by : (test : ℕ → Bool) (from count op : ℕ) (rest : List ℕ) (b : Bool) → test from ≡ b →
    ((k : ℕ) → slice_get rest k ≡ Some op → Passes test (from + 1) count op) → (k : ℕ) →
    slice_get (cond b (from ∷ rest) rest) k ≡ Some op → Passes test from (suc count) op
passing_by test from count op rest true here further zero is =
    let same : from ≡ op = cc in
    record { passes = ap test (sym same) ∙ here; above = omega (arith, same); below = omega (arith, same) }
passing_by test from count op rest true here further (suc k) is =
    let found = further k is in
    record { passes = found.passes; above = omega (arith, found.above); below = omega (arith, found.below) }
passing_by test from count op rest false here further k is =
    let found = further k is in
    record { passes = found.passes; above = omega (arith, found.above); below = omega (arith, found.below) }

passing : (test : ℕ → Bool) (count from k op : ℕ) → slice_get (filter test (range_with_len from count)) k ≡ Some op →
    Passes test from count op
passing test zero from k op is = absurd (cc)
passing test (suc count) from k op is =
    passing_by test from count op (filter test (range_with_len (from + 1) count)) (test from) refl
    (λ k further. passing test count (from + 1) k op further) k is

-- they rise
rising_by : (from x y : ℕ) (rest : List ℕ) (b : Bool) → ((l : ℕ) → slice_get rest l ≡ Some y → from < y) →
    ((k l : ℕ) → k < l → slice_get rest k ≡ Some x → slice_get rest l ≡ Some y → x < y) → (k l : ℕ) → k < l →
    slice_get (cond b (from ∷ rest) rest) k ≡ Some x → slice_get (cond b (from ∷ rest) rest) l ≡ Some y → x < y
rising_by from x y rest true behind further k zero less first second = absurd (omega (arith, less))
rising_by from x y rest true behind further zero (suc l) less first second =
    let same : from ≡ x = cc in let above = behind l second in omega (arith, same, above)
rising_by from x y rest true behind further (suc k) (suc l) less first second =
    further k l (omega (arith, less)) first second
rising_by from x y rest false behind further k l less first second = further k l less first second

rising : (test : ℕ → Bool) (count from k l x y : ℕ) → k < l →
    slice_get (filter test (range_with_len from count)) k ≡ Some x →
    slice_get (filter test (range_with_len from count)) l ≡ Some y → x < y
rising test zero from k l x y less first second = absurd (cc)
rising test (suc count) from k l x y less first second =
    rising_by from x y (filter test (range_with_len (from + 1) count)) (test from)
    (λ l there. let found = passing test count (from + 1) l y there in omega (arith, found.above))
    (λ k l less first second. rising test count (from + 1) k l x y less first second) k l less first second

-- the act stands in `open`, if it is in no branch
listed_in : (entries : List Entry) (from k : ℕ) (e : Entry) → slice_get entries k ≡ Some e → e.parent ≡ None →
    (j : ℕ) × (slice_get (numbers_in None from entries) j ≡ Some (from + k))
listed_in [] from k e there outer = absurd (cc)
listed_in (first ∷ entries) from zero e there outer =
    let same : first ≡ e = cc in
    let here : same_place None first.parent ≡ true =
    ap (λ (it : Entry). same_place None it.parent) same ∙ ap (same_place None) outer in
    let none : from ≡ from + 0 = omega arith in (
      0,
      ap (λ b. slice_get (cond b (from ∷ numbers_in None (from + 1) entries) (numbers_in None (from + 1) entries)) 0) here
          ∙ ap Some none,
    )
listed_in (first ∷ entries) from (suc k) e there outer =
    let rest = listed_in entries (from + 1) k e there outer in
    let same : from + 1 + k ≡ from + suc k = omega arith in
    by_place (same_place None first.parent) rest.0 (rest.1 ∙ ap Some same)
  where
    by_place : (b : Bool) (j : ℕ) → slice_get (numbers_in None (from + 1) entries) j ≡ Some (from + suc k) →
        (i : ℕ) × (slice_get (cond b (from ∷ numbers_in None (from + 1) entries) (numbers_in None (from + 1) entries)) i
        ≡ Some (from + suc k))
    by_place true j is = (suc j, is)
    by_place false j is = (j, is)

-- what is known of the operation of a member
pub record IsMemberOp (script : ScriptModel) (op : ℕ) : Type 0 where
  pub there : op < length script.acts
  pub index : ℕ
  pub listed : slice_get (opening_of script) index ≡ Some op
  pub asked : accepted script op ≡ phase.Requested
  pub asynchronous : is_act is_posting script op ≡ false
  pub cell : has_cell script op ≡ true
  pub strand : home_lane script op ≡ 0

-- a wait or a read of `open` on strand 0
pub record IsPlain (made : Act) : Type 0 where
  pub operates : is_operation made ≡ true
  pub outside : is_inside None made ≡ false
  pub posts : is_posting made ≡ false
  pub lane : (n : ℕ) → lane_in None n made ≡ lane.Strand 0

is_plain : (count streams : ℕ) (made : Act) → IsKnown count streams made → is_operation made ≡ true → IsPlain made
is_plain count streams made (expires i after within short) op = absurd (cc)
is_plain count streams made (emit j types within few) op = absurd (cc)
is_plain count streams made (operation i (member.Wait after) within fit) op =
    record { operates = refl; outside = refl; posts = refl; lane = λ n. refl }
is_plain count streams made (operation i (member.Read stream size) within fit) op =
    record { operates = refl; outside = refl; posts = refl; lane = λ n. refl }

is_outer : (count streams : ℕ) (all : List Entry) (n : ℕ) (e : Entry) → IsAt count streams all n e →
    is_operation e.act ≡ true → e.parent ≡ None
is_outer count streams all n e at op = elim at.place as (λ s. e.parent ≡ None) [
  | inl none ↦ none
  | inr under ↦ absurd (not_emit e.act under.leaf op)
]
  where
    not_emit : (made : Act) → is_emit made ≡ true → is_operation made ≡ true → ⊥
    not_emit (act.Emit j types) leaf op = cc
    not_emit made leaf op = cc

module _ (g : Group) (fits : FitsGroup g) where
  abbrev script : ScriptModel
  script = script_of g

  made_by : (op : ℕ) (found : Option Entry) → slice_get script.acts op ≡ found → is_op script op ≡ true →
      op < length script.acts → IsMemberOp script op
  made_by op None stands is there =
      absurd (let none : is_op script op ≡ false = rw stands refl in let wrong : true ≡ false = sym is ∙ none in cc)
  made_by op (Some e) stands is there =
      let here : is_op script op ≡ is_operation e.act = rw stands refl in
      let operates : is_operation e.act ≡ true = sym here ∙ is in
      let at = each_at g fits op e stands in
      let outer = is_outer (length g.members) g.world.streams script.acts op e at operates in
      let plain = is_plain (length g.members) g.world.streams e.act at.known operates in
      let parent : parent_of script op ≡ None = (let is_parent : parent_of script op ≡ e.parent = rw stands refl in is_parent) ∙ outer in
      let inline : is_inline script op ≡ false =
      rw (stands, stands) (ap (λ place. is_inside (caller_lane (lanes_of script) place) e.act) outer ∙ plain.outside) in
      let posts : is_act is_posting script op ≡ false = rw stands plain.posts in
      let asks : is_act is_operation script op ≡ true = rw stands operates in
      let accept : Bool → Bool → Bool → ActPhase = λ first second third.
      cond first (phase.Inside) (cond second (phase.Ready (code.Ok) 0 (cause.Posted))
      (cond third (phase.Requested) (cond (is_act is_control script op) (phase.Asked) (phase.Absent)))) in
      let listed = listed_in script.acts 0 op e stands outer in
      let none : 0 + op ≡ op = omega arith in
      let found : slice_get (lanes_of script) op ≡ Some (lane_in (caller_lane (lanes_of script) e.parent) op e.act) =
      lane_at script.acts [] script.acts op op e (omega arith) stands (subst (HasParent script.acts op) (sym outer) tt) in
      let on : lane_of script op ≡ lane.Strand 0 =
      get_or_from_slice_get (lanes_of script) op (lane_in (caller_lane (lanes_of script) e.parent) op e.act) lane.Reactor found
      ∙ (ap (λ place. lane_in (caller_lane (lanes_of script) place) op e.act) outer ∙ plain.lane op) in
      record {
        there = there;
        index = listed.0;
        listed = listed.1 ∙ ap Some none;
        asked = ap (λ b. accept b (is_act is_posting script op) (is_act is_operation script op)) inline
            ∙ (ap (λ b. accept false b (is_act is_operation script op)) posts ∙ ap (λ b. accept false false b) asks);
        asynchronous = posts;
        cell = ap (λ b. b && not (is_inline script op)) is ∙ ap not inline;
        strand = ap (lane_number script) on;
      }

  pub member_op : (k op : ℕ) → slice_get (member_ops script) k ≡ Some op → IsMemberOp script op
  member_op k op is =
      let passed = passing (is_op script) (length script.acts) 0 k op is in
      made_by op (slice_get script.acts op) refl passed.passes (omega (arith, passed.below))

-- an operation is one member's
pub members_apart : (script : ScriptModel) (k l x y : ℕ) → k < l → slice_get (member_ops script) k ≡ Some x →
    slice_get (member_ops script) l ≡ Some y → x < y
members_apart script k l x y less first second =
    rising (is_op script) (length script.acts) 0 k l x y less first second
