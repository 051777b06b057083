-- An operation executes on a lane that isn't the reactor's: its strand, its private place, or where
-- the handler executes that calls it.
use Rattle.std.proofs.Common.{◌≡◌, ◌≢◌, ℕ, zero, suc, ◌+◌, ◌<◌, List, [], ◌∷◌, ◌++◌, Bool, true, false, Option, Some, None, length, refl, sym, ap, subst, ◌∙◌, arith, length-append}
use Rattle.std.specs.Prelude.{map, slice_get, if◌then◌else◌}
use Rattle.std.specs.List.{filter, range_with_len}
use Rattle.std.proofs.lemmas.Option.{get_or_from_slice_get}
use Rattle.asio_types.specs.declared.code.Class.{Class}
use Rattle.asio_types.specs.declared.number.Lane.{Lane}
use Rattle.asio_types.specs.declared.number.Lane.TheVariants as lane
use Rattle.session_script.specs.Acts.{bodies_of}
use Rattle.session_script.specs.declared.act.Act.{Act}
use Rattle.session_script.specs.declared.act.Act.TheVariants as act
use Rattle.session_script.specs.Script.{Place, Entry, ScriptModel, is_op, is_operation, is_stop, parent_of}
use Rattle.session_script.specs.Lanes.{caller_lane, is_inside, lane_in, lane_of, lanes_of, place_lane, strand_of}
use Rattle.session_script.specs.WellFormed.{HasParent, has_branch}
use Rattle.lane_map.specs.LaneNumbers.{has_own_lane, home_lane, lane_list, reactor_lane}
use Rattle.lane_map.proofs.NumberLemmas.{lane_count}
use Rattle.lane_map.proofs.PlaceLemmas.{get_behind, lane_at}

-- what has a body is an operation
has_body : (made : Act) (class : Class) → has_branch (bodies_of made) class ≡ true → is_operation made ≡ true
has_body (act.Post p) class is = refl
has_body (act.Defer p) class is = refl
has_body (act.Dispatch p) class is = refl
has_body (act.Expires p q) class is = absurd (cc is)
has_body (act.ExpiresAt p q) class is = absurd (cc is)
has_body (act.Wait p q r s) class is = refl
has_body (act.Cancel p) class is = absurd (cc is)
has_body (act.CancelOne p) class is = absurd (cc is)
has_body (act.Emit p q) class is = absurd (cc is)
has_body (act.ReadSome p q r s t) class is = refl
has_body (act.ReadAll p q r s t) class is = refl
has_body (act.Until p q r s t u) class is = refl
has_body (act.WriteSome p q r s t) class is = refl
has_body (act.WriteAll p q r s t) class is = refl
has_body (act.Close p) class is = absurd (cc is)
has_body (act.Release p) class is = absurd (cc is)
has_body act.Stop class is = absurd (cc is)

place_apart : (n : ℕ) (strand : Option ℕ) → place_lane n strand ≢ lane.Reactor
place_apart n None same = cc same
place_apart n (Some strand) same = cc same

-- an act's lane is no reactor's where its caller's isn't
abbrev Apart : Option Lane → Type 0
Apart None = Unit {0}
Apart (Some at) = at ≢ lane.Reactor

either_apart : (test : Bool) (one other : Lane) → one ≢ lane.Reactor → other ≢ lane.Reactor →
    (if test then one else other) ≢ lane.Reactor
either_apart true one other first second = first
either_apart false one other first second = second

in_apart : (caller : Option Lane) (n : ℕ) (made : Act) → Apart caller → is_operation made ≡ true →
    lane_in caller n made ≢ lane.Reactor
in_apart None n made apart is =
    subst (λ (b : Bool).
    (if false then lane.Reactor else (if b then place_lane n (strand_of made)
    else (if is_stop made then lane.Reactor else lane.Reactor))) ≢ lane.Reactor)
    (sym is) (place_apart n (strand_of made))
in_apart (Some at) n made apart is =
    either_apart (is_inside (Some at) made) at _ apart
    (subst (λ (b : Bool).
    (if b then place_lane n (strand_of made) else (if is_stop made then at else lane.Reactor)) ≢ lane.Reactor)
    (sym is) (place_apart n (strand_of made)))

module _ (script : ScriptModel) (ordered : (n : ℕ) → HasParent script.acts n (parent_of script n)) where
  caller_apart : (found : Option Lane) (p : ℕ) → slice_get (lanes_of script) p ≡ found →
      lane_of script p ≢ lane.Reactor → Apart found
  caller_apart None p is apart = tt
  caller_apart (Some at) p is apart =
      λ same. apart (get_or_from_slice_get (lanes_of script) p at lane.Reactor is ∙ same)

  abbrev IsApart : ℕ → Type 0
  IsApart n = is_op script n ≡ true → lane_of script n ≢ lane.Reactor

  parent_apart : (n : ℕ) (place : Place) → HasParent script.acts n place → ((p : ℕ) → p < n → IsApart p) →
      Apart (caller_lane (lanes_of script) place)
  parent_apart n None parent before = tt
  parent_apart n (Some place) parent before =
      let entry : Entry = parent.1.0 in
      let is : is_op script place.0 ≡ true = rw parent.1.1 (has_body entry.act place.1 parent.1.2) in
      caller_apart (slice_get (lanes_of script) place.0) place.0 refl (before place.0 parent.0 is)

  apart_here : (n : ℕ) → ((p : ℕ) → p < n → IsApart p) → (found : Option Entry) →
      slice_get script.acts n ≡ found → IsApart n
  apart_here n before None none is = let e : is_op script n ≡ false = rw none refl in absurd (cc (e, is))
  apart_here n before (Some e) stands is =
      let is_parent : parent_of script n ≡ e.parent = rw stands refl in
      let here : is_op script n ≡ is_operation e.act = rw stands refl in
      let parent : HasParent script.acts n e.parent = subst (HasParent script.acts n) is_parent (ordered n) in
      let found = lane_at script.acts [] script.acts n n e (omega arith) stands parent in
      let lane_is : lane_of script n ≡ lane_in (caller_lane (lanes_of script) e.parent) n e.act =
      get_or_from_slice_get (lanes_of script) n _ lane.Reactor found in
      λ same.
      in_apart (caller_lane (lanes_of script) e.parent) n e.act (parent_apart n e.parent parent before) (sym here ∙ is)
      (sym lane_is ∙ same)

  apart_below : (bound n : ℕ) → n < bound → IsApart n
  apart_below zero n less = absurd (omega arith)
  apart_below (suc bound) n less =
      apart_here n (λ p before. apart_below bound p (omega arith)) (slice_get script.acts n) refl

  pub operation_home : (n : ℕ) → slice_get (lane_list script) (home_lane script n) ≡ Some (lane_of script n) →
      home_lane script n < length (lane_list script) → is_op script n ≡ true →
      home_lane script n < reactor_lane script
  operation_home n stands within is =
      let front : List Lane =
      map lane.Strand (range_with_len 0 script.strands)
      ++ map lane.Own (filter (has_own_lane script) (range_with_len 0 (length script.acts))) in
      let count = lane_count script in
      let long : length (lane_list script) ≡ length front + 1 = length-append front (lane.Reactor ∷ []) in
      let last : slice_get (lane_list script) (reactor_lane script) ≡ Some lane.Reactor =
      get_behind front (lane.Reactor ∷ []) 0 (reactor_lane script) (omega (arith, count, long)) in
      let apart : home_lane script n ≢ reactor_lane script =
      λ same.
      apart_below (suc n) n (omega arith) is
      (some_same _ _ (sym stands ∙ ap (slice_get (lane_list script)) same ∙ last)) in
      omega (arith, count, within, apart)
    where
      some_same : (a b : Lane) → Some a ≡ Some b → a ≡ b
      some_same a b same = cc same
