-- What may begin on a lane stays so by what other lanes do.
use Rattle.std.proofs.Common.{◌≡◌, ◌≢◌, ℕ, zero, suc, Bool, true, false, cond, List, [], ◌∷◌, Option, None, Some, inl, inr, map, refl, sym, ap, subst, ◌∙◌, arith}
use Rattle.std.specs.Prelude.{slice_get}
use Rattle.std.specs.List.{slice_index_or}
use Rattle.std.proofs.lemmas.List.{get_or-set_other}
use Rattle.std.proofs.lemmas.Option.{get_or_from_slice_get, unwrap_or-slice_get}
use Rattle.asio_types.specs.declared.code.Class.{Class}
use Rattle.asio_types.specs.declared.code.Code.{Code}
use Rattle.asio_types.specs.declared.event.Event.{Event}
use Rattle.asio_types.specs.declared.event.Event.TheVariants as event
use Rattle.asio_types.specs.declared.number.Lane.{Lane}
use Rattle.asio_types.specs.declared.number.Lane.TheVariants as lane
use Rattle.session_script.specs.Lanes.{caller_lane, is_inline, lane_in, lane_of, lane_or_reactor, lanes_of}
use Rattle.session_script.specs.Script.{Entry, Place, ScriptModel, is_stop, parent_of}
use Rattle.session_script.specs.WellFormed.{HasParent, IsWellFormed}
use Rattle.session_script.specs.declared.act.Act.{Act}
use Rattle.session_script.specs.declared.act.Act.TheVariants as act
use Rattle.session_script.proofs.PlacingLemmas.{has_parent}
use Rattle.history_rules.specs.Kinds.{is_act}
use Rattle.history_rules.specs.State.{Allowances}
use Rattle.history_rules.specs.Stopping.{after_stop_on, allowance_of, at_most_one, less_one, with_allowance}
use Rattle.history_rules.specs.declared.phase.Allowance.{Allowance}
use Rattle.history_rules.specs.declared.phase.Allowance.TheVariants as allowance
use Rattle.lane_map.specs.LaneNumbers.{lane_number}
use Rattle.lane_map.proofs.PlaceLemmas.{lane_at}
use Rattle.history_merge.specs.Among.{IsPlaceOn}
use Rattle.history_merge.proofs.BodyLaneLemmas.{IsOwn, or_reactor}
use Rattle.history_merge.proofs.FrameLemmas.{allowed_after, limited_to, spent}
use Rattle.history_merge.proofs.ShowsLemmas.{IsOfExecution, IsOfTurn}

-- what begins on one lane spends nothing of another
abbrev pub IsApart : Lane → Lane → Type 0
IsApart (lane.Strand i) (lane.Strand j) = i ≢ j
IsApart lane.Reactor lane.Reactor = ⊥
IsApart _ _ = Unit {0}

pub apart_by : (script : ScriptModel) (of at : Lane) → lane_number script of ≢ lane_number script at → IsApart of at
apart_by script (lane.Strand i) (lane.Strand j) other = other
apart_by script lane.Reactor lane.Reactor other = absurd (other refl)
apart_by script (lane.Strand i) (lane.Own p) other = tt
apart_by script (lane.Strand i) lane.Reactor other = tt
apart_by script (lane.Own o) (lane.Strand j) other = tt
apart_by script (lane.Own o) (lane.Own p) other = tt
apart_by script (lane.Own o) lane.Reactor other = tt
apart_by script lane.Reactor (lane.Strand j) other = tt
apart_by script lane.Reactor (lane.Own p) other = tt

with_apart : (of at : Lane) (new : Allowance) (allowances : Allowances) → IsApart of at →
    allowance_of (with_allowance of new allowances) at ≡ allowance_of allowances at
with_apart (lane.Strand i) (lane.Strand j) new allowances other =
    get_or-set_other allowances.strands i j new allowance.Nothing (λ same. other (sym same))
with_apart (lane.Strand i) (lane.Own p) new allowances other = refl
with_apart (lane.Strand i) lane.Reactor new allowances other = refl
with_apart (lane.Own o) at new allowances other = refl
with_apart lane.Reactor (lane.Strand j) new allowances other = refl
with_apart lane.Reactor (lane.Own p) new allowances other = refl
with_apart lane.Reactor lane.Reactor new allowances other = absurd other

-- a stop of another lane leaves one
map_at : (xs : List Allowance) (i : ℕ) →
    slice_index_or (map at_most_one xs) i allowance.Nothing ≡ at_most_one (slice_index_or xs i allowance.Nothing)
map_at [] i = refl
map_at (x ∷ xs) zero = refl
map_at (x ∷ xs) (suc i) = map_at xs i

abbrev each_less : Allowances → Allowances
each_less allowances = record {
  strands = map at_most_one allowances.strands;
  own = at_most_one allowances.own;
  reactor = at_most_one allowances.reactor;
}

less_at : (at : Lane) (allowances : Allowances) →
    allowance_of (each_less allowances) at ≡ at_most_one (allowance_of allowances at)
less_at (lane.Strand i) allowances = map_at allowances.strands i
less_at (lane.Own p) allowances = refl
less_at lane.Reactor allowances = refl

some_left : (of : Allowance) → of ≢ allowance.Nothing → at_most_one of ≢ allowance.Nothing
some_left allowance.Free some none = cc
some_left allowance.One some none = cc
some_left allowance.Nothing some none = some refl

-- what may begin
abbrev pub May : Lane → Allowances → Type 0
May at allowances = allowance_of allowances at ≢ allowance.Nothing

spent_may : (of at : Lane) (allowances : Allowances) → IsApart of at → May at allowances → May at (spent of allowances)
spent_may of at allowances other may none =
    may (sym (with_apart of at (less_one (allowance_of allowances of)) allowances other) ∙ none)

stop_may : (of at : Lane) (allowances : Allowances) → IsApart of at → May at allowances →
    May at (after_stop_on of allowances)
stop_may of at allowances other may none =
    some_left (allowance_of allowances at) may
    (sym (less_at at allowances)
    ∙ (sym (with_apart of at allowance.Nothing (each_less allowances) other) ∙ none))

-- a stop is of the lane of the handler that makes it
stop_in : (caller : Option Lane) (n : ℕ) (it : Act) → is_stop it ≡ true → lane_in caller n it ≡ lane_or_reactor caller
stop_in None n act.Stop is = refl
stop_in (Some caller) n act.Stop is = refl
stop_in caller n other is = absurd (cc)

module _ (script : ScriptModel) (well : IsWellFormed script) where
  pub stop_lane : (a : ℕ) (at : ℕ × Class) → is_act is_stop script a ≡ true → parent_of script a ≡ Some at →
      lane_of script a ≡ lane_of script at.0
  stop_lane a at stops under = by_entry (slice_get script.acts a) refl
    where
      by_entry : (found : Option Entry) → slice_get script.acts a ≡ found → lane_of script a ≡ lane_of script at.0
      by_entry None stands =
          absurd (let none : is_act is_stop script a ≡ false = rw stands refl in
          let wrong : true ≡ false = sym stops ∙ none in cc)
      by_entry (Some e) stands =
          let is_parent : parent_of script a ≡ e.parent = rw stands refl in
          let place : e.parent ≡ Some at = sym is_parent ∙ under in
          let is : is_act is_stop script a ≡ is_stop e.act = rw stands refl in
          let parent : HasParent script.acts a e.parent =
          subst (HasParent script.acts a) is_parent (has_parent script a well) in
          let found : slice_get (lanes_of script) a ≡ Some (lane_in (caller_lane (lanes_of script) e.parent) a e.act) =
          lane_at script.acts [] script.acts a a e (omega arith) stands parent in
          get_or_from_slice_get (lanes_of script) a (lane_in (caller_lane (lanes_of script) e.parent) a e.act) lane.Reactor
          found
          ∙ (stop_in (caller_lane (lanes_of script) e.parent) a e.act (sym is ∙ stops)
          ∙ (ap (λ place. lane_or_reactor (caller_lane (lanes_of script) place)) place
          ∙ (or_reactor (slice_get (lanes_of script) at.0) ∙ unwrap_or-slice_get (lanes_of script) at.0 lane.Reactor)))

  module _ (op : ℕ) (at : Lane) (other : IsApart (lane_of script op) at) (allowances : Allowances)
      (may : May at allowances) where
    back_by : (a : ℕ) (place : Place) → parent_of script a ≡ place → (stops : Bool) → is_act is_stop script a ≡ stops →
        IsPlaceOn script (lane_of script op) place → May at (limited_to script a place stops allowances)
    back_by a place under false stops on = may
    back_by a None under true stops on = absurd on
    back_by a (Some from) under true stops on =
        stop_may (lane_of script a) at allowances
        (subst (λ of. IsApart of at) (sym (stop_lane a from stops under ∙ on)) other) may

    begin_by : (o : ℕ) (inline : Bool) → (inline ≡ false → IsApart (lane_of script o) at) →
        May at (cond inline allowances (spent (lane_of script o) allowances))
    begin_by o true apart = may
    begin_by o false apart = spent_may (lane_of script o) at allowances (apart refl) may

    -- an event of an execution of another lane
    own_by : (shown : Event) → IsOwn script (lane_of script op) shown → May at (allowed_after script shown allowances)
    own_by (event.Call a) own = may
    own_by (event.Stop (Some a)) own = may
    own_by (event.Stop None) own = may
    own_by (event.Back a) own = back_by a (parent_of script a) refl (is_act is_stop script a) refl own
    own_by (event.Begin o given size) own =
        begin_by o (is_inline script o) (λ isnt. absurd (let wrong : true ≡ false = sym own.0 ∙ isnt in cc))
    own_by (event.End o mark) own = may
    own_by shown own = absurd own

    pub execution_by : (given : Code) (size : ℕ) (shown : Event) → IsOfExecution script op given size shown →
        May at (allowed_after script shown allowances)
    execution_by given size shown (inl is) =
        subst (λ shown. May at (allowed_after script shown allowances)) (sym is)
        (begin_by op (is_inline script op) (λ isnt. other))
    execution_by given size shown (inr own) = own_by shown own

  -- an event of a turn of the reactor, to a lane that isn't its own
  pub turn_by : (at : Lane) → IsApart lane.Reactor at → (allowances : Allowances) → May at allowances → (shown : Event) →
      IsOfTurn shown → May at (allowed_after script shown allowances)
  turn_by at other allowances may (event.Take a) is = spent_may lane.Reactor at allowances other may
  turn_by at other allowances may (event.Tick now) is = spent_may lane.Reactor at allowances other may
  turn_by at other allowances may event.Last is = spent_may lane.Reactor at allowances other may
  turn_by at other allowances may (event.Done o given size) is = may
  turn_by at other allowances may event.Fault is = may
  turn_by at other allowances may shown is = absurd (cc)
