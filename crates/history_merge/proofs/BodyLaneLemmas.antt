-- All that an execution calls, and begins inside its calls, belongs to its lane.
use Rattle.std.proofs.Common.{◌≡◌, ℕ, suc, Bool, true, false, cond, List, [], ◌∷◌, ◌++◌, Option, Some, None, refl, sym, ap, subst, ◌∙◌, arith}
use Rattle.std.specs.Prelude.{slice_get}
use Rattle.std.specs.Option.{unwrap_or}
use Rattle.std.proofs.lemmas.Option.{get_or_from_slice_get, unwrap_or-slice_get}
use Rattle.asio_types.specs.Code.{class_of_code}
use Rattle.asio_types.specs.declared.code.Class.{Class}
use Rattle.asio_types.specs.declared.code.Class.TheVariants as class
use Rattle.asio_types.specs.declared.code.Code.{Code}
use Rattle.asio_types.specs.declared.code.Code.TheVariants as code
use Rattle.asio_types.specs.declared.event.Event.{Event}
use Rattle.asio_types.specs.declared.event.Event.TheVariants as event
use Rattle.asio_types.specs.declared.number.Lane.{Lane}
use Rattle.asio_types.specs.declared.number.Lane.TheVariants as lane
use Rattle.op_handlers.specs.declared.call.Call.{Call}
use Rattle.session_script.specs.Script.{Entry, Place, ScriptModel, branch_of, parent_of, stops}
use Rattle.session_script.specs.Lanes.{caller_lane, is_inline, is_inside, lane_in, lane_of, lane_or_reactor, lanes_of}
use Rattle.session_script.specs.WellFormed.{HasParent, IsWellFormed}
use Rattle.session_script.specs.declared.act.Act.{Act}
use Rattle.session_script.proofs.PlacingLemmas.{has_parent}
use Rattle.strand_core.specs.Execution.{AreCalls, IsWholeExecution, events_of, inside, no_act, outside}
use Rattle.strand_core.specs.declared.posted.Posted.{Posted}
use Rattle.strand_core.specs.declared.posted.Posted.TheVariants as posted
use Rattle.execution_laws.proofs.PlaceLemmas.{parent_is}
use Rattle.lane_map.proofs.PlaceLemmas.{lane_at}
use Rattle.history_merge.specs.Among.{IsPlaceOn}

pub or_reactor : (found : Option Lane) → lane_or_reactor found ≡ unwrap_or found lane.Reactor
or_reactor None = refl
or_reactor (Some found) = refl

-- what executes inside its call has a handler that calls it, and that one's lane
place_by : (script : ScriptModel) (place : Place) (it : Act) (own : Lane) →
    is_inside (caller_lane (lanes_of script) place) it ≡ true →
    own ≡ lane_or_reactor (caller_lane (lanes_of script) place) → IsPlaceOn script own place
place_by script None it own entered is = absurd (cc)
place_by script (Some place) it own entered is =
    sym (is ∙ (or_reactor (slice_get (lanes_of script) place.0)
    ∙ unwrap_or-slice_get (lanes_of script) place.0 lane.Reactor))

module _ (script : ScriptModel) (well : IsWellFormed script) (n : ℕ) (entered : is_inline script n ≡ true) where
  inline_by : (found : Option Entry) → slice_get script.acts n ≡ found →
      IsPlaceOn script (lane_of script n) (parent_of script n)
  inline_by None stands =
      absurd (let none : is_inline script n ≡ false = rw stands refl in let wrong : true ≡ false = sym entered ∙ none in cc)
  inline_by (Some e) stands =
      let is_parent : parent_of script n ≡ e.parent = rw stands refl in
      let opened : is_inline script n ≡ is_inside (caller_lane (lanes_of script) e.parent) e.act =
      rw (stands, stands) refl in
      let is_in : is_inside (caller_lane (lanes_of script) e.parent) e.act ≡ true = sym opened ∙ entered in
      let parent : HasParent script.acts n e.parent =
      subst (HasParent script.acts n) is_parent (has_parent script n well) in
      let found : slice_get (lanes_of script) n ≡ Some (lane_in (caller_lane (lanes_of script) e.parent) n e.act) =
      lane_at script.acts [] script.acts n n e (omega arith) stands parent in
      let called : lane_in (caller_lane (lanes_of script) e.parent) n e.act
      ≡ lane_or_reactor (caller_lane (lanes_of script) e.parent) = rw is_in refl in
      subst (IsPlaceOn script (lane_of script n)) (sym is_parent)
      (place_by script e.parent e.act (lane_of script n) is_in
      (get_or_from_slice_get (lanes_of script) n (lane_in (caller_lane (lanes_of script) e.parent) n e.act) lane.Reactor found
      ∙ called))

  pub inline_place : IsPlaceOn script (lane_of script n) (parent_of script n)
  inline_place = inline_by (slice_get script.acts n) refl

pub same_on : (script : ScriptModel) (one other : Lane) (place : Place) → IsPlaceOn script one place →
    IsPlaceOn script other place → one ≡ other
same_on script one other None on also = absurd on
same_on script one other (Some place) on also = sym on ∙ also

-- an event of an execution of this lane, behind its begin
abbrev pub IsOwn : ScriptModel → Lane → Event → Type 0
IsOwn script lane (event.Call a) = IsPlaceOn script lane (parent_of script a)
IsOwn script lane (event.Stop (Some a)) = IsPlaceOn script lane (parent_of script a)
IsOwn script lane (event.Back a) = IsPlaceOn script lane (parent_of script a)
IsOwn script lane (event.Begin o code size) = (is_inline script o ≡ true) × (lane_of script o ≡ lane)
IsOwn script lane (event.End o mark) = lane_of script o ≡ lane
IsOwn script lane _ = ⊥

abbrev pub AreOwn : ScriptModel → Lane → List Event → Type 0
AreOwn script lane [] = Unit {0}
AreOwn script lane (shown ∷ events) = IsOwn script lane shown × AreOwn script lane events

-- the same of calls
abbrev IsOwnCall : ScriptModel → Lane → Posted → Type 0
IsOwnCall script lane (posted.Begin op code size begun) = (is_inline script op ≡ true) × (lane_of script op ≡ lane)
IsOwnCall script lane (posted.Call act) = IsPlaceOn script lane (parent_of script act)
IsOwnCall script lane (posted.Back act) = IsPlaceOn script lane (parent_of script act)
IsOwnCall script lane (posted.End op ran) = lane_of script op ≡ lane

abbrev AreOwnCalls : ScriptModel → Lane → List Posted → Type 0
AreOwnCalls script lane [] = Unit {0}
AreOwnCalls script lane (made ∷ calls) = IsOwnCall script lane made × AreOwnCalls script lane calls

module _ (script : ScriptModel) (well : IsWellFormed script) (HasMark : Call → ℕ → Type 0) (of : Lane) where
  own_both : (xs ys : List Posted) → AreOwnCalls script of xs → AreOwnCalls script of ys →
      AreOwnCalls script of (xs ++ ys)
  own_both [] ys first second = second
  own_both (x ∷ xs) ys first second = (first.0, own_both xs ys first.1 second)

  -- the acts of a branch are called by its handler
  of_branch : (op : ℕ) (class : Class) → lane_of script op ≡ of → (i n : ℕ) →
      slice_get (branch_of script op class) i ≡ Some n → IsPlaceOn script of (parent_of script n)
  of_branch op class on i n at =
      subst (IsPlaceOn script of) (sym (parent_is script well (Some (op, class)) n i at)) on

  own_calls : {acts : List ℕ} {calls : List Posted} → AreCalls script HasMark acts calls →
      ((i n : ℕ) → slice_get acts i ≡ Some n → IsPlaceOn script of (parent_of script n)) → AreOwnCalls script of calls
  own_calls no_act each = tt
  own_calls (outside {act} {acts} {calls} isnt more) each =
      (each 0 act refl, (each 0 act refl, own_calls more (λ i n at. each (suc i) n at)))
  own_calls (inside {act} {begun} {mark} {acts} {body} {calls} is marked inner more) each =
      let on = each 0 act refl in
      let inline_of : lane_of script act ≡ of =
      same_on script (lane_of script act) of (parent_of script act) (inline_place script well act is) on in
      let end : Posted = posted.End act (record { mark = mark; class = class_of_code code.Ok; begun = begun }) in (
        on,
        (
          (is, inline_of),
          own_both (body ++ end ∷ []) (posted.Back act ∷ calls)
              (own_both body (end ∷ []) (own_calls inner (of_branch act class.Ok inline_of)) (inline_of, tt))
              (on, own_calls more (λ i n at. each (suc i) n at)),
        ),
      )

  called_events : (stops : Bool) (a : ℕ) (events : List Event) → IsPlaceOn script of (parent_of script a) →
      AreOwn script of events →
      AreOwn script of (cond stops (event.Call a ∷ event.Stop (Some a) ∷ events) (event.Call a ∷ events))
  called_events true a events on rest = (on, (on, rest))
  called_events false a events on rest = (on, rest)

  own_events : (calls : List Posted) → AreOwnCalls script of calls → AreOwn script of (events_of script calls)
  own_events [] own = tt
  own_events (posted.Begin op code size begun ∷ calls) own = (own.0, own_events calls own.1)
  own_events (posted.Call act ∷ calls) own =
      called_events (stops script act) act (events_of script calls) own.0 (own_events calls own.1)
  own_events (posted.Back act ∷ calls) own = (own.0, own_events calls own.1)
  own_events (posted.End op ran ∷ calls) own = (own.0, own_events calls own.1)

  -- what a whole execution shows behind its begin
  pub execution_is_own : (op : ℕ) (given : Code) (size : ℕ) (calls : List Posted) (own : List Event) →
      lane_of script op ≡ of → IsWholeExecution script HasMark op given size calls →
      events_of script calls ≡ event.Begin op given size ∷ own → AreOwn script of own
  execution_is_own op given size calls own on whole shown =
      let end : Posted =
      posted.End op (record { mark = whole.mark; class = class_of_code given; begun = whole.begun }) in
      let events : event.Begin op given size ∷ events_of script (whole.body ++ end ∷ [])
      ≡ event.Begin op given size ∷ own = sym (ap (events_of script) whole.is) ∙ shown in
      let same : events_of script (whole.body ++ end ∷ []) ≡ own = cc in
      subst (AreOwn script of) same
      (own_events (whole.body ++ end ∷ []) (own_both whole.body (end ∷ [])
      (own_calls whole.acts (of_branch op (class_of_code given) on)) (on, tt)))
