-- The calls of `open`, one after another, and what calls show.
use Rattle.std.proofs.Common.{◌≡◌, ℕ, ◌+◌, Bool, true, false, cond, List, [], ◌∷◌, ◌++◌, length, refl, ap, ◌∙◌, arith, length-append, zero, suc, ◌<◌, Some, None}
use Rattle.std.specs.Prelude.{Some, slice_get, sum_by}
use Rattle.asio_types.specs.declared.event.Event.{Event}
use Rattle.asio_types.specs.declared.event.Event.TheVariants as event
use Rattle.session_script.specs.Script.{ScriptModel, stops, Entry, Place, numbers_in, opening_of, parent_of, same_place}
use Rattle.strand_core.specs.Execution.{events_of, AnyMark, AreCalls, no_act, outside}
use Rattle.strand_core.specs.declared.posted.Posted.{Posted}
use Rattle.strand_core.specs.declared.posted.Posted.TheVariants as posted
use Rattle.lane_logs.specs.Calls.{called_each}
use Rattle.lane_logs.specs.Stand.{draws_of_call}
use Rattle.std.proofs.lemmas.List.Sums.{sum_by-cons}
use Rattle.session_script.specs.Lanes.{caller_lane, is_inline, is_inside, lanes_of}

called_append : (stops : Bool) (first second : Event) (xs ys all : List Event) → all ≡ xs ++ ys →
    cond stops (first ∷ second ∷ all) (first ∷ all) ≡ cond stops (first ∷ second ∷ xs) (first ∷ xs) ++ ys
called_append true first second xs ys all same = ap (λ events. first ∷ second ∷ events) same
called_append false first second xs ys all same = ap (λ events. first ∷ events) same

pub shown-append : (script : ScriptModel) (xs ys : List Posted) →
    events_of script (xs ++ ys) ≡ events_of script xs ++ events_of script ys
shown-append script [] ys = refl
shown-append script (posted.Begin op code size begun ∷ xs) ys =
    ap (λ events. event.Begin op code size ∷ events) (shown-append script xs ys)
shown-append script (posted.Call act ∷ xs) ys =
    called_append (stops script act) (event.Call act) (event.Stop (Some act)) (events_of script xs)
    (events_of script ys) (events_of script (xs ++ ys)) (shown-append script xs ys)
shown-append script (posted.Back act ∷ xs) ys = ap (λ events. event.Back act ∷ events) (shown-append script xs ys)
shown-append script (posted.End op ran ∷ xs) ys =
    ap (λ events. event.End op ran.mark ∷ events) (shown-append script xs ys)

pub shown_sum : (script : ScriptModel) (xs ys : List Posted) →
    length (events_of script (xs ++ ys)) ≡ length (events_of script xs) + length (events_of script ys)
shown_sum script xs ys =
    ap length (shown-append script xs ys) ∙ length-append (events_of script xs) (events_of script ys)

-- an act of `open`: an act of the script, which no handler calls
pub record IsOpeningAct (entries : List Entry) (n act : ℕ) : Type 0 where
  pub at : ℕ
  pub is : act ≡ n + at
  pub entry : Entry
  pub there : slice_get entries at ≡ Some entry
  pub within : at < length entries
  pub outermost : entry.parent ≡ None

open_place : (place : Place) → same_place None place ≡ true → place ≡ None
open_place None same = refl
open_place (Some at) same = absurd (cc same)

opening_later : (entry : Entry) (entries : List Entry) (n act : ℕ) → IsOpeningAct entries (n + 1) act →
    IsOpeningAct (entry ∷ entries) n act
opening_later entry entries n act later =
    record {
      at = suc later.at;
      is = omega (arith, later.is);
      entry = later.entry;
      there = later.there;
      within = omega (arith, later.within);
      outermost = later.outermost;
    }

opening_by : (here : Bool) (entry : Entry) (entries : List Entry) (numbers : List ℕ) (n act i : ℕ) →
    same_place None entry.parent ≡ here →
    ((j : ℕ) → slice_get numbers j ≡ Some act → IsOpeningAct entries (n + 1) act) →
    slice_get (cond here (n ∷ numbers) numbers) i ≡ Some act → IsOpeningAct (entry ∷ entries) n act
opening_by true entry entries numbers n act zero here rest is =
    let same : n ≡ act = cc in
    record {
      at = 0;
      is = omega (arith, same);
      entry = entry;
      there = refl;
      within = omega arith;
      outermost = open_place entry.parent here;
    }
opening_by true entry entries numbers n act (suc i) here rest is = opening_later entry entries n act (rest i is)
opening_by false entry entries numbers n act i here rest is = opening_later entry entries n act (rest i is)

opening_in : (entries : List Entry) (n act i : ℕ) → slice_get (numbers_in None n entries) i ≡ Some act →
    IsOpeningAct entries n act
opening_in [] n act i is = absurd (cc)
opening_in (entry ∷ entries) n act i is =
    opening_by (same_place None entry.parent) entry entries (numbers_in None (n + 1) entries) n act i refl
    (λ j at. opening_in entries (n + 1) act j at) is

module _ (script : ScriptModel) (i act : ℕ) (is : slice_get (opening_of script) i ≡ Some act) where
  opens : IsOpeningAct script.acts 0 act
  opens = opening_in script.acts 0 act i is

  pub opening_known : act < length script.acts
  opening_known = omega (arith, opens.is, opens.within)

  pub opening_outside : is_inline script act ≡ false
  opening_outside =
      let same : act ≡ opens.at = omega (arith, opens.is) in
      let parent : parent_of script opens.at ≡ None = rw opens.there opens.outermost in
      let itself : is_inline script opens.at ≡ false =
      rw opens.there (ap (λ place. is_inside (caller_lane (lanes_of script) place) opens.entry.act) parent) in
      ap (is_inline script) same ∙ itself

called_outside : (script : ScriptModel) (acts : List ℕ) →
    ((i act : ℕ) → slice_get acts i ≡ Some act → is_inline script act ≡ false) →
    AreCalls script AnyMark acts (called_each acts)
called_outside script [] each = no_act
called_outside script (act ∷ acts) each =
    outside (each 0 act refl) (called_outside script acts (λ i other is. each (suc i) other is))

-- the calls of `open` are those of its acts
pub opening_calls : (script : ScriptModel) → AreCalls script AnyMark (opening_of script) (called_each (opening_of script))
opening_calls script = called_outside script (opening_of script) (λ i act is. opening_outside script i act is)

pub called-append : (xs ys : List ℕ) → called_each (xs ++ ys) ≡ called_each xs ++ called_each ys
called-append [] ys = refl
called-append (act ∷ xs) ys = ap (λ calls. posted.Call act ∷ posted.Back act ∷ calls) (called-append xs ys)

-- how many events a call shows with its back
pub drawn_by : (script : ScriptModel) (act : ℕ) → length (events_of script (posted.Call act ∷ [])) + 1 ≡ draws_of_call script act
drawn_by script act = by_test (stops script act) refl
  where
    by_test : (b : Bool) → stops script act ≡ b →
        length (events_of script (posted.Call act ∷ [])) + 1 ≡ draws_of_call script act
    by_test true is = rw is refl
    by_test false is = rw is refl

pub called_sum : (script : ScriptModel) (acts : List ℕ) →
    length (events_of script (called_each acts)) ≡ sum_by (draws_of_call script) acts
called_sum script [] = refl
called_sum script (act ∷ acts) =
    let first : length (events_of script (called_each (act ∷ acts)))
    ≡ length (events_of script (posted.Call act ∷ [])) + length (events_of script (posted.Back act ∷ called_each acts)) =
    shown_sum script (posted.Call act ∷ []) (posted.Back act ∷ called_each acts) in
    let rest : length (events_of script (called_each acts)) ≡ sum_by (draws_of_call script) acts =
    called_sum script acts in
    let split : sum_by (draws_of_call script) (act ∷ acts)
    ≡ draws_of_call script act + sum_by (draws_of_call script) acts =
    sum_by-cons (draws_of_call script) act acts in
    omega (arith, first, rest, split, drawn_by script act)
