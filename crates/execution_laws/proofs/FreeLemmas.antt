-- Lanes are free unless the context is stopped.
use Rattle.std.proofs.Common.{◌≡◌, ℕ, zero, suc, List, [], ◌∷◌, get_or, length, map, replicate, set, refl, sym, ap, ◌∙◌, ◌<◌, ◌++◌, cond, Option, Some, None, subst, inl, inr, Bool, true, false}
use Rattle.std.proofs.lemmas.Bool.{cases_lt, or_parts}
use Rattle.std.proofs.lemmas.List.{get_or-replicate, get_or_past, length-map}
use Rattle.std.proofs.lemmas.List.Elements.{All-get_or, All-head, All-nil, All-push, All-tail}
use Rattle.std.proofs.lemmas.Option.{get_or_from_slice_get, slice_get-get_or, slice_get_within}
use Rattle.std.specs.List.{All}
use Rattle.std.specs.Prelude.{IfSome}
use Rattle.asio_types.specs.declared.number.Lane.{Lane}
use Rattle.asio_types.specs.declared.number.Lane.TheVariants as lane
use Rattle.session_script.specs.declared.act.Act.{Act}
use Rattle.session_script.specs.declared.act.Act.TheVariants as act
use Rattle.session_script.specs.Script.{Entry, Place, ScriptModel, is_operation, is_stop}
use Rattle.session_script.specs.Lanes.{caller_lane, is_inside, lane_in, lane_of, lane_or_reactor, lanes_after, lanes_of, place_lane, strand_of}
use Rattle.session_script.specs.WellFormed.{FitsAct, IsWellFormed, header_of}
use Rattle.history_rules.specs.Requests.{turn_begun}
use Rattle.history_rules.specs.Rounds.{after_restart}
use Rattle.history_rules.specs.State.{Allowances, ContextState, all_lanes}
use Rattle.history_rules.specs.Stopping.{MayStart, allowance_of, less_one, with_allowance}
use Rattle.history_rules.specs.declared.phase.Allowance.{Allowance}
use Rattle.history_rules.specs.declared.phase.Allowance.TheVariants as allowance
use Rattle.strand_core.specs.declared.posted.Posted.{Posted}
use Rattle.execution_laws.specs.Called.{are_stopping}
use Rattle.execution_laws.specs.Executed.{IsExecuted}
use Rattle.execution_laws.specs.Lanes.{IsFreeUnlessStopped}
use Rattle.execution_laws.specs.Opened.{IsOpened}

-- what begins on a free lane leaves it free
set-free : (n strand : ℕ) →
    set (replicate n allowance.Free) strand (less_one (get_or (replicate n allowance.Free) strand allowance.Nothing))
    ≡ replicate n allowance.Free
set-free zero strand = refl
set-free (suc n) zero = refl
set-free (suc n) (suc strand) = ap (λ rest. allowance.Free ∷ rest) (set-free n strand)

spend-free : (at : Lane) (n : ℕ) →
    with_allowance at (less_one (allowance_of (all_lanes allowance.Free n) at)) (all_lanes allowance.Free n)
    ≡ all_lanes allowance.Free n
spend-free (lane.Strand strand) n =
    ap (λ (strands : List Allowance). record (all_lanes allowance.Free n) { strands = strands }) (set-free n strand)
spend-free (lane.Own op) n = refl
spend-free lane.Reactor n = refl

-- the same for each is the same for all
map-free : (strands : List Allowance) → map (λ _. allowance.Free) strands ≡ replicate (length strands) allowance.Free
map-free [] = refl
map-free (first ∷ strands) = ap (λ rest. allowance.Free ∷ rest) (map-free strands)

pub free_opened : (script : ScriptModel) (calls : List Posted) (t : ContextState) → IsOpened script calls t →
    IsFreeUnlessStopped script t
free_opened script calls t opened = record {
  lanes = opened.lanes;
  free = λ going. opened.allowed (sym opened.stopped ∙ going);
}

pub free_executed : (script : ScriptModel) (op : ℕ) (calls : List Posted) (s t : ContextState) →
    IsFreeUnlessStopped script s → IsExecuted script op calls s t → IsFreeUnlessStopped script t
free_executed script op calls s t were executed = record {
  lanes = executed.lanes ∙ were.lanes;
  free = λ going.
      let parts = or_parts s.stopped (are_stopping script calls) (sym executed.stopped ∙ going) in
      executed.allowed parts.1
      ∙ (ap (λ (a : Allowances). with_allowance (lane_of script op) (less_one (allowance_of a (lane_of script op))) a)
      (were.free parts.0) ∙ spend-free (lane_of script op) script.strands);
}

pub free_turn : (script : ScriptModel) (s : ContextState) → IsFreeUnlessStopped script s →
    IsFreeUnlessStopped script (turn_begun s)
free_turn script s were = record {
  lanes = were.lanes;
  free = λ going.
      ap (λ (a : Allowances). with_allowance lane.Reactor (less_one (allowance_of a lane.Reactor)) a) (were.free going);
}

pub free_restart : (script : ScriptModel) (s : ContextState) → length s.allowances.strands ≡ script.strands →
    IsFreeUnlessStopped script (after_restart s)
free_restart script s lanes = record {
  lanes = length-map s.allowances.strands (λ _. allowance.Free) ∙ lanes;
  free = λ going.
      ap (λ (strands : List Allowance). record { strands = strands; own = allowance.Free; reactor = allowance.Free })
      (map-free s.allowances.strands ∙ ap (λ n. replicate n allowance.Free) lanes);
}

-- a lane that the script declares
abbrev IsDeclared : ℕ → Lane → Type 0
IsDeclared strands (lane.Strand strand) = strand < strands
IsDeclared strands (lane.Own op) = Unit {0}
IsDeclared strands lane.Reactor = Unit {0}

declared_or : (strands : ℕ) (found : Option Lane) → ((at : Lane) → found ≡ Some at → IsDeclared strands at) →
    IsDeclared strands (lane_or_reactor found)
declared_or strands None each = tt
declared_or strands (Some at) each = each at refl

declared_place : (h : ScriptModel) (n : ℕ) (named : Option ℕ) →
    ((strand : ℕ) → named ≡ Some strand → strand < h.strands) → IsDeclared h.strands (place_lane n named)
declared_place h n None each = tt
declared_place h n (Some strand) each = each strand refl

-- the strand that an act names is declared
named_fits : (script : ScriptModel) (given : Act) → FitsAct (header_of script) given → (strand : ℕ) →
    strand_of given ≡ Some strand → strand < script.strands
named_fits script (act.Post named) fits strand is = subst (λ named. IfSome named (λ n. n < script.strands)) is fits
named_fits script (act.Defer named) fits strand is = subst (λ named. IfSome named (λ n. n < script.strands)) is fits
named_fits script (act.Dispatch named) fits strand is = subst (λ named. IfSome named (λ n. n < script.strands)) is fits
named_fits script (act.Wait timer named slot filter) fits strand is =
    subst (λ named. IfSome named (λ n. n < script.strands)) is fits.1
named_fits script (act.ReadSome stream size named slot filter) fits strand is =
    subst (λ named. IfSome named (λ n. n < script.strands)) is fits.2
named_fits script (act.ReadAll stream size named slot filter) fits strand is =
    subst (λ named. IfSome named (λ n. n < script.strands)) is fits.2
named_fits script (act.Until stream delimiter max named slot filter) fits strand is =
    subst (λ named. IfSome named (λ n. n < script.strands)) is fits.3
named_fits script (act.WriteSome stream bytes named slot filter) fits strand is =
    subst (λ named. IfSome named (λ n. n < script.strands)) is fits.2
named_fits script (act.WriteAll stream bytes named slot filter) fits strand is =
    subst (λ named. IfSome named (λ n. n < script.strands)) is fits.2
named_fits script given fits strand is = absurd (cc)

lane_by : (script : ScriptModel) (caller : Option Lane) (n : ℕ) (named : Option ℕ) (inside operation stops : Bool) →
    ((at : Lane) → caller ≡ Some at → IsDeclared script.strands at) →
    ((strand : ℕ) → named ≡ Some strand → strand < script.strands) →
    IsDeclared script.strands (cond inside (lane_or_reactor caller)
    (cond operation (place_lane n named) (cond stops (lane_or_reactor caller) lane.Reactor)))
lane_by script caller n named true operation stops each fits = declared_or script.strands caller each
lane_by script caller n named false true stops each fits = declared_place script n named fits
lane_by script caller n named false false true each fits = declared_or script.strands caller each
lane_by script caller n named false false false each fits = tt

declared_caller : (strands : ℕ) (lanes : List Lane) (place : Place) → All (IsDeclared strands) lanes → (at : Lane) →
    caller_lane lanes place ≡ Some at → IsDeclared strands at
declared_caller strands lanes None all at is = absurd (cc)
declared_caller strands lanes (Some place) all at is =
    subst (IsDeclared strands) (get_or_from_slice_get lanes place.0 at lane.Reactor is)
    (All-get_or (IsDeclared strands) lanes place.0 lane.Reactor (slice_get_within lanes place.0 at is) all)

declared_after : (script : ScriptModel) (lanes : List Lane) (entries : List Entry) →
    All (IsDeclared script.strands) lanes → All (λ entry. FitsAct (header_of script) entry.act) entries →
    All (IsDeclared script.strands) (lanes_after lanes entries)
declared_after script lanes [] all fits = all
declared_after script lanes (entry ∷ entries) all fits =
    let caller = caller_lane lanes entry.parent in
    declared_after script (lanes ++ lane_in caller (length lanes) entry.act ∷ []) entries
    (All-push (IsDeclared script.strands) lanes (lane_in caller (length lanes) entry.act) all
    (lane_by script caller (length lanes) (strand_of entry.act) (is_inside caller entry.act) (is_operation entry.act) (is_stop entry.act) (declared_caller script.strands lanes entry.parent all)
    (named_fits script entry.act (All-head (λ entry. FitsAct (header_of script) entry.act) entry entries fits))))
    (All-tail (λ entry. FitsAct (header_of script) entry.act) entry entries fits)

lane_declared : (script : ScriptModel) (n : ℕ) → IsWellFormed script → IsDeclared script.strands (lane_of script n)
lane_declared script n well =
    let fits : All (λ (entry : Entry). FitsAct (header_of script) entry.act) script.acts = λ k d below.
    (well.acts.placed k (get_or script.acts k d) (slice_get-get_or script.acts k d below)).fits in
    let all : All (IsDeclared script.strands) (lanes_of script) =
    declared_after script [] script.acts (All-nil (IsDeclared script.strands)) fits in
    elim (cases_lt n (length (lanes_of script))) [
      | inl within ↦ All-get_or (IsDeclared script.strands) (lanes_of script) n lane.Reactor within all
      | inr beyond ↦ subst (IsDeclared script.strands) (sym (get_or_past (lanes_of script) n lane.Reactor beyond)) tt
    ]

start-free : (at : Lane) (n : ℕ) → IsDeclared n at → allowance_of (all_lanes allowance.Free n) at ≡ allowance.Free
start-free (lane.Strand strand) n declared = get_or-replicate n strand allowance.Free allowance.Nothing declared
start-free (lane.Own op) n declared = refl
start-free lane.Reactor n declared = refl

pub free_may_start : (script : ScriptModel) (s : ContextState) (n : ℕ) → IsWellFormed script →
    IsFreeUnlessStopped script s → s.stopped ≡ false → MayStart s (lane_of script n)
free_may_start script s n well were going none =
    let free : allowance_of s.allowances (lane_of script n) ≡ allowance.Free =
    ap (λ (a : Allowances). allowance_of a (lane_of script n)) (were.free going)
    ∙ start-free (lane_of script n) script.strands (lane_declared script n well) in
    absurd (let wrong : allowance.Free ≡ allowance.Nothing = sym free ∙ none in cc)
