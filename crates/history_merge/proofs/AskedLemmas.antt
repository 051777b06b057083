-- Of each lane handlers and `open` draw no more places than there are acts that ask it.
use Rattle.std.proofs.Common.{◌≡◌, ◌≢◌, ℕ, suc, ◌+◌, ◌<◌, Bool, true, false, cond, List, [], ◌∷◌, ◌++◌, length, map, refl, sym, ap, subst, ◌∙◌, arith}
use Rattle.std.specs.Prelude.{None, Some, ◌==◌, nat_lt, slice_get, slice_index}
use mathlib.Core.Option.{some}
use lib.ListN.{get_elem?}
use Rattle.asio_types.specs.Code.{class_of_code}
use Rattle.asio_types.specs.declared.code.Class.TheVariants as class
use Rattle.asio_types.specs.declared.code.Code.{Code}
use Rattle.asio_types.specs.declared.code.Code.TheVariants as code
use Rattle.op_handlers.specs.declared.call.Call.{Call}
use Rattle.session_script.specs.Lanes.{is_inline}
use Rattle.session_script.specs.Script.{ScriptModel, opening_of, stops}
use Rattle.session_script.specs.WellFormed.{IsWellFormed}
use Rattle.strand_core.specs.Execution.{AnyMark, AreCalls, IsWholeExecution, inside, no_act, outside}
use Rattle.strand_core.specs.declared.posted.Posted.{Posted}
use Rattle.strand_core.specs.declared.posted.Posted.TheVariants as posted
use Rattle.lane_clock.specs.declared.note.Note.{Note}
use Rattle.lane_clock.specs.declared.step.ClockStep.{ClockStep}
use Rattle.lane_clock.specs.declared.step.ClockStep.TheVariants.{Draw, Load, Place, Put, Look, Join}
use Rattle.lane_clock.specs.History.{ClockEvent, places_after, places_with}
use Rattle.lane_clock.specs.Steps.{place_count}
use Rattle.lane_map.specs.LaneNumbers.{asked_lane, cells_of, reactor_lane}
use Rattle.lane_logs.specs.Labels.{AreDrawn, IsDrawn, Labelled, allots, begins, call_note, dispatches, ends, none_drawn, one_drawn, posts, returns, shows, silent, step_of, stops_context}
use Rattle.lane_logs.specs.LaneLog.{MayFollow}
use Rattle.lane_logs.specs.Logs.{LogsView}
use Rattle.lane_logs.specs.Names.{IsNamedMark, SessionNames}
use Rattle.lane_logs.specs.OpenerLog.{Looked, MayFollowOpened, OpenerPart, closed, look_label, opened, opener_labels, resting, restarted}
use Rattle.lane_logs.specs.Parts.{Part, executed, failed, idle, labels_in, missing, turned}
use Rattle.lane_logs.specs.Calls.{CallsActs}
use Rattle.lane_logs.specs.SeatNumbers.{opener_seat}
use Rattle.lane_logs.specs.WorkerLog.{MayFollowStopped, WorkerPart, stopped, waiting}
use Rattle.history_merge.proofs.HistoryLemmas.{AreLabelled, IsPlain, label_of}
use Rattle.history_merge.proofs.LabellingLemmas.{AreLabels, each_label}
use Rattle.history_merge.proofs.PartLemmas.{Every, every-append, every_all, every_so, labels_worker}
use Rattle.execution_laws.proofs.PlaceLemmas.{within_script}
use Rattle.reactor_turns.proofs.SummingLemmas.{one_if}
use Rattle.history_merge.proofs.PlacedLemmas.{total}

-- the label gets a place of this lane
abbrev pub allots_on : ℕ → Labelled → Bool
allots_on at (silent step) = false
allots_on at (shows shown changes found) = false
allots_on at (allots act lane place) = at == lane

-- so many places of a lane were drawn as labels get one
module _ (labels : ℕ → List Labelled) (lane : ℕ) where
  plain_places : (step : ClockStep) (k : ℕ) → place_count step ≡ 0 → places_with lane step k ≡ k
  plain_places (Draw shown changes found) k none = refl
  plain_places (Load found) k none = refl
  plain_places (Place at place) k none = absurd (omega (arith, none))
  plain_places (Put at place note) k none = refl
  plain_places (Look at place held) k none = refl
  plain_places (Join counts) k none = refl

  one_more : (here : Bool) (k : ℕ) → cond here (k + 1) k ≡ one_if here + k
  one_more true k = omega arith
  one_more false k = omega arith

  label_places : (label : Labelled) (k : ℕ) → IsPlain label →
      places_with lane (step_of label) k ≡ one_if (allots_on lane label) + k
  label_places (silent step) k plain = plain_places step k plain.1 ∙ omega arith
  label_places (shows shown changes found) k plain = omega arith
  label_places (allots act at place) k plain = one_more (lane == at) k

  pub places_total : (es : List ClockEvent) → AreLabelled labels es →
      places_after lane es ≡ total labels (λ n label. allots_on lane label) es
  places_total [] all = refl
  places_total (e ∷ es) all =
      let rest = places_total es all.0 in
      ap (λ step. places_with lane step (places_after lane es)) (sym all.1.step)
      ∙ (label_places (label_of labels es e) (places_after lane es) all.1.plain ∙ omega (arith, rest))

-- an act that a call places: it neither stops the context nor executes inside its call, and asks this lane
pub record IsAskedPlace (script : ScriptModel) (act lane : ℕ) : Type 0 where
  pub going : stops script act ≡ false
  pub unentered : is_inline script act ≡ false
  pub asks : lane ≡ asked_lane script act
  pub within : act < length script.acts

abbrev pub IsAsked : ScriptModel → Labelled → Type 0
IsAsked script (silent step) = Unit {0}
IsAsked script (shows shown changes found) = Unit {0}
IsAsked script (allots act lane place) = IsAskedPlace script act lane

module _ (script : ScriptModel) where
  put_asked : (within : Bool) (lane place : ℕ) (note : Note) →
      Every (IsAsked script) (cond within (silent (Put lane place note) ∷ []) [])
  put_asked true lane place note = (tt, tt)
  put_asked false lane place note = tt

  call_asked : {made : Posted} {labels : List Labelled} → CallsActs script (made ∷ []) → IsDrawn script made labels →
      Every (IsAsked script) labels
  call_asked acts begins = (tt, tt)
  call_asked acts (posts {act} {place} {found} isnt unentered) = (
    tt,
    (
      record { going = isnt; unentered = unentered; asks = refl; within = acts.0 },
      put_asked (nat_lt place (slice_index (cells_of script) (asked_lane script act))) _ place (call_note act),
    ),
  )
  call_asked acts (dispatches isnt within) = (tt, tt)
  call_asked acts (stops_context is) = (tt, (tt, tt))
  call_asked acts returns = (tt, tt)
  call_asked acts ends = (tt, tt)

  acts-append : (xs ys : List Posted) → CallsActs script xs → CallsActs script ys → CallsActs script (xs ++ ys)
  acts-append [] ys first second = second
  acts-append (posted.Begin op given size begun ∷ xs) ys first second = acts-append xs ys first second
  acts-append (posted.Call act ∷ xs) ys first second = (first.0, acts-append xs ys first.1 second)
  acts-append (posted.Back act ∷ xs) ys first second = acts-append xs ys first second
  acts-append (posted.End op ran ∷ xs) ys first second = acts-append xs ys first second

  acts_first : (xs ys : List Posted) → CallsActs script (xs ++ ys) → CallsActs script xs
  acts_first [] ys all = tt
  acts_first (posted.Begin op given size begun ∷ xs) ys all = acts_first xs ys all
  acts_first (posted.Call act ∷ xs) ys all = (all.0, acts_first xs ys all.1)
  acts_first (posted.Back act ∷ xs) ys all = acts_first xs ys all
  acts_first (posted.End op ran ∷ xs) ys all = acts_first xs ys all

  acts_last : (xs ys : List Posted) → CallsActs script (xs ++ ys) → CallsActs script ys
  acts_last [] ys all = all
  acts_last (posted.Begin op given size begun ∷ xs) ys all = acts_last xs ys all
  acts_last (posted.Call act ∷ xs) ys all = acts_last xs ys all.1
  acts_last (posted.Back act ∷ xs) ys all = acts_last xs ys all
  acts_last (posted.End op ran ∷ xs) ys all = acts_last xs ys all

  calls_asked : {calls : List Posted} {labels : List Labelled} → CallsActs script calls → AreDrawn script calls labels →
      Every (IsAsked script) labels
  calls_asked acts none_drawn = tt
  calls_asked acts (one_drawn {calls} {call = one} {labels} {made} before now) =
      every-append (IsAsked script) labels made (calls_asked (acts_first calls (one ∷ []) acts) before)
      (call_asked (acts_last calls (one ∷ []) acts) now)

  -- what a body calls are acts of the script
  module _ (well : IsWellFormed script) (HasMark : Call → ℕ → Type 0) where
    body_acts : {acts : List ℕ} {calls : List Posted} → AreCalls script HasMark acts calls →
        ((i n : ℕ) → slice_get acts i ≡ Some n → n < length script.acts) → CallsActs script calls
    body_acts no_act each = tt
    body_acts (outside {act} {acts} {calls} isnt more) each =
        (each 0 act refl, body_acts more (λ i n at. each (suc i) n at))
    body_acts (inside {act} {begun} {mark} {acts} {body} {calls} is marked inner more) each =
        let end : Posted = posted.End act (record { mark = mark; class = class_of_code code.Ok; begun = begun }) in (
          each 0 act refl,
          acts-append (body ++ end ∷ []) (posted.Back act ∷ calls)
              (acts-append body (end ∷ []) (body_acts inner (λ i n at. within_script script well (Some (act, class.Ok)) n i at)) tt)
              (body_acts more (λ i n at. each (suc i) n at)),
        )

    opening_acts : {calls : List Posted} → AreCalls script HasMark (opening_of script) calls → CallsActs script calls
    opening_acts are = body_acts are (λ i n at. within_script script well None n i at)

    execution_acts : (op : ℕ) (given : Code) (size : ℕ) (calls : List Posted) →
        IsWholeExecution script HasMark op given size calls → CallsActs script calls
    execution_acts op given size calls whole =
        subst (CallsActs script) (sym whole.is)
        (acts-append whole.body
        (posted.End op (record { mark = whole.mark; class = class_of_code given; begun = whole.begun }) ∷ [])
        (body_acts whole.acts (λ i n at. within_script script well (Some (op, class_of_code given)) n i at)) tt)

  looks_asked : (looks : List Looked) → Every (IsAsked script) (map look_label looks)
  looks_asked [] = tt
  looks_asked (look ∷ looks) = (tt, looks_asked looks)

  opener_asked : IsWellFormed script → (lists : ℕ → List ClockStep) (earlier : List OpenerPart) (part : OpenerPart) →
      MayFollowOpened script lists earlier part → Every (IsAsked script) (opener_labels part)
  opener_asked well lists earlier (resting step) may = (tt, tt)
  opener_asked well lists earlier (opened calls labels) may =
      calls_asked (opening_acts well AnyMark may.acts) may.drawn
  opener_asked well lists earlier (restarted drawn) may = (tt, tt)
  opener_asked well lists earlier (closed part) may =
      (tt, every-append (IsAsked script) (map look_label part.looks) _ (looks_asked part.looks) (tt, tt))

  worker_asked : (opener : List ClockStep) (earlier : List WorkerPart) (part : WorkerPart) →
      MayFollowStopped script opener earlier part → Every (IsAsked script) (labels_worker part)
  worker_asked opener earlier (waiting step) may = (tt, tt)
  worker_asked opener earlier (stopped drawn) may = (tt, tt)

-- each place that isn't drawn by the reactor is of an act that asks its lane
module _ (names : SessionNames) (well : IsWellFormed names.script) (logs : LogsView) (labels : ℕ → List Labelled)
    (are : AreLabels names logs labels) where
  abbrev Asked : ℕ → Labelled → Type 0
  Asked n label = n ≢ reactor_lane names.script → IsAsked names.script label

  lane_asked : (lane : ℕ) (earlier : List Part) (part : Part) →
      MayFollow names (logs.lists (opener_seat names.script)) lane earlier part →
      Every (Asked lane) (labels_in names.script lane part)
  lane_asked lane earlier (idle step) may = ((λ away. tt), tt)
  lane_asked lane earlier (executed part) may = (
    (λ away. tt),
    (
      (λ away. tt),
      every_so (IsAsked names.script) (Asked lane) (λ label asked away. asked) part.labels
          (calls_asked names.script
          (execution_acts names.script well (IsNamedMark names) part.note.op part.note.code part.note.size part.calls may.whole)
          may.drawn),
    ),
  )
  lane_asked lane earlier (turned part) may =
      every_all (Asked lane) (λ label away. absurd (away may.reactor)) (labels_in names.script lane (turned part))
  lane_asked lane earlier (failed part) may =
      every_all (Asked lane) (λ label away. absurd (away may.reactor)) (labels_in names.script lane (failed part))
  lane_asked lane earlier (missing place note) may = ((λ away. tt), tt)

  pub asked_label : (n i : ℕ) (label : Labelled) → get_elem? (labels n) i ≡ some label → n ≢ reactor_lane names.script →
      IsAsked names.script label
  asked_label =
      each_label names logs labels are Asked (λ lane within earlier part may. lane_asked lane earlier part may)
      (λ n earlier part may.
      every_so (IsAsked names.script) (Asked n) (λ label asked away. asked) (labels_worker part)
      (worker_asked names.script (logs.lists (opener_seat names.script)) earlier part may))
      (λ earlier part may.
      every_so (IsAsked names.script) (Asked (opener_seat names.script)) (λ label asked away. asked) (opener_labels part)
      (opener_asked names.script well logs.lists earlier part may))
