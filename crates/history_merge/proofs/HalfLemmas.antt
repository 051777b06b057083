-- The reactor's half of the state is that of the reactor's own entries, since no other number shows an event of a turn.
use Rattle.std.proofs.Common.{◌≡◌, ◌≢◌, ℕ, Bool, true, false, List, [], ◌∷◌, ◌++◌, inl, inr, map, refl, sym, ap, subst, ◌∙◌, None, Some}
use Rattle.std.proofs.lemmas.Bool.{cases_eq}
use lib.ListN.{get_elem?}
use mathlib.Core.Option.{some}
use Rattle.asio_types.specs.declared.event.Event.{Event}
use Rattle.asio_types.specs.declared.event.Event.TheVariants as event
use Rattle.session_script.specs.Script.{ScriptModel}
use Rattle.history_rules.specs.Legal.{reactor_after}
use Rattle.history_rules.specs.State.{ReactorHalf, State, first_reactor}
use Rattle.lane_clock.specs.History.{ClockEvent}
use Rattle.lane_map.specs.LaneNumbers.{reactor_lane}
use Rattle.lane_logs.specs.declared.log.LogEntry.{LogEntry}
use Rattle.lane_logs.specs.Half.{half_from, half_of}
use Rattle.lane_logs.specs.Labels.{Labelled, allots, entries_in, shows, silent}
use Rattle.lane_logs.specs.LaneLog.{MayFollow}
use Rattle.lane_logs.specs.Logs.{LogsView}
use Rattle.lane_logs.specs.Names.{SessionNames}
use Rattle.lane_logs.specs.OpenerLog.{ClosedPart, Closes, MayFollowOpened, OpenerPart, closed, look_label, opened, opener_labels, resting, restarted}
use Rattle.lane_logs.specs.Parts.{Part, executed, failed, idle, labels_in, missing, turned}
use Rattle.lane_logs.specs.SeatNumbers.{opener_seat}
use Rattle.lane_logs.specs.WorkerLog.{MayFollowStopped, WorkerPart, stopped, waiting}
use Rattle.history_merge.proofs.EachLabelLemmas.{HoldsOf, calls_each, is_of_execution, is_of_turn, looks_each}
use Rattle.history_merge.proofs.HistoryLemmas.{AreLabelled, label_of}
use Rattle.history_merge.proofs.LabellingLemmas.{AreLabels, each_label}
use Rattle.history_merge.proofs.PartLemmas.{Every, every-append, every_all, every_so, labels_worker}
use Rattle.history_merge.proofs.SoFarLemmas.{entries_here, entries_so_far, made_other, state_at, state_next, state_with}

-- any other leaves the reactor
pub reactor_stays : (script : ScriptModel) (told : Bool) (r : ReactorHalf) (shown : Event) → is_of_turn shown ≡ false →
    reactor_after script told r shown ≡ r
reactor_stays script told r (event.Take a) isnt = absurd (cc)
reactor_stays script told r (event.Done o code size) isnt = absurd (cc)
reactor_stays script told r (event.Tick now) isnt = absurd (cc)
reactor_stays script told r event.Last isnt = absurd (cc)
reactor_stays script told r event.Fault isnt = absurd (cc)
reactor_stays script told r other isnt = refl

-- the label shows no event of a turn
abbrev pub IsOffTurn : Labelled → Type 0
IsOffTurn (silent step) = Unit {0}
IsOffTurn (shows shown changes found) = is_of_turn shown ≡ false
IsOffTurn (allots act lane place) = Unit {0}

off_execution : (shown : Event) → is_of_execution shown ≡ true → is_of_turn shown ≡ false
off_execution (event.Stop (Some a)) is = refl
off_execution (event.Stop None) is = absurd (cc)
off_execution (event.Call a) is = refl
off_execution (event.Back a) is = refl
off_execution (event.Begin o code size) is = refl
off_execution (event.End o mark) is = refl
off_execution other is = absurd (cc)

holds_off : HoldsOf is_of_execution IsOffTurn
holds_off = record {
  events = λ shown is changes found. off_execution shown is;
  places = λ act lane place. tt;
  puts = λ lane place note. tt;
}

module _ (script : ScriptModel) where
  pub half_from-append : (told : Bool) (half : ReactorHalf) (xs ys : List LogEntry) →
      half_from script told half (xs ++ ys) ≡ half_from script told (half_from script told half xs) ys
  half_from-append told half [] ys = refl
  half_from-append told half (x ∷ xs) ys = half_from-append told (reactor_after script told half x.event) xs ys

  half_with : (told : Bool) (s : State) (label : Labelled) →
      (state_with script told label s).reactor ≡ half_from script told s.reactor (entries_in (label ∷ []))
  half_with told s (silent step) = refl
  half_with told s (shows shown changes found) = refl
  half_with told s (allots act lane place) = refl

  half_apart : (told : Bool) (s : State) (label : Labelled) → IsOffTurn label →
      (state_with script told label s).reactor ≡ s.reactor
  half_apart told s (silent step) off = refl
  half_apart told s (shows shown changes found) off = reactor_stays script told s.reactor shown off
  half_apart told s (allots act lane place) off = refl

module _ (names : SessionNames) (logs : LogsView) (labels : ℕ → List Labelled) (are : AreLabels names logs labels) where
  abbrev script : ScriptModel
  script = names.script

  -- unless the number is the reactor's, the label shows no event of a turn
  abbrev Apart : ℕ → Labelled → Type 0
  Apart n label = n ≢ reactor_lane script → IsOffTurn label

  lane_off : (lane : ℕ) (earlier : List Part) (part : Part) →
      MayFollow names (logs.lists (opener_seat script)) lane earlier part → Every (Apart lane) (labels_in script lane part)
  lane_off lane earlier (idle step) may = ((λ away. tt), tt)
  lane_off lane earlier (executed part) may = (
    (λ away. tt),
    (
      (λ away. tt),
      every_so IsOffTurn (Apart lane) (λ label off away. off) part.labels
          (calls_each IsOffTurn script holds_off may.drawn),
    ),
  )
  lane_off lane earlier (turned part) may =
      every_all (Apart lane) (λ label away. absurd (away may.reactor)) (labels_in script lane (turned part))
  lane_off lane earlier (failed part) may =
      every_all (Apart lane) (λ label away. absurd (away may.reactor)) (labels_in script lane (failed part))
  lane_off lane earlier (missing place note) may = ((λ away. tt), tt)

  worker_off : (n : ℕ) (earlier : List WorkerPart) (part : WorkerPart) →
      MayFollowStopped script (logs.lists (opener_seat script)) earlier part → Every (Apart n) (labels_worker part)
  worker_off n earlier (waiting step) may = ((λ away. tt), tt)
  worker_off n earlier (stopped drawn) may = ((λ away. refl), tt)

  closes_off : (earlier : List OpenerPart) (part : ClosedPart) (shown : Event) →
      Closes script logs.lists earlier part shown → is_of_turn shown ≡ false
  closes_off earlier part event.Ended closes = refl
  closes_off earlier part event.Stopped closes = refl
  closes_off earlier part event.Polled closes = refl
  closes_off earlier part other closes = absurd closes

  opener_off : (earlier : List OpenerPart) (part : OpenerPart) → MayFollowOpened script logs.lists earlier part →
      Every IsOffTurn (opener_labels part)
  opener_off earlier (resting step) may = (tt, tt)
  opener_off earlier (opened calls labels) may = calls_each IsOffTurn script holds_off may.drawn
  opener_off earlier (restarted drawn) may = (refl, tt)
  opener_off earlier (closed part) may = (
    tt,
    every-append IsOffTurn (map look_label part.looks) _ (looks_each IsOffTurn (λ look. tt) part.looks)
        (closes_off earlier part part.shown may.closes, tt),
  )

  pub off_turn : (n i : ℕ) (label : Labelled) → get_elem? (labels n) i ≡ some label → n ≢ reactor_lane script →
      IsOffTurn label
  off_turn =
      each_label names logs labels are Apart (λ lane within earlier part may. lane_off lane earlier part may) worker_off
      (λ earlier part may.
      every_so IsOffTurn (Apart (opener_seat script)) (λ label off away. off) (opener_labels part) (opener_off earlier part may))

  -- the reactor's half
  pub half_is : (es : List ClockEvent) → AreLabelled labels es →
      (state_at script names.told labels es).reactor
      ≡ half_of script names.told (entries_so_far labels es (reactor_lane script))
  half_is [] all = refl
  half_is (e ∷ es) all =
      let before = half_is es all.0 in
      let s : State = state_at script names.told labels es in
      let label : Labelled = label_of labels es e in
      ap (λ (s : State). s.reactor) (state_next script names.told labels e es)
      ∙ elim (cases_eq e.by (reactor_lane script)) [
        | inl is ↦
            half_with script names.told s label
            ∙ (ap (λ half. half_from script names.told half (entries_in (label ∷ []))) before
            ∙ (sym (half_from-append script names.told (first_reactor script names.told)
            (entries_so_far labels es (reactor_lane script)) (entries_in (label ∷ [])))
            ∙ ap (half_of script names.told)
            (sym (subst (λ n. entries_so_far labels (e ∷ es) n ≡ entries_so_far labels es n ++ entries_in (label ∷ [])) is
            (entries_here labels e es all.1)))))
        | inr other ↦
            half_apart script names.told s label
            (off_turn e.by _ label all.1.there other)
            ∙ (before
            ∙ ap (λ made. half_of script names.told (entries_in made))
            (sym (made_other labels e es (reactor_lane script) (λ is. other (sym is)))))
      ]
