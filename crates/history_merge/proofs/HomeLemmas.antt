-- What a handler's lane sees at its next place was put there for an operation of that lane.
use Rattle.std.proofs.Common.{◌≡◌, ◌≢◌, ℕ, zero, suc, ◌<◌, Bool, true, false, cond, List, [], ◌∷◌, ◌++◌, inl, inr, length, sym, ap, subst, ◌∙◌, arith}
use Rattle.std.specs.Prelude.{Some}
use Rattle.std.proofs.lemmas.Bool.{cases_eq}
use mathlib.Core.Option.{some, some-injective, some-ne-none}
use lib.ListN.{get_elem?}
use Rattle.asio_types.specs.declared.event.Event.{Event}
use Rattle.session_script.specs.Script.{ScriptModel}
use Rattle.session_script.specs.WellFormed.{IsWellFormed}
use Rattle.lane_clock.specs.declared.found.Change.{Change}
use Rattle.lane_clock.specs.declared.found.Found.{Found}
use Rattle.lane_clock.specs.declared.note.Note.{Note}
use Rattle.lane_clock.specs.declared.step.ClockStep.TheVariants.{Put, Look, Join}
use Rattle.lane_clock.specs.History.{ClockEvent, cell_after, steps_under}
use Rattle.lane_clock.proofs.KnownLemmas.{event}
use Rattle.lane_clock.proofs.MomentLemmas.{Tail, sound_tail, tail_more, tail_trans}
use Rattle.lane_map.specs.LaneNumbers.{act_passes, asks_its_lane, home_lane, reactor_lane}
use Rattle.lane_logs.specs.Labels.{Labelled, allots, shows, silent, step_of}
use Rattle.lane_logs.specs.LaneLog.{MayFollow}
use Rattle.lane_logs.specs.Logs.{AreLogs, LogsView, session_layout}
use Rattle.lane_logs.specs.Names.{SessionNames}
use Rattle.lane_logs.specs.Parts.{ExecutedPart, Part, executed, labels_in}
use Rattle.lane_logs.specs.SeatNumbers.{lane_count, opener_seat}
use Rattle.lane_map.proofs.NumberLemmas.{lane_count as lanes_counted}
use Rattle.history_merge.proofs.AskedLemmas.{IsAsked, asked_label}
use Rattle.history_merge.proofs.BetweenLemmas.{own_moment}
use Rattle.history_merge.proofs.DrawRoundLemmas.{lane_at, lane_draws, lane_follows}
use Rattle.history_merge.proofs.HistoryLemmas.{AreLabelled, IsLabelled, label_of}
use Rattle.history_merge.proofs.LabellingLemmas.{AreLabels}
use Rattle.history_merge.proofs.LookingLemmas.{labelled_tail}
use Rattle.history_merge.proofs.PartLemmas.{IsMadeAt}
use Rattle.history_merge.proofs.PutLemmas.{PutAfter, PutsBehind, behind_at, cell_put, puts_behind}
use Rattle.history_merge.proofs.ToldLemmas.{put_at}

-- a step that puts is by itself
put_label : (label : Labelled) (lane place : ℕ) (note : Note) → step_of label ≡ Put lane place note →
    label ≡ silent (Put lane place note)
put_label (silent step) lane place note is = ap silent is
put_label (shows shown changes found) lane place note is = absurd (cc)
put_label (allots act at cell) lane place note is = absurd (cc)

posting_home : (b : Bool) (lane home last : ℕ) → lane ≡ cond b home last → lane < last → home ≡ lane
posting_home true lane home last is less = sym is
posting_home false lane home last is less = absurd (omega (arith, is, less))

module _ (names : SessionNames) (well : IsWellFormed names.script) (logs : LogsView) (labels : ℕ → List Labelled)
    (logged : AreLogs names logs) (are : AreLabels names logs labels) where
  abbrev script : ScriptModel
  script = names.script

  -- a note of a handler's lane is of an operation of that lane
  module _ (lane place : ℕ) (note : Note) (strand : lane < reactor_lane names.script) where
    module _ (n i : ℕ) (there : get_elem? (labels n) i ≡ some (silent (Put lane place note))) where
      by_call : n ≢ reactor_lane script → (i : ℕ) → get_elem? (labels n) i ≡ some (silent (Put lane place note)) →
          home_lane script note.op ≡ lane
      by_call away zero at = first (labels n) (puts_behind names logs labels are n away (silent (Join []))) at
        where
          first : (xs : List Labelled) → PutsBehind (silent (Join [])) xs →
              get_elem? xs 0 ≡ some (silent (Put lane place note)) → home_lane script note.op ≡ lane
          first [] all at = absurd (some-ne-none (silent (Put lane place note)) (sym at))
          first (x ∷ xs) all at =
              let behind : PutAfter (silent (Join [])) (silent (Put lane place note)) =
              subst (PutAfter (silent (Join []))) (some-injective x (silent (Put lane place note)) at) all.0 in
              absurd (let wrong : silent (Join []) ≡ allots note.op lane place = behind.allotted in cc)
      by_call away (suc i) at =
          let before =
          behind_at (labels n) (silent (Join [])) (puts_behind names logs labels are n away (silent (Join []))) i lane place
          note at in
          let asked : IsAsked script (allots note.op lane place) =
          subst (IsAsked script) before.2.allotted
          (asked_label names well logs labels are n i before.0 before.1 away) in
          posting_home (act_passes asks_its_lane script note.op) lane (home_lane script note.op) (reactor_lane script)
          asked.asks strand

      pub put_home : home_lane names.script note.op ≡ lane
      put_home = elim (cases_eq n (reactor_lane script)) [
        | inl reacts ↦
            sym (put_at names logs labels are
            (let count = lanes_counted script in let less : reactor_lane script < lane_count script = omega (arith, count) in less) i
            lane place note
            (subst (λ n. get_elem? (labels n) i ≡ some (silent (Put lane place note))) reacts there)).home
        | inr away ↦ by_call away i there
      ]

    pub cell_home : (es : List ClockEvent) → AreLabelled labels es → cell_after lane place es ≡ Some note →
        home_lane names.script note.op ≡ lane
    cell_home es all full =
        let put = cell_put lane place note es full in
        let labelled : IsLabelled labels put.older put.e = (labelled_tail labels es (put.e ∷ put.older) put.tail all).1 in
        let is : label_of labels put.older put.e ≡ silent (Put lane place note) =
        put_label (label_of labels put.older put.e) lane place note (labelled.step ∙ put.step) in
        put_home put.e.by (length (steps_under put.e.by put.older)) (labelled.there ∙ ap some is)

  -- so is what an execution is of
  module _ (e : ClockEvent) (es : List ClockEvent) (tail : Tail (e ∷ es) logged.closed.history)
      (all : AreLabelled labels (e ∷ es)) (within : e.by < lane_count names.script) (shown : Event) (changes : Change)
      (found : Found) (is : label_of labels es e ≡ shows shown changes found) (part : ExecutedPart)
      (here : (lane_at names logs labels logged are e es tail all.1 within).part ≡ executed part) where
    abbrev at : IsMadeAt Part (labels_in names.script e.by) (are.lanes e.by within).parts (length (steps_under e.by es))
        (label_of labels es e)
    at = lane_at names logs labels logged are e es tail all.1 within

    abbrev looked : Labelled
    looked = silent (Look e.by part.place (Some part.note))

    first_looked : get_elem? at.before 0 ≡ some looked
    first_looked =
        begins at.before (sym (ap (labels_in script e.by) here) ∙ (at.labels_are ∙ ap (λ label. at.before ++ label ∷ at.after) is))
      where
        begins : (before : List Labelled) →
            labels_in script e.by (executed part) ≡ before ++ shows shown changes found ∷ at.after →
            get_elem? before 0 ≡ some looked
        begins [] same = absurd (cc)
        begins (x ∷ before) same = let one : x ≡ looked = cc in ap some one

    pub executed_home : home_lane names.script part.note.op ≡ e.by
    executed_home =
        let draws = lane_draws names logs labels logged are e es tail all.1 within shown changes found is in
        let moment = own_moment names logs labels logged are e es tail within at draws 0 looked first_looked in
        let before : List ClockEvent = event e.by (step_of looked) ∷ moment.older in
        let older : Tail before logged.closed.history =
        tail_trans before es logged.closed.history moment.since (tail_more es e logged.closed.history tail) in
        let sound =
        sound_tail script.guards (session_layout script).seats before logged.closed.history older logged.closed.sound in
        let fits : Some part.note ≡ cell_after e.by part.place moment.older = sound.2 in
        let labelled : AreLabelled labels moment.older = (labelled_tail labels es before moment.since all.0).0 in
        let strand =
        (subst (MayFollow names (logs.lists (opener_seat script)) e.by at.earlier) here
        (lane_follows names logs labels logged are e es tail all.1 within)).strand in
        cell_home e.by part.place part.note strand moment.older labelled (sym fits)
