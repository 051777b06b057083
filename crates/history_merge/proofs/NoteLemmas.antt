-- The note that a lane saw at a place: a call put it, or a completion did, behind the place that its operation got.
use Rattle.std.proofs.Common.{◌≡◌, ◌≢◌, ◌⊎◌, ℕ, zero, suc, ◌<◌, Bool, true, false, cond, List, [], ◌∷◌, Option, Some, None, inl, inr, length, refl, sym, ap, subst, ◌∙◌, arith}
use Rattle.std.specs.Prelude.{slice_get}
use Rattle.std.proofs.lemmas.Bool.{cases_eq}
use mathlib.Core.Option.{some, some-injective, some-ne-none}
use lib.ListN.{get_elem?}
use Rattle.asio_types.specs.declared.event.Event.TheVariants as event
use Rattle.session_script.specs.Script.{Entry, ScriptModel, is_op}
use Rattle.session_script.specs.Lanes.{is_inline}
use Rattle.session_script.specs.WellFormed.{IsWellFormed}
use Rattle.history_rules.specs.Kinds.{is_act, is_posting}
use Rattle.history_rules.specs.State.{ContextState}
use Rattle.lane_clock.specs.declared.found.Change.TheVariants as change
use Rattle.lane_clock.specs.declared.found.Found.{Found}
use Rattle.lane_clock.specs.declared.note.Note.{Note}
use Rattle.lane_clock.specs.declared.step.ClockStep.TheVariants.{Join, Look, Put}
use Rattle.lane_clock.specs.History.{ClockEvent, Fits, IsSoundHistory, cell_after, steps_under}
use Rattle.lane_clock.proofs.MomentLemmas.{Tail, sound_tail, tail_more, tail_trans}
use Rattle.lane_map.specs.LaneNumbers.{act_passes, asked_lane, asks_its_lane, home_lane, reactor_lane}
use Rattle.lane_logs.specs.Labels.{Labelled, allots, call_note, shows, silent, step_of}
use Rattle.lane_logs.specs.Logs.{LogsView}
use Rattle.lane_logs.specs.Names.{SessionNames}
use Rattle.lane_logs.specs.SeatNumbers.{lane_count}
use Rattle.lane_logs.proofs.RequestLemmas.{posting_asks}
use Rattle.history_merge.proofs.AlikeLemmas.{never}
use Rattle.history_merge.proofs.AskedLemmas.{IsAskedPlace, asked_label}
use Rattle.history_merge.proofs.DatesLemmas.{AreDated}
use Rattle.history_merge.proofs.HistoryLemmas.{AreLabelled, label_of, shown_in}
use Rattle.history_merge.proofs.KindLemmas.{posting_op}
use Rattle.history_merge.proofs.LabellingLemmas.{AreLabels}
use Rattle.history_merge.proofs.PutLemmas.{IsBehind, PutAfter, PutsBehind, cell_put, puts_behind}
use Rattle.history_merge.proofs.TimeLemmas.{IsMade, labelled_tail, made_of, made_shown, made_there, made_within}
use Rattle.history_merge.proofs.ToldLemmas.{put_at}

silent_put : (label : Labelled) (lane place : ℕ) (note : Note) → step_of label ≡ Put lane place note →
    label ≡ silent (Put lane place note)
silent_put (silent step) lane place note is = ap silent is
silent_put (shows shown changes found) lane place note is = absurd (cc)
silent_put (allots act at where_at) lane place note is = absurd (cc)

-- the label before a put
before_put : (xs : List Labelled) (last : Labelled) → PutsBehind last xs → (i lane place : ℕ) (note : Note) →
    get_elem? xs i ≡ some (silent (Put lane place note)) →
    (label : Labelled) × (get_elem? (last ∷ xs) i ≡ some label) × IsBehind label lane place note
before_put [] last all i lane place note at = absurd (some-ne-none (silent (Put lane place note)) (sym at))
before_put (x ∷ xs) last all zero lane place note at =
    (last, refl, subst (PutAfter last) (some-injective x (silent (Put lane place note)) at) all.0)
before_put (x ∷ xs) last all (suc i) lane place note at = before_put xs x all.1 i lane place note at

-- what was made among earlier steps was made
abbrev pub lift_made : (labels : ℕ → List Labelled) (a es : List ClockEvent) → Tail a es → (n : ℕ) (label : Labelled) →
    IsMade labels a n label → IsMade labels es n label
lift_made labels a es tail n label made = record {
  e = made.e;
  older = made.older;
  tail = tail_trans (made.e ∷ made.older) a es made.tail tail;
  by = made.by;
  is = made.is;
}

module _ (names : SessionNames) (logs : LogsView) (labels : ℕ → List Labelled) (are : AreLabels names logs labels)
    (within : reactor_lane names.script < lane_count names.script) where
  abbrev script : ScriptModel
  script = names.script

  -- a call put the note
  pub record IsCallNote (es : List ClockEvent) (lane place : ℕ) (note : Note) : Type 0 where
    pub number : ℕ
    pub away : number ≢ reactor_lane names.script
    pub placed : IsMade labels es number (allots note.op lane place)
    pub called : note ≡ call_note note.op

  -- a completion put it
  pub record IsDoneNote (es : List ClockEvent) (lane place : ℕ) (note : Note) : Type 0 where
    pub found : Found
    pub told : IsMade labels es (reactor_lane names.script) (shows (event.Done note.op note.code note.size) change.Same found)
    pub placed : IsMade labels es (reactor_lane names.script) (allots note.op lane place)
    pub home : lane ≡ home_lane names.script note.op
    pub next : length (steps_under (reactor_lane names.script) told.older)
        ≡ suc (length (steps_under (reactor_lane names.script) placed.older))

  abbrev pub IsNoted : List ClockEvent → ℕ → ℕ → Note → Type 0
  IsNoted es lane place note = IsCallNote es lane place note ⊎ IsDoneNote es lane place note

  pub lift_noted : (a es : List ClockEvent) → Tail a es → (lane place : ℕ) (note : Note) → IsNoted a lane place note →
      IsNoted es lane place note
  lift_noted a es tail lane place note (inl noted) = inl (record {
    number = noted.number;
    away = noted.away;
    placed = lift_made labels a es tail noted.number (allots note.op lane place) noted.placed;
    called = noted.called;
  })
  lift_noted a es tail lane place note (inr noted) = inr (record {
    found = noted.found;
    told =
        lift_made labels a es tail (reactor_lane names.script)
        (shows (event.Done note.op note.code note.size) change.Same noted.found) noted.told;
    placed = lift_made labels a es tail (reactor_lane names.script) (allots note.op lane place) noted.placed;
    home = noted.home;
    next = noted.next;
  })

  module _ (es : List ClockEvent) (all : AreLabelled labels es) (lane place : ℕ) (note : Note) where
    by_call : (m : ℕ) → m ≢ reactor_lane script → (i : ℕ) → get_elem? (labels m) i ≡ some (silent (Put lane place note)) →
        i < length (steps_under m es) → IsCallNote es lane place note
    by_call m away i at less =
        let nowhere : Labelled = silent (Join []) in
        let found =
        before_put (labels m) (silent (Join [])) (puts_behind names logs labels are m away (silent (Join []))) i lane place note at in
        by_index i less found.0 found.1 found.2
      where
        by_index : (i : ℕ) → i < length (steps_under m es) → (label : Labelled) →
            get_elem? (silent (Join []) ∷ labels m) i ≡ some label → IsBehind label lane place note → IsCallNote es lane place note
        by_index zero less label there is =
            absurd (let wrong : silent (Join []) ≡ allots note.op lane place =
            some-injective (silent (Join [])) label there ∙ is.allotted in cc)
        by_index (suc i) less label there is =
            let made = made_of labels es all m i (allots note.op lane place) (there ∙ ap some is.allotted) (omega (arith, less)) in
            record { number = m; away = away; placed = made.0; called = is.called }

    by_reactor : (i : ℕ) → get_elem? (labels (reactor_lane script)) i ≡ some (silent (Put lane place note)) →
        i < length (steps_under (reactor_lane script) es) → IsDoneNote es lane place note
    by_reactor i at less =
        let put = put_at names logs labels are within i lane place note at in
        let next = put.next in
        let placed =
        made_of labels es all (reactor_lane script) put.before (allots note.op lane place) put.allotted
        (omega (arith, less, next)) in
        let told =
        made_of labels es all (reactor_lane script) (suc put.before)
        (shows (event.Done note.op note.code note.size) change.Same put.found) put.told (omega (arith, less, next)) in
        record {
          found = put.found;
          told = told.0;
          placed = placed.0;
          home = put.home;
          next = told.1 ∙ ap suc (sym placed.1);
        }

    -- a full cell was put so
    pub noted : cell_after lane place es ≡ Some note → IsNoted es lane place note
    noted full =
        let put = cell_put lane place note es full in
        let labelled = labelled_tail labels es (put.e ∷ put.older) put.tail all in
        let label : label_of labels put.older put.e ≡ silent (Put lane place note) =
        silent_put (label_of labels put.older put.e) lane place note (labelled.1.step ∙ put.step) in
        let made : IsMade labels es put.e.by (silent (Put lane place note)) =
        record { e = put.e; older = put.older; tail = put.tail; by = refl; is = label } in
        let at = made_there labels es all put.e.by (silent (Put lane place note)) made in
        let less = made_within labels es put.e.by (silent (Put lane place note)) made in
        elim (cases_eq put.e.by (reactor_lane script)) [
          | inl is ↦
              inr (by_reactor (length (steps_under (reactor_lane script) put.older))
              (subst (λ m. get_elem? (labels m) (length (steps_under m put.older)) ≡ some (silent (Put lane place note))) is at)
              (subst (λ m. length (steps_under m put.older) < length (steps_under m es)) is less))
          | inr away ↦ inl (by_call put.e.by away (length (steps_under put.e.by put.older)) at less)
        ]

  -- what a look saw at a place was there
  pub seen : (guards seats : ℕ) (es : List ClockEvent) → IsSoundHistory guards seats es → AreLabelled labels es →
      (n lane place : ℕ) (note : Note) → IsMade labels es n (silent (Look lane place (Some note))) →
      IsNoted es lane place note
  seen guards seats es sound all n lane place note made =
      let labelled = labelled_tail labels es (made.e ∷ made.older) made.tail all in
      let step : made.e.step ≡ Look lane place (Some note) = sym labelled.1.step ∙ ap step_of made.is in
      let here = sound_tail guards seats (made.e ∷ made.older) es made.tail sound in
      let fits : Fits guards made.older made.e.by (Look lane place (Some note)) =
      subst (Fits guards made.older made.e.by) step here.2 in
      lift_noted made.older es (tail_more made.older made.e es made.tail) lane place note
      (noted made.older labelled.0 lane place note (sym fits))

  -- it is of an operation of the lane, where that isn't the reactor
  pub record IsNotedOp (lane : ℕ) (op : ℕ) : Type 0 where
    pub op_is : is_op names.script op ≡ true
    pub unentered : is_inline names.script op ≡ false
    pub home : home_lane names.script op ≡ lane

  asked_by : (lane act : ℕ) → lane ≢ reactor_lane script → lane ≡ asked_lane script act →
      (act_passes asks_its_lane script act ≡ true) × (home_lane script act ≡ lane)
  asked_by lane act away is = by (act_passes asks_its_lane script act) refl is
    where
      by : (b : Bool) → act_passes asks_its_lane script act ≡ b → lane ≡ cond b (home_lane script act) (reactor_lane script) →
          (act_passes asks_its_lane script act ≡ true) × (home_lane script act ≡ lane)
      by true asks same = (asks, sym same)
      by false asks same = absurd (away same)

  pub posting_of : (act : ℕ) → act_passes asks_its_lane script act ≡ true → is_act is_posting script act ≡ true
  posting_of act passes = by_entry (slice_get script.acts act) refl
    where
      by_entry : (found : Option Entry) → slice_get script.acts act ≡ found → is_act is_posting script act ≡ true
      by_entry None stands =
          absurd (let none : act_passes asks_its_lane script act ≡ false = rw stands refl in
          never (act_passes asks_its_lane script act) none passes)
      by_entry (Some e) stands =
          let is : act_passes asks_its_lane script act ≡ asks_its_lane e.act = rw stands refl in
          let posts : is_act is_posting script act ≡ is_posting e.act = rw stands refl in
          posts ∙ (sym (posting_asks e.act) ∙ (sym is ∙ passes))

  -- a posting, where a call put it
  pub record IsPostedOp (lane op : ℕ) : Type 0 where
    pub noted : IsNotedOp lane op
    pub posts : is_act is_posting names.script op ≡ true

  pub call_note_op : IsWellFormed names.script → (es : List ClockEvent) → AreLabelled labels es → (lane place : ℕ) (note : Note) →
      lane ≢ reactor_lane names.script → IsCallNote es lane place note → IsPostedOp lane note.op
  call_note_op well es all lane place note away is =
      let at = made_there labels es all is.number (allots note.op lane place) is.placed in
      let asked : IsAskedPlace script note.op lane =
      asked_label names well logs labels are is.number (length (steps_under is.number is.placed.older))
      (allots note.op lane place) at is.away in
      let on = asked_by lane note.op away asked.asks in
      let posts = posting_of note.op on.0 in
      record {
        noted = record { op_is = posting_op script note.op posts; unentered = asked.unentered; home = on.1 };
        posts = posts;
      }

  pub noted_op : IsWellFormed names.script → (es : List ClockEvent) → AreLabelled labels es → (s : ContextState) →
      AreDated names.script (shown_in labels es) s → (lane place : ℕ) (note : Note) → lane ≢ reactor_lane names.script →
      IsNoted es lane place note → IsNotedOp lane note.op
  noted_op well es all s dated lane place note away (inl is) = (call_note_op well es all lane place note away is).noted
  noted_op well es all s dated lane place note away (inr is) =
      let kind =
      dated.kind note.op note.code note.size _
      (made_shown labels es (reactor_lane script) (event.Done note.op note.code note.size) change.Same is.found is.told) in
      record { op_is = kind.op; unentered = kind.unentered; home = sym is.home }
