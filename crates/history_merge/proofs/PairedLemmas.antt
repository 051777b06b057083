-- In a list of a handler's calls each place that an act gets, and each stop that it makes, comes behind its call.
use Rattle.std.proofs.Common.{◌≡◌, ◌≢◌, ℕ, zero, suc, ◌+◌, ◌-◌, ◌≤◌, Bool, true, false, cond, List, [], ◌∷◌, ◌++◌, Some, take, map, refl, arith}
use Rattle.std.specs.Prelude.{◌==◌, nat_lt, slice_index}
use Rattle.asio_types.specs.declared.event.Event.{Event}
use Rattle.asio_types.specs.declared.event.Event.TheVariants as event
use Rattle.session_script.specs.Script.{ScriptModel}
use Rattle.strand_core.specs.declared.posted.Posted.{Posted}
use Rattle.lane_clock.specs.declared.note.Note.{Note}
use Rattle.lane_clock.specs.declared.step.ClockStep.{ClockStep}
use Rattle.lane_clock.specs.declared.step.ClockStep.TheVariants.{Put}
use Rattle.lane_map.specs.LaneNumbers.{asked_lane, cells_of, reactor_lane}
use Rattle.lane_logs.specs.Drops.{is_call_of}
use Rattle.lane_logs.specs.Labels.{AreDrawn, IsDrawn, Labelled, allots, begins, call_note, dispatches, ends, none_drawn, one_drawn, posts, returns, shows, silent, stops_context}
use Rattle.lane_logs.specs.LaneLog.{MayFollow}
use Rattle.lane_logs.specs.Names.{SessionNames}
use Rattle.lane_logs.specs.OpenerLog.{ClosedPart, Closes, Looked, MayFollowOpened, OpenerPart, closed, closing_change, look_label, opened, opener_labels, resting, restarted}
use Rattle.lane_logs.specs.Parts.{Part, executed, failed, idle, labels_in, missing, turned}
use Rattle.lane_logs.specs.WorkerLog.{MayFollowStopped, WorkerPart, stopped, waiting}
use Rattle.reactor_turns.proofs.SummingLemmas.{one_if}
use Rattle.history_merge.proofs.PartLemmas.{Follow, all_made, labels_worker}
use Rattle.history_merge.proofs.TimesLemmas.{times, times-append}

-- the label shows the call of an act
abbrev pub is_call_label : ℕ → Labelled → Bool
is_call_label act (silent step) = false
is_call_label act (shows shown changes found) = is_call_of act shown
is_call_label act (allots other lane place) = false

-- the label is what the call of an act leads to: its place, or its stop
abbrev pub is_stop_of : ℕ → Event → Bool
is_stop_of act (event.Stop (Some other)) = other == act
is_stop_of act _ = false

abbrev pub is_led_label : ℕ → Labelled → Bool
is_led_label act (silent step) = false
is_led_label act (shows shown changes found) = is_stop_of act shown
is_led_label act (allots other lane place) = other == act

-- with so many that lead, each that follows has one that leads it
module _ (leads follows : Labelled → Bool) where
  abbrev pub Paired : ℕ → List Labelled → Type 0
  Paired n [] = Unit {0}
  Paired n (label ∷ labels) =
      (one_if (follows label) ≤ n + one_if (leads label))
      × Paired (n + one_if (leads label) - one_if (follows label)) labels

  pub paired_more : (labels : List Labelled) (n m : ℕ) → n ≤ m → Paired n labels → Paired m labels
  paired_more [] n m less is = tt
  paired_more (label ∷ labels) n m less is = (
    omega (arith, less, is.0),
    paired_more labels (n + one_if (leads label) - one_if (follows label))
        (m + one_if (leads label) - one_if (follows label)) (omega (arith, less)) is.1,
  )

  pub paired-append : (xs ys : List Labelled) (n : ℕ) → Paired n xs → Paired 0 ys → Paired n (xs ++ ys)
  paired-append [] ys n first second = paired_more ys 0 n (omega arith) second
  paired-append (x ∷ xs) ys n first second =
      (first.0, paired-append xs ys (n + one_if (leads x) - one_if (follows x)) first.1 second)

  -- so of the first labels no more follow than lead
  pub paired_times : (labels : List Labelled) (n k : ℕ) → Paired n labels →
      times follows (take k labels) ≤ n + times leads (take k labels)
  paired_times labels n zero is = omega arith
  paired_times [] n (suc k) is = omega arith
  paired_times (label ∷ labels) n (suc k) is =
      let rest = paired_times labels (n + one_if (leads label) - one_if (follows label)) k is.1 in
      omega (arith, rest, is.0)

  -- where nothing follows
  pub paired_free : (labels : List Labelled) (n : ℕ) → times follows labels ≡ 0 → Paired n labels
  paired_free [] n none = tt
  paired_free (label ∷ labels) n none =
      (omega (arith, none), paired_free labels (n + one_if (leads label) - one_if (follows label)) (omega (arith, none)))

module _ (act : ℕ) where
  abbrev Calls : Labelled → Bool
  Calls label = is_call_label act label

  abbrev Led : Labelled → Bool
  Led label = is_led_label act label

  abbrev pub ArePaired : List Labelled → Type 0
  ArePaired labels = Paired Calls Led 0 labels

  put_free : (within : Bool) (lane place : ℕ) (note : Note) → times Led (cond within (silent (Put lane place note) ∷ []) []) ≡ 0
  put_free true lane place note = refl
  put_free false lane place note = refl

  module _ (script : ScriptModel) where
    call_paired : {made : Posted} {labels : List Labelled} → IsDrawn script made labels → ArePaired labels
    call_paired begins = (omega arith, tt)
    call_paired (posts {act = other} {place} {found} isnt outside) = (
      omega arith,
      (
        omega arith,
        paired_free Calls Led _ _
            (put_free (nat_lt place (slice_index (cells_of script) (asked_lane script other))) (asked_lane script other) place
            (call_note other)),
      ),
    )
    call_paired (dispatches isnt within) = (omega arith, tt)
    call_paired (stops_context is) = (omega arith, (omega arith, tt))
    call_paired returns = (omega arith, tt)
    call_paired ends = (omega arith, tt)

    pub calls_paired : {calls : List Posted} {labels : List Labelled} → AreDrawn script calls labels → ArePaired labels
    calls_paired none_drawn = tt
    calls_paired (one_drawn {calls} {call = one} {labels} {made} before now) =
        paired-append Calls Led labels made 0 (calls_paired before) (call_paired now)

  looks_free : (looks : List Looked) → times Led (map look_label looks) ≡ 0
  looks_free [] = refl
  looks_free (look ∷ looks) = let rest = looks_free looks in omega (arith, rest)

  -- so it is of the labels of each part, but of a turn of the reactor
  pub lane_paired : (names : SessionNames) (opener : List ClockStep) (lane : ℕ) → lane ≢ reactor_lane names.script →
      (earlier : List Part) (part : Part) → MayFollow names opener lane earlier part →
      ArePaired (labels_in names.script lane part)
  lane_paired names opener lane away earlier (idle step) may = (omega arith, tt)
  lane_paired names opener lane away earlier (executed part) may =
      (omega arith, (omega arith, calls_paired names.script may.drawn))
  lane_paired names opener lane away earlier (turned part) may = absurd (away may.reactor)
  lane_paired names opener lane away earlier (failed part) may = absurd (away may.reactor)
  lane_paired names opener lane away earlier (missing place note) may = (omega arith, tt)

  pub worker_paired : (script : ScriptModel) (opener : List ClockStep) (earlier : List WorkerPart) (part : WorkerPart) →
      MayFollowStopped script opener earlier part → ArePaired (labels_worker part)
  worker_paired script opener earlier (waiting step) may = (omega arith, tt)
  worker_paired script opener earlier (stopped drawn) may = (omega arith, tt)

  closing_free : (script : ScriptModel) (lists : ℕ → List ClockStep) (earlier : List OpenerPart) (part : ClosedPart)
      (shown : Event) → Closes script lists earlier part shown → one_if (is_stop_of act shown) ≡ 0
  closing_free script lists earlier part event.Ended closes = refl
  closing_free script lists earlier part event.Stopped closes = refl
  closing_free script lists earlier part event.Polled closes = refl
  closing_free script lists earlier part other closes = absurd closes

  pub opener_paired : (script : ScriptModel) (lists : ℕ → List ClockStep) (earlier : List OpenerPart) (part : OpenerPart) →
      MayFollowOpened script lists earlier part → ArePaired (opener_labels part)
  opener_paired script lists earlier (resting step) may = (omega arith, tt)
  opener_paired script lists earlier (opened calls labels) may = calls_paired script may.drawn
  opener_paired script lists earlier (restarted drawn) may = (omega arith, tt)
  opener_paired script lists earlier (closed part) may =
      let last : List Labelled = shows part.shown (closing_change part.shown) part.drawn ∷ [] in
      let looks = looks_free part.looks in
      let both = times-append Led (map look_label part.looks) last in
      let one : one_if (is_stop_of act part.shown) ≡ 0 = closing_free script lists earlier part part.shown may.closes in
      let none : times Led last ≡ 0 = omega (arith, one) in
      paired_free Calls Led (opener_labels (closed part)) 0 (omega (arith, looks, both, none))

  -- and of all parts
  pub parts_paired : (P : Type 0) (made : P → List Labelled) (May : List P → P → Type 0) →
      ((earlier : List P) (part : P) → May earlier part → ArePaired (made part)) → (parts : List P) →
      Follow P made May parts → ArePaired (all_made P made parts)
  parts_paired P made May each [] all = tt
  parts_paired P made May each (part ∷ parts) all =
      paired-append Calls Led (all_made P made parts) (made part) 0 (parts_paired P made May each parts all.0)
      (each parts part all.1)
