-- Which parts of a lane executed an operation or took a request, and what their looks are among the lane's steps.
use Rattle.std.proofs.Common.{◌≡◌, ◌≢◌, ℕ, zero, suc, ◌+◌, ◌≤◌, Bool, true, false, List, [], ◌∷◌, ◌++◌, None, Some, inl, inr, length, replicate, refl, sym, ap, ◌∙◌, arith}
use Rattle.std.specs.Prelude.{◌||◌, ◌==◌, nat_lt, slice_index, slice_index_or}
use Rattle.std.specs.List.{list_any}
use Rattle.std.proofs.lemmas.Bool.{cases_eq, eqb-true}
use Rattle.std.proofs.lemmas.List.Folds.{list_any-append}
use Rattle.std.proofs.lemmas.List.{get_or-set_other, map-append}
use mathlib.Core.Option.{some}
use lib.ListN.{get_elem?}
use Rattle.asio_types.specs.Code.{class_of_code}
use Rattle.asio_types.specs.declared.event.Event.{Event}
use Rattle.asio_types.specs.declared.event.Event.TheVariants as event
use Rattle.asio_types.specs.declared.number.Lane.{Lane}
use Rattle.asio_types.specs.declared.outside.Point.{Point}
use Rattle.asio_types.specs.declared.outside.Point.TheVariants as point
use Rattle.session_script.specs.Lanes.{is_inline, lane_of}
use Rattle.session_script.specs.Script.{ScriptModel}
use Rattle.session_script.specs.WellFormed.{IsWellFormed}
use Rattle.history_rules.specs.Legal.{reactor_after}
use Rattle.history_rules.specs.Order.{was_taken}
use Rattle.history_rules.specs.State.{ReactorHalf}
use Rattle.history_rules.specs.Time.{next_time}
use Rattle.reactor_turns.proofs.SummingLemmas.{one_if}
use Rattle.reactor_turns.proofs.TakenLemmas.{done-taken, last-taken, take-taken, tick-taken}
use Rattle.strand_core.specs.Execution.{events_of}
use Rattle.strand_core.specs.declared.posted.Posted.{Posted}
use Rattle.strand_core.specs.declared.posted.Posted.TheVariants as posted
use Rattle.lane_clock.specs.declared.found.Change.{Change}
use Rattle.lane_clock.specs.declared.note.Note.{Note}
use Rattle.lane_clock.specs.declared.step.ClockStep.{ClockStep}
use Rattle.lane_clock.specs.declared.step.ClockStep.TheVariants.{Load}
use Rattle.lane_clock.specs.History.{ClockEvent}
use Rattle.lane_clock.proofs.KnownLemmas.{at_within}
use Rattle.lane_clock.proofs.MomentLemmas.{Tail}
use Rattle.lane_map.specs.LaneNumbers.{cells_of, home_lane, reactor_lane}
use Rattle.lane_logs.specs.declared.log.LogEntry.{LogEntry}
use Rattle.lane_logs.specs.Half.{half_from}
use Rattle.lane_logs.specs.Labels.{Labelled, entries_in, events_in, silent}
use Rattle.lane_logs.specs.LaneLog.{AreParts, MayFollow, entries_after, half_after, has_begun, is_begin_of, opener_after}
use Rattle.lane_logs.specs.Names.{IsNamedMark, SessionNames}
use Rattle.lane_logs.specs.Parts.{ExecutedPart, Part, TurnEnd, TurnPart, TurnStart, end_labels, executed, failed, fails, fault_label, idle, labels_in, labels_of, missing, next_place, passes, places_used, takes, tells, turned}
use Rattle.lane_logs.specs.ReactorTurns.{AreTold, EndsTurn, MayStartTurn, done_labels, done_note, none_told, one_told, point_event, start_event}
use Rattle.lane_logs.specs.Stand.{is_running_round}
use Rattle.lane_logs.proofs.LabelLemmas.{entries-append}
use Rattle.history_merge.proofs.AlikeLemmas.{is_not, never}
use Rattle.history_merge.proofs.BodyLaneLemmas.{AreOwn, execution_is_own}
use Rattle.history_merge.proofs.DrawnLemmas.{drawn_shown}
use Rattle.history_merge.proofs.HistoryLemmas.{label_of}
use Rattle.history_merge.proofs.PartLemmas.{all_made, at_left, at_right, made-append}
use Rattle.history_merge.proofs.PlacedLemmas.{total}
use Rattle.history_merge.proofs.RestingLemmas.{goes_on, half-append, look_entries, put_entries, turn_half}

-- two labels that pass a test are two of them
module _ (labels : ℕ → List Labelled) (test : Labelled → Bool) where
  abbrev all_of : List ClockEvent → ℕ
  all_of es = total labels (λ n label. test label) es

  abbrev first_label : Labelled → List ClockEvent → Labelled
  first_label d [] = d
  first_label d (e ∷ es) = label_of labels es e

  same_label : (a e : ClockEvent) (older es : List ClockEvent) → a ∷ older ≡ e ∷ es →
      label_of labels older a ≡ label_of labels es e
  same_label a e older es same = ap (first_label (label_of labels older a)) same

  one_made : (a : ClockEvent) (older es : List ClockEvent) → Tail (a ∷ older) es →
      test (label_of labels older a) ≡ true → 1 ≤ all_of es
  one_made a older [] tail is = absurd (cc)
  one_made a older (e ∷ es) (inl same) is =
      let here : one_if (test (label_of labels es e)) ≡ 1 =
      ap one_if (ap test (sym (same_label a e older es same)) ∙ is) in
      omega (arith, here)
  one_made a older (e ∷ es) (inr tail) is = let rest = one_made a older es tail is in omega (arith, rest)

  pub two_made : (a b : ClockEvent) (old older es : List ClockEvent) → Tail (a ∷ old) es → Tail (b ∷ older) es →
      test (label_of labels old a) ≡ true → test (label_of labels older b) ≡ true →
      label_of labels old a ≢ label_of labels older b → 2 ≤ all_of es
  two_made a b old older [] one two first second apart = absurd (cc)
  two_made a b old older (e ∷ es) (inl one) (inl two) first second apart =
      absurd (apart (same_label a e old es one ∙ sym (same_label b e older es two)))
  two_made a b old older (e ∷ es) (inl one) (inr two) first second apart =
      let here : one_if (test (label_of labels es e)) ≡ 1 =
      ap one_if (ap test (sym (same_label a e old es one)) ∙ first) in
      let rest = one_made b older es two second in
      omega (arith, here, rest)
  two_made a b old older (e ∷ es) (inr one) (inl two) first second apart =
      let here : one_if (test (label_of labels es e)) ≡ 1 =
      ap one_if (ap test (sym (same_label b e older es two)) ∙ second) in
      let rest = one_made a old es one first in
      omega (arith, here, rest)
  two_made a b old older (e ∷ es) (inr one) (inr two) first second apart =
      let rest = two_made a b old older es one two first second apart in omega (arith, rest)

-- later parts come at later places
pub next_later : (later : List Part) (part : Part) (earlier : List Part) →
    next_place earlier + places_used part ≤ next_place (later ++ part ∷ earlier)
next_later [] part earlier = omega arith
next_later (other ∷ later) part earlier = let rest = next_later later part earlier in omega (arith, rest)

-- a part's labels stand behind those of earlier parts
pub part_stands : (made : Part → List Labelled) (later : List Part) (part : Part) (earlier : List Part) (j : ℕ)
    (label : Labelled) → get_elem? (made part) j ≡ some label →
    get_elem? (all_made Part made (later ++ part ∷ earlier)) (length (all_made Part made earlier) + j) ≡ some label
part_stands made later part earlier j label is =
    let before : List Labelled = all_made Part made earlier in
    let rest = made-append Part made later (part ∷ earlier) in
    let here : get_elem? (before ++ made part) (length before + j) ≡ some label =
    at_right before (made part) (length before + j) j refl ∙ is in
    ap (λ xs. get_elem? xs (length before + j)) rest.1
    ∙ (at_left (before ++ made part) rest.0 (length before + j)
    (at_within (before ++ made part) (length before + j) label here) ∙ here)

pub look_stands : (made : Part → List Labelled) (later : List Part) (part : Part) (earlier : List Part) (label : Labelled)
    (more : List Labelled) → made part ≡ label ∷ more →
    get_elem? (all_made Part made (later ++ part ∷ earlier)) (length (all_made Part made earlier)) ≡ some label
look_stands made later part earlier label more is =
    let size : length (all_made Part made earlier) ≡ length (all_made Part made earlier) + 0 = omega arith in
    ap (get_elem? (all_made Part made (later ++ part ∷ earlier))) size
    ∙ part_stands made later part earlier 0 label (ap (λ xs. get_elem? xs 0) is)

module _ (names : SessionNames) (well : IsWellFormed names.script) (opener : List ClockStep) (lane : ℕ) where
  abbrev script : ScriptModel
  script = names.script

  -- an operation that has begun in a lane's parts did so in one of them
  pub record HasExecuted (op : ℕ) (parts : List Part) : Type 0 where
    pub later : List Part
    pub part : ExecutedPart
    pub earlier : List Part
    pub are : parts ≡ later ++ executed part ∷ earlier
    pub may : MayFollow names opener lane earlier (executed part)
    pub it : part.note.op ≡ op

  executed_later : (op : ℕ) (part : Part) (parts : List Part) → HasExecuted op parts → HasExecuted op (part ∷ parts)
  executed_later op part parts has = record {
    later = part ∷ has.later;
    part = has.part;
    earlier = has.earlier;
    are = ap (λ rest. part ∷ rest) has.are;
    may = has.may;
    it = has.it;
  }

  -- behind its begin an execution begins only what executes inside its call
  own_begins : (op : ℕ) (of : Lane) (events : List Event) → AreOwn script of events → is_inline script op ≡ false →
      list_any (is_begin_of op) events ≡ false
  own_begins op of [] own outside = refl
  own_begins op of (event.Begin o code size ∷ events) own outside =
      let other : (o == op) ≡ false =
      is_not (o == op) (λ same.
      never (is_inline script op) outside (ap (is_inline script) (sym (eqb-true o op same)) ∙ own.0.0)) in
      ap (λ b. b || list_any (is_begin_of op) events) other ∙ own_begins op of events own.1 outside
  own_begins op of (event.Call a ∷ events) own outside = own_begins op of events own.1 outside
  own_begins op of (event.Stop (Some a) ∷ events) own outside = own_begins op of events own.1 outside
  own_begins op of (event.Stop None ∷ events) own outside = absurd own.0
  own_begins op of (event.Back a ∷ events) own outside = own_begins op of events own.1 outside
  own_begins op of (event.End o mark ∷ events) own outside = own_begins op of events own.1 outside
  own_begins op of (other ∷ events) own outside = absurd own.0

  executed_begins : (op : ℕ) → is_inline script op ≡ false → (parts : List Part) (part : ExecutedPart) →
      MayFollow names opener lane parts (executed part) →
      has_begun op (events_in (entries_in (labels_in script lane (executed part)))) ≡ true → part.note.op ≡ op
  executed_begins op outside parts part may is =
      let end : Posted =
      posted.End part.note.op
      (record { mark = may.whole.mark; class = class_of_code part.note.code; begun = may.whole.begun }) in
      let rest : List Event = events_of script (may.whole.body ++ end ∷ []) in
      let shown : events_of script part.calls ≡ event.Begin part.note.op part.note.code part.note.size ∷ rest =
      ap (events_of script) may.whole.is in
      let own =
      execution_is_own script well (IsNamedMark names) (lane_of script part.note.op) part.note.op part.note.code part.note.size
      part.calls rest refl may.whole shown in
      let none = own_begins op (lane_of script part.note.op) rest own outside in
      let begins : (part.note.op == op || list_any (is_begin_of op) rest) ≡ true =
      sym (ap (list_any (is_begin_of op)) (drawn_shown script may.drawn ∙ shown)) ∙ is in
      by_test (part.note.op == op) refl (ap (λ b. part.note.op == op || b) (sym none) ∙ begins)
    where
      by_test : (b : Bool) → (part.note.op == op) ≡ b → (part.note.op == op || false) ≡ true → part.note.op ≡ op
      by_test true same is = eqb-true part.note.op op same
      by_test false other is = absurd (never (part.note.op == op || false) (ap (λ b. b || false) other) is)

  pub begun_part : lane ≢ reactor_lane script → (op : ℕ) → is_inline script op ≡ false → (parts : List Part) →
      AreParts names opener lane parts → has_begun op (events_in (entries_after names opener lane parts)) ≡ true →
      HasExecuted op parts
  begun_part away op outside [] are is = absurd (cc)
  begun_part away op outside (part ∷ parts) are is =
      let before : List Event = events_in (entries_after names opener lane parts) in
      let now : List Event = events_in (entries_in (labels_in script lane part)) in
      let both : events_in (entries_after names opener lane (part ∷ parts)) ≡ before ++ now =
      ap events_in (entries-append (labels_of script lane parts) (labels_in script lane part))
      ∙ map-append (λ (entry : LogEntry). entry.event) (entries_after names opener lane parts)
      (entries_in (labels_in script lane part)) in
      let either : (has_begun op before || has_begun op now) ≡ true =
      sym (ap (list_any (is_begin_of op)) both ∙ list_any-append (is_begin_of op) before now) ∙ is in
      by_test (has_begun op before) refl either (λ earlier. begun_part away op outside parts are.0 earlier)
    where
      by_part : (part : Part) → MayFollow names opener lane parts part →
          has_begun op (events_in (entries_in (labels_in script lane part))) ≡ true → HasExecuted op (part ∷ parts)
      by_part (idle step) may is = absurd (cc)
      by_part (executed part) may is = record {
        later = [];
        part = part;
        earlier = parts;
        are = refl;
        may = may;
        it = executed_begins op outside parts part may is;
      }
      by_part (turned part) may is = absurd (away may.reactor)
      by_part (failed part) may is = absurd (away may.reactor)
      by_part (missing place note) may is = absurd (cc)

      by_test : (b : Bool) → has_begun op (events_in (entries_after names opener lane parts)) ≡ b →
          (has_begun op (events_in (entries_after names opener lane parts))
          || has_begun op (events_in (entries_in (labels_in script lane part)))) ≡ true →
          (has_begun op (events_in (entries_after names opener lane parts)) ≡ true → HasExecuted op parts) →
          HasExecuted op (part ∷ parts)
      by_test true before is more = executed_later op part parts (more before)
      by_test false before is more =
          by_part part are.1
          (sym (ap (λ b. b || has_begun op (events_in (entries_in (labels_in script lane part)))) before) ∙ is)

  -- a request that was taken was taken in one of the reactor's turns
  pub record HasTaken (op : ℕ) (parts : List Part) : Type 0 where
    pub later : List Part
    pub part : TurnPart
    pub earlier : List Part
    pub are : parts ≡ later ++ turned part ∷ earlier
    pub may : MayFollow names opener lane earlier (turned part)
    pub note : Note
    pub changes : Change
    pub start : part.start ≡ takes note changes
    pub it : note.op ≡ op

  taken_later : (op : ℕ) (part : Part) (parts : List Part) → HasTaken op parts → HasTaken op (part ∷ parts)
  taken_later op part parts has = record {
    later = part ∷ has.later;
    part = has.part;
    earlier = has.earlier;
    are = ap (λ rest. part ∷ rest) has.are;
    may = has.may;
    note = has.note;
    changes = has.changes;
    start = has.start;
    it = has.it;
  }

  -- completions and failures take nothing
  told_taken : (from : ReactorHalf) {labels : List Labelled} → AreTold script names.told from labels →
      (half_from script names.told from (entries_in labels)).taken ≡ from.taken
  told_taken from none_told = refl
  told_taken from (one_told {labels} op with_code size place found before may) =
      let half : ReactorHalf = half_from script names.told from (entries_in labels) in
      let later : ReactorHalf = reactor_after script names.told half (event.Done op with_code size) in
      ap (λ (r : ReactorHalf). r.taken)
      (half-append script names.told from labels (done_labels script op with_code size place found)
      ∙ ap (λ entries. half_from script names.told later entries)
      (put_entries (nat_lt place (slice_index (cells_of script) (home_lane script op))) (home_lane script op) place
      (done_note op with_code size)))
      ∙ (done-taken script half op ∙ told_taken from before)

  end_taken : (from : ReactorHalf) (end : TurnEnd) → EndsTurn script names.told from end →
      (half_from script names.told from (entries_in (end_labels end))).taken ≡ from.taken
  end_taken from (tells labels) all = told_taken from all.told_so
  end_taken from (fails found) all = refl

  point_taken : (half : ReactorHalf) (to : Point) → (reactor_after script names.told half (point_event to)).taken ≡ half.taken
  point_taken half (point.Time now) = tick-taken script names.told half now
  point_taken half point.Last = last-taken names.told half

  module _ (here : lane ≡ reactor_lane script) (op : ℕ) where
    abbrev half : List Part → ReactorHalf
    half parts = half_after names opener lane parts

    first_none : (n k : ℕ) → slice_index_or (replicate n false) k false ≡ false
    first_none zero k = refl
    first_none (suc n) zero = refl
    first_none (suc n) (suc k) = first_none n k

    -- a turn takes it, or it was taken before
    turn_takes : (parts : List Part) (part : TurnPart) → MayFollow names opener lane parts (turned part) →
        (start : TurnStart) → part.start ≡ start →
        MayStartTurn script (half parts) (is_running_round script (opener_after names opener lane parts)) part.load start →
        was_taken (reactor_after script names.told (half parts) (start_event start)) op ≡ true →
        (was_taken (half parts) op ≡ true → HasTaken op parts) → HasTaken op (turned part ∷ parts)
    turn_takes parts part may (takes note changes) start starts is more = elim (cases_eq op note.op) [
      | inl same ↦
          record {
            later = [];
            part = part;
            earlier = parts;
            are = refl;
            may = may;
            note = note;
            changes = changes;
            start = start;
            it = sym same;
          }
      | inr other ↦
          taken_later op (turned part) parts
          (more
          (sym (ap (λ (taken : List Bool). slice_index_or taken op false)
          (take-taken script names.told (half parts) note.op well)
          ∙ get_or-set_other (half parts).taken note.op op true false other) ∙ is))
    ]
    turn_takes parts part may (passes shown) start starts is more =
        taken_later op (turned part) parts
        (more
        (sym (ap (λ shown. was_taken (reactor_after script names.told (half parts) shown) op) starts.next
        ∙ ap (λ (taken : List Bool). slice_index_or taken op false)
        (point_taken (half parts) (next_time script (half parts)))) ∙ is))

    pub taken_part : (parts : List Part) → AreParts names opener lane parts → was_taken (half parts) op ≡ true →
        HasTaken op parts
    taken_part [] are is =
        absurd (never (was_taken (half []) op) (first_none (length script.acts) op) is)
    taken_part (part ∷ parts) are is =
        by_part part are.1
        (sym (ap (λ r. was_taken r op) (goes_on names opener lane here parts part)) ∙ is)
        (λ before. taken_part parts are.0 before)
      where
        by_part : (part : Part) → MayFollow names opener lane parts part →
            was_taken (half_from script names.told (half parts) (entries_in (labels_in script lane part))) op ≡ true →
            (was_taken (half parts) op ≡ true → HasTaken op parts) → HasTaken op (part ∷ parts)
        by_part (idle step) may is more = taken_later op (idle step) parts (more is)
        by_part (executed part) may is more = let strand = may.strand in absurd (omega (arith, strand, here))
        by_part (turned part) may is more =
            let started : ReactorHalf = reactor_after script names.told (half parts) (start_event part.start) in
            turn_takes parts part may part.start refl may.starts
            (sym (ap (λ (r : ReactorHalf). was_taken r op) (turn_half script names.told lane (half parts) part)
            ∙ ap (λ (taken : List Bool). slice_index_or taken op false) (end_taken started part.end may.ends)) ∙ is) more
        by_part (failed part) may is more =
            taken_later op (failed part) parts
            (more
            (sym (ap (λ entries. was_taken (half_from script names.told (half parts) entries) op)
            (look_entries (nat_lt part.place (slice_index (cells_of script) lane)) lane part.place
            (silent (Load part.load) ∷ fault_label part.drawn ∷ []))) ∙ is))
        by_part (missing place note) may is more = taken_later op (missing place note) parts (more is)
