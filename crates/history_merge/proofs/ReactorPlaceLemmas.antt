-- The reactor gets each asynchronous operation one place at most, on the operation's own lane: it completes each once.
use Rattle.std.proofs.Common.{◌≡◌, ℕ, zero, suc, ◌+◌, ◌≤◌, Bool, true, false, cond, List, [], ◌∷◌, ◌++◌, None, inl, inr, length, replicate, refl, sym, ap, subst, ◌∙◌, arith}
use Rattle.std.specs.Prelude.{◌&&◌, ◌||◌, ◌==◌, nat_lt, slice_index}
use Rattle.std.proofs.lemmas.Bool.{cases_eq, eq-eqb, ne_eqb}
use Rattle.std.specs.List.{slice_index_or, slice_set}
use Rattle.std.proofs.lemmas.List.{get_or-set_other, get_or-set_same}
use Rattle.asio_types.specs.declared.event.Event.TheVariants as event
use Rattle.asio_types.specs.declared.outside.Point.{Point}
use Rattle.asio_types.specs.declared.outside.Point.TheVariants as point
use Rattle.session_script.specs.Script.{ScriptModel}
use Rattle.session_script.specs.WellFormed.{IsWellFormed}
use Rattle.session_script.proofs.PlacingLemmas.{act_fits}
use Rattle.history_rules.specs.Kinds.{is_act}
use Rattle.history_rules.specs.Legal.{reactor_after}
use Rattle.history_rules.specs.Order.{was_taken}
use Rattle.history_rules.specs.State.{ReactorHalf}
use Rattle.history_rules.specs.Time.{next_time}
use Rattle.reactor_turns.specs.Ahead.{IsHalfOf, IsOpenRequest, MayPassTo}
use Rattle.reactor_turns.specs.Standing.{is_awaited, stands}
use Rattle.reactor_turns.proofs.AheadLemmas.{event_leaves, starts_bounded}
use Rattle.reactor_turns.proofs.StandingLemmas.{stands-done, stands-last, stands-take, stands-tick}
use Rattle.reactor_turns.proofs.SummingLemmas.{one_if}
use Rattle.reactor_turns.proofs.TakenLemmas.{done-taken, last-taken, take-taken, tick-taken}
use Rattle.lane_clock.specs.declared.found.Change.TheVariants as change
use Rattle.lane_clock.specs.declared.found.Found.{Found}
use Rattle.lane_clock.specs.declared.note.Note.{Note}
use Rattle.lane_clock.specs.declared.step.ClockStep.{ClockStep}
use Rattle.lane_clock.specs.declared.step.ClockStep.TheVariants.{Load, Look, Put}
use Rattle.lane_map.specs.LaneNumbers.{cells_of, home_lane, reactor_lane}
use Rattle.lane_logs.specs.Half.{half_from}
use Rattle.lane_logs.specs.Labels.{Labelled, allots, entries_in, shows, silent}
use Rattle.lane_logs.specs.LaneLog.{AreParts, MayFollow, half_after}
use Rattle.lane_logs.specs.Names.{SessionNames}
use Rattle.lane_logs.specs.Parts.{FailedPart, Part, TurnEnd, TurnPart, TurnStart, are_broken, end_labels, executed, failed, fails, fault_label, idle, is_broken, is_failing, labels_in, labels_of, looks_empty, missing, passes, start_labels, takes, tells, turned}
use Rattle.lane_logs.specs.ReactorTurns.{AreTold, EndsTurn, MayStartTurn, done_labels, done_note, may_take, none_told, one_told, point_event, start_event}
use Rattle.lane_logs.proofs.RequestLemmas.{request_within, asked, asks_kind}
use Rattle.history_merge.proofs.BackLemmas.{allots_for}
use Rattle.history_merge.proofs.PartLemmas.{Every, every-append}
use Rattle.history_merge.proofs.RestingLemmas.{IsResting, either_false, goes_on, half-append, look_entries, put_entries, rests, turn_half}
use Rattle.history_merge.proofs.TimesLemmas.{times, times-append}

-- a request that may be taken
open_request : (script : ScriptModel) (half : ReactorHalf) (a : ℕ) → may_take script half a ≡ true →
    IsOpenRequest script half a
open_request script half a may =
    let request = asked script half a may in
    record {
      act = request.given;
      is = request.is;
      asks = asks_kind request.given request.asks;
      untaken = request.untaken;
    }

module _ (script : ScriptModel) where
  -- an asynchronous operation
  abbrev pub awaits : ℕ → Bool
  awaits op = is_act is_awaited script op

  -- each operation got so many places, and stands in so many more to be completed: once at most, if it was taken
  abbrev pub IsBounded : ReactorHalf → (ℕ → ℕ) → Type 0
  IsBounded half k = (op : ℕ) → k op + stands op half ≤ one_if (awaits op && was_taken half op)

  -- a place that the reactor gets is on the lane of an asynchronous operation
  abbrev pub IsTold : Labelled → Type 0
  IsTold (silent step) = Unit {0}
  IsTold (shows shown changes found) = Unit {0}
  IsTold (allots op lane place) = (lane ≡ home_lane script op) × (awaits op ≡ true)

  bounded_same : (half now : ReactorHalf) (k m : ℕ → ℕ) → now ≡ half → ((op : ℕ) → m op ≡ k op) → IsBounded half k →
      IsBounded now m
  bounded_same half now k m same counts bounded op =
      let is = counts op in
      let before = bounded op in
      subst (λ r. m op + stands op r ≤ one_if (awaits op && was_taken r op)) (sym same) (omega (arith, is, before))

  put_none : (within : Bool) (n lane place : ℕ) (note : Note) →
      times (allots_for n) (cond within (silent (Put lane place note) ∷ []) []) ≡ 0
  put_none true n lane place note = refl
  put_none false n lane place note = refl

  look_none : (within : Bool) (n lane place : ℕ) → times (allots_for n) (cond within (silent (Look lane place None) ∷ []) []) ≡ 0
  look_none true n lane place = refl
  look_none false n lane place = refl

  put_told : (within : Bool) (lane place : ℕ) (note : Note) → Every IsTold (cond within (silent (Put lane place note) ∷ []) [])
  put_told true lane place note = (tt, tt)
  put_told false lane place note = tt

  look_told : (within : Bool) (lane place : ℕ) → Every IsTold (cond within (silent (Look lane place None) ∷ []) [])
  look_told true lane place = (tt, tt)
  look_told false lane place = tt

  and_one : (a b : Bool) → 1 ≤ one_if (a && b) → a ≡ true
  and_one true b some = refl
  and_one false b some = absurd (omega (arith, some))

  module _ (well : IsWellFormed script) (told : Bool) where
    -- a take lets one more stand, which wasn't taken before
    taken_bounded : (half : ReactorHalf) (a : ℕ) (k : ℕ → ℕ) → IsHalfOf script half → may_take script half a ≡ true →
        IsBounded half k → IsBounded (reactor_after script told half (event.Take a)) k
    taken_bounded half a k fit may bounded op =
        let request : IsOpenRequest script half a = open_request script half a may in
        let within = request_within script half a may in
        let more =
        stands-take op script told half a request.act request.is (act_fits script a well request.act request.is) fit.streams in
        let marks = take-taken script told half a well in
        let before = bounded op in
        elim (cases_eq op a) [
          | inl same ↦
              let kind : awaits op ≡ is_awaited request.act =
              ap awaits same ∙ (let there = request.is in rw there refl) in
              let was : one_if (awaits op && was_taken half op) ≡ 0 =
              ap (λ b. one_if (awaits op && b)) (ap (was_taken half) same ∙ request.untaken) ∙ none (awaits op) in
              let now : one_if (awaits op && was_taken (reactor_after script told half (event.Take a)) op)
              ≡ one_if (is_awaited request.act) =
              ap (λ b. one_if (awaits op && b))
              (ap (λ (taken : List Bool). slice_index_or taken op false) marks
              ∙ (ap (λ n. slice_index_or (slice_set half.taken a true) n false) same
              ∙ get_or-set_same half.taken a true false (omega (arith, within, fit.marks))))
              ∙ (all (awaits op) ∙ ap one_if kind) in
              let one : cond (is_awaited request.act) (one_if (a == op)) 0 ≡ one_if (is_awaited request.act) =
              ap (λ b. cond (is_awaited request.act) (one_if b) 0) (eq-eqb a op (sym same)) in
              omega (arith, more, before, was, now, one)
          | inr other ↦
              let now : one_if (awaits op && was_taken (reactor_after script told half (event.Take a)) op)
              ≡ one_if (awaits op && was_taken half op) =
              ap (λ b. one_if (awaits op && b))
              (ap (λ (taken : List Bool). slice_index_or taken op false) marks
              ∙ get_or-set_other half.taken a op true false other) in
              let nothing : cond (is_awaited request.act) (one_if (a == op)) 0 ≡ 0 =
              ap (λ b. cond (is_awaited request.act) (one_if b) 0) (ne_eqb a op (λ same. other (sym same)))
              ∙ no_more (is_awaited request.act) 0 refl in
              omega (arith, more, before, now, nothing)
        ]
      where
        none : (a : Bool) → one_if (a && false) ≡ 0
        none true = refl
        none false = refl

        all : (a : Bool) → one_if (a && true) ≡ one_if a
        all true = refl
        all false = refl

        no_more : (a : Bool) (k : ℕ) → k ≡ 0 → cond a k 0 ≡ 0
        no_more true k is = is
        no_more false k is = refl

    -- where neither what stands nor what was taken changes
    still_bounded : (half now : ReactorHalf) (k : ℕ → ℕ) → ((op : ℕ) → stands op now ≤ stands op half) →
        now.taken ≡ half.taken → IsBounded half k → IsBounded now k
    still_bounded half now k less taken bounded op =
        let before = bounded op in
        let fewer = less op in
        let same = ap (λ (taken : List Bool). one_if (awaits op && slice_index_or taken op false)) taken in
        omega (arith, before, fewer, same)

    point_bounded : (half : ReactorHalf) (to : Point) (k : ℕ → ℕ) → IsBounded half k →
        IsBounded (reactor_after script told half (point_event to)) k
    point_bounded half (point.Time now) k bounded =
        still_bounded half (reactor_after script told half (event.Tick now)) k
        (λ op. let same = stands-tick op script told half now in omega (arith, same)) (tick-taken script told half now) bounded
    point_bounded half point.Last k bounded =
        still_bounded half (reactor_after script told half event.Last) k
        (λ op. let same = stands-last op told half in omega (arith, same)) (last-taken told half) bounded

    point_fits : (half : ReactorHalf) (to : Point) → IsHalfOf script half → MayPassTo script half to →
        IsHalfOf script (reactor_after script told half (point_event to))
    point_fits half (point.Time now) fit may = (event_leaves script told half (event.Tick now) well fit may).is_half
    point_fits half point.Last fit may = (event_leaves script told half event.Last well fit may).is_half

    -- a turn's completions
    record IsTelling (from : ReactorHalf) (k : ℕ → ℕ) (labels : List Labelled) : Type 0 where
      bounded : IsBounded (half_from script told from (entries_in labels)) (λ op. k op + times (allots_for op) labels)
      fit : IsHalfOf script (half_from script told from (entries_in labels))
      each : Every IsTold labels

    all_telling : (from : ReactorHalf) (k : ℕ → ℕ) → IsHalfOf script from → IsBounded from k → {labels : List Labelled} →
        AreTold script told from labels → IsTelling from k labels
    all_telling from k fit bounded none_told = record {
      bounded = bounded_same from from k (λ op. k op + 0) refl (λ op. omega arith) bounded;
      fit = fit;
      each = tt;
    }
    all_telling from k fit bounded (one_told {labels} op with_code size place found before may) =
        let rest : IsTelling from k labels = all_telling from k fit bounded before in
        let half : ReactorHalf = half_from script told from (entries_in labels) in
        let later : ReactorHalf = reactor_after script told half (event.Done op with_code size) in
        let made : List Labelled = done_labels script op with_code size place found in
        let now : half_from script told from (entries_in (labels ++ made)) ≡ later =
        half-append script told from labels made
        ∙ ap (λ entries. half_from script told later entries)
        (put_entries (nat_lt place (slice_index (cells_of script) (home_lane script op))) (home_lane script op) place
        (done_note op with_code size)) in
        let one : IsBounded later (λ n. (k n + times (allots_for n) labels) + one_if (op == n)) =
        λ n.
        let before = rest.bounded n in
        let less = stands-done n script told half op with_code size may in
        let same = ap (λ (taken : List Bool). one_if (awaits n && slice_index_or taken n false)) (done-taken script half op) in
        omega (arith, before, less, same) in
        let some : awaits op ≡ true =
        let before = rest.bounded op in
        let less = stands-done op script told half op with_code size may in
        let itself = ap one_if (eq-eqb op op refl) in
        and_one (awaits op) (was_taken half op) (omega (arith, before, less, itself)) in
        record {
          bounded =
              bounded_same later (half_from script told from (entries_in (labels ++ made)))
              (λ n. (k n + times (allots_for n) labels) + one_if (op == n)) (λ n. k n + times (allots_for n) (labels ++ made)) now
              (λ n.
              let both = times-append (allots_for n) labels made in
              let none =
              put_none (nat_lt place (slice_index (cells_of script) (home_lane script op))) n (home_lane script op) place
              (done_note op with_code size) in
              omega (arith, both, none)) one;
          fit =
              subst (IsHalfOf script) (sym now)
              (event_leaves script told half (event.Done op with_code size) well rest.fit may).is_half;
          each =
              every-append IsTold labels made rest.each (
                (refl, some),
                (
                  tt,
                  put_told (nat_lt place (slice_index (cells_of script) (home_lane script op))) (home_lane script op) place
                      (done_note op with_code size),
                ),
              );
        }

    -- a turn's first event
    module _ (half : ReactorHalf) (running : Bool) (load : Found) (k : ℕ → ℕ) (fit : IsHalfOf script half)
        (resting : IsResting half) (bounded : IsBounded half k) where
      start_bounded : (start : TurnStart) → MayStartTurn script half running load start →
          IsBounded (reactor_after script told half (start_event start)) k
      start_bounded (takes note changes) may = taken_bounded half note.op k fit may.request bounded
      start_bounded (passes shown) may =
          subst (λ shown. IsBounded (reactor_after script told half shown) k) (sym may.next)
          (point_bounded half (next_time script half) k bounded)

      start_fits : (start : TurnStart) → MayStartTurn script half running load start →
          IsHalfOf script (reactor_after script told half (start_event start))
      start_fits (takes note changes) may =
          (event_leaves script told half (event.Take note.op) well fit (open_request script half note.op may.request)).is_half
      start_fits (passes shown) may =
          subst (λ shown. IsHalfOf script (reactor_after script told half shown)) (sym may.next)
          (point_fits half (next_time script half) fit
          (record { pending = may.pending; told = resting.due; drained = resting.drained; next = refl }))

    -- a failure leaves no more standing
    fault_bounded : (half : ReactorHalf) (k : ℕ → ℕ) → IsBounded half k →
        IsBounded (reactor_after script told half event.Fault) k
    fault_bounded half k bounded =
        still_bounded half (reactor_after script told half event.Fault) k (λ op. omega arith) refl bounded

    -- a turn's end
    record IsEnded (from : ReactorHalf) (k : ℕ → ℕ) (end : TurnEnd) : Type 0 where
      bounded : IsBounded (half_from script told from (entries_in (end_labels end)))
          (λ op. k op + times (allots_for op) (end_labels end))
      fit : is_failing end ≡ false → IsHalfOf script (half_from script told from (entries_in (end_labels end)))
      each : Every IsTold (end_labels end)

    ended : (from : ReactorHalf) (k : ℕ → ℕ) → IsHalfOf script from → IsBounded from k → (end : TurnEnd) →
        EndsTurn script told from end → IsEnded from k end
    ended from k fit bounded (tells labels) all =
        let telling = all_telling from k fit bounded all.told_so in
        record { bounded = telling.bounded; fit = λ works. telling.fit; each = telling.each }
    ended from k fit bounded (fails found) all = record {
      bounded =
          bounded_same (reactor_after script told from event.Fault) (reactor_after script told from event.Fault) k
          (λ op. k op + 0) refl (λ op. omega arith) (fault_bounded from k bounded);
      fit = λ works. absurd (cc);
      each = (tt, tt);
    }

  start_none : (n lane place : ℕ) (load drawn : Found) (start : TurnStart) →
      times (allots_for n) (start_labels script lane place load drawn start) ≡ 0
  start_none n lane place load drawn (takes note changes) = refl
  start_none n lane place load drawn (passes shown) =
      let both =
      times-append (allots_for n) (looks_empty script lane place) (silent (Load load) ∷ shows shown change.Same drawn ∷ []) in
      let none = look_none (nat_lt place (slice_index (cells_of script) lane)) n lane place in
      omega (arith, both, none)

  start_told : (lane place : ℕ) (load drawn : Found) (start : TurnStart) →
      Every IsTold (start_labels script lane place load drawn start)
  start_told lane place load drawn (takes note changes) = (tt, (tt, (tt, tt)))
  start_told lane place load drawn (passes shown) =
      every-append IsTold (looks_empty script lane place) _
      (look_told (nat_lt place (slice_index (cells_of script) lane)) lane place) (tt, (tt, tt))

module _ (names : SessionNames) (well : IsWellFormed names.script) (opener : List ClockStep) (lane : ℕ)
    (is : lane ≡ reactor_lane names.script) where
  abbrev script : ScriptModel
  script = names.script

  abbrev half : List Part → ReactorHalf
  half parts = half_after names opener lane parts

  abbrev count : List Part → ℕ → ℕ
  count parts op = times (allots_for op) (labels_of script lane parts)

  pub record IsPlacing (parts : List Part) : Type 0 where
    pub bounded : IsBounded script (half parts) (count parts)
    pub fit : are_broken parts ≡ false → IsHalfOf script (half parts)
    pub each : Every (IsTold script) (labels_of script lane parts)

  first_none : (n k : ℕ) → slice_index_or (replicate n false) k false ≡ false
  first_none zero k = refl
  first_none (suc n) zero = refl
  first_none (suc n) (suc k) = first_none n k

  none_at_first : IsPlacing []
  none_at_first =
      let first = (starts_bounded script names.told).is_half in
      record {
        bounded = λ op.
            let none = first.taken op (first_none (length script.acts) op) in
            omega (arith, none);
        fit = λ works. first;
        each = tt;
      }

  module _ (parts : List Part) (before : IsPlacing parts) where
    counted_more : (part : Part) (op : ℕ) →
        count (part ∷ parts) op ≡ count parts op + times (allots_for op) (labels_in script lane part)
    counted_more part op = times-append (allots_for op) (labels_of script lane parts) (labels_in script lane part)

    told_more : (part : Part) → Every (IsTold script) (labels_in script lane part) →
        Every (IsTold script) (labels_of script lane (part ∷ parts))
    told_more part told =
        every-append (IsTold script) (labels_of script lane parts) (labels_in script lane part) before.each told

    -- a step by itself
    step_placing : (part : Part) → ((op : ℕ) → times (allots_for op) (labels_in script lane part) ≡ 0) →
        Every (IsTold script) (labels_in script lane part) → entries_in (labels_in script lane part) ≡ [] →
        is_broken part ≡ false → IsPlacing (part ∷ parts)
    step_placing part none told entries works =
        let same : half (part ∷ parts) ≡ half parts =
        goes_on names opener lane is parts part ∙ ap (half_from script names.told (half parts)) entries in
        record {
          bounded =
              bounded_same script (half parts) (half (part ∷ parts)) (count parts) (count (part ∷ parts)) same
              (λ op. let more = counted_more part op in
              let nothing = none op in
              omega (arith, more, nothing)) before.bounded;
          fit = λ on.
              subst (IsHalfOf script) (sym same) (before.fit (sym (ap (λ b. b || are_broken parts) works) ∙ on));
          each = told_more part told;
        }

    -- a turn
    turn_placing : (part : TurnPart) → AreParts names opener lane parts → MayFollow names opener lane parts (turned part) →
        IsPlacing (turned part ∷ parts)
    turn_placing part are may =
        let r : ReactorHalf = half parts in
        let started : ReactorHalf = reactor_after script names.told r (start_event part.start) in
        let fit = before.fit may.working in
        let resting = rests names opener lane is parts are may.working in
        let bounded =
        start_bounded script well names.told r _ part.load (count parts) fit resting before.bounded part.start may.starts in
        let fits =
        start_fits script well names.told r _ part.load (count parts) fit resting before.bounded part.start may.starts in
        let end = ended script well names.told started (count parts) fits bounded part.end may.ends in
        let first : List Labelled = start_labels script lane part.place part.load part.drawn part.start in
        let same : half (turned part ∷ parts)
        ≡ half_from script names.told started (entries_in (end_labels part.end)) =
        goes_on names opener lane is parts (turned part) ∙ turn_half script names.told lane r part in
        record {
          bounded =
              bounded_same script (half_from script names.told started (entries_in (end_labels part.end)))
              (half (turned part ∷ parts)) (λ op. count parts op + times (allots_for op) (end_labels part.end))
              (count (turned part ∷ parts)) same
              (λ op.
              let more = counted_more (turned part) op in
              let both = times-append (allots_for op) first (end_labels part.end) in
              let none = start_none script op lane part.place part.load part.drawn part.start in
              omega (arith, more, both, none)) end.bounded;
          fit = λ on.
              subst (IsHalfOf script) (sym same)
              (end.fit (either_false (is_failing part.end) (are_broken parts) on).0);
          each =
              told_more (turned part)
              (every-append (IsTold script) first (end_labels part.end)
              (start_told script lane part.place part.load part.drawn part.start) end.each);
        }

    -- a failure by itself
    fail_placing : (part : FailedPart) → IsPlacing (failed part ∷ parts)
    fail_placing part =
        let r : ReactorHalf = half parts in
        let within : Bool = nat_lt part.place (slice_index (cells_of script) lane) in
        let rest : List Labelled = silent (Load part.load) ∷ fault_label part.drawn ∷ [] in
        let same : half (failed part ∷ parts) ≡ reactor_after script names.told r event.Fault =
        goes_on names opener lane is parts (failed part)
        ∙ ap (half_from script names.told r) (look_entries within lane part.place rest) in
        record {
          bounded =
              bounded_same script (reactor_after script names.told r event.Fault) (half (failed part ∷ parts)) (count parts)
              (count (failed part ∷ parts)) same
              (λ op.
              let more = counted_more (failed part) op in
              let both = times-append (allots_for op) (looks_empty script lane part.place) rest in
              let none = look_none script within op lane part.place in
              omega (arith, more, both, none)) (fault_bounded script well names.told r (count parts) before.bounded);
          fit = λ on. absurd (cc);
          each =
              told_more (failed part)
              (every-append (IsTold script) (looks_empty script lane part.place) rest
              (look_told script within lane part.place) (tt, (tt, tt)));
        }

  pub placing : (parts : List Part) → AreParts names opener lane parts → IsPlacing parts
  placing [] are = none_at_first
  placing (idle step ∷ parts) are =
      step_placing parts (placing parts are.0) (idle step) (λ op. refl) (tt, tt) refl refl
  placing (executed part ∷ parts) are = let strand = are.1.strand in absurd (omega (arith, strand, is))
  placing (turned part ∷ parts) are = turn_placing parts (placing parts are.0) part are.0 are.1
  placing (failed part ∷ parts) are = fail_placing parts (placing parts are.0) part
  placing (missing place note ∷ parts) are =
      step_placing parts (placing parts are.0) (missing place note) (λ op. refl) (tt, tt) refl refl
