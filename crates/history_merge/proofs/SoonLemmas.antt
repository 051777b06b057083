-- Behind each place that an act gets in a part its cell is put, where it has one; so between parts all cells of places
-- that were drawn are full.
use Rattle.std.proofs.Common.{◌≡◌, ℕ, zero, suc, ◌+◌, ◌<◌, Bool, true, false, cond, List, [], ◌∷◌, ◌++◌, inl, inr, length, map, take, refl, sym, ap, subst, ◌∙◌, arith}
use Rattle.std.specs.Prelude.{None, Some, ◌&&◌, ◌==◌, nat_lt, slice_index}
use Rattle.std.proofs.lemmas.Bool.{and_parts, cases_lt, eq-eqb, eqb-true, lt-ltb}
use mathlib.Core.Option.{some, some-injective, some-ne-none}
use lib.ListN.{get_elem?}
use Rattle.atomic_table.proofs.Lists.{at_longer}
use Rattle.session_script.specs.Script.{ScriptModel}
use Rattle.history_rules.specs.State.{ReactorHalf}
use Rattle.strand_core.specs.declared.posted.Posted.{Posted}
use Rattle.lane_clock.specs.declared.found.Found.{Found}
use Rattle.lane_clock.specs.declared.note.Note.{Note}
use Rattle.lane_clock.specs.declared.step.ClockStep.{ClockStep}
use Rattle.lane_clock.specs.declared.step.ClockStep.TheVariants.{Draw, Load, Place, Put, Look, Join}
use Rattle.lane_clock.specs.History.{ClockEvent, Fits, IsSoundHistory, cell_after, cell_with, places_after, places_with, steps_under}
use Rattle.lane_clock.specs.Steps.{place_count}
use Rattle.lane_clock.proofs.MomentLemmas.{Tail}
use Rattle.lane_map.specs.LaneNumbers.{asked_lane, cells_of, home_lane}
use Rattle.lane_logs.specs.Labels.{AreDrawn, IsDrawn, Labelled, allots, begins, call_note, dispatches, ends, none_drawn, one_drawn, posts, returns, shows, silent, step_of, stops_context}
use Rattle.lane_logs.specs.LaneLog.{MayFollow}
use Rattle.lane_logs.specs.Names.{SessionNames}
use Rattle.lane_logs.specs.OpenerLog.{Looked, MayFollowOpened, OpenerPart, closed, look_label, opened, opener_labels, resting, restarted}
use Rattle.lane_logs.specs.Parts.{Part, TurnEnd, TurnStart, end_labels, executed, failed, fails, idle, labels_in, looks_empty, missing, passes, start_labels, takes, tells, turned}
use Rattle.lane_logs.specs.ReactorTurns.{AreTold, EndsTurn, done_labels, done_note, none_told, one_told}
use Rattle.history_merge.proofs.HistoryLemmas.{AreLabelled, IsLabelled, IsPlain, label_of}
use Rattle.history_merge.proofs.LookingLemmas.{labelled_tail, take_at}
use Rattle.history_merge.proofs.PartLemmas.{Follow, all_made}
use Rattle.history_merge.proofs.SoFarLemmas.{made_so_far}
use Rattle.history_merge.proofs.TimeLemmas.{IsMade, index_in, made_of, made_there, made_within}

module _ (script : ScriptModel) where
  -- one of the next two labels puts the cell
  pub data IsPutNext (act lane place : ℕ) (xs : List Labelled) : Type 0 where
    put_now : (note : Note) → note.op ≡ act → get_elem? xs 0 ≡ some (silent (Put lane place note)) →
        IsPutNext act lane place xs
    put_then : (note : Note) → note.op ≡ act → get_elem? xs 1 ≡ some (silent (Put lane place note)) →
        IsPutNext act lane place xs

  abbrev pub PutSoon : Labelled → List Labelled → Type 0
  PutSoon (silent step) xs = Unit {0}
  PutSoon (shows shown changes found) xs = Unit {0}
  PutSoon (allots act lane place) xs = place < slice_index (cells_of script) lane → IsPutNext act lane place xs

  abbrev pub AllSoon : List Labelled → Type 0
  AllSoon [] = Unit {0}
  AllSoon (x ∷ xs) = PutSoon x xs × AllSoon xs

  next_longer : (act lane place : ℕ) (xs ys : List Labelled) → IsPutNext act lane place xs →
      IsPutNext act lane place (xs ++ ys)
  next_longer act lane place xs ys (put_now note op at) =
      put_now note op (at_longer xs ys 0 (silent (Put lane place note)) at)
  next_longer act lane place xs ys (put_then note op at) =
      put_then note op (at_longer xs ys 1 (silent (Put lane place note)) at)

  soon_longer : (x : Labelled) (xs ys : List Labelled) → PutSoon x xs → PutSoon x (xs ++ ys)
  soon_longer (silent step) xs ys soon = tt
  soon_longer (shows shown changes found) xs ys soon = tt
  soon_longer (allots act lane place) xs ys soon = λ within. next_longer act lane place xs ys (soon within)

  pub soon-append : (xs ys : List Labelled) → AllSoon xs → AllSoon ys → AllSoon (xs ++ ys)
  soon-append [] ys first second = second
  soon-append (x ∷ xs) ys first second = (soon_longer x xs ys first.0, soon-append xs ys first.1 second)

  pub soon_at : (labels : List Labelled) → AllSoon labels → (i act lane place : ℕ) →
      get_elem? labels i ≡ some (allots act lane place) → place < slice_index (cells_of script) lane →
      (k : ℕ) × (note : Note) × (note.op ≡ act) × (get_elem? labels k ≡ some (silent (Put lane place note)))
  soon_at [] all i act lane place at within = absurd (some-ne-none (allots act lane place) (sym at))
  soon_at (x ∷ xs) all zero act lane place at within =
      by_next (subst (λ x. PutSoon x xs) (some-injective x (allots act lane place) at) all.0 within)
    where
      by_next : IsPutNext act lane place xs →
          (k : ℕ) × (note : Note) × (note.op ≡ act) × (get_elem? (x ∷ xs) k ≡ some (silent (Put lane place note)))
      by_next (put_now note op at) = (1, note, op, at)
      by_next (put_then note op at) = (2, note, op, at)
  soon_at (x ∷ xs) all (suc i) act lane place at within =
      let rest = soon_at xs all.1 i act lane place at within in (suc rest.0, rest.1, rest.2, rest.3)

  put_first : (b : Bool) (x : Labelled) → b ≡ true → get_elem? (cond b (x ∷ []) []) 0 ≡ some x
  put_first true x is = refl
  put_first false x is = absurd (cc)

  put_soon : (within : Bool) (lane place : ℕ) (note : Note) → AllSoon (cond within (silent (Put lane place note) ∷ []) [])
  put_soon true lane place note = (tt, tt)
  put_soon false lane place note = tt

  look_soon : (within : Bool) (lane place : ℕ) → AllSoon (cond within (silent (Look lane place None) ∷ []) [])
  look_soon true lane place = (tt, tt)
  look_soon false lane place = tt

  call_soon : {made : Posted} {labels : List Labelled} → IsDrawn script made labels → AllSoon labels
  call_soon begins = (tt, tt)
  call_soon (posts {act} {place} {found} isnt outside) =
      let lane : ℕ = asked_lane script act in (
        tt,
        (
          (λ within.
              put_now (call_note act) refl
              (put_first (nat_lt place (slice_index (cells_of script) lane)) (silent (Put lane place (call_note act)))
              (lt-ltb place (slice_index (cells_of script) lane) within))),
          put_soon (nat_lt place (slice_index (cells_of script) lane)) lane place (call_note act),
        ),
      )
  call_soon (dispatches isnt within) = (tt, tt)
  call_soon (stops_context is) = (tt, (tt, tt))
  call_soon returns = (tt, tt)
  call_soon ends = (tt, tt)

  pub calls_soon : {calls : List Posted} {labels : List Labelled} → AreDrawn script calls labels → AllSoon labels
  calls_soon none_drawn = tt
  calls_soon (one_drawn {calls} {call = one} {labels} {made} before now) =
      soon-append labels made (calls_soon before) (call_soon now)

  told_soon : (told : Bool) (from : ReactorHalf) {labels : List Labelled} → AreTold script told from labels → AllSoon labels
  told_soon told from none_told = tt
  told_soon told from (one_told {labels} op with_code size place found before may) =
      let lane : ℕ = home_lane script op in
      let note : Note = done_note op with_code size in
      soon-append labels (done_labels script op with_code size place found) (told_soon told from before) (
        (λ within.
            put_then note refl
            (put_first (nat_lt place (slice_index (cells_of script) lane)) (silent (Put lane place note))
            (lt-ltb place (slice_index (cells_of script) lane) within))),
        (tt, put_soon (nat_lt place (slice_index (cells_of script) lane)) lane place note),
      )

  end_soon : (told : Bool) (from : ReactorHalf) (end : TurnEnd) → EndsTurn script told from end → AllSoon (end_labels end)
  end_soon told from (tells labels) is = told_soon told from is.told_so
  end_soon told from (fails found) is = (tt, tt)

  start_soon : (lane place : ℕ) (load drawn : Found) (start : TurnStart) →
      AllSoon (start_labels script lane place load drawn start)
  start_soon lane place load drawn (takes note changes) = (tt, (tt, (tt, tt)))
  start_soon lane place load drawn (passes shown) =
      soon-append (looks_empty script lane place) _
      (look_soon (nat_lt place (slice_index (cells_of script) lane)) lane place) (tt, (tt, tt))

  pub looks_soon : (looks : List Looked) → AllSoon (map look_label looks)
  looks_soon [] = tt
  looks_soon (look ∷ looks) = (tt, looks_soon looks)

  pub opener_soon : (lists : ℕ → List ClockStep) (earlier : List OpenerPart) (part : OpenerPart) →
      MayFollowOpened script lists earlier part → AllSoon (opener_labels part)
  opener_soon lists earlier (resting step) may = (tt, tt)
  opener_soon lists earlier (opened calls labels) may = calls_soon may.drawn
  opener_soon lists earlier (restarted drawn) may = (tt, tt)
  opener_soon lists earlier (closed part) may =
      (tt, soon-append (map look_label part.looks) _ (looks_soon part.looks) (tt, tt))

  pub parts_soon : (P : Type 0) (made : P → List Labelled) (May : List P → P → Type 0) →
      ((earlier : List P) (part : P) → May earlier part → AllSoon (made part)) → (parts : List P) →
      Follow P made May parts → AllSoon (all_made P made parts)
  parts_soon P made May each [] all = tt
  parts_soon P made May each (part ∷ parts) all =
      soon-append (all_made P made parts) (made part) (parts_soon P made May each parts all.0) (each parts part all.1)

pub lane_soon : (names : SessionNames) (opener : List ClockStep) (lane : ℕ) (earlier : List Part) (part : Part) →
    MayFollow names opener lane earlier part → AllSoon names.script (labels_in names.script lane part)
lane_soon names opener lane earlier (idle step) may = (tt, tt)
lane_soon names opener lane earlier (executed part) may = (tt, (tt, calls_soon names.script may.drawn))
lane_soon names opener lane earlier (turned part) may =
    soon-append names.script (start_labels names.script lane part.place part.load part.drawn part.start) (end_labels part.end)
    (start_soon names.script lane part.place part.load part.drawn part.start)
    (end_soon names.script names.told _ part.end may.ends)
lane_soon names opener lane earlier (failed part) may =
    soon-append names.script (looks_empty names.script lane part.place) _
    (look_soon names.script (nat_lt part.place (slice_index (cells_of names.script) lane)) lane part.place) (tt, (tt, tt))
lane_soon names opener lane earlier (missing place note) may = (tt, tt)

-- a cell that is full stays as it is
module _ (lane place : ℕ) (note : Note) where
  cell_on : (guards n : ℕ) (es : List ClockEvent) (step : ClockStep) → Fits guards es n step →
      cell_after lane place es ≡ Some note → cell_with lane place step (cell_after lane place es) ≡ Some note
  cell_on guards n es (Draw shown changes found) fits full = full
  cell_on guards n es (Load found) fits full = full
  cell_on guards n es (Place at p) fits full = full
  cell_on guards n es (Look at p held) fits full = full
  cell_on guards n es (Join counts) fits full = full
  cell_on guards n es (Put at p other) fits full = by_test ((lane == at) && (place == p)) refl
    where
      by_test : (b : Bool) → ((lane == at) && (place == p)) ≡ b → cond b (Some other) (cell_after lane place es) ≡ Some note
      by_test false isnt = full
      by_test true is =
          let parts = and_parts (lane == at) (place == p) is in
          let empty : cell_after lane place es ≡ None =
          (λ i. cell_after (eqb-true lane at parts.0 i) (eqb-true place p parts.1 i) es) ∙ fits.1 in
          absurd (let wrong : Some note ≡ None = sym full ∙ empty in cc)

  pub cell_stays : (guards seats : ℕ) (a es : List ClockEvent) → IsSoundHistory guards seats es → Tail a es →
      cell_after lane place a ≡ Some note → cell_after lane place es ≡ Some note
  cell_stays guards seats a [] sound tail full = subst (λ es. cell_after lane place es ≡ Some note) tail full
  cell_stays guards seats a (e ∷ es) sound (inl same) full = subst (λ es. cell_after lane place es ≡ Some note) same full
  cell_stays guards seats a (e ∷ es) sound (inr tail) full =
      cell_on guards e.by es e.step sound.2 (cell_stays guards seats a es sound.0 tail full)

  pub put_full : (guards seats : ℕ) (es : List ClockEvent) → IsSoundHistory guards seats es → (e : ClockEvent)
      (older : List ClockEvent) → Tail (e ∷ older) es → e.step ≡ Put lane place note → cell_after lane place es ≡ Some note
  put_full guards seats es sound e older tail is =
      cell_stays guards seats (e ∷ older) es sound tail
      (ap (λ step. cell_with lane place step (cell_after lane place older)) is
      ∙ ap (λ b. cond b (Some note) (cell_after lane place older))
      (both (lane == lane) (place == place) (eq-eqb lane lane refl) (eq-eqb place place refl)))
    where
      both : (a b : Bool) → a ≡ true → b ≡ true → (a && b) ≡ true
      both true b first second = second
      both false b first second = absurd (cc)

-- each place that was drawn was got for an act
module _ (labels : ℕ → List Labelled) (lane : ℕ) where
  pub record IsGot (es : List ClockEvent) (place : ℕ) : Type 0 where
    pub number : ℕ
    pub act : ℕ
    pub made : IsMade labels es number (allots act lane place)

  got_later : (e : ClockEvent) (es : List ClockEvent) (place : ℕ) → IsGot es place → IsGot (e ∷ es) place
  got_later e es place got = record {
    number = got.number;
    act = got.act;
    made = record { e = got.made.e; older = got.made.older; tail = inr got.made.tail; by = got.made.by; is = got.made.is };
  }

  module _ (e : ClockEvent) (es : List ClockEvent) (labelled : IsLabelled labels es e) (place : ℕ)
      (rest : place < places_after lane es → IsGot es place) where
    earlier : place < places_after lane es → IsGot (e ∷ es) place
    earlier less = got_later e es place (rest less)

    by_label : (label : Labelled) → label_of labels es e ≡ label → (at p : ℕ) → e.step ≡ Place at p → IsPlain label →
        lane ≡ at → place ≡ p → IsGot (e ∷ es) place
    by_label (silent step) here at p is plain same value =
        let step_is : step ≡ Place at p = ap step_of (sym here) ∙ (labelled.step ∙ is) in
        absurd (let wrong = ap place_count step_is in let none = plain.1 in omega (arith, wrong, none))
    by_label (shows shown changes found) here at p is plain same value =
        absurd (let wrong : Draw shown changes found ≡ Place at p = ap step_of (sym here) ∙ (labelled.step ∙ is) in cc)
    by_label (allots act on q) here at p is plain same value =
        let step_is : Place on q ≡ Place at p = ap step_of (sym here) ∙ (labelled.step ∙ is) in
        let first : on ≡ at = cc in
        let second : q ≡ p = cc in
        record {
          number = e.by;
          act = act;
          made = record {
            e = e;
            older = es;
            tail = inl refl;
            by = refl;
            is = here ∙ (λ i. allots act ((first ∙ sym same) i) ((second ∙ sym value) i));
          };
        }

    by_test : (at p : ℕ) → e.step ≡ Place at p → p ≡ places_after at es → (b : Bool) → (lane == at) ≡ b →
        place < cond b (places_after lane es + 1) (places_after lane es) → IsGot (e ∷ es) place
    by_test at p is value false isnt less = earlier less
    by_test at p is value true same less = elim (cases_lt place (places_after lane es)) [
      | inl before ↦ earlier before
      | inr behind ↦
          let lanes : lane ≡ at = eqb-true lane at same in
          let count : places_after lane es ≡ places_after at es = ap (λ lane. places_after lane es) lanes in
          by_label (label_of labels es e) refl at p is labelled.plain lanes (omega (arith, less, behind, value, count))
    ]

    by_step : (guards : ℕ) (step : ClockStep) → e.step ≡ step → Fits guards es e.by step →
        place < places_with lane step (places_after lane es) → IsGot (e ∷ es) place
    by_step guards (Draw shown changes found) is fits less = earlier less
    by_step guards (Load found) is fits less = earlier less
    by_step guards (Place at p) is fits less = by_test at p is fits.0 (lane == at) refl less
    by_step guards (Put at p note) is fits less = earlier less
    by_step guards (Look at p held) is fits less = earlier less
    by_step guards (Join counts) is fits less = earlier less

  pub places_got : (guards seats : ℕ) (es : List ClockEvent) → IsSoundHistory guards seats es → AreLabelled labels es →
      (place : ℕ) → place < places_after lane es → IsGot es place
  places_got guards seats [] sound all place within = absurd (omega (arith, within))
  places_got guards seats (e ∷ es) sound all place within =
      by_step e es all.1 place (λ less. places_got guards seats es sound.0 all.0 place less) guards e.step refl sound.2 within

-- where all labels so far have their puts among them, the cells of all places are full
pub cells_full : (script : ScriptModel) (labels : ℕ → List Labelled) (guards seats : ℕ) (es : List ClockEvent) →
    IsSoundHistory guards seats es → AreLabelled labels es →
    ((n : ℕ) → AllSoon script (made_so_far labels es n)) → (number act lane place : ℕ) →
    IsMade labels es number (allots act lane place) → place < slice_index (cells_of script) lane →
    (note : Note) × (note.op ≡ act) × (cell_after lane place es ≡ Some note)
cells_full script labels guards seats es sound all soon number act lane place made within =
    let there = made_there labels es all number (allots act lane place) made in
    let less = made_within labels es number (allots act lane place) made in
    let here : get_elem? (made_so_far labels es number) (index_in labels made) ≡ some (allots act lane place) =
    take_at (labels number) (length (steps_under number es)) (index_in labels made) (allots act lane place) less there in
    let put = soon_at script (made_so_far labels es number) (soon number) (index_in labels made) act lane place here within in
    let label : Labelled = silent (Put lane place put.1) in
    let back = taken (labels number) (length (steps_under number es)) put.0 label put.3 in
    let step = made_of labels es all number put.0 label back.0 back.1 in
    let labelled : IsLabelled labels step.0.older step.0.e =
    (labelled_tail labels es (step.0.e ∷ step.0.older) step.0.tail all).1 in (
      put.1,
      put.2,
      put_full lane place put.1 guards seats es sound step.0.e step.0.older step.0.tail
          (sym labelled.step ∙ ap step_of step.0.is),
    )
  where
    taken : {A : Type 0} → (xs : List A) (n i : ℕ) (x : A) → get_elem? (take n xs) i ≡ some x →
        (get_elem? xs i ≡ some x) × (i < n)
    taken [] zero i x at = absurd (some-ne-none x (sym at))
    taken [] (suc n) i x at = absurd (some-ne-none x (sym at))
    taken (y ∷ xs) zero i x at = absurd (some-ne-none x (sym at))
    taken (y ∷ xs) (suc n) zero x at = (at, omega arith)
    taken (y ∷ xs) (suc n) (suc i) x at = let rest = taken xs n i x at in (rest.0, omega (arith, rest.1))
