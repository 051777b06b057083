-- In a list of calls each back stands behind its call; so among the labels that make them it stands behind the place that
-- its call got.
use Rattle.std.proofs.Common.{◌≡◌, ◌≢◌, ℕ, zero, suc, ◌+◌, ◌-◌, ◌<◌, ◌≤◌, Bool, true, false, cond, List, [], ◌∷◌, ◌++◌, inl, inr, map, take, length, refl, sym, ap, subst, ◌∙◌, arith}
use Rattle.std.specs.Prelude.{◌==◌, nat_lt, slice_index}
use Rattle.std.proofs.lemmas.Bool.{cases_eq, cases_lt, eqb-true}
use Rattle.std.proofs.lemmas.List.{append_assoc}
use mathlib.Core.Option.{some, some-injective, some-ne-none}
use lib.ListN.{get_elem?}
use Rattle.asio_types.specs.Code.{class_of_code}
use Rattle.asio_types.specs.declared.code.Code.{Code}
use Rattle.asio_types.specs.declared.code.Code.TheVariants as code
use Rattle.asio_types.specs.declared.event.Event.{Event}
use Rattle.asio_types.specs.declared.event.Event.TheVariants as event
use Rattle.op_handlers.specs.declared.call.Call.{Call}
use Rattle.session_script.specs.Script.{ScriptModel, stops}
use Rattle.session_script.specs.Lanes.{is_inline}
use Rattle.strand_core.specs.Execution.{AnyMark, AreCalls, IsWholeExecution, inside, no_act, outside}
use Rattle.strand_core.specs.declared.posted.Posted.{Posted}
use Rattle.strand_core.specs.declared.posted.Posted.TheVariants as posted
use Rattle.reactor_turns.proofs.SummingLemmas.{one_if}
use Rattle.lane_clock.specs.declared.note.Note.{Note}
use Rattle.lane_clock.specs.declared.step.ClockStep.{ClockStep}
use Rattle.lane_clock.specs.declared.step.ClockStep.TheVariants.{Load, Put}
use Rattle.lane_map.specs.LaneNumbers.{asked_lane, cells_of, reactor_lane}
use Rattle.lane_logs.specs.Labels.{AreDrawn, IsDrawn, Labelled, allots, begins, call_note, dispatches, ends, none_drawn, one_drawn, posts, returns, shows, silent, stops_context}
use Rattle.lane_logs.specs.LaneLog.{MayFollow}
use Rattle.lane_logs.specs.Logs.{LogsView}
use Rattle.lane_logs.specs.Names.{IsNamedMark, SessionNames}
use Rattle.lane_logs.specs.OpenerLog.{ClosedPart, Closes, Looked, MayFollowOpened, OpenerPart, closed, closing_change, look_label, opened, opener_labels, resting, restarted}
use Rattle.lane_logs.specs.Parts.{Part, executed, failed, idle, labels_in, missing, turned}
use Rattle.lane_logs.specs.SeatNumbers.{lane_count, opener_seat}
use Rattle.lane_logs.specs.WorkerLog.{MayFollowStopped, WorkerPart, stopped, waiting}
use Rattle.history_merge.proofs.AlikeLemmas.{never}
use Rattle.history_merge.proofs.LabellingLemmas.{AreLabels}
use Rattle.history_merge.proofs.PartLemmas.{Follow, all_made, labels_worker}
use Rattle.history_merge.proofs.TimesLemmas.{times, times-append}

-- the call of an act and its back
abbrev is_call : ℕ → Posted → Bool
is_call x (posted.Call act) = act == x
is_call x _ = false

abbrev is_back : ℕ → Posted → Bool
is_back x (posted.Back act) = act == x
is_back x _ = false

abbrev calls_in : ℕ → List Posted → ℕ
calls_in x [] = 0
calls_in x (made ∷ calls) = one_if (is_call x made) + calls_in x calls

abbrev backs_in : ℕ → List Posted → ℕ
backs_in x [] = 0
backs_in x (made ∷ calls) = one_if (is_back x made) + backs_in x calls

-- with so many calls that are open, each back has its call before it
abbrev Backed : ℕ → ℕ → List Posted → Type 0
Backed x n [] = Unit {0}
Backed x n (made ∷ calls) =
    (one_if (is_back x made) ≤ n) × Backed x (n + one_if (is_call x made) - one_if (is_back x made)) calls

module _ (x : ℕ) where
  backed_more : (calls : List Posted) (n m : ℕ) → n ≤ m → Backed x n calls → Backed x m calls
  backed_more [] n m less is = tt
  backed_more (made ∷ calls) n m less is = (
    omega (arith, less, is.0),
    backed_more calls (n + one_if (is_call x made) - one_if (is_back x made))
        (m + one_if (is_call x made) - one_if (is_back x made)) (omega (arith, less)) is.1,
  )

  -- the second may use what was open before the first
  backed-append : (xs ys : List Posted) (n m : ℕ) → Backed x n xs → Backed x m ys → Backed x (n + m) (xs ++ ys)
  backed-append [] ys n m first second = backed_more ys m (n + m) (omega arith) second
  backed-append (made ∷ xs) ys n m first second =
      let left : ℕ = n + one_if (is_call x made) - one_if (is_back x made) in (
        omega (arith, first.0),
        backed_more (xs ++ ys) (left + m) (n + m + one_if (is_call x made) - one_if (is_back x made))
            (omega (arith, first.0)) (backed-append xs ys left m first.1 second),
      )

  -- so of a first part no more are back than were called
  backed_front : (xs ys : List Posted) (n : ℕ) → Backed x n (xs ++ ys) → backs_in x xs ≤ n + calls_in x xs
  backed_front [] ys n is = omega arith
  backed_front (made ∷ xs) ys n is =
      let rest = backed_front xs ys (n + one_if (is_call x made) - one_if (is_back x made)) is.1 in
      omega (arith, rest, is.0)

  in-append : (xs ys : List Posted) → calls_in x (xs ++ ys) ≡ calls_in x xs + calls_in x ys
  in-append [] ys = omega arith
  in-append (made ∷ xs) ys = let rest = in-append xs ys in omega (arith, rest)

  back-append : (xs ys : List Posted) → backs_in x (xs ++ ys) ≡ backs_in x xs + backs_in x ys
  back-append [] ys = omega arith
  back-append (made ∷ xs) ys = let rest = back-append xs ys in omega (arith, rest)

  module _ (script : ScriptModel) (HasMark : Call → ℕ → Type 0) where
    calls_backed : {acts : List ℕ} {calls : List Posted} → AreCalls script HasMark acts calls → Backed x 0 calls
    calls_backed no_act = tt
    calls_backed (outside {act} {acts} {calls} isnt more) = (
      omega arith,
      (omega arith, backed_more calls 0 (0 + one_if (act == x) - 0 + 0 - one_if (act == x)) (omega arith) (calls_backed more)),
    )
    calls_backed (inside {act} {begun} {mark} {acts} {body} {calls} is marked inner more) =
        let own = calls_backed inner in
        let rest : Backed x (one_if (act == x)) (posted.Back act ∷ calls) =
        (omega arith, backed_more calls 0 (one_if (act == x) + 0 - one_if (act == x)) (omega arith) (calls_backed more)) in
        let end : Posted = posted.End act (record { mark = mark; class = class_of_code code.Ok; begun = begun }) in (
          omega arith,
          (
            omega arith,
            backed_more ((body ++ end ∷ []) ++ posted.Back act ∷ calls) (0 + one_if (act == x))
                (0 + one_if (act == x) - 0 + 0 - 0) (omega arith)
                (backed-append (body ++ end ∷ []) (posted.Back act ∷ calls) 0 (one_if (act == x))
                (backed-append body (end ∷ []) 0 0 own (omega arith, tt)) rest),
          ),
        )

    execution_backed : (op : ℕ) (calls : List Posted) (given : Code) (size : ℕ) →
        IsWholeExecution script HasMark op given size calls → Backed x 0 calls
    execution_backed op calls given size whole =
        let end : Posted = posted.End op (record { mark = whole.mark; class = class_of_code given; begun = whole.begun }) in
        subst (Backed x 0) (sym whole.is)
        (omega arith, backed-append whole.body (end ∷ []) 0 0 (calls_backed whole.acts) (omega arith, tt))

-- the label gets the act a place, or shows its back
abbrev pub allots_for : ℕ → Labelled → Bool
allots_for x (silent step) = false
allots_for x (shows shown changes found) = false
allots_for x (allots act lane place) = act == x

abbrev pub is_back_of : ℕ → Event → Bool
is_back_of x (event.Back act) = act == x
is_back_of x _ = false

abbrev pub backs_for : ℕ → Labelled → Bool
backs_for x (silent step) = false
backs_for x (shows shown changes found) = is_back_of x shown
backs_for x (allots act lane place) = false

take_short : {A : Type 0} → (xs ys : List A) (k : ℕ) → k ≤ length xs → take k (xs ++ ys) ≡ take k xs
take_short xs ys zero within = refl
take_short [] ys (suc k) within = absurd (omega (arith, within))
take_short (x ∷ xs) ys (suc k) within = ap (λ zs. x ∷ zs) (take_short xs ys k (omega (arith, within)))

take_long : {A : Type 0} → (xs ys : List A) (k : ℕ) → length xs ≤ k → take k (xs ++ ys) ≡ xs ++ take (k - length xs) ys
take_long [] ys k beyond = ap (λ j. take j ys) (let same : k ≡ k - 0 = omega arith in same)
take_long (x ∷ xs) ys zero beyond = absurd (omega (arith, beyond))
take_long (x ∷ xs) ys (suc k) beyond =
    let rest : k - length xs ≡ suc k - suc (length xs) = omega arith in
    ap (λ zs. x ∷ zs) (take_long xs ys k (omega (arith, beyond)) ∙ ap (λ j. xs ++ take j ys) rest)

module _ (x : ℕ) where
  -- of the first labels no more show its back than get it a place
  abbrev pub Front : List Labelled → Type 0
  Front labels = (k : ℕ) → times (backs_for x) (take k labels) ≤ times (allots_for x) (take k labels)

  front-nil : Front []
  front-nil zero = omega arith
  front-nil (suc k) = omega arith

  front_none : (labels : List Labelled) → times (backs_for x) labels ≡ 0 → Front labels
  front_none labels none zero = omega arith
  front_none [] none (suc k) = omega arith
  front_none (label ∷ labels) none (suc k) =
      let rest = front_none labels (omega (arith, none)) k in omega (arith, rest, none)

  front_next : (label : Labelled) (labels : List Labelled) → backs_for x label ≡ false → Front labels → Front (label ∷ labels)
  front_next label labels isnt is zero = omega arith
  front_next label labels isnt is (suc k) =
      let rest = is k in
      let none : one_if (backs_for x label) ≡ 0 = ap one_if isnt in
      omega (arith, rest, none)

  front-append : (xs ys : List Labelled) → Front xs → Front ys → Front (xs ++ ys)
  front-append xs ys first second k = elim (cases_lt k (length xs)) [
    | inl less ↦
        let same = take_short xs ys k (omega (arith, less)) in
        subst (λ zs. times (backs_for x) zs ≤ times (allots_for x) zs) (sym same) (first k)
    | inr most ↦
        let same = take_long xs ys k most in
        let one : times (backs_for x) xs ≤ times (allots_for x) xs =
        subst (λ zs. times (backs_for x) zs ≤ times (allots_for x) zs) (take_all xs) (first (length xs)) in
        let two = second (k - length xs) in
        let backs = times-append (backs_for x) xs (take (k - length xs) ys) in
        let places = times-append (allots_for x) xs (take (k - length xs) ys) in
        subst (λ zs. times (backs_for x) zs ≤ times (allots_for x) zs) (sym same) (omega (arith, one, two, backs, places))
  ]
    where
      take_all : (zs : List Labelled) → take (length zs) zs ≡ zs
      take_all [] = refl
      take_all (z ∷ zs) = ap (λ rest. z ∷ rest) (take_all zs)

  put_no_back : (within : Bool) (lane place : ℕ) (note : Note) →
      times (backs_for x) (cond within (silent (Put lane place note) ∷ []) []) ≡ 0
  put_no_back true lane place note = refl
  put_no_back false lane place note = refl

  put_no_place : (within : Bool) (lane place : ℕ) (note : Note) →
      times (allots_for x) (cond within (silent (Put lane place note) ∷ []) []) ≡ 0
  put_no_place true lane place note = refl
  put_no_place false lane place note = refl

  module _ (script : ScriptModel) (going : stops script x ≡ false) (unentered : is_inline script x ≡ false) where
    -- a call that isn't placed is of another act
    other_than : (act : ℕ) (test : ℕ → Bool) → test x ≡ false → test act ≡ true → one_if (act == x) ≡ 0
    other_than act test isnt is = by (act == x) refl
      where
        by : (b : Bool) → (act == x) ≡ b → one_if b ≡ 0
        by true here = absurd (never (test act) (ap test (eqb-true act x here) ∙ isnt) is)
        by false here = refl

    call_counts : {made : Posted} {labels : List Labelled} → IsDrawn script made labels →
        (times (backs_for x) labels ≡ one_if (is_back x made)) × (times (allots_for x) labels ≡ one_if (is_call x made))
    call_counts begins = (refl, refl)
    call_counts (posts {act} {place} {found} isnt unentered) =
        let at : ℕ = asked_lane script act in
        let none = put_no_back (nat_lt place (slice_index (cells_of script) at)) at place (call_note act) in
        let nowhere = put_no_place (nat_lt place (slice_index (cells_of script) at)) at place (call_note act) in
        (omega (arith, none), omega (arith, nowhere))
    call_counts (dispatches {act} {found} isnt within) =
        let other = other_than act (is_inline script) unentered within in (refl, omega (arith, other))
    call_counts (stops_context {act} {called} {stopped} is) =
        let other = other_than act (stops script) going is in (refl, omega (arith, other))
    call_counts (returns {act} {found}) = (omega arith, refl)
    call_counts ends = (refl, refl)

    drawn_counts : {calls : List Posted} {labels : List Labelled} → AreDrawn script calls labels →
        (times (backs_for x) labels ≡ backs_in x calls) × (times (allots_for x) labels ≡ calls_in x calls)
    drawn_counts none_drawn = (refl, refl)
    drawn_counts (one_drawn {calls} {call = one} {labels} {made} before now) =
        let rest = drawn_counts before in
        let next = call_counts now in
        let backs = times-append (backs_for x) labels made in
        let places = times-append (allots_for x) labels made in
        let all_backs = back-append x calls (one ∷ []) in
        let all_calls = in-append x calls (one ∷ []) in
        (omega (arith, rest.0, next.0, backs, all_backs), omega (arith, rest.1, next.1, places, all_calls))

    part_most : (test : Labelled → Bool) (labels : List Labelled) (k : ℕ) → times test (take k labels) ≤ times test labels
    part_most test labels zero = omega arith
    part_most test [] (suc k) = omega arith
    part_most test (label ∷ labels) (suc k) = let rest = part_most test labels k in omega (arith, rest)

    either_one : (made : Posted) → one_if (is_call x made) + one_if (is_back x made) ≤ 1
    either_one (posted.Begin op given size begun) = omega arith
    either_one (posted.Call act) = one_most (act == x)
      where
        one_most : (b : Bool) → one_if b + 0 ≤ 1
        one_most true = omega arith
        one_most false = omega arith
    either_one (posted.Back act) = one_most (act == x)
      where
        one_most : (b : Bool) → 0 + one_if b ≤ 1
        one_most true = omega arith
        one_most false = omega arith
    either_one (posted.End op ran) = omega arith

    drawn_front : {calls : List Posted} {labels : List Labelled} → AreDrawn script calls labels → (rest : List Posted) →
        Backed x 0 (calls ++ rest) → Front labels
    drawn_front none_drawn rest backed = front-nil
    drawn_front (one_drawn {calls} {call = one} {labels} {made} before now) rest backed =
        let whole : Backed x 0 (calls ++ one ∷ rest) = subst (Backed x 0) (append_assoc calls (one ∷ []) rest) backed in
        let first = drawn_front before (one ∷ rest) whole in
        let counts = drawn_counts before in
        let next = call_counts now in
        let least = backed_front x calls (one ∷ rest) 0 whole in
        let most = backed_front x (calls ++ one ∷ []) rest 0 backed in
        let all_backs = back-append x calls (one ∷ []) in
        let all_calls = in-append x calls (one ∷ []) in
        let only = either_one one in
        λ k. elim (cases_lt k (length labels)) [
          | inl less ↦
              subst (λ zs. times (backs_for x) zs ≤ times (allots_for x) zs)
              (sym (take_short labels made k (omega (arith, less)))) (first k)
          | inr beyond ↦
              let part : List Labelled = take (k - length labels) made in
              let backs = times-append (backs_for x) labels part in
              let places = times-append (allots_for x) labels part in
              let few = part_most (backs_for x) made (k - length labels) in
              subst (λ zs. times (backs_for x) zs ≤ times (allots_for x) zs) (sym (take_long labels made k beyond))
              (omega (arith, counts.0, counts.1, next.0, least, most, all_backs, all_calls, only, backs, places, few))
        ]

    resting_front : (step : ClockStep) → Front (silent step ∷ [])
    resting_front step = front_none (silent step ∷ []) refl

    looks_none : (looks : List Looked) → times (backs_for x) (map look_label looks) ≡ 0
    looks_none [] = refl
    looks_none (look ∷ looks) = let rest = looks_none looks in omega (arith, rest)

    closing_none : (lists : ℕ → List ClockStep) (earlier : List OpenerPart) (part : ClosedPart) (shown : Event) →
        Closes script lists earlier part shown → one_if (is_back_of x shown) ≡ 0
    closing_none lists earlier part event.Ended closes = refl
    closing_none lists earlier part event.Stopped closes = refl
    closing_none lists earlier part event.Polled closes = refl
    closing_none lists earlier part other closes = absurd closes

    opener_front : (lists : ℕ → List ClockStep) (earlier : List OpenerPart) (part : OpenerPart) →
        MayFollowOpened script lists earlier part → Front (opener_labels part)
    opener_front lists earlier (resting step) may = resting_front step
    opener_front lists earlier (opened calls labels) may =
        drawn_front may.drawn [] (subst (Backed x 0) (sym (append_none calls)) (calls_backed x script AnyMark may.acts))
      where
        append_none : (xs : List Posted) → xs ++ [] ≡ xs
        append_none [] = refl
        append_none (y ∷ ys) = ap (λ zs. y ∷ zs) (append_none ys)
    opener_front lists earlier (restarted drawn) may = front_none (opener_labels (restarted drawn)) refl
    opener_front lists earlier (closed part) may =
        let last : List Labelled = shows part.shown (closing_change part.shown) part.drawn ∷ [] in
        let looks = looks_none part.looks in
        let both = times-append (backs_for x) (map look_label part.looks) last in
        let one : one_if (is_back_of x part.shown) ≡ 0 = closing_none lists earlier part part.shown may.closes in
        let none : times (backs_for x) last ≡ 0 = omega (arith, one) in
        front_none (opener_labels (closed part)) (omega (arith, looks, both, none))

    worker_front : (opener : List ClockStep) (earlier : List WorkerPart) (part : WorkerPart) →
        MayFollowStopped script opener earlier part → Front (labels_worker part)
    worker_front opener earlier (waiting step) may = resting_front step
    worker_front opener earlier (stopped drawn) may = front_none (labels_worker (stopped drawn)) refl

-- a label that passes a test, and among the first labels one that does
pub at_least : (test : Labelled → Bool) (xs : List Labelled) (i : ℕ) (label : Labelled) → get_elem? xs i ≡ some label →
    test label ≡ true → 1 ≤ times test (take (suc i) xs)
at_least test [] i label at is = absurd (some-ne-none label (sym at))
at_least test (y ∷ xs) zero label at is =
    let one : one_if (test y) ≡ 1 = ap one_if (ap test (some-injective y label at) ∙ is) in omega (arith, one)
at_least test (y ∷ xs) (suc i) label at is = let rest = at_least test xs i label at is in omega (arith, rest)

pub find : (test : Labelled → Bool) (xs : List Labelled) (k : ℕ) → 1 ≤ times test (take k xs) →
    (j : ℕ) × (label : Labelled) × (j < k) × (get_elem? xs j ≡ some label) × (test label ≡ true)
find test xs zero found = absurd (omega (arith, found))
find test [] (suc k) found = absurd (omega (arith, found))
find test (y ∷ xs) (suc k) found =
    by (test y) refl (λ more.
    let rest = find test xs k more in (suc rest.0, rest.1, omega (arith, rest.2), rest.3, rest.4))
  where
    by : (b : Bool) → test y ≡ b →
        (1 ≤ times test (take k xs) →
        (j : ℕ) × (label : Labelled) × (j < suc k) × (get_elem? (y ∷ xs) j ≡ some label) × (test label ≡ true)) →
        (j : ℕ) × (label : Labelled) × (j < suc k) × (get_elem? (y ∷ xs) j ≡ some label) × (test label ≡ true)
    by true is later = (0, y, omega arith, refl, is)
    by false isnt later = later (let none : one_if (test y) ≡ 0 = ap one_if isnt in omega (arith, none, found))

module _ (names : SessionNames) (logs : LogsView) (labels : ℕ → List Labelled) (are : AreLabels names logs labels) (x : ℕ)
    (going : stops names.script x ≡ false) (unentered : is_inline names.script x ≡ false) where
  lane_front : (lane : ℕ) → lane ≢ reactor_lane names.script → (earlier : List Part) (part : Part) →
      MayFollow names (logs.lists (opener_seat names.script)) lane earlier part → Front x (labels_in names.script lane part)
  lane_front lane away earlier (idle step) may = resting_front x names.script going unentered step
  lane_front lane away earlier (executed part) may =
      front_next x _ (silent (Load part.load) ∷ part.labels) refl
      (front_next x (silent (Load part.load)) part.labels refl
      (drawn_front x names.script going unentered may.drawn []
      (subst (Backed x 0) (sym (append_none part.calls))
      (execution_backed x names.script (IsNamedMark names) part.note.op part.calls part.note.code part.note.size may.whole))))
    where
      append_none : (xs : List Posted) → xs ++ [] ≡ xs
      append_none [] = refl
      append_none (y ∷ ys) = ap (λ zs. y ∷ zs) (append_none ys)
  lane_front lane away earlier (turned part) may = absurd (away may.reactor)
  lane_front lane away earlier (failed part) may = absurd (away may.reactor)
  lane_front lane away earlier (missing place note) may = front_none x (labels_in names.script lane (missing place note)) refl

  parts_front : (P : Type 0) (made : P → List Labelled) (May : List P → P → Type 0) →
      ((earlier : List P) (part : P) → May earlier part → Front x (made part)) → (parts : List P) →
      Follow P made May parts → Front x (all_made P made parts)
  parts_front P made May each [] all = front-nil x
  parts_front P made May each (part ∷ parts) all =
      front-append x (all_made P made parts) (made part) (parts_front P made May each parts all.0) (each parts part all.1)

  number_front : (n : ℕ) → n ≢ reactor_lane names.script → Front x (labels n)
  number_front n away = elim (cases_lt n (lane_count names.script)) [
    | inl lane ↦
        let made = are.lanes n lane in
        subst (Front x) (sym made.are)
        (parts_front Part (labels_in names.script n) (MayFollow names (logs.lists (opener_seat names.script)) n)
        (lane_front n away) made.parts made.follow)
    | inr behind ↦ elim (cases_lt n (opener_seat names.script)) [
      | inl before ↦
          let made = are.workers n (record { behind = behind; before = before }) in
          subst (Front x) (sym made.are)
          (parts_front WorkerPart labels_worker (MayFollowStopped names.script (logs.lists (opener_seat names.script)))
          (worker_front x names.script going unentered (logs.lists (opener_seat names.script))) made.parts made.follow)
      | inr beyond ↦ elim (cases_eq n (opener_seat names.script)) [
        | inl is ↦
            subst (λ n. Front x (labels n)) (sym is)
            (subst (Front x) (sym are.opener.are)
            (parts_front OpenerPart opener_labels (MayFollowOpened names.script logs.lists)
            (opener_front x names.script going unentered logs.lists) are.opener.parts are.opener.follow))
        | inr isnt ↦ subst (Front x) (sym (are.others n (omega (arith, beyond, isnt)))) (front-nil x)
      ]
    ]
  ]

  -- behind a back's label there is the place that the act got: the place that an act got among the first labels of a number
  pub record IsPlacedBefore (n i : ℕ) : Type 0 where
    pub at : ℕ
    pub lane : ℕ
    pub place : ℕ
    pub before : at < i
    pub there : get_elem? (labels n) at ≡ some (allots x lane place)

  pub placed_before : (n : ℕ) → n ≢ reactor_lane names.script → (i : ℕ) (label : Labelled) →
      get_elem? (labels n) i ≡ some label → backs_for x label ≡ true → IsPlacedBefore n i
  placed_before n away i label at backs =
      let least = at_least (backs_for x) (labels n) i label at backs in
      let front = number_front n away (suc i) in
      let found = find (allots_for x) (labels n) (suc i) (omega (arith, least, front)) in
      by_label found.0 found.1 found.2 found.3 found.4
    where
      by_label : (j : ℕ) (other : Labelled) → j < suc i → get_elem? (labels n) j ≡ some other →
          allots_for x other ≡ true → IsPlacedBefore n i
      by_label j (silent step) less there is = absurd (cc)
      by_label j (shows shown changes found) less there is = absurd (cc)
      by_label j (allots act lane place) less there is = record {
        at = j;
        lane = lane;
        place = place;
        before = elim (cases_eq j i) [
          | inl same ↦
              absurd (let here : label ≡ allots act lane place =
              some-injective label (allots act lane place) (sym at ∙ (ap (get_elem? (labels n)) (sym same) ∙ there)) in
              never (backs_for x label) (ap (backs_for x) here) backs)
          | inr other ↦ omega (arith, less, other)
        ];
        there = there ∙ ap (λ a. some (allots a lane place)) (eqb-true act x is);
      }
