-- At an event of the opener each other number has made just the steps that the opener had taken in; so a part that
-- draws knows the stand of the rounds as it is.
use Rattle.std.proofs.Common.{◌≡◌, ℕ, zero, suc, ◌+◌, ◌-◌, ◌^◌, ◌<◌, ◌≤◌, Bool, true, false, cond, List, [], ◌∷◌, ◌++◌, inl, inr, length, refl, sym, ap, subst, ◌∙◌, arith, take, length-append}
use Rattle.std.specs.Prelude.{◌&&◌, ◌==◌, max, nat_lt, not, slice_index}
use Rattle.std.proofs.Math.Seq.{take-append_seam}
use Rattle.std.proofs.lemmas.Bool.{and_parts, cases_lt, eqb-true}
use mathlib.Core.Option.{some, some-injective, some-ne-none}
use lib.ListN.{get_elem?}
use Rattle.session_script.specs.Script.{ScriptModel}
use Rattle.lane_clock.specs.declared.found.Found.{Found}
use Rattle.lane_clock.specs.declared.step.ClockStep.{ClockStep}
use Rattle.lane_clock.specs.declared.step.ClockStep.TheVariants.{Draw, Load, Place, Put, Look, Join}
use Rattle.lane_clock.specs.Closing.{Closed}
use Rattle.lane_clock.specs.History.{ClockEvent, Fits, IsSoundHistory, steps_under}
use Rattle.lane_clock.specs.Knowledge.{StartOf}
use Rattle.lane_clock.specs.Layout.{Layout}
use Rattle.lane_clock.specs.Rule.{StepAt}
use Rattle.lane_clock.proofs.KnownLemmas.{at_within, event, under_other, under_same}
use Rattle.lane_clock.proofs.MomentLemmas.{Tail, moment_of, sound_tail, tail_more, tail_trans, under_grows, under_length}
use Rattle.lane_logs.specs.Cuts.{IsCut, IsEventAt}
use Rattle.lane_logs.specs.Knowing.{joined_count, known_steps}
use Rattle.lane_logs.specs.SeatNumbers.{opener_seat}
use Rattle.lane_logs.specs.Stand.{Stand, after_draw, after_opening_draw, after_round_draw, base_of, first_stand, is_round_open, shut, stand_from, stand_of, wants_restart}
use Rattle.history_merge.proofs.PartLemmas.{at_left}
use mathlib.Core.Logic.{dite}
use native.Mathlib.Decide.{ℕ_discrete}

-- how much was taken in
pub joined-append : (n : ℕ) (xs ys : List ClockStep) →
    joined_count n (xs ++ ys) ≡ max (joined_count n xs) (joined_count n ys)
joined-append n [] ys = omega arith
joined-append n (Draw shown change found ∷ xs) ys = joined-append n xs ys
joined-append n (Load found ∷ xs) ys = joined-append n xs ys
joined-append n (Place lane place ∷ xs) ys = joined-append n xs ys
joined-append n (Put lane place note ∷ xs) ys = joined-append n xs ys
joined-append n (Look lane place held ∷ xs) ys = joined-append n xs ys
joined-append n (Join counts ∷ xs) ys = let more = joined-append n xs ys in omega (arith, more)

pub joined_has : (n : ℕ) (xs : List ClockStep) (i : ℕ) (counts : List ℕ) → get_elem? xs i ≡ some (Join counts) →
    slice_index counts n ≤ joined_count n xs
joined_has n [] i counts at = absurd (some-ne-none (Join counts) (sym at))
joined_has n (step ∷ xs) zero counts at =
    subst (λ (s : ClockStep). slice_index counts n ≤ joined_count n (s ∷ xs)) (sym (some-injective step (Join counts) at))
    (omega arith)
joined_has n (step ∷ xs) (suc i) counts at = first step (joined_has n xs i counts at)
  where
    first : (s : ClockStep) → slice_index counts n ≤ joined_count n xs → slice_index counts n ≤ joined_count n (s ∷ xs)
    first (Draw shown change found) less = less
    first (Load found) less = less
    first (Place lane place) less = less
    first (Put lane place note) less = less
    first (Look lane place held) less = less
    first (Join others) less = omega (arith, less)

-- no more is taken in than there is
pub joined_within : (guards seats : ℕ) (es : List ClockEvent) → IsSoundHistory guards seats es → (m n : ℕ) →
    joined_count n (steps_under m es) ≤ length (steps_under n es)
joined_within guards seats [] sound m n = omega arith
joined_within guards seats (e ∷ es) sound m n =
    let before : joined_count n (steps_under m es) ≤ length (steps_under n es) = joined_within guards seats es sound.0 m n in
    let grown : length (steps_under n es) ≤ length (steps_under n (e ∷ es)) = under_length n es (e ∷ es) (inr (same es)) in
    dite (ℕ_discrete m e.by)
    (λ (is : m ≡ e.by).
    let count : joined_count n (steps_under m (e ∷ es))
    ≡ max (joined_count n (steps_under m es)) (joined_count n (e.step ∷ [])) =
    ap (joined_count n)
    (subst (λ k. steps_under m (event k e.step ∷ es) ≡ steps_under m es ++ e.step ∷ []) is (under_same es m e.step))
    ∙ joined-append n (steps_under m es) (e.step ∷ []) in
    let now : joined_count n (e.step ∷ []) ≤ length (steps_under n es) = one e.step sound.2 in
    omega (arith, before, grown, count, now))
    (λ other.
    let same : joined_count n (steps_under m (e ∷ es)) ≡ joined_count n (steps_under m es) =
    ap (joined_count n) (under_other es m e.by e.step other) in
    omega (arith, before, grown, same))
  where
    same : (xs : List ClockEvent) → Tail xs xs
    same [] = refl
    same (x ∷ xs) = inl refl

    one : (s : ClockStep) → Fits guards es e.by s → joined_count n (s ∷ []) ≤ length (steps_under n es)
    one (Draw shown change found) fits = omega arith
    one (Load found) fits = omega arith
    one (Place lane place) fits = omega arith
    one (Put lane place note) fits = omega arith
    one (Look lane place held) fits = omega arith
    one (Join counts) fits = let within = fits n in omega (arith, within)

-- the stand of the rounds goes on by draws alone
pub stand-append : (script : ScriptModel) (stand : Stand) (xs ys : List ClockStep) →
    stand_from script stand (xs ++ ys) ≡ stand_from script (stand_from script stand xs) ys
stand-append script stand [] ys = refl
stand-append script stand (Draw shown change found ∷ xs) ys = stand-append script (after_draw script stand found) xs ys
stand-append script stand (Load found ∷ xs) ys = stand-append script stand xs ys
stand-append script stand (Place lane place ∷ xs) ys = stand-append script stand xs ys
stand-append script stand (Put lane place note ∷ xs) ys = stand-append script stand xs ys
stand-append script stand (Look lane place held ∷ xs) ys = stand-append script stand xs ys
stand-append script stand (Join counts ∷ xs) ys = stand-append script stand xs ys

pub take_next : {A : Type 0} → (xs : List A) (i : ℕ) (x : A) → get_elem? xs i ≡ some x →
    take (suc i) xs ≡ take i xs ++ x ∷ []
take_next [] i x at = absurd (some-ne-none x (sym at))
take_next (y ∷ xs) zero x at = ap (λ z. z ∷ []) (some-injective y x at)
take_next (y ∷ xs) (suc i) x at = ap (λ zs. y ∷ zs) (take_next xs i x at)

pub there_is : {A : Type 0} → (xs : List A) (i : ℕ) → i < length xs → (x : A) × (get_elem? xs i ≡ some x)
there_is [] i within = absurd (omega (arith, within))
there_is (x ∷ xs) zero within = (x, refl)
there_is (x ∷ xs) (suc i) within = there_is xs i (omega (arith, within))

round_opening : (script : ScriptModel) (stand : Stand) (found : Found) →
    (after_round_draw script stand found).opening ≡ stand.opening
round_opening script stand found = go (wants_restart script stand)
  where
    go : (wants : Bool) → (cond wants (record stand { restarted = true; base = found.stops })
        (record stand { closings = stand.closings + 1; restarted = false })).opening ≡ stand.opening
    go true = refl
    go false = refl

pub opened_stays : (script : ScriptModel) (stand : Stand) (found : Found) → stand.opening ≡ 0 →
    (after_draw script stand found).opening ≡ 0
opened_stays script stand found opened =
    subst (λ left. (after_opening_draw left script stand found).opening ≡ 0) (sym opened)
    (round_opening script stand found ∙ opened)

module _ (script : ScriptModel) (lists : ℕ → List ClockStep) (plan : Layout) (last : Found)
    (closed : Closed lists plan last) where
  abbrev opener : ℕ
  opener = opener_seat script

  -- what a history has of a number is the first of its list
  pub under_start : (es : List ClockEvent) → Tail es closed.history → (n : ℕ) → StartOf (steps_under n es) (lists n)
  under_start es tail n = subst (StartOf (steps_under n es)) (sym (closed.all n)) (under_grows n es closed.history tail)

  pub under_take : (es : List ClockEvent) → Tail es closed.history → (n : ℕ) →
      take (length (steps_under n es)) (lists n) ≡ steps_under n es
  under_take es tail n =
      let start = under_start es tail n in
      ap (take (length (steps_under n es))) start.1 ∙ take-append_seam (steps_under n es) start.0

  pub under_at : (es : List ClockEvent) → Tail es closed.history → (n i : ℕ) (step : ClockStep) → StepAt lists n i step →
      i < length (steps_under n es) → get_elem? (steps_under n es) i ≡ some step
  under_at es tail n i step at within =
      let start = under_start es tail n in
      sym (at_left (steps_under n es) start.0 i within) ∙ (sym (ap (λ xs. get_elem? xs i) start.1) ∙ at)

  under_fits : (es : List ClockEvent) → Tail es closed.history → (n : ℕ) → length (steps_under n es) ≤ length (lists n)
  under_fits es tail n =
      let start = under_start es tail n in
      let size : length (lists n) ≡ length (steps_under n es) + length start.0 =
      ap length start.1 ∙ length-append (steps_under n es) start.0 in
      omega (arith, size)

  module _ (cuts : (j n : ℕ) → IsEventAt script lists j → n < opener_seat script → IsCut script lists j n) where
    -- at an event each other number has made the steps that the opener had taken in
    pub cut_exact : (step : ClockStep) (older : List ClockEvent) → Tail (event opener step ∷ older) closed.history →
        IsEventAt script lists (length (steps_under opener older)) → (n : ℕ) → n < opener →
        length (steps_under n older) ≡ joined_count n (steps_under opener older)
    cut_exact step older tail is n before =
        let j : ℕ = length (steps_under opener older) in
        let within = tail_more older (event opener step) closed.history tail in
        let sound = sound_tail plan.guards plan.seats older closed.history within closed.sound in
        let cut = cuts j n is before in
        let x : ℕ = joined_count n (take j (lists opener)) in
        let taken : x ≡ joined_count n (steps_under opener older) =
        ap (joined_count n) (under_take older within opener) in
        let least : joined_count n (steps_under opener older) ≤ length (steps_under n older) =
        joined_within plan.guards plan.seats older sound opener n in
        elim (cases_lt x (length (steps_under n older))) [
          | inl less ↦
              let at = under_at older within n x (Join cut.counts) cut.joins less in
              let knew : slice_index cut.counts opener ≤ joined_count opener (steps_under n older) =
              joined_has opener (steps_under n older) x cut.counts at in
              let most : joined_count opener (steps_under n older) ≤ j =
              joined_within plan.guards plan.seats older sound n opener in
              absurd (omega (arith, knew, most, cut.knows))
          | inr rest ↦ omega (arith, rest, taken, least)
        ]

    -- A number that took in nothing from its step `since` on has known each event of the opener
    pub none_between : (es : List ClockEvent) → Tail es closed.history → (m since : ℕ) → m < opener →
        ((i : ℕ) (counts : List ℕ) → since ≤ i → i ≤ length (steps_under m es) →
        StepAt lists m i (Join counts) → ⊥) →
        (j : ℕ) → joined_count opener (take since (lists m)) ≤ j → j < length (steps_under opener es) →
        IsEventAt script lists j → ⊥
    none_between es tail m since before quiet j knew made is =
        let drawn : get_elem? (steps_under opener es) j ≡ some (Draw is.shown is.changes is.found) =
        under_at es tail opener j (Draw is.shown is.changes is.found) is.drawn made in
        let moment = moment_of es opener j (Draw is.shown is.changes is.found) drawn in
        let older : List ClockEvent = moment.older in
        let then = tail_trans (event opener (Draw is.shown is.changes is.found) ∷ older) es closed.history moment.tail tail in
        let within = tail_more older (event opener (Draw is.shown is.changes is.found)) closed.history then in
        let exact : length (steps_under m older) ≡ joined_count m (steps_under opener older) =
        cut_exact (Draw is.shown is.changes is.found) older then (subst (IsEventAt script lists) moment.index is) m before in
        let cut = cuts j m is before in
        let x : ℕ = joined_count m (take j (lists opener)) in
        let taken : x ≡ joined_count m (steps_under opener older) =
        ap (λ k. joined_count m (take k (lists opener))) moment.index ∙ ap (joined_count m) (under_take older within opener) in
        let passed : length (steps_under m older) ≤ length (steps_under m es) =
        under_length m older es (tail_more older (event opener (Draw is.shown is.changes is.found)) es moment.tail) in
        elim (cases_lt x since) [
          | inl less ↦
              let there : x < length (lists m) = at_within (lists m) x (Join cut.counts) cut.joins in
              let at : get_elem? (take since (lists m)) x ≡ some (Join cut.counts) =
              early (lists m) since x (Join cut.counts) less cut.joins in
              let more : slice_index cut.counts opener ≤ joined_count opener (take since (lists m)) =
              joined_has opener (take since (lists m)) x cut.counts at in
              omega (arith, more, knew, cut.knows)
          | inr rest ↦ quiet x cut.counts rest (omega (arith, taken, exact, passed)) cut.joins
        ]
      where
        early : {A : Type 0} → (xs : List A) (n i : ℕ) (x : A) → i < n → get_elem? xs i ≡ some x →
            get_elem? (take n xs) i ≡ some x
        early [] n i x less at = absurd (some-ne-none x (sym at))
        early (y ∷ xs) zero i x less at = absurd (omega (arith, less))
        early (y ∷ xs) (suc n) zero x less at = at
        early (y ∷ xs) (suc n) (suc i) x less at = early xs n i x (omega (arith, less)) at

    -- where `open` is over, the stand stays while there is no event
    stand_stays : (known more : ℕ) → known + more ≤ length (lists opener) →
        ((j : ℕ) → known ≤ j → j < known + more → IsEventAt script lists j → ⊥) →
        (stand_of script (take known (lists opener))).opening ≡ 0 →
        stand_of script (take (known + more) (lists opener)) ≡ stand_of script (take known (lists opener))
    stand_stays known zero within none opened =
        ap (λ k. stand_of script (take k (lists opener))) (let same : known + zero ≡ known = omega arith in same)
    stand_stays known (suc more) within none opened =
        let before = stand_stays known more (omega (arith, within)) (λ j from to. none j from (omega (arith, to))) opened in
        let next = there_is (lists opener) (known + more) (omega (arith, within)) in
        let longer : take (suc (known + more)) (lists opener) ≡ take (known + more) (lists opener) ++ next.0 ∷ [] =
        take_next (lists opener) (known + more) next.0 next.1 in
        let on : stand_of script (take (suc (known + more)) (lists opener))
        ≡ stand_from script (stand_of script (take (known + more) (lists opener))) (next.0 ∷ []) =
        ap (stand_of script) longer
        ∙ stand-append script (first_stand script) (take (known + more) (lists opener)) (next.0 ∷ []) in
        ap (λ k. stand_of script (take k (lists opener))) (let same : known + suc more ≡ suc (known + more) = omega arith in same)
        ∙ step next.0 next.1 on before
      where
        step : (s : ClockStep) → StepAt lists opener (known + more) s →
            stand_of script (take (suc (known + more)) (lists opener))
            ≡ stand_from script (stand_of script (take (known + more) (lists opener))) (s ∷ []) →
            stand_of script (take (known + more) (lists opener)) ≡ stand_of script (take known (lists opener)) →
            stand_of script (take (suc (known + more)) (lists opener)) ≡ stand_of script (take known (lists opener))
        step (Draw shown changes found) at on before =
            let was : (stand_of script (take (known + more) (lists opener))).opening ≡ 0 =
            ap (λ (s : Stand). s.opening) before ∙ opened in
            absurd (none (known + more) (omega arith) (omega arith) (record {
              shown = shown;
              changes = changes;
              found = found;
              drawn = at;
              opened =
                  ap (λ (s : Stand). s.opening) on
                  ∙ opened_stays script (stand_of script (take (known + more) (lists opener))) found was;
            }))
        step (Load found) at on before = on ∙ before
        step (Place lane place) at on before = on ∙ before
        step (Put lane place note) at on before = on ∙ before
        step (Look lane place held) at on before = on ∙ before
        step (Join counts) at on before = on ∙ before

    -- so what it knows of the rounds is how they stand, where it knows `open` to be over
    pub known_stand : (es : List ClockEvent) → Tail es closed.history → (m since : ℕ) → m < opener →
        since ≤ length (steps_under m es) →
        ((i : ℕ) (counts : List ℕ) → since ≤ i → i ≤ length (steps_under m es) →
        StepAt lists m i (Join counts) → ⊥) →
        (stand_of script (known_steps (lists opener) opener (take since (lists m)))).opening ≡ 0 →
        stand_of script (steps_under opener es)
        ≡ stand_of script (known_steps (lists opener) opener (take since (lists m)))
    known_stand es tail m since before made quiet opened =
        let sound = sound_tail plan.guards plan.seats es closed.history tail closed.sound in
        let known : ℕ = joined_count opener (take since (lists m)) in
        let first : take since (lists m) ≡ take since (steps_under m es) =
        ap (take since) (under_start es tail m).1 ∙ short (steps_under m es) (under_start es tail m).0 since made in
        let less : known ≤ length (steps_under opener es) =
        let all : joined_count opener (steps_under m es) ≤ length (steps_under opener es) =
        joined_within plan.guards plan.seats es sound m opener in
        let whole : joined_count opener (steps_under m es)
        ≡ max (joined_count opener (take since (steps_under m es))) (joined_count opener (rest since (steps_under m es))) =
        ap (joined_count opener) (cut_at since (steps_under m es))
        ∙ joined-append opener (take since (steps_under m es)) (rest since (steps_under m es)) in
        let same : known ≡ joined_count opener (take since (steps_under m es)) = ap (joined_count opener) first in
        omega (arith, all, whole, same) in
        let more : ℕ = length (steps_under opener es) - known in
        let sum : known + more ≡ length (steps_under opener es) = omega (arith, less) in
        let fits : length (steps_under opener es) ≤ length (lists opener) = under_fits es tail opener in
        ap (stand_of script) (sym (under_take es tail opener))
        ∙ (ap (λ k. stand_of script (take k (lists opener))) (sym sum)
        ∙ stand_stays known more (omega (arith, sum, fits))
        (λ j from to. none_between es tail m since before quiet j from (omega (arith, to, sum))) opened)
      where
        rest : {A : Type 0} → ℕ → List A → List A
        rest zero xs = xs
        rest (suc n) [] = []
        rest (suc n) (x ∷ xs) = rest n xs

        cut_at : {A : Type 0} → (n : ℕ) (xs : List A) → xs ≡ take n xs ++ rest n xs
        cut_at zero xs = refl
        cut_at (suc n) [] = refl
        cut_at (suc n) (x ∷ xs) = ap (λ ys. x ∷ ys) (cut_at n xs)

        short : {A : Type 0} → (xs ys : List A) (n : ℕ) → n ≤ length xs → take n (xs ++ ys) ≡ take n xs
        short xs ys zero within = refl
        short [] ys (suc n) within = absurd (omega (arith, within))
        short (x ∷ xs) ys (suc n) within = ap (λ zs. x ∷ zs) (short xs ys n (omega (arith, within)))

-- An open round, and the stops that its restart found
pub record IsRoundOf (script : ScriptModel) (stand : Stand) (stops : ℕ) : Type 0 where
  pub round : is_round_open script stand ≡ true
  pub base : stops ≡ stand.base

-- stops that a clock finds are the base of a round that is open
pub open_base : (script : ScriptModel) (steps : List ClockStep) (stops : ℕ) → stops < 2 ^ 16 →
    stops ≡ base_of script steps → IsRoundOf script (stand_of script steps) stops
open_base script steps stops few is = go (is_round_open script (stand_of script steps)) refl is
  where
    go : (open_now : Bool) → is_round_open script (stand_of script steps) ≡ open_now →
        stops ≡ cond open_now (stand_of script steps).base shut → IsRoundOf script (stand_of script steps) stops
    go true now is = record { round = now; base = is }
    go false now is = absurd (omega (arith, few, is))

pub open_opened : (script : ScriptModel) (stand : Stand) → is_round_open script stand ≡ true → stand.opening ≡ 0
open_opened script stand is =
    let first =
    and_parts ((stand.opening == 0) && nat_lt stand.closings (length script.rounds)) (not (wants_restart script stand))
    is in
    let second = and_parts (stand.opening == 0) (nat_lt stand.closings (length script.rounds)) first.0 in
    eqb-true stand.opening 0 second.0
