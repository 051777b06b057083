-- The table begins with an empty history, and in the end the seat that has all numbers knows the whole.
use Rattle.std.proofs.Common.{◌≡◌, ◌≢◌, ℕ, zero, suc, ◌+◌, ◌*◌, ◌-◌, ◌^◌, ◌<◌, ◌≤◌, true, List, [], ◌∷◌, ◌++◌, length, replicate, slice_index, sym, refl, ap, ◌∙◌, subst, arith}
use Rattle.std.proofs.lemmas.List.{length-set, length-replicate, get_or-set_same, get_or-set_other, get_or_past, length-append}
use Rattle.std.proofs.lemmas.Bool.{cases_lt}
use mathlib.Core.Option.{some, some-injective, some-ne-none}
use lib.ListN.{get_elem?}
use Rattle.atomic_table.specs.Table.{State, opening, Final, Seen}
use Rattle.lane_clock.specs.declared.found.Found.{Found}
use Rattle.lane_clock.specs.declared.step.ClockStep.{ClockStep}
use Rattle.lane_clock.specs.declared.step.Known.{Known}
use Rattle.lane_clock.specs.declared.step.View.{View}
use Rattle.lane_clock.specs.Layout.{Layout, total, place_word, cell_word}
use Rattle.lane_clock.specs.Knowledge.{known, unknown, known_at, steps_at, owns_below}
use Rattle.lane_clock.specs.ClockWord.{found_of}
use Rattle.lane_clock.specs.Rule.{ClockRule}
use Rattle.lane_clock.specs.Closing.{Closed}
use Rattle.lane_clock.specs.Chronicle.{AreWords, KnowsHistory, HasOneHistory, giver, first_words}
use Rattle.lane_clock.specs.History.{ClockEvent, steps_under, word_after, IsSoundHistory, words_after}
use Rattle.lane_clock.proofs.KnownLemmas.{mine_within, under_other}
use Rattle.lane_clock.proofs.ClockLemmas.{word_bounded, word_of-found_of}
use Rattle.lane_clock.proofs.ShareLemmas.{none_heard}
use Rattle.lane_clock.proofs.PartLemmas.{rule_of}

zero_at : (n i : ℕ) → slice_index (replicate n 0) i ≡ 0
zero_at zero i = refl
zero_at (suc n) zero = refl
zero_at (suc n) (suc i) = zero_at n i

first_are : (plan : Layout) → AreWords plan [] (first_words plan)
first_are plan =
    let n : ℕ = 1 + length plan.cells + total plan.cells in
    let x : ℕ = plan.guards * 2 ^ 32 in
    let zeros : List ℕ = replicate n 0 in
    let long : length zeros ≡ n = length-replicate n 0 in
    let rest : (i : ℕ) → i ≢ 0 → slice_index (first_words plan) i ≡ 0 = λ (i : ℕ) (ne : i ≢ 0).
    get_or-set_other (replicate n 0) 0 i x 0 ne ∙ zero_at n i in
    record {
      count = length-set (replicate n 0) 0 x ∙ long;
      clock = get_or-set_same (replicate n 0) 0 x 0 (omega (arith, long));
      places = λ lane h. rest (place_word lane) (λ e. absurd (omega arith));
      cells = λ lane place h. rest (cell_word plan.cells lane place) (λ e. absurd (omega arith));
    }

owned : (n m k : ℕ) → steps_at (replicate n (known true []) ++ replicate m unknown) k ≡ []
owned zero zero k = refl
owned zero (suc m) zero = refl
owned zero (suc m) (suc k) = owned zero m k
owned (suc n) m zero = refl
owned (suc n) m (suc k) = owned n m k

giver_long : (n : ℕ) → length (owns_below n n) ≡ n
giver_long n =
    length-append (replicate n (known true [])) (replicate (n - n) unknown)
    ∙ (let a = length-replicate n (known true []) in let b = length-replicate (n - n) unknown in omega arith)

giver_knows : (plan : Layout) → KnowsHistory plan [] (giver plan)
giver_knows plan = record {
  short = let h = giver_long plan.seats in omega arith;
  told = λ n. ([], sym (Rattle.std.proofs.lemmas.List.append-nil _ ∙ owned plan.seats (plan.seats - plan.seats) n));
  whole = λ n m. owned plan.seats (plan.seats - plan.seats) n;
  width = λ n m.
      let i = mine_within (owns_below plan.seats plan.seats) n m in
      let h = giver_long plan.seats in (omega arith, h, refl);
  heard = none_heard;
}

alone : (v : View) (i : ℕ) (u : View) → get_elem? (v ∷ []) i ≡ some u → (i ≡ 0) × (v ≡ u)
alone v zero u e = (refl, some-injective v u e)
alone v (suc i) u e = absurd (some-ne-none u (sym e))

pub starts : (plan : Layout) {S : Type 0} → plan.seats ≤ 2 ^ 15 → plan.guards < 2 ^ 15 →
    HasOneHistory plan {S = S} (opening (first_words plan) [] (giver plan))
starts plan few small = record {
  history = [];
  few = (few, small);
  sound = tt;
  words = first_are plan;
  each = λ i v e. subst (KnowsHistory plan []) (alone (giver plan) i v e).1 (giver_knows plan);
  apart = λ i j n v w ei ej mi mj. (alone (giver plan) i v ei).0 ∙ sym (alone (giver plan) j w ej).0;
}

-- nobody steps under a number that isn't a seat's
none_under : (guards seats : ℕ) (es : List ClockEvent) → IsSoundHistory guards seats es → (n : ℕ) → seats ≤ n →
    steps_under n es ≡ []
none_under g s [] sound n h = refl
none_under g s (e ∷ es) sound n h =
    under_other es n e.by e.step (λ q. let l : e.by < s = sound.1 in absurd (omega arith))
    ∙ none_under g s es sound.0 n h

pub all_known : (plan : Layout) {S : Type 0} (id n : ℕ) (v : View) (s : State S View)
    (kept : HasOneHistory plan {S = S} s) → get_elem? s.views id ≡ some v → (known_at v.known n).mine ≡ true →
    ((m : ℕ) → m < v.plan.seats → (known_at v.known m).mine ≡ true) →
    ◌≡◌ {A = ℕ → List ClockStep} (λ m. steps_at v.known m) (λ m. steps_under m kept.history)
all_known plan id n v s kept at mine all = λ i m. each m i
  where
    knows : KnowsHistory plan kept.history v
    knows = kept.each id v at

    each : (m : ℕ) → steps_at v.known m ≡ steps_under m kept.history
    each m = Rattle.std.proofs.Common.⊎_elim
        (λ (lt : m < plan.seats). knows.whole m (all m (subst (λ (p : Layout). m < p.seats) (sym (knows.width n mine).2) lt)))
        (λ (ge : plan.seats ≤ m).
        ap (λ (k : Known). k.steps)
        (get_or_past v.known m unknown (subst (λ k. k ≤ m) (sym (knows.width n mine).1) ge))
        ∙ sym (none_under plan.guards plan.seats kept.history kept.sound m ge))
        (cases_lt m plan.seats)

-- what the last words say, where the seat with all numbers closes
pub closes : (plan : Layout) {S : Type 0} (id n : ℕ) (v : View) (ws : List ℕ) (xs : List S) →
    Final (Seen (λ s. HasOneHistory plan {S = S} s) id v) ws xs → (known_at v.known n).mine ≡ true →
    ((m : ℕ) → m < v.plan.seats → (known_at v.known m).mine ≡ true) →
    Closed (λ m. steps_at v.known m) plan (found_of (slice_index ws 0))
closes plan {S} id n v ws xs final mine all =
    let s = final.0 in
    let kept = final.1.0 in
    let known = all_known plan id n v s kept final.1.1 mine all in
    let read : word_after plan.guards kept.history ≡ slice_index ws 0 =
    sym kept.words.clock ∙ ap (λ us. slice_index us 0) final.2 in
    let small : slice_index ws 0 < 2 ^ 64 =
    subst (λ k. k < 2 ^ 64) read (word_bounded plan.guards kept.few.1 kept.history) in
    record {
      few = kept.few;
      history = kept.history;
      sound = kept.sound;
      all = λ m. ap (λ (ls : ℕ → List ClockStep). ls m) known;
      word = read ∙ sym (word_of-found_of (slice_index ws 0) small);
      parts = (omega arith, omega arith, omega arith);
      rule =
          subst (λ ls. ClockRule ls (words_after plan.guards kept.history) plan.guards) (sym known)
          (rule_of plan.guards plan.seats kept.few.1 kept.few.0 kept.history kept.sound);
    }

-- what is equal may be written for it
pub closed_as : (plan plan' : Layout) (ks ks' : List Known) (f f' : Found) → plan ≡ plan' → ks ≡ ks' → f ≡ f' →
    Closed (λ n. steps_at ks n) plan f → Closed (λ n. steps_at ks' n) plan' f'
closed_as plan plan' ks ks' f f' p k l c =
    subst (Closed (λ n. steps_at ks' n) plan') l
    (subst (λ (q : Layout). Closed (λ n. steps_at ks' n) q f) p
    (subst (λ (us : List Known). Closed (λ n. steps_at us n) plan f) k c))
