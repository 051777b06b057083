-- The laws that need more than a part of the rule.
use Rattle.std.proofs.Common.{◌≡◌, ◌⊎◌, inl, inr, ℕ, zero, suc, ◌+◌, ◌-◌, ◌*◌, ◌%◌, ◌^◌, ◌<◌, ◌≤◌, List, sym, refl, ap, ◌∙◌, subst, arith}
use Rattle.std.proofs.lemmas.Bool.{cases_lt}
use mathlib.Core.Option.{some}
use lib.ListN.{get_elem?}
use Rattle.lane_clock.specs.declared.found.Found.{Found}
use Rattle.lane_clock.specs.declared.found.Change.{Change}
use Rattle.lane_clock.specs.declared.found.Change.TheVariants.{Same, Up, Down, DownTwo, Stop}
use Rattle.lane_clock.specs.declared.step.ClockStep.{ClockStep}
use Rattle.lane_clock.specs.ClockWord.{amount, word_of, IsParted}
use Rattle.lane_clock.specs.Rule.{clock_in, IsFinding, by_draw, by_load, Draws, Loads, Finds}
use Rattle.lane_clock.specs.Changes.{sum_below, up_of, down_of, stop_of, ups_below, downs_below, stops_below, ChangesAre, ChangesFit, AddsUp}
use Rattle.lane_clock.specs.Layout.{Layout}
use Rattle.lane_clock.specs.History.{steps_under, word_after, words_after}
use Rattle.lane_clock.specs.Closing.{Closed}
use Rattle.lane_clock.specs.Laws.{HoldsBetweenSteps, ChangesStand, WorkAddsUp, NotesAreOlder, PositionsAreOnce}
use Rattle.lane_clock.proofs.PartLemmas.{rule_of}

pub holds_between : HoldsBetweenSteps
holds_between plan s kept = record {
  lists = λ n. steps_under n kept.history;
  words = words_after plan.guards kept.history;
  held = kept.words;
  rule = rule_of plan.guards plan.seats kept.few.1 kept.few.0 kept.history kept.sound;
  known = λ i n v e. (kept.each i v e).told n;
  own = λ i n v e m. (kept.each i v e).whole n m;
}

-- the clock at the end
last_clock : (lists : ℕ → List ClockStep) (plan : Layout) (last : Found) (c : Closed lists plan last) →
    clock_in (words_after plan.guards c.history) ≡ last.clock
last_clock lists plan last c = let w = c.word in let a : last.clock < 2 ^ 32 = c.parts.0 in omega arith

pub positions_are_once : PositionsAreOnce
positions_are_once lists plan last c =
    let clock = last_clock lists plan last c in record {
      below = λ m i change found h.
          subst (λ n. found.clock < n) clock (c.rule.draws_once.below m i change found h);
      each = λ k lt. c.rule.draws_once.each k (subst (λ n. k < n) (sym clock) lt);
      once = c.rule.draws_once.once;
    }

pub changes_stand : ChangesStand
changes_stand lists plan last c = (
  (λ k. pick k (cases_lt k last.clock)),
  (λ k lt. found k lt (cases_lt k last.clock)),
)
  where
    once : (k : ℕ) → k < last.clock →
        (m : ℕ) × (i : ℕ) × (change : Change) × (f : Found) × Draws lists m i change f × (f.clock ≡ k)
    once k lt = c.rule.draws_once.each k (subst (λ n. k < n) (sym (last_clock lists plan last c)) lt)

    pick : (k : ℕ) → (k < last.clock) ⊎ (last.clock ≤ k) → Change
    pick k (inl lt) = (once k lt).2
    pick k (inr ge) = Same

    found : (k : ℕ) → k < last.clock → (d : (k < last.clock) ⊎ (last.clock ≤ k)) →
        (m : ℕ) × (i : ℕ) × (f : Found) × Draws lists m i (pick k d) f × (f.clock ≡ k)
    found k lt (inl l) = let h = once k l in (h.0, h.1, h.3, h.4, h.5)
    found k lt (inr ge) = absurd (omega arith)

-- a change takes a whole word beside its parts
pub borrow_of : Change → ℕ
borrow_of Same = 0
borrow_of Up = 0
borrow_of Down = 1
borrow_of DownTwo = 1
borrow_of Stop = 0

amounts : (ℕ → Change) → ℕ → ℕ
amounts changes n = sum_below (λ k. amount (changes k)) n

pub parts_of : (c : Change) →
    amount c + 2 ^ 32 * down_of c ≡ 1 + 2 ^ 32 * up_of c + 2 ^ 48 * stop_of c + 2 ^ 64 * borrow_of c
unfolding borrow_of
parts_of Same = refl
parts_of Up = refl
parts_of Down = refl
parts_of DownTwo = refl
parts_of Stop = refl

sums : (changes : ℕ → Change) (n : ℕ) →
    amounts changes n + 2 ^ 32 * downs_below changes n
    ≡ n + 2 ^ 32 * ups_below changes n + 2 ^ 48 * stops_below changes n
    + 2 ^ 64 * sum_below (λ k. borrow_of (changes k)) n
unfolding amounts
sums changes zero = omega arith
sums changes (suc n) =
    let h : amounts changes n + 2 ^ 32 * downs_below changes n
    ≡ n + 2 ^ 32 * ups_below changes n + 2 ^ 48 * stops_below changes n
    + 2 ^ 64 * sum_below (λ k. borrow_of (changes k)) n =
    sums changes n in
    let p : amount (changes n) + 2 ^ 32 * down_of (changes n)
    ≡ 1 + 2 ^ 32 * up_of (changes n) + 2 ^ 48 * stop_of (changes n) + 2 ^ 64 * borrow_of (changes n) =
    parts_of (changes n) in
    omega arith

-- a word below 2^64 has one way to be cut into parts
parted : (clock work stops n guards amount ups downs halts borrows : ℕ) →
    clock + 2 ^ 32 * work + 2 ^ 48 * stops ≡ (guards * 2 ^ 32 + amount) % 2 ^ 64 →
    amount + 2 ^ 32 * downs ≡ n + 2 ^ 32 * ups + 2 ^ 48 * halts + 2 ^ 64 * borrows → clock ≡ n → clock < 2 ^ 32 →
    work < 2 ^ 16 → stops < 2 ^ 16 → downs ≤ guards + ups → guards + ups - downs < 2 ^ 16 → halts < 2 ^ 16 →
    (work ≡ guards + ups - downs) × (stops ≡ halts)
parted clock work stops n guards amount ups downs halts borrows is sum at a b c le room d =
    let left : ℕ = guards + ups - downs in
    let whole : ℕ = clock + 2 ^ 32 * left + 2 ^ 48 * halts in
    let fits : whole < 2 ^ 64 = omega arith in
    let e : guards * 2 ^ 32 + amount ≡ whole + 2 ^ 64 * borrows = omega arith in
    let same : clock + 2 ^ 32 * work + 2 ^ 48 * stops ≡ whole = omega arith in
    (omega arith, omega arith)

module _ (lists : ℕ → List ClockStep) (plan : Layout) (last : Found) (c : Closed lists plan last)
    (changes : ℕ → Change) where
  abbrev whole : ℕ → ℕ
  whole n = (plan.guards * 2 ^ 32 + amounts changes n) % 2 ^ 64

  -- a draw found the guards and all changes before
  draws_sum : (n : ℕ) → ChangesAre lists changes n → (m i : ℕ) (d : Change) (f : Found) → Draws lists m i d f →
      f.clock ≡ n → word_of f ≡ whole n
  unfolding amounts
  draws_sum zero are m i d f h e =
      let small : plan.guards < 2 ^ 15 = c.few.1 in c.rule.changes_add_up.first m i d f h e ∙ omega arith
  draws_sum (suc n) are m i d f h e =
      let p = are n (omega arith) in
      let was : word_of p.2 ≡ whole n = draws_sum n (λ k lt. are k (omega arith)) p.0 p.1 (changes n) p.2 p.3 p.4 in
      let now : word_of f ≡ (word_of p.2 + amount (changes n)) % 2 ^ 64 =
      c.rule.changes_add_up.next p.0 p.1 m i (changes n) d p.2 f p.3 h (let a : p.2.clock ≡ n = p.4 in omega arith) in
      let add : amounts changes (suc n) ≡ amount (changes n) + amounts changes n = refl in
      now ∙ (ap (λ w. (w + amount (changes n)) % 2 ^ 64) was ∙ omega arith)

  -- and so did the word at the end
  end_sum : (n : ℕ) → ChangesAre lists changes n → last.clock ≡ n → word_of last ≡ whole n
  unfolding amounts
  end_sum zero are e =
      let small : plan.guards < 2 ^ 15 = c.few.1 in
      sym c.word ∙ (c.rule.changes_add_up.none (last_clock lists plan last c ∙ e) ∙ omega arith)
  end_sum (suc n) are e =
      let p = are n (omega arith) in
      let was : word_of p.2 ≡ whole n = draws_sum n (λ k lt. are k (omega arith)) p.0 p.1 (changes n) p.2 p.3 p.4 in
      let a : p.2.clock ≡ n = p.4 in
      let now : word_after plan.guards c.history ≡ (word_of p.2 + amount (changes n)) % 2 ^ 64 =
      c.rule.changes_add_up.last p.0 p.1 (changes n) p.2 p.3 (last_clock lists plan last c ∙ omega arith) in
      sym c.word ∙ (now ∙ (ap (λ w. (w + amount (changes n)) % 2 ^ 64) was ∙ omega arith))

  finds_sum : (n : ℕ) → ChangesAre lists changes n → n ≤ last.clock → (m i : ℕ) (f : Found) → Finds lists m i f →
      f.clock ≡ n → word_of f ≡ whole n
  finds_sum n are le m i f h e = go h.0 h.1 f h.2 e
    where
      load : (g : Found) → Loads lists m i g → g.clock ≡ n → (n < last.clock) ⊎ (last.clock ≤ n) → word_of g ≡ whole n
      load g at q (inl lt) =
          let d = c.rule.draws_once.each n (subst (λ k. n < k) (sym (last_clock lists plan last c)) lt) in
          ap word_of (c.rule.loads_agree.drawn m i d.0 d.1 d.2 g d.3 at d.4 (q ∙ sym d.5))
          ∙ draws_sum n are d.0 d.1 d.2 d.3 d.4 d.5
      load g at q (inr ge) =
          let same : last.clock ≡ n = omega arith in
          c.rule.loads_agree.standing m i g at (q ∙ (sym same ∙ sym (last_clock lists plan last c)))
          ∙ (c.word ∙ end_sum n are same)

      go : (st : ClockStep) → get_elem? (lists m) i ≡ some st → (g : Found) → IsFinding st g → g.clock ≡ n →
          word_of g ≡ whole n
      go _ at _ (by_draw shown d g) q = draws_sum n are m i d g (shown, at) q
      go _ at _ (by_load g) q = load g at q (cases_lt n last.clock)

  adds_up : (n : ℕ) (f : Found) → IsParted f → f.clock ≡ n → ChangesFit plan.guards changes n → word_of f ≡ whole n →
      AddsUp plan.guards changes n f
  adds_up n f parts e room is =
      let s : amounts changes n + 2 ^ 32 * downs_below changes n
      ≡ n + 2 ^ 32 * ups_below changes n + 2 ^ 48 * stops_below changes n
      + 2 ^ 64 * sum_below (λ k. borrow_of (changes k)) n =
      sums changes n in
      let p =
      parted f.clock f.work f.stops n plan.guards (amounts changes n) (ups_below changes n) (downs_below changes n)
      (stops_below changes n) (sum_below (λ k. borrow_of (changes k)) n) is s e parts.0 parts.1 parts.2 room.down
      room.work room.stops in
      record { clock = e; work = p.0; stops = p.1 }

pub work_adds_up : WorkAddsUp
work_adds_up lists plan last c changes n are le room = record {
  found = λ m i f h e.
      adds_up lists plan last c changes n f (c.rule.changes_add_up.parted m i f h) e room
      (finds_sum lists plan last c changes n are le m i f h e);
  end = λ e. adds_up lists plan last c changes n last c.parts e room (end_sum lists plan last c changes n are e);
}

pub notes_are_older : NotesAreOlder
notes_are_older lists plan last c n j lane place note h =
    let put = c.rule.cells_once.seen n j lane place note h in
    let drew = c.rule.cells_once.placed put.0 put.1 lane place note put.2 in
    record { by = put.0; drawn = drew.0; put = put.1; order = drew.1; draws = drew.2; puts = put.2; before = put.3 }
