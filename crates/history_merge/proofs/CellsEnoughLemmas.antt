-- A lane has a cell for each place that acts may get there: by their calls, or by completions that the reactor tells.
use Rattle.std.proofs.Common.{◌≡◌, ◌≢◌, ℕ, zero, suc, ◌+◌, ◌<◌, ◌≤◌, Bool, true, false, cond, List, [], ◌∷◌, ◌++◌, Option, None, Some, inl, inr, length, refl, sym, ap, subst, ◌∙◌, arith}
use Rattle.std.specs.Prelude.{◌&&◌, ◌||◌, ◌==◌, nat_lt, not, slice_get}
use Rattle.std.proofs.lemmas.Bool.{and_from, and_parts, cases_eq, eq-eqb, eqb-true, lt-ltb, ltb-true, ne_eqb, not-true}
use Rattle.session_script.specs.Lanes.{caller_lane, is_inline, is_inside, lanes_of}
use Rattle.asio_types.specs.declared.number.Lane.{Lane}
use Rattle.session_script.specs.Script.{Entry, ScriptModel, is_op, is_operation, is_stop, stops}
use Rattle.session_script.specs.WellFormed.{IsWellFormed}
use Rattle.session_script.specs.declared.act.Act.{Act}
use Rattle.session_script.specs.declared.act.Act.TheVariants as act
use Rattle.history_rules.specs.Kinds.{is_posting}
use Rattle.reactor_turns.specs.Standing.{is_awaited}
use Rattle.reactor_turns.proofs.SummingLemmas.{one_if, summed, summed-both, summed-less}
use Rattle.execution_laws.proofs.CountingLemmas.{counted, counted-either, counted-range}
use Rattle.lane_clock.specs.History.{ClockEvent}
use Rattle.lane_map.specs.LaneNumbers.{act_passes, asked_lane, asks_its_lane, asks_reactor, cells_on, has_cell, has_cell_on, home_lane, passing_before, reactor_lane}
use Rattle.lane_map.proofs.RankLemmas.{op_within}
use Rattle.lane_logs.specs.Labels.{Labelled, allots, shows, silent}
use Rattle.history_merge.proofs.AlikeLemmas.{is_not, never}
use Rattle.history_merge.proofs.AskedLemmas.{allots_on}
use Rattle.history_merge.proofs.BackLemmas.{allots_for}
use Rattle.history_merge.proofs.CellLemmas.{allots_of, asks_place, one_among, summed_counted}
use Rattle.history_merge.proofs.HistoryLemmas.{AreLabelled, label_of}
use Rattle.history_merge.proofs.LaneOfLemmas.{home_before}
use Rattle.history_merge.proofs.PartLemmas.{Every}
use Rattle.history_merge.proofs.PlacedLemmas.{total}
use Rattle.history_merge.proofs.ReactorPlaceLemmas.{IsTold, awaits}
use Rattle.history_merge.proofs.SoFarLemmas.{made_here, made_other, made_so_far}
use Rattle.history_merge.proofs.TimesLemmas.{times, times-append}

-- a count is no more than that of a weaker test
counted_less : (one two : ℕ → Bool) (n : ℕ) → ((m : ℕ) → m < n → one m ≡ true → two m ≡ true) → counted one n ≤ counted two n
counted_less one two zero so = omega arith
counted_less one two (suc n) so =
    let rest = counted_less one two n (λ m less. so m (omega (arith, less))) in
    let here = by_test (one n) (two n) (so n (omega arith)) in
    omega (arith, rest, here)
  where
    by_test : (a b : Bool) → (a ≡ true → b ≡ true) → cond a 1 0 ≤ cond b 1 0
    by_test true b so = let is = ap (λ (b : Bool). one_if b) (so refl) in omega (arith, is)
    by_test false true so = omega arith
    by_test false false so = omega arith

-- two counts of which no number is in both are no more than that of a test that both imply
counted_both : (one two all : ℕ → Bool) (n : ℕ) → ((m : ℕ) → one m ≡ true → two m ≡ true → ⊥) →
    ((m : ℕ) → m < n → one m ≡ true → all m ≡ true) → ((m : ℕ) → m < n → two m ≡ true → all m ≡ true) →
    counted one n + counted two n ≤ counted all n
counted_both one two all n apart first second =
    let either = counted-either one two n apart in
    let less =
    counted_less (λ m. one m || two m) all n
    (λ m within is. by_test (one m) (two m) (all m) (first m within) (second m within) is) in
    omega (arith, either, less)
  where
    by_test : (a b c : Bool) → (a ≡ true → c ≡ true) → (b ≡ true → c ≡ true) → (a || b) ≡ true → c ≡ true
    by_test true b c so also is = so refl
    by_test false b c so also is = also is

-- what executes inside its call is posted
inside_posts : (caller : Option Lane) (it : Act) → is_inside caller it ≡ true → is_posting it ≡ true
inside_posts None it is = absurd (cc)
inside_posts (Some caller) (act.Dispatch strand) is = refl
inside_posts (Some caller) it is = absurd (cc)

lane_posts : (it : Act) → asks_its_lane it ≡ true → is_posting it ≡ true
lane_posts (act.Post strand) is = refl
lane_posts (act.Defer strand) is = refl
lane_posts (act.Dispatch strand) is = refl
lane_posts it is = absurd (cc)

posts_operate : (it : Act) → is_posting it ≡ true → is_operation it ≡ true
posts_operate (act.Post strand) is = refl
posts_operate (act.Defer strand) is = refl
posts_operate (act.Dispatch strand) is = refl
posts_operate it is = absurd (cc)

-- What is known of an act by its entry
record IsEntryOf (script : ScriptModel) (n : ℕ) (e : Entry) : Type 0 where
  op : is_op script n ≡ is_operation e.act
  awaited : awaits script n ≡ is_awaited e.act
  halts : stops script n ≡ is_stop e.act
  asks : act_passes asks_reactor script n ≡ asks_reactor e.act
  asked : asked_lane script n ≡ cond (asks_its_lane e.act) (home_lane script n) (reactor_lane script)
  inline : is_inline script n ≡ true → is_posting e.act ≡ true

entry_is : (script : ScriptModel) (n : ℕ) (e : Entry) → slice_get script.acts n ≡ Some e → IsEntryOf script n e
entry_is script n e stands = record {
  op = rw stands refl;
  awaited = rw stands refl;
  halts = rw stands refl;
  asks = rw stands refl;
  asked = rw stands refl;
  inline = λ inside.
      let opened : is_inline script n ≡ is_inside (caller_lane (lanes_of script) e.parent) e.act = rw (stands, stands) refl in
      inside_posts (caller_lane (lanes_of script) e.parent) e.act (sym opened ∙ inside);
}

entry_there : (script : ScriptModel) (n : ℕ) → n < length script.acts → (e : Entry) × (slice_get script.acts n ≡ Some e)
entry_there script n within = there script.acts n within
  where
    there : {A : Type 0} → (xs : List A) (i : ℕ) → i < length xs → (x : A) × (slice_get xs i ≡ Some x)
    there [] i below = absurd (omega (arith, below))
    there (x ∷ xs) zero below = (x, refl)
    there (x ∷ xs) (suc i) below = there xs i (omega (arith, below))

pub awaited_op : (script : ScriptModel) (n : ℕ) → awaits script n ≡ true → is_op script n ≡ true
awaited_op script n is = by_entry (slice_get script.acts n) refl
  where
    by_entry : (found : Option Entry) → slice_get script.acts n ≡ found → is_op script n ≡ true
    by_entry None stands =
        absurd (let none : awaits script n ≡ false = rw stands refl in never (awaits script n) none is)
    by_entry (Some e) stands =
        let entry = entry_is script n e stands in
        entry.op ∙ (and_parts (is_operation e.act) (not (is_posting e.act)) (sym entry.awaited ∙ is)).0

module _ (script : ScriptModel) (well : IsWellFormed script) (lane : ℕ) where
  -- the reactor may complete the operation on this lane
  abbrev pub tells_on : ℕ → Bool
  tells_on op = awaits script op && (home_lane script op == lane)

  abbrev acts : ℕ
  acts = length script.acts

  -- a posting of the lane
  pub record IsPostedOn (n : ℕ) : Type 0 where
    pub op : is_op script n ≡ true
    pub outside : is_inline script n ≡ false
    pub home : home_lane script n ≡ lane
    pub unawaited : awaits script n ≡ false

  pub posted_on : (n : ℕ) → n < acts → lane ≢ reactor_lane script → asks_place script lane n ≡ true → IsPostedOn n
  posted_on n within away is =
      let found = entry_there script n within in
      let entry = entry_is script n found.0 found.1 in
      let first = and_parts (not (stops script n)) (not (is_inline script n) && (lane == asked_lane script n)) is in
      let second = and_parts (not (is_inline script n)) (lane == asked_lane script n) first.1 in
      let asked : lane ≡ asked_lane script n = eqb-true lane (asked_lane script n) second.1 in
      by_kind found.0 entry (asks_its_lane found.0.act) refl (asked ∙ entry.asked)
      (not-true (is_inline script n) second.0)
    where
      by_kind : (e : Entry) → IsEntryOf script n e → (b : Bool) → asks_its_lane e.act ≡ b →
          lane ≡ cond (asks_its_lane e.act) (home_lane script n) (reactor_lane script) → is_inline script n ≡ false →
          IsPostedOn n
      by_kind e entry true kind asked outside =
          let posts = lane_posts e.act kind in
          record {
            op = entry.op ∙ posts_operate e.act posts;
            outside = outside;
            home = sym (asked ∙ ap (λ b. cond b (home_lane script n) (reactor_lane script)) kind);
            unawaited =
                entry.awaited
                ∙ (ap (λ b. is_operation e.act && not b) posts ∙ and_none (is_operation e.act));
          }
        where
          and_none : (b : Bool) → (b && false) ≡ false
          and_none true = refl
          and_none false = refl
      by_kind e entry false kind asked outside =
          absurd (away (asked ∙ ap (λ b. cond b (home_lane script n) (reactor_lane script)) kind))

  pub posted_cell : (n : ℕ) → IsPostedOn n → has_cell_on script lane n ≡ true
  posted_cell n posted =
      and_from (has_cell script n) (home_lane script n == lane)
      (and_from (is_op script n) (not (is_inline script n)) posted.op (ap not posted.outside))
      (eq-eqb (home_lane script n) lane posted.home)

  pub told_cell : (n : ℕ) → n < acts → tells_on n ≡ true → has_cell_on script lane n ≡ true
  told_cell n within is =
      let found = entry_there script n within in
      let entry = entry_is script n found.0 found.1 in
      let parts = and_parts (awaits script n) (home_lane script n == lane) is in
      let kinds = and_parts (is_operation found.0.act) (not (is_posting found.0.act)) (sym entry.awaited ∙ parts.0) in
      let outside : is_inline script n ≡ false =
      is_not (is_inline script n) (λ inside.
      never (is_posting found.0.act) (not-true (is_posting found.0.act) kinds.1) (entry.inline inside)) in
      and_from (has_cell script n) (home_lane script n == lane)
      (and_from (is_op script n) (not (is_inline script n)) (entry.op ∙ kinds.0) (ap not outside)) parts.1

  -- what asks the reactor
  pub asked_cell : (n : ℕ) → n < acts → lane ≡ reactor_lane script → asks_place script lane n ≡ true →
      act_passes asks_reactor script n ≡ true
  asked_cell n within here is =
      let found = entry_there script n within in
      let entry = entry_is script n found.0 found.1 in
      let first = and_parts (not (stops script n)) (not (is_inline script n) && (lane == asked_lane script n)) is in
      let second = and_parts (not (is_inline script n)) (lane == asked_lane script n) first.1 in
      let asked : lane ≡ asked_lane script n = eqb-true lane (asked_lane script n) second.1 in
      let isnt : asks_its_lane found.0.act ≡ false =
      is_not (asks_its_lane found.0.act) (λ kind.
      let op : is_op script n ≡ true = entry.op ∙ posts_operate found.0.act (lane_posts found.0.act kind) in
      let less = home_before script well n op in
      let home : lane ≡ home_lane script n =
      asked ∙ (entry.asked ∙ ap (λ b. cond b (home_lane script n) (reactor_lane script)) kind) in
      omega (arith, less, home, here)) in
      let going : not (is_stop found.0.act) ≡ true = ap not (sym entry.halts) ∙ first.0 in
      entry.asks
      ∙ and_from (not (asks_its_lane found.0.act)) (not (is_stop found.0.act)) (ap not isnt) going

  pub none_told : (n : ℕ) → lane ≡ reactor_lane script → tells_on n ≡ true → ⊥
  none_told n here is =
      let parts = and_parts (awaits script n) (home_lane script n == lane) is in
      let less = home_before script well n (awaited_op script n parts.0) in
      let home = eqb-true (home_lane script n) lane parts.1 in
      omega (arith, less, home, here)

  -- a lane has a cell for each
  pub cells_enough : counted (asks_place script lane) acts + counted tells_on acts ≤ cells_on script lane
  cells_enough = elim (cases_eq lane (reactor_lane script)) [
    | inl here ↦
        let both =
        counted_both (asks_place script lane) tells_on (act_passes asks_reactor script) acts
        (λ n one two. none_told n here two) (λ n within is. asked_cell n within here is)
        (λ n within is. absurd (none_told n here is)) in
        let cells : cells_on script lane ≡ counted (act_passes asks_reactor script) acts =
        ap (λ b. cond b (passing_before (act_passes asks_reactor script) acts) (passing_before (has_cell_on script lane) acts))
        (eq-eqb lane (reactor_lane script) here)
        ∙ counted-range (act_passes asks_reactor script) acts in
        omega (arith, both, cells)
    | inr away ↦
        let both =
        counted_both (λ n. asks_place script lane n && nat_lt n acts) tells_on (has_cell_on script lane) acts
        (λ n one two.
        let parts = and_parts (asks_place script lane n) (nat_lt n acts) one in
        let posted = posted_on n (ltb-true n acts parts.1) away parts.0 in
        never (awaits script n) posted.unawaited (and_parts (awaits script n) (home_lane script n == lane) two).0)
        (λ n within is.
        posted_cell n (posted_on n within away (and_parts (asks_place script lane n) (nat_lt n acts) is).0))
        (λ n within is. told_cell n within is) in
        let same =
        counted_less (asks_place script lane) (λ n. asks_place script lane n && nat_lt n acts) acts
        (λ n within is. and_from (asks_place script lane n) (nat_lt n acts) is (lt-ltb n acts within)) in
        let cells : cells_on script lane ≡ counted (has_cell_on script lane) acts =
        ap (λ b. cond b (passing_before (act_passes asks_reactor script) acts) (passing_before (has_cell_on script lane) acts))
        (ne_eqb lane (reactor_lane script) away)
        ∙ counted-range (has_cell_on script lane) acts in
        omega (arith, both, same, cells)
  ]

  -- the reactor's places of the lane, by the operations that get them
  told_sum : (xs : List Labelled) → Every (IsTold script) xs →
      times (allots_on lane) xs ≡ summed (λ op. times (allots_of lane op) xs) acts
  told_sum [] all = sym (zeros acts)
    where
      zeros : (n : ℕ) → summed (λ op. 0) n ≡ 0
      zeros zero = refl
      zeros (suc n) = let rest = zeros n in omega (arith, rest)
  told_sum (x ∷ xs) all =
      let rest = told_sum xs all.1 in
      let one = by_label x all.0 in
      let both = summed-both (λ op. one_if (allots_of lane op x)) (λ op. times (allots_of lane op) xs) acts in
      omega (arith, rest, one, both)
    where
      zeros : (n : ℕ) → summed (λ op. 0) n ≡ 0
      zeros zero = refl
      zeros (suc n) = let rest = zeros n in omega (arith, rest)

      by_label : (x : Labelled) → IsTold script x → one_if (allots_on lane x) ≡ summed (λ op. one_if (allots_of lane op x)) acts
      by_label (silent step) told = sym (zeros acts)
      by_label (shows shown changes found) told = sym (zeros acts)
      by_label (allots op at place) told =
          one_among op acts true (lane == at) (λ _. op_within script op (awaited_op script op told.1))

  told_fewer : (op : ℕ) (xs : List Labelled) → times (allots_of lane op) xs ≤ times (allots_for op) xs
  told_fewer op [] = omega arith
  told_fewer op (x ∷ xs) = let rest = told_fewer op xs in let one = by_label x in omega (arith, rest, one)
    where
      by_test : (a b : Bool) → one_if (a && b) ≤ one_if a
      by_test true true = omega arith
      by_test true false = omega arith
      by_test false b = omega arith

      by_label : (x : Labelled) → one_if (allots_of lane op x) ≤ one_if (allots_for op x)
      by_label (silent step) = omega arith
      by_label (shows shown changes found) = omega arith
      by_label (allots other at place) = by_test (other == op) (lane == at)

  told_elsewhere : (op : ℕ) → home_lane script op ≢ lane → (xs : List Labelled) → Every (IsTold script) xs →
      times (allots_of lane op) xs ≡ 0
  told_elsewhere op away [] all = refl
  told_elsewhere op away (x ∷ xs) all =
      let rest = told_elsewhere op away xs all.1 in
      let none = ap one_if (by_label x all.0) in
      omega (arith, rest, none)
    where
      by_label : (x : Labelled) → IsTold script x → allots_of lane op x ≡ false
      by_label (silent step) told = refl
      by_label (shows shown changes found) told = refl
      by_label (allots other at place) told =
          is_not ((other == op) && (lane == at)) (λ both.
          let parts = and_parts (other == op) (lane == at) both in
          away (ap (home_lane script) (sym (eqb-true other op parts.0)) ∙ (sym told.0 ∙ sym (eqb-true lane at parts.1))))

  module _ (xs : List Labelled) (all : Every (IsTold script) xs)
      (once : (op : ℕ) → times (allots_for op) xs ≤ one_if (awaits script op)) where
    by_home : (op : ℕ) (b : Bool) → (home_lane script op == lane) ≡ b →
        times (allots_of lane op) xs ≤ one_if (tells_on op)
    by_home op true here =
        let fewer = told_fewer op xs in
        let most = once op in
        let same : one_if (tells_on op) ≡ one_if (awaits script op) =
        ap (λ b. one_if (awaits script op && b)) here ∙ and_all (awaits script op) in
        omega (arith, fewer, most, same)
      where
        and_all : (a : Bool) → one_if (a && true) ≡ one_if a
        and_all true = refl
        and_all false = refl
    by_home op false away =
        let none =
        told_elsewhere op (λ same. never (home_lane script op == lane) away (eq-eqb (home_lane script op) lane same)) xs all in
        omega (arith, none)

    -- so an operation allots_for one there at most, if the reactor may complete it there
    pub told_one : (op : ℕ) → times (allots_of lane op) xs ≤ one_if (tells_on op)
    told_one op = by_home op (home_lane script op == lane) refl

    -- and they are no more than these operations
    pub told_most : times (allots_on lane) xs ≤ counted tells_on acts
    told_most =
        let sum = told_sum xs all in
        let less = summed-less (λ op. times (allots_of lane op) xs) (λ op. one_if (tells_on op)) acts told_one in
        let count = summed_counted tells_on acts in
        omega (arith, sum, less, count)

-- what of a test the reactor draws
module _ (labels : ℕ → List Labelled) (r : ℕ) (test : Labelled → Bool) where
  abbrev pub reacts : ℕ → Labelled → Bool
  reacts n label = (n == r) && test label

  pub reacts_total : (es : List ClockEvent) → AreLabelled labels es →
      total labels reacts es ≡ times test (made_so_far labels es r)
  reacts_total [] all = refl
  reacts_total (e ∷ es) all =
      let rest = reacts_total es all.0 in
      elim (cases_eq e.by r) [
        | inl same ↦
            let made : made_so_far labels (e ∷ es) r ≡ made_so_far labels es r ++ label_of labels es e ∷ [] =
            subst (λ n. made_so_far labels (e ∷ es) n ≡ made_so_far labels es n ++ label_of labels es e ∷ []) same
            (made_here labels e es all.1) in
            let now = ap (times test) made in
            let both = times-append test (made_so_far labels es r) (label_of labels es e ∷ []) in
            let one : one_if (reacts e.by (label_of labels es e)) ≡ one_if (test (label_of labels es e)) =
            ap (λ b. one_if (b && test (label_of labels es e))) (eq-eqb e.by r same) in
            omega (arith, rest, now, both, one)
        | inr other ↦
            let made = ap (times test) (made_other labels e es r (λ is. other (sym is))) in
            let none : one_if (reacts e.by (label_of labels es e)) ≡ 0 =
            ap (λ b. one_if (b && test (label_of labels es e))) (ne_eqb e.by r other) in
            omega (arith, rest, made, none)
      ]

  pub split_total : (es : List ClockEvent) →
      total labels (λ n label. test label) es
      ≡ total labels (λ n label. not (n == r) && test label) es + total labels reacts es
  split_total [] = refl
  split_total (e ∷ es) =
      let rest = split_total es in
      let one = by_test (e.by == r) (test (label_of labels es e)) in
      omega (arith, rest, one)
    where
      by_test : (a b : Bool) → one_if b ≡ one_if (not a && b) + one_if (a && b)
      by_test true b = omega arith
      by_test false b = omega arith
