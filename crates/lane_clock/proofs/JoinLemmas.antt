-- A seat may take in what another knows, and the other then knows nothing.
use Rattle.std.proofs.Common.{◌≡◌, ◌≢◌, ◌⊎◌, inl, inr, ℕ, zero, suc, ◌+◌, ◌≤◌, Bool, true, false, ◌||◌, ltb, lt-ltb, le-ltb, List, [], ◌∷◌, length, set, slice_index, if◌then◌else◌, sym, refl, ap, ◌∙◌, subst, ⊎_elim, arith}
use Rattle.std.proofs.Math.ListN.{get_or-map}
use Rattle.std.proofs.lemmas.List.{set-set, set_comm, length-append}
use Rattle.std.proofs.lemmas.Bool.{false≢true}
use mathlib.Core.Option.{some}
use mathlib.Core.Logic.{dite}
use native.Mathlib.Decide.{ℕ_discrete}
use lib.ListN.{get_elem?}
use Rattle.atomic_table.specs.Table.{State, Joins}
use Rattle.atomic_table.proofs.Lists.{at_set, set_here, set_else}
use Rattle.lane_clock.specs.declared.step.ClockStep.{ClockStep}
use Rattle.lane_clock.specs.declared.step.ClockStep.TheVariants.{Join}
use Rattle.lane_clock.specs.declared.step.Known.{Known}
use Rattle.lane_clock.specs.declared.step.View.{View}
use Rattle.lane_clock.specs.Layout.{Layout}
use Rattle.lane_clock.specs.Knowledge.{known, unknown, known_at, steps_at, StartOf, Agree, AreTogether, more_of, joined, counts}
use Rattle.lane_clock.specs.Chronicle.{KnowsHistory, HasOneHistory}
use Rattle.lane_clock.specs.History.{ClockEvent, steps_under}
use Rattle.lane_clock.specs.Plays.{taken_in, join_view, spent_view}
use Rattle.lane_clock.proofs.KnownLemmas.{at_within, mine_within, stepped_mine}
use Rattle.lane_clock.proofs.KeepLemmas.{steps_keep}
use Rattle.lane_clock.proofs.ShareLemmas.{none_heard}
use Rattle.lane_clock.proofs.WordLemmas.{joined_words}

abbrev longer : List ClockStep → List ClockStep → List ClockStep
longer xs ys = if ltb (length xs) (length ys) then ys else xs

abbrev steps_of_more : Bool → Bool → List ClockStep → List ClockStep → List ClockStep
steps_of_more a b xs ys = if a then xs else if b then ys else longer xs ys

nothing_longer : (ys : List ClockStep) → longer [] ys ≡ ys
nothing_longer [] = refl
nothing_longer (y ∷ ys) = rw (lt-ltb 0 (suc (length ys)) (omega arith)) refl

nothing_more : (b : Bool) (ys : List ClockStep) → steps_of_more false b [] ys ≡ ys
nothing_more true ys = refl
nothing_more false ys = nothing_longer ys

kept_steps : (a : Bool) (xs : List ClockStep) → steps_of_more a false xs [] ≡ xs
kept_steps true xs = refl
kept_steps false xs = rw (le-ltb (length xs) 0 (omega arith)) refl

or_false : (b : Bool) → (b || false) ≡ b
or_false true = refl
or_false false = refl

pub joined_at : (as_ bs : List Known) (n : ℕ) → known_at (joined as_ bs) n ≡ more_of (known_at as_ n) (known_at bs n)
joined_at [] bs n = λ i. known (known_at bs n).mine (sym (nothing_more (known_at bs n).mine (known_at bs n).steps) i)
joined_at (a ∷ as_) [] n = go (known_at (a ∷ as_) n)
  where
    go : (k : Known) → k ≡ more_of k unknown
    go k = λ i. known (sym (or_false k.mine) i) (sym (kept_steps k.mine k.steps) i)
joined_at (a ∷ as_) (b ∷ bs) zero = refl
joined_at (a ∷ as_) (b ∷ bs) (suc n) = joined_at as_ bs n

-- the more of two starts is a start, and all where one of them is
more_told : (a b : Bool) (xs ys all : List ClockStep) → StartOf xs all → StartOf ys all →
    StartOf (steps_of_more a b xs ys) all
more_told true b xs ys all hx hy = hx
more_told false true xs ys all hx hy = hy
more_told false false xs ys all hx hy = go (ltb (length xs) (length ys))
  where
    go : (c : Bool) → StartOf (if c then ys else xs) all
    go true = hy
    go false = hx

start_bound : (xs all : List ClockStep) → StartOf xs all → length xs ≤ length all
start_bound xs all h =
    let e : length all ≡ length xs + length h.0 = ap length h.1 ∙ Rattle.std.proofs.Common.length-append xs h.0 in
    omega arith

more_whole : (a b : Bool) (xs ys all : List ClockStep) → (a || b) ≡ true → (a ≡ true → xs ≡ all) →
    (b ≡ true → ys ≡ all) → steps_of_more a b xs ys ≡ all
more_whole true b xs ys all h hx hy = hx refl
more_whole false true xs ys all h hx hy = hy refl
more_whole false false xs ys all h hx hy = absurd (false≢true h)

-- a number of either is a number of the two together
from_either : (a b : Bool) → (a || b) ≡ true → (a ≡ true) ⊎ (b ≡ true)
from_either true b h = inl refl
from_either false b h = inr h

joined_short : (as_ bs : List Known) (n : ℕ) → length as_ ≤ n → length bs ≤ n → length (joined as_ bs) ≤ n
joined_short [] bs n ha hb = hb
joined_short (a ∷ as_) [] n ha hb = ha
joined_short (a ∷ as_) (b ∷ bs) zero ha hb = absurd (omega arith)
joined_short (a ∷ as_) (b ∷ bs) (suc n) ha hb =
    let h : length (joined as_ bs) ≤ n = joined_short as_ bs n (omega arith) (omega arith) in omega arith

joined_long : (as_ bs : List Known) → length as_ ≤ length (joined as_ bs)
joined_long [] bs = omega arith
joined_long (a ∷ as_) [] = omega arith
joined_long (a ∷ as_) (b ∷ bs) = let h : length as_ ≤ length (joined as_ bs) = joined_long as_ bs in omega arith

abbrev rest_of : List ClockStep → List ClockStep
rest_of [] = []
rest_of (x ∷ xs) = xs

abbrev head_or : ClockStep → List ClockStep → ClockStep
head_or d [] = d
head_or d (x ∷ xs) = x

-- two starts of one list agree
starts_agree : (xs ys all : List ClockStep) → StartOf xs all → StartOf ys all → Agree xs ys
starts_agree [] ys all hx hy = inl (ys, refl)
starts_agree (x ∷ xs) [] all hx hy = inr (x ∷ xs, refl)
starts_agree (x ∷ xs) (y ∷ ys) all hx hy =
    let same : x ≡ y = ap (head_or x) (sym hx.1 ∙ hy.1) in
    ⊎_elim (λ (h : StartOf xs ys). inl (h.0, λ i. sym same i ∷ h.1 i))
    (λ (h : StartOf ys xs). inr (h.0, λ i. same i ∷ h.1 i))
    (starts_agree xs ys (rest_of all) (hx.0, ap rest_of hx.1) (hy.0, ap rest_of hy.1))

-- what two views know of a history agrees
are_together : (plan : Layout) (es : List ClockEvent) (v w : View) → KnowsHistory plan es v → KnowsHistory plan es w →
    AreTogether v.known w.known
are_together plan es v w kv kw = record {
  agree = λ n. starts_agree (steps_at v.known n) (steps_at w.known n) (steps_under n es) (kv.told n) (kw.told n);
  first = λ n m. subst (StartOf (steps_at w.known n)) (sym (kv.whole n m)) (kw.told n);
  second = λ n m. subst (StartOf (steps_at v.known n)) (sym (kw.whole n m)) (kv.told n);
}

module _ (plan : Layout) (es : List ClockEvent) (v w : View) (kv : KnowsHistory plan es v) (kw : KnowsHistory plan es w)
    (own : v.plan ≡ plan) (wide : length v.known ≡ plan.seats) where
  abbrev both : View
  both = taken_in v w.known

  mine_of : (n : ℕ) → (known_at both.known n).mine ≡ true →
      ((known_at v.known n).mine || (known_at w.known n).mine) ≡ true
  mine_of n m = ap (λ (x : Known). x.mine) (sym (joined_at v.known w.known n)) ∙ m

  joined_knows : KnowsHistory plan es both
  joined_knows =
      let long : length (joined v.known w.known) ≡ plan.seats =
      let a = joined_short v.known w.known plan.seats kv.short kw.short in
      let b = joined_long v.known w.known in omega arith in
      record {
        short = joined_short v.known w.known plan.seats kv.short kw.short;
        told = λ n.
            subst (λ (x : Known). StartOf x.steps (steps_under n es)) (sym (joined_at v.known w.known n))
            (more_told (known_at v.known n).mine (known_at w.known n).mine (steps_at v.known n) (steps_at w.known n)
            (steps_under n es) (kv.told n) (kw.told n));
        whole = λ n m.
            ap (λ (x : Known). x.steps) (joined_at v.known w.known n)
            ∙ more_whole (known_at v.known n).mine (known_at w.known n).mine (steps_at v.known n) (steps_at w.known n)
            (steps_under n es) (mine_of n m) (kv.whole n) (kw.whole n);
        width = λ n m.
            (⊎_elim (λ h. (kv.width n h).0) (λ h. (kw.width n h).0) (from_either _ _ (mine_of n m)), long, own);
        heard = are_together plan es v w kv kw;
      }

spent_knows : (plan : Layout) (es : List ClockEvent) → KnowsHistory plan es spent_view
spent_knows plan es = record {
  short = omega arith;
  told = λ n. (steps_under n es, refl);
  whole = λ n m. absurd (false≢true m);
  width = λ n m. absurd (false≢true m);
  heard = none_heard;
}

module _ (plan : Layout) {S : Type 0} (id : ℕ) (v : View) (other : ℕ) (w : View)
    (mine : (known_at v.known v.number).mine ≡ true) (s : State S View) (kept : HasOneHistory plan {S = S} s)
    (at : get_elem? s.views id ≡ some v) (apart : other ≢ id) (there : get_elem? s.views other ≡ some w) where
  abbrev together : View
  together = taken_in v w.known

  abbrev merged : List View
  merged = set (set s.views id together) other spent_view

  -- whose numbers the first takes over
  abbrev heir : ℕ → ℕ
  heir j = dite (ℕ_discrete j other) (λ _. id) (λ _. j)

  heir_other : heir other ≡ id
  heir_other = dite_yes (ℕ_discrete other other)
    where
      dite_yes : (d : Dec (other ≡ other)) → dite d (λ _. id) (λ _. other) ≡ id
      dite_yes (yes p) = refl
      dite_yes (no n) = absurd (n refl)

  heir_self : (j : ℕ) → j ≢ other → heir j ≡ j
  heir_self j ne = dite_no (ℕ_discrete j other)
    where
      dite_no : (d : Dec (j ≡ other)) → dite d (λ _. id) (λ _. j) ≡ j
      dite_no (yes p) = absurd (ne p)
      dite_no (no n) = refl

  cases : (j : ℕ) (u : View) → get_elem? merged j ≡ some u →
      ((j ≡ other) × (spent_view ≡ u))
      ⊎ (((j ≡ id) × (together ≡ u)) ⊎ ((j ≢ other) × (j ≢ id) × (get_elem? s.views j ≡ some u)))
  cases j u e = ⊎_elim (λ h. inl h)
      (λ (h : (j ≢ other) × (get_elem? (set s.views id together) j ≡ some u)).
      ⊎_elim (λ x. inr (inl x)) (λ (x : (j ≢ id) × (get_elem? s.views j ≡ some u)). inr (inr (h.0, x.0, x.1)))
      (at_set s.views id j together u h.1))
      (at_set (set s.views id together) other j spent_view u e)

  was : (j n : ℕ) (u : View) → get_elem? merged j ≡ some u → (known_at u.known n).mine ≡ true
      → (i : ℕ) × (o : View) × (get_elem? s.views i ≡ some o) × ((known_at o.known n).mine ≡ true) × (j ≡ heir i)
  was j n u e m = ⊎_elim
      (λ (h : (j ≡ other) × (spent_view ≡ u)). absurd (false≢true (ap (λ (x : View). (known_at x.known n).mine) h.1 ∙ m)))
      (λ more. ⊎_elim
      (λ (h : (j ≡ id) × (together ≡ u)). ⊎_elim
      (λ a. (id, v, at, a, h.0 ∙ sym (heir_self id (λ q. apart (sym q)))))
      (λ b. (other, w, there, b, h.0 ∙ sym heir_other))
      (from_either (known_at v.known n).mine (known_at w.known n).mine (ap (λ (x : Known). x.mine) (sym (joined_at v.known w.known n)) ∙ (ap (λ (x : View). (known_at x.known n).mine) h.1 ∙ m))))
      (λ (h : (j ≢ other) × (j ≢ id) × (get_elem? s.views j ≡ some u)). (j, u, h.2, m, sym (heir_self j h.0)))
      more)
      (cases j u e)

  abbrev merge_keeps : HasOneHistory plan {S = S} record { words = s.words; homes = s.homes; views = merged }
  merge_keeps =
      let width = (kept.each id v at).width v.number mine in record {
        history = kept.history;
        few = kept.few;
        sound = kept.sound;
        words = kept.words;
        each = λ j u e. ⊎_elim
            (λ (h : (j ≡ other) × (spent_view ≡ u)).
            subst (KnowsHistory plan kept.history) h.1 (spent_knows plan kept.history))
            (λ more. ⊎_elim
            (λ (h : (j ≡ id) × (together ≡ u)).
            subst (KnowsHistory plan kept.history) h.1
            (joined_knows plan kept.history v w (kept.each id v at) (kept.each other w there) width.2 width.1))
            (λ (h : (j ≢ other) × (j ≢ id) × (get_elem? s.views j ≡ some u)). kept.each j u h.2)
            more)
            (cases j u e);
        apart = λ i j n x y ei ej mi mj.
            let a = was i n x ei mi in let b = was j n y ej mj in
            a.4 ∙ (ap heir (kept.apart a.0 b.0 n a.1 b.1 a.2 b.2 a.3 b.3) ∙ sym b.4);
      }

pub may_join : (plan : Layout) {S : Type 0} (id : ℕ) (v : View) (other : ℕ) (w : View) →
    (known_at v.known v.number).mine ≡ true →
    Joins (λ s. HasOneHistory plan {S = S} s) id v other w (join_view v w.known) spent_view
may_join plan {S} id v other w mine s kept at apart later =
    let there : get_elem? s.views other ≡ some w =
    sym (set_else s.views id other (join_view v w.known) apart) ∙ later in
    let v' : View = taken_in v w.known in
    let merged : List View = set (set s.views id v') other spent_view in
    let kept' = merge_keeps plan id v other w mine s kept at apart there in
    let here : get_elem? merged id ≡ some v' =
    set_else (set s.views id v') other id spent_view (λ q. apart (sym q))
    ∙ set_here s.views id v' (at_within s.views id v at) in
    let mine' : (known_at v'.known v'.number).mine ≡ true =
    ap (λ (x : Known). x.mine) (joined_at v.known w.known v.number)
    ∙ ap (λ b. b || (known_at w.known v.number).mine) mine in
    let fits : (m : ℕ) → slice_index (counts w.known) m ≤ length (steps_under m kept.history)
    = λ m.
    subst (λ k. k ≤ length (steps_under m kept.history))
    (sym (get_or-map (λ (k : Known). length k.steps) w.known m Rattle.lane_clock.specs.Knowledge.unknown))
    (start_bound (steps_at w.known m) (steps_under m kept.history) ((kept.each other w there).told m)) in
    let done =
    steps_keep plan record { words = s.words; homes = s.homes; views = merged } kept' id v' here (Join (counts w.known))
    s.words s.homes mine' fits (joined_words plan kept.history s.words kept.words v.number (counts w.known)) in
    let views : set merged id (join_view v w.known) ≡ set (set s.views id (join_view v w.known)) other spent_view
    =
    set_comm (set s.views id v') other id spent_view (join_view v w.known) apart
    ∙ ap (λ vs. set vs other spent_view) (set-set s.views id v' (join_view v w.known)) in
    subst (λ (vs : List View). HasOneHistory plan {S = S} record { words = s.words; homes = s.homes; views = vs }) views done

-- the seat that takes in another keeps its own number
pub join_mine : (v : View) (ks : List Known) → (known_at v.known v.number).mine ≡ true →
    (known_at (join_view v ks).known v.number).mine ≡ true
join_mine v ks mine =
    let both : List Known = joined v.known ks in
    let mine' : (known_at both v.number).mine ≡ true =
    ap (λ (x : Known). x.mine) (joined_at v.known ks v.number) ∙ ap (λ b. b || (known_at ks v.number).mine) mine in
    stepped_mine both v.number v.number (Join (counts ks)) (mine_within both v.number mine') ∙ mine'
