-- The table begins with one view, which gives each number away once; copies and joins keep the history.
use Rattle.std.proofs.Common.{◌≡◌, ◌≢◌, ◌⊎◌, inl, inr, ℕ, zero, suc, ◌-◌, ◌<◌, ◌≤◌, true, false, List, [], ◌∷◌, ◌++◌, length, set, replicate, sym, refl, ap, ◌∙◌, subst, ⊎_elim}
use Rattle.std.proofs.lemmas.List.{length-set, get_or-set_same, get_or-set_other, length-replicate}
use Rattle.std.proofs.Math.ListN.{get_or-map}
use Rattle.std.proofs.lemmas.Bool.{false≢true}
use mathlib.Core.Option.{some}
use mathlib.Core.Logic.{dite}
use native.Mathlib.Decide.{ℕ_discrete}
use lib.ListN.{get_elem?}
use Rattle.atomic_table.specs.Table.{State, Splits}
use Rattle.atomic_table.proofs.Lists.{at_set, at_snoc, set_again}
use Rattle.lane_clock.specs.declared.step.ClockStep.{ClockStep}
use Rattle.lane_clock.specs.declared.step.Known.{Known}
use Rattle.lane_clock.specs.declared.step.View.{View}
use Rattle.lane_clock.specs.Layout.{Layout}
use Rattle.lane_clock.specs.Knowledge.{unknown, known_at, steps_at, StartOf, AreTogether, copied, copy_of}
use Rattle.lane_clock.specs.Chronicle.{KnowsHistory, HasOneHistory, view_of}
use Rattle.lane_clock.specs.History.{ClockEvent, steps_under}
use Rattle.lane_clock.specs.Plays.{copy_view, giver_after, given}
use Rattle.lane_clock.proofs.KnownLemmas.{mine_within, at_push}

-- who took nothing in
pub none_heard : AreTogether [] []
none_heard = record {
  agree = λ n. inl ([], refl);
  first = λ n m. ([], refl);
  second = λ n m. ([], refl);
}

nothing_first : (xs : List ClockStep) → StartOf [] xs
nothing_first xs = (xs, refl)

not_mine : false ≡ true → ⊥
not_mine e = false≢true e

pub copied_at : (ks : List Known) (n : ℕ) → known_at (copy_of ks) n ≡ copied (known_at ks n)
copied_at ks n = get_or-map copied ks n unknown

copy_knows : (plan : Layout) (es : List ClockEvent) (v : View) → KnowsHistory plan es v →
    KnowsHistory plan es (copy_view v)
copy_knows plan es v k =
    let no : (n : ℕ) → (known_at (copy_of v.known) n).mine ≡ true → ⊥ = λ n h.
    not_mine (sym (ap (λ (x : Known). x.mine) (copied_at v.known n)) ∙ h) in
    record {
      short = subst (λ n. n ≤ plan.seats) (sym (Rattle.std.proofs.lemmas.List.length-map v.known copied)) k.short;
      told = λ n. subst (λ (x : Known). StartOf x.steps (steps_under n es)) (sym (copied_at v.known n)) (k.told n);
      whole = λ n h. absurd (no n h);
      width = λ n h. absurd (no n h);
      heard = k.heard;
    }

module _ (plan : Layout) {S : Type 0} (id : ℕ) (v : View) where
  pub may_copy : Splits (λ s. HasOneHistory plan {S = S} s) id v v (copy_view v)
  may_copy s kept at =
      let same : set s.views id v ≡ s.views = set_again s.views id v at in
      let old : (j : ℕ) (u : View) → get_elem? (set s.views id v ++ copy_view v ∷ []) j ≡ some u →
      (get_elem? s.views j ≡ some u) ⊎ (copy_view v ≡ u)
      = λ j u e. at_snoc s.views (copy_view v) u j (subst (λ l. get_elem? (l ++ copy_view v ∷ []) j ≡ some u) same e) in
      let there : (j n : ℕ) (u : View) → get_elem? (set s.views id v ++ copy_view v ∷ []) j ≡ some u →
      (known_at u.known n).mine ≡ true → get_elem? s.views j ≡ some u
      = λ j n u e m.
      ⊎_elim (λ h. h)
      (λ (h : copy_view v ≡ u).
      absurd (not_mine (sym (ap (λ (x : Known). x.mine) (copied_at v.known n))
      ∙ (ap (λ (x : View). (known_at x.known n).mine) h ∙ m)))) (old j u e) in
      record {
        history = kept.history;
        few = kept.few;
        sound = kept.sound;
        words = kept.words;
        each = λ j u e.
            ⊎_elim (λ h. kept.each j u h)
            (λ (h : copy_view v ≡ u).
            subst (KnowsHistory plan kept.history) h (copy_knows plan kept.history v (kept.each id v at)))
            (old j u e);
        apart = λ i j n x y ei ej mi mj. kept.apart i j n x y (there i n x ei mi) (there j n y ej mj) mi mj;
      }

-- what stays and what goes when one number is given away
left_other : (ks : List Known) (k n : ℕ) → n ≢ k → known_at (set ks k unknown) n ≡ known_at ks n
left_other ks k n ne = get_or-set_other ks k n unknown unknown ne

blank_at : (m n : ℕ) → known_at (replicate m unknown) n ≡ unknown
blank_at zero n = refl
blank_at (suc m) zero = refl
blank_at (suc m) (suc n) = blank_at m n

module _ (plan : Layout) (v : View) (k : ℕ) (mine : (known_at v.known k).mine ≡ true) where
  abbrev left_known : List Known
  left_known = set v.known k unknown

  abbrev gone_known : List Known
  gone_known = set (replicate (length v.known) unknown) k (known_at v.known k)

  inside : k < length v.known
  inside = mine_within v.known k mine

  left_mine : (n : ℕ) → (known_at left_known n).mine ≡ true → (n ≢ k) × ((known_at v.known n).mine ≡ true)
  left_mine n h =
      let ne : n ≢ k = λ e.
      not_mine
      (sym (ap (λ (x : Known). x.mine) (get_or-set_same v.known k unknown unknown inside))
      ∙ subst (λ m. (known_at left_known m).mine ≡ true) e h) in
      (ne, sym (ap (λ (x : Known). x.mine) (left_other v.known k n ne)) ∙ h)

  gone_here : known_at gone_known k ≡ known_at v.known k
  gone_here =
      get_or-set_same (replicate (length v.known) unknown) k (known_at v.known k) unknown
      (subst (λ n. k < n) (sym (length-replicate (length v.known) unknown)) inside)

  gone_other : (n : ℕ) → n ≢ k → known_at gone_known n ≡ unknown
  gone_other n ne =
      get_or-set_other (replicate (length v.known) unknown) k n (known_at v.known k) unknown ne
      ∙ blank_at (length v.known) n

  gone_mine : (n : ℕ) → (known_at gone_known n).mine ≡ true → n ≡ k
  gone_mine n h =
      dite (ℕ_discrete n k) (λ (e : n ≡ k). e) (λ ne. absurd (not_mine (sym (ap (λ (x : Known). x.mine) (gone_other n ne)) ∙ h)))

  left_knows : (es : List ClockEvent) (number : ℕ) → KnowsHistory plan es v →
      KnowsHistory plan es (view_of v.plan number left_known)
  left_knows es number h = record {
    short = subst (λ n. n ≤ plan.seats) (sym (length-set v.known k unknown)) h.short;
    told = λ n. dite (ℕ_discrete n k)
        (λ (e : n ≡ k).
        subst (λ m. StartOf (steps_at left_known m) (steps_under m es)) (sym e) (subst
        (λ (x : Known). StartOf x.steps (steps_under k es))
        (sym (get_or-set_same v.known k unknown unknown inside)) (nothing_first (steps_under k es))))
        (λ ne. subst (λ (x : Known). StartOf x.steps (steps_under n es)) (sym (left_other v.known k n ne)) (h.told n));
    whole = λ n m. let q = left_mine n m in ap (λ (x : Known). x.steps) (left_other v.known k n q.0) ∙ h.whole n q.1;
    width = λ n m. let w = h.width n (left_mine n m).1 in (w.0, length-set v.known k unknown ∙ w.1, w.2);
    heard = none_heard;
  }

  gone_knows : (es : List ClockEvent) (number : ℕ) → KnowsHistory plan es v →
      KnowsHistory plan es (view_of v.plan number gone_known)
  gone_knows es number h =
      let long : length gone_known ≡ length v.known =
      length-set (replicate (length v.known) unknown) k (known_at v.known k)
      ∙ length-replicate (length v.known) unknown in
      record {
        short = subst (λ n. n ≤ plan.seats) (sym long) h.short;
        told = λ n.
            dite (ℕ_discrete n k)
            (λ (e : n ≡ k).
            subst (λ m. StartOf (steps_at gone_known m) (steps_under m es)) (sym e)
            (subst (λ (x : Known). StartOf x.steps (steps_under k es)) (sym gone_here) (h.told k)))
            (λ ne.
            subst (λ (x : Known). StartOf x.steps (steps_under n es)) (sym (gone_other n ne))
            (nothing_first (steps_under n es)));
        whole = λ n m.
            subst (λ j. steps_at gone_known j ≡ steps_under j es) (sym (gone_mine n m))
            (ap (λ (x : Known). x.steps) gone_here ∙ h.whole k mine);
        width = λ n m.
            let w = h.width k mine in (subst (λ j. j < plan.seats) (sym (gone_mine n m)) w.0, long ∙ w.1, w.2);
        heard = none_heard;
      }

  -- the giver keeps its other numbers, and the new seat has this one
  module _ {S : Type 0} (id number : ℕ) (s : State S View) (kept : HasOneHistory plan {S = S} s)
      (at : get_elem? s.views id ≡ some v) where
    abbrev left : View
    left = view_of v.plan number left_known

    abbrev gone : View
    gone = view_of v.plan k gone_known

    abbrev views : List View
    views = set s.views id left ++ gone ∷ []

    cases : (j : ℕ) (u : View) → get_elem? views j ≡ some u →
        ((j ≡ id) × (left ≡ u)) ⊎ (((j ≢ id) × (get_elem? s.views j ≡ some u)) ⊎ ((j ≡ length s.views) × (gone ≡ u)))
    cases j u e = ⊎_elim
        (λ h. ⊎_elim (λ x. inl x) (λ x. inr (inl x)) (at_set s.views id j left u h))
        (λ h. inr (inr (h.0 ∙ length-set s.views id left, h.1)))
        (at_push (set s.views id left) gone u j e)

    -- the number given away is the new seat's
    at_k : (j : ℕ) (u : View) → get_elem? views j ≡ some u → (known_at u.known k).mine ≡ true → j ≡ length s.views
    at_k j u e m = ⊎_elim
        (λ (h : (j ≡ id) × (left ≡ u)). absurd ((left_mine k (ap (λ (x : View). (known_at x.known k).mine) h.1 ∙ m)).0 refl))
        (λ more. ⊎_elim
        (λ (h : (j ≢ id) × (get_elem? s.views j ≡ some u)). absurd (h.0 (kept.apart j id k u v h.1 at m mine)))
        (λ (h : (j ≡ length s.views) × (gone ≡ u)). h.0)
        more)
        (cases j u e)

    -- every other number is whose it was
    off_k : (j n : ℕ) (u : View) → n ≢ k → get_elem? views j ≡ some u → (known_at u.known n).mine ≡ true →
        (o : View) × (get_elem? s.views j ≡ some o) × ((known_at o.known n).mine ≡ true)
    off_k j n u ne e m = ⊎_elim
        (λ (h : (j ≡ id) × (left ≡ u)). (
          v,
          subst (λ i. get_elem? s.views i ≡ some v) (sym h.0) at,
          (left_mine n (ap (λ (x : View). (known_at x.known n).mine) h.1 ∙ m)).1,
        ))
        (λ more. ⊎_elim
        (λ (h : (j ≢ id) × (get_elem? s.views j ≡ some u)). (u, h.1, m))
        (λ (h : (j ≡ length s.views) × (gone ≡ u)).
        absurd (ne (gone_mine n (ap (λ (x : View). (known_at x.known n).mine) h.1 ∙ m))))
        more)
        (cases j u e)

    given_keeps : HasOneHistory plan {S = S} record { words = s.words; homes = s.homes; views = views }
    given_keeps =
        let knows = kept.each id v at in record {
          history = kept.history;
          few = kept.few;
          sound = kept.sound;
          words = kept.words;
          each = λ j u e. ⊎_elim
              (λ (h : (j ≡ id) × (left ≡ u)). subst (KnowsHistory plan kept.history) h.1 (left_knows kept.history number knows))
              (λ more. ⊎_elim
              (λ (h : (j ≢ id) × (get_elem? s.views j ≡ some u)). kept.each j u h.1)
              (λ (h : (j ≡ length s.views) × (gone ≡ u)).
              subst (KnowsHistory plan kept.history) h.1 (gone_knows kept.history k knows))
              more)
              (cases j u e);
          apart = λ i j n x y ei ej mi mj. dite (ℕ_discrete n k)
              (λ (e : n ≡ k).
              at_k i x ei (subst (λ m. (known_at x.known m).mine ≡ true) e mi)
              ∙ sym (at_k j y ej (subst (λ m. (known_at y.known m).mine ≡ true) e mj)))
              (λ ne. let a = off_k i n x ne ei mi in let b = off_k j n y ne ej mj in kept.apart i j n a.0 b.0 a.1 b.1 a.2 b.2);
        }

pub may_give : (plan : Layout) {S : Type 0} (id : ℕ) (v : View) → (known_at v.known (v.number - 1)).mine ≡ true →
    Splits (λ s. HasOneHistory plan {S = S} s) id v (giver_after v) (given v)
may_give plan id v mine s kept at = given_keeps plan v (v.number - 1) mine id (v.number - 1) s kept at
