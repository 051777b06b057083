-- A step keeps the history, whatever it is: the seat adds it to its own steps, and all other seats know what they knew.
use Rattle.std.proofs.Common.{◌≡◌, ◌≢◌, ℕ, ◌<◌, ◌≤◌, true, List, [], ◌∷◌, ◌++◌, length, set, sym, ap, ◌∙◌, subst, ⊎_elim}
use Rattle.std.proofs.lemmas.List.{length-set, append-nil, append_assoc}
use mathlib.Core.Option.{Option, some}
use mathlib.Core.Logic.{dite}
use native.Mathlib.Decide.{ℕ_discrete}
use lib.ListN.{get_elem?}
use Rattle.atomic_table.specs.Table.{State}
use Rattle.atomic_table.proofs.Lists.{at_set}
use Rattle.lane_clock.specs.declared.step.ClockStep.{ClockStep}
use Rattle.lane_clock.specs.declared.step.Known.{Known}
use Rattle.lane_clock.specs.declared.step.View.{View}
use Rattle.lane_clock.specs.Layout.{Layout}
use Rattle.lane_clock.specs.Knowledge.{known_at, steps_at, StartOf, stepped_at}
use Rattle.lane_clock.specs.Chronicle.{AreWords, KnowsHistory, HasOneHistory}
use Rattle.lane_clock.specs.History.{ClockEvent, steps_under, Fits}
use Rattle.lane_clock.specs.Plays.{step_view}
use Rattle.lane_clock.proofs.KnownLemmas.{mine_within, stepped_here, stepped_other, stepped_mine, event, under_same, under_other}

-- a start of all is a start of more
pub start_longer : (xs all : List ClockStep) (x : ClockStep) → StartOf xs all → StartOf xs (all ++ x ∷ [])
start_longer xs all x h = (h.0 ++ x ∷ [], ap (λ ys. ys ++ x ∷ []) h.1 ∙ append_assoc xs h.0 (x ∷ []))

pub start_same : (xs all : List ClockStep) → xs ≡ all → StartOf xs all
start_same xs all e = ([], sym e ∙ sym (append-nil xs))

-- a start of a start of all
pub start_trans : (xs ys all : List ClockStep) → StartOf xs ys → StartOf ys all → StartOf xs all
start_trans xs ys all h k = (h.0 ++ k.0, k.1 ∙ (ap (λ zs. zs ++ k.0) h.1 ∙ append_assoc xs h.0 k.0))

pub start_under : (xs : List ClockStep) (es : List ClockEvent) (n m : ℕ) (st : ClockStep) →
    StartOf xs (steps_under n es) → StartOf xs (steps_under n (event m st ∷ es))
start_under xs es n m st h = dite (ℕ_discrete n m)
    (λ (e : n ≡ m).
    subst (λ (k : ℕ). StartOf xs (steps_under n (event k st ∷ es))) e
    (subst (StartOf xs) (sym (under_same es n st)) (start_longer xs (steps_under n es) st h)))
    (λ ne. subst (StartOf xs) (sym (under_other es n m st ne)) h)

module _ (plan : Layout) (es : List ClockEvent) (v : View) (st : ClockStep) (knows : KnowsHistory plan es v) where
  -- who made no step knows what it knew
  pub others_know : (n : ℕ) → ((known_at v.known n).mine ≡ true → ⊥) → KnowsHistory plan (event n st ∷ es) v
  others_know n not_mine = record {
    short = knows.short;
    told = λ m. start_under (steps_at v.known m) es m n st (knows.told m);
    whole = λ m mine.
        knows.whole m mine
        ∙ sym (under_other es m n st (λ e. not_mine (subst (λ k. (known_at v.known k).mine ≡ true) e mine)));
    width = knows.width;
    heard = knows.heard;
  }

  -- who made the step knows it too
  pub own_known : (known_at v.known v.number).mine ≡ true → KnowsHistory plan (event v.number st ∷ es) (step_view v st)
  own_known mine =
      let i : v.number < length v.known = mine_within v.known v.number mine in
      let here : steps_at (stepped_at v.known v.number st) v.number ≡ steps_under v.number (event v.number st ∷ es) =
      ap (λ (k : Known). k.steps) (stepped_here v.known v.number st i)
      ∙ (ap (λ xs. xs ++ st ∷ []) (knows.whole v.number mine) ∙ sym (under_same es v.number st)) in
      let was : (m : ℕ) → (known_at (stepped_at v.known v.number st) m).mine ≡ true → (known_at v.known m).mine ≡ true =
      λ m h. sym (stepped_mine v.known v.number m st i) ∙ h in
      record {
        short = subst (λ k. k ≤ plan.seats) (sym (length-set v.known v.number _)) knows.short;
        told = λ m. dite (ℕ_discrete m v.number)
            (λ (e : m ≡ v.number).
            subst
            (λ k. StartOf (steps_at (stepped_at v.known v.number st) k) (steps_under k (event v.number st ∷ es)))
            (sym e) (start_same _ _ here))
            (λ ne.
            subst (λ (k : Known). StartOf k.steps (steps_under m (event v.number st ∷ es)))
            (sym (stepped_other v.known v.number m st ne))
            (start_under (steps_at v.known m) es m v.number st (knows.told m)));
        whole = λ m h. dite (ℕ_discrete m v.number)
            (λ (e : m ≡ v.number).
            subst (λ k. steps_at (stepped_at v.known v.number st) k ≡ steps_under k (event v.number st ∷ es))
            (sym e) here)
            (λ ne.
            ap (λ (k : Known). k.steps) (stepped_other v.known v.number m st ne)
            ∙ (knows.whole m (was m h) ∙ sym (under_other es m v.number st ne)));
        width = λ m h. let w = knows.width m (was m h) in (w.0, length-set v.known v.number _ ∙ w.1, w.2);
        heard = knows.heard;
      }

module _ (plan : Layout) {S : Type 0} (s : State S View) (kept : HasOneHistory plan s) (id : ℕ) (v : View)
    (at : get_elem? s.views id ≡ some v) where
  -- no other seat has a number of this one
  pub not_theirs : (j n : ℕ) (u : View) → j ≢ id → get_elem? s.views j ≡ some u → (known_at v.known n).mine ≡ true →
      (known_at u.known n).mine ≡ true → ⊥
  not_theirs j n u ne there mine theirs = ne (kept.apart j id n u v there at theirs mine)

  pub steps_keep : (st : ClockStep) (ws : List ℕ) (hs : List (Option S)) → (known_at v.known v.number).mine ≡ true
      → Fits plan.guards kept.history v.number st
      → AreWords plan (event v.number st ∷ kept.history) ws
      → HasOneHistory plan {S = S} record { words = ws; homes = hs; views = set s.views id (step_view v st) }
  steps_keep st ws hs mine fits words =
      let knows = kept.each id v at in
      let i : v.number < length v.known = mine_within v.known v.number mine in
      let was : (j : ℕ) (u : View) → get_elem? (set s.views id (step_view v st)) j ≡ some u →
      (old : View) × (get_elem? s.views j ≡ some old)
      × ((n : ℕ) → (known_at u.known n).mine ≡ true → (known_at old.known n).mine ≡ true)
      = λ j u e. ⊎_elim
      (λ (t : (j ≡ id) × (step_view v st ≡ u)). (
        v,
        subst (λ k. get_elem? s.views k ≡ some v) (sym t.0) at,
        λ n h.
            sym (stepped_mine v.known v.number n st i) ∙ (ap (λ (w : View). (known_at w.known n).mine) t.1 ∙ h),
      ))
      (λ (t : (j ≢ id) × (get_elem? s.views j ≡ some u)). (u, t.1, λ n h. h))
      (at_set s.views id j (step_view v st) u e) in
      record {
        history = event v.number st ∷ kept.history;
        few = kept.few;
        sound = (kept.sound, (knows.width v.number mine).0, fits);
        words = words;
        each = λ j u e. ⊎_elim
            (λ (t : (j ≡ id) × (step_view v st ≡ u)).
            subst (KnowsHistory plan (event v.number st ∷ kept.history)) t.1
            (own_known plan kept.history v st knows mine))
            (λ (t : (j ≢ id) × (get_elem? s.views j ≡ some u)).
            others_know plan kept.history u st (kept.each j u t.1) v.number (not_theirs j v.number u t.0 t.1 mine))
            (at_set s.views id j (step_view v st) u e);
        apart = λ a b n x y ea eb ma mb.
            let p = was a x ea in let q = was b y eb in
            kept.apart a b n p.0 q.0 p.1 q.1 (p.2 n ma) (q.2 n mb);
      }
