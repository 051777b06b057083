-- Each step keeps the rule.
use Rattle.std.proofs.Common.{◌≡◌, ◌≢◌, ◌⊎◌, ℕ, zero, suc, List, [], ◌∷◌, ◌++◌, length, set, Option, Some, None, true, false, refl, sym, ap, ◌∙◌, subst, ⊎_elim, inl, inr, append-nil}
use Rattle.std.proofs.lemmas.Bool.{true≢false}
use mathlib.Core.Option.{some, some-ne-none, some-injective}
use lib.ListN.{get_elem?}
use Rattle.atomic_table.proofs.Lists.{at_set, set_again}
use Rattle.io_rules.specs.declared.event.Event.{Event}
use Rattle.io_rules.specs.declared.event.Event.TheVariants as event
use Rattle.io_rules.specs.declared.limits.Limits.{Limits}
use Rattle.io_rules.specs.Legal.{IsLegal, MayHappen, after, state_of}
use Rattle.io_rules.specs.Ops.{is_at, is_ready}
use Rattle.io_rules.specs.State.{ContextState}
use Rattle.io_history.specs.declared.view.Held.{Held}
use Rattle.io_history.specs.declared.view.View.{View}
use Rattle.io_history.specs.Rule.{Apart, AreKept, EndsWith, Executes, Fits, IsHeld, KeptViews, first_keeper}
use Rattle.io_history.specs.Steps.{IsFree, actor, claim_of, first_held, held_op, joined, nobody, noted, witness_of, without_claim}
use Rattle.io_history.proofs.HeldLemmas.{after_held, begun_in, legal_rests, whence}
use Rattle.io_history.proofs.StayLemmas.{Rests, ready_other, stays}

none_some : {X : Type 0} (x : X) → None ≡ Some x → ⊥
none_some x e = absurd (cc)

no_keeper : {X : Type 0} → false ≡ true → X
no_keeper e = absurd (true≢false (sym e))

ends_cons : (e : Event) (events told : List Event) → EndsWith events told → EndsWith (e ∷ events) told
ends_cons e events told t = (e ∷ t.0, ap (λ l. e ∷ l) t.1)

-- lists of which one changes, and lists with one more
at_end : {A : Type 0} (l : List A) (x b : A) (j : ℕ) → get_elem? (l ++ x ∷ []) j ≡ some b →
    (get_elem? l j ≡ some b) ⊎ ((j ≡ length l) × (x ≡ b))
at_end [] x b zero e = inr (refl, some-injective x b e)
at_end [] x b (suc j) e = absurd (some-ne-none b (sym e))
at_end (y ∷ l) x b zero e = inl e
at_end (y ∷ l) x b (suc j) e = ⊎_elim (λ t. inl t) (λ t. inr (ap suc t.0, t.1)) (at_end l x b j e)

each_set : (P : ℕ → View → Type 0) (views : List View) (by : ℕ) (w : View) →
    ((j : ℕ) (u : View) → j ≢ by → get_elem? views j ≡ some u → P j u) → P by w →
    (j : ℕ) (u : View) → get_elem? (set views by w) j ≡ some u → P j u
each_set P views by w others mine j u e =
    ⊎_elim (λ (x : (j ≡ by) × (w ≡ u)). subst (λ (y : ℕ × View). P y.0 y.1) (λ i. (sym x.0 i, x.1 i)) mine)
    (λ (x : (j ≢ by) × (get_elem? views j ≡ some u)). others j u x.0 x.1) (at_set views by j w u e)

each_pushed : (P : ℕ → View → Type 0) (views : List View) (w : View) →
    ((j : ℕ) (u : View) → get_elem? views j ≡ some u → P j u) → P (length views) w →
    (j : ℕ) (u : View) → get_elem? (views ++ w ∷ []) j ≡ some u → P j u
each_pushed P views w others mine j u e =
    ⊎_elim (λ (x : get_elem? views j ≡ some u). others j u x)
    (λ (x : (j ≡ length views) × (w ≡ u)). subst (λ (y : ℕ × View). P y.0 y.1) (λ i. (sym x.0 i, x.1 i)) mine)
    (at_end views w u j e)

held_same : (w u : View) (h : Held) → w ≡ u → u.held ≡ Some h → w.held ≡ Some h
held_same w u h same is = ap (λ (z : View). z.held) same ∙ is

-- no other holds what this one does
abbrev NoneElse : List View → ℕ → View → Type 0
NoneElse views by w =
    (j : ℕ) (u : View) (h i : Held) → j ≢ by → get_elem? views j ≡ some u → u.held ≡ Some h → w.held ≡ Some i →
    h.op ≡ i.op → ⊥

apart_set : (views : List View) (by : ℕ) (w : View) → Apart views → NoneElse views by w → Apart (set views by w)
apart_set views by w apart none a b v u h i ea eb hv hu same =
    ⊎_elim
    (λ (x : (a ≡ by) × (w ≡ v)). ⊎_elim (λ (y : (b ≡ by) × (w ≡ u)). x.0 ∙ sym y.0)
    (λ (y : (b ≢ by) × (get_elem? views b ≡ some u)). absurd (none b u i h y.0 y.1 hu (held_same w v h x.1 hv) (sym same)))
    (at_set views by b w u eb))
    (λ (x : (a ≢ by) × (get_elem? views a ≡ some v)). ⊎_elim
    (λ (y : (b ≡ by) × (w ≡ u)). absurd (none a v h i x.0 x.1 hv (held_same w u i y.1 hu) same))
    (λ (y : (b ≢ by) × (get_elem? views b ≡ some u)). apart a b v u h i x.1 y.1 hv hu same)
    (at_set views by b w u eb))
    (at_set views by a w v ea)

apart_pushed : (views : List View) (w : View) → Apart views →
    ((j : ℕ) (u : View) (h i : Held) → get_elem? views j ≡ some u → u.held ≡ Some h → w.held ≡ Some i → h.op ≡ i.op → ⊥) →
    Apart (views ++ w ∷ [])
apart_pushed views w apart none a b v u h i ea eb hv hu same =
    ⊎_elim
    (λ (x : get_elem? views a ≡ some v). ⊎_elim
    (λ (y : get_elem? views b ≡ some u). apart a b v u h i x y hv hu same)
    (λ (y : (b ≡ length views) × (w ≡ u)). absurd (none a v h i x hv (held_same w u i y.1 hu) same))
    (at_end views w u b eb))
    (λ (x : (a ≡ length views) × (w ≡ v)). ⊎_elim
    (λ (y : get_elem? views b ≡ some u). absurd (none b u i h y hu (held_same w v h x.1 hv) (sym same)))
    (λ (y : (b ≡ length views) × (w ≡ u)). x.0 ∙ sym y.0)
    (at_end views w u b eb))
    (at_end views w v a ea)

-- the keeper's own history is the one that there is
pub as_kept : (by : ℕ) (v : View) (views : List View) → v.keeps ≡ true → KeptViews views → get_elem? views by ≡ some v →
    AreKept by v.limits v.events views
as_kept by v views keeps h at =
    let mine = (h.kept.fits by v at).keeps keeps in
    subst (λ k. AreKept k v.limits v.events views) (sym mine.one)
    (subst (λ l. AreKept h.keeper l v.events views) (sym mine.room)
    (subst (λ es. AreKept h.keeper h.limits es views) (sym mine.all) h.kept))

-- an operation that is held by its number
held_of : (o : Option Held) (n : ℕ) → held_op o ≡ Some n → (h : Held) × (o ≡ Some h) × (h.op ≡ n)
held_of None n is = absurd (cc)
held_of (Some h) n is = (h, refl, (let it : h.op ≡ n = cc in it))

begins_ready : (s : ContextState) (e : Event) (n : ℕ) → MayHappen s e → begun_in e ≡ Some n → is_at is_ready s.ops n ≡ true
begins_ready s (event.Begun op spares) n may is =
    let it : op ≡ n = cc in subst (λ k. is_at is_ready s.ops k ≡ true) it may.ready
begins_ready s e n may is = absurd (none_some n is)

-- an event of another handler leaves what is held
left_held : (s : ContextState) (e : Event) (o : Option Held) → MayHappen s e → Rests s →
    ((h : Held) → o ≡ Some h → actor e ≡ Some h.op → ⊥) → IsHeld s o → IsHeld (after e s) o
left_held s e None may rests other is = tt
left_held s e (Some h) may rests other is =
    record { same = stays s e h.op h.is may rests (other h refl) is.same is.runs; runs = is.runs }

executes : (s : ContextState) (o : Option Held) (h : Held) → o ≡ Some h → IsHeld s o → Executes s h
executes s o h same is = subst (λ (x : Option Held). IsHeld s x) same is

pub notes : (e : Event) (by : ℕ) (v : View) (views : List View) → v.keeps ≡ true → MayHappen (state_of v.limits v.events) e →
    IsFree e v.held → KeptViews views → get_elem? views by ≡ some v → KeptViews (set views by (noted e v))
notes e by v views keeps may free h at =
    let k = as_kept by v views keeps h at in
    let s = state_of v.limits v.events in
    let rests = legal_rests v.limits v.events k.legal in
    let mine = k.fits by v at in
    -- what another seat holds isn't the actor's
    let apart : (j : ℕ) (u : View) (o : Held) (n : ℕ) → j ≢ by → get_elem? views j ≡ some u → u.held ≡ Some o →
    held_op v.held ≡ Some n → o.op ≡ n → ⊥ =
    (λ j u o n other there is holds same.
    let own = held_of v.held n holds in
    other (k.apart j by u v o own.0 there at is own.1 (same ∙ sym own.2))) in
    record {
      keeper = by;
      limits = v.limits;
      events = e ∷ v.events;
      kept = record {
        legal = (may, k.legal);
        fits = each_set (Fits by v.limits (e ∷ v.events)) views by (noted e v)
            (λ j u other there.
            let f = k.fits j u there in
            record {
              keeps = λ is. absurd (other (f.keeps is).one);
              told = ends_cons e v.events u.told f.told;
              held = left_held s e u.held may rests
                  (λ o is acts. apart j u o o.op other there is (free.acts o.op acts) refl) f.held;
            })
            (record {
              keeps = λ is. record { one = refl; room = refl; all = refl };
              told = ends_cons e v.events v.told mine.told;
              held = after_held s e v.held may rests mine.held;
            });
        apart = apart_set views by (noted e v) k.apart
            (λ j u o i other there is now same. ⊎_elim
            (λ (before : held_op v.held ≡ Some i.op). apart j u o i.op other there is before same)
            (λ (begins : begun_in e ≡ Some i.op).
            let x = executes s u.held o is (k.fits j u there).held in
            ready_other s.ops i.op o.op o.is (begins_ready s e i.op may begins) x.same x.runs (sym same))
            (whence (after e s) e v.held i now));
      };
    }

pub learns : (by : ℕ) (v : View) (views : List View) → v.keeps ≡ true → KeptViews views → get_elem? views by ≡ some v →
    KeptViews (set views by v) × IsLegal v.limits v.events × EndsWith v.events v.told × IsHeld (state_of v.limits v.events) v.held
learns by v views keeps h at =
    let k = as_kept by v views keeps h at in
    let mine = k.fits by v at in
    (subst KeptViews (sym (set_again views by v at)) h, k.legal, mine.told, mine.held)

pub claims : (by : ℕ) (v : View) (views : List View) → v.keeps ≡ true → KeptViews views → get_elem? views by ≡ some v →
    KeptViews (set views by (without_claim v) ++ claim_of v ∷ [])
claims by v views keeps h at =
    let k = as_kept by v views keeps h at in
    let mine = k.fits by v at in
    let l = set views by (without_claim v) in
    record {
      keeper = by;
      limits = v.limits;
      events = v.events;
      kept = record {
        legal = k.legal;
        fits = each_pushed (Fits by v.limits v.events) l (claim_of v)
            (each_set (Fits by v.limits v.events) views by (without_claim v) (λ j u other there. k.fits j u there)
            (record { keeps = λ is. record { one = refl; room = refl; all = refl }; told = mine.told; held = tt }))
            (record { keeps = λ is. no_keeper is; told = ([], refl); held = mine.held });
        apart = apart_pushed l (claim_of v)
            (apart_set views by (without_claim v) k.apart (λ j u o i other there is now same. none_some i now))
            (λ j u o i there is now same. ⊎_elim
            (λ (x : (j ≡ by) × (without_claim v ≡ u)). none_some o (held_same (without_claim v) u o x.1 is))
            (λ (x : (j ≢ by) × (get_elem? views j ≡ some u)). x.0 (k.apart j by u v o i x.1 at is now same))
            (at_set views by j (without_claim v) u there));
      };
    }

pub tells : (by : ℕ) (v : View) (views : List View) → v.keeps ≡ true → KeptViews views → get_elem? views by ≡ some v →
    KeptViews (set views by v ++ witness_of v ∷ [])
tells by v views keeps h at =
    let k = as_kept by v views keeps h at in
    subst (λ (l : List View). KeptViews (l ++ witness_of v ∷ [])) (sym (set_again views by v at))
    (record {
      keeper = by;
      limits = v.limits;
      events = v.events;
      kept = record {
        legal = k.legal;
        fits = each_pushed (Fits by v.limits v.events) views (witness_of v) (λ j u there. k.fits j u there)
            (record { keeps = λ is. no_keeper is; told = ([], refl); held = tt });
        apart = apart_pushed views (witness_of v) k.apart (λ j u o i there is now same. none_some i now);
      };
    })

first_is : (s : ContextState) (one other : Option Held) → IsHeld s one → IsHeld s other → IsHeld s (first_held one other)
first_is s None other one is = is
first_is s (Some h) other one is = one

first_from : (one other : Option Held) (h : Held) → first_held one other ≡ Some h → (one ≡ Some h) ⊎ (other ≡ Some h)
first_from None other h is = inr is
first_from (Some x) other h is = inl is

pub takes_in : (by : ℕ) (v : View) (other : ℕ) (w : View) (views : List View) → v.keeps ≡ true → KeptViews views →
    get_elem? views by ≡ some v → ¬ (other ≡ by) → get_elem? (set views by (joined v w)) other ≡ some w →
    KeptViews (set (set views by (joined v w)) other nobody)
takes_in by v other w views keeps h at apart there =
    let k = as_kept by v views keeps h at in
    let both = joined v w in
    let s = state_of v.limits v.events in
    let was : get_elem? views other ≡ some w =
    ⊎_elim (λ (t : (other ≡ by) × (both ≡ w)). absurd (apart t.0))
    (λ (t : (other ≢ by) × (get_elem? views other ≡ some w)). t.1) (at_set views by other both w there) in
    let mine = k.fits by v at in
    let theirs = k.fits other w was in
    let fit : (j : ℕ) (u : View) → get_elem? (set views by both) j ≡ some u → Fits by v.limits v.events j u =
    each_set (Fits by v.limits v.events) views by both (λ j u apart there. k.fits j u there)
    (record {
      keeps = λ is. record { one = refl; room = refl; all = refl };
      told = theirs.told;
      held = first_is s v.held w.held mine.held theirs.held;
    }) in
    -- a third seat holds something else
    let third : (j : ℕ) (u : View) (o i : Held) → j ≢ other → j ≢ by → get_elem? views j ≡ some u → u.held ≡ Some o →
    both.held ≡ Some i → o.op ≡ i.op → ⊥ =
    (λ j u o i not_other not_by here is now same. ⊎_elim
    (λ (x : v.held ≡ Some i). not_by (k.apart j by u v o i here at is x same))
    (λ (x : w.held ≡ Some i). not_other (k.apart j other u w o i here was is x same))
    (first_from v.held w.held i now)) in
    -- whoever holds something afterwards is the keeper, or a third
    let seen : (j : ℕ) (u : View) (o : Held) → get_elem? (set (set views by both) other nobody) j ≡ some u → u.held ≡ Some o →
    ((j ≡ by) × (both ≡ u)) ⊎ ((j ≢ other) × (j ≢ by) × (get_elem? views j ≡ some u)) =
    (λ j u o e is. ⊎_elim
    (λ (x : (j ≡ other) × (nobody ≡ u)). absurd (none_some o (held_same nobody u o x.1 is)))
    (λ (x : (j ≢ other) × (get_elem? (set views by both) j ≡ some u)). ⊎_elim
    (λ (y : (j ≡ by) × (both ≡ u)). inl y)
    (λ (y : (j ≢ by) × (get_elem? views j ≡ some u)). inr (x.0, y.0, y.1))
    (at_set views by j both u x.1))
    (at_set (set views by both) other j nobody u e)) in
    record {
      keeper = by;
      limits = v.limits;
      events = v.events;
      kept = record {
        legal = k.legal;
        fits = each_set (Fits by v.limits v.events) (set views by both) other nobody (λ j u apart there. fit j u there)
            (record { keeps = λ is. no_keeper is; told = (v.events, sym (append-nil v.events)); held = tt });
        apart = (λ a b x y o i ea eb hx hy same. ⊎_elim
            (λ (p : (a ≡ by) × (both ≡ x)). ⊎_elim (λ (q : (b ≡ by) × (both ≡ y)). p.0 ∙ sym q.0)
            (λ (q : (b ≢ other) × (b ≢ by) × (get_elem? views b ≡ some y)).
            absurd (third b y i o q.0 q.1 q.2 hy (held_same both x o p.1 hx) (sym same)))
            (seen b y i eb hy))
            (λ (p : (a ≢ other) × (a ≢ by) × (get_elem? views a ≡ some x)). ⊎_elim
            (λ (q : (b ≡ by) × (both ≡ y)). absurd (third a x o i p.0 p.1 p.2 hx (held_same both y i q.1 hy) same))
            (λ (q : (b ≢ other) × (b ≢ by) × (get_elem? views b ≡ some y)). k.apart a b x y o i p.2 q.2 hx hy same)
            (seen b y i eb hy))
            (seen a x o ea hx));
      };
    }

nothing_at : {A : Type 0} (x : A) (j : ℕ) → get_elem? [] j ≡ some x → ⊥
nothing_at x j e = some-ne-none x (sym e)

pub opens : (limits : Limits) → KeptViews (first_keeper limits ∷ [])
opens limits =
    record {
      keeper = 0;
      limits = limits;
      events = [];
      kept = record {
        legal = tt;
        fits = each_pushed (Fits 0 limits []) [] (first_keeper limits) (λ j u there. absurd (nothing_at u j there))
            (record { keeps = λ is. record { one = refl; room = refl; all = refl }; told = ([], refl); held = tt });
        apart = apart_pushed [] (first_keeper limits) (λ a b v u h i ea eb hv hu same. absurd (nothing_at v a ea))
            (λ j u h i there is now same. nothing_at u j there);
      };
    }
