-- The least expiry of the waits.
use Rattle.std.proofs.Common.{◌≡◌, ℕ, ◌<◌, ◌≤◌, nat_le, min, Bool, true, false, cond, List, [], ◌∷◌, Option, Some, None, length, map, get_or, zero, suc, refl, ap, sym, ◌∙◌, arith}
use Rattle.std.specs.List.{All, Any}
use Rattle.std.specs.Option.{IfSome, IsNone}
use Rattle.std.proofs.lemmas.List.Elements.{All-head, All-tail}
use Rattle.history_rules.specs.Settling.{put_by, sorted_by}
use Rattle.history_rules.specs.Time.{least_of, lesser}
use Rattle.history_rules.specs.Waits.{expiry_in}
use Rattle.timer_queue.specs.declared.entry.TimerEntry.{TimerEntry}
use Rattle.proactor_core.specs.Waits.{expiry_of_entry, serial_of, wait_of, waits_of}

lesser-comm : (x y : ℕ) (least : Option ℕ) → lesser x (lesser y least) ≡ lesser y (lesser x least)
lesser-comm x y None = let same : min x y ≡ min y x = omega arith in ap (λ n. Some n) same
lesser-comm x y (Some z) = let same : min x (min y z) ≡ min y (min x z) = omega arith in ap (λ n. Some n) same

module _ {X : Type 0} (f key : X → ℕ) where
  least-pick : (t : Bool) (a b : List X) (o : Option ℕ) → least_of (map f a) ≡ o → least_of (map f b) ≡ o →
      least_of (map f (cond t a b)) ≡ o
  least-pick true a b o p q = p
  least-pick false a b o p q = q

  least-put_by : (x : X) (xs : List X) → least_of (map f (put_by key x xs)) ≡ lesser (f x) (least_of (map f xs))
  least-put_by x [] = refl
  least-put_by x (y ∷ ys) =
      least-pick (nat_le (key x) (key y)) (x ∷ y ∷ ys) (y ∷ put_by key x ys)
      (lesser (f x) (lesser (f y) (least_of (map f ys)))) refl
      (ap (lesser (f y)) (least-put_by x ys) ∙ lesser-comm (f y) (f x) (least_of (map f ys)))

  -- the least doesn't depend on the order
  least-sorted_by : (xs : List X) → least_of (map f (sorted_by key xs)) ≡ least_of (map f xs)
  least-sorted_by [] = refl
  least-sorted_by (x ∷ xs) = least-put_by x (sorted_by key xs) ∙ ap (lesser (f x)) (least-sorted_by xs)

map-map : {X Y Z : Type 0} (f : Y → Z) (g : X → Y) (xs : List X) → map f (map g xs) ≡ map (λ x. f (g x)) xs
map-map f g [] = refl
map-map f g (x ∷ xs) = ap (λ zs. f (g x) ∷ zs) (map-map f g xs)

map-agree : {X Y : Type 0} (f g : X → Y) (xs : List X) → All (λ x. f x ≡ g x) xs → map f xs ≡ map g xs
map-agree f g [] all = refl
map-agree f g (x ∷ xs) all =
    ap (λ y. y ∷ map f xs) (All-head (λ y. f y ≡ g y) x xs all)
    ∙ ap (λ ys. g x ∷ ys) (map-agree f g xs (All-tail (λ y. f y ≡ g y) x xs all))

-- the least expiry of waits is that of their entries
least-waits : (expiries timers : List ℕ) (q : List TimerEntry) →
    All (λ e. expiry_in expiries (wait_of timers e) ≡ e.expiry) q →
    least_of (map (expiry_in expiries) (waits_of timers q)) ≡ least_of (map expiry_of_entry q)
least-waits expiries timers q each =
    let f : TimerEntry → ℕ = λ e. expiry_in expiries (wait_of timers e) in
    ap least_of (map-map (expiry_in expiries) (wait_of timers) (sorted_by serial_of q)) ∙ least-sorted_by f serial_of q
    ∙ ap least_of (map-agree f expiry_of_entry q each)

abbrev AtLeast : ℕ → Option ℕ → Type 0
AtLeast x None = Unit {0}
AtLeast x (Some y) = x ≤ y

at_least-lesser : (x y : ℕ) (o : Option ℕ) → x ≤ y → AtLeast x o → AtLeast x (lesser y o)
at_least-lesser x y None b h = b
at_least-lesser x y (Some z) b h = let both : x ≤ min y z = omega arith in both

at_least : (x : ℕ) (q : List TimerEntry) → All (λ e. x ≤ e.expiry) q → AtLeast x (least_of (map expiry_of_entry q))
at_least x [] all = tt
at_least x (e ∷ es) all =
    at_least-lesser x e.expiry (least_of (map expiry_of_entry es)) (all 0 e (omega arith))
    (at_least x es (All-tail (λ e. x ≤ e.expiry) e es all))

lesser-here : (x : ℕ) (o : Option ℕ) → AtLeast x o → lesser x o ≡ Some x
lesser-here x None h = refl
lesser-here x (Some y) h = let same : min x y ≡ x = omega arith in ap (λ n. Some n) same

lesser-there : (x y : ℕ) → x ≤ y → lesser y (Some x) ≡ Some x
lesser-there x y b = let same : min y x ≡ x = omega arith in ap (λ n. Some n) same

least-at : (x : ℕ) (q : List TimerEntry) (k : ℕ) (d : TimerEntry) → k < length q → (get_or q k d).expiry ≡ x →
    All (λ e. x ≤ e.expiry) q → least_of (map expiry_of_entry q) ≡ Some x
least-at x [] k d b is all = absurd (omega arith)
least-at x (e ∷ es) zero d b is all =
    ap (λ n. lesser n (least_of (map expiry_of_entry es))) is
    ∙ lesser-here x (least_of (map expiry_of_entry es)) (at_least x es (All-tail (λ e. x ≤ e.expiry) e es all))
least-at x (e ∷ es) (suc k) d b is all =
    ap (lesser e.expiry) (least-at x es k d (omega arith) is (All-tail (λ e. x ≤ e.expiry) e es all))
    ∙ lesser-there x e.expiry (all 0 e (omega arith))

least-answer : (q : List TimerEntry) (result : Option ℕ) → (IsNone result → q ≡ []) →
    IfSome result (λ x. Any (λ e. e.expiry ≡ x) q) → IfSome result (λ x. All (λ e. x ≤ e.expiry) q) →
    result ≡ least_of (map expiry_of_entry q)
least-answer q None none there least = sym (ap (λ l. least_of (map expiry_of_entry l)) (none refl))
least-answer q (Some x) none there least =
    sym (least-at x q there.0 there.1 there.2 (ap expiry_of_entry there.3 ∙ there.4) least)

-- what a queue answers is the least expiry of its waits
pub next-expiry : (expiries timers : List ℕ) (q : List TimerEntry) (result : Option ℕ) →
    All (λ e. expiry_in expiries (wait_of timers e) ≡ e.expiry) q → (IsNone result → q ≡ []) →
    IfSome result (λ x. Any (λ e. e.expiry ≡ x) q) → IfSome result (λ x. All (λ e. x ≤ e.expiry) q) →
    result ≡ least_of (map (expiry_in expiries) (waits_of timers q))
next-expiry expiries timers q result each none there least =
    least-answer q result none there least ∙ sym (least-waits expiries timers q each)
