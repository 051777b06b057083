-- The next expiry of a wait.
use Rattle.std.proofs.Common.{◌≡◌, ℕ, ◌+◌, ◌<◌, ◌≤◌, nat_lt, min, Bool, true, false, cond, List, [], ◌∷◌, ◌++◌, Option, Some, None, map, filter, take, length, get_or, zero, suc, refl, ap, subst, sym, ◌∙◌, arith}
use Rattle.std.proofs.lemmas.List.{append-nil, map_more}
use Rattle.std.proofs.lemmas.List.Elements.{All-filter, All-map, filter-append}
use Rattle.std.specs.List.{All, slice_get}
use Rattle.std.proofs.lemmas.Bool.Decides.{nat_tests}
use Rattle.asio_types.specs.declared.outside.Point.TheVariants as point
use Rattle.asio_types.specs.declared.world.Line.{Line}
use Rattle.stream_rules.specs.World.{earlier_point, next_point, times_after}
use Rattle.stream_rules.proofs.WorldLemmas.{least, next_point-rising}
use Rattle.history_rules.specs.Time.{least_of, lesser}

lesser-comm : (x y : ℕ) (least : Option ℕ) → lesser x (lesser y least) ≡ lesser y (lesser x least)
lesser-comm x y None = let same : min x y ≡ min y x = omega arith in ap (λ n. Some n) same
lesser-comm x y (Some z) = let same : min x (min y z) ≡ min y (min x z) = omega arith in ap (λ n. Some n) same

-- one more number
least_of_push : (xs : List ℕ) (x : ℕ) → least_of (xs ++ x ∷ []) ≡ lesser x (least_of xs)
least_of_push [] x = refl
least_of_push (y ∷ ys) x = ap (lesser y) (least_of_push ys x) ∙ lesser-comm y x (least_of ys)

least-kept : (now x : ℕ) (xs : List ℕ) (b : Bool) → nat_lt now x ≡ b →
    least_of (filter (λ y. nat_lt now y) xs ++ filter (λ y. nat_lt now y) (x ∷ []))
    ≡ cond b (lesser x (least_of (filter (λ y. nat_lt now y) xs))) (least_of (filter (λ y. nat_lt now y) xs))
least-kept now x xs true e = rw e (least_of_push (filter (λ y. nat_lt now y) xs) x)
least-kept now x xs false e = rw (e, append-nil (filter (λ y. nat_lt now y) xs))

-- one more item, whose number counts where it is above now
pub least-more : {X : Type 0} (f : X → ℕ) (now : ℕ) (xs : List X) (i : ℕ) (d : X) → i < length xs →
    least_of (filter (λ y. nat_lt now y) (map f (take (i + 1) xs)))
    ≡ cond (nat_lt now (f (get_or xs i d)))
    (lesser (f (get_or xs i d)) (least_of (filter (λ y. nat_lt now y) (map f (take i xs)))))
    (least_of (filter (λ y. nat_lt now y) (map f (take i xs))))
least-more f now xs i d b =
    ap (λ ys. least_of (filter (λ y. nat_lt now y) ys)) (map_more f xs i d b)
    ∙ ap least_of (filter-append (λ y. nat_lt now y) (map f (take i xs)) (f (get_or xs i d) ∷ []))
    ∙ least-kept now (f (get_or xs i d)) (map f (take i xs)) (nat_lt now (f (get_or xs i d))) refl

-- a number that may be there is above this one
abbrev IsAbove : ℕ → Option ℕ → Type 0
IsAbove n None = Unit {0}
IsAbove n (Some x) = n < x

lesser-above : (n x : ℕ) (least : Option ℕ) → n < x → IsAbove n least → IsAbove n (lesser x least)
lesser-above n x None b above = b
lesser-above n x (Some y) b above = let both : n < min x y = omega arith in both

above-step : (now x : ℕ) (xs : List ℕ) (b : Bool) → nat_lt now x ≡ b → IsAbove now (least_of xs) →
    IsAbove now (least_of (cond b (x ∷ xs) xs))
above-step now x xs true e h =
    let above : now < x = grind (arith, nat_tests, e) in lesser-above now x (least_of xs) above h
above-step now x xs false e h = h

least-above : (now : ℕ) (xs : List ℕ) → IsAbove now (least_of (filter (λ y. nat_lt now y) xs))
least-above now [] = tt
least-above now (x ∷ xs) = above-step now x (filter (λ y. nat_lt now y) xs) (nat_lt now x) refl (least-above now xs)

-- the next expiry is above now
pub next-above : (now : ℕ) (xs : List ℕ) (x : ℕ) → least_of (filter (λ y. nat_lt now y) xs) ≡ Some x → now < x
next-above now xs x is = let P : Option ℕ → Type 0 = IsAbove now in subst P is (least-above now xs)

-- a number that may be there is at most this one
abbrev pub IsWithin : ℕ → Option ℕ → Type 0
IsWithin top None = Unit {0}
IsWithin top (Some x) = x ≤ top

lesser-within : (top x : ℕ) (least : Option ℕ) → x ≤ top → IsWithin top (lesser x least)
lesser-within top x None b = b
lesser-within top x (Some y) b = let both : min x y ≤ top = omega arith in both

-- the least of numbers is at most what each of them is
pub least_of-within : (top : ℕ) (xs : List ℕ) → All (λ x. x ≤ top) xs → IsWithin top (least_of xs)
least_of-within top [] all = tt
least_of-within top (x ∷ xs) all = lesser-within top x (least_of xs) (all 0 x (omega arith))

least-within-step : (top x : ℕ) (xs : List ℕ) (o : Option ℕ) → least xs ≡ o → x ≤ top → IsWithin top (least (x ∷ xs))
least-within-step top x xs None e b = rw e b
least-within-step top x xs (Some y) e b = let both : min x y ≤ top = omega arith in rw e both

least-within : (top : ℕ) (xs : List ℕ) → All (λ x. x ≤ top) xs → IsWithin top (least xs)
least-within top [] all = tt
least-within top (x ∷ xs) all = least-within-step top x xs (least xs) refl (all 0 x (omega arith))

point-within : (top time : ℕ) (limit next : Option ℕ) → earlier_point limit next ≡ point.Time time →
    IsWithin top limit → IsWithin top next → time ≤ top
point-within top time None None e a b = absurd (cc)
point-within top time None (Some x) e a b = let is : x ≡ time = cc in omega arith
point-within top time (Some l) None e a b = let is : l ≡ time = cc in omega arith
point-within top time (Some l) (Some x) e a b = let is : min l x ≡ time = cc in omega arith

-- the next point is at most what bounds expiries and lines
pub next_point-within : (top time now : ℕ) (limit : Option ℕ) (lines : List Line) →
    next_point limit (times_after now lines) ≡ point.Time time → IsWithin top limit →
    All (λ (line : Line). line.time ≤ top) lines → time ≤ top
next_point-within top time now limit lines e within all =
    let times : List ℕ = filter (λ t. nat_lt now t) (map (λ (line : Line). line.time) lines) in
    let each : All (λ t. t ≤ top) times =
    All-filter (λ t. nat_lt now t) (λ t. t ≤ top) (map (λ (line : Line). line.time) lines)
    (All-map (λ t. t ≤ top) (λ (line : Line). line.time) lines all) in
    point-within top time limit (least times) (sym (next_point-rising limit times) ∙ e) within (least-within top times each)

-- a number that may be there, and is at most this
abbrev IsAtMost : ℕ → Option ℕ → Type 0
IsAtMost x None = ⊥
IsAtMost x (Some y) = y ≤ x

lesser-at_most : (x y : ℕ) (least : Option ℕ) → IsAtMost x least → IsAtMost x (lesser y least)
lesser-at_most x y None h = absurd h
lesser-at_most x y (Some z) h = let both : min y z ≤ x = omega arith in both

lesser-first : (x : ℕ) (least : Option ℕ) → IsAtMost x (lesser x least)
lesser-first x None = omega arith
lesser-first x (Some y) = let both : min x y ≤ x = omega arith in both

some-step : (x y : ℕ) (xs : List ℕ) (b : Bool) → IsAtMost x (least_of xs) → IsAtMost x (least_of (cond b (y ∷ xs) xs))
some-step x y xs true h = lesser-at_most x y (least_of xs) h
some-step x y xs false h = h

some-least : {X : Type 0} (f : X → ℕ) (now : ℕ) (xs : List X) (k : ℕ) (d : X) → k < length xs →
    now < f (get_or xs k d) → IsAtMost (f (get_or xs k d)) (least_of (filter (λ t. nat_lt now t) (map f xs)))
some-least f now [] k d b above = absurd (omega arith)
some-least f now (x ∷ xs) zero d b above =
    let test : nat_lt now (f x) ≡ true = grind (arith, nat_tests) in
    rw test (lesser-first (f x) (least_of (filter (λ t. nat_lt now t) (map f xs))))
some-least f now (x ∷ xs) (suc k) d b above =
    some-step (f (get_or xs k d)) (f x) (filter (λ t. nat_lt now t) (map f xs)) (nat_lt now (f x))
    (some-least f now xs k d (omega arith) above)

point-at_most : (x time : ℕ) (limit next : Option ℕ) → earlier_point limit next ≡ point.Time time → IsAtMost x limit →
    time ≤ x
point-at_most x time None next e h = absurd h
point-at_most x time (Some l) None e h = let is : l ≡ time = cc in omega arith
point-at_most x time (Some l) (Some y) e h = let is : min l y ≡ time = cc in omega arith

-- no expiry above now is before the next point
pub next_point-first : {X : Type 0} (f : X → ℕ) (now time : ℕ) (xs : List X) (times : List ℕ) →
    next_point (least_of (filter (λ t. nat_lt now t) (map f xs))) times ≡ point.Time time → (k : ℕ) (d : X) →
    k < length xs → now < f (get_or xs k d) → time ≤ f (get_or xs k d)
next_point-first f now time xs times e k d b above =
    point-at_most (f (get_or xs k d)) time (least_of (filter (λ t. nat_lt now t) (map f xs))) (slice_get times 0) e
    (some-least f now xs k d b above)
