-- A ring in parts: the free places, and each queue's; and a ring without a place.
use Rattle.std.proofs.Common.{arith, ap, eqb, refl, subst, sym, ◌∙◌, ⊎_elim, ◌≢◌}
use Rattle.std.proofs.Math.Seq.{drop-cons}
use Rattle.std.proofs.lemmas.Bool.{le-ltb, lt-ltb}
use Rattle.std.proofs.lemmas.Bool.Decides.{eqb_tells}
use Rattle.std.proofs.lemmas.List.{append_assoc, set-get_or, take-append-drop}
use Rattle.std.specs.Prelude.{◌≡◌, ◌<◌, ◌≤◌, ℕ, zero, suc, ◌+◌, ◌==◌, Bool, true, false, cond, List, [], ◌∷◌, ◌++◌, drop, length, map, take}
use Rattle.std.specs.List.{slice_index_or, slice_set}
use Rattle.io_rules.specs.Room.{one_if}
use Rattle.io_rules.proofs.TotalLemmas.{same}
use Rattle.io_queues.specs.Linked.{AllBelow, AreBelow, IsPath, cut, first_or, linked, onto, queues_ring, ring_of, steps_on, times, walk}
use Rattle.io_queues.proofs.PathLemmas.{headed, last_or, parted, split, times-append}

pub walked : (f : List ℕ) (a : ℕ) (xs : List ℕ) (b : ℕ) → IsPath f a xs b → walk f a (length xs) ≡ xs
walked f a [] b path = refl
walked f a (x ∷ xs) b path =
    subst (λ k. k ∷ walk f k (length xs) ≡ x ∷ xs) (sym path.0) (ap (λ ys. x ∷ ys) (walked f x xs b path.1))

-- a ring is cut into its parts
pub cut_ring : (places node : ℕ) (l : List ℕ) (queues : List (List ℕ)) → AreBelow places l → AllBelow places queues →
    places ≤ node → cut places (l ++ queues_ring node queues) ≡ l ∷ queues
cut_ring places node [] [] low all le = refl
cut_ring places node [] (q ∷ queues) low all le =
    let rest = cut_ring places (node + 1) q queues all.0 all.1 (omega (arith, le)) in
    ap (λ b. cond b (onto node (cut places (q ++ queues_ring (node + 1) queues)))
    ([] ∷ cut places (q ++ queues_ring (node + 1) queues))) (le-ltb node places le) ∙ ap (λ qs. [] ∷ qs) rest
cut_ring places node (n ∷ l) queues low all le =
    let rest = cut_ring places node l queues low.1 all le in
    ap (λ b. cond b (onto n (cut places (l ++ queues_ring node queues))) ([] ∷ cut places (l ++ queues_ring node queues)))
    (lt-ltb n places low.0) ∙ ap (onto n) rest

-- what stands before a queue's places, and what behind them
abbrev pub ring_ahead : ℕ → List (List ℕ) → ℕ → List ℕ
ring_ahead node [] q = []
ring_ahead node (l ∷ queues) zero = node ∷ []
ring_ahead node (l ∷ queues) (suc q) = node ∷ l ++ ring_ahead (node + 1) queues q

abbrev pub ring_behind : ℕ → List (List ℕ) → ℕ → List ℕ
ring_behind node [] q = []
ring_behind node (l ∷ queues) zero = queues_ring (node + 1) queues
ring_behind node (l ∷ queues) (suc q) = ring_behind (node + 1) queues q

abbrev pub queue_of : List (List ℕ) → ℕ → List ℕ
queue_of queues q = slice_index_or queues q []

pub parts : (node : ℕ) (queues : List (List ℕ)) (q : ℕ) (new : List ℕ) → q < length queues →
    queues_ring node (slice_set queues q new) ≡ ring_ahead node queues q ++ (new ++ ring_behind node queues q)
parts node [] q new lt = absurd (omega (arith, lt))
parts node (l ∷ queues) zero new lt = refl
parts node (l ∷ queues) (suc q) new lt =
    ap (λ ys. node ∷ l ++ ys) (parts (node + 1) queues q new (omega (arith, lt)))
    ∙ sym (append_assoc (node ∷ l) (ring_ahead (node + 1) queues q) (new ++ ring_behind (node + 1) queues q))

pub whole : (node : ℕ) (queues : List (List ℕ)) (q : ℕ) → q < length queues →
    queues_ring node queues ≡ ring_ahead node queues q ++ (queue_of queues q ++ ring_behind node queues q)
whole node queues q lt =
    sym (ap (queues_ring node) (set-get_or queues q [])) ∙ parts node queues q (queue_of queues q) lt

pub first_behind : (node : ℕ) (queues : List (List ℕ)) (q e : ℕ) → q < length queues → length queues + node ≡ e →
    first_or (ring_behind node queues q) e ≡ node + q + 1
first_behind node [] q e lt many = absurd (omega (arith, lt))
first_behind node (l ∷ []) zero e lt many = omega (arith, many)
first_behind node (l ∷ m ∷ queues) zero e lt many = omega arith
first_behind node (l ∷ queues) (suc q) e lt many =
    let rest = first_behind (node + 1) queues q e (omega (arith, lt)) (omega (arith, many)) in omega (arith, rest)

last-append : (xs ys : List ℕ) (a : ℕ) → last_or (xs ++ ys) a ≡ last_or ys (last_or xs a)
last-append [] ys a = refl
last-append (x ∷ xs) ys a = last-append xs ys x

last_ahead : (node : ℕ) (queues : List (List ℕ)) (q a : ℕ) → q < length queues →
    last_or (ring_ahead node queues q) a ≡ node + q
last_ahead node [] q a lt = absurd (omega (arith, lt))
last_ahead node (l ∷ queues) zero a lt = omega arith
last_ahead node (l ∷ queues) (suc q) a lt =
    let rest = last_ahead (node + 1) queues q (last_or l node) (omega (arith, lt)) in
    let here = last-append l (ring_ahead (node + 1) queues q) node in
    omega (arith, rest, here)

-- from the node before a queue on
pub queue_path : (f : List ℕ) (places e : ℕ) (free : List ℕ) (queues : List (List ℕ)) (q : ℕ) → q < length queues →
    IsPath f e (ring_of places free queues) e →
    IsPath f (places + q) (queue_of queues q ++ ring_behind places queues q) e
queue_path f places e free queues q lt path =
    let is = ap (λ r. free ++ r) (whole places queues q lt)
    ∙ sym (append_assoc free (ring_ahead places queues q) (queue_of queues q ++ ring_behind places queues q)) in
    let cut_path = subst (λ ns. IsPath f e ns e) is path in
    let last = last-append free (ring_ahead places queues q) e ∙ last_ahead places queues q (last_or free e) lt in
    subst (λ n. IsPath f n (queue_of queues q ++ ring_behind places queues q) e) last
    (parted f e (free ++ ring_ahead places queues q) (queue_of queues q ++ ring_behind places queues q) e cut_path).1

-- the nodes of a queue, step by step
pub behind_at : (f : List ℕ) (a : ℕ) (xs ys : List ℕ) (b k : ℕ) → k ≤ length xs → IsPath f a (xs ++ ys) b →
    steps_on f (first_or (xs ++ ys) b) k ≡ first_or (drop k xs ++ ys) b
behind_at f a xs ys b zero le path = refl
behind_at f a xs ys b (suc k) le path =
    let next = drop-cons xs k 0 (omega (arith, le)) in
    let is = ap (λ l. l ++ ys) (sym (take-append-drop k xs) ∙ ap (λ l. take k xs ++ l) next)
    ∙ append_assoc (take k xs) (slice_index_or xs k 0 ∷ drop (suc k) xs) ys in
    ap (linked f) (behind_at f a xs ys b k (omega (arith, le)) path)
    ∙ ap (λ l. linked f (first_or (l ++ ys) b)) next
    ∙ headed f (slice_index_or xs k 0) (drop (suc k) xs ++ ys) b
    (split f a (take k xs) (slice_index_or xs k 0) (drop (suc k) xs ++ ys) b (subst (λ l. IsPath f a l b) is path)).1

-- how many times a node is in a queue
abbrev pub times_in : ℕ → List (List ℕ) → ℕ
times_in n [] = 0
times_in n (l ∷ queues) = times n l + times_in n queues

pub no_if : (b : Bool) → one_if b ≡ 0 → b ≡ false
no_if true is = absurd (omega (arith, is))
no_if false is = refl

pub other_node : (x node : ℕ) → x < node → one_if (node == x) ≡ 0
other_node x node lt =
    ⊎_elim (λ (t : (eqb node x ≡ true) × (node ≡ x)). absurd (let is = t.1 in omega (arith, lt, is)))
    (λ (t : (eqb node x ≡ false) × (node ≢ x)). ap one_if t.0) (eqb_tells node x)

pub times-ring : (x node : ℕ) (queues : List (List ℕ)) → x < node → times x (queues_ring node queues) ≡ times_in x queues
times-ring x node [] lt = refl
times-ring x node (l ∷ queues) lt =
    let other = other_node x node lt in let both = times-append x l (queues_ring (node + 1) queues) in
    let rest = times-ring x (node + 1) queues (omega (arith, lt)) in
    omega (arith, other, both, rest)

pub times_get : (n : ℕ) (queues : List (List ℕ)) (q : ℕ) → times n (queue_of queues q) ≤ times_in n queues
times_get n [] q = omega arith
times_get n (l ∷ queues) zero = omega arith
times_get n (l ∷ queues) (suc q) = let rest = times_get n queues q in omega (arith, rest)

-- all but one place
abbrev pub without : ℕ → List ℕ → List ℕ
without x [] = []
without x (n ∷ xs) = cond (n == x) (without x xs) (n ∷ without x xs)

pub without-none : (x : ℕ) (xs : List ℕ) → times x xs ≡ 0 → without x xs ≡ xs
without-none x [] none = refl
without-none x (n ∷ xs) none =
    ap (λ b. cond b (without x xs) (n ∷ without x xs)) (no_if (n == x) (omega (arith, none)))
    ∙ ap (λ ys. n ∷ ys) (without-none x xs (omega (arith, none)))

without-append : (x : ℕ) (xs ys : List ℕ) → without x (xs ++ ys) ≡ without x xs ++ without x ys
without-append x [] ys = refl
without-append x (n ∷ xs) ys =
    ap (λ zs. cond (n == x) zs (n ∷ zs)) (without-append x xs ys) ∙ either (n == x) n (without x xs) (without x ys)
  where
    either : (b : Bool) (n : ℕ) (xs ys : List ℕ) → cond b (xs ++ ys) (n ∷ xs ++ ys) ≡ cond b xs (n ∷ xs) ++ ys
    either true n xs ys = refl
    either false n xs ys = refl

without-here : (x : ℕ) (xs : List ℕ) → without x (x ∷ xs) ≡ without x xs
without-here x xs = ap (λ b. cond b (without x xs) (x ∷ without x xs)) (same x)

without-ring : (x node : ℕ) (queues : List (List ℕ)) → x < node →
    without x (queues_ring node queues) ≡ queues_ring node (map (without x) queues)
without-ring x node [] lt = refl
without-ring x node (l ∷ queues) lt =
    ap (λ b. cond b (without x (l ++ queues_ring (node + 1) queues)) (node ∷ without x (l ++ queues_ring (node + 1) queues)))
    (no_if (node == x) (other_node x node lt))
    ∙ ap (λ ys. node ∷ ys)
    (without-append x l (queues_ring (node + 1) queues)
    ∙ ap (λ ys. without x l ++ ys) (without-ring x (node + 1) queues (omega (arith, lt))))

-- where a place is in a list
pub record IsAt (x : ℕ) (xs : List ℕ) : Type 0 where
  pub front : List ℕ
  pub rest : List ℕ
  pub is : xs ≡ front ++ x ∷ rest

pub located : (x : ℕ) (xs : List ℕ) → 1 ≤ times x xs → IsAt x xs
located x [] there = absurd (omega (arith, there))
located x (n ∷ xs) there =
    ⊎_elim
    (λ (t : (eqb n x ≡ true) × (n ≡ x)). record { front = []; rest = xs; is = ap (λ k. k ∷ xs) t.1 })
    (λ (t : (eqb n x ≡ false) × (n ≢ x)).
    let other = ap one_if t.0 in let at = located x xs (omega (arith, there, other)) in
    record { front = n ∷ at.front; rest = at.rest; is = ap (λ ys. n ∷ ys) at.is })
    (eqb_tells n x)

left_at : (x : ℕ) (xs front rest : List ℕ) → xs ≡ front ++ x ∷ rest → times x xs ≡ 1 → without x xs ≡ front ++ rest
left_at x xs front rest is one =
    let all = ap (times x) is in let both = times-append x front (x ∷ rest) in let here = ap one_if (same x) in
    ap (without x) is ∙ without-append x front (x ∷ rest)
    ∙ ap (λ ys. without x front ++ ys)
    (without-here x rest ∙ without-none x rest (omega (arith, one, all, both, here)))
    ∙ ap (λ ys. ys ++ rest) (without-none x front (omega (arith, one, all, both, here)))

-- the ring without a place that is in a queue
pub taken_ring : (places x : ℕ) (free : List ℕ) (queues : List (List ℕ)) (at : IsAt x (ring_of places free queues)) →
    x < places → times x (ring_of places free queues) ≡ 1 → times x free ≡ 0 →
    at.front ++ at.rest ≡ ring_of places free (map (without x) queues)
taken_ring places x free queues at low one none =
    sym (left_at x (ring_of places free queues) at.front at.rest at.is one)
    ∙ without-append x free (queues_ring places queues)
    ∙ ap (λ ys. ys ++ without x (queues_ring places queues)) (without-none x free none)
    ∙ ap (λ ys. free ++ ys) (without-ring x places queues low)

-- places are below their number
pub below_put : (most x : ℕ) (us vs : List ℕ) → x < most → AreBelow most (us ++ vs) → AreBelow most (us ++ x ∷ vs)
below_put most x [] vs low all = (low, all)
below_put most x (u ∷ us) vs low all = (all.0, below_put most x us vs low all.1)

below_without : (most x : ℕ) (l : List ℕ) → AreBelow most l → AreBelow most (without x l)
below_without most x [] all = tt
below_without most x (n ∷ l) all = either (n == x) n (without x l) all.0 (below_without most x l all.1)
  where
    either : (b : Bool) (n : ℕ) (l : List ℕ) → n < most → AreBelow most l → AreBelow most (cond b l (n ∷ l))
    either true n l low rest = rest
    either false n l low rest = (low, rest)

pub all_set : (most : ℕ) (queues : List (List ℕ)) (q : ℕ) (new : List ℕ) → AllBelow most queues → AreBelow most new →
    AllBelow most (slice_set queues q new)
all_set most [] q new all low = tt
all_set most (l ∷ queues) zero new all low = (low, all.1)
all_set most (l ∷ queues) (suc q) new all low = (all.0, all_set most queues q new all.1 low)

pub all_get : (most : ℕ) (queues : List (List ℕ)) (q : ℕ) → AllBelow most queues → AreBelow most (queue_of queues q)
all_get most [] q all = tt
all_get most (l ∷ queues) zero all = all.0
all_get most (l ∷ queues) (suc q) all = all_get most queues q all.1

pub all_without : (most x : ℕ) (queues : List (List ℕ)) → AllBelow most queues → AllBelow most (map (without x) queues)
all_without most x [] all = tt
all_without most x (l ∷ queues) all = (below_without most x l all.0, all_without most x queues all.1)

pub below_at : (most : ℕ) (l : List ℕ) (k : ℕ) → k < length l → AreBelow most l → slice_index_or l k 0 < most
below_at most [] k lt all = absurd (omega (arith, lt))
below_at most (n ∷ l) zero lt all = all.0
below_at most (n ∷ l) (suc k) lt all = below_at most l k (omega (arith, lt)) all.1

none_past : (most x : ℕ) (l : List ℕ) → most ≤ x → AreBelow most l → times x l ≡ 0
none_past most x [] le all = refl
none_past most x (n ∷ l) le all =
    let rest = none_past most x l le all.1 in let low = all.0 in let other = far n x (omega (arith, low, le)) in
    omega (arith, rest, other)
  where
    far : (n x : ℕ) → n < x → one_if (n == x) ≡ 0
    far n x lt =
        ⊎_elim (λ (t : (eqb n x ≡ true) × (n ≡ x)). absurd (let is = t.1 in omega (arith, lt, is)))
        (λ (t : (eqb n x ≡ false) × (n ≢ x)). ap one_if t.0) (eqb_tells n x)

pub all_past : (most x : ℕ) (queues : List (List ℕ)) → most ≤ x → AllBelow most queues → times_in x queues ≡ 0
all_past most x [] le all = refl
all_past most x (l ∷ queues) le all =
    let here = none_past most x l le all.0 in let rest = all_past most x queues le all.1 in omega (arith, here, rest)

pub all_without-none : (x : ℕ) (queues : List (List ℕ)) → times_in x queues ≡ 0 → map (without x) queues ≡ queues
all_without-none x [] none = refl
all_without-none x (l ∷ queues) none =
    ap (λ k. k ∷ map (without x) queues) (without-none x l (omega (arith, none)))
    ∙ ap (λ r. l ∷ r) (all_without-none x queues (omega (arith, none)))

-- a place that is first in one queue alone is taken from this one
pub popped_at : (x : ℕ) (queues : List (List ℕ)) (q : ℕ) (rest : List ℕ) → times_in x queues ≡ 1 →
    queue_of queues q ≡ x ∷ rest → map (without x) queues ≡ slice_set queues q rest
popped_at x [] q rest one is = absurd (omega (arith, one))
popped_at x (l ∷ queues) zero rest one is =
    let here = ap one_if (same x) in let all = ap (times x) is in
    ap (λ k. without x k ∷ map (without x) queues) is
    ∙ ap (λ k. k ∷ map (without x) queues)
    (without-here x rest ∙ without-none x rest (omega (arith, one, here, all)))
    ∙ ap (λ r. rest ∷ r) (all_without-none x queues (omega (arith, one, here, all)))
popped_at x (l ∷ queues) (suc q) rest one is =
    let here = ap one_if (same x) in let all = ap (times x) is in let most = times_get x queues q in
    ap (λ k. k ∷ map (without x) queues) (without-none x l (omega (arith, one, here, all, most)))
    ∙ ap (λ r. l ∷ r) (popped_at x queues q rest (omega (arith, one, here, all, most)) is)
