-- Paths along links, and what becomes of them as a node is taken out and put elsewhere.
use Rattle.std.proofs.Common.{arith, ap, refl, subst, sym, ◌∙◌, ◌≢◌}
use Rattle.std.proofs.lemmas.List.{append-nil, append_assoc, get_or-set_other, get_or-set_same, length-set, reverse-append, reverse-reverse}
use Rattle.std.specs.Prelude.{◌≡◌, ◌<◌, ◌≤◌, ℕ, ◌+◌, ◌==◌, List, [], ◌∷◌, ◌++◌, length, reverse}
use Rattle.std.specs.List.{slice_set}
use Rattle.io_rules.specs.Room.{one_if}
use Rattle.io_rules.proofs.TotalLemmas.{same}
use Rattle.io_queues.specs.Linked.{IsPath, first_or, linked, put_between, taken_out, times}

abbrev pub last_or : List ℕ → ℕ → ℕ
last_or [] other = other
last_or (node ∷ nodes) other = last_or nodes node

-- each node at most once
abbrev pub Once : List ℕ → Type 0
Once nodes = (n : ℕ) → times n nodes ≤ 1

pub differ : (m n : ℕ) → one_if (m == n) ≡ 0 → m ≢ n
differ m n none is =
    let one = ap one_if (same n) in let zero = subst (λ k. one_if (k == n) ≡ 0) is none in absurd (omega (arith, one, zero))

pub times-append : (n : ℕ) (xs ys : List ℕ) → times n (xs ++ ys) ≡ times n xs + times n ys
times-append n [] ys = omega arith
times-append n (x ∷ xs) ys = let rest = times-append n xs ys in omega (arith, rest)

pub reverse-cons : (x : ℕ) (xs : List ℕ) → reverse (x ∷ xs) ≡ reverse xs ++ x ∷ []
reverse-cons x xs = reverse-append (x ∷ []) xs

pub times-reverse : (n : ℕ) (xs : List ℕ) → times n (reverse xs) ≡ times n xs
times-reverse n [] = refl
times-reverse n (x ∷ xs) =
    let turned = ap (times n) (reverse-cons x xs) ∙ times-append n (reverse xs) (x ∷ []) in
    let rest = times-reverse n xs in
    omega (arith, turned, rest)

pub turned_round : (xs : List ℕ) (x : ℕ) (ys : List ℕ) → reverse (xs ++ x ∷ ys) ≡ reverse ys ++ x ∷ reverse xs
turned_round xs x ys =
    reverse-append xs (x ∷ ys) ∙ ap (λ zs. zs ++ reverse xs) (reverse-cons x ys) ∙ append_assoc (reverse ys) (x ∷ []) (reverse xs)

last-push : (xs : List ℕ) (x e : ℕ) → last_or (xs ++ x ∷ []) e ≡ x
last-push [] x e = refl
last-push (y ∷ xs) x e = last-push xs x y

pub last-reverse : (xs : List ℕ) (e : ℕ) → last_or (reverse xs) e ≡ first_or xs e
last-reverse [] e = refl
last-reverse (x ∷ xs) e = ap (λ ys. last_or ys e) (reverse-cons x xs) ∙ last-push (reverse xs) x e

pub first-reverse : (xs : List ℕ) (e : ℕ) → first_or (reverse xs) e ≡ last_or xs e
first-reverse xs e = sym (last-reverse (reverse xs) e) ∙ ap (λ ys. last_or ys e) (reverse-reverse xs)

pub last_in : (a : ℕ) (xs : List ℕ) → 1 ≤ times (last_or xs a) (a ∷ xs)
last_in a [] = let one = ap one_if (same a) in omega (arith, one)
last_in a (x ∷ xs) = let rest = last_in x xs in omega (arith, rest)

-- a link that changes elsewhere
set_else : (f : List ℕ) (n v a : ℕ) → one_if (a == n) ≡ 0 → linked (slice_set f n v) a ≡ linked f a
set_else f n v a none = get_or-set_other f n a v 0 (differ a n none)

kept : (f : List ℕ) (n v a : ℕ) (xs : List ℕ) (b : ℕ) → times n (a ∷ xs) ≡ 0 → IsPath f a xs b →
    IsPath (slice_set f n v) a xs b
kept f n v a [] b none path = set_else f n v a (omega (arith, none)) ∙ path
kept f n v a (x ∷ xs) b none path =
    (set_else f n v a (omega (arith, none)) ∙ path.0, kept f n v x xs b (omega (arith, none)) path.1)

-- the last link of a path leads elsewhere
turned : (f : List ℕ) (v a : ℕ) (xs : List ℕ) (b : ℕ) → Once (a ∷ xs) → last_or xs a < length f →
    IsPath f a xs b → IsPath (slice_set f (last_or xs a) v) a xs v
turned f v a [] b once within path = get_or-set_same f a v 0 within
turned f v a (x ∷ xs) b once within path = (
  (let there = last_in x xs in let all = once (last_or xs x) in
      set_else f (last_or xs x) v a (omega (arith, there, all))) ∙ path.0,
  turned f v x xs b (λ n. let all = once n in omega (arith, all)) within path.1,
)

pub split : (f : List ℕ) (a : ℕ) (xs : List ℕ) (x : ℕ) (ys : List ℕ) (b : ℕ) → IsPath f a (xs ++ x ∷ ys) b →
    IsPath f a xs x × IsPath f x ys b
split f a [] x ys b path = path
split f a (y ∷ xs) x ys b path = let rest = split f y xs x ys b path.1 in ((path.0, rest.0), rest.1)

joined : (f : List ℕ) (a : ℕ) (xs : List ℕ) (x : ℕ) (ys : List ℕ) (b : ℕ) → IsPath f a xs x → IsPath f x ys b →
    IsPath f a (xs ++ x ∷ ys) b
joined f a [] x ys b one other = (one, other)
joined f a (y ∷ xs) x ys b one other = (one.0, joined f y xs x ys b one.1 other)

spliced : (f : List ℕ) (a : ℕ) (xs : List ℕ) (x : ℕ) (ys : List ℕ) (b : ℕ) → IsPath f a xs (first_or ys b) →
    IsPath f x ys b → IsPath f a (xs ++ ys) b
spliced f a xs x [] b one other = subst (λ zs. IsPath f a zs b) (sym (append-nil xs)) one
spliced f a xs x (y ∷ ys) b one other = joined f a xs y ys b one other.1

pub parted : (f : List ℕ) (a : ℕ) (xs ys : List ℕ) (b : ℕ) → IsPath f a (xs ++ ys) b →
    IsPath f a xs (first_or ys b) × IsPath f (last_or xs a) ys b
parted f a [] [] b path = (path, path)
parted f a [] (y ∷ ys) b path = (path.0, path)
parted f a (x ∷ xs) ys b path = let rest = parted f x xs ys b path.1 in ((path.0, rest.0), rest.1)

pub headed : (f : List ℕ) (a : ℕ) (xs : List ℕ) (b : ℕ) → IsPath f a xs b → linked f a ≡ first_or xs b
headed f a [] b path = path
headed f a (x ∷ xs) b path = path.0

-- a node is taken out of a path
out : (f : List ℕ) (a : ℕ) (xs : List ℕ) (x : ℕ) (ys : List ℕ) (b : ℕ) → Once (a ∷ xs ++ x ∷ ys) →
    last_or xs a < length f → IsPath f a (xs ++ x ∷ ys) b →
    IsPath (slice_set f (last_or xs a) (first_or ys b)) a (xs ++ ys) b
out f a xs x ys b once within path =
    let both = split f a xs x ys b path in
    let one = turned f (first_or ys b) a xs x (λ n. let all = once n in let apart = times-append n xs (x ∷ ys) in
    omega (arith, all, apart)) within both.0 in
    let there = last_in a xs in let all = once (last_or xs a) in let apart = times-append (last_or xs a) xs (x ∷ ys) in
    let other = kept f (last_or xs a) (first_or ys b) x ys b (omega (arith, there, all, apart)) both.1 in
    spliced _ a xs x ys b one other

-- what comes behind a node whose link is changed
behind : (f : List ℕ) (l x v w : ℕ) (ys : List ℕ) (b : ℕ) → x < length f → w ≡ first_or ys b →
    times l ys ≡ 0 → times x ys ≡ 0 → IsPath f l ys b →
    IsPath (slice_set (slice_set f l v) x w) x ys b
behind f l x v w [] b within is far other path =
    get_or-set_same (slice_set f l v) x w 0 (let many = length-set f l v in omega (arith, many, within)) ∙ is
behind f l x v w (y ∷ ys) b within is far other path = (
  get_or-set_same (slice_set f l v) x w 0 (let many = length-set f l v in omega (arith, many, within)) ∙ is,
  kept (slice_set f l v) x w y ys b other (kept f l v y ys b far path.1),
)

-- a node is put into a path
put : (f : List ℕ) (a : ℕ) (xs : List ℕ) (x : ℕ) (ys : List ℕ) (b : ℕ) → Once (a ∷ xs ++ x ∷ ys) →
    last_or xs a < length f → x < length f → IsPath f a (xs ++ ys) b →
    IsPath (slice_set (slice_set f (last_or xs a) x) x (first_or ys b)) a (xs ++ x ∷ ys) b
put f a xs x ys b once within inside path =
    let both = parted f a xs ys b path in
    let one = turned f x a xs (first_or ys b) (λ n. let all = once n in let apart = times-append n xs (x ∷ ys) in
    omega (arith, all, apart)) within both.0 in
    let there = last_in a xs in let all = once (last_or xs a) in let apart = times-append (last_or xs a) xs (x ∷ ys) in
    let here = ap one_if (same x) in let each = once x in let cut = times-append x xs (x ∷ ys) in
    joined _ a xs x ys b
    (kept (slice_set f (last_or xs a) x) x (first_or ys b) a xs x (omega (arith, here, each, cut)) one)
    (behind f (last_or xs a) x x (first_or ys b) ys b inside refl (omega (arith, there, all, apart))
    (omega (arith, here, each, cut)) both.1)

-- a node taken out of a ring, by its links to both sides
pub is_out : (f g : List ℕ) (e : ℕ) (xs : List ℕ) (x : ℕ) (ys : List ℕ) → Once (e ∷ xs ++ x ∷ ys) →
    last_or xs e < length f → linked g x ≡ last_or xs e → IsPath f e (xs ++ x ∷ ys) e →
    IsPath (taken_out x f g) e (xs ++ ys) e
unfolding taken_out
is_out f g e xs x ys once within back path =
    let ahead = headed f x ys e (split f e xs x ys e path).1 in
    rw (back, ahead) (out f e xs x ys e once within path)

pub is_put : (f : List ℕ) (e c y : ℕ) (xs : List ℕ) (x : ℕ) (ys : List ℕ) → Once (e ∷ xs ++ x ∷ ys) →
    last_or xs e < length f → x < length f → c ≡ last_or xs e → y ≡ first_or ys e → IsPath f e (xs ++ ys) e →
    IsPath (put_between c x y f) e (xs ++ x ∷ ys) e
unfolding put_between
is_put f e c y xs x ys once within inside last first path =
    rw (last, first) (put f e xs x ys e once within inside path)
