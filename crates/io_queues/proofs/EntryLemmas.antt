-- The entries of a list of places, as items come and go.
use Rattle.std.proofs.Common.{arith, ap, eqb, refl, sym, ◌∙◌, ⊎_elim, ◌≢◌}
use Rattle.std.proofs.lemmas.Bool.{cases_lt, true≢false}
use Rattle.std.proofs.lemmas.Bool.Decides.{eqb_tells}
use Rattle.std.proofs.lemmas.List.{get_or-set_other}
use Rattle.std.specs.Prelude.{◌≡◌, ◌<◌, ◌≤◌, ℕ, zero, suc, ◌==◌, Bool, true, false, cond, List, [], ◌∷◌, ◌++◌, Option, Some, None, drop, length, map, take}
use Rattle.std.specs.List.{slice_index_or, slice_set}
use Rattle.std.specs.Option.{is_some}
use Rattle.io_rules.specs.Room.{one_if}
use Rattle.io_rules.proofs.TotalLemmas.{same}
use Rattle.io_queues.specs.Linked.{entries_at, entry_of, times}
use Rattle.io_queues.specs.Queued.{Entry, first_of, found, found_in, others}
use Rattle.io_queues.proofs.PathLemmas.{differ}
use Rattle.io_queues.proofs.PartLemmas.{no_if, times_in, without}

abbrev pub item_of : {T : Type 0} → List (Option T) → ℕ → Option T
item_of items n = slice_index_or items n None

pub entries-kept : {T : Type 0} (items : List (Option T)) (x : ℕ) (v : Option T) (l : List ℕ) → times x l ≡ 0 →
    entries_at (slice_set items x v) l ≡ entries_at items l
entries-kept items x v [] none = refl
entries-kept items x v (p ∷ l) none =
    ap (λ o. entry_of p o (entries_at (slice_set items x v) l))
    (get_or-set_other items x p v None (differ p x (omega (arith, none))))
    ∙ ap (entry_of p (item_of items p)) (entries-kept items x v l (omega (arith, none)))

pub all-kept : {T : Type 0} (items : List (Option T)) (x : ℕ) (v : Option T) (queues : List (List ℕ)) →
    times_in x queues ≡ 0 → map (entries_at (slice_set items x v)) queues ≡ map (entries_at items) queues
all-kept items x v [] none = refl
all-kept items x v (l ∷ queues) none =
    ap (λ es. es ∷ map (entries_at (slice_set items x v)) queues) (entries-kept items x v l (omega (arith, none)))
    ∙ ap (λ r. entries_at items l ∷ r) (all-kept items x v queues (omega (arith, none)))

entry-append : {T : Type 0} (p : ℕ) (o : Option T) (xs ys : List (Entry T)) →
    entry_of p o (xs ++ ys) ≡ entry_of p o xs ++ ys
entry-append p None xs ys = refl
entry-append p (Some item) xs ys = refl

pub entries-append : {T : Type 0} (items : List (Option T)) (us vs : List ℕ) →
    entries_at items (us ++ vs) ≡ entries_at items us ++ entries_at items vs
entries-append items [] vs = refl
entries-append items (u ∷ us) vs =
    ap (entry_of u (item_of items u)) (entries-append items us vs)
    ∙ entry-append u (item_of items u) (entries_at items us) (entries_at items vs)

-- one more, where there is an item for it
pub entries-put : {T : Type 0} (items : List (Option T)) (us : List ℕ) (x : ℕ) (vs : List ℕ) (item : T) →
    item_of items x ≡ Some item →
    entries_at items (us ++ x ∷ vs)
    ≡ entries_at items us ++ record { place = x; item = item } ∷ entries_at items vs
entries-put items us x vs item is =
    entries-append items us (x ∷ vs) ∙ ap (λ o. entries_at items us ++ entry_of x o (entries_at items vs)) is

all_one : {A : Type 0} (b : Bool) (a : A) → cond b a a ≡ a
all_one true a = refl
all_one false a = refl

entry-others : {T : Type 0} (x n : ℕ) (o : Option T) (es : List (Entry T)) →
    others x (entry_of n o es) ≡ cond (n == x) (others x es) (entry_of n o (others x es))
entry-others x n None es = sym (all_one (n == x) (others x es))
entry-others x n (Some item) es = refl

entries-cond : {T : Type 0} (items : List (Option T)) (b : Bool) (n : ℕ) (l : List ℕ) →
    entries_at items (cond b l (n ∷ l)) ≡ cond b (entries_at items l) (entry_of n (item_of items n) (entries_at items l))
entries-cond items true n l = refl
entries-cond items false n l = refl

entries-others : {T : Type 0} (items : List (Option T)) (x : ℕ) (l : List ℕ) →
    entries_at items (without x l) ≡ others x (entries_at items l)
entries-others items x [] = refl
entries-others items x (n ∷ l) =
    entries-cond items (n == x) n (without x l)
    ∙ ap (λ es. cond (n == x) es (entry_of n (item_of items n) es)) (entries-others items x l)
    ∙ sym (entry-others x n (item_of items n) (entries_at items l))

pub all-others : {T : Type 0} (items : List (Option T)) (x : ℕ) (queues : List (List ℕ)) →
    map (entries_at items) (map (without x) queues) ≡ map (others x) (map (entries_at items) queues)
all-others items x [] = refl
all-others items x (l ∷ queues) =
    ap (λ es. es ∷ map (entries_at items) (map (without x) queues)) (entries-others items x l)
    ∙ ap (λ r. others x (entries_at items l) ∷ r) (all-others items x queues)

-- what is found at a place
entry-found : {T : Type 0} (x n : ℕ) (o : Option T) (es : List (Entry T)) →
    found_in x (entry_of n o es) ≡ cond (n == x) (first_of o (found_in x es)) (found_in x es)
entry-found x n None es = sym (all_one (n == x) (found_in x es))
entry-found x n (Some item) es = refl

first_none : {T : Type 0} (o : Option T) → first_of o None ≡ o
first_none None = refl
first_none (Some item) = refl

found-none : {T : Type 0} (items : List (Option T)) (x : ℕ) (l : List ℕ) → times x l ≡ 0 →
    found_in x (entries_at items l) ≡ None
found-none items x [] none = refl
found-none items x (n ∷ l) none =
    entry-found x n (item_of items n) (entries_at items l)
    ∙ ap (λ b. cond b (first_of (item_of items n) (found_in x (entries_at items l))) (found_in x (entries_at items l)))
    (no_if (n == x) (omega (arith, none)))
    ∙ found-none items x l (omega (arith, none))

found-one : {T : Type 0} (items : List (Option T)) (x : ℕ) (l : List ℕ) → times x l ≡ 1 →
    found_in x (entries_at items l) ≡ item_of items x
found-one items x [] one = absurd (omega (arith, one))
found-one items x (n ∷ l) one =
    entry-found x n (item_of items n) (entries_at items l)
    ∙ ⊎_elim
    (λ (t : (eqb n x ≡ true) × (n ≡ x)).
    let here = ap one_if t.0 in
    ap (λ b. cond b (first_of (item_of items n) (found_in x (entries_at items l))) (found_in x (entries_at items l))) t.0
    ∙ ap (first_of (item_of items n)) (found-none items x l (omega (arith, one, here)))
    ∙ first_none (item_of items n) ∙ ap (item_of items) t.1)
    (λ (t : (eqb n x ≡ false) × (n ≢ x)).
    let here = ap one_if t.0 in
    ap (λ b. cond b (first_of (item_of items n) (found_in x (entries_at items l))) (found_in x (entries_at items l))) t.0
    ∙ found-one items x l (omega (arith, one, here)))
    (eqb_tells n x)

pub none_found : {T : Type 0} (items : List (Option T)) (x : ℕ) (queues : List (List ℕ)) → times_in x queues ≡ 0 →
    found x (map (entries_at items) queues) ≡ None
none_found items x [] none = refl
none_found items x (l ∷ queues) none =
    ap (λ o. first_of o (found x (map (entries_at items) queues))) (found-none items x l (omega (arith, none)))
    ∙ none_found items x queues (omega (arith, none))

pub one_found : {T : Type 0} (items : List (Option T)) (x : ℕ) (queues : List (List ℕ)) → times_in x queues ≡ 1 →
    found x (map (entries_at items) queues) ≡ item_of items x
one_found items x [] one = absurd (omega (arith, one))
one_found items x (l ∷ queues) one =
    ⊎_elim
    (λ (there : 0 < times x l).
    ap (λ o. first_of o (found x (map (entries_at items) queues))) (found-one items x l (omega (arith, one, there)))
    ∙ ap (first_of (item_of items x)) (none_found items x queues (omega (arith, one, there)))
    ∙ first_none (item_of items x))
    (λ (none : times x l ≤ 0).
    ap (λ o. first_of o (found x (map (entries_at items) queues))) (found-none items x l (omega (arith, none)))
    ∙ one_found items x queues (omega (arith, one, none)))
    (cases_lt 0 (times x l))

-- there is an item for each
abbrev pub AreThere : {T : Type 0} → List (Option T) → List ℕ → Type 0
AreThere items [] = Unit {0}
AreThere items (p ∷ l) = (is_some (item_of items p) ≡ true) × AreThere items l

pub are_there : {T : Type 0} (items : List (Option T)) (l : List ℕ) →
    ((p : ℕ) → 1 ≤ times p l → is_some (item_of items p) ≡ true) → AreThere items l
are_there items [] each = tt
are_there items (p ∷ l) each = (
  each p (let here = ap one_if (same p) in omega (arith, here)),
  are_there items l (λ n there. each n (omega (arith, there))),
)

pub entries-take : {T : Type 0} (items : List (Option T)) (l : List ℕ) (k : ℕ) → AreThere items l →
    entries_at items (take k l) ≡ take k (entries_at items l)
entries-take items l zero there = refl
entries-take items [] (suc k) there = refl
entries-take items (p ∷ l) (suc k) there =
    one_taken p (item_of items p) k (entries_at items (take k l)) (entries_at items l) there.0
    (entries-take items l k there.1)
  where
    one_taken : {T : Type 0} (p : ℕ) (o : Option T) (k : ℕ) (front es : List (Entry T)) → is_some o ≡ true →
        front ≡ take k es → entry_of p o front ≡ take (suc k) (entry_of p o es)
    one_taken p None k front es is rest = absurd (true≢false (sym is))
    one_taken p (Some item) k front es is rest = ap (λ xs. record { place = p; item = item } ∷ xs) rest

pub entries-drop : {T : Type 0} (items : List (Option T)) (l : List ℕ) (k : ℕ) → AreThere items l →
    entries_at items (drop k l) ≡ drop k (entries_at items l)
entries-drop items l zero there = refl
entries-drop items [] (suc k) there = refl
entries-drop items (p ∷ l) (suc k) there =
    one_dropped p (item_of items p) k (entries_at items (drop k l)) (entries_at items l) there.0
    (entries-drop items l k there.1)
  where
    one_dropped : {T : Type 0} (p : ℕ) (o : Option T) (k : ℕ) (front es : List (Entry T)) → is_some o ≡ true →
        front ≡ drop k es → front ≡ drop (suc k) (entry_of p o es)
    one_dropped p None k front es is rest = absurd (true≢false (sym is))
    one_dropped p (Some item) k front es is rest = rest

pub length-entries : {T : Type 0} (items : List (Option T)) (l : List ℕ) → AreThere items l →
    length (entries_at items l) ≡ length l
length-entries items [] there = refl
length-entries items (p ∷ l) there = one_more p (item_of items p) (entries_at items l) (length l) there.0 (length-entries items l there.1)
  where
    one_more : {T : Type 0} (p : ℕ) (o : Option T) (es : List (Entry T)) (n : ℕ) → is_some o ≡ true → length es ≡ n →
        length (entry_of p o es) ≡ suc n
    one_more p None es n is rest = absurd (true≢false (sym is))
    one_more p (Some item) es n is rest = ap suc rest
