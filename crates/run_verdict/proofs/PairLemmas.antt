-- Two tables that say the same.
use Rattle.std.proofs.Common.{◌≡◌, ℕ, refl, ap, sym, ◌∙◌, ⊎_elim}
use Rattle.std.proofs.lemmas.Bool.{cases_Bool, eqb-true, eq-eqb}
use Rattle.std.specs.Prelude.{true, false, ◌==◌, if◌then◌else◌, Option, Some, None}

none_some : (n : ℕ) → None ≡ Some n → ⊥
none_some n e = cc

some_is : (a b : ℕ) → Some a ≡ Some b → a ≡ b
some_is a b e = cc

true_false : true ≡ false → ⊥
true_false e = cc

-- what the first says, the second one says
abbrev pub Finds : (ℕ → Option ℕ) → (ℕ → Option ℕ) → Type 0
Finds f g = (x y : ℕ) → f x ≡ Some y → g y ≡ Some x

pub put_finds : (f h g k : ℕ → Option ℕ) (a b : ℕ) → Finds f g → g b ≡ None → ((q : ℕ) → h q ≡ (if a == q then Some b else f q))
    → ((q : ℕ) → k q ≡ (if b == q then Some a else g q)) → Finds h k
put_finds f h g k a b finds absent hs ks x y is =
    ⊎_elim
    (λ (here : (a == x) ≡ true).
    let own : h x ≡ Some b = hs x ∙ rw here refl in
    let same : b ≡ y = some_is b y (sym own ∙ is) in
    let test : (b == y) ≡ true = eq-eqb b y same in
    let there : k y ≡ Some a = ks y ∙ rw test refl in
    there ∙ ap Some (eqb-true a x here))
    (λ (apart : (a == x) ≡ false).
    let own : h x ≡ f x = hs x ∙ rw apart refl in
    let before : g y ≡ Some x = finds x y (sym own ∙ is) in
    ⊎_elim (λ (same : (b == y) ≡ true). absurd (none_some x (sym absent ∙ ap g (eqb-true b y same) ∙ before)))
    (λ (ne : (b == y) ≡ false). let there : k y ≡ g y = ks y ∙ rw ne refl in there ∙ before) (cases_Bool (b == y)))
    (cases_Bool (a == x))

pub take_finds : (f h g k : ℕ → Option ℕ) (a b : ℕ) → Finds f g → f a ≡ Some b → ((q : ℕ) → h q ≡ (if a == q then None else f q))
    → ((q : ℕ) → k q ≡ (if b == q then None else g q)) → Finds h k
take_finds f h g k a b finds stood hs ks x y is =
    ⊎_elim
    (λ (here : (a == x) ≡ true). let own : h x ≡ None = hs x ∙ rw here refl in absurd (none_some y (sym own ∙ is)))
    (λ (apart : (a == x) ≡ false).
    let own : h x ≡ f x = hs x ∙ rw apart refl in
    let before : g y ≡ Some x = finds x y (sym own ∙ is) in
    ⊎_elim
    (λ (same : (b == y) ≡ true).
    let mine : g y ≡ Some a = ap g (sym (eqb-true b y same)) ∙ finds a b stood in
    absurd (true_false (sym (eq-eqb a x (some_is a x (sym mine ∙ before))) ∙ apart)))
    (λ (ne : (b == y) ≡ false). let there : k y ≡ g y = ks y ∙ rw ne refl in there ∙ before) (cases_Bool (b == y)))
    (cases_Bool (a == x))
