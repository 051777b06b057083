-- What is known of all that a reader gives.
use Rattle.std.proofs.Common.{◌≡◌, ℕ, zero, suc, ◌+◌, ◌*◌, ◌/◌, ◌<◌, ◌≤◌, Bool, true, false, not, cond, ◌&&◌, ◌||◌, ◌⊎◌, List, [], ◌∷◌, length, drop, Result, Ok, Err, Some, None, refl, sym, arith, length-drop}
use Rattle.std.specs.Prelude.{nat_lt, nat_le, nat_eq, IfSome}
use Rattle.std.proofs.lemmas.Bool.Decides.{nat_tests}
use Rattle.std.specs.Str.{bytes_eq}
use lib.Chars.{codes}
use Rattle.session_script.specs.declared.refusal.Rule.{Rule}
use Rattle.session_script.specs.declared.refusal.Refusal.{Refusal}
use Rattle.session_script.specs.Tokens.{Tokens, end, token, token_count}
use Rattle.session_script.specs.Kinds as kinds
use Rattle.session_script.specs.Kinds.{is_data, number, within, known, chosen, version, data_digits, decoded, another_word, exactly}
use Rattle.session_script.specs.Productions.{and_then, ◌>>=◌, done, judged, one, many, repeated, another, bounded, declared_number, optional, bytes}
use Rattle.session_script.specs.WellFormed.{IsSize}

-- of a test
abbrev pub Passes : {A : Type 0} → (A → Type 0) → Result A Rule → Type 0
Passes P (Ok value) = P value
Passes P (Err violated) = Unit {0}

-- of what was read
abbrev pub Holds : {A : Type 0} → (A → Type 0) → Result (A × Tokens) Refusal → Type 0
Holds P (Ok read) = P read.0
Holds P (Err refusal) = Unit {0}

pub record Reads {A : Type 0} (P : A → Type 0) (r : Tokens → Result (A × Tokens) Refusal) : Type 0 where
  pub holds : (ts : Tokens) → Holds P (r ts)

pub done_reads : {A : Type 0} {P : A → Type 0} {value : A} → P value → Reads P (done value)
done_reads p = record { holds = λ ts. p }

then_holds : {A B : Type 0} (P : A → Type 0) (Q : B → Type 0) (r : Result (A × Tokens) Refusal)
    (f : A → Tokens → Result (B × Tokens) Refusal) → Holds P r → ((a : A) → P a → Reads Q (f a)) →
    Holds Q (and_then r f)
then_holds P Q (Ok read) f p next = (next read.0 p).holds read.1
then_holds P Q (Err refusal) f p next = tt

pub then_reads : {A B : Type 0} {P : A → Type 0} {Q : B → Type 0} {r : Tokens → Result (A × Tokens) Refusal}
    {f : A → Tokens → Result (B × Tokens) Refusal} → Reads P r → ((a : A) → P a → Reads Q (f a)) → Reads Q (r >>= f)
then_reads {P = P} {Q = Q} {r = r} {f = f} first next =
    record { holds = λ ts. then_holds P Q (r ts) f (first.holds ts) next }

judged_holds : {A : Type 0} (P : A → Type 0) (test : Result A Rule) (at : _) (rest : Tokens) → Passes P test →
    Holds P (judged test at rest)
judged_holds P (Ok value) at rest p = p
judged_holds P (Err _) at rest p = tt

one_holds : {A : Type 0} (P : A → Type 0) (test : List ℕ → Result A Rule) → ((bs : List ℕ) → Passes P (test bs)) →
    (ts : Tokens) → Holds P (one test ts)
one_holds P test passes (end at) = tt
one_holds P test passes (token bs at rest) = judged_holds P (test bs) at rest (passes bs)

pub one_reads : {A : Type 0} {P : A → Type 0} (test : List ℕ → Result A Rule) → ((bs : List ℕ) → Passes P (test bs)) →
    Reads P (one test)
one_reads {P = P} test passes = record { holds = one_holds P test passes }

weaker_holds : {A : Type 0} (P Q : A → Type 0) (r : Result (A × Tokens) Refusal) → ((a : A) → P a → Q a) → Holds P r →
    Holds Q r
weaker_holds P Q (Ok read) less p = less read.0 p
weaker_holds P Q (Err refusal) less p = tt

pub weaker : {A : Type 0} (P Q : A → Type 0) {r : Tokens → Result (A × Tokens) Refusal} → ((a : A) → P a → Q a) →
    Reads P r → Reads Q r
weaker P Q {r = r} less reads = record { holds = λ ts. weaker_holds P Q (r ts) less (reads.holds ts) }

-- nothing is known
pub any_reads : {A : Type 0} (r : Tokens → Result (A × Tokens) Refusal) → Reads (λ a. Unit {0}) r
any_reads r = record { holds = λ ts. nothing (r ts) }
  where
    nothing : {A : Type 0} (r : Result (A × Tokens) Refusal) → Holds (λ a. Unit {0}) r
    nothing (Ok read) = tt
    nothing (Err refusal) = tt

choice_holds : {A : Type 0} (P : A → Type 0) (test : Bool) (r s : Result (A × Tokens) Refusal) → Holds P r → Holds P s →
    Holds P (cond test r s)
choice_holds P true r s first second = first
choice_holds P false r s first second = second

pub if_reads : {A : Type 0} {P : A → Type 0} {r : Tokens → Result (A × Tokens) Refusal} (test : Tokens → Bool)
    (value : A) → P value → Reads P r → Reads P (λ ts. cond (test ts) (r ts) (Ok (value, ts)))
if_reads {P = P} {r = r} test value p reads =
    record { holds = λ ts. choice_holds P (test ts) (r ts) (Ok (value, ts)) (reads.holds ts) p }

pub else_reads : {A : Type 0} {P : A → Type 0} {r : Tokens → Result (A × Tokens) Refusal} (test : Tokens → Bool)
    (value : A) → P value → Reads P r → Reads P (λ ts. cond (test ts) (Ok (value, ts)) (r ts))
else_reads {P = P} {r = r} test value p reads =
    record { holds = λ ts. choice_holds P (test ts) (Ok (value, ts)) (r ts) p (reads.holds ts) }

many_reads : {S : Type 0} (P : S → Type 0) (more : Tokens → Bool) (reader : S → Tokens → Result (S × Tokens) Refusal) →
    ((s : S) → P s → Reads P (reader s)) → (fuel : ℕ) (s : S) → P s → Reads P (many more reader fuel s)
many_reads P more reader keeps zero s p = record { holds = λ ts. p }
many_reads P more reader keeps (suc fuel) s p =
    record {
      holds = λ ts.
          choice_holds P (more ts) (and_then (reader s ts) (many more reader fuel)) (Ok (s, ts))
          (then_holds P P (reader s ts) (many more reader fuel) ((keeps s p).holds ts)
          (many_reads P more reader keeps fuel)) p;
    }

-- what each turn keeps is kept by all
pub repeated_reads : {S : Type 0} (P : S → Type 0) (more : Tokens → Bool)
    (reader : S → Tokens → Result (S × Tokens) Refusal) → ((s : S) → P s → Reads P (reader s)) → (s : S) → P s →
    Reads P (repeated more reader s)
unfolding repeated
repeated_reads P more reader keeps s p =
    record { holds = λ ts. (many_reads P more reader keeps (token_count ts) s p).holds ts }

bind_passes : {A B : Type 0} (P : A → Type 0) (Q : B → Type 0) (r : Result A Rule) (f : A → Result B Rule) →
    Passes P r → ((a : A) → P a → Passes Q (f a)) → Passes Q (kinds.◌>>=◌ r f)
bind_passes P Q (Ok value) f p next = next value p
bind_passes P Q (Err _) f p next = tt

any_passes : {A : Type 0} (r : Result A Rule) → Passes (λ a. Unit {0}) r
any_passes (Ok value) = tt
any_passes (Err _) = tt

-- a test that a value has to pass
guard_passes : {A : Type 0} (P : A → Type 0) (test : Bool) (value : A) (violated : Rule) → (test ≡ true → P value) →
    Passes P (cond test (Ok value) (Err violated))
guard_passes P true value violated p = p refl
guard_passes P false value violated p = tt

-- a test that refuses
bar_passes : {A : Type 0} (P : A → Type 0) (test : Bool) (r : Result A Rule) (violated : Rule) →
    (test ≡ false → Passes P r) → Passes P (cond test (Err violated) r)
bar_passes P true r violated p = tt
bar_passes P false r violated p = p refl

is_less : (a b : ℕ) → nat_lt a b ≡ true → a < b
is_less a b h = grind (arith, nat_tests)

pub both : (a b : Bool) → (a && b) ≡ true → (a ≡ true) × (b ≡ true)
both true true h = (refl, refl)
both true false h = (refl, h)
both false b h = (h, absurd (cc))

is_between : (least most n : ℕ) → (nat_le least n && nat_le n most) ≡ true → (least ≤ n) × (n ≤ most)
is_between least most n h =
    let p = both (nat_le least n) (nat_le n most) h in (grind (arith, nat_tests, p.0), grind (arith, nat_tests, p.1))

pub bounded_reads : (least most : ℕ) → Reads (λ n. (least ≤ n) × (n ≤ most)) (bounded least most)
unfolding bounded within
bounded_reads least most =
    one_reads (within least most) (λ bs.
    bind_passes (λ n. Unit {0}) (λ n. (least ≤ n) × (n ≤ most)) (number bs) _ (any_passes (number bs))
    (λ n _.
    guard_passes (λ n. (least ≤ n) × (n ≤ most)) (nat_le least n && nat_le n most) n _
    (is_between least most n)))

known_passes : (count : ℕ) (bs : List ℕ) → Passes (λ n. n < count) (known count bs)
unfolding known
known_passes count bs =
    bind_passes (λ n. Unit {0}) (λ n. n < count) (number bs) _ (any_passes (number bs))
    (λ n _. guard_passes (λ n. n < count) (nat_lt n count) n _ (is_less n count))

pub declared_reads : (count : ℕ) → Reads (λ n. n < count) (declared_number count)
unfolding declared_number
declared_reads count = one_reads (known count) (known_passes count)

option_passes : (count : ℕ) (test : Bool) (bs : List ℕ) →
    Passes (λ o. IfSome o (λ n. n < count)) (cond test (Ok None) (kinds.◌>>=◌ (known count bs) (λ n. Ok (Some n))))
option_passes count true bs = tt
option_passes count false bs =
    bind_passes (λ n. n < count) (λ o. IfSome o (λ n. n < count)) (known count bs) (λ n. Ok (Some n))
    (known_passes count bs) (λ n lt. lt)

pub optional_reads : (count : ℕ) → Reads (λ o. IfSome o (λ n. n < count)) (optional count)
unfolding optional chosen
optional_reads count = one_reads (chosen count) (λ bs. option_passes count (bytes_eq bs (codes "-")) bs)

version_choice : (n : ℕ) → (nat_eq n 1 || nat_eq n 2) ≡ true → (n ≡ 1) ⊎ (n ≡ 2)
version_choice n h = grind (arith, nat_tests)

pub version_reads : Reads (λ n. (n ≡ 1) ⊎ (n ≡ 2)) (one version)
unfolding version
version_reads =
    one_reads version (λ bs.
    bind_passes (λ n. Unit {0}) (λ n. (n ≡ 1) ⊎ (n ≡ 2)) (number bs) _ (any_passes (number bs))
    (λ n _. guard_passes (λ n. (n ≡ 1) ⊎ (n ≡ 2)) (nat_eq n 1 || nat_eq n 2) n _ (version_choice n)))

-- one more of something begins only where there is room
pub another_reads : (text : List ℕ) (full : Bool) → Reads (λ u. full ≡ false) (another text full)
unfolding another another_word
another_reads text full =
    one_reads (another_word text full) (λ bs.
    bind_passes (λ u. Unit {0}) (λ u. full ≡ false) (exactly text bs) _ (any_passes (exactly text bs))
    (λ u _. bar_passes (λ u. full ≡ false) full (Ok tt) _ (λ free. free)))

-- half as many bytes as digits
pub decoded_size : (digits : List ℕ) →
    (2 * length (decoded digits) ≤ length digits) × (length digits ≤ 2 * length (decoded digits) + 1)
decoded_size [] = (omega arith, omega arith)
decoded_size (high ∷ []) = (omega arith, omega arith)
decoded_size (high ∷ low ∷ digits) = let p = decoded_size digits in (omega (arith, p.0), omega (arith, p.1))

pub data_long : (bs : List ℕ) → is_data bs ≡ true → 3 ≤ length bs
unfolding is_data
data_long bs h = grind (arith, nat_tests, both (nat_le 3 (length bs)) _ (both _ _ (both _ _ h).0).0)

pub not_false : (b : Bool) → not b ≡ false → b ≡ true
not_false true h = refl
not_false false h = sym h

pub digits_pass : (most : ℕ) (bs : List ℕ) →
    Passes (λ ds. (2 ≤ length ds) × (length ds / 2 ≤ most)) (data_digits most bs)
unfolding data_digits
digits_pass most bs =
    bar_passes (λ ds. (2 ≤ length ds) × (length ds / 2 ≤ most)) (not (is_data bs))
    (cond (nat_le (length bs / 2) most) (Ok (drop 1 bs)) (Err _)) _ (λ is.
    guard_passes (λ ds. (2 ≤ length ds) × (length ds / 2 ≤ most)) (nat_le (length bs / 2) most) (drop 1 bs) _
    (λ fits.
    let long = data_long bs (not_false (is_data bs) is) in
    let within_most : length bs / 2 ≤ most = grind (arith, nat_tests) in
    (omega (arith, length-drop 1 bs), omega (arith, length-drop 1 bs))))

pub bytes_reads : (most : ℕ) → Reads (λ bs. IsSize most (length bs)) (bytes most)
unfolding bytes
bytes_reads most =
    then_reads (one_reads (data_digits most) (digits_pass most)) (λ ds p.
    done_reads (let size = decoded_size ds in
    (omega (arith, size.0, size.1, p.0, p.1), omega (arith, size.0, size.1, p.0, p.1))))
