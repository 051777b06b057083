-- Reading takes tokens: what a reader leaves has no more tokens than it was given.
use Rattle.std.proofs.Common.{ℕ, zero, suc, ◌+◌, ◌<◌, ◌≤◌, Bool, true, false, cond, List, Result, Ok, Err, arith}
use Rattle.session_script.specs.declared.token.Position.{Position}
use Rattle.session_script.specs.declared.refusal.Rule.{Rule}
use Rattle.session_script.specs.declared.refusal.Refusal.{Refusal}
use Rattle.session_script.specs.Tokens.{Tokens, end, token, token_count}
use Rattle.session_script.specs.Productions.{and_then, ◌>>=◌, done, judged, one, many, repeated, word, another, bounded, declared_number, optional}

-- what was read leaves less than n tokens
abbrev pub Below : {A : Type 0} → ℕ → Result (A × Tokens) Refusal → Type 0
Below n (Ok read) = token_count read.1 < n
Below n (Err refusal) = Unit {0}

-- a reader adds no token
pub record Keeps {A : Type 0} (r : Tokens → Result (A × Tokens) Refusal) : Type 0 where
  pub below : (n : ℕ) (ts : Tokens) → token_count ts < n → Below n (r ts)

-- a reader takes a token at least
pub record Shrinks {A : Type 0} (r : Tokens → Result (A × Tokens) Refusal) : Type 0 where
  pub below : (ts : Tokens) → Below (token_count ts) (r ts)

below_more : {A : Type 0} (m n : ℕ) (r : Result (A × Tokens) Refusal) → m ≤ n → Below m r → Below n r
below_more m n (Ok read) le h = omega arith
below_more m n (Err refusal) le h = tt

pub keeps_taking : {A : Type 0} {r : Tokens → Result (A × Tokens) Refusal} → Shrinks r → Keeps r
keeps_taking {r = r} takes =
    record { below = λ n ts lt. below_more (token_count ts) n (r ts) (omega arith) (takes.below ts) }

judged_below : {A : Type 0} (n : ℕ) (test : Result A Rule) (at : Position) (rest : Tokens) → token_count rest < n →
    Below n (judged test at rest)
judged_below n (Ok value) at rest lt = lt
judged_below n (Err _) at rest lt = tt

one_below : {A : Type 0} (test : List ℕ → Result A Rule) (ts : Tokens) → Below (token_count ts) (one test ts)
one_below test (end at) = tt
one_below test (token bytes at rest) = judged_below (token_count rest + 1) (test bytes) at rest (omega arith)

pub one_takes : {A : Type 0} (test : List ℕ → Result A Rule) → Shrinks (one test)
one_takes test = record { below = one_below test }

and_then_below : {A B : Type 0} (n : ℕ) (r : Result (A × Tokens) Refusal)
    (f : A → Tokens → Result (B × Tokens) Refusal) → Below n r → ((a : A) → Keeps (f a)) → Below n (and_then r f)
and_then_below n (Ok read) f below keeps = (keeps read.0).below n read.1 below
and_then_below n (Err refusal) f below keeps = tt

-- one reader and then another
pub then_keeps : {A B : Type 0} {r : Tokens → Result (A × Tokens) Refusal}
    {f : A → Tokens → Result (B × Tokens) Refusal} → Keeps r → ((a : A) → Keeps (f a)) → Keeps (r >>= f)
then_keeps {r = r} {f = f} first second =
    record { below = λ n ts lt. and_then_below n (r ts) f (first.below n ts lt) second }

pub then_takes : {A B : Type 0} {r : Tokens → Result (A × Tokens) Refusal}
    {f : A → Tokens → Result (B × Tokens) Refusal} → Shrinks r → ((a : A) → Keeps (f a)) → Shrinks (r >>= f)
then_takes {r = r} {f = f} first second =
    record { below = λ ts. and_then_below (token_count ts) (r ts) f (first.below ts) second }

takes_second : {A B : Type 0} (n : ℕ) (r : Result (A × Tokens) Refusal) (f : A → Tokens → Result (B × Tokens) Refusal) →
    Below (n + 1) r → ((a : A) → Shrinks (f a)) → Below n (and_then r f)
takes_second n (Ok read) f below takes =
    below_more (token_count read.1) n (f read.0 read.1) (omega arith) ((takes read.0).below read.1)
takes_second n (Err refusal) f below takes = tt

pub keeps_then_takes : {A B : Type 0} {r : Tokens → Result (A × Tokens) Refusal}
    {f : A → Tokens → Result (B × Tokens) Refusal} → Keeps r → ((a : A) → Shrinks (f a)) → Shrinks (r >>= f)
keeps_then_takes {r = r} {f = f} first second =
    record { below = λ ts. takes_second (token_count ts) (r ts) f (first.below (token_count ts + 1) ts (omega arith)) second }

pub done_keeps : {A : Type 0} (value : A) → Keeps (done value)
done_keeps value = record { below = λ n ts lt. lt }

pub one_keeps : {A : Type 0} (test : List ℕ → Result A Rule) → Keeps (one test)
one_keeps test = keeps_taking (one_takes test)

pub word_takes : (text : List ℕ) → Shrinks (word text)
unfolding word
word_takes text = one_takes _

pub another_takes : (text : List ℕ) (full : Bool) → Shrinks (another text full)
unfolding another
another_takes text full = one_takes _

pub bounded_takes : (least most : ℕ) → Shrinks (bounded least most)
unfolding bounded
bounded_takes least most = one_takes _

pub declared_takes : (count : ℕ) → Shrinks (declared_number count)
unfolding declared_number
declared_takes count = one_takes _

pub optional_takes : (count : ℕ) → Shrinks (optional count)
unfolding optional
optional_takes count = one_takes _

pub word_keeps : (text : List ℕ) → Keeps (word text)
word_keeps text = keeps_taking (word_takes text)

pub another_keeps : (text : List ℕ) (full : Bool) → Keeps (another text full)
another_keeps text full = keeps_taking (another_takes text full)

pub bounded_keeps : (least most : ℕ) → Keeps (bounded least most)
bounded_keeps least most = keeps_taking (bounded_takes least most)

pub declared_keeps : (count : ℕ) → Keeps (declared_number count)
declared_keeps count = keeps_taking (declared_takes count)

pub optional_keeps : (count : ℕ) → Keeps (optional count)
optional_keeps count = keeps_taking (optional_takes count)

-- a choice of two
pub chosen_below : {A : Type 0} (n : ℕ) (test : Bool) (r s : Result (A × Tokens) Refusal) → Below n r → Below n s →
    Below n (cond test r s)
chosen_below n true r s first second = first
chosen_below n false r s first second = second

-- a reader where a test of the tokens says so, and else a value
pub if_keeps : {A : Type 0} {r : Tokens → Result (A × Tokens) Refusal} (test : Tokens → Bool) (value : A) → Keeps r →
    Keeps (λ ts. cond (test ts) (r ts) (Ok (value, ts)))
if_keeps {r = r} test value keeps =
    record { below = λ n ts lt. chosen_below n (test ts) (r ts) (Ok (value, ts)) (keeps.below n ts lt) lt }

-- a value where a test of the tokens says so, and else a reader
pub else_keeps : {A : Type 0} {r : Tokens → Result (A × Tokens) Refusal} (test : Tokens → Bool) (value : A) → Keeps r →
    Keeps (λ ts. cond (test ts) (Ok (value, ts)) (r ts))
else_keeps {r = r} test value keeps =
    record { below = λ n ts lt. chosen_below n (test ts) (Ok (value, ts)) (r ts) lt (keeps.below n ts lt) }

many_below : {S : Type 0} (more : Tokens → Bool) (reader : S → Tokens → Result (S × Tokens) Refusal) →
    ((s : S) → Keeps (reader s)) → (fuel : ℕ) (s : S) → Keeps (many more reader fuel s)
many_below more reader keeps zero s = record { below = λ n ts lt. lt }
many_below more reader keeps (suc fuel) s =
    record {
      below = λ n ts lt.
          chosen_below n (more ts) (and_then (reader s ts) (many more reader fuel)) (Ok (s, ts))
          (and_then_below n (reader s ts) (many more reader fuel) ((keeps s).below n ts lt)
          (many_below more reader keeps fuel)) lt;
    }

pub repeated_keeps : {S : Type 0} (more : Tokens → Bool) (reader : S → Tokens → Result (S × Tokens) Refusal) →
    ((s : S) → Keeps (reader s)) → (s : S) → Keeps (repeated more reader s)
unfolding repeated
repeated_keeps more reader keeps s =
    record { below = λ n ts lt. (many_below more reader keeps (token_count ts) s).below n ts lt }
