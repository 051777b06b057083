-- Which acts are called among some calls, and whether one of these stops the context.
use Rattle.std.proofs.Common.{◌≡◌, ◌≢◌, ◌⊎◌, ℕ, Bool, true, false, ◌||◌, cond, List, [], ◌∷◌, ◌++◌, inl, inr, refl, sym, ◌∙◌}
use Rattle.std.specs.Prelude.{◌==◌}
use Rattle.std.proofs.Math.Bool.{or-false}
use Rattle.std.proofs.lemmas.Bool.{eqb-true, eqb-false}
use Rattle.asio_types.specs.declared.code.Code.{Code}
use Rattle.session_script.specs.Script.{ScriptModel, stops}
use Rattle.strand_core.specs.Execution.{execution_of}
use Rattle.strand_core.specs.declared.posted.Posted.{Posted}
use Rattle.strand_core.specs.declared.posted.Posted.TheVariants as posted
use Rattle.execution_laws.specs.Called.{are_stopping, is_called}

either_way : (is all first second : Bool) → all ≡ (first || second) → cond is true all ≡ (cond is true first || second)
either_way true all first second same = refl
either_way false all first second same = same

pub called-append : (n : ℕ) (xs ys : List Posted) → is_called n (xs ++ ys) ≡ (is_called n xs || is_called n ys)
called-append n [] ys = refl
called-append n (posted.Begin op code size begun ∷ xs) ys = called-append n xs ys
called-append n (posted.Call act ∷ xs) ys =
    either_way (act == n) (is_called n (xs ++ ys)) (is_called n xs) (is_called n ys) (called-append n xs ys)
called-append n (posted.Back act ∷ xs) ys = called-append n xs ys
called-append n (posted.End op ran ∷ xs) ys = called-append n xs ys

pub stopping-append : (script : ScriptModel) (xs ys : List Posted) →
    are_stopping script (xs ++ ys) ≡ (are_stopping script xs || are_stopping script ys)
stopping-append script [] ys = refl
stopping-append script (posted.Begin op code size begun ∷ xs) ys = stopping-append script xs ys
stopping-append script (posted.Call act ∷ xs) ys =
    either_way (stops script act) (are_stopping script (xs ++ ys)) (are_stopping script xs) (are_stopping script ys)
    (stopping-append script xs ys)
stopping-append script (posted.Back act ∷ xs) ys = stopping-append script xs ys
stopping-append script (posted.End op ran ∷ xs) ys = stopping-append script xs ys

-- an execution calls what its body calls
pub called-execution : (n op : ℕ) (code : Code) (size begun mark : ℕ) (body : List Posted) →
    is_called n (execution_of op code size begun mark body) ≡ is_called n body
called-execution n op code size begun mark body = called-append n body _ ∙ or-false (is_called n body)

pub stopping-execution : (script : ScriptModel) (op : ℕ) (code : Code) (size begun mark : ℕ) (body : List Posted) →
    are_stopping script (execution_of op code size begun mark body) ≡ are_stopping script body
stopping-execution script op code size begun mark body =
    stopping-append script body _ ∙ or-false (are_stopping script body)

-- the first call is the act's, or it is among the others
pub one_called : (a n : ℕ) (others : Bool) → cond (a == n) true others ≡ true → (a ≡ n) ⊎ (others ≡ true)
one_called a n others is = by_test (a == n) refl is
  where
    by_test : (b : Bool) → (a == n) ≡ b → cond b true others ≡ true → (a ≡ n) ⊎ (others ≡ true)
    by_test true same is = inl (eqb-true a n same)
    by_test false differ is = inr is

pub none_called : (a n : ℕ) (others : Bool) → cond (a == n) true others ≡ false → (n ≢ a) × (others ≡ false)
none_called a n others isnt = by_test (a == n) refl isnt
  where
    by_test : (b : Bool) → (a == n) ≡ b → cond b true others ≡ false → (n ≢ a) × (others ≡ false)
    by_test true same isnt = absurd (cc)
    by_test false differ isnt = (λ same. eqb-false a n differ (sym same), isnt)
