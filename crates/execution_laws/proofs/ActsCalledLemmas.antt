-- The acts that are called, in order.
use Rattle.std.proofs.Common.{◌≡◌, ◌⊎◌, ℕ, ◌<◌, Bool, true, false, cond, List, [], ◌∷◌, ◌++◌, inl, inr, refl, sym, ap, ◌∙◌}
use Rattle.std.specs.Prelude.{◌==◌}
use Rattle.std.specs.List.{All, Any}
use Rattle.std.proofs.lemmas.Bool.{eq-eqb}
use Rattle.std.proofs.lemmas.List.{append-nil}
use Rattle.std.proofs.lemmas.List.Elements.{All-cons, All-head, All-nil, All-tail}
use Rattle.asio_types.specs.declared.code.Code.{Code}
use Rattle.op_handlers.specs.declared.call.Ran.{Ran}
use Rattle.session_script.specs.Script.{ScriptModel}
use Rattle.history_rules.specs.Calls.{accepted}
use Rattle.history_rules.specs.declared.phase.ActPhase.{ActPhase}
use Rattle.strand_core.specs.Execution.{execution_of}
use Rattle.strand_core.specs.declared.posted.Posted.{Posted}
use Rattle.strand_core.specs.declared.posted.Posted.TheVariants as posted
use Rattle.execution_laws.specs.Called.{called_as, is_called}
use Rattle.execution_laws.proofs.CalledLemmas.{one_called}
use Rattle.execution_laws.proofs.RisingLemmas.{Rises, any_here, any_there}

-- the acts that are called, in order of their calls
abbrev pub acts_called : List Posted → List ℕ
acts_called [] = []
acts_called (posted.Begin op code size begun ∷ calls) = acts_called calls
acts_called (posted.Call act ∷ calls) = act ∷ acts_called calls
acts_called (posted.Back act ∷ calls) = acts_called calls
acts_called (posted.End op ran ∷ calls) = acts_called calls

pub acts-append : (xs ys : List Posted) → acts_called (xs ++ ys) ≡ acts_called xs ++ acts_called ys
acts-append [] ys = refl
acts-append (posted.Begin op code size begun ∷ xs) ys = acts-append xs ys
acts-append (posted.Call act ∷ xs) ys = ap (λ acts. act ∷ acts) (acts-append xs ys)
acts-append (posted.Back act ∷ xs) ys = acts-append xs ys
acts-append (posted.End op ran ∷ xs) ys = acts-append xs ys

pub acts-execution : (op : ℕ) (code : Code) (size begun mark : ℕ) (body : List Posted) →
    acts_called (execution_of op code size begun mark body) ≡ acts_called body
acts-execution op code size begun mark body = acts-append body _ ∙ append-nil (acts_called body)

-- the first call is that of its act, and a later one is among the calls
pub first_called : (act n : ℕ) (more : Bool) → act ≡ n → cond (act == n) true more ≡ true
first_called act n more same = ap (λ b. cond b true more) (eq-eqb act n same)

pub later_called : (act n : ℕ) (more : Bool) → more ≡ true → cond (act == n) true more ≡ true
later_called act n more is = by_test (act == n)
  where
    by_test : (b : Bool) → cond b true more ≡ true
    by_test true = refl
    by_test false = is

-- what holds of each act that is called
pub all_called : (P : ℕ → Type 0) (calls : List Posted) → ((n : ℕ) → is_called n calls ≡ true → P n) →
    All P (acts_called calls)
all_called P [] each = All-nil P
all_called P (posted.Begin op code size begun ∷ calls) each = all_called P calls each
all_called P (posted.Call act ∷ calls) each =
    All-cons P act (acts_called calls) (each act (first_called act act (is_called act calls) refl))
    (all_called P calls (λ n is. each n (later_called act n (is_called n calls) is)))
all_called P (posted.Back act ∷ calls) each = all_called P calls each
all_called P (posted.End op ran ∷ calls) each = all_called P calls each

module _ (test : ActPhase → Bool) (script : ScriptModel) where
  all_by : (P : ℕ → Type 0) (act : ℕ) (acts : List ℕ) (b : Bool) → (b ≡ true → P act) → All P acts →
      All P (cond b (act ∷ acts) acts)
  all_by P act acts true here rest = All-cons P act acts (here refl) rest
  all_by P act acts false here rest = rest

  pub all_called_as : (P : ℕ → Type 0) (calls : List Posted) →
      ((n : ℕ) → is_called n calls ≡ true → test (accepted script n) ≡ true → P n) → All P (called_as test script calls)
  all_called_as P [] each = All-nil P
  all_called_as P (posted.Begin op code size begun ∷ calls) each = all_called_as P calls each
  all_called_as P (posted.Call act ∷ calls) each =
      all_by P act (called_as test script calls) (test (accepted script act))
      (each act (first_called act act (is_called act calls) refl))
      (all_called_as P calls (λ n is. each n (later_called act n (is_called n calls) is)))
  all_called_as P (posted.Back act ∷ calls) each = all_called_as P calls each
  all_called_as P (posted.End op ran ∷ calls) each = all_called_as P calls each

  -- what holds of all acts that are called holds of those that are accepted so
  all_some : (P : ℕ → Type 0) (calls : List Posted) → All P (acts_called calls) → All P (called_as test script calls)
  all_some P [] all = all
  all_some P (posted.Begin op code size begun ∷ calls) all = all_some P calls all
  all_some P (posted.Call act ∷ calls) all =
      all_by P act (called_as test script calls) (test (accepted script act))
      (λ is. All-head P act (acts_called calls) all) (all_some P calls (All-tail P act (acts_called calls) all))
  all_some P (posted.Back act ∷ calls) all = all_some P calls all
  all_some P (posted.End op ran ∷ calls) all = all_some P calls all

  rises_by : (f : ℕ → ℕ) (act : ℕ) (acts : List ℕ) (b : Bool) → All (λ n. f act < f n) acts → Rises f acts →
      Rises f (cond b (act ∷ acts) acts)
  rises_by f act acts true above rises = (above, rises)
  rises_by f act acts false above rises = rises

  pub rises_some : (f : ℕ → ℕ) (calls : List Posted) → Rises f (acts_called calls) →
      Rises f (called_as test script calls)
  rises_some f [] rises = tt
  rises_some f (posted.Begin op code size begun ∷ calls) rises = rises_some f calls rises
  rises_some f (posted.Call act ∷ calls) rises =
      rises_by f act (called_as test script calls) (test (accepted script act))
      (all_some (λ n. f act < f n) calls rises.0) (rises_some f calls rises.1)
  rises_some f (posted.Back act ∷ calls) rises = rises_some f calls rises
  rises_some f (posted.End op ran ∷ calls) rises = rises_some f calls rises

  any_by : (n act : ℕ) (acts : List ℕ) (b : Bool) → test (accepted script act) ≡ b → test (accepted script n) ≡ true →
      (act ≡ n) ⊎ Any (λ m. m ≡ n) acts → Any (λ m. m ≡ n) (cond b (act ∷ acts) acts)
  any_by n act acts true is passes (inl same) = any_here (λ m. m ≡ n) act acts same
  any_by n act acts true is passes (inr rest) = any_there (λ m. m ≡ n) act acts rest
  any_by n act acts false is passes (inl same) =
      absurd (let wrong : true ≡ false = sym passes ∙ (ap (λ m. test (accepted script m)) (sym same) ∙ is) in cc)
  any_by n act acts false is passes (inr rest) = rest

  pub any_called_as : (n : ℕ) (calls : List Posted) → is_called n calls ≡ true → test (accepted script n) ≡ true →
      Any (λ m. m ≡ n) (called_as test script calls)
  any_called_as n [] is passes = absurd (cc)
  any_called_as n (posted.Begin op code size begun ∷ calls) is passes = any_called_as n calls is passes
  any_called_as n (posted.Call act ∷ calls) is passes =
      any_by n act (called_as test script calls) (test (accepted script act)) refl passes
      (elim (one_called act n (is_called n calls) is)
      [ inl same ↦ inl same | inr later ↦ inr (any_called_as n calls later passes) ])
  any_called_as n (posted.Back act ∷ calls) is passes = any_called_as n calls is passes
  any_called_as n (posted.End op ran ∷ calls) is passes = any_called_as n calls is passes

  -- an execution calls what its body calls
  called_as-end : (body : List Posted) (op : ℕ) (ran : Ran) →
      called_as test script (body ++ posted.End op ran ∷ []) ≡ called_as test script body
  called_as-end [] op ran = refl
  called_as-end (posted.Begin other code size begun ∷ body) op ran = called_as-end body op ran
  called_as-end (posted.Call act ∷ body) op ran =
      ap (λ acts. cond (test (accepted script act)) (act ∷ acts) acts) (called_as-end body op ran)
  called_as-end (posted.Back act ∷ body) op ran = called_as-end body op ran
  called_as-end (posted.End other also ∷ body) op ran = called_as-end body op ran

  pub called_as-execution : (op : ℕ) (code : Code) (size begun mark : ℕ) (body : List Posted) →
      called_as test script (execution_of op code size begun mark body) ≡ called_as test script body
  called_as-execution op code size begun mark body = called_as-end body op _
