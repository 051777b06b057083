-- Operations with their handlers: how often a number is among them.
use Rattle.std.proofs.Common.{arith, ap, refl, subst, sym, ◌∙◌, ⊎_elim}
use Rattle.std.proofs.lemmas.Bool.{cases_lt}
use Rattle.std.proofs.lemmas.List.Elements.{All-cons, All-head, All-nil, All-tail}
use Rattle.std.proofs.lemmas.List.Sorted.{sum_by-IsPermutation}
use Rattle.std.proofs.lemmas.List.Sums.{sum_by-cons}
use Rattle.std.specs.Prelude.{◌≡◌, ◌<◌, ◌≤◌, ℕ, ◌+◌, ◌==◌, true, List, [], ◌∷◌, ◌++◌, None, Some, length, sum_by}
use Rattle.std.specs.List.{All}
use Rattle.std.specs.List.Sorted.{IsPermutation}
use Rattle.io_rules.specs.declared.name.Lane.{Lane}
use Rattle.io_rules.specs.declared.op.Op.{Op}
use Rattle.io_rules.specs.declared.request.Marks.{Marks}
use Rattle.io_rules.specs.Ops.{is_ready, op_at, without}
use Rattle.io_rules.specs.Room.{one_if}
use Rattle.io_rules.proofs.StrandLemmas.{by_test}
use Rattle.io_rules.proofs.TotalLemmas.{equal, same, total, total-without}
use Rattle.io_history.proofs.AtLemmas.{at-without}
use Rattle.io_strands.specs.declared.ready.ReadyOp.{ReadyOp}
use Rattle.io_scheduler.specs.Ready.{AreReady, IsNone}

abbrev pub many : {H : Type 0} → ℕ → List (ReadyOp H) → ℕ
many n [] = 0
many n (r ∷ q) = one_if (r.number == n) + many n q

pub many-append : {H : Type 0} (n : ℕ) (q r : List (ReadyOp H)) → many n (q ++ r) ≡ many n q + many n r
many-append n [] r = omega arith
many-append n (x ∷ q) r = let rest = many-append n q r in omega (arith, rest)

many-sum : {H : Type 0} (n : ℕ) (q : List (ReadyOp H)) → sum_by (λ (r : ReadyOp H). one_if (r.number == n)) q ≡ many n q
many-sum n [] = refl
many-sum n (x ∷ q) =
    sum_by-cons (λ (r : ReadyOp _). one_if (r.number == n)) x q ∙ ap (λ k. one_if (x.number == n) + k) (many-sum n q)

pub many-moved : {H : Type 0} (n : ℕ) (q r : List (ReadyOp H)) → IsPermutation q r → many n r ≡ many n q
many-moved n q r moved =
    sym (many-sum n r) ∙ sum_by-IsPermutation (λ (x : ReadyOp _). one_if (x.number == n)) q r moved ∙ many-sum n q

-- none has the number
pub many-none : {H : Type 0} (n : ℕ) (q : List (ReadyOp H)) → IsNone n q → many n q ≡ 0
many-none n [] none = refl
many-none n (r ∷ q) none = let one = ap one_if none.0 in let rest = many-none n q none.1 in omega (arith, one, rest)

-- each is in the list of operations, and counts as one there
pub record IsIn {H : Type 0} (w : Op → ℕ) (ops : List Op) (r : ReadyOp H) : Type 0 where
  pub op : Op
  pub is : op_at ops r.number ≡ Some op
  pub one : w op ≡ 1

pub number_apart : (m n rest : ℕ) → one_if (m == n) + rest ≡ 0 → n ≡ m → ⊥
number_apart m n rest none is =
    let one = ap one_if (subst (λ k. (m == k) ≡ true) (sym is) (same m)) in absurd (omega (arith, none, one))

in_without : {H : Type 0} (w : Op → ℕ) (ops : List Op) (n : ℕ) (q : List (ReadyOp H)) → many n q ≡ 0 →
    All (IsIn w ops) q → All (IsIn w (without n ops)) q
in_without w ops n [] none all = All-nil (IsIn w (without n ops))
in_without w ops n (r ∷ q) none all =
    let it = All-head (IsIn w ops) r q all in
    All-cons (IsIn w (without n ops)) r q
    (record {
      op = it.op;
      is = at-without n r.number ops it.op (number_apart r.number n (many n q) none) it.is;
      one = it.one;
    })
    (in_without w ops n q (omega (arith, none)) (All-tail (IsIn w ops) r q all))

-- no number twice
abbrev pub IsOnce : {H : Type 0} → List (ReadyOp H) → Type 0
IsOnce q = (n : ℕ) → many n q ≤ 1

once_behind : {H : Type 0} (r : ReadyOp H) (q : List (ReadyOp H)) → IsOnce (r ∷ q) → many r.number q ≡ 0
once_behind r q once =
    let one = once r.number in let here = ap one_if (same r.number) in omega (arith, one, here)

-- there are no more than the operations count
pub at_most : {H : Type 0} (w : Op → ℕ) (ops : List Op) (q : List (ReadyOp H)) → All (IsIn w ops) q → IsOnce q →
    length q ≤ total w ops
at_most w ops [] all once = omega arith
at_most w ops (r ∷ q) all once =
    let it = All-head (IsIn w ops) r q all in
    let none = once_behind r q once in
    let rest = at_most w (without r.number ops) q
    (in_without w ops r.number q none (All-tail (IsIn w ops) r q all))
    (λ n. let le = once n in omega (arith, le)) in
    let left = total-without w r.number ops it.op it.is in
    let one = it.one in
    omega (arith, rest, left, one)

-- where there are as many, each that counts is there
pub is_once : {H : Type 0} (w : Op → ℕ) (ops : List Op) (q : List (ReadyOp H)) (n : ℕ) (it : Op) →
    All (IsIn w ops) q → IsOnce q → length q ≡ total w ops → op_at ops n ≡ Some it → w it ≡ 1 → many n q ≡ 1
is_once w ops q n it all once full is one =
    let le = once n in
    ⊎_elim (λ (lt : 0 < many n q). omega (arith, lt, le))
    (λ (none : many n q ≤ 0).
    let few = at_most w (without n ops) q (in_without w ops n q (omega (arith, none)) all) once in
    let left = total-without w n ops it is in
    absurd (omega (arith, few, left, one, full)))
    (cases_lt 0 (many n q))

-- what is ready on a lane
pub ready_once : {H : Type 0} (marks : H → Marks) (ops : List Op) (on : Lane) (q : List (ReadyOp H)) →
    AreReady marks ops on q → IsOnce q
ready_once marks ops on [] are n = omega arith
ready_once marks ops on (r ∷ q) are n =
    let none = many-none r.number q are.1 in
    by_test (r.number == n)
    (λ is.
    let one = ap one_if is in
    let rest = subst (λ k. many k q ≡ 0) (equal r.number n is) none in
    omega (arith, one, rest))
    (λ other. let one = ap one_if other in let rest = ready_once marks ops on q are.2 n in omega (arith, one, rest))

pub ready_in : {H : Type 0} (marks : H → Marks) (w : Op → ℕ) (ops : List Op) (on : Lane) (q : List (ReadyOp H)) →
    ((op : Op) → op.lane ≡ on → is_ready op.phase ≡ true → w op ≡ 1) → AreReady marks ops on q → All (IsIn w ops) q
ready_in marks w ops on [] counts are = All-nil (IsIn w ops)
ready_in marks w ops on (r ∷ q) counts are =
    All-cons (IsIn w ops) r q
    (record {
      op = are.0.op;
      is = are.0.is;
      one = counts are.0.op are.0.lane (ap is_ready are.0.phase);
    })
    (ready_in marks w ops on q counts are.2)

-- its operation, with what its handler returns
pub record IsEntry {H : Type 0} (marks : H → Marks) (ops : List Op) (r : ReadyOp H) : Type 0 where
  pub op : Op
  pub is : op_at ops r.number ≡ Some op
  pub given : op.marks ≡ marks r.handler

pub ready_entries : {H : Type 0} (marks : H → Marks) (ops : List Op) (on : Lane) (q : List (ReadyOp H)) →
    AreReady marks ops on q → All (IsEntry marks ops) q
ready_entries marks ops on [] are = All-nil (IsEntry marks ops)
ready_entries marks ops on (r ∷ q) are =
    All-cons (IsEntry marks ops) r q (record { op = are.0.op; is = are.0.is; given = are.0.given })
    (ready_entries marks ops on q are.2)

-- where no operation has a number, none of them has it
pub ready_absent : {H : Type 0} (marks : H → Marks) (ops : List Op) (on : Lane) (n : ℕ) (q : List (ReadyOp H)) →
    op_at ops n ≡ None → AreReady marks ops on q → many n q ≡ 0
ready_absent marks ops on n [] none are = refl
ready_absent marks ops on n (r ∷ q) none are =
    let rest = ready_absent marks ops on n q none are.2 in
    by_test (r.number == n)
    (λ is.
    let at : op_at ops n ≡ Some are.0.op =
    subst (λ k. op_at ops k ≡ Some are.0.op) (equal r.number n is) are.0.is in
    absurd (cc))
    (λ other. let one = ap one_if other in omega (arith, one, rest))
