-- How many operations, and how many completions, have a number.
use Rattle.std.proofs.Common.{◌≡◌, ◌≤◌, ◌<◌, ℕ, ◌+◌, ◌==◌, Bool, true, false, not, cond, List, [], ◌∷◌, ◌++◌, Some, None, filter, map, refl, ap, sym, ◌∙◌, arith}
use Rattle.std.specs.List.{list_any}
use Rattle.std.proofs.lemmas.Bool.{eq-eqb, ne_eqb, or_parts}
use Rattle.std.proofs.lemmas.List.{map-append}
use Rattle.chan_core.specs.declared.done.ChanCode.{ChanCode}
use Rattle.chan_core.specs.declared.done.ChanDone.{ChanDone}
use Rattle.chan_core.specs.declared.pending.PendingOp.{PendingOp}
use Rattle.chan_core.specs.Pending.{ends_with, has_number}
use Rattle.chan_core.specs.Runs.{code_after}
use Rattle.chan_core.specs.Runs.ChanEvent.{Told}
use Rattle.chan_core.proofs.LedgerLemmas.{Each, Each-both, Each-map, code_after-append, first_code}
use Rattle.chan_core.proofs.TurnLemmas.{dones, one_if}

-- how many of these operations have this number
abbrev pub times : {V : Type 0} → ℕ → List (PendingOp V) → ℕ
times op [] = 0
times op (pending ∷ rest) = one_if (pending.op == op) + times op rest

pub times-append : {V : Type 0} (op : ℕ) (xs ys : List (PendingOp V)) →
    times op (xs ++ ys) ≡ times op xs + times op ys
times-append op [] ys = omega arith
times-append op (x ∷ xs) ys = let rest = times-append op xs ys in omega arith

pub dones-append : (op : ℕ) (xs ys : List ChanDone) → dones op (xs ++ ys) ≡ dones op xs + dones op ys
dones-append op [] ys = omega arith
dones-append op (x ∷ xs) ys = let rest = dones-append op xs ys in omega arith

pub dones-ended : {V : Type 0} (op : ℕ) (code : ChanCode) (xs : List (PendingOp V)) →
    dones op (map (ends_with code) xs) ≡ times op xs
dones-ended op code [] = refl
dones-ended op code (x ∷ xs) = let rest = dones-ended op code xs in omega arith

pub times-parted : {V : Type 0} (op : ℕ) (test : PendingOp V → Bool) (xs : List (PendingOp V)) →
    times op (filter test xs) + times op (filter (λ x. not (test x)) xs) ≡ times op xs
times-parted op test [] = refl
times-parted op test (x ∷ xs) =
    let rest = times-parted op test xs in
    elim (test x) as (λ b. times op (cond b (x ∷ filter test xs) (filter test xs))
    + times op (cond (not b) (x ∷ filter (λ x. not (test x)) xs) (filter (λ x. not (test x)) xs))
    ≡ one_if (x.op == op) + times op xs) [
      | true ↦ omega arith
      | false ↦ omega arith
    ]

pub none-pending : {V : Type 0} (op : ℕ) (xs : List (PendingOp V)) → list_any (has_number op) xs ≡ false →
    times op xs ≡ 0
none-pending op [] h = refl
none-pending op (x ∷ xs) h =
    let parts = or_parts (x.op == op) (list_any (has_number op) xs) h in
    let rest = none-pending op xs parts.1 in
    rw parts.0 (omega arith)

pub same-number : (n : ℕ) → (n == n) ≡ true
same-number n = eq-eqb n n refl

-- an operation that is listed is counted
pub each-there : {V : Type 0} (xs : List (PendingOp V)) → Each (λ p. 0 < times p.op xs) xs
each-there [] = tt
each-there (x ∷ xs) = (
  rw (same-number x.op) (omega arith),
  Each-map (λ p. 0 < times p.op xs) (λ p. 0 < times p.op (x ∷ xs)) xs (λ p there. omega arith) (each-there xs),
)

-- no operation that is listed has a number that none has
pub each-other : {V : Type 0} (op : ℕ) (xs : List (PendingOp V)) → times op xs ≡ 0 →
    Each (λ p. (op == p.op) ≡ false) xs
each-other op [] none = tt
each-other op (x ∷ xs) none = (
  ne_eqb op x.op (λ same.
      let here : (x.op == op) ≡ true = eq-eqb x.op op (sym same) in
      let one : one_if (x.op == op) ≡ 1 = rw here refl in
      absurd (omega arith)),
  each-other op xs (omega arith),
)

-- where numbers differ, the first operation's number is no other's
pub apart-first : {V : Type 0} (x : PendingOp V) (xs : List (PendingOp V)) → times x.op (x ∷ xs) ≤ 1 →
    times x.op xs ≡ 0
apart-first x xs apart =
    let one : one_if (x.op == x.op) ≡ 1 = rw (same-number x.op) refl in omega arith

-- where numbers differ, an operation is found again by its number exactly where it passes the test
pub each-own : {V : Type 0} (test : PendingOp V → Bool) (xs : List (PendingOp V)) →
    ((op : ℕ) → times op xs ≤ 1) → Each (λ p. times p.op (filter test xs) ≡ one_if (test p)) xs
each-own test [] apart = tt
each-own test (x ∷ xs) apart =
    let none = apart-first x xs (apart x.op) in
    let fewer = times-parted x.op test xs in
    let head : times x.op (filter test (x ∷ xs)) ≡ one_if (test x) =
    elim (test x) as (λ b. times x.op (cond b (x ∷ filter test xs) (filter test xs)) ≡ one_if b) [
      | true ↦ rw (same-number x.op) (omega arith)
      | false ↦ omega arith
    ] in
    let rest = each-own test xs (λ op. let most = apart op in omega arith) in
    let tail =
    Each-both (λ p. 0 < times p.op xs) (λ p. times p.op (filter test xs) ≡ one_if (test p))
    (λ p. times p.op (filter test (x ∷ xs)) ≡ one_if (test p)) xs
    (λ p there own.
    let most = apart p.op in
    let other : one_if (x.op == p.op) ≡ 0 = omega arith in
    elim (test x) as (λ b. times p.op (cond b (x ∷ filter test xs) (filter test xs)) ≡ one_if (test p)) [
      | true ↦ omega arith
      | false ↦ own
    ]) (each-there xs) rest in
    (head, tail)

-- a number that nothing completed has
pub code-absent : (op : ℕ) (done : List ChanDone) → dones op done ≡ 0 → code_after op (map Told done) ≡ None
code-absent op [] none = refl
code-absent op (done ∷ rest) none =
    elim (done.op == op) as (λ b. one_if b + dones op rest ≡ 0 →
    cond b (Some done.code) (code_after op (map Told rest)) ≡ None) [
      | true ↦ λ none. absurd (omega arith)
      | false ↦ λ none. code-absent op rest (omega arith)
    ] none

-- the code of an operation that completed with others of its kind
pub code-ended : {V : Type 0} (op : ℕ) (code : ChanCode) (xs : List (PendingOp V)) → 0 < times op xs →
    code_after op (map Told (map (ends_with code) xs)) ≡ Some code
code-ended op code [] there = absurd (omega arith)
code-ended op code (x ∷ xs) there =
    elim (x.op == op) as (λ b. 0 < one_if b + times op xs →
    cond b (Some code) (code_after op (map Told (map (ends_with code) xs))) ≡ Some code) [
      | true ↦ λ there. refl
      | false ↦ λ there. code-ended op code xs (omega arith)
    ] there

-- what completes where the operations that pass these tests end, the sends first
abbrev pub ended_by : {V W : Type 0} → ChanCode → List (PendingOp V) → List (PendingOp W) → List ChanDone
ended_by code xs ys = map (ends_with code) xs ++ map (ends_with code) ys

-- the code of each send: that with which it ended, where it passes the test
pub each-code : {V : Type 0} (code : ChanCode) (test : PendingOp ℕ → Bool) (xs : List (PendingOp ℕ))
    (ys all : List (PendingOp V)) → ((op : ℕ) → times op ys ≤ times op all) →
    ((op : ℕ) → times op xs + times op all ≤ 1) →
    Each (λ p. code_after p.op (map Told (ended_by code (filter test xs) ys)) ≡ cond (test p) (Some code) None) xs
each-code code test xs ys all fewer apart =
    Each-both (λ p. 0 < times p.op xs) (λ p. times p.op (filter test xs) ≡ one_if (test p))
    (λ p. code_after p.op (map Told (ended_by code (filter test xs) ys)) ≡ cond (test p) (Some code) None) xs
    (λ p there own.
    let most = apart p.op in
    let less = fewer p.op in
    rw (
      map-append Told (map (ends_with code) (filter test xs)) (map (ends_with code) ys),
      code_after-append p.op (map Told (map (ends_with code) (filter test xs))) (map Told (map (ends_with code) ys)),
    )
    (let second = code-absent p.op (map (ends_with code) ys) (dones-ended p.op code ys ∙ omega arith) in
    rw second (elim (test p) as (λ b. times p.op (filter test xs) ≡ one_if b →
    first_code (code_after p.op (map Told (map (ends_with code) (filter test xs)))) None ≡ cond b (Some code) None) [
      | true ↦ λ own.
          ap (λ o. first_code o None) (code-ended p.op code (filter test xs) (omega arith))
      | false ↦ λ own.
          ap (λ o. first_code o None) (code-absent p.op (map (ends_with code) (filter test xs))
          (dones-ended p.op code (filter test xs) ∙ own))
    ] own)))
    (each-there xs) (each-own test xs (λ op. let most = apart op in omega arith))
