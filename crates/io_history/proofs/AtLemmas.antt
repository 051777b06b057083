-- The operation with one number, where others change.
use Rattle.std.proofs.Common.{ap, refl, subst, sym, ◌∙◌}
use Rattle.std.proofs.lemmas.Bool.{true≢false}
use Rattle.std.specs.Prelude.{◌≡◌, ℕ, ◌==◌, ◌&&◌, not, Bool, true, false, List, [], ◌∷◌, ◌++◌, Option, Some, None, if◌then◌else◌}
use Rattle.std.specs.List.{list_all}
use Rattle.io_rules.specs.declared.op.Op.{Op}
use Rattle.io_rules.specs.declared.op.Phase.{Phase}
use Rattle.io_rules.specs.Ops.{is_at, is_running, op_at, passes, phase_changed, phase_changed_of, without}
use Rattle.io_rules.proofs.TotalLemmas.{equal}

-- a change of number m does nothing to the operation n: it is another one, or stays as it is
abbrev pub Leaves : ℕ → ℕ → (Op → Phase) → Op → Type 0
Leaves m n change is = m ≡ n → change is ≡ is.phase

left_found : (m n : ℕ) (change : Op → Phase) (x is : Op) (at : Option Op) (c : Bool) → (x.number == n) ≡ c →
    x.number ≡ m → Leaves m n change is → (if c then Some x else at) ≡ Some is →
    (if c then Some (record x { phase = change x }) else at) ≡ Some is
left_found m n change x is at true same here leaves found =
    let it : x ≡ is = cc in
    let number : m ≡ n = sym here ∙ equal x.number n same in
    ap (λ (p : Phase). Some (record x { phase = p }))
    (subst (λ (y : Op). change y ≡ y.phase) (sym it) (leaves number))
    ∙ found
left_found m n change x is at false same here leaves found = found

behind_found : (x is : Op) (at changed : Option Op) (c : Bool) → (at ≡ Some is → changed ≡ Some is) →
    (if c then Some x else at) ≡ Some is → (if c then Some x else changed) ≡ Some is
behind_found x is at changed true later found = found
behind_found x is at changed false later found = later found

left_here : (m n : ℕ) (change : Op → Phase) (x is : Op) (ops rest : List Op) (b : Bool) → (x.number == m) ≡ b →
    Leaves m n change is → op_at (x ∷ ops) n ≡ Some is → (op_at ops n ≡ Some is → op_at rest n ≡ Some is) →
    op_at (if b then record x { phase = change x } ∷ ops else x ∷ rest) n ≡ Some is
left_here m n change x is ops rest true same leaves found later =
    left_found m n change x is (op_at ops n) (x.number == n) refl (equal x.number m same) leaves found
left_here m n change x is ops rest false same leaves found later =
    behind_found x is (op_at ops n) (op_at rest n) (x.number == n) later found

pub at-changed : (m n : ℕ) (change : Op → Phase) (ops : List Op) (is : Op) → Leaves m n change is →
    op_at ops n ≡ Some is → op_at (phase_changed m change ops) n ≡ Some is
at-changed m n change [] is leaves found = found
at-changed m n change (x ∷ ops) is leaves found =
    left_here m n change x is ops (phase_changed m change ops) (x.number == m) refl leaves found
    (at-changed m n change ops is leaves)

pub at-changed_of : (m : Option ℕ) (n : ℕ) (change : Op → Phase) (ops : List Op) (is : Op) →
    change is ≡ is.phase → op_at ops n ≡ Some is → op_at (phase_changed_of m change ops) n ≡ Some is
at-changed_of None n change ops is same found = found
at-changed_of (Some m) n change ops is same found = at-changed m n change ops is (λ here. same) found

pub at-push : (n : ℕ) (ops : List Op) (new is : Op) → op_at ops n ≡ Some is →
    op_at (ops ++ new ∷ []) n ≡ Some is
at-push n [] new is found = absurd (cc)
at-push n (x ∷ ops) new is found =
    behind_found x is (op_at ops n) (op_at (ops ++ new ∷ []) n) (x.number == n) (at-push n ops new is) found

gone_here : (m n : ℕ) (x is : Op) (at : Option Op) (c : Bool) → (x.number == n) ≡ c → x.number ≡ m →
    (m ≡ n → ⊥) → (if c then Some x else at) ≡ Some is → at ≡ Some is
gone_here m n x is at true same here other found = absurd (other (sym here ∙ equal x.number n same))
gone_here m n x is at false same here other found = found

without_here : (m n : ℕ) (x is : Op) (ops rest : List Op) (b : Bool) → (x.number == m) ≡ b → (m ≡ n → ⊥) →
    op_at (x ∷ ops) n ≡ Some is → (op_at ops n ≡ Some is → op_at rest n ≡ Some is) →
    op_at (if b then ops else x ∷ rest) n ≡ Some is
without_here m n x is ops rest true same other found later =
    gone_here m n x is (op_at ops n) (x.number == n) refl (equal x.number m same) other found
without_here m n x is ops rest false same other found later =
    behind_found x is (op_at ops n) (op_at rest n) (x.number == n) later found

pub at-without : (m n : ℕ) (ops : List Op) (is : Op) → (m ≡ n → ⊥) → op_at ops n ≡ Some is →
    op_at (without m ops) n ≡ Some is
at-without m n [] is other found = found
at-without m n (x ∷ ops) is other found =
    without_here m n x is ops (without m ops) (x.number == m) refl other found (at-without m n ops is other)

-- whether its phase passes a test where the one of this number comes to another
passed_here : (test : Phase → Bool) (m n : ℕ) (change : Op → Phase) (x : Op) (at : Option Op) (c : Bool) →
    ((op : Op) → test op.phase ≡ true → test (change op) ≡ true) → passes test (if c then Some x else at) ≡ true →
    passes test (if c then Some (record x { phase = change x }) else at) ≡ true
passed_here test m n change x at true keeps passed = keeps x passed
passed_here test m n change x at false keeps passed = passed

passed_behind : (test : Phase → Bool) (x : Op) (at changed : Option Op) (c : Bool) →
    (passes test at ≡ true → passes test changed ≡ true) → passes test (if c then Some x else at) ≡ true →
    passes test (if c then Some x else changed) ≡ true
passed_behind test x at changed true later passed = passed
passed_behind test x at changed false later passed = later passed

passed_head : (test : Phase → Bool) (m n : ℕ) (change : Op → Phase) (x : Op) (ops rest : List Op) (b : Bool) →
    ((op : Op) → test op.phase ≡ true → test (change op) ≡ true) → is_at test (x ∷ ops) n ≡ true →
    (is_at test ops n ≡ true → is_at test rest n ≡ true) →
    is_at test (if b then record x { phase = change x } ∷ ops else x ∷ rest) n ≡ true
passed_head test m n change x ops rest true keeps passed later =
    passed_here test m n change x (op_at ops n) (x.number == n) keeps passed
passed_head test m n change x ops rest false keeps passed later =
    passed_behind test x (op_at ops n) (op_at rest n) (x.number == n) later passed

pub passed-changed : (test : Phase → Bool) (m n : ℕ) (change : Op → Phase) (ops : List Op) →
    ((op : Op) → test op.phase ≡ true → test (change op) ≡ true) → is_at test ops n ≡ true →
    is_at test (phase_changed m change ops) n ≡ true
passed-changed test m n change [] keeps passed = passed
passed-changed test m n change (x ∷ ops) keeps passed =
    passed_head test m n change x ops (phase_changed m change ops) (x.number == m) keeps passed
    (passed-changed test m n change ops keeps)

pub passed-changed_of : (test : Phase → Bool) (m : Option ℕ) (n : ℕ) (change : Op → Phase) (ops : List Op) →
    ((op : Op) → test op.phase ≡ true → test (change op) ≡ true) → is_at test ops n ≡ true →
    is_at test (phase_changed_of m change ops) n ≡ true
passed-changed_of test None n change ops keeps passed = passed
passed-changed_of test (Some m) n change ops keeps passed = passed-changed test m n change ops keeps passed

-- what comes to a phase that passes, if there is one
come_here : (test : Phase → Bool) (n : ℕ) (x : Op) (new : Phase) (at : Option Op) (c : Bool) → (x.number == n) ≡ c →
    (x.number == n) ≡ true → test new ≡ true → passes test (if c then Some (record x { phase = new }) else at) ≡ true
come_here test n x new at true same here passed = passed
come_here test n x new at false same here passed = absurd (true≢false (sym here ∙ same))

come_head : (test before : Phase → Bool) (n : ℕ) (x : Op) (new : Phase) (ops rest : List Op) (b : Bool) →
    (x.number == n) ≡ b → test new ≡ true → passes before (if b then Some x else op_at ops n) ≡ true →
    (is_at before ops n ≡ true → is_at test rest n ≡ true) →
    is_at test (if b then record x { phase = new } ∷ ops else x ∷ rest) n ≡ true
come_head test before n x new ops rest true same passed there later =
    come_here test n x new (op_at ops n) (x.number == n) refl same passed
come_head test before n x new ops rest false same passed there later =
    come_over test n x (op_at rest n) (x.number == n) same (later there)
  where
    come_over : (test : Phase → Bool) (n : ℕ) (x : Op) (at : Option Op) (c : Bool) → c ≡ false →
        passes test at ≡ true → passes test (if c then Some x else at) ≡ true
    come_over test n x at true same passed = absurd (true≢false same)
    come_over test n x at false same passed = passed

pub come-changed : (test before : Phase → Bool) (n : ℕ) (new : Phase) (ops : List Op) → test new ≡ true →
    is_at before ops n ≡ true → is_at test (phase_changed n (λ op. new) ops) n ≡ true
come-changed test before n new [] passed there = absurd (true≢false (sym there))
come-changed test before n new (x ∷ ops) passed there =
    come_head test before n x new ops (phase_changed n (λ op. new) ops) (x.number == n) refl passed there
    (come-changed test before n new ops passed)

-- nothing executes
none_here : (x is : Op) (at : Option Op) (c : Bool) (all : Bool) → (not (is_running x.phase) && all) ≡ true →
    is_running is.phase ≡ true → (if c then Some x else at) ≡ Some is → (all ≡ true → at ≡ Some is → ⊥) → ⊥
none_here x is at true all none runs found later =
    let it : x ≡ is = cc in
    both (is_running x.phase) all none (subst (λ (y : Op). is_running y.phase ≡ true) (sym it) runs)
  where
    both : (a b : Bool) → (not a && b) ≡ true → a ≡ true → ⊥
    both true b none runs = true≢false (sym none)
    both false b none runs = true≢false (sym runs)
none_here x is at false all none runs found later =
    later (rest_of (is_running x.phase) all none) found
  where
    rest_of : (a b : Bool) → (not a && b) ≡ true → b ≡ true
    rest_of true b none = absurd (true≢false (sym none))
    rest_of false b none = none

pub none-runs : (ops : List Op) (n : ℕ) (is : Op) → list_all (λ op. not (is_running op.phase)) ops ≡ true →
    is_running is.phase ≡ true → op_at ops n ≡ Some is → ⊥
none-runs [] n is none runs found = absurd (cc)
none-runs (x ∷ ops) n is none runs found =
    none_here x is (op_at ops n) (x.number == n) (list_all (λ op. not (is_running op.phase)) ops) none runs found
    (λ rest there. none-runs ops n is rest runs there)
