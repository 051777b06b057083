-- Sums over the operations of a state, and what holds of each.
use Rattle.std.proofs.Common.{arith, ap, eqb, refl, subst, sym, ◌∙◌}
use Rattle.std.proofs.lemmas.Bool.{true≢false}
use Rattle.std.proofs.lemmas.Bool.Decides.{eqb_tells}
use Rattle.std.proofs.Common.{⊎_elim, ◌≢◌}
use Rattle.std.specs.Prelude.{◌≡◌, ◌≤◌, ℕ, ◌+◌, ◌==◌, Bool, true, false, List, [], ◌∷◌, ◌++◌, Option, Some, None, sum_by, if◌then◌else◌}
use Rattle.std.proofs.lemmas.List.Sums.{sum_by-cons}
use Rattle.io_rules.specs.declared.name.Lane.{Lane}
use Rattle.io_rules.specs.Ops.{lane_at, lane_of, op_at, passes, phase_changed, phase_changed_of, without, is_at}
use Rattle.io_rules.specs.State.{Op, Phase}

abbrev pub total : (Op → ℕ) → List Op → ℕ
total f [] = 0
total f (op ∷ ops) = f op + total f ops

pub sum_by-total : (f : Op → ℕ) (ops : List Op) → sum_by f ops ≡ total f ops
sum_by-total f [] = refl
sum_by-total f (op ∷ ops) = sum_by-cons f op ops ∙ ap (λ n. f op + n) (sum_by-total f ops)

pub apart : (m n : ℕ) → eqb m n ≡ false → n ≢ m
apart m n e is =
    ⊎_elim (λ (t : (eqb m n ≡ true) × (m ≡ n)). true≢false (sym t.0 ∙ e))
    (λ (t : (eqb m n ≡ false) × (m ≢ n)). t.1 (sym is)) (eqb_tells m n)

pub equal : (m n : ℕ) → eqb m n ≡ true → m ≡ n
equal m n e =
    ⊎_elim (λ (t : (eqb m n ≡ true) × (m ≡ n)). t.1)
    (λ (t : (eqb m n ≡ false) × (m ≢ n)). absurd (true≢false (sym e ∙ t.0))) (eqb_tells m n)

pub same : (n : ℕ) → eqb n n ≡ true
same n =
    ⊎_elim (λ (t : (eqb n n ≡ true) × (n ≡ n)). t.0)
    (λ (t : (eqb n n ≡ false) × (n ≢ n)). absurd (t.1 refl)) (eqb_tells n n)

pub total-push : (f : Op → ℕ) (ops : List Op) (op : Op) → total f (ops ++ op ∷ []) ≡ total f ops + f op
total-push f [] op = omega arith
total-push f (x ∷ ops) op = let rest = total-push f ops op in omega (arith, rest)

-- a phase that changes changes a sum by its own share
changed_here : (f : Op → ℕ) (g : Op → Phase) (x : Op) (ops rest : List Op) (at : Option Op) (op : Op) (b : Bool) →
    (if b then Some x else at) ≡ Some op →
    (at ≡ Some op → total f rest + f op ≡ total f ops + f (record op { phase = g op })) →
    total f (if b then record x { phase = g x } ∷ ops else x ∷ rest) + f op
    ≡ f x + total f ops + f (record op { phase = g op })
changed_here f g x ops rest at op true is later =
    let it : x ≡ op = cc in
    subst
    (λ y. f (record x { phase = g x }) + total f ops + f y ≡ f x + total f ops + f (record y { phase = g y })) it
    (omega arith)
changed_here f g x ops rest at op false is later = let behind = later is in omega (arith, behind)

pub total-changed : (f : Op → ℕ) (n : ℕ) (g : Op → Phase) (ops : List Op) (op : Op) → op_at ops n ≡ Some op →
    total f (phase_changed n g ops) + f op ≡ total f ops + f (record op { phase = g op })
total-changed f n g [] op found = absurd (cc)
total-changed f n g (x ∷ ops) op found =
    changed_here f g x ops (phase_changed n g ops) (op_at ops n) op (x.number == n) found (total-changed f n g ops op)

without_here : (f : Op → ℕ) (x : Op) (ops rest : List Op) (at : Option Op) (op : Op) (b : Bool) →
    (if b then Some x else at) ≡ Some op → (at ≡ Some op → total f rest + f op ≡ total f ops) →
    total f (if b then ops else x ∷ rest) + f op ≡ f x + total f ops
without_here f x ops rest at op true is later =
    let it : x ≡ op = cc in subst (λ y. total f ops + f y ≡ f x + total f ops) it (omega arith)
without_here f x ops rest at op false is later = let behind = later is in omega (arith, behind)

-- one that is over takes its share away
pub total-without : (f : Op → ℕ) (n : ℕ) (ops : List Op) (op : Op) → op_at ops n ≡ Some op →
    total f (without n ops) + f op ≡ total f ops
total-without f n [] op found = absurd (cc)
total-without f n (x ∷ ops) op found =
    without_here f x ops (without n ops) (op_at ops n) op (x.number == n) found (total-without f n ops op)

pub share : (f : Op → ℕ) (n : ℕ) (ops : List Op) (op : Op) → op_at ops n ≡ Some op → f op ≤ total f ops
share f n ops op found = let whole = total-without f n ops op found in omega (arith, whole)

kept_here : (f : Op → ℕ) (g : Op → Phase) (x : Op) (ops rest : List Op) (b : Bool) →
    f (record x { phase = g x }) ≡ f x → total f rest ≡ total f ops →
    total f (if b then record x { phase = g x } ∷ ops else x ∷ rest) ≡ f x + total f ops
kept_here f g x ops rest true own later = ap (λ n. n + total f ops) own
kept_here f g x ops rest false own later = ap (λ n. f x + n) later

-- a change that leaves each share leaves the sum
pub total-kept : (f : Op → ℕ) (n : ℕ) (g : Op → Phase) → ((op : Op) → f (record op { phase = g op }) ≡ f op) →
    (ops : List Op) → total f (phase_changed n g ops) ≡ total f ops
total-kept f n g keeps [] = refl
total-kept f n g keeps (x ∷ ops) =
    kept_here f g x ops (phase_changed n g ops) (x.number == n) (keeps x) (total-kept f n g keeps ops)

pub total-kept_of : (f : Op → ℕ) (n : Option ℕ) (g : Op → Phase) →
    ((op : Op) → f (record op { phase = g op }) ≡ f op) → (ops : List Op) →
    total f (phase_changed_of n g ops) ≡ total f ops
total-kept_of f None g keeps ops = refl
total-kept_of f (Some n) g keeps ops = total-kept f n g keeps ops

found_number : (n : ℕ) (x : Op) (at : Option Op) (op : Op) (b : Bool) → (x.number == n) ≡ b →
    (if b then Some x else at) ≡ Some op → (at ≡ Some op → op.number ≡ n) → op.number ≡ n
found_number n x at op true is found later =
    let it : x ≡ op = cc in subst (λ (y : Op). y.number ≡ n) it (equal x.number n is)
found_number n x at op false is found later = later found

-- what is found by a number has it
pub number-op_at : (n : ℕ) (ops : List Op) (op : Op) → op_at ops n ≡ Some op → op.number ≡ n
number-op_at n [] op found = absurd (cc)
number-op_at n (x ∷ ops) op found =
    found_number n x (op_at ops n) op (x.number == n) refl found (number-op_at n ops op)

-- an operation whose phase passes a test is there
pub record Found (test : Phase → Bool) (ops : List Op) (n : ℕ) : Type 0 where
  pub op : Op
  pub is : op_at ops n ≡ Some op
  pub passed : test op.phase ≡ true

found_in : (test : Phase → Bool) (ops : List Op) (n : ℕ) (at : Option Op) → op_at ops n ≡ at →
    passes test at ≡ true → Found test ops n
found_in test ops n None is passed = absurd (true≢false (sym passed))
found_in test ops n (Some op) is passed = record { op = op; is = is; passed = passed }

pub found : (test : Phase → Bool) (ops : List Op) (n : ℕ) → is_at test ops n ≡ true → Found test ops n
found test ops n passed = found_in test ops n (op_at ops n) refl passed

pub lane-found : (ops : List Op) (n : ℕ) (op : Op) → op_at ops n ≡ Some op → lane_at ops n ≡ op.lane
lane-found ops n op is = ap lane_of is

-- what holds of the number and the lane of each operation
abbrev pub Each : (ℕ → Lane → Type 0) → List Op → Type 0
Each P [] = Unit {0}
Each P (op ∷ ops) = P op.number op.lane × Each P ops

each_changed_here : (P : ℕ → Lane → Type 0) (g : Op → Phase) (x : Op) (ops rest : List Op) (b : Bool) →
    P x.number x.lane → Each P ops → Each P rest → Each P (if b then record x { phase = g x } ∷ ops else x ∷ rest)
each_changed_here P g x ops rest true own all later = (own, all)
each_changed_here P g x ops rest false own all later = (own, later)

pub each-changed : (P : ℕ → Lane → Type 0) (n : ℕ) (g : Op → Phase) (ops : List Op) → Each P ops →
    Each P (phase_changed n g ops)
each-changed P n g [] all = tt
each-changed P n g (x ∷ ops) all =
    each_changed_here P g x ops (phase_changed n g ops) (x.number == n) all.0 all.1 (each-changed P n g ops all.1)

pub each-changed_of : (P : ℕ → Lane → Type 0) (n : Option ℕ) (g : Op → Phase) (ops : List Op) → Each P ops →
    Each P (phase_changed_of n g ops)
each-changed_of P None g ops all = all
each-changed_of P (Some n) g ops all = each-changed P n g ops all

each_without_here : (P : ℕ → Lane → Type 0) (x : Op) (ops rest : List Op) (b : Bool) → P x.number x.lane →
    Each P ops → Each P rest → Each P (if b then ops else x ∷ rest)
each_without_here P x ops rest true own all later = all
each_without_here P x ops rest false own all later = (own, later)

pub each-without : (P : ℕ → Lane → Type 0) (n : ℕ) (ops : List Op) → Each P ops → Each P (without n ops)
each-without P n [] all = tt
each-without P n (x ∷ ops) all =
    each_without_here P x ops (without n ops) (x.number == n) all.0 all.1 (each-without P n ops all.1)

pub each-push : (P : ℕ → Lane → Type 0) (ops : List Op) (op : Op) → Each P ops → P op.number op.lane →
    Each P (ops ++ op ∷ [])
each-push P [] op all own = (own, tt)
each-push P (x ∷ ops) op all own = (all.0, each-push P ops op all.1 own)

pub each-weaker : (P Q : ℕ → Lane → Type 0) → ((n : ℕ) (lane : Lane) → P n lane → Q n lane) → (ops : List Op) →
    Each P ops → Each Q ops
each-weaker P Q weaker [] all = tt
each-weaker P Q weaker (x ∷ ops) all = (weaker x.number x.lane all.0, each-weaker P Q weaker ops all.1)

each_at_here : (P : ℕ → Lane → Type 0) (x : Op) (at : Option Op) (op : Op) (b : Bool) → P x.number x.lane →
    (if b then Some x else at) ≡ Some op → (at ≡ Some op → P op.number op.lane) → P op.number op.lane
each_at_here P x at op true own found later =
    let it : x ≡ op = cc in subst (λ (y : Op). P y.number y.lane) it own
each_at_here P x at op false own found later = later found

pub each-at : (P : ℕ → Lane → Type 0) (n : ℕ) (ops : List Op) (op : Op) → Each P ops → op_at ops n ≡ Some op →
    P op.number op.lane
each-at P n [] op all found = absurd (cc)
each-at P n (x ∷ ops) op all found =
    each_at_here P x (op_at ops n) op (x.number == n) all.0 found (each-at P n ops op all.1)
