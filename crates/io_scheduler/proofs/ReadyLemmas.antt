-- What is ready on a lane, as operations come and others change.
use Rattle.std.proofs.Common.{arith, ap, eqb, refl, subst, sym, ◌∙◌, ⊎_elim, ◌≢◌}
use Rattle.std.proofs.lemmas.Bool.{true≢false}
use Rattle.std.proofs.lemmas.Bool.Decides.{eqb_tells}
use Rattle.std.proofs.lemmas.List.{append-nil, take-append-drop}
use Rattle.std.specs.Prelude.{◌≡◌, ◌<◌, ℕ, ◌+◌, ◌==◌, Bool, true, false, List, [], ◌∷◌, ◌++◌, Some, drop, take, if◌then◌else◌}
use Rattle.io_rules.specs.declared.name.Lane.{Lane}
use Rattle.io_rules.specs.declared.op.Op.{Op}
use Rattle.io_rules.specs.declared.request.Marks.{Marks}
use Rattle.io_rules.specs.declared.op.Phase.{Phase}
use Rattle.io_rules.specs.Ops.{is_ready, op_at, phase_changed}
use Rattle.io_rules.specs.Strands.{entry_of_dispatch}
use Rattle.io_rules.proofs.TotalLemmas.{Each, each-at, equal, number-op_at, same}
use Rattle.io_strands.specs.declared.ready.ReadyOp.{ReadyOp}
use Rattle.io_strands.specs.Cell.{Cell, called}
use Rattle.io_scheduler.specs.Ready.{AreReady, IsNone, IsReadyAs}
use Rattle.io_scheduler.specs.Shown.{AreBelow}

-- what is ready stays
abbrev pub Keeps : List Op → List Op → Type 0
Keeps old new = (n : ℕ) (op : Op) → op_at old n ≡ Some op → is_ready op.phase ≡ true → op_at new n ≡ Some op

pub ready-kept : {H : Type 0} (marks : H → Marks) (old new : List Op) (on : Lane) (queue : List (ReadyOp H)) →
    Keeps old new → AreReady marks old on queue → AreReady marks new on queue
ready-kept marks old new on [] keeps are = tt
ready-kept marks old new on (r ∷ rest) keeps are = (
  record {
    op = are.0.op;
    is = keeps r.number are.0.op are.0.is (ap is_ready are.0.phase);
    lane = are.0.lane;
    given = are.0.given;
    phase = are.0.phase;
  },
  are.1,
  ready-kept marks old new on rest keeps are.2,
)

pub differ : (m n : ℕ) → m ≢ n → eqb m n ≡ false
differ m n other =
    ⊎_elim (λ (t : (eqb m n ≡ true) × (m ≡ n)). absurd (other t.1))
    (λ (t : (eqb m n ≡ false) × (m ≢ n)). t.0) (eqb_tells m n)

turned : (m n : ℕ) → eqb m n ≡ false → eqb n m ≡ false
turned m n isnt =
    differ n m (λ is. true≢false (sym (same n) ∙ ap (λ k. eqb k n) is ∙ isnt))

none-middle : {H : Type 0} (n : ℕ) (before behind : List (ReadyOp H)) (new : ReadyOp H) → IsNone n (before ++ behind) →
    eqb new.number n ≡ false → IsNone n (before ++ new ∷ behind)
none-middle n [] behind new none other = (other, none)
none-middle n (r ∷ before) behind new none other = (none.0, none-middle n before behind new none.1 other)

-- one more is ready, behind some and before others
ready-middle : {H : Type 0} (marks : H → Marks) (ops : List Op) (on : Lane) (before behind : List (ReadyOp H))
    (new : ReadyOp H) → AreReady marks ops on (before ++ behind) → IsReadyAs marks ops on new →
    IsNone new.number (before ++ behind) → AreReady marks ops on (before ++ new ∷ behind)
ready-middle marks ops on [] behind new are is none = (is, none, are)
ready-middle marks ops on (r ∷ before) behind new are is none = (
  are.0,
  none-middle r.number before behind new are.1 (turned r.number new.number none.0),
  ready-middle marks ops on before behind new are.2 is none.1,
)

pub ready-push : {H : Type 0} (marks : H → Marks) (ops : List Op) (on : Lane) (queue : List (ReadyOp H))
    (new : ReadyOp H) → AreReady marks ops on queue → IsReadyAs marks ops on new → IsNone new.number queue →
    AreReady marks ops on (queue ++ new ∷ [])
ready-push marks ops on queue new are is none =
    ready-middle marks ops on queue [] new (subst (AreReady marks ops on) (sym (append-nil queue)) are) is
    (subst (IsNone new.number) (sym (append-nil queue)) none)

-- on a strand
pub ready-called : {H S : Type 0} (marks : H → Marks) (ops : List Op) (on : Lane) (first : Bool) (c : Cell H S)
    (new : ReadyOp H) → AreReady marks ops on c.queue → IsReadyAs marks ops on new → IsNone new.number c.queue →
    AreReady marks ops on (called (entry_of_dispatch first) new c).queue
ready-called marks ops on false c new are is none = ready-push marks ops on c.queue new are is none
ready-called marks ops on true c new are is none =
    let parts = sym (take-append-drop c.front c.queue) in
    ready-middle marks ops on (take c.front c.queue) (drop c.front c.queue) new (subst (AreReady marks ops on) parts are) is
    (subst (IsNone new.number) parts none)

pub each_below : (next : ℕ) (ops : List Op) → AreBelow next ops → Each (λ n on. n < next) ops
each_below next [] are = tt
each_below next (op ∷ ops) are = (are.0, each_below next ops are.1)

pub below_each : (next : ℕ) (ops : List Op) → Each (λ n on. n < next) ops → AreBelow next ops
below_each next [] each = tt
below_each next (op ∷ ops) each = (each.0, below_each next ops each.1)

pub at_below : (next n : ℕ) (ops : List Op) (op : Op) → AreBelow next ops → op_at ops n ≡ Some op → n < next
at_below next n ops op are is =
    let lt = each-at (λ k on. k < next) n ops op (each_below next ops are) is in
    let number = number-op_at n ops op is in omega (arith, lt, number)

-- the next number is none of theirs
pub none_next : {H : Type 0} (marks : H → Marks) (next : ℕ) (ops : List Op) (on : Lane) (queue : List (ReadyOp H)) →
    AreBelow next ops → AreReady marks ops on queue → IsNone next queue
none_next marks next ops on [] below are = tt
none_next marks next ops on (r ∷ rest) below are =
    let lt = at_below next r.number ops are.0.op below are.0.is in
    (differ r.number next (λ is. absurd (omega (arith, lt, is))), none_next marks next ops on rest below are.2)

not_here : (new : Op) (x : Op) (rest : List Op) (b : Bool) → (x.number == new.number) ≡ b → x.number < new.number →
    op_at rest new.number ≡ Some new → (if b then Some x else op_at rest new.number) ≡ Some new
not_here new x rest true is less later =
    let number = equal x.number new.number is in absurd (omega (arith, less, number))
not_here new x rest false is less later = later

-- a new operation is found by its number
pub at_new : (ops : List Op) (new : Op) → AreBelow new.number ops → op_at (ops ++ new ∷ []) new.number ≡ Some new
at_new [] new below = ap (λ b. if b then Some new else op_at [] new.number) (same new.number)
at_new (x ∷ ops) new below =
    not_here new x (ops ++ new ∷ []) (x.number == new.number) refl below.0 (at_new ops new below.1)

-- the phase of the last one changes
pub changed_new : (g : Op → Phase) (ops : List Op) (new : Op) → AreBelow new.number ops →
    phase_changed new.number g (ops ++ new ∷ []) ≡ ops ++ record new { phase = g new } ∷ []
changed_new g [] new below =
    let changed : Op → Op = λ y. record y { phase = g y } in
    ap (λ b. if b then changed new ∷ [] else new ∷ []) (same new.number)
changed_new g (x ∷ ops) new below =
    let lt = below.0 in
    let changed : Op → Op = λ y. record y { phase = g y } in
    ap (λ b. if b then changed x ∷ (ops ++ new ∷ []) else x ∷ phase_changed new.number g (ops ++ new ∷ []))
    (differ x.number new.number (λ is. absurd (omega (arith, lt, is))))
    ∙ ap (λ rest. x ∷ rest) (changed_new g ops new below.1)

pub below-push : (next : ℕ) (ops : List Op) (new : Op) → AreBelow next ops → new.number ≡ next →
    AreBelow (next + 1) (ops ++ new ∷ [])
below-push next [] new below is = (omega (arith, is), tt)
below-push next (x ∷ ops) new below is =
    let lt = below.0 in (omega (arith, lt), below-push next ops new below.1 is)

changed_at : (n : ℕ) (g : Op → Phase) (x it : Op) (ops : List Op) (b : Bool) → (x.number == n) ≡ b →
    (if b then Some x else op_at ops n) ≡ Some it →
    (op_at ops n ≡ Some it → op_at (phase_changed n g ops) n ≡ Some (record it { phase = g it })) →
    op_at (if b then record x { phase = g x } ∷ ops else x ∷ phase_changed n g ops) n ≡ Some (record it { phase = g it })
changed_at n g x it ops true same_number found later =
    let it_is : x ≡ it = cc in
    let changed : Op → Op = λ y. record y { phase = g y } in
    ap (λ c. if c then Some (changed x) else op_at ops n) same_number ∙ ap (λ y. Some (changed y)) it_is
changed_at n g x it ops false other found later =
    ap (λ c. if c then Some x else op_at (phase_changed n g ops) n) other ∙ later found

-- the operation whose phase changes
pub at_changed : (n : ℕ) (g : Op → Phase) (ops : List Op) (it : Op) → op_at ops n ≡ Some it →
    op_at (phase_changed n g ops) n ≡ Some (record it { phase = g it })
at_changed n g [] it is = absurd (cc)
at_changed n g (x ∷ ops) it is = changed_at n g x it ops (x.number == n) refl is (at_changed n g ops it)
