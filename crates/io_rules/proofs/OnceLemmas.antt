-- Each handler is called once: what was initiated is what is over and what is there.
use Rattle.std.proofs.Common.{arith, ap, refl, sym, ◌∙◌, ◌≢◌}
use Rattle.std.proofs.lemmas.Bool.{true≢false}
use Rattle.std.proofs.lemmas.Bool.{cases_lt}
use Rattle.std.proofs.Common.{⊎_elim}
use Rattle.std.specs.Prelude.{◌≡◌, ◌<◌, ◌≤◌, ℕ, suc, ◌+◌, ◌==◌, ◌&&◌, not, Bool, true, false, List, [], ◌∷◌, if◌then◌else◌}
use Rattle.std.specs.List.{list_all}
use Rattle.io_rules.specs.declared.event.Event.{Event}
use Rattle.io_rules.specs.declared.event.Event.TheVariants as event
use Rattle.io_rules.specs.declared.limits.Limits.{Limits}
use Rattle.io_rules.specs.declared.name.Lane.{Lane}
use Rattle.io_rules.specs.declared.op.Phase.TheVariants as phase
use Rattle.io_rules.specs.declared.operation.Operation.{Operation}
use Rattle.io_rules.specs.declared.operation.Operation.TheVariants as operation
use Rattle.io_rules.specs.declared.request.Gone.{Gone}
use Rattle.io_rules.specs.declared.request.Gone.TheVariants as gone
use Rattle.io_rules.specs.declared.request.Request.{Request}
use Rattle.io_rules.specs.Calls.{caller_lane, first_phase}
use Rattle.io_rules.specs.History.{begins, calls, completes, drops, ends, is_call, is_nothing, is_over, posts, times}
use Rattle.io_rules.specs.Legal.{IsLegal, state_of}
use Rattle.io_rules.specs.Once.{AllAreOver, BegunBeforeEnded, BegunOrDropped, CalledOnce, CompletedOnce, NumbersRise, OverOnce, ReadyBeforeBegun}
use Rattle.io_rules.specs.Operations.{is_posting}
use Rattle.io_rules.specs.Ops.{is_running}
use Rattle.io_rules.specs.Room.{one_if}
use Rattle.io_rules.specs.State.{Op, Phase}
use Rattle.io_rules.specs.Strands.{Entry, First, Last, Later, entry_of, entry_of_dispatch, entry_of_kind, is_same_strand}
use Rattle.io_rules.proofs.MoveLemmas.{begun-moves, done-moves, dropped-leaves, ended-leaves, total-called}
use Rattle.io_rules.proofs.StageLemmas.{Stage, Idle, Prepared, Executing, stage_of, staged, total-other}
use Rattle.io_rules.proofs.TotalLemmas.{apart, equal, total}

pub suc_if : (b : Bool) (n : ℕ) → (if b then suc n else n) ≡ n + one_if b
suc_if true n = omega arith
suc_if false n = omega arith

-- the operation with this number, and in one stage alone
abbrev pub numbered : ℕ → ℕ → Lane → Stage → ℕ
numbered k n lane stage = one_if (n == k)

abbrev if_idle : Stage → Bool → ℕ
if_idle Idle b = one_if b
if_idle Prepared b = 0
if_idle Executing b = 0

abbrev if_prepared : Stage → Bool → ℕ
if_prepared Idle b = 0
if_prepared Prepared b = one_if b
if_prepared Executing b = 0

abbrev pub if_executing : Stage → Bool → ℕ
if_executing Idle b = 0
if_executing Prepared b = 0
if_executing Executing b = one_if b

abbrev idle : ℕ → ℕ → Lane → Stage → ℕ
idle k n lane stage = if_idle stage (n == k)

abbrev prepared : ℕ → ℕ → Lane → Stage → ℕ
prepared k n lane stage = if_prepared stage (n == k)

abbrev pub executing : ℕ → ℕ → Lane → Stage → ℕ
executing k n lane stage = if_executing stage (n == k)

-- what was initiated is what is over, and what is there
balance : (limits : Limits) (past : List Event) → IsLegal limits past → (k : ℕ) →
    times (calls k) past ≡ times (is_over k) past + total (staged (numbered k)) (state_of limits past).ops
balance limits [] legal k = refl
balance limits (event.Called op by request gone ∷ past) legal k =
    let before = balance limits past legal.1 k in
    let step = total-called (numbered k) op by request gone (state_of limits past) in
    let count = suc_if (op == k) (times (calls k) past) in
    count ∙ ap (λ n. n + one_if (op == k)) before ∙ omega (arith, step)
balance limits (event.Done op code size ∷ past) legal k =
    let before = balance limits past legal.1 k in
    let step = done-moves (numbered k) op code size (state_of limits past) legal.0 in
    omega (arith, step, before)
balance limits (event.Begun op spares ∷ past) legal k =
    let before = balance limits past legal.1 k in
    let step = begun-moves (numbered k) op spares (state_of limits past) legal.0 in
    omega (arith, step, before)
balance limits (event.Ended op mark ∷ past) legal k =
    let before = balance limits past legal.1 k in
    let step = ended-leaves (numbered k) op mark (state_of limits past) legal.0 in
    let count = suc_if (op == k) (times (is_over k) past) in
    omega (arith, step, before, count)
balance limits (event.Dropped op mark ∷ past) legal k =
    let before = balance limits past legal.1 k in
    let step = dropped-leaves (numbered k) op mark (state_of limits past) legal.0 in
    let count = suc_if (op == k) (times (is_over k) past) in
    omega (arith, step, before, count)
balance limits (e ∷ past) legal k =
    balance limits past legal.1 k
    ∙ ap (λ n. times (is_over k) past + n) (sym (total-other (numbered k) e (state_of limits past) refl))

pub over_once : OverOnce
over_once limits past legal op = let all = balance limits past legal op in omega (arith, all)

pub all_are_over : AllAreOver
all_are_over limits past legal whole op =
    sym
    (balance limits past legal op
    ∙ ap (λ ops. times (is_over op) past + total (staged (numbered op)) ops) whole.spent ∙ omega arith)

-- numbers below the next one were given once, and no others
record Given (next count k : ℕ) : Type 0 where
  below : k < next → count ≡ 1
  beyond : next ≤ k → count ≡ 0

given_next : (next count op k : ℕ) → op ≡ next → Given next count k → (b : Bool) → (op == k) ≡ b →
    Given (next + 1) (if b then suc count else count) k
given_next next count op k is given true same_number =
    let k_is : op ≡ k = equal op k same_number in
    let none : count ≡ 0 = given.beyond (omega arith) in
    record { below = λ lt. omega (arith, none); beyond = λ le. absurd (omega arith) }
given_next next count op k is given false other =
    let ne : k ≢ op = apart op k other in
    record {
      below = λ lt. given.below (omega (arith, ne));
      beyond = λ le. given.beyond (omega arith);
    }

given_numbers : (limits : Limits) (past : List Event) → IsLegal limits past → (k : ℕ) →
    Given (state_of limits past).next (times (calls k) past) k
given_numbers limits [] legal k = record { below = λ lt. absurd (omega arith); beyond = λ le. refl }
given_numbers limits (event.Called op by request gone ∷ past) legal k =
    given_next (state_of limits past).next (times (calls k) past) op k legal.0.number
    (given_numbers limits past legal.1 k) (op == k) refl
given_numbers limits (e ∷ past) legal k = given_numbers limits past legal.1 k

pub called_once : CalledOnce
called_once limits past legal op =
    let given = given_numbers limits past legal op in
    ⊎_elim (λ (lt : op < (state_of limits past).next). let one = given.below lt in omega (arith, one))
    (λ (le : (state_of limits past).next ≤ op). let none = given.beyond le in omega (arith, none))
    (cases_lt op (state_of limits past).next)

next_is : (limits : Limits) (past : List Event) → IsLegal limits past → (state_of limits past).next ≡ times is_call past
next_is limits [] legal = refl
next_is limits (event.Called op by request gone ∷ past) legal =
    let before = next_is limits past legal.1 in omega (arith, before)
next_is limits (e ∷ past) legal = next_is limits past legal.1

pub numbers_rise : NumbersRise
numbers_rise limits past op by request gone legal = legal.0.number ∙ next_is limits past legal.1

none_here : (p : Phase) (b rest : Bool) (n : ℕ) → (not (is_running p) && rest) ≡ true → (rest ≡ true → n ≡ 0) →
    if_executing (stage_of p) b + n ≡ 0
none_here (phase.Pending moved cancelled) b rest n none later = let r = later none in omega (arith, r)
none_here (phase.Settled code size) b rest n none later = let r = later none in omega (arith, r)
none_here (phase.Ready code size) b rest n none later = let r = later none in omega (arith, r)
none_here (phase.Running own grant spares) b rest n none later = absurd (true≢false (sym none))

none_executes : (k : ℕ) (ops : List Op) → list_all (λ op. not (is_running op.phase)) ops ≡ true →
    total (staged (executing k)) ops ≡ 0
none_executes k [] none = refl
none_executes k (op ∷ ops) none =
    none_here op.phase (op.number == k) (list_all (λ other. not (is_running other.phase)) ops)
    (total (staged (executing k)) ops) none (none_executes k ops)

-- no handler executes while the context is being destroyed
pub at_rest : (limits : Limits) (past : List Event) → IsLegal limits past →
    (state_of limits past).finishing ≡ true → (k : ℕ) → total (staged (executing k)) (state_of limits past).ops ≡ 0
at_rest limits [] legal finishing k = refl
at_rest limits (event.Finishing ∷ past) legal finishing k = none_executes k (state_of limits past).ops legal.0.handlers
at_rest limits (event.Dropped op mark ∷ past) legal finishing k =
    let before = at_rest limits past legal.1 legal.0.finishing k in
    let step = dropped-leaves (executing k) op mark (state_of limits past) legal.0 in
    omega (arith, step, before)
at_rest limits (e ∷ past) legal finishing k = absurd (true≢false (sym finishing ∙ legal.0.going))

not_yet : (entry : Entry) (given : Gone) (b : Bool) → if_executing (stage_of (first_phase entry given)) b ≡ 0
not_yet First given b = refl
not_yet Last given b = refl
not_yet Later gone.Nothing b = refl
not_yet Later gone.Strand b = refl
not_yet Later gone.Other b = refl

-- what has begun has ended, or executes
pub under_way : (limits : Limits) (past : List Event) → IsLegal limits past → (k : ℕ) →
    times (begins k) past ≡ times (ends k) past + total (staged (executing k)) (state_of limits past).ops
under_way limits [] legal k = refl
under_way limits (event.Called op by request given ∷ past) legal k =
    let s = state_of limits past in
    let before = under_way limits past legal.1 k in
    let step = total-called (executing k) op by request given s in
    let none = not_yet (entry_of (caller_lane s.ops by) request given) given (op == k) in
    omega (arith, step, before, none)
under_way limits (event.Done op code size ∷ past) legal k =
    let before = under_way limits past legal.1 k in
    let step = done-moves (executing k) op code size (state_of limits past) legal.0 in
    omega (arith, step, before)
under_way limits (event.Begun op spares ∷ past) legal k =
    let before = under_way limits past legal.1 k in
    let step = begun-moves (executing k) op spares (state_of limits past) legal.0 in
    let count = suc_if (op == k) (times (begins k) past) in
    count ∙ ap (λ n. n + one_if (op == k)) before ∙ omega (arith, step)
under_way limits (event.Ended op mark ∷ past) legal k =
    let before = under_way limits past legal.1 k in
    let step = ended-leaves (executing k) op mark (state_of limits past) legal.0 in
    let count = suc_if (op == k) (times (ends k) past) in
    omega (arith, step, before, count)
under_way limits (event.Dropped op mark ∷ past) legal k =
    let before = under_way limits past legal.1 k in
    let none = at_rest limits past legal.1 legal.0.finishing k in
    let step = dropped-leaves (executing k) op mark (state_of limits past) legal.0 in
    omega (arith, step, before, none)
under_way limits (e ∷ past) legal k =
    under_way limits past legal.1 k
    ∙ ap (λ n. times (ends k) past + n) (sym (total-other (executing k) e (state_of limits past) refl))

pub begun_first : BegunBeforeEnded
begun_first limits past legal op = let all = under_way limits past legal op in omega (arith, all)

-- what is over has ended or was destroyed
over_is : (past : List Event) (k : ℕ) → times (is_over k) past ≡ times (ends k) past + times (drops k) past
over_is [] k = refl
over_is (event.Ended op mark ∷ past) k =
    let before = over_is past k in
    let one = suc_if (op == k) (times (is_over k) past) in
    let other = suc_if (op == k) (times (ends k) past) in
    omega (arith, before, one, other)
over_is (event.Dropped op mark ∷ past) k =
    let before = over_is past k in
    let one = suc_if (op == k) (times (is_over k) past) in
    let other = suc_if (op == k) (times (drops k) past) in
    omega (arith, before, one, other)
over_is (e ∷ past) k = over_is past k

pub executes_less : (stage : Stage) (b : Bool) → if_executing stage b ≤ one_if b
executes_less Idle b = omega arith
executes_less Prepared b = omega arith
executes_less Executing b = omega arith

pub total-less : (f g : Op → ℕ) → ((op : Op) → f op ≤ g op) → (ops : List Op) → total f ops ≤ total g ops
total-less f g less [] = omega arith
total-less f g less (op ∷ ops) =
    let own = less op in let behind = total-less f g less ops in omega (arith, own, behind)

-- an operation that executes is there
pub executing_less : (k : ℕ) (ops : List Op) → total (staged (executing k)) ops ≤ total (staged (numbered k)) ops
executing_less k ops =
    total-less (staged (executing k)) (staged (numbered k))
    (λ op. executes_less (stage_of op.phase) (op.number == k)) ops

pub begun_or_dropped : BegunOrDropped
begun_or_dropped limits past legal op =
    let all = balance limits past legal op in
    let begun = under_way limits past legal op in
    let over = over_is past op in
    let less = executing_less op (state_of limits past).ops in
    omega (arith, all, begun, over, less)

abbrev posted : Gone → Operation → Bool → Bool
posted given kind b = if is_nothing given then (if is_posting kind then b else false) else false

-- what is posted is ready with its call, and nothing else
ready_dispatch : (same_strand : Bool) (b : Bool) →
    if_prepared (stage_of (first_phase (entry_of_dispatch same_strand) gone.Nothing)) b ≡ one_if b
ready_dispatch true b = refl
ready_dispatch false b = refl

idle_dispatch : (same_strand : Bool) (b : Bool) →
    if_idle (stage_of (first_phase (entry_of_dispatch same_strand) gone.Nothing)) b ≡ 0
idle_dispatch true b = refl
idle_dispatch false b = refl

ready_kind : (caller strand : Lane) (kind : Operation) (b : Bool) →
    if_prepared (stage_of (first_phase (entry_of_kind caller strand kind) gone.Nothing)) b
    ≡ one_if (if is_posting kind then b else false)
ready_kind caller strand operation.Post b = refl
ready_kind caller strand operation.Defer b = refl
ready_kind caller strand operation.Dispatch b = ready_dispatch (is_same_strand caller strand) b
ready_kind caller strand kind b = refl

idle_kind : (caller strand : Lane) (kind : Operation) (b : Bool) →
    if_idle (stage_of (first_phase (entry_of_kind caller strand kind) gone.Nothing)) b
    + one_if (if is_posting kind then b else false) ≡ one_if b
idle_kind caller strand operation.Post b = omega arith
idle_kind caller strand operation.Defer b = omega arith
idle_kind caller strand operation.Dispatch b =
    let none = idle_dispatch (is_same_strand caller strand) b in omega (arith, none)
idle_kind caller strand kind b = omega arith

ready_called : (caller : Lane) (request : Request) (given : Gone) (b : Bool) →
    if_prepared (stage_of (first_phase (entry_of caller request given) given)) b
    ≡ one_if (posted given request.kind b)
ready_called caller request gone.Nothing b = ready_kind caller request.lane request.kind b
ready_called caller request gone.Strand b = refl
ready_called caller request gone.Other b = refl

idle_called : (caller : Lane) (request : Request) (given : Gone) (b : Bool) →
    if_idle (stage_of (first_phase (entry_of caller request given) given)) b
    + one_if (posted given request.kind b) ≡ one_if b
idle_called caller request gone.Nothing b = idle_kind caller request.lane request.kind b
idle_called caller request gone.Strand b = omega arith
idle_called caller request gone.Other b = omega arith

-- what was posted or has completed has begun, or is ready, or was destroyed
readied : (limits : Limits) (past : List Event) → IsLegal limits past → (k : ℕ) →
    times (begins k) past + total (staged (prepared k)) (state_of limits past).ops
    ≤ times (completes k) past + times (posts k) past
readied limits [] legal k = omega arith
readied limits (event.Called op by request given ∷ past) legal k =
    let s = state_of limits past in
    let before = readied limits past legal.1 k in
    let step = total-called (prepared k) op by request given s in
    let new = ready_called (caller_lane s.ops by) request given (op == k) in
    let count = suc_if (posted given request.kind (op == k)) (times (posts k) past) in
    omega (arith, step, before, new, count)
readied limits (event.Done op code size ∷ past) legal k =
    let before = readied limits past legal.1 k in
    let step = done-moves (prepared k) op code size (state_of limits past) legal.0 in
    let count = suc_if (op == k) (times (completes k) past) in
    omega (arith, step, before, count)
readied limits (event.Begun op spares ∷ past) legal k =
    let before = readied limits past legal.1 k in
    let step = begun-moves (prepared k) op spares (state_of limits past) legal.0 in
    let count = suc_if (op == k) (times (begins k) past) in
    omega (arith, step, before, count)
readied limits (event.Ended op mark ∷ past) legal k =
    let before = readied limits past legal.1 k in
    let step = ended-leaves (prepared k) op mark (state_of limits past) legal.0 in
    omega (arith, step, before)
readied limits (event.Dropped op mark ∷ past) legal k =
    let before = readied limits past legal.1 k in
    let step = dropped-leaves (prepared k) op mark (state_of limits past) legal.0 in
    omega (arith, step, before)
readied limits (e ∷ past) legal k =
    let before = readied limits past legal.1 k in
    let step = total-other (prepared k) e (state_of limits past) refl in
    omega (arith, step, before)

pub ready_first : ReadyBeforeBegun
ready_first limits past legal op = let all = readied limits past legal op in omega (arith, all)

-- what was initiated was posted, has completed, or is pending, or was destroyed
pending : (limits : Limits) (past : List Event) → IsLegal limits past → (k : ℕ) →
    times (completes k) past + times (posts k) past + total (staged (idle k)) (state_of limits past).ops
    ≤ times (calls k) past
pending limits [] legal k = omega arith
pending limits (event.Called op by request given ∷ past) legal k =
    let s = state_of limits past in
    let before = pending limits past legal.1 k in
    let step = total-called (idle k) op by request given s in
    let new = idle_called (caller_lane s.ops by) request given (op == k) in
    let count = suc_if (posted given request.kind (op == k)) (times (posts k) past) in
    let all = suc_if (op == k) (times (calls k) past) in
    omega (arith, step, before, new, count, all)
pending limits (event.Done op code size ∷ past) legal k =
    let before = pending limits past legal.1 k in
    let step = done-moves (idle k) op code size (state_of limits past) legal.0 in
    let count = suc_if (op == k) (times (completes k) past) in
    omega (arith, step, before, count)
pending limits (event.Begun op spares ∷ past) legal k =
    let before = pending limits past legal.1 k in
    let step = begun-moves (idle k) op spares (state_of limits past) legal.0 in
    omega (arith, step, before)
pending limits (event.Ended op mark ∷ past) legal k =
    let before = pending limits past legal.1 k in
    let step = ended-leaves (idle k) op mark (state_of limits past) legal.0 in
    omega (arith, step, before)
pending limits (event.Dropped op mark ∷ past) legal k =
    let before = pending limits past legal.1 k in
    let step = dropped-leaves (idle k) op mark (state_of limits past) legal.0 in
    omega (arith, step, before)
pending limits (e ∷ past) legal k =
    let before = pending limits past legal.1 k in
    let step = total-other (idle k) e (state_of limits past) refl in
    omega (arith, step, before)

pub completed_once : CompletedOnce
completed_once limits past legal op = let all = pending limits past legal op in omega (arith, all)
