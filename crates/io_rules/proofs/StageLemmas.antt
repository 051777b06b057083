-- How far operations have come, in three stages, and what events leave of that.
use Rattle.std.proofs.Common.{ap, refl, sym, ◌∙◌}
use Rattle.std.proofs.lemmas.Bool.{true≢false}
use Rattle.std.specs.Prelude.{◌≡◌, ℕ, ◌+◌, ◌-◌, ◌==◌, not, nat_le, nat_lt, Bool, true, false, List, [], ◌∷◌, Option, Some, None, if◌then◌else◌}
use Rattle.io_rules.specs.declared.control.Control.{Control}
use Rattle.io_rules.specs.declared.control.Control.TheVariants as control
use Rattle.io_rules.specs.declared.event.Event.{Event}
use Rattle.io_rules.specs.declared.event.Event.TheVariants as event
use Rattle.io_rules.specs.declared.gave.Gave.{Gave}
use Rattle.io_rules.specs.declared.gave.Gave.TheVariants as gave
use Rattle.io_rules.specs.declared.name.Kind.{Kind}
use Rattle.io_rules.specs.declared.name.Lane.{Lane}
use Rattle.io_rules.specs.declared.op.Phase.TheVariants as phase
use Rattle.io_rules.specs.declared.operation.Operation.{Operation}
use Rattle.io_rules.specs.declared.operation.Operation.TheVariants as operation
use Rattle.io_rules.specs.declared.operation.Side.{Side}
use Rattle.io_rules.specs.declared.spares.Spares.{Spares}
use Rattle.io_rules.specs.Cancelling.{cancelled_phase, is_out_for, is_tried, ops_cancelled}
use Rattle.io_rules.specs.Changes.{ops_changed, reached, spare_used}
use Rattle.io_rules.specs.Executions.{granted_more}
use Rattle.io_rules.specs.Legal.{after}
use Rattle.io_rules.specs.Operations.{Target}
use Rattle.io_rules.specs.Ops.{phase_changed, phase_changed_of}
use Rattle.io_rules.specs.Room.{place_given}
use Rattle.io_rules.specs.Serving.{Served, first_of, is_none_of, ops_served, served_linked, served_on, served_op, served_phase}
use Rattle.io_rules.specs.State.{ContextState, Op, Phase, StreamState, stream_at}
use Rattle.io_rules.specs.Tries.{goes_on, phase_back, phase_found, phase_given, phase_moved, phase_searched}
use Rattle.io_rules.proofs.TotalLemmas.{total, total-kept, total-kept_of}

pub data Stage : Type 0 where
  Idle : Stage
  Prepared : Stage
  Executing : Stage

abbrev pub stage_of : Phase → Stage
stage_of (phase.Pending moved cancelled) = Idle
stage_of (phase.Settled code size) = Idle
stage_of (phase.Ready code size) = Prepared
stage_of (phase.Running own grant spares) = Executing

-- a share that knows no more of a phase than its stage
abbrev pub staged : (ℕ → Lane → Stage → ℕ) → Op → ℕ
staged h op = h op.number op.lane (stage_of op.phase)

pub cancel_keeps : (tried : Bool) (p : Phase) → stage_of (cancelled_phase tried p) ≡ stage_of p
cancel_keeps true (phase.Pending moved cancelled) = refl
cancel_keeps false (phase.Pending moved cancelled) = refl
cancel_keeps tried (phase.Settled code size) = refl
cancel_keeps tried (phase.Ready code size) = refl
cancel_keeps tried (phase.Running own grant spares) = refl

abbrev IsIdle : Served → Type 0
IsIdle served = stage_of served.phase ≡ Idle

idle_if : (b : Bool) (x y : Served) → IsIdle x → IsIdle y → IsIdle (if b then x else y)
idle_if true x y one other = one
idle_if false x y one other = other

idle_linked : (s : StreamState) (moved : ℕ) (cancelled : Bool) (kind : Operation) →
    IsIdle (served_linked s moved cancelled kind)
idle_linked s moved cancelled (operation.ReadSome stream size) =
    idle_if (size == 0) _ _ refl (idle_if (s.held == 0) _ _ refl refl)
idle_linked s moved cancelled (operation.ReadAll stream size) = idle_if (nat_le size (moved + s.held)) _ _ refl refl
idle_linked s moved cancelled (operation.ReadUntil stream max) = idle_if (nat_le max s.searched) _ _ refl refl
idle_linked s moved cancelled (operation.WriteSome stream size) = idle_if (size == 0) _ _ refl refl
idle_linked s moved cancelled (operation.WriteAll stream size) = idle_if (size == 0) _ _ refl refl
idle_linked s moved cancelled _ = refl

idle_on : (s : StreamState) (moved : ℕ) (cancelled : Bool) (kind : Operation) →
    IsIdle (served_on s moved cancelled kind)
idle_on s moved cancelled (operation.Accept listener) = refl
idle_on s moved cancelled (operation.Connect stream) = idle_if s.linked _ _ refl refl
idle_on s moved cancelled kind =
    idle_if (not (is_none_of s.connects)) _ _ refl
    (idle_if s.linked (served_linked s moved cancelled kind) _ (idle_linked s moved cancelled kind) refl)

pub serve_phase_keeps : (s : StreamState) (kind : Operation) (p : Phase) →
    stage_of (served_phase s kind p).phase ≡ stage_of p
serve_phase_keeps s kind (phase.Pending moved cancelled) = idle_on s moved cancelled kind
serve_phase_keeps s kind (phase.Settled code size) = refl
serve_phase_keeps s kind (phase.Ready code size) = refl
serve_phase_keeps s kind (phase.Running own grant spares) = refl

pub serve_keeps : (s : StreamState) (side : Side) (op : Op) → stage_of (served_op s side op).phase ≡ stage_of op.phase
serve_keeps s side op = go (is_out_for side s.out)
  where
    go : (b : Bool) →
        stage_of (if b then record { phase = op.phase; held = s.held }
        else served_phase s op.kind op.phase).phase ≡ stage_of op.phase
    go true = refl
    go false = serve_phase_keeps s op.kind op.phase

goes_on_idle : (moved : ℕ) (cancelled : Bool) → stage_of (goes_on moved cancelled) ≡ Idle
goes_on_idle moved true = refl
goes_on_idle moved false = refl

idle_phase_if : (b : Bool) (x y : Phase) → stage_of x ≡ Idle → stage_of y ≡ Idle → stage_of (if b then x else y) ≡ Idle
idle_phase_if true x y one other = one
idle_phase_if false x y one other = other

moved_idle : (kind : Operation) (moved came : ℕ) (cancelled : Bool) → stage_of (phase_moved kind moved came cancelled) ≡ Idle
moved_idle (operation.ReadAll stream size) moved came cancelled =
    idle_phase_if (nat_le size (moved + came)) _ _ refl (goes_on_idle (moved + came) cancelled)
moved_idle (operation.WriteAll stream size) moved came cancelled =
    idle_phase_if (nat_le size (moved + came)) _ _ refl (goes_on_idle (moved + came) cancelled)
moved_idle _ moved came cancelled = refl

searched_idle : (kind : Operation) (there : ℕ) (end : Option ℕ) (cancelled : Bool) →
    stage_of (phase_searched kind there end cancelled) ≡ Idle
searched_idle kind there (Some end) cancelled = refl
searched_idle (operation.ReadUntil stream max) there None cancelled =
    idle_phase_if (nat_le max there) _ _ refl (goes_on_idle 0 cancelled)
searched_idle kind there None cancelled = goes_on_idle 0 cancelled

given_idle : (s : StreamState) (kind : Operation) (given : Gave) (moved : ℕ) (cancelled : Bool) →
    stage_of (phase_given s kind given moved cancelled) ≡ Idle
given_idle s kind gave.WouldBlock moved cancelled = goes_on_idle moved cancelled
given_idle s kind (gave.Moved came) moved cancelled = moved_idle kind moved came cancelled
given_idle s kind (gave.Found came end) moved cancelled = searched_idle kind (s.held + came) end cancelled
given_idle s kind (gave.Failed given) moved cancelled = refl
given_idle s kind gave.Made moved cancelled = refl
given_idle s kind gave.Linked moved cancelled = refl

pub back_keeps : (s : StreamState) (given : Gave) (kind : Operation) (p : Phase) →
    stage_of (phase_back s given kind p) ≡ stage_of p
back_keeps s given kind (phase.Pending moved cancelled) = given_idle s kind given moved cancelled
back_keeps s given kind (phase.Settled code size) = refl
back_keeps s given kind (phase.Ready code size) = refl
back_keeps s given kind (phase.Running own grant spares) = refl

pub found_keeps : (s : StreamState) (end : Option ℕ) (kind : Operation) (p : Phase) →
    stage_of (phase_found s end kind p) ≡ stage_of p
found_keeps s end kind (phase.Pending moved cancelled) = searched_idle kind s.held end cancelled
found_keeps s end kind (phase.Settled code size) = refl
found_keeps s end kind (phase.Ready code size) = refl
found_keeps s end kind (phase.Running own grant spares) = refl

pub spare_keeps : (kind : Kind) (p : Phase) → stage_of (spare_used kind p) ≡ stage_of p
spare_keeps kind (phase.Pending moved cancelled) = refl
spare_keeps kind (phase.Settled code size) = refl
spare_keeps kind (phase.Ready code size) = refl
spare_keeps kind (phase.Running own grant spares) = refl

running_if : (b : Bool) (x y : Phase) → stage_of x ≡ Executing → stage_of y ≡ Executing →
    stage_of (if b then x else y) ≡ Executing
running_if true x y one other = one
running_if false x y one other = other

pub give_keeps : (p : Phase) → stage_of (place_given p) ≡ stage_of p
give_keeps (phase.Pending moved cancelled) = refl
give_keeps (phase.Settled code size) = refl
give_keeps (phase.Ready code size) = refl
give_keeps (phase.Running own grant spares) =
    running_if (nat_lt 0 grant) (phase.Running own (grant - 1) spares) (phase.Running false 0 spares) refl refl

pub grant_keeps : (more : ℕ) (taken : Spares) (p : Phase) → stage_of (granted_more more taken p) ≡ stage_of p
grant_keeps more taken (phase.Pending moved cancelled) = refl
grant_keeps more taken (phase.Settled code size) = refl
grant_keeps more taken (phase.Ready code size) = refl
grant_keeps more taken (phase.Running own grant spares) = refl

-- what changes no stage changes no sum
abbrev pub KeepsStages : (Op → Phase) → Type 0
KeepsStages g = (op : Op) → stage_of (g op) ≡ stage_of op.phase

pub kept : (h : ℕ → Lane → Stage → ℕ) (n : ℕ) (g : Op → Phase) → KeepsStages g → (ops : List Op) →
    total (staged h) (phase_changed n g ops) ≡ total (staged h) ops
kept h n g keeps ops = total-kept (staged h) n g (λ op. ap (h op.number op.lane) (keeps op)) ops

pub kept_of : (h : ℕ → Lane → Stage → ℕ) (n : Option ℕ) (g : Op → Phase) → KeepsStages g → (ops : List Op) →
    total (staged h) (phase_changed_of n g ops) ≡ total (staged h) ops
kept_of h n g keeps ops = total-kept_of (staged h) n g (λ op. ap (h op.number op.lane) (keeps op)) ops

pub total-cancelled : (h : ℕ → Lane → Stage → ℕ) (s : ContextState) (numbers : List ℕ) (ops : List Op) →
    total (staged h) (ops_cancelled s numbers ops) ≡ total (staged h) ops
total-cancelled h s [] ops = refl
total-cancelled h s (n ∷ numbers) ops =
    total-cancelled h s numbers (phase_changed n (λ op. cancelled_phase (is_tried s op) op.phase) ops)
    ∙ kept h n (λ op. cancelled_phase (is_tried s op) op.phase) (λ op. cancel_keeps (is_tried s op) op.phase) ops

pub total-served : (h : ℕ → Lane → Stage → ℕ) (s : ContextState) (target : Option Target) →
    total (staged h) (ops_served s target) ≡ total (staged h) s.ops
total-served h s None = refl
total-served h s (Some target) =
    let stream = stream_at s.streams target.stream in
    kept_of h (first_of target.side stream) (λ op. (served_op stream target.side op).phase)
    (λ op. serve_keeps stream target.side op) s.ops

-- events that begin, end, complete and initiate nothing
abbrev pub is_other : Event → Bool
is_other (event.Called op by request gone) = false
is_other (event.Done op code size) = false
is_other (event.Begun op spares) = false
is_other (event.Ended op mark) = false
is_other (event.Dropped op mark) = false
is_other _ = true

total_changed : (h : ℕ → Lane → Stage → ℕ) (by : Option ℕ) (change : Control) (ops : List Op) →
    total (staged h) (ops_changed by change ops) ≡ total (staged h) ops
total_changed h by (control.Make kind name) ops =
    kept_of h by (λ op. spare_used kind op.phase) (λ op. spare_keeps kind op.phase) ops
total_changed h by _ ops = refl

-- leave the stages of all operations
pub total-other : (h : ℕ → Lane → Stage → ℕ) (e : Event) (s : ContextState) → is_other e ≡ true →
    total (staged h) (after e s).ops ≡ total (staged h) s.ops
total-other h (event.Called op by request gone) s other = absurd (true≢false (sym other))
total-other h (event.Done op code size) s other = absurd (true≢false (sym other))
total-other h (event.Begun op spares) s other = absurd (true≢false (sym other))
total-other h (event.Ended op mark) s other = absurd (true≢false (sym other))
total-other h (event.Dropped op mark) s other = absurd (true≢false (sym other))
total-other h (event.Changed by change) s other =
    total_changed h by change (ops_cancelled s (reached s change) s.ops)
    ∙ total-cancelled h s (reached s change) s.ops
total-other h (event.Granted op spares) s other =
    kept h op (λ it. granted_more _ spares it.phase) (λ it. grant_keeps _ spares it.phase) s.ops
total-other h (event.Back name side given) s other =
    let stream = stream_at s.streams name in
    kept_of h (first_of side stream) (λ op. phase_back stream given op.kind op.phase)
    (λ op. back_keeps stream given op.kind op.phase) s.ops
total-other h (event.Searched name end) s other =
    let stream = stream_at s.streams name in
    kept_of h _ (λ op. phase_found stream end op.kind op.phase)
    (λ op. found_keeps stream end op.kind op.phase) s.ops
total-other h _ s other = refl
