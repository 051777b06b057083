-- What handlers that execute have, and what events leave of that.
use Rattle.std.proofs.Common.{arith, refl, subst, sym, ◌∙◌}
use Rattle.std.proofs.lemmas.Bool.{true≢false}
use Rattle.std.specs.Prelude.{◌≡◌, ℕ, ◌+◌, Bool, true, false, List, [], ◌∷◌, Option, Some, None, if◌then◌else◌}
use Rattle.io_rules.specs.declared.control.Control.{Control}
use Rattle.io_rules.specs.declared.control.Control.TheVariants as control
use Rattle.io_rules.specs.declared.event.Event.{Event}
use Rattle.io_rules.specs.declared.event.Event.TheVariants as event
use Rattle.io_rules.specs.declared.gave.Gave.{Gave}
use Rattle.io_rules.specs.declared.name.Kind.{Kind}
use Rattle.io_rules.specs.declared.op.Phase.TheVariants as phase
use Rattle.io_rules.specs.declared.operation.Operation.{Operation}
use Rattle.io_rules.specs.declared.operation.Side.TheVariants as side
use Rattle.io_rules.specs.declared.spares.Spares.{Spares}
use Rattle.asio_types.specs.declared.code.Code.{Code}
use Rattle.io_rules.specs.declared.request.Gone.{Gone}
use Rattle.io_rules.specs.declared.request.Request.{Request}
use Rattle.io_rules.specs.Calls.{accepted, after_call, caller_lane, first_phase, new_op, target_if}
use Rattle.io_rules.specs.Room.{place_given_by}
use Rattle.io_rules.specs.Strands.{entry_of}
use Rattle.io_rules.specs.Cancelling.{cancelled_phase, is_out_for, is_tried, ops_cancelled}
use Rattle.io_rules.specs.Changes.{ops_changed, reached, spare_used}
use Rattle.io_rules.specs.Completing.{MayBeDone, after_done, completed, kind_of}
use Rattle.io_rules.specs.Legal.{after}
use Rattle.io_rules.specs.Operations.{Target, behind_connect, target_of}
use Rattle.io_rules.specs.Ops.{is_running, op_at, phase_changed, without}
use Rattle.io_rules.specs.Serving.{first_of, ops_served, served, served_op, served_phase}
use Rattle.io_rules.specs.State.{ContextState, Op, Phase, StreamState, stream_at}
use Rattle.io_rules.specs.Tries.{phase_back, phase_found}
use Rattle.io_rules.proofs.MoveLemmas.{completing}
use Rattle.io_rules.proofs.StageLemmas.{Idle, back_keeps, cancel_keeps, found_keeps, serve_phase_keeps, stage_of}
use Rattle.io_rules.proofs.TotalLemmas.{number-op_at, total, total-changed, total-kept, total-kept_of, total-push, total-without}

-- a share that tells operations apart only while they execute
abbrev pub IsCalm : (ℕ → Phase → ℕ) → Type 0
IsCalm w = (n : ℕ) (p q : Phase) → is_running p ≡ false → is_running q ≡ false → w n p ≡ w n q

-- and then not by their spare names
pub record IsQuiet (w : ℕ → Phase → ℕ) : Type 0 where
  pub calm : IsCalm w
  pub spares : (n : ℕ) (own : Bool) (grant : ℕ) (one other : Spares) →
      w n (phase.Running own grant one) ≡ w n (phase.Running own grant other)

abbrev pub weighed : (ℕ → Phase → ℕ) → Op → ℕ
weighed w op = w op.number op.phase

pub idle_calm : (p : Phase) → stage_of p ≡ Idle → is_running p ≡ false
idle_calm (phase.Pending moved cancelled) is = refl
idle_calm (phase.Settled code size) is = refl
idle_calm (phase.Ready code size) is = refl
idle_calm (phase.Running own grant spares) is = absurd (cc)

calm_cancel : (w : ℕ → Phase → ℕ) → IsCalm w → (n : ℕ) (tried : Bool) (p : Phase) →
    w n (cancelled_phase tried p) ≡ w n p
calm_cancel w calm n tried (phase.Pending moved cancelled) =
    calm n _ _ (idle_calm _ (cancel_keeps tried (phase.Pending moved cancelled))) refl
calm_cancel w calm n tried (phase.Settled code size) = refl
calm_cancel w calm n tried (phase.Ready code size) = refl
calm_cancel w calm n tried (phase.Running own grant spares) = refl

calm_serve_phase : (w : ℕ → Phase → ℕ) → IsCalm w → (n : ℕ) (s : StreamState) (kind : Operation) (p : Phase) →
    w n (served_phase s kind p).phase ≡ w n p
calm_serve_phase w calm n s kind (phase.Pending moved cancelled) =
    calm n _ _ (idle_calm _ (serve_phase_keeps s kind (phase.Pending moved cancelled))) refl
calm_serve_phase w calm n s kind (phase.Settled code size) = refl
calm_serve_phase w calm n s kind (phase.Ready code size) = refl
calm_serve_phase w calm n s kind (phase.Running own grant spares) = refl

calm_serve_if : (w : ℕ → Phase → ℕ) → IsCalm w → (n : ℕ) (s : StreamState) (op : Op) (b : Bool) →
    w n (if b then record { phase = op.phase; held = s.held } else served_phase s op.kind op.phase).phase ≡ w n op.phase
calm_serve_if w calm n s op true = refl
calm_serve_if w calm n s op false = calm_serve_phase w calm n s op.kind op.phase

calm_back : (w : ℕ → Phase → ℕ) → IsCalm w → (n : ℕ) (s : StreamState) (given : Gave) (kind : Operation) (p : Phase) →
    w n (phase_back s given kind p) ≡ w n p
calm_back w calm n s given kind (phase.Pending moved cancelled) =
    calm n _ _ (idle_calm _ (back_keeps s given kind (phase.Pending moved cancelled))) refl
calm_back w calm n s given kind (phase.Settled code size) = refl
calm_back w calm n s given kind (phase.Ready code size) = refl
calm_back w calm n s given kind (phase.Running own grant spares) = refl

calm_found : (w : ℕ → Phase → ℕ) → IsCalm w → (n : ℕ) (s : StreamState) (end : Option ℕ) (kind : Operation)
    (p : Phase) → w n (phase_found s end kind p) ≡ w n p
calm_found w calm n s end kind (phase.Pending moved cancelled) =
    calm n _ _ (idle_calm _ (found_keeps s end kind (phase.Pending moved cancelled))) refl
calm_found w calm n s end kind (phase.Settled code size) = refl
calm_found w calm n s end kind (phase.Ready code size) = refl
calm_found w calm n s end kind (phase.Running own grant spares) = refl

quiet_spare : (w : ℕ → Phase → ℕ) → IsQuiet w → (n : ℕ) (kind : Kind) (p : Phase) → w n (spare_used kind p) ≡ w n p
quiet_spare w quiet n kind (phase.Pending moved cancelled) = refl
quiet_spare w quiet n kind (phase.Settled code size) = refl
quiet_spare w quiet n kind (phase.Ready code size) = refl
quiet_spare w quiet n kind (phase.Running own grant spares) = quiet.spares n own grant _ spares

pub weighed-cancelled : (w : ℕ → Phase → ℕ) → IsCalm w → (s : ContextState) (numbers : List ℕ) (ops : List Op) →
    total (weighed w) (ops_cancelled s numbers ops) ≡ total (weighed w) ops
weighed-cancelled w calm s [] ops = refl
weighed-cancelled w calm s (n ∷ numbers) ops =
    weighed-cancelled w calm s numbers (phase_changed n (λ op. cancelled_phase (is_tried s op) op.phase) ops)
    ∙ total-kept (weighed w) n (λ op. cancelled_phase (is_tried s op) op.phase)
    (λ op. calm_cancel w calm op.number (is_tried s op) op.phase) ops

pub weighed-served : (w : ℕ → Phase → ℕ) → IsCalm w → (s : ContextState) (target : Option Target) →
    total (weighed w) (ops_served s target) ≡ total (weighed w) s.ops
weighed-served w calm s None = refl
weighed-served w calm s (Some target) =
    let stream = stream_at s.streams target.stream in
    total-kept_of (weighed w) (first_of target.side stream) (λ op. (served_op stream target.side op).phase)
    (λ op. calm_serve_if w calm op.number stream op (is_out_for target.side stream.out)) s.ops

weighed_changed : (w : ℕ → Phase → ℕ) → IsQuiet w → (by : Option ℕ) (change : Control) (ops : List Op) →
    total (weighed w) (ops_changed by change ops) ≡ total (weighed w) ops
weighed_changed w quiet by (control.Make kind name) ops =
    total-kept_of (weighed w) by (λ op. spare_used kind op.phase)
    (λ op. quiet_spare w quiet op.number kind op.phase) ops
weighed_changed w quiet by _ ops = refl

-- what comes from the outside leaves it
abbrev pub is_told : Event → Bool
is_told (event.Back name side given) = true
is_told (event.Searched name end) = true
is_told _ = false

pub weighed-told : (w : ℕ → Phase → ℕ) → IsCalm w → (e : Event) (s : ContextState) → is_told e ≡ true →
    total (weighed w) (after e s).ops ≡ total (weighed w) s.ops
weighed-told w calm (event.Back name side given) s told =
    let stream = stream_at s.streams name in
    total-kept_of (weighed w) (first_of side stream) (λ op. phase_back stream given op.kind op.phase)
    (λ op. calm_back w calm op.number stream given op.kind op.phase) s.ops
weighed-told w calm (event.Searched name end) s told =
    let stream = stream_at s.streams name in
    total-kept_of (weighed w) (first_of side.Read stream) (λ op. phase_found stream end op.kind op.phase)
    (λ op. calm_found w calm op.number stream end op.kind op.phase) s.ops
weighed-told w calm _ s told = absurd (true≢false (sym told))

-- events that take and give no places
abbrev pub is_placeless : Event → Bool
is_placeless (event.Called op by request gone) = false
is_placeless (event.Granted op spares) = false
is_placeless (event.Done op code size) = false
is_placeless (event.Begun op spares) = false
is_placeless (event.Ended op mark) = false
is_placeless (event.Dropped op mark) = false
is_placeless _ = true

pub weighed-other : (w : ℕ → Phase → ℕ) → IsQuiet w → (e : Event) (s : ContextState) → is_placeless e ≡ true →
    total (weighed w) (after e s).ops ≡ total (weighed w) s.ops
weighed-other w quiet (event.Called op by request gone) s other = absurd (true≢false (sym other))
weighed-other w quiet (event.Granted op spares) s other = absurd (true≢false (sym other))
weighed-other w quiet (event.Done op code size) s other = absurd (true≢false (sym other))
weighed-other w quiet (event.Begun op spares) s other = absurd (true≢false (sym other))
weighed-other w quiet (event.Ended op mark) s other = absurd (true≢false (sym other))
weighed-other w quiet (event.Dropped op mark) s other = absurd (true≢false (sym other))
weighed-other w quiet (event.Changed by change) s other =
    weighed_changed w quiet by change (ops_cancelled s (reached s change) s.ops)
    ∙ weighed-cancelled w quiet.calm s (reached s change) s.ops
weighed-other w quiet (event.Back name side given) s other =
    weighed-told w quiet.calm (event.Back name side given) s refl
weighed-other w quiet (event.Searched name end) s other = weighed-told w quiet.calm (event.Searched name end) s refl
weighed-other w quiet _ s other = refl

-- one operation changes
abbrev pub Changes : (ℕ → Phase → ℕ) → List Op → List Op → ℕ → Phase → Phase → Type 0
Changes w old new n from to = total (weighed w) new + w n from ≡ total (weighed w) old + w n to

pub weighed-changed : (w : ℕ → Phase → ℕ) (ops : List Op) (n : ℕ) (g : Op → Phase) (it : Op) → op_at ops n ≡ Some it →
    Changes w ops (phase_changed n g ops) n it.phase (g it)
weighed-changed w ops n g it is =
    subst (λ k. Changes w ops (phase_changed n g ops) k it.phase (g it)) (number-op_at n ops it is)
    (total-changed (weighed w) n g ops it is)

pub weighed-without : (w : ℕ → Phase → ℕ) (ops : List Op) (n : ℕ) (it : Op) → op_at ops n ≡ Some it →
    total (weighed w) (without n ops) + w n it.phase ≡ total (weighed w) ops
weighed-without w ops n it is =
    subst (λ k. total (weighed w) (without n ops) + w k it.phase ≡ total (weighed w) ops) (number-op_at n ops it is)
    (total-without (weighed w) n ops it is)

pub weighed-done : (w : ℕ → Phase → ℕ) → IsCalm w → (op : ℕ) (given : Code) (size : ℕ) (s : ContextState) →
    MayBeDone s op given size → total (weighed w) (after_done op given size s).ops ≡ total (weighed w) s.ops
weighed-done w calm op given size s may =
    let it = completing s op given size may in
    let kind = kind_of (op_at s.ops op) in
    let first = completed op given size s in
    let second = served (target_of kind) first in
    let third = served (behind_connect side.Read kind) second in
    let change = weighed-changed w s.ops op (λ other. phase.Ready given size) it.it it.is in
    let idle = calm op (phase.Ready given size) it.it.phase refl (idle_calm it.it.phase it.idle) in
    weighed-served w calm third (behind_connect side.Write kind)
    ∙ weighed-served w calm second (behind_connect side.Read kind) ∙ weighed-served w calm first (target_of kind)
    ∙ omega (arith, change, idle)

pub weighed-called : (w : ℕ → Phase → ℕ) → IsCalm w → (op : ℕ) (by : Option ℕ) (request : Request) (gone : Gone)
    (s : ContextState) →
    total (weighed w) (after_call op by request gone s).ops
    ≡ total (weighed w) (place_given_by by s.ops)
    + w op (first_phase (entry_of (caller_lane s.ops by) request gone) gone)
weighed-called w calm op by request gone s =
    let entry = entry_of (caller_lane s.ops by) request gone in
    weighed-served w calm (accepted entry op by request gone s) (target_if gone (target_of request.kind))
    ∙ total-push (weighed w) (place_given_by by s.ops) (new_op entry op request gone)
