-- The oldest of a list goes first.
use Rattle.std.proofs.Common.{◌≡◌, ℕ, zero, suc, ◌<◌, ◌≤◌, true, List, ◌∷◌, refl, ap, ◌∙◌, arith}
use Rattle.std.specs.List.{AllPairs, Any}
use Rattle.std.proofs.lemmas.Bool.{false_from_ne_true, ltb-true}
use Rattle.asio_types.specs.declared.code.Code.{Code}
use Rattle.session_script.specs.Script.{ScriptModel}
use Rattle.history_rules.specs.Order.{IsFirstOfLane, IsFirstRequest, called_at, goes_before, is_back_before, is_ready_before}
use Rattle.history_rules.specs.State.{ContextState, State, act_at, call_at, phase_at}
use Rattle.history_rules.specs.declared.phase.ActPhase.{ActPhase}
use Rattle.history_rules.specs.declared.phase.ActPhase.TheVariants as phase
use Rattle.history_rules.specs.declared.phase.CallPhase.{CallPhase}
use Rattle.history_rules.specs.declared.phase.CallPhase.TheVariants as call
use Rattle.history_rules.specs.declared.phase.Cause.TheVariants as cause
use Rattle.execution_laws.specs.Ready.{AreReady, AreUntaken, IsCallPast, IsCausePast, IsDated, asked_at, is_ready, ready_at, ready_since}

-- the first of a list is no newer than any of it
least : {X : Type 0} (key : X → ℕ) (place : ℕ → ℕ) (x : X) (xs : List X) (n : ℕ) →
    AllPairs (λ older newer. place (key older) < place (key newer)) (x ∷ xs) → Any (λ item. key item ≡ n) (x ∷ xs) →
    place (key x) ≤ place n
least key place x xs n pairs (zero, item, within, is, same) =
    let e : place (key x) ≡ place n = ap (λ y. place (key y)) is ∙ ap place same in omega (arith, e)
least key place x xs n pairs (suc k, item, within, is, same) =
    let less = pairs 0 (suc k) item (omega arith) within in
    let e = ap (λ y. place (key y)) is ∙ ap place same in
    omega (arith, less, e)

-- a call that was back before a place was made before it
back_before : (now place : ℕ) (first : CallPhase) → IsCallPast now first → is_back_before place first ≡ true →
    called_at first < place
back_before now place call.Uncalled past is = absurd (cc)
back_before now place (call.Open called) past is = absurd (cc)
back_before now place (call.Stopping called) past is = absurd (cc)
back_before now place (call.Back called back) past is = omega (arith, past.0, ltb-true back place is)

-- what goes before became ready before
older : (now : ℕ) (first : CallPhase) (one : ActPhase) (second : CallPhase) (two : ActPhase) → IsCallPast now first →
    IsCausePast now two → is_ready_before first one second two ≡ true →
    (is_ready one ≡ true) × (ready_since first one < ready_since second two)
older now first (phase.Ready a b cause.Posted) second (phase.Ready c d cause.Posted) past told is =
    (refl, back_before now (called_at second) first past is)
older now first (phase.Ready a b cause.Posted) second (phase.Ready c d (cause.Completed done turn)) past told is =
    (refl, omega (arith, back_before now turn first past is, told.0))
older now first (phase.Ready a b (cause.Completed done turn)) second (phase.Ready c d cause.Posted) past told is =
    (refl, ltb-true done (called_at second) is)
older now first (phase.Ready a b (cause.Completed done turn)) second
    (phase.Ready c d (cause.Completed later later_turn)) past told is =
    (refl, ltb-true done later is)
older now first one second two past told is = absurd (cc)

pub first_of_lane : (script : ScriptModel) (s : ContextState) (op : ℕ) (code : Code) (size : ℕ)
    (newer : List (ℕ × Code × ℕ)) → IsDated s → AreReady s ((op, code, size) ∷ newer) → IsFirstOfLane script s op
first_of_lane script s op code size newer dated ready other same_lane =
    false_from_ne_true (goes_before (act_at s other) (act_at s op)) (λ before.
    let was =
    older s.events (call_at s other) (phase_at s other) (call_at s op) (phase_at s op) (dated.calls other)
    (dated.causes op) before in
    let first : ready_at s op ≤ ready_at s other =
    least (λ item. item.0) (ready_at s) (op, code, size) newer other ready.oldest_first (ready.all other was.0) in
    absurd (omega (arith, was.1, first)))

pub first_request : (s : State) (a : ℕ) (newer : List ℕ) → IsDated s.context → AreUntaken s (a ∷ newer) →
    IsFirstRequest s a
first_request s a newer dated requests other untaken =
    false_from_ne_true (is_back_before (called_at (call_at s.context a)) (call_at s.context other)) (λ before.
    let was : asked_at s.context other < asked_at s.context a =
    back_before s.context.events (called_at (call_at s.context a)) (call_at s.context other) (dated.calls other) before in
    let first : asked_at s.context a ≤ asked_at s.context other =
    least (λ request. request) (asked_at s.context) a newer other requests.oldest_first (requests.all other untaken) in
    absurd (omega (arith, was, first)))
