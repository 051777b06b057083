-- What some calls of a body leave of the order of a session.
use Rattle.std.proofs.Common.{◌≡◌, ◌≢◌, ◌⊎◌, ℕ, zero, suc, ◌<◌, ◌≤◌, true, false, not, ◌&&◌, List, ◌++◌, Some, None, inl, inr, get_or, refl, sym, ap, subst, ◌∙◌, arith}
use Rattle.std.specs.Option.{unwrap_or}
use Rattle.std.specs.List.{All, AllPairs, Any}
use Rattle.std.proofs.lemmas.Bool.{and_from, and_parts, cases_Bool, cases_eq}
use Rattle.std.proofs.lemmas.List.Elements.{All-append, All-map}
use Rattle.asio_types.specs.declared.code.Class.{Class}
use Rattle.asio_types.specs.declared.code.Class.TheVariants as class
use Rattle.asio_types.specs.declared.code.Code.{Code}
use Rattle.asio_types.specs.declared.code.Code.TheVariants as code
use Rattle.session_script.specs.Script.{Place, ScriptModel, parent_of}
use Rattle.session_script.specs.WellFormed.{HasParent, IsWellFormed}
use Rattle.session_script.proofs.PlacingLemmas.{has_parent}
use Rattle.history_rules.specs.Calls.{accepted}
use Rattle.history_rules.specs.Executions.{IsReadyWith}
use Rattle.history_rules.specs.Order.{called_at, is_request, is_untaken, was_taken}
use Rattle.history_rules.specs.State.{ContextState, ReactorHalf, State, act_at, call_at, phase_at}
use Rattle.history_rules.specs.declared.phase.ActPhase.{ActPhase}
use Rattle.history_rules.specs.declared.phase.ActPhase.TheVariants as phase
use Rattle.history_rules.specs.declared.phase.ActState.{ActState}
use Rattle.history_rules.specs.declared.phase.CallPhase.{CallPhase}
use Rattle.history_rules.specs.declared.phase.CallPhase.TheVariants as call
use Rattle.history_rules.specs.declared.phase.Cause.TheVariants as cause
use Rattle.op_handlers.specs.declared.call.Call.{Call}
use Rattle.strand_core.specs.Execution.{AreCalls}
use Rattle.strand_core.specs.declared.posted.Posted.{Posted}
use Rattle.execution_laws.specs.Called.{IsBackSince, called_as, is_called, settled_phase}
use Rattle.execution_laws.specs.Order.{IsOrderly, has_begun, postings_of, requests_of}
use Rattle.execution_laws.specs.Ready.{AreReady, AreUntaken, IsCallPast, IsCausePast, IsDated, asked_at, is_ready, ready_at, ready_since}
use Rattle.execution_laws.proofs.ActsCalledLemmas.{acts_called, all_called_as, any_called_as, rises_some}
use Rattle.execution_laws.proofs.ApartLemmas.{called_from, operation_of}
use Rattle.execution_laws.proofs.MovesLemmas.{asked_since, past_later}
use Rattle.execution_laws.proofs.PlaceLemmas.{parent_is}
use Rattle.execution_laws.proofs.RisingLemmas.{Rises, any-left, any-map, any-right, pairs-from, rises-append, rises-from, rises-map, rises-same}
use Rattle.execution_laws.proofs.SettledLemmas.{settled_begun, settled_ready, settled_test}
use Rattle.execution_laws.proofs.StateLemmas.{IsElsewhere, acts_in}

-- the operation of a body has ended
abbrev pub IsEndedAt : Place → ContextState → ContextState → Type 0
IsEndedAt None s t = Unit {0}
IsEndedAt (Some at) s t =
    (act_at t at.0 ≡ record (act_at s at.0) { phase = phase.Ended }) × (is_ready (phase_at s at.0) ≡ true)

-- what the calls of a body leave, where counts haven't come to their end
pub record Leaves (script : ScriptModel) (place : Place) (calls : List Posted) (s t : ContextState) : Type 0 where
  pub since : s.events ≤ t.events
  pub called : (n : ℕ) → is_called n calls ≡ true → IsBackSince script s.events n (act_at t n)
  pub kept : (n : ℕ) → is_called n calls ≡ false → IsElsewhere place n → act_at t n ≡ act_at s n
  pub ended : IsEndedAt place s t
  pub past : (n : ℕ) → is_called n calls ≡ true → IsCallPast t.events (call_at t n)
  pub rising : Rises (asked_at t) (acts_called calls)
  pub turn : t.turn ≡ s.turn

-- an act that was called was called before now
pub asked_past : (now : ℕ) (c : CallPhase) → IsCallPast now c → c ≢ call.Uncalled → called_at c < now
asked_past now call.Uncalled past made = absurd (made refl)
asked_past now (call.Open called) past made = past
asked_past now (call.Stopping called) past made = past
asked_past now (call.Back called back) past made = omega (arith, past.0, past.1)

-- a ready operation became ready before now
pub ready_past : (now : ℕ) (c : CallPhase) (p : ActPhase) → IsCallPast now c → IsCausePast now p → c ≢ call.Uncalled →
    is_ready p ≡ true → ready_since c p < now
ready_past now c (phase.Ready a b cause.Posted) past told made is = asked_past now c past made
ready_past now c (phase.Ready a b (cause.Completed done turn)) past told made is = told.1
ready_past now c p past told made is = absurd (cc)

ready_is : (p : ActPhase) (given : Code) (size : ℕ) → IsReadyWith p given size → is_ready p ≡ true
ready_is p given size ready = ap is_ready ready.1

pub cause_later : (now later : ℕ) (p : ActPhase) → now ≤ later → IsCausePast now p → IsCausePast later p
cause_later now later (phase.Ready a b cause.Posted) less told = tt
cause_later now later (phase.Ready a b (cause.Completed done turn)) less told = (told.0, omega (arith, less, told.1))
cause_later now later phase.Absent less told = tt
cause_later now later phase.Inside less told = tt
cause_later now later phase.Requested less told = tt
cause_later now later (phase.Running class progress) less told = tt
cause_later now later phase.Ended less told = tt
cause_later now later phase.Dropped less told = tt
cause_later now later phase.Asked less told = tt

-- what isn't ready has no cause
cause_none : (now : ℕ) (p : ActPhase) → (is_ready p ≡ true → p ≡ phase.Ready code.Ok 0 cause.Posted) → IsCausePast now p
cause_none now (phase.Ready a b cause.Posted) only = tt
cause_none now (phase.Ready a b (cause.Completed done turn)) only =
    absurd (let wrong : phase.Ready a b (cause.Completed done turn) ≡ phase.Ready code.Ok 0 cause.Posted = only refl in cc)
cause_none now phase.Absent only = tt
cause_none now phase.Inside only = tt
cause_none now phase.Requested only = tt
cause_none now (phase.Running class progress) only = tt
cause_none now phase.Ended only = tt
cause_none now phase.Dropped only = tt
cause_none now phase.Asked only = tt

-- a request isn't ready
never_both : (p : ActPhase) → is_request p ≡ true → is_ready p ≡ true → ⊥
never_both phase.Requested asks ready = absurd (cc)
never_both phase.Asked asks ready = absurd (cc)
never_both (phase.Ready a b why) asks ready = absurd (cc)
never_both p asks ready = absurd (cc)

-- an operation whose body was executed
record IsEnded (place : Place) (s t : ContextState) (n : ℕ) : Type 0 where
  call : call_at t n ≡ call_at s n
  phase : phase_at t n ≡ phase.Ended
  ready : is_ready (phase_at s n) ≡ true
  isnt : IsElsewhere place n → ⊥

module _ (script : ScriptModel) (well : IsWellFormed script) (HasMark : Call → ℕ → Type 0) (place : Place)
    (calls : List Posted) (acts : AreCalls script HasMark (acts_in script place) calls) (s : State)
    (orderly : IsOrderly script s) (unmade : (n : ℕ) → parent_of script n ≡ place → call_at s.context n ≡ call.Uncalled)
  where
    -- an act that was called wasn't called before
    uncalled_by : (fuel n : ℕ) → n < fuel → is_called n calls ≡ true → call_at s.context n ≡ call.Uncalled
    uncalled_by zero n less is = absurd (omega (arith, less))
    uncalled_by (suc fuel) n less is = elim (called_from script well HasMark acts n is) [
      | inl of ↦ unmade n (parent_is script well place n of.0 of.1)
      | inr under ↦
          let before : under.parent < n =
          (subst (HasParent script.acts n) under.is_parent (has_parent script n well)).0 in
          let parent_uncalled : call_at s.context under.parent ≡ call.Uncalled =
          uncalled_by fuel under.parent (omega (arith, less, before)) under.called in
          orderly.branches n under.parent class.Ok under.is_parent (ap has_begun (orderly.uncalled under.parent parent_uncalled))
    ]

    pub before_uncalled : (n : ℕ) → is_called n calls ≡ true → call_at s.context n ≡ call.Uncalled
    before_uncalled n is = uncalled_by (suc n) n (omega arith) is

    pub before_absent : (n : ℕ) → is_called n calls ≡ true → phase_at s.context n ≡ phase.Absent
    before_absent n is = orderly.uncalled n (before_uncalled n is)

module _ (script : ScriptModel) (well : IsWellFormed script) (HasMark : Call → ℕ → Type 0) (place : Place)
    (calls : List Posted) (acts : AreCalls script HasMark (acts_in script place) calls) (r : ReactorHalf)
    (s t : ContextState) (leaves : Leaves script place calls s t)
    (orderly : IsOrderly script (record { context = s; reactor = r }))
    (unmade : (n : ℕ) → parent_of script n ≡ place → call_at s n ≡ call.Uncalled) where
  -- what became of an act
  abbrev Became : ℕ → Type 0
  Became n = (is_called n calls ≡ true) ⊎ ((act_at t n ≡ act_at s n) ⊎ IsEnded place s t n)

  became_at : (n : ℕ) → is_called n calls ≡ false → (p : Place) → IsEndedAt p s t →
      (IsElsewhere p n → act_at t n ≡ act_at s n) → (act_at t n ≡ act_at s n) ⊎ IsEnded p s t n
  became_at n isnt None ended kept = inl (kept tt)
  became_at n isnt (Some at) ended kept = elim (cases_eq n at.0) [
    | inl same ↦ inr (subst (IsEnded (Some at) s t) (sym same) (record {
      call = ap (λ (act : ActState). act.call) ended.0;
      phase = ap (λ (act : ActState). act.phase) ended.0;
      ready = ended.1;
      isnt = λ away. absurd (away refl);
    }))
    | inr other ↦ inl (kept other)
  ]

  became : (n : ℕ) → Became n
  became n = elim (cases_Bool (is_called n calls)) [
    | inl is ↦ inl is
    | inr isnt ↦ inr (became_at n isnt place leaves.ended (leaves.kept n isnt))
  ]

  was_uncalled : (n : ℕ) → is_called n calls ≡ true → call_at s n ≡ call.Uncalled
  was_uncalled n is =
      before_uncalled script well HasMark place calls acts (record { context = s; reactor = r }) orderly unmade n is

  was_absent : (n : ℕ) → is_called n calls ≡ true → phase_at s n ≡ phase.Absent
  was_absent n is =
      before_absent script well HasMark place calls acts (record { context = s; reactor = r }) orderly unmade n is

  now_phase : (n : ℕ) → is_called n calls ≡ true → phase_at t n ≡ settled_phase script n
  now_phase n is = ap (λ (act : ActState). act.phase) (leaves.called n is).is

  now_made : (n : ℕ) → is_called n calls ≡ true → call_at t n ≢ call.Uncalled
  now_made n is = λ uncalled.
      absurd (let wrong = sym (ap (λ (act : ActState). act.call) (leaves.called n is).is) ∙ uncalled in cc)

  -- an act that had become something stays, unless it is the operation that ended
  stays : (n : ℕ) → phase_at s n ≢ phase.Absent → IsElsewhere place n → act_at t n ≡ act_at s n
  stays n there away = elim (became n) [
    | inl is ↦ absurd (there (was_absent n is))
    | inr rest ↦ elim rest [ inl same ↦ same | inr ended ↦ absurd (ended.isnt away) ]
  ]

  -- an act of the body itself is called once its operation runs, which has ended now
  ended_begun : (p : Place) (n op : ℕ) (class : Class) → IsEndedAt p s t → parent_of script n ≡ p →
      parent_of script n ≡ Some (op, class) → has_begun (phase_at t op) ≡ true
  ended_begun None n op class ended here under = absurd (let wrong : None ≡ Some (op, class) = sym here ∙ under in cc)
  ended_begun (Some at) n op class ended here under =
      let same : at.0 ≡ op = cc in
      ap (λ op. has_begun (phase_at t op)) (sym same) ∙ ap (λ (act : ActState). has_begun act.phase) ended.0

  -- what was called stands under an operation that has begun
  called_begun : (n op : ℕ) (class : Class) → is_called n calls ≡ true → parent_of script n ≡ Some (op, class) →
      has_begun (phase_at t op) ≡ true
  called_begun n op class is under = elim (called_from script well HasMark acts n is) [
    | inl of ↦ ended_begun place n op class leaves.ended (parent_is script well place n of.0 of.1) under
    | inr in_body ↦
        let same : in_body.parent ≡ op = ap operation_of (sym in_body.is_parent ∙ under) in
        ap (λ op. has_begun (phase_at t op)) (sym same)
        ∙ (ap has_begun (now_phase in_body.parent in_body.called) ∙ settled_begun script in_body.parent in_body.inline)
  ]

  -- an operation that hasn't begun hadn't begun before
  not_begun : (op : ℕ) → has_begun (phase_at t op) ≡ false → has_begun (phase_at s op) ≡ false
  not_begun op isnt = elim (became op) [
    | inl is ↦ ap has_begun (was_absent op is)
    | inr rest ↦ elim rest [
      | inl same ↦ ap (λ (act : ActState). has_begun act.phase) (sym same) ∙ isnt
      | inr ended ↦ absurd (let wrong : true ≡ false = sym (ap has_begun ended.phase) ∙ isnt in cc)
    ]
  ]

  dated : IsDated t
  dated = record { calls = call_past; causes = cause_past; turn = turn_past }
    where
      turn_past : unwrap_or t.turn 0 ≤ t.events
      turn_past =
          let same : unwrap_or t.turn 0 ≡ unwrap_or s.turn 0 = ap (λ turn. unwrap_or turn 0) leaves.turn in
          omega (arith, same, orderly.dated.turn, leaves.since)

      call_past : (n : ℕ) → IsCallPast t.events (call_at t n)
      call_past n = elim (became n) [
        | inl is ↦ leaves.past n is
        | inr rest ↦
            let same : call_at t n ≡ call_at s n =
            elim rest [ inl same ↦ ap (λ (act : ActState). act.call) same | inr ended ↦ ended.call ] in
            subst (IsCallPast t.events) (sym same)
            (past_later s.events t.events (call_at s n) leaves.since (orderly.dated.calls n))
      ]

      cause_past : (n : ℕ) → IsCausePast t.events (phase_at t n)
      cause_past n = elim (became n) [
        | inl is ↦
            subst (IsCausePast t.events) (sym (now_phase n is)) (cause_none t.events (settled_phase script n)
            (λ ready. settled_ready script n (sym (settled_test script n is_ready refl refl) ∙ ready)))
        | inr rest ↦ elim rest [
          | inl same ↦
              subst (IsCausePast t.events) (sym (ap (λ (act : ActState). act.phase) same))
              (cause_later s.events t.events (phase_at s n) leaves.since (orderly.dated.causes n))
          | inr ended ↦ subst (IsCausePast t.events) (sym ended.phase) tt
        ]
      ]

  pub kept_orderly : IsOrderly script (record { context = t; reactor = r })
  kept_orderly = record { dated = dated; uncalled = uncalled; untaken = untaken; branches = branches }
    where
      uncalled : (n : ℕ) → call_at t n ≡ call.Uncalled → phase_at t n ≡ phase.Absent
      uncalled n isnt = elim (became n) [
        | inl is ↦ absurd (now_made n is isnt)
        | inr rest ↦ elim rest [
          | inl same ↦
              ap (λ (act : ActState). act.phase) same
              ∙ orderly.uncalled n (sym (ap (λ (act : ActState). act.call) same) ∙ isnt)
          | inr ended ↦
              let absent : phase_at s n ≡ phase.Absent = orderly.uncalled n (sym ended.call ∙ isnt) in
              absurd (let wrong : false ≡ true = sym (ap is_ready absent) ∙ ended.ready in cc)
        ]
      ]

      untaken : (n : ℕ) → call_at t n ≡ call.Uncalled → was_taken r n ≡ false
      untaken n isnt = elim (became n) [
        | inl is ↦ absurd (now_made n is isnt)
        | inr rest ↦
            let same : call_at t n ≡ call_at s n =
            elim rest [ inl same ↦ ap (λ (act : ActState). act.call) same | inr ended ↦ ended.call ] in
            orderly.untaken n (sym same ∙ isnt)
      ]

      branches : (n op : ℕ) (class : Class) → parent_of script n ≡ Some (op, class) →
          has_begun (phase_at t op) ≡ false → call_at t n ≡ call.Uncalled
      branches n op class under isnt = elim (became n) [
        | inl is ↦ absurd (let wrong : true ≡ false = sym (called_begun n op class is under) ∙ isnt in cc)
        | inr rest ↦
            let same : call_at t n ≡ call_at s n =
            elim rest [ inl same ↦ ap (λ (act : ActState). act.call) same | inr ended ↦ ended.call ] in
            same ∙ orderly.branches n op class under (not_begun op isnt)
      ]

  -- what was called after all that was called before
  called_since : (n : ℕ) → is_called n calls ≡ true → s.events ≤ asked_at t n
  called_since n is = asked_since script s.events n (act_at t n) (leaves.called n is)

  -- the operation that ended isn't ready
  away_by : (p : Place) (n : ℕ) → IsEndedAt p s t → is_ready (phase_at t n) ≡ true → IsElsewhere p n
  away_by None n ended ready = tt
  away_by (Some at) n ended ready = λ same.
      absurd (let wrong : true ≡ false =
      sym ready
      ∙ (ap (λ n. is_ready (phase_at t n)) same ∙ ap (λ (act : ActState). is_ready act.phase) ended.0) in
      cc)

  away : (n : ℕ) → is_ready (phase_at t n) ≡ true → IsElsewhere place n
  away n ready = away_by place n leaves.ended ready

  module _ (newer : List (ℕ × Code × ℕ)) (each : All (λ item. IsReadyWith (phase_at s item.0) item.1 item.2) newer)
      (others : All (λ item. IsElsewhere place item.0) newer)
      (pairs : AllPairs (λ older newer. ready_at s older.0 < ready_at s newer.0) newer)
      (all : (n : ℕ) → is_ready (phase_at s n) ≡ true → IsElsewhere place n → Any (λ item. item.0 ≡ n) newer) where
    not_absent : (p : ActPhase) → is_ready p ≡ true → p ≢ phase.Absent
    not_absent p is absent = absurd (let wrong : false ≡ true = sym (ap is_ready absent) ∙ is in cc)

    stay : All (λ item. act_at t item.0 ≡ act_at s item.0) newer
    stay k d within = let ready = each k d within in stays _ (not_absent _ (ap is_ready ready.1)) (others k d within)

    now_ready : ℕ × Code × ℕ → ℕ
    now_ready item = ready_at t item.0

    -- the postings are ready since they were called
    posted_at : (n : ℕ) → is_called n calls ≡ true → is_ready (accepted script n) ≡ true →
        phase_at t n ≡ phase.Ready code.Ok 0 cause.Posted
    posted_at n is ready = now_phase n is ∙ settled_ready script n ready

    posted_since : (n : ℕ) → is_called n calls ≡ true → is_ready (accepted script n) ≡ true →
        ready_at t n ≡ asked_at t n
    posted_since n is ready = ap (ready_since (call_at t n)) (posted_at n is ready)

    older_before : All (λ item. ready_at t item.0 < s.events) newer
    older_before k d within =
        let item : ℕ × Code × ℕ = get_or newer k d in
        let ready : is_ready (phase_at s item.0) ≡ true = ap is_ready (each k d within).1 in
        let made : call_at s item.0 ≢ call.Uncalled = λ uncalled.
        not_absent (phase_at s item.0) ready (orderly.uncalled item.0 uncalled) in
        let before : ready_at s item.0 < s.events =
        ready_past s.events (call_at s item.0) (phase_at s item.0) (orderly.dated.calls item.0)
        (orderly.dated.causes item.0) made ready in
        let same : ready_at t item.0 ≡ ready_at s item.0 =
        ap (λ (act : ActState). ready_since act.call act.phase) (stay k d within) in
        omega (arith, before, same)

    after_older : (n : ℕ) → All (λ m. s.events ≤ ready_at t m) (called_as is_ready script calls)
    after_older n =
        all_called_as is_ready script (λ m. s.events ≤ ready_at t m) calls (λ m is ready.
        let since = called_since m is in let same = posted_since m is ready in omega (arith, since, same))

    rises_ready : Rises now_ready (newer ++ postings_of script calls)
    unfolding now_ready
    rises_ready =
        rises-append now_ready newer (postings_of script calls)
        (rises-same (λ item. ready_at s item.0) now_ready newer
        (λ k d within. ap (λ (act : ActState). ready_since act.call act.phase) (stay k d within))
        (rises-from (λ item. ready_at s item.0) newer pairs))
        (rises-map now_ready (λ op. (op, code.Ok, 0)) (called_as is_ready script calls)
        (rises-same (asked_at t) (ready_at t) (called_as is_ready script calls) (all_called_as is_ready script (λ n. ready_at t n ≡ asked_at t n) calls posted_since)
        (rises_some is_ready script (asked_at t) calls leaves.rising)))
        (λ k d within.
        All-map (λ posted. now_ready (get_or newer k d) < now_ready posted) (λ op. (op, code.Ok, 0))
        (called_as is_ready script calls) (λ j e below.
        let before = older_before k d within in
        let since = after_older 0 j e below in omega (arith, before, since)))

    listed_by : (n : ℕ) → is_ready (phase_at t n) ≡ true → Any (λ item. item.0 ≡ n) (newer ++ postings_of script calls)
    listed_by n ready = elim (became n) [
      | inl is ↦
          any-right (λ item. item.0 ≡ n) newer (postings_of script calls)
          (any-map (λ (item : ℕ × Code × ℕ). item.0 ≡ n) (λ op. (op, code.Ok, 0)) (called_as is_ready script calls)
          (any_called_as is_ready script n calls is (sym (settled_test script n is_ready refl refl) ∙ (sym (ap is_ready (now_phase n is)) ∙ ready))))
      | inr rest ↦ elim rest [
        | inl same ↦
            any-left (λ item. item.0 ≡ n) newer (postings_of script calls)
            (all n (ap (λ (act : ActState). is_ready act.phase) (sym same) ∙ ready) (away n ready))
        | inr ended ↦ absurd (let wrong : false ≡ true = sym (ap is_ready ended.phase) ∙ ready in cc)
      ]
    ]

    pub kept_ready : AreReady t (newer ++ postings_of script calls)
    unfolding now_ready
    kept_ready = record {
      each = All-append (λ item. IsReadyWith (phase_at t item.0) item.1 item.2) newer (postings_of script calls)
          (λ k d within. ((each k d within).0, ap (λ (act : ActState). act.phase) (stay k d within) ∙ (each k d within).1))
          (All-map (λ (item : ℕ × Code × ℕ). IsReadyWith (phase_at t item.0) item.1 item.2) (λ op. (op, code.Ok, 0))
          (called_as is_ready script calls) (all_called_as is_ready script
          (λ n. IsReadyWith (phase_at t n) code.Ok 0) calls
          (λ n is ready. (cause.Posted, posted_at n is ready))));
      all = listed_by;
      oldest_first = pairs-from now_ready (newer ++ postings_of script calls) rises_ready;
    }

  -- a request isn't the operation that ended
  request_away : (p : Place) (n : ℕ) → IsEndedAt p s t → is_request (phase_at s n) ≡ true → IsElsewhere p n
  request_away None n ended asks = tt
  request_away (Some at) n ended asks = λ same.
      absurd (never_both (phase_at s n) asks (ap (λ n. is_ready (phase_at s n)) same ∙ ended.1))

  module _ (requests : List ℕ) (were : AreUntaken (record { context = s; reactor = r }) requests) where
    asks : (n : ℕ) → is_untaken (record { context = s; reactor = r }) n ≡ true → is_request (phase_at s n) ≡ true
    asks n is = (and_parts (is_request (phase_at s n)) (not (was_taken r n)) is).0

    request_there : (p : ActPhase) → is_request p ≡ true → p ≢ phase.Absent
    request_there p is absent = absurd (let wrong : false ≡ true = sym (ap is_request absent) ∙ is in cc)

    request_stays : All (λ n. act_at t n ≡ act_at s n) requests
    request_stays k d within =
        let is : is_request (phase_at s (get_or requests k d)) ≡ true =
        asks (get_or requests k d) (were.each k d within) in
        stays (get_or requests k d) (request_there (phase_at s (get_or requests k d)) is)
        (request_away place (get_or requests k d) leaves.ended is)

    asked_before : All (λ n. asked_at t n < s.events) requests
    asked_before k d within =
        let n : ℕ = get_or requests k d in
        let is : is_request (phase_at s n) ≡ true = asks n (were.each k d within) in
        let made : call_at s n ≢ call.Uncalled = λ uncalled.
        request_there (phase_at s n) is (orderly.uncalled n uncalled) in
        let before : asked_at s n < s.events = asked_past s.events (call_at s n) (orderly.dated.calls n) made in
        let same : asked_at t n ≡ asked_at s n =
        ap (λ (act : ActState). called_at act.call) (request_stays k d within) in
        omega (arith, before, same)

    rises_requests : Rises (asked_at t) (requests ++ requests_of script calls)
    rises_requests =
        rises-append (asked_at t) requests (requests_of script calls)
        (rises-same (asked_at s) (asked_at t) requests
        (λ k d within. ap (λ (act : ActState). called_at act.call) (request_stays k d within))
        (rises-from (asked_at s) requests were.oldest_first))
        (rises_some is_request script (asked_at t) calls leaves.rising)
        (λ k d within. all_called_as is_request script (λ m. asked_at t (get_or requests k d) < asked_at t m) calls
        (λ m is request. let before = asked_before k d within in let since = called_since m is in omega (arith, before, since)))

    requested_now : (n : ℕ) → is_called n calls ≡ true → is_request (accepted script n) ≡ true →
        is_untaken (record { context = t; reactor = r }) n ≡ true
    requested_now n is request =
        and_from (is_request (phase_at t n)) (not (was_taken r n))
        (ap is_request (now_phase n is) ∙ (settled_test script n is_request refl refl ∙ request))
        (ap not (orderly.untaken n (was_uncalled n is)))

    untaken_by : (n : ℕ) → is_untaken (record { context = t; reactor = r }) n ≡ true →
        Any (λ request. request ≡ n) (requests ++ requests_of script calls)
    untaken_by n is =
        let request : is_request (phase_at t n) ≡ true =
        (and_parts (is_request (phase_at t n)) (not (was_taken r n)) is).0 in
        elim (became n) [
          | inl called ↦
              any-right (λ request. request ≡ n) requests (requests_of script calls)
              (any_called_as is_request script n calls called (sym (settled_test script n is_request refl refl)
              ∙ (sym (ap is_request (now_phase n called)) ∙ request)))
          | inr rest ↦ elim rest [
            | inl same ↦
                any-left (λ request. request ≡ n) requests (requests_of script calls)
                (were.all n (ap (λ (act : ActState). is_request act.phase && not (was_taken r n)) (sym same) ∙ is))
            | inr ended ↦ absurd (let wrong : false ≡ true = sym (ap is_request ended.phase) ∙ request in cc)
          ]
        ]

    pub kept_untaken : AreUntaken (record { context = t; reactor = r }) (requests ++ requests_of script calls)
    kept_untaken = record {
      each =
          All-append (λ n. is_untaken (record { context = t; reactor = r }) n ≡ true) requests (requests_of script calls)
          (λ k d within.
          ap (λ (act : ActState). is_request act.phase && not (was_taken r (get_or requests k d)))
          (request_stays k d within) ∙ were.each k d within)
          (all_called_as is_request script (λ n. is_untaken (record { context = t; reactor = r }) n ≡ true) calls requested_now);
      all = untaken_by;
      oldest_first = pairs-from (asked_at t) (requests ++ requests_of script calls) rises_requests;
    }
