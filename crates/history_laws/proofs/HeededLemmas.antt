-- A wait that is pending when its timer is cancelled begins as aborted, if at all.
use Rattle.std.proofs.Common.{◌≡◌, ◌≢◌, ◌⊎◌, ℕ, ◌+◌, ◌<◌, ◌≤◌, ◌==◌, zero, suc, Bool, true, false, cond, not, List, [], ◌∷◌, Option, Some, None, filter, map, set, take, inl, inr, refl, sym, ap, subst, ◌∙◌, arith, get_or}
use Rattle.std.specs.List.{All, slice_index_or}
use Rattle.std.specs.Prelude.{slice_get}
use Rattle.std.proofs.lemmas.Bool.{cases_order, eqb-true, not-true}
use Rattle.std.proofs.lemmas.List.Elements.{All-append, All-map, All-nil, All-weaker, All-head}
use Rattle.std.proofs.lemmas.List.Sums.{sum_by-cons}
use Rattle.asio_types.specs.declared.code.Code.{Code}
use Rattle.asio_types.specs.declared.code.Code.TheVariants as code
use Rattle.asio_types.specs.declared.event.Event.{Event}
use Rattle.asio_types.specs.declared.event.Event.TheVariants as event
use Rattle.session_script.specs.declared.act.Act.{Act}
use Rattle.session_script.specs.declared.act.Act.TheVariants as act
use Rattle.session_script.specs.Script.{ScriptModel, act_of}
use Rattle.session_script.specs.WellFormed.{IsWellFormed}
use Rattle.stream_rules.specs.declared.queue.Completion.{Completion}
use Rattle.stream_rules.specs.Queue.{Pending}
use Rattle.stream_rules.specs.Serving.{Reading, Writing}
use Rattle.history_rules.specs.Legal.{IsLegalSoFar, MayHappen, after_event}
use Rattle.history_rules.specs.Order.{was_taken}
use Rattle.history_rules.specs.Performing.{aborted, is_wait_of, performed_act, performed_by, queues_at, with_taken, performed, waits_cancelled}
use Rattle.history_rules.specs.Requests.{MayComplete, MayTake}
use Rattle.history_rules.specs.Settling.{settled}
use Rattle.history_rules.specs.State.{ReactorHalf, State, act_at, call_at, no_queues, phase_at}
use Rattle.history_rules.specs.Time.{at_last, at_time}
use Rattle.history_rules.specs.Untold.{MayGiveUntold, head_of}
use Rattle.history_rules.specs.declared.phase.ActPhase.{ActPhase}
use Rattle.history_rules.specs.declared.phase.ActPhase.TheVariants as phase
use Rattle.history_rules.specs.declared.phase.ActState.{ActState}
use Rattle.history_rules.specs.declared.phase.CallPhase.{CallPhase}
use Rattle.history_rules.specs.declared.phase.CallPhase.TheVariants as call
use Rattle.history_rules.specs.declared.phase.Cause.{Cause}
use Rattle.history_rules.specs.declared.phase.Cause.TheVariants as cause
use Rattle.history_rules.specs.declared.wait.Wait.{Wait}
use Rattle.history_rules.proofs.PerformingLemmas.{All-passing}
use Rattle.history_laws.specs.AfterCompletion.{IsAsynchronous}
use Rattle.history_laws.specs.Cancelled.{IsPendingAt}
use Rattle.history_laws.specs.Clock.{IsWaitOf}
use Rattle.history_laws.specs.Events.{StandsAt, calls_of, completions_of, is_call_of, is_completion_of}
use Rattle.history_laws.proofs.CountLemmas.{one_if, same-is}
use Rattle.history_laws.proofs.HeldLemmas.{Holds, IsOn, settles}
use Rattle.history_laws.proofs.HistoryLemmas.{moves_after, taken_after}
use Rattle.history_laws.proofs.KeptLemmas.{IsKept, Streamed, Timed, no_wait, one_timer, told_due, told_held}
use Rattle.history_laws.proofs.KindLemmas.{inline_posts}
use Rattle.history_laws.proofs.LaterLemmas.{at, counted_at, happens, later_on, next}
use Rattle.history_laws.proofs.LawLemmas.{asked, begins_first, completed, count_first, shown_at, stands_before}
use Rattle.history_laws.proofs.Moves.{Moves, comes_back, completes, destroys, enters, finishes, further, halts, initiates, starts, stays}
use Rattle.history_laws.proofs.PerformedLemmas.{AreConnected, performs}
use Rattle.history_laws.proofs.ShownLemmas.{begins_shown, calls_shown}
use Rattle.history_laws.proofs.Sound.{IsPhaseOf, IsSound}
use Rattle.history_laws.proofs.TakingLemmas.{untaken}
use Rattle.history_laws.proofs.TimerLawLemmas.{first_due, kept_at, told_code}

-- an operation that was to complete as aborted may have come to this
abbrev IsPast : ActPhase → Type 0
IsPast (phase.Ready given size why) = given ≡ code.Aborted
IsPast (phase.Running class progress) = Unit {0}
IsPast phase.Ended = Unit {0}
IsPast phase.Dropped = Unit {0}
IsPast _ = ⊥

abbrev pub AbortsOnly : ℕ → Completion → Type 0
AbortsOnly n done = done.op ≡ n → done.outcome.0 ≡ code.Aborted

abbrev pub IsOther : ℕ → ℕ → Type 0
IsOther n op = op ≢ n

abbrev pub OtherTimed : ScriptModel → ℕ → ℕ → ℕ → Type 0
OtherTimed script n timer op = IsWaitOf script timer op × IsOther n op

abbrev pub OtherStreamed : ScriptModel → ℕ → ℕ → ℕ → Type 0
OtherStreamed script n stream op = IsOn script stream op × IsOther n op

-- nothing of it is pending but a completion that aborts it
pub record IsAborting (script : ScriptModel) (n : ℕ) (r : ReactorHalf) : Type 0 where
  pub held : Holds (OtherTimed script n) (OtherStreamed script n) r
  pub due : All (AbortsOnly n) r.due

record IsWaiting (script : ScriptModel) (n : ℕ) (s : State) : Type 0 where
  asks : phase_at s.context n ≡ phase.Requested
  taken : was_taken s.reactor n ≡ true
  half : IsAborting script n s.reactor

abbrev IsDoomed : ScriptModel → ℕ → State → Type 0
IsDoomed script n s = IsWaiting script n s ⊎ IsPast (phase_at s.context n)

module _ (script : ScriptModel) (n : ℕ) where
  past_moved : (e : Event) (old new : ActState) → Moves script n e old new → IsPast old.phase → IsPast new.phase
  past_moved e old new (stays isnt) past = past
  past_moved e old new (further isnt calling more) past = tt
  past_moved e old new initiates past = absurd past
  past_moved e old new (comes_back at opened never) past = past
  past_moved e old new halts past = past
  past_moved e old new starts past = tt
  past_moved e old new enters past = absurd past
  past_moved e old new (finishes all) past = tt
  past_moved e old new completes past = absurd past
  past_moved e old new (destroys is isnt never) past = tt

  -- it completes just now
  record CompletesBy (e : Event) (p : ActPhase) : Type 0 where
    given : Code
    size : ℕ
    why : Cause
    shown : e ≡ event.Done n given size
    is : p ≡ phase.Ready given size why

  asked_moved : (e : Event) (old new : ActState) → Moves script n e old new → old.phase ≡ phase.Requested →
      (new.phase ≡ phase.Requested) ⊎ (IsPast new.phase ⊎ CompletesBy e new.phase)
  asked_moved e old new (stays isnt) asks = inl asks
  asked_moved e old new (further isnt calling more) asks = absurd (cc)
  asked_moved e old new initiates asks = absurd (cc)
  asked_moved e old new (comes_back at opened never) asks = inl asks
  asked_moved e old new halts asks = inl asks
  asked_moved e old new starts asks = absurd (cc)
  asked_moved e old new enters asks = absurd (cc)
  asked_moved e old new (finishes all) asks = absurd (cc)
  asked_moved e old new (completes {code = given} {size = size} {done = done} {turn = turn}) asks =
      inr (inr (record { given = given; size = size; why = cause.Completed done turn; shown = refl; is = refl }))
  asked_moved e old new (destroys is isnt never) asks = inr (inl tt)

module _ (script : ScriptModel) (told : Bool) (n : ℕ) where
  -- a turn that settles
  settles_aborting : (r : ReactorHalf) → IsAborting script n r → IsAborting script n (settled told r)
  settles_aborting r half =
      let all = settles (OtherTimed script n) (OtherStreamed script n) (AbortsOnly n)
      (λ stream op outcome of never same. absurd (of.1 same)) told r
      (λ wait of due same. absurd (of.1 same)) (record { held = half.held; due = half.due }) in
      record { held = all.held; due = all.due }

  marked : (a : ℕ) (r : ReactorHalf) → IsAborting script n r → IsAborting script n (with_taken a r)
  marked a r half = record { held = record { waits = half.held.waits; queues = half.held.queues }; due = half.due }

  -- another act is taken
  takes_aborting : (a : ℕ) (r : ReactorHalf) → a ≢ n → AreConnected script r → IsAborting script n r → (given : Option Act) →
      act_of script a ≡ given → IsAborting script n (settled told (with_taken a (performed_by script a given r)))
  takes_aborting a r other slots half None is =
      settles_aborting (with_taken a r) (marked a r half)
  takes_aborting a r other slots half (Some given) is =
      let by : ReactorHalf = performed_act script a given r in
      let all = performs script (IsOther n) (AbortsOnly n) a given is other (λ same. absurd (other same))
      (λ op moved target of may held same. refl) r slots (record { held = half.held; due = half.due }) in
      settles_aborting (with_taken a by) (marked a by (record { held = all.held; due = all.due }))

  -- an act is taken that leaves nothing of it pending
  pub reached_taken : (a : ℕ) (by : Act) (r : ReactorHalf) → act_of script a ≡ Some by →
      IsAborting script n (performed_act script a by r) → IsAborting script n (settled told (performed script a r))
  reached_taken a by r is half =
      subst (λ (given : Option Act). IsAborting script n (settled told (with_taken a (performed_by script a given r)))) (sym is)
      (settles_aborting (with_taken a (performed_act script a by r)) (marked a (performed_act script a by r) half))

-- the act cancels all waits of this timer
abbrev pub cancels_waits : ℕ → Act → Bool
cancels_waits timer (act.Expires other after) = other == timer
cancels_waits timer (act.ExpiresAt other at) = other == timer
cancels_waits timer (act.Cancel other) = other == timer
cancels_waits timer _ = false

module _ (script : ScriptModel) (timer n : ℕ) (wait : IsWaitOf script timer n) where
  pub other_stream : (stream op : ℕ) → IsOn script stream op → IsOther n op
  other_stream stream op on same = no_wait script stream timer n (subst (IsOn script stream) same on) wait

  -- no wait is it, so nothing of it is pending
  pub waits_left : (before : List Event) (r u : ReactorHalf) → IsKept script before r →
      All (λ (found : Wait). OtherTimed script n found.timer found.op) u.waits → u.queues ≡ r.queues → All (AbortsOnly n) u.due →
      IsAborting script n u
  waits_left before r u kept waits queues due =
      record {
        held = record {
          waits = waits;
          queues = λ stream. (
            All-weaker (λ (pending : Pending Reading). Streamed script before stream pending.op)
                (λ pending. OtherStreamed script n stream pending.op)
                (λ pending of. (of.0, other_stream stream pending.op of.0)) (queues_at u stream).reads
                (subst (λ queues. All (λ (pending : Pending Reading). Streamed script before stream pending.op)
                (slice_index_or queues stream no_queues).reads)
                (sym queues) (kept.held.queues stream).0),
            All-weaker (λ (pending : Pending Writing). Streamed script before stream pending.op)
                (λ pending. OtherStreamed script n stream pending.op)
                (λ pending of. (of.0, other_stream stream pending.op of.0)) (queues_at u stream).writes
                (subst (λ queues. All (λ (pending : Pending Writing). Streamed script before stream pending.op)
                (slice_index_or queues stream no_queues).writes)
                (sym queues) (kept.held.queues stream).1),
          );
        };
        due = due;
      }

  -- waits are cancelled, and it among them, if it is there
  pub waits_gone : (test : Wait → Bool) (before : List Event) (r u : ReactorHalf) → IsKept script before r → r.due ≡ [] →
      All (λ (found : Wait). IsWaitOf script found.timer found.op → found.op ≡ n → test found ≡ true) r.waits →
      u.waits ≡ r.waits → u.queues ≡ r.queues → u.due ≡ r.due → IsAborting script n (waits_cancelled test u)
  waits_gone test before r u kept none hits waits queues due =
      waits_left before r (waits_cancelled test u) kept
      (All-passing (λ wait. not (test wait))
      (λ found. Timed script before found.timer found.op
      × (IsWaitOf script found.timer found.op → found.op ≡ n → test found ≡ true))
      (λ found. OtherTimed script n found.timer found.op) u.waits
      (λ found of passes. (
        of.0.0,
        λ is. absurd (let wrong : true ≡ false = sym (of.1 of.0.0 is) ∙ not-true (test found) passes in cc),
      ))
      (subst (λ (waits : List Wait). All (λ found. Timed script before found.timer found.op
      × (IsWaitOf script found.timer found.op → found.op ≡ n → test found ≡ true)) waits) (sym waits)
      (λ k d within. (kept.held.waits k d within, hits k d within))))
      queues
      (All-append (AbortsOnly n) u.due (map (λ (wait : Wait). aborted wait.op 0) (filter test u.waits))
      (subst (λ (due : List Completion). All (AbortsOnly n) due) (sym (due ∙ none)) (All-nil (AbortsOnly n)))
      (All-map (AbortsOnly n) (λ (wait : Wait). aborted wait.op 0) (filter test u.waits)
      (λ k d within same. refl)))

  -- its timer is cancelled
  timer_hits : (other : ℕ) → (other == timer) ≡ true → (found : Wait) → IsWaitOf script found.timer found.op → found.op ≡ n →
      is_wait_of other found ≡ true
  timer_hits other same found of is =
      let timers : other ≡ timer = eqb-true other timer same in
      let one = one_timer script found.timer timer n (subst (IsWaitOf script found.timer) is of) wait in
      ap (λ t. t == other) (one ∙ sym timers) ∙ same-is other

  pub cancels_aborting : (a : ℕ) (by : Act) (r : ReactorHalf) → cancels_waits timer by ≡ true → (before : List Event) →
      IsKept script before r → r.due ≡ [] → IsAborting script n (performed_act script a by r)
  cancels_aborting a (act.Expires other after) r cancels before kept none =
      waits_gone (is_wait_of other) before r (record r { expiries = set r.expiries other (r.now + after) }) kept none
      (λ k d within. timer_hits other cancels (get_or r.waits k d)) refl refl refl
  cancels_aborting a (act.ExpiresAt other at) r cancels before kept none =
      waits_gone (is_wait_of other) before r (record r { expiries = set r.expiries other at }) kept none
      (λ k d within. timer_hits other cancels (get_or r.waits k d)) refl refl refl
  cancels_aborting a (act.Cancel other) r cancels before kept none =
      waits_gone (is_wait_of other) before r r kept none (λ k d within. timer_hits other cancels
      (get_or r.waits k d)) refl refl refl
  cancels_aborting a _ r cancels before kept none = absurd (cc)

  pub wait_asks : IsAsynchronous script n
  wait_asks = record { operation = rw wait.act refl; unposted = rw wait.act refl }

-- the head of a queue isn't in it where none of its operations is
head_never : {Asks : Type 0} (n : ℕ) (P : ℕ → Type 0) (queue : List (Pending Asks)) → head_of queue ≡ Some n →
    All (λ (pending : Pending Asks). P pending.op × IsOther n pending.op) queue → ⊥
head_never n P [] is all = absurd (cc)
head_never {Asks} n P (head ∷ queue) is all =
    let same : head.op ≡ n = cc in
    (All-head (λ (pending : Pending Asks). P pending.op × IsOther n pending.op) head queue all).1 same

-- where nothing of it is queued no stream gives it anything
untold_never : (script : ScriptModel) (n : ℕ) (r : ReactorHalf) (target : Option Act) (given : Code) (size : ℕ) →
    IsAborting script n r → MayGiveUntold r n target given size → ⊥
untold_never script n r (Some (act.ReadSome stream most strand slot kinds)) given size half may =
    head_never n (IsOn script stream) (queues_at r stream).reads may.head (half.held.queues stream).0
untold_never script n r (Some (act.ReadAll stream most strand slot kinds)) given size half may =
    head_never n (IsOn script stream) (queues_at r stream).reads may.head (half.held.queues stream).0
untold_never script n r (Some (act.Until stream delimiter max strand slot kinds)) given size half may =
    head_never n (IsOn script stream) (queues_at r stream).reads may.head (half.held.queues stream).0
untold_never script n r (Some (act.WriteSome stream bytes strand slot kinds)) given size half may =
    head_never n (IsOn script stream) (queues_at r stream).writes may.head (half.held.queues stream).1
untold_never script n r (Some (act.WriteAll stream bytes strand slot kinds)) given size half may =
    head_never n (IsOn script stream) (queues_at r stream).writes may.head (half.held.queues stream).1
untold_never script n r _ given size half may = may

completion_counted : (n : ℕ) (events : List Event) (place k : ℕ) (given : Code) (size : ℕ) → k < place →
    slice_get events k ≡ Some (event.Done n given size) → 1 ≤ completions_of n (take place events)
completion_counted n [] place k given size less stands = absurd (cc)
completion_counted n (first ∷ events) zero k given size less stands = absurd (omega (arith, less))
completion_counted n (first ∷ events) (suc place) zero given size less stands =
    let same : first ≡ event.Done n given size = cc in
    let one = sum_by-cons (λ e. cond (is_completion_of n e) 1 0) first (take place events) in
    let here : one_if (is_completion_of n first) ≡ 1 = ap (λ e. one_if (is_completion_of n e)) same ∙ ap one_if (same-is n) in
    omega (arith, one, here)
completion_counted n (first ∷ events) (suc place) (suc k) given size less stands =
    let one = sum_by-cons (λ e. cond (is_completion_of n e) 1 0) first (take place events) in
    let rest = completion_counted n events place k given size (omega (arith, less)) stands in omega (arith, one, rest)

call_counted : (n : ℕ) (events : List Event) (place k : ℕ) → k < place → slice_get events k ≡ Some (event.Call n) →
    1 ≤ calls_of n (take place events)
call_counted n [] place k less stands = absurd (cc)
call_counted n (first ∷ events) zero k less stands = absurd (omega (arith, less))
call_counted n (first ∷ events) (suc place) zero less stands =
    let same : first ≡ event.Call n = cc in
    let one = sum_by-cons (λ e. cond (is_call_of n e) 1 0) first (take place events) in
    let here : one_if (is_call_of n first) ≡ 1 = ap (λ e. one_if (is_call_of n e)) same ∙ ap one_if (same-is n) in
    omega (arith, one, here)
call_counted n (first ∷ events) (suc place) (suc k) less stands =
    let one = sum_by-cons (λ e. cond (is_call_of n e) 1 0) first (take place events) in
    let rest = call_counted n events place k (omega (arith, less)) stands in omega (arith, one, rest)

module _ (script : ScriptModel) (well : IsWellFormed script) (told : Bool) (events : List Event)
    (legal : IsLegalSoFar script told events) (n : ℕ) (asynchronous : IsAsynchronous script n) where
  abbrev s : ℕ → State
  s place = at script well told events legal place

  pub sound : (place : ℕ) → IsSound script (s place)
  sound place = (counted_at script well told events legal place).shown.sound

  kept : (place : ℕ) → IsKept script (take place events) (s place).reactor
  kept place = kept_at script well told events legal place

  pub half_after : (place : ℕ) (e : Event) → MayHappen script told (s place) e → was_taken (s place).reactor n ≡ true →
      IsAborting script n (s place).reactor → IsAborting script n (after_event script told (s place) e).reactor
  half_after place (event.Take a) may taken half =
      takes_aborting script told n a (s place).reactor
      (λ same.
      let was = untaken script well told (s place) (sound place) a may in
      absurd (let wrong : false ≡ true = sym was ∙ (ap (was_taken (s place).reactor) same ∙ taken) in cc))
      (kept place).slots half (act_of script a) refl
  half_after place (event.Done o given size) may taken half = record {
    held =
        told_held script told (take place events) (s place).reactor (kept place) (OtherTimed script n) (OtherStreamed script n) o
        half.held;
    due = told_due script told (take place events) (s place).reactor (kept place) (AbortsOnly n) o half.due;
  }
  half_after place (event.Tick now) may taken half =
      settles_aborting script told n (at_time script told now (s place).reactor)
      (record { held = record { waits = half.held.waits; queues = half.held.queues }; due = half.due })
  half_after place event.Last may taken half =
      settles_aborting script told n (at_last told (s place).reactor)
      (record { held = record { waits = half.held.waits; queues = half.held.queues }; due = half.due })
  half_after place event.Fault may taken half =
      record { held = record { waits = half.held.waits; queues = half.held.queues }; due = All-nil (AbortsOnly n) }
  half_after place (event.Stop (Some a)) may taken half = half
  half_after place (event.Stop None) may taken half = half
  half_after place _ may taken half = half

  pub stays_taken : (place : ℕ) (e : Event) → MayHappen script told (s place) e → was_taken (s place).reactor n ≡ true →
      was_taken (after_event script told (s place) e).reactor n ≡ true
  stays_taken place e may taken =
      let rose = taken_after script well told (s place) (sound place) e may n in
      let one = ap one_if taken in
      one_true (was_taken (after_event script told (s place) e).reactor n) (omega (arith, rose, one))
    where
      one_true : (b : Bool) → 1 ≤ one_if b → b ≡ true
      one_true true is = refl
      one_true false is = absurd (omega (arith, is))

  -- it completes as aborted
  pub aborts : (place : ℕ) (given : Code) (size : ℕ) → MayComplete script told (s place) n given size →
      IsAborting script n (s place).reactor → given ≡ code.Aborted
  aborts place given size may half = elim may.next [
    | inl next ↦
        let only = first_due (AbortsOnly n) (s place).reactor.due next.head next.due half.due in
        sym (told_code told (act_of script n) next.head.outcome given size next.outcome) ∙ only next.is_op
    | inr untold ↦
        absurd (untold_never script n (s place).reactor (act_of script n) given size half untold.given)
  ]

  doomed_step : (place : ℕ) (e : Event) → MayHappen script told (s place) e → IsDoomed script n (s place) →
      IsDoomed script n (after_event script told (s place) e)
  doomed_step place e may doomed = elim doomed [
    | inr past ↦ inr (past_moved script n e (act_at (s place).context n)
        (act_at (after_event script told (s place) e).context n) (moves place e may) past)
    | inl waits ↦
        elim (asked_moved script n e (act_at (s place).context n) (act_at (after_event script told (s place) e).context n)
        (moves place e may) waits.asks) [
          | inl asks ↦ inl (record {
            asks = asks;
            taken = stays_taken place e may waits.taken;
            half = half_after place e may waits.taken waits.half;
          })
          | inr rest ↦ elim rest [
            | inl past ↦ inr past
            | inr by ↦
                let it : MayComplete script told (s place) n by.given by.size =
                subst (MayHappen script told (s place)) by.shown may in
                let is = aborts place by.given by.size it waits.half in
                inr (subst IsPast (sym by.is) is)
          ]
        ]
  ]
    where
      moves : (place : ℕ) (e : Event) → MayHappen script told (s place) e →
          Moves script n e (act_at (s place).context n) (act_at (after_event script told (s place) e).context n)
      moves place e may = moves_after script well told (s place) (sound place) e may n

  -- what was taken and neither completed nor was destroyed
  asked_by : (place : ℕ) (made : CallPhase) (p : ActPhase) → IsPhaseOf script n made p → begins_shown p ≡ 0 → p ≢ phase.Dropped →
      ((given : Code) (size done turn : ℕ) → p ≡ phase.Ready given size (cause.Completed done turn) → ⊥) →
      p ≡ phase.Requested
  asked_by place made phase.Requested of unbegun stands never = refl
  asked_by place made phase.Absent of unbegun stands never =
      absurd (let op = asynchronous.operation in let wrong : true ≡ false = sym op ∙ of in cc)
  asked_by place made phase.Asked of unbegun stands never =
      absurd (let op = asynchronous.operation in let wrong : true ≡ false = sym op ∙ of in cc)
  asked_by place made phase.Inside of unbegun stands never =
      absurd (let posts = inline_posts script n of.0 in
      let wrong : true ≡ false = sym posts ∙ asynchronous.unposted in cc)
  asked_by place made (phase.Ready given size cause.Posted) of unbegun stands never =
      absurd (let wrong : true ≡ false = sym of.0 ∙ asynchronous.unposted in cc)
  asked_by place made (phase.Ready given size (cause.Completed done turn)) of unbegun stands never =
      absurd (never given size done turn refl)
  asked_by place made (phase.Running class progress) of unbegun stands never = absurd (omega (arith, unbegun))
  asked_by place made phase.Ended of unbegun stands never = absurd (omega (arith, unbegun))
  asked_by place made phase.Dropped of unbegun stands never = absurd (stands refl)

  module _ (canceller place later : ℕ) (given : Code) (size : ℕ) (takes : StandsAt events place (event.Take canceller))
      (pending : IsPendingAt events place n) (begins : StandsAt events later (event.Begin n given size))
      (gone : IsAborting script n (settled told (performed script canceller (s place).reactor))) where
    may : MayTake script (s place) canceller
    may = happens script well told events legal place (event.Take canceller) takes

    was_taken_here : was_taken (s place).reactor n ≡ true
    was_taken_here = one_true (was_taken (s place).reactor n)
        (omega (arith, pending.taken, (shown_at script well told events legal place).takes n))
      where
        one_true : (b : Bool) → 1 ≤ one_if b → b ≡ true
        one_true true is = refl
        one_true false is = absurd (omega (arith, is))

    behind_it : place < later
    behind_it = elim (cases_order place later) [
      | inl same ↦
          let both : Some (event.Take canceller) ≡ Some (event.Begin n given size) =
          sym takes ∙ (ap (slice_get events) same ∙ begins) in
          absurd (cc)
      | inr apart ↦ elim apart [
        | inl less ↦ less
        | inr more ↦
            let done = completed script well told events legal n later given size
            asynchronous begins in
            let counted = completion_counted n events place done.earlier given size (omega (arith, done.before, more))
            done.stands in
            absurd (omega (arith, counted, pending.uncompleted))
      ]
    ]

    asks : phase_at (s place).context n ≡ phase.Requested
    asks =
        let shown = shown_at script well told events legal place in
        let few = count_first n events place later (omega (arith, behind_it)) in
        let none = begins_first script well told events legal n later given size begins in
        let kind = (sound place).kinds n in
        asked_by place (call_at (s place).context n) (phase_at (s place).context n)
        (kind.made (λ uncalled. never_taken (kind.uncalled uncalled) uncalled))
        (omega (arith, few, none, shown.begins n))
        (λ dropped.
        let over = (sound place).dropped n dropped in
        absurd (let wrong : true ≡ false = sym over.1 ∙ may.turn.round.alive in cc))
        (λ code most done turn ready.
        let stands = shown.completed n code most done turn ready in
        let within = stands_before events place stands.0 (event.Done n code most) stands.1 in
        let counted = completion_counted n events place stands.0 code most within.0 within.1 in
        absurd (omega (arith, counted, pending.uncompleted)))
      where
        -- what was taken was called
        never_taken : phase_at (s place).context n ≡ phase.Absent → call_at (s place).context n ≡ call.Uncalled → ⊥
        never_taken absent uncalled =
            let shown = shown_at script well told events legal place in
            let takes_it = shown.taken n was_taken_here in
            let within = stands_before events place takes_it.0 (event.Take n) takes_it.1 in
            let called = asked script well told events legal n takes_it.0 within.1 in
            let counted = call_counted n events place called.earlier (omega (arith, called.before, within.0)) called.stands in
            let none = ap calls_shown uncalled in
            absurd (omega (arith, counted, none, shown.calls n))

    doomed_here : IsDoomed script n (s (suc place))
    doomed_here =
        subst (IsDoomed script n) (sym (next script well told events legal place (event.Take canceller) takes))
        (inl (record {
          asks = asks;
          taken = stays_taken place (event.Take canceller) may was_taken_here;
          half = gone;
        }))

    pub heeds : given ≡ code.Aborted
    heeds =
        let doomed = later_on script well told events legal (IsDoomed script n) doomed_step (suc place) later
        (omega (arith, behind_it)) doomed_here in
        elim (happens script well told events legal later (event.Begin n given size) begins) [
          | inl outside ↦ elim doomed [
            | inl waits ↦
                absurd (let wrong : phase.Requested ≡ phase.Ready given size outside.ready.0 = sym waits.asks ∙
                outside.ready.1 in cc)
            | inr past ↦ subst IsPast outside.ready.1 past
          ]
          | inr inside ↦ elim doomed [
            | inl waits ↦ absurd (let wrong : phase.Requested ≡ phase.Inside = sym waits.asks ∙ inside.inside in cc)
            | inr past ↦ absurd (subst IsPast inside.inside past)
          ]
        ]
