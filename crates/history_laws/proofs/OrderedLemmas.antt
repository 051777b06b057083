-- The law of timers: of two waits that are pending together the first to complete has no later expiry.
use Rattle.std.proofs.Common.{◌≡◌, ◌≢◌, ◌⊎◌, ℕ, ◌+◌, ◌<◌, ◌≤◌, suc, Bool, true, false, cond, List, [], ◌∷◌, Option, Some, None, get_or, length, take, inl, inr, refl, sym, ap, subst, ◌∙◌, arith}
use Rattle.std.specs.List.{All, slice_index_or}
use Rattle.std.proofs.lemmas.Bool.{cases_eq}
use Rattle.std.proofs.lemmas.List.Elements.{All-cons, All-nil, All-weaker}
use Rattle.asio_types.specs.declared.code.Code.{Code}
use Rattle.asio_types.specs.declared.code.Code.TheVariants as code
use Rattle.asio_types.specs.declared.event.Event.{Event}
use Rattle.asio_types.specs.declared.event.Event.TheVariants as event
use Rattle.session_script.specs.declared.act.Act.{Act}
use Rattle.session_script.specs.declared.act.Act.TheVariants as act
use Rattle.session_script.specs.Script.{ScriptModel, act_of}
use Rattle.session_script.specs.WellFormed.{IsWellFormed}
use Rattle.stream_rules.specs.declared.queue.Completion.{Completion}
use Rattle.stream_rules.specs.Queue.{Pending}
use Rattle.stream_rules.specs.Serving.{Reading, Writing}
use Rattle.history_rules.specs.Legal.{IsLegalSoFar, MayHappen, after_event}
use Rattle.history_rules.specs.Order.{was_taken}
use Rattle.history_rules.specs.Performing.{performed, performed_by, queues_at}
use Rattle.history_rules.specs.Settling.{expiry_of}
use Rattle.history_rules.specs.State.{ReactorHalf, State}
use Rattle.history_rules.specs.Time.{at_last, at_time}
use Rattle.history_rules.specs.declared.wait.Wait.{Wait}
use Rattle.history_laws.specs.Clock.{IsWaitOf, expiry_at, expiry_by}
use Rattle.history_laws.specs.Events.{StandsAt, takes_of}
use Rattle.history_laws.specs.Timers.{TimersKeepTime}
use Rattle.history_laws.proofs.ClockLemmas.{settled_keeps, told_keeps}
use Rattle.history_laws.proofs.CountLemmas.{one_if}
use Rattle.history_laws.proofs.HeededLemmas.{AbortsOnly, IsAborting, IsOther, OtherStreamed, aborts, cancels_aborting, cancels_waits, half_after, other_stream, reached_taken, stays_taken, wait_asks}
use Rattle.history_laws.proofs.KeptLemmas.{IsKept, IsRight, Streamed, one_timer}
use Rattle.history_laws.proofs.LaterLemmas.{at, counted_at, happens, later_on}
use Rattle.history_laws.proofs.LawLemmas.{shown_at}
use Rattle.history_laws.proofs.TimeLemmas.{expiry_performed_by}
use Rattle.history_laws.proofs.TimerLawLemmas.{clocked_at, expired, first_due, kept_at, rest, rising, timer_within, told_code, untold_wait}
use Rattle.history_laws.proofs.WaitOrderLemmas.{ExpiresAt, IsLevel, first_level, level_after}

-- an element of a list passes, or none does
pub one_or_none : {X : Type 0} (P Q : X → Type 0) → ((x : X) → P x ⊎ Q x) → (d : X) (xs : List X) →
    ((k : ℕ) × (k < length xs) × P (get_or xs k d)) ⊎ All Q xs
one_or_none P Q either d [] = inr (All-nil Q)
one_or_none P Q either d (x ∷ xs) = elim (either x) [
  | inl here ↦ inl (0, omega arith, here)
  | inr none ↦ elim (one_or_none P Q either d xs) [
    | inl later ↦ inl (suc later.0, let e = later.1 in omega (arith, e), later.2)
    | inr rest ↦ inr (All-cons Q x xs none rest)
  ]
]

is_aborted : (given : Code) → (given ≡ code.Aborted) ⊎ (given ≢ code.Aborted)
is_aborted code.Aborted = inl refl
is_aborted code.Ok = inr (λ same. absurd (cc))
is_aborted code.Eof = inr (λ same. absurd (cc))
is_aborted code.NotFound = inr (λ same. absurd (cc))
is_aborted code.Reset = inr (λ same. absurd (cc))
is_aborted code.Broken = inr (λ same. absurd (cc))
is_aborted code.Bad = inr (λ same. absurd (cc))

-- an act that doesn't set the expiry of a timer leaves it
unset : (timer now expiry : ℕ) (given : Option Act) → ((by : Act) → given ≡ Some by → cancels_waits timer by ≡ false) →
    expiry_by timer now expiry given ≡ expiry
unset timer now expiry None never = refl
unset timer now expiry (Some (act.Expires other after)) never =
    ap (λ b. cond b (now + after) expiry) (never (act.Expires other after) refl)
unset timer now expiry (Some (act.ExpiresAt other at)) never =
    ap (λ b. cond b at expiry) (never (act.ExpiresAt other at) refl)
unset timer now expiry (Some _) never = refl

module _ (script : ScriptModel) (well : IsWellFormed script) (told : Bool) (events : List Event)
    (legal : IsLegalSoFar script told events) where
  abbrev s : ℕ → State
  s place = at script well told events legal place

  kept : (place : ℕ) → IsKept script (take place events) (s place).reactor
  kept place = kept_at script well told events legal place

  level_at : (place : ℕ) → IsLevel script (s place).reactor
  level_at place =
      later_on script well told events legal (λ s. IsLevel script s.reactor)
      (λ place e may level.
      level_after script well told (take place events) (s place) e (kept place)
      (counted_at script well told events legal place).ahead level may) 0 place (omega arith) (first_level script told)

  module _ (timer n : ℕ) (wait : IsWaitOf script timer n) where
    -- its timer expires no earlier than then, or it is to be aborted
    abbrev IsLate : ℕ → ReactorHalf → Type 0
    IsLate expiry r = (expiry ≤ slice_index_or r.expiries timer 0) ⊎ IsAborting script n r

    late_same : (expiry : ℕ) (r t : ReactorHalf) → t.expiries ≡ r.expiries →
        expiry ≤ slice_index_or r.expiries timer 0 → expiry ≤ slice_index_or t.expiries timer 0
    late_same expiry r t same less =
        let is : slice_index_or t.expiries timer 0 ≡ slice_index_or r.expiries timer 0 =
        ap (λ (expiries : List ℕ). slice_index_or expiries timer 0) same in
        omega (arith, is, less)

    -- an act is taken while it is pending
    late_taken : (expiry place a : ℕ) → MayHappen script told (s place) (event.Take a) →
        expiry ≤ slice_index_or (s place).reactor.expiries timer 0 →
        IsLate expiry (after_event script told (s place) (event.Take a)).reactor
    late_taken expiry place a may less = by_act (act_of script a) refl
      where
        r : ReactorHalf
        r = (s place).reactor

        keeps : ((by : Act) → act_of script a ≡ Some by → cancels_waits timer by ≡ false) →
            expiry ≤ slice_index_or (after_event script told (s place) (event.Take a)).reactor.expiries timer 0
        keeps never =
            let within = (clocked_at script well told events legal timer place
            (timer_within script well told events legal timer n wait)).within in
            let performs = (expiry_performed_by script a timer r within (act_of script a)).0 in
            let stays = unset timer r.now (slice_index_or r.expiries timer 0) (act_of script a) never in
            let same : slice_index_or (after_event script told (s place) (event.Take a)).reactor.expiries timer 0
            ≡ slice_index_or (performed_by script a (act_of script a) r).expiries timer 0 =
            ap (λ (expiries : List ℕ). slice_index_or expiries timer 0) (settled_keeps told (performed script a r)).expiries in
            omega (arith, less, performs, stays, same)

        by_test : (by : Act) (b : Bool) → act_of script a ≡ Some by → cancels_waits timer by ≡ b →
            IsLate expiry (after_event script told (s place) (event.Take a)).reactor
        by_test by true is cancels =
            inr (reached_taken script told n a by r is
            (cancels_aborting script timer n wait a by r cancels (take place events) (kept place) may.turn.told))
        by_test by false is cancels =
            inl (keeps (λ other also. let same : Some by ≡ Some other = sym is ∙ also in
            let it : by ≡ other = cc in subst (λ (by : Act). cancels_waits timer by ≡ false) it cancels))

        by_act : (given : Option Act) → act_of script a ≡ given →
            IsLate expiry (after_event script told (s place) (event.Take a)).reactor
        by_act None is = inl (keeps (λ by also. let wrong : None ≡ Some by = sym is ∙ also in absurd (cc)))
        by_act (Some by) is = by_test by (cancels_waits timer by) is refl

    late_after : (expiry place : ℕ) (e : Event) → MayHappen script told (s place) e →
        expiry ≤ slice_index_or (s place).reactor.expiries timer 0 → IsLate expiry (after_event script told (s place) e).reactor
    late_after expiry place (event.Take a) may less = late_taken expiry place a may less
    late_after expiry place (event.Done o given size) may less =
        inl (late_same expiry (s place).reactor (after_event script told (s place) (event.Done o given size)).reactor
        (told_keeps script o (s place).reactor).expiries less)
    late_after expiry place (event.Tick now) may less =
        inl (late_same expiry (s place).reactor (after_event script told (s place) (event.Tick now)).reactor
        (settled_keeps told (at_time script told now (s place).reactor)).expiries less)
    late_after expiry place event.Last may less =
        inl (late_same expiry (s place).reactor (after_event script told (s place) event.Last).reactor
        (settled_keeps told (at_last told (s place).reactor)).expiries less)
    late_after expiry place event.Fault may less = inl less
    late_after expiry place (event.Stop (Some a)) may less = inl less
    late_after expiry place (event.Stop None) may less = inl less
    late_after expiry place _ may less = inl less

    -- it was taken, and is late
    abbrev IsLater : ℕ → State → Type 0
    IsLater expiry s = (was_taken s.reactor n ≡ true) × IsLate expiry s.reactor

    later_step : (expiry place : ℕ) (e : Event) → MayHappen script told (s place) e → IsLater expiry (s place) →
        IsLater expiry (after_event script told (s place) e)
    later_step expiry place e may later = (
      stays_taken script well told events legal n (wait_asks script timer n wait) place e may later.0,
      elim later.1 [
        | inl less ↦ late_after expiry place e may less
        | inr half ↦ inr (half_after script well told events legal n (wait_asks script timer n wait) place e may later.0 half)
      ],
    )

    -- what is due of it expires when the first does
    abbrev IsDue : Completion → Type 0
    IsDue done = (done.op ≡ n) × (done.outcome.0 ≢ code.Aborted)

    due_or_aborting : (done : Completion) → IsDue done ⊎ AbortsOnly n done
    due_or_aborting done = elim (cases_eq done.op n) [
      | inr other ↦ inr (λ same. absurd (other same))
      | inl same ↦ elim (is_aborted done.outcome.0) [ inl aborts ↦ inr (λ is. aborts) | inr isnt ↦ inl (same, isnt) ]
    ]

    -- nothing of it is pending but what aborts it
    aborting_at : (place : ℕ) → All (λ (wait : Wait). IsOther n wait.op) (s place).reactor.waits →
        All (AbortsOnly n) (s place).reactor.due → IsAborting script n (s place).reactor
    aborting_at place others due =
        let r : ReactorHalf = (s place).reactor in
        let held = (kept place).held in
        record {
          held = record {
            waits = λ k d within. ((held.waits k d within).0, others k d within);
            queues = λ stream. (
              All-weaker (λ (pending : Pending Reading). Streamed script (take place events) stream pending.op)
                  (λ pending. OtherStreamed script n stream pending.op)
                  (λ pending of. (of.0, other_stream script timer n wait stream pending.op of.0)) (queues_at r stream).reads
                  (held.queues stream).0,
              All-weaker (λ (pending : Pending Writing). Streamed script (take place events) stream pending.op)
                  (λ pending. OtherStreamed script n stream pending.op)
                  (λ pending of. (of.0, other_stream script timer n wait stream pending.op of.0)) (queues_at r stream).writes
                  (held.queues stream).1,
            );
          };
          due = due;
        }

    -- where another wait completes it is late
    late_by : (place expiry : ℕ) → expiry ≤ (s place).reactor.now → expiry ≡ (level_at place).expiry →
        IsLate expiry (s place).reactor
    late_by place expiry now level =
        let r : ReactorHalf = (s place).reactor in
        let no_wait : Wait = record { op = 0; timer = 0 } in
        let no_due : Completion = record { op = 0; outcome = (code.Ok, 0) } in
        elim (one_or_none (λ (wait : Wait). wait.op ≡ n) (λ wait. IsOther n wait.op) (λ wait. cases_eq wait.op n) no_wait r.waits) [
          | inl pends ↦
              let found : Wait = get_or r.waits pends.0 no_wait in
              let timed = (kept place).held.waits pends.0 no_wait pends.1 in
              let timers : found.timer ≡ timer =
              one_timer script found.timer timer n (subst (IsWaitOf script found.timer) pends.2 timed.0) wait in
              let ahead = (counted_at script well told events legal place).ahead pends.0 no_wait pends.1 in
              let same : slice_index_or r.expiries timer 0 ≡ expiry_of r found =
              sym (ap (λ timer. slice_index_or r.expiries timer 0) timers) in
              inl (omega (arith, ahead, same, now))
          | inr others ↦
              elim (one_or_none IsDue (AbortsOnly n) due_or_aborting no_due r.due) [
                | inl is ↦
                    let expires = (level_at place).due is.0 no_due is.1 timer (subst (IsWaitOf script timer) (sym is.2.0) wait) is.2.1
                    in
                    inl (omega (arith, expires, level))
                | inr all ↦ inr (aborting_at place others all)
              ]
        ]

    late_at : (first other place size : ℕ) → IsWaitOf script first other →
        StandsAt events place (event.Done other code.Ok size) →
        IsLate (slice_index_or (s place).reactor.expiries first 0) (s place).reactor
    late_at first other place size also stands =
        elim (happens script well told events legal place (event.Done other code.Ok size) stands).next [
          | inl next ↦
              let r : ReactorHalf = (s place).reactor in
              let ok : next.head.outcome.0 ≡ code.Ok =
              told_code told (act_of script other) next.head.outcome code.Ok size next.outcome in
              let its : IsWaitOf script first next.head.op = subst (IsWaitOf script first) (sym next.is_op) also in
              let right = first_due (IsRight script (take place events) r.expiries r.now) r.due next.head next.due (kept place).due in
              let level = first_due (ExpiresAt script r.expiries (level_at place).expiry) r.due next.head next.due (level_at place).due
              in
              late_by place (slice_index_or r.expiries first 0) (right.expired ok first its)
              (level first its (λ same. let wrong : code.Ok ≡ code.Aborted = sym ok ∙ same in absurd (cc)))
          | inr untold ↦ absurd (untold_wait script well told events legal first other also code.Ok size (s place).reactor untold.given)
        ]

    ordered : (first other place later size more : ℕ) → IsWaitOf script first other →
        StandsAt events place (event.Done other code.Ok size) → StandsAt events later (event.Done n code.Ok more) →
        place < later → takes_of n (take place events) ≡ 1 →
        expiry_at script events first place ≤ expiry_at script events timer later
    ordered first other place later size more also stands stands_later before once =
        let expiry : ℕ = slice_index_or (s place).reactor.expiries first 0 in
        let taken = taken_is (was_taken (s place).reactor n)
        (omega (arith, once, (shown_at script well told events legal place).takes n)) in
        let then = later_on script well told events legal (IsLater expiry) (λ place e may later. later_step expiry place e may later)
        place later (omega (arith, before)) (taken, late_at first other place size also stands) in
        let clock = (clocked_at script well told events legal first place (timer_within script well told events legal first other also)).expiry
        in
        let later_clock = (clocked_at script well told events legal timer later (timer_within script well told events legal timer n wait)).expiry
        in
        elim then.1 [
          | inl less ↦ omega (arith, less, clock, later_clock)
          | inr half ↦
              let wrong : code.Ok ≡ code.Aborted =
              aborts script well told events legal n (wait_asks script timer n wait) later code.Ok more
              (happens script well told events legal later (event.Done n code.Ok more) stands_later) half in
              absurd (cc)
        ]
      where
        taken_is : (b : Bool) → 1 ≤ one_if b → b ≡ true
        taken_is true is = refl
        taken_is false is = absurd (omega (arith, is))

  pub keep_time : TimersKeepTime script events
  keep_time = record {
    expired = expired script well told events legal;
    ordered = λ first second timer other place later size more of also stands stands_later before once.
        ordered other second also timer first place later size more of stands stands_later before once;
    rising = rising script well told events legal;
    rest = rest script well told events legal;
  }
