-- When no closing event may come to what a book has recorded, and when one may.
use Rattle.std.proofs.Common.{◌≡◌, ◌≢◌, ℕ, ◌+◌, ◌≤◌, Bool, true, false, not, ◌&&◌, List, [], ◌∷◌, Option, length, refl, ap, ◌∙◌, arith}
use Rattle.std.specs.Prelude.{count_by, slice_get}
use Rattle.std.specs.List.{All}
use Rattle.std.proofs.lemmas.List.Elements.{All-head}
use Rattle.asio_types.specs.declared.code.Code.{Code}
use Rattle.asio_types.specs.declared.event.Event.TheVariants as event
use Rattle.session_script.specs.Script.{ScriptModel}
use Rattle.history_rules.specs.declared.phase.ActPhase.{ActPhase}
use Rattle.history_rules.specs.declared.phase.ActPhase.TheVariants as phase
use Rattle.history_rules.specs.Executions.{IsReadyWith}
use Rattle.history_rules.specs.Legal.{MayHappen}
use Rattle.history_rules.specs.Order.{is_request, is_untaken, was_taken}
use Rattle.history_rules.specs.Rounds.{AllQuiet, is_held, is_quiet, outstanding_work, runs}
use Rattle.history_rules.specs.State.{State, phase_at}
use Rattle.history_rules.specs.Time.{pending_count}
use Rattle.reactor_trait.specs.Reactor.{Outside, ReactorState}
use Rattle.proactor_core.specs.Proactor.{Follows, ProactorView}
use Rattle.book_context.specs.Book.{KeepsReactor}
use Rattle.book_context.specs.BookSteps.{CannotClose, is_round_open, open_round}
use Rattle.book_context.specs.Recorded.{IsRecorded, recorded_half, recorded_state}
use Rattle.book_context.specs.Recording.{Recording, with_closing}
use Rattle.book_context.specs.RoundSteps.{EndsAreRecorded, PollsAreRecorded, StopsAreRecorded, WorkIsKnown}
use Rattle.book_context.specs.Steps.{EventIsRecorded}
use Rattle.book_context.proofs.OpenRoundLemmas.{round_open, work_is}

ready-loud : (p : ActPhase) (code : Code) (size : ℕ) (taken : Bool) → IsReadyWith p code size →
    is_quiet p taken ≡ true → ⊥
ready-loud p code size taken (why, is) quiet =
    let loud : is_quiet p taken ≡ false = ap (λ q. is_quiet q taken) is in
    absurd (cc (loud, quiet))

request-loud : (p : ActPhase) (taken : Bool) → (is_request p && not taken) ≡ true → is_quiet p taken ≡ true → ⊥
request-loud phase.Requested true waits quiet = absurd (cc waits)
request-loud phase.Requested false waits quiet = absurd (cc quiet)
request-loud phase.Asked true waits quiet = absurd (cc waits)
request-loud phase.Asked false waits quiet = absurd (cc quiet)
request-loud phase.Absent taken waits quiet = absurd (cc waits)
request-loud phase.Inside taken waits quiet = absurd (cc waits)
request-loud (phase.Ready code size why) taken waits quiet = absurd (cc quiet)
request-loud (phase.Running class progress) taken waits quiet = absurd (cc quiet)
request-loud phase.Ended taken waits quiet = absurd (cc waits)
request-loud phase.Dropped taken waits quiet = absurd (cc waits)

-- where all is quiet nothing is ready and no request waits
quiet-none-ready : (s : State) (ready : List (ℕ × Code × ℕ)) →
    All (λ item. IsReadyWith (phase_at s.context item.0) item.1 item.2) ready → AllQuiet s → ready ≡ []
quiet-none-ready s [] are quiet = refl
quiet-none-ready s ((op, code, size) ∷ newer) are quiet =
    absurd (ready-loud (phase_at s.context op) code size (was_taken s.reactor op)
    (All-head (λ item. IsReadyWith (phase_at s.context item.0) item.1 item.2) (op, code, size) newer are) (quiet op))

quiet-none-asked : (s : State) (requests : List ℕ) → All (λ n. is_untaken s n ≡ true) requests → AllQuiet s →
    requests ≡ []
quiet-none-asked s [] are quiet = refl
quiet-none-asked s (a ∷ newer) are quiet =
    absurd (request-loud (phase_at s.context a) (was_taken s.reactor a)
    (All-head (λ n. is_untaken s n ≡ true) a newer are) (quiet a))

empty-length : {X : Type 0} (xs : List X) → length xs ≡ 0 → xs ≡ []
empty-length [] none = refl
empty-length (x ∷ xs) none = absurd (omega (arith, none))

-- what each closing event asks can't be met
cannot_by : (script : ScriptModel) (told : Bool) (r : Recording) →
    (MayHappen script told (recorded_state told r) event.Ended → ⊥) →
    (MayHappen script told (recorded_state told r) event.Stopped → ⊥) →
    (MayHappen script told (recorded_state told r) event.Polled → ⊥) → CannotClose script told r
cannot_by script told r ended stopped polled event.Ended is may = ended may
cannot_by script told r ended stopped polled event.Stopped is may = stopped may
cannot_by script told r ended stopped polled event.Polled is may = polled may
cannot_by script told r ended stopped polled (event.Call a) is may = absurd is
cannot_by script told r ended stopped polled (event.Back a) is may = absurd is
cannot_by script told r ended stopped polled (event.Stop a) is may = absurd is
cannot_by script told r ended stopped polled (event.Begin o code size) is may = absurd is
cannot_by script told r ended stopped polled (event.End o mark) is may = absurd is
cannot_by script told r ended stopped polled (event.Take a) is may = absurd is
cannot_by script told r ended stopped polled (event.Done o code size) is may = absurd is
cannot_by script told r ended stopped polled (event.Tick now) is may = absurd is
cannot_by script told r ended stopped polled event.Last is may = absurd is
cannot_by script told r ended stopped polled event.Fault is may = absurd is
cannot_by script told r ended stopped polled event.Restart is may = absurd is
cannot_by script told r ended stopped polled (event.Dropped o mark) is may = absurd is

module _ {X : Type 0} (state : X → ReactorState) (told : X → Option Outside) (faults : X → ℕ) (telling : Bool)
    (named : ℕ) (r : Recording) (view : ProactorView X) (recorded : IsRecorded telling r)
    (keeps : KeepsReactor state told faults telling named r view) where
  module _ (works : view.tables.failed ≡ false) where
    half_works : (recorded_half telling r).failed ≡ false
    half_works = keeps.failed ∙ works

    pub may_stop : StopsAreRecorded → is_round_open r ≡ true → r.stopped ≡ true →
        EventIsRecorded telling r event.Stopped (with_closing event.Stopped true r)
    may_stop law opened stopped =
        let turned = keeps.turned works in
        law telling r recorded (record {
          round = round_open r opened;
          halted = stopped;
          working = half_works;
          nothing_due = turned.none_due;
          drained = turned.drained;
        })

    module _ (going : r.stopped ≡ false) where
      going_on : (recorded_state telling r).context.stopped ≡ false
      going_on = recorded.stopped ∙ going

      not_stopped : MayHappen r.script telling (recorded_state telling r) event.Stopped → ⊥
      not_stopped may = let stopped = may.stopped in let still = going_on in absurd (cc (stopped, still))

      pub cannot_ready : WorkIsKnown → r.ready ≢ [] → CannotClose r.script telling r
      cannot_ready law some =
          let known = law telling r recorded half_works in
          cannot_by r.script telling r
          (λ may. let idle = may.idle in some (empty-length r.ready (omega (arith, known, idle))))
          not_stopped
          (λ may. some (quiet-none-ready (recorded_state telling r) r.ready recorded.kept.are_ready.each may.idle))

      pub cannot_asked : WorkIsKnown → r.requests ≢ [] → CannotClose r.script telling r
      cannot_asked law some =
          let known = law telling r recorded half_works in
          cannot_by r.script telling r
          (λ may. let idle = may.idle in some (empty-length r.requests (omega (arith, known, idle))))
          not_stopped
          (λ may. some (quiet-none-asked (recorded_state telling r) r.requests recorded.kept.are_untaken.each may.idle))

      module _ (none_ready : r.ready ≡ []) (none_asked : r.requests ≡ []) where
        follows_now : Follows told view (recorded_half telling r)
        follows_now = (keeps.turned works).telling.follows

        pub may_end : WorkIsKnown → EndsAreRecorded → is_round_open r ≡ true →
            ((half : _) → Follows told view half → pending_count half + count_by is_held half.guards ≡ 0) →
            EventIsRecorded telling r event.Ended (with_closing event.Ended true r)
        may_end work law opened none =
            law telling r recorded (round_open r opened) going
            (work_is telling r recorded half_works none_ready none_asked work ∙ none (recorded_half telling r) follows_now)

        module _ (work : WorkIsKnown)
            (some : (half : _) → Follows told view half → 1 ≤ pending_count half + count_by is_held half.guards) where
          some_work : 1 ≤ outstanding_work (recorded_state telling r)
          some_work =
              let same = work_is telling r recorded half_works none_ready none_asked work in
              let here = some (recorded_half telling r) follows_now in
              omega (arith, same, here)

          pub cannot_run : runs (open_round r) ≡ true → CannotClose r.script telling r
          cannot_run is =
              let here = some_work in
              cannot_by r.script telling r
              (λ may. let idle = may.idle in omega (arith, idle, here))
              not_stopped
              (λ may.
              let polls = may.polls in
              let same : runs (slice_get r.script.rounds (recorded_state telling r).context.closings)
              ≡ runs (open_round r) =
              ap
              (λ closings. runs (slice_get r.script.rounds closings)) recorded.closings in
              absurd (cc (polls, same, is)))

          pub may_poll : PollsAreRecorded → is_round_open r ≡ true → runs (open_round r) ≡ false →
              EventIsRecorded telling r event.Polled (with_closing event.Polled false r)
          may_poll law opened isnt =
              law telling r recorded (record {
                turn = record {
                  round = round_open r opened;
                  going = going;
                  working = half_works;
                  nothing_due = (keeps.turned works).none_due;
                  drained = (keeps.turned works).drained;
                };
                polls = isnt;
                none_ready = none_ready;
                none_asked = none_asked;
                outstanding = some_work;
              })
