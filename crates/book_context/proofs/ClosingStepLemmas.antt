-- What closings, restarts and stops from outside make of what a book keeps.
use Rattle.std.proofs.Common.{◌≡◌, ℕ, Bool, true, false, not, List, ◌∷◌, ◌++◌, Option, Some, None, refl, sym, ap, subst, ◌∙◌, []}
use Rattle.std.specs.Prelude.{◌||◌, ◌&&◌}
use Rattle.std.proofs.lemmas.List.Folds.{list_any-append}
use Rattle.std.proofs.lemmas.Option.{slice_get_within}
use Rattle.asio_types.specs.declared.event.Event.{Event}
use Rattle.asio_types.specs.declared.event.Event.TheVariants as event
use Rattle.op_handlers.specs.declared.call.Call.{Call}
use Rattle.op_handlers.specs.Marks.{Marks, own_marks}
use Rattle.session_script.specs.Script.{ScriptModel, is_op}
use Rattle.session_script.specs.declared.round.Round.{Round}
use Rattle.history_rules.specs.FromOutside.{has_fault, is_fault}
use Rattle.history_rules.specs.Legal.{reactor_after}
use Rattle.history_rules.specs.Rounds.{MayRestart, restarts}
use Rattle.history_rules.specs.State.{ReactorHalf, State}
use Rattle.reactor_trait.specs.Reactor.{Outside, ReactorState}
use Rattle.proactor_core.specs.Proactor.{ProactorView}
use Rattle.strand_core.specs.Hands.{Held}
use Rattle.reactor_turns.specs.Turned.{ReactorKeepsTime, IsTurned}
use Rattle.execution_laws.proofs.ShownLemmas.{marks_go_on}
use Rattle.book_context.specs.Book.{HoldsUnspent, IsBook, KeepsHistory, KeepsReactor, unless_spent}
use Rattle.book_context.specs.BookSteps.{IsClosing, IsGoing, is_round_open, open_round, wants_restart, wants_with}
use Rattle.book_context.specs.InTurn.{SpendsNone}
use Rattle.book_context.specs.Recorded.{IsRecorded, is_spent_at, recorded_half, recorded_state}
use Rattle.book_context.specs.Recording.{Recording, with_closing, with_outside_stop, with_restart}
use Rattle.book_context.specs.RoundSteps.{OutsideStopsAreRecorded, RestartsAreRecorded}
use Rattle.book_context.specs.Steps.{EventIsRecorded, OpenRoundsAreKnown}
use Rattle.book_context.proofs.BookHistoryLemmas.{IsPlain, history-plain, or_false}
use Rattle.book_context.proofs.OpenRoundLemmas.{round_open}

-- the same handlers are held where the same are spent
holds_same : {H : Type 0} (marks : H → Marks) (told : Bool) (run : ℕ → Call → ℕ) (drop : ℕ → ℕ) (r t : Recording) (hands : Held H) →
    HoldsUnspent marks told run drop r hands → t.script ≡ r.script → SpendsNone told r t →
    HoldsUnspent marks told run drop t hands
holds_same marks told run drop r t hands holds script none = record {
  script = holds.script ∙ sym script;
  each = λ n.
      holds.each n
      ∙ ap (λ s. unless_spent (not (is_op s n) || is_spent_at told r n) (record { run = run n; drop = drop n })) (sym script)
      ∙ ap (λ b. unless_spent (not (is_op t.script n) || b) (record { run = run n; drop = drop n })) (sym (none n));
}

-- the proactor stands as before where the reactor's half does
reactor_same : {X : Type 0} (state : X → ReactorState) (told : X → Option Outside) (faults : X → ℕ) (telling : Bool)
    (named : ℕ) (r t : Recording) (view : ProactorView X) → KeepsReactor state told faults telling named r view →
    t.script ≡ r.script → recorded_half telling t ≡ recorded_half telling r → has_fault t.events ≡ has_fault r.events →
    (view.tables.failed ≡ true → t.stopped ≡ true) → KeepsReactor state told faults telling named t view
reactor_same state told faults telling named r t view keeps script half fault stopped = record {
  script = keeps.script ∙ sym script;
  in_step = subst (λ h. ReactorKeepsTime telling h (state view.reactor) (told view.reactor)) (sym half) keeps.in_step;
  turned = λ works. subst (λ h. IsTurned state told h view) (sym half) (keeps.turned works);
  failed = ap (λ (h : ReactorHalf). h.failed) half ∙ keeps.failed;
  faulted = fault ∙ keeps.faulted;
  stopped = stopped;
  least = keeps.least;
  stood = keeps.stood;
  rose = keeps.rose;
}

other_alone : (xs : List Event) → xs ++ event.Stop None ∷ [] ≡ event.Fault ∷ [] → ⊥
other_alone [] same = absurd (cc same)
other_alone (x ∷ []) same = absurd (cc same)
other_alone (x ∷ y ∷ xs) same = absurd (cc same)

-- somebody outside stopped the context, which is allowed
stopped_history : (script : ScriptModel) (told : Bool) (run : ℕ → Call → ℕ) (drop : ℕ → ℕ) (outside : Bool) (r : Recording) →
    KeepsHistory script told run drop outside r → outside ≡ true →
    IsRecorded told (with_outside_stop r) → KeepsHistory script told run drop outside (with_outside_stop r)
stopped_history script told run drop outside r keeps allowed recorded = record {
  recorded = recorded;
  is_script = keeps.is_script;
  marked = marks_go_on (own_marks run) drop r.events (event.Stop None ∷ []) keeps.marked (tt, tt);
  unstopped = λ none. absurd (let both : true ≡ false = sym allowed ∙ none in cc both);
  set_up = other_alone r.events;
}

wants_left : (restarted : Bool) (round : Option Round) → wants_with restarted round ≡ true →
    (found : Round) × (round ≡ Some found)
wants_left restarted None is = absurd (cc is)
wants_left restarted (Some round) is = (round, refl)

wants_first : (restarted : Bool) (round : Option Round) → wants_with restarted round ≡ true → restarts round ≡ true
wants_first restarted None is = absurd (cc is)
wants_first restarted (Some round) is = by_flag round.restart is
  where
    by_flag : (flag : Bool) → (flag && not restarted) ≡ true → flag ≡ true
    by_flag true is = refl
    by_flag false is = absurd (cc is)

wants_once : (restarted : Bool) (round : Option Round) → wants_with restarted round ≡ true → restarted ≡ false
wants_once false round is = refl
wants_once true None is = absurd (cc is)
wants_once true (Some round) is = absurd (by_flag round.restart is)
  where
    by_flag : (flag : Bool) → (flag && false) ≡ true → ⊥
    by_flag true is = absurd (cc is)
    by_flag false is = absurd (cc is)

module _ {H X : Type 0} (script : ScriptModel) (told : Bool) (run : ℕ → Call → ℕ) (drop : ℕ → ℕ) (named : ℕ) (outside : Bool)
    (marks : H → Marks) (state : X → ReactorState) (tells_of : X → Option Outside) (faults : X → ℕ) (r : Recording)
    (hands : Held H) (view : ProactorView X)
    (book : IsBook script told run drop named outside marks state tells_of faults r hands view) where
  -- an event that leaves the reactor's half
  book_on : (event : Event) (t : Recording) → EventIsRecorded told r event t →
      KeepsHistory script told run drop outside t → t.script ≡ r.script → has_fault t.events ≡ has_fault r.events →
      reactor_after r.script told (recorded_half told r) event ≡ recorded_half told r →
      (view.tables.failed ≡ true → t.stopped ≡ true) →
      IsBook script told run drop named outside marks state tells_of faults t hands view
  book_on event t goes history same fault half stopped = record {
    history = history;
    holds = holds_same marks told run drop r t hands book.holds same goes.spent;
    reactor =
        reactor_same state tells_of faults told named r t view book.reactor same (ap (λ (s : State). s.reactor) goes.state ∙ half)
        fault stopped;
  }

  faults_on : (event : Event) → is_fault event ≡ false → has_fault (r.events ++ event ∷ []) ≡ has_fault r.events
  faults_on event isnt = list_any-append is_fault r.events (event ∷ [])
      ∙ or_false (has_fault r.events) (is_fault event || false) (none (is_fault event) isnt)
    where
      none : (b : Bool) → b ≡ false → (b || false) ≡ false
      none true is = absurd (cc is)
      none false is = refl

  half_works : view.tables.failed ≡ true → (recorded_half told r).failed ≡ true
  half_works failed = book.reactor.failed ∙ failed

  stops_works : view.tables.failed ≡ true → (recorded_state told r).context.stopped ≡ true
  stops_works failed = book.history.recorded.stopped ∙ book.reactor.stopped failed

  closed_by : (event : Event) (stopped : Bool) → EventIsRecorded told r event (with_closing event stopped r) →
      IsPlain run drop (r.events ++ event ∷ []) (event ∷ []) → is_fault event ≡ false →
      reactor_after r.script told (recorded_half told r) event ≡ recorded_half told r →
      (view.tables.failed ≡ true → stopped ≡ true) →
      IsBook script told run drop named outside marks state tells_of faults (with_closing event stopped r) hands view
  closed_by event stopped goes plain isnt half stays =
      book_on event (with_closing event stopped r) goes
      (history-plain script told run drop outside r (with_closing event stopped r) (event ∷ []) book.history
      goes.recorded refl refl plain)
      refl (faults_on event isnt) half stays

  pub closed_book : (closing : Event) (stopped : Bool) → IsClosing closing →
      EventIsRecorded told r closing (with_closing closing stopped r) →
      IsBook script told run drop named outside marks state tells_of faults (with_closing closing stopped r) hands view
  closed_book event.Ended stopped is goes =
      closed_by event.Ended stopped goes (record { marked = (tt, tt); working = refl; inside = refl }) refl refl
      (λ failed. absurd (let going = goes.may.going in let was = stops_works failed in cc (going, was)))
  closed_book event.Stopped stopped is goes =
      closed_by event.Stopped stopped goes (record { marked = (tt, tt); working = refl; inside = refl }) refl refl
      (λ failed. absurd (let works = goes.may.working in let was = half_works failed in cc (works, was)))
  closed_book event.Polled stopped is goes =
      closed_by event.Polled stopped goes (record { marked = (tt, tt); working = refl; inside = refl }) refl refl
      (λ failed. absurd (let going = goes.may.going in let was = stops_works failed in cc (going, was)))
  closed_book (event.Call a) stopped is goes = absurd is
  closed_book (event.Back a) stopped is goes = absurd is
  closed_book (event.Stop a) stopped is goes = absurd is
  closed_book (event.Begin op code size) stopped is goes = absurd is
  closed_book (event.End op mark) stopped is goes = absurd is
  closed_book (event.Take a) stopped is goes = absurd is
  closed_book (event.Done op code size) stopped is goes = absurd is
  closed_book (event.Tick now) stopped is goes = absurd is
  closed_book event.Last stopped is goes = absurd is
  closed_book event.Fault stopped is goes = absurd is
  closed_book event.Restart stopped is goes = absurd is
  closed_book (event.Dropped op mark) stopped is goes = absurd is

  -- a restart
  pub may_restart : RestartsAreRecorded → view.tables.failed ≡ false → wants_restart r ≡ true →
      EventIsRecorded told r event.Restart (with_restart r)
  may_restart law works wants =
      law told r book.history.recorded (record {
        left =
            let found = wants_left r.restarted (open_round r) wants in
            slice_get_within r.script.rounds r.closings found.0 found.1;
        wanted = wants_first r.restarted (open_round r) wants;
        once = wants_once r.restarted (open_round r) wants;
        working = book.reactor.failed ∙ works;
      })

  pub restarted_book : EventIsRecorded told r event.Restart (with_restart r) →
      IsBook script told run drop named outside marks state tells_of faults (with_restart r) hands view
  restarted_book goes =
      book_on event.Restart (with_restart r) goes
      (history-plain script told run drop outside r (with_restart r) (event.Restart ∷ []) book.history goes.recorded refl refl
      (record { marked = (tt, tt); working = refl; inside = refl }))
      refl (faults_on event.Restart refl) refl
      (λ failed. absurd (let works = goes.may.working in let was = half_works failed in cc (works, was)))

  pub was_allowed : EventIsRecorded told r event.Restart (with_restart r) → MayRestart script (recorded_state told r)
  was_allowed goes = subst (λ s. MayRestart s (recorded_state told r)) book.history.is_script goes.may

  -- a stop from outside
  pub may_stop_outside : OutsideStopsAreRecorded → is_round_open r ≡ true → r.stopped ≡ false →
      EventIsRecorded told r (event.Stop None) (with_outside_stop r)
  may_stop_outside law opened going = law told r book.history.recorded (round_open r opened) going

  pub outside_book : outside ≡ true → EventIsRecorded told r (event.Stop None) (with_outside_stop r) →
      IsBook script told run drop named outside marks state tells_of faults (with_outside_stop r) hands view
  outside_book allowed goes =
      book_on (event.Stop None) (with_outside_stop r) goes
      (stopped_history script told run drop outside r book.history allowed goes.recorded)
      refl (faults_on (event.Stop None) refl) refl (λ failed. refl)

  pub now_going : OpenRoundsAreKnown → is_round_open r ≡ true → r.stopped ≡ false →
      IsGoing script (recorded_state told r)
  now_going law opened still = subst (λ s. IsGoing s (recorded_state told r)) book.history.is_script
      (record { round = law told r book.history.recorded (round_open r opened); going = book.history.recorded.stopped ∙ still })
