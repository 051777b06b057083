-- What a turn makes of a book, and what it answers.
use Rattle.std.proofs.Common.{◌≡◌, ℕ, Bool, true, false, not, Option, inr, refl, sym, ap, subst, ◌∙◌}
use Rattle.std.specs.Prelude.{◌||◌}
use Rattle.op_handlers.specs.declared.call.Call.{Call}
use Rattle.op_handlers.specs.Marks.{Marks}
use Rattle.session_script.specs.Script.{ScriptModel, is_op}
use Rattle.history_rules.specs.Rounds.{RoundIsOpen}
use Rattle.history_rules.specs.State.{ReactorHalf}
use Rattle.reactor_trait.specs.Reactor.{Outside, ReactorState}
use Rattle.proactor_core.specs.Proactor.{ProactorView}
use Rattle.strand_core.specs.Hands.{Held}
use Rattle.book_context.specs.declared.answer.BookTurn.{BookTurn}
use Rattle.book_context.specs.declared.answer.BookTurn.TheVariants as turn
use Rattle.reactor_turns.specs.Turned.{ReactorKeepsTime, IsTurned}
use Rattle.book_context.specs.Book.{BookView, HoldsUnspent, IsBook, KeepsHistory, KeepsReactor, unless_spent}
use Rattle.book_context.specs.BookSteps.{TurnAnswers, IsGoing, IsIdleRound, is_round_open}
use Rattle.book_context.specs.InTurn.{HasExecutedNext, HasTakenNext, SpendsNone, TurnsReactor, WaitsForOutside}
use Rattle.book_context.specs.Recorded.{is_spent_at, recorded_state}
use Rattle.book_context.specs.Recording.{Recording}
use Rattle.book_context.specs.Steps.{IsRoundOpen, OpenRoundsAreKnown}
use Rattle.book_context.proofs.OpenRoundLemmas.{closed_round, now_going}
use Rattle.book_context.proofs.ReactorTurnLemmas.{going_works}

abbrev shown : {X : Type 0} → Recording → ProactorView X → BookView X
shown r view = record { recording = r; reactor = view.reactor }

same_shown : {X : Type 0} (old new : Recording) (view left : ProactorView X) → new ≡ old → left ≡ view →
    shown new left ≡ shown old view
same_shown old new view left same same_view = ap (λ r. shown r left) same ∙ ap (shown old) same_view

-- where no handler was spent the same are held
pub held_on : {H : Type 0} (marks : H → Marks) (told : Bool) (run : ℕ → Call → ℕ) (drop : ℕ → ℕ) (r t : Recording) (hands : Held H) →
    HoldsUnspent marks told run drop r hands → t.script ≡ r.script → SpendsNone told r t →
    HoldsUnspent marks told run drop t hands
held_on marks told run drop r t hands holds same spent = record {
  script = holds.script ∙ sym same;
  each = λ n.
      holds.each n
      ∙ ap (λ (s : ScriptModel).
      unless_spent (not (is_op s n) || is_spent_at told r n) (record { run = run n; drop = drop n })) (sym same)
      ∙ ap (λ b. unless_spent (not (is_op t.script n) || b) (record { run = run n; drop = drop n })) (sym (spent n));
}

module _ {H X : Type 0} (script : ScriptModel) (told : Bool) (run : ℕ → Call → ℕ) (drop : ℕ → ℕ) (named : ℕ) (outside : Bool)
    (marks : H → Marks) (state : X → ReactorState) (tells_of : X → Option Outside) (faults : X → ℕ) (r : Recording)
    (hands : Held H) (view : ProactorView X)
    (inv : IsBook script told run drop named outside marks state tells_of faults r hands view) where
  pub stopped_answer : r.stopped ≡ true → TurnAnswers faults script told run turn.Stopped (shown r view) (shown r view)
  stopped_answer is = (refl, inv.history.recorded.stopped ∙ is)

  pub closed_answer : r.stopped ≡ false → is_round_open r ≡ false →
      TurnAnswers faults script told run turn.Idle (shown r view) (shown r view)
  closed_answer going isnt = (
    refl,
    inv.history.recorded.stopped ∙ going,
    λ open_round.
        absurd
        (closed_round told r inv.history.recorded isnt
        (subst (λ s. RoundIsOpen s (recorded_state told r).context) (sym inv.history.is_script) open_round.round)),
  )

  module _ (law : OpenRoundsAreKnown) (going : r.stopped ≡ false) (round : IsRoundOpen r) where
    is_going : IsGoing script (recorded_state told r)
    is_going =
        subst (λ s. IsGoing s (recorded_state told r)) inv.history.is_script
        (now_going told r inv.history.recorded law round going)

    pub executed_answer : (t : Recording) (left : Held H) →
        HasExecutedNext marks script told run drop outside r t left →
        TurnAnswers faults script told run turn.Did (shown r view) (shown t view)
    executed_answer t left did = (is_going, did.gone, refl)

    turned_answer : (answer : BookTurn) (t : Recording) (left : ProactorView X) →
        TurnsReactor answer r t (faults view.reactor) (faults left.reactor) →
        TurnAnswers faults script told run answer (shown r view) (shown t left)
    turned_answer turn.Did t left did =
        (is_going, record { events = did.0.events; is = did.0.is; step = inr did.0.turn }, did.1)
    turned_answer turn.Fault t left did = (is_going, did.0, did.1)
    turned_answer turn.Ended t left did = absurd did
    turned_answer turn.Stopped t left did = absurd did
    turned_answer turn.Idle t left did = absurd did

    pub taken_answer : (answer : BookTurn) (t : Recording) (left : ProactorView X) →
        HasTakenNext state tells_of faults script told run drop named outside answer r t view left →
        TurnAnswers faults script told run answer (shown r view) (shown t left)
    taken_answer answer t left did = turned_answer answer t left did.turned

    pub waited_answer : (answer : BookTurn) (t : Recording) (left : ProactorView X) →
        WaitsForOutside faults told answer r t view left → TurnAnswers faults script told run answer (shown r view) (shown t left)
    waited_answer turn.Did t left did = turned_answer turn.Did t left did
    waited_answer turn.Fault t left did = turned_answer turn.Fault t left did
    waited_answer turn.Ended t left did = (same_shown r t view left did.0 did.1, is_going, did.2)
    waited_answer turn.Stopped t left did = absurd did
    waited_answer turn.Idle t left did = (
      same_shown r t view left did.0 did.1,
      inv.history.recorded.stopped ∙ going,
      λ _. subst (λ s. IsIdleRound s (recorded_state told r)) inv.history.is_script did.2,
    )

  pub executed_book : r.stopped ≡ false → (t : Recording) (left : Held H) →
      HasExecutedNext marks script told run drop outside r t left →
      IsBook script told run drop named outside marks state tells_of faults t left view
  executed_book going t left did =
      let keeps = inv.reactor in
      let works = going_works state tells_of faults told named r view keeps going in
      record {
        history = did.history;
        holds = did.holds;
        reactor = record {
          script = keeps.script ∙ sym did.same_script;
          in_step =
              subst (λ h. ReactorKeepsTime told h (state view.reactor) (tells_of view.reactor)) (sym did.half) keeps.in_step;
          turned = λ is. subst (λ h. IsTurned state tells_of h view) (sym did.half) (keeps.turned is);
          failed = ap (λ (h : ReactorHalf). h.failed) did.half ∙ keeps.failed;
          faulted = did.faults ∙ keeps.faulted;
          stopped = λ failed. absurd (cc (works, failed));
          least = keeps.least;
          stood = keeps.stood;
          rose = keeps.rose;
        };
      }

  pub turned_book : (t : Recording) (left : ProactorView X) → KeepsHistory script told run drop outside t →
      KeepsReactor state tells_of faults told named t left → t.script ≡ r.script → SpendsNone told r t →
      IsBook script told run drop named outside marks state tells_of faults t hands left
  turned_book t left history reactor same spent = record {
    history = history;
    holds = held_on marks told run drop r t hands inv.holds same spent;
    reactor = reactor;
  }
