-- The oldest entry of a list that was taken off it.
use Rattle.std.proofs.Common.{◌≡◌, ℕ, Bool, [], ◌∷◌, ◌++◌, Option, sym, ap, subst, ◌∙◌}
use Rattle.asio_types.specs.declared.code.Code.{Code}
use Rattle.asio_types.specs.declared.event.Event.TheVariants as event
use Rattle.reactor_trait.specs.Reactor.{Outside, ReactorState}
use Rattle.proactor_core.specs.Proactor.{ProactorView}
use Rattle.op_handlers.specs.declared.call.Call.{Call}
use Rattle.op_handlers.specs.Marks.{Marks}
use Rattle.session_script.specs.Script.{ScriptModel}
use Rattle.strand_core.specs.Hands.{Held}
use Rattle.history_rules.specs.FromOutside.{has_fault}
use Rattle.book_context.specs.declared.answer.BookTurn.{BookTurn}
use Rattle.book_context.specs.declared.answer.BookTurn.TheVariants as turn
use Rattle.book_context.specs.Book.{HoldsUnspent, KeepsHistory, KeepsReactor}
use Rattle.book_context.specs.BookSteps.{HasGoneOn}
use Rattle.book_context.specs.InTurn.{HasExecutedNext, HasTakenNext, KeepsFaults, SpendsNone, TurnsReactor}
use Rattle.book_context.specs.Oldest.{with_ready, with_request}
use Rattle.book_context.specs.Recorded.{is_spent_at, recorded_half}
use Rattle.book_context.specs.Recording.{Recording}
use Rattle.book_context.specs.Steps.{IsRoundOpen}

pub popped_ready : (oldest : ℕ × Code × ℕ) (old new : Recording) → new ≡ record old { ready = new.ready } →
    old.ready ≡ oldest ∷ new.ready → with_ready oldest new ≡ old
popped_ready oldest old new after first =
    ap (λ (r : Recording). record r { ready = oldest ∷ new.ready }) after
    ∙ ap (λ xs. record old { ready = xs }) (sym first)

pub popped_request : (oldest : ℕ) (old new : Recording) → new ≡ record old { requests = new.requests } →
    old.requests ≡ oldest ∷ new.requests → with_request oldest new ≡ old
popped_request oldest old new after first =
    ap (λ (r : Recording). record r { requests = oldest ∷ new.requests }) after
    ∙ ap (λ xs. record old { requests = xs }) (sym first)

pub round_ready : (oldest : ℕ × Code × ℕ) (old new : Recording) → with_ready oldest new ≡ old → IsRoundOpen old →
    IsRoundOpen new
round_ready oldest old new same round =
    let there : IsRoundOpen (with_ready oldest new) = subst IsRoundOpen (sym same) round in
    record { left = there.left; restarted = there.restarted }

pub round_request : (oldest : ℕ) (old new : Recording) → with_request oldest new ≡ old → IsRoundOpen old →
    IsRoundOpen new
round_request oldest old new same round =
    let there : IsRoundOpen (with_request oldest new) = subst IsRoundOpen (sym same) round in
    record { left = there.left; restarted = there.restarted }

pub reactor_request : {X : Type 0} (state : X → ReactorState) (told : X → Option Outside) (faults : X → ℕ)
    (telling : Bool) (named : ℕ) (oldest : ℕ) (old new : Recording) (view : ProactorView X) →
    with_request oldest new ≡ old → KeepsReactor state told faults telling named old view →
    KeepsReactor state told faults telling named new view
reactor_request state told faults telling named oldest old new view same keeps =
    let there : KeepsReactor state told faults telling named (with_request oldest new) view =
    subst (λ r. KeepsReactor state told faults telling named r view) (sym same) keeps in
    record {
      script = there.script;
      in_step = there.in_step;
      turned = there.turned;
      failed = there.failed;
      faulted = there.faulted;
      stopped = there.stopped;
      least = there.least;
      stood = there.stood;
      rose = there.rose;
    }

pub executed_next : {H : Type 0} (marks : H → Marks) (script : ScriptModel) (told : Bool) (run : ℕ → Call → ℕ) (drop : ℕ → ℕ)
    (outside : Bool) (oldest : ℕ × Code × ℕ) (old new t : Recording) (hands : Held H) → with_ready oldest new ≡ old →
    KeepsHistory script told run drop outside t → HoldsUnspent marks told run drop t hands → t.script ≡ new.script →
    recorded_half told t ≡ recorded_half told new → KeepsFaults new t → HasGoneOn script run (with_ready oldest new) t →
    HasExecutedNext marks script told run drop outside old t hands
executed_next marks script told run drop outside oldest old new t hands same history holds same_script half faults gone = record {
  history = history;
  holds = holds;
  same_script = same_script ∙ ap (λ (r : Recording). r.script) same;
  half = half ∙ ap (recorded_half told) same;
  faults = faults ∙ ap (λ (r : Recording). has_fault r.events) same;
  gone = subst (λ r. HasGoneOn script run r t) same gone;
}

turned_of : (answer : BookTurn) (new old t : Recording) (before after : ℕ) → new.events ≡ old.events →
    TurnsReactor answer new t before after → TurnsReactor answer old t before after
turned_of turn.Did new old t before after same did =
    (record { events = did.0.events; is = did.0.is ∙ ap (λ es. es ++ did.0.events) same; turn = did.0.turn }, did.1)
turned_of turn.Fault new old t before after same did = (
  record {
    begun = did.0.begun;
    short = did.0.short;
    turn = did.0.turn;
    is = did.0.is ∙ ap (λ es. es ++ (did.0.begun ++ event.Fault ∷ [])) same;
  },
  did.1,
)
turned_of turn.Ended new old t before after same did = did
turned_of turn.Stopped new old t before after same did = did
turned_of turn.Idle new old t before after same did = did

pub taken_next : {X : Type 0} (state : X → ReactorState) (told : X → Option Outside) (faults : X → ℕ)
    (script : ScriptModel) (telling : Bool) (run : ℕ → Call → ℕ) (drop : ℕ → ℕ) (named : ℕ) (outside : Bool) (answer : BookTurn)
    (oldest : ℕ) (old new t : Recording) (view left : ProactorView X) → with_request oldest new ≡ old →
    KeepsHistory script telling run drop outside t → KeepsReactor state told faults telling named t left →
    t.script ≡ new.script → SpendsNone telling new t →
    TurnsReactor answer new t (faults view.reactor) (faults left.reactor) →
    HasTakenNext state told faults script telling run drop named outside answer old t view left
taken_next state told faults script telling run drop named outside answer oldest old new t view left same history
    reactor same_script spent turned = record {
      history = history;
      reactor = reactor;
      same_script = same_script ∙ ap (λ (r : Recording). r.script) same;
      spent = λ n. spent n ∙ ap (λ (r : Recording). is_spent_at telling r n) same;
      turned =
          turned_of answer new old t (faults view.reactor) (faults left.reactor) (ap (λ (r : Recording). r.events) same)
          turned;
    }
