-- A completion is told, and a turn that is told whole.
use Rattle.std.proofs.Common.{◌≡◌, ℕ, Bool, ◌∷◌, ◌++◌, Option, refl, sym, ap, subst, ◌∙◌, []}
use Rattle.std.specs.Prelude.{IsTrue}
use Rattle.std.proofs.lemmas.List.{append-nil, append_assoc}
use Rattle.std.proofs.lemmas.List.Elements.{All-append, All-cons, All-nil}
use Rattle.asio_types.specs.declared.code.Code.{Code}
use Rattle.asio_types.specs.declared.event.Event.TheVariants as event
use Rattle.op_handlers.specs.declared.call.Call.{Call}
use Rattle.session_script.specs.Script.{ScriptModel}
use Rattle.history_rules.specs.Requests.{MayTell, reactor_after_done}
use Rattle.history_rules.specs.State.{ReactorHalf, State}
use Rattle.reactor_trait.specs.Reactor.{Outside, ReactorState}
use Rattle.proactor_core.specs.Proactor.{Follows, IsSound, ProactorView, tells}
use Rattle.book_context.specs.Book.{KeepsHistory}
use Rattle.book_context.specs.BookSteps.{IsDone}
use Rattle.book_context.specs.InTurn.{HasOnlyTold, IsInTurn}
use Rattle.book_context.specs.Recorded.{recorded_half}
use Rattle.book_context.specs.Recording.{Recording, with_done}
use Rattle.book_context.specs.TurnSteps as steps
use Rattle.book_context.proofs.BookHistoryLemmas.{faults-plain, history-plain}
use Rattle.reactor_turns.proofs.ClockLemmas.{time-done}

module _ {X : Type 0} (state : X → ReactorState) (told : X → Option Outside) (telling : Bool) (script : ScriptModel)
    (run : ℕ → Call → ℕ) (drop : ℕ → ℕ) (outside : Bool) (r : Recording) (view : ProactorView X)
    (keeps : KeepsHistory script telling run drop outside r) (turn : IsInTurn state told telling r view) (op : ℕ)
    (code : Code) (size : ℕ) where
  half : ReactorHalf
  half = recorded_half telling r

  -- what the proactor tells may be told
  pub may_tell : ((half : ReactorHalf) → Follows told view half →
      MayTell view.script (tells (told view.reactor)) half op code size) →
      MayTell r.script telling (recorded_half telling r) op code size
  may_tell allowed =
      subst (λ (s : ScriptModel). MayTell s telling (recorded_half telling r) op code size) turn.script
      (subst (λ b. MayTell view.script b (recorded_half telling r) op code size) turn.in_step.tells
      (allowed (recorded_half telling r) turn.telling.follows))

  pub step : steps.CompletionsAreRecorded →
      ((half : ReactorHalf) → Follows told view half →
      MayTell view.script (tells (told view.reactor)) half op code size) →
      steps.CompletionIsRecorded telling r op code size
  step law allowed = law telling r op code size keeps.recorded turn.telling.works turn.turn (may_tell allowed)

  module _ (did : steps.CompletionIsRecorded telling r op code size) where
    pub done_history : KeepsHistory script telling run drop outside (with_done op code size r)
    done_history =
        history-plain script telling run drop outside r (with_done op code size r) (event.Done op code size ∷ []) keeps
        did.goes.recorded refl refl
        (record { marked = (tt, tt); working = refl; inside = refl })

    pub done_told : HasOnlyTold telling r (with_done op code size r)
    done_told = record {
      events = event.Done op code size ∷ [];
      is = refl;
      completes = All-cons IsDone (event.Done op code size) [] tt (All-nil IsDone);
      script = refl;
      stopped = refl;
      spent = did.goes.spent;
      faults =
          faults-plain run drop {history = r.events} r.events (event.Done op code size ∷ [])
          (record { marked = (tt, tt); working = refl; inside = refl });
    }

    after : recorded_half telling (with_done op code size r) ≡ reactor_after_done r.script (recorded_half telling r) op
    after = ap (λ (s : State). s.reactor) did.goes.state

    pub done_turn : (next : ProactorView X) → next.script ≡ view.script → next.reactor ≡ view.reactor →
        next.tables.failed ≡ view.tables.failed → IsSound state told next →
        ((half : ReactorHalf) → Follows told view half → Follows told next (reactor_after_done view.script half op)) →
        IsInTurn state told telling (with_done op code size r) next
    done_turn next same_script same_reactor same_failed sound follows = record {
      script = same_script ∙ turn.script;
      in_step = record {
        tells = ap (λ x. tells (told x)) same_reactor ∙ turn.in_step.tells;
        up = subst (λ x. IsTrue (state x).up) (sym same_reactor) turn.in_step.up;
        now =
            ap (λ x. (state x).now) same_reactor ∙ turn.in_step.now
            ∙ sym (ap (λ (h : ReactorHalf). h.now) after ∙ (time-done r.script (recorded_half telling r) op).now);
      };
      telling = record {
        working = same_failed ∙ turn.telling.working;
        works = did.working;
        sound = sound;
        follows = subst (Follows told next) (sym after)
            (subst (λ (s : ScriptModel). Follows told next (reactor_after_done s (recorded_half telling r) op))
            turn.script (follows (recorded_half telling r) turn.telling.follows));
      };
      turn = did.turn;
    }

-- of a turn so much was told
pub record TellsOn {X : Type 0} (state : X → ReactorState) (told : X → Option Outside) (script : ScriptModel)
    (telling : Bool) (run : ℕ → Call → ℕ) (drop : ℕ → ℕ) (outside : Bool) (first r : Recording) (begun view : ProactorView X)
    : Type 0 where
  pub history : KeepsHistory script telling run drop outside r
  pub turn : IsInTurn state told telling r view
  pub reactor : view.reactor ≡ begun.reactor
  pub told_so_far : HasOnlyTold telling first r

pub told-none : (telling : Bool) (r : Recording) → HasOnlyTold telling r r
told-none telling r = record {
  events = [];
  is = sym (append-nil r.events);
  completes = All-nil IsDone;
  script = refl;
  stopped = refl;
  spent = λ n. refl;
  faults = refl;
}

pub told-more : (telling : Bool) (first r t : Recording) → HasOnlyTold telling first r → HasOnlyTold telling r t →
    HasOnlyTold telling first t
told-more telling first r t one two = record {
  events = one.events ++ two.events;
  is = two.is ∙ ap (λ es. es ++ two.events) one.is ∙ append_assoc first.events one.events two.events;
  completes = All-append IsDone one.events two.events one.completes two.completes;
  script = two.script ∙ one.script;
  stopped = two.stopped ∙ one.stopped;
  spent = λ n. two.spent n ∙ one.spent n;
  faults = two.faults ∙ one.faults;
}
