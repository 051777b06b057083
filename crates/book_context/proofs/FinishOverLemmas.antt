-- A session that is over: what its end begins with, and what its caller gets.
use Rattle.std.proofs.Common.{◌≡◌, ◌∙◌, ℕ, arith, Bool, true, false, List, Option, inl, inr, length, refl, sym, ap, subst}
use Rattle.std.specs.Prelude.{IfSome, map}
use Rattle.std.specs.List.{Contains}
use Rattle.asio_types.specs.Faults.{Rose}
use Rattle.asio_types.specs.declared.event.Event.{Event}
use Rattle.asio_types.specs.declared.event.Event.TheVariants as event
use Rattle.op_handlers.specs.declared.call.Call.{Call}
use Rattle.op_handlers.specs.Marks.{Marks}
use Rattle.session_script.specs.Script.{ScriptModel}
use Rattle.history_rules.specs.Legal.{IsLegal, state_of}
use Rattle.history_rules.specs.State.{ReactorHalf}
use Rattle.reactor_trait.specs.Reactor.{Outside, ReactorState}
use Rattle.proactor_core.specs.Proactor.{Follows, IsSound, ProactorView, StandsAt, sent_to_peer}
use Rattle.strand_core.specs.Hands.{Held}
use Rattle.book_context.specs.Book.{HoldsUnspent, KeepsHistory, KeepsReactor}
use Rattle.book_context.specs.BookSteps.{IsBookOver}
use Rattle.book_context.specs.DropSteps.{DroppedAreLegal, DroppingBegins, IsDoneWith, IsDropping}
use Rattle.book_context.specs.Finish.{IsEnding}
use Rattle.book_context.specs.InTurn.{KeepsFaults}
use Rattle.book_context.specs.Recorded.{recorded_half}
use Rattle.book_context.specs.Recording.{Recording}
use Rattle.book_context.proofs.FinishLemmas.{no_fault, some_fault}

-- the history is legal as a whole
pub over_legal : DroppedAreLegal → (script : ScriptModel) (told : Bool) (last t : Recording) (events : List Event) →
    IsDropping told last (length script.acts) t → t.script ≡ script → events ≡ t.events → IsLegal script told events
over_legal ends script told last t events dropping same is =
    let of_last : last.script ≡ script = sym dropping.script ∙ same in
    let whole =
    ends told last t (subst (λ (s : ScriptModel). IsDropping told last (length s.acts) t) (sym of_last) dropping) in
    subst (IsLegal script told) (sym is) (subst (λ s. IsLegal s told t.events) of_last whole)

-- the reactor's half is that of the whole history
half_at_end : (script : ScriptModel) (told : Bool) (r t : Recording) (events : List Event) →
    t.script ≡ script → events ≡ t.events → recorded_half told t ≡ recorded_half told r →
    recorded_half told r ≡ (state_of script told events).reactor
half_at_end script told r t events same is half =
    sym half ∙ ap (λ s. (state_of s told t.events).reactor) same ∙ ap (λ es. (state_of script told es).reactor) (sym is)

-- the bytes sent are those of this half
abbrev SentAs : ReactorHalf → Outside → Type 0
SentAs half outside = map sent_to_peer outside.streams ≡ map sent_to_peer half.streams

module _ {X : Type 0} {state : X → ReactorState} {tells_of : X → Option Outside} {faults : X → ℕ}
    {script : ScriptModel} {told : Bool} {run : ℕ → Call → ℕ} {drop : ℕ → ℕ} {named : ℕ} {outside : Bool} {r : Recording} {view : ProactorView X}
    (history : KeepsHistory script told run drop outside r) (reactor : KeepsReactor state tells_of faults told named r view) where
  done_with : IsBookOver script r → IsDoneWith told r
  done_with (inl closed) = inl (closed ∙ ap (λ (s : ScriptModel). length s.rounds) (sym history.is_script))
  done_with (inr failed) = inr (reactor.failed ∙ sym reactor.faulted ∙ failed)

  -- before the first handler is destroyed
  pub begin_ending : {H : Type 0} {marks : H → Marks} {held : Held H} → DroppingBegins →
      HoldsUnspent marks told run drop r held → IsBookOver script r → IsEnding marks told run drop outside 0 r held
  begin_ending {held} begins holds over = record {
    last = r;
    held = held;
    recorded = history.recorded;
    holds = holds;
    dropping = begins told r history.recorded (done_with over);
    marked = history.marked;
    unstopped = history.unstopped;
    set_up = history.set_up;
    script = refl;
    from = λ m less. refl;
    below = λ m less. absurd (omega (arith, less));
  }

  module _ (t : Recording) (events : List Event) (is : events ≡ t.events) (kept : KeepsFaults r t) (after : X) where
    -- where the history shows a fault the reactor's count rose
    pub rose_at_end : after ≡ view.reactor → Contains events event.Fault → Rose named (faults after)
    rose_at_end same there =
        let shown = some_fault t.events (subst (λ es. Contains es event.Fault) is there) in
        let failed : view.tables.failed ≡ true = sym reactor.faulted ∙ sym kept ∙ shown in
        subst (λ x. Rose named (faults x)) (sym same) (reactor.rose failed)

    -- and where it shows none the count stands
    pub stood_at_end : after ≡ view.reactor → (Contains events event.Fault → ⊥) → faults after ≡ named
    stood_at_end same none =
        let shown = no_fault t.events (subst (λ es. Contains es event.Fault → ⊥) is none) in
        ap faults same ∙ reactor.stood (sym reactor.faulted ∙ sym kept ∙ shown)

    -- and the reactor has sent what the history has
    pub sent_at_end :
        ((half : ReactorHalf) → IsSound state tells_of view → Follows tells_of view half →
        StandsAt (state after) (tells_of after) half) →
        t.script ≡ script → recorded_half told t ≡ recorded_half told r → (Contains events event.Fault → ⊥) →
        IfSome (tells_of after) (SentAs (state_of script told events).reactor)
    sent_at_end stands same half none =
        let shown = no_fault t.events (subst (λ es. Contains es event.Fault → ⊥) is none) in
        let works : view.tables.failed ≡ false = sym reactor.faulted ∙ sym kept ∙ shown in
        let telling = (reactor.turned works).telling in
        subst (λ h. IfSome (tells_of after) (SentAs h)) (half_at_end script told r t events same is half)
        (stands (recorded_half told r) telling.sound telling.follows).sent
