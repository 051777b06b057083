-- What a handler staged takes effect call by call.
use Rattle.std.proofs.Common.{ap, refl, subst, sym, ◌∙◌}
use Rattle.std.proofs.lemmas.Bool.{true≢false}
use Rattle.std.specs.Prelude.{◌≡◌, ℕ, true, List, ◌∷◌, None, Some}
use Rattle.asio_types.specs.declared.code.Code.{Code}
use Rattle.asio_types.specs.declared.code.Code.TheVariants as code
use Rattle.io_rules.specs.declared.event.Event.{Event}
use Rattle.io_rules.specs.declared.event.Event.TheVariants as event
use Rattle.io_rules.specs.declared.operation.Operation.{Operation}
use Rattle.io_rules.specs.declared.operation.Operation.TheVariants as operation
use Rattle.io_rules.specs.declared.request.Gone.{Gone}
use Rattle.io_rules.specs.declared.request.Gone.TheVariants as gone
use Rattle.io_rules.specs.declared.request.Marks.{Marks}
use Rattle.io_rules.specs.declared.request.Request.{Request}
use Rattle.io_rules.specs.Calls.{gone_of}
use Rattle.io_rules.specs.Legal.{MayHappen, after}
use Rattle.io_rules.specs.State.{ContextState}
use Rattle.io_handlers.specs.declared.staged.Staged.{Staged}
use Rattle.io_handlers.specs.Initiated.{is_offered_kind}
use Rattle.io_scheduler.specs.Called.{is_any_gone}
use Rattle.io_scheduler.specs.Come.{MayCome, behind}
use Rattle.io_scheduler.specs.Staged.{AreStaged, IsCalled, staged_behind}
use Rattle.io_scheduler.specs.Transferred.{code_at_once, done_if}

-- the events of a call, where so much is gone
abbrev pub called_as : ℕ → Request → Gone → ContextState → List Event
called_as by request gone s =
    event.Called s.next (Some by) request gone ∷ done_if s.next (code_at_once s request.kind gone)

pub is_called : (by : ℕ) (request : Request) (gone : Gone) (s new : ContextState) → gone ≡ gone_of s request →
    MayCome (called_as by request gone s) s → new ≡ behind (called_as by request gone s) s → IsCalled by request s new
is_called by request gone s new is may new_is = record {
  may = subst (λ g. MayCome (called_as by request g s) s) is may;
  is = new_is ∙ ap (λ g. behind (called_as by request g s) s) is;
}

-- it doesn't complete at once,
pub is_called_alone : (by : ℕ) (request : Request) (lost : Gone) (s new : ContextState) → lost ≡ gone_of s request →
    code_at_once s request.kind lost ≡ None → MayHappen s (event.Called s.next (Some by) request lost) →
    new ≡ after (event.Called s.next (Some by) request lost) s → IsCalled by request s new
is_called_alone by request lost s new is none may new_is =
    let call = event.Called s.next (Some by) request lost in
    is_called by request lost s new is (subst (λ o. MayCome (call ∷ done_if s.next o) s) (sym none) (may, tt))
    (new_is ∙ ap (λ o. behind (call ∷ done_if s.next o) s) (sym none))

-- or does
pub is_called_over : (by : ℕ) (request : Request) (lost : Gone) (given : Code) (s new : ContextState) →
    lost ≡ gone_of s request → code_at_once s request.kind lost ≡ Some given →
    MayHappen s (event.Called s.next (Some by) request lost) →
    MayHappen (after (event.Called s.next (Some by) request lost) s) (event.Done s.next given 0) →
    new ≡ after (event.Done s.next given 0) (after (event.Called s.next (Some by) request lost) s) →
    IsCalled by request s new
is_called_over by request lost given s new is over one two new_is =
    let call = event.Called s.next (Some by) request lost in
    is_called by request lost s new is (subst (λ o. MayCome (call ∷ done_if s.next o) s) (sym over) (one, (two, tt)))
    (new_is ∙ ap (λ o. behind (call ∷ done_if s.next o) s) (sym over))

-- what names something gone does
refused_over : (s : ContextState) (kind : Operation) (lost : Gone) → is_any_gone lost ≡ true →
    code_at_once s kind lost ≡ Some code.Bad
refused_over s kind gone.Nothing any = absurd (true≢false (sym any))
refused_over s kind gone.Strand any = refl
refused_over s kind gone.Other any = refl

pub is_refused : (by : ℕ) (request : Request) (lost : Gone) (s new : ContextState) → lost ≡ gone_of s request →
    is_any_gone lost ≡ true → MayHappen s (event.Called s.next (Some by) request lost) →
    MayHappen (after (event.Called s.next (Some by) request lost) s) (event.Done s.next code.Bad 0) →
    new ≡ after (event.Done s.next code.Bad 0) (after (event.Called s.next (Some by) request lost) s) →
    IsCalled by request s new
is_refused by request lost s new is any one two new_is =
    is_called_over by request lost code.Bad s new is (refused_over s request.kind lost any) one two new_is

-- postings and waits don't
pub never_at_once : (s : ContextState) (kind : Operation) → is_offered_kind kind ≡ true →
    code_at_once s kind gone.Nothing ≡ None
never_at_once s operation.Post is = refl
never_at_once s operation.Defer is = refl
never_at_once s operation.Dispatch is = refl
never_at_once s (operation.Wait timer) is = refl
never_at_once s _ is = absurd (true≢false (sym is))

-- so far, where these are left
pub record IsCommitting {H S : Type 0} (marks : H → Marks) (by at : ℕ) (all left : List (Staged H S))
    (old now : ContextState) : Type 0 where
  pub behind_all : staged_behind marks by at all old ≡ staged_behind marks by at left now
  pub staged_all : AreStaged marks by at left now → AreStaged marks by at all old
