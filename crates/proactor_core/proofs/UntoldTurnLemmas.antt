-- A whole turn of a proactor beside a history with untold bytes.
use Rattle.std.proofs.Common.{◌≡◌, ◌≢◌, ℕ, ◌<◌, Bool, true, List, Option, map, inl, inr, sym, ap, subst, ◌∙◌, arith}
use Rattle.std.proofs.lemmas.Bool.{cases_lt}
use Rattle.std.proofs.lemmas.List.{get_or-set_other}
use Rattle.std.proofs.lemmas.List.Elements.{All-from_get_or, All-map}
use Rattle.stream_rules.specs.declared.queue.Completion.{Completion}
use Rattle.history_rules.specs.Rounds.{IsEmptied}
use Rattle.history_rules.specs.State.{StreamQueues}
use Rattle.reactor_trait.specs.Reactor.{Outside}
use Rattle.proactor_core.specs.Due.{Due}
use Rattle.proactor_core.specs.Streams.{new_stream_view, none_served, one_served, queues_in, stream_in, AreServedBelow, StreamView}
use Rattle.proactor_core.specs.Untold.{AreGivenBelow, AreUnderWay, LastTurnsDrain, UntoldTurns}
use Rattle.proactor_core.proofs.UntoldSettleLemmas.{untold-settles}
use Rattle.proactor_core.proofs.UntoldStreamLemmas.{served-count, streams-give-below}

pub untold-turns : UntoldTurns
untold-turns script mid half streams new later reached unserved turn =
    let queues = map queues_in new in
    let below =
    streams-give-below turn.last turn.number turn.old new turn.told turn.left turn.due later turn.within turn.served in
    let from =
    subst (λ (qs : List StreamQueues). AreGivenBelow turn.number qs queues turn.due.coming later.coming) (sym turn.queued)
    below in
    let after =
    subst (λ (d : List Completion). AreGivenBelow turn.number mid.queues queues d later.coming) turn.listed from in
    untold-settles script mid half turn.number reached streams queues later.coming unserved after
    (All-map AreUnderWay queues_in new turn.under_way)

-- the streams that were served have no operation
emptied-below : {last : Bool} {number : ℕ} {old new : List StreamView} {told left : Option Outside} {due later : Due} →
    last ≡ true → AreServedBelow last number old new told left due later → (k : ℕ) → k < number →
    IsEmptied (queues_in (stream_in new k))
emptied-below is none_served k below = absurd (omega arith)
emptied-below is (one_served {number = n} {old = old} {new = new} lower at) k below =
    let after = stream_in new n in
    let changed : StreamView = record (stream_in old n) {
      held = after.held;
      reads = after.reads;
      writes = after.writes;
    } in
    elim (cases_lt k n) [
      | inl less ↦
          let differ : k ≢ n = λ same. absurd (omega arith) in
          let there : stream_in new k ≡ stream_in old k =
          ap (λ vs. stream_in vs k) at.others ∙ get_or-set_other old n k changed (new_stream_view 0 0 0) differ in
          subst (λ (v : StreamView). IsEmptied (queues_in v)) (sym there) (emptied-below is lower k less)
      | inr most ↦
          let same : k ≡ n = omega arith in
          subst (λ m. IsEmptied (queues_in (stream_in new m))) (sym same) (at.reads_after_last is, at.writes_after_last is)
    ]

pub last-turns-drain : LastTurnsDrain
last-turns-drain last old new told left due later served is =
    let count = served-count served in
    All-map IsEmptied queues_in new
    (All-from_get_or (λ view. IsEmptied (queues_in view)) new (new_stream_view 0 0 0)
    (λ k within. emptied-below is served k (omega arith)))
