-- What a run of a channel keeps.
use Rattle.std.proofs.Common.{◌≡◌, ◌≤◌, ℕ, ◌+◌, ◌==◌, Bool, true, false, List, [], ◌∷◌, ◌++◌, map, refl, ap, sym, subst, ◌∙◌, arith, append_assoc, append-nil}
use Rattle.std.specs.List.{list_any}
use Rattle.std.proofs.lemmas.Bool.{MatchBool-at_true, eqb-true, or_parts}
use Rattle.chan_core.specs.declared.done.ChanDone.{ChanDone}
use Rattle.chan_core.specs.Channel.{Channel, is_pending}
use Rattle.chan_core.specs.Pending.{has_number}
use Rattle.chan_core.specs.Runs.{ChanCall, ChanEvent, IsRun, KeepsOrder, MayCall, accepted_in, after_call, begins, code_after, received_in, sends_in, send_made}
use Rattle.chan_core.specs.Runs.ChanCall.{Cancel, Close, Lapse, Receive, Send}
use Rattle.chan_core.specs.Runs.ChanEvent.{Called, Told}
use Rattle.chan_core.specs.Runs.IsRun.{after_call_of, after_telling, newly_made}
use Rattle.chan_core.proofs.EndingLemmas.{step-of-cancel, step-of-close, step-of-lapse}
use Rattle.chan_core.proofs.LedgerLemmas.{received_in-append, sends_in-append, sends_in-told, settled}
use Rattle.chan_core.proofs.NumberLemmas.{none-pending}
use Rattle.chan_core.proofs.ReceiveLemmas.{step-of-receive}
use Rattle.chan_core.proofs.StepLemmas.{IsBalanced, IsLedger, IsStep, made_after, pending_of, step-of-send}
use Rattle.chan_core.proofs.TurnLemmas.{IsTurned, call-turned, completions-turned, dones, one_if, turned-append, turned-parted}

-- what holds of a channel after these events, with what is due among them
pub record IsKept (events : List ChanEvent) (c : Channel) : Type 0 where
  pub ledger : IsLedger (sends_in events) (received_in events) c
  pub turned : (op : ℕ) → IsTurned op 0 events (pending_of op c)
  pub balanced : IsBalanced c

-- an operation that may begin isn't pending
not-pending : (op : ℕ) (c : Channel) → is_pending op c ≡ false → pending_of op c ≡ 0
not-pending op c free =
    let parts = or_parts (list_any (has_number op) c.sends) (list_any (has_number op) c.receives) free in
    let sends = none-pending op c.sends parts.0 in
    let receives = none-pending op c.receives parts.1 in
    omega arith

not-pending_at : (n op : ℕ) (c : Channel) → (n == op) ≡ true → is_pending n c ≡ false → pending_of op c ≡ 0
not-pending_at n op c same free = subst (λ (k : ℕ). pending_of k c ≡ 0) (eqb-true n op same) (not-pending n c free)

free-of-call : (call : ChanCall) (c : Channel) → MayCall call c → (op : ℕ) → begins op call ≡ true →
    pending_of op c ≡ 0
free-of-call (Send n value deadline) c may op same = not-pending_at n op c same may.free
free-of-call (Receive n deadline) c may op same = not-pending_at n op c same may.free
free-of-call Close c may op same = absurd (cc)
free-of-call Cancel c may op same = absurd (cc)
free-of-call (Lapse wait) c may op same = absurd (cc)

step-of-call : (call : ChanCall) (c : Channel) → IsBalanced c → MayCall call c → IsStep call c (after_call call c)
step-of-call (Send n value deadline) c balanced may =
    step-of-send c.closed n value deadline c balanced (not-pending n c may.free) refl
step-of-call (Receive n deadline) c balanced may = step-of-receive n deadline c balanced (not-pending n c may.free)
step-of-call Close c balanced may = step-of-close c balanced
step-of-call Cancel c balanced may = step-of-cancel c balanced
step-of-call (Lapse wait) c balanced may = step-of-lapse wait c balanced

-- no number is pending twice after a call
still-apart : (b : Bool) (before after told : ℕ) → told + after ≡ before + one_if b → before ≤ 1 →
    (b ≡ true → before ≡ 0) → after ≤ 1
still-apart true before after told counted apart free = let none = free refl in omega arith
still-apart false before after told counted apart free = omega arith

call-kept : (events : List ChanEvent) (call : ChanCall) (c after : Channel) (step : IsStep call c after) →
    ((op : ℕ) → begins op call ≡ true → pending_of op c ≡ 0) → IsKept events c →
    IsKept (events ++ Called call ∷ map Told step.done) after
call-kept events call c after step free kept =
    let sends : sends_in (events ++ Called call ∷ map Told step.done) ≡ made_after call step.done (sends_in events) =
    sends_in-append events (Called call ∷ map Told step.done)
    ∙ ap (λ l. map (settled (λ op. code_after op (map Told step.done))) (sends_in events)
    ++ send_made call (map Told step.done) l) (sends_in-told step.done) in
    let values = received_in-append events (Called call ∷ map Told step.done) in
    record {
      ledger = rw (sends, values) (step.ledger (sends_in events) (received_in events) kept.ledger);
      turned = λ op.
          turned-append op 0 (pending_of op c) (pending_of op after) events (Called call ∷ map Told step.done)
          (kept.turned op)
          (call-turned op (pending_of op c) (pending_of op after) call step.done (step.counted op)
          (kept.balanced.apart op) (free op));
      balanced = record {
        apart = λ op.
            still-apart (begins op call) (pending_of op c) (pending_of op after) (dones op step.done)
            (step.counted op) (kept.balanced.apart op) (free op);
        within = step.within;
        full = step.full;
        empty = step.empty;
        one_kind = step.one_kind;
      };
    }

pub run-kept : (capacity room : ℕ) (events : List ChanEvent) (c : Channel) → IsRun capacity room events c →
    IsKept (events ++ map Told c.due) c
run-kept capacity room _ _ newly_made = record {
  ledger = record { order = refl; opens = refl; in_order = tt };
  turned = λ op. refl;
  balanced = record {
    apart = λ op. omega arith;
    within = omega arith;
    full = λ some. absurd (omega arith);
    empty = λ some. refl;
    one_kind = λ some. refl;
  };
}
run-kept capacity room _ _ (after_call_of events c call run nothing may) =
    let kept =
    subst (λ (l : List ChanEvent). IsKept l c)
    (ap (λ (l : List ChanDone). events ++ map Told l) nothing ∙ append-nil events)
    (run-kept capacity room events c run) in
    let step = step-of-call call c kept.balanced may in
    let due : (after_call call c).due ≡ step.done = step.due ∙ ap (λ (l : List ChanDone). l ++ step.done) nothing in
    subst (λ (l : List ChanEvent). IsKept l (after_call call c))
    (sym (ap (λ (l : List ChanDone). (events ++ Called call ∷ []) ++ map Told l) due
    ∙ append_assoc events (Called call ∷ []) (map Told step.done)))
    (call-kept events call c (after_call call c) step (free-of-call call c may) kept)
run-kept capacity room _ _ (after_telling events c done rest run is) =
    let kept =
    subst (λ (l : List ChanEvent). IsKept l c)
    (ap (λ (l : List ChanDone). events ++ map Told l) is
    ∙ sym (append_assoc events (Told done ∷ []) (map Told rest)))
    (run-kept capacity room events c run) in
    record {
      ledger = record { order = kept.ledger.order; opens = kept.ledger.opens; in_order = kept.ledger.in_order };
      turned = kept.turned;
      balanced = record {
        apart = kept.balanced.apart;
        within = kept.balanced.within;
        full = kept.balanced.full;
        empty = kept.balanced.empty;
        one_kind = kept.balanced.one_kind;
      };
    }

pub keeps-order : (capacity room : ℕ) (events : List ChanEvent) (c : Channel) → IsRun capacity room events c →
    KeepsOrder events c
keeps-order capacity room events c run =
    let kept = run-kept capacity room events c run in
    let turned : (op : ℕ) → (mid : ℕ) × IsTurned op 0 events mid =
    λ op.
    let parts = turned-parted op 0 (pending_of op c) events (map Told c.due) (kept.turned op) in
    (parts.0, parts.1.0) in
    record {
      order = λ nothing.
          let P : List ChanEvent → Type 0 = λ l. received_in l ++ c.buffer ≡ accepted_in l in
          subst P (ap (λ (l : List ChanDone). events ++ map Told l) nothing ∙ append-nil events) kept.ledger.order;
      once = λ op call before later begun is.
          let all = turned op in
          let parts =
          turned-parted op 0 all.0 before (Called call ∷ later)
          (subst (λ (l : List ChanEvent). IsTurned op 0 l all.0) is all.1) in
          completions-turned op 1 all.0 later
          (MatchBool-at_true ((parts.0 ≡ 0) × IsTurned op 1 later all.0) (IsTurned op parts.0 later all.0) begun
          parts.1.1).1;
      begun = λ op.
          let all = turned op in let few = completions-turned op 0 all.0 events all.1 in omega arith;
    }
