-- What close, cancel and lapse do to the ledger of a channel's sends, and to the numbers that are
-- pending.
use Rattle.std.proofs.Common.{◌≡◌, ℕ, Bool, true, false, not, cond, List, [], ◌∷◌, ◌++◌, Option, Some, None, filter, map, refl, ap, sym, subst, ◌∙◌, arith, append-nil}
use Rattle.std.proofs.lemmas.List.{map-append}
use Rattle.std.proofs.lemmas.List.Filters.{length-filter_both}
use Rattle.chan_core.specs.declared.done.ChanCode.{ChanCode}
use Rattle.chan_core.specs.declared.done.ChanCode.TheVariants as chan_code
use Rattle.chan_core.specs.declared.pending.PendingOp.{PendingOp}
use Rattle.chan_core.specs.Channel.{Channel, cancelled, closed, lapsed}
use Rattle.chan_core.specs.Pending.{ends_with, is_wait}
use Rattle.chan_core.specs.Runs.{ChanCall, ChanEvent, begins, code_after, is_ok, received_in, send_made}
use Rattle.chan_core.specs.Runs.ChanCall.{Cancel, Close, Lapse}
use Rattle.chan_core.specs.Runs.ChanEvent.{Told}
use Rattle.chan_core.proofs.LedgerLemmas.{Each, Each-map, filter-every, filter-none, filter-same, is_left, received_in-append, refused, settled}
use Rattle.chan_core.proofs.NumberLemmas.{dones-append, dones-ended, each-code, ended_by, times-parted}
use Rattle.chan_core.proofs.StepLemmas.{IsBalanced, IsStep}
use Rattle.chan_core.proofs.TurnLemmas.{one_if}

-- an operation passes the test by its deadline
abbrev pub passes : {V : Type 0} → (Option ℕ → Bool) → PendingOp V → Bool
passes test pending = test pending.deadline

received-ended : {V : Type 0} (code : ChanCode) (xs : List (PendingOp V)) →
    received_in (map Told (map (ends_with code) xs)) ≡ []
received-ended code [] = refl
received-ended code (x ∷ xs) = received-ended code xs

received-ended_by : {V W : Type 0} (code : ChanCode) (xs : List (PendingOp V)) (ys : List (PendingOp W)) →
    received_in (map Told (ended_by code xs ys)) ≡ []
received-ended_by code xs ys =
    rw (
      map-append Told (map (ends_with code) xs) (map (ends_with code) ys),
      received_in-append (map Told (map (ends_with code) xs)) (map Told (map (ends_with code) ys)),
      received-ended code xs,
      received-ended code ys,
    ) refl

-- the channel where the operations that pass the test have ended
abbrev ended_in : ChanCode → (Option ℕ → Bool) → Bool → Channel → Channel
ended_in code test closed c = record c {
  sends = filter (λ p. not (passes test p)) c.sends;
  receives = filter (λ p. not (passes test p)) c.receives;
  closed = closed;
  due = c.due ++ ended_by code (filter (passes test) c.sends) (filter (passes test) c.receives);
}

-- how a send is left by the code that it may have got
left-by : (test : Bool) (code : ChanCode) (o : Option ChanCode) → o ≡ cond test (Some code) None →
    (elim o as (λ _. Bool) [ None ↦ true | Some code ↦ false ]) ≡ not test
left-by true code o is = ap (λ o. elim o as (λ _. Bool) [ None ↦ true | Some code ↦ false ]) is
left-by false code o is = ap (λ o. elim o as (λ _. Bool) [ None ↦ true | Some code ↦ false ]) is

refused-by : (test : Bool) (code : ChanCode) (o : Option ChanCode) → is_ok (Some code) ≡ false →
    o ≡ cond test (Some code) None → is_ok o ≡ false
refused-by true code o bad is = ap is_ok is ∙ bad
refused-by false code o bad is = ap is_ok is

ending-step : (call : ChanCall) (code : ChanCode) (test : Option ℕ → Bool) (closed : Bool) (c : Channel) →
    is_ok (Some code) ≡ false → ((op : ℕ) → begins op call ≡ false) →
    ((later : List ChanEvent) → send_made call later [] ≡ []) → IsBalanced c →
    IsStep call c (ended_in code test closed c)
ending-step call code test closed c bad idle made_none balanced =
    let done = ended_by code (filter (passes test) c.sends) (filter (passes test) c.receives) in
    let fewer_sends =
    length-filter_both (passes test) (λ p. not (passes test p)) (λ _. refl) c.sends in
    let fewer_receives =
    length-filter_both (passes test) (λ p. not (passes test p)) (λ _. refl) c.receives in
    record {
      done = done;
      due = refl;
      counted = λ n.
          let all =
          dones-append n (map (ends_with code) (filter (passes test) c.sends))
          (map (ends_with code) (filter (passes test) c.receives)) in
          let first = dones-ended n code (filter (passes test) c.sends) in
          let second = dones-ended n code (filter (passes test) c.receives) in
          let sends = times-parted n (passes test) c.sends in
          let receives = times-parted n (passes test) c.receives in
          let none : one_if (begins n call) ≡ 0 = ap one_if (idle n) in
          omega arith;
      ledger = λ made values ledger.
          let later = λ (n : ℕ). code_after n (map Told done) in
          let codes =
          each-code code (passes test) c.sends (filter (passes test) c.receives) c.receives
          (λ n. let parts = times-parted n (passes test) c.receives in omega arith) balanced.apart in
          let all =
          refused later made (subst (λ (l : List (PendingOp ℕ)). Each (λ p. is_ok (later p.op) ≡ false) l)
          (sym ledger.opens)
          (Each-map (λ p. later p.op ≡ cond (passes test p) (Some code) None) (λ p. is_ok (later p.op) ≡ false)
          c.sends (λ p is. refused-by (passes test p) code (later p.op) bad is) codes)) in
          let left =
          filter-same (is_left later) (λ p. not (passes test p)) c.sends
          (Each-map (λ p. later p.op ≡ cond (passes test p) (Some code) None)
          (λ p. is_left later p ≡ not (passes test p)) c.sends
          (λ p is. left-by (passes test p) code (later p.op) is) codes) in
          rw (
            made_none (map Told done),
            append-nil (map (settled later) made),
            received-ended_by code (filter (passes test) c.sends) (filter (passes test) c.receives),
            append-nil values,
          )
          (record {
            order = ledger.order ∙ sym all.accepted;
            opens = all.opens ∙ ap (filter (is_left later)) ledger.opens ∙ left;
            in_order = all.in_order ledger.in_order;
          });
      within = balanced.within;
      full = λ some. balanced.full (omega arith);
      empty = λ some. balanced.empty (omega arith);
      one_kind = λ some. let none = balanced.one_kind (omega arith) in omega arith;
    }

pub step-of-lapse : (wait : ℕ) (c : Channel) → IsBalanced c → IsStep (Lapse wait) c (lapsed wait c)
step-of-lapse wait c balanced =
    ending-step (Lapse wait) chan_code.Cancelled (is_wait wait) c.closed c refl (λ _. refl) (λ _. refl) balanced

every-step : (call : ChanCall) (code : ChanCode) (closed : Bool) (c : Channel) → is_ok (Some code) ≡ false →
    ((op : ℕ) → begins op call ≡ false) → ((later : List ChanEvent) → send_made call later [] ≡ []) →
    IsBalanced c → IsStep call c (record c {
      sends = [];
      receives = [];
      closed = closed;
      due = c.due ++ ended_by code c.sends c.receives;
    })
every-step call code closed c bad idle made_none balanced =
    let P : List (PendingOp ℕ) → List (PendingOp ℕ) → List (PendingOp Unit) → List (PendingOp Unit) → Type 0 =
    λ told left told_receives left_receives. IsStep call c (record c {
      sends = left;
      receives = left_receives;
      closed = closed;
      due = c.due ++ ended_by code told told_receives;
    }) in
    let step = ending-step call code (λ _. true) closed c bad idle made_none balanced in
    subst (λ (l : List (PendingOp ℕ)). P l [] c.receives []) (filter-every c.sends)
    (subst (λ (l : List (PendingOp ℕ)). P (filter (λ _. true) c.sends) l c.receives []) (filter-none c.sends)
    (subst (λ (l : List (PendingOp Unit)). P (filter (λ _. true) c.sends) (filter (λ _. false) c.sends) l [])
    (filter-every c.receives)
    (subst (λ (l : List (PendingOp Unit)). P (filter (λ _. true) c.sends) (filter (λ _. false) c.sends)
    (filter (λ _. true) c.receives) l) (filter-none c.receives) step)))

pub step-of-close : (c : Channel) → IsBalanced c → IsStep Close c (closed c)
step-of-close c balanced = every-step Close chan_code.Closed true c refl (λ _. refl) (λ _. refl) balanced

pub step-of-cancel : (c : Channel) → IsBalanced c → IsStep Cancel c (cancelled c)
step-of-cancel c balanced = every-step Cancel chan_code.Cancelled c.closed c refl (λ _. refl) (λ _. refl) balanced
