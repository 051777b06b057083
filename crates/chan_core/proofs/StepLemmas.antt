-- What each call of a channel does to the ledger of its sends, and to the numbers that are pending.
use Rattle.std.proofs.Common.{◌≡◌, ◌≤◌, ◌<◌, ℕ, ◌+◌, ◌==◌, Bool, true, false, cond, List, [], ◌∷◌, ◌++◌, Option, Some, None, map, length, refl, ap, sym, subst, ◌∙◌, arith, append_assoc, append-nil}
use Rattle.std.specs.Prelude.{nat_lt, if◌then◌else◌}
use Rattle.std.proofs.lemmas.Bool.{ltb-false, ltb-true}
use Rattle.std.proofs.lemmas.List.{length-append, nil_from_length}
use Rattle.chan_core.specs.declared.done.ChanCode.{ChanCode}
use Rattle.chan_core.specs.declared.done.ChanCode.TheVariants as chan_code
use Rattle.chan_core.specs.declared.done.ChanDone.{ChanDone}
use Rattle.chan_core.specs.declared.pending.PendingOp.{PendingOp}
use Rattle.chan_core.specs.Channel.{Channel, sent, sent_to, telling}
use Rattle.chan_core.specs.Done.{ended, got}
use Rattle.chan_core.specs.Runs.{ChanCall, SendMade, begins, code_after, received_in, send_made}
use Rattle.chan_core.specs.Runs.ChanCall.{Send}
use Rattle.chan_core.specs.Runs.ChanEvent.{Told}
use Rattle.chan_core.proofs.LedgerLemmas.{AreInOrder, Each, Each-map, accepted, accepted-append, in_order-closed, in_order-refused, opens, opens-append, settled, untouched}
use Rattle.chan_core.proofs.NumberLemmas.{each-other, same-number, times, times-append}
use Rattle.chan_core.proofs.TurnLemmas.{dones, one_if}

-- how many operations of this number are pending
abbrev pub pending_of : ℕ → Channel → ℕ
pending_of op c = times op c.sends + times op c.receives

-- no number is pending twice, a send only where the buffer is full, a receive only where it is empty
pub record IsBalanced (c : Channel) : Type 0 where
  pub apart : (op : ℕ) → pending_of op c ≤ 1
  pub within : length c.buffer ≤ c.capacity
  pub full : 0 < length c.sends → length c.buffer ≡ c.capacity
  pub empty : 0 < length c.receives → length c.buffer ≡ 0
  pub one_kind : 0 < length c.receives → length c.sends ≡ 0

-- the values that were received and then those of the buffer are the accepted ones, and the sends
-- that haven't completed are the channel's
pub record IsLedger (made : List SendMade) (values : List ℕ) (c : Channel) : Type 0 where
  pub order : values ++ c.buffer ≡ accepted made
  pub opens : opens made ≡ c.sends
  pub in_order : AreInOrder made

-- how the sends stand after a call by which these complete
abbrev pub made_after : ChanCall → List ChanDone → List SendMade → List SendMade
made_after call done made =
    map (settled (λ op. code_after op (map Told done))) made ++ send_made call (map Told done) []

-- what a call does to a channel
pub record IsStep (call : ChanCall) (c after : Channel) : Type 0 where
  pub done : List ChanDone
  pub due : after.due ≡ c.due ++ done
  pub counted : (op : ℕ) → dones op done + pending_of op after ≡ pending_of op c + one_if (begins op call)
  pub ledger : (made : List SendMade) (values : List ℕ) → IsLedger made values c →
      IsLedger (made_after call done made) (values ++ received_in (map Told done)) after
  pub within : length after.buffer ≤ after.capacity
  pub full : 0 < length after.sends → length after.buffer ≡ after.capacity
  pub empty : 0 < length after.receives → length after.buffer ≡ 0
  pub one_kind : 0 < length after.receives → length after.sends ≡ 0

-- the ledger after a call that isn't a send, or a send that completes at once, and that names no
-- pending send
pub kept-ledger : (later : ℕ → Option ChanCode) (made new : List SendMade) (values got buffer gained : List ℕ) (c after : Channel) →
    IsLedger made values c → Each (λ p. later p.op ≡ None) c.sends →
    (values ++ got) ++ after.buffer ≡ (values ++ c.buffer) ++ gained → accepted new ≡ gained →
    after.sends ≡ c.sends ++ opens new → (AreInOrder made → AreInOrder (map (settled later) made) →
    AreInOrder (map (settled later) made ++ new)) →
    IsLedger (map (settled later) made ++ new) (values ++ got) after
kept-ledger later made new values got buffer gained c after is others order more sends behind =
    let left =
    untouched later made (subst (λ (l : List (PendingOp ℕ)). Each (λ p. later p.op ≡ None) l) (sym is.opens) others) in
    record {
      order = order ∙ ap (λ l. l ++ gained) (is.order ∙ sym left.accepted)
          ∙ ap (λ l. accepted (map (settled later) made) ++ l) (sym more)
          ∙ sym (accepted-append (map (settled later) made) new);
      opens = opens-append (map (settled later) made) new ∙ ap (λ l. l ++ opens new) (left.opens ∙ is.opens) ∙ sym sends;
      in_order = behind is.in_order (left.in_order is.in_order);
    }

-- codes of completions that name no pending send
pub unnamed : {V : Type 0} (op : ℕ) (code : Option ChanCode) (xs : List (PendingOp V)) → times op xs ≡ 0 →
    Each (λ p. cond (op == p.op) code None ≡ None) xs
unnamed op code xs none =
    Each-map (λ p. (op == p.op) ≡ false) (λ p. cond (op == p.op) code None ≡ None) xs
    (λ p other. rw other refl) (each-other op xs none)

pub none-listed : (P : PendingOp ℕ → Type 0) (xs : List (PendingOp ℕ)) → xs ≡ [] → Each P xs
none-listed P xs none = subst (λ (l : List (PendingOp ℕ)). Each P l) (sym none) tt

abbrev no-codes : ℕ → Option ChanCode
no-codes n = None

all-none : (xs : List (PendingOp ℕ)) → Each (λ p. no-codes p.op ≡ None) xs
all-none [] = tt
all-none (x ∷ xs) = (refl, all-none xs)

-- a send to a closed channel
send-refused : (op value : ℕ) (deadline : Option ℕ) (c : Channel) → IsBalanced c → pending_of op c ≡ 0 →
    IsStep (Send op value deadline) c (record c { due = c.due ++ ended op chan_code.Closed ∷ [] })
send-refused op value deadline c balanced free = record {
  done = ended op chan_code.Closed ∷ [];
  due = refl;
  counted = λ n. omega arith;
  ledger = λ made values is.
      let code = same-number op in
      kept-ledger (λ n. cond (op == n) (Some chan_code.Closed) None) made
      (record { op = op; value = value; deadline = deadline; code = cond (op == op) (Some chan_code.Closed) None } ∷ [])
      values [] c.buffer [] c (record c { due = c.due ++ ended op chan_code.Closed ∷ [] }) is
      (unnamed op (Some chan_code.Closed) c.sends (omega arith))
      (ap (λ (l : List ℕ). l ++ c.buffer) (append-nil values) ∙ sym (append-nil (values ++ c.buffer))) (rw code refl) (rw code (sym (append-nil c.sends)))
      (λ _ order. in_order-refused _ _ order (rw code ((λ is. absurd (cc)), tt)) (rw code refl));
  within = balanced.within;
  full = balanced.full;
  empty = balanced.empty;
  one_kind = balanced.one_kind;
}

-- a send whose value goes to the first pending receive
send-taken : (op value : ℕ) (deadline : Option ℕ) (c : Channel) (first : PendingOp Unit) (rest : List (PendingOp Unit)) →
    IsBalanced c → pending_of op c ≡ 0 → c.receives ≡ first ∷ rest →
    IsStep (Send op value deadline) c
    (record c { receives = rest; due = c.due ++ ended op chan_code.Ok ∷ got first.op value ∷ [] })
send-taken op value deadline c first rest balanced free is =
    let some : length c.receives ≡ length (first ∷ rest) = ap length is in
    let empty : c.buffer ≡ [] = nil_from_length c.buffer (balanced.empty (omega arith)) in
    let none : c.sends ≡ [] = nil_from_length c.sends (balanced.one_kind (omega arith)) in
    let done = ended op chan_code.Ok ∷ got first.op value ∷ [] in
    record {
      done = done;
      due = refl;
      counted = λ n. let all = ap (times n) is in omega arith;
      ledger = λ made values ledger.
          let code = same-number op in
          let later = λ (n : ℕ). code_after n (map Told done) in
          let new : List SendMade = record { op = op; value = value; deadline = deadline; code = later op } ∷ [] in
          kept-ledger later made new
          values (value ∷ []) c.buffer (value ∷ []) c (record c { receives = rest; due = c.due ++ done }) ledger
          (none-listed (λ p. later p.op ≡ None) c.sends none)
          (rw (empty, append-nil, append-nil) refl) (rw code refl) (rw code (sym (append-nil c.sends)))
          (λ was order. in_order-closed (map (settled later) made) new
          ((untouched later made (subst (λ (l : List (PendingOp ℕ)). Each (λ p. later p.op ≡ None) l)
          (sym (ledger.opens ∙ none)) tt)).opens ∙ ledger.opens ∙ none)
          ((λ _. refl), tt));
      within = balanced.within;
      full = balanced.full;
      empty = λ _. balanced.empty (omega arith);
      one_kind = λ _. balanced.one_kind (omega arith);
    }

-- a send whose value goes into the buffer
send-buffered : (op value : ℕ) (deadline : Option ℕ) (c : Channel) → IsBalanced c → pending_of op c ≡ 0 →
    c.receives ≡ [] → length c.buffer < c.capacity →
    IsStep (Send op value deadline) c
    (record c { buffer = c.buffer ++ value ∷ []; due = c.due ++ ended op chan_code.Ok ∷ [] })
send-buffered op value deadline c balanced free is room =
    let none : c.sends ≡ [] =
    nil_from_length c.sends (elim (c.sends) as (λ l. (0 < length l → length c.buffer ≡ c.capacity) → length l ≡ 0) [
      | [] ↦ λ full. refl
      | x ∷ xs ↦ λ full. let same = full (omega arith) in absurd (omega arith)
    ] balanced.full) in
    let no_receives : length c.receives ≡ 0 = ap length is in
    let no_sends : length c.sends ≡ 0 = ap length none in
    let longer = length-append c.buffer (value ∷ []) in
    let done = ended op chan_code.Ok ∷ [] in
    record {
      done = done;
      due = refl;
      counted = λ n. omega arith;
      ledger = λ made values ledger.
          let code = same-number op in
          let later = λ (n : ℕ). code_after n (map Told done) in
          let new : List SendMade = record { op = op; value = value; deadline = deadline; code = later op } ∷ [] in
          kept-ledger later made new
          values [] c.buffer (value ∷ []) c (record c { buffer = c.buffer ++ value ∷ []; due = c.due ++ done }) ledger
          (none-listed (λ p. later p.op ≡ None) c.sends none)
          (ap (λ (l : List ℕ). l ++ (c.buffer ++ value ∷ [])) (append-nil values)
          ∙ sym (append_assoc values c.buffer (value ∷ []))) (rw code refl) (rw code (sym (append-nil c.sends)))
          (λ was order. in_order-closed (map (settled later) made) new
          ((untouched later made (subst (λ (l : List (PendingOp ℕ)). Each (λ p. later p.op ≡ None) l)
          (sym (ledger.opens ∙ none)) tt)).opens ∙ ledger.opens ∙ none)
          ((λ _. refl), tt));
      within = omega arith;
      full = λ some. absurd (omega arith);
      empty = λ some. absurd (omega arith);
      one_kind = balanced.one_kind;
    }

-- a send that is pending
send-pending : (op value : ℕ) (deadline : Option ℕ) (c : Channel) → IsBalanced c → pending_of op c ≡ 0 →
    c.receives ≡ [] → c.capacity ≤ length c.buffer →
    IsStep (Send op value deadline) c
    (record c { sends = c.sends ++ record { op = op; deadline = deadline; value = value } ∷ [] })
send-pending op value deadline c balanced free is no_room =
    let no_receives : length c.receives ≡ 0 = ap length is in
    let within = balanced.within in
    record {
      done = [];
      due = sym (append-nil c.due);
      counted = λ n. let more = times-append n c.sends (record { op = op; deadline = deadline; value = value } ∷ []) in omega arith;
      ledger = λ made values ledger.
          kept-ledger no-codes made
          (record { op = op; value = value; deadline = deadline; code = None } ∷ [])
          values [] c.buffer [] c
          (record c { sends = c.sends ++ record { op = op; deadline = deadline; value = value } ∷ [] }) ledger
          (all-none c.sends)
          (ap (λ (l : List ℕ). l ++ c.buffer) (append-nil values) ∙ sym (append-nil (values ++ c.buffer))) refl refl
          (λ was order. in_order-refused _ _ order ((λ _. refl), tt) refl);
      within = balanced.within;
      full = λ some. omega arith;
      empty = λ some. absurd (omega arith);
      one_kind = λ some. absurd (omega arith);
    }

-- a send over an open channel
send-step : (receives : List (PendingOp Unit)) (room : Bool) (op value : ℕ) (deadline : Option ℕ) (c : Channel) → IsBalanced c →
    pending_of op c ≡ 0 → c.receives ≡ receives → nat_lt (length c.buffer) c.capacity ≡ room →
    IsStep (Send op value deadline) c (sent_to receives op value deadline c)
send-step (first ∷ rest) room op value deadline c balanced free is fits =
    send-taken op value deadline c first rest balanced free is
send-step [] true op value deadline c balanced free is fits =
    rw fits (send-buffered op value deadline c balanced free is (ltb-true (length c.buffer) c.capacity fits))
send-step [] false op value deadline c balanced free is fits =
    rw fits (send-pending op value deadline c balanced free is (ltb-false (length c.buffer) c.capacity fits))

pub step-of-send : (closed : Bool) (op value : ℕ) (deadline : Option ℕ) (c : Channel) → IsBalanced c →
    pending_of op c ≡ 0 → c.closed ≡ closed → IsStep (Send op value deadline) c (sent op value deadline c)
step-of-send closed op value deadline c balanced free is =
    let P : Bool → Type 0 = λ b.
    IsStep (Send op value deadline) c
    (if b then telling (ended op chan_code.Closed ∷ []) c else sent_to c.receives op value deadline c) in
    subst P (sym is) (elim closed as P [
      | true ↦ send-refused op value deadline c balanced free
      | false ↦
          send-step c.receives (nat_lt (length c.buffer) c.capacity) op value deadline c balanced free refl refl
    ])
