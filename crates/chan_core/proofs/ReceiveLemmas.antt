-- What a receive does to the ledger of a channel's sends, and to the numbers that are pending.
use Rattle.std.proofs.Common.{◌≡◌, ℕ, ◌==◌, true, false, List, [], ◌∷◌, ◌++◌, Option, Some, None, map, length, refl, ap, sym, subst, ◌∙◌, arith, append_assoc, append-nil}
use Rattle.std.specs.Prelude.{if◌then◌else◌}
use Rattle.std.proofs.lemmas.List.{length-append}
use Rattle.chan_core.specs.declared.done.ChanCode.{ChanCode}
use Rattle.chan_core.specs.declared.done.ChanCode.TheVariants as chan_code
use Rattle.chan_core.specs.declared.pending.PendingOp.{PendingOp}
use Rattle.chan_core.specs.Channel.{Channel, received, received_from, telling}
use Rattle.chan_core.specs.Done.{ended, got}
use Rattle.chan_core.specs.Runs.{SendMade, code_after}
use Rattle.chan_core.specs.Runs.ChanCall.{Receive}
use Rattle.chan_core.specs.Runs.ChanEvent.{Told}
use Rattle.chan_core.proofs.LedgerLemmas.{AreInOrder, Each, Each-both, Each-map, accepts-first, settled}
use Rattle.chan_core.proofs.NumberLemmas.{apart-first, each-other, same-number, times, times-append}
use Rattle.chan_core.proofs.StepLemmas.{IsBalanced, IsLedger, IsStep, kept-ledger, none-listed, pending_of}

-- the first of the buffer is received, and no send is pending
receive-first : (op : ℕ) (deadline : Option ℕ) (c : Channel) (value : ℕ) (values : List ℕ) → IsBalanced c →
    pending_of op c ≡ 0 → c.buffer ≡ value ∷ values → c.sends ≡ [] →
    IsStep (Receive op deadline) c (record c { buffer = values; due = c.due ++ got op value ∷ [] })
receive-first op deadline c value values balanced free is none =
    let long = ap length is in
    let within = balanced.within in
    let no_sends = ap length none in
    let done = got op value ∷ [] in
    record {
      done = done;
      due = refl;
      counted = λ n. omega arith;
      ledger = λ made given ledger.
          let later = λ (n : ℕ). code_after n (map Told done) in
          let order : (given ++ value ∷ []) ++ values ≡ (given ++ c.buffer) ++ [] =
          append_assoc given (value ∷ []) values ∙ ap (λ (l : List ℕ). given ++ l) (sym is)
          ∙ sym (append-nil (given ++ c.buffer)) in
          kept-ledger later made [] given (value ∷ []) c.buffer [] c
          (record c { buffer = values; due = c.due ++ done }) ledger
          (none-listed (λ p. later p.op ≡ None) c.sends none) order refl (sym (append-nil c.sends))
          (λ was order. subst AreInOrder (sym (append-nil (map (settled later) made))) order);
      within = omega arith;
      full = λ some. absurd (omega arith);
      empty = λ some. let was = balanced.empty some in absurd (omega arith);
      one_kind = balanced.one_kind;
    }

-- what the ledger is where the first pending send is accepted
first-accepted : (later : ℕ → Option ChanCode) (made : List SendMade) (given got : List ℕ) (c after : Channel)
    (first : PendingOp ℕ) (rest : List (PendingOp ℕ)) → IsLedger made given c → c.sends ≡ first ∷ rest →
    later first.op ≡ Some chan_code.Ok → Each (λ p. later p.op ≡ None) rest →
    (given ++ got) ++ after.buffer ≡ (given ++ c.buffer) ++ first.value ∷ [] → after.sends ≡ rest →
    IsLedger (map (settled later) made ++ []) (given ++ got) after
first-accepted later made given got c after first rest ledger is ok others order left =
    let all = accepts-first later made first rest (ledger.opens ∙ is) ok others ledger.in_order in
    rw (append-nil (map (settled later) made)) (record {
      order = order ∙ ap (λ (l : List ℕ). l ++ first.value ∷ []) ledger.order ∙ sym all.accepted;
      opens = all.opens ∙ sym left;
      in_order = all.in_order;
    })

-- the numbers of the sends behind the first are neither the first's nor this one, which isn't pending
others-apart : (op : ℕ) (c : Channel) (first : PendingOp ℕ) (rest : List (PendingOp ℕ)) → IsBalanced c →
    pending_of op c ≡ 0 → c.sends ≡ first ∷ rest →
    ((op == first.op) ≡ false) × Each (λ p. ((op == p.op) ≡ false) × ((first.op == p.op) ≡ false)) rest
others-apart op c first rest balanced free is =
    let named = ap (times op) is in
    let listed = ap (times first.op) is in
    let most = balanced.apart first.op in
    let all = each-other op (first ∷ rest) (omega arith) in
    let apart = apart-first first rest (omega arith) in (
      all.0,
      Each-both (λ p. (op == p.op) ≡ false) (λ p. (first.op == p.op) ≡ false)
          (λ p. ((op == p.op) ≡ false) × ((first.op == p.op) ≡ false)) rest (λ p a b. (a, b)) all.1
          (each-other first.op rest apart),
    )

-- the first of the buffer is received, and the first pending send goes into the buffer
receive-refilled : (op : ℕ) (deadline : Option ℕ) (c : Channel) (value : ℕ) (values : List ℕ)
    (first : PendingOp ℕ) (rest : List (PendingOp ℕ)) → IsBalanced c → pending_of op c ≡ 0 →
    c.buffer ≡ value ∷ values → c.sends ≡ first ∷ rest →
    IsStep (Receive op deadline) c
    (record c {
      buffer = values ++ first.value ∷ [];
      sends = rest;
      due = (c.due ++ got op value ∷ []) ++ ended first.op chan_code.Ok ∷ [];
    })
receive-refilled op deadline c value values first rest balanced free is some =
    let long = ap length is in
    let within = balanced.within in
    let longer = length-append values (first.value ∷ []) in
    let more = ap length some in
    let apart = others-apart op c first rest balanced free some in
    let done = got op value ∷ ended first.op chan_code.Ok ∷ [] in
    record {
      done = done;
      due = append_assoc c.due (got op value ∷ []) (ended first.op chan_code.Ok ∷ []);
      counted = λ n. let all = ap (times n) some in omega arith;
      ledger = λ made given ledger.
          let later = λ (n : ℕ). code_after n (map Told done) in
          let order : (given ++ value ∷ []) ++ (values ++ first.value ∷ [])
          ≡ (given ++ c.buffer) ++ first.value ∷ [] =
          append_assoc given (value ∷ []) (values ++ first.value ∷ [])
          ∙ ap (λ (l : List ℕ). given ++ (l ++ first.value ∷ [])) (sym is)
          ∙ sym (append_assoc given c.buffer (first.value ∷ [])) in
          first-accepted later made given (value ∷ []) c
          (record c {
            buffer = values ++ first.value ∷ [];
            sends = rest;
            due = (c.due ++ got op value ∷ []) ++ ended first.op chan_code.Ok ∷ [];
          }) first rest ledger some (rw (apart.0, same-number first.op) refl)
          (Each-map (λ p. ((op == p.op) ≡ false) × ((first.op == p.op) ≡ false)) (λ p. later p.op ≡ None) rest
          (λ p other. rw (other.0, other.1) refl) apart.1) order refl;
      within = omega arith;
      full = λ _. let same = balanced.full (omega arith) in omega arith;
      empty = λ left. let was = balanced.empty left in absurd (omega arith);
      one_kind = λ left. let was = balanced.one_kind left in absurd (omega arith);
    }

-- the buffer is empty, and the value of the first pending send is received
receive-handed : (op : ℕ) (deadline : Option ℕ) (c : Channel) (first : PendingOp ℕ) (rest : List (PendingOp ℕ)) →
    IsBalanced c → pending_of op c ≡ 0 → c.buffer ≡ [] → c.sends ≡ first ∷ rest →
    IsStep (Receive op deadline) c
    (record c { sends = rest; due = c.due ++ ended first.op chan_code.Ok ∷ got op first.value ∷ [] })
receive-handed op deadline c first rest balanced free is some =
    let long = ap length is in
    let more = ap length some in
    let same = balanced.full (omega arith) in
    let apart = others-apart op c first rest balanced free some in
    let done = ended first.op chan_code.Ok ∷ got op first.value ∷ [] in
    record {
      done = done;
      due = refl;
      counted = λ n. let all = ap (times n) some in omega arith;
      ledger = λ made given ledger.
          let later = λ (n : ℕ). code_after n (map Told done) in
          let empty : (l : List ℕ) → l ++ c.buffer ≡ l =
          λ (l : List ℕ). ap (λ (k : List ℕ). l ++ k) is ∙ append-nil l in
          let order : (given ++ first.value ∷ []) ++ c.buffer ≡ (given ++ c.buffer) ++ first.value ∷ [] =
          empty (given ++ first.value ∷ []) ∙ ap (λ (l : List ℕ). l ++ first.value ∷ []) (sym (empty given)) in
          first-accepted later made given (first.value ∷ []) c
          (record c { sends = rest; due = c.due ++ done }) first rest ledger some
          (rw (same-number first.op) refl)
          (Each-map (λ p. ((op == p.op) ≡ false) × ((first.op == p.op) ≡ false)) (λ p. later p.op ≡ None) rest
          (λ p other. rw (other.1, other.0) refl) apart.1) order refl;
      within = balanced.within;
      full = λ _. same;
      empty = balanced.empty;
      one_kind = λ left. let was = balanced.one_kind left in absurd (omega arith);
    }

-- a receive that gets nothing: it is refused, or it is pending
receive-refused : (op : ℕ) (deadline : Option ℕ) (c : Channel) → IsBalanced c → c.sends ≡ [] →
    IsStep (Receive op deadline) c (record c { due = c.due ++ ended op chan_code.Closed ∷ [] })
receive-refused op deadline c balanced none =
    let done = ended op chan_code.Closed ∷ [] in
    record {
      done = done;
      due = refl;
      counted = λ n. omega arith;
      ledger = λ made given ledger.
          let later = λ (n : ℕ). code_after n (map Told done) in
          kept-ledger later made [] given [] c.buffer [] c (record c { due = c.due ++ done }) ledger
          (none-listed (λ p. later p.op ≡ None) c.sends none)
          (ap (λ (l : List ℕ). l ++ c.buffer) (append-nil given) ∙ sym (append-nil (given ++ c.buffer)))
          refl (sym (append-nil c.sends))
          (λ was order. subst AreInOrder (sym (append-nil (map (settled later) made))) order);
      within = balanced.within;
      full = balanced.full;
      empty = balanced.empty;
      one_kind = balanced.one_kind;
    }

receive-pending : (op : ℕ) (deadline : Option ℕ) (c : Channel) → IsBalanced c → c.buffer ≡ [] → c.sends ≡ [] →
    IsStep (Receive op deadline) c
    (record c { receives = c.receives ++ record { op = op; deadline = deadline; value = tt } ∷ [] })
receive-pending op deadline c balanced is none =
    let long = ap length is in
    let no_sends = ap length none in
    record {
      done = [];
      due = sym (append-nil c.due);
      counted = λ n.
          let more = times-append n c.receives (record { op = op; deadline = deadline; value = tt } ∷ []) in omega arith;
      ledger = λ made given ledger.
          let later = λ (n : ℕ). code_after n [] in
          kept-ledger later made [] given [] c.buffer [] c
          (record c { receives = c.receives ++ record { op = op; deadline = deadline; value = tt } ∷ [] }) ledger
          (none-listed (λ p. later p.op ≡ None) c.sends none)
          (ap (λ (l : List ℕ). l ++ c.buffer) (append-nil given) ∙ sym (append-nil (given ++ c.buffer)))
          refl (sym (append-nil c.sends))
          (λ was order. subst AreInOrder (sym (append-nil (map (settled later) made))) order);
      within = balanced.within;
      full = balanced.full;
      empty = λ _. long;
      one_kind = λ _. no_sends;
    }

receive-step : (buffer : List ℕ) (sends : List (PendingOp ℕ)) (op : ℕ) (deadline : Option ℕ) (c : Channel) →
    IsBalanced c → pending_of op c ≡ 0 → c.buffer ≡ buffer → c.sends ≡ sends →
    IsStep (Receive op deadline) c (received_from buffer sends op deadline c)
receive-step (value ∷ values) [] op deadline c balanced free is none =
    receive-first op deadline c value values balanced free is none
receive-step (value ∷ values) (first ∷ rest) op deadline c balanced free is some =
    receive-refilled op deadline c value values first rest balanced free is some
receive-step [] (first ∷ rest) op deadline c balanced free is some =
    receive-handed op deadline c first rest balanced free is some
receive-step [] [] op deadline c balanced free is none =
    elim (c.closed) as (λ b. IsStep (Receive op deadline) c
    (if b then telling (ended op chan_code.Closed ∷ []) c
    else record c { receives = c.receives ++ record { op = op; deadline = deadline; value = tt } ∷ [] })) [
      | true ↦ receive-refused op deadline c balanced none
      | false ↦ receive-pending op deadline c balanced is none
    ]

pub step-of-receive : (op : ℕ) (deadline : Option ℕ) (c : Channel) → IsBalanced c → pending_of op c ≡ 0 →
    IsStep (Receive op deadline) c (received op deadline c)
step-of-receive op deadline c balanced free =
    receive-step c.buffer c.sends op deadline c balanced free refl refl
