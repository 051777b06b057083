-- What becomes due as an act is performed, and what slots hold.
use Rattle.std.proofs.Common.{◌≡◌, ℕ, ◌+◌, ◌==◌, zero, suc, Bool, true, false, cond, List, [], ◌∷◌, ◌++◌, Option, Some, None, find, length, set, inl, inr, refl, sym, ap, subst, ◌∙◌}
use Rattle.std.specs.List.{slice_index_or}
use Rattle.std.proofs.lemmas.Bool.{and_from, cases_eq, cases_lt, cond_both, eqb-true}
use Rattle.std.proofs.lemmas.List.{get_or-set_same, get_or-set_other, set_past}
use Rattle.std.proofs.lemmas.List.Elements.{All-append, All-push}
use Rattle.session_script.specs.declared.act.Act.{Act}
use Rattle.session_script.specs.declared.act.Act.TheVariants as act
use Rattle.session_script.specs.Script.{ScriptModel, act_of}
use Rattle.stream_rules.specs.declared.queue.Completion.{Completion}
use Rattle.stream_rules.specs.Queue.{Pending}
use Rattle.stream_rules.specs.Serving.{Reading, Writing, Some_bytes, All_bytes, Until, Some_of, All_of}
use Rattle.history_rules.specs.Kinds.{slot_of}
use Rattle.history_rules.specs.Performing.{aborted, all_of_stream, bad, closed_at, connected, emitted, emitted_to, is_reached, is_wait_for, is_wait_of, new_pending, one_wait_cancelled, operation_cancelled, performed_act, queues_at, read_accepted, shut_at, wait_accepted, waits_cancelled, one_of_stream_cancelled, with_due, with_queues, write_accepted}
use Rattle.history_rules.specs.Requests.{disconnected, reactor_after_done, released, slot_in, told_off}
use Rattle.history_rules.specs.Settling.{served_below, settled, with_waits_served}
use Rattle.history_rules.specs.State.{ReactorHalf, StreamQueues}
use Rattle.history_rules.specs.Untold.{gone}
use Rattle.history_rules.specs.declared.wait.Wait.{Wait}
use Rattle.std.proofs.lemmas.List.Elements.{All-nil}
use Rattle.history_laws.specs.Cancelled.{is_this, may_cancel}
use Rattle.history_laws.specs.Clock.{IsWaitOf}
use Rattle.history_laws.proofs.CountLemmas.{same-is}
use Rattle.history_laws.proofs.HeldLemmas.{AreQueued, IsPerformed, OfStream, OfTimer, at_queues, connects, found_in, read_comes, stream_goes, stream_op_goes, waits_go, write_comes}

-- each slot holds an operation that is connected to it
abbrev pub AreConnected : ScriptModel → ReactorHalf → Type 0
AreConnected script r =
    (slot op : ℕ) → slice_index_or r.slots slot None ≡ Some op → slot_in (act_of script op) ≡ Some slot

module _ (script : ScriptModel) (X : ℕ → Type 0) (P : Completion → Type 0) (a : ℕ) where
  abbrev pub Hits : Act → Type 0
  Hits given =
      (n moved : ℕ) (target : Act) → act_of script n ≡ Some target → may_cancel given target ≡ true → X n →
      P (aborted n moved)

  abbrev Performed : ReactorHalf → Type 0
  Performed r = IsPerformed script X P r

  module _ (fresh : X a) (refused : P (bad a)) (r : ReactorHalf) (it : Performed r) where
    -- a wait is accepted
    wait_comes : (timer : ℕ) → IsWaitOf script timer a → Performed (wait_accepted a timer r)
    wait_comes timer is = record {
      held = record {
        waits =
            All-push (λ (wait : Wait). OfTimer script X P wait.timer wait.op) r.waits (record { op = a; timer = timer })
            it.held.waits
            (is, fresh);
        queues = it.held.queues;
      };
      due = it.due;
    }

    -- the waits of a timer are cancelled
    timer_goes : (given : Act) (timer : ℕ) (is : act_of script a ≡ Some given) (hit : Hits given) (u : ReactorHalf) →
        ((other : ℕ) (strand slot : Option ℕ) (filter : ℕ) →
        may_cancel given (act.Wait other strand slot filter) ≡ (other == timer)) → Performed u →
        Performed (waits_cancelled (is_wait_of timer) u)
    timer_goes given timer is hit u cancels its =
        waits_go script X P a given is fresh refused hit (is_wait_of timer) u
        (λ wait held passes.
        hit wait.op 0 (act.Wait wait.timer held.0.strand held.0.slot held.0.filter) held.0.act
        (cancels wait.timer held.0.strand held.0.slot held.0.filter ∙ passes) held.1) its

    expiry_changed : (timer expiry : ℕ) → Performed (record r { expiries = set r.expiries timer expiry })
    expiry_changed timer expiry =
        record { held = record { waits = it.held.waits; queues = it.held.queues }; due = it.due }

    -- the first wait of a timer is cancelled
    first_goes : (timer : ℕ) (is : act_of script a ≡ Some (act.CancelOne timer)) (hit : Hits (act.CancelOne timer)) →
        Performed (one_wait_cancelled (find (is_wait_of timer) r.waits) r)
    first_goes timer is hit = by_found (find (is_wait_of timer) r.waits) refl
      where
        by_found : (found : Option Wait) → find (is_wait_of timer) r.waits ≡ found → Performed (one_wait_cancelled found r)
        by_found None same = it
        by_found (Some first) same =
            let of_first = found_in (is_wait_of timer) (λ wait. OfTimer script X P wait.timer wait.op) r.waits first same
            it.held.waits in
            waits_go script X P a (act.CancelOne timer) is fresh refused hit (is_wait_for first.op) r
            (λ wait held passes.
            let op : wait.op ≡ first.op = eqb-true wait.op first.op passes in
            let both : Some (act.Wait wait.timer held.0.strand held.0.slot held.0.filter)
            ≡ Some (act.Wait first.timer of_first.1.0.strand of_first.1.0.slot of_first.1.0.filter) =
            sym held.0.act ∙ (ap (act_of script) op ∙ of_first.1.0.act) in
            let timers : wait.timer ≡ first.timer = cc in
            hit wait.op 0 (act.Wait wait.timer held.0.strand held.0.slot held.0.filter) held.0.act
            (ap (λ t. t == timer) timers ∙ of_first.0) held.1) it

    -- the operation of a slot is cancelled
    module _ (slot types : ℕ) (is : act_of script a ≡ Some (act.Emit slot types)) (hit : Hits (act.Emit slot types)) where
      abbrev emit : Act
      emit = act.Emit slot types

      reaches : (op : ℕ) (target : Act) → slot_of target ≡ Some slot → is_reached target types ≡ true →
          act_of script op ≡ Some target → X op → (moved : ℕ) → P (aborted op moved)
      reaches op target plugged reached of held moved =
          hit op moved target of
          (and_from (is_this slot (slot_of target)) (is_reached target types) (ap (is_this slot) plugged ∙ same-is slot)
          reached) held

      streams_go : (op : ℕ) (target : Act) → slot_of target ≡ Some slot → is_reached target types ≡ true →
          act_of script op ≡ Some target → (stream : ℕ) → Performed (one_of_stream_cancelled op stream r)
      streams_go op target plugged reached of stream =
          stream_op_goes script X P a emit is fresh refused hit op stream r
          (λ n moved held same. reaches n target plugged reached (ap (act_of script) same ∙ of) held.1 moved) it

      operation_goes : (op : ℕ) (target : Act) → slot_of target ≡ Some slot → is_reached target types ≡ true →
          act_of script op ≡ Some target → Performed (operation_cancelled target op r)
      operation_goes op (act.Wait timer strand plug filter) plugged reached of =
          waits_go script X P a emit is fresh refused hit (is_wait_for op) r
          (λ wait held passes.
          reaches wait.op (act.Wait timer strand plug filter) plugged reached
          (ap (act_of script) (eqb-true wait.op op passes) ∙ of) held.1 0) it
      operation_goes op (act.ReadSome stream size strand plug filter) plugged reached of =
          streams_go op (act.ReadSome stream size strand plug filter) plugged reached of stream
      operation_goes op (act.ReadAll stream size strand plug filter) plugged reached of =
          streams_go op (act.ReadAll stream size strand plug filter) plugged reached of stream
      operation_goes op (act.Until stream delimiter max strand plug filter) plugged reached of =
          streams_go op (act.Until stream delimiter max strand plug filter) plugged reached of stream
      operation_goes op (act.WriteSome stream bytes strand plug filter) plugged reached of =
          streams_go op (act.WriteSome stream bytes strand plug filter) plugged reached of stream
      operation_goes op (act.WriteAll stream bytes strand plug filter) plugged reached of =
          streams_go op (act.WriteAll stream bytes strand plug filter) plugged reached of stream
      operation_goes op _ plugged reached of = it

      emits : (op : Option ℕ) → ((n : ℕ) → op ≡ Some n → slot_in (act_of script n) ≡ Some slot) →
          Performed (emitted script op types r)
      emits None holds = it
      emits (Some op) holds = by_act (act_of script op) refl
        where
          by_act : (found : Option Act) → act_of script op ≡ found → Performed (emitted_to found types op r)
          by_act None of = it
          by_act (Some target) of =
              let plugged : slot_of target ≡ Some slot = ap slot_in (sym of) ∙ holds op refl in
              cond_both (is_reached target types) (operation_cancelled target op r) r Performed
              (λ reached. operation_goes op target plugged reached of) (λ missed. it)

    -- a stream is closed
    shuts : (stream : ℕ) (is : act_of script a ≡ Some (act.Close stream)) (hit : Hits (act.Close stream)) →
        Performed (shut_at stream r)
    shuts stream is hit =
        let old : StreamQueues = queues_at r stream in
        let here = it.held.queues stream in
        record {
          held = record {
            waits = it.held.waits;
            queues =
                at_queues (AreQueued (OfStream script X P)) r.queues stream (record { closed = true; reads = []; writes = [] }) (
                  All-nil (λ (pending : Pending Reading). OfStream script X P stream pending.op),
                  All-nil (λ (pending : Pending Writing). OfStream script X P stream pending.op),
                ) it.held.queues;
          };
          due =
              All-append P r.due (all_of_stream old.reads old.writes) it.due
              (stream_goes script X P a (act.Close stream) is fresh refused hit stream
              (λ n moved held.
              hit n moved held.0.act held.0.is (ap (is_this stream) held.0.on ∙ same-is stream) held.1) old.reads old.writes
              here.0 here.1);
        }

  -- what performing an act makes due
  pub performs : (given : Act) (is : act_of script a ≡ Some given) → X a → P (bad a) → Hits given → (r : ReactorHalf) →
      AreConnected script r → Performed r → Performed (performed_act script a given r)
  performs (act.Wait timer strand slot filter) is fresh refused hit r slots it =
      connects script X P a (act.Wait timer strand slot filter) is fresh refused hit slot (wait_accepted a timer r)
      (wait_comes fresh refused r it timer (record { strand = strand; slot = slot; filter = filter; act = is }))
  performs (act.ReadSome stream size strand slot filter) is fresh refused hit r slots it =
      connects script X P a (act.ReadSome stream size strand slot filter) is fresh refused hit slot
      (read_accepted a stream (Some_bytes size) r)
      (read_comes script X P a (act.ReadSome stream size strand slot filter) is fresh refused hit stream (Some_bytes size) r
      refl it)
  performs (act.ReadAll stream size strand slot filter) is fresh refused hit r slots it =
      connects script X P a (act.ReadAll stream size strand slot filter) is fresh refused hit slot
      (read_accepted a stream (All_bytes size) r)
      (read_comes script X P a (act.ReadAll stream size strand slot filter) is fresh refused hit stream (All_bytes size) r refl
      it)
  performs (act.Until stream delimiter max strand slot filter) is fresh refused hit r slots it =
      connects script X P a (act.Until stream delimiter max strand slot filter) is fresh refused hit slot
      (read_accepted a stream (Until delimiter max) r)
      (read_comes script X P a (act.Until stream delimiter max strand slot filter) is fresh refused hit stream
      (Until delimiter max) r refl it)
  performs (act.WriteSome stream bytes strand slot filter) is fresh refused hit r slots it =
      connects script X P a (act.WriteSome stream bytes strand slot filter) is fresh refused hit slot
      (write_accepted a stream (Some_of bytes) r)
      (write_comes script X P a (act.WriteSome stream bytes strand slot filter) is fresh refused hit stream (Some_of bytes) r
      refl it)
  performs (act.WriteAll stream bytes strand slot filter) is fresh refused hit r slots it =
      connects script X P a (act.WriteAll stream bytes strand slot filter) is fresh refused hit slot
      (write_accepted a stream (All_of bytes) r)
      (write_comes script X P a (act.WriteAll stream bytes strand slot filter) is fresh refused hit stream (All_of bytes) r
      refl it)
  performs (act.Expires timer after) is fresh refused hit r slots it =
      timer_goes fresh refused r it (act.Expires timer after) timer is hit
      (record r { expiries = set r.expiries timer (r.now + after) })
      (λ other strand slot filter. refl) (expiry_changed fresh refused r it timer (r.now + after))
  performs (act.ExpiresAt timer at) is fresh refused hit r slots it =
      timer_goes fresh refused r it (act.ExpiresAt timer at) timer is hit (record r { expiries = set r.expiries timer at })
      (λ other strand slot filter. refl) (expiry_changed fresh refused r it timer at)
  performs (act.Cancel timer) is fresh refused hit r slots it =
      timer_goes fresh refused r it (act.Cancel timer) timer is hit r (λ other strand slot filter. refl) it
  performs (act.CancelOne timer) is fresh refused hit r slots it = first_goes fresh refused r it timer is hit
  performs (act.Emit slot types) is fresh refused hit r slots it =
      emits fresh refused r it slot types is hit (slice_index_or r.slots slot None) (slots slot)
  performs (act.Close stream) is fresh refused hit r slots it =
      cond_both (queues_at r stream).closed r (shut_at stream r) Performed (λ closed. it)
      (λ opened. shuts fresh refused r it stream is hit)
  performs (act.Release guard) is fresh refused hit r slots it =
      record { held = record { waits = it.held.waits; queues = it.held.queues }; due = it.due }
  performs (act.Post strand) is fresh refused hit r slots it = it
  performs (act.Defer strand) is fresh refused hit r slots it = it
  performs (act.Dispatch strand) is fresh refused hit r slots it = it
  performs act.Stop is fresh refused hit r slots it = it

-- slots stay connected
connects_slot : (script : ScriptModel) (a slot : ℕ) (r t : ReactorHalf) → t.slots ≡ r.slots →
    slot_in (act_of script a) ≡ Some slot → AreConnected script r → AreConnected script (connected (Some slot) a t)
connects_slot script a slot r t same plugged slots k op holds = elim (cases_eq k slot) [
  | inl here ↦
      elim (cases_lt slot (length t.slots)) [
        | inl within ↦
            let got = get_or-set_same t.slots slot (Some a) None within in
            let holds_here : slice_index_or (set t.slots slot (Some a)) slot None ≡ Some op =
            subst (λ (k : ℕ). slice_index_or (set t.slots slot (Some a)) k None ≡ Some op) here holds in
            let it : Some a ≡ Some op = sym got ∙ holds_here in
            let op_is : a ≡ op = cc in
            ap (λ op. slot_in (act_of script op)) (sym op_is) ∙ (plugged ∙ ap (λ k. Some k) (sym here))
        | inr past ↦
            slots k op
            (ap (λ (xs : List (Option ℕ)). slice_index_or xs k None) (sym (set_past t.slots slot (Some a) past ∙ same)) ∙ holds)
      ]
  | inr other ↦
      slots k op
      (ap (λ (xs : List (Option ℕ)). slice_index_or xs k None) (sym same) ∙
      (sym (get_or-set_other t.slots slot k (Some a) None other) ∙ holds))
]

slots_connect : (script : ScriptModel) (a : ℕ) (given : Act) (r t : ReactorHalf) → act_of script a ≡ Some given →
    t.slots ≡ r.slots → AreConnected script r → AreConnected script (connected (slot_of given) a t)
slots_connect script a given r t is same slots = by_slot (slot_of given) refl
  where
    by_slot : (slot : Option ℕ) → slot_of given ≡ slot → AreConnected script (connected slot a t)
    by_slot None of = λ k op holds. slots k op (ap (λ (xs : List (Option ℕ)). slice_index_or xs k None) (sym same) ∙ holds)
    by_slot (Some slot) of = connects_slot script a slot r t same (ap slot_in is ∙ of) slots

pub slots_if : (b : Bool) (r one two : ReactorHalf) → one.slots ≡ r.slots → two.slots ≡ r.slots → (cond b one two).slots ≡ r.slots
slots_if true r one two first second = first
slots_if false r one two first second = second

slots_cancelled : (given : Act) (op : ℕ) (r : ReactorHalf) → (operation_cancelled given op r).slots ≡ r.slots
slots_cancelled (act.Wait timer strand slot filter) op r = refl
slots_cancelled (act.ReadSome stream size strand slot filter) op r = refl
slots_cancelled (act.ReadAll stream size strand slot filter) op r = refl
slots_cancelled (act.Until stream delimiter max strand slot filter) op r = refl
slots_cancelled (act.WriteSome stream bytes strand slot filter) op r = refl
slots_cancelled (act.WriteAll stream bytes strand slot filter) op r = refl
slots_cancelled _ op r = refl

pub slots_emitted : (script : ScriptModel) (op : Option ℕ) (types : ℕ) (r : ReactorHalf) → (emitted script op types r).slots ≡ r.slots
slots_emitted script None types r = refl
slots_emitted script (Some op) types r = by_act (act_of script op)
  where
    by_act : (given : Option Act) → (emitted_to given types op r).slots ≡ r.slots
    by_act None = refl
    by_act (Some given) = slots_if (is_reached given types) r (operation_cancelled given op r) r (slots_cancelled given op r) refl

pub slots_first : (wait : Option Wait) (r : ReactorHalf) → (one_wait_cancelled wait r).slots ≡ r.slots
slots_first None r = refl
slots_first (Some wait) r = refl

slots_same : (script : ScriptModel) (r t : ReactorHalf) → t.slots ≡ r.slots → AreConnected script r → AreConnected script t
slots_same script r t same slots k op holds =
    slots k op (ap (λ (xs : List (Option ℕ)). slice_index_or xs k None) (sym same) ∙ holds)

pub slots_read : (a stream : ℕ) (reading : Reading) (r : ReactorHalf) → (read_accepted a stream reading r).slots ≡ r.slots
slots_read a stream reading r =
    let old = queues_at r stream in
    slots_if old.closed r (with_due (bad a ∷ []) r)
    (with_queues r stream (record old { reads = old.reads ++ new_pending a r.accepted reading ∷ [] })) refl refl

pub slots_write : (a stream : ℕ) (writing : Writing) (r : ReactorHalf) → (write_accepted a stream writing r).slots ≡ r.slots
slots_write a stream writing r =
    let old = queues_at r stream in
    slots_if old.closed r (with_due (bad a ∷ []) r)
    (with_queues r stream (record old { writes = old.writes ++ new_pending a r.accepted writing ∷ [] })) refl refl

pub slots_performed : (script : ScriptModel) (a : ℕ) (given : Act) (r : ReactorHalf) → act_of script a ≡ Some given →
    AreConnected script r → AreConnected script (performed_act script a given r)
slots_performed script a (act.Wait timer strand slot filter) r is slots =
    slots_connect script a (act.Wait timer strand slot filter) r (wait_accepted a timer r) is refl slots
slots_performed script a (act.ReadSome stream size strand slot filter) r is slots =
    slots_connect script a (act.ReadSome stream size strand slot filter) r (read_accepted a stream (Some_bytes size) r) is
    (slots_read a stream (Some_bytes size) r) slots
slots_performed script a (act.ReadAll stream size strand slot filter) r is slots =
    slots_connect script a (act.ReadAll stream size strand slot filter) r (read_accepted a stream (All_bytes size) r) is
    (slots_read a stream (All_bytes size) r) slots
slots_performed script a (act.Until stream delimiter max strand slot filter) r is slots =
    slots_connect script a (act.Until stream delimiter max strand slot filter) r
    (read_accepted a stream (Until delimiter max) r) is
    (slots_read a stream (Until delimiter max) r) slots
slots_performed script a (act.WriteSome stream bytes strand slot filter) r is slots =
    slots_connect script a (act.WriteSome stream bytes strand slot filter) r (write_accepted a stream (Some_of bytes) r) is
    (slots_write a stream (Some_of bytes) r) slots
slots_performed script a (act.WriteAll stream bytes strand slot filter) r is slots =
    slots_connect script a (act.WriteAll stream bytes strand slot filter) r (write_accepted a stream (All_of bytes) r) is
    (slots_write a stream (All_of bytes) r) slots
slots_performed script a (act.CancelOne timer) r is slots =
    slots_same script r (one_wait_cancelled (find (is_wait_of timer) r.waits) r)
    (slots_first (find (is_wait_of timer) r.waits) r) slots
slots_performed script a (act.Emit slot types) r is slots =
    slots_same script r (emitted script (slice_index_or r.slots slot None) types r)
    (slots_emitted script (slice_index_or r.slots slot None) types r) slots
slots_performed script a (act.Close stream) r is slots =
    slots_same script r (closed_at stream r) (slots_if (queues_at r stream).closed r r (shut_at stream r) refl refl) slots
slots_performed script a _ r is slots = slots

pub slots_below : (k : ℕ) (r : ReactorHalf) → (served_below k r).slots ≡ r.slots
slots_below zero r = refl
slots_below (suc k) r = slots_below k r

pub slots_settled : (script : ScriptModel) (told : Bool) (r : ReactorHalf) → AreConnected script r →
    AreConnected script (settled told r)
slots_settled script told r slots =
    let whole : ReactorHalf = record (with_waits_served r) { whole_turn = true; reached = 0 } in
    slots_same script r (settled told r)
    (slots_if told r (served_below (length whole.queues) whole) whole (slots_below (length whole.queues) whole) refl) slots

slots_gone : (given : Option Act) (r : ReactorHalf) → (gone given r).slots ≡ r.slots
slots_gone (Some (act.ReadSome stream size strand slot filter)) r = refl
slots_gone (Some (act.ReadAll stream size strand slot filter)) r = refl
slots_gone (Some (act.Until stream delimiter max strand slot filter)) r = refl
slots_gone (Some (act.WriteSome stream bytes strand slot filter)) r = refl
slots_gone (Some (act.WriteAll stream bytes strand slot filter)) r = refl
slots_gone _ r = refl

pub slots_off : (script : ScriptModel) (o : ℕ) (r : ReactorHalf) (due : List Completion) → (told_off script o r due).slots ≡ r.slots
slots_off script o r [] = slots_gone (act_of script o) r
slots_off script o r (next ∷ due) = refl

released_some : (o op : ℕ) (held : Option ℕ) → released o held ≡ Some op → held ≡ Some op
released_some o op None is = is
released_some o op (Some other) is = by_test (other == o) is
  where
    by_test : (b : Bool) → cond b None (Some other) ≡ Some op → Some other ≡ Some op
    by_test true is = absurd (cc)
    by_test false is = is

slots_left : (script : ScriptModel) (o : ℕ) (slot : Option ℕ) (r : ReactorHalf) → AreConnected script r →
    AreConnected script (disconnected o slot r)
slots_left script o None r slots k op holds = slots k op holds
slots_left script o (Some slot) r slots k op holds = elim (cases_eq k slot) [
  | inl here ↦
      let new : Option ℕ = released o (slice_index_or r.slots slot None) in
      elim (cases_lt slot (length r.slots)) [
        | inl within ↦
            let got = get_or-set_same r.slots slot new None within in
            let holds_here : slice_index_or (set r.slots slot new) slot None ≡ Some op =
            subst (λ (k : ℕ). slice_index_or (set r.slots slot new) k None ≡ Some op) here holds in
            let was = released_some o op (slice_index_or r.slots slot None) (sym got ∙ holds_here) in
            slots k op (ap (λ k. slice_index_or r.slots k None) here ∙ was)
        | inr past ↦
            slots k op (ap (λ (xs : List (Option ℕ)). slice_index_or xs k None) (sym (set_past r.slots slot new past)) ∙ holds)
      ]
  | inr other ↦
      slots k op
      (sym (get_or-set_other r.slots slot k (released o (slice_index_or r.slots slot None)) None other) ∙ holds)
]

pub slots_told : (script : ScriptModel) (o : ℕ) (r : ReactorHalf) → AreConnected script r →
    AreConnected script (reactor_after_done script r o)
slots_told script o r slots =
    let off : ReactorHalf = told_off script o r r.due in
    slots_left script o (slot_in (act_of script o)) (record off { whole_turn = false })
    (slots_same script r (record off { whole_turn = false }) (slots_off script o r r.due) slots)
