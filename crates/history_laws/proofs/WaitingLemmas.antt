-- Waits are pending in the order in which they were taken.
use Rattle.std.proofs.Common.{◌≡◌, ◌⊎◌, ℕ, ◌<◌, zero, suc, Bool, true, false, cond, not, List, [], ◌∷◌, ◌++◌, Option, Some, None, filter, find, get_or, length, inl, inr, refl, sym, ap, subst, ◌∙◌, arith}
use Rattle.std.specs.List.{All, slice_index_or}
use Rattle.std.proofs.lemmas.List.Elements.{All-filter, All-head, All-nil, All-push, All-tail, All-weaker}
use Rattle.std.proofs.lemmas.Option.{slice_get_within}
use Rattle.asio_types.specs.declared.event.Event.{Event}
use Rattle.asio_types.specs.declared.event.Event.TheVariants as event
use Rattle.session_script.specs.declared.act.Act.{Act}
use Rattle.session_script.specs.declared.act.Act.TheVariants as act
use Rattle.session_script.specs.Script.{ScriptModel, act_of}
use Rattle.stream_rules.specs.declared.queue.Completion.{Completion}
use Rattle.stream_rules.specs.Serving.{Reading, Writing, Some_bytes, All_bytes, Until, Some_of, All_of}
use Rattle.history_rules.specs.Legal.{MayHappen, after_event}
use Rattle.history_rules.specs.Performing.{bad, connected, emitted, emitted_to, is_reached, is_wait_for, is_wait_of, new_pending, one_wait_cancelled, operation_cancelled, performed, performed_act, performed_by, queues_at, read_accepted, shut_at, wait_accepted, waits_cancelled, with_due, with_queues, with_taken, write_accepted}
use Rattle.history_rules.specs.Requests.{disconnected, reactor_after_done, slot_in, told_off}
use Rattle.history_rules.specs.Settling.{is_due, served_below, settled, with_waits_served}
use Rattle.history_rules.specs.State.{ReactorHalf, State}
use Rattle.history_rules.specs.Time.{at_last, at_time}
use Rattle.history_rules.specs.Untold.{gone}
use Rattle.history_rules.specs.declared.wait.Wait.{Wait}
use Rattle.history_laws.specs.Events.{StandsAt}
use Rattle.history_laws.proofs.HistoryLemmas.{stands_last, stands_more}
use Rattle.history_laws.proofs.KeptLemmas.{IsKept, Seen, Timed}

-- the first was taken before the second
pub record TakenBefore (before : List Event) (first second : ℕ) : Type 0 where
  pub earlier : ℕ
  pub later : ℕ
  pub less : earlier < later
  pub takes : StandsAt before earlier (event.Take first)
  pub takes_later : StandsAt before later (event.Take second)

abbrev pub AreInOrder : List Event → List Wait → Type 0
AreInOrder before [] = Unit {0}
AreInOrder before (wait ∷ waits) =
    All (λ (other : Wait). TakenBefore before wait.op other.op) waits × AreInOrder before waits

more_order : (before : List Event) (e : Event) (waits : List Wait) → AreInOrder before waits → AreInOrder (before ++ e ∷ []) waits
more_order before e [] order = tt
more_order before e (wait ∷ waits) order = (
  All-weaker (λ (other : Wait). TakenBefore before wait.op other.op)
      (λ other. TakenBefore (before ++ e ∷ []) wait.op other.op)
      (λ other was. record {
        earlier = was.earlier;
        later = was.later;
        less = was.less;
        takes = stands_more before e (event.Take wait.op) was.earlier was.takes;
        takes_later = stands_more before e (event.Take other.op) was.later was.takes_later;
      }) waits order.0,
  more_order before e waits order.1,
)

filter_order : (before : List Event) (p : Wait → Bool) (waits : List Wait) → AreInOrder before waits →
    AreInOrder before (filter p waits)
filter_order before p [] order = tt
filter_order before p (wait ∷ waits) order = by_test (p wait) (filter_order before p waits order.1)
  where
    by_test : (b : Bool) → AreInOrder before (filter p waits) →
        AreInOrder before (cond b (wait ∷ filter p waits) (filter p waits))
    by_test true rest = (All-filter p (λ (other : Wait). TakenBefore before wait.op other.op) waits order.0, rest)
    by_test false rest = rest

push_order : (before : List Event) (new : Wait) (waits : List Wait) → All (λ (wait : Wait). Seen before wait.op) waits →
    AreInOrder before waits → AreInOrder (before ++ event.Take new.op ∷ []) (waits ++ new ∷ [])
push_order before new [] seen order = (
  All-nil (λ (other : Wait). TakenBefore
      (before ++ event.Take new.op ∷ []) new.op other.op),
  tt,
)
push_order before new (wait ∷ waits) seen order =
    let here = All-head (λ (wait : Wait). Seen before wait.op) wait waits seen in
    let rest = push_order before new waits (All-tail (λ (wait : Wait). Seen before wait.op) wait waits seen) order.1 in
    let more = more_order before (event.Take new.op) (wait ∷ waits) order in (
      All-push (λ (other : Wait). TakenBefore (before ++ event.Take new.op ∷ []) wait.op other.op) waits new more.0 (record {
        earlier = here.0;
        later = length before;
        less = slice_get_within before here.0 (event.Take wait.op) here.1;
        takes = stands_more before (event.Take new.op) (event.Take wait.op) here.0 here.1;
        takes_later = stands_last before (event.Take new.op);
      }),
      rest,
    )

waits_if : (b : Bool) (r one two : ReactorHalf) → one.waits ≡ r.waits → two.waits ≡ r.waits → (cond b one two).waits ≡ r.waits
waits_if true r one two first second = first
waits_if false r one two first second = second

waits_below : (k : ℕ) (r : ReactorHalf) → (served_below k r).waits ≡ r.waits
waits_below zero r = refl
waits_below (suc k) r = waits_below k r

waits_settle : (told : Bool) (r : ReactorHalf) → (settled told r).waits ≡ filter (λ wait. not (is_due r wait)) r.waits
waits_settle told r =
    let whole : ReactorHalf = record (with_waits_served r) { whole_turn = true; reached = 0 } in
    waits_if told whole (served_below (length whole.queues) whole) whole (waits_below (length whole.queues) whole) refl

settle_order : (before : List Event) (told : Bool) (r : ReactorHalf) → AreInOrder before r.waits →
    AreInOrder before (settled told r).waits
settle_order before told r order =
    subst (AreInOrder before) (sym (waits_settle told r)) (filter_order before (λ wait. not (is_due r wait)) r.waits order)

waits_connect : (slot : Option ℕ) (op : ℕ) (t : ReactorHalf) → (connected slot op t).waits ≡ t.waits
waits_connect None op t = refl
waits_connect (Some slot) op t = refl

waits_read : (a stream : ℕ) (reading : Reading) (r : ReactorHalf) → (read_accepted a stream reading r).waits ≡ r.waits
waits_read a stream reading r =
    let old = queues_at r stream in
    waits_if old.closed r (with_due (bad a ∷ []) r)
    (with_queues r stream (record old { reads = old.reads ++ new_pending a r.accepted reading ∷ [] })) refl refl

waits_write : (a stream : ℕ) (writing : Writing) (r : ReactorHalf) → (write_accepted a stream writing r).waits ≡ r.waits
waits_write a stream writing r =
    let old = queues_at r stream in
    waits_if old.closed r (with_due (bad a ∷ []) r)
    (with_queues r stream (record old { writes = old.writes ++ new_pending a r.accepted writing ∷ [] })) refl refl

module _ (before : List Event) (r : ReactorHalf) (a : ℕ) (order : AreInOrder before r.waits)
    (seen : All (λ (wait : Wait). Seen before wait.op) r.waits) where
  abbrev After : ReactorHalf → Type 0
  After t = AreInOrder (before ++ event.Take a ∷ []) t.waits

  as_before : After r
  as_before = more_order before (event.Take a) r.waits order

  same_after : (t : ReactorHalf) → t.waits ≡ r.waits → After t
  same_after t same = subst (AreInOrder (before ++ event.Take a ∷ [])) (sym same) as_before

  cancel_after : (test : Wait → Bool) → After (waits_cancelled test r)
  cancel_after test = filter_order (before ++ event.Take a ∷ []) (λ wait. not (test wait)) r.waits as_before

  operation_after : (given : Act) (op : ℕ) → After (operation_cancelled given op r)
  operation_after (act.Wait timer strand slot kinds) op = cancel_after (is_wait_for op)
  operation_after (act.ReadSome stream size strand slot kinds) op = as_before
  operation_after (act.ReadAll stream size strand slot kinds) op = as_before
  operation_after (act.Until stream delimiter max strand slot kinds) op = as_before
  operation_after (act.WriteSome stream bytes strand slot kinds) op = as_before
  operation_after (act.WriteAll stream bytes strand slot kinds) op = as_before
  operation_after _ op = as_before

  after_if : (b : Bool) (one two : ReactorHalf) → After one → After two → After (cond b one two)
  after_if true one two first second = first
  after_if false one two first second = second

  emit_after : (script : ScriptModel) (op : Option ℕ) (types : ℕ) → After (emitted script op types r)
  emit_after script None types = as_before
  emit_after script (Some op) types = by_act (act_of script op)
    where
      by_act : (given : Option Act) → After (emitted_to given types op r)
      by_act None = as_before
      by_act (Some given) =
          after_if (is_reached given types) (operation_cancelled given op r) r (operation_after given op) as_before

  one_after : (wait : Option Wait) → After (one_wait_cancelled wait r)
  one_after None = as_before
  one_after (Some wait) = cancel_after (is_wait_for wait.op)

  performed_order : (script : ScriptModel) (given : Act) → After (performed_act script a given r)
  performed_order script (act.Wait timer strand slot kinds) =
      subst (AreInOrder (before ++ event.Take a ∷ [])) (sym (waits_connect slot a (wait_accepted a timer r)))
      (push_order before (record { op = a; timer = timer }) r.waits seen order)
  performed_order script (act.ReadSome stream size strand slot kinds) =
      same_after (connected slot a (read_accepted a stream (Some_bytes size) r))
      (waits_connect slot a (read_accepted a stream (Some_bytes size) r) ∙ waits_read a stream (Some_bytes size) r)
  performed_order script (act.ReadAll stream size strand slot kinds) =
      same_after (connected slot a (read_accepted a stream (All_bytes size) r))
      (waits_connect slot a (read_accepted a stream (All_bytes size) r) ∙ waits_read a stream (All_bytes size) r)
  performed_order script (act.Until stream delimiter max strand slot kinds) =
      same_after (connected slot a (read_accepted a stream (Until delimiter max) r))
      (waits_connect slot a (read_accepted a stream (Until delimiter max) r) ∙ waits_read a stream (Until delimiter max) r)
  performed_order script (act.WriteSome stream bytes strand slot kinds) =
      same_after (connected slot a (write_accepted a stream (Some_of bytes) r))
      (waits_connect slot a (write_accepted a stream (Some_of bytes) r) ∙ waits_write a stream (Some_of bytes) r)
  performed_order script (act.WriteAll stream bytes strand slot kinds) =
      same_after (connected slot a (write_accepted a stream (All_of bytes) r))
      (waits_connect slot a (write_accepted a stream (All_of bytes) r) ∙ waits_write a stream (All_of bytes) r)
  performed_order script (act.Expires timer after) = cancel_after (is_wait_of timer)
  performed_order script (act.ExpiresAt timer at) = cancel_after (is_wait_of timer)
  performed_order script (act.Cancel timer) = cancel_after (is_wait_of timer)
  performed_order script (act.CancelOne timer) = one_after (find (is_wait_of timer) r.waits)
  performed_order script (act.Emit slot types) = emit_after script (slice_index_or r.slots slot None) types
  performed_order script (act.Close stream) = after_if (queues_at r stream).closed r (shut_at stream r) as_before as_before
  performed_order script _ = as_before

  taken_order : (script : ScriptModel) (told : Bool) → After (settled told (performed script a r))
  taken_order script told =
      settle_order (before ++ event.Take a ∷ []) told (performed script a r) (by_act (act_of script a))
    where
      by_act : (given : Option Act) →
          AreInOrder (before ++ event.Take a ∷ []) (with_taken a (performed_by script a given r)).waits
      by_act None = as_before
      by_act (Some given) = performed_order script given

waits_gone_off : (given : Option Act) (r : ReactorHalf) → (gone given r).waits ≡ r.waits
waits_gone_off (Some (act.ReadSome stream size strand slot kinds)) r = refl
waits_gone_off (Some (act.ReadAll stream size strand slot kinds)) r = refl
waits_gone_off (Some (act.Until stream delimiter max strand slot kinds)) r = refl
waits_gone_off (Some (act.WriteSome stream bytes strand slot kinds)) r = refl
waits_gone_off (Some (act.WriteAll stream bytes strand slot kinds)) r = refl
waits_gone_off _ r = refl

waits_told : (script : ScriptModel) (o : ℕ) (r : ReactorHalf) → (reactor_after_done script r o).waits ≡ r.waits
waits_told script o r = left (slot_in (act_of script o)) (record (told_off script o r r.due) { whole_turn = false }) ∙ off r.due
  where
    left : (slot : Option ℕ) (t : ReactorHalf) → (disconnected o slot t).waits ≡ t.waits
    left None t = refl
    left (Some slot) t = refl

    off : (due : List Completion) → (told_off script o r due).waits ≡ r.waits
    off [] = waits_gone_off (act_of script o) r
    off (next ∷ due) = refl

-- each event keeps it
pub order_after : (script : ScriptModel) (told : Bool) (before : List Event) (s : State) (e : Event) →
    IsKept script before s.reactor → AreInOrder before s.reactor.waits → MayHappen script told s e →
    AreInOrder (before ++ e ∷ []) (after_event script told s e).reactor.waits
order_after script told before s (event.Take a) kept order may =
    taken_order before s.reactor a order
    (All-weaker (λ (wait : Wait). Timed script before wait.timer wait.op) (λ wait. Seen before wait.op) (λ wait of. of.1)
    s.reactor.waits kept.held.waits) script told
order_after script told before s (event.Done o code size) kept order may =
    subst (AreInOrder (before ++ event.Done o code size ∷ [])) (sym (waits_told script o s.reactor))
    (more_order before (event.Done o code size) s.reactor.waits order)
order_after script told before s (event.Tick now) kept order may =
    settle_order (before ++ event.Tick now ∷ []) told (at_time script told now s.reactor)
    (more_order before (event.Tick now) s.reactor.waits order)
order_after script told before s event.Last kept order may =
    settle_order (before ++ event.Last ∷ []) told (at_last told s.reactor) (more_order before event.Last s.reactor.waits order)
order_after script told before s (event.Stop (Some a)) kept order may =
    more_order before (event.Stop (Some a)) s.reactor.waits order
order_after script told before s (event.Stop None) kept order may = more_order before (event.Stop None) s.reactor.waits order
order_after script told before s e kept order may = more_order before e s.reactor.waits order

-- what is found first stands before every other that passes
pub found_first : (before : List Event) (test : Wait → Bool) (waits : List Wait) (found : Wait) (n k : ℕ) (d : Wait) →
    find test waits ≡ Some found → AreInOrder before waits → k < length waits → (get_or waits k d).op ≡ n →
    test (get_or waits k d) ≡ true → (found.op ≡ n) ⊎ TakenBefore before found.op n
found_first before test [] found n k d is order within here passes = absurd (omega (arith, within))
found_first before test (wait ∷ waits) found n k d is order within here passes =
    by_test (test wait) refl is
    (λ k is within here passes. found_first before test waits found n k d is order.1 within here passes) k within here passes
  where
    by_test : (b : Bool) → test wait ≡ b → cond b (Some wait) (find test waits) ≡ Some found →
        ((k : ℕ) → find test waits ≡ Some found → k < length waits → (get_or waits k d).op ≡ n →
        test (get_or waits k d) ≡ true → (found.op ≡ n) ⊎ TakenBefore before found.op n) →
        (k : ℕ) → k < length (wait ∷ waits) → (get_or (wait ∷ waits) k d).op ≡ n → test (get_or (wait ∷ waits) k d) ≡ true →
        (found.op ≡ n) ⊎ TakenBefore before found.op n
    by_test true tested is rest zero within here passes =
        let same : wait ≡ found = cc in inl (sym (ap (λ (wait : Wait). wait.op) same) ∙ here)
    by_test true tested is rest (suc k) within here passes =
        let same : wait ≡ found = cc in
        inr (subst (λ (first : ℕ). TakenBefore before first n) (ap (λ (wait : Wait). wait.op) same)
        (subst (TakenBefore before wait.op) here (order.0 k d (omega (arith, within)))))
    by_test false tested is rest zero within here passes = absurd (let wrong : true ≡ false = sym passes ∙ tested in cc)
    by_test false tested is rest (suc k) within here passes = rest k is (omega (arith, within)) here passes
