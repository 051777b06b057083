-- As the reactor takes an act and settles, no operation of a stream comes to move more than was there.
use Rattle.std.proofs.Common.{◌≡◌, ℕ, ◌+◌, ◌≤◌, ◌==◌, nat_lt, zero, suc, Bool, true, false, cond, List, [], ◌∷◌, ◌++◌, Option, Some, None, filter, find, length, set, inl, inr, refl, sym, ap, subst, ◌∙◌, arith}
use Rattle.std.specs.List.{All, slice_index_or, sum_by}
use Rattle.std.proofs.lemmas.Bool.{cases_Bool, cond_both}
use Rattle.std.proofs.lemmas.List.Elements.{All-cons, All-head, All-nil, All-tail}
use Rattle.std.proofs.lemmas.List.Sums.{sum_by-cons}
use Rattle.session_script.specs.declared.act.Act.{Act}
use Rattle.session_script.specs.declared.act.Act.TheVariants as act
use Rattle.session_script.specs.Script.{ScriptModel, act_of}
use Rattle.stream_rules.specs.declared.queue.Completion.{Completion}
use Rattle.stream_rules.specs.Queue.{Pending, reading_side, served_queue, writing_side}
use Rattle.stream_rules.specs.Serving.{Reading, Writing, Some_bytes, All_bytes, Until, Some_of, All_of}
use Rattle.stream_rules.specs.Stream.{Stream, closed_stream}
use Rattle.stream_rules.specs.World.{stream_at}
use Rattle.history_rules.specs.Performing.{aborted, all_aborted, all_of_stream, emitted, emitted_to, expiry_set, is_reached, is_wait_of, one_wait_cancelled, operation_cancelled, performed, performed_act, performed_by, queues_at, read_accepted, shut_at, wait_accepted, with_taken, with_writes, write_accepted}
use Rattle.history_rules.specs.Settling.{StreamServed, due_waits, expiry_of, is_due, served_at, served_below, served_stream, settled, sorted_by, waited, with_waits_served}
use Rattle.history_rules.specs.State.{ReactorHalf, StreamQueues}
use Rattle.history_rules.specs.declared.wait.Wait.{Wait}
use Rattle.history_laws.specs.Streams.{is_read_of, is_write_of}
use Rattle.history_laws.proofs.BytesLemmas.{IsHere, moved_on, report_of, reports_of, stream_flows, there_of}
use Rattle.history_laws.proofs.CountLemmas.{same-is}
use Rattle.history_laws.proofs.FlowLemmas.{moved_of}
use Rattle.history_laws.proofs.FlowingLemmas.{Flows, IsFlowing, aborted_few, aborted_here, as_it_was, connects_flow, flows_both, flows_if, held_by, more_due, no_sizes, one_flow, read_flow, reads_here, stream_changes, waits_flow, write_flow, writes_here}

-- what is cancelled as a stream closes comes to the same as its reads and its writes apart
module _ (f : Completion → ℕ) where
  with_writes_sum : (accepted : ℕ) (read : Completion) (later : List (Pending Writing) → List Completion) (n : ℕ) →
      ((rest : List (Pending Writing)) → sum_by f (later rest) ≡ n + sum_by f (all_aborted rest)) →
      (writes : List (Pending Writing)) →
      sum_by f (with_writes accepted read later writes) ≡ f read + n + sum_by f (all_aborted writes)
  with_writes_sum accepted read later n rest [] =
      omega (arith, sum_by-cons f read (later []), rest [])
  with_writes_sum accepted read later n rest (write ∷ writes) =
      let after = with_writes_sum accepted read later n rest writes in
      let here = sum_by-cons f read (later (write ∷ writes)) in
      let both = rest (write ∷ writes) in
      let one = sum_by-cons f (aborted write.op write.moved) (all_aborted writes) in
      let two = sum_by-cons f (aborted write.op write.moved) (with_writes accepted read later writes) in
      cond_both (nat_lt accepted write.accepted) (read ∷ later (write ∷ writes))
      (aborted write.op write.moved ∷ with_writes accepted read later writes)
      (λ due. sum_by f due ≡ f read + n + sum_by f (all_aborted (write ∷ writes)))
      (λ is. omega (arith, here, both)) (λ is. omega (arith, after, one, two))

  stream_sum : (reads : List (Pending Reading)) (writes : List (Pending Writing)) →
      sum_by f (all_of_stream reads writes) ≡ sum_by f (all_aborted reads) + sum_by f (all_aborted writes)
  stream_sum [] writes = omega arith
  stream_sum (read ∷ reads) writes =
      let one = sum_by-cons f (aborted read.op read.moved) (all_aborted reads) in
      let all = with_writes_sum read.accepted (aborted read.op read.moved) (all_of_stream reads) (sum_by f (all_aborted reads))
      (stream_sum reads) writes in
      omega (arith, one, all)

-- and is on that stream
module _ (P : Completion → Type 0) where
  with_writes_all : (accepted : ℕ) (read : Completion) (later : List (Pending Writing) → List Completion) → P read →
      ((rest : List (Pending Writing)) → All P (all_aborted rest) → All P (later rest)) →
      (writes : List (Pending Writing)) → All P (all_aborted writes) → All P (with_writes accepted read later writes)
  with_writes_all accepted read later here rest [] all = All-cons P read (later []) here (rest [] all)
  with_writes_all accepted read later here rest (write ∷ writes) all =
      cond_both (nat_lt accepted write.accepted) (read ∷ later (write ∷ writes))
      (aborted write.op write.moved ∷ with_writes accepted read later writes) (All P)
      (λ is. All-cons P read (later (write ∷ writes)) here (rest (write ∷ writes) all))
      (λ is. All-cons P (aborted write.op write.moved) (with_writes accepted read later writes)
      (All-head P (aborted write.op write.moved) (all_aborted writes) all)
      (with_writes_all accepted read later here rest writes
      (All-tail P (aborted write.op write.moved) (all_aborted writes) all)))

  pub stream_all : (reads : List (Pending Reading)) (writes : List (Pending Writing)) → All P (all_aborted reads) →
      All P (all_aborted writes) → All P (all_of_stream reads writes)
  stream_all [] writes all_reads all_writes = all_writes
  stream_all (read ∷ reads) writes all_reads all_writes =
      with_writes_all read.accepted (aborted read.op read.moved) (all_of_stream reads)
      (All-head P (aborted read.op read.moved) (all_aborted reads) all_reads)
      (λ rest all. stream_all reads rest (All-tail P (aborted read.op read.moved) (all_aborted reads) all_reads) all) writes
      all_writes

module _ (script : ScriptModel) where
  shut_flow : (j : ℕ) (r : ReactorHalf) → IsFlowing script r → Flows script r (shut_at j r)
  shut_flow j r is =
      let old : StreamQueues = queues_at r j in
      let of = is.queues j in
      let few = aborted_few script j old.reads old.writes of.reads of.writes in
      stream_changes script j (all_of_stream old.reads old.writes) (record { closed = true; reads = []; writes = [] })
      (closed_stream (stream_at r.streams j)) r (shut_at j r) is
      (stream_all (IsHere script j) old.reads old.writes
      (reads_here script j (all_aborted old.reads)
      (aborted_here script (λ n. is_read_of j (act_of script n) ≡ true) old.reads of.reads))
      (writes_here script j (all_aborted old.writes)
      (aborted_here script (λ n. is_write_of j (act_of script n) ≡ true) old.writes of.writes)))
      (record {
        reads = All-nil (λ (pending : Pending Reading). is_read_of j (act_of script pending.op) ≡ true);
        writes = All-nil (λ (pending : Pending Writing). is_write_of j (act_of script pending.op) ≡ true);
        shut = λ closed. (refl, refl);
      })
      (by_side old few.0 few.1) refl refl refl
    where
      by_side : (old : StreamQueues) →
          reports_of script true j (all_aborted old.reads) + reports_of script true j (all_aborted old.writes)
          ≤ moved_of old.reads →
          reports_of script false j (all_aborted old.reads) + reports_of script false j (all_aborted old.writes)
          ≤ moved_of old.writes →
          (side : Bool) →
          reports_of script side j (all_of_stream old.reads old.writes)
          + held_by side (record { closed = true; reads = []; writes = [] }) (closed_stream (stream_at r.streams j))
          ≤ held_by side old (stream_at r.streams j)
      by_side old first second true =
          omega (arith, first, stream_sum (report_of script true j) old.reads old.writes)
      by_side old first second false =
          omega (arith, second, stream_sum (report_of script false j) old.reads old.writes)

  cancelled_flow : (given : Act) (op : ℕ) (r : ReactorHalf) → IsFlowing script r → Flows script r (operation_cancelled given op r)
  cancelled_flow (act.Wait timer strand slot kinds) op r is = waits_flow script (λ wait. wait.op == op) r is
  cancelled_flow (act.ReadSome stream size strand slot kinds) op r is = one_flow script op stream r is
  cancelled_flow (act.ReadAll stream size strand slot kinds) op r is = one_flow script op stream r is
  cancelled_flow (act.Until stream delimiter max strand slot kinds) op r is = one_flow script op stream r is
  cancelled_flow (act.WriteSome stream bytes strand slot kinds) op r is = one_flow script op stream r is
  cancelled_flow (act.WriteAll stream bytes strand slot kinds) op r is = one_flow script op stream r is
  cancelled_flow _ op r is = as_it_was script r is

  emitted_flow : (op : Option ℕ) (types : ℕ) (r : ReactorHalf) → IsFlowing script r → Flows script r (emitted script op types r)
  emitted_flow None types r is = as_it_was script r is
  emitted_flow (Some op) types r is = by_act (act_of script op)
    where
      by_act : (given : Option Act) → Flows script r (emitted_to given types op r)
      by_act None = as_it_was script r is
      by_act (Some given) =
          flows_if script r (operation_cancelled given op r) r (is_reached given types) (cancelled_flow given op r is)
          (as_it_was script r is)

  one_wait_flow : (wait : Option Wait) (r : ReactorHalf) → IsFlowing script r → Flows script r (one_wait_cancelled wait r)
  one_wait_flow None r is = as_it_was script r is
  one_wait_flow (Some wait) r is = waits_flow script (λ other. other.op == wait.op) r is

  expiry_flow : (timer expiry : ℕ) (r : ReactorHalf) → IsFlowing script r → Flows script r (expiry_set timer expiry r)
  expiry_flow timer expiry r is =
      let it = waits_flow script (is_wait_of timer) (record r { expiries = set r.expiries timer expiry })
      (record { lengths = is.lengths; queues = is.queues }) in
      record { flowing = it.flowing; less = it.less }

  performed_flow : (a : ℕ) (given : Act) (r : ReactorHalf) → act_of script a ≡ Some given → IsFlowing script r →
      Flows script r (performed_act script a given r)
  performed_flow a (act.Wait timer strand slot kinds) r is flowing =
      connects_flow script slot a r (wait_accepted a timer r)
      (record { flowing = record { lengths = flowing.lengths; queues = flowing.queues }; less = λ side k. omega arith })
  performed_flow a (act.ReadSome stream size strand slot kinds) r is flowing =
      connects_flow script slot a r (read_accepted a stream (Some_bytes size) r)
      (read_flow script a stream (Some_bytes size) r (ap (is_read_of stream) is ∙ same-is stream) flowing)
  performed_flow a (act.ReadAll stream size strand slot kinds) r is flowing =
      connects_flow script slot a r (read_accepted a stream (All_bytes size) r)
      (read_flow script a stream (All_bytes size) r (ap (is_read_of stream) is ∙ same-is stream) flowing)
  performed_flow a (act.Until stream delimiter max strand slot kinds) r is flowing =
      connects_flow script slot a r (read_accepted a stream (Until delimiter max) r)
      (read_flow script a stream (Until delimiter max) r (ap (is_read_of stream) is ∙ same-is stream) flowing)
  performed_flow a (act.WriteSome stream bytes strand slot kinds) r is flowing =
      connects_flow script slot a r (write_accepted a stream (Some_of bytes) r)
      (write_flow script a stream (Some_of bytes) r (ap (is_write_of stream) is ∙ same-is stream) flowing)
  performed_flow a (act.WriteAll stream bytes strand slot kinds) r is flowing =
      connects_flow script slot a r (write_accepted a stream (All_of bytes) r)
      (write_flow script a stream (All_of bytes) r (ap (is_write_of stream) is ∙ same-is stream) flowing)
  performed_flow a (act.Expires timer after) r is flowing = expiry_flow timer (r.now + after) r flowing
  performed_flow a (act.ExpiresAt timer at) r is flowing = expiry_flow timer at r flowing
  performed_flow a (act.Cancel timer) r is flowing = waits_flow script (is_wait_of timer) r flowing
  performed_flow a (act.CancelOne timer) r is flowing = one_wait_flow (find (is_wait_of timer) r.waits) r flowing
  performed_flow a (act.Emit slot types) r is flowing = emitted_flow (slice_index_or r.slots slot None) types r flowing
  performed_flow a (act.Close stream) r is flowing =
      flows_if script r r (shut_at stream r) (queues_at r stream).closed (as_it_was script r flowing) (shut_flow stream r flowing)
  performed_flow a (act.Release guard) r is flowing =
      record { flowing = record { lengths = flowing.lengths; queues = flowing.queues }; less = λ side k. omega arith }
  performed_flow a _ r is flowing = as_it_was script r flowing

  -- an act that is taken
  pub taking_flow : (a : ℕ) (r : ReactorHalf) → IsFlowing script r → Flows script r (performed script a r)
  taking_flow a r flowing = by_act (act_of script a) refl
    where
      by_act : (given : Option Act) → act_of script a ≡ given → Flows script r (with_taken a (performed_by script a given r))
      by_act None is = record { flowing = record { lengths = flowing.lengths; queues = flowing.queues }; less = λ side k. omega arith }
      by_act (Some given) is =
          let it = performed_flow a given r is flowing in
          record { flowing = record { lengths = it.flowing.lengths; queues = it.flowing.queues }; less = it.less }

  -- a stream is served
  module _ (j : ℕ) (r : ReactorHalf) (is : IsFlowing script r) where
    abbrev served : StreamServed
    served = served_stream (stream_at r.streams j) (queues_at r j)

    by_side : (queues_at r j).closed ≡ true → served.completed ≡ [] → served.queues.reads ≡ [] → served.queues.writes ≡ [] →
        (side : Bool) →
        reports_of script side j served.completed + held_by side served.queues served.stream
        ≤ held_by side (queues_at r j) (stream_at r.streams j)
    by_side closed none left kept true =
        let no_report = ap (reports_of script true j) none in
        let no_moved = ap (λ (queue : List (Pending Reading)). moved_of queue) left in
        let no_room = ap (λ b. cond b 0 (there_of true served.stream)) closed in
        omega (arith, no_report, no_moved, no_room)
    by_side closed none left kept false =
        let no_report = ap (reports_of script false j) none in
        let no_moved = ap (λ (queue : List (Pending Writing)). moved_of queue) kept in
        let no_room = ap (λ b. cond b 0 (there_of false served.stream)) closed in
        omega (arith, no_report, no_moved, no_room)

    in_open : (queues_at r j).closed ≡ false →
        ((side : Bool) →
        reports_of script side j served.completed + moved_on side served.queues + there_of side served.stream
        ≤ moved_on side (queues_at r j) + there_of side (stream_at r.streams j)) →
        (side : Bool) →
        reports_of script side j served.completed + held_by side served.queues served.stream
        ≤ held_by side (queues_at r j) (stream_at r.streams j)
    in_open opened flows side =
        let now = ap (λ b. cond b 0 (there_of side served.stream)) opened in
        let before = ap (λ b. cond b 0 (there_of side (stream_at r.streams j))) opened in
        omega (arith, now, before, flows side)

    served_flow : Flows script r (served_at j r)
    served_flow = elim (cases_Bool (queues_at r j).closed) [
      | inl closed ↦
          let empty = (is.queues j).shut closed in
          let reads : (served_queue reading_side (queues_at r j).reads (stream_at r.streams j)).completed ≡ [] =
          ap (λ queue. (served_queue reading_side queue (stream_at r.streams j)).completed) empty.0 in
          let left : (served_queue reading_side (queues_at r j).reads (stream_at r.streams j)).staying ≡ [] =
          ap (λ queue. (served_queue reading_side queue (stream_at r.streams j)).staying) empty.0 in
          let stream : Stream = (served_queue reading_side (queues_at r j).reads (stream_at r.streams j)).stream in
          let writes : (served_queue writing_side (queues_at r j).writes stream).completed ≡ [] =
          ap (λ queue. (served_queue writing_side queue stream).completed) empty.1 in
          let kept : (served_queue writing_side (queues_at r j).writes stream).staying ≡ [] =
          ap (λ queue. (served_queue writing_side queue stream).staying) empty.1 in
          let none : served.completed ≡ [] =
          ap (λ due. due ++ (served_queue writing_side (queues_at r j).writes stream).completed) reads ∙ writes in
          stream_changes script j served.completed served.queues served.stream r (served_at j r) is
          (subst (All (IsHere script j)) (sym none) (All-nil (IsHere script j)))
          (record {
            reads =
                subst (All (λ (pending : Pending Reading). is_read_of j (act_of script pending.op) ≡ true)) (sym left)
                (All-nil (λ (pending : Pending Reading). is_read_of j (act_of script pending.op) ≡ true));
            writes =
                subst (All (λ (pending : Pending Writing). is_write_of j (act_of script pending.op) ≡ true)) (sym kept)
                (All-nil (λ (pending : Pending Writing). is_write_of j (act_of script pending.op) ≡ true));
            shut = λ closed. (left, kept);
          })
          (by_side closed none left kept) refl refl refl
      | inr opened ↦
          let it = stream_flows script j (stream_at r.streams j) (queues_at r j) (is.queues j) opened in
          stream_changes script j served.completed served.queues served.stream r (served_at j r) is it.here it.queues_of
          (in_open opened it.flows) refl refl refl
    ]

  pub below_flow : (k : ℕ) (r : ReactorHalf) → IsFlowing script r → Flows script r (served_below k r)
  below_flow zero r is = as_it_was script r is
  below_flow (suc k) r is =
      let first = below_flow k r is in
      flows_both script r (served_below k r) (served_at k (served_below k r)) first
      (served_flow k (served_below k r) first.flowing)

  -- and the turn settles
  pub settled_flow : (r : ReactorHalf) → IsFlowing script r → Flows script r (settled true r)
  settled_flow r is =
      let ready = sorted_by (expiry_of r) (filter (is_due r) r.waits) in
      let whole : ReactorHalf = record (with_waits_served r) { whole_turn = true; reached = 0 } in
      let first = more_due script (due_waits r) r whole is (no_sizes waited ready (λ wait. refl)) refl refl refl in
      flows_both script r whole (served_below (length whole.queues) whole) first
      (below_flow (length whole.queues) whole first.flowing)
