-- As the reactor takes an act and settles, streams send what their writes report.
use Rattle.std.proofs.Common.{◌≡◌, ℕ, ◌+◌, ◌≤◌, ◌==◌, zero, suc, Bool, true, List, [], ◌++◌, Option, Some, None, filter, find, length, map, set, inl, inr, refl, sym, ap, subst, ◌∙◌}
use Rattle.std.specs.List.{All, slice_index_or}
use Rattle.std.proofs.lemmas.Bool.{cases_eq}
use Rattle.std.proofs.lemmas.List.{get_or_past}
use Rattle.session_script.specs.declared.act.Act.{Act}
use Rattle.session_script.specs.declared.act.Act.TheVariants as act
use Rattle.session_script.specs.Script.{ScriptModel, act_of}
use Rattle.stream_rules.specs.declared.queue.Completion.{Completion}
use Rattle.stream_rules.specs.Queue.{reading_side, served_queue, writing_side}
use Rattle.stream_rules.specs.Serving.{Some_bytes, All_bytes, Until, Some_of, All_of}
use Rattle.stream_rules.specs.Stream.{Stream}
use Rattle.stream_rules.specs.World.{stream_at}
use Rattle.history_rules.specs.Performing.{aborted, connected, emitted, emitted_to, expiry_set, is_reached, is_wait_of, one_wait_cancelled, operation_cancelled, performed, performed_act, performed_by, queues_at, read_accepted, shut_at, wait_accepted, waits_cancelled, with_taken, write_accepted}
use Rattle.history_rules.specs.Settling.{StreamServed, due_waits, expiry_of, is_due, served_at, served_below, served_stream, settled, sorted_by, waited, with_waits_served}
use Rattle.history_rules.specs.State.{ReactorHalf, StreamQueues, no_queues}
use Rattle.history_rules.specs.declared.wait.Wait.{Wait}
use Rattle.history_laws.specs.Sent.{bytes_in}
use Rattle.history_laws.specs.Streams.{is_read_of, is_write_of}
use Rattle.history_laws.proofs.BytesLemmas.{IsHere, reads_here_of, reads_unwritten, stream_here}
use Rattle.history_laws.proofs.CountLemmas.{same-is}
use Rattle.history_laws.proofs.FlowLemmas.{queue_leaves}
use Rattle.history_laws.proofs.FlowingLemmas.{IsFlowing, no_sizes}
use Rattle.history_laws.proofs.SendingLemmas.{Sends, here_is, one_sends, queue_of, quiet_due, quiet_told, read_sends, sends_both, sends_if, shape_here, shut_sends, silent, stays_sent, stream_sends, write_sends}
use Rattle.history_laws.proofs.SentLemmas.{IsShape, held_of, queue_sends, told_append, told_of}
use Rattle.history_laws.proofs.TurningLemmas.{below_flow}

module _ (script : ScriptModel) (k : ℕ) where
  kept : (r : ReactorHalf) → IsShape script k (queue_of script k r) → Sends script k r r
  kept r shape = stays_sent script k r r shape refl refl

  wait_sends : (test : Wait → Bool) (r : ReactorHalf) → IsShape script k (queue_of script k r) →
      Sends script k r (waits_cancelled test r)
  wait_sends test r shape =
      let due = map (λ (wait : Wait). aborted wait.op 0) (filter test r.waits) in
      quiet_due script k due r (waits_cancelled test r) shape
      (silent script k due (no_sizes (λ (wait : Wait). aborted wait.op 0) (filter test r.waits) (λ wait. refl))) refl refl refl

  connect_sends : (slot : Option ℕ) (op : ℕ) (r t : ReactorHalf) → Sends script k r t → Sends script k r (connected slot op t)
  connect_sends None op r t sends = sends
  connect_sends (Some slot) op r t sends =
      record { more = sends.more; sent = sends.sent; total = sends.total; shape = sends.shape }

  operation_sends : (given : Act) (op : ℕ) (r : ReactorHalf) → IsFlowing script r → IsShape script k (queue_of script k r) →
      Sends script k r (operation_cancelled given op r)
  operation_sends (act.Wait timer strand slot kinds) op r is shape = wait_sends (λ wait. wait.op == op) r shape
  operation_sends (act.ReadSome stream size strand slot kinds) op r is shape = one_sends script k op stream r is shape
  operation_sends (act.ReadAll stream size strand slot kinds) op r is shape = one_sends script k op stream r is shape
  operation_sends (act.Until stream delimiter max strand slot kinds) op r is shape = one_sends script k op stream r is shape
  operation_sends (act.WriteSome stream bytes strand slot kinds) op r is shape = one_sends script k op stream r is shape
  operation_sends (act.WriteAll stream bytes strand slot kinds) op r is shape = one_sends script k op stream r is shape
  operation_sends _ op r is shape = kept r shape

  emit_sends : (op : Option ℕ) (types : ℕ) (r : ReactorHalf) → IsFlowing script r → IsShape script k (queue_of script k r) →
      Sends script k r (emitted script op types r)
  emit_sends None types r is shape = kept r shape
  emit_sends (Some op) types r is shape = by_act (act_of script op)
    where
      by_act : (given : Option Act) → Sends script k r (emitted_to given types op r)
      by_act None = kept r shape
      by_act (Some given) =
          sends_if script k r (operation_cancelled given op r) r (is_reached given types) (operation_sends given op r is shape)
          (kept r shape)

  first_sends : (wait : Option Wait) (r : ReactorHalf) → IsShape script k (queue_of script k r) →
      Sends script k r (one_wait_cancelled wait r)
  first_sends None r shape = kept r shape
  first_sends (Some wait) r shape = wait_sends (λ other. other.op == wait.op) r shape

  expiry_sends : (timer expiry : ℕ) (r : ReactorHalf) → IsShape script k (queue_of script k r) →
      Sends script k r (expiry_set timer expiry r)
  expiry_sends timer expiry r shape =
      let it = wait_sends (is_wait_of timer) (record r { expiries = set r.expiries timer expiry }) shape in
      record { more = it.more; sent = it.sent; total = it.total; shape = it.shape }

  act_sends : (a : ℕ) (given : Act) (r : ReactorHalf) → act_of script a ≡ Some given → IsFlowing script r →
      IsShape script k (queue_of script k r) → Sends script k r (performed_act script a given r)
  act_sends a (act.Wait timer strand slot kinds) r is flowing shape =
      connect_sends slot a r (wait_accepted a timer r) (stays_sent script k r (wait_accepted a timer r) shape refl refl)
  act_sends a (act.ReadSome stream size strand slot kinds) r is flowing shape =
      connect_sends slot a r (read_accepted a stream (Some_bytes size) r)
      (read_sends script k a stream (Some_bytes size) r flowing shape)
  act_sends a (act.ReadAll stream size strand slot kinds) r is flowing shape =
      connect_sends slot a r (read_accepted a stream (All_bytes size) r)
      (read_sends script k a stream (All_bytes size) r flowing shape)
  act_sends a (act.Until stream delimiter max strand slot kinds) r is flowing shape =
      connect_sends slot a r (read_accepted a stream (Until delimiter max) r)
      (read_sends script k a stream (Until delimiter max) r flowing shape)
  act_sends a (act.WriteSome stream bytes strand slot kinds) r is flowing shape =
      connect_sends slot a r (write_accepted a stream (Some_of bytes) r)
      (write_sends script k a stream (Some_of bytes) r (ap (is_write_of stream) is ∙ same-is stream)
      (ap bytes_in is) flowing shape)
  act_sends a (act.WriteAll stream bytes strand slot kinds) r is flowing shape =
      connect_sends slot a r (write_accepted a stream (All_of bytes) r)
      (write_sends script k a stream (All_of bytes) r (ap (is_write_of stream) is ∙ same-is stream)
      (ap bytes_in is) flowing shape)
  act_sends a (act.Expires timer after) r is flowing shape = expiry_sends timer (r.now + after) r shape
  act_sends a (act.ExpiresAt timer at) r is flowing shape = expiry_sends timer at r shape
  act_sends a (act.Cancel timer) r is flowing shape = wait_sends (is_wait_of timer) r shape
  act_sends a (act.CancelOne timer) r is flowing shape = first_sends (find (is_wait_of timer) r.waits) r shape
  act_sends a (act.Emit slot types) r is flowing shape = emit_sends (slice_index_or r.slots slot None) types r flowing shape
  act_sends a (act.Close stream) r is flowing shape =
      sends_if script k r r (shut_at stream r) (queues_at r stream).closed (kept r shape)
      (shut_sends script k stream r flowing shape)
  act_sends a (act.Release guard) r is flowing shape =
      stays_sent script k r (performed_act script a (act.Release guard) r) shape refl refl
  act_sends a _ r is flowing shape = kept r shape

  pub take_sends : (a : ℕ) (r : ReactorHalf) → IsFlowing script r → IsShape script k (queue_of script k r) →
      Sends script k r (performed script a r)
  take_sends a r flowing shape = by_act (act_of script a) refl
    where
      by_act : (given : Option Act) → act_of script a ≡ given → Sends script k r (with_taken a (performed_by script a given r))
      by_act None is = stays_sent script k r (with_taken a r) shape refl refl
      by_act (Some given) is =
          let it = act_sends a given r is flowing shape in
          record { more = it.more; sent = it.sent; total = it.total; shape = it.shape }

  -- a stream is served
  module _ (j : ℕ) (r : ReactorHalf) (is : IsFlowing script r) (shape : IsShape script k (queue_of script k r)) where
    abbrev old : StreamQueues
    old = queues_at r j

    abbrev served : StreamServed
    served = served_stream (stream_at r.streams j) old

    abbrev left : Stream
    left = (served_queue reading_side old.reads (stream_at r.streams j)).stream

    abbrev reads_done : List Completion
    reads_done = (served_queue reading_side old.reads (stream_at r.streams j)).completed

    abbrev writes_done : List Completion
    writes_done = (served_queue writing_side old.writes left).completed

    here : All (IsHere script j) served.completed
    here = stream_here script j (stream_at r.streams j) old (is.queues j)

    reads_told : k ≡ j → told_of script k reads_done ≡ []
    reads_told same =
        quiet_told script k reads_done
        (reads_unwritten script k reads_done
        (subst (λ (i : ℕ). All (λ (done : Completion). is_read_of i (act_of script done.op) ≡ true) reads_done) (sym same)
        (reads_here_of script j (stream_at r.streams j) old (is.queues j))))

    -- reading sends nothing
    left_sent : left.sent ≡ (stream_at r.streams j).sent
    left_sent =
        queue_leaves reading_side (λ (stream : Stream). stream.sent) (λ asks moved used stream. refl) old.reads
        (stream_at r.streams j)

    past : length r.queues ≤ j → served.completed ≡ []
    past out =
        ap (λ (q : StreamQueues). (served_stream (stream_at r.streams j) q).completed) (get_or_past r.queues j no_queues out)

    serve_sends : Sends script k r (served_at j r)
    serve_sends = elim (cases_eq k j) [
      | inl same ↦
          let sends = queue_sends script k old.writes left (shape_here script k j r same shape) in
          stream_sends script k j served.completed served.queues served.stream r
          (served_at j r) shape is.lengths here refl refl refl
          sends.more
          (λ again.
          sends.sent
          ∙ ap (λ bytes. bytes ++ sends.more) (left_sent ∙ ap (λ i. (stream_at r.streams i).sent) (sym same)))
          (λ again.
          ap (λ told. told ++ held_of script k served.queues.writes) (told_append script k reads_done writes_done)
          ∙ (ap (λ told. (told ++ told_of script k writes_done) ++ held_of script k served.queues.writes) (reads_told same)
          ∙ (sends.all ∙ ap (λ bytes. bytes ++ sends.more) (here_is script k j r same))))
          (λ again. sends.shape) past
      | inr apart ↦
          stream_sends script k j served.completed served.queues served.stream r (served_at j r) shape is.lengths here refl refl
          refl [] (λ same. absurd (apart same)) (λ same. absurd (apart same)) (λ same. absurd (apart same)) past
    ]

  below_sends : (n : ℕ) (r : ReactorHalf) → IsFlowing script r → IsShape script k (queue_of script k r) →
      Sends script k r (served_below n r)
  below_sends zero r is shape = kept r shape
  below_sends (suc n) r is shape =
      let first = below_sends n r is shape in
      sends_both script k r (served_below n r) (served_at n (served_below n r)) first
      (serve_sends n (served_below n r) (below_flow script n r is).flowing first.shape)

  -- and the turn settles
  pub settle_sends : (r : ReactorHalf) → IsFlowing script r → IsShape script k (queue_of script k r) →
      Sends script k r (settled true r)
  settle_sends r is shape =
      let ready = sorted_by (expiry_of r) (filter (is_due r) r.waits) in
      let whole : ReactorHalf = record (with_waits_served r) { whole_turn = true; reached = 0 } in
      let first = quiet_due script k (due_waits r) r whole shape
      (silent script k (due_waits r) (no_sizes waited ready (λ wait. refl))) refl refl refl in
      sends_both script k r whole (served_below (length whole.queues) whole) first
      (below_sends (length whole.queues) whole (record { lengths = is.lengths; queues = is.queues }) first.shape)
