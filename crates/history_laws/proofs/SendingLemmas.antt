-- As the reactor turns, what the writes of a stream report and hold is what was sent on it.
use Rattle.std.proofs.Common.{◌≡◌, ◌≢◌, ℕ, take, ◌<◌, ◌≤◌, nat_lt, Bool, true, false, cond, not, List, [], ◌∷◌, ◌++◌, filter, length, set, inl, inr, refl, sym, ap, subst, ◌∙◌, append_assoc, arith}
use Rattle.std.specs.List.{All, slice_index_or}
use Rattle.std.proofs.lemmas.Bool.{cases_eq, cases_lt, cond_both}
use Rattle.std.proofs.lemmas.List.{append-nil, get_or-set_same, get_or-set_other, get_or_past, set_past}
use Rattle.std.proofs.lemmas.List.Elements.{All-append, All-filter, All-head, All-nil, All-tail}
use Rattle.std.proofs.lemmas.List.Sums.{sum_by-cons}
use Rattle.session_script.specs.Script.{ScriptModel, act_of}
use Rattle.stream_rules.specs.declared.queue.Completion.{Completion}
use Rattle.stream_rules.specs.Queue.{Pending}
use Rattle.stream_rules.specs.Serving.{Reading, Writing, Some_of, All_of, bytes_of}
use Rattle.stream_rules.specs.Stream.{Stream, closed_stream, new_stream}
use Rattle.stream_rules.specs.World.{stream_at}
use Rattle.history_rules.specs.Performing.{aborted, all_aborted, all_of_stream, bad, is_of, new_pending, one_of_stream_cancelled, queues_at, read_accepted, shut_at, with_due, with_queues, with_writes, write_accepted}
use Rattle.history_rules.specs.State.{ReactorHalf, StreamQueues, no_queues}
use Rattle.history_laws.specs.Sent.{bytes_in, written_of}
use Rattle.history_laws.specs.Streams.{is_read_of, is_write_of}
use Rattle.history_laws.proofs.BytesLemmas.{IsHere, elsewhere, read_no_write, reads_unwritten, report_of, reports_few, reports_of}
use Rattle.history_laws.proofs.FlowLemmas.{size_of, sizes_of}
use Rattle.history_laws.proofs.FlowingLemmas.{IsFlowing, aborted_here, reads_here, writes_here}
use Rattle.history_laws.proofs.SentLemmas.{IsShape, IsUnmoved, IsWrite, MovesAtOnce, aborted_told, filter_shape, filter_told, held_of, push_held, push_shape, told_append, told_of}
use Rattle.history_laws.proofs.TurningLemmas.{stream_all}

-- what reports no byte of the writes of a stream tells none
module _ (script : ScriptModel) (k : ℕ) where
  pub quiet_told : (due : List Completion) → reports_of script false k due ≡ 0 → told_of script k due ≡ []
  quiet_told [] none = refl
  quiet_told (done ∷ due) none =
      let one = sum_by-cons (report_of script false k) done due in
      ap (λ bytes. bytes ++ told_of script k due) (by_test (is_write_of k (act_of script done.op)) (omega (arith, one, none)))
      ∙ quiet_told due (omega (arith, one, none))
    where
      by_test : (b : Bool) → cond b (size_of done) 0 ≡ 0 → cond b (take (size_of done) (bytes_in (act_of script done.op))) [] ≡ []
      by_test true none = ap (λ size. take size (bytes_in (act_of script done.op))) none
      by_test false none = refl

  abbrev pub queue_of : ReactorHalf → List (Pending Writing)
  queue_of r = (queues_at r k).writes

  abbrev pub sent_of : ReactorHalf → List ℕ
  sent_of r = (stream_at r.streams k).sent

  -- what completions report and the queue holds
  abbrev pub total_of : ReactorHalf → List ℕ
  total_of r = told_of script k r.due ++ held_of script k (queue_of r)

  -- a step that sends some more
  pub record Sends (r t : ReactorHalf) : Type 0 where
    pub more : List ℕ
    pub sent : sent_of t ≡ sent_of r ++ more
    pub total : total_of t ≡ total_of r ++ more
    pub shape : IsShape script k (queue_of t)

  pub sends_both : (r t u : ReactorHalf) → Sends r t → Sends t u → Sends r u
  sends_both r t u first second = record {
    more = first.more ++ second.more;
    sent =
        second.sent ∙ (ap (λ bytes. bytes ++ second.more) first.sent ∙ append_assoc (sent_of r) first.more second.more);
    total =
        second.total ∙ (ap (λ bytes. bytes ++ second.more) first.total ∙ append_assoc (total_of r) first.more second.more);
    shape = second.shape;
  }

  pub sends_if : (r first second : ReactorHalf) (b : Bool) → Sends r first → Sends r second → Sends r (cond b first second)
  sends_if r first second true one two = one
  sends_if r first second false one two = two

  -- nothing is sent
  pub stays_sent : (r t : ReactorHalf) → IsShape script k (queue_of t) → sent_of t ≡ sent_of r →
      total_of t ≡ total_of r → Sends r t
  stays_sent r t shape sent total = record {
    more = [];
    sent = sent ∙ sym (append-nil (sent_of r));
    total = total ∙ sym (append-nil (total_of r));
    shape = shape;
  }

  -- more is due, of which nothing is told
  pub quiet_due : (due : List Completion) (r t : ReactorHalf) → IsShape script k (queue_of r) →
      reports_of script false k due ≡ 0 →
      t.due ≡ r.due ++ due → t.queues ≡ r.queues → t.streams ≡ r.streams → Sends r t
  quiet_due due r t shape none dues queues streams =
      let same : queue_of t ≡ queue_of r = ap (λ (xs : List StreamQueues). (slice_index_or xs k no_queues).writes) queues in
      stays_sent r t (subst (IsShape script k) (sym same) shape)
      (ap (λ (xs : List Stream). (stream_at xs k).sent) streams)
      (ap (λ due. told_of script k due ++ held_of script k (queue_of t)) dues
      ∙ (ap (λ told. told ++ held_of script k (queue_of t)) (told_append script k r.due due)
      ∙ (ap (λ told. (told_of script k r.due ++ told) ++ held_of script k (queue_of t)) (quiet_told due none)
      ∙ (ap (λ told. told ++ held_of script k (queue_of t)) (append-nil (told_of script k r.due))
      ∙ ap (λ queue. told_of script k r.due ++ held_of script k queue) same))))

  -- what is told where nothing of it is told more
  quietly : (due : List Completion) (r t : ReactorHalf) → told_of script k due ≡ [] → t.due ≡ r.due ++ due →
      queue_of t ≡ queue_of r → total_of t ≡ total_of r
  quietly due r t none dues same =
      ap (λ due. told_of script k due ++ held_of script k (queue_of t)) dues
      ∙ (ap (λ told. told ++ held_of script k (queue_of t)) (told_append script k r.due due)
      ∙ (ap (λ told. (told_of script k r.due ++ told) ++ held_of script k (queue_of t)) none
      ∙ (ap (λ told. told ++ held_of script k (queue_of t)) (append-nil (told_of script k r.due))
      ∙ ap (λ queue. told_of script k r.due ++ held_of script k queue) same)))

  -- one stream changes, and what becomes due is of its operations
  module _ (j : ℕ) (due : List Completion) (queues : StreamQueues) (r t : ReactorHalf) (shape : IsShape script k (queue_of r))
      (lengths : length r.streams ≡ length r.queues) (dues : t.due ≡ r.due ++ due) (are : t.queues ≡ set r.queues j queues)
      (others : (i : ℕ) → i ≢ j → stream_at t.streams i ≡ stream_at r.streams i)
      (beyond : length r.streams ≤ j → t.streams ≡ r.streams) where
    -- another stream
    other_changes : All (IsHere script j) due → k ≢ j → Sends r t
    other_changes here apart =
        let same : queue_of t ≡ queue_of r =
        ap (λ (xs : List StreamQueues). (slice_index_or xs k no_queues).writes) are
        ∙ ap (λ (q : StreamQueues). q.writes) (get_or-set_other r.queues j k queues no_queues apart) in
        stays_sent r t (subst (IsShape script k) (sym same) shape) (ap (λ (s : Stream). s.sent) (others k apart))
        (quietly due r t (quiet_told due (elsewhere script false j k due (λ same. apart (sym same)) here)) dues same)

    -- the stream itself
    own_changes : (same : k ≡ j) (more : List ℕ) → (j < length r.streams → (stream_at t.streams j).sent ≡ sent_of r ++ more) →
        told_of script k due ++ held_of script k queues.writes ≡ held_of script k (queue_of r) ++ more →
        IsShape script k queues.writes → (length r.queues ≤ j → due ≡ []) → Sends r t
    own_changes same more sent total new past = elim (cases_lt j (length r.queues)) [
      | inl within ↦
          let queue : queue_of t ≡ queues.writes =
          ap (λ (xs : List StreamQueues). (slice_index_or xs k no_queues).writes) are
          ∙ (ap (λ i. (slice_index_or (set r.queues j queues) i no_queues).writes) same
          ∙ ap (λ (q : StreamQueues). q.writes) (get_or-set_same r.queues j queues no_queues within)) in
          record {
            more = more;
            sent = ap (λ i. (stream_at t.streams i).sent) same ∙ sent (omega (arith, within, lengths));
            total =
                ap (λ due. told_of script k due ++ held_of script k (queue_of t)) dues
                ∙ (ap (λ told. told ++ held_of script k (queue_of t)) (told_append script k r.due due)
                ∙ (ap (λ queue. (told_of script k r.due ++ told_of script k due) ++ held_of script k queue) queue
                ∙ (append_assoc (told_of script k r.due) (told_of script k due) (held_of script k queues.writes)
                ∙ (ap (λ bytes. told_of script k r.due ++ bytes) total
                ∙ sym (append_assoc (told_of script k r.due) (held_of script k (queue_of r)) more)))));
            shape = subst (IsShape script k) (sym queue) new;
          }
      | inr out ↦
          let kept : queue_of t ≡ queue_of r =
          ap (λ (xs : List StreamQueues). (slice_index_or xs k no_queues).writes) (are ∙ set_past r.queues j queues out) in
          stays_sent r t (subst (IsShape script k) (sym kept) shape)
          (ap (λ (xs : List Stream). (stream_at xs k).sent) (beyond (omega (arith, out, lengths))))
          (quietly due r t (ap (told_of script k) (past out)) dues kept)
    ]

  -- the queues of one stream change, and not what it has sent
  pub queues_keep : (j : ℕ) (due : List Completion) (queues : StreamQueues) (r t : ReactorHalf) → IsShape script k (queue_of r) →
      length r.streams ≡ length r.queues → All (IsHere script j) due → t.due ≡ r.due ++ due → t.queues ≡ set r.queues j queues →
      t.streams ≡ r.streams →
      (k ≡ j → told_of script k due ++ held_of script k queues.writes ≡ held_of script k (queue_of r)) →
      (k ≡ j → IsShape script k queues.writes) → (length r.queues ≤ j → due ≡ []) → Sends r t
  queues_keep j due queues r t shape lengths here dues are streams total new past =
      elim (cases_eq k j) [
        | inl same ↦
            own_changes j due queues r t shape lengths dues are others (λ out. streams) same []
            (λ within. ap (λ (xs : List Stream). (stream_at xs j).sent) streams ∙ (ap (λ i.
            (stream_at r.streams i).sent) (sym same)
            ∙ sym (append-nil (sent_of r))))
            (total same ∙ sym (append-nil (held_of script k (queue_of r)))) (new same) past
        | inr apart ↦ other_changes j due queues r t shape lengths dues are others (λ out. streams) here apart
      ]
    where
      others : (i : ℕ) → i ≢ j → stream_at t.streams i ≡ stream_at r.streams i
      others i apart = ap (λ (xs : List Stream). stream_at xs i) streams

  -- one stream and its queues change
  pub stream_sends : (j : ℕ) (due : List Completion) (queues : StreamQueues) (stream : Stream) (r t : ReactorHalf) →
      IsShape script k (queue_of r) → length r.streams ≡ length r.queues → All (IsHere script j) due → t.due ≡ r.due ++ due →
      t.queues ≡ set r.queues j queues → t.streams ≡ set r.streams j stream → (more : List ℕ) →
      (k ≡ j → stream.sent ≡ sent_of r ++ more) →
      (k ≡ j → told_of script k due ++ held_of script k queues.writes ≡ held_of script k (queue_of r) ++ more) →
      (k ≡ j → IsShape script k queues.writes) → (length r.queues ≤ j → due ≡ []) → Sends r t
  stream_sends j due queues stream r t shape lengths here dues are streams more sent total new past =
      elim (cases_eq k j) [
        | inl same ↦
            own_changes j due queues r t shape lengths dues are others beyond same more
            (λ within.
            ap (λ (xs : List Stream). (stream_at xs j).sent) streams
            ∙ (ap (λ (s : Stream). s.sent) (get_or-set_same r.streams j stream new_stream within) ∙ sent same))
            (total same) (new same) past
        | inr apart ↦ other_changes j due queues r t shape lengths dues are others beyond here apart
      ]
    where
      others : (i : ℕ) → i ≢ j → stream_at t.streams i ≡ stream_at r.streams i
      others i apart = ap (λ (xs : List Stream). stream_at xs i) streams ∙ get_or-set_other r.streams j i stream new_stream apart

      beyond : length r.streams ≤ j → t.streams ≡ r.streams
      beyond out = streams ∙ set_past r.streams j stream out

  -- no more than nothing is reported
  pub silent : (due : List Completion) → sizes_of due ≡ 0 → reports_of script false k due ≡ 0
  silent due none = let few = reports_few script false k due in omega (arith, few, none)

  pub here_is : (j : ℕ) (r : ReactorHalf) → k ≡ j → held_of script k (queues_at r j).writes ≡ held_of script k (queue_of r)
  here_is j r same = ap (λ i. held_of script k (queues_at r i).writes) (sym same)

  pub shape_here : (j : ℕ) (r : ReactorHalf) → k ≡ j → IsShape script k (queue_of r) → IsShape script k (queues_at r j).writes
  shape_here j r same shape = subst (λ (i : ℕ). IsShape script k (queues_at r i).writes) same shape

  pub read_sends : (op j : ℕ) (reading : Reading) (r : ReactorHalf) → IsFlowing script r → IsShape script k (queue_of r) →
      Sends r (read_accepted op j reading r)
  read_sends op j reading r is shape =
      let old : StreamQueues = queues_at r j in
      let new : StreamQueues = record old { reads = old.reads ++ new_pending op r.accepted reading ∷ [] } in
      cond_both old.closed (with_due (bad op ∷ []) r) (with_queues r j new) (Sends r)
      (λ closed. quiet_due (bad op ∷ []) r (with_due (bad op ∷ []) r) shape (silent (bad op ∷ []) refl) refl refl refl)
      (λ opened.
      queues_keep j [] new r (with_queues r j new) shape is.lengths (All-nil (IsHere script j)) (sym (append-nil r.due)) refl refl
      (λ same. here_is j r same) (λ same. shape_here j r same shape) (λ out. refl))

  pub write_sends : (op j : ℕ) (writing : Writing) (r : ReactorHalf) → is_write_of j (act_of script op) ≡ true →
      bytes_in (act_of script op) ≡ bytes_of writing → IsFlowing script r → IsShape script k (queue_of r) →
      Sends r (write_accepted op j writing r)
  write_sends op j writing r on bytes is shape =
      let old : StreamQueues = queues_at r j in
      let fresh = new_pending op r.accepted writing in
      let new : StreamQueues = record old { writes = old.writes ++ fresh ∷ [] } in
      cond_both old.closed (with_due (bad op ∷ []) r) (with_queues r j new) (Sends r)
      (λ closed. quiet_due (bad op ∷ []) r (with_due (bad op ∷ []) r) shape (silent (bad op ∷ []) refl) refl refl refl)
      (λ opened.
      queues_keep j [] new r (with_queues r j new) shape is.lengths (All-nil (IsHere script j)) (sym (append-nil r.due)) refl refl
      (λ same. push_held script k fresh old.writes refl ∙ here_is j r same)
      (λ same.
      push_shape script k fresh old.writes
      (record {
        of = subst (λ (i : ℕ). is_write_of i (act_of script op) ≡ true) (sym same) on;
        bytes = bytes;
        within = omega arith;
        at_once = starts writing;
      }) refl (shape_here j r same shape))
      (λ out. refl))
    where
      starts : (writing : Writing) → MovesAtOnce writing 0
      starts (Some_of bytes) = refl
      starts (All_of bytes) = tt

  -- operations of a stream are cancelled
  cancelled_here : (j : ℕ) (reads : List (Pending Reading)) (writes : List (Pending Writing)) →
      All (λ pending. is_read_of j (act_of script pending.op) ≡ true) reads →
      All (λ pending. is_write_of j (act_of script pending.op) ≡ true) writes →
      All (IsHere script j) (all_aborted reads) × All (IsHere script j) (all_aborted writes)
  cancelled_here j reads writes all_reads all_writes = (
    reads_here script j (all_aborted reads) (aborted_here script (λ n. is_read_of j (act_of script n) ≡ true) reads all_reads),
    writes_here script j (all_aborted writes)
        (aborted_here script (λ n. is_write_of j (act_of script n) ≡ true) writes all_writes),
  )

  reads_quiet : (reads : List (Pending Reading)) → All (λ pending. is_read_of k (act_of script pending.op) ≡ true) reads →
      told_of script k (all_aborted reads) ≡ []
  reads_quiet reads all =
      quiet_told (all_aborted reads)
      (reads_unwritten script k (all_aborted reads)
      (aborted_here script (λ n. is_read_of k (act_of script n) ≡ true) reads all))

  pub one_sends : (op j : ℕ) (r : ReactorHalf) → IsFlowing script r → IsShape script k (queue_of r) →
      Sends r (one_of_stream_cancelled op j r)
  one_sends op j r is shape =
      let old : StreamQueues = queues_at r j in
      let of = is.queues j in
      let reads = filter (is_of op) old.reads in
      let writes = filter (is_of op) old.writes in
      let all_reads = All-filter (is_of op) (λ (pending : Pending Reading). is_read_of j
      (act_of script pending.op) ≡ true) old.reads
      of.reads in
      let all_writes = All-filter (is_of op) (λ (pending : Pending Writing). is_write_of j (act_of script pending.op) ≡ true)
      old.writes of.writes in
      let both = cancelled_here j reads writes all_reads all_writes in
      let new : StreamQueues = record old {
        reads = filter (λ pending. not (is_of op pending)) old.reads;
        writes = filter (λ pending. not (is_of op pending)) old.writes;
      } in
      queues_keep j (all_aborted reads ++ all_aborted writes) new r (one_of_stream_cancelled op j r) shape is.lengths
      (All-append (IsHere script j) (all_aborted reads) (all_aborted writes) both.0 both.1) refl refl refl
      (λ same.
      ap (λ told. told ++ held_of script k new.writes) (told_append script k (all_aborted reads) (all_aborted writes))
      ∙ (ap (λ told. (told ++ told_of script k (all_aborted writes)) ++ held_of script k new.writes)
      (reads_quiet reads
      (subst (λ (i : ℕ). All (λ (pending : Pending Reading). is_read_of i (act_of script pending.op) ≡ true) reads) (sym same)
      all_reads))
      ∙ (filter_told script k (is_of op) old.writes (shape_here j r same shape) ∙ here_is j r same)))
      (λ same. filter_shape script k (λ pending. not (is_of op pending)) old.writes (shape_here j r same shape))
      (λ out.
      ap (λ (q : StreamQueues). all_aborted (filter (is_of op) q.reads) ++ all_aborted (filter (is_of op) q.writes))
      (get_or_past r.queues j no_queues out))

  -- a stream is closed
  with_writes_told : (accepted : ℕ) (read : Completion) (later : List (Pending Writing) → List Completion) →
      written_of script k read.op read.outcome.1 ≡ [] →
      ((rest : List (Pending Writing)) → told_of script k (later rest) ≡ told_of script k (all_aborted rest)) →
      (writes : List (Pending Writing)) →
      told_of script k (with_writes accepted read later writes) ≡ told_of script k (all_aborted writes)
  with_writes_told accepted read later none rest [] = ap (λ told. told ++ told_of script k (later [])) none ∙ rest []
  with_writes_told accepted read later none rest (write ∷ writes) =
      cond_both (nat_lt accepted write.accepted) (read ∷ later (write ∷ writes))
      (aborted write.op write.moved ∷ with_writes accepted read later writes)
      (λ due. told_of script k due ≡ told_of script k (all_aborted (write ∷ writes)))
      (λ is. ap (λ told. told ++ told_of script k (later (write ∷ writes))) none ∙ rest (write ∷ writes))
      (λ is.
      ap (λ told. written_of script k write.op write.moved ++ told) (with_writes_told accepted read later none rest writes))

  stream_told : (reads : List (Pending Reading)) (writes : List (Pending Writing)) →
      All (λ pending. is_read_of k (act_of script pending.op) ≡ true) reads →
      told_of script k (all_of_stream reads writes) ≡ told_of script k (all_aborted writes)
  stream_told [] writes all = refl
  stream_told (read ∷ reads) writes all =
      let IsRead : Pending Reading → Type 0 = λ pending. is_read_of k (act_of script pending.op) ≡ true in
      with_writes_told read.accepted (aborted read.op read.moved) (all_of_stream reads)
      (ap (λ b. cond b (take read.moved (bytes_in (act_of script read.op))) [])
      (read_no_write k k (act_of script read.op) (All-head IsRead read reads all)))
      (λ rest. stream_told reads rest (All-tail IsRead read reads all)) writes

  pub shut_sends : (j : ℕ) (r : ReactorHalf) → IsFlowing script r → IsShape script k (queue_of r) → Sends r (shut_at j r)
  shut_sends j r is shape =
      let old : StreamQueues = queues_at r j in
      let of = is.queues j in
      let both = cancelled_here j old.reads old.writes of.reads of.writes in
      let new : StreamQueues = record { closed = true; reads = []; writes = [] } in
      stream_sends j (all_of_stream old.reads old.writes) new (closed_stream (stream_at r.streams j)) r (shut_at j r) shape
      is.lengths (stream_all (IsHere script j) old.reads old.writes both.0 both.1) refl refl refl []
      (λ same. ap (λ i. (stream_at r.streams i).sent) (sym same) ∙ sym (append-nil (sent_of r)))
      (λ same.
      append-nil (told_of script k (all_of_stream old.reads old.writes))
      ∙ (stream_told old.reads old.writes
      (subst (λ (i : ℕ). All (λ (pending : Pending Reading). is_read_of i (act_of script pending.op) ≡ true) old.reads) (sym same)
      of.reads)
      ∙ (aborted_told script k old.writes ∙ (here_is j r same ∙ sym (append-nil (held_of script k (queue_of r)))))))
      (λ same. record { each = All-nil (IsWrite script k); fresh = All-nil (IsUnmoved script k) })
      (λ out. ap (λ (q : StreamQueues). all_of_stream q.reads q.writes) (get_or_past r.queues j no_queues out))
