-- As the reactor turns, what the operations of a stream have moved and what is left there doesn't rise.
use Rattle.std.proofs.Common.{◌≡◌, ◌≢◌, ℕ, ◌+◌, ◌<◌, ◌≤◌, Bool, true, false, cond, not, List, [], ◌∷◌, ◌++◌, Option, Some, None, filter, length, map, set, inl, inr, refl, sym, ap, subst, ◌∙◌, arith}
use Rattle.std.specs.List.{All, slice_index_or}
use Rattle.std.proofs.lemmas.Bool.{cases_eq, cases_lt, cond_both}
use Rattle.std.proofs.lemmas.List.{append-nil, get_or-set_same, get_or-set_other, get_or_past, length-set, set_past}
use Rattle.std.proofs.lemmas.List.Elements.{All-append, All-cons, All-filter, All-head, All-nil, All-push, All-tail}
use Rattle.std.proofs.lemmas.List.Filters.{sum_by-filter_both}
use Rattle.std.proofs.lemmas.List.Sums.{sum_by-append, sum_by-cons, sum_by_push}
use Rattle.session_script.specs.Script.{ScriptModel, act_of}
use Rattle.stream_rules.specs.declared.queue.Completion.{Completion}
use Rattle.stream_rules.specs.Queue.{Pending}
use Rattle.stream_rules.specs.Serving.{Reading, Writing}
use Rattle.stream_rules.specs.Stream.{Stream, new_stream}
use Rattle.stream_rules.specs.World.{stream_at}
use Rattle.history_rules.specs.Performing.{aborted, all_aborted, bad, connected, is_of, new_pending, one_of_stream_cancelled, queues_at, read_accepted, waits_cancelled, with_due, with_queues, write_accepted}
use Rattle.history_rules.specs.State.{ReactorHalf, StreamQueues, no_queues}
use Rattle.history_rules.specs.declared.wait.Wait.{Wait}
use Rattle.history_laws.specs.Streams.{is_read_of, is_write_of}
use Rattle.history_laws.proofs.BytesLemmas.{IsHere, IsQueueOf, elsewhere, moved_on, reads_unwritten, report_of, reports_few, reports_of, sum_map, there_of, writes_unread}
use Rattle.history_laws.proofs.FlowLemmas.{moved_of, size_of, sizes_of}
use Rattle.history_laws.proofs.HeldLemmas.{at_queues}

-- what the operations of a side hold, and what is there for them while the stream is open
abbrev pub held_by : Bool → StreamQueues → Stream → ℕ
held_by side queues stream = moved_on side queues + cond queues.closed 0 (there_of side stream)

pub no_sizes : {X : Type 0} (f : X → Completion) (xs : List X) → ((x : X) → size_of (f x) ≡ 0) → sizes_of (map f xs) ≡ 0
no_sizes f [] none = refl
no_sizes f (x ∷ xs) none = omega (arith, sum_by-cons size_of (f x) (map f xs), none x, no_sizes f xs none)

module _ (script : ScriptModel) where
  abbrev pub used_by : Bool → ℕ → List Completion → StreamQueues → Stream → ℕ
  used_by side k due queues stream = reports_of script side k due + held_by side queues stream

  -- what is to be reported of a side, what its operations hold, and what is there
  abbrev pub used : Bool → ℕ → ReactorHalf → ℕ
  used side k r = used_by side k r.due (queues_at r k) (stream_at r.streams k)

  pub record IsFlowing (r : ReactorHalf) : Type 0 where
    pub lengths : length r.streams ≡ length r.queues
    pub queues : (k : ℕ) → IsQueueOf script k (queues_at r k)

  pub record Flows (r t : ReactorHalf) : Type 0 where
    pub flowing : IsFlowing t
    pub less : (side : Bool) (k : ℕ) → used side k t ≤ used side k r

  pub flows_both : (r t u : ReactorHalf) → Flows r t → Flows t u → Flows r u
  flows_both r t u first second = record {
    flowing = second.flowing;
    less = λ side k. omega (arith, first.less side k, second.less side k);
  }

  pub flows_if : (r first second : ReactorHalf) (b : Bool) → Flows r first → Flows r second → Flows r (cond b first second)
  flows_if r first second true one two = one
  flows_if r first second false one two = two

  pub as_it_was : (r : ReactorHalf) → IsFlowing r → Flows r r
  as_it_was r is = record { flowing = is; less = λ side k. omega arith }

  -- more is due, none of which reports a byte
  pub more_due : (due : List Completion) (r t : ReactorHalf) → IsFlowing r → sizes_of due ≡ 0 → t.due ≡ r.due ++ due →
      t.queues ≡ r.queues → t.streams ≡ r.streams → Flows r t
  more_due due r t is none dues queues streams = record {
    flowing = record {
      lengths = ap length streams ∙ (is.lengths ∙ sym (ap length queues));
      queues = λ k.
          subst (λ (queues : List StreamQueues). IsQueueOf script k (slice_index_or queues k no_queues))
          (sym queues) (is.queues k);
    };
    less = λ side k.
        let sum = sum_by-append (report_of script side k) r.due due in
        let few = reports_few script side k due in
        let first = ap (reports_of script side k) dues in
        let second = ap (λ (queues : List StreamQueues). held_by side (slice_index_or queues k no_queues) (stream_at t.streams k))
        queues in
        let third = ap (λ (streams : List Stream). held_by side (queues_at r k) (stream_at streams k)) streams in
        omega (arith, sum, few, none, first, second, third);
  }

  -- one stream changes: its queues, what is there, and what becomes due of its operations
  module _ (j : ℕ) (due : List Completion) (queues : StreamQueues) (stream : Stream) (r t : ReactorHalf) (is : IsFlowing r)
      (here : All (IsHere script j) due) (of : IsQueueOf script j queues)
      (flows : (side : Bool) →
      reports_of script side j due + held_by side queues stream ≤ held_by side (queues_at r j) (stream_at r.streams j))
      (dues : t.due ≡ r.due ++ due) (are : t.queues ≡ set r.queues j queues) (long : length t.streams ≡ length r.streams)
      (others : (k : ℕ) → k ≢ j → stream_at t.streams k ≡ stream_at r.streams k)
      (it : j < length r.streams → stream_at t.streams j ≡ stream) where
    same_used : (side : Bool) (k : ℕ) (q : StreamQueues) (s : Stream) → queues_at t k ≡ q → stream_at t.streams k ≡ s →
        used side k t ≡ reports_of script side k r.due + reports_of script side k due + held_by side q s
    same_used side k q s is_q is_s =
        let sum = sum_by-append (report_of script side k) r.due due in
        let first = ap (reports_of script side k) dues in
        let second = ap (λ (q : StreamQueues). held_by side q (stream_at t.streams k)) is_q in
        let third = ap (λ (s : Stream). held_by side q s) is_s in
        omega (arith, sum, first, second, third)

    less_here : (side : Bool) → used side j t ≤ used side j r
    less_here side = elim (cases_lt j (length r.queues)) [
      | inl within ↦
          let same = same_used side j queues stream
          (ap (λ (xs : List StreamQueues). slice_index_or xs j no_queues) are
          ∙ get_or-set_same r.queues j queues no_queues within)
          (it (omega (arith, within, is.lengths))) in
          omega (arith, same, flows side)
      | inr past ↦
          let gone : stream_at t.streams j ≡ new_stream =
          get_or_past t.streams j new_stream (omega (arith, past, long, is.lengths)) in
          let was : stream_at r.streams j ≡ new_stream = get_or_past r.streams j new_stream (omega (arith, past, is.lengths)) in
          let none : queues_at r j ≡ no_queues = get_or_past r.queues j no_queues past in
          let still : queues_at t j ≡ no_queues =
          ap (λ (xs : List StreamQueues). slice_index_or xs j no_queues) (are ∙ set_past r.queues j queues past) ∙ none in
          let same = same_used side j no_queues new_stream still gone in
          let before = ap (λ (q : StreamQueues). held_by side q (stream_at r.streams j)) none in
          let there = ap (λ (s : Stream). held_by side no_queues s) was in
          omega (arith, same, before, there, flows side, nothing side)
    ]
      where
        nothing : (side : Bool) → held_by side no_queues new_stream ≡ 0
        nothing true = refl
        nothing false = refl

    less_other : (side : Bool) (k : ℕ) → k ≢ j → used side k t ≤ used side k r
    less_other side k apart =
        let same = same_used side k (queues_at r k) (stream_at r.streams k)
        (ap (λ (xs : List StreamQueues). slice_index_or xs k no_queues) are
        ∙ get_or-set_other r.queues j k queues no_queues apart)
        (others k apart) in
        let none = elsewhere script side j k due (λ same. apart (sym same)) here in
        omega (arith, same, none)

    pub one_changes : Flows r t
    one_changes = record {
      flowing = record {
        lengths = long ∙ (is.lengths ∙ sym (ap length are ∙ length-set r.queues j queues));
        queues = λ k.
            subst (λ (xs : List StreamQueues). IsQueueOf script k (slice_index_or xs k no_queues)) (sym are)
            (at_queues (IsQueueOf script) r.queues j queues of is.queues k);
      };
      less = λ side k. elim (cases_eq k j) [
        | inl same ↦ subst (λ (k : ℕ). used side k t ≤ used side k r) (sym same) (less_here side)
        | inr apart ↦ less_other side k apart
      ];
    }

  -- only the queues of a stream change
  pub queues_change : (j : ℕ) (due : List Completion) (queues : StreamQueues) (r t : ReactorHalf) → IsFlowing r →
      All (IsHere script j) due → IsQueueOf script j queues →
      ((side : Bool) →
      reports_of script side j due + held_by side queues (stream_at r.streams j)
      ≤ held_by side (queues_at r j) (stream_at r.streams j)) →
      t.due ≡ r.due ++ due → t.queues ≡ set r.queues j queues → t.streams ≡ r.streams → Flows r t
  queues_change j due queues r t is here of flows dues are streams =
      one_changes j due queues (stream_at r.streams j) r t is here of flows dues are (ap length streams)
      (λ k apart. ap (λ (xs : List Stream). stream_at xs k) streams) (λ within. ap (λ (xs : List Stream). stream_at xs j) streams)

  -- and what is there, too
  pub stream_changes : (j : ℕ) (due : List Completion) (queues : StreamQueues) (stream : Stream)
      (r t : ReactorHalf) → IsFlowing r →
      All (IsHere script j) due → IsQueueOf script j queues →
      ((side : Bool) →
      reports_of script side j due + held_by side queues stream ≤ held_by side (queues_at r j) (stream_at r.streams j)) →
      t.due ≡ r.due ++ due → t.queues ≡ set r.queues j queues → t.streams ≡ set r.streams j stream → Flows r t
  stream_changes j due queues stream r t is here of flows dues are streams =
      one_changes j due queues stream r t is here of flows dues are
      (ap length streams ∙ length-set r.streams j stream)
      (λ k apart.
      ap (λ (xs : List Stream). stream_at xs k) streams ∙ get_or-set_other r.streams j k stream new_stream apart)
      (λ within. ap (λ (xs : List Stream). stream_at xs j) streams ∙ get_or-set_same r.streams j stream new_stream within)

  -- waits are cancelled
  pub waits_flow : (test : Wait → Bool) (r : ReactorHalf) → IsFlowing r → Flows r (waits_cancelled test r)
  waits_flow test r is =
      more_due (map (λ (wait : Wait). aborted wait.op 0) (filter test r.waits)) r (waits_cancelled test r) is
      (no_sizes (λ (wait : Wait). aborted wait.op 0) (filter test r.waits) (λ wait. refl)) refl refl refl

  pub connects_flow : (slot : Option ℕ) (op : ℕ) (r t : ReactorHalf) → Flows r t → Flows r (connected slot op t)
  connects_flow None op r t flows = flows
  connects_flow (Some slot) op r t flows = record {
    flowing = record { lengths = flows.flowing.lengths; queues = flows.flowing.queues };
    less = flows.less;
  }

  pub read_flow : (op stream : ℕ) (reading : Reading) (r : ReactorHalf) → is_read_of stream (act_of script op) ≡ true →
      IsFlowing r → Flows r (read_accepted op stream reading r)
  read_flow op stream reading r on is =
      let old : StreamQueues = queues_at r stream in
      let new = new_pending op r.accepted reading in
      let of = is.queues stream in
      cond_both old.closed (with_due (bad op ∷ []) r) (with_queues r stream (record old { reads = old.reads ++ new ∷ [] }))
      (Flows r)
      (λ closed. more_due (bad op ∷ []) r (with_due (bad op ∷ []) r) is refl refl refl refl)
      (λ opened.
      queues_change stream [] (record old { reads = old.reads ++ new ∷ [] }) r
      (with_queues r stream (record old { reads = old.reads ++ new ∷ [] })) is (All-nil (IsHere script stream))
      (record {
        reads =
            All-push (λ (pending : Pending Reading). is_read_of stream (act_of script pending.op) ≡ true) old.reads new
            of.reads on;
        writes = of.writes;
        shut = λ closed. absurd (let wrong : true ≡ false = sym closed ∙ opened in cc);
      })
      (by_side old new refl) (sym (append-nil r.due)) refl refl)
    where
      by_side : (old : StreamQueues) (new : Pending Reading) → new.moved ≡ 0 → (side : Bool) →
          reports_of script side stream [] + held_by side (record old { reads = old.reads ++ new ∷ [] })
          (stream_at r.streams stream)
          ≤ held_by side old (stream_at r.streams stream)
      by_side old new none true =
          let sum = sum_by_push (λ (pending : Pending Reading). pending.moved) old.reads new in omega (arith, sum, none)
      by_side old new none false = omega arith

  pub write_flow : (op stream : ℕ) (writing : Writing) (r : ReactorHalf) → is_write_of stream (act_of script op) ≡ true →
      IsFlowing r → Flows r (write_accepted op stream writing r)
  write_flow op stream writing r on is =
      let old : StreamQueues = queues_at r stream in
      let new = new_pending op r.accepted writing in
      let of = is.queues stream in
      cond_both old.closed (with_due (bad op ∷ []) r) (with_queues r stream (record old { writes = old.writes ++ new ∷ [] }))
      (Flows r)
      (λ closed. more_due (bad op ∷ []) r (with_due (bad op ∷ []) r) is refl refl refl refl)
      (λ opened.
      queues_change stream [] (record old { writes = old.writes ++ new ∷ [] }) r
      (with_queues r stream (record old { writes = old.writes ++ new ∷ [] })) is (All-nil (IsHere script stream))
      (record {
        reads = of.reads;
        writes =
            All-push (λ (pending : Pending Writing). is_write_of stream (act_of script pending.op) ≡ true) old.writes new
            of.writes on;
        shut = λ closed. absurd (let wrong : true ≡ false = sym closed ∙ opened in cc);
      })
      (by_side old new refl) (sym (append-nil r.due)) refl refl)
    where
      by_side : (old : StreamQueues) (new : Pending Writing) → new.moved ≡ 0 → (side : Bool) →
          reports_of script side stream [] + held_by side (record old { writes = old.writes ++ new ∷ [] })
          (stream_at r.streams stream)
          ≤ held_by side old (stream_at r.streams stream)
      by_side old new none true = omega arith
      by_side old new none false =
          let sum = sum_by_push (λ (pending : Pending Writing). pending.moved) old.writes new in omega (arith, sum, none)

  -- what is cancelled of a queue
  pub aborted_here : {Asks : Type 0} (P : ℕ → Type 0) (queue : List (Pending Asks)) →
      All (λ (pending : Pending Asks). P pending.op) queue → All (λ (done : Completion). P done.op) (all_aborted queue)
  aborted_here {Asks} P [] all = All-nil (λ (done : Completion). P done.op)
  aborted_here {Asks} P (head ∷ queue) all =
      All-cons (λ (done : Completion). P done.op) (aborted head.op head.moved) (all_aborted queue)
      (All-head (λ (pending : Pending Asks). P pending.op) head queue all)
      (aborted_here P queue (All-tail (λ (pending : Pending Asks). P pending.op) head queue all))

  aborted_sizes : {Asks : Type 0} (queue : List (Pending Asks)) → sizes_of (all_aborted queue) ≡ moved_of queue
  aborted_sizes {Asks} queue = sum_map size_of (λ (pending : Pending Asks). aborted pending.op pending.moved) queue

  pub reads_here : (j : ℕ) (due : List Completion) →
      All (λ (done : Completion). is_read_of j (act_of script done.op) ≡ true) due →
      All (IsHere script j) due
  reads_here j [] all = All-nil (IsHere script j)
  reads_here j (done ∷ due) all =
      let P : Completion → Type 0 = λ done. is_read_of j (act_of script done.op) ≡ true in
      All-cons (IsHere script j) done due (inl (All-head P done due all)) (reads_here j due (All-tail P done due all))

  pub writes_here : (j : ℕ) (due : List Completion) →
      All (λ (done : Completion). is_write_of j (act_of script done.op) ≡ true) due →
      All (IsHere script j) due
  writes_here j [] all = All-nil (IsHere script j)
  writes_here j (done ∷ due) all =
      let P : Completion → Type 0 = λ done. is_write_of j (act_of script done.op) ≡ true in
      All-cons (IsHere script j) done due (inr (All-head P done due all)) (writes_here j due (All-tail P done due all))

  -- what is cancelled of a stream reports what it has moved
  pub aborted_few : (j : ℕ) (reads : List (Pending Reading)) (writes : List (Pending Writing)) →
      All (λ pending. is_read_of j (act_of script pending.op) ≡ true) reads →
      All (λ pending. is_write_of j (act_of script pending.op) ≡ true) writes →
      (reports_of script true j (all_aborted reads) + reports_of script true j (all_aborted writes) ≤ moved_of reads)
      × (reports_of script false j (all_aborted reads) + reports_of script false j (all_aborted writes) ≤ moved_of writes)
  aborted_few j reads writes are_reads are_writes =
      let no_reads = reads_unwritten script j (all_aborted reads)
      (aborted_here (λ n. is_read_of j (act_of script n) ≡ true) reads are_reads) in
      let no_writes = writes_unread script j (all_aborted writes)
      (aborted_here (λ n. is_write_of j (act_of script n) ≡ true) writes are_writes) in (
        omega (arith, no_writes, reports_few script true j (all_aborted reads), aborted_sizes reads),
        omega (arith, no_reads, reports_few script false j (all_aborted writes), aborted_sizes writes),
      )

  pub one_flow : (op j : ℕ) (r : ReactorHalf) → IsFlowing r → Flows r (one_of_stream_cancelled op j r)
  one_flow op j r is =
      let old : StreamQueues = queues_at r j in
      let of = is.queues j in
      let IsRead : Pending Reading → Type 0 = λ pending. is_read_of j (act_of script pending.op) ≡ true in
      let IsWrite : Pending Writing → Type 0 = λ pending. is_write_of j (act_of script pending.op) ≡ true in
      let reads = filter (is_of op) old.reads in
      let writes = filter (is_of op) old.writes in
      let new : StreamQueues = record old {
        reads = filter (λ pending. not (is_of op pending)) old.reads;
        writes = filter (λ pending. not (is_of op pending)) old.writes;
      } in
      let are_reads = All-filter (is_of op) IsRead old.reads of.reads in
      let are_writes = All-filter (is_of op) IsWrite old.writes of.writes in
      let few = aborted_few j reads writes are_reads are_writes in
      let all_reads = sum_by-filter_both (is_of op) (λ pending. not (is_of op pending)) (λ x. refl)
      (λ (pending : Pending Reading). pending.moved) old.reads in
      let all_writes = sum_by-filter_both (is_of op) (λ pending. not (is_of op pending)) (λ x. refl)
      (λ (pending : Pending Writing). pending.moved) old.writes in
      queues_change j (all_aborted reads ++ all_aborted writes) new r (one_of_stream_cancelled op j r) is
      (All-append (IsHere script j) (all_aborted reads) (all_aborted writes)
      (reads_here j (all_aborted reads) (aborted_here (λ n. is_read_of j (act_of script n) ≡ true) reads are_reads))
      (writes_here j (all_aborted writes) (aborted_here (λ n. is_write_of j (act_of script n) ≡ true) writes are_writes)))
      (record {
        reads = All-filter (λ pending. not (is_of op pending)) IsRead old.reads of.reads;
        writes = All-filter (λ pending. not (is_of op pending)) IsWrite old.writes of.writes;
        shut = λ closed. (
          ap (filter (λ pending. not (is_of op pending))) (of.shut closed).0,
          ap (filter (λ pending. not (is_of op pending))) (of.shut closed).1,
        );
      })
      (by_side reads writes new few.0 few.1 (omega (arith, all_reads)) (omega (arith, all_writes))) refl refl refl
    where
      by_side : (reads : List (Pending Reading)) (writes : List (Pending Writing)) (new : StreamQueues) →
          reports_of script true j (all_aborted reads) + reports_of script true j (all_aborted writes) ≤ moved_of reads →
          reports_of script false j (all_aborted reads) + reports_of script false j (all_aborted writes) ≤ moved_of writes →
          moved_of reads + held_by true new (stream_at r.streams j) ≤ held_by true (queues_at r j) (stream_at r.streams j) →
          moved_of writes + held_by false new (stream_at r.streams j) ≤ held_by false (queues_at r j) (stream_at r.streams j) →
          (side : Bool) →
          reports_of script side j (all_aborted reads ++ all_aborted writes) + held_by side new (stream_at r.streams j)
          ≤ held_by side (queues_at r j) (stream_at r.streams j)
      by_side reads writes new first second third fourth true =
          omega (arith, first, third, sum_by-append (report_of script true j) (all_aborted reads) (all_aborted writes))
      by_side reads writes new first second third fourth false =
          omega (arith, second, fourth, sum_by-append (report_of script false j) (all_aborted reads) (all_aborted writes))
