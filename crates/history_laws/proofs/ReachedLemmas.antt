-- What a cancelling act reaches is to be aborted, and nothing else of it is pending.
use Rattle.std.proofs.Common.{◌≡◌, ◌≢◌, ℕ, ◌==◌, Bool, true, false, cond, not, List, [], ◌++◌, Option, Some, None, filter, length, set, inl, inr, refl, sym, ap, subst, ◌∙◌}
use Rattle.std.specs.List.{All, slice_index_or}
use Rattle.std.proofs.lemmas.Bool.{cases_eq, cases_lt, cond_both, not-true}
use Rattle.std.proofs.lemmas.List.{get_or-set_same, get_or-set_other, get_or_past, set_past}
use Rattle.std.proofs.lemmas.List.Elements.{All-append, All-map, All-nil, All-weaker}
use Rattle.asio_types.specs.declared.event.Event.{Event}
use Rattle.session_script.specs.declared.act.Act.{Act}
use Rattle.session_script.specs.declared.act.Act.TheVariants as act
use Rattle.session_script.specs.Script.{ScriptModel, act_of}
use Rattle.stream_rules.specs.Queue.{Pending}
use Rattle.stream_rules.specs.Serving.{Reading, Writing}
use Rattle.history_rules.specs.Kinds.{slot_of, stream_of}
use Rattle.history_rules.specs.Performing.{aborted, all_aborted, all_of_stream, closed_at, emitted_to, is_of, is_reached, is_wait_for, one_of_stream_cancelled, operation_cancelled, queues_at, shut_at, waits_cancelled}
use Rattle.history_rules.specs.State.{ReactorHalf, StreamQueues, no_queues}
use Rattle.history_rules.specs.declared.wait.Wait.{Wait}
use Rattle.history_rules.proofs.PerformingLemmas.{All-passing}
use Rattle.history_laws.specs.Clock.{IsWaitOf}
use Rattle.history_laws.proofs.CountLemmas.{same-is}
use Rattle.history_laws.proofs.HeededLemmas.{AbortsOnly, IsAborting, IsOther, OtherStreamed, OtherTimed, waits_gone}
use Rattle.history_laws.proofs.HeldLemmas.{AreQueued, IsOn}
use Rattle.history_laws.proofs.KeptLemmas.{IsKept, Streamed, Timed, no_wait}
use Rattle.history_laws.proofs.ShutLemmas.{IsShut}
use Rattle.history_laws.proofs.TurningLemmas.{stream_all}

one_stream : (script : ScriptModel) (j k n : ℕ) → IsOn script j n → IsOn script k n → j ≡ k
one_stream script j k n one two =
    let same : Some one.act ≡ Some two.act = sym one.is ∙ two.is in
    let it : one.act ≡ two.act = cc in
    let both : Some j ≡ Some k = sym one.on ∙ (ap stream_of it ∙ two.on) in
    cc

module _ (script : ScriptModel) (n : ℕ) (before : List Event) where
  -- an operation of a stream that is in none of its queues
  module _ (stream : ℕ) (on : IsOn script stream n) (r u : ReactorHalf) (kept : IsKept script before r)
      (due : All (AbortsOnly n) u.due) (waits : u.waits ≡ r.waits)
      (others : (k : ℕ) → k ≢ stream → queues_at u k ≡ queues_at r k)
      (here : AreQueued (OtherStreamed script n) stream (queues_at u stream)) where
    elsewhere : (k : ℕ) → k ≢ stream → AreQueued (OtherStreamed script n) k (queues_at u k)
    elsewhere k apart =
        subst (AreQueued (OtherStreamed script n) k) (sym (others k apart)) (
          All-weaker (λ (pending : Pending Reading). Streamed script before k pending.op)
              (λ pending. OtherStreamed script n k pending.op)
              (λ pending of. (of.0, not_it pending.op of.0)) (queues_at r k).reads (kept.held.queues k).0,
          All-weaker (λ (pending : Pending Writing). Streamed script before k pending.op)
              (λ pending. OtherStreamed script n k pending.op)
              (λ pending of. (of.0, not_it pending.op of.0)) (queues_at r k).writes (kept.held.queues k).1,
        )
      where
        not_it : (op : ℕ) → IsOn script k op → IsOther n op
        not_it op of same = apart (one_stream script k stream n (subst (IsOn script k) same of) on)

    stream_aborts : IsAborting script n u
    stream_aborts = record {
      held = record {
        waits =
            subst (λ (waits : List Wait). All (λ wait. OtherTimed script n wait.timer wait.op) waits) (sym waits)
            (All-weaker (λ (wait : Wait). Timed script before wait.timer wait.op)
            (λ wait. OtherTimed script n wait.timer wait.op)
            (λ wait of. (
              of.0,
              λ same. no_wait script stream wait.timer n on (subst (IsWaitOf script wait.timer) same of.0),
            )) r.waits kept.held.waits);
        queues = λ k. elim (cases_eq k stream) [
          | inl same ↦ subst (λ (k : ℕ). AreQueued (OtherStreamed script n) k (queues_at u k)) (sym same) here
          | inr apart ↦ elsewhere k apart
        ];
      };
      due = due;
    }

  -- what a set queue is
  set_here : (R : StreamQueues → Type 0) (queues : List StreamQueues) (stream : ℕ) (new : StreamQueues) → R new → R no_queues →
      R (slice_index_or (set queues stream new) stream no_queues)
  set_here R queues stream new is none = elim (cases_lt stream (length queues)) [
    | inl within ↦ subst R (sym (get_or-set_same queues stream new no_queues within)) is
    | inr past ↦
        subst R (sym (ap (λ (xs : List StreamQueues). slice_index_or xs stream no_queues) (set_past queues stream new past)
        ∙ get_or_past queues stream no_queues past)) none
  ]

  nothing : (stream : ℕ) → AreQueued (OtherStreamed script n) stream no_queues
  nothing stream = (
    All-nil (λ (pending : Pending Reading). OtherStreamed script n stream pending.op),
    All-nil (λ (pending : Pending Writing). OtherStreamed script n stream pending.op),
  )

  abort_all : {Asks : Type 0} (queue : List (Pending Asks)) → All (AbortsOnly n) (all_aborted queue)
  abort_all {Asks} queue =
      All-map (AbortsOnly n) (λ (pending : Pending Asks). aborted pending.op pending.moved) queue (λ k d within same. refl)

  abort_stream : (reads : List (Pending Reading)) (writes : List (Pending Writing)) →
      All (AbortsOnly n) (all_of_stream reads writes)
  abort_stream reads writes = stream_all (AbortsOnly n) reads writes (abort_all reads) (abort_all writes)

  -- a stream is closed
  pub close_aborts : (stream : ℕ) (r : ReactorHalf) → IsOn script stream n → IsKept script before r → r.due ≡ [] → IsShut r →
      IsAborting script n (closed_at stream r)
  close_aborts stream r on kept none shut =
      let due : All (AbortsOnly n) r.due = subst (All (AbortsOnly n)) (sym none) (All-nil (AbortsOnly n)) in
      let old = queues_at r stream in
      cond_both old.closed r (shut_at stream r) (IsAborting script n)
      (λ closed.
      let empty = shut stream closed in
      stream_aborts stream on r r kept due refl (λ k apart. refl) (
        subst (λ (queue : List (Pending Reading)). All (λ pending. OtherStreamed script n stream pending.op) queue) (sym empty.0)
            (nothing stream).0,
        subst (λ (queue : List (Pending Writing)). All (λ pending. OtherStreamed script n stream pending.op) queue) (sym empty.1)
            (nothing stream).1,
      ))
      (λ opened.
      stream_aborts stream on r (shut_at stream r) kept
      (All-append (AbortsOnly n) r.due (all_of_stream old.reads old.writes) due (abort_stream old.reads old.writes)) refl
      (λ k apart. get_or-set_other r.queues stream k (record { closed = true; reads = []; writes = [] }) no_queues apart)
      (set_here (AreQueued (OtherStreamed script n) stream) r.queues stream (record { closed = true; reads = []; writes = [] })
      (nothing stream) (nothing stream)))

  -- one operation of a stream is cancelled
  one_aborts : (stream : ℕ) (r : ReactorHalf) → IsOn script stream n → IsKept script before r → r.due ≡ [] →
      IsAborting script n (one_of_stream_cancelled n stream r)
  one_aborts stream r on kept none =
      let due : All (AbortsOnly n) r.due = subst (All (AbortsOnly n)) (sym none) (All-nil (AbortsOnly n)) in
      let old = queues_at r stream in
      let new : StreamQueues = record old {
        reads = filter (λ pending. not (is_of n pending)) old.reads;
        writes = filter (λ pending. not (is_of n pending)) old.writes;
      } in
      stream_aborts stream on r (one_of_stream_cancelled n stream r) kept
      (All-append (AbortsOnly n) r.due (all_aborted (filter (is_of n) old.reads) ++ all_aborted (filter (is_of n) old.writes)) due
      (All-append (AbortsOnly n) (all_aborted (filter (is_of n) old.reads)) (all_aborted (filter (is_of n) old.writes))
      (abort_all (filter (is_of n) old.reads)) (abort_all (filter (is_of n) old.writes)))) refl
      (λ k apart. get_or-set_other r.queues stream k new no_queues apart)
      (set_here (AreQueued (OtherStreamed script n) stream) r.queues stream new
      (left old.reads (kept.held.queues stream).0, left old.writes (kept.held.queues stream).1) (nothing stream))
    where
      left : {Asks : Type 0} (queue : List (Pending Asks)) → All (λ pending. Streamed script before stream pending.op) queue →
          All (λ pending. OtherStreamed script n stream pending.op) (filter (λ pending. not (is_of n pending)) queue)
      left {Asks} queue all =
          All-passing (λ pending. not (is_of n pending)) (λ (pending : Pending Asks). Streamed script before stream pending.op)
          (λ pending. OtherStreamed script n stream pending.op) queue
          (λ pending of passes. (
            of.0,
            λ same.
                let here : (pending.op == n) ≡ true = ap (λ op. op == n) same ∙ same-is n in
                absurd (let wrong : true ≡ false = sym here ∙ not-true (pending.op == n) passes in cc),
          )) all

  module _ (timer : ℕ) (wait : IsWaitOf script timer n) where
    -- a wait is cancelled by itself
    wait_aborts : (r : ReactorHalf) → IsKept script before r → r.due ≡ [] →
        IsAborting script n (waits_cancelled (is_wait_for n) r)
    wait_aborts r kept none =
        waits_gone script timer n wait (is_wait_for n) before r r kept none
        (λ k d within of same. ap (λ op. op == n) same ∙ same-is n) refl refl refl

  -- an emit at the slot of the operation
  pub emit_aborts : (target : Act) (types : ℕ) (r : ReactorHalf) → act_of script n ≡ Some target → slot_of target ≢ None →
      is_reached target types ≡ true → IsKept script before r → r.due ≡ [] →
      IsAborting script n (emitted_to (act_of script n) types n r)
  emit_aborts target types r is plugged reached kept none =
      subst (λ (given : Option Act). IsAborting script n (emitted_to given types n r)) (sym is)
      (subst (λ (b : Bool). IsAborting script n (cond b (operation_cancelled target n r) r)) (sym reached)
      (by_target target is plugged))
    where
      by_target : (target : Act) → act_of script n ≡ Some target → slot_of target ≢ None →
          IsAborting script n (operation_cancelled target n r)
      by_target (act.Wait timer strand slot kinds) is plugged =
          wait_aborts timer (record { strand = strand; slot = slot; filter = kinds; act = is }) r kept none
      by_target (act.ReadSome stream size strand slot kinds) is plugged =
          one_aborts stream r (record { act = act.ReadSome stream size strand slot kinds; is = is; on = refl }) kept none
      by_target (act.ReadAll stream size strand slot kinds) is plugged =
          one_aborts stream r (record { act = act.ReadAll stream size strand slot kinds; is = is; on = refl }) kept none
      by_target (act.Until stream delimiter max strand slot kinds) is plugged =
          one_aborts stream r (record { act = act.Until stream delimiter max strand slot kinds; is = is; on = refl }) kept none
      by_target (act.WriteSome stream bytes strand slot kinds) is plugged =
          one_aborts stream r (record { act = act.WriteSome stream bytes strand slot kinds; is = is; on = refl }) kept none
      by_target (act.WriteAll stream bytes strand slot kinds) is plugged =
          one_aborts stream r (record { act = act.WriteAll stream bytes strand slot kinds; is = is; on = refl }) kept none
      by_target _ is plugged = absurd (plugged refl)
