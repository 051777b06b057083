-- What the writes of a stream have moved is sent, one behind the other.
use Rattle.std.proofs.Common.{◌≡◌, ℕ, ◌+◌, ◌-◌, min, take, drop, ◌≤◌, ◌==◌, nat_le, Bool, true, false, cond, not, List, [], ◌∷◌, ◌++◌, Option, Some, None, filter, length, refl, sym, ap, ◌∙◌, append_assoc, arith}
use Rattle.std.specs.List.{All}
use Rattle.std.specs.Option.{option_map}
use Rattle.std.proofs.lemmas.Bool.{cond_both}
use Rattle.std.proofs.lemmas.Bool.Decides.{nat_tests}
use Rattle.std.proofs.lemmas.List.{append-nil}
use Rattle.std.proofs.lemmas.List.Elements.{All-cons, All-filter, All-head, All-nil, All-push, All-tail}
use Rattle.asio_types.specs.declared.code.Code.{Code}
use Rattle.asio_types.specs.declared.code.Code.TheVariants as code
use Rattle.asio_types.specs.declared.mark.WriteMark.{WriteMark}
use Rattle.session_script.specs.Script.{ScriptModel, act_of}
use Rattle.stream_rules.specs.declared.queue.Completion.{Completion}
use Rattle.stream_rules.specs.declared.serving.Served.{Served}
use Rattle.stream_rules.specs.Queue.{Pending, QueueServed, served_head, served_queue, writing_side}
use Rattle.stream_rules.specs.Serving.{Outcome, Writing, Some_of, All_of, after_writing, all_of, bytes_of, ended_by, served_write, some_of, write_code}
use Rattle.stream_rules.specs.Stream.{Stream}
use Rattle.history_rules.specs.Performing.{all_aborted}
use Rattle.history_laws.specs.Sent.{bytes_in, written_of}
use Rattle.history_laws.specs.Streams.{is_write_of}
use lib.Seq.{take-add}

-- a write that was broken off has moved nothing, unless it is to write all its bytes
abbrev pub MovesAtOnce : Writing → ℕ → Type 0
MovesAtOnce (Some_of bytes) moved = moved ≡ 0
MovesAtOnce (All_of bytes) moved = Unit {0}

-- what an outcome reports is what was moved in all
abbrev pub Reports : Writing → Option Outcome → ℕ → Type 0
Reports writing None moved = (moved ≤ length (bytes_of writing)) × MovesAtOnce writing moved
Reports writing (Some outcome) moved = outcome.1 ≡ moved

ended_reports : (writing : Writing) (mark : Option Code) (size moved : ℕ) → size ≡ moved → moved ≤ length (bytes_of writing) →
    MovesAtOnce writing moved → Reports writing (ended_by mark size) moved
ended_reports writing None size moved same within at_once = (within, at_once)
ended_reports writing (Some ended) size moved same within at_once = same

some_reports : (bytes : List ℕ) (moved room : ℕ) (mark : Option Code) → moved ≡ 0 →
    Reports (Some_of bytes) (some_of (length bytes) room mark).outcome (moved + (some_of (length bytes) room mark).used)
some_reports bytes moved room mark none =
    cond_both (room == 0) (record { used = 0; outcome = ended_by mark 0 })
    (record { used = min (length bytes) room; outcome = Some (code.Ok, min (length bytes) room) })
    (λ (served : Served). Reports (Some_of bytes) served.outcome (moved + served.used))
    (λ is. ended_reports (Some_of bytes) mark 0 (moved + 0) (omega (arith, none)) (omega (arith, none)) (omega (arith, none)))
    (λ is. omega (arith, none))

all_reports : (bytes : List ℕ) (moved room : ℕ) (mark : Option Code) → moved ≤ length bytes →
    Reports (All_of bytes) (all_of (length bytes) moved room mark).outcome (moved + (all_of (length bytes) moved room mark).used)
all_reports bytes moved room mark within =
    cond_both (nat_le (length bytes) (moved + room)) (record {
      used = length bytes - moved;
      outcome = Some
          (code.Ok, length bytes);
    })
    (record { used = room; outcome = ended_by mark (moved + room) })
    (λ (served : Served). Reports (All_of bytes) served.outcome (moved + served.used))
    (λ is. omega (arith, within))
    (λ is.
    let more : moved + room ≤ length bytes = grind (arith, nat_tests, is) in
    ended_reports (All_of bytes) mark (moved + room) (moved + room) refl more tt)

write_reports : (writing : Writing) (moved room : ℕ) (mark : Option WriteMark) → moved ≤ length (bytes_of writing) →
    MovesAtOnce writing moved → Reports writing (served_write writing moved room mark).outcome
    (moved + (served_write writing moved room mark).used)
write_reports (Some_of bytes) moved room mark within at_once = some_reports bytes moved room (option_map write_code mark) at_once
write_reports (All_of bytes) moved room mark within at_once = all_reports bytes moved room (option_map write_code mark) within

module _ (script : ScriptModel) (k : ℕ) where
  abbrev pub piece : ℕ → ℕ → List ℕ
  piece op size = written_of script k op size

  -- what completions report of the writes of the stream, and what its queue has moved
  abbrev pub told_of : List Completion → List ℕ
  told_of [] = []
  told_of (done ∷ due) = piece done.op done.outcome.1 ++ told_of due

  abbrev pub held_of : List (Pending Writing) → List ℕ
  held_of [] = []
  held_of (pending ∷ queue) = piece pending.op pending.moved ++ held_of queue

  pub record IsWrite (pending : Pending Writing) : Type 0 where
    pub of : is_write_of k (act_of script pending.op) ≡ true
    pub bytes : bytes_in (act_of script pending.op) ≡ bytes_of pending.asks
    pub within : pending.moved ≤ length (bytes_of pending.asks)
    pub at_once : MovesAtOnce pending.asks pending.moved

  abbrev pub IsUnmoved : Pending Writing → Type 0
  IsUnmoved pending = pending.moved ≡ 0

  -- only the operation at the head has moved anything
  pub record IsShape (queue : List (Pending Writing)) : Type 0 where
    pub each : All IsWrite queue
    pub fresh : All IsUnmoved (drop 1 queue)

  piece_none : (op : ℕ) → piece op 0 ≡ []
  piece_none op =
      cond_both (is_write_of k (act_of script op)) (take 0 (bytes_in (act_of script op))) [] (λ bytes. bytes ≡ []) (λ is. refl)
      (λ is. refl)

  piece_is : (pending : Pending Writing) (size : ℕ) → IsWrite pending → piece pending.op size ≡ take size (bytes_of pending.asks)
  piece_is pending size is =
      ap (λ b. cond b (take size (bytes_in (act_of script pending.op))) []) is.of ∙ ap (take size) is.bytes

  pub told_append : (xs ys : List Completion) → told_of (xs ++ ys) ≡ told_of xs ++ told_of ys
  told_append [] ys = refl
  told_append (x ∷ xs) ys =
      ap (λ bytes. piece x.op x.outcome.1 ++ bytes) (told_append xs ys)
      ∙ sym (append_assoc (piece x.op x.outcome.1) (told_of xs) (told_of ys))

  unmoved_held : (queue : List (Pending Writing)) → All IsUnmoved queue → held_of queue ≡ []
  unmoved_held [] all = refl
  unmoved_held (head ∷ queue) all =
      ap (λ bytes. bytes ++ held_of queue)
      (ap (piece head.op) (All-head IsUnmoved head queue all) ∙ piece_none head.op)
      ∙ unmoved_held queue (All-tail IsUnmoved head queue all)

  unmoved_drop : (queue : List (Pending Writing)) → All IsUnmoved queue → All IsUnmoved (drop 1 queue)
  unmoved_drop [] all = All-nil IsUnmoved
  unmoved_drop (head ∷ queue) all = All-tail IsUnmoved head queue all

  -- what serving the queue sends
  pub record IsSentBy (queue : List (Pending Writing)) (stream : Stream) (served : QueueServed Writing) : Type 0 where
    pub more : List ℕ
    pub sent : served.stream.sent ≡ stream.sent ++ more
    pub all : told_of served.completed ++ held_of served.staying ≡ held_of queue ++ more
    pub shape : IsShape served.staying

  module _ (head : Pending Writing) (queue : List (Pending Writing)) (stream : Stream) (is : IsWrite head)
      (each : All IsWrite queue) (fresh : All IsUnmoved queue) (used : ℕ) where
    abbrev bytes : List ℕ
    bytes = bytes_of head.asks

    abbrev now : List ℕ
    now = take used (drop head.moved bytes)

    abbrev left : Stream
    left = after_writing head.asks head.moved used stream

    both : piece head.op (head.moved + used) ≡ piece head.op head.moved ++ now
    both =
        piece_is head (head.moved + used) is
        ∙ (take-add head.moved used bytes ∙ ap (λ bytes. bytes ++ now) (sym (piece_is head head.moved is)))

    none : held_of queue ≡ []
    none = unmoved_held queue fresh

    head_sends : (rest : QueueServed Writing) → IsSentBy queue left rest → (outcome : Option Outcome) →
        Reports head.asks outcome (head.moved + used) →
        IsSentBy (head ∷ queue) stream (served_head head queue used left rest outcome)
    head_sends rest sends None reports = record {
      more = now;
      sent = refl;
      all =
          ap (λ bytes. piece head.op (head.moved + used) ++ bytes) none
          ∙ (append-nil (piece head.op (head.moved + used))
          ∙ (both
          ∙ ap (λ bytes. bytes ++ now)
          (sym (ap (λ bytes. piece head.op head.moved ++ bytes) none ∙ append-nil (piece head.op head.moved)))));
      shape = record {
        each =
            All-cons IsWrite (record head { moved = head.moved + used }) queue
            (record { of = is.of; bytes = is.bytes; within = reports.0; at_once = reports.1 }) each;
        fresh = fresh;
      };
    }
    head_sends rest sends (Some outcome) reports = record {
      more = now ++ sends.more;
      sent = sends.sent ∙ append_assoc stream.sent now sends.more;
      all =
          append_assoc (piece head.op outcome.1) (told_of rest.completed) (held_of rest.staying)
          ∙ (ap (λ bytes. piece head.op outcome.1 ++ bytes) sends.all
          ∙ (ap (λ size. piece head.op size ++ (held_of queue ++ sends.more)) reports
          ∙ (ap (λ bytes. bytes ++ (held_of queue ++ sends.more)) both
          ∙ (ap (λ held. (piece head.op head.moved ++ now) ++ (held ++ sends.more)) none
          ∙ (append_assoc (piece head.op head.moved) now sends.more
          ∙ ap (λ bytes. bytes ++ (now ++ sends.more))
          (sym (ap (λ held. piece head.op head.moved ++ held) none ∙ append-nil (piece head.op head.moved))))))));
      shape = sends.shape;
    }

  pub queue_sends : (queue : List (Pending Writing)) (stream : Stream) → IsShape queue →
      IsSentBy queue stream (served_queue writing_side queue stream)
  queue_sends [] stream shape =
      record { more = []; sent = sym (append-nil stream.sent); all = refl; shape = shape }
  queue_sends (head ∷ queue) stream shape =
      let is = All-head IsWrite head queue shape.each in
      let each = All-tail IsWrite head queue shape.each in
      let served = served_write head.asks head.moved stream.room stream.write_mark in
      head_sends head queue stream is each shape.fresh served.used
      (served_queue writing_side queue (after_writing head.asks head.moved served.used stream))
      (queue_sends queue (after_writing head.asks head.moved served.used stream)
      (record { each = each; fresh = unmoved_drop queue shape.fresh })) served.outcome
      (write_reports head.asks head.moved stream.room stream.write_mark is.within is.at_once)

  -- what is cancelled reports what it has moved
  unmoved_told : (queue : List (Pending Writing)) → All IsUnmoved queue → told_of (all_aborted queue) ≡ []
  unmoved_told [] all = refl
  unmoved_told (head ∷ queue) all =
      ap (λ bytes. bytes ++ told_of (all_aborted queue))
      (ap (piece head.op) (All-head IsUnmoved head queue all) ∙ piece_none head.op)
      ∙ unmoved_told queue (All-tail IsUnmoved head queue all)

  pub aborted_told : (queue : List (Pending Writing)) → told_of (all_aborted queue) ≡ held_of queue
  aborted_told [] = refl
  aborted_told (head ∷ queue) = ap (λ bytes. piece head.op head.moved ++ bytes) (aborted_told queue)

  -- one operation is cancelled, and the others stay
  pub filter_told : (test : Pending Writing → Bool) (queue : List (Pending Writing)) → IsShape queue →
      told_of (all_aborted (filter test queue)) ++ held_of (filter (λ pending. not (test pending)) queue) ≡ held_of queue
  filter_told test [] shape = refl
  filter_told test (head ∷ queue) shape = by_test (test head)
    where
      cancelled : All IsUnmoved (filter test queue)
      cancelled = All-filter test IsUnmoved queue shape.fresh

      others : All IsUnmoved (filter (λ pending. not (test pending)) queue)
      others = All-filter (λ pending. not (test pending)) IsUnmoved queue shape.fresh

      by_test : (b : Bool) →
          told_of (all_aborted (cond b (head ∷ filter test queue) (filter test queue)))
          ++ held_of (cond (not b) (head ∷ filter (λ pending. not (test pending)) queue)
          (filter (λ pending. not (test pending)) queue))
          ≡ piece head.op head.moved ++ held_of queue
      by_test true =
          ap (λ held. (piece head.op head.moved ++ told_of (all_aborted (filter test queue))) ++ held) (unmoved_held
          (filter (λ pending. not (test pending)) queue) others)
          ∙ (append-nil (piece head.op head.moved ++ told_of (all_aborted (filter test queue)))
          ∙ ap (λ told. piece head.op head.moved ++ told)
          (unmoved_told (filter test queue) cancelled ∙ sym (unmoved_held queue shape.fresh)))
      by_test false =
          ap (λ told. told ++ (piece head.op head.moved ++ held_of (filter (λ pending. not (test pending)) queue)))
          (unmoved_told (filter test queue) cancelled)
          ∙ ap (λ held. piece head.op head.moved ++ held)
          (unmoved_held (filter (λ pending. not (test pending)) queue) others ∙ sym (unmoved_held queue shape.fresh))

  pub filter_shape : (test : Pending Writing → Bool) (queue : List (Pending Writing)) → IsShape queue →
      IsShape (filter test queue)
  filter_shape test [] shape = shape
  filter_shape test (head ∷ queue) shape = by_test (test head)
    where
      rest : All IsUnmoved (filter test queue)
      rest = All-filter test IsUnmoved queue shape.fresh

      each : All IsWrite (filter test queue)
      each = All-filter test IsWrite queue (All-tail IsWrite head queue shape.each)

      by_test : (b : Bool) → IsShape (cond b (head ∷ filter test queue) (filter test queue))
      by_test true = record {
        each = All-cons IsWrite head (filter test queue) (All-head IsWrite head queue shape.each) each;
        fresh = rest;
      }
      by_test false = record { each = each; fresh = unmoved_drop (filter test queue) rest }

  -- an operation that comes to the end has moved nothing
  pub push_held : (new : Pending Writing) (queue : List (Pending Writing)) → IsUnmoved new →
      held_of (queue ++ new ∷ []) ≡ held_of queue
  push_held new [] none = ap (λ bytes. bytes ++ []) (ap (piece new.op) none ∙ piece_none new.op)
  push_held new (head ∷ queue) none = ap (λ bytes. piece head.op head.moved ++ bytes) (push_held new queue none)

  pub push_shape : (new : Pending Writing) (queue : List (Pending Writing)) → IsWrite new → IsUnmoved new → IsShape queue →
      IsShape (queue ++ new ∷ [])
  push_shape new [] is none shape =
      record { each = All-cons IsWrite new [] is (All-nil IsWrite); fresh = All-nil IsUnmoved }
  push_shape new (head ∷ queue) is none shape = record {
    each = All-push IsWrite (head ∷ queue) new shape.each is;
    fresh = All-push IsUnmoved queue new shape.fresh none;
  }
