-- The calls of the streams and the definitions of a history.
use Rattle.std.proofs.Common.{◌≡◌, ℕ, ◌<◌, Bool, true, false, not, cond, List, [], ◌∷◌, ◌++◌, length, map, filter, get_or, set, refl, ap, sym, ◌∙◌}
use Rattle.std.proofs.lemmas.List.{get_or-map, map-set, set-get_or}
use Rattle.stream_rules.specs.declared.queue.Completion.{Completion}
use Rattle.stream_rules.specs.Serving.{Reading, Writing}
use Rattle.stream_rules.specs.Stream.{closed_stream}
use Rattle.stream_rules.specs.World.{changed_at}
use Rattle.history_rules.specs.Performing.{all_aborted, all_of_stream, bad, is_of, new_pending, one_of_stream_cancelled, read_accepted, shut_at, write_accepted}
use Rattle.history_rules.specs.State.{ReactorHalf, StreamQueues, no_queues}
use Rattle.proactor_core.specs.Due.{listed}
use Rattle.proactor_core.specs.Streams.{StreamView, aborts_of_op, bad_if_closed, closed_view, new_stream_view, queues_in, read_begun, stream_in, with_stream_in, without_op, write_begun}
use Rattle.proactor_core.specs.Tables.{TableState}
use Rattle.proactor_core.specs.Works.{StreamCallsFollow, with_due_list, with_works}

-- a half whose queues and due list are these
abbrev half_with : ReactorHalf → List StreamQueues → List Completion → ReactorHalf
half_with r queues due = record r { queues = queues; due = due }

module _ (s : TableState) (streams : List StreamView) (half : ReactorHalf) where
  queues-at : (stream : ℕ) → stream < length streams →
      get_or (map queues_in streams) stream no_queues ≡ queues_in (stream_in streams stream)
  queues-at stream b = get_or-map queues_in streams stream (new_stream_view 0 0 0) no_queues b

  -- a stream is written back as it was
  queues-same : (stream : ℕ) → stream < length streams →
      set (map queues_in streams) stream (queues_in (stream_in streams stream)) ≡ map queues_in streams
  queues-same stream b =
      ap (set (map queues_in streams) stream) (sym (queues-at stream b))
      ∙ set-get_or (map queues_in streams) stream no_queues

  -- an operation is pending, or where the stream is closed it completes at once
  begun-step : (stream op : ℕ) (v after : StreamView) (closed : Bool) →
      set (map queues_in streams) stream (queues_in v) ≡ map queues_in streams →
      half_with (with_works s streams half) (set (map queues_in streams) stream (queues_in (cond closed v after)))
      (cond closed (listed (bad op ∷ []) s.due) s.due).coming
      ≡ cond closed (half_with (with_works s streams half) (map queues_in streams) (s.due.coming ++ bad op ∷ []))
      (half_with (with_works s streams half) (set (map queues_in streams) stream (queues_in after)) s.due.coming)
  begun-step stream op v after true same =
      ap (λ q. half_with (with_works s streams half) q (s.due.coming ++ bad op ∷ [])) same
  begun-step stream op v after false same = refl

  reads : (op stream : ℕ) (reading : Reading) → stream < length streams →
      with_works (with_due_list (bad_if_closed op (stream_in streams stream) s.due) s)
      (with_stream_in stream (read_begun op s.accepted reading) streams) half
      ≡ read_accepted op stream reading (with_works s streams half)
  reads op stream reading b =
      let v : StreamView = stream_in streams stream in
      let after : StreamView = record v { reads = v.reads ++ new_pending op s.accepted reading ∷ [] } in
      let accepted : StreamQueues → ReactorHalf = λ q.
      cond q.closed (half_with (with_works s streams half) (map queues_in streams) (s.due.coming ++ bad op ∷ []))
      (half_with (with_works s streams half)
      (set (map queues_in streams) stream (record q { reads = q.reads ++ new_pending op s.accepted reading ∷ [] }))
      s.due.coming) in
      ap (λ q. half_with (with_works s streams half) q (cond v.closed (listed (bad op ∷ []) s.due) s.due).coming)
      (map-set queues_in streams stream (cond v.closed v after))
      ∙ begun-step stream op v after v.closed (queues-same stream b)
      ∙ ap accepted (sym (queues-at stream b))

  writes : (op stream : ℕ) (writing : Writing) → stream < length streams →
      with_works (with_due_list (bad_if_closed op (stream_in streams stream) s.due) s)
      (with_stream_in stream (write_begun op s.accepted writing) streams) half
      ≡ write_accepted op stream writing (with_works s streams half)
  writes op stream writing b =
      let v : StreamView = stream_in streams stream in
      let after : StreamView = record v { writes = v.writes ++ new_pending op s.accepted writing ∷ [] } in
      let accepted : StreamQueues → ReactorHalf = λ q.
      cond q.closed (half_with (with_works s streams half) (map queues_in streams) (s.due.coming ++ bad op ∷ []))
      (half_with (with_works s streams half)
      (set (map queues_in streams) stream
      (record q { writes = q.writes ++ new_pending op s.accepted writing ∷ [] })) s.due.coming) in
      ap (λ q. half_with (with_works s streams half) q (cond v.closed (listed (bad op ∷ []) s.due) s.due).coming)
      (map-set queues_in streams stream (cond v.closed v after))
      ∙ begun-step stream op v after v.closed (queues-same stream b)
      ∙ ap accepted (sym (queues-at stream b))

  cancels : (op stream : ℕ) → stream < length streams →
      with_works (with_due_list (listed (aborts_of_op op (stream_in streams stream)) s.due) s)
      (with_stream_in stream (without_op op) streams) half
      ≡ one_of_stream_cancelled op stream (with_works s streams half)
  cancels op stream b =
      let v : StreamView = stream_in streams stream in
      let cancelled : StreamQueues → ReactorHalf = λ q.
      half_with (with_works s streams half)
      (set (map queues_in streams) stream (record q {
        reads = filter (λ pending. not (is_of op pending)) q.reads;
        writes = filter (λ pending. not (is_of op pending)) q.writes;
      })) (s.due.coming ++ (all_aborted (filter (is_of op) q.reads) ++ all_aborted (filter (is_of op) q.writes))) in
      ap (λ q. half_with (with_works s streams half) q (s.due.coming ++ aborts_of_op op v))
      (map-set queues_in streams stream (without_op op v))
      ∙ ap cancelled (sym (queues-at stream b))

  closes : (stream : ℕ) → stream < length streams →
      with_works
      (with_due_list
      (listed (all_of_stream (stream_in streams stream).reads (stream_in streams stream).writes) s.due) s)
      (with_stream_in stream closed_view streams)
      (record half { streams = changed_at stream closed_stream half.streams })
      ≡ shut_at stream (with_works s streams half)
  closes stream b =
      let v : StreamView = stream_in streams stream in
      let gone : ReactorHalf = record half { streams = changed_at stream closed_stream half.streams } in
      let none : StreamQueues = record { closed = true; reads = []; writes = [] } in
      let closed : StreamQueues → ReactorHalf = λ q.
      half_with (with_works s streams gone) (set (map queues_in streams) stream none)
      (s.due.coming ++ all_of_stream q.reads q.writes) in
      ap (λ q. half_with (with_works s streams gone) q (s.due.coming ++ all_of_stream v.reads v.writes))
      (map-set queues_in streams stream (closed_view v))
      ∙ ap closed (sym (queues-at stream b))

  pub follow : StreamCallsFollow s streams half
  follow = record { read = reads; write = writes; cancel = cancels; close = closes }
