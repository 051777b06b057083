-- The operation of a stream that was closed during its system call completes: what is kept shows the state
-- behind that.
use Rattle.std.proofs.Common.{ap, refl, subst, sym, ◌∙◌}
use Rattle.std.proofs.lemmas.List.{length-set}
use Rattle.std.specs.Prelude.{◌≡◌, ◌<◌, ℕ, false, List, [], ◌∷◌, Option, Some, None, length, slice_get}
use Rattle.std.specs.Global.{Vec}
use Rattle.std.specs.List.{slice_index_or}
use Rattle.asio_types.specs.declared.code.Code.{Code}
use Rattle.io_rules.specs.declared.event.Event.TheVariants as event
use Rattle.io_rules.specs.declared.limits.Limits.{Limits}
use Rattle.io_rules.specs.declared.name.Name.{Name}
use Rattle.io_rules.specs.declared.operation.Side.{Side}
use Rattle.io_rules.specs.declared.operation.Side.TheVariants as side
use Rattle.io_rules.specs.declared.request.Marks.{Marks}
use Rattle.io_rules.specs.Completing.{streams_left}
use Rattle.io_rules.specs.Legal.{MayHappen, after}
use Rattle.io_rules.specs.Names.{Names}
use Rattle.io_rules.specs.Operations.{Target}
use Rattle.io_rules.specs.Serving.{first_of, served, with_queue}
use Rattle.io_rules.specs.State.{ContextState, StreamState, new_stream, stream_at, with_stream}
use Rattle.io_queues.specs.Queued.{found_in}
use Rattle.io_strands.specs.declared.ready.ReadyOp.{ReadyOp}
use Rattle.io_strands.specs.Cell.{Cell}
use Rattle.io_jobs.specs.Listed.{JobList}
use Rattle.io_streams.specs.declared.pending.PendingOp.{PendingOp}
use Rattle.io_streams.specs.Kept.{IsWhole}
use Rattle.io_streams.specs.Pending.{IsHead, IsIdle, StreamList, forgotten, without_op}
use Rattle.io_timers.specs.Pending.{Timers}
use Rattle.io_scheduler.specs.declared.counts.Counts.{Counts}
use Rattle.io_scheduler.specs.declared.streaming.Streaming.{Streaming}
use Rattle.io_scheduler.specs.declared.tally.Tally.{Tally}
use Rattle.io_scheduler.specs.declared.waiting.Waiting.{Waiting}
use Rattle.io_scheduler.specs.Completed.{MayBeReadyOn, completed_state, readied_cells, readied_jobs}
use Rattle.io_scheduler.specs.Expired.{left_waits}
use Rattle.io_scheduler.specs.Settling.{IsNotAtOnce, IsServing, IsSettling, has_none, op_done, with_settled}
use Rattle.io_scheduler.specs.Shown.{Shows}
use Rattle.io_scheduler.specs.Streams.{IsPlain, IsStreamingAs, ShowsStreams}
use Rattle.io_scheduler.specs.Tallied.{IsTally, tally_completed}
use Rattle.io_scheduler.specs.Vacated.{IsAlone, IsLeaving, without_name, without_stream}
use Rattle.io_scheduler.specs.Waits.{ShowsWaits}
use Rattle.io_scheduler.proofs.CompletedLemmas.{ready_with}
use Rattle.io_scheduler.proofs.LeavingLemmas.{cut, new_is, out_queue}
use Rattle.io_scheduler.proofs.LinkedLemmas.{none_new}
use Rattle.io_scheduler.proofs.PlacedLemmas.{at_with}
use Rattle.io_scheduler.proofs.ServedLemmas.{served_nothing}
use Rattle.io_scheduler.proofs.ServingLemmas.{over_shows, over_streams, over_tally, over_waits}
use Rattle.io_scheduler.proofs.SettledLemmas.{IsSound, done_is, done_number, done_room, done_serving, not_connect, settled_may, waits_same}
use Rattle.io_scheduler.proofs.TriedLemmas.{streaming_at}
use Rattle.io_scheduler.proofs.VacatedLemmas.{gone_shown, gone_streams, gone_tally, gone_waits, idle_left, left_new, new_over, none_left}

some_is : {X : Type 0} (a b : X) → Some a ≡ Some b → a ≡ b
some_is a b is = cc

none_is : {X : Type 0} (a : X) → None ≡ Some a → ⊥
none_is a is = cc

tail_is : (n : ℕ) (a b : List ℕ) → n ∷ a ≡ n ∷ b → a ≡ b
tail_is n a b is = cc

-- an operation completes behind which none is on its side
done_alone : {H : Type 0} (marks : H → Marks) (it : PendingOp (Streaming H)) (given : Code) (size : ℕ) (w : ContextState)
    (known : IsStreamingAs marks w.ops it) (none : w.settled ≡ []) (target : Target) →
    target ≡ record { stream = it.stream; side = it.side } → left_waits it.op w.waits ≡ w.waits →
    (it.side ≡ side.Connect → ⊥) → IsPlain (stream_at (streams_left it.op (Some target) w.streams) target.stream) →
    first_of target.side (stream_at (streams_left it.op (Some target) w.streams) target.stream) ≡ None →
    after (event.Done it.op given size) (with_settled it.op given size w) ≡ op_done it.op given size it.item.lane target w
done_alone marks it given size w known none target is waits apart plain first =
    done_is marks w it known none given size waits apart
    ∙ ap (λ (t : Target). served (Some t) (op_done it.op given size it.item.lane t w)) (sym is)
    ∙ served_nothing (op_done it.op given size it.item.lane target w) target plain
    (λ n op here found. absurd (none_is n (sym first ∙ here)))

module _ {H S : Type 0} (marks : H → Marks) (limits : Limits) (counts : Counts) (names : Names)
    (cells : List (Cell H S)) (jobs : JobList (ReadyOp H)) (timers : Timers (Waiting H)) (streams : StreamList (Streaming H))
    (tally : Tally) (name : Name) (sd : Side) (place : ℕ) (given : Code) (size : ℕ) (s : ContextState)
    (leaving : IsLeaving marks limits counts names cells jobs timers streams tally name sd place given size s)
    (it : PendingOp (Streaming H)) (found : found_in place streams.ops ≡ Some it) where
  abbrev settling : IsSettling marks limits counts names cells jobs timers streams tally name sd place given size leaving.hidden
  settling = leaving.settling

  abbrev v : ContextState
  v = settling.waiting

  one : settling.op ≡ it
  one = some_is settling.op it (sym settling.found ∙ found)

  head : IsHead name sd streams it
  head = subst (IsHead name sd streams) one settling.head

  known : IsStreamingAs marks v.ops it
  known = streaming_at marks v.ops it.op it streams.ops head.numbered settling.pending.each

  hidden_is : leaving.hidden ≡ with_settled it.op given size v
  hidden_is = settling.is ∙ ap (λ (o : PendingOp (Streaming H)). with_settled o.op given size v) one

  state_is : s ≡ with_settled it.op given size (without_stream name v)
  state_is = leaving.is ∙ ap (without_stream name) hidden_is

  pub left_going : s.finishing ≡ false
  left_going = ap (λ (t : ContextState). t.finishing) state_is ∙ settling.shows.going

  pub left_may : MayHappen s (event.Done it.op given size)
  left_may =
      subst (λ t. MayHappen t (event.Done it.op given size)) (sym state_is)
      (settled_may marks (without_stream name v) it known settling.shows.settled given size settling.shows.going)

  pub left_number : tally.waiting < counts.next
  left_number =
      done_number marks limits leaving.hidden counts names cells jobs timers streams tally name sd place given size it settling
      found

  module _ (sound : IsSound limits s) (whole : IsWhole streams) where
    hidden_sound : IsSound limits leaving.hidden
    hidden_sound =
        let it_is = subst (IsSound limits) leaving.is sound in record { fits = it_is.fits; places = it_is.places }

    pub left_room : MayBeReadyOn it.item.lane cells jobs
    left_room =
        done_room marks limits leaving.hidden counts names cells jobs timers streams tally name sd place given size it settling
        found hidden_sound

    abbrev stream : StreamState
    stream = stream_at streams.streams name

    abbrev kept : StreamList (Streaming H)
    kept = without_op it streams

    alone : IsAlone sd it.op stream
    alone = subst (λ (o : PendingOp (Streaming H)). IsAlone sd o.op stream) one leaving.alone

    kept_is : kept.streams ≡ with_stream name (with_queue sd [] stream) streams.streams
    kept_is =
        let first = cut marks limits streams v name sd it settling.pending whole head in
        new_is marks limits streams v name sd it settling.pending whole head
        ∙ ap (λ q. with_stream name (with_queue sd q stream) streams.streams)
        (tail_is it.op first.rest [] (sym first.queue ∙ alone.own))

    kept_at : stream_at kept.streams name ≡ with_queue sd [] stream
    kept_at =
        ap (λ xs. stream_at xs name) kept_is
        ∙ at_with (λ st. st ≡ with_queue sd [] stream) streams.streams name (with_queue sd [] stream) settling.within name
        (λ here. refl) (λ elsewhere. absurd (elsewhere refl))

    pub left_within : name.place < length kept.streams
    left_within =
        subst (λ xs. name.place < length xs) (sym kept_is)
        (at_length streams.streams settling.within)
      where
        at_length : (xs : List StreamState) → name.place < length xs →
            name.place < length (with_stream name (with_queue sd [] stream) xs)
        at_length xs lt = subst (λ k. name.place < k) (sym (length-set xs name.place (with_queue sd [] stream))) lt

    pub left_idle : IsIdle (stream_at kept.streams name)
    left_idle = subst IsIdle (sym kept_at) (idle_left sd it.op stream alone)

    kept_back : (stream_at kept.streams name).out ≡ None
    kept_back = ap (λ (st : StreamState). st.out) kept_at ∙ out_queue sd [] stream ∙ leaving.back

    kept_first : first_of sd (stream_at kept.streams name) ≡ None
    kept_first =
        ap (first_of sd) kept_at ∙ ap (λ q. slice_get q 0) (none_left sd it.op stream alone sd)

    module _ (buffer : Option (Vec ℕ)) (made : Option Name) where
      abbrev new_cells : List (Cell H S)
      new_cells = readied_cells it.item.lane (ready_with it.op given size buffer made it.item.handler) cells

      abbrev new_jobs : JobList (ReadyOp H)
      new_jobs = readied_jobs it.item.lane (ready_with it.op given size buffer made it.item.handler) cells jobs

      abbrev x : ContextState
      x = after (event.Done it.op given size) leaving.hidden

      serving : IsServing marks limits counts names new_cells new_jobs timers kept (tally_completed tally) name sd x
      serving =
          done_serving marks limits leaving.hidden counts names cells jobs timers streams tally name sd place given size it
          settling found hidden_sound buffer made whole

      over : IsNotAtOnce name sd kept
      over = has_none kept_first

      -- the state behind it
      here : it.stream.place ≡ name.place
      here = head.place

      abbrev target : Target
      target = record { stream = it.stream; side = it.side }

      waits_are : left_waits it.op v.waits ≡ v.waits
      waits_are = waits_same marks limits timers v it known settling.waits

      no_connect : it.side ≡ side.Connect → ⊥
      no_connect connects = not_connect marks limits streams v name sd it settling.pending head (sym head.on ∙ connects)

      left_streams : kept.streams ≡ streams_left it.op (Some target) v.streams
      left_streams = ap (streams_left it.op (Some target)) settling.pending.streams_are

      at_own : stream_at kept.streams it.stream ≡ stream_at kept.streams name
      at_own = ap (λ k. slice_index_or kept.streams k new_stream) here

      hidden_done : x ≡ op_done it.op given size it.item.lane target v
      hidden_done =
          ap (after (event.Done it.op given size)) hidden_is
          ∙ done_alone marks it given size v known settling.shows.settled target refl waits_are no_connect
          (subst (λ xs. IsPlain (stream_at xs it.stream)) (sym serving.pending.streams_are ∙ left_streams)
          (serving.pending.plain it.stream))
          (ap (λ xs. first_of it.side (stream_at xs it.stream)) (sym left_streams)
          ∙ ap (first_of it.side) at_own ∙ ap (λ on. first_of on (stream_at kept.streams name)) head.on ∙ kept_first)

      gone_at : stream_at (with_stream name new_stream v.streams) it.stream ≡ new_stream
      gone_at =
          at_with (λ st. st ≡ new_stream) v.streams name new_stream
          (subst (λ xs. name.place < length xs) settling.pending.streams_are settling.within) it.stream
          (λ same. refl) (λ elsewhere. absurd (elsewhere (sym here)))

      gone_left : streams_left it.op (Some target) (with_stream name new_stream v.streams) ≡ with_stream name new_stream v.streams
      gone_left = left_new it.op target (with_stream name new_stream v.streams) gone_at

      gone_done : after (event.Done it.op given size) s
          ≡ op_done it.op given size it.item.lane target (without_stream name v)
      gone_done =
          ap (after (event.Done it.op given size)) state_is
          ∙ done_alone marks it given size (without_stream name v) known settling.shows.settled target refl waits_are no_connect
          (subst IsPlain (sym gone_at ∙ ap (λ xs. stream_at xs it.stream) (sym gone_left))
          (record { held = refl; searched = refl; connects = refl }))
          (ap (λ xs. first_of it.side (stream_at xs it.stream)) gone_left ∙ ap (first_of it.side) gone_at ∙ none_new it.side)

      left_is : after (event.Done it.op given size) s ≡ without_stream name x
      left_is =
          gone_done
          ∙ ap (λ xs. record (completed_state it.op given size it.item.lane [] v.waits (without_stream name v)) { streams = xs })
          (gone_left ∙ sym (new_over name it.stream _ v.streams here))
          ∙ ap (without_stream name) (sym hidden_done)

      x_shows : Shows marks limits counts names new_cells new_jobs x
      x_shows = over_shows marks limits counts names new_cells new_jobs timers kept (tally_completed tally) name sd x serving over

      x_waits : ShowsWaits marks limits timers x
      x_waits = over_waits marks limits counts names new_cells new_jobs timers kept (tally_completed tally) name sd x serving over

      x_tally : IsTally (tally_completed tally) x
      x_tally = over_tally marks limits counts names new_cells new_jobs timers kept (tally_completed tally) name sd x serving over

      x_streams : ShowsStreams marks limits kept x
      x_streams = over_streams marks limits counts names new_cells new_jobs timers kept (tally_completed tally) name sd x serving over

      pub left_shown : Shows marks limits counts (without_name name names) new_cells new_jobs (after (event.Done it.op given size) s)
      left_shown =
          subst (Shows marks limits counts (without_name name names) new_cells new_jobs) (sym left_is)
          (gone_shown marks limits counts names new_cells new_jobs timers kept (tally_completed tally) name x left_within left_idle
          kept_back x_shows x_waits x_tally x_streams)

      pub left_waiting : ShowsWaits marks limits timers (after (event.Done it.op given size) s)
      left_waiting =
          subst (ShowsWaits marks limits timers) (sym left_is)
          (gone_waits marks limits counts names new_cells new_jobs timers kept (tally_completed tally) name x left_within left_idle
          kept_back x_shows x_waits x_tally x_streams)

      pub left_tally : IsTally (tally_completed tally) (after (event.Done it.op given size) s)
      left_tally =
          subst (IsTally (tally_completed tally)) (sym left_is)
          (gone_tally marks limits counts names new_cells new_jobs timers kept (tally_completed tally) name x left_within left_idle
          kept_back x_shows x_waits x_tally x_streams)

      pub left_streaming : ShowsStreams marks limits (forgotten name kept) (after (event.Done it.op given size) s)
      left_streaming =
          subst (ShowsStreams marks limits (forgotten name kept)) (sym left_is)
          (gone_streams marks limits counts names new_cells new_jobs timers kept (tally_completed tally) name x left_within left_idle
          kept_back x_shows x_waits x_tally x_streams)
