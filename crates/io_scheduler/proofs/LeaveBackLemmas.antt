-- A system call has returned whose stream was closed meanwhile: its operation is settled, and its stream is
-- gone.
use Rattle.std.proofs.Common.{ap, refl, sym, ◌∙◌}
use Rattle.std.proofs.lemmas.Bool.{true≢false}
use Rattle.std.proofs.lemmas.List.{get_or-set_other}
use Rattle.std.specs.Prelude.{◌≡◌, ℕ, not, Bool, true, false, List, [], ◌∷◌, Option, Some, None, slice_get}
use Rattle.std.specs.Global.{Vec}
use Rattle.std.specs.List.{slice_index_or}
use Rattle.io_rules.specs.declared.event.Event.{Event}
use Rattle.io_rules.specs.declared.event.Event.TheVariants as event
use Rattle.io_rules.specs.declared.gave.Gave.{Gave}
use Rattle.io_rules.specs.declared.limits.Limits.{Limits}
use Rattle.io_rules.specs.declared.name.Name.{Name}
use Rattle.io_rules.specs.declared.op.Phase.TheVariants as phase
use Rattle.io_rules.specs.declared.operation.Side.{Side}
use Rattle.io_rules.specs.declared.place.Life.{Life}
use Rattle.io_rules.specs.declared.place.Life.TheVariants as life
use Rattle.io_rules.specs.declared.place.Place.{Place}
use Rattle.io_rules.specs.declared.request.Marks.{Marks}
use Rattle.io_rules.specs.Cancelling.{is_out_for, queue_of}
use Rattle.io_rules.specs.Legal.{IsLegal, after, state_of}
use Rattle.io_rules.specs.Names.{Names, is_closing, is_current, is_leaving, is_unused, no_place, place_at}
use Rattle.io_rules.specs.Operations.{target_of}
use Rattle.io_rules.specs.Ops.{is_pending, is_untouched}
use Rattle.io_rules.specs.Serving.{first_of}
use Rattle.io_rules.specs.State.{ContextState, StreamState, new_stream, stream_at}
use Rattle.io_rules.specs.Tries.{place_made}
use Rattle.io_rules.proofs.StrandLemmas.{both}
use Rattle.io_strands.specs.declared.ready.ReadyOp.{ReadyOp}
use Rattle.io_strands.specs.Cell.{Cell}
use Rattle.io_jobs.specs.Listed.{JobList}
use Rattle.io_streams.specs.declared.pending.PendingOp.{PendingOp}
use Rattle.io_streams.specs.Kept.{IsWhole}
use Rattle.io_streams.specs.Pending.{StreamList, back_in}
use Rattle.io_timers.specs.Pending.{Timers}
use Rattle.io_scheduler.specs.declared.counts.Counts.{Counts}
use Rattle.io_scheduler.specs.declared.returning.Came.{Came}
use Rattle.io_scheduler.specs.declared.returning.Came.TheVariants as came
use Rattle.io_scheduler.specs.declared.settling.Gets.{Gets}
use Rattle.io_scheduler.specs.declared.streaming.Streaming.{Streaming}
use Rattle.io_scheduler.specs.declared.tally.Tally.{Tally}
use Rattle.io_scheduler.specs.declared.waiting.Waiting.{Waiting}
use Rattle.io_scheduler.specs.Back.{CameAt, IsReturnable, MayOpen, given_at, made_of, opened_of, with_made}
use Rattle.io_scheduler.specs.Settling.{IsSettling}
use Rattle.io_scheduler.specs.Shown.{Shows}
use Rattle.io_scheduler.specs.Streams.{IsStreamingAs, ShowsStreams}
use Rattle.io_scheduler.specs.Tallied.{IsTally, tally_back}
use Rattle.io_scheduler.specs.Vacated.{IsAlone, IsLeaving}
use Rattle.io_scheduler.specs.Waits.{ShowsWaits}
use Rattle.io_scheduler.proofs.BackLemmas.{out_is}
use Rattle.io_scheduler.proofs.BackedLemmas.{queue_back, returned}
use Rattle.io_scheduler.proofs.CameLemmas.{goes_on}
use Rattle.io_scheduler.proofs.KnownLemmas.{are_known}
use Rattle.io_scheduler.proofs.KnownStillLemmas.{IsLast}
use Rattle.io_scheduler.proofs.LinkedLemmas.{apart_unused}
use Rattle.io_scheduler.proofs.OnlyLemmas.{IsThis, only_alone}
use Rattle.io_scheduler.proofs.ReturnedLemmas.{back_leaving, hidden, hidden_settling, now_at}
use Rattle.io_scheduler.proofs.TriedLemmas.{Heads, heads}
use Rattle.io_scheduler.proofs.UnusedLemmas.{reserved_place}

some_is : {X : Type 0} (a b : X) → Some a ≡ Some b → a ≡ b
some_is a b is = cc

closing_used : (l : Life) → is_closing l ≡ true → is_unused l ≡ false
closing_used life.Free is = absurd (true≢false (sym is))
closing_used (life.Kept op) is = refl
closing_used life.Alive is = refl
closing_used life.Closing is = refl
closing_used life.Spent is = refl

untouched_is : (moved : ℕ) (cancelled : Bool) → is_untouched (phase.Pending moved cancelled) ≡ not cancelled
untouched_is moved true = refl
untouched_is moved false = refl

-- what is under way for a stream that was closed
pub record IsClosed {H : Type 0} (name : Name) (sd : Side) (streams : StreamList (Streaming H))
    (op : PendingOp (Streaming H)) : Type 0 where
  pub alone : IsAlone sd op.op (stream_at streams.streams name)
  pub cancelled : op.item.cancelled ≡ true

module _ {H : Type 0} (marks : H → Marks) (limits : Limits) (past : List Event) (streams : StreamList (Streaming H))
    (name : Name) (sd : Side) (place : ℕ) (given : Gave) (legal : IsLegal limits past)
    (none : (state_of limits past).settled ≡ []) (shows : ShowsStreams marks limits streams (state_of limits past))
    (leaving : is_leaving (state_of limits past).names.streams name ≡ true)
    (it : IsReturnable name sd streams place given) where
  abbrev s : ContextState
  s = state_of limits past

  has : Heads marks s name sd it.op
  has = heads marks limits streams s name sd shows it.op it.head

  closing : is_closing (place_at s.names.streams name.place).life ≡ true
  closing = (both (is_current s.names.streams name) _ leaving).other

  out_at : (stream_at s.streams name).out ≡ Some sd
  out_at =
      out_is sd (stream_at s.streams name).out
      (ap (λ xs. is_out_for sd (stream_at xs name).out) (sym shows.streams_are) ∙ it.out)

  -- an operation at its place is the one whose system call is under way
  last : (x : PendingOp (Streaming H)) (known : IsStreamingAs marks s.ops x) → x.stream.place ≡ name.place →
      IsLast s.streams x.op known.op (record { stream = x.stream; side = x.side })
  last x known at =
      (are_known limits past legal x.op known.op (record { stream = x.stream; side = x.side }) known.is
      (ap is_pending known.phase) (ap target_of known.kind ∙ known.target)).closing
      (ap (λ k. is_closing (slice_index_or s.names.streams k no_place).life) at ∙ closing)

  only : (x : PendingOp (Streaming H)) → IsStreamingAs marks s.ops x → x.stream.place ≡ name.place → IsThis it.op.op sd x
  only x known at =
      let it_last = last x known at in
      let here : stream_at s.streams x.stream ≡ stream_at s.streams name =
      ap (λ k. slice_index_or s.streams k new_stream) at in
      let on : x.side ≡ sd =
      some_is x.side sd
      (sym (out_is x.side (stream_at s.streams x.stream).out it_last.out) ∙ ap (λ (st : StreamState). st.out) here ∙ out_at) in
      record {
        number =
            some_is x.op it.op.op
            (sym it_last.first ∙ ap (first_of x.side) here ∙ ap (λ o. first_of o (stream_at s.streams name)) on ∙ has.first);
        on = on;
      }

  not_true : (b : Bool) → not b ≡ false → b ≡ true
  not_true true is = refl
  not_true false is = absurd (true≢false is)

  pub closed_op : IsWhole streams → IsClosed name sd streams it.op
  closed_op whole = record {
    alone = only_alone marks s.ops name sd it.op.op only streams whole shows.each it.head.first;
    cancelled =
        not_true it.op.item.cancelled
        (sym (untouched_is it.op.item.moved it.op.item.cancelled) ∙ ap is_untouched (sym has.known.phase)
        ∙ (last it.op has.known it.head.place).cancelled);
  }

  -- it doesn't go on
  pub never_on : IsWhole streams → (come : Came) (more : ℕ) → CameAt place given streams come → come ≡ came.On more → ⊥
  never_on whole come more is on =
      true≢false
      (sym (closed_op whole).cancelled
      ∙ (goes_on it.op.item.kind given it.op.item.moved more it.op.item.cancelled (sym (is it.op it.found) ∙ on)).open_still)

  -- its place stays as it was
  place_kept : (reserved : Option Name) → (stream_at streams.streams name).reserved ≡ reserved →
      place_at (place_made given reserved (state_of limits past).names.streams) name.place
      ≡ place_at (state_of limits past).names.streams name.place
  place_kept None has = refl
  place_kept (Some other) has =
      let kept = reserved_place limits past legal name other
      (ap (λ xs. (stream_at xs name).reserved) (sym shows.streams_are) ∙ has) in
      get_or-set_other (state_of limits past).names.streams other.place name.place _ no_place
      (λ (same : name.place ≡ other.place).
      apart_unused (state_of limits past).streams name other sd it.op.op
      (ap (λ xs. first_of sd (stream_at xs name)) (sym shows.streams_are) ∙ it.head.first) kept.idle (sym same))

  pub still_used : (names : Names) → names ≡ (state_of limits past).names →
      is_unused (place_at (with_made given (stream_at streams.streams name).reserved names).streams name.place).life ≡ false
  still_used names are =
      ap (λ (ns : Names). is_unused (place_at (place_made given (stream_at streams.streams name).reserved ns.streams) name.place).life)
      are
      ∙ ap (λ (p : Place). is_unused p.life) (place_kept (stream_at streams.streams name).reserved refl)
      ∙ closing_used (place_at (state_of limits past).names.streams name.place).life
      (both (is_current (state_of limits past).names.streams name) _ leaving).other

module _ {H S : Type 0} (marks : H → Marks) (limits : Limits) (counts : Counts) (names : Names)
    (cells : List (Cell H S)) (jobs : JobList (ReadyOp H)) (timers : Timers (Waiting H)) (streams : StreamList (Streaming H))
    (tally : Tally) (name : Name) (sd : Side) (given : Gave) (past : List Event) (place : ℕ) (buffer : Option (Vec ℕ))
    (legal : IsLegal limits past) (leaving : is_leaving (state_of limits past).names.streams name ≡ true)
    (shows : Shows marks limits counts names cells jobs (state_of limits past))
    (waits : ShowsWaits marks limits timers (state_of limits past)) (tallied : IsTally tally (state_of limits past))
    (streaming : ShowsStreams marks limits streams (state_of limits past))
    (whole : IsWhole streams) (it : IsReturnable name sd streams place given) (come : Came)
    (is : CameAt place given streams come) (made : Option Name)
    (made_is : made ≡ made_of given (stream_at streams.streams name).reserved)
    (gets : Gets) (settles : come ≡ came.Settles gets) (may : MayOpen made streams.streams) where
  abbrev now : ContextState
  now = state_of limits past

  abbrev now_streams : StreamList (Streaming H)
  now_streams = opened_of made (given_at place come buffer (back_in name streams))

  settling : IsSettling marks limits counts (with_made given (stream_at streams.streams name).reserved names) cells jobs timers
      now_streams (tally_back tally) name sd place gets.code gets.size
      (hidden marks limits counts names cells jobs timers streams tally name sd given now place buffer true leaving shows waits tallied
      streaming whole it come is made made_is gets settles may)
  settling =
      hidden_settling marks limits counts names cells jobs timers streams tally name sd given now place buffer true leaving shows waits
      tallied streaming whole it come is made made_is gets settles may

  stream_is : stream_at now_streams.streams name ≡ returned (stream_at streams.streams name)
  stream_is =
      now_at marks limits counts names cells jobs timers streams tally name sd given now place buffer true leaving shows waits
      tallied streaming whole it come is made made_is gets settles may

  closed : IsClosed name sd streams it.op
  closed = closed_op marks limits past streams name sd place given legal shows.settled streaming leaving it whole

  queue_is : (on : Side) → queue_of on (stream_at now_streams.streams name) ≡ queue_of on (stream_at streams.streams name)
  queue_is on = ap (queue_of on) stream_is ∙ queue_back on (stream_at streams.streams name)

  number : it.op.op ≡ settling.op.op
  number =
      some_is it.op.op settling.op.op
      (sym (ap (λ q. slice_get q 0) (queue_is sd ∙ closed.alone.own)) ∙ settling.head.first)

  pub back_left : IsLeaving marks limits counts (with_made given (stream_at streams.streams name).reserved names) cells jobs timers
      now_streams (tally_back tally) name sd place gets.code gets.size (after (event.Back name sd given) now)
  back_left = record {
    hidden =
        hidden marks limits counts names cells jobs timers streams tally name sd given now place buffer true leaving shows waits tallied
        streaming whole it come is made made_is gets settles may;
    settling = settling;
    is =
        back_leaving marks limits counts names cells jobs timers streams tally name sd given now place buffer true leaving shows waits
        tallied streaming whole it come is made made_is gets settles may refl;
    alone = record {
      own = queue_is sd ∙ closed.alone.own ∙ ap (λ n. n ∷ []) number;
      others = λ on isnt. queue_is on ∙ closed.alone.others on isnt;
    };
    back = ap (λ (st : StreamState). st.out) stream_is;
    used = still_used marks limits past streams name sd place given legal shows.settled streaming leaving it names shows.names_are;
  }
