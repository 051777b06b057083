-- A system call has returned: it may, and what is kept shows the state behind that.
use Rattle.std.proofs.Common.{ap, refl, subst, sym, ◌∙◌}
use Rattle.std.proofs.lemmas.List.{length-set}
use Rattle.std.specs.Prelude.{◌≡◌, ◌<◌, ℕ, ◌&&◌, ◌==◌, Bool, true, false, List, [], ◌∷◌, Option, Some, None, length, if◌then◌else◌}
use Rattle.std.specs.Global.{Vec}
use Rattle.io_rules.specs.declared.event.Event.{Event}
use Rattle.io_rules.specs.declared.event.Event.TheVariants as event
use Rattle.io_rules.specs.declared.gave.Gave.{Gave}
use Rattle.io_rules.specs.declared.limits.Limits.{Limits}
use Rattle.io_rules.specs.declared.name.Name.{Name}
use Rattle.io_rules.specs.declared.op.Phase.TheVariants as phase
use Rattle.io_rules.specs.declared.operation.Side.{Side}
use Rattle.io_rules.specs.declared.place.Life.TheVariants as life
use Rattle.io_rules.specs.declared.place.Place.{Place}
use Rattle.io_rules.specs.declared.request.Marks.{Marks}
use Rattle.io_rules.specs.Cancelling.{is_out_for}
use Rattle.io_rules.specs.Legal.{MayHappen, after, state_of}
use Rattle.io_rules.specs.Names.{Names, is_leaving}
use Rattle.io_rules.specs.Ops.{is_pending, with_phase}
use Rattle.io_rules.specs.Serving.{first_of, op_of}
use Rattle.io_rules.specs.State.{ContextState, stream_at, with_stream}
use Rattle.io_rules.specs.Tries.{head_of, is_made, moved_by, place_made}
use Rattle.io_rules.proofs.StrandLemmas.{by_test}
use Rattle.io_rules.proofs.TotalLemmas.{apart, equal}
use Rattle.io_strands.specs.declared.ready.ReadyOp.{ReadyOp}
use Rattle.io_strands.specs.Cell.{Cell}
use Rattle.io_jobs.specs.Listed.{JobList}
use Rattle.io_streams.specs.declared.pending.PendingOp.{PendingOp}
use Rattle.io_streams.specs.Kept.{IsWhole}
use Rattle.io_streams.specs.Pending.{IsHead, StreamList, back_in, item_of, numbered_in, with_item}
use Rattle.io_timers.specs.Pending.{Timers}
use Rattle.io_scheduler.specs.declared.counts.Counts.{Counts}
use Rattle.io_scheduler.specs.declared.returning.Came.{Came}
use Rattle.io_scheduler.specs.declared.returning.Came.TheVariants as came
use Rattle.io_scheduler.specs.declared.settling.Gets.{Gets}
use Rattle.io_scheduler.specs.declared.streaming.Streaming.{Streaming}
use Rattle.io_scheduler.specs.declared.tally.Tally.{Tally}
use Rattle.io_scheduler.specs.declared.waiting.Waiting.{Waiting}
use Rattle.io_scheduler.specs.Back.{CameAt, HasComeBack, IsReturnable, IsStale, MayOpen, given_at, given_back, given_if, has_none, is_in, made_of, misfits, opened_of, so_far, with_made}
use Rattle.io_scheduler.specs.Returned.{HasReturned, came_of, fits_back, head_fits, is_held, may_return}
use Rattle.io_scheduler.specs.Settling.{HasSettled, HaveSettled, IsSettling, ShowsPending, all_done, with_settled}
use Rattle.io_scheduler.specs.Shown.{Shows}
use Rattle.io_scheduler.specs.Streams.{IsPlain, IsStill, IsStreamingAs, ShowsStreams}
use Rattle.io_scheduler.specs.Tallied.{IsTally, tally_back}
use Rattle.io_scheduler.specs.Vacated.{without_stream}
use Rattle.io_scheduler.specs.Waits.{ShowsWaits}
use Rattle.io_scheduler.proofs.BackLemmas.{back_goes_on, back_may, back_settles, back_to, left_if, out_is}
use Rattle.io_scheduler.proofs.BackedLemmas.{back_head, back_many, back_pending, back_state, back_still, back_tally, first_back, found_put, numbered_put, other_put, returned}
use Rattle.io_scheduler.proofs.CameLemmas.{GoesOn, goes_on, none_made, still_on}
use Rattle.io_scheduler.proofs.ComeLemmas.{state_with}
use Rattle.io_scheduler.proofs.GoesOnLemmas.{going_on, on_shown, on_streaming, on_tally, on_waits}
use Rattle.io_scheduler.proofs.LeavingLemmas.{GivesAlike, first_within, still_alike}
use Rattle.io_scheduler.proofs.LinkedLemmas.{open_with, opened_at, opened_next, opened_state, settled_opened}
use Rattle.io_scheduler.proofs.PlacedLemmas.{at_with, kept_by, placed_shown, placed_waits, with_placed}
use Rattle.io_scheduler.proofs.ReadyLemmas.{at_changed}
use Rattle.io_scheduler.proofs.TriedLemmas.{Heads, IsLike, at_place, heads, length_life, like_still}

some_is : {X : Type 0} (a b : X) → Some a ≡ Some b → a ≡ b
some_is a b is = cc

and_false : (b : Bool) → (b && false) ≡ false
and_false true = refl
and_false false = refl

-- ---- whether it may

module _ {H : Type 0} (marks : H → Marks) (limits : Limits) (streams : StreamList (Streaming H)) (s : ContextState)
    (name : Name) (sd : Side) (given : Gave) (shows : ShowsStreams marks limits streams s) where
  abbrev held : Bool
  held = is_held s.names.streams name

  abbrev out : Bool
  out = is_out_for sd (stream_at streams.streams name).out

  abbrev gives : Bool
  gives = head_fits (head_of s name sd) given

  fit_is : (it : PendingOp (Streaming H)) → IsHead name sd streams it →
      gives ≡ fits_back it.item.kind it.item.moved given
  fit_is it head =
      let has = heads marks limits streams s name sd shows it head in
      ap (λ o. head_fits o given) has.head
      ∙ ap (λ p. is_pending p && fits_back has.known.op.kind (moved_by p) given) has.known.phase
      ∙ ap (λ k. fits_back k it.item.moved given) has.known.kind

  may_is : may_return s name sd given ≡ (held && (out && gives))
  may_is = ap (λ xs. held && (is_out_for sd (stream_at xs name).out && gives)) (sym shows.streams_are)

  pub return_may : held ≡ true → s.finishing ≡ false → (place : ℕ) → IsReturnable name sd streams place given →
      MayHappen s (event.Back name sd given)
  return_may there going place it =
      back_may s name sd given going
      (may_is ∙ ap (λ b. b && (out && gives)) there ∙ ap (λ b. b && gives) it.out ∙ fit_is it.op it.head ∙ it.fit)

  not_so : gives ≡ false → (out && gives) ≡ false
  not_so misfit = ap (λ b. out && b) misfit ∙ and_false out

  refused : (out && gives) ≡ false → may_return s name sd given ≡ false
  refused not_now = may_is ∙ ap (λ b. held && b) not_now ∙ and_false held

  pub stale : IsStale name sd streams given → may_return s name sd given ≡ false
  stale (is_in back) = refused (ap (λ b. b && gives) back)
  stale (has_none none) =
      refused
      (not_so (ap (λ o. head_fits (op_of s.ops o) given)
      (ap (λ xs. first_of sd (stream_at xs name)) (sym shows.streams_are) ∙ none)))
  stale (misfits it head misfit) = refused (not_so (fit_is it head ∙ misfit))

-- ---- what is kept behind it

abbrev names_placed : List Place → Names → Names
names_placed places names = record names { streams = places }

module _ {H S : Type 0} (marks : H → Marks) (limits : Limits) (counts : Counts) (names : Names)
    (cells : List (Cell H S)) (jobs : JobList (ReadyOp H)) (timers : Timers (Waiting H)) (streams : StreamList (Streaming H))
    (tally : Tally) (name : Name) (sd : Side) (given : Gave) (s : ContextState) (place : ℕ) (buffer : Option (Vec ℕ))
    (closed : Bool) (is_closed : is_leaving s.names.streams name ≡ closed) (shows : Shows marks limits counts names cells jobs s)
    (waits : ShowsWaits marks limits timers s) (tallied : IsTally tally s) (streaming : ShowsStreams marks limits streams s)
    (whole : IsWhole streams) (it : IsReturnable name sd streams place given) (come : Came)
    (is : CameAt place given streams come) (made : Option Name)
    (made_is : made ≡ made_of given (stream_at streams.streams name).reserved) where
  has : Heads marks s name sd it.op
  has = heads marks limits streams s name sd streaming it.op it.head

  -- the operation, and all that is kept of streams
  abbrev item : Streaming H
  item = given_back come buffer it.op.item

  abbrev kept : StreamList (Streaming H)
  kept = with_item place item (back_in name streams)

  abbrev placed : List Place
  placed = place_made given (stream_at s.streams name).reserved s.names.streams

  -- the state in which its socket is back, and its operation as it was
  abbrev waiting : ContextState
  waiting = with_placed placed (with_stream name (returned (stream_at s.streams name)) s.streams) s

  abbrev now_names : Names
  now_names = with_made given (stream_at streams.streams name).reserved names

  abbrev base_streams : StreamList (Streaming H)
  base_streams = given_at place come buffer (back_in name streams)

  abbrev now_streams : StreamList (Streaming H)
  now_streams = opened_of made base_streams

  kept_is : base_streams ≡ kept
  kept_is = ap (λ o. given_if place come buffer (item_of o) (back_in name streams)) it.found

  kept_within : name.place < length streams.streams
  kept_within = first_within streams.streams name sd it.op.op it.head.first

  within : name.place < length s.streams
  within = subst (λ xs. name.place < length xs) streaming.streams_are kept_within

  out_at : (stream_at s.streams name).out ≡ Some sd
  out_at =
      out_is sd (stream_at s.streams name).out
      (ap (λ xs. is_out_for sd (stream_at xs name).out) (sym streaming.streams_are) ∙ it.out)

  fit : fits_back has.known.op.kind it.op.item.moved given ≡ true
  fit = ap (λ k. fits_back k it.op.item.moved given) has.known.kind ∙ it.fit

  came_is : came_of has.known.op.kind given it.op.item.moved it.op.item.cancelled ≡ come
  came_is =
      ap (λ k. came_of k given it.op.item.moved it.op.item.cancelled) has.known.kind ∙ sym (is it.op it.found)

  state_is : back_to name given s ≡ opened_state made waiting
  state_is =
      back_state s name it.op.item.kind it.op.item.moved given it.fit
      ∙ ap (λ m. opened_state m waiting)
      (sym (made_is ∙ ap (λ xs. made_of given (stream_at xs name).reserved) streaming.streams_are))

  names_are : names_placed placed names ≡ now_names
  names_are =
      ap (λ xs. names_placed (place_made given (stream_at xs name).reserved s.names.streams) names)
      (sym streaming.streams_are)
      ∙ ap (λ (ns : Names). names_placed (place_made given (stream_at streams.streams name).reserved ns.streams) names)
      (sym shows.names_are)

  places : length placed ≡ length s.names.streams
  places =
      length_life (if is_made given then life.Alive else life.Free) (stream_at s.streams name).reserved s.names.streams

  waiting_shown : Shows marks limits counts now_names cells jobs waiting
  waiting_shown =
      subst (λ ns. Shows marks limits counts ns cells jobs waiting) names_are
      (placed_shown marks limits counts names cells jobs s placed
      (with_stream name (returned (stream_at s.streams name)) s.streams) shows)

  waiting_waits : ShowsWaits marks limits timers waiting
  waiting_waits =
      placed_waits marks limits timers s placed (with_stream name (returned (stream_at s.streams name)) s.streams)
      (back_many marks limits streams s name sd place it.op item streaming whole it.found it.head) waits

  waiting_tally : IsTally (tally_back tally) waiting
  waiting_tally =
      back_tally marks limits streams s name sd place it.op item streaming whole it.found it.head tally placed out_at tallied

  -- ---- it settles

  module _ (gets : Gets) (settles : come ≡ came.Settles gets) (may : MayOpen made streams.streams) where
    like : IsLike it.op.item item
    like = record {
      lane = refl;
      kind = refl;
      moved = sym (ap (λ c. so_far c it.op.item.moved) settles);
      cancelled = refl;
      handler = refl;
    }

    in_again : is_out_for sd (stream_at waiting.streams name).out ≡ false
    in_again =
        at_with (λ st. is_out_for sd st.out ≡ false) s.streams name (returned (stream_at s.streams name)) within name
        (λ here. refl) (λ elsewhere. absurd (elsewhere refl))

    base : IsSettling marks limits counts now_names cells jobs timers kept (tally_back tally) name sd place gets.code gets.size
        (with_settled it.op.op gets.code gets.size waiting)
    base = record {
      waiting = waiting;
      op = record it.op { item = item };
      found = found_put place it.op item streams.ops it.found;
      head = back_head marks limits streams s name sd place it.op item streaming whole it.found it.head;
      is = refl;
      back = in_again;
      within = subst (λ n. name.place < n) (sym (length-set streams.streams name.place _)) kept_within;
      shows = waiting_shown;
      waits = waiting_waits;
      tallied = waiting_tally;
      pending =
          back_pending marks limits streams s name sd place it.op item streaming whole it.found it.head waiting refl places
          (like_still marks s.ops place it.op item streams.ops like whole.apart it.found streaming.each);
      still = λ other on x first apart_from.
          back_still marks limits streams s name sd place it.op item streaming whole it.found it.head like other on x first;
    }

    -- before the operation completes, as if its stream were still there
    abbrev pub hidden : ContextState
    hidden = with_settled it.op.op gets.code gets.size (opened_state made waiting)

    pub hidden_settling : IsSettling marks limits counts now_names cells jobs timers now_streams (tally_back tally) name sd place
        gets.code gets.size hidden
    hidden_settling =
        subst (λ st. IsSettling marks limits counts now_names cells jobs timers (opened_of made st) (tally_back tally) name sd
        place gets.code gets.size hidden) (sym kept_is)
        (subst (IsSettling marks limits counts now_names cells jobs timers (opened_of made kept) (tally_back tally) name sd
        place gets.code gets.size) (sym (settled_opened made it.op.op gets.code gets.size waiting))
        (opened_next marks limits counts now_names cells jobs timers kept (tally_back tally) name sd place gets.code gets.size
        (with_settled it.op.op gets.code gets.size waiting) made
        (open_with made streams.streams name sd it.op.op (returned (stream_at streams.streams name)) kept_within it.head.first may)
        base))

    settled_is : after (event.Back name sd given) s
        ≡ with_settled it.op.op gets.code gets.size (left_if closed name (opened_state made waiting))
    settled_is =
        back_settles s name sd given closed is_closed has.known.op it.op.op has.first has.known.is it.op.item.moved
        it.op.item.cancelled has.known.phase fit gets (came_is ∙ settles)
        ∙ ap (λ v. with_settled it.op.op gets.code gets.size (left_if closed name v)) state_is

    pub back_settling : closed ≡ false → IsSettling marks limits counts now_names cells jobs timers now_streams (tally_back tally)
        name sd place gets.code gets.size (after (event.Back name sd given) s)
    back_settling open_still =
        subst (IsSettling marks limits counts now_names cells jobs timers now_streams (tally_back tally) name sd place gets.code
        gets.size)
        (sym (settled_is
        ∙ ap (λ c. with_settled it.op.op gets.code gets.size (left_if c name (opened_state made waiting))) open_still))
        hidden_settling

    -- the stream then
    pub now_at : stream_at now_streams.streams name ≡ returned (stream_at streams.streams name)
    now_at =
        let kept_at : stream_at kept.streams name ≡ returned (stream_at streams.streams name) =
        at_with (λ st. st ≡ returned (stream_at streams.streams name)) streams.streams name
        (returned (stream_at streams.streams name)) kept_within name (λ here. refl) (λ elsewhere. absurd (elsewhere refl)) in
        ap (λ st. stream_at (opened_of made st).streams name) kept_is
        ∙ opened_at made kept name sd it.op.op
        (ap (first_of sd) kept_at ∙ first_back sd (stream_at streams.streams name) ∙ it.head.first)
        (open_with made streams.streams name sd it.op.op (returned (stream_at streams.streams name)) kept_within it.head.first may)
        ∙ kept_at

    pub back_leaving : closed ≡ true → after (event.Back name sd given) s ≡ without_stream name hidden
    back_leaving closes =
        settled_is
        ∙ ap (λ c. with_settled it.op.op gets.code gets.size (left_if c name (opened_state made waiting))) closes

  -- ---- or it goes on

  module _ (more : ℕ) (on : come ≡ came.On more) (open_still : closed ≡ false) where
    abbrev going : ContextState
    going = going_on it.op.op more false waiting

    further : GoesOn it.op.item.kind it.op.item.moved more it.op.item.cancelled
    further = goes_on it.op.item.kind given it.op.item.moved more it.op.item.cancelled (sym (is it.op it.found) ∙ on)

    unmade : made ≡ None
    unmade =
        made_is
        ∙ none_made it.op.item.kind given (stream_at streams.streams name).reserved it.op.item.moved more
        it.op.item.cancelled (sym (is it.op it.found) ∙ on)

    after_is : after (event.Back name sd given) s ≡ going
    after_is =
        back_goes_on s name sd given closed is_closed has.known.op it.op.op has.first has.known.is it.op.item.moved
        it.op.item.cancelled has.known.phase fit more (came_is ∙ on)
        ∙ ap (λ (v : ContextState). record v { ops = with_phase it.op.op (phase.Pending more false) s.ops })
        (ap (λ c. left_if c name (back_to name given s)) open_still ∙ state_is ∙ ap (λ m. opened_state m waiting) unmade)

    pub back_shown : Shows marks limits counts now_names cells jobs (after (event.Back name sd given) s)
    back_shown =
        subst (Shows marks limits counts now_names cells jobs) (sym after_is)
        (on_shown it.op.op more false waiting has.known.op has.known.is it.op.item.moved it.op.item.cancelled has.known.phase
        marks limits counts now_names cells jobs waiting_shown)

    pub back_waits : ShowsWaits marks limits timers (after (event.Back name sd given) s)
    back_waits =
        subst (ShowsWaits marks limits timers) (sym after_is)
        (on_waits it.op.op more false waiting has.known.op has.known.is it.op.item.moved it.op.item.cancelled has.known.phase
        marks it.op has.known refl limits timers waiting_waits)

    pub back_tallied : IsTally (tally_back tally) (after (event.Back name sd given) s)
    back_tallied =
        subst (IsTally (tally_back tally)) (sym after_is)
        (on_tally it.op.op more false waiting has.known.op has.known.is it.op.item.moved it.op.item.cancelled has.known.phase
        (tally_back tally) waiting_tally)

    moved_is : item.moved ≡ more
    moved_is = ap (λ c. so_far c it.op.item.moved) on

    new_streaming : IsStreamingAs marks going.ops (record it.op { item = item })
    new_streaming = record {
      op = record has.known.op { phase = phase.Pending more false };
      is = at_changed it.op.op (λ o. phase.Pending more false) s.ops has.known.op has.known.is;
      lane = has.known.lane;
      binding = has.known.binding;
      kind = has.known.kind;
      target = has.known.target;
      given = has.known.given;
      phase = sym (ap (λ m. phase.Pending m it.op.item.cancelled) moved_is ∙ ap (phase.Pending more) further.open_still);
    }

    pending : ShowsPending marks limits kept going
    pending =
        back_pending marks limits streams s name sd place it.op item streaming whole it.found it.head going refl places
        (on_streaming it.op.op more false waiting has.known.op has.known.is it.op.item.moved it.op.item.cancelled has.known.phase
        marks it.op has.known refl place item streams.ops whole.rises (at_place place it.op streams.ops whole.apart it.found)
        it.found new_streaming streaming.each)

    alike : (other : Name) → GivesAlike (stream_at streams.streams other) (stream_at kept.streams other)
    alike other =
        at_with (GivesAlike (stream_at streams.streams other)) streams.streams name
        (returned (stream_at streams.streams name)) kept_within other
        (λ here.
        subst (λ k. GivesAlike (stream_at streams.streams (record { place = k; generation = other.generation }))
        (returned (stream_at streams.streams name))) here
        (record { linked = refl; connects = refl; held = refl; searched = refl }))
        (λ elsewhere. record { linked = refl; connects = refl; held = refl; searched = refl })

    still_itself : IsStill (stream_at streams.streams name) item
    still_itself =
        let stream = stream_at streams.streams name in
        subst (λ m. IsStill stream (record item { moved = m })) (sym moved_is)
        (still_on stream it.op.item.kind it.op.item.moved more it.op.item.cancelled
        (subst (λ xs. IsPlain (stream_at xs name)) (sym streaming.streams_are) (streaming.plain name)) further
        (streaming.heads name sd it.op it.head))

    heads_still : (other : Name) (side : Side) (x : PendingOp (Streaming H)) → IsHead other side kept x →
        IsStill (stream_at kept.streams other) x.item
    heads_still other side x head =
        by_test (it.op.op == x.op)
        (λ this.
        let number : it.op.op ≡ x.op = equal it.op.op x.op this in
        let one : record it.op { item = item } ≡ x =
        some_is (record it.op { item = item }) x
        (sym (numbered_put place it.op item streams.ops whole.rises it.found)
        ∙ ap (λ n. numbered_in n kept.ops) number ∙ head.numbered) in
        let at : name.place ≡ other.place =
        sym it.head.place ∙ ap (λ (y : PendingOp (Streaming H)). y.stream.place) one ∙ head.place in
        still_alike (stream_at streams.streams other) (stream_at kept.streams other) x.item (alike other)
        (subst (λ k. IsStill (stream_at streams.streams (record { place = k; generation = other.generation })) x.item) at
        (subst (λ (y : PendingOp (Streaming H)). IsStill (stream_at streams.streams name) y.item) one still_itself)))
        (λ isnt.
        still_alike (stream_at streams.streams other) (stream_at kept.streams other) x.item (alike other)
        (streaming.heads other side x
        (record {
          first =
              sym (kept_by (first_of side) returned (first_back side) streams.streams name kept_within other) ∙ head.first;
          numbered =
              other_put x.op place it.op x item streams.ops (at_place place it.op streams.ops whole.apart it.found)
              (λ e. apart it.op.op x.op isnt (sym e)) head.numbered;
          place = head.place;
          on = head.on;
        })))

    pub back_streams : ShowsStreams marks limits now_streams (after (event.Back name sd given) s)
    back_streams =
        subst (ShowsStreams marks limits now_streams) (sym after_is)
        (subst (λ st. ShowsStreams marks limits st going) (sym (ap (λ m. opened_of m base_streams) unmade ∙ kept_is))
        (record {
          streams_are = pending.streams_are;
          places = pending.places;
          few = pending.few;
          each = pending.each;
          all = pending.all;
          room = pending.room;
          plain = pending.plain;
          heads = heads_still;
          busy = pending.busy;
        }))

-- ---- what has come

module _ (limits : Limits) (name : Name) (sd : Side) (given : Gave) (past new : List Event)
    (may : MayHappen (state_of limits past) (event.Back name sd given)) where
  pub came_on : new ≡ event.Back name sd given ∷ past → HasComeBack limits name sd given past new
  came_on is = record { ends = []; come = record { may = (may, tt); is = is } }

  pub came_settled : (mid : List Event) → HasSettled limits (event.Back name sd given ∷ past) mid → HaveSettled limits mid new →
      HasComeBack limits name sd given past new
  came_settled mid one rest =
      let behind_one = subst (λ m. HaveSettled limits m new) one.is rest in
      record {
        ends = one.ends ∷ behind_one.ends;
        come = record { may = (may, (one.may, behind_one.come.may)); is = behind_one.come.is };
      }

pub has_returned : (limits : Limits) (name : Name) (sd : Side) (given : Gave) (past new : List Event) →
    HasComeBack limits name sd given past new → HasReturned name sd given (state_of limits past) (state_of limits new)
has_returned limits name sd given past new back = record {
  ends = back.ends;
  may = back.come.may;
  is =
      ap (state_of limits) back.come.is
      ∙ state_with limits (event.Back name sd given ∷ all_done back.ends) past;
}
