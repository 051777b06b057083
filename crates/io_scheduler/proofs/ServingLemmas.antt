-- The first operation of a side gets what it can with no system call: it settles, or nothing changes.
use Rattle.std.proofs.Common.{arith, ap, refl, subst, sym, ◌∙◌, ⊎_elim}
use Rattle.std.proofs.lemmas.Bool.{true≢false}
use Rattle.std.proofs.lemmas.List.{append-nil, set-get_or}
use Rattle.std.specs.Prelude.{◌≡◌, ℕ, ◌+◌, ◌-◌, ◌==◌, ◌&&◌, min, nat_le, not, Bool, true, false, List, [], ◌∷◌, ◌++◌, Option, Some, None, if◌then◌else◌}
use Rattle.std.specs.Bool.{OnFalse}
use Rattle.asio_types.specs.declared.code.Code.{Code}
use Rattle.asio_types.specs.declared.code.Code.TheVariants as code
use Rattle.io_rules.specs.declared.event.Event.{Event}
use Rattle.io_rules.specs.declared.event.Event.TheVariants as event
use Rattle.io_rules.specs.declared.limits.Limits.{Limits}
use Rattle.io_rules.specs.declared.name.Name.{Name}
use Rattle.io_rules.specs.declared.op.Op.{Op}
use Rattle.io_rules.specs.declared.op.Phase.{Phase}
use Rattle.io_rules.specs.declared.op.Phase.TheVariants as phase
use Rattle.io_rules.specs.declared.operation.Operation.{Operation}
use Rattle.io_rules.specs.declared.operation.Operation.TheVariants as operation
use Rattle.io_rules.specs.declared.operation.Side.{Side}
use Rattle.io_rules.specs.declared.request.Marks.{Marks}
use Rattle.io_rules.specs.Names.{Names}
use Rattle.io_rules.specs.Operations.{Target}
use Rattle.io_rules.specs.Ops.{is_pending, is_settled, op_at, phase_changed, phase_changed_of, with_phase}
use Rattle.io_rules.specs.Serving.{Served, first_of, is_none_of, now_held, now_settled, op_of, served, served_on, served_op, served_phase, settles, stays, with_held}
use Rattle.io_rules.specs.State.{ContextState, StreamState, new_stream, stream_at, with_stream}
use Rattle.io_rules.proofs.StrandLemmas.{by_test}
use Rattle.io_rules.proofs.TotalLemmas.{apart, equal, number-op_at}
use Rattle.io_strands.specs.declared.ready.ReadyOp.{ReadyOp}
use Rattle.io_strands.specs.Cell.{Cell}
use Rattle.io_jobs.specs.Listed.{JobList}
use Rattle.io_streams.specs.declared.pending.PendingOp.{PendingOp}
use Rattle.io_streams.specs.Pending.{IsHead, StreamList, numbered_in}
use Rattle.io_timers.specs.Pending.{Timers}
use Rattle.io_scheduler.specs.declared.counts.Counts.{Counts}
use Rattle.io_scheduler.specs.declared.settling.Gets.{Gets}
use Rattle.io_scheduler.specs.declared.streaming.Streaming.{Streaming}
use Rattle.io_scheduler.specs.declared.tally.Tally.{Tally}
use Rattle.io_scheduler.specs.declared.waiting.Waiting.{Waiting}
use Rattle.io_scheduler.specs.Come.{HaveCome}
use Rattle.io_scheduler.specs.Settling.{Ends, HaveSettled, IsAtOnce, IsNotAtOnce, IsServing, IsSettledIf, IsSettling, all_done, gets_at_once, gets_if, has_none, stays_first, with_settled}
use Rattle.io_scheduler.specs.Shown.{Shows}
use Rattle.io_scheduler.specs.Streams.{IsPlain, IsStill, IsStreamingAs, ShowsStreams}
use Rattle.io_scheduler.specs.Tallied.{IsTally}
use Rattle.io_scheduler.specs.Waits.{ShowsWaits}
use Rattle.io_scheduler.proofs.ComeLemmas.{come_more}
use Rattle.io_scheduler.proofs.LeavingLemmas.{same_or}
use Rattle.io_scheduler.proofs.ServedLemmas.{served_nothing}
use Rattle.io_scheduler.proofs.TriedLemmas.{streaming_at}

some_is : {X : Type 0} (a b : X) → Some a ≡ Some b → a ≡ b
some_is a b is = cc

none_is : {X : Type 0} (a : X) → None ≡ Some a → ⊥
none_is a is = cc

-- ---- where no bytes are held

abbrev pub as_served : Option Gets → ℕ → Bool → ℕ → Served
as_served None moved cancelled held = stays moved cancelled held
as_served (Some gets) moved cancelled held = settles gets.code gets.size held

module _ (stream : StreamState) (moved : ℕ) (cancelled : Bool) (plain : IsPlain stream) where
  empty_buffer : (size : ℕ) (b : Bool) →
      (if b then settles code.Ok 0 stream.held else stays moved cancelled stream.held)
      ≡ as_served (gets_if b code.Ok 0) moved cancelled stream.held
  empty_buffer size true = refl
  empty_buffer size false = refl

  read_some : (size : ℕ) (b : Bool) →
      (if b then settles code.Ok 0 stream.held else if (stream.held == 0) then stays moved cancelled stream.held
      else settles code.Ok (min size stream.held) (stream.held - min size stream.held))
      ≡ as_served (gets_if b code.Ok 0) moved cancelled stream.held
  read_some size true = refl
  read_some size false =
      ap (λ b. if b then stays moved cancelled stream.held
      else settles code.Ok (min size stream.held) (stream.held - min size stream.held)) (ap (λ h. h == 0) plain.held)

  read_all : (size : ℕ) (b : Bool) →
      (if b then settles code.Ok size (0 - (size - moved)) else stays (moved + 0) cancelled 0)
      ≡ as_served (gets_if b code.Ok size) moved cancelled 0
  read_all size true = ap (settles code.Ok size) (let none : 0 - (size - moved) ≡ 0 = omega arith in none)
  read_all size false = ap (λ m. stays m cancelled 0) (let all : moved + 0 ≡ moved = omega arith in all)

  read_until : (b : Bool) →
      (if b then settles code.NotFound 0 stream.held else stays moved cancelled stream.held)
      ≡ as_served (gets_if b code.NotFound 0) moved cancelled stream.held
  read_until true = refl
  read_until false = refl

  -- the rules' choice, where no connect is pending
  chosen : (linked : Served) (gets : Option Gets) → linked ≡ as_served gets moved cancelled stream.held → (b : Bool) →
      (if b then linked else settles code.Bad moved stream.held)
      ≡ as_served (if b then gets else Some (record { code = code.Bad; size = moved })) moved cancelled stream.held
  chosen linked gets is true = is
  chosen linked gets is false = refl

  no_connects : (linked : Served) →
      (if not (is_none_of stream.connects) then stays moved cancelled stream.held
      else if stream.linked then linked else settles code.Bad moved stream.held)
      ≡ (if stream.linked then linked else settles code.Bad moved stream.held)
  no_connects linked =
      ap (λ c. if not (is_none_of c) then stays moved cancelled stream.held
      else if stream.linked then linked else settles code.Bad moved stream.held) plain.connects

  on_linked : (linked : Served) (gets : Option Gets) → linked ≡ as_served gets moved cancelled stream.held →
      (if not (is_none_of stream.connects) then stays moved cancelled stream.held
      else if stream.linked then linked else settles code.Bad moved stream.held)
      ≡ as_served (if stream.linked then gets else Some (record { code = code.Bad; size = moved })) moved cancelled stream.held
  on_linked linked gets is = no_connects linked ∙ chosen linked gets is stream.linked

  on_connect : (b : Bool) → (if b then settles code.Bad moved stream.held else stays moved cancelled stream.held)
      ≡ as_served (gets_if b code.Bad moved) moved cancelled stream.held
  on_connect true = refl
  on_connect false = refl

  pub served_is : (kind : Operation) →
      served_on stream moved cancelled kind ≡ as_served (gets_at_once stream.linked kind moved) moved cancelled stream.held
  served_is (operation.Accept listener) = refl
  served_is (operation.Connect name) = on_connect stream.linked
  served_is operation.Post = on_linked (stays moved cancelled stream.held) None refl
  served_is operation.Defer = on_linked (stays moved cancelled stream.held) None refl
  served_is operation.Dispatch = on_linked (stays moved cancelled stream.held) None refl
  served_is (operation.Wait timer) = on_linked (stays moved cancelled stream.held) None refl
  served_is (operation.ReadSome name size) = on_linked _ (gets_if (size == 0) code.Ok 0) (read_some size (size == 0))
  served_is (operation.ReadAll name size) =
      on_linked _ (gets_if (nat_le size moved) code.Ok size)
      (ap (λ h. if nat_le size (moved + h) then settles code.Ok size (h - (size - moved)) else stays (moved + h) cancelled 0)
      plain.held
      ∙ ap (λ m. if nat_le size m then settles code.Ok size (0 - (size - moved)) else stays (moved + 0) cancelled 0)
      (let all : moved + 0 ≡ moved = omega arith in all)
      ∙ read_all size (nat_le size moved)
      ∙ ap (as_served (gets_if (nat_le size moved) code.Ok size) moved cancelled) (sym plain.held))
  served_is (operation.ReadUntil name max) =
      on_linked _ (gets_if (nat_le max 0) code.NotFound 0)
      (ap (λ k. if nat_le max k then settles code.NotFound 0 stream.held else stays moved cancelled stream.held) plain.searched
      ∙ read_until (nat_le max 0))
  served_is (operation.WriteSome name size) = on_linked _ (gets_if (size == 0) code.Ok 0) (empty_buffer size (size == 0))
  served_is (operation.WriteAll name size) = on_linked _ (gets_if (size == 0) code.Ok 0) (empty_buffer size (size == 0))

-- ---- it settles

pub phase-at : (n : ℕ) (f : Op → Phase) (ops : List Op) (it : Op) → op_at ops n ≡ Some it →
    phase_changed n f ops ≡ with_phase n (f it) ops
phase-at n f [] it is = refl
phase-at n f (x ∷ ops) it is =
    by_test (x.number == n)
    (λ here.
    let one : x ≡ it = some_is x it (sym (ap (λ b. if b then Some x else op_at ops n) here) ∙ is) in
    ap (λ b. if b then record x { phase = f x } ∷ ops else x ∷ phase_changed n f ops) here
    ∙ ap (λ (y : Op). record x { phase = f y } ∷ ops) one
    ∙ sym (ap (λ b. if b then record x { phase = f it } ∷ ops else x ∷ with_phase n (f it) ops) here))
    (λ other.
    ap (λ b. if b then record x { phase = f x } ∷ ops else x ∷ phase_changed n f ops) other
    ∙ ap (λ rest. x ∷ rest) (phase-at n f ops it (sym (ap (λ b. if b then Some x else op_at ops n) other) ∙ is))
    ∙ sym (ap (λ b. if b then record x { phase = f it } ∷ ops else x ∷ with_phase n (f it) ops) other))

plain_held : (stream : StreamState) → IsPlain stream →
    with_held stream.held (min stream.searched stream.held) stream ≡ stream
plain_held stream plain =
    ap (λ k. with_held stream.held k stream)
    (ap (λ k. min k stream.held) plain.searched ∙ ap (λ k. min 0 k) plain.held ∙ sym plain.searched)

abbrev served_by : Target → List Op → List ℕ → ℕ → ContextState → ContextState
served_by t ops more held s =
    let stream = stream_at s.streams t.stream in
    record s {
      ops = ops;
      settled = s.settled ++ more;
      streams = with_stream t.stream (with_held held (min stream.searched held) stream) s.streams;
    }

pub served_settles : (s : ContextState) (t : Target) (n : ℕ) (it : Op) (given : Code) (size : ℕ) →
    IsPlain (stream_at s.streams t.stream) → first_of t.side (stream_at s.streams t.stream) ≡ Some n →
    op_at s.ops n ≡ Some it → is_pending it.phase ≡ true →
    served_op (stream_at s.streams t.stream) t.side it ≡ settles given size (stream_at s.streams t.stream).held →
    served (Some t) s ≡ with_settled n given size s
served_settles s t n it given size plain first is pending gets =
    let stream = stream_at s.streams t.stream in
    let f : Op → Phase = λ op. (served_op stream t.side op).phase in
    let number = number-op_at n s.ops it is in
    ap (λ o. served_by t (phase_changed_of o f s.ops) (now_settled stream t.side (op_of s.ops o)) (now_held stream t.side (op_of s.ops o)) s) first
    ∙ ap (λ o. served_by t (phase_changed n f s.ops) (now_settled stream t.side o) (now_held stream t.side o) s) is
    ∙ ap (λ ops. served_by t ops (now_settled stream t.side (Some it)) (served_op stream t.side it).held s) (phase-at n f s.ops it is)
    ∙ ap (λ (g : Served). served_by t (with_phase n g.phase s.ops)
    (if is_pending it.phase && is_settled g.phase then it.number ∷ [] else []) g.held s) gets
    ∙ ap (λ b. served_by t (with_phase n (phase.Settled given size) s.ops) (if b && true then it.number ∷ [] else []) stream.held s)
    pending
    ∙ ap (λ k. served_by t (with_phase n (phase.Settled given size) s.ops) (k ∷ []) stream.held s) number
    ∙ ap (λ st. record (with_settled n given size s) { streams = with_stream t.stream st s.streams }) (plain_held stream plain)
    ∙ ap (λ xs. record (with_settled n given size s) { streams = xs }) (set-get_or s.streams t.stream.place new_stream)

-- ---- for the scheduler

module _ {H S : Type 0} (marks : H → Marks) (limits : Limits) (counts : Counts) (names : Names)
    (cells : List (Cell H S)) (jobs : JobList (ReadyOp H)) (timers : Timers (Waiting H)) (streams : StreamList (Streaming H))
    (tally : Tally) (name : Name) (sd : Side) (s : ContextState)
    (serving : IsServing marks limits counts names cells jobs timers streams tally name sd s) where
  abbrev v : ContextState
  v = serving.waiting

  states_are : streams.streams ≡ v.streams
  states_are = serving.pending.streams_are

  plain : IsPlain (stream_at v.streams name)
  plain = serving.pending.plain name

  module _ (op : PendingOp (Streaming H)) (head : IsHead name sd streams op) where
    known : IsStreamingAs marks v.ops op
    known = streaming_at marks v.ops op.op op streams.ops head.numbered serving.pending.each

    first : first_of sd (stream_at v.streams name) ≡ Some op.op
    first = ap (λ xs. first_of sd (stream_at xs name)) (sym states_are) ∙ head.first

    -- what it gets
    got : served_op (stream_at v.streams name) sd known.op
        ≡ as_served (gets_at_once (stream_at streams.streams name).linked op.item.kind op.item.moved) op.item.moved
        op.item.cancelled (stream_at v.streams name).held
    got =
        let stream = stream_at v.streams name in
        ap (λ b. if b then record { phase = known.op.phase; held = stream.held }
        else served_phase stream known.op.kind known.op.phase) serving.back
        ∙ ap (served_phase stream known.op.kind) known.phase
        ∙ ap (served_on stream op.item.moved op.item.cancelled) known.kind
        ∙ served_is stream op.item.moved op.item.cancelled plain op.item.kind
        ∙ ap (λ xs. as_served (gets_at_once (stream_at xs name).linked op.item.kind op.item.moved) op.item.moved
        op.item.cancelled stream.held) (sym states_are)

  -- it settles
  pub settling_now : (place : ℕ) (given : Code) (size : ℕ) → IsAtOnce name sd streams place given size →
      IsSettling marks limits counts names cells jobs timers streams tally name sd place given size s
  settling_now place given size it = record {
    waiting = v;
    op = it.op;
    found = it.found;
    head = it.head;
    is =
        serving.is
        ∙ served_settles v (record { stream = name; side = sd }) it.op.op (known it.op it.head).op given size plain
        (first it.op it.head) (known it.op it.head).is (ap is_pending (known it.op it.head).phase)
        (got it.op it.head
        ∙ ap (λ g. as_served g it.op.item.moved it.op.item.cancelled (stream_at v.streams name).held) it.gets);
    back = serving.back;
    within = serving.within;
    shows = serving.shows;
    waits = serving.waits;
    tallied = serving.tallied;
    pending = serving.pending;
    still = serving.still;
  }

  -- or nothing changes
  module _ (over : IsNotAtOnce name sd streams) where
    gets_none : (op : PendingOp (Streaming H)) → IsHead name sd streams op →
        gets_at_once (stream_at streams.streams name).linked op.item.kind op.item.moved ≡ None
    gets_none op head = by_case over
      where
        by_case : IsNotAtOnce name sd streams → gets_at_once (stream_at streams.streams name).linked op.item.kind op.item.moved ≡ None
        by_case (has_none none) = absurd (none_is op.op (sym none ∙ head.first))
        by_case (stays_first it its gets) =
            let number : it.op ≡ op.op = some_is it.op op.op (sym its.first ∙ head.first) in
            let one : it ≡ op = some_is it op (sym its.numbered ∙ ap (λ n. numbered_in n streams.ops) number ∙ head.numbered) in
            subst (λ (x : PendingOp (Streaming H)).
            gets_at_once (stream_at streams.streams name).linked x.item.kind x.item.moved ≡ None) one gets

    unserved : (n : ℕ) (it : Op) → first_of sd (stream_at v.streams name) ≡ Some n → op_at v.ops n ≡ Some it →
        served_op (stream_at v.streams name) sd it ≡ record { phase = it.phase; held = (stream_at v.streams name).held }
    unserved n it first_is is = by_case over
      where
        by_case : IsNotAtOnce name sd streams →
            served_op (stream_at v.streams name) sd it ≡ record { phase = it.phase; held = (stream_at v.streams name).held }
        by_case (has_none none) =
            absurd (none_is n (sym none ∙ ap (λ xs. first_of sd (stream_at xs name)) states_are ∙ first_is))
        by_case (stays_first op head gets) =
            let number : op.op ≡ n = some_is op.op n (sym (first op head) ∙ first_is) in
            let one : (known op head).op ≡ it =
            some_is (known op head).op it (sym (known op head).is ∙ ap (op_at v.ops) number ∙ is) in
            subst (λ (x : Op). served_op (stream_at v.streams name) sd x
            ≡ record { phase = x.phase; held = (stream_at v.streams name).held }) one
            (got op head
            ∙ ap (λ g. as_served g op.item.moved op.item.cancelled (stream_at v.streams name).held) gets
            ∙ ap (λ (p : Phase). record { phase = p; held = (stream_at v.streams name).held }) (sym (known op head).phase))

    pub waiting_is : v ≡ s
    waiting_is =
        sym (serving.is ∙ served_nothing v (record { stream = name; side = sd }) plain unserved
        ∙ ap (λ l. record v { settled = l }) (append-nil v.settled))

    pub over_shows : Shows marks limits counts names cells jobs s
    over_shows = subst (Shows marks limits counts names cells jobs) waiting_is serving.shows

    pub over_waits : ShowsWaits marks limits timers s
    over_waits = subst (ShowsWaits marks limits timers) waiting_is serving.waits

    pub over_tally : IsTally tally s
    over_tally = subst (IsTally tally) waiting_is serving.tallied

    still_first : (op : PendingOp (Streaming H)) → IsHead name sd streams op → IsStill (stream_at streams.streams name) op.item
    still_first op head =
        let stream = stream_at streams.streams name in
        served_is stream op.item.moved op.item.cancelled (subst (λ xs. IsPlain (stream_at xs name)) (sym states_are) plain)
        op.item.kind
        ∙ ap (λ g. as_served g op.item.moved op.item.cancelled stream.held) (gets_none op head)

    still_all : (other : Name) (on : Side) (op : PendingOp (Streaming H)) → IsHead other on streams op →
        IsStill (stream_at streams.streams other) op.item
    still_all other on op head =
        by_test (name.place == other.place)
        (λ here.
        let at_place : other.place ≡ name.place = sym (equal name.place other.place here) in
        ⊎_elim (λ (isnt : sd ≡ on → ⊥). serving.still other on op head (λ place is. isnt is))
        (λ (is : sd ≡ on).
        subst (λ k. IsStill (stream_at streams.streams (record { place = k; generation = name.generation })) op.item) (sym at_place)
        (still_first op
        (record {
          first =
              ap (λ k. first_of sd (stream_at streams.streams (record { place = k; generation = name.generation }))) (sym at_place)
              ∙ ap (λ x. first_of x (stream_at streams.streams other)) is ∙ head.first;
          numbered = head.numbered;
          place = head.place ∙ at_place;
          on = head.on ∙ sym is;
        })))
        (same_or sd on))
        (λ elsewhere. serving.still other on op head (λ place is. absurd (apart name.place other.place elsewhere (sym place))))

    pub over_streams : ShowsStreams marks limits streams s
    over_streams =
        let pending = serving.pending in
        subst (ShowsStreams marks limits streams) waiting_is
        (record {
          streams_are = pending.streams_are;
          places = pending.places;
          few = pending.few;
          each = pending.each;
          all = pending.all;
          room = pending.room;
          plain = pending.plain;
          heads = still_all;
          busy = pending.busy;
        })

-- ---- one after another

all_done_more : (ends : List Ends) (one : Ends) →
    all_done (ends ++ one ∷ []) ≡ all_done ends ++ event.Done one.op one.code one.size ∷ []
all_done_more [] one = refl
all_done_more (x ∷ ends) one = ap (λ events. event.Done x.op x.code x.size ∷ events) (all_done_more ends one)

pub none_settled : (limits : Limits) (past : List Event) → HaveSettled limits past past
none_settled limits past = record { ends = []; come = record { may = tt; is = refl } }

pub one_settled : (limits : Limits) (more : Bool) (first old new : List Event) → HaveSettled limits first old →
    IsSettledIf more limits old new → HaveSettled limits first new
one_settled limits true first old new have has =
    let e = event.Done has.ends.op has.ends.code has.ends.size in
    record {
      ends = have.ends ++ has.ends ∷ [];
      come =
          subst (λ events. HaveCome limits events first new) (sym (all_done_more have.ends has.ends))
          (come_more limits (all_done have.ends) first old new e have.come has.may has.is);
    }
one_settled limits false first old new have same = subst (HaveSettled limits first) (sym same) have

pub over_now : {H : Type 0} (name : Name) (sd : Side) (streams : StreamList (Streaming H)) (more : Bool) →
    OnFalse more (IsNotAtOnce name sd streams) → more ≡ false → IsNotAtOnce name sd streams
over_now name sd streams true over is = absurd (true≢false is)
over_now name sd streams false over is = over
