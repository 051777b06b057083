-- An operation is posted: what is kept shows the state behind its call.
use Rattle.std.proofs.Common.{arith, ap, refl, subst, sym, ◌∙◌}
use Rattle.std.proofs.lemmas.Bool.{ltb-true, true≢false}
use Rattle.std.proofs.lemmas.List.{get_or-set_other, get_or-set_same, length_push, map-set}
use Rattle.std.proofs.Math.Seq.{map-set_same}
use Rattle.std.specs.Global.{Vec}
use Rattle.std.specs.Prelude.{◌≡◌, ◌<◌, ℕ, ◌+◌, ◌-◌, ◌==◌, Bool, true, false, List, [], ◌∷◌, ◌++◌, Option, None, length, map, nat_lt, not, sum_by}
use Rattle.std.specs.List.{slice_set}
use Rattle.asio_types.specs.declared.code.Code.{Code}
use Rattle.asio_types.specs.declared.code.Code.TheVariants as code
use Rattle.io_rules.specs.declared.event.Event.TheVariants as event
use Rattle.io_rules.specs.declared.limits.Limits.{Limits}
use Rattle.io_rules.specs.declared.name.Lane.{Lane}
use Rattle.io_rules.specs.declared.name.Lane.TheVariants as lane
use Rattle.io_rules.specs.declared.name.Name.{Name}
use Rattle.io_rules.specs.declared.op.Op.{Op}
use Rattle.io_rules.specs.declared.op.Wait.{Wait}
use Rattle.io_rules.specs.declared.op.Phase.TheVariants as phase
use Rattle.io_rules.specs.declared.operation.Operation.{Operation}
use Rattle.io_rules.specs.declared.operation.Operation.TheVariants as operation
use Rattle.io_rules.specs.declared.request.Gone.TheVariants as gone
use Rattle.io_rules.specs.declared.request.Marks.{Marks}
use Rattle.io_rules.specs.Calls.{IsWithin, accepted, caller_lane, gone_by, gone_of, is_lane_gone}
use Rattle.io_rules.specs.Legal.{MayHappen, after}
use Rattle.io_rules.specs.Names.{Names, is_alive, is_current, is_living, place_at}
use Rattle.io_rules.specs.Operations.{is_posting, target_of}
use Rattle.io_rules.specs.Room.{numbers_left, place_given_by, promised_left, room_left}
use Rattle.io_rules.specs.Serving.{served}
use Rattle.io_rules.specs.State.{ContextState, strand_at}
use Rattle.io_rules.specs.Strands.{Entry, called_on, entry_of_dispatch, entry_of_kind, on_lane}
use Rattle.io_rules.proofs.TotalLemmas.{equal, apart, sum_by-total, total-push}
use Rattle.io_rules.proofs.StrandLemmas.{both, by_test}
use Rattle.io_history.proofs.AtLemmas.{at-push}
use Rattle.io_strands.specs.declared.ready.ReadyOp.{ReadyOp}
use Rattle.io_strands.specs.Cell.{Cell, called, is_there, may_begin, vacant}
use Rattle.io_strands.specs.Numbered.{numbered}
use Rattle.io_strands.proofs.StepLemmas.{steps_alike}
use Rattle.io_jobs.specs.Listed.{JobList}
use Rattle.io_scheduler.specs.declared.counts.Counts.{Counts}
use Rattle.io_scheduler.specs.Counted.{may_post}
use Rattle.io_scheduler.specs.Entered.{entered_cells, entered_jobs}
use Rattle.io_scheduler.specs.Ready.{AreReady, IsReadyAs, own_ops}
use Rattle.io_scheduler.specs.Shown.{AreBelow, Shows, ShowsCell, cell_at, lane_of_place, room_of, waits_own}
use Rattle.io_scheduler.specs.Posted.{counts_posted, posting, ready_posting}
use Rattle.io_scheduler.proofs.ListedLemmas.{cell_is, flag_is, listed-if, not_before, own-if, own-push, room-if}
use Rattle.io_scheduler.proofs.SpareLemmas.{spares_push}
use Rattle.io_scheduler.proofs.SpaceLemmas.{living_used, not_gone, there_if, there_is, three, within_cells}
use Rattle.io_scheduler.proofs.ReadyLemmas.{Keeps, at_new, below-push, none_next, ready-called, ready-kept, ready-push}

-- the operation that is posted
abbrev pub posted_op : ℕ → Lane → Operation → Marks → Code → Op
posted_op n on kind marks code = record {
  number = n;
  lane = on;
  binding = None;
  kind = kind;
  marks = marks;
  phase = phase.Ready code 0;
}

-- the state behind it, with what is settled and what waits then
abbrev pub posted : Bool → ℕ → Lane → Op → List ℕ → List Wait → ContextState → ContextState
posted first n on new settled waits s = record s {
  next = s.next + 1;
  room = s.room - 1;
  ops = s.ops ++ new ∷ [];
  settled = settled;
  waits = waits;
  strands = on_lane on (called_on (entry_of_dispatch first) n) s.strands;
}

pub keeps_posted : (ops : List Op) (new : Op) → Keeps ops (ops ++ new ∷ [])
keeps_posted ops new n op is ready = at-push n ops new op is

is_ready_new : {H : Type 0} (marks : H → Marks) (ops : List Op) (n : ℕ) (on : Lane) (kind : Operation) (code : Code)
    (buffer : Option (Vec ℕ)) (handler : H) → AreBelow n ops →
    IsReadyAs marks (ops ++ posted_op n on kind (marks handler) code ∷ []) on (ready_posting n code buffer handler)
is_ready_new marks ops n on kind code buffer handler below = record {
  op = posted_op n on kind (marks handler) code;
  is = at_new ops (posted_op n on kind (marks handler) code) below;
  lane = refl;
  given = refl;
  phase = refl;
}

-- what is ready elsewhere stays
pub others_ready : {H S : Type 0} (marks : H → Marks) (ops : List Op) (new : Op) (n : ℕ) (on : Lane) (c : Cell H S) →
    ShowsCell marks ops n on c → ShowsCell marks (ops ++ new ∷ []) (n + 1) on c
others_ready marks ops new n on c shows =
    let le = shows.tied in record {
      ready = ready-kept marks ops (ops ++ new ∷ []) on c.queue (keeps_posted ops new) shows.ready;
      tied = omega (arith, le);
      idle = shows.idle;
    }

tied_called : {H S : Type 0} (first : Bool) (op : ReadyOp H) (c : Cell H S) →
    (called (entry_of_dispatch first) op c).tied ≡ c.tied + 1
tied_called false op c = refl
tied_called true op c = refl

there_called : {H S : Type 0} (first : Bool) (op : ReadyOp H) (c : Cell H S) →
    is_there (called (entry_of_dispatch first) op c) ≡ is_there c
there_called false op c = refl
there_called true op c = refl

room_called : {H S : Type 0} (first : Bool) (op : ReadyOp H) (c : Cell H S) →
    room_of (called (entry_of_dispatch first) op c) ≡ room_of c
room_called false op c = refl
room_called true op c = refl

-- the strand of the new one
here_ready : {H S : Type 0} (marks : H → Marks) (ops : List Op) (n : ℕ) (on : Lane) (kind : Operation) (code : Code)
    (buffer : Option (Vec ℕ)) (handler : H) (first : Bool) (c : Cell H S) → is_there c ≡ true → AreBelow n ops → ShowsCell marks ops n on c →
    ShowsCell marks (ops ++ posted_op n on kind (marks handler) code ∷ []) (n + 1) on
    (called (entry_of_dispatch first) (ready_posting n code buffer handler) c)
here_ready marks ops n on kind code buffer handler first c there below shows =
    let new = posted_op n on kind (marks handler) code in
    let ready = ready_posting n code buffer handler in
    let le = shows.tied in
    let tied = tied_called first ready c in
    record {
      ready = ready-called marks (ops ++ new ∷ []) on first c ready
          (ready-kept marks ops (ops ++ new ∷ []) on c.queue (keeps_posted ops new) shows.ready)
          (is_ready_new marks ops n on kind code buffer handler below) (none_next marks n ops on c.queue below shows.ready);
      tied = omega (arith, le, tied);
      idle = λ isnt. absurd (true≢false (sym there ∙ sym (there_called first (ready_posting n code buffer handler) c) ∙ isnt));
    }

pub own_count : (ops : List Op) (new : Op) → sum_by waits_own (ops ++ new ∷ []) ≡ sum_by waits_own ops + waits_own new
own_count ops new =
    sum_by-total waits_own (ops ++ new ∷ []) ∙ total-push waits_own ops new
    ∙ ap (λ n. n + waits_own new) (sym (sum_by-total waits_own ops))

-- without a strand
posted_own : {H S : Type 0} (marks : H → Marks) (limits : Limits) (counts : Counts) (names : Names)
    (cells : List (Cell H S)) (jobs : JobList (ReadyOp H)) (s : ContextState) (first : Bool) (kind : Operation)
    (code : Code) (buffer : Option (Vec ℕ)) (handler : H) (settled : List ℕ) (waits : List Wait) → settled ≡ [] →
    Shows marks limits counts names cells jobs s →
    Shows marks limits (counts_posted counts) names cells
    (entered_jobs first lane.Own (ready_posting s.next code buffer handler) cells jobs)
    (posted first s.next lane.Own (posted_op s.next lane.Own kind (marks handler) code) settled waits s)
posted_own marks limits counts names cells jobs s first kind code buffer handler settled waits none shows =
    let n = s.next in
    let new = posted_op n lane.Own kind (marks handler) code in
    let ready = ready_posting n code buffer handler in
    let push = own-push jobs.ring ready in
    let longer = length_push (own_ops jobs.ring) ready in
    let count = own_count s.ops new in let all = shows.own_all in
    record {
      limits_are = shows.limits_are;
      counts_are = ap counts_posted shows.counts_are;
      names_are = shows.names_are;
      below = below-push n s.ops new shows.below refl;
      spares = spares_push s.names.strands s.ops new shows.spares tt;
      strands = shows.strands;
      there = shows.there;
      rooms = shows.rooms;
      each = λ k. others_ready marks s.ops new n (lane_of_place s.names.strands k) (cell_at cells k) (shows.each k);
      listed = shows.listed;
      own = subst (AreReady marks (s.ops ++ new ∷ []) lane.Own) (sym push)
          (ready-push marks (s.ops ++ new ∷ []) lane.Own (own_ops jobs.ring) ready
          (ready-kept marks s.ops (s.ops ++ new ∷ []) lane.Own (own_ops jobs.ring) (keeps_posted s.ops new) shows.own)
          (is_ready_new marks s.ops n lane.Own kind code buffer handler shows.below)
          (none_next marks n s.ops lane.Own (own_ops jobs.ring) shows.below shows.own));
      own_all = ap length push ∙ omega (arith, longer, count, all);
      own_room = shows.own_room;
      settled = none;
      going = shows.going;
    }

-- a name that is current is the one of its place
pub lane_current : (names : Names) (name : Name) → is_current names.strands name ≡ true →
    lane_of_place names.strands name.place ≡ lane.Strand name
lane_current names name is =
    ap (λ g. lane.Strand (record { place = name.place; generation = g }))
    (equal (place_at names.strands name.place).generation name.generation is)

-- on a strand
posted_strand : {H S : Type 0} (marks : H → Marks) (limits : Limits) (counts : Counts) (names : Names)
    (cells : List (Cell H S)) (jobs : JobList (ReadyOp H)) (s : ContextState) (first : Bool) (name : Name)
    (kind : Operation) (code : Code) (buffer : Option (Vec ℕ)) (handler : H) (settled : List ℕ) (waits : List Wait) → settled ≡ [] →
    is_current s.names.strands name ≡ true → name.place < length cells → is_there (cell_at cells name.place) ≡ true →
    Shows marks limits counts names cells jobs s →
    Shows marks limits (counts_posted counts) names
    (entered_cells first (lane.Strand name) (ready_posting s.next code buffer handler) cells)
    (entered_jobs first (lane.Strand name) (ready_posting s.next code buffer handler) cells jobs)
    (posted first s.next (lane.Strand name) (posted_op s.next (lane.Strand name) kind (marks handler) code) settled waits s)
posted_strand marks limits counts names cells jobs s first name kind code buffer handler settled waits none current within there shows =
    let n = s.next in
    let on = lane.Strand name in
    let new = posted_op n on kind (marks handler) code in
    let ready = ready_posting n code buffer handler in
    let p = name.place in
    let old = cell_at cells p in
    let entry = entry_of_dispatch first in
    let cell = called entry ready old in
    let ring = own-if (may_begin cell) jobs p in
    let count = own_count s.ops new in let all = shows.own_all in
    record {
      limits_are = shows.limits_are;
      counts_are = ap counts_posted shows.counts_are;
      names_are = shows.names_are;
      below = below-push n s.ops new shows.below refl;
      spares = spares_push s.names.strands s.ops new shows.spares tt;
      strands =
          map-set numbered cells p cell
          ∙ ap (λ c. slice_set (map numbered cells) p c)
          (steps_alike.called entry ready old ∙ ap (called_on entry n) (cell_is cells s.strands p shows.strands))
          ∙ ap (λ xs. slice_set xs p (called_on entry n (strand_at s.strands name))) shows.strands;
      there = map-set_same is_there cells p cell (vacant 0) (there_called first ready old) ∙ shows.there;
      rooms = map-set_same room_of cells p cell (vacant 0) (room_called first ready old) ∙ shows.rooms;
      each = λ k.
          by_test (p == k)
          (λ here.
          subst
          (λ j. ShowsCell marks (s.ops ++ new ∷ []) (n + 1) (lane_of_place s.names.strands j)
          (cell_at (slice_set cells p cell) j))
          (equal p k here)
          (subst (λ c. ShowsCell marks (s.ops ++ new ∷ []) (n + 1) (lane_of_place s.names.strands p) c)
          (sym (get_or-set_same cells p cell (vacant 0) within))
          (subst (λ l. ShowsCell marks (s.ops ++ new ∷ []) (n + 1) l cell) (sym (lane_current s.names name current))
          (here_ready marks s.ops n on kind code buffer handler first old there shows.below
          (subst (λ l. ShowsCell marks s.ops n l old) (lane_current s.names name current) (shows.each p))))))
          (λ other.
          subst (λ c. ShowsCell marks (s.ops ++ new ∷ []) (n + 1) (lane_of_place s.names.strands k) c)
          (sym (get_or-set_other cells p k cell (vacant 0) (apart p k other)))
          (others_ready marks s.ops new n (lane_of_place s.names.strands k) (cell_at cells k) (shows.each k)));
      listed =
          listed-if (may_begin cell) jobs p (λ isnt. flag_is cells jobs p shows.listed ∙ not_before first ready old isnt)
          ∙ ap (λ xs. slice_set xs p (may_begin cell)) shows.listed
          ∙ sym (map-set may_begin cells p cell);
      own = subst (AreReady marks (s.ops ++ new ∷ []) lane.Own) (sym ring)
          (ready-kept marks s.ops (s.ops ++ new ∷ []) lane.Own (own_ops jobs.ring) (keeps_posted s.ops new) shows.own);
      own_all = ap length ring ∙ omega (arith, count, all);
      own_room = room-if (may_begin cell) jobs p ∙ shows.own_room;
      settled = none;
      going = shows.going;
    }

-- what is kept behind it
pub shows_posted : {H S : Type 0} (marks : H → Marks) (limits : Limits) (counts : Counts) (names : Names)
    (cells : List (Cell H S)) (jobs : JobList (ReadyOp H)) (s : ContextState) (first : Bool) (n : ℕ) (on : Lane)
    (kind : Operation) (code : Code) (buffer : Option (Vec ℕ)) (handler : H) (settled : List ℕ) (waits : List Wait) → n ≡ s.next → settled ≡ [] →
    is_lane_gone s.names on ≡ false → Shows marks limits counts names cells jobs s →
    Shows marks limits (counts_posted counts) names (entered_cells first on (ready_posting n code buffer handler) cells)
    (entered_jobs first on (ready_posting n code buffer handler) cells jobs)
    (posted first n on (posted_op n on kind (marks handler) code) settled waits s)
shows_posted marks limits counts names cells jobs s first n lane.Own kind code buffer handler settled waits is none there shows =
    subst
    (λ k. Shows marks limits (counts_posted counts) names cells
    (entered_jobs first lane.Own (ready_posting k code buffer handler) cells jobs)
    (posted first k lane.Own (posted_op k lane.Own kind (marks handler) code) settled waits s)) (sym is)
    (posted_own marks limits counts names cells jobs s first kind code buffer handler settled waits none shows)
shows_posted marks limits counts names cells jobs s first n (lane.Strand name) kind code buffer handler settled waits
    is none there shows =
    let alive : is_alive s.names.strands name ≡ true = not_gone (is_alive s.names.strands name) there in
    subst
    (λ k. Shows marks limits (counts_posted counts) names
    (entered_cells first (lane.Strand name) (ready_posting k code buffer handler) cells)
    (entered_jobs first (lane.Strand name) (ready_posting k code buffer handler) cells jobs)
    (posted first k (lane.Strand name) (posted_op k (lane.Strand name) kind (marks handler) code) settled waits s)) (sym is)
    (posted_strand marks limits counts names cells jobs s first name kind code buffer handler settled waits none
    (both (is_current s.names.strands name) (is_living (place_at s.names.strands name.place).life) alive).one
    (within_cells cells s.names.strands name shows.there alive)
    (there_is cells s.names.strands name.place shows.there
    ∙ living_used (place_at s.names.strands name.place).life
    (both (is_current s.names.strands name) (is_living (place_at s.names.strands name.place).life) alive).other) shows)

-- a number, a place and the strand are there: the call may come
pub gone_posting : (s : ContextState) (on : Lane) (kind : Operation) (marks : Marks) (b : Bool) →
    is_posting kind ≡ true → is_lane_gone s.names on ≡ b →
    gone_by b false false false ≡ gone_of s (posting on kind marks)
gone_posting s on operation.Post marks b is there = ap (λ c. gone_by c false false false) (sym there)
gone_posting s on operation.Defer marks b is there = ap (λ c. gone_by c false false false) (sym there)
gone_posting s on operation.Dispatch marks b is there = ap (λ c. gone_by c false false false) (sym there)
gone_posting s on _ marks b is there = absurd (true≢false (sym is))

pub within_posting : (held : ℕ) (kind : Operation) → is_posting kind ≡ true → IsWithin held kind
within_posting held operation.Post is = tt
within_posting held operation.Defer is = tt
within_posting held operation.Dispatch is = tt
within_posting held _ is = absurd (true≢false (sym is))

pub may_be_posted : (s : ContextState) (n : ℕ) (on : Lane) (kind : Operation) (marks : Marks) →
    s.finishing ≡ false → n ≡ s.next → is_posting kind ≡ true → may_post s on ≡ true →
    MayHappen s (event.Called n None (posting on kind marks) gone.Nothing)
may_be_posted s n on kind marks going is posts may =
    let parts = three (nat_lt 0 s.room) (nat_lt 0 (numbers_left s)) (not (is_lane_gone s.names on)) may in
    record {
      going = going;
      number = is;
      names = gone_posting s on kind marks false posts (there_if (is_lane_gone s.names on) parts.three);
      allowed = record {
        room = ltb-true 0 s.room parts.one;
        numbers = ltb-true 0 (numbers_left s) parts.two;
        there = refl;
      };
      within = within_posting s.limits.held kind posts;
    }

-- the state behind a call from outside or by a handler
abbrev pub called_state : Bool → ℕ → Option ℕ → Lane → Op → ContextState → ContextState
called_state first n by on new s = record s {
  next = s.next + 1;
  promised = promised_left by s.promised;
  room = room_left by s.room;
  ops = place_given_by by s.ops ++ new ∷ [];
  settled = s.settled ++ [] ++ [];
  waits = s.waits ++ [];
  strands = on_lane on (called_on (entry_of_dispatch first) n) s.strands;
}

abbrev call_of : Entry → ℕ → Option ℕ → Lane → Operation → Marks → ContextState → ContextState
call_of entry n by on kind marks s =
    served (target_of kind) (accepted entry n by (posting on kind marks) gone.Nothing s)

entered_as : (first : Bool) (n : ℕ) (by : Option ℕ) (on : Lane) (kind : Operation) (marks : Marks) (s : ContextState) →
    is_posting kind ≡ true →
    call_of (entry_of_dispatch first) n by on kind marks s
    ≡ called_state first n by on (posted_op n on kind marks code.Ok) s
entered_as false n by on operation.Post marks s is = refl
entered_as true n by on operation.Post marks s is = refl
entered_as false n by on operation.Defer marks s is = refl
entered_as true n by on operation.Defer marks s is = refl
entered_as false n by on operation.Dispatch marks s is = refl
entered_as true n by on operation.Dispatch marks s is = refl
entered_as first n by on _ marks s is = absurd (true≢false (sym is))

pub after_posting : (first : Bool) (n : ℕ) (by : Option ℕ) (on : Lane) (kind : Operation) (marks : Marks)
    (s : ContextState) → is_posting kind ≡ true →
    entry_of_kind (caller_lane s.ops by) on kind ≡ entry_of_dispatch first →
    after (event.Called n by (posting on kind marks) gone.Nothing) s
    ≡ called_state first n by on (posted_op n on kind marks code.Ok) s
after_posting first n by on kind marks s is enters =
    ap (λ entry. call_of entry n by on kind marks s) enters ∙ entered_as first n by on kind marks s is

-- from outside nothing goes first
pub outside_last : (on : Lane) (kind : Operation) → is_posting kind ≡ true →
    entry_of_kind lane.Own on kind ≡ entry_of_dispatch false
outside_last on operation.Post is = refl
outside_last on operation.Defer is = refl
outside_last lane.Own operation.Dispatch is = refl
outside_last (lane.Strand name) operation.Dispatch is = refl
outside_last on _ is = absurd (true≢false (sym is))

-- what is kept behind a call from outside
pub shows_outside : {H S : Type 0} (marks : H → Marks) (limits : Limits) (counts : Counts) (names : Names)
    (cells : List (Cell H S)) (jobs : JobList (ReadyOp H)) (s : ContextState) (n : ℕ) (on : Lane) (kind : Operation)
    (handler : H) → n ≡ s.next → is_posting kind ≡ true → may_post s on ≡ true →
    Shows marks limits counts names cells jobs s →
    Shows marks limits (counts_posted counts) names (entered_cells false on (ready_posting n code.Ok None handler) cells)
    (entered_jobs false on (ready_posting n code.Ok None handler) cells jobs)
    (after (event.Called n None (posting on kind (marks handler)) gone.Nothing) s)
shows_outside marks limits counts names cells jobs s n on kind handler is posts may shows =
    let parts = three (nat_lt 0 s.room) (nat_lt 0 (numbers_left s)) (not (is_lane_gone s.names on)) may in
    subst
    (Shows marks limits (counts_posted counts) names (entered_cells false on (ready_posting n code.Ok None handler) cells)
    (entered_jobs false on (ready_posting n code.Ok None handler) cells jobs))
    (sym (after_posting false n None on kind (marks handler) s posts (outside_last on kind posts)))
    (shows_posted marks limits counts names cells jobs s false n on kind code.Ok None handler (s.settled ++ [] ++ [])
    (s.waits ++ []) is (ap (λ xs. xs ++ [] ++ []) shows.settled) (there_if (is_lane_gone s.names on) parts.three) shows)
