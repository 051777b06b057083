-- A handler that executes initiates an operation: what is kept shows the state behind that.
use Rattle.std.proofs.Common.{arith, ap, refl, subst, sym, ◌∙◌}
use Rattle.std.proofs.lemmas.Bool.{true≢false}
use Rattle.std.specs.Global.{Vec}
use Rattle.std.specs.Prelude.{◌≡◌, ◌<◌, ℕ, ◌+◌, ◌-◌, ◌&&◌, ◌||◌, nat_lt, Bool, true, false, List, [], ◌∷◌, ◌++◌, Option, Some, None, IsSome, if◌then◌else◌}
use Rattle.asio_types.specs.declared.code.Code.{Code}
use Rattle.asio_types.specs.declared.code.Code.TheVariants as code
use Rattle.io_rules.specs.declared.event.Event.{Event}
use Rattle.io_rules.specs.declared.event.Event.TheVariants as event
use Rattle.io_rules.specs.declared.limits.Limits.{Limits}
use Rattle.io_rules.specs.declared.name.Lane.{Lane}
use Rattle.io_rules.specs.declared.op.Op.{Op}
use Rattle.io_rules.specs.declared.op.Phase.{Phase}
use Rattle.io_rules.specs.declared.op.Phase.TheVariants as phase
use Rattle.io_rules.specs.declared.op.Wait.{Wait}
use Rattle.io_rules.specs.declared.operation.Operation.{Operation}
use Rattle.io_rules.specs.declared.operation.Operation.TheVariants as operation
use Rattle.io_rules.specs.declared.operation.Side.{Side}
use Rattle.io_rules.specs.declared.request.Gone.{Gone}
use Rattle.io_rules.specs.declared.request.Gone.TheVariants as gone
use Rattle.io_rules.specs.declared.request.Marks.{Marks}
use Rattle.io_rules.specs.declared.spares.Spares.{Spares}
use Rattle.io_rules.specs.Calls.{IsWithin, accepted, caller_lane, gone_by, gone_of, is_lane_gone, is_timer_gone, new_op, target_if}
use Rattle.io_rules.specs.Cancelling.{is_out_for}
use Rattle.io_rules.specs.Legal.{IsLegal, MayHappen, after, state_of}
use Rattle.io_rules.specs.Names.{Names}
use Rattle.io_rules.specs.Operations.{Target, is_posting, target_of, timer_of}
use Rattle.io_rules.specs.Ops.{is_running, op_at, passes}
use Rattle.io_rules.specs.Room.{has_place, one_if, place_given, place_given_by}
use Rattle.io_rules.specs.Serving.{Served, first_of, served, served_op, served_phase}
use Rattle.io_rules.specs.State.{ContextState, StreamState, stream_at}
use Rattle.io_rules.specs.Strands.{called_on, entry_of, entry_of_dispatch, entry_of_kind, on_lane}
use Rattle.io_rules.proofs.StrandLemmas.{by_test}
use Rattle.io_rules.proofs.TotalLemmas.{lane-found}
use Rattle.io_handlers.specs.Initiated.{is_initiated, is_offered_kind, is_transfer}
use Rattle.io_history.specs.declared.view.Held.{Held}
use Rattle.io_history.specs.Steps.{held_still, holding}
use Rattle.io_history.proofs.AtLemmas.{at-changed_of, at-push}
use Rattle.io_strands.specs.declared.ready.ReadyOp.{ReadyOp}
use Rattle.io_strands.specs.Cell.{Cell}
use Rattle.io_jobs.specs.Listed.{JobList}
use Rattle.io_scheduler.specs.declared.counts.Counts.{Counts}
use Rattle.io_scheduler.specs.Called.{gone_for, is_any_gone, lane_left}
use Rattle.io_scheduler.specs.Counted.{counts_of}
use Rattle.io_scheduler.specs.Ended.{mark_of}
use Rattle.io_scheduler.specs.Entered.{HasRoomFor, entered_cells, entered_jobs}
use Rattle.io_scheduler.specs.Posted.{counts_called, posting, ready_posting}
use Rattle.io_scheduler.specs.Running.{HeldOp, IsExecution}
use Rattle.io_scheduler.specs.Shown.{Shows}
use Rattle.io_scheduler.proofs.GivenLemmas.{counts_given, given_phase, given_space, given_state, may_give, shows_given}
use Rattle.io_scheduler.proofs.PostedLemmas.{after_posting, called_state, posted_op, shows_posted}
use Rattle.io_scheduler.proofs.ReadyLemmas.{at_changed}
use Rattle.io_scheduler.proofs.SpaceLemmas.{entered_space}

-- the counts, with so much room
abbrev counts_with : Counts → ℕ → Counts
counts_with c room = record c { next = c.next + 1; promised = c.promised - 1; room = room }

-- the state, with this settled, these waits and so much room
abbrev pub called_with : Bool → ℕ → ℕ → Lane → Op → List ℕ → List Wait → ContextState → ℕ → ContextState
called_with first n by on new settled waits s room = record s {
  next = s.next + 1;
  promised = s.promised - 1;
  room = room;
  ops = place_given_by (Some by) s.ops ++ new ∷ [];
  settled = settled;
  waits = waits;
  strands = on_lane on (called_on (entry_of_dispatch first) n) s.strands;
}

taken_back : (room : ℕ) → room + 1 - 1 ≡ room
taken_back room = omega arith

pub shows_with : {H S : Type 0} (marks : H → Marks) (limits : Limits) (counts : Counts) (names : Names)
    (cells : List (Cell H S)) (jobs : JobList (ReadyOp H)) (s : ContextState) (first : Bool) (n by : ℕ) (on : Lane)
    (kind : Operation) (code : Code) (buffer : Option (Vec ℕ)) (handler : H) (settled : List ℕ) (waits : List Wait) → n ≡ s.next → settled ≡ [] →
    is_lane_gone s.names on ≡ false → Shows marks limits counts names cells jobs s →
    Shows marks limits (counts_called counts) names (entered_cells first on (ready_posting n code buffer handler) cells)
    (entered_jobs first on (ready_posting n code buffer handler) cells jobs)
    (called_with first n by on (posted_op n on kind (marks handler) code) settled waits s s.room)
shows_with marks limits counts names cells jobs s first n by on kind code buffer handler settled waits is none there shows =
    let new = posted_op n on kind (marks handler) code in
    let new_cells = entered_cells first on (ready_posting n code buffer handler) cells in
    let new_jobs = entered_jobs first on (ready_posting n code buffer handler) cells jobs in
    subst
    (λ room. Shows marks limits (counts_called counts) names new_cells new_jobs
    (called_with first n by on new settled waits s room))
    (taken_back s.room)
    (subst
    (λ room. Shows marks limits (counts_with counts room) names new_cells new_jobs
    (called_with first n by on new settled waits s (s.room + 1 - 1)))
    (taken_back counts.room)
    (shows_posted marks limits (counts_given counts) names cells jobs (given_state by s) first n on kind code buffer handler
    settled waits is none there (shows_given marks limits counts names cells jobs s by shows)))

pub gone_offered : (s : ContextState) (on : Lane) (kind : Operation) (marks : Marks) → is_offered_kind kind ≡ true →
    gone_for s.names on kind ≡ gone_of s (posting on kind marks)
gone_offered s on operation.Post marks is = refl
gone_offered s on operation.Defer marks is = refl
gone_offered s on operation.Dispatch marks is = refl
gone_offered s on (operation.Wait timer) marks is = refl
gone_offered s on _ marks is = absurd (true≢false (sym is))

within_initiated : (held : ℕ) (kind : Operation) → is_initiated kind ≡ true → IsWithin held kind
within_initiated held (operation.ReadUntil stream max) is = absurd (true≢false (sym is))
within_initiated held operation.Post is = tt
within_initiated held operation.Defer is = tt
within_initiated held operation.Dispatch is = tt
within_initiated held (operation.Wait timer) is = tt
within_initiated held (operation.ReadSome stream size) is = tt
within_initiated held (operation.ReadAll stream size) is = tt
within_initiated held (operation.WriteSome stream size) is = tt
within_initiated held (operation.WriteAll stream size) is = tt
within_initiated held (operation.Accept listener) is = tt
within_initiated held (operation.Connect stream) is = tt

or_true : (b : Bool) → (b || true) ≡ true
or_true true = refl
or_true false = refl

pub initiated_offered : (kind : Operation) → is_offered_kind kind ≡ true → is_initiated kind ≡ true
initiated_offered kind is = ap (λ b. is_transfer kind || b) is ∙ or_true (is_transfer kind)

pub initiated_transfer : (kind : Operation) → is_transfer kind ≡ true → is_initiated kind ≡ true
initiated_transfer kind is = ap (λ b. b || is_offered_kind kind) is

pub offered_else : (kind : Operation) → is_transfer kind ≡ false → is_initiated kind ≡ true → is_offered_kind kind ≡ true
offered_else kind other is = sym (ap (λ b. b || is_offered_kind kind) other) ∙ is

pub offered_posting : (kind : Operation) → is_posting kind ≡ true → is_offered_kind kind ≡ true
offered_posting operation.Post is = refl
offered_posting operation.Defer is = refl
offered_posting operation.Dispatch is = refl
offered_posting _ is = absurd (true≢false (sym is))

-- what names nothing gone
pub record AllThere (names : Names) (on : Lane) (kind : Operation) : Type 0 where
  pub lane : is_lane_gone names on ≡ false
  pub timer : is_timer_gone names (timer_of kind) ≡ false

all_if : (b t : Bool) → gone.Nothing ≡ gone_by b false t false → (b ≡ false) × (t ≡ false)
all_if false false is = (refl, refl)
all_if true t is = absurd (cc)
all_if false true is = absurd (cc)

pub all_there : (names : Names) (on : Lane) (kind : Operation) → gone.Nothing ≡ gone_for names on kind →
    AllThere names on kind
all_there names on kind is =
    let both = all_if (is_lane_gone names on) (is_timer_gone names (timer_of kind)) is in
    record { lane = both.0; timer = both.1 }

other_if : (b t : Bool) → gone.Other ≡ gone_by b false t false → b ≡ false
other_if false t is = refl
other_if true t is = absurd (cc)

-- where the handler of a request executes that names something gone
pub left_there : (names : Names) (on : Lane) (kind : Operation) (given : Gone) → given ≡ gone_for names on kind →
    is_any_gone given ≡ true → is_lane_gone names (lane_left on given) ≡ false
left_there names on kind gone.Nothing is any = absurd (true≢false (sym any))
left_there names on kind gone.Strand is any = refl
left_there names on kind gone.Other is any =
    other_if (is_lane_gone names on) (is_timer_gone names (timer_of kind)) is

pub may_be_called : (s : ContextState) (n by : ℕ) (from on : Lane) (kind : Operation) (marks : Marks) (given : Gone)
    (own : Bool) (grant : ℕ) (spares : Spares) (held : Option Held) → s.finishing ≡ false → n ≡ s.next →
    is_initiated kind ≡ true → given ≡ gone_of s (posting on kind marks) → HeldOp s by from own grant spares held →
    0 < one_if own + grant → MayHappen s (event.Called n (Some by) (posting on kind marks) given)
may_be_called s n by from on kind marks given own grant spares held going is offered given_is it some = record {
  going = going;
  number = is;
  names = given_is;
  allowed = ap (passes has_place) it.is ∙ ap has_place it.runs ∙ may_give own grant spares some;
  within = within_initiated s.limits.held kind offered;
}

pub state_called : (s : ContextState) (first : Bool) (n by : ℕ) (from on : Lane) (kind : Operation) (marks : Marks)
    (own : Bool) (grant : ℕ) (spares : Spares) (held : Option Held) → is_posting kind ≡ true →
    HeldOp s by from own grant spares held → entry_of_kind from on kind ≡ entry_of_dispatch first →
    after (event.Called n (Some by) (posting on kind marks) gone.Nothing) s
    ≡ called_state first n (Some by) on (posted_op n on kind marks code.Ok) s
state_called s first n by from on kind marks own grant spares held posts it enters =
    after_posting first n (Some by) on kind marks s posts
    (ap (λ l. entry_of_kind l on kind) (lane-found s.ops by it.op it.is ∙ it.at) ∙ enters)

pub shows_called : {H S : Type 0} (marks : H → Marks) (limits : Limits) (counts : Counts) (names : Names)
    (cells : List (Cell H S)) (jobs : JobList (ReadyOp H)) (s : ContextState) (first : Bool) (n by : ℕ) (from on : Lane)
    (kind : Operation) (handler : H) (own : Bool) (grant : ℕ) (spares : Spares) (held : Option Held) → n ≡ s.next →
    is_posting kind ≡ true → is_lane_gone s.names on ≡ false → HeldOp s by from own grant spares held →
    entry_of_kind from on kind ≡ entry_of_dispatch first → Shows marks limits counts names cells jobs s →
    Shows marks limits (counts_called counts) names (entered_cells first on (ready_posting n code.Ok None handler) cells)
    (entered_jobs first on (ready_posting n code.Ok None handler) cells jobs)
    (after (event.Called n (Some by) (posting on kind (marks handler)) gone.Nothing) s)
shows_called marks limits counts names cells jobs s first n by from on kind handler own grant spares held is
    posts there it enters shows =
    subst
    (Shows marks limits (counts_called counts) names (entered_cells first on (ready_posting n code.Ok None handler) cells)
    (entered_jobs first on (ready_posting n code.Ok None handler) cells jobs))
    (sym (state_called s first n by from on kind (marks handler) own grant spares held posts it enters))
    (shows_with marks limits counts names cells jobs s first n by on kind code.Ok None handler (s.settled ++ [] ++ [])
    (s.waits ++ []) is (ap (λ xs. xs ++ [] ++ []) shows.settled) there shows)

-- what it held is held still
pub record StillHeld (by : ℕ) (from : Lane) (own : Bool) (grant : ℕ) (spares : Spares) (held new : Option Held) :
    Type 0 where
  pub executes : IsExecution by from own grant spares new
  pub some : IsSome new
  pub mark : mark_of new ≡ mark_of held

held_behind : (s : ContextState) (by : ℕ) (from : Lane) (own : Bool) (grant : ℕ) (spares : Spares) (held : Option Held)
    (it : Op) → IsExecution by from own grant spares held → op_at s.ops by ≡ Some it →
    held_still s held ≡ Some (record { op = by; is = it })
held_behind s by from own grant spares None it executes at = absurd executes
held_behind s by from own grant spares (Some h) it executes at =
    ap (λ k. holding k (op_at s.ops k)) executes.number ∙ ap (holding by) at

pub still_held : (s : ContextState) (by : ℕ) (from : Lane) (was own : Bool) (had grant : ℕ) (spares left : Spares)
    (held new : Option Held) (it : Op) → IsExecution by from was had spares held → op_at s.ops by ≡ Some it →
    it.lane ≡ from → it.phase ≡ phase.Running own grant left → mark_of held ≡ Some it.marks.run →
    new ≡ held_still s held → StillHeld by from own grant left held new
still_held s by from was own had grant spares left held new it executes at lane_is runs returns is =
    let new_is : Some (record { op = by; is = it }) ≡ new =
    sym (is ∙ held_behind s by from was had spares held it executes at) in
    subst (StillHeld by from own grant left held) new_is (record {
      executes = record { number = refl; on = lane_is; runs = runs };
      some = refl;
      mark = sym returns;
    })

-- the handler that has given a place away
abbrev pub with_less : Op → Op
with_less op = record op { phase = place_given op.phase }

-- serving the first of a side leaves what executes
phase_runs : (stream : StreamState) (kind : Operation) (p : Phase) → is_running p ≡ true →
    (served_phase stream kind p).phase ≡ p
phase_runs stream kind (phase.Running own grant spares) is = refl
phase_runs stream kind (phase.Pending moved cancelled) is = absurd (true≢false (sym is))
phase_runs stream kind (phase.Settled code size) is = absurd (true≢false (sym is))
phase_runs stream kind (phase.Ready code size) is = absurd (true≢false (sym is))

served_runs : (stream : StreamState) (on : Side) (op : Op) → is_running op.phase ≡ true →
    (served_op stream on op).phase ≡ op.phase
served_runs stream on op is =
    let same : Served = record { phase = op.phase; held = stream.held } in
    by_test (is_out_for on stream.out)
    (λ out. ap (λ b. (if b then same else served_phase stream op.kind op.phase).phase) out)
    (λ in_it.
    ap (λ b. (if b then same else served_phase stream op.kind op.phase).phase) in_it
    ∙ phase_runs stream op.kind op.phase is)

at_served : (t : ContextState) (target : Option Target) (n : ℕ) (it : Op) → is_running it.phase ≡ true →
    op_at t.ops n ≡ Some it → op_at (served target t).ops n ≡ Some it
at_served t None n it runs is = is
at_served t (Some target) n it runs is =
    let stream = stream_at t.streams target.stream in
    at-changed_of (first_of target.side stream) n (λ op. (served_op stream target.side op).phase) t.ops it
    (served_runs stream target.side it runs) is

-- what executes does still
pub held_calling : (s : ContextState) (n by : ℕ) (from on : Lane) (kind : Operation) (marks : Marks) (given : Gone)
    (own : Bool) (grant : ℕ) (spares : Spares) (held still : Option Held) → IsExecution by from own grant spares held →
    HeldOp s by from own grant spares held →
    still ≡ held_still (after (event.Called n (Some by) (posting on kind marks) given) s) held →
    StillHeld by from (own && nat_lt 0 grant) (grant - 1) spares held still
held_calling s n by from on kind marks given own grant spares held still executes it is =
    let request = posting on kind marks in
    let entry = entry_of (caller_lane s.ops (Some by)) request given in
    let new = after (event.Called n (Some by) request given) s in
    let runs : place_given it.op.phase ≡ phase.Running (own && nat_lt 0 grant) (grant - 1) spares =
    ap place_given it.runs ∙ given_phase own grant spares in
    still_held new by from own (own && nat_lt 0 grant) grant (grant - 1) spares spares held still (with_less it.op) executes
    (at_served (accepted entry n (Some by) request given s) (target_if given (target_of kind)) by (with_less it.op)
    (ap is_running runs)
    (at-push by (place_given_by (Some by) s.ops) (new_op entry n request given) (with_less it.op)
    (at_changed by (λ o. place_given o.phase) s.ops it.op it.is)))
    it.at runs it.returns is

-- what is needed of the numbers and of the room
pub called_number : (limits : Limits) (past : List Event) (counts : Counts) (by : ℕ) (from : Lane) (own : Bool) (grant : ℕ)
    (spares : Spares) (held : Option Held) → IsLegal limits past → HeldOp (state_of limits past) by from own grant spares held →
    0 < one_if own + grant → (state_of limits past).finishing ≡ false → counts ≡ counts_of (state_of limits past) →
    counts.next < 18446744073709551615
called_number limits past counts by from own grant spares held legal it some going are =
    let space = given_space limits past by it.op own grant spares legal going it.is it.runs some in
    let numbers = space.numbers in
    let next = ap (λ (c : Counts). c.next) are in
    omega (arith, numbers, next)

pub called_space : {H S : Type 0} (marks : H → Marks) (limits : Limits) (past : List Event) (counts : Counts) (names : Names)
    (cells : List (Cell H S)) (jobs : JobList (ReadyOp H)) (by : ℕ) (from on : Lane) (own : Bool) (grant : ℕ)
    (spares : Spares) (held : Option Held) → IsLegal limits past → HeldOp (state_of limits past) by from own grant spares held →
    0 < one_if own + grant → is_lane_gone (state_of limits past).names on ≡ false →
    Shows marks limits counts names cells jobs (state_of limits past) → HasRoomFor on cells jobs
called_space marks limits past counts names cells jobs by from on own grant spares held legal it some there shows =
    let s = state_of limits past in
    entered_space marks limits (counts_given counts) names cells jobs (given_state by s) on
    (given_space limits past by it.op own grant spares legal shows.going it.is it.runs some) there
    (shows_given marks limits counts names cells jobs s by shows)
