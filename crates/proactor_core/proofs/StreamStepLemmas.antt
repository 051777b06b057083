-- What accepting, cancelling and closing on a stream leaves: room, and the half of a history's state.
use Rattle.std.proofs.Common.{◌≡◌, ◌≢◌, ℕ, ◌+◌, ◌<◌, ◌≤◌, Bool, true, false, not, cond, List, [], ◌∷◌, ◌++◌, Option, Some, length, filter, set, inl, inr, refl, sym, ap, subst, ◌∙◌, arith}
use Rattle.std.specs.Option.{IfSome}
use Rattle.std.proofs.lemmas.Bool.{cases_eq}
use Rattle.std.proofs.lemmas.List.{get_or-set_other, get_or-set_same, length-append, length-map, length-set, set-get_or}
use Rattle.std.proofs.lemmas.List.Filters.{length-filter_both}
use Rattle.std.proofs.lemmas.List.Sums.{get_or-le-sum_by, sum_by-set}
use Rattle.std.proofs.Math.Seq.{map-set_same}
use Rattle.session_script.specs.declared.act.Act.{Act}
use Rattle.session_script.specs.Script.{ScriptModel, act_of}
use Rattle.stream_rules.specs.declared.queue.Completion.{Completion}
use Rattle.stream_rules.specs.Queue.{Pending}
use Rattle.stream_rules.specs.Serving.{Reading, Writing}
use Rattle.stream_rules.specs.World.{times_after}
use Rattle.history_rules.specs.Performing.{aborted, all_aborted, bad, is_of, new_pending, one_of_stream_cancelled, with_taken}
use Rattle.history_rules.specs.State.{ReactorHalf}
use Rattle.reactor_trait.specs.Reactor.{Outside, ReactorState}
use Rattle.proactor_core.specs.Due.{Due, listed}
use Rattle.proactor_core.specs.Proactor.{HasRoomForActs, IsAt, IsTurning, ProactorView}
use Rattle.proactor_core.specs.Reactor.{whole_told}
use Rattle.proactor_core.specs.Room.{IsUntaken}
use Rattle.proactor_core.specs.Rooms.{one_if, untaken_below}
use Rattle.proactor_core.specs.StreamRooms.{is_on_side}
use Rattle.proactor_core.specs.declared.stream_rooms.StreamSide.TheVariants as side
use Rattle.proactor_core.specs.Streams.{StreamView, aborts_of_op, new_stream_view, pending_on, stream_in, without_op}
use Rattle.proactor_core.specs.Tables.{TableState, act_taken}
use Rattle.proactor_core.specs.Works.{with_works}
use Rattle.proactor_core.proofs.RoomLemmas.{count-taken, less-untaken}
use Rattle.proactor_core.proofs.ServedLemmas.{KeepsPlace, keeps-at}
use Rattle.proactor_core.proofs.AtLemmas.{clock_of, tabled}
use Rattle.proactor_core.proofs.TellsLemmas.{counts-as, where-told}
use Rattle.proactor_core.proofs.TakingLemmas.{act-room, taken-step, untaken-true}
use Rattle.proactor_core.proofs.WorksLemmas.{follow}

-- a stream changed, and what is due
abbrev pub streamed : {X : Type 0} → ℕ → StreamView → Due → ProactorView X → ProactorView X
streamed n changed due view = record view {
  tables = record view.tables { due = due };
  streams = set view.streams n changed;
}

-- some operations of a stream completed
pub shrunk-room : (script : ScriptModel) (s : TableState) (streams : List StreamView) (n : ℕ) (changed : StreamView)
    (completed : List Completion) → n < length streams → KeepsPlace (stream_in streams n) changed →
    length completed + pending_on changed ≡ pending_on (stream_in streams n) → HasRoomForActs script s streams →
    HasRoomForActs script (record s { due = listed completed s.due }) (set streams n changed)
shrunk-room script s streams n changed completed within keeps counts room =
    let fit = room.fit in
    let left = room.tables in
    let spare = left.spare in
    let due = room.within.due in
    let total = sum_by-set pending_on streams n changed (new_stream_view 0 0 0) within in
    let one = get_or-le-sum_by pending_on streams n (new_stream_view 0 0 0) within in
    let long = length-append s.due.coming completed in
    let count = length-set streams n changed in
    let at = keeps-at streams (set streams n changed) n changed within refl keeps in
    record {
      fit =
          record {
            most = fit.most;
            few = omega (arith, count, fit.few);
            taken = fit.taken;
            expiries = fit.expiries;
            slots = fit.slots;
            guards = fit.guards;
            streams = count ∙ fit.streams;
          };
      tables =
          record {
            acts = left.acts;
            waits_taken = left.waits_taken;
            rooms = left.rooms;
            counted = left.counted;
            accepted = left.accepted;
            spare = omega (arith, total, one, counts, spare);
          };
      queues = record {
        reads = λ m b.
            let keeps = at m in
            let room = room.queues.reads m (omega (arith, b, count)) in
            omega (arith, keeps.reads, keeps.reads_room, room);
        writes = λ m b.
            let keeps = at m in
            let room = room.queues.writes m (omega (arith, b, count)) in
            omega (arith, keeps.writes, keeps.writes_room, room);
        sizes = λ a m act b is.
            let keeps = at m in
            let room = room.queues.sizes a m act (omega (arith, b, count)) is in omega (arith, keeps.room, room);
      };
      connected = room.connected;
      within =
          record {
            due = omega (arith, total, one, counts, spare, long, due);
            now = room.within.now;
            expiries = room.within.expiries;
          };
      working = room.working;
    }

length-aborted : {Asks : Type 0} (queue : List (Pending Asks)) → length (all_aborted queue) ≡ length queue
length-aborted queue = length-map queue (λ pending. aborted pending.op pending.moved)

filter-fewer : {Asks : Type 0} (op : ℕ) (queue : List (Pending Asks)) →
    length (filter (is_of op) queue) + length (filter (λ pending. not (is_of op pending)) queue) ≡ length queue
filter-fewer op queue = length-filter_both (is_of op) (λ pending. not (is_of op pending)) (λ pending. refl) queue

cancelled-count : (op : ℕ) (v : StreamView) → length (aborts_of_op op v) + pending_on (without_op op v) ≡ pending_on v
cancelled-count op v =
    let both = length-append (all_aborted (filter (is_of op) v.reads)) (all_aborted (filter (is_of op) v.writes)) in
    omega (
      arith,
      both,
      length-aborted (filter (is_of op) v.reads),
      length-aborted (filter (is_of op) v.writes),
      filter-fewer op v.reads,
      filter-fewer op v.writes,
    )

cancelled-keeps : (op : ℕ) (v : StreamView) → KeepsPlace v (without_op op v)
cancelled-keeps op v = record {
  reads = omega (arith, filter-fewer op v.reads);
  writes = omega (arith, filter-fewer op v.writes);
  reads_room = refl;
  writes_room = refl;
  room = refl;
}

abbrev is_closed_in : StreamView → Bool
is_closed_in view = view.closed

-- the reactor's streams are open where these are
pub changed-turning : {X : Type 0} (state : X → ReactorState) (told : X → Option Outside) (view : ProactorView X)
    (n : ℕ) (changed : StreamView) (s : TableState) → clock_of s ≡ clock_of view.tables →
    changed.closed ≡ (stream_in view.streams n).closed → HasRoomForActs view.script s (set view.streams n changed) →
    IsTurning state told view → IsTurning state told (record view { tables = s; streams = set view.streams n changed })
changed-turning state told view n changed s clock same room turning =
    let servable = turning.step.servable in
    record {
      room = room;
      step = record {
        now = turning.step.now ∙ sym (ap (λ c. c.0) clock);
        times = turning.step.times ∙ ap (λ c. times_after c.0 view.script.world.lines) (sym clock);
        last = turning.step.last ∙ sym (ap (λ c. c.1) clock);
        servable = record {
          up = servable.up;
          closed =
              servable.closed ∙ sym (map-set_same is_closed_in view.streams n changed (new_stream_view 0 0 0) same);
          there =
              subst (λ (count : ℕ). IfSome (told view.reactor) (λ (outside : Outside). length outside.streams ≡ count))
              (sym (length-set view.streams n changed)) servable.there;
        };
      };
    }

held-at : (streams : List StreamView) (n : ℕ) (changed : StreamView) → n < length streams →
    changed.held ≡ (stream_in streams n).held → (m : ℕ) →
    (stream_in (set streams n changed) m).held ≡ (stream_in streams m).held
held-at streams n changed within same m =
    elim (cases_eq m n) [
      | inl is ↦
          subst (λ k. (stream_in (set streams n changed) k).held ≡ (stream_in streams k).held) (sym is)
          (ap (λ (v : StreamView). v.held) (get_or-set_same streams n changed (new_stream_view 0 0 0) within) ∙ same)
      | inr ne ↦ ap (λ (v : StreamView). v.held) (get_or-set_other streams n m changed (new_stream_view 0 0 0) ne)
    ]

-- a stream changed as in the half, and holds the same bytes
pub stream-step : {X : Type 0} (told : X → Option Outside) (view : ProactorView X) (n : ℕ) (changed : StreamView)
    (due : Due) (half after : ReactorHalf) → n < length view.streams →
    changed.held ≡ (stream_in view.streams n).held →
    with_works (record view.tables { due = due }) (set view.streams n changed) half ≡ after → IsAt told view half →
    IsAt told (streamed n changed due view) after
stream-step told view n changed due half after within same step is =
    let count = length-set view.streams n changed in
    let held = held-at view.streams n changed within same in
    subst (IsAt told (streamed n changed due view)) step (record {
      works = refl;
      count = is.count ∙ sym count;
      told_count =
          counts-as (told view.reactor) (length view.streams) (length (set view.streams n changed)) (sym count) is.told_count;
      bytes = λ m b.
          where-told (told view.reactor)
          (λ is. is ∙ ap (λ bytes. whole_told bytes (told view.reactor) m) (sym (held m)))
          (is.bytes m (omega (arith, b, count)));
      lines = is.lines;
    })

-- an operation of a stream is cancelled
pub cancel-turning : {X : Type 0} (state : X → ReactorState) (told : X → Option Outside) (view : ProactorView X)
    (n op : ℕ) → n < length view.streams → IsTurning state told view →
    IsTurning state told (streamed n (without_op op (stream_in view.streams n))
    (listed (aborts_of_op op (stream_in view.streams n)) view.tables.due) view)
cancel-turning state told view n op within turning =
    let v = stream_in view.streams n in
    changed-turning state told view n (without_op op v)
    (record view.tables { due = listed (aborts_of_op op v) view.tables.due }) refl refl
    (shrunk-room view.script view.tables view.streams n (without_op op v) (aborts_of_op op v) within
    (cancelled-keeps op v) (cancelled-count op v) turning.room) turning

pub cancel-step : {X : Type 0} (told : X → Option Outside) (view : ProactorView X) (n op : ℕ) (half : ReactorHalf) →
    n < length view.streams → IsAt told view half →
    IsAt told
    (streamed n (without_op op (stream_in view.streams n))
    (listed (aborts_of_op op (stream_in view.streams n)) view.tables.due) view) (one_of_stream_cancelled op n half)
cancel-step told view n op half within is =
    let v = stream_in view.streams n in
    stream-step told view n (without_op op v) (listed (aborts_of_op op v) view.tables.due) half
    (one_of_stream_cancelled op n half) within refl
    ((follow view.tables view.streams half).cancel op n within ∙ ap (one_of_stream_cancelled op n) is.works) is

-- a read or a write begins on a stream, in place of an act that wasn't taken
begun-room : (script : ScriptModel) (s : TableState) (streams : List StreamView) (a n : ℕ) (changed : StreamView) →
    n < length streams → changed.room ≡ (stream_in streams n).room →
    changed.reads_room ≡ (stream_in streams n).reads_room → changed.writes_room ≡ (stream_in streams n).writes_room →
    length changed.reads ≤ length (stream_in streams n).reads + one_if (is_on_side side.Reads n) (act_of script a) →
    length changed.writes ≤ length (stream_in streams n).writes + one_if (is_on_side side.Writes n) (act_of script a) →
    pending_on changed ≡ pending_on (stream_in streams n) + 1 → IsUntaken a s → HasRoomForActs script s streams →
    HasRoomForActs script (act_taken a s) (set streams n changed)
begun-room script s streams a n changed within same_room same_reads same_writes reads writes more un room =
    let taken = act-room script s streams a room un in
    let fit = taken.fit in
    let left = taken.tables in
    let spare = room.tables.spare in
    let fewer = count-taken s.taken a un.within un.untaken in
    let total = sum_by-set pending_on streams n changed (new_stream_view 0 0 0) within in
    let count = length-set streams n changed in
    let long = length-set s.taken a true in
    let at : (m : ℕ) → m ≢ n → stream_in (set streams n changed) m ≡ stream_in streams m = λ m ne.
    get_or-set_other streams n m changed (new_stream_view 0 0 0) ne in
    let here : stream_in (set streams n changed) n ≡ changed =
    get_or-set_same streams n changed (new_stream_view 0 0 0) within in
    let few_reads : (v : StreamView) → ℕ → Type 0 = λ v m.
    length v.reads
    + untaken_below (is_on_side side.Reads m) script (set s.taken a true) (length (set s.taken a true))
    ≤ v.reads_room in
    let few_writes : (v : StreamView) → ℕ → Type 0 = λ v m.
    length v.writes
    + untaken_below (is_on_side side.Writes m) script (set s.taken a true) (length (set s.taken a true))
    ≤ v.writes_room in
    record {
      fit =
          record {
            most = fit.most;
            few = omega (arith, count, fit.few);
            taken = fit.taken;
            expiries = fit.expiries;
            slots = fit.slots;
            guards = fit.guards;
            streams = count ∙ fit.streams;
          };
      tables =
          record {
            acts = left.acts;
            waits_taken = left.waits_taken;
            rooms = left.rooms;
            counted = left.counted;
            accepted = left.accepted;
            spare = omega (arith, total, more, spare, fewer);
          };
      queues = record {
        reads = λ m b. elim (cases_eq m n) [
          | inl is ↦
              let before = room.queues.reads n within in
              let less = less-untaken (is_on_side side.Reads n) script s.taken a un.within (untaken-true s a un) in
              let goal : few_reads changed n = rw long (omega (arith, before, less, reads, same_reads)) in
              subst (λ k. few_reads (stream_in (set streams n changed) k) k) (sym is)
              (subst (λ (v : StreamView). few_reads v n) (sym here) goal)
          | inr ne ↦
              subst (λ (v : StreamView). few_reads v m) (sym (at m ne)) (taken.queues.reads m (omega (arith, b, count)))
        ];
        writes = λ m b. elim (cases_eq m n) [
          | inl is ↦
              let before = room.queues.writes n within in
              let less = less-untaken (is_on_side side.Writes n) script s.taken a un.within (untaken-true s a un) in
              let goal : few_writes changed n = rw long (omega (arith, before, less, writes, same_writes)) in
              subst (λ k. few_writes (stream_in (set streams n changed) k) k) (sym is)
              (subst (λ (v : StreamView). few_writes v n) (sym here) goal)
          | inr ne ↦
              subst (λ (v : StreamView). few_writes v m) (sym (at m ne)) (taken.queues.writes m (omega (arith, b, count)))
        ];
        sizes = λ b m act below is. elim (cases_eq m n) [
          | inl same ↦
              let before = room.queues.sizes b m act (omega (arith, below, count)) is in
              let there : (stream_in (set streams n changed) m).room ≡ (stream_in streams m).room =
              subst (λ k. (stream_in (set streams n changed) k).room ≡ (stream_in streams k).room) (sym same)
              (ap (λ (v : StreamView). v.room) here ∙ same_room) in
              omega (arith, before, there)
          | inr ne ↦
              let before = room.queues.sizes b m act (omega (arith, below, count)) is in
              let there : (stream_in (set streams n changed) m).room ≡ (stream_in streams m).room =
              ap (λ (v : StreamView). v.room) (at m ne) in
              omega (arith, before, there)
        ];
      };
      connected = taken.connected;
      within = taken.within;
      working = taken.working;
    }

-- an operation on a closed stream completes at once
bad-room : (script : ScriptModel) (s : TableState) (streams : List StreamView) (a : ℕ) →
    HasRoomForActs script s streams → IsUntaken a s →
    HasRoomForActs script (act_taken a (record s { due = listed (bad a ∷ []) s.due })) streams
bad-room script s streams a room un =
    let taken = act-room script s streams a room un in
    let left = taken.tables in
    let spare = room.tables.spare in
    let fewer = count-taken s.taken a un.within un.untaken in
    let long = length-append s.due.coming (bad a ∷ []) in
    let due = room.within.due in
    record {
      fit = taken.fit;
      tables =
          record {
            acts = left.acts;
            waits_taken = left.waits_taken;
            rooms = left.rooms;
            counted = left.counted;
            accepted = left.accepted;
            spare = omega (arith, spare, fewer);
          };
      queues = taken.queues;
      connected = taken.connected;
      within =
          record {
            due = omega (arith, spare, fewer, long, due);
            now = taken.within.now;
            expiries = taken.within.expiries;
          };
      working = taken.working;
    }

-- one more operation is pending, in the same room
pub record BeginsOn (script : ScriptModel) (a n : ℕ) (before after : StreamView) : Type 0 where
  pub room : after.room ≡ before.room
  pub reads_room : after.reads_room ≡ before.reads_room
  pub writes_room : after.writes_room ≡ before.writes_room
  pub closed : after.closed ≡ before.closed
  pub held : after.held ≡ before.held
  pub reads : length after.reads ≤ length before.reads + one_if (is_on_side side.Reads n) (act_of script a)
  pub writes : length after.writes ≤ length before.writes + one_if (is_on_side side.Writes n) (act_of script a)
  pub pending : pending_on after ≡ pending_on before + 1

closed-or-begun : (script : ScriptModel) (s : TableState) (streams : List StreamView) (a n : ℕ) (opened : StreamView)
    (closed : Bool) → n < length streams → BeginsOn script a n (stream_in streams n) opened → IsUntaken a s →
    HasRoomForActs script s streams →
    HasRoomForActs script (act_taken a (record s { due = cond closed (listed (bad a ∷ []) s.due) s.due }))
    (set streams n (cond closed (stream_in streams n) opened))
closed-or-begun script s streams a n opened true within begins un room =
    subst (HasRoomForActs script (act_taken a (record s { due = listed (bad a ∷ []) s.due })))
    (sym (set-get_or streams n (new_stream_view 0 0 0))) (bad-room script s streams a room un)
closed-or-begun script s streams a n opened false within begins un room =
    begun-room script s streams a n opened within begins.room begins.reads_room begins.writes_room begins.reads
    begins.writes begins.pending un room

cond-closed : (v opened : StreamView) (closed : Bool) → opened.closed ≡ v.closed →
    (cond closed v opened).closed ≡ v.closed
cond-closed v opened true same = refl
cond-closed v opened false same = same

cond-held : (v opened : StreamView) (closed : Bool) → opened.held ≡ v.held → (cond closed v opened).held ≡ v.held
cond-held v opened true same = refl
cond-held v opened false same = same

-- an operation began on a stream, or completed there at once
abbrev pub begun : {X : Type 0} → ℕ → ℕ → StreamView → ProactorView X → ProactorView X
begun a n opened view =
    let v = stream_in view.streams n in
    streamed n (cond v.closed v opened) (cond v.closed (listed (bad a ∷ []) view.tables.due) view.tables.due) view

pub begun-turning : {X : Type 0} (state : X → ReactorState) (told : X → Option Outside) (view : ProactorView X)
    (a n : ℕ) (opened : StreamView) → n < length view.streams →
    BeginsOn view.script a n (stream_in view.streams n) opened → IsUntaken a view.tables → IsTurning state told view →
    IsTurning state told (tabled (act_taken a (begun a n opened view).tables) (begun a n opened view))
begun-turning state told view a n opened within begins un turning =
    let v = stream_in view.streams n in
    changed-turning state told view n (cond v.closed v opened) (act_taken a (begun a n opened view).tables) refl
    (cond-closed v opened v.closed begins.closed)
    (closed-or-begun view.script view.tables view.streams a n opened v.closed within begins un turning.room) turning

pub begun-step : {X : Type 0} (told : X → Option Outside) (view : ProactorView X) (a n : ℕ) (opened : StreamView)
    (half after : ReactorHalf) → n < length view.streams → opened.held ≡ (stream_in view.streams n).held →
    with_works (begun a n opened view).tables (begun a n opened view).streams half ≡ after → IsAt told view half →
    IsAt told (tabled (act_taken a (begun a n opened view).tables) (begun a n opened view)) (with_taken a after)
begun-step told view a n opened half after within same step is =
    let v = stream_in view.streams n in
    let now = begun a n opened view in
    let at : IsAt told now after =
    stream-step told view n (cond v.closed v opened) now.tables.due half after within (cond-held v opened v.closed same)
    step is in
    taken-step told now now.tables after after a refl at.works at

-- a read begins
abbrev pub read_opened : ℕ → ℕ → Reading → StreamView → StreamView
read_opened a accepted reading v = record v { reads = v.reads ++ new_pending a accepted reading ∷ [] }

pub read-begins : (script : ScriptModel) (a n accepted : ℕ) (reading : Reading) (it : Act) (v : StreamView) →
    act_of script a ≡ Some it → is_on_side side.Reads n it ≡ true →
    BeginsOn script a n v (read_opened a accepted reading v)
read-begins script a n accepted reading it v is on =
    let long = length-append v.reads (new_pending a accepted reading ∷ []) in
    let one : one_if (is_on_side side.Reads n) (act_of script a) ≡ 1 =
    ap (one_if (is_on_side side.Reads n)) is ∙ ap (λ t. cond t 1 0) on in
    record {
      room = refl;
      reads_room = refl;
      writes_room = refl;
      closed = refl;
      held = refl;
      reads = omega (arith, long, one);
      writes = omega arith;
      pending = omega (arith, long);
    }

-- a write begins
abbrev pub write_opened : ℕ → ℕ → Writing → StreamView → StreamView
write_opened a accepted writing v = record v { writes = v.writes ++ new_pending a accepted writing ∷ [] }

pub write-begins : (script : ScriptModel) (a n accepted : ℕ) (writing : Writing) (it : Act) (v : StreamView) →
    act_of script a ≡ Some it → is_on_side side.Writes n it ≡ true →
    BeginsOn script a n v (write_opened a accepted writing v)
write-begins script a n accepted writing it v is on =
    let long = length-append v.writes (new_pending a accepted writing ∷ []) in
    let one : one_if (is_on_side side.Writes n) (act_of script a) ≡ 1 =
    ap (one_if (is_on_side side.Writes n)) is ∙ ap (λ t. cond t 1 0) on in
    record {
      room = refl;
      reads_room = refl;
      writes_room = refl;
      closed = refl;
      held = refl;
      reads = omega arith;
      writes = omega (arith, long, one);
      pending = omega (arith, long);
    }

-- there is room for one more read, or write
pub read-room : (script : ScriptModel) (s : TableState) (streams : List StreamView) (a n : ℕ) (it : Act) →
    act_of script a ≡ Some it → is_on_side side.Reads n it ≡ true → n < length streams → IsUntaken a s →
    HasRoomForActs script s streams → length (stream_in streams n).reads < (stream_in streams n).reads_room
read-room script s streams a n it is on within un room =
    let before = room.queues.reads n within in
    let less = less-untaken (is_on_side side.Reads n) script s.taken a un.within (untaken-true s a un) in
    let one : one_if (is_on_side side.Reads n) (act_of script a) ≡ 1 =
    ap (one_if (is_on_side side.Reads n)) is ∙ ap (λ t. cond t 1 0) on in
    omega (arith, before, less, one)

pub write-room : (script : ScriptModel) (s : TableState) (streams : List StreamView) (a n : ℕ) (it : Act) →
    act_of script a ≡ Some it → is_on_side side.Writes n it ≡ true → n < length streams → IsUntaken a s →
    HasRoomForActs script s streams → length (stream_in streams n).writes < (stream_in streams n).writes_room
write-room script s streams a n it is on within un room =
    let before = room.queues.writes n within in
    let less = less-untaken (is_on_side side.Writes n) script s.taken a un.within (untaken-true s a un) in
    let one : one_if (is_on_side side.Writes n) (act_of script a) ≡ 1 =
    ap (one_if (is_on_side side.Writes n)) is ∙ ap (λ t. cond t 1 0) on in
    omega (arith, before, less, one)
