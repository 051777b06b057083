-- The room for operations that are pending.
use Rattle.std.proofs.Common.{◌≡◌, ℕ, ◌+◌, ◌<◌, ◌≤◌, Bool, not, List, [], ◌∷◌, ◌++◌, length, map, filter, drop, replicate, get_or, set, zero, suc, inl, inr, refl, ap, sym, ◌∙◌, vec_capacity, arith}
use Rattle.std.specs.Global.{Vec}
use Rattle.std.specs.Prelude.{sum_by}
use Rattle.std.specs.List.{All}
use Rattle.std.proofs.lemmas.List.{map-set, get_or-map, length-map, length-append, length-set, get_or-set_other}
use Rattle.std.proofs.lemmas.Bool.{cases_eq}
use Rattle.std.proofs.lemmas.Grind.{get_or-set_at}
use Rattle.std.proofs.lemmas.List.Elements.{All-append, All-filter, All-map}
use Rattle.std.proofs.lemmas.List.Filters.{length-filter_both}
use Rattle.std.proofs.lemmas.List.Sums.{sum_by-cons, sum_by-set, get_or-le-sum_by}
use Rattle.asio_types.specs.declared.code.Code.{Code}
use Rattle.session_script.specs.Script.{ScriptModel}
use Rattle.stream_rules.specs.declared.queue.Completion.{Completion}
use Rattle.stream_rules.specs.declared.queue.Queued.{Queued}
use Rattle.stream_rules.specs.Queue.{asked}
use Rattle.history_rules.proofs.PerformingLemmas.{pending-completed}
use Rattle.history_book.specs.Asking.{AreQueues, IsReading, IsWriting, asked_reading, asked_writing, queues_of}
use Rattle.history_book.specs.Played.{Played, first_played}
use Rattle.history_book.proofs.PlayedLemmas.{length-first_played}
use Rattle.history_book.specs.declared.asking.Queues.{Queues}
use Rattle.history_book.specs.Queues.{abort_of, aborts_of, is_queued, size_of, AreNew, IsEmpty, IsNew}
use Rattle.history_book.specs.QueueRoom.{ops_on}
use Rattle.history_book.specs.Replay.{IsRoomy}
use Rattle.history_rules.specs.Bounds.{pending_in}
use Rattle.history_rules.specs.Rounds.{IsEmptied}
use Rattle.history_rules.specs.State.{StreamQueues, no_queues}
use Rattle.history_rules.specs.declared.wait.Wait.{Wait}
use Rattle.history_rules.specs.Waits.{all_completed_with, completed_with}

pub IsRoomy-completed : (script : ScriptModel) (world : Played) (waits after : Vec Wait) (queues : List Queues)
    (due new : Vec Completion) (code : Code) (test : Wait → Bool) → IsRoomy script world waits queues due →
    after.items ≡ filter (λ wait. not (test wait)) waits.items →
    new.items ≡ due.items ++ all_completed_with code test waits.items → vec_capacity after ≡ vec_capacity waits →
    vec_capacity new ≡ vec_capacity due → IsRoomy script world after queues new
IsRoomy-completed script world waits after queues due new code test roomy left done waits_room due_room =
    let same = pending-completed code test waits.items (map (queues_of script) queues) due.items in
    let count = roomy.pending in
    record {
      same_lines = roomy.same_lines;
      paired = roomy.paired;
      each = roomy.each;
      waits_room = rw waits_room roomy.waits_room;
      due_room = rw due_room roomy.due_room;
      pending = rw (left, done) (omega arith);
    }

pub size-of : (script : ScriptModel) (queues : Queues) →
    length (queues_of script queues).reads + length (queues_of script queues).writes ≡ size_of queues
size-of script queues =
    let reads = length-map queues.reads.items (asked (asked_reading script)) in
    let writes = length-map queues.writes.items (asked (asked_writing script)) in
    omega arith

-- the queues of a stream
pub queues-at : (script : ScriptModel) (items : List Queues) (d : ℕ) (any : Queues) → d < length items →
    any ≡ get_or items d any → get_or (map (queues_of script) items) d no_queues ≡ queues_of script any
queues-at script items d any b is =
    get_or-map (queues_of script) items d any no_queues b ∙ ap (queues_of script) (sym is)

-- the queues of one stream changed
pub queues-changed : (script : ScriptModel) (items : List Queues) (d : ℕ) (any new : Queues)
    (change : StreamQueues → StreamQueues) → d < length items → any ≡ get_or items d any →
    queues_of script new ≡ change (queues_of script any) →
    map (queues_of script) (set items d new)
    ≡ set (map (queues_of script) items) d (change (get_or (map (queues_of script) items) d no_queues))
queues-changed script items d any new change b is same =
    map-set (queues_of script) items d new
    ∙ ap (λ q. set (map (queues_of script) items) d q) (same ∙ ap change (sym (queues-at script items d any b is)))

-- the operations of one stream are among those that are pending
pub size-pending : (script : ScriptModel) (waits : List Wait) (items : List Queues) (due : List Completion) (d : ℕ)
    (any : Queues) → d < length items → any ≡ get_or items d any →
    size_of any + length due ≤ pending_in waits (map (queues_of script) items) due
size-pending script waits items due d any b is =
    let size = size-of script any in
    let long = length-map items (queues_of script) in
    let at = queues-at script items d any b is in
    let least =
    get_or-le-sum_by (λ (each : StreamQueues). length each.reads + length each.writes) (map (queues_of script) items) d
    no_queues (omega arith) in
    let here = rw at at least in
    omega arith

pending-changed : (script : ScriptModel) (waits : List Wait) (items : List Queues) (due after : List Completion) (d : ℕ)
    (any new : Queues) → d < length items → any ≡ get_or items d any →
    pending_in waits (map (queues_of script) (set items d new)) after + size_of any + length due
    ≡ pending_in waits (map (queues_of script) items) due + size_of new + length after
pending-changed script waits items due after d any new b is =
    let old_size = size-of script any in
    let new_size = size-of script new in
    let long = length-map items (queues_of script) in
    let at = queues-at script items d any b is in
    let sums =
    sum_by-set (λ (each : StreamQueues). length each.reads + length each.writes) (map (queues_of script) items) d
    (queues_of script new) no_queues (omega arith) in
    let here = rw at at sums in
    rw (map-set (queues_of script) items d new) (omega arith)

-- the queues of a stream that are there
pub AreQueues-at : (script : ScriptModel) (world : Played) (waits : Vec Wait) (items : List Queues)
    (due : Vec Completion) (d : ℕ) (any : Queues) → IsRoomy script world waits items due → d < length items →
    any ≡ get_or items d any → AreQueues script (ops_on script d) any
AreQueues-at script world waits items due d any roomy b is = rw (← is) at (roomy.each d any b)

AreQueues-set : (script : ScriptModel) (items : List Queues) (d k : ℕ) (new any : Queues) →
    k < length (set items d new) → AreQueues script (ops_on script d) new →
    ((k : ℕ) (any : Queues) → k < length items → AreQueues script (ops_on script k) (get_or items k any)) →
    AreQueues script (ops_on script k) (get_or (set items d new) k any)
AreQueues-set script items d k new any b are each =
    let long = length-set items d new in
    elim (cases_eq k d) [
      | inl same ↦ rw (get_or-set_at items d k new any same (omega arith), same) are
      | inr other ↦ rw (get_or-set_other items d k new any other) (each k any (omega arith))
    ]

-- the queues of one stream changed, and there is room for it
pub IsRoomy-changed : (script : ScriptModel) (world : Played) (waits : Vec Wait) (items : List Queues)
    (due after : Vec Completion) (d : ℕ) (any new : Queues) → IsRoomy script world waits items due →
    d < length items → any ≡ get_or items d any → AreQueues script (ops_on script d) new →
    vec_capacity after ≡ vec_capacity due →
    pending_in waits.items (map (queues_of script) items) due.items + size_of new + length after.items
    ≤ length script.acts + size_of any + length due.items → IsRoomy script world waits (set items d new) after
IsRoomy-changed script world waits items due after d any new roomy b is are due_room count =
    let changed = pending-changed script waits.items items due.items after.items d any new b is in
    record {
      same_lines = roomy.same_lines;
      paired = rw (length-set items d new) roomy.paired;
      each = λ k any b. AreQueues-set script items d k new any b are roomy.each;
      waits_room = roomy.waits_room;
      due_room = rw due_room roomy.due_room;
      pending = omega arith;
    }

-- one more operation of its kind
pub All-push : (IsKind : ℕ → Type 0) (queue : List Queued) (new : Queued) → All (λ (q : Queued). IsKind q.op) queue →
    IsKind new.op → All (λ (q : Queued). IsKind q.op) (queue ++ new ∷ [])
All-push IsKind queue new all kind = All-append (λ (q : Queued). IsKind q.op) queue (new ∷ []) all (λ k d b. one k d b)
  where
    one : (k : ℕ) (d : Queued) → k < 1 → IsKind (get_or (new ∷ []) k d).op
    one zero d b = kind
    one (suc k) d b = absurd (omega arith)

-- where an operation is cancelled the others stay
pub All-left : (IsKind : ℕ → Type 0) (op : ℕ) (queue : List Queued) → All (λ (q : Queued). IsKind q.op) queue →
    All (λ (q : Queued). IsKind q.op) (filter (λ queued. not (is_queued op queued)) queue)
All-left IsKind op queue all = All-filter (λ queued. not (is_queued op queued)) (λ (q : Queued). IsKind q.op) queue all

-- an operation of a queue is in it or due
pub left-count : (op : ℕ) (queue : List Queued) (due after : List Completion) →
    after ≡ due ++ aborts_of (is_queued op) queue →
    length (filter (λ queued. not (is_queued op queued)) queue) + length after ≡ length queue + length due
left-count op queue due after is =
    let both = length-filter_both (is_queued op) (λ queued. not (is_queued op queued)) (λ x. refl) queue in
    let more = ap length is ∙ length-append due (aborts_of (is_queued op) queue) in
    let each = length-map (filter (is_queued op) queue) abort_of in
    omega arith

-- nothing is of another kind where nothing is
pub All-none : (IsKind : ℕ → Type 0) → All (λ (q : Queued). IsKind q.op) []
All-none IsKind = λ k d b. absurd (omega arith)

-- the streams changed, and are as many
pub IsRoomy-streams : (script : ScriptModel) (world after : Played) (waits : Vec Wait) (items : List Queues)
    (due : Vec Completion) → IsRoomy script world waits items due → after.lines ≡ world.lines →
    length after.streams ≡ length world.streams → IsRoomy script after waits items due
IsRoomy-streams script world after waits items due roomy lines streams = record {
  same_lines = lines ∙ roomy.same_lines;
  paired = rw streams roomy.paired;
  each = roomy.each;
  waits_room = roomy.waits_room;
  due_room = roomy.due_room;
  pending = roomy.pending;
}

-- what holds for each of a queue holds behind its head
pub All-behind : (IsKind : ℕ → Type 0) (queue : List Queued) → All (λ (q : Queued). IsKind q.op) queue →
    All (λ (q : Queued). IsKind q.op) (drop 1 queue)
All-behind IsKind [] all = All-none IsKind
All-behind IsKind (head ∷ queue) all = λ k d b. all (suc k) d (omega arith)

AreQueues-new : (script : ScriptModel) (room : ℕ) (queues : Queues) → IsNew room queues → AreQueues script room queues
AreQueues-new script room queues new = record {
  reads = rw new.no_reads (All-none (IsReading script));
  writes = rw new.no_writes (All-none (IsWriting script));
  reads_room = new.reads_room;
  writes_room = new.writes_room;
}

-- new queues with room for the operations of their streams
pub AreNew-rooms : (script : ScriptModel) (rooms : List ℕ) (items : List Queues) (streams : ℕ) → AreNew rooms items →
    ((k : ℕ) → k < streams → get_or rooms k 0 ≡ ops_on script k) → length items ≡ streams → (k : ℕ) (any : Queues) →
    k < length items → IsNew (ops_on script k) (get_or items k any)
AreNew-rooms script rooms items streams all counted count k any b =
    let here = all k any b in
    let room = counted k (omega arith) in
    rw room at here

queues_of-new : (script : ScriptModel) (room : ℕ) (queues : Queues) → IsNew room queues →
    queues_of script queues ≡ no_queues
queues_of-new script room queues new = rw (new.open_still, new.no_reads, new.no_writes)

-- queues that are new are empty
pub queues-first : (script : ScriptModel) (items : List Queues) (room : ℕ → ℕ) →
    ((k : ℕ) (any : Queues) → k < length items → IsNew (room k) (get_or items k any)) →
    map (queues_of script) items ≡ replicate (length items) no_queues
queues-first script [] room all = refl
queues-first script (queues ∷ items) room all =
    let rest : (k : ℕ) (any : Queues) → k < length items → IsNew (room (suc k)) (get_or items k any) = λ k any b.
    all (suc k) any (omega arith) in
    ap (λ q. q ∷ map (queues_of script) items) (queues_of-new script (room 0) queues (all 0 queues (omega arith)))
    ∙ ap (λ qs. no_queues ∷ qs) (queues-first script items (λ k. room (suc k)) rest)

sum-none : (n : ℕ) →
    sum_by (λ (each : StreamQueues). length each.reads + length each.writes) (replicate n no_queues) ≡ 0
sum-none zero = refl
sum-none (suc n) = sum-none n

-- room for all acts before the first event
pub IsRoomy-first : (script : ScriptModel) (told : Bool) (world : Played) (waits : Vec Wait) (items : List Queues)
    (due : Vec Completion) → world ≡ first_played script.world told → length items ≡ script.world.streams →
    ((k : ℕ) (any : Queues) → k < length items → IsNew (ops_on script k) (get_or items k any)) → waits.items ≡ [] →
    due.items ≡ [] → vec_capacity waits ≡ length script.acts → vec_capacity due ≡ length script.acts →
    IsRoomy script world waits items due
IsRoomy-first script told world waits items due first count all no_waits no_due waits_room due_room =
    let streams = ap (λ (w : Played). length w.streams) first ∙ length-first_played script.world told in
    let none = sum-none (length items) in
    record {
      same_lines = ap (λ (w : Played). w.lines) first;
      paired = omega arith;
      each = λ k d b. AreQueues-new script (ops_on script k) (get_or items k d) (all k d b);
      waits_room = omega arith;
      due_room = omega arith;
      pending = rw (no_waits, no_due, queues-first script items (ops_on script) all) (omega arith);
    }

map-empty : {X Y : Type 0} (f : X → Y) (xs : List X) → map f xs ≡ [] → xs ≡ []
map-empty f [] is = refl
map-empty f (x ∷ xs) is = absurd (cc)

-- no operation of a stream is left
pub emptied-all : (script : ScriptModel) (items : List Queues) → All IsEmpty items →
    All IsEmptied (map (queues_of script) items)
emptied-all script items all =
    All-map IsEmptied (queues_of script) items (λ k d b.
    let here = all k d b in
    (ap (map (asked (asked_reading script))) here.0, ap (map (asked (asked_writing script))) here.1))

pub all-emptied : (script : ScriptModel) (items : List Queues) → All IsEmptied (map (queues_of script) items) →
    All IsEmpty items
all-emptied script items all = λ k d b.
    let at = get_or-map (queues_of script) items k d (queues_of script d) b in
    let here = rw at at (all k (queues_of script d) (omega (arith, length-map items (queues_of script)))) in (
      map-empty (asked (asked_reading script)) (get_or items k d).reads.items here.0,
      map-empty (asked (asked_writing script)) (get_or items k d).writes.items here.1,
    )

-- how many operations streams have
pub sum-sizes : (script : ScriptModel) (items : List Queues) →
    sum_by (λ (each : StreamQueues). length each.reads + length each.writes) (map (queues_of script) items)
    ≡ sum_by size_of items
sum-sizes script [] = refl
sum-sizes script (queues ∷ items) =
    let one = size-of script queues in
    let rest = sum-sizes script items in
    let front =
    sum_by-cons (λ (each : StreamQueues). length each.reads + length each.writes) (queues_of script queues)
    (map (queues_of script) items) in
    let back = sum_by-cons size_of queues items in
    omega arith
