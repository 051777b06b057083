-- What holds between the turns of the reactor.
use Rattle.std.proofs.Common.{◌≡◌, ◌⊎◌, ℕ, ◌+◌, ◌^◌, ◌<◌, ◌≤◌, nat_lt, min, Bool, true, false, not, cond, List, [], ◌∷◌, ◌++◌, Option, Some, None, length, map, filter, drop, get_or, set, replicate, zero, suc, inl, inr, refl, ap, sym, ◌∙◌, arith}
use Rattle.std.specs.Prelude.{count_by, sum_by}
use Rattle.std.specs.List.{All}
use Rattle.std.proofs.lemmas.List.{get_or_past, get_or-replicate, length-append, length-drop, length-replicate, length-set}
use Rattle.std.proofs.lemmas.List.Elements.{All-filter, All-map}
use Rattle.std.proofs.lemmas.List.Sums.{count_by-le-length, sum_by-set}
use Rattle.std.proofs.lemmas.Bool.{cases_eq, cases_lt}
use Rattle.std.proofs.lemmas.Bool.Decides.{nat_tests}
use Rattle.asio_types.specs.Faults.{most_faults, one_more}
use Rattle.asio_types.specs.declared.code.Code.TheVariants as code
use Rattle.asio_types.specs.declared.outside.Point.TheVariants as point
use Rattle.asio_types.specs.declared.world.Line.{Line}
use Rattle.session_script.specs.declared.act.Act.{Act}
use Rattle.session_script.specs.declared.act.Act.TheVariants as act
use Rattle.session_script.specs.Limits.{most_acts}
use Rattle.session_script.specs.Script.{ScriptModel, act_of}
use Rattle.session_script.specs.WellFormed.{FitsAct, IsWellFormed, header_of}
use Rattle.stream_rules.specs.declared.queue.Completion.{Completion}
use Rattle.stream_rules.specs.Queue.{Pending, Side, reading_side, served_head, served_queue, writing_side}
use Rattle.stream_rules.specs.Serving.{Outcome}
use Rattle.stream_rules.specs.Stream.{Stream}
use Rattle.stream_rules.specs.World.{stream_at, times_after}
use Rattle.history_rules.specs.Performing.{performed, performed_by, queues_at, with_queues}
use Rattle.history_rules.specs.Requests.{disconnected, reactor_after_done, reactor_after_take, slot_in, told_off}
use Rattle.history_rules.specs.Untold.{gone, read_gone, reading_place, write_gone, writing_place}
use Rattle.history_rules.specs.Bounds.{size_at, stream_asked}
use Rattle.history_book.specs.QueueRoom.{taken_on, HasPlace}
use Rattle.history_rules.specs.Rounds.{is_held}
use Rattle.history_rules.specs.Settling.{expiry_of, is_due, served_at, served_below, served_stream, settled, with_streams_served, with_waits_served, AreDueTogether}
use Rattle.history_rules.specs.State.{ReactorHalf, StreamQueues, first_reactor, no_queues}
use Rattle.history_rules.specs.declared.wait.Wait.{Wait}
use Rattle.history_rules.specs.Time.{at_last, at_time, next_expiry, next_time, pending_count, reactor_after_fault, reactor_after_last, reactor_after_tick}
use Rattle.history_rules.specs.Bounds.{latest, AllAhead}
use Rattle.history_book.specs.Turns.{IsSettled}
use Rattle.history_rules.proofs.LimitLemmas.{time-below}
use Rattle.history_rules.proofs.PerformingLemmas.{All-passing, pending-queues, performs-by, together-ahead, together-from}
use Rattle.history_rules.proofs.SizesLemmas.{each_size, sizes-set}
use Rattle.history_book.proofs.QueueRoomLemmas.{taken-below, taken-more}
use Rattle.history_rules.proofs.PerformingLemmas.{pending-completed}
use Rattle.history_rules.proofs.SettlingLemmas.{due-together}
use Rattle.history_rules.proofs.TimeLemmas.{least_of-within, next_point-first, next_point-within}
use Rattle.history_rules.specs.Waits.{expiry_in}

-- what settling leaves as it was, and what holds after it
pub record Settles (r after : ReactorHalf) : Type 0 where
  pub taken : after.taken ≡ r.taken
  pub accepted : after.accepted ≡ r.accepted
  pub now : after.now ≡ r.now
  pub expiries : after.expiries ≡ r.expiries
  pub pending : pending_count after ≤ pending_count r
  pub sizes : (stream : ℕ) → size_at after stream ≤ size_at r stream
  pub ahead : AllAhead after

not-due : (r : ReactorHalf) (wait : Wait) → not (is_due r wait) ≡ true → r.now < expiry_of r wait
not-due r wait late = grind (arith, nat_tests, late)

settles-waits : (r : ReactorHalf) → AreDueTogether r →
    Settles r (record (with_waits_served r) { whole_turn = true; reached = 0 })
settles-waits r together = record {
  taken = refl;
  accepted = refl;
  now = refl;
  expiries = refl;
  pending =
      let listed = due-together r together in
      let same = pending-completed (code.Ok) (is_due r) r.waits r.queues r.due in
      rw listed (omega arith);
  sizes = λ stream. omega arith;
  ahead =
      All-passing (λ wait. not (is_due r wait)) (λ wait. Unit {0}) (λ wait. r.now < expiry_of r wait) r.waits
      (λ wait any late. not-due r wait late) (λ k d b. tt);
}

head-count : {Asks : Type 0} (side : Side Asks) (head : Pending Asks) (queue : List (Pending Asks)) (used : ℕ)
    (left : Stream) (outcome : Option Outcome) →
    length (served_queue side queue left).completed + length (served_queue side queue left).staying ≡ length queue →
    length (served_head head queue used left (served_queue side queue left) outcome).completed
    + length (served_head head queue used left (served_queue side queue left) outcome).staying ≡ length queue + 1
head-count side head queue used left None rest = omega arith
head-count side head queue used left (Some outcome) rest = omega arith

-- serving a queue lists each operation or leaves it
queue-count : {Asks : Type 0} (side : Side Asks) (queue : List (Pending Asks)) (stream : Stream) →
    length (served_queue side queue stream).completed + length (served_queue side queue stream).staying ≡ length queue
queue-count side [] stream = refl
queue-count side (head ∷ queue) stream =
    let served = side.served head.asks head.moved stream in
    let left = side.after head.asks head.moved served.used stream in
    head-count side head queue served.used left served.outcome (queue-count side queue left) ∙ omega arith

settles-one : (n : ℕ) (r after : ReactorHalf) → Settles r after → Settles r (served_at n after)
settles-one n r after settles =
    let old = queues_at after n in
    let stream = stream_at after.streams n in
    let reads = served_queue reading_side old.reads stream in
    let writes = served_queue writing_side old.writes reads.stream in
    let one = queue-count reading_side old.reads stream in
    let two = queue-count writing_side old.writes reads.stream in
    let both = length-append reads.completed writes.completed in
    let listed = length-append after.due (reads.completed ++ writes.completed) in
    record {
      taken = settles.taken;
      accepted = settles.accepted;
      now = settles.now;
      expiries = settles.expiries;
      pending =
          let less =
          pending-queues after.waits after.queues after.due (after.due ++ (reads.completed ++ writes.completed)) n 0
          (served_stream stream old).queues (omega arith) in
          let before = settles.pending in
          omega arith;
      sizes = λ d.
          let here = sizes-set after.queues n (served_stream stream old).queues (λ any. 0) (omega arith) d in
          let before = settles.sizes d in
          omega arith;
      ahead = settles.ahead;
    }

settles-below : (n : ℕ) (r after : ReactorHalf) → Settles r after → Settles r (served_below n after)
settles-below zero r after settles = settles
settles-below (suc n) r after settles = settles-one n r (served_below n after) (settles-below n r after settles)

settles-streams : (told : Bool) (r after : ReactorHalf) → Settles r after → Settles r (with_streams_served told after)
settles-streams true r after settles = settles-below (length after.queues) r after settles
settles-streams false r after settles = settles

pub settles : (told : Bool) (r : ReactorHalf) → AreDueTogether r → Settles r (settled told r)
settles told r together =
    settles-streams told r (record (with_waits_served r) { whole_turn = true; reached = 0 }) (settles-waits r together)

-- a turn that has settled
pub IsSettled-turn : (script : ScriptModel) (r after : ReactorHalf) → Settles r after → length script.acts ≤ most_acts →
    length r.taken ≡ length script.acts → count_by is_held r.taken ≡ r.accepted → pending_count r ≤ r.accepted →
    ((stream : ℕ) → size_at r stream ≤ taken_on script r.taken stream) → r.now ≤ latest r.accepted →
    All (λ expiry. expiry ≤ latest r.accepted) r.expiries → IsSettled script after
IsSettled-turn script r after done few acts counted pending queued now expiries = record {
  few = few;
  acts = ap length done.taken ∙ acts;
  counted = ap (count_by is_held) done.taken ∙ counted ∙ sym done.accepted;
  pending = let less = done.pending in let same = done.accepted in omega arith;
  queued = λ stream. let less = done.sizes stream in let before = queued stream in rw done.taken (omega arith);
  ahead = done.ahead;
  now_within = rw (done.now, done.accepted) now;
  expiries_within = rw (done.expiries, done.accepted) expiries;
}

-- one more act is taken
count-taken : (taken : List Bool) (a : ℕ) → a < length taken → get_or taken a false ≡ false →
    count_by is_held (set taken a true) ≡ count_by is_held taken + 1
count-taken taken a b is =
    let sums = sum_by-set (λ (held : Bool). cond (is_held held) 1 0) taken a true false b in
    let here = rw is at sums in
    omega arith

-- an act that wasn't taken leaves fewer that were
count-below : (taken : List Bool) (a : ℕ) → a < length taken → get_or taken a false ≡ false →
    count_by is_held taken < length taken
count-below taken a b is =
    let more = count-taken taken a b is in
    let most = count_by-le-length is_held (set taken a true) in
    let long = length-set taken a true in
    omega arith

-- what a take finds: room, and times that fit
pub room-left : (script : ScriptModel) (r : ReactorHalf) (a : ℕ) → IsSettled script r → a < length script.acts →
    get_or r.taken a false ≡ false → (pending_count r < length script.acts) × (r.accepted < length script.acts)
room-left script r a settled b is =
    let acts = settled.acts in
    let below = count-below r.taken a (omega arith) is in
    let counted = settled.counted in
    let pending = settled.pending in
    (omega arith, omega arith)

-- and a place in the queues of its stream
pub has-place : (script : ScriptModel) (r : ReactorHalf) (a : ℕ) → IsSettled script r → a < length script.acts →
    get_or r.taken a false ≡ false → HasPlace script r (stream_asked (act_of script a))
has-place script r a settled b is = λ stream on.
    let held = settled.queued stream in
    let below = taken-below script r.taken a stream b is on in
    omega arith

pub now-soon : (script : ScriptModel) (r : ReactorHalf) → IsSettled script r → r.accepted < length script.acts →
    r.now < 2 ^ 62
now-soon script r settled b =
    let few = settled.few in
    let within = settled.now_within in
    omega arith

pub now-latest : (script : ScriptModel) (r : ReactorHalf) → IsSettled script r → r.accepted ≤ length script.acts
now-latest script r settled =
    let most = count_by-le-length is_held r.taken in
    let counted = settled.counted in
    let acts = settled.acts in
    omega arith

-- the act is taken
pub IsSettled-take : (script : ScriptModel) (told : Bool) (r : ReactorHalf) (a : ℕ) →
    ((it : Act) → act_of script a ≡ Some it → FitsAct (header_of script) it) → IsSettled script r →
    a < length script.acts → get_or r.taken a false ≡ false → IsSettled script (reactor_after_take script told r a)
IsSettled-take script told r a fits settled b is =
    let done = performs-by script a (act_of script a) r fits in
    let few = settled.few in
    let acts = settled.acts in
    let left = room-left script r a settled b is in
    let more = count-taken r.taken a (omega arith) is in
    let counted = settled.counted in
    let now = settled.now_within in
    let before = settled.pending in
    let pending = done.pending in
    let time = time-below script.version in
    let after : ℕ = r.accepted + 1 in
    let one : min (r.accepted + 1) most_faults ≡ r.accepted + 1 = omega (arith, left.1) in
    let same : (performed script a r).accepted ≡ r.accepted + 1 = ap one_more done.accepted ∙ one in
    let expiries = done.expiries (latest r.accepted) now settled.expiries_within in
    let queued : (stream : ℕ) →
    size_at (performed script a r) stream
    ≤ taken_on script (set (performed_by script a (act_of script a) r).taken a true) stream =
    λ stream.
    let sizes = done.sizes stream in
    let held = settled.queued stream in
    let one_more_taken = taken-more script r.taken a stream b (omega arith) is in
    rw done.taken (omega arith) in
    IsSettled-turn script (performed script a r) (reactor_after_take script told r a)
    (settles told (performed script a r) (done.together settled.ahead)) few
    (length-set (performed_by script a (act_of script a) r).taken a true ∙ ap length done.taken ∙ acts)
    (ap (λ taken. count_by is_held (set taken a true)) done.taken ∙ more ∙ ap (λ n. n + 1) counted ∙ sym same)
    (rw same (omega arith)) queued (rw (same, done.now) (omega arith))
    (rw same (λ k d c. let here = expiries k d c in omega arith))

line-times : (script : ScriptModel) (top : ℕ) → IsWellFormed script → 2 ^ 40 ≤ top →
    All (λ (line : Line). line.time ≤ top) script.world.lines
line-times script top formed b = λ k d c.
    let fits = (formed.lines k d c).0 in
    let most = time-below script.version in
    omega arith

expiry-within : (expiries : List ℕ) (top : ℕ) (wait : Wait) → All (λ expiry. expiry ≤ top) expiries →
    expiry_in expiries wait ≤ top
expiry-within expiries top wait all =
    elim (cases_lt wait.timer (length expiries)) [
      | inl there ↦ all wait.timer 0 there
      | inr past ↦ let none = get_or_past expiries wait.timer 0 (omega arith) in omega arith
    ]

-- the next time point is within bounds
next-within : (script : ScriptModel) (r : ReactorHalf) (now : ℕ) → IsWellFormed script → IsSettled script r →
    next_time script r ≡ point.Time now → now ≤ latest r.accepted
next-within script r now formed settled next =
    let times : List ℕ = filter (λ expiry. nat_lt r.now expiry) (map (expiry_of r) r.waits) in
    let each : All (λ t. t ≤ latest r.accepted) times =
    All-filter (λ expiry. nat_lt r.now expiry) (λ t. t ≤ latest r.accepted) (map (expiry_of r) r.waits)
    (All-map (λ t. t ≤ latest r.accepted) (expiry_of r) r.waits
    (λ k d b. expiry-within r.expiries (latest r.accepted) (get_or r.waits k d) settled.expiries_within)) in
    next_point-within (latest r.accepted) now r.now (next_expiry r) script.world.lines next
    (least_of-within (latest r.accepted) times each) (line-times script (latest r.accepted) formed (omega arith))

-- the waits that the next time point meets are due together
pub together-tick : (script : ScriptModel) (told : Bool) (r : ReactorHalf) (now : ℕ) → IsSettled script r →
    next_time script r ≡ point.Time now → AreDueTogether (at_time script told now r)
together-tick script told r now settled next =
    together-from (at_time script told now r) now (λ k d b.
    let ahead = settled.ahead k d b in
    let first =
    next_point-first (expiry_of r) r.now now r.waits (times_after r.now script.world.lines) next k d b ahead in
    later now (expiry_of r (get_or r.waits k d)) first)
  where
    later : (now e : ℕ) → now ≤ e → (now < e) ⊎ (e ≡ now)
    later now e b = elim (cases_eq e now) [ inl same ↦ inr same | inr other ↦ inl (omega arith) ]

-- time moves to the next time point
pub IsSettled-tick : (script : ScriptModel) (told : Bool) (r : ReactorHalf) (now : ℕ) → IsWellFormed script →
    IsSettled script r → next_time script r ≡ point.Time now → IsSettled script (reactor_after_tick script told r now)
IsSettled-tick script told r now formed settled next =
    IsSettled-turn script (at_time script told now r) (reactor_after_tick script told r now)
    (settles told (at_time script told now r) (together-tick script told r now settled next)) settled.few settled.acts
    settled.counted settled.pending settled.queued (next-within script r now formed settled next)
    settled.expiries_within

-- the last time point has passed
pub IsSettled-last : (script : ScriptModel) (told : Bool) (r : ReactorHalf) → IsSettled script r →
    IsSettled script (reactor_after_last told r)
IsSettled-last script told r settled =
    IsSettled-turn script (at_last told r) (reactor_after_last told r)
    (settles told (at_last told r) (together-ahead (at_last told r) settled.ahead)) settled.few settled.acts
    settled.counted settled.pending settled.queued settled.now_within settled.expiries_within

-- the reactor fails
pub IsSettled-fault : (script : ScriptModel) (r : ReactorHalf) → IsSettled script r →
    IsSettled script (reactor_after_fault r)
IsSettled-fault script r settled = record {
  few = settled.few;
  acts = settled.acts;
  counted = settled.counted;
  pending = let pending = settled.pending in omega arith;
  queued = settled.queued;
  ahead = settled.ahead;
  now_within = settled.now_within;
  expiries_within = settled.expiries_within;
}

count-none : (n : ℕ) → count_by is_held (replicate n false) ≡ 0
count-none zero = refl
count-none (suc n) = count-none n

sum-none : (n : ℕ) →
    sum_by (λ (each : StreamQueues). length each.reads + length each.writes) (replicate n no_queues) ≡ 0
sum-none zero = refl
sum-none (suc n) = sum-none n

size-none : (n stream : ℕ) → each_size (get_or (replicate n no_queues) stream no_queues) ≡ 0
size-none zero stream = refl
size-none (suc n) zero = refl
size-none (suc n) (suc stream) = size-none n stream

-- before the first event
pub IsSettled-first : (script : ScriptModel) (told : Bool) → length script.acts ≤ most_acts →
    IsSettled script (first_reactor script told)
IsSettled-first script told few = record {
  few = few;
  acts = length-replicate (length script.acts) false;
  counted = count-none (length script.acts);
  pending = let none = sum-none script.world.streams in omega arith;
  queued = λ stream. let none = size-none script.world.streams stream in omega arith;
  ahead = λ k d b. absurd (omega arith);
  now_within = omega arith;
  expiries_within = λ k d b.
      let zero_there = get_or-replicate script.timers k 0 d (omega (arith, length-replicate {A = ℕ} script.timers 0)) in
      omega arith;
}

-- what a completion that is told leaves as it was
record Leaves (r after : ReactorHalf) : Type 0 where
  taken : after.taken ≡ r.taken
  accepted : after.accepted ≡ r.accepted
  now : after.now ≡ r.now
  expiries : after.expiries ≡ r.expiries
  waits : after.waits ≡ r.waits
  pending : pending_count after ≤ pending_count r
  sizes : (stream : ℕ) → size_at after stream ≤ size_at r stream

leaves-same : (r : ReactorHalf) → Leaves r r
leaves-same r = record {
  taken = refl;
  accepted = refl;
  now = refl;
  expiries = refl;
  waits = refl;
  pending = omega arith;
  sizes = λ stream. omega arith;
}

leaves-queues : (r : ReactorHalf) (stream reached : ℕ) (new : StreamQueues) →
    length new.reads + length new.writes ≤ length (queues_at r stream).reads + length (queues_at r stream).writes →
    Leaves r (record (with_queues r stream new) { reached = reached })
leaves-queues r stream reached new b = record {
  taken = refl;
  accepted = refl;
  now = refl;
  expiries = refl;
  waits = refl;
  pending = let less = pending-queues r.waits r.queues r.due r.due stream 0 new (omega arith) in omega arith;
  sizes = λ d. let here = sizes-set r.queues stream new (λ any. 0) (omega arith) d in omega arith;
}

leaves-read : (stream : ℕ) (r : ReactorHalf) → Leaves r (read_gone stream r)
leaves-read stream r =
    let old = queues_at r stream in
    let less = length-drop 1 old.reads in
    leaves-queues r stream (reading_place stream) (record old { reads = drop 1 old.reads }) (omega arith)

leaves-write : (stream : ℕ) (r : ReactorHalf) → Leaves r (write_gone stream r)
leaves-write stream r =
    let old = queues_at r stream in
    let less = length-drop 1 old.writes in
    leaves-queues r stream (writing_place stream) (record old { writes = drop 1 old.writes }) (omega arith)

leaves-gone : (given : Option Act) (r : ReactorHalf) → Leaves r (gone given r)
leaves-gone None r = leaves-same r
leaves-gone (Some (act.ReadSome stream size strand slot filter)) r = leaves-read stream r
leaves-gone (Some (act.ReadAll stream size strand slot filter)) r = leaves-read stream r
leaves-gone (Some (act.Until stream delimiter max strand slot filter)) r = leaves-read stream r
leaves-gone (Some (act.WriteSome stream bytes strand slot filter)) r = leaves-write stream r
leaves-gone (Some (act.WriteAll stream bytes strand slot filter)) r = leaves-write stream r
leaves-gone (Some (act.Wait timer strand slot filter)) r = leaves-same r
leaves-gone (Some (act.Post strand)) r = leaves-same r
leaves-gone (Some (act.Defer strand)) r = leaves-same r
leaves-gone (Some (act.Dispatch strand)) r = leaves-same r
leaves-gone (Some (act.Expires timer after)) r = leaves-same r
leaves-gone (Some (act.ExpiresAt timer at)) r = leaves-same r
leaves-gone (Some (act.Cancel timer)) r = leaves-same r
leaves-gone (Some (act.CancelOne timer)) r = leaves-same r
leaves-gone (Some (act.Emit slot types)) r = leaves-same r
leaves-gone (Some (act.Close stream)) r = leaves-same r
leaves-gone (Some (act.Release guard)) r = leaves-same r
leaves-gone (Some act.Stop) r = leaves-same r

leaves-told : (script : ScriptModel) (o : ℕ) (r : ReactorHalf) (due : List Completion) → r.due ≡ due →
    Leaves r (told_off script o r due)
leaves-told script o r [] is = leaves-gone (act_of script o) r
leaves-told script o r (head ∷ due) is = record {
  taken = refl;
  accepted = refl;
  now = refl;
  expiries = refl;
  waits = refl;
  pending = let long = ap length is in omega arith;
  sizes = λ stream. omega arith;
}

leaves-disconnected : (o : ℕ) (slot : Option ℕ) (r after : ReactorHalf) → Leaves r after →
    Leaves r (disconnected o slot after)
leaves-disconnected o None r after leaves = leaves
leaves-disconnected o (Some slot) r after leaves = record {
  taken = leaves.taken;
  accepted = leaves.accepted;
  now = leaves.now;
  expiries = leaves.expiries;
  waits = leaves.waits;
  pending = leaves.pending;
  sizes = leaves.sizes;
}

leaves-whole : (r after : ReactorHalf) → Leaves r after → Leaves r (record after { whole_turn = false })
leaves-whole r after leaves = record {
  taken = leaves.taken;
  accepted = leaves.accepted;
  now = leaves.now;
  expiries = leaves.expiries;
  waits = leaves.waits;
  pending = leaves.pending;
  sizes = leaves.sizes;
}

-- a completion was told
pub IsSettled-done : (script : ScriptModel) (r : ReactorHalf) (o : ℕ) → IsSettled script r →
    IsSettled script (reactor_after_done script r o)
IsSettled-done script r o settled =
    let told = told_off script o r r.due in
    let leaves =
    leaves-disconnected o (slot_in (act_of script o)) r (record told { whole_turn = false })
    (leaves-whole r told (leaves-told script o r r.due refl)) in
    record {
      few = settled.few;
      acts = ap length leaves.taken ∙ settled.acts;
      counted = ap (count_by is_held) leaves.taken ∙ settled.counted ∙ sym leaves.accepted;
      pending = let less = leaves.pending in let same = leaves.accepted in let before = settled.pending in omega arith;
      queued = λ stream.
          let less = leaves.sizes stream in let before = settled.queued stream in rw leaves.taken (omega arith);
      ahead = rw (leaves.waits, leaves.expiries, leaves.now) settled.ahead;
      now_within = rw (leaves.now, leaves.accepted) settled.now_within;
      expiries_within = rw (leaves.expiries, leaves.accepted) settled.expiries_within;
    }
