-- The streams of a proactor, as its queues beside a history with untold bytes.
use Rattle.std.proofs.Common.{◌≡◌, ℕ, ◌<◌, ◌≤◌, Bool, List, [], ◌∷◌, ◌++◌, Option, None, length, map, get_or, set, refl, sym, ap, subst, ◌∙◌, arith}
use Rattle.std.specs.List.{All}
use Rattle.std.proofs.Math.ListN.{get_or-map, length-set}
use Rattle.std.proofs.lemmas.List.{append_assoc, length-map, map-set}
use Rattle.std.proofs.lemmas.List.Elements.{All-cons, All-map, All-nil}
use Rattle.composed_ops.specs.StreamOperation.{StreamOperation, Reads, Writes}
use Rattle.composed_ops.specs.Progress.{IsUnderWay}
use Rattle.history_rules.specs.State.{StreamQueues}
use Rattle.history_rules.specs.Untold.{may_give_read, may_give_write}
use Rattle.reactor_trait.specs.Reactor.{Outside}
use Rattle.proactor_core.specs.declared.pending.PendingOp.{PendingOp}
use Rattle.proactor_core.specs.Due.{Due}
use Rattle.proactor_core.specs.Held.{HeldBytes}
use Rattle.proactor_core.specs.Pending.{pending_read, pending_write, progress_in, reading_asked, writing_asked, AreReads, AreWrites, GivesInOrder}
use Rattle.proactor_core.specs.Reading.{AsksToRead}
use Rattle.proactor_core.specs.Streams.{new_stream_view, none_served, one_served, queues_in, stream_in, AreServedBelow, IsServedAt, StreamView}
use Rattle.proactor_core.specs.Untold.{none_below, one_below, queues_of_view, AreGivenBelow, IsGivenAt, IsReadUnderWay, IsWriteUnderWay, StreamsGiveBelow, WorkIsUnderWay}
use Rattle.proactor_core.specs.Writing.{AsksToWrite}

stream-gives : (last : Bool) (number : ℕ) (old new : List StreamView) (told left : Option Outside)
    (due later : Due) → number < length old → IsServedAt last number old new told left due later →
    IsGivenAt number (map queues_in old) (map queues_in new) due.coming later.coming
stream-gives last number old new told left due later within at =
    let before = stream_in old number in
    let after = stream_in new number in
    let reads = at.gives.reads in
    let writes = at.gives.writes in
    let long = length-map old queues_in in
    let first : queues_of_view (map queues_in old) number ≡ queues_in before =
    get_or-map queues_in old number (new_stream_view 0 0 0) in
    let second : queues_of_view (map queues_in new) number ≡ queues_in after =
    get_or-map queues_in new number (new_stream_view 0 0 0) in
    let whole = λ (p q : StreamQueues). let w : StreamQueues = record p { reads = q.reads; writes = q.writes } in
    w in
    let is_new = ap (map queues_in) at.others ∙ map-set queues_in old number
    (record before { held = after.held; reads = after.reads; writes = after.writes }) in
    let set_there = λ (p q : StreamQueues). set (map queues_in old) number (whole p q) in
    record {
      within = omega arith;
      reads = reads.completed;
      writes = writes.completed;
      listed = ap (λ (d : Due). d.coming) writes.due ∙ ap (λ (d : Due). d.coming ++ writes.completed) reads.due
          ∙ append_assoc due.coming reads.completed writes.completed;
      others = is_new ∙ ap (λ p. set_there p (queues_in after)) (sym first)
          ∙ ap (set_there (queues_of_view (map queues_in old) number)) (sym second);
      reads_in_order = subst (λ (q : StreamQueues). GivesInOrder may_give_read q.reads
          (queues_of_view (map queues_in new) number).reads reads.completed) (sym first)
          (subst (λ (q : StreamQueues). GivesInOrder may_give_read before.reads q.reads reads.completed)
          (sym second) reads.in_order);
      writes_in_order = subst (λ (q : StreamQueues). GivesInOrder may_give_write q.writes
          (queues_of_view (map queues_in new) number).writes writes.completed) (sym first)
          (subst (λ (q : StreamQueues). GivesInOrder may_give_write before.writes q.writes writes.completed)
          (sym second) writes.in_order);
    }

-- there are as many streams as before
pub served-count : {last : Bool} {number : ℕ} {old new : List StreamView} {told left : Option Outside}
    {due later : Due} → AreServedBelow last number old new told left due later → length new ≡ length old
served-count none_served = refl
served-count (one_served {number = number} {old = old} {new = new} below at) =
    let after = stream_in new number in
    let changed : StreamView = record (stream_in old number)
    { held = after.held; reads = after.reads; writes = after.writes } in
    ap length at.others ∙ length-set old number changed ∙ served-count below

streams-give : {last : Bool} {number : ℕ} {old new : List StreamView} {told left : Option Outside} {due later : Due} →
    number ≤ length old → AreServedBelow last number old new told left due later →
    AreGivenBelow number (map queues_in old) (map queues_in new) due.coming later.coming
streams-give few none_served = none_below
streams-give {last = last} few
    (one_served {number = n} {old = old} {new = new} {told = told} {left = left} {due = due} {later = later} below at) =
    let same = served-count below in
    one_below (streams-give (omega arith) below) (stream-gives last n old new told left due later (omega arith) at)

pub streams-give-below : StreamsGiveBelow
streams-give-below last number old new told left due later few served = streams-give few served

-- a read that is under way, whatever its latest piece was
read-under-way : (asks : StreamOperation) (moved : ℕ) (latest : Option ℕ) → AsksToRead asks →
    IsUnderWay (record { asks = asks; moved = moved; latest = latest }) →
    IsUnderWay (record { asks = Reads (reading_asked asks); moved = moved; latest = None })
read-under-way (Reads reading) moved latest is under_way =
    record { missing = under_way.missing; counted = under_way.counted; before = under_way.before }
read-under-way (Writes writing) moved latest is under_way = absurd is

write-under-way : (asks : StreamOperation) (moved : ℕ) (latest : Option ℕ) → AsksToWrite asks →
    IsUnderWay (record { asks = asks; moved = moved; latest = latest }) →
    IsUnderWay (record { asks = Writes (writing_asked asks); moved = moved; latest = None })
write-under-way (Reads reading) moved latest is under_way = absurd is
write-under-way (Writes writing) moved latest is under_way =
    record { missing = under_way.missing; counted = under_way.counted; before = under_way.before }

one-read : (pending : PendingOp) → AsksToRead (progress_in pending).asks → IsUnderWay (progress_in pending) →
    IsReadUnderWay (pending_read pending)
one-read pending is under_way = let p = progress_in pending in read-under-way p.asks p.moved p.latest is under_way

reads-under-way : (buffer : ℕ) (held : HeldBytes) (reads : List PendingOp) → AreReads buffer held reads →
    All IsReadUnderWay (map pending_read reads)
reads-under-way buffer held [] are = All-nil IsReadUnderWay
reads-under-way buffer held (head ∷ queue) are =
    All-cons IsReadUnderWay (pending_read head) (map pending_read queue) (one-read head are.0.reads are.0.under_way)
    (All-map IsReadUnderWay pending_read queue (λ k d b. let new = are.1 k d b in
    one-read (get_or queue k d) new.reads new.under_way))

writes-under-way : (writes : List PendingOp) → AreWrites writes → All IsWriteUnderWay (map pending_write writes)
writes-under-way writes are =
    All-map IsWriteUnderWay pending_write writes (λ k d b. let is = are k d b in
    let p = progress_in (get_or writes k d) in write-under-way p.asks p.moved p.latest is.writes is.under_way)

pub work-is-under-way : WorkIsUnderWay
work-is-under-way buffer held closed reads writes are others =
    record { reads = reads-under-way buffer held reads are; writes = writes-under-way writes others }
