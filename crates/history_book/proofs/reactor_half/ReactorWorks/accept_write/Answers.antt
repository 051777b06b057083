use Rattle.std.proofs.Common.{◌++◌, ◌∷◌, [], length, refl, ap, ◌∙◌, arith}
use Rattle.std.proofs.lemmas.List.{map-append, length-append}
use Rattle.history_book.specs.Asking.{asked_writing, IsWriting}
use Rattle.history_rules.specs.Performing.{new_pending}
use Rattle.history_rules.specs.State.{StreamQueues}
use Rattle.history_book.proofs.RoomLemmas.{queues-at, queues-changed, size-of, AreQueues-at, IsRoomy-changed, All-push}
use Rattle.history_book.proofs.reactor_half.ReactorWorks.accept_write.Goals as goal

pub push_back_reserved-requires : goal.push_back_reserved-requires
push_back_reserved-requires c =
    let s = c.self.inside in
    let old = c.in-Some.queues.now in
    let at = c.in-Some.ensures.item.3.0 in
    let is = c.in-Some.ensures.value in
    let place = (rw (← c.self.view_is) at c.requires.place) c.args.stream refl in
    let here = rw (queues-at s.script.now s.queues.items c.args.stream old at is) at place in
    let size = size-of s.script.now old in
    let are = AreQueues-at s.script.now s.world s.waits s.queues.items s.due c.args.stream old c.self.invariant at is in
    omega (arith, old.writes.ok.0, are.writes_room)

pub invariant_of-self-2 : goal.invariant_of-self-2
invariant_of-self-2 c =
    let s = c.self.inside in
    let old = c.in-Some.queues.now in
    let at = c.in-Some.ensures.item.3.0 in
    let is = c.in-Some.ensures.value in
    let push = c.push_back_reserved in
    let room = rw (← c.self.view_is) at c.requires.room in
    let kind = rw (← c.self.view_is) at c.requires.writes in
    let are = AreQueues-at s.script.now s.world s.waits s.queues.items s.due c.args.stream old c.self.invariant at is in
    let more = ap length push.ensures.items ∙ length-append old.writes.items (c.new_queued-new.result ∷ []) in
    IsRoomy-changed s.script.now s.world s.waits s.queues.items s.due s.due c.args.stream old
    (record { closed = old.closed; reads = old.reads; writes = push.new.self }) c.self.invariant at is
    (record {
      reads = are.reads;
      writes =
          rw push.ensures.items
          (All-push (IsWriting s.script.now) old.writes.items c.new_queued-new.result are.writes
          (rw c.new_queued-new.ensures kind));
      reads_room = are.reads_room;
      writes_room = rw push.ensures.capacity are.writes_room;
    }) refl (omega arith)

pub returns : goal.returns
returns c =
    let s = c.self.inside in
    let old = c.in-Some.queues.now in
    let at = c.in-Some.ensures.item.3.0 in
    let is = c.in-Some.ensures.value in
    let push = c.push_back_reserved in
    let open_still =
    ap (λ (q : StreamQueues). q.closed) (queues-at s.script.now s.queues.items c.args.stream old at is)
    ∙ c.if-queues.false in
    let change = λ (q : StreamQueues).
    record q { writes = q.writes ++ new_pending c.args.op s.accepted (asked_writing s.script.now c.args.op) ∷ [] } in
    let changed =
    queues-changed s.script.now s.queues.items c.args.stream old
    (record { closed = old.closed; reads = old.reads; writes = push.new.self }) change at is
    (rw (push.ensures.items, c.new_queued-new.ensures, map-append)) in
    rw (← c.self.view_is, changed, open_still)
