use Rattle.asio_types.specs.declared.code.Code.TheVariants as code
use Rattle.history_rules.specs.Performing.{is_wait_for}
use Rattle.history_book.proofs.RoomLemmas.{IsRoomy-completed}
use Rattle.history_book.proofs.reactor_half.ReactorWorks.cancel_wait.Goals as goal

pub invariant_of-self : goal.invariant_of-self
invariant_of-self c =
    let s = c.self.inside in
    let done = c.complete_waits in
    IsRoomy-completed s.script.now s.world s.waits done.new.waits s.queues.items s.due done.new.due (code.Aborted)
    (is_wait_for c.args.op) c.self.invariant done.ensures.waits done.ensures.due done.ensures.waits_room
    done.ensures.due_room

pub returns : goal.returns
returns c = rw (← c.self.view_is, c.complete_waits.ensures.waits, c.complete_waits.ensures.due)
