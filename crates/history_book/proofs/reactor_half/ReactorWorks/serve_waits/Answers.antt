use Rattle.asio_types.specs.declared.code.Code.TheVariants as code
use Rattle.history_book.specs.Waiting.{is_chosen}
use Rattle.history_book.specs.declared.waiting.Which.TheVariants as which
use Rattle.history_book.proofs.RoomLemmas.{IsRoomy-completed}
use Rattle.history_rules.proofs.SettlingLemmas.{due-together}
use Rattle.history_book.proofs.reactor_half.ReactorWorks.serve_waits.Goals as goal

pub invariant_of-self : goal.invariant_of-self
invariant_of-self c =
    let s = c.self.inside in
    let done = c.complete_waits in
    IsRoomy-completed s.script.now s.world s.waits done.new.waits s.queues.items s.due done.new.due (code.Ok)
    (is_chosen (which.Due c.now-now.result c.as_slice.result)) c.self.invariant done.ensures.waits done.ensures.due
    done.ensures.waits_room done.ensures.due_room

pub returns : goal.returns
returns c =
    rw (
      due-together c.args.self.now.half c.requires,
      ← c.self.view_is,
      c.complete_waits.ensures.waits,
      c.complete_waits.ensures.due,
      c.as_slice.ensures.value,
      c.now-now.ensures,
    )
