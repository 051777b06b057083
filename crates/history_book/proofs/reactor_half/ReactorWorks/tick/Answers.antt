use Rattle.std.proofs.Common.{length, map, ap, ◌∙◌}
use Rattle.history_book.specs.Played.{Played}
use Rattle.history_rules.specs.Waits.{expiry_in}
use Rattle.history_book.proofs.PlayedLemmas.{length-played_at}
use Rattle.history_book.proofs.RoomLemmas.{IsRoomy-streams}
use Rattle.history_rules.proofs.TimeLemmas.{next-above}
use Rattle.history_book.proofs.reactor_half.ReactorWorks.tick.Goals as goal

pub tick-requires-clause-ahead : goal.tick-requires-clause-ahead
tick-requires-clause-ahead c = λ x is.
    let s = c.self.inside in
    let limit = rw (← c.self.view_is) at c.next_expiry-limit.ensures in
    next-above s.world.now (map (expiry_in s.expiries.items) s.waits.items) x (rw limit at is)

pub invariant_of-self : goal.invariant_of-self
invariant_of-self c =
    let s = c.self.inside in
    IsRoomy-streams s.script.now s.world c.tick.new.self s.waits s.queues.items s.due c.self.invariant
    (ap (λ (w : Played). w.lines) c.tick.ensures)
    (ap (λ (w : Played). length w.streams) c.tick.ensures ∙ length-played_at c.args.now s.world)

pub returns : goal.returns
returns c =
    let same = c.self.invariant.same_lines in
    rw (c.settle.ensures, ← c.self.view_is, c.tick.ensures, same)
