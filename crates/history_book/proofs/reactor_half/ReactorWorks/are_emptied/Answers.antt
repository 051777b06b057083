use Rattle.std.proofs.Common.{map}
use Rattle.std.specs.Bool.{IsTrue}
use Rattle.std.specs.List.{All}
use Rattle.history_book.specs.Asking.{queues_of}
use Rattle.history_rules.specs.Rounds.{IsEmptied}
use Rattle.history_book.proofs.RoomLemmas.{all-emptied, emptied-all}
use Rattle.history_book.proofs.reactor_half.ReactorWorks.are_emptied.Goals as goal

pub returns : goal.returns
returns c =
    let s = c.self.inside in
    let value = c.as_slice.ensures.value in
    let yes = λ (h : IsTrue c.are_empty.result).
    emptied-all s.script.now s.queues.items (rw value at (c.are_empty.ensures.0 h)) in
    let no = λ (h : All IsEmptied (map (queues_of s.script.now) s.queues.items)).
    c.are_empty.ensures.1 (rw value (all-emptied s.script.now s.queues.items h)) in
    rw (← c.self.view_is) (yes, no)
