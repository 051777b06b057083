use Rattle.book_context.proofs.ToldLemmas.{TellsOn}
use Rattle.book_context.proofs.book.telling.tell_all.Given as goal

abbrev pub invariant-loop : goal.invariant-loop
invariant-loop g l =
    TellsOn g.X.Reactor.state g.X.Reactor.told g.N.Session.script g.N.Session.told g.N.Session.run g.N.Session.drop
    g.N.Session.outside l.fn.recording l.recording l.fn.proactor l.proactor

abbrev pub decreases-loop : goal.decreases-loop
decreases-loop g l = l.recording.spare
