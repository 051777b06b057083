use Rattle.std.proofs.Common.{inl, inr, subst, sym}
use Rattle.book_context.specs.InTurn.{HasBrokenOff}
use Rattle.book_context.proofs.BookHistoryLemmas.{some_behind}
use Rattle.book_context.proofs.ReactorTurnLemmas.{broken_off_none, broken_off_some, pending_some}
use Rattle.book_context.proofs.book.turn_steps.break_off.Goals as goal

pub fail-requires-clause-some : goal.fail-requires-clause-some
fail-requires-clause-some g c =
    some_behind c.args.recording.now.events c.begin_tick.ensures.begun.event c.begin_tick.new.recording.events
    c.begin_tick.ensures.begun.is

pub fail-requires-clause-untold : goal.fail-requires-clause-untold
fail-requires-clause-untold g c = inl c.begin_tick.ensures.begun.whole

pub fail-requires-in-None-clause-untold : goal.fail-requires-in-None-clause-untold
fail-requires-in-None-clause-untold g c = inr c.requires.waiting.turn.nothing_due

pub fail-requires-in-None-clause-some : goal.fail-requires-in-None-clause-some
fail-requires-in-None-clause-some g c = pending_some g.N.Session.told c.args.recording.now c.requires.waiting.pending

pub returns-in-Some-clause-broken : goal.returns-in-Some-clause-broken
returns-in-Some-clause-broken g c =
    subst (HasBrokenOff g.N.Session.told c.args.recording.now c.fail.new.recording) (sym c.in-Some.is)
    (broken_off_some g.N.Session.told c.args.recording.now c.begin_tick.new.recording c.fail.new.recording c.in-Some.point
    c.begin_tick.ensures.begun c.fail.ensures.broken)

pub returns-in-None-clause-broken : goal.returns-in-None-clause-broken
returns-in-None-clause-broken g c =
    subst (HasBrokenOff g.N.Session.told c.args.recording.now c.fail-in-None.new.recording) (sym c.in-None.is)
    (broken_off_none g.N.Session.told c.args.recording.now c.fail-in-None.new.recording c.fail-in-None.ensures.broken)
