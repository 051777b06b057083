use Rattle.std.proofs.Common.{◌∙◌, refl}
use Rattle.book_context.proofs.ToldLemmas.{told-more, told-none}
use Rattle.book_context.proofs.book.telling.tell_all.Goals as goal

pub loop-init : goal.loop-init
loop-init g c = record {
  history = c.requires.history;
  turn = c.requires.turn;
  reactor = refl;
  told_so_far = told-none g.N.Session.told c.args.recording.now;
}

pub loop-preserved : goal.loop-preserved
loop-preserved g c = record {
  history = c.tell_next.ensures.history;
  turn = c.tell_next.ensures.turn;
  reactor = c.tell_next.ensures.reactor ∙ c.loop.invariant.reactor;
  told_so_far =
      told-more g.N.Session.told c.args.recording.now c.loop.recording c.tell_next.new.recording c.loop.invariant.told_so_far
      c.tell_next.ensures.told;
}

pub returns-clause-told : goal.returns-clause-told
returns-clause-told g c =
    told-more g.N.Session.told c.args.recording.now c.loop.recording c.tell_next.new.recording c.loop.invariant.told_so_far
    c.tell_next.ensures.told
