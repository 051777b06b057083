use Rattle.std.proofs.Common.{refl, sym, ap, subst, ◌∙◌}
use Rattle.std.specs.Option.{option_map}
use Rattle.op_handlers.specs.Rack.{handler_at}
use Rattle.session_script.specs.Script.{is_op}
use Rattle.history_rules.specs.State.{first_reactor}
use Rattle.proactor_core.specs.Proactor.{Follows}
use Rattle.book_context.specs.Left.{most_history}
use Rattle.book_context.specs.Recording.{HasCalledOpening, new_recording}
use Rattle.book_context.proofs.MakeLemmas.{held_marks, opened_book, some_marked}
use Rattle.book_context.proofs.book.Book.make.Goals as goal

pub of_script-requires : goal.of_script-requires
of_script-requires g c n is =
    some_marked g.H.CompletionHandler.marks (handler_at c.args.rack.now n) _ (c.requires.marks n is)

pub invariant_of-result : goal.invariant_of-result
invariant_of-result g c =
    let made = c.in-Ok-start.ensures in
    opened_book g.N.Session.script g.N.Session.told g.N.Session.run g.N.Session.drop g.N.Session.faults
    g.N.Session.outside g.H.CompletionHandler.marks g.X.Reactor.state g.X.Reactor.told g.X.Reactor.faults
    (new_recording c.args.script.now (most_history c.args.script.now)) c.open.new.self c.in-Ok-of_script.hands
    c.in-Ok-start.proactor c.scripts_are_well_formed.ensures c.requires.script refl
    (record {
      same_script = c.in-Ok-of_script.ensures.script;
      each = λ n.
          ap (option_map g.H.CompletionHandler.marks) (c.in-Ok-of_script.ensures.held n)
          ∙ held_marks g.H.CompletionHandler.marks (is_op c.args.script.now n) (handler_at c.args.rack.now n)
          (record { run = g.N.Session.run n; drop = g.N.Session.drop n }) (c.requires.marks n);
    })
    (record {
      same_script = made.script;
      sound = made.sound;
      follows =
          subst (λ b. Follows g.X.Reactor.told c.in-Ok-start.proactor (first_reactor c.args.script.now b))
          (sym c.requires.told) made.follows;
      nothing_due = made.nothing_due;
      working = made.working;
      ready = made.ready;
      same_tells = made.tells ∙ sym c.requires.told;
      counted = made.counted ∙ sym c.requires.faults;
    })
    (subst (λ r. HasCalledOpening r c.open.new.self) c.in-Ok.ensures c.open.ensures)
    c.openings_are_recorded.ensures.openings c.executions_show_marks.ensures.calls c.executions_show_marks.ensures.openings
