use Rattle.std.proofs.Common.{ap, ◌∙◌}
use Rattle.std.specs.Prelude.{◌∷◌}
use Rattle.io_rules.specs.declared.event.Event.TheVariants as event
use Rattle.io_names.specs.Tables.{names_of}
use Rattle.io_scheduler.specs.Back.{given_at, made_of, opened_of, with_made}
use Rattle.io_scheduler.proofs.ReturnableLemmas.{is_there, may_open, open_back}
use Rattle.io_scheduler.proofs.brought.take_back.Goals as goal

pub note_back-requires-clause-may : goal.note_back-requires-clause-may
note_back-requires-clause-may g c = rw c.learn.ensures.same c.requires.may

pub give_buffer-requires : goal.give_buffer-requires
give_buffer-requires g c =
    rw c.set_back.ensures
    (is_there c.args.name c.args.side c.args.streams.now c.args.place c.args.gave c.requires.returnable)

pub open_made-requires : goal.open_made-requires
open_made-requires g c =
    rw (c.give_buffer.ensures, c.set_back.ensures, c.made_of-made.ensures, c.reserved-reserved.ensures)
    (open_back c.args.name c.args.side c.args.streams.now c.args.place c.args.gave c.came_at-came.result c.args.buffer _
    c.requires.returnable
    (may_open c.args.name c.args.side c.args.streams.now c.args.place c.args.gave g.H.Handler.marks g.C.Named.limits
    c.args.keeper.now.past (rw c.learn.ensures.same at c.learn.ensures.legal) c.requires.streams))

pub returns-clause-made : goal.returns-clause-made
returns-clause-made g c = c.made_of-made.ensures ∙ ap (made_of c.args.gave) c.reserved-reserved.ensures

pub returns-clause-unused : goal.returns-clause-unused
returns-clause-unused g c =
    rw (c.made_of-made.ensures, c.reserved-reserved.ensures)
    (may_open c.args.name c.args.side c.args.streams.now c.args.place c.args.gave g.H.Handler.marks g.C.Named.limits
    c.args.keeper.now.past (rw c.learn.ensures.same at c.learn.ensures.legal) c.requires.streams)

pub returns-clause-past : goal.returns-clause-past
returns-clause-past g c =
    c.note_back.ensures.past
    ∙ ap (λ k. event.Back c.args.name c.args.side c.args.gave ∷ k.past) c.learn.ensures.same

pub returns-clause-names : goal.returns-clause-names
returns-clause-names g c =
    c.settle_name.ensures
    ∙ ap (λ r. with_made c.args.gave r (names_of c.args.names.now)) c.reserved-reserved.ensures

pub returns-clause-streams : goal.returns-clause-streams
returns-clause-streams g c =
    c.open_made.ensures
    ∙ ap (opened_of c.made_of-made.result)
    (c.give_buffer.ensures ∙ ap (given_at c.args.place c.came_at-came.result c.args.buffer) c.set_back.ensures)

pub returns-clause-legal : goal.returns-clause-legal
returns-clause-legal g c = rw c.learn.ensures.same at c.learn.ensures.legal
