use Rattle.std.proofs.Common.{ap, sym, ◌∙◌}
use Rattle.io_streams.specs.Kept.{queue_number}
use Rattle.io_streams.proofs.StatesLemmas.{number_is}
use Rattle.io_streams.proofs.streams.queue_of.Goals as goal

pub returns-in-Read : goal.returns-in-Read
returns-in-Read c = sym ((number_is c.args.name.place).0) ∙ ap (queue_number c.args.name.place) (sym c.in-Read.is)

pub returns-in-Write : goal.returns-in-Write
returns-in-Write c = sym ((number_is c.args.name.place).1) ∙ ap (queue_number c.args.name.place) (sym c.in-Write.is)

pub returns-in-Connect : goal.returns-in-Connect
returns-in-Connect c = sym ((number_is c.args.name.place).2) ∙ ap (queue_number c.args.name.place) (sym c.in-Connect.is)
