use Rattle.std.proofs.Common.{subst}
use Rattle.io_scheduler.specs.Closing.{IsMarkedIf}
use Rattle.io_scheduler.proofs.MarkedLemmas.{marked_by}
use Rattle.io_scheduler.proofs.closing.mark_tried.Goals as goal

pub returns : goal.returns
returns g c =
    subst (λ o. IsMarkedIf o c.args.name c.args.streams.now c.mark_at.new.streams) c.in-Some.ensures
    (marked_by c.args.name c.in-Some.side c.args.streams.now c.mark_at.new.streams c.in-Some-first.place
    c.in-Some-first.ensures.there c.in-Some-first.ensures.head c.mark_at.ensures)
