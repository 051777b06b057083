use Rattle.std.proofs.Common.{ap, subst, ◌∙◌}
use Rattle.std.proofs.lemmas.List.{get_or_read}
use Rattle.io_strands.specs.Cell.{called, vacant}
use Rattle.io_rules.specs.Strands.{Later}
use Rattle.io_scheduler.specs.Accepted.{MayBeTiedTo}
use Rattle.io_scheduler.proofs.AcceptedLemmas.{tied_at}
use Rattle.io_scheduler.proofs.accepting.tie.Goals as goal

pub returns-in-Strand : goal.returns-in-Strand
returns-in-Strand g c = λ op.
    let may = subst (λ on. MayBeTiedTo on c.args.strands.now.items) c.in-Strand.is c.requires in
    let here = get_or_read c.args.strands.now.items c.in-Strand.name.place c.index_mut.result.now may.within
    c.index_mut.ensures.value (vacant 0) in
    tied_at op c.args.lane c.in-Strand.name c.args.strands.now.items c.call_later.new.self c.in-Strand.is
    (c.call_later.ensures op ∙ ap (called Later op) here)
