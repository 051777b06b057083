use Rattle.std.proofs.Common.{ap, sym, ◌∙◌}
use Rattle.io_rules.specs.Names.{Names, is_leaving}
use Rattle.io_scheduler.proofs.back.come_back.Goals as goal

pub leave_back-requires-clause-leaving : goal.leave_back-requires-clause-leaving
leave_back-requires-clause-leaving g c =
    ap (λ (ns : Names). is_leaving ns.streams c.args.name) (sym c.requires.shows.names_are)
    ∙ sym c.is_leaving.ensures ∙ c.if-is_leaving.true

pub settle_back-requires-clause-open_still : goal.settle_back-requires-clause-open_still
settle_back-requires-clause-open_still g c =
    ap (λ (ns : Names). is_leaving ns.streams c.args.name) (sym c.requires.shows.names_are)
    ∙ sym c.is_leaving.ensures ∙ c.if-is_leaving.false
