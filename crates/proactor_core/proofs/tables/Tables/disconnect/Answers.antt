use Rattle.std.proofs.Common.{refl}
use Rattle.proactor_core.proofs.FollowingLemmas.{clears}
use Rattle.proactor_core.proofs.tables.Tables.disconnect.Goals as goal

pub returns : goal.returns
returns c =
    let there =
    clears c.self.inside.slots c.clear_if.new.self c.in-Some.slot c.args.op c.clear_if.result c.clear_if.ensures.there.0
    c.clear_if.ensures.there.1 c.clear_if.ensures.cleared c.clear_if.ensures.unchanged in
    rw (c.in-Some.is, ← c.self.view_is, there) refl
