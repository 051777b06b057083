use Rattle.std.proofs.Common.{◌≡◌, arith, ap, false, ◌∙◌}
use Rattle.io_rules.specs.Names.{is_unused, place_at}
use Rattle.io_names.proofs.FreeLemmas.{has_room, not_unused, read}
use Rattle.io_names.proofs.table.NameTable.give_back.Goals as goal

pub push_front_reserved-requires : goal.push_front_reserved-requires
push_front_reserved-requires c =
    let was : is_unused (place_at c.self.inside.places.items c.args.name.place).life ≡ false =
    ap (λ at. is_unused at.life)
    (read c.self.inside.places.items c.args.name.place c.index-at.result.now (omega arith) c.index-at.ensures)
    ∙ not_unused c.index-at.result.now.life c.in_default.not-Free in
    let room =
    has_room c.args.name.place c.self.inside.free.items c.self.inside.places.items (omega arith) was c.self.invariant.0 in
    let most = c.self.invariant.1 in
    omega (arith, room, most)
