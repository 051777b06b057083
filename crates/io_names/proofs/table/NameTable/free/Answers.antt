use Rattle.std.proofs.Common.{arith, refl}
use Rattle.std.proofs.lemmas.List.{length-set}
use Rattle.io_names.proofs.FreeLemmas.{given, has_room, turned}
use Rattle.io_names.proofs.table.NameTable.free.Goals as goal

pub push_back_reserved-requires : goal.push_back_reserved-requires
push_back_reserved-requires c =
    let room = has_room c.args.name.place c.self.inside.free.items c.self.inside.places.items (omega arith)
    (rw (← c.self.view_is) at c.requires) c.self.invariant.0 in
    let most = c.self.invariant.1 in
    omega (arith, room, most)

pub invariant_of-self-2 : goal.invariant_of-self-2
invariant_of-self-2 c =
    let many = length-set c.self.inside.places.items c.args.name.place in
    rw (c.push_back_reserved.ensures.items, c.push_back_reserved.ensures.capacity) (
      turned _ _ _ (given c.args.name.place c.self.inside.free.items c.self.inside.places.items _ (omega arith)
          (rw (← c.self.view_is) at c.requires) refl c.self.invariant.0),
      omega (arith, many, c.self.invariant.1),
    )
