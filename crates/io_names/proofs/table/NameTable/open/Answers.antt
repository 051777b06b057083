use Rattle.std.proofs.Common.{◌≡◌, arith, ap, refl, true, ◌∙◌}
use Rattle.std.proofs.lemmas.List.{length-set}
use Rattle.io_rules.specs.declared.place.Life.TheVariants as life
use Rattle.io_rules.specs.Names.{is_unused, place_at}
use Rattle.io_names.proofs.FreeLemmas.{read, unlisted}
use Rattle.io_names.proofs.table.NameTable.open.Goals as goal

pub invariant_of-self : goal.invariant_of-self
invariant_of-self c =
    let was : is_unused (place_at c.self.inside.places.items c.args.name.place).life ≡ true =
    ap (λ at. is_unused at.life)
    (read c.self.inside.places.items c.args.name.place c.index-at.result.now (omega arith) c.index-at.ensures)
    ∙ ap is_unused c.in-Free.is in
    let many = length-set c.self.inside.places.items c.args.name.place
    (record { generation = c.index-at.result.now.generation; life = life.Alive }) in
    let most = c.self.invariant.1 in
    rw c.unlist.ensures.items (
      unlisted c.args.name.place c.self.inside.free.items c.self.inside.places.items _ (omega arith) was refl
          c.self.invariant.0,
      (let same_capacity = c.unlist.ensures.capacity in omega (arith, many, most, same_capacity)),
    )
