use Rattle.std.proofs.Common.{arith, subst}
use Rattle.std.proofs.lemmas.List.{length-set}
use Rattle.io_names.specs.Free.{AreFree}
use Rattle.io_names.proofs.FreeLemmas.{first_within, none_free, taken}
use Rattle.io_names.proofs.table.NameTable.take.Goals as goal

pub index-at-requires : goal.index-at-requires
index-at-requires c =
    let within =
    first_within _ _ _ (subst (λ f. AreFree f c.self.inside.places.items) c.in-Some.ensures.items c.self.invariant.0) in
    omega (arith, within)

pub index_mut-requires : goal.index_mut-requires
index_mut-requires c =
    let within =
    first_within _ _ _ (subst (λ f. AreFree f c.self.inside.places.items) c.in-Some.ensures.items c.self.invariant.0) in
    omega (arith, within)

pub invariant_of-self-in-Some : goal.invariant_of-self-in-Some
invariant_of-self-in-Some c =
    let many = length-set c.self.inside.places.items c.in-Some.place in
    let most = c.self.invariant.1 in let same = c.in-Some.ensures.capacity in (
      taken _ _ _ _ c.requires (subst (λ f. AreFree f c.self.inside.places.items) c.in-Some.ensures.items c.self.invariant.0),
      omega (arith, many, most, same),
    )

pub returns-in-None-clause-kept : goal.returns-in-None-clause-kept
returns-in-None-clause-kept c =
    let empty = c.in-None.ensures.cases.0 in
    rw (← c.self.view_is)
    (none_free c.self.inside.free.items c.self.inside.places.items (omega (arith, empty)) c.self.invariant.0)
