use Rattle.std.proofs.Common.{arith, false, sym, ◌∙◌}
use Rattle.std.proofs.lemmas.List.{get_or_read}
use Rattle.io_jobs.proofs.ListedLemmas.{listed_more, room_listed}
use Rattle.io_jobs.proofs.jobs.Jobs.list.Goals as goal

pub push_back_reserved-requires : goal.push_back_reserved-requires
push_back_reserved-requires g c =
    let within = rw (← c.self.view_is) at c.requires in
    let isnt = sym (get_or_read c.self.inside.listed.items c.args.strand c.index.result.now within c.index.ensures false)
    ∙ c.if-index.false in
    let room = room_listed _ _ c.args.strand c.self.invariant.0 within isnt in omega (arith, room)

pub invariant_of-self : goal.invariant_of-self
invariant_of-self g c =
    let within = rw (← c.self.view_is) at c.requires in
    let isnt = sym (get_or_read c.self.inside.listed.items c.args.strand c.index.result.now within c.index.ensures false)
    ∙ c.if-index.false in (
      rw (c.push_back_reserved.ensures.items, c.push_back_reserved.ensures.capacity)
          (listed_more _ _ c.args.strand c.self.invariant.0 within isnt),
      c.self.invariant.1,
      c.self.invariant.2,
    )
