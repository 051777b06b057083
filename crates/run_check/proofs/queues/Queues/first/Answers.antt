use Rattle.std.proofs.Common.{◌≡◌, ◌≤◌, ℕ, ap, subst, sym}
use Rattle.std.specs.Prelude.{Option, Some, IsSomeAnd, IfSome, is_some}
use Rattle.run_check.specs.Queues.{spot_at, at_spot}
use Rattle.run_check.proofs.QueueLemmas.{first_least, first_stands, spot_from, if_stands}
use Rattle.run_check.proofs.queues.Queues.first.Goals as goal

pub returns-clause-least : goal.returns-clause-least
returns-clause-least c = λ ordered op place stands.
    let P : Option (ℕ × ℕ) → Type 0 = λ o. IsSomeAnd o (λ first. first.0 ≤ place) in
    subst P (sym c.on_strand.ensures)
    (first_least c.args.strand place c.at_or_after-found.result c.at_or_after-found.ensures.within
    (c.at_or_after-found.ensures.least (c.args.strand, place) (spot_from c.args.strand place)
    (ap is_some (ordered.found op (c.args.strand, place) stands))))

pub returns-clause-stands : goal.returns-clause-stands
returns-clause-stands c = λ ordered.
    let P : Option (ℕ × ℕ) → Type 0 = λ o. IfSome o (λ first. spot_at c.args.self.now first.1 ≡ Some (c.args.strand, first.0)) in
    subst P (sym c.on_strand.ensures)
    (first_stands c.args.strand (spot_at c.args.self.now) c.at_or_after-found.result
    (if_stands (spot_at c.args.self.now) (at_spot c.args.self.now) ordered.stands c.at_or_after-found.result
    c.at_or_after-found.ensures.found))
