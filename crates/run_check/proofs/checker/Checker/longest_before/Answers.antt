use Rattle.std.proofs.Common.{◌≡◌, ◌≤◌, refl, sym, ◌∙◌}
use Rattle.std.specs.Prelude.{IsSomeAnd, Some, ℕ}
use Rattle.run_check.specs.After.{spot_of}
use Rattle.run_check.proofs.LongestLemmas.{is_longest, longest_is, no_longest}
use Rattle.run_check.proofs.RuleLemmas.{if_spot, no_number, says_strand, waiter_says}
use Rattle.run_check.proofs.checker.Checker.longest_before.Goals as goal

pub returns-in-Some : goal.returns-in-Some
returns-in-Some c = λ past after op is place.
    let says = waiter_says past op c.args.waiter.now is in
    let on = says_strand past op c.args.waiter.now says ∙ c.in-Some.is in
    let least : (other since : ℕ) → spot_of past other ≡ Some (c.in-Some.strand, since) →
    IsSomeAnd c.first.result (λ f. f.0 ≤ since) =
    λ other since there. c.first.ensures.least after.ordered other since (after.queued other ∙ there) in
    let stands = if_spot past c.args.self.now after c.in-Some.strand c.first.result (c.first.ensures.stands after.ordered) in
    let same = c.place_upto.ensures in (
      λ found. longest_is past op c.in-Some.strand c.args.waiter.now says on c.first.result least stands
          c.args.waiter.now.entry refl place (sym same ∙ found),
      λ found. same
          ∙ is_longest past op c.in-Some.strand c.args.waiter.now says on c.first.result least stands
          c.args.waiter.now.entry refl place found,
    )

pub returns-in-None : goal.returns-in-None
returns-in-None c = λ past after op is place.
    let says = waiter_says past op c.args.waiter.now is in (
      λ found. absurd (no_number place found),
      λ found. absurd (no_longest past op place (says_strand past op c.args.waiter.now says ∙ c.in-None.is) found),
    )
