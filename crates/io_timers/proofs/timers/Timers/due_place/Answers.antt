use Rattle.std.proofs.Common.{◌<◌, ◌≤◌, sym, ◌∙◌, arith}
use Rattle.io_timers.proofs.EarliestLemmas.{due_next, late_next, no_next, some_next}
use Rattle.io_timers.proofs.timers.Timers.due_place.Goals as goal

pub returns-in_default-clause-none : goal.returns-in_default-clause-none
returns-in_default-clause-none g c =
    no_next _ c.args.now _ c.next_expiry.result c.next_expiry.ensures c.in_default.not-Some

pub returns-then-is_late-clause-none : goal.returns-then-is_late-clause-none
returns-then-is_late-clause-none g c =
    let late : c.args.now < c.in-Some.expiry = omega arith in
    late_next _ c.args.now c.in-Some.expiry _ (sym c.in-Some.is ∙ c.next_expiry.ensures) late

pub returns-clause-due : goal.returns-clause-due
returns-clause-due g c =
    let due : c.in-Some.expiry ≤ c.args.now = omega arith in
    due_next c.args.self.now c.args.now c.in-Some.expiry (sym c.in-Some.is ∙ c.next_expiry.ensures) due
    c.next_place.result c.next_place.ensures.next

pub returns-clause-none : goal.returns-clause-none
returns-clause-none g c =
    some_next c.args.self.now c.in-Some.expiry (sym c.in-Some.is ∙ c.next_expiry.ensures) _ c.next_place.result
    c.next_place.ensures.none
