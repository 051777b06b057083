use Rattle.std.proofs.Common.{Some, is_some, true, ◌≡◌, ap, refl, subst, sym, ◌∙◌}
use Rattle.io_timers.proofs.FoundLemmas.{some_same}
use Rattle.io_timers.proofs.TimersLemmas.{item_first}
use Rattle.io_timers.proofs.timers.first_of_timer.Goals as goal

pub get-requires : goal.get-requires
get-requires g c =
    let first = item_first c.args.timer c.in-Some.place c.args.expiry c.args.queues.now.queues c.requires.apart
    (sym c.first.ensures ∙ c.in-Some.is) in
    subst (λ o. is_some o ≡ true) (sym first.1) refl

pub returns-in-Some : goal.returns-in-Some
returns-in-Some g c =
    let first = item_first c.args.timer c.in-Some.place c.args.expiry c.args.queues.now.queues c.requires.apart
    (sym c.first.ensures ∙ c.in-Some.is) in
    let item = some_same _ _ (sym first.1 ∙ c.get.ensures) in
    ap (λ w. Some (record { expiry = c.args.expiry; op = w.op; timer = c.args.timer })) (sym item) ∙ sym first.2
