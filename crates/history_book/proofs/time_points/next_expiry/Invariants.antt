use Rattle.std.proofs.Common.{◌≡◌, filter, map, nat_lt, take}
use Rattle.history_rules.specs.Time.{least_of}
use Rattle.history_rules.specs.Waits.{expiry_in}
use Rattle.history_book.proofs.time_points.next_expiry.Given as goal

abbrev pub invariant-loop-wait : goal.invariant-loop-wait
invariant-loop-wait l =
    l.least ≡ least_of (filter (λ expiry. nat_lt l.now expiry) (map (expiry_in l.expiries) (take l.wait-index l.waits)))
