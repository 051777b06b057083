use Rattle.std.proofs.Common.{rules, ◌≡◌, ◌++◌, not, length, filter, map, take, ap, refl, ◌∙◌, arith, length-append}
use Rattle.std.proofs.lemmas.List.{length-map, take_all}
use Rattle.std.proofs.lemmas.List.Filters.{length-filter_both}
use Rattle.std.proofs.lemmas.Fn.{filter_same}
use Rattle.chan_core.specs.declared.done.ChanCode.TheVariants as chan_code
use Rattle.chan_core.specs.Pending.{ends_with, has_deadline}
use Rattle.chan_core.proofs.pending.end_expired.Given.{Over}
use Rattle.chan_core.proofs.pending.end_expired.Goals as goal
use Rattle.chan_core.proofs.pending.end_expired.Goals.{After-retain}

kept : (g : Over) (c : After-retain g) → c.retain.new.self.items
    ≡ filter (λ pending. not (has_deadline c.args.wait pending)) c.args.queue.now.items
kept g c = filter_same _ _ _ (λ x b f' k. search rules) _ _ c.retain.ensures.filtered

pub returns-clause-left : goal.returns-clause-left
returns-clause-left g c = kept g c

pub returns-clause-count : goal.returns-clause-count
returns-clause-count g c =
    let xs = c.args.queue.now.items in
    let told = filter (has_deadline c.args.wait) xs in
    let both =
    length-filter_both (has_deadline c.args.wait) (λ p. not (has_deadline c.args.wait p)) (λ _. refl) xs in
    let all : take c.loop-at.at xs ≡ xs = take_all c.loop-at.at xs (omega arith) in
    let listed =
    ap length (c.loop-at.invariant.due
    ∙ ap (λ l. c.args.due.now.items ++ map (ends_with chan_code.Cancelled) (filter (has_deadline c.args.wait) l)) all) in
    let long = length-append c.args.due.now.items (map (ends_with chan_code.Cancelled) told) in
    let mapped = length-map told (ends_with chan_code.Cancelled) in
    let left = ap length (kept g c) in
    omega arith
