use Rattle.std.proofs.Common.{◌≡◌, true, false, sym, ◌∙◌, rules}
use Rattle.session_script.specs.Outcome.{entries_of}
use Rattle.session_script.proofs.GuardsLemmas.{released_in, none_released, one_more_released, not_all_released}
use Rattle.session_script.proofs.reader.script.are_released.Goals as goal

pub loop-guard-init : goal.loop-guard-init
loop-guard-init c = none_released (entries_of c.args.entries.now)

pub loop-guard-preserved : goal.loop-guard-preserved
loop-guard-preserved c =
    let yes_is : c.is_released.result ≡ true = search rules in
    one_more_released c.loop-guard.guard (entries_of c.args.entries.now)
    (sym (released_in c.loop-guard.guard c.args.entries.now) ∙ sym c.is_released.ensures ∙ yes_is)
    c.loop-guard.invariant

pub returns-then-not-is_released : goal.returns-then-not-is_released
returns-then-not-is_released c =
    let no_is : c.is_released.result ≡ false = search rules in
    sym (not_all_released c.args.guards c.loop-guard.guard (entries_of c.args.entries.now) c.loop-guard-test.true
    (sym (released_in c.loop-guard.guard c.args.entries.now) ∙ sym c.is_released.ensures ∙ no_is))
