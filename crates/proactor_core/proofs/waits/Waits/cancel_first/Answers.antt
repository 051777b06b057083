use Rattle.std.proofs.Common.{[], ◌∷◌, ap, sym, ◌∙◌}
use Rattle.history_rules.specs.Performing.{is_wait_of}
use Rattle.proactor_core.specs.Due.{listed}
use Rattle.proactor_core.proofs.FilterLemmas.{find-filter, find-none, none-passes}
use Rattle.proactor_core.proofs.ListingLemmas.{listed-nil}
use Rattle.proactor_core.proofs.waits.Waits.cancel_first.Goals as goal

pub returns-in-Some-clause-waits : goal.returns-in-Some-clause-waits
returns-in-Some-clause-waits c =
    let taken = c.in-Some.ensures.first in
    let found = find-filter (is_wait_of c.args.timer) c.args.self.now.waits _ _ taken.first in
    rw found taken.only

pub returns-in-Some-clause-due : goal.returns-in-Some-clause-due
returns-in-Some-clause-due c =
    let taken = c.in-Some.ensures.first in
    let found = find-filter (is_wait_of c.args.timer) c.args.self.now.waits _ _ taken.first in
    rw found (c.push_reserved.ensures ∙ ap (λ done. listed (done ∷ []) c.args.due.now) c.aborted.ensures
    ∙ ap (λ all. listed all c.args.due.now) (sym taken.once))

pub returns-in_default-clause-waits : goal.returns-in_default-clause-waits
returns-in_default-clause-waits c =
    let found =
    find-none (is_wait_of c.args.timer) c.args.self.now.waits
    (none-passes (is_wait_of c.args.timer) c.args.self.now.waits c.in_default.ensures.none) in
    rw found c.in_default.ensures.unchanged

pub returns-in_default-clause-due : goal.returns-in_default-clause-due
returns-in_default-clause-due c =
    let found =
    find-none (is_wait_of c.args.timer) c.args.self.now.waits
    (none-passes (is_wait_of c.args.timer) c.args.self.now.waits c.in_default.ensures.none) in
    rw found (sym (listed-nil c.args.due.now))
