use Rattle.std.proofs.Common.{◌-◌, refl, sym}
use Rattle.std.proofs.lemmas.Result.{err_from_is_err_and}
use lib.Chars.{codes}
use Rattle.session_script.specs.Tokens.{tokens_at, goes_on}
use Rattle.session_script.specs.Acts.{body, entry}
use Rattle.session_script.specs.Outcome.{entries_of}
use Rattle.session_script.proofs.RepeatingLemmas.{goes_on as goes_on_to, is_over, breaks, falls}
use Rattle.session_script.proofs.BodiesLemmas.{body_keeps, entry_takes, fails_at_brace, fails_in_acts, fails_at_end, body_is}
use Rattle.session_script.proofs.reader.body.+bodies.Goals as goal

pub acts-each_act-smaller : goal.acts-each_act-smaller
acts-each_act-smaller t c =
    falls (goes_on (codes "}")) (entry c.args.header.now (body c.args.header.now (c.args.levels - 1)) c.args.parent)
    (λ _. refl)
    (λ es. entry_takes c.args.header.now _ c.args.parent es (body_keeps c.args.header.now (c.args.levels - 1)))
    (entries_of c.each_act.entries.items) (entries_of c.entry.new.entries.items) (tokens_at c.each_act.cursor)
    (tokens_at c.entry.new.cursor) c.in_ok-entry.ensures

pub acts-each_act-preserved : goal.acts-each_act-preserved
acts-each_act-preserved t c =
    goes_on_to (goes_on (codes "}"))
    (entry c.args.header.now (body c.args.header.now (c.args.levels - 1)) c.args.parent) (λ _. refl)
    (λ es. entry_takes c.args.header.now _ c.args.parent es (body_keeps c.args.header.now (c.args.levels - 1)))
    (entries_of c.each_act.entries.items) (entries_of c.entry.new.entries.items) (tokens_at c.each_act.cursor)
    (tokens_at c.entry.new.cursor) _ (sym c.each_act-test.ensures) c.in_ok-entry.ensures c.each_act.invariant

pub acts-returns-in_err-entry : goal.acts-returns-in_err-entry
acts-returns-in_err-entry t c =
    let p = err_from_is_err_and c.from_residual.result c.from_residual.ensures.1 in
    rw (p.1, p.2) (breaks (goes_on (codes "}"))
    (entry c.args.header.now (body c.args.header.now (c.args.levels - 1)) c.args.parent) (λ _. refl)
    (λ es. entry_takes c.args.header.now _ c.args.parent es (body_keeps c.args.header.now (c.args.levels - 1)))
    c.in_err-entry.field-0.0 (entries_of c.each_act.entries.items) (tokens_at c.each_act.cursor) _
    (sym c.each_act-test.ensures) c.in_err-entry.ensures c.each_act.invariant)

pub acts-returns : goal.acts-returns
acts-returns t c =
    is_over (goes_on (codes "}")) (entry c.args.header.now (body c.args.header.now (c.args.levels - 1)) c.args.parent)
    (λ _. refl)
    (λ es. entry_takes c.args.header.now _ c.args.parent es (body_keeps c.args.header.now (c.args.levels - 1)))
    (entries_of c.each_act.entries.items) (tokens_at c.each_act.cursor) _ (sym c.each_act-test.ensures)
    c.each_act.invariant

pub body-returns-in_err-another : goal.body-returns-in_err-another
body-returns-in_err-another t c =
    let p = err_from_is_err_and c.from_residual.result c.from_residual.ensures.1 in
    rw (p.1, p.2) (fails_at_brace c.args.header.now c.args.levels c.args.parent (entries_of c.args.entries.now.items)
    (tokens_at c.args.cursor.now) c.in_err-another.field-0.0 c.in_err-another.ensures.value)

pub body-returns-in_err-acts : goal.body-returns-in_err-acts
body-returns-in_err-acts t c =
    let p = err_from_is_err_and c.from_residual-in_err-acts.result c.from_residual-in_err-acts.ensures.1 in
    rw (p.1, p.2) (fails_in_acts c.args.header.now c.args.levels c.args.parent (entries_of c.args.entries.now.items)
    (tokens_at c.args.cursor.now) _ (tokens_at c.another.new.cursor) c.in_ok-another.ensures.value
    c.in_err-acts.field-0.0 c.in_err-acts.ensures)

pub body-returns-in_err-word : goal.body-returns-in_err-word
body-returns-in_err-word t c =
    let p = err_from_is_err_and c.from_residual-in_err-word.result c.from_residual-in_err-word.ensures.1 in
    rw (p.1, p.2) (fails_at_end c.args.header.now c.args.levels c.args.parent (entries_of c.args.entries.now.items)
    (tokens_at c.args.cursor.now) _ (tokens_at c.another.new.cursor) c.in_ok-another.ensures.value
    (entries_of c.acts.new.entries.items) (tokens_at c.acts.new.cursor) c.in_ok-acts.ensures c.in_err-word.field-0.0
    c.in_err-word.ensures)

pub body-returns : goal.body-returns
body-returns t c =
    body_is c.args.header.now c.args.levels c.args.parent (entries_of c.args.entries.now.items)
    (tokens_at c.args.cursor.now) _ (tokens_at c.another.new.cursor) c.in_ok-another.ensures.value
    (entries_of c.acts.new.entries.items) (tokens_at c.acts.new.cursor) c.in_ok-acts.ensures _
    (tokens_at c.word.new.cursor) c.in_ok-word.ensures
