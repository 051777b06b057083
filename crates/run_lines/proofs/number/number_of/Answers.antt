use Rattle.std.proofs.Common.{◌≡◌, true, sym, subst, rules}
use Rattle.std.specs.Str.Parse.{ParsesUnsigned}
use Rattle.run_lines.specs.Number.{is_plain}
use Rattle.run_lines.proofs.NumberLemmas.{not_plain, not_text, parsed, not_parsed}
use Rattle.run_lines.proofs.number.number_of.Goals as goal

pub returns-then-not-is_plain : goal.returns-then-not-is_plain
returns-then-not-is_plain c = sym (not_plain c.args.bytes.now (search rules))

pub returns-in_default : goal.returns-in_default
returns-in_default c = sym (not_text c.args.bytes.now c.in_default.ensures.cases.0)

pub returns-in-Ok-parse : goal.returns-in-Ok-parse
returns-in-Ok-parse c =
    let plain : is_plain c.args.bytes.now ≡ true = search rules in
    sym (parsed c.args.bytes.now c.parse.result c.in-Ok-parse.value plain
    (subst (λ bytes. ParsesUnsigned 64 10 bytes c.parse.result) c.in-Ok.ensures.cases.0 c.parse.ensures.value.0)
    c.in-Ok-parse.is)

pub returns-in-Err : goal.returns-in-Err
returns-in-Err c =
    sym (not_parsed c.args.bytes.now c.parse.result c.in-Err.field-0
    (subst (λ bytes. ParsesUnsigned 64 10 bytes c.parse.result) c.in-Ok.ensures.cases.0 c.parse.ensures.value.0)
    c.in-Err.is)
