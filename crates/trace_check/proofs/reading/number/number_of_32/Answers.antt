use Rattle.std.proofs.Common.{◌≡◌, ◌^◌, None, Some, sym, arith, rules}
use Rattle.trace_check.specs.Number.{number}
use Rattle.trace_check.proofs.NumberLemmas.{number_wide_none, number_narrow, number_above}
use Rattle.trace_check.proofs.reading.number.number_of_32.Goals as goal

pub returns-in_err-value : goal.returns-in_err-value
returns-in_err-value c =
    let none : number (2 ^ 64) c.args.bytes.now ≡ None = search rules in
    let narrow : number (2 ^ 32) c.args.bytes.now ≡ None =
    number_wide_none (2 ^ 32) c.args.bytes.now none (omega arith) in
    search rules

pub returns-then-value : goal.returns-then-value
returns-then-value c =
    let some : number (2 ^ 64) c.args.bytes.now ≡ Some c.in_ok-value.value = search rules in
    sym (number_narrow (2 ^ 32) c.args.bytes.now c.in_ok-value.value some (omega arith))

pub returns-else-value : goal.returns-else-value
returns-else-value c =
    let some : number (2 ^ 64) c.args.bytes.now ≡ Some c.in_ok-value.value = search rules in
    sym (number_above (2 ^ 32) c.args.bytes.now c.in_ok-value.value some (omega arith) (omega arith))
