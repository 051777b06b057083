use Rattle.std.proofs.Common.{◌+◌, ◌<◌, ◌++◌, ◌/◌, ◌%◌, ◌^◌, [], ◌∷◌, length, arith, sym, ap, ◌∙◌, append_assoc, length-append}
use Rattle.std.specs.Fmt.{decimal}
use Rattle.std.proofs.lemmas.Fmt.{decimal_digit, decimal_step}
use Rattle.history_book.proofs.DecimalsLemmas.{length-decimal_digit, length-decimal_step}
use Rattle.history_book.proofs.trace_line.TraceLine.+push_digits.Goals as goal

pub push_digits-requires : goal.push_digits-requires
push_digits-requires t c =
    let fits : c.args.number < 2 ^ 64 = omega arith in
    let longer = length-decimal_step c.args.number c.if-number-lt10.false fits in
    (omega arith, omega arith)

pub push-requires : goal.push-requires
push-requires t c = omega (arith, length-decimal_digit c.args.number c.if-number-lt10.true)

pub push-requires-else-number-lt10 : goal.push-requires-else-number-lt10
push-requires-else-number-lt10 t c =
    let fits : c.args.number < 2 ^ 64 = omega arith in
    let longer = length-decimal_step c.args.number c.if-number-lt10.false fits in
    omega (arith, ap length c.push_digits.ensures, length-append c.args.self.now (decimal (c.args.number / 10)))

pub returns-then-number-lt10 : goal.returns-then-number-lt10
returns-then-number-lt10 t c =
    c.push.ensures ∙ ap (λ ds. c.args.self.now ++ ds) (sym (decimal_digit c.args.number c.if-number-lt10.true))

pub returns-else-number-lt10 : goal.returns-else-number-lt10
returns-else-number-lt10 t c =
    let fits : c.args.number < 2 ^ 64 = omega arith in
    c.push-else-number-lt10.ensures
    ∙ ap (λ ds. ds ++ (48 + c.args.number % 10) ∷ []) c.push_digits.ensures
    ∙ append_assoc c.args.self.now (decimal (c.args.number / 10)) _
    ∙ ap (λ ds. c.args.self.now ++ ds) (sym (decimal_step c.args.number c.if-number-lt10.false fits))
