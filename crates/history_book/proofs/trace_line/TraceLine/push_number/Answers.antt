use Rattle.std.proofs.Common.{◌≤◌, length, arith, ap, length-append}
use Rattle.std.specs.Fmt.{decimal}
use Rattle.std.proofs.lemmas.Fmt.{length-decimal-le}
use Rattle.history_book.proofs.trace_line.TraceLine.push_number.Goals as goal

pub push_digits-requires : goal.push_digits-requires
push_digits-requires c =
    let short : length (decimal c.args.number) ≤ 20 =
    length-decimal-le 20 c.args.number (omega arith) (omega arith) (omega arith) in
    omega arith

pub returns-clause-grown : goal.returns-clause-grown
returns-clause-grown c =
    let short : length (decimal c.args.number) ≤ 20 =
    length-decimal-le 20 c.args.number (omega arith) (omega arith) (omega arith) in
    omega (arith, ap length c.push_digits.ensures, length-append c.args.self.now (decimal c.args.number))
