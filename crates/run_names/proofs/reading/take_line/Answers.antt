use Rattle.std.proofs.Common.{Ok, ap, subst, sym}
use Rattle.run_reader.specs.Buffer.{HasNoLineFeed}
use Rattle.run_reader.specs.Reader.{TakesLine}
use Rattle.run_names.proofs.NamingLemmas.{naming_more}
use Rattle.run_names.proofs.reading.take_line.Goals as goal

pub returns-in-Ok-clause-goes_on : goal.returns-in-Ok-clause-goes_on
returns-in-Ok-clause-goes_on g c = λ ok text naming.
    naming_more text c.args.reader.now.held (g.S.Source.left c.args.source.now) c.line.result.now c.advance.new.self.held
    (g.S.Source.left c.advance.new.source) c.args.names.now c.take_name.new.names
    (subst
    (λ bytes. TakesLine c.args.reader.now.held (g.S.Source.left c.args.source.now) bytes c.advance.new.self.held
    (g.S.Source.left c.advance.new.source)) (sym c.line.ensures) (c.in-Ok-true.ensures.line (ap Ok c.in-Ok-true.field-0-test)))
    (subst HasNoLineFeed (sym c.line.ensures) (c.in-Ok-true.ensures.whole (ap Ok c.in-Ok-true.field-0-test))) (λ lines are. c.in-Ok.ensures lines are) naming
