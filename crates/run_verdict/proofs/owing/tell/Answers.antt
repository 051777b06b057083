use Rattle.std.proofs.Common.{subst, sym}
use Rattle.std.specs.Prelude.{OnOk}
use Rattle.run_verdict.specs.declared.run.Next.{Next}
use Rattle.run_verdict.specs.Owing.{Tells}
use Rattle.run_names.specs.Names.{name_at}
use Rattle.run_verdict.proofs.OwingLemmas.{told_line, told_other}
use Rattle.run_verdict.proofs.owing.tell.Goals as goal

pub returns-in-Line : goal.returns-in-Line
returns-in-Line g c =
    told_line (name_at c.args.names.now) c.args.judge.now c.args.again.now c.args.next.now c.in-Line.line c.args.at (g.K.Sink.written c.args.out.now)
    (g.K.Sink.written c.write_if.new.out) c.write_if.result c.is_owed.result c.in-Line.is c.is_owed.ensures c.write_if.ensures

pub returns-in_default : goal.returns-in_default
returns-in_default g c =
    told_other (name_at c.args.names.now) c.args.judge.now c.args.again.now c.args.next.now c.args.at (g.K.Sink.written c.args.out.now) c.in_default.not-Line
