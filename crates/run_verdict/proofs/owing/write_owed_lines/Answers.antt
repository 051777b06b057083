use Rattle.std.proofs.Common.{◌+◌, ◌<◌, ◌^◌, sym}
use Rattle.run_check.proofs.CountLemmas.{sum_is}
use Rattle.run_names.specs.Names.{name_at}
use Rattle.run_verdict.specs.Endings.{past_of}
use Rattle.run_verdict.proofs.ReadLemmas.{first_read}
use Rattle.run_verdict.proofs.OwingLemmas.{on_told, tell_begins, told_all}
use Rattle.run_verdict.proofs.owing.write_owed_lines.Goals as goal

pub returns : goal.returns
returns g c =
    on_told c.tell_lines.result c.tell_lines.ensures (λ tells level text entries told new again begins judged.
    told_all (name_at c.args.names.now) level text entries c.tell_lines.new.reader.held (g.S.Source.left c.tell_lines.new.source)
    c.tell_lines.new.again c.args.lines
    c.in-Some.end (g.K.Sink.written c.args.out.now) (g.K.Sink.written c.tell_lines.new.out)
    (sym (sum_is (c.args.lines + 1 < 2 ^ 64) c.checked_add.result (c.args.lines + 1) c.in-Some.end
    c.checked_add.ensures c.in-Some.is))
    begins
    (λ within. tells level text (past_of entries) judged
    (tell_begins (name_at c.args.names.now) level text (past_of entries) c.read_header.new.reader.held
    (g.S.Source.left c.read_header.new.source) c.args.again.now
    (g.K.Sink.written c.args.out.now)
    (first_read level text c.read_header.new.reader.held (g.S.Source.left c.read_header.new.source) c.args.again.now
    (c.in_default-read_header.ensures.opens text told new) again)) within))
