use Rattle.run_lines.specs.Entry.{name}
use Rattle.run_names.proofs.NamingLemmas.{if_ok, unnamed_more}
use Rattle.run_names.proofs.reading.take_name.Goals as goal

pub returns-in-Ok : goal.returns-in-Ok
returns-in-Ok c =
    if_ok c.take_entry.result _ _ c.take_entry.ensures
    (λ takes lines are. takes lines c.args.bytes.now
    (record { read = c.in-Ok.ensures.read; only = c.in-Ok.ensures.only }) are)

pub returns-in-Err : goal.returns-in-Err
returns-in-Err c = λ lines are. unnamed_more lines c.args.bytes.now c.args.names.now
    (λ which number text is. c.in-Err.ensures.only (name which number text) is) are
