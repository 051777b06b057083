use Rattle.std.proofs.Common.{◌≡◌, subst}
use Rattle.run_lines.specs.declared.entry.Entry.TheVariants as entry
use Rattle.run_lines.specs.Entry.{plain}
use Rattle.run_names.specs.Reading.{Reads}
use Rattle.run_names.proofs.NamingLemmas.{if_ok, line_names_nothing, named_more, unnamed_more}
use Rattle.run_names.proofs.reading.take_entry.Goals as goal

pub returns-in-Name : goal.returns-in-Name
returns-in-Name c =
    let same : c.args.entry.now ≡ entry.Name c.in-Name.name = c.in-Name.is in
    if_ok c.put.result _ _ c.put.ensures
    (λ puts lines bytes reads are. let is : Reads bytes (plain (entry.Name c.in-Name.name)) =
    subst (λ e. Reads bytes (plain e)) same reads in
    named_more lines bytes c.args.names.now c.put.new.self c.in-Name.name.kind
    c.in-Name.name.number c.in-Name.name.text.now is.read is.only puts are)

pub returns-in-Line : goal.returns-in-Line
returns-in-Line c = λ lines bytes reads are.
    let is : Reads bytes (plain (entry.Line c.in-Line.field-0)) = subst (λ e. Reads bytes (plain e)) c.in-Line.is reads in
    unnamed_more lines bytes c.args.names.now (line_names_nothing bytes c.in-Line.field-0 is.only) are
