use Rattle.std.proofs.Common.{map, refl, string_bytes, subst, sym}
use Rattle.text_io.specs.Seen.{seen_by}
use Rattle.text_io.specs.Text.{ReadsText}
use Rattle.trace_check.specs.Parting.{most_input_read}
use Rattle.trace_check.proofs.session.end.Goals as goal

pub returns-clause-says : goal.returns-clause-says
returns-clause-says g c =
    c.end_of_input.ensures.says
    (record {
      words = map string_bytes c.args.words.now;
      source = seen_by g.S.Source.left g.S.Source.faults c.args.source.now c.read_text.new.source;
      out = seen_by g.K.Sink.written g.K.Sink.faults c.args.out.now c.end_of_input.new.out;
    })
    ((c.in-Some.ensures.some c.in-Some.form).0 refl)
    (subst
    (λ text. ReadsText most_input_read (g.S.Source.left c.args.source.now) text
    (g.S.Source.left c.read_text.new.source))
    (sym c.as_slice.ensures.value) c.in-Ok.ensures.text)
    refl
