use Rattle.std.proofs.Common.{ℕ, List, [], ◌∷◌, ◌++◌, subst, sym, ◌∙◌}
use Rattle.std.specs.Prelude.{codes}
use Rattle.asio_types.specs.Sink.{Extends}
use Rattle.asio_types.proofs.SinkLemmas.{extends_more}
use Rattle.run_lines.specs.Line.{line_text}
use Rattle.run_names.specs.Names.{name_at}
use Rattle.run_verdict.specs.Naming.{line_names}
use Rattle.run_verdict.specs.Numbered.{numbered}
use Rattle.run_verdict.proofs.TextLemmas.{more_if}
use Rattle.run_verdict.proofs.text.write_against.Goals as goal

pub returns : goal.returns
returns g c =
    let written = g.K.Sink.written in
    let front : List ℕ = numbered (codes "against: line ") c.args.against.now.at (codes ": ") in
    let text : List ℕ = line_text c.args.against.now.line in
    let named : List ℕ = line_names (name_at c.args.names.now) c.args.against.now.line in
    let spoken = extends_more (written c.args.out.now) (written c.write_number.new.out) (written c.write_all.new.sink) front text
    c.in_ok-write_number.ensures
    (subst (λ (bytes : List ℕ). Extends (written c.write_number.new.out) bytes (written c.write_all.new.sink))
    (c.as_slice.ensures.value ∙ c.of.ensures.text) c.in_ok-write_all.ensures.whole) in
    more_if c.write_all-2.result (written c.args.out.now) (written c.write_line_names.new.out) (written c.write_all-2.new.sink)
    ((front ++ text) ++ named) (10 ∷ [])
    (extends_more (written c.args.out.now) (written c.write_all.new.sink) (written c.write_line_names.new.out) (front ++ text) named
    spoken c.in_ok-write_line_names.ensures)
    c.write_all-2.ensures.whole
