use Rattle.std.proofs.Common.{ℕ, List, [], ◌∷◌, ◌++◌, subst, sym, ◌∙◌}
use Rattle.std.specs.Prelude.{codes}
use Rattle.asio_types.specs.Sink.{Extends}
use Rattle.asio_types.proofs.SinkLemmas.{extends_more}
use Rattle.run_lines.specs.Line.{line_text}
use Rattle.run_verdict.specs.Text.{name_of}
use Rattle.run_verdict.specs.Numbered.{numbered}
use Rattle.run_verdict.proofs.TextLemmas.{more_if}
use Rattle.run_verdict.proofs.text.write_illegal.Goals as goal

pub returns : goal.returns
returns g c =
    let written = g.K.Sink.written in
    let front : List ℕ = numbered (codes "illegal at line ") c.args.at (codes ": ") in
    let text : List ℕ = line_text c.args.line.now in
    let rule_is : List ℕ = 10 ∷ codes "rule: " in
    let broken : List ℕ = name_of c.args.rule in
    let wanted_is : List ℕ = 10 ∷ codes "wanted: " in
    let words : List ℕ = c.args.words.now in
    let first = extends_more (written c.args.out.now) (written c.write_number.new.out) (written c.write_all.new.sink) front text
    c.in_ok-write_number.ensures
    (subst (λ (bytes : List ℕ). Extends (written c.write_number.new.out) bytes (written c.write_all.new.sink))
    (c.as_slice.ensures.value ∙ c.of.ensures.text) c.in_ok-write_all.ensures.whole) in
    let second = extends_more (written c.args.out.now) (written c.write_all.new.sink) (written c.write_all-2.new.sink)
    (front ++ text) rule_is first c.in_ok-write_all-2.ensures.whole in
    let third = extends_more (written c.args.out.now) (written c.write_all-2.new.sink) (written c.write_all-3.new.sink)
    ((front ++ text) ++ rule_is) broken second
    (subst (λ (bytes : List ℕ). Extends (written c.write_all-2.new.sink) bytes (written c.write_all-3.new.sink))
    (c.as_bytes.ensures.value ∙ c.name_of.ensures) c.in_ok-write_all-3.ensures.whole) in
    let fourth = extends_more (written c.args.out.now) (written c.write_all-3.new.sink) (written c.write_all-4.new.sink)
    (((front ++ text) ++ rule_is) ++ broken) wanted_is third c.in_ok-write_all-4.ensures.whole in
    let fifth = extends_more (written c.args.out.now) (written c.write_all-4.new.sink) (written c.write_all-5.new.sink)
    ((((front ++ text) ++ rule_is) ++ broken) ++ wanted_is) words fourth c.in_ok-write_all-5.ensures.whole in
    more_if c.write_all-6.result (written c.args.out.now) (written c.write_all-5.new.sink) (written c.write_all-6.new.sink)
    (((((front ++ text) ++ rule_is) ++ broken) ++ wanted_is) ++ words) (10 ∷ []) fifth c.write_all-6.ensures.whole
