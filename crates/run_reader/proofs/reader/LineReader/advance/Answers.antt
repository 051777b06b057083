use Rattle.std.proofs.Common.{◌≡◌, ap, sym, subst, ◌∙◌}
use Rattle.run_reader.specs.Buffer.{IsSought}
use Rattle.run_reader.specs.Reader.{Reading}
use Rattle.run_reader.specs.declared.buffer.Sought.{Sought}
use Rattle.run_reader.specs.declared.buffer.Sought.TheVariants as sought
use Rattle.run_reader.proofs.ReaderLemmas.{fits_64, takes_line, wholly_read}
use Rattle.run_reader.proofs.reader.LineReader.advance.Goals as goal

pub overflow_add-self : goal.overflow_add-self
overflow_add-self g c =
    let found : IsSought (sought.Line c.in-Line.at) c.seek.new.self.bytes (g.S.Source.left c.args.source.now)
    (g.S.Source.left c.seek.new.source) =
    subst (λ (s : Sought). IsSought s c.seek.new.self.bytes (g.S.Source.left c.args.source.now)
    (g.S.Source.left c.seek.new.source)) c.in-Line.is c.in-Ok.ensures.sought in
    fits_64 c.in-Line.at c.seek.new.self.bytes found.0 found.3

pub returns-in-Line-clause-line : goal.returns-in-Line-clause-line
returns-in-Line-clause-line g c _ =
    let found : IsSought (sought.Line c.in-Line.at) c.seek.new.self.bytes (g.S.Source.left c.args.source.now)
    (g.S.Source.left c.seek.new.source) =
    subst (λ (s : Sought). IsSought s c.seek.new.self.bytes (g.S.Source.left c.args.source.now)
    (g.S.Source.left c.seek.new.source)) c.in-Line.is c.in-Ok.ensures.sought in
    let same : c.args.self.now.held ≡ c.consume.new.self.bytes =
    sym (c.consume.ensures ∙ ap (λ (r : Reading). r.held) c.self.view_is) in
    takes_line c.in-Line.at c.args.self.now.held c.consume.new.self.bytes c.seek.new.self.bytes
    (g.S.Source.left c.args.source.now)
    (g.S.Source.left c.seek.new.source) same found.0 found.1 c.in-Ok.ensures.keeps

pub returns-in-End-clause-end : goal.returns-in-End-clause-end
returns-in-End-clause-end g c _ =
    let found : IsSought sought.End c.seek.new.self.bytes (g.S.Source.left c.args.source.now)
    (g.S.Source.left c.seek.new.source) =
    subst (λ (s : Sought). IsSought s c.seek.new.self.bytes (g.S.Source.left c.args.source.now)
    (g.S.Source.left c.seek.new.source)) c.in-End.is c.in-Ok.ensures.sought in
    let same : c.args.self.now.held ≡ c.consume.new.self.bytes =
    sym (c.consume.ensures ∙ ap (λ (r : Reading). r.held) c.self.view_is) in
    wholly_read c.args.self.now.held c.consume.new.self.bytes c.seek.new.self.bytes (g.S.Source.left c.args.source.now)
    (g.S.Source.left c.seek.new.source) same c.in-Ok.ensures.keeps found.0 found.1
