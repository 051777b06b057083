use Rattle.std.proofs.Common.{[], ◌∷◌}
use Rattle.std.specs.Prelude.{codes}
use Rattle.text_io.specs.Note.{field}
use Rattle.text_io.proofs.NoteLemmas.{cut_in_first, cut_in_last, cut_in_second, cut_in_third, on_any, on_err}
use Rattle.text_io.proofs.note.write_refusal.Goals as goal

pub returns-in_err-write_field-clause-part : goal.returns-in_err-write_field-clause-part
returns-in_err-write_field-clause-part g c =
    on_any c.from_residual.result
    (cut_in_first (g.N.Sink.written c.args.notes.now) (g.N.Sink.written c.write_field.new.notes)
    (field c.args.words.now c.args.rule) (field (codes " at line ") c.args.line) (field (codes " token ") c.args.token) (10 ∷ [])
    c.in_err-write_field.ensures.part)

pub returns-in_err-write_field-2-clause-part : goal.returns-in_err-write_field-2-clause-part
returns-in_err-write_field-2-clause-part g c =
    on_any c.from_residual-in_err-write_field-2.result
    (cut_in_second (g.N.Sink.written c.args.notes.now) (g.N.Sink.written c.write_field.new.notes)
    (g.N.Sink.written c.write_field-2.new.notes) (field c.args.words.now c.args.rule)
    (field (codes " at line ") c.args.line) (field (codes " token ") c.args.token) (10 ∷ [])
    c.in_ok-write_field.ensures.whole c.in_err-write_field-2.ensures.part)

pub returns-in_err-write_field-3-clause-part : goal.returns-in_err-write_field-3-clause-part
returns-in_err-write_field-3-clause-part g c =
    on_any c.from_residual-in_err-write_field-3.result
    (cut_in_third (g.N.Sink.written c.args.notes.now) (g.N.Sink.written c.write_field.new.notes)
    (g.N.Sink.written c.write_field-2.new.notes) (g.N.Sink.written c.write_field-3.new.notes)
    (field c.args.words.now c.args.rule) (field (codes " at line ") c.args.line)
    (field (codes " token ") c.args.token) (10 ∷ []) c.in_ok-write_field.ensures.whole
    c.in_ok-write_field-2.ensures.whole c.in_err-write_field-3.ensures.part)

pub returns-clause-part : goal.returns-clause-part
returns-clause-part g c =
    on_err c.write_all.result c.write_all.ensures.part
    (λ part.
    cut_in_last (g.N.Sink.written c.args.notes.now) (g.N.Sink.written c.write_field.new.notes)
    (g.N.Sink.written c.write_field-2.new.notes) (g.N.Sink.written c.write_field-3.new.notes)
    (g.N.Sink.written c.write_all.new.sink) (field c.args.words.now c.args.rule)
    (field (codes " at line ") c.args.line) (field (codes " token ") c.args.token) (10 ∷ [])
    c.in_ok-write_field.ensures.whole c.in_ok-write_field-2.ensures.whole c.in_ok-write_field-3.ensures.whole
    part)
