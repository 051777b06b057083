use Rattle.std.proofs.Common.{refl, sym}
use Rattle.std.proofs.lemmas.Result.{err_from_is_err_and}
use lib.Chars.{codes}
use Rattle.session_script.specs.Tokens.{tokens_at, begins}
use Rattle.session_script.specs.Productions.{next_world_line}
use Rattle.session_script.proofs.RepeatingLemmas.{goes_on, is_over, breaks, falls}
use Rattle.session_script.proofs.TurnsLemmas.{next_line_takes}
use Rattle.session_script.proofs.reader.world_line.all_world_lines.Goals as goal

pub each_line-smaller : goal.each_line-smaller
each_line-smaller c =
    falls (begins (codes "at")) (next_world_line c.args.header.now) (λ _. refl) (next_line_takes c.args.header.now)
    c.each_line.lines.items c.next_world_line.new.lines.items (tokens_at c.each_line.cursor)
    (tokens_at c.next_world_line.new.cursor) c.in_ok-next_world_line.ensures

pub each_line-preserved : goal.each_line-preserved
each_line-preserved c =
    goes_on (begins (codes "at")) (next_world_line c.args.header.now) (λ _. refl) (next_line_takes c.args.header.now)
    c.each_line.lines.items c.next_world_line.new.lines.items (tokens_at c.each_line.cursor)
    (tokens_at c.next_world_line.new.cursor) _ (sym c.each_line-test.ensures) c.in_ok-next_world_line.ensures
    c.each_line.invariant

pub returns-in_err-next_world_line : goal.returns-in_err-next_world_line
returns-in_err-next_world_line c =
    let p = err_from_is_err_and c.from_residual.result c.from_residual.ensures.1 in
    rw (p.1, p.2) (breaks (begins (codes "at")) (next_world_line c.args.header.now) (λ _. refl)
    (next_line_takes c.args.header.now) c.in_err-next_world_line.field-0.0 c.each_line.lines.items
    (tokens_at c.each_line.cursor) _ (sym c.each_line-test.ensures) c.in_err-next_world_line.ensures
    c.each_line.invariant)

pub returns : goal.returns
returns c =
    is_over (begins (codes "at")) (next_world_line c.args.header.now) (λ _. refl) (next_line_takes c.args.header.now)
    c.each_line.lines.items (tokens_at c.each_line.cursor) _ (sym c.each_line-test.ensures) c.each_line.invariant
