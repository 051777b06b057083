use Rattle.std.proofs.Common.{◌≡◌}
use lib.Chars.{codes}
use Rattle.session_script.specs.Tokens.{tokens_at, begins, token_count}
use Rattle.session_script.specs.Productions.{repeated, next_world_line}
use Rattle.session_script.proofs.reader.world_line.all_world_lines.Given as goal

abbrev pub invariant-each_line : goal.invariant-each_line
invariant-each_line l =
    repeated (begins (codes "at")) (next_world_line l.header) l.lines.items (tokens_at l.cursor)
    ≡ repeated (begins (codes "at")) (next_world_line l.header) l.fn.lines.items (tokens_at l.fn.cursor)

abbrev pub decreases-each_line : goal.decreases-each_line
decreases-each_line l = token_count (tokens_at l.cursor)
