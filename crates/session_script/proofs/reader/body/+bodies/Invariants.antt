use Rattle.std.proofs.Common.{◌≡◌, ◌-◌, ◌+◌, ◌*◌}
use lib.Chars.{codes}
use Rattle.session_script.specs.Tokens.{tokens_at, goes_on, token_count}
use Rattle.session_script.specs.Productions.{repeated}
use Rattle.session_script.specs.Acts.{body, entry}
use Rattle.session_script.specs.Outcome.{entries_of}
use Rattle.session_script.proofs.reader.body.+bodies.Given as goal

abbrev pub decreases-body : goal.decreases-body
decreases-body l = 5 * l.levels + 4

abbrev pub decreases-acts : goal.decreases-acts
decreases-acts l = 5 * l.levels + 3

abbrev pub decreases-entry : goal.decreases-entry
decreases-entry l = 5 * l.levels + 2

abbrev pub decreases-branches : goal.decreases-branches
decreases-branches l = 5 * l.levels + 1

abbrev pub decreases-branch : goal.decreases-branch
decreases-branch l = 5 * l.levels

abbrev pub invariant-acts-each_act : goal.invariant-acts-each_act
invariant-acts-each_act l =
    repeated (goes_on (codes "}")) (entry l.header (body l.header (l.levels - 1)) l.parent) (entries_of l.entries.items)
    (tokens_at l.cursor)
    ≡ repeated (goes_on (codes "}")) (entry l.header (body l.header (l.levels - 1)) l.parent)
    (entries_of l.fn.entries.items) (tokens_at l.fn.cursor)

abbrev pub decreases-acts-each_act : goal.decreases-acts-each_act
decreases-acts-each_act l = token_count (tokens_at l.cursor)
