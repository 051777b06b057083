use Rattle.std.proofs.Common.{◌≡◌, ◌+◌, ◌*◌, drop}
use Rattle.std.specs.List.{flat_map}
use Rattle.session_script.specs.Spelling.{written, body_words, entry_words}
use Rattle.session_script.proofs.writer.body.+bodies.Given as goal

abbrev pub decreases-body : goal.decreases-body
decreases-body l = 5 * l.levels

abbrev pub decreases-branch : goal.decreases-branch
decreases-branch l = 5 * l.levels + 1

abbrev pub decreases-branches : goal.decreases-branches
decreases-branches l = 5 * l.levels + 2

abbrev pub decreases-entry : goal.decreases-entry
decreases-entry l = 5 * l.levels + 3

abbrev pub decreases-entries : goal.decreases-entries
decreases-entries l = 5 * l.levels + 4

abbrev pub invariant-entries-each_act : goal.invariant-entries-each_act
invariant-entries-each_act l =
    written l.out.items (flat_map (entry_words (body_words l.levels l.script) l.script) (drop l.a-index l.acts))
    ≡ written l.fn.out.items (flat_map (entry_words (body_words l.levels l.script) l.script) l.acts)
