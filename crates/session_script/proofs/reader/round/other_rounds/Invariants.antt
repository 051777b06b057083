use Rattle.std.proofs.Common.{◌≡◌}
use Rattle.session_script.specs.Tokens.{tokens_at, token_count}
use Rattle.session_script.specs.Productions.{repeated, begins_round, next_round}
use Rattle.session_script.proofs.reader.round.other_rounds.Given as goal

abbrev pub invariant-each_round : goal.invariant-each_round
invariant-each_round l =
    repeated begins_round (next_round l.header) l.rounds.items (tokens_at l.cursor)
    ≡ repeated begins_round (next_round l.header) l.fn.rounds.items (tokens_at l.fn.cursor)

abbrev pub decreases-each_round : goal.decreases-each_round
decreases-each_round l = token_count (tokens_at l.cursor)
