use Rattle.std.proofs.Common.{◌≡◌}
use Rattle.session_script.specs.Tokens.{tokens_at, end_of, token_count}
use Rattle.session_script.proofs.token.Cursor.skip_all.Given as goal

abbrev pub invariant-loop-self : goal.invariant-loop-self
invariant-loop-self l = end_of (tokens_at l.self) ≡ end_of (tokens_at l.fn.self)

abbrev pub decreases-loop-self : goal.decreases-loop-self
decreases-loop-self l = token_count (tokens_at l.self)
