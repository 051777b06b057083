use Rattle.std.proofs.Common.{◌≡◌}
use Rattle.io_tests.proofs.handlers.post_so_many.Given as goal

abbrev pub invariant-posts : goal.invariant-posts
invariant-posts l = (l.io.granted ≡ l.fn.io.granted) × (l.io.kept ≡ l.fn.io.kept)
