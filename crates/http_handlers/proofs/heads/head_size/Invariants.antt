use Rattle.std.proofs.Common.{◌≡◌, ℕ, ◌<◌, false}
use Rattle.http_handlers.specs.Heads.{ends_empty}
use Rattle.http_handlers.proofs.heads.head_size.Given as goal

-- none of the sizes so far is one
abbrev pub invariant-sizes : goal.invariant-sizes
invariant-sizes l = (k : ℕ) → k < l.size → ends_empty l.bytes k ≡ false
