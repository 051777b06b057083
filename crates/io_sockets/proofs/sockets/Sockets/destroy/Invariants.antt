use Rattle.std.proofs.Common.{◌≡◌, true, ℕ}
use Rattle.std.specs.Prelude.{vec_len}
use Rattle.std.specs.List.{slice_index_or}
use Rattle.io_sockets.specs.Stands.{is_gone, no_stand}
use Rattle.io_sockets.proofs.sockets.Sockets.destroy.Given as goal

abbrev pub invariant-loop-stand : goal.invariant-loop-stand
invariant-loop-stand g l = (n : ℕ) → is_gone (slice_index_or l.stands.items n no_stand).held ≡ true

abbrev pub decreases-loop-stand : goal.decreases-loop-stand
decreases-loop-stand g l = vec_len l.stands
