-- What no history of edges and system calls loses.
use Rattle.std.specs.Prelude.{◌≡◌, true, List, ◌∷◌}
use Rattle.io_sockets.specs.declared.readiness.Outcome.{Outcome}
use Rattle.io_sockets.specs.declared.readiness.Outcome.TheVariants as outcome
use Rattle.io_sockets.specs.Ready.{Back, Happens, became_ready, came_meanwhile, end_was_told, readiness_behind}

pub record NoneLost : Type 0 where
  -- a way is ready where it has become so since its last call that found nothing more to do
  pub exact : (past : List Happens) → (readiness_behind past).ready ≡ became_ready past
  -- an edge that came while the socket was out is kept, however the call went
  pub edges : (given : Outcome) (past : List Happens) → came_meanwhile past ≡ true →
      (readiness_behind (Back given ∷ past)).ready ≡ true
  -- a short call clears nothing once an end was told
  pub ends : (past : List Happens) → end_was_told past ≡ true →
      (readiness_behind (Back outcome.Short ∷ past)).ready ≡ true
  -- the end and an error clear nothing
  pub ended : (past : List Happens) → (readiness_behind past).ready ≡ true →
      (readiness_behind (Back outcome.Ended ∷ past)).ready ≡ true
