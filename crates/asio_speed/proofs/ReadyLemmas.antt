-- What a reactor that was just set up gives its callers.
use Rattle.std.proofs.Common.{◌≡◌, ◌<◌, ℕ, false, true, length, replicate, sym, subst, arith}
use Rattle.std.proofs.lemmas.List.{get_or-replicate, length-replicate}
use Rattle.asio_types.specs.declared.world.World.{World}
use Rattle.reactor_trait.specs.Reactor.{ReactorState, IsOpen, state_ready, stream_count}

-- each stream of its world is one of its streams
pub ready_known : (world : World) (state : ReactorState) (stream : ℕ) →
    state ≡ state_ready world → stream < world.streams → stream < stream_count state
ready_known world state stream ready within =
    subst (λ s. stream < stream_count s) (sym ready)
    (let size : length (replicate world.streams false) ≡ world.streams = length-replicate world.streams false in
    omega (arith, within, size))

-- and it is open
pub ready_open : (world : World) (state : ReactorState) (stream : ℕ) →
    state ≡ state_ready world → stream < world.streams → IsOpen state stream
ready_open world state stream ready within =
    subst (λ s. IsOpen s stream) (sym ready) (get_or-replicate world.streams stream false true within)
