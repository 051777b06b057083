-- What a reactor over sockets is seen as.
use Rattle.std.specs.Prelude.{ℕ, Bool, Option, Some, None}
use Rattle.reactor_trait.specs.Reactor.{ReactorState, idle_state}

-- its state, and how often it has failed
pub record Sockets : Type 0 where
  pub state : ReactorState
  pub faults : ℕ

-- the state of a world that is played, or of none; set up or not
abbrev pub state_of : Bool → Option ReactorState → ReactorState
state_of up None = record idle_state { up = up }
state_of up (Some state) = record state { up = up }
