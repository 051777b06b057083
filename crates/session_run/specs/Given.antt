-- The objects that a session is given, as they are seen before and after it.
use Rattle.std.specs.Prelude.{ℕ, Bool, List, Option, is_some, map}
use Rattle.std.specs.Option.{option_map}
use Rattle.reactor_trait.specs.Reactor.{Outside, ReactorState}
use Rattle.op_handlers.specs.declared.rack.Rack.{Rack}
use Rattle.text_io.specs.Seen.{Seen, seen_by}

-- a reactor: the bytes that it tells as sent on each stream, and after the session whether it is
-- set up, and its time
pub record SeenReactor : Type 0 where
  pub sent : Seen (List (List ℕ))
  pub up : Bool
  pub now : ℕ

-- it tells its bytes
abbrev pub tells_bytes : SeenReactor → Bool
tells_bytes reactor = is_some reactor.sent.told_after

-- the bytes that were sent on each stream
abbrev pub sent_outside : Outside → List (List ℕ)
sent_outside outside = map (λ stream. stream.sent) outside.streams

-- a reactor of which these tell
abbrev pub seen_reactor : {X : Type 0} → (X → ReactorState) → (X → Option Outside) → (X → ℕ) → X →
    X → SeenReactor
seen_reactor state told faults before after =
    record {
      sent = seen_by (λ x. option_map sent_outside (told x)) faults before after;
      up = (state after).up;
      now = (state after).now;
    }

-- what a session was given, but for its notes
pub record Given (H : Type 0) : Type 0 where
  pub words : List (List ℕ)
  pub source : Seen (List ℕ)
  pub out : Seen (List ℕ)
  pub reactor : SeenReactor
  pub rack_before : Rack H
  pub rack_after : Rack H
