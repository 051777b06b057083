-- When a system call on a socket is worth trying (Asio reference, Overview, "The Proactor Design
-- Pattern": the reactor demultiplexes events; epoll with EPOLLET reports once what arrives).
use Rattle.std.specs.Prelude.{Bool, true, false, ◌||◌, List, [], ◌∷◌}
use Rattle.io_rules.specs.declared.operation.Side.{Side}
use Rattle.io_rules.specs.declared.operation.Side.TheVariants as side
use Rattle.io_sockets.specs.declared.readiness.Outcome.{Outcome}
use Rattle.io_sockets.specs.declared.readiness.Outcome.TheVariants as outcome
use Rattle.io_sockets.specs.declared.readiness.Readiness.{Readiness}
use Rattle.io_sockets.specs.declared.turn.WaitType.{WaitType}
use Rattle.io_sockets.specs.declared.turn.WaitType.TheVariants as wait

-- an accept waits as a read does, and a connect as a write
abbrev pub wait_of : Side → WaitType
wait_of side.Read = wait.Read
wait_of side.Write = wait.Write
wait_of side.Connect = wait.Write

abbrev pub not_ready : Readiness
not_ready = record { ready = false; ended = false; again = false }

-- a new socket is worth trying
abbrev pub new_readiness : Readiness
new_readiness = record { ready = true; ended = false; again = false }

-- so is one that comes to a place for which edges came before
abbrev pub made_ready : Readiness → Readiness
made_ready r = record r { ready = true }

-- an edge came
abbrev pub edged : Bool → Readiness → Readiness
edged ended r = record { ready = true; ended = r.ended || ended; again = true }

-- a worker has taken the socket
abbrev pub watched : Readiness → Readiness
watched r = record r { again = false }

-- what a system call leaves: none where it would block, unless an edge came meanwhile; none where
-- it was short, unless an edge came meanwhile or said that there is an end; the end and an error
-- leave it
abbrev pub stays_ready : Outcome → Readiness → Bool
stays_ready outcome.Blocked r = r.again
stays_ready outcome.Short r = r.again || r.ended
stays_ready outcome.Whole r = r.ready
stays_ready outcome.Ended r = r.ready

abbrev pub tried : Outcome → Readiness → Readiness
tried given r = record r { ready = stays_ready given r }

-- what happens to one way of a socket
pub data Happens : Type 0 where
  Edge : (ended : Bool) → Happens
  Taken : Happens
  Back : (given : Outcome) → Happens

-- newest first
abbrev pub readiness_behind : List Happens → Readiness
readiness_behind [] = new_readiness
readiness_behind (Edge ended ∷ past) = edged ended (readiness_behind past)
readiness_behind (Taken ∷ past) = watched (readiness_behind past)
readiness_behind (Back given ∷ past) = tried given (readiness_behind past)

-- an edge came since the socket was taken last
abbrev pub came_meanwhile : List Happens → Bool
came_meanwhile [] = false
came_meanwhile (Edge ended ∷ past) = true
came_meanwhile (Taken ∷ past) = false
came_meanwhile (Back given ∷ past) = came_meanwhile past

-- an edge said that there is an end
abbrev pub end_was_told : List Happens → Bool
end_was_told [] = false
end_was_told (Edge ended ∷ past) = end_was_told past || ended
end_was_told (Taken ∷ past) = end_was_told past
end_was_told (Back given ∷ past) = end_was_told past

-- the last call that found nothing more to do, with what came before it
abbrev pub became_ready : List Happens → Bool
became_ready [] = true
became_ready (Edge ended ∷ past) = true
became_ready (Taken ∷ past) = became_ready past
became_ready (Back outcome.Blocked ∷ past) = came_meanwhile past
became_ready (Back outcome.Short ∷ past) = came_meanwhile past || end_was_told past
became_ready (Back outcome.Whole ∷ past) = became_ready past
became_ready (Back outcome.Ended ∷ past) = became_ready past
