-- The sockets of a context by place (Asio reference, basic_stream_socket, basic_socket_acceptor):
-- one worker at most has a socket.
use Rattle.std.specs.Prelude.{ℕ, ◌==◌, ◌&&◌, not, Bool, true, false, List, Option, Some, None, replicate, if◌then◌else◌}
use Rattle.std.specs.List.{slice_index_or, slice_set}
use Rattle.io_rules.specs.declared.name.Name.{Name}
use Rattle.io_rules.specs.declared.operation.Side.{Side}
use Rattle.io_sockets.specs.declared.readiness.Outcome.{Outcome}
use Rattle.io_sockets.specs.declared.readiness.Readiness.{Readiness}
use Rattle.io_sockets.specs.declared.stand.Held.{Held}
use Rattle.io_sockets.specs.declared.stand.Held.TheVariants as held
use Rattle.io_sockets.specs.declared.stand.Stand.{Stand}
use Rattle.io_sockets.specs.declared.turn.Turn.{Turn}
use Rattle.io_sockets.specs.declared.turn.WaitType.{WaitType}
use Rattle.io_sockets.specs.declared.turn.WaitType.TheVariants as wait
use Rattle.io_sockets.specs.Ready.{edged, made_ready, new_readiness, not_ready, tried, wait_of, watched}
use Rattle.io_sockets.specs.Turns.{TurnList, no_turns, with_turn}

pub record SocketList (S : Type 0) : Type 0 where
  -- by place
  pub stands : List (Stand S)
  -- what is to be looked at
  pub turns : TurnList

-- nothing is there
abbrev pub no_stand : {S : Type 0} → Stand S
no_stand = record { generation = 0; held = held.Gone; reads = not_ready; writes = not_ready }

abbrev pub no_sockets : {S : Type 0} → ℕ → SocketList S
no_sockets places = record { stands = replicate places no_stand; turns = no_turns places }

abbrev pub stand_at : {S : Type 0} → SocketList S → ℕ → Stand S
stand_at s place = slice_index_or s.stands place no_stand

abbrev pub is_gone : {S : Type 0} → Held S → Bool
is_gone held.Gone = true
is_gone _ = false

abbrev pub is_in : {S : Type 0} → Held S → Bool
is_in (held.Here socket) = true
is_in _ = false

abbrev pub is_awaited : {S : Type 0} → Held S → Bool
is_awaited (held.Here None) = true
is_awaited _ = false

abbrev pub is_out : {S : Type 0} → Held S → Bool
is_out (held.Out side closed) = true
is_out _ = false

-- for which side a worker has it, and whether it was closed meanwhile
abbrev pub out_for : {S : Type 0} → Held S → Option (Side × Bool)
out_for (held.Out side closed) = Some (side, closed)
out_for _ = None

-- the place is that of this name
abbrev pub is_current : {S : Type 0} → SocketList S → Name → Bool
is_current s name = (stand_at s name.place).generation == name.generation

abbrev pub readiness_of : {S : Type 0} → WaitType → Stand S → Readiness
readiness_of wait.Read stand = stand.reads
readiness_of wait.Write stand = stand.writes

abbrev pub with_readiness : {S : Type 0} → WaitType → Readiness → Stand S → Stand S
with_readiness wait.Read r stand = record stand { reads = r }
with_readiness wait.Write r stand = record stand { writes = r }

-- a name is given; its socket comes later, and is worth trying both ways
abbrev pub opened : {S : Type 0} → ℕ → Stand S
opened generation = record {
  generation = generation;
  held = held.Here None;
  reads = new_readiness;
  writes = new_readiness;
}

-- its socket is here; what edges said before stays
abbrev pub noted : {S : Type 0} → S → Stand S → Stand S
noted socket stand = record stand {
  held = held.Here (Some socket);
  reads = made_ready stand.reads;
  writes = made_ready stand.writes;
}

abbrev pub socket_in : {S : Type 0} → Held S → Option S
socket_in (held.Here socket) = socket
socket_in _ = None

-- a worker has it for a system call of this side
abbrev pub taken : {S : Type 0} → Side → Stand S → Stand S
taken side stand = record stand {
  held = held.Out side false;
  reads = watched stand.reads;
  writes = watched stand.writes;
}

-- what a worker brings back is here, unless it was closed meanwhile
abbrev pub held_back : {S : Type 0} → Option S → Held S → Held S
held_back socket (held.Out side true) = held.Gone
held_back socket (held.Out side false) = held.Here socket
held_back socket other = other

-- what comes back to be closed
abbrev pub left_back : {S : Type 0} → Option S → Held S → Option S
left_back socket (held.Out side true) = socket
left_back socket _ = None

-- the side that was tried
abbrev pub tried_on : {S : Type 0} → Outcome → Held S → Stand S → Stand S
tried_on given (held.Out side closed) stand =
    with_readiness (wait_of side) (tried given (readiness_of (wait_of side) stand)) stand
tried_on given _ stand = stand

abbrev pub returned : {S : Type 0} → Option S → Outcome → Stand S → Stand S
returned socket given stand =
    record (tried_on given stand.held stand) { held = held_back socket stand.held }

-- a socket that is here goes; one that a worker has goes when it is back
abbrev pub held_closed : {S : Type 0} → Held S → Held S
held_closed held.Gone = held.Gone
held_closed (held.Here socket) = held.Gone
held_closed (held.Out side closed) = held.Out side true

abbrev pub closed : {S : Type 0} → Stand S → Stand S
closed stand = record stand { held = held_closed stand.held }

-- nothing is there any more
abbrev pub removed : {S : Type 0} → Stand S → Stand S
removed stand = record stand { held = held.Gone }

-- an edge came for one way of it
abbrev pub edge_at : {S : Type 0} → WaitType → Bool → Stand S → Stand S
edge_at way ended stand = with_readiness way (edged ended (readiness_of way stand)) stand

abbrev pub with_stand : {S : Type 0} → ℕ → Stand S → SocketList S → SocketList S
with_stand place stand s = record s { stands = slice_set s.stands place stand }

abbrev pub turn_of : ℕ → WaitType → Turn
turn_of place way = record { place = place; wait = way }

-- it is to be looked at
abbrev pub listed : {S : Type 0} → ℕ → WaitType → SocketList S → SocketList S
listed place way s = record s { turns = with_turn (turn_of place way) s.turns }

-- both ways of it
abbrev pub listed_both : {S : Type 0} → ℕ → SocketList S → SocketList S
listed_both place s = listed place wait.Write (listed place wait.Read s)

-- what an edge does: one of another generation has no effect
abbrev pub edge_noted : {S : Type 0} → Name → WaitType → Bool → SocketList S → SocketList S
edge_noted name way ended s =
    if is_current s name && not (is_gone (stand_at s name.place).held)
    then listed name.place way (with_stand name.place (edge_at way ended (stand_at s name.place)) s)
    else s

-- what closing leaves, and what comes out of it
abbrev pub all_closed : {S : Type 0} → Name → SocketList S → SocketList S
all_closed name s =
    if is_current s name then with_stand name.place (closed (stand_at s name.place)) s else s

abbrev pub closed_out : {S : Type 0} → Name → SocketList S → Option S
closed_out name s = if is_current s name then socket_in (stand_at s name.place).held else None

-- it is here, and a worker may take it
abbrev pub may_be_taken : {S : Type 0} → SocketList S → Name → Bool
may_be_taken s name = is_current s name && is_in (stand_at s name.place).held

-- a system call of this side is worth trying
abbrev pub is_ready : {S : Type 0} → SocketList S → Name → Side → Bool
is_ready s name side = (readiness_of (wait_of side) (stand_at s name.place)).ready
