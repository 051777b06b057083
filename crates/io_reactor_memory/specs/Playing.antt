-- What a socket of a reactor in memory does, by its script.
use Rattle.std.specs.Prelude.{ℕ, ◌≡◌, ⊤, List, [], ◌∷◌, Option, Some, None, Vec, map}
use Rattle.std.specs.List.{slice_index_or}
use Rattle.std.specs.declared.alloc.Global.{Global}
use Rattle.asio_types.specs.declared.code.Code.TheVariants as code
use Rattle.io_rules.specs.declared.name.Name.{Name}
use Rattle.io_reactor.specs.declared.answer.Accepted.{Accepted}
use Rattle.io_reactor.specs.declared.answer.Accepted.TheVariants as accepted
use Rattle.io_reactor.specs.declared.answer.Linked.TheVariants as linked
use Rattle.io_reactor.specs.Peer.{Peer}
use Rattle.io_reactor_memory.specs.Ends.{link_of, read_error, write_error}
use Rattle.io_reactor_memory.specs.declared.script.ConnectScript.{ConnectScript}
use Rattle.io_reactor_memory.specs.declared.script.LinkEnd.{LinkEnd}
use Rattle.io_reactor_memory.specs.declared.script.LinkEnd.TheVariants as link_end
use Rattle.io_reactor_memory.specs.declared.script.PeerScript.{PeerScript}
use Rattle.io_reactor_memory.specs.declared.script.Visit.{Visit}
use Rattle.io_reactor_memory.specs.declared.script.Visit.TheVariants as visit

-- its name, what a listener accepts, and its peer
pub record Played : Type 0 where
  pub name : Name
  pub visits : Option (List Visit)
  pub peer : Peer

-- a peer that does what its script says, at the beginning
abbrev pub peer_begun : ℕ → LinkEnd → PeerScript → Peer
peer_begun linking link script = record {
  sends = map (λ piece. piece.items) script.sends.items;
  sends_end = read_error script.sends_end;
  takes = script.takes.items;
  takes_end = write_error script.takes_end;
  took = [];
  linking = linking;
  link = link_of link;
}

-- a listener has no peer
abbrev pub refusing : Peer
refusing = record {
  sends = [];
  sends_end = Some code.Reset;
  takes = [];
  takes_end = Some code.Reset;
  took = [];
  linking = 0;
  link = linked.Failed code.Reset;
}

-- what an accept gives by the next visit; a connection may also fail for want of memory
abbrev pub Plays : Option (List Visit) → Accepted Played → Type 0
Plays (Some (visit.Comes script ∷ rest)) (accepted.Made socket) =
    socket.peer ≡ peer_begun 0 link_end.Linked script
Plays visits (accepted.Made socket) = ⊥
Plays (Some (visit.Later ∷ rest)) (accepted.Failed given) = ⊥
Plays (Some []) (accepted.Failed given) = ⊥
Plays visits (accepted.Failed given) = ⊤
Plays (Some (visit.Comes script ∷ rest)) accepted.WouldBlock = ⊥
Plays (Some (visit.Fails ∷ rest)) accepted.WouldBlock = ⊥
Plays None accepted.WouldBlock = ⊥
Plays visits accepted.WouldBlock = ⊤

abbrev pub visits_left : Option (List Visit) → Option (List Visit)
visits_left (Some (visit ∷ rest)) = Some rest
visits_left visits = visits

-- a listener that the script has
pub record IsListenerOf (listeners : List (Option (Vec Visit Global))) (socket : Played) : Type 0 where
  pub at : ℕ
  pub visits : Vec Visit Global
  pub listed : slice_index_or listeners at None ≡ Some visits
  pub plays : socket.visits ≡ Some visits.items

-- a connect that the script has
pub record IsConnectOf (connects : List (Option ConnectScript)) (socket : Played) : Type 0 where
  pub at : ℕ
  pub script : ConnectScript
  pub listed : slice_index_or connects at None ≡ Some script
  pub plays : socket.peer ≡ peer_begun script.linking script.link script.peer
