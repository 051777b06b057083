-- What a socket tells of its peer, where it tells: what comes from it, what it takes, and what its
-- calls answer then (Asio reference, basic_stream_socket::read_some, write_some, async_connect).
use Rattle.std.specs.Prelude.{ℕ, ◌≡◌, ◌-◌, ◌==◌, min, ⊤, Bool, true, false, List, [], ◌∷◌, ◌++◌, Option, Some, None, length, map, take, drop, if◌then◌else◌}
use Rattle.asio_types.specs.declared.code.Code.{Code}
use Rattle.asio_types.specs.declared.code.Code.TheVariants as code
use Rattle.io_reactor.specs.declared.answer.Linked.{Linked}
use Rattle.io_reactor.specs.declared.answer.Linked.TheVariants as linked
use Rattle.io_reactor.specs.declared.answer.Transferred.{Transferred}
use Rattle.io_reactor.specs.declared.answer.Transferred.TheVariants as transferred

pub record Peer : Type 0 where
  -- what comes, in the pieces in which it comes; at an empty one nothing is there yet, for one call
  pub sends : List (List ℕ)
  -- the end or the error behind it; if none, nothing more comes
  pub sends_end : Option Code
  -- for how many bytes there is room, one after another; at 0 there is none yet, for one call
  pub takes : List ℕ
  -- the error behind it; if none, there is no more room
  pub takes_end : Option Code
  -- all that was taken
  pub took : List ℕ
  -- how many more calls find the connect under way
  pub linking : ℕ
  -- what calls find then
  pub link : Linked

-- what a call over so many bytes answers where pieces of these sizes come, and this behind them
abbrev pub answer_over : ℕ → List ℕ → Option Code → Transferred
answer_over size [] None = transferred.WouldBlock
answer_over size [] (Some code) = transferred.Failed code
answer_over size (piece ∷ rest) behind =
    if (piece == 0) then transferred.WouldBlock else transferred.Bytes (min size piece)

abbrev pub read_answer : ℕ → Peer → Transferred
read_answer size peer = answer_over size (map length peer.sends) peer.sends_end

abbrev pub write_answer : ℕ → Peer → Transferred
write_answer size peer = answer_over size peer.takes peer.takes_end

abbrev pub first_piece : List (List ℕ) → List ℕ
first_piece [] = []
first_piece (piece ∷ rest) = piece

-- a piece that is used up is gone
abbrev pub sends_after : ℕ → List (List ℕ) → List (List ℕ)
sends_after count [] = []
sends_after count (piece ∷ rest) =
    if (count == length piece) then rest else drop count piece ∷ rest

abbrev pub takes_after : ℕ → List ℕ → List ℕ
takes_after count [] = []
takes_after count (piece ∷ rest) = if (count == piece) then rest else (piece - count) ∷ rest

-- so many bytes were read
abbrev pub peer_read : ℕ → Peer → Peer
peer_read count peer = record peer { sends = sends_after count peer.sends }

-- the first so many of these bytes were written
abbrev pub peer_written : List ℕ → ℕ → Peer → Peer
peer_written bytes count peer = record peer {
  takes = takes_after count peer.takes;
  took = peer.took ++ take count bytes;
}

-- nothing more can be written
abbrev pub peer_shut : Peer → Peer
peer_shut peer = record peer { takes = []; takes_end = Some code.Broken }

abbrev pub link_answer : Peer → Linked
link_answer peer = if (peer.linking == 0) then peer.link else linked.WouldBlock

-- it was asked how the connect went
abbrev pub peer_asked : Peer → Peer
peer_asked peer = record peer { linking = peer.linking - 1 }

-- nothing comes, and nothing is taken
abbrev pub silent_peer : Bool → Peer
silent_peer shut = record {
  sends = [];
  sends_end = None;
  takes = [];
  takes_end = if shut then Some code.Broken else None;
  took = [];
  linking = 0;
  link = linked.WouldBlock;
}

-- a new socket tells where its reactor's do, and then nothing was written on it
abbrev pub IsNew : Bool → Option Peer → Type 0
IsNew true (Some peer) = peer.took ≡ []
IsNew true None = ⊥
IsNew false (Some peer) = ⊥
IsNew false None = ⊤
