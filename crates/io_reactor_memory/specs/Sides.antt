-- What is left of a peer's script.
use Rattle.std.specs.Prelude.{ℕ, ◌+◌, List, [], ◌∷◌, Option, Some, None, map}
use Rattle.std.specs.Option.{option_map}
use Rattle.io_reactor_memory.specs.declared.reads.Reads.{Reads}
use Rattle.io_reactor_memory.specs.declared.room.Room.{Room}
use Rattle.io_reactor_memory.specs.declared.script.WriteEnd.{WriteEnd}

-- the piece that was begun goes first
abbrev pub begun_and : {T : Type 0} → Option T → List T → List T
begun_and None rest = rest
begun_and (Some begun) rest = begun ∷ rest

-- what a peer has still to send, in pieces
abbrev pub sends_of : Reads → List (List ℕ)
sends_of reads =
    begun_and (option_map (λ begun. begun.now) reads.begun)
    (map (λ piece. piece.items) reads.pieces.now)

-- the room that a peer has still to make
abbrev pub takes_of : Room → List ℕ
takes_of room = begun_and room.begun room.rest.now

abbrev pub total_of : List ℕ → ℕ
total_of [] = 0
total_of (room ∷ rest) = room + total_of rest

-- the room that a peer has still to make, what comes behind it, and what it took
pub record Outward : Type 0 where
  pub takes : List ℕ
  pub end : WriteEnd
  pub took : List ℕ
