-- What an act asks of its stream (Asio reference: async_read_some, async_read, async_read_until,
-- async_write_some and async_write).
use Rattle.std.specs.Prelude.{ℕ, ◌≤◌, ◌<◌, ◌^◌, ⊤, Option, Some, None, length}
use Rattle.session_script.specs.declared.act.Act.{Act}
use Rattle.session_script.specs.declared.act.Act.TheVariants as act
use Rattle.stream_rules.specs.Serving.{Reading, Some_bytes, All_bytes, Until, Writing, Some_of, All_of, bytes_of}

-- an operation on a stream reads or writes
pub data StreamOperation : Type 0 where
  Reads : (reading : Reading) → StreamOperation
  Writes : (writing : Writing) → StreamOperation

-- what an act asks for; nothing where it moves no bytes
abbrev pub asking_of : Act → Option StreamOperation
asking_of (act.Post strand) = None
asking_of (act.Defer strand) = None
asking_of (act.Dispatch strand) = None
asking_of (act.Expires timer after) = None
asking_of (act.ExpiresAt timer at) = None
asking_of (act.Wait timer strand slot filter) = None
asking_of (act.Cancel timer) = None
asking_of (act.CancelOne timer) = None
asking_of (act.Emit slot kinds) = None
asking_of (act.ReadSome stream size strand slot filter) = Some (Reads (Some_bytes size))
asking_of (act.ReadAll stream size strand slot filter) = Some (Reads (All_bytes size))
asking_of (act.Until stream delimiter max strand slot filter) = Some (Reads (Until delimiter max))
asking_of (act.WriteSome stream bytes strand slot filter) = Some (Writes (Some_of bytes))
asking_of (act.WriteAll stream bytes strand slot filter) = Some (Writes (All_of bytes))
asking_of (act.Close stream) = None
asking_of (act.Release guard) = None
asking_of act.Stop = None

-- the most bytes that a read looks at
abbrev pub reading_size : Reading → ℕ
reading_size (Some_bytes size) = size
reading_size (All_bytes size) = size
reading_size (Until delimiter max) = max

-- the most bytes that an operation moves
abbrev pub most_moved : StreamOperation → ℕ
most_moved (Reads reading) = reading_size reading
most_moved (Writes writing) = length (bytes_of writing)

-- at least one byte, counted by 32 bits
abbrev pub IsSizedAsking : StreamOperation → Type 0
IsSizedAsking asking = (1 ≤ most_moved asking) × (most_moved asking < 2 ^ 32)

-- what an act asks for is sized, as in every script
abbrev pub IsSizedAct : Option StreamOperation → Type 0
IsSizedAct None = ⊤
IsSizedAct (Some asking) = IsSizedAsking asking
