-- What an operation asks for next, where these bytes of its stream were read and not consumed.
use Rattle.std.specs.Prelude.{ℕ, ◌-◌, ◌≤◌, min, List, [], ◌∷◌, ◌++◌, ⊤, Option, Some, None, length}
use Rattle.asio_types.specs.declared.outside.Moved.TheVariants as moved
use Rattle.stream_rules.specs.Serving.{Reading, Some_bytes, All_bytes, Until, Outcome, bytes_of, served_read}
use Rattle.composed_ops.specs.declared.want.Want.{Want}
use Rattle.composed_ops.specs.declared.want.Want.TheVariants as want
use Rattle.composed_ops.specs.StreamOperation.{StreamOperation, Reads, Writes, most_moved}
use Rattle.composed_ops.specs.Progress.{StreamProgress, IsSearched, progress_after}

-- held bytes first, as many as are missing; further ones where none is held
abbrev pub counted_want : ℕ → List ℕ → Want
counted_want missing [] = want.Read missing
counted_want missing (byte ∷ held) = want.Held (min missing (length (byte ∷ held)))

-- it completes on the held bytes, or needs further ones
abbrev pub until_want : Option Outcome → ℕ → Want
until_want (Some (code, size)) more = want.Finish code size
until_want None more = want.Read more

abbrev pub reading_want : Reading → ℕ → List ℕ → Want
reading_want (Some_bytes size) moved held = counted_want (size - moved) held
reading_want (All_bytes size) moved held = counted_want (size - moved) held
reading_want (Until delimiter max) moved held =
    until_want (served_read (Until delimiter max) moved held None).outcome (max - length held)

abbrev pub asking_want : StreamOperation → ℕ → List ℕ → Want
asking_want (Reads reading) moved held = reading_want reading moved held
asking_want (Writes writing) moved held = want.Write moved (length (bytes_of writing) - moved)

-- what it asks for next
abbrev pub wanted : StreamProgress → List ℕ → Want
wanted progress held = asking_want progress.asks progress.moved held

-- at least one byte and at most so many are asked for, and held ones only where they are there
abbrev pub IsWithin : ℕ → ℕ → Want → Type 0
IsWithin missing held (want.Held count) = (1 ≤ count) × (count ≤ missing) × (count ≤ held)
IsWithin missing held (want.Read count) = (1 ≤ count) × (count ≤ missing)
IsWithin missing held (want.Write from count) = (1 ≤ count) × (count ≤ missing)
IsWithin missing held (want.Finish code size) = size ≤ held

-- no more is asked for than is missing
abbrev pub AsksWithin : StreamProgress → List ℕ → Want → Type 0
AsksWithin progress held = IsWithin (most_moved progress.asks - progress.moved) (length held)

-- where further bytes are asked for, it may be asked again once a piece of them is held too
abbrev pub MayAskAgain : StreamProgress → List ℕ → Want → Type 0
MayAskAgain progress held (want.Held count) = ⊤
MayAskAgain progress held (want.Read count) =
    (piece : List ℕ) →
    IsSearched (progress_after progress (moved.Took (length piece))) (held ++ piece)
MayAskAgain progress held (want.Write from count) = ⊤
MayAskAgain progress held (want.Finish code size) = ⊤
