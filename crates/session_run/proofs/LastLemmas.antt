-- The note at the end of a program.
use Rattle.std.proofs.Common.{ℕ, List, Option, Result, Ok, Err}
use Rattle.std.specs.Prelude.{IfOk, OnErr}
use Rattle.std.proofs.Math.Seq.{take-length}
use Rattle.asio_types.specs.Sink.{Extends, ExtendsByPart}
use Rattle.asio_types.specs.declared.failure.Failed.{Failed}

-- whatever a write of them answered, a first part of the bytes was written
pub first_part : (result : Result (Unit {0}) Failed) (before after : Option (List ℕ)) (bytes : List ℕ) →
    IfOk result (λ done. Extends before bytes after) → OnErr result (ExtendsByPart before bytes after) →
    ExtendsByPart before bytes after
first_part (Ok done) before after bytes whole part = (bytes, take-length bytes, whole)
first_part (Err failed) before after bytes whole part = part
