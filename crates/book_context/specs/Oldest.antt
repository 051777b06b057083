-- The oldest entries of what a context keeps, before they are taken off.
use Rattle.std.specs.Prelude.{ℕ, ◌∷◌}
use Rattle.asio_types.specs.declared.code.Code.{Code}
use Rattle.book_context.specs.Recording.{Recording}

-- an operation is the oldest ready one
abbrev pub with_ready : ℕ × Code × ℕ → Recording → Recording
with_ready oldest r = record r { ready = oldest ∷ r.ready }

-- a request is the oldest one
abbrev pub with_request : ℕ → Recording → Recording
with_request oldest r = record r { requests = oldest ∷ r.requests }
