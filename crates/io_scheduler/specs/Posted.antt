-- Posting an operation.
use Rattle.std.specs.Global.{Vec}
use Rattle.std.specs.Prelude.{ℕ, ◌+◌, ◌-◌, Option, None}
use Rattle.asio_types.specs.declared.code.Code.{Code}
use Rattle.io_rules.specs.declared.name.Lane.{Lane}
use Rattle.io_rules.specs.declared.operation.Operation.{Operation}
use Rattle.io_rules.specs.declared.request.Marks.{Marks}
use Rattle.io_rules.specs.declared.request.Request.{Request}
use Rattle.io_strands.specs.declared.ready.ReadyOp.{ReadyOp}
use Rattle.io_scheduler.specs.declared.counts.Counts.{Counts}

-- the request: without a cancellation slot
abbrev pub posting : Lane → Operation → Marks → Request
posting on kind marks = record { lane = on; binding = None; kind = kind; marks = marks }

-- it is ready, with this buffer and handler
abbrev pub ready_posting : {H : Type 0} → ℕ → Code → Option (Vec ℕ) → H → ReadyOp H
ready_posting n code buffer handler =
    record { number = n; code = code; size = 0; buffer = buffer; made = None; handler = handler }

-- a number and a place are taken
abbrev pub counts_posted : Counts → Counts
counts_posted c = record c { next = c.next + 1; room = c.room - 1 }

-- the number is one of those that are kept for the handler that initiates it, and so is the place
abbrev pub counts_called : Counts → Counts
counts_called c = record c { next = c.next + 1; promised = c.promised - 1 }
