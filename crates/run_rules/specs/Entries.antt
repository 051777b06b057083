-- When an operation stands in the queue of its strand (reference, io_context::strand, "Order of handler
-- invocation": where one call happens before another, its handler is called first).
use Rattle.std.specs.Prelude.{ℕ, List, [], ◌∷◌, Bool, true, false, ◌==◌, if◌then◌else◌, length, Option, Some, None}
use Rattle.std.specs.Option.{option_or, option_map}
use Rattle.run_lines.specs.declared.line.Line.{Line}
use Rattle.run_rules.specs.Calls.{Calling, Completion, call_of, done_of, is_posting}

-- the line that submits the handler: by which thread, and at which place
pub record Entry : Type 0 where
  pub thread : ℕ
  pub place : ℕ

-- a posting enters by its call, any other operation by its completion
abbrev pub entry_by : Bool → Calling → Option Completion → Option Entry
entry_by true call completion = Some (record { thread = call.thread; place = call.place })
entry_by false call completion = option_map (λ (c : Completion). record { thread = c.thread; place = c.place }) completion

abbrev pub entry_from : Option Calling → Option Completion → Option Entry
entry_from None completion = None
entry_from (Some call) completion = entry_by (is_posting call.word) call completion

abbrev pub entry_of : List Line → ℕ → Option Entry
entry_of past op = entry_from (call_of past op) (done_of past op)

-- this place, if a line of this thread shows that the thread has come back from that entry
abbrev pub placed_by : Option Entry → ℕ → ℕ → Option ℕ
placed_by None thread place = None
placed_by (Some entry) thread place = if entry.thread == thread then Some place else None

-- where an operation is known to stand in its queue: the next line of the thread that wrote its entry
abbrev pub placed_at : List Line → ℕ → Option ℕ
placed_at [] op = None
placed_at (line ∷ past) op = option_or (placed_at past op) (placed_by (entry_of past op) line.thread (length past))
