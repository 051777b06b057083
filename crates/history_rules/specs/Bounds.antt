-- What bounds the reactor's half: how many operations are pending, and how late a time may be.
use Rattle.std.specs.Prelude.{ℕ, ◌+◌, ◌*◌, ◌^◌, ◌<◌, ◌==◌, Bool, false, List, Option, Some, None, All, length, sum_by}
use Rattle.session_script.specs.declared.act.Act.{Act}
use Rattle.stream_rules.specs.declared.queue.Completion.{Completion}
use Rattle.history_rules.specs.Kinds.{stream_of}
use Rattle.history_rules.specs.Performing.{queues_at}
use Rattle.history_rules.specs.Settling.{expiry_of}
use Rattle.history_rules.specs.State.{ReactorHalf, StreamQueues, Wait}

-- how many operations are pending, those that are due among them
abbrev pub pending_in : List Wait → List StreamQueues → List Completion → ℕ
pending_in waits queues due =
    length waits + sum_by (λ each. length each.reads + length each.writes) queues + length due

-- how many operations of a stream are pending
abbrev pub size_at : ReactorHalf → ℕ → ℕ
size_at r stream = length (queues_at r stream).reads + length (queues_at r stream).writes

abbrev pub stream_asked : Option Act → Option ℕ
stream_asked None = None
stream_asked (Some act) = stream_of act

abbrev pub is_this : ℕ → Option ℕ → Bool
is_this stream None = false
is_this stream (Some other) = other == stream

-- each pending wait expires after now
abbrev pub AllAhead : ReactorHalf → Type 0
AllAhead r = All (λ wait. r.now < expiry_of r wait) r.waits

-- no time is beyond this once so many acts were taken
abbrev pub latest : ℕ → ℕ
latest accepted = (accepted + 1) * 2 ^ 40
