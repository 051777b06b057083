-- How many operations a script has on each stream, which is the room that the queues of the stream
-- need.
use Rattle.std.specs.Prelude.{◌≡◌, ℕ, zero, suc, ◌+◌, ◌<◌, ◌==◌, Bool, false, ◌&&◌, List, Option, Some, None, length, if◌then◌else◌}
use Rattle.std.specs.List.{slice_index_or, slice_set}
use Rattle.session_script.specs.declared.act.Act.{Act}
use Rattle.session_script.specs.Script.{ScriptModel, act_of}
use Rattle.history_rules.specs.Kinds.{stream_of}
use Rattle.history_rules.specs.Performing.{queues_at}
use Rattle.history_rules.specs.Bounds.{is_this, size_at, stream_asked}
use Rattle.history_rules.specs.State.{ReactorHalf}

-- how many of the first numbers pass the test
abbrev pub count_passing : (ℕ → Bool) → ℕ → ℕ
count_passing test zero = 0
count_passing test (suc n) = count_passing test n + (if test n then 1 else 0)

-- the act with this number is an operation on this stream
abbrev pub is_on : ScriptModel → ℕ → ℕ → Bool
is_on script stream op = is_this stream (stream_asked (act_of script op))

-- how many operations the script has on a stream
abbrev pub ops_on : ScriptModel → ℕ → ℕ
ops_on script stream = count_passing (is_on script stream) (length script.acts)

-- how many of them were taken
abbrev pub taken_on : ScriptModel → List Bool → ℕ → ℕ
taken_on script taken stream =
    count_passing (λ op. is_on script stream op && slice_index_or taken op false)
    (length script.acts)

-- not all operations of its stream are pending
abbrev pub HasPlace : ScriptModel → ReactorHalf → Option ℕ → Type 0
HasPlace script r on = (stream : ℕ) → on ≡ Some stream → size_at r stream < ops_on script stream

-- one more, where the number is that of a place
abbrev pub with_one_more : Option ℕ → List ℕ → List ℕ
with_one_more None counts = counts
with_one_more (Some place) counts = slice_set counts place (slice_index_or counts place 0 + 1)
