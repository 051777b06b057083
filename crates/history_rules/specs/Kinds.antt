-- What kind of act an act is: what it asks the reactor for, and what it supports (Asio reference,
-- async_wait, async_read_some, async_read, async_read_until, async_write_some, async_write,
-- cancellation_slot; Overview, "Per-Operation Cancellation").
use Rattle.std.specs.Prelude.{ℕ, Bool, true, false, Option, Some, None}
use Rattle.session_script.specs.declared.act.Act.{Act}
use Rattle.session_script.specs.declared.act.Act.TheVariants as act
use Rattle.session_script.specs.Script.{ScriptModel, act_of}
use Rattle.stream_rules.specs.Serving.{Reading, Writing, Some_bytes, All_bytes, Until, Some_of, All_of}

-- the act with this number passes the test
abbrev pub is_act : (Act → Bool) → ScriptModel → ℕ → Bool
is_act test script n = test_of (act_of script n)
  where
    test_of : Option Act → Bool
    test_of None = false
    test_of (Some act) = test act

abbrev pub is_posting : Act → Bool
is_posting (act.Post strand) = true
is_posting (act.Defer strand) = true
is_posting (act.Dispatch strand) = true
is_posting _ = false

-- an act that changes what the reactor has to do, and has no handler
abbrev pub is_control : Act → Bool
is_control (act.Expires timer after) = true
is_control (act.ExpiresAt timer at) = true
is_control (act.Cancel timer) = true
is_control (act.CancelOne timer) = true
is_control (act.Emit slot types) = true
is_control (act.Close stream) = true
is_control (act.Release guard) = true
is_control _ = false

-- what a reading operation asks of its stream
abbrev pub reading_of : Act → Option Reading
reading_of (act.ReadSome stream size strand slot filter) = Some (Some_bytes size)
reading_of (act.ReadAll stream size strand slot filter) = Some (All_bytes size)
reading_of (act.Until stream delimiter max strand slot filter) = Some (Until delimiter max)
reading_of _ = None

-- what a writing operation has to write to its stream
abbrev pub writing_of : Act → Option Writing
writing_of (act.WriteSome stream bytes strand slot filter) = Some (Some_of bytes)
writing_of (act.WriteAll stream bytes strand slot filter) = Some (All_of bytes)
writing_of _ = None

-- the stream that an operation reads from or writes to, if any
abbrev pub stream_of : Act → Option ℕ
stream_of (act.ReadSome stream size strand slot filter) = Some stream
stream_of (act.ReadAll stream size strand slot filter) = Some stream
stream_of (act.Until stream delimiter max strand slot filter) = Some stream
stream_of (act.WriteSome stream bytes strand slot filter) = Some stream
stream_of (act.WriteAll stream bytes strand slot filter) = Some stream
stream_of _ = None

-- the slot that an operation is connected to, if any
abbrev pub slot_of : Act → Option ℕ
slot_of (act.Wait timer strand slot filter) = slot
slot_of (act.ReadSome stream size strand slot filter) = slot
slot_of (act.ReadAll stream size strand slot filter) = slot
slot_of (act.Until stream delimiter max strand slot filter) = slot
slot_of (act.WriteSome stream bytes strand slot filter) = slot
slot_of (act.WriteAll stream bytes strand slot filter) = slot
slot_of _ = None

-- the cancellation types that it lets through
abbrev pub filter_of : Act → ℕ
filter_of (act.Wait timer strand slot filter) = filter
filter_of (act.ReadSome stream size strand slot filter) = filter
filter_of (act.ReadAll stream size strand slot filter) = filter
filter_of (act.Until stream delimiter max strand slot filter) = filter
filter_of (act.WriteSome stream bytes strand slot filter) = filter
filter_of (act.WriteAll stream bytes strand slot filter) = filter
filter_of _ = 0

-- the cancellation types that it supports: a composed operation that was cancelled totally would
-- have had no effect, so total isn't among its types
abbrev pub supported_by : Act → ℕ
supported_by (act.Wait timer strand slot filter) = 7
supported_by (act.ReadSome stream size strand slot filter) = 7
supported_by (act.ReadAll stream size strand slot filter) = 3
supported_by (act.Until stream delimiter max strand slot filter) = 3
supported_by (act.WriteSome stream bytes strand slot filter) = 7
supported_by (act.WriteAll stream bytes strand slot filter) = 3
supported_by _ = 0
