-- The operations of a group's members, and their completions in a history (Asio reference,
-- experimental::make_parallel_group).
use Rattle.std.specs.Prelude.{ℕ, List, length, filter, Contains}
use Rattle.std.specs.List.{range_with_len}
use Rattle.asio_types.specs.declared.code.Code.{Code}
use Rattle.asio_types.specs.declared.event.Event.{Event}
use Rattle.asio_types.specs.declared.event.Event.TheVariants as event
use Rattle.session_script.specs.Script.{ScriptModel, is_op}

-- the operation of each member, by its number: nothing else in a group's script has a handler
abbrev pub member_ops : ScriptModel → List ℕ
member_ops script = filter (is_op script) (range_with_len 0 (length script.acts))

-- the operation completes in this history
abbrev pub Completes : List Event → ℕ → Type 0
Completes events op = (code : Code) × (size : ℕ) × Contains events (event.Done op code size)
