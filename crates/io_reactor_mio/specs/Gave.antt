-- What a call on a socket answers, once a reset was seen: the system tells one once (Asio reference,
-- error::basic_errors).
use Rattle.std.specs.Prelude.{⊤, Bool, true, false}
use Rattle.asio_types.specs.declared.code.Code.{Code}
use Rattle.asio_types.specs.declared.code.Code.TheVariants as code
use Rattle.io_rules.specs.declared.name.Name.{Name}
use Rattle.io_reactor.specs.declared.answer.Transferred.{Transferred}
use Rattle.io_reactor.specs.declared.answer.Transferred.TheVariants as transferred

-- a socket: its name, and whether a reset was told
pub record Ended : Type 0 where
  pub name : Name
  pub was_reset : Bool

-- how a side that ended so answers
abbrev pub ended : Bool → Code → Transferred
ended true given = transferred.Failed code.Reset
ended false given = transferred.Failed given

-- a reset was seen before, or this answer tells one
abbrev pub saw_reset : Bool → Transferred → Bool
saw_reset was (transferred.Failed code.Reset) = true
saw_reset was _ = was

-- a stream that was reset neither ends nor breaks
abbrev pub KeepsReset : Bool → Transferred → Type 0
KeepsReset true (transferred.Failed code.Eof) = ⊥
KeepsReset true (transferred.Failed code.Broken) = ⊥
KeepsReset was answer = ⊤
