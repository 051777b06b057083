-- The status of a session's files is that of their script and their trace.
use Rattle.std.proofs.Common.{ℕ, Bool, List}
use Rattle.std.specs.Prelude.{Option}
use Rattle.command_words.specs.declared.status.CommandStatus.{CommandStatus}
use Rattle.asio_command.specs.Session.{IsSession, IsStatusOf, IsStatusOn}

pub status_on : (script : List ℕ) (file : Option (List ℕ)) (rest : List ℕ) (trace : Option (List ℕ)) (told : Bool)
    (said : CommandStatus) → IsSession script file rest trace → IsStatusOf rest trace told said →
    IsStatusOn script file told said
status_on script file rest trace told said session of = (of.0, (rest, trace, session, of.1), of.2)
