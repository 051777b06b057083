-- What the ends of a script mean (Asio reference, error::basic_errors, error::misc_errors).
use Rattle.std.specs.Prelude.{Option, Some, None}
use Rattle.asio_types.specs.declared.code.Code.{Code}
use Rattle.asio_types.specs.declared.code.Code.TheVariants as code
use Rattle.io_reactor.specs.declared.answer.Linked.{Linked}
use Rattle.io_reactor.specs.declared.answer.Linked.TheVariants as linked
use Rattle.io_reactor_memory.specs.declared.script.LinkEnd.{LinkEnd}
use Rattle.io_reactor_memory.specs.declared.script.LinkEnd.TheVariants as link_end
use Rattle.io_reactor_memory.specs.declared.script.ReadEnd.{ReadEnd}
use Rattle.io_reactor_memory.specs.declared.script.ReadEnd.TheVariants as read_end
use Rattle.io_reactor_memory.specs.declared.script.WriteEnd.{WriteEnd}
use Rattle.io_reactor_memory.specs.declared.script.WriteEnd.TheVariants as write_end

abbrev pub read_error : ReadEnd → Option Code
read_error read_end.Open = None
read_error read_end.Eof = Some code.Eof
read_error read_end.Reset = Some code.Reset

abbrev pub write_error : WriteEnd → Option Code
write_error write_end.Full = None
write_error write_end.Broken = Some code.Broken
write_error write_end.Reset = Some code.Reset

abbrev pub link_of : LinkEnd → Linked
link_of link_end.Never = linked.WouldBlock
link_of link_end.Linked = linked.Linked
link_of link_end.Refused = linked.Failed code.Reset
