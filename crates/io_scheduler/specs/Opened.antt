-- Streams and listeners that are made (Asio reference, basic_stream_socket, basic_socket_acceptor).
use Rattle.std.specs.Prelude.{Bool, true, false}
use Rattle.io_rules.specs.declared.name.Kind.{Kind}
use Rattle.io_rules.specs.declared.name.Kind.TheVariants as kind

-- a listener, or a stream
abbrev pub socket_kind : Bool → Kind
socket_kind true = kind.Listener
socket_kind false = kind.Stream
