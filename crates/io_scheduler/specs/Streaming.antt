-- Operations of streams and listeners that haven't completed, and sockets that are in system calls
-- (Asio reference, Overview, "The Proactor Design Pattern").
use Rattle.std.specs.Prelude.{ℕ, ◌+◌, not, Bool, List, length, sum_by}
use Rattle.std.specs.List.{list_all}
use Rattle.io_rules.specs.Changes.{is_out}
use Rattle.io_rules.specs.Room.{one_if}
use Rattle.io_rules.specs.State.{StreamState}

-- how many haven't completed, on all sides of a stream
abbrev pub on_sides : StreamState → ℕ
on_sides stream = length stream.reads + length stream.writes + length stream.connects

abbrev pub on_streams : List StreamState → ℕ
on_streams streams = sum_by on_sides streams

-- how many sockets are in system calls
abbrev pub out_in : List StreamState → ℕ
out_in streams = sum_by (λ stream. one_if (is_out stream.out)) streams

-- none is
abbrev pub none_out : List StreamState → Bool
none_out streams = list_all (λ stream. not (is_out stream.out)) streams
