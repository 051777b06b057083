-- Lines of a world change no number of streams.
use Rattle.std.proofs.Common.{◌≡◌, refl, List, [], ◌∷◌, length, ◌∙◌}
use Rattle.std.proofs.lemmas.List.{length-set}
use Rattle.asio_types.specs.declared.world.Line.{Line}
use Rattle.stream_rules.specs.Stream.{Stream, line_performed}
use Rattle.stream_rules.specs.World.{perform_line, perform_lines, stream_at}

length-perform_line : (streams : List Stream) (line : Line) → length (perform_line streams line) ≡ length streams
length-perform_line streams line = length-set streams line.stream (line_performed line.what (stream_at streams line.stream))

-- lines change no number of streams
pub length-perform_lines : (lines : List Line) (streams : List Stream) →
    length (perform_lines lines streams) ≡ length streams
length-perform_lines [] streams = refl
length-perform_lines (line ∷ lines) streams =
    length-perform_lines lines (perform_line streams line) ∙ length-perform_line streams line
