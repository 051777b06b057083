-- What an operation asks for, as the code holds it.
use Rattle.std.specs.Prelude.{◌<◌, ◌^◌, length}
use Rattle.stream_rules.specs.declared.serving.Reading as code_reading
use Rattle.stream_rules.specs.declared.serving.Writing as code_writing
use Rattle.stream_rules.specs.declared.serving.Reading.TheVariants as reading
use Rattle.stream_rules.specs.declared.serving.Writing.TheVariants as writing
use Rattle.stream_rules.specs.Serving.{Reading, Writing, Some_bytes, All_bytes, Until, Some_of, All_of, bytes_of}

abbrev pub reading_view : code_reading.Reading → Reading
reading_view (reading.Some size) = Some_bytes size
reading_view (reading.All size) = All_bytes size
reading_view (reading.Until delimiter max) = Until delimiter.now max

abbrev pub writing_view : code_writing.Writing → Writing
writing_view (writing.Some bytes) = Some_of bytes.now
writing_view (writing.All bytes) = All_of bytes.now

-- 32 bits count the bytes
abbrev pub IsCountable : Writing → Type 0
IsCountable writing = length (bytes_of writing) < 2 ^ 32
