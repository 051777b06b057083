-- A world that is played: scripted time and, where bytes are told, its streams.
use Rattle.std.specs.Prelude.{ℕ, ◌≡◌, ◌<◌, Bool, true, List, All, length, map, replicate, if◌then◌else◌}
use Rattle.asio_types.specs.declared.world.Line.{Line}
use Rattle.asio_types.specs.declared.world.World.{World}
use Rattle.stream_rules.specs.declared.pipe.Pipe.{Pipe}
use Rattle.stream_rules.specs.Pipes.{HasRoom, pipe_stream}
use Rattle.stream_rules.specs.Stream.{Stream, new_stream}
use Rattle.stream_rules.specs.Timetable.{Timetable}
use Rattle.stream_rules.specs.World.{first_streams, lines_after, lines_at, perform_lines, streams_at_last}

pub record Played : Type 0 where
  pub told : Bool
  pub now : ℕ
  pub lines : List Line
  pub streams : List Stream

-- what a schedule and streams are seen as
abbrev pub played_over : Bool → Timetable → List Pipe → Played
played_over told table pipes = record {
  told = told;
  now = table.time;
  lines = table.lines;
  streams = map pipe_stream pipes;
}

-- where bytes are told the lines name streams that are there, with memory for what is to come
pub record IsPlayed (told : Bool) (table : Timetable) (pipes : List Pipe) : Type 0 where
  pub within : told ≡ true → All (λ line. line.stream < length pipes) table.lines
  pub room : told ≡ true → HasRoom (lines_after table.time table.lines) pipes

abbrev pub first_played : World → Bool → Played
first_played world told = record {
  told = told;
  now = 0;
  lines = world.lines;
  streams = if told then first_streams world else replicate world.streams new_stream;
}

-- time has moved, and its lines are performed where bytes are told
abbrev pub played_at : ℕ → Played → Played
played_at time p = record p {
  now = time;
  streams = if p.told then perform_lines (lines_at time p.lines) p.streams else p.streams;
}

-- no further time point exists
abbrev pub played_to_the_end : Played → Played
played_to_the_end p = record p { streams = if p.told then streams_at_last p.streams else p.streams }
