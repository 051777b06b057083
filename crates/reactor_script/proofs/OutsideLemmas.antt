-- What a scripted reactor tells as time moves and its streams are used.
use Rattle.std.proofs.Common.{◌≡◌, ℕ, ◌<◌, List, length, map, get_or, set, ap, le_of_lt}
use Rattle.asio_types.specs.declared.outside.Point.TheVariants as point
use Rattle.stream_rules.specs.declared.pipe.Pipe.{Pipe}
use Rattle.stream_rules.specs.Pipes.{pipe_stream}
use Rattle.stream_rules.specs.Stream.{Stream}
use Rattle.stream_rules.specs.Timetable.{Timetable}
use Rattle.stream_rules.specs.World.{lines_at, lines_after, perform_lines}
use Rattle.stream_rules.proofs.PipeLemmas.{changed-set}
use Rattle.stream_rules.proofs.WorldLemmas.{lines_at-later, lines_after-later}
use Rattle.reactor_trait.specs.Reactor.{Outside, outside_at, with_stream}
use Rattle.reactor_script.specs.Scene.{outside_over}

-- time moved to this time, and its lines were performed
pub outside-moved : (old new : Timetable) (time : ℕ) (pipes after : List Pipe) → old.time < time → new.time ≡ time →
    new.lines ≡ old.lines → map pipe_stream after ≡ perform_lines (lines_at new.time new.lines) (map pipe_stream pipes) →
    outside_over new after ≡ outside_at (point.Time time) (outside_over old pipes)
outside-moved old new time pipes after forward is same performed =
    let at = lines_at-later old.time time old.lines forward in
    let to_come = lines_after-later old.time time old.lines (le_of_lt forward) in
    rw (performed, is, same, at, to_come)

-- one stream changed
pub outside-changed : (f : Stream → Stream) (table : Timetable) (pipes : List Pipe) (d : ℕ) (any new : Pipe) →
    d < length pipes → pipe_stream new ≡ f (pipe_stream (get_or pipes d any)) →
    outside_over table (set pipes d new) ≡ with_stream d f (outside_over table pipes)
outside-changed f table pipes d any new b same =
    ap (λ (streams : List Stream).
    let outside : Outside = record { streams = streams; lines = lines_after table.time table.lines } in outside)
    (changed-set f pipes d any new b same)
