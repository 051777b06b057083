-- What the streams of a world keep as time moves and they are used.
use Rattle.std.proofs.Common.{◌≡◌, ◌≢◌, ℕ, ◌<◌, ◌==◌, Bool, false, Option, Some, None, IsSome, List, ◌++◌, length, map, take, drop, replicate, zero, suc, sym, ap, ◌∙◌, le_of_lt, arith}
use Rattle.std.specs.List.{All}
use Rattle.std.specs.Option.{ForSome}
use Rattle.std.proofs.lemmas.Bool.Decides.{nat_tests}
use Rattle.std.proofs.lemmas.List.{length-map, length-replicate, take_all, drop_all, append-nil}
use Rattle.std.proofs.lemmas.List.Elements.{All-filter}
use Rattle.asio_types.specs.declared.mark.ReadMark.{ReadMark}
use Rattle.asio_types.specs.declared.mark.ReadMark.TheVariants as read_mark
use Rattle.asio_types.specs.declared.mark.WriteMark.{WriteMark}
use Rattle.asio_types.specs.declared.mark.WriteMark.TheVariants as write_mark
use Rattle.asio_types.specs.declared.outside.Moved.TheVariants as moved
use Rattle.asio_types.specs.declared.outside.Point.{Point}
use Rattle.asio_types.specs.declared.outside.Point.TheVariants as point
use Rattle.asio_types.specs.declared.world.Line.{Line}
use Rattle.stream_rules.specs.Stream.{new_stream}
use Rattle.stream_rules.specs.World.{lines_at, lines_after, times_after, next_point}
use Rattle.stream_rules.proofs.WorldLemmas.{lines_at-later, lines_after-later, next_point-later}
use Rattle.std.specs.Option.{option_map}
use Rattle.stream_rules.specs.Moving.{moved_by, read_answer, write_answer}
use Rattle.stream_rules.specs.Serving.{read_code, some_of, write_code}
use Rattle.stream_rules.proofs.PipeLemmas.{HasRoom-at, HasRoom-after}
use Rattle.stream_rules.specs.Timetable.{Timetable}
use Rattle.stream_rules.specs.declared.pipe.Pipe.{Pipe}
use Rattle.stream_rules.specs.Pipes.{pipe_stream, HasRoom, UsesRoom, IsMarked, IsPlaying}

-- the lines that are due name streams that are there
pub within-at : (time n : ℕ) (lines : List Line) → All (λ (line : Line). line.stream < n) lines →
    All (λ (line : Line). line.stream < n) (lines_at time lines)
within-at time n lines all = All-filter (λ (line : Line). line.time == time) (λ line. line.stream < n) lines all

-- what a vector holds once its slice was written
pub written : {X : Type 0} (n : ℕ) (old new : List X) → length old ≡ n → length new ≡ length old →
    take n (new ++ drop (length new) old) ≡ new
written n old new here long =
    let none = drop_all (length new) old (omega arith) in
    rw (none, append-nil new) (take_all n new (omega arith))

-- time moved to this time, and its lines were performed
pub IsPlaying-moved : (last : Bool) (closed : List Bool) (old new : Timetable) (time : ℕ) (pipes after : List Pipe) →
    IsPlaying last closed old pipes → old.time < time → new.time ≡ time → new.lines ≡ old.lines →
    UsesRoom (lines_at new.time new.lines) pipes after → length after ≡ length pipes →
    (All IsMarked pipes → All IsMarked after) → IsPlaying last closed new after
IsPlaying-moved last closed old new time pipes after playing forward is same uses long marks =
    let at = lines_at-later old.time time old.lines forward in
    let to_come = lines_after-later old.time time old.lines (le_of_lt forward) in
    let used : UsesRoom (lines_at time old.lines) pipes after = rw (is, same) at uses in
    let room = HasRoom-after time (lines_after old.time old.lines) pipes after playing.room (rw at used) long in
    record {
      counted = playing.counted ∙ sym long;
      within = rw same (λ k l b. let here = playing.within k l b in omega arith);
      room = rw (is, same) (rw to_come at room);
      marked = λ h. marks (playing.marked h);
    }

-- time moves forward to a next point
pub moves-forward : (limit : Option ℕ) (old : Timetable) (to : Point) (time : ℕ) → ForSome limit (λ t. old.time < t) →
    to ≡ point.Time time → to ≡ next_point limit (times_after old.time old.lines) → old.time < time
moves-forward limit old to time ahead is answer =
    next_point-later limit old.time time (map (λ (line : Line). line.time) old.lines) ahead (sym answer ∙ is)

-- the lines of the next time fit
pub HasRoom-due : (last : Bool) (closed : List Bool) (old new : Timetable) (time : ℕ) (pipes : List Pipe) →
    IsPlaying last closed old pipes → old.time < time → new.time ≡ time → new.lines ≡ old.lines →
    HasRoom (lines_at new.time new.lines) pipes
HasRoom-due last closed old new time pipes playing forward is same =
    let at = lines_at-later old.time time old.lines forward in
    rw (is, same) (rw at at (HasRoom-at time (lines_after old.time old.lines) pipes playing.room))

marked-read : (wanted there : ℕ) (mark : Option ReadMark) → IsSome mark →
    moved_by (some_of wanted there (option_map read_code mark)).outcome ≢ moved.NotYet
marked-read wanted zero None h e = cc
marked-read wanted zero (Some read_mark.Eof) h e = cc
marked-read wanted zero (Some read_mark.Reset) h e = cc
marked-read wanted (suc there) mark h e =
    let some : (suc there == 0) ≡ false = grind (arith, nat_tests) in let took = rw some at e in cc

marked-write : (offered there : ℕ) (mark : Option WriteMark) → IsSome mark →
    moved_by (some_of offered there (option_map write_code mark)).outcome ≢ moved.NotYet
marked-write offered zero None h e = cc
marked-write offered zero (Some write_mark.Broken) h e = cc
marked-write offered zero (Some write_mark.Reset) h e = cc
marked-write offered (suc there) mark h e =
    let some : (suc there == 0) ≡ false = grind (arith, nat_tests) in let took = rw some at e in cc

-- a read of a stream that has its mark has an answer
pub read-marked : (wanted : ℕ) (pipe : Pipe) → IsMarked pipe → read_answer wanted (pipe_stream pipe) ≢ moved.NotYet
read-marked wanted pipe marked = marked-read wanted (length pipe.inbound.arrived) pipe.inbound.mark marked.0

-- a write to a stream that has its mark has an answer
pub write-marked : (bytes : List ℕ) (pipe : Pipe) → IsMarked pipe → write_answer bytes (pipe_stream pipe) ≢ moved.NotYet
write-marked bytes pipe marked = marked-write (length bytes) pipe.outbound.room pipe.outbound.mark marked.1

-- a world that is set up
pub IsPlaying-first : (closed : List Bool) (table : Timetable) (n : ℕ) (pipes after : List Pipe) →
    closed ≡ replicate n false → table.time ≡ 0 → All (λ (line : Line). line.stream < n) table.lines →
    map pipe_stream pipes ≡ replicate n new_stream → HasRoom table.lines pipes →
    UsesRoom (lines_at table.time table.lines) pipes after → length after ≡ length pipes →
    IsPlaying false closed table after
IsPlaying-first closed table n pipes after flags is within streams has uses long =
    let count : length pipes ≡ n =
    sym (length-map pipes pipe_stream) ∙ ap length streams ∙ length-replicate n new_stream in
    record {
      counted = ap length flags ∙ length-replicate n false ∙ sym count ∙ sym long;
      within = λ k l b. let here = within k l b in omega arith;
      room = HasRoom-after table.time table.lines pipes after has uses long;
      marked = λ h. absurd (cc);
    }

-- the lines of a new world name its streams
pub within-first : (time n : ℕ) (lines : List Line) (pipes : List Pipe) → All (λ (line : Line). line.stream < n) lines →
    map pipe_stream pipes ≡ replicate n new_stream →
    All (λ (line : Line). line.stream < length pipes) (lines_at time lines)
within-first time n lines pipes all streams =
    let count : length pipes ≡ n =
    sym (length-map pipes pipe_stream) ∙ ap length streams ∙ length-replicate n new_stream in
    rw count (within-at time n lines all)
