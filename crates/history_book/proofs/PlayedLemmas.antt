-- What a played world keeps as time moves.
use Rattle.std.proofs.Common.{◌≡◌, ℕ, ◌<◌, ◌==◌, Bool, true, false, cond, refl, Option, List, [], ◌∷◌, ◌++◌, length, map, take, drop, replicate, get_or, set, sym, ap, ◌∙◌, le_of_lt, arith}
use Rattle.std.specs.List.{All}
use Rattle.std.specs.Option.{ForSome}
use Rattle.std.proofs.lemmas.List.{length-set, drop_all, take_all, append-nil, length-map, length-replicate}
use Rattle.std.proofs.lemmas.List.Elements.{All-filter}
use Rattle.asio_types.specs.declared.outside.Point.{Point}
use Rattle.asio_types.specs.declared.outside.Point.TheVariants as point
use Rattle.asio_types.specs.declared.world.Line.{Line}
use Rattle.asio_types.specs.declared.world.World.{World}
use Rattle.stream_rules.specs.Stream.{Stream, new_stream, line_performed}
use Rattle.stream_rules.specs.World.{changed_at, lines_at, lines_after, perform_line, perform_lines, stream_at, next_point, times_after}
use Rattle.stream_rules.specs.Timetable.{Timetable, time_at}
use Rattle.stream_rules.specs.declared.pipe.Pipe.{Pipe}
use Rattle.stream_rules.specs.Pipes.{pipe_stream, HasRoom, UsesRoom, KeepsRoom}
use Rattle.stream_rules.proofs.PipeLemmas.{changed-set, HasRoom-at, HasRoom-after, HasRoom-keeps}
use Rattle.stream_rules.proofs.WorldLemmas.{next_point-later, lines_at-later, lines_after-later}
use Rattle.history_rules.proofs.LinesLemmas.{length-perform_lines}
use Rattle.history_book.specs.Played.{IsPlayed, Played, first_played, played_at, played_over}

-- what a vector holds once its slice was written
pub written : {X : Type 0} (n : ℕ) (old new : List X) → length old ≡ n → length new ≡ length old →
    take n (new ++ drop (length new) old) ≡ new
written n old new here long =
    let none = drop_all (length new) old (omega arith) in
    rw (none, append-nil new) (take_all n new (omega arith))

-- the lines of one time name streams that are there
pub within-at : (time n : ℕ) (lines : List Line) → All (λ (line : Line). line.stream < n) lines →
    All (λ (line : Line). line.stream < n) (lines_at time lines)
within-at time n lines all = All-filter (λ (line : Line). line.time == time) (λ line. line.stream < n) lines all

-- new streams are as many as were asked for
pub new-count : (n : ℕ) (pipes : List Pipe) → map pipe_stream pipes ≡ replicate n new_stream → length pipes ≡ n
new-count n pipes streams = sym (length-map pipes pipe_stream) ∙ ap length streams ∙ length-replicate n new_stream

-- a world that is new
pub IsPlayed-first : (table : Timetable) (n : ℕ) (pipes after : List Pipe) → table.time ≡ 0 →
    All (λ (line : Line). line.stream < n) table.lines → map pipe_stream pipes ≡ replicate n new_stream →
    HasRoom table.lines pipes → UsesRoom (lines_at table.time table.lines) pipes after → length after ≡ length pipes →
    IsPlayed true table after
IsPlayed-first table n pipes after is all streams has uses long =
    let count = new-count n pipes streams in
    record {
      within = λ told k l b. let here = all k l b in omega arith;
      room = λ told. HasRoom-after table.time table.lines pipes after has uses long;
    }

-- a world whose bytes are untold
pub IsPlayed-untold : (table : Timetable) (pipes : List Pipe) → IsPlayed false table pipes
IsPlayed-untold table pipes = record { within = λ told. absurd (cc); room = λ told. absurd (cc) }

-- time moves forward to the next point
pub moves-forward : (limit : Option ℕ) (table : Timetable) (time : ℕ) → ForSome limit (λ t. table.time < t) →
    next_point limit (times_after table.time table.lines) ≡ point.Time time → table.time < time
moves-forward limit table time ahead next =
    next_point-later limit table.time time (map (λ (line : Line). line.time) table.lines) ahead next

-- the time that was moved to
pub moved-to : (to next : Point) (time now after : ℕ) → to ≡ next → next ≡ point.Time time → after ≡ time_at to now →
    after ≡ time
moved-to to next time now after answer is moved = moved ∙ ap (λ p. time_at p now) (answer ∙ is)

-- the lines of the next time fit
pub HasRoom-due : (old new : Timetable) (time : ℕ) (pipes : List Pipe) →
    HasRoom (lines_after old.time old.lines) pipes → old.time < time → new.time ≡ time → new.lines ≡ old.lines →
    HasRoom (lines_at new.time new.lines) pipes
HasRoom-due old new time pipes has forward is same =
    let at = lines_at-later old.time time old.lines forward in
    rw (is, same) (rw at at (HasRoom-at time (lines_after old.time old.lines) pipes has))

-- time moved, and its lines were performed
pub IsPlayed-moved : (told : Bool) (old new : Timetable) (time : ℕ) (pipes after : List Pipe) → told ≡ true →
    IsPlayed told old pipes → old.time < time → new.time ≡ time → new.lines ≡ old.lines →
    UsesRoom (lines_at new.time new.lines) pipes after → length after ≡ length pipes → IsPlayed told new after
IsPlayed-moved told old new time pipes after is_told played forward is same uses long =
    let at = lines_at-later old.time time old.lines forward in
    let to_come = lines_after-later old.time time old.lines (le_of_lt forward) in
    let used : UsesRoom (lines_at time old.lines) pipes after = rw (is, same) at uses in
    let room =
    HasRoom-after time (lines_after old.time old.lines) pipes after (played.room is_told) (rw at used) long in
    record {
      within = λ told. rw same (λ k l b. let here = played.within is_told k l b in omega arith);
      room = λ told. rw (is, same) (rw to_come at room);
    }

-- where the memory for what is to come stayed
pub IsPlayed-keeps : (told : Bool) (table : Timetable) (pipes after : List Pipe) → IsPlayed told table pipes →
    KeepsRoom pipes after → length after ≡ length pipes → IsPlayed told table after
IsPlayed-keeps told table pipes after played keeps long = record {
  within = λ is k l b. let here = played.within is k l b in omega arith;
  room = λ is. HasRoom-keeps (lines_after table.time table.lines) pipes after (played.room is) keeps long;
}

-- one stream changed
pub played-changed : (f : Stream → Stream) (told : Bool) (table : Timetable) (pipes : List Pipe) (d : ℕ)
    (any new : Pipe) → d < length pipes → any ≡ get_or pipes d any → pipe_stream new ≡ f (pipe_stream any) →
    played_over told table (set pipes d new)
    ≡ record (played_over told table pipes) { streams = changed_at d f (map pipe_stream pipes) }
played-changed f told table pipes d any new b is same =
    ap (λ (streams : List Stream).
    let played : Played = record { told = told; now = table.time; lines = table.lines; streams = streams } in
    played) (changed-set f pipes d any new b (same ∙ ap (λ p. f (pipe_stream p)) is))

pub length-played_at : (time : ℕ) (p : Played) → length (played_at time p).streams ≡ length p.streams
length-played_at time p = pick p.told
  where
    pick : (told : Bool) →
        length (cond told (perform_lines (lines_at time p.lines) p.streams) p.streams) ≡ length p.streams
    pick true = length-perform_lines (lines_at time p.lines) p.streams
    pick false = refl

pub length-first_played : (world : World) (told : Bool) → length (first_played world told).streams ≡ world.streams
length-first_played world true =
    length-perform_lines (lines_at 0 world.lines) (replicate world.streams new_stream)
    ∙ length-replicate world.streams new_stream
length-first_played world false = length-replicate world.streams new_stream
