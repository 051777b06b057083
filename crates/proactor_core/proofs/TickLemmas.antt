-- Where time moves, and what that leaves.
use Rattle.std.proofs.Common.{◌≡◌, ℕ, ◌^◌, ◌<◌, ◌≤◌, nat_lt, min, Bool, true, false, suc, List, [], ◌∷◌, ◌++◌, cond, Option, Some, None, is_some, length, map, filter, get_or, inl, inr, refl, sym, ap, subst, ◌∙◌, arith}
use Rattle.std.specs.List.{All}
use Rattle.std.specs.Bool.{IsTrue}
use Rattle.std.specs.Option.{ForSome, IfSome, option_map}
use Rattle.std.proofs.lemmas.Bool.{cases_eq, cases_lt}
use Rattle.std.proofs.lemmas.Bool.Decides.{nat_tests}
use Rattle.std.proofs.lemmas.List.{append_assoc, get_or-map, get_or_past, get_or-set_other, get_or-set_same, length-map, length-set}
use Rattle.std.proofs.lemmas.List.Elements.{All-map}
use Rattle.asio_types.specs.declared.outside.Point.{Point}
use Rattle.asio_types.specs.declared.outside.Point.TheVariants as point
use Rattle.asio_types.specs.declared.world.Line.{Line}
use Rattle.asio_types.specs.declared.world.What.{What}
use Rattle.asio_types.specs.declared.world.What.TheVariants as what
use Rattle.session_script.specs.Script.{ScriptModel}
use Rattle.session_script.specs.WellFormed.{IsWellFormed}
use Rattle.stream_rules.specs.Stream.{Stream, marked_last, new_stream, line_performed}
use Rattle.stream_rules.specs.World.{lines_after, lines_at, next_point, perform_line, perform_lines, stream_at, streams_at_last, times_after}
use Rattle.stream_rules.proofs.WorldLemmas.{lines_after-later, lines_at-later, next_point-later, times_after-moved}
use Rattle.history_rules.specs.Settling.{settled}
use Rattle.history_rules.specs.State.{ReactorHalf}
use Rattle.history_rules.specs.Time.{at_last, at_time, lesser, least_of, next_time}
use Rattle.history_rules.specs.Bounds.{latest}
use Rattle.history_rules.specs.Waits.{expiry_in}
use Rattle.history_rules.specs.declared.wait.Wait.{Wait}
use Rattle.history_rules.proofs.LimitLemmas.{time-below}
use Rattle.history_rules.proofs.LinesLemmas.{length-perform_lines}
use Rattle.history_rules.proofs.TimeLemmas.{least_of-within, next_point-within}
use Rattle.reactor_trait.specs.Reactor.{Outside, ReactorState, outside_at, state_at}
use Rattle.proactor_core.specs.Proactor.{HasRoomForActs, IsAt, IsSound, IsTurning, ProactorView, after_point, point_ahead}
use Rattle.proactor_core.specs.Reactor.{tells, whole_told}
use Rattle.proactor_core.specs.Streams.{StreamView, stream_in}
use Rattle.proactor_core.specs.Tables.{TableState, point_passed}

lesser-above : (now x : ℕ) (least : Option ℕ) → now < x → ForSome least (λ t. now < t) →
    ForSome (lesser x least) (λ t. now < t)
lesser-above now x None b all = λ t is. let same : x ≡ t = cc in omega arith
lesser-above now x (Some y) b all = λ t is. let other = all y refl in let same : min x y ≡ t = cc in omega arith

-- where all are above now, so is the least
pub least-above : (now : ℕ) (xs : List ℕ) → All (λ x. now < x) xs → ForSome (least_of xs) (λ t. now < t)
least-above now [] all = λ t is. absurd (cc)
least-above now (x ∷ xs) all =
    lesser-above now x (least_of xs) (all 0 x (omega arith)) (least-above now xs (λ k d b. all (suc k) d (omega arith)))

all-pass : (now : ℕ) (xs : List ℕ) → All (λ x. now < x) xs → filter (λ x. nat_lt now x) xs ≡ xs
all-pass now [] all = refl
all-pass now (x ∷ xs) all =
    let above = all 0 x (omega arith) in
    let test : nat_lt now x ≡ true = grind (arith, nat_tests) in
    rw test (ap (λ ys. x ∷ ys) (all-pass now xs (λ k d b. all (suc k) d (omega arith))))

abbrev pub expiries_of : TableState → List ℕ
expiries_of s = map (expiry_in s.waiting.expiries) s.waiting.waits

pub all-above : (s : TableState) → All (λ wait. s.time < expiry_in s.waiting.expiries wait) s.waiting.waits →
    All (λ x. s.time < x) (expiries_of s)
all-above s ahead = All-map (λ x. s.time < x) (expiry_in s.waiting.expiries) s.waiting.waits ahead

-- the next time point is that of the half
pub point-next : {X : Type 0} (told : X → Option Outside) (view : ProactorView X) (half : ReactorHalf) →
    All (λ wait. view.tables.time < expiry_in view.tables.waiting.expiries wait) view.tables.waiting.waits →
    IsAt told view half → next_time view.script half ≡ point_ahead view.script view.tables
point-next told view half ahead is =
    let s = view.tables in
    let is_next = ap (next_time view.script) (sym is.works) in
    is_next
    ∙ ap (λ ts. next_point (least_of ts) (times_after s.time view.script.world.lines))
    (all-pass s.time (expiries_of s) (all-above s ahead))

-- the times of the world are within the limits of its version
times-within : (script : ScriptModel) (top : ℕ) → IsWellFormed script → 2 ^ 40 ≤ top →
    All (λ (line : Line). line.time ≤ top) script.world.lines
times-within script top formed b = λ k d c.
    let fits = (formed.lines k d c).0 in
    let most = time-below script.version in
    omega arith

expiry-within : (expiries : List ℕ) (top : ℕ) (wait : Wait) → All (λ expiry. expiry ≤ top) expiries →
    expiry_in expiries wait ≤ top
expiry-within expiries top wait all =
    elim (cases_lt wait.timer (length expiries)) [
      | inl there ↦ all wait.timer 0 there
      | inr past ↦ let none = get_or_past expiries wait.timer 0 (omega arith) in omega arith
    ]

-- the next time point is within bounds
next-within : (script : ScriptModel) (s : TableState) (streams : List StreamView) (now : ℕ) → IsWellFormed script →
    HasRoomForActs script s streams → point_ahead script s ≡ point.Time now → now ≤ latest s.accepted
next-within script s streams now formed room next =
    let each : All (λ t. t ≤ latest s.accepted) (expiries_of s) =
    All-map (λ t. t ≤ latest s.accepted) (expiry_in s.waiting.expiries) s.waiting.waits
    (λ k d b. expiry-within s.waiting.expiries (latest s.accepted) (get_or s.waiting.waits k d) room.within.expiries)
    in
    next_point-within (latest s.accepted) now s.time (least_of (expiries_of s)) script.world.lines next
    (least_of-within (latest s.accepted) (expiries_of s) each)
    (times-within script (latest s.accepted) formed (omega arith))

-- a proactor whose time has moved, and that hasn't settled
abbrev pub moved : {X : Type 0} → Point → X → ProactorView X → ProactorView X
moved to reactor view = record view { tables = point_passed to view.tables; reactor = reactor }

-- the half likewise
abbrev pub half_moved : ScriptModel → Bool → Point → ReactorHalf → ReactorHalf
half_moved script telling (point.Time now) half = at_time script telling now half
half_moved script telling point.Last half = at_last telling half

there-moved : (to : Point) (told : Option Outside) (count : ℕ) →
    IfSome told (λ outside. length outside.streams ≡ count) →
    IfSome (option_map (outside_at to) told) (λ outside. length outside.streams ≡ count)
there-moved to None count there = tt
there-moved (point.Time now) (Some outside) count there =
    length-perform_lines (lines_at now outside.lines) outside.streams ∙ there
there-moved point.Last (Some outside) count there = length-map outside.streams marked_last ∙ there

module _ {X : Type 0} (state : X → ReactorState) (told : X → Option Outside) (view : ProactorView X) (reactor : X) where
  time-moved : (now : ℕ) → IsWellFormed view.script → point.Time now ≡ point_ahead view.script view.tables →
      state reactor ≡ state_at (point.Time now) (state view.reactor) →
      told reactor ≡ option_map (outside_at (point.Time now)) (told view.reactor) → IsSound state told view →
      IsTurning state told (moved (point.Time now) reactor view)
  time-moved now formed to moves told_moves sound =
      let s = view.tables in
      let room = sound.turning.room in
      let left = room.tables in
      let step = sound.turning.step in
      let above = least-above s.time (expiries_of s) (all-above s sound.ahead) in
      let later = times_after-moved (least_of (expiries_of s)) s.time now view.script.world.lines above (sym to) in
      record {
        room = record {
          fit = room.fit;
          tables =
              record {
                acts = left.acts;
                waits_taken = left.waits_taken;
                rooms = left.rooms;
                counted = left.counted;
                accepted = left.accepted;
                spare = left.spare;
              };
          queues = room.queues;
          connected = room.connected;
          within =
              record {
                due = room.within.due;
                now = next-within view.script s view.streams now formed room (sym to);
                expiries = room.within.expiries;
              };
          working = room.working;
        };
        step = record {
          now = ap (λ (t : ReactorState). t.now) moves;
          times = ap (λ (t : ReactorState). t.times) moves ∙ ap (filter (λ t. nat_lt now t)) step.times ∙ sym later;
          last = ap (λ (t : ReactorState). t.last) moves ∙ step.last;
          servable = record {
            up = subst (λ (t : ReactorState). IsTrue t.up) (sym moves) step.servable.up;
            closed = ap (λ (t : ReactorState). t.closed) moves ∙ step.servable.closed;
            there =
                subst (λ (t : Option Outside). IfSome t (λ outside. length outside.streams ≡ length view.streams))
                (sym told_moves)
                (there-moved (point.Time now) (told view.reactor) (length view.streams) step.servable.there);
          };
        };
      }

  last-moved : state reactor ≡ state_at point.Last (state view.reactor) →
      told reactor ≡ option_map (outside_at point.Last) (told view.reactor) → IsSound state told view →
      IsTurning state told (moved point.Last reactor view)
  last-moved moves told_moves sound =
      let room = sound.turning.room in
      let left = room.tables in
      let step = sound.turning.step in
      record {
        room = record {
          fit = room.fit;
          tables =
              record {
                acts = left.acts;
                waits_taken = left.waits_taken;
                rooms = left.rooms;
                counted = left.counted;
                accepted = left.accepted;
                spare = left.spare;
              };
          queues = room.queues;
          connected = room.connected;
          within = room.within;
          working = room.working;
        };
        step = record {
          now = ap (λ (t : ReactorState). t.now) moves ∙ step.now;
          times = ap (λ (t : ReactorState). t.times) moves ∙ step.times;
          last = ap (λ (t : ReactorState). t.last) moves;
          servable = record {
            up = subst (λ (t : ReactorState). IsTrue t.up) (sym moves) step.servable.up;
            closed = ap (λ (t : ReactorState). t.closed) moves ∙ step.servable.closed;
            there =
                subst (λ (t : Option Outside). IfSome t (λ outside. length outside.streams ≡ length view.streams))
                (sym told_moves)
                (there-moved point.Last (told view.reactor) (length view.streams) step.servable.there);
          };
        };
      }

  -- time moved, and the proactor is in its turn
  pub turning-moved : (to : Point) → IsWellFormed view.script → to ≡ point_ahead view.script view.tables →
      state reactor ≡ state_at to (state view.reactor) → told reactor ≡ option_map (outside_at to) (told view.reactor) →
      IsSound state told view → IsTurning state told (moved to reactor view)
  turning-moved (point.Time now) formed to moves told_moves sound = time-moved now formed to moves told_moves sound
  turning-moved point.Last formed to moves told_moves sound = last-moved moves told_moves sound

-- a stream with these bytes in front of those that arrived
abbrev whole : List ℕ → Stream → Stream
whole held s = record s { arrived = held ++ s.arrived }

fed-behind : (held arrived bytes : List ℕ) (marked : Bool) →
    held ++ cond marked arrived (arrived ++ bytes) ≡ cond marked (held ++ arrived) ((held ++ arrived) ++ bytes)
fed-behind held arrived bytes true = refl
fed-behind held arrived bytes false = sym (append_assoc held arrived bytes)

performed-behind : (does : What) (held : List ℕ) (s : Stream) →
    whole held (line_performed does s) ≡ line_performed does (whole held s)
performed-behind (what.Feed bytes) held s =
    ap (λ arrived. let new : Stream = record s { arrived = arrived } in new)
    (fed-behind held s.arrived bytes (is_some s.read_mark))
performed-behind what.End held s = refl
performed-behind what.Reset held s = refl
performed-behind (what.Room count) held s = refl

-- each stream of a half is that of the outside behind the bytes that are held
abbrev AreWhole : (ℕ → List ℕ) → List Stream → List Stream → ℕ → Type 0
AreWhole held all outside count = (n : ℕ) → n < count → stream_at all n ≡ whole (held n) (stream_at outside n)

line-behind : (held : ℕ → List ℕ) (all outside : List Stream) (line : Line) → length all ≡ length outside →
    AreWhole held all outside (length outside) →
    AreWhole held (perform_line all line) (perform_line outside line) (length outside)
line-behind held all outside line count are n b =
    let k = line.stream in
    let changed = line_performed line.what (stream_at all k) in
    let other_changed = line_performed line.what (stream_at outside k) in
    elim (cases_eq n k) [
      | inl same ↦
          let within : k < length outside = omega arith in
          let here = get_or-set_same all k changed new_stream (omega arith) in
          let there = get_or-set_same outside k other_changed new_stream within in
          subst (λ m. stream_at (perform_line all line) m ≡ whole (held m) (stream_at (perform_line outside line) m)) (sym same)
          (here ∙ ap (line_performed line.what) (are k within)
          ∙ sym (performed-behind line.what (held k) (stream_at outside k)) ∙ ap (whole (held k)) (sym there))
      | inr ne ↦
          get_or-set_other all k n changed new_stream ne ∙ are n b
          ∙ ap (whole (held n)) (sym (get_or-set_other outside k n other_changed new_stream ne))
    ]

lines-behind : (held : ℕ → List ℕ) (lines : List Line) (all outside : List Stream) → length all ≡ length outside →
    AreWhole held all outside (length outside) →
    AreWhole held (perform_lines lines all) (perform_lines lines outside) (length outside)
lines-behind held [] all outside count are = are
lines-behind held (line ∷ lines) all outside count are =
    let long = length-set all line.stream (line_performed line.what (stream_at all line.stream)) in
    let other = length-set outside line.stream (line_performed line.what (stream_at outside line.stream)) in
    let one = line-behind held all outside line count are in
    let rest =
    lines-behind held lines (perform_line all line) (perform_line outside line) (long ∙ count ∙ sym other)
    (λ n b. one n (omega (arith, b, other))) in
    λ n b. rest n (omega (arith, b, other))

-- what a reactor tells, if it tells its bytes, is that of a half
pub record Tells (first : Option Outside) (views : List StreamView) (all : List Stream) (lines : List Line)
    : Type 0 where
  pub count : length all ≡ length views
  pub told_count : IfSome first (λ outside. length outside.streams ≡ length views)
  pub bytes : (n : ℕ) → n < length views →
      IfSome first (λ _. stream_at all n ≡ whole_told (stream_in views n).held first n)
  pub to_come : IfSome first (λ outside. outside.lines ≡ lines)

tells-time : (now time : ℕ) (first : Option Outside) (views : List StreamView) (all : List Stream) (lines : List Line) →
    now < time → Tells first views all (lines_after now lines) →
    Tells (option_map (outside_at (point.Time time)) first) views
    (cond (tells first) (perform_lines (lines_at time lines) all) all) (lines_after time lines)
tells-time now time None views all lines later is = record {
  count = is.count;
  told_count = tt;
  bytes = λ n b. tt;
  to_come = tt;
}
tells-time now time (Some outside) views all lines later is =
    let long : length outside.streams ≡ length views = is.told_count in
    let at : lines_at time outside.lines ≡ lines_at time lines =
    ap (lines_at time) is.to_come ∙ lines_at-later now time lines later in
    let held : ℕ → List ℕ = λ n. (stream_in views n).held in
    let before : AreWhole held all outside.streams (length outside.streams) = λ n b.
    is.bytes n (omega (arith, b, long)) in
    let after = lines-behind held (lines_at time lines) all outside.streams (is.count ∙ sym long) before in
    record {
      count = length-perform_lines (lines_at time lines) all ∙ is.count;
      told_count = length-perform_lines (lines_at time outside.lines) outside.streams ∙ long;
      bytes = λ n b.
          after n (omega (arith, b, long))
          ∙ ap (λ ls. whole (held n) (stream_at (perform_lines ls outside.streams) n)) (sym at);
      to_come = ap (lines_after time) is.to_come ∙ lines_after-later now time lines (omega arith);
    }

tells-last : (first : Option Outside) (views : List StreamView) (all : List Stream) (lines : List Line) →
    Tells first views all lines →
    Tells (option_map (outside_at point.Last) first) views (cond (tells first) (streams_at_last all) all) lines
tells-last None views all lines is = record { count = is.count; told_count = tt; bytes = λ n b. tt; to_come = tt }
tells-last (Some outside) views all lines is =
    let long : length outside.streams ≡ length views = is.told_count in
    record {
      count = length-map all marked_last ∙ is.count;
      told_count = length-map outside.streams marked_last ∙ long;
      bytes = λ n b.
          get_or-map marked_last all n new_stream new_stream (omega (arith, b, is.count))
          ∙ ap marked_last (is.bytes n b)
          ∙ ap (whole (stream_in views n).held)
          (sym (get_or-map marked_last outside.streams n new_stream new_stream (omega (arith, b, long))));
      to_come = is.to_come;
    }

module _ {X : Type 0} (told : X → Option Outside) (view : ProactorView X) (reactor : X) (half : ReactorHalf) where
  pub tells-at : IsAt told view half →
      Tells (told view.reactor) view.streams half.streams (lines_after view.tables.time view.script.world.lines)
  tells-at is = record { count = is.count; told_count = is.told_count; bytes = is.bytes; to_come = is.lines }

  at-time : (now : ℕ) → view.tables.time < now →
      told reactor ≡ option_map (outside_at (point.Time now)) (told view.reactor) → IsAt told view half →
      IsAt told (moved (point.Time now) reactor view) (at_time view.script (tells (told view.reactor)) now half)
  at-time now later told_moves is =
      let streams =
      cond (tells (told view.reactor)) (perform_lines (lines_at now view.script.world.lines) half.streams) half.streams in
      let before =
      tells-time view.tables.time now (told view.reactor) view.streams half.streams view.script.world.lines later (tells-at is) in
      let left =
      subst (λ (t : Option Outside). Tells t view.streams streams (lines_after now view.script.world.lines))
      (sym told_moves) before in
      record {
        works =
            ap (λ (h : ReactorHalf). let new : ReactorHalf = record h { now = now; streams = streams } in new) is.works;
        count = left.count;
        told_count = left.told_count;
        bytes = left.bytes;
        lines = left.to_come;
      }

  at-end : told reactor ≡ option_map (outside_at point.Last) (told view.reactor) → IsAt told view half →
      IsAt told (moved point.Last reactor view) (at_last (tells (told view.reactor)) half)
  at-end told_moves is =
      let streams = cond (tells (told view.reactor)) (streams_at_last half.streams) half.streams in
      let before =
      tells-last (told view.reactor) view.streams half.streams (lines_after view.tables.time view.script.world.lines)
      (tells-at is) in
      let left =
      subst
      (λ (t : Option Outside). Tells t view.streams streams (lines_after view.tables.time view.script.world.lines))
      (sym told_moves) before in
      record {
        works =
            ap (λ (h : ReactorHalf). let new : ReactorHalf = record h { last = true; streams = streams } in new) is.works;
        count = left.count;
        told_count = left.told_count;
        bytes = left.bytes;
        lines = left.to_come;
      }

  -- time moved, as it does in the half
  pub at-moved : (to : Point) →
      All (λ wait. view.tables.time < expiry_in view.tables.waiting.expiries wait) view.tables.waiting.waits →
      to ≡ point_ahead view.script view.tables → told reactor ≡ option_map (outside_at to) (told view.reactor) →
      IsAt told view half →
      IsAt told (moved to reactor view) (half_moved view.script (tells (told view.reactor)) to half)
  at-moved (point.Time now) ahead to told_moves is =
      at-time now
      (next_point-later (least_of (expiries_of view.tables)) view.tables.time now
      (map (λ (line : Line). line.time) view.script.world.lines)
      (least-above view.tables.time (expiries_of view.tables) (all-above view.tables ahead)) (sym to)) told_moves is
  at-moved point.Last ahead to told_moves is = at-end told_moves is

-- then what has come is told
pub settled-moved : (script : ScriptModel) (telling : Bool) (to : Point) (half : ReactorHalf) →
    settled telling (half_moved script telling to half) ≡ after_point script telling to half
settled-moved script telling (point.Time now) half = refl
settled-moved script telling point.Last half = refl
