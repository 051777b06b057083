-- What a reactor's state is once its schedule has moved.
use Rattle.std.proofs.Common.{◌≡◌, ℕ, ◌<◌, Bool, true, Option, List, ap, sym}
use Rattle.std.specs.Option.{ForSome}
use Rattle.asio_types.specs.declared.outside.Point.{Point}
use Rattle.asio_types.specs.declared.outside.Point.TheVariants as point
use Rattle.stream_rules.specs.World.{next_point, times_after}
use Rattle.stream_rules.proofs.WorldLemmas.{times_after-moved}
use Rattle.reactor_trait.specs.Reactor.{ReactorState, state_at, state_over}
use Rattle.stream_rules.specs.Timetable.{Timetable, time_at}

pub state_at-moved : (up last : Bool) (closed : List Bool) (limit : Option ℕ) (time : ℕ) (old new : Timetable)
    (to : Point) → ForSome limit (λ t. old.time < t) → to ≡ point.Time time →
    to ≡ next_point limit (times_after old.time old.lines) → new.time ≡ time_at to old.time → new.lines ≡ old.lines →
    state_over up closed last new ≡ state_at to (state_over up closed last old)
state_at-moved up last closed limit time old new (point.Time t) h is answer moved same =
    rw (moved, same) (ap (λ (ts : List ℕ).
    let s : ReactorState = record { up = up; now = t; times = ts; closed = closed; last = last } in s)
    (times_after-moved limit old.time t old.lines h (sym answer)))
state_at-moved up last closed limit time old new point.Last h is answer moved same = cc

pub state_at-last : (up last : Bool) (closed : List Bool) (old new : Timetable) (to : Point) → to ≡ point.Last →
    new.time ≡ time_at to old.time → new.lines ≡ old.lines →
    state_over up closed true new ≡ state_at to (state_over up closed last old)
state_at-last up last closed old new (point.Time t) is moved same = cc
state_at-last up last closed old new point.Last is moved same = rw (moved, same)
