-- Control calls (Asio reference, basic_waitable_timer::expires_at and ::cancel, basic_socket::close,
-- ::cancel and ::shutdown, cancellation_signal::emit, executor_work_guard, io_context::stop). They take
-- effect at once; on a name that is gone they have none.
use Rattle.std.specs.Prelude.{◌≡◌, ◌<◌, ℕ, ◌+◌, ◌-◌, ◌==◌, ◌&&◌, not, Bool, true, false, List, [], Option, Some, None, take, if◌then◌else◌}
use Rattle.io_rules.specs.declared.control.Control.{Control}
use Rattle.io_rules.specs.declared.control.Control.TheVariants as control
use Rattle.io_rules.specs.declared.name.Kind.{Kind}
use Rattle.io_rules.specs.declared.name.Kind.TheVariants as kind
use Rattle.io_rules.specs.declared.name.Name.{Name}
use Rattle.io_rules.specs.declared.op.Phase.TheVariants as phase
use Rattle.io_rules.specs.declared.operation.Side.{Side}
use Rattle.io_rules.specs.declared.place.Life.TheVariants as life
use Rattle.io_rules.specs.declared.place.Place.{Place}
use Rattle.io_rules.specs.Cancelling.{cancelled, pending_of, reached_by, waits_of}
use Rattle.io_rules.specs.Names.{Names, is_alive, is_free, places_of, with_freed, with_life, with_places}
use Rattle.io_rules.specs.Ops.{is_at, is_running, phase_changed_of}
use Rattle.io_rules.specs.Spares.{is_spare, spare_of, without_spare}
use Rattle.io_rules.specs.State.{ContextState, Op, Phase, SlotState, StrandState, StreamState, TimerState, new_slot, new_strand, new_stream, new_timer, stream_at, strand_at, with_slot, with_strand, with_stream, with_timer}

-- it is kept for what a handler makes
abbrev pub has_spare : Kind → Name → Phase → Bool
has_spare kind name (phase.Running own grant spares) = is_spare name (spare_of kind spares)
has_spare kind name _ = false

-- from outside a name that is free, by a handler one that is kept for it
abbrev pub MayMake : ContextState → Kind → Name → Option ℕ → Type 0
MayMake s kind name None = is_free (places_of kind s.names) name ≡ true
MayMake s kind name (Some by) = is_at (has_spare kind name) s.ops by ≡ true

-- of this kind and not gone
abbrev pub is_there : ContextState → Kind → Name → Bool
is_there s kind.Listener name =
    is_alive s.names.streams name && (stream_at s.streams name).listener
is_there s kind.Stream name =
    is_alive s.names.streams name && not (stream_at s.streams name).listener
is_there s kind name = is_alive (places_of kind s.names) name

-- a socket of either kind
abbrev pub is_socket : ContextState → Name → Bool
is_socket s name = is_alive s.names.streams name

-- from outside a name is there; a handler finds out by what its calls do
abbrev pub OnWhatIsThere : Option ℕ → Bool → Type 0
OnWhatIsThere None there = there ≡ true
OnWhatIsThere (Some by) there = Unit {0}

abbrev pub MayChangeTo : ContextState → Option ℕ → Control → Type 0
MayChangeTo s by (control.Make kind name) = MayMake s kind name by
MayChangeTo s by (control.Free kind name) = OnWhatIsThere by (is_there s kind name)
MayChangeTo s by (control.Expires timer at) = OnWhatIsThere by (is_there s kind.Timer timer)
MayChangeTo s by (control.Cancel timer) = OnWhatIsThere by (is_there s kind.Timer timer)
MayChangeTo s by (control.CancelOne timer) = OnWhatIsThere by (is_there s kind.Timer timer)
MayChangeTo s by (control.Emit slot types) = OnWhatIsThere by (is_there s kind.Slot slot)
MayChangeTo s by (control.CancelAll stream) = OnWhatIsThere by (is_socket s stream)
MayChangeTo s by (control.Shutdown stream) = OnWhatIsThere by (is_there s kind.Stream stream)
MayChangeTo s by (control.NoDelay stream on) = OnWhatIsThere by (is_there s kind.Stream stream)
MayChangeTo s by control.Hold = Unit {0}
MayChangeTo s by control.Release = 0 < s.holds
MayChangeTo s by control.Stop = Unit {0}

-- from outside, or by a handler that executes
abbrev pub IsCaller : ContextState → Option ℕ → Type 0
IsCaller s None = Unit {0}
IsCaller s (Some by) = is_at is_running s.ops by ≡ true

pub record MayChange (s : ContextState) (by : Option ℕ) (change : Control) : Type 0 where
  pub going : s.finishing ≡ false
  pub caller : IsCaller s by
  pub allowed : MayChangeTo s by change

abbrev pub spare_used : Kind → Phase → Phase
spare_used kind (phase.Running own grant spares) =
    phase.Running own grant (without_spare kind spares)
spare_used kind other = other

-- the operations that a change cancels, in order of acceptance
abbrev pub reached : ContextState → Control → List ℕ
reached s (control.Free kind.Timer timer) = if is_there s kind.Timer timer then waits_of timer s else []
reached s (control.Free kind.Stream name) =
    if is_there s kind.Stream name then pending_of name s else []
reached s (control.Free kind.Listener name) =
    if is_there s kind.Listener name then pending_of name s else []
reached s (control.Expires timer at) = if is_there s kind.Timer timer then waits_of timer s else []
reached s (control.Cancel timer) = if is_there s kind.Timer timer then waits_of timer s else []
reached s (control.CancelOne timer) =
    if is_there s kind.Timer timer then take 1 (waits_of timer s) else []
reached s (control.Emit slot types) =
    if is_there s kind.Slot slot then reached_by slot types s else []
reached s (control.CancelAll stream) = if is_socket s stream then pending_of stream s else []
reached s _ = []

abbrev pub ops_changed : Option ℕ → Control → List Op → List Op
ops_changed by (control.Make kind name) ops =
    phase_changed_of by (λ op. spare_used kind op.phase) ops
ops_changed by _ ops = ops

-- a strand with operations, and a stream whose socket is in a system call, keep their places
abbrev pub place_freed : Bool → Bool → Name → List Place → List Place
place_freed false kept name places = places
place_freed true true name places = with_life life.Closing name places
place_freed true false name places = with_freed name places

abbrev pub is_out : Option Side → Bool
is_out None = false
is_out (Some side) = true

abbrev pub is_tied : ContextState → Name → Bool
is_tied s strand = not ((strand_at s.strands strand).tied == 0)

-- whether what is freed keeps its place for now
abbrev pub is_kept : ContextState → Kind → Name → Bool
is_kept s kind.Strand name = is_tied s name
is_kept s kind.Timer name = false
is_kept s kind.Slot name = false
is_kept s kind.Stream name = is_out (stream_at s.streams name).out
is_kept s kind.Listener name = is_out (stream_at s.streams name).out

abbrev pub names_changed : ContextState → Control → Names
names_changed s (control.Make kind name) =
    with_places kind (with_life life.Alive name (places_of kind s.names)) s.names
names_changed s (control.Free kind name) =
    with_places kind
    (place_freed (is_there s kind name) (is_kept s kind name) name (places_of kind s.names)) s.names
names_changed s _ = s.names

-- it is freed, and its place too
abbrev pub is_forgotten : ContextState → Kind → Name → Bool
is_forgotten s kind name = is_there s kind name && not (is_kept s kind name)

abbrev pub strands_changed : ContextState → Control → List StrandState
strands_changed s (control.Free kind.Strand name) =
    if is_forgotten s kind.Strand name then with_strand name new_strand s.strands else s.strands
strands_changed s _ = s.strands

abbrev pub timers_changed : ContextState → Control → List TimerState
timers_changed s (control.Free kind.Timer name) =
    if is_there s kind.Timer name then with_timer name new_timer s.timers else s.timers
timers_changed s (control.Expires timer at) =
    if is_there s kind.Timer timer then with_timer timer (record { expiry = at }) s.timers
    else s.timers
timers_changed s _ = s.timers

abbrev pub slots_changed : ContextState → Control → List SlotState
slots_changed s (control.Free kind.Slot name) =
    if is_there s kind.Slot name then with_slot name new_slot s.slots else s.slots
slots_changed s _ = s.slots

abbrev pub streams_changed : ContextState → Control → List StreamState
streams_changed s (control.Make kind.Stream name) = with_stream name new_stream s.streams
streams_changed s (control.Make kind.Listener name) =
    with_stream name (record new_stream { listener = true }) s.streams
streams_changed s (control.Free kind.Stream name) =
    if is_forgotten s kind.Stream name then with_stream name new_stream s.streams else s.streams
streams_changed s (control.Free kind.Listener name) =
    if is_forgotten s kind.Listener name then with_stream name new_stream s.streams else s.streams
streams_changed s _ = s.streams

abbrev pub holds_changed : ContextState → Control → ℕ
holds_changed s control.Hold = s.holds + 1
holds_changed s control.Release = s.holds - 1
holds_changed s _ = s.holds

abbrev pub stopped_changed : ContextState → Control → Bool
stopped_changed s control.Stop = true
stopped_changed s _ = s.stopped

-- what it reaches is cancelled, and then it is done
abbrev pub after_change : Option ℕ → Control → ContextState → ContextState
after_change by change s =
    record (cancelled (reached s change) s) {
      ops = ops_changed by change (cancelled (reached s change) s).ops;
      stopped = stopped_changed s change;
      holds = holds_changed s change;
      names = names_changed s change;
      strands = strands_changed s change;
      timers = timers_changed s change;
      slots = slots_changed s change;
      streams = streams_changed s change;
    }
