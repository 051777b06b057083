-- A system call has returned, and its socket is back (Asio reference, Overview, "The Proactor Design
-- Pattern"): what it gave counts before a cancellation that came meanwhile.
use Rattle.std.specs.Prelude.{◌≡◌, ◌+◌, ◌&&◌, ◌||◌, ◌∷◌, ℕ, nat_le, Bool, true, false, List, Option, Some, None, if◌then◌else◌}
use Rattle.asio_types.specs.declared.code.Code.{Code}
use Rattle.asio_types.specs.declared.code.Code.TheVariants as code
use Rattle.io_rules.specs.declared.event.Event.TheVariants as event
use Rattle.io_rules.specs.declared.gave.Gave.{Gave}
use Rattle.io_rules.specs.declared.gave.Gave.TheVariants as gave
use Rattle.io_rules.specs.declared.name.Name.{Name}
use Rattle.io_rules.specs.declared.op.Op.{Op}
use Rattle.io_rules.specs.declared.op.Phase.{Phase}
use Rattle.io_rules.specs.declared.op.Phase.TheVariants as phase
use Rattle.io_rules.specs.declared.operation.Operation.{Operation}
use Rattle.io_rules.specs.declared.operation.Operation.TheVariants as operation
use Rattle.io_rules.specs.declared.operation.Side.{Side}
use Rattle.io_rules.specs.declared.place.Place.{Place}
use Rattle.io_rules.specs.Cancelling.{is_out_for}
use Rattle.io_rules.specs.Names.{is_alive, is_leaving}
use Rattle.io_rules.specs.Operations.{is_accept}
use Rattle.io_rules.specs.Ops.{is_pending}
use Rattle.io_rules.specs.State.{ContextState, stream_at}
use Rattle.io_rules.specs.Tries.{fits_error, fits_size, head_of, moved_by}
use Rattle.io_scheduler.specs.Come.{MayCome, behind}
use Rattle.io_scheduler.specs.Settling.{Ends, all_done}
use Rattle.io_scheduler.specs.declared.returning.Came.{Came}
use Rattle.io_scheduler.specs.declared.returning.Came.TheVariants as came

abbrev pub settles_with : Code → ℕ → Came
settles_with given size = came.Settles (record { code = given; size = size })

-- it goes on, unless it was cancelled
abbrev pub came_on : ℕ → Bool → Came
came_on moved false = came.On moved
came_on moved true = settles_with code.Aborted moved

-- it has all that it asked for, or goes on
abbrev pub came_all : ℕ → ℕ → Bool → Came
came_all size moved cancelled =
    if nat_le size moved then settles_with code.Ok size else came_on moved cancelled

abbrev pub came_moved : Operation → ℕ → ℕ → Bool → Came
came_moved (operation.ReadAll stream size) moved more cancelled = came_all size (moved + more) cancelled
came_moved (operation.WriteAll stream size) moved more cancelled = came_all size (moved + more) cancelled
came_moved kind moved more cancelled = settles_with code.Ok more

-- how far what a system call gave brings its operation
abbrev pub came_of : Operation → Gave → ℕ → Bool → Came
came_of kind gave.WouldBlock moved cancelled = came_on moved cancelled
came_of kind (gave.Moved size) moved cancelled = came_moved kind moved size cancelled
came_of kind (gave.Failed given) moved cancelled = settles_with given moved
came_of kind gave.Made moved cancelled = settles_with code.Ok 0
came_of kind gave.Linked moved cancelled = settles_with code.Ok 0
came_of kind (gave.Found more end) moved cancelled = came_on moved cancelled

abbrev pub phase_of : Came → Phase
phase_of (came.On moved) = phase.Pending moved false
phase_of (came.Settles gets) = phase.Settled gets.code gets.size

-- a system call for such an operation may give this; none is for a delimiter or a connection yet
abbrev pub fits_back : Operation → ℕ → Gave → Bool
fits_back kind moved gave.WouldBlock = true
fits_back kind moved (gave.Moved size) = fits_size kind moved size
fits_back kind moved (gave.Failed given) = fits_error kind given
fits_back kind moved gave.Made = is_accept kind
fits_back kind moved given = false

abbrev pub head_fits : Option Op → Gave → Bool
head_fits None given = false
head_fits (Some op) given = is_pending op.phase && fits_back op.kind (moved_by op.phase) given

-- it is there, or was closed while its socket was out
abbrev pub is_held : List Place → Name → Bool
is_held places name = is_alive places name || is_leaving places name

-- the socket is out for this side of a stream, and its call may give this
abbrev pub may_return : ContextState → Name → Side → Gave → Bool
may_return s name side given =
    is_held s.names.streams name && (is_out_for side (stream_at s.streams name).out && head_fits (head_of s name side) given)

-- it has returned, and what that settles completes, with those behind it that need no system call
pub record HasReturned (name : Name) (side : Side) (given : Gave) (old new : ContextState) : Type 0 where
  pub ends : List Ends
  pub may : MayCome (event.Back name side given ∷ all_done ends) old
  pub is : new ≡ behind (event.Back name side given ∷ all_done ends) old
