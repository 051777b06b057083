-- A system call has returned: what its event makes of the operation that it was for.
use Rattle.std.proofs.Common.{ap, refl, sym, ◌∙◌}
use Rattle.std.proofs.lemmas.Bool.{true≢false}
use Rattle.std.proofs.lemmas.List.{append-nil}
use Rattle.std.specs.Prelude.{◌≡◌, ℕ, ◌+◌, ◌&&◌, ◌||◌, nat_le, Bool, true, false, List, [], ◌∷◌, ◌++◌, Option, Some, None, if◌then◌else◌}
use Rattle.asio_types.specs.declared.code.Code.TheVariants as code
use Rattle.io_rules.specs.declared.event.Event.TheVariants as event
use Rattle.io_rules.specs.declared.gave.Gave.{Gave}
use Rattle.io_rules.specs.declared.gave.Gave.TheVariants as gave
use Rattle.io_rules.specs.declared.name.Name.{Name}
use Rattle.io_rules.specs.declared.op.Op.{Op}
use Rattle.io_rules.specs.declared.op.Phase.{Phase}
use Rattle.io_rules.specs.declared.op.Phase.TheVariants as phase
use Rattle.io_rules.specs.declared.operation.Operation.{Operation}
use Rattle.io_rules.specs.declared.operation.Operation.TheVariants as operation
use Rattle.io_rules.specs.declared.operation.Side.{Side}
use Rattle.io_rules.specs.declared.operation.Side.TheVariants as side
use Rattle.io_rules.specs.declared.place.Life.{Life}
use Rattle.io_rules.specs.declared.place.Life.TheVariants as life
use Rattle.io_rules.specs.declared.place.Place.{Place}
use Rattle.io_rules.specs.Cancelling.{is_out_for}
use Rattle.io_rules.specs.Legal.{MayHappen, after}
use Rattle.io_rules.specs.Names.{is_alive, is_closing, is_current, is_leaving, is_living, place_at}
use Rattle.io_rules.specs.Ops.{is_pending, is_settled, op_at, phase_changed, phase_changed_of, with_phase}
use Rattle.io_rules.specs.Serving.{first_of, op_of}
use Rattle.io_rules.specs.State.{ContextState, StreamState, stream_at, with_stream}
use Rattle.io_rules.specs.Tries.{fits, fits_head, goes_on, head_of, moved_all, moved_by, phase_back, phase_given, place_closed, place_made, settled_back, stream_back, stream_closed, stream_made}
use Rattle.io_rules.proofs.StrandLemmas.{both, by_test}
use Rattle.io_rules.proofs.TotalLemmas.{number-op_at}
use Rattle.io_scheduler.specs.declared.returning.Came.TheVariants as came
use Rattle.io_scheduler.specs.declared.settling.Gets.{Gets}
use Rattle.io_scheduler.specs.Returned.{came_all, came_of, came_on, fits_back, head_fits, is_held, may_return, phase_of}
use Rattle.io_scheduler.specs.Settling.{with_settled}
use Rattle.io_scheduler.specs.Vacated.{without_stream}
use Rattle.io_scheduler.proofs.PlacedLemmas.{with_placed}
use Rattle.io_scheduler.proofs.ServingLemmas.{phase-at}

-- ---- how far it brings its operation

on_is : (moved : ℕ) (cancelled : Bool) → goes_on moved cancelled ≡ phase_of (came_on moved cancelled)
on_is moved true = refl
on_is moved false = refl

all_is : (size moved : ℕ) (cancelled : Bool) → moved_all size moved cancelled ≡ phase_of (came_all size moved cancelled)
all_is size moved cancelled = by_all (nat_le size moved)
  where
    by_all : (b : Bool) → (if b then phase.Settled code.Ok size else goes_on moved cancelled)
        ≡ phase_of (if b then came.Settles (record { code = code.Ok; size = size }) else came_on moved cancelled)
    by_all true = refl
    by_all false = on_is moved cancelled

pub given_is : (stream : StreamState) (kind : Operation) (given : Gave) (moved : ℕ) (cancelled : Bool) →
    fits_back kind moved given ≡ true →
    phase_given stream kind given moved cancelled ≡ phase_of (came_of kind given moved cancelled)
given_is stream kind gave.WouldBlock moved cancelled fit = on_is moved cancelled
given_is stream operation.Post (gave.Moved size) moved cancelled fit = refl
given_is stream operation.Defer (gave.Moved size) moved cancelled fit = refl
given_is stream operation.Dispatch (gave.Moved size) moved cancelled fit = refl
given_is stream (operation.Wait timer) (gave.Moved size) moved cancelled fit = refl
given_is stream (operation.ReadSome name most) (gave.Moved size) moved cancelled fit = refl
given_is stream (operation.ReadAll name most) (gave.Moved size) moved cancelled fit = all_is most (moved + size) cancelled
given_is stream (operation.ReadUntil name most) (gave.Moved size) moved cancelled fit = refl
given_is stream (operation.WriteSome name most) (gave.Moved size) moved cancelled fit = refl
given_is stream (operation.WriteAll name most) (gave.Moved size) moved cancelled fit = all_is most (moved + size) cancelled
given_is stream (operation.Accept listener) (gave.Moved size) moved cancelled fit = refl
given_is stream (operation.Connect name) (gave.Moved size) moved cancelled fit = refl
given_is stream kind (gave.Found more end) moved cancelled fit = absurd (true≢false (sym fit))
given_is stream kind (gave.Failed given) moved cancelled fit = refl
given_is stream kind gave.Made moved cancelled fit = refl
given_is stream kind gave.Linked moved cancelled fit = absurd (true≢false (sym fit))

-- so it may give this by the rules, too
fits_more : (limit : ℕ) (stream : StreamState) (op : Op) (given : Gave) → fits_back op.kind (moved_by op.phase) given ≡ true →
    fits limit stream op given ≡ true
fits_more limit stream op gave.WouldBlock fit = refl
fits_more limit stream op (gave.Moved size) fit = fit
fits_more limit stream op (gave.Found more end) fit = absurd (true≢false (sym fit))
fits_more limit stream op (gave.Failed given) fit = fit
fits_more limit stream op gave.Made fit = fit
fits_more limit stream op gave.Linked fit = absurd (true≢false (sym fit))

head_may : (limit : ℕ) (stream : StreamState) (head : Option Op) (given : Gave) → head_fits head given ≡ true →
    fits_head limit stream head given ≡ true
head_may limit stream None given fit = fit
head_may limit stream (Some op) given fit =
    let parts = both (is_pending op.phase) (fits_back op.kind (moved_by op.phase) given) fit in
    ap (λ b. b && fits limit stream op given) parts.one ∙ fits_more limit stream op given parts.other

pub out_is : (sd : Side) (out : Option Side) → is_out_for sd out ≡ true → out ≡ Some sd
out_is sd None is = absurd (true≢false (sym is))
out_is side.Read (Some side.Read) is = refl
out_is side.Read (Some side.Write) is = absurd (true≢false (sym is))
out_is side.Read (Some side.Connect) is = absurd (true≢false (sym is))
out_is side.Write (Some side.Read) is = absurd (true≢false (sym is))
out_is side.Write (Some side.Write) is = refl
out_is side.Write (Some side.Connect) is = absurd (true≢false (sym is))
out_is side.Connect (Some side.Read) is = absurd (true≢false (sym is))
out_is side.Connect (Some side.Write) is = absurd (true≢false (sym is))
out_is side.Connect (Some side.Connect) is = refl

pub back_may : (s : ContextState) (name : Name) (sd : Side) (given : Gave) → s.finishing ≡ false →
    may_return s name sd given ≡ true → MayHappen s (event.Back name sd given)
back_may s name sd given going may =
    let held = both (is_held s.names.streams name) _ may in
    let rest = both (is_out_for sd (stream_at s.streams name).out) (head_fits (head_of s name sd) given) held.other in
    record {
      going = going;
      named = held_current s.names.streams name held.one;
      out = out_is sd (stream_at s.streams name).out rest.one;
      fit = head_may s.limits.held (stream_at s.streams name) (head_of s name sd) given rest.other;
    }
  where
    held_current : (places : List Place) (name : Name) → is_held places name ≡ true → is_current places name ≡ true
    held_current places name held =
        by_test (is_alive places name)
        (λ alive. (both (is_current places name) (is_living (place_at places name.place).life) alive).one)
        (λ gone.
        (both (is_current places name) (is_closing (place_at places name.place).life)
        (sym (ap (λ b. b || is_leaving places name) gone) ∙ held)).one)

-- ---- the state behind it

-- its socket is in again, and what it made is there
abbrev pub back_to : Name → Gave → ContextState → ContextState
back_to name given s =
    let stream = stream_at s.streams name in
    with_placed (place_made given stream.reserved s.names.streams)
    (stream_made given stream.reserved (with_stream name (stream_back given stream) s.streams)) s

abbrev back_by : ContextState → List Op → List ℕ → ContextState
back_by v ops more = record v { ops = ops; settled = v.settled ++ more }

living_open : (l : Life) → is_living l ≡ true → is_closing l ≡ false
living_open life.Free is = refl
living_open (life.Kept op) is = refl
living_open life.Alive is = refl
living_open life.Closing is = absurd (true≢false (sym is))
living_open life.Spent is = refl

pub not_leaving : (places : List Place) (name : Name) → is_alive places name ≡ true → is_leaving places name ≡ false
not_leaving places name alive =
    let parts = both (is_current places name) (is_living (place_at places name.place).life) alive in
    ap (λ b. is_current places name && b) (living_open (place_at places name.place).life parts.other)
    ∙ ap (λ b. b && false) parts.one

-- where it was closed meanwhile, its stream is gone
abbrev pub left_if : Bool → Name → ContextState → ContextState
left_if false name s = s
left_if true name s = without_stream name s

abbrev closed_by : Bool → Name → Side → Gave → ContextState → ContextState
closed_by closed name sd given s =
    let stream = stream_at s.streams name in
    record s {
      ops = phase_changed_of (first_of sd stream) (λ op. phase_back stream given op.kind op.phase) s.ops;
      settled = s.settled ++ settled_back stream given (head_of s name sd);
      names = record s.names {
        streams = place_closed closed name (place_made given stream.reserved s.names.streams);
      };
      streams = stream_closed closed name
          (stream_made given stream.reserved (with_stream name (stream_back given stream) s.streams));
    }

closed_is : (closed : Bool) (name : Name) (sd : Side) (given : Gave) (s : ContextState) →
    closed_by closed name sd given s
    ≡ back_by (left_if closed name (back_to name given s))
    (phase_changed_of (first_of sd (stream_at s.streams name))
    (λ op. phase_back (stream_at s.streams name) given op.kind op.phase) s.ops)
    (settled_back (stream_at s.streams name) given (head_of s name sd))
closed_is true name sd given s = refl
closed_is false name sd given s = refl

left_ops : (closed : Bool) (name : Name) (given : Gave) (s : ContextState) →
    (left_if closed name (back_to name given s)).ops ≡ s.ops
left_ops true name given s = refl
left_ops false name given s = refl

module _ (s : ContextState) (name : Name) (sd : Side) (given : Gave) (closed : Bool)
    (is_closed : is_leaving s.names.streams name ≡ closed)
    (it : Op) (n : ℕ) (first : first_of sd (stream_at s.streams name) ≡ Some n) (is : op_at s.ops n ≡ Some it)
    (moved : ℕ) (cancelled : Bool) (pending : it.phase ≡ phase.Pending moved cancelled)
    (fit : fits_back it.kind moved given ≡ true) where
  abbrev to : ContextState
  to = left_if closed name (back_to name given s)

  phase_is : phase_back (stream_at s.streams name) given it.kind it.phase ≡ phase_of (came_of it.kind given moved cancelled)
  phase_is =
      ap (phase_back (stream_at s.streams name) given it.kind) pending
      ∙ given_is (stream_at s.streams name) it.kind given moved cancelled fit

  back_is : after (event.Back name sd given) s
      ≡ back_by to (with_phase n (phase_of (came_of it.kind given moved cancelled)) s.ops)
      (if is_settled (phase_of (came_of it.kind given moved cancelled)) then n ∷ [] else [])
  back_is =
      let stream = stream_at s.streams name in
      let f : Op → Phase = λ op. phase_back stream given op.kind op.phase in
      ap (λ c. closed_by c name sd given s) is_closed
      ∙ closed_is closed name sd given s
      ∙ ap (λ o. back_by to (phase_changed_of o f s.ops) (settled_back stream given (op_of s.ops o))) first
      ∙ ap (λ o. back_by to (phase_changed n f s.ops) (settled_back stream given o)) is
      ∙ ap (λ ops. back_by to ops (settled_back stream given (Some it))) (phase-at n f s.ops it is)
      ∙ ap (λ (p : Phase). back_by to (with_phase n p s.ops)
      (if is_pending it.phase && is_settled p then it.number ∷ [] else [])) phase_is
      ∙ ap (λ (p : Phase). back_by to (with_phase n (phase_of (came_of it.kind given moved cancelled)) s.ops)
      (if is_pending p && is_settled (phase_of (came_of it.kind given moved cancelled)) then it.number ∷ [] else [])) pending
      ∙ ap (λ k. back_by to (with_phase n (phase_of (came_of it.kind given moved cancelled)) s.ops)
      (if is_settled (phase_of (came_of it.kind given moved cancelled)) then k ∷ [] else [])) (number-op_at n s.ops it is)

  -- it settles
  pub back_settles : (gets : Gets) → came_of it.kind given moved cancelled ≡ came.Settles gets →
      after (event.Back name sd given) s ≡ with_settled n gets.code gets.size (left_if closed name (back_to name given s))
  back_settles gets settles =
      back_is
      ∙ ap (λ c. back_by to (with_phase n (phase_of c) s.ops) (if is_settled (phase_of c) then n ∷ [] else [])) settles
      ∙ ap (λ ops. back_by to (with_phase n (phase.Settled gets.code gets.size) ops) (n ∷ [])) (sym (left_ops closed name given s))

  -- or it goes on
  pub back_goes_on : (more : ℕ) → came_of it.kind given moved cancelled ≡ came.On more →
      after (event.Back name sd given) s
      ≡ record (left_if closed name (back_to name given s)) { ops = with_phase n (phase.Pending more false) s.ops }
  back_goes_on more on =
      back_is
      ∙ ap (λ c. back_by to (with_phase n (phase_of c) s.ops) (if is_settled (phase_of c) then n ∷ [] else [])) on
      ∙ ap (λ l. record to { ops = with_phase n (phase.Pending more false) s.ops; settled = l }) (append-nil to.settled)
