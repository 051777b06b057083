-- In each legal history what is pending on a stream names what is there now; and where that was closed meanwhile,
-- it is the operation whose system call is under way, and is cancelled.
use Rattle.std.proofs.Common.{ap, refl, sym, ◌∙◌}
use Rattle.std.proofs.lemmas.Bool.{true≢false}
use Rattle.std.proofs.lemmas.List.{get_or-set_other}
use Rattle.std.specs.Prelude.{◌≡◌, ℕ, ◌&&◌, not, Bool, true, false, List, [], ◌∷◌, Option, Some, None, if◌then◌else◌}
use Rattle.std.specs.List.{slice_index_or}
use Rattle.io_rules.specs.declared.control.Control.{Control}
use Rattle.io_rules.specs.declared.control.Control.TheVariants as control
use Rattle.io_rules.specs.declared.event.Event.{Event}
use Rattle.io_rules.specs.declared.event.Event.TheVariants as event
use Rattle.io_rules.specs.declared.gave.Gave.{Gave}
use Rattle.io_rules.specs.declared.limits.Limits.{Limits}
use Rattle.io_rules.specs.declared.name.Kind.{Kind}
use Rattle.io_rules.specs.declared.name.Kind.TheVariants as kind
use Rattle.io_rules.specs.declared.name.Name.{Name}
use Rattle.io_rules.specs.declared.op.Op.{Op}
use Rattle.io_rules.specs.declared.op.Phase.{Phase}
use Rattle.io_rules.specs.declared.op.Phase.TheVariants as phase
use Rattle.io_rules.specs.declared.operation.Side.{Side}
use Rattle.io_rules.specs.declared.operation.Side.TheVariants as side
use Rattle.io_rules.specs.declared.place.Life.TheVariants as life
use Rattle.io_rules.specs.declared.place.Place.{Place}
use Rattle.io_rules.specs.Cancelling.{is_out_for, ops_cancelled}
use Rattle.io_rules.specs.Changes.{MayChangeTo, is_kept, is_there, names_changed, ops_changed, reached, spare_used, streams_changed}
use Rattle.io_rules.specs.Executions.{granted_more, spares_of}
use Rattle.io_rules.specs.Legal.{IsLegal, after, state_of}
use Rattle.io_rules.specs.Names.{freed, is_alive, is_closing, is_current, is_leaving, place_at, with_freed, with_life}
use Rattle.io_rules.specs.Operations.{Target, target_of}
use Rattle.io_rules.specs.Ops.{is_pending, is_untouched, op_at, phase_changed_of, without}
use Rattle.io_rules.specs.Room.{at_op, grant_of, granted_in, more_granted}
use Rattle.io_rules.specs.Serving.{first_of}
use Rattle.io_rules.specs.State.{ContextState, StreamState, new_stream, stream_at, with_stream}
use Rattle.io_rules.specs.Tries.{is_made, phase_back, phase_found, place_closed, place_kept, place_made, stream_back, stream_closed, stream_made}
use Rattle.io_rules.proofs.RiseLemmas.{ops_rise}
use Rattle.io_rules.proofs.StrandLemmas.{both}
use Rattle.io_scheduler.proofs.CurrentLemmas.{ComesFrom, back_ends, back_keeps, came_behind, came_cancelled, came_changed, came_changed_of, came_itself, const_keeps, found_keeps, granted_keeps, the_changed, used_keeps}
use Rattle.io_scheduler.proofs.ReservedLemmas.{is_stream_kind}
use Rattle.io_scheduler.proofs.UnusedLemmas.{IsUnusedAt, kept_place, may_make, reserved_kept}
use Rattle.io_scheduler.proofs.KnownStillLemmas.{AreKnown, SameClosing, SamePlaces, closing_used, known_done, known_one, known_still, place_other, same_itself, same_life, stream_other}
use Rattle.io_scheduler.proofs.KnownCalledLemmas.{alive_not, came_without, known_called, known_freed, some_is}

-- ---- control calls

came_control : (by : Option ℕ) (change : Control) (ops : List Op) → ComesFrom ops (ops_changed by change ops)
came_control by (control.Make of name) ops = came_changed_of by (λ op. spare_used of op.phase) (used_keeps of) ops
came_control by (control.Free of name) ops = came_itself ops
came_control by (control.Expires timer at) ops = came_itself ops
came_control by (control.Cancel timer) ops = came_itself ops
came_control by (control.CancelOne timer) ops = came_itself ops
came_control by (control.Emit slot types) ops = came_itself ops
came_control by (control.CancelAll stream) ops = came_itself ops
came_control by (control.Shutdown stream) ops = came_itself ops
came_control by (control.NoDelay stream on) ops = came_itself ops
came_control by control.Hold ops = came_itself ops
came_control by control.Release ops = came_itself ops
came_control by control.Stop ops = came_itself ops

unused_not : (places : List Place) (k : ℕ) → IsUnusedAt places k → is_closing (place_at places k).life ≡ true → ⊥
unused_not places k unused closing = true≢false (sym (closing_used (place_at places k).life closing) ∙ unused)

socket_alive : (s : ContextState) (of : Kind) (name : Name) → is_stream_kind of ≡ true → is_there s of name ≡ true →
    is_alive s.names.streams name ≡ true
socket_alive s kind.Stream name stream is = (both _ (not (stream_at s.streams name).listener) is).one
socket_alive s kind.Listener name stream is = (both _ (stream_at s.streams name).listener is).one
socket_alive s kind.Strand name stream is = absurd (true≢false (sym stream))
socket_alive s kind.Timer name stream is = absurd (true≢false (sym stream))
socket_alive s kind.Slot name stream is = absurd (true≢false (sym stream))

module _ (limits : Limits) (past : List Event) (legal : IsLegal limits past)
    (all : AreKnown (state_of limits past).ops (state_of limits past).names.streams (state_of limits past).streams) where
  -- one that leaves the places and the streams
  known_quiet : (by : Option ℕ) (change : Control) →
      AreKnown (after (event.Changed by change) (state_of limits past)).ops (state_of limits past).names.streams
      (state_of limits past).streams
  known_quiet by change =
      let s = state_of limits past in
      let numbers = reached s change in
      let mid = ops_cancelled s numbers s.ops in
      known_still s.ops (ops_changed by change mid) s.names.streams s.names.streams s.streams s.streams all
      (came_behind s.ops mid (ops_changed by change mid) (came_cancelled s numbers s.ops) (came_control by change mid))
      (same_itself s.names.streams) (λ p closing. refl)

  known_made : (by : Option ℕ) (of : Kind) (name : Name) (new : StreamState) → IsUnusedAt (state_of limits past).names.streams name.place →
      reached (state_of limits past) (control.Make of name) ≡ [] →
      AreKnown (ops_changed by (control.Make of name) (ops_cancelled (state_of limits past) (reached (state_of limits past) (control.Make of name)) (state_of limits past).ops))
      (with_life life.Alive name (state_of limits past).names.streams) (with_stream name new (state_of limits past).streams)
  known_made by of name new unused none =
      let s = state_of limits past in
      let numbers = reached s (control.Make of name) in
      let mid = ops_cancelled s numbers s.ops in
      known_still s.ops (ops_changed by (control.Make of name) mid) s.names.streams
      (with_life life.Alive name s.names.streams) s.streams (with_stream name new s.streams) all
      (came_behind s.ops mid (ops_changed by (control.Make of name) mid) (came_cancelled s numbers s.ops)
      (came_control by (control.Make of name) mid))
      (same_life life.Alive s.names.streams (Some name) refl)
      (λ p closing. stream_other s.names.streams s.streams name.place new p (unused_not s.names.streams name.place unused) closing)

  known_changed : (by : Option ℕ) (change : Control) → MayChangeTo (state_of limits past) by change →
      AreKnown (after (event.Changed by change) (state_of limits past)).ops
      (names_changed (state_of limits past) change).streams (streams_changed (state_of limits past) change)
  known_changed by (control.Make kind.Stream name) may =
      known_made by kind.Stream name new_stream (may_make limits past legal kind.Stream name by refl may).unused refl
  known_changed by (control.Make kind.Listener name) may =
      known_made by kind.Listener name (record new_stream { listener = true })
      (may_make limits past legal kind.Listener name by refl may).unused refl
  known_changed by (control.Free kind.Stream name) may =
      let s = state_of limits past in
      known_freed s name (is_there s kind.Stream name) (is_kept s kind.Stream name)
      (λ is. socket_alive s kind.Stream name refl is) refl all
  known_changed by (control.Free kind.Listener name) may =
      let s = state_of limits past in
      known_freed s name (is_there s kind.Listener name) (is_kept s kind.Listener name)
      (λ is. socket_alive s kind.Listener name refl is) refl all
  known_changed by (control.Make kind.Strand name) may = known_quiet by (control.Make kind.Strand name)
  known_changed by (control.Make kind.Timer name) may = known_quiet by (control.Make kind.Timer name)
  known_changed by (control.Make kind.Slot name) may = known_quiet by (control.Make kind.Slot name)
  known_changed by (control.Free kind.Strand name) may = known_quiet by (control.Free kind.Strand name)
  known_changed by (control.Free kind.Timer name) may = known_quiet by (control.Free kind.Timer name)
  known_changed by (control.Free kind.Slot name) may = known_quiet by (control.Free kind.Slot name)
  known_changed by (control.Expires timer at) may = known_quiet by (control.Expires timer at)
  known_changed by (control.Cancel timer) may = known_quiet by (control.Cancel timer)
  known_changed by (control.CancelOne timer) may = known_quiet by (control.CancelOne timer)
  known_changed by (control.Emit slot types) may = known_quiet by (control.Emit slot types)
  known_changed by (control.CancelAll stream) may = known_quiet by (control.CancelAll stream)
  known_changed by (control.Shutdown stream) may = known_quiet by (control.Shutdown stream)
  known_changed by (control.NoDelay stream on) may = known_quiet by (control.NoDelay stream on)
  known_changed by control.Hold may = known_quiet by control.Hold
  known_changed by control.Release may = known_quiet by control.Release
  known_changed by control.Stop may = known_quiet by control.Stop

  -- ---- sockets come back

  made_same : (given : Gave) → is_closing (if is_made given then life.Alive else life.Free) ≡ false
  made_same given = by_made (is_made given)
    where
      by_made : (b : Bool) → is_closing (if b then life.Alive else life.Free) ≡ false
      by_made true = refl
      by_made false = refl

  linked_same : (given : Gave) (reserved : Option Name) (streams : List StreamState) →
      ((r : Name) → reserved ≡ Some r → IsUnusedAt (state_of limits past).names.streams r.place) →
      SameClosing (state_of limits past).names.streams streams (stream_made given reserved streams)
  linked_same given None streams unused p closing = refl
  linked_same given (Some r) streams unused p closing = by_made (is_made given)
    where
      by_made : (b : Bool) →
          slice_index_or (if b then with_stream r (record new_stream { linked = true }) streams else streams) p new_stream
          ≡ slice_index_or streams p new_stream
      by_made false = refl
      by_made true =
          stream_other (state_of limits past).names.streams streams r.place _ p
          (unused_not (state_of limits past).names.streams r.place (unused r refl)) closing

  -- its operation isn't pending any more where the stream was closed meanwhile
  back_apart : (name : Name) (on : Side) (given : Gave) (n : ℕ) (it : Op) (target : Target) →
      (stream_at (state_of limits past).streams name).out ≡ Some on →
      is_leaving (state_of limits past).names.streams name ≡ true →
      op_at (after (event.Back name on given) (state_of limits past)).ops n ≡ Some it → is_pending it.phase ≡ true →
      target_of it.kind ≡ Some target → name.place ≡ target.stream.place → ⊥
  back_apart name on given n it target out leaves is pends at_it at =
      let s = state_of limits past in
      let stream = stream_at s.streams name in
      let g : Op → Phase = λ op. phase_back stream given op.kind op.phase in
      let came = came_changed_of (first_of on stream) g (back_keeps stream given) s.ops n it is in
      let before = all n came.op target came.is (came.pending pends) (sym (ap target_of came.kind) ∙ at_it) in
      let closing = (both (is_current s.names.streams name) (is_closing (place_at s.names.streams name.place).life) leaves).other in
      let last = before.closing (sym (ap (λ j. is_closing (place_at s.names.streams j).life) at) ∙ closing) in
      let here = ap (λ j. slice_index_or s.streams j new_stream) at in
      let out_there : (stream_at s.streams target.stream).out ≡ Some on = sym (ap (λ (st : StreamState). st.out) here) ∙ out in
      let side_is : target.side ≡ on = same_is target.side on (sym (ap (is_out_for target.side) out_there) ∙ last.out) in
      let first : first_of on stream ≡ Some n =
      ap (first_of on) here ∙ ap (λ o. first_of o (stream_at s.streams target.stream)) (sym side_is) ∙ last.first in
      let one = the_changed n g s.ops it (sym (ap (λ f. op_at (phase_changed_of f g s.ops) n) first) ∙ is) in
      let same_op : one.op ≡ came.op = some_is one.op came.op (sym one.is ∙ came.is) in
      true≢false
      (sym pends ∙ ap (λ (o : Op). is_pending o.phase) one.now
      ∙ back_ends stream given one.op.kind one.op.phase (ap (λ (o : Op). is_untouched o.phase) same_op ∙ last.cancelled))
    where
      same_is : (a b : Side) → is_out_for a (Some b) ≡ true → a ≡ b
      same_is side.Read side.Read is = refl
      same_is side.Read side.Write is = absurd (true≢false (sym is))
      same_is side.Read side.Connect is = absurd (true≢false (sym is))
      same_is side.Write side.Read is = absurd (true≢false (sym is))
      same_is side.Write side.Write is = refl
      same_is side.Write side.Connect is = absurd (true≢false (sym is))
      same_is side.Connect side.Read is = absurd (true≢false (sym is))
      same_is side.Connect side.Write is = absurd (true≢false (sym is))
      same_is side.Connect side.Connect is = refl

  abbrev made_places : Name → Gave → List Place
  made_places name given =
      place_made given (stream_at (state_of limits past).streams name).reserved (state_of limits past).names.streams

  abbrev linked_streams : Name → Gave → List StreamState
  linked_streams name given =
      stream_made given (stream_at (state_of limits past).streams name).reserved
      (with_stream name (stream_back given (stream_at (state_of limits past).streams name)) (state_of limits past).streams)

  reserved_unused : (name r : Name) → (stream_at (state_of limits past).streams name).reserved ≡ Some r →
      IsUnusedAt (state_of limits past).names.streams r.place
  reserved_unused name r has = (kept_place limits past legal r (reserved_kept limits past legal name r has)).unused

  calm_places : (name : Name) (given : Gave) → SamePlaces (state_of limits past).names.streams (made_places name given)
  calm_places name given =
      same_life (if is_made given then life.Alive else life.Free) (state_of limits past).names.streams
      (stream_at (state_of limits past).streams name).reserved (made_same given)

  known_open : (name : Name) (on : Side) (given : Gave) → is_current (state_of limits past).names.streams name ≡ true →
      is_leaving (state_of limits past).names.streams name ≡ false →
      AreKnown (after (event.Back name on given) (state_of limits past)).ops (made_places name given)
      (linked_streams name given)
  known_open name on given current stays =
      let s = state_of limits past in
      let places = s.names.streams in
      let stream = stream_at s.streams name in
      let not_so : is_closing (place_at places name.place).life ≡ true → ⊥ =
      λ is.
      true≢false (sym (ap (λ b. b && is_closing (place_at places name.place).life) current ∙ is) ∙ stays) in
      known_still s.ops (after (event.Back name on given) s).ops places (made_places name given) s.streams
      (linked_streams name given) all
      (came_changed_of (first_of on stream) (λ op. phase_back stream given op.kind op.phase) (back_keeps stream given) s.ops)
      (calm_places name given)
      (λ p closing.
      linked_same given stream.reserved (with_stream name (stream_back given stream) s.streams)
      (λ r has. reserved_unused name r has) p closing
      ∙ stream_other places s.streams name.place (stream_back given stream) p not_so closing)

  known_shut : (name : Name) (on : Side) (given : Gave) → (stream_at (state_of limits past).streams name).out ≡ Some on →
      is_leaving (state_of limits past).names.streams name ≡ true →
      AreKnown (after (event.Back name on given) (state_of limits past)).ops (with_freed name (made_places name given))
      (with_stream name new_stream (linked_streams name given))
  known_shut name on given out leaves n it target is pends at_it =
      let s = state_of limits past in
      let places = s.names.streams in
      let stream = stream_at s.streams name in
      let p = target.stream.place in
      let away : name.place ≡ p → ⊥ = λ at. back_apart name on given n it target out leaves is pends at_it at in
      let came = came_changed_of (first_of on stream) (λ op. phase_back stream given op.kind op.phase)
      (back_keeps stream given) s.ops n it is in
      let calm = calm_places name given in
      let one_place = place_other (made_places name given) name.place p (freed (place_at (made_places name given) name.place)) away in
      let one_stream : is_closing (place_at places p).life ≡ true →
      stream_at (with_stream name new_stream (linked_streams name given)) target.stream ≡ stream_at s.streams target.stream =
      λ closing.
      get_or-set_other (linked_streams name given) name.place p new_stream new_stream (λ e. away (sym e))
      ∙ linked_same given stream.reserved (with_stream name (stream_back given stream) s.streams)
      (λ r has. reserved_unused name r has) p closing
      ∙ get_or-set_other s.streams name.place p (stream_back given stream) new_stream (λ e. away (sym e)) in
      known_one s.ops places (with_freed name (made_places name given)) s.streams
      (with_stream name new_stream (linked_streams name given)) n it target all pends at_it came
      (record {
        generation = ap (λ (at : Place). at.generation) one_place ∙ calm.generation p;
        closing = λ closing. calm.closing p (sym (ap (λ (at : Place). is_closing at.life) one_place) ∙ closing);
        out = λ closing. ap (λ (st : StreamState). st.out) (one_stream closing);
        first = λ closing first. ap (first_of target.side) (one_stream closing) ∙ first;
      })

  known_back : (name : Name) (on : Side) (given : Gave) → (stream_at (state_of limits past).streams name).out ≡ Some on →
      is_current (state_of limits past).names.streams name ≡ true →
      AreKnown (after (event.Back name on given) (state_of limits past)).ops
      (after (event.Back name on given) (state_of limits past)).names.streams
      (after (event.Back name on given) (state_of limits past)).streams
  known_back name on given out current = by_closed (is_leaving (state_of limits past).names.streams name) refl
    where
      by_closed : (closed : Bool) → is_leaving (state_of limits past).names.streams name ≡ closed →
          AreKnown (after (event.Back name on given) (state_of limits past)).ops
          (place_closed closed name (made_places name given)) (stream_closed closed name (linked_streams name given))
      by_closed true leaves = known_shut name on given out leaves
      by_closed false stays = known_open name on given current stays

known_kept : (s : ContextState) (first : Option ℕ) (reserved : Option Name) →
    SamePlaces s.names.streams (place_kept first reserved s.names.streams)
known_kept s None reserved = same_itself s.names.streams
known_kept s (Some n) reserved = same_life (life.Kept n) s.names.streams reserved refl

none_found : (n : ℕ) (it : Op) → op_at [] n ≡ Some it → ⊥
none_found n it is = cc

-- what is pending on a stream names what is there
pub are_known : (limits : Limits) (past : List Event) → IsLegal limits past →
    AreKnown (state_of limits past).ops (state_of limits past).names.streams (state_of limits past).streams
are_known limits [] legal = λ n it target is pends on. absurd (none_found n it is)
are_known limits (event.Called op by request given ∷ past) legal =
    known_called (state_of limits past) op by request given legal.0.names (are_known limits past legal.1)
are_known limits (event.Done op given size ∷ past) legal =
    known_done (state_of limits past) op given size (are_known limits past legal.1)
are_known limits (event.Begun op spares ∷ past) legal =
    let s = state_of limits past in
    known_still s.ops (after (event.Begun op spares) s).ops s.names.streams (after (event.Begun op spares) s).names.streams
    s.streams s.streams (are_known limits past legal.1)
    (came_changed op (λ o. phase.Running true (grant_of s) spares) (const_keeps (phase.Running true (grant_of s) spares) refl) s.ops)
    (same_life (life.Kept op) s.names.streams spares.stream refl) (λ p closing. refl)
are_known limits (event.Granted op spares ∷ past) legal =
    let s = state_of limits past in
    let more = more_granted s (at_op granted_in s.ops op) in
    known_still s.ops (after (event.Granted op spares) s).ops s.names.streams
    (after (event.Granted op spares) s).names.streams s.streams s.streams (are_known limits past legal.1)
    (came_changed op (λ o. granted_more more spares o.phase) (granted_keeps more spares) s.ops)
    (same_life (life.Kept op) s.names.streams spares.stream refl) (λ p closing. refl)
are_known limits (event.Ended op mark ∷ past) legal =
    let s = state_of limits past in
    known_still s.ops (without op s.ops) s.names.streams (after (event.Ended op mark) s).names.streams s.streams s.streams
    (are_known limits past legal.1) (came_without op s.ops (ops_rise limits past legal.1))
    (same_life life.Free s.names.streams (spares_of (op_at s.ops op)).stream refl) (λ p closing. refl)
are_known limits (event.Dropped op mark ∷ past) legal =
    let s = state_of limits past in
    known_still s.ops (without op s.ops) s.names.streams s.names.streams s.streams s.streams
    (are_known limits past legal.1) (came_without op s.ops (ops_rise limits past legal.1)) (same_itself s.names.streams)
    (λ p closing. refl)
are_known limits (event.Changed by change ∷ past) legal =
    known_changed limits past legal.1 (are_known limits past legal.1) by change legal.0.allowed
are_known limits (event.Tried name on reserved ∷ past) legal =
    let s = state_of limits past in
    let new = after (event.Tried name on reserved) s in
    known_still s.ops s.ops s.names.streams new.names.streams s.streams new.streams (are_known limits past legal.1)
    (came_itself s.ops) (known_kept s (first_of on (stream_at s.streams name)) reserved)
    (λ p closing.
    stream_other s.names.streams s.streams name.place _ p (alive_not s.names.streams name legal.0.is_open) closing)
are_known limits (event.Back name on given ∷ past) legal =
    known_back limits past legal.1 (are_known limits past legal.1) name on given legal.0.out legal.0.named
are_known limits (event.Searched name end ∷ past) legal =
    let s = state_of limits past in
    let stream = stream_at s.streams name in
    let new = after (event.Searched name end) s in
    known_still s.ops new.ops s.names.streams s.names.streams s.streams new.streams (are_known limits past legal.1)
    (came_changed_of (first_of side.Read stream) (λ op. phase_found stream end op.kind op.phase) (found_keeps stream end) s.ops)
    (same_itself s.names.streams)
    (λ p closing.
    stream_other s.names.streams s.streams name.place _ p (alive_not s.names.streams name legal.0.is_open) closing)
are_known limits (e ∷ past) legal = are_known limits past legal.1
