-- In each legal history nothing is at the place of a stream's name that is free, or kept for a handler or an
-- accept: what is there is as new.
use Rattle.std.proofs.Common.{arith, ap, refl, subst, sym, ◌∙◌, ⊎_elim}
use Rattle.std.proofs.lemmas.Bool.{cases_lt, true≢false}
use Rattle.std.proofs.lemmas.List.{get_or-replicate, get_or-set_other, get_or-set_same, get_or_past, length-replicate, set_past}
use Rattle.std.specs.Prelude.{◌≡◌, ◌<◌, ◌≤◌, ℕ, ◌==◌, ◌&&◌, not, min, Bool, true, false, List, [], ◌∷◌, Option, Some, None, length, replicate, if◌then◌else◌}
use Rattle.std.specs.List.{slice_index_or, slice_set}
use Rattle.asio_types.specs.declared.code.Code.{Code}
use Rattle.io_rules.specs.declared.control.Control.{Control}
use Rattle.io_rules.specs.declared.control.Control.TheVariants as control
use Rattle.io_rules.specs.declared.event.Event.{Event}
use Rattle.io_rules.specs.declared.event.Event.TheVariants as event
use Rattle.io_rules.specs.declared.gave.Gave.{Gave}
use Rattle.io_rules.specs.declared.limits.Limits.{Limits}
use Rattle.io_rules.specs.declared.name.Kind.{Kind}
use Rattle.io_rules.specs.declared.name.Kind.TheVariants as kind
use Rattle.io_rules.specs.declared.name.Name.{Name}
use Rattle.io_rules.specs.declared.op.Op.{Op}
use Rattle.io_rules.specs.declared.op.Phase.{Phase}
use Rattle.io_rules.specs.declared.op.Phase.TheVariants as phase
use Rattle.io_rules.specs.declared.operation.Operation.{Operation}
use Rattle.io_rules.specs.declared.operation.Side.{Side}
use Rattle.io_rules.specs.declared.operation.Side.TheVariants as side
use Rattle.io_rules.specs.declared.place.Life.{Life}
use Rattle.io_rules.specs.declared.place.Life.TheVariants as life
use Rattle.io_rules.specs.declared.place.Place.{Place}
use Rattle.io_rules.specs.declared.request.Gone.{Gone}
use Rattle.io_rules.specs.declared.request.Gone.TheVariants as gone
use Rattle.io_rules.specs.declared.request.Request.{Request}
use Rattle.io_rules.specs.Calls.{accepted, caller_lane, gone_by, gone_of, is_lane_gone, is_slot_gone, is_target_gone, is_timer_gone, same_test, streams_called, target_if}
use Rattle.io_rules.specs.Changes.{MayChangeTo, MayMake, has_spare, is_kept, is_there, names_changed, place_freed, streams_changed}
use Rattle.io_rules.specs.Completing.{after_done, completed, kind_of, side_left, streams_left}
use Rattle.io_rules.specs.Executions.{spares_in, spares_of}
use Rattle.io_rules.specs.Legal.{IsLegal, after, state_of}
use Rattle.io_rules.specs.Names.{is_alive, is_current, is_leaving, is_living, is_unused, no_place, place_at, with_life}
use Rattle.io_rules.specs.Operations.{Target, behind_connect, is_accept, target_of, timer_of}
use Rattle.io_rules.specs.Ops.{is_running, op_at}
use Rattle.io_rules.specs.Room.{one_if}
use Rattle.io_rules.specs.Serving.{first_of, now_held, op_of, served, streams_served, with_held}
use Rattle.io_rules.specs.Spares.{MayKeep, is_spare, with_life_of}
use Rattle.io_rules.specs.State.{ContextState, StreamState, new_stream, stream_at, with_stream}
use Rattle.io_rules.specs.Strands.{entry_of}
use Rattle.io_rules.specs.Tries.{MayReserve, MayTry, is_accept_of, is_made, place_closed, place_kept, place_made, stream_back, stream_closed, stream_made}
use Rattle.io_rules.proofs.KeptLemmas.{spare_at}
use Rattle.io_rules.proofs.ShareLemmas.{weighed}
use Rattle.io_rules.proofs.StrandLemmas.{both, by_test, same-name}
use Rattle.io_rules.proofs.TotalLemmas.{apart, equal, found, same, share}
use Rattle.io_scheduler.specs.Shown.{is_used, is_used_place}
use Rattle.io_scheduler.proofs.KeptNamesLemmas.{is_kept_life, keepers, reserved_set, spared, unused_within}
use Rattle.io_scheduler.proofs.ReservedLemmas.{is_stream_kind, living_of, unkept}

-- where nothing is, the stream is as new
abbrev IdleAt : ℕ → List Place → List StreamState → Type 0
IdleAt p places streams = is_used_place (place_at places p) ≡ false → slice_index_or streams p new_stream ≡ new_stream

abbrev pub IsUnusedAt : List Place → ℕ → Type 0
IsUnusedAt places p = is_used_place (place_at places p) ≡ false

not_used : (l : Life) → is_unused l ≡ true → is_used l ≡ false
not_used life.Free is = refl
not_used (life.Kept op) is = absurd (true≢false (sym is))
not_used life.Alive is = absurd (true≢false (sym is))
not_used life.Closing is = absurd (true≢false (sym is))
not_used life.Spent is = absurd (true≢false (sym is))

kept_not : (l : Life) → is_kept_life l ≡ true → is_used l ≡ false
kept_not (life.Kept op) is = refl
kept_not life.Free is = refl
kept_not life.Alive is = absurd (true≢false (sym is))
kept_not life.Closing is = absurd (true≢false (sym is))
kept_not life.Spent is = absurd (true≢false (sym is))

living_used : (l : Life) → is_living l ≡ true → is_used l ≡ true
living_used life.Alive is = refl
living_used life.Free is = absurd (true≢false (sym is))
living_used (life.Kept op) is = absurd (true≢false (sym is))
living_used life.Closing is = absurd (true≢false (sym is))
living_used life.Spent is = absurd (true≢false (sym is))

-- what passes a test that no place beyond the last passes is one of them
within_by : (test : Life → Bool) (places : List Place) (n : ℕ) → test life.Spent ≡ false →
    test (place_at places n).life ≡ true → n < length places
within_by test places n none is =
    ⊎_elim (λ (lt : n < length places). lt)
    (λ (le : length places ≤ n).
    absurd (true≢false (sym is ∙ ap (λ at. test at.life) (get_or_past places n no_place le) ∙ none)))
    (cases_lt n (length places))

alive_used : (places : List Place) (name : Name) → is_alive places name ≡ true →
    is_used_place (place_at places name.place) ≡ true
alive_used places name is =
    living_used (place_at places name.place).life
    (both (is_current places name) (is_living (place_at places name.place).life) is).other

-- ---- one stream or one place changes

set_new : (p k : ℕ) (streams : List StreamState) (new : StreamState) → (k ≡ p → new ≡ new_stream) →
    ((k ≡ p → ⊥) → slice_index_or streams p new_stream ≡ new_stream) →
    slice_index_or (slice_set streams k new) p new_stream ≡ new_stream
set_new p k streams new here elsewhere =
    by_test (k == p)
    (λ at.
    subst (λ j. slice_index_or (slice_set streams j new) p new_stream ≡ new_stream) (sym (equal k p at))
    (⊎_elim (λ (lt : p < length streams). get_or-set_same streams p new new_stream lt ∙ here (equal k p at))
    (λ (le : length streams ≤ p).
    ap (λ xs. slice_index_or xs p new_stream) (set_past streams p new le) ∙ get_or_past streams p new_stream le)
    (cases_lt p (length streams))))
    (λ other.
    get_or-set_other streams k p new new_stream (apart k p other) ∙ elsewhere (λ is. apart k p other (sym is)))

-- a change at a place that is used
used_new : (p k : ℕ) (places : List Place) (streams : List StreamState) (new : StreamState) →
    is_used_place (place_at places k) ≡ true → IsUnusedAt places p → slice_index_or streams p new_stream ≡ new_stream →
    slice_index_or (slice_set streams k new) p new_stream ≡ new_stream
used_new p k places streams new used unused is =
    set_new p k streams new
    (λ here. absurd (true≢false (sym used ∙ ap (λ j. is_used_place (place_at places j)) here ∙ unused))) (λ other. is)

place_other : (places : List Place) (k p : ℕ) (new : Place) → (k ≡ p → ⊥) →
    place_at (slice_set places k new) p ≡ place_at places p
place_other places k p new other = get_or-set_other places k p new no_place (λ is. other (sym is))

abbrev AreUnused : List Place → Option Name → Type 0
AreUnused places spare = (name : Name) → spare ≡ Some name → IsUnusedAt places name.place

-- a place that is unused then was unused
less_life : (p : ℕ) (to : Life) (places : List Place) (spare : Option Name) → AreUnused places spare →
    IsUnusedAt (with_life_of to spare places) p → IsUnusedAt places p
less_life p to places None none unused = unused
less_life p to places (Some name) none unused =
    by_test (name.place == p)
    (λ here. subst (IsUnusedAt places) (equal name.place p here) (none name refl))
    (λ other.
    sym (ap is_used_place (place_other places name.place p _ (λ is. apart name.place p other (sym is)))) ∙ unused)

-- ---- calls, completions

served_new : (p : ℕ) (s : ContextState) (target : Option Target) → slice_index_or s.streams p new_stream ≡ new_stream →
    slice_index_or (streams_served s target) p new_stream ≡ new_stream
served_new p s None is = is
served_new p s (Some target) is =
    set_new p target.stream.place s.streams _
    (λ here.
    subst
    (λ (st : StreamState).
    let held = now_held st target.side (op_of s.ops (first_of target.side st)) in
    with_held held (min st.searched held) st ≡ new_stream)
    (sym (ap (λ j. slice_index_or s.streams j new_stream) here ∙ is)) (at_new target.side))
    (λ other. is)
  where
    at_new : (on : Side) →
        let held = now_held new_stream on (op_of s.ops (first_of on new_stream)) in
        with_held held (min new_stream.searched held) new_stream ≡ new_stream
    at_new side.Read = refl
    at_new side.Write = refl
    at_new side.Connect = refl

left_new : (p n : ℕ) (streams : List StreamState) (target : Option Target) →
    slice_index_or streams p new_stream ≡ new_stream →
    slice_index_or (streams_left n target streams) p new_stream ≡ new_stream
left_new p n streams None is = is
left_new p n streams (Some target) is =
    set_new p target.stream.place streams _
    (λ here.
    subst (λ (st : StreamState). side_left target.side n st ≡ new_stream)
    (sym (ap (λ j. slice_index_or streams j new_stream) here ∙ is)) (at_new target.side))
    (λ other. is)
  where
    at_new : (on : Side) → side_left on n new_stream ≡ new_stream
    at_new side.Read = refl
    at_new side.Write = refl
    at_new side.Connect = refl

done_new : (p n : ℕ) (given : Code) (size : ℕ) (s : ContextState) → slice_index_or s.streams p new_stream ≡ new_stream →
    slice_index_or (after_done n given size s).streams p new_stream ≡ new_stream
done_new p n given size s is =
    let of = kind_of (op_at s.ops n) in
    let first = completed n given size s in
    let second = served (target_of of) first in
    let third = served (behind_connect side.Read of) second in
    served_new p third (behind_connect side.Write of)
    (served_new p second (behind_connect side.Read of)
    (served_new p first (target_of of) (left_new p n s.streams (target_of of) is)))

nothing_gone : (strand slot timer target : Bool) → gone_by strand slot timer target ≡ gone.Nothing → target ≡ false
nothing_gone true slot timer target is = absurd (cc)
nothing_gone false true timer target is = absurd (cc)
nothing_gone false false true target is = absurd (cc)
nothing_gone false false false true is = absurd (cc)
nothing_gone false false false false is = refl

not_false : (b : Bool) → not b ≡ false → b ≡ true
not_false true is = refl
not_false false is = absurd (true≢false is)

pushed_new : (p n : ℕ) (s : ContextState) (of : Operation) (given : Gone) (target : Option Target) →
    (given ≡ gone.Nothing → is_target_gone s of target ≡ false) → IsUnusedAt s.names.streams p →
    slice_index_or s.streams p new_stream ≡ new_stream →
    slice_index_or (streams_called n given target s.streams) p new_stream ≡ new_stream
pushed_new p n s of gone.Nothing (Some target) there unused is =
    used_new p target.stream.place s.names.streams s.streams _
    (alive_used s.names.streams target.stream
    (both (is_alive s.names.streams target.stream)
    (same_test (is_accept of) (stream_at s.streams target.stream).listener)
    (not_false _ (there refl))).one)
    unused is
pushed_new p n s of gone.Nothing None there unused is = is
pushed_new p n s of gone.Strand target there unused is = is
pushed_new p n s of gone.Other target there unused is = is

-- what an operation names that isn't gone
pub target_alive : (s : ContextState) (request : Request) (given : Gone) (t : Target) → given ≡ gone_of s request →
    given ≡ gone.Nothing → target_of request.kind ≡ Some t → is_alive s.names.streams t.stream ≡ true
target_alive s request given t names none at =
    (both (is_alive s.names.streams t.stream)
    (same_test (is_accept request.kind) (stream_at s.streams t.stream).listener)
    (not_false _
    (sym (ap (is_target_gone s request.kind) at)
    ∙ nothing_gone (is_lane_gone s.names request.lane) (is_slot_gone s.names request.binding)
    (is_timer_gone s.names (timer_of request.kind)) (is_target_gone s request.kind (target_of request.kind))
    (sym names ∙ none)))).one

called_new : (p n : ℕ) (by : Option ℕ) (request : Request) (given : Gone) (s : ContextState) → given ≡ gone_of s request →
    IsUnusedAt s.names.streams p → slice_index_or s.streams p new_stream ≡ new_stream →
    slice_index_or (after (event.Called n by request given) s).streams p new_stream ≡ new_stream
called_new p n by request given s names unused is =
    served_new p (accepted (entry_of (caller_lane s.ops by) request given) n by request given s)
    (target_if given (target_of request.kind))
    (pushed_new p n s request.kind given (target_of request.kind)
    (λ none.
    nothing_gone (is_lane_gone s.names request.lane) (is_slot_gone s.names request.binding)
    (is_timer_gone s.names (timer_of request.kind)) (is_target_gone s request.kind (target_of request.kind))
    (sym names ∙ none))
    unused is)

-- ---- names that are taken, and left

taken_unused : (places : List Place) (had taken : Option Name) → MayKeep places had taken → AreUnused places taken
taken_unused places (Some had) taken may name is =
    absurd (none_some name (sym may ∙ is))
  where
    none_some : (x : Name) → None ≡ Some x → ⊥
    none_some x e = cc
taken_unused places None None may name is = absurd (cc)
taken_unused places None (Some taken) may name is =
    let it : taken ≡ name = cc in
    subst (λ (n : Name). IsUnusedAt places n.place) it
    (not_used (place_at places taken.place).life
    (both (is_current places taken) (is_unused (place_at places taken.place).life) may).other)

one_at : (name : Name) (spare : Option Name) → spare ≡ Some name → spare_at name.place spare ≡ 1
one_at name None is = absurd (cc)
one_at name (Some other) is =
    let it : name ≡ other = cc in
    ap one_if (subst (λ (n : Name). (n.place == name.place) ≡ true) it (same name.place))

-- what a handler or an accept has is kept
kept_by : (limits : Limits) (past : List Event) → IsLegal limits past → (name : Name) →
    1 ≤ keepers name.place (state_of limits past) →
    is_kept_life (place_at (state_of limits past).names.streams name.place).life ≡ true
kept_by limits past legal name some =
    by_test (is_kept_life (place_at (state_of limits past).names.streams name.place).life) (λ is. is)
    (λ isnt. let none = unkept limits past legal name.place isnt in absurd (omega (arith, some, none)))

spare_kept : (limits : Limits) (past : List Event) → IsLegal limits past → (n : ℕ) (it : Op) (name : Name) →
    op_at (state_of limits past).ops n ≡ Some it → (spares_in it.phase).stream ≡ Some name →
    is_kept_life (place_at (state_of limits past).names.streams name.place).life ≡ true
spare_kept limits past legal n it name is has =
    let own = share (weighed (spared name.place)) n (state_of limits past).ops it is in
    let one = one_at name (spares_in it.phase).stream has in
    kept_by limits past legal name (omega (arith, own, one))

pub reserved_kept : (limits : Limits) (past : List Event) → IsLegal limits past → (of name : Name) →
    (stream_at (state_of limits past).streams of).reserved ≡ Some name →
    is_kept_life (place_at (state_of limits past).names.streams name.place).life ≡ true
reserved_kept limits past legal of name has =
    let s = state_of limits past in
    let set = reserved_set name.place s.streams of.place new_stream in
    let one = one_at name (stream_at s.streams of).reserved has in
    kept_by limits past legal name (omega (arith, set, one))

-- ---- what is made and freed

made_new : (p : ℕ) (places : List Place) (streams : List StreamState) (name : Name) (new : StreamState) →
    name.place < length places → IsUnusedAt places name.place → IdleAt p places streams →
    IdleAt p (with_life life.Alive name places) (with_stream name new streams)
made_new p places streams name new within none idle unused =
    set_new p name.place streams new
    (λ here.
    absurd (true≢false
    (sym (ap is_used_place (get_or-set_same places name.place _ no_place within))
    ∙ ap (λ j. is_used_place (place_at (with_life life.Alive name places) j)) here ∙ unused)))
    (λ other. idle (sym (ap is_used_place (place_other places name.place p _ other)) ∙ unused))

freed_new : (p : ℕ) (places : List Place) (streams : List StreamState) (name : Name) (there kept : Bool) →
    (there ≡ true → is_living (place_at places name.place).life ≡ true) → IdleAt p places streams →
    IdleAt p (place_freed there kept name places) (if there && not kept then with_stream name new_stream streams else streams)
freed_new p places streams name false kept living idle unused = idle unused
freed_new p places streams name true true living idle unused =
    let within = within_by is_living places name.place refl (living refl) in
    idle (sym (ap is_used_place (place_other places name.place p _
    (λ here.
    true≢false
    (sym (ap is_used_place (get_or-set_same places name.place _ no_place within))
    ∙ ap (λ j. is_used_place (place_at (with_life life.Closing name places) j)) here ∙ unused)))) ∙ unused)
freed_new p places streams name true false living idle unused =
    set_new p name.place streams new_stream (λ here. refl)
    (λ other. idle (sym (ap is_used_place (place_other places name.place p _ other)) ∙ unused))

spare_named : (name : Name) (spare : Option Name) → is_spare name spare ≡ true → spare ≡ Some name
spare_named name None is = absurd (true≢false (sym is))
spare_named name (Some spare) is = ap Some (same-name spare name is)

spare_of_phase : (of : Kind) (name : Name) (it : Phase) → is_stream_kind of ≡ true → has_spare of name it ≡ true →
    (spares_in it).stream ≡ Some name
spare_of_phase kind.Stream name (phase.Running own grant spares) stream is = spare_named name spares.stream is
spare_of_phase kind.Listener name (phase.Running own grant spares) stream is = spare_named name spares.stream is
spare_of_phase kind.Strand name (phase.Running own grant spares) stream is = absurd (true≢false (sym stream))
spare_of_phase kind.Timer name (phase.Running own grant spares) stream is = absurd (true≢false (sym stream))
spare_of_phase kind.Slot name (phase.Running own grant spares) stream is = absurd (true≢false (sym stream))
spare_of_phase of name (phase.Pending moved cancelled) stream is = absurd (true≢false (sym is))
spare_of_phase of name (phase.Settled code size) stream is = absurd (true≢false (sym is))
spare_of_phase of name (phase.Ready code size) stream is = absurd (true≢false (sym is))

module _ (limits : Limits) (past : List Event) (legal : IsLegal limits past) where
  -- what may be made has its place
  pub record HasPlace (name : Name) : Type 0 where
    pub within : name.place < length (state_of limits past).names.streams
    pub unused : IsUnusedAt (state_of limits past).names.streams name.place

  pub free_place : (name : Name) →
      (is_current (state_of limits past).names.streams name
      && is_unused (place_at (state_of limits past).names.streams name.place).life) ≡ true → HasPlace name
  free_place name may =
      let places = (state_of limits past).names.streams in
      let free = (both (is_current places name) (is_unused (place_at places name.place).life) may).other in
      record {
        within = unused_within places name.place free;
        unused = not_used (place_at places name.place).life free;
      }

  pub kept_place : (name : Name) → is_kept_life (place_at (state_of limits past).names.streams name.place).life ≡ true →
      HasPlace name
  kept_place name kept =
      let places = (state_of limits past).names.streams in
      record {
        within = within_by is_kept_life places name.place refl kept;
        unused = kept_not (place_at places name.place).life kept;
      }

  pub may_make : (of : Kind) (name : Name) (by : Option ℕ) → is_stream_kind of ≡ true →
      MayMake (state_of limits past) of name by → HasPlace name
  may_make kind.Stream name None stream may = free_place name may
  may_make kind.Listener name None stream may = free_place name may
  may_make of name (Some by) stream may =
      let it = found (has_spare of name) (state_of limits past).ops by may in
      kept_place name
      (spare_kept limits past legal by it.op name it.is (spare_of_phase of name it.op.phase stream it.passed))
  may_make kind.Strand name None stream may = absurd (true≢false (sym stream))
  may_make kind.Timer name None stream may = absurd (true≢false (sym stream))
  may_make kind.Slot name None stream may = absurd (true≢false (sym stream))

  -- control calls
  changed_new : (p : ℕ) (by : Option ℕ) (change : Control) → MayChangeTo (state_of limits past) by change →
      IdleAt p (state_of limits past).names.streams (state_of limits past).streams →
      IdleAt p (names_changed (state_of limits past) change).streams (streams_changed (state_of limits past) change)
  changed_new p by (control.Make kind.Stream name) may idle =
      let it = may_make kind.Stream name by refl may in
      made_new p (state_of limits past).names.streams (state_of limits past).streams name new_stream it.within it.unused idle
  changed_new p by (control.Make kind.Listener name) may idle =
      let it = may_make kind.Listener name by refl may in
      made_new p (state_of limits past).names.streams (state_of limits past).streams name
      (record new_stream { listener = true }) it.within it.unused idle
  changed_new p by (control.Make kind.Strand name) may idle = idle
  changed_new p by (control.Make kind.Timer name) may idle = idle
  changed_new p by (control.Make kind.Slot name) may idle = idle
  changed_new p by (control.Free kind.Stream name) may idle =
      let s = state_of limits past in
      freed_new p s.names.streams s.streams name (is_there s kind.Stream name) (is_kept s kind.Stream name)
      (λ there. living_of s kind.Stream name refl there) idle
  changed_new p by (control.Free kind.Listener name) may idle =
      let s = state_of limits past in
      freed_new p s.names.streams s.streams name (is_there s kind.Listener name) (is_kept s kind.Listener name)
      (λ there. living_of s kind.Listener name refl there) idle
  changed_new p by (control.Free kind.Strand name) may idle = idle
  changed_new p by (control.Free kind.Timer name) may idle = idle
  changed_new p by (control.Free kind.Slot name) may idle = idle
  changed_new p by _ may idle = idle

  -- ---- sockets go into system calls, and come back

  tried_less : (p : ℕ) (first : Option ℕ) (accepts : Bool) (reserved : Option Name) →
      MayReserve (state_of limits past).names accepts reserved →
      IsUnusedAt (place_kept first reserved (state_of limits past).names.streams) p →
      IsUnusedAt (state_of limits past).names.streams p
  tried_less p None accepts reserved may unused = unused
  tried_less p (Some n) accepts None may unused = unused
  tried_less p (Some n) true (Some name) may unused =
      let places = (state_of limits past).names.streams in
      less_life p (life.Kept n) places (Some name) (taken_unused places None (Some name) may) unused
  tried_less p (Some n) false (Some name) may unused = absurd (cc)

  tried_new : (p : ℕ) (name : Name) (on : Side) (reserved : Option Name) →
      MayTry (state_of limits past) name on reserved →
      IdleAt p (state_of limits past).names.streams (state_of limits past).streams →
      IdleAt p (after (event.Tried name on reserved) (state_of limits past)).names.streams
      (after (event.Tried name on reserved) (state_of limits past)).streams
  tried_new p name on reserved may idle unused =
      let s = state_of limits past in
      let stream = stream_at s.streams name in
      let before = tried_less p (first_of on stream) (is_accept_of (op_of s.ops (first_of on stream))) reserved may.place unused in
      used_new p name.place s.names.streams s.streams _ (alive_used s.names.streams name may.is_open) before (idle before)

  linked_new : (p : ℕ) (given : Gave) (reserved : Option Name) (streams : List StreamState) →
      ((name : Name) → reserved ≡ Some name → HasPlace name) →
      IsUnusedAt (place_made given reserved (state_of limits past).names.streams) p →
      slice_index_or streams p new_stream ≡ new_stream →
      slice_index_or (stream_made given reserved streams) p new_stream ≡ new_stream
  linked_new p given None streams has unused is = is
  linked_new p given (Some name) streams has unused is = by_made (is_made given) unused
    where
      places : List Place
      places = (state_of limits past).names.streams

      by_made : (b : Bool) → IsUnusedAt (with_life (if b then life.Alive else life.Free) name places) p →
          slice_index_or (if b then with_stream name (record new_stream { linked = true }) streams else streams) p new_stream
          ≡ new_stream
      by_made false unused = is
      by_made true unused =
          made_new p places streams name (record new_stream { linked = true }) (has name refl).within (has name refl).unused
          (λ before. is) unused

  closed_new : (p : ℕ) (places : List Place) (streams : List StreamState) (closed : Bool) (name : Name) →
      IdleAt p places streams → IdleAt p (place_closed closed name places) (stream_closed closed name streams)
  closed_new p places streams false name idle unused = idle unused
  closed_new p places streams true name idle unused =
      set_new p name.place streams new_stream (λ here. refl)
      (λ other. idle (sym (ap is_used_place (place_other places name.place p _ other)) ∙ unused))

  out_used : (name : Name) (on : Side) → (stream_at (state_of limits past).streams name).out ≡ Some on →
      IdleAt name.place (state_of limits past).names.streams (state_of limits past).streams →
      is_used_place (place_at (state_of limits past).names.streams name.place) ≡ true
  out_used name on out idle =
      by_test (is_used_place (place_at (state_of limits past).names.streams name.place)) (λ is. is)
      (λ isnt. absurd (none_some on (sym (ap (λ (st : StreamState). st.out) (idle isnt)) ∙ out)))
    where
      none_some : (x : Side) → None ≡ Some x → ⊥
      none_some x e = cc

  back_new : (p : ℕ) (name : Name) (on : Side) (given : Gave) →
      (stream_at (state_of limits past).streams name).out ≡ Some on →
      ((q : ℕ) → IdleAt q (state_of limits past).names.streams (state_of limits past).streams) →
      IdleAt p (after (event.Back name on given) (state_of limits past)).names.streams
      (after (event.Back name on given) (state_of limits past)).streams
  back_new p name on given out idle =
      let s = state_of limits past in
      let stream = stream_at s.streams name in
      let in_again = with_stream name (stream_back given stream) s.streams in
      let has : (r : Name) → stream.reserved ≡ Some r → HasPlace r =
      λ r is. kept_place r (reserved_kept limits past legal name r is) in
      closed_new p (place_made given stream.reserved s.names.streams) (stream_made given stream.reserved in_again)
      (is_leaving s.names.streams name) name
      (λ unused.
      let before = less_life p (if is_made given then life.Alive else life.Free) s.names.streams stream.reserved
      (λ r is. (has r is).unused) unused in
      linked_new p given stream.reserved in_again has unused
      (used_new p name.place s.names.streams s.streams _ (out_used name on out (idle name.place)) before (idle p before)))

first_new : (n p : ℕ) → slice_index_or (replicate n new_stream) p new_stream ≡ new_stream
first_new n p =
    ⊎_elim (λ (lt : p < n). get_or-replicate n p new_stream new_stream lt)
    (λ (le : n ≤ p). let long = length-replicate n new_stream in get_or_past (replicate n new_stream) p new_stream (omega (arith, le, long)))
    (cases_lt p n)

-- where nothing is, the stream is as new
pub idle_at : (limits : Limits) (past : List Event) → IsLegal limits past → (p : ℕ) →
    is_used_place (place_at (state_of limits past).names.streams p) ≡ false →
    slice_index_or (state_of limits past).streams p new_stream ≡ new_stream
idle_at limits [] legal p unused = first_new limits.streams p
idle_at limits (event.Called op by request given ∷ past) legal p unused =
    called_new p op by request given (state_of limits past) legal.0.names unused (idle_at limits past legal.1 p unused)
idle_at limits (event.Done op given size ∷ past) legal p unused =
    done_new p op given size (state_of limits past) (idle_at limits past legal.1 p unused)
idle_at limits (event.Begun op spares ∷ past) legal p unused =
    let places = (state_of limits past).names.streams in
    idle_at limits past legal.1 p
    (less_life p (life.Kept op) places spares.stream (taken_unused places None spares.stream legal.0.names.stream) unused)
idle_at limits (event.Granted op spares ∷ past) legal p unused =
    let s = state_of limits past in
    idle_at limits past legal.1 p
    (less_life p (life.Kept op) s.names.streams spares.stream
    (taken_unused s.names.streams (spares_of (op_at s.ops op)).stream spares.stream legal.0.names.stream) unused)
idle_at limits (event.Ended op mark ∷ past) legal p unused =
    let s = state_of limits past in
    let it = found is_running s.ops op legal.0.runs in
    idle_at limits past legal.1 p
    (less_life p life.Free s.names.streams (spares_of (op_at s.ops op)).stream
    (λ name has.
    kept_not (place_at s.names.streams name.place).life
    (spare_kept limits past legal.1 op it.op name it.is (sym (ap (λ o. (spares_of o).stream) it.is) ∙ has)))
    unused)
idle_at limits (event.Changed by change ∷ past) legal p unused =
    changed_new limits past legal.1 p by change legal.0.allowed (idle_at limits past legal.1 p) unused
idle_at limits (event.Tried name on reserved ∷ past) legal p unused =
    tried_new limits past legal.1 p name on reserved legal.0 (idle_at limits past legal.1 p) unused
idle_at limits (event.Back name on given ∷ past) legal p unused =
    back_new limits past legal.1 p name on given legal.0.out (idle_at limits past legal.1) unused
idle_at limits (event.Searched name end ∷ past) legal p unused =
    let s = state_of limits past in
    used_new p name.place s.names.streams s.streams _ (alive_used s.names.streams name legal.0.is_open) unused
    (idle_at limits past legal.1 p unused)
idle_at limits (e ∷ past) legal p unused = idle_at limits past legal.1 p unused

-- the name that is kept for what an accept makes has its place, and nothing is there
pub record IsKeptPlace (places : List Place) (streams : List StreamState) (name : Name) : Type 0 where
  pub within : name.place < length places
  pub unused : is_used_place (place_at places name.place) ≡ false
  pub idle : stream_at streams name ≡ new_stream

pub reserved_place : (limits : Limits) (past : List Event) → IsLegal limits past → (of name : Name) →
    (stream_at (state_of limits past).streams of).reserved ≡ Some name →
    IsKeptPlace (state_of limits past).names.streams (state_of limits past).streams name
reserved_place limits past legal of name has =
    let it = kept_place limits past legal name (reserved_kept limits past legal of name has) in
    record { within = it.within; unused = it.unused; idle = idle_at limits past legal name.place it.unused }
