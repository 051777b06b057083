-- In each legal history the name of a stream that is kept for a handler, or for what an accept makes, is
-- kept for it alone.
use Rattle.std.proofs.Common.{arith, ap, refl, subst, sym}
use Rattle.std.proofs.lemmas.Bool.{true≢false}
use Rattle.std.proofs.lemmas.List.Folds.{sum_by-replicate}
use Rattle.std.specs.Prelude.{◌≡◌, ◌≤◌, ℕ, ◌+◌, ◌-◌, ◌==◌, ◌&&◌, not, nat_lt, Bool, true, false, List, [], ◌∷◌, Option, Some, None, if◌then◌else◌}
use Rattle.asio_types.specs.declared.code.Code.TheVariants as code
use Rattle.io_rules.specs.declared.control.Control.{Control}
use Rattle.io_rules.specs.declared.control.Control.TheVariants as control
use Rattle.io_rules.specs.declared.event.Event.{Event}
use Rattle.io_rules.specs.declared.event.Event.TheVariants as event
use Rattle.io_rules.specs.declared.gave.Gave.{Gave}
use Rattle.io_rules.specs.declared.limits.Limits.{Limits}
use Rattle.io_rules.specs.declared.name.Kind.{Kind}
use Rattle.io_rules.specs.declared.name.Kind.TheVariants as kind
use Rattle.io_rules.specs.declared.name.Name.{Name}
use Rattle.io_rules.specs.declared.op.Phase.TheVariants as phase
use Rattle.io_rules.specs.declared.operation.Side.{Side}
use Rattle.io_rules.specs.declared.place.Life.TheVariants as life
use Rattle.io_rules.specs.declared.place.Place.{Place}
use Rattle.io_rules.specs.declared.spares.Spares.{Spares}
use Rattle.io_rules.specs.Cancelling.{ops_cancelled}
use Rattle.io_rules.specs.Calls.{caller_lane, first_phase}
use Rattle.io_rules.specs.Changes.{MayChangeTo, MayMake, has_spare, is_forgotten, is_kept, is_there, names_changed, ops_changed, place_freed, reached, spare_used, streams_changed}
use Rattle.io_rules.specs.Executions.{granted_more, spares_in, spares_of}
use Rattle.io_rules.specs.Legal.{IsLegal, after, state_of}
use Rattle.io_rules.specs.Names.{is_closing, is_current, is_leaving, is_living, is_unused, place_at, with_life}
use Rattle.io_rules.specs.Ops.{is_at, is_ready, is_running, op_at}
use Rattle.io_rules.specs.Room.{at_op, grant_of, granted_in, more_granted, one_if, place_given, place_given_by}
use Rattle.io_rules.specs.Serving.{first_of, op_of}
use Rattle.io_rules.specs.Spares.{MayKeep, first_of_two, is_spare}
use Rattle.io_rules.specs.declared.op.Op.{Op}
use Rattle.io_rules.specs.declared.op.Phase.{Phase}
use Rattle.io_rules.specs.State.{ContextState, StreamState, new_stream, stream_at, with_stream}
use Rattle.io_rules.specs.Strands.{entry_of}
use Rattle.io_rules.specs.Tries.{MayReserve, is_accept_of, is_made, may_be_tried, place_closed, place_kept, place_made, stream_back, stream_closed, stream_made}
use Rattle.io_rules.proofs.KeptLemmas.{spare_at}
use Rattle.io_rules.proofs.MoveLemmas.{dropping}
use Rattle.io_rules.proofs.RoomLemmas.{first_calm}
use Rattle.io_rules.proofs.ShareLemmas.{weighed, weighed-called, weighed-cancelled, weighed-changed, weighed-done, weighed-told, weighed-without}
use Rattle.io_rules.proofs.StrandLemmas.{both, same-name}
use Rattle.io_rules.proofs.TotalLemmas.{found, same, total, total-kept_of}
use Rattle.io_scheduler.proofs.KeptNamesLemmas.{KeptAt, at_most, calm_spared, closing_not, differ, gives_back, is_kept_life, keepers, keeps_more, keeps_one, living_not, none_kept, not_kept_still, reserved_at, reserved_called, reserved_done, reserved_none, reserved_searched, reserved_set, set_keeps, spared, unused_not, used_place}

-- ---- shares of handlers

-- calls leave the spares
spare_given : (p : ℕ) (a : Phase) → spare_at p (spares_in (place_given a)).stream ≡ spare_at p (spares_in a).stream
spare_given p (phase.Pending moved cancelled) = refl
spare_given p (phase.Settled code size) = refl
spare_given p (phase.Ready code size) = refl
spare_given p (phase.Running own grant spares) = by_grant (nat_lt 0 grant)
  where
    by_grant : (b : Bool) →
        spare_at p
        (spares_in (if b then phase.Running own (grant - 1) spares else phase.Running false 0 spares)).stream ≡
        spare_at p spares.stream
    by_grant true = refl
    by_grant false = refl

total_given : (p : ℕ) (by : Option ℕ) (ops : List Op) →
    total (weighed (spared p)) (place_given_by by ops) ≡ total (weighed (spared p)) ops
total_given p by ops =
    total-kept_of (weighed (spared p)) by (λ op. place_given op.phase) (λ op. spare_given p op.phase) ops

ready_none : (p : ℕ) (a : Phase) → is_ready a ≡ true → spare_at p (spares_in a).stream ≡ 0
ready_none p (phase.Ready code size) is = refl
ready_none p (phase.Pending moved cancelled) is = absurd (true≢false (sym is))
ready_none p (phase.Settled code size) is = absurd (true≢false (sym is))
ready_none p (phase.Running own grant spares) is = absurd (true≢false (sym is))

calm_none : (p n : ℕ) (a : Phase) → is_running a ≡ false → spared p n a ≡ 0
calm_none p n a isnt = calm_spared p n a (phase.Ready code.Ok 0) isnt refl

-- a handler that is granted more
granted_spares : (more : ℕ) (taken : Spares) (a : Phase) → is_running a ≡ true →
    (spares_in (granted_more more taken a)).stream ≡ first_of_two (spares_in a).stream taken.stream
granted_spares more taken (phase.Running own grant spares) is = refl
granted_spares more taken (phase.Pending moved cancelled) is = absurd (true≢false (sym is))
granted_spares more taken (phase.Settled code size) is = absurd (true≢false (sym is))
granted_spares more taken (phase.Ready code size) is = absurd (true≢false (sym is))

-- ---- what is made and freed

abbrev pub is_stream_kind : Kind → Bool
is_stream_kind kind.Stream = true
is_stream_kind kind.Listener = true
is_stream_kind _ = false

other_spare : (p : ℕ) (of : Kind) (a : Phase) → is_stream_kind of ≡ false →
    spare_at p (spares_in (spare_used of a)).stream ≡ spare_at p (spares_in a).stream
other_spare p of (phase.Pending moved cancelled) is = refl
other_spare p of (phase.Settled code size) is = refl
other_spare p of (phase.Ready code size) is = refl
other_spare p kind.Timer (phase.Running own grant spares) is = refl
other_spare p kind.Slot (phase.Running own grant spares) is = refl
other_spare p kind.Strand (phase.Running own grant spares) is = refl
other_spare p kind.Stream (phase.Running own grant spares) is = absurd (true≢false is)
other_spare p kind.Listener (phase.Running own grant spares) is = absurd (true≢false is)

total_other : (p : ℕ) (of : Kind) (name : Name) (by : Option ℕ) (ops : List Op) → is_stream_kind of ≡ false →
    total (weighed (spared p)) (ops_changed by (control.Make of name) ops) ≡ total (weighed (spared p)) ops
total_other p of name by ops is =
    total-kept_of (weighed (spared p)) by (λ op. spare_used of op.phase) (λ op. other_spare p of op.phase is) ops

abbrev UsesSpare : ℕ → Kind → Name → Phase → Type 0
UsesSpare p of name a =
    (spare_at p (spares_in a).stream ≡ one_if (name.place == p)) × (spare_at p (spares_in (spare_used of a)).stream ≡ 0)

by_spare : (p : ℕ) (name : Name) (spare : Option Name) → is_spare name spare ≡ true →
    spare_at p spare ≡ one_if (name.place == p)
by_spare p name None is = absurd (true≢false (sym is))
by_spare p name (Some spare) is = ap (λ (n : Name). one_if (n.place == p)) (same-name spare name is)

used_spare : (p : ℕ) (of : Kind) (name : Name) (a : Phase) → is_stream_kind of ≡ true → has_spare of name a ≡ true →
    UsesSpare p of name a
used_spare p kind.Stream name (phase.Running own grant spares) stream is = (by_spare p name spares.stream is, refl)
used_spare p kind.Listener name (phase.Running own grant spares) stream is = (by_spare p name spares.stream is, refl)
used_spare p kind.Strand name (phase.Running own grant spares) stream is = absurd (true≢false (sym stream))
used_spare p kind.Timer name (phase.Running own grant spares) stream is = absurd (true≢false (sym stream))
used_spare p kind.Slot name (phase.Running own grant spares) stream is = absurd (true≢false (sym stream))
used_spare p of name (phase.Pending moved cancelled) stream is = absurd (true≢false (sym is))
used_spare p of name (phase.Settled code size) stream is = absurd (true≢false (sym is))
used_spare p of name (phase.Ready code size) stream is = absurd (true≢false (sym is))

abbrev MayMakeAt : ContextState → Kind → Name → Option ℕ → Type 0
MayMakeAt s of name None = (is_current s.names.streams name && is_unused (place_at s.names.streams name.place).life) ≡ true
MayMakeAt s of name (Some by) = is_at (has_spare of name) s.ops by ≡ true

-- one that is made, from outside or by a handler that had a name for it
made_stream : (p : ℕ) (s : ContextState) (of : Kind) (name : Name) (by : Option ℕ) (ops : List Op)
    (streams : List StreamState) → is_stream_kind of ≡ true → ops ≡ s.ops →
    reserved_at p streams ≤ reserved_at p s.streams → MayMakeAt s of name by → KeptAt p (keepers p s) s.names.streams →
    KeptAt p (total (weighed (spared p)) (ops_changed by (control.Make of name) ops) + reserved_at p streams)
    (with_life life.Alive name s.names.streams)
made_stream p s of name None ops streams stream same_ops less may kept =
    let unused = (both (is_current s.names.streams name) (is_unused (place_at s.names.streams name.place).life) may).other in
    let is = ap (total (weighed (spared p))) same_ops in
    used_place p _ s.names.streams name _ (unused_not (place_at s.names.streams name.place).life unused)
    (omega (arith, is, less, kept))
made_stream p s of name (Some by) ops streams stream same_ops less may kept =
    let it = found (has_spare of name) ops by
    (subst (λ xs. is_at (has_spare of name) xs by ≡ true) (sym same_ops) may) in
    let is = ap (total (weighed (spared p))) same_ops in
    let change = weighed-changed (spared p) ops by (λ op. spare_used of op.phase) it.op it.is in
    let spare = used_spare p of name it.op.phase stream it.passed in
    let one = spare.0 in let none = spare.1 in
    set_keeps p name.place (keepers p s) _ s.names.streams _ kept
    (λ here.
    let counted = ap one_if (subst (λ k. (name.place == k) ≡ true) here (same name.place)) in
    let most = at_most (is_kept_life (place_at s.names.streams p).life) in
    omega (arith, is, less, kept, change, one, none, counted, most))
    (λ other. let counted = ap one_if (differ name.place p other) in omega (arith, is, less, change, one, none, counted))

pub living_of : (s : ContextState) (of : Kind) (name : Name) → is_stream_kind of ≡ true → is_there s of name ≡ true →
    is_living (place_at s.names.streams name.place).life ≡ true
living_of s kind.Stream name stream is =
    (both (is_current s.names.streams name) (is_living (place_at s.names.streams name.place).life)
    (both _ (not (stream_at s.streams name).listener) is).one).other
living_of s kind.Listener name stream is =
    (both (is_current s.names.streams name) (is_living (place_at s.names.streams name.place).life)
    (both _ (stream_at s.streams name).listener is).one).other
living_of s kind.Strand name stream is = absurd (true≢false (sym stream))
living_of s kind.Timer name stream is = absurd (true≢false (sym stream))
living_of s kind.Slot name stream is = absurd (true≢false (sym stream))

-- one that is freed
freed_stream : (p many : ℕ) (s : ContextState) (name : Name) (there kept : Bool) →
    (there ≡ true → is_living (place_at s.names.streams name.place).life ≡ true) → KeptAt p many s.names.streams →
    KeptAt p many (place_freed there kept name s.names.streams)
freed_stream p many s name false kept living fits = fits
freed_stream p many s name true true living fits =
    used_place p many s.names.streams name _ (living_not (place_at s.names.streams name.place).life (living refl)) fits
freed_stream p many s name true false living fits =
    used_place p many s.names.streams name _ (living_not (place_at s.names.streams name.place).life (living refl)) fits

reserved_if : (p : ℕ) (streams : List StreamState) (name : Name) (b : Bool) →
    reserved_at p (if b then with_stream name new_stream streams else streams) ≤ reserved_at p streams
reserved_if p streams name true = reserved_none p streams name new_stream refl
reserved_if p streams name false = omega arith

-- control calls; what they cancel has no spares
changed_kept : (p : ℕ) (s : ContextState) (by : Option ℕ) (change : Control) (ops : List Op) → MayChangeTo s by change →
    total (weighed (spared p)) ops ≡ total (weighed (spared p)) s.ops → KeptAt p (keepers p s) s.names.streams →
    (reached s change ≡ [] → ops ≡ s.ops) →
    KeptAt p (total (weighed (spared p)) (ops_changed by change ops) + reserved_at p (streams_changed s change))
    (names_changed s change).streams
changed_kept p s by (control.Make kind.Stream name) ops may is kept same_ops =
    made_stream p s kind.Stream name by ops (with_stream name new_stream s.streams) refl (same_ops refl)
    (reserved_none p s.streams name new_stream refl) (may_at by may) kept
  where
    may_at : (who : Option ℕ) → MayMake s kind.Stream name who → MayMakeAt s kind.Stream name who
    may_at None it = it
    may_at (Some n) it = it
changed_kept p s by (control.Make kind.Listener name) ops may is kept same_ops =
    made_stream p s kind.Listener name by ops (with_stream name (record new_stream { listener = true }) s.streams) refl (same_ops refl)
    (reserved_none p s.streams name (record new_stream { listener = true }) refl) (may_at by may) kept
  where
    may_at : (who : Option ℕ) → MayMake s kind.Listener name who → MayMakeAt s kind.Listener name who
    may_at None it = it
    may_at (Some n) it = it
changed_kept p s by (control.Make kind.Strand name) ops may is kept same_ops =
    let other = total_other p kind.Strand name by ops refl in omega (arith, other, is, kept)
changed_kept p s by (control.Make kind.Timer name) ops may is kept same_ops =
    let other = total_other p kind.Timer name by ops refl in omega (arith, other, is, kept)
changed_kept p s by (control.Make kind.Slot name) ops may is kept same_ops =
    let other = total_other p kind.Slot name by ops refl in omega (arith, other, is, kept)
changed_kept p s by (control.Free kind.Stream name) ops may is kept same_ops =
    let less = reserved_if p s.streams name (is_forgotten s kind.Stream name) in
    freed_stream p _ s name (is_there s kind.Stream name) (is_kept s kind.Stream name)
    (λ there. living_of s kind.Stream name refl there) (omega (arith, is, less, kept))
changed_kept p s by (control.Free kind.Listener name) ops may is kept same_ops =
    let less = reserved_if p s.streams name (is_forgotten s kind.Listener name) in
    freed_stream p _ s name (is_there s kind.Listener name) (is_kept s kind.Listener name)
    (λ there. living_of s kind.Listener name refl there) (omega (arith, is, less, kept))
changed_kept p s by (control.Free kind.Strand name) ops may is kept same_ops = omega (arith, is, kept)
changed_kept p s by (control.Free kind.Timer name) ops may is kept same_ops = omega (arith, is, kept)
changed_kept p s by (control.Free kind.Slot name) ops may is kept same_ops = omega (arith, is, kept)
changed_kept p s by _ ops may is kept same_ops = omega (arith, is, kept)

-- ---- sockets go into system calls, and come back

tried_kept : (p : ℕ) (s : ContextState) (stream : StreamState) (many : ℕ) (first : Option ℕ) (reserved : Option Name) →
    may_be_tried stream (op_of s.ops first) ≡ true → MayReserve s.names (is_accept_of (op_of s.ops first)) reserved →
    KeptAt p many s.names.streams → KeptAt p (many + spare_at p reserved) (place_kept first reserved s.names.streams)
tried_kept p s stream many None reserved head may kept = absurd (true≢false (sym head))
tried_kept p s stream many (Some n) None head may kept = omega (arith, kept)
tried_kept p s stream many (Some n) (Some name) head may kept =
    keeps_one p n many s.names.streams (Some name) (is_free_for (is_accept_of (op_of s.ops (Some n))) may) kept
  where
    is_free_for : (b : Bool) → MayReserve s.names b (Some name) → MayKeep s.names.streams None (Some name)
    is_free_for true it = it
    is_free_for false it = absurd (cc)

reserved_made : (p : ℕ) (given : Gave) (reserved : Option Name) (streams : List StreamState) →
    reserved_at p (stream_made given reserved streams) ≤ reserved_at p streams
reserved_made p given None streams = omega arith
reserved_made p given (Some name) streams = by_made (is_made given)
  where
    by_made : (b : Bool) →
        reserved_at p (if b then with_stream name (record new_stream { linked = true }) streams else streams)
        ≤ reserved_at p streams
    by_made true = reserved_none p streams name (record new_stream { linked = true }) refl
    by_made false = omega arith

reserved_closed : (p : ℕ) (closed : Bool) (name : Name) (streams : List StreamState) →
    reserved_at p (stream_closed closed name streams) ≤ reserved_at p streams
reserved_closed p false name streams = omega arith
reserved_closed p true name streams = reserved_none p streams name new_stream refl

made_not : (given : Gave) → is_kept_life (if is_made given then life.Alive else life.Free) ≡ false
made_not given = by_made (is_made given)
  where
    by_made : (b : Bool) → is_kept_life (if b then life.Alive else life.Free) ≡ false
    by_made true = refl
    by_made false = refl

closed_kept : (p many : ℕ) (places : List Place) (given : Gave) (reserved : Option Name) (name : Name) (closed : Bool) →
    is_leaving places name ≡ closed → KeptAt p many (place_made given reserved places) →
    KeptAt p many (place_closed closed name (place_made given reserved places))
closed_kept p many places given reserved name false is kept = kept
closed_kept p many places given reserved name true is kept =
    let closing = (both (is_current places name) (is_closing (place_at places name.place).life) is).other in
    used_place p many (place_made given reserved places) name _
    (not_kept_still _ places reserved name.place (made_not given) (closing_not (place_at places name.place).life closing))
    kept

back_kept : (p : ℕ) (s : ContextState) (name : Name) (on : Side) (given : Gave) → KeptAt p (keepers p s) s.names.streams →
    KeptAt p (keepers p (after (event.Back name on given) s)) (after (event.Back name on given) s).names.streams
back_kept p s name on given kept =
    let stream = stream_at s.streams name in
    let closed = is_leaving s.names.streams name in
    let same_total = weighed-told (spared p) (calm_spared p) (event.Back name on given) s refl in
    let in_again = with_stream name (stream_back given stream) s.streams in
    let set = reserved_set p s.streams name.place (stream_back given stream) in
    let made = reserved_made p given stream.reserved in_again in
    let left = reserved_closed p closed name (stream_made given stream.reserved in_again) in
    closed_kept p _ s.names.streams given stream.reserved name closed refl
    (gives_back p (keepers p s) _ _ s.names.streams stream.reserved kept (omega (arith, same_total, set, made, left)))

kept_here : (limits : Limits) (past : List Event) → IsLegal limits past → (p : ℕ) →
    KeptAt p (keepers p (state_of limits past)) (state_of limits past).names.streams
kept_here limits [] legal p =
    let none = sum_by-replicate (λ (stream : StreamState). spare_at p stream.reserved) limits.streams new_stream in
    omega (arith, none)
kept_here limits (event.Called op by request given ∷ past) legal p =
    let s = state_of limits past in
    let before = kept_here limits past legal.1 p in
    let entry = entry_of (caller_lane s.ops by) request given in
    let call = weighed-called (spared p) (calm_spared p) op by request given s in
    let same_total = total_given p by s.ops in
    let none = calm_none p op (first_phase entry given) (first_calm entry given) in
    let less = reserved_called p op by request given s in
    omega (arith, before, call, same_total, none, less)
kept_here limits (event.Done op code size ∷ past) legal p =
    let before = kept_here limits past legal.1 p in
    let done = weighed-done (spared p) (calm_spared p) op code size (state_of limits past) legal.0 in
    let less = reserved_done p op code size (state_of limits past) in
    omega (arith, before, done, less)
kept_here limits (event.Begun op spares ∷ past) legal p =
    let s = state_of limits past in
    let it = found is_ready s.ops op legal.0.ready in
    let change = weighed-changed (spared p) s.ops op (λ other. phase.Running true (grant_of s) spares) it.op it.is in
    keeps_more p op (keepers p s) s.names.streams None spares.stream legal.0.names.stream
    (kept_here limits past legal.1 p) 0 (spare_at p spares.stream) refl refl _
    (let none = ready_none p it.op.phase it.passed in omega (arith, change, none))
kept_here limits (event.Granted op spares ∷ past) legal p =
    let s = state_of limits past in
    let it = found is_running s.ops op legal.0.runs in
    let more = more_granted s (at_op granted_in s.ops op) in
    let change = weighed-changed (spared p) s.ops op (λ o. granted_more more spares o.phase) it.op it.is in
    let had = (spares_in it.op.phase).stream in
    keeps_more p op (keepers p s) s.names.streams had spares.stream
    (subst (λ o. MayKeep s.names.streams (spares_of o).stream spares.stream) it.is legal.0.names.stream)
    (kept_here limits past legal.1 p) (spare_at p had) (spare_at p (first_of_two had spares.stream)) refl refl _
    (let joined = ap (spare_at p) (granted_spares more spares it.op.phase it.passed) in omega (arith, change, joined))
kept_here limits (event.Ended op mark ∷ past) legal p =
    let s = state_of limits past in
    let it = found is_running s.ops op legal.0.runs in
    let left = weighed-without (spared p) s.ops op it.op it.is in
    gives_back p (keepers p s) _ life.Free s.names.streams (spares_of (op_at s.ops op)).stream (kept_here limits past legal.1 p)
    (let own = ap (λ o. spare_at p (spares_of o).stream) it.is in omega (arith, left, own))
kept_here limits (event.Dropped op mark ∷ past) legal p =
    let s = state_of limits past in
    let before = kept_here limits past legal.1 p in
    let it = dropping s op mark legal.0 in
    let left = weighed-without (spared p) s.ops op it.it it.is in
    omega (arith, before, left)
kept_here limits (event.Changed by change ∷ past) legal p =
    let s = state_of limits past in
    changed_kept p s by change (ops_cancelled s (reached s change) s.ops) legal.0.allowed
    (weighed-cancelled (spared p) (calm_spared p) s (reached s change) s.ops) (kept_here limits past legal.1 p)
    (λ none. ap (λ numbers. ops_cancelled s numbers s.ops) none)
kept_here limits (event.Tried name on reserved ∷ past) legal p =
    let s = state_of limits past in
    let stream = stream_at s.streams name in
    let set = reserved_set p s.streams name.place (record stream { out = Some on; reserved = reserved }) in
    let all = tried_kept p s stream (keepers p s) (first_of on stream) reserved legal.0.head legal.0.place
    (kept_here limits past legal.1 p) in
    omega (arith, set, all)
kept_here limits (event.Back name on given ∷ past) legal p =
    back_kept p (state_of limits past) name on given (kept_here limits past legal.1 p)
kept_here limits (event.Searched name end ∷ past) legal p =
    let before = kept_here limits past legal.1 p in
    let same_total = weighed-told (spared p) (calm_spared p) (event.Searched name end) (state_of limits past) refl in
    let less = reserved_searched p (state_of limits past) name end in
    omega (arith, before, same_total, less)
kept_here limits (e ∷ past) legal p = kept_here limits past legal.1 p

-- nobody has a name of a place that isn't kept
pub unkept : (limits : Limits) (past : List Event) → IsLegal limits past → (p : ℕ) →
    is_kept_life (place_at (state_of limits past).names.streams p).life ≡ false → keepers p (state_of limits past) ≡ 0
unkept limits past legal p isnt =
    none_kept p _ (state_of limits past).names.streams isnt (kept_here limits past legal p)
