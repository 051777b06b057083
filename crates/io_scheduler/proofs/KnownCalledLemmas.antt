-- What is pending on a stream names what is there: calls, ends, and what is cancelled.
use Rattle.std.proofs.Common.{arith, ap, refl, subst, sym, ◌∙◌, ⊎_elim, inl, inr}
use Rattle.std.proofs.lemmas.Bool.{true≢false}
use Rattle.std.proofs.lemmas.List.{get_or-set_other}
use Rattle.std.specs.Prelude.{◌≡◌, ◌<◌, ◌⊎◌, ℕ, ◌==◌, ◌&&◌, ◌||◌, not, Bool, true, false, List, [], ◌∷◌, ◌++◌, Option, Some, None, cond, filter, map, slice_get, if◌then◌else◌}
use Rattle.std.specs.List.{slice_index_or}
use Rattle.io_rules.specs.declared.event.Event.TheVariants as event
use Rattle.io_rules.specs.declared.name.Name.{Name}
use Rattle.io_rules.specs.declared.op.Op.{Op}
use Rattle.io_rules.specs.declared.op.Phase.{Phase}
use Rattle.io_rules.specs.declared.op.Phase.TheVariants as phase
use Rattle.io_rules.specs.declared.operation.Side.{Side}
use Rattle.io_rules.specs.declared.place.Life.TheVariants as life
use Rattle.io_rules.specs.declared.place.Place.{Place}
use Rattle.io_rules.specs.declared.request.Gone.{Gone}
use Rattle.io_rules.specs.declared.request.Gone.TheVariants as gone
use Rattle.io_rules.specs.declared.request.Request.{Request}
use Rattle.io_rules.specs.Calls.{accepted, caller_lane, first_phase, gone_of, new_op, streams_called, target_if}
use Rattle.io_rules.specs.Cancelling.{cancelled_phase, is_among, is_first, is_out_for, is_stream_of, is_tried, is_tried_at, ops_cancelled, pending_of, queue_of}
use Rattle.io_rules.specs.Changes.{is_out, place_freed}
use Rattle.io_rules.specs.Legal.{after}
use Rattle.io_rules.specs.Names.{is_alive, is_closing, is_current, is_living, place_at, same_name}
use Rattle.io_rules.specs.Operations.{Target, target_of}
use Rattle.io_rules.specs.Ops.{is_pending, is_untouched, op_at, phase_changed, without}
use Rattle.io_rules.specs.Room.{place_given_by}
use Rattle.io_rules.specs.Serving.{first_of, streams_served}
use Rattle.io_rules.specs.State.{ContextState, StreamState, new_stream, stream_at, with_stream}
use Rattle.io_rules.specs.Strands.{Entry, Later, First, Last, entry_of}
use Rattle.io_rules.proofs.RiseLemmas.{Rises}
use Rattle.io_rules.proofs.StrandLemmas.{both, by_test, generation-with_life}
use Rattle.io_rules.proofs.TotalLemmas.{apart, each-at, equal, number-op_at, same}
use Rattle.io_scheduler.proofs.CurrentLemmas.{Came, ComesFrom, came_cancelled, came_changed_of, came_itself, came_more, came_served, given_keeps, the_changed}
use Rattle.io_scheduler.proofs.UnusedLemmas.{target_alive}
use Rattle.io_scheduler.proofs.KnownStillLemmas.{AreKnown, IsKnown, SameClosing, alive_living, known_one, living_not, place_other, same_itself, stays_still, stream_other}

-- ---- calls

came_then : (old mid : List Op) → ComesFrom old mid → (n : ℕ) (it : Op) → Came mid n it → Came old n it
came_then old mid first n it b =
    let a = first n b.op b.is in
    record {
      op = a.op;
      is = a.is;
      number = b.number ∙ a.number;
      kind = b.kind ∙ a.kind;
      pending = λ p. a.pending (b.pending p);
      cancelled = λ p c. b.cancelled p (a.cancelled (b.pending p) c);
    }

at_yes : (x : Op) (ops : List Op) (n : ℕ) → (x.number == n) ≡ true → op_at (x ∷ ops) n ≡ Some x
at_yes x ops n is = ap (λ b. if b then Some x else op_at ops n) is

at_no : (x : Op) (ops : List Op) (n : ℕ) → (x.number == n) ≡ false → op_at (x ∷ ops) n ≡ op_at ops n
at_no x ops n is = ap (λ b. if b then Some x else op_at ops n) is

pub some_is : {X : Type 0} (a b : X) → Some a ≡ Some b → a ≡ b
some_is a b is = cc

-- what is found with one more at the end
push_found : (ops : List Op) (new : Op) (n : ℕ) (it : Op) → op_at (ops ++ new ∷ []) n ≡ Some it →
    (op_at ops n ≡ Some it) ⊎ (it ≡ new)
push_found [] new n it is =
    by_test (new.number == n) (λ this. inr (sym (some_is new it (sym (at_yes new [] n this) ∙ is))))
    (λ other. absurd (nothing (sym (at_no new [] n other) ∙ is)))
  where
    nothing : None ≡ Some it → ⊥
    nothing e = cc
push_found (x ∷ ops) new n it is =
    by_test (x.number == n)
    (λ this. inl (at_yes x ops n this ∙ sym (at_yes x (ops ++ new ∷ []) n this) ∙ is))
    (λ other.
    ⊎_elim (λ (l : op_at ops n ≡ Some it). inl (at_no x ops n other ∙ l)) (λ (r : it ≡ new). inr r)
    (push_found ops new n it (sym (at_no x (ops ++ new ∷ []) n other) ∙ is)))

pending_called : (entry : Entry) (given : Gone) → is_pending (first_phase entry given) ≡ true → given ≡ gone.Nothing
pending_called First given is = absurd (true≢false (sym is))
pending_called Last given is = absurd (true≢false (sym is))
pending_called Later gone.Nothing is = refl
pending_called Later gone.Strand is = absurd (true≢false (sym is))
pending_called Later gone.Other is = absurd (true≢false (sym is))

pub alive_not : (places : List Place) (name : Name) → is_alive places name ≡ true →
    is_closing (place_at places name.place).life ≡ true → ⊥
alive_not places name alive = living_not (place_at places name.place).life (alive_living places name alive)

abbrev IsAliveIf : List Place → Gone → Option Target → Type 0
IsAliveIf places given target =
    given ≡ gone.Nothing → (t : Target) → target ≡ Some t → is_alive places t.stream ≡ true

pushed_same : (n : ℕ) (places : List Place) (given : Gone) (target : Option Target) (streams : List StreamState) →
    IsAliveIf places given target → SameClosing places streams (streams_called n given target streams)
pushed_same n places gone.Nothing (Some t) streams alive p closing =
    stream_other places streams t.stream.place _ p (alive_not places t.stream (alive refl t refl)) closing
pushed_same n places gone.Nothing None streams alive p closing = refl
pushed_same n places gone.Strand target streams alive p closing = refl
pushed_same n places gone.Other target streams alive p closing = refl

served_same : (places : List Place) (s : ContextState) (given : Gone) (target : Option Target) →
    IsAliveIf places given target → SameClosing places s.streams (streams_served s (target_if given target))
served_same places s gone.Nothing (Some t) alive p closing =
    stream_other places s.streams t.stream.place _ p (alive_not places t.stream (alive refl t refl)) closing
served_same places s gone.Nothing None alive p closing = refl
served_same places s gone.Strand target alive p closing = refl
served_same places s gone.Other target alive p closing = refl

pub known_called : (s : ContextState) (m : ℕ) (by : Option ℕ) (request : Request) (given : Gone) → given ≡ gone_of s request →
    AreKnown s.ops s.names.streams s.streams →
    AreKnown (after (event.Called m by request given) s).ops s.names.streams
    (after (event.Called m by request given) s).streams
known_called s m by request given names all n it target is pends on =
    let places = s.names.streams in
    let entry = entry_of (caller_lane s.ops by) request given in
    let first = accepted entry m by request given s in
    let new = after (event.Called m by request given) s in
    let alive : IsAliveIf places given (target_of request.kind) =
    λ none t at. target_alive s request given t names none at in
    let mid = came_served first (target_if given (target_of request.kind)) n it is in
    ⊎_elim
    (λ (old : op_at (place_given_by by s.ops) n ≡ Some mid.op).
    let came = came_then s.ops (place_given_by by s.ops) (came_changed_of by _ given_keeps s.ops) n it
    (record {
      op = mid.op;
      is = old;
      number = mid.number;
      kind = mid.kind;
      pending = mid.pending;
      cancelled = mid.cancelled;
    }) in
    known_one s.ops places places s.streams new.streams n it target all pends on came
    (stays_still places places s.streams new.streams n target (same_itself places)
    (λ closing.
    served_same places first given (target_of request.kind) alive target.stream.place closing
    ∙ pushed_same m places given (target_of request.kind) s.streams alive target.stream.place closing)))
    (λ (fresh : mid.op ≡ new_op entry m request given).
    let none = pending_called entry given
    (sym (ap (λ (o : Op). is_pending o.phase) fresh) ∙ mid.pending pends) in
    let at : target_of request.kind ≡ Some target =
    sym (ap (λ (o : Op). target_of o.kind) fresh) ∙ sym (ap target_of mid.kind) ∙ on in
    let is_there = alive none target at in
    record {
      current = (both (is_current places target.stream) (is_living (place_at places target.stream.place).life) is_there).one;
      closing = λ closing. absurd (alive_not places target.stream is_there closing);
    })
    (push_found (place_given_by by s.ops) (new_op entry m request given) n mid.op mid.is)

-- ---- ends

pub came_without : (m : ℕ) (ops : List Op) → Rises ops → ComesFrom ops (without m ops)
came_without m [] rises n it is = absurd (cc)
came_without m (x ∷ ops) rises n it is =
    by_test (x.number == m)
    (λ gone.
    let found = sym (ap (λ b. op_at (if b then ops else x ∷ without m ops) n) gone) ∙ is in
    by_test (x.number == n)
    (λ this.
    let above = each-at (λ k on. x.number < k) n ops it rises.0 found in
    let number = number-op_at n ops it found in
    let here = equal x.number n this in
    absurd (omega (arith, above, number, here)))
    (λ other. came_more x ops n it other (came_itself ops n it found)))
    (λ stays.
    let found = sym (ap (λ b. op_at (if b then ops else x ∷ without m ops) n) stays) ∙ is in
    by_test (x.number == n)
    (λ this.
    let it_is : x ≡ it = some_is x it (sym (at_yes x (without m ops) n this) ∙ found) in
    came_itself (x ∷ ops) n it (at_yes x ops n this ∙ ap Some it_is))
    (λ other.
    came_more x ops n it other (came_without m ops rises.1 n it (sym (at_no x (without m ops) n other) ∙ found))))

-- ---- what is cancelled

-- it is the one whose system call is under way, and is cancelled now
abbrev IsCancelledLast : ContextState → Op → Type 0
IsCancelledLast s it = is_pending it.phase ≡ true → (is_tried s it ≡ true) × (is_untouched it.phase ≡ false)

last_phase : (t : Bool) (p : Phase) → is_pending (cancelled_phase t p) ≡ true →
    (t ≡ true) × (is_untouched (cancelled_phase t p) ≡ false)
last_phase true (phase.Pending m c) is = (refl, refl)
last_phase false (phase.Pending m c) is = absurd (true≢false (sym is))
last_phase t (phase.Settled given size) is = absurd (true≢false (sym is))
last_phase t (phase.Ready given size) is = absurd (true≢false (sym is))
last_phase t (phase.Running own grant spares) is = absurd (true≢false (sym is))

last_came : (s : ContextState) (old : List Op) (n : ℕ) (it : Op) (came : Came old n it) → IsCancelledLast s came.op →
    IsCancelledLast s it
last_came s old n it came last is =
    let before = last (came.pending is) in (
      ap (λ k. is_tried_at s k (target_of it.kind)) came.number ∙ ap (λ k. is_tried_at s came.op.number (target_of k)) came.kind
          ∙ before.0,
      came.cancelled is before.1,
    )

cancelled_last : (s : ContextState) (numbers : List ℕ) (ops : List Op) (n : ℕ) (it : Op) → is_among numbers n ≡ true →
    op_at (ops_cancelled s numbers ops) n ≡ Some it → IsCancelledLast s it
cancelled_last s [] ops n it among is = absurd (true≢false (sym among))
cancelled_last s (m ∷ numbers) ops n it among is =
    let g : Op → Phase = λ op. cancelled_phase (is_tried s op) op.phase in
    let mid = phase_changed m g ops in
    by_test (m == n)
    (λ here.
    let came = came_cancelled s numbers mid n it is in
    let one = the_changed m g ops came.op (ap (op_at mid) (equal m n here) ∙ came.is) in
    last_came s mid n it came
    (subst (IsCancelledLast s) (sym one.now)
    (λ pends. last_phase (is_tried s one.op) one.op.phase pends)))
    (λ other.
    cancelled_last s numbers mid n it (sym (ap (λ b. b || is_among numbers n) other) ∙ among) is)

-- what passes a test is among those that do
among_filter : (test : Op → Bool) (ops : List Op) (n : ℕ) (it : Op) → op_at ops n ≡ Some it → test it ≡ true →
    is_among (map (λ (op : Op). op.number) (filter test ops)) n ≡ true
among_filter test [] n it is passes = absurd (cc)
among_filter test (x ∷ ops) n it is passes =
    by_test (x.number == n)
    (λ this.
    let it_is : x ≡ it = some_is x it (sym (at_yes x ops n this) ∙ is) in
    ap (λ b. is_among (map (λ (op : Op). op.number) (cond b (x ∷ filter test ops) (filter test ops))) n)
    (ap test it_is ∙ passes)
    ∙ ap (λ b. b || is_among (map (λ (op : Op). op.number) (filter test ops)) n) this)
    (λ other.
    let rest = among_filter test ops n it (sym (at_no x ops n other) ∙ is) passes in
    by_test (test x)
    (λ yes.
    ap (λ b. is_among (map (λ (op : Op). op.number) (cond b (x ∷ filter test ops) (filter test ops))) n) yes
    ∙ ap (λ b. b || is_among (map (λ (op : Op). op.number) (filter test ops)) n) other ∙ rest)
    (λ no.
    ap (λ b. is_among (map (λ (op : Op). op.number) (cond b (x ∷ filter test ops) (filter test ops))) n) no ∙ rest))

pub current_same : (places : List Place) (a b : Name) → is_current places a ≡ true → is_current places b ≡ true →
    a.place ≡ b.place → same_name a b ≡ true
current_same places a b one other at =
    let generation : a.generation ≡ b.generation =
    sym (equal (place_at places a.place).generation a.generation one) ∙ ap (λ p. (place_at places p).generation) at
    ∙ equal (place_at places b.place).generation b.generation other in
    ap (λ c. c && (a.generation == b.generation)) (subst (λ p. (a.place == p) ≡ true) at (same a.place))
    ∙ subst (λ n. (a.generation == n) ≡ true) generation (same a.generation)

-- what a cancellation leaves pending
record IsTried (streams : List StreamState) (n : ℕ) (target : Target) : Type 0 where
  out : is_out_for target.side (stream_at streams target.stream).out ≡ true
  first : first_of target.side (stream_at streams target.stream) ≡ Some n

first_number : (first : Option ℕ) (n : ℕ) → is_first first n ≡ true → first ≡ Some n
first_number None n is = absurd (true≢false (sym is))
first_number (Some first) n is = ap Some (equal first n is)

tried_parts : (s : ContextState) (n : ℕ) (target : Target) → is_tried_at s n (Some target) ≡ true →
    IsTried s.streams n target
tried_parts s n target is =
    let stream = stream_at s.streams target.stream in
    let outer = both (is_current s.names.streams target.stream && is_out_for target.side stream.out)
    (is_first (slice_get (queue_of target.side stream) 0) n) is in
    record {
      out = (both (is_current s.names.streams target.stream) (is_out_for target.side stream.out) outer.one).other;
      first = first_number (slice_get (queue_of target.side stream) 0) n outer.other;
    }

out_if : (on : Side) (out : Option Side) → is_out_for on out ≡ true → is_out out ≡ true
out_if on None is = absurd (true≢false (sym is))
out_if on (Some side) is = refl

pub known_freed : (s : ContextState) (name : Name) (there kept : Bool) →
    (there ≡ true → is_alive s.names.streams name ≡ true) → is_out (stream_at s.streams name).out ≡ kept →
    AreKnown s.ops s.names.streams s.streams →
    AreKnown (ops_cancelled s (if there then pending_of name s else []) s.ops) (place_freed there kept name s.names.streams)
    (if there && not kept then with_stream name new_stream s.streams else s.streams)
known_freed s name false kept alive out all n it target is pends on = all n it target is pends on
known_freed s name true kept alive out all n it target is pends on =
    let places = s.names.streams in
    let numbers = pending_of name s in
    let came = came_cancelled s numbers s.ops n it is in
    let was : target_of came.op.kind ≡ Some target = sym (ap target_of came.kind) ∙ on in
    let before = all n came.op target came.is (came.pending pends) was in
    by_test (name.place == target.stream.place)
    (λ here.
    let at : name.place ≡ target.stream.place = equal name.place target.stream.place here in
    let current = (both (is_current places name) (is_living (place_at places name.place).life) (alive refl)).one in
    let names_it = current_same places target.stream name before.current current (sym at) in
    let among = among_filter (λ op. is_pending op.phase && is_stream_of name (target_of op.kind)) s.ops n came.op came.is
    (ap (λ b. b && is_stream_of name (target_of came.op.kind)) (came.pending pends) ∙ ap (is_stream_of name) was ∙ names_it) in
    let last = cancelled_last s numbers s.ops n it among is pends in
    let number = number-op_at n (ops_cancelled s numbers s.ops) it is in
    let tried = tried_parts s n target
    (ap (λ k. is_tried_at s k (Some target)) (sym number) ∙ ap (is_tried_at s it.number) (sym on) ∙ last.0) in
    kept_on kept at before.current tried last.1
    (sym out ∙ ap (λ j. is_out (slice_index_or s.streams j new_stream).out) at
    ∙ out_if target.side (stream_at s.streams target.stream).out tried.out))
    (λ other.
    let away : name.place ≡ target.stream.place → ⊥ = λ e. apart name.place target.stream.place other (sym e) in
    away_from kept away came)
  where
    kept_on : (k : Bool) → name.place ≡ target.stream.place → is_current s.names.streams target.stream ≡ true →
        IsTried s.streams n target → is_untouched it.phase ≡ false → k ≡ true →
        IsKnown (place_freed true k name s.names.streams)
        (if true && not k then with_stream name new_stream s.streams else s.streams) n it target
    kept_on false at current tried off goes_out = absurd (true≢false (sym goes_out))
    kept_on true at current tried off goes_out = record {
      current = ap (λ g. g == target.stream.generation)
          (generation-with_life life.Closing name s.names.streams target.stream.place) ∙ current;
      closing = λ closing. record { out = tried.out; first = tried.first; cancelled = off };
    }

    away_from : (k : Bool) → (name.place ≡ target.stream.place → ⊥) → Came s.ops n it →
        IsKnown (place_freed true k name s.names.streams)
        (if true && not k then with_stream name new_stream s.streams else s.streams) n it target
    away_from true away came =
        let same_place = place_other s.names.streams name.place target.stream.place _ away in
        known_one s.ops s.names.streams _ s.streams s.streams n it target all pends on came
        (record {
          generation = ap (λ (at : Place). at.generation) same_place;
          closing = λ is. sym (ap (λ (at : Place). is_closing at.life) same_place) ∙ is;
          out = λ is. refl;
          first = λ is first. first;
        })
    away_from false away came =
        let same_place = place_other s.names.streams name.place target.stream.place _ away in
        let same_stream = get_or-set_other s.streams name.place target.stream.place new_stream new_stream (λ e. away (sym e)) in
        known_one s.ops s.names.streams _ s.streams _ n it target all pends on came
        (record {
          generation = ap (λ (at : Place). at.generation) same_place;
          closing = λ is. sym (ap (λ (at : Place). is_closing at.life) same_place) ∙ is;
          out = λ is. ap (λ (st : StreamState). st.out) same_stream;
          first = λ is first. ap (first_of target.side) same_stream ∙ first;
        })
