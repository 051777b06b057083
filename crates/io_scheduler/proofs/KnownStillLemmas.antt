-- What is pending on a stream names what is there: where places stay, and where an operation completes.
use Rattle.std.proofs.Common.{arith, ap, refl, subst, sym, ◌∙◌, ⊎_elim}
use Rattle.std.proofs.lemmas.Bool.{cases_lt, true≢false}
use Rattle.std.proofs.lemmas.List.{get_or-set_other, get_or-set_same, get_or_past, length-set, set_past}
use Rattle.std.specs.Prelude.{◌≡◌, ◌<◌, ◌≤◌, ℕ, ◌==◌, not, Bool, true, false, List, [], ◌∷◌, Option, Some, None, cond, slice_get, length, if◌then◌else◌}
use Rattle.std.specs.List.{slice_index_or, slice_set}
use Rattle.asio_types.specs.declared.code.Code.{Code}
use Rattle.io_rules.specs.declared.name.Name.{Name}
use Rattle.io_rules.specs.declared.op.Op.{Op}
use Rattle.io_rules.specs.declared.op.Phase.TheVariants as phase
use Rattle.io_rules.specs.declared.operation.Side.{Side}
use Rattle.io_rules.specs.declared.operation.Side.TheVariants as side
use Rattle.io_rules.specs.declared.place.Life.{Life}
use Rattle.io_rules.specs.declared.place.Life.TheVariants as life
use Rattle.io_rules.specs.declared.place.Place.{Place}
use Rattle.io_rules.specs.Cancelling.{is_first, is_out_for}
use Rattle.io_rules.specs.Completing.{after_done, completed, kind_of, others_than, side_left, streams_left}
use Rattle.io_rules.specs.Names.{is_alive, is_closing, is_current, is_living, no_place, place_at, with_life}
use Rattle.io_rules.specs.Operations.{Target, behind_connect, target_of}
use Rattle.io_rules.specs.Ops.{is_pending, is_untouched, op_at}
use Rattle.io_rules.specs.Serving.{first_of, served, streams_served, with_held, with_queue}
use Rattle.io_rules.specs.Spares.{with_life_of}
use Rattle.io_rules.specs.State.{ContextState, StreamState, new_stream, stream_at}
use Rattle.io_rules.proofs.StrandLemmas.{both, by_test, generation-with_life}
use Rattle.io_rules.proofs.TotalLemmas.{apart, equal}
use Rattle.io_scheduler.specs.Shown.{is_used}
use Rattle.io_scheduler.proofs.CurrentLemmas.{Came, ComesFrom, came_behind, came_changed, came_served, const_keeps, the_changed}

-- the one whose system call is under way, which is cancelled
pub record IsLast (streams : List StreamState) (n : ℕ) (it : Op) (target : Target) : Type 0 where
  pub out : is_out_for target.side (stream_at streams target.stream).out ≡ true
  pub first : first_of target.side (stream_at streams target.stream) ≡ Some n
  pub cancelled : is_untouched it.phase ≡ false

pub record IsKnown (places : List Place) (streams : List StreamState) (n : ℕ) (it : Op) (target : Target) : Type 0 where
  pub current : is_current places target.stream ≡ true
  pub closing : is_closing (place_at places target.stream.place).life ≡ true → IsLast streams n it target

abbrev pub AreKnown : List Op → List Place → List StreamState → Type 0
AreKnown ops places streams =
    (n : ℕ) (it : Op) (target : Target) → op_at ops n ≡ Some it → is_pending it.phase ≡ true →
    target_of it.kind ≡ Some target → IsKnown places streams n it target

-- what an event leaves of a place, for an operation that is pending there
pub record Stays (places news : List Place) (old new : List StreamState) (n : ℕ) (target : Target) : Type 0 where
  pub generation : (place_at news target.stream.place).generation ≡ (place_at places target.stream.place).generation
  pub closing : is_closing (place_at news target.stream.place).life ≡ true →
      is_closing (place_at places target.stream.place).life ≡ true
  pub out : is_closing (place_at places target.stream.place).life ≡ true →
      (stream_at new target.stream).out ≡ (stream_at old target.stream).out
  pub first : is_closing (place_at places target.stream.place).life ≡ true →
      first_of target.side (stream_at old target.stream) ≡ Some n →
      first_of target.side (stream_at new target.stream) ≡ Some n

pub known_one : (ops : List Op) (places news : List Place) (old new : List StreamState) (n : ℕ) (it : Op) (target : Target) →
    AreKnown ops places old → is_pending it.phase ≡ true → target_of it.kind ≡ Some target → Came ops n it →
    Stays places news old new n target → IsKnown news new n it target
known_one ops places news old new n it target all pends on came stays =
    let before = all n came.op target came.is (came.pending pends) (sym (ap target_of came.kind) ∙ on) in
    record {
      current = ap (λ g. g == target.stream.generation) stays.generation ∙ before.current;
      closing = λ is.
          let was = stays.closing is in
          let last = before.closing was in
          record {
            out = ap (is_out_for target.side) (stays.out was) ∙ last.out;
            first = stays.first was last.first;
            cancelled = came.cancelled pends last.cancelled;
          };
    }

-- ---- where places stay

pub record SamePlaces (old new : List Place) : Type 0 where
  pub generation : (p : ℕ) → (place_at new p).generation ≡ (place_at old p).generation
  pub closing : (p : ℕ) → is_closing (place_at new p).life ≡ true → is_closing (place_at old p).life ≡ true

pub same_itself : (places : List Place) → SamePlaces places places
same_itself places = record { generation = λ p. refl; closing = λ p is. is }

pub place_other : (places : List Place) (k p : ℕ) (new : Place) → (k ≡ p → ⊥) →
    place_at (slice_set places k new) p ≡ place_at places p
place_other places k p new other = get_or-set_other places k p new no_place (λ is. other (sym is))

pub same_life : (to : Life) (places : List Place) (spare : Option Name) → is_closing to ≡ false →
    SamePlaces places (with_life_of to spare places)
same_life to places None no_closing = same_itself places
same_life to places (Some name) no_closing = record {
  generation = generation-with_life to name places;
  closing = λ p is.
      by_test (name.place == p)
      (λ here.
      absurd (true≢false
      (sym is ∙ ap (λ k. is_closing (place_at (with_life to name places) k).life) (sym (equal name.place p here)) ∙ not_here name)))
      (λ other.
      sym (ap (λ (at : Place). is_closing at.life)
      (place_other places name.place p _ (λ e. apart name.place p other (sym e)))) ∙ is);
}
  where
    not_here : (name : Name) → is_closing (place_at (with_life to name places) name.place).life ≡ false
    not_here name =
        ⊎_elim
        (λ (lt : name.place < length places).
        ap (λ (at : Place). is_closing at.life) (get_or-set_same places name.place _ no_place lt) ∙ no_closing)
        (λ (le : length places ≤ name.place).
        let many = length-set places name.place (record (place_at places name.place) { life = to }) in
        ap (λ (at : Place). is_closing at.life)
        (get_or_past (with_life to name places) name.place no_place (omega (arith, le, many))))
        (cases_lt name.place (length places))

pub closing_used : (l : Life) → is_closing l ≡ true → is_used l ≡ true
closing_used life.Closing is = refl
closing_used life.Free is = absurd (true≢false (sym is))
closing_used (life.Kept op) is = absurd (true≢false (sym is))
closing_used life.Alive is = absurd (true≢false (sym is))
closing_used life.Spent is = absurd (true≢false (sym is))

pub living_not : (l : Life) → is_living l ≡ true → is_closing l ≡ true → ⊥
living_not life.Alive is closing = true≢false (sym closing)
living_not life.Free is closing = true≢false (sym is)
living_not (life.Kept op) is closing = true≢false (sym is)
living_not life.Closing is closing = true≢false (sym is)
living_not life.Spent is closing = true≢false (sym is)

pub alive_living : (places : List Place) (name : Name) → is_alive places name ≡ true →
    is_living (place_at places name.place).life ≡ true
alive_living places name is = (both (is_current places name) (is_living (place_at places name.place).life) is).other

-- a change of a stream at a place that isn't closing
pub stream_other : (places : List Place) (streams : List StreamState) (k : ℕ) (new : StreamState) (p : ℕ) →
    (is_closing (place_at places k).life ≡ true → ⊥) → is_closing (place_at places p).life ≡ true →
    slice_index_or (slice_set streams k new) p new_stream ≡ slice_index_or streams p new_stream
stream_other places streams k new p isnt closing =
    by_test (k == p)
    (λ here. absurd (isnt (ap (λ j. is_closing (place_at places j).life) (equal k p here) ∙ closing)))
    (λ other. get_or-set_other streams k p new new_stream (apart k p other))

-- what an event that changes streams at such places alone leaves
pub stays_still : (places news : List Place) (old new : List StreamState) (n : ℕ) (target : Target) → SamePlaces places news →
    (is_closing (place_at places target.stream.place).life ≡ true →
    stream_at new target.stream ≡ stream_at old target.stream) → Stays places news old new n target
stays_still places news old new n target same_places streams = record {
  generation = same_places.generation target.stream.place;
  closing = same_places.closing target.stream.place;
  out = λ is. ap (λ (st : StreamState). st.out) (streams is);
  first = λ is first. ap (first_of target.side) (streams is) ∙ first;
}

abbrev pub SameClosing : List Place → List StreamState → List StreamState → Type 0
SameClosing places old new =
    (p : ℕ) → is_closing (place_at places p).life ≡ true →
    slice_index_or new p new_stream ≡ slice_index_or old p new_stream

pub known_still : (ops behind : List Op) (places news : List Place) (old new : List StreamState) → AreKnown ops places old →
    ComesFrom ops behind → SamePlaces places news → SameClosing places old new → AreKnown behind news new
known_still ops behind places news old new all from same_places streams n it target is pends on =
    known_one ops places news old new n it target all pends on (from n it is)
    (stays_still places news old new n target same_places (streams target.stream.place))

-- ---- completions

pub out_side : (on : Side) (n : ℕ) (stream : StreamState) → (side_left on n stream).out ≡ stream.out
out_side side.Read n stream = by_first (is_first (first_of side.Read stream) n)
  where
    by_first : (b : Bool) → (if b then record stream { searched = 0 } else stream).out ≡ stream.out
    by_first true = refl
    by_first false = refl
out_side side.Write n stream = refl
out_side side.Connect n stream = refl

first_others : (queue : List ℕ) (m n : ℕ) → (m ≡ n → ⊥) → slice_get queue 0 ≡ Some n →
    slice_get (others_than m queue) 0 ≡ Some n
first_others [] m n other is = absurd (cc)
first_others (x ∷ queue) m n other is =
    let here : x ≡ n = cc in
    ap (λ b. slice_get (cond (not b) (x ∷ others_than m queue) (others_than m queue)) 0)
    (by_test (x == m) (λ at. absurd (other (sym (equal x m at) ∙ here))) (λ isnt. isnt)) ∙ is

first_side : (on of : Side) (m n : ℕ) (stream : StreamState) → (m ≡ n → ⊥) → first_of of stream ≡ Some n →
    first_of of (side_left on m stream) ≡ Some n
first_side side.Read side.Read m n stream other is =
    by_first (is_first (first_of side.Read stream) m)
  where
    by_first : (b : Bool) →
        slice_get (with_queue side.Read (others_than m stream.reads) (if b then record stream { searched = 0 } else stream)).reads 0
        ≡ Some n
    by_first b = first_others stream.reads m n other is
first_side side.Read side.Write m n stream other is = by_first (is_first (first_of side.Read stream) m)
  where
    by_first : (b : Bool) → slice_get (if b then record stream { searched = 0 } else stream).writes 0 ≡ Some n
    by_first true = is
    by_first false = is
first_side side.Read side.Connect m n stream other is = by_first (is_first (first_of side.Read stream) m)
  where
    by_first : (b : Bool) → slice_get (if b then record stream { searched = 0 } else stream).connects 0 ≡ Some n
    by_first true = is
    by_first false = is
first_side side.Write side.Read m n stream other is = is
first_side side.Write side.Write m n stream other is = first_others stream.writes m n other is
first_side side.Write side.Connect m n stream other is = is
first_side side.Connect side.Read m n stream other is = is
first_side side.Connect side.Write m n stream other is = is
first_side side.Connect side.Connect m n stream other is = first_others stream.connects m n other is

first_held : (on : Side) (held searched : ℕ) (stream : StreamState) →
    first_of on (with_held held searched stream) ≡ first_of on stream
first_held side.Read held searched stream = refl
first_held side.Write held searched stream = refl
first_held side.Connect held searched stream = refl

-- at a place where one stream changes, whether it is this one or not
pub at_set : (P : StreamState → Type 0) (streams : List StreamState) (k : ℕ) (new : StreamState) (p : ℕ) →
    (k ≡ p → k < length streams → P new) → P (slice_index_or streams p new_stream) →
    P (slice_index_or (slice_set streams k new) p new_stream)
at_set P streams k new p here elsewhere =
    by_test (k == p)
    (λ is.
    let at : k ≡ p = equal k p is in
    ⊎_elim
    (λ (lt : k < length streams).
    subst P (sym (ap (λ j. slice_index_or (slice_set streams k new) j new_stream) (sym at)
    ∙ get_or-set_same streams k new new_stream lt)) (here at lt))
    (λ (le : length streams ≤ k).
    subst P (sym (ap (λ xs. slice_index_or xs p new_stream) (set_past streams k new le))) elsewhere)
    (cases_lt k (length streams)))
    (λ other. subst P (sym (get_or-set_other streams k p new new_stream (apart k p other))) elsewhere)

-- the stream at a place leaves its socket where it is, and this one first
abbrev Leaves : Option Side → Side → ℕ → StreamState → Type 0
Leaves out on n stream = (stream.out ≡ out) × (first_of on stream ≡ Some n)

leaves_served : (out : Option Side) (on : Side) (n p : ℕ) (s : ContextState) (target : Option Target) →
    Leaves out on n (slice_index_or s.streams p new_stream) →
    Leaves out on n (slice_index_or (streams_served s target) p new_stream)
leaves_served out on n p s None is = is
leaves_served out on n p s (Some target) is =
    at_set (Leaves out on n) s.streams target.stream.place _ p
    (λ here lt.
    let old = subst (λ j. Leaves out on n (slice_index_or s.streams j new_stream)) (sym here) is in
    (old.0, first_held on _ _ (stream_at s.streams target.stream) ∙ old.1))
    is

leaves_left : (out : Option Side) (on : Side) (n p m : ℕ) (streams : List StreamState) (target : Option Target) →
    (m ≡ n → ⊥) → Leaves out on n (slice_index_or streams p new_stream) →
    Leaves out on n (slice_index_or (streams_left m target streams) p new_stream)
leaves_left out on n p m streams None other is = is
leaves_left out on n p m streams (Some target) other is =
    at_set (Leaves out on n) streams target.stream.place _ p
    (λ here lt.
    let old = subst (λ j. Leaves out on n (slice_index_or streams j new_stream)) (sym here) is in (
      out_side target.side m (stream_at streams target.stream) ∙ old.0,
      first_side target.side on m n (stream_at streams target.stream) other old.1,
    ))
    is

leaves_done : (out : Option Side) (on : Side) (n p m : ℕ) (given : Code) (size : ℕ) (s : ContextState) → (m ≡ n → ⊥) →
    Leaves out on n (slice_index_or s.streams p new_stream) →
    Leaves out on n (slice_index_or (after_done m given size s).streams p new_stream)
leaves_done out on n p m given size s other is =
    let of = kind_of (op_at s.ops m) in
    let first = completed m given size s in
    let second = served (target_of of) first in
    let third = served (behind_connect side.Read of) second in
    leaves_served out on n p third (behind_connect side.Write of)
    (leaves_served out on n p second (behind_connect side.Read of)
    (leaves_served out on n p first (target_of of) (leaves_left out on n p m s.streams (target_of of) other is)))

pub known_done : (s : ContextState) (m : ℕ) (given : Code) (size : ℕ) → AreKnown s.ops s.names.streams s.streams →
    AreKnown (after_done m given size s).ops s.names.streams (after_done m given size s).streams
known_done s m given size all n it target is pends on =
    let of = kind_of (op_at s.ops m) in
    let first = completed m given size s in
    let second = served (target_of of) first in
    let third = served (behind_connect side.Read of) second in
    let new = after_done m given size s in
    let late : ComesFrom first.ops new.ops =
    came_behind first.ops second.ops new.ops (came_served first (target_of of))
    (came_behind second.ops third.ops new.ops (came_served second (behind_connect side.Read of))
    (came_served third (behind_connect side.Write of))) in
    let mid = late n it is in
    let other : m ≡ n → ⊥ = λ here.
    let one = the_changed m (λ o. phase.Ready given size) s.ops mid.op (ap (op_at first.ops) here ∙ mid.is) in
    true≢false (sym (mid.pending pends) ∙ ap (λ (o : Op). is_pending o.phase) one.now) in
    let came = came_behind s.ops first.ops new.ops
    (came_changed m (λ o. phase.Ready given size) (const_keeps (phase.Ready given size) refl) s.ops) late n it is in
    let before = all n came.op target came.is (came.pending pends) (sym (ap target_of came.kind) ∙ on) in
    record {
      current = before.current;
      closing = λ closing.
          let last = before.closing closing in
          let now = leaves_done (stream_at s.streams target.stream).out target.side n target.stream.place m given size s other
          (refl, last.first) in
          record {
            out = ap (is_out_for target.side) now.0 ∙ last.out;
            first = now.1;
            cancelled = came.cancelled pends last.cancelled;
          };
    }
