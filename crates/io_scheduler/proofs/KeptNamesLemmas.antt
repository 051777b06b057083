-- Places of streams that are kept: for what handlers make, and for what accepts make.
use Rattle.std.proofs.Common.{arith, ap, refl, subst, sym, ◌∙◌, ⊎_elim}
use Rattle.std.proofs.lemmas.Bool.{cases_lt, true≢false}
use Rattle.std.proofs.lemmas.List.{get_or-set_other, get_or-set_same, get_or_past, length-set, set_past}
use Rattle.std.proofs.lemmas.List.Sums.{sum_by-set}
use Rattle.std.specs.Prelude.{◌≡◌, ◌<◌, ◌≤◌, ℕ, ◌+◌, ◌==◌, Bool, true, false, List, Option, Some, None, length, sum_by, if◌then◌else◌}
use Rattle.std.specs.List.{slice_index_or, slice_set}
use Rattle.asio_types.specs.declared.code.Code.{Code}
use Rattle.io_rules.specs.declared.event.Event.TheVariants as event
use Rattle.io_rules.specs.declared.name.Name.{Name}
use Rattle.io_rules.specs.declared.op.Phase.TheVariants as phase
use Rattle.io_rules.specs.declared.operation.Side.{Side}
use Rattle.io_rules.specs.declared.operation.Side.TheVariants as side
use Rattle.io_rules.specs.declared.place.Life.{Life}
use Rattle.io_rules.specs.declared.place.Life.TheVariants as life
use Rattle.io_rules.specs.declared.place.Place.{Place}
use Rattle.io_rules.specs.declared.request.Gone.{Gone}
use Rattle.io_rules.specs.declared.request.Gone.TheVariants as gone
use Rattle.io_rules.specs.declared.request.Request.{Request}
use Rattle.io_rules.specs.Cancelling.{is_first}
use Rattle.io_rules.specs.Calls.{accepted, caller_lane, streams_called, target_if}
use Rattle.io_rules.specs.Completing.{after_done, completed, kind_of, side_left, streams_left}
use Rattle.io_rules.specs.Executions.{spares_in}
use Rattle.io_rules.specs.Legal.{after}
use Rattle.io_rules.specs.Names.{is_closing, is_current, is_living, is_unused, no_place, place_at, with_life}
use Rattle.io_rules.specs.Operations.{Target, behind_connect, target_of}
use Rattle.io_rules.specs.Ops.{is_running, op_at}
use Rattle.io_rules.specs.Room.{one_if}
use Rattle.io_rules.specs.Serving.{first_of, served, streams_served, with_queue}
use Rattle.io_rules.specs.Spares.{MayKeep, first_of_two, with_life_of}
use Rattle.io_rules.specs.declared.op.Phase.{Phase}
use Rattle.io_rules.specs.State.{ContextState, StreamState, new_stream, stream_at, with_stream}
use Rattle.io_rules.specs.Strands.{entry_of}
use Rattle.io_rules.proofs.KeptLemmas.{spare_at}
use Rattle.io_rules.proofs.ShareLemmas.{IsCalm, weighed}
use Rattle.io_rules.proofs.StrandLemmas.{both, by_test}
use Rattle.io_rules.proofs.TotalLemmas.{apart, equal, same, total}

-- a handler that executes has a name of this place for a stream
abbrev pub spared : ℕ → ℕ → Phase → ℕ
spared p n it = spare_at p (spares_in it).stream

-- how many accepts that are under way have a name of this place
abbrev pub reserved_at : ℕ → List StreamState → ℕ
reserved_at p streams = sum_by (λ (stream : StreamState). spare_at p stream.reserved) streams

-- and with them the handlers that execute
abbrev pub keepers : ℕ → ContextState → ℕ
keepers p s = total (weighed (spared p)) s.ops + reserved_at p s.streams

abbrev pub is_kept_life : Life → Bool
is_kept_life (life.Kept op) = true
is_kept_life _ = false

pub calm_spared : (p : ℕ) → IsCalm (spared p)
calm_spared p n a b one other = none a one ∙ sym (none b other)
  where
    none : (a : Phase) → is_running a ≡ false → spare_at p (spares_in a).stream ≡ 0
    none (phase.Pending moved cancelled) is = refl
    none (phase.Settled code size) is = refl
    none (phase.Ready code size) is = refl
    none (phase.Running own grant spares) is = absurd (true≢false is)

-- so many have a name of this place, at most one and only while it is kept
abbrev pub KeptAt : ℕ → ℕ → List Place → Type 0
KeptAt p many places = many ≤ one_if (is_kept_life (place_at places p).life)

pub at_most : (b : Bool) → one_if b ≤ 1
at_most true = omega arith
at_most false = omega arith

-- where nothing is kept there is none
pub none_kept : (p many : ℕ) (places : List Place) → is_kept_life (place_at places p).life ≡ false → KeptAt p many places →
    many ≡ 0
none_kept p many places isnt kept = let none = ap one_if isnt in omega (arith, kept, none)

pub unused_not : (l : Life) → is_unused l ≡ true → is_kept_life l ≡ false
unused_not life.Free is = refl
unused_not (life.Kept op) is = absurd (true≢false (sym is))
unused_not life.Alive is = refl
unused_not life.Closing is = refl
unused_not life.Spent is = refl

pub living_not : (l : Life) → is_living l ≡ true → is_kept_life l ≡ false
living_not (life.Kept op) is = absurd (true≢false (sym is))
living_not life.Free is = refl
living_not life.Alive is = refl
living_not life.Closing is = refl
living_not life.Spent is = refl

pub closing_not : (l : Life) → is_closing l ≡ true → is_kept_life l ≡ false
closing_not (life.Kept op) is = absurd (true≢false (sym is))
closing_not life.Free is = refl
closing_not life.Alive is = refl
closing_not life.Closing is = refl
closing_not life.Spent is = refl

-- a free place is one of them
pub unused_within : (places : List Place) (n : ℕ) → is_unused (place_at places n).life ≡ true → n < length places
unused_within places n is =
    ⊎_elim (λ (lt : n < length places). lt)
    (λ (le : length places ≤ n).
    absurd (true≢false (sym is ∙ ap (λ at. is_unused at.life) (get_or_past places n no_place le))))
    (cases_lt n (length places))

pub differ : (m n : ℕ) → (m ≡ n → ⊥) → (m == n) ≡ false
differ m n other = by_test (m == n) (λ is. absurd (other (equal m n is))) (λ isnt. isnt)

-- one place changes: there none is left, or it stays kept
pub set_keeps : (p q many new : ℕ) (places : List Place) (place : Place) → KeptAt p many places →
    (q ≡ p → new ≡ 0) → ((q ≡ p → ⊥) → new ≤ many) → KeptAt p new (slice_set places q place)
set_keeps p q many new places place kept here elsewhere =
    by_test (q == p)
    (λ is. let none = here (equal q p is) in omega (arith, none))
    (λ other.
    let less = elsewhere (λ is. apart q p other (sym is)) in
    subst (λ at. new ≤ one_if (is_kept_life at.life)) (sym (get_or-set_other places q p place no_place (apart q p other)))
    (omega (arith, less, kept)))

-- a free name is kept for one more
pub keeps_one : (p n many : ℕ) (places : List Place) (taken : Option Name) → MayKeep places None taken →
    KeptAt p many places → KeptAt p (many + spare_at p taken) (with_life_of (life.Kept n) taken places)
keeps_one p n many places None may kept = omega (arith, kept)
keeps_one p n many places (Some name) may kept =
    let unused = (both (is_current places name) (is_unused (place_at places name.place).life) may).other in
    by_test (name.place == p)
    (λ is.
    let here = equal name.place p is in
    let none = none_kept p many places
    (subst (λ k. is_kept_life (place_at places k).life ≡ false) here
    (unused_not (place_at places name.place).life unused)) kept in
    let one = ap one_if is in
    subst (λ k. many + one_if (name.place == p) ≤ one_if
    (is_kept_life (place_at (with_life (life.Kept n) name places) k).life)) here
    (subst (λ (at : Place). many + one_if (name.place == p) ≤ one_if (is_kept_life at.life))
    (sym (get_or-set_same places name.place _ no_place (unused_within places name.place unused)))
    (omega (arith, none, one))))
    (λ other.
    let none = ap one_if other in
    subst (λ (at : Place). many + one_if (name.place == p) ≤ one_if (is_kept_life at.life))
    (sym (get_or-set_other places name.place p _ no_place (apart name.place p other))) (omega (arith, kept, none)))

-- likewise beside the one that was there
pub keeps_more : (p n many : ℕ) (places : List Place) (had taken : Option Name) → MayKeep places had taken →
    KeptAt p many places → (old new : ℕ) → old ≡ spare_at p had → new ≡ spare_at p (first_of_two had taken) →
    (count : ℕ) → count + old ≡ many + new → KeptAt p count (with_life_of (life.Kept n) taken places)
keeps_more p n many places None taken may kept old new was is count change =
    let one = keeps_one p n many places taken may kept in omega (arith, one, was, is, change)
keeps_more p n many places (Some name) taken may kept old new was is count change =
    subst (λ t. KeptAt p count (with_life_of (life.Kept n) t places)) (sym may) (omega (arith, kept, was, is, change))

-- one that is kept is left, and its place comes to something else
pub gives_back : (p many new : ℕ) (to : Life) (places : List Place) (spare : Option Name) → KeptAt p many places →
    new + spare_at p spare ≤ many → KeptAt p new (with_life_of to spare places)
gives_back p many new to places None kept less = omega (arith, kept, less)
gives_back p many new to places (Some name) kept less =
    set_keeps p name.place many new places _ kept
    (λ is.
    let one = ap one_if (subst (λ k. (name.place == k) ≡ true) is (same name.place)) in
    let most = at_most (is_kept_life (place_at places p).life) in
    omega (arith, kept, less, one, most))
    (λ other. omega (arith, less))

-- what had no spare: a place that was used, and is free or closing then
pub used_place : (p many : ℕ) (places : List Place) (name : Name) (place : Place) →
    is_kept_life (place_at places name.place).life ≡ false → KeptAt p many places →
    KeptAt p many (slice_set places name.place place)
used_place p many places name place isnt kept =
    set_keeps p name.place many many places place kept
    (λ is. none_kept p many places (subst (λ k. is_kept_life (place_at places k).life ≡ false) is isnt) kept)
    (λ other. omega arith)

-- one that is left makes nothing kept
pub not_kept_still : (to : Life) (places : List Place) (spare : Option Name) (m : ℕ) → is_kept_life to ≡ false →
    is_kept_life (place_at places m).life ≡ false →
    is_kept_life (place_at (with_life_of to spare places) m).life ≡ false
not_kept_still to places None m none isnt = isnt
not_kept_still to places (Some name) m none isnt =
    by_test (name.place == m)
    (λ is.
    subst (λ k. is_kept_life (place_at (with_life to name places) k).life ≡ false) (equal name.place m is)
    (⊎_elim
    (λ (lt : name.place < length places).
    ap (λ at. is_kept_life at.life) (get_or-set_same places name.place _ no_place lt) ∙ none)
    (λ (le : length places ≤ name.place).
    let many = length-set places name.place (record (place_at places name.place) { life = to }) in
    ap (λ at. is_kept_life at.life) (get_or_past (with_life to name places) name.place no_place (omega (arith, le, many))))
    (cases_lt name.place (length places))))
    (λ other.
    ap (λ at. is_kept_life at.life) (get_or-set_other places name.place m _ no_place (apart name.place m other)) ∙ isnt)

-- ---- names that are kept for accepts

pub reserved_set : (p : ℕ) (streams : List StreamState) (k : ℕ) (new : StreamState) →
    reserved_at p (slice_set streams k new) + spare_at p (slice_index_or streams k new_stream).reserved
    ≤ reserved_at p streams + spare_at p new.reserved
reserved_set p streams k new =
    ⊎_elim
    (λ (lt : k < length streams).
    let sums = sum_by-set (λ (stream : StreamState). spare_at p stream.reserved) streams k new new_stream lt in
    omega (arith, sums))
    (λ (le : length streams ≤ k).
    let stays = ap (reserved_at p) (set_past streams k new le) in
    let none = ap (λ (at : StreamState). spare_at p at.reserved) (get_or_past streams k new_stream le) in
    omega (arith, stays, none))
    (cases_lt k (length streams))

-- a stream that keeps its own
reserved_same : (p : ℕ) (streams : List StreamState) (name : Name) (new : StreamState) →
    new.reserved ≡ (stream_at streams name).reserved →
    reserved_at p (with_stream name new streams) ≤ reserved_at p streams
reserved_same p streams name new is =
    let set = reserved_set p streams name.place new in let own = ap (spare_at p) is in omega (arith, set, own)

-- or has none
pub reserved_none : (p : ℕ) (streams : List StreamState) (name : Name) (new : StreamState) → new.reserved ≡ None →
    reserved_at p (with_stream name new streams) ≤ reserved_at p streams
reserved_none p streams name new is =
    let set = reserved_set p streams name.place new in let own = ap (spare_at p) is in omega (arith, set, own)

reserved_served : (p : ℕ) (s : ContextState) (target : Option Target) →
    reserved_at p (streams_served s target) ≤ reserved_at p s.streams
reserved_served p s None = omega arith
reserved_served p s (Some target) = reserved_same p s.streams target.stream _ refl

reserved_side : (on : Side) (n : ℕ) (stream : StreamState) → (side_left on n stream).reserved ≡ stream.reserved
reserved_side side.Read n stream = by_first (is_first (first_of side.Read stream) n)
  where
    by_first : (b : Bool) → (if b then record stream { searched = 0 } else stream).reserved ≡ stream.reserved
    by_first true = refl
    by_first false = refl
reserved_side side.Write n stream = refl
reserved_side side.Connect n stream = refl

reserved_left : (p n : ℕ) (streams : List StreamState) (target : Option Target) →
    reserved_at p (streams_left n target streams) ≤ reserved_at p streams
reserved_left p n streams None = omega arith
reserved_left p n streams (Some target) =
    reserved_same p streams target.stream _ (reserved_side target.side n (stream_at streams target.stream))

pub reserved_done : (p n : ℕ) (given : Code) (size : ℕ) (s : ContextState) →
    reserved_at p (after_done n given size s).streams ≤ reserved_at p s.streams
reserved_done p n given size s =
    let of = kind_of (op_at s.ops n) in
    let first = completed n given size s in
    let second = served (target_of of) first in
    let third = served (behind_connect side.Read of) second in
    let a = reserved_left p n s.streams (target_of of) in
    let b = reserved_served p first (target_of of) in
    let c = reserved_served p second (behind_connect side.Read of) in
    let d = reserved_served p third (behind_connect side.Write of) in
    omega (arith, a, b, c, d)

reserved_queue : (on : Side) (queue : List ℕ) (stream : StreamState) →
    (with_queue on queue stream).reserved ≡ stream.reserved
reserved_queue side.Read queue stream = refl
reserved_queue side.Write queue stream = refl
reserved_queue side.Connect queue stream = refl

reserved_pushed : (p n : ℕ) (given : Gone) (target : Option Target) (streams : List StreamState) →
    reserved_at p (streams_called n given target streams) ≤ reserved_at p streams
reserved_pushed p n gone.Nothing (Some target) streams =
    reserved_same p streams target.stream _ (reserved_queue target.side _ (stream_at streams target.stream))
reserved_pushed p n gone.Nothing None streams = omega arith
reserved_pushed p n gone.Strand target streams = omega arith
reserved_pushed p n gone.Other target streams = omega arith

pub reserved_called : (p n : ℕ) (by : Option ℕ) (request : Request) (given : Gone) (s : ContextState) →
    reserved_at p (after (event.Called n by request given) s).streams ≤ reserved_at p s.streams
reserved_called p n by request given s =
    let first = accepted (entry_of (caller_lane s.ops by) request given) n by request given s in
    let pushed = reserved_pushed p n given (target_of request.kind) s.streams in
    let all = reserved_served p first (target_if given (target_of request.kind)) in
    omega (arith, pushed, all)

pub reserved_searched : (p : ℕ) (s : ContextState) (name : Name) (end : Option ℕ) →
    reserved_at p (after (event.Searched name end) s).streams ≤ reserved_at p s.streams
reserved_searched p s name None = reserved_same p s.streams name _ refl
reserved_searched p s name (Some end) = reserved_same p s.streams name _ refl
