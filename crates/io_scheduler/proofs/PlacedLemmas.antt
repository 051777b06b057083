-- What stands at the places of streams changes, and nothing else: what is kept shows the state behind that.
use Rattle.std.proofs.Common.{arith, ap, refl, subst, sym, ◌∙◌, ⊎_elim}
use Rattle.std.proofs.lemmas.Bool.{cases_lt, true≢false}
use Rattle.std.proofs.lemmas.List.{get_or-set_other, get_or-set_same, get_or_past}
use Rattle.std.proofs.lemmas.List.Sums.{sum_by-cons, sum_by-set}
use Rattle.std.specs.Prelude.{◌≡◌, ◌<◌, ◌≤◌, ℕ, ◌+◌, ◌==◌, Bool, true, false, List, [], ◌∷◌, length, sum_by}
use Rattle.std.specs.List.{slice_index_or, slice_set}
use Rattle.io_rules.specs.declared.limits.Limits.{Limits}
use Rattle.io_rules.specs.declared.name.Name.{Name}
use Rattle.io_rules.specs.declared.place.Place.{Place}
use Rattle.io_rules.specs.declared.request.Marks.{Marks}
use Rattle.io_rules.specs.Changes.{is_out}
use Rattle.io_rules.specs.Names.{Names, is_alive, is_living, no_place, place_at}
use Rattle.io_rules.specs.Room.{one_if}
use Rattle.io_rules.specs.State.{ContextState, StreamState, new_stream, stream_at, with_stream}
use Rattle.io_rules.proofs.StrandLemmas.{both, by_test}
use Rattle.io_rules.proofs.TotalLemmas.{apart, equal}
use Rattle.io_strands.specs.declared.ready.ReadyOp.{ReadyOp}
use Rattle.io_strands.specs.Cell.{Cell}
use Rattle.io_jobs.specs.Listed.{JobList}
use Rattle.io_timers.specs.Pending.{Timers}
use Rattle.io_scheduler.specs.declared.counts.Counts.{Counts}
use Rattle.io_scheduler.specs.declared.tally.Tally.{Tally}
use Rattle.io_scheduler.specs.declared.waiting.Waiting.{Waiting}
use Rattle.io_scheduler.specs.Shown.{Shows}
use Rattle.io_scheduler.specs.Streaming.{on_streams, out_in}
use Rattle.io_scheduler.specs.Streams.{IsPlain}
use Rattle.io_scheduler.specs.Tallied.{IsTally}
use Rattle.io_scheduler.specs.Waits.{ShowsWaits}

-- a state with these places for streams, and these streams
abbrev pub with_placed : List Place → List StreamState → ContextState → ContextState
with_placed places streams s =
    record s { names = record s.names { streams = places }; streams = streams }

module _ {H S : Type 0} (marks : H → Marks) (limits : Limits) (counts : Counts) (names : Names) (cells : List (Cell H S))
    (jobs : JobList (ReadyOp H)) (s : ContextState) (places : List Place) (streams : List StreamState) where
  pub placed_shown : Shows marks limits counts names cells jobs s →
      Shows marks limits counts (record names { streams = places }) cells jobs (with_placed places streams s)
  placed_shown shows = record {
    limits_are = shows.limits_are;
    counts_are = shows.counts_are;
    names_are = ap (λ (ns : Names). record ns { streams = places }) shows.names_are;
    below = shows.below;
    spares = shows.spares;
    strands = shows.strands;
    there = shows.there;
    rooms = shows.rooms;
    each = shows.each;
    listed = shows.listed;
    own = shows.own;
    own_all = shows.own_all;
    own_room = shows.own_room;
    settled = shows.settled;
    going = shows.going;
  }

-- likewise where the places stay
pub streams_shown : {H S : Type 0} (marks : H → Marks) (limits : Limits) (counts : Counts) (names : Names)
    (cells : List (Cell H S)) (jobs : JobList (ReadyOp H)) (s : ContextState) (streams : List StreamState) →
    Shows marks limits counts names cells jobs s → Shows marks limits counts names cells jobs (record s { streams = streams })
streams_shown marks limits counts names cells jobs s streams shows =
    subst (λ ns. Shows marks limits counts ns cells jobs (record s { streams = streams }))
    (ap (λ (ns : Names). record ns { streams = s.names.streams }) shows.names_are ∙ sym shows.names_are)
    (placed_shown marks limits counts names cells jobs s s.names.streams streams shows)

pub placed_waits : {H : Type 0} (marks : H → Marks) (limits : Limits) (timers : Timers (Waiting H)) (s : ContextState)
    (places : List Place) (streams : List StreamState) → on_streams streams ≡ on_streams s.streams →
    ShowsWaits marks limits timers s → ShowsWaits marks limits timers (with_placed places streams s)
placed_waits marks limits timers s places streams as_many shows =
    let all = shows.all in
    record {
      timers_are = shows.timers_are;
      places = shows.places;
      waits_are = shows.waits_are;
      rises = shows.rises;
      each = shows.each;
      all = omega (arith, all, as_many);
      room = shows.room;
    }

pub placed_tally : (t new : Tally) (s : ContextState) (places : List Place) (streams : List StreamState) →
    new.waiting ≡ t.waiting → new.running ≡ t.running → new.streaming ≡ t.streaming →
    on_streams streams ≡ on_streams s.streams → new.out ≡ out_in streams → IsTally t s →
    IsTally new (with_placed places streams s)
placed_tally t new s places streams waiting running streaming as_many out tally = record {
  waiting = waiting ∙ tally.waiting;
  running = running ∙ tally.running;
  streaming = streaming ∙ tally.streaming ∙ sym as_many;
  out = out;
  few = tally.few;
}

-- the place of a name that is there
pub alive_within : (places : List Place) (name : Name) → is_alive places name ≡ true → name.place < length places
alive_within places name alive =
    ⊎_elim (λ (lt : name.place < length places). lt)
    (λ (le : length places ≤ name.place).
    absurd (true≢false (sym (both _ (is_living (place_at places name.place).life) alive).other
    ∙ ap (λ (p : Place). is_living p.life) (get_or_past places name.place no_place le))))
    (cases_lt name.place (length places))

-- a sum over streams of which one changes
pub sum_with : (f : StreamState → ℕ) (streams : List StreamState) (name : Name) (new : StreamState) →
    name.place < length streams →
    sum_by f (with_stream name new streams) + f (stream_at streams name) ≡ sum_by f streams + f new
sum_with f streams name new within = sum_by-set f streams name.place new new_stream within

pub sum_same : (f : StreamState → ℕ) (streams : List StreamState) (name : Name) (new : StreamState) →
    name.place < length streams → f new ≡ f (stream_at streams name) →
    sum_by f (with_stream name new streams) ≡ sum_by f streams
sum_same f streams name new within alike =
    let sum = sum_with f streams name new within in omega (arith, sum, alike)

-- no more sockets are in system calls than there are streams
pub out_few : (streams : List StreamState) → out_in streams ≤ length streams
out_few [] = omega arith
out_few (stream ∷ streams) =
    let cons = sum_by-cons (λ (stream : StreamState). one_if (is_out stream.out)) stream streams in
    let rest = out_few streams in let here = at_most (is_out stream.out) in
    omega (arith, cons, rest, here)
  where
    at_most : (b : Bool) → one_if b ≤ 1
    at_most true = omega arith
    at_most false = omega arith

-- where one stream comes to another state, each is this one or as it was
pub at_with : (P : StreamState → Type 0) (streams : List StreamState) (name : Name) (new : StreamState) →
    name.place < length streams → (other : Name) → (name.place ≡ other.place → P new) →
    ((name.place ≡ other.place → ⊥) → P (stream_at streams other)) → P (stream_at (with_stream name new streams) other)
at_with P streams name new within other here elsewhere =
    by_test (name.place == other.place)
    (λ same.
    let at : name.place ≡ other.place = equal name.place other.place same in
    subst P
    (sym (ap (λ k. slice_index_or (slice_set streams name.place new) k new_stream) (sym at)
    ∙ get_or-set_same streams name.place new new_stream within)) (here at))
    (λ isnt.
    subst P (sym (get_or-set_other streams name.place other.place new new_stream (apart name.place other.place isnt)))
    (elsewhere (λ is. apart name.place other.place isnt (sym is))))

pub plain_with : (streams : List StreamState) (name : Name) (new : StreamState) → name.place < length streams →
    IsPlain new → ((other : Name) → IsPlain (stream_at streams other)) → (other : Name) →
    IsPlain (stream_at (with_stream name new streams) other)
plain_with streams name new within here all other =
    at_with IsPlain streams name new within other (λ same. here) (λ isnt. all other)

-- what a change of one stream leaves of each
pub kept_by : {X : Type 0} (f : StreamState → X) (change : StreamState → StreamState) →
    ((stream : StreamState) → f (change stream) ≡ f stream) → (streams : List StreamState) (name : Name) →
    name.place < length streams → (other : Name) →
    f (stream_at (with_stream name (change (stream_at streams name)) streams) other) ≡ f (stream_at streams other)
kept_by f change keeps streams name within other =
    at_with (λ stream. f stream ≡ f (stream_at streams other)) streams name (change (stream_at streams name)) within other
    (λ same. keeps (stream_at streams name) ∙ ap (λ k. f (slice_index_or streams k new_stream)) same) (λ isnt. refl)
