-- A strand is made: what is kept shows the state behind it.
use Rattle.std.proofs.Common.{arith, ap, refl, subst, sym, ◌∙◌, ⊎_elim}
use Rattle.std.proofs.lemmas.Bool.{cases_lt, true≢false}
use Rattle.std.proofs.lemmas.List.{get_or-set_other, get_or-set_same, get_or_past, length-map, map-set}
use Rattle.std.proofs.Math.Seq.{map-set_same}
use Rattle.std.specs.Prelude.{◌≡◌, ◌<◌, ◌≤◌, ℕ, ◌==◌, ◌++◌, true, false, List, [], ◌∷◌, Option, None, Some, length, map}
use Rattle.std.specs.List.{slice_set}
use Rattle.io_rules.specs.declared.control.Control.TheVariants as control
use Rattle.io_rules.specs.declared.event.Event.{Event}
use Rattle.io_rules.specs.declared.event.Event.TheVariants as event
use Rattle.io_rules.specs.declared.limits.Limits.{Limits}
use Rattle.io_rules.specs.declared.name.Kind.TheVariants as kind
use Rattle.io_rules.specs.declared.name.Lane.TheVariants as lane
use Rattle.io_rules.specs.declared.name.Name.{Name}
use Rattle.io_rules.specs.declared.op.Op.{Op}
use Rattle.io_rules.specs.declared.op.Wait.{Wait}
use Rattle.io_rules.specs.declared.place.Life.{Life}
use Rattle.io_rules.specs.declared.place.Life.TheVariants as life
use Rattle.io_rules.specs.declared.place.Place.{Place}
use Rattle.io_rules.specs.declared.request.Marks.{Marks}
use Rattle.io_rules.specs.Cancelling.{cancelled}
use Rattle.io_rules.specs.Executions.{spares_in}
use Rattle.io_rules.specs.Legal.{IsLegal, after, state_of}
use Rattle.io_rules.specs.Names.{Names, is_current, is_free, is_unused, no_place, place_at, with_life}
use Rattle.io_rules.specs.Room.{one_if}
use Rattle.io_rules.specs.State.{ContextState}
use Rattle.io_rules.proofs.KeptLemmas.{spare_at, spared, unspared}
use Rattle.io_rules.proofs.ShareLemmas.{weighed}
use Rattle.io_rules.proofs.StrandLemmas.{both, by_test, generation-with_life}
use Rattle.io_rules.proofs.TotalLemmas.{apart, equal, total}
use Rattle.io_strands.specs.declared.ready.ReadyOp.{ReadyOp}
use Rattle.io_strands.specs.Cell.{Cell, is_there, may_begin, vacant}
use Rattle.io_strands.specs.Numbered.{numbered}
use Rattle.io_jobs.specs.Listed.{JobList}
use Rattle.io_scheduler.specs.declared.counts.Counts.{Counts}
use Rattle.io_scheduler.specs.Shown.{IsUnusedSpare, Shows, ShowsCell, SparesUnused, cell_at, is_used, is_used_place, lane_of_place, room_of}
use Rattle.io_scheduler.specs.Stranded.{MayOpen, opened_cells}
use Rattle.io_scheduler.proofs.SpaceLemmas.{there_is}

unused_not : (l : Life) → is_unused l ≡ true → is_used l ≡ false
unused_not life.Free is = refl
unused_not (life.Kept op) is = absurd (true≢false (sym is))
unused_not life.Alive is = absurd (true≢false (sym is))
unused_not life.Closing is = absurd (true≢false (sym is))
unused_not life.Spent is = absurd (true≢false (sym is))

unused_of : (places : List Place) (name : Name) → is_free places name ≡ true →
    is_unused (place_at places name.place).life ≡ true
unused_of places name free = (both (is_current places name) (is_unused (place_at places name.place).life) free).other

-- a strand may be made at the place of a free name
pub may_open : {H S : Type 0} (cells : List (Cell H S)) (places : List Place) (name : Name) →
    map is_there cells ≡ map is_used_place places → is_free places name ≡ true → MayOpen name.place cells
may_open cells places name are free =
    let unused = unused_of places name free in
    let within : name.place < length places =
    ⊎_elim (λ (lt : name.place < length places). lt)
    (λ (le : length places ≤ name.place).
    absurd (true≢false (sym unused ∙ ap (λ at. is_unused at.life) (get_or_past places name.place no_place le))))
    (cases_lt name.place (length places)) in
    let one = length-map cells is_there in let other = length-map places is_used_place in
    let same_length = ap length are in
    record {
      within = omega (arith, within, one, other, same_length);
      vacant = there_is cells places name.place are ∙ unused_not (place_at places name.place).life unused;
    }

-- a name that is free in the code's tables is free in the rules'
pub free_shown : {H S : Type 0} (marks : H → Marks) (limits : Limits) (counts : Counts) (names : Names)
    (cells : List (Cell H S)) (jobs : JobList (ReadyOp H)) (s : ContextState) (name : Name) →
    is_free names.strands name ≡ true → Shows marks limits counts names cells jobs s →
    is_free s.names.strands name ≡ true
free_shown marks limits counts names cells jobs s name may shows =
    subst (λ (ns : Names). is_free ns.strands name ≡ true) shows.names_are may

-- no spare is of its place
spare_made : (places : List Place) (name : Name) (spare : Option Name) → spare_at name.place spare ≡ 0 →
    IsUnusedSpare places spare → IsUnusedSpare (with_life life.Alive name places) spare
spare_made places name None none unused = tt
spare_made places name (Some spare) none unused =
    by_test (spare.place == name.place)
    (λ is. let one = ap one_if is in absurd (omega (arith, none, one)))
    (λ other.
    ap is_used_place
    (get_or-set_other places name.place spare.place _ no_place (λ is. apart spare.place name.place other (sym is)))
    ∙ unused)

spares_made : (places : List Place) (name : Name) (ops : List Op) → total (weighed (spared name.place)) ops ≡ 0 →
    SparesUnused places ops → SparesUnused (with_life life.Alive name places) ops
spares_made places name [] none unused = tt
spares_made places name (op ∷ ops) none unused = (
  spare_made places name (spares_in op.phase).strand (omega (arith, none)) unused.0,
  spares_made places name ops (omega (arith, none)) unused.1,
)

lane_made : (places : List Place) (name : Name) (k : ℕ) →
    lane_of_place places k ≡ lane_of_place (with_life life.Alive name places) k
lane_made places name k =
    ap (λ g. lane.Strand (record { place = k; generation = g })) (sym (generation-with_life life.Alive name places k))

abbrev strands_made : Name → Names → Names
strands_made name names = record names { strands = with_life life.Alive name names.strands }

-- it is made at a place where none is, and of which no handler has a name
pub shows_opened : {H S : Type 0} (marks : H → Marks) (limits : Limits) (counts : Counts) (names : Names)
    (cells : List (Cell H S)) (jobs : JobList (ReadyOp H)) (s : ContextState) (name : Name) (state : S)
    (settled : List ℕ) (waits : List Wait) → settled ≡ [] → MayOpen name.place cells →
    total (weighed (spared name.place)) s.ops ≡ 0 → Shows marks limits counts names cells jobs s →
    Shows marks limits counts (record names { strands = with_life life.Alive name names.strands })
    (opened_cells name.place state cells) jobs
    (record s {
      settled = settled;
      waits = waits;
      names = record s.names { strands = with_life life.Alive name s.names.strands };
    })
shows_opened marks limits counts names cells jobs s name state settled waits none there unspared shows =
    let places = s.names.strands in
    let p = name.place in
    let old = cell_at cells p in
    let cell : Cell _ _ = record old { state = Some state } in
    record {
      limits_are = shows.limits_are;
      counts_are = shows.counts_are;
      names_are = ap (strands_made name) shows.names_are;
      below = shows.below;
      spares = spares_made places name s.ops unspared shows.spares;
      strands = map-set_same numbered cells p cell (vacant 0) refl ∙ shows.strands;
      there =
          map-set is_there cells p cell ∙ ap (λ xs. slice_set xs p true) shows.there
          ∙ sym (map-set is_used_place places p (record (place_at places p) { life = life.Alive }));
      rooms = map-set_same room_of cells p cell (vacant 0) refl ∙ shows.rooms;
      each = λ k.
          subst (λ l. ShowsCell marks s.ops s.next l (cell_at (slice_set cells p cell) k)) (lane_made places name k)
          (by_test (p == k)
          (λ here.
          subst (λ j. ShowsCell marks s.ops s.next (lane_of_place places j) (cell_at (slice_set cells p cell) j))
          (equal p k here)
          (subst (λ c. ShowsCell marks s.ops s.next (lane_of_place places p) c)
          (sym (get_or-set_same cells p cell (vacant 0) there.within))
          (record {
            ready = (shows.each p).ready;
            tied = (shows.each p).tied;
            idle = λ isnt. absurd (true≢false isnt);
          })))
          (λ other.
          subst (λ c. ShowsCell marks s.ops s.next (lane_of_place places k) c)
          (sym (get_or-set_other cells p k cell (vacant 0) (apart p k other))) (shows.each k)));
      listed = shows.listed ∙ sym (map-set_same may_begin cells p cell (vacant 0) refl);
      own = shows.own;
      own_all = shows.own_all;
      own_room = shows.own_room;
      settled = none;
      going = shows.going;
    }

pub shows_made : {H S : Type 0} (marks : H → Marks) (limits : Limits) (past : List Event) (counts : Counts)
    (names : Names) (cells : List (Cell H S)) (jobs : JobList (ReadyOp H)) (name : Name) (state : S) →
    IsLegal limits past → is_free names.strands name ≡ true →
    Shows marks limits counts names cells jobs (state_of limits past) →
    Shows marks limits counts (record names { strands = with_life life.Alive name names.strands })
    (opened_cells name.place state cells) jobs
    (after (event.Changed None (control.Make kind.Strand name)) (state_of limits past))
shows_made marks limits past counts names cells jobs name state legal may shows =
    let s = state_of limits past in
    let free = free_shown marks limits counts names cells jobs s name may shows in
    shows_opened marks limits counts names cells jobs s name state (s.settled ++ []) (cancelled [] s).waits
    (ap (λ xs. xs ++ []) shows.settled) (may_open cells s.names.strands name shows.there free)
    (unspared limits past legal name.place (unused_of s.names.strands name free)) shows
