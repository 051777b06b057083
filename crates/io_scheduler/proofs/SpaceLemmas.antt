-- Where an operation may be posted there is room for it.
use Rattle.std.proofs.Common.{arith, ap, refl, sym, ◌∙◌, ⊎_elim}
use Rattle.std.proofs.lemmas.Bool.{cases_lt, ltb-true, true≢false}
use Rattle.std.proofs.lemmas.List.{get_or-replicate, get_or_past, length-map, length-replicate}
use Rattle.std.proofs.Math.ListN.{get_or-map}
use Rattle.std.specs.Prelude.{◌≡◌, ◌<◌, ◌≤◌, ℕ, ◌+◌, ◌&&◌, nat_lt, not, Bool, true, false, List, [], ◌∷◌, length, map}
use Rattle.std.specs.List.{slice_index_or}
use Rattle.io_rules.specs.declared.event.Event.{Event}
use Rattle.io_rules.specs.declared.limits.Limits.{Limits}
use Rattle.io_rules.specs.declared.name.Lane.{Lane}
use Rattle.io_rules.specs.declared.name.Lane.TheVariants as lane
use Rattle.io_rules.specs.declared.name.Name.{Name}
use Rattle.io_rules.specs.declared.op.Op.{Op}
use Rattle.io_rules.specs.declared.op.Phase.{Phase}
use Rattle.io_rules.specs.declared.op.Phase.TheVariants as phase
use Rattle.io_rules.specs.declared.place.Life.{Life}
use Rattle.io_rules.specs.declared.place.Life.TheVariants as life
use Rattle.io_rules.specs.declared.place.Place.{Place}
use Rattle.io_rules.specs.declared.request.Marks.{Marks}
use Rattle.io_rules.specs.Calls.{is_lane_gone}
use Rattle.io_rules.specs.Legal.{IsLegal, state_of}
use Rattle.io_rules.specs.Names.{Names, is_alive, is_current, is_living, is_on, no_place, place_at}
use Rattle.io_rules.specs.Ops.{is_ready}
use Rattle.io_rules.specs.Room.{numbers_left, one_if, places_in}
use Rattle.io_rules.specs.State.{ContextState, StrandState}
use Rattle.io_rules.proofs.FitLemmas.{FitsStrand, if_prepared, waits_on}
use Rattle.io_rules.proofs.OnceLemmas.{total-less}
use Rattle.io_rules.proofs.RoomLemmas.{places_add_up}
use Rattle.io_rules.proofs.StageLemmas.{stage_of, staged}
use Rattle.io_rules.proofs.StrandLemmas.{both, strand_is}
use Rattle.io_rules.proofs.StrandStateLemmas.{strands_fit}
use Rattle.io_rules.proofs.TotalLemmas.{sum_by-total, total}
use Rattle.io_strands.specs.declared.ready.ReadyOp.{ReadyOp}
use Rattle.io_strands.specs.Cell.{Cell, is_there, may_begin, vacant}
use Rattle.io_strands.specs.Numbered.{number_of}
use Rattle.io_jobs.specs.declared.job.Job.{Job}
use Rattle.io_jobs.specs.declared.job.Job.TheVariants as job
use Rattle.io_jobs.specs.Listed.{JobList, owns}
use Rattle.io_scheduler.specs.declared.counts.Counts.{Counts}
use Rattle.io_scheduler.specs.Counted.{may_post}
use Rattle.io_scheduler.specs.Entered.{HasRoomFor, HasRoomOn}
use Rattle.io_scheduler.specs.Ready.{own_ops}
use Rattle.io_scheduler.specs.Shown.{Shows, cell_at, is_used, is_used_place, room_of, waits_own, waits_own_on}
use Rattle.io_scheduler.proofs.ListedLemmas.{cell_is}

-- what a test of three says
pub record Three (p q r : Bool) : Type 0 where
  pub one : p ≡ true
  pub two : q ≡ true
  pub three : r ≡ true

pub three : (p q r : Bool) → (p && q && r) ≡ true → Three p q r
three true true true is = record { one = refl; two = refl; three = refl }
three true true false is = absurd (true≢false (sym is))
three true false r is = absurd (true≢false (sym is))
three false q r is = absurd (true≢false (sym is))

pub one_at_most : (b : Bool) → one_if b ≤ 1
one_at_most true = omega arith
one_at_most false = omega arith

own_less : (p : Phase) → one_if (is_ready p) ≤ places_in p
own_less (phase.Pending moved cancelled) = omega arith
own_less (phase.Settled code size) = omega arith
own_less (phase.Ready code size) = omega arith
own_less (phase.Running own grant spares) = omega arith

pub own_place : (on : Lane) (p : Phase) → waits_own_on on (is_ready p) ≤ places_in p
own_place lane.Own p = own_less p
own_place (lane.Strand name) p = omega arith

pub strand_place : (p : Phase) (b : Bool) → if_prepared (stage_of p) b ≤ places_in p
strand_place (phase.Pending moved cancelled) b = omega arith
strand_place (phase.Settled code size) b = omega arith
strand_place (phase.Ready code size) b = one_at_most b
strand_place (phase.Running own grant spares) b = omega arith

pub owns_are : {H : Type 0} (ring : List (Job (ReadyOp H))) → owns ring ≡ length (own_ops ring)
owns_are [] = refl
owns_are (job.Strand strand ∷ ring) = let rest = owns_are ring in omega (arith, rest)
owns_are (job.Own op ∷ ring) = let rest = owns_are ring in omega (arith, rest)

pub living_used : (l : Life) → is_living l ≡ true → is_used l ≡ true
living_used life.Alive is = refl
living_used life.Free is = absurd (true≢false (sym is))
living_used (life.Kept op) is = absurd (true≢false (sym is))
living_used life.Closing is = absurd (true≢false (sym is))
living_used life.Spent is = absurd (true≢false (sym is))

-- whether a strand is at a place
pub there_is : {H S : Type 0} (cells : List (Cell H S)) (places : List Place) (p : ℕ) →
    map is_there cells ≡ map is_used_place places → is_there (cell_at cells p) ≡ is_used_place (place_at places p)
there_is cells places p are =
    sym (get_or-map is_there cells p (vacant 0))
    ∙ ap (λ flags. slice_index_or flags p false) are
    ∙ get_or-map is_used_place places p no_place

-- a place is free, and a number, where places add up and strands know their operations
pub record HasSpace (limits : Limits) (s : ContextState) : Type 0 where
  pub places : s.room + total (λ (op : Op). places_in op.phase) s.ops ≡ limits.operations
  pub fits : (name : Name) → FitsStrand s name
  pub room : 0 < s.room
  pub numbers : s.next < 18446744073709551615

pub own_space : {H S : Type 0} (marks : H → Marks) (limits : Limits) (counts : Counts) (names : Names)
    (cells : List (Cell H S)) (jobs : JobList (ReadyOp H)) (s : ContextState) → HasSpace limits s →
    Shows marks limits counts names cells jobs s → owns jobs.ring < jobs.room
own_space marks limits counts names cells jobs s space shows =
    let less = total-less waits_own (λ op. places_in op.phase) (λ op. own_place op.lane op.phase) s.ops in
    let places = space.places in
    let waits = sum_by-total waits_own s.ops in
    let all = shows.own_all in let are = owns_are jobs.ring in let most = shows.own_room in
    let room = space.room in
    omega (arith, less, places, waits, all, are, most, room)

pub within_places : (places : List Place) (name : Name) → is_living (place_at places name.place).life ≡ true →
    name.place < length places
within_places places name is =
    ⊎_elim (λ (lt : name.place < length places). lt)
    (λ (le : length places ≤ name.place).
    absurd (true≢false (sym is ∙ ap (λ at. is_living at.life) (get_or_past places name.place no_place le))))
    (cases_lt name.place (length places))

-- the place of a strand that is there is one of them
pub within_cells : {H S : Type 0} (cells : List (Cell H S)) (places : List Place) (name : Name) →
    map is_there cells ≡ map is_used_place places → is_alive places name ≡ true → name.place < length cells
within_cells cells places name are alive =
    let lt = within_places places name
    (both (is_current places name) (is_living (place_at places name.place).life) alive).other in
    let one = length-map cells is_there in let other = length-map places is_used_place in
    let equal = ap length are in
    omega (arith, lt, one, other, equal)

strand_space : {H S : Type 0} (marks : H → Marks) (limits : Limits) (counts : Counts) (names : Names)
    (cells : List (Cell H S)) (jobs : JobList (ReadyOp H)) (s : ContextState) (name : Name) → HasSpace limits s →
    Shows marks limits counts names cells jobs s → is_alive s.names.strands name ≡ true →
    HasRoomOn name.place cells jobs
strand_space marks limits counts names cells jobs s name space shows alive =
    let p = name.place in
    let cell = cell_at cells p in
    let parts = both (is_current s.names.strands name) (is_living (place_at s.names.strands p).life) alive in
    let within = within_cells cells s.names.strands name shows.there alive in
    let listed = ap length shows.listed ∙ length-map cells may_begin in
    let fits = (space.fits name).waits_fits in
    let queue = ap (λ (st : StrandState). length st.queue)
    (strand_is s.names.strands s.strands name parts.one ∙ sym (cell_is cells s.strands p shows.strands)) in
    let many = length-map cell.queue number_of in
    let less = total-less (staged (waits_on name)) (λ op. places_in op.phase)
    (λ op. strand_place op.phase (is_on name op.lane)) s.ops in
    let places = space.places in
    let room = space.room in
    let numbers = space.numbers in
    let le = (shows.each p).tied in
    let size = ap length shows.rooms in
    let one = length-map cells room_of in
    let all = length-replicate limits.strands limits.operations in
    let most : cell.room ≡ limits.operations =
    sym (get_or-map room_of cells p (vacant 0))
    ∙ ap (λ rooms. slice_index_or rooms p 0) shows.rooms
    ∙ get_or-replicate limits.strands p limits.operations 0 (omega (arith, within, size, one, all)) in
    record {
      within = within;
      listed = omega (arith, within, listed);
      ready = record {
        there = there_is cells s.names.strands p shows.there ∙ living_used (place_at s.names.strands p).life parts.other;
        room = omega (arith, fits, queue, many, less, places, most, room);
      };
      tied = omega (arith, le, numbers);
    }

pub not_gone : (b : Bool) → not b ≡ false → b ≡ true
not_gone true is = refl
not_gone false is = absurd (true≢false is)

-- one more may be ready on a lane that is there
pub entered_space : {H S : Type 0} (marks : H → Marks) (limits : Limits) (counts : Counts)
    (names : Names) (cells : List (Cell H S)) (jobs : JobList (ReadyOp H)) (s : ContextState) (on : Lane) →
    HasSpace limits s → is_lane_gone s.names on ≡ false → Shows marks limits counts names cells jobs s →
    HasRoomFor on cells jobs
entered_space marks limits counts names cells jobs s lane.Own space there shows =
    own_space marks limits counts names cells jobs s space shows
entered_space marks limits counts names cells jobs s (lane.Strand name) space there shows =
    strand_space marks limits counts names cells jobs s name space shows (not_gone (is_alive s.names.strands name) there)

pub there_if : (b : Bool) → not b ≡ true → b ≡ false
there_if true is = absurd (true≢false (sym is))
there_if false is = refl

-- from outside
pub posted_space : {H S : Type 0} (marks : H → Marks) (limits : Limits) (past : List Event) (counts : Counts)
    (names : Names) (cells : List (Cell H S)) (jobs : JobList (ReadyOp H)) (on : Lane) → IsLegal limits past →
    Shows marks limits counts names cells jobs (state_of limits past) → may_post (state_of limits past) on ≡ true →
    HasRoomFor on cells jobs
posted_space marks limits past counts names cells jobs on legal shows may =
    let s = state_of limits past in
    let parts = three (nat_lt 0 s.room) (nat_lt 0 (numbers_left s)) (not (is_lane_gone s.names on)) may in
    let sum = sum_by-total (λ (op : Op). places_in op.phase) s.ops in
    let places = places_add_up limits past legal in
    let numbers = ltb-true 0 (numbers_left s) parts.two in
    entered_space marks limits counts names cells jobs s on
    (record {
      places = omega (arith, sum, places);
      fits = strands_fit limits past legal shows.going;
      room = ltb-true 0 s.room parts.one;
      numbers = omega (arith, numbers);
    })
    (there_if (is_lane_gone s.names on) parts.three) shows
