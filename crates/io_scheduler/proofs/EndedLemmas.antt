-- A handler has returned: what is kept shows the state behind it.
use Rattle.std.proofs.Common.{arith, ap, refl, subst, sym, ◌∙◌}
use Rattle.std.proofs.lemmas.Bool.{true≢false}
use Rattle.std.proofs.lemmas.List.{get_or-set_other, get_or-set_same, length-map, length-set, map-set}
use Rattle.std.proofs.Math.Seq.{map-set_same}
use Rattle.std.specs.Prelude.{◌≡◌, ◌<◌, ◌≤◌, ℕ, ◌+◌, ◌-◌, ◌==◌, ◌&&◌, ◌||◌, Bool, true, false, List, [], ◌∷◌, Option, None, Some, length, map, nat_le, nat_lt, not, sum_by, if◌then◌else◌}
use Rattle.std.specs.List.{slice_index_or, slice_set}
use Rattle.std.specs.Option.{is_some, option_map}
use Rattle.io_rules.specs.declared.event.Event.{Event}
use Rattle.io_rules.specs.declared.event.Event.TheVariants as event
use Rattle.io_rules.specs.declared.limits.Limits.{Limits}
use Rattle.io_rules.specs.declared.name.Lane.{Lane}
use Rattle.io_rules.specs.declared.name.Lane.TheVariants as lane
use Rattle.io_rules.specs.declared.name.Name.{Name}
use Rattle.io_rules.specs.declared.op.Op.{Op}
use Rattle.io_rules.specs.declared.op.Phase.{Phase}
use Rattle.io_rules.specs.declared.op.Phase.TheVariants as phase
use Rattle.io_rules.specs.declared.place.Life.{Life}
use Rattle.io_rules.specs.declared.place.Life.TheVariants as life
use Rattle.io_rules.specs.declared.place.Place.{Place}
use Rattle.io_rules.specs.declared.request.Marks.{Marks}
use Rattle.io_rules.specs.declared.spares.Spares.{Spares}
use Rattle.io_rules.specs.Executions.{MayEnd, marks_of, spares_in, spares_of}
use Rattle.io_rules.specs.InOrder.{strand_of}
use Rattle.io_rules.specs.Legal.{IsLegal, after, state_of}
use Rattle.io_rules.specs.Names.{Names, is_closing, is_current, is_leaving, is_on, is_unused, no_place, place_at}
use Rattle.io_rules.specs.Ops.{is_ready, is_running, lane_of, op_at, passes, without}
use Rattle.io_rules.specs.Room.{counted, numbers_in, one_if, places_in}
use Rattle.io_rules.specs.Spares.{given_back, with_life_of}
use Rattle.io_rules.specs.State.{ContextState, StrandState, new_strand, strand_at}
use Rattle.io_rules.specs.Strands.{ended_on, is_last_on, on_lane, strand_forgotten, strand_freed}
use Rattle.io_rules.proofs.FitLemmas.{runs_on}
use Rattle.io_rules.proofs.OnceLemmas.{if_executing}
use Rattle.io_rules.proofs.RoomLemmas.{places_add_up}
use Rattle.io_rules.proofs.StageLemmas.{stage_of, staged}
use Rattle.io_rules.proofs.StrandLemmas.{IsKnown, both, by_test, generation-with_life, name-itself, strand_is}
use Rattle.io_rules.proofs.StrandStateLemmas.{known_lane, last_one, strands_fit}
use Rattle.io_rules.proofs.TotalLemmas.{apart, each-without, equal, lane-found, share, sum_by-total, total-without}
use Rattle.io_history.specs.declared.view.Held.{Held}
use Rattle.io_history.specs.Rule.{IsHeld}
use Rattle.io_history.proofs.AtLemmas.{at-without}
use Rattle.io_strands.specs.declared.ready.ReadyOp.{ReadyOp}
use Rattle.io_strands.specs.Cell.{Cell, ended, is_there, may_begin, vacant}
use Rattle.io_strands.specs.Numbered.{numbered}
use Rattle.io_strands.proofs.StepLemmas.{steps_alike}
use Rattle.io_jobs.specs.Listed.{JobList}
use Rattle.io_scheduler.specs.declared.counts.Counts.{Counts}
use Rattle.io_scheduler.specs.Begun.{is_strand}
use Rattle.io_scheduler.specs.Ended.{IsIdleAt, MayForget, MayLeaveFrom, RunsOn, counts_ended, forgotten_cells, forgotten_state, left_cells, left_jobs, mark_of}
use Rattle.io_scheduler.specs.Running.{HeldOp, IsExecution}
use Rattle.io_scheduler.specs.Ready.{AreReady, IsNone, own_ops}
use Rattle.io_scheduler.specs.Shown.{AreBelow, IsUnusedSpare, Shows, ShowsCell, cell_at, is_used, is_used_place, lane_of_place, room_of, waits_own, waits_own_on}
use Rattle.io_scheduler.proofs.BegunLemmas.{LeavesIt, ready_still}
use Rattle.io_scheduler.proofs.ForgottenLemmas.{empty_there, forgotten, none_waits, shows_forgotten}
use Rattle.io_scheduler.proofs.ListedLemmas.{cell_is, flag_is, listed-if, own-if, room-if}
use Rattle.io_scheduler.proofs.PostedLemmas.{lane_current}
use Rattle.io_scheduler.proofs.ReadyLemmas.{below_each, each_below}
use Rattle.io_scheduler.proofs.SpareLemmas.{spare_at, spares_less, spares_without, used_at}

without_leaves : (n : ℕ) (ops : List Op) → LeavesIt n ops (without n ops)
without_leaves n ops m op other is = at-without n m ops op (λ here. other (sym here)) is

-- what executes is none of those that are ready
none_running : {H : Type 0} (marks : H → Marks) (ops : List Op) (on : Lane) (n : ℕ) (it : Op)
    (queue : List (ReadyOp H)) → op_at ops n ≡ Some it → is_running it.phase ≡ true → AreReady marks ops on queue →
    IsNone n queue
none_running marks ops on n it [] is runs are = tt
none_running marks ops on n it (r ∷ rest) is runs are =
    (by_number (r.number == n) refl, none_running marks ops on n it rest is runs are.2)
  where
    by_number : (b : Bool) → (r.number == n) ≡ b → (r.number == n) ≡ false
    by_number false isnt = isnt
    by_number true same_number =
        let at : op_at ops n ≡ Some are.0.op =
        subst (λ k. op_at ops k ≡ Some are.0.op) (equal r.number n same_number) are.0.is in
        let same_op : it ≡ are.0.op = cc in
        absurd
        (true≢false
        (sym runs ∙ ap (λ (op : Op). is_running op.phase) same_op ∙ ap is_running are.0.phase))

-- a spare that comes back leaves the strands where they are
given_unused : (places : List Place) (spare : Option Name) → IsUnusedSpare places spare →
    map is_used_place (with_life_of life.Free spare places) ≡ map is_used_place places
given_unused places None unused = refl
given_unused places (Some name) unused =
    map-set_same is_used_place places name.place _ no_place (sym unused)

lane_given_back : (places : List Place) (spare : Option Name) (k : ℕ) →
    lane_of_place places k ≡ lane_of_place (with_life_of life.Free spare places) k
lane_given_back places None k = refl
lane_given_back places (Some name) k =
    ap (λ g. lane.Strand (record { place = k; generation = g })) (sym (generation-with_life life.Free name places k))

below_ended : (next n : ℕ) (ops : List Op) → AreBelow next ops → AreBelow next (without n ops)
below_ended next n ops below =
    below_each next (without n ops) (each-without (λ k on. k < next) n ops (each_below next ops below))

own_ended : (n : ℕ) (ops : List Op) (it : Op) → op_at ops n ≡ Some it → is_running it.phase ≡ true →
    sum_by waits_own (without n ops) ≡ sum_by waits_own ops
own_ended n ops it is runs =
    let old = sum_by-total waits_own ops in
    let new = sum_by-total waits_own (without n ops) in
    let step = total-without waits_own n ops it is in
    let none = waits_not it.lane it.phase runs in
    omega (arith, old, new, step, none)
  where
    waits_not : (on : Lane) (p : Phase) → is_running p ≡ true → waits_own_on on (is_ready p) ≡ 0
    waits_not lane.Own (phase.Running own grant spares) runs = refl
    waits_not lane.Own (phase.Pending moved cancelled) runs = refl
    waits_not lane.Own (phase.Settled code size) runs = refl
    waits_not lane.Own (phase.Ready code size) runs = absurd (true≢false (sym runs))
    waits_not (lane.Strand name) p runs = refl

-- the state behind the end, on a strand that stays
abbrev ended_state : Lane → ℕ → ℕ → Spares → ContextState → ContextState
ended_state on n places spares s = record s {
  promised = s.promised - places;
  room = s.room + places;
  ops = without n s.ops;
  names = given_back spares s.names;
  strands = on_lane on ended_on s.strands;
}

abbrev ended_by : Bool → Lane → Phase → ℕ → ContextState → ContextState
ended_by last on p n s =
    let names = given_back (spares_in p) s.names in
    record s {
      promised = s.promised - numbers_in p;
      room = s.room + places_in p;
      ops = without n s.ops;
      names = record names { strands = strand_freed last on names.strands };
      strands = strand_forgotten last on (on_lane on ended_on s.strands);
    }

abbrev ended_for : Option Op → ℕ → ContextState → ContextState
ended_for o n s =
    let on = lane_of o in
    let last = is_last_on s on in
    let names = given_back (spares_of o) s.names in
    record s {
      promised = s.promised - counted numbers_in o;
      room = s.room + counted places_in o;
      ops = without n s.ops;
      names = record names { strands = strand_freed last on names.strands };
      strands = strand_forgotten last on (on_lane on ended_on s.strands);
    }

after_ended : (n mark : ℕ) (it : Op) (on : Lane) (own : Bool) (grant : ℕ) (spares : Spares) (s : ContextState) →
    op_at s.ops n ≡ Some it → it.lane ≡ on → it.phase ≡ phase.Running own grant spares →
    after (event.Ended n mark) s ≡ forgotten (is_last_on s on) on (ended_state on n (one_if own + grant) spares s)
after_ended n mark it on own grant spares s is at runs =
    ap (λ (o : Option Op). ended_for o n s) is
    ∙ ap (λ l. ended_by (is_last_on s l) l it.phase n s) at
    ∙ ap (λ p. ended_by (is_last_on s on) on p n s) runs

-- what is ready at the other places stays
others_ended : {H S : Type 0} (marks : H → Marks) (s : ContextState) (n : ℕ) (spares : Spares) (it : Op) (k : ℕ)
    (c : Cell H S) → op_at s.ops n ≡ Some it → is_running it.phase ≡ true →
    ShowsCell marks s.ops s.next (lane_of_place s.names.strands k) c →
    ShowsCell marks (without n s.ops) s.next (lane_of_place (given_back spares s.names).strands k) c
others_ended marks s n spares it k c is runs shows =
    subst (λ l. ShowsCell marks (without n s.ops) s.next l c) (lane_given_back s.names.strands spares.strand k)
    (record {
      ready = ready_still marks n s.ops (without n s.ops) (lane_of_place s.names.strands k) c.queue
          (without_leaves n s.ops)
          (none_running marks s.ops (lane_of_place s.names.strands k) n it c.queue is runs shows.ready) shows.ready;
      tied = shows.tied;
      idle = shows.idle;
    })

-- without a strand
ended_own : {H S : Type 0} (marks : H → Marks) (limits : Limits) (counts : Counts) (names : Names)
    (cells : List (Cell H S)) (jobs : JobList (ReadyOp H)) (s : ContextState) (n : ℕ) (it : Op) (places : ℕ)
    (spares : Spares) → op_at s.ops n ≡ Some it → is_running it.phase ≡ true →
    IsUnusedSpare s.names.strands spares.strand → Shows marks limits counts names cells jobs s →
    Shows marks limits (counts_ended places counts) (given_back spares names) cells jobs
    (ended_state lane.Own n places spares s)
ended_own marks limits counts names cells jobs s n it places spares is runs unused shows =
    let given = given_unused s.names.strands spares.strand unused in
    record {
      limits_are = shows.limits_are;
      counts_are = ap (counts_ended places) shows.counts_are;
      names_are = ap (given_back spares) shows.names_are;
      below = below_ended s.next n s.ops shows.below;
      spares = spares_without (given_back spares s.names).strands n s.ops
          (spares_less s.names.strands (given_back spares s.names).strands s.ops given shows.spares);
      strands = shows.strands;
      there = shows.there ∙ sym given;
      rooms = shows.rooms;
      each = λ k. others_ended marks s n spares it k (cell_at cells k) is runs (shows.each k);
      listed = shows.listed;
      own = ready_still marks n s.ops (without n s.ops) lane.Own (own_ops jobs.ring) (without_leaves n s.ops)
          (none_running marks s.ops lane.Own n it (own_ops jobs.ring) is runs shows.own) shows.own;
      own_all = shows.own_all ∙ sym (own_ended n s.ops it is runs);
      own_room = shows.own_room;
      settled = shows.settled;
      going = shows.going;
    }

there_or : (b c : Bool) → c ≡ true → (b || c) ≡ true
there_or true c is = refl
there_or false c is = is

not_while : (b c : Bool) → c ≡ true → (b && not c) ≡ false
not_while true true is = refl
not_while false c is = refl
not_while true false is = absurd (true≢false (sym is))

-- on a strand
ended_strand : {H S : Type 0} (marks : H → Marks) (limits : Limits) (counts : Counts) (names : Names)
    (cells : List (Cell H S)) (jobs : JobList (ReadyOp H)) (s : ContextState) (n : ℕ) (it : Op) (p : ℕ) (places : ℕ)
    (spares : Spares) (state : S) → op_at s.ops n ≡ Some it → is_running it.phase ≡ true →
    IsUnusedSpare s.names.strands spares.strand → RunsOn p cells jobs → Shows marks limits counts names cells jobs s →
    Shows marks limits (counts_ended places counts) (given_back spares names)
    (left_cells (lane_of_place s.names.strands p) (Some state) cells)
    (left_jobs (lane_of_place s.names.strands p) (Some state) cells jobs)
    (ended_state (lane_of_place s.names.strands p) n places spares s)
ended_strand marks limits counts names cells jobs s n it p places spares state is runs unused on shows =
    let old = cell_at cells p in
    let cell = ended state old in
    let given = given_unused s.names.strands spares.strand unused in
    let ring = own-if (may_begin cell) jobs p in
    record {
      limits_are = shows.limits_are;
      counts_are = ap (counts_ended places) shows.counts_are;
      names_are = ap (given_back spares) shows.names_are;
      below = below_ended s.next n s.ops shows.below;
      spares = spares_without (given_back spares s.names).strands n s.ops
          (spares_less s.names.strands (given_back spares s.names).strands s.ops given shows.spares);
      strands =
          map-set numbered cells p cell
          ∙ ap (λ c. slice_set (map numbered cells) p c)
          (steps_alike.ended state old ∙ ap ended_on (cell_is cells s.strands p shows.strands))
          ∙ ap (λ xs. slice_set xs p (ended_on (slice_index_or s.strands p new_strand))) shows.strands;
      there =
          map-set_same is_there cells p cell (vacant 0) (sym (there_or (is_some old.state) (is_some old.runs) on.runs))
          ∙ shows.there ∙ sym given;
      rooms = map-set_same room_of cells p cell (vacant 0) refl ∙ shows.rooms;
      each = λ k.
          by_test (p == k)
          (λ here.
          subst
          (λ j. ShowsCell marks (without n s.ops) s.next (lane_of_place (given_back spares s.names).strands j)
          (cell_at (slice_set cells p cell) j))
          (equal p k here)
          (subst (λ c. ShowsCell marks (without n s.ops) s.next (lane_of_place (given_back spares s.names).strands p) c)
          (sym (get_or-set_same cells p cell (vacant 0) on.within))
          (let same_place = others_ended marks s n spares it p old is runs (shows.each p) in
          let le = same_place.tied in
          record { ready = same_place.ready; tied = omega (arith, le); idle = λ isnt. absurd (true≢false isnt) })))
          (λ other.
          subst (λ c. ShowsCell marks (without n s.ops) s.next (lane_of_place (given_back spares s.names).strands k) c)
          (sym (get_or-set_other cells p k cell (vacant 0) (apart p k other)))
          (others_ended marks s n spares it k (cell_at cells k) is runs (shows.each k)));
      listed =
          listed-if (may_begin cell) jobs p
          (λ isnt. flag_is cells jobs p shows.listed ∙ not_while (nat_lt 0 (length old.queue)) (is_some old.runs) on.runs)
          ∙ ap (λ xs. slice_set xs p (may_begin cell)) shows.listed
          ∙ sym (map-set may_begin cells p cell);
      own = subst (AreReady marks (without n s.ops) lane.Own) (sym ring)
          (ready_still marks n s.ops (without n s.ops) lane.Own (own_ops jobs.ring) (without_leaves n s.ops)
          (none_running marks s.ops lane.Own n it (own_ops jobs.ring) is runs shows.own) shows.own);
      own_all = ap length ring ∙ shows.own_all ∙ sym (own_ended n s.ops it is runs);
      own_room = room-if (may_begin cell) jobs p ∙ shows.own_room;
      settled = shows.settled;
      going = shows.going;
    }

executes_there : (n : Name) (on : Lane) (p : Phase) → on ≡ lane.Strand n → is_running p ≡ true →
    1 ≤ if_executing (stage_of p) (is_on n on)
executes_there n on (phase.Running own grant spares) at runs =
    let one : one_if (is_on n on) ≡ 1 = ap (λ l. one_if (is_on n l)) at ∙ ap one_if (name-itself n) in
    omega (arith, one)
executes_there n on (phase.Pending moved cancelled) at runs = absurd (true≢false (sym runs))
executes_there n on (phase.Settled code size) at runs = absurd (true≢false (sym runs))
executes_there n on (phase.Ready code size) at runs = absurd (true≢false (sym runs))

some_one : (b : Bool) → 1 ≤ one_if b → b ≡ true
some_one true le = refl
some_one false le = absurd (omega (arith, le))

-- something executes there
pub runs_there : {H S : Type 0} (marks : H → Marks) (limits : Limits) (past : List Event) (counts : Counts)
    (names : Names) (cells : List (Cell H S)) (jobs : JobList (ReadyOp H)) (n : ℕ) (it : Op) (on : Lane) →
    IsLegal limits past → op_at (state_of limits past).ops n ≡ Some it → it.lane ≡ on → is_running it.phase ≡ true →
    Shows marks limits counts names cells jobs (state_of limits past) → MayLeaveFrom on cells jobs
runs_there marks limits past counts names cells jobs n it lane.Own legal is at runs shows = tt
runs_there marks limits past counts names cells jobs n it (lane.Strand m) legal is at runs shows =
    let s = state_of limits past in
    let known : IsKnown s.names.strands s.strands (lane.Strand m) =
    subst (IsKnown s.names.strands s.strands) (lane-found s.ops n it is ∙ at)
    (known_lane s n it is (strands_fit limits past legal shows.going)) in
    let own = share (staged (runs_on m)) n s.ops it is in
    let one = executes_there m it.lane it.phase at runs in
    let fits = (strands_fit limits past legal shows.going m).runs_fits in
    let here : (strand_of s m).runs ≡ (cell_at cells m.place).runs =
    ap (λ (st : StrandState). st.runs)
    (strand_is s.names.strands s.strands m known.0 ∙ sym (cell_is cells s.strands m.place shows.strands)) in
    let many = ap length shows.strands in
    let mapped = length-map cells numbered in
    let flags = ap length shows.listed in
    let mapped_flags = length-map cells may_begin in
    let lt = known.1 in
    record {
      within = omega (arith, lt, many, mapped);
      listed = omega (arith, lt, many, mapped, flags, mapped_flags);
      runs = ap is_some (sym here) ∙ some_one (is_some (strand_of s m).runs) (omega (arith, own, one, fits));
    }

-- what is held executes as its execution says
pub held_op_is : (s : ContextState) (n : ℕ) (on : Lane) (own : Bool) (grant : ℕ) (spares : Spares) (held : Option Held) →
    IsExecution n on own grant spares held → IsHeld s held → HeldOp s n on own grant spares held
held_op_is s n on own grant spares None executes is = absurd executes
held_op_is s n on own grant spares (Some h) executes is = record {
  op = h.is;
  is = subst (λ k. op_at s.ops k ≡ Some h.is) executes.number is.same;
  at = executes.on;
  runs = executes.runs;
  returns = refl;
}

pub may_end : (s : ContextState) (n mark : ℕ) (on : Lane) (own : Bool) (grant : ℕ) (spares : Spares) (held : Option Held) →
    s.finishing ≡ false → HeldOp s n on own grant spares held → mark_of held ≡ Some mark → MayEnd s n mark
may_end s n mark on own grant spares held going it returned = record {
  going = going;
  runs = ap (passes is_running) it.is ∙ ap is_running it.runs;
  returned = ap (λ (o : Option Op). option_map (λ (m : Marks). m.run) (marks_of o)) it.is ∙ sym it.returns ∙ returned;
}

-- what is free then is within the limit
pub room_ended : {H S : Type 0} (marks : H → Marks) (limits : Limits) (past : List Event) (counts : Counts)
    (names : Names) (cells : List (Cell H S)) (jobs : JobList (ReadyOp H)) (n : ℕ) (on : Lane) (own : Bool) (grant : ℕ)
    (spares : Spares) (held : Option Held) → IsLegal limits past →
    HeldOp (state_of limits past) n on own grant spares held →
    Shows marks limits counts names cells jobs (state_of limits past) →
    counts.room + (one_if own + grant) ≤ counts.limits.operations
room_ended marks limits past counts names cells jobs n on own grant spares held legal it shows =
    let s = state_of limits past in
    let all = places_add_up limits past legal in
    let sum = sum_by-total (λ (op : Op). places_in op.phase) s.ops in
    let here = share (λ (op : Op). places_in op.phase) n s.ops it.op it.is in
    let places = ap places_in it.runs in
    let room = ap (λ c. c.room) shows.counts_are in
    let most = ap (λ c. c.limits.operations) shows.counts_are in
    let same_limits = ap (λ (l : Limits). l.operations) shows.limits_are in
    omega (arith, all, sum, here, places, room, most, same_limits)

-- a strand that was freed is there
used_when_leaving : (l : Life) → is_closing l ≡ true → is_used l ≡ true
used_when_leaving life.Closing is = refl
used_when_leaving life.Free is = absurd (true≢false (sym is))
used_when_leaving (life.Kept op) is = absurd (true≢false (sym is))
used_when_leaving life.Alive is = absurd (true≢false (sym is))
used_when_leaving life.Spent is = absurd (true≢false (sym is))

used_not_free : (l : Life) → is_used l ≡ true → is_unused l ≡ false
used_not_free life.Free is = absurd (true≢false (sym is))
used_not_free (life.Kept op) is = refl
used_not_free life.Alive is = refl
used_not_free life.Closing is = refl
used_not_free life.Spent is = refl

-- nothing is ready on the strand of the last operation, which is there
pub idle_there : {H S : Type 0} (marks : H → Marks) (limits : Limits) (past : List Event) (counts : Counts)
    (names : Names) (cells : List (Cell H S)) (jobs : JobList (ReadyOp H)) (n : ℕ) (it : Op) (m : Name) (spares : Spares)
    (state : S) → IsLegal limits past → op_at (state_of limits past).ops n ≡ Some it → it.lane ≡ lane.Strand m →
    is_running it.phase ≡ true → spares ≡ spares_in it.phase →
    is_last_on (state_of limits past) (lane.Strand m) ≡ true →
    Shows marks limits counts names cells jobs (state_of limits past) →
    IsIdleAt m.place (given_back spares names).strands (left_cells (lane.Strand m) (Some state) cells)
idle_there marks limits past counts names cells jobs n it m spares state legal is at runs kept last shows =
    let s = state_of limits past in
    let p = m.place in
    let old = cell_at cells p in
    let cell = ended state old in
    let fits = strands_fit limits past legal shows.going in
    let known : IsKnown s.names.strands s.strands (lane.Strand m) =
    subst (IsKnown s.names.strands s.strands) (lane-found s.ops n it is ∙ at) (known_lane s n it is fits) in
    let on = runs_there marks limits past counts names cells jobs n it (lane.Strand m) legal is at runs shows in
    let here : is_on m (lane.Strand m) ≡ true = name-itself m in
    let own = share (staged (runs_on m)) n s.ops it is in
    let one = executes_there m it.lane it.phase at runs in
    let same_strand : numbered old ≡ strand_of s m =
    cell_is cells s.strands p shows.strands ∙ sym (strand_is s.names.strands s.strands m known.0) in
    let empty = empty_there old (strand_of s m) same_strand
    (none_waits m s.ops (strand_of s m) (fits m) (last_one s (lane.Strand m) m known here last) (omega (arith, own, one))) in
    let at_place = get_or-set_same cells p cell (vacant 0) on.within in
    let leaves = both (is_leaving s.names.strands m) (nat_le (strand_at s.strands m).tied 1) last in
    let closes = both (is_current s.names.strands m) (is_closing (place_at s.names.strands p).life) leaves.one in
    let unused = subst (λ (x : Spares). IsUnusedSpare s.names.strands x.strand) (sym kept)
    (spare_at s.names.strands n s.ops it shows.spares is) in
    let given = given_unused s.names.strands spares.strand unused in
    record {
      within = subst (λ len. p < len) (sym (length-set cells p cell)) on.within;
      used =
          subst (λ (ns : Names). is_unused (place_at (given_back spares ns).strands p).life ≡ false) (sym shows.names_are)
          (used_not_free (place_at (given_back spares s.names).strands p).life
          (used_at s.names.strands (given_back spares s.names).strands p given
          ∙ used_when_leaving (place_at s.names.strands p).life closes.other));
      idle = ap (λ (c : Cell _ _). c.queue) at_place ∙ empty;
    }

pub may_forget : {H S : Type 0} (marks : H → Marks) (limits : Limits) (past : List Event) (counts : Counts)
    (names given : Names) (cells : List (Cell H S)) (jobs : JobList (ReadyOp H)) (n : ℕ) (on : Lane) (own : Bool)
    (grant : ℕ) (spares : Spares) (held : Option Held) (state : Option S) (last : Bool) → IsLegal limits past →
    HeldOp (state_of limits past) n on own grant spares held → given ≡ given_back spares names →
    is_last_on (state_of limits past) on ≡ last →
    is_some state ≡ is_strand on → Shows marks limits counts names cells jobs (state_of limits past) →
    MayForget last on given.strands (left_cells on state cells)
may_forget marks limits past counts names given cells jobs n on own grant spares held state false legal it back
    is with_state shows = tt
may_forget marks limits past counts names given cells jobs n lane.Own own grant spares held state true legal it
    back is with_state shows = tt
may_forget marks limits past counts names given cells jobs n (lane.Strand m) own grant spares held None true
    legal it back is with_state shows =
    absurd (true≢false (sym with_state))
may_forget marks limits past counts names given cells jobs n (lane.Strand m) own grant spares held (Some state)
    true legal it back is with_state shows =
    subst (λ (ns : Names). IsIdleAt m.place ns.strands (left_cells (lane.Strand m) (Some state) cells)) (sym back)
    (idle_there marks limits past counts names cells jobs n it.op m spares state legal it.is it.at (ap is_running it.runs)
    (sym (ap spares_in it.runs)) is shows)

-- what is kept behind the end, where no strand is forgotten
shows_left : {H S : Type 0} (marks : H → Marks) (limits : Limits) (past : List Event) (counts : Counts)
    (names : Names) (cells : List (Cell H S)) (jobs : JobList (ReadyOp H)) (n : ℕ) (on : Lane) (own : Bool) (grant : ℕ)
    (spares : Spares) (held : Option Held) (state : Option S) → IsLegal limits past →
    HeldOp (state_of limits past) n on own grant spares held →
    is_some state ≡ is_strand on → Shows marks limits counts names cells jobs (state_of limits past) →
    Shows marks limits (counts_ended (one_if own + grant) counts) (given_back spares names) (left_cells on state cells)
    (left_jobs on state cells jobs) (ended_state on n (one_if own + grant) spares (state_of limits past))
shows_left marks limits past counts names cells jobs n lane.Own own grant spares held state legal it with_state shows =
    let s = state_of limits past in
    let unused = subst (λ p. IsUnusedSpare s.names.strands (spares_in p).strand) it.runs
    (spare_at s.names.strands n s.ops it.op shows.spares it.is) in
    ended_own marks limits counts names cells jobs s n it.op (one_if own + grant) spares it.is (ap is_running it.runs)
    unused shows
shows_left marks limits past counts names cells jobs n (lane.Strand m) own grant spares held None legal it with_state shows =
    absurd (true≢false (sym with_state))
shows_left marks limits past counts names cells jobs n (lane.Strand m) own grant spares held (Some state) legal
    it with_state shows =
    let s = state_of limits past in
    let runs = ap is_running it.runs in
    let unused = subst (λ p. IsUnusedSpare s.names.strands (spares_in p).strand) it.runs
    (spare_at s.names.strands n s.ops it.op shows.spares it.is) in
    let known : IsKnown s.names.strands s.strands (lane.Strand m) =
    subst (IsKnown s.names.strands s.strands) (lane-found s.ops n it.op it.is ∙ it.at)
    (known_lane s n it.op it.is (strands_fit limits past legal shows.going)) in
    subst
    (λ l. Shows marks limits (counts_ended (one_if own + grant) counts) (given_back spares names)
    (left_cells (lane.Strand m) (Some state) cells) (left_jobs (lane.Strand m) (Some state) cells jobs)
    (ended_state l n (one_if own + grant) spares s))
    (lane_current s.names m known.0)
    (ended_strand marks limits counts names cells jobs s n it.op m.place (one_if own + grant) spares state it.is runs unused
    (runs_there marks limits past counts names cells jobs n it.op (lane.Strand m) legal it.is it.at runs shows) shows)

-- what is kept behind the end
pub shows_ended : {H S : Type 0} (marks : H → Marks) (limits : Limits) (past : List Event) (counts : Counts)
    (names given : Names) (cells : List (Cell H S)) (jobs : JobList (ReadyOp H)) (n mark : ℕ) (on : Lane) (own : Bool)
    (grant : ℕ) (spares : Spares) (held : Option Held) (state : Option S) (last : Bool) → IsLegal limits past →
    HeldOp (state_of limits past) n on own grant spares held → given ≡ given_back spares names →
    is_last_on (state_of limits past) on ≡ last →
    is_some state ≡ is_strand on → Shows marks limits counts names cells jobs (state_of limits past) →
    Shows marks limits (counts_ended (one_if own + grant) counts)
    (record given { strands = strand_freed last on given.strands })
    (forgotten_cells last on (left_cells on state cells))
    (left_jobs on state cells jobs) (after (event.Ended n mark) (state_of limits past))
shows_ended marks limits past counts names given cells jobs n mark on own grant spares held state last legal it
    back is with_state shows =
    let s = state_of limits past in
    let places = one_if own + grant in
    subst
    (Shows marks limits (counts_ended places counts) (record given { strands = strand_freed last on given.strands })
    (forgotten_cells last on (left_cells on state cells)) (left_jobs on state cells jobs))
    (sym
    (after_ended n mark it.op on own grant spares s it.is it.at it.runs
    ∙ ap (λ b. forgotten b on (ended_state on n places spares s)) is))
    (shows_forgotten marks limits (counts_ended places counts) given (left_cells on state cells)
    (left_jobs on state cells jobs) (ended_state on n places spares s) last on
    (may_forget marks limits past counts names given cells jobs n on own grant spares held state last legal it
    back is with_state shows)
    (subst
    (λ (ns : Names). Shows marks limits (counts_ended places counts) ns (left_cells on state cells)
    (left_jobs on state cells jobs) (ended_state on n places spares s)) (sym back)
    (shows_left marks limits past counts names cells jobs n on own grant spares held state legal it with_state shows)))

-- the state that comes out is the one that the handler had
pub retired_is : {H S : Type 0} (cells : List (Cell H S)) (jobs : JobList (ReadyOp H)) (on : Lane) (state : Option S)
    (last : Bool) → MayLeaveFrom on cells jobs → is_some state ≡ is_strand on →
    forgotten_state last on (left_cells on state cells) ≡ (if last then state else None)
retired_is cells jobs on state false from with_state = refl
retired_is cells jobs lane.Own None true from with_state = refl
retired_is cells jobs lane.Own (Some state) true from with_state = absurd (true≢false with_state)
retired_is cells jobs (lane.Strand m) None true from with_state = absurd (true≢false (sym with_state))
retired_is cells jobs (lane.Strand m) (Some state) true from with_state =
    ap (λ (c : Cell _ _). c.state)
    (get_or-set_same cells m.place (ended state (cell_at cells m.place)) (vacant 0) from.within)
