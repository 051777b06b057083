-- A handler begins: what is kept shows the state behind it.
use Rattle.std.proofs.Common.{arith, ap, eqb, refl, subst, sym, ◌∙◌}
use Rattle.std.proofs.lemmas.Bool.{true≢false}
use Rattle.std.proofs.lemmas.List.{get_or-set_other, get_or-set_same, map-set}
use Rattle.std.proofs.Math.Seq.{map-set_same}
use Rattle.std.specs.Prelude.{◌≡◌, ◌<◌, ℕ, ◌+◌, ◌-◌, ◌==◌, ◌&&◌, Bool, true, false, List, [], ◌∷◌, Option, None, Some, drop, length, map, nat_lt, slice_get, sum_by}
use Rattle.std.specs.List.{slice_index_or, slice_set}
use Rattle.io_rules.specs.declared.limits.Limits.{Limits}
use Rattle.io_rules.specs.declared.name.Lane.{Lane}
use Rattle.io_rules.specs.declared.name.Lane.TheVariants as lane
use Rattle.io_rules.specs.declared.name.Name.{Name}
use Rattle.io_rules.specs.declared.op.Op.{Op}
use Rattle.io_rules.specs.declared.op.Phase.{Phase}
use Rattle.io_rules.specs.declared.op.Phase.TheVariants as phase
use Rattle.io_rules.specs.declared.place.Life.{Life}
use Rattle.io_rules.specs.declared.place.Life.TheVariants as life
use Rattle.io_rules.specs.declared.place.Place.{Place}
use Rattle.io_rules.specs.declared.request.Marks.{Marks}
use Rattle.io_rules.specs.declared.spares.Spares.{Spares}
use Rattle.io_rules.specs.Names.{Names, is_current, is_unused, no_place, place_at}
use Rattle.io_rules.specs.Ops.{is_ready, op_at, phase_changed, with_phase}
use Rattle.io_rules.specs.Room.{grant_of}
use Rattle.io_rules.specs.Spares.{MayKeep, MayKeepAll, kept_for, no_spares, with_life_of}
use Rattle.io_rules.specs.State.{ContextState, new_strand}
use Rattle.io_rules.specs.Strands.{begun_on, on_lane}
use Rattle.io_rules.proofs.StrandLemmas.{both, by_test, generation-with_life}
use Rattle.io_rules.proofs.TotalLemmas.{apart, each-changed, equal, sum_by-total, total-changed}
use Rattle.io_history.proofs.AtLemmas.{at-changed}
use Rattle.io_strands.specs.declared.ready.ReadyOp.{ReadyOp}
use Rattle.io_strands.specs.Cell.{Cell, begun, is_there, may_begin, vacant}
use Rattle.io_strands.specs.Numbered.{numbered}
use Rattle.io_strands.proofs.StepLemmas.{steps_alike}
use Rattle.io_names.specs.Tables.{name_at}
use Rattle.io_jobs.specs.declared.job.Job.{Job}
use Rattle.io_jobs.specs.declared.job.Job.TheVariants as job
use Rattle.io_jobs.specs.Listed.{JobList, taken}
use Rattle.io_scheduler.specs.declared.counts.Counts.{Counts}
use Rattle.io_scheduler.specs.Begun.{counts_begun}
use Rattle.io_scheduler.specs.Ready.{AreReady, IsNone, IsReadyAs, own_ops}
use Rattle.io_scheduler.specs.Shown.{AreBelow, IsUnusedSpare, Shows, ShowsCell, SparesUnused, cell_at, is_used, is_used_place, lane_of_place, room_of, waits_own, waits_own_on}
use Rattle.io_scheduler.proofs.ListedLemmas.{cell_is}
use Rattle.io_scheduler.proofs.ReadyLemmas.{below_each, each_below}
use Rattle.io_scheduler.proofs.SpareLemmas.{spares_changed, spares_less, used_at}

-- one that begins is none of those that are ready still
abbrev pub LeavesIt : ℕ → List Op → List Op → Type 0
LeavesIt n old new = (m : ℕ) (op : Op) → (m ≡ n → ⊥) → op_at old m ≡ Some op → op_at new m ≡ Some op

changed_leaves : (n : ℕ) (f : Op → Phase) (ops : List Op) → LeavesIt n ops (phase_changed n f ops)
changed_leaves n f ops m op other is = at-changed n m f ops op (λ here. absurd (other (sym here))) is

pub ready_still : {H : Type 0} (marks : H → Marks) (n : ℕ) (old new : List Op) (on : Lane) (queue : List (ReadyOp H)) →
    LeavesIt n old new → IsNone n queue → AreReady marks old on queue → AreReady marks new on queue
ready_still marks n old new on [] leaves none are = tt
ready_still marks n old new on (r ∷ rest) leaves none are = (
  record {
    op = are.0.op;
    is = leaves r.number are.0.op (λ is. apart r.number n none.0 (sym is)) are.0.is;
    lane = are.0.lane;
    given = are.0.given;
    phase = are.0.phase;
  },
  are.1,
  ready_still marks n old new on rest leaves none.1 are.2,
)

-- an operation of another lane is none of these
pub none_elsewhere : {H : Type 0} (marks : H → Marks) (ops : List Op) (on : Lane) (n : ℕ) (it : Op)
    (queue : List (ReadyOp H)) → op_at ops n ≡ Some it → (it.lane ≡ on → ⊥) → AreReady marks ops on queue →
    IsNone n queue
none_elsewhere marks ops on n it [] is other are = tt
none_elsewhere marks ops on n it (r ∷ rest) is other are =
    (by_number (r.number == n) refl, none_elsewhere marks ops on n it rest is other are.2)
  where
    by_number : (b : Bool) → (r.number == n) ≡ b → (r.number == n) ≡ false
    by_number false isnt = isnt
    by_number true same_number =
        let at : op_at ops n ≡ Some are.0.op =
        subst (λ k. op_at ops k ≡ Some are.0.op) (equal r.number n same_number) are.0.is in
        let same_op : it ≡ are.0.op = cc in
        absurd (other (ap (λ (op : Op). op.lane) same_op ∙ are.0.lane))

-- the queue without its first
behind_first : {H : Type 0} (marks : H → Marks) (n : ℕ) (old new : List Op) (on : Lane) (queue : List (ReadyOp H))
    (first : ReadyOp H) → LeavesIt first.number old new → slice_get queue 0 ≡ Some first →
    AreReady marks old on queue → AreReady marks new on (drop 1 queue)
behind_first marks n old new on [] first leaves is are = tt
behind_first marks n old new on (r ∷ rest) first leaves is are =
    let it : r ≡ first = cc in
    ready_still marks first.number old new on rest leaves
    (subst (λ (x : ReadyOp _). IsNone x.number rest) it are.1) are.2

pub first_ready : {H : Type 0} (marks : H → Marks) (ops : List Op) (on : Lane) (queue : List (ReadyOp H))
    (first : ReadyOp H) → slice_get queue 0 ≡ Some first → AreReady marks ops on queue → IsReadyAs marks ops on first
first_ready marks ops on [] first is are = absurd (cc)
first_ready marks ops on (r ∷ rest) first is are =
    let it : r ≡ first = cc in subst (IsReadyAs marks ops on) it are.0

-- a name that is kept was free: no strand is there, before and after
kept_unused : (places : List Place) (spare : Option Name) (n : ℕ) → MayKeep places None spare →
    map is_used_place (with_life_of (life.Kept n) spare places) ≡ map is_used_place places
kept_unused places None n may = refl
kept_unused places (Some name) n may =
    map-set_same is_used_place places name.place _ no_place
    (sym (unused_not (place_at places name.place).life
    (both (is_current places name) (is_unused (place_at places name.place).life) may).other))
  where
    unused_not : (l : Life) → is_unused l ≡ true → is_used l ≡ false
    unused_not life.Free is = refl
    unused_not (life.Kept op) is = absurd (true≢false (sym is))
    unused_not life.Alive is = absurd (true≢false (sym is))
    unused_not life.Closing is = absurd (true≢false (sym is))
    unused_not life.Spent is = absurd (true≢false (sym is))

lane_kept : (places : List Place) (spare : Option Name) (n k : ℕ) →
    lane_of_place places k ≡ lane_of_place (with_life_of (life.Kept n) spare places) k
lane_kept places None n k = refl
lane_kept places (Some name) n k =
    ap (λ g. lane.Strand (record { place = k; generation = g })) (sym (generation-with_life (life.Kept n) name places k))

-- the rules' names and numbers
pub below_begun : (next n : ℕ) (f : Op → Phase) (ops : List Op) → AreBelow next ops → AreBelow next (phase_changed n f ops)
below_begun next n f ops below =
    below_each next (phase_changed n f ops) (each-changed (λ k on. k < next) n f ops (each_below next ops below))

-- what a handler that begins leaves of a place: its strand isn't the one of another place
pub other_lane : (places : List Place) (p k : ℕ) → eqb p k ≡ false → lane_of_place places p ≡ lane_of_place places k → ⊥
other_lane places p k other is =
    let same_place : p ≡ k = ap place_of is in apart p k other (sym same_place)
  where
    place_of : Lane → ℕ
    place_of lane.Own = 0
    place_of (lane.Strand name) = name.place

pub own_apart : (name : Name) → lane.Strand name ≡ lane.Own → ⊥
own_apart name is = absurd (cc)

and_not : (b : Bool) → (b && false) ≡ false
and_not true = refl
and_not false = refl

-- what is counted, where one that waits begins
own_begun : (n : ℕ) (grant : ℕ) (spares : Spares) (ops : List Op) (it : Op) → op_at ops n ≡ Some it →
    sum_by waits_own (with_phase n (phase.Running true grant spares) ops) + waits_own it ≡ sum_by waits_own ops
own_begun n grant spares ops it is =
    let old = sum_by-total waits_own ops in
    let new = sum_by-total waits_own (with_phase n (phase.Running true grant spares) ops) in
    let step = total-changed waits_own n (λ op. phase.Running true grant spares) ops it is in
    let none = running_none it.lane in
    omega (arith, old, new, step, none)
  where
    running_none : (on : Lane) → waits_own_on on false ≡ 0
    running_none lane.Own = refl
    running_none (lane.Strand name) = refl

-- the state behind a begin on this lane
abbrev pub begun_state : Lane → ℕ → Spares → ContextState → ContextState
begun_state on n spares s = record s {
  promised = s.promised + (grant_of s + 1);
  room = s.room - grant_of s;
  ops = with_phase n (phase.Running true (grant_of s) spares) s.ops;
  names = kept_for n spares s.names;
  strands = on_lane on (begun_on n) s.strands;
}

pub own_first : {H : Type 0} (ring : List (Job (ReadyOp H))) (op : ReadyOp H) → slice_get ring 0 ≡ Some (job.Own op) →
    own_ops ring ≡ op ∷ own_ops (drop 1 ring)
own_first [] op first = absurd (cc)
own_first (x ∷ ring) op first =
    let it : x ≡ job.Own op = cc in ap (λ y. own_ops (y ∷ ring)) it

own_skips : {H : Type 0} (ring : List (Job (ReadyOp H))) (p : ℕ) → slice_get ring 0 ≡ Some (job.Strand p) →
    own_ops (drop 1 ring) ≡ own_ops ring
own_skips [] p first = absurd (cc)
own_skips (x ∷ ring) p first =
    let it : x ≡ job.Strand p = cc in sym (ap (λ y. own_ops (y ∷ ring)) it)

-- what is kept for it was free
spares_begun : (s : ContextState) (n : ℕ) (spares : Spares) → MayKeep s.names.strands None spares.strand →
    SparesUnused s.names.strands s.ops →
    SparesUnused (kept_for n spares s.names).strands (with_phase n (phase.Running true (grant_of s) spares) s.ops)
spares_begun s n spares may unused =
    let places = s.names.strands in
    let kept = (kept_for n spares s.names).strands in
    let same_used = kept_unused places spares.strand n may in
    spares_changed kept n (phase.Running true (grant_of s) spares) s.ops
    (spares_less places kept s.ops same_used unused) (spare_kept places kept spares.strand same_used may)
  where
    free_unused : (l : Life) → is_unused l ≡ true → is_used l ≡ false
    free_unused life.Free is = refl
    free_unused (life.Kept op) is = absurd (true≢false (sym is))
    free_unused life.Alive is = absurd (true≢false (sym is))
    free_unused life.Closing is = absurd (true≢false (sym is))
    free_unused life.Spent is = absurd (true≢false (sym is))

    spare_kept : (places kept : List Place) (spare : Option Name) → map is_used_place kept ≡ map is_used_place places →
        MayKeep places None spare → IsUnusedSpare kept spare
    spare_kept places kept None are may = tt
    spare_kept places kept (Some name) are may =
        used_at places kept name.place are
        ∙ free_unused (place_at places name.place).life
        (both (is_current places name) (is_unused (place_at places name.place).life) may).other

-- what is ready at the other places stays
others_begun : {H S : Type 0} (marks : H → Marks) (s : ContextState) (n : ℕ) (spares : Spares) (it : Op) (k : ℕ)
    (c : Cell H S) → op_at s.ops n ≡ Some it → (it.lane ≡ lane_of_place s.names.strands k → ⊥) →
    ShowsCell marks s.ops s.next (lane_of_place s.names.strands k) c →
    ShowsCell marks (with_phase n (phase.Running true (grant_of s) spares) s.ops) s.next
    (lane_of_place (kept_for n spares s.names).strands k) c
others_begun marks s n spares it k c is other shows =
    let new = with_phase n (phase.Running true (grant_of s) spares) s.ops in
    subst (λ l. ShowsCell marks new s.next l c) (lane_kept s.names.strands spares.strand n k)
    (record {
      ready = ready_still marks n s.ops new (lane_of_place s.names.strands k) c.queue
          (changed_leaves n (λ op. phase.Running true (grant_of s) spares) s.ops)
          (none_elsewhere marks s.ops (lane_of_place s.names.strands k) n it c.queue is other shows.ready) shows.ready;
      tied = shows.tied;
      idle = shows.idle;
    })

-- one without a strand begins
pub begun_own : {H S : Type 0} (marks : H → Marks) (limits : Limits) (counts : Counts) (names : Names)
    (cells : List (Cell H S)) (jobs : JobList (ReadyOp H)) (s : ContextState) (op : ReadyOp H) (spares : Spares) →
    slice_get jobs.ring 0 ≡ Some (job.Own op) → MayKeepAll s.names no_spares spares →
    Shows marks limits counts names cells jobs s →
    Shows marks limits (counts_begun (grant_of s) counts) (kept_for op.number spares names) cells
    (taken (job.Own op) jobs) (begun_state lane.Own op.number spares s)
begun_own marks limits counts names cells jobs s op spares first may shows =
    let n = op.number in
    let new = with_phase n (phase.Running true (grant_of s) spares) s.ops in
    let split = own_first jobs.ring op first in
    let are = subst (AreReady marks s.ops lane.Own) split shows.own in
    let it = are.0.op in
    let leaves = changed_leaves n (λ o. phase.Running true (grant_of s) spares) s.ops in
    let counted = own_begun n (grant_of s) spares s.ops it are.0.is in
    let one : waits_own it ≡ 1 = ap (λ on. waits_own_on on (is_ready it.phase)) are.0.lane
    ∙ ap (λ p. waits_own_on lane.Own (is_ready p)) are.0.phase in
    let all = shows.own_all in let longer = ap length split in
    record {
      limits_are = shows.limits_are;
      counts_are = ap (counts_begun (grant_of s)) shows.counts_are;
      names_are = ap (kept_for n spares) shows.names_are;
      below = below_begun s.next n (λ o. phase.Running true (grant_of s) spares) s.ops shows.below;
      spares = spares_begun s n spares may.strand shows.spares;
      strands = shows.strands;
      there = shows.there ∙ sym (kept_unused s.names.strands spares.strand n may.strand);
      rooms = shows.rooms;
      each = λ k.
          others_begun marks s n spares it k (cell_at cells k) are.0.is
          (λ on. own_apart (name_at s.names.strands k) (sym on ∙ are.0.lane)) (shows.each k);
      listed = shows.listed;
      own = ready_still marks n s.ops new lane.Own (own_ops (drop 1 jobs.ring)) leaves are.1 are.2;
      own_all = omega (arith, counted, one, all, longer);
      own_room = shows.own_room;
      settled = shows.settled;
      going = shows.going;
    }

-- the first of a strand begins
pub begun_strand : {H S : Type 0} (marks : H → Marks) (limits : Limits) (counts : Counts) (names : Names)
    (cells : List (Cell H S)) (jobs : JobList (ReadyOp H)) (s : ContextState) (p : ℕ) (op : ReadyOp H)
    (spares : Spares) → p < length cells → slice_get jobs.ring 0 ≡ Some (job.Strand p) →
    is_there (cell_at cells p) ≡ true → slice_get (cell_at cells p).queue 0 ≡ Some op →
    MayKeepAll s.names no_spares spares → Shows marks limits counts names cells jobs s →
    Shows marks limits (counts_begun (grant_of s) counts) (kept_for op.number spares names)
    (slice_set cells p (begun op (cell_at cells p))) (taken (job.Strand p) jobs)
    (begun_state (lane_of_place s.names.strands p) op.number spares s)
begun_strand marks limits counts names cells jobs s p op spares within listed is_here first may shows =
    let n = op.number in
    let old = cell_at cells p in
    let cell = begun op old in
    let on = lane_of_place s.names.strands p in
    let new = with_phase n (phase.Running true (grant_of s) spares) s.ops in
    let leaves = changed_leaves n (λ o. phase.Running true (grant_of s) spares) s.ops in
    let r = first_ready marks s.ops on old.queue op first (shows.each p).ready in
    let it = r.op in
    let counted = own_begun n (grant_of s) spares s.ops it r.is in
    let none : waits_own it ≡ 0 = ap (λ l. waits_own_on l (is_ready it.phase)) r.lane in
    let skips = own_skips jobs.ring p listed in
    let all = shows.own_all in let same_many = ap length skips in
    record {
      limits_are = shows.limits_are;
      counts_are = ap (counts_begun (grant_of s)) shows.counts_are;
      names_are = ap (kept_for n spares) shows.names_are;
      below = below_begun s.next n (λ o. phase.Running true (grant_of s) spares) s.ops shows.below;
      spares = spares_begun s n spares may.strand shows.spares;
      strands =
          map-set numbered cells p cell
          ∙ ap (λ c. slice_set (map numbered cells) p c)
          (steps_alike.begun op old ∙ ap (begun_on n) (cell_is cells s.strands p shows.strands))
          ∙ ap (λ xs. slice_set xs p (begun_on n (slice_index_or s.strands p new_strand))) shows.strands;
      there =
          map-set_same is_there cells p cell (vacant 0) (sym is_here) ∙ shows.there
          ∙ sym (kept_unused s.names.strands spares.strand n may.strand);
      rooms = map-set_same room_of cells p cell (vacant 0) refl ∙ shows.rooms;
      each = λ k.
          by_test (p == k)
          (λ here.
          subst
          (λ j. ShowsCell marks new s.next (lane_of_place (kept_for n spares s.names).strands j)
          (cell_at (slice_set cells p cell) j))
          (equal p k here)
          (subst (λ c. ShowsCell marks new s.next (lane_of_place (kept_for n spares s.names).strands p) c)
          (sym (get_or-set_same cells p cell (vacant 0) within))
          (subst (λ l. ShowsCell marks new s.next l cell) (lane_kept s.names.strands spares.strand n p)
          (record {
            ready = behind_first marks n s.ops new on old.queue op leaves first (shows.each p).ready;
            tied = (shows.each p).tied;
            idle = λ isnt. absurd (true≢false isnt);
          }))))
          (λ other.
          subst (λ c. ShowsCell marks new s.next (lane_of_place (kept_for n spares s.names).strands k) c)
          (sym (get_or-set_other cells p k cell (vacant 0) (apart p k other)))
          (others_begun marks s n spares it k (cell_at cells k) r.is
          (λ same_lane. other_lane s.names.strands p k other (sym r.lane ∙ same_lane)) (shows.each k)));
      listed =
          ap (λ xs. slice_set xs p false) shows.listed
          ∙ ap (λ b. slice_set (map may_begin cells) p b) (sym (and_not (nat_lt 0 (length (drop 1 old.queue)))))
          ∙ sym (map-set may_begin cells p cell);
      own = subst (AreReady marks new lane.Own) (sym skips)
          (ready_still marks n s.ops new lane.Own (own_ops jobs.ring) leaves
          (none_elsewhere marks s.ops lane.Own n it (own_ops jobs.ring) r.is
          (λ same_lane. own_apart (name_at s.names.strands p) (sym r.lane ∙ same_lane)) shows.own) shows.own);
      own_all = omega (arith, counted, none, all, same_many);
      own_room = shows.own_room;
      settled = shows.settled;
      going = shows.going;
    }
