-- A strand is forgotten with its last operation: what is kept shows the state behind it.
use Rattle.std.proofs.Common.{arith, ap, eqb, refl, subst, sym, ◌∙◌}
use Rattle.std.proofs.lemmas.List.{get_or-set_other, get_or-set_same, length-map, map-set, nil_from_length}
use Rattle.std.proofs.Math.ListN.{get_or-map}
use Rattle.std.proofs.Math.Seq.{map-set_same}
use Rattle.std.specs.Prelude.{◌≡◌, ◌<◌, ◌≤◌, ℕ, ◌+◌, ◌==◌, ◌&&◌, nat_le, nat_lt, not, Bool, true, false, List, [], ◌∷◌, length, map, if◌then◌else◌}
use Rattle.std.specs.List.{slice_index_or, slice_set}
use Rattle.std.specs.Option.{is_some}
use Rattle.io_rules.specs.declared.limits.Limits.{Limits}
use Rattle.io_rules.specs.declared.name.Lane.{Lane}
use Rattle.io_rules.specs.declared.name.Lane.TheVariants as lane
use Rattle.io_rules.specs.declared.name.Name.{Name}
use Rattle.io_rules.specs.declared.op.Op.{Op}
use Rattle.io_rules.specs.declared.place.Life.TheVariants as life
use Rattle.io_rules.specs.declared.place.Place.{Place}
use Rattle.io_rules.specs.declared.request.Marks.{Marks}
use Rattle.io_rules.specs.Names.{Names, freed, is_leaving, no_place, place_at, with_freed}
use Rattle.io_rules.specs.State.{ContextState, StrandState, new_strand, with_strand}
use Rattle.io_rules.specs.Strands.{is_last_on, strand_forgotten, strand_freed}
use Rattle.io_rules.proofs.FitLemmas.{FitsWith, runs_on, tied_to, waits_on}
use Rattle.io_rules.proofs.StageLemmas.{Executing, Idle, Prepared, Stage, stage_of, staged}
use Rattle.io_rules.proofs.StrandLemmas.{by_test}
use Rattle.io_rules.proofs.TotalLemmas.{apart, equal, total}
use Rattle.io_strands.specs.declared.ready.ReadyOp.{ReadyOp}
use Rattle.io_strands.specs.Cell.{Cell, is_there, may_begin, vacant}
use Rattle.io_strands.specs.Numbered.{number_of, numbered}
use Rattle.io_jobs.specs.Listed.{JobList}
use Rattle.io_scheduler.specs.declared.counts.Counts.{Counts}
use Rattle.io_scheduler.specs.Ended.{MayForget, forgotten_cells, is_last_in}
use Rattle.io_scheduler.specs.Shown.{Shows, ShowsCell, cell_at, is_used_place, lane_of_place, room_of}
use Rattle.io_scheduler.proofs.ListedLemmas.{cell_is, set_same}
use Rattle.io_scheduler.proofs.SpareLemmas.{spares_fewer}

freed_if : (b : Bool) (place : Place) →
    is_used_place
    (if b then record { generation = place.generation + 1; life = life.Free }
    else record place { life = life.Spent }) ≡ false
freed_if true place = refl
freed_if false place = refl

-- nothing is at a place that is freed
freed_unused : (place : Place) → is_used_place (freed place) ≡ false
freed_unused place = freed_if (nat_lt (place.generation + 1) 4294967296) place

flags_freed : (places : List Place) (name : Name) →
    map is_used_place (with_freed name places) ≡ slice_set (map is_used_place places) name.place false
flags_freed places name =
    map-set is_used_place places name.place (freed (place_at places name.place))
    ∙ ap (λ b. slice_set (map is_used_place places) name.place b) (freed_unused (place_at places name.place))

unset_less : (flags : List Bool) (p k : ℕ) → slice_index_or flags k false ≡ false →
    slice_index_or (slice_set flags p false) k false ≡ false
unset_less flags p k isnt =
    by_test (p == k)
    (λ here.
    subst (λ j. slice_index_or (slice_set flags j false) k false ≡ false) (sym (equal p k here))
    (subst (λ xs. slice_index_or xs k false ≡ false) (set_same flags k false isnt) isnt))
    (λ other. get_or-set_other flags p k false false (apart p k other) ∙ isnt)

freed_less : (places : List Place) (name : Name) (k : ℕ) → is_used_place (place_at places k) ≡ false →
    is_used_place (place_at (with_freed name places) k) ≡ false
freed_less places name k isnt =
    sym (get_or-map is_used_place (with_freed name places) k no_place)
    ∙ ap (λ xs. slice_index_or xs k false) (flags_freed places name)
    ∙ unset_less (map is_used_place places) name.place k (get_or-map is_used_place places k no_place ∙ isnt)

lane_elsewhere : (places : List Place) (name : Name) (k : ℕ) → eqb name.place k ≡ false →
    lane_of_place (with_freed name places) k ≡ lane_of_place places k
lane_elsewhere places name k other =
    ap (λ (at : Place). lane.Strand (record { place = k; generation = at.generation }))
    (get_or-set_other places name.place k (freed (place_at places name.place)) no_place (apart name.place k other))

abbrev strands_freed : Name → Names → Names
strands_freed name names = record names { strands = with_freed name names.strands }

-- a place is free for the next strand
abbrev pub without_strand : Name → ContextState → ContextState
without_strand name s = record s {
  names = record s.names { strands = with_freed name s.names.strands };
  strands = with_strand name new_strand s.strands;
}

pub shows_without : {H S : Type 0} (marks : H → Marks) (limits : Limits) (counts : Counts) (names : Names)
    (cells : List (Cell H S)) (jobs : JobList (ReadyOp H)) (s : ContextState) (name : Name) →
    name.place < length cells → (cell_at cells name.place).queue ≡ [] → Shows marks limits counts names cells jobs s →
    Shows marks limits counts (record names { strands = with_freed name names.strands })
    (slice_set cells name.place (vacant (cell_at cells name.place).room)) jobs (without_strand name s)
shows_without marks limits counts names cells jobs s name within empty shows =
    let p = name.place in
    let old = cell_at cells p in
    let cell = vacant old.room in
    let places = s.names.strands in
    let new = with_freed name places in
    record {
      limits_are = shows.limits_are;
      counts_are = shows.counts_are;
      names_are = ap (strands_freed name) shows.names_are;
      below = shows.below;
      spares = spares_fewer places new s.ops (freed_less places name) shows.spares;
      strands = map-set numbered cells p cell ∙ ap (λ xs. slice_set xs p new_strand) shows.strands;
      there =
          map-set is_there cells p cell ∙ ap (λ xs. slice_set xs p false) shows.there
          ∙ sym (flags_freed places name);
      rooms = map-set_same room_of cells p cell (vacant 0) refl ∙ shows.rooms;
      each = λ k.
          by_test (p == k)
          (λ here.
          subst (λ j. ShowsCell marks s.ops s.next (lane_of_place new j) (cell_at (slice_set cells p cell) j))
          (equal p k here)
          (subst (λ c. ShowsCell marks s.ops s.next (lane_of_place new p) c)
          (sym (get_or-set_same cells p cell (vacant 0) within))
          (record { ready = tt; tied = omega arith; idle = λ isnt. refl })))
          (λ other.
          subst (λ c. ShowsCell marks s.ops s.next (lane_of_place new k) c)
          (sym (get_or-set_other cells p k cell (vacant 0) (apart p k other)))
          (subst (λ l. ShowsCell marks s.ops s.next l (cell_at cells k)) (sym (lane_elsewhere places name k other))
          (shows.each k)));
      listed =
          shows.listed
          ∙ sym (map-set_same may_begin cells p cell (vacant 0)
          (sym (ap (λ queue. nat_lt 0 (length queue) && not (is_some old.runs)) empty)));
      own = shows.own;
      own_all = shows.own_all;
      own_room = shows.own_room;
      settled = shows.settled;
      going = shows.going;
    }

-- likewise for the strand of a lane, if it was the last operation there
abbrev pub forgotten : Bool → Lane → ContextState → ContextState
forgotten last on s = record s {
  names = record s.names { strands = strand_freed last on s.names.strands };
  strands = strand_forgotten last on s.strands;
}

pub shows_forgotten : {H S : Type 0} (marks : H → Marks) (limits : Limits) (counts : Counts) (names : Names)
    (cells : List (Cell H S)) (jobs : JobList (ReadyOp H)) (s : ContextState) (last : Bool) (on : Lane) →
    MayForget last on names.strands cells → Shows marks limits counts names cells jobs s →
    Shows marks limits counts (record names { strands = strand_freed last on names.strands })
    (forgotten_cells last on cells) jobs (forgotten last on s)
shows_forgotten marks limits counts names cells jobs s false on may shows = shows
shows_forgotten marks limits counts names cells jobs s true lane.Own may shows = shows
shows_forgotten marks limits counts names cells jobs s true (lane.Strand name) may shows =
    shows_without marks limits counts names cells jobs s name may.within may.idle shows

-- what executes on a strand or is ready there is tied to it
total-two : (f g h : Op → ℕ) → ((op : Op) → f op + g op ≤ h op) → (ops : List Op) →
    total f ops + total g ops ≤ total h ops
total-two f g h less [] = omega arith
total-two f g h less (op ∷ ops) =
    let here = less op in let rest = total-two f g h less ops in omega (arith, here, rest)

one_stage : (n : Name) (k : ℕ) (on : Lane) (stage : Stage) → waits_on n k on stage + runs_on n k on stage ≤ tied_to n k on stage
one_stage n k on Idle = omega arith
one_stage n k on Prepared = omega arith
one_stage n k on Executing = omega arith

-- nothing waits behind the last operation of a strand
pub none_waits : (n : Name) (ops : List Op) (st : StrandState) →
    FitsWith (total (staged (tied_to n)) ops) (total (staged (runs_on n)) ops) (total (staged (waits_on n)) ops) st →
    st.tied ≤ 1 → 1 ≤ total (staged (runs_on n)) ops → length st.queue ≡ 0
none_waits n ops st fits last runs =
    let less = total-two (staged (waits_on n)) (staged (runs_on n)) (staged (tied_to n))
    (λ op. one_stage n op.number op.lane (stage_of op.phase)) ops in
    let tied = fits.tied_fits in let waits = fits.waits_fits in
    omega (arith, less, tied, waits, last, runs)

pub empty_there : {H S : Type 0} (c : Cell H S) (st : StrandState) → numbered c ≡ st → length st.queue ≡ 0 →
    c.queue ≡ []
empty_there c st is none =
    let many = length-map c.queue number_of in
    let same = ap (λ (x : StrandState). length x.queue) is in
    nil_from_length c.queue (omega (arith, many, same, none))

last_in : {H S : Type 0} (cells : List (Cell H S)) (s : ContextState) (on : Lane) → map numbered cells ≡ s.strands →
    is_last_in s.names.strands on cells ≡ is_last_on s on
last_in cells s lane.Own are = refl
last_in cells s (lane.Strand name) are =
    ap (λ (st : StrandState). is_leaving s.names.strands name && nat_le st.tied 1) (cell_is cells s.strands name.place are)

-- the test of the scheduler is that of the rules
pub last_is : {H S : Type 0} (marks : H → Marks) (limits : Limits) (counts : Counts) (names : Names)
    (cells : List (Cell H S)) (jobs : JobList (ReadyOp H)) (s : ContextState) (on : Lane) (last : Bool) →
    last ≡ is_last_in names.strands on cells → Shows marks limits counts names cells jobs s → is_last_on s on ≡ last
last_is marks limits counts names cells jobs s on last is shows =
    sym (is ∙ ap (λ (ns : Names). is_last_in ns.strands on cells) shows.names_are ∙ last_in cells s on shows.strands)
