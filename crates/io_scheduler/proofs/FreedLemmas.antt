-- A strand is freed: what is kept shows the state behind it.
use Rattle.std.proofs.Common.{arith, ap, refl, subst, sym, ◌∙◌}
use Rattle.std.proofs.lemmas.Bool.{true≢false}
use Rattle.std.proofs.Math.Seq.{map-set_same}
use Rattle.std.specs.Prelude.{◌≡◌, ◌<◌, ◌≤◌, ℕ, ◌==◌, ◌&&◌, ◌||◌, ◌++◌, not, Bool, true, false, List, [], Option, None, Some, length, map, if◌then◌else◌}
use Rattle.std.specs.Option.{is_some}
use Rattle.io_rules.specs.declared.control.Control.TheVariants as control
use Rattle.io_rules.specs.declared.event.Event.{Event}
use Rattle.io_rules.specs.declared.event.Event.TheVariants as event
use Rattle.io_rules.specs.declared.limits.Limits.{Limits}
use Rattle.io_rules.specs.declared.name.Kind.TheVariants as kind
use Rattle.io_rules.specs.declared.name.Lane.TheVariants as lane
use Rattle.io_rules.specs.declared.name.Name.{Name}
use Rattle.io_rules.specs.declared.op.Wait.{Wait}
use Rattle.io_rules.specs.declared.place.Life.{Life}
use Rattle.io_rules.specs.declared.place.Life.TheVariants as life
use Rattle.io_rules.specs.declared.place.Place.{Place}
use Rattle.io_rules.specs.declared.request.Marks.{Marks}
use Rattle.io_rules.specs.Cancelling.{cancelled}
use Rattle.io_rules.specs.Changes.{is_forgotten, is_tied, place_freed}
use Rattle.io_rules.specs.InOrder.{strand_of}
use Rattle.io_rules.specs.Legal.{IsLegal, after, state_of}
use Rattle.io_rules.specs.Names.{Names, is_alive, is_current, is_living, is_unused, no_place, place_at, with_life}
use Rattle.io_rules.specs.Room.{one_if}
use Rattle.io_rules.specs.State.{ContextState, StrandState, new_strand, strand_at, with_strand}
use Rattle.io_rules.proofs.StrandLemmas.{both, generation-with_life, strand_is}
use Rattle.io_rules.proofs.StrandStateLemmas.{runs_tied, strands_fit, waits_tied}
use Rattle.io_rules.proofs.TotalLemmas.{equal}
use Rattle.io_strands.specs.declared.ready.ReadyOp.{ReadyOp}
use Rattle.io_strands.specs.Cell.{Cell, is_there}
use Rattle.io_strands.specs.Numbered.{numbered}
use Rattle.io_jobs.specs.Listed.{JobList}
use Rattle.io_scheduler.specs.declared.counts.Counts.{Counts}
use Rattle.io_scheduler.specs.Ended.{forgotten_cells, forgotten_state}
use Rattle.io_scheduler.specs.Shown.{Shows, ShowsCell, cell_at, is_used_place, lane_of_place}
use Rattle.io_scheduler.specs.Stranded.{MayFree, names_freed}
use Rattle.io_scheduler.proofs.CountedLemmas.{shows_counted}
use Rattle.io_scheduler.proofs.ForgottenLemmas.{empty_there, shows_without}
use Rattle.io_scheduler.proofs.ListedLemmas.{cell_is}
use Rattle.io_scheduler.proofs.SpaceLemmas.{living_used, there_is, within_cells}
use Rattle.io_scheduler.proofs.SpareLemmas.{spares_less}

pub living_not : (l : Life) → is_living l ≡ true → is_unused l ≡ false
living_not life.Alive is = refl
living_not life.Free is = absurd (true≢false (sym is))
living_not (life.Kept op) is = refl
living_not life.Closing is = refl
living_not life.Spent is = refl

-- a strand that is there
pub record AliveStrand {H S : Type 0} (cells : List (Cell H S)) (s : ContextState) (name : Name) : Type 0 where
  pub within : name.place < length cells
  pub current : is_current s.names.strands name ≡ true
  pub living : is_living (place_at s.names.strands name.place).life ≡ true
  pub is : numbered (cell_at cells name.place) ≡ strand_at s.strands name
  pub used : is_there (cell_at cells name.place) ≡ true

pub alive_strand : {H S : Type 0} (marks : H → Marks) (limits : Limits) (counts : Counts) (names : Names)
    (cells : List (Cell H S)) (jobs : JobList (ReadyOp H)) (s : ContextState) (name : Name) →
    is_alive s.names.strands name ≡ true → Shows marks limits counts names cells jobs s → AliveStrand cells s name
alive_strand marks limits counts names cells jobs s name alive shows =
    let places = s.names.strands in
    let parts = both (is_current places name) (is_living (place_at places name.place).life) alive in
    record {
      within = within_cells cells places name shows.there alive;
      current = parts.one;
      living = parts.other;
      is = cell_is cells s.strands name.place shows.strands;
      used = there_is cells places name.place shows.there ∙ living_used (place_at places name.place).life parts.other;
    }

-- nothing executes there and nothing is ready, where it has no operation
pub record IsFreeOfWork {H S : Type 0} (c : Cell H S) : Type 0 where
  pub queue : c.queue ≡ []
  pub runs : is_some c.runs ≡ false

none_some : (b : Bool) → one_if b ≤ 0 → b ≡ false
none_some true le = absurd (omega (arith, le))
none_some false le = refl

pub without_work : {H S : Type 0} (limits : Limits) (past : List Event) (cells : List (Cell H S)) (name : Name) →
    IsLegal limits past → (state_of limits past).finishing ≡ false → AliveStrand cells (state_of limits past) name →
    (cell_at cells name.place).tied ≡ 0 → IsFreeOfWork (cell_at cells name.place)
without_work limits past cells name legal going it none =
    let s = state_of limits past in
    let c = cell_at cells name.place in
    let fits = strands_fit limits past legal going name in
    let same_strand : numbered c ≡ strand_of s name =
    it.is ∙ sym (strand_is s.names.strands s.strands name it.current) in
    let tied = ap (λ (st : StrandState). st.tied) same_strand in
    let runs = ap (λ (st : StrandState). one_if (is_some st.runs)) same_strand in
    let all = fits.tied_fits in let waits = fits.waits_fits in let executes = fits.runs_fits in
    let behind = waits_tied name s.ops in let less = runs_tied name s.ops in
    record {
      queue = empty_there c (strand_of s name) same_strand (omega (arith, none, tied, all, waits, behind));
      runs = none_some (is_some c.runs) (omega (arith, none, tied, all, executes, less, runs));
    }

pub may_free : {H S : Type 0} (marks : H → Marks) (limits : Limits) (past : List Event) (counts : Counts)
    (names : Names) (cells : List (Cell H S)) (jobs : JobList (ReadyOp H)) (name : Name) → IsLegal limits past →
    is_alive (state_of limits past).names.strands name ≡ true →
    Shows marks limits counts names cells jobs (state_of limits past) →
    MayFree name.place names.strands cells
may_free marks limits past counts names cells jobs name legal may shows =
    let it = alive_strand marks limits counts names cells jobs (state_of limits past) name may shows in
    record {
      within = it.within;
      used = subst (λ (ns : Names). is_unused (place_at ns.strands name.place).life ≡ false) (sym shows.names_are)
          (living_not (place_at (state_of limits past).names.strands name.place).life it.living);
      idle = λ none. (without_work limits past cells name legal shows.going it none).queue;
    }

-- the state behind it, where the strand is there; what waits for time is nothing that is shown
abbrev freed_by : Bool → Name → List ℕ → List Wait → ContextState → ContextState
freed_by idle name settled waits s = record s {
  settled = settled;
  waits = waits;
  names = record s.names { strands = place_freed true (not idle) name s.names.strands };
  strands = if true && not (not idle) then with_strand name new_strand s.strands else s.strands;
}

-- nothing changes but what is settled and what waits for time
shows_quiet : {H S : Type 0} (marks : H → Marks) (limits : Limits) (counts : Counts) (names : Names)
    (cells : List (Cell H S)) (jobs : JobList (ReadyOp H)) (s : ContextState) (settled : List ℕ) (waits : List Wait) →
    settled ≡ [] → Shows marks limits counts names cells jobs s →
    Shows marks limits counts names cells jobs (record s { settled = settled; waits = waits })
shows_quiet marks limits counts names cells jobs s settled waits none shows =
    shows_counted marks limits counts names cells jobs s (λ c. c) s.holds s.stopped settled waits refl none shows

lane_closing : (places : List Place) (name : Name) (k : ℕ) →
    lane_of_place places k ≡ lane_of_place (with_life life.Closing name places) k
lane_closing places name k =
    ap (λ g. lane.Strand (record { place = k; generation = g })) (sym (generation-with_life life.Closing name places k))

abbrev strands_closing : Name → Names → Names
strands_closing name names = record names { strands = with_life life.Closing name names.strands }

-- its name is gone, and it keeps its place for now
shows_closing : {H S : Type 0} (marks : H → Marks) (limits : Limits) (counts : Counts) (names : Names)
    (cells : List (Cell H S)) (jobs : JobList (ReadyOp H)) (s : ContextState) (name : Name) →
    is_living (place_at s.names.strands name.place).life ≡ true → Shows marks limits counts names cells jobs s →
    Shows marks limits counts (record names { strands = with_life life.Closing name names.strands }) cells jobs
    (record s { names = record s.names { strands = with_life life.Closing name s.names.strands } })
shows_closing marks limits counts names cells jobs s name living shows =
    let places = s.names.strands in
    let new = with_life life.Closing name places in
    let same_used : map is_used_place new ≡ map is_used_place places =
    map-set_same is_used_place places name.place _ no_place
    (sym (living_used (place_at places name.place).life living)) in
    record {
      limits_are = shows.limits_are;
      counts_are = shows.counts_are;
      names_are = ap (strands_closing name) shows.names_are;
      below = shows.below;
      spares = spares_less places new s.ops same_used shows.spares;
      strands = shows.strands;
      there = shows.there ∙ sym same_used;
      rooms = shows.rooms;
      each = λ k.
          subst (λ l. ShowsCell marks s.ops s.next l (cell_at cells k)) (lane_closing places name k) (shows.each k);
      listed = shows.listed;
      own = shows.own;
      own_all = shows.own_all;
      own_room = shows.own_room;
      settled = shows.settled;
      going = shows.going;
    }

-- both ways
freed_either : {H S : Type 0} (marks : H → Marks) (limits : Limits) (counts : Counts) (names : Names)
    (cells : List (Cell H S)) (jobs : JobList (ReadyOp H)) (s : ContextState) (name : Name) (idle : Bool)
    (settled : List ℕ) (waits : List Wait) → settled ≡ [] → AliveStrand cells s name →
    (idle ≡ true → (cell_at cells name.place).queue ≡ []) → Shows marks limits counts names cells jobs s →
    Shows marks limits counts (record names { strands = place_freed true (not idle) name names.strands })
    (forgotten_cells idle (lane.Strand name) cells) jobs (freed_by idle name settled waits s)
freed_either marks limits counts names cells jobs s name true settled waits none it empty shows =
    shows_without marks limits counts names cells jobs (record s { settled = settled; waits = waits }) name it.within
    (empty refl) (shows_quiet marks limits counts names cells jobs s settled waits none shows)
freed_either marks limits counts names cells jobs s name false settled waits none it empty shows =
    shows_closing marks limits counts names cells jobs (record s { settled = settled; waits = waits }) name it.living
    (shows_quiet marks limits counts names cells jobs s settled waits none shows)

-- the rules' tests are those of the code
abbrev is_idle_at : {H S : Type 0} → List (Cell H S) → Name → Bool
is_idle_at cells name = (cell_at cells name.place).tied == 0

not_tied : {H S : Type 0} (cells : List (Cell H S)) (s : ContextState) (name : Name) → AliveStrand cells s name →
    is_tied s name ≡ not (is_idle_at cells name)
not_tied cells s name it = ap (λ (st : StrandState). not (st.tied == 0)) (sym it.is)

alive_again : {H S : Type 0} (cells : List (Cell H S)) (s : ContextState) (name : Name) → AliveStrand cells s name →
    is_alive s.names.strands name ≡ true
alive_again cells s name it =
    ap (λ b. b && is_living (place_at s.names.strands name.place).life) it.current ∙ it.living

abbrev pub freed_with : Bool → Bool → Name → List ℕ → List Wait → ContextState → ContextState
freed_with there kept name settled waits s = record s {
  settled = settled;
  waits = waits;
  names = record s.names { strands = place_freed there kept name s.names.strands };
  strands = if there && not kept then with_strand name new_strand s.strands else s.strands;
}

pub shows_freed : {H S : Type 0} (marks : H → Marks) (limits : Limits) (past : List Event) (counts : Counts)
    (names : Names) (cells : List (Cell H S)) (jobs : JobList (ReadyOp H)) (name : Name) → IsLegal limits past →
    is_alive (state_of limits past).names.strands name ≡ true →
    Shows marks limits counts names cells jobs (state_of limits past) →
    Shows marks limits counts (record names { strands = names_freed name names.strands cells })
    (forgotten_cells ((cell_at cells name.place).tied == 0) (lane.Strand name) cells) jobs
    (after (event.Changed None (control.Free kind.Strand name)) (state_of limits past))
shows_freed marks limits past counts names cells jobs name legal may shows =
    let s = state_of limits past in
    let idle = is_idle_at cells name in
    let waits = (cancelled [] s).waits in
    let it = alive_strand marks limits counts names cells jobs s name may shows in
    subst
    (λ b. Shows marks limits counts (record names { strands = names_freed name names.strands cells })
    (forgotten_cells idle (lane.Strand name) cells) jobs (freed_with b (is_tied s name) name (s.settled ++ []) waits s))
    (sym (alive_again cells s name it))
    (subst
    (λ b. Shows marks limits counts (record names { strands = names_freed name names.strands cells })
    (forgotten_cells idle (lane.Strand name) cells) jobs (freed_with true b name (s.settled ++ []) waits s))
    (sym (not_tied cells s name it))
    (freed_either marks limits counts names cells jobs s name idle (s.settled ++ []) waits (ap (λ xs. xs ++ []) shows.settled) it
    (λ none. (without_work limits past cells name legal shows.going it (equal (cell_at cells name.place).tied 0 none)).queue)
    shows))

there_by : {S : Type 0} (state : Option S) (runs : Bool) → (is_some state || runs) ≡ true → runs ≡ false → is_some state ≡ true
there_by (Some state) runs is none = refl
there_by None true is none = sym none
there_by None false is none = is

state_either : {H S : Type 0} (idle : Bool) (cells : List (Cell H S)) (name : Name) →
    is_there (cell_at cells name.place) ≡ true → (idle ≡ true → IsFreeOfWork (cell_at cells name.place)) →
    is_some (forgotten_state idle (lane.Strand name) cells) ≡ idle
state_either true cells name used free =
    there_by (cell_at cells name.place).state (is_some (cell_at cells name.place).runs) used (free refl).runs
state_either false cells name used free = refl

-- the state comes out where the strand is forgotten
pub state_freed : {H S : Type 0} (marks : H → Marks) (limits : Limits) (past : List Event) (counts : Counts)
    (names : Names) (cells : List (Cell H S)) (jobs : JobList (ReadyOp H)) (name : Name) → IsLegal limits past →
    is_alive (state_of limits past).names.strands name ≡ true →
    Shows marks limits counts names cells jobs (state_of limits past) →
    is_some (forgotten_state ((cell_at cells name.place).tied == 0) (lane.Strand name) cells)
    ≡ is_forgotten (state_of limits past) kind.Strand name
state_freed marks limits past counts names cells jobs name legal may shows =
    let s = state_of limits past in
    let it = alive_strand marks limits counts names cells jobs s name may shows in
    state_either (is_idle_at cells name) cells name it.used
    (λ none. without_work limits past cells name legal shows.going it (equal (cell_at cells name.place).tied 0 none))
    ∙ sym
    (ap (λ b. b && not (is_tied s name)) (alive_again cells s name it)
    ∙ ap (λ b. true && not b) (not_tied cells s name it) ∙ not_not (is_idle_at cells name))
  where
    not_not : (b : Bool) → (true && not (not b)) ≡ b
    not_not true = refl
    not_not false = refl
