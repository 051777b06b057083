-- What is taken begins: it was ready, and what is kept shows the state behind it.
use Rattle.std.proofs.Common.{arith, ap, refl, subst, sym, ◌∙◌, ⊎_elim}
use Rattle.std.proofs.lemmas.Bool.{cases_lt, lt-ltb, true≢false}
use Rattle.std.proofs.lemmas.List.{get_or_past}
use Rattle.std.specs.Prelude.{◌≡◌, ◌<◌, ◌≤◌, ℕ, ◌&&◌, ◌||◌, Bool, true, false, List, [], ◌∷◌, Option, None, Some, length, map, nat_lt, not, slice_get, IsSome}
use Rattle.std.specs.List.{slice_set}
use Rattle.std.specs.Option.{is_some}
use Rattle.io_rules.specs.declared.event.Event.TheVariants as event
use Rattle.io_rules.specs.declared.limits.Limits.{Limits}
use Rattle.io_rules.specs.declared.name.Lane.{Lane}
use Rattle.io_rules.specs.declared.name.Lane.TheVariants as lane
use Rattle.io_rules.specs.declared.op.Phase.TheVariants as phase
use Rattle.io_rules.specs.declared.place.Place.{Place}
use Rattle.io_rules.specs.declared.request.Marks.{Marks}
use Rattle.io_rules.specs.declared.spares.Spares.{Spares}
use Rattle.io_rules.specs.Executions.{MayBegin}
use Rattle.io_rules.specs.Legal.{after}
use Rattle.io_rules.specs.Names.{Names}
use Rattle.io_rules.specs.Ops.{is_ready, op_at, passes}
use Rattle.io_rules.specs.Room.{grant_of, numbers_left, one_if}
use Rattle.io_rules.specs.Spares.{MayKeepAll, kept_for, no_spares}
use Rattle.io_rules.specs.State.{ContextState, strand_at}
use Rattle.io_rules.specs.Strands.{IsNext, IsNextOf}
use Rattle.io_rules.proofs.TotalLemmas.{found, Found, lane-found, share, sum_by-total}
use Rattle.io_history.specs.declared.view.Held.{Held}
use Rattle.io_history.specs.Steps.{holding}
use Rattle.io_strands.specs.declared.ready.ReadyOp.{ReadyOp}
use Rattle.io_strands.specs.Cell.{Cell, begun, is_there, may_begin, vacant}
use Rattle.io_strands.specs.Numbered.{number_of}
use Rattle.io_names.specs.Tables.{name_at}
use Rattle.io_jobs.specs.declared.job.Job.TheVariants as job
use Rattle.io_jobs.specs.Listed.{JobList, taken}
use Rattle.io_scheduler.specs.declared.counts.Counts.{Counts}
use Rattle.io_scheduler.specs.Begun.{NoneMayBegin, WasReady, counts_begun, is_strand}
use Rattle.io_scheduler.specs.Ready.{AreReady, IsReadyAs, own_ops}
use Rattle.io_scheduler.specs.Running.{IsExecution}
use Rattle.io_scheduler.specs.Taken.{IsTaken}
use Rattle.io_scheduler.specs.Shown.{Shows, cell_at, lane_of_place, waits_own, waits_own_on}
use Rattle.io_scheduler.proofs.ListedLemmas.{cell_is}
use Rattle.io_scheduler.proofs.BegunLemmas.{begun_own, begun_state, begun_strand, first_ready, own_first}
use Rattle.io_scheduler.proofs.ReadyLemmas.{at_changed}

-- a strand on which a handler may begin is one of them
may_within : {H S : Type 0} (cells : List (Cell H S)) (p : ℕ) → may_begin (cell_at cells p) ≡ true → p < length cells
may_within cells p may =
    ⊎_elim (λ (lt : p < length cells). lt)
    (λ (le : length cells ≤ p). absurd (true≢false (sym may ∙ ap may_begin (get_or_past cells p (vacant 0) le))))
    (cases_lt p (length cells))

here_by_state : {H S : Type 0} (c : Cell H S) (state : Option S) → c.state ≡ state → is_some state ≡ true →
    is_there c ≡ true
here_by_state c state is some =
    ap (λ st. is_some st || is_some c.runs) is ∙ ap (λ b. b || is_some c.runs) some

-- what is taken was ready there
pub taken_ready : {H S : Type 0} (marks : H → Marks) (limits : Limits) (counts : Counts) (names : Names)
    (cells new_cells : List (Cell H S)) (jobs new_jobs : JobList (ReadyOp H)) (s : ContextState) (on : Lane)
    (op : ReadyOp H) (state : Option S) → IsTaken on op state names.strands cells new_cells jobs new_jobs →
    Shows marks limits counts names cells jobs s → IsReadyAs marks s.ops on op
taken_ready marks limits counts names cells new_cells jobs new_jobs s lane.Own op state is shows =
    (subst (AreReady marks s.ops lane.Own) (own_first jobs.ring op is.first) shows.own).0
taken_ready marks limits counts names cells new_cells jobs new_jobs s (lane.Strand name) op state is shows =
    let name_here : name_at s.names.strands name.place ≡ name =
    ap (λ ns. name_at ns.strands name.place) (sym shows.names_are) ∙ sym is.name_is in
    subst (λ l. IsReadyAs marks s.ops l op) (ap lane.Strand name_here)
    (first_ready marks s.ops (lane_of_place s.names.strands name.place) (cell_at cells name.place).queue op is.first
    (shows.each name.place).ready)

first_number : {H : Type 0} (queue : List (ReadyOp H)) (op : ReadyOp H) → slice_get queue 0 ≡ Some op →
    slice_get (map number_of queue) 0 ≡ Some op.number
first_number [] op first = absurd (cc)
first_number (x ∷ queue) op first = let it : x ≡ op = cc in ap (λ y. Some (number_of y)) it

none_runs : (b : Bool) (runs : Option ℕ) → (b && not (is_some runs)) ≡ true → runs ≡ None
none_runs b None may = refl
none_runs true (Some n) may = absurd (true≢false (sym may))
none_runs false (Some n) may = absurd (true≢false (sym may))

taken_next : {H S : Type 0} (marks : H → Marks) (limits : Limits) (counts : Counts) (names : Names)
    (cells new_cells : List (Cell H S)) (jobs new_jobs : JobList (ReadyOp H)) (s : ContextState) (on : Lane)
    (op : ReadyOp H) (state : Option S) → IsTaken on op state names.strands cells new_cells jobs new_jobs →
    Shows marks limits counts names cells jobs s → IsNext s.strands on op.number
taken_next marks limits counts names cells new_cells jobs new_jobs s lane.Own op state is shows = tt
taken_next marks limits counts names cells new_cells jobs new_jobs s (lane.Strand name) op state is shows =
    let cell = cell_at cells name.place in
    let same_strand = cell_is cells s.strands name.place shows.strands in
    subst (λ st. IsNextOf st op.number) same_strand
    (record {
      alone = none_runs (nat_lt 0 (length cell.queue)) cell.runs is.may;
      first = first_number cell.queue op is.first;
    })

pub may_begin_taken : {H S : Type 0} (marks : H → Marks) (limits : Limits) (counts : Counts) (names : Names)
    (cells new_cells : List (Cell H S)) (jobs new_jobs : JobList (ReadyOp H)) (s : ContextState) (on : Lane)
    (op : ReadyOp H) (state : Option S) (spares : Spares) → s.stopped ≡ false → 0 < numbers_left s →
    IsTaken on op state names.strands cells new_cells jobs new_jobs → MayKeepAll s.names no_spares spares →
    Shows marks limits counts names cells jobs s → MayBegin s op.number spares
may_begin_taken marks limits counts names cells new_cells jobs new_jobs s on op state spares going numbers is may shows =
    let r = taken_ready marks limits counts names cells new_cells jobs new_jobs s on op state is shows in
    record {
      going = shows.going;
      allowed = going;
      numbers = numbers;
      ready = ap (passes is_ready) r.is ∙ ap is_ready r.phase;
      next = subst (λ l. IsNext s.strands l op.number) (sym (lane-found s.ops op.number r.op r.is ∙ r.lane))
          (taken_next marks limits counts names cells new_cells jobs new_jobs s on op state is shows);
      names = may;
    }

shows_on : {H S : Type 0} (marks : H → Marks) (limits : Limits) (counts : Counts) (names : Names)
    (cells new_cells : List (Cell H S)) (jobs new_jobs : JobList (ReadyOp H)) (s : ContextState) (on : Lane)
    (op : ReadyOp H) (state : Option S) (spares : Spares) →
    IsTaken on op state names.strands cells new_cells jobs new_jobs → MayKeepAll s.names no_spares spares →
    Shows marks limits counts names cells jobs s →
    Shows marks limits (counts_begun (grant_of s) counts) (kept_for op.number spares names) new_cells new_jobs
    (begun_state on op.number spares s)
shows_on marks limits counts names cells new_cells jobs new_jobs s lane.Own op state spares is may shows =
    let new : Counts = counts_begun (grant_of s) counts in
    let kept : Names = kept_for op.number spares names in
    subst (λ cs. Shows marks limits new kept cs new_jobs (begun_state lane.Own op.number spares s)) (sym is.same_cells)
    (subst (λ js. Shows marks limits new kept cells js (begun_state lane.Own op.number spares s)) (sym is.taken_from)
    (begun_own marks limits counts names cells jobs s op spares is.first may shows))
shows_on marks limits counts names cells new_cells jobs new_jobs s (lane.Strand name) op state spares is may shows =
    let new : Counts = counts_begun (grant_of s) counts in
    let kept : Names = kept_for op.number spares names in
    let name_here : name_at s.names.strands name.place ≡ name =
    ap (λ ns. name_at ns.strands name.place) (sym shows.names_are) ∙ sym is.name_is in
    subst (λ cs. Shows marks limits new kept cs new_jobs (begun_state (lane.Strand name) op.number spares s)) (sym is.begun_on)
    (subst
    (λ js. Shows marks limits new kept (slice_set cells name.place (begun op (cell_at cells name.place))) js
    (begun_state (lane.Strand name) op.number spares s))
    (sym is.taken_from)
    (subst
    (λ l. Shows marks limits new kept (slice_set cells name.place (begun op (cell_at cells name.place)))
    (taken (job.Strand name.place) jobs) (begun_state l op.number spares s))
    (ap lane.Strand name_here)
    (begun_strand marks limits counts names cells jobs s name.place op spares (may_within cells name.place is.may)
    is.listed (here_by_state (cell_at cells name.place) state is.state_is is.with_state) is.first may shows)))

pub shows_begun : {H S : Type 0} (marks : H → Marks) (limits : Limits) (counts : Counts) (names : Names)
    (cells new_cells : List (Cell H S)) (jobs new_jobs : JobList (ReadyOp H)) (s : ContextState) (on : Lane)
    (op : ReadyOp H) (state : Option S) (spares : Spares) →
    IsTaken on op state names.strands cells new_cells jobs new_jobs → MayKeepAll s.names no_spares spares →
    Shows marks limits counts names cells jobs s →
    Shows marks limits (counts_begun (grant_of s) counts) (kept_for op.number spares names) new_cells new_jobs
    (after (event.Begun op.number spares) s)
shows_begun marks limits counts names cells new_cells jobs new_jobs s on op state spares is may shows =
    let r = taken_ready marks limits counts names cells new_cells jobs new_jobs s on op state is shows in
    subst
    (λ l. Shows marks limits (counts_begun (grant_of s) counts) (kept_for op.number spares names) new_cells
    new_jobs (begun_state l op.number spares s))
    (sym (lane-found s.ops op.number r.op r.is ∙ r.lane))
    (shows_on marks limits counts names cells new_cells jobs new_jobs s on op state spares is may shows)

pub held_begun : {H : Type 0} (marks : H → Marks) (s : ContextState) (on : Lane) (op : ReadyOp H) (spares : Spares)
    (held : Option Held) → IsReadyAs marks s.ops on op →
    held ≡ holding op.number (op_at (after (event.Begun op.number spares) s).ops op.number) →
    IsExecution op.number on true (grant_of s) spares held
held_begun marks s on op spares held r is =
    subst (IsExecution op.number on true (grant_of s) spares)
    (sym (is ∙ ap (holding op.number) (at_changed op.number (λ o. phase.Running true (grant_of s) spares) s.ops r.op r.is)))
    (record { number = refl; on = r.lane; runs = refl })

pub held_some : {H : Type 0} (marks : H → Marks) (s : ContextState) (on : Lane) (op : ReadyOp H) (spares : Spares)
    (held : Option Held) → IsReadyAs marks s.ops on op →
    held ≡ holding op.number (op_at (after (event.Begun op.number spares) s).ops op.number) → IsSome held
held_some marks s on op spares held r is =
    subst IsSome
    (sym (is ∙ ap (holding op.number) (at_changed op.number (λ o. phase.Running true (grant_of s) spares) s.ops r.op r.is)))
    refl

taken_state : {H S : Type 0} (on : Lane) (op : ReadyOp H) (state : Option S) (places : List Place)
    (cells new_cells : List (Cell H S)) (jobs new_jobs : JobList (ReadyOp H)) →
    IsTaken on op state places cells new_cells jobs new_jobs → is_some state ≡ is_strand on
taken_state lane.Own op state places cells new_cells jobs new_jobs is = ap is_some is.no_state
taken_state (lane.Strand name) op state places cells new_cells jobs new_jobs is = is.with_state

-- what comes out is what was ready
pub was_ready : {H S : Type 0} (marks : H → Marks) (limits : Limits) (counts : Counts) (names : Names)
    (cells new_cells : List (Cell H S)) (jobs new_jobs : JobList (ReadyOp H)) (s : ContextState) (on : Lane)
    (op : ReadyOp H) (state : Option S) → IsTaken on op state names.strands cells new_cells jobs new_jobs →
    Shows marks limits counts names cells jobs s →
    WasReady marks s op.number op.handler (record {
      code = op.code;
      size = op.size;
      buffer = op.buffer;
      made = op.made;
      now = counts.clock;
    }) state
was_ready marks limits counts names cells new_cells jobs new_jobs s on op state is shows =
    let r = taken_ready marks limits counts names cells new_cells jobs new_jobs s on op state is shows in
    record {
      op = r.op;
      is = r.is;
      given = r.given;
      completed = r.phase;
      clock = ap (λ n. n.clock) shows.counts_are;
      with_state = taken_state on op state names.strands cells new_cells jobs new_jobs is ∙ sym (ap is_strand r.lane);
    }

some_there : {H : Type 0} (queue : List (ReadyOp H)) (n : ℕ) → slice_get (map number_of queue) 0 ≡ Some n →
    nat_lt 0 (length queue) ≡ true
some_there [] n first = absurd (cc)
some_there (x ∷ queue) n first = lt-ltb 0 (length (x ∷ queue)) (omega arith)

-- where nothing is listed, nothing may begin
pub none_begins : {H S : Type 0} (marks : H → Marks) (limits : Limits) (counts : Counts) (names : Names)
    (cells : List (Cell H S)) (jobs : JobList (ReadyOp H)) (s : ContextState) → jobs.ring ≡ [] →
    ((place : ℕ) → may_begin (cell_at cells place) ≡ false) → Shows marks limits counts names cells jobs s →
    NoneMayBegin s
none_begins marks limits counts names cells jobs s empty idle shows n spares may =
    by_lane (found is_ready s.ops n may.ready) (found is_ready s.ops n may.ready).op.lane refl
  where
    by_lane : (it : Found is_ready s.ops n) (on : Lane) → it.op.lane ≡ on → ⊥
    by_lane it lane.Own at =
        let one : waits_own it.op ≡ 1 = ap (λ l. waits_own_on l (is_ready it.op.phase)) at
        ∙ ap one_if it.passed in
        let own = share waits_own n s.ops it.op it.is in
        let sum = sum_by-total waits_own s.ops in
        let all = shows.own_all in
        let none = ap (λ ring. length (own_ops ring)) empty in
        absurd (omega (arith, one, own, sum, all, none))
    by_lane it (lane.Strand m) at =
        let next : IsNextOf (strand_at s.strands m) n =
        subst (λ l. IsNext s.strands l n) (lane-found s.ops n it.op it.is ∙ at) may.next in
        let here = subst (λ st. IsNextOf st n) (sym (cell_is cells s.strands m.place shows.strands)) next in
        let cell = cell_at cells m.place in
        absurd
        (true≢false
        (sym
        (ap (λ b. b && not (is_some cell.runs)) (some_there cell.queue n here.first)
        ∙ ap (λ runs. true && not (is_some runs)) here.alone)
        ∙ idle m.place))
