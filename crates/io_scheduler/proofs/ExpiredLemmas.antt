-- The wait that is due first completes: what is kept shows the state behind that.
use Rattle.std.proofs.Common.{arith, ap, subst, sym, ◌∙◌, ⊎_elim}
use Rattle.std.proofs.lemmas.Bool.{cases_lt, true≢false}
use Rattle.std.proofs.lemmas.List.{get_or_past, length-map}
use Rattle.std.specs.Global.{Vec}
use Rattle.std.specs.Prelude.{◌≡◌, ◌<◌, ◌≤◌, ℕ, ◌+◌, true, List, [], Option, Some, None, length, map}
use Rattle.asio_types.specs.declared.code.Code.{Code}
use Rattle.asio_types.specs.declared.code.Code.TheVariants as code
use Rattle.io_rules.specs.declared.event.Event.{Event}
use Rattle.io_rules.specs.declared.event.Event.TheVariants as event
use Rattle.io_rules.specs.declared.limits.Limits.{Limits}
use Rattle.io_rules.specs.declared.name.Lane.{Lane}
use Rattle.io_rules.specs.declared.name.Lane.TheVariants as lane
use Rattle.io_rules.specs.declared.op.Op.{Op}
use Rattle.io_rules.specs.declared.op.Wait.{Wait}
use Rattle.io_rules.specs.declared.place.Place.{Place}
use Rattle.io_rules.specs.declared.request.Marks.{Marks}
use Rattle.io_rules.specs.Legal.{IsLegal, MayHappen, after, state_of}
use Rattle.io_rules.specs.Names.{Names, is_on, no_place, place_at}
use Rattle.io_rules.specs.Ops.{op_at}
use Rattle.io_rules.specs.Room.{one_if, places_in}
use Rattle.io_rules.specs.State.{ContextState, StrandState}
use Rattle.io_rules.specs.Timers.{due_by}
use Rattle.io_rules.proofs.FitLemmas.{FitsStrand, tied_to}
use Rattle.io_rules.proofs.RoomLemmas.{places_add_up}
use Rattle.io_rules.proofs.StageLemmas.{Idle, stage_of, staged}
use Rattle.io_rules.proofs.StrandStateLemmas.{known_lane, strands_fit}
use Rattle.io_rules.proofs.StrandLemmas.{IsKnown, by_test, name-itself, strand_is}
use Rattle.io_rules.proofs.TotalLemmas.{lane-found, share, sum_by-total, total}
use Rattle.io_rules.specs.declared.name.Name.{Name}
use Rattle.io_strands.specs.declared.ready.ReadyOp.{ReadyOp}
use Rattle.io_strands.specs.Cell.{Cell, is_there}
use Rattle.io_jobs.specs.Listed.{JobList}
use Rattle.io_timers.specs.declared.pending.PendingWait.{PendingWait}
use Rattle.io_timers.specs.Pending.{Timers, next_wait, numbered_in, without_wait}
use Rattle.io_scheduler.specs.declared.counts.Counts.{Counts}
use Rattle.io_scheduler.specs.declared.tally.Tally.{Tally}
use Rattle.io_scheduler.specs.declared.waiting.Waiting.{Waiting}
use Rattle.io_scheduler.specs.Completed.{MayBeReadyOn, completed_state, readied_cells, readied_jobs}
use Rattle.io_scheduler.specs.Expired.{left_settled, left_waits}
use Rattle.io_scheduler.specs.Tallied.{IsTally, tally_called}
use Rattle.io_scheduler.specs.Shown.{Shows, cell_at, is_used_place}
use Rattle.io_scheduler.specs.Waits.{IsThere, IsWaitingAs, ShowsWaits}
use Rattle.io_scheduler.proofs.CompletedLemmas.{IsUnready, completed_own, completed_strand, ready_with}
use Rattle.io_scheduler.proofs.CompletedSpaceLemmas.{own_room, strand_room}
use Rattle.io_scheduler.proofs.ListedLemmas.{cell_is}
use Rattle.io_scheduler.proofs.SpaceLemmas.{there_is}
use Rattle.io_scheduler.proofs.TallyLemmas.{tally_completes, tally_incomplete}
use Rattle.io_scheduler.proofs.WaitsLemmas.{after_wait, due_shown, may_expire, pending_at, unready, waits_left}

-- a place that is used is one of them
used_within : {H S : Type 0} (cells : List (Cell H S)) (places : List Place) (p : ℕ) →
    map is_there cells ≡ map is_used_place places → is_used_place (place_at places p) ≡ true → p < length cells
used_within cells places p are used =
    let one = length-map cells is_there in let other = length-map places is_used_place in
    let equal = ap length are in
    let lt : p < length places = ⊎_elim (λ (lt : p < length places). lt)
    (λ (le : length places ≤ p).
    absurd (true≢false (sym used ∙ ap is_used_place (get_or_past places p no_place le))))
    (cases_lt p (length places)) in
    omega (arith, lt, one, other, equal)

module _ {H S : Type 0} (marks : H → Marks) (limits : Limits) (counts : Counts) (names : Names) (cells : List (Cell H S))
    (jobs : JobList (ReadyOp H)) (s : ContextState) (shows : Shows marks limits counts names cells jobs s) where
  -- room for one that completes, on its lane
  pub room_on : (n : ℕ) (handler : H) →
      s.room + total (λ (op : Op). places_in op.phase) s.ops ≡ limits.operations → ((name : Name) → FitsStrand s name) →
      (on : Lane) → IsThere s.names.strands on → (it : IsUnready marks s.ops on n handler) →
      stage_of it.op.phase ≡ Idle → MayBeReadyOn on cells jobs
  room_on n handler places fits lane.Own there it idle =
      own_room marks limits counts names cells jobs s n handler places shows it idle
  room_on n handler places fits (lane.Strand name) there it idle =
      strand_room marks limits counts names cells jobs s n handler places shows name (fits name) there.0
      (used_within cells s.names.strands name.place shows.there there.1) there.1 it idle

  -- what is kept behind it
  pub shows_on : (n : ℕ) (code : Code) (size : ℕ) (buffer : Option (Vec ℕ)) (made : Option Name) (handler : H) (settled : List ℕ) (waits : List Wait) → settled ≡ [] →
      (on : Lane) → IsThere s.names.strands on → IsUnready marks s.ops on n handler →
      Shows marks limits counts names (readied_cells on (ready_with n code size buffer made handler) cells)
      (readied_jobs on (ready_with n code size buffer made handler) cells jobs) (completed_state n code size on settled waits s)
  shows_on n code size buffer made handler settled waits none lane.Own there it =
      completed_own marks n code size buffer made handler limits counts names cells jobs s settled waits none shows it
  shows_on n code size buffer made handler settled waits none (lane.Strand name) there it =
      completed_strand marks n code size buffer made handler limits counts names cells jobs s settled waits none shows name there.0
      (used_within cells s.names.strands name.place shows.there there.1) it

  -- the strand of what is tied to one is there
  pub there_tied : ((name : Name) → FitsStrand s name) → (n : ℕ) (it : Op) → op_at s.ops n ≡ Some it → (on : Lane) →
      it.lane ≡ on → IsThere s.names.strands on
  there_tied fits n it is lane.Own at = tt
  there_tied fits n it is (lane.Strand name) at =
      let known : IsKnown s.names.strands s.strands (lane.Strand name) =
      subst (IsKnown s.names.strands s.strands) (lane-found s.ops n it is ∙ at) (known_lane s n it is fits) in
      let p = name.place in
      let one : one_if (is_on name it.lane) ≡ 1 = ap (λ l. one_if (is_on name l)) at ∙ ap one_if (name-itself name) in
      let own = share (staged (tied_to name)) n s.ops it is in
      let all = (fits name).tied_fits in
      let tied = ap (λ (st : StrandState). st.tied)
      (strand_is s.names.strands s.strands name known.0 ∙ sym (cell_is cells s.strands p shows.strands)) in (
        known.0,
        sym (there_is cells s.names.strands p shows.there)
            ∙ by_test (is_there (cell_at cells p)) (λ is_here. is_here)
            (λ isnt. let none = (shows.each p).idle isnt in absurd (omega (arith, one, own, all, tied, none))),
      )

-- a wait that is pending completes
module _ {H S : Type 0} (marks : H → Marks) (limits : Limits) (past : List Event) (counts : Counts) (names : Names)
    (cells : List (Cell H S)) (jobs : JobList (ReadyOp H)) (timers : Timers (Waiting H)) (tally : Tally)
    (wait : PendingWait (Waiting H)) (legal : IsLegal limits past)
    (shows : Shows marks limits counts names cells jobs (state_of limits past))
    (waits : ShowsWaits marks limits timers (state_of limits past)) (tallied : IsTally tally (state_of limits past))
    (is : numbered_in wait.op timers.waits ≡ Some wait) where
  it : IsWaitingAs marks (state_of limits past).ops wait
  it = pending_at marks (state_of limits past).ops wait.op wait timers.waits is waits.each

  there : IsThere (state_of limits past).names.strands wait.item.lane
  there =
      there_tied marks limits counts names cells jobs (state_of limits past) shows (strands_fit limits past legal shows.going)
      wait.op it.op it.is wait.item.lane it.lane

  pub wait_room : MayBeReadyOn wait.item.lane cells jobs
  wait_room =
      let s = state_of limits past in
      let sum = sum_by-total (λ (op : Op). places_in op.phase) s.ops in
      let places = places_add_up limits past legal in
      room_on marks limits counts names cells jobs s shows wait.op wait.item.handler (omega (arith, sum, places))
      (strands_fit limits past legal shows.going) wait.item.lane there (unready marks s wait it) (ap stage_of it.phase)

  pub wait_shown : (code : Code) →
      Shows marks limits counts names (readied_cells wait.item.lane (ready_with wait.op code 0 None None wait.item.handler) cells)
      (readied_jobs wait.item.lane (ready_with wait.op code 0 None None wait.item.handler) cells jobs)
      (after (event.Done wait.op code 0) (state_of limits past))
  wait_shown code =
      let s = state_of limits past in
      let ready = ready_with wait.op code 0 None None wait.item.handler in
      subst
      (Shows marks limits counts names (readied_cells wait.item.lane ready cells)
      (readied_jobs wait.item.lane ready cells jobs)) (sym (after_wait marks s wait code it))
      (shows_on marks limits counts names cells jobs s shows wait.op code 0 None None wait.item.handler
      (left_settled wait.op s.settled) (left_waits wait.op s.waits) (ap (left_settled wait.op) shows.settled)
      wait.item.lane there (unready marks s wait it))

  pub wait_gone : (code : Code) →
      ShowsWaits marks limits (without_wait wait.op timers) (after (event.Done wait.op code 0) (state_of limits past))
  wait_gone code =
      let s = state_of limits past in
      subst (ShowsWaits marks limits (without_wait wait.op timers)) (sym (after_wait marks s wait code it))
      (waits_left marks limits timers s wait code waits is)

  pub wait_tallied : (code : Code) →
      IsTally (tally_called tally) (after (event.Done wait.op code 0) (state_of limits past))
  wait_tallied code =
      let s = state_of limits past in
      subst (IsTally (tally_called tally)) (sym (after_wait marks s wait code it))
      (tally_completes tally s wait.op code wait.item.lane it.op tallied it.is (ap stage_of it.phase))

  pub wait_number : tally.waiting < counts.next
  wait_number =
      let less = tally_incomplete tally (state_of limits past) wait.op it.op tallied it.is (ap stage_of it.phase) in
      let next = ap (λ (c : Counts). c.next) shows.counts_are in
      omega (arith, less, next)

  pub wait_may : due_by timers.timers counts.clock (next_wait timers) ≡ Some wait.op →
      MayHappen (state_of limits past) (event.Done wait.op code.Ok 0)
  wait_may is_due =
      let s = state_of limits past in
      may_expire marks s wait shows.going it
      (sym (due_shown marks limits timers s waits)
      ∙ ap (λ t. due_by timers.timers t (next_wait timers)) (sym (ap (λ (c : Counts). c.clock) shows.counts_are))
      ∙ is_due)
