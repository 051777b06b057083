-- A timer is changed, and what waits on it completes.
use Rattle.std.proofs.Common.{ap, refl, subst, sym, ◌∙◌}
use Rattle.std.proofs.lemmas.List.{length-set}
use Rattle.std.specs.Prelude.{◌≡◌, ◌<◌, ℕ, cond, not, Bool, true, false, List, [], ◌∷◌, ◌++◌, None, Option, Some, length, map, take}
use Rattle.std.specs.List.{filter}
use Rattle.asio_types.specs.declared.code.Code.TheVariants as code
use Rattle.io_rules.specs.declared.control.Control.{Control}
use Rattle.io_rules.specs.declared.event.Event.{Event}
use Rattle.io_rules.specs.declared.event.Event.TheVariants as event
use Rattle.io_rules.specs.declared.limits.Limits.{Limits}
use Rattle.io_rules.specs.declared.name.Name.{Name}
use Rattle.io_rules.specs.declared.name.Lane.{Lane}
use Rattle.io_rules.specs.declared.op.Wait.{Wait}
use Rattle.io_rules.specs.declared.spares.Spares.{Spares}
use Rattle.io_history.specs.declared.view.Held.{Held}
use Rattle.io_history.specs.Steps.{held_still}
use Rattle.io_history.proofs.StayLemmas.{cancelled_leaves}
use Rattle.io_rules.specs.declared.place.Place.{Place}
use Rattle.io_rules.specs.declared.request.Marks.{Marks}
use Rattle.io_rules.specs.Cancelling.{cancelled, is_among, waits_of}
use Rattle.io_rules.specs.Changes.{place_freed, reached}
use Rattle.io_rules.specs.Legal.{IsLegal, MayHappen, after, state_of}
use Rattle.io_rules.specs.Names.{Names, is_alive, is_current, is_living, is_unused, place_at, same_name, with_freed}
use Rattle.io_rules.specs.Ops.{is_at, is_running, op_at, passes}
use Rattle.io_rules.specs.State.{ContextState, TimerState, new_timer, with_timer}
use Rattle.io_rules.proofs.StrandLemmas.{both, by_test}
use Rattle.io_strands.specs.declared.ready.ReadyOp.{ReadyOp}
use Rattle.io_strands.specs.Cell.{Cell}
use Rattle.io_jobs.specs.Listed.{JobList}
use Rattle.io_timers.specs.declared.pending.PendingWait.{PendingWait}
use Rattle.io_timers.specs.Pending.{Entry, IsOnly, Timers, is_of, number_of, wait_of, waits_on}
use Rattle.io_scheduler.specs.declared.counts.Counts.{Counts}
use Rattle.io_scheduler.specs.declared.tally.Tally.{Tally}
use Rattle.io_scheduler.specs.declared.timing.TimerChange.{TimerChange}
use Rattle.io_scheduler.specs.declared.timing.TimerChange.TheVariants as change
use Rattle.io_scheduler.specs.declared.waiting.Waiting.{Waiting}
use Rattle.io_scheduler.specs.Aborting.{IsAbortedIf, IsCancelling, numbers_on, those_of, with_changed}
use Rattle.io_scheduler.specs.Come.{HaveCome, IsChanged, LeadTo, changes, completions}
use Rattle.io_scheduler.specs.Outside.{IsOutside}
use Rattle.io_scheduler.specs.Shown.{Shows}
use Rattle.io_scheduler.specs.Streams.{StaysStreaming}
use Rattle.io_scheduler.specs.Tallied.{IsTally}
use Rattle.io_scheduler.specs.Timing.{cancels_all, control_of, names_behind, timers_behind}
use Rattle.io_scheduler.specs.Waits.{ShowsWaits}
use Rattle.io_scheduler.proofs.AcceptedLemmas.{timer_within}
use Rattle.io_scheduler.specs.Running.{HeldOp, IsExecution}
use Rattle.io_scheduler.proofs.CalledLemmas.{StillHeld, still_held}
use Rattle.io_scheduler.proofs.CountedLemmas.{shows_counted}
use Rattle.io_scheduler.proofs.ComeLemmas.{names_behind_all, state_with, timers_behind_all}
use Rattle.io_scheduler.proofs.FreedLemmas.{living_not}
use Rattle.io_scheduler.proofs.StayedLemmas.{none_among, stays_quiet, waits_stay}
use Rattle.io_scheduler.proofs.TallyLemmas.{tally_still}
use Rattle.io_scheduler.proofs.TimerLemmas.{AreCurrent, alive_current, only_alive, waits_current}

-- names of timers, and expiries, are nothing that is shown of strands
pub renamed : {H S : Type 0} (marks : H → Marks) (limits : Limits) (counts : Counts) (names : Names)
    (cells : List (Cell H S)) (jobs : JobList (ReadyOp H)) (s : ContextState) (places : List Place)
    (timers : List TimerState) (settled : List ℕ) (waits : List Wait) → settled ≡ [] →
    Shows marks limits counts names cells jobs s →
    Shows marks limits counts (record names { timers = places }) cells jobs
    (record s { settled = settled; waits = waits; names = record s.names { timers = places }; timers = timers })
renamed marks limits counts names cells jobs s places timers settled waits none shows =
    let with_places : Names → Names = λ ns. record ns { timers = places } in
    record {
      limits_are = shows.limits_are;
      counts_are = shows.counts_are;
      names_are = ap with_places shows.names_are;
      below = shows.below;
      spares = shows.spares;
      strands = shows.strands;
      there = shows.there;
      rooms = shows.rooms;
      each = shows.each;
      listed = shows.listed;
      own = shows.own;
      own_all = shows.own_all;
      own_room = shows.own_room;
      settled = none;
      going = shows.going;
    }

-- what a change of a timer reaches, and what it makes of the state
reached_if : (s : ContextState) (timer : Name) (change : TimerChange) → is_alive s.names.timers timer ≡ true →
    reached s (control_of timer change) ≡ those_of (cancels_all change) (waits_of timer s)
reached_if s timer (change.ExpiresAt at) alive = ap (λ b. cond b (waits_of timer s) []) alive
reached_if s timer change.Cancel alive = ap (λ b. cond b (waits_of timer s) []) alive
reached_if s timer change.CancelOne alive = ap (λ b. cond b (take 1 (waits_of timer s)) []) alive
reached_if s timer change.Free alive = ap (λ b. cond b (waits_of timer s) []) alive

after_changed : (s : ContextState) (by : Option ℕ) (timer : Name) (change : TimerChange) → is_alive s.names.timers timer ≡ true →
    after (event.Changed by (control_of timer change)) s
    ≡ with_changed (names_behind timer change s.names) (timers_behind timer change s.timers)
    (cancelled (reached s (control_of timer change)) s)
after_changed s by timer (change.ExpiresAt at) alive =
    ap (λ b. with_changed s.names (cond b (with_timer timer (record { expiry = at }) s.timers) s.timers)
    (cancelled (cond b (waits_of timer s) []) s)) alive
    ∙ sym (ap (λ b. with_changed s.names (with_timer timer (record { expiry = at }) s.timers)
    (cancelled (cond b (waits_of timer s) []) s)) alive)
after_changed s by timer change.Cancel alive = refl
after_changed s by timer change.CancelOne alive = refl
after_changed s by timer change.Free alive =
    ap (λ b. with_changed (record s.names { timers = place_freed b false timer s.names.timers })
    (cond b (with_timer timer new_timer s.timers) s.timers) (cancelled (cond b (waits_of timer s) []) s)) alive
    ∙ sym (ap (λ b. with_changed (record s.names { timers = with_freed timer s.names.timers })
    (with_timer timer new_timer s.timers) (cancelled (cond b (waits_of timer s) []) s)) alive)

pub may_change : (s : ContextState) (timer : Name) (change : TimerChange) → s.finishing ≡ false →
    is_alive s.names.timers timer ≡ true → MayHappen s (event.Changed None (control_of timer change))
may_change s timer (change.ExpiresAt at) going alive = record { going = going; caller = tt; allowed = alive }
may_change s timer change.Cancel going alive = record { going = going; caller = tt; allowed = alive }
may_change s timer change.CancelOne going alive = record { going = going; caller = tt; allowed = alive }
may_change s timer change.Free going alive = record { going = going; caller = tt; allowed = alive }

pub may_change_by : (s : ContextState) (by : ℕ) (timer : Name) (change : TimerChange) → s.finishing ≡ false →
    is_at is_running s.ops by ≡ true → MayHappen s (event.Changed (Some by) (control_of timer change))
may_change_by s by timer (change.ExpiresAt at) going runs = record { going = going; caller = runs; allowed = tt }
may_change_by s by timer change.Cancel going runs = record { going = going; caller = runs; allowed = tt }
may_change_by s by timer change.CancelOne going runs = record { going = going; caller = runs; allowed = tt }
may_change_by s by timer change.Free going runs = record { going = going; caller = runs; allowed = tt }

pub change_outside : (timer : Name) (change : TimerChange) → IsOutside (event.Changed None (control_of timer change))
change_outside timer change = record { nobody = refl; no_begin = λ begins. begins }

numbers_are : {T : Type 0} (timer : Name) (waits : List (Entry (PendingWait T))) →
    map (λ wait. wait.op) (filter (λ wait. same_name wait.timer timer) (map wait_of waits)) ≡ numbers_on timer waits
numbers_are timer [] = refl
numbers_are timer (wait ∷ waits) =
    let rest : List Wait = filter (λ w. same_name w.timer timer) (map wait_of waits) in
    by_test (is_of timer wait)
    (λ yes.
    ap (λ b. map (λ (w : Wait). w.op) (cond b (wait_of wait ∷ rest) rest)) yes
    ∙ ap (λ ns. wait.item.op ∷ ns) (numbers_are timer waits)
    ∙ sym (ap (λ b. map number_of (cond b (wait ∷ waits_on timer waits) (waits_on timer waits))) yes))
    (λ other.
    ap (λ b. map (λ (w : Wait). w.op) (cond b (wait_of wait ∷ rest) rest)) other
    ∙ numbers_are timer waits
    ∙ sym (ap (λ b. map number_of (cond b (wait ∷ waits_on timer waits) (waits_on timer waits))) other))

waits_are : {H : Type 0} (marks : H → Marks) (limits : Limits) (timers : Timers (Waiting H)) (s : ContextState)
    (timer : Name) → ShowsWaits marks limits timers s → waits_of timer s ≡ numbers_on timer timers.waits
waits_are marks limits timers s timer shows =
    ap (λ ws. map (λ wait. wait.op) (filter (λ wait. same_name wait.timer timer) ws)) (sym shows.waits_are)
    ∙ numbers_are timer timers.waits

-- a change that cancels leaves names of strands
strands_same : (timer : Name) (change : TimerChange) (names : Names) →
    (names_behind timer change names).strands ≡ names.strands
strands_same timer (change.ExpiresAt at) names = refl
strands_same timer change.Cancel names = refl
strands_same timer change.CancelOne names = refl
strands_same timer change.Free names = refl

pub one_or_none : (limits : Limits) (more : Bool) (numbers : List ℕ) (old new : List Event) →
    IsAbortedIf more limits numbers [] old new → HaveCome limits (completions code.Aborted numbers) old new
one_or_none limits true numbers old new one =
    subst (λ ns. HaveCome limits (completions code.Aborted ns) old new) (sym one.first)
    (record { may = (one.may, tt); is = one.is })
one_or_none limits false numbers old new none =
    subst (λ ns. HaveCome limits (completions code.Aborted ns) old new) (sym none.0) (record { may = tt; is = none.1 })

module _ {H S : Type 0} (marks : H → Marks) (limits : Limits) (past : List Event) (counts : Counts) (names : Names)
    (cells : List (Cell H S)) (jobs : JobList (ReadyOp H)) (timers : Timers (Waiting H)) (tally : Tally) (by : Option ℕ) (timer : Name)
    (change : TimerChange) (legal : IsLegal limits past) (alive : is_alive (state_of limits past).names.timers timer ≡ true)
    (shows : Shows marks limits counts names cells jobs (state_of limits past))
    (waits : ShowsWaits marks limits timers (state_of limits past)) (tallied : IsTally tally (state_of limits past)) where
  pub change_within : timer.place < length timers.timers
  change_within = timer_within marks limits timers (state_of limits past) waits timer alive

  pub change_only : IsOnly timer timers.waits
  change_only =
      only_alive (state_of limits past).names.timers timer timers.waits
      (alive_current (state_of limits past).names.timers timer alive)
      (subst (λ ws. AreCurrent (state_of limits past).names.timers ws) (sym waits.waits_are)
      (waits_current limits past legal))

  pub change_used : is_unused (place_at names.timers timer.place).life ≡ false
  change_used =
      subst (λ (ns : Names). is_unused (place_at ns.timers timer.place).life ≡ false) (sym shows.names_are)
      (living_not (place_at (state_of limits past).names.timers timer.place).life
      (both (is_current (state_of limits past).names.timers timer)
      (is_living (place_at (state_of limits past).names.timers timer.place).life) alive).other)

  reached_those : reached (state_of limits past) (control_of timer change)
      ≡ those_of (cancels_all change) (numbers_on timer timers.waits)
  reached_those =
      reached_if (state_of limits past) timer change alive
      ∙ ap (those_of (cancels_all change)) (waits_are marks limits timers (state_of limits past) timer waits)

  -- what it cancels is still waiting in what is kept
  pub change_cancelling : (new : List Event) → HaveCome limits (event.Changed by (control_of timer change) ∷ []) past new →
      IsCancelling marks limits counts names cells jobs timers tally
      (those_of (cancels_all change) (numbers_on timer timers.waits)) (state_of limits new)
  change_cancelling new come =
      let old = state_of limits past in
      let is = after_changed old by timer change alive
      ∙ ap (λ ns. with_changed (names_behind timer change old.names) (timers_behind timer change old.timers)
      (cancelled ns old)) reached_those in
      subst (λ p. IsCancelling marks limits counts names cells jobs timers tally
      (those_of (cancels_all change) (numbers_on timer timers.waits)) (state_of limits p)) (sym come.is)
      (subst (IsCancelling marks limits counts names cells jobs timers tally
      (those_of (cancels_all change) (numbers_on timer timers.waits))) (sym is)
      (record {
        waiting = old;
        is = refl;
        strands = strands_same timer change old.names;
        shows = shows;
        waits = waits;
        tallied = tallied;
      }))

  -- all that has come
  pub change_come : (mid new : List Event) → HaveCome limits (event.Changed by (control_of timer change) ∷ []) past mid →
      HaveCome limits (completions code.Aborted (those_of (cancels_all change) (numbers_on timer timers.waits))) mid new →
      HaveCome limits (changes by (control_of timer change) (state_of limits past)) past new
  change_come mid new one rest =
      let numbers = those_of (cancels_all change) (numbers_on timer timers.waits) in
      let behind = subst (λ p. HaveCome limits (completions code.Aborted numbers) p new) one.is rest in
      subst (λ ns. HaveCome limits (event.Changed by (control_of timer change) ∷ completions code.Aborted ns) past new)
      (sym reached_those) (record { may = (one.may.0, behind.may); is = behind.is })

  -- the names and the expiries behind it
  pub change_names : (new : List Event) → HaveCome limits (changes by (control_of timer change) (state_of limits past)) past new →
      (state_of limits new).names ≡ names_behind timer change (state_of limits past).names
  change_names new come =
      let old = state_of limits past in
      let e = event.Changed by (control_of timer change) in
      let numbers = reached old (control_of timer change) in
      ap (λ p. (state_of limits p).names) come.is
      ∙ ap (λ (t : ContextState). t.names) (state_with limits (changes by (control_of timer change) old) past)
      ∙ names_behind_all code.Aborted numbers (after e old)
      ∙ ap (λ (t : ContextState). t.names) (after_changed old by timer change alive)

  pub change_timers : (new : List Event) → HaveCome limits (changes by (control_of timer change) (state_of limits past)) past new →
      (state_of limits new).timers ≡ timers_behind timer change (state_of limits past).timers
  change_timers new come =
      let old = state_of limits past in
      let e = event.Changed by (control_of timer change) in
      let numbers = reached old (control_of timer change) in
      ap (λ p. (state_of limits p).timers) come.is
      ∙ ap (λ (t : ContextState). t.timers) (state_with limits (changes by (control_of timer change) old) past)
      ∙ timers_behind_all code.Aborted numbers (after e old)
      ∙ ap (λ (t : ContextState). t.timers) (after_changed old by timer change alive)

-- a handler that changes a timer executes still
ops_behind : (s : ContextState) (by : Option ℕ) (timer : Name) (change : TimerChange) →
    (after (event.Changed by (control_of timer change)) s).ops ≡ (cancelled (reached s (control_of timer change)) s).ops
ops_behind s by timer (change.ExpiresAt at) = refl
ops_behind s by timer change.Cancel = refl
ops_behind s by timer change.CancelOne = refl
ops_behind s by timer change.Free = refl

-- it does where operations are cancelled, and nothing else becomes of them
pub held_cancelled : (s : ContextState) (by : ℕ) (from : Lane) (own : Bool) (grant : ℕ) (spares : Spares)
    (held still : Option Held) (made : Control) →
    (after (event.Changed (Some by) made) s).ops ≡ (cancelled (reached s made) s).ops →
    IsExecution by from own grant spares held → HeldOp s by from own grant spares held →
    still ≡ held_still (after (event.Changed (Some by) made) s) held → StillHeld by from own grant spares held still
held_cancelled s by from own grant spares held still made ops executes it is =
    still_held (after (event.Changed (Some by) made) s) by from own own grant grant spares spares held still it.op executes
    (ap (λ os. op_at os by) ops ∙ cancelled_leaves s (reached s made) s.ops by it.op (ap is_running it.runs) it.is)
    it.at it.runs it.returns is

pub held_changed : (s : ContextState) (by : ℕ) (from : Lane) (own : Bool) (grant : ℕ) (spares : Spares)
    (held still : Option Held) (timer : Name) (change : TimerChange) → IsExecution by from own grant spares held →
    HeldOp s by from own grant spares held →
    still ≡ held_still (after (event.Changed (Some by) (control_of timer change)) s) held →
    StillHeld by from own grant spares held still
held_changed s by from own grant spares held still timer change executes it is =
    held_cancelled s by from own grant spares held still (control_of timer change) (ops_behind s (Some by) timer change)
    executes it is

pub runs_held : (s : ContextState) (by : ℕ) (from : Lane) (own : Bool) (grant : ℕ) (spares : Spares)
    (held : Option Held) → HeldOp s by from own grant spares held → is_at is_running s.ops by ≡ true
runs_held s by from own grant spares held it = ap (passes is_running) it.is ∙ ap is_running it.runs

-- on a name that is gone it has no effect
pub after_gone : (s : ContextState) (by : Option ℕ) (timer : Name) (change : TimerChange) →
    is_alive s.names.timers timer ≡ false →
    after (event.Changed by (control_of timer change)) s ≡ with_changed s.names s.timers (cancelled [] s)
after_gone s by timer (change.ExpiresAt at) gone =
    ap (λ b. with_changed s.names (cond b (with_timer timer (record { expiry = at }) s.timers) s.timers)
    (cancelled (cond b (waits_of timer s) []) s)) gone
after_gone s by timer change.Cancel gone =
    ap (λ b. with_changed s.names s.timers (cancelled (cond b (waits_of timer s) []) s)) gone
after_gone s by timer change.CancelOne gone =
    ap (λ b. with_changed s.names s.timers (cancelled (cond b (take 1 (waits_of timer s)) []) s)) gone
after_gone s by timer change.Free gone =
    ap (λ b. with_changed (record s.names { timers = place_freed b false timer s.names.timers })
    (cond b (with_timer timer new_timer s.timers) s.timers) (cancelled (cond b (waits_of timer s) []) s)) gone

reached_gone : (s : ContextState) (timer : Name) (change : TimerChange) → is_alive s.names.timers timer ≡ false →
    reached s (control_of timer change) ≡ []
reached_gone s timer (change.ExpiresAt at) gone = ap (λ b. cond b (waits_of timer s) []) gone
reached_gone s timer change.Cancel gone = ap (λ b. cond b (waits_of timer s) []) gone
reached_gone s timer change.CancelOne gone = ap (λ b. cond b (take 1 (waits_of timer s)) []) gone
reached_gone s timer change.Free gone = ap (λ b. cond b (waits_of timer s) []) gone

module _ {H S : Type 0} (marks : H → Marks) (limits : Limits) (counts : Counts) (names : Names)
    (cells : List (Cell H S)) (jobs : JobList (ReadyOp H)) (timers : Timers (Waiting H)) (tally : Tally)
    (s new : ContextState) (is : new ≡ with_changed s.names s.timers (cancelled [] s)) where
  pub gone_shown : Shows marks limits counts names cells jobs s → Shows marks limits counts names cells jobs new
  gone_shown shows =
      subst (Shows marks limits counts names cells jobs) (sym is)
      (shows_counted marks limits counts names cells jobs s (λ c. c) s.holds s.stopped (s.settled ++ [])
      (filter (λ wait. not (is_among [] wait.op)) s.waits) refl (ap (λ xs. xs ++ []) shows.settled) shows)

  pub gone_waits : ShowsWaits marks limits timers s → ShowsWaits marks limits timers new
  gone_waits shows =
      subst (ShowsWaits marks limits timers) (sym is)
      (waits_stay marks limits timers s _ shows (stays_quiet s _ refl refl refl refl refl))

  pub gone_tallied : IsTally tally s → IsTally tally new
  gone_tallied tallied = subst (IsTally tally) (sym is) (tally_still tally s _ tallied refl refl refl)

pub still_gone : (s new : ContextState) → new ≡ with_changed s.names s.timers (cancelled [] s) → StaysStreaming s new
still_gone s new is =
    subst (StaysStreaming s) (sym is)
    (record { streams = refl; places = refl; ops = λ n it target is pending on. is })

-- the change as a step of a handler
pub lead_to : (limits : Limits) (events : List Event) (old new : List Event) → HaveCome limits events old new →
    LeadTo events (state_of limits old) (state_of limits new)
lead_to limits events old new come = record {
  may = come.may;
  is = ap (state_of limits) come.is ∙ state_with limits events old;
}

pub is_changed : (limits : Limits) (by : Option ℕ) (made : Control) (old new : List Event) →
    HaveCome limits (changes by made (state_of limits old)) old new →
    IsChanged by made (state_of limits old) (state_of limits new)
is_changed limits by made old new come = lead_to limits (changes by made (state_of limits old)) old new come

pub gone_come : (limits : Limits) (by : Option ℕ) (timer : Name) (change : TimerChange) (old new : List Event) →
    is_alive (state_of limits old).names.timers timer ≡ false →
    HaveCome limits (event.Changed by (control_of timer change) ∷ []) old new →
    HaveCome limits (changes by (control_of timer change) (state_of limits old)) old new
gone_come limits by timer change old new gone come =
    subst (λ ns. HaveCome limits (event.Changed by (control_of timer change) ∷ completions code.Aborted ns) old new)
    (sym (reached_gone (state_of limits old) timer change gone)) come

-- once all of them have completed what is kept shows the state behind the change
lengths_behind : (timer : Name) (change : TimerChange) (names : Names) (timers : List TimerState) →
    length timers ≡ length names.timers →
    length (timers_behind timer change timers) ≡ length (names_behind timer change names).timers
lengths_behind timer (change.ExpiresAt at) names timers is = length-set timers timer.place _ ∙ is
lengths_behind timer change.Cancel names timers is = is
lengths_behind timer change.CancelOne names timers is = is
lengths_behind timer change.Free names timers is =
    length-set timers timer.place _ ∙ is ∙ sym (length-set names.timers timer.place _)

names_parts : (timer : Name) (change : TimerChange) (names : Names) →
    names_behind timer change names ≡ record names { timers = (names_behind timer change names).timers }
names_parts timer (change.ExpiresAt at) names = refl
names_parts timer change.Cancel names = refl
names_parts timer change.CancelOne names = refl
names_parts timer change.Free names = refl

module _ {H S : Type 0} (marks : H → Marks) (limits : Limits) (counts : Counts) (names : Names)
    (cells : List (Cell H S)) (jobs : JobList (ReadyOp H)) (timers : Timers (Waiting H)) (tally : Tally) (timer : Name)
    (change : TimerChange) (s : ContextState)
    (over : IsCancelling marks limits counts names cells jobs timers tally [] s)
    (names_are : s.names ≡ names_behind timer change over.waiting.names)
    (timers_are : s.timers ≡ timers_behind timer change over.waiting.timers) where
  state_is : s ≡ with_changed (names_behind timer change over.waiting.names) (timers_behind timer change over.waiting.timers)
      (cancelled [] over.waiting)
  state_is =
      over.is
      ∙ ap (λ ns. with_changed ns s.timers (cancelled [] over.waiting)) names_are
      ∙ ap (λ ts. with_changed (names_behind timer change over.waiting.names) ts (cancelled [] over.waiting)) timers_are

  pub over_shown : Shows marks limits counts (names_behind timer change names) cells jobs s
  over_shown =
      let v = over.waiting in
      subst (Shows marks limits counts (names_behind timer change names) cells jobs) (sym state_is)
      (subst (λ ns. Shows marks limits counts (names_behind timer change ns) cells jobs
      (with_changed (names_behind timer change v.names) (timers_behind timer change v.timers) (cancelled [] v)))
      (sym over.shows.names_are)
      (subst (λ ns. Shows marks limits counts ns cells jobs
      (with_changed ns (timers_behind timer change v.timers) (cancelled [] v))) (sym (names_parts timer change v.names))
      (renamed marks limits counts v.names cells jobs v (names_behind timer change v.names).timers
      (timers_behind timer change v.timers) (v.settled ++ []) (filter (λ wait. not (is_among [] wait.op)) v.waits)
      (ap (λ xs. xs ++ []) over.shows.settled)
      (subst (λ ns. Shows marks limits counts ns cells jobs v) over.shows.names_are over.shows))))

  pub over_waits : ShowsWaits marks limits (record timers { timers = timers_behind timer change timers.timers }) s
  over_waits =
      let v = over.waiting in
      subst (ShowsWaits marks limits (record timers { timers = timers_behind timer change timers.timers })) (sym state_is)
      (record {
        timers_are = ap (timers_behind timer change) over.waits.timers_are;
        places = lengths_behind timer change v.names v.timers over.waits.places;
        waits_are = over.waits.waits_are ∙ sym (none_among v.waits);
        rises = over.waits.rises;
        each = over.waits.each;
        all = over.waits.all;
        room = over.waits.room;
      })

  pub over_tallied : IsTally tally s
  over_tallied =
      subst (IsTally tally) (sym state_is)
      (tally_still tally over.waiting _ over.tallied refl refl refl)
