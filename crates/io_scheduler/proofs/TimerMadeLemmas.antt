-- A timer is made, from outside or by a handler, which uses a name that is kept for it.
use Rattle.std.proofs.Common.{ap, refl, subst, sym, ◌∙◌}
use Rattle.std.proofs.lemmas.Bool.{true≢false}
use Rattle.std.proofs.lemmas.List.{length-set}
use Rattle.std.specs.Prelude.{◌≡◌, ℕ, ◌==◌, ◌&&◌, not, Bool, true, false, List, [], ◌++◌, Option, None, Some}
use Rattle.std.specs.List.{filter}
use Rattle.io_rules.specs.declared.control.Control.TheVariants as control
use Rattle.io_rules.specs.declared.event.Event.TheVariants as event
use Rattle.io_rules.specs.declared.limits.Limits.{Limits}
use Rattle.io_rules.specs.declared.name.Kind.{Kind}
use Rattle.io_rules.specs.declared.name.Kind.TheVariants as kind
use Rattle.io_rules.specs.declared.name.Lane.{Lane}
use Rattle.io_rules.specs.declared.name.Name.{Name}
use Rattle.io_rules.specs.declared.op.Phase.{Phase}
use Rattle.io_rules.specs.declared.op.Phase.TheVariants as phase
use Rattle.io_rules.specs.declared.place.Life.TheVariants as life
use Rattle.io_rules.specs.declared.place.Place.{Place}
use Rattle.io_rules.specs.declared.request.Marks.{Marks}
use Rattle.io_rules.specs.declared.spares.Spares.{Spares}
use Rattle.io_rules.specs.Cancelling.{is_among}
use Rattle.io_rules.specs.Changes.{has_spare, spare_used}
use Rattle.io_rules.specs.Executions.{spares_in}
use Rattle.io_rules.specs.Legal.{MayHappen, after}
use Rattle.io_rules.specs.Names.{Names, with_life}
use Rattle.io_rules.specs.Ops.{is_ready, is_running, passes, phase_changed_of}
use Rattle.io_rules.specs.Spares.{is_spare, spare_of, without_spare}
use Rattle.io_rules.specs.State.{ContextState}
use Rattle.io_rules.proofs.StageLemmas.{total-other}
use Rattle.io_rules.proofs.TotalLemmas.{same}
use Rattle.io_history.specs.declared.view.Held.{Held}
use Rattle.io_history.specs.Steps.{held_still}
use Rattle.io_history.proofs.AtLemmas.{at-changed_of}
use Rattle.io_strands.specs.declared.ready.ReadyOp.{ReadyOp}
use Rattle.io_strands.specs.Cell.{Cell}
use Rattle.io_jobs.specs.Listed.{JobList}
use Rattle.io_timers.specs.Pending.{Timers}
use Rattle.io_scheduler.specs.declared.counts.Counts.{Counts}
use Rattle.io_scheduler.specs.declared.waiting.Waiting.{Waiting}
use Rattle.io_scheduler.specs.Running.{HeldOp, IsExecution}
use Rattle.io_scheduler.specs.Shown.{IsUnusedSpare, Shows}
use Rattle.io_scheduler.specs.Waits.{ShowsWaits}
use Rattle.io_scheduler.proofs.CalledLemmas.{StillHeld, still_held}
use Rattle.io_scheduler.proofs.GivenLemmas.{KeepsReady, shows_rephased}
use Rattle.io_scheduler.proofs.IdleLemmas.{idles}
use Rattle.io_scheduler.proofs.ReadyLemmas.{at_changed}
use Rattle.io_scheduler.proofs.StayedLemmas.{StaysPending, none_among, not_running, waits_stay}
use Rattle.io_scheduler.proofs.TimingLemmas.{renamed}

-- a handler uses a name that is kept for it
pub used_ready : (of : Kind) (p : Phase) → is_ready (spare_used of p) ≡ is_ready p
used_ready of (phase.Pending moved cancelled) = refl
used_ready of (phase.Settled code size) = refl
used_ready of (phase.Ready code size) = refl
used_ready of (phase.Running own grant spares) = refl

pub used_same : (of : Kind) (p : Phase) → is_running p ≡ false → spare_used of p ≡ p
used_same of (phase.Pending moved cancelled) is = refl
used_same of (phase.Settled code size) is = refl
used_same of (phase.Ready code size) is = refl
used_same of (phase.Running own grant spares) is = absurd (true≢false is)

ready_rests : (p : Phase) → is_ready p ≡ true → is_running p ≡ false
ready_rests (phase.Ready code size) is = refl
ready_rests (phase.Pending moved cancelled) is = refl
ready_rests (phase.Settled code size) is = refl
ready_rests (phase.Running own grant spares) is = absurd (true≢false (sym is))

used_strand : (of : Kind) (places : List Place) (p : Phase) → IsUnusedSpare places (spares_in p).strand →
    IsUnusedSpare places (spares_in (spare_used of p)).strand
used_strand of places (phase.Pending moved cancelled) unused = unused
used_strand of places (phase.Settled code size) unused = unused
used_strand of places (phase.Ready code size) unused = unused
used_strand kind.Strand places (phase.Running own grant spares) unused = tt
used_strand kind.Timer places (phase.Running own grant spares) unused = unused
used_strand kind.Slot places (phase.Running own grant spares) unused = unused
used_strand kind.Stream places (phase.Running own grant spares) unused = unused
used_strand kind.Listener places (phase.Running own grant spares) unused = unused

keeps_used : (of : Kind) → KeepsReady (λ o. spare_used of o.phase)
keeps_used of = record {
  ready = λ op. used_ready of op.phase;
  same = λ op is. used_same of op.phase (ready_rests op.phase is);
  strand = λ places op unused. used_strand of places op.phase unused;
}

pub shows_used : {H S : Type 0} (marks : H → Marks) (limits : Limits) (counts : Counts) (names : Names)
    (cells : List (Cell H S)) (jobs : JobList (ReadyOp H)) (s : ContextState) (by : Option ℕ) (of : Kind) →
    Shows marks limits counts names cells jobs s →
    Shows marks limits counts names cells jobs
    (record s { ops = phase_changed_of by (λ o. spare_used of o.phase) s.ops })
shows_used marks limits counts names cells jobs s None of shows = shows
shows_used marks limits counts names cells jobs s (Some by) of shows =
    shows_rephased marks limits counts names cells jobs s by (λ o. spare_used of o.phase) (keeps_used of) shows

-- a timer is made, from outside or by a handler
pub shows_timer : {H S : Type 0} (marks : H → Marks) (limits : Limits) (counts : Counts) (names : Names)
    (cells : List (Cell H S)) (jobs : JobList (ReadyOp H)) (s : ContextState) (by : Option ℕ) (name : Name) →
    Shows marks limits counts names cells jobs s →
    Shows marks limits counts (record names { timers = with_life life.Alive name names.timers }) cells jobs
    (after (event.Changed by (control.Make kind.Timer name)) s)
shows_timer marks limits counts names cells jobs s by name shows =
    let of : List Place → Type 0 = λ places. Shows marks limits counts
    (record names { timers = with_life life.Alive name places }) cells jobs
    (after (event.Changed by (control.Make kind.Timer name)) s) in
    subst of (sym (ap (λ (ns : Names). ns.timers) shows.names_are))
    (renamed marks limits counts names cells jobs
    (record s { ops = phase_changed_of by (λ o. spare_used kind.Timer o.phase) s.ops })
    (with_life life.Alive name s.names.timers) s.timers (s.settled ++ [])
    (filter (λ wait. not (is_among [] wait.op)) s.waits) (ap (λ xs. xs ++ []) shows.settled)
    (shows_used marks limits counts names cells jobs s by kind.Timer shows))

pub stays_timer : (s : ContextState) (by : Option ℕ) (name : Name) →
    StaysPending s (after (event.Changed by (control.Make kind.Timer name)) s)
stays_timer s by name = record {
  timers = refl;
  places = length-set s.names.timers name.place _;
  waits = none_among s.waits;
  streams = refl;
  ops = λ n it is at.
      at-changed_of by n (λ o. spare_used kind.Timer o.phase) s.ops it
      (used_same kind.Timer it.phase (not_running it.phase at)) is;
  idle = total-other idles (event.Changed by (control.Make kind.Timer name)) s refl;
}

pub waits_timer : {H : Type 0} (marks : H → Marks) (limits : Limits) (timers : Timers (Waiting H)) (s : ContextState)
    (by : Option ℕ) (name : Name) → ShowsWaits marks limits timers s →
    ShowsWaits marks limits timers (after (event.Changed by (control.Make kind.Timer name)) s)
waits_timer marks limits timers s by name shows = waits_stay marks limits timers s _ shows (stays_timer s by name)

-- it may make something under such a name, and executes still
pub may_make_by : (s : ContextState) (by : ℕ) (from : Lane) (own : Bool) (grant : ℕ) (spares : Spares)
    (held : Option Held) (of : Kind) (name : Name) → s.finishing ≡ false → HeldOp s by from own grant spares held →
    spare_of of spares ≡ Some name → MayHappen s (event.Changed (Some by) (control.Make of name))
may_make_by s by from own grant spares held of name going it kept = record {
  going = going;
  caller = ap (passes is_running) it.is ∙ ap is_running it.runs;
  allowed = ap (passes (has_spare of name)) it.is ∙ ap (has_spare of name) it.runs ∙ ap (is_spare name) kept
      ∙ (ap (λ b. b && (name.generation == name.generation)) (same name.place) ∙ same name.generation);
}

pub held_made : (s : ContextState) (by : ℕ) (from : Lane) (own : Bool) (grant : ℕ) (spares : Spares)
    (held still : Option Held) (of : Kind) (name : Name) → IsExecution by from own grant spares held →
    HeldOp s by from own grant spares held →
    still ≡ held_still (after (event.Changed (Some by) (control.Make of name)) s) held →
    StillHeld by from own grant (without_spare of spares) held still
held_made s by from own grant spares held still of name executes it is =
    still_held (after (event.Changed (Some by) (control.Make of name)) s) by from own own grant grant spares
    (without_spare of spares) held still (record it.op { phase = spare_used of it.op.phase }) executes
    (at_changed by (λ o. spare_used of o.phase) s.ops it.op it.is) it.at (ap (spare_used of) it.runs) it.returns is
