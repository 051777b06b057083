-- A handler makes a strand under a name that is kept for it, or frees one.
use Rattle.std.proofs.Common.{arith, ap, refl, ◌∙◌}
use Rattle.std.proofs.lemmas.List.{get_or-set_same, length-map}
use Rattle.std.specs.Prelude.{◌≡◌, ℕ, ◌++◌, ◌&&◌, not, true, false, List, [], ◌∷◌, Option, Some, length, map}
use Rattle.io_rules.specs.declared.control.Control.TheVariants as control
use Rattle.io_rules.specs.declared.event.Event.{Event}
use Rattle.io_rules.specs.declared.event.Event.TheVariants as event
use Rattle.io_rules.specs.declared.limits.Limits.{Limits}
use Rattle.io_rules.specs.declared.name.Kind.TheVariants as kind
use Rattle.io_rules.specs.declared.name.Name.{Name}
use Rattle.io_rules.specs.declared.place.Life.TheVariants as life
use Rattle.io_rules.specs.declared.place.Place.{Place}
use Rattle.io_rules.specs.declared.request.Marks.{Marks}
use Rattle.io_rules.specs.Cancelling.{cancelled}
use Rattle.io_rules.specs.Changes.{is_forgotten, is_tied, spare_used}
use Rattle.io_rules.specs.Legal.{IsLegal, MayHappen, after, state_of}
use Rattle.io_rules.specs.Names.{Names, is_alive, is_living, no_place, with_life}
use Rattle.io_rules.specs.Ops.{is_at, is_running, phase_changed}
use Rattle.io_rules.specs.State.{ContextState}
use Rattle.io_rules.proofs.StageLemmas.{total-other}
use Rattle.io_history.proofs.AtLemmas.{at-changed_of}
use Rattle.io_strands.specs.declared.ready.ReadyOp.{ReadyOp}
use Rattle.io_strands.specs.Cell.{Cell, is_there}
use Rattle.io_jobs.specs.Listed.{JobList}
use Rattle.io_scheduler.specs.declared.counts.Counts.{Counts}
use Rattle.io_scheduler.specs.Aborting.{with_changed}
use Rattle.io_scheduler.specs.Shown.{Shows, is_used_place}
use Rattle.io_scheduler.specs.Stranded.{MayOpen, opened_cells}
use Rattle.io_scheduler.proofs.FreedLemmas.{freed_with}
use Rattle.io_scheduler.proofs.IdleLemmas.{idles}
use Rattle.io_scheduler.proofs.KeptStrandLemmas.{IsKeptStrand, kept_strand, none_spared}
use Rattle.io_scheduler.proofs.MadeLemmas.{shows_opened}
use Rattle.io_scheduler.proofs.SpaceLemmas.{there_is}
use Rattle.io_scheduler.proofs.StayedLemmas.{StaysPending, none_among, not_running}
use Rattle.io_scheduler.proofs.TimerMadeLemmas.{shows_used, used_same}

-- no strand is at the place of a name that is kept
pub may_open_kept : {H S : Type 0} (cells : List (Cell H S)) (places : List Place) (name : Name) →
    map is_there cells ≡ map is_used_place places → IsKeptStrand places name → MayOpen name.place cells
may_open_kept cells places name are it =
    let one = length-map cells is_there in let other = length-map places is_used_place in
    let same_length = ap length are in
    let within = it.within in
    record {
      within = omega (arith, within, one, other, same_length);
      vacant = there_is cells places name.place are ∙ it.unused;
    }

pub shows_made_by : {H S : Type 0} (marks : H → Marks) (limits : Limits) (past : List Event) (counts : Counts)
    (names : Names) (cells : List (Cell H S)) (jobs : JobList (ReadyOp H)) (by : ℕ) (name : Name) (state : S) →
    IsLegal limits past → MayHappen (state_of limits past) (event.Changed (Some by) (control.Make kind.Strand name)) →
    Shows marks limits counts names cells jobs (state_of limits past) →
    Shows marks limits counts (record names { strands = with_life life.Alive name names.strands })
    (opened_cells name.place state cells) jobs
    (after (event.Changed (Some by) (control.Make kind.Strand name)) (state_of limits past))
shows_made_by marks limits past counts names cells jobs by name state legal may shows =
    let s = state_of limits past in
    let it = kept_strand limits past legal by name may.allowed in
    let made = event.Changed (Some by) (control.Make kind.Strand name) in
    let used : ContextState = record s { ops = phase_changed by (λ o. spare_used kind.Strand o.phase) s.ops } in
    shows_opened marks limits counts names cells jobs used name state (s.settled ++ []) (cancelled [] s).waits
    (ap (λ xs. xs ++ []) shows.settled) (may_open_kept cells s.names.strands name shows.there it)
    (none_spared limits (made ∷ past) (may, legal) name.place
    (ap (λ at. is_living at.life) (get_or-set_same s.names.strands name.place _ no_place it.within)))
    (shows_used marks limits counts names cells jobs s (Some by) kind.Strand shows)

pub stays_strand : (s : ContextState) (by : Option ℕ) (name : Name) →
    StaysPending s (after (event.Changed by (control.Make kind.Strand name)) s)
stays_strand s by name = record {
  timers = refl;
  places = refl;
  waits = none_among s.waits;
  streams = refl;
  ops = λ n it is at.
      at-changed_of by n (λ o. spare_used kind.Strand o.phase) s.ops it
      (used_same kind.Strand it.phase (not_running it.phase at)) is;
  idle = total-other idles (event.Changed by (control.Make kind.Strand name)) s refl;
}

pub may_free_by : (s : ContextState) (by : ℕ) (name : Name) → s.finishing ≡ false → is_at is_running s.ops by ≡ true →
    MayHappen s (event.Changed (Some by) (control.Free kind.Strand name))
may_free_by s by name going runs = record { going = going; caller = runs; allowed = tt }

-- a strand whose name is gone isn't freed again
pub after_freed : (s : ContextState) (by : Option ℕ) (name : Name) → is_alive s.names.strands name ≡ false →
    after (event.Changed by (control.Free kind.Strand name)) s ≡ with_changed s.names s.timers (cancelled [] s)
after_freed s by name gone =
    ap (λ b. freed_with b (is_tied s name) name (s.settled ++ []) (cancelled [] s).waits s) gone

pub none_forgotten : (s : ContextState) (name : Name) → is_alive s.names.strands name ≡ false →
    is_forgotten s kind.Strand name ≡ false
none_forgotten s name gone = ap (λ b. b && not (is_tied s name)) gone
