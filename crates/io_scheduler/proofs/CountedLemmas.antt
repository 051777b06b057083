-- What changes nothing but guards and whether a context is stopped.
use Rattle.std.proofs.Common.{ap, refl, ◌∙◌}
use Rattle.std.specs.Prelude.{◌≡◌, ℕ, ◌++◌, Bool, List, [], None}
use Rattle.io_rules.specs.declared.control.Control.TheVariants as control
use Rattle.io_rules.specs.declared.event.Event.TheVariants as event
use Rattle.io_rules.specs.declared.limits.Limits.{Limits}
use Rattle.io_rules.specs.declared.op.Wait.{Wait}
use Rattle.io_rules.specs.declared.request.Marks.{Marks}
use Rattle.io_rules.specs.Legal.{after}
use Rattle.io_rules.specs.Names.{Names}
use Rattle.io_rules.specs.State.{ContextState}
use Rattle.io_strands.specs.declared.ready.ReadyOp.{ReadyOp}
use Rattle.io_strands.specs.Cell.{Cell}
use Rattle.io_jobs.specs.Listed.{JobList}
use Rattle.io_scheduler.specs.declared.counts.Counts.{Counts}
use Rattle.io_scheduler.specs.Counted.{counts_going, counts_of, counts_stopped}
use Rattle.io_scheduler.specs.Holding.{counts_held, counts_released}
use Rattle.io_scheduler.specs.Shown.{Shows}

-- the state behind it; what waits for time is nothing that is shown
abbrev pub counted_state : ℕ → Bool → List ℕ → List Wait → ContextState → ContextState
counted_state holds stopped settled waits s =
    record s { holds = holds; stopped = stopped; settled = settled; waits = waits }

pub shows_counted : {H S : Type 0} (marks : H → Marks) (limits : Limits) (counts : Counts) (names : Names)
    (cells : List (Cell H S)) (jobs : JobList (ReadyOp H)) (s : ContextState) (change : Counts → Counts) (holds : ℕ)
    (stopped : Bool) (settled : List ℕ) (waits : List Wait) →
    change (counts_of s) ≡ counts_of (counted_state holds stopped settled waits s) → settled ≡ [] →
    Shows marks limits counts names cells jobs s →
    Shows marks limits (change counts) names cells jobs (counted_state holds stopped settled waits s)
shows_counted marks limits counts names cells jobs s change holds stopped settled waits are none shows = record {
  limits_are = shows.limits_are;
  counts_are = ap change shows.counts_are ∙ are;
  names_are = shows.names_are;
  below = shows.below;
  spares = shows.spares;
  strands = shows.strands;
  there = shows.there;
  rooms = shows.rooms;
  each = shows.each;
  listed = shows.listed;
  own = shows.own;
  own_all = shows.own_all;
  own_room = shows.own_room;
  settled = none;
  going = shows.going;
}

pub shows_stopped : {H S : Type 0} (marks : H → Marks) (limits : Limits) (counts : Counts) (names : Names)
    (cells : List (Cell H S)) (jobs : JobList (ReadyOp H)) (s : ContextState) →
    Shows marks limits counts names cells jobs s →
    Shows marks limits (counts_stopped counts) names cells jobs (after (event.Changed None control.Stop) s)
shows_stopped marks limits counts names cells jobs s shows =
    shows_counted marks limits counts names cells jobs s counts_stopped _ _ _ _ refl
    (ap (λ xs. xs ++ []) shows.settled) shows

pub shows_held : {H S : Type 0} (marks : H → Marks) (limits : Limits) (counts : Counts) (names : Names)
    (cells : List (Cell H S)) (jobs : JobList (ReadyOp H)) (s : ContextState) →
    Shows marks limits counts names cells jobs s →
    Shows marks limits (counts_held counts) names cells jobs (after (event.Changed None control.Hold) s)
shows_held marks limits counts names cells jobs s shows =
    shows_counted marks limits counts names cells jobs s counts_held _ _ _ _ refl
    (ap (λ xs. xs ++ []) shows.settled) shows

pub shows_released : {H S : Type 0} (marks : H → Marks) (limits : Limits) (counts : Counts) (names : Names)
    (cells : List (Cell H S)) (jobs : JobList (ReadyOp H)) (s : ContextState) →
    Shows marks limits counts names cells jobs s →
    Shows marks limits (counts_released counts) names cells jobs (after (event.Changed None control.Release) s)
shows_released marks limits counts names cells jobs s shows =
    shows_counted marks limits counts names cells jobs s counts_released _ _ _ _ refl
    (ap (λ xs. xs ++ []) shows.settled) shows

pub shows_returned : {H S : Type 0} (marks : H → Marks) (limits : Limits) (counts : Counts) (names : Names)
    (cells : List (Cell H S)) (jobs : JobList (ReadyOp H)) (s : ContextState) →
    Shows marks limits counts names cells jobs s →
    Shows marks limits (counts_stopped counts) names cells jobs (after event.Returned s)
shows_returned marks limits counts names cells jobs s shows =
    shows_counted marks limits counts names cells jobs s counts_stopped _ _ _ _ refl shows.settled shows

pub shows_restarted : {H S : Type 0} (marks : H → Marks) (limits : Limits) (counts : Counts) (names : Names)
    (cells : List (Cell H S)) (jobs : JobList (ReadyOp H)) (s : ContextState) →
    Shows marks limits counts names cells jobs s →
    Shows marks limits (counts_going counts) names cells jobs (after event.Restarted s)
shows_restarted marks limits counts names cells jobs s shows =
    shows_counted marks limits counts names cells jobs s counts_going _ _ _ _ refl shows.settled shows
