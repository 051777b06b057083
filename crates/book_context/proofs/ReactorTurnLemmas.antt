-- What a turn of the reactor makes of what a book keeps.
use Rattle.std.proofs.Common.{◌≡◌, ◌≢◌, ℕ, ◌+◌, ◌≤◌, Bool, true, false, ◌∷◌, ◌++◌, Option, Some, None, inl, inr, length, refl, sym, ap, subst, ◌∙◌, arith, []}
use Rattle.std.specs.Prelude.{IsTrue, ◌||◌, replicate, slice_index_or, sum_by}
use Rattle.std.proofs.lemmas.Bool.{cases_Bool}
use Rattle.std.proofs.lemmas.List.{append_assoc}
use Rattle.std.proofs.lemmas.List.Elements.{All-cons, All-nil}
use Rattle.std.proofs.lemmas.List.Folds.{list_any-append}
use Rattle.asio_types.specs.Faults.{Rose}
use Rattle.asio_types.specs.declared.event.Event.TheVariants as event
use Rattle.asio_types.specs.declared.outside.Point.{Point}
use Rattle.asio_types.specs.declared.outside.Point.TheVariants as point
use Rattle.history_rules.specs.FromOutside.{has_fault, is_fault}
use Rattle.history_rules.specs.Legal.{state_of}
use Rattle.history_rules.specs.State.{ReactorHalf, StreamQueues, no_queues}
use Rattle.history_rules.specs.Time.{pending_count}
use Rattle.reactor_trait.specs.Reactor.{Outside, ReactorState}
use Rattle.proactor_core.specs.Proactor.{Follows, IsSound, ProactorView, after_point, moved_state, tells}
use Rattle.proactor_core.specs.Room.{IsUntaken}
use Rattle.reactor_turns.specs.Turned.{ReactorKeepsTime, IsTurned}
use Rattle.book_context.specs.Book.{KeepsReactor}
use Rattle.book_context.specs.BookSteps.{BeginsTurn, HasFaulted}
use Rattle.book_context.specs.InTurn.{HasBegun, HasBroken, HasBrokenOff, HasOnlyTold, HasWholeTurn, IsInTurn}
use Rattle.book_context.specs.Oldest.{with_request}
use Rattle.book_context.specs.Recorded.{IsRecorded, recorded_half}
use Rattle.book_context.specs.Recording.{Recording}
use Rattle.book_context.specs.Steps.{IsRoundOpen}
use Rattle.book_context.specs.TurnSteps as steps
use Rattle.reactor_turns.proofs.TurnedLemmas.{now-moved, rose_since}
use Rattle.reactor_turns.proofs.AheadLemmas.{none_first}
use Rattle.reactor_turns.proofs.FollowsLemmas.{follows_taken, sound_works}

or_true : (a : Bool) → (a || true) ≡ true
or_true true = refl
or_true false = refl

-- something is pending only once there were events
pub pending_some : (told : Bool) (r : Recording) → 1 ≤ pending_count (recorded_half told r) → r.events ≢ []
pending_some told r some none =
    let empty : pending_count (recorded_half told r)
    ≡ sum_by (λ (queues : StreamQueues). length queues.reads + length queues.writes) (replicate r.script.world.streams no_queues)
    + 0 =
    ap (λ es. pending_count (state_of r.script told es).reactor) none ∙ omega arith in
    let zero_sum = none_first (replicate r.script.world.streams no_queues) r.script.world.streams refl in
    omega (arith, some, empty, zero_sum)

module _ {X : Type 0} (state : X → ReactorState) (told : X → Option Outside) (faults : X → ℕ) (telling : Bool)
    (named : ℕ) (r : Recording) (view : ProactorView X) (keeps : KeepsReactor state told faults telling named r view)
  where
    pub going_works : r.stopped ≡ false → view.tables.failed ≡ false
    going_works going = elim (cases_Bool view.tables.failed) [
      | inl failed ↦ absurd (let stopped : r.stopped ≡ true = keeps.stopped failed in cc (going, stopped))
      | inr works ↦ works
    ]

    pub now_turned : r.stopped ≡ false → IsTurned state told (recorded_half telling r) view
    now_turned going = keeps.turned (going_works going)

    pub can_turn : r.stopped ≡ false → IsRoundOpen r → steps.CanTurnNow telling r
    can_turn going round =
        let turned = now_turned going in
        record {
          round = round;
          going = going;
          working = turned.telling.works;
          nothing_due = turned.none_due;
          drained = turned.drained;
        }

    -- a request that a history takes may be taken
    pub may_take : (a : ℕ) → r.stopped ≡ false → IsRecorded telling (with_request a r) →
        steps.HasTaken telling (with_request a r) a r.requests → IsUntaken a view.tables
    may_take a going recorded did =
        let turned = now_turned going in
        let taken = follows_taken told view (recorded_half telling r) turned.telling.follows in
        let marks = (recorded.accounted turned.telling.works).marks in
        record {
          within = let same = ap length taken in let less = did.within in omega (arith, same, less, marks);
          untaken = ap (λ xs. slice_index_or xs a false) (sym taken) ∙ did.untaken;
        }

    module _ (going : r.stopped ≡ false) (t : Recording) (half : ReactorHalf) (begun : HasBegun telling r t half)
        (next : ProactorView X) (same_script : next.script ≡ view.script)
        (same_tells : tells (told next.reactor) ≡ tells (told view.reactor)) (up : IsTrue (state next.reactor).up)
        (now : (state next.reactor).now ≡ half.now) where
      begun_step : ReactorKeepsTime telling (recorded_half telling t) (state next.reactor) (told next.reactor)
      begun_step = record {
        tells = same_tells ∙ keeps.in_step.tells;
        up = up;
        now = now ∙ sym (ap (λ (h : ReactorHalf). h.now) begun.is_half);
      }

      pub begun_turn : IsSound state told next → Follows told next half → IsInTurn state told telling t next
      begun_turn sound follows = record {
        script = same_script ∙ keeps.script ∙ sym begun.script;
        in_step = begun_step;
        telling = record {
          working = sound_works state told next sound;
          works = begun.works;
          sound = sound;
          follows = subst (Follows told next) (sym begun.is_half) follows;
        };
        turn = begun.turn;
      }

      -- the reactor has failed in this turn
      pub broken_keeps : (u : Recording) → HasBroken telling t u → next.tables.failed ≡ true →
          faults view.reactor ≤ faults next.reactor → Rose (faults view.reactor) (faults next.reactor) →
          KeepsReactor state told faults telling named u next
      broken_keeps u broken failed later rose = record {
        script = same_script ∙ keeps.script ∙ sym begun.script ∙ sym broken.script;
        in_step = record { tells = begun_step.tells; up = up; now = begun_step.now ∙ sym broken.now };
        turned = λ works. absurd (cc (failed, works));
        failed = broken.failed ∙ sym failed;
        faulted =
            ap has_fault broken.is ∙ list_any-append is_fault t.events (event.Fault ∷ []) ∙ or_true (has_fault t.events)
            ∙ sym failed;
        stopped = λ _. broken.stopped;
        least = let least = keeps.least in omega (arith, least, later);
        stood = λ works. absurd (cc (failed, works));
        rose = λ _. rose_since named (faults view.reactor) (faults next.reactor) keeps.least later rose;
      }

      pub broken_faulted : (u : Recording) → HasBroken telling t u → HasFaulted r u
      broken_faulted u broken = record {
        begun = begun.event ∷ [];
        short = omega arith;
        turn = All-cons BeginsTurn begun.event [] begun.begins (All-nil BeginsTurn);
        is =
            broken.is ∙ ap (λ es. es ++ event.Fault ∷ []) begun.is
            ∙ append_assoc r.events (begun.event ∷ []) (event.Fault ∷ []);
      }

    -- a turn was told whole
    module _ (going : r.stopped ≡ false) (t : Recording) (half : ReactorHalf) (begun : HasBegun telling r t half)
        (u : Recording) (did : HasOnlyTold telling t u) (last : ProactorView X)
        (turn : IsInTurn state told telling u last) (turned : IsTurned state told (recorded_half telling u) last)
        (same : faults last.reactor ≡ faults view.reactor) where
      pub whole_keeps : KeepsReactor state told faults telling named u last
      whole_keeps = record {
        script = turn.script;
        in_step = turn.in_step;
        turned = λ _. turned;
        failed = turned.telling.works ∙ sym turned.telling.working;
        faulted = did.faults ∙ begun.faults ∙ keeps.faulted ∙ going_works going ∙ sym turned.telling.working;
        stopped = λ failed. absurd (let works = turned.telling.working in cc (failed, works));
        least = let least = keeps.least in omega (arith, least, same);
        stood = λ _. same ∙ keeps.stood (going_works going);
        rose = λ failed. absurd (let works = turned.telling.working in cc (failed, works));
      }

      pub whole_turned : HasWholeTurn r u
      whole_turned = record {
        events = begun.event ∷ did.events;
        is = did.is ∙ ap (λ es. es ++ did.events) begun.is ∙ append_assoc r.events (begun.event ∷ []) did.events;
        turn =
            record {
              first = begun.event;
              told = did.events;
              is = refl;
              begins = begun.begins;
              completes = did.completes;
            };
      }

    -- the reactor has failed in a tick
    pub lost_keeps : (u : Recording) (moved : Option Point) → HasBrokenOff telling r u moved → (next : ProactorView X) →
        next.script ≡ view.script → tells (told next.reactor) ≡ tells (told view.reactor) →
        IsTrue (state next.reactor).up → state next.reactor ≡ moved_state moved (state view.reactor) →
        next.tables.failed ≡ true → faults view.reactor ≤ faults next.reactor →
        Rose (faults view.reactor) (faults next.reactor) → KeepsReactor state told faults telling named u next
    lost_keeps u moved broken next same_script same_tells up same failed later rose = record {
      script = same_script ∙ keeps.script ∙ sym broken.script;
      in_step = record {
        tells = same_tells ∙ keeps.in_step.tells;
        up = up;
        now =
            now-moved r.script telling moved (state view.reactor) (state next.reactor) (recorded_half telling r) same
            keeps.in_step.now
            ∙ sym broken.now;
      };
      turned = λ works. absurd (cc (failed, works));
      failed = broken.failed ∙ sym failed;
      faulted = broken.faulted ∙ sym failed;
      stopped = λ _. broken.stopped;
      least = let least = keeps.least in omega (arith, least, later);
      stood = λ works. absurd (cc (failed, works));
      rose = λ _. rose_since named (faults view.reactor) (faults next.reactor) keeps.least later rose;
    }

-- a failure that comes behind a history, and one that comes behind the begin of a turn
pub broken_off_none : (telling : Bool) (r u : Recording) → HasBroken telling r u → HasBrokenOff telling r u None
broken_off_none telling r u broken = record {
  broke = record { begun = []; short = omega arith; turn = All-nil BeginsTurn; is = broken.is };
  script = broken.script;
  stopped = broken.stopped;
  failed = broken.failed;
  faulted =
      ap has_fault broken.is ∙ list_any-append is_fault r.events (event.Fault ∷ []) ∙ or_true (has_fault r.events);
  now = broken.now;
  spent = broken.spent;
}

pub broken_off_some : (telling : Bool) (r t u : Recording) (point : Point) →
    HasBegun telling r t (after_point r.script telling point (recorded_half telling r)) → HasBroken telling t u →
    HasBrokenOff telling r u (Some point)
broken_off_some telling r t u point begun broken = record {
  broke = record {
    begun = begun.event ∷ [];
    short = omega arith;
    turn = All-cons BeginsTurn begun.event [] begun.begins (All-nil BeginsTurn);
    is =
        broken.is ∙ ap (λ es. es ++ event.Fault ∷ []) begun.is
        ∙ append_assoc r.events (begun.event ∷ []) (event.Fault ∷ []);
  };
  script = broken.script ∙ begun.script;
  stopped = broken.stopped;
  failed = broken.failed;
  faulted =
      ap has_fault broken.is ∙ list_any-append is_fault t.events (event.Fault ∷ []) ∙ or_true (has_fault t.events);
  now = broken.now ∙ ap (λ (h : ReactorHalf). h.now) begun.is_half;
  spent = λ n. broken.spent n ∙ begun.spent n;
}
