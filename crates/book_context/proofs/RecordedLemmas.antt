-- What a recording knows after one more event.
use Rattle.std.proofs.Common.{◌≡◌, ℕ, ◌+◌, ◌-◌, ◌<◌, ◌≤◌, Bool, false, List, [], ◌∷◌, ◌++◌, length, ap, sym, subst, ◌∙◌, arith}
use Rattle.std.specs.Prelude.{slice_get}
use Rattle.std.proofs.lemmas.Grind.{common_steps}
use Rattle.asio_types.specs.Faults.{most_faults}
use Rattle.asio_types.specs.declared.code.Code.{Code}
use Rattle.asio_types.specs.declared.event.Event.{Event}
use Rattle.session_script.specs.Limits.{limits_of}
use Rattle.session_script.specs.Script.{ScriptModel}
use Rattle.session_script.specs.WellFormed.{IsWellFormed}
use Rattle.session_script.proofs.PlacesLemmas.{acts_allowed}
use Rattle.history_rules.specs.Legal.{MayHappen, after_event}
use Rattle.history_rules.specs.Rounds.{RoundIsOpen, restarts}
use Rattle.history_rules.specs.State.{State, call_at, phase_at}
use Rattle.history_rules.specs.Bounds.{AllAhead}
use Rattle.history_rules.specs.declared.phase.Progress.{Progress}
use Rattle.execution_laws.specs.Accounted.{IsAccounted}
use Rattle.execution_laws.specs.Kinds.{AreOfKind, is_spent, was_called}
use Rattle.execution_laws.specs.Lanes.{IsFreeUnlessStopped}
use Rattle.execution_laws.specs.Order.{IsKept}
use Rattle.execution_laws.specs.Standing.{IsStanding}
use Rattle.book_context.specs.Left.{events_left, most_history}
use Rattle.book_context.specs.Recorded.{IsRecorded, Knows, recorded_state}
use Rattle.book_context.specs.Recording.{Recording}
use Rattle.book_context.specs.Steps.{EventIsRecorded, IsRoundOpen}
use Rattle.book_context.proofs.PartLemmas.{history_goes_on, state_goes_on}

lines_allowed : (version : ℕ) → (limits_of version).lines ≤ 1024
unfolding limits_of
lines_allowed version = grind (arith, common_steps)

rounds_allowed : (version : ℕ) → (limits_of version).rounds ≤ 64
unfolding limits_of
rounds_allowed version = grind (arith, common_steps)

-- no session comes near the end of its counts
pub few_events : (script : ScriptModel) → IsWellFormed script → most_history script < most_faults
few_events script well =
    let acts = acts_allowed script.version in
    let lines = lines_allowed script.version in
    let rounds = rounds_allowed script.version in
    omega (arith, acts, lines, rounds, well.acts.count, well.line_count, well.round_count)

pub few_rounds : (script : ScriptModel) → IsWellFormed script → length script.rounds < most_faults
few_rounds script well = let rounds = rounds_allowed script.version in omega (arith, rounds, well.round_count)

-- a round is open where a recording says so
pub round_open : (told : Bool) (r : Recording) → IsRecorded told r → IsRoundOpen r →
    RoundIsOpen r.script (recorded_state told r).context
round_open told r knows round = record {
  begun =
      record {
        opened = ap (λ (progress : Progress). progress.back) knows.opened;
        left = let same = knows.closings in let less = round.left in omega (arith, same, less);
      };
  restarted = λ wanted. knows.restarted
      ∙ round.restarted (ap (λ closings. restarts (slice_get r.script.rounds closings)) (sym knows.closings) ∙ wanted);
  alive = knows.alive;
}

-- a recording after one more event
abbrev pub stepped : Event → Recording → List (ℕ × Code × ℕ) → List ℕ → Bool → Bool → ℕ → Recording
stepped event r ready requests stopped restarted closings = record {
  script = r.script;
  events = r.events ++ event ∷ [];
  spare = r.spare - 1;
  ready = ready;
  requests = requests;
  called = r.called;
  stopped = stopped;
  restarted = restarted;
  closings = closings;
}

-- what an event that calls nothing changes
pub record Changes (script : ScriptModel) (s t : State) (ready : List (ℕ × Code × ℕ)) (requests : List ℕ)
    (stops restarts : Bool) (closed : ℕ) : Type 0 where
  pub kept : IsKept script t ready requests
  pub accounted : t.reactor.failed ≡ false → IsAccounted script t
  pub standing : t.reactor.failed ≡ false → IsStanding t
  pub ahead : AllAhead t.reactor
  pub kinds : AreOfKind script t.context
  pub free : IsFreeUnlessStopped script t.context
  pub opening : t.context.opening ≡ s.context.opening
  pub calls : (n : ℕ) → call_at t.context n ≡ call_at s.context n
  pub stopped : t.context.stopped ≡ stops
  pub restarted : t.context.restarted ≡ restarts
  pub closings : t.context.closings ≡ closed
  pub dropping : t.context.dropping ≡ s.context.dropping
  pub left : events_left script t + 1 ≤ events_left script s
  pub events : t.context.events ≤ s.context.events + 1
  pub spent : (n : ℕ) → is_spent (phase_at t.context n) ≡ is_spent (phase_at s.context n)

module _ (told : Bool) (r : Recording) (event : Event) (ready : List (ℕ × Code × ℕ)) (requests : List ℕ)
    (stopped restarted : Bool) (closings : ℕ) (knows : IsRecorded told r) where
  abbrev before : State
  before = recorded_state told r

  abbrev after : State
  after = after_event r.script told (recorded_state told r) event

  abbrev next : Recording
  next = stepped event r ready requests stopped restarted closings

  -- what may happen is recorded
  pub goes_on : MayHappen r.script told before event →
      Changes r.script before after ready requests stopped restarted closings → EventIsRecorded told r event next
  goes_on may changes =
      let less = changes.left in
      let had = knows.room in
      let counted = changes.events in
      let few = knows.within in
      let state : recorded_state told next ≡ after = state_goes_on r.script told r.events (event ∷ []) in
      let known : Knows told next after = record {
        script = knows.script;
        legal = history_goes_on r.script told r.events (event ∷ []) knows.legal (may, tt);
        kept = changes.kept;
        accounted = changes.accounted;
        standing = changes.standing;
        ahead = changes.ahead;
        kinds = changes.kinds;
        free = changes.free;
        opened = changes.opening ∙ knows.opened;
        called = λ n. knows.called n ∙ ap was_called (sym (changes.calls n));
        called_size = knows.called_size;
        stopped = changes.stopped;
        restarted = changes.restarted;
        closings = changes.closings;
        alive = changes.dropping ∙ knows.alive;
        room = omega (arith, less, had);
        within = omega (arith, counted, few, less, had);
      } in
      record {
        may = may;
        room = omega (arith, less, had);
        recorded = subst (Knows told next) (sym state) known;
        state = state;
        spent = λ n. ap (λ (s : State). is_spent (phase_at s.context n)) state ∙ changes.spent n;
      }
