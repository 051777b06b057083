-- Waits that are pending together complete by their expiries.
use Rattle.std.proofs.Common.{◌≡◌, ◌≢◌, ◌⊎◌, ℕ, ◌<◌, ◌≤◌, nat_le, Bool, true, false, cond, List, [], ◌∷◌, Option, Some, None, filter, get_or, inl, inr, refl, sym, ap, subst, ◌∙◌, arith}
use Rattle.std.specs.List.{All, slice_index_or}
use Rattle.std.proofs.lemmas.Bool.{cases_eq}
use Rattle.std.proofs.lemmas.List.Elements.{All-cons, All-head, All-nil, All-tail, All-weaker}
use Rattle.asio_types.specs.declared.code.Code.TheVariants as code
use Rattle.asio_types.specs.declared.event.Event.{Event}
use Rattle.asio_types.specs.declared.event.Event.TheVariants as event
use Rattle.session_script.specs.declared.act.Act.{Act}
use Rattle.session_script.specs.declared.act.Act.TheVariants as act
use Rattle.session_script.specs.Script.{ScriptModel, act_of}
use Rattle.session_script.specs.WellFormed.{IsWellFormed}
use Rattle.session_script.proofs.PlacingLemmas.{act_fits}
use Rattle.stream_rules.specs.declared.queue.Completion.{Completion}
use Rattle.stream_rules.specs.Queue.{Pending}
use Rattle.stream_rules.specs.Serving.{Reading, Writing}
use Rattle.history_rules.specs.Bounds.{AllAhead}
use Rattle.history_rules.specs.Legal.{MayHappen, after_event}
use Rattle.history_rules.specs.Performing.{connected, performed_act, performed_by, queues_at, wait_accepted, with_taken}
use Rattle.history_rules.specs.Requests.{reactor_after_done}
use Rattle.history_rules.specs.Settling.{AreDueTogether, expiry_of, is_due, settled}
use Rattle.history_rules.specs.State.{ReactorHalf, State, StreamQueues, first_state, no_queues}
use Rattle.history_rules.specs.Time.{at_last, at_time, next_time}
use Rattle.asio_types.specs.declared.outside.Point.TheVariants as point
use Rattle.history_rules.specs.declared.wait.Wait.{Wait}
use Rattle.history_rules.proofs.PerformingLemmas.{performs-by, together-ahead, together-from}
use Rattle.history_rules.proofs.TimeLemmas.{next_point-first}
use Rattle.stream_rules.specs.World.{times_after}
use Rattle.history_laws.specs.Clock.{IsWaitOf}
use Rattle.history_laws.proofs.ClockLemmas.{settled_keeps, told_keeps}
use Rattle.history_laws.proofs.HeldLemmas.{AreQueued, Holds, IsOn, settles}
use Rattle.history_laws.proofs.KeptLemmas.{IsKept, Streamed, Timed, no_wait, one_timer, told_due}
use Rattle.history_laws.proofs.PerformedLemmas.{AreConnected, performs}

-- a completion that is no cancellation is of a wait that expires then, if it is of a wait at all
abbrev pub ExpiresAt : ScriptModel → List ℕ → ℕ → Completion → Type 0
ExpiresAt script expiries expiry done =
    (timer : ℕ) → IsWaitOf script timer done.op → done.outcome.0 ≢ code.Aborted →
    slice_index_or expiries timer 0 ≡ expiry

-- the waits that are due have one expiry
pub record IsLevel (script : ScriptModel) (r : ReactorHalf) : Type 0 where
  pub expiry : ℕ
  pub due : All (ExpiresAt script r.expiries expiry) r.due

-- what those that pass a test are
only_passing : {X : Type 0} (p : X → Bool) (Q : X → Type 0) (xs : List X) → All Q (filter p xs) →
    All (λ x. p x ≡ true → Q x) xs
only_passing p Q [] all = All-nil (λ x. p x ≡ true → Q x)
only_passing p Q (x ∷ xs) all = by_test (p x) refl all (λ all. only_passing p Q xs all)
  where
    by_test : (b : Bool) → p x ≡ b → All Q (cond b (x ∷ filter p xs) (filter p xs)) →
        (All Q (filter p xs) → All (λ x. p x ≡ true → Q x) xs) → All (λ x. p x ≡ true → Q x) (x ∷ xs)
    by_test true is all rest =
        All-cons (λ x. p x ≡ true → Q x) x xs (λ passes. All-head Q x (filter p xs) all)
        (rest (All-tail Q x (filter p xs) all))
    by_test false is all rest =
        All-cons (λ x. p x ≡ true → Q x) x xs (λ passes. absurd (let wrong : true ≡ false = sym passes ∙ is in cc))
        (rest all)

-- the waits are waits of their timers, and the operations of streams are on them
abbrev IsTimed : ScriptModel → ℕ → ℕ → Type 0
IsTimed script timer n = IsWaitOf script timer n × Unit {0}

abbrev IsStreamed : ScriptModel → ℕ → ℕ → Type 0
IsStreamed script stream n = IsOn script stream n × Unit {0}

abbrev AreOwn : ScriptModel → ReactorHalf → Type 0
AreOwn script r = Holds (IsTimed script) (IsStreamed script) r

are_own : (script : ScriptModel) (before : List Event) (r : ReactorHalf) → IsKept script before r → AreOwn script r
are_own script before r kept = record {
  waits =
      All-weaker (λ (wait : Wait). Timed script before wait.timer wait.op) (λ wait. IsTimed script wait.timer wait.op)
      (λ wait of. (of.0, tt)) r.waits kept.held.waits;
  queues = λ stream. (
    All-weaker (λ (pending : Pending Reading). Streamed script before stream pending.op)
        (λ pending. IsStreamed script stream pending.op) (λ pending of. (of.0, tt)) (queues_at r stream).reads
        (kept.held.queues stream).0,
    All-weaker (λ (pending : Pending Writing). Streamed script before stream pending.op)
        (λ pending. IsStreamed script stream pending.op) (λ pending of. (of.0, tt)) (queues_at r stream).writes
        (kept.held.queues stream).1,
  );
}

-- a turn that settles
level_settled : (script : ScriptModel) (told : Bool) (r : ReactorHalf) → AreOwn script r → (together : AreDueTogether r) →
    All (ExpiresAt script r.expiries together.0) r.due → IsLevel script (settled told r)
level_settled script told r own together due =
    let once : All (λ (wait : Wait). is_due r wait ≡ true → expiry_of r wait ≡ together.0) r.waits =
    only_passing (is_due r) (λ wait. expiry_of r wait ≡ together.0) r.waits together.1 in
    let all = settles
    (λ timer op. IsTimed script timer op
    × (nat_le (slice_index_or r.expiries timer 0) r.now ≡ true → slice_index_or r.expiries timer 0 ≡ together.0))
    (IsStreamed script) (ExpiresAt script r.expiries together.0)
    (λ stream n outcome of never timer wait isnt. absurd (no_wait script stream timer n of.0 wait)) told r
    (λ wait of due timer also isnt.
    ap (λ timer. slice_index_or r.expiries timer 0) (one_timer script timer wait.timer wait.op also of.0.0) ∙ of.1 due)
    (record {
      held = record { waits = λ k d within. (own.waits k d within, once k d within); queues = own.queues };
      due = due;
    }) in
    record {
      expiry = together.0;
      due =
          subst (λ (expiries : List ℕ). All (ExpiresAt script expiries together.0) (settled told r).due)
          (sym (settled_keeps told r).expiries) all.due;
    }

abbrev is_wait : Act → Bool
is_wait (act.Wait timer strand slot filter) = true
is_wait _ = false

due_connected : (slot : Option ℕ) (a : ℕ) (t : ReactorHalf) → (connected slot a t).due ≡ t.due
due_connected None a t = refl
due_connected (Some slot) a t = refl

module _ (script : ScriptModel) (told : Bool) (r : ReactorHalf) (own : AreOwn script r) (slots : AreConnected script r)
    (ahead : AllAhead r) (none : r.due ≡ []) where
  none_due : (P : Completion → Type 0) → All P r.due
  none_due P = subst (λ (due : List Completion). All P due) (sym none) (All-nil P)

  performed_own : (a : ℕ) (given : Act) → act_of script a ≡ Some given → AreOwn script (performed_act script a given r)
  performed_own a given is =
      (performs script (λ n. Unit {0}) (λ done. Unit {0}) a given is tt tt (λ n moved target of may held. tt) r slots
      (record { held = own; due = none_due (λ done. Unit {0}) })).held

  -- a wait that is performed is pending, and nothing is due by it
  wait_due : (a : ℕ) (given : Act) → is_wait given ≡ true → (performed_act script a given r).due ≡ r.due
  wait_due a (act.Wait timer strand slot filter) is = due_connected slot a (wait_accepted a timer r)
  wait_due a _ is = absurd (cc)

  -- what another act makes due is aborted, or bad
  performed_due : (a : ℕ) (given : Act) (b : Bool) → is_wait given ≡ b → act_of script a ≡ Some given →
      (expiries : List ℕ) (expiry : ℕ) → All (ExpiresAt script expiries expiry) (performed_act script a given r).due
  performed_due a given true is given_is expiries expiry =
      subst (λ (due : List Completion). All (ExpiresAt script expiries expiry) due) (sym (wait_due a given is))
      (none_due (ExpiresAt script expiries expiry))
  performed_due a given false other is expiries expiry =
      (performs script (λ n. Unit {0}) (ExpiresAt script expiries expiry) a given is tt
      (λ timer wait isnt.
      let same : Some given ≡ Some (act.Wait timer wait.strand wait.slot wait.filter) = sym is ∙ wait.act in
      let it : given ≡ act.Wait timer wait.strand wait.slot wait.filter = cc in
      absurd (let wrong : true ≡ false = sym (ap is_wait it) ∙ other in cc))
      (λ n moved target of may held timer wait isnt. absurd (isnt refl)) r slots
      (record { held = own; due = none_due (ExpiresAt script expiries expiry) })).due

  marked : (a : ℕ) (by : ReactorHalf) → AreOwn script by → AreOwn script (with_taken a by)
  marked a by held = record { waits = held.waits; queues = held.queues }

  level_taken : IsWellFormed script → (a : ℕ) (given : Option Act) → act_of script a ≡ given →
      IsLevel script (settled told (with_taken a (performed_by script a given r)))
  level_taken well a given is =
      by_act given is
      ((performs-by script a given r (λ it same. act_fits script a well it (is ∙ same))).together ahead)
    where
      by_act : (given : Option Act) → act_of script a ≡ given → AreDueTogether (performed_by script a given r) →
          IsLevel script (settled told (with_taken a (performed_by script a given r)))
      by_act None is together =
          level_settled script told (with_taken a r) (marked a r own) together (none_due (ExpiresAt script r.expiries together.0))
      by_act (Some given) is together =
          let by : ReactorHalf = performed_act script a given r in
          level_settled script told (with_taken a by) (marked a by (performed_own a given is)) together
          (performed_due a given (is_wait given) refl is by.expiries together.0)

  level_moved : (u : ReactorHalf) → u.waits ≡ r.waits → u.queues ≡ r.queues → u.due ≡ r.due → AreDueTogether u →
      IsLevel script (settled told u)
  level_moved u waits queues due together =
      level_settled script told u
      (record {
        waits = subst (λ (waits : List Wait). All (λ wait. IsTimed script wait.timer wait.op) waits) (sym waits) own.waits;
        queues = λ stream.
            subst (λ (queues : List StreamQueues). AreQueued (IsStreamed script) stream (slice_index_or queues stream no_queues))
            (sym queues) (own.queues stream);
      })
      together
      (subst (λ (due : List Completion). All (ExpiresAt script u.expiries together.0) due) (sym due)
      (none_due (ExpiresAt script u.expiries together.0)))

-- the waits that the next time point meets have one expiry
together_then : (script : ScriptModel) (told : Bool) (r : ReactorHalf) (now : ℕ) → AllAhead r →
    next_time script r ≡ point.Time now → AreDueTogether (at_time script told now r)
together_then script told r now ahead next =
    together-from (at_time script told now r) now (λ k d within.
    let first = next_point-first (expiry_of r) r.now now r.waits (times_after r.now script.world.lines) next k d within
    (ahead k d within) in
    not_before now (expiry_of r (get_or r.waits k d)) first)
  where
    not_before : (now expiry : ℕ) → now ≤ expiry → (now < expiry) ⊎ (expiry ≡ now)
    not_before now expiry less = elim (cases_eq expiry now) [ inl same ↦ inr same | inr other ↦ inl (omega (arith, less, other)) ]

-- each event keeps it
pub level_after : (script : ScriptModel) (well : IsWellFormed script) (told : Bool) (before : List Event) (s : State) (e : Event) →
    IsKept script before s.reactor → AllAhead s.reactor → IsLevel script s.reactor → MayHappen script told s e →
    IsLevel script (after_event script told s e).reactor
level_after script well told before s (event.Take a) kept ahead level may =
    level_taken script told s.reactor (are_own script before s.reactor kept) kept.slots ahead may.turn.told well a
    (act_of script a) refl
level_after script well told before s (event.Done o given size) kept ahead level may = record {
  expiry = level.expiry;
  due =
      subst (λ (expiries : List ℕ). All (ExpiresAt script expiries level.expiry) (reactor_after_done script s.reactor o).due)
      (sym (told_keeps script o s.reactor).expiries)
      (told_due script told before s.reactor kept (ExpiresAt script s.reactor.expiries level.expiry) o level.due);
}
level_after script well told before s (event.Tick now) kept ahead level may =
    level_moved script told s.reactor (are_own script before s.reactor kept) kept.slots ahead may.idle.turn.told
    (at_time script told now s.reactor) refl refl refl (together_then script told s.reactor now ahead may.next)
level_after script well told before s event.Last kept ahead level may =
    level_moved script told s.reactor (are_own script before s.reactor kept) kept.slots ahead may.idle.turn.told
    (at_last told s.reactor) refl refl refl (together-ahead (at_last told s.reactor) ahead)
level_after script well told before s event.Fault kept ahead level may =
    record { expiry = 0; due = All-nil (ExpiresAt script s.reactor.expiries 0) }
level_after script well told before s (event.Stop (Some a)) kept ahead level may = level
level_after script well told before s (event.Stop None) kept ahead level may = level
level_after script well told before s _ kept ahead level may = level

pub first_level : (script : ScriptModel) (told : Bool) → IsLevel script (first_state script told).reactor
first_level script told =
    record { expiry = 0; due = All-nil (ExpiresAt script (first_state script told).reactor.expiries 0) }
