-- What was requested and taken is pending until it completes.
use Rattle.std.proofs.Common.{◌≡◌, ◌⊎◌, ℕ, ◌+◌, ◌≤◌, ◌==◌, Bool, true, false, cond, List, Option, Some, None, inl, inr, length, refl, sym, ap, subst, ◌∙◌, arith}
use Rattle.std.specs.List.{slice_index_or}
use Rattle.std.specs.Prelude.{slice_get}
use Rattle.std.proofs.lemmas.Bool.{cases_eq}
use Rattle.std.proofs.lemmas.List.{length-replicate}
use Rattle.asio_types.specs.declared.event.Event.{Event}
use Rattle.asio_types.specs.declared.event.Event.TheVariants as event
use Rattle.session_script.specs.declared.act.Act.{Act}
use Rattle.session_script.specs.Script.{Entry, ScriptModel, act_of, is_op, is_operation}
use Rattle.session_script.specs.WellFormed.{IsWellFormed}
use Rattle.session_script.proofs.PlacingLemmas.{act_fits}
use Rattle.history_rules.specs.Kinds.{is_posting}
use Rattle.history_rules.specs.Legal.{MayHappen, after_event}
use Rattle.history_rules.specs.Order.{is_request, was_taken}
use Rattle.history_rules.specs.Performing.{performed, performed_by}
use Rattle.history_rules.specs.Requests.{MayTake}
use Rattle.history_rules.specs.State.{ReactorHalf, State, act_at, call_at, first_state, phase_at}
use Rattle.history_rules.specs.Time.{at_last, at_time}
use Rattle.history_rules.specs.declared.phase.ActPhase.{ActPhase}
use Rattle.history_rules.specs.declared.phase.ActPhase.TheVariants as phase
use Rattle.history_rules.specs.declared.phase.ActState.{ActState}
use Rattle.history_laws.specs.AfterCompletion.{IsAsynchronous}
use Rattle.history_laws.specs.Events.{is_completion_of}
use Rattle.history_laws.proofs.CountLemmas.{one_if, same-is}
use Rattle.history_laws.proofs.FirstLemmas.{first_taken}
use Rattle.history_laws.proofs.HistoryLemmas.{moves_after}
use Rattle.history_laws.proofs.KindLemmas.{op-is, was_made}
use Rattle.history_laws.proofs.Moves.{Moves, comes_back, completes, destroys, enters, finishes, further, halts, initiates, no_completion, starts, stays}
use Rattle.history_laws.proofs.ReactorLemmas.{stays_settled, stays_told}
use Rattle.history_laws.proofs.Sound.{IsPhaseOf, IsSound, pending_of}
use Rattle.history_laws.proofs.TakingLemmas.{taken_same, was}
use Rattle.reactor_turns.specs.Standing.{is_awaited}
use Rattle.reactor_turns.proofs.StandingLemmas.{stands-done, stands-last, stands-settled, stands-take, stands-tick}
use Rattle.reactor_turns.proofs.StreamsLemmas.{done-size, last-size, take-size, tick-size}

absent_moved : (script : ScriptModel) (n : ℕ) (e : Event) (old new : ActState) → Moves script n e old new →
    new.phase ≡ phase.Absent → old.phase ≡ phase.Absent
absent_moved script n e old new (stays isnt) is = is
absent_moved script n e old new (further isnt calling more) is = absurd (cc)
absent_moved script n e old new initiates is = refl
absent_moved script n e old new (comes_back at opened never) is = is
absent_moved script n e old new halts is = is
absent_moved script n e old new starts is = absurd (cc)
absent_moved script n e old new enters is = absurd (cc)
absent_moved script n e old new (finishes all) is = absurd (cc)
absent_moved script n e old new completes is = absurd (cc)
absent_moved script n e old new (destroys unspent isnt never) is = absurd (cc)

-- what is requested was so before, or is called just now, and doesn't complete just now
requested_moved : (script : ScriptModel) (n : ℕ) (e : Event) (old new : ActState) → Moves script n e old new →
    new.phase ≡ phase.Requested →
    ((old.phase ≡ phase.Requested) ⊎ (old.phase ≡ phase.Absent)) × (is_completion_of n e ≡ false)
requested_moved script n e old new (stays isnt) is = (inl is, no_completion n e isnt)
requested_moved script n e old new (further isnt calling more) is = absurd (cc)
requested_moved script n e old new initiates is = (inr refl, refl)
requested_moved script n e old new (comes_back at opened never) is = (inl is, refl)
requested_moved script n e old new halts is = (inl is, refl)
requested_moved script n e old new starts is = absurd (cc)
requested_moved script n e old new enters is = absurd (cc)
requested_moved script n e old new (finishes all) is = absurd (cc)
requested_moved script n e old new completes is = absurd (cc)
requested_moved script n e old new (destroys unspent isnt never) is = absurd (cc)

pub record AreStanding (script : ScriptModel) (s : State) : Type 0 where
  pub size : length s.reactor.queues ≡ script.world.streams
  -- what wasn't called wasn't taken
  pub untaken : (n : ℕ) → phase_at s.context n ≡ phase.Absent → was_taken s.reactor n ≡ false
  pub pending : (n : ℕ) → s.reactor.failed ≡ false → phase_at s.context n ≡ phase.Requested →
      was_taken s.reactor n ≡ true → 1 ≤ pending_of n s.reactor

asynchronous_awaited : (script : ScriptModel) (a : ℕ) (given : Act) → act_of script a ≡ Some given →
    IsAsynchronous script a → is_awaited given ≡ true
asynchronous_awaited script a given is kind =
    let operates : is_operation given ≡ true = sym (rw is refl) ∙ (op-is script a ∙ kind.operation) in
    let unposted : is_posting given ≡ false = sym (rw is refl) ∙ kind.unposted in
    rw (operates, unposted) refl

act_found : (script : ScriptModel) (a : ℕ) → is_op script a ≡ true → (given : Act) × (act_of script a ≡ Some given)
act_found script a is = by_entry (slice_get script.acts a) refl
  where
    by_entry : (found : Option Entry) → slice_get script.acts a ≡ found → (given : Act) × (act_of script a ≡ Some given)
    by_entry None there = absurd (cc (rw there at is))
    by_entry (Some entry) there = (entry.act, rw there refl)

module _ (script : ScriptModel) (well : IsWellFormed script) (told : Bool) (s : State) (sound : IsSound script s)
    (are : AreStanding script s) where
  abbrev r : ReactorHalf
  r = s.reactor

  abbrev After : Event → State
  After e = after_event script told s e

  moves : (e : Event) → MayHappen script told s e → (n : ℕ) →
      Moves script n e (act_at s.context n) (act_at (After e).context n)
  moves e may n = moves_after script well told s sound e may n

  -- where the same is taken, and as much is pending
  standing_by : (e : Event) → MayHappen script told s e → (After e).reactor.taken ≡ r.taken →
      length (After e).reactor.queues ≡ length r.queues → (After e).reactor.failed ≡ r.failed →
      ((n : ℕ) → pending_of n (After e).reactor + one_if (is_completion_of n e) ≡ pending_of n r) → AreStanding script (After e)
  standing_by e may taken size failed pends = record {
    size = size ∙ are.size;
    untaken = λ n absent.
        same n ∙ are.untaken n (absent_moved script n e (act_at s.context n) (act_at (After e).context n) (moves e may n) absent);
    pending = λ n works requested is.
        let was_so = requested_moved script n e (act_at s.context n) (act_at (After e).context n) (moves e may n) requested in
        let before : was_taken r n ≡ true = sym (same n) ∙ is in
        let none = ap one_if was_so.1 in
        let here = pends n in
        elim was_so.0 [
          | inl asked ↦
              let more = are.pending n (sym failed ∙ works) asked before in omega (arith, more, none, here)
          | inr absent ↦ absurd (let wrong : true ≡ false = sym before ∙ are.untaken n absent in cc)
        ];
  }
    where
      same : (n : ℕ) → was_taken (After e).reactor n ≡ was_taken r n
      same n = ap (λ (taken : List Bool). slice_index_or taken n false) taken

  same_half : (e : Event) → MayHappen script told s e → (After e).reactor ≡ r → ((n : ℕ) → is_completion_of n e ≡ false) →
      AreStanding script (After e)
  same_half e may same never =
      standing_by e may (ap (λ (r : ReactorHalf). r.taken) same) (ap (λ (r : ReactorHalf). length r.queues) same)
      (ap (λ (r : ReactorHalf). r.failed) same)
      (λ n. let none = ap one_if (never n) in let pends = ap (pending_of n) same in omega (arith, none, pends))

  take_standing : (a : ℕ) → MayTake script s a → AreStanding script (After (event.Take a))
  take_standing a may = record {
    size = take-size script told r a ∙ are.size;
    untaken = λ n absent. elim (cases_eq n a) [
      | inl same ↦
          let asks = (was script well told s sound a may).0 in
          absurd (let wrong : false ≡ true =
          sym (ap is_request (ap (phase_at s.context) (sym same) ∙ absent)) ∙ asks in cc)
      | inr other ↦ taken_same script well told s sound a may n other ∙ are.untaken n absent
    ];
    pending = λ n works requested is. elim (cases_eq n a) [
      | inl same ↦ here n same requested
      | inr other ↦
          let works_before : r.failed ≡ false = works_then works in
          let before = are.pending n works_before requested (sym (taken_same script well told s sound a may n other) ∙ is) in
          let more = more_pending n in
          omega (arith, before, more)
    ];
  }
    where
      works_then : (After (event.Take a)).reactor.failed ≡ false → r.failed ≡ false
      works_then works = may.turn.working

      by_act : (n : ℕ) (given : Option Act) → act_of script a ≡ given → pending_of n r ≤ pending_of n (After (event.Take a)).reactor
      by_act n None is =
          let settles = stands-settled n told (performed script a r) in
          let same : pending_of n (performed script a r) ≡ pending_of n r =
          ap (λ act. pending_of n (performed_by script a act r)) is in
          omega (arith, settles, same)
      by_act n (Some given) is =
          let takes = stands-take n script told r a given is (act_fits script a well given is) are.size in omega (arith, takes)

      more_pending : (n : ℕ) → pending_of n r ≤ pending_of n (After (event.Take a)).reactor
      more_pending n = by_act n (act_of script a) refl

      here : (n : ℕ) → n ≡ a → phase_at s.context n ≡ phase.Requested → 1 ≤ pending_of n (After (event.Take a)).reactor
      here n same requested =
          let asked : phase_at s.context a ≡ phase.Requested = ap (phase_at s.context) (sym same) ∙ requested in
          let made = was_made script a (act_at s.context a) (sound.kinds a)
          (λ absent. absurd (let wrong : phase.Absent ≡ phase.Requested = sym absent ∙ asked in cc)) in
          let kind : IsAsynchronous script a =
          subst (λ (p : ActPhase). IsPhaseOf script a (call_at s.context a) p) asked ((sound.kinds a).made made) in
          let given = act_found script a kind.operation in
          let takes = stands-take n script told r a given.0 given.1 (act_fits script a well given.0 given.1) are.size in
          let one : cond (is_awaited given.0) (one_if (a == n)) 0 ≡ 1 =
          ap (λ b. cond b (one_if (a == n)) 0) (asynchronous_awaited script a given.0 given.1 kind)
          ∙ (ap (λ n. one_if (a == n)) same ∙ ap one_if (same-is a)) in
          omega (arith, takes, one)

  -- each event keeps it
  pub standing_after : (e : Event) → MayHappen script told s e → AreStanding script (After e)
  standing_after (event.Take a) may = take_standing a may
  standing_after (event.Done o given size) may =
      standing_by (event.Done o given size) may (stays_told script o r).taken (done-size script r o) (stays_told script o r).failed
      (λ n. stands-done n script told r o given size may.next)
  standing_after (event.Tick now) may =
      let u : ReactorHalf = at_time script told now r in
      standing_by (event.Tick now) may (stays_settled told u).taken (tick-size script told r now) (stays_settled told u).failed
      (λ n. let same = stands-tick n script told r now in omega (arith, same))
  standing_after event.Last may =
      let u : ReactorHalf = at_last told r in
      standing_by event.Last may (stays_settled told u).taken (last-size told r) (stays_settled told u).failed
      (λ n. let same = stands-last n told r in omega (arith, same))
  standing_after event.Fault may = record {
    size = are.size;
    untaken = are.untaken;
    pending = λ n works. absurd (cc);
  }
  standing_after (event.Stop (Some a)) may = same_half (event.Stop (Some a)) may refl (λ n. refl)
  standing_after (event.Stop None) may = same_half (event.Stop None) may refl (λ n. refl)
  standing_after e may = same_half e may refl (λ n. refl)

pub first_standing : (script : ScriptModel) (told : Bool) → AreStanding script (first_state script told)
first_standing script told = record {
  size = length-replicate script.world.streams _;
  untaken = λ n absent. first_taken script told n;
  pending = λ n works requested is. absurd (let wrong : false ≡ true = sym (first_taken script told n) ∙ is in cc);
}
