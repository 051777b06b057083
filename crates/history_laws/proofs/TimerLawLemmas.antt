-- Laws of timers and of cancellation.
use Rattle.std.proofs.Common.{◌≡◌, ◌≢◌, ℕ, ◌<◌, ◌≤◌, Bool, true, false, List, [], ◌∷◌, Option, Some, take, inl, inr, refl, sym, ap, subst, ◌∙◌, arith}
use Rattle.std.specs.List.{All}
use Rattle.std.specs.Prelude.{slice_get}
use Rattle.std.proofs.lemmas.List.Elements.{All-head}
use Rattle.asio_types.specs.declared.code.Code.{Code}
use Rattle.asio_types.specs.declared.code.Code.TheVariants as code
use Rattle.asio_types.specs.declared.event.Event.{Event}
use Rattle.asio_types.specs.declared.event.Event.TheVariants as event
use Rattle.session_script.specs.declared.act.Act.{Act}
use Rattle.session_script.specs.declared.act.Act.TheVariants as act
use Rattle.session_script.specs.Script.{ScriptModel, act_of}
use Rattle.session_script.specs.WellFormed.{IsWellFormed}
use Rattle.session_script.proofs.PlacingLemmas.{act_fits}
use Rattle.stream_rules.specs.declared.queue.Completion.{Completion}
use Rattle.stream_rules.specs.Serving.{Outcome, Reading, Writing, Some_bytes, All_bytes, Until, Some_of, All_of}
use Rattle.history_rules.specs.Calls.{is_open}
use Rattle.history_rules.specs.Legal.{IsLegalSoFar}
use Rattle.history_rules.specs.Order.{was_taken}
use Rattle.history_rules.specs.Rounds.{is_quiet}
use Rattle.history_rules.specs.State.{ReactorHalf, State, call_at, first_state, phase_at}
use Rattle.history_rules.specs.Time.{MayTick}
use Rattle.history_rules.specs.Untold.{IsToldAs, MayGiveUntold, may_give_read, may_give_write}
use Rattle.history_rules.specs.declared.phase.ActPhase.{ActPhase}
use Rattle.history_rules.specs.declared.phase.ActPhase.TheVariants as phase
use Rattle.history_rules.specs.declared.phase.ActState.{ActState}
use Rattle.history_rules.specs.declared.phase.CallPhase.{CallPhase}
use Rattle.history_rules.specs.declared.phase.CallPhase.TheVariants as call
use Rattle.history_laws.specs.Cancelled.{WasCancelled}
use Rattle.history_laws.specs.Clock.{IsWaitOf, expiry_at, time_after, time_at}
use Rattle.history_laws.specs.Events.{StandsAt}
use Rattle.history_laws.specs.Timers.{IsAtRest}
use Rattle.history_laws.proofs.ClockLemmas.{forward}
use Rattle.history_laws.proofs.KeptLemmas.{CancelledIn, IsKept, IsRight, first_kept, kept_after}
use Rattle.history_laws.proofs.LawLemmas.{at, happens, shown_at, stands_before}
use Rattle.history_laws.proofs.ReachLemmas.{along, legal_take}
use Rattle.history_laws.proofs.ShownLemmas.{begins_shown, calls_shown, completions_shown, ends_shown, returns_shown}
use Rattle.history_laws.proofs.TimeLemmas.{IsClocked, clocked_after, first_clocked, time_next}
use Rattle.history_laws.proofs.TurnSoundLemmas.{at_each}

pub first_due : (P : Completion → Type 0) (due : List Completion) (head : Completion) → slice_get due 0 ≡ Some head →
    All P due → P head
first_due P [] head is all = absurd (cc)
first_due P (next ∷ due) head is all =
    let same : next ≡ head = cc in subst P same (All-head P next due all)

pub told_code : (told : Bool) (given : Option Act) (outcome : Outcome) (code : Code) (size : ℕ) →
    IsToldAs told given outcome code size → outcome.0 ≡ code
told_code true given outcome code size is = ap (λ (o : Outcome). o.0) is
told_code false given outcome code size is = is.0

-- where bytes are untold a stream cancels nothing by itself
read_uncancelled : (reading : Reading) (size : ℕ) → may_give_read reading code.Aborted size ≡ true → ⊥
read_uncancelled (Some_bytes most) size is = absurd (cc)
read_uncancelled (All_bytes all) size is = absurd (cc)
read_uncancelled (Until delimiter max) size is = absurd (cc)

write_uncancelled : (writing : Writing) (size : ℕ) → may_give_write writing code.Aborted size ≡ true → ⊥
write_uncancelled (Some_of bytes) size is = absurd (cc)
write_uncancelled (All_of bytes) size is = absurd (cc)

untold_uncancelled : (r : ReactorHalf) (o : ℕ) (given : Option Act) (size : ℕ) →
    MayGiveUntold r o given code.Aborted size → ⊥
untold_uncancelled r o (Some (act.ReadSome stream most strand slot filter)) size may =
    read_uncancelled (Some_bytes most) size may.allowed
untold_uncancelled r o (Some (act.ReadAll stream most strand slot filter)) size may =
    read_uncancelled (All_bytes most) size may.allowed
untold_uncancelled r o (Some (act.Until stream delimiter max strand slot filter)) size may =
    read_uncancelled (Until delimiter max) size may.allowed
untold_uncancelled r o (Some (act.WriteSome stream bytes strand slot filter)) size may =
    write_uncancelled (Some_of bytes) size may.allowed
untold_uncancelled r o (Some (act.WriteAll stream bytes strand slot filter)) size may =
    write_uncancelled (All_of bytes) size may.allowed
untold_uncancelled r o _ size may = may

-- a call that isn't open was back as often as it was made
shut_shown : (made : CallPhase) → is_open made ≡ false → returns_shown made ≡ calls_shown made
shut_shown call.Uncalled shut = refl
shut_shown (call.Open called) shut = absurd (cc)
shut_shown (call.Stopping called) shut = absurd (cc)
shut_shown (call.Back called back) shut = refl

-- what is quiet and wasn't destroyed neither runs nor is ready
quiet_shown : (p : ActPhase) (taken : Bool) → is_quiet p taken ≡ true → p ≢ phase.Dropped →
    (ends_shown p ≡ begins_shown p) × (completions_shown p ≤ begins_shown p)
quiet_shown phase.Absent taken quiet kept = (refl, omega arith)
quiet_shown phase.Inside taken quiet kept = (refl, omega arith)
quiet_shown phase.Requested taken quiet kept = (refl, omega arith)
quiet_shown (phase.Ready given size why) taken quiet kept = absurd (cc)
quiet_shown (phase.Running class progress) taken quiet kept = absurd (cc)
quiet_shown phase.Ended taken quiet kept = (refl, omega arith)
quiet_shown phase.Dropped taken quiet kept = absurd (kept refl)
quiet_shown phase.Asked taken quiet kept = (refl, omega arith)

module _ (script : ScriptModel) (well : IsWellFormed script) (told : Bool) (events : List Event)
    (legal : IsLegalSoFar script told events) where
  abbrev s : ℕ → State
  s place = at script well told events legal place

  pub kept_at : (place : ℕ) → IsKept script (take place events) (s place).reactor
  kept_at place =
      along script told (λ before s. IsKept script before s.reactor)
      (λ before s e kept may. kept_after script told before s e kept may) [] (first_state script told)
      (first_kept script told) (take place events)
      (legal_take script told (first_state script told) events place legal)

  pub clocked_at : (timer place : ℕ) → timer < script.timers → IsClocked script timer (take place events) (s place).reactor
  clocked_at timer place within =
      along script told (λ before s. IsClocked script timer before s.reactor)
      (λ before s e clocked may. clocked_after script told timer before s e clocked may) [] (first_state script told)
      (first_clocked script told timer within) (take place events)
      (legal_take script told (first_state script told) events place legal)

  -- the head that completes
  pub right_at : (n place : ℕ) (given : Code) (size : ℕ) → StandsAt events place (event.Done n given size) →
      ((r : ReactorHalf) → MayGiveUntold r n (act_of script n) given size → ⊥) →
      (head : Completion) × (head.op ≡ n) × (head.outcome.0 ≡ given)
      × IsRight script (take place events) (s place).reactor.expiries (s place).reactor.now head
  right_at n place given size stands never =
      elim (happens script well told events legal place (event.Done n given size) stands).next [
        | inl next ↦ (
          next.head,
          next.is_op,
          told_code told (act_of script n) next.head.outcome given size next.outcome,
          first_due (IsRight script (take place events) (s place).reactor.expiries (s place).reactor.now) (s place).reactor.due
              next.head next.due
              (kept_at place).due,
        )
        | inr untold ↦ absurd (never (s place).reactor untold.given)
      ]

  pub aborted : (n place size : ℕ) → StandsAt events place (event.Done n code.Aborted size) → WasCancelled script events place n
  aborted n place size stands =
      let right = right_at n place code.Aborted size stands (λ r may. untold_uncancelled r n (act_of script n) size may) in
      let was = subst (CancelledIn script (take place events)) right.1 (right.3.aborted right.2) in
      let takes = stands_before events place was.taken (event.Take n) was.takes in
      let cancels = stands_before events place was.cancelled (event.Take was.canceller) was.cancels in
      record {
        canceller = was.canceller;
        by = was.by;
        target = was.target;
        is_canceller = was.is_canceller;
        is_target = was.is_target;
        may = was.may;
        taken = was.taken;
        cancelled = was.cancelled;
        order = was.order;
        before = cancels.0;
        takes = takes.1;
        cancels = cancels.1;
      }

  pub untold_wait : (timer n : ℕ) → IsWaitOf script timer n → (given : Code) (size : ℕ) (r : ReactorHalf) →
      MayGiveUntold r n (act_of script n) given size → ⊥
  untold_wait timer n wait given size r may = subst (λ (found : Option Act). MayGiveUntold r n found given size) wait.act may

  pub timer_within : (timer n : ℕ) → IsWaitOf script timer n → timer < script.timers
  timer_within timer n wait = (act_fits script n well (act.Wait timer wait.strand wait.slot wait.filter) wait.act).0

  pub expired : (n timer place size : ℕ) → IsWaitOf script timer n → StandsAt events place (event.Done n code.Ok size) →
      expiry_at script events timer place ≤ time_at events place
  expired n timer place size wait stands =
      let right = right_at n place code.Ok size stands (untold_wait timer n wait code.Ok size) in
      let clocked = clocked_at timer place (timer_within timer n wait) in
      let less = right.3.expired right.2 timer (subst (λ (n : ℕ). IsWaitOf script timer n) (sym right.1) wait) in
      omega (arith, less, clocked.expiry, clocked.time)

  -- the time that the events show
  time_is : (place : ℕ) → time_at events place ≡ (s place).reactor.now
  time_is place =
      along script told (λ before s. time_after 0 before ≡ s.reactor.now)
      (λ before s e same may. time_next script told before s e same may) [] (first_state script told) refl (take place events)
      (legal_take script told (first_state script told) events place legal)

  pub rising : (place now : ℕ) → StandsAt events place (event.Tick now) → time_at events place < now
  rising place now stands =
      let may = happens script well told events legal place (event.Tick now) stands in
      let more = forward script told (s place).reactor now may.next in
      omega (arith, more, time_is place)

  pub rest : (place now : ℕ) → StandsAt events place (event.Tick now) → IsAtRest events place
  rest place now stands =
      let may = happens script well told events legal place (event.Tick now) stands in
      let shown = shown_at script well told events legal place in
      record {
        back = λ n.
            shown.returns n
            ∙ (shut_shown (call_at (s place).context n)
            (at_each (λ (act : ActState). is_open act.call ≡ false) (s place).context refl may.idle.back n)
            ∙ sym (shown.calls n));
        ended = λ n. shown.ends n ∙ ((quiet place now may n).0 ∙ sym (shown.begins n));
        begun = λ n. let less = (quiet place now may n).1 in omega (arith, less, shown.completions n, shown.begins n);
      }
    where
      quiet : (place now : ℕ) → MayTick script (s place) now → (n : ℕ) →
          (ends_shown (phase_at (s place).context n) ≡ begins_shown (phase_at (s place).context n))
          × (completions_shown (phase_at (s place).context n) ≤ begins_shown (phase_at (s place).context n))
      quiet place now may n =
          quiet_shown (phase_at (s place).context n) (was_taken (s place).reactor n) (may.idle.quiet n)
          (λ dropped.
          let over = (shown_at script well told events legal place).sound.dropped n dropped in
          absurd (let wrong : true ≡ false = sym over.1 ∙ may.idle.turn.round.alive in cc))
