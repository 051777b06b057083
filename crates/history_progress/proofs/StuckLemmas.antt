-- Where all that is left waits for a guard no event from within may happen.
use Rattle.std.proofs.Common.{◌≡◌, ℕ, Bool, true, false, not, List, Option, Some, None, inl, inr, refl, sym, ap, ◌∙◌, arith}
use Rattle.std.proofs.lemmas.Bool.{and_parts, not-true}
use Rattle.std.proofs.lemmas.Option.{slice_get_within}
use Rattle.asio_types.specs.declared.event.Event.{Event}
use Rattle.asio_types.specs.declared.event.Event.TheVariants as event
use Rattle.session_script.specs.declared.round.Round.{Round}
use Rattle.session_script.specs.Script.{Place, ScriptModel, opening_of, parent_of}
use Rattle.session_script.specs.WellFormed.{IsWellFormed}
use Rattle.history_rules.specs.Calls.{is_made, is_open}
use Rattle.history_rules.specs.Legal.{MayHappen}
use Rattle.history_rules.specs.Order.{is_request, was_taken}
use Rattle.history_rules.specs.Rounds.{is_quiet, is_run, is_unspent, runs, this_round}
use Rattle.history_rules.specs.State.{ContextState, ReactorHalf, State, call_at, phase_at}
use Rattle.history_rules.specs.declared.phase.ActPhase.{ActPhase}
use Rattle.history_rules.specs.declared.phase.ActPhase.TheVariants as phase
use Rattle.history_rules.specs.declared.phase.CallPhase.{CallPhase}
use Rattle.history_rules.specs.declared.phase.CallPhase.TheVariants as call
use Rattle.history_laws.proofs.BodyLemmas.{body_of}
use Rattle.history_laws.proofs.MovingLemmas.{IsNext, finished_in, is_next, return_open}
use Rattle.history_laws.proofs.Sound.{IsSound}
use Rattle.history_laws.proofs.TurnSoundLemmas.{requested}
use Rattle.history_progress.specs.Next.{is_from_within}
use Rattle.history_progress.proofs.GoesLemmas.{Goes}
use Rattle.history_progress.proofs.MakingLemmas.{next_running}
use Rattle.history_progress.proofs.RestLemmas.{Waits}
use Rattle.history_progress.proofs.StateLemmas.{IsOrderly}

made_open : (made : CallPhase) → is_made made ≡ true → is_open made ≡ true
made_open (call.Open called) is = refl
made_open _ is = absurd (cc)

module _ (script : ScriptModel) (well : IsWellFormed script) (told : Bool) (before : List Event) (s : State)
    (o : IsOrderly script told before s) (waits : Waits script s) where
  abbrev c : ContextState
  c = s.context

  abbrev r : ReactorHalf
  r = s.reactor

  sound : IsSound script s
  sound = o.counted.shown.sound

  -- no act is so that isn't spent
  no_act : (n : ℕ) (p : ActPhase) → phase_at c n ≡ p → is_unspent p ≡ true → ⊥
  no_act n p is unspent =
      absurd (let wrong : true ≡ false = sym unspent ∙ (ap is_unspent (sym is) ∙ waits.spent n) in cc)

  no_open : (n : ℕ) → is_open (call_at c n) ≡ true → ⊥
  no_open n opened = absurd (let wrong : true ≡ false = sym opened ∙ waits.closed n in cc)

  no_next : (a : ℕ) (place : Place) → IsNext script c place a → ⊥
  no_next a None next =
      let within = slice_get_within (opening_of script) c.opening.made a next.0 in
      let idle = next.1 in
      let opened = waits.opened in
      absurd (omega (arith, within, idle, opened))
  no_next a (Some at) next =
      let runs = next_running (body_of script (Some at)) at.1 (phase_at c at.0) a next in no_act at.0 (phase.Running at.1 runs.0) runs.1 refl

  no_request : (a : ℕ) (p : ActPhase) → phase_at c a ≡ p → is_request p ≡ true → was_taken r a ≡ false → ⊥
  no_request a phase.Requested is asks untaken = no_act a phase.Requested is refl
  no_request a phase.Asked is asks untaken =
      absurd (let wrong : false ≡ true =
      sym untaken ∙ (sym (ap (λ p. is_quiet p (was_taken r a)) is) ∙ waits.quiet a) in
      cc)
  no_request a _ is asks untaken = absurd (cc)

  pace_runs : (found : Option Round) → found ≡ Some waits.round → runs found ≡ true
  pace_runs found is = ap runs is ∙ ap is_run waits.runs

  may_not : (e : Event) → is_from_within e ≡ true → MayHappen script told s e → ⊥
  may_not (event.Call a) own may = no_next a (parent_of script a) (is_next script r.failed c a may)
  may_not (event.Back a) own may = no_open a (return_open script well told s sound a may)
  may_not (event.Stop (Some a)) own may = no_open a (made_open (call_at c a) may.made)
  may_not (event.Stop None) own may = absurd (cc)
  may_not (event.Begin n given size) own may = elim may [
    | inl outside ↦ no_act n (phase.Ready given size outside.ready.0) outside.ready.1 refl
    | inr inside ↦ no_act n phase.Inside inside.inside refl
  ]
  may_not (event.End n mark) own may =
      let runs = finished_in script n (phase_at c n) may in no_act n (phase.Running runs.0 runs.1) runs.2 refl
  may_not (event.Take a) own may =
      let both = and_parts (is_request (phase_at c a)) (not (was_taken r a)) may.untaken in
      no_request a (phase_at c a) refl both.0 (not-true (was_taken r a) both.1)
  may_not (event.Done n given size) own may =
      no_act n phase.Requested (requested script well told s sound n given size may) refl
  may_not (event.Tick now) own may =
      let some = may.idle.pending in let none = waits.pends in absurd (omega (arith, some, none))
  may_not event.Last own may =
      let some = may.idle.pending in let none = waits.pends in absurd (omega (arith, some, none))
  may_not event.Fault own may = absurd (cc)
  may_not event.Ended own may =
      let none = may.idle in let some = waits.work in absurd (omega (arith, none, some))
  may_not event.Stopped own may = absurd (let wrong : true ≡ false = sym may.stopped ∙ waits.going in cc)
  may_not event.Polled own may =
      absurd (let wrong : true ≡ false = sym (pace_runs (this_round script c) waits.is_round) ∙ may.polls in cc)
  may_not event.Restart own may =
      absurd (let wrong : true ≡ false = sym (waits.opens.restarted may.wanted) ∙ may.once in cc)
  may_not (event.Dropped n mark) own may = elim may.over [
    | inl all ↦ let left = waits.left in absurd (omega (arith, all, left))
    | inr failed ↦ absurd (let wrong : true ≡ false = sym failed.0 ∙ waits.working in cc)
  ]

  -- nothing goes on
  pub nothing_goes : Goes script told s → ⊥
  nothing_goes goes = may_not goes.next goes.own goes.may
