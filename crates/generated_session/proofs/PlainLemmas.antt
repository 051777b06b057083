-- What the events from a state on tell of a session that a number makes, for what came before.
use Rattle.std.proofs.Common.{◌≡◌, ℕ, ◌+◌, inl, inr, Bool, true, false, cond, List, [], ◌∷◌, length, map, refl, ap, sym, ◌∙◌, arith}
use Rattle.std.specs.Prelude.{count_by}
use Rattle.std.specs.List.{list_any, sum_by}
use Rattle.std.proofs.lemmas.List.Sums.{sum_by-cons}
use Rattle.asio_types.specs.declared.event.Event.{Event}
use Rattle.asio_types.specs.declared.event.Event.TheVariants as event
use Rattle.session_script.specs.Script.{Entry}
use Rattle.history_rules.specs.FromOutside.{is_fault, is_outside_stop}
use Rattle.history_rules.specs.Legal.{IsLegalFrom, IsWhole, MayHappen, after_event, state_from}
use Rattle.history_rules.specs.State.{ReactorHalf, State}
use Rattle.history_rules.specs.declared.phase.ActState.{ActState}
use Rattle.generated_session.specs.Generator.{session_of}
use Rattle.generated_session.specs.Summary.{closing_from, closing_after, is_abort, is_call, is_drop, time_after, time_from}
use Rattle.generated_session.specs.declared.tally.Closing.{Closing}
use Rattle.generated_session.specs.declared.tally.Closing.TheVariants as closing
use Rattle.generated_session.proofs.ClosedLemmas.{or_parts, silent_from}
use Rattle.generated_session.proofs.ClosingLemmas.{all_called, all_ended, is_closed, nothing_to_come, until_now}
use Rattle.generated_session.proofs.FitLemmas.{operates}
use Rattle.generated_session.proofs.GatherLemmas.{one_if, total}
use Rattle.generated_session.proofs.GoingLemmas.{Going, Step, end_weight}
use Rattle.generated_session.proofs.ItemsLemmas.{AreItems, nth_act}
use Rattle.generated_session.proofs.StatesLemmas.{called_count, ended_sum}
use Rattle.generated_session.proofs.StepLemmas.{step_on}
use Rattle.generated_session.proofs.TurnsLemmas.{to_come, until}

-- with what came before, these events tell what the script does: of its acts, and of its requests that are left
pub record IsPlain (acts : List Entry) (states : List ActState) (r : ReactorHalf) (left : List ℕ) (events : List Event)
    : Type 0 where
  pub calls : count_by is_call events + called_count states (length acts) ≡ length acts
  pub ends : (weight : ℕ → ℕ) → sum_by (end_weight weight) events + ended_sum weight states (length acts) ≡ total
      (λ n. cond (operates (nth_act acts n)) (weight n) 0) (length acts)
  pub drops : count_by is_drop events ≡ 0
  pub aborts : count_by is_abort events ≡ to_come r (map (nth_act acts) left)
  pub time : time_from r.now events ≡ until r (map (nth_act acts) left)
  pub closed : (last : Closing) → closing_from last events ≡ closing.Ended

-- an event before such events
pub record Tells (acts : List Entry) (old new : List ActState) (r next : ReactorHalf) (left rest : List ℕ) (e : Event)
    : Type 0 where
  pub calls : one_if (is_call e) + called_count old (length acts) ≡ called_count new (length acts)
  pub ends : (weight : ℕ → ℕ) →
      end_weight weight e + ended_sum weight old (length acts) ≡ ended_sum weight new (length acts)
  pub drops : is_drop e ≡ false
  pub aborts : to_come r (map (nth_act acts) left) ≡ one_if (is_abort e) + to_come next (map (nth_act acts) rest)
  pub lasts : until r (map (nth_act acts) left) ≡ until next (map (nth_act acts) rest)
  pub time : next.now ≡ time_after r.now e

pub plain_before : (acts : List Entry) (old new : List ActState) (r next : ReactorHalf) (left rest : List ℕ) (e : Event)
    (events : List Event) → Tells acts old new r next left rest e → IsPlain acts new next rest events →
    IsPlain acts old r left (e ∷ events)
plain_before acts old new r next left rest e events tells plain = record {
  calls =
      let first = sum_by-cons (λ x. one_if (is_call x)) e events in
      let more = plain.calls in
      let here = tells.calls in
      omega (arith, first, more, here);
  ends = λ weight.
      let first = sum_by-cons (end_weight weight) e events in
      let more = plain.ends weight in
      let here = tells.ends weight in
      omega (arith, first, more, here);
  drops =
      let first = sum_by-cons (λ x. one_if (is_drop x)) e events in
      let more = plain.drops in
      let here = ap one_if tells.drops in
      omega (arith, first, more, here);
  aborts =
      let first = sum_by-cons (λ x. one_if (is_abort x)) e events in
      let more = plain.aborts in
      let here = tells.aborts in
      omega (arith, first, more, here);
  time = ap (λ n. time_from n events) (sym tells.time) ∙ plain.time ∙ sym tells.lasts;
  closed = λ last. plain.closed (closing_after last e);
}

step_tells : (acts : List Entry) (s : State) (was : Going acts s) (e : Event) (next : State)
    (step : Step acts s was e next) →
    Tells acts s.context.acts next.context.acts s.reactor next.reactor was.left step.going.left e
step_tells acts s was e next step = record {
  calls = step.calls;
  ends = step.ends;
  drops = step.drops;
  aborts = step.aborts;
  lasts = step.lasts;
  time = step.time;
}

-- the round closes
plain_at_end : (acts : List Entry) (items : AreItems 0 acts) (told : Bool) (events : List Event) (s : State)
    (was : Going acts s) → MayHappen (session_of acts) told s event.Ended →
    IsLegalFrom (session_of acts) told (after_event (session_of acts) told s event.Ended) events →
    list_any is_fault events ≡ false → list_any is_outside_stop events ≡ false →
    IsPlain acts s.context.acts s.reactor was.left (event.Ended ∷ events)
plain_at_end acts items told events s was may legal works goes =
    let silent =
    silent_from acts items told events (after_event (session_of acts) told s event.Ended)
    (is_closed acts items s was may told) legal works goes in
    record {
      calls =
          let first = sum_by-cons (λ x. one_if (is_call x)) event.Ended events in
          let none = silent.calls in
          let all = all_called acts items s was may in
          omega (arith, first, none, all);
      ends = λ weight.
          let first = sum_by-cons (end_weight weight) event.Ended events in
          let none = silent.ends weight in
          let all = all_ended acts items s was may weight in
          omega (arith, first, none, all);
      drops =
          let first = sum_by-cons (λ x. one_if (is_drop x)) event.Ended events in
          let none = silent.drops in
          omega (arith, first, none);
      aborts =
          let first = sum_by-cons (λ x. one_if (is_abort x)) event.Ended events in
          let none = silent.aborts in
          let nothing = nothing_to_come acts items s was may in
          omega (arith, first, none, nothing);
      time = silent.time s.reactor.now ∙ sym (until_now acts items s was may);
      closed = λ last. silent.closed;
    }

-- from the last call of `open` on
pub plain_from : (acts : List Entry) (items : AreItems 0 acts) (told : Bool) (events : List Event) (s : State)
    (was : Going acts s) → IsLegalFrom (session_of acts) told s events →
    IsWhole (session_of acts) (state_from (session_of acts) told s events) → list_any is_fault events ≡ false →
    list_any is_outside_stop events ≡ false → IsPlain acts s.context.acts s.reactor was.left events
plain_from acts items told [] s was legal whole works goes = elim whole.over [
  | inl closed ↦ absurd (let same = was.closings in omega (arith, closed, same))
  | inr failed ↦ absurd (let wrong : false ≡ true = sym was.turns.working ∙ failed in cc)
]
plain_from acts items told (event.Ended ∷ events) s was legal whole works goes =
    plain_at_end acts items told events s was legal.0 legal.1 (or_parts (is_fault event.Ended) (list_any is_fault events) works).1
    (or_parts (is_outside_stop event.Ended) (list_any is_outside_stop events) goes).1
plain_from acts items told (e ∷ events) s was legal whole works goes =
    let no_fault = or_parts (is_fault e) (list_any is_fault events) works in
    let no_stop = or_parts (is_outside_stop e) (list_any is_outside_stop events) goes in
    let next : State = after_event (session_of acts) told s e in
    let step = step_on acts items told s was e legal.0 no_fault.0 no_stop.0 refl in
    plain_before acts s.context.acts next.context.acts s.reactor next.reactor was.left step.going.left e events
    (step_tells acts s was e next step)
    (plain_from acts items told events next step.going legal.1 whole no_fault.1 no_stop.1)
