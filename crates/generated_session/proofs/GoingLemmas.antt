-- What holds in a session that a number makes from the last call of `open` to the closing of its round, and what one
-- event leaves of what its summary says in the end.
use Rattle.std.proofs.Common.{◌≡◌, ℕ, ◌+◌, false, cond, List, length, map, refl, ap, sym, ◌∙◌, subst}
use Rattle.asio_types.specs.declared.event.Event.{Event}
use Rattle.asio_types.specs.declared.event.Event.TheVariants as event
use Rattle.session_script.specs.Script.{Entry, opening_of}
use Rattle.history_rules.specs.State.{ReactorHalf, State}
use Rattle.history_rules.specs.declared.phase.ActState.{ActState}
use Rattle.generated_session.specs.Generator.{session_of}
use Rattle.generated_session.specs.Summary.{is_abort, is_call, is_drop, time_after}
use Rattle.generated_session.proofs.StatesLemmas.{ActsFit, called_count, ended_sum}
use Rattle.generated_session.proofs.TurnsLemmas.{AreAhead, Turns, to_come, until}
use Rattle.generated_session.proofs.ItemsLemmas.{nth_act}
use Rattle.generated_session.proofs.GatherLemmas.{none_more}

pub record Going (acts : List Entry) (s : State) : Type 0 where
  pub fit : ActsFit acts s.context.acts
  pub made : s.context.opening.made ≡ length (opening_of (session_of acts))
  pub stopped : s.context.stopped ≡ false
  pub closings : s.context.closings ≡ 0
  pub from : ℕ
  pub left : List ℕ
  pub turns : Turns acts s.context.acts s.reactor from left
  pub ahead : AreAhead s.reactor

-- what the operation that ends counts for
abbrev pub end_weight : (ℕ → ℕ) → Event → ℕ
end_weight weight (event.End o mark) = weight o
end_weight weight _ = 0

-- what an event does to the acts
pub record ActStep (acts : List Entry) (old new : List ActState) (e : Event) : Type 0 where
  pub fit : ActsFit acts new
  pub calls : cond (is_call e) 1 0 + called_count old (length acts) ≡ called_count new (length acts)
  pub ends : (weight : ℕ → ℕ) →
      end_weight weight e + ended_sum weight old (length acts) ≡ ended_sum weight new (length acts)

-- what it does to the reactor
pub record TurnStep (acts : List Entry) (new : List ActState) (r : ReactorHalf) (left : List ℕ) (e : Event)
    (next : ReactorHalf) : Type 0 where
  pub from : ℕ
  pub rest : List ℕ
  pub turns : Turns acts new next from rest
  pub ahead : AreAhead next
  pub aborts : to_come r (map (nth_act acts) left) ≡ cond (is_abort e) 1 0 + to_come next (map (nth_act acts) rest)
  pub lasts : until r (map (nth_act acts) left) ≡ until next (map (nth_act acts) rest)
  pub time : next.now ≡ time_after r.now e

pub record Step (acts : List Entry) (s : State) (was : Going acts s) (e : Event) (next : State) : Type 0 where
  pub going : Going acts next
  pub calls : cond (is_call e) 1 0 + called_count s.context.acts (length acts)
      ≡ called_count next.context.acts (length acts)
  pub ends : (weight : ℕ → ℕ) →
      end_weight weight e + ended_sum weight s.context.acts (length acts)
      ≡ ended_sum weight next.context.acts (length acts)
  pub drops : is_drop e ≡ false
  pub aborts : to_come s.reactor (map (nth_act acts) was.left) ≡ cond (is_abort e) 1 0 + to_come next.reactor
      (map (nth_act acts) going.left)
  pub lasts : until s.reactor (map (nth_act acts) was.left) ≡ until next.reactor (map (nth_act acts) going.left)
  pub time : next.reactor.now ≡ time_after s.reactor.now e

pub step_of : (acts : List Entry) (s : State) (was : Going acts s) (e : Event) (next : State) (new : List ActState) →
    next.context.acts ≡ new → next.context.opening.made ≡ s.context.opening.made →
    next.context.stopped ≡ s.context.stopped →
    next.context.closings ≡ s.context.closings → is_drop e ≡ false → ActStep acts s.context.acts new e →
    TurnStep acts new s.reactor was.left e next.reactor → Step acts s was e next
step_of acts s was e next new acts_are made stopped closings drops act turn = record {
  going = record {
    fit = subst (λ (states : List ActState). ActsFit acts states) (sym acts_are) act.fit;
    made = made ∙ was.made;
    stopped = stopped ∙ was.stopped;
    closings = closings ∙ was.closings;
    from = turn.from;
    left = turn.rest;
    turns =
        subst (λ (states : List ActState). Turns acts states next.reactor turn.from turn.rest) (sym acts_are) turn.turns;
    ahead = turn.ahead;
  };
  calls = act.calls ∙ ap (λ (states : List ActState). called_count states (length acts)) (sym acts_are);
  ends = λ weight.
      act.ends weight ∙ ap (λ (states : List ActState). ended_sum weight states (length acts)) (sym acts_are);
  drops = drops;
  aborts = turn.aborts;
  lasts = turn.lasts;
  time = turn.time;
}

-- the reactor does nothing
pub still_turns : (acts : List Entry) (new : List ActState) (r : ReactorHalf) (from : ℕ) (left : List ℕ) (e : Event) →
    is_abort e ≡ false → time_after r.now e ≡ r.now → Turns acts new r from left → AreAhead r →
    TurnStep acts new r left e r
still_turns acts new r from left e aborts time turns ahead = record {
  from = from;
  rest = left;
  turns = turns;
  ahead = ahead;
  aborts =
      none_more (to_come r (map (nth_act acts) left))
      ∙ ap (λ b. cond b 1 0 + to_come r (map (nth_act acts) left)) (sym aborts);
  lasts = refl;
  time = sym time;
}

-- no act changes
pub still_acts : (acts : List Entry) (states : List ActState) (e : Event) → ActsFit acts states → is_call e ≡ false →
    ((weight : ℕ → ℕ) → end_weight weight e ≡ 0) → ActStep acts states states e
still_acts acts states e fit calls ends = record {
  fit = fit;
  calls =
      ap (λ b. cond b 1 0 + called_count states (length acts)) calls
      ∙ sym (none_more (called_count states (length acts)));
  ends =
      λ weight. ap (λ n. n + ended_sum weight states (length acts)) (ends weight)
      ∙ sym (none_more (ended_sum weight states (length acts)));
}
