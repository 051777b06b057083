-- A history and its first events.
use Rattle.std.proofs.Common.{◌≡◌, ◌<◌, ◌≤◌, ◌+◌, ℕ, suc, Bool, List, [], ◌∷◌, ◌++◌, length, take, drop, get_or, refl, arith, ap, sym, subst, ◌∙◌, ◌⊎◌, inl, inr}
use Rattle.std.specs.Prelude.{◌↔◌}
use Rattle.std.proofs.Math.Seq.{split_at}
use Rattle.std.proofs.lemmas.Bool.{cases_lt}
use Rattle.std.proofs.lemmas.List.{length-take-le, take_more}
use Rattle.asio_types.specs.declared.event.Event.{Event}
use Rattle.history_rules.specs.Legal.{IsLegalFrom, IsLegalSoFar, MayHappen, after_event, state_from, state_of}
use Rattle.history_rules.specs.State.{State, first_state}
use Rattle.session_script.specs.Script.{ScriptModel}
use Rattle.trace_check.specs.Verdict.{IsIllegalAt, IsVerdict}
use Rattle.trace_check.specs.declared.verdict.Verdict.{Verdict}
use Rattle.trace_check.specs.declared.verdict.Verdict.TheVariants as verdict

-- the state after events and then others
state_through : (script : ScriptModel) (told : Bool) (s : State) (before after : List Event) →
    state_from script told s (before ++ after) ≡ state_from script told (state_from script told s before) after
state_through script told s [] after = refl
state_through script told s (first ∷ before) after =
    state_through script told (after_event script told s first) before after

-- events that are legal, and then others that are legal after them
legal_through : (script : ScriptModel) (told : Bool) (s : State) (before after : List Event) →
    IsLegalFrom script told s before → IsLegalFrom script told (state_from script told s before) after →
    IsLegalFrom script told s (before ++ after)
legal_through script told s [] after legal more = more
legal_through script told s (first ∷ before) after legal more =
    (legal.0, legal_through script told (after_event script told s first) before after legal.1 more)

-- what stands in a legal history may happen where it stands
may_within : (script : ScriptModel) (told : Bool) (s : State) (before after : List Event) (event : Event) →
    IsLegalFrom script told s (before ++ event ∷ after) → MayHappen script told (state_from script told s before) event
may_within script told s [] after event legal = legal.0
may_within script told s (first ∷ before) after event legal =
    may_within script told (after_event script told s first) before after event legal.1

-- what may happen in a state, and the state after it, known by equations
pub may_here : (script script' : ScriptModel) (told told' : Bool) (s s' : State) (event : Event) → script ≡ script' →
    told ≡ told' → s ≡ s' → MayHappen script told s event ↔ MayHappen script' told' s' event
may_here script script' told told' s s' event same_script same_told same_state =
    let Q : ScriptModel → Bool → State → Type 0 = λ a b c. MayHappen script told s event ↔ MayHappen a b c event in
    subst (λ a. Q a told' s') same_script
    (subst (λ b. Q script b s') same_told (subst (λ c. Q script told c) same_state (λ may. may, λ may. may)))

pub after_here : (script script' : ScriptModel) (told told' : Bool) (s s' : State) (event : Event) → script ≡ script' →
    told ≡ told' → s ≡ s' → after_event script told s event ≡ after_event script' told' s' event
after_here script script' told told' s s' event same_script same_told same_state =
    ap (λ a. after_event a told s event) same_script ∙ ap (λ b. after_event script' b s event) same_told
    ∙ ap (λ c. after_event script' told' c event) same_state

-- the state after one event more
pub state_more : (script : ScriptModel) (told : Bool) (events : List Event) (i : ℕ) (d : Event) → i < length events →
    state_of script told (take (i + 1) events)
    ≡ after_event script told (state_of script told (take i events)) (get_or events i d)
state_more script told events i d below =
    ap (state_of script told) (take_more events i d below)
    ∙ state_through script told (first_state script told) (take i events) (get_or events i d ∷ [])

-- an event more that may happen
pub legal_more : (script : ScriptModel) (told : Bool) (events : List Event) (i : ℕ) (d : Event) → i < length events →
    IsLegalSoFar script told (take i events) →
    MayHappen script told (state_of script told (take i events)) (get_or events i d) →
    IsLegalSoFar script told (take (i + 1) events)
legal_more script told events i d below legal may =
    subst (IsLegalSoFar script told) (sym (take_more events i d below))
    (legal_through script told (first_state script told) (take i events) (get_or events i d ∷ []) legal (may, tt))

-- an event that may not happen after the legal ones before it
pub illegal_at : (script : ScriptModel) (told : Bool) (events : List Event) (i : ℕ) (d : Event) → i < length events →
    IsLegalSoFar script told (take i events) →
    (MayHappen script told (state_of script told (take i events)) (get_or events i d) → ⊥) →
    IsIllegalAt script told events (i + 1)
illegal_at script told events i d below legal none =
    record {
      before = take i events;
      event = get_or events i d;
      after = drop (suc i) events;
      stands = split_at events i d below;
      counted = omega (arith, length-take-le i events (omega (arith, below)));
      legal = legal;
      illegal = none;
    }

-- a legal beginning has no event that may not happen
not_legal : (script : ScriptModel) (told : Bool) (events : List Event) (number : ℕ) → IsLegalSoFar script told events →
    IsIllegalAt script told events number → ⊥
not_legal script told events number legal illegal =
    illegal.illegal (may_within script told (first_state script told) illegal.before illegal.after illegal.event
    (subst (IsLegalSoFar script told) illegal.stands legal))

-- the events before a later place have those of an earlier place and the event there in front
earlier_stands : (events before after before' after' : List Event) (event event' : Event) →
    events ≡ before ++ event ∷ after → events ≡ before' ++ event' ∷ after' → length before < length before' →
    (rest : List Event) × (before' ≡ before ++ event ∷ rest)
earlier_stands events [] after [] after' event event' at at' less = absurd (omega (arith, less))
earlier_stands events [] after (first ∷ before') after' event event' at at' less =
    let same : event ∷ after ≡ first ∷ (before' ++ event' ∷ after') = sym at ∙ at' in
    let head : event ≡ first = cc in (before', ap (λ e. e ∷ before') (sym head))
earlier_stands events (first ∷ before) after [] after' event event' at at' less = absurd (omega (arith, less))
earlier_stands events (first ∷ before) after (first' ∷ before') after' event event' at at' less =
    let same : first ∷ (before ++ event ∷ after) ≡ first' ∷ (before' ++ event' ∷ after') = sym at ∙ at' in
    let head : first ≡ first' = cc in
    let tail : before ++ event ∷ after ≡ before' ++ event' ∷ after' = cc in
    let more =
    earlier_stands (before ++ event ∷ after) before after before' after' event event' refl tail (omega (arith, less)) in
    (more.0, ap (λ e. e ∷ before') (sym head) ∙ ap (λ es. first ∷ es) more.1)

-- no event before one that may not happen may not happen
not_earlier : (script : ScriptModel) (told : Bool) (events : List Event) (n m : ℕ) → IsIllegalAt script told events n →
    IsIllegalAt script told events m → n < m → ⊥
not_earlier script told events n m one other less =
    let found =
    earlier_stands events one.before one.after other.before other.after one.event other.event one.stands other.stands
    (omega (arith, one.counted, other.counted, less)) in
    one.illegal (may_within script told (first_state script told) one.before found.0 one.event
    (subst (IsLegalSoFar script told) found.1 other.legal))

same_number : (script : ScriptModel) (told : Bool) (events : List Event) (n m : ℕ) → IsIllegalAt script told events n →
    IsIllegalAt script told events m → n ≡ m
same_number script told events n m one other = by_order (cases_lt n m) (cases_lt m n)
  where
    by_order : (n < m) ⊎ (m ≤ n) → (m < n) ⊎ (n ≤ m) → n ≡ m
    by_order (inl less) second = absurd (not_earlier script told events n m one other less)
    by_order (inr below) (inl less) = absurd (not_earlier script told events m n other one less)
    by_order (inr below) (inr above) = omega (arith, below, above)

-- no events have two verdicts
pub one_verdict : (script : ScriptModel) (told : Bool) (events : List Event) (first second : Verdict) →
    IsVerdict script told events first → IsVerdict script told events second → first ≡ second
one_verdict script told events verdict.Legal verdict.Legal one other = refl
one_verdict script told events verdict.Legal (verdict.Illegal m) one other =
    absurd (not_legal script told events m one.legal other)
one_verdict script told events verdict.Legal verdict.Incomplete one other = absurd (other.unfinished one.whole)
one_verdict script told events (verdict.Illegal n) verdict.Legal one other =
    absurd (not_legal script told events n other.legal one)
one_verdict script told events (verdict.Illegal n) (verdict.Illegal m) one other =
    ap verdict.Illegal (same_number script told events n m one other)
one_verdict script told events (verdict.Illegal n) verdict.Incomplete one other =
    absurd (not_legal script told events n other.legal one)
one_verdict script told events verdict.Incomplete verdict.Legal one other = absurd (one.unfinished other.whole)
one_verdict script told events verdict.Incomplete (verdict.Illegal m) one other =
    absurd (not_legal script told events m one.legal other)
one_verdict script told events verdict.Incomplete verdict.Incomplete one other = refl
