-- Whether events meet a condition, place by place.
use Rattle.std.proofs.Common.{◌≡◌, ◌<◌, ◌≤◌, ◌+◌, inl, inr, ℕ, List, Some, length, get_or, slice_get, arith, ap, sym, subst, ◌∙◌}
use Rattle.std.proofs.lemmas.Bool.{cases_lt}
use Rattle.std.proofs.lemmas.Option.{get_or_from_slice_get, slice_get-get_or, slice_get_within}
use Rattle.asio_types.specs.declared.event.Event.{Event}
use Rattle.order_questions.specs.Condition.{HappensFrom, StandsBefore}
use Rattle.order_questions.specs.Sign.{Shows}
use Rattle.order_questions.specs.declared.sign.Sign.{Sign}

-- no event from a place to another shows this
abbrev pub NoneFrom : Sign → List Event → ℕ → ℕ → Type 0
NoneFrom shown events from upto =
    (at : ℕ) → from ≤ at → at < upto → (event : Event) → slice_get events at ≡ Some event → Shows shown event → ⊥

-- no event below a place shows the first before one that shows the second
abbrev pub NoneBefore : Sign → Sign → List Event → ℕ → Type 0
NoneBefore first second events upto =
    (at : ℕ) → at < upto → (event : Event) → slice_get events at ≡ Some event → Shows first event →
    HappensFrom second events (at + 1) → ⊥

pub none_more : (shown : Sign) (events : List Event) (from i : ℕ) (d : Event) → NoneFrom shown events from i →
    (Shows shown (get_or events i d) → ⊥) → NoneFrom shown events from (i + 1)
none_more shown events from i d none here at above below event stands shows =
    elim (cases_lt at i) [
      | inl less ↦ none at above less event stands shows
      | inr more ↦
          let same : at ≡ i = omega (arith, below, more) in
          let is : event ≡ get_or events i d =
          sym (get_or_from_slice_get events at event d stands) ∙ ap (λ n. get_or events n d) same in
          here (subst (Shows shown) is shows)
    ]

pub none_at_all : (shown : Sign) (events : List Event) (from upto : ℕ) → NoneFrom shown events from upto →
    length events ≤ upto → HappensFrom shown events from → ⊥
none_at_all shown events from upto none past happens =
    let within = slice_get_within events happens.at happens.event happens.stands in
    none happens.at happens.above (omega (arith, within, past)) happens.event happens.stands happens.shows

pub happens_at : (shown : Sign) (events : List Event) (from i : ℕ) (d : Event) → from ≤ i → i < length events →
    Shows shown (get_or events i d) → HappensFrom shown events from
happens_at shown events from i d above below shows =
    record { at = i; above = above; event = get_or events i d; stands = slice_get-get_or events i d below; shows = shows }

pub none_before_more : (first second : Sign) (events : List Event) (i : ℕ) (d : Event) →
    NoneBefore first second events i →
    (Shows first (get_or events i d) → HappensFrom second events (i + 1) → ⊥) →
    NoneBefore first second events (i + 1)
none_before_more first second events i d none here at below event stands shows later =
    elim (cases_lt at i) [
      | inl less ↦ none at less event stands shows later
      | inr more ↦
          let same : at ≡ i = omega (arith, below, more) in
          let is : event ≡ get_or events i d =
          sym (get_or_from_slice_get events at event d stands) ∙ ap (λ n. get_or events n d) same in
          here (subst (Shows first) is shows) (subst (λ n. HappensFrom second events (n + 1)) same later)
    ]

pub none_before_at_all : (first second : Sign) (events : List Event) (upto : ℕ) →
    NoneBefore first second events upto → length events ≤ upto → StandsBefore first second events → ⊥
none_before_at_all first second events upto none past before =
    let within = slice_get_within events before.at before.event before.stands in
    none before.at (omega (arith, within, past)) before.event before.stands before.shows before.later

pub before_at : (first second : Sign) (events : List Event) (i : ℕ) (d : Event) → i < length events →
    Shows first (get_or events i d) → HappensFrom second events (i + 1) → StandsBefore first second events
before_at first second events i d below shows later =
    record { at = i; event = get_or events i d; stands = slice_get-get_or events i d below; shows = shows; later = later }
