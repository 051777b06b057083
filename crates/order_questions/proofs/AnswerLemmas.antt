-- The best of the listed histories, one by one, and what it answers.
use Rattle.std.proofs.Common.{◌≡◌, ◌<◌, ◌≤◌, ◌+◌, inl, inr, ℕ, suc, zero, Bool, true, List, [], ◌∷◌, Some, None, length, get_or, arith, ap, sym, subst, ◌∙◌}
use Rattle.std.specs.Prelude.{Contains, Option}
use Rattle.std.proofs.lemmas.Bool.{cases_lt}
use Rattle.std.proofs.lemmas.List.{get_or_default}
use Rattle.std.proofs.lemmas.List.Elements.{All-get_or}
use Rattle.asio_types.specs.declared.event.Event.{Event}
use Rattle.history_book.specs.History.{Recorded}
use Rattle.session_script.specs.Script.{ScriptModel}
use Rattle.order_questions.specs.Answer.{AnswersListed, IsAnswer, IsBest, order_at}
use Rattle.order_questions.specs.Condition.{Meets}
use Rattle.session_orders.specs.declared.bounds.ReactorKind.{ReactorKind}
use Rattle.session_orders.specs.Listed.{Listed, events_in}
use Rattle.session_orders.specs.Order.{AreOrders, HasAllOrders, IsOrder}
use Rattle.order_questions.specs.declared.condition.Condition.{Condition}
use Rattle.order_questions.specs.declared.asking.Answer.{Answer}
use Rattle.order_questions.specs.declared.asking.Answer.TheVariants as answer

-- the events of the history with a number
pub order_in : (histories : List Recorded) (i : ℕ) (history : Recorded) → i < length histories →
    history ≡ get_or histories i history → order_at (events_in histories) i ≡ history.events
order_in [] i history below is = absurd (omega (arith, below))
order_in (first ∷ histories) zero history below is = ap (λ h. h.events) (sym is)
order_in (first ∷ histories) (suc i) history below is = order_in histories i history (omega (arith, below)) is

-- what holds below a number and at it holds below the next
pub one_more_order : (P : ℕ → Type 0) (i : ℕ) → ((other : ℕ) → other < i → P other) → P i → (other : ℕ) → other < i + 1 →
    P other
one_more_order P i all here other below =
    elim (cases_lt other i) [
      | inl less ↦ all other less
      | inr more ↦ let same : i ≡ other = omega (arith, below, more) in subst P same here
    ]

pub best_same : (condition : Condition) (orders : List (List Event)) (i : ℕ) (best : Option ℕ) →
    IsBest condition orders i best → (Meets condition (order_at orders i) → ⊥) → IsBest condition orders (i + 1) best
best_same condition orders i None best none =
    one_more_order (λ n. Meets condition (order_at orders n) → ⊥) i best none
best_same condition orders i (Some at) best none =
    record {
      within = omega (arith, best.within);
      meets = best.meets;
      least =
          one_more_order
          (λ n. Meets condition (order_at orders n) → length (order_at orders at) ≤ length (order_at orders n)) i best.least
          (λ meets. absurd (none meets));
    }

pub best_first : (condition : Condition) (orders : List (List Event)) (i : ℕ) → IsBest condition orders i None →
    Meets condition (order_at orders i) → IsBest condition orders (i + 1) (Some i)
best_first condition orders i none here =
    record {
      within = omega arith;
      meets = here;
      least =
          one_more_order
          (λ n. Meets condition (order_at orders n) → length (order_at orders i) ≤ length (order_at orders n)) i
          (λ other less meets. absurd (none other less meets)) (λ meets. omega arith);
    }

pub best_shorter : (condition : Condition) (orders : List (List Event)) (i at : ℕ) → IsBest condition orders i (Some at) →
    Meets condition (order_at orders i) → length (order_at orders i) < length (order_at orders at) →
    IsBest condition orders (i + 1) (Some i)
best_shorter condition orders i at best here shorter =
    record {
      within = omega arith;
      meets = here;
      least =
          one_more_order
          (λ n. Meets condition (order_at orders n) → length (order_at orders i) ≤ length (order_at orders n)) i
          (λ other less meets. let least = best.least other less meets in omega (arith, least, shorter))
          (λ meets. omega arith);
    }

pub best_kept : (condition : Condition) (orders : List (List Event)) (i at : ℕ) → IsBest condition orders i (Some at) →
    length (order_at orders at) ≤ length (order_at orders i) → IsBest condition orders (i + 1) (Some at)
best_kept condition orders i at best longer =
    record {
      within = omega (arith, best.within);
      meets = best.meets;
      least =
          one_more_order
          (λ n. Meets condition (order_at orders n) → length (order_at orders at) ≤ length (order_at orders n)) i best.least
          (λ meets. longer);
    }

-- what all listed histories say, all histories say
of_all : (condition : Condition) (orders : List (List Event)) (events : List Event) (P : List Event → Type 0) →
    ((other : ℕ) → other < length orders → Meets condition (order_at orders other) → P (order_at orders other)) →
    Contains orders events → Meets condition events → P events
of_all condition orders events P each found meets =
    let is : order_at orders found.0 ≡ events = get_or_default orders found.0 [] events found.1 ∙ found.2 in
    subst P is (each found.0 found.1 (subst (Meets condition) (sym is) meets))

pub is_answer : (script : ScriptModel) (reactor : ReactorKind) (condition : Condition) (listed : Listed) (answer : Answer) →
    AreOrders script reactor listed.orders → (listed.all ≡ true → HasAllOrders script reactor listed.orders) →
    AnswersListed condition listed answer → IsAnswer script reactor condition listed answer
is_answer script reactor condition listed (answer.Yes at) right whole best =
    record {
      order = All-get_or (IsOrder script reactor) listed.orders at [] best.within right.each;
      shortest = best;
      least =
          λ all other order meets.
          of_all condition listed.orders other (λ events. length (order_at listed.orders at) ≤ length events) best.least
          (whole all other order) meets;
    }
is_answer script reactor condition listed answer.Never right whole none =
    record {
      all = none.0;
      none =
          λ events order meets.
          of_all condition listed.orders events (λ _. ⊥) none.1 (whole none.0 events order) meets;
    }
is_answer script reactor condition listed answer.Undecided right whole none = none
