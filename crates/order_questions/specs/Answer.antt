-- Whether some legal whole history of a script meets a condition.
use Rattle.std.specs.Prelude.{◌≡◌, ◌<◌, ◌≤◌, ℕ, Bool, true, false, List, [], length, Option, Some, None}
use Rattle.std.specs.List.{slice_index_or}
use Rattle.asio_types.specs.declared.event.Event.{Event}
use Rattle.session_orders.specs.declared.bounds.ReactorKind.{ReactorKind}
use Rattle.session_orders.specs.Listed.{Listed}
use Rattle.session_orders.specs.Order.{IsOrder}
use Rattle.session_script.specs.Script.{ScriptModel}
use Rattle.order_questions.specs.Condition.{Meets}
use Rattle.order_questions.specs.declared.asking.Answer.{Answer}
use Rattle.order_questions.specs.declared.asking.Answer.TheVariants as answer
use Rattle.order_questions.specs.declared.condition.Condition.{Condition}

-- the history with a number
abbrev pub order_at : List (List Event) → ℕ → List Event
order_at orders n = slice_index_or orders n []

-- of the first histories this one meets the condition, and none that does is shorter
pub record IsShortest (condition : Condition) (orders : List (List Event)) (count at : ℕ) : Type 0 where
  pub within : at < count
  pub meets : Meets condition (order_at orders at)
  pub least : (other : ℕ) → other < count → Meets condition (order_at orders other) →
      length (order_at orders at) ≤ length (order_at orders other)

-- none of the first histories meets the condition
abbrev pub NoneMeets : Condition → List (List Event) → ℕ → Type 0
NoneMeets condition orders count =
    (other : ℕ) → other < count → Meets condition (order_at orders other) → ⊥

-- of the first histories this one is the best, or none meets the condition
abbrev pub IsBest : Condition → List (List Event) → ℕ → Option ℕ → Type 0
IsBest condition orders count None = NoneMeets condition orders count
IsBest condition orders count (Some at) = IsShortest condition orders count at

-- what the listed histories alone answer
abbrev pub AnswersListed : Condition → Listed → Answer → Type 0
AnswersListed condition listed (answer.Yes at) =
    IsShortest condition listed.orders (length listed.orders) at
AnswersListed condition listed answer.Never =
    (listed.all ≡ true) × NoneMeets condition listed.orders (length listed.orders)
AnswersListed condition listed answer.Undecided =
    (listed.all ≡ false) × NoneMeets condition listed.orders (length listed.orders)

-- this legal whole history meets the condition; no shorter one does that is listed, and none at all
-- where all are listed
pub record IsWitness (script : ScriptModel) (reactor : ReactorKind) (condition : Condition)
    (listed : Listed) (at : ℕ) : Type 0 where
  pub order : IsOrder script reactor (order_at listed.orders at)
  pub shortest : IsShortest condition listed.orders (length listed.orders) at
  pub least : listed.all ≡ true → (other : List Event) → IsOrder script reactor other →
      Meets condition other → length (order_at listed.orders at) ≤ length other

-- no legal whole history meets the condition, and all of them were looked at
pub record IsNever (script : ScriptModel) (reactor : ReactorKind) (condition : Condition)
    (listed : Listed) : Type 0 where
  pub all : listed.all ≡ true
  pub none : (events : List Event) → IsOrder script reactor events → Meets condition events → ⊥

abbrev pub IsAnswer : ScriptModel → ReactorKind → Condition → Listed → Answer → Type 0
IsAnswer script reactor condition listed (answer.Yes at) =
    IsWitness script reactor condition listed at
IsAnswer script reactor condition listed answer.Never = IsNever script reactor condition listed
IsAnswer script reactor condition listed answer.Undecided =
    (listed.all ≡ false) × NoneMeets condition listed.orders (length listed.orders)
