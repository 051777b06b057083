-- What the command writes of a script.
use Rattle.std.specs.Prelude.{◌≡◌, ◌<◌, ◌-◌, ◌^◌, ℕ, min, Bool, true, false, List, ◌++◌, Option, Some, None, IfNone, IfSome, length, codes, if◌then◌else◌}
use Rattle.std.specs.Fmt.{decimal}
use Rattle.std.specs.List.{flat_map}
use Rattle.asio_types.specs.declared.event.Event.{Event}
use Rattle.history_book.specs.Trace.{line_end, trace_of}
use Rattle.order_questions.specs.Answer.{IsAnswer, order_at}
use Rattle.order_questions.specs.Handlers.{AreCutOff, AreHandlerOrders, HasAllHandlerOrders}
use Rattle.order_questions.specs.declared.asking.Answer.{Answer}
use Rattle.order_questions.specs.declared.asking.Answer.TheVariants as answer
use Rattle.order_questions.specs.declared.condition.Condition.{Condition}
use Rattle.order_report.specs.declared.form.Task.{Task}
use Rattle.order_report.specs.declared.form.Task.TheVariants as task
use Rattle.session_orders.specs.Bound.{HasBeginnings, IsCutOff}
use Rattle.session_orders.specs.Count.{HasOrderCount}
use Rattle.session_orders.specs.Listed.{Listed}
use Rattle.session_orders.specs.Order.{AreOrders, HasAllOrders}
use Rattle.session_orders.specs.declared.bounds.Bounds.{Bounds}
use Rattle.session_orders.specs.declared.bounds.ReactorKind.{ReactorKind}
use Rattle.session_script.specs.Script.{ScriptModel}

-- a line of words and a number
abbrev pub number_line : List ℕ → ℕ → List ℕ
number_line words number = words ++ decimal number ++ line_end

-- a trace, behind the line that parts it from what stands before it
abbrev pub order_text : List Event → List ℕ
order_text events = codes "--" ++ line_end ++ trace_of events

abbrev pub orders_text : List (List Event) → List ℕ
orders_text orders = flat_map order_text orders

-- how many histories there are, and some of them; or that they weren't counted within so many states
abbrev pub count_text : Option ℕ → ℕ → List (List Event) → List ℕ
count_text (Some n) states shown = number_line (codes "orders ") n ++ orders_text shown
count_text None states shown = number_line (codes "not counted, states ") states

abbrev pub word_of : Bool → List ℕ
word_of all = if all then codes "orders " else codes "not all, orders "

-- how many were listed, whether they are all, and each of them
abbrev pub listed_text : Listed → List ℕ
listed_text listed =
    number_line (word_of listed.all) (length listed.orders) ++ orders_text listed.orders

abbrev pub answer_text : Listed → Answer → List ℕ
answer_text listed (answer.Yes at) = codes "yes" ++ line_end ++ order_text (order_at listed.orders at)
answer_text listed answer.Never = number_line (codes "never, orders ") (length listed.orders)
answer_text listed answer.Undecided = number_line (codes "not decided, orders ") (length listed.orders)

-- the history of an answer is there
abbrev pub IsWithin : Listed → Answer → Type 0
IsWithin listed (answer.Yes at) = at < length listed.orders
IsWithin listed _ = Unit {0}

-- the reactor that is asked about: it doesn't fail
abbrev pub reactor_of : Bool → ReactorKind
reactor_of told = record { told = told; failing = false }

-- the bounds of a list of so many histories
abbrev pub bounds_of : Bool → ℕ → Bounds
bounds_of told most = record {
  reactor = reactor_of told;
  histories = most;
  beginnings = 1000000000;
}

-- how many states are looked at for a count
abbrev pub states_of : ℕ → ℕ
states_of most = min most (2 ^ 32 - 1)

-- the histories are legal whole ones, none of them twice, and where it is said all of them; else a
-- bound was reached
pub record IsListing (script : ScriptModel) (bounds : Bounds) (listed : Listed) : Type 0 where
  pub right : AreOrders script bounds.reactor listed.orders
  pub whole : listed.all ≡ true → HasAllOrders script bounds.reactor listed.orders
  pub cut : listed.all ≡ false → IsCutOff script bounds listed.orders

-- the histories are counted, and one is shown; or more beginnings than so many lead to them
pub record IsCounted (script : ScriptModel) (told : Bool) (states : ℕ) (text : List ℕ) : Type 0 where
  pub counted : Option ℕ
  pub is_number : IfSome counted (HasOrderCount script (reactor_of told))
  pub is_past : IfNone counted (HasBeginnings script (reactor_of told) states)
  pub shown : Listed
  pub is_listing : IsListing script (bounds_of told 1) shown
  pub is_text : text ≡ count_text counted states shown.orders

pub record IsListed (script : ScriptModel) (bounds : Bounds) (text : List ℕ) : Type 0 where
  pub listed : Listed
  pub is_listing : IsListing script bounds listed
  pub is_text : text ≡ listed_text listed

-- the begins, ends and drops of histories are listed, each list of these once
pub record AreHandlersListed (script : ScriptModel) (bounds : Bounds) (text : List ℕ) : Type 0 where
  pub listed : Listed
  pub right : AreHandlerOrders script bounds.reactor listed.orders
  pub whole : listed.all ≡ true → HasAllHandlerOrders script bounds.reactor listed.orders
  pub cut : listed.all ≡ false → AreCutOff script bounds listed.orders
  pub is_text : text ≡ listed_text listed

pub record IsAnswered (script : ScriptModel) (bounds : Bounds) (condition : Condition)
    (text : List ℕ) : Type 0 where
  pub listed : Listed
  pub answer : Answer
  pub is_listing : IsListing script bounds listed
  pub is_answer : IsAnswer script bounds.reactor condition listed answer
  pub is_text : text ≡ answer_text listed answer

-- the text is right of the script
abbrev pub IsReport : ScriptModel → Bool → ℕ → Task → List ℕ → Type 0
IsReport script told most task.Count text = IsCounted script told (states_of most) text
IsReport script told most task.List text = IsListed script (bounds_of told most) text
IsReport script told most task.Handlers text = AreHandlersListed script (bounds_of told most) text
IsReport script told most (task.Can condition) text =
    IsAnswered script (bounds_of told most) condition text
