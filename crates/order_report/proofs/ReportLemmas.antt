-- Texts of histories, one after another, and what was written of a script.
use Rattle.std.proofs.Common.{◌≡◌, ◌<◌, ◌+◌, ℕ, suc, zero, Bool, true, false, List, [], ◌∷◌, ◌++◌, Option, length, take, get_or, arith, ap, sym, subst, append_assoc, ◌∙◌}
use Rattle.std.proofs.lemmas.List.{append-nil}
use Rattle.std.specs.Prelude.{IfNone, IfSome}
use Rattle.asio_types.proofs.SinkLemmas.{extends_more}
use Rattle.asio_types.specs.Sink.{Extends}
use Rattle.history_book.specs.History.{Recorded}
use Rattle.order_questions.specs.Handlers.{AreCutOff, AreHandlerOrders, HasAllHandlerOrders}
use Rattle.order_report.specs.Report.{AreHandlersListed, IsCounted, IsListed, IsListing, bounds_of, count_text, listed_text, order_text, orders_text, reactor_of, states_of}
use Rattle.order_report.specs.Session.{HasWritten}
use Rattle.session_orders.specs.Bound.{HasBeginnings, IsCutOff}
use Rattle.session_orders.specs.Count.{HasOrderCount}
use Rattle.session_orders.specs.Listed.{Listed, events_in}
use Rattle.session_orders.specs.Order.{AreOrders, HasAllOrders}
use Rattle.session_orders.specs.declared.bounds.Bounds.{Bounds}
use Rattle.session_orders.specs.declared.bounds.ReactorKind.{ReactorKind}
use Rattle.session_script.specs.Script.{ScriptModel}
use Rattle.asio_types.specs.declared.event.Event.{Event}

orders_suc : (hs : List Recorded) (i : ℕ) (d : Recorded) → i < length hs →
    orders_text (take (suc i) (events_in hs)) ≡ orders_text (take i (events_in hs)) ++ order_text (get_or hs i d).events
orders_suc [] i d below = absurd (omega (arith, below))
orders_suc (h ∷ hs) zero d below = append-nil (order_text h.events)
orders_suc (h ∷ hs) (suc i) d below =
    ap (λ t. order_text h.events ++ t) (orders_suc hs i d (omega (arith, below)))
    ∙ sym (append_assoc (order_text h.events) (orders_text (take i (events_in hs))) (order_text (get_or hs i d).events))

-- one history more is written
pub orders_more : (first second third : Option (List ℕ)) (hs : List Recorded) (i : ℕ) (one : Recorded) →
    i < length hs → one ≡ get_or hs i one → Extends first (orders_text (take i (events_in hs))) second →
    Extends second (order_text one.events) third → Extends first (orders_text (take (i + 1) (events_in hs))) third
orders_more first second third hs i one below is before next =
    let more : suc i ≡ i + 1 = omega arith in
    let text : orders_text (take i (events_in hs)) ++ order_text one.events ≡ orders_text (take (i + 1) (events_in hs)) =
    ap (λ h. orders_text (take i (events_in hs)) ++ order_text h.events) is ∙ sym (orders_suc hs i one below)
    ∙ ap (λ n. orders_text (take n (events_in hs))) more in
    subst (λ t. Extends first t third) text
    (extends_more first second third (orders_text (take i (events_in hs))) (order_text one.events) before next)

-- what was written

pub is_listing : (script : ScriptModel) (bounds is : Bounds) (listed : Listed) → bounds ≡ is →
    AreOrders script bounds.reactor listed.orders →
    (listed.all ≡ true → HasAllOrders script bounds.reactor listed.orders) →
    (listed.all ≡ false → IsCutOff script bounds listed.orders) → IsListing script is listed
is_listing script bounds is listed same right whole cut =
    let here : IsListing script bounds listed = record { right = right; whole = whole; cut = cut } in
    subst (λ b. IsListing script b listed) same here

pub listed_written : (script : ScriptModel) (bounds is : Bounds) (listed : Listed) (shown : List (List Event)) (all : Bool)
    (before after : Option (List ℕ)) → bounds ≡ is → AreOrders script bounds.reactor listed.orders →
    (listed.all ≡ true → HasAllOrders script bounds.reactor listed.orders) →
    (listed.all ≡ false → IsCutOff script bounds listed.orders) → shown ≡ listed.orders → all ≡ listed.all →
    Extends before (listed_text (record { orders = shown; all = all })) after → HasWritten (IsListed script is) before after
listed_written script bounds is listed shown all before after same right whole cut same_orders same_all written =
    record {
      text = listed_text (record { orders = shown; all = all });
      is =
          record {
            listed = listed;
            is_listing = is_listing script bounds is listed same right whole cut;
            is_text =
                ap (λ orders. listed_text (record { orders = orders; all = all })) same_orders
                ∙ ap (λ all. listed_text (record { orders = listed.orders; all = all })) same_all;
          };
      written = written;
    }

pub handlers_written : (script : ScriptModel) (bounds is : Bounds) (lists shown : List (List Event)) (all : Bool)
    (before after : Option (List ℕ)) → bounds ≡ is → AreHandlerOrders script bounds.reactor lists →
    (all ≡ true → HasAllHandlerOrders script bounds.reactor lists) → (all ≡ false → AreCutOff script bounds lists) →
    shown ≡ lists → Extends before (listed_text (record { orders = shown; all = all })) after →
    HasWritten (AreHandlersListed script is) before after
handlers_written script bounds is lists shown all before after same right whole cut same_lists written =
    let text = listed_text (record { orders = shown; all = all }) in
    let here : AreHandlersListed script bounds text = record {
      listed = record { orders = lists; all = all };
      right = right;
      whole = whole;
      cut = cut;
      is_text = ap (λ orders. listed_text (record { orders = orders; all = all })) same_lists;
    } in
    record { text = text; is = subst (λ b. AreHandlersListed script b text) same here; written = written }

pub counted_written : (script : ScriptModel) (told : Bool) (reactor : ReactorKind) (states most : ℕ) (counted : Option ℕ)
    (bounds : Bounds) (listed : Listed) (shown : List (List Event)) (before after : Option (List ℕ)) →
    reactor ≡ reactor_of told → states ≡ states_of most → IfSome counted (HasOrderCount script reactor) →
    IfNone counted (HasBeginnings script reactor states) → bounds ≡ bounds_of told 1 →
    AreOrders script bounds.reactor listed.orders →
    (listed.all ≡ true → HasAllOrders script bounds.reactor listed.orders) →
    (listed.all ≡ false → IsCutOff script bounds listed.orders) → shown ≡ listed.orders →
    Extends before (count_text counted states shown) after → HasWritten (IsCounted script told (states_of most)) before after
counted_written script told reactor states most counted bounds listed shown before after same_reactor same_states number
    past same right whole cut same_orders written =
    let text = count_text counted states shown in
    let here : IsCounted script told states text = record {
      counted = counted;
      is_number = subst (λ r. IfSome counted (HasOrderCount script r)) same_reactor number;
      is_past = subst (λ r. IfNone counted (HasBeginnings script r states)) same_reactor past;
      shown = listed;
      is_listing = is_listing script bounds (bounds_of told 1) listed same right whole cut;
      is_text = ap (count_text counted states) same_orders;
    } in
    record { text = text; is = subst (λ n. IsCounted script told n text) same_states here; written = written }
