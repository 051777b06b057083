-- What the first histories have, one by one.
use Rattle.std.proofs.Common.{◌≡◌, ◌<◌, ◌+◌, ℕ, Bool, List, [], ◌∷◌, ◌++◌, length, get_or, take, arith, ap, refl, sym, subst, ◌∙◌}
use Rattle.std.specs.Prelude.{◌≢◌, Contains}
use Rattle.std.proofs.lemmas.List.{get_or_default, length-map, map-append}
use Rattle.std.proofs.lemmas.List.Elements.{All-get_or, All-nil, All-push, All-weaker, Contains-append_left, Contains-get_or, Contains-push, filter_more}
use Rattle.std.proofs.lemmas.List.Quantifiers.{all_pairs_push}
use Rattle.asio_types.specs.declared.event.Event.{Event}
use Rattle.history_book.specs.History.{Recorded}
use Rattle.session_script.specs.Script.{ScriptModel}
use Rattle.order_questions.specs.Answer.{order_at}
use Rattle.order_questions.specs.Handlers.{AreHandlerOrders, AreHandlersOf, HasAllHandlerOrders, IsHandlerOrder, IsShown, handlers_in, is_handler}
use Rattle.order_questions.proofs.AnswerLemmas.{one_more_order, order_in}
use Rattle.session_orders.specs.declared.bounds.ReactorKind.{ReactorKind}
use Rattle.session_orders.specs.Listed.{events_in}
use Rattle.session_orders.specs.Order.{AreOrders, HasAllOrders, IsOrder}

-- one event more
pub shown_more : (events before after : List Event) (i : ℕ) (d : Event) → i < length events →
    before ≡ handlers_in (take i events) → after ≡ before ++ handlers_in (get_or events i d ∷ []) →
    after ≡ handlers_in (take (i + 1) events)
shown_more events before after i d below is next =
    next ∙ ap (λ es. es ++ handlers_in (get_or events i d ∷ [])) is ∙ sym (filter_more is_handler events i d below)

-- none of the first lists is this one
abbrev pub NoneIs : List Recorded → List Event → ℕ → Type 0
NoneIs lists shown count = (k : ℕ) → k < count → order_at (events_in lists) k ≡ shown → ⊥

pub none_more : (lists : List Recorded) (shown : List Event) (i : ℕ) (one : Recorded) → i < length lists →
    one ≡ get_or lists i one → NoneIs lists shown i → (one.events ≡ shown → ⊥) → NoneIs lists shown (i + 1)
none_more lists shown i one below at before new =
    one_more_order (λ n. order_at (events_in lists) n ≡ shown → ⊥) i before
    (λ is. new (sym (order_in lists i one below at) ∙ is))

long : (lists : List Recorded) → length (events_in lists) ≡ length lists
long lists = length-map lists (λ history. history.events)

pub none_there : (lists : List Recorded) (shown : List Event) → NoneIs lists shown (length lists) →
    Contains (events_in lists) shown → ⊥
none_there lists shown none found =
    let far : length (events_in lists) ≡ length lists = long lists in
    let below = found.1 in
    none found.0 (omega (arith, far, below)) (get_or_default (events_in lists) found.0 [] shown below ∙ found.2)

-- one history more

pub handlers_none : (orders : List (List Event)) → AreHandlersOf orders 0 []
handlers_none orders =
    record {
      each = All-nil (IsShown orders 0);
      once = λ i j d less below. absurd (omega (arith, below));
      every = λ at below. absurd (omega (arith, below));
    }

later : (orders : List (List Event)) (i : ℕ) (shown : List Event) → IsShown orders i shown → IsShown orders (i + 1) shown
later orders i shown is = let within = is.within in record { at = is.at; within = omega (arith, within); is = is.is }

pub handlers_known : (orders : List (List Event)) (old slice : List Recorded) (i : ℕ) (shown : List Event) →
    slice ≡ old → shown ≡ handlers_in (order_at orders i) → AreHandlersOf orders i (events_in old) →
    Contains (events_in slice) shown → AreHandlersOf orders (i + 1) (events_in old)
handlers_known orders old slice i shown same is are known =
    let lists : List (List Event) = events_in old in record {
      each = All-weaker (IsShown orders i) (IsShown orders (i + 1)) (later orders i) lists are.each;
      once = are.once;
      every =
          one_more_order (λ n. Contains lists (handlers_in (order_at orders n))) i are.every
          (subst (Contains lists) is (subst (λ xs. Contains (events_in xs) shown) same known));
    }

handlers_new : (orders lists : List (List Event)) (i : ℕ) → AreHandlersOf orders i lists →
    (Contains lists (handlers_in (order_at orders i)) → ⊥) →
    AreHandlersOf orders (i + 1) (lists ++ handlers_in (order_at orders i) ∷ [])
handlers_new orders lists i are new =
    let shown : List Event = handlers_in (order_at orders i) in record {
      each =
          All-push (IsShown orders (i + 1)) lists shown
          (All-weaker (IsShown orders i) (IsShown orders (i + 1)) (later orders i) lists are.each)
          (record { at = i; within = omega arith; is = refl });
      once =
          all_pairs_push (λ first second. first ≢ second) lists shown are.once
          (λ k d below same. new (subst (Contains lists) same (Contains-get_or lists k d below)));
      every =
          one_more_order (λ n. Contains (lists ++ shown ∷ []) (handlers_in (order_at orders n))) i
          (λ n less. Contains-append_left lists (shown ∷ []) (handlers_in (order_at orders n)) (are.every n less))
          (Contains-push lists shown);
    }

pub handlers_joined : (orders : List (List Event)) (old slice new : List Recorded) (i : ℕ) (one : Recorded)
    (shown : List Event) → slice ≡ old → new ≡ old ++ one ∷ [] → shown ≡ one.events →
    one.events ≡ handlers_in (order_at orders i) → AreHandlersOf orders i (events_in old) →
    (Contains (events_in slice) shown → ⊥) → AreHandlersOf orders (i + 1) (events_in new)
handlers_joined orders old slice new i one shown same is shown_is one_is are other =
    let lists : events_in new ≡ events_in old ++ handlers_in (order_at orders i) ∷ [] =
    ap events_in is ∙ map-append (λ history. history.events) old (one ∷ [])
    ∙ ap (λ es. events_in old ++ es ∷ []) one_is in
    subst (AreHandlersOf orders (i + 1)) (sym lists)
    (handlers_new orders (events_in old) i are
    (λ known.
    other
    (subst (λ xs. Contains (events_in xs) shown) (sym same)
    (subst (Contains (events_in old)) (sym (shown_is ∙ one_is)) known))))

-- what all listed histories have, all histories have

pub handler_orders : (script : ScriptModel) (reactor : ReactorKind) (orders lists : List (List Event)) →
    AreOrders script reactor orders → AreHandlersOf orders (length orders) lists → AreHandlerOrders script reactor lists
handler_orders script reactor orders lists right are =
    record {
      each =
          All-weaker (IsShown orders (length orders)) (IsHandlerOrder script reactor)
          (λ shown is.
          record {
            events = order_at orders is.at;
            order = All-get_or (IsOrder script reactor) orders is.at [] is.within right.each;
            is = is.is;
          }) lists are.each;
      once = are.once;
    }

pub all_handler_orders : (script : ScriptModel) (reactor : ReactorKind) (orders lists : List (List Event)) →
    HasAllOrders script reactor orders → AreHandlersOf orders (length orders) lists →
    HasAllHandlerOrders script reactor lists
all_handler_orders script reactor orders lists all are events order =
    let found = all events order in
    let is : order_at orders found.0 ≡ events = get_or_default orders found.0 [] events found.1 ∙ found.2 in
    subst (λ es. Contains lists (handlers_in es)) is (are.every found.0 found.1)
