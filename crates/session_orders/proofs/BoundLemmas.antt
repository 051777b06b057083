-- What a list of histories and a list of beginnings say of a script.
use Rattle.std.proofs.Common.{◌≡◌, ◌<◌, ◌≤◌, ◌+◌, inl, inr, ℕ, suc, zero, List, [], ◌∷◌, ◌++◌, length, length-append, get_or, arith, ap, refl, sym, subst, ◌∙◌}
use Rattle.std.specs.List.{AllPairs}
use Rattle.std.specs.Prelude.{◌≢◌, All, Contains}
use Rattle.std.proofs.Math.Seq.{get_or-append_seam}
use Rattle.std.proofs.lemmas.List.{get_or_append_left, length-map}
use Rattle.std.proofs.lemmas.List.Elements.{All-get_or, All-weaker}
use Rattle.asio_types.specs.declared.event.Event.{Event}
use Rattle.session_orders.specs.Bound.{HasBeginnings, IsBeginning, IsCutOff, IsFull}
use Rattle.history_book.specs.History.{Recorded}
use Rattle.session_orders.specs.Listed.{events_in}
use Rattle.session_orders.specs.declared.bounds.Bounds.{Bounds}
use Rattle.session_orders.specs.Count.{AreOnce, Has, HasOrderCount}
use Rattle.session_orders.specs.Order.{AreOrders, HasAllOrders, IsOrder}
use Rattle.session_orders.specs.Walk.{AreNowSeen, ArePassed, AreSeen}
use Rattle.session_orders.specs.declared.advance.Move.{Move}
use Rattle.session_orders.specs.declared.advance.Move.TheVariants as move
use Rattle.session_orders.specs.declared.bounds.ReactorKind.{ReactorKind}
use Rattle.session_orders.proofs.PassedLemmas.{seen_none}
use Rattle.session_script.specs.Script.{ScriptModel}

-- the last of a list in which no two are the same isn't among the others
missing_before : (xs : List (List Event)) (x : List Event) → AllPairs (λ first second. first ≢ second) (xs ++ x ∷ []) →
    Contains xs x → ⊥
missing_before xs x once found =
    let k = found.0 in
    let below = found.1 in
    let long : length (xs ++ x ∷ []) ≡ length xs + 1 = length-append xs (x ∷ []) in
    once k (length xs) x below (omega (arith, long))
    (get_or_append_left xs (x ∷ []) x k below ∙ found.2 ∙ sym (get_or-append_seam xs x [] x))

last_of : (P : List Event → Type 0) (xs : List (List Event)) (x : List Event) → All P (xs ++ x ∷ []) → P x
last_of P xs x all =
    let long : length (xs ++ x ∷ []) ≡ length xs + 1 = length-append xs (x ∷ []) in
    subst P (get_or-append_seam xs x [] x) (All-get_or P (xs ++ x ∷ []) (length xs) x (omega (arith, long)) all)

-- a walk has come to one more than may be listed
pub full_now : (script : ScriptModel) (kind : ReactorKind) (path : List Event) (place histories : ℕ)
    (listed : List (List Event)) → ArePassed script kind path place (listed ++ path ∷ []) → length listed ≡ histories →
    IsFull script kind histories listed
full_now script kind path place histories listed passed full =
    record {
      full = full;
      other = path;
      order = last_of (IsOrder script kind) listed path passed.orders.each;
      missing = missing_before listed path passed.orders.once;
    }

-- nothing may be listed, and the empty history is whole
pub full_first : (script : ScriptModel) (kind : ReactorKind) (histories : ℕ) (listed : List (List Event)) →
    IsOrder script kind [] → listed ≡ [] → length listed ≡ histories → IsFull script kind histories listed
full_first script kind histories listed order none full =
    record {
      full = full;
      other = [];
      order = order;
      missing = λ found. let below = subst (λ xs. found.0 < length xs) none found.1 in omega (arith, below);
    }

-- as many beginnings as were seen
pub seen_many : (script : ScriptModel) (kind : ReactorKind) (path : List Event) (place least : ℕ)
    (seen : List (List Event)) → AreSeen script kind path place seen → least ≤ length seen →
    HasBeginnings script kind least
seen_many script kind path place least seen before many =
    record { beginnings = seen; each = before.each; once = before.once; many = many }

-- histories are beginnings
pub orders_begin : (script : ScriptModel) (kind : ReactorKind) (orders : List (List Event)) (least : ℕ) →
    AreOrders script kind orders → least ≤ length orders → HasBeginnings script kind least
orders_begin script kind orders least right many =
    record {
      beginnings = orders;
      each =
          All-weaker (IsOrder script kind) (IsBeginning script kind)
          (λ events order. record { legal = order.legal.legal; asked = order.asked }) orders right.each;
      once = right.once;
      many = many;
    }

-- a list of all is a count

has_contained : (xs : List (List Event)) (e : List Event) (k : ℕ) → k < length xs → get_or xs k e ≡ e → Has xs e
has_contained [] e k below is = absurd (omega (arith, below))
has_contained (x ∷ xs) e zero below is = inl (sym is)
has_contained (x ∷ xs) e (suc k) below is = inr (has_contained xs e k (omega (arith, below)) is)

contained_has : (xs : List (List Event)) (e : List Event) → Has xs e → Contains xs e
contained_has [] e has = absurd has
contained_has (x ∷ xs) e (inl is) = (0, omega arith, sym is)
contained_has (x ∷ xs) e (inr later) =
    let found = contained_has xs e later in
    let below = found.1 in
    (suc found.0, omega (arith, below), found.2)

once_paired : (xs : List (List Event)) → AllPairs (λ first second. first ≢ second) xs → AreOnce xs
once_paired [] pairs = tt
once_paired (x ∷ xs) pairs = (
  λ has.
      let found = contained_has xs x has in
      let below = found.1 in
      pairs 0 (suc found.0) x (omega arith) (omega (arith, below)) (sym found.2),
  once_paired xs (λ i j d less below. pairs (suc i) (suc j) d (omega (arith, less)) (omega (arith, below))),
)

pub count_of_all : (script : ScriptModel) (kind : ReactorKind) (orders : List (List Event)) (n : ℕ) →
    AreOrders script kind orders → HasAllOrders script kind orders → n ≡ length orders → HasOrderCount script kind n
count_of_all script kind orders n right all is =
    record {
      lists = orders;
      each =
          λ events has.
          let found = contained_has orders events has in
          subst (IsOrder script kind) found.2 (All-get_or (IsOrder script kind) orders found.0 events found.1 right.each);
      once = once_paired orders right.once;
      every = λ events order. let found = all events order in has_contained orders events found.0 found.1 found.2;
      count = sym is;
    }

-- so many beginnings were seen
pub record HasSeen (script : ScriptModel) (kind : ReactorKind) (path : List Event) (place count : ℕ) : Type 0 where
  pub seen : List (List Event)
  pub are : AreSeen script kind path place seen
  pub long : length seen ≡ count

pub seen_first : (script : ScriptModel) (kind : ReactorKind) (path : List Event) (place : ℕ) → path ≡ [] → place ≡ 0 →
    HasSeen script kind path place 0
seen_first script kind path place none first =
    let here : HasSeen script kind [] 0 0 = record { seen = []; are = seen_none script kind; long = refl } in
    subst (λ p. HasSeen script kind p place 0) (sym none) (subst (λ n. HasSeen script kind [] n 0) (sym first) here)

pub seen_next : (script : ScriptModel) (kind : ReactorKind) (path : List Event) (place count : ℕ)
    (seen : List (List Event)) → AreSeen script kind path place (seen ++ path ∷ []) → length seen ≡ count →
    HasSeen script kind path place (count + 1)
seen_next script kind path place count seen are long =
    let more : length (seen ++ path ∷ []) ≡ length seen + 1 = length-append seen (path ∷ []) in
    record { seen = seen ++ path ∷ []; are = are; long = omega (arith, more, long) }

-- a list that has as many histories as it may, where the walk has come to another
pub cut_full : (script script' : ScriptModel) (bounds : Bounds) (kind : ReactorKind) (path : List Event) (place : ℕ)
    (listed : List (List Event)) (found : List Recorded) → script' ≡ script → kind ≡ bounds.reactor →
    events_in found ≡ listed → length found ≡ bounds.histories →
    ArePassed script' kind path place (listed ++ path ∷ []) → IsCutOff script bounds (events_in found)
cut_full script script' bounds kind path place listed found same_script same_kind same full passed =
    let far : length (events_in found) ≡ length found = length-map found (λ history. history.events) in
    let many : length listed ≡ bounds.histories = ap length (sym same) ∙ far ∙ full in
    let here : IsFull script' kind bounds.histories listed =
    full_now script' kind path place bounds.histories listed passed many in
    inl (subst (λ a. IsFull a bounds.reactor bounds.histories (events_in found)) same_script
    (subst (λ b. IsFull script' b bounds.histories (events_in found)) same_kind
    (subst (IsFull script' kind bounds.histories) (sym same) here)))

pub cut_first : (script script' : ScriptModel) (bounds : Bounds) (kind : ReactorKind) (listed : List (List Event)) →
    script' ≡ script → kind ≡ bounds.reactor → IsFull script' kind bounds.histories listed →
    IsCutOff script bounds listed
cut_first script script' bounds kind listed same_script same_kind full =
    inl (subst (λ a. IsFull a bounds.reactor bounds.histories listed) same_script
    (subst (λ b. IsFull script' b bounds.histories listed) same_kind full))

pub seen_entered_more : (script : ScriptModel) (kind : ReactorKind) (now : Move) (path : List Event) (place count : ℕ)
    (seen : List (List Event)) → now ≡ move.Entered → AreNowSeen script kind now path place seen →
    length seen ≡ count → HasSeen script kind path place (count + 1)
seen_entered_more script kind now path place count seen is are long =
    seen_next script kind path place count seen (subst (λ m. AreNowSeen script kind m path place seen) is are) long

pub seen_whole_more : (script : ScriptModel) (kind : ReactorKind) (now : Move) (path : List Event) (place count : ℕ)
    (seen : List (List Event)) → now ≡ move.Whole → AreNowSeen script kind now path place seen →
    length seen ≡ count → HasSeen script kind path place (count + 1)
seen_whole_more script kind now path place count seen is are long =
    seen_next script kind path place count seen (subst (λ m. AreNowSeen script kind m path place seen) is are) long

pub count_histories : (script : ScriptModel) (kind : ReactorKind) (histories : List Recorded)
    (orders : List (List Event)) → events_in histories ≡ orders → AreOrders script kind orders →
    HasAllOrders script kind orders → HasOrderCount script kind (length histories)
count_histories script kind histories orders same right all =
    count_of_all script kind orders (length histories) right all
    (sym (length-map histories (λ history. history.events)) ∙ ap length same)
