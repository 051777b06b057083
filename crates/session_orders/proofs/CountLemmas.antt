-- Counts of lists, and of the ways on from a state.
use Rattle.std.proofs.Common.{◌≡◌, ◌<◌, ◌≤◌, ◌+◌, ◌*◌, ◌⊎◌, inl, inr, ℕ, suc, zero, Bool, true, false, List, [], ◌∷◌, ◌++◌, length, get_or, set, map, arith, refl, ap, sym, subst, length-append, ◌∙◌}
use Rattle.std.proofs.lemmas.Bool.{cases_lt}
use Rattle.std.proofs.lemmas.List.{length-map}
use Rattle.asio_types.specs.declared.event.Event.{Event}
use Rattle.history_book.specs.Replay.{Replayed}
use Rattle.history_rules.specs.Legal.{IsLegalFrom, IsWhole, MayHappen, after_event, state_from}
use Rattle.history_rules.specs.State.{State, first_state}
use Rattle.session_script.specs.Script.{ScriptModel}
use Rattle.session_orders.specs.declared.bounds.ReactorKind.{ReactorKind}
use Rattle.session_orders.specs.Count.{AreJust, AreOnce, Has, HasJoined, HasMoved, HasOrderCount, HasPassed, IsWayFrom, IsWayOn, LeadFrom, LeadOn, Leads, LeadsTo, Reaching, StandsFrom, with_more}
use Rattle.session_orders.specs.Order.{IsAsked, IsOrder}
use Rattle.session_orders.specs.Place.{place_of}
use Rattle.session_orders.specs.Walk.{NoneBetween}
use Rattle.session_orders.proofs.PassedLemmas.{AllBelow, IsOnly}

-- lists of lists

has-append_left : (xs ys : List (List Event)) (e : List Event) → Has xs e → Has (xs ++ ys) e
has-append_left [] ys e has = absurd has
has-append_left (x ∷ xs) ys e (inl is) = inl is
has-append_left (x ∷ xs) ys e (inr later) = inr (has-append_left xs ys e later)

has-append_right : (xs ys : List (List Event)) (e : List Event) → Has ys e → Has (xs ++ ys) e
has-append_right [] ys e has = has
has-append_right (x ∷ xs) ys e has = inr (has-append_right xs ys e has)

has-append_cases : (xs ys : List (List Event)) (e : List Event) → Has (xs ++ ys) e → Has xs e ⊎ Has ys e
has-append_cases [] ys e has = inr has
has-append_cases (x ∷ xs) ys e (inl is) = inl (inl is)
has-append_cases (x ∷ xs) ys e (inr later) =
    elim (has-append_cases xs ys e later) [ inl one ↦ inl (inr one) | inr other ↦ inr other ]

once-append : (xs ys : List (List Event)) → AreOnce xs → AreOnce ys → ((e : List Event) → Has xs e → Has ys e → ⊥) →
    AreOnce (xs ++ ys)
once-append [] ys once other apart = other
once-append (x ∷ xs) ys once other apart = (
  λ has. elim (has-append_cases xs ys x has) [ inl one ↦ once.0 one | inr two ↦ apart x (inl refl) two ],
  once-append xs ys once.1 other (λ e has. apart e (inr has)),
)

nil_or_cons : {A : Type 0} (e : Event) (x : List Event) → [] ≡ e ∷ x → A
nil_or_cons e x wrong = cc

has-behind : (e : Event) (xs : List (List Event)) (es : List Event) → Has xs es → Has (map (λ t. e ∷ t) xs) (e ∷ es)
has-behind e [] es has = absurd has
has-behind e (x ∷ xs) es (inl is) = inl (ap (λ t. e ∷ t) is)
has-behind e (x ∷ xs) es (inr later) = inr (has-behind e xs es later)

behind-has : (e : Event) (xs : List (List Event)) (f : Event) (es : List Event) → Has (map (λ t. e ∷ t) xs) (f ∷ es) →
    (f ≡ e) × Has xs es
behind-has e [] f es has = absurd has
behind-has e (x ∷ xs) f es (inl is) = let one : f ≡ e = cc in let other : es ≡ x = cc in (one, inl other)
behind-has e (x ∷ xs) f es (inr later) = let found = behind-has e xs f es later in (found.0, inr found.1)

behind-has_none : (e : Event) (xs : List (List Event)) → Has (map (λ t. e ∷ t) xs) [] → ⊥
behind-has_none e [] has = has
behind-has_none e (x ∷ xs) (inl is) = nil_or_cons e x is
behind-has_none e (x ∷ xs) (inr later) = behind-has_none e xs later

once-behind : (e : Event) (xs : List (List Event)) → AreOnce xs → AreOnce (map (λ t. e ∷ t) xs)
once-behind e [] once = tt
once-behind e (x ∷ xs) once = (λ has. once.0 (behind-has e xs e x has).1, once-behind e xs once.1)

-- counts

just_same : (P Q : List Event → Type 0) (n : ℕ) → ((es : List Event) → P es → Q es) → ((es : List Event) → Q es → P es) →
    AreJust P n → AreJust Q n
just_same P Q n to from just =
    record {
      lists = just.lists;
      each = λ es has. to es (just.each es has);
      once = just.once;
      every = λ es q. just.every es (from es q);
      count = just.count;
    }

just_none : (P : List Event → Type 0) → ((es : List Event) → P es → ⊥) → AreJust P 0
just_none P none =
    record { lists = []; each = λ es has. absurd has; once = tt; every = λ es p. none es p; count = refl }

just_empty : AreJust (λ es. es ≡ []) 1
just_empty =
    record {
      lists = [] ∷ [];
      each = λ es has. elim has [ inl is ↦ is | inr none ↦ absurd none ];
      once = (λ none. none, tt);
      every = λ es is. inl is;
      count = refl;
    }

just_both : (P Q R : List Event → Type 0) (m n : ℕ) → ((es : List Event) → P es → R es) →
    ((es : List Event) → Q es → R es) → ((es : List Event) → R es → P es ⊎ Q es) →
    ((es : List Event) → P es → Q es → ⊥) → AreJust P m → AreJust Q n → AreJust R (m + n)
just_both P Q R m n one_is two_is is_either apart one two =
    let total : length one.lists + length two.lists ≡ m + n = ap (λ k. k + length two.lists) one.count ∙ ap (λ k. m + k) two.count in
    record {
      lists = one.lists ++ two.lists;
      each =
          λ es has.
          elim (has-append_cases one.lists two.lists es has) [
            | inl first ↦ one_is es (one.each es first)
            | inr second ↦ two_is es (two.each es second)
          ];
      once =
          once-append one.lists two.lists one.once two.once
          (λ es first second. apart es (one.each es first) (two.each es second));
      every =
          λ es r.
          elim (is_either es r) [
            | inl p ↦ has-append_left one.lists two.lists es (one.every es p)
            | inr q ↦ has-append_right one.lists two.lists es (two.every es q)
          ];
      count = length-append one.lists two.lists ∙ total;
    }

-- this event stands first, and such a list behind it
abbrev IsBehind : (List Event → Type 0) → Event → List Event → Type 0
IsBehind P e [] = ⊥
IsBehind P e (f ∷ es) = (f ≡ e) × P es

each-behind : (P : List Event → Type 0) (e : Event) (n : ℕ) (just : AreJust P n) (es : List Event) →
    Has (map (λ t. e ∷ t) just.lists) es → IsBehind P e es
each-behind P e n just [] has = behind-has_none e just.lists has
each-behind P e n just (f ∷ es) has =
    let found = behind-has e just.lists f es has in (found.0, just.each es found.1)

every-behind : (P : List Event → Type 0) (e : Event) (n : ℕ) (just : AreJust P n) (es : List Event) →
    IsBehind P e es → Has (map (λ t. e ∷ t) just.lists) es
every-behind P e n just [] is = absurd is
every-behind P e n just (f ∷ es) is =
    subst (λ g. Has (map (λ t. e ∷ t) just.lists) (g ∷ es)) (sym is.0) (has-behind e just.lists es (just.every es is.1))

just_behind : (P : List Event → Type 0) (e : Event) (n : ℕ) → AreJust P n → AreJust (IsBehind P e) n
just_behind P e n just =
    record {
      lists = map (λ t. e ∷ t) just.lists;
      each = each-behind P e n just;
      once = once-behind e just.lists just.once;
      every = every-behind P e n just;
      count = length-map just.lists (λ t. e ∷ t) ∙ just.count;
    }

-- ways on from a state

stands_less : (script : ScriptModel) (kind : ReactorKind) (from upto : ℕ) → from ≤ upto → (es : List Event) →
    StandsFrom script kind upto es → StandsFrom script kind from es
stands_less script kind from upto less [] stands = stands
stands_less script kind from upto less (e ∷ es) stands = omega (arith, stands, less)

way_less : (script : ScriptModel) (kind : ReactorKind) (s : State) (from upto : ℕ) → from ≤ upto → (es : List Event) →
    IsWayFrom script kind s upto es → IsWayFrom script kind s from es
way_less script kind s from upto less es way = (way.0, stands_less script kind from upto less es way.1)

way_past_none : (script : ScriptModel) (kind : ReactorKind) (s : State) (from upto : ℕ) →
    NoneBetween script kind s from upto → (es : List Event) → IsWayFrom script kind s from es →
    IsWayFrom script kind s upto es
way_past_none script kind s from upto none [] way = absurd way.1
way_past_none script kind s from upto none (e ∷ es) way =
    elim (cases_lt (place_of script kind e) upto) [
      | inl less ↦ absurd (none e way.0.asked.0 way.0.legal.0 way.1 less)
      | inr more ↦ (way.0, more)
    ]

later_none : (script : ScriptModel) (kind : ReactorKind) (s : State) (from upto n : ℕ) → from ≤ upto →
    NoneBetween script kind s from upto → AreJust (IsWayFrom script kind s upto) n →
    AreJust (IsWayFrom script kind s from) n
later_none script kind s from upto n less none just =
    just_same (IsWayFrom script kind s upto) (IsWayFrom script kind s from) n
    (way_less script kind s from upto less) (way_past_none script kind s from upto none) just

behind_is_way : (script : ScriptModel) (kind : ReactorKind) (s : State) (place : ℕ) (e : Event) → IsAsked kind e →
    MayHappen script kind.told s e → place_of script kind e ≡ place → (es : List Event) →
    IsBehind (IsWayOn script kind (after_event script kind.told s e)) e es → IsWayFrom script kind s place es
behind_is_way script kind s place e asked may at [] is = absurd is
behind_is_way script kind s place e asked may at (f ∷ es) is =
    let whole : IsWayFrom script kind s place (e ∷ es) = (
      record { legal = (may, is.1.legal); whole = is.1.whole; asked = (asked, is.1.asked) },
      omega (arith, at),
    ) in
    subst (λ g. IsWayFrom script kind s place (g ∷ es)) (sym is.0) whole

way_is_either : (script : ScriptModel) (kind : ReactorKind) (s : State) (place : ℕ) (e : Event) →
    IsOnly script kind s e → place_of script kind e ≡ place → (es : List Event) → IsWayFrom script kind s place es →
    IsBehind (IsWayOn script kind (after_event script kind.told s e)) e es ⊎ IsWayFrom script kind s (place + 1) es
way_is_either script kind s place e only at [] way = absurd way.1
way_is_either script kind s place e only at (f ∷ es) way =
    elim (cases_lt place (place_of script kind f)) [
      | inl less ↦ inr (way.0, omega (arith, less))
      | inr more ↦
          let same : f ≡ e = only f way.0.asked.0 way.0.legal.0 (omega (arith, way.1, more, at)) in
          let on : IsWayOn script kind (after_event script kind.told s f) es =
          record { legal = way.0.legal.1; whole = way.0.whole; asked = way.0.asked.1 } in
          inl (same, subst (λ g. IsWayOn script kind (after_event script kind.told s g) es) same on)
    ]

behind_apart : (script : ScriptModel) (kind : ReactorKind) (s : State) (place : ℕ) (e : Event) →
    place_of script kind e ≡ place → (es : List Event) →
    IsBehind (IsWayOn script kind (after_event script kind.told s e)) e es → IsWayFrom script kind s (place + 1) es → ⊥
behind_apart script kind s place e at [] is way = is
behind_apart script kind s place e at (f ∷ es) is way =
    let same : place_of script kind f ≡ place_of script kind e = ap (place_of script kind) is.0 in omega (arith, at, same, way.1)

later_one : (script : ScriptModel) (kind : ReactorKind) (s : State) (place : ℕ) (e : Event) (m n : ℕ) → IsAsked kind e →
    MayHappen script kind.told s e → place_of script kind e ≡ place → IsOnly script kind s e →
    AreJust (IsWayOn script kind (after_event script kind.told s e)) m →
    AreJust (IsWayFrom script kind s (place + 1)) n → AreJust (IsWayFrom script kind s place) (m + n)
later_one script kind s place e m n asked may at only one two =
    let Next : List Event → Type 0 = IsWayOn script kind (after_event script kind.told s e) in
    just_both (IsBehind Next e) (IsWayFrom script kind s (place + 1)) (IsWayFrom script kind s place) m n
    (behind_is_way script kind s place e asked may at) (way_less script kind s place (place + 1) (omega arith))
    (way_is_either script kind s place e only at) (behind_apart script kind s place e at)
    (just_behind Next e m one) two

none_behind : (script : ScriptModel) (kind : ReactorKind) (s : State) (place : ℕ) → AllBelow script kind s place →
    (es : List Event) → IsWayFrom script kind s place es → ⊥
none_behind script kind s place all [] way = way.1
none_behind script kind s place all (e ∷ es) way =
    let below = all e way.0.asked.0 way.0.legal.0 in omega (arith, below, way.1)

empty_is_way : (script : ScriptModel) (kind : ReactorKind) (s : State) → IsWhole script s → (es : List Event) → es ≡ [] →
    IsWayOn script kind s es
empty_is_way script kind s whole es is =
    let nothing : IsWayOn script kind s [] = record { legal = tt; whole = whole; asked = tt } in
    subst (IsWayOn script kind s) (sym is) nothing

empty_or_way : (script : ScriptModel) (kind : ReactorKind) (s : State) (es : List Event) → IsWayOn script kind s es →
    (es ≡ []) ⊎ IsWayFrom script kind s 0 es
empty_or_way script kind s [] way = inl refl
empty_or_way script kind s (e ∷ es) way = inr (way, omega arith)

empty_apart : (script : ScriptModel) (kind : ReactorKind) (s : State) (es : List Event) → es ≡ [] →
    IsWayFrom script kind s 0 es → ⊥
empty_apart script kind s es is way = (subst (IsWayFrom script kind s 0) is way).1

way_whole : (script : ScriptModel) (kind : ReactorKind) (s : State) (n : ℕ) → IsWhole script s →
    AreJust (IsWayFrom script kind s 0) n → AreJust (IsWayOn script kind s) (1 + n)
way_whole script kind s n whole just =
    just_both (λ es. es ≡ []) (IsWayFrom script kind s 0) (IsWayOn script kind s) 1 n
    (empty_is_way script kind s whole) (λ es way. way.0) (empty_or_way script kind s)
    (empty_apart script kind s) just_empty just

open_way : (script : ScriptModel) (kind : ReactorKind) (s : State) → (IsWhole script s → ⊥) → (es : List Event) →
    IsWayOn script kind s es → IsWayFrom script kind s 0 es
open_way script kind s left [] way = absurd (left way.whole)
open_way script kind s left (e ∷ es) way = (way, omega arith)

way_open : (script : ScriptModel) (kind : ReactorKind) (s : State) (n : ℕ) → (IsWhole script s → ⊥) →
    AreJust (IsWayFrom script kind s 0) n → AreJust (IsWayOn script kind s) n
way_open script kind s n left just =
    just_same (IsWayFrom script kind s 0) (IsWayOn script kind s) n (λ es way. way.0)
    (open_way script kind s left) just

just_orders : (script : ScriptModel) (kind : ReactorKind) (n : ℕ) →
    AreJust (IsWayOn script kind (first_state script kind.told)) n → HasOrderCount script kind n
just_orders script kind n just =
    just_same (IsWayOn script kind (first_state script kind.told)) (IsOrder script kind) n
    (λ es way. record { legal = record { legal = way.legal; whole = way.whole }; asked = way.asked })
    (λ es order. record { legal = order.legal.legal; whole = order.legal.whole; asked = order.asked }) just

-- states that are still to be looked at

pub lead_push : (script : ScriptModel) (kind : ReactorKind) (xs : List Reaching) (one : Reaching) →
    HasJoined script kind one.replay.state one.times xs (xs ++ one ∷ [])
lead_push script kind [] one n lead = lead
lead_push script kind (x ∷ xs) one n lead =
    let more = lead_push script kind xs one lead.rest lead.others in
    let first = lead.sum in
    let second = more.sum in
    record {
      ways = more.ways;
      rest = x.times * lead.ways + more.rest;
      just = more.just;
      others = record { ways = lead.ways; rest = more.rest; just = lead.just; others = more.others; sum = refl };
      sum = omega (arith, first, second);
    }

pub lead_set : (script : ScriptModel) (kind : ReactorKind) (xs : List Reaching) (i : ℕ) (d : Reaching) (times : ℕ) →
    i < length xs →
    HasJoined script kind (get_or xs i d).replay.state times xs (set xs i (with_more times (get_or xs i d)))
lead_set script kind [] i d times below n lead = absurd (omega (arith, below))
lead_set script kind (x ∷ xs) zero d times below n lead =
    let first = lead.sum in
    record {
      ways = lead.ways;
      rest = x.times * lead.ways + lead.rest;
      just = lead.just;
      others = record { ways = lead.ways; rest = lead.rest; just = lead.just; others = lead.others; sum = refl };
      sum = omega (arith, first);
    }
lead_set script kind (x ∷ xs) (suc i) d times below n lead =
    let more = lead_set script kind xs i d times (omega (arith, below)) lead.rest lead.others in
    let first = lead.sum in
    let second = more.sum in
    record {
      ways = more.ways;
      rest = x.times * lead.ways + more.rest;
      just = more.just;
      others = record { ways = lead.ways; rest = more.rest; just = lead.just; others = more.others; sum = refl };
      sum = omega (arith, first, second);
    }

pub moved_none : (script : ScriptModel) (kind : ReactorKind) (s : State) (times : ℕ) (reached : List Reaching)
    (from upto : ℕ) → from ≤ upto → NoneBetween script kind s from upto →
    HasMoved script kind s times reached reached from upto
moved_none script kind s times reached from upto less none n held =
    record {
      ways = held.ways;
      rest = held.rest;
      just = later_none script kind s from upto held.ways less none held.just;
      others = held.others;
      sum = held.sum;
    }

pub moved_one : (script : ScriptModel) (kind : ReactorKind) (s : State) (times : ℕ) (old new : List Reaching) (place : ℕ)
    (e : Event) → IsAsked kind e → MayHappen script kind.told s e → place_of script kind e ≡ place → IsOnly script kind s e →
    HasJoined script kind (after_event script kind.told s e) times old new →
    HasMoved script kind s times old new place (place + 1)
moved_one script kind s times old new place e asked may at only joined n held =
    let more = joined held.rest held.others in
    let first = held.sum in
    let second = more.sum in
    record {
      ways = more.ways + held.ways;
      rest = more.rest;
      just = later_one script kind s place e more.ways held.ways asked may at only more.just held.just;
      others = more.others;
      sum = omega (arith, first, second);
    }

pub moved_first : (script : ScriptModel) (kind : ReactorKind) (s : State) (times : ℕ) (reached : List Reaching) →
    HasMoved script kind s times reached reached 0 0
moved_first script kind s times reached n held = held

pub moved_more : (script : ScriptModel) (kind : ReactorKind) (s : State) (times : ℕ) (old mid new : List Reaching)
    (from place upto : ℕ) → HasMoved script kind s times old mid from place →
    HasMoved script kind s times mid new place upto → HasMoved script kind s times old new from upto
moved_more script kind s times old mid new from place upto first second n held = first n (second n held)

held_at_end : (script : ScriptModel) (kind : ReactorKind) (s : State) (times : ℕ) (reached : List Reaching) (place n : ℕ) →
    AllBelow script kind s place → LeadOn script kind reached n → LeadFrom script kind s place times reached n
held_at_end script kind s times reached place n all lead =
    record {
      ways = 0;
      rest = n;
      just = just_none (IsWayFrom script kind s place) (none_behind script kind s place all);
      others = lead;
      sum = omega arith;
    }

-- behind the last place stands nothing
pub moved_to_end : (script : ScriptModel) (kind : ReactorKind) (s : State) (times : ℕ) (old new : List Reaching)
    (from upto past : ℕ) → AllBelow script kind s upto → AllBelow script kind s past →
    HasMoved script kind s times old new from past → HasMoved script kind s times old new from upto
moved_to_end script kind s times old new from upto past all later moved n held =
    moved n (record {
      ways = held.ways;
      rest = held.rest;
      just =
          just_same (IsWayFrom script kind s upto) (IsWayFrom script kind s past) held.ways
          (λ es way. absurd (none_behind script kind s upto all es way))
          (λ es way. absurd (none_behind script kind s past later es way)) held.just;
      others = held.others;
      sum = held.sum;
    })

pub passed_whole_state : (script : ScriptModel) (kind : ReactorKind) (s : State) (times : ℕ) (old new : List Reaching)
    (place counted total : ℕ) → AllBelow script kind s place → IsWhole script s → total ≡ counted + times →
    HasMoved script kind s times old new 0 place → HasPassed script kind s times old new counted total
passed_whole_state script kind s times old new place counted total all whole is moved n lead =
    let held = moved n (held_at_end script kind s times new place n all lead) in
    let sum = held.sum in (
      times * (1 + held.ways) + held.rest,
      record {
        ways = 1 + held.ways;
        rest = held.rest;
        just = way_whole script kind s held.ways whole held.just;
        others = held.others;
        sum = refl;
      },
      omega (arith, is, sum),
    )

pub passed_open_state : (script : ScriptModel) (kind : ReactorKind) (s : State) (times : ℕ) (old new : List Reaching)
    (place counted : ℕ) → AllBelow script kind s place → (IsWhole script s → ⊥) →
    HasMoved script kind s times old new 0 place → HasPassed script kind s times old new counted counted
passed_open_state script kind s times old new place counted all left moved n lead =
    let held = moved n (held_at_end script kind s times new place n all lead) in (
      n,
      record {
        ways = held.ways;
        rest = held.rest;
        just = way_open script kind s held.ways left held.just;
        others = held.others;
        sum = held.sum;
      },
      refl,
    )

pub leads_on : (script : ScriptModel) (kind : ReactorKind) (queue rest new : List Reaching) (one : Reaching)
    (counted total : ℕ) → queue ≡ one ∷ rest → Leads script kind queue counted →
    HasPassed script kind one.replay.state one.times rest new counted total → Leads script kind new total
leads_on script kind queue rest new one counted total is leads passed n lead =
    let here = passed n lead in
    let found = subst (λ xs. Leads script kind xs counted) is leads here.0 here.1 in
    subst (HasOrderCount script kind) (sym here.2) found

pub leads_nowhere : (script : ScriptModel) (kind : ReactorKind) (queue : List Reaching) (counted : ℕ) → queue ≡ [] →
    Leads script kind queue counted → HasOrderCount script kind counted
leads_nowhere script kind queue counted is leads =
    let none : counted + 0 ≡ counted = omega arith in
    subst (HasOrderCount script kind) none (subst (λ xs. Leads script kind xs counted) is leads 0 refl)

pub leads_first : (script : ScriptModel) (kind : ReactorKind) (queue : List Reaching) (one : Reaching) → queue ≡ one ∷ [] →
    one.times ≡ 1 → one.replay.state ≡ first_state script kind.told → Leads script kind queue 0
leads_first script kind queue one is once first =
    subst (λ xs. Leads script kind xs 0) (sym is) alone
  where
    alone : Leads script kind (one ∷ []) 0
    alone n lead =
        let none : lead.rest ≡ 0 = lead.others in
        let sum = lead.sum in
        let product : one.times * lead.ways ≡ 1 * lead.ways = ap (λ t. t * lead.ways) once in
        let same : lead.ways ≡ 0 + n = omega (arith, none, sum, product) in
        just_orders script kind (0 + n)
        (subst (AreJust (IsWayOn script kind (first_state script kind.told))) same
        (subst (λ s. AreJust (IsWayOn script kind s) lead.ways) first lead.just))
