-- What a walk has passed, step by step.
use Rattle.std.proofs.Common.{◌≡◌, ◌≤◌, ◌<◌, ◌+◌, ◌⊎◌, inl, inr, ℕ, List, [], ◌∷◌, ◌++◌, arith, refl, ap, sym, subst, ◌∙◌}
use Rattle.std.specs.Prelude.{Contains, ◌≢◌}
use Rattle.std.proofs.lemmas.Bool.{cases_lt}
use Rattle.std.proofs.lemmas.List.Elements.{All-nil, All-push, All-weaker, Contains-append_left, Contains-push}
use Rattle.std.proofs.lemmas.List.Quantifiers.{all_pairs_push}
use Rattle.asio_types.specs.declared.event.Event.{Event}
use Rattle.history_rules.specs.Legal.{IsLegalFrom, MayHappen, after_event, state_from, state_of}
use Rattle.history_rules.specs.State.{State, first_state}
use Rattle.session_script.specs.Script.{ScriptModel}
use Rattle.session_orders.specs.declared.bounds.ReactorKind.{ReactorKind}
use Rattle.session_orders.specs.Bound.{IsBeginning}
use Rattle.session_orders.specs.Order.{AreAsked, HasAllOrders, IsAsked, IsOrder}
use Rattle.session_orders.specs.Place.{place_of}
use Rattle.session_orders.specs.Walk.{ArePassed, AreSeen, IsBefore, NoneBetween}

-- all that is asked for and may come stands below this place
abbrev pub AllBelow : ScriptModel → ReactorKind → State → ℕ → Type 0
AllBelow script kind s place =
    (event : Event) → IsAsked kind event → MayHappen script kind.told s event → place_of script kind event < place

-- all that is asked for and may come at the place of this event is this event
abbrev pub IsOnly : ScriptModel → ReactorKind → State → Event → Type 0
IsOnly script kind s event =
    (other : Event) → IsAsked kind other → MayHappen script kind.told s other →
    place_of script kind other ≡ place_of script kind event → other ≡ event

-- places that nothing may come at

widened : (script : ScriptModel) (kind : ReactorKind) (path : List Event) (place upto : ℕ) → place ≤ upto →
    (events : List Event) → IsBefore script kind path place events → IsBefore script kind path upto events
widened script kind [] place upto less [] before = tt
widened script kind [] place upto less (event ∷ events) before = omega (arith, before, less)
widened script kind (passed ∷ path) place upto less [] before = tt
widened script kind (passed ∷ path) place upto less (event ∷ events) (inl earlier) = inl earlier
widened script kind (passed ∷ path) place upto less (event ∷ events) (inr same) =
    inr (same.0, widened script kind path place upto less events same.1)

narrowed : (script : ScriptModel) (kind : ReactorKind) (s : State) (path : List Event) (place upto : ℕ)
    (events : List Event) → NoneBetween script kind (state_from script kind.told s path) place upto →
    IsLegalFrom script kind.told s events → AreAsked kind events → IsBefore script kind path upto events →
    IsBefore script kind path place events
narrowed script kind s [] place upto [] none legal asked before = tt
narrowed script kind s [] place upto (event ∷ events) none legal asked before =
    elim (cases_lt (place_of script kind event) place) [
      | inl less ↦ less
      | inr more ↦ absurd (none event asked.0 legal.0 more before)
    ]
narrowed script kind s (passed ∷ path) place upto [] none legal asked before = tt
narrowed script kind s (passed ∷ path) place upto (event ∷ events) none legal asked (inl less) = inl less
narrowed script kind s (passed ∷ path) place upto (event ∷ events) none legal asked (inr same) =
    inr (
      same.0,
      narrowed script kind (after_event script kind.told s passed) path place upto events none
          (subst (λ other. IsLegalFrom script kind.told (after_event script kind.told s other) events) same.0 legal.1)
          asked.1 same.1,
    )

pub passed_onward : (script : ScriptModel) (kind : ReactorKind) (path : List Event) (place upto : ℕ)
    (listed : List (List Event)) → place ≤ upto →
    NoneBetween script kind (state_of script kind.told path) place upto →
    ArePassed script kind path place listed → ArePassed script kind path upto listed
passed_onward script kind path place upto listed less none passed =
    record {
      orders = passed.orders;
      before =
          All-weaker (IsBefore script kind path place) (IsBefore script kind path upto)
          (widened script kind path place upto less) listed passed.before;
      every =
          λ events order before. passed.every events order
          (narrowed script kind (first_state script kind.told) path place upto events none order.legal.legal order.asked
          before);
    }

pub seen_onward : (script : ScriptModel) (kind : ReactorKind) (path : List Event) (place upto : ℕ)
    (seen : List (List Event)) → place ≤ upto → AreSeen script kind path place seen → AreSeen script kind path upto seen
seen_onward script kind path place upto seen less before =
    record {
      each = before.each;
      before =
          All-weaker (IsBefore script kind path place) (IsBefore script kind path upto)
          (widened script kind path place upto less) seen before.before;
      once = before.once;
    }

-- one event more

entered : (script : ScriptModel) (kind : ReactorKind) (path : List Event) (place : ℕ) (event : Event) → place_of script kind event ≡ place →
    (events : List Event) → IsBefore script kind path place events → IsBefore script kind (path ++ event ∷ []) 0 events
entered script kind [] place event at [] before = tt
entered script kind [] place event at (first ∷ events) before = inl (omega (arith, at, before))
entered script kind (passed ∷ path) place event at [] before = tt
entered script kind (passed ∷ path) place event at (first ∷ events) (inl less) = inl less
entered script kind (passed ∷ path) place event at (first ∷ events) (inr same) =
    inr (same.0, entered script kind path place event at events same.1)

itself : (script : ScriptModel) (kind : ReactorKind) (path : List Event) (event : Event) →
    IsBefore script kind (path ++ event ∷ []) 0 (path ++ event ∷ [])
itself script kind [] event = inr (refl, tt)
itself script kind (passed ∷ path) event = inr (refl, itself script kind path event)

not_before : (script : ScriptModel) (kind : ReactorKind) (path : List Event) (place : ℕ) (event : Event) → place_of script kind event ≡ place →
    IsBefore script kind path place (path ++ event ∷ []) → ⊥
not_before script kind [] place event at before = omega (arith, at, before)
not_before script kind (passed ∷ path) place event at (inl less) = omega (arith, less)
not_before script kind (passed ∷ path) place event at (inr same) = not_before script kind path place event at same.1

before_or_itself : (script : ScriptModel) (kind : ReactorKind) (path : List Event) (place : ℕ) (event : Event) →
    place_of script kind event ≡ place → (events : List Event) → IsBefore script kind (path ++ event ∷ []) 0 events →
    IsBefore script kind path place events ⊎ (events ≡ path ++ event ∷ [])
before_or_itself script kind [] place event at [] before = inl tt
before_or_itself script kind [] place event at (first ∷ events) (inl less) = inl (omega (arith, at, less))
before_or_itself script kind [] place event at (first ∷ []) (inr same) = inr (ap (λ e. e ∷ []) same.0)
before_or_itself script kind [] place event at (first ∷ (second ∷ events)) (inr same) = absurd (omega (arith, same.1))
before_or_itself script kind (passed ∷ path) place event at [] before = inl tt
before_or_itself script kind (passed ∷ path) place event at (first ∷ events) (inl less) = inl (inl less)
before_or_itself script kind (passed ∷ path) place event at (first ∷ events) (inr same) =
    elim (before_or_itself script kind path place event at events same.1) [
      | inl before ↦ inl (inr (same.0, before))
      | inr is ↦ inr (ap (λ e. e ∷ events) same.0 ∙ ap (λ es. passed ∷ es) is)
    ]

pub passed_whole : (script : ScriptModel) (kind : ReactorKind) (path : List Event) (place : ℕ) (event : Event)
    (listed : List (List Event)) → place_of script kind event ≡ place → IsOrder script kind (path ++ event ∷ []) →
    ArePassed script kind path place listed →
    ArePassed script kind (path ++ event ∷ []) 0 (listed ++ (path ++ event ∷ []) ∷ [])
passed_whole script kind path place event listed at order passed =
    let next : List Event = path ++ event ∷ [] in record {
      orders = record {
        each = All-push (IsOrder script kind) listed next passed.orders.each order;
        once =
            all_pairs_push (λ first second. first ≢ second) listed next passed.orders.once
            (λ k d below same.
            not_before script kind path place event at (subst (IsBefore script kind path place) same (passed.before k d below)));
      };
      before =
          All-push (IsBefore script kind next 0) listed next
          (All-weaker (IsBefore script kind path place) (IsBefore script kind next 0) (entered script kind path place event at) listed
          passed.before) (itself script kind path event);
      every =
          λ events other before.
          elim (before_or_itself script kind path place event at events before) [
            | inl earlier ↦ Contains-append_left listed (next ∷ []) events (passed.every events other earlier)
            | inr same ↦ subst (Contains (listed ++ next ∷ [])) (sym same) (Contains-push listed next)
          ];
    }

pub passed_entered : (script : ScriptModel) (kind : ReactorKind) (path : List Event) (place : ℕ) (event : Event)
    (listed : List (List Event)) → place_of script kind event ≡ place → (IsOrder script kind (path ++ event ∷ []) → ⊥) →
    ArePassed script kind path place listed → ArePassed script kind (path ++ event ∷ []) 0 listed
passed_entered script kind path place event listed at no_order passed =
    let next : List Event = path ++ event ∷ [] in record {
      orders = passed.orders;
      before =
          All-weaker (IsBefore script kind path place) (IsBefore script kind next 0) (entered script kind path place event at) listed
          passed.before;
      every =
          λ events other before.
          elim (before_or_itself script kind path place event at events before) [
            | inl earlier ↦ passed.every events other earlier
            | inr same ↦ absurd (no_order (subst (IsOrder script kind) same other))
          ];
    }

pub seen_entered : (script : ScriptModel) (kind : ReactorKind) (path : List Event) (place : ℕ) (event : Event)
    (seen : List (List Event)) → place_of script kind event ≡ place → IsBeginning script kind (path ++ event ∷ []) →
    AreSeen script kind path place seen →
    AreSeen script kind (path ++ event ∷ []) 0 (seen ++ (path ++ event ∷ []) ∷ [])
seen_entered script kind path place event seen at beginning before =
    let next : List Event = path ++ event ∷ [] in record {
      each = All-push (IsBeginning script kind) seen next before.each beginning;
      before =
          All-push (IsBefore script kind next 0) seen next
          (All-weaker (IsBefore script kind path place) (IsBefore script kind next 0)
          (entered script kind path place event at) seen before.before) (itself script kind path event);
      once =
          all_pairs_push (λ first second. first ≢ second) seen next before.once
          (λ k d below same.
          not_before script kind path place event at (subst (IsBefore script kind path place) same (before.before k d below)));
    }

-- one event back

left_behind : (script : ScriptModel) (kind : ReactorKind) (path : List Event) (place : ℕ) (event : Event) (events : List Event) →
    IsBefore script kind (path ++ event ∷ []) place events → IsBefore script kind path (place_of script kind event + 1) events
left_behind script kind [] place event [] before = tt
left_behind script kind [] place event (first ∷ events) (inl less) = omega (arith, less)
left_behind script kind [] place event (first ∷ events) (inr same) =
    let one : place_of script kind first ≡ place_of script kind event = ap (place_of script kind) same.0 in omega (arith, one)
left_behind script kind (passed ∷ path) place event [] before = tt
left_behind script kind (passed ∷ path) place event (first ∷ events) (inl less) = inl less
left_behind script kind (passed ∷ path) place event (first ∷ events) (inr same) =
    inr (same.0, left_behind script kind path place event events same.1)

all_behind : (script : ScriptModel) (kind : ReactorKind) (s : State) (place : ℕ) (events : List Event) →
    AllBelow script kind s place → IsLegalFrom script kind.told s events → AreAsked kind events →
    IsBefore script kind [] place events
all_behind script kind s place [] all legal asked = tt
all_behind script kind s place (event ∷ events) all legal asked = all event asked.0 legal.0

looked_at : (script : ScriptModel) (kind : ReactorKind) (s : State) (path : List Event) (place : ℕ) (event : Event)
    (events : List Event) → IsOnly script kind (state_from script kind.told s path) event →
    AllBelow script kind (after_event script kind.told (state_from script kind.told s path) event) place →
    IsLegalFrom script kind.told s events → AreAsked kind events →
    IsBefore script kind path (place_of script kind event + 1) events → IsBefore script kind (path ++ event ∷ []) place events
looked_at script kind s [] place event [] only all legal asked before = tt
looked_at script kind s [] place event (first ∷ events) only all legal asked before =
    elim (cases_lt (place_of script kind first) (place_of script kind event)) [
      | inl less ↦ inl less
      | inr more ↦
          let same : first ≡ event = only first asked.0 legal.0 (omega (arith, before, more)) in
          inr (
            same,
            all_behind script kind (after_event script kind.told s event) place events all
                (subst (λ other. IsLegalFrom script kind.told (after_event script kind.told s other) events) same legal.1) asked.1,
          )
    ]
looked_at script kind s (passed ∷ path) place event [] only all legal asked before = tt
looked_at script kind s (passed ∷ path) place event (first ∷ events) only all legal asked (inl less) = inl less
looked_at script kind s (passed ∷ path) place event (first ∷ events) only all legal asked (inr same) =
    inr (
      same.0,
      looked_at script kind (after_event script kind.told s passed) path place event events only all
          (subst (λ other. IsLegalFrom script kind.told (after_event script kind.told s other) events) same.0 legal.1) asked.1 same.1,
    )

pub passed_back : (script : ScriptModel) (kind : ReactorKind) (path : List Event) (place : ℕ) (event : Event)
    (listed : List (List Event)) → IsOnly script kind (state_of script kind.told path) event →
    AllBelow script kind (after_event script kind.told (state_of script kind.told path) event) place →
    ArePassed script kind (path ++ event ∷ []) place listed →
    ArePassed script kind path (place_of script kind event + 1) listed
passed_back script kind path place event listed only all passed =
    record {
      orders = passed.orders;
      before =
          All-weaker (IsBefore script kind (path ++ event ∷ []) place) (IsBefore script kind path (place_of script kind event + 1))
          (left_behind script kind path place event) listed passed.before;
      every =
          λ events order before. passed.every events order
          (looked_at script kind (first_state script kind.told) path place event events only all order.legal.legal
          order.asked before);
    }

pub seen_back : (script : ScriptModel) (kind : ReactorKind) (path : List Event) (place : ℕ) (event : Event)
    (seen : List (List Event)) → AreSeen script kind (path ++ event ∷ []) place seen →
    AreSeen script kind path (place_of script kind event + 1) seen
seen_back script kind path place event seen before =
    record {
      each = before.each;
      before =
          All-weaker (IsBefore script kind (path ++ event ∷ []) place)
          (IsBefore script kind path (place_of script kind event + 1)) (left_behind script kind path place event) seen
          before.before;
      once = before.once;
    }

-- the end

pub passed_all : (script : ScriptModel) (kind : ReactorKind) (place : ℕ) (listed : List (List Event)) →
    AllBelow script kind (first_state script kind.told) place → ArePassed script kind [] place listed →
    HasAllOrders script kind listed
passed_all script kind place listed all passed events order =
    passed.every events order
    (all_behind script kind (first_state script kind.told) place events all order.legal.legal order.asked)

-- the start

none_before : (script : ScriptModel) (kind : ReactorKind) (events : List Event) → IsBefore script kind [] 0 events → events ≡ []
none_before script kind [] before = refl
none_before script kind (event ∷ events) before = absurd (omega (arith, before))

pub passed_none : (script : ScriptModel) (kind : ReactorKind) → (IsOrder script kind [] → ⊥) →
    ArePassed script kind [] 0 []
passed_none script kind no_order =
    record {
      orders = record { each = All-nil (IsOrder script kind); once = λ i j d less below. absurd (omega (arith, below)) };
      before = All-nil (IsBefore script kind [] 0);
      every = λ events order before. absurd (no_order (subst (IsOrder script kind) (none_before script kind events before) order));
    }

pub passed_first : (script : ScriptModel) (kind : ReactorKind) → IsOrder script kind [] →
    ArePassed script kind [] 0 ([] ∷ [])
passed_first script kind order =
    record {
      orders = record {
        each = All-push (IsOrder script kind) [] [] (All-nil (IsOrder script kind)) order;
        once = λ i j d less below. absurd (omega (arith, less, below));
      };
      before = All-push (IsBefore script kind [] 0) [] [] (All-nil (IsBefore script kind [] 0)) tt;
      every =
          λ events other before. subst (Contains ([] ∷ [])) (sym (none_before script kind events before)) (Contains-push [] []);
    }

pub seen_none : (script : ScriptModel) (kind : ReactorKind) → AreSeen script kind [] 0 []
seen_none script kind =
    record {
      each = All-nil (IsBeginning script kind);
      before = All-nil (IsBefore script kind [] 0);
      once = λ i j d less below. absurd (omega (arith, below));
    }
