-- A replay that has come as far as a beginning: one event more, and one less.
use Rattle.std.proofs.Common.{◌≡◌, ◌<◌, ◌≤◌, ◌+◌, inl, inr, ℕ, suc, zero, Bool, true, false, List, [], ◌∷◌, ◌++◌, length, take, get_or, arith, refl, ap, sym, subst, ◌∙◌}
use Rattle.std.specs.Bool.{OnTrue}
use Rattle.std.specs.Prelude.{◌↔◌, IfNone, IfOk, IfSome, Option, Some, None, Result, Ok, Err}
use Rattle.std.proofs.lemmas.Bool.{cases_lt}
use Rattle.asio_types.specs.declared.event.Event.{Event}
use Rattle.history_book.specs.Replay.{Replayed}
use Rattle.history_rules.specs.Legal.{IsLegalFrom, IsLegalSoFar, IsWhole, MayHappen, after_event, state_from, state_of}
use Rattle.history_rules.specs.State.{State, first_state}
use Rattle.session_script.specs.Script.{ScriptModel}
use Rattle.session_orders.specs.declared.bounds.ReactorKind.{ReactorKind}
use Rattle.session_orders.specs.Bound.{IsBeginning}
use Rattle.session_orders.specs.Order.{AreAsked, AreOrders, HasAllOrders, IsAsked, IsOrder}
use Rattle.session_orders.specs.Place.{AllFit, event_at, place_of, places_of}
use Rattle.session_orders.specs.Walk.{AreNowPassed, ArePassed, AreSeen, HasCome, NoneBetween}
use Rattle.session_orders.specs.declared.advance.Move.{Move}
use Rattle.session_orders.proofs.PassedLemmas.{AllBelow, IsOnly, passed_all, passed_back, passed_entered, passed_whole, seen_back, seen_entered}
use Rattle.session_orders.proofs.PlaceLemmas.{is_at, is_below, is_placed, same_event}
use Rattle.session_orders.proofs.SizeLemmas.{size_of}

-- lists of events

pub state_then : (script : ScriptModel) (told : Bool) (s : State) (path : List Event) (event : Event) →
    state_from script told s (path ++ event ∷ []) ≡ after_event script told (state_from script told s path) event
state_then script told s [] event = refl
state_then script told s (first ∷ path) event = state_then script told (after_event script told s first) path event

legal_then : (script : ScriptModel) (told : Bool) (s : State) (path : List Event) (event : Event) → IsLegalFrom script told s path →
    MayHappen script told (state_from script told s path) event → IsLegalFrom script told s (path ++ event ∷ [])
legal_then script told s [] event legal may = (may, tt)
legal_then script told s (first ∷ path) event legal may =
    (legal.0, legal_then script told (after_event script told s first) path event legal.1 may)

legal_front : (script : ScriptModel) (told : Bool) (s : State) (path : List Event) (event : Event) →
    IsLegalFrom script told s (path ++ event ∷ []) → IsLegalFrom script told s path
legal_front script told s [] event legal = tt
legal_front script told s (first ∷ path) event legal =
    (legal.0, legal_front script told (after_event script told s first) path event legal.1)

pub legal_last : (script : ScriptModel) (told : Bool) (s : State) (path : List Event) (event : Event) →
    IsLegalFrom script told s (path ++ event ∷ []) → MayHappen script told (state_from script told s path) event
legal_last script told s [] event legal = legal.0
legal_last script told s (first ∷ path) event legal = legal_last script told (after_event script told s first) path event legal.1

asked_then : (kind : ReactorKind) (path : List Event) (event : Event) → AreAsked kind path → IsAsked kind event →
    AreAsked kind (path ++ event ∷ [])
asked_then kind [] event all asked = (asked, tt)
asked_then kind (first ∷ path) event all asked = (all.0, asked_then kind path event all.1 asked)

asked_front : (kind : ReactorKind) (path : List Event) (event : Event) → AreAsked kind (path ++ event ∷ []) →
    AreAsked kind path
asked_front kind [] event all = tt
asked_front kind (first ∷ path) event all = (all.0, asked_front kind path event all.1)

pub asked_last : (kind : ReactorKind) (path : List Event) (event : Event) → AreAsked kind (path ++ event ∷ []) →
    IsAsked kind event
asked_last kind [] event all = all.0
asked_last kind (first ∷ path) event all = asked_last kind path event all.1

-- what stands in a legal history may happen where it stands
may_at_index : (script : ScriptModel) (told : Bool) (s : State) (events : List Event) (i : ℕ) (d : Event) → i < length events →
    IsLegalFrom script told s events → MayHappen script told (state_from script told s (take i events)) (get_or events i d)
may_at_index script told s [] i d below legal = absurd (omega (arith, below))
may_at_index script told s (event ∷ events) zero d below legal = legal.0
may_at_index script told s (event ∷ events) (suc i) d below legal =
    may_at_index script told (after_event script told s event) events i d (omega (arith, below)) legal.1

pub state_suc : (script : ScriptModel) (told : Bool) (s : State) (events : List Event) (i : ℕ) (d : Event) → i < length events →
    state_from script told s (take (suc i) events)
    ≡ after_event script told (state_from script told s (take i events)) (get_or events i d)
state_suc script told s [] i d below = absurd (omega (arith, below))
state_suc script told s (event ∷ events) zero d below = refl
state_suc script told s (event ∷ events) (suc i) d below =
    state_suc script told (after_event script told s event) events i d (omega (arith, below))

-- a replay at a place of a legal history, one event on
pub replayed_next : (script : ScriptModel) (told : Bool) (events : List Event) (i : ℕ) (d : Event) (old new : Replayed) →
    i < length events → IsLegalSoFar script told events → old.script ≡ script → old.told ≡ told →
    old.state ≡ state_of script told (take i events) →
    (MayHappen old.script old.told old.state (get_or events i d) →
    new.state ≡ after_event old.script old.told old.state (get_or events i d)) →
    new.state ≡ state_of script told (take (i + 1) events)
replayed_next script told events i d old new below legal same_script same_told state next =
    let Q : ScriptModel → Bool → State → Type 0 =
    λ a b s. (MayHappen a b s (get_or events i d) → new.state ≡ after_event a b s (get_or events i d)) in
    let here : Q script told (state_of script told (take i events)) =
    subst (λ s. Q script told s) state
    (subst (λ b. Q script b old.state) same_told (subst (λ a. Q a old.told old.state) same_script next)) in
    let more : suc i ≡ i + 1 = omega arith in
    here (may_at_index script told (first_state script told) events i d below legal)
    ∙ sym (state_suc script told (first_state script told) events i d below)
    ∙ ap (λ n. state_of script told (take n events)) more

-- what may happen to a replay may happen behind its beginning
pub may_in : (script : ScriptModel) (kind : ReactorKind) (r : Replayed) (path : List Event) (event : Event) →
    HasCome script kind r path →
    MayHappen r.script r.told r.state event ↔ MayHappen script kind.told (state_of script kind.told path) event
may_in script kind r path event come =
    let Q : ScriptModel → Bool → State → Type 0 =
    λ a b s. MayHappen a b s event ↔ MayHappen script kind.told (state_of script kind.told path) event in
    subst (λ a. Q a r.told r.state) (sym come.same_script)
    (subst (λ b. Q script b r.state) (sym come.told)
    (subst (λ s. Q script kind.told s) (sym come.state) ((λ may. may), (λ may. may))))

pub whole_in : (script : ScriptModel) (kind : ReactorKind) (r : Replayed) (path : List Event) → HasCome script kind r path →
    IsWhole r.script r.state ↔ IsWhole script (state_of script kind.told path)
whole_in script kind r path come =
    let Q : ScriptModel → State → Type 0 = λ a s. IsWhole a s ↔ IsWhole script (state_of script kind.told path) in
    subst (λ a. Q a r.state) (sym come.same_script)
    (subst (λ s. Q script s) (sym come.state) ((λ whole. whole), (λ whole. whole)))

pub come_whole : (script : ScriptModel) (kind : ReactorKind) (r : Replayed) (path : List Event) →
    HasCome script kind r path → IsWhole r.script r.state → IsOrder script kind path
come_whole script kind r path come whole =
    record {
      legal = record { legal = come.legal; whole = (whole_in script kind r path come).0 whole };
      asked = come.asked;
    }

pub come_open : (script : ScriptModel) (kind : ReactorKind) (r : Replayed) (path : List Event) →
    HasCome script kind r path → (IsWhole r.script r.state → ⊥) → IsOrder script kind path → ⊥
come_open script kind r path come left order = left ((whole_in script kind r path come).1 order.legal.whole)

-- one event more

event_in : (script : ScriptModel) (kind : ReactorKind) (r : Replayed) (path : List Event) (place : ℕ) →
    HasCome script kind r path →
    event_at r.script kind r.state place ≡ event_at script kind (state_of script kind.told path) place
event_in script kind r path place come =
    ap (λ a. event_at a kind r.state place) come.same_script ∙ ap (λ s. event_at script kind s place) come.state

pub come_taken : (script : ScriptModel) (kind : ReactorKind) (old new : Replayed) (path : List Event) (place : ℕ) (event : Event) →
    HasCome script kind old path → place < places_of script kind → event_at old.script kind old.state place ≡ Some event →
    MayHappen old.script old.told old.state event → new.state ≡ after_event old.script old.told old.state event →
    new.script ≡ old.script → new.told ≡ old.told → HasCome script kind new (path ++ event ∷ [])
come_taken script kind old new path place event come below at may next same_script same_told =
    let s = state_of script kind.told path in
    let here = is_at script kind s place event below (sym (event_in script kind old path place come) ∙ at) in
    let Q : ScriptModel → Bool → State → Type 0 = λ a b c. new.state ≡ after_event a b c event in
    let state : Q script kind.told s =
    subst (λ c. Q script kind.told c) come.state
    (subst (λ b. Q script b old.state) come.told (subst (λ a. Q a old.told old.state) come.same_script next)) in
    record {
      same_script = same_script ∙ come.same_script;
      told = same_told ∙ come.told;
      state = state ∙ sym (state_then script kind.told (first_state script kind.told) path event);
      legal =
          legal_then script kind.told (first_state script kind.told) path event come.legal
          ((may_in script kind old path event come).0 may);
      asked = asked_then kind path event come.asked here.0;
      fits = come.fits;
    }

pub come_at : (script : ScriptModel) (kind : ReactorKind) (old : Replayed) (path : List Event) (place : ℕ) (event : Event) →
    HasCome script kind old path → place < places_of script kind → event_at old.script kind old.state place ≡ Some event →
    place_of script kind event ≡ place
come_at script kind old path place event come below at =
    (is_at script kind (state_of script kind.told path) place event below
    (sym (event_in script kind old path place come) ∙ at)).1

pub none_at : (script : ScriptModel) (kind : ReactorKind) (old : Replayed) (path : List Event) (place : ℕ)
    (found : Option Event) → HasCome script kind old path → event_at old.script kind old.state place ≡ found →
    ((event : Event) → found ≡ Some event → MayHappen old.script old.told old.state event → ⊥) →
    NoneBetween script kind (state_of script kind.told path) place (place + 1)
none_at script kind old path place found come at none other asked may from upto =
    let s = state_of script kind.told path in
    let here : place_of script kind other ≡ place = omega (arith, from, upto) in
    let is : found ≡ Some other =
    sym at ∙ event_in script kind old path place come ∙ ap (event_at script kind s) (sym here)
    ∙ is_placed script kind s other come.fits (size_of script kind.told path) asked may in
    none other is ((may_in script kind old path other come).1 may)

-- places that nothing may come at, one after another

pub none_joined : (script : ScriptModel) (kind : ReactorKind) (s : State) (from mid upto : ℕ) →
    NoneBetween script kind s from mid → NoneBetween script kind s mid upto → NoneBetween script kind s from upto
none_joined script kind s from mid upto first second event asked may above below =
    elim (cases_lt (place_of script kind event) mid) [
      | inl less ↦ first event asked may above less
      | inr more ↦ second event asked may more below
    ]

pub none_yet : (script : ScriptModel) (kind : ReactorKind) (s : State) (place : ℕ) →
    NoneBetween script kind s place place
none_yet script kind s place event asked may above below = omega (arith, above, below)

pub none_in_none : {A : Type 0} (event : Event) → None ≡ Some event → A
none_in_none event wrong = cc

pub on_true : {P : Type 0} (b : Bool) → b ≡ true → OnTrue b P → P
on_true true is holds = holds
on_true false is holds = cc

pub not_true : false ≡ true → ⊥
not_true wrong = cc

pub found_once : (P : Event → Type 0) (found : Option Event) (first second : Event) → found ≡ Some first →
    found ≡ Some second → P second → P first
found_once P found first second is other holds =
    let same : second ≡ first = cc in subst P same holds

pub if_ok : {X E : Type 0} (P Q : X → Type 0) (r : Result X E) → IfOk r P → ((x : X) → P x → Q x) → IfOk r Q
if_ok P Q (Ok x) said more = more x said
if_ok P Q (Err e) said more = tt

pub if_some : {X : Type 0} (P Q : X → Type 0) (r : Option X) → IfSome r P → ((x : X) → P x → Q x) → IfSome r Q
if_some P Q (Some x) said more = more x said
if_some P Q None said more = tt

pub on_none : {A : Type 0} {P : Type 0} (found : Option A) → P → IfNone found P
on_none None holds = holds
on_none (Some found) holds = tt

pub now_whole : (script : ScriptModel) (kind : ReactorKind) (r : Replayed) (path next : List Event) (place : ℕ) (event : Event)
    (listed : List (List Event)) → next ≡ path ++ event ∷ [] → place_of script kind event ≡ place →
    HasCome script kind r (path ++ event ∷ []) → IsWhole r.script r.state →
    ArePassed script kind path place listed → ArePassed script kind next 0 (listed ++ next ∷ [])
now_whole script kind r path next place event listed is at come whole passed =
    let P : List Event → Type 0 = λ now. ArePassed script kind now 0 (listed ++ now ∷ []) in
    subst P (sym is)
    (passed_whole script kind path place event listed at
    (come_whole script kind r (path ++ event ∷ []) come whole) passed)

pub now_open : (script : ScriptModel) (kind : ReactorKind) (r : Replayed) (path next : List Event) (place : ℕ) (event : Event)
    (listed : List (List Event)) → next ≡ path ++ event ∷ [] → place_of script kind event ≡ place →
    HasCome script kind r (path ++ event ∷ []) → (IsWhole r.script r.state → ⊥) →
    ArePassed script kind path place listed → ArePassed script kind next 0 listed
now_open script kind r path next place event listed is at come left passed =
    let P : List Event → Type 0 = λ now. ArePassed script kind now 0 listed in
    subst P (sym is)
    (passed_entered script kind path place event listed at
    (come_open script kind r (path ++ event ∷ []) come left) passed)

-- one event less

pub all_below : (script : ScriptModel) (kind : ReactorKind) (path : List Event) (place : ℕ) → AllFit script →
    places_of script kind ≤ place → AllBelow script kind (state_of script kind.told path) place
all_below script kind path place fits past event asked may =
    let below =
    is_below script kind (state_of script kind.told path) event fits (size_of script kind.told path) asked may in
    omega (arith, below, past)

pub front_legal : (script : ScriptModel) (kind : ReactorKind) (r : Replayed) (old path : List Event) (event : Event) →
    HasCome script kind r old → old ≡ path ++ event ∷ [] → IsLegalSoFar script kind.told path
front_legal script kind r old path event come is =
    legal_front script kind.told (first_state script kind.told) path event (subst (IsLegalSoFar script kind.told) is come.legal)

pub come_back : (script : ScriptModel) (kind : ReactorKind) (r new : Replayed) (old path : List Event) (event : Event) →
    HasCome script kind r old → old ≡ path ++ event ∷ [] → new.script ≡ script → new.told ≡ kind.told →
    new.state ≡ state_of script kind.told path → HasCome script kind new path
come_back script kind r new old path event come is same_script told state =
    record {
      same_script = same_script;
      told = told;
      state = state;
      legal = front_legal script kind r old path event come is;
      asked = asked_front kind path event (subst (AreAsked kind) is come.asked);
      fits = come.fits;
    }

pub now_back : (script : ScriptModel) (kind : ReactorKind) (r : Replayed) (old path : List Event) (place : ℕ) (event : Event)
    (listed : List (List Event)) → HasCome script kind r old → old ≡ path ++ event ∷ [] →
    places_of script kind ≤ place → ArePassed script kind old place listed →
    ArePassed script kind path (place_of script kind event + 1) listed
now_back script kind r old path place event listed come is past passed =
    let s = state_of script kind.told path in
    let asked = asked_last kind path event (subst (AreAsked kind) is come.asked) in
    let may =
    legal_last script kind.told (first_state script kind.told) path event
    (subst (IsLegalSoFar script kind.told) is come.legal) in
    let all : AllBelow script kind (after_event script kind.told s event) place =
    subst (λ t. AllBelow script kind t place) (state_then script kind.told (first_state script kind.told) path event)
    (all_below script kind (path ++ event ∷ []) place come.fits past) in
    let only : IsOnly script kind s event =
    λ other other_asked other_may same.
    same_event script kind s other event come.fits (size_of script kind.told path) other_asked other_may asked may same in
    passed_back script kind path place event listed only all
    (subst (λ now. ArePassed script kind now place listed) is passed)

pub now_over : (script : ScriptModel) (kind : ReactorKind) (path : List Event) (place : ℕ) (listed : List (List Event)) →
    path ≡ [] → AllFit script → places_of script kind ≤ place → ArePassed script kind path place listed →
    HasAllOrders script kind listed
now_over script kind path place listed none fits past passed =
    passed_all script kind place listed (all_below script kind [] place fits past)
    (subst (λ now. ArePassed script kind now place listed) none passed)

-- beginnings that were looked at

come_begun : (script : ScriptModel) (kind : ReactorKind) (r : Replayed) (path : List Event) →
    HasCome script kind r path → IsBeginning script kind path
come_begun script kind r path come = record { legal = come.legal; asked = come.asked }

pub now_seen : (script : ScriptModel) (kind : ReactorKind) (r : Replayed) (path next : List Event) (place : ℕ) (event : Event)
    (seen : List (List Event)) → next ≡ path ++ event ∷ [] → place_of script kind event ≡ place →
    HasCome script kind r (path ++ event ∷ []) → AreSeen script kind path place seen →
    AreSeen script kind next 0 (seen ++ next ∷ [])
now_seen script kind r path next place event seen is at come before =
    let P : List Event → Type 0 = λ now. AreSeen script kind now 0 (seen ++ now ∷ []) in
    subst P (sym is)
    (seen_entered script kind path place event seen at (come_begun script kind r (path ++ event ∷ []) come) before)

pub back_seen : (script : ScriptModel) (kind : ReactorKind) (old path : List Event) (place : ℕ) (event : Event)
    (seen : List (List Event)) → old ≡ path ++ event ∷ [] → AreSeen script kind old place seen →
    AreSeen script kind path (place_of script kind event + 1) seen
back_seen script kind old path place event seen is before =
    seen_back script kind path place event seen (subst (λ now. AreSeen script kind now place seen) is before)

-- along the same script, reactor and beginning

pub passed_same : (script script' : ScriptModel) (kind kind' : ReactorKind) (path path' : List Event) (place : ℕ)
    (listed : List (List Event)) → script' ≡ script → kind' ≡ kind → path' ≡ path →
    ArePassed script kind path place listed → ArePassed script' kind' path' place listed
passed_same script script' kind kind' path path' place listed same_script same_kind same_path passed =
    subst (λ a. ArePassed a kind' path' place listed) (sym same_script)
    (subst (λ b. ArePassed script b path' place listed) (sym same_kind)
    (subst (λ es. ArePassed script kind es place listed) (sym same_path) passed))

pub seen_same : (script script' : ScriptModel) (kind kind' : ReactorKind) (path path' : List Event) (place : ℕ)
    (seen : List (List Event)) → script' ≡ script → kind' ≡ kind → path' ≡ path →
    AreSeen script kind path place seen → AreSeen script' kind' path' place seen
seen_same script script' kind kind' path path' place seen same_script same_kind same_path before =
    subst (λ a. AreSeen a kind' path' place seen) (sym same_script)
    (subst (λ b. AreSeen script b path' place seen) (sym same_kind)
    (subst (λ es. AreSeen script kind es place seen) (sym same_path) before))

-- the end

pub still_right : (script script' : ScriptModel) (kind kind' : ReactorKind) (listed found : List (List Event)) →
    script' ≡ script → kind' ≡ kind → found ≡ listed → AreOrders script' kind' listed →
    AreOrders script kind found
still_right script script' kind kind' listed found same_script same_kind same right =
    subst (λ a. AreOrders a kind found) same_script
    (subst (λ b. AreOrders script' b found) same_kind (subst (AreOrders script' kind') (sym same) right))

pub still_all : (script script' : ScriptModel) (kind kind' : ReactorKind) (listed found : List (List Event)) →
    script' ≡ script → kind' ≡ kind → found ≡ listed → HasAllOrders script' kind' listed →
    HasAllOrders script kind found
still_all script script' kind kind' listed found same_script same_kind same all =
    subst (λ a. HasAllOrders a kind found) same_script
    (subst (λ b. HasAllOrders script' b found) same_kind (subst (HasAllOrders script' kind') (sym same) all))

pub now_moved : (script : ScriptModel) (kind : ReactorKind) (move is : Move) (path : List Event) (place : ℕ)
    (listed : List (List Event)) → move ≡ is → AreNowPassed script kind move path place listed →
    AreNowPassed script kind is path place listed
now_moved script kind move is path place listed same passed =
    subst (λ m. AreNowPassed script kind m path place listed) same passed
