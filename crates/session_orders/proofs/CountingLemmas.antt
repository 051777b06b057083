-- What is counted, by the replays that have come to the states.
use Rattle.std.proofs.Common.{◌≡◌, ◌<◌, ◌≤◌, ◌+◌, ℕ, Bool, true, List, [], ◌∷◌, ◌++◌, length, get_or, set, arith, refl, ap, sym, subst, ◌∙◌}
use Rattle.std.proofs.lemmas.List.{get_or_default}
use Rattle.std.proofs.lemmas.List.Elements.{All-get_or, All-push, All-rest, All-set}
use Rattle.asio_types.specs.declared.event.Event.{Event}
use Rattle.history_book.specs.Replay.{Replayed}
use Rattle.history_rules.specs.Legal.{IsLegalSoFar, IsWhole, after_event, state_of}
use Rattle.history_rules.specs.State.{State, first_state}
use Rattle.session_script.specs.Script.{ScriptModel}
use Rattle.session_orders.specs.declared.bounds.ReactorKind.{ReactorKind}
use Rattle.session_orders.specs.Count.{HasJoined, HasMoved, HasPassed, HaveCome, Reaching, with_more}
use Rattle.session_orders.specs.Place.{place_of, places_of}
use Rattle.session_orders.specs.Walk.{HasCome, NoneBetween}
use Rattle.session_orders.proofs.ComeLemmas.{all_below, asked_last, legal_last, state_then, whole_in}
use Rattle.session_orders.proofs.CountLemmas.{lead_push, lead_set, moved_one, passed_open_state, passed_whole_state}
use Rattle.session_orders.proofs.PassedLemmas.{IsOnly}
use Rattle.session_orders.proofs.PlaceLemmas.{same_event}
use Rattle.session_orders.proofs.SizeLemmas.{size_of}

pub come_moved : (script : ScriptModel) (kind : ReactorKind) (r r' : Replayed) (path path' : List Event) → r' ≡ r →
    path' ≡ path → HasCome script kind r path → HasCome script kind r' path'
come_moved script kind r r' path path' same same_path come =
    subst (λ a. HasCome script kind a path') (sym same) (subst (HasCome script kind r) (sym same_path) come)

pub moved_by : (script : ScriptModel) (kind : ReactorKind) (r : Replayed) (path : List Event) (event : Event)
    (place times : ℕ) (old new : List Reaching) (one : Reaching) → HasCome script kind r (path ++ event ∷ []) →
    place_of script kind event ≡ place → HasCome script kind one.replay one.path → one.path ≡ path ++ event ∷ [] →
    one.times ≡ times → HasJoined script kind one.replay.state one.times old new →
    HasMoved script kind (state_of script kind.told path) times old new place (place + 1)
moved_by script kind r path event place times old new one come at one_come same_path same_times joined =
    let s = state_of script kind.told path in
    let asked = asked_last kind path event come.asked in
    let may = legal_last script kind.told (first_state script kind.told) path event come.legal in
    let only : IsOnly script kind s event =
    λ other other_asked other_may same.
    same_event script kind s other event come.fits (size_of script kind.told path) other_asked other_may asked may same in
    let state : one.replay.state ≡ after_event script kind.told s event =
    one_come.state ∙ ap (state_of script kind.told) same_path ∙ state_then script kind.told (first_state script kind.told) path event in
    let next : HasJoined script kind (after_event script kind.told s event) times old new =
    subst (λ t. HasJoined script kind t times old new) state
    (subst (λ n. HasJoined script kind one.replay.state n old new) same_times joined) in
    moved_one script kind s times old new place event asked may at only next

pub passed_if_whole : (script : ScriptModel) (kind : ReactorKind) (r : Replayed) (path : List Event)
    (times counted total : ℕ) (old new : List Reaching) → HasCome script kind r path → IsWhole r.script r.state →
    total ≡ counted + times → HasMoved script kind (state_of script kind.told path) times old new 0 (places_of script kind) →
    HasPassed script kind r.state times old new counted total
passed_if_whole script kind r path times counted total old new come whole is moved =
    subst (λ s. HasPassed script kind s times old new counted total) (sym come.state)
    (passed_whole_state script kind (state_of script kind.told path) times old new (places_of script kind) counted total
    (all_below script kind path (places_of script kind) come.fits (omega arith)) ((whole_in script kind r path come).0 whole) is moved)

pub passed_if_open : (script : ScriptModel) (kind : ReactorKind) (r : Replayed) (path : List Event) (times counted : ℕ)
    (old new : List Reaching) → HasCome script kind r path → (IsWhole r.script r.state → ⊥) →
    HasMoved script kind (state_of script kind.told path) times old new 0 (places_of script kind) →
    HasPassed script kind r.state times old new counted counted
passed_if_open script kind r path times counted old new come left moved =
    subst (λ s. HasPassed script kind s times old new counted counted) (sym come.state)
    (passed_open_state script kind (state_of script kind.told path) times old new (places_of script kind) counted
    (all_below script kind path (places_of script kind) come.fits (omega arith))
    (λ whole. left ((whole_in script kind r path come).1 whole)) moved)

-- what joins

pub joined_set : (script : ScriptModel) (kind : ReactorKind) (old new : List Reaching) (at times : ℕ) (one : Reaching) →
    at < length old → new ≡ set old at (with_more times (get_or old at one)) →
    (get_or old at one).replay.state ≡ one.replay.state → HasJoined script kind one.replay.state times old new
joined_set script kind old new at times one below is same =
    subst (λ xs. HasJoined script kind one.replay.state times old xs) (sym is)
    (subst (λ s. HasJoined script kind s times old (set old at (with_more times (get_or old at one)))) same
    (lead_set script kind old at one times below))

pub have_set : (script : ScriptModel) (kind : ReactorKind) (old new : List Reaching) (at times : ℕ) (one : Reaching) →
    at < length old → new ≡ set old at (with_more times (get_or old at one)) → HaveCome script kind old →
    HaveCome script kind new
have_set script kind old new at times one below is have =
    let here : HasCome script kind (get_or old at one).replay (get_or old at one).path = have at one below in
    subst (HaveCome script kind) (sym is)
    (All-set (λ x. HasCome script kind x.replay x.path) old at (with_more times (get_or old at one)) here have)

pub joined_push : (script : ScriptModel) (kind : ReactorKind) (old new : List Reaching) (one : Reaching) →
    new ≡ old ++ one ∷ [] → HasJoined script kind one.replay.state one.times old new
joined_push script kind old new one is =
    subst (HasJoined script kind one.replay.state one.times old) (sym is) (lead_push script kind old one)

pub have_push : (script : ScriptModel) (kind : ReactorKind) (old new : List Reaching) (one : Reaching) →
    new ≡ old ++ one ∷ [] → HaveCome script kind old → HasCome script kind one.replay one.path →
    HaveCome script kind new
have_push script kind old new one is have come =
    subst (HaveCome script kind) (sym is)
    (All-push (λ x. HasCome script kind x.replay x.path) old one have come)

pub came_at : (script : ScriptModel) (kind : ReactorKind) (queue : List Reaching) (at : ℕ) (one : Reaching) →
    at < length queue → one ≡ get_or queue at one → HaveCome script kind queue →
    HasCome script kind one.replay one.path
came_at script kind queue at one below is have =
    subst (λ x. HasCome script kind x.replay x.path) (sym is) (have at one below)

pub same_at : (queue : List Reaching) (at : ℕ) (one : Reaching) (s : State) → at < length queue →
    one ≡ get_or queue at one → one.replay.state ≡ s → (d : Reaching) → (get_or queue at d).replay.state ≡ s
same_at queue at one s below is same d =
    ap (λ x. x.replay.state) (get_or_default queue at d one below ∙ sym is) ∙ same

pub first_came : (script : ScriptModel) (kind : ReactorKind) (queue rest : List Reaching) (one : Reaching) →
    queue ≡ one ∷ rest → HaveCome script kind queue → HasCome script kind one.replay one.path
first_came script kind queue rest one is have =
    (subst (HaveCome script kind) is have) 0 one (omega arith)

pub rest_came : (script : ScriptModel) (kind : ReactorKind) (queue rest : List Reaching) (one : Reaching) →
    queue ≡ one ∷ rest → HaveCome script kind queue → HaveCome script kind rest
rest_came script kind queue rest one is have =
    All-rest (λ x. HasCome script kind x.replay x.path) one rest queue is have

-- along the same script, flag and beginning

pub come_same : (script script' : ScriptModel) (kind kind' : ReactorKind) (path path' : List Event) (r : Replayed) →
    script' ≡ script → kind' ≡ kind → path' ≡ path → HasCome script' kind' r path' → HasCome script kind r path
come_same script script' kind kind' path path' r same_script same_kind same_path come =
    subst (λ a. HasCome a kind r path) same_script
    (subst (λ b. HasCome script' b r path) same_kind (subst (HasCome script' kind' r) same_path come))

pub have_same : (script script' : ScriptModel) (kind kind' : ReactorKind) (reached : List Reaching) →
    script' ≡ script → kind' ≡ kind → HaveCome script' kind' reached → HaveCome script kind reached
have_same script script' kind kind' reached same_script same_kind have =
    subst (λ a. HaveCome a kind reached) same_script (subst (λ b. HaveCome script' b reached) same_kind have)

pub moved_same : (script script' : ScriptModel) (kind kind' : ReactorKind) (path path' : List Event) (times : ℕ)
    (old new : List Reaching) (from upto : ℕ) → script' ≡ script → kind' ≡ kind → path' ≡ path →
    HasMoved script' kind' (state_of script' kind'.told path') times old new from upto →
    HasMoved script kind (state_of script kind.told path) times old new from upto
moved_same script script' kind kind' path path' times old new from upto same_script same_kind same_path moved =
    subst (λ a. HasMoved a kind (state_of a kind.told path) times old new from upto) same_script
    (subst (λ b. HasMoved script' b (state_of script' b.told path) times old new from upto) same_kind
    (subst (λ es. HasMoved script' kind' (state_of script' kind'.told es) times old new from upto) same_path moved))

pub none_same : (script script' : ScriptModel) (kind kind' : ReactorKind) (path path' : List Event) (from upto : ℕ) →
    script' ≡ script → kind' ≡ kind → path' ≡ path →
    NoneBetween script' kind' (state_of script' kind'.told path') from upto →
    NoneBetween script kind (state_of script kind.told path) from upto
none_same script script' kind kind' path path' from upto same_script same_kind same_path none =
    subst (λ a. NoneBetween a kind (state_of a kind.told path) from upto) same_script
    (subst (λ b. NoneBetween script' b (state_of script' b.told path) from upto) same_kind
    (subst (λ es. NoneBetween script' kind' (state_of script' kind'.told es) from upto) same_path none))

pub past_same : (script script' : ScriptModel) (kind kind' : ReactorKind) (place : ℕ) → script' ≡ script →
    kind' ≡ kind → places_of script' kind' ≤ place → places_of script kind ≤ place
past_same script script' kind kind' place same_script same_kind past =
    subst (λ a. places_of a kind ≤ place) same_script (subst (λ b. places_of script' b ≤ place) same_kind past)
