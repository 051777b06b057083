-- Whatever may come next stands at its place.
use Rattle.std.proofs.Common.{◌≡◌, ◌<◌, ◌≤◌, ◌+◌, ◌-◌, ◌*◌, ◌/◌, ◌%◌, inl, inr, ℕ, suc, zero, Bool, true, false, Option, Some, None, length, slice_get, arith, refl, cond, ap, sym, subst, ◌∙◌}
use Rattle.std.specs.Prelude.{IsSomeAnd, nat_lt, not, ◌&&◌}
use Rattle.std.proofs.lemmas.Bool.{cases_Bool, cases_lt, le-ltb, lt-ltb}
use Rattle.std.proofs.lemmas.List.{get_or_past}
use Rattle.asio_types.specs.declared.code.Code.{Code}
use Rattle.asio_types.specs.declared.code.Code.TheVariants as code
use Rattle.asio_types.specs.declared.event.Event.{Event}
use Rattle.asio_types.specs.declared.event.Event.TheVariants as event
use Rattle.asio_types.specs.declared.outside.Point.{Point}
use Rattle.asio_types.specs.declared.outside.Point.TheVariants as point
use Rattle.history_rules.specs.Calls.{IsNextOf, body_at, is_call_done, is_made, running_body}
use Rattle.history_rules.specs.Executions.{IsReadyWith, has_finished}
use Rattle.history_rules.specs.Kinds.{is_act}
use Rattle.history_rules.specs.Legal.{MayHappen}
use Rattle.history_rules.specs.Order.{is_request, was_taken}
use Rattle.history_rules.specs.Requests.{MayTell}
use Rattle.history_rules.specs.Rounds.{is_unspent}
use Rattle.history_rules.specs.Time.{next_time}
use Rattle.history_rules.specs.State.{ContextState, ReactorHalf, State, act_at, fresh, phase_at}
use Rattle.history_rules.specs.declared.phase.ActPhase.{ActPhase}
use Rattle.history_rules.specs.declared.phase.ActPhase.TheVariants as phase
use Rattle.history_rules.specs.declared.phase.ActState.{ActState}
use Rattle.session_script.specs.Lanes.{is_inline}
use Rattle.session_script.specs.Script.{Place, ScriptModel, branch_of, is_stop, parent_of, same_class}
use Rattle.asio_types.specs.declared.code.Class.{Class}
use Rattle.stream_rules.specs.declared.queue.Completion.{Completion}
use Rattle.session_orders.specs.declared.bounds.ReactorKind.{ReactorKind}
use Rattle.session_orders.specs.Order.{IsAsked, mark_of}
use Rattle.session_orders.specs.Place.{AllFit, act_event, base_of, has_own, number_of, own_event, own_place, sizes, begin_in, done_in, event_at, other_event, place_of, places_of, tick_in}
use Rattle.session_orders.proofs.OwnLemmas.{is_own, own_below, own_found, own_parts, own_stands, told_next}
use Rattle.session_orders.proofs.SizeLemmas.{numbers_below}

-- an act to which something has happened is one of the script's
touched : (s : ContextState) (n : ℕ) → (act_at s n ≡ fresh → ⊥) → n < length s.acts
touched s n not_fresh =
    elim (cases_lt n (length s.acts)) [ inl below ↦ below | inr past ↦ absurd (not_fresh (get_or_past s.acts n fresh past)) ]

-- a body calls acts of the script
running_calls : (script : ScriptModel) (o : ℕ) (class : Class) (phase : ActPhase) (a : ℕ) →
    IsSomeAnd (running_body script o class phase) (IsNextOf a) → a < length script.acts
running_calls script o class (phase.Running running progress) a calls = by_class (same_class running class) calls
  where
    by_class : (same : Bool) →
        IsSomeAnd (cond same (Some (record { acts = branch_of script o class; progress = progress })) None) (IsNextOf a) →
        a < length script.acts
    by_class true calls = omega (arith, numbers_below (Some (o, class)) 0 script.acts progress.made a calls.next)
    by_class false calls = absurd calls
running_calls script o class phase.Absent a calls = absurd calls
running_calls script o class phase.Inside a calls = absurd calls
running_calls script o class phase.Requested a calls = absurd calls
running_calls script o class (phase.Ready code size cause) a calls = absurd calls
running_calls script o class phase.Ended a calls = absurd calls
running_calls script o class phase.Dropped a calls = absurd calls
running_calls script o class phase.Asked a calls = absurd calls

place_calls : (script : ScriptModel) (failed : Bool) (s : ContextState) (place : Place) (a : ℕ) →
    IsSomeAnd (body_at script failed s place) (IsNextOf a) → a < length script.acts
place_calls script true s None a calls = absurd calls
place_calls script false s None a calls =
    omega (arith, numbers_below None 0 script.acts s.opening.made a calls.next)
place_calls script failed s (Some place) a calls =
    running_calls script place.0 place.1 (phase_at s place.0) a calls

-- nothing of this is true of an act to which nothing has happened
fresh_call_isn't_done : (stops inside : Bool) → is_call_done stops inside fresh ≡ false
fresh_call_isn't_done true inside = refl
fresh_call_isn't_done false inside = refl

true_or_false : {A : Type 0} → false ≡ true → A
true_or_false wrong = cc

fact_of_fresh : (s : ContextState) (n : ℕ) (test : ActState → Bool) → test fresh ≡ false → test (act_at s n) ≡ true →
    n < length s.acts
fact_of_fresh s n test none holds =
    touched s n (λ is_fresh. true_or_false (sym none ∙ ap test (sym is_fresh) ∙ holds))

first_holds : (first second : Bool) → (first && second) ≡ true → first ≡ true
first_holds true second both = refl
first_holds false second both = both

-- the event is one of an act of the script, or of none
abbrev IsNumbered : ScriptModel → Event → Type 0
IsNumbered script (event.Call a) = a < length script.acts
IsNumbered script (event.Back a) = a < length script.acts
IsNumbered script (event.Stop (Some a)) = a < length script.acts
IsNumbered script (event.Begin o code size) = o < length script.acts
IsNumbered script (event.End o mark) = o < length script.acts
IsNumbered script (event.Take a) = a < length script.acts
IsNumbered script (event.Dropped o mark) = o < length script.acts
IsNumbered script _ = Unit {0}

-- the act of an event that may happen is one of the script's
is_numbered : (script : ScriptModel) (kind : ReactorKind) (s : State) (event : Event) →
    length s.context.acts ≡ length script.acts → IsAsked kind event → MayHappen script kind.told s event →
    IsNumbered script event
is_numbered script kind s (event.Call a) long asked may =
    place_calls script s.reactor.failed s.context (parent_of script a) a may
is_numbered script kind s (event.Back a) long asked may =
    let below =
    fact_of_fresh s.context a (is_call_done (is_act is_stop script a) (is_inline script a))
    (fresh_call_isn't_done (is_act is_stop script a) (is_inline script a)) may in omega (arith, below, long)
is_numbered script kind s (event.Stop (Some a)) long asked may =
    let below = fact_of_fresh s.context a (λ act. is_made act.call) refl may.made in omega (arith, below, long)
is_numbered script kind s (event.Stop None) long asked may = absurd asked
is_numbered script kind s (event.Begin o code size) long asked (inl may) =
    let below =
    touched s.context o (λ is_fresh.
    let wrong : phase.Absent ≡ phase.Ready code size may.ready.0 = sym (ap (λ act. act.phase) is_fresh) ∙ may.ready.1 in cc) in
    omega (arith, below, long)
is_numbered script kind s (event.Begin o code size) long asked (inr may) =
    let below =
    touched s.context o (λ is_fresh.
    let wrong : phase.Absent ≡ phase.Inside = sym (ap (λ act. act.phase) is_fresh) ∙ may.inside in cc) in
    omega (arith, below, long)
is_numbered script kind s (event.End o mark) long asked may =
    let below = fact_of_fresh s.context o (λ act. has_finished script o act.phase) refl may in omega (arith, below, long)
is_numbered script kind s (event.Take a) long asked may =
    let below =
    fact_of_fresh s.context a (λ act. is_request act.phase) refl
    (first_holds (is_request (phase_at s.context a)) (not (was_taken s.reactor a)) may.untaken) in
    omega (arith, below, long)
is_numbered script kind s (event.Done o code size) long asked may = tt
is_numbered script kind s (event.Tick now) long asked may = tt
is_numbered script kind s event.Last long asked may = tt
is_numbered script kind s event.Fault long asked may = tt
is_numbered script kind s event.Ended long asked may = tt
is_numbered script kind s event.Stopped long asked may = tt
is_numbered script kind s event.Polled long asked may = tt
is_numbered script kind s event.Restart long asked may = tt
is_numbered script kind s (event.Dropped o mark) long asked may =
    let below = fact_of_fresh s.context o (λ act. is_unspent act.phase) refl may.next.left in omega (arith, below, long)

-- it stands in a place that there is

base_within : (script : ScriptModel) (kind : ReactorKind) → base_of script ≤ places_of script kind
base_within script kind = by_told kind.told
  where
    by_told : (told : Bool) →
        base_of script ≤ cond told (base_of script) (base_of script + 7 * length script.acts * sizes)
    by_told true = omega arith
    by_told false = omega arith

places_untold : (script : ScriptModel) (kind : ReactorKind) → kind.told ≡ false →
    places_of script kind ≡ base_of script + 7 * length script.acts * sizes
places_untold script kind is =
    ap (λ told. cond told (base_of script) (base_of script + 7 * length script.acts * sizes)) is

places_told : (script : ScriptModel) (kind : ReactorKind) → kind.told ≡ true → places_of script kind ≡ base_of script
places_told script kind is =
    ap (λ told. cond told (base_of script) (base_of script + 7 * length script.acts * sizes)) is

done_own : (script : ScriptModel) (kind : ReactorKind) (o : ℕ) (code : Code) (size : ℕ) →
    has_own script kind o size ≡ true → place_of script kind (event.Done o code size) ≡ own_place script o code size
done_own script kind o code size own =
    ap (λ b. cond b (own_place script o code size) (8 * length script.acts)) own

done_told : (script : ScriptModel) (kind : ReactorKind) (o : ℕ) (code : Code) (size : ℕ) →
    has_own script kind o size ≡ false → place_of script kind (event.Done o code size) ≡ 8 * length script.acts
done_told script kind o code size other =
    ap (λ b. cond b (own_place script o code size) (8 * length script.acts)) other

done_below : (script : ScriptModel) (kind : ReactorKind) (o : ℕ) (code : Code) (size : ℕ) → AllFit script →
    place_of script kind (event.Done o code size) < places_of script kind
done_below script kind o code size fits =
    elim (cases_Bool (has_own script kind o size)) [
      | inl own ↦
          let here = own_parts script kind o size own in
          let at = done_own script kind o code size own in
          let few = fits o in
          let within = here.within in
          let below = own_below script o code size here.below (omega (arith, few, within)) in
          let all = places_untold script kind here.untold in
          omega (arith, at, below, all)
      | inr other ↦
          let at = done_told script kind o code size other in
          let all = base_within script kind in
          omega (arith, at, all)
    ]

numbered_below : (script : ScriptModel) (kind : ReactorKind) (event : Event) → AllFit script → IsNumbered script event →
    place_of script kind event < places_of script kind
numbered_below script kind (event.Call a) fits below = let all = base_within script kind in omega (arith, all, below)
numbered_below script kind (event.Back a) fits below = let all = base_within script kind in omega (arith, all, below)
numbered_below script kind (event.Stop (Some a)) fits below = let all = base_within script kind in omega (arith, all, below)
numbered_below script kind (event.Stop None) fits below = let all = base_within script kind in omega (arith, all)
numbered_below script kind (event.Begin o code size) fits below = let all = base_within script kind in omega (arith, all, below)
numbered_below script kind (event.End o mark) fits below = let all = base_within script kind in omega (arith, all, below)
numbered_below script kind (event.Take a) fits below = let all = base_within script kind in omega (arith, all, below)
numbered_below script kind (event.Done o code size) fits below = done_below script kind o code size fits
numbered_below script kind (event.Tick now) fits below = let all = base_within script kind in omega (arith, all)
numbered_below script kind event.Last fits below = let all = base_within script kind in omega (arith, all)
numbered_below script kind event.Fault fits below = let all = base_within script kind in omega (arith, all)
numbered_below script kind event.Ended fits below = let all = base_within script kind in omega (arith, all)
numbered_below script kind event.Stopped fits below = let all = base_within script kind in omega (arith, all)
numbered_below script kind event.Polled fits below = let all = base_within script kind in omega (arith, all)
numbered_below script kind event.Restart fits below = let all = base_within script kind in omega (arith, all)
numbered_below script kind (event.Dropped o mark) fits below = let all = base_within script kind in omega (arith, all, below)

pub is_below : (script : ScriptModel) (kind : ReactorKind) (s : State) (event : Event) → AllFit script →
    length s.context.acts ≡ length script.acts → IsAsked kind event → MayHappen script kind.told s event →
    place_of script kind event < places_of script kind
is_below script kind s event fits long asked may =
    numbered_below script kind event fits (is_numbered script kind s event long asked may)

by_row : (row column : ℕ) → column < 8 → (8 * row + column) / 8 ≡ row
by_row row column below = omega (arith, below)

by_column : (row column : ℕ) → column < 8 → (8 * row + column) % 8 ≡ column
by_column row column below = omega (arith, below)

-- what stands behind the places of the acts
abbrev behind_acts : ScriptModel → ReactorKind → State → ℕ → Option Event
behind_acts script kind s place =
    cond (nat_lt place (base_of script)) (other_event script kind s.reactor (place % 8))
    (own_event script (place - base_of script))

act_placed : (script : ScriptModel) (kind : ReactorKind) (s : State) (act column : ℕ) → column < 8 →
    act < length script.acts → event_at script kind s (8 * act + column) ≡ act_event s act column
act_placed script kind s act column below is_act =
    let place = 8 * act + column in
    let Q : ℕ → ℕ → Option Event =
    λ q r. cond (nat_lt q (length script.acts)) (act_event s q r) (behind_acts script kind s place) in
    ap (λ q. Q q (place % 8)) (by_row act column below) ∙ ap (Q act) (by_column act column below)
    ∙ ap (λ b. cond b (act_event s act column) (behind_acts script kind s place)) (lt-ltb act (length script.acts) is_act)

pub past_acts : (script : ScriptModel) (kind : ReactorKind) (s : State) (place : ℕ) → 8 * length script.acts ≤ place →
    event_at script kind s place ≡ behind_acts script kind s place
past_acts script kind s place past =
    ap (λ b. cond b (act_event s (place / 8) (place % 8)) (behind_acts script kind s place))
    (le-ltb (place / 8) (length script.acts) (omega (arith, past)))

other_placed : (script : ScriptModel) (kind : ReactorKind) (s : State) (column : ℕ) → column < 8 →
    event_at script kind s (8 * length script.acts + column) ≡ other_event script kind s.reactor column
other_placed script kind s column below =
    let place = 8 * length script.acts + column in
    past_acts script kind s place (omega arith)
    ∙ ap (λ b. cond b (other_event script kind s.reactor (place % 8)) (own_event script (place - base_of script)))
    (lt-ltb place (base_of script) (omega (arith, below)))
    ∙ ap (other_event script kind s.reactor) (by_column (length script.acts) column below)

pub own_placed : (script : ScriptModel) (kind : ReactorKind) (s : State) (place : ℕ) → base_of script ≤ place →
    event_at script kind s place ≡ own_event script (place - base_of script)
own_placed script kind s place past =
    past_acts script kind s place (omega (arith, past))
    ∙ ap (λ b. cond b (other_event script kind s.reactor (place % 8)) (own_event script (place - base_of script)))
    (le-ltb place (base_of script) past)

-- a completion that may be told stands at its place
done_placed : (script : ScriptModel) (kind : ReactorKind) (s : State) (o : ℕ) (code : Code) (size : ℕ) →
    AllFit script → MayTell script kind.told s.reactor o code size →
    event_at script kind s (place_of script kind (event.Done o code size)) ≡ Some (event.Done o code size)
done_placed script kind s o code size fits may =
    elim (cases_Bool (has_own script kind o size)) [
      | inl own ↦
          let here = own_parts script kind o size own in
          let few = fits o in
          let within = here.within in
          let place = own_place script o code size in
          let past : base_of script ≤ place = omega arith in
          let is : place - base_of script ≡ (7 * o + number_of code) * sizes + size = omega arith in
          ap (event_at script kind s) (done_own script kind o code size own) ∙ own_placed script kind s place past
          ∙ own_found script (place - base_of script) o code size is (omega (arith, few, within)) within
      | inr other ↦
          let first : 8 * length script.acts ≡ 8 * length script.acts + 0 = omega arith in
          ap (event_at script kind s) (done_told script kind o code size other ∙ first)
          ∙ other_placed script kind s 0 (omega arith) ∙ told_next script kind s.reactor o code size other may
    ]

-- what may begin is what begins next
begun_next : (p : ActPhase) (o : ℕ) (code : Code) (size : ℕ) → IsReadyWith p code size →
    begin_in p o ≡ Some (event.Begin o code size)
begun_next p o code size ready = ap (λ q. begin_in q o) ready.1

-- whatever may happen and is asked for stands at its place
pub is_placed : (script : ScriptModel) (kind : ReactorKind) (s : State) (event : Event) → AllFit script →
    length s.context.acts ≡ length script.acts → IsAsked kind event → MayHappen script kind.told s event →
    event_at script kind s (place_of script kind event) ≡ Some event
is_placed script kind s (event.Call a) fits long asked may =
    act_placed script kind s a 0 (omega arith) (is_numbered script kind s (event.Call a) long asked may)
is_placed script kind s (event.Back a) fits long asked may =
    act_placed script kind s a 1 (omega arith) (is_numbered script kind s (event.Back a) long asked may)
is_placed script kind s (event.Stop (Some a)) fits long asked may =
    act_placed script kind s a 2 (omega arith) (is_numbered script kind s (event.Stop (Some a)) long asked may)
is_placed script kind s (event.Stop None) fits long asked may = absurd asked
is_placed script kind s (event.Begin o code size) fits long asked (inl may) =
    act_placed script kind s o 3 (omega arith)
    (is_numbered script kind s (event.Begin o code size) long asked (inl may))
    ∙ begun_next (phase_at s.context o) o code size may.ready
is_placed script kind s (event.Begin o given size) fits long asked (inr may) =
    let inside : begin_in (phase_at s.context o) o ≡ Some (event.Begin o code.Ok 0) = ap (λ q. begin_in q o) may.inside in
    let ok = may.ok in
    let none = may.empty in
    act_placed script kind s o 3 (omega arith)
    (is_numbered script kind s (event.Begin o given size) long asked (inr may))
    ∙ inside ∙ cc
is_placed script kind s (event.End o mark) fits long asked may =
    act_placed script kind s o 4 (omega arith) (is_numbered script kind s (event.End o mark) long asked may)
    ∙ ap (λ m. Some (event.End o m)) (sym asked)
is_placed script kind s (event.Take a) fits long asked may =
    act_placed script kind s a 5 (omega arith) (is_numbered script kind s (event.Take a) long asked may)
is_placed script kind s (event.Dropped o mark) fits long asked may =
    act_placed script kind s o 6 (omega arith) (is_numbered script kind s (event.Dropped o mark) long asked may)
    ∙ ap (λ m. Some (event.Dropped o m)) (sym asked)
is_placed script kind s (event.Done o code size) fits long asked may =
    done_placed script kind s o code size fits may.next
is_placed script kind s (event.Tick now) fits long asked may =
    other_placed script kind s 1 (omega arith) ∙ ap tick_in may.next
is_placed script kind s event.Last fits long asked may = other_placed script kind s 2 (omega arith)
is_placed script kind s event.Fault fits long asked may =
    other_placed script kind s 3 (omega arith) ∙ ap (λ b. cond b (Some event.Fault) None) asked
is_placed script kind s event.Ended fits long asked may = other_placed script kind s 4 (omega arith)
is_placed script kind s event.Stopped fits long asked may = other_placed script kind s 5 (omega arith)
is_placed script kind s event.Polled fits long asked may = other_placed script kind s 6 (omega arith)
is_placed script kind s event.Restart fits long asked may = other_placed script kind s 7 (omega arith)

-- no two events that may happen stand at one place
pub same_event : (script : ScriptModel) (kind : ReactorKind) (s : State) (first second : Event) → AllFit script →
    length s.context.acts ≡ length script.acts → IsAsked kind first → MayHappen script kind.told s first →
    IsAsked kind second → MayHappen script kind.told s second → place_of script kind first ≡ place_of script kind second →
    first ≡ second
same_event script kind s first second fits long asked may other_asked other_may same =
    let one : Some first ≡ Some second =
    sym (is_placed script kind s first fits long asked may) ∙ ap (event_at script kind s) same
    ∙ is_placed script kind s second fits long other_asked other_may in
    cc

-- what stands in a row and a column, and is asked for
record StandsAt (script : ScriptModel) (kind : ReactorKind) (row column : ℕ) (event : Event) : Type 0 where
  pub place_is : place_of script kind event ≡ 8 * row + column
  pub is_asked : IsAsked kind event

stands : (script : ScriptModel) (kind : ReactorKind) (row column : ℕ) (first second : Event) →
    StandsAt script kind row column first → Some first ≡ Some second → StandsAt script kind row column second
stands script kind row column first second at same =
    let one : first ≡ second = cc in subst (StandsAt script kind row column) one at

none_stands : {A : Type 0} (found : Event) → None ≡ Some found → A
none_stands found wrong = cc

begin_stands : (script : ScriptModel) (kind : ReactorKind) (p : ActPhase) (op : ℕ) (found : Event) →
    begin_in p op ≡ Some found → StandsAt script kind op 3 found
begin_stands script kind (phase.Ready code size cause) op found is =
    stands script kind op 3 (event.Begin op code size) found
    (record { place_is = refl; is_asked = tt }) is
begin_stands script kind phase.Inside op found is =
    stands script kind op 3 (event.Begin op code.Ok 0) found
    (record { place_is = refl; is_asked = tt }) is
begin_stands script kind phase.Absent op found is = none_stands found is
begin_stands script kind phase.Requested op found is = none_stands found is
begin_stands script kind (phase.Running class progress) op found is = none_stands found is
begin_stands script kind phase.Ended op found is = none_stands found is
begin_stands script kind phase.Dropped op found is = none_stands found is
begin_stands script kind phase.Asked op found is = none_stands found is

-- the event of an act in a column is of that act and column, and asked for
act_stands : (script : ScriptModel) (kind : ReactorKind) (s : State) (act column : ℕ) (found : Event) → column < 8 →
    act_event s act column ≡ Some found → StandsAt script kind act column found
act_stands script kind s act zero found below is =
    stands script kind act 0 (event.Call act) found (record { place_is = refl; is_asked = tt }) is
act_stands script kind s act (suc zero) found below is =
    stands script kind act 1 (event.Back act) found (record { place_is = refl; is_asked = tt }) is
act_stands script kind s act (suc (suc zero)) found below is =
    stands script kind act 2 (event.Stop (Some act)) found
    (record { place_is = refl; is_asked = tt }) is
act_stands script kind s act (suc (suc (suc zero))) found below is =
    begin_stands script kind (phase_at s.context act) act found is
act_stands script kind s act (suc (suc (suc (suc zero)))) found below is =
    stands script kind act 4 (event.End act (mark_of act)) found
    (record { place_is = refl; is_asked = refl }) is
act_stands script kind s act (suc (suc (suc (suc (suc zero))))) found below is =
    stands script kind act 5 (event.Take act) found (record { place_is = refl; is_asked = tt }) is
act_stands script kind s act (suc (suc (suc (suc (suc (suc zero)))))) found below is =
    stands script kind act 6 (event.Dropped act (mark_of act)) found
    (record { place_is = refl; is_asked = refl }) is
act_stands script kind s act (suc (suc (suc (suc (suc (suc (suc zero))))))) found below is = none_stands found is
act_stands script kind s act (suc (suc (suc (suc (suc (suc (suc (suc more)))))))) found below is =
    absurd (omega (arith, below))

done_stands : (script : ScriptModel) (kind : ReactorKind) (next : Option Completion) (found : Event) →
    done_in script kind next ≡ Some found → StandsAt script kind (length script.acts) 0 found
done_stands script kind None found is = none_stands found is
done_stands script kind (Some next) found is =
    let here : Event = event.Done next.op next.outcome.0 next.outcome.1 in
    elim (cases_Bool (has_own script kind next.op next.outcome.1)) [
      | inl own ↦ none_stands found (sym (ap (λ b. cond b None (Some here)) own) ∙ is)
      | inr other ↦
          let at = done_told script kind next.op next.outcome.0 next.outcome.1 other in
          stands script kind (length script.acts) 0 here found
          (record { place_is = omega (arith, at); is_asked = tt }) (sym (ap (λ b. cond b None (Some here)) other) ∙ is)
    ]

tick_stands : (script : ScriptModel) (kind : ReactorKind) (next : Point) (found : Event) →
    tick_in next ≡ Some found → StandsAt script kind (length script.acts) 1 found
tick_stands script kind point.Last found is = none_stands found is
tick_stands script kind (point.Time now) found is =
    stands script kind (length script.acts) 1 (event.Tick now) found
    (record { place_is = refl; is_asked = tt }) is

fault_stands : (script : ScriptModel) (kind : ReactorKind) (found : Event) →
    cond kind.failing (Some event.Fault) None ≡ Some found → StandsAt script kind (length script.acts) 3 found
fault_stands script kind found is =
    elim (cases_Bool kind.failing) [
      | inl fails ↦
          stands script kind (length script.acts) 3 event.Fault found (record { place_is = refl; is_asked = fails })
          (sym (ap (λ b. cond b (Some event.Fault) None) fails) ∙ is)
      | inr works ↦ none_stands found (sym (ap (λ b. cond b (Some event.Fault) None) works) ∙ is)
    ]

other_stands : (script : ScriptModel) (kind : ReactorKind) (r : ReactorHalf) (column : ℕ) (found : Event) → column < 8 →
    other_event script kind r column ≡ Some found → StandsAt script kind (length script.acts) column found
other_stands script kind r zero found below is = done_stands script kind (slice_get r.due 0) found is
other_stands script kind r (suc zero) found below is = tick_stands script kind (next_time script r) found is
other_stands script kind r (suc (suc zero)) found below is =
    stands script kind (length script.acts) 2 event.Last found
    (record { place_is = refl; is_asked = tt }) is
other_stands script kind r (suc (suc (suc zero))) found below is = fault_stands script kind found is
other_stands script kind r (suc (suc (suc (suc zero)))) found below is =
    stands script kind (length script.acts) 4 event.Ended found
    (record { place_is = refl; is_asked = tt }) is
other_stands script kind r (suc (suc (suc (suc (suc zero))))) found below is =
    stands script kind (length script.acts) 5 event.Stopped found
    (record { place_is = refl; is_asked = tt }) is
other_stands script kind r (suc (suc (suc (suc (suc (suc zero)))))) found below is =
    stands script kind (length script.acts) 6 event.Polled found
    (record { place_is = refl; is_asked = tt }) is
other_stands script kind r (suc (suc (suc (suc (suc (suc (suc zero))))))) found below is =
    stands script kind (length script.acts) 7 event.Restart found
    (record { place_is = refl; is_asked = tt }) is
other_stands script kind r (suc (suc (suc (suc (suc (suc (suc (suc more)))))))) found below is =
    absurd (omega (arith, below))

-- a completion that stands at a place of its own has it
own_at : (script : ScriptModel) (kind : ReactorKind) (place : ℕ) (found : Event) → base_of script ≤ place →
    place < places_of script kind → own_event script (place - base_of script) ≡ Some found →
    IsAsked kind found × (place_of script kind found ≡ place)
own_at script kind place found past below is =
    let n = place - base_of script in
    let here = own_stands script n found is in
    elim (cases_Bool kind.told) [
      | inl told ↦ let all = places_told script kind told in absurd (omega (arith, all, past, below))
      | inr untold ↦
          let all = places_untold script kind untold in
          let op_below : n / sizes / 7 < length script.acts = omega (arith, all, past, below) in
          let at =
          done_own script kind (n / sizes / 7) here.code (n % sizes)
          (is_own script kind (n / sizes / 7) (n % sizes) untold op_below here.within) in
          let number = here.number in
          let place_is : place_of script kind (event.Done (n / sizes / 7) here.code (n % sizes)) ≡ place =
          omega (arith, at, number, past) in
          subst (λ e. IsAsked kind e × (place_of script kind e ≡ place)) here.is (tt, place_is)
    ]

-- the event at a place is asked for, and its place is this
pub is_at : (script : ScriptModel) (kind : ReactorKind) (s : State) (place : ℕ) (found : Event) →
    place < places_of script kind → event_at script kind s place ≡ Some found →
    IsAsked kind found × (place_of script kind found ≡ place)
is_at script kind s place found below is =
    let column_below : place % 8 < 8 = omega arith in
    elim (cases_lt (place / 8) (length script.acts)) [
      | inl less ↦
          let here = lt-ltb (place / 8) (length script.acts) less in
          let at =
          act_stands script kind s (place / 8) (place % 8) found column_below
          (sym (ap (λ b. cond b (act_event s (place / 8) (place % 8)) (behind_acts script kind s place)) here) ∙ is) in
          let place_is = at.place_is in
          (at.is_asked, omega (arith, place_is))
      | inr more ↦
          elim (cases_lt place (base_of script)) [
            | inl first ↦
                let here = past_acts script kind s place (omega (arith, more)) in
                let inside =
                ap (λ b. cond b (other_event script kind s.reactor (place % 8)) (own_event script (place - base_of script)))
                (lt-ltb place (base_of script) first) in
                let at =
                other_stands script kind s.reactor (place % 8) found column_below (sym inside ∙ sym here ∙ is) in
                let place_is = at.place_is in
                (at.is_asked, omega (arith, place_is, first, more))
            | inr past ↦ own_at script kind place found past below (sym (own_placed script kind s place past) ∙ is)
          ]
    ]

-- no event but a completion stands behind the base, and it is one that is told

pub behind_base : (script : ScriptModel) (kind : ReactorKind) (s : State) (event : Event) → AllFit script →
    length s.context.acts ≡ length script.acts → IsAsked kind event → MayHappen script kind.told s event →
    base_of script ≤ place_of script kind event →
    own_event script (place_of script kind event - base_of script) ≡ Some event
behind_base script kind s event fits long asked may past =
    sym (own_placed script kind s (place_of script kind event) past) ∙ is_placed script kind s event fits long asked may
