-- Which states an act of a session that a number makes comes through, by what it is.
use Rattle.std.proofs.Common.{◌≡◌, ◌≢◌, ℕ, ◌==◌, Bool, true, false, not, cond, List, Option, Some, None, refl, ap, sym, ◌∙◌}
use Rattle.std.specs.List.{slice_get}
use Rattle.asio_types.specs.Code.{class_of_code}
use Rattle.asio_types.specs.declared.code.Class.{Class}
use Rattle.asio_types.specs.declared.code.Class.TheVariants as class
use Rattle.asio_types.specs.declared.code.Code.{Code}
use Rattle.asio_types.specs.declared.code.Code.TheVariants as code
use Rattle.session_script.specs.declared.act.Act.{Act}
use Rattle.session_script.specs.declared.act.Act.TheVariants as act
use Rattle.session_script.specs.Lanes.{is_inline}
use Rattle.session_script.specs.Script.{Entry, act_of, is_operation, is_stop}
use Rattle.history_rules.specs.Calls.{accepted, has_ended}
use Rattle.history_rules.specs.Kinds.{is_act, is_control, is_posting}
use Rattle.history_rules.specs.Order.{is_request}
use Rattle.history_rules.specs.Rounds.{is_unspent}
use Rattle.history_rules.specs.declared.phase.ActPhase.{ActPhase}
use Rattle.history_rules.specs.declared.phase.ActPhase.TheVariants as phase
use Rattle.history_rules.specs.declared.phase.CallPhase.{CallPhase}
use Rattle.history_rules.specs.declared.phase.CallPhase.TheVariants as call
use Rattle.history_rules.specs.declared.phase.Cause.{Cause}
use Rattle.history_rules.specs.declared.phase.Cause.TheVariants as cause
use Rattle.history_rules.specs.declared.phase.Progress.{Progress}
use Rattle.generated_session.specs.Generator.{session_of}
use Rattle.generated_session.proofs.ItemsLemmas.{absent, asks_in, dispatch, dispatches, expires, IsKnown, IsPosting, nth_act, nth_place, post, posts, waits}

abbrev pub is_called : CallPhase → Bool
is_called call.Uncalled = false
is_called _ = true

abbrev pub is_back : CallPhase → Bool
is_back (call.Back called back) = true
is_back _ = false

abbrev pub has_made : ActPhase → Bool
has_made (phase.Running class progress) = not (progress.made == 0)
has_made phase.Ended = true
has_made _ = false

-- something has happened to the act
abbrev pub is_born : ActPhase → Bool
is_born phase.Absent = false
is_born _ = true

abbrev pub is_requested : ActPhase → Bool
is_requested phase.Requested = true
is_requested _ = false

abbrev pub fits_none : Bool → ActPhase → Bool
fits_none false phase.Absent = true
fits_none _ _ = false

abbrev pub fits_control : Bool → ActPhase → Bool
fits_control false phase.Absent = true
fits_control true phase.Asked = true
fits_control _ _ = false

abbrev pub fits_wait : Bool → ActPhase → Bool
fits_wait false phase.Absent = true
fits_wait true phase.Requested = true
fits_wait true (phase.Ready code size why) = true
fits_wait true (phase.Running class progress) = true
fits_wait true phase.Ended = true
fits_wait _ _ = false

-- a posting completes with Ok alone
abbrev pub fits_posting : Bool → ActPhase → Bool
fits_posting false phase.Absent = true
fits_posting true phase.Inside = true
fits_posting true (phase.Ready code.Ok size why) = true
fits_posting true (phase.Running class.Ok progress) = true
fits_posting true phase.Ended = true
fits_posting _ _ = false

-- an act may be in this phase, if it was called or wasn't
abbrev pub fits : Option Act → Bool → ActPhase → Bool
fits (Some (act.Post strand)) = fits_posting
fits (Some (act.Dispatch strand)) = fits_posting
fits (Some (act.Expires timer after)) = fits_control
fits (Some (act.Wait timer strand slot filter)) = fits_wait
fits _ = fits_none

pub ready_runs : {o : Option Act} → IsKnown o → (b : Bool) (given : Code) (size : ℕ) (why : Cause) →
    fits o b (phase.Ready given size why) ≡ true → (progress : Progress) →
    fits o b (phase.Running (class_of_code given) progress) ≡ true
ready_runs (posts s) true code.Ok size why fit progress = refl
ready_runs (dispatches s) true code.Ok size why fit progress = refl
ready_runs (waits timer small) true given size why fit progress = refl
ready_runs (posts s) b given size why fit progress = absurd (cc)
ready_runs (dispatches s) b given size why fit progress = absurd (cc)
ready_runs (waits timer small) false given size why fit progress = absurd (cc)
ready_runs (expires timer after small) true given size why fit progress = absurd (cc)
ready_runs (expires timer after small) false given size why fit progress = absurd (cc)
ready_runs absent true given size why fit progress = absurd (cc)
ready_runs absent false given size why fit progress = absurd (cc)

pub inside_runs : {o : Option Act} → IsKnown o → (b : Bool) → fits o b phase.Inside ≡ true → (progress : Progress) →
    fits o b (phase.Running class.Ok progress) ≡ true
inside_runs (posts s) true fit progress = refl
inside_runs (dispatches s) true fit progress = refl
inside_runs (posts s) false fit progress = absurd (cc)
inside_runs (dispatches s) false fit progress = absurd (cc)
inside_runs (waits timer small) true fit progress = absurd (cc)
inside_runs (waits timer small) false fit progress = absurd (cc)
inside_runs (expires timer after small) true fit progress = absurd (cc)
inside_runs (expires timer after small) false fit progress = absurd (cc)
inside_runs absent true fit progress = absurd (cc)
inside_runs absent false fit progress = absurd (cc)

pub running_ends : {o : Option Act} → IsKnown o → (b : Bool) (c : Class) (progress : Progress) →
    fits o b (phase.Running c progress) ≡ true → fits o b phase.Ended ≡ true
running_ends (posts s) true class.Ok progress fit = refl
running_ends (dispatches s) true class.Ok progress fit = refl
running_ends (waits timer small) true c progress fit = refl
running_ends (posts s) b c progress fit = absurd (cc)
running_ends (dispatches s) b c progress fit = absurd (cc)
running_ends (waits timer small) false c progress fit = absurd (cc)
running_ends (expires timer after small) true c progress fit = absurd (cc)
running_ends (expires timer after small) false c progress fit = absurd (cc)
running_ends absent true c progress fit = absurd (cc)
running_ends absent false c progress fit = absurd (cc)

-- however far it has come
pub runs_on : {o : Option Act} → IsKnown o → (b : Bool) (c : Class) (progress later : Progress) →
    fits o b (phase.Running c progress) ≡ true → fits o b (phase.Running c later) ≡ true
runs_on (posts s) true class.Ok progress later fit = refl
runs_on (dispatches s) true class.Ok progress later fit = refl
runs_on (waits timer small) true c progress later fit = refl
runs_on (posts s) b c progress later fit = absurd (cc)
runs_on (dispatches s) b c progress later fit = absurd (cc)
runs_on (waits timer small) false c progress later fit = absurd (cc)
runs_on (expires timer after small) true c progress later fit = absurd (cc)
runs_on (expires timer after small) false c progress later fit = absurd (cc)
runs_on absent true c progress later fit = absurd (cc)
runs_on absent false c progress later fit = absurd (cc)

pub requested_completes : {o : Option Act} → IsKnown o → (b : Bool) (given : Code) (size : ℕ) (why : Cause) →
    fits o b phase.Requested ≡ true → fits o b (phase.Ready given size why) ≡ true
requested_completes (waits timer small) true given size why fit = refl
requested_completes (waits timer small) false given size why fit = absurd (cc)
requested_completes (posts s) true given size why fit = absurd (cc)
requested_completes (posts s) false given size why fit = absurd (cc)
requested_completes (dispatches s) true given size why fit = absurd (cc)
requested_completes (dispatches s) false given size why fit = absurd (cc)
requested_completes (expires timer after small) true given size why fit = absurd (cc)
requested_completes (expires timer after small) false given size why fit = absurd (cc)
requested_completes absent true given size why fit = absurd (cc)
requested_completes absent false given size why fit = absurd (cc)

runs_ok : (b : Bool) (c : Class) (progress : Progress) → fits_posting b (phase.Running c progress) ≡ true → c ≡ class.Ok
runs_ok b class.Ok progress fit = refl
runs_ok true c progress fit = absurd (cc)
runs_ok false c progress fit = absurd (cc)

-- a posting that runs has completed with Ok
pub posting_runs_ok : {a : Act} → IsPosting a → (b : Bool) (c : Class) (progress : Progress) →
    fits (Some a) b (phase.Running c progress) ≡ true → c ≡ class.Ok
posting_runs_ok (post s small) b c progress fit = runs_ok b c progress fit
posting_runs_ok (dispatch s small) b c progress fit = runs_ok b c progress fit

never_requested : (b : Bool) (p : ActPhase) → fits_posting b p ≡ true → is_request p ≡ false
never_requested true phase.Requested fit = absurd (cc)
never_requested false phase.Requested fit = absurd (cc)
never_requested true phase.Asked fit = absurd (cc)
never_requested false phase.Asked fit = absurd (cc)
never_requested b p fit = refl

pub posting_never_requested : {a : Act} → IsPosting a → (b : Bool) (p : ActPhase) → fits (Some a) b p ≡ true →
    is_request p ≡ false
posting_never_requested (post s small) b p fit = never_requested b p fit
posting_never_requested (dispatch s small) b p fit = never_requested b p fit

-- what wasn't called is absent
pub uncalled_absent : {o : Option Act} → IsKnown o → (p : ActPhase) → fits o false p ≡ true → p ≡ phase.Absent
uncalled_absent is phase.Absent fit = refl
uncalled_absent (posts s) p fit = absurd (cc)
uncalled_absent (dispatches s) p fit = absurd (cc)
uncalled_absent (waits timer small) p fit = absurd (cc)
uncalled_absent (expires timer after small) p fit = absurd (cc)
uncalled_absent absent p fit = absurd (cc)

abbrev pub operates : Option Act → Bool
operates None = false
operates (Some act) = is_operation act

pub request_asks : {o : Option Act} → IsKnown o → (b : Bool) (p : ActPhase) → fits o b p ≡ true → is_request p ≡ true →
    asks_in o ≡ true
request_asks (waits timer small) b p fit asks = refl
request_asks (expires timer after small) b p fit asks = refl
request_asks (posts s) b p fit asks =
    absurd (let never = never_requested b p fit in let wrong : true ≡ false = sym asks ∙ never in cc)
request_asks (dispatches s) b p fit asks =
    absurd (let never = never_requested b p fit in let wrong : true ≡ false = sym asks ∙ never in cc)
request_asks absent false phase.Requested fit asks = absurd (cc)
request_asks absent true phase.Requested fit asks = absurd (cc)
request_asks absent false phase.Asked fit asks = absurd (cc)
request_asks absent true phase.Asked fit asks = absurd (cc)
request_asks absent b p fit asks = absurd (cc)

-- what was called and is spent has ended, where it has a handler
pub spent_ended : {o : Option Act} → IsKnown o → (b : Bool) (p : ActPhase) → fits o b p ≡ true →
    (operates o ≡ true → b ≡ true) → is_unspent p ≡ false → has_ended p ≡ operates o
spent_ended (posts s) true phase.Ended fit called spent = refl
spent_ended (posts s) true (phase.Ready code.Ok size why) fit called spent = absurd (cc)
spent_ended (posts s) true (phase.Running class.Ok progress) fit called spent = absurd (cc)
spent_ended (posts s) true phase.Inside fit called spent = absurd (cc)
spent_ended (posts s) true p fit called spent = absurd (cc)
spent_ended (posts s) false p fit called spent = let wrong : false ≡ true = called refl in absurd (cc)
spent_ended (dispatches s) true phase.Ended fit called spent = refl
spent_ended (dispatches s) true (phase.Ready code.Ok size why) fit called spent = absurd (cc)
spent_ended (dispatches s) true (phase.Running class.Ok progress) fit called spent = absurd (cc)
spent_ended (dispatches s) true phase.Inside fit called spent = absurd (cc)
spent_ended (dispatches s) true p fit called spent = absurd (cc)
spent_ended (dispatches s) false p fit called spent = let wrong : false ≡ true = called refl in absurd (cc)
spent_ended (waits timer small) true phase.Ended fit called spent = refl
spent_ended (waits timer small) true p fit called spent = absurd (cc)
spent_ended (waits timer small) false p fit called spent = let wrong : false ≡ true = called refl in absurd (cc)
spent_ended (expires timer after small) true phase.Asked fit called spent = refl
spent_ended (expires timer after small) false phase.Absent fit called spent = refl
spent_ended (expires timer after small) b p fit called spent = absurd (cc)
spent_ended absent false phase.Absent fit called spent = refl
spent_ended absent b p fit called spent = absurd (cc)

-- an act passes a test, by what it is
abbrev pub test_in : (Act → Bool) → Option Act → Bool
test_in test None = false
test_in test (Some act) = test act

is_act_by : (test : Act → Bool) (acts : List Entry) (n : ℕ) (e : Option Entry) → slice_get acts n ≡ e →
    is_act test (session_of acts) n ≡ test_in test (nth_act acts n)
is_act_by test acts n None there = rw there refl
is_act_by test acts n (Some e) there = rw there refl

pub is_act-in : (test : Act → Bool) (acts : List Entry) (n : ℕ) →
    is_act test (session_of acts) n ≡ test_in test (nth_act acts n)
is_act-in test acts n = is_act_by test acts n (slice_get acts n) refl

pub never_stops : {o : Option Act} → IsKnown o → test_in is_stop o ≡ false
never_stops absent = refl
never_stops (posts s) = refl
never_stops (dispatches s) = refl
never_stops (waits timer small) = refl
never_stops (expires timer after small) = refl

abbrev pub accepted_by : Bool → Bool → Bool → Bool → ActPhase
accepted_by inline posting operation control =
    cond inline phase.Inside (cond posting (phase.Ready code.Ok 0 cause.Posted)
    (cond operation phase.Requested (cond control phase.Asked phase.Absent)))

posting_by : {o : Option Act} → IsKnown o → (inline operation control : Bool) → test_in is_posting o ≡ true →
    fits o true (accepted_by inline true operation control) ≡ true
posting_by (posts s) true operation control is = refl
posting_by (posts s) false operation control is = refl
posting_by (dispatches s) true operation control is = refl
posting_by (dispatches s) false operation control is = refl
posting_by absent inline operation control is = absurd (cc)
posting_by (waits timer small) inline operation control is = absurd (cc)
posting_by (expires timer after small) inline operation control is = absurd (cc)

-- a posting is ready, or inside its call
pub posting_accepted : (acts : List Entry) (n : ℕ) → IsKnown (nth_act acts n) →
    test_in is_posting (nth_act acts n) ≡ true → fits (nth_act acts n) true (accepted (session_of acts) n) ≡ true
posting_accepted acts n known is =
    let script = session_of acts in
    let here : is_act is_posting script n ≡ true = is_act-in is_posting acts n ∙ is in
    rw here (posting_by known (is_inline script n) (is_act is_operation script n) (is_act is_control script n) is)

called_by : {o : Option Act} → IsKnown o → o ≢ None → fits o true
    (accepted_by false (test_in is_posting o) (test_in is_operation o) (test_in is_control o)) ≡ true
called_by (posts s) there = refl
called_by (dispatches s) there = refl
called_by (waits timer small) there = refl
called_by (expires timer after small) there = refl
called_by absent there = absurd (there refl)

accepts_by : {o : Option Act} → IsKnown o → is_request
    (accepted_by false (test_in is_posting o) (test_in is_operation o) (test_in is_control o)) ≡ asks_in o
accepts_by absent = refl
accepts_by (posts s) = refl
accepts_by (dispatches s) = refl
accepts_by (waits timer small) = refl
accepts_by (expires timer after small) = refl

inline_by : (acts : List Entry) (n : ℕ) (e : Option Entry) → slice_get acts n ≡ e → nth_place acts n ≡ None →
    is_inline (session_of acts) n ≡ false
inline_by acts n None there place = rw there refl
inline_by acts n (Some e) there place = rw (there, place) refl

-- an act of `open` isn't executed inside its call
pub opened_is : (acts : List Entry) (n : ℕ) → nth_place acts n ≡ None →
    accepted (session_of acts) n
    ≡ accepted_by false (test_in is_posting (nth_act acts n)) (test_in is_operation (nth_act acts n))
    (test_in is_control (nth_act acts n))
opened_is acts n place =
    let script = session_of acts in
    ap (λ b. accepted_by b (is_act is_posting script n) (is_act is_operation script n) (is_act is_control script n))
    (inline_by acts n (slice_get acts n) refl place)
    ∙ ap (λ b. accepted_by false b (is_act is_operation script n) (is_act is_control script n)) (is_act-in is_posting acts n)
    ∙ ap (λ b. accepted_by false (test_in is_posting (act_of script n)) b (is_act is_control script n))
    (is_act-in is_operation acts n)
    ∙ ap (λ b. accepted_by false (test_in is_posting (act_of script n)) (test_in is_operation (act_of script n)) b)
    (is_act-in is_control acts n)

-- it is accepted as what it is
pub opened_accepted : (acts : List Entry) (n : ℕ) → IsKnown (nth_act acts n) → nth_place acts n ≡ None →
    nth_act acts n ≢ None →
    (fits (nth_act acts n) true (accepted (session_of acts) n) ≡ true)
    × (is_request (accepted (session_of acts) n) ≡ asks_in (nth_act acts n))
opened_accepted acts n known place there =
    let same = opened_is acts n place in
    (ap (fits (nth_act acts n) true) same ∙ called_by known there, ap is_request same ∙ accepts_by known)

pub fits_fresh : {o : Option Act} → IsKnown o → fits o false phase.Absent ≡ true
fits_fresh absent = refl
fits_fresh (posts s) = refl
fits_fresh (dispatches s) = refl
fits_fresh (waits timer small) = refl
fits_fresh (expires timer after small) = refl

pub control_not_requested : (b : Bool) (p : ActPhase) → fits_control b p ≡ true → is_requested p ≡ false
control_not_requested true phase.Requested fit = absurd (cc)
control_not_requested false phase.Requested fit = absurd (cc)
control_not_requested b p fit = refl

pub wait_requested : (b : Bool) (p : ActPhase) → fits_wait b p ≡ true → is_request p ≡ true → is_requested p ≡ true
wait_requested b phase.Requested fit asks = refl
wait_requested true phase.Asked fit asks = absurd (cc)
wait_requested false phase.Asked fit asks = absurd (cc)
wait_requested b p fit asks = absurd (cc)

pub back_called : (c : CallPhase) → is_back c ≡ true → is_called c ≡ true
back_called (call.Back called back) is = refl
back_called c is = absurd (cc)
