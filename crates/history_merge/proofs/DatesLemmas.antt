-- Where the events that made an act what it is stand among all: its call, its back, its completion, and that it began.
use Rattle.std.proofs.Common.{◌≡◌, ◌⊎◌, ℕ, zero, suc, ◌-◌, ◌<◌, ◌≤◌, Bool, true, false, cond, List, [], ◌∷◌, ◌++◌, Some, None, inl, inr, length, take, refl, sym, ap, subst, ◌∙◌, arith}
use Rattle.std.specs.Option.{unwrap_or}
use Rattle.std.specs.List.{slice_set}
use Rattle.std.proofs.lemmas.Bool.{cases_lt}
use mathlib.Core.Option.{some, some-injective, some-ne-none}
use lib.ListN.{get_elem?}
use Rattle.asio_types.specs.Code.{class_of_code}
use Rattle.asio_types.specs.declared.code.Code.{Code}
use Rattle.asio_types.specs.declared.code.Code.TheVariants as code
use Rattle.asio_types.specs.declared.event.Event.{Event}
use Rattle.asio_types.specs.declared.event.Event.TheVariants as event
use Rattle.session_script.specs.Script.{Place, ScriptModel, is_op, is_operation, is_stop, parent_of}
use Rattle.session_script.specs.WellFormed.{IsWellFormed}
use Rattle.session_script.specs.Lanes.{is_inline, lane_of}
use Rattle.history_rules.specs.Calls.{accepted, progressed, returned, stopping, with_progress}
use Rattle.history_rules.specs.Executions.{begun}
use Rattle.history_rules.specs.Kinds.{is_act, is_control, is_posting}
use Rattle.history_rules.specs.Legal.{MayHappen, context_after}
use Rattle.history_rules.specs.Order.{called_at}
use Rattle.history_rules.specs.State.{ContextState, State, act_at, call_at, fresh, no_progress, phase_at, with_call}
use Rattle.history_rules.specs.declared.phase.ActPhase.{ActPhase}
use Rattle.history_rules.specs.declared.phase.ActPhase.TheVariants as phase
use Rattle.history_rules.specs.declared.phase.ActState.{ActState}
use Rattle.history_rules.specs.declared.phase.CallPhase.{CallPhase}
use Rattle.history_rules.specs.declared.phase.CallPhase.TheVariants as call
use Rattle.history_rules.specs.declared.phase.Cause.TheVariants as cause
use Rattle.history_rules.specs.declared.phase.Step.{Step}
use Rattle.history_rules.specs.declared.phase.Step.TheVariants as step
use Rattle.execution_laws.specs.Kinds.{was_called}
use Rattle.history_merge.proofs.CountedLemmas.{counted_in}
use Rattle.history_merge.proofs.EachActLemmas.{Each, act_in, right_set}
use Rattle.history_merge.proofs.FrameLemmas.{acts_limited, acts_spent}
use Rattle.history_merge.proofs.NextCallLemmas.{fresh_next}
use Rattle.history_merge.proofs.OrderlyLemmas.{IsExpected, IsInOrder}
use Rattle.history_merge.proofs.PartLemmas.{at_left, at_right}

-- a handler that has begun, or was destroyed
abbrev pub is_past : ActPhase → Bool
is_past (phase.Running class progress) = true
is_past phase.Ended = true
is_past phase.Dropped = true
is_past _ = false

-- What an event makes of the dates of an act: those that are new are of now
pub record IsDatedStep (shown : Event) (now turn n : ℕ) (x y : ActState) : Type 0 where
  pub called : was_called y.call ≡ true →
      ((was_called x.call ≡ true) × (called_at y.call ≡ called_at x.call))
      ⊎ ((shown ≡ event.Call n) × (called_at y.call ≡ now))
  pub keeps : was_called x.call ≡ true → (was_called y.call ≡ true) × (called_at y.call ≡ called_at x.call)
  pub back : (c b : ℕ) → y.call ≡ call.Back c b → (x.call ≡ call.Back c b) ⊎ ((shown ≡ event.Back n) × (b ≡ now))
  pub caused : (given : Code) (size d t : ℕ) → y.phase ≡ phase.Ready given size (cause.Completed d t) →
      (x.phase ≡ phase.Ready given size (cause.Completed d t)) ⊎ ((shown ≡ event.Done n given size) × (d ≡ now) × (t ≡ turn))
  pub past : is_past x.phase ≡ true → is_past y.phase ≡ true
  pub stays : (given : Code) (size d t : ℕ) → x.phase ≡ phase.Ready given size (cause.Completed d t) →
      (y.phase ≡ phase.Ready given size (cause.Completed d t)) ⊎ (is_past y.phase ≡ true)

stopping_called : (of : CallPhase) → was_called (stopping of) ≡ true → was_called of ≡ true
stopping_called call.Uncalled is = is
stopping_called (call.Open called) is = refl
stopping_called (call.Stopping called) is = refl
stopping_called (call.Back called back) is = refl

stopping_still : (of : CallPhase) → was_called of ≡ true → was_called (stopping of) ≡ true
stopping_still call.Uncalled is = is
stopping_still (call.Open called) is = refl
stopping_still (call.Stopping called) is = refl
stopping_still (call.Back called back) is = refl

stopping_date : (of : CallPhase) → called_at (stopping of) ≡ called_at of
stopping_date call.Uncalled = refl
stopping_date (call.Open called) = refl
stopping_date (call.Stopping called) = refl
stopping_date (call.Back called back) = refl

stopping_back : (of : CallPhase) (c b : ℕ) → stopping of ≡ call.Back c b → of ≡ call.Back c b
stopping_back call.Uncalled c b is = is
stopping_back (call.Open called) c b is = absurd (cc)
stopping_back (call.Stopping called) c b is = absurd (cc)
stopping_back (call.Back called back) c b is = is

returned_called : (now : ℕ) (of : CallPhase) → was_called (returned now of) ≡ true → was_called of ≡ true
returned_called now call.Uncalled is = is
returned_called now (call.Open called) is = refl
returned_called now (call.Stopping called) is = refl
returned_called now (call.Back called back) is = refl

returned_still : (now : ℕ) (of : CallPhase) → was_called of ≡ true → was_called (returned now of) ≡ true
returned_still now call.Uncalled is = is
returned_still now (call.Open called) is = refl
returned_still now (call.Stopping called) is = refl
returned_still now (call.Back called back) is = refl

returned_date : (now : ℕ) (of : CallPhase) → called_at (returned now of) ≡ called_at of
returned_date now call.Uncalled = refl
returned_date now (call.Open called) = refl
returned_date now (call.Stopping called) = refl
returned_date now (call.Back called back) = refl

returned_back : (now : ℕ) (of : CallPhase) (c b : ℕ) → returned now of ≡ call.Back c b →
    (of ≡ call.Back c b) ⊎ (b ≡ now)
returned_back now call.Uncalled c b is = inl is
returned_back now (call.Open called) c b is = inr (let same : now ≡ b = cc in sym same)
returned_back now (call.Stopping called) c b is = inr (let same : now ≡ b = cc in sym same)
returned_back now (call.Back called back) c b is = inl is

-- what a call accepts has not completed
accepted_uncaused : (inline posting operation control : Bool) (given : Code) (size d t : ℕ) →
    cond inline phase.Inside (cond posting (phase.Ready code.Ok 0 cause.Posted)
    (cond operation phase.Requested (cond control phase.Asked phase.Absent)))
    ≡ phase.Ready given size (cause.Completed d t) → ⊥
accepted_uncaused true posting operation control given size d t is = cc
accepted_uncaused false true operation control given size d t is = cc
accepted_uncaused false false true control given size d t is = cc
accepted_uncaused false false false true given size d t is = cc
accepted_uncaused false false false false given size d t is = cc

past_step : (step : Step) (of : ActPhase) → is_past (progressed step of) ≡ is_past of
past_step step (phase.Running class progress) = refl
past_step step other = refl

ready_step : (step : Step) (of : ActPhase) (given : Code) (size d t : ℕ) →
    progressed step of ≡ phase.Ready given size (cause.Completed d t) →
    of ≡ phase.Ready given size (cause.Completed d t)
ready_step step (phase.Running class progress) given size d t is = absurd (cc)
ready_step step other given size d t is = is

step_stays : (step : Step) (of : ActPhase) (given : Code) (size d t : ℕ) →
    of ≡ phase.Ready given size (cause.Completed d t) → progressed step of ≡ phase.Ready given size (cause.Completed d t)
step_stays step of given size d t is = ap (progressed step) is

never_past : (of : ActPhase) → is_past of ≡ false → is_past of ≡ true → ⊥
never_past of isnt is = let wrong : true ≡ false = sym is ∙ isnt in cc

-- an act changes beyond its call to a handler that is past
module _ (shown : Event) (now turn : ℕ) where
  same_dates : (n : ℕ) (x : ActState) → IsDatedStep shown now turn n x x
  same_dates n x = record {
    called = λ is. inl (is, refl);
    keeps = λ is. (is, refl);
    back = λ c b is. inl is;
    caused = λ given size d t is. inl is;
    past = λ is. is;
    stays = λ given size d t is. inl is;
  }

  -- a body comes further
  step_dates : (step : Step) (n : ℕ) (x y : ActState) → IsDatedStep shown now turn n x y →
      IsDatedStep shown now turn n x (record y { phase = progressed step y.phase })
  step_dates step n x y is = record {
    called = is.called;
    keeps = is.keeps;
    back = is.back;
    caused = λ given size d t ready. is.caused given size d t (ready_step step y.phase given size d t ready);
    past = λ was. past_step step y.phase ∙ is.past was;
    stays = λ given size d t ready. elim (is.stays given size d t ready) [
      | inl still ↦ inl (step_stays step y.phase given size d t still)
      | inr over ↦ inr (past_step step y.phase ∙ over)
    ];
  }

  past_dates : (n : ℕ) (to : ActPhase) (x : ActState) → is_past to ≡ true →
      ((given : Code) (size d t : ℕ) → to ≡ phase.Ready given size (cause.Completed d t) → ⊥) →
      IsDatedStep shown now turn n x (record x { phase = to })
  past_dates n to x over unready = record {
    called = λ is. inl (is, refl);
    keeps = λ is. (is, refl);
    back = λ c b is. inl is;
    caused = λ given size d t is. absurd (unready given size d t is);
    past = λ was. over;
    stays = λ given size d t ready. inr over;
  }

  set_dates : (xs ys : List ActState) (a : ℕ) (y : ActState) → Each (IsDatedStep shown now turn) xs ys →
      IsDatedStep shown now turn a (act_in xs a) y → Each (IsDatedStep shown now turn) xs (slice_set ys a y)
  set_dates xs ys a y each new = right_set (IsDatedStep shown now turn) xs ys a y each new

  all_same : (xs : List ActState) → Each (IsDatedStep shown now turn) xs xs
  all_same xs n = same_dates n (act_in xs n)

  progress_dates : (place : Place) (step : Step) (xs : List ActState) (t : ContextState) →
      Each (IsDatedStep shown now turn) xs t.acts → Each (IsDatedStep shown now turn) xs (with_progress place step t).acts
  progress_dates None step xs t each = each
  progress_dates (Some at) step xs t each =
      set_dates xs t.acts at.0 (record (act_at t at.0) { phase = progressed step (phase_at t at.0) }) each
      (step_dates step at.0 (act_in xs at.0) (act_at t at.0) (each at.0))

called_dates : (script : ScriptModel) (a now turn : ℕ) (x : ActState) → x ≡ fresh →
    IsDatedStep (event.Call a) now turn a x (record { call = call.Open now; phase = accepted script a })
called_dates script a now turn x new =
    let absent : x.phase ≡ phase.Absent = ap (λ (act : ActState). act.phase) new in
    let uncalled : was_called x.call ≡ false = ap (λ (act : ActState). was_called act.call) new in
    record {
      called = λ is. inr (refl, refl);
      keeps = λ is. absurd (let wrong : true ≡ false = sym is ∙ uncalled in cc);
      back = λ c b is. absurd (let wrong : call.Open now ≡ call.Back c b = is in cc);
      caused = λ given size d t is.
          absurd (accepted_uncaused (is_inline script a) (is_act is_posting script a) (is_act is_operation script a)
          (is_act is_control script a) given size d t is);
      past = λ was. absurd (never_past x.phase (ap is_past absent) was);
      stays = λ given size d t ready.
          absurd (let wrong : phase.Absent ≡ phase.Ready given size (cause.Completed d t) = sym absent ∙ ready in cc);
    }

call_dates : (shown : Event) (now turn a : ℕ) (to : CallPhase) (x : ActState) →
    (was_called to ≡ true → was_called x.call ≡ true) → (was_called x.call ≡ true → was_called to ≡ true) →
    called_at to ≡ called_at x.call →
    ((c b : ℕ) → to ≡ call.Back c b → (x.call ≡ call.Back c b) ⊎ ((shown ≡ event.Back a) × (b ≡ now))) →
    IsDatedStep shown now turn a x (record x { call = to })
call_dates shown now turn a to x was still date back = record {
  called = λ is. inl (was is, date);
  keeps = λ is. (still is, date);
  back = back;
  caused = λ given size d t is. inl is;
  past = λ is. is;
  stays = λ given size d t is. inl is;
}

done_dates : (o : ℕ) (given : Code) (size now turn : ℕ) (x : ActState) → x.phase ≡ phase.Requested →
    IsDatedStep (event.Done o given size) now turn o x
    (record x { phase = phase.Ready given size (cause.Completed now turn) })
done_dates o given size now turn x asked = record {
  called = λ is. inl (is, refl);
  keeps = λ is. (is, refl);
  back = λ c b is. inl is;
  caused = λ other n d t is.
      let same : phase.Ready given size (cause.Completed now turn) ≡ phase.Ready other n (cause.Completed d t) = is in
      let codes : given ≡ other = cc in
      let sizes : size ≡ n = cc in
      let dates : now ≡ d = cc in
      let turns : turn ≡ t = cc in
      inr ((λ i. event.Done o (codes i) (sizes i)), sym dates, sym turns);
  past = λ was. absurd (never_past x.phase (ap is_past asked) was);
  stays = λ other n d t ready.
      absurd (let wrong : phase.Requested ≡ phase.Ready other n (cause.Completed d t) = sym asked ∙ ready in cc);
}

module _ (script : ScriptModel) (well : IsWellFormed script) (told : Bool) (s : State)
    (order : IsInOrder script s.context) where
  abbrev now : ℕ
  now = s.context.events

  abbrev turn : ℕ
  turn = unwrap_or s.context.turn 0

  abbrev Dates : Event → List ActState → Type 0
  Dates shown acts = Each (IsDatedStep shown now turn) s.context.acts acts

  -- each event keeps dates, and those that are new are of now
  pub dates_step : (shown : Event) → MayHappen script told s shown → IsExpected s.context shown →
      Each (IsDatedStep shown now turn) s.context.acts (context_after script s.context shown).acts
  dates_step (event.Call a) may expected =
      let new : ActState = record { call = call.Open now; phase = accepted script a } in
      set_dates (event.Call a) now turn s.context.acts (with_progress (parent_of script a) step.Made s.context).acts a new
      (progress_dates (event.Call a) now turn (parent_of script a) step.Made s.context.acts s.context
      (all_same (event.Call a) now turn s.context.acts))
      (called_dates script a now turn (act_at s.context a) (fresh_next script well s.context order s.reactor.failed a may))
  dates_step (event.Stop (Some a)) may expected =
      let to : CallPhase = stopping (call_at s.context a) in
      set_dates (event.Stop (Some a)) now turn s.context.acts s.context.acts a (record (act_at s.context a) { call = to })
      (all_same (event.Stop (Some a)) now turn s.context.acts)
      (call_dates (event.Stop (Some a)) now turn a to (act_at s.context a) (stopping_called (call_at s.context a))
      (stopping_still (call_at s.context a)) (stopping_date (call_at s.context a)) (λ c b is. inl (stopping_back (call_at s.context a) c b is)))
  dates_step (event.Back a) may expected =
      let to : CallPhase = returned now (call_at s.context a) in
      let back : ContextState = with_call s.context a to in
      subst (Dates (event.Back a))
      (sym (acts_limited script (parent_of script a) a (is_act is_stop script a)
      (with_progress (parent_of script a) step.Back back)))
      (progress_dates (event.Back a) now turn (parent_of script a) step.Back s.context.acts back
      (set_dates (event.Back a) now turn s.context.acts s.context.acts a (record (act_at s.context a) { call = to })
      (all_same (event.Back a) now turn s.context.acts)
      (call_dates (event.Back a) now turn a to (act_at s.context a) (returned_called now (call_at s.context a))
      (returned_still now (call_at s.context a)) (returned_date now (call_at s.context a)) (λ c b is. elim (returned_back now (call_at s.context a) c b is) [
        | inl was ↦ inl was
        | inr at ↦ inr (refl, at)
      ]))))
  dates_step (event.Begin o given size) may expected =
      let to : ActPhase = phase.Running (class_of_code given) no_progress in
      subst (Dates (event.Begin o given size))
      (sym (acts_spent (is_inline script o) (lane_of script o) (begun s.context o given)))
      (set_dates (event.Begin o given size) now turn s.context.acts s.context.acts o (record (act_at s.context o) { phase = to })
      (all_same (event.Begin o given size) now turn s.context.acts)
      (past_dates (event.Begin o given size) now turn o to (act_at s.context o) refl (λ g n d t is. cc)))
  dates_step (event.End o mark) may expected =
      set_dates (event.End o mark) now turn s.context.acts s.context.acts o (record (act_at s.context o) { phase = phase.Ended })
      (all_same (event.End o mark) now turn s.context.acts)
      (past_dates (event.End o mark) now turn o phase.Ended (act_at s.context o) refl (λ g n d t is. cc))
  dates_step (event.Done o given size) may expected =
      let to : ActPhase = phase.Ready given size (cause.Completed now (unwrap_or s.context.turn 0)) in
      set_dates (event.Done o given size) now turn s.context.acts s.context.acts o (record (act_at s.context o) { phase = to })
      (all_same (event.Done o given size) now turn s.context.acts)
      (done_dates o given size now turn (act_at s.context o) expected)
  dates_step (event.Dropped o mark) may expected =
      set_dates (event.Dropped o mark) now turn s.context.acts s.context.acts o
      (record (act_at s.context o) { phase = phase.Dropped }) (all_same (event.Dropped o mark) now turn s.context.acts)
      (past_dates (event.Dropped o mark) now turn o phase.Dropped (act_at s.context o) refl (λ g n d t is. cc))
  dates_step (event.Stop None) may expected = all_same (event.Stop None) now turn s.context.acts
  dates_step other may expected = all_same other now turn s.context.acts

-- an event stands among others behind so many that are counted
pub record IsShownAt (events : List Event) (shown : Event) (count : ℕ) : Type 0 where
  pub at : ℕ
  pub there : get_elem? events at ≡ some shown
  pub counts : counted_in (take at events) ≡ count

-- a handler is past, or ready since it completed at this count
pub data StandsTold (given : Code) (size count : ℕ) (of : ActPhase) : Type 0 where
  is_over : is_past of ≡ true → StandsTold given size count of
  is_told : (turn : ℕ) → of ≡ phase.Ready given size (cause.Completed count turn) → StandsTold given size count of

-- a turn of the reactor begins with the event
abbrev pub is_start : Event → Bool
is_start (event.Take a) = true
is_start (event.Tick at) = true
is_start event.Last = true
is_start _ = false

-- a turn began at this count
pub record IsStartedAt (events : List Event) (count : ℕ) : Type 0 where
  pub first : Event
  pub shown : IsShownAt events first count
  pub starts : is_start first ≡ true

-- and before this one, unless there was none
abbrev pub IsTurnBefore : List Event → ℕ → ℕ → Type 0
IsTurnBefore events d t = (t ≡ 0) ⊎ (IsStartedAt events t × (t < d))

-- an operation that completes, and is no posting
pub record IsAwaitedOp (script : ScriptModel) (n : ℕ) : Type 0 where
  pub op : is_op script n ≡ true
  pub unentered : is_inline script n ≡ false
  pub unposted : is_act is_posting script n ≡ false

abbrev pub is_dropped : ActPhase → Bool
is_dropped phase.Dropped = true
is_dropped _ = false

-- All dates are those of events, and each event has left what it leaves
pub record AreDated (script : ScriptModel) (events : List Event) (s : ContextState) : Type 0 where
  pub called : (n : ℕ) → was_called (call_at s n) ≡ true → IsShownAt events (event.Call n) (called_at (call_at s n))
  pub dates : (n d : ℕ) → IsShownAt events (event.Call n) d →
      (was_called (call_at s n) ≡ true) × (called_at (call_at s n) ≡ d)
  pub back : (n c b : ℕ) → call_at s n ≡ call.Back c b → IsShownAt events (event.Back n) b
  pub caused : (n : ℕ) (given : Code) (size d t : ℕ) → phase_at s n ≡ phase.Ready given size (cause.Completed d t) →
      IsShownAt events (event.Done n given size) d × IsTurnBefore events d t
  pub turn : (t : ℕ) → s.turn ≡ Some t → IsStartedAt events t
  pub kind : (n : ℕ) (given : Code) (size d : ℕ) → IsShownAt events (event.Done n given size) d → IsAwaitedOp script n
  pub once : (n : ℕ) (one two : Code) (first second d e : ℕ) → IsShownAt events (event.Done n one first) d →
      IsShownAt events (event.Done n two second) e → d ≡ e
  pub undropped : (n : ℕ) → is_dropped (phase_at s n) ≡ false
  pub told : (n : ℕ) (given : Code) (size d : ℕ) → IsShownAt events (event.Done n given size) d →
      StandsTold given size d (phase_at s n)
  pub begun : (n : ℕ) (given : Code) (size d : ℕ) → IsShownAt events (event.Begin n given size) d →
      is_past (phase_at s n) ≡ true

-- what stands among events stays there
take_within : {A : Type 0} → (xs ys : List A) (i : ℕ) → i ≤ length xs → take i (xs ++ ys) ≡ take i xs
take_within xs ys zero within = refl
take_within [] ys (suc i) within = absurd (omega (arith, within))
take_within (x ∷ xs) ys (suc i) within = ap (λ zs. x ∷ zs) (take_within xs ys i (omega (arith, within)))

take_whole : {A : Type 0} → (xs ys : List A) → take (length xs) (xs ++ ys) ≡ xs
take_whole [] ys = refl
take_whole (x ∷ xs) ys = ap (λ zs. x ∷ zs) (take_whole xs ys)

pub get_within : {A : Type 0} → (xs : List A) (i : ℕ) (x : A) → get_elem? xs i ≡ some x → i < length xs
get_within [] i x at = absurd (some-ne-none x (sym at))
get_within (y ∷ xs) zero x at = omega arith
get_within (y ∷ xs) (suc i) x at = let rest = get_within xs i x at in omega (arith, rest)

at_last : {A : Type 0} → (xs : List A) (x : A) → get_elem? (xs ++ x ∷ []) (length xs) ≡ some x
at_last [] x = refl
at_last (y ∷ xs) x = at_last xs x

-- what stands among events stands there whatever comes behind
pub shown_among : (events more : List Event) (shown : Event) (count : ℕ) → IsShownAt events shown count →
    IsShownAt (events ++ more) shown count
shown_among events more shown count is =
    let within : is.at < length events = get_within events is.at shown is.there in
    record {
      at = is.at;
      there = at_left events more is.at within ∙ is.there;
      counts = ap counted_in (take_within events more is.at (omega (arith, within))) ∙ is.counts;
    }

pub shown_later : (events : List Event) (next shown : Event) (count : ℕ) → IsShownAt events shown count →
    IsShownAt (events ++ next ∷ []) shown count
shown_later events next shown count is = shown_among events (next ∷ []) shown count is

pub shown_now : (events : List Event) (next shown : Event) (count : ℕ) → next ≡ shown → count ≡ counted_in events →
    IsShownAt (events ++ next ∷ []) shown count
shown_now events next shown count is counts = record {
  at = length events;
  there = at_last events next ∙ ap some is;
  counts = ap counted_in (take_whole events (next ∷ [])) ∙ sym counts;
}

-- it stood there before, or is the last
pub shown_before : (events : List Event) (next shown : Event) (count : ℕ) → IsShownAt (events ++ next ∷ []) shown count →
    IsShownAt events shown count ⊎ ((next ≡ shown) × (count ≡ counted_in events))
shown_before events next shown count is = elim (cases_lt is.at (length events)) [
  | inl within ↦
      inl (record {
        at = is.at;
        there = sym (at_left events (next ∷ []) is.at within) ∙ is.there;
        counts = ap counted_in (sym (take_within events (next ∷ []) is.at (omega (arith, within)))) ∙ is.counts;
      })
  | inr beyond ↦
      let here : get_elem? (next ∷ []) (is.at - length events) ≡ some shown =
      sym (at_right events (next ∷ []) is.at (is.at - length events) (omega (arith, beyond))) ∙ is.there in
      let less = get_within (next ∷ []) (is.at - length events) shown here in
      let same : is.at ≡ length events = omega (arith, less, beyond) in
      inr (
        some-injective next shown (sym (at_last events next) ∙ (ap (get_elem? (events ++ next ∷ [])) (sym same) ∙ is.there)),
        sym is.counts ∙ (ap (λ i. counted_in (take i (events ++ next ∷ []))) same ∙ ap counted_in (take_whole events (next ∷ []))),
      )
]
