-- A body that has made a call more than is back is inside of that call.
use Rattle.std.proofs.Common.{◌≡◌, ◌≢◌, ◌⊎◌, ℕ, ◌+◌, ◌<◌, ◌≤◌, Bool, true, false, List, Some, None, inl, inr, length, refl, sym, ap, subst, ◌∙◌, arith}
use Rattle.std.specs.List.{slice_index_or}
use Rattle.std.specs.Prelude.{slice_get}
use Rattle.std.proofs.lemmas.Bool.{cases_eq, cases_lt}
use Rattle.std.proofs.lemmas.List.{length-set}
use Rattle.std.proofs.lemmas.Option.{slice_get_within}
use Rattle.asio_types.specs.Faults.{one_more}
use Rattle.asio_types.specs.declared.code.Class.{Class}
use Rattle.asio_types.specs.declared.event.Event.{Event}
use Rattle.asio_types.specs.declared.event.Event.TheVariants as event
use Rattle.session_script.specs.Lanes.{is_inline, lane_of}
use Rattle.session_script.specs.Script.{Place, ScriptModel, is_stop, parent_of}
use Rattle.session_script.specs.WellFormed.{IsWellFormed}
use Rattle.history_rules.specs.Calls.{MayCall, MayReturn, accepted, after_call, after_return, is_open, progressed, returned, stepped, with_progress}
use Rattle.history_rules.specs.Executions.{begun}
use Rattle.history_rules.specs.Kinds.{is_act}
use Rattle.history_rules.specs.Legal.{MayHappen, after_event}
use Rattle.history_rules.specs.State.{ContextState, State, act_at, call_at, first_state, fresh, no_progress, phase_at, with_act}
use Rattle.history_rules.specs.declared.phase.ActPhase.{ActPhase}
use Rattle.history_rules.specs.declared.phase.ActPhase.TheVariants as phase
use Rattle.history_rules.specs.declared.phase.ActState.{ActState}
use Rattle.history_rules.specs.declared.phase.CallPhase.{CallPhase}
use Rattle.history_rules.specs.declared.phase.CallPhase.TheVariants as call
use Rattle.history_rules.specs.declared.phase.Progress.{Progress}
use Rattle.history_rules.specs.declared.phase.Step.TheVariants as step
use Rattle.history_laws.specs.Events.{is_return_of}
use Rattle.history_laws.proofs.BodyLemmas.{IsBehind, behind, body_of, stands_in}
use Rattle.history_laws.proofs.CountLemmas.{apart-is, one_more-is, same-is}
use Rattle.history_laws.proofs.FirstLemmas.{first_act}
use Rattle.history_laws.proofs.HistoryLemmas.{moves_after}
use Rattle.history_laws.proofs.Moves.{Moves, comes_back, completes, destroys, enters, finishes, further, halts, initiates, is_calling, starts, stays}
use Rattle.history_laws.proofs.MovingLemmas.{IsNext, NextIn, called_within, few, is_next, open_within, return_open}
use Rattle.history_laws.proofs.ShownLemmas.{accepted-none}
use Rattle.history_laws.proofs.Sound.{Calls, CallsIn, IsSound}
use Rattle.history_laws.proofs.SoundLemmas.{spent_by}
use Rattle.history_laws.proofs.StepLemmas.{at_changed, at_other, limited_by, steps_behind, steps_by}

-- a call of the body is open
pub record IsInside (c : ContextState) (acts : List ℕ) (p : Progress) : Type 0 where
  pub act : ℕ
  pub at : slice_get acts p.back ≡ Some act
  pub made : p.made ≡ p.back + 1
  pub opened : is_open (call_at c act) ≡ true

-- a body makes a call, or is between two
pub record IsMaking (c : ContextState) (acts : List ℕ) (p : Progress) : Type 0 where
  pub calls : (p.made ≡ p.back) ⊎ IsInside c acts p
  pub within : p.back ≤ length acts

pub record AreMaking (script : ScriptModel) (c : ContextState) : Type 0 where
  pub opening : IsMaking c (body_of script None) c.opening
  pub handlers : (o : ℕ) (class : Class) (p : Progress) → phase_at c o ≡ phase.Running class p →
      IsMaking c (body_of script (Some (o, class))) p
  -- the calls of `open` that it has made
  pub called : (k n : ℕ) → k < c.opening.made → slice_get (body_of script None) k ≡ Some n → call_at c n ≢ call.Uncalled

-- an open call stays open until it comes back
open_stays : (script : ScriptModel) (n : ℕ) (e : Event) (old new : ActState) → Moves script n e old new →
    is_return_of n e ≡ false → is_open old.call ≡ true → is_open new.call ≡ true
open_stays script n e old new (stays isnt) never opened = opened
open_stays script n e old new (further isnt calling more) never opened = opened
open_stays script n e old new initiates never opened = absurd (cc)
open_stays script n e old new (comes_back at is entered) never opened =
    absurd (let wrong : true ≡ false = sym (same-is n) ∙ never in cc)
open_stays script n e old new halts never opened = refl
open_stays script n e old new starts never opened = opened
open_stays script n e old new enters never opened = opened
open_stays script n e old new (finishes all) never opened = opened
open_stays script n e old new completes never opened = opened
open_stays script n e old new (destroys is isnt entered) never opened = opened

-- a call that was made stays so
returned_called : (at : ℕ) (made : CallPhase) → is_open made ≡ true → returned at made ≢ call.Uncalled
returned_called at call.Uncalled is = absurd (cc)
returned_called at (call.Open called) is = λ same. absurd (cc)
returned_called at (call.Stopping called) is = λ same. absurd (cc)
returned_called at (call.Back called back) is = absurd (cc)

called_stays : (script : ScriptModel) (n : ℕ) (e : Event) (old new : ActState) → Moves script n e old new →
    old.call ≢ call.Uncalled → new.call ≢ call.Uncalled
called_stays script n e old new (stays isnt) made = made
called_stays script n e old new (further isnt calling more) made = made
called_stays script n e old new initiates made = absurd (made refl)
called_stays script n e old new (comes_back at {made = was} opened entered) made = returned_called at was opened
called_stays script n e old new halts made = λ same. absurd (cc)
called_stays script n e old new starts made = made
called_stays script n e old new enters made = made
called_stays script n e old new (finishes all) made = made
called_stays script n e old new completes made = made
called_stays script n e old new (destroys is isnt entered) made = made

-- a handler that runs ran before, or has made no call
runs_from : (script : ScriptModel) (o : ℕ) (e : Event) (old new : ActState) → Moves script o e old new →
    is_calling e ≡ false → (class : Class) (p : Progress) → new.phase ≡ phase.Running class p →
    (old.phase ≡ phase.Running class p) ⊎ (p ≡ no_progress)
runs_from script o e old new (stays isnt) never class p is = inl is
runs_from script o e old new (further isnt calling more) never class p is =
    absurd (let wrong : true ≡ false = sym calling ∙ never in cc)
runs_from script o e old new initiates never class p is = absurd (cc)
runs_from script o e old new (comes_back at opened entered) never class p is = absurd (cc)
runs_from script o e old new halts never class p is = inl is
runs_from script o e old new starts never class p is = let same : no_progress ≡ p = cc in inr (sym same)
runs_from script o e old new enters never class p is = let same : no_progress ≡ p = cc in inr (sym same)
runs_from script o e old new (finishes all) never class p is = absurd (cc)
runs_from script o e old new completes never class p is = absurd (cc)
runs_from script o e old new (destroys is_unspent isnt entered) never class p is = absurd (cc)

inside_same : (c t : ContextState) (acts : List ℕ) (p : Progress) →
    ((n : ℕ) → slice_get acts p.back ≡ Some n → is_open (call_at c n) ≡ true → is_open (call_at t n) ≡ true) →
    IsMaking c acts p → IsMaking t acts p
inside_same c t acts p keeps making = record {
  calls = elim making.calls [
    | inl idle ↦ inl idle
    | inr inside ↦
        inr (record {
          act = inside.act;
          at = inside.at;
          made = inside.made;
          opened = keeps inside.act inside.at inside.opened;
        })
  ];
  within = making.within;
}

none_made : (c : ContextState) (acts : List ℕ) → IsMaking c acts no_progress
none_made c acts = record { calls = inl refl; within = omega arith }

running_number : ActPhase → ℕ
running_number (phase.Running class progress) = 1
running_number phase.Absent = 0
running_number phase.Inside = 0
running_number phase.Requested = 0
running_number (phase.Ready given size why) = 0
running_number phase.Ended = 0
running_number phase.Dropped = 0
running_number phase.Asked = 0

-- no handler runs where its operation is called
accepted_idle : (script : ScriptModel) (n : ℕ) (class : Class) (p : Progress) → accepted script n ≡ phase.Running class p → ⊥
unfolding running_number
accepted_idle script n class p is =
    let none = accepted-none running_number refl refl refl refl refl script n in
    let one : running_number (accepted script n) ≡ 1 = ap running_number is in
    absurd (omega (arith, none, one))

-- the handler that makes the next call
pub next_running : (acts : List ℕ) (class : Class) (p : ActPhase) (a : ℕ) → NextIn acts class p a →
    (q : Progress) × (p ≡ phase.Running class q) × (slice_get acts q.made ≡ Some a) × (q.made ≡ q.back)
next_running acts class (phase.Running running q) a next =
    (q, ap (λ (class : Class). phase.Running class q) next.0, next.1, next.2)
next_running acts class phase.Absent a next = absurd next
next_running acts class phase.Inside a next = absurd next
next_running acts class phase.Requested a next = absurd next
next_running acts class (phase.Ready given size why) a next = absurd next
next_running acts class phase.Ended a next = absurd next
next_running acts class phase.Dropped a next = absurd next
next_running acts class phase.Asked a next = absurd next

calls_from : (acts : List ℕ) (class : Class) (p : ActPhase) (a : ℕ) → CallsIn acts class p a →
    (q : Progress) × (p ≡ phase.Running class q) × (slice_get acts q.back ≡ Some a) × (q.made ≡ q.back + 1)
calls_from acts class (phase.Running running q) a calls =
    (q, ap (λ (class : Class). phase.Running class q) calls.0, calls.1, calls.2)
calls_from acts class phase.Absent a calls = absurd calls
calls_from acts class phase.Inside a calls = absurd calls
calls_from acts class phase.Requested a calls = absurd calls
calls_from acts class (phase.Ready given size why) a calls = absurd calls
calls_from acts class phase.Ended a calls = absurd calls
calls_from acts class phase.Dropped a calls = absurd calls
calls_from acts class phase.Asked a calls = absurd calls

module _ (script : ScriptModel) (well : IsWellFormed script) (told : Bool) (s : State) (sound : IsSound script s)
    (are : AreMaking script s.context) where
  abbrev pub c : ContextState
  c = s.context

  -- an event that isn't a call, and brings none back
  making_by : (e : Event) (t : ContextState) → is_calling e ≡ false → t.opening ≡ c.opening →
      ((n : ℕ) → Moves script n e (act_at c n) (act_at t n)) → AreMaking script t
  making_by e t never opening moves = record {
    opening =
        subst (IsMaking t (body_of script None)) (sym opening)
        (inside_same c t (body_of script None) c.opening (λ n at. keeps n) are.opening);
    handlers = λ o class p is. elim (runs_from script o e (act_at c o) (act_at t o) (moves o) never class p is) [
      | inl was ↦
          inside_same c t (body_of script (Some (o, class))) p (λ n at. keeps n) (are.handlers o class p was)
      | inr none ↦ subst (IsMaking t (body_of script (Some (o, class)))) (sym none) (none_made t (body_of script (Some (o, class))))
    ];
    called = λ k n less at.
        called_stays script n e (act_at c n) (act_at t n) (moves n)
        (are.called k n (let same = ap (λ (p : Progress). p.made) opening in omega (arith, less, same)) at);
  }
    where
      no_calling : (n : ℕ) (e : Event) → is_calling e ≡ false → is_return_of n e ≡ false
      no_calling n (event.Back a) isnt = absurd (cc)
      no_calling n _ isnt = refl

      keeps : (n : ℕ) → is_open (call_at c n) ≡ true → is_open (call_at t n) ≡ true
      keeps n = open_stays script n e (act_at c n) (act_at t n) (moves n) (no_calling n e never)

  module _ (a : ℕ) (may : MayCall script s.reactor.failed c a) where
    abbrev pub after : ContextState
    after = after_call script c a

    abbrev pub new : ActState
    new = record { call = call.Open c.events; phase = accepted script a }

    abbrev pub d : ContextState
    d = with_progress (parent_of script a) step.Made c

    call_keeps : (n : ℕ) → is_open (call_at c n) ≡ true → is_open (call_at after n) ≡ true
    call_keeps n =
        open_stays script n (event.Call a) (act_at c n) (act_at after n) (moves_after script well told s sound (event.Call a) may n)
        refl

    pub here : act_at after a ≡ new
    here =
        let steps = steps_by (parent_of script a) step.Made c in
        at_changed d.acts a new (omega (arith, called_within script well told s sound a may, steps.count))

    here_open : is_open (call_at after a) ≡ true
    here_open = ap (λ (act : ActState). is_open act.call) here

    few_here : (place : Place) (k : ℕ) → slice_get (body_of script place) k ≡ Some a → one_more k ≡ k + 1
    few_here place k at = one_more-is k (few script well told s sound place a k at)

    -- one more call of a body was made
    one_made : (place : Place) (p : Progress) → slice_get (body_of script place) p.made ≡ Some a → p.made ≡ p.back →
        IsMaking after (body_of script place) (stepped step.Made p)
    one_made place p at idle =
        let there : slice_get (body_of script place) p.back ≡ Some a = ap (slice_get (body_of script place)) (sym idle) ∙ at in
        let more = few_here place p.made at in
        let within = slice_get_within (body_of script place) p.back a there in
        record {
          calls = inr (record { act = a; at = there; made = omega (arith, more, idle); opened = here_open });
          within = omega (arith, within);
        }

    opening_call : (place : Place) → parent_of script a ≡ place → IsNext script c place a →
        IsMaking after (body_of script None) (with_progress place step.Made c).opening
    opening_call None is next = one_made None c.opening next.0 next.1
    opening_call (Some at) is next =
        inside_same c after (body_of script None) c.opening (λ n at. call_keeps n) are.opening

    -- of the handler that calls it, and of another
    phase_after : (place : Place) (o : ℕ) → parent_of script a ≡ place → IsNext script c place a → o ≢ a →
        ((at : ℕ × Class) × (place ≡ Some at) × (o ≡ at.0) × (phase_at after o ≡ progressed step.Made (phase_at c o)))
        ⊎ (phase_at after o ≡ phase_at c o)
    phase_after None o is next other =
        let same : act_at after o ≡ act_at c o =
        at_other d.acts a o new other ∙ ap (λ (place : Place). act_at (with_progress place step.Made c) o) is in
        inr (ap (λ (act : ActState). act.phase) same)
    phase_after (Some at) o is next other =
        let stepped_act : ActState = record (act_at c at.0) { phase = progressed step.Made (phase_at c at.0) } in
        let first : act_at after o ≡ slice_index_or (with_progress (Some at) step.Made c).acts o fresh =
        at_other d.acts a o new other ∙ ap (λ (place : Place). act_at (with_progress place step.Made c) o) is in
        elim (cases_eq o at.0) [
          | inl same ↦
              let before : at.0 < a = subst (λ (place : Place). IsBehind place a) is (behind script well a) in
              let changed : act_at (with_progress (Some at) step.Made c) at.0 ≡ stepped_act =
              at_changed c.acts at.0 stepped_act (omega (arith, before, called_within script well told s sound a may)) in
              let all : act_at after o ≡ stepped_act =
              first ∙ (ap (λ o. act_at (with_progress (Some at) step.Made c) o) same ∙ changed) in
              let ours : phase_at after o ≡ progressed step.Made (phase_at c o) =
              ap (λ (act : ActState). act.phase) all ∙ ap (λ o. progressed step.Made (phase_at c o)) (sym same) in
              inl (at, refl, same, ours)
          | inr apart ↦ inr (ap (λ (act : ActState). act.phase) (first ∙ at_other c.acts at.0 o stepped_act apart))
        ]

    handler_call : (o : ℕ) (class : Class) (p : Progress) → phase_at after o ≡ phase.Running class p →
        IsMaking after (body_of script (Some (o, class))) p
    handler_call o class p is = elim (cases_eq o a) [
      | inl same ↦
          absurd (accepted_idle script a class p (ap (λ (act : ActState). act.phase) (sym here)
          ∙ (ap (λ n. phase_at after n) (sym same) ∙ is)))
      | inr other ↦
          elim (phase_after (parent_of script a) o refl (is_next script s.reactor.failed c a may) other) [
            | inl ours ↦ own ours.0 ours.1 ours.2 ours.3
            | inr same ↦
                inside_same c after (body_of script (Some (o, class))) p (λ n at. call_keeps n)
                (are.handlers o class p (sym same ∙ is))
          ]
    ]
      where
        own : (at : ℕ × Class) → parent_of script a ≡ Some at → o ≡ at.0 →
            phase_at after o ≡ progressed step.Made (phase_at c o) → IsMaking after (body_of script (Some (o, class))) p
        own at parent same ours =
            let next : NextIn (body_of script (Some at)) at.1 (phase_at c at.0) a =
            subst (λ (place : Place). IsNext script c place a) parent (is_next script s.reactor.failed c a may) in
            let runs = next_running (body_of script (Some at)) at.1 (phase_at c at.0) a next in
            let q : Progress = runs.0 in
            let both : phase.Running at.1 (stepped step.Made q) ≡ phase.Running class p =
            sym (ours ∙ ap (progressed step.Made) (ap (phase_at c) same ∙ runs.1)) ∙ is in
            let classes : at.1 ≡ class = cc in
            let progresses : stepped step.Made q ≡ p = cc in
            let it : IsMaking after (body_of script (Some at)) (stepped step.Made q) = one_made (Some at) q runs.2 runs.3 in
            subst (λ (p : Progress). IsMaking after (body_of script (Some (o, class))) p) progresses
            (subst (λ (class : Class). IsMaking after (body_of script (Some (o, class))) (stepped step.Made q)) classes
            (subst (λ (o : ℕ). IsMaking after (body_of script (Some (o, at.1))) (stepped step.Made q)) (sym same) it))

    call_called : (place : Place) → parent_of script a ≡ place → IsNext script c place a → (k n : ℕ) →
        k < (with_progress place step.Made c).opening.made → slice_get (body_of script None) k ≡ Some n →
        call_at after n ≢ call.Uncalled
    call_called None is next k n less at = elim (cases_eq n a) [
      | inl same ↦
          subst (λ (n : ℕ). call_at after n ≢ call.Uncalled) (sym same)
          (λ uncalled. let wrong : call.Open c.events ≡ call.Uncalled =
          sym (ap (λ (act : ActState). act.call) here) ∙ uncalled in
          absurd (cc))
      | inr other ↦
          let more = few_here None c.opening.made next.0 in
          before k n (elim (cases_lt k c.opening.made) [
            | inl less ↦ less
            | inr past ↦
                let it : k ≡ c.opening.made = omega (arith, less, more, past) in
                let both : Some n ≡ Some a = sym at ∙ (ap (slice_get (body_of script None)) it ∙ next.0) in
                absurd (other (let same : n ≡ a = cc in same))
          ]) at
    ]
      where
        before : (k n : ℕ) → k < c.opening.made → slice_get (body_of script None) k ≡ Some n →
            call_at after n ≢ call.Uncalled
        before k n less at =
            called_stays script n (event.Call a) (act_at c n) (act_at after n)
            (moves_after script well told s sound (event.Call a) may n) (are.called k n less at)
    call_called (Some place) is next k n less at =
        called_stays script n (event.Call a) (act_at c n) (act_at after n)
        (moves_after script well told s sound (event.Call a) may n) (are.called k n less at)

    making_call : AreMaking script after
    making_call = record {
      opening = opening_call (parent_of script a) refl (is_next script s.reactor.failed c a may);
      handlers = handler_call;
      called = call_called (parent_of script a) refl (is_next script s.reactor.failed c a may);
    }

  module _ (a : ℕ) (may : MayReturn script c a) where
    abbrev pub back_new : ActState
    back_new = record (act_at c a) { call = returned c.events (call_at c a) }

    abbrev pub back_d : ContextState
    back_d = with_act c a back_new

    abbrev pub back_t : ContextState
    back_t = with_progress (parent_of script a) step.Back back_d

    abbrev pub back_after : ContextState
    back_after = after_return script c a

    back_acts : (n : ℕ) → act_at back_after n ≡ act_at back_t n
    back_acts n =
        ap (λ (acts : List ActState). slice_index_or acts n fresh)
        (limited_by script (parent_of script a) a (is_act is_stop script a) back_t).acts

    back_opening : back_after.opening ≡ back_t.opening
    back_opening = (limited_by script (parent_of script a) a (is_act is_stop script a) back_t).opening

    own_calls : Calls script c (parent_of script a) a
    own_calls = sound.calls a (return_open script well told s sound a may)

    phase_d : (n : ℕ) → phase_at back_d n ≡ phase_at c n
    phase_d n = elim (cases_eq n a) [
      | inl same ↦
          subst (λ (n : ℕ). phase_at back_d n ≡ phase_at c n) (sym same)
          (ap (λ (act : ActState). act.phase)
          (at_changed c.acts a back_new
          (open_within script well told s sound a (return_open script well told s sound a may))))
      | inr other ↦ ap (λ (act : ActState). act.phase) (at_other c.acts a n back_new other)
    ]

    pub back_here : act_at back_after a ≡ back_new
    back_here =
        back_acts a
        ∙ (steps_behind (parent_of script a) step.Back back_d a (behind script well a)
        ∙ at_changed c.acts a back_new
        (open_within script well told s sound a (return_open script well told s sound a may)))

    back_keeps : (n : ℕ) → n ≢ a → is_open (call_at c n) ≡ true → is_open (call_at back_after n) ≡ true
    back_keeps n other =
        open_stays script n (event.Back a) (act_at c n) (act_at back_after n)
        (moves_after script well told s sound (event.Back a) may n) (apart-is a n (λ same. other (sym same)))

    -- one more call of a body is back
    one_back : (place : Place) (p : Progress) → slice_get (body_of script place) p.back ≡ Some a → p.made ≡ p.back + 1 →
        IsMaking back_after (body_of script place) (stepped step.Back p)
    one_back place p at made =
        let more = one_more-is p.back (few script well told s sound place a p.back at) in
        let within = slice_get_within (body_of script place) p.back a at in
        record { calls = inl (omega (arith, more, made)); within = omega (arith, more, within) }

    opening_back : (place : Place) → parent_of script a ≡ place → Calls script c place a →
        IsMaking back_after (body_of script None) (with_progress place step.Back back_d).opening
    opening_back None is calls = one_back None c.opening calls.0 calls.1
    opening_back (Some at) is calls =
        inside_same c back_after (body_of script None) c.opening
        (λ n stands. back_keeps n
        (λ same. let wrong : None ≡ Some at = sym (stands_in script None n c.opening.back stands)
        ∙ (ap (parent_of script) same ∙ is) in
        absurd (cc))) are.opening

    back_phase : (place : Place) (o : ℕ) → parent_of script a ≡ place →
        ((at : ℕ × Class) × (place ≡ Some at) × (o ≡ at.0) × (phase_at back_after o ≡ progressed step.Back (phase_at c o)))
        ⊎ (((class : Class) → place ≡ Some (o, class) → ⊥) × (phase_at back_after o ≡ phase_at c o))
    back_phase None o is =
        let same : act_at back_after o ≡ act_at back_d o =
        back_acts o ∙ ap (λ (place : Place). act_at (with_progress place step.Back back_d) o) is in
        inr ((λ class wrong. absurd (cc)), ap (λ (act : ActState). act.phase) same ∙ phase_d o)
    back_phase (Some at) o is =
        let stepped_act : ActState = record (act_at back_d at.0) { phase = progressed step.Back (phase_at back_d at.0) } in
        let first : act_at back_after o ≡ act_at (with_progress (Some at) step.Back back_d) o =
        back_acts o ∙ ap (λ (place : Place). act_at (with_progress place step.Back back_d) o) is in
        elim (cases_eq o at.0) [
          | inl same ↦
              let before : at.0 < a = subst (λ (place : Place). IsBehind place a) is (behind script well a) in
              let there = open_within script well told s sound a (return_open script well told s sound a may) in
              let long = length-set c.acts a back_new in
              let changed : act_at (with_progress (Some at) step.Back back_d) at.0 ≡ stepped_act =
              at_changed back_d.acts at.0 stepped_act (omega (arith, before, there, long)) in
              let all : act_at back_after o ≡ stepped_act =
              first ∙ (ap (λ o. act_at (with_progress (Some at) step.Back back_d) o) same ∙ changed) in
              let ours : phase_at back_after o ≡ progressed step.Back (phase_at c o) =
              ap (λ (act : ActState). act.phase) all
              ∙ (ap (progressed step.Back) (phase_d at.0) ∙ ap (λ o. progressed step.Back (phase_at c o)) (sym same)) in
              inl (at, refl, same, ours)
          | inr apart ↦
              inr (
                (λ class place_is. let it : at ≡ (o, class) = cc in apart (sym (ap (λ at. at.0) it))),
                ap (λ (act : ActState). act.phase) (first ∙ at_other back_d.acts at.0 o stepped_act apart) ∙ phase_d o,
              )
        ]

    handler_back : (o : ℕ) (class : Class) (p : Progress) → phase_at back_after o ≡ phase.Running class p →
        IsMaking back_after (body_of script (Some (o, class))) p
    handler_back o class p is =
        elim (back_phase (parent_of script a) o refl) [
          | inl ours ↦ own ours.0 ours.1 ours.2 ours.3
          | inr same ↦
              inside_same c back_after (body_of script (Some (o, class))) p
              (λ n stands. back_keeps n (λ here. same.0 class
              (ap (parent_of script) (sym here) ∙ stands_in script (Some (o, class)) n p.back stands)))
              (are.handlers o class p (sym same.1 ∙ is))
        ]
      where
        own : (at : ℕ × Class) → parent_of script a ≡ Some at → o ≡ at.0 →
            phase_at back_after o ≡ progressed step.Back (phase_at c o) →
            IsMaking back_after (body_of script (Some (o, class))) p
        own at parent same ours =
            let calls : CallsIn (body_of script (Some at)) at.1 (phase_at c at.0) a =
            subst (λ (place : Place). Calls script c place a) parent own_calls in
            let runs = calls_from (body_of script (Some at)) at.1 (phase_at c at.0) a calls in
            let q : Progress = runs.0 in
            let both : phase.Running at.1 (stepped step.Back q) ≡ phase.Running class p =
            sym (ours ∙ ap (progressed step.Back) (ap (phase_at c) same ∙ runs.1)) ∙ is in
            let classes : at.1 ≡ class = cc in
            let progresses : stepped step.Back q ≡ p = cc in
            let it : IsMaking back_after (body_of script (Some at)) (stepped step.Back q) =
            one_back (Some at) q runs.2 runs.3 in
            subst (λ (p : Progress). IsMaking back_after (body_of script (Some (o, class))) p) progresses
            (subst (λ (class : Class). IsMaking back_after (body_of script (Some (o, class))) (stepped step.Back q)) classes
            (subst (λ (o : ℕ). IsMaking back_after (body_of script (Some (o, at.1))) (stepped step.Back q)) (sym same) it))

    making_back : AreMaking script back_after
    making_back = record {
      opening =
          subst (IsMaking back_after (body_of script None)) (sym back_opening)
          (opening_back (parent_of script a) refl own_calls);
      handlers = handler_back;
      called = λ k n less at.
          called_stays script n (event.Back a) (act_at c n) (act_at back_after n)
          (moves_after script well told s sound (event.Back a) may n)
          (are.called k n (let same = back_made (parent_of script a) in omega (arith, less, same)) at);
    }
      where
        made_same : (place : Place) → (with_progress place step.Back back_d).opening.made ≡ c.opening.made
        made_same None = refl
        made_same (Some at) = refl

        back_made : (place : Place) → back_after.opening.made ≡ c.opening.made
        back_made place = ap (λ (p : Progress). p.made) back_opening ∙ made_same (parent_of script a)

  -- each event keeps it
  pub making_after : (e : Event) → MayHappen script told s e → AreMaking script (after_event script told s e).context
  making_after (event.Call a) may = making_call a may
  making_after (event.Back a) may = making_back a may
  making_after (event.Begin o given size) may =
      making_by (event.Begin o given size) (after_event script told s (event.Begin o given size)).context refl
      (spent_by (is_inline script o) (lane_of script o) (begun c o given)).opening
      (moves_after script well told s sound (event.Begin o given size) may)
  making_after (event.Stop (Some a)) may =
      making_by (event.Stop (Some a)) (after_event script told s (event.Stop (Some a))).context refl refl
      (moves_after script well told s sound (event.Stop (Some a)) may)
  making_after (event.Stop None) may =
      making_by (event.Stop None) (after_event script told s (event.Stop None)).context refl refl
      (moves_after script well told s sound (event.Stop None) may)
  making_after e may =
      making_by e (after_event script told s e).context refl refl (moves_after script well told s sound e may)

pub first_making : (script : ScriptModel) (told : Bool) → AreMaking script (first_state script told).context
first_making script told = record {
  opening = none_made (first_state script told).context (body_of script None);
  handlers = λ o class p is.
      absurd (let wrong : phase.Absent ≡ phase.Running class p =
      sym (ap (λ (act : ActState). act.phase) (first_act script told o)) ∙ is in
      cc);
  called = λ k n less at. absurd (omega (arith, less));
}
