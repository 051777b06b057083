-- What an event that may happen makes of each act.
use Rattle.std.proofs.Common.{◌≡◌, ◌≢◌, ℕ, ◌<◌, ◌==◌, Bool, true, false, cond, not, ◌&&◌, ◌||◌, List, Some, None, inl, inr, length, refl, sym, ap, subst, ◌∙◌, arith}
use Rattle.std.specs.List.{slice_index_or, slice_set}
use Rattle.std.specs.Option.{unwrap_or}
use Rattle.std.proofs.lemmas.List.{get_or_past}
use Rattle.std.specs.Prelude.{slice_get, IsSomeAnd}
use Rattle.std.proofs.lemmas.Bool.{and_parts, cases_eq, cases_lt, eqb-true}
use Rattle.std.proofs.lemmas.Option.{slice_get_within}
use Rattle.asio_types.specs.Code.{class_of_code}
use Rattle.asio_types.specs.Faults.{most_faults}
use Rattle.asio_types.specs.declared.code.Class.{Class}
use Rattle.asio_types.specs.declared.code.Code.{Code}
use Rattle.asio_types.specs.declared.event.Event.{Event}
use Rattle.asio_types.specs.declared.event.Event.TheVariants as event
use Rattle.session_script.specs.Lanes.{is_inline, lane_of}
use Rattle.session_script.specs.Script.{Place, ScriptModel, is_stop, parent_of, same_class}
use Rattle.session_script.specs.WellFormed.{IsWellFormed}
use Rattle.history_rules.specs.Calls.{Body, IsNextOf, MayCall, MayReturn, MayStop, accepted, after_call, after_return, after_stop, body_at, has_ended, has_stopped, is_call_done, is_made, is_open, returned, running_body, stopping, with_progress}
use Rattle.history_rules.specs.Executions.{MayBegin, MayEnd, after_begin, after_end, begun, has_finished}
use Rattle.history_rules.specs.Kinds.{is_act}
use Rattle.history_rules.specs.Requests.{context_after_done}
use Rattle.history_rules.specs.Rounds.{after_drop, is_running, is_unspent}
use Rattle.history_rules.specs.State.{ContextState, State, act_at, call_at, counted, fresh, no_progress, phase_at, with_act}
use Rattle.history_rules.specs.Stopping.{spend}
use Rattle.history_rules.specs.declared.phase.ActPhase.{ActPhase}
use Rattle.history_rules.specs.declared.phase.ActPhase.TheVariants as phase
use Rattle.history_rules.specs.declared.phase.ActState.{ActState}
use Rattle.history_rules.specs.declared.phase.CallPhase.{CallPhase}
use Rattle.history_rules.specs.declared.phase.CallPhase.TheVariants as call
use Rattle.history_rules.specs.declared.phase.Cause.TheVariants as cause
use Rattle.history_rules.specs.declared.phase.Progress.{Progress}
use Rattle.history_rules.specs.declared.phase.Step.TheVariants as step
use Rattle.history_laws.proofs.BodyLemmas.{behind, body_of, few_acts, few_in, is_act_of, same_class-self, same_class-true}
use Rattle.history_laws.proofs.CountLemmas.{apart-is, one_more-is}
use Rattle.history_laws.proofs.KindLemmas.{inline_no_stop, was_made}
use Rattle.history_laws.proofs.Moves.{Moves, comes_back, completes, destroys, enters, finishes, halts, initiates, is_about, starts, stays}
use Rattle.history_laws.proofs.Sound.{AheadIn, IsAhead, IsPhaseOf, IsSound}
use Rattle.history_laws.proofs.StepLemmas.{Rises, RisesIn, at_changed, at_other, is_there, limited_by, others_step, steps_behind, steps_by}

-- the act is the next one of a handler of this class
abbrev pub NextIn : List ℕ → Class → ActPhase → ℕ → Type 0
NextIn acts class (phase.Running running progress) a =
    (running ≡ class) × (slice_get acts progress.made ≡ Some a) × (progress.made ≡ progress.back)
NextIn acts class _ a = ⊥

-- it is the next one of the body in this place
abbrev pub IsNext : ScriptModel → ContextState → Place → ℕ → Type 0
IsNext script c None a =
    (slice_get (body_of script None) c.opening.made ≡ Some a) × (c.opening.made ≡ c.opening.back)
IsNext script c (Some at) a = NextIn (body_of script (Some at)) at.1 (phase_at c at.0) a

next_open : (script : ScriptModel) (failed : Bool) (c : ContextState) (a : ℕ) →
    IsSomeAnd (body_at script failed c None) (IsNextOf a) → IsNext script c None a
next_open script true c a next = absurd next
next_open script false c a next = (next.next, next.idle)

next_class : (acts : List ℕ) (class running : Class) (progress : Progress) (a : ℕ) (same : Bool) →
    same_class running class ≡ same →
    IsSomeAnd (cond same (Some (let it : Body = record { acts = acts; progress = progress } in it)) None) (IsNextOf a) →
    NextIn acts class (phase.Running running progress) a
next_class acts class running progress a true same next = (same_class-true running class same, next.next, next.idle)
next_class acts class running progress a false same next = absurd next

next_in : (script : ScriptModel) (op : ℕ) (class : Class) (p : ActPhase) (a : ℕ) →
    IsSomeAnd (running_body script op class p) (IsNextOf a) → NextIn (body_of script (Some (op, class))) class p a
next_in script op class (phase.Running running progress) a next =
    next_class (body_of script (Some (op, class))) class running progress a (same_class running class) refl next
next_in script op class phase.Absent a next = absurd next
next_in script op class phase.Inside a next = absurd next
next_in script op class phase.Requested a next = absurd next
next_in script op class (phase.Ready given size why) a next = absurd next
next_in script op class phase.Ended a next = absurd next
next_in script op class phase.Dropped a next = absurd next
next_in script op class phase.Asked a next = absurd next

next_at : (script : ScriptModel) (failed : Bool) (c : ContextState) (place : Place) (a : ℕ) →
    IsSomeAnd (body_at script failed c place) (IsNextOf a) → IsNext script c place a
next_at script failed c None a next = next_open script failed c a next
next_at script failed c (Some at) a next = next_in script at.0 at.1 (phase_at c at.0) a next

-- an act that may be called is the next of its body
pub is_next : (script : ScriptModel) (failed : Bool) (c : ContextState) (a : ℕ) → MayCall script failed c a →
    IsNext script c (parent_of script a) a
is_next script failed c a may = next_at script failed c (parent_of script a) a may

-- the index of the next act
pub record HasIndex (acts : List ℕ) (a : ℕ) (Ahead : ℕ → Type 0) : Type 0 where
  pub index : ℕ
  pub at : slice_get acts index ≡ Some a
  pub ahead : Ahead index

index_in : (acts : List ℕ) (class : Class) (p : ActPhase) (a : ℕ) → NextIn acts class p a →
    HasIndex acts a (AheadIn class p)
index_in acts class (phase.Running running progress) a next = record {
  index = progress.made;
  at = next.1;
  ahead = (ap (same_class running) (sym next.0) ∙ same_class-self running, omega arith);
}
index_in acts class phase.Absent a next = absurd next
index_in acts class phase.Inside a next = absurd next
index_in acts class phase.Requested a next = absurd next
index_in acts class (phase.Ready given size why) a next = absurd next
index_in acts class phase.Ended a next = absurd next
index_in acts class phase.Dropped a next = absurd next
index_in acts class phase.Asked a next = absurd next

pub index_of : (script : ScriptModel) (c : ContextState) (place : Place) (a : ℕ) → IsNext script c place a →
    HasIndex (body_of script place) a (IsAhead c place)
index_of script c None a next = record { index = c.opening.made; at = next.0; ahead = omega arith }
index_of script c (Some at) a next = index_in (body_of script (Some at)) at.1 (phase_at c at.0) a next

rises_in : (acts : List ℕ) (class : Class) (p : ActPhase) (a : ℕ) →
    ((k : ℕ) → slice_get acts k ≡ Some a → k < most_faults) → NextIn acts class p a → RisesIn step.Made p
rises_in acts class (phase.Running running progress) a few next =
    let less = few progress.made next.1 in let more = one_more-is progress.made less in omega (arith, more)
rises_in acts class phase.Absent a few next = tt
rises_in acts class phase.Inside a few next = tt
rises_in acts class phase.Requested a few next = tt
rises_in acts class (phase.Ready given size why) a few next = tt
rises_in acts class phase.Ended a few next = tt
rises_in acts class phase.Dropped a few next = tt
rises_in acts class phase.Asked a few next = tt

rises_at : (script : ScriptModel) (c : ContextState) (place : Place) (a : ℕ) →
    ((k : ℕ) → slice_get (body_of script place) k ≡ Some a → k < most_faults) → IsNext script c place a →
    Rises step.Made c place
rises_at script c None a few next = tt
rises_at script c (Some at) a few next = rises_in (body_of script (Some at)) at.1 (phase_at c at.0) a few next

back_in : (p : ActPhase) → RisesIn step.Back p
back_in (phase.Running running progress) = omega arith
back_in phase.Absent = tt
back_in phase.Inside = tt
back_in phase.Requested = tt
back_in (phase.Ready given size why) = tt
back_in phase.Ended = tt
back_in phase.Dropped = tt
back_in phase.Asked = tt

back_rises : (c : ContextState) (place : Place) → Rises step.Back c place
back_rises c None = tt
back_rises c (Some at) = back_in (phase_at c at.0)

stopped_open : (made : CallPhase) → has_stopped made ≡ true → is_open made ≡ true
stopped_open (call.Stopping called) is = refl
stopped_open _ is = absurd (cc)

made_open : (made : CallPhase) → is_made made ≡ true → is_open made ≡ true
made_open (call.Open called) is = refl
made_open _ is = absurd (cc)

-- a call that may come back is open, and what executes inside it has begun
done_open : (stops inside : Bool) (act : ActState) → is_call_done stops inside act ≡ true → is_open act.call ≡ true
done_open true inside act done = stopped_open act.call done
done_open false inside act done =
    made_open act.call (and_parts (is_made act.call) (not inside || has_ended act.phase) done).0

done_entered : (stops inside : Bool) (act : ActState) → is_call_done stops inside act ≡ true →
    act.phase ≡ phase.Inside → inside ≡ true → stops ≡ true
done_entered true inside act done at is = refl
done_entered false inside act done at is =
    let both = (and_parts (is_made act.call) (not inside || has_ended act.phase) done).1 in
    let never : (not inside || has_ended act.phase) ≡ false = rw (is, at) refl in
    absurd (let wrong : true ≡ false = sym both ∙ never in cc)

pub finished_in : (script : ScriptModel) (o : ℕ) (p : ActPhase) → has_finished script o p ≡ true →
    (class : Class) × (progress : Progress) × (p ≡ phase.Running class progress) × (progress.made ≡ progress.back)
finished_in script o (phase.Running class progress) done = (class, progress, refl, same done)
  where
    same : ((progress.made == length (body_of script (Some (o, class)))) &&
        (progress.back == length (body_of script (Some (o, class))))) ≡ true → progress.made ≡ progress.back
    same done =
        let both = and_parts (progress.made == length (body_of script (Some (o, class))))
        (progress.back == length (body_of script (Some (o, class)))) done in
        eqb-true progress.made (length (body_of script (Some (o, class)))) both.0
        ∙ sym (eqb-true progress.back (length (body_of script (Some (o, class)))) both.1)
finished_in script o _ done = absurd (cc)

made_call : (act : ActState) → is_made act.call ≡ true → (at : ℕ) × (act.call ≡ call.Open at)
made_call act is = by_call act.call is
  where
    by_call : (made : CallPhase) → is_made made ≡ true → (at : ℕ) × (made ≡ call.Open at)
    by_call (call.Open at) is = (at, refl)
    by_call _ is = absurd (cc)

pub begun_acts : (inline : Bool) (c d : ContextState) → d.acts ≡ c.acts → (counted (cond inline c d)).acts ≡ c.acts
begun_acts true c d same = refl
begun_acts false c d same = same

fresh_is : (act : ActState) → act.call ≡ call.Uncalled → act.phase ≡ phase.Absent → fresh ≡ act
fresh_is act uncalled absent =
    let one : act ≡ record act { call = call.Uncalled } = ap (λ (made : CallPhase). record act { call = made }) uncalled in
    let two : record act { call = call.Uncalled } ≡ fresh =
    ap (λ (p : ActPhase). let it : ActState = record { call = call.Uncalled; phase = p } in it) absent in
    sym (one ∙ two)

module _ (script : ScriptModel) (well : IsWellFormed script) (told : Bool) (s : State) (sound : IsSound script s) where
  abbrev c : ContextState
  c = s.context

  abbrev Becomes : Event → ContextState → ℕ → Type 0
  Becomes e t n = Moves script n e (act_at c n) (act_at t n)

  -- one act changed, and no other
  one_moved : (e : Event) (a : ℕ) (new : ActState) (t : ContextState) → t.acts ≡ slice_set c.acts a new →
      a < length c.acts → ((n : ℕ) → n ≢ a → is_about n e ≡ false) → Moves script a e (act_at c a) new → (n : ℕ) →
      Becomes e t n
  one_moved e a new t acts within others here n =
      subst (λ (acts : List ActState). Moves script n e (act_at c n) (slice_index_or acts n fresh)) (sym acts)
      (elim (cases_eq n a) [
        | inl same ↦
            subst (λ (n : ℕ). Moves script n e (act_at c n) (slice_index_or (slice_set c.acts a new) n fresh)) (sym same)
            (subst (λ (act : ActState). Moves script a e (act_at c a) act) (sym (at_changed c.acts a new within)) here)
        | inr other ↦
            subst (λ (act : ActState). Moves script n e (act_at c n) act) (sym (at_other c.acts a n new other))
            (stays (others n other))
      ])

  other_number : (a n : ℕ) → n ≢ a → (a == n) ≡ false
  other_number a n other = apart-is a n (λ same. other (sym same))

  pub few : (place : Place) (a k : ℕ) → slice_get (body_of script place) k ≡ Some a → k < most_faults
  few place a k at =
      let within = slice_get_within (body_of script place) k a at in
      omega (arith, within, few_in place 0 script.acts, few_acts script well)

  pub called_fresh : (a : ℕ) → MayCall script s.reactor.failed c a → fresh ≡ act_at c a
  called_fresh a may =
      let next = is_next script s.reactor.failed c a may in
      let has = index_of script c (parent_of script a) a next in
      let uncalled = sound.bodies (parent_of script a) a has.index has.at has.ahead in
      fresh_is (act_at c a) uncalled ((sound.kinds a).uncalled uncalled)

  pub called_within : (a : ℕ) → MayCall script s.reactor.failed c a → a < length c.acts
  called_within a may =
      let next = is_next script s.reactor.failed c a may in
      let has = index_of script c (parent_of script a) a next in
      omega (arith, is_act_of script (parent_of script a) a has.index has.at, sound.acts)

  pub moves_call : (a : ℕ) → MayCall script s.reactor.failed c a → (n : ℕ) →
      Becomes (event.Call a) (after_call script s.context a) n
  moves_call a may n =
      let next = is_next script s.reactor.failed c a may in
      let place : Place = parent_of script a in
      let steps = steps_by place step.Made c in
      let new : ActState = record { call = call.Open c.events; phase = accepted script a } in
      let acts : List ActState = (with_progress place step.Made c).acts in
      elim (cases_eq n a) [
        | inl same ↦
            subst (λ (n : ℕ). Moves script n (event.Call a) (act_at c n) (slice_index_or (slice_set acts a new) n fresh))
            (sym same)
            (subst (λ (act : ActState). Moves script a (event.Call a) (act_at c a) act)
            (sym (at_changed acts a new (omega (arith, called_within a may, steps.count))))
            (subst (λ (act : ActState). Moves script a (event.Call a) act new) (called_fresh a may) initiates))
        | inr other ↦
            subst (λ (act : ActState). Moves script n (event.Call a) (act_at c n) act) (sym (at_other acts a n new other))
            (others_step script (event.Call a) refl step.Made place c (rises_at script c place a (few place a) next) n
            (other_number a n other))
      ]

  pub return_open : (a : ℕ) → MayReturn script c a → is_open (call_at c a) ≡ true
  return_open a may = done_open (is_act is_stop script a) (is_inline script a) (act_at c a) may

  return_entered : (a : ℕ) → MayReturn script c a → phase_at c a ≢ phase.Inside
  return_entered a may inside =
      let made = was_made script a (act_at c a) (sound.kinds a)
      (λ absent. absurd (let wrong : phase.Absent ≡ phase.Inside = sym absent ∙ inside in cc)) in
      let kind = subst (λ (p : ActPhase). IsPhaseOf script a (call_at c a) p) inside ((sound.kinds a).made made) in
      let stops = done_entered (is_act is_stop script a) (is_inline script a) (act_at c a) may inside kind.0 in
      absurd (let wrong : true ≡ false = sym stops ∙ inline_no_stop script a kind.0 in cc)

  pub open_within : (a : ℕ) → is_open (call_at c a) ≡ true → a < length c.acts
  open_within a is = elim (cases_lt a (length c.acts)) [
    | inl within ↦ within
    | inr past ↦
        let none = ap (λ (act : ActState). is_open act.call) (get_or_past c.acts a fresh past) in
        absurd (let wrong : false ≡ true = sym none ∙ is in cc)
  ]

  pub moves_return : (a : ℕ) → MayReturn script c a → (n : ℕ) → Becomes (event.Back a) (after_return script c a) n
  moves_return a may n =
      let place : Place = parent_of script a in
      let new : ActState = record (act_at c a) { call = returned c.events (call_at c a) } in
      let d : ContextState = with_act c a new in
      let t : ContextState = with_progress place step.Back d in
      let limited = limited_by script place a (is_act is_stop script a) t in
      let opened = return_open a may in
      let here : Moves script a (event.Back a) (act_at c a) new = comes_back c.events opened (return_entered a may) in
      let changed : act_at d a ≡ new = at_changed c.acts a new (open_within a opened) in
      subst (λ (acts : List ActState). Moves script n (event.Back a) (act_at c n) (slice_index_or acts n fresh))
      (sym limited.acts)
      (elim (cases_eq n a) [
        | inl same ↦
            subst (λ (n : ℕ). Moves script n (event.Back a) (act_at c n) (act_at t n)) (sym same)
            (subst (λ (act : ActState). Moves script a (event.Back a) (act_at c a) act)
            (sym (steps_behind place step.Back d a (behind script well a) ∙ changed)) here)
        | inr other ↦
            subst (λ (act : ActState). Moves script n (event.Back a) act (act_at t n)) (at_other c.acts a n new other)
            (others_step script (event.Back a) refl step.Back place d (back_rises d place) n (other_number a n other))
      ])

  pub moves_stop : (a : ℕ) → MayStop script c a → (n : ℕ) → Becomes (event.Stop (Some a)) (after_stop c a) n
  moves_stop a may n =
      let opened = made_call (act_at c a) may.made in
      let new : ActState = record (act_at c a) { call = stopping (call_at c a) } in
      one_moved (event.Stop (Some a)) a new (after_stop c a) refl
      (open_within a (made_open (call_at c a) may.made)) (other_number a)
      (subst (λ (made : CallPhase). Moves script a (event.Stop (Some a)) (record { call = made; phase = phase_at c a })
      (record { call = stopping made; phase = phase_at c a }))
      (sym opened.1) halts) n

  pub moves_begin : (o : ℕ) (code : Code) (size : ℕ) → MayBegin script c o code size → (n : ℕ) →
      Becomes (event.Begin o code size) (after_begin script c o code) n
  moves_begin o code size may n =
      let new : ActState = record (act_at c o) { phase = phase.Running (class_of_code code) no_progress } in
      let acts = begun_acts (is_inline script o) (begun c o code) (spend (lane_of script o) (begun c o code)) refl in
      elim may [
        | inl outside ↦
            let is = outside.ready.1 in
            one_moved (event.Begin o code size) o new (after_begin script c o code) acts
            (is_there c o (λ absent. absurd
            (let wrong : phase.Absent ≡ phase.Ready code size outside.ready.0 = sym absent ∙ is in cc)))
            (other_number o)
            (subst (λ (p : ActPhase). Moves script o (event.Begin o code size) (record { call = call_at c o; phase = p }) new)
            (sym is) starts) n
        | inr inside ↦
            let is = inside.inside in
            one_moved (event.Begin o code size) o new (after_begin script c o code) acts
            (is_there c o (λ absent. absurd (let wrong : phase.Absent ≡ phase.Inside = sym absent ∙ is in cc)))
            (other_number o)
            (subst (λ (p : ActPhase). Moves script o (event.Begin o code size) (record { call = call_at c o; phase = p }) new)
            (sym is) enters) n
      ]

  pub moves_end : (o mark : ℕ) → MayEnd script c o → (n : ℕ) → Becomes (event.End o mark) (after_end c o) n
  moves_end o mark may n =
      let runs = finished_in script o (phase_at c o) may in
      let is = runs.2 in
      let new : ActState = record (act_at c o) { phase = phase.Ended } in
      one_moved (event.End o mark) o new (after_end c o) refl
      (is_there c o (λ absent. absurd (let wrong : phase.Absent ≡ phase.Running runs.0 runs.1 = sym absent ∙ is in cc)))
      (other_number o)
      (subst (λ (p : ActPhase). Moves script o (event.End o mark) (record { call = call_at c o; phase = p }) new) (sym is)
      (finishes runs.3)) n

  pub moves_done : (o : ℕ) (code : Code) (size : ℕ) → phase_at c o ≡ phase.Requested → (n : ℕ) →
      Becomes (event.Done o code size) (context_after_done c o code size) n
  moves_done o code size is n =
      let new : ActState = act_at (context_after_done c o code size) o in
      let now : ActState = record (act_at c o)
      { phase = phase.Ready code size (cause.Completed c.events (unwrap_or c.turn 0)) } in
      one_moved (event.Done o code size) o now (context_after_done c o code size) refl
      (is_there c o (λ absent. absurd (let wrong : phase.Absent ≡ phase.Requested = sym absent ∙ is in cc)))
      (other_number o)
      (subst (λ (p : ActPhase). Moves script o (event.Done o code size) (record { call = call_at c o; phase = p }) now)
      (sym is) completes) n

  pub moves_drop : (o mark : ℕ) → is_unspent (phase_at c o) ≡ true → is_running (phase_at c o) ≡ false →
      phase_at c o ≢ phase.Inside → (n : ℕ) → Becomes (event.Dropped o mark) (after_drop c o) n
  moves_drop o mark is isnt never n =
      let new : ActState = record (act_at c o) { phase = phase.Dropped } in
      one_moved (event.Dropped o mark) o new (after_drop c o) refl
      (is_there c o (λ absent. absurd (let wrong : false ≡ true = sym (ap is_unspent absent) ∙ is in cc)))
      (other_number o) (destroys is isnt never) n
