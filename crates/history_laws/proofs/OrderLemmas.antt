-- Postings to one strand keep their order.
use Rattle.std.proofs.Common.{◌≡◌, ◌≢◌, ℕ, suc, ◌+◌, ◌<◌, Bool, true, false, List, inl, inr, take, refl, sym, ap, subst, ◌∙◌, arith}
use Rattle.std.specs.List.{slice_index_or}
use Rattle.std.proofs.lemmas.Bool.{cases_lt, lt-ltb}
use Rattle.std.proofs.lemmas.List.{get_or-set_same}
use Rattle.asio_types.specs.Faults.{one_more}
use Rattle.asio_types.specs.declared.code.Code.{Code}
use Rattle.asio_types.specs.declared.event.Event.{Event}
use Rattle.asio_types.specs.declared.event.Event.TheVariants as event
use Rattle.session_script.specs.Script.{ScriptModel, is_stop, parent_of}
use Rattle.session_script.specs.WellFormed.{IsWellFormed}
use Rattle.history_rules.specs.Calls.{accepted, is_open, returned, with_progress}
use Rattle.history_rules.specs.Executions.{MayBeginOutside}
use Rattle.history_rules.specs.Kinds.{is_act, is_posting}
use Rattle.history_rules.specs.Legal.{IsLegalSoFar, after_event}
use Rattle.history_rules.specs.Order.{called_at, goes_before}
use Rattle.history_rules.specs.State.{ContextState, State, act_at, call_at, fresh, phase_at, with_act}
use Rattle.history_rules.specs.declared.phase.ActPhase.{ActPhase}
use Rattle.history_rules.specs.declared.phase.ActPhase.TheVariants as phase
use Rattle.history_rules.specs.declared.phase.ActState.{ActState}
use Rattle.history_rules.specs.declared.phase.CallPhase.{CallPhase}
use Rattle.history_rules.specs.declared.phase.CallPhase.TheVariants as call
use Rattle.history_rules.specs.declared.phase.Cause.{Cause}
use Rattle.history_rules.specs.declared.phase.Cause.TheVariants as cause
use Rattle.history_rules.specs.declared.phase.Step.TheVariants as step
use Rattle.history_laws.specs.Events.{StandsAt}
use Rattle.history_laws.specs.InOrder.{PostingsKeepTheirOrder}
use Rattle.history_laws.proofs.BodyLemmas.{behind}
use Rattle.history_laws.proofs.KindLemmas.{posting_is_op, was_made}
use Rattle.history_laws.proofs.LaterLemmas.{WasBackAt, WasCalledAt, at, counted_at, happens, next, stays_back, stays_called, stays_past}
use Rattle.history_laws.proofs.LengthLemmas.{few_so_far}
use Rattle.history_laws.proofs.CountLemmas.{one_more-is}
use Rattle.history_laws.proofs.MovingLemmas.{called_fresh, called_within, open_within, return_open}
use Rattle.history_laws.proofs.ShownLemmas.{begins_shown}
use Rattle.history_laws.proofs.Sound.{IsPhaseOf, IsSound}
use Rattle.history_laws.proofs.StepLemmas.{limited_by, steps_behind, steps_by}
use Rattle.history_laws.proofs.TurnSoundLemmas.{inside_open}

returned_is : (at : ℕ) (made : CallPhase) → is_open made ≡ true →
    (called : ℕ) × (returned at made ≡ call.Back called at)
returned_is at (call.Open called) is = (called, refl)
returned_is at (call.Stopping called) is = (called, refl)
returned_is at _ is = absurd (cc)

-- a posting that is back, isn't ready and wasn't destroyed has begun
has_begun : (script : ScriptModel) (n : ℕ) (made : CallPhase) (p : ActPhase) → is_act is_posting script n ≡ true →
    is_open made ≡ false → IsPhaseOf script n made p → p ≢ phase.Dropped →
    ((given : Code) (size : ℕ) (why : Cause) → p ≡ phase.Ready given size why → ⊥) → begins_shown p ≡ 1
has_begun script n made (phase.Running class progress) posts shut is kept unready = refl
has_begun script n made phase.Ended posts shut is kept unready = refl
has_begun script n made phase.Absent posts shut is kept unready =
    absurd (let op = posting_is_op script n posts in let wrong : true ≡ false = sym op ∙ is in cc)
has_begun script n made phase.Asked posts shut is kept unready =
    absurd (let op = posting_is_op script n posts in let wrong : true ≡ false = sym op ∙ is in cc)
has_begun script n made phase.Inside posts shut is kept unready =
    absurd (let wrong : true ≡ false = sym is.1 ∙ shut in cc)
has_begun script n made phase.Requested posts shut is kept unready =
    absurd (let wrong : true ≡ false = sym posts ∙ is.unposted in cc)
has_begun script n made (phase.Ready given size why) posts shut is kept unready = absurd (unready given size why refl)
has_begun script n made phase.Dropped posts shut is kept unready = absurd (kept refl)

-- a posting is ready because it was posted
posted_ready : (script : ScriptModel) (n : ℕ) (made : CallPhase) (given : Code) (size : ℕ) (why : Cause) →
    is_act is_posting script n ≡ true → IsPhaseOf script n made (phase.Ready given size why) → why ≡ cause.Posted
posted_ready script n made given size cause.Posted posts is = refl
posted_ready script n made given size (cause.Completed done turn) posts is =
    absurd (let wrong : true ≡ false = sym posts ∙ is.unposted in cc)

-- of two ready postings the one that was back goes before the one that was called later
goes_first : (first second : ActState) (given other : Code) (size most back called : ℕ) →
    first.phase ≡ phase.Ready given size cause.Posted → second.phase ≡ phase.Ready other most cause.Posted →
    WasBackAt back first → WasCalledAt called second → back < called → goes_before first second ≡ true
goes_first first second given other size most back called is also was made less =
    let one : goes_before first second
    ≡ goes_before (record { call = call.Back was.called back; phase = phase.Ready given size cause.Posted })
    (record { call = second.call; phase = phase.Ready other most cause.Posted }) =
    ap (λ (made : CallPhase). goes_before (record { call = made; phase = first.phase }) second) was.is
    ∙ (ap (λ (p : ActPhase). goes_before (record { call = call.Back was.called back; phase = p }) second) is
    ∙ ap (λ (p : ActPhase). goes_before
    (record { call = call.Back was.called back; phase = phase.Ready given size cause.Posted })
    (record { call = second.call; phase = p })) also) in
    one ∙ lt-ltb back (called_at second.call) (let same = made.at in omega (arith, less, same))

module _ (script : ScriptModel) (well : IsWellFormed script) (told : Bool) (events : List Event)
    (legal : IsLegalSoFar script told events) where
  abbrev s : ℕ → State
  s place = at script well told events legal place

  sound : (place : ℕ) → IsSound script (s place)
  sound place = (counted_at script well told events legal place).shown.sound

  -- where a call comes back
  back_here : (n place : ℕ) → StandsAt events place (event.Back n) →
      WasBackAt (s place).context.events (act_at (s (suc place)).context n)
  back_here n place stands =
      let c : ContextState = (s place).context in
      let may = happens script well told events legal place (event.Back n) stands in
      let opened = return_open script well told (s place) (sound place) n may in
      let new : ActState = record (act_at c n) { call = returned c.events (call_at c n) } in
      let d : ContextState = with_act c n new in
      let t : ContextState = with_progress (parent_of script n) step.Back d in
      let limits = limited_by script (parent_of script n) n (is_act is_stop script n) t in
      let behind_it = behind script well n in
      let changed : act_at d n ≡ new =
      get_or-set_same c.acts n new fresh (open_within script well told (s place) (sound place) n opened) in
      let here : act_at (after_event script told (s place) (event.Back n)).context n ≡ new =
      ap (λ (acts : List ActState). slice_index_or acts n fresh) limits.acts ∙
      (steps_behind (parent_of script n) step.Back d n behind_it ∙ changed) in
      let is = returned_is c.events (call_at c n) opened in
      subst (λ (state : State). WasBackAt c.events (act_at state.context n))
      (sym (next script well told events legal place (event.Back n) stands))
      (record { called = is.0; is = ap (λ (act : ActState). act.call) here ∙ is.1 })

  -- where a call is made
  called_here : (n place : ℕ) → StandsAt events place (event.Call n) →
      WasCalledAt (s place).context.events (act_at (s (suc place)).context n)
  called_here n place stands =
      let c : ContextState = (s place).context in
      let may = happens script well told events legal place (event.Call n) stands in
      let new : ActState = record { call = call.Open c.events; phase = accepted script n } in
      let d : ContextState = with_progress (parent_of script n) step.Made c in
      let long = (steps_by (parent_of script n) step.Made c).count in
      let here : act_at (after_event script told (s place) (event.Call n)).context n ≡ new =
      get_or-set_same d.acts n new fresh (omega (arith, long, called_within script well told (s place) (sound place) n may)) in
      subst (λ (state : State). WasCalledAt c.events (act_at state.context n))
      (sym (next script well told events legal place (event.Call n) stands))
      (subst (WasCalledAt c.events) (sym here) (record { made = λ same. absurd (cc); at = refl }))

  -- the count of events is behind an event that was counted
  back_counts : (n place later : ℕ) → StandsAt events place (event.Back n) → place < later →
      (s place).context.events < (s later).context.events
  back_counts n place later stands less =
      let c : ContextState = (s place).context in
      let may = happens script well told events legal place (event.Back n) stands in
      let few = few_so_far script well told (take place events) (s place) (counted_at script well told events legal place) in
      let more = one_more-is c.events few in
      let new : ActState = record (act_at c n) { call = returned c.events (call_at c n) } in
      let t : ContextState = with_progress (parent_of script n) step.Back (with_act c n new) in
      let limits = limited_by script (parent_of script n) n (is_act is_stop script n) t in
      let counted : (after_event script told (s place) (event.Back n)).context.events ≡ one_more c.events =
      ap one_more (limits.events ∙ (steps_by (parent_of script n) step.Back (with_act c n new)).events) in
      let here : (s (suc place)).context.events ≡ one_more c.events =
      ap (λ (state : State). state.context.events) (next script well told events legal place (event.Back n) stands) ∙ counted in
      let past = stays_past script well told events legal (c.events + 1) (suc place) later (omega (arith, less))
      (omega (arith, here, more)) in
      omega (arith, past)

  -- a call is made before its handler begins
  call_first : (n called place : ℕ) → StandsAt events called (event.Call n) →
      phase_at (s place).context n ≢ phase.Absent → called < place
  call_first n called place stands became = elim (cases_lt called place) [
    | inl less ↦ less
    | inr more ↦
        let made = was_made script n (act_at (s place).context n) ((sound place).kinds n) became in
        let later = stays_called script well told events legal n (called_at (call_at (s place).context n)) place called more
        (record { made = made; at = refl }) in
        let unmade = called_fresh script well told (s called) (sound called) n
        (happens script well told events legal called (event.Call n) stands) in
        absurd (later.made (ap (λ (act : ActState). act.call) (sym unmade)))
  ]

  pub in_order : PostingsKeepTheirOrder script events
  in_order first second back called place given size posts also outside same backs calls less stands =
      elim (happens script well told events legal place (event.Begin second given size) stands) [
        | inr inside ↦
            let both = inside_open script well told (s place) (sound place) second inside.inside in
            absurd (let wrong : true ≡ false = sym both.0 ∙ outside in cc)
        | inl begins ↦ (counted_at script well told events legal place).shown.begins first ∙ begun begins
      ]
    where
      begun : MayBeginOutside script (s place).context second given size →
          begins_shown (phase_at (s place).context first) ≡ 1
      begun begins =
          let became : phase_at (s place).context second ≢ phase.Absent = λ absent.
          absurd (let wrong : phase.Ready given size begins.ready.0 ≡ phase.Absent = sym begins.ready.1 ∙ absent in cc) in
          let before = call_first second called place calls became in
          let was_called = stays_called script well told events legal second (s called).context.events (suc called) place
          (omega (arith, before)) (called_here second called calls) in
          let was_back = stays_back script well told events legal first (s back).context.events (suc back) place
          (omega (arith, before, less)) (back_here first back backs) in
          let earlier = back_counts first back called backs less in
          let second_kind = (sound place).kinds second in
          let second_is = subst (λ (p : ActPhase). IsPhaseOf script second (call_at (s place).context second) p) begins.ready.1
          (second_kind.made was_called.made) in
          let second_posted : phase_at (s place).context second ≡ phase.Ready given size cause.Posted =
          begins.ready.1
          ∙ ap (λ why. phase.Ready given size why)
          (posted_ready script second (call_at (s place).context second) given size begins.ready.0 also second_is) in
          let first_made : call_at (s place).context first ≢ call.Uncalled = λ uncalled.
          absurd (let wrong : call.Uncalled ≡ call.Back was_back.called (s back).context.events = sym uncalled ∙ was_back.is in
          cc) in
          let first_is = ((sound place).kinds first).made first_made in
          has_begun script first (call_at (s place).context first) (phase_at (s place).context first) posts
          (ap is_open was_back.is) first_is
          (λ dropped.
          let over = (sound place).dropped first dropped in
          absurd (let wrong : true ≡ false = sym over.1 ∙ begins.round.alive in cc))
          (λ code most why ready.
          let first_kind = subst (λ (p : ActPhase). IsPhaseOf script first (call_at (s place).context first) p) ready first_is in
          let posted : phase_at (s place).context first ≡ phase.Ready code most cause.Posted =
          ready ∙ ap (λ why. phase.Ready code most why)
          (posted_ready script first (call_at (s place).context first) code most why posts first_kind) in
          let goes = goes_first (act_at (s place).context first) (act_at (s place).context second) code given most size
          (s back).context.events (s called).context.events posted second_posted was_back was_called earlier in
          absurd (let wrong : true ≡ false = sym goes ∙ begins.first first same in cc))
