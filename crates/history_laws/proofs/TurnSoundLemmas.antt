-- Each event keeps a state sound: handlers that begin or are destroyed, turns of the reactor, and rounds.
use Rattle.std.proofs.Common.{◌≡◌, ◌≢◌, ◌⊎◌, ℕ, ◌+◌, ◌≤◌, ◌==◌, Bool, true, false, cond, not, ◌&&◌, List, [], ◌∷◌, Option, Some, None, inl, inr, length, refl, sym, ap, subst, ◌∙◌, arith}
use Rattle.std.specs.List.{All, count_by, sum_by, slice_index_or}
use Rattle.std.specs.Prelude.{slice_get}
use Rattle.std.specs.Option.{is_some, unwrap_or}
use Rattle.std.proofs.lemmas.Bool.{and_right, cases_eq, cases_lt}
use Rattle.std.proofs.lemmas.List.{get_or_past, length-set}
use Rattle.std.proofs.lemmas.List.Elements.{All-get_or}
use Rattle.std.proofs.lemmas.List.Sums.{sum_by-cons}
use Rattle.asio_types.specs.Code.{class_of_code}
use Rattle.history_rules.specs.declared.phase.Cause.TheVariants as cause
use Rattle.asio_types.specs.declared.code.Class.{Class}
use Rattle.asio_types.specs.declared.code.Code.{Code}
use Rattle.asio_types.specs.declared.event.Event.{Event}
use Rattle.asio_types.specs.declared.event.Event.TheVariants as event
use Rattle.session_script.specs.declared.act.Act.{Act}
use Rattle.session_script.specs.Lanes.{is_inline, lane_of}
use Rattle.session_script.specs.Script.{Place, ScriptModel, act_of, is_op, is_operation, parent_of}
use Rattle.session_script.specs.WellFormed.{IsWellFormed}
use Rattle.stream_rules.specs.declared.queue.Completion.{Completion}
use Rattle.history_rules.specs.Calls.{is_open}
use Rattle.history_rules.specs.Executions.{MayBegin, after_begin, begun}
use Rattle.history_rules.specs.Kinds.{is_act}
use Rattle.history_rules.specs.Legal.{MayHappen, after_event}
use Rattle.history_rules.specs.Order.{is_request, was_taken}
use Rattle.history_rules.specs.Performing.{is_wait_for, performed, performed_by}
use Rattle.history_rules.specs.Requests.{MayComplete, MayTake, context_after_done, reactor_after_done, reactor_after_take, turn_begun}
use Rattle.history_rules.specs.Rounds.{AllClosed, MayDrop, MayEndRound, RoundIsOpen, after_closing, after_drop, after_poll, after_restart, is_act_outstanding, is_outstanding, is_running, outstanding_work}
use Rattle.history_rules.specs.Settling.{settled}
use Rattle.history_rules.specs.State.{ContextState, ReactorHalf, State, act_at, call_at, fresh, no_progress, phase_at}
use Rattle.history_rules.specs.Time.{at_last, at_time}
use Rattle.history_rules.specs.declared.phase.ActPhase.{ActPhase}
use Rattle.history_rules.specs.declared.phase.ActPhase.TheVariants as phase
use Rattle.history_rules.specs.declared.phase.ActState.{ActState}
use Rattle.history_laws.specs.Events.{is_drop_of}
use Rattle.history_laws.proofs.BodyLemmas.{body_of}
use Rattle.history_laws.proofs.CountLemmas.{apart-is, one_if, same-is}
use Rattle.history_laws.proofs.GoingLemmas.{calls_running, pend_moved}
use Rattle.history_laws.proofs.KindLemmas.{inline_not_opening, op-is, was_made}
use Rattle.history_laws.proofs.Moves.{Moves, is_about, is_calling, stays}
use Rattle.history_laws.proofs.MovingLemmas.{moves_begin, moves_done, moves_drop}
use Rattle.history_laws.proofs.PendingLemmas.{performed_one, settled_one, told_one}
use Rattle.history_laws.proofs.ReactorLemmas.{StaysBut, stays_settled, stays_told}
use Rattle.history_laws.proofs.Sound.{Calls, IsDone, IsPhaseOf, IsSound, due_of, may_pend, pending_of, queued_of}
use Rattle.history_laws.proofs.TakingLemmas.{kept, settle, taken_now, taken_same, untaken, was}
use Rattle.history_laws.proofs.CallSoundLemmas.{sound_call}
use Rattle.history_laws.proofs.ReturnSoundLemmas.{sound_return}
use Rattle.history_laws.proofs.SoundLemmas.{sound_end, sound_outside, sound_stop, closed_round, done_by, none_passes, pend_phase, pending_by, plain_step, quiet_running, sound_by, spent_by, spent_running}

pub at_each : (P : ActState → Type 0) (c : ContextState) → P fresh → All P c.acts → (n : ℕ) → P (act_at c n)
at_each P c unborn all n = elim (cases_lt n (length c.acts)) [
  | inl within ↦ All-get_or P c.acts n fresh within all
  | inr beyond ↦ subst P (sym (get_or_past c.acts n fresh beyond)) unborn
]

one_most : (b : Bool) → one_if b ≤ 1
one_most true = omega arith
one_most false = omega arith

asked_request : (p : ActPhase) → is_request p ≡ true → (p ≡ phase.Requested) ⊎ (p ≡ phase.Asked)
asked_request phase.Requested is = inl refl
asked_request phase.Asked is = inr refl
asked_request _ is = absurd (cc)

-- an act that is taken is pending where it is an operation
performs_one : (n : ℕ) (script : ScriptModel) (a : ℕ) (given : Option Act) (r : ReactorHalf) → act_of script a ≡ given →
    pending_of n (performed_by script a given r) ≤ pending_of n r + one_if (is_act is_operation script a && (a == n))
performs_one n script a None r is = omega arith
performs_one n script a (Some given) r is =
    let same : is_act is_operation script a ≡ is_operation given = is_given in
    let one = performed_one n script a given r in
    let more : one_if (is_act is_operation script a && (a == n)) ≡ one_if (is_operation given && (a == n)) =
    ap (λ b. one_if (b && (a == n))) same in
    omega (arith, one, more)
  where
    is_given : is_act is_operation script a ≡ is_operation given
    is_given = rw is refl

module _ (script : ScriptModel) (well : IsWellFormed script) (told : Bool) (s : State) (sound : IsSound script s) where
  abbrev c : ContextState
  c = s.context

  abbrev r : ReactorHalf
  r = s.reactor

  abbrev After : Event → State
  After e = after_event script told s e

  -- while a call is open that executes inside, a handler runs
  pub entered_runs : (o : ℕ) → is_inline script o ≡ true → is_open (call_at c o) ≡ true →
      (at : ℕ × Class) × (parent_of script o ≡ Some at) × (is_running (phase_at c at.0) ≡ true)
  entered_runs o inline opened = by_place (parent_of script o) refl (sound.calls o opened)
    where
      by_place : (place : Place) → parent_of script o ≡ place → Calls script c place o →
          (at : ℕ × Class) × (parent_of script o ≡ Some at) × (is_running (phase_at c at.0) ≡ true)
      by_place None is calls = absurd (inline_not_opening script o is inline)
      by_place (Some at) is calls =
          (at, is, calls_running (body_of script (Some at)) at.1 (phase_at c at.0) o calls)

  pub inside_open : (o : ℕ) → phase_at c o ≡ phase.Inside → (is_inline script o ≡ true) × (is_open (call_at c o) ≡ true)
  inside_open o inside =
      let made = was_made script o (act_at c o) (sound.kinds o)
      (λ absent. absurd (let wrong : phase.Absent ≡ phase.Inside = sym absent ∙ inside in cc)) in
      subst (λ (p : ActPhase). IsPhaseOf script o (call_at c o) p) inside ((sound.kinds o).made made)

  -- a handler that is to begin inside its call has a caller that runs
  pub inside_runs : (o : ℕ) → phase_at c o ≡ phase.Inside →
      (at : ℕ × Class) × (parent_of script o ≡ Some at) × (is_running (phase_at c at.0) ≡ true)
  inside_runs o inside = let both = inside_open o inside in entered_runs o both.0 both.1

  sound_begin : (o : ℕ) (code : Code) (size : ℕ) → MayBegin script c o code size →
      IsSound script (After (event.Begin o code size))
  sound_begin o code size may =
      let e : Event = event.Begin o code size in
      let t : ContextState = after_begin script c o code in
      let moves = moves_begin script well told s sound o code size may in
      let d : ContextState = begun c o code in
      let spent = spent_by (is_inline script o) (lane_of script o) d in
      sound_by script well told s sound e (After e) refl (record {
        moves = moves;
        acts = ap length spent.acts ∙ length-set c.acts o
            (record (act_at c o) { phase = phase.Running (class_of_code code) no_progress });
        takes = refl;
        opening = spent.opening;
        pending = pending_by script well told s sound e t moves (λ n. refl);
        closed = λ all. absurd (never (sym spent.closings ∙ all));
        ending = λ ending. elim ending [ inl all ↦ inl (spent.closings ∙ all) | inr failed ↦ inr failed ];
        dropping = λ is. spent.dropping ∙ is;
        drops = λ n is. absurd (cc);
      })
    where
      never : AllClosed script c → ⊥
      never all = elim may [
        | inl outside ↦ closed_round script well told s sound outside.round all
        | inr inside ↦
            let runs = inside_runs o inside.inside in
            let quiet = (sound.closed all).quiet runs.0.0 in
            absurd (let wrong : true ≡ false = sym runs.2 ∙ quiet in cc)
      ]

  -- an operation that completes was requested
  pub requested : (o : ℕ) (code : Code) (size : ℕ) → MayComplete script told s o code size →
      phase_at c o ≡ phase.Requested
  requested o code size may =
      let less = told_one o script told o code size r may.next in
      let here : one_if (o == o) ≡ 1 = ap one_if (same-is o) in
      elim (pend_phase (phase_at c o) (was_taken r o) (omega (arith, less, here, sound.pending o))) [
        | inl is ↦ is
        | inr dropped ↦
            let over = sound.dropped o dropped in
            absurd (elim over.0 [
              | inl all ↦ never (sound.closed all)
              | inr failed ↦ absurd (let wrong : true ≡ false = sym failed ∙ may.working in cc)
            ])
      ]
    where
      never : IsDone s → ⊥
      never done = elim may.next [
        | inl next ↦
            let none : slice_get r.due 0 ≡ None = ap (λ (due : List Completion). slice_get due 0) done.told in
            absurd (let wrong : None ≡ Some next.head = sym none ∙ next.due in cc)
        | inr given ↦
            let some = may.turn given.fixed in
            absurd (let wrong : false ≡ true = subst (λ (turn : Option ℕ). is_some turn ≡ true) done.turn some in cc)
      ]

  never_done : (o : ℕ) (code : Code) (size : ℕ) → MayComplete script told s o code size → AllClosed script c → ⊥
  never_done o code size may all =
      let done = sound.closed all in elim may.next [
        | inl next ↦
            let none : slice_get r.due 0 ≡ None = ap (λ (due : List Completion). slice_get due 0) done.told in
            absurd (let wrong : None ≡ Some next.head = sym none ∙ next.due in cc)
        | inr given ↦
            let some = may.turn given.fixed in
            absurd (let wrong : false ≡ true = subst (λ (turn : Option ℕ). is_some turn ≡ true) done.turn some in cc)
      ]

  sound_done : (o : ℕ) (code : Code) (size : ℕ) → MayComplete script told s o code size →
      IsSound script (After (event.Done o code size))
  sound_done o code size may =
      let e : Event = event.Done o code size in
      let t : ContextState = context_after_done c o code size in
      let u : ReactorHalf = reactor_after_done script r o in
      let moves = moves_done script well told s sound o code size (requested o code size may) in
      let kept = stays_told script o r in
      sound_by script well told s sound e (After e) refl (record {
        moves = moves;
        acts = length-set c.acts o (record (act_at c o)
            { phase = phase.Ready code size (cause.Completed c.events (unwrap_or c.turn 0)) });
        takes = ap length kept.taken;
        opening = refl;
        pending = pending;
        closed = λ all. absurd (never_done o code size may all);
        ending = λ ending. elim ending [ inl all ↦ inl all | inr failed ↦ inr (kept.failed ∙ failed) ];
        dropping = λ is. is;
        drops = λ n is. absurd (cc);
      })
    where
      pending : (n : ℕ) →
          pending_of n (reactor_after_done script r o)
          ≤ one_if (may_pend (phase_at (context_after_done c o code size) n) (was_taken (reactor_after_done script r o) n))
      pending n =
          let e : Event = event.Done o code size in
          let t : ContextState = context_after_done c o code size in
          let less = told_one n script told o code size r may.next in
          let taken : was_taken (reactor_after_done script r o) n ≡ was_taken r n =
          ap (λ (taken : List Bool). slice_index_or taken n false) (stays_told script o r).taken in
          let same : one_if (may_pend (phase_at t n) (was_taken (reactor_after_done script r o) n))
          ≡ one_if (may_pend (phase_at t n) (was_taken r n)) = ap (λ b. one_if (may_pend (phase_at t n) b)) taken in
          elim (cases_eq n o) [
            | inl here ↦
                let one : one_if (o == n) ≡ 1 = ap (λ n. one_if (o == n)) here ∙ ap one_if (same-is o) in
                let most = one_most (may_pend (phase_at c n) (was_taken r n)) in
                omega (arith, less, one, most, sound.pending n)
            | inr other ↦
                let moved = pend_moved script n (was_taken r n) e (act_at c n) (act_at t n)
                (moves_done script well told s sound o code size (requested o code size may) n)
                (apart-is o n (λ same. other (sym same))) in
                omega (arith, less, same, moved, sound.pending n)
          ]

  pub drop_quiet : (o mark : ℕ) → MayDrop script s o → (n : ℕ) → is_running (phase_at c n) ≡ false
  drop_quiet o mark may n = elim may.over [
    | inl all ↦ (sound.closed all).quiet n
    | inr failed ↦ at_each (λ (act : ActState). is_running act.phase ≡ false) c refl failed.1 n
  ]

  -- what is destroyed isn't to begin inside its call
  pub drop_outside : (o mark : ℕ) → MayDrop script s o → phase_at c o ≢ phase.Inside
  drop_outside o mark may = λ inside.
      let runs = inside_runs o inside in
      absurd (let wrong : true ≡ false = sym runs.2 ∙ drop_quiet o mark may runs.0.0 in cc)

  sound_drop : (o mark : ℕ) → MayDrop script s o → IsSound script (After (event.Dropped o mark))
  sound_drop o mark may =
      let e : Event = event.Dropped o mark in
      let t : ContextState = after_drop c o in
      let moves = moves_drop script well told s sound o mark may.next.left (drop_quiet o mark may o)
      (drop_outside o mark may) in
      sound_by script well told s sound e (After e) refl (record {
        moves = moves;
        acts = length-set c.acts o (record (act_at c o) { phase = phase.Dropped });
        takes = refl;
        opening = refl;
        pending = pending_by script well told s sound e t moves (λ n. refl);
        closed = λ all. done_by script well told s sound e t moves (λ n. refl) refl (sound.closed all);
        ending = λ ending. ending;
        dropping = λ is. refl;
        drops = λ n is. (elim may.over [ inl all ↦ inl all | inr failed ↦ inr failed.0 ], refl);
      })

  -- a turn of the reactor
  sound_turn : (e : Event) (t : ContextState) (u : ReactorHalf) → is_calling e ≡ false → RoundIsOpen script c →
      ((n : ℕ) → is_about n e ≡ false) → ((n : ℕ) → is_drop_of n e ≡ false) → t.acts ≡ c.acts → t.opening ≡ c.opening →
      t.closings ≡ c.closings → t.dropping ≡ c.dropping → length u.taken ≡ length r.taken → u.failed ≡ r.failed →
      ((n : ℕ) → pending_of n u ≤ one_if (may_pend (phase_at c n) (was_taken u n))) →
      IsSound script (record { context = t; reactor = u })
  sound_turn e t u never round none drops acts opening closings dropping taken failed pending =
      sound_by script well told s sound e (record { context = t; reactor = u }) never (record {
        moves = λ n.
            subst (λ (acts : List ActState). Moves script n e (act_at c n) (slice_index_or acts n fresh)) (sym acts)
            (stays (none n));
        acts = ap length acts;
        takes = taken;
        opening = opening;
        pending = λ n.
            subst (λ (acts : List ActState). pending_of n u ≤ one_if
            (may_pend (slice_index_or acts n fresh).phase (was_taken u n)))
            (sym acts) (pending n);
        closed = λ all. absurd (closed_round script well told s sound round (sym closings ∙ all));
        ending = λ ending. elim ending [ inl all ↦ inl (closings ∙ all) | inr is ↦ inr (failed ∙ is) ];
        dropping = λ is. dropping ∙ is;
        drops = λ n is. absurd (let wrong : true ≡ false = sym is ∙ drops n in cc);
      })

  sound_take : (a : ℕ) → MayTake script s a → IsSound script (After (event.Take a))
  sound_take a may =
      sound_turn (event.Take a) (turn_begun c) (reactor_after_take script told r a) refl may.turn.round (λ n. refl) (λ n. refl)
      refl refl refl refl (ap length now.taken ∙ (length-set before.taken a true ∙ ap length then.taken))
      (now.failed ∙ then.failed) pending
    where
      before : ReactorHalf
      before = performed_by script a (act_of script a) r

      then : StaysBut r before
      then = kept script well told s sound a may

      now : StaysBut (performed script a r) (reactor_after_take script told r a)
      now = settle script well told s sound a may

      asks : (is_request (phase_at c a) ≡ true) × (not (was_taken r a) ≡ true)
      asks = was script well told s sound a may

      kind : IsPhaseOf script a (call_at c a) (phase_at c a)
      kind =
          (sound.kinds a).made (was_made script a (act_at c a) (sound.kinds a)
          (λ absent. absurd (let wrong : false ≡ true = sym (ap is_request absent) ∙ asks.0 in cc)))

      pending_here : (phase_at c a ≡ phase.Requested) ⊎ (phase_at c a ≡ phase.Asked) →
          pending_of a r + one_if (is_act is_operation script a && (a == a)) ≤ one_if (may_pend (phase_at c a) true)
      pending_here (inl is) =
          let none : one_if (may_pend (phase_at c a) (was_taken r a)) ≡ 0 =
          ap (λ (p : ActPhase). one_if (may_pend p (was_taken r a))) is ∙ ap one_if (untaken script well told s sound a may) in
          let one : one_if (may_pend (phase_at c a) true) ≡ 1 = ap (λ (p : ActPhase). one_if (may_pend p true)) is in
          let most = one_most (is_act is_operation script a && (a == a)) in
          omega (arith, sound.pending a, none, one, most)
      pending_here (inr is) =
          let none : one_if (may_pend (phase_at c a) (was_taken r a)) ≡ 0 =
          ap (λ (p : ActPhase). one_if (may_pend p (was_taken r a))) is in
          let never : is_op script a ≡ false = subst (λ (p : ActPhase). IsPhaseOf script a (call_at c a) p) is kind in
          let isnt : one_if (is_act is_operation script a && (a == a)) ≡ 0 =
          ap (λ b. one_if (b && (a == a))) (op-is script a ∙ never) in
          omega (arith, sound.pending a, none, isnt)

      pending : (n : ℕ) →
          pending_of n (reactor_after_take script told r a)
          ≤ one_if (may_pend (phase_at c n) (was_taken (reactor_after_take script told r a) n))
      pending n =
          let settled = settled_one n told (performed script a r) in
          let one = performs_one n script a (act_of script a) r refl in
          elim (cases_eq n a) [
            | inl same ↦
                let taken : was_taken (reactor_after_take script told r a) n ≡ true =
                ap (λ n. was_taken (reactor_after_take script told r a) n) same ∙ taken_now script well told s sound a may in
                let here = subst (λ (n : ℕ). pending_of n r + one_if (is_act is_operation script a && (a == n)) ≤ one_if
                (may_pend (phase_at c n) true))
                (sym same) (pending_here (asked_request (phase_at c a) asks.0)) in
                let here_taken : one_if (may_pend (phase_at c n) (was_taken (reactor_after_take script told r a) n)) ≡
                one_if (may_pend (phase_at c n) true) =
                ap (λ b. one_if (may_pend (phase_at c n) b)) taken in
                omega (arith, settled, one, here, here_taken)
            | inr other ↦
                let here_taken : one_if (may_pend (phase_at c n) (was_taken (reactor_after_take script told r a) n)) ≡
                one_if (may_pend (phase_at c n) (was_taken r n)) =
                ap (λ b. one_if (may_pend (phase_at c n) b)) (taken_same script well told s sound a may n other) in
                let isnt : one_if (is_act is_operation script a && (a == n)) ≡ 0 =
                ap one_if (and_right (is_act is_operation script a) (a == n) (apart-is a n (λ same. other (sym same)))) in
                omega (arith, settled, one, here_taken, isnt, sound.pending n)
          ]

  -- time moves, or its last point passes
  sound_settled : (e : Event) (u : ReactorHalf) → is_calling e ≡ false → RoundIsOpen script c → ((n : ℕ) → is_about n e ≡ false) →
      ((n : ℕ) → is_drop_of n e ≡ false) → u.waits ≡ r.waits → u.queues ≡ r.queues → u.due ≡ r.due → u.taken ≡ r.taken →
      u.failed ≡ r.failed → IsSound script (record { context = turn_begun c; reactor = settled told u })
  sound_settled e u never round none drops waits queues due taken failed =
      let kept = stays_settled told u in
      sound_turn e (turn_begun c) (settled told u) never round none drops refl refl refl refl
      (ap length (kept.taken ∙ taken)) (kept.failed ∙ failed) (λ n.
      let less = settled_one n told u in
      let one : count_by (is_wait_for n) u.waits ≡ count_by (is_wait_for n) r.waits = ap (count_by (is_wait_for n)) waits in
      let two : sum_by (queued_of n) u.queues ≡ sum_by (queued_of n) r.queues = ap (sum_by (queued_of n)) queues in
      let three : due_of n u.due ≡ due_of n r.due = ap (due_of n) due in
      let same : one_if (may_pend (phase_at c n) (was_taken (settled told u) n)) ≡
      one_if (may_pend (phase_at c n) (was_taken r n)) =
      ap (λ (taken : List Bool). one_if (may_pend (phase_at c n) (slice_index_or taken n false))) (kept.taken ∙ taken) in
      omega (arith, less, one, two, three, same, sound.pending n))

  sound_tick : (now : ℕ) → RoundIsOpen script c → IsSound script (After (event.Tick now))
  sound_tick now round =
      sound_settled (event.Tick now) (at_time script told now r) refl round (λ n. refl) (λ n. refl) refl refl refl refl refl

  sound_last : RoundIsOpen script c → IsSound script (After event.Last)
  sound_last round =
      sound_settled event.Last (at_last told r) refl round (λ n. refl) (λ n. refl) refl refl refl refl refl

  sound_fault : IsSound script (After event.Fault)
  sound_fault =
      sound_by script well told s sound event.Fault (After event.Fault) refl (record {
        moves = λ n. stays refl;
        acts = refl;
        takes = refl;
        opening = refl;
        pending = λ n. omega (arith, sound.pending n);
        closed = λ all. let done = sound.closed all in record { quiet = done.quiet; told = refl; turn = refl };
        ending = λ ending. inr refl;
        dropping = λ is. is;
        drops = λ n is. absurd (cc);
      })

  -- the end of a round
  sound_closing : (e : Event) (t : ContextState) → is_calling e ≡ false → RoundIsOpen script c →
      ((n : ℕ) → is_about n e ≡ false) → ((n : ℕ) → is_drop_of n e ≡ false) → t.acts ≡ c.acts → t.opening ≡ c.opening →
      t.dropping ≡ c.dropping → ((n : ℕ) → is_running (phase_at c n) ≡ false) → r.due ≡ [] → t.turn ≡ None →
      IsSound script (record { context = t; reactor = r })
  sound_closing e t never round none drops acts opening dropping quiet due turn =
      sound_by script well told s sound e (record { context = t; reactor = r }) never (record {
        moves = λ n.
            subst (λ (acts : List ActState). Moves script n e (act_at c n) (slice_index_or acts n fresh)) (sym acts)
            (stays (none n));
        acts = ap length acts;
        takes = refl;
        opening = opening;
        pending = λ n.
            subst (λ (acts : List ActState). pending_of n r ≤ one_if
            (may_pend (slice_index_or acts n fresh).phase (was_taken r n)))
            (sym acts) (sound.pending n);
        closed = λ all. record {
          quiet = λ n. ap (λ (acts : List ActState). is_running (slice_index_or acts n fresh).phase) acts ∙ quiet n;
          told = due;
          turn = turn;
        };
        ending = λ ending. elim ending [
          | inl all ↦ absurd (closed_round script well told s sound round all)
          | inr failed ↦ inr failed
        ];
        dropping = λ is. dropping ∙ is;
        drops = λ n is. absurd (let wrong : true ≡ false = sym is ∙ drops n in cc);
      })

  outstanding_none : MayEndRound script s → (n : ℕ) → is_act_outstanding s n ≡ false
  outstanding_none may n = elim (cases_lt n (length c.acts)) [
    | inl within ↦
        let work : outstanding_work s ≡ 0 = may.idle in
        none_passes (is_act_outstanding s) (length c.acts) n (omega (arith, work)) within
    | inr past ↦ ap (λ (act : ActState). is_outstanding act.phase (was_taken r n)) (get_or_past c.acts n fresh past)
  ]

  due_none : MayEndRound script s → (due : List Completion) → r.due ≡ due → due ≡ []
  due_none may [] is = refl
  due_none may (next ∷ due) is =
      let n : ℕ = next.op in
      let one = sum_by-cons (λ (done : Completion). cond (done.op == n) 1 0) next due in
      let all : due_of n r.due ≡ due_of n (next ∷ due) = ap (due_of n) is in
      let here : one_if (n == n) ≡ 1 = ap one_if (same-is n) in
      let none = outstanding_none may n in
      elim (pend_phase (phase_at c n) (was_taken r n) (omega (arith, one, all, here, sound.pending n))) [
        | inl requested ↦
            let wrong : is_act_outstanding s n ≡ true = ap (λ (p : ActPhase). is_outstanding p (was_taken r n)) requested in
            absurd (let both : true ≡ false = sym wrong ∙ none in cc)
        | inr dropped ↦
            let over = sound.dropped n dropped in
            absurd (let both : true ≡ false = sym over.1 ∙ may.round.alive in cc)
      ]

  -- what may happen keeps a state sound
  pub sound_after : (e : Event) → MayHappen script told s e → IsSound script (after_event script told s e)
  sound_after (event.Call a) may = sound_call script well told s sound a may
  sound_after (event.Back a) may = sound_return script well told s sound a may
  sound_after (event.Stop (Some a)) may = sound_stop script well told s sound a may
  sound_after (event.Stop None) may = sound_outside script well told s sound
  sound_after (event.Begin o code size) may = sound_begin o code size may
  sound_after (event.End o mark) may = sound_end script well told s sound o mark may
  sound_after (event.Take a) may = sound_take a may
  sound_after (event.Done o code size) may = sound_done o code size may
  sound_after (event.Tick now) may = sound_tick now may.idle.turn.round
  sound_after event.Last may = sound_last may.idle.turn.round
  sound_after event.Fault may = sound_fault
  sound_after event.Ended may =
      sound_closing event.Ended (after_closing c) refl may.round (λ n. refl) (λ n. refl) refl refl refl
      (λ n. spent_running (phase_at c n) (was_taken r n) (outstanding_none may n)) (due_none may r.due refl) refl
  sound_after event.Stopped may =
      sound_closing event.Stopped (after_closing c) refl may.round (λ n. refl) (λ n. refl) refl refl refl
      (at_each (λ (act : ActState). is_running act.phase ≡ false) c refl may.quiet) may.told refl
  sound_after event.Polled may =
      sound_closing event.Polled (after_poll c) refl may.round (λ n. refl) (λ n. refl) refl refl refl
      (λ n. quiet_running (phase_at c n) (was_taken r n) (may.idle n)) may.told refl
  sound_after event.Restart may =
      sound_by script well told s sound event.Restart (After event.Restart) refl
      (plain_step script well told s sound event.Restart (after_restart c) (λ n. stays refl) (λ n. refl) (λ n. refl)
      (λ n. refl) refl refl refl refl refl)
  sound_after (event.Dropped o mark) may = sound_drop o mark may
