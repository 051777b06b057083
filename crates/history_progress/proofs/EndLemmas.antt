-- A legal history goes on, and comes to an end.
use Rattle.std.proofs.Common.{◌≡◌, ◌≢◌, ◌⊎◌, ℕ, ◌+◌, ◌≤◌, zero, suc, Bool, true, false, not, ◌||◌, List, [], ◌∷◌, ◌++◌, Some, inl, inr, length, refl, sym, ap, subst, ◌∙◌, append_assoc, arith}
use Rattle.std.specs.List.{count_by}
use Rattle.std.specs.Prelude.{Contains, slice_get}
use Rattle.std.proofs.lemmas.List.{append-nil}
use Rattle.std.proofs.lemmas.List.Elements.{All-cons, All-nil}
use Rattle.std.proofs.lemmas.Option.{slice_get-get_or}
use Rattle.asio_types.specs.declared.event.Event.{Event}
use Rattle.session_script.specs.declared.act.Act.TheVariants as act
use Rattle.session_script.specs.Script.{ScriptModel, act_of, is_op, opening_of}
use Rattle.session_script.specs.WellFormed.{IsWellFormed}
use Rattle.history_rules.specs.Calls.{is_open}
use Rattle.history_rules.specs.FromOutside.{is_fault, is_outside_stop}
use Rattle.history_rules.specs.Kinds.{is_act, is_control}
use Rattle.history_rules.specs.Legal.{IsLegal, IsLegalFrom, IsLegalSoFar, MayHappen, after_event, state_from, state_of}
use Rattle.history_rules.specs.Order.{was_taken}
use Rattle.history_rules.specs.Rounds.{IsDrained, is_quiet, is_unspent}
use Rattle.history_rules.specs.State.{ContextState, ReactorHalf, State, act_at, call_at, first_state, phase_at}
use Rattle.history_rules.specs.declared.phase.ActPhase.{ActPhase}
use Rattle.history_rules.specs.declared.phase.ActPhase.TheVariants as phase
use Rattle.history_rules.specs.declared.phase.CallPhase.{CallPhase}
use Rattle.history_rules.specs.declared.phase.CallPhase.TheVariants as call
use Rattle.history_laws.specs.Events.{calls_of, ends_of, takes_of}
use Rattle.history_laws.proofs.CountLemmas.{one_if}
use Rattle.history_laws.proofs.LeftLemmas.{falls, left}
use Rattle.history_laws.proofs.Shown.{IsShown}
use Rattle.history_laws.proofs.ShownLemmas.{calls_shown, ends_shown, returns_shown}
use Rattle.history_laws.proofs.Sound.{IsKind, IsPhaseOf}
use Rattle.history_progress.specs.Ending.{ComesToAnEnd, HasHistory, ReleasesItsGuards}
use Rattle.history_progress.specs.Next.{HasNext, WaitsForGuard, is_last_point, is_from_within}
use Rattle.history_progress.proofs.GoesLemmas.{Goes}
use Rattle.history_progress.proofs.MarkedLemmas.{drained}
use Rattle.history_progress.proofs.RestLemmas.{Waits, progress}
use Rattle.history_progress.proofs.StateLemmas.{IsOrderly, orderly_so_far}
use Rattle.history_progress.proofs.StuckLemmas.{nothing_goes}
use Rattle.history_progress.proofs.UntoldLemmas.{AreEmpty, Completes, empty_drained, empty_next, first_empty}

legal_push : (script : ScriptModel) (told : Bool) (s : State) (events : List Event) (e : Event) →
    IsLegalFrom script told s events → MayHappen script told (state_from script told s events) e →
    IsLegalFrom script told s (events ++ e ∷ [])
legal_push script told s [] e legal may = (may, tt)
legal_push script told s (first ∷ events) e legal may =
    (legal.0, legal_push script told (after_event script told s first) events e legal.1 may)

legal_last : (script : ScriptModel) (told : Bool) (s : State) (events : List Event) (e : Event) →
    IsLegalFrom script told s (events ++ e ∷ []) → MayHappen script told (state_from script told s events) e
legal_last script told s [] e legal = legal.0
legal_last script told s (first ∷ events) e legal =
    legal_last script told (after_event script told s first) events e legal.1

state_push : (script : ScriptModel) (told : Bool) (s : State) (events : List Event) (e : Event) →
    state_from script told s (events ++ e ∷ []) ≡ after_event script told (state_from script told s events) e
state_push script told s [] e = refl
state_push script told s (first ∷ events) e = state_push script told (after_event script told s first) events e

-- a call that was made and is back
closed_same : (made : CallPhase) → is_open made ≡ false → returns_shown made ≡ calls_shown made
closed_same call.Uncalled closed = refl
closed_same (call.Open called) closed = absurd (cc)
closed_same (call.Stopping called) closed = absurd (cc)
closed_same (call.Back called back) closed = refl

called_once : (made : CallPhase) → made ≢ call.Uncalled → calls_shown made ≡ 1
called_once call.Uncalled called = absurd (called refl)
called_once (call.Open at) called = refl
called_once (call.Stopping at) called = refl
called_once (call.Back at back) called = refl

-- an operation whose call is back has ended, where it was spent and not destroyed
spent_ended : (script : ScriptModel) (n : ℕ) (made : CallPhase) (p : ActPhase) → is_op script n ≡ true →
    IsPhaseOf script n made p → is_unspent p ≡ false → p ≢ phase.Dropped → ends_shown p ≡ 1
spent_ended script n made phase.Ended op of spent never = refl
spent_ended script n made phase.Dropped op of spent never = absurd (never refl)
spent_ended script n made phase.Absent op of spent never = absurd (let wrong : true ≡ false = sym op ∙ of in cc)
spent_ended script n made phase.Asked op of spent never = absurd (let wrong : true ≡ false = sym op ∙ of in cc)
spent_ended script n made _ op of spent never = absurd (cc)

module _ (script : ScriptModel) (well : IsWellFormed script) (told : Bool) (before : List Event) (s : State)
    (o : IsOrderly script told before s) (waits : Waits script s) where
  abbrev c : ContextState
  c = s.context

  abbrev r : ReactorHalf
  r = s.reactor

  shown : IsShown script before s
  shown = o.counted.shown

  kind : (n : ℕ) → IsKind script n (act_at c n)
  kind n = shown.sound.kinds n

  all_made : c.opening.made ≡ length (opening_of script)
  all_made = elim o.making.opening.calls [
    | inl idle ↦ idle ∙ waits.opened
    | inr inside ↦ absurd (let wrong : true ≡ false = sym inside.opened ∙ waits.closed inside.act in cc)
  ]

  is_opened : (n : ℕ) → Contains (opening_of script) n → calls_of n before ≡ 1
  is_opened n has =
      let at : slice_get (opening_of script) has.0 ≡ Some n =
      slice_get-get_or (opening_of script) has.0 n has.1 ∙ ap (λ n. Some n) has.2 in
      let within = has.1 in
      shown.calls n
      ∙ called_once (call_at c n) (o.making.called has.0 n (omega (arith, within, all_made)) at)

  is_ended : (n : ℕ) → is_op script n ≡ true → ends_of n before ≡ calls_of n before
  is_ended n op = shown.ends n ∙ (by_call (call_at c n) refl ∙ sym (shown.calls n))
    where
      never : phase_at c n ≢ phase.Dropped
      never dropped =
          let over = (shown.sound.dropped n dropped).0 in
          let left = waits.left in
          absurd (elim over [
            | inl all ↦ absurd (omega (arith, all, left))
            | inr failed ↦ absurd (let wrong : true ≡ false = sym failed ∙ waits.working in cc)
          ])

      by_call : (made : CallPhase) → call_at c n ≡ made → ends_shown (phase_at c n) ≡ calls_shown (call_at c n)
      by_call call.Uncalled is = ap ends_shown ((kind n).uncalled is) ∙ sym (ap calls_shown is)
      by_call (call.Open called) is = absurd (let wrong : true ≡ false = sym (ap is_open is) ∙ waits.closed n in cc)
      by_call (call.Stopping called) is = absurd (let wrong : true ≡ false = sym (ap is_open is) ∙ waits.closed n in cc)
      by_call (call.Back called back) is =
          spent_ended script n (call_at c n) (phase_at c n) op
          ((kind n).made (λ uncalled. let wrong : call.Back called back ≡ call.Uncalled = sym is ∙ uncalled in absurd (cc)))
          (waits.spent n) never
          ∙ sym (ap calls_shown is)

  -- a control act that was called was taken
  asked_taken : (n : ℕ) → is_act is_control script n ≡ true → call_at c n ≢ call.Uncalled → was_taken r n ≡ true
  asked_taken n control called =
      sym (ap (λ p. is_quiet p (was_taken r n)) ((o.kinds n).control control called)) ∙ waits.quiet n

  uncalled_or : (n : ℕ) → (call_at c n ≡ call.Uncalled) ⊎ (call_at c n ≢ call.Uncalled)
  uncalled_or n = by_call (call_at c n) refl
    where
      by_call : (made : CallPhase) → call_at c n ≡ made → (call_at c n ≡ call.Uncalled) ⊎ (call_at c n ≢ call.Uncalled)
      by_call call.Uncalled is = inl is
      by_call (call.Open called) is =
          inr (λ uncalled. let wrong : call.Open called ≡ call.Uncalled = sym is ∙ uncalled in absurd (cc))
      by_call (call.Stopping called) is =
          inr (λ uncalled. let wrong : call.Stopping called ≡ call.Uncalled = sym is ∙ uncalled in absurd (cc))
      by_call (call.Back called back) is =
          inr (λ uncalled. let wrong : call.Back called back ≡ call.Uncalled = sym is ∙ uncalled in absurd (cc))

  is_taken : (n : ℕ) → is_act is_control script n ≡ true → takes_of n before ≡ calls_of n before
  is_taken n control = shown.takes n ∙ (elim (uncalled_or n) [
    | inl uncalled ↦
        ap one_if (o.standing.untaken n ((kind n).uncalled uncalled)) ∙ sym (ap calls_shown uncalled)
    | inr called ↦ ap one_if (asked_taken n control called) ∙ sym (called_once (call_at c n) called)
  ] ∙ sym (shown.calls n))

  release_control : (n guard : ℕ) → act_of script n ≡ Some (act.Release guard) → is_act is_control script n ≡ true
  release_control n guard is = rw is refl

  is_held : (n : ℕ) → act_of script n ≡ Some (act.Release waits.guard) → calls_of n before ≡ 0
  is_held n release = elim (uncalled_or n) [
    | inl uncalled ↦ shown.calls n ∙ ap calls_shown uncalled
    | inr called ↦
        let taken = asked_taken n (release_control n waits.guard release) called in
        let free = o.guards.released n waits.guard taken release in
        absurd (let wrong : false ≡ true = sym free ∙ waits.held in cc)
  ]

  waits_shown : (HasNext script told before → ⊥) → WaitsForGuard script told before
  waits_shown stuck = record {
    opened = is_opened;
    back = λ n. shown.returns n ∙ (closed_same (call_at c n) (waits.closed n) ∙ sym (shown.calls n));
    ended = is_ended;
    taken = is_taken;
    guard = waits.guard;
    declared = let within = waits.within in let long = o.guards.long in omega (arith, within, long);
    held = is_held;
    round = waits.round;
    open_round = ap (slice_get script.rounds) o.rounds.0 ∙ waits.is_round;
    runs = waits.runs;
    stuck = stuck;
  }

module _ (script : ScriptModel) (well : IsWellFormed script) where
  -- before the last point, and where bytes are told, nothing that is to complete by itself is pending
  drains : (told : Bool) (events : List Event) (s : State) → IsOrderly script told events s →
      (told ≡ true) ⊎ (count_by is_last_point events ≡ 0) → IsDrained s.reactor
  drains told events s o (inl is) = drained s.reactor (o.emptying is)
  drains told events s o (inr none) = λ last. absurd (omega (arith, none, o.last last))

  -- the history waits for a guard
  waiting : (told : Bool) (events : List Event) → IsLegalSoFar script told events →
      Waits script (state_of script told events) → WaitsForGuard script told events
  waiting told events legal waits =
      let s : State = state_of script told events in
      let o = orderly_so_far script well told events legal in
      waits_shown script well told events s o waits
      (λ more. nothing_goes script well told events s o waits
      (record {
        next = more.next;
        own = more.within;
        may = legal_last script told (first_state script told) events more.next more.legal;
      }))

  pub goes_on : (told : Bool) (events : List Event) → IsLegalSoFar script told events →
      (told ≡ true) ⊎ (count_by is_last_point events ≡ 0) →
      IsLegal script told events ⊎ (HasNext script told events ⊎ WaitsForGuard script told events)
  goes_on told events legal which =
      let s : State = state_of script told events in
      let o = orderly_so_far script well told events legal in
      elim (progress script well told events s o (drains told events s o which)) [
        | inl whole ↦ inl (record { legal = legal; whole = whole })
        | inr rest ↦ inr (elim rest [
          | inl goes ↦ inl (record {
            next = goes.next;
            within = goes.own;
            legal = legal_push script told (first_state script told) events goes.next legal goes.may;
          })
          | inr waits ↦ inr (waiting told events legal waits)
        ])
      ]

  own_counts : (stops fails : Bool) → not (stops || fails) ≡ true → not stops ≡ true
  own_counts true fails is = absurd (cc)
  own_counts false fails is = refl

  abbrev IsOwn : Event → Type 0
  IsOwn shown = is_from_within shown ≡ true

  module _ (told : Bool) where
    abbrev Ends : List Event → Type 0
    Ends events = IsLegal script told events ⊎ WaitsForGuard script told events

    -- one more event in front of those to the end
    ends_later : (events : List Event) (e : Event) → is_from_within e ≡ true → ComesToAnEnd script told (events ++ e ∷ []) →
        ComesToAnEnd script told events
    ends_later events e own rest =
        let same : (events ++ e ∷ []) ++ rest.more ≡ events ++ e ∷ rest.more = append_assoc events (e ∷ []) rest.more in
        record {
          more = e ∷ rest.more;
          within = All-cons IsOwn e rest.more own rest.within;
          legal = subst (IsLegalSoFar script told) same rest.legal;
          ends = subst Ends same rest.ends;
        }

    ends_here : (events : List Event) → IsLegalSoFar script told events → Ends events → ComesToAnEnd script told events
    ends_here events legal ends =
        let same : events ≡ events ++ [] = sym (append-nil events) in
        record {
          more = [];
          within = All-nil IsOwn;
          legal = subst (IsLegalSoFar script told) same legal;
          ends = subst Ends same ends;
        }

    pushed : (events : List Event) → IsLegalSoFar script told events → (goes : Goes script told (state_of script told events)) →
        IsLegalSoFar script told (events ++ goes.next ∷ [])
    pushed events legal goes = legal_push script told (first_state script told) events goes.next legal goes.may

    less_left : (events : List Event) (legal : IsLegalSoFar script told events)
        (goes : Goes script told (state_of script told events)) →
        left script (state_of script told (events ++ goes.next ∷ [])) + 1 ≤ left script (state_of script told events)
    less_left events legal goes =
        let s : State = state_of script told events in
        let o = orderly_so_far script well told events legal in
        let less = falls script well told s o.counted.shown.sound o.counted.ahead goes.next goes.may in
        let one = ap one_if (own_counts (is_outside_stop goes.next) (is_fault goes.next) goes.own) in
        let same = ap (left script) (state_push script told (first_state script told) events goes.next) in
        omega (arith, less, one, same)

    -- what keeps a history from coming to a place where an operation of a stream neither completes nor stays
    abbrev Keeps : List Event → Type 0
    Keeps events = (told ≡ true) ⊎ AreEmpty (state_of script told events).reactor

    -- behind a next event it is kept, or behind one more
    next_keeps : (events : List Event) (legal : IsLegalSoFar script told events)
        (goes : Goes script told (state_of script told events)) → Keeps events →
        Keeps (events ++ goes.next ∷ [])
        ⊎ ((more : Goes script told (state_of script told (events ++ goes.next ∷ [])))
        × Keeps ((events ++ goes.next ∷ []) ++ more.next ∷ []))
    next_keeps events legal goes (inl is) = inl (inl is)
    next_keeps events legal goes (inr empty) =
        let s : State = state_of script told events in
        let o = orderly_so_far script well told events legal in
        let same = state_push script told (first_state script told) events goes.next in
        elim (empty_next script well told s o.counted.ahead empty o.standing.size goes.next goes.may) [
          | inl after ↦ inl (subst (λ (s : State). (told ≡ true) ⊎ AreEmpty s.reactor) (sym same) after)
          | inr completes ↦
              let it : Completes script told (state_of script told (events ++ goes.next ∷ [])) =
              subst (Completes script told) (sym same) completes in
              inr (
                it.goes,
                inr (subst (λ (s : State). AreEmpty s.reactor)
                    (sym (state_push script told (first_state script told) (events ++ goes.next ∷ []) it.goes.next)) it.empty),
              )
        ]

    kept_drains : (events : List Event) (legal : IsLegalSoFar script told events) → Keeps events →
        IsDrained (state_of script told events).reactor
    kept_drains events legal (inl is) =
        drained (state_of script told events).reactor ((orderly_so_far script well told events legal).emptying is)
    kept_drains events legal (inr empty) = empty_drained (state_of script told events).reactor empty

    -- behind these events the history ends by so many more
    ends_by : (fuel : ℕ) (events : List Event) → IsLegalSoFar script told events → Keeps events →
        left script (state_of script told events) ≤ fuel → ComesToAnEnd script told events
    ends_by zero events legal keeps few =
        let s : State = state_of script told events in
        let o = orderly_so_far script well told events legal in
        elim (progress script well told events s o (kept_drains events legal keeps)) [
          | inl whole ↦ ends_here events legal (inl (record { legal = legal; whole = whole }))
          | inr rest ↦ elim rest [
            | inl goes ↦ let less = less_left events legal goes in absurd (omega (arith, less, few))
            | inr waits ↦ ends_here events legal (inr (waiting told events legal waits))
          ]
        ]
    ends_by (suc fuel) events legal keeps few =
        let s : State = state_of script told events in
        let o = orderly_so_far script well told events legal in
        elim (progress script well told events s o (kept_drains events legal keeps)) [
          | inl whole ↦ ends_here events legal (inl (record { legal = legal; whole = whole }))
          | inr rest ↦ elim rest [
            | inl goes ↦
                let less = less_left events legal goes in
                let after = pushed events legal goes in
                ends_later events goes.next goes.own
                (elim (next_keeps events legal goes keeps) [
                  | inl kept ↦ ends_by fuel (events ++ goes.next ∷ []) after kept (omega (arith, less, few))
                  | inr more ↦
                      let again = less_left (events ++ goes.next ∷ []) after more.0 in
                      ends_later (events ++ goes.next ∷ []) more.0.next more.0.own
                      (ends_by fuel ((events ++ goes.next ∷ []) ++ more.0.next ∷ [])
                      (pushed (events ++ goes.next ∷ []) after more.0) more.1 (omega (arith, less, again, few)))
                ])
            | inr waits ↦ ends_here events legal (inr (waiting told events legal waits))
          ]
        ]

  pub comes_to_an_end : (events : List Event) → IsLegalSoFar script true events → ComesToAnEnd script true events
  comes_to_an_end events legal = ends_by true (left script (state_of script true events)) events legal (inl refl) (omega arith)

  keeps_first : (told : Bool) → (told ≡ true) ⊎ AreEmpty (first_state script told).reactor
  keeps_first true = inl refl
  keeps_first false = inr (first_empty script)

  pub has_history : (told : Bool) → ReleasesItsGuards script → HasHistory script told
  has_history told releases =
      let all = ends_by told (left script (first_state script told)) [] tt (keeps_first told) (omega arith) in
      elim all.ends [
        | inl legal ↦ record { events = all.more; within = all.within; legal = legal }
        | inr waits ↦
            let by = releases waits.guard waits.declared in
            let one = waits.opened by.0 by.1 in
            let none = waits.held by.0 by.2 in
            absurd (omega (arith, one, none))
      ]
