-- What may happen next where a call is open, a handler runs or `open` hasn't returned.
use Rattle.std.proofs.Common.{◌≡◌, ◌⊎◌, ℕ, ◌+◌, ◌<◌, ◌≤◌, ◌==◌, zero, suc, Bool, true, false, cond, List, Option, Some, None, get_or, inl, inr, length, refl, sym, ap, subst, ◌∙◌, arith}
use Rattle.std.specs.Prelude.{IsSomeAnd, slice_get}
use Rattle.std.proofs.lemmas.Bool.{and_from, cases_Bool, cases_lt}
use Rattle.std.proofs.lemmas.List.{get_or_past}
use Rattle.std.proofs.lemmas.Option.{slice_get-get_or}
use Rattle.asio_types.specs.declared.code.Class.{Class}
use Rattle.asio_types.specs.declared.code.Code.TheVariants as code
use Rattle.asio_types.specs.declared.event.Event.{Event}
use Rattle.asio_types.specs.declared.event.Event.TheVariants as event
use Rattle.session_script.specs.Lanes.{is_inline}
use Rattle.session_script.specs.Script.{Place, ScriptModel, is_op, is_stop, opening_of, parent_of}
use Rattle.session_script.specs.WellFormed.{IsWellFormed}
use Rattle.history_rules.specs.Calls.{Body, IsNextOf, body_at, has_ended, has_stopped, is_call_done, is_made, is_open, running_body}
use Rattle.history_rules.specs.Executions.{has_finished}
use Rattle.history_rules.specs.Kinds.{is_act}
use Rattle.history_rules.specs.Legal.{MayHappen}
use Rattle.history_rules.specs.Rounds.{is_running}
use Rattle.history_rules.specs.State.{ContextState, ReactorHalf, State, act_at, call_at, fresh, phase_at}
use Rattle.history_rules.specs.declared.phase.ActPhase.{ActPhase}
use Rattle.history_rules.specs.declared.phase.ActPhase.TheVariants as phase
use Rattle.history_rules.specs.declared.phase.ActState.{ActState}
use Rattle.history_rules.specs.declared.phase.CallPhase.{CallPhase}
use Rattle.history_rules.specs.declared.phase.CallPhase.TheVariants as call
use Rattle.history_rules.specs.declared.phase.Progress.{Progress}
use Rattle.history_laws.proofs.BodyLemmas.{IsBehind, behind, body_of, same_class-self, stands_in}
use Rattle.history_laws.proofs.CountLemmas.{same-is}
use Rattle.history_laws.proofs.KindLemmas.{inline_is_op}
use Rattle.history_laws.proofs.Sound.{IsPhaseOf, IsSound}
use Rattle.history_progress.specs.Next.{is_from_within}
use Rattle.history_progress.proofs.MakingLemmas.{IsInside}
use Rattle.history_progress.proofs.OrderlyLemmas.{IsEntered}
use Rattle.history_progress.proofs.StateLemmas.{IsOrderly}

-- an event of its own may happen
pub record Goes (script : ScriptModel) (told : Bool) (s : State) : Type 0 where
  pub next : Event
  pub own : is_from_within next ≡ true
  pub may : MayHappen script told s next

done_made : (inside : Bool) (act : ActState) → is_made act.call ≡ true →
    (inside ≡ false) ⊎ (has_ended act.phase ≡ true) → is_call_done false inside act ≡ true
done_made false act made either = and_from (is_made act.call) true made refl
done_made true act made (inl wrong) = absurd (cc)
done_made true act made (inr ended) = and_from (is_made act.call) (has_ended act.phase) made ended

running_phase : (p : ActPhase) → is_running p ≡ true → (class : Class) × (q : Progress) × (p ≡ phase.Running class q)
running_phase (phase.Running class q) is = (class, q, refl)
running_phase _ is = absurd (cc)

same_number : (m n : ℕ) → m ≡ n → (m == n) ≡ true
same_number m n same = ap (λ m. m == n) same ∙ same-is n

next_of : (a : ℕ) (body : Body) (found : Option Body) → found ≡ Some body → IsNextOf a body → IsSomeAnd found (IsNextOf a)
next_of a body found is next = subst (λ found. IsSomeAnd found (IsNextOf a)) (sym is) next

module _ (script : ScriptModel) (well : IsWellFormed script) (told : Bool) (before : List Event) (s : State)
    (o : IsOrderly script told before s) where
  abbrev pub c : ContextState
  c = s.context

  abbrev pub r : ReactorHalf
  r = s.reactor

  sound : IsSound script s
  sound = o.counted.shown.sound

  -- where a call is open, unless a handler runs inside of it
  call_goes : (a : ℕ) → is_open (call_at c a) ≡ true → (is_running (phase_at c a) ≡ true → Goes script told s) →
      Goes script told s
  call_goes a opened deeper = by_call (call_at c a) refl opened
    where
      back : is_call_done (is_act is_stop script a) (is_inline script a) (act_at c a) ≡ true → Goes script told s
      back done = record { next = event.Back a; own = refl; may = done }

      plain : is_act is_stop script a ≡ false → is_call_done false (is_inline script a) (act_at c a) ≡ true → Goes script told s
      plain never done = back (ap (λ stops. is_call_done stops (is_inline script a) (act_at c a)) never ∙ done)

      by_phase : (p : ActPhase) → phase_at c a ≡ p → is_act is_stop script a ≡ false → is_made (call_at c a) ≡ true →
          is_inline script a ≡ true → Goes script told s
      by_phase phase.Inside is never made inline = record {
        next = event.Begin a code.Ok 0;
        own = refl;
        may = inr (record { inside = is; called = made; ok = refl; empty = refl });
      }
      by_phase (phase.Running class progress) is never made inline = deeper (ap is_running is)
      by_phase phase.Ended is never made inline =
          plain never
          (subst (λ inside. is_call_done false inside (act_at c a) ≡ true) (sym inline)
          (done_made true (act_at c a) made (inr (ap has_ended is))))
      by_phase phase.Absent is never made inline =
          let called : IsPhaseOf script a (call_at c a) (phase_at c a) =
          (sound.kinds a).made (λ uncalled. absurd (let wrong : false ≡ true = sym (ap is_made uncalled) ∙ made in cc)) in
          let none : is_op script a ≡ false = subst (λ (p : ActPhase). IsPhaseOf script a (call_at c a) p) is called in
          absurd (let wrong : true ≡ false = sym (inline_is_op script a inline) ∙ none in cc)
      by_phase phase.Requested is never made inline = absurd (subst IsEntered is ((o.kinds a).inline inline))
      by_phase (phase.Ready given size why) is never made inline = absurd (subst IsEntered is ((o.kinds a).inline inline))
      by_phase phase.Dropped is never made inline = absurd (subst IsEntered is ((o.kinds a).inline inline))
      by_phase phase.Asked is never made inline = absurd (subst IsEntered is ((o.kinds a).inline inline))

      by_call : (made : CallPhase) → call_at c a ≡ made → is_open made ≡ true → Goes script told s
      by_call call.Uncalled is opened = absurd (cc)
      by_call (call.Back called at) is opened = absurd (cc)
      by_call (call.Stopping called) is opened =
          back (ap (λ stops. is_call_done stops (is_inline script a) (act_at c a)) (o.lanes.stopping a called is).1
          ∙ ap has_stopped is)
      by_call (call.Open called) is opened =
          let made : is_made (call_at c a) ≡ true = ap is_made is in
          elim (cases_Bool (is_act is_stop script a)) [
            | inl stops ↦ record { next = event.Stop (Some a); own = refl; may = record { stops = stops; made = made } }
            | inr never ↦ elim (cases_Bool (is_inline script a)) [
              | inl inline ↦ by_phase (phase_at c a) refl never made inline
              | inr outside ↦
                  plain never
                  (subst (λ inside. is_call_done false inside (act_at c a) ≡ true) (sym outside)
                  (done_made false (act_at c a) made (inl refl)))
            ]
          ]

  -- where a handler runs, unless one runs inside of it
  handler_goes : (n : ℕ) (class : Class) (q : Progress) → phase_at c n ≡ phase.Running class q →
      ((a : ℕ) → n < a → is_running (phase_at c a) ≡ true → Goes script told s) → Goes script told s
  handler_goes n class q is deeper =
      let making = o.making.handlers n class q is in
      elim making.calls [
        | inl idle ↦ elim (cases_lt q.made (length (body_of script (Some (n, class))))) [
          | inl within ↦
              calls (get_or (body_of script (Some (n, class))) q.made 0) idle
              (slice_get-get_or (body_of script (Some (n, class))) q.made 0 within)
          | inr past ↦
              let within = making.within in
              ends (omega (arith, past, idle, within)) (omega (arith, past, idle, within))
        ]
        | inr inside ↦ call_goes inside.act inside.opened (deeper inside.act (later inside))
      ]
    where
      later : (inside : IsInside c (body_of script (Some (n, class))) q) → n < inside.act
      later inside =
          subst (λ (place : Place). IsBehind place inside.act)
          (stands_in script (Some (n, class)) inside.act q.back inside.at) (behind script well inside.act)

      calls : (a : ℕ) → q.made ≡ q.back → slice_get (body_of script (Some (n, class))) q.made ≡ Some a → Goes script told s
      calls a idle at =
          let body : Body = record { acts = body_of script (Some (n, class)); progress = q } in
          let runs : running_body script n class (phase_at c n) ≡ Some (record { acts = body_of script (Some (n, class)); progress = q }) =
          ap (running_body script n class) is
          ∙ ap (λ same. cond same (Some (let it : Body = record { acts = body_of script (Some (n, class)); progress = q } in it)) None)
          (same_class-self class) in
          let found : body_at script r.failed c (parent_of script a)
          ≡ Some (record { acts = body_of script (Some (n, class)); progress = q }) =
          ap (body_at script r.failed c) (stands_in script (Some (n, class)) a q.made at) ∙ runs in
          record {
            next = event.Call a;
            own = refl;
            may =
                next_of a (record { acts = body_of script (Some (n, class)); progress = q })
                (body_at script r.failed c (parent_of script a)) found (record { idle = idle; next = at });
          }

      ends : q.made ≡ length (body_of script (Some (n, class))) → q.back ≡ length (body_of script (Some (n, class))) →
          Goes script told s
      ends made back = record {
        next = event.End n 0;
        own = refl;
        may =
            ap (has_finished script n) is
            ∙ and_from (q.made == length (body_of script (Some (n, class))))
            (q.back == length (body_of script (Some (n, class))))
            (same_number q.made (length (body_of script (Some (n, class)))) made)
            (same_number q.back (length (body_of script (Some (n, class)))) back);
      }

  runs_on : (fuel n : ℕ) → length c.acts ≤ n + fuel → is_running (phase_at c n) ≡ true → Goes script told s
  runs_on zero n few runs =
      let absent = ap (λ (act : ActState). is_running act.phase) (get_or_past c.acts n fresh (omega (arith, few))) in
      absurd (let wrong : false ≡ true = sym absent ∙ runs in cc)
  runs_on (suc fuel) n few runs =
      let is = running_phase (phase_at c n) runs in
      handler_goes n is.0 is.1 is.2 (λ a later again. runs_on fuel a (omega (arith, few, later)) again)

  -- a handler that runs goes on
  pub runs_goes : (n : ℕ) → is_running (phase_at c n) ≡ true → Goes script told s
  runs_goes n runs = runs_on (length c.acts) n (omega arith) runs

  -- the calls of `open` go on
  pub opening_goes : r.failed ≡ false → c.opening.back < length (opening_of script) → Goes script told s
  opening_goes works less =
      elim o.making.opening.calls [
        | inl idle ↦
            calls (get_or (body_of script None) c.opening.made 0) idle
            (slice_get-get_or (body_of script None) c.opening.made 0 (omega (arith, less, idle)))
        | inr inside ↦ call_goes inside.act inside.opened (runs_goes inside.act)
      ]
    where
      calls : (a : ℕ) → c.opening.made ≡ c.opening.back → slice_get (body_of script None) c.opening.made ≡ Some a →
          Goes script told s
      calls a idle at =
          let found : body_at script r.failed c (parent_of script a)
          ≡ Some (record { acts = body_of script None; progress = c.opening }) =
          ap (body_at script r.failed c) (stands_in script None a c.opening.made at)
          ∙ ap (λ failed. cond failed None (Some (let it : Body = record { acts = body_of script None; progress = c.opening } in it)))
          works in
          record {
            next = event.Call a;
            own = refl;
            may =
                next_of a (record { acts = body_of script None; progress = c.opening })
                (body_at script r.failed c (parent_of script a)) found (record { idle = idle; next = at });
          }
