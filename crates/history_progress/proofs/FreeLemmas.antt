-- While the context isn't stopped each lane may begin what it likes.
use Rattle.std.proofs.Common.{◌≡◌, ℕ, ◌<◌, Bool, true, false, cond, Some, None, inl, inr, length, map, refl, sym, ap, subst, ◌∙◌, arith}
use Rattle.std.specs.List.{slice_index_or, slice_set}
use Rattle.std.proofs.lemmas.Bool.{cases_Bool, cases_eq}
use Rattle.std.proofs.lemmas.Option.{slice_get_within}
use Rattle.asio_types.specs.declared.code.Code.{Code}
use Rattle.std.proofs.lemmas.List.{get_or-map, get_or-replicate, get_or-set_same, get_or-set_other, length-map, length-replicate, length-set}
use Rattle.asio_types.specs.declared.event.Event.{Event}
use Rattle.asio_types.specs.declared.event.Event.TheVariants as event
use Rattle.asio_types.specs.declared.number.Lane.{Lane}
use Rattle.asio_types.specs.declared.number.Lane.TheVariants as lane
use Rattle.session_script.specs.Lanes.{is_inline, lane_of}
use Rattle.session_script.specs.Script.{Place, ScriptModel, is_stop, opening_of, parent_of}
use Rattle.session_script.specs.WellFormed.{IsWellFormed}
use Rattle.history_rules.specs.Calls.{MayStop, has_stopped, is_call_done, is_open, limited, returned, with_progress}
use Rattle.history_rules.specs.Executions.{begun}
use Rattle.history_rules.specs.Kinds.{is_act}
use Rattle.history_rules.specs.Legal.{MayHappen, after_event}
use Rattle.history_rules.specs.Rounds.{is_running}
use Rattle.history_rules.specs.State.{Allowances, ContextState, State, act_at, call_at, first_state, phase_at, with_act}
use Rattle.history_rules.specs.Stopping.{allowance_of, at_most_one, less_one, spend, with_allowance}
use Rattle.history_rules.specs.declared.phase.ActState.{ActState}
use Rattle.history_rules.specs.declared.phase.Allowance.{Allowance}
use Rattle.history_rules.specs.declared.phase.Allowance.TheVariants as allowance
use Rattle.history_rules.specs.declared.phase.CallPhase.{CallPhase}
use Rattle.history_rules.specs.declared.phase.CallPhase.TheVariants as call
use Rattle.history_rules.specs.declared.phase.Step.{Step}
use Rattle.history_rules.specs.declared.phase.Step.TheVariants as step
use Rattle.history_laws.proofs.FirstLemmas.{first_act}
use Rattle.history_laws.proofs.BodyLemmas.{body_of}
use Rattle.history_laws.proofs.GoingLemmas.{calls_running}
use Rattle.history_laws.proofs.HistoryLemmas.{moves_after}
use Rattle.history_laws.proofs.Sound.{Calls, IsSound}
use Rattle.history_laws.proofs.SoundLemmas.{spent_by}
use Rattle.history_laws.proofs.StepLemmas.{limited_by, steps_by}
use Rattle.history_laws.proofs.TurnSoundLemmas.{at_each}
use Rattle.history_progress.proofs.OrderlyLemmas.{stopping_moved}

-- each of so many strands, each private lane and the reactor may begin any number
pub record AllFree (strands : ℕ) (a : Allowances) : Type 0 where
  pub own : a.own ≡ allowance.Free
  pub reactor : a.reactor ≡ allowance.Free
  pub each : (n : ℕ) → n < strands → slice_index_or a.strands n allowance.Nothing ≡ allowance.Free

pub record AreLanes (script : ScriptModel) (c : ContextState) : Type 0 where
  pub strands : length c.allowances.strands ≡ script.strands
  pub free : c.stopped ≡ false → AllFree script.strands c.allowances
  -- a stop that isn't back has stopped it
  pub stopping : (n at : ℕ) → call_at c n ≡ call.Stopping at →
      (c.stopped ≡ true) × (is_act is_stop script n ≡ true)

-- nothing runs and the calls of `open` are back: so no call is open
pub no_call_open : (script : ScriptModel) (s : State) → IsSound script s →
    s.context.opening.back ≡ length (opening_of script) → ((n : ℕ) → is_running (phase_at s.context n) ≡ false) →
    (n : ℕ) → is_open (call_at s.context n) ≡ false
no_call_open script s sound opened quiet n = elim (cases_Bool (is_open (call_at s.context n))) [
  | inl is ↦ absurd (by_place (parent_of script n) (sound.calls n is))
  | inr closed ↦ closed
]
  where
    by_place : (place : Place) → Calls script s.context place n → ⊥
    by_place None calls =
        let within = slice_get_within (body_of script None) s.context.opening.back n calls.0 in
        absurd (omega (arith, within, opened))
    by_place (Some at) calls =
        let runs = calls_running (body_of script (Some at)) at.1 (phase_at s.context at.0) n calls in
        absurd (let wrong : true ≡ false = sym runs ∙ quiet at.0 in cc)

stepped_allowances : (place : Place) (step : Step) (c : ContextState) → (with_progress place step c).allowances ≡ c.allowances
stepped_allowances None step c = refl
stepped_allowances (Some at) step c = refl

less_free : (a : Allowance) → a ≡ allowance.Free → less_one a ≡ allowance.Free
less_free a is = ap less_one is

-- what begins leaves a free lane free
spent_free : (strands : ℕ) (of : Lane) (a : Allowances) → length a.strands ≡ strands → AllFree strands a →
    AllFree strands (with_allowance of (less_one (allowance_of a of)) a)
spent_free strands (lane.Own op) a long free = free
spent_free strands lane.Reactor a long free =
    record { own = free.own; reactor = less_free a.reactor free.reactor; each = free.each }
spent_free strands (lane.Strand j) a long free = record {
  own = free.own;
  reactor = free.reactor;
  each = λ n within. elim (cases_eq n j) [
    | inl same ↦
        let left : Allowance = less_one (slice_index_or a.strands j allowance.Nothing) in
        subst (λ (n : ℕ). slice_index_or (slice_set a.strands j left) n allowance.Nothing ≡ allowance.Free) (sym same)
        (get_or-set_same a.strands j left allowance.Nothing (omega (arith, same, within, long))
        ∙ less_free (slice_index_or a.strands j allowance.Nothing) (free.each j (omega (arith, same, within))))
    | inr other ↦
        get_or-set_other a.strands j n (less_one (slice_index_or a.strands j allowance.Nothing)) allowance.Nothing other
        ∙ free.each n within
  ];
}

with_long : (of : Lane) (new : Allowance) (a : Allowances) → length (with_allowance of new a).strands ≡ length a.strands
with_long (lane.Strand j) new a = length-set a.strands j new
with_long (lane.Own op) new a = refl
with_long lane.Reactor new a = refl

limited_long : (script : ScriptModel) (place : Place) (a : ℕ) (stops : Bool) (c : ContextState) →
    length (cond stops (limited script a place c) c).allowances.strands ≡ length c.allowances.strands
limited_long script None a true c = length-map c.allowances.strands (λ (old : Allowance). allowance.Nothing)
limited_long script (Some at) a true c =
    with_long (lane_of script a) allowance.Nothing (record {
      strands = map at_most_one c.allowances.strands;
      own = at_most_one c.allowances.own;
      reactor = at_most_one c.allowances.reactor;
    })
    ∙ length-map c.allowances.strands at_most_one
limited_long script place a false c = refl

module _ (script : ScriptModel) (well : IsWellFormed script) (told : Bool) (s : State) (sound : IsSound script s)
    (lanes : AreLanes script s.context) where
  abbrev c : ContextState
  c = s.context

  abbrev After : Event → ContextState
  After e = (after_event script told s e).context

  -- what an event owes
  lanes_by : (e : Event) → MayHappen script told s e → ((n : ℕ) → e ≡ event.Stop (Some n) → (After e).stopped ≡ true) →
      (c.stopped ≡ true → (After e).stopped ≡ true) →
      length (After e).allowances.strands ≡ length c.allowances.strands →
      ((After e).stopped ≡ false → AllFree script.strands (After e).allowances) → AreLanes script (After e)
  lanes_by e may stops stays long free = record {
    strands = long ∙ lanes.strands;
    free = free;
    stopping = λ n at stopping.
        elim (stopping_moved script n at e (act_at c n) (act_at (After e) n) (moves_after script well told s sound e may n) stopping) [
          | inl was ↦ let it = lanes.stopping n at was in (stays it.0, it.1)
          | inr it ↦
              (stops n it, (let halts : MayStop script c n = subst (MayHappen script told s) it may in halts.stops))
        ];
  }

  spend_lanes : (e : Event) → MayHappen script told s e → ((n : ℕ) → e ≡ event.Stop (Some n) → ⊥) →
      (After e).stopped ≡ c.stopped → (of : Lane) →
      (After e).allowances ≡ with_allowance of (less_one (allowance_of c.allowances of)) c.allowances →
      AreLanes script (After e)
  spend_lanes e may never stopped of same =
      lanes_by e may (λ n it. absurd (never n it)) (λ was. stopped ∙ was)
      (ap (λ (a : Allowances). length a.strands) same
      ∙ with_long of (less_one (allowance_of c.allowances of)) c.allowances)
      (λ going.
      subst (AllFree script.strands) (sym same)
      (spent_free script.strands of c.allowances lanes.strands (lanes.free (sym stopped ∙ going))))

  same_lanes : (e : Event) → MayHappen script told s e → ((n : ℕ) → e ≡ event.Stop (Some n) → ⊥) →
      (After e).stopped ≡ c.stopped → (After e).allowances ≡ c.allowances → AreLanes script (After e)
  same_lanes e may never stopped same =
      lanes_by e may (λ n it. absurd (never n it)) (λ was. stopped ∙ was)
      (ap (λ (a : Allowances). length a.strands) same)
      (λ going. subst (AllFree script.strands) (sym same) (lanes.free (sym stopped ∙ going)))

  stopped_lanes : (e : Event) → MayHappen script told s e → (After e).stopped ≡ true →
      length (After e).allowances.strands ≡ length c.allowances.strands → AreLanes script (After e)
  stopped_lanes e may stopped long =
      lanes_by e may (λ n it. stopped) (λ was. stopped) long
      (λ going. absurd (let wrong : true ≡ false = sym stopped ∙ going in cc))

  -- a stop that comes back has stopped the context
  stop_back : (a : ℕ) → (stops inside : Bool) → stops ≡ true → is_call_done stops inside (act_at c a) ≡ true →
      c.stopped ≡ true
  stop_back a true inside is done = by_call (call_at c a) refl done
    where
      by_call : (made : CallPhase) → call_at c a ≡ made → has_stopped made ≡ true → c.stopped ≡ true
      by_call (call.Stopping called) is done = (lanes.stopping a called is).0
      by_call _ is done = absurd (cc)
  stop_back a false inside is done = absurd (cc)

  back_lanes : (a : ℕ) → MayHappen script told s (event.Back a) → AreLanes script (After (event.Back a))
  back_lanes a may =
      let new : ActState = record (act_at c a) { call = returned c.events (call_at c a) } in
      let d : ContextState = with_act c a new in
      let t : ContextState = with_progress (parent_of script a) step.Back d in
      let limits = limited_by script (parent_of script a) a (is_act is_stop script a) t in
      let stopped : (After (event.Back a)).stopped ≡ c.stopped =
      limits.stopped ∙ (steps_by (parent_of script a) step.Back d).stopped in
      let same : t.allowances ≡ c.allowances = stepped_allowances (parent_of script a) step.Back d in
      lanes_by (event.Back a) may (λ n it. absurd (cc)) (λ was. stopped ∙ was)
      (limited_long script (parent_of script a) a (is_act is_stop script a) t
      ∙ ap (λ (a : Allowances). length a.strands) same)
      (λ going. elim (cases_Bool (is_act is_stop script a)) [
        | inl stops ↦
            let was = stop_back a (is_act is_stop script a) (is_inline script a) stops may in
            absurd (let wrong : true ≡ false = sym was ∙ (sym stopped ∙ going) in cc)
        | inr never ↦
            subst (λ (b : Bool). AllFree script.strands (cond b (limited script a (parent_of script a) t) t).allowances)
            (sym never)
            (subst (AllFree script.strands) (sym same) (lanes.free (sym stopped ∙ going)))
      ])

  begin_lanes : (o : ℕ) (given : Code) (size : ℕ) → MayHappen script told s (event.Begin o given size) →
      AreLanes script (After (event.Begin o given size))
  begin_lanes o given size may =
      let d : ContextState = begun c o given in
      let spent = spent_by (is_inline script o) (lane_of script o) d in
      elim (cases_Bool (is_inline script o)) [
        | inl inline ↦
            same_lanes (event.Begin o given size) may (λ n it. absurd (cc)) spent.stopped
            (ap (λ b. (cond b d (spend (lane_of script o) d)).allowances) inline)
        | inr outside ↦
            spend_lanes (event.Begin o given size) may (λ n it. absurd (cc)) spent.stopped (lane_of script o)
            (ap (λ b. (cond b d (spend (lane_of script o) d)).allowances) outside)
      ]

  restart_lanes : MayHappen script told s event.Restart → AreLanes script (After event.Restart)
  restart_lanes may = record {
    strands = length-map c.allowances.strands (λ (old : Allowance). allowance.Free) ∙ lanes.strands;
    free = λ going. record {
      own = refl;
      reactor = refl;
      each = λ n within.
          get_or-map (λ (old : Allowance). allowance.Free) c.allowances.strands n allowance.Nothing allowance.Nothing
          (omega (arith, within, lanes.strands));
    };
    stopping = λ n at stopping.
        absurd (let closed = no_call_open script s sound may.begun.opened
        (at_each (λ (act : ActState). is_running act.phase ≡ false) c refl may.quiet) n in
        let wrong : false ≡ true = sym closed ∙ ap is_open stopping in
        cc);
  }

  -- each event keeps them
  pub lanes_after : (e : Event) → MayHappen script told s e → AreLanes script (After e)
  lanes_after (event.Call a) may =
      same_lanes (event.Call a) may (λ n it. absurd (cc)) (steps_by (parent_of script a) step.Made c).stopped
      (stepped_allowances (parent_of script a) step.Made c)
  lanes_after (event.Back a) may = back_lanes a may
  lanes_after (event.Stop (Some a)) may = stopped_lanes (event.Stop (Some a)) may refl refl
  lanes_after (event.Stop None) may = stopped_lanes (event.Stop None) may refl refl
  lanes_after (event.Begin o given size) may = begin_lanes o given size may
  lanes_after (event.End o mark) may = same_lanes (event.End o mark) may (λ n it. absurd (cc)) refl refl
  lanes_after (event.Take a) may = spend_lanes (event.Take a) may (λ n it. absurd (cc)) refl lane.Reactor refl
  lanes_after (event.Done o given size) may = same_lanes (event.Done o given size) may (λ n it. absurd (cc)) refl refl
  lanes_after (event.Tick now) may = spend_lanes (event.Tick now) may (λ n it. absurd (cc)) refl lane.Reactor refl
  lanes_after event.Last may = spend_lanes event.Last may (λ n it. absurd (cc)) refl lane.Reactor refl
  lanes_after event.Fault may = stopped_lanes event.Fault may refl refl
  lanes_after event.Ended may =
      stopped_lanes event.Ended may refl (length-map c.allowances.strands (λ (old : Allowance). allowance.Nothing))
  lanes_after event.Stopped may =
      stopped_lanes event.Stopped may refl (length-map c.allowances.strands (λ (old : Allowance). allowance.Nothing))
  lanes_after event.Polled may = same_lanes event.Polled may (λ n it. absurd (cc)) refl refl
  lanes_after event.Restart may = restart_lanes may
  lanes_after (event.Dropped o mark) may = same_lanes (event.Dropped o mark) may (λ n it. absurd (cc)) refl refl

pub first_lanes : (script : ScriptModel) (told : Bool) → AreLanes script (first_state script told).context
first_lanes script told = record {
  strands = length-replicate script.strands allowance.Free;
  free = λ going. record {
    own = refl;
    reactor = refl;
    each = λ n within. get_or-replicate script.strands n allowance.Free allowance.Nothing within;
  };
  stopping = λ n at is.
      absurd (let wrong : call.Uncalled ≡ call.Stopping at =
      sym (ap (λ (act : ActState). act.call) (first_act script told n)) ∙ is in
      cc);
}
