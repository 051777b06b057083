-- What is recorded of handlers that are destroyed.
use Rattle.std.proofs.Common.{◌≡◌, ◌≢◌, ◌⊎◌, ℕ, ◌+◌, ◌<◌, ◌≤◌, Bool, true, false, not, ◌&&◌, ◌∷◌, inl, inr, length, refl, sym, ap, subst, ◌∙◌, arith, []}
use Rattle.std.specs.List.{slice_index_or}
use Rattle.std.proofs.lemmas.Bool.{cases_Bool, cases_eq}
use Rattle.std.proofs.lemmas.List.Elements.{All-from_get_or, All-set}
use Rattle.asio_types.specs.declared.event.Event.TheVariants as event
use Rattle.session_script.specs.Script.{ScriptModel, is_op}
use Rattle.session_script.specs.Lanes.{is_inline}
use Rattle.history_rules.specs.Legal.{IsLegal, IsWhole, after_event}
use Rattle.history_rules.specs.Order.{was_taken}
use Rattle.history_rules.specs.Rounds.{AllClosed, IsOver, MayDrop, is_running, is_unspent}
use Rattle.history_rules.specs.State.{ContextState, State, act_at, call_at, fresh, phase_at}
use Rattle.history_rules.specs.declared.phase.ActPhase.{ActPhase}
use Rattle.history_rules.specs.declared.phase.ActPhase.TheVariants as phase
use Rattle.history_rules.specs.declared.phase.ActState.{ActState}
use Rattle.history_rules.specs.declared.phase.CallPhase.{CallPhase}
use Rattle.history_rules.specs.declared.phase.CallPhase.TheVariants as call
use Rattle.execution_laws.specs.Kinds.{is_accepted, is_spent, was_called}
use Rattle.execution_laws.specs.Rest.{waits_inside}
use Rattle.execution_laws.proofs.RestLemmas.{at_each, is_within}
use Rattle.execution_laws.proofs.StateLemmas.{act_at-other, act_at-same, length-acts}
use Rattle.book_context.specs.DropSteps.{DropsTo, HasDropped, IsDoneWith, IsDropping, is_unspent_at, unspent_count}
use Rattle.book_context.specs.Left.{act_left, act_left_at, phase_left}
use Rattle.book_context.specs.Recorded.{IsRecorded, is_spent_at, recorded_state}
use Rattle.book_context.specs.Recording.{Recording, with_event}
use Rattle.book_context.proofs.LeftLemmas.{left-parts}
use Rattle.book_context.proofs.PartLemmas.{history_goes_on, state_goes_on}
use Rattle.reactor_turns.proofs.SummingLemmas.{one_if, summed, summed-apart, summed-less, summed-range}

-- an accepted operation at rest is unspent or spent
one_of : (p : ActPhase) → is_accepted p ≡ true → is_running p ≡ false → waits_inside p ≡ false →
    is_unspent p ≡ not (is_spent p)
one_of phase.Absent is quiet entered = absurd (cc)
one_of phase.Inside is quiet entered = absurd (cc)
one_of phase.Requested is quiet entered = refl
one_of (phase.Ready code size why) is quiet entered = refl
one_of (phase.Running class progress) is quiet entered = absurd (cc)
one_of phase.Ended is quiet entered = refl
one_of phase.Dropped is quiet entered = refl
one_of phase.Asked is quiet entered = absurd (cc)

not_called : (c : CallPhase) → was_called c ≡ false → c ≡ call.Uncalled
not_called call.Uncalled isnt = refl
not_called (call.Open called) isnt = absurd (cc)
not_called (call.Stopping called) isnt = absurd (cc)
not_called (call.Back called back) isnt = absurd (cc)

-- who was never called wasn't spent
pub never_spent : (told : Bool) (r : Recording) (n : ℕ) → IsRecorded told r → slice_index_or r.called n false ≡ false →
    is_spent_at told r n ≡ false
never_spent told r n knows uncalled =
    ap is_spent
    (knows.kept.orderly.uncalled n
    (not_called (call_at (recorded_state told r).context n) (sym (knows.called n) ∙ uncalled)))

pub unspent_called : (told : Bool) (r : Recording) (n : ℕ) → IsRecorded told r →
    is_unspent_at told r n ≡ (is_op r.script n && (slice_index_or r.called n false && not (is_spent_at told r n)))
unspent_called told r n knows = elim (cases_Bool (is_op r.script n)) [
  | inr isnt ↦
      knows.kinds.others n isnt
      ∙ sym (ap (λ b. b && (slice_index_or r.called n false && not (is_spent_at told r n))) isnt)
  | inl is ↦ elim (cases_Bool (slice_index_or r.called n false)) [
    | inr uncalled ↦
        let absent : phase_at s.context n ≡ phase.Absent =
        knows.kept.orderly.uncalled n (not_called (call_at s.context n) (sym (knows.called n) ∙ uncalled)) in
        ap is_unspent absent
        ∙ sym (ap (λ b. b && (slice_index_or r.called n false && not (is_spent_at told r n))) is
        ∙ ap (λ b. b && not (is_spent_at told r n)) uncalled)
    | inl called ↦
        let accepted = knows.kinds.operations n is (sym (knows.called n) ∙ called) in
        let either =
        one_of (phase_at s.context n) accepted
        (at_each (λ act. is_running act.phase ≡ false) s.context refl knows.kept.rest.quiet n)
        (at_each (λ act. waits_inside act.phase ≡ false) s.context refl knows.kept.rest.entered n) in
        either
        ∙ sym (ap (λ b. b && (slice_index_or r.called n false && not (is_spent_at told r n))) is
        ∙ ap (λ b. b && not (is_spent_at told r n)) called)
  ]
]
  where
    s : State
    s = recorded_state told r

pub inline_spent : (told : Bool) (r : Recording) (n : ℕ) → IsRecorded told r → is_inline r.script n ≡ true →
    is_unspent_at told r n ≡ false
inline_spent told r n knows is = knows.kinds.inline n is

-- what is unspent may still be destroyed
unspent_phase : (p : ActPhase) (taken : Bool) → one_if (is_unspent p) ≤ phase_left p taken
unspent_phase phase.Absent taken = omega arith
unspent_phase phase.Inside taken = omega arith
unspent_phase phase.Requested true = omega arith
unspent_phase phase.Requested false = omega arith
unspent_phase (phase.Ready code size why) taken = omega arith
unspent_phase (phase.Running class progress) taken = omega arith
unspent_phase phase.Ended taken = omega arith
unspent_phase phase.Dropped taken = omega arith
unspent_phase phase.Asked true = omega arith
unspent_phase phase.Asked false = omega arith

unspent_left : (c : CallPhase) (p : ActPhase) (taken : Bool) → one_if (is_unspent p) ≤ act_left c p taken
unspent_left call.Uncalled p taken = at_most (is_unspent p)
  where
    at_most : (b : Bool) → one_if b ≤ 7
    at_most true = omega arith
    at_most false = omega arith
unspent_left (call.Open called) p taken = unspent_phase p taken
unspent_left (call.Stopping called) p taken = unspent_phase p taken
unspent_left (call.Back called back) p taken = unspent_phase p taken

abbrev unspent_one : ContextState → ℕ → ℕ
unspent_one s n = one_if (is_unspent (phase_at s n))

unspent_sum : (s : ContextState) → unspent_count s ≡ summed (unspent_one s) (length s.acts)
unspent_sum s = summed-range (unspent_one s) (length s.acts)

over_from : (told : Bool) (r : Recording) → IsRecorded told r → IsDoneWith told r →
    IsOver r.script (recorded_state told r)
over_from told r knows (inl closed) = inl (knows.closings ∙ closed)
over_from told r knows (inr failed) = inr (failed, knows.kept.rest.quiet)

pub dropping_begins : (told : Bool) (r : Recording) → IsRecorded told r → IsDoneWith told r → IsDropping told r 0 r
dropping_begins told r knows done =
    let s : State = recorded_state told r in
    record {
      script = refl;
      legal = knows.legal;
      over = over_from told r knows done;
      acts = knows.kept.rest.acts;
      below = λ m less. absurd (omega (arith, less));
      from = λ m less. refl;
      calls = λ m. refl;
      reactor = refl;
      called = refl;
      room =
          let count = unspent_sum s.context in
          let less =
          summed-less (unspent_one s.context) (act_left_at s) (length s.context.acts)
          (λ n. unspent_left (call_at s.context n) (phase_at s.context n) (was_taken s.reactor n)) in
          let parts = left-parts r.script s in
          let had = knows.room in
          omega (arith, count, less, parts, had);
    }

module _ (told : Bool) (r : Recording) (n : ℕ) (t : Recording) (drops : IsDropping told r n t) where
  abbrev u : State
  u = recorded_state told t

  same_here : phase_at u.context n ≡ phase_at (recorded_state told r).context n
  same_here = drops.from n (omega arith)

  -- an act that isn't unspent is passed
  pub passed : is_unspent_at told r n ≡ false → IsDropping told r (n + 1) t
  passed isnt = record {
    script = drops.script;
    legal = drops.legal;
    over = drops.over;
    acts = drops.acts;
    below = λ m less. elim (cases_eq m n) [
      | inl same ↦ ap (λ m. is_unspent (phase_at u.context m)) same ∙ (ap is_unspent same_here ∙ isnt)
      | inr differ ↦ drops.below m (omega (arith, less, differ))
    ];
    from = λ m less. drops.from m (omega (arith, less));
    calls = drops.calls;
    reactor = drops.reactor;
    called = drops.called;
    room = drops.room;
  }

  module _ (mark : ℕ) (left : is_unspent_at told r n ≡ true) where
    abbrev v : State
    v = after_event t.script told u (event.Dropped n mark)

    unspent_here : is_unspent (phase_at u.context n) ≡ true
    unspent_here = ap is_unspent same_here ∙ left

    within : n < length u.context.acts
    within =
        is_within u.context n (λ absent. let wrong : false ≡ true = sym (ap is_unspent absent) ∙ unspent_here in absurd (cc))

    abbrev dropped_act : ActState
    dropped_act = record (act_at u.context n) { phase = phase.Dropped }

    now : act_at v.context n ≡ dropped_act
    now = act_at-same u.context n dropped_act within

    others : (m : ℕ) → m ≢ n → act_at v.context m ≡ act_at u.context m
    others m differ = act_at-other u.context n dropped_act m differ

    same_size : length v.context.acts ≡ length u.context.acts
    same_size = length-acts u.context n dropped_act

    fewer : unspent_count v.context + 1 ≤ unspent_count u.context
    fewer =
        let one = unspent_sum u.context in
        let two = unspent_sum v.context in
        let gone = ap (λ (act : ActState). one_if (is_unspent act.phase)) now in
        let was = ap one_if unspent_here in
        let less =
        summed-apart (unspent_one v.context) (unspent_one u.context) n 1 (length u.context.acts) within (omega (arith, gone, was))
        (λ m differ.
        let same = ap (λ (act : ActState). one_if (is_unspent act.phase)) (others m differ) in omega (arith, same))
        in
        let size = ap (summed (unspent_one v.context)) same_size in
        omega (arith, one, two, less, size)

    still_over : IsOver t.script u → IsOver t.script v
    still_over (inl closed) = inl closed
    still_over (inr failed) =
        inr (failed.0, All-set (λ act. is_running act.phase ≡ false) u.context.acts n dropped_act refl failed.1)

    abbrev next : Recording
    next = with_event (event.Dropped n mark) t

    may : MayDrop t.script u n
    may = record { over = drops.over; next = record { left = unspent_here; least = drops.below } }

    known : DropsTo told r (n + 1) next v
    known = record {
      script = drops.script;
      legal = history_goes_on t.script told t.events (event.Dropped n mark ∷ []) drops.legal (may, tt);
      over = still_over drops.over;
      acts = same_size ∙ drops.acts;
      below = λ m less. elim (cases_eq m n) [
        | inl same ↦
            ap (λ m. is_unspent (phase_at v.context m)) same ∙ ap (λ (act : ActState). is_unspent act.phase) now
        | inr differ ↦
            ap (λ (act : ActState). is_unspent act.phase) (others m differ)
            ∙ drops.below m (omega (arith, less, differ))
      ];
      from = λ m less. ap (λ (act : ActState). act.phase) (others m (λ same. absurd (omega (arith, less, same))))
          ∙ drops.from m (omega (arith, less));
      calls = λ m. elim (cases_eq m n) [
        | inl same ↦
            ap (λ m. call_at v.context m) same
            ∙ (ap (λ (act : ActState). act.call) now
            ∙ (drops.calls n ∙ ap (λ m. call_at (recorded_state told r).context m) (sym same)))
        | inr differ ↦ ap (λ (act : ActState). act.call) (others m differ) ∙ drops.calls m
      ];
      reactor = drops.reactor;
      called = drops.called;
      room = let less = fewer in let had = drops.room in omega (arith, less, had);
    }

    pub has_dropped : HasDropped told r n mark t
    has_dropped = record {
      may = may;
      room = let less = fewer in let had = drops.room in omega (arith, less, had);
      next =
          subst (DropsTo told r (n + 1) next) (sym (state_goes_on t.script told t.events (event.Dropped n mark ∷ []))) known;
    }

over_whole : (script : ScriptModel) (s : State) → IsOver script s →
    AllClosed script s.context ⊎ (s.reactor.failed ≡ true)
over_whole script s (inl closed) = inl closed
over_whole script s (inr failed) = inr failed.0

pub dropped_legal : (told : Bool) (r : Recording) (t : Recording) → IsDropping told r (length r.script.acts) t →
    IsLegal r.script told t.events
dropped_legal told r t drops =
    let u : State = recorded_state told t in
    let long = ap (λ (script : ScriptModel). length script.acts) drops.script in
    let acts = drops.acts in
    let whole : IsWhole t.script u = record {
      over = over_whole t.script u drops.over;
      spent =
          All-from_get_or (λ act. is_unspent act.phase ≡ false) u.context.acts fresh
          (λ n within. drops.below n (omega (arith, within, long, acts)));
    } in
    let legal : IsLegal t.script told t.events = record { legal = drops.legal; whole = whole } in
    subst (λ script. IsLegal script told t.events) drops.script legal
