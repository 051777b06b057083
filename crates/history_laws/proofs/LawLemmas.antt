-- The laws of a legal history, from what its states are.
use Rattle.std.proofs.Common.{◌≡◌, ◌≢◌, ◌⊎◌, ℕ, ◌<◌, ◌≤◌, zero, suc, Bool, true, false, cond, List, [], ◌∷◌, Some, inl, inr, take, refl, sym, ap, subst, ◌∙◌, arith}
use Rattle.std.specs.List.{All}
use Rattle.std.specs.Prelude.{slice_get}
use Rattle.std.proofs.lemmas.Bool.{cases_lt}
use Rattle.std.proofs.lemmas.List.{take-take}
use Rattle.std.proofs.lemmas.List.Sums.{sum_by-take-le}
use Rattle.asio_types.specs.declared.code.Code.{Code}
use Rattle.asio_types.specs.declared.code.Code.TheVariants as code
use Rattle.asio_types.specs.declared.event.Event.{Event}
use Rattle.asio_types.specs.declared.event.Event.TheVariants as event
use Rattle.session_script.specs.Script.{ScriptModel, is_op}
use Rattle.session_script.specs.WellFormed.{IsWellFormed}
use Rattle.history_rules.specs.Calls.{is_open}
use Rattle.history_rules.specs.Legal.{IsLegalSoFar, MayHappen, state_of}
use Rattle.history_rules.specs.Order.{is_request, was_taken}
use Rattle.history_rules.specs.Rounds.{is_running, is_unspent}
use Rattle.history_rules.specs.State.{State, act_at, call_at, first_state, phase_at}
use Rattle.history_rules.specs.declared.phase.ActPhase.{ActPhase}
use Rattle.history_rules.specs.declared.phase.ActPhase.TheVariants as phase
use Rattle.history_rules.specs.declared.phase.ActState.{ActState}
use Rattle.history_rules.specs.declared.phase.CallPhase.{CallPhase}
use Rattle.history_rules.specs.declared.phase.CallPhase.TheVariants as call
use Rattle.history_rules.specs.declared.phase.Cause.{Cause}
use Rattle.history_rules.specs.declared.phase.Cause.TheVariants as cause
use Rattle.history_laws.specs.AfterCompletion.{HandlersFollowCompletion, IsAsynchronous, IsPosting, StandsBefore}
use Rattle.history_laws.specs.Alone.{StrandsRunOneAtATime}
use Rattle.history_laws.specs.Events.{StandsAt, begins_of, is_begin_of}
use Rattle.history_laws.specs.Once.{HandlersRunOnce, HasNoHandler}
use Rattle.history_laws.proofs.CallerLaneLemmas.{caller_strand}
use Rattle.history_laws.proofs.CountLemmas.{one_if, same-is}
use Rattle.history_laws.proofs.HistoryLemmas.{shown_so_far}
use Rattle.history_laws.proofs.KindLemmas.{inline_posts, was_made}
use Rattle.history_laws.proofs.MovingLemmas.{finished_in}
use Rattle.history_laws.proofs.PendingLemmas.{told_one}
use Rattle.history_laws.proofs.ReachLemmas.{legal_take, may_at}
use Rattle.history_laws.proofs.Shown.{IsShown, StandsIn}
use Rattle.history_laws.proofs.ShownLemmas.{begins_shown, calls_shown, completions_shown, drops_shown, ends_shown, returns_shown}
use Rattle.history_laws.proofs.Sound.{IsPhaseOf, may_pend}
use Rattle.history_laws.proofs.TakingLemmas.{was}
use Rattle.history_laws.proofs.TurnSoundLemmas.{at_each, inside_open, inside_runs, requested}

-- what stands among the first events stands before
pub stands_before : (events : List Event) (place k : ℕ) (shown : Event) → slice_get (take place events) k ≡ Some shown →
    (k < place) × (slice_get events k ≡ Some shown)
stands_before events zero k shown at = absurd (cc)
stands_before [] (suc place) k shown at = absurd (cc)
stands_before (first ∷ events) (suc place) zero shown at = (omega arith, at)
stands_before (first ∷ events) (suc place) (suc k) shown at =
    let rest = stands_before events place k shown at in (omega (arith, rest.0), rest.1)

pub before_it : (events : List Event) (place : ℕ) (shown : Event) → StandsIn (take place events) shown →
    StandsBefore events place shown
before_it events place shown stands =
    let both = stands_before events place stands.0 shown stands.1 in
    record { earlier = stands.0; before = both.0; stands = both.1 }

most_shown : (made : CallPhase) → calls_shown made ≤ 1
most_shown call.Uncalled = omega arith
most_shown (call.Open called) = omega arith
most_shown (call.Stopping called) = omega arith
most_shown (call.Back called back) = omega arith

uncalled_shown : (made : CallPhase) → calls_shown made ≡ 0 → made ≡ call.Uncalled
uncalled_shown call.Uncalled none = refl
uncalled_shown (call.Open called) none = absurd (omega (arith, none))
uncalled_shown (call.Stopping called) none = absurd (omega (arith, none))
uncalled_shown (call.Back called back) none = absurd (omega (arith, none))

most_completions : (p : ActPhase) → completions_shown p ≤ 1
most_completions phase.Absent = omega arith
most_completions phase.Inside = omega arith
most_completions phase.Requested = omega arith
most_completions (phase.Ready given size why) = omega arith
most_completions (phase.Running class progress) = omega arith
most_completions phase.Ended = omega arith
most_completions phase.Dropped = omega arith
most_completions phase.Asked = omega arith

runs_shown : (p : ActPhase) → begins_shown p ≡ 1 → ends_shown p ≡ 0 → is_running p ≡ true
runs_shown (phase.Running class progress) begun unended = refl
runs_shown phase.Ended begun unended = absurd (omega (arith, unended))
runs_shown phase.Absent begun unended = absurd (omega (arith, begun))
runs_shown phase.Inside begun unended = absurd (omega (arith, begun))
runs_shown phase.Requested begun unended = absurd (omega (arith, begun))
runs_shown (phase.Ready given size why) begun unended = absurd (omega (arith, begun))
runs_shown phase.Dropped begun unended = absurd (omega (arith, begun))
runs_shown phase.Asked begun unended = absurd (omega (arith, begun))

shown_running : (p : ActPhase) → is_running p ≡ true → (begins_shown p ≡ 1) × (ends_shown p ≡ 0)
shown_running (phase.Running class progress) runs = (refl, refl)
shown_running _ runs = absurd (cc)

shown_open : (made : CallPhase) → is_open made ≡ true → (calls_shown made ≡ 1) × (returns_shown made ≡ 0)
shown_open (call.Open called) is = (refl, refl)
shown_open (call.Stopping called) is = (refl, refl)
shown_open _ is = absurd (cc)

-- what has a handler that ran or was destroyed is an operation
none_shown : (script : ScriptModel) (n : ℕ) (made : CallPhase) (p : ActPhase) → is_op script n ≡ false →
    IsPhaseOf script n made p → (begins_shown p ≡ 0) × (ends_shown p ≡ 0) × (drops_shown p ≡ 0)
none_shown script n made (phase.Running class progress) never is = absurd (let wrong : true ≡ false = sym is ∙ never in cc)
none_shown script n made phase.Ended never is = absurd (let wrong : true ≡ false = sym is ∙ never in cc)
none_shown script n made phase.Dropped never is = absurd (let wrong : true ≡ false = sym is ∙ never in cc)
none_shown script n made phase.Absent never is = (refl, refl, refl)
none_shown script n made phase.Inside never is = (refl, refl, refl)
none_shown script n made phase.Requested never is = (refl, refl, refl)
none_shown script n made (phase.Ready given size why) never is = (refl, refl, refl)
none_shown script n made phase.Asked never is = (refl, refl, refl)

-- a spent operation has ended or was destroyed
spent_shown : (script : ScriptModel) (n : ℕ) (made : CallPhase) (p : ActPhase) → is_op script n ≡ true →
    IsPhaseOf script n made p → is_unspent p ≡ false → (p ≡ phase.Ended) ⊎ (p ≡ phase.Dropped)
spent_shown script n made phase.Ended is of spent = inl refl
spent_shown script n made phase.Dropped is of spent = inr refl
spent_shown script n made phase.Absent is of spent = absurd (let wrong : true ≡ false = sym is ∙ of in cc)
spent_shown script n made phase.Asked is of spent = absurd (let wrong : true ≡ false = sym is ∙ of in cc)
spent_shown script n made _ is of spent = absurd (cc)

pub count_first : (n : ℕ) (events : List Event) (i j : ℕ) → i ≤ j → begins_of n (take i events) ≤ begins_of n (take j events)
count_first n events i j less =
    let same : take i (take j events) ≡ take i events = take-take i j events less in
    let few = sum_by-take-le (λ e. cond (is_begin_of n e) 1 0) (take j events) i in
    let here : begins_of n (take i (take j events)) ≡ begins_of n (take i events) = ap (begins_of n) same in
    omega (arith, few, here)

module _ (script : ScriptModel) (well : IsWellFormed script) (told : Bool) (events : List Event)
    (legal : IsLegalSoFar script told events) where
  -- the state at a place
  abbrev pub at : ℕ → State
  at place = state_of script told (take place events)

  pub shown_at : (place : ℕ) → IsShown script (take place events) (at place)
  shown_at place =
      shown_so_far script well told (take place events)
      (legal_take script told (first_state script told) events place legal)

  pub happens : (place : ℕ) (e : Event) → StandsAt events place e → MayHappen script told (at place) e
  happens place e stands = may_at script told (first_state script told) events place e legal stands

  -- what begins hasn't begun
  pub begins_first : (n place : ℕ) (given : Code) (size : ℕ) → StandsAt events place (event.Begin n given size) →
      begins_of n (take place events) ≡ 0
  begins_first n place given size stands = (shown_at place).begins n ∙ elim (happens place (event.Begin n given size) stands) [
    | inl outside ↦ ap begins_shown outside.ready.1
    | inr inside ↦ ap begins_shown inside.inside
  ]

  ends_then : (n place mark : ℕ) → StandsAt events place (event.End n mark) → begins_of n (take place events) ≡ 1
  ends_then n place mark stands =
      let runs = finished_in script n (phase_at (at place).context n) (happens place (event.End n mark) stands) in
      (shown_at place).begins n ∙ ap begins_shown runs.2

  pub order : (n began ended : ℕ) (given : Code) (size mark : ℕ) → StandsAt events began (event.Begin n given size) →
      StandsAt events ended (event.End n mark) → began < ended
  order n began ended given size mark begins ends = elim (cases_lt began ended) [
    | inl less ↦ less
    | inr more ↦
        let few = count_first n events ended began more in
        let none = begins_first n began given size begins in
        let one = ends_then n ended mark ends in
        absurd (omega (arith, few, none, one))
  ]

  made_at : (place n : ℕ) → phase_at (at place).context n ≢ phase.Absent → call_at (at place).context n ≢ call.Uncalled
  made_at place n became =
      was_made script n (act_at (at place).context n) ((shown_at place).sound.kinds n) became

  kind_at : (place n : ℕ) (p : ActPhase) → p ≢ phase.Absent → phase_at (at place).context n ≡ p →
      IsPhaseOf script n (call_at (at place).context n) p
  kind_at place n p became is =
      subst (λ (p : ActPhase). IsPhaseOf script n (call_at (at place).context n) p) is
      (((shown_at place).sound.kinds n).made (made_at place n (λ absent. became (sym is ∙ absent))))

  pub completed : (n place : ℕ) (given : Code) (size : ℕ) → IsAsynchronous script n →
      StandsAt events place (event.Begin n given size) → StandsBefore events place (event.Done n given size)
  completed n place given size is stands = elim (happens place (event.Begin n given size) stands) [
    | inl outside ↦
        by_cause outside.ready.0 outside.ready.1
        (kind_at place n (phase.Ready given size outside.ready.0) (λ same. absurd (cc)) outside.ready.1)
    | inr inside ↦
        let inline = (inside_open script well told (at place) (shown_at place).sound n inside.inside).0 in
        let posts = inline_posts script n inline in
        absurd (let wrong : true ≡ false = sym posts ∙ is.unposted in cc)
  ]
    where
      by_cause : (why : Cause) → phase_at (at place).context n ≡ phase.Ready given size why →
          IsPhaseOf script n (call_at (at place).context n) (phase.Ready given size why) →
          StandsBefore events place (event.Done n given size)
      by_cause cause.Posted ready of = absurd (let wrong : true ≡ false = sym of.0 ∙ is.unposted in cc)
      by_cause (cause.Completed done turn) ready of =
          before_it events place (event.Done n given size) ((shown_at place).completed n given size done turn ready)

  pub posted : (n place : ℕ) (given : Code) (size : ℕ) → IsPosting script n →
      StandsAt events place (event.Begin n given size) →
      StandsBefore events place (event.Call n) × (given ≡ code.Ok) × (size ≡ 0)
  posted n place given size is stands = elim (happens place (event.Begin n given size) stands) [
    | inl outside ↦
        let both = by_cause outside.ready.0
        (kind_at place n (phase.Ready given size outside.ready.0) (λ same. absurd (cc)) outside.ready.1) in (
          before_it events place (event.Call n)
              ((shown_at place).called n (made_at place n
              (λ absent. absurd (let wrong : phase.Ready given size outside.ready.0 ≡ phase.Absent = sym outside.ready.1 ∙
              absent in cc)))),
          both.0,
          both.1,
        )
    | inr inside ↦ (
      before_it events place (event.Call n)
          ((shown_at place).called n (made_at place n
          (λ absent. absurd (let wrong : phase.Inside ≡ phase.Absent = sym inside.inside ∙ absent in cc)))),
      inside.ok,
      inside.empty,
    )
  ]
    where
      by_cause : (why : Cause) → IsPhaseOf script n (call_at (at place).context n) (phase.Ready given size why) →
          (given ≡ code.Ok) × (size ≡ 0)
      by_cause cause.Posted of = (of.1, of.2)
      by_cause (cause.Completed done turn) of = absurd (let wrong : true ≡ false = sym is ∙ of.unposted in cc)

  one_true : (b : Bool) → 1 ≤ one_if b → b ≡ true
  one_true true is = refl
  one_true false is = absurd (omega (arith, is))

  pub taken : (n place : ℕ) (given : Code) (size : ℕ) → StandsAt events place (event.Done n given size) →
      StandsBefore events place (event.Take n)
  taken n place given size stands =
      let may = happens place (event.Done n given size) stands in
      let s : State = at place in
      let asks = requested script well told s (shown_at place).sound n given size may in
      let less = told_one n script told n given size s.reactor may.next in
      let here = ap one_if (same-is n) in
      let pends = (shown_at place).sound.pending n in
      let waits : one_if (may_pend (phase_at s.context n) (was_taken s.reactor n)) ≡ one_if (was_taken s.reactor n) =
      ap (λ (p : ActPhase). one_if (may_pend p (was_taken s.reactor n))) asks in
      before_it events place (event.Take n)
      ((shown_at place).taken n (one_true (was_taken s.reactor n) (omega (arith, less, here, pends, waits))))

  pub asked : (n place : ℕ) → StandsAt events place (event.Take n) → StandsBefore events place (event.Call n)
  asked n place stands =
      let may = happens place (event.Take n) stands in
      let asks = was script well told (at place) (shown_at place).sound n may in
      before_it events place (event.Call n)
      ((shown_at place).called n (made_at place n
      (λ absent. absurd (let wrong : true ≡ false = sym asks.0 ∙ ap is_request absent in cc))))

  pub alone : StrandsRunOneAtATime script events
  alone n other place given size runs same stands = elim (happens place (event.Begin other given size) stands) [
    | inl outside ↦
        let running = runs_shown (phase_at (at place).context n) (sym ((shown_at place).begins n) ∙ runs.begun)
        (sym ((shown_at place).ends n) ∙ runs.unended) in
        absurd (let wrong : true ≡ false = sym running ∙ outside.alone n same in cc)
    | inr inside ↦
        let caller = inside_runs script well told (at place) (shown_at place).sound other inside.inside in
        let both = inside_open script well told (at place) (shown_at place).sound other inside.inside in
        let runs = shown_running (phase_at (at place).context caller.0.0) caller.2 in
        let opened = shown_open (call_at (at place).context other) both.1 in record {
          caller = caller.0.0;
          class = caller.0.1;
          makes = caller.1;
          strand = caller_strand script well other caller.0 both.0 caller.1;
          runs = record {
            begun = (shown_at place).begins caller.0.0 ∙ runs.0;
            unended = (shown_at place).ends caller.0.0 ∙ runs.1;
          };
          inside = record {
            made = (shown_at place).calls other ∙ opened.0;
            outstanding = (shown_at place).returns other ∙ opened.1;
          };
        }
  ]

  abbrev pub last : State
  last = state_of script told events

  shown : IsShown script events last
  shown = shown_so_far script well told events legal

  most_one : (b : Bool) → one_if b ≤ 1
  most_one true = omega arith
  most_one false = omega arith

  pub follows : HandlersFollowCompletion script events
  follows = record {
    once = λ n. let most = most_completions (phase_at last.context n) in omega (arith, most, shown.completions n);
    taken_once = λ n. let most = most_one (was_taken last.reactor n) in omega (arith, most, shown.takes n);
    completed = completed;
    posted = posted;
    taken = taken;
    asked = asked;
  }

  none : (n : ℕ) → (is_op script n ≡ false) ⊎ (call_at last.context n ≡ call.Uncalled) → HasNoHandler events n
  none n (inr uncalled) =
      let absent = (shown.sound.kinds n).uncalled uncalled in record {
        unbegun = shown.begins n ∙ ap begins_shown absent;
        unended = shown.ends n ∙ ap ends_shown absent;
        undestroyed = shown.drops n ∙ ap drops_shown absent;
      }
  none n (inl isnt) = elim (cases_called (call_at last.context n)) [
    | inl uncalled ↦ none_called uncalled
    | inr made ↦
        let zero = none_shown script n (call_at last.context n) (phase_at last.context n) isnt
        ((shown.sound.kinds n).made made) in record {
          unbegun = shown.begins n ∙ zero.0;
          unended = shown.ends n ∙ zero.1;
          undestroyed = shown.drops n ∙ zero.2;
        }
  ]
    where
      cases_called : (made : CallPhase) → (made ≡ call.Uncalled) ⊎ (made ≢ call.Uncalled)
      cases_called call.Uncalled = inl refl
      cases_called (call.Open called) = inr (λ same. absurd (cc))
      cases_called (call.Stopping called) = inr (λ same. absurd (cc))
      cases_called (call.Back called back) = inr (λ same. absurd (cc))

      none_called : call_at last.context n ≡ call.Uncalled → HasNoHandler events n
      none_called uncalled =
          let absent = (shown.sound.kinds n).uncalled uncalled in record {
            unbegun = shown.begins n ∙ ap begins_shown absent;
            unended = shown.ends n ∙ ap ends_shown absent;
            undestroyed = shown.drops n ∙ ap drops_shown absent;
          }

  pub once : All (λ act. is_unspent act.phase ≡ false) last.context.acts → HandlersRunOnce script events
  once spent = record {
    called = λ n. let most = most_shown (call_at last.context n) in omega (arith, most, shown.calls n);
    spent = λ n is called.
        let kind = (shown.sound.kinds n).made
        (λ uncalled. let zero = ap calls_shown uncalled in absurd (omega (arith, zero, called, shown.calls n))) in
        elim (spent_shown script n (call_at last.context n) (phase_at last.context n) is kind
        (at_each (λ (act : ActState). is_unspent act.phase ≡ false) last.context refl spent n)) [
          | inl ended ↦ inl (record {
            begun = shown.begins n ∙ ap begins_shown ended;
            ended = shown.ends n ∙ ap ends_shown ended;
            undestroyed = shown.drops n ∙ ap drops_shown ended;
          })
          | inr dropped ↦ inr (record {
            destroyed = shown.drops n ∙ ap drops_shown dropped;
            unbegun = shown.begins n ∙ ap begins_shown dropped;
            unended = shown.ends n ∙ ap ends_shown dropped;
          })
        ];
    others = λ n why. none n (elim why [
      | inl isnt ↦ inl isnt
      | inr never ↦ inr (uncalled_shown (call_at last.context n) (sym (shown.calls n) ∙ never))
    ]);
    order = order;
  }
