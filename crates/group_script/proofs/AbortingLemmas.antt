-- In a script where each slot has one operation, an emit aborts the one that it reaches.
use Rattle.std.proofs.Common.{◌≡◌, ℕ, ◌<◌, Bool, true, false, cond, List, [], ◌∷◌, ◌++◌, Option, Some, None, length, refl, sym, ap, ◌∙◌}
use Rattle.std.specs.Prelude.{slice_get}
use Rattle.std.specs.List.{All}
use Rattle.std.proofs.lemmas.Option.{slice_get_within}
use Rattle.asio_types.specs.declared.code.Code.TheVariants as code
use Rattle.asio_types.specs.declared.event.Event.{Event}
use Rattle.asio_types.specs.declared.event.Event.TheVariants as event
use Rattle.asio_types.specs.declared.number.Lane.{Lane}
use Rattle.session_script.specs.declared.act.Act.{Act}
use Rattle.session_script.specs.declared.act.Act.TheVariants as act
use Rattle.session_script.specs.Lanes.{caller_lane, is_inline, is_inside, lanes_of}
use Rattle.session_script.specs.Script.{Entry, ScriptModel, act_of, is_operation, is_stop, parent_of}
use Rattle.session_script.specs.WellFormed.{IsWellFormed}
use Rattle.session_script.proofs.PlacingLemmas.{act_fits}
use Rattle.history_rules.specs.declared.phase.ActPhase.{ActPhase}
use Rattle.history_rules.specs.declared.phase.ActPhase.TheVariants as phase
use Rattle.history_rules.specs.declared.phase.Cause.TheVariants as cause
use Rattle.history_rules.specs.Calls.{accepted}
use Rattle.history_rules.specs.Kinds.{is_act, is_control, is_posting}
use Rattle.history_rules.specs.Legal.{IsLegalFrom, IsLegalSoFar, after_event, state_from, state_of}
use Rattle.history_rules.specs.Requests.{MayTake, reactor_after_take, slot_in}
use Rattle.history_rules.specs.Rounds.{restarts}
use Rattle.history_rules.specs.State.{ReactorHalf, State, first_state}
use Rattle.group_script.specs.Aborting.{AbortsOrFails, IsPending, ReachesPending, is_apart}
use Rattle.group_script.proofs.AskedLemmas.{Asks, asks_first, asks_from}
use Rattle.group_script.proofs.EmitLemmas.{pending_stands, take-failed, take-heads}
use Rattle.group_script.proofs.HeldLemmas.{IsAlone, keeps-first}
use Rattle.group_script.proofs.NextLemmas.{Waits, next_aborts, waits_from}

-- a first part of what is legal, and the rest from where it comes to
record Parts (script : ScriptModel) (told : Bool) (s : State) (first rest : List Event) : Type 0 where
  before : IsLegalFrom script told s first
  behind : IsLegalFrom script told (state_from script told s first) rest

parts_of : (script : ScriptModel) (told : Bool) (s : State) (first rest : List Event) →
    IsLegalFrom script told s (first ++ rest) → Parts script told s first rest
parts_of script told s [] rest legal = record { before = tt; behind = legal }
parts_of script told s (e ∷ first) rest legal =
    let later = parts_of script told (after_event script told s e) first rest legal.1 in
    record { before = (legal.0, later.before); behind = later.behind }

outside : (r : ReactorHalf) (o : ℕ) (made : Act) (caller : Option Lane) → IsPending r o made →
    is_inside caller made ≡ false
outside r o (act.Wait timer strand slot types) None under = refl
outside r o (act.Wait timer strand slot types) (Some caller) under = refl
outside r o (act.ReadAll stream size strand slot types) None under = refl
outside r o (act.ReadAll stream size strand slot types) (Some caller) under = refl
outside r o made caller under = absurd under

no_posting : (r : ReactorHalf) (o : ℕ) (made : Act) → IsPending r o made → is_posting made ≡ false
no_posting r o (act.Wait timer strand slot types) under = refl
no_posting r o (act.ReadAll stream size strand slot types) under = refl
no_posting r o made under = absurd under

operates : (r : ReactorHalf) (o : ℕ) (made : Act) → IsPending r o made → is_operation made ≡ true
operates r o (act.Wait timer strand slot types) under = refl
operates r o (act.ReadAll stream size strand slot types) under = refl
operates r o made under = absurd under

-- what is pending was asked of the reactor by its call
asks_by : (script : ScriptModel) (r : ReactorHalf) (o : ℕ) (made : Act) (e : Option Entry) →
    slice_get script.acts o ≡ e → act_of script o ≡ Some made → IsPending r o made →
    accepted script o ≡ phase.Requested
asks_by script r o made None there is under =
    absurd (let none : act_of script o ≡ None = rw there refl in let wrong : None ≡ Some made = sym none ∙ is in cc)
asks_by script r o made (Some e) there is under =
    let found : act_of script o ≡ Some e.act = rw there refl in
    let both : Some e.act ≡ Some made = sym found ∙ is in
    let same : e.act ≡ made = cc in
    let inline : is_inline script o ≡ false =
    rw there (ap (is_inside (caller_lane (lanes_of script) (parent_of script o))) same
    ∙ outside r o made (caller_lane (lanes_of script) (parent_of script o)) under) in
    let posting : is_act is_posting script o ≡ false = rw there (ap is_posting same ∙ no_posting r o made under) in
    let operation : is_act is_operation script o ≡ true = rw there (ap is_operation same ∙ operates r o made under) in
    let accept : Bool → Bool → Bool → ActPhase = λ first second third.
    cond first (phase.Inside) (cond second (phase.Ready (code.Ok) 0 (cause.Posted))
    (cond third (phase.Requested) (cond (is_act is_control script o) (phase.Asked) (phase.Absent)))) in
    ap (λ b. accept b (is_act is_posting script o) (is_act is_operation script o)) inline
    ∙ ap (λ b. accept false b (is_act is_operation script o)) posting
    ∙ ap (λ b. accept false false b) operation

module _ (script : ScriptModel) (well : IsWellFormed script)
    (alone : (o p i : ℕ) → slot_in (act_of script o) ≡ Some i → slot_in (act_of script p) ≡ Some i → p ≡ o)
    (no_stop : (n : ℕ) → is_act is_stop script n ≡ false)
    (no_restart : (k : ℕ) → restarts (slice_get script.rounds k) ≡ false) where
  there_of : (o : ℕ) (made : Act) (e : Option Entry) → slice_get script.acts o ≡ e → act_of script o ≡ Some made →
      o < length script.acts
  there_of o made None there is =
      absurd (let none : act_of script o ≡ None = rw there refl in let wrong : None ≡ Some made = sym none ∙ is in cc)
  there_of o made (Some e) there is = slice_get_within script.acts o e there

  pub emit_aborts : (told : Bool) (before between after : List Event) (a o : ℕ) (next : Event) →
      IsLegalSoFar script told (before ++ event.Take a ∷ (between ++ next ∷ after)) →
      ReachesPending script (state_of script told before) a o → All (λ e. is_apart e ≡ true) between →
      is_apart next ≡ false → AbortsOrFails o next
  emit_aborts told before between after a o next legal reach apart is =
      let s : State = state_of script told before in
      let parts =
      parts_of script told (first_state script told) before (event.Take a ∷ (between ++ next ∷ after)) legal in
      let may : MayTake script s a = parts.behind.0 in
      let own : slot_in (act_of script o) ≡ Some reach.slot = ap slot_in reach.is ∙ reach.connected in
      let one : IsAlone script o reach.slot = record {
        there = there_of o reach.made (slice_get script.acts o) refl reach.is;
        own = own;
        alone = λ p theirs. alone o p reach.slot own theirs;
        within = (act_fits script a well (act.Emit reach.slot reach.types) reach.emits).0;
      } in
      let stands = pending_stands s.reactor o reach.made reach.pending in
      let asked = asks_by script s.reactor o reach.made (slice_get script.acts o) refl reach.is reach.pending in
      let asks : Asks script well o reach.slot one asked s =
      asks_from script well o reach.slot one asked told (first_state script told) before parts.before
      (asks_first script well o reach.slot one asked told (keeps-first script well o reach.slot one told)) in
      let held = asks.keeps.held stands in
      let heads =
      take-heads script s.reactor a o reach.slot reach.types reach.made reach.emits reach.is held reach.reached told
      may.turn.told reach.pending in
      let working =
      take-failed script s.reactor a o reach.slot reach.types reach.made reach.emits reach.is held reach.reached told
      ∙ may.turn.working in
      let start : Waits script o asked (after_event script told s (event.Take a))
      (reactor_after_take script told s.reactor a) s.context.closings =
      record { reactor = refl; closed = refl; requested = asks.waits may.turn.round.alive stands } in
      let found =
      waits_from script o asked told (after_event script told s (event.Take a)) between next after
      (reactor_after_take script told s.reactor a) s.context.closings parts.behind.1 apart start in
      next_aborts script o asked no_stop no_restart told
      (state_from script told (after_event script told s (event.Take a)) between) next
      (reactor_after_take script told s.reactor a) s.context.closings found.0 heads working may.turn.round.begun.left
      found.1 is
