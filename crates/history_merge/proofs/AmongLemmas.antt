-- A whole execution among what other lanes do.
use Rattle.std.proofs.Common.{◌≡◌, ℕ, ◌<◌, Bool, inl, false, List, [], ◌∷◌, length, replicate, refl, sym, ap, subst, ◌∙◌}
use Rattle.std.proofs.lemmas.List.{length-replicate}
use Rattle.asio_types.specs.declared.code.Code.{Code}
use Rattle.asio_types.specs.declared.event.Event.{Event}
use Rattle.asio_types.specs.declared.event.Event.TheVariants as event
use Rattle.asio_types.specs.declared.number.Lane.{Lane}
use Rattle.session_script.specs.Script.{ScriptModel}
use Rattle.session_script.specs.Lanes.{is_inline, lane_of}
use Rattle.session_script.specs.WellFormed.{IsWellFormed}
use Rattle.history_rules.specs.Calls.{is_open}
use Rattle.history_rules.specs.Executions.{MayBeginOutside}
use Rattle.history_rules.specs.Legal.{IsLegalFrom, MayHappen, after_event, context_after, state_from}
use Rattle.history_rules.specs.Rounds.{is_running}
use Rattle.history_rules.specs.State.{ContextState, State, fresh, phase_at}
use Rattle.history_rules.specs.declared.phase.ActPhase.{ActPhase}
use Rattle.history_rules.specs.declared.phase.ActPhase.TheVariants as phase
use Rattle.history_rules.specs.declared.phase.ActState.{ActState}
use Rattle.strand_core.specs.Execution.{AnyMark, IsWholeExecution, events_of}
use Rattle.strand_core.specs.declared.posted.Posted.{Posted}
use Rattle.execution_laws.specs.Executed.{IsLegalExecution}
use Rattle.execution_laws.specs.Rest.{IsAtRest, waits_inside}
use Rattle.execution_laws.proofs.RestLemmas.{at_each, is_within}
use Rattle.history_merge.specs.Among.{AreAmong, IsLegalToIdle, IsOfOthers, LaneIsIdle, is_underway, none_left, other_next, own_next}
use Rattle.history_merge.specs.Solo.{solo_context, solo_state}
use Rattle.history_merge.proofs.AlikeLemmas.{LooksAlike}
use Rattle.history_merge.proofs.BodyLaneLemmas.{AreOwn, execution_is_own}
use Rattle.history_merge.proofs.EachActLemmas.{act_in}
use Rattle.history_merge.proofs.SeesLemmas.{SeesAlike, begins_too, may_too, others_keep, own_keeps}
use Rattle.history_merge.proofs.SoloLemmas.{all_fresh, idle_alike, idle_of, solo_legal, solo_sees}

-- These events are left of an execution of the lane. Where it is alone they are legal and leave it at rest; and what it
-- has to do with looks there as it does among these acts.
pub record IsGoing (script : ScriptModel) (told : Bool) (lane : Lane) (left : List Event) (acts : List ActState)
    : Type 0 where
  pub alone : State
  pub legal : IsLegalFrom script told alone left
  pub own : AreOwn script lane left
  pub sees : SeesAlike script lane alone.context.acts acts
  pub ends : IsAtRest script (state_from script told alone left).context

pub not_underway : (of : ActPhase) → is_running of ≡ false → waits_inside of ≡ false → is_underway of ≡ false
not_underway (phase.Running class progress) quiet entered = absurd (cc)
not_underway phase.Inside quiet entered = absurd (cc)
not_underway other quiet entered = refl

module _ (script : ScriptModel) (well : IsWellFormed script) where
  module _ (told : Bool) (lane : Lane) where
    -- what is left is legal where it comes
    pub going_legal : (s : State) (shown : Event) (left : List Event) →
        IsGoing script told lane (shown ∷ left) s.context.acts → MayHappen script told s shown
    going_legal s shown left going =
        may_too script lane told going.alone s shown going.own.0 going.sees going.legal.0

    -- the execution goes on by its next event
    pub going_own : (s : ContextState) (shown : Event) (left : List Event) →
        IsGoing script told lane (shown ∷ left) s.acts → IsGoing script told lane left (context_after script s shown).acts
    going_own s shown left going = record {
      alone = after_event script told going.alone shown;
      legal = going.legal.1;
      own = going.own.1;
      sees = own_keeps script well lane going.alone.context s shown going.own.0 going.sees;
      ends = going.ends;
    }

    -- and stays by those of others
    pub going_others : (s : ContextState) (shown : Event) (left : List Event) → IsOfOthers script lane s shown →
        IsGoing script told lane left s.acts → IsGoing script told lane left (context_after script s shown).acts
    going_others s shown left others going = record {
      alone = going.alone;
      legal = going.legal;
      own = going.own;
      sees = others_keep script well lane going.alone.context.acts s shown others going.sees;
      ends = going.ends;
    }

    -- where nothing is left of it the lane is idle
    pub going_ends : (s : ContextState) → IsGoing script told lane [] s.acts → LaneIsIdle script lane s
    going_ends s going =
        let rest : IsAtRest script going.alone.context = going.ends in
        idle_of script lane going.alone.context.acts s going.sees
        (λ n.
        not_underway (phase_at going.alone.context n)
        (at_each (λ act. is_running act.phase ≡ false) going.alone.context refl rest.quiet n)
        (at_each (λ act. waits_inside act.phase ≡ false) going.alone.context refl rest.entered n))
        (λ n. at_each (λ act. is_open act.call ≡ false) going.alone.context refl rest.back n)

    stay_legal : {s : State} {left all : List Event} → AreAmong script told lane s left all →
        IsGoing script told lane left s.context.acts → IsLegalToIdle script told lane s all
    stay_legal (none_left {s}) going = record { legal = tt; idle = going_ends s.context going }
    stay_legal (own_next {s} {shown} {own} {all} more) going =
        let next = stay_legal more (going_own s.context shown own going) in
        record { legal = (going_legal s shown own going, next.legal); idle = next.idle }
    stay_legal (other_next {s} {shown} {own} {all} may others more) going =
        let next = stay_legal more (going_others s.context shown own others going) in
        record { legal = (may, next.legal); idle = next.idle }

  -- an idle lane stays so by events of others
  pub idle_others : (lane : Lane) (s : ContextState) (shown : Event) → IsOfOthers script lane s shown →
      LaneIsIdle script lane s → LaneIsIdle script lane (context_after script s shown)
  idle_others lane s shown others idle =
      let none : List ActState = replicate (length s.acts) fresh in
      idle_of script lane none (context_after script s shown)
      (others_keep script well lane none s shown others (record {
        size = sym (length-replicate (length s.acts) fresh);
        each = λ n.
            subst (λ x. LooksAlike script lane n x (act_in s.acts n)) (sym (all_fresh (length s.acts) n))
            (idle_alike script lane n fresh (act_in s.acts n) refl refl (λ inside. refl) (idle.quiet n) (idle.back n));
      }))
      (λ n. ap (λ (act : ActState). is_underway act.phase) (all_fresh (length s.acts) n))
      (λ n. ap (λ (act : ActState). is_open act.call) (all_fresh (length s.acts) n))

  -- an execution that begins on an idle lane goes on
  pub going_begins : (told : Bool) (s : ContextState) (op : ℕ) (code : Code) (size : ℕ) (calls : List Posted)
      (own : List Event) → op < length script.acts → length s.acts ≡ length script.acts →
      is_inline script op ≡ false → LaneIsIdle script (lane_of script op) s →
      IsWholeExecution script AnyMark op code size calls →
      events_of script calls ≡ event.Begin op code size ∷ own →
      IsGoing script told (lane_of script op) own (context_after script s (event.Begin op code size)).acts
  going_begins told s op code size calls own within count outside idle whole shown =
      let first : State = solo_state script told op code size in
      let alone : IsLegalExecution script told first op calls =
      solo_legal script op code size within well told calls outside whole in
      let legal : IsLegalFrom script told first (event.Begin op code size ∷ own) =
      subst (IsLegalFrom script told first) shown alone.legal in
      record {
        alone = after_event script told first (event.Begin op code size);
        legal = legal.1;
        own = execution_is_own script well AnyMark (lane_of script op) op code size calls own refl whole shown;
        sees =
            begins_too script well (lane_of script op) (solo_context script op code size) s op code size refl
            (solo_sees script op code size s within outside count idle);
        ends =
            subst (λ events. IsAtRest script (state_from script told first events).context) shown
            (subst (λ (t : State). IsAtRest script t.context) (sym alone.is) alone.executed.rest);
      }

  -- a whole execution that may begin stays legal
  pub stays_legal : (told : Bool) (s : State) (op : ℕ) (code : Code) (size : ℕ) (calls : List Posted)
      (own all : List Event) → length s.context.acts ≡ length script.acts → is_inline script op ≡ false →
      LaneIsIdle script (lane_of script op) s.context → MayBeginOutside script s.context op code size →
      IsWholeExecution script AnyMark op code size calls →
      events_of script calls ≡ event.Begin op code size ∷ own →
      AreAmong script told (lane_of script op) (after_event script told s (event.Begin op code size)) own all →
      IsLegalToIdle script told (lane_of script op) s (event.Begin op code size ∷ all)
  stays_legal told s op code size calls own all count outside idle may whole shown among =
      let within : op < length s.context.acts =
      is_within s.context op (λ absent.
      let wrong : phase.Ready code size may.ready.0 ≡ phase.Absent = sym may.ready.1 ∙ absent in absurd (cc)) in
      let next =
      stay_legal told (lane_of script op) among
      (going_begins told s.context op code size calls own (subst (λ n. op < n) count within) count outside idle whole shown) in
      record { legal = (inl may, next.legal); idle = next.idle }
