-- An operation's execution by itself is legal.
use Rattle.std.proofs.Common.{◌≡◌, ℕ, ◌<◌, Bool, false, true, List, inl, inr, length, replicate, refl, sym, ap, subst, ◌∙◌, arith}
use Rattle.std.specs.List.{All}
use Rattle.std.proofs.Math.ListN.{length-set}
use Rattle.std.proofs.lemmas.Bool.{cases_eq, cases_lt}
use Rattle.std.proofs.lemmas.List.{get_or-replicate, get_or-set_other, get_or-set_same, get_or_past, length-replicate}
use Rattle.std.proofs.lemmas.List.Elements.{All-replicate, All-set}
use Rattle.asio_types.specs.declared.code.Code.{Code}
use Rattle.asio_types.specs.declared.number.Lane.{Lane}
use Rattle.session_script.specs.Script.{ScriptModel, parent_of}
use Rattle.session_script.specs.Lanes.{is_inline, lane_of}
use Rattle.session_script.specs.WellFormed.{IsWellFormed}
use Rattle.history_rules.specs.Calls.{is_open}
use Rattle.history_rules.specs.Executions.{MayBeginOutside}
use Rattle.history_rules.specs.Order.{goes_before}
use Rattle.history_rules.specs.Rounds.{is_running}
use Rattle.history_rules.specs.State.{ContextState, act_at, fresh}
use Rattle.history_rules.specs.declared.phase.Allowance.TheVariants as allowance
use Rattle.history_rules.specs.declared.phase.ActState.{ActState}
use Rattle.history_rules.specs.declared.phase.Cause.TheVariants as cause
use Rattle.strand_core.specs.Execution.{AnyMark, IsWholeExecution}
use Rattle.strand_core.specs.declared.posted.Posted.{Posted}
use Rattle.execution_laws.specs.Executed.{IsLegalExecution}
use Rattle.execution_laws.specs.Rest.{IsAtRest, waits_inside}
use Rattle.execution_laws.specs.Ready.{is_ready}
use Rattle.execution_laws.proofs.ExecutedLemmas.{is_legal_execution}
use Rattle.execution_laws.proofs.FreeLemmas.{free_may_start}
use Rattle.execution_laws.proofs.RestLemmas.{at_each}
use Rattle.history_merge.specs.Among.{LaneIsIdle, IsPlaceOn, is_underway}
use Rattle.history_merge.specs.Solo.{solo_act, solo_context, solo_state}
use Rattle.history_merge.proofs.AlikeLemmas.{LooksAlike, is_executed, is_not, never}
use Rattle.history_merge.proofs.EachActLemmas.{act_in}
use Rattle.history_merge.proofs.SeesLemmas.{SeesAlike}

-- each act of a list of fresh ones, and what is behind it
pub all_fresh : (count n : ℕ) → act_in (replicate count fresh) n ≡ fresh
all_fresh count n = elim (cases_lt n count) [
  | inl within ↦ get_or-replicate count n fresh fresh within
  | inr beyond ↦
      get_or_past (replicate count fresh) n fresh (omega (arith, beyond, length-replicate count fresh))
]

module _ (script : ScriptModel) (op : ℕ) (code : Code) (size : ℕ) where
  abbrev solo : ContextState
  solo = solo_context script op code size

  solo_size : length solo.acts ≡ length script.acts
  solo_size =
      length-set (replicate (length script.acts) fresh) op (solo_act code size) ∙ length-replicate (length script.acts) fresh

  -- what holds of a fresh act and of the operation holds of each
  everywhere : (P : ActState → Type 0) → P fresh → P (solo_act code size) → All P solo.acts
  everywhere P unborn own =
      All-set P (replicate (length script.acts) fresh) op (solo_act code size) own
      (All-replicate P (length script.acts) fresh unborn)

  pub solo_rest : IsAtRest script solo
  solo_rest = record {
    acts = solo_size;
    quiet = everywhere (λ act. is_running act.phase ≡ false) refl refl;
    entered = everywhere (λ act. waits_inside act.phase ≡ false) refl refl;
    back = everywhere (λ act. is_open act.call ≡ false) refl refl;
    counted = omega arith;
  }

  module _ (within : op < length script.acts) where
    own_act : act_at solo op ≡ solo_act code size
    own_act =
        get_or-set_same (replicate (length script.acts) fresh) op (solo_act code size) fresh
        (omega (arith, within, length-replicate (length script.acts) fresh))

    module _ (well : IsWellFormed script) where
      pub solo_may : MayBeginOutside script solo op code size
      solo_may = record {
        round = record {
          begun = record { opened = refl; left = omega (arith, well.some_round) };
          restarted = λ wanted. refl;
          alive = refl;
        };
        ready = (cause.Posted, ap (λ (act : ActState). act.phase) own_act);
        alone = λ other same.
            at_each (λ act. is_running act.phase ≡ false) solo refl
            (everywhere (λ act. is_running act.phase ≡ false) refl refl) other;
        first = λ other same.
            subst (λ own. goes_before (act_at solo other) own ≡ false) (sym own_act)
            (at_each (λ act. goes_before act (solo_act code size) ≡ false) solo refl
            (everywhere (λ act. goes_before act (solo_act code size) ≡ false) refl refl) other);
        allowed =
            free_may_start script solo op well (record {
              lanes = length-replicate script.strands allowance.Free;
              free = λ going. refl;
            }) refl;
      }

      pub solo_legal : (told : Bool) (calls : List Posted) → is_inline script op ≡ false →
          IsWholeExecution script AnyMark op code size calls →
          IsLegalExecution script told (solo_state script told op code size) op calls
      solo_legal told calls outside whole =
          is_legal_execution script told (solo_state script told op code size) op code size calls well solo_rest outside
          solo_may whole

-- an idle lane, beside one where nothing of it is under way
module _ (script : ScriptModel) (lane : Lane) where
  pub idle_alike : (n : ℕ) (x y : ActState) → is_executed x.phase ≡ false → is_open x.call ≡ false →
      (is_inline script n ≡ true → is_ready x.phase ≡ false) →
      (lane_of script n ≡ lane → is_underway y.phase ≡ false) →
      (IsPlaceOn script lane (parent_of script n) → is_open y.call ≡ false) → LooksAlike script lane n x y
  idle_alike n x y idle closed unready quiet back = record {
    executed = λ runs. absurd (never (is_executed x.phase) idle runs);
    called = λ calling. absurd (never (is_open x.call) closed calling);
    of_lane = λ runs. absurd (never (is_executed x.phase) idle runs);
    by_lane = λ calling. absurd (never (is_open x.call) closed calling);
    inline = unready;
    quiet = λ of under. absurd (never (is_underway y.phase) (quiet of) under);
    back = λ by calling. absurd (never (is_open y.call) (back by) calling);
  }

  -- where nothing is under way alone, the lane is idle among others
  pub idle_of : (alone : List ActState) (s : ContextState) → SeesAlike script lane alone s.acts →
      ((n : ℕ) → is_underway (act_in alone n).phase ≡ false) → ((n : ℕ) → is_open (act_in alone n).call ≡ false) →
      LaneIsIdle script lane s
  idle_of alone s sees quiet back = record {
    quiet = λ n of.
        is_not (is_underway (act_at s n).phase)
        (λ under. never (is_underway (act_in alone n).phase) (quiet n) ((sees.each n).quiet of under));
    back = λ n by.
        is_not (is_open (act_at s n).call)
        (λ calling. never (is_open (act_in alone n).call) (back n) ((sees.each n).back by calling));
  }

-- an operation's solo context is like any in which its lane is idle
pub solo_sees : (script : ScriptModel) (op : ℕ) (code : Code) (size : ℕ) (s : ContextState) →
    op < length script.acts → is_inline script op ≡ false → length s.acts ≡ length script.acts →
    LaneIsIdle script (lane_of script op) s →
    SeesAlike script (lane_of script op) (solo_context script op code size).acts s.acts
solo_sees script op code size s within outside count idle = record {
  size = count ∙ sym (solo_size script op code size);
  each = λ n. elim (cases_eq n op) [
    | inl same ↦
        subst (λ x. LooksAlike script (lane_of script op) n x (act_at s n))
        (sym (ap (act_at (solo_context script op code size)) same ∙ own_act script op code size within))
        (idle_alike script (lane_of script op) n (solo_act code size) (act_at s n) refl refl
        (λ inside. absurd (never (is_inline script op) outside (sym (ap (is_inline script) same) ∙ inside)))
        (idle.quiet n) (idle.back n))
    | inr other ↦
        subst (λ x. LooksAlike script (lane_of script op) n x (act_at s n))
        (sym (get_or-set_other (replicate (length script.acts) fresh) op n (solo_act code size) fresh other
        ∙ all_fresh (length script.acts) n))
        (idle_alike script (lane_of script op) n fresh (act_at s n) refl refl (λ inside. refl) (idle.quiet n) (idle.back n))
  ];
}
