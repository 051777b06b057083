-- Between two parts of every lane nothing runs, no call is open, and the reactor rests.
use Rattle.std.proofs.Common.{◌≡◌, ℕ, ◌<◌, Bool, true, false, List, [], None, Some, length, refl, sym, subst, arith}
use Rattle.std.proofs.lemmas.List.Elements.{All-from_get_or}
use Rattle.std.proofs.lemmas.Option.{slice_get_within}
use Rattle.session_script.specs.Lanes.{lane_of}
use Rattle.session_script.specs.Script.{Place, ScriptModel, is_op, opening_of, parent_of}
use Rattle.session_script.specs.WellFormed.{IsWellFormed}
use Rattle.history_rules.specs.Calls.{is_open}
use Rattle.history_rules.specs.Rounds.{NoCallIsOpen, NothingRuns, is_running, is_unspent}
use Rattle.history_rules.specs.State.{ContextState, call_at, fresh, phase_at}
use Rattle.history_rules.specs.declared.phase.ActPhase.{ActPhase}
use Rattle.history_rules.specs.declared.phase.ActPhase.TheVariants as phase
use Rattle.lane_clock.specs.History.{ClockEvent}
use Rattle.lane_map.specs.LaneNumbers.{home_lane}
use Rattle.lane_map.proofs.RankLemmas.{op_within}
use Rattle.lane_logs.specs.Labels.{Labelled}
use Rattle.lane_logs.specs.Logs.{LogsView}
use Rattle.lane_logs.specs.Names.{SessionNames}
use Rattle.lane_logs.specs.SeatNumbers.{lane_count}
use Rattle.history_merge.specs.Among.{IsPlaceOn, LaneIsIdle, is_underway}
use Rattle.history_merge.proofs.AlikeLemmas.{is_not, never}
use Rattle.history_merge.proofs.AmongLemmas.{IsGoing, going_ends}
use Rattle.history_merge.proofs.LabellingLemmas.{AreLabels}
use Rattle.history_merge.proofs.LaneOfLemmas.{caller_op, home_counted}
use Rattle.history_merge.proofs.SoLemmas.{IsSo, state_so}
use Rattle.history_merge.proofs.StageLemmas.{left_at}

running_unspent : (of : ActPhase) → is_running of ≡ true → is_unspent of ≡ true
running_unspent (phase.Running class progress) is = refl
running_unspent other is = absurd (cc)

running_underway : (of : ActPhase) → is_running of ≡ true → is_underway of ≡ true
running_underway (phase.Running class progress) is = refl
running_underway other is = absurd (cc)

module _ (names : SessionNames) (well : IsWellFormed names.script) (logs : LogsView) (labels : ℕ → List Labelled)
    (are : AreLabels names logs labels) (es : List ClockEvent) (so : IsSo names logs labels are es)
    (left : (lane : ℕ) (within : lane < lane_count names.script) → left_at names logs labels are es lane within ≡ []) where
  abbrev script : ScriptModel
  script = names.script

  abbrev context : ContextState
  context = (state_so names logs labels are es).context

  pub lane_idle : (o : ℕ) → is_op names.script o ≡ true → LaneIsIdle names.script (lane_of names.script o) context
  lane_idle o op =
      let within = home_counted script well o (op_within script o op) in
      going_ends script well names.told (lane_of script o) context
      (subst (λ events. IsGoing script names.told (lane_of script o) events context.acts)
      (left (home_lane script o) within) (so.going o op within))

  pub not_running : (n : ℕ) → is_running (phase_at context n) ≡ true → ⊥
  not_running n runs = by_kind (is_op script n) refl
    where
      by_kind : (b : Bool) → is_op script n ≡ b → ⊥
      by_kind true op =
          never (is_underway (phase_at context n)) ((lane_idle n op).quiet n refl)
          (running_underway (phase_at context n) runs)
      by_kind false isnt =
          never (is_unspent (phase_at context n)) ((so.state.kinds n).spent isnt) (running_unspent (phase_at context n) runs)

  pub nothing_runs : NothingRuns context
  nothing_runs =
      All-from_get_or (λ act. is_running act.phase ≡ false) context.acts fresh
      (λ n within. is_not (is_running (phase_at context n)) (not_running n))

  -- where the calls of `open` are back no call is open
  module _ (back : context.opening.back ≡ length (opening_of names.script)) where
    not_open : (n : ℕ) (place : Place) → parent_of script n ≡ place → is_open (call_at context n) ≡ true → ⊥
    not_open n None under opens =
        let next = so.state.opens n under opens in
        let within = slice_get_within (opening_of script) context.opening.back n next.at in
        omega (arith, within, back)
    not_open n (Some at) under opens =
        never (is_open (call_at context n))
        ((lane_idle at.0 (caller_op script well n at under)).back n
        (subst (IsPlaceOn script (lane_of script at.0)) (sym under) refl)) opens

    pub no_call_open : NoCallIsOpen context
    no_call_open =
        All-from_get_or (λ act. is_open act.call ≡ false) context.acts fresh
        (λ n within. is_not (is_open (call_at context n)) (not_open n (parent_of script n) refl))

    pub call_closed : (n : ℕ) → is_open (call_at context n) ≡ false
    call_closed n = is_not (is_open (call_at context n)) (not_open n (parent_of script n) refl)
