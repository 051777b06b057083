-- The operation that was noted at a place of a lane is ready with the note's code and size, where it hasn't begun.
use Rattle.std.proofs.Common.{◌≡◌, ◌≢◌, ℕ, true, false, List, inl, inr, refl, sym, ap, subst}
use Rattle.asio_types.specs.declared.code.Code.{Code}
use Rattle.asio_types.specs.declared.code.Code.TheVariants as code
use Rattle.asio_types.specs.declared.event.Event.TheVariants as event
use Rattle.session_script.specs.WellFormed.{IsWellFormed}
use Rattle.history_rules.specs.Executions.{IsReadyWith}
use Rattle.history_rules.specs.State.{State, phase_at}
use Rattle.history_rules.specs.declared.phase.ActPhase.{ActPhase}
use Rattle.history_rules.specs.declared.phase.ActPhase.TheVariants as phase
use Rattle.history_rules.specs.declared.phase.Cause.TheVariants as cause
use Rattle.execution_laws.specs.Order.{has_begun}
use Rattle.lane_clock.specs.declared.found.Change.TheVariants as change
use Rattle.lane_clock.specs.declared.note.Note.{Note}
use Rattle.lane_clock.specs.History.{ClockEvent}
use Rattle.lane_clock.proofs.MomentLemmas.{Tail}
use Rattle.lane_map.specs.LaneNumbers.{reactor_lane}
use Rattle.lane_logs.specs.Labels.{Labelled}
use Rattle.lane_logs.specs.Logs.{AreLogs, LogsView}
use Rattle.lane_logs.specs.Names.{SessionNames}
use Rattle.history_merge.proofs.AlikeLemmas.{never}
use Rattle.history_merge.proofs.DatesLemmas.{StandsTold, is_over, is_past, is_told}
use Rattle.history_merge.proofs.FirstLemmas.{called_before}
use Rattle.history_merge.proofs.LabellingLemmas.{AreLabels}
use Rattle.history_merge.proofs.NoteLemmas.{IsNoted, call_note_op}
use Rattle.history_merge.proofs.ReadyLemmas.{Stands, has_run, is_ready, was_dropped}
use Rattle.history_merge.proofs.SoLemmas.{IsSo, state_so}
use Rattle.history_merge.proofs.StagedLemmas.{labelled_to, reactor_within}
use Rattle.history_merge.proofs.TimeLemmas.{made_shown}

begun_past : (of : ActPhase) → has_begun of ≡ true → is_past of ≡ true
begun_past (phase.Running class progress) is = refl
begun_past phase.Ended is = refl
begun_past other is = absurd (cc)

-- a posting that stands is ready
stands_ready : (of : ActPhase) → Stands of → is_past of ≡ false → IsReadyWith of code.Ok 0
stands_ready _ is_ready isnt = (cause.Posted, refl)
stands_ready of (has_run begun) isnt = absurd (never (is_past of) isnt (begun_past of begun))
stands_ready _ was_dropped isnt = absurd (cc)

told_ready : (given : Code) (size count : ℕ) (of : ActPhase) → StandsTold given size count of → is_past of ≡ false →
    IsReadyWith of given size
told_ready given size count of (is_over over) isnt = absurd (never (is_past of) isnt over)
told_ready given size count of (is_told turn ready) isnt = (cause.Completed count turn, ready)

module _ (names : SessionNames) (well : IsWellFormed names.script) (logs : LogsView) (labels : ℕ → List Labelled)
    (logged : AreLogs names logs) (are : AreLabels names logs labels) (es : List ClockEvent)
    (tail : Tail es logged.closed.history) (so : IsSo names logs labels are es) where
  abbrev s : State
  s = state_so names logs labels are es

  pub ready_note : (n k : ℕ) (note : Note) → n ≢ reactor_lane names.script →
      IsNoted names logs labels are (reactor_within names well logs labels logged are) es n k note →
      is_past (phase_at s.context note.op) ≡ false → IsReadyWith (phase_at s.context note.op) note.code note.size
  ready_note n k note away (inl is) isnt =
      let op =
      call_note_op names logs labels are (reactor_within names well logs labels logged are) well es
      (labelled_to names well logs labels logged are es tail) n k note away is in
      let called =
      called_before names well logs labels logged are es tail so is.number note.op n k is.away is.placed in
      let ready =
      stands_ready (phase_at s.context note.op)
      ((so.state.posted note.op).stands op.posts op.noted.unentered called.called) isnt in
      let with_code : note.code ≡ code.Ok = ap (λ (note : Note). note.code) is.called in
      let with_size : note.size ≡ 0 = ap (λ (note : Note). note.size) is.called in
      subst (λ given. IsReadyWith (phase_at s.context note.op) given note.size) (sym with_code)
      (subst (λ size. IsReadyWith (phase_at s.context note.op) code.Ok size) (sym with_size) ready)
  ready_note n k note away (inr is) isnt =
      told_ready note.code note.size _ (phase_at s.context note.op)
      (so.dates.told note.op note.code note.size _
      (made_shown labels es (reactor_lane names.script) (event.Done note.op note.code note.size) change.Same is.found is.told)) isnt
