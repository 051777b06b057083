-- How a history of steps goes on by one: the labels that were made of each number, and the state that the events leave.
use Rattle.std.proofs.Common.{◌≡◌, ◌≢◌, ℕ, suc, ◌+◌, Bool, List, [], ◌∷◌, ◌++◌, length, take, refl, ap, ◌∙◌, arith, length-append}
use Rattle.session_script.specs.Script.{ScriptModel}
use Rattle.history_rules.specs.Legal.{IsLegalFrom, IsLegalSoFar, MayHappen, after_event, state_from, state_of}
use Rattle.history_rules.specs.State.{State, first_state}
use Rattle.lane_clock.specs.declared.step.ClockStep.{ClockStep}
use Rattle.lane_clock.specs.History.{ClockEvent, steps_under}
use Rattle.lane_clock.proofs.KnownLemmas.{under_other, under_same}
use Rattle.lane_logs.specs.declared.log.LogEntry.{LogEntry}
use Rattle.lane_logs.specs.Labels.{Labelled, allots, entries_in, shows, silent}
use Rattle.lane_logs.proofs.LabelLemmas.{entries-append}
use Rattle.execution_laws.proofs.EventLemmas.{legal-append, state_from-append}
use Rattle.history_merge.proofs.CutLemmas.{take_next}
use Rattle.history_merge.proofs.HistoryLemmas.{IsLabelled, label_of, shown_by, shown_in}

module _ (script : ScriptModel) (told : Bool) where
  -- the state after a label
  abbrev pub state_with : Labelled → State → State
  state_with (silent step) s = s
  state_with (shows shown changes found) s = after_event script told s shown
  state_with (allots act lane place) s = s

  -- what a label shows may happen
  abbrev pub MayShow : Labelled → State → Type 0
  MayShow (silent step) s = Unit {0}
  MayShow (shows shown changes found) s = MayHappen script told s shown
  MayShow (allots act lane place) s = Unit {0}

  shown_state : (label : Labelled) (s : State) → state_from script told s (shown_by label) ≡ state_with label s
  shown_state (silent step) s = refl
  shown_state (shows shown changes found) s = refl
  shown_state (allots act lane place) s = refl

  label_legal : (label : Labelled) (s : State) → MayShow label s → IsLegalFrom script told s (shown_by label)
  label_legal (silent step) s may = tt
  label_legal (shows shown changes found) s may = (may, tt)
  label_legal (allots act lane place) s may = tt

  module _ (labels : ℕ → List Labelled) where
    -- the state that the events of a history leave
    abbrev pub state_at : List ClockEvent → State
    state_at es = state_of script told (shown_in labels es)

    pub state_next : (e : ClockEvent) (es : List ClockEvent) →
        state_at (e ∷ es) ≡ state_with (label_of labels es e) (state_at es)
    state_next e es =
        state_from-append script told (first_state script told) (state_at es)
        (state_from script told (state_at es) (shown_by (label_of labels es e))) (shown_in labels es)
        (shown_by (label_of labels es e)) refl refl
        ∙ shown_state (label_of labels es e) (state_at es)

    pub legal_next : (e : ClockEvent) (es : List ClockEvent) → IsLegalSoFar script told (shown_in labels es) →
        MayShow (label_of labels es e) (state_at es) → IsLegalSoFar script told (shown_in labels (e ∷ es))
    legal_next e es legal may =
        legal-append script told (first_state script told) (state_at es) (shown_in labels es)
        (shown_by (label_of labels es e)) legal refl (label_legal (label_of labels es e) (state_at es) may)

-- the labels of a number's steps so far
module _ (labels : ℕ → List Labelled) where
  abbrev pub made_so_far : List ClockEvent → ℕ → List Labelled
  made_so_far es n = take (length (steps_under n es)) (labels n)

  pub made_here : (e : ClockEvent) (es : List ClockEvent) → IsLabelled labels es e →
      made_so_far (e ∷ es) e.by ≡ made_so_far es e.by ++ label_of labels es e ∷ []
  made_here e es is =
      let count : length (steps_under e.by (e ∷ es)) ≡ suc (length (steps_under e.by es)) =
      ap length (under_same es e.by e.step)
      ∙ (length-append (steps_under e.by es) (e.step ∷ [])
      ∙ (let one : length (steps_under e.by es) + 1 ≡ suc (length (steps_under e.by es)) = omega arith in one)) in
      ap (λ k. take k (labels e.by)) count
      ∙ take_next (labels e.by) (length (steps_under e.by es)) (label_of labels es e) is.there

  pub made_other : (e : ClockEvent) (es : List ClockEvent) (n : ℕ) → n ≢ e.by → made_so_far (e ∷ es) n ≡ made_so_far es n
  made_other e es n other = ap (λ (steps : List ClockStep). take (length steps) (labels n)) (under_other es n e.by e.step other)

  -- so the entries of a number's log so far
  abbrev pub entries_so_far : List ClockEvent → ℕ → List LogEntry
  entries_so_far es n = entries_in (made_so_far es n)

  pub entries_here : (e : ClockEvent) (es : List ClockEvent) → IsLabelled labels es e →
      entries_so_far (e ∷ es) e.by ≡ entries_so_far es e.by ++ entries_in (label_of labels es e ∷ [])
  entries_here e es is =
      ap entries_in (made_here e es is) ∙ entries-append (made_so_far es e.by) (label_of labels es e ∷ [])
