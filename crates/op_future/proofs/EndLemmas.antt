-- How tasks end, by the history and by what they want.
use Rattle.std.proofs.Common.{◌≡◌, ℕ, true, List, Option, Some, None, length, sym, ap, subst, ◌∙◌}
use Rattle.std.specs.Prelude.{slice_get}
use Rattle.std.specs.Option.{unwrap_or}
use Rattle.asio_types.specs.declared.event.Event.{Event}
use Rattle.session_script.specs.Script.{ScriptModel}
use Rattle.lane_map.specs.LaneNumbers.{has_cell}
use Rattle.lane_logs.specs.AtRest.{FoundNoneFrom}
use Rattle.lane_turns.specs.AtRest.{RestView, rest_lists}
use Rattle.lane_turns.proofs.AllWorkersLemmas.{images_size, source_of}
use Rattle.history_merge.specs.Receipts.{IsAbsent}
use Rattle.op_future.specs.declared.task_end.TaskEnd.{TaskEnd}
use Rattle.op_future.specs.declared.task_end.TaskEnd.TheVariants as end
use Rattle.op_future.specs.Gathering.{AreEndsBy, AreGathered, EndsAtRest}
use Rattle.op_future.specs.Sessions.{AreEndsOf, IsEndOf, IsUnfoundEnd, WantsAbsent}
use Rattle.op_future.specs.Steps.{IsOver}
use Rattle.op_future.specs.Tasks.{TaskState}

module _ (script : ScriptModel) (events : List Event) where
  over_is : (now : TaskEnd) (task : TaskState) → IsOver script now task → IsEndOf script events task now
  over_is end.Done task is = is
  over_is (end.Unfit op) task is = is
  over_is end.Ended task is = absurd is
  over_is end.Stopped task is = absurd is
  over_is end.Fault task is = absurd is

  absent_is : (now : TaskEnd) (task : TaskState) → IsUnfoundEnd events now → WantsAbsent script events task →
      IsEndOf script events task now
  absent_is end.Done task by wants = absurd by
  absent_is (end.Unfit op) task by wants = absurd by
  absent_is end.Ended task by wants = (wants, by)
  absent_is end.Stopped task by wants = (wants, by)
  absent_is end.Fault task by wants = (wants, by)

  module _ (rest : RestView)
      (absent : (op : ℕ) → has_cell script op ≡ true → FoundNoneFrom script (rest_lists rest) rest.since op →
      IsAbsent script events op) (unfound : TaskEnd) (by : IsUnfoundEnd events unfound) where
    end_is : (found : Option TaskEnd) (task : TaskState) → EndsAtRest script rest found task →
        IsEndOf script events task (unwrap_or found unfound)
    end_is (Some now) task ends = over_is now task ends
    end_is None task ends =
        absent_is unfound task by
        (record {
          op = ends.op;
          wants = ends.wants;
          fits = ends.fits;
          absent = absent ends.op ends.fits ends.none;
        })

  pub are_ends : (rest : RestView) (tasks tasks_now : List TaskState) (found : List (Option TaskEnd))
      (ends : List TaskEnd) → AreGathered script rest tasks tasks_now found → AreEndsBy events found ends →
      ((op : ℕ) → has_cell script op ≡ true → FoundNoneFrom script (rest_lists rest) rest.since op →
      IsAbsent script events op) → AreEndsOf script events tasks_now ends
  are_ends rest tasks tasks_now found ends gathered by absent =
      record {
        count =
            ap length by.each ∙ images_size (λ now. unwrap_or now by.unfound) found ∙ gathered.count
            ∙ sym gathered.size;
        each =
            λ k task now at is.
            let from =
            source_of (λ now. unwrap_or now by.unfound) found k now (ap (λ xs. slice_get xs k) (sym by.each) ∙ is) in
            subst (λ now. IsEndOf script events task now) from.is
            (end_is rest absent by.unfound by.by_history from.source task
            (gathered.ended k from.source task from.at at));
      }
