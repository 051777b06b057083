-- What tasks get of a context at rest, one after another.
use Rattle.std.proofs.Common.{Option, Some, None, refl, sym, subst, ◌∙◌}
use Rattle.session_script.specs.Script.{ScriptModel}
use Rattle.lane_clock.proofs.KeepLemmas.{start_same, start_trans}
use Rattle.lane_logs.specs.AtRest.{FoundNoneFrom}
use Rattle.lane_logs.specs.SeatNumbers.{opener_seat}
use Rattle.lane_turns.specs.AtRest.{HasOnlyLooked, RestView, rest_lists}
use Rattle.lane_context.proofs.RestLemmas.{looked_start, none_stays}
use Rattle.op_future.specs.declared.task_end.TaskEnd.{TaskEnd}
use Rattle.op_future.specs.Gathering.{EndsAtRest, HasGotAtRest, RestsOn, WantsUnfound}
use Rattle.op_future.specs.Tasks.{TaskState}
use Rattle.op_future.proofs.GotLemmas.{from_more, from_on}

module _ (script : ScriptModel) where
  pub rests_still : (rest : RestView) → RestsOn script rest rest
  rests_still rest = record { more = start_same _ _ refl; workers = refl; since = refl }

  pub rests_on : (a b c : RestView) → RestsOn script a b → RestsOn script b c → RestsOn script a c
  rests_on a b c first second =
      record {
        more = start_trans _ _ _ first.more second.more;
        workers = second.workers ∙ first.workers;
        since = second.since ∙ first.since;
      }

  pub looked_on : (a b : RestView) → HasOnlyLooked script a b → RestsOn script a b
  looked_on a b looked =
      record {
        more = looked_start script a b looked (opener_seat script);
        workers = looked.workers;
        since = looked.since;
      }

  -- what was got and what wasn't found stays so
  pub got_still : (a b : RestView) (old new : TaskState) → RestsOn script a b → HasGotAtRest script a old new →
      HasGotAtRest script b old new
  got_still a b old new on got =
      from_more script (rest_lists a (opener_seat script)) (rest_lists b (opener_seat script)) old new on.more got

  pub got_behind : (a b : RestView) (x y z : TaskState) → RestsOn script a b → HasGotAtRest script a x y →
      HasGotAtRest script b y z → HasGotAtRest script b x z
  got_behind a b x y z on first second =
      from_on script (rest_lists a (opener_seat script)) (rest_lists b (opener_seat script)) x y z on.more first second

  unfound_still : (a b : RestView) (task : TaskState) → RestsOn script a b → WantsUnfound script a task →
      WantsUnfound script b task
  unfound_still a b task on wants =
      record {
        op = wants.op;
        wants = wants.wants;
        fits = wants.fits;
        none =
            subst (λ since. FoundNoneFrom script (rest_lists b) since wants.op) (sym on.since)
            (none_stays script (rest_lists a) (rest_lists b) a.since wants.op on.more wants.none);
      }

  pub ends_still : (a b : RestView) (now : Option TaskEnd) (task : TaskState) → RestsOn script a b →
      EndsAtRest script a now task → EndsAtRest script b now task
  ends_still a b (Some now) task on ends = ends
  ends_still a b None task on ends = unfound_still a b task on ends
