-- What a scripted reactor is seen as.
use Rattle.std.specs.Prelude.{List, [], map}
use Rattle.stream_rules.specs.World.{lines_after}
use Rattle.reactor_trait.specs.Reactor.{ReactorState, Outside, idle_state}
use Rattle.stream_rules.specs.Timetable.{Timetable}
use Rattle.reactor_script.specs.declared.method.FailAt.{FailAt}
use Rattle.stream_rules.specs.declared.pipe.Pipe.{Pipe}
use Rattle.reactor_script.specs.declared.plans.FailPlans.{FailPlans}
use Rattle.stream_rules.specs.Pipes.{pipe_stream}
use Rattle.reactor_script.specs.Plans.{Plans, first_plans}

-- a world that is played
pub record Scene : Type 0 where
  pub state : ReactorState
  pub outside : Outside

-- a scripted reactor: its world, and which calls fail
pub record Scripted : Type 0 where
  pub state : ReactorState
  pub outside : Outside
  pub plans : Plans

-- the streams of a world and the lines to come
abbrev pub outside_over : Timetable → List Pipe → Outside
outside_over table pipes =
    record { streams = map pipe_stream pipes; lines = lines_after table.time table.lines }

abbrev pub plans_of : FailPlans → Plans
plans_of plans =
    record {
      set_up = plans.set_up;
      advance = plans.advance;
      read_some = plans.read_some;
      write_some = plans.write_some;
    }

-- no world was set up
abbrev pub idle_outside : Outside
idle_outside = record { streams = []; lines = [] }

-- made to fail at these calls, and never called
abbrev pub new_script : List FailAt → Scripted
new_script fails = record { state = idle_state; outside = idle_outside; plans = first_plans fails }
