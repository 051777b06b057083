-- Which groups there are: the limits are those of version 2 of a script, and of 1 to 16 members.
use Rattle.std.specs.Prelude.{ℕ, ◌≤◌, ◌<◌, All, [], length}
use Rattle.asio_types.specs.declared.world.Line.{Line}
use Rattle.asio_types.specs.declared.world.What.{What}
use Rattle.session_script.specs.Limits.{limits_of, most_bytes}
use Rattle.session_script.specs.Spelling.{spelling_of}
use Rattle.session_script.specs.Script.{ScriptModel}
use Rattle.session_script.specs.WellFormed.{FitsLine, FitsWhat, IsSize, header_of}
use Rattle.group_script.specs.declared.member.Member.{Member}
use Rattle.group_script.specs.declared.member.Member.TheVariants as member
use Rattle.group_script.specs.declared.member.GroupFault.{GroupFault}
use Rattle.group_script.specs.declared.member.GroupFault.TheVariants as fault
use Rattle.group_script.specs.Group.{Group, script_of}

-- the members of a group
abbrev pub most_members : ℕ
most_members = 16

-- a session of version 2 with so many streams, by which lines are judged
abbrev pub session_with : ℕ → ScriptModel
session_with streams = record {
  version = 2;
  strands = 1;
  timers = 0;
  slots = 0;
  guards = 0;
  acts = [];
  world = record { streams = streams; lines = [] };
  rounds = [];
}

abbrev pub FitsWorldWhat : ℕ → What → Type 0
FitsWorldWhat streams what = FitsWhat (header_of (session_with streams)) what

abbrev pub FitsWorldLine : ℕ → Line → Type 0
FitsWorldLine streams line = FitsLine (header_of (session_with streams)) line

-- a wait is no longer than a time may be, and a read names a stream and is of an allowed size
abbrev pub FitsMember : ℕ → Member → Type 0
FitsMember streams (member.Wait after) = after ≤ (limits_of 2).time
FitsMember streams (member.Read stream size) =
    (stream < streams) × IsSize (limits_of 2).size size

-- its numbers and lines are within the limits
pub record FitsGroup (g : Group) : Type 0 where
  pub members : IsSize most_members (length g.members)
  pub each : All (FitsMember g.world.streams) g.members
  pub types : g.types ≤ 7
  pub workers : IsSize (limits_of 2).workers g.workers
  pub streams : g.world.streams ≤ (limits_of 2).streams
  pub line_count : length g.world.lines ≤ (limits_of 2).lines
  pub lines : All (FitsWorldLine g.world.streams) g.world.lines

-- and so is the text of its script
pub record IsGroup (g : Group) : Type 0 where
  pub fits : FitsGroup g
  pub size : length (spelling_of (script_of g)) ≤ most_bytes

-- when each fault may come; want of memory is free
abbrev pub Refuses : GroupFault → Group → Type 0
Refuses fault.Limit g = IsGroup g → ⊥
Refuses fault.Failed g = ⊥
Refuses fault.NoMemory g = Unit {0}
