-- How far chains come before a line.
use Rattle.std.specs.List.{Contains}
use Rattle.run_forced.specs.declared.clock.Clock.{Clock}
use Rattle.run_forced.specs.declared.clock.Seen.{Seen}

abbrev pub names : Clock → Seen → Type 0
names clock seen = Contains clock.all.items seen
