use Rattle.std.proofs.Common.{◌≡◌, length, replicate}
use Rattle.turn_table.specs.declared.place.TablePlace.TheVariants.{Empty}
use Rattle.turn_table.proofs.make.pick_up.Given as goal

abbrev pub invariant-loop-place : goal.invariant-loop-place
invariant-loop-place g l = l.places.items ≡ replicate (length l.places.items) Empty

abbrev pub decreases-loop-place : goal.decreases-loop-place
decreases-loop-place g l = length l.places.items
