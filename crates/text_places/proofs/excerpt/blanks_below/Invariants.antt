use Rattle.std.proofs.Common.{◌≡◌, take}
use Rattle.std.specs.Prelude.{map}
use Rattle.text_places.specs.Excerpt.{blank_of}
use Rattle.text_places.proofs.excerpt.blanks_below.Given as goal

abbrev pub invariant-loop-byte : goal.invariant-loop-byte
invariant-loop-byte l = l.below.items ≡ map blank_of (take l.byte-index l.bytes)
