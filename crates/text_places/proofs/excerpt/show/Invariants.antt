use Rattle.std.proofs.Common.{◌≡◌, ◌++◌, take}
use Rattle.std.specs.Prelude.{map}
use Rattle.text_places.specs.Excerpt.{shown_of}
use Rattle.text_places.proofs.excerpt.show.Given as goal

abbrev pub invariant-loop-byte : goal.invariant-loop-byte
invariant-loop-byte l = l.shown.items ≡ l.initial.shown.items ++ map shown_of (take l.byte-index l.bytes)
