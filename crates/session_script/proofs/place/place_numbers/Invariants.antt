use Rattle.std.proofs.Common.{◌≡◌, take, length, map}
use Rattle.session_script.specs.Groups.{place_number}
use Rattle.session_script.proofs.place.place_numbers.Given as goal

abbrev pub invariant-loop-entry : goal.invariant-loop-entry
invariant-loop-entry l =
    l.numbers.items ≡ map (λ entry. place_number (length l.acts) entry.parent) (take l.entry-index l.acts)
