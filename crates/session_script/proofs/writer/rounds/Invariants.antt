use Rattle.std.proofs.Common.{◌≡◌, drop}
use Rattle.std.specs.List.{flat_map}
use Rattle.session_script.specs.Spelling.{written, round_words}
use Rattle.session_script.proofs.writer.rounds.Given as goal

abbrev pub invariant-loop-next : goal.invariant-loop-next
invariant-loop-next l =
    written l.out.items (flat_map round_words (drop l.next-index l.rounds))
    ≡ written l.fn.out.items (flat_map round_words l.rounds)
