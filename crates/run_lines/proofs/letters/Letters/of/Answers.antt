use Rattle.std.proofs.Common.{replicate, rules, sym, length-take-le}
use Rattle.run_lines.specs.Letters.{IsLetters}
use Rattle.run_lines.proofs.LettersLemmas.{letters_short, held_fresh}
use Rattle.run_lines.proofs.letters.Letters.of.Goals as goal

is_letters : (c : goal.Else-not-are_letters) → IsLetters c.args.bytes.now
is_letters c = search rules

pub slice_bounds-held-end : goal.slice_bounds-held-end
slice_bounds-held-end c = letters_short c.args.bytes.now (is_letters c)

pub slice_bounds-copy_from_slice-end : goal.slice_bounds-copy_from_slice-end
slice_bounds-copy_from_slice-end c =
    sym (length-take-le _ (replicate 32 0) (letters_short c.args.bytes.now (search rules)))

pub copy_from_slice-requires : goal.copy_from_slice-requires
copy_from_slice-requires c =
    length-take-le _ (replicate 32 0) (letters_short c.args.bytes.now (search rules))

pub invariant_of-result : goal.invariant_of-result
invariant_of-result c =
    held_fresh c.args.bytes.now c.copy_from_slice.new.self (search rules) c.copy_from_slice.ensures.after
