-- What is read of a line is what it says.
use Rattle.std.proofs.Common.{◌≡◌, ℕ, List, Result, Ok, Err, IfOk, IfErr, MatchResult, sym, ap, subst, ◌∙◌}
use Rattle.std.proofs.lemmas.List.Splits.{join_with_byte-slice_split}
use Rattle.run_lines.specs.declared.bad_line.BadLine.{BadLine}
use Rattle.run_lines.specs.declared.entry.Entry.{Entry}
use Rattle.run_lines.specs.BadLine.{IsBadLine}
use Rattle.run_lines.specs.Entry.{IsEntryText, PlainEntry, plain}
use Rattle.run_lines.specs.Reading.{Agrees, entry_in}
use Rattle.run_lines.specs.Words.{words_of}
use Rattle.run_lines.proofs.BackLemmas.{entry_back}
use Rattle.run_lines.proofs.JudgedLemmas.{JudgedEntry, entry_judged}

pub read_is : (bytes : List ℕ) (r : Result Entry BadLine) → Agrees plain r (entry_in (words_of bytes)) →
    IfOk r (λ e. IsEntryText bytes (plain e))
read_is bytes (Ok e) agrees =
    let judged : JudgedEntry (words_of bytes) (Ok (plain e)) =
    subst (JudgedEntry (words_of bytes)) agrees (entry_judged (words_of bytes)) in
    (judged.0, sym (join_with_byte-slice_split 32 bytes) ∙ judged.1)
read_is bytes (Err bad) agrees = tt

pub bad_is : (bytes : List ℕ) (r : Result Entry BadLine) → Agrees plain r (entry_in (words_of bytes)) →
    IfErr r (IsBadLine (words_of bytes))
bad_is bytes (Ok e) agrees = tt
bad_is bytes (Err bad) agrees = subst (JudgedEntry (words_of bytes)) agrees (entry_judged (words_of bytes))

pub only_is : (bytes : List ℕ) (r : Result Entry BadLine) → Agrees plain r (entry_in (words_of bytes)) →
    (e : PlainEntry) → IsEntryText bytes e → MatchResult r (λ read. plain read ≡ e) (λ _. ⊥)
only_is bytes (Ok read) agrees e is =
    let back : entry_in (words_of bytes) ≡ Ok e = ap (λ b. entry_in (words_of b)) is.1 ∙ entry_back e is.0 in cc
only_is bytes (Err bad) agrees e is =
    let back : entry_in (words_of bytes) ≡ Ok e = ap (λ b. entry_in (words_of b)) is.1 ∙ entry_back e is.0 in cc
