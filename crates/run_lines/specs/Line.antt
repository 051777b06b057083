-- A line of a run, as text.
use Rattle.std.specs.Prelude.{ℕ, List, [], ◌∷◌, codes}
use Rattle.std.specs.Fmt.{decimal}
use Rattle.std.specs.List.{join_with_byte}
use Rattle.run_lines.specs.declared.line.Doing.{Doing}
use Rattle.run_lines.specs.declared.line.Doing.TheVariants as doing
use Rattle.run_lines.specs.declared.line.Line.{Line}
use Rattle.run_lines.specs.Code.{IsCode, code_text}
use Rattle.run_lines.specs.Number.{Is64, IsOptional, optional_text}
use Rattle.run_lines.specs.Word.{IsWord, word_text}

-- the words that say what happened
abbrev pub doing_words : Doing → List (List ℕ)
doing_words (doing.Call op word context strand thing) =
    codes "call" ∷ decimal op ∷ word_text word ∷ decimal context ∷ optional_text strand
    ∷ optional_text thing ∷ []
doing_words (doing.Back op) = codes "back" ∷ decimal op ∷ []
doing_words (doing.Done op code size) =
    codes "done" ∷ decimal op ∷ code_text code ∷ decimal size ∷ []
doing_words (doing.Begin op code size) =
    codes "begin" ∷ decimal op ∷ code_text code ∷ decimal size ∷ []
doing_words (doing.End op) = codes "end" ∷ decimal op ∷ []
doing_words (doing.Throw op) = codes "throw" ∷ decimal op ∷ []
doing_words (doing.Drop op) = codes "drop" ∷ decimal op ∷ []
doing_words (doing.Claim thing) = codes "claim" ∷ decimal thing ∷ []
doing_words (doing.Release thing) = codes "release" ∷ decimal thing ∷ []
doing_words (doing.Lock lock) = codes "lock" ∷ decimal lock ∷ []
doing_words (doing.Unlock lock) = codes "unlock" ∷ decimal lock ∷ []
doing_words (doing.Mark mark) = codes "mark" ∷ decimal mark ∷ []
doing_words (doing.After mark) = codes "after" ∷ decimal mark ∷ []
doing_words (doing.Cancel thing) = codes "cancel" ∷ decimal thing ∷ []
doing_words (doing.Work context) = codes "work" ∷ decimal context ∷ []
doing_words (doing.Stop context) = codes "stop" ∷ decimal context ∷ []
doing_words (doing.Restart context) = codes "restart" ∷ decimal context ∷ []

-- the numbers are below 2^64, and the words are letters
abbrev pub IsDoing : Doing → Type 0
IsDoing (doing.Call op word context strand thing) =
    Is64 op × IsWord word × Is64 context × IsOptional strand × IsOptional thing
IsDoing (doing.Back op) = Is64 op
IsDoing (doing.Done op code size) = Is64 op × IsCode code × Is64 size
IsDoing (doing.Begin op code size) = Is64 op × IsCode code × Is64 size
IsDoing (doing.End op) = Is64 op
IsDoing (doing.Throw op) = Is64 op
IsDoing (doing.Drop op) = Is64 op
IsDoing (doing.Claim thing) = Is64 thing
IsDoing (doing.Release thing) = Is64 thing
IsDoing (doing.Lock lock) = Is64 lock
IsDoing (doing.Unlock lock) = Is64 lock
IsDoing (doing.Mark mark) = Is64 mark
IsDoing (doing.After mark) = Is64 mark
IsDoing (doing.Cancel thing) = Is64 thing
IsDoing (doing.Work context) = Is64 context
IsDoing (doing.Stop context) = Is64 context
IsDoing (doing.Restart context) = Is64 context

abbrev pub IsLine : Line → Type 0
IsLine line = Is64 line.thread × IsDoing line.does

-- the text of a line, without the line feed at its end: its words, with one space between two
abbrev pub line_text : Line → List ℕ
line_text line = join_with_byte 32 (decimal line.thread ∷ doing_words line.does)
