-- How the words of a line are read, one after another.
use Rattle.std.specs.Borrow.{Bor}
use Rattle.std.specs.Prelude.{◌≡◌, ℕ, List, [], ◌∷◌, Option, Some, None, Result, Ok, Err, if◌then◌else◌, codes}
use Rattle.std.specs.List.{join_with_byte}
use Rattle.std.specs.Str.{bytes_eq}
use Rattle.run_lines.specs.declared.bad_line.BadLine.{BadLine}
use Rattle.run_lines.specs.declared.bad_line.Wants.{Wants}
use Rattle.run_lines.specs.declared.bad_line.Wants.TheVariants as wants
use Rattle.run_lines.specs.declared.code.Code.{Code}
use Rattle.run_lines.specs.declared.code.Code.TheVariants as code
use Rattle.run_lines.specs.declared.line.Doing.{Doing}
use Rattle.run_lines.specs.declared.line.Doing.TheVariants as doing
use Rattle.run_lines.specs.declared.name.Kind.{Kind}
use Rattle.run_lines.specs.declared.name.Kind.TheVariants as kind
use Rattle.run_lines.specs.declared.name.Name.{Name}
use Rattle.run_lines.specs.declared.verb.Verb.{Verb}
use Rattle.run_lines.specs.declared.verb.Verb.TheVariants as verb
use Rattle.run_lines.specs.declared.word.Word.{Word}
use Rattle.run_lines.specs.declared.word.Word.TheVariants as word
use Rattle.run_lines.specs.declared.words.Words.{Words}
use Rattle.run_lines.specs.BadLine.{wrong}
use Rattle.run_lines.specs.Entry.{PlainEntry, line, name}
use Rattle.run_lines.specs.Letters.{are_letters}
use Rattle.run_lines.specs.Name.{is_text}
use Rattle.run_lines.specs.Number.{number_in}
use Rattle.run_lines.specs.Words.{words_of}

-- the words of a line from some word on
abbrev pub Rest : Type 0
Rest = List (List ℕ)

infixl 10 ◌>>=◌
abbrev pub ◌>>=◌ : {A B : Type 0} → Result A BadLine → (A → Result B BadLine) → Result B BadLine
(Ok value) >>= f = f value
(Err bad) >>= f = Err bad

-- what the code answers is what reading gives
abbrev pub Agrees : {X Y : Type 0} → (X → Y) → Result X BadLine → Result Y BadLine → Type 0
Agrees view (Ok value) read = read ≡ Ok (view value)
Agrees view (Err bad) read = read ≡ Err bad

-- the same, with the words after it
abbrev pub Gives : {X : Type 0} → Result X BadLine → Rest → Result (X × Rest) BadLine → Type 0
Gives (Ok value) rest read = read ≡ Ok (value, rest)
Gives (Err bad) rest read = read ≡ Err bad

-- `-` for none, or a number
unfoldable pub optional_in : List ℕ → Option (Option ℕ)
optional_in bytes =
    if bytes_eq bytes (codes "-") then Some None
    else (elim (number_in bytes) [ Some number ↦ Some (Some number) | None ↦ None ])

unfoldable pub word_of : List ℕ → Word
word_of letters =
    if bytes_eq letters (codes "post") then word.Post
    else (if bytes_eq letters (codes "defer") then word.Defer
    else (if bytes_eq letters (codes "dispatch") then word.Dispatch
    else word.Other letters))

unfoldable pub code_of : List ℕ → Code
code_of letters =
    if bytes_eq letters (codes "ok") then code.Ok
    else (if bytes_eq letters (codes "aborted") then code.Aborted
    else code.Other letters)

abbrev pub word_in : List ℕ → Option Word
word_in bytes = if are_letters bytes then Some (word_of bytes) else None

abbrev pub code_in : List ℕ → Option Code
code_in bytes = if are_letters bytes then Some (code_of bytes) else None

unfoldable pub kind_in : List ℕ → Option Kind
kind_in bytes =
    if bytes_eq bytes (codes "strand") then Some kind.Strand
    else (if bytes_eq bytes (codes "thing") then Some kind.Thing
    else (if bytes_eq bytes (codes "op") then Some kind.Op
    else (if bytes_eq bytes (codes "thread") then Some kind.Thread
    else (if bytes_eq bytes (codes "context") then Some kind.Context
    else (if bytes_eq bytes (codes "lock") then Some kind.Lock
    else (if bytes_eq bytes (codes "mark") then Some kind.Mark
    else None))))))

unfoldable pub verb_in : List ℕ → Option Verb
verb_in bytes =
    if bytes_eq bytes (codes "call") then Some verb.Call
    else (if bytes_eq bytes (codes "back") then Some verb.Back
    else (if bytes_eq bytes (codes "done") then Some verb.Done
    else (if bytes_eq bytes (codes "begin") then Some verb.Begin
    else (if bytes_eq bytes (codes "end") then Some verb.End
    else (if bytes_eq bytes (codes "throw") then Some verb.Throw
    else (if bytes_eq bytes (codes "drop") then Some verb.Drop
    else (if bytes_eq bytes (codes "claim") then Some verb.Claim
    else (if bytes_eq bytes (codes "release") then Some verb.Release
    else (if bytes_eq bytes (codes "lock") then Some verb.Lock
    else (if bytes_eq bytes (codes "unlock") then Some verb.Unlock
    else (if bytes_eq bytes (codes "mark") then Some verb.Mark
    else (if bytes_eq bytes (codes "after") then Some verb.After
    else (if bytes_eq bytes (codes "cancel") then Some verb.Cancel
    else (if bytes_eq bytes (codes "work") then Some verb.Work
    else (if bytes_eq bytes (codes "stop") then Some verb.Stop
    else (if bytes_eq bytes (codes "restart") then Some verb.Restart
    else None))))))))))))))))

-- what a word says of what is wanted
abbrev pub found : {V : Type 0} → Wants → ℕ → Rest → Option V → Result (V × Rest) BadLine
found wanted at rest (Some value) = Ok (value, rest)
found wanted at rest None = Err (wrong at wanted)

abbrev pub value_at : {V : Type 0} → Wants → (List ℕ → Option V) → ℕ → Rest → Result (V × Rest) BadLine
value_at wanted parse at [] = Err (wrong at wanted)
value_at wanted parse at (bytes ∷ rest) = found wanted at rest (parse bytes)

unfoldable pub number_at : ℕ → Rest → Result (ℕ × Rest) BadLine
number_at at words = value_at wants.Number number_in at words

unfoldable pub optional_at : ℕ → Rest → Result (Option ℕ × Rest) BadLine
optional_at at words = value_at wants.NumberOrDash optional_in at words

unfoldable pub word_at : ℕ → Rest → Result (Word × Rest) BadLine
word_at at words = value_at wants.Letters word_in at words

unfoldable pub code_at : ℕ → Rest → Result (Code × Rest) BadLine
code_at at words = value_at wants.Letters code_in at words

unfoldable pub kind_at : ℕ → Rest → Result (Kind × Rest) BadLine
kind_at at words = value_at wants.Kind kind_in at words

unfoldable pub verb_at : ℕ → Rest → Result (Verb × Rest) BadLine
verb_at at words = value_at wants.Verb verb_in at words

-- nothing stands behind the last word
abbrev pub end_at : ℕ → Rest → Result (Unit {0}) BadLine
end_at at [] = Ok tt
end_at at (bytes ∷ rest) = Err (wrong at wants.Nothing)

-- a number alone
unfoldable pub one_in : Rest → Result ℕ BadLine
one_in words = do
  number ← number_at 3 words
  _ ← end_at 4 number.1
  Ok number.0

-- an operation, its code and its size
unfoldable pub outcome_in : Rest → Result (ℕ × Code × ℕ) BadLine
outcome_in words = do
  op ← number_at 3 words
  code ← code_at 4 op.1
  size ← number_at 5 code.1
  _ ← end_at 6 size.1
  Ok (op.0, code.0, size.0)

unfoldable pub call_in : Rest → Result Doing BadLine
call_in words = do
  op ← number_at 3 words
  word ← word_at 4 op.1
  context ← number_at 5 word.1
  strand ← optional_at 6 context.1
  thing ← optional_at 7 strand.1
  _ ← end_at 8 thing.1
  Ok (doing.Call op.0 word.0 context.0 strand.0 thing.0)

unfoldable pub doing_in : Verb → Rest → Result Doing BadLine
doing_in verb.Call words = call_in words
doing_in verb.Back words = one_in words >>= λ op. Ok (doing.Back op)
doing_in verb.Done words = outcome_in words >>= λ of. Ok (doing.Done of.0 of.1 of.2)
doing_in verb.Begin words = outcome_in words >>= λ of. Ok (doing.Begin of.0 of.1 of.2)
doing_in verb.End words = one_in words >>= λ op. Ok (doing.End op)
doing_in verb.Throw words = one_in words >>= λ op. Ok (doing.Throw op)
doing_in verb.Drop words = one_in words >>= λ op. Ok (doing.Drop op)
doing_in verb.Claim words = one_in words >>= λ thing. Ok (doing.Claim thing)
doing_in verb.Release words = one_in words >>= λ thing. Ok (doing.Release thing)
doing_in verb.Lock words = one_in words >>= λ lock. Ok (doing.Lock lock)
doing_in verb.Unlock words = one_in words >>= λ lock. Ok (doing.Unlock lock)
doing_in verb.Mark words = one_in words >>= λ mark. Ok (doing.Mark mark)
doing_in verb.After words = one_in words >>= λ mark. Ok (doing.After mark)
doing_in verb.Cancel words = one_in words >>= λ thing. Ok (doing.Cancel thing)
doing_in verb.Work words = one_in words >>= λ context. Ok (doing.Work context)
doing_in verb.Stop words = one_in words >>= λ context. Ok (doing.Stop context)
doing_in verb.Restart words = one_in words >>= λ context. Ok (doing.Restart context)

-- one number stands behind this verb
abbrev pub HasOne : Verb → Type 0
HasOne verb.Call = ⊥
HasOne verb.Done = ⊥
HasOne verb.Begin = ⊥
HasOne _ = Unit

-- the text of a name goes to the end of the line
abbrev pub text_at : ℕ → Rest → Result (List ℕ) BadLine
text_at at words =
    let text = join_with_byte 32 words in if is_text text then Ok text else Err (wrong at wants.Text)

-- what stands behind the word `name`
unfoldable pub name_in : Rest → Result PlainEntry BadLine
name_in words = do
  kind ← kind_at 2 words
  number ← number_at 3 kind.1
  text ← text_at 4 number.1
  Ok (name kind.0 number.0 text)

-- what stands behind a thread
unfoldable pub line_in : ℕ → Rest → Result PlainEntry BadLine
line_in thread words = do
  said ← verb_at 2 words
  does ← doing_in said.0 said.1
  Ok (line (record { thread = thread; does = does }))

unfoldable pub entry_in : Rest → Result PlainEntry BadLine
entry_in [] = Err (wrong 1 wants.Thread)
entry_in (first ∷ rest) =
    if bytes_eq first (codes "name") then name_in rest
    else (found wants.Thread 1 rest (number_in first) >>= λ thread. line_in thread.0 thread.1)

-- the words of what is left of a line
abbrev pub words_in : Option (Bor (List ℕ)) → Rest
words_in (Some bytes) = words_of bytes.now
words_in None = []

abbrev pub words_left : Words → Rest
words_left words = words_in words.rest

abbrev pub plain_name : Name → PlainEntry
plain_name given = name given.kind given.number given.text.now
