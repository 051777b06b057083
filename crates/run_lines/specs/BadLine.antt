-- Where bytes that are no line go wrong: at the first word that can't stand where it does.
use Rattle.std.specs.Prelude.{◌≡◌, ℕ, ◌+◌, ◌⊎◌, List, [], ◌∷◌, ◌++◌, Option, codes}
use Rattle.std.specs.Fmt.{decimal}
use Rattle.std.specs.List.{join_with_byte}
use Rattle.run_lines.specs.declared.bad_line.BadLine.{BadLine}
use Rattle.run_lines.specs.declared.bad_line.Wants.{Wants}
use Rattle.run_lines.specs.declared.bad_line.Wants.TheVariants as wants
use Rattle.run_lines.specs.declared.name.Kind.{Kind}
use Rattle.run_lines.specs.declared.verb.Verb.{Verb}
use Rattle.run_lines.specs.declared.verb.Verb.TheVariants as verb
use Rattle.run_lines.specs.Letters.{IsLetters}
use Rattle.run_lines.specs.Name.{IsText, kind_text}
use Rattle.run_lines.specs.Number.{Is64, IsOptional, optional_text}
use Rattle.run_lines.specs.Verb.{verb_text}

abbrev IsNumber : List ℕ → Type 0
IsNumber word = (number : ℕ) × Is64 number × (word ≡ decimal number)

-- what is wanted may be this word
abbrev pub MayBe : Wants → List ℕ → Type 0
MayBe wants.Thread word = IsNumber word ⊎ (word ≡ codes "name")
MayBe wants.Verb word = (verb : Verb) × (word ≡ verb_text verb)
MayBe wants.Number word = IsNumber word
MayBe wants.NumberOrDash word = (number : Option ℕ) × IsOptional number × (word ≡ optional_text number)
MayBe wants.Letters word = IsLetters word
MayBe wants.Kind word = (kind : Kind) × (word ≡ kind_text kind)
MayBe wants.Text word = IsText word
MayBe wants.Nothing word = ⊥

-- What is wanted stands at the front of these words, which are those to the end of the line. A text
-- goes to the end of the line.
abbrev pub StandsFirst : Wants → List (List ℕ) → Type 0
StandsFirst wants.Nothing words = words ≡ []
StandsFirst wants.Text words = IsText (join_with_byte 32 words)
StandsFirst wanted [] = ⊥
StandsFirst wanted (word ∷ words) = MayBe wanted word

-- what stands behind each verb
abbrev pub fields_of : Verb → List Wants
fields_of verb.Call =
    wants.Number ∷ wants.Letters ∷ wants.Number ∷ wants.NumberOrDash ∷ wants.NumberOrDash
    ∷ wants.Nothing ∷ []
fields_of verb.Done = wants.Number ∷ wants.Letters ∷ wants.Number ∷ wants.Nothing ∷ []
fields_of verb.Begin = wants.Number ∷ wants.Letters ∷ wants.Number ∷ wants.Nothing ∷ []
fields_of other = wants.Number ∷ wants.Nothing ∷ []

-- what stands behind the word `name`
abbrev pub name_fields : List Wants
name_fields = wants.Kind ∷ wants.Number ∷ wants.Text ∷ []

-- this word can't stand where it does, or is missing
abbrev pub wrong : ℕ → Wants → BadLine
wrong word wants = record { word = word; wants = wants }

-- Where these are wanted from the word with this number on, the words up to the bad one stand where
-- they may, and the bad one doesn't.
abbrev pub IsBadFrom : ℕ → List Wants → List (List ℕ) → BadLine → Type 0
IsBadFrom at [] words bad = ⊥
IsBadFrom at (wanted ∷ others) words bad =
    ((bad ≡ wrong at wanted) × (StandsFirst wanted words → ⊥))
    ⊎ ((word : List ℕ) × (rest : List (List ℕ)) × (words ≡ word ∷ rest) × MayBe wanted word
    × IsBadFrom (at + 1) others rest bad)

-- the words of a line go wrong there
abbrev pub IsBadLine : List (List ℕ) → BadLine → Type 0
IsBadLine words bad =
    IsBadFrom 1 (wants.Thread ∷ []) words bad
    ⊎ (((rest : List (List ℕ)) × (words ≡ codes "name" ∷ rest) × IsBadFrom 2 name_fields rest bad)
    ⊎ ((thread : List ℕ) × (rest : List (List ℕ)) × (words ≡ thread ∷ rest) × IsNumber thread
    × (IsBadFrom 2 (wants.Verb ∷ []) rest bad
    ⊎ ((verb : Verb) × (fields : List (List ℕ)) × (rest ≡ verb_text verb ∷ fields)
    × IsBadFrom 3 (fields_of verb) fields bad))))

-- what could stand there, in words
abbrev pub wants_text : Wants → List ℕ
wants_text wants.Thread = codes "the number of a thread, or name"
wants_text wants.Verb =
    codes "call, back, done, begin, end, throw, drop, claim, release, lock, unlock, mark, after, cancel, work, stop or restart"
wants_text wants.Number = codes "a number below 2^64"
wants_text wants.NumberOrDash = codes "a number below 2^64, or -"
wants_text wants.Letters = codes "a small letter and up to 31 small letters, digits and _"
wants_text wants.Kind = codes "strand, thing, op, thread, context, lock or mark"
wants_text wants.Text = codes "printable characters"
wants_text wants.Nothing = codes "the end of the line"

-- what is said of a bad line
abbrev pub bad_line_text : BadLine → List ℕ
bad_line_text bad = codes "word " ++ decimal bad.word ++ codes ": expected " ++ wants_text bad.wants
