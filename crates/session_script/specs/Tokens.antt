-- A text as the list of its tokens.
use Rattle.std.specs.Prelude.{ℕ, ◌+◌, Bool, false, not, ◌&&◌, ◌==◌, nat_le, List, [], ◌∷◌, ◌++◌, Option, Some, None, if◌then◌else◌}
use Rattle.std.specs.Str.{bytes_eq}
use Rattle.session_script.specs.declared.token.Position.{Position}
use Rattle.session_script.specs.declared.token.Token.{Token}
use Rattle.session_script.specs.declared.token.Cursor.{Cursor}

-- the tokens from some token on, each with its bytes and its line and number, and where the text
-- ends
pub data Tokens : Type 0 where
  end : Position → Tokens
  token : List ℕ → Position → Tokens → Tokens

-- a byte that may stand in a token
unfoldable pub is_printable : ℕ → Bool
is_printable b = nat_le 0x21 b && nat_le b 0x7E

-- the byte LF ends a line
abbrev pub line_after : ℕ → ℕ → ℕ
line_after line b = if b == 10 then line + 1 else line

-- where the token stands that comes after so many
abbrev pub position_of : ℕ → ℕ → Position
position_of line count = record { line = line; token = count + 1 }

-- a run of bytes is a token, unless it is empty
abbrev pub closed : ℕ → ℕ → List ℕ → (ℕ → Tokens) → Tokens
closed line count [] after = after count
closed line count (b ∷ run) after = token (b ∷ run) (position_of line count) (after (count + 1))

-- The tokens of the text that is left. It begins in this line, so many tokens are complete before
-- it, and this run of printable bytes stands right before it. A token is a longest run of printable
-- bytes.
unfoldable pub tokens_from : ℕ → ℕ → List ℕ → List ℕ → Tokens
tokens_from line count run [] = closed line count run (λ n. end (position_of line n))
tokens_from line count run (b ∷ text) =
    if is_printable b then tokens_from line count (run ++ b ∷ []) text
    else closed line count run (λ n. tokens_from (line_after line b) n [] text)

-- the tokens of a text
abbrev pub tokens_of : List ℕ → Tokens
tokens_of text = tokens_from 1 0 [] text

-- where the text ends: the position of the token that is missing there
abbrev pub end_of : Tokens → Position
end_of (end at) = at
end_of (token bytes at rest) = end_of rest

-- how many tokens are left
abbrev pub token_count : Tokens → ℕ
token_count (end at) = 0
token_count (token bytes at rest) = token_count rest + 1

-- whether the next token is this word
abbrev pub begins : List ℕ → Tokens → Bool
begins word (end at) = false
begins word (token bytes at rest) = bytes_eq bytes word

-- whether there is a next token, and it isn't this word
abbrev pub goes_on : List ℕ → Tokens → Bool
goes_on word (end at) = false
goes_on word (token bytes at rest) = not (bytes_eq bytes word)

-- what a cursor has before it
abbrev pub tokens_before : Option Token → Position → List ℕ → Tokens
tokens_before None before rest = end (position_of before.line before.token)
tokens_before (Some next) before rest =
    token next.bytes.now next.at (tokens_from before.line before.token [] rest)

unfoldable pub tokens_at : Cursor → Tokens
tokens_at cursor = tokens_before cursor.next cursor.before cursor.rest.now
