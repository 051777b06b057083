-- What members of a room are told.
use Rattle.std.specs.Prelude.{◌≡◌, ◌==◌, ◌&&◌, ◌||◌, ℕ, Bool, List, [], ◌∷◌, ◌++◌, length, nat_lt, not, codes}
use Rattle.std.specs.List.{list_all, before_first, after_first}
use Rattle.chat_handlers.specs.Lines.{AreLines, BeginsWithNone, ended, without_return}

-- what a member says by a line, and by several
abbrev pub said_line : List ℕ → List ℕ → List ℕ
said_line name line = name ++ codes ": " ++ without_return line ++ codes "\n"

abbrev pub said : List ℕ → List (List ℕ) → List ℕ
said name [] = []
said name (line ∷ lines) = said_line name line ++ said name lines

abbrev pub joined_line : List ℕ → List ℕ
joined_line name = codes "* " ++ name ++ codes " joined\n"

abbrev pub left_line : List ℕ → List ℕ
left_line name = codes "* " ++ name ++ codes " left\n"

-- this text is what a member says by all lines of these bytes, and this rest is behind them
pub record IsCut (name bytes text rest : List ℕ) : Type 0 where
  pub lines : List (List ℕ)
  pub are_lines : AreLines lines
  pub parts : bytes ≡ ended lines ++ rest
  pub none_left : BeginsWithNone rest
  pub is_said : text ≡ said name lines

-- it is appended to this text
pub record IsSaid (name bytes old new rest : List ℕ) : Type 0 where
  pub says : List ℕ
  pub cut : IsCut name bytes says rest
  pub appended : new ≡ old ++ says

abbrev pub is_between : ℕ → ℕ → ℕ → Bool
is_between low high byte = not (nat_lt byte low) && not (nat_lt high byte)

-- letters, digits, hyphens and underscores
abbrev pub is_word_byte : ℕ → Bool
is_word_byte byte = is_between 97 122 byte || is_between 65 90 byte || is_between 48 57 byte || byte == 45 || byte == 95

-- so many of them at most, and one at least
abbrev pub most_word : ℕ
most_word = 32

abbrev pub is_word : List ℕ → Bool
is_word word = not (length word == 0) && not (nat_lt most_word (length word)) && list_all is_word_byte word

abbrev pub is_blank : ℕ → Bool
is_blank byte = byte == 32

-- a first line: the words of a room and of a client, with a blank between
abbrev pub room_of : List ℕ → List ℕ
room_of line = before_first is_blank line

abbrev pub name_of : List ℕ → List ℕ
name_of line = after_first is_blank line

abbrev pub is_asked : List ℕ → Bool
is_asked line = is_word (room_of line) && is_word (name_of line)
