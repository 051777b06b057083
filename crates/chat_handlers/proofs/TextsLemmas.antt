-- What a member says, line by line.
use Rattle.std.proofs.Common.{ℕ, List, [], ◌∷◌, ◌++◌, refl, ap, sym, ◌∙◌, append_assoc, append-nil}
use Rattle.chat_handlers.specs.Lines.{BeginsWith, BeginsWithNone, ended}
use Rattle.chat_handlers.specs.Texts.{IsSaid, said_line}

pub says_none : (name bytes text : List ℕ) → BeginsWithNone bytes → IsSaid name bytes text text bytes
says_none name bytes text none = record {
  says = [];
  cut = record { lines = []; are_lines = tt; parts = refl; none_left = none; is_said = refl };
  appended = sym (append-nil text);
}

pub says_first : (name bytes line behind text final rest : List ℕ) → BeginsWith bytes line behind →
    IsSaid name behind (text ++ said_line name line) final rest → IsSaid name bytes text final rest
says_first name bytes line behind text final rest first later = record {
  says = said_line name line ++ later.says;
  cut = record {
    lines = line ∷ later.cut.lines;
    are_lines = (first.is_line, later.cut.are_lines);
    parts = first.parts ∙ ap (λ xs. line ++ 10 ∷ xs) later.cut.parts
        ∙ sym (append_assoc line (10 ∷ ended later.cut.lines) rest);
    none_left = later.cut.none_left;
    is_said = ap (λ xs. said_line name line ++ xs) later.cut.is_said;
  };
  appended = later.appended ∙ append_assoc text (said_line name line) later.says;
}
