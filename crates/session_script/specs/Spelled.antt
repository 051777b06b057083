-- A script by the grammar as it is written, apart from how it is read.
use Rattle.std.specs.Prelude.{◌≡◌, ℕ, ◌≤◌, List, length}
use Rattle.session_script.specs.Script.{ScriptModel}
use Rattle.session_script.specs.Tokens.{tokens_of}
use Rattle.session_script.specs.Limits.{most_bytes}
use Rattle.session_script.specs.Grammar.{text_len}
use Rattle.session_script.specs.Text.{words_of, IsScriptText}
use Rattle.session_script.specs.WellFormed.{IsWellFormed}

-- The bytes aren't too many, each may stand in a script, and their words spell this script, which
-- is within its limits.
pub record SpellsScript (bytes : List ℕ) (script : ScriptModel) : Type 0 where
  pub size : length bytes ≤ most_bytes
  pub text : text_len bytes ≡ length bytes
  pub words : IsScriptText script (words_of (tokens_of bytes))
  pub limits : IsWellFormed script
