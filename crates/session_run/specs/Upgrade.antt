-- What an upgrade writes.
use Rattle.std.specs.Prelude.{ℕ, List, [], ◌∷◌, ◌++◌}
use Rattle.session_script.specs.Script.{ScriptModel}
use Rattle.session_script.specs.Spelling.{spelling_of, upgraded}

-- the canonical text of the script in version 2, and one line feed
abbrev pub upgraded_text : ScriptModel → List ℕ
upgraded_text script = spelling_of (upgraded script) ++ 10 ∷ []
