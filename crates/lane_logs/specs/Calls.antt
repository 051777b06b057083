-- The calls of `open`, none of which executes inside its call, and whose acts are called (Asio reference, asio::post).
use Rattle.std.specs.Prelude.{ℕ, List, [], ◌∷◌, ◌<◌, length}
use Rattle.strand_core.specs.declared.posted.Posted.{Posted}
use Rattle.strand_core.specs.declared.posted.Posted.TheVariants as posted
use Rattle.session_script.specs.Script.{ScriptModel}

-- acts are called one after another
abbrev pub called_each : List ℕ → List Posted
called_each [] = []
called_each (act ∷ acts) = posted.Call act ∷ posted.Back act ∷ called_each acts

-- the acts that are called are acts of the script
abbrev pub CallsActs : ScriptModel → List Posted → Type 0
CallsActs script [] = Unit {0}
CallsActs script (posted.Begin op code size begun ∷ calls) = CallsActs script calls
CallsActs script (posted.Call act ∷ calls) = (act < length script.acts) × CallsActs script calls
CallsActs script (posted.Back act ∷ calls) = CallsActs script calls
CallsActs script (posted.End op ran ∷ calls) = CallsActs script calls
