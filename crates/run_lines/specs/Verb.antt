-- The word that says what happened, behind the thread.
use Rattle.std.specs.Prelude.{ℕ, List, codes}
use Rattle.run_lines.specs.declared.verb.Verb.{Verb}
use Rattle.run_lines.specs.declared.verb.Verb.TheVariants as verb

abbrev pub verb_text : Verb → List ℕ
verb_text verb.Call = codes "call"
verb_text verb.Back = codes "back"
verb_text verb.Done = codes "done"
verb_text verb.Begin = codes "begin"
verb_text verb.End = codes "end"
verb_text verb.Throw = codes "throw"
verb_text verb.Drop = codes "drop"
verb_text verb.Claim = codes "claim"
verb_text verb.Release = codes "release"
verb_text verb.Lock = codes "lock"
verb_text verb.Unlock = codes "unlock"
verb_text verb.Mark = codes "mark"
verb_text verb.After = codes "after"
verb_text verb.Cancel = codes "cancel"
verb_text verb.Work = codes "work"
verb_text verb.Stop = codes "stop"
verb_text verb.Restart = codes "restart"
