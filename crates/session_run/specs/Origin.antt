-- Where a session has its script from.
use Rattle.std.specs.Prelude.{◌≡◌, List, ℕ}
use Rattle.session_script.specs.Grammar.{IsScript}
use Rattle.session_script.specs.Limits.{most_read}
use Rattle.session_script.specs.Script.{ScriptModel}
use Rattle.generated_session.specs.Generator.{generated}
use Rattle.session_run.specs.declared.form.Form.{Form}
use Rattle.session_run.specs.declared.form.Form.TheVariants as forms
use Rattle.text_io.specs.Seen.{Seen}
use Rattle.text_io.specs.Text.{ReadsText}

-- it was read from the source
pub record IsRead (source : Seen (List ℕ)) (script : ScriptModel) : Type 0 where
  pub text : List ℕ
  pub read : ReadsText most_read source.told_before text source.told_after
  pub is : IsScript text script

-- it is the one that the numbers make, or was read
abbrev pub HasOrigin : Form → Seen (List ℕ) → ScriptModel → Type 0
HasOrigin (forms.Gen start size) source script = script ≡ generated start size
HasOrigin _ source script = IsRead source script
