use Rattle.std.proofs.Common.{[], ◌∷◌, string_bytes}
use Rattle.text_io.proofs.WordLemmas.{map-one, no_form}
use Rattle.trace_check.specs.Form.{IsCheckForm}
use Rattle.trace_check.proofs.form.form_of.Goals as goal

pub returns-in-len1-clause-none : goal.returns-in-len1-clause-none
returns-in-len1-clause-none c =
    rw (map-one string_bytes c.args.words.now c.word-item.result c.in-len1.len_at_least c.in-len1.len_below c.word-item.is)
    (no_form (IsCheckForm (string_bytes c.word-item.result ∷ [])) c.form_of_word.result c.form_of_word.ensures)
