use Rattle.std.proofs.Common.{[], ◌∷◌, arith, string_bytes}
use Rattle.text_io.proofs.WordLemmas.{map-one, no_form}
use Rattle.trace_show.specs.ShowForm.{IsShowForm}
use Rattle.trace_show.proofs.FormLemmas.{map-two}
use Rattle.trace_show.proofs.form.form_of.Goals as goal

pub returns-in-len1-clause-none : goal.returns-in-len1-clause-none
returns-in-len1-clause-none c =
    rw (map-one string_bytes c.args.words.now c.showing-item.result c.in-len1.len_at_least c.in-len1.len_below
    c.showing-item.is)
    (no_form (IsShowForm (string_bytes c.showing-item.result ∷ [])) c.form_of_word.result c.form_of_word.ensures)

pub returns-in-len2-clause-none : goal.returns-in-len2-clause-none
returns-in-len2-clause-none c =
    let first = c.showing-item-then-words-lt3 in
    rw (map-two string_bytes c.args.words.now first.result c.reactor-item.result (omega arith) (omega arith) first.is
    c.reactor-item.is)
    (no_form (IsShowForm (string_bytes first.result ∷ string_bytes c.reactor-item.result ∷ [])) c.form_of_words.result
    c.form_of_words.ensures)
