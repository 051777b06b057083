use Rattle.std.proofs.Common.{string_bytes, map, arith, subst, sym}
use Rattle.text_io.proofs.WordLemmas.{map-one, no_form}
use Rattle.session_run.specs.Form.{IsForm}
use Rattle.session_run.proofs.FormLemmas.{map-three, map-two}
use Rattle.session_run.proofs.form.form_of.Goals as goal

pub returns-in-len1-clause-some : goal.returns-in-len1-clause-some
returns-in-len1-clause-some c form =
    let one =
    map-one string_bytes c.args.words.now c.word-item.result c.in-len1.len_at_least c.in-len1.len_below
    c.word-item.is in (
      λ same. subst (λ words. IsForm words form) (sym one) ((c.form_of_word.ensures.some form).0 same),
      λ is. (c.form_of_word.ensures.some form).1 (subst (λ words. IsForm words form) one is),
    )

pub returns-in-len1-clause-none : goal.returns-in-len1-clause-none
returns-in-len1-clause-none c =
    no_form (IsForm (map string_bytes c.args.words.now)) c.form_of_word.result (returns-in-len1-clause-some c)

pub returns-in-len2-clause-some : goal.returns-in-len2-clause-some
returns-in-len2-clause-some c form =
    let two = map-two string_bytes c.args.words.now c.word-item-then-words-lt3.result c.option-item.result
    (omega arith) (omega arith) c.word-item-then-words-lt3.is c.option-item.is in (
      λ same. subst (λ words. IsForm words form) (sym two) ((c.form_of_two.ensures.some form).0 same),
      λ is. (c.form_of_two.ensures.some form).1 (subst (λ words. IsForm words form) two is),
    )

pub returns-in-len2-clause-none : goal.returns-in-len2-clause-none
returns-in-len2-clause-none c =
    no_form (IsForm (map string_bytes c.args.words.now)) c.form_of_two.result (returns-in-len2-clause-some c)

pub returns-in-len3-clause-some : goal.returns-in-len3-clause-some
returns-in-len3-clause-some c form =
    let three = map-three string_bytes c.args.words.now c.word-item-then-words-lt4.result c.start-item.result
    c.size-item.result (omega arith) (omega arith) c.word-item-then-words-lt4.is c.start-item.is c.size-item.is in (
      λ same. subst (λ words. IsForm words form) (sym three) ((c.form_of_three.ensures.some form).0 same),
      λ is.
          (c.form_of_three.ensures.some form).1 (subst (λ words. IsForm words form) three is),
    )

pub returns-in-len3-clause-none : goal.returns-in-len3-clause-none
returns-in-len3-clause-none c =
    no_form (IsForm (map string_bytes c.args.words.now)) c.form_of_three.result (returns-in-len3-clause-some c)
