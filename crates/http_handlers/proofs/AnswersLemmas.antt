-- The text of the answer 200.
use Rattle.std.proofs.Common.{◌≡◌, List, ℕ, ◌++◌, refl, ap}
use Rattle.std.specs.Prelude.{codes, decimal}
use Rattle.http_handlers.specs.declared.answer.Answer.{Answer}
use Rattle.http_handlers.specs.declared.answer.Status.TheVariants as status
use Rattle.http_handlers.specs.Answers.{number_of, printed, text_of, with_text}

pub greeting_is : (answer : Answer) (number : List ℕ) → answer.status ≡ status.Ok →
    number ≡ decimal (number_of answer.served) →
    with_text answer (codes "hello, this is request " ++ number ++ codes " of this connection\n") ≡ printed answer
greeting_is answer number is text =
    let same : codes "hello, this is request " ++ number ++ codes " of this connection\n" ≡ text_of answer.status answer.served
    = rw (is, text) refl in
    ap (with_text answer) same
