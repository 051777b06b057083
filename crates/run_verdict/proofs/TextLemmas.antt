-- What several writes, one after another, have written.
use Rattle.std.proofs.Common.{ℕ, List, ◌++◌, Option}
use Rattle.std.specs.Prelude.{IfOk, OnOk, Result, Ok, Err}
use Rattle.asio_types.specs.Sink.{Extends}
use Rattle.asio_types.proofs.SinkLemmas.{extends_more}
use Rattle.asio_types.specs.declared.failure.Failed.{Failed}

-- one write more, which may fail
pub more_if : (answer : Result (Unit {0}) Failed) (first second third : Option (List ℕ)) (xs ys : List ℕ)
    → Extends first xs second → IfOk answer (λ _. Extends second ys third) → OnOk answer (Extends first (xs ++ ys) third)
more_if (Ok done) first second third xs ys before last = extends_more first second third xs ys before last
more_if (Err failed) first second third xs ys before last = tt

pub more_on : (answer : Result (Unit {0}) Failed) (first second third : Option (List ℕ)) (xs ys : List ℕ)
    → Extends first xs second → OnOk answer (Extends second ys third) → OnOk answer (Extends first (xs ++ ys) third)
more_on (Ok done) first second third xs ys before last = extends_more first second third xs ys before last
more_on (Err failed) first second third xs ys before last = tt

-- with these words
pub some_words : (answer : Result (Unit {0}) Failed) (words : List ℕ) (text : List ℕ → List ℕ) (before after : Option (List ℕ))
    → OnOk answer (Extends before (text words) after)
    → OnOk answer ((w : List ℕ) × Extends before (text w) after)
some_words (Ok done) words text before after written = (words, written)
some_words (Err failed) words text before after written = tt
