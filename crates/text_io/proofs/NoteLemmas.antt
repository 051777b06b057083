-- A note that goes into a sink piece by piece.
use Rattle.std.proofs.Common.{ℕ, ◌≤◌, List, ◌++◌, length, take, Option, ap, ◌∙◌, arith, length-append}
use Rattle.std.specs.Prelude.{Result, Ok, Err, OnErr}
use Rattle.std.proofs.Math.Seq.{take-append-add}
use Rattle.std.proofs.lemmas.List.{length-take, take-append-le}
use Rattle.asio_types.specs.Sink.{Extends, ExtendsByPart}
use Rattle.asio_types.proofs.SinkLemmas.{extends_more}

-- a first part of a text is one of a longer text
pub part_of_more : (first second : Option (List ℕ)) (xs ys : List ℕ) → ExtendsByPart first xs second →
    ExtendsByPart first (xs ++ ys) second
part_of_more first second xs ys (piece, starts, part) =
    let short : length piece ≤ length xs = omega (arith, ap length starts, length-take (length piece) xs) in
    (piece, take-append-le (length piece) xs ys short ∙ starts, part)

-- a whole text, and then a first part of the next one
pub part_after : (first second third : Option (List ℕ)) (xs ys : List ℕ) → Extends first xs second →
    ExtendsByPart second ys third → ExtendsByPart first (xs ++ ys) third
part_after first second third xs ys whole (piece, starts, part) = (
  xs ++ piece,
  ap (λ n. take n (xs ++ ys)) (length-append xs piece) ∙ take-append-add xs ys (length piece)
      ∙ ap (λ zs. xs ++ zs) starts,
  extends_more first second third xs piece whole part,
)

-- what is said of an error, from what is said of it elsewhere
pub on_err : {X E P Q : Type 0} (r : Result X E) → OnErr r P → (P → Q) → OnErr r Q
on_err (Ok x) said more = tt
on_err (Err e) said more = more said

pub on_any : {X E P : Type 0} (r : Result X E) → P → OnErr r P
on_any (Ok x) said = tt
on_any (Err e) said = said

-- the first parts of three texts and a last one
pub cut_in_first : (a b : Option (List ℕ)) (x y z end : List ℕ) → ExtendsByPart a x b →
    ExtendsByPart a (x ++ y ++ z ++ end) b
cut_in_first a b x y z end part =
    part_of_more a b (x ++ y ++ z) end (part_of_more a b (x ++ y) z (part_of_more a b x y part))

pub cut_in_second : (a b c : Option (List ℕ)) (x y z end : List ℕ) → Extends a x b → ExtendsByPart b y c →
    ExtendsByPart a (x ++ y ++ z ++ end) c
cut_in_second a b c x y z end one part =
    part_of_more a c (x ++ y ++ z) end (part_of_more a c (x ++ y) z (part_after a b c x y one part))

pub cut_in_third : (a b c d : Option (List ℕ)) (x y z end : List ℕ) → Extends a x b → Extends b y c →
    ExtendsByPart c z d → ExtendsByPart a (x ++ y ++ z ++ end) d
cut_in_third a b c d x y z end one two part =
    part_of_more a d (x ++ y ++ z) end (part_after a c d (x ++ y) z (extends_more a b c x y one two) part)

pub cut_in_last : (a b c d e : Option (List ℕ)) (x y z end : List ℕ) → Extends a x b → Extends b y c → Extends c z d →
    ExtendsByPart d end e → ExtendsByPart a (x ++ y ++ z ++ end) e
cut_in_last a b c d e x y z end one two three part =
    part_after a d e (x ++ y ++ z) end (extends_more a c d (x ++ y) z (extends_more a b c x y one two) three) part
