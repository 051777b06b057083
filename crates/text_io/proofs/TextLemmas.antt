-- A buffer that is filled from a source, piece by piece.
use Rattle.std.proofs.Common.{◌≡◌, ℕ, zero, suc, ◌+◌, ◌-◌, ◌≤◌, List, [], ◌∷◌, ◌++◌, length, take, drop, refl, arith, ap, sym, zero-add, ◌∙◌}
use Rattle.std.specs.Prelude.{Option, Some, None, MatchOption, ⊤}
use Rattle.std.proofs.lemmas.List.{drop-drop, length-drop, length-take-le, take_all}
use Rattle.std.proofs.lemmas.Slice.{take-put_mid, take-put_mid_below}
use Rattle.std.proofs.Math.ListN.{drop_of_length-le}
use Rattle.std.proofs.Math.Seq.{take-append-add, take-nil, drop-nil}
use borrow.Rule.Slice.PartMut.{put_mid}
use Rattle.asio_types.specs.Source.{GivesNext, IsNextPart, LosesFirst}
use Rattle.text_io.specs.Text.{ReadsText}

-- what was read so far, where the source tells its bytes
abbrev pub IsFilled : Option (List ℕ) → ℕ → List ℕ → Option (List ℕ) → Type 0
IsFilled told len buf now =
    MatchOption told ⊤ (λ before. (len ≤ length before) × (take len buf ≡ take len before) × (now ≡ Some (drop len before)))

-- nothing was read yet
pub filled_none : (told : Option (List ℕ)) (buf : List ℕ) → IsFilled told 0 buf told
filled_none None buf = tt
filled_none (Some before) buf = (omega arith, refl, refl)

take-add : (a n : ℕ) (xs : List ℕ) → take (a + n) xs ≡ take a xs ++ take n (drop a xs)
take-add zero n xs = ap (λ k. take k xs) (zero-add n)
take-add (suc a) n [] = simp (take-nil, drop-nil) refl
take-add (suc a) n (x ∷ xs) =
    let e : suc a + n ≡ suc (a + n) = omega arith in ap (λ k. take k (x ∷ xs)) e ∙ ap (λ ys. x ∷ ys) (take-add a n xs)

is_next : (o : Option (List ℕ)) (rest : List ℕ) (n : ℕ) (buf : List ℕ) → o ≡ Some rest → GivesNext o n buf →
    IsNextPart rest n buf
is_next None rest n buf same next = cc same
is_next (Some left) rest n buf same next = let e : left ≡ rest = cc in rw (← e) next

lost : (o after : Option (List ℕ)) (rest : List ℕ) (n : ℕ) → o ≡ Some rest → LosesFirst o n after →
    after ≡ Some (drop n rest)
lost None after rest n same lose = cc same
lost (Some left) None rest n same lose = absurd lose
lost (Some left) (Some more) rest n same lose = let e : left ≡ rest = cc in ap Some (lose ∙ ap (drop n) e)

-- a shorter front of a front
take_take : (n m : ℕ) (xs : List ℕ) → n ≤ m → take n (take m xs) ≡ take n xs
take_take zero m xs below = refl
take_take (suc n) zero xs below = absurd (omega (arith, below))
take_take (suc n) (suc m) [] below = refl
take_take (suc n) (suc m) (x ∷ xs) below = ap (λ ys. x ∷ ys) (take_take n m xs (omega (arith, below)))

-- one more read
pub filled_more : (told : Option (List ℕ)) (len n : ℕ) (buf ys : List ℕ) (now after : Option (List ℕ)) →
    IsFilled told len buf now → GivesNext now n ys → LosesFirst now n after → len ≤ length buf →
    length ys ≡ length buf - len → n ≤ length ys → IsFilled told (len + n) (put_mid len (length buf - len) buf ys) after
filled_more None len n buf ys now after filled next lose inside size bound = tt
filled_more (Some before) len n buf ys now after filled next lose inside size bound =
    let more = is_next now (drop len before) n ys filled.2 next in
    let there : n ≤ length before - len = simp length-drop at more.there in (
      omega (arith, there, filled.0),
      text more.same,
      lost now after (drop len before) n filled.2 lose ∙ ap Some (drop-drop n len before),
    )
  where
    whole : List ℕ
    whole = put_mid len (length buf - len) buf ys

    front : take (len + n) whole ≡ take len buf ++ take n ys
    front =
        sym (take_take (len + n) (len + length ys) whole (omega (arith, bound)))
        ∙ ap (take (len + n)) (take-put_mid len (length buf - len) buf ys (len + length ys) refl inside)
        ∙ ap (λ k. take (k + n) (take len buf ++ ys)) (sym (length-take-le len buf inside))
        ∙ take-append-add (take len buf) ys n

    text : take n ys ≡ take n (drop len before) → take (len + n) whole ≡ take (len + n) before
    text same =
        front ∙ ap (λ zs. zs ++ take n ys) filled.1 ∙ ap (λ zs. take len before ++ zs) same
        ∙ sym (take-add len n before)

-- the buffer is full
pub full : (most : ℕ) (told : Option (List ℕ)) (len : ℕ) (buf : List ℕ) (now : Option (List ℕ)) → len ≡ most →
    IsFilled told len buf now → ReadsText most told (take len buf) now
full most None len buf now same filled = tt
full most (Some before) len buf now same filled =
    (filled.1 ∙ ap (λ k. take k before) same, filled.2 ∙ ap (λ k. Some (drop k before)) same)

-- the source is at its end
pub at_end : (most : ℕ) (told : Option (List ℕ)) (len : ℕ) (buf ys : List ℕ) (now after : Option (List ℕ)) →
    IsFilled told len buf now → GivesNext now 0 ys → LosesFirst now 0 after → len ≤ length buf → len ≤ most →
    ReadsText most told (take len (put_mid len (length buf - len) buf ys)) after
at_end most None len buf ys now after filled next lose inside few = tt
at_end most (Some before) len buf ys now after filled next lose inside few = (
  take-put_mid_below len (length buf - len) buf ys len (omega arith) inside ∙ filled.1 ∙ take_all len before short
      ∙ sym (take_all most before (omega (arith, short, few))),
  lost now after (drop len before) 0 filled.2 lose
      ∙ ap Some (nothing ∙ sym (drop_of_length-le before {i = most} (omega (arith, short, few)))),
)
  where
    nothing : drop len before ≡ []
    nothing = (is_next now (drop len before) 0 ys filled.2 next).end.0 refl

    short : length before ≤ len
    short = omega (arith, simp length-drop at (ap length nothing))

-- the text of a source that told fewer bytes than are read is all of them
pub text_of : (most : ℕ) (told : Option (List ℕ)) (text : List ℕ) (after : Option (List ℕ)) (bytes : List ℕ) →
    told ≡ Some bytes → length bytes ≤ most → ReadsText most told text after → text ≡ bytes
text_of most None text after bytes same few read = cc same
text_of most (Some before) text after bytes same few read =
    let e : before ≡ bytes = cc in read.0 ∙ ap (take most) e ∙ take_all most bytes few
