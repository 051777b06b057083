-- How many line feeds stand in one byte more.
use Rattle.std.proofs.Common.{◌≡◌, ◌≢◌, ℕ, ◌+◌, ◌<◌, ◌==◌, true, false, List, [], ◌∷◌, ◌++◌, length, take, get_or, refl, ap, ◌∙◌, arith}
use Rattle.std.proofs.lemmas.Bool.Decides.{nat_tests}
use Rattle.std.proofs.lemmas.List.{take_more}
use Rattle.text_places.specs.Lines.{line_feeds}

same_byte : (b : ℕ) → b ≡ 10 → (b == 10) ≡ true
same_byte b e = grind (arith, nat_tests)

other_byte : (b : ℕ) → b ≢ 10 → (b == 10) ≡ false
other_byte b e = grind (arith, nat_tests)

pub line_feeds-append : (front back : List ℕ) → line_feeds (front ++ back) ≡ line_feeds front + line_feeds back
line_feeds-append [] back = omega arith
line_feeds-append (b ∷ front) back = omega (arith, line_feeds-append front back)

pub line_feeds-more : (text : List ℕ) (i : ℕ) → i < length text →
    line_feeds (take (i + 1) text) ≡ line_feeds (take i text) + line_feeds (get_or text i 0 ∷ [])
line_feeds-more text i within =
    ap line_feeds (take_more text i 0 within) ∙ line_feeds-append (take i text) (get_or text i 0 ∷ [])

pub line_feed-same : (b : ℕ) → b ≡ 10 → line_feeds (b ∷ []) ≡ 1
line_feed-same b e = rw (same_byte b e) refl

pub line_feed-other : (b : ℕ) → b ≢ 10 → line_feeds (b ∷ []) ≡ 0
line_feed-other b e = rw (other_byte b e) refl
