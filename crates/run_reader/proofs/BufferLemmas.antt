-- Bytes that lie between two places of a list.
use Rattle.std.proofs.Common.{◌≡◌, ℕ, ◌+◌, ◌-◌, ◌≤◌, List, ◌++◌, length, take, drop, Option, Some, None, sym, ap, subst, ◌∙◌, arith, length-take-le, append_assoc, append-nil, add-zero}
use Rattle.std.proofs.Math.Seq.{paste, take-append_seam, take-append-add, take-length}
use Rattle.std.proofs.lemmas.List.{drop-append-le, drop-drop, drop-take, length-drop, take-append-drop, take-append-le, take-take}
use Rattle.asio_types.specs.Source.{GivesNext, KeepsLeft, LosesFirst}
use Rattle.run_reader.specs.Buffer.{IsAtEnd, KeepsText, Moves}

-- what is left of a front
front : (n m : ℕ) (xs : List ℕ) → n ≤ m → drop n (take m xs) ≡ take (m - n) (drop n xs)
front n m xs few =
    let whole : m ≡ n + (m - n) = omega arith in ap (λ k. drop n (take k xs)) whole ∙ drop-take n (m - n) xs

-- the first of them are let go
pub consumed : (start end n : ℕ) (items held : List ℕ) → take (end - start) (drop start items) ≡ held → start + n ≤ end →
    take (end - (start + n)) (drop (start + n) items) ≡ drop n held
consumed start end n items held is few =
    let left : end - (start + n) ≡ end - start - n = omega arith in
    ap (λ xs. take (end - (start + n)) xs) (sym (drop-drop n start items))
    ∙ ap (λ k. take k (drop n (drop start items))) left
    ∙ sym (front n (end - start) (drop start items) (omega arith))
    ∙ ap (drop n) is

-- they are moved to the front
pub fronted : (start end : ℕ) (items held : List ℕ) → take (end - start) (drop start items) ≡ held → start ≤ end →
    end ≤ length items → take (end - start) (paste items 0 (drop start items) (end - start)) ≡ held
fronted start end items held is few within =
    let n : ℕ = end - start in
    let part : List ℕ = take n (drop start items) in
    let long : length part ≡ n = length-take-le n (drop start items) (omega (arith, length-drop start items)) in
    ap (λ k. take k (part ++ drop (0 + n) items)) (sym long) ∙ take-append_seam part (drop (0 + n) items) ∙ is

-- more was written behind them
pub filled : (start end n : ℕ) (items buf rest held : List ℕ) → take (end - start) (drop start items) ≡ held → start ≤ end →
    end ≤ length items → n ≤ length buf →
    take (end + n - start) (drop start (take end items ++ buf ++ rest)) ≡ held ++ take n buf
filled start end n items buf rest held is few within read =
    let before : List ℕ = take end items in
    let long : length before ≡ end = length-take-le end items within in
    let written : take (end + n) (before ++ buf ++ rest) ≡ before ++ take n buf =
    ap (take (end + n)) (append_assoc before buf rest)
    ∙ ap (λ k. take (k + n) (before ++ (buf ++ rest))) (sym long)
    ∙ take-append-add before (buf ++ rest) n
    ∙ ap (λ xs. before ++ xs) (take-append-le n buf rest read) in
    sym (front start (end + n) (before ++ buf ++ rest) (omega arith))
    ∙ ap (drop start) written
    ∙ drop-append-le start before (take n buf) (omega (arith, long))
    ∙ ap (λ xs. xs ++ take n buf) (front start end items few ∙ is)

-- the same, as a vector holds it whose part from `end` on was written
pub written : (len start end n : ℕ) (items buf post tail held : List ℕ) → take (end - start) (drop start items) ≡ held →
    start ≤ end → end ≤ length items → n ≤ length buf → end + n ≤ len →
    take (end + n - start) (drop start (take len (take end items ++ (buf ++ post) ++ tail))) ≡ held ++ take n buf
written len start end n items buf post tail held is few within read fits =
    let whole : List ℕ = take end items ++ (buf ++ post) ++ tail in
    let apart : whole ≡ take end items ++ buf ++ (post ++ tail) =
    ap (λ xs. xs ++ tail) (sym (append_assoc (take end items) buf post)) ∙ append_assoc (take end items ++ buf) post tail in
    sym (front start (end + n) (take len whole) (omega arith))
    ∙ ap (drop start) (take-take (end + n) len whole fits)
    ∙ front start (end + n) whole (omega arith)
    ∙ ap (λ xs. take (end + n - start) (drop start xs)) apart
    ∙ filled start end n items buf (post ++ tail) held is few within read

-- nothing was written
pub unwritten : (len start end : ℕ) (items buf post tail held : List ℕ) → take (end - start) (drop start items) ≡ held →
    start ≤ end → end ≤ length items → end ≤ len →
    take (end - start) (drop start (take len (take end items ++ (buf ++ post) ++ tail))) ≡ held
unwritten len start end items buf post tail held is few within fits =
    ap (λ k. take (k - start) (drop start (take len (take end items ++ (buf ++ post) ++ tail)))) (sym (add-zero end))
    ∙ written len start end 0 items buf post tail held is few within (omega arith) (omega arith)
    ∙ append-nil held

-- the source's next bytes are held
pub moves : (n : ℕ) (held buf held_after : List ℕ) (left left_after : Option (List ℕ)) → held_after ≡ held ++ take n buf →
    GivesNext left n buf → LosesFirst left n left_after → Moves n held left held_after left_after
moves n held buf held_after None left_after is next rest = tt
moves n held buf held_after (Some left) None is next rest = absurd rest
moves n held buf held_after (Some left) (Some left_after) is next rest = record {
  moved = is ∙ ap (λ xs. held ++ xs) next.same;
  rest = ap Some rest;
  there = next.there;
  end = next.end;
}

-- at the end nothing is moved
pub at_end : (n : ℕ) (held : List ℕ) (left : Option (List ℕ)) (held_after : List ℕ) (left_after : Option (List ℕ)) → n ≡ 0 →
    Moves n held left held_after left_after → IsAtEnd left left_after
at_end n held None held_after left_after none moves = tt
at_end n held (Some left) held_after left_after none moves =
    moves.rest ∙ ap (λ k. Some (drop k left)) none ∙ ap (λ xs. Some xs) (moves.end.0 none)

-- what is moved stays in the text
pub moves_keep : (n : ℕ) (held : List ℕ) (left : Option (List ℕ)) (held_after : List ℕ) (left_after : Option (List ℕ)) →
    Moves n held left held_after left_after → KeepsText held left held_after left_after
moves_keep n held None held_after left_after moves = tt
moves_keep n held (Some left) held_after left_after moves =
    let kept : KeepsText held (Some left) held_after (Some (drop n left)) =
    ap (λ xs. xs ++ drop n left) moves.moved ∙ append_assoc held (take n left) (drop n left)
    ∙ ap (λ xs. held ++ xs) (take-append-drop n left) in
    subst (λ after. KeepsText held (Some left) held_after after) (sym moves.rest) kept

-- a source that gave nothing
pub kept_left : (held : List ℕ) (left : Option (List ℕ)) (held_after : List ℕ) (left_after : Option (List ℕ)) →
    held_after ≡ held → KeepsLeft left left_after → KeepsText held left held_after left_after
kept_left held None held_after left_after same keeps = tt
kept_left held (Some left) held_after None same keeps = keeps
kept_left held (Some left) held_after (Some left_after) same keeps =
    ap (λ xs. xs ++ left_after) same ∙ ap (λ xs. held ++ xs) keeps

-- no longer bytes with these at the front are these
pub no_more : (old new : List ℕ) (n : ℕ) → take (length old) new ≡ old → length new ≡ length old + n → n ≡ 0 → new ≡ old
no_more old new n front long none =
    sym (take-length new) ∙ ap (λ k. take k new) (omega (arith, long, none)) ∙ front

-- texts that stay, one after another
pub keeps_trans : (a : List ℕ) (l : Option (List ℕ)) (b : List ℕ) (m : Option (List ℕ)) (c : List ℕ) (n : Option (List ℕ)) →
    KeepsText a l b m → KeepsText b m c n → KeepsText a l c n
keeps_trans a None b m c n h k = tt
keeps_trans a (Some l) b None c n h k = absurd h
keeps_trans a (Some l) b (Some m) c None h k = absurd k
keeps_trans a (Some l) b (Some m) c (Some n) h k = k ∙ h
