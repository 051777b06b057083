-- The rows of a layout, one more at a time, and the word of a cell by its row.
use Rattle.std.proofs.Common.{◌≡◌, ℕ, zero, suc, ◌+◌, ◌<◌, ◌≤◌, List, [], ◌∷◌, ◌++◌, length, slice_index, slice_index_or, sym, refl, ap, ◌∙◌, subst, ⊎_elim, arith, length-append}
use Rattle.std.proofs.lemmas.List.{map-append, length-map, get_or_append_left}
use Rattle.std.proofs.lemmas.Bool.{cases_lt}
use Rattle.std.proofs.Math.Seq.{get_or-append_seam}
use Rattle.lane_clock.specs.declared.plan.Row.{Row}
use Rattle.lane_clock.specs.Layout.{slot, total, cell_word}
use Rattle.lane_clock.specs.Rows.{cells_in, Starts, AreRows}
use Rattle.lane_clock.proofs.WordLemmas.{within, slot_within}

slot_from : (cs : List ℕ) (lane place : ℕ) → slot cs lane place ≡ slot cs lane 0 + place
slot_from [] lane place = omega arith
slot_from (c ∷ cs) zero place = omega arith
slot_from (c ∷ cs) (suc lane) place =
    let e : slot cs lane place ≡ slot cs lane 0 + place = slot_from cs lane place in omega arith

pub row_word : (rows : List Row) (count lane place : ℕ) (d : Row) → AreRows rows count →
    place < slice_index (cells_in rows) lane →
    (1 + length rows + (slice_index_or rows lane d).start + place ≡ cell_word (cells_in rows) lane place)
    × (1 + length rows + (slice_index_or rows lane d).start + place < count)
row_word rows count lane place d are inside =
    let long : length (cells_in rows) ≡ length rows = length-map rows (λ row. row.cells) in
    let l : lane < length (cells_in rows) = within (cells_in rows) lane place inside in
    let start : (slice_index_or rows lane d).start ≡ slot (cells_in rows) lane 0 = are.starts lane d (omega arith) in
    let e : slot (cells_in rows) lane place ≡ slot (cells_in rows) lane 0 + place =
    slot_from (cells_in rows) lane place in
    let room : slot (cells_in rows) lane place < total (cells_in rows) =
    slot_within (cells_in rows) lane place inside in
    let words : count ≡ 1 + length (cells_in rows) + total (cells_in rows) = are.words in
    (omega arith, omega arith)

slot_front : (cs : List ℕ) (c lane : ℕ) → lane < length cs → slot (cs ++ c ∷ []) lane 0 ≡ slot cs lane 0
slot_front [] c lane h = absurd (omega arith)
slot_front (x ∷ cs) c zero h = refl
slot_front (x ∷ cs) c (suc lane) h = ap (λ k. x + k) (slot_front cs c lane (omega arith))

slot_end : (cs : List ℕ) (c : ℕ) → slot (cs ++ c ∷ []) (length cs) 0 ≡ total cs
slot_end [] c = refl
slot_end (x ∷ cs) c = ap (λ k. x + k) (slot_end cs c)

pub total_push : (cs : List ℕ) (c : ℕ) → total (cs ++ c ∷ []) ≡ total cs + c
total_push [] c = omega arith
total_push (x ∷ cs) c = let e : total (cs ++ c ∷ []) ≡ total cs + c = total_push cs c in omega arith

pub cells_push : (rows : List Row) (row : Row) → cells_in (rows ++ row ∷ []) ≡ cells_in rows ++ row.cells ∷ []
cells_push rows row = map-append (λ (r : Row). r.cells) rows (row ∷ [])

pub starts_push : (rows : List Row) (row : Row) → Starts rows → row.start ≡ total (cells_in rows) →
    Starts (rows ++ row ∷ [])
starts_push rows row starts here lane d h =
    let long : length (cells_in rows) ≡ length rows = length-map rows (λ (r : Row). r.cells) in
    let more : length (rows ++ row ∷ []) ≡ length rows + 1 = length-append rows (row ∷ []) in
    subst (λ cs. (slice_index_or (rows ++ row ∷ []) lane d).start ≡ slot cs lane 0) (sym (cells_push rows row))
    (⊎_elim
    (λ (lt : lane < length rows).
    ap (λ (r : Row). r.start) (get_or_append_left rows (row ∷ []) d lane lt)
    ∙ (starts lane d lt ∙ sym (slot_front (cells_in rows) row.cells lane (omega arith))))
    (λ (ge : length rows ≤ lane).
    let e : lane ≡ length rows = omega arith in
    subst (λ k. (slice_index_or (rows ++ row ∷ []) k d).start ≡ slot (cells_in rows ++ row.cells ∷ []) k 0) (sym e)
    (ap (λ (r : Row). r.start) (get_or-append_seam rows row [] d) ∙ (here ∙ (sym (slot_end (cells_in rows) row.cells) ∙ ap (λ k. slot (cells_in rows ++ row.cells ∷ []) k 0) long))))
    (cases_lt lane (length rows)))
