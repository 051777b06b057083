-- What is ready on strands is taken out, one strand after another.
use Rattle.std.proofs.Common.{arith, add-one, append_assoc, ap, refl, subst, sym, ◌∙◌, drop-cons, length-append, ⊎_elim}
use Rattle.std.proofs.lemmas.Bool.{cases_lt}
use Rattle.std.proofs.Math.ListN.{drop_of_length-le}
use Rattle.std.proofs.lemmas.List.{append-nil, drop-set-lt, get_or-set_other, get_or-set_same, get_or_past}
use Rattle.std.specs.Prelude.{◌≡◌, ◌<◌, ◌≤◌, ℕ, zero, suc, ◌+◌, ◌==◌, ◌++◌, List, [], ◌∷◌, drop, length}
use Rattle.std.specs.List.{slice_set}
use Rattle.io_rules.proofs.StrandLemmas.{by_test}
use Rattle.io_rules.proofs.TotalLemmas.{apart, equal}
use Rattle.io_strands.specs.declared.ready.ReadyOp.{ReadyOp}
use Rattle.io_strands.specs.Cell.{Cell, emptied, vacant}
use Rattle.io_scheduler.specs.Left.{NoneReady, queued}
use Rattle.io_scheduler.specs.Shown.{cell_at}

-- those from a place on
queued_from : {H S : Type 0} (cells : List (Cell H S)) (k : ℕ) → k < length cells →
    queued (drop k cells) ≡ (cell_at cells k).queue ++ queued (drop (k + 1) cells)
queued_from cells k lt = rw (add-one, drop-cons cells k (vacant 0)) refl

queued_behind : {H S : Type 0} (cells : List (Cell H S)) (k : ℕ) (new : Cell H S) →
    queued (drop (k + 1) (slice_set cells k new)) ≡ queued (drop (k + 1) cells)
queued_behind cells k new = ap queued (drop-set-lt (k + 1) cells k new (omega arith))

-- what is taken out so far, and what is left to take
pub record AreMoved {H S : Type 0} (at room : ℕ) (left all : List (ReadyOp H)) (cells : List (Cell H S)) : Type 0 where
  pub moved : left ++ queued (drop at cells) ≡ all
  pub room_left : length left + length (queued (drop at cells)) ≤ room
  pub empty : (k : ℕ) → k < at → (cell_at cells k).queue ≡ []

pub moved_room : {H S : Type 0} (at room : ℕ) (left all : List (ReadyOp H)) (cells : List (Cell H S)) →
    at < length cells → AreMoved at room left all cells → length left + length (cell_at cells at).queue ≤ room
moved_room at room left all cells lt are =
    let split = ap length (queued_from cells at lt) in
    let both = length-append (cell_at cells at).queue (queued (drop (at + 1) cells)) in
    let le = are.room_left in
    omega (arith, split, both, le)

pub moved_more : {H S : Type 0} (at room : ℕ) (left new all : List (ReadyOp H)) (cells : List (Cell H S)) →
    at < length cells → new ≡ left ++ (cell_at cells at).queue → AreMoved at room left all cells →
    AreMoved (at + 1) room new all (slice_set cells at (emptied (cell_at cells at)))
moved_more at room left new all cells lt is are =
    let c = cell_at cells at in
    let rest = queued (drop (at + 1) cells) in
    let behind = queued_behind cells at (emptied c) in
    let split = queued_from cells at lt in
    let le = are.room_left in
    let long = ap length split in let both = length-append c.queue rest in
    let longer = ap length is in let parts = length-append left c.queue in
    let same_length = ap length behind in
    record {
      moved =
          ap (λ xs. new ++ xs) behind ∙ ap (λ xs. xs ++ rest) is ∙ append_assoc left c.queue rest
          ∙ ap (λ xs. left ++ xs) (sym split) ∙ are.moved;
      room_left = omega (arith, le, long, both, longer, parts, same_length);
      empty = λ k before.
          by_test (at == k)
          (λ here.
          subst (λ j. (cell_at (slice_set cells at (emptied c)) j).queue ≡ []) (equal at k here)
          (ap (λ (x : Cell _ _). x.queue) (get_or-set_same cells at (emptied c) (vacant 0) lt)))
          (λ other.
          let less : k < at = smaller at k before (λ is. apart at k other is) in
          ap (λ (x : Cell _ _). x.queue) (get_or-set_other cells at k (emptied c) (vacant 0) (apart at k other))
          ∙ are.empty k less);
    }
  where
    smaller : (a b : ℕ) → b < a + 1 → (b ≡ a → ⊥) → b < a
    smaller a b lt other =
        ⊎_elim (λ (less : b < a). less) (λ (le : a ≤ b). absurd (other (omega (arith, lt, le)))) (cases_lt b a)

-- at the end all is taken out
pub moved_whole : {H S : Type 0} (at room : ℕ) (left all : List (ReadyOp H)) (cells : List (Cell H S)) →
    length cells ≤ at → AreMoved at room left all cells → left ≡ all
moved_whole at room left all cells le are =
    sym (append-nil left) ∙ ap (λ xs. left ++ queued xs) (sym (drop_of_length-le cells le)) ∙ are.moved

-- and nothing is ready anywhere
pub moved_all : {H S : Type 0} (at room : ℕ) (left all : List (ReadyOp H)) (cells : List (Cell H S)) →
    length cells ≤ at → AreMoved at room left all cells → NoneReady cells
moved_all at room left all cells le are place =
    ⊎_elim (λ (lt : place < at). are.empty place lt)
    (λ (past : at ≤ place). ap (λ (x : Cell _ _). x.queue) (get_or_past cells place (vacant 0) (omega (arith, le, past))))
    (cases_lt place at)

-- of a list of strands without the last
pub last_ready : {H S : Type 0} (xs : List (Cell H S)) (y : Cell H S) → NoneReady (xs ++ y ∷ []) → y.queue ≡ []
last_ready [] y none = none 0
last_ready (x ∷ xs) y none = last_ready xs y (λ k. none (suc k))

pub rest_ready : {H S : Type 0} (xs : List (Cell H S)) (y : Cell H S) → NoneReady (xs ++ y ∷ []) → NoneReady xs
rest_ready [] y none place = refl
rest_ready (x ∷ xs) y none zero = none 0
rest_ready (x ∷ xs) y none (suc place) = rest_ready xs y (λ k. none (suc k)) place
