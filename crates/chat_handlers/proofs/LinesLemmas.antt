-- Where the first line of some bytes ends.
use Rattle.std.proofs.Common.{◌≡◌, ℕ, ◌+◌, ◌-◌, ◌<◌, ◌≤◌, Bool, true, false, cond, not, Some, None, List, ◌++◌, length, get_or, take, drop, refl, ap, sym, ◌∙◌, position, arith, ltb-false, length-take, get_or-take, take-append-drop, drop-cons, take_all, length-drop, eqb-true, add-one}
use Rattle.std.specs.List.{position_or_len}
use Rattle.std.proofs.lemmas.Bool.{not-true}
use Rattle.std.proofs.lemmas.List.Quantifiers.{position-Some}
use Rattle.std.proofs.lemmas.List.Sums.{prefix_len_passes}
use Rattle.chat_handlers.specs.Lines.{BeginsWith, BeginsWithNone, HasNoEnd, is_end}

none_at : (t : Bool) (n : ℕ) → cond t (Some n) None ≡ None → t ≡ false
none_at true n h = cc
none_at false n h = refl

endless_at : (bytes : List ℕ) (k d : ℕ) → k < position_or_len is_end bytes → is_end (get_or bytes k d) ≡ false
endless_at bytes k d l = not-true _ (prefix_len_passes (λ b. not (is_end b)) bytes k d l)

-- what is below the first end has none
pub begins_below : (bytes : List ℕ) (n : ℕ) → ((k d : ℕ) → k < n → k < length bytes → is_end (get_or bytes k d) ≡ false) →
    HasNoEnd (take n bytes)
begins_below bytes n below k d l =
    let e : length (take n bytes) ≡ _ = length-take n bytes in
    let under : k < n = omega arith in
    rw (get_or-take n bytes k d under) (below k d under (omega arith))

pub begins_none : (bytes : List ℕ) → position is_end bytes ≡ None → BeginsWithNone bytes
begins_none bytes h =
    let all : length bytes ≤ position_or_len is_end bytes = ltb-false _ _ (none_at _ _ h) in
    begins_below bytes 513 (λ k d under l. endless_at bytes k d (omega arith))

pub begins_long : (bytes : List ℕ) (at : ℕ) → position is_end bytes ≡ Some at → 512 < at → BeginsWithNone bytes
begins_long bytes at h long =
    begins_below bytes 513 (λ k d under l. (position-Some is_end bytes at d h).2 k (omega arith))

pub begins_with : (bytes : List ℕ) (at : ℕ) → position is_end bytes ≡ Some at → at ≤ 512 →
    BeginsWith bytes (take at bytes) (take (length bytes - (at + 1)) (drop (at + 1) bytes))
begins_with bytes at h short =
    let found = position-Some is_end bytes at 0 h in
    let within : at < length bytes = found.0 in
    let ends : get_or bytes at 0 ≡ 10 = eqb-true _ _ found.1 in
    let size : length (drop (at + 1) bytes) ≡ length bytes - (at + 1) = length-drop (at + 1) bytes in
    record {
      is_line = record {
        endless = begins_below bytes at (λ k d under l. (position-Some is_end bytes at d h).2 k under);
        short = omega (arith, length-take at bytes);
      };
      parts = let whole : take (length bytes - (at + 1)) (drop (at + 1) bytes) ≡ drop (at + 1) bytes
          = take_all _ _ (omega arith) in
          rw whole (sym (take-append-drop at bytes)
          ∙ ap (λ rest. take at bytes ++ rest) (drop-cons bytes at 0 within ∙ rw (ends, add-one) refl));
    }
