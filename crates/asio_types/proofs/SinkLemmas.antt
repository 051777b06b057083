-- What follows where bytes go into a sink in several writes.
use Rattle.std.proofs.Common.{◌≡◌, ℕ, ◌≤◌, ◌+◌, ◌-◌, List, [], ◌++◌, length, take, drop, Option, None, Some, ap, sym, ◌∙◌, append_assoc, length-drop}
use Rattle.std.proofs.Math.Seq.{take-add, take-length}
use Rattle.std.proofs.lemmas.List.{append-nil, length-take-le}
use Rattle.asio_types.specs.Sink.{Extends, ExtendsByPart}

-- two writes, one after the other
pub extends_more : (first second third : Option (List ℕ)) (xs ys : List ℕ) → Extends first xs second →
    Extends second ys third → Extends first (xs ++ ys) third
extends_more first second None xs ys a b = tt
extends_more first None (Some third) xs ys a b = absurd b
extends_more None (Some second) (Some third) xs ys a b = absurd a
extends_more (Some first) (Some second) (Some third) xs ys a b =
    b ∙ ap (λ bytes. bytes ++ ys) a ∙ append_assoc first xs ys

take_rest : (n : ℕ) (bytes : List ℕ) → take (length bytes - n) (drop n bytes) ≡ drop n bytes
take_rest n bytes = ap (λ k. take k (drop n bytes)) (sym (length-drop n bytes)) ∙ take-length (drop n bytes)

-- after the first bytes, the next ones
pub extends_by_next : (first second third : Option (List ℕ)) (bytes : List ℕ) (n m : ℕ) →
    Extends first (take n bytes) second → Extends second (take m (take (length bytes - n) (drop n bytes))) third →
    Extends first (take (n + m) bytes) third
extends_by_next first second third bytes n m a b =
    rw (take-add n m bytes)
    (extends_more first second third (take n bytes) (take m (drop n bytes)) a (rw (take_rest n bytes) at b))

-- the first bytes are a part of all
pub extends_by_first : (first second third : Option (List ℕ)) (bytes : List ℕ) (n : ℕ) → n ≤ length bytes →
    Extends first (take n bytes) second → Extends second [] third → ExtendsByPart first bytes third
extends_by_first first second third bytes n h a b = (
  take n bytes,
  ap (λ k. take k bytes) (length-take-le n bytes h),
  rw (append-nil (take n bytes)) at (extends_more first second third (take n bytes) [] a b),
)
