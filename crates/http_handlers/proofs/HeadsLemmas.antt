-- Where the head of some bytes ends, whatever follows them.
use Rattle.std.proofs.Common.{◌≡◌, ℕ, zero, suc, ◌-◌, ◌<◌, ◌≤◌, true, List, ◌++◌, length, refl, sym, ◌∙◌, arith}
use Rattle.std.proofs.lemmas.Bool.{false≢true}
use Rattle.std.proofs.lemmas.List.{get_or_append_left, length-append}
use Rattle.http_handlers.specs.Heads.{HasNoHead, IsHeadSize, ends_empty, most_head}

pub ends_front : (bytes more : List ℕ) (k : ℕ) → k ≤ length bytes → ends_empty (bytes ++ more) k ≡ ends_empty bytes k
ends_front bytes more zero l = refl
ends_front bytes more (suc zero) l = refl
ends_front bytes more (suc (suc zero)) l =
    rw (get_or_append_left bytes more 0 1 (omega arith), get_or_append_left bytes more 0 0 (omega arith)) refl
ends_front bytes more (suc (suc (suc k))) l =
    rw (
      get_or_append_left bytes more 0 (suc (suc (suc k)) - 1) (omega arith),
      get_or_append_left bytes more 0 (suc (suc (suc k)) - 2) (omega arith),
      get_or_append_left bytes more 0 (suc (suc (suc k)) - 3) (omega arith),
    ) refl

-- a head of the bytes in front is one of all
pub size_front : (bytes more : List ℕ) (size : ℕ) → IsHeadSize bytes size → IsHeadSize (bytes ++ more) size
size_front bytes more size is = record {
  within = omega (arith, is.within, length-append bytes more);
  short = is.short;
  ends = ends_front bytes more size is.within ∙ is.ends;
  first = λ k l. ends_front bytes more k (omega (arith, is.within, l)) ∙ is.first k l;
}

-- bytes that are too long for a head begin with none, whatever follows
pub none_front : (bytes more : List ℕ) → HasNoHead bytes → most_head ≤ length bytes → HasNoHead (bytes ++ more)
none_front bytes more none long k l short =
    let within : k ≤ length bytes = omega (arith, short, long) in ends_front bytes more k within ∙ none k within short

-- a head has two bytes at least
pub size_two : (bytes : List ℕ) (size : ℕ) → ends_empty bytes size ≡ true → 2 ≤ size
size_two bytes zero ends = absurd (false≢true ends)
size_two bytes (suc zero) ends = absurd (false≢true ends)
size_two bytes (suc (suc size)) ends = omega arith

-- bytes begin with one head at most
pub size_once : (bytes : List ℕ) (size other : ℕ) → IsHeadSize bytes size → IsHeadSize bytes other → ¬ size < other
size_once bytes size other is that l = false≢true (sym (that.first size l) ∙ is.ends)

pub none_or_size : (bytes : List ℕ) (size : ℕ) → HasNoHead bytes → ¬ IsHeadSize bytes size
none_or_size bytes size none is = false≢true (sym (none size is.within is.short) ∙ is.ends)

pub size_same : (bytes : List ℕ) (size other : ℕ) → IsHeadSize bytes size → IsHeadSize bytes other → size ≡ other
size_same bytes size other is that =
    let below : ¬ size < other = size_once bytes size other is that in
    let above : ¬ other < size = size_once bytes other size that is in
    omega (arith, below, above)
