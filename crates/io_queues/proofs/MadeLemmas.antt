-- The ring that is made: all nodes in order, each place free, each queue empty.
use Rattle.std.proofs.Common.{arith, ap, refl, subst, sym, ◌∙◌}
use Rattle.std.proofs.lemmas.Bool.{le-ltb, lt-ltb}
use Rattle.std.proofs.lemmas.Bool.Decides.{nat_tests}
use Rattle.std.proofs.lemmas.List.{get_or-replicate, get_or_append_left, get_or_at, length-append, length-replicate, reverse-append}
use Rattle.std.specs.Prelude.{◌≡◌, ◌<◌, ◌≤◌, ℕ, zero, suc, ◌+◌, not, List, [], ◌∷◌, ◌++◌, Option, None, length, map, nat_lt, replicate, reverse}
use Rattle.std.specs.List.{slice_index_or}
use Rattle.std.specs.Option.{is_some}
use Rattle.io_rules.specs.Room.{one_if}
use Rattle.io_queues.specs.Linked.{AllBelow, AreBelow, AreLinked, IsPath, IsQueued, IsRing, entries_at, linked, numbers, queues_ring, ring_of, seen, times}
use Rattle.io_queues.specs.Queued.{Entry, no_entries}
use Rattle.io_queues.proofs.PathLemmas.{times-append}
use Rattle.io_queues.proofs.NumberLemmas.{back_more}
use Rattle.io_queues.proofs.QueuedLemmas.{seen_linked}

length-numbers : (from n : ℕ) → length (numbers from n) ≡ n
length-numbers from zero = refl
length-numbers from (suc n) = ap suc (length-numbers (from + 1) n)

number_at : (from n k d : ℕ) → k < n → slice_index_or (numbers from n) k d ≡ from + k
number_at from zero k d lt = absurd (omega (arith, lt))
number_at from (suc n) zero d lt = omega arith
number_at from (suc n) (suc k) d lt = let rest = number_at (from + 1) n k d (omega (arith, lt)) in omega (arith, rest)

-- links to the next node
up : (f : List ℕ) (k n e : ℕ) → ((i : ℕ) → i < e → linked f i ≡ i + 1) → k + n + 1 ≡ e → IsPath f k (numbers (k + 1) n) e
up f k zero e each is = let here = each k (omega (arith, is)) in omega (arith, here, is)
up f k (suc n) e each is = (each k (omega (arith, is)), up f (k + 1) n e each (omega (arith, is)))

up_all : (f : List ℕ) (e : ℕ) → linked f e ≡ 0 → ((i : ℕ) → i < e → linked f i ≡ i + 1) → IsPath f e (numbers 0 e) e
up_all f zero last each = last
up_all f (suc e) last each = (last, up f 0 e (suc e) each (omega arith))

-- links to the one before
down_list : (n : ℕ) → reverse (numbers 0 (suc n)) ≡ n ∷ reverse (numbers 0 n)
down_list n =
    let more : suc n ≡ n + 1 = omega arith in
    ap (λ k. reverse (numbers 0 k)) more ∙ ap reverse (sym (back_more n)) ∙ reverse-append (numbers 0 n) (n ∷ [])

down : (g : List ℕ) (n e : ℕ) → linked g 0 ≡ e → ((i : ℕ) → i < n → linked g (suc i) ≡ i) → IsPath g n (reverse (numbers 0 n)) e
down g zero e first each = first
down g (suc n) e first each =
    subst (λ ns. IsPath g (suc n) ns e) (sym (down_list n))
    (each n (omega arith), down g n e first (λ i lt. each i (omega (arith, lt))))

each_once : (n e : ℕ) → times n (numbers 0 e) ≡ one_if (nat_lt n e)
each_once n zero = sym (ap one_if (le-ltb n 0 (omega arith)))
each_once n (suc e) =
    let more : suc e ≡ e + 1 = omega arith in
    ap (λ k. times n (numbers 0 k)) more ∙ ap (times n) (sym (back_more e)) ∙ times-append n (numbers 0 e) (e ∷ [])
    ∙ both (each_once n e)
  where
    both : times n (numbers 0 e) ≡ one_if (nat_lt n e) → times n (numbers 0 e) + times n (e ∷ []) ≡ one_if (nat_lt n (suc e))
    both is = grind (arith, nat_tests)

numbers-append : (from m n : ℕ) → numbers from m ++ numbers (from + m) n ≡ numbers from (m + n)
numbers-append from zero n =
    let one : from + 0 ≡ from = omega arith in let two : 0 + n ≡ n = omega arith in
    ap (λ k. numbers k n) one ∙ sym (ap (numbers from) two)
numbers-append from (suc m) n =
    let one : from + suc m ≡ from + 1 + m = omega arith in let two : suc m + n ≡ suc (m + n) = omega arith in
    ap (λ k. from ∷ numbers (from + 1) m ++ numbers k n) one ∙ ap (λ ns. from ∷ ns) (numbers-append (from + 1) m n)
    ∙ sym (ap (numbers from) two)

empty_ring : (node queues : ℕ) → queues_ring node (replicate queues []) ≡ numbers node queues
empty_ring node zero = refl
empty_ring node (suc queues) = ap (λ ns. node ∷ ns) (empty_ring (node + 1) queues)

ring_is : (places queues last : ℕ) → places + queues ≡ last → ring_of places (numbers 0 places) (replicate queues []) ≡ numbers 0 last
ring_is places queues last is =
    let from : places ≡ 0 + places = omega arith in
    ap (λ ns. numbers 0 places ++ ns) (empty_ring places queues)
    ∙ ap (λ k. numbers 0 places ++ numbers k queues) from ∙ numbers-append 0 places queues ∙ ap (numbers 0) is

all_low : (from n most : ℕ) → from + n ≤ most → AreBelow most (numbers from n)
all_low from zero most le = tt
all_low from (suc n) most le = (omega (arith, le), all_low (from + 1) n most (omega (arith, le)))

none_below : (most queues : ℕ) → AllBelow most (replicate queues [])
none_below most zero = tt
none_below most (suc queues) = (tt, none_below most queues)

none_shown : {T : Type 0} (items : List (Option T)) (queues : ℕ) →
    map (entries_at items) (replicate queues []) ≡ replicate {A = List (Entry T)} queues []
none_shown items zero = refl
none_shown items (suc queues) = ap (λ r. [] ∷ r) (none_shown items queues)

module _ (places queues last : ℕ) (next before : List ℕ) (is : places + queues ≡ last)
    (ahead : next ≡ numbers 1 last ++ 0 ∷ []) (back : before ≡ last ∷ numbers 0 last) where
  on_each : (i : ℕ) → i < last → linked next i ≡ i + 1
  on_each i lt =
      let many = length-numbers 1 last in let one = number_at 1 last i 0 lt in
      let read = get_or_append_left (numbers 1 last) (0 ∷ []) 0 i (omega (arith, many, lt)) in
      ap (λ l. linked l i) ahead ∙ read ∙ omega (arith, one)

  made_ring : IsRing last next before (numbers 0 last)
  made_ring =
      record {
        forward =
            up_all next last
            (ap (λ l. linked l last) ahead ∙ get_or_at (numbers 1 last) 0 [] 0 last (length-numbers 1 last)) on_each;
        back =
            down before last last (ap (λ l. linked l 0) back)
            (λ i lt. ap (λ l. linked l (suc i)) back ∙ number_at 0 last i 0 lt ∙ omega arith);
        once = λ n. each_once n last;
        all = length-numbers 0 last;
        nexts =
            let one = length-append (numbers 1 last) (0 ∷ []) in let two = length-numbers 1 last in
            let three = ap length ahead in omega (arith, one, two, three);
        befores = let one = ap length back in let two = length-numbers 0 last in omega (arith, one, two);
      }

  made_links : AreLinked places last next before (numbers 0 places) (replicate queues [])
  made_links =
      record {
        ring = subst (IsRing last next before) (sym (ring_is places queues last is)) made_ring;
        many = let many = length-replicate {A = List ℕ} queues [] in omega (arith, many, is);
        free_below = all_low 0 places places (omega arith);
        all_below = none_below places queues;
      }

  module _ {T : Type 0} (items : List (Option T)) (empty : items ≡ replicate places None) where
    pub made_queued : IsQueued places last next before items
    made_queued =
        record {
          free = numbers 0 places;
          queues = replicate queues [];
          links = made_links;
          many = ap length empty ∙ length-replicate places None;
          empty = λ n low.
              each_once n places ∙ ap one_if (lt-ltb n places low)
              ∙ sym (ap (λ o. one_if (not (is_some o)))
              (ap (λ l. slice_index_or l n None) empty ∙ get_or-replicate places n None None low));
        }

    pub made_seen : seen places last next items ≡ no_entries queues places
    made_seen =
        seen_linked places last next before (numbers 0 places) (replicate queues []) items made_links
        ∙ ap (λ qs. record { queues = qs; room = length (numbers 0 places); places = places }) (none_shown items queues)
        ∙ ap (λ n. record { queues = replicate queues []; room = n; places = places }) (length-numbers 0 places)
