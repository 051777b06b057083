-- A node that moves in a ring.
use Rattle.std.proofs.Common.{arith, ap, subst, sym, ◌∙◌}
use Rattle.std.proofs.lemmas.Bool.Decides.{nat_tests}
use Rattle.std.proofs.lemmas.List.{length-append, length-set, reverse-append}
use Rattle.std.specs.Prelude.{◌≡◌, ◌<◌, ◌≤◌, ℕ, ◌+◌, ◌==◌, List, [], ◌∷◌, ◌++◌, length, nat_lt, reverse}
use Rattle.io_rules.specs.Room.{one_if}
use Rattle.io_rules.proofs.TotalLemmas.{same}
use Rattle.io_queues.specs.Linked.{IsMovable, IsPath, IsRing, before_moved, first_or, linked, next_moved, put_between, taken_out, times}
use Rattle.io_queues.proofs.PathLemmas.{Once, first-reverse, headed, is_out, is_put, last_in, last_or, last-reverse, parted, split, times-append, times-reverse, turned_round}

closes : (n e : ℕ) → one_if (e == n) + one_if (nat_lt n e) ≤ 1
closes n e = grind (arith, nat_tests)

-- a node of the ring, or the one that closes it
low : (n e k : ℕ) → one_if (e == n) + k ≡ one_if (e == n) + one_if (nat_lt n e) → 1 ≤ one_if (e == n) + k → n < e + 1
low n e k is there = grind (arith, nat_tests)

first_in : (e : ℕ) (xs : List ℕ) → 1 ≤ times (first_or xs e) (e ∷ xs)
first_in e [] = let one = ap one_if (same e) in omega (arith, one)
first_in e (x ∷ xs) = let one = ap one_if (same x) in omega (arith, one)

-- one node moves: from here, and to there
pub record IsMove (x y e : ℕ) (nodes moved : List ℕ) : Type 0 where
  pub front : List ℕ
  pub rest : List ℕ
  pub ahead : List ℕ
  pub behind : List ℕ
  pub was : nodes ≡ front ++ x ∷ rest
  pub left : front ++ rest ≡ ahead ++ behind
  pub to : y ≡ first_or behind e
  pub is : moved ≡ ahead ++ x ∷ behind

same_times : (n x : ℕ) (fs bs cs ds : List ℕ) → fs ++ bs ≡ cs ++ ds → times n (cs ++ x ∷ ds) ≡ times n (fs ++ x ∷ bs)
same_times n x fs bs cs ds left =
    let one = times-append n fs bs ∙ sym (times-append n fs bs) ∙ ap (times n) left ∙ times-append n cs ds in
    let two = times-append n fs bs in let three = times-append n cs (x ∷ ds) in let four = times-append n fs (x ∷ bs) in
    omega (arith, one, two, three, four)

module _ (f g : List ℕ) (e x : ℕ) (fs bs : List ℕ) (ring : IsRing e f g (fs ++ x ∷ bs)) where
  each : Once (e ∷ fs ++ x ∷ bs)
  each n = let is = ring.once n in let most = closes n e in omega (arith, is, most)

  each_back : Once (e ∷ reverse bs ++ x ∷ reverse fs)
  each_back n =
      let is = each n in let turned = ap (times n) (turned_round fs x bs) in let same = times-reverse n (fs ++ x ∷ bs) in
      omega (arith, is, turned, same)

  node_low : (n : ℕ) → 1 ≤ times n (e ∷ fs ++ x ∷ bs) → n < e + 1
  node_low n there = low n e (times n (fs ++ x ∷ bs)) (ap (λ k. one_if (e == n) + k) (ring.once n)) there

  path_back : IsPath g e (reverse bs ++ x ∷ reverse fs) e
  path_back = subst (λ ns. IsPath g e ns e) (turned_round fs x bs) ring.back

  links_on : linked f x ≡ first_or bs e
  links_on = headed f x bs e (split f e fs x bs e ring.forward).1

  links_back : linked g x ≡ last_or fs e
  links_back = headed g x (reverse fs) e (split g e (reverse bs) x (reverse fs) e path_back).1 ∙ first-reverse fs e

  ahead_low : last_or fs e < e + 1
  ahead_low =
      node_low (last_or fs e)
      (let there = last_in e fs in let all = times-append (last_or fs e) fs (x ∷ bs) in omega (arith, there, all))

  behind_low : first_or bs e < e + 1
  behind_low =
      node_low (first_or bs e)
      (let there = first_in e bs in let all = times-append (first_or bs e) fs (x ∷ bs) in omega (arith, there, all))

  out_on : IsPath (taken_out x f g) e (fs ++ bs) e
  out_on =
      is_out f g e fs x bs each (let many = ring.nexts in let here = ahead_low in omega (arith, many, here)) links_back ring.forward

  out_back : IsPath (taken_out x g f) e (reverse (fs ++ bs)) e
  out_back =
      subst (λ ns. IsPath (taken_out x g f) e ns e) (sym (reverse-append fs bs))
      (is_out g f e (reverse bs) x (reverse fs) each_back
      (let many = ring.befores in let here = behind_low in let is = last-reverse bs e in omega (arith, many, here, is))
      (links_on ∙ sym (last-reverse bs e)) path_back)

length-out : (x : ℕ) (f g : List ℕ) → length (taken_out x f g) ≡ length f
unfolding taken_out
length-out x f g = length-set f (linked g x) (linked f x)

length-put : (a x b : ℕ) (f : List ℕ) → length (put_between a x b f) ≡ length f
unfolding put_between
length-put a x b f = length-set _ x b ∙ length-set f a x

module _ (f g : List ℕ) (e x y : ℕ) (cs ds : List ℕ) (once : Once (e ∷ cs ++ x ∷ ds)) (to : y ≡ first_or ds e)
    (on : IsPath f e (cs ++ ds) e) (back : IsPath g e (reverse (cs ++ ds)) e) where
  turned_back : IsPath g e (reverse ds ++ reverse cs) e
  turned_back = subst (λ ns. IsPath g e ns e) (reverse-append cs ds) back

  last_there : linked g y ≡ last_or cs e
  last_there =
      ap (linked g) (to ∙ sym (last-reverse ds e))
      ∙ headed g (last_or (reverse ds) e) (reverse cs) e (parted g e (reverse ds) (reverse cs) e turned_back).1
      ∙ first-reverse cs e

  put_on : length f ≡ e + 1 → x < e + 1 → last_or cs e < e + 1 →
      IsPath (put_between (linked g y) x y f) e (cs ++ x ∷ ds) e
  put_on many inside within =
      is_put f e (linked g y) y cs x ds once (omega (arith, many, within)) (omega (arith, many, inside)) last_there to on

  once_back : Once (e ∷ reverse ds ++ x ∷ reverse cs)
  once_back n =
      let is = once n in let turned = ap (times n) (turned_round cs x ds) in let same = times-reverse n (cs ++ x ∷ ds) in
      omega (arith, is, turned, same)

  put_back : length g ≡ e + 1 → x < e + 1 → first_or ds e < e + 1 →
      IsPath (put_between y x (linked g y) g) e (reverse (cs ++ x ∷ ds)) e
  put_back many inside within =
      subst (λ ns. IsPath (put_between y x (linked g y) g) e ns e) (sym (turned_round cs x ds))
      (is_put g e y (linked g y) (reverse ds) x (reverse cs) once_back
      (let is = last-reverse ds e in omega (arith, many, within, is)) (omega (arith, many, inside))
      (to ∙ sym (last-reverse ds e)) (last_there ∙ sym (first-reverse cs e)) turned_back)

module _ (f g : List ℕ) (e x y : ℕ) (fs bs cs ds : List ℕ) (ring : IsRing e f g (fs ++ x ∷ bs))
    (left : fs ++ bs ≡ cs ++ ds) (to : y ≡ first_or ds e) where
  as_before : (n : ℕ) → times n (cs ++ x ∷ ds) ≡ times n (fs ++ x ∷ bs)
  as_before n = same_times n x fs bs cs ds left

  each_new : Once (e ∷ cs ++ x ∷ ds)
  each_new n = let is = as_before n in let most = each f g e x fs bs ring n in omega (arith, is, most)

  new_low : (n : ℕ) → 1 ≤ times n (e ∷ cs ++ x ∷ ds) → n < e + 1
  new_low n there = node_low f g e x fs bs ring n (let is = as_before n in omega (arith, is, there))

  x_low : x < e + 1
  x_low =
      new_low x (let here = ap one_if (same x) in let all = times-append x cs (x ∷ ds) in omega (arith, here, all))

  last_low : last_or cs e < e + 1
  last_low =
      new_low (last_or cs e)
      (let there = last_in e cs in let all = times-append (last_or cs e) cs (x ∷ ds) in omega (arith, there, all))

  first_low : first_or ds e < e + 1
  first_low =
      new_low (first_or ds e)
      (let there = first_in e ds in let all = times-append (first_or ds e) cs (x ∷ ds) in omega (arith, there, all))

  gone_on : IsPath (taken_out x f g) e (cs ++ ds) e
  gone_on = subst (λ ns. IsPath (taken_out x f g) e ns e) left (out_on f g e x fs bs ring)

  gone_back : IsPath (taken_out x g f) e (reverse (cs ++ ds)) e
  gone_back = subst (λ ns. IsPath (taken_out x g f) e (reverse ns) e) left (out_back f g e x fs bs ring)

  movable_at : IsMovable x y f g
  movable_at =
      let many = ring.nexts in let other = ring.befores in let there = x_low in
      let on = links_on f g e x fs bs ring in let back = links_back f g e x fs bs ring in
      let one = behind_low f g e x fs bs ring in let two = ahead_low f g e x fs bs ring in
      let three = first_low in let four = last_low in
      let last = last_there (taken_out x f g) (taken_out x g f) e x y cs ds each_new to gone_on gone_back in
      record {
        moves = omega (arith, many, there);
        place = omega (arith, many, three, to);
        same = omega (arith, many, other);
        behind = omega (arith, many, on, one);
        ahead = omega (arith, many, back, two);
        last = omega (arith, many, last, four);
      }

  moved_at : IsRing e (next_moved x y f g) (before_moved x y f g) (cs ++ x ∷ ds)
  moved_at =
      let out_f = length-out x f g ∙ ring.nexts in let out_g = length-out x g f ∙ ring.befores in
      record {
        forward =
            put_on (taken_out x f g) (taken_out x g f) e x y cs ds each_new to gone_on gone_back out_f x_low last_low;
        back =
            put_back (taken_out x f g) (taken_out x g f) e x y cs ds each_new to gone_on gone_back out_g x_low first_low;
        once = λ n. as_before n ∙ ring.once n;
        all =
            let one = length-append cs (x ∷ ds) in let two = length-append fs (x ∷ bs) in
            let three = sym (length-append fs bs) ∙ ap length left ∙ length-append cs ds in let many = ring.all in
            omega (arith, one, two, three, many);
        nexts = length-put _ x y (taken_out x f g) ∙ out_f;
        befores = length-put y x _ (taken_out x g f) ∙ out_g;
      }

module _ (f g : List ℕ) (e x y : ℕ) (nodes new : List ℕ) (ring : IsRing e f g nodes) (move : IsMove x y e nodes new) where
  pub movable : IsMovable x y f g
  movable =
      movable_at f g e x y move.front move.rest move.ahead move.behind (subst (IsRing e f g) move.was ring) move.left move.to

  pub moved_on : IsRing e (next_moved x y f g) (before_moved x y f g) new
  moved_on =
      subst (IsRing e (next_moved x y f g) (before_moved x y f g)) (sym move.is)
      (moved_at f g e x y move.front move.rest move.ahead move.behind (subst (IsRing e f g) move.was ring) move.left move.to)
