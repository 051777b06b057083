-- Each place is free, or in one queue.
use Rattle.std.proofs.Common.{arith, ap, refl, sym, ◌∙◌, ⊎_elim}
use Rattle.std.proofs.lemmas.Bool.{cases_lt, true≢false}
use Rattle.std.proofs.lemmas.List.{length-append}
use Rattle.std.specs.Prelude.{◌≡◌, ◌<◌, ◌≤◌, ℕ, suc, ◌+◌, ◌==◌, true, List, [], ◌∷◌, Option, Some, None, length, map}
use Rattle.std.specs.Option.{is_some}
use Rattle.io_rules.specs.Room.{one_if}
use Rattle.io_queues.specs.Linked.{IsQueued, entries_at, entry_of, queues_ring, seen, times}
use Rattle.io_queues.specs.Queued.{Entry, IsWhole, entries_in, times_at, times_among}
use Rattle.io_queues.proofs.PartLemmas.{all_past, queue_of, times_in}
use Rattle.io_queues.proofs.EntryLemmas.{AreThere, item_of, length-entries}
use Rattle.io_queues.proofs.QueuedLemmas.{counted, places_there, shown}

abbrev pub total : List (List ℕ) → ℕ
total [] = 0
total (l ∷ queues) = length l + total queues

one_more : {T : Type 0} (x p : ℕ) (o : Option T) (es : List (Entry T)) (n : ℕ) → is_some o ≡ true →
    times_among x es ≡ n → times_among x (entry_of p o es) ≡ one_if (p == x) + n
one_more x p None es n is rest = absurd (true≢false (sym is))
one_more x p (Some item) es n is rest = ap (λ k. one_if (p == x) + k) rest

times-entries : {T : Type 0} (items : List (Option T)) (x : ℕ) (l : List ℕ) → AreThere items l →
    times_among x (entries_at items l) ≡ times x l
times-entries items x [] there = refl
times-entries items x (p ∷ l) there =
    one_more x p (item_of items p) (entries_at items l) (times x l) there.0 (times-entries items x l there.1)

times-all : {T : Type 0} (items : List (Option T)) (x : ℕ) (queues : List (List ℕ)) →
    ((q : ℕ) → AreThere items (queue_of queues q)) → times_at x (map (entries_at items) queues) ≡ times_in x queues
times-all items x [] there = refl
times-all items x (l ∷ queues) there =
    let here = times-entries items x l (there 0) in let rest = times-all items x queues (λ q. there (suc q)) in
    omega (arith, here, rest)

entries-all : {T : Type 0} (items : List (Option T)) (queues : List (List ℕ)) →
    ((q : ℕ) → AreThere items (queue_of queues q)) → entries_in (map (entries_at items) queues) ≡ total queues
entries-all items [] there = refl
entries-all items (l ∷ queues) there =
    let here = length-entries items l (there 0) in let rest = entries-all items queues (λ q. there (suc q)) in
    omega (arith, here, rest)

length-ring : (node : ℕ) (queues : List (List ℕ)) → length (queues_ring node queues) ≡ length queues + total queues
length-ring node [] = refl
length-ring node (l ∷ queues) =
    let both = length-append l (queues_ring (node + 1) queues) in let rest = length-ring (node + 1) queues in
    omega (arith, both, rest)

pub is_whole : {T : Type 0} (places last : ℕ) (next before : List ℕ) (items : List (Option T)) →
    IsQueued places last next before items → IsWhole (seen places last next items)
is_whole places last next before items s =
    let there = λ (q : ℕ). places_there places last next before items s q in
    let room = ap (λ v. v.room) (shown places last next before items s) in
    let most = ap (λ v. v.places) (shown places last next before items s) in
    record {
      counted =
          let stand = ap (λ v. entries_in v.queues) (shown places last next before items s)
          ∙ entries-all items s.queues there in
          let all = s.links.ring.all in let both = length-append s.free (queues_ring places s.queues) in
          let ring = length-ring places s.queues in let many = s.links.many in
          omega (arith, room, most, stand, all, both, ring, many);
      once = λ x.
          let is = ap (λ v. times_at x v.queues) (shown places last next before items s) ∙ times-all items x s.queues there in
          ⊎_elim
          (λ (lt : x < places). let all = counted places last next before items s x lt in omega (arith, is, all))
          (λ (le : places ≤ x). let none = all_past places x s.queues le s.links.all_below in omega (arith, is, none))
          (cases_lt x places);
      within = λ x le.
          ap (λ v. times_at x v.queues) (shown places last next before items s) ∙ times-all items x s.queues there
          ∙ all_past places x s.queues (omega (arith, le, most)) s.links.all_below;
    }
