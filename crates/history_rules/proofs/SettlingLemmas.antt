-- What completes in a turn of the reactor.
use Rattle.std.proofs.Common.{◌≡◌, ℕ, nat_le, true, List, [], ◌∷◌, length, map, filter, zero, suc, refl, ap, arith}
use Rattle.std.specs.List.{All}
use Rattle.std.proofs.lemmas.List.{length-set}
use Rattle.std.proofs.lemmas.Bool.Decides.{nat_tests}
use Rattle.asio_types.specs.declared.code.Code.TheVariants as code
use Rattle.history_rules.specs.Settling.{due_waits, expiry_of, is_due, put_by, served_below, sorted_by, waited, AreDueTogether}
use Rattle.history_rules.specs.State.{ReactorHalf}
use Rattle.history_rules.specs.Waits.{all_completed_with}

put_by-same : {X : Type 0} (key : X → ℕ) (n : ℕ) (x : X) (xs : List X) → key x ≡ n → All (λ y. key y ≡ n) xs →
    put_by key x xs ≡ x ∷ xs
put_by-same key n x [] is all = refl
put_by-same key n x (y ∷ ys) is all =
    let first : key y ≡ n = all 0 y (omega arith) in
    let test : nat_le (key x) (key y) ≡ true = grind (arith, nat_tests) in
    rw test

-- items of one key stand as they stood
pub sorted_by-same : {X : Type 0} (key : X → ℕ) (n : ℕ) (xs : List X) → All (λ x. key x ≡ n) xs → sorted_by key xs ≡ xs
sorted_by-same key n [] all = refl
sorted_by-same key n (x ∷ xs) all =
    let rest : All (λ x. key x ≡ n) xs = λ k d b. all (suc k) d (omega arith) in
    rw (sorted_by-same key n xs rest) (put_by-same key n x xs (all 0 x (omega arith)) rest)

-- waits that are due together complete in order of acceptance
pub due-together : (r : ReactorHalf) → AreDueTogether r → due_waits r ≡ all_completed_with (code.Ok) (is_due r) r.waits
due-together r together =
    ap (map waited) (sorted_by-same (expiry_of r) together.0 (filter (is_due r) r.waits) together.1)

-- there are as many queues as before
pub length-served_below : (n : ℕ) (r : ReactorHalf) → length (served_below n r).queues ≡ length r.queues
length-served_below zero r = refl
length-served_below (suc n) r = rw length-set (length-served_below n r)
