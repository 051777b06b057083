-- Items that come to a place one after the other.
use Rattle.std.proofs.Common.{ap, refl, ◌∙◌}
use Rattle.std.specs.Prelude.{◌≡◌, ℕ, ◌==◌, Bool, true, false, cond, List, [], ◌∷◌, map}
use Rattle.io_queues.specs.Queued.{Entry, LastStays, item_put}

one_stays : {T : Type 0} (place : ℕ) (first last : T) (e : Entry T) (b : Bool) → (e.place == place) ≡ b →
    item_put place last (cond b (record e { item = first }) e) ≡ cond b (record e { item = last }) e
one_stays place first last e true is = ap (λ c. cond c (record e { item = last }) (record e { item = first })) is
one_stays place first last e false is = ap (λ c. cond c (record e { item = last }) e) is

entries_stay : {T : Type 0} (place : ℕ) (first last : T) (es : List (Entry T)) →
    map (item_put place last) (map (item_put place first) es) ≡ map (item_put place last) es
entries_stay place first last [] = refl
entries_stay place first last (e ∷ es) =
    ap (λ x. x ∷ map (item_put place last) (map (item_put place first) es))
    (one_stays place first last e (e.place == place) refl)
    ∙ ap (λ xs. item_put place last e ∷ xs) (entries_stay place first last es)

queues_stay : {T : Type 0} (place : ℕ) (first last : T) (queues : List (List (Entry T))) →
    map (map (item_put place last)) (map (map (item_put place first)) queues) ≡ map (map (item_put place last)) queues
queues_stay place first last [] = refl
queues_stay place first last (es ∷ queues) =
    ap (λ x. x ∷ map (map (item_put place last)) (map (map (item_put place first)) queues)) (entries_stay place first last es)
    ∙ ap (λ xs. map (item_put place last) es ∷ xs) (queues_stay place first last queues)

pub last_stays : {T : Type 0} → LastStays T
last_stays place first last s = ap (λ qs. record s { queues = qs }) (queues_stay place first last s.queues)
