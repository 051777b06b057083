-- A round of the members: the first goes behind the others, as often as there are members.
use Rattle.std.proofs.Common.{◌≡◌, ℕ, ◌+◌, ◌<◌, List, [], ◌∷◌, ◌++◌, length, get_or, take, drop, map, refl, ap, sym, ◌∙◌, append_assoc, drop-cons, take-suc, add-one}
use Rattle.std.proofs.lemmas.List.{map-append}
use Rattle.chat_handlers.specs.declared.room.Member.{Member}
use Rattle.chat_handlers.specs.Rooms.{new_member}

pub nobody : Member
nobody = new_member (record { place = 0; generation = 0 }) 0

-- the next one, and those behind it
pub next_of : (members : List Member) (k : ℕ) → k < length members →
    drop k members ≡ get_or members k nobody ∷ drop (k + 1) members
next_of members k l = drop-cons members k nobody l ∙ rw add-one refl

pub taken_of : (members : List Member) (k : ℕ) → k < length members →
    take (k + 1) members ≡ take k members ++ get_or members k nobody ∷ []
taken_of members k l = rw add-one (take-suc members k nobody l)

pub counted_next : (f : Member → Member) (all before after : List Member) (k : ℕ) → k < length all →
    before ≡ drop k all ++ map f (take k all) →
    ((first : Member) (rest : List Member) → before ≡ first ∷ rest → after ≡ rest ++ f first ∷ []) →
    after ≡ drop (k + 1) all ++ map f (take (k + 1) all)
counted_next f all before after k l was turns =
    let first = get_or all k nobody in
    let rest = drop (k + 1) all in
    let begins : before ≡ first ∷ rest ++ map f (take k all) =
    was ∙ ap (λ xs. xs ++ map f (take k all)) (next_of all k l) in
    turns first (rest ++ map f (take k all)) begins
    ∙ append_assoc rest (map f (take k all)) (f first ∷ [])
    ∙ ap (λ xs. rest ++ xs) (sym (ap (map f) (taken_of all k l) ∙ map-append f (take k all) (first ∷ [])))
