-- Lists that are gone through, with what is made of each element.
use Rattle.std.proofs.Common.{◌≡◌, ◌<◌, List, [], ◌∷◌, ◌++◌, length, None, Option, Some, refl, sym, ap, subst, ◌∙◌, arith, length-append, append_assoc}
use Rattle.std.specs.Prelude.{All, map}
use Rattle.std.proofs.lemmas.List.{append-nil, map-append}
use Rattle.std.proofs.lemmas.List.Elements.{All-push}

-- the elements of a list that are behind us, of which a fact holds, and the rest
pub record IsGoing {T : Type 0} (P : T → Type 0) (all rest front : List T) : Type 0 where
  pub split : all ≡ front ++ rest
  pub each : All P front

module _ {T : Type 0} (P : T → Type 0) (all : List T) where
  pub going_none : (rest : List T) → rest ≡ all → IsGoing P all rest []
  going_none rest is = record { split = sym is; each = λ k d less. absurd (omega arith) }

  pub going_more : (rest next front : List T) (one : T) → rest ≡ one ∷ next → P one → IsGoing P all rest front →
      IsGoing P all next (front ++ one ∷ [])
  going_more rest next front one split holds going =
      record {
        split =
            going.split ∙ ap (λ xs. front ++ xs) split ∙ sym (append_assoc front (one ∷ []) next);
        each = All-push P front one going.each holds;
      }

  pub going_all : (rest front : List T) → rest ≡ [] → IsGoing P all rest front → all ≡ front
  going_all rest front none going = going.split ∙ ap (λ xs. front ++ xs) none ∙ append-nil front

  pub going_room : (rest next front : List T) (one : T) → rest ≡ one ∷ next → IsGoing P all rest front →
      length front < length all
  going_room rest next front one split going =
      omega (arith, ap length (going.split ∙ ap (λ xs. front ++ xs) split) ∙ length-append front (one ∷ next))

  -- where as many are behind us as there are, the fact holds of all
  pub going_each : (rest front : List T) → length front ≡ length all → IsGoing P all rest front → All P all
  going_each rest front whole going = by_rest rest going.split
    where
      by_rest : (rest : List T) → all ≡ front ++ rest → All P all
      by_rest [] is = subst (λ xs. All P xs) (sym (is ∙ append-nil front)) going.each
      by_rest (one ∷ rest) is =
          absurd (omega (arith, whole, ap length is ∙ length-append front (one ∷ rest)))

-- what is no element is nothing
pub none_else : {T : Type 0} (o : Option T) → ((x : T) → o ≡ Some x → ⊥) → o ≡ None
none_else None others = refl
none_else (Some x) others = absurd (others x refl)

-- what is made of one element more
pub made_more : {T V : Type 0} (f : T → V) (old made after : List V) (front : List T) (one : T) →
    made ≡ old ++ map f front → after ≡ made ++ f one ∷ [] → after ≡ old ++ map f (front ++ one ∷ [])
made_more f old made after front one is pushed =
    pushed ∙ ap (λ xs. xs ++ f one ∷ []) is ∙ append_assoc old (map f front) (f one ∷ [])
    ∙ ap (λ xs. old ++ xs) (sym (map-append f front (one ∷ [])))
