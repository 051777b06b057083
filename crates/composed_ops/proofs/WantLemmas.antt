-- What a read until a delimiter looks at.
use Rattle.std.proofs.Common.{◌≡◌, ℕ, ◌<◌, nat_le, true, false, Option, None, Some, List, [], ◌∷◌, take, drop, zero, suc, inl, inr, refl, sym, ap, ◌∙◌, arith}
use Rattle.std.proofs.lemmas.Bool.{cases_lt}
use Rattle.std.proofs.lemmas.Bool.Decides.{nat_tests}
use Rattle.std.proofs.lemmas.List.{take-append-drop}
use Rattle.asio_types.specs.declared.code.Code.{Code}
use Rattle.stream_rules.specs.Delimiter.{first_end}
use Rattle.stream_rules.specs.Serving.{ended_by, until_found}
use Rattle.stream_rules.proofs.DelimiterLemmas.{first_end-append}

none-part : (delimiter bytes : List ℕ) (n : ℕ) (found : Option ℕ) → first_end delimiter (take n bytes) ≡ found →
    first_end delimiter bytes ≡ None → found ≡ None
none-part delimiter bytes n None is none = refl
none-part delimiter bytes n (Some count) is none =
    let longer = first_end-append delimiter (take n bytes) (drop n bytes) count is in
    let whole : first_end delimiter bytes ≡ Some count =
    ap (first_end delimiter) (sym (take-append-drop n bytes)) ∙ longer in
    absurd (cc)

-- where no delimiter ends among some bytes, none ends among the first of them
pub first_end-part : (delimiter bytes : List ℕ) (n : ℕ) → first_end delimiter bytes ≡ None →
    first_end delimiter (take n bytes) ≡ None
first_end-part delimiter bytes n none = none-part delimiter bytes n (first_end delimiter (take n bytes)) refl none

-- the first bytes of both counts
take-both : (n m : ℕ) (bytes : List ℕ) → take n (take m bytes) ≡ take m (take n bytes)
take-both zero zero bytes = refl
take-both zero (suc m) bytes = refl
take-both (suc n) zero bytes = refl
take-both (suc n) (suc m) [] = refl
take-both (suc n) (suc m) (b ∷ bytes) = ap (λ bs. b ∷ bs) (take-both n m bytes)

-- what was searched of all bytes was searched of the first ones
pub first_end-within : (delimiter bytes : List ℕ) (seen most : ℕ) → first_end delimiter (take seen bytes) ≡ None →
    first_end delimiter (take seen (take most bytes)) ≡ None
first_end-within delimiter bytes seen most none =
    ap (first_end delimiter) (take-both seen most bytes) ∙ first_end-part delimiter (take seen bytes) most none

-- a read until a delimiter that is still open: it wasn't found, and more bytes may come
pub record IsUnfound (found : Option ℕ) (max there : ℕ) : Type 0 where
  pub none : found ≡ None
  pub more : there < max

pub until-open : (found : Option ℕ) (max there : ℕ) (mark : Option Code) →
    (until_found found max there mark).outcome ≡ None → IsUnfound found max there
until-open (Some count) max there mark stays = absurd (cc)
until-open None max there mark stays =
    elim (cases_lt there max) [
      | inl short ↦ record { none = refl; more = short }
      | inr full ↦
          let test : nat_le max there ≡ true = grind (arith, nat_tests) in let never = rw test at stays in absurd (cc)
    ]

-- then it is ended by the mark
pub until-ended : (found : Option ℕ) (max there : ℕ) (mark : Option Code) → IsUnfound found max there →
    until_found found max there mark ≡ record { used = 0; outcome = ended_by mark 0 }
until-ended found max there mark unfound =
    let short = unfound.more in
    let test : nat_le max there ≡ false = grind (arith, nat_tests) in
    ap (λ f. until_found f max there mark) unfound.none ∙ rw test refl
