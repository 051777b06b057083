-- A strand takes the rules' steps, where what is ready goes by its number.
use Rattle.std.proofs.Common.{ap, refl, sym, ◌∙◌}
use Rattle.std.proofs.lemmas.List.{drop-map, map-append, take-map}
use Rattle.std.specs.Prelude.{◌≡◌, ℕ, ◌+◌, List, [], ◌∷◌, ◌++◌, drop, insert, map, take}
use Rattle.io_rules.specs.Strands.{Entry, First, Last, Later, called_on}
use Rattle.io_strands.specs.declared.ready.ReadyOp.{ReadyOp}
use Rattle.io_strands.specs.Cell.{Cell, begun, called}
use Rattle.io_strands.specs.Numbered.{StepsAlike, number_of, numbered}

map-insert : {T : Type 0} (f : T → ℕ) (xs : List T) (at : ℕ) (x : T) →
    map f (insert xs at x) ≡ insert (map f xs) at (f x)
map-insert f xs at x =
    map-append f (take at xs) (x ∷ drop at xs)
    ∙ ap (λ before. before ++ f x ∷ map f (drop at xs)) (sym (take-map f at xs))
    ∙ ap (λ behind. take at (map f xs) ++ f x ∷ behind) (sym (drop-map f at xs))

called_alike : {H S : Type 0} (entry : Entry) (op : ReadyOp H) (c : Cell H S) →
    numbered (called entry op c) ≡ called_on entry op.number (numbered c)
called_alike First op c =
    ap (λ queue. record (numbered c) { queue = queue; front = c.front + 1; tied = c.tied + 1 })
    (map-insert number_of c.queue c.front op)
called_alike Last op c =
    ap (λ queue. record (numbered c) { queue = queue; tied = c.tied + 1 })
    (map-append number_of c.queue (op ∷ []))
called_alike Later op c = refl

pub steps_alike : {H S : Type 0} → StepsAlike H S
steps_alike = record {
  new = λ room. refl;
  called = called_alike;
  ready = λ op c.
      ap (λ queue. record (numbered c) { queue = queue }) (map-append number_of c.queue (op ∷ []));
  begun = λ op c.
      ap (λ queue. record (numbered (begun op c)) { queue = queue }) (sym (drop-map number_of 1 c.queue));
  ended = λ state c. refl;
}
