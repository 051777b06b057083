-- Two lines of an order name one operation where they do in the run.
use Rattle.std.proofs.Common.{◌≡◌, ℕ, List, [], ◌∷◌, refl, ap, sym, ◌∙◌, ⊎_elim}
use Rattle.std.proofs.lemmas.Bool.{cases_eq, eq-eqb, ne_eqb}
use Rattle.std.specs.Prelude.{true, ◌==◌, Option, Some, None, nat_eq}
use Rattle.std.specs.Option.{option_eq}
use Rattle.run_lines.specs.declared.line.Doing.{Doing}
use Rattle.run_lines.specs.declared.line.Line.{Line}
use Rattle.run_rules.specs.Against.{op_of}
use Rattle.run_orders.specs.declared.order.Step.{Step}
use Rattle.run_orders.specs.Orders.{EachMayStand, IsPut, same_op}
use Rattle.run_orders.specs.Trees.{Spot}
use Rattle.run_orders.proofs.StandLemmas.{equal_ops, one_number, same_spot}

eqb-sym : (one other : ℕ) → (one == other) ≡ (other == one)
eqb-sym one other =
    ⊎_elim (λ e. eq-eqb one other e ∙ sym (eq-eqb other one (sym e)))
    (λ apart. ne_eqb one other apart ∙ sym (ne_eqb other one (λ e. apart (sym e)))) (cases_eq one other)

option_eq-refl : (o : Option ℕ) → option_eq nat_eq o o ≡ true
option_eq-refl None = refl
option_eq-refl (Some op) = eq-eqb op op refl

option_eq-sym : (o other : Option ℕ) → option_eq nat_eq o other ≡ option_eq nat_eq other o
option_eq-sym None None = refl
option_eq-sym None (Some op) = refl
option_eq-sym (Some op) None = refl
option_eq-sym (Some op) (Some other) = eqb-sym op other

named_once : (one other : Doing) → same_op one one ≡ same_op other other
named_once one other = option_eq-refl (op_of one) ∙ sym (option_eq-refl (op_of other))

named_turned : (one other : Doing) → same_op one other ≡ same_op other one
named_turned one other = option_eq-sym (op_of one) (op_of other)

pub named_alike : (run : List Line) (apart : List ℕ) (steps : List Step) → EachMayStand run apart steps → (one two : Step) (a b : Spot)
    → IsPut run steps one a → IsPut run steps two b → same_op a.line.does b.line.does ≡ same_op one.line.does two.line.does
named_alike run apart [] each one two a b first second = absurd first.stands
named_alike run apart (step ∷ before) each one two a b first second =
    ⊎_elim
    (λ (here : step ≡ one). ⊎_elim
    (λ (also : step ≡ two).
    ap (λ (s : Spot). same_op a.line.does s.line.does)
    (sym (same_spot run one two a b (sym here ∙ also) first.there second.there))
    ∙ named_once a.line.does one.line.does ∙ ap (λ (s : Step). same_op one.line.does s.line.does) (sym here ∙ also))
    (λ behind.
    named_turned a.line.does b.line.does
    ∙ ap (λ (s : Spot). same_op b.line.does s.line.does) (sym (same_spot run step one each.1.spot a here each.1.there first.there))
    ∙ each.1.numbered two b (record { stands = behind; there = second.there })
    ∙ ap (λ (s : Step). same_op two.line.does s.line.does) here ∙ named_turned two.line.does one.line.does) second.stands)
    (λ behind. ⊎_elim
    (λ (also : step ≡ two).
    ap (λ (s : Spot). same_op a.line.does s.line.does) (sym (same_spot run step two each.1.spot b also each.1.there second.there))
    ∙ each.1.numbered one a (record { stands = behind; there = first.there })
    ∙ ap (λ (s : Step). same_op one.line.does s.line.does) also)
    (λ both. named_alike run apart before each.0 one two a b (record { stands = behind; there = first.there })
    (record { stands = both; there = second.there })) second.stands) first.stands

-- what has one number in an order is one operation of the run
pub same_named : (run : List Line) (apart : List ℕ) (steps : List Step) → EachMayStand run apart steps → (one two : Step) (a b : Spot)
    → IsPut run steps one a → IsPut run steps two b → (op other number : ℕ) → op_of a.line.does ≡ Some op → op_of b.line.does ≡ Some other
    → op_of one.line.does ≡ Some number → op_of two.line.does ≡ Some number → op ≡ other
same_named run apart steps each one two a b first second op other number is too copy copied =
    equal_ops op other number
    (one_number a.line.does b.line.does one.line.does two.line.does op other number number
    (named_alike run apart steps each one two a b first second) is too copy copied)

-- one operation of the run has one number in an order
pub same_copied : (run : List Line) (apart : List ℕ) (steps : List Step) → EachMayStand run apart steps → (one two : Step) (a b : Spot)
    → IsPut run steps one a → IsPut run steps two b → (op number other : ℕ) → op_of a.line.does ≡ Some op → op_of b.line.does ≡ Some op
    → op_of one.line.does ≡ Some number → op_of two.line.does ≡ Some other → number ≡ other
same_copied run apart steps each one two a b first second op number other is too copy copied =
    equal_ops number other op
    (sym (one_number a.line.does b.line.does one.line.does two.line.does op op number other
    (named_alike run apart steps each one two a b first second) is too copy copied))
