-- The least of what is left is dropped.
use Rattle.std.proofs.Common.{arith, ap, refl, subst, sym, ◌∙◌}
use Rattle.std.specs.Prelude.{◌≡◌, ◌+◌, ◌==◌, true, List, [], ◌∷◌, Option, Some, length, if◌then◌else◌}
use Rattle.std.specs.Option.{option_map}
use Rattle.io_rules.specs.declared.event.Event.TheVariants as event
use Rattle.io_rules.specs.declared.op.Op.{Op}
use Rattle.io_rules.specs.declared.request.Marks.{Marks}
use Rattle.io_rules.specs.Executions.{drop_mark, marks_of}
use Rattle.io_rules.specs.Legal.{MayHappen}
use Rattle.io_rules.specs.Ops.{op_at, without}
use Rattle.io_rules.specs.State.{ContextState}
use Rattle.io_rules.specs.Stopping.{first_number}
use Rattle.io_rules.proofs.TotalLemmas.{same}
use Rattle.io_strands.specs.declared.ready.ReadyOp.{ReadyOp}
use Rattle.io_scheduler.specs.Left.{AreLeft}

-- the first of what is left is the first operation
pub record IsFirstLeft {H : Type 0} (marks : H → Marks) (ready : ReadyOp H) (left : List (ReadyOp H)) (ops : List Op) :
    Type 0 where
  pub least : first_number ops ≡ Some ready.number
  pub returned : drop_mark ops ready.number ≡ Some (marks ready.handler).drop
  pub rest : AreLeft marks left (without ready.number ops)
  pub fewer : length ops ≡ length (without ready.number ops) + 1

pub first_left : {H : Type 0} (marks : H → Marks) (ready : ReadyOp H) (left : List (ReadyOp H)) (ops : List Op) →
    AreLeft marks (ready ∷ left) ops → IsFirstLeft marks ready left ops
first_left marks ready left [] are = absurd are
first_left marks ready left (x ∷ ops) are =
    let here = subst (λ k. (x.number == k) ≡ true) are.0 (same x.number) in
    let gone : without ready.number (x ∷ ops) ≡ ops = ap (λ b. if b then ops else x ∷ without ready.number ops) here in
    let found : op_at (x ∷ ops) ready.number ≡ Some x = ap (λ b. if b then Some x else op_at ops ready.number) here in
    let fewer = ap length gone in
    record {
      least = ap Some are.0;
      returned =
          ap (λ (o : Option Op). option_map (λ (m : Marks). m.drop) (marks_of o)) found
          ∙ ap (λ (m : Marks). Some m.drop) are.1;
      rest = subst (AreLeft marks left) (sym gone) are.2;
      fewer = omega (arith, fewer);
    }

pub may_drop : {H : Type 0} (marks : H → Marks) (ready : ReadyOp H) (left : List (ReadyOp H)) (s : ContextState) →
    s.finishing ≡ true → AreLeft marks (ready ∷ left) s.ops →
    MayHappen s (event.Dropped ready.number (marks ready.handler).drop)
may_drop marks ready left s finishing are =
    let first = first_left marks ready left s.ops are in
    record { finishing = finishing; least = first.least; returned = first.returned }

-- nothing is left of no operations, and no operations of nothing
pub none_left : {H : Type 0} (marks : H → Marks) (left : List (ReadyOp H)) (ops : List Op) → AreLeft marks left ops →
    ops ≡ [] → length left ≡ 0
none_left marks [] ops are none = refl
none_left marks (ready ∷ left) [] are none = absurd are
none_left marks (ready ∷ left) (x ∷ ops) are none = absurd (cc)

pub no_ops : {H : Type 0} (marks : H → Marks) (left : List (ReadyOp H)) (ops : List Op) → AreLeft marks left ops →
    length left ≡ 0 → ops ≡ []
no_ops marks [] [] are none = refl
no_ops marks [] (x ∷ ops) are none = absurd are
no_ops marks (ready ∷ left) ops are none = absurd (omega (arith, none))
