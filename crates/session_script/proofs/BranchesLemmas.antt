-- The acts of the branches of an operation are those that its bodies append.
use Rattle.std.proofs.Common.{◌≡◌, ℕ, ◌<◌, ◌≤◌, inl, false, List, length, Some, refl, ◌∙◌, arith}
use Rattle.std.proofs.lemmas.Bool.{eq-eqb}
use Rattle.asio_types.specs.declared.code.Class.{Class}
use Rattle.asio_types.specs.declared.code.Class.TheVariants as class
use Rattle.session_script.specs.Script.{Place, Entry, ScriptModel, same_class, branch_of}
use Rattle.session_script.proofs.AppendingLemmas.{Continues, continues_longer, new_numbers, NotIn, Away, away_is_not_in, Appends, appends_none, appends_both}
use Rattle.session_script.proofs.GatheringLemmas.{Around, around_part, numbers_of_part, above_outside, beyond_outside, inside_away}

-- a part of a script that is a branch of an operation
pub record IsBranch (script : ScriptModel) (op : ℕ) (branch : Class) (before after : List Entry) : Type 0 where
  pub around : Around script (length before) before after
  pub below : op < length before
  pub numbers : branch_of script op branch ≡ new_numbers (Some (op, branch)) before after

-- it stands between parts that are other branches
pub branch_between : {script : ScriptModel} (op : ℕ) (branch : Class) {A B : Place → Type 0} {a b c d : List Entry} →
    Around script op a d → op < length a → ((q : Place) → Away op q → A q) → ((q : Place) → Away op q → B q) →
    A (Some (op, branch)) → B (Some (op, branch)) → Appends A a b → Continues b c → Appends B c d →
    IsBranch script op branch b c
branch_between {script = script} op branch {a = a} {b = b} {c = c} {d = d} around lt weaker others mine mine' first second third =
    let up : length a ≤ length b = continues_longer first.continues in
    let on : length b ≤ length c = continues_longer second in
    let down : length c ≤ length d = continues_longer third.continues in
    let place : Place = Some (op, branch) in
    record {
      around = around_part around first.continues second third.continues (omega arith) (λ q in'.
          let apart : Away op q = inside_away op (length b) (length c) q (omega arith) in' in
          (first.elsewhere q (weaker q apart) (beyond_outside (length a) (length b) (length c) q in'), third.elsewhere q (others q apart) (above_outside (length b) (length c) (length d) q in')));
      below = omega arith;
      numbers =
          around.inner place (omega arith, omega arith)
          ∙ numbers_of_part place first.continues second third.continues (first.elsewhere place mine (inl lt))
          (third.elsewhere place mine' (inl (omega arith)));
    }

-- the only body of a posting
pub only_branch : {script : ScriptModel} (op : ℕ) {before after : List Entry} → Around script op before after →
    op < length before → Continues before after → IsBranch script op class.Ok before after
only_branch op {before} {after} around lt body =
    branch_between op class.Ok {A = λ q. Unit {0}} {B = λ q. Unit {0}} around lt (λ q away. tt) (λ q away. tt) tt tt
    (appends_none before) body (appends_none after)

other_branch : (op : ℕ) (a b : Class) → same_class a b ≡ false → NotIn (Some (op, b)) (Some (op, a))
other_branch op a b other = rw (eq-eqb op op refl) other

-- two branches of an operation
abbrev NotInBoth : ℕ → Class → Class → Place → Type 0
NotInBoth op a b q = NotIn (Some (op, a)) q × NotIn (Some (op, b)) q

-- the three bodies of an operation
module _ {script : ScriptModel} (op : ℕ) {a b c d : List Entry} (around : Around script op a d) (lt : op < length a)
    (ok : Appends (NotIn (Some (op, class.Ok))) a b) (abort : Appends (NotIn (Some (op, class.Abort))) b c)
    (other : Appends (NotIn (Some (op, class.Other))) c d) where
  pub ok_branch : IsBranch script op class.Ok a b
  ok_branch =
      branch_between op class.Ok {A = λ q. Unit {0}} {B = NotInBoth op class.Abort class.Other} around lt (λ q away. tt)
      (λ q away. (away_is_not_in op class.Abort q away, away_is_not_in op class.Other q away))
      tt (other_branch op class.Ok class.Abort refl, other_branch op class.Ok class.Other refl) (appends_none a)
      ok.continues (appends_both (λ q apart out. apart.0) (λ q apart out. apart.1) abort other)

  pub abort_branch : IsBranch script op class.Abort b c
  abort_branch =
      branch_between op class.Abort around lt (away_is_not_in op class.Ok) (away_is_not_in op class.Other)
      (other_branch op class.Abort class.Ok refl) (other_branch op class.Abort class.Other refl) ok abort.continues
      other

  pub final_branch : IsBranch script op class.Other c d
  final_branch =
      branch_between op class.Other {A = NotInBoth op class.Ok class.Abort} {B = λ q. Unit {0}} around lt
      (λ q away. (away_is_not_in op class.Ok q away, away_is_not_in op class.Abort q away)) (λ q away. tt)
      (other_branch op class.Other class.Ok refl, other_branch op class.Other class.Abort refl) tt
      (appends_both (λ q apart out. apart.0) (λ q apart out. apart.1) ok abort) other.continues (appends_none d)
