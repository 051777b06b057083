-- A boxed closure answers by the marks of the closure.
use mathlib.Core.Path.{◌≡◌, subst, sym}
use mir.Syntax.{Dict}
use denote.Param.Table.{Table, Entry}
use denote.Param.Object.{Made, read_made}
use denote.Param.Members.{Mut}
use borrow.Pointer.Called.{made_asks, made_tells}
use borrow.Pointer.Entry.{sure}
use Rattle.op_handlers.specs.Marks.{FixedMarks}
use Rattle.op_handlers.specs.Job.{AnswersBy, answer}
use Rattle.op_handlers.specs.declared.call.Spend.{Spend}
use Rattle.op_handlers.specs.declared.call.Ran.{Ran}

-- a closure in the logic, by what a call of it asks and tells
abbrev pub Closures : Type 0 → Type 1
Closures F = Mut F (Spend × Unit {0}) Ran

module _ (T : Table Closures Dict) (e : Entry Closures Dict) (at : T.I) (same : e ≡ T.entry at) where
  -- the box y of a closure x that asks nothing, and answers by these marks alone
  pub AnswersBy-boxed : (m : FixedMarks) {i : T.I} {y : (T.entry i).0.Denot} {x : e.0.Denot}
      → Made (λ j. (T.entry j).0.coded.code) e.0.coded.code at i y x
      → ((s : Spend) → e.1.pre x (s, tt)) → ((s : Spend) (r : Ran) → e.1.post x (s, tt) r → r ≡ answer m s)
      → ((s : Spend) → e.1.post x (s, tt) (answer m s))
      → AnswersBy (λ s. (sure (T.entry i).1).pre y (s, tt)) (λ s r. (T.entry i).1.post y (s, tt) r) m
  AnswersBy-boxed m {i} {y} {x} made asks tells may = record {
    callable = λ s n. made_asks T e at same made (s, tt) (asks s);
    only = λ s r n p. tells s r (made_tells T e at same made (s, tt) r p);
    possible = λ s n.
        subst (λ (P : Type 0). P)
        (sym (read_made T e at same (Type 0) (λ j v. j.1.post v (s, tt) (answer m s)) i y x made)) (may s);
  }
