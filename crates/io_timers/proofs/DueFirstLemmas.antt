-- The wait that is due comes before all others.
use Rattle.std.proofs.Common.{◌≡◌, ℕ, ◌<◌, ◌≤◌, List, [], ◌∷◌, ◌++◌, ap, refl, subst, sym, ◌∙◌, arith}
use Rattle.std.specs.Prelude.{nat_le, Option, Some, None, if◌then◌else◌}
use Rattle.std.proofs.lemmas.Bool.{leb-false, leb-true}
use Rattle.asio_types.specs.declared.code.Code.{Code}
use Rattle.io_rules.specs.declared.op.Wait.{Wait}
use Rattle.io_rules.specs.Completing.{MayExpire}
use Rattle.io_rules.specs.State.{ContextState, TimerState}
use Rattle.io_rules.specs.Timers.{due_by, earlier, earliest, expiry_of}
use Rattle.io_rules.proofs.StrandLemmas.{by_test}
use Rattle.io_timers.specs.DueFirst.{IsDueFirst}
use Rattle.io_timers.specs.Kept.{Each}
use Rattle.io_timers.proofs.FoundLemmas.{none_some, some_same}
use Rattle.io_timers.proofs.OrderLemmas.{each-weaker}

-- a list cut at its earliest wait
pub record IsCut (timers : List TimerState) (waits : List Wait) (wait : Wait) : Type 0 where
  pub front : List Wait
  pub rest : List Wait
  pub parts : waits ≡ front ++ wait ∷ rest
  pub before : Each (λ other. expiry_of timers wait < expiry_of timers other) front
  pub behind : Each (λ other. expiry_of timers wait ≤ expiry_of timers other) rest

append-each : (P : Wait → Type 0) (xs ys : List Wait) → Each P xs → Each P ys → Each P (xs ++ ys)
append-each P [] ys all more = more
append-each P (x ∷ xs) ys all more = (all.0, append-each P xs ys all.1 more)

-- no wait of it expires before the earliest
cut_all : (timers : List TimerState) (waits : List Wait) (wait : Wait) → IsCut timers waits wait →
    Each (λ other. expiry_of timers wait ≤ expiry_of timers other) waits
cut_all timers waits wait cut =
    subst (Each (λ other. expiry_of timers wait ≤ expiry_of timers other)) (sym cut.parts)
    (append-each (λ other. expiry_of timers wait ≤ expiry_of timers other) cut.front (wait ∷ cut.rest)
    (each-weaker (λ other. expiry_of timers wait < expiry_of timers other)
    (λ other. expiry_of timers wait ≤ expiry_of timers other) cut.front (λ other lt. omega (arith, lt)) cut.before)
    (omega arith, cut.behind))

none_left : (timers : List TimerState) (waits : List Wait) → earliest timers waits ≡ None → waits ≡ []
none_left timers [] is = refl
none_left timers (x ∷ waits) is = absurd (cc)

-- it is the first, or the earliest behind that
cut_on : (timers : List TimerState) (x : Wait) (waits : List Wait) (wait : Wait) (o : Option Wait) →
    earliest timers waits ≡ o → Some (earlier timers x o) ≡ Some wait →
    ((other : Wait) → earliest timers waits ≡ Some other → IsCut timers waits other) → IsCut timers (x ∷ waits) wait
cut_on timers x waits wait None at is behind =
    let same : x ≡ wait = cc in
    let none = none_left timers waits at in
    subst (IsCut timers (x ∷ waits)) same
    (record {
      front = [];
      rest = waits;
      parts = refl;
      before = tt;
      behind = subst (Each (λ other. expiry_of timers x ≤ expiry_of timers other)) (sym none) tt;
    })
cut_on timers x waits wait (Some y) at is behind =
    by_test (nat_le (expiry_of timers x) (expiry_of timers y))
    (λ first.
    let same : x ≡ wait = some_same _ _ (sym (ap (λ b. Some (if b then x else y)) first) ∙ is) in
    let le = leb-true (expiry_of timers x) (expiry_of timers y) first in
    subst (IsCut timers (x ∷ waits)) same
    (record {
      front = [];
      rest = waits;
      parts = refl;
      before = tt;
      behind =
          each-weaker (λ other. expiry_of timers y ≤ expiry_of timers other)
          (λ other. expiry_of timers x ≤ expiry_of timers other) waits (λ other more. omega (arith, le, more))
          (cut_all timers waits y (behind y at));
    }))
    (λ later.
    let same : y ≡ wait = some_same _ _ (sym (ap (λ b. Some (if b then x else y)) later) ∙ is) in
    let lt = leb-false (expiry_of timers x) (expiry_of timers y) later in
    let cut = behind y at in
    subst (IsCut timers (x ∷ waits)) same
    (record {
      front = x ∷ cut.front;
      rest = cut.rest;
      parts = ap (λ l. x ∷ l) cut.parts;
      before = (lt, cut.before);
      behind = cut.behind;
    }))

pub cut_at : (timers : List TimerState) (waits : List Wait) (wait : Wait) → earliest timers waits ≡ Some wait →
    IsCut timers waits wait
cut_at timers [] wait is = absurd (cc)
cut_at timers (x ∷ waits) wait is =
    cut_on timers x waits wait (earliest timers waits) refl is (λ other at. cut_at timers waits other at)

due_on : (timers : List TimerState) (now op : ℕ) (waits : List Wait) (o : Option Wait) → earliest timers waits ≡ o →
    due_by timers now o ≡ Some op → IsDueFirst timers now waits op
due_on timers now op waits None at is = absurd (cc)
due_on timers now op waits (Some wait) at is =
    by_test (nat_le (expiry_of timers wait) now)
    (λ due.
    let cut = cut_at timers waits wait at in
    record {
      wait = wait;
      front = cut.front;
      rest = cut.rest;
      is_op = some_same _ _ (sym (ap (λ b. if b then Some wait.op else None) due) ∙ is);
      is_due = leb-true (expiry_of timers wait) now due;
      parts = cut.parts;
      before = cut.before;
      behind = cut.behind;
    })
    (λ later. absurd (none_some _ (sym (ap (λ b. if b then Some wait.op else None) later) ∙ is)))

pub complete_by_expiry : (s : ContextState) (op : ℕ) (given : Code) (size : ℕ) → MayExpire s op given size →
    IsDueFirst s.timers s.now s.waits op
complete_by_expiry s op given size may =
    due_on s.timers s.now op s.waits (earliest s.timers s.waits) refl may.is_due
