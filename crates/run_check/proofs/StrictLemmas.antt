-- What is answered of the strict rules is what they say.
use Rattle.std.proofs.Common.{◌≡◌, ℕ, ◌<◌, List, [], ◌∷◌, refl, ap, subst, sym, ◌∙◌}
use Rattle.std.proofs.lemmas.Bool.{eqb-true, eq-eqb, ltb-true, lt-ltb, both_ways}
use Rattle.std.specs.Prelude.{Bool, true, false, ◌==◌, ◌↔◌, not, Option, Some, None, IfSome, IsTrue, is_some}
use Rattle.std.specs.Option.{option_map}
use Rattle.run_lines.specs.declared.code.Code.{Code}
use Rattle.run_lines.specs.declared.line.Doing.TheVariants as doing
use Rattle.run_lines.specs.declared.line.Line.{Line}
use Rattle.run_rules.specs.declared.rule.Rule.TheVariants as rule
use Rattle.run_rules.specs.Stacks.{first_of, stack}
use Rattle.run_rules.specs.Calls.{Calling, context_of, done_of, is_posting, strand_of}
use Rattle.run_rules.specs.Entries.{Entry, entry_by, entry_from, entry_of}
use Rattle.run_rules.specs.Strict.{IsAllowed, IsFinishing, IsGoing, IsNext, IsReady, dropped_last, ready_on, stopped_since}
use Rattle.run_check.specs.After.{waiter_of}
use Rattle.run_check.specs.Judging.{Judged, asked, is_above, is_number}
use Rattle.run_check.specs.Strict.{JudgesStrictly, begin_judged, is_next_by}
use Rattle.run_check.specs.declared.waiting.Waiter.{Waiter}
use Rattle.run_check.proofs.RuleLemmas.{Says, no_number, some_number, waiter_says}

false_true : false ≡ true → ⊥
false_true e = cc

-- the rules of a begin, each with its test
pub begin_judges : (past : List Line) (thread op : ℕ) (what : Code) (size : ℕ) (ready next allowed alone going : Bool)
    → IsTrue ready ↔ IsReady past op → IsTrue next ↔ IsNext past op → IsTrue allowed ↔ IsAllowed past op
    → IsTrue alone ↔ (stack past thread ≡ []) → IsTrue going ↔ IsGoing past
    → JudgesStrictly past thread (doing.Begin op what size) (begin_judged ready next allowed alone going)
begin_judges past thread op what size false next allowed alone going r n a s g = λ is. false_true (r.1 is)
begin_judges past thread op what size true false allowed alone going r n a s g = (r.0 refl, λ is. false_true (n.1 is))
begin_judges past thread op what size true true false alone going r n a s g =
    (r.0 refl, n.0 refl, λ is. false_true (a.1 is))
begin_judges past thread op what size true true true false going r n a s g =
    (r.0 refl, n.0 refl, a.0 refl, λ is. false_true (s.1 is))
begin_judges past thread op what size true true true true false r n a s g =
    (r.0 refl, n.0 refl, a.0 refl, s.0 refl, λ is. false_true (g.1 is))
begin_judges past thread op what size true true true true true r n a s g =
    record { ready = r.0 refl; next = n.0 refl; allowed = a.0 refl; alone = s.0 refl; going = g.0 refl }

-- tests of options

pub none_iff : {X : Type 0} (o : Option X) → IsTrue (not (is_some o)) ↔ (o ≡ None)
none_iff None = (λ yes. refl, λ is. refl)
none_iff (Some x) = (λ yes. absurd (false_true yes), λ is. cc)

same_some : {X Y : Type 0} (f : X → Y) (o : Option X) → is_some (option_map f o) ≡ is_some o
same_some f None = refl
same_some f (Some x) = refl

pub ready_iff : (past : List Line) (op : ℕ) (waiter : Waiter) → waiter_of past op ≡ Some waiter
    → IsTrue (is_some waiter.entry) ↔ IsReady past op
ready_iff past op waiter found =
    let says : Says past op waiter = waiter_says past op waiter found in
    let same : is_some waiter.entry ≡ is_some (entry_of past op) =
    ap (λ (w : Waiter). is_some w.entry) (sym says.is)
    ∙ same_some (λ (e : Entry). e.place) (entry_by (is_posting says.call.word) says.call (done_of past op))
    ∙ sym (ap (λ (o : Option Calling). is_some (entry_from o (done_of past op))) says.called) in
    (λ yes. sym same ∙ yes, λ is. same ∙ is)

pub test_none : {X : Type 0} (o : Option X) (test : Bool) → is_some o ≡ not test → IsTrue test ↔ (o ≡ None)
test_none None true is = (λ yes. refl, λ none. refl)
test_none None false is = absurd (false_true is)
test_none (Some x) true is = absurd (false_true (sym is))
test_none (Some x) false is = (λ yes. absurd (false_true yes), λ none. absurd (some_none x none))
  where
    some_none : {X : Type 0} (x : X) → Some x ≡ None → ⊥
    some_none x e = cc

pub test_is : {P : Type 0} (test : Bool) {other : Bool} → test ≡ other → IsTrue other ↔ P → IsTrue test ↔ P
test_is test same iff = (λ yes. iff.0 (sym same ∙ yes), λ p. same ∙ iff.1 p)

-- the same of what is equal to an option
pub through : {X : Type 0} (o other : Option X) (test : Bool) → o ≡ other → IsTrue test ↔ (o ≡ None)
    → IsTrue test ↔ (other ≡ None)
through o other test same iff = (λ yes. sym same ∙ iff.0 yes, λ none. iff.1 (same ∙ none))

number_iff : (o : Option ℕ) (op : ℕ) → IsTrue (is_number o op) ↔ (o ≡ Some op)
number_iff None op = (λ yes. absurd (false_true yes), λ is. absurd (no_number op is))
number_iff (Some number) op =
    (λ yes. ap Some (eqb-true number op yes), λ is. eq-eqb number op (some_number number op is))

pub next_iff : (past : List Line) (op : ℕ) (strand : Option ℕ) (first : ℕ → Option ℕ) → strand_of past op ≡ strand
    → ((s : ℕ) → first s ≡ first_of (ready_on past s).queue)
    → IsTrue (is_next_by (option_map first strand) op) ↔ IsNext past op
next_iff past op None first is same = (λ yes other on. absurd (no_number other (sym is ∙ on)), λ next. refl)
next_iff past op (Some strand) first is same = (
  λ yes other on. let e : strand ≡ other = some_number strand other (sym is ∙ on) in
      sym (same other) ∙ ap first (sym e) ∙ (number_iff (first strand) op).0 yes,
  λ next. (number_iff (first strand) op).1 (same strand ∙ next strand is),
)

context_is : (past : List Line) (op : ℕ) (waiter : Waiter) → Says past op waiter → context_of past op ≡ Some waiter.context
context_is past op waiter says = ap (λ (o : Option Calling). option_map (λ (call : Calling). call.context) o) says.called
    ∙ ap (λ (w : Waiter). Some w.context) says.is

pub allowed_iff : (past : List Line) (op : ℕ) (waiter : Waiter) → waiter_of past op ≡ Some waiter → (test : Bool)
    → IsTrue test ↔ (stopped_since past waiter.context ≡ None) → IsTrue test ↔ IsAllowed past op
allowed_iff past op waiter found test iff =
    let is : context_of past op ≡ Some waiter.context = context_is past op waiter (waiter_says past op waiter found) in (
      λ yes context on. let e : waiter.context ≡ context = some_number waiter.context context (sym is ∙ on) in
          ap (stopped_since past) (sym e) ∙ iff.0 yes,
      λ allowed. iff.1 (allowed waiter.context is),
    )

pub alone_iff : (ops : List ℕ) (test : Bool) → IsTrue test ↔ (first_of ops ≡ None) → IsTrue test ↔ (ops ≡ [])
alone_iff [] test iff = (λ yes. refl, λ none. iff.1 refl)
alone_iff (op ∷ ops) test iff = (λ yes. absurd (some_none op (iff.0 yes)), λ none. cc)
  where
    some_none : (n : ℕ) → Some n ≡ None → ⊥
    some_none n e = cc

above_iff : (last : Option ℕ) (op : ℕ) → IsTrue (is_above last op) ↔ IfSome last (λ n. n < op)
above_iff None op = (λ yes. tt, λ is. refl)
above_iff (Some last) op = (λ yes. ltb-true last op yes, λ is. lt-ltb last op is)

-- the rule of a drop
pub busy_breaks : (past : List Line) (op number : ℕ) → (number ≡ 0) ↔ ((thread : ℕ) → stack past thread ≡ [])
    → (number == 0) ≡ false → IsFinishing past op → ⊥
busy_breaks past op number iff busy finishing = both_ways (number == 0) busy (eq-eqb number 0 (iff.1 finishing.idle))

pub drop_judges : (past : List Line) (thread op number : ℕ) (last : Option ℕ)
    → (number ≡ 0) ↔ ((other : ℕ) → stack past other ≡ []) → (number == 0) ≡ true → last ≡ dropped_last past
    → (answer : Judged) → answer ≡ asked (is_above last op) rule.Finishing
    → JudgesStrictly past thread (doing.Drop op) answer
drop_judges past thread op number last iff idle is answer answer_is =
    subst (λ (a : Judged). JudgesStrictly past thread (doing.Drop op) a) (sym answer_is) (by_test (is_above last op) refl)
  where
    above : IsTrue (is_above last op) ↔ IfSome (dropped_last past) (λ n. n < op)
    above = subst (λ (o : Option ℕ). IsTrue (is_above last op) ↔ IfSome o (λ n. n < op)) is (above_iff last op)

    by_test : (b : Bool) → is_above last op ≡ b → JudgesStrictly past thread (doing.Drop op) (asked b rule.Finishing)
    by_test true e = record { idle = iff.0 (eqb-true number 0 idle); rising = above.0 e }
    by_test false e = λ (finishing : IsFinishing past op). both_ways (is_above last op) e (above.1 finishing.rising)
