-- What is asked of two judges says which line stands against one that breaks a rule.
use Rattle.std.proofs.Common.{◌≡◌, ℕ, List, length, refl, ap, subst, sym, ◌∙◌, inl, inr, ⊎_elim}
use Rattle.std.proofs.lemmas.Bool.{and_parts, eqb-true, eq-eqb}
use Rattle.std.specs.Prelude.{◌↔◌, ◌⊎◌, Bool, true, false, ◌==◌, ◌&&◌, ◌||◌, not, Option, Some, None, IsSomeAnd, IsTrue}
use Rattle.std.specs.Option.{option_and_then}
use Rattle.run_lines.specs.declared.line.Doing.{Doing}
use Rattle.run_lines.specs.declared.line.Doing.TheVariants as doing
use Rattle.run_lines.specs.declared.line.Line.{Line}
use Rattle.run_lines.specs.declared.word.Word.{Word}
use Rattle.run_rules.specs.declared.frame.Frame.{Frame}
use Rattle.run_rules.specs.declared.frame.Frame.TheVariants.{Execution}
use Rattle.run_rules.specs.declared.level.Level.{Level}
use Rattle.run_rules.specs.declared.rule.Rule.{Rule}
use Rattle.run_rules.specs.declared.rule.Rule.TheVariants as rule
use Rattle.run_rules.specs.declared.taking.Resource.{Resource}
use Rattle.run_rules.specs.Against.{BeginsOnStrand, CallsPending, IsPending, IsUnderWay, StandsAgainst, StandsAgainstOp, StandsLongest, StopsContext, TakesElsewhere, TakesInside, TakesIt, calls, is_executing, op_of, taken_by}
use Rattle.run_rules.specs.Breaks.{BreaksByDoing, BreaksRule, BreaksStrictly, BreaksStrictRule}
use Rattle.run_rules.specs.Calls.{Waits, begins, context_of, strand_of}
use Rattle.run_rules.specs.MayCome.{IsSingle, MayDo}
use Rattle.run_rules.specs.Stacks.{frame}
use Rattle.run_rules.specs.Strict.{IsStrict, stopped_since}
use Rattle.run_rules.specs.Takings.{has_taken, is_taken_by, same_resource}
use Rattle.run_check.specs.Judging.{is_number}
use Rattle.run_verdict.specs.Doings.{begun_by, both_same, calls_some, is_drop, of_some}
use Rattle.run_verdict.specs.Search.{IsOfWaiting}

false_true : {X : Type 0} → false ≡ true → X
false_true e = absurd (differ e)
  where
    differ : false ≡ true → ⊥
    differ h = cc

none_some : {X : Type 0} (n : ℕ) → None ≡ Some n → X
none_some n e = absurd (differ e)
  where
    differ : None ≡ Some n → ⊥
    differ h = cc

some_same : (a b : ℕ) → Some a ≡ Some b → a ≡ b
some_same a b e = cc

join : (a b : Bool) → a ≡ true → b ≡ true → (a && b) ≡ true
join a b h k = rw (h, k) refl

-- a call of an operation that there may be

pub calls_some_is : (o : Option ℕ) (does : Doing) → IsTrue (calls_some does o) ↔ IsSomeAnd o (λ last. IsTrue (calls does last))
calls_some_is None does = (λ h. false_true h, λ h. absurd h)
calls_some_is (Some op) does = (λ h. h, λ h. h)

pub pending_called : (past : List Line) (op context : ℕ) (word : Word) (strand thing : Option ℕ) (found : Doing)
    (pending : Option ℕ) → ((other : ℕ) → (pending ≡ Some other) ↔ IsPending past word thing other)
    → IsTrue (calls_some found pending) ↔ CallsPending past (doing.Call op word context strand thing) found
pending_called past op context word strand thing found None is = (
  λ h. false_true h,
  λ h. none_some h.0 ((is h.0).1 h.1),
)
pending_called past op context word strand thing found (Some other) is = (
  λ h. (other, (is other).0 refl, h),
  λ h. subst (λ (n : ℕ). calls found n ≡ true) (sym (some_same other h.0 ((is h.0).1 h.1))) h.2,
)

pub pending_not : (past : List Line) (does found : Doing)
    → ((op : ℕ) (word : Word) (context : ℕ) (strand thing : Option ℕ) → does ≡ doing.Call op word context strand thing → ⊥)
    → IsTrue false ↔ CallsPending past does found
pending_not past (doing.Call op word context strand thing) found not = absurd (not op word context strand thing refl)
pending_not past _ found not = (λ h. false_true h, λ h. absurd h)

-- where a second use of a stream is found, streams are looked at
single_on : (level : Level) (past : List Line) (thread : ℕ) (does : Doing) → BreaksByDoing level past thread does rule.Single
    → IsTrue level.streams
single_on level past thread (doing.Call op word context strand thing) breaks = by_level level.streams refl
  where
    by_level : (b : Bool) → level.streams ≡ b → IsTrue level.streams
    by_level true e = e
    by_level false e = absurd (breaks.1 (λ stream other on. false_true (sym e ∙ on)))
single_on level past thread _ breaks = absurd breaks

not_strictly : (past : List Line) (thread : ℕ) (does : Doing) → BreaksStrictly past thread does rule.Single → ⊥
not_strictly past thread (doing.Begin op code size) breaks = breaks
not_strictly past thread (doing.Drop op) breaks = breaks
not_strictly past thread _ breaks = breaks

pub streams_on : (level : Level) (past : List Line) (line : Line) → BreaksRule level past line rule.Single → IsTrue level.streams
streams_on level past line breaks =
    ⊎_elim (λ broken. single_on level past line.thread line.does broken)
    (λ broken. absurd (not_strictly past line.thread line.does broken.breaks)) breaks

-- the last rule is one of strict runs
not_finishing : (level : Level) (past : List Line) (thread : ℕ) (does : Doing)
    → BreaksByDoing level past thread does rule.Finishing → ⊥
not_finishing level past thread (doing.Call op word context strand thing) breaks = breaks
not_finishing level past thread _ breaks = breaks

pub strict_on : (level : Level) (past : List Line) (line : Line) → BreaksRule level past line rule.Finishing → IsStrict level
strict_on level past line breaks =
    ⊎_elim (λ broken. absurd (not_finishing level past line.thread line.does broken)) (λ broken. broken.strict) breaks

-- an execution on a strand

begun_begins : (does : Doing) (op : ℕ) → begun_by does ≡ Some op → begins does op ≡ true
begun_begins (doing.Begin number code size) op is = eq-eqb number op (some_same number op is)
begun_begins _ op is = none_some op is

begins_begun : (does : Doing) (op : ℕ) → begins does op ≡ true → begun_by does ≡ Some op
begins_begun (doing.Begin number code size) op is = ap (λ (n : ℕ). Some n) (eqb-true number op is)
begins_begun _ op is = false_true is

pub begun_waits : (level : Level) (past : List Line) (thread : ℕ) (does : Doing) (op : ℕ) → begun_by does ≡ Some op
    → MayDo level past thread does → Waits past op
begun_waits level past thread (doing.Begin number code size) op is may =
    subst (λ (n : ℕ). Waits past n) (some_same number op is) may.waiting
begun_waits level past thread _ op is may = none_some op is

both_are : (one other : Option ℕ) → both_same one other ≡ true → (n : ℕ) × (one ≡ Some n) × (other ≡ Some n)
both_are (Some one) (Some other) is = (one, refl, ap (λ (n : ℕ). Some n) (sym (eqb-true one other is)))
both_are (Some one) None is = false_true is
both_are None other is = false_true is

are_both : (one other : Option ℕ) (n : ℕ) → one ≡ Some n → other ≡ Some n → both_same one other ≡ true
are_both (Some one) (Some other) n a b = eq-eqb one other (some_same one n a ∙ sym (some_same other n b))
are_both (Some one) None n a b = none_some n b
are_both None other n a b = none_some n a

pub on_strand : (past : List Line) (op : ℕ) (before : List Line) (does : Doing) (other : ℕ) (there same : Option ℕ)
    (executing : Bool) → begun_by does ≡ Some other → there ≡ strand_of before other → same ≡ strand_of past op
    → executing ≡ is_executing past other → IsTrue (both_same there same && executing) ↔ BeginsOnStrand past op before does
on_strand past op before does other there same executing begun there_is same_is executing_is = (
  λ h. let parts = and_parts (both_same there same) executing h in
      let number = both_are there same parts.0 in
      record {
        other = other;
        strand = number.0;
        begins = begun_begins does other begun;
        goes_on = sym executing_is ∙ parts.1;
        there = sym there_is ∙ number.1;
        same = sym same_is ∙ number.2;
      },
  λ h. let here : other ≡ h.other = some_same other h.other (sym begun ∙ begins_begun does h.other h.begins) in
      join (both_same there same) executing
      (are_both there same h.strand (there_is ∙ ap (strand_of before) here ∙ h.there) (same_is ∙ h.same))
      (executing_is ∙ ap (is_executing past) here ∙ h.goes_on),
)

pub not_begun : (past : List Line) (op : ℕ) (before : List Line) (does : Doing) → begun_by does ≡ None
    → IsTrue false ↔ BeginsOnStrand past op before does
not_begun past op before does none = (
  λ h. false_true h,
  λ h. none_some h.other (sym none ∙ begins_begun does h.other h.begins),
)

-- the place of the one that stands longest

pub longest_here : (past : List Line) (op : ℕ) (found : Option ℕ)
    → ((place : ℕ) → (found ≡ Some place) ↔ StandsLongest past op place) → (n place : ℕ) → n ≡ place
    → IsTrue (is_number found n) ↔ StandsLongest past op place
longest_here past op None is n place same = (λ h. false_true h, λ h. none_some place ((is place).1 h))
longest_here past op (Some first) is n place same = (
  λ h. (is place).0 (ap (λ (k : ℕ). Some k) (eqb-true first n h ∙ same)),
  λ h. eq-eqb first n (some_same first place ((is place).1 h) ∙ sym same),
)

-- what is taken

pub inside : (past : List Line) (op : ℕ) (before : List Line) (found : Line) (resource : Resource) (here kept : Bool)
    → taken_by found.does ≡ Some resource → IsTrue here ↔ (frame before found.thread ≡ Execution op)
    → kept ≡ is_taken_by past found.thread (Execution op) resource → IsTrue (here && kept) ↔ TakesInside past op before found
inside past op before found resource here kept takes here_is kept_is = (
  λ h. let parts = and_parts here kept h in
      record {
        inside = here_is.0 parts.0;
        kept = subst (λ (o : Option Resource). IsSomeAnd o (λ r. IsTrue (is_taken_by past found.thread (Execution op) r)))
            (sym takes) (sym kept_is ∙ parts.1);
      },
  λ h. join here kept (here_is.1 h.inside) (kept_is
      ∙ subst (λ (o : Option Resource). IsSomeAnd o (λ r. IsTrue (is_taken_by past found.thread (Execution op) r))) takes h.kept),
)

pub here_is : (test : Bool) (who here : Frame) (op : ℕ) → IsTrue test ↔ (who ≡ Execution op) → who ≡ here
    → IsTrue test ↔ (here ≡ Execution op)
here_is test who here op is same = (λ h. sym same ∙ is.0 h, λ h. is.1 (same ∙ h))

pub not_inside : (past : List Line) (op : ℕ) (before : List Line) (found : Line) → taken_by found.does ≡ None
    → IsTrue false ↔ TakesInside past op before found
not_inside past op before found none = (
  λ h. false_true h,
  λ h. absurd
      (subst (λ (o : Option Resource). IsSomeAnd o (λ r. IsTrue (is_taken_by past found.thread (Execution op) r))) none h.kept),
)

differ_is : (a b : ℕ) → not (a == b) ≡ true → a ≡ b → ⊥
differ_is a b h e = both_ways (a == b) h (eq-eqb a b e)
  where
    both_ways : (t : Bool) → not t ≡ true → t ≡ true → ⊥
    both_ways true h k = false_true h
    both_ways false h k = false_true k

is_differ : (a b : ℕ) → (a ≡ b → ⊥) → not (a == b) ≡ true
is_differ a b other = by_test (a == b) refl
  where
    by_test : (t : Bool) → (a == b) ≡ t → not t ≡ true
    by_test true e = absurd (other (eqb-true a b e))
    by_test false e = refl

pub elsewhere : (past : List Line) (thread : ℕ) (resource other : Resource) (found : Line) (same kept : Bool)
    → taken_by found.does ≡ Some other → IsTrue same ↔ IsTrue (same_resource other resource)
    → kept ≡ has_taken past found.thread resource
    → IsTrue (same && (not (found.thread == thread) && kept)) ↔ TakesIt past thread resource found
elsewhere past thread resource other found same kept takes same_is kept_is = (
  λ h. let parts = and_parts same (not (found.thread == thread) && kept) h in
      let more = and_parts (not (found.thread == thread)) kept parts.1 in
      record {
        takes = subst (λ (o : Option Resource). IsSomeAnd o (λ r. IsTrue (same_resource r resource))) (sym takes)
            (same_is.0 parts.0);
        elsewhere = differ_is found.thread thread more.0;
        kept = sym kept_is ∙ more.1;
      },
  λ h. join same (not (found.thread == thread) && kept)
      (same_is.1 (subst (λ (o : Option Resource). IsSomeAnd o (λ r. IsTrue (same_resource r resource))) takes h.takes))
      (join (not (found.thread == thread)) kept (is_differ found.thread thread h.elsewhere) (kept_is ∙ h.kept)),
)

pub not_elsewhere : (past : List Line) (thread : ℕ) (resource : Resource) (found : Line) → taken_by found.does ≡ None
    → IsTrue false ↔ TakesIt past thread resource found
not_elsewhere past thread resource found none = (
  λ h. false_true h,
  λ h. absurd (subst (λ (o : Option Resource). IsSomeAnd o (λ r. IsTrue (same_resource r resource))) none h.takes),
)

pub takes_some : (past : List Line) (thread : ℕ) (does : Doing) (found : Line) (resource : Resource) (test : Bool)
    → taken_by does ≡ Some resource → IsTrue test ↔ TakesIt past thread resource found
    → IsTrue test ↔ TakesElsewhere past thread does found
takes_some past thread does found resource test takes is =
    subst (λ (o : Option Resource). IsTrue test ↔ IsSomeAnd o (λ r. TakesIt past thread r found)) (sym takes) is

pub takes_none : (past : List Line) (thread : ℕ) (does : Doing) (found : Line) → taken_by does ≡ None
    → IsTrue false ↔ TakesElsewhere past thread does found
takes_none past thread does found none = (
  λ h. false_true h,
  λ h. absurd (subst (λ (o : Option Resource). IsSomeAnd o (λ r. TakesIt past thread r found)) none h),
)

-- rules that speak of one operation

plainly_waits : (level : Level) (past : List Line) (thread : ℕ) (does : Doing) (broken : Rule) (op : ℕ) → op_of does ≡ Some op
    → BreaksByDoing level past thread does broken → IsOfWaiting level past op broken
plainly_waits level past thread (doing.Begin number code size) rule.Free op is breaks =
    subst (λ (n : ℕ). Waits past n) (some_same number op is) breaks.0
plainly_waits level past thread (doing.Begin number code size) rule.First op is breaks =
    subst (λ (n : ℕ). Waits past n) (some_same number op is) breaks.0
plainly_waits level past thread _ rule.Free op is breaks = absurd breaks
plainly_waits level past thread _ rule.First op is breaks = absurd breaks
plainly_waits level past thread _ rule.Order op is breaks = absurd breaks
plainly_waits level past thread _ rule.Stopped op is breaks = absurd breaks
plainly_waits level past thread does _ op is breaks = tt

strictly_waits : (level : Level) (past : List Line) (thread : ℕ) (does : Doing) (broken : Rule) (op : ℕ) → op_of does ≡ Some op
    → BreaksStrictRule level past thread does broken → IsOfWaiting level past op broken
strictly_waits level past thread (doing.Begin number code size) rule.Order op is breaks =
    (subst (λ (n : ℕ). Waits past n) (some_same number op is) breaks.may.waiting, breaks.strict)
strictly_waits level past thread (doing.Begin number code size) rule.Stopped op is breaks =
    (subst (λ (n : ℕ). Waits past n) (some_same number op is) breaks.may.waiting, breaks.strict)
strictly_waits level past thread (doing.Begin number code size) rule.Free op is breaks = absurd breaks.breaks
strictly_waits level past thread (doing.Begin number code size) rule.First op is breaks = absurd breaks.breaks
strictly_waits level past thread (doing.Drop number) rule.Free op is breaks = absurd breaks.breaks
strictly_waits level past thread (doing.Drop number) rule.First op is breaks = absurd breaks.breaks
strictly_waits level past thread (doing.Drop number) rule.Order op is breaks = absurd breaks.breaks
strictly_waits level past thread (doing.Drop number) rule.Stopped op is breaks = absurd breaks.breaks
strictly_waits level past thread _ rule.Free op is breaks = absurd breaks.breaks
strictly_waits level past thread _ rule.First op is breaks = absurd breaks.breaks
strictly_waits level past thread _ rule.Order op is breaks = absurd breaks.breaks
strictly_waits level past thread _ rule.Stopped op is breaks = absurd breaks.breaks
strictly_waits level past thread does _ op is breaks = tt

pub waits_of : (level : Level) (past : List Line) (line : Line) (broken : Rule) (op : ℕ) → op_of line.does ≡ Some op
    → BreaksRule level past line broken → IsOfWaiting level past op broken
waits_of level past line broken op is breaks =
    ⊎_elim (λ plainly. plainly_waits level past line.thread line.does broken op is plainly)
    (λ strictly. strictly_waits level past line.thread line.does broken op is strictly) breaks

-- an operation that there may be, and the place of a line that stops a context

pub of_some_is : (test : ℕ → Bool) (o other : Option ℕ) → o ≡ other
    → IsTrue (of_some test o) ↔ IsSomeAnd other (λ n. IsTrue (test n))
of_some_is test o other same =
    subst (λ (p : Option ℕ). IsTrue (of_some test o) ↔ IsSomeAnd p (λ n. IsTrue (test n))) same (at o)
  where
    at : (p : Option ℕ) → IsTrue (of_some test p) ↔ IsSomeAnd p (λ n. IsTrue (test n))
    at None = (λ h. false_true h, λ h. absurd h)
    at (Some op) = (λ h. h, λ h. h)

stops_by : (past : List Line) (context : Option ℕ) (n place : ℕ) → n ≡ place
    → IsTrue (is_number (option_and_then (stopped_since past) context) n)
    ↔ IsSomeAnd context (λ c. IsSomeAnd (stopped_since past c) (λ since. since ≡ place))
stops_by past None n place same = (λ h. false_true h, λ h. absurd h)
stops_by past (Some context) n place same = by_place (stopped_since past context)
  where
    by_place : (o : Option ℕ) → IsTrue (is_number o n) ↔ IsSomeAnd o (λ since. since ≡ place)
    by_place None = (λ h. false_true h, λ h. absurd h)
    by_place (Some since) = (λ h. eqb-true since n h ∙ same, λ h. eq-eqb since n (h ∙ sym same))

pub stops_is : (past : List Line) (op : ℕ) (found : Option ℕ) (n place : ℕ)
    → found ≡ option_and_then (stopped_since past) (context_of past op) → n ≡ place
    → IsTrue (is_number found n) ↔ StopsContext past op place
stops_is past op found n place is same =
    subst (λ (o : Option ℕ). IsTrue (is_number o n) ↔ StopsContext past op place) (sym is)
    (stops_by past (context_of past op) n place same)

pub under_way : (past : List Line) (does found : Doing) (other : ℕ) (executing : Bool) → begun_by found ≡ Some other
    → executing ≡ is_executing past other → IsTrue (is_drop does && executing) ↔ IsUnderWay past does found
under_way past (doing.Drop op) found other executing begun is = (
  λ h. (other, begun_begins found other begun, sym is ∙ h),
  λ h. let here : other ≡ h.0 = some_same other h.0 (sym begun ∙ begins_begun found h.0 h.1) in
      is ∙ ap (is_executing past) here ∙ h.2,
)
under_way past _ found other executing begun is = (λ h. false_true h, λ h. absurd h)

pub not_under_way : (past : List Line) (does found : Doing) → begun_by found ≡ None → IsTrue false ↔ IsUnderWay past does found
not_under_way past (doing.Drop op) found none = (
  λ h. false_true h,
  λ h. none_some h.0 (sym none ∙ begins_begun found h.0 h.1),
)
not_under_way past _ found none = (λ h. false_true h, λ h. absurd h)

pub either_is : {P Q : Type 0} (one other : Bool) → IsTrue one ↔ P → IsTrue other ↔ Q → IsTrue (one || other) ↔ (P ⊎ Q)
either_is true other p q = (λ h. inl (p.0 refl), λ h. refl)
either_is false other p q = (λ h. inr (q.0 h), λ h. ⊎_elim (λ is. false_true (p.1 is)) (λ is. q.1 is) h)

pub by_op : (past : List Line) (line : Line) (broken : Rule) (before : List Line) (found : Line) (test : Bool)
    → (broken ≡ rule.Single → ⊥) → (broken ≡ rule.Untouched → ⊥) → (broken ≡ rule.Unlocked → ⊥)
    → (broken ≡ rule.Finishing → ⊥)
    → IsTrue test ↔ IsSomeAnd (op_of line.does) (λ op. StandsAgainstOp past line.thread op broken before found)
    → IsTrue test ↔ StandsAgainst past line broken before found
by_op past line rule.Single before found test a b c d is = absurd (a refl)
by_op past line rule.Untouched before found test a b c d is = absurd (b refl)
by_op past line rule.Unlocked before found test a b c d is = absurd (c refl)
by_op past line rule.Finishing before found test a b c d is = absurd (d refl)
by_op past line _ before found test a b c d is = is

pub by_some : (past : List Line) (line : Line) (broken : Rule) (before : List Line) (found : Line) (test : Bool) (op : ℕ)
    → op_of line.does ≡ Some op → IsTrue test ↔ StandsAgainstOp past line.thread op broken before found
    → IsTrue test ↔ IsSomeAnd (op_of line.does) (λ n. StandsAgainstOp past line.thread n broken before found)
by_some past line broken before found test op names is =
    subst (λ (o : Option ℕ). IsTrue test ↔ IsSomeAnd o
    (λ n. StandsAgainstOp past line.thread n broken before found)) (sym names) is

pub by_none : (past : List Line) (line : Line) (broken : Rule) (before : List Line) (found : Line) → op_of line.does ≡ None
    → IsTrue false ↔ IsSomeAnd (op_of line.does) (λ n. StandsAgainstOp past line.thread n broken before found)
by_none past line broken before found none = (
  λ h. false_true h,
  λ h. absurd (subst (λ (o : Option ℕ). IsSomeAnd o (λ n. StandsAgainstOp past line.thread n broken before found)) none h),
)
