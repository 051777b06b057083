-- What one level asks of a line, and what each other one does.
use Rattle.std.proofs.Common.{◌≡◌, ℕ, List, ◌∷◌, refl, ap, subst, sym, ◌∙◌, inl, inr, ⊎_elim}
use Rattle.std.specs.Prelude.{◌↔◌, Bool, true, false, if◌then◌else◌, is_some, not, Option, Some, None, IsSome, IsTrue, MatchResult, Result, Ok, Err}
use Rattle.run_lines.specs.declared.line.Doing.{Doing}
use Rattle.run_lines.specs.declared.line.Doing.TheVariants as doing
use Rattle.run_lines.specs.declared.line.Line.{Line}
use Rattle.run_lines.specs.declared.word.Word.{Word}
use Rattle.run_rules.specs.declared.level.Level.{Level}
use Rattle.run_rules.specs.declared.level.Strictness.{Strictness}
use Rattle.run_rules.specs.declared.level.Strictness.TheVariants as strictness
use Rattle.run_rules.specs.declared.level.Strictness.TheVariants.{Plain}
use Rattle.run_rules.specs.declared.rule.Rule.{Rule}
use Rattle.run_rules.specs.declared.rule.Rule.TheVariants as rule
use Rattle.run_rules.specs.Breaks.{BreaksByDoing, BreaksRule}
use Rattle.run_rules.specs.MayCome.{IsSingle, MayCome, MayDo}
use Rattle.run_check.specs.After.{IsAfter, loose}
use Rattle.run_verdict.specs.declared.judge.Judge.{Judge}
use Rattle.run_verdict.specs.Judges.{BreaksOrder, HasJudged, IsFirstIn, IsInOrder, JudgesOrder, is_single}
use Rattle.run_rules.specs.Against.{IsPending}
use Rattle.run_rules.specs.Strict.{IsStrict}
use Rattle.run_check.specs.Judging.{asked}
use Rattle.run_check.specs.Strict.{IsStrictAfter, JudgesStrictly}
use Rattle.run_verdict.specs.Streams.{AreStreams, pending_in}
use Rattle.run_verdict.proofs.StreamLemmas.{pending_is, pending_none}

false_true : false ≡ true → ⊥
false_true e = cc

-- what may come may come where no order is asked, nor a look at streams
pub may_loose : (level : Level) (past : List Line) (thread : ℕ) (does : Doing) → MayDo level past thread does
    → MayDo loose past thread does
may_loose level past thread (doing.Call op word context strand thing) may =
    record { is_new = may.is_new; single = λ stream other on. absurd (false_true on) }
may_loose level past thread (doing.Begin op code size) may = record {
  waiting = may.waiting;
  outcome = may.outcome;
  free = may.free;
  first = λ strand first asked. cc;
}
may_loose level past thread _ may = may

-- what breaks a rule there breaks it at each level
pub breaks_level : (level : Level) (past : List Line) (thread : ℕ) (does : Doing) (broken : Rule)
    → BreaksByDoing loose past thread does broken
    → BreaksByDoing level past thread does broken
breaks_level level past thread (doing.Call op word context strand thing) rule.Single breaks =
    absurd (breaks.1 (λ stream other on. absurd (false_true on)))
breaks_level level past thread (doing.Begin op code size) rule.First breaks =
    absurd (breaks.3 (λ strand first asked. cc))
breaks_level level past thread _ _ breaks = breaks

single_by : (on : Bool) (found : Option ℕ) → on ≡ true → (if on then not (is_some found) else true) ≡ true → found ≡ None
single_by true None e is = refl
single_by true (Some op) e is = absurd (false_true is)
single_by false found e is = absurd (false_true e)

double_by : (on : Bool) (found : Option ℕ) → (if on then not (is_some found) else true) ≡ false → (on ≡ true) × IsSome found
double_by true None is = absurd (true_false is)
  where
    true_false : true ≡ false → ⊥
    true_false e = cc
double_by true (Some op) is = (refl, refl)
double_by false found is = absurd (true_false is)
  where
    true_false : true ≡ false → ⊥
    true_false e = cc

pub single_may : (level : Level) (past : List Line) (judge : Judge) → HasJudged level past judge → (thread : ℕ) (does : Doing)
    → MayDo loose past thread does
    → is_single judge does ≡ true → (level.strictness ≡ Plain → IsFirstIn past does) → MayDo level past thread does
single_may level past judge judged thread (doing.Call op word context strand thing) may is first = record {
  is_new = may.is_new;
  single = λ stream other on used of_thing waits same_word same_thing.
      pending_none past judge.streams word thing other (judged.streams on)
      (single_by judge.level.streams (pending_in judge.streams word thing) (ap (λ (l : Level). l.streams) judged.same_level
      ∙ on) is)
      (record {
        used = used;
        stream = subst (λ (o : Option ℕ). IsSome o) (sym of_thing) refl;
        waits = waits;
        same_word =
            same_word;
        same_thing = same_thing ∙ sym of_thing;
      });
}
single_may level past judge judged thread (doing.Begin op code size) may is first = record {
  waiting = may.waiting;
  outcome = may.outcome;
  free = may.free;
  first = λ strand other asked. first asked strand other refl;
}
single_may level past judge judged thread _ may is first = may

-- a rule of order is broken where all others are kept
first_breaks : (level : Level) (past : List Line) (thread : ℕ) (does : Doing) → MayDo loose past thread does
    → level.strictness ≡ Plain → (IsFirstIn past does → ⊥) → BreaksByDoing level past thread does rule.First
first_breaks level past thread (doing.Begin op code size) may asked not =
    (may.waiting, may.outcome, may.free, λ first. not (λ strand other level_is. first strand other asked))
first_breaks level past thread _ may asked not = absurd (not tt)

not_plain : (level : Level) → IsStrict level → level.strictness ≡ Plain → ⊥
not_plain level strict asked = differ (sym strict ∙ asked)
  where
    differ : strictness.Strict ≡ strictness.Plain → ⊥
    differ e = cc

order_breaks : (level : Level) (past : List Line) (judge : Judge) → HasJudged level past judge → (line : Line)
    → MayDo loose past line.thread line.does → is_single judge line.does ≡ true → (broken : Rule)
    → BreaksOrder level past line.thread line.does broken → BreaksRule level past line broken
order_breaks level past judge judged line may is broken breaks =
    ⊎_elim
    (λ first. inl (subst (λ (r : Rule). BreaksByDoing level past line.thread line.does r) (sym first.2)
    (first_breaks level past line.thread line.does may first.0 first.1)))
    (λ strictly. inr (record {
      strict = strictly.0;
      may = single_may level past judge judged line.thread line.does may is
          (λ asked. absurd (not_plain level strictly.0 asked));
      breaks = strictly.1;
    })) breaks

-- what is answered of the order answers of the line
pub order_judges : (level : Level) (past : List Line) (judge : Judge) → HasJudged level past judge → (line : Line)
    → MayDo loose past line.thread line.does → is_single judge line.does ≡ true → (answer : Result (Unit {0}) Rule)
    → JudgesOrder level past line.thread line.does answer
    → MatchResult answer (λ _. MayCome level past line) (λ broken. BreaksRule level past line broken)
order_judges level past judge judged line may is (Ok done) order =
    record { rules = single_may level past judge judged line.thread line.does may is order.0; strict = order.1 }
order_judges level past judge judged line may is (Err broken) order = order_breaks level past judge judged line may is broken order

-- the order that is asked, by the level

level_of : (level : Level) (past : List Line) (judge : Judge) → HasJudged level past judge → (kind : Strictness)
    → judge.level.strictness ≡ kind → level.strictness ≡ kind
level_of level past judge judged kind is = sym (ap (λ (l : Level). l.strictness) judged.same_level) ∙ is

pub loose_order : (level : Level) (past : List Line) (judge : Judge) → HasJudged level past judge → (thread : ℕ) (does : Doing)
    → judge.level.strictness ≡ strictness.Loose → IsInOrder level past thread does
loose_order level past judge judged thread does is =
    let here : level.strictness ≡ strictness.Loose = level_of level past judge judged strictness.Loose is in
    (λ asked. absurd (loose_plain (sym here ∙ asked)), λ strict. absurd (loose_strict (sym here ∙ strict)))
  where
    loose_plain : strictness.Loose ≡ strictness.Plain → ⊥
    loose_plain e = cc

    loose_strict : strictness.Loose ≡ strictness.Strict → ⊥
    loose_strict e = cc

pub plain_order : (level : Level) (past : List Line) (judge : Judge) → HasJudged level past judge → (thread : ℕ) (does : Doing)
    → judge.level.strictness ≡ strictness.Plain → (test : Bool) → IsTrue test ↔ IsFirstIn past does
    → JudgesOrder level past thread does (asked test rule.First)
plain_order level past judge judged thread does is true iff =
    let here : level.strictness ≡ strictness.Plain = level_of level past judge judged strictness.Plain is in
    (λ plain. iff.0 refl, λ strict. absurd (not_plain level strict here))
plain_order level past judge judged thread does is false iff =
    inl (level_of level past judge judged strictness.Plain is, λ first. false_true (iff.1 first), refl)

pub strict_order : (level : Level) (past : List Line) (judge : Judge) → HasJudged level past judge → (thread : ℕ) (does : Doing)
    → judge.level.strictness ≡ strictness.Strict → (answer : Result (Unit {0}) Rule)
    → (IsStrict level → JudgesStrictly past thread does answer) → JudgesOrder level past thread does answer
strict_order level past judge judged thread does is (Ok done) judges =
    let here : IsStrict level = level_of level past judge judged strictness.Strict is in
    (λ plain. absurd (not_plain level here plain), λ strict. judges here)
strict_order level past judge judged thread does is (Err broken) judges =
    let here : IsStrict level = level_of level past judge judged strictness.Strict is in inr (here, judges here)

pub not_strict : (level : Level) (past : List Line) (judge : Judge) → HasJudged level past judge
    → (judge.level.strictness ≡ strictness.Strict → ⊥) → IsStrict level → ⊥
not_strict level past judge judged not strict = not (ap (λ (l : Level). l.strictness) judged.same_level ∙ strict)

thing_is : (o : Option ℕ) → IsSome o → (stream : ℕ) × (o ≡ Some stream)
thing_is None is = absurd (false_true is)
thing_is (Some stream) is = (stream, refl)

double_breaks : (level : Level) (past : List Line) (word : Word) (thing : Option ℕ) (op : ℕ) → IsTrue level.streams
    → IsPending past word thing op
    → IsSingle level past word thing → ⊥
double_breaks level past word thing op on pending single =
    let found = thing_is thing pending.stream in
    single found.0 op on pending.used found.1 pending.waits pending.same_word (pending.same_thing ∙ found.1)

pub single_breaks : (level : Level) (past : List Line) (judge : Judge) → HasJudged level past judge
    → (thread : ℕ) (does : Doing) → MayDo loose past thread does
    → is_single judge does ≡ false → BreaksByDoing level past thread does rule.Single
single_breaks level past judge judged thread (doing.Call op word context strand thing) may is =
    let double = double_by judge.level.streams (pending_in judge.streams word thing) is in
    let on : IsTrue level.streams = sym (ap (λ (l : Level). l.streams) judged.same_level) ∙ double.0 in
    let found = thing_is (pending_in judge.streams word thing) double.1 in (
      may.is_new,
      double_breaks level past word thing found.0 on
          (pending_is past judge.streams word thing found.0 (judged.streams on) found.1),
    )
single_breaks level past judge judged thread _ may is = absurd (true_false is)
  where
    true_false : true ≡ false → ⊥
    true_false e = cc

-- a line that may come is followed

pub followed_all : (level : Level) (past : List Line) (line : Line) (old new : Judge) → HasJudged level past old
    → MayCome level past line
    → new.level ≡ old.level
    → (IsAfter past old.checker → MayDo loose past line.thread line.does → IsAfter (line ∷ past) new.checker)
    → (IsTrue level.streams → AreStreams past old.streams → AreStreams (line ∷ past) new.streams)
    → (IsStrict level → IsStrictAfter (line ∷ past) new.strict)
    → HasJudged level (line ∷ past) new
followed_all level past line old new judged may same checked streams strict = record {
  legal = (judged.legal, may);
  same_level = same ∙ judged.same_level;
  after = checked judged.after (may_loose level past line.thread line.does may.rules);
  streams = λ on. streams on (judged.streams on);
  strict = strict;
}

-- where streams aren't asked for
pub not_asked : (level : Level) (judge : Judge) → judge.level ≡ level → judge.level.streams ≡ false → IsTrue level.streams → ⊥
not_asked level judge same off on = false_true (sym off ∙ ap (λ (l : Level). l.streams) same ∙ on)
