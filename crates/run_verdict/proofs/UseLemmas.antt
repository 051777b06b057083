-- What reads and writes of streams are pending behind a line.
use Rattle.std.proofs.Common.{◌≡◌, ℕ, ◌<◌, List, ◌∷◌, length, refl, arith}
use Rattle.std.proofs.lemmas.Bool.{eqb-true}
use Rattle.std.specs.Prelude.{Bool, true, false, ◌==◌, ◌||◌, if◌then◌else◌, Option, Some, None, IsSome}
use Rattle.std.specs.Option.{option_and_then, option_or}
use Rattle.run_lines.specs.declared.line.Doing.{Doing}
use Rattle.run_lines.specs.declared.line.Doing.TheVariants as doing
use Rattle.run_lines.specs.declared.line.Line.{Line}
use Rattle.run_rules.specs.declared.level.Level.{Level}
use Rattle.run_rules.specs.Stacks.{frame}
use Rattle.run_rules.specs.Calls.{Calling, call_of, is_begun, is_dropped}
use Rattle.run_rules.specs.MayCome.{MayDo}
use Rattle.run_rules.specs.Legal.{IsLegalSoFar}
use Rattle.run_check.specs.After.{is_spent}
use Rattle.run_check.proofs.StackLemmas.{begun_called, dropped_called}
use Rattle.run_verdict.specs.declared.uses.Way.{Way}
use Rattle.run_verdict.specs.Uses.{stream_in, use_after, use_of}

-- what wasn't called was neither begun nor dropped
pub uncalled_unspent : (level : Level) (past : List Line) → IsLegalSoFar level past → (op : ℕ) → (IsSome (call_of past op) → ⊥)
    → is_spent past op ≡ false
uncalled_unspent level past legal op uncalled = by_tests (is_begun past op) (is_dropped past op) refl refl
  where
    by_tests : (b d : Bool) → is_begun past op ≡ b → is_dropped past op ≡ d → (b || d) ≡ false
    by_tests true d begun dropped = absurd (uncalled (begun_called level past legal op begun))
    by_tests false true begun dropped = absurd (uncalled (dropped_called level past legal op dropped))
    by_tests false false begun dropped = refl

use_called : (how : Way) (b spent : Bool) (call : Calling) (found : Option Calling) → (b ≡ true → spent ≡ false)
    → (if spent then None else option_and_then (λ (c : Calling). stream_in how c.word c.thing)
    (option_or (if b then Some call else None) found))
    ≡ (if b then stream_in how call.word call.thing else
    (if spent then None else option_and_then (λ (c : Calling). stream_in how c.word c.thing) found))
use_called how true spent call found new = rw (new refl) refl
use_called how false spent call found new = refl

use_begun : (b x y : Bool) (o : Option ℕ) → (if (b || x) || y then None else o)
    ≡ (if b then None else (if x || y then None else o))
use_begun true x y o = refl
use_begun false x y o = refl

use_dropped : (b x y : Bool) (o : Option ℕ) → (if x || (b || y) then None else o)
    ≡ (if b then None else (if x || y then None else o))
use_dropped true true y o = refl
use_dropped true false y o = refl
use_dropped false x y o = refl

use_by_doing : (how : Way) (level : Level) (past : List Line) → IsLegalSoFar level past → (thread op : ℕ) (does : Doing)
    → MayDo level past thread does
    → use_of how (record { thread = thread; does = does } ∷ past) op ≡ use_after how does op (use_of how past op)
use_by_doing how level past legal thread op (doing.Call number word context strand thing) may =
    use_called how (number == op) (is_spent past op) (record {
      word = word;
      context = context;
      strand = strand;
      thing = thing;
      caller =
          frame past thread;
      thread = thread;
      place = length past;
    }) (call_of past op)
    (λ same. let e : number ≡ op = eqb-true number op same in
    uncalled_unspent level past legal op (λ called. let less : op < number = may.is_new op called in absurd (omega arith)))
use_by_doing how level past legal thread op (doing.Begin number code size) may =
    use_begun (number == op) (is_begun past op) (is_dropped past op)
    (option_and_then (λ (c : Calling). stream_in how c.word c.thing) (call_of past op))
use_by_doing how level past legal thread op (doing.Drop number) may =
    use_dropped (number == op) (is_begun past op) (is_dropped past op)
    (option_and_then (λ (c : Calling). stream_in how c.word c.thing) (call_of past op))
use_by_doing how level past legal thread op _ may = refl

pub use_of-next : (how : Way) (level : Level) (past : List Line) (line : Line) → IsLegalSoFar level past
    → MayDo level past line.thread line.does → (op : ℕ)
    → use_of how (line ∷ past) op ≡ use_after how line.does op (use_of how past op)
use_of-next how level past line legal may op = use_by_doing how level past legal line.thread op line.does may
