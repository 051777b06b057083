-- One line more is followed.
use Rattle.std.proofs.Common.{◌≡◌, ℕ, List, ◌∷◌, refl, ap, ◌∙◌, length, Result, Ok, Err}
use Rattle.std.proofs.lemmas.Bool.{cond_both}
use Rattle.std.specs.Prelude.{true, false, ◌==◌, if◌then◌else◌, IfOk, Option, Some, None}
use Rattle.std.specs.Option.{option_map, option_or}
use Rattle.run_lines.specs.declared.line.Doing.{Doing}
use Rattle.run_lines.specs.declared.line.Doing.TheVariants as doing
use Rattle.run_lines.specs.declared.line.Line.{Line}
use Rattle.run_rules.specs.declared.frame.Frame.{Frame}
use Rattle.run_rules.specs.declared.level.Strictness.TheVariants.{Plain, Strict}
use Rattle.run_rules.specs.Calls.{Calling, call_in, call_of}
use Rattle.run_rules.specs.MayCome.{MayDo}
use Rattle.run_rules.specs.Stacks.{frame}
use Rattle.run_check.specs.After.{IsAfter, loose, plain}
use Rattle.run_overlaps.specs.declared.watch.Called.{Called}
use Rattle.run_overlaps.specs.declared.watch.Watch.{Watch}
use Rattle.run_overlaps.specs.Watching.{IsFirstIn, IsWatch, called_at, called_by, calls_after}

false_true : false ≡ true → ⊥
false_true e = cc

may_plain : (past : List Line) (thread : ℕ) (does : Doing) → MayDo loose past thread does → IsFirstIn past does → MayDo plain past thread does
may_plain past thread (doing.Call op word context strand thing) may first =
    record { is_new = may.is_new; single = λ stream other on. absurd (false_true on) }
may_plain past thread (doing.Begin op code size) may first = record {
  waiting = may.waiting;
  outcome = may.outcome;
  free = may.free;
  first = first;
}
may_plain past thread _ may first = may

calls_next : (who : Frame) (thread place : ℕ) (does : Doing) (op : ℕ) (found : Option Calling)
    → calls_after does op (option_map called_by found) ≡ option_map called_by (option_or (call_in who thread place does op) found)
calls_next who thread place (doing.Call number word context strand thing) op found =
    let made : Calling = record {
      word = word;
      context = context;
      strand = strand;
      thing = thing;
      caller = who;
      thread = thread;
      place = place;
    } in
    cond_both (number == op) (Some made) None
    (λ (o : Option Calling). (if number == op then Some (called_by made) else option_map called_by found)
    ≡ option_map called_by (option_or o found)) (λ here. rw here refl) (λ elsewhere. rw elsewhere refl)
calls_next who thread place _ op found = refl

pub watch_next : (past : List Line) (line : Line) (old new : Watch) → IsWatch past old
    → (MayDo loose past line.thread line.does → IsFirstIn past line.does)
    → (IsAfter past old.checker → MayDo loose past line.thread line.does × IsAfter (line ∷ past) new.checker)
    → ((op : ℕ) → called_at new.calls op ≡ calls_after line.does op (called_at old.calls op)) → IsWatch (line ∷ past) new
watch_next past line old new watch first steps calls =
    let stepped = steps watch.after in
    record {
      legal = (
        watch.legal,
        record {
          rules = may_plain past line.thread line.does stepped.0 (first stepped.0);
          strict = λ strict. let no : Plain ≡ Strict = strict in cc;
        },
      );
      after = stepped.1;
      calls = λ op.
          calls op ∙ ap (λ (found : Option Called). calls_after line.does op found) (watch.calls op)
          ∙ calls_next (frame past line.thread) line.thread (length past) line.does op (call_of past op);
    }

-- what a value gives, it gives wherever there is one
pub ok_more : {X E : Type 0} {P Q : X → Type 0} (answer : Result X E) → ((value : X) → P value → Q value)
    → IfOk answer P → IfOk answer Q
ok_more (Ok value) more known = more value known
ok_more (Err missing) more known = tt
