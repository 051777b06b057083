-- What the checker answers, by what it keeps.
use Rattle.std.specs.Prelude.{ℕ, Bool, true, false, ◌==◌, ◌&&◌, nat_lt, nat_le, not, if◌then◌else◌, Option, Some, None, Result, Ok, Err}
use Rattle.std.specs.Option.{option_map}
use Rattle.run_rules.specs.declared.rule.Rule.{Rule}
use Rattle.run_rules.specs.declared.rule.Rule.TheVariants as rule
use Rattle.run_check.specs.declared.waiting.CallKind.{CallKind}
use Rattle.run_check.specs.declared.waiting.CallKind.TheVariants as kind
use Rattle.run_check.specs.declared.waiting.Outcome.{Outcome}
use Rattle.run_check.specs.declared.waiting.Waiter.{Waiter}

abbrev pub Judged : Type 0
Judged = Result (Unit {0}) Rule

-- this rule, where the test fails
abbrev pub asked : Bool → Rule → Judged
asked true broken = Ok tt
asked false broken = Err broken

abbrev pub is_above : Option ℕ → ℕ → Bool
is_above None op = true
is_above (Some last) op = nat_lt last op

abbrev pub is_number : Option ℕ → ℕ → Bool
is_number None op = false
is_number (Some number) op = number == op

abbrev pub completion_judged : Option Waiter → Judged
completion_judged None = Err rule.Waiting
completion_judged (Some waiter) = by_kind waiter.kind waiter.outcome
  where
    by_kind : CallKind → Option Outcome → Judged
    by_kind kind.Posting outcome = Err rule.Asynchronous
    by_kind kind.Dispatch outcome = Err rule.Asynchronous
    by_kind kind.Asynchronous None = Ok tt
    by_kind kind.Asynchronous (Some outcome) = Err rule.DoneOnce

-- whether a strand that this thread holds, or nobody, lets an operation in
abbrev pub start_judged : Option ℕ → ℕ → Bool → Judged
start_judged None thread inside = Ok tt
start_judged (Some holder) thread inside = if holder == thread && inside then Ok tt else Err rule.Free

-- whether an operation is the first of a strand, unless somebody holds that
abbrev pub is_first_by : Option ℕ → Bool → Bool
is_first_by None later = not later
is_first_by (Some holder) later = true

abbrev pub end_judged : Option ℕ → ℕ → Bool → Judged
end_judged None op taken = Err rule.Innermost
end_judged (Some innermost) op taken = if innermost == op then (if taken then Err rule.Clean else Ok tt) else Err rule.Innermost

-- whether the first of a queue stands there since this entry or longer
abbrev pub is_upto : Option (ℕ × ℕ) → Option ℕ → Bool
is_upto None entry = false
is_upto (Some first) None = false
is_upto (Some first) (Some entry) = nat_le first.0 entry

-- the place since which it does, if so
abbrev pub place_upto : Option (ℕ × ℕ) → Option ℕ → Option ℕ
place_upto first entry = if is_upto first entry then option_map (λ (f : ℕ × ℕ). f.0) first else None

-- the strand that a begin lets in: its own, if this thread doesn't hold it
abbrev pub let_in_by : Option ℕ → Option ℕ → ℕ → Option ℕ
let_in_by None holder thread = None
let_in_by (Some strand) holder thread = if is_number holder thread then None else Some strand
