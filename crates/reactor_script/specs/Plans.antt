-- Which calls of a scripted reactor fail.
use Rattle.std.specs.Prelude.{ℕ, ◌+◌, ◌==◌, List, Result, Ok, Err, Contains, filter, map}
use Rattle.asio_types.specs.declared.failure.Failed.{Failed}
use Rattle.asio_types.specs.declared.outside.SetupFault.{SetupFault}
use Rattle.asio_types.specs.declared.outside.SetupFault.TheVariants as setup_fault
use Rattle.asio_types.specs.Faults.{Plan, next_call, plan_called, plan_failed}
use Rattle.reactor_script.specs.declared.method.FailAt.{FailAt}
use Rattle.reactor_script.specs.declared.method.Method.{Method}
use Rattle.reactor_script.specs.declared.method.Method.TheVariants as method

abbrev pub method_number : Method → ℕ
method_number method.SetUp = 0
method_number method.Advance = 1
method_number method.ReadSome = 2
method_number method.WriteSome = 3

-- the numbers of the calls of a method that are to fail
abbrev pub calls_of : ℕ → List FailAt → List ℕ
calls_of number fails =
    map (λ (fail : FailAt). fail.nth) (filter (λ fail. method_number fail.method == number) fails)

-- for each method that can fail which of its calls do, how many there were, and how many failed
pub record Plans : Type 0 where
  pub set_up : Plan
  pub advance : Plan
  pub read_some : Plan
  pub write_some : Plan

-- nothing was called
abbrev pub first_plan : Method → List FailAt → Plan
first_plan method fails = record {
  fails = calls_of (method_number method) fails;
  calls = 0;
  faults = 0;
}

abbrev pub first_plans : List FailAt → Plans
first_plans fails =
    record {
      set_up = first_plan method.SetUp fails;
      advance = first_plan method.Advance fails;
      read_some = first_plan method.ReadSome fails;
      write_some = first_plan method.WriteSome fails;
    }

-- how many calls have failed
abbrev pub fault_count : Plans → ℕ
fault_count plans =
    plans.set_up.faults + plans.advance.faults + plans.read_some.faults + plans.write_some.faults

-- the next call is to fail
abbrev pub IsNamed : Plan → Type 0
IsNamed plan = Contains plan.fails (next_call plan.calls)

-- a plan after a call that answered this: a failure counts one fault
abbrev pub plan_after : {T : Type 0} → Result T Failed → Plan → Plan
plan_after (Ok value) plan = plan_called plan
plan_after (Err failed) plan = plan_failed plan

-- a plan after a `set_up` that answered this: want of memory is no fault
abbrev pub plan_after_setup : {T : Type 0} → Result T SetupFault → Plan → Plan
plan_after_setup (Ok value) plan = plan_called plan
plan_after_setup (Err setup_fault.Failed) plan = plan_failed plan
plan_after_setup (Err setup_fault.NoMemory) plan = plan_called plan
