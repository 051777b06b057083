-- Stopping, restarting and destroying a context (Asio reference, io_context::run, ::stop, ::restart,
-- ::~io_context; executor_work_guard). Once it is stopped no handler begins before it is restarted.
use Rattle.std.specs.Prelude.{◌≡◌, ℕ, ◌+◌, ◌==◌, ◌&&◌, ◌||◌, Bool, true, false, not, List, [], ◌∷◌, Option, Some, None}
use Rattle.std.specs.List.{list_all}
use Rattle.io_rules.specs.Changes.{is_out}
use Rattle.io_rules.specs.Executions.{drop_mark}
use Rattle.io_rules.specs.Ops.{is_running, without}
use Rattle.io_rules.specs.State.{ContextState, Op}

abbrev pub has_no_ops : List Op → Bool
has_no_ops [] = true
has_no_ops _ = false

-- no operation is left, and no guard
abbrev pub is_out_of_work : ContextState → Bool
is_out_of_work s = has_no_ops s.ops && (s.holds == 0)

pub record MayLeave (s : ContextState) : Type 0 where
  pub going : s.finishing ≡ false
  pub over : (s.stopped || is_out_of_work s) ≡ true

-- no handler executes, and no system call is under way
pub record IsAtRest (s : ContextState) : Type 0 where
  pub going : s.finishing ≡ false
  pub handlers : list_all (λ op. not (is_running op.phase)) s.ops ≡ true
  pub sockets : list_all (λ stream. not (is_out stream.out)) s.streams ≡ true

abbrev pub first_number : List Op → Option ℕ
first_number [] = None
first_number (op ∷ ops) = Some op.number

-- while the context is being destroyed, handlers are, by rising number
pub record MayDrop (s : ContextState) (op mark : ℕ) : Type 0 where
  pub finishing : s.finishing ≡ true
  pub least : first_number s.ops ≡ Some op
  pub returned : drop_mark s.ops op ≡ Some mark

abbrev pub after_leave : ContextState → ContextState
after_leave s = record s { stopped = true }

abbrev pub after_restart : ContextState → ContextState
after_restart s = record s { stopped = false }

abbrev pub after_finishing : ContextState → ContextState
after_finishing s = record s { finishing = true }

abbrev pub after_drop : ℕ → ContextState → ContextState
after_drop op s = record s { ops = without op s.ops; room = s.room + 1 }
