-- How many operations wait for their handlers' execution, how many execute, and how many are pending on
-- streams.
use Rattle.std.specs.Prelude.{◌≡◌, ◌≤◌, ℕ, ◌+◌, ◌-◌, ◌==◌, ◌&&◌, ◌||◌, not, Bool, List, length, sum_by}
use Rattle.std.specs.List.{list_all}
use Rattle.io_rules.specs.declared.op.Op.{Op}
use Rattle.io_rules.specs.Ops.{is_ready, is_running}
use Rattle.io_rules.specs.Room.{one_if}
use Rattle.io_rules.specs.State.{ContextState}
use Rattle.io_rules.specs.Stopping.{is_out_of_work}
use Rattle.io_scheduler.specs.declared.tally.Tally.{Tally}
use Rattle.io_scheduler.specs.Streaming.{none_out, on_streams, out_in}

abbrev pub waiting_in : List Op → ℕ
waiting_in ops = sum_by (λ (op : Op). one_if (is_ready op.phase)) ops

abbrev pub running_in : List Op → ℕ
running_in ops = sum_by (λ (op : Op). one_if (is_running op.phase)) ops

-- no handler executes
abbrev pub is_idle : ContextState → Bool
is_idle s = list_all (λ op. not (is_running op.phase)) s.ops

-- a call of `run` returns: it is stopped, or nothing is left to do
abbrev pub is_over : ContextState → Bool
is_over s = s.stopped || is_out_of_work s

-- no handler executes, and no socket is in a system call
abbrev pub is_at_rest : ContextState → Bool
is_at_rest s = is_idle s && none_out s.streams

abbrev pub rests : Tally → Bool
rests t = (t.running == 0) && (t.out == 0)

-- these are all that have completed or are pending on streams
pub record IsTally (tally : Tally) (s : ContextState) : Type 0 where
  pub waiting : tally.waiting ≡ waiting_in s.ops
  pub running : tally.running ≡ running_in s.ops
  pub streaming : tally.streaming ≡ on_streams s.streams
  pub out : tally.out ≡ out_in s.streams
  pub few : length s.ops ≤ s.next

abbrev pub tally_called : Tally → Tally
tally_called t = record t { waiting = t.waiting + 1 }

abbrev pub tally_pended : Tally → Tally
tally_pended t = record t { streaming = t.streaming + 1 }

abbrev pub tally_begun : Tally → Tally
tally_begun t = record t { waiting = t.waiting - 1; running = t.running + 1 }

abbrev pub tally_ended : Tally → Tally
tally_ended t = record t { running = t.running - 1 }

abbrev pub tally_out : Tally → Tally
tally_out t = record t { out = t.out + 1 }

-- one more waits for its handler's execution, and no longer on a stream
abbrev pub tally_completed : Tally → Tally
tally_completed t = record t { waiting = t.waiting + 1; streaming = t.streaming - 1 }

abbrev pub tally_back : Tally → Tally
tally_back t = record t { out = t.out - 1 }
