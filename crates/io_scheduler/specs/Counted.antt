-- The numbers of a context.
use Rattle.std.specs.Prelude.{ℕ, ◌+◌, ◌-◌, ◌&&◌, min, nat_lt, not, Bool, false, true}
use Rattle.io_rules.specs.declared.limits.Limits.{Limits}
use Rattle.io_rules.specs.declared.name.Lane.{Lane}
use Rattle.io_rules.specs.Calls.{is_lane_gone}
use Rattle.io_rules.specs.Room.{most_numbers, numbers_left}
use Rattle.io_rules.specs.State.{ContextState}
use Rattle.io_scheduler.specs.declared.counts.Counts.{Counts}

abbrev pub counts_of : ContextState → Counts
counts_of s = record {
  limits = s.limits;
  next = s.next;
  promised = s.promised;
  room = s.room;
  holds = s.holds;
  stopped = s.stopped;
  clock = s.now;
}

abbrev pub left_of : Counts → ℕ
left_of c = most_numbers - (c.next + c.promised)

abbrev pub grant_in : Counts → ℕ
grant_in c = min c.limits.grant (min c.room (left_of c - 1))

abbrev pub new_counts : Limits → Counts
new_counts limits = record {
  limits = limits;
  next = 0;
  promised = 0;
  room = limits.operations;
  holds = 0;
  stopped = false;
  clock = 0;
}

-- from outside: a place is free, and a number, and the strand is there
abbrev pub may_post : ContextState → Lane → Bool
may_post s lane =
    nat_lt 0 s.room && nat_lt 0 (numbers_left s) && not (is_lane_gone s.names lane)

abbrev pub counts_stopped : Counts → Counts
counts_stopped c = record c { stopped = true }

abbrev pub counts_going : Counts → Counts
counts_going c = record c { stopped = false }
