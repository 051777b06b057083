-- When a handler begins, may initiate more, and ends (Asio reference, io_context::run; strand).
use Rattle.std.specs.Prelude.{◌≡◌, ◌<◌, ℕ, ◌+◌, ◌-◌, true, false, List, Option, Some, None}
use Rattle.std.specs.Option.{option_map}
use Rattle.io_rules.specs.declared.op.Phase.TheVariants as phase
use Rattle.io_rules.specs.declared.request.Marks.{Marks}
use Rattle.io_rules.specs.declared.spares.Spares.{Spares}
use Rattle.io_rules.specs.Ops.{is_at, is_ready, is_running, lane_at, op_at, phase_changed, with_phase, without}
use Rattle.io_rules.specs.Room.{at_op, grant_of, granted_in, more_granted, numbers_left, numbers_in, places_in}
use Rattle.io_rules.specs.Spares.{MayKeepAll, given_back, joined_spares, kept_for, no_spares}
use Rattle.io_rules.specs.State.{ContextState, Op, Phase}
use Rattle.io_rules.specs.Strands.{IsNext, begun_on, ended_on, is_last_on, on_lane, strand_forgotten, strand_freed}

-- while the context isn't stopped, a ready handler begins, on a strand the next one where none
-- executes; it can initiate at least one operation
pub record MayBegin (s : ContextState) (op : ℕ) (spares : Spares) : Type 0 where
  pub going : s.finishing ≡ false
  pub allowed : s.stopped ≡ false
  pub numbers : 0 < numbers_left s
  pub ready : is_at is_ready s.ops op ≡ true
  pub next : IsNext s.strands (lane_at s.ops op) op
  pub names : MayKeepAll s.names no_spares spares

abbrev pub after_begin : ℕ → Spares → ContextState → ContextState
after_begin op spares s = record s {
  promised = s.promised + (grant_of s + 1);
  room = s.room - grant_of s;
  ops = with_phase op (phase.Running true (grant_of s) spares) s.ops;
  names = kept_for op spares s.names;
  strands = on_lane (lane_at s.ops op) (begun_on op) s.strands;
}

abbrev pub spares_in : Phase → Spares
spares_in (phase.Running own grant spares) = spares
spares_in _ = no_spares

abbrev pub spares_of : Option Op → Spares
spares_of None = no_spares
spares_of (Some op) = spares_in op.phase

-- a handler that executes gets as much as when it began, behind what it has initiated
pub record MayGrant (s : ContextState) (op : ℕ) (spares : Spares) : Type 0 where
  pub going : s.finishing ≡ false
  pub runs : is_at is_running s.ops op ≡ true
  pub names : MayKeepAll s.names (spares_of (op_at s.ops op)) spares

abbrev pub granted_more : ℕ → Spares → Phase → Phase
granted_more more taken (phase.Running own grant spares) =
    phase.Running own (grant + more) (joined_spares spares taken)
granted_more more taken other = other

abbrev pub after_grant : ℕ → Spares → ContextState → ContextState
after_grant op spares s =
    let more = more_granted s (at_op granted_in s.ops op) in
    record s {
      promised = s.promised + more;
      room = s.room - more;
      ops = phase_changed op (λ it. granted_more more spares it.phase) s.ops;
      names = kept_for op spares s.names;
    }

abbrev pub marks_of : Option Op → Option Marks
marks_of None = None
marks_of (Some op) = Some op.marks

abbrev pub run_mark : List Op → ℕ → Option ℕ
run_mark ops n = option_map (λ marks. marks.run) (marks_of (op_at ops n))

abbrev pub drop_mark : List Op → ℕ → Option ℕ
drop_mark ops n = option_map (λ marks. marks.drop) (marks_of (op_at ops n))

-- it executes, and returns its own mark
pub record MayEnd (s : ContextState) (op mark : ℕ) : Type 0 where
  pub going : s.finishing ≡ false
  pub runs : is_at is_running s.ops op ≡ true
  pub returned : run_mark s.ops op ≡ Some mark

-- what it didn't use is free again, and its strand, if that was freed and it was the last
abbrev pub after_end : ℕ → ContextState → ContextState
after_end op s =
    let lane = lane_at s.ops op in
    let last = is_last_on s lane in
    let names = given_back (spares_of (op_at s.ops op)) s.names in
    record s {
      promised = s.promised - at_op numbers_in s.ops op;
      room = s.room + at_op places_in s.ops op;
      ops = without op s.ops;
      names = record names { strands = strand_freed last lane names.strands };
      strands = strand_forgotten last lane (on_lane lane ended_on s.strands);
    }
