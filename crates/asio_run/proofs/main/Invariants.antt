use Rattle.std.proofs.Common.{◌≡◌, ◌+◌, ◌≤◌, length}
use Rattle.op_handlers.specs.Handler.{marks_of}
use Rattle.op_handlers.specs.Marks.{fixed}
use Rattle.op_handlers.specs.Rack.{HaveMarks}
use Rattle.session_script.specs.Limits.{most_acts}
use Rattle.asio_run.proofs.main.Given as goal

abbrev pub invariant-loop-n : goal.invariant-loop-n
invariant-loop-n g l = record {
  room : most_acts ≤ l.handlers.cap;
  count : length l.handlers.items ≡ l.n;
  marks : HaveMarks marks_of (λ n. fixed (record { run = 1000 + n; drop = 1000 + n })) l.handlers.items;
}
